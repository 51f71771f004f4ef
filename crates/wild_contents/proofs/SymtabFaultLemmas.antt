-- The first fault of the symbols of `.symtab`.
use Rattle.std.proofs.Common.{◌≡◌, ℕ, ◌+◌, false, List, [], ◌∷◌, ◌++◌, refl, sym, ap, ◌∙◌, subst, Result, Ok, Err}
use Rattle.std.specs.List.{flat_map}
use Rattle.wild_types.specs.declared.fault.Error.{Error}
use Rattle.wild_types.specs.declared.file.File.{File}
use Rattle.wild_types.specs.declared.layout.Layout.{Layout}
use Rattle.wild_types.specs.Faults.{Answers, Refuses}
use Rattle.wild_words.specs.Runs.{SinkRun, none, more, stop}
use Rattle.wild_needs.specs.TableSymbols.{TableSymbol, file_items}
use Rattle.wild_types.specs.Lookups.{has_symtab}
use Rattle.wild_layout.specs.Faults.{flat_map_from, table_error, table_errors}
use Rattle.wild_contents.specs.Walks.{SymtabCheckState, Passes, Lacks}
use Rattle.wild_sections.proofs.FaultLemmas.{Refuses-front, Refuses-after}

pub pass_one : (a : SymtabCheckState) (x : TableSymbol) → table_error a.layout a.at a.file x ≡ [] → SinkRun Passes Lacks a (x ∷ []) (Ok tt) a
pass_one a x h = more (h, refl) none

pub lack_one : (a : SymtabCheckState) (x : TableSymbol) (e : Error) → Refuses e (table_error a.layout a.at a.file x) → SinkRun Passes Lacks a (x ∷ []) (Err e) a
lack_one a x e h = stop h

pub ruleset looks = (pass_one, lack_one)

-- the faults of symbols that were looked at
abbrev errors_of : SymtabCheckState → List TableSymbol → List Error
errors_of a xs = flat_map (table_error a.layout a.at a.file) xs

passed : {a b : SymtabCheckState} {xs : List TableSymbol} {u : Unit {0}} → SinkRun Passes Lacks a xs (Ok u) b → errors_of a xs ≡ []
passed none = refl
passed {a = a} (more {b = b} {x = x} {xs = xs} h t) = ap (λ (es : List Error). es ++ errors_of a xs) h.0 ∙ ap (λ (c : SymtabCheckState). errors_of c xs) (sym h.1) ∙ passed t

lacked : {a b : SymtabCheckState} {xs : List TableSymbol} {e : Error} → SinkRun Passes Lacks a xs (Err e) b → Refuses e (errors_of a xs)
lacked {a = a} {e = e} (stop {x = x} {xs = xs} h) = Refuses-front e (table_error a.layout a.at a.file x) (errors_of a xs) h
lacked {a = a} {e = e} (more {b = b} {x = x} {xs = xs} h t) = Refuses-after e (table_error a.layout a.at a.file x) (errors_of a xs) h.0 (subst (λ (c : SymtabCheckState). Refuses e (errors_of c xs)) h.1 (lacked t))

pub looked : (a b : SymtabCheckState) (xs : List TableSymbol) (r : Result (Unit {0}) Error) → SinkRun Passes Lacks a xs r b → Answers r (flat_map (table_error a.layout a.at a.file) xs)
looked a b xs (Ok u) run = passed run
looked a b xs (Err e) run = lacked run

-- an output without the table has no faults of it
pub no_table : (l : Layout) (group n : ℕ) (fs : List File) → has_symtab l ≡ false → flat_map_from (table_errors l group) n fs ≡ []
unfolding table_errors file_items
no_table l group n [] h = refl
no_table l group n (f ∷ fs) h = let rest = no_table l group (n + 1) fs h in rw h rest
