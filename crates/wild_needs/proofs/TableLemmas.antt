-- How many entries `.symtab` has of symbols, and how many bytes their names have.
use Rattle.std.proofs.Common.{◌≡◌, ◌+◌, ◌-◌, ◌^◌, ◌<◌, inl, inr, min, Bool, List, [], ◌∷◌, ◌++◌, length, map, refl, ap, arith, Ok}
use Rattle.std.specs.declared.convert.Infallible.{Infallible}
use Rattle.std.proofs.lemmas.Bool.{cases_Bool}
use Rattle.std.proofs.lemmas.List.{length-append}
use Rattle.wild_types.specs.declared.symbol.Symbol.{Symbol}
use Rattle.wild_types.specs.Lists.{total}
use Rattle.wild_needs.specs.declared.table.SymtabName.{SymtabName}
use Rattle.wild_needs.specs.declared.table.TablePart.{TablePart}
use Rattle.wild_needs.specs.declared.table.TablePart.TheVariants.{Entries, Strings}
use Rattle.wild_needs.specs.declared.table.Count.{Count}
use Rattle.wild_needs.specs.DynamicStrings.{text_room}
use Rattle.wild_needs.specs.TableSymbols.{TableSymbol, item_name, is_on_side, side, prefix, suffix, full_name}
use Rattle.wild_needs.specs.TableCounts.{taken, Counts}
use Rattle.wild_words.specs.Runs.{SinkRun, none, more}

-- a name's bytes, with the zero behind it
pub name_room : (named : SymtabName) (s : Symbol) → text_room (full_name named s.name) ≡ text_room s.name + (length (prefix named) + length (suffix named))
name_room named s =
    let a = length-append (prefix named) (s.name ++ suffix named) in
    let b = length-append s.name (suffix named) in
    omega (arith, a, b)

-- one symbol counted is a run
pub count_one : {refuses : Count → TableSymbol → Infallible → Count → Type 0} (a b : Count) (x : TableSymbol) → b.sum ≡ min (2 ^ 64 - 1) (a.sum + taken a.part x) → b.part ≡ a.part → SinkRun Counts refuses a (x ∷ []) (Ok tt) b
count_one a b x e s = more (record { added = e; same = s }) none

-- what is counted of symbols one after another is the sum of what is taken, at most 2^64 - 1
pub counted : {refuses : Count → TableSymbol → Infallible → Count → Type 0} {a b : Count} {xs : List TableSymbol} {u : Unit {0}} → SinkRun Counts refuses a xs (Ok u) b → a.sum < 2 ^ 64 → b.sum ≡ min (2 ^ 64 - 1) (a.sum + total (taken a.part) xs)
counted {a = a} none low = omega arith
counted {a = a} {b = c} (more {b = b} {x = x} {xs = xs} h t) low =
    let added = h.added in
    let rest : c.sum ≡ min (2 ^ 64 - 1) (b.sum + total (taken b.part) xs) = counted t (omega arith) in
    let same : total (taken b.part) xs ≡ total (taken a.part) xs = ap (λ (p : TablePart). total (taken p) xs) h.same in
    omega (arith, rest, same, added)

pub ruleset counts = (count_one, counted)

-- a side's entries
pub sides_taken : (local : Bool) (xs : List TableSymbol) → total (taken (Entries local)) xs ≡ length (side local xs)
sides_taken local [] = refl
sides_taken local (x ∷ xs) =
    let rest = sides_taken local xs in
    elim (cases_Bool (is_on_side local x)) [
      | inl t ↦ rw t (omega (arith, rest))
      | inr f ↦ rw f (omega (arith, rest))
    ]

-- the bytes of names
pub strings_taken : (xs : List TableSymbol) → total (taken Strings) xs ≡ total text_room (map item_name xs)
strings_taken [] = refl
strings_taken (x ∷ xs) = let rest = strings_taken xs in rw rest refl
