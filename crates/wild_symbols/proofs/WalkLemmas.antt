-- The walk over the sections that have symbols.
use Rattle.std.proofs.Common.{◌≡◌, ℕ, ◌+◌, ◌<◌, ◌≤◌, Bool, true, false, List, [], ◌∷◌, ◌++◌, length, drop, get_or, if◌then◌else◌, refl, sym, ap, ◌∙◌, subst, arith, Ok, Err, Result}
use Rattle.std.specs.List.{flat_map}
use Rattle.std.proofs.lemmas.List.{drop_more, drop_all}
use Rattle.std.proofs.lemmas.Grind.{flat_map-append}
use Rattle.wild_types.specs.declared.section.Section.{Section}
use Rattle.wild_types.specs.declared.file.File.{File}
use Rattle.wild_types.specs.declared.file.Group.{Group}
use Rattle.wild_types.specs.declared.layout.Layout.{Layout}
use Rattle.wild_types.specs.Lookups.{files_of}
use Rattle.wild_words.specs.Runs.{SinkRun, RestOfWalk}
use Rattle.wild_needs.specs.TableSymbols.{marked_sections, singleton_sections}
use Rattle.wild_words.proofs.RunLemmas.{left_all, left_next, left_out, left_done}
use Rattle.wild_symbols.specs.SectionWalk.{singletons_in, singletons_in_groups}

-- what lists of lists give, list by list
pub flat_in_turn : {X Y Z : Type 0} (f : Y → List Z) (g : X → List Y) (xs : List X) → flat_map (λ (x : X). flat_map f (g x)) xs ≡ flat_map f (flat_map g xs)
flat_in_turn f g [] = refl
flat_in_turn {X} {Y} {Z} f g (x ∷ xs) = ap (λ (zs : List Z). flat_map f (g x) ++ zs) (flat_in_turn f g xs) ∙ sym (flat_map-append f (g x) (flat_map g xs))

pub alone_is : (l : Layout) → singletons_in_groups l ≡ singleton_sections l
alone_is l = flat_in_turn singletons_in (λ (g : Group). g.files) l.groups

one_asked : (b : Bool) (k : ℕ) (ks : List ℕ) → (if b then k ∷ ks else ks) ≡ (if b then k ∷ [] else []) ++ ks
one_asked true k ks = refl
one_asked false k ks = refl

asked_drop : (i : ℕ) (ss : List Section) (s : Section) → i < length ss → s ≡ get_or ss i s → marked_sections i (drop i ss) ≡ (if s.section_symbol then i ∷ [] else []) ++ marked_sections (i + 1) (drop (i + 1) ss)
asked_drop i ss s low read = ap (marked_sections i) (drop_more ss i s low ∙ ap (λ (x : Section). x ∷ drop (i + 1) ss) (sym read)) ∙ one_asked s.section_symbol i (marked_sections (i + 1) (drop (i + 1) ss))

module _ {S E : Type 0} {goes : S → ℕ → S → Type 0} {refuses : S → ℕ → E → S → Type 0} where
  pub asked_all : (a : S) (ss : List Section) → RestOfWalk goes refuses a (marked_sections 0 ss) a (marked_sections 0 (drop 0 ss))
  asked_all a ss = left_all a (marked_sections 0 ss)

  pub asked_next : {a b c : S} {all : List ℕ} {u : Unit {0}} (i : ℕ) (ss : List Section) (s : Section) → i < length ss → s ≡ get_or ss i s
      → RestOfWalk goes refuses a all b (marked_sections i (drop i ss)) → SinkRun goes refuses b (if s.section_symbol then i ∷ [] else []) (Ok u) c → RestOfWalk goes refuses a all c (marked_sections (i + 1) (drop (i + 1) ss))
  asked_next {a = a} {b = b} {all = all} i ss s low read h t = left_next (subst (λ (xs : List ℕ). RestOfWalk goes refuses a all b xs) (asked_drop i ss s low read) h) t

  pub asked_out : {a b c : S} {all : List ℕ} {e : E} (i : ℕ) (ss : List Section) (s : Section) → i < length ss → s ≡ get_or ss i s
      → RestOfWalk goes refuses a all b (marked_sections i (drop i ss)) → SinkRun goes refuses b (if s.section_symbol then i ∷ [] else []) (Err e) c → SinkRun goes refuses a all (Err e) c
  asked_out {a = a} {b = b} {all = all} i ss s low read h t = left_out (marked_sections (i + 1) (drop (i + 1) ss)) (subst (λ (xs : List ℕ). RestOfWalk goes refuses a all b xs) (asked_drop i ss s low read) h) t

  pub asked_done : {a b : S} {all : List ℕ} (i : ℕ) (ss : List Section) → length ss ≤ i → RestOfWalk goes refuses a all b (marked_sections i (drop i ss)) → SinkRun goes refuses a all (Ok tt) b
  asked_done {a = a} {b = b} {all = all} i ss high h = left_done (subst (λ (zs : List Section). RestOfWalk goes refuses a all b (marked_sections i zs)) (drop_all i ss high) h)

pub ruleset asked_loops = (asked_all, asked_next, asked_out, asked_done)
