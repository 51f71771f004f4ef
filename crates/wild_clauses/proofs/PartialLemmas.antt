-- What is asked of an output that is no relocatable object: that it has nothing which only such an object has. All else follows.
use Rattle.std.proofs.Common.{◌≡◌, ℕ, ◌+◌, inl, inr, Bool, true, false, ◌&&◌, ◌||◌, List, [], ◌∷◌, refl}
use Rattle.std.specs.Prelude.{not, Option, Some, None, is_none}
use Rattle.std.specs.List.{list_all}
use Rattle.std.proofs.lemmas.Bool.{cases_Bool, and_parts, and_from}
use Rattle.wild_types.specs.declared.input.InputSection.{InputSection}
use Rattle.wild_types.specs.declared.file.File.{File}
use Rattle.wild_types.specs.declared.file.Group.{Group}
use Rattle.wild_types.specs.declared.layout.Layout.{Layout}
use Rattle.wild_types.specs.Kinds.{is_partial_link}
use Rattle.wild_types.specs.Lists.{first_failing}
use Rattle.wild_types.specs.Lookups.{is_rela}
use Rattle.wild_plan_rules.specs.Contents.{each_in, each_section}
use Rattle.wild_plan_rules.specs.Partial.{has_no_slot, has_no_thunks, has_no_index, is_no_debug, is_group, is_of_kind, has_entries, table_fits, file_tables_fit, tables_fit, group_fits_members, table_has_data}
use Rattle.wild_plan_rules.specs.ClauseTests.{fails, first_error, check_partial}
use Rattle.wild_clauses.proofs.PassedLemmas.{list_all_weaker, none_weaker}

-- a test that each item passes fails nowhere
never : {X : Type 0} (test : X → Bool) (i : ℕ) (xs : List X) → ((x : X) → test x ≡ true) → first_failing test i xs ≡ None
never test i [] h = refl
never test i (x ∷ xs) h = rw (h x) (never test (i + 1) xs h)

each_passes : {X : Type 0} (test : X → Bool) (xs : List X) → ((x : X) → test x ≡ true) → list_all test xs ≡ true
each_passes test [] h = refl
each_passes test (x ∷ xs) h = and_from (test x) (list_all test xs) (h x) (each_passes test xs h)

-- a section that is no table of relocations and no group
record IsPlain (s : InputSection) : Type 0 where
  table : is_rela s.slot ≡ false
  group : is_group s.slot ≡ false

of_kind : (l : Layout) (s : InputSection) → is_partial_link l.kind ≡ false → is_of_kind l s ≡ true → IsPlain s
of_kind l s n h =
    let a = and_parts (not (is_rela s.slot)) (not (is_group s.slot) && is_none s.singleton) (rw n at h) in
    let b = and_parts (not (is_group s.slot)) (is_none s.singleton) a.1 in
    record { table = no (is_rela s.slot) a.0; group = no (is_group s.slot) b.0 }
  where
    no : (b : Bool) → not b ≡ true → b ≡ false
    no true h = cc
    no false h = refl

groups_weaker : (a b : Group → Bool) (i : ℕ) (gs : List Group) → ((g : Group) → a g ≡ true → b g ≡ true) → first_failing a i gs ≡ None → first_failing b i gs ≡ None
groups_weaker a b i [] w h = refl
groups_weaker a b i (g ∷ gs) w h =
    elim (cases_Bool (a g)) [
      | inl t ↦ (let here = w g t in rw here (groups_weaker a b (i + 1) gs w (rw t at h)))
      | inr f ↦ cc (rw f at h)
    ]

tables : (l : Layout) (g : Group) → is_partial_link l.kind ≡ false → each_section (is_of_kind l) g ≡ true → tables_fit g ≡ true
tables l g n h = list_all_weaker (each_in (is_of_kind l)) file_tables_fit g.files (λ (f : File) k. list_all_weaker (is_of_kind l) (table_fits f) f.sections (λ s p. let t = (of_kind l s n p).table in rw t refl) k) h

pub no_partial : (l : Layout) → is_partial_link l.kind ≡ false → check_partial l ≡ fails 21 (first_failing (each_section (is_of_kind l)) 0 l.groups)
unfolding check_partial
no_partial l n =
    let slots = never (has_no_slot l) 0 l.symbols (λ s. rw n refl) in
    let thunks = never (has_no_thunks l) 0 l.thunk_blocks (λ b. rw n refl) in
    let indexes = never (has_no_index l) 0 l.symbols (λ s. rw n refl) in
    let debug = never (each_section (is_no_debug l)) 0 l.groups (λ g. each_passes (each_in (is_no_debug l)) g.files (λ f. each_passes (is_no_debug l) f.sections (λ s. rw n refl))) in
    rw (slots, thunks, indexes, debug, n) (by (first_failing (each_section (is_of_kind l)) 0 l.groups) refl)
  where
    by : (o : Option ℕ) → first_failing (each_section (is_of_kind l)) 0 l.groups ≡ o → first_error (fails 21 o) (first_error (fails 21 (first_failing tables_fit 0 l.groups)) (first_error (fails 21 (first_failing (each_section group_fits_members) 0 l.groups)) (fails 21 (first_failing (each_section table_has_data) 0 l.groups)))) ≡ fails 21 o
    by (Some i) e = refl
    by None e =
        let a = groups_weaker (each_section (is_of_kind l)) tables_fit 0 l.groups (λ g. tables l g n) e in
        let b = none_weaker (is_of_kind l) group_fits_members 0 l.groups (λ s p. let t = (of_kind l s n p).group in rw t refl) e in
        let c = none_weaker (is_of_kind l) table_has_data 0 l.groups (λ s p. let t = of_kind l s n p in rw (t.table, t.group) refl) e in
        rw (a, b, c) refl
