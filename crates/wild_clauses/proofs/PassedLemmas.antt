-- Where each group passes what clauses ask of one file by itself, none of these tests fails.
use Rattle.std.proofs.Common.{◌≡◌, ℕ, ◌+◌, inl, inr, Bool, true, false, ◌&&◌, ◌||◌, List, [], ◌∷◌, None, Ok, refl, sym, ◌∙◌, length}
use Rattle.std.specs.Prelude.{◌==◌, nat_lt, nat_le}
use Rattle.std.specs.List.{list_all}
use Rattle.std.proofs.lemmas.Bool.{cases_Bool, and_parts, and_from}
use Rattle.wild_types.specs.declared.input.InputRelocation.{InputRelocation}
use Rattle.wild_types.specs.declared.input.InputSection.{InputSection}
use Rattle.wild_types.specs.declared.file.File.{File}
use Rattle.wild_types.specs.declared.file.Group.{Group}
use Rattle.wild_types.specs.declared.layout.Layout.{Layout}
use Rattle.wild_types.specs.Lists.{first_failing}
use Rattle.wild_types.specs.Lookups.{is_frame}
use Rattle.wild_plan_rules.specs.Places.{ends_low, group_fits}
use Rattle.wild_plan_rules.specs.Contents.{each_in, each_section, has_share_for_each_part, sorted_named_once, names_sorted, length_fits, frames_part_fits, discarded_is_empty, part_is_raw, merged_is_raw, identity_is_raw, primary_fits, front_is_free, allocation_agrees, bytes_take_room, field_lies, fields_lie, is_read_well, relocations_are_read}
use Rattle.wild_plan_rules.specs.MisplacedSections.{misplaced_place}
use Rattle.wild_plan_rules.specs.Indexes.{index_fits, header_is_there, relocation_index_fits, section_indexes_fit, symbol_is_there, block_is_there, file_indexes_fit, group_indexes_fit}
use Rattle.wild_plan_rules.specs.ZeroFree.{input_name_fits, file_names_fit, group_names_fit}
use Rattle.wild_plan_rules.specs.Fronts.{reversed_fits}
use Rattle.wild_plan_rules.specs.Partial.{is_of_kind}
use Rattle.wild_clauses.specs.FileTests.{passes_all, parts_fit, relocation_passes, headers_are_there, section_passes, symbols_are_there, library_names_fit, file_passes, group_passes, groups_pass}
use Rattle.wild_plan_rules.specs.ClauseTests.{fails, check_inputs, check_fields, check_reversed}

pub list_all_weaker : {X : Type 0} (a b : X → Bool) (xs : List X) → ((x : X) → a x ≡ true → b x ≡ true) → list_all a xs ≡ true → list_all b xs ≡ true
list_all_weaker a b [] w h = refl
list_all_weaker a b (x ∷ xs) w h =
    let both = and_parts (a x) (list_all a xs) h in
    and_from (b x) (list_all b xs) (w x both.0) (list_all_weaker a b xs w both.1)

pub none_weaker : (a b : InputSection → Bool) (i : ℕ) (gs : List Group) → ((s : InputSection) → a s ≡ true → b s ≡ true) → first_failing (each_section a) i gs ≡ None → first_failing (each_section b) i gs ≡ None
none_weaker a b i [] w h = refl
none_weaker a b i (g ∷ gs) w h =
    elim (cases_Bool (each_section a g)) [
      | inl t ↦
          (let here : each_section b g ≡ true = list_all_weaker (each_in a) (each_in b) g.files (λ (f : File) k. list_all_weaker a b f.sections w k) t in
          rw here (none_weaker a b (i + 1) gs w (rw t at h)))
      | inr f ↦ cc (rw f at h)
    ]

-- where all items pass, none is the first that fails
pub none_fails : {X : Type 0} (test : X → Bool) (i : ℕ) (xs : List X) → list_all test xs ≡ true → first_failing test i xs ≡ None
none_fails test i [] h = refl
none_fails test i (x ∷ xs) h =
    let both = and_parts (test x) (list_all test xs) h in
    rw both.0 (none_fails test (i + 1) xs both.1)

-- ---- what passes

record SectionPasses (l : Layout) (s : InputSection) : Type 0 where
  ends : ends_low s.address s.size ≡ true
  inputs : passes_all l s ≡ true
  headers : headers_are_there l s ≡ true
  relocations : list_all (relocation_passes l s) s.relocations ≡ true
  name : input_name_fits s ≡ true
  reversed : reversed_fits l.machine s ≡ true
  kind : is_of_kind l s ≡ true

SectionPasses-from_test : (l : Layout) (s : InputSection) → section_passes l s ≡ true → SectionPasses l s
unfolding section_passes
SectionPasses-from_test l s h =
    let a = and_parts (ends_low s.address s.size) _ h in
    let b = and_parts (passes_all l s) _ a.1 in
    let c = and_parts (headers_are_there l s) _ b.1 in
    let d = and_parts (list_all (relocation_passes l s) s.relocations) _ c.1 in
    let e = and_parts (input_name_fits s) _ d.1 in
    let f = and_parts (reversed_fits l.machine s) (is_of_kind l s) e.1 in
    record { ends = a.0; inputs = b.0; headers = c.0; relocations = d.0; name = e.0; reversed = f.0; kind = f.1 }

record FilePasses (l : Layout) (f : File) : Type 0 where
  symbols : symbols_are_there l f ≡ true
  names : library_names_fit f ≡ true
  sections : list_all (section_passes l) f.sections ≡ true

FilePasses-from_test : (l : Layout) (f : File) → file_passes l f ≡ true → FilePasses l f
unfolding file_passes
FilePasses-from_test l f h =
    let a = and_parts (symbols_are_there l f) _ h in
    let b = and_parts (library_names_fit f) (list_all (section_passes l) f.sections) a.1 in
    record { symbols = a.0; names = b.0; sections = b.1 }

group_parts : (l : Layout) (g : Group) → group_passes l g ≡ true → (has_share_for_each_part (length l.parts) g ≡ true) × (list_all (file_passes l) g.files ≡ true)
unfolding group_passes
group_parts l g h = and_parts (has_share_for_each_part (length l.parts) g) (list_all (file_passes l) g.files) h

-- ---- a test that what passes passes fails at no group

of_groups : (l : Layout) (test : Group → Bool) → ((g : Group) → group_passes l g ≡ true → test g ≡ true) → groups_pass l ≡ true → first_failing test 0 l.groups ≡ None
unfolding groups_pass
of_groups l test w h = none_fails test 0 l.groups (list_all_weaker (group_passes l) test l.groups w h)

of_files : (l : Layout) (test : File → Bool) (g : Group) → ((f : File) → FilePasses l f → test f ≡ true) → group_passes l g ≡ true → list_all test g.files ≡ true
of_files l test g w h = list_all_weaker (file_passes l) test g.files (λ (f : File) k. w f (FilePasses-from_test l f k)) (group_parts l g h).1

of_sections : (l : Layout) (test : InputSection → Bool) (f : File) → ((s : InputSection) → SectionPasses l s → test s ≡ true) → FilePasses l f → list_all test f.sections ≡ true
of_sections l test f w h = list_all_weaker (section_passes l) test f.sections (λ (s : InputSection) k. w s (SectionPasses-from_test l s k)) h.sections

of_each : (l : Layout) (test : InputSection → Bool) → ((s : InputSection) → SectionPasses l s → test s ≡ true) → groups_pass l ≡ true → first_failing (each_section test) 0 l.groups ≡ None
of_each l test w h = of_groups l (each_section test) (λ g. of_files l (each_in test) g (λ f. of_sections l test f w)) h

of_relocations : (l : Layout) (s : InputSection) (test : InputRelocation → Bool) → ((r : InputRelocation) → relocation_passes l s r ≡ true → test r ≡ true) → SectionPasses l s → list_all test s.relocations ≡ true
of_relocations l s test w h = list_all_weaker (relocation_passes l s) test s.relocations w h.relocations

-- ---- clauses 1, 7 and 19 to 21

pub sizes_pass : (l : Layout) (passed : Bool) → passed ≡ groups_pass l → passed ≡ true → first_failing group_fits 0 l.groups ≡ None
sizes_pass l passed e h = of_each l (λ (s : InputSection). ends_low s.address s.size) (λ s p. p.ends) (sym e ∙ h)

pub shares_pass : (l : Layout) (passed : Bool) → passed ≡ groups_pass l → passed ≡ true → first_failing (has_share_for_each_part (length l.parts)) 0 l.groups ≡ None
shares_pass l passed e h = of_groups l (has_share_for_each_part (length l.parts)) (λ g p. (group_parts l g p).0) (sym e ∙ h)

pub names_pass : (l : Layout) (passed : Bool) → passed ≡ groups_pass l → passed ≡ true → first_failing group_names_fit 0 l.groups ≡ None
names_pass l passed e h =
    of_groups l group_names_fit
    (λ g. of_files l file_names_fit g (λ f p. and_from (list_all input_name_fits f.sections) (library_names_fit f) (of_sections l input_name_fits f (λ s q. q.name) p) p.names))
    (sym e ∙ h)

pub reversed_pass : (l : Layout) → groups_pass l ≡ true → check_reversed l ≡ Ok tt
unfolding check_reversed
reversed_pass l h = rw (of_each l (reversed_fits l.machine) (λ s p. p.reversed) h) refl

pub kinds_pass : (l : Layout) → groups_pass l ≡ true → first_failing (each_section (is_of_kind l)) 0 l.groups ≡ None
kinds_pass l h = of_each l (is_of_kind l) (λ s p. p.kind) h

-- ---- clause 8

-- what a section that passes all tests passes
record PassesEach (l : Layout) (s : InputSection) : Type 0 where
  length : length_fits s ≡ true
  frames : frames_part_fits l s ≡ true
  discarded : discarded_is_empty s ≡ true
  raw : part_is_raw l s ≡ true
  allocation : allocation_agrees l s ≡ true
  room : bytes_take_room l s ≡ true

PassesEach-from_test : (l : Layout) (s : InputSection) → passes_all l s ≡ true → PassesEach l s
PassesEach-from_test l s h =
    let a = and_parts (length_fits s) (frames_part_fits l s && (discarded_is_empty s && (part_is_raw l s && (allocation_agrees l s && bytes_take_room l s)))) h in
    let f = and_parts (frames_part_fits l s) (discarded_is_empty s && (part_is_raw l s && (allocation_agrees l s && bytes_take_room l s))) a.1 in
    let b = and_parts (discarded_is_empty s) (part_is_raw l s && (allocation_agrees l s && bytes_take_room l s)) f.1 in
    let c = and_parts (part_is_raw l s) (allocation_agrees l s && bytes_take_room l s) b.1 in
    let d = and_parts (allocation_agrees l s) (bytes_take_room l s) c.1 in
    record { length = a.0; frames = f.0; discarded = b.0; raw = c.0; allocation = d.0; room = d.1 }

pub inputs_pass : (l : Layout) → fails 8 (misplaced_place l) ≡ Ok tt → fails 8 (sorted_named_once l 0 l.groups) ≡ Ok tt → fails 8 (first_failing (names_sorted l) 0 l.sorted) ≡ Ok tt → groups_pass l ≡ true → parts_fit l ≡ true → check_inputs l ≡ Ok tt
unfolding check_inputs
inputs_pass l first once named h fit =
    let each = λ (s : InputSection) (p : SectionPasses l s). PassesEach-from_test l s p.inputs in
    let a = of_each l length_fits (λ s p. (each s p).length) h in
    let f = of_each l (frames_part_fits l) (λ s p. (each s p).frames) h in
    let b = of_each l discarded_is_empty (λ s p. (each s p).discarded) h in
    let c = of_each l (part_is_raw l) (λ s p. (each s p).raw) h in
    let d = of_each l (allocation_agrees l) (λ s p. (each s p).allocation) h in
    let e = of_each l (bytes_take_room l) (λ s p. (each s p).room) h in
    let p = and_parts (list_all (merged_is_raw l) l.merged) (identity_is_raw l && (primary_fits l && front_is_free l)) fit in
    let q = and_parts (identity_is_raw l) (primary_fits l && front_is_free l) p.1 in
    let r = and_parts (primary_fits l) (front_is_free l) q.1 in
    let m = none_fails (merged_is_raw l) 0 l.merged p.0 in
    rw (first, once, named, a, f, b, c, m, q.0, r.0, r.1, d, e) refl

-- ---- clause 9

parts_of : (l : Layout) (s : InputSection) (r : InputRelocation) → relocation_passes l s r ≡ true → (relocation_index_fits l r ≡ true) × ((field_lies l.machine s r && is_read_well r) ≡ true)
unfolding relocation_passes
parts_of l s r h = and_parts (relocation_index_fits l r) (field_lies l.machine s r && is_read_well r) h

section_indexes : (l : Layout) (s : InputSection) → SectionPasses l s → section_indexes_fit l s ≡ true
section_indexes l s p =
    let a = and_parts (nat_lt s.part (length l.parts)) (index_fits (length l.sections) s.singleton && list_all (header_is_there l) s.members) p.headers in
    let b = and_parts (index_fits (length l.sections) s.singleton) (list_all (header_is_there l) s.members) a.1 in
    let r = of_relocations l s (relocation_index_fits l) (λ r k. (parts_of l s r k).0) p in
    rw (a.0, b.0, b.1, r) refl

file_indexes : (l : Layout) (f : File) → FilePasses l f → file_indexes_fit l f ≡ true
file_indexes l f p =
    let range = f.symbol_count == 0 || nat_le (f.first_symbol + f.symbol_count) (length l.symbols) in
    let a = and_parts range (list_all (symbol_is_there l) f.copies && block_is_there l f) p.symbols in
    let s = of_sections l (section_indexes_fit l) f (section_indexes l) p in
    and_from range (list_all (section_indexes_fit l) f.sections && (list_all (symbol_is_there l) f.copies && block_is_there l f)) a.0
    (and_from (list_all (section_indexes_fit l) f.sections) (list_all (symbol_is_there l) f.copies && block_is_there l f) s a.1)

pub indexes_pass : (l : Layout) (passed : Bool) → passed ≡ groups_pass l → passed ≡ true → first_failing (group_indexes_fit l) 0 l.groups ≡ None
indexes_pass l passed e h = of_groups l (group_indexes_fit l) (λ g. of_files l (file_indexes_fit l) g (file_indexes l)) (sym e ∙ h)

-- ---- clause 10

field_of : (l : Layout) (s : InputSection) (r : InputRelocation) → relocation_passes l s r ≡ true → (field_lies l.machine s r ≡ true) × (is_read_well r ≡ true)
field_of l s r h = and_parts (field_lies l.machine s r) (is_read_well r) (parts_of l s r h).1

are_read : (l : Layout) (s : InputSection) → SectionPasses l s → relocations_are_read s ≡ true
are_read l s p = by_slot (is_frame s.slot) (of_relocations l s is_read_well (λ r k. (field_of l s r k).1) p)
  where
    by_slot : (b : Bool) → list_all is_read_well s.relocations ≡ true → (b || list_all is_read_well s.relocations) ≡ true
    by_slot true e = refl
    by_slot false e = e

pub fields_pass : (l : Layout) → groups_pass l ≡ true → check_fields l ≡ Ok tt
unfolding check_fields
fields_pass l h =
    let a = of_each l (fields_lie l.machine) (λ s p. of_relocations l s (field_lies l.machine s) (λ r k. (field_of l s r k).0) p) h in
    let b = of_each l relocations_are_read (are_read l) h in
    rw (a, b) refl
