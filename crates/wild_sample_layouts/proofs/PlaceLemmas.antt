-- The clauses on sizes, counts, parts, sections and segments hold of the plan of n groups.
use Rattle.std.proofs.Common.{◌≡◌, ℕ, ◌+◌, ◌*◌, ◌-◌, ◌^◌, ◌<◌, ◌%◌, Bool, true, false, not, if◌then◌else◌, ◌||◌, List, [], ◌∷◌, drop, length, inl, inr, ap, refl, ◌∙◌, arith}
use Rattle.std.specs.Prelude.{None, Ok, nat_le, codes}
use Rattle.std.specs.List.{list_any}
use lib.Count.{ones}
use Rattle.std.proofs.lemmas.Bool.{cases_Bool, le-leb, lt-ltb, ne_eqb}
use Rattle.wild_types.specs.declared.file.File.{File}
use Rattle.wild_types.specs.declared.file.FileRole.TheVariants as file_role
use Rattle.wild_types.specs.declared.input.InputSection.{InputSection}
use Rattle.wild_types.specs.Lists.{first_failing}
use Rattle.wild_types.specs.Lookups.{bit, image_size}
use Rattle.wild_types.specs.declared.part.Role.{Role}
use Rattle.wild_types.specs.declared.part.Role.TheVariants as role
use Rattle.wild_types.specs.Lists.{total}
use Rattle.wild_types.specs.declared.file.Group.{Group}
use Rattle.wild_needs.specs.Needs.{total_share, first_share, file_table_bytes, share, has_last, last_share, group_share}
use Rattle.wild_plan_rules.specs.Counts.{role_has_needed_part}
use Rattle.wild_needs.specs.Dynamic.{dynamic_entries, tag_entries}
use Rattle.wild_needs.specs.DynamicStrings.{named_strings, string_entries, file_strings}
use Rattle.wild_needs.specs.DynamicSymbols.{dynamic_symbols}
use Rattle.wild_needs.specs.Entries.{rela_places, relr_places, dynamic_relocations, general_count}
use Rattle.wild_types.specs.Flags.{has_flag}
use Rattle.wild_types.specs.Rows.{row_of}
use Rattle.wild_needs.specs.TableSymbols.{file_items, table_strings}
use Rattle.wild_slot.specs.Treatment.{treatment, row_treatment}
use Rattle.wild_reloc.specs.TableX86_64.{x86_64_row}
use Rattle.wild_types.specs.FileRoles.{is_prelude}
use Rattle.wild_needs.specs.SlotShares.{slot_share}
use Rattle.wild_relr.specs.RunWords.{packed, packed_on}
use Rattle.wild_plan_rules.specs.Places.{group_fits, relocations_of, relocations_in, relocation_count, roles}
use Rattle.wild_plan_rules.specs.Segments.{has_byte, must_be_loaded, bytes_are_loaded}
use Rattle.wild_plan_rules.specs.Contents.{each_in, each_section}
use Rattle.wild_types.specs.declared.section.Section.{Section}
use Rattle.wild_plan_rules.specs.declared.side.ImageOrMemory.{ImageOrMemory}
use Rattle.wild_plan_rules.specs.declared.side.ImageOrMemory.TheVariants as side
use Rattle.wild_plan_rules.proofs.CoverLemmas.{all_below_from}
use Rattle.wild_records.specs.Abi.Section.{sht_progbits, sht_strtab}
use Rattle.wild_plan_rules.specs.ClauseTests.{check_sizes, check_counts, check_order, check_roles, check_sections, check_entries, check_segments}
use Rattle.wild_sample_layouts.specs.PlanOfGroups.{made_section, made_object, plain_file, made_symbol, made_group, section_with, made_sections, made_segment, plan_of_groups}
use Rattle.wild_sample_layouts.specs.Laws.{IsCount}
use Rattle.wild_sample_layouts.proofs.ListLemmas.{made_from, none_fails, total_same, length_made}
use Rattle.wild_sample_layouts.proofs.FileLemmas.{all_files, total_files}
use Rattle.wild_sample_layouts.proofs.SlotLemmas.{slots_made, block_made, no_dynamic_symbols}
use Rattle.wild_sample_layouts.proofs.StandLemmas.{placed_made_files}
use Rattle.wild_sample_layouts.proofs.VersionLemmas.{no_needs, no_versions}

-- ---- the sections of a group

pub each_made : (t : InputSection → Bool) (n i : ℕ) → t (made_section n i) ≡ true → each_section t (made_group n i) ≡ true
each_made t n i h = all_files (each_in t) n i refl (rw h refl) refl

-- each input section passes
pub sections_pass : (t : InputSection → Bool) (n : ℕ) → ((i : ℕ) → i < n → t (made_section n i) ≡ true) → first_failing (each_section t) 0 (made_from (made_group n) 0 n) ≡ None
sections_pass t n h = none_fails (each_section t) (made_group n) 0 0 n (λ k low high. each_made t n k (h k (omega arith)))

-- ---- clause 1

group_sizes : (n : ℕ) → IsCount n → first_failing group_fits 0 (made_from (made_group n) 0 n) ≡ None
unfolding made_section
group_sizes n c = sections_pass (λ (s : InputSection). nat_le (s.address + s.size) (2 ^ 62)) n (λ i h. le-leb (4194432 + 64 * i + 64) (2 ^ 62) (let f = c.few in omega arith))

pub sizes_hold : (n : ℕ) → IsCount n → check_sizes (plan_of_groups n) ≡ Ok tt
unfolding check_sizes plan_of_groups ones
sizes_hold n c =
    let few = c.few in
    let a = le-leb (4194432 + 64 * n) (2 ^ 62) (omega arith) in
    let b = le-leb (128 + 64 * n) (2 ^ 62) (omega arith) in
    let d = le-leb (128 + 64 * n + 17) (2 ^ 62) (omega arith) in
    let e = le-leb (152 + 64 * n + 192) (2 ^ 62) (omega arith) in
    let f = le-leb (4194304 + (128 + 64 * n)) (2 ^ 62) (omega arith) in
    let g = le-leb (0 + (128 + 64 * n)) (2 ^ 62) (omega arith) in
    simp (a, b, d, e, f, g, group_sizes n c) refl

-- ---- clause 2

group_relocations : (n i : ℕ) → relocations_of (made_group n i) ≡ 8
unfolding made_section
group_relocations n i = total_files relocations_in n i refl refl

pub relocations_made : (n : ℕ) → relocation_count (plan_of_groups n) ≡ 8 * n
unfolding plan_of_groups
relocations_made n = total_same relocations_of (made_group n) 8 0 n (λ k low high. group_relocations n k)

-- what a file has to write besides slots and stubs
abbrev pub other_share : ℕ → Role → File → ℕ
other_share n r f = (if is_prelude f.role then first_share (plan_of_groups n) r else 0) + file_table_bytes (plan_of_groups n) r f

pub share_made : (n : ℕ) (r : Role) (f : File) → share (plan_of_groups n) r f ≡ other_share n r f
share_made n r f = and_none (other_share n r f) (slot_share (plan_of_groups n) r f) (slots_made n r f)
  where
    and_none : (a b : ℕ) → b ≡ 0 → a + b ≡ a
    and_none a b h = omega (arith, h)

-- the last file has no sorted sections
pub none_last : (n : ℕ) (r : Role) (g : Group) → last_share (plan_of_groups n) r g ≡ 0
unfolding plan_of_groups
none_last n role.RelrDyn g = elim (cases_Bool (has_last g)) [ inl t ↦ rw t refl | inr f ↦ rw f refl ]
none_last n other g = refl

-- nothing has to be written in a part of a role where none of the three kinds of files writes there
nothing_shared : (n : ℕ) (r : Role) → other_share n r (plain_file file_role.Prelude) ≡ 0 → ((i : ℕ) → other_share n r (made_object n i) ≡ 0) → other_share n r (plain_file file_role.Epilogue) ≡ 0 → total_share (plan_of_groups n) r ≡ 0
unfolding plan_of_groups
nothing_shared n r first own last =
    let prelude = share_made n r (plain_file file_role.Prelude) ∙ first in
    let epilogue = share_made n r (plain_file file_role.Epilogue) ∙ last in
    let none = total_same (group_share (plan_of_groups n) r) (made_group n) 0 0 n (λ k low high.
    (let files = ap (total (share (plan_of_groups n) r)) (placed_made_files n k) ∙ total_files (share (plan_of_groups n) r) n k prelude epilogue ∙ share_made n r (made_object n k) ∙ own k in
    all_none _ _ _ files (block_made n r (made_group n k)) (none_last n r (made_group n k)))) in
    omega (arith, none)
  where
    all_none : (a b c : ℕ) → a ≡ 0 → b ≡ 0 → c ≡ 0 → a + (b + c) ≡ 0
    all_none a b c g h k = omega (arith, g, h, k)

pub counts_hold : (n : ℕ) → IsCount n → check_counts (plan_of_groups n) ≡ Ok tt
unfolding check_counts plan_of_groups named_strings file_strings table_strings file_items
counts_hold n c =
    let some = c.some in
    let few = c.few in
    let symbols = length_made made_symbol 0 n in
    let groups = length_made (made_group n) 0 n in
    let a = lt-ltb n (2 ^ 32 - 1) (omega arith) in
    let none : length (dynamic_symbols (plan_of_groups n)) ≡ 0 = ap length (no_dynamic_symbols n) in
    let b = lt-ltb (8 * n) (2 ^ 32 - 1) (omega arith) in
    let d = le-leb 1 n some in
    simp (symbols, groups, none, relocations_made n, a, b, d, nothing_shared n role.Dynstr refl (λ i. refl) refl, nothing_shared n role.Strtab refl (λ i. refl) refl, no_needs n, no_versions n) refl

-- ---- clauses 3, 4 and 5

pub order_holds : (n : ℕ) → IsCount n → check_order (plan_of_groups n) ≡ Ok tt
unfolding check_order plan_of_groups
order_holds n c =
    let a = le-leb (128 + 64 * n) (128 + 64 * n) (omega arith) in
    let b = le-leb (128 + 64 * n + 17) (152 + 64 * n) (omega arith) in
    let d : (128 + 64 * n) % 1 ≡ 0 = omega arith in
    let e : (152 + 64 * n) % 8 ≡ 0 = omega arith in
    simp (a, b, d, e) refl

-- no field is left to an entry
left_made : (n i : ℕ) → dynamic_relocations (plan_of_groups n) (made_section n i) ≡ []
unfolding dynamic_relocations treatment row_treatment row_of x86_64_row made_section plan_of_groups bit has_flag
left_made n i = refl

generals_made : (n i : ℕ) → general_count (plan_of_groups n) (made_object n i) ≡ 0
unfolding general_count
generals_made n i = rw (left_made n i) refl

general_share : (n i : ℕ) → other_share n role.RelaDynGeneral (made_object n i) ≡ 0
general_share n i = let none = generals_made n i in rw none refl

-- each role is there, or nothing has to be written in a part of it
each_given : (n : ℕ) (r : Role) → role_has_needed_part (plan_of_groups n) r ≡ true
unfolding plan_of_groups named_strings file_strings dynamic_entries string_entries tag_entries rela_places relr_places packed packed_on general_count table_strings file_items made_section
each_given n role.Raw = refl
each_given n role.FileHeader = refl
each_given n role.ProgramHeaders = refl
each_given n role.SectionHeaders = refl
each_given n role.Shstrtab = refl
each_given n role.RelaDynGeneral = rw (nothing_shared n role.RelaDynGeneral refl (general_share n) refl) refl
each_given n other = rw (nothing_shared n other refl (λ i. refl) refl) refl

none_fails_in : {X : Type 0} (t : X → Bool) (i : ℕ) (xs : List X) → ((x : X) → t x ≡ true) → first_failing t i xs ≡ None
none_fails_in t i [] h = refl
none_fails_in t i (x ∷ xs) h = rw (h x) (none_fails_in t (i + 1) xs h)

pub roles_hold : (n : ℕ) → check_roles (plan_of_groups n) ≡ Ok tt
unfolding check_roles plan_of_groups
roles_hold n = rw (none_fails_in (role_has_needed_part (plan_of_groups n)) 0 roles (each_given n)) refl

pub sections_hold : (n : ℕ) → check_sections (plan_of_groups n) ≡ Ok tt
unfolding check_sections plan_of_groups bit
sections_hold n =
    let a = le-leb (128 + 64 * n) (128 + 64 * n) (omega arith) in
    let b = le-leb (128 + 64 * n + 17) (128 + 64 * n + 17) (omega arith) in
    simp (a, b) refl

-- ---- clause 6

-- how many bytes the image has
pub size_made : (n : ℕ) → IsCount n → image_size (plan_of_groups n) ≡ 344 + 64 * n
unfolding image_size plan_of_groups
size_made n c =
    let some = c.some in
    let a = ne_eqb (64 * n) 0 (λ h. omega arith) in
    simp a (omega arith)

-- the output section of the code
abbrev text : ℕ → Section
text n = section_with (codes ".text") sht_progbits 6 4194432 128 (64 * n) 16

-- the segment has each byte of the code
code_in_segment : (on : ImageOrMemory) (n k : ℕ) → k < 64 * n → has_byte on (plan_of_groups n) (text n) (4194432 + k) (made_segment n) ≡ true
unfolding plan_of_groups
code_in_segment side.Memory n k lt =
    let a = le-leb 4194304 (4194432 + k) (omega arith) in
    let b = lt-ltb (4194432 + k) (4194304 + (128 + 64 * n)) (omega arith) in
    simp (a, b) refl
code_in_segment side.File n k lt =
    let a = le-leb 4194304 (4194432 + k) (omega arith) in
    let b = lt-ltb (4194432 + k) (4194304 + (128 + 64 * n)) (omega arith) in
    simp (a, b) refl

code_loaded : (on : ImageOrMemory) (n : ℕ) → bytes_are_loaded on (plan_of_groups n) (made_segment n ∷ []) (text n) ≡ true
code_loaded on n =
    let each = all_below_from (λ k. list_any (has_byte on (plan_of_groups n) (text n) (4194432 + k)) (made_segment n ∷ [])) (64 * n) (λ k lt. let here = code_in_segment on n k lt in rw here refl) in
    or_true (not (must_be_loaded on (plan_of_groups n) (text n))) _ each
  where
    or_true : (b c : Bool) → c ≡ true → (b || c) ≡ true
    or_true true c h = refl
    or_true false c h = h

-- section names are loaded nowhere
names_loaded : (on : ImageOrMemory) (n : ℕ) → bytes_are_loaded on (plan_of_groups n) (made_segment n ∷ []) (section_with (codes ".shstrtab") sht_strtab 0 0 (128 + 64 * n) 17 1) ≡ true
unfolding plan_of_groups bit
names_loaded side.Memory n = refl
names_loaded side.File n = refl

each_loaded : (on : ImageOrMemory) (n : ℕ) → first_failing (bytes_are_loaded on (plan_of_groups n) (made_segment n ∷ [])) 1 (drop 1 (made_sections n)) ≡ None
each_loaded on n =
    let a = code_loaded on n in
    let b = names_loaded on n in
    rw (a, b) refl

pub segments_hold : (n : ℕ) → IsCount n → check_segments (plan_of_groups n) ≡ Ok tt
unfolding check_segments check_entries plan_of_groups bit
segments_hold n c =
    let some = c.some in
    let a = le-leb (128 + 64 * n) (128 + 64 * n) (omega arith) in
    let e = le-leb (0 + (128 + 64 * n)) (344 + 64 * n) (omega arith) in
    rw (a, each_loaded side.Memory n, size_made n c, e) refl
