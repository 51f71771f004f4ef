-- The shares of the plan of n groups are what is needed, and its relocations have no faults.
use Rattle.std.proofs.Common.{◌≡◌, ℕ, zero, suc, ◌+◌, ◌*◌, ◌-◌, ◌^◌, ◌<◌, ◌≤◌, ◌==◌, ◌%◌, inl, inr, Bool, true, false, if◌then◌else◌, ◌||◌, min, [], ◌∷◌, length, map, refl, sym, ap, ◌∙◌, arith, subst}
use Rattle.std.specs.Prelude.{Option, Some, None, Ok, nat_le, nat_lt, slice_get, slice_index_or}
use Rattle.std.specs.List.{flat_map, range_with_len}
use lib.IntN.{negsuc}
use Rattle.std.proofs.lemmas.Bool.{cases_Bool, cases_lt, le-leb, lt-ltb, le-ltb}
use Rattle.wild_words.specs.Words.{word}
use Rattle.wild_types.specs.declared.kind.Machine.{Machine}
use Rattle.wild_types.specs.declared.kind.Machine.TheVariants as machine
use Rattle.wild_types.specs.declared.input.InputRelocation.{InputRelocation}
use Rattle.wild_types.specs.declared.part.Part.{Part}
use Rattle.wild_types.specs.declared.part.Role.{Role}
use Rattle.wild_types.specs.declared.part.Role.TheVariants as role
use Rattle.wild_types.specs.declared.file.File.{File}
use Rattle.wild_types.specs.declared.file.Group.{Group}
use Rattle.wild_types.specs.declared.file.FileRole.TheVariants as file_role
use Rattle.wild_types.specs.Lists.{total}
use Rattle.wild_needs.specs.Needs.{needs, needs_of, share, group_share}
use Rattle.wild_types.specs.Flags.{has_flag}
use Rattle.wild_types.specs.Rows.{row_of}
use Rattle.wild_types.specs.FilePlaces.{given}
use Rattle.wild_types.specs.Item.{item_with, block_for}
use Rattle.wild_types.specs.Lookups.{place_of, bit, is_header_only_part, has_written_relocations, is_frame, is_debug}
use Rattle.wild_reloc.specs.TableX86_64.{x86_64_row}
use Rattle.wild_reloc.specs.declared.info.RelocationSize.TheVariants.{ByteSize}
use Rattle.wild_reloc.specs.declared.info.Width.TheVariants.{Four}
use Rattle.wild_words.specs.Extents.{least_extent}
use Rattle.wild_slot.specs.Treatment.{row_treatment, treatment}
use Rattle.wild_layout.specs.declared.decision.Decision.TheVariants.{Field}
use Rattle.wild_layout.specs.Choice.{choice_by, choice_of, choice_on, takes_next, is_partner}
use Rattle.wild_layout.specs.Decide.{field_or_thunk, decided, decide}
use Rattle.wild_layout.proofs.ChoiceLemmas.{choice_is}
use Rattle.wild_layout.proofs.DecisionLemmas.{decide_alone}
use Rattle.wild_layout.proofs.SiteLemmas.{site_written}
use Rattle.wild_layout.specs.Sites.{field_site, site, input_extents}
use Rattle.wild_layout.specs.SymbolValues.{displacement}
use Rattle.wild_types.specs.Addresses.{raw_value}
use Rattle.wild_needs.specs.TableSymbols.{file_items}
use Rattle.wild_layout.specs.Faults.{errors, flat_map_from, share_errors, has_spare, part_errors, relocation_errors, section_errors, thunk_errors, file_errors, files_errors, exported_errors, table_errors, group_errors}
use Rattle.wild_layout.specs.SearchTable.{search_table_faults}
use Rattle.wild_layout.specs.Merged.{merged_strings, address_for}
use Rattle.wild_placement.specs.PlacedSections.{frames_at}
use Rattle.wild_sample_layouts.proofs.StandLemmas.{section_stands, whole_made, placed_made_files}
use Rattle.wild_sample_layouts.specs.PlanOfGroups.{made_section, made_object, plain_file, made_files, made_symbol, made_group, made_relocation, part_with, made_parts, plan_of_groups, callee, start_of}
use Rattle.wild_sample_layouts.specs.Laws.{IsCount}
use Rattle.wild_sample_layouts.proofs.ListLemmas.{made_from, nothing_from, item_at}
use Rattle.wild_sample_layouts.proofs.SlotLemmas.{block_made, slots_clean}
use Rattle.wild_sample_layouts.proofs.PlaceLemmas.{other_share, share_made, none_last}
use Rattle.wild_sample_layouts.proofs.GroupLemmas.{file_made, clauses_hold}

-- ---- shares

no_share_errors : (spare : Bool) (part group x y : ℕ) → x ≡ y → share_errors spare part group x y ≡ []
no_share_errors spare part group x y e = let a = le-ltb x y (omega arith) in let b = le-ltb y x (omega arith) in rw (a, b) refl

needs_made : (n i j : ℕ) (p : Part) → j < n → slice_get (made_parts n) i ≡ Some p → needs (plan_of_groups n) i j ≡ needs_of (plan_of_groups n) p.role i (made_group n j)
unfolding needs plan_of_groups
needs_made n i j p h e = rw (e, item_at (made_group n) 0 n j j h (omega arith)) refl

-- what only the prelude needs
prelude_total : (t : File → ℕ) (n i w : ℕ) → t (plain_file file_role.Prelude) ≡ w → t (made_object n i) ≡ 0 → t (plain_file file_role.Epilogue) ≡ 0 → total t (made_files n i) ≡ (if i == 0 then w else 0)
prelude_total t n i w first own last =
    elim (cases_Bool (i == 0)) [
      | inl a ↦ elim (cases_Bool (i + 1 == n)) [ inl b ↦ rw (a, b, first, own, last) (omega arith) | inr b ↦ rw (a, b, first, own) (omega arith) ]
      | inr a ↦ elim (cases_Bool (i + 1 == n)) [ inl b ↦ rw (a, b, own, last) refl | inr b ↦ rw (a, b, own) refl ]
    ]

-- what a group has to write, where none but the prelude does
group_total : (n j w : ℕ) (r : Role) → other_share n r (plain_file file_role.Prelude) ≡ w → other_share n r (made_object n j) ≡ 0 → other_share n r (plain_file file_role.Epilogue) ≡ 0 → group_share (plan_of_groups n) r (made_group n j) ≡ (if j == 0 then w else 0)
group_total n j w r whole own last =
    let prelude = share_made n r (plain_file file_role.Prelude) ∙ whole in
    let object = share_made n r (made_object n j) ∙ own in
    let epilogue = share_made n r (plain_file file_role.Epilogue) ∙ last in
    and_none _ _ _ _ (ap (total (share (plan_of_groups n) r)) (placed_made_files n j) ∙ prelude_total (share (plan_of_groups n) r) n j w prelude object epilogue) (block_made n r (made_group n j)) (none_last n r (made_group n j))
  where
    and_none : (a b d c : ℕ) → a ≡ c → b ≡ 0 → d ≡ 0 → a + (b + d) ≡ c
    and_none a b d c g h k = omega (arith, g, h, k)

own_needed : (n i j w : ℕ) (r : Role) (p : Part) → j < n → slice_get (made_parts n) i ≡ Some p → needs_of (plan_of_groups n) p.role i (made_group n j) ≡ min (2 ^ 64 - 1) (group_share (plan_of_groups n) r (made_group n j)) → other_share n r (plain_file file_role.Prelude) ≡ w
    → other_share n r (made_object n j) ≡ 0 → other_share n r (plain_file file_role.Epilogue) ≡ 0 → w < 2 ^ 64 → given i (made_group n j) ≡ (if j == 0 then w else 0) → given i (made_group n j) ≡ needs (plan_of_groups n) i j
own_needed n i j w r p h at is whole own last small has =
    has ∙ sym (needs_made n i j p h at ∙ is ∙ ap (λ (k : ℕ). min (2 ^ 64 - 1) k) (group_total n j w r whole own last) ∙ limit (j == 0) w small)
  where
    limit : (b : Bool) (w : ℕ) → w < 2 ^ 64 → min (2 ^ 64 - 1) (if b then w else 0) ≡ (if b then w else 0)
    limit true w small = omega arith
    limit false w small = refl

-- a group has the bytes of a part that it is given
has_given : (n i j c : ℕ) → given i (made_group n 0) ≡ c → given i (made_group n 1) ≡ 0 → given i (made_group n j) ≡ (if j == 0 then c else 0)
has_given n i j c first later = elim (cases_Bool (j == 0)) [ inl a ↦ rw a first | inr a ↦ rw a later ]

header_needed : (n j : ℕ) → j < n → given 0 (made_group n j) ≡ needs (plan_of_groups n) 0 j
unfolding plan_of_groups
header_needed n j h = own_needed n 0 j 64 role.FileHeader _ h refl refl refl refl refl (omega arith) (has_given n 0 j 64 refl refl)

segments_needed : (n j : ℕ) → j < n → given 1 (made_group n j) ≡ needs (plan_of_groups n) 1 j
unfolding plan_of_groups
segments_needed n j h = own_needed n 1 j 56 role.ProgramHeaders _ h refl refl refl refl refl (omega arith) (has_given n 1 j 56 refl refl)

code_needed : (n j : ℕ) → j < n → given 2 (made_group n j) ≡ needs (plan_of_groups n) 2 j
code_needed n j h = sym (needs_made n 2 j _ h refl)

names_needed : (n j : ℕ) → j < n → given 3 (made_group n j) ≡ needs (plan_of_groups n) 3 j
unfolding plan_of_groups
names_needed n j h = own_needed n 3 j 17 role.Shstrtab _ h refl refl refl refl refl (omega arith) (has_given n 3 j 17 refl refl)

sections_needed : (n j : ℕ) → j < n → given 4 (made_group n j) ≡ needs (plan_of_groups n) 4 j
unfolding plan_of_groups
sections_needed n j h = own_needed n 4 j 192 role.SectionHeaders _ h refl refl refl refl refl (omega arith) (has_given n 4 j 192 refl refl)

part_clean : (n i : ℕ) (p : Part) → ((j : ℕ) → j < n → given i (made_group n j) ≡ needs (plan_of_groups n) i j) → flat_map_from (λ j (g : Group). share_errors (has_spare p g) i j (given i g) (needs (plan_of_groups n) i j)) 0 (made_from (made_group n) 0 n) ≡ []
part_clean n i p h = nothing_from (λ j (g : Group). share_errors (has_spare p g) i j (given i g) (needs (plan_of_groups n) i j)) (made_group n) 0 n (λ j low high. no_share_errors (has_spare p (made_group n j)) i j _ _ (h j (omega arith)))

pub no_part_errors : (n : ℕ) → flat_map_from (part_errors (plan_of_groups n)) 0 (plan_of_groups n).parts ≡ []
unfolding plan_of_groups
no_part_errors n =
    let parts = made_parts n in
    let part = λ (k : ℕ). slice_index_or parts k (part_with role.Raw 0 0 0 0 0) in
    simp (part_clean n 0 (part 0) (header_needed n), part_clean n 1 (part 1) (segments_needed n), part_clean n 2 (part 2) (code_needed n), part_clean n 3 (part 3) (names_needed n), part_clean n 4 (part 4) (sections_needed n)) refl

-- ---- values

raw_value_made : (n c : ℕ) → c < n → raw_value (plan_of_groups n) c ≡ Some (start_of c)
unfolding raw_value plan_of_groups
raw_value_made n c h = let e = item_at made_symbol 0 n c c h (omega arith) in simp e refl

-- no symbol stands for merged strings
merged_made : (n c : ℕ) → c < n → merged_strings (plan_of_groups n) c ≡ None
unfolding merged_strings plan_of_groups has_flag
merged_made n c h =
    let symbol = item_at made_symbol 0 n c c h (omega arith) in
    let file = file_made n 0 n c (omega arith) (omega (arith, h)) in
    simp (symbol, file) refl

-- a distance in the field's range
in_range : (s p : ℕ) → 4194432 ≤ s → s < 8388736 → 4194432 ≤ p → p < 8388736 → (nat_lt (((s + 18446744073709551612) % 2 ^ 64 + (2 ^ 64 - p % 2 ^ 64)) % 2 ^ 64) (2 ^ 31) || nat_le (2 ^ 64 - 2 ^ 31) (((s + 18446744073709551612) % 2 ^ 64 + (2 ^ 64 - p % 2 ^ 64)) % 2 ^ 64)) ≡ true
in_range s p a b c d =
    let e : (s + 18446744073709551612) % 2 ^ 64 ≡ s - 4 = omega arith in
    let f : p % 2 ^ 64 ≡ p = omega arith in
    elim (cases_lt (s - 4) p) [
      | inl low ↦
          (let g : (s - 4 + (2 ^ 64 - p)) % 2 ^ 64 ≡ s - 4 + (2 ^ 64 - p) = omega arith in
          let small : nat_lt (s - 4 + (2 ^ 64 - p)) (2 ^ 31) ≡ false = le-ltb _ _ (omega arith) in
          let large : nat_le (2 ^ 64 - 2 ^ 31) (s - 4 + (2 ^ 64 - p)) ≡ true = le-leb _ _ (omega arith) in
          rw (e, f, g, small, large) refl)
      | inr high ↦
          (let g : (s - 4 + (2 ^ 64 - p)) % 2 ^ 64 ≡ s - 4 - p = omega arith in
          let small : nat_lt (s - 4 - p) (2 ^ 31) ≡ true = lt-ltb _ _ (omega arith) in
          rw (e, f, g, small) refl)
    ]

allowed : (n i j c : ℕ) → IsCount n → i < n → j < 8 → c < n → (nat_lt (((4194432 + 64 * c + 18446744073709551612) % 2 ^ 64 + (2 ^ 64 - (4194432 + 64 * i + (8 * j + 1)) % 2 ^ 64)) % 2 ^ 64) (2 ^ 31)
    || nat_le (2 ^ 64 - 2 ^ 31) (((4194432 + 64 * c + 18446744073709551612) % 2 ^ 64 + (2 ^ 64 - (4194432 + 64 * i + (8 * j + 1)) % 2 ^ 64)) % 2 ^ 64)) ≡ true
allowed n i j c h low call named = let few = h.few in in_range (4194432 + 64 * c) (4194432 + 64 * i + (8 * j + 1)) (omega arith) (omega arith) (omega arith) (omega arith)

-- the value of a call
abbrev call_value : ℕ → ℕ → ℕ → ℕ
call_value n i j = displacement (start_of (callee n i j)) (negsuc 3) (place_of (made_section n i).address (made_relocation n i j))

decided_made : (block : ℕ) (n i j : ℕ) → IsCount n → i < n → j < 8 → decided (plan_of_groups n) (item_with block (made_section n i)) (made_relocation n i j) ≡ Ok (Field (ByteSize Four) (call_value n i j))
unfolding field_or_thunk decided address_for treatment row_treatment row_of x86_64_row made_section plan_of_groups bit has_flag
decided_made block n i j h low call =
    let some = h.some in
    let named : callee n i j < n = omega arith in
    let symbol = item_at made_symbol 0 n (callee n i j) (callee n i j) named (omega arith) in
    simp (merged_made n (callee n i j) named, raw_value_made n (callee n i j) named, symbol, allowed n i j (callee n i j) h low call named) refl

listed_made : (n i j : ℕ) → j < 8 → slice_get (made_section n i).relocations j ≡ Some (made_relocation n i j)
unfolding made_section
listed_made n i j call = item_at (made_relocation n i) 0 8 j j call (omega arith)

machine_made : (n : ℕ) → (plan_of_groups n).machine ≡ machine.X86_64
unfolding plan_of_groups
machine_made n = refl

-- no instruction is rewritten at a call's own type
choice_made : (block : ℕ) (n i j : ℕ) (next : Option InputRelocation) → choice_of (plan_of_groups n) (item_with block (made_section n i)) (made_relocation n i j) next ≡ Ok None
unfolding choice_by
choice_made block n i j next = refl

alone_made : (block : ℕ) (n i j : ℕ) → j < 8 → is_partner (plan_of_groups n) (item_with block (made_section n i)) j ≡ false
alone_made block n i zero call = refl
alone_made block n i (suc j) call =
    let s = item_with block (made_section n i) in
    ap takes_next (choice_is (plan_of_groups n) s j (made_relocation n i j) (machine_made n) (listed_made n i j (omega arith)) ∙ choice_made block n i j (slice_get s.relocations (j + 1)))

decide_made : (block : ℕ) (n i j : ℕ) → IsCount n → i < n → j < 8 → decide (plan_of_groups n) (item_with block (made_section n i)) j ≡ Ok (Field (ByteSize Four) (call_value n i j))
decide_made block n i j h low call =
    let s = item_with block (made_section n i) in
    let none = subst (λ (m : Machine). choice_on m (plan_of_groups n) s j (made_relocation n i j) ≡ Ok None) (sym (machine_made n)) (choice_made block n i j (slice_get s.relocations (j + 1))) in
    decide_alone (plan_of_groups n) s j (made_relocation n i j) (listed_made n i j call) (alone_made block n i j call) none ∙ decided_made block n i j h low call

relocation_clean : (block : ℕ) (n i j g f k : ℕ) → IsCount n → i < n → j < 8 → relocation_errors (plan_of_groups n) g f k (item_with block (made_section n i)) (made_section n i).relocations j ≡ []
unfolding relocation_errors
relocation_clean block n i j g f k h low call = rw (listed_made n i j call, decide_made block n i j h low call) refl

relocations_clean : (block : ℕ) (n i k : ℕ) (g f : ℕ) → IsCount n → i < n → flat_map (relocation_errors (plan_of_groups n) g f k (item_with block (made_section n i)) (made_section n i).relocations) (range_with_len 0 8) ≡ []
relocations_clean block n i k g f h low =
    let e = relocation_errors (plan_of_groups n) g f k (item_with block (made_section n i)) (made_section n i).relocations in
    let c : (j : ℕ) → j < 8 → e j ≡ [] = λ j call. relocation_clean block n i j g f k h low call in
    simp (c 0 (omega arith), c 1 (omega arith), c 2 (omega arith), c 3 (omega arith), c 4 (omega arith), c 5 (omega arith), c 6 (omega arith), c 7 (omega arith)) refl

site_made : (block : ℕ) (n i j : ℕ) → IsCount n → i < n → j < 8 → site (plan_of_groups n) (item_with block (made_section n i)) j ≡ field_site (item_with block (made_section n i)) (8 * j + 1) (ByteSize Four) (call_value n i j) ∷ []
site_made block n i j h low call = site_written (plan_of_groups n) (item_with block (made_section n i)) j (made_relocation n i j) (Field (ByteSize Four) (call_value n i j)) (record { size = ByteSize Four; value = call_value n i j }) (listed_made n i j call) (decide_made block n i j h low call) refl

-- where a call's field stands in the input
extent_made : (block : ℕ) (n i j : ℕ) → IsCount n → i < n → j < 8
    → input_extents (plan_of_groups n) (item_with block (made_section n i)) (made_section n i).relocations j ≡ record { start = 8 * j + 1; end = 8 * j + 1 + 4 } ∷ []
unfolding word
extent_made block n i j h low call =
    let e : 8 * j + 1 + (8 * j + 1) - (8 * j + 1) ≡ 8 * j + 1 = omega arith in
    rw (listed_made n i j call, site_made block n i j h low call) (ap (λ (k : ℕ). record { start = k; end = k + 4 } ∷ []) e)

-- eight fields of four bytes
call_extents : (block : ℕ) (n i : ℕ) → IsCount n → i < n
    → flat_map (input_extents (plan_of_groups n) (item_with block (made_section n i)) (made_section n i).relocations) (range_with_len 0 8) ≡ map (λ (j : ℕ). record { start = 8 * j + 1; end = 8 * j + 1 + 4 }) (range_with_len 0 8)
call_extents block n i h low =
    let c : (j : ℕ) → j < 8 → input_extents (plan_of_groups n) (item_with block (made_section n i)) (made_section n i).relocations j ≡ record { start = 8 * j + 1; end = 8 * j + 1 + 4 } ∷ [] = λ j call. extent_made block n i j h low call in
    simp (c 0 (omega arith), c 1 (omega arith), c 2 (omega arith), c 3 (omega arith), c 4 (omega arith), c 5 (omega arith), c 6 (omega arith), c 7 (omega arith)) refl

-- no byte is of two fields
none_shared : (block : ℕ) (n i : ℕ) → IsCount n → i < n → least_extent (flat_map (input_extents (plan_of_groups n) (item_with block (made_section n i)) (made_section n i).relocations) (range_with_len 0 8)) ≡ None
unfolding least_extent
none_shared block n i h low = ap least_extent (call_extents block n i h low) ∙ refl

relocations_made : (n i : ℕ) → length (made_section n i).relocations ≡ 8
unfolding made_section
relocations_made n i = refl

is_written_made : (n i : ℕ) → has_written_relocations (made_section n i) ≡ true
unfolding made_section
is_written_made n i = refl

debug_made : (n i : ℕ) → is_debug (made_section n i).slot ≡ false
unfolding made_section
debug_made n i = refl

frame_made : (n i : ℕ) → is_frame (made_section n i).slot ≡ false
unfolding made_section
frame_made n i = refl

section_clean : (n i g f : ℕ) (file : File) (at k : ℕ) → IsCount n → i < n → section_errors (plan_of_groups n) g f file at k (made_section n i) ≡ []
unfolding section_errors plan_of_groups made_section
section_clean n i g f file at k h low =
    let block = block_for (plan_of_groups n) file (made_section n i) in
    rw (section_stands n i file at, is_written_made n i, debug_made n i, frame_made n i, whole_made n, relocations_made n i, relocations_clean block n i k g f h low, none_shared block n i h low) refl

-- there are no sorted sections, and no search table is asked for
none_sorted : (n : ℕ) → (plan_of_groups n).sorted ≡ []
unfolding plan_of_groups
none_sorted n = refl

none_far : (n : ℕ) → search_table_faults (plan_of_groups n) ≡ []
unfolding search_table_faults plan_of_groups
none_far n = refl

-- all is written
none_hollow : (n : ℕ) → is_header_only_part (plan_of_groups n) (plan_of_groups n).primary_part ≡ false
unfolding plan_of_groups
none_hollow n = refl

files_clean : (n i g at k : ℕ) → IsCount n → i < n → files_errors (plan_of_groups n) g at k (made_files n i) ≡ []
unfolding file_errors thunk_errors
files_clean n i g at k h low =
    let one : (file : File) (a : ℕ) → section_errors (plan_of_groups n) g k file a 0 (made_section n i) ≡ [] = λ file a. section_clean n i g k file a 0 h low in
    let two : (file : File) (a : ℕ) → section_errors (plan_of_groups n) g (k + 1) file a 0 (made_section n i) ≡ [] = λ file a. section_clean n i g (k + 1) file a 0 h low in
    let slots = slots_clean n g in
    let sorted = none_sorted n in
    let far = none_far n in
    let header_only = none_hollow n in
    elim (cases_Bool (i == 0)) [
      | inl a ↦ elim (cases_Bool (i + 1 == n)) [ inl b ↦ simp (a, b, two, slots, sorted, far, header_only) refl | inr b ↦ simp (a, b, two, slots, far, header_only) refl ]
      | inr a ↦ elim (cases_Bool (i + 1 == n)) [ inl b ↦ simp (a, b, one, slots, sorted, header_only) refl | inr b ↦ simp (a, b, one, slots, header_only) refl ]
    ]

-- no other module sees a symbol
listed_clean : (n i g k : ℕ) → flat_map_from (exported_errors (plan_of_groups n) g) k (made_files n i) ≡ []
unfolding exported_errors plan_of_groups
listed_clean n i g k =
    elim (cases_Bool (i == 0)) [
      | inl a ↦ elim (cases_Bool (i + 1 == n)) [ inl b ↦ simp (a, b) refl | inr b ↦ simp (a, b) refl ]
      | inr a ↦ elim (cases_Bool (i + 1 == n)) [ inl b ↦ simp (a, b) refl | inr b ↦ simp (a, b) refl ]
    ]

-- there is no table of all symbols
table_clean : (n i g k : ℕ) → flat_map_from (table_errors (plan_of_groups n) g) k (made_files n i) ≡ []
unfolding table_errors file_items plan_of_groups
table_clean n i g k =
    elim (cases_Bool (i == 0)) [
      | inl a ↦ elim (cases_Bool (i + 1 == n)) [ inl b ↦ simp (a, b) refl | inr b ↦ simp (a, b) refl ]
      | inr a ↦ elim (cases_Bool (i + 1 == n)) [ inl b ↦ simp (a, b) refl | inr b ↦ simp (a, b) refl ]
    ]

pub no_group_errors : (n : ℕ) → IsCount n → flat_map_from (group_errors (plan_of_groups n)) 0 (plan_of_groups n).groups ≡ []
unfolding group_errors plan_of_groups
no_group_errors n h = nothing_from (group_errors (plan_of_groups n)) (made_group n) 0 n (λ k low high. (let files = files_clean n k k (frames_at (plan_of_groups n) (made_group n k)) 0 h (omega arith) in let listed = listed_clean n k k 0 in let table = table_clean n k k 0 in rw (files, listed, table) refl))

-- ---- no faults

pub no_errors : (n : ℕ) → IsCount n → errors (plan_of_groups n) ≡ []
unfolding errors
no_errors n h = rw (clauses_hold n h, no_part_errors n, no_group_errors n h) refl
