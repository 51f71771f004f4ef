-- The clauses that read the relocations of a section, after a change that keeps its length: the first test that fails.
use Rattle.wild_outlines.proofs.Common.{◌≡◌, ℕ, ◌+◌, ◌-◌, ◌^◌, Bool, true, false, List, [], ◌∷◌, length, Option, Some, None, Result, Ok, Err, refl, sym, ap, ◌∙◌, arith, inl, inr, ◌*◌, ◌≤◌, ◌==◌, ◌&&◌, ◌||◌, not, nat_lt, nat_le, slice_get, is_none, list_all, list_any, and_parts, cases_Bool, Clause, InputRelocation, InputSection, File, Group, Role, Layout, is_partial_link, first_failing, files_of, is_frame, has_role, placed_section, Change, found_section, changed_section, changed_file, changed_group, changed_layout, outline, each_section, written_section, KeepsCounts, place_unless}
use Rattle.std.proofs.lemmas.Bool.{and_from, or_left, or_right, eqb-true}
use Rattle.wild_types.specs.declared.part.Role.TheVariants as role
use Rattle.wild_types.specs.Lists.{unless}
use Rattle.wild_types.specs.Lookups.{is_rela}
use Rattle.wild_types.specs.FileSymbols.{first_double_copy}
use Rattle.wild_needs.specs.Needs.{name_bytes, group_share, total_share}
use Rattle.wild_needs.specs.DynamicSymbols.{dynamic_symbols}
use Rattle.wild_needs.specs.Versions.{need_count, versions_needed, versions_fit}
use Rattle.wild_plan_rules.specs.ClauseTests.{fails, first_error, check_counts, check_roles, check_indexes, check_fields, check_reversed, check_partial}
use Rattle.wild_plan_rules.specs.Places.{ends_low, relocation_count, roles, repeated_role, role_not_at, role_missing, program_headers_astray, unexpected_dynamic}
use Rattle.wild_plan_rules.specs.LoadedTables.{entries_follow}
use Rattle.wild_plan_rules.specs.Counts.{lists_fit, table_fits, counts_fit, role_has_needed_part}
use Rattle.wild_plan_rules.specs.Contents.{field_lies, fields_lie, is_read_well, relocations_are_read}
use Rattle.wild_plan_rules.specs.Fronts.{reversed_fits}
use Rattle.wild_plan_rules.specs.Indexes.{part_index_fits, primary_is_there, symbol_misfit, listed_misfit, thunks_are_there, merged_is_there, identity_is_there, entry_is_there, symbol_is_there, block_is_there, header_is_there, relocation_index_fits, section_indexes_fit, index_fits, file_indexes_fit, group_indexes_fit, sorted_is_there, definition_is_own, range_out_of_order}
use Rattle.wild_plan_rules.specs.Partial.{has_no_segments, has_no_slot, has_no_pair, has_no_thunks, lists_no_symbols, has_no_index, is_no_debug, is_of_kind, is_group, has_entries, table_fits as rela_fits, file_tables_fit, tables_fit, group_fits_members, table_has_data}
use Rattle.wild_plan_rules.proofs.ClauseLemmas.{None-from_fails, test_holds, first_holds, rest_holds}
use Rattle.wild_plan_rules.specs.VersionTables.{parent_is_there}
use Rattle.wild_plan_rules.specs.ZeroFree.{input_name_fits}
use Rattle.wild_clauses.specs.FileTests.{passes_all, relocation_passes, headers_are_there, section_passes}
use Rattle.wild_outlines.specs.MayChange.{file_at}
use Rattle.wild_outlines.specs.RefusalLaws.{entry_room, needs_no_part}
use Rattle.wild_outlines.proofs.ChangedItems.{length-with_item, slice_get-with_item, sum_replaced, list_all-at, list_all-replaced, failing-first, total-at, all_pass, none_fails, FoundSection, FoundSection-from_found, outline_file-changed, outline-found, outline-changed, same_by_outline, section_replaced}
use Rattle.wild_outlines.proofs.ClausesTests.{failing-same, entry_is_there-outline, definition_is_own-outline}
use Rattle.wild_outlines.proofs.ClausesGroups.{failing_sections-outline, symbol_misfit-outline, sorted_is_there-outline, first_double_copy-outline, range_out_of_order-outline, dynamic_symbols-outline, need_count-outline, versions_needed-outline}
use Rattle.wild_outlines.proofs.SharesSections.{counted_for, SameOutlines, placed_count, written_count, entry_size, entry_room_is, kept_room, none_written}
use Rattle.wild_outlines.proofs.SharesLemmas.{group_replaced, total_share-replaced, total_share-changed}
use Rattle.wild_outlines.proofs.ListLemmas.{some_same, and_true}

-- ---- tests of a list

pub list_all-weaker : {X : Type 0} (t u : X → Bool) → ((x : X) → t x ≡ true → u x ≡ true) → (xs : List X) → list_all t xs ≡ true → list_all u xs ≡ true
list_all-weaker t u h [] a = refl
list_all-weaker t u h (x ∷ xs) a =
    let p = and_parts (t x) (list_all t xs) a in
    and_from (u x) (list_all u xs) (h x p.0) (list_all-weaker t u h xs p.1)

-- ---- what the tests on one section say

relocation_parts : (l : Layout) (s : InputSection) (r : InputRelocation) → relocation_passes l s r ≡ true → (relocation_index_fits l r ≡ true) × (field_lies l.machine s r ≡ true) × (is_read_well r ≡ true)
unfolding relocation_passes
relocation_parts l s r h =
    let p = and_parts (relocation_index_fits l r) (field_lies l.machine s r && is_read_well r) h in
    let q = and_parts (field_lies l.machine s r) (is_read_well r) p.1 in
    (p.0, q.0, q.1)

pub record SectionTests (l : Layout) (s : InputSection) : Type 0 where
  pub indexes : section_indexes_fit l s ≡ true
  pub fields : fields_lie l.machine s ≡ true
  pub read : relocations_are_read s ≡ true
  pub reversed : reversed_fits l.machine s ≡ true

-- the tests of a section from the fourth on, and so on
abbrev from_reversed : Layout → InputSection → Bool
from_reversed l s = reversed_fits l.machine s && is_of_kind l s

abbrev from_name : Layout → InputSection → Bool
from_name l s = input_name_fits s && from_reversed l s

abbrev from_relocations : Layout → InputSection → Bool
from_relocations l s = list_all (relocation_passes l s) s.relocations && from_name l s

abbrev from_headers : Layout → InputSection → Bool
from_headers l s = headers_are_there l s && from_relocations l s

pub SectionTests-from_passes : (l : Layout) (s : InputSection) → section_passes l s ≡ true → SectionTests l s
unfolding section_passes
SectionTests-from_passes l s h =
    let a = and_parts (ends_low s.address s.size) (passes_all l s && from_headers l s) h in
    let b = and_parts (passes_all l s) (from_headers l s) a.1 in
    let c = and_parts (headers_are_there l s) (from_relocations l s) b.1 in
    let d = and_parts (list_all (relocation_passes l s) s.relocations) (from_name l s) c.1 in
    let e = and_parts (input_name_fits s) (from_reversed l s) d.1 in
    let f = and_parts (reversed_fits l.machine s) (is_of_kind l s) e.1 in
    let part = and_parts (nat_lt s.part (length l.parts)) (index_fits (length l.sections) s.singleton && list_all (header_is_there l) s.members) c.0 in
    let header = and_parts (index_fits (length l.sections) s.singleton) (list_all (header_is_there l) s.members) part.1 in
    let indexes = list_all-weaker (relocation_passes l s) (relocation_index_fits l) (λ r p. (relocation_parts l s r p).0) s.relocations d.0 in
    let fields = list_all-weaker (relocation_passes l s) (field_lies l.machine s) (λ r p. (relocation_parts l s r p).1) s.relocations d.0 in
    let read = list_all-weaker (relocation_passes l s) is_read_well (λ r p. (relocation_parts l s r p).2) s.relocations d.0 in
    record {
      indexes =
          and_from (nat_lt s.part (length l.parts)) (index_fits (length l.sections) s.singleton && (list_all (header_is_there l) s.members && list_all (relocation_index_fits l) s.relocations)) part.0
          (and_from (index_fits (length l.sections) s.singleton) (list_all (header_is_there l) s.members && list_all (relocation_index_fits l) s.relocations) header.0
          (and_from (list_all (header_is_there l) s.members) (list_all (relocation_index_fits l) s.relocations) header.1 indexes));
      fields = fields;
      read = or_right (is_frame s.slot) (list_all is_read_well s.relocations) read;
      reversed = f.0;
    }

-- ---- several tests of a clause

-- results one after another, with one of them between the others
chain : List (Result (Unit {0}) Clause) → Result (Unit {0}) Clause → Result (Unit {0}) Clause → Result (Unit {0}) Clause
chain [] x r = first_error x r
chain (b ∷ bs) x r = first_error b (chain bs x r)

-- where the others pass, the one decides
chain-one : (bs : List (Result (Unit {0}) Clause)) (x y r : Result (Unit {0}) Clause) → chain bs x r ≡ Ok tt → chain bs y r ≡ y
unfolding chain
chain-one [] x y r h = rw (rest_holds x r h) (by y)
  where
    by : (y : Result (Unit {0}) Clause) → first_error y (Ok tt) ≡ y
    by (Ok u) = refl
    by (Err e) = refl
chain-one (b ∷ bs) x y r h = rw (first_holds b (chain bs x r) h) (chain-one bs x y r (rest_holds b (chain bs x r) h))

chain-first : (bs : List (Result (Unit {0}) Clause)) (x r : Result (Unit {0}) Clause) → chain bs x r ≡ Ok tt → x ≡ Ok tt
unfolding chain
chain-first [] x r h = first_holds x r h
chain-first (b ∷ bs) x r h = chain-first bs x r (rest_holds b (chain bs x r) h)

-- ---- what a change that keeps the length gives

pub record Changed (l : Layout) (c : Change) (s : InputSection) : Type 0 where
  pub found : FoundSection l c s
  pub long : length c.bytes ≡ length s.bytes
  pub same : outline (changed_layout l c) ≡ outline l

pub Changed-from_found : (l : Layout) (c : Change) (s : InputSection) → found_section l c ≡ Some s → length c.bytes ≡ length s.bytes → Changed l c s
Changed-from_found l c s found long = record { found = FoundSection-from_found l c s found; long = long; same = outline-changed l c s found long }

-- ---- clause 2

-- the number of all relocations, less those of the old section, plus those of the new one
pub relocation_count-changed : (l : Layout) (c : Change) (s : InputSection) → FoundSection l c s → relocation_count (changed_layout l c) + length s.relocations ≡ relocation_count l + length c.relocations
relocation_count-changed l c s p = sum_replaced (λ (t : InputSection). length t.relocations) l c s p

abbrev lists_before : Layout → Bool
lists_before l = nat_le 1 (length l.sections) && nat_lt (length l.sections) (2 ^ 31) && nat_le (length l.segments) 65534 && nat_lt (length l.symbols) (2 ^ 32 - 1) && table_fits l

-- the other counts
record OthersFit (l : Layout) : Type 0 where
  pub lists : lists_before l ≡ true
  pub some_group : nat_le 1 (length l.groups) ≡ true
  pub groups : nat_lt (length l.groups) (2 ^ 32 - 1) ≡ true
  pub names : nat_lt (name_bytes l) (2 ^ 32) ≡ true
  pub dynstr : nat_lt (total_share l role.Dynstr) (2 ^ 32) ≡ true
  pub strtab : nat_lt (total_share l role.Strtab) (2 ^ 32) ≡ true
  pub versions : versions_fit l ≡ true

OthersFit-from_counts : (l : Layout) → counts_fit l ≡ true → OthersFit l
OthersFit-from_counts l h =
    let a = and_parts (lists_fit l && nat_lt (name_bytes l) (2 ^ 32) && nat_lt (total_share l role.Dynstr) (2 ^ 32) && nat_lt (total_share l role.Strtab) (2 ^ 32)) (versions_fit l) h in
    let b = and_parts (lists_fit l && nat_lt (name_bytes l) (2 ^ 32) && nat_lt (total_share l role.Dynstr) (2 ^ 32)) (nat_lt (total_share l role.Strtab) (2 ^ 32)) a.0 in
    let d = and_parts (lists_fit l && nat_lt (name_bytes l) (2 ^ 32)) (nat_lt (total_share l role.Dynstr) (2 ^ 32)) b.0 in
    let e = and_parts (lists_fit l) (nat_lt (name_bytes l) (2 ^ 32)) d.0 in
    let f = and_parts (lists_before l && nat_lt (relocation_count l) (2 ^ 32 - 1) && nat_le 1 (length l.groups)) (nat_lt (length l.groups) (2 ^ 32 - 1)) e.0 in
    let g = and_parts (lists_before l && nat_lt (relocation_count l) (2 ^ 32 - 1)) (nat_le 1 (length l.groups)) f.0 in
    let i = and_parts (lists_before l) (nat_lt (relocation_count l) (2 ^ 32 - 1)) g.0 in
    record { lists = i.0; some_group = g.1; groups = f.1; names = e.1; dynstr = d.1; strtab = b.1; versions = a.1 }

counts_hold : (l : Layout) → check_counts l ≡ Ok tt → counts_fit l ≡ true
unfolding check_counts
counts_hold l h = test_holds (counts_fit l) h

only_one : (x : Bool) → (x && true && true && true && true && true && true) ≡ x
only_one true = refl
only_one false = refl

counts_fit-changed : (l : Layout) (c : Change) (s : InputSection) → Changed l c s → OthersFit l → counts_fit (changed_layout l c) ≡ nat_lt (relocation_count (changed_layout l c)) (2 ^ 32 - 1)
counts_fit-changed l c s k f =
    let after = changed_layout l c in
    let symbols = same_by_outline dynamic_symbols dynamic_symbols-outline l after k.same in
    let needs = same_by_outline need_count (λ l. need_count-outline l.groups) l after k.same in
    let versions = same_by_outline versions_needed (λ l. versions_needed-outline l.groups) l after k.same in
    let dynstr = total_share-changed l c s k.found k.long k.same role.Dynstr (omega arith) in
    let strtab = total_share-changed l c s k.found k.long k.same role.Strtab (omega arith) in
    rw (symbols, length-with_item (changed_group c) c.group l.groups, dynstr, strtab, needs, versions, f.lists, f.some_group, f.groups, f.names, f.dynstr, f.strtab, f.versions) (only_one (nat_lt (relocation_count (changed_layout l c)) (2 ^ 32 - 1)))

pub check_counts-changed : (l : Layout) (c : Change) (s : InputSection) → Changed l c s → check_counts l ≡ Ok tt → check_counts (changed_layout l c) ≡ fails 2 (unless (nat_lt (relocation_count (changed_layout l c)) (2 ^ 32 - 1)))
unfolding check_counts
check_counts-changed l c s k h = ap (λ b. fails 2 (unless b)) (counts_fit-changed l c s k (OthersFit-from_counts l (counts_hold l h)))

-- ---- clause 4

-- the other tests
abbrev roles_before : Layout → List (Result (Unit {0}) Clause)
roles_before l =
    fails 4 (repeated_role [] 0 l.parts) ∷ fails 4 (role_not_at role.FileHeader 0 0 l.parts) ∷ fails 4 (role_missing role.SectionHeaders l.parts) ∷ fails 4 (role_missing role.Shstrtab l.parts)
    ∷ fails 4 (program_headers_astray l) ∷ fails 4 (first_failing (entries_follow l.parts) 0 l.parts) ∷ []

failing-where : {X : Type 0} (p t u : X → Bool) → ((x : X) → p x ≡ true → t x ≡ u x) → (i : ℕ) (xs : List X) → list_all p xs ≡ true → first_failing t i xs ≡ first_failing u i xs
failing-where p t u h i [] a = refl
failing-where p t u h i (x ∷ xs) a =
    let q = and_parts (p x) (list_all p xs) a in
    rw (h x q.0, failing-where p t u h (i + 1) xs q.1) refl

-- the section as the changed file places it
abbrev pub new_section : Layout → Change → InputSection → File → InputSection
new_section l c s f = placed_section (changed_layout l c) (changed_file c f) 0 (changed_section c s)

new_room : (l : Layout) (c : Change) (s : InputSection) (k : Changed l c s) (r : Role) → entry_room (changed_layout l c) r (new_section l c s k.found.file) ≡ entry_size r * counted_for r l (written_section l (changed_section c s))
new_room l c s k r =
    let o : SameOutlines l (changed_layout l c) k.found.file (changed_file c k.found.file) = record { layout = k.same; file = outline_file-changed l c s k.found k.long } in
    entry_room_is r (changed_layout l c) (new_section l c s k.found.file)
    ∙ ap (λ n. entry_size r * n) (placed_count r l (changed_layout l c) k.found.file (changed_file c k.found.file) o 0 (changed_section c s) ∙ written_count r l k.found.file 0 (changed_section c s) k.found.changeable)

-- the entries of the section need no more than its group: without relocations in the section the group would need that much less
old_room : (l : Layout) (c : Change) (s : InputSection) → Changed l c s → (r : Role) (g : Group) → slice_get l.groups c.group ≡ Some g → entry_size r * counted_for r l (written_section l s) ≤ group_share l r g
old_room l c s k r g at =
    let p = k.found in
    let without : Change = record c { relocations = [] } in
    let found : FoundSection l without s = record { group = p.group; file = p.file; in_layout = p.in_layout; in_group = p.in_group; in_file = p.in_file; changeable = p.changeable } in
    let same : outline (changed_layout l without) ≡ outline l = outline-found l without s found k.long in
    let sum = group_replaced l without s found k.long same r in
    let none = ap (λ n. entry_size r * n) (none_written r l (changed_section without s) refl) in
    let group = ap (group_share l r) (some_same (sym p.in_layout ∙ at)) in
    omega (arith, sum, none, group)

-- without a part of the role no group needs anything of it, so that after the change all need what the new section needs
role_needed : (l : Layout) (c : Change) (s : InputSection) (k : Changed l c s) (r : Role) → role_has_needed_part l r ≡ true → role_has_needed_part (changed_layout l c) r ≡ needs_no_part (changed_layout l c) (new_section l c s k.found.file) r
role_needed l c s k r h = by (list_any (has_role r) l.parts) h
  where
    all : total_share l r ≡ 0 → total_share (changed_layout l c) r ≡ entry_room (changed_layout l c) r (new_section l c s k.found.file)
    all none =
        let sum = total_share-replaced l c s k.found k.long k.same r in
        let low = total-at (group_share l r) c.group l.groups k.found.group k.found.in_layout in
        let group = group_replaced l c s k.found k.long k.same r in
        let old = old_room l c s k r k.found.group k.found.in_layout in
        let new = new_room l c s k r in
        omega (arith, none, sum, low, group, old, new)

    by : (b : Bool) → (b || total_share l r == 0) ≡ true → (b || total_share (changed_layout l c) r == 0) ≡ (b || entry_room (changed_layout l c) r (new_section l c s k.found.file) == 0)
    by true h = refl
    by false h = ap (λ n. n == 0) (all (eqb-true _ _ h))

roles_pass : (l : Layout) → check_roles l ≡ Ok tt → list_all (role_has_needed_part l) roles ≡ true
unfolding check_roles chain
roles_pass l h = all_pass (role_has_needed_part l) 0 roles (None-from_fails 4 (first_failing (role_has_needed_part l) 0 roles) (chain-first (roles_before l) (fails 4 (first_failing (role_has_needed_part l) 0 roles)) (fails 4 (unexpected_dynamic l)) h))

pub check_roles-changed : (l : Layout) (c : Change) (s : InputSection) (k : Changed l c s) → check_roles l ≡ Ok tt → check_roles (changed_layout l c) ≡ fails 4 (first_failing (needs_no_part (changed_layout l c) (new_section l c s k.found.file)) 0 roles)
unfolding check_roles chain
check_roles-changed l c s k h =
    let after = changed_layout l c in
    chain-one (roles_before l) (fails 4 (first_failing (role_has_needed_part l) 0 roles)) (fails 4 (first_failing (role_has_needed_part after) 0 roles)) (fails 4 (unexpected_dynamic l)) h
    ∙ ap (fails 4) (failing-where (role_has_needed_part l) (role_has_needed_part after) (needs_no_part after (new_section l c s k.found.file)) (role_needed l c s k) 0 roles (roles_pass l h))

-- where the changed group needs as much as before, no part is missing
pub roles_changed : (l : Layout) (c : Change) (s : InputSection) (k : Changed l c s) → KeepsCounts l s (changed_section c s) → check_roles l ≡ Ok tt → first_failing (needs_no_part (changed_layout l c) (new_section l c s k.found.file)) 0 roles ≡ None
roles_changed l c s k counts h =
    none_fails (needs_no_part (changed_layout l c) (new_section l c s k.found.file)) 0 roles (list_all-weaker (role_has_needed_part l) (needs_no_part (changed_layout l c) (new_section l c s k.found.file)) needed roles (roles_pass l h))
  where
    same : (r : Role) → total_share (changed_layout l c) r ≡ total_share l r
    same r = total_share-changed l c s k.found k.long k.same r (kept_room r l s (changed_section c s) counts)

    needed : (r : Role) → role_has_needed_part l r ≡ true → needs_no_part (changed_layout l c) (new_section l c s k.found.file) r ≡ true
    needed r p = sym (role_needed l c s k r p) ∙ (ap (λ n. list_any (has_role r) l.parts || n == 0) (same r) ∙ p)

-- ---- clause 9

abbrev file_rest : Layout → File → Bool
file_rest l f = list_all (symbol_is_there l) f.copies && block_is_there l f

abbrev range_is_there : Layout → File → Bool
range_is_there l f = f.symbol_count == 0 || nat_le (f.first_symbol + f.symbol_count) (length l.symbols)

-- what the test on a file says
record FileIndexes (l : Layout) (f : File) : Type 0 where
  pub range : range_is_there l f ≡ true
  pub sections : list_all (section_indexes_fit l) f.sections ≡ true
  pub others : file_rest l f ≡ true

FileIndexes-from_test : (l : Layout) (f : File) → file_indexes_fit l f ≡ true → FileIndexes l f
FileIndexes-from_test l f h =
    let a = and_parts (range_is_there l f) (list_all (section_indexes_fit l) f.sections && file_rest l f) h in
    let b = and_parts (list_all (section_indexes_fit l) f.sections) (file_rest l f) a.1 in
    record { range = a.0; sections = b.0; others = b.1 }

file_indexes-changed : (l : Layout) (c : Change) (f : File) → FileIndexes l f → file_indexes_fit l (changed_file c f) ≡ list_all (section_indexes_fit l) (changed_file c f).sections
file_indexes-changed l c f k = rw (k.range, k.others) (and_true (list_all (section_indexes_fit l) (changed_file c f).sections))

group_indexes-changed : (l : Layout) (c : Change) (s : InputSection) → Changed l c s → first_failing (group_indexes_fit l) 0 l.groups ≡ None
    → first_failing (group_indexes_fit l) 0 (changed_layout l c).groups ≡ place_unless c.group (section_indexes_fit l (changed_section c s))
group_indexes-changed l c s k h =
    let p = k.found in
    let groups = all_pass (group_indexes_fit l) 0 l.groups h in
    let files = list_all-at (group_indexes_fit l) c.group l.groups p.group p.in_layout groups in
    let old = FileIndexes-from_test l p.file (list_all-at (file_indexes_fit l) c.file p.group.files p.file p.in_group files) in
    let sections = list_all-replaced (section_indexes_fit l) (changed_section c) c.section p.file.sections s p.in_file old.sections in
    let file = file_indexes-changed l c p.file old ∙ sections in
    let group = list_all-replaced (file_indexes_fit l) (changed_file c) c.file p.group.files p.file p.in_group files ∙ file in
    failing-first (group_indexes_fit l) (changed_group c) c.group l.groups p.group p.in_layout groups ∙ ap (place_unless c.group) group

-- the tests of clause 9 before that on groups, and those after it
abbrev indexes_before : Layout → List (Result (Unit {0}) Clause)
indexes_before l = fails 9 (first_failing (part_index_fits l) 0 l.parts) ∷ fails 9 (unless (primary_is_there l)) ∷ fails 9 (symbol_misfit l (files_of l.groups) 0 l.symbols) ∷ []

abbrev indexes_after : Layout → Result (Unit {0}) Clause
indexes_after l =
    first_error (fails 9 (listed_misfit l))
    (first_error (fails 9 (first_failing (parent_is_there l) 0 l.verdefs))
    (first_error (fails 9 (first_failing (thunks_are_there l) 0 l.thunk_blocks))
    (first_error (fails 9 (first_failing (sorted_is_there l) 0 l.sorted))
    (first_error (fails 9 (first_failing (merged_is_there l) 0 l.merged))
    (first_error (fails 9 (unless (identity_is_there l)))
    (first_error (fails 9 (unless (entry_is_there l l.entry)))
    (first_error (fails 9 (first_double_copy l [] 0 l.groups))
    (first_error (fails 9 (first_failing (definition_is_own l) 0 l.symbols))
    (fails 9 (range_out_of_order 0 0 l.groups))))))))))

-- the clause, with the result of the test on groups
indexes_with : Option ℕ → Layout → Result (Unit {0}) Clause
indexes_with o l = chain (indexes_before l) (fails 9 o) (indexes_after l)

indexes_with-outline : (o : Option ℕ) (l : Layout) → indexes_with o (outline l) ≡ indexes_with o l
unfolding indexes_with chain
indexes_with-outline o l =
    rw (
      symbol_misfit-outline l 0 l.symbols,
      failing-same (sorted_is_there (outline l)) (sorted_is_there l) (sorted_is_there-outline l) 0 l.sorted,
      entry_is_there-outline l l.entry,
      first_double_copy-outline l [] 0 l.groups,
      failing-same (definition_is_own (outline l)) (definition_is_own l) (definition_is_own-outline l) 0 l.symbols,
      range_out_of_order-outline 0 0 l.groups,
    )
    refl

pub check_indexes-changed : (l : Layout) (c : Change) (s : InputSection) → Changed l c s → check_indexes l ≡ Ok tt → check_indexes (changed_layout l c) ≡ fails 9 (place_unless c.group (section_indexes_fit (changed_layout l c) (changed_section c s)))
unfolding check_indexes indexes_with chain
check_indexes-changed l c s k h =
    let after = changed_layout l c in
    let found = first_failing (group_indexes_fit l) 0 l.groups in
    let none = None-from_fails 9 (first_failing (group_indexes_fit l) 0 l.groups) (chain-first (indexes_before l) (fails 9 (first_failing (group_indexes_fit l) 0 l.groups)) (indexes_after l) h) in
    let groups = group_indexes-changed l c s k none in
    let passes : indexes_with (first_failing (group_indexes_fit l) 0 l.groups) after ≡ Ok tt = same_by_outline (indexes_with (first_failing (group_indexes_fit l) 0 l.groups)) (indexes_with-outline (first_failing (group_indexes_fit l) 0 l.groups)) l after k.same ∙ h in
    chain-one (indexes_before after) (fails 9 (first_failing (group_indexes_fit l) 0 l.groups)) (fails 9 (first_failing (group_indexes_fit after) 0 after.groups)) (indexes_after after) passes ∙ ap (fails 9) groups

-- ---- clauses 10 and 20

pub check_fields-changed : (l : Layout) (c : Change) (s : InputSection) → Changed l c s → check_fields l ≡ Ok tt
    → check_fields (changed_layout l c) ≡ first_error (fails 10 (place_unless c.group (fields_lie l.machine (changed_section c s)))) (fails 10 (place_unless c.group (relocations_are_read (changed_section c s))))
unfolding check_fields
check_fields-changed l c s k h =
    let first = fails 10 (first_failing (each_section (fields_lie l.machine)) 0 l.groups) in
    let second = fails 10 (first_failing (each_section relocations_are_read) 0 l.groups) in
    let fields = None-from_fails 10 (first_failing (each_section (fields_lie l.machine)) 0 l.groups) (first_holds first second h) in
    let read = None-from_fails 10 (first_failing (each_section relocations_are_read) 0 l.groups) (rest_holds first second h) in
    rw (section_replaced (fields_lie l.machine) l c s k.found fields, section_replaced relocations_are_read l c s k.found read) refl

pub check_reversed-changed : (l : Layout) (c : Change) (s : InputSection) → Changed l c s → check_reversed l ≡ Ok tt → check_reversed (changed_layout l c) ≡ fails 20 (place_unless c.group (reversed_fits l.machine (changed_section c s)))
unfolding check_reversed
check_reversed-changed l c s k h = ap (fails 20) (section_replaced (reversed_fits l.machine) l c s k.found (None-from_fails 20 (first_failing (each_section (reversed_fits l.machine)) 0 l.groups) h))

-- ---- clause 21

-- the tests before that on tables of relocations, and those after it
abbrev partial_before : Layout → List (Result (Unit {0}) Clause)
partial_before l =
    fails 21 (unless (has_no_segments l)) ∷ fails 21 (first_failing (has_no_slot l) 0 l.symbols) ∷ fails 21 (unless (has_no_pair l)) ∷ fails 21 (first_failing (has_no_thunks l) 0 l.thunk_blocks) ∷ fails 21 (unless (lists_no_symbols l))
    ∷ fails 21 (first_failing (has_no_index l) 0 l.symbols) ∷ fails 21 (first_failing (each_section (is_no_debug l)) 0 l.groups) ∷ fails 21 (first_failing (each_section (is_of_kind l)) 0 l.groups) ∷ []

abbrev partial_after : Layout → Result (Unit {0}) Clause
partial_after l = first_error (fails 21 (first_failing (each_section group_fits_members) 0 l.groups)) (fails 21 (first_failing (each_section table_has_data) 0 l.groups))

partial_with : Option ℕ → Layout → Result (Unit {0}) Clause
partial_with o l = chain (partial_before l) (fails 21 o) (partial_after l)

partial_with-outline : (o : Option ℕ) (l : Layout) → partial_with o (outline l) ≡ partial_with o l
unfolding partial_with chain
partial_with-outline o l =
    rw (
      failing_sections-outline (is_no_debug (outline l)) (is_no_debug l) (λ s. refl) 0 l.groups,
      failing_sections-outline (is_of_kind (outline l)) (is_of_kind l) (λ s. refl) 0 l.groups,
      failing_sections-outline group_fits_members group_fits_members (λ s. refl) 0 l.groups,
      failing_sections-outline table_has_data table_has_data (λ s. refl) 0 l.groups,
    )
    refl

pub check_partial-changed : (l : Layout) (c : Change) (s : InputSection) (k : Changed l c s) → check_partial l ≡ Ok tt → check_partial (changed_layout l c) ≡ fails 21 (place_unless c.group (file_tables_fit (changed_file c k.found.file)))
unfolding check_partial partial_with chain
check_partial-changed l c s k h =
    let after = changed_layout l c in
    let p = k.found in
    let none = None-from_fails 21 (first_failing tables_fit 0 l.groups) (chain-first (partial_before l) (fails 21 (first_failing tables_fit 0 l.groups)) (partial_after l) h) in
    let groups = all_pass tables_fit 0 l.groups none in
    let files = list_all-at tables_fit c.group l.groups p.group p.in_layout groups in
    let group = list_all-replaced file_tables_fit (changed_file c) c.file p.group.files p.file p.in_group files in
    let tables : first_failing tables_fit 0 after.groups ≡ place_unless c.group (file_tables_fit (changed_file c p.file)) =
    failing-first tables_fit (changed_group c) c.group l.groups p.group p.in_layout groups ∙ ap (place_unless c.group) group in
    let passes : partial_with (first_failing tables_fit 0 l.groups) after ≡ Ok tt = same_by_outline (partial_with (first_failing tables_fit 0 l.groups)) (partial_with-outline (first_failing tables_fit 0 l.groups)) l after k.same ∙ h in
    chain-one (partial_before after) (fails 21 (first_failing tables_fit 0 l.groups)) (fails 21 (first_failing tables_fit 0 after.groups)) (partial_after after) passes ∙ ap (fails 21) tables

-- without tables of relocations none of them misses an entry
no_tables : (l : Layout) (f : File) (ss : List InputSection) → is_partial_link l.kind ≡ false → list_all (is_of_kind l) ss ≡ true → list_all (rela_fits f) ss ≡ true
no_tables l f ss none h = list_all-weaker (is_of_kind l) (rela_fits f) (λ s p. by s (rw none at p)) ss h
  where
    by : (s : InputSection) → (not (is_rela s.slot) && (not (is_group s.slot) && is_none s.singleton)) ≡ true → rela_fits f s ≡ true
    by s p = or_left (not (is_rela s.slot)) (has_entries s.size (slice_get f.sections s.target)) (and_parts (not (is_rela s.slot)) (not (is_group s.slot) && is_none s.singleton) p).0

pub file_found : (l : Layout) (c : Change) (s : InputSection) (p : FoundSection l c s) → file_at l c ≡ Some p.file
file_found l c s p = rw p.in_layout p.in_group

-- all sections are of the object's kind
kinds_pass : (l : Layout) → check_partial l ≡ Ok tt → first_failing (each_section (is_of_kind l)) 0 l.groups ≡ None
unfolding check_partial
kinds_pass l h =
    let a = rest_holds (fails 21 (unless (has_no_segments l))) _ h in
    let b = rest_holds (fails 21 (first_failing (has_no_slot l) 0 l.symbols)) _ a in
    let d = rest_holds (fails 21 (unless (has_no_pair l))) _ b in
    let e = rest_holds (fails 21 (first_failing (has_no_thunks l) 0 l.thunk_blocks)) _ d in
    let f = rest_holds (fails 21 (unless (lists_no_symbols l))) _ e in
    let g = rest_holds (fails 21 (first_failing (has_no_index l) 0 l.symbols)) _ f in
    let i = rest_holds (fails 21 (first_failing (each_section (is_no_debug l)) 0 l.groups)) _ g in
    None-from_fails 21 (first_failing (each_section (is_of_kind l)) 0 l.groups) (first_holds (fails 21 (first_failing (each_section (is_of_kind l)) 0 l.groups)) _ i)

-- the tables of relocations of the changed file have an entry for each relocation: only a relocatable object has some
pub tables_changed : (l : Layout) (c : Change) (s : InputSection) (k : Changed l c s) → (is_partial_link l.kind ≡ true → file_tables_fit (changed_file c k.found.file) ≡ true) → check_partial l ≡ Ok tt → file_tables_fit (changed_file c k.found.file) ≡ true
tables_changed l c s k fits h =
    let after = changed_layout l c in
    let p = k.found in
    let kinds : first_failing (each_section (is_of_kind after)) 0 after.groups ≡ first_failing (each_section (is_of_kind l)) 0 l.groups =
    same_by_outline (λ n. first_failing (each_section (is_of_kind n)) 0 n.groups) (λ n. failing_sections-outline (is_of_kind (outline n)) (is_of_kind n) (λ s. refl) 0 n.groups) l after k.same in
    let groups = all_pass (each_section (is_of_kind l)) 0 after.groups (kinds ∙ kinds_pass l h) in
    let group = list_all-at (each_section (is_of_kind l)) c.group after.groups (changed_group c p.group) (slice_get-with_item (changed_group c) c.group l.groups p.group p.in_layout) groups in
    let file = list_all-at (λ (f : File). list_all (is_of_kind l) f.sections) c.file (changed_group c p.group).files (changed_file c p.file) (slice_get-with_item (changed_file c) c.file p.group.files p.file p.in_group) group in
    elim (cases_Bool (is_partial_link l.kind)) [
      | inl t ↦ fits t
      | inr none ↦ no_tables l (changed_file c p.file) (changed_file c p.file).sections none file
    ]
