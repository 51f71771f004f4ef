-- The clauses on indexes, fields, the dynamic symbol table, flags and names hold of the plan of n groups, and so do all.
use Rattle.std.proofs.Common.{◌≡◌, ℕ, zero, suc, ◌+◌, ◌<◌, ◌≤◌, ◌==◌, inl, inr, Bool, true, false, List, [], ◌++◌, refl, sym, ap, ◌∙◌, arith}
use Rattle.std.specs.Prelude.{Option, Some, None, Ok, nat_lt, not, ◌&&◌, if◌then◌else◌}
use Rattle.std.specs.List.{list_all}
use Rattle.std.proofs.lemmas.Bool.{cases_Bool, cases_eq, le-leb, lt-ltb, le-ltb, and_from}
use Rattle.wild_types.specs.declared.file.File.{File}
use Rattle.wild_types.specs.declared.symbol.Symbol.{Symbol}
use Rattle.wild_types.specs.Lists.{first_failing}
use Rattle.wild_types.specs.Lookups.{files_of, file_of}
use Rattle.wild_types.specs.Rows.{row_of}
use Rattle.wild_reloc.specs.TableX86_64.{x86_64_row}
use Rattle.wild_plan_rules.specs.declared.group_starts.Starts.{Starts}
use Rattle.wild_plan_rules.specs.Contents.{each_section, fields_lie, relocations_are_read}
use Rattle.wild_plan_rules.specs.Fronts.{reversed_fits}
use Rattle.wild_plan_rules.specs.GroupStarts.{no_starts, start_astray}
use Rattle.wild_plan_rules.specs.ZeroFree.{file_names_fit, group_names_fit, symbol_name_fits}
use Rattle.wild_plan_rules.specs.Indexes.{group_indexes_fit, file_indexes_fit, section_indexes_fit, relocation_index_fits, definition_is_own, range_follows, range_out_of_order, symbol_misfit}
use Rattle.wild_types.specs.FileSymbols.{copied_definitions, first_double_copy}
use Rattle.wild_types.specs.Flags.{has_flag}
use Rattle.wild_needs.specs.DynamicSymbols.{dynamic_symbols, misplaced}
use Rattle.wild_plan_rules.specs.SlotFlags.{is_tested, first_tested_failing, dynamic_is_interposable, stub_is_value, stub_has_slot, one_slot_for_address, thread_slot_alone, resolver_is_own, slot_agrees, resolver_moves, second_slot_fits}
use Rattle.wild_plan_rules.specs.ClauseTests.{check_indexes, check_fields, check_thunks, check_dynsyms, check_slot_flags, check_tls, check_starts, check_hashes, check_names, check_reversed, check_partial, check_fronts}
use Rattle.wild_plan_rules.specs.Partial.{has_no_slot, is_no_debug, is_of_kind, file_tables_fit, tables_fit, group_fits_members, table_has_data}
use Rattle.wild_plan_rules.specs.WellFormed.{first_clause}
use Rattle.wild_sample_layouts.specs.PlanOfGroups.{made_section, made_object, made_files, made_symbol, made_group, made_relocation, plan_of_groups, callee}
use Rattle.wild_sample_layouts.specs.Laws.{IsCount}
use Rattle.wild_sample_layouts.proofs.ListLemmas.{made_from, none_fails, length_made, list_all_made}
use Rattle.wild_sample_layouts.proofs.PlaceLemmas.{sections_pass, sizes_hold, counts_hold, order_holds, roles_hold, sections_hold, segments_hold}
use Rattle.wild_sample_layouts.proofs.SlotLemmas.{slots_hold}
use Rattle.wild_sample_layouts.proofs.FileLemmas.{all_files, through_files}
use Rattle.wild_sample_layouts.proofs.ContentLemmas.{shares_hold, inputs_hold}
use Rattle.wild_sample_layouts.proofs.VersionLemmas.{versions_hold}

-- ---- clause 9

relocation_indexes : (n i : ℕ) → IsCount n → list_all (relocation_index_fits (plan_of_groups n)) (made_section n i).relocations ≡ true
unfolding made_section plan_of_groups
relocation_indexes n i c =
    let some = c.some in
    let long = length_made made_symbol 0 n in
    list_all_made (relocation_index_fits (plan_of_groups n)) (made_relocation n i) 0 8 (λ j low high. rw long (lt-ltb (callee n i j) n (omega arith)))

section_indexes : (n i : ℕ) → IsCount n → section_indexes_fit (plan_of_groups n) (made_section n i) ≡ true
unfolding made_section plan_of_groups
section_indexes n i c = and_from _ _ refl (relocation_indexes n i c)

file_indexes : (n i : ℕ) → IsCount n → i < n → group_indexes_fit (plan_of_groups n) (made_group n i) ≡ true
unfolding plan_of_groups
file_indexes n i c h =
    let long = length_made made_symbol 0 n in
    let own = section_indexes n i c in
    all_files (file_indexes_fit (plan_of_groups n)) n i refl (rw (long, le-leb (i + 1) n (omega arith), own) refl) refl

ranges_follow : (n a m : ℕ) → range_out_of_order a a (made_from (made_group n) a m) ≡ None
ranges_follow n a zero = refl
ranges_follow n a (suc m) =
    let e = le-leb a a (omega arith) in
    rw (through_files range_follows a n a (λ t. refl) (λ t. refl) (Some (a + 1)) (rw e refl)) (ranges_follow n (a + 1) m)

-- the file of a symbol
file_found : (n k i : ℕ) (rest : List File) → i ≡ k → file_of (made_files n k ++ rest) i ≡ Some (made_object n k)
file_found n k i rest e =
    let y = le-leb 0 i (omega arith) in
    let z : nat_lt i 0 ≡ false = le-ltb i 0 (omega arith) in
    let a = le-leb k i (omega arith) in
    let b = lt-ltb i (k + 1) (omega arith) in
    elim (cases_Bool (k == 0)) [ inl f ↦ rw (f, y, z, a, b) refl | inr f ↦ rw (f, a, b) refl ]

file_skipped : (n k i : ℕ) (rest : List File) → k < i → file_of (made_files n k ++ rest) i ≡ file_of rest i
file_skipped n k i rest e =
    let y = le-leb 0 i (omega arith) in
    let z : nat_lt i 0 ≡ false = le-ltb i 0 (omega arith) in
    let a = le-leb k i (omega arith) in
    let b : nat_lt i (k + 1) ≡ false = le-ltb i (k + 1) (omega arith) in
    elim (cases_Bool (k == 0)) [
      | inl f ↦ elim (cases_Bool (k + 1 == n)) [ inl g ↦ simp (f, g, y, z, a, b) refl | inr g ↦ simp (f, g, y, z, a, b) refl ]
      | inr f ↦ elim (cases_Bool (k + 1 == n)) [ inl g ↦ simp (f, g, y, z, a, b) refl | inr g ↦ simp (f, g, a, b) refl ]
    ]

pub file_made : (n a m i : ℕ) → a ≤ i → i < a + m → file_of (files_of (made_from (made_group n) a m)) i ≡ Some (made_object n i)
file_made n a zero i low high = absurd (omega arith)
file_made n a (suc m) i low high =
    elim (cases_eq i a) [
      | inl e ↦ file_found n a i (files_of (made_from (made_group n) (a + 1) m)) e ∙ ap (λ (k : ℕ). Some (made_object n k)) (sym e)
      | inr e ↦ file_skipped n a i (files_of (made_from (made_group n) (a + 1) m)) (omega arith) ∙ file_made n (a + 1) m i (omega arith) (omega arith)
    ]

none_astray : (n a m : ℕ) → a + m ≡ n → symbol_misfit (plan_of_groups n) (files_of (made_from (made_group n) 0 n)) a (made_from made_symbol a m) ≡ None
none_astray n a zero e = refl
none_astray n a (suc m) e = rw (file_made n 0 n a (omega arith) (omega arith)) (none_astray n (a + 1) m (omega arith))

definitions_own : (n : ℕ) → first_failing (definition_is_own (plan_of_groups n)) 0 (made_from made_symbol 0 n) ≡ None
definitions_own n = none_fails (definition_is_own (plan_of_groups n)) made_symbol 0 0 n (λ k low high. refl)

group_indexes : (n : ℕ) → IsCount n → first_failing (group_indexes_fit (plan_of_groups n)) 0 (made_from (made_group n) 0 n) ≡ None
group_indexes n c = none_fails (group_indexes_fit (plan_of_groups n)) (made_group n) 0 0 n (λ k low high. file_indexes n k c (omega arith))

-- no group has copies
no_copies : (n i : ℕ) → copied_definitions (plan_of_groups n) (made_group n i) ≡ []
no_copies n i =
    elim (cases_Bool (i == 0)) [
      | inl a ↦ elim (cases_Bool (i + 1 == n)) [ inl b ↦ rw (a, b) refl | inr b ↦ rw (a, b) refl ]
      | inr a ↦ elim (cases_Bool (i + 1 == n)) [ inl b ↦ rw (a, b) refl | inr b ↦ rw (a, b) refl ]
    ]

none_copied : (n i a m : ℕ) → first_double_copy (plan_of_groups n) [] i (made_from (made_group n) a m) ≡ None
none_copied n i a zero = refl
none_copied n i a (suc m) = rw (no_copies n a) (none_copied n (i + 1) (a + 1) m)

pub indexes_hold : (n : ℕ) → IsCount n → check_indexes (plan_of_groups n) ≡ Ok tt
unfolding check_indexes plan_of_groups
indexes_hold n c = rw (none_astray n 0 n (omega arith), group_indexes n c, none_copied n 0 0 n, definitions_own n, ranges_follow n 0 n) refl

-- ---- clauses 10, 12, 15 to 17 and 19

fields_fit : (n : ℕ) → first_failing (each_section (fields_lie (plan_of_groups n).machine)) 0 (made_from (made_group n) 0 n) ≡ None
unfolding made_section plan_of_groups row_of x86_64_row
fields_fit n = sections_pass (fields_lie (plan_of_groups n).machine) n (λ i h. refl)

relocations_read : (n : ℕ) → first_failing (each_section relocations_are_read) 0 (made_from (made_group n) 0 n) ≡ None
unfolding made_section
relocations_read n = sections_pass relocations_are_read n (λ i h. refl)

pub fields_hold : (n : ℕ) → check_fields (plan_of_groups n) ≡ Ok tt
unfolding check_fields plan_of_groups
fields_hold n = rw (fields_fit n, relocations_read n) refl

pub thunks_hold : (n : ℕ) → check_thunks (plan_of_groups n) ≡ Ok tt
unfolding check_thunks plan_of_groups
thunks_hold n = refl

pub tls_holds : (n : ℕ) → check_tls (plan_of_groups n) ≡ Ok tt
unfolding check_tls plan_of_groups
tls_holds n = refl

-- there are no parts with strings or symbols
abbrev no_places : Starts (Option ℕ)
no_places = record { dynstr = None; strtab = None; frames = None; locals = None; globals = None }

none_starts_astray : (n a m : ℕ) → start_astray no_places no_starts a (made_from (made_group n) a m) ≡ None
none_starts_astray n a zero = refl
none_starts_astray n a (suc m) = none_starts_astray n (a + 1) m

pub starts_hold : (n : ℕ) → check_starts (plan_of_groups n) ≡ Ok tt
unfolding check_starts plan_of_groups
starts_hold n = rw (none_starts_astray n 0 n) refl

pub hashes_hold : (n : ℕ) → check_hashes (plan_of_groups n) ≡ Ok tt
unfolding check_hashes plan_of_groups
hashes_hold n = refl

file_names : (n i : ℕ) → group_names_fit (made_group n i) ≡ true
unfolding made_section
file_names n i = all_files file_names_fit n i refl refl refl

pub names_hold : (n : ℕ) → check_names (plan_of_groups n) ≡ Ok tt
unfolding check_names plan_of_groups
names_hold n = rw (none_fails symbol_name_fits made_symbol 0 0 n (λ k low high. refl), none_fails group_names_fit (made_group n) 0 0 n (λ k low high. file_names n k)) refl

-- ---- clauses 13 and 14

-- no symbol has an index in the dynamic symbol table
no_dynsym_misplaced : (table : List ℕ) (i a m : ℕ) → misplaced table i (made_from made_symbol a m) ≡ None
no_dynsym_misplaced table i a zero = refl
no_dynsym_misplaced table i a (suc m) = no_dynsym_misplaced table (i + 1) (a + 1) m

pub dynsyms_hold : (n : ℕ) → check_dynsyms (plan_of_groups n) ≡ Ok tt
unfolding check_dynsyms plan_of_groups
dynsyms_hold n = rw (no_dynsym_misplaced (dynamic_symbols (plan_of_groups n)) 0 0 n) refl

none_asked_fails : (n : ℕ) (t : Symbol → Bool) (i a m : ℕ) → ((k : ℕ) → t (made_symbol k) ≡ true) → first_tested_failing (plan_of_groups n) t i (made_from made_symbol a m) ≡ None
none_asked_fails n t i a zero h = refl
none_asked_fails n t i a (suc m) h = passed (is_tested (plan_of_groups n) i (made_symbol a)) (t (made_symbol a)) (h a) ∙ none_asked_fails n t (i + 1) (a + 1) m h
  where
    passed : (b c : Bool) → c ≡ true → (if b && not c then Some i else first_tested_failing (plan_of_groups n) t (i + 1) (made_from made_symbol (a + 1) m)) ≡ first_tested_failing (plan_of_groups n) t (i + 1) (made_from made_symbol (a + 1) m)
    passed true true h = refl
    passed true false h = cc
    passed false c h = refl

pub slot_flags_hold : (n : ℕ) → check_slot_flags (plan_of_groups n) ≡ Ok tt
unfolding check_slot_flags plan_of_groups has_flag
slot_flags_hold n =
    rw (
      none_asked_fails n dynamic_is_interposable 0 0 n (λ k. refl),
      none_asked_fails n stub_is_value 0 0 n (λ k. refl),
      none_asked_fails n stub_has_slot 0 0 n (λ k. refl),
      none_asked_fails n one_slot_for_address 0 0 n (λ k. refl),
      none_asked_fails n thread_slot_alone 0 0 n (λ k. refl),
      none_asked_fails n resolver_is_own 0 0 n (λ k. refl),
      none_asked_fails n slot_agrees 0 0 n (λ k. refl),
      none_asked_fails n resolver_moves 0 0 n (λ k. refl),
      none_asked_fails n (second_slot_fits (plan_of_groups n)) 0 0 n (λ k. refl),
    ) refl

-- ---- clauses 20 to 22

none_reversed : (n : ℕ) → first_failing (each_section (reversed_fits (plan_of_groups n).machine)) 0 (made_from (made_group n) 0 n) ≡ None
unfolding made_section plan_of_groups
none_reversed n = sections_pass (reversed_fits (plan_of_groups n).machine) n (λ i h. refl)

pub reversed_hold : (n : ℕ) → check_reversed (plan_of_groups n) ≡ Ok tt
unfolding check_reversed plan_of_groups
reversed_hold n = rw (none_reversed n) refl

-- symbols have neither slots nor indexes of the dynamic symbol table: both tests are of relocatable objects alone
no_slots : (n : ℕ) → first_failing (has_no_slot (plan_of_groups n)) 0 (made_from made_symbol 0 n) ≡ None
unfolding plan_of_groups
no_slots n = none_fails (has_no_slot (plan_of_groups n)) made_symbol 0 0 n (λ k low high. refl)

none_for_debuggers : (n : ℕ) → first_failing (each_section (is_no_debug (plan_of_groups n))) 0 (made_from (made_group n) 0 n) ≡ None
unfolding made_section plan_of_groups
none_for_debuggers n = sections_pass (is_no_debug (plan_of_groups n)) n (λ i h. refl)

kinds_fit : (n : ℕ) → first_failing (each_section (is_of_kind (plan_of_groups n))) 0 (made_from (made_group n) 0 n) ≡ None
unfolding made_section plan_of_groups
kinds_fit n = sections_pass (is_of_kind (plan_of_groups n)) n (λ i h. refl)

-- there are neither tables of relocations nor groups of sections
no_tables : (n i : ℕ) → tables_fit (made_group n i) ≡ true
unfolding made_section
no_tables n i = all_files file_tables_fit n i refl refl refl

no_members : (n : ℕ) → first_failing (each_section group_fits_members) 0 (made_from (made_group n) 0 n) ≡ None
unfolding made_section
no_members n = sections_pass group_fits_members n (λ i h. refl)

all_have_data : (n : ℕ) → first_failing (each_section table_has_data) 0 (made_from (made_group n) 0 n) ≡ None
unfolding made_section
all_have_data n = sections_pass table_has_data n (λ i h. refl)

pub partial_holds : (n : ℕ) → check_partial (plan_of_groups n) ≡ Ok tt
unfolding check_partial plan_of_groups
partial_holds n =
    rw (no_slots n, none_for_debuggers n, kinds_fit n, none_fails tables_fit (made_group n) 0 0 n (λ k low high. no_tables n k), no_members n, all_have_data n) refl

pub fronts_hold : (n : ℕ) → check_fronts (plan_of_groups n) ≡ Ok tt
unfolding check_fronts plan_of_groups
fronts_hold n = refl

-- ---- all clauses

pub clauses_hold : (n : ℕ) → IsCount n → first_clause (plan_of_groups n) ≡ Ok tt
unfolding first_clause
clauses_hold n c = rw (sizes_hold n c, counts_hold n c, order_holds n c, roles_hold n, sections_hold n, segments_hold n c, shares_hold n c, inputs_hold n, indexes_hold n c, fields_hold n, slots_hold n, thunks_hold n, dynsyms_hold n, slot_flags_hold n, tls_holds n, starts_hold n, hashes_hold n, versions_hold n, names_hold n, reversed_hold n, partial_holds n, fronts_hold n) refl
