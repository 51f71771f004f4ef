-- The clauses of a well-formed layout, one by one. The tests of a clause are listed in the order in which they are
-- evaluated.
--   fails n place    clause n fails at that place, if there is one
--   first_error r s  the first result if it is an error, else the second
--   check_sizes l    clause 1, and so on
use Rattle.std.specs.Prelude.{ℕ, true, [], drop, length, if◌then◌else◌, Option, Some, None, Result, Ok, Err}
use Rattle.std.specs.Int.{is_power_of_two}
use Rattle.wild_types.specs.declared.fault.Clause.{Clause}
use Rattle.wild_types.specs.declared.part.Role.TheVariants as role
use Rattle.wild_plan_rules.specs.declared.side.ImageOrMemory.TheVariants as side
use Rattle.wild_types.specs.declared.layout.Layout.{Layout}
use Rattle.wild_types.specs.Lists.{first_failing, unless}
use Rattle.wild_types.specs.Lookups.{image_size, files_of}
use Rattle.wild_needs.specs.HashShapes.{sysv_fits, gnu_fits, bucket_astray}
use Rattle.wild_needs.specs.Versions.{need_count}
use Rattle.wild_plan_rules.specs.VersionTables.{parent_is_there, definition_astray, mark_astray, versions_agree}
use Rattle.wild_plan_rules.specs.Places.{page_fits, part_fits, section_misfit, segment_fits, group_fits, part_out_of_order, repeated_role, role_missing, role_not_at, program_headers_astray, loaded_sections, roles, unexpected_dynamic, first_section_is_null, part_lies, is_in_loaded_section, takes_room}
use Rattle.wild_types.specs.Kinds.{is_fixed_static}
use Rattle.wild_plan_rules.specs.Counts.{counts_fit, role_has_needed_part}
use Rattle.wild_plan_rules.specs.Segments.{segment_out_of_order, bytes_are_loaded, leaves_zero_free, segment_in_image, dynamic_astray}
use Rattle.wild_types.specs.Parts.{part_with, entry_parts}
use Rattle.wild_plan_rules.specs.LoadedTables.{entries_astray, is_in_entries_section, entries_follow, table_is_loaded}
use Rattle.wild_plan_rules.specs.Indexes.{part_index_fits, primary_is_there, thunks_are_there, symbol_misfit, group_indexes_fit, definition_is_own, range_out_of_order, listed_misfit, sorted_is_there, merged_is_there, identity_is_there, entry_is_there}
use Rattle.wild_types.specs.FileSymbols.{first_double_copy}
use Rattle.wild_plan_rules.specs.SlotPlaces.{slots_astray, slot_is_even, block_needs_relr, block_has_base, pair_follows}
use Rattle.wild_needs.specs.DynamicSymbols.{dynamic_symbols, misplaced, first_misplaced_listed, first_listed}
use Rattle.wild_plan_rules.specs.SlotFlags.{first_tested_failing, dynamic_is_interposable, stub_is_value, stub_has_slot, one_slot_for_address, thread_slot_alone, resolver_is_own, slot_agrees, resolver_moves, second_slot_fits}
use Rattle.wild_plan_rules.specs.Contents.{addresses, each_section, share_mismatch, has_share_for_each_part, sorted_named_once, names_sorted, length_fits, frames_part_fits, discarded_is_empty, part_is_raw, merged_is_raw, identity_is_raw, primary_fits, front_is_free, allocation_agrees, bytes_take_room, fields_lie, relocations_are_read, tls_fits}
use Rattle.wild_plan_rules.specs.MisplacedSections.{misplaced_place}
use Rattle.wild_plan_rules.specs.Fronts.{reversed_fits, merged_fill, identity_fills, front_shared, identity_is_alone, properties_differ, keeps_tables, dynamic_is_dropped, headers_are_kept}
use Rattle.wild_plan_rules.specs.Partial.{has_no_segments, has_no_slot, has_no_pair, has_no_thunks, lists_no_symbols, has_no_index, is_no_debug, is_of_kind, tables_fit, group_fits_members, table_has_data}
use Rattle.wild_types.specs.FilePlaces.{first_misplaced_file}
use Rattle.wild_plan_rules.specs.Thunks.{ascends, thunks_misplaced, block_lost, machine_takes}
use Rattle.wild_plan_rules.specs.GroupStarts.{start_places, no_starts, start_astray}
use Rattle.wild_plan_rules.specs.ZeroFree.{name_fits, option_names_fit, section_name_fits, symbol_name_fits, group_names_fit, listed_name_fits, definition_name_fits, interp_fits}

-- clause n fails at that place, if there is one
abbrev pub fails : ℕ → Option ℕ → Result (Unit {0}) Clause
fails n None = Ok tt
fails n (Some i) = Err (record { clause = n; index = i })

-- the first result if it is an error, else the second
abbrev pub first_error : Result (Unit {0}) Clause → Result (Unit {0}) Clause → Result (Unit {0}) Clause
first_error (Err e) rest = Err e
first_error (Ok u) rest = rest

-- clause 1: sizes and alignments
unfoldable pub check_sizes : Layout → Result (Unit {0}) Clause
check_sizes l =
    first_error (fails 1 (unless (page_fits l.page_size)))
    (first_error (fails 1 (first_failing part_fits 0 l.parts))
    (first_error (fails 1 (section_misfit l.sections))
    (first_error (fails 1 (first_failing segment_fits 0 l.segments))
    (first_error (fails 1 (unless (is_power_of_two l.tls.align)))
    (fails 1 (first_failing group_fits 0 l.groups))))))

-- clause 2: counts
unfoldable pub check_counts : Layout → Result (Unit {0}) Clause
check_counts l = fails 2 (unless (counts_fit l))

-- clause 3: the order of the parts
unfoldable pub check_order : Layout → Result (Unit {0}) Clause
check_order l = fails 3 (part_out_of_order l 0 0 l.parts)

-- clause 4: the roles
unfoldable pub check_roles : Layout → Result (Unit {0}) Clause
check_roles l =
    first_error (fails 4 (repeated_role [] 0 l.parts))
    (first_error (fails 4 (role_not_at role.FileHeader 0 0 l.parts))
    (first_error (fails 4 (role_missing role.SectionHeaders l.parts))
    (first_error (fails 4 (role_missing role.Shstrtab l.parts))
    (first_error (fails 4 (program_headers_astray l))
    (first_error (fails 4 (first_failing (entries_follow l.parts) 0 l.parts))
    (first_error (fails 4 (first_failing (role_has_needed_part l) 0 roles))
    (fails 4 (unexpected_dynamic l))))))))

-- clause 5: parts in sections
unfoldable pub check_sections : Layout → Result (Unit {0}) Clause
check_sections l =
    first_error (fails 5 (unless (first_section_is_null l.sections)))
    (first_error (fails 5 (first_failing (part_lies l) 0 l.parts))
    (first_error (fails 5 (first_failing (is_in_loaded_section l) 0 l.parts))
    (fails 5 (first_failing (takes_room l) 0 l.parts))))

-- clause 6: relocation entries of an executable without a dynamic section
unfoldable pub check_entries : Layout → Result (Unit {0}) Clause
check_entries l =
    if is_fixed_static l.kind
    then first_error (fails 6 (entries_astray (entry_parts l.parts) 1 (drop 1 l.sections))) (fails 6 (first_failing (is_in_entries_section l) 0 l.parts))
    else Ok tt

-- clause 6: segments
unfoldable pub check_segments : Layout → Result (Unit {0}) Clause
check_segments l =
    first_error (fails 6 (segment_out_of_order l.page_size 0 0 l.segments))
    (first_error (fails 6 (first_failing (bytes_are_loaded side.Memory l l.segments) 1 (loaded_sections l)))
    (first_error (fails 6 (first_failing (leaves_zero_free l.kind) 0 l.segments))
    (first_error (fails 6 (first_failing (bytes_are_loaded side.File l l.segments) 1 (loaded_sections l)))
    (first_error (fails 6 (first_failing (segment_in_image (image_size l)) 0 l.segments))
    (first_error (fails 6 (dynamic_astray l (part_with role.Dynamic l.parts) 0 l.segments))
    (first_error (check_entries l)
    (fails 6 (first_failing (table_is_loaded l) 0 l.parts))))))))

-- clause 7: shares, prelude and epilogue
unfoldable pub check_shares : Layout → Result (Unit {0}) Clause
check_shares l =
    first_error (fails 7 (share_mismatch l.groups 0 l.parts))
    (first_error (fails 7 (first_failing (has_share_for_each_part (length l.parts)) 0 l.groups))
    (fails 7 (first_misplaced_file true 0 l.groups)))

-- clause 8: merged strings and the linker's identity string lie in raw parts
abbrev pub merged_and_identity_fit : Layout → Result (Unit {0}) Clause
merged_and_identity_fit l = first_error (fails 8 (first_failing (merged_is_raw l) 0 l.merged)) (fails 8 (unless (identity_is_raw l)))

-- clause 8: input sections in their parts
unfoldable pub check_inputs : Layout → Result (Unit {0}) Clause
check_inputs l =
    first_error (fails 8 (misplaced_place l))
    (first_error (fails 8 (sorted_named_once l 0 l.groups))
    (first_error (fails 8 (first_failing (names_sorted l) 0 l.sorted))
    (first_error (fails 8 (first_failing (each_section length_fits) 0 l.groups))
    (first_error (fails 8 (first_failing (each_section (frames_part_fits l)) 0 l.groups))
    (first_error (fails 8 (first_failing (each_section discarded_is_empty) 0 l.groups))
    (first_error (fails 8 (first_failing (each_section (part_is_raw l)) 0 l.groups))
    (first_error (merged_and_identity_fit l)
    (first_error (fails 8 (unless (primary_fits l)))
    (first_error (fails 8 (unless (front_is_free l)))
    (first_error (fails 8 (first_failing (each_section (allocation_agrees l)) 0 l.groups))
    (fails 8 (first_failing (each_section (bytes_take_room l)) 0 l.groups))))))))))))

-- clause 9: indexes
unfoldable pub check_indexes : Layout → Result (Unit {0}) Clause
check_indexes l =
    first_error (fails 9 (first_failing (part_index_fits l) 0 l.parts))
    (first_error (fails 9 (unless (primary_is_there l)))
    (first_error (fails 9 (symbol_misfit l (files_of l.groups) 0 l.symbols))
    (first_error (fails 9 (first_failing (group_indexes_fit l) 0 l.groups))
    (first_error (fails 9 (listed_misfit l))
    (first_error (fails 9 (first_failing (parent_is_there l) 0 l.verdefs))
    (first_error (fails 9 (first_failing (thunks_are_there l) 0 l.thunk_blocks))
    (first_error (fails 9 (first_failing (sorted_is_there l) 0 l.sorted))
    (first_error (fails 9 (first_failing (merged_is_there l) 0 l.merged))
    (first_error (fails 9 (unless (identity_is_there l)))
    (first_error (fails 9 (unless (entry_is_there l l.entry)))
    (first_error (fails 9 (first_double_copy l [] 0 l.groups))
    (first_error (fails 9 (first_failing (definition_is_own l) 0 l.symbols))
    (fails 9 (range_out_of_order 0 0 l.groups))))))))))))))

-- clause 10: fields
unfoldable pub check_fields : Layout → Result (Unit {0}) Clause
check_fields l =
    first_error (fails 10 (first_failing (each_section (fields_lie l.machine)) 0 l.groups))
    (fails 10 (first_failing (each_section relocations_are_read) 0 l.groups))

-- clause 11: addresses of slots and stubs
unfoldable pub check_slots : Layout → Result (Unit {0}) Clause
check_slots l =
    first_error (fails 11 (slots_astray l))
    (first_error (fails 11 (first_failing slot_is_even 0 l.symbols))
    (first_error (fails 11 (first_failing (block_needs_relr l) 0 l.parts))
    (first_error (fails 11 (unless (pair_follows l)))
    (fails 11 (first_failing block_has_base 0 l.parts)))))

-- clause 12: addresses of thunks
unfoldable pub check_thunks : Layout → Result (Unit {0}) Clause
check_thunks l =
    first_error (fails 12 (first_failing ascends 0 l.thunk_blocks))
    (first_error (fails 12 (thunks_misplaced l))
    (first_error (fails 12 (block_lost l 0 l.thunk_blocks))
    (fails 12 (first_failing (machine_takes l.machine) 0 l.thunk_blocks))))

-- clause 13: the dynamic symbol table
unfoldable pub check_dynsyms : Layout → Result (Unit {0}) Clause
check_dynsyms l =
    first_error (fails 13 (misplaced (dynamic_symbols l) 0 l.symbols))
    (fails 13 (first_misplaced_listed l (first_listed l) 0 l.dynsyms))

-- clause 14: flags and slots
unfoldable pub check_slot_flags : Layout → Result (Unit {0}) Clause
check_slot_flags l =
    first_error (fails 14 (first_tested_failing l dynamic_is_interposable 0 l.symbols))
    (first_error (fails 14 (first_tested_failing l stub_is_value 0 l.symbols))
    (first_error (fails 14 (first_tested_failing l stub_has_slot 0 l.symbols))
    (first_error (fails 14 (first_tested_failing l one_slot_for_address 0 l.symbols))
    (first_error (fails 14 (first_tested_failing l thread_slot_alone 0 l.symbols))
    (first_error (fails 14 (first_tested_failing l resolver_is_own 0 l.symbols))
    (first_error (fails 14 (first_tested_failing l slot_agrees 0 l.symbols))
    (first_error (fails 14 (first_tested_failing l resolver_moves 0 l.symbols))
    (fails 14 (first_tested_failing l (second_slot_fits l) 0 l.symbols)))))))))

-- clause 15: thread-local data
unfoldable pub check_tls : Layout → Result (Unit {0}) Clause
check_tls l = fails 15 (unless (tls_fits l))

-- clause 16: where a group's strings, frames and symbols begin
unfoldable pub check_starts : Layout → Result (Unit {0}) Clause
check_starts l = fails 16 (start_astray (start_places l.parts) no_starts 0 l.groups)

-- clause 17: hash tables
unfoldable pub check_hashes : Layout → Result (Unit {0}) Clause
check_hashes l =
    first_error (fails 17 (unless (sysv_fits l.sysv_hash)))
    (first_error (fails 17 (unless (gnu_fits l l.gnu_hash)))
    (fails 17 (bucket_astray l.gnu_hash l.dynsyms)))

-- clause 18: versions
unfoldable pub check_versions : Layout → Result (Unit {0}) Clause
check_versions l =
    first_error (fails 18 (definition_astray l))
    (first_error (fails 18 (mark_astray (need_count l) 0 l.groups))
    (fails 18 (unless (versions_agree l))))

-- clause 19: names
unfoldable pub check_names : Layout → Result (Unit {0}) Clause
check_names l =
    first_error (fails 19 (unless (option_names_fit l.options)))
    (first_error (fails 19 (first_failing name_fits 0 l.options.auxiliary))
    (first_error (fails 19 (first_failing section_name_fits 0 l.sections))
    (first_error (fails 19 (first_failing symbol_name_fits 0 l.symbols))
    (first_error (fails 19 (first_failing group_names_fit 0 l.groups))
    (first_error (fails 19 (first_failing listed_name_fits 0 l.dynsyms))
    (first_error (fails 19 (first_failing definition_name_fits 0 l.verdefs))
    (fails 19 (unless (interp_fits l.interp)))))))))

-- clause 20: reversed sections
unfoldable pub check_reversed : Layout → Result (Unit {0}) Clause
check_reversed l = fails 20 (first_failing (each_section (reversed_fits l.machine)) 0 l.groups)

-- clause 21: what is allowed only in a relocatable object, and what is not allowed there
unfoldable pub check_partial : Layout → Result (Unit {0}) Clause
check_partial l =
    first_error (fails 21 (unless (has_no_segments l)))
    (first_error (fails 21 (first_failing (has_no_slot l) 0 l.symbols))
    (first_error (fails 21 (unless (has_no_pair l)))
    (first_error (fails 21 (first_failing (has_no_thunks l) 0 l.thunk_blocks))
    (first_error (fails 21 (unless (lists_no_symbols l)))
    (first_error (fails 21 (first_failing (has_no_index l) 0 l.symbols))
    (first_error (fails 21 (first_failing (each_section (is_no_debug l)) 0 l.groups))
    (first_error (fails 21 (first_failing (each_section (is_of_kind l)) 0 l.groups))
    (first_error (fails 21 (first_failing tables_fit 0 l.groups))
    (first_error (fails 21 (first_failing (each_section group_fits_members) 0 l.groups))
    (fails 21 (first_failing (each_section table_has_data) 0 l.groups)))))))))))

-- clause 22: merged strings, the linker's identity string, properties
unfoldable pub check_fronts : Layout → Result (Unit {0}) Clause
check_fronts l =
    first_error (fails 22 (merged_fill l))
    (first_error (fails 22 (unless (identity_fills l)))
    (first_error (fails 22 (properties_differ [] 0 l.properties))
    (first_error (fails 22 (unless (keeps_tables l)))
    (first_error (fails 22 (first_failing (dynamic_is_dropped l) 0 l.parts))
    (first_error (fails 22 (front_shared 0 l.merged))
    (first_error (fails 22 (unless (identity_is_alone l)))
    (fails 22 (first_failing (headers_are_kept l) 0 l.parts))))))))
