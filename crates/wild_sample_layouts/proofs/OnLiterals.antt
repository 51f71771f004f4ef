use Rattle.std.specs.Prelude.{⊤}
use Rattle.wild_words.specs.Extents.{least_extent, first_overlap}
use Rattle.wild_words.specs.Words.{word, number, place}
use Rattle.wild_reloc.specs.TableX86_64.{x86_64_row}
use Rattle.wild_reloc.specs.TableAArch64.{static_row, thread_row}
use Rattle.wild_types.specs.Addresses.{raw_value}
use Rattle.wild_types.specs.Flags.{has_flag}
use Rattle.wild_types.specs.Lookups.{bit, image_size}
use Rattle.wild_types.specs.Rows.{row_of}
use Rattle.wild_slot.specs.Treatment.{row_treatment, treatment}
use Rattle.wild_slot.specs.SymbolWords.{slots_of}
use Rattle.wild_slot.specs.Slots.{slot}
use Rattle.wild_needs.specs.SlotShares.{slot_share, group_relr_got}
use Rattle.wild_needs.specs.Needs.{needs}
use Rattle.wild_needs.specs.DynamicPlaces.{section_named, first_entries, entries_bytes, need_number}
use Rattle.wild_needs.specs.TableSymbols.{file_items, table_strings}
use Rattle.wild_needs.specs.Entries.{rela_places, relr_places, dynamic_relocations, general_count}
use Rattle.wild_needs.specs.Dynamic.{dynamic_number, dynamic_flags, dynamic_flags_1, dynamic_entry, all_tags, tag_entries, dynamic_entries}
use Rattle.wild_needs.specs.DynamicStrings.{named_strings, string_entries, file_strings, needed_entries, string_start}
use Rattle.wild_needs.specs.HashShapes.{bucket_of}
use Rattle.wild_needs.specs.EntryPoint.{text_start, entry_point}
use Rattle.wild_plan_rules.specs.WellFormed.{first_clause}
use Rattle.wild_plan_rules.specs.SlotPlaces.{walk}
use Rattle.wild_plan_rules.specs.ClauseTests.{check_sizes, check_counts, check_order, check_roles, check_sections, check_entries, check_segments, check_shares, check_inputs, check_indexes, check_fields, check_slots, check_thunks, check_dynsyms, check_slot_flags, check_tls, check_starts, check_hashes, check_versions, check_names, check_reversed, check_partial, check_fronts}
use Rattle.wild_placement.specs.ReversedWords.{with_word_order}
use Rattle.wild_placement.specs.FrameInputs.{kept_size}
use Rattle.wild_placement.specs.PlacedSections.{placed_section, placed_files, sorted_input}
use Rattle.wild_layout.specs.Sites.{site, section_bytes}
use Rattle.wild_layout.specs.Merged.{merged_strings, address_for}
use Rattle.wild_layout.specs.SearchTable.{layout_fdes, search_table_faults}
use Rattle.wild_layout.specs.Choice.{choice_by, choice_around_by}
use Rattle.wild_layout.specs.Decide.{field_or_thunk, decided, decide}
use Rattle.wild_layout.specs.Faults.{relocation_errors, section_errors, slot_errors, thunk_errors, file_errors, exported_errors, table_errors, group_errors, errors}
use Rattle.wild_table_formats.specs.TableEntries.{table_fields}
use Rattle.wild_relax.specs.RowSequences.{is_partner, has_its_sequence}
use Rattle.wild_relax.specs.RowsOfType.{rows_with}
use Rattle.wild_relax.specs.Question.{minus_four, zero}
use Rattle.wild_relax.specs.Pattern.{cells_match_at, pattern_matches_before}
use Rattle.wild_relax.specs.Rows.{rows_x86_64, applies, first_row_x86_64, chosen_row_x86_64}
use Rattle.wild_relax.specs.RowsAArch64.{rows_aarch64, rows_with_aarch64, first_row_aarch64, chosen_row_aarch64}
use Rattle.wild_relax.specs.SequenceAArch64.{is_among}
use Rattle.wild_relr.specs.RunWords.{packed_on, packed, bitmaps, block, counted}

-- what an answer unfolds to compute the clauses of a layout that is written out
unfoldable pub clauses_on_literals : ⊤
unfolding least_extent first_overlap word number place x86_64_row static_row thread_row raw_value has_flag bit image_size row_of row_treatment treatment slots_of slot slot_share group_relr_got needs section_named first_entries entries_bytes need_number file_items table_strings rela_places relr_places dynamic_relocations general_count dynamic_number dynamic_flags dynamic_flags_1 dynamic_entry all_tags tag_entries dynamic_entries named_strings string_entries file_strings needed_entries string_start bucket_of text_start entry_point first_clause walk check_sizes check_counts check_order check_roles check_sections check_entries check_segments check_shares check_inputs check_indexes check_fields check_slots check_thunks check_dynsyms check_slot_flags check_tls check_starts check_hashes check_versions check_names check_reversed check_partial check_fronts with_word_order kept_size placed_section placed_files sorted_input packed_on packed bitmaps block counted
clauses_on_literals = tt

-- and to compute its faults
unfoldable pub errors_on_literals : ⊤
unfolding clauses_on_literals merged_strings address_for layout_fdes search_table_faults site section_bytes choice_by choice_around_by field_or_thunk decided decide relocation_errors section_errors slot_errors thunk_errors file_errors exported_errors table_errors group_errors errors table_fields is_partner has_its_sequence rows_with minus_four zero cells_match_at pattern_matches_before applies rows_x86_64 first_row_x86_64 chosen_row_x86_64 rows_aarch64 rows_with_aarch64 first_row_aarch64 chosen_row_aarch64 is_among
errors_on_literals = tt
