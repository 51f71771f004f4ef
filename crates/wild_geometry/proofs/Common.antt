-- The names that many proofs of this crate cite, passed on from one place. Declares nothing.
pub use Rattle.std.proofs.lemmas.Bool.{and_from, and_parts, cases_Bool, eq-eqb, eqb-false, eqb-true, leb-true, ltb-true, ne_eqb, not-true, or_cases}
pub use Rattle.std.proofs.lemmas.List.{append-nil, append_assoc, length-append, length-map, length-replicate}
pub use Rattle.std.proofs.lemmas.List.Elements.{All-append, All-cons, All-contains, All-head, All-map, All-nil, All-tail, All-weaker, Contains-append_left, Contains-append_right}
pub use Rattle.std.proofs.lemmas.List.Kept.{AllPairs-cons}
pub use Rattle.std.proofs.lemmas.Option.{get_or_from_slice_get, same_Some, slice_get-get_or, slice_get_within}
pub use Rattle.std.specs.Int.{is_power_of_two}
pub use Rattle.std.specs.List.{list_all, list_any}
pub use Rattle.std.specs.Prelude.{All, AllPairs, Bool, Contains, Err, List, None, Ok, Option, Result, Some, [], count_ones, drop, false, find, flat_map, get_or, if◌then◌else◌, is_some, length, map, min, nat_le, nat_lt, not, option_and_then, option_map, option_to_list, replicate, slice_get, slice_index, slice_range, suc, take, true, zero, ℕ, ◌%◌, ◌&&◌, ◌*◌, ◌++◌, ◌+◌, ◌-◌, ◌/◌, ◌<◌, ◌==◌, ◌^◌, ◌||◌, ◌∷◌, ◌≡◌, ◌≤◌, ◌⊎◌}
pub use Rattle.wild_frames.specs.Frames.{frame_bytes}
pub use Rattle.wild_geometry.specs.PlacedSections.{IsPlacedSection, Ordered, Own}
pub use Rattle.wild_layout.proofs.PartialLemmas.{is_own}
pub use Rattle.wild_layout.proofs.SiteLemmas.{Contains-flat_map}
pub use Rattle.wild_layout.proofs.ThunkLemmas.{length-thunk_bytes}
pub use Rattle.wild_layout.specs.Content.{content, dynamic_room, file_content, unique_table}
unfoldable pub use Rattle.wild_layout.specs.Content.{frame_bytes_of, frames_bytes}
pub use Rattle.wild_layout.specs.Faults.{flat_map_from, part_errors}
pub use Rattle.wild_layout.specs.Geometry.{IsLaidOut, NamesSymbol}
pub use Rattle.wild_layout.specs.Image.{group_pieces, merged_and_identity_pieces, of_first_file, offset_in, owned_pieces, shares_before, some_piece, table_piece, table_pieces, thunk_piece, thunk_pieces}
unfoldable pub use Rattle.wild_layout.specs.Image.{pieces}
pub use Rattle.wild_layout.specs.SectionPlaces.{FieldLies, HasRoom, HasWords, SectionLies}
pub use Rattle.wild_layout.specs.Sites.{extent_of, item_bytes, section_bytes}
pub use Rattle.wild_layout.specs.SlotBytes.{header_bytes, slot_bytes}
pub use Rattle.wild_layout.specs.TablePlaces.{bytes_before, table_bytes}
pub use Rattle.wild_layout.specs.Thunks.{thunk_bytes}
pub use Rattle.wild_needs.specs.Dynamic.{dynamic_count}
pub use Rattle.wild_needs.specs.DynamicStrings.{needed_entries}
pub use Rattle.wild_needs.specs.DynamicSymbols.{first_listed}
pub use Rattle.wild_needs.specs.Needs.{bytes_if_last, group_share, has_last, share}
pub use Rattle.wild_placement.specs.FrameInputs.{frames_of}
unfoldable pub use Rattle.wild_placement.specs.FrameInputs.{kept_size}
pub use Rattle.wild_placement.specs.PlacedSections.{Input, address_after, as_loaded, file_frames, files_at, frames_at, of_last_file, placed_by, placed_file, placed_frames, placed_from, placed_sections, processed_sections, rela_with_target, sorted_by, sorted_in_file, sorted_in_group, sorted_inputs, sorted_sections, unread, without_relocations}
unfoldable pub use Rattle.wild_placement.specs.PlacedSections.{moved_relocations, placed_files, placed_section, sorted_input}
pub use Rattle.wild_placement.specs.ReversedWords.{reversed_offset, reversed_section}
unfoldable pub use Rattle.wild_placement.specs.ReversedWords.{with_word_order}
pub use Rattle.wild_plan_rules.proofs.ClauseLemmas.{None-from_fails}
pub use Rattle.wild_plan_rules.specs.ClauseTests.{fails, first_error}
unfoldable pub use Rattle.wild_plan_rules.specs.ClauseTests.{check_indexes}
pub use Rattle.wild_plan_rules.specs.Contents.{fields_lie, is_raw, length_fits, may_lack_bytes, section_misplaced}
pub use Rattle.wild_plan_rules.specs.Indexes.{group_indexes_fit, part_index_fits, symbol_misfit}
pub use Rattle.wild_plan_rules.specs.Partial.{table_has_data}
pub use Rattle.wild_plan_rules.specs.Places.{ends_low, part_fits, part_lies, part_out_of_order}
pub use Rattle.wild_plan_rules.specs.Thunks.{sections_in_ranges}
unfoldable pub use Rattle.wild_plan_rules.specs.WellFormed.{first_clause}
pub use Rattle.wild_records.specs.Abi.Segment.{pt_load}
pub use Rattle.wild_records.specs.Dynamic.{dynamic_entry_size}
pub use Rattle.wild_table_formats.specs.DynamicSection.{dynamic_bytes}
pub use Rattle.wild_types.proofs.FileLemmas.{same_bool}
pub use Rattle.wild_types.proofs.ListLemmas.{All-from_none_fails, total-prefix}
pub use Rattle.wild_types.specs.FilePlaces.{bool_eq, file_position_fits, first_misplaced_file, given, group_positions_fit, later_positions_fit}
pub use Rattle.wild_types.specs.FileRoles.{is_epilogue, is_prelude}
pub use Rattle.wild_types.specs.FileThunks.{thunk_size, thunks_of}
pub use Rattle.wild_types.specs.Item.{Item, item_of}
pub use Rattle.wild_types.specs.Kinds.{is_partial_link}
pub use Rattle.wild_types.specs.Lists.{first_failing, total, unless}
pub use Rattle.wild_types.specs.Lookups.{allocated, file_of, files_of, flags_of, has_bytes, has_counted, has_data, has_fields, has_range, has_range_bytes, has_relocations, header_only, is_allocated_section, is_discarded, is_filled, is_frame, is_header_only, is_header_only_at, is_header_only_part, is_loaded, is_read, is_rela, section_of_part, takes_file_bytes}
unfoldable pub use Rattle.wild_types.specs.Lookups.{image_size}
pub use Rattle.wild_types.specs.Parts.{has_role, part_with, role_place}
pub use Rattle.wild_types.specs.Rows.{field_bytes}
pub use Rattle.wild_types.specs.declared.file.File.{File}
pub use Rattle.wild_types.specs.declared.file.Group.{Group}
pub use Rattle.wild_types.specs.declared.input.InputRelocation.{InputRelocation}
pub use Rattle.wild_types.specs.declared.input.InputSection.{InputSection}
pub use Rattle.wild_types.specs.declared.input.Slot.{Slot}
pub use Rattle.wild_types.specs.declared.kind.Machine.{Machine}
pub use Rattle.wild_types.specs.declared.layout.DynamicSymbol.{DynamicSymbol}
pub use Rattle.wild_types.specs.declared.layout.Layout.{Layout}
pub use Rattle.wild_types.specs.declared.layout.SortedSection.{SortedSection}
pub use Rattle.wild_types.specs.declared.layout.Thunk.{Thunk}
pub use Rattle.wild_types.specs.declared.part.Part.{Part}
pub use Rattle.wild_types.specs.declared.part.Role.{Role}
pub use Rattle.wild_types.specs.declared.section.Section.{Section}
pub use Rattle.wild_types.specs.declared.section.Segment.{Segment}
pub use Rattle.wild_types.specs.declared.symbol.Symbol.{Symbol}
pub use Rattle.wild_words.proofs.Basics.{implied, or_other}
pub use Rattle.wild_words.proofs.ListLemmas.{All-append-left, All-append-right, All-flat_map, All-from_flat_map, All-from_list_all, All-optional, AllPairs-append, AllPairs-flat_map, AllPairs-nil, Contains-here, Contains-there, Found-from_list_any, ItemAt-within, flat_map-flat_map, flat_map-same, holds_at}
pub use Rattle.wild_words.specs.Overlay.{AreDisjoint, Disjoint, Piece, overlay}
pub use Rattle.wild_words.specs.declared.extents.Extent.{Extent}
pub use mathlib.Core.Logic.{inl, inr}
pub use mathlib.Core.Path.{ap, refl, subst, sym, ◌∙◌}
pub use native.Mathlib.Omega.{arith}
