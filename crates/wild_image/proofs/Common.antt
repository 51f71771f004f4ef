-- The names that many proofs of this crate cite, passed on from one place. Declares nothing.
pub use Rattle.std.proofs.lemmas.Bool.{and_parts, cases_Bool, cases_order, eqb-true, true≢false}
pub use Rattle.std.proofs.lemmas.List.{append-nil, append_assoc, drop_all, drop_more, get_or-set_other, get_or-set_same, get_or_default, length-append, length-take-le, nil_from_length, take_all, take_at, take_more}
pub use Rattle.std.proofs.lemmas.List.Elements.{All-head, All-nil, All-tail}
pub use Rattle.std.proofs.lemmas.List.FromFn.{fill_by_all}
pub use Rattle.std.proofs.lemmas.Option.{get_or_from_slice_get, slice_get-get_or, slice_get_read, slice_get_within}
pub use Rattle.std.proofs.lemmas.Result.{IfOk-weaker, err_from_is_err_and, on_ok_weaker}
pub use Rattle.std.specs.List.{flat_map, list_all, list_any}
pub use Rattle.std.specs.Prelude.{All, Bool, Contains, Err, IfOk, List, None, Ok, OnOk, Option, Result, Some, [], drop, false, get_or, if◌then◌else◌, length, map, min, nat_le, nat_lt, not, option_copied, option_to_list, replicate, set, slice_get, slice_index, slice_index_or, slice_set, suc, take, true, zero, ℕ, ◌%◌, ◌&&◌, ◌++◌, ◌+◌, ◌-◌, ◌<◌, ◌==◌, ◌^◌, ◌||◌, ◌∷◌, ◌≡◌, ◌≢◌, ◌≤◌, ◌⊎◌}
pub use Rattle.wild_geometry.specs.OwnedBytes.{IsPadded}
pub use Rattle.wild_image.specs.Append.{BeginsWith, CanBeReversed, FileLies, GivesItsShares, HasRest, HasStarts, IsOfKind, MergedLies, RangedLies, SomeLies, SortedLies, StandFrom}
unfoldable pub use Rattle.wild_image.specs.Append.{GroupStands}
pub use Rattle.wild_image.specs.Batches.{AreBatches, batch_errors, batch_pieces}
unfoldable pub use Rattle.wild_image.specs.Batches.{pairs_at}
pub use Rattle.wild_image.specs.Owners.{file_pieces_in_order, merged_piece, ranged_piece, sorted_pieces}
pub use Rattle.wild_image.specs.Padding.{Marks}
pub use Rattle.wild_image.specs.Pieces.{all_sorted, file_bytes, file_pairs, file_sections, front_in, group_pairs, group_tables, merged_and_identity_bytes, merged_in, ranged_in, ranged_owned, section_owned, section_pairs, sorted_in, sorted_owned, table_given, thunk_in, trailer_bytes}
unfoldable pub use Rattle.wild_image.specs.Pieces.{group_files}
pub use Rattle.wild_image.specs.Placed.{HasOrigins, IsWhole, PlacedApart}
pub use Rattle.wild_image.specs.Prefix.{overlay_prefix}
unfoldable pub use Rattle.wild_image.specs.Prefix.{place_in_prefix}
pub use Rattle.wild_image.specs.RelocationCounts.{with_pairs}
pub use Rattle.wild_image.specs.Steps.{HasCorrectShares, has_all}
unfoldable pub use Rattle.wild_image.specs.Steps.{part_faults, share_faults}
pub use Rattle.wild_image.specs.declared.batch.Batch.{Batch}
pub use Rattle.wild_image.specs.declared.buffer.GroupBytes.{GroupBytes}
pub use Rattle.wild_image.specs.declared.share_job.ShareCheck.{ShareCheck}
unfoldable pub use Rattle.wild_layout.specs.Content.{frame_bytes_of}
pub use Rattle.wild_layout.specs.Faults.{files_errors, flat_map_from, part_errors, sections_errors, sorted_errors}
unfoldable pub use Rattle.wild_layout.specs.Faults.{group_errors}
pub use Rattle.wild_layout.specs.Geometry.{IsLaidOut}
pub use Rattle.wild_layout.specs.Image.{front_piece, group_pieces, is_owned, merged_bytes, of_first_file, owned_pieces, table_piece, table_pieces, thunk_piece}
unfoldable pub use Rattle.wild_layout.specs.Image.{padding}
pub use Rattle.wild_layout.specs.SectionPlaces.{FieldLies, SectionLies}
pub use Rattle.wild_layout.specs.Sites.{MovesApart}
unfoldable pub use Rattle.wild_layout.specs.Sites.{section_bytes}
pub use Rattle.wild_layout.specs.Thunks.{file_thunks, thunk_bytes}
unfoldable pub use Rattle.wild_placement.specs.FrameInputs.{kept_size}
pub use Rattle.wild_placement.specs.PlacedInputs.{PlacedContent, inputs}
pub use Rattle.wild_placement.specs.PlacedSections.{address_after, as_loaded, file_frames, frames_at, of_last_file, placed_by, placed_from, placed_sections, unread, without_relocations}
unfoldable pub use Rattle.wild_placement.specs.PlacedSections.{placed_files, placed_section, sorted_input}
pub use Rattle.wild_placement.specs.ReversedWords.{reversed_section}
unfoldable pub use Rattle.wild_placement.specs.ReversedWords.{with_word_order}
pub use Rattle.wild_plan_rules.specs.Places.{relocation_count}
unfoldable pub use Rattle.wild_plan_rules.specs.WellFormed.{first_clause}
pub use Rattle.wild_types.specs.Faults.{Answers, Refuses}
pub use Rattle.wild_types.specs.FilePlaces.{given}
pub use Rattle.wild_types.specs.FileRoles.{is_epilogue, is_prelude}
pub use Rattle.wild_types.specs.FileThunks.{thunks_of}
pub use Rattle.wild_types.specs.HeaderOnly.{is_header_only_role, is_omitted}
pub use Rattle.wild_types.specs.Kinds.{is_partial_link}
pub use Rattle.wild_types.specs.Lists.{total}
pub use Rattle.wild_types.specs.Lookups.{fills_file, has_fields, has_range, has_range_bytes, has_written_relocations, image_size, is_debug, is_filled, is_frame, is_header_only_at, is_header_only_part, is_read, is_rela, section_of, section_of_part}
pub use Rattle.wild_types.specs.Parts.{has_role}
pub use Rattle.wild_types.specs.declared.fault.Error.{Error}
pub use Rattle.wild_types.specs.declared.file.File.{File}
pub use Rattle.wild_types.specs.declared.file.Group.{Group}
pub use Rattle.wild_types.specs.declared.input.InputSection.{InputSection}
pub use Rattle.wild_types.specs.declared.input.Slot.{Slot}
pub use Rattle.wild_types.specs.declared.layout.Layout.{Layout}
pub use Rattle.wild_types.specs.declared.layout.SortedSection.{SortedSection}
pub use Rattle.wild_types.specs.declared.part.Part.{Part}
pub use Rattle.wild_types.specs.declared.part.Role.{Role}
pub use Rattle.wild_words.proofs.ListLemmas.{flat_map-more, holds_at}
pub use Rattle.wild_words.specs.Overlay.{Piece, overlay}
pub use borrow.Author.Rules.{rules}
pub use mathlib.Core.Logic.{inl, inr}
pub use mathlib.Core.Path.{ap, refl, subst, sym, ◌∙◌}
pub use native.Mathlib.Omega.{arith}
