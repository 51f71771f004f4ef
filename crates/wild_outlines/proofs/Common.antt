-- The names that many proofs of this crate cite, passed on from one place. Declares nothing.
pub use Rattle.std.proofs.lemmas.Bool.{and_parts, cases_Bool}
pub use Rattle.std.proofs.lemmas.List.{length-map, length-replicate, map-append}
pub use Rattle.std.proofs.lemmas.Option.{slice_get-map}
pub use Rattle.std.specs.List.{flat_map, list_all, list_any, range_with_len}
pub use Rattle.std.specs.Prelude.{All, Bool, Err, List, None, Ok, Option, Result, Some, [], drop, false, get_or, if◌then◌else◌, is_none, is_some, length, map, max, min, nat_le, nat_lt, not, option_and_then, option_map, option_to_list, slice_get, suc, take, true, zero, ℕ, ℤ, ◌&&◌, ◌*◌, ◌++◌, ◌+◌, ◌-◌, ◌/◌, ◌<◌, ◌==◌, ◌^◌, ◌||◌, ◌∷◌, ◌≡◌, ◌≤◌, ◌⊎◌}
pub use Rattle.wild_change.specs.Change.{changed_file, changed_group, changed_layout, changed_section, found_section, is_changeable, with_item}
pub use Rattle.wild_change.specs.Outline.{outline, outline_file, outline_group, outline_section}
pub use Rattle.wild_change.specs.declared.change.Change.{Change}
pub use Rattle.wild_layout.specs.Faults.{flat_map_from, part_errors}
unfoldable pub use Rattle.wild_layout.specs.Faults.{group_errors}
pub use Rattle.wild_layout.specs.Image.{group_pieces, owned_pieces}
unfoldable pub use Rattle.wild_layout.specs.Image.{padding}
pub use Rattle.wild_layout.specs.Sites.{extent_of}
pub use Rattle.wild_needs.specs.DynamicStrings.{next_dynstr}
pub use Rattle.wild_needs.specs.DynamicSymbols.{output_section}
pub use Rattle.wild_needs.specs.Entries.{words_of}
unfoldable pub use Rattle.wild_needs.specs.TableSymbols.{file_items}
pub use Rattle.wild_outlines.specs.MayChange.{KeepsCounts, written_section}
pub use Rattle.wild_outlines.specs.RefusalLaws.{place_unless}
pub use Rattle.wild_placement.specs.FrameInputs.{frames_of}
unfoldable pub use Rattle.wild_placement.specs.FrameInputs.{kept_size}
pub use Rattle.wild_placement.specs.PlacedSections.{Input, address_after, file_frames, frames_at, of_last_file, placed_by, placed_frames_with, placed_from, placed_sections, processed_sections, sorted_inputs, unread}
unfoldable pub use Rattle.wild_placement.specs.PlacedSections.{placed_files, placed_section, sorted_input}
unfoldable pub use Rattle.wild_placement.specs.ReversedWords.{with_word_order}
pub use Rattle.wild_plan_rules.specs.Contents.{each_section}
pub use Rattle.wild_reloc.specs.declared.info.RelocationKindInfo.{RelocationKindInfo}
pub use Rattle.wild_types.specs.FilePlaces.{given}
pub use Rattle.wild_types.specs.Kinds.{is_partial_link}
pub use Rattle.wild_types.specs.Lists.{first_failing, total}
pub use Rattle.wild_types.specs.Lookups.{file_of, files_of, is_frame}
unfoldable pub use Rattle.wild_types.specs.Lookups.{image_size}
pub use Rattle.wild_types.specs.Parts.{has_role}
pub use Rattle.wild_types.specs.declared.fault.Clause.{Clause}
pub use Rattle.wild_types.specs.declared.file.File.{File}
pub use Rattle.wild_types.specs.declared.file.FileRole.{FileRole}
pub use Rattle.wild_types.specs.declared.file.Group.{Group}
pub use Rattle.wild_types.specs.declared.input.InputRelocation.{InputRelocation}
pub use Rattle.wild_types.specs.declared.input.InputSection.{InputSection}
pub use Rattle.wild_types.specs.declared.input.Slot.{Slot}
pub use Rattle.wild_types.specs.declared.kind.Machine.{Machine}
pub use Rattle.wild_types.specs.declared.layout.GnuHash.{GnuHash}
pub use Rattle.wild_types.specs.declared.layout.Layout.{Layout}
pub use Rattle.wild_types.specs.declared.layout.Merged.{Merged}
pub use Rattle.wild_types.specs.declared.layout.SortedSection.{SortedSection}
pub use Rattle.wild_types.specs.declared.part.Part.{Part}
pub use Rattle.wild_types.specs.declared.part.Role.{Role}
pub use Rattle.wild_types.specs.declared.section.Section.{Section}
pub use Rattle.wild_types.specs.declared.symbol.Place.{Place}
pub use Rattle.wild_types.specs.declared.symbol.Symbol.{Symbol}
pub use Rattle.wild_words.specs.declared.extents.Extent.{Extent}
pub use mathlib.Core.Logic.{inl, inr}
pub use mathlib.Core.Path.{ap, refl, subst, sym, ◌∙◌}
pub use native.Mathlib.Omega.{arith}
pub use std.Path.{fun_ext}
