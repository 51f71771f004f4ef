-- The names that many proofs of this crate cite, passed on from one place. Declares nothing.
pub use Rattle.std.proofs.lemmas.Bool.{and_parts, cases_Bool, cases_lt, eqb-false, eqb-true, ne_eqb, not-true}
pub use Rattle.std.proofs.lemmas.Int.{of_z-to_z}
pub use Rattle.std.proofs.lemmas.List.{append-nil, get_or-replicate, get_or_append_left, get_or_default, length-append, length-replicate, map-append}
pub use Rattle.std.proofs.lemmas.List.Concat.{flat_map-append}
pub use Rattle.std.proofs.lemmas.List.Elements.{All-append, All-cons, All-contains, All-head, All-map, All-nil, All-tail, All-weaker, Contains-append_left, Contains-append_right}
pub use Rattle.std.proofs.lemmas.List.Folds.{flat_map-map}
pub use Rattle.std.proofs.lemmas.List.Kept.{AllPairs-cons}
pub use Rattle.std.proofs.lemmas.List.Sorted.{All-permutation, IsPermutation-append, IsPermutation-append_comm, IsPermutation-append_right, IsPermutation-map, IsPermutation-refl, IsPermutation-sym, IsPermutation-trans}
pub use Rattle.std.proofs.lemmas.Option.{slice_get-get_or, slice_get_within}
pub use Rattle.std.specs.Int.{w64}
pub use Rattle.std.specs.List.{flat_map, range_with_len}
pub use Rattle.std.specs.Prelude.{All, AllPairs, Bool, Contains, Err, IsPermutation, List, None, Ok, Option, Result, Some, [], bit_or, false, get_or, if◌then◌else◌, length, map, max, min, nat_le, nat_lt, not, option_and_then, option_map, option_to_list, replicate, slice_get, slice_index, slice_range, suc, take, true, unwrap_or, zero, ℕ, ⊤, ◌%◌, ◌&&◌, ◌*◌, ◌++◌, ◌+◌, ◌-◌, ◌/◌, ◌<◌, ◌==◌, ◌^◌, ◌||◌, ◌∷◌, ◌≡◌, ◌≢◌, ◌≤◌, ◌⊎◌}
pub use Rattle.wild_geometry.proofs.MachineLemmas.{facts_of}
pub use Rattle.wild_geometry.proofs.PlacedInputs.{all_sections, by_files, each_at, input_of, listed_section, placed_files_same_all}
pub use Rattle.wild_geometry.proofs.Rooms.{length-room, room_of, section_room}
pub use Rattle.wild_geometry.specs.Loaded.{HasDecision, HasItem, entry_with}
pub use Rattle.wild_geometry.specs.PlacedSections.{IsKeptPlacedSection, IsPlacedSection, file_place}
pub use Rattle.wild_layout.proofs.DecideLemmas.{IsMoved, decided_left}
pub use Rattle.wild_layout.proofs.SiteLemmas.{Contains-flat_map, site_written}
pub use Rattle.wild_layout.specs.Content.{content, file_content}
pub use Rattle.wild_layout.specs.Decide.{addend_bits}
unfoldable pub use Rattle.wild_layout.specs.Decide.{decided}
pub use Rattle.wild_layout.specs.DynamicRelocations.{copy_entry, entry_for}
unfoldable pub use Rattle.wild_layout.specs.DynamicRelocations.{file_generals, section_generals}
pub use Rattle.wild_layout.specs.Faults.{flat_map_from, group_errors}
pub use Rattle.wild_layout.specs.Geometry.{IsLaidOut, TablesStand}
pub use Rattle.wild_layout.specs.Image.{file_pieces, group_pieces, merged_and_identity_pieces, of_first_file, offset_in, owned_pieces, section_pieces, sorted_piece, table_pieces, thunk_pieces}
unfoldable pub use Rattle.wild_layout.specs.Image.{bytes, pieces}
pub use Rattle.wild_layout.specs.Loadable.{CarriesByte, SegmentLoads}
pub use Rattle.wild_layout.specs.Numbers.{NumbersFit, SymbolNumbers}
pub use Rattle.wild_layout.specs.RelativeRelocations.{file_entries, file_words, listed_entry, relative_value, value_or_0}
unfoldable pub use Rattle.wild_layout.specs.RelativeRelocations.{section_entries}
pub use Rattle.wild_layout.specs.SectionPlaces.{FieldLies, SectionLies}
pub use Rattle.wild_layout.specs.Sites.{field_site, site, sites}
unfoldable pub use Rattle.wild_layout.specs.Sites.{section_bytes}
pub use Rattle.wild_layout.specs.SlotBytes.{storage_entries}
unfoldable pub use Rattle.wild_layout.specs.SlotBytes.{flat_places_of, slot_entries_of}
pub use Rattle.wild_layout.specs.SlotValues.{decided_address, index_of}
pub use Rattle.wild_layout.specs.TablePlaces.{table_bytes}
pub use Rattle.wild_layout.specs.declared.decision.Decision.{Decision}
pub use Rattle.wild_layout.specs.declared.decision.Decision.TheVariants.{DynamicField, Field, RelativeAddress}
pub use Rattle.wild_loaded.specs.Laws.{BlanksAreStored, EntriesHaveChanges, FileBytesAreStored, PartsAreStored, SectionsAreStored, SegmentsAreLoadable, SlotsAreStored, TablesAreFound, TextsAreStored, ZerosAreStored}
pub use Rattle.wild_loaded.specs.Memory.{EachDecided, Filled, Framed, HasPlace, IsStored, headers_of, image_memory}
pub use Rattle.wild_loaded.specs.StoredTables.{FillsSlot, FillsWords, IsWordStored, filled_width}
pub use Rattle.wild_loaded.specs.Tables.{group_words, other_entries, packed_words_of_file, relative_entries, tables_of, words_of_last}
pub use Rattle.wild_loaded.specs.WholeSlots.{HasWholeSlots}
pub use Rattle.wild_loaded.specs.Words.{entry_change, place_change}
pub use Rattle.wild_loader.specs.Changes.{kind_of, patch_over, size_of}
unfoldable pub use Rattle.wild_loader.specs.Changes.{change_of}
pub use Rattle.wild_loader.specs.EntryLaws.{OrderDoesNotMatter, patches_of}
pub use Rattle.wild_loader.specs.Headers.{machine_of}
pub use Rattle.wild_loader.specs.Laws.{IsStatic, IsTableOf, entries_before_null, section_relas}
pub use Rattle.wild_loader.specs.Memory.{Holds, byte_in}
pub use Rattle.wild_loader.specs.Places.{places}
pub use Rattle.wild_loader.specs.Relocate.{loaded_at}
pub use Rattle.wild_loader.specs.SegmentLaws.{BytesAreLoaded, DoesNotOverlap, HasHeaders, rela_bytes, word_bytes}
unfoldable pub use Rattle.wild_loader.specs.Tables.{value_of_tag}
pub use Rattle.wild_loader.specs.declared.change.Change.{Change}
pub use Rattle.wild_loader.specs.declared.kind.DynamicKind.{DynamicKind}
pub use Rattle.wild_loader.specs.declared.memory.Memory.{Memory}
pub use Rattle.wild_loader.specs.declared.memory.Run.{Run}
pub use Rattle.wild_loader.specs.declared.tables.Tables.{Tables}
pub use Rattle.wild_loader.specs.declared.world.Answer.{Answer}
pub use Rattle.wild_loader.specs.declared.world.World.{World}
pub use Rattle.wild_meaning.proofs.BitLemmas.{alloc_bit}
pub use Rattle.wild_meaning.proofs.OutputLemmas.{not_partial}
pub use Rattle.wild_meaning.proofs.SymbolLemmas.{canonical_is}
pub use Rattle.wild_meaning.specs.LinkedImage.{processor_of}
pub use Rattle.wild_meaning.specs.World.{HasCopy, IsAnsweredOnce, IsCopied, IsLegal, IsLoadable, IsPastFileBytes}
unfoldable pub use Rattle.wild_needs.specs.Dynamic.{dynamic_entry, dynamic_number}
pub use Rattle.wild_needs.specs.Entries.{is_relative, relr_place, sorted_words}
unfoldable pub use Rattle.wild_needs.specs.Entries.{relr_places}
pub use Rattle.wild_needs.specs.Needs.{has_last}
pub use Rattle.wild_needs.specs.SlotShares.{block_of, block_words, relr_got_place, storage_at, storage_words, word_size}
unfoldable pub use Rattle.wild_needs.specs.SlotShares.{group_relr_got}
pub use Rattle.wild_placement.specs.PlacedSections.{of_last_file, placed_file, processed_sections, sorted_inputs, sorted_sections}
unfoldable pub use Rattle.wild_placement.specs.PlacedSections.{placed_files}
pub use Rattle.wild_plan_rules.specs.SlotPlaces.{address_of_part, start_of}
pub use Rattle.wild_records.specs.Abi.Section.{shf_alloc, sht_nobits}
pub use Rattle.wild_records.specs.Abi.Segment.{pt_load}
pub use Rattle.wild_records.specs.Dynamic.{dynamic_entry_size}
pub use Rattle.wild_records.specs.FileHeader.{file_header_size}
pub use Rattle.wild_records.specs.Relocations.{RelaFits}
pub use Rattle.wild_records.specs.declared.dynamic.DynamicEntry.{DynamicEntry}
pub use Rattle.wild_records.specs.declared.program_header.ProgramHeader.{ProgramHeader}
pub use Rattle.wild_records.specs.declared.relocations.Rela.{Rela}
pub use Rattle.wild_records.specs.declared.section_header.SectionHeader.{SectionHeader}
pub use Rattle.wild_reloc.specs.Field.{size_width}
pub use Rattle.wild_reloc.specs.declared.dynamic.DynamicRelocationKind.{DynamicRelocationKind}
pub use Rattle.wild_reloc.specs.declared.dynamic.DynamicRelocationKind.TheVariants.{Absolute, DtpMod, Irelative, Relative}
pub use Rattle.wild_reloc.specs.declared.info.RelocationSize.{RelocationSize}
pub use Rattle.wild_reloc.specs.declared.info.RelocationSize.TheVariants.{ByteSize}
pub use Rattle.wild_reloc.specs.declared.info.Width.TheVariants.{Eight}
pub use Rattle.wild_slot.specs.MachineStub.{distance_if_too_far}
pub use Rattle.wild_slot.specs.SlotParts.{address_entry, entry_at, entry_of, is_packed, next, relr_slot_place, type_of}
pub use Rattle.wild_slot.specs.Slots.{items_at, setting_of}
unfoldable pub use Rattle.wild_slot.specs.Slots.{slot}
pub use Rattle.wild_slot.specs.Storage.{minus}
pub use Rattle.wild_slot.specs.SymbolWords.{resolved_slots}
unfoldable pub use Rattle.wild_slot.specs.SymbolWords.{slots_of}
pub use Rattle.wild_slot.specs.Treatment.{flags_at, treatment}
pub use Rattle.wild_slot.specs.declared.slot.Setting.{Setting}
pub use Rattle.wild_slot.specs.declared.slot.SlotEntry.{SlotEntry}
pub use Rattle.wild_slot.specs.declared.slot.SlotWord.{SlotWord}
pub use Rattle.wild_slot.specs.declared.slot.SlotWord.TheVariants.{Address, General, InRelrGot, Number, Plt}
pub use Rattle.wild_slot.specs.declared.slot_parts.EntryPart.{EntryPart}
pub use Rattle.wild_slot.specs.declared.treatment.Treatment.{Treatment}
pub use Rattle.wild_slots.specs.AscendingPlaces.{Ascend, place_in}
pub use Rattle.wild_slots.specs.Entries.{entry_in}
pub use Rattle.wild_slots.specs.Order.{end_of}
pub use Rattle.wild_slots.specs.SlotPlaces.{IsLocatedAt, PairIsPlaced}
pub use Rattle.wild_table_formats.proofs.HeaderLengths.{length-section_headers_of}
pub use Rattle.wild_table_formats.specs.GroupTables.{relative_entry}
pub use Rattle.wild_table_formats.specs.Headers.{headers_from, info_at, section_headers_of}
unfoldable pub use Rattle.wild_table_formats.specs.Headers.{computed_infos, file_header, null_header, program_header, section_header}
pub use Rattle.wild_types.proofs.LookupLemmas.{not_hollow_at, not_hollow_role}
pub use Rattle.wild_types.proofs.PartLemmas.{not_raw}
unfoldable pub use Rattle.wild_types.specs.Addresses.{raw_value}
pub use Rattle.wild_types.specs.FileRoles.{is_epilogue, is_library, is_prelude}
pub use Rattle.wild_types.specs.FileSymbols.{copies_of, own_symbols}
pub use Rattle.wild_types.specs.Flags.{has_flag, ifunc}
pub use Rattle.wild_types.specs.HeaderOnly.{KeepsAll, is_header_only_role}
pub use Rattle.wild_types.specs.Item.{Item, block_for, item_of, item_with}
pub use Rattle.wild_types.specs.Kinds.{is_executable, is_fixed_static, is_partial_link, is_position_independent, needs_dynamic}
pub use Rattle.wild_types.specs.Lookups.{allocated, canonical, has_data, image_size, is_filled, is_frame, is_header_only, is_header_only_at, is_header_only_part, is_loaded, is_read, packs, place_of, section_of_part, takes_file_bytes}
pub use Rattle.wild_types.specs.Parts.{has_role, is_loaded_role, part_with, role_place}
pub use Rattle.wild_types.specs.SymbolSlots.{got_of, slots_address}
pub use Rattle.wild_types.specs.declared.fault.Fault.{Fault}
pub use Rattle.wild_types.specs.declared.file.File.{File}
pub use Rattle.wild_types.specs.declared.file.Group.{Group}
pub use Rattle.wild_types.specs.declared.input.InputRelocation.{InputRelocation}
pub use Rattle.wild_types.specs.declared.input.InputSection.{InputSection}
pub use Rattle.wild_types.specs.declared.input.Slot.{Slot}
pub use Rattle.wild_types.specs.declared.kind.Machine.{Machine}
pub use Rattle.wild_types.specs.declared.layout.Layout.{Layout}
pub use Rattle.wild_types.specs.declared.part.Part.{Part}
pub use Rattle.wild_types.specs.declared.part.Role.{Role}
pub use Rattle.wild_types.specs.declared.section.Section.{Section}
pub use Rattle.wild_types.specs.declared.section.Segment.{Segment}
pub use Rattle.wild_types.specs.declared.symbol.Resolution.{Resolution}
pub use Rattle.wild_types.specs.declared.symbol.Symbol.{Symbol}
pub use Rattle.wild_words.proofs.Basics.{All-each, Contains-map, listed_at, map-flat_map, not_empty, of_if}
pub use Rattle.wild_words.proofs.ListLemmas.{All-append-left, All-append-right, All-flat_map, AllPairs-append, AllPairs-flat_map, AllPairs-head, AllPairs-nil, AllPairs-tail, Between, flat_map-flat_map, flat_map-same}
pub use Rattle.wild_words.proofs.OverlayLemmas.{length-overlay}
pub use Rattle.wild_words.proofs.WordLemmas.{length-word, number-word}
pub use Rattle.wild_words.specs.Overlay.{AreDisjoint, Disjoint, Piece}
pub use Rattle.wild_words.specs.Words.{HasBytesAt, number}
unfoldable pub use Rattle.wild_words.specs.Words.{word}
pub use mathlib.Core.List.{append_assoc}
pub use mathlib.Core.Logic.{inl, inr}
pub use mathlib.Core.Path.{ap, refl, subst, sym, ◌∙◌}
pub use native.Mathlib.Omega.{arith}
