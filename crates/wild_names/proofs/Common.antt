-- The names that many proofs of this crate cite, passed on from one place. Declares nothing.
pub use Rattle.std.proofs.lemmas.Bool.{and_parts, cases_Bool, eq-eqb, eqb-true, le-leb, ne_eqb}
pub use Rattle.std.proofs.lemmas.Grind.{flat_map-append}
pub use Rattle.std.proofs.lemmas.List.{append-nil, length-append, length-map, take_all}
pub use Rattle.std.proofs.lemmas.List.Elements.{All-append, All-cons, All-contains, All-head, All-map, All-more, All-nil, All-tail, filter-append}
pub use Rattle.std.proofs.lemmas.Option.{get_or_from_slice_get, same_Some, slice_get-map, slice_get_within}
pub use Rattle.std.specs.List.{list_any}
pub use Rattle.std.specs.Prelude.{All, AllPairs, Bool, Contains, Err, List, None, Ok, Option, Result, Some, [], codes, drop, false, filter, find, flat_map, get_or, if◌then◌else◌, is_some, length, map, nat_le, nat_lt, not, option_and_then, option_map, option_to_list, replicate, slice_get, slice_index, slice_index_or, suc, take, true, zero, ℕ, ◌%◌, ◌&&◌, ◌*◌, ◌++◌, ◌+◌, ◌-◌, ◌/◌, ◌<◌, ◌==◌, ◌^◌, ◌||◌, ◌∷◌, ◌≡◌, ◌≢◌, ◌≤◌, ◌⊎◌}
pub use Rattle.wild_geometry.proofs.PlacedInputs.{placed_files_same}
pub use Rattle.wild_hashes.specs.Image.{bytes_of, bytes_or_none}
unfoldable pub use Rattle.wild_hashes.specs.Image.{tables_of}
pub use Rattle.wild_hashes.specs.Laws.{AreNumbered}
pub use Rattle.wild_hashes.specs.Tables.{gnu_hash_of, gnu_header, sysv_hash_of}
unfoldable pub use Rattle.wild_hashes.specs.Tables.{gnu_table, sysv_table}
pub use Rattle.wild_layout.proofs.FaultLemmas.{laid_out}
pub use Rattle.wild_layout.specs.Content.{content, file_content}
pub use Rattle.wild_layout.specs.Faults.{flat_map_from}
unfoldable pub use Rattle.wild_layout.specs.Faults.{errors, group_errors}
pub use Rattle.wild_layout.specs.Geometry.{IsLaidOut, TablesStand}
unfoldable pub use Rattle.wild_layout.specs.Image.{bytes}
pub use Rattle.wild_layout.specs.TablePlaces.{all_needed, table_bytes}
pub use Rattle.wild_loader.specs.Headers.{is_loadable_header}
pub use Rattle.wild_loader.specs.Laws.{entries_before_null}
pub use Rattle.wild_loader.specs.SegmentLaws.{HasHeaders}
pub use Rattle.wild_loader.specs.Tables.{value_of_tag}
pub use Rattle.wild_names.specs.IndexLaws.{side_table}
pub use Rattle.wild_names.specs.Laws.{HasEntry, fields_of_entry, side_symbols, table_symbols}
pub use Rattle.wild_names.specs.LowerLaws.{ImageLaws, NameLaws}
pub use Rattle.wild_names.specs.VersionLaws.{IndexesFit}
pub use Rattle.wild_names.specs.VersionNames.{NeedsAreNamed}
pub use Rattle.wild_needs.specs.DynamicStrings.{dynstr_prefix_strings, entry_names, next_dynstr, offset_after_string, undefined_symbols}
unfoldable pub use Rattle.wild_needs.specs.DynamicStrings.{file_strings, string_start}
pub use Rattle.wild_needs.specs.DynamicSymbols.{first_listed, is_undefined_entry, output_section}
pub use Rattle.wild_needs.specs.Needs.{group_share, share}
pub use Rattle.wild_needs.specs.TableSymbols.{TableSymbol}
unfoldable pub use Rattle.wild_needs.specs.TableSymbols.{file_items, section_symbols}
pub use Rattle.wild_needs.specs.Versions.{needs_of, version_names}
pub use Rattle.wild_needs.specs.declared.table.SymtabName.{SymtabName}
pub use Rattle.wild_placement.specs.PlacedSections.{base_of, placed_file, placed_files}
pub use Rattle.wild_records.specs.Abi.Dynamic.{dt_gnu_hash, dt_hash}
unfoldable pub use Rattle.wild_records.specs.SymtabEntry.{symtab_entry_fields}
pub use Rattle.wild_records.specs.declared.dynamic.DynamicEntry.{DynamicEntry}
pub use Rattle.wild_records.specs.declared.program_header.ProgramHeader.{ProgramHeader}
pub use Rattle.wild_records.specs.declared.section_header.SectionHeader.{SectionHeader}
pub use Rattle.wild_records.specs.declared.symtab_entry.SymtabEntry.{SymtabEntry}
pub use Rattle.wild_table_formats.proofs.StringLemmas.{length-string_bytes}
pub use Rattle.wild_table_formats.proofs.SymbolLemmas.{length-symbol_bytes}
pub use Rattle.wild_table_formats.specs.DynamicEntries.{NamedFields, entry_at, listed, no_fields, undefined}
unfoldable pub use Rattle.wild_table_formats.specs.DynamicEntries.{group_symbols}
pub use Rattle.wild_table_formats.specs.Headers.{section_headers_of}
pub use Rattle.wild_table_formats.specs.SectionSymbols.{is_own_entry}
pub use Rattle.wild_table_formats.specs.Strings.{string, string_bytes}
pub use Rattle.wild_table_formats.specs.SymbolVersions.{exported_version, version_of}
pub use Rattle.wild_table_formats.specs.Symbols.{symbol_bytes}
pub use Rattle.wild_table_formats.specs.TableEntries.{NamedEntry, fields_of, file_table, is_side, named_entry, null_entries, null_entry, section_entry, table_attributes, table_by, table_fields_or_null}
unfoldable pub use Rattle.wild_table_formats.specs.TableEntries.{group_table, table_fields}
pub use Rattle.wild_table_formats.specs.VersionChain.{name_at}
pub use Rattle.wild_table_formats.specs.VersionLaws.{Need}
pub use Rattle.wild_table_formats.specs.VersionNames.{offset_after_entry_names}
unfoldable pub use Rattle.wild_table_formats.specs.VersionNames.{definition_offsets}
pub use Rattle.wild_table_formats.specs.declared.symbols.TableFields.{TableFields}
pub use Rattle.wild_types.proofs.FileLemmas.{same_bool}
pub use Rattle.wild_types.proofs.LookupLemmas.{not_hollow_at}
pub use Rattle.wild_types.specs.FilePlaces.{bool_eq, file_position_fits, first_misplaced_file, group_positions_fit, later_positions_fit}
pub use Rattle.wild_types.specs.FileRoles.{is_epilogue, is_library, is_prelude}
pub use Rattle.wild_types.specs.FileSymbols.{range_of}
pub use Rattle.wild_types.specs.Kinds.{is_partial_link, needs_dynamic, needs_dynsym}
pub use Rattle.wild_types.specs.Lists.{total}
pub use Rattle.wild_types.specs.Lookups.{files_of, has_symtab, section_of}
pub use Rattle.wild_types.specs.Parts.{part_with, role_place}
pub use Rattle.wild_types.specs.declared.fault.Fault.{Fault}
pub use Rattle.wild_types.specs.declared.file.File.{File}
pub use Rattle.wild_types.specs.declared.file.FileRole.{FileRole}
pub use Rattle.wild_types.specs.declared.file.Group.{Group}
pub use Rattle.wild_types.specs.declared.file.NeededVersion.{NeededVersion}
pub use Rattle.wild_types.specs.declared.file.VersionNeeds.{VersionNeeds}
pub use Rattle.wild_types.specs.declared.input.InputSection.{InputSection}
pub use Rattle.wild_types.specs.declared.layout.DynamicSymbol.{DynamicSymbol}
pub use Rattle.wild_types.specs.declared.layout.Layout.{Layout}
pub use Rattle.wild_types.specs.declared.part.Part.{Part}
pub use Rattle.wild_types.specs.declared.part.Role.{Role}
pub use Rattle.wild_types.specs.declared.symbol.Symbol.{Symbol}
pub use Rattle.wild_words.proofs.Basics.{nil_if}
pub use Rattle.wild_words.proofs.ListLemmas.{All-flat_map, flat_map-flat_map, flat_map-same}
pub use Rattle.wild_words.proofs.OverlayLemmas.{HasBytesAt-inner}
pub use Rattle.wild_words.proofs.RecordLemmas.{HasBytesAt-after, HasBytesAt-front, HasBytesAt-whole}
pub use Rattle.wild_words.specs.Record.{FieldsAreRead, spell}
pub use Rattle.wild_words.specs.Words.{HasBytesAt}
unfoldable pub use Rattle.wild_words.specs.Words.{word}
pub use mathlib.Core.Logic.{inl, inr}
pub use mathlib.Core.Path.{ap, refl, subst, sym, ◌∙◌}
pub use native.Mathlib.Nat.{add-zero}
pub use native.Mathlib.Omega.{arith}
