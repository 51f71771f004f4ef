-- Rules that compute the image of a layout, and a space of images, that are written out.
use Rattle.std.specs.Prelude.{⊤}
use Rattle.wild_frames.specs.Table.{in_order, table_of as table_of_of_table}
use Rattle.wild_hashes.specs.Image.{image_header, part_at, part_of}
use Rattle.wild_bound.proofs.Common.{symbol_at, find_name, gnu_hash_of, find_definition, thread_address, gnu_count, sysv_count, bytes, count_of, symbol_of, find_in, bind, thread_start_of, address_of, answer_of, bound}
use Rattle.wild_hashes.specs.ImageTables.{tables_at, image_tables, text_at, symbol_in}
use Rattle.wild_hashes.specs.LookUp.{chain_word, gnu_in_bucket, gnu_find, gnu_lookup, sysv_find, sysv_by, sysv_lookup}
use Rattle.wild_hashes.specs.Reading.{string_at, read, name_offset, symbol_name}
use Rattle.wild_hashes.specs.Tables.{sysv_hash_of, buckets, words, sysv_table, bloom, gnu_table}
use Rattle.wild_imports.specs.Imports.{needed_offsets, copies_among}
use Rattle.wild_imports.specs.SymbolCount.{greatest_word, count_chain, section_records, dynsym_size, dynsym_count, symbol_count}
use Rattle.wild_layout.specs.Content.{frame_bytes_of, frames_bytes}
use Rattle.wild_layout.specs.DynamicRelocations.{section_generals, file_generals}
use Rattle.wild_layout.specs.Image.{pieces, padding}
use Rattle.wild_layout.specs.RelativeRelocations.{section_entries as section_entries_of_relativerelocations}
use Rattle.wild_layout.specs.SearchTable.{search_table}
use Rattle.wild_layout.specs.SlotBytes.{slot_words_of, slot_entries_of, stubs_of, flat_places_of}
use Rattle.wild_loader.specs.Changes.{kind_of, change_of, patch_at}
use Rattle.wild_loader.specs.Headers.{program_headers, section_headers, header, sections}
use Rattle.wild_loader.specs.Load.{machine_and_tables, image_with, image_at, load}
use Rattle.wild_loader.specs.Places.{marked, places_from}
use Rattle.wild_loader.specs.Relocate.{rela_patch, place_patch, notes, add_all, apart, relocate}
use Rattle.wild_loader.specs.Runs.{read_bytes, put_byte, put_bytes, overlay_runs}
use Rattle.wild_loader.specs.Segments.{load_segment, load_segments, segments}
use Rattle.wild_loader.specs.Tables.{dynamic_entries, first_dynamic, value_of_tag, relas_at, words_at, span_at, table_of as table_of_of_tables, named_tables, dynamic_tables, section_entries as section_entries_of_tables, section_tables, tables}
use Rattle.wild_needs.specs.TableSymbols.{section_symbols}
use Rattle.wild_records.specs.Dynamic.{dynamic_entry_fields, dynamic_entry_at}
use Rattle.wild_records.specs.FileHeader.{file_header_fields, file_header_at}
use Rattle.wild_records.specs.Frames.{eh_frame_hdr_fields, eh_frame_hdr_entry_fields}
use Rattle.wild_records.specs.HashTables.{gnu_hash_header_fields, gnu_hash_header_at}
use Rattle.wild_records.specs.Hashes.{sysv_fold, sysv_hash, gnu_hash}
use Rattle.wild_records.specs.Notes.{note_header_fields}
use Rattle.wild_records.specs.ProgramHeader.{program_header_fields, program_header_at}
use Rattle.wild_records.specs.Relocations.{rela_fields, rela_at, relr_at}
use Rattle.wild_records.specs.SectionHeader.{section_header_fields, section_header_at}
use Rattle.wild_records.specs.SymtabEntry.{symtab_entry_fields, symtab_entry_at}
use Rattle.wild_records.specs.Verdefs.{verdef_fields, verdaux_fields}
use Rattle.wild_records.specs.Verneeds.{verneed_fields, vernaux_fields}
use Rattle.wild_records.specs.Versyms.{versym_fields}
use Rattle.wild_reloc.specs.Immediate.{insert_bits}
use Rattle.wild_space.specs.Binds.{name_in, first_definition, definition_of_name, later_definition, source_at, with_symbol, symbols_of, modules_from, world_of}
use Rattle.wild_space.specs.Bound.{copies_in, none_copies, copies_of, with_image_bound, memories, source_bytes, with_bytes, with_copies, loaded_with, loaded, bound_in}
use Rattle.wild_space.specs.Given.{steps}
use Rattle.wild_space.specs.Names.{named_from}
use Rattle.wild_space.specs.Order.{tables_of, target, with_targets, with_needed, walk, order_of}
use Rattle.wild_space.specs.Overlaps.{extents_of, extents_in, least_in_two}
use Rattle.wild_table_formats.specs.DynamicEntries.{entries_at, group_symbols}
use Rattle.wild_table_formats.specs.Headers.{file_header, program_header, null_header, computed_infos, section_header}
use Rattle.wild_table_formats.specs.TableEntries.{group_table, side_entries, table_entries}
use Rattle.wild_table_formats.specs.VersionChain.{chain}
use Rattle.wild_table_formats.specs.VersionNames.{offsets_from, definition_offsets, file_definitions, group_needs}
use Rattle.wild_words.specs.Extents.{least_extent}
use Rattle.wild_words.specs.Words.{number, word}
use Rattle.wild_sample_layouts.proofs.OnLiterals.{errors_on_literals}

-- what an answer unfolds to compute the bytes of a layout that is written out
unfoldable pub bytes_on_literals : ⊤
unfolding errors_on_literals rela_fields slot_words_of slot_entries_of insert_bits stubs_of flat_places_of in_order eh_frame_hdr_fields eh_frame_hdr_entry_fields table_of_of_table search_table file_header_fields file_header program_header_fields program_header section_header_fields null_header computed_infos section_header versym_fields chain verdef_fields sysv_fold sysv_hash verdaux_fields offsets_from definition_offsets file_definitions section_entries_of_relativerelocations section_generals file_generals note_header_fields sysv_hash_of buckets words sysv_table gnu_hash gnu_hash_of gnu_hash_header_fields bloom gnu_table section_symbols frame_bytes_of frames_bytes verneed_fields vernaux_fields group_needs group_table side_entries table_entries symtab_entry_fields entries_at group_symbols dynamic_entry_fields pieces padding bytes
bytes_on_literals = tt

-- and to bind images that are written out
unfoldable pub spaces_on_literals : ⊤
unfolding number dynamic_entry_at dynamic_entries needed_offsets file_header_at image_header first_dynamic program_header_at program_headers value_of_tag part_at part_of tables_at image_tables tables_of string_at text_at named_from target with_targets with_needed walk order_of steps gnu_hash_header_at read greatest_word count_chain gnu_count sysv_count section_header_at section_headers section_records dynsym_size dynsym_count symbol_count count_of symtab_entry_at symbol_in symbol_at symbol_of name_in gnu_hash name_offset symbol_name chain_word gnu_in_bucket gnu_find gnu_lookup sysv_fold sysv_hash sysv_find sysv_by sysv_lookup find_name find_definition find_in first_definition definition_of_name bind thread_address thread_start_of address_of answer_of later_definition source_at with_symbol symbols_of extents_of extents_in least_in_two header rela_at relas_at relr_at words_at span_at table_of_of_tables named_tables dynamic_tables sections section_entries_of_tables section_tables tables machine_and_tables kind_of copies_among copies_in none_copies copies_of modules_from world_of with_image_bound marked places_from change_of read_bytes word patch_at rela_patch place_patch put_byte put_bytes overlay_runs notes add_all least_extent apart relocate load_segment load_segments segments image_with image_at load memories source_bytes with_bytes with_copies loaded_with loaded bound_in bound
spaces_on_literals = tt
