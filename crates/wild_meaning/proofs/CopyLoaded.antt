-- What a loader makes of the image of the worked program with a copied symbol.
use Rattle.wild_meaning.proofs.Common.{◌≡◌, [], ◌∷◌, refl, List, Ok, Some, None, word, number, least_extent, dt_jmprel, dt_symtab, dt_relr, dt_relrsz, dt_pltrelsz, file_header_fields, file_header_at, program_header_fields, program_header_at, rela_size, DynamicEntry, header, program_headers, load_segment, load_segments, segments, first_dynamic, value_of_tag, tables, section_of, places_from, overlay_runs, kind_of, add_all, apart, notes, relocate, load, image_at, image_with, headers_in, copying_world}
use Rattle.wild_records.specs.Abi.Dynamic.{dt_relaent, dt_flags, dt_relacount, dt_flags_1}
use Rattle.wild_records.specs.Dynamic.{dynamic_entry_at}
use Rattle.wild_records.specs.Relocations.{rela_at}
use Rattle.wild_loader.specs.Tables.{dynamic_entries, span_at, table_of, named_tables, dynamic_tables, relas_at, words_at}
use Rattle.wild_loader.specs.Runs.{put_byte, put_bytes, read_bytes}
use Rattle.wild_loader.specs.Changes.{change_of, patch_at}
use Rattle.wild_loader.specs.Relocate.{rela_patch}
use Rattle.wild_meaning.specs.Worked.CopyImage.{copying_image, copying_first, copying_second, copying_third, copying_memory}
use Rattle.wild_meaning.proofs.DynamicLemmas.{one_entry}

pub copying_loaded : load copying_world copying_image ≡ Ok copying_memory
unfolding load image_at image_with header program_headers segments load_segment load_segments tables first_dynamic dynamic_entries value_of_tag span_at table_of named_tables dynamic_tables relas_at words_at relocate add_all apart notes overlay_runs put_byte put_bytes read_bytes rela_patch change_of patch_at places_from least_extent file_header_at file_header_fields program_header_at program_header_fields dynamic_entry_at rela_at kind_of number word
copying_loaded = refl

-- its program headers
pub copying_programs : headers_in copying_image ≡ copying_first ∷ copying_second ∷ copying_third ∷ []
unfolding program_headers file_header_at file_header_fields program_header_at program_header_fields number word
copying_programs = refl

pub copying_dynamic : first_dynamic (copying_first ∷ copying_second ∷ copying_third ∷ []) ≡ Some copying_third
unfolding first_dynamic
copying_dynamic = refl

-- the entries of its dynamic section
abbrev pub copying_entries : List DynamicEntry
copying_entries = one_entry 0x1008

pub copying_read : section_of copying_image copying_third ≡ Ok copying_entries
unfolding dynamic_entries dynamic_entry_at file_header_fields program_header_fields number word
copying_read = refl

-- the values of tags
pub record CopyingTags : Type 0 where
  pub flags : value_of_tag dt_flags copying_entries ≡ Some 8
  pub flags_1 : value_of_tag dt_flags_1 copying_entries ≡ Some 1
  pub entry_size : value_of_tag dt_relaent copying_entries ≡ Some rela_size
  pub no_stubs : value_of_tag dt_jmprel copying_entries ≡ None
  pub no_words : value_of_tag dt_relr copying_entries ≡ None
  pub no_symbols : value_of_tag dt_symtab copying_entries ≡ None
  pub no_count : value_of_tag dt_relacount copying_entries ≡ None
  pub no_stub_size : value_of_tag dt_pltrelsz copying_entries ≡ None
  pub no_word_size : value_of_tag dt_relrsz copying_entries ≡ None

pub copying_tags : CopyingTags
unfolding value_of_tag
copying_tags = record { flags = refl; flags_1 = refl; entry_size = refl; no_stubs = refl; no_words = refl; no_symbols = refl; no_count = refl; no_stub_size = refl; no_word_size = refl }
