-- What a loader makes of the image of the worked shared object.
use Rattle.wild_meaning.proofs.Common.{◌≡◌, [], ◌∷◌, refl, List, Ok, Some, None, word, number, least_extent, dt_jmprel, dt_symtab, dt_relr, dt_relrsz, dt_pltrelsz, file_header_fields, file_header_at, program_header_fields, program_header_at, rela_size, DynamicEntry, header, program_headers, load_segment, load_segments, segments, first_dynamic, value_of_tag, tables, section_of, places_from, overlay_runs, kind_of, add_all, apart, notes, relocate, load, image_at, image_with, headers_in, shared_world}
use Rattle.wild_records.specs.Abi.Dynamic.{dt_relaent, dt_flags, dt_relacount, dt_flags_1}
use Rattle.wild_records.specs.Dynamic.{dynamic_entry_at}
use Rattle.wild_records.specs.Relocations.{rela_at}
use Rattle.wild_loader.specs.Tables.{dynamic_entries, span_at, table_of, named_tables, dynamic_tables, relas_at, words_at}
use Rattle.wild_loader.specs.Runs.{put_byte, put_bytes, read_bytes}
use Rattle.wild_loader.specs.Changes.{change_of, patch_at}
use Rattle.wild_loader.specs.Relocate.{rela_patch}
use Rattle.wild_meaning.specs.Worked.SharedImage.{shared_image, shared_first, shared_second, shared_third, shared_memory}
use Rattle.wild_meaning.proofs.DynamicLemmas.{one_entry}

pub shared_loaded : load shared_world shared_image ≡ Ok shared_memory
unfolding load image_at image_with header program_headers segments load_segment load_segments tables first_dynamic dynamic_entries value_of_tag span_at table_of named_tables dynamic_tables relas_at words_at relocate add_all apart notes overlay_runs put_byte put_bytes read_bytes rela_patch change_of patch_at places_from least_extent file_header_at file_header_fields program_header_at program_header_fields dynamic_entry_at rela_at kind_of number word
shared_loaded = refl

-- its program headers
pub shared_programs : headers_in shared_image ≡ shared_first ∷ shared_second ∷ shared_third ∷ []
unfolding program_headers file_header_at file_header_fields program_header_at program_header_fields number word
shared_programs = refl

pub shared_dynamic : first_dynamic (shared_first ∷ shared_second ∷ shared_third ∷ []) ≡ Some shared_third
unfolding first_dynamic
shared_dynamic = refl

-- the entries of its dynamic section
abbrev pub shared_entries : List DynamicEntry
shared_entries = one_entry 0x20c0

pub shared_read : section_of shared_image shared_third ≡ Ok shared_entries
unfolding dynamic_entries dynamic_entry_at file_header_fields program_header_fields number word
shared_read = refl

-- the values of tags
pub record SharedTags : Type 0 where
  pub flags : value_of_tag dt_flags shared_entries ≡ Some 8
  pub flags_1 : value_of_tag dt_flags_1 shared_entries ≡ Some 1
  pub entry_size : value_of_tag dt_relaent shared_entries ≡ Some rela_size
  pub no_stubs : value_of_tag dt_jmprel shared_entries ≡ None
  pub no_words : value_of_tag dt_relr shared_entries ≡ None
  pub no_symbols : value_of_tag dt_symtab shared_entries ≡ None
  pub no_count : value_of_tag dt_relacount shared_entries ≡ None
  pub no_stub_size : value_of_tag dt_pltrelsz shared_entries ≡ None
  pub no_word_size : value_of_tag dt_relrsz shared_entries ≡ None

pub shared_tags : SharedTags
unfolding value_of_tag
shared_tags = record { flags = refl; flags_1 = refl; entry_size = refl; no_stubs = refl; no_words = refl; no_symbols = refl; no_count = refl; no_stub_size = refl; no_word_size = refl }
