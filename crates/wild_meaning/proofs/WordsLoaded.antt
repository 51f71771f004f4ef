-- What a loader makes of the image of the worked program of AArch64.
use Rattle.wild_meaning.proofs.Common.{◌≡◌, [], ◌∷◌, refl, Ok, word, number, least_extent, file_header_fields, file_header_at, program_header_fields, program_header_at, header, program_headers, sections, load_segment, load_segments, segments, first_dynamic, section_entries, section_tables, tables, places_from, overlay_runs, add_all, apart, notes, relocate, load, image_at, image_with, headers_in, words_world}
use Rattle.wild_meaning.specs.Worked.AArch64Image.{words_image, words_segment, words_memory}

pub words_loaded : load words_world words_image ≡ Ok words_memory
unfolding load image_at image_with header program_headers segments load_segment load_segments tables first_dynamic section_tables sections section_entries relocate add_all apart notes overlay_runs places_from least_extent file_header_at file_header_fields program_header_at program_header_fields number word
words_loaded = refl

-- its program header
pub words_programs : headers_in words_image ≡ words_segment ∷ []
unfolding program_headers file_header_at file_header_fields program_header_at program_header_fields number word
words_programs = refl
