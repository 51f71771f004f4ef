-- What a loader makes of the image of the worked program without a dynamic linker.
use Rattle.wild_meaning.proofs.Common.{◌≡◌, [], ◌∷◌, refl, Ok, word, number, least_extent, file_header_fields, file_header_at, program_header_fields, program_header_at, header, program_headers, sections, load_segment, load_segments, segments, first_dynamic, section_entries, section_tables, tables, places_from, overlay_runs, add_all, apart, notes, relocate, load, image_at, image_with, headers_in, static_pie_world}
use Rattle.wild_meaning.specs.Worked.StaticImage.{static_image, static_segment, static_memory}

pub static_loaded : load static_pie_world static_image ≡ Ok static_memory
unfolding load image_at image_with header program_headers segments load_segment load_segments tables first_dynamic section_tables sections section_entries relocate add_all apart notes overlay_runs places_from least_extent file_header_at file_header_fields program_header_at program_header_fields number word
static_loaded = refl

-- its program header
pub static_programs : headers_in static_image ≡ static_segment ∷ []
unfolding program_headers file_header_at file_header_fields program_header_at program_header_fields number word
static_programs = refl
