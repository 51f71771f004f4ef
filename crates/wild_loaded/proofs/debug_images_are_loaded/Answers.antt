use Rattle.wild_loaded.proofs.DebugImages.{bare_loaded}
use Rattle.wild_loaded.proofs.debug_images_are_loaded.Goals as goal

pub returns : goal.returns
returns c = bare_loaded (record {
  headers = c.headers_are_present.ensures.stand;
  segments = c.segments_are_loadable.ensures;
  sections = c.sections_are_stored.ensures.sections;
  zeros = c.sections_are_stored.ensures.zeros;
  blanks = c.sections_are_stored.ensures.blanks;
  texts = c.texts_are_stored.ensures;
  file = c.file_bytes_are_stored.ensures;
  dynamic = c.dynamic_images_are_loaded.ensures;
  plain = c.static_images_are_loaded.ensures.plain;
})
