use Rattle.wild_loaded.proofs.LoadedImages.{images_loaded}
use Rattle.wild_loaded.proofs.images_are_loaded.Goals as goal

pub returns : goal.returns
returns c = images_loaded (record {
  headers = c.headers_are_present.ensures.stand;
  segments = c.segments_are_loadable.ensures;
  found = c.tables_are_found.ensures.found;
  sections = c.tables_are_found.ensures.sections;
  made = c.tables_are_made.ensures;
  applied = c.tables_are_applied.ensures.applied;
  order = c.tables_are_applied.ensures.order;
  moved = c.memory_has_changes.ensures;
  dynamic = c.dynamic_images_are_loaded.ensures;
  static = c.static_images_are_loaded.ensures.tables;
})
