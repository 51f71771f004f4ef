use Rattle.wild_loaded.proofs.LoadedImages.{memory_moved}
use Rattle.wild_loaded.proofs.memory_has_changes.Goals as goal

pub returns : goal.returns
returns c = memory_moved (record {
  filled = record {
    carried = c.sections_are_in_segments.ensures;
    segments = c.segments_are_loadable.ensures;
    changes = record {
      read = c.numbers_are_read.ensures;
      moved = c.entries_make_changes.ensures.moved;
      entries = c.entries_make_changes.ensures.entries;
      order = c.tables_are_applied.ensures.order;
    };
    sections = record {
      stored = c.sections_are_stored.ensures.sections;
      changes = c.entries_have_changes.ensures;
      relative = record { relatives = c.entries_store_words.ensures.relative };
    };
    slots = record {
      stored = c.slots_are_stored.ensures;
      changes = c.entries_have_changes.ensures;
      relative = record { relatives = c.entries_store_words.ensures.relative };
    };
    copies = record {
      changes = c.entries_have_changes.ensures;
      there = c.copies_are_there.ensures;
      zeros = c.sections_are_stored.ensures.zeros;
    };
    flat = c.relr_slot_is_a_run.ensures;
    found = c.places_are_loaded.ensures;
    ascend = c.places_ascend.ensures;
    blocks = c.blocks_are_whole.ensures;
  };
  stand = c.slots_are_placed.ensures;
  blanks = c.sections_are_stored.ensures.blanks;
  thunks = c.thunks_are_there.ensures;
  texts = c.texts_are_stored.ensures;
  file = c.file_bytes_are_stored.ensures;
})
