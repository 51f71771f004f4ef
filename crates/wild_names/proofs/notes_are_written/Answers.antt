use Rattle.wild_names.proofs.NoteBytes.{notes_there, search_there}
use Rattle.wild_names.proofs.notes_are_written.Goals as goal

pub returns-clause-notes : goal.returns-clause-notes
returns-clause-notes c = notes_there c.tables_are_placed.ensures

pub returns-clause-search : goal.returns-clause-search
returns-clause-search c = search_there c.tables_are_placed.ensures
