use Rattle.wild_space.proofs.ordered.OrderedImages.tables.Goals as goal

pub returns : goal.returns
returns c = c.requires.ordered.each _ _ (rw c.as_slice.ensures at c.entry_at.ensures)
