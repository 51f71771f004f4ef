use Rattle.std.proofs.Common.{arith, take}
use Rattle.wild_types.specs.Lookups.{files_of}
use Rattle.wild_symbols.specs.SymbolNumbers.{section_symbol_number_at}
use Rattle.wild_symbols.proofs.NoteLemmas.{found_more, one_group_more}
use Rattle.wild_symbols.proofs.section_index.SectionNumbers.note_groups.Goals as goal

pub loop-group-preserved : goal.loop-group-preserved
loop-group-preserved c = λ k h.
    found_more (section_symbol_number_at c.args.self.now.layout.now) (files_of (take c.loop-group.group-index c.as_slice-group-items.result.now)) c.as_slice.result.now _ k _ _ _
    (one_group_more c.as_slice-group-items.result.now c.loop-group.group-index c.group-item.result c.as_slice.result.now c.loop-group-test.true c.group-item.is c.as_slice.ensures)
    (c.loop-group.invariant k (omega (arith, c.note_files.auto.notes)))
    (c.in_ok-note_files.ensures k (omega (arith, c.note_files.auto.notes)))
