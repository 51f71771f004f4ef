use Rattle.std.proofs.Common.{◌++◌, sym, ◌∙◌}
use Rattle.wild_loader.specs.Rows.{template_of}
use Rattle.wild_loader.specs.CodeX86_64.{no_prefix, rex, rex2, with_prefix}
use Rattle.wild_loader.specs.InstructionX86_64.{whole_sequences, branches, short}
use Rattle.wild_loader.proofs.StandLemmas.{standing_in_turn, or_mapped}
use Rattle.wild_loader.proofs.table.template_x86_64.Goals as goal

pub returns : goal.returns
returns c =
    let one = or_mapped template_of _ _ _ _ _ c.or.ensures c.sequence.ensures c.template_after_rex2.ensures in
    let two = or_mapped template_of _ _ _ _ _ c.or-2.ensures one c.template_after_rex.ensures in
    let three = or_mapped template_of _ _ _ _ _ c.or-3.ensures two c.template_without_prefix.ensures in
    or_mapped template_of _ _ _ _ _ c.or-4.ensures three c.other.ensures
    ∙ sym (standing_in_turn whole_sequences (with_prefix rex2) (with_prefix rex) (with_prefix no_prefix) (branches ++ short) c.args.bytes.now)
