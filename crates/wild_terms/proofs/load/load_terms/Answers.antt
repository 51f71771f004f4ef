use Rattle.std.proofs.Common.{◌≡◌}
use Rattle.std.specs.Prelude.{Ok}
use Rattle.wild_loader.specs.Memory.{memory_of}
use Rattle.wild_terms.specs.Symbolic.{relocate_terms}
use Rattle.wild_terms.proofs.ReadLemmas.{loaded_by}
use Rattle.wild_terms.proofs.load.load_terms.Goals as goal

pub returns : goal.returns
returns c =
    let i = c.in_ok-machine.field-0 in
    let m : memory_of i.machine i.runs ≡ c.in_ok-memory.memory = cc (c.in_ok-memory.ensures, c.in_ok-machine.machine-is, c.in_ok-machine.runs-is) in
    let r : relocate_terms c.args.outline.now c.in_ok-memory.memory c.in_ok-tails.tails.items i.tables ≡ Ok c.in_ok-patches.patches = cc (c.in_ok-patches.ensures.gives, c.in_ok-machine.tables-is, c.as_slice.ensures.value) in
    loaded_by c.args.outline.now c.args.image.now i c.in_ok-tails.tails.items c.in_ok-memory.memory c.in_ok-patches.patches c.new-2.result c.in_ok-machine.ensures.image c.in_ok-tails.ensures m r c.new-2.ensures.memory c.new-2.ensures.patches c.new-2.ensures.ascend
