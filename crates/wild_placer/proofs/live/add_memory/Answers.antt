use Rattle.wild_placer.proofs.Common.{sym, subst, nat_cmp, get, PlaceFault, Placements, AddFails}
use Rattle.wild_placer.proofs.PlacedLemmas.{first_taken, none_taken, all_free}
use Rattle.wild_placer.proofs.live.add_memory.Goals as goal

pub returns-in-Some-clause-fault : goal.returns-in-Some-clause-fault
returns-in-Some-clause-fault c =
    let before : Placements = record { next = c.args.number; live = c.args.live.now.entries } in
    subst (λ (e : PlaceFault). AddFails e before c.args.memory) (sym c.taken.ensures.fault)
    (first_taken c.args.number c.in-Some.address c.args.memory c.as_slice.result.now c.args.live.now (get nat_cmp c.args.starts.now) c.as_slice.ensures c.requires.placed c.taken.ensures.low c.in-Some.ensures)

pub insert_memory-requires-clause-free : goal.insert_memory-requires-clause-free
insert_memory-requires-clause-free c = none_taken c.args.memory c.as_slice.result.now (get nat_cmp c.args.starts.now) c.as_slice.ensures c.in-None.ensures

pub returns-then-insert_memory-clause-free : goal.returns-then-insert_memory-clause-free
returns-then-insert_memory-clause-free c = all_free c.args.number c.args.memory c.args.live.now (get nat_cmp c.args.starts.now) c.requires.placed (none_taken c.args.memory c.as_slice.result.now (get nat_cmp c.args.starts.now) c.as_slice.ensures c.in-None.ensures)
