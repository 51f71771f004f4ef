use Rattle.std.proofs.Common.{◌≡◌, ◌<◌, ◌≤◌, ◌-◌, [], length, subst, sym, arith, rules, set}
use Rattle.wild_loader.specs.declared.memory.Run.{Run}
use Rattle.wild_loader.specs.Runs.{with_byte, put_byte}
use Rattle.wild_loader.proofs.IndexLemmas.{at-place}
use Rattle.wild_loader.proofs.index.put_at.Goals as goal

pub index_mut-run-requires : goal.index_mut-run-requires
index_mut-run-requires c =
    let at = at-place c.args.runs.now.items c.args.address c.args.place (record { start = 0; bytes = [] }) c.requires in
    let l = at.within in
    search rules

pub overflow_sub-distance : goal.overflow_sub-distance
overflow_sub-distance c =
    let r = c.index_mut-run.result.now in
    let at = at-place c.args.runs.now.items c.args.address c.args.place r c.requires in
    let P : Run → Type 0 = λ x. x.start ≤ c.args.address in
    subst P (sym c.index_mut-run.ensures.value) at.low

pub set-requires : goal.set-requires
set-requires c =
    let r = c.index_mut-run.result.now in
    let at = at-place c.args.runs.now.items c.args.address c.args.place r c.requires in
    let P : Run → Type 0 = λ x. c.args.address - x.start < length x.bytes in
    subst P (sym c.index_mut-run.ensures.value) at.high

pub prove-unreachable-requires : goal.prove-unreachable-requires
prove-unreachable-requires c =
    let r = c.index_mut-run.result.now in
    let at = at-place c.args.runs.now.items c.args.address c.args.place r c.requires in
    let P : Run → Type 0 = λ x. c.args.address - x.start < length x.bytes in
    let high = subst P (sym c.index_mut-run.ensures.value) at.high in
    omega (arith, high)

pub returns : goal.returns
returns c =
    let r = c.index_mut-run.result.now in
    let at = at-place c.args.runs.now.items c.args.address c.args.place r c.requires in
    let P : Run → Type 0 = λ x. put_byte c.args.address c.args.byte c.args.runs.now.items ≡ set c.args.runs.now.items c.args.place (with_byte c.args.address c.args.byte x) in
    let put = subst P (sym c.index_mut-run.ensures.value) (at.put c.args.byte) in
    rw c.set.ensures (sym put)
