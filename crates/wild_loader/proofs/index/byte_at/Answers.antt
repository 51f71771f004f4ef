use Rattle.std.proofs.Common.{◌≡◌, ◌<◌, ◌≤◌, ◌-◌, [], length, subst, sym, ap, arith, rules, get_or}
use Rattle.std.specs.Prelude.{Some}
use Rattle.wild_loader.specs.declared.memory.Run.{Run}
use Rattle.wild_loader.specs.Memory.{byte_of}
use Rattle.wild_loader.proofs.IndexLemmas.{at-place}
use Rattle.wild_loader.proofs.index.byte_at.Goals as goal

pub offset_bounds-runs-place : goal.offset_bounds-runs-place
offset_bounds-runs-place c =
    let at = at-place c.args.runs.now c.args.address c.args.place (record { start = 0; bytes = [] }) c.requires in
    let l = at.within in
    search rules

pub bounds-runs-place : goal.bounds-runs-place
bounds-runs-place c =
    let at = at-place c.args.runs.now c.args.address c.args.place (record { start = 0; bytes = [] }) c.requires in
    at.within

pub overflow_sub-result : goal.overflow_sub-result
overflow_sub-result c =
    let r = c.index-runs-place.result in
    let at = at-place c.args.runs.now c.args.address c.args.place r c.requires in
    let P : Run → Type 0 = λ x. x.start ≤ c.args.address in
    subst P (sym c.index-runs-place.is) at.low

pub overflow_cast-result-2 : goal.overflow_cast-result-2
overflow_cast-result-2 c =
    let r = c.index-runs-place.result in
    let at = at-place c.args.runs.now c.args.address c.args.place r c.requires in
    let P : Run → Type 0 = λ x. c.args.address - x.start < length x.bytes in
    let high = subst P (sym c.index-runs-place.is) at.high in
    let e = ap length c.as_slice.ensures in
    search rules

pub bounds-as_slice-address : goal.bounds-as_slice-address
bounds-as_slice-address c =
    let r = c.index-runs-place.result in
    let at = at-place c.args.runs.now c.args.address c.args.place r c.requires in
    let P : Run → Type 0 = λ x. c.args.address - x.start < length x.bytes in
    let high = subst P (sym c.index-runs-place.is) at.high in
    let e = ap length c.as_slice.ensures in
    omega (arith, high, e)

pub returns : goal.returns
returns c =
    let r = c.index-runs-place.result in
    let at = at-place c.args.runs.now c.args.address c.args.place r c.requires in
    let P : Run → Type 0 = λ x. byte_of c.args.runs.now c.args.address ≡ Some (get_or x.bytes (c.args.address - x.start) 0) in
    rw c.as_slice.ensures (subst P (sym c.index-runs-place.is) at.byte)
