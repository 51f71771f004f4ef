use Rattle.std.proofs.Common.{ℕ, ◌<◌, ◌-◌, [], leb, length, get_or, refl, sym, ap, ◌∙◌, arith, rules}
use Rattle.std.proofs.lemmas.List.{length-map}
use Rattle.std.proofs.lemmas.List.Sorted.{IsPartitionPoint-from_clause, IsPartitionedBy-leb}
use Rattle.wild_loader.specs.declared.memory.Run.{Run}
use Rattle.wild_loader.specs.Runs.{extent_of, has_address}
use Rattle.wild_loader.proofs.IndexLemmas.{found-none, found-at, found-not}
use Rattle.wild_loader.proofs.index.find_place.Goals as goal

pub returns-then-after-eq0 : goal.returns-then-after-eq0
returns-then-after-eq0 c =
    let parted = IsPartitionPoint-from_clause (λ (s : ℕ × ℕ). leb s.0 c.args.address) _ _ c.partition_point-after.ensures.partitioned (IsPartitionedBy-leb (λ (s : ℕ × ℕ). s.0) _ c.args.address c.requires.sorted) (λ a r q k. search rules) in
    sym (found-none c.args.index.now c.args.runs.now c.args.address c.partition_point-after.result (record { start = 0; bytes = [] }) c.requires c.partition_point-after.ensures.bound parted c.if-after-eq0.true)

pub bounds-runs-place : goal.bounds-runs-place
bounds-runs-place c =
    let few = c.partition_point-after.ensures.bound in
    let some = c.if-after-eq0.false in
    let n = length-map c.args.runs.now extent_of in
    let l = c.requires.sound (c.partition_point-after.result - 1) (0, 0) (omega arith) in
    omega (arith, l, n)

pub offset_bounds-runs-place : goal.offset_bounds-runs-place
offset_bounds-runs-place c =
    let few = c.partition_point-after.ensures.bound in
    let some = c.if-after-eq0.false in
    let n = length-map c.args.runs.now extent_of in
    let l = c.requires.sound (c.partition_point-after.result - 1) (0, 0) (omega arith) in
    let m : (get_or c.args.index.now (c.partition_point-after.result - 1) (0, 0)).1 < length c.args.runs.now = omega (arith, l, n) in
    search rules

pub returns-then-has : goal.returns-then-has
returns-then-has c =
    let few = c.partition_point-after.ensures.bound in
    let some = c.if-after-eq0.false in
    let n = length-map c.args.runs.now extent_of in
    let l = c.requires.sound (c.partition_point-after.result - 1) (0, 0) (omega arith) in
    let parted = IsPartitionPoint-from_clause (λ (s : ℕ × ℕ). leb s.0 c.args.address) _ _ c.partition_point-after.ensures.partitioned (IsPartitionedBy-leb (λ (s : ℕ × ℕ). s.0) _ c.args.address c.requires.sorted) (λ a r q k. search rules) in
    sym (found-at c.args.index.now c.args.runs.now c.args.address c.partition_point-after.result _ (0, 0) c.index-runs-place.result c.requires few parted refl (omega (arith, l, n)) (ap (λ (r : Run). has_address r c.args.address) (sym c.index-runs-place.is) ∙ sym c.has.ensures ∙ c.if-has.true))

pub returns-else-has : goal.returns-else-has
returns-else-has c =
    let few = c.partition_point-after.ensures.bound in
    let parted = IsPartitionPoint-from_clause (λ (s : ℕ × ℕ). leb s.0 c.args.address) _ _ c.partition_point-after.ensures.partitioned (IsPartitionedBy-leb (λ (s : ℕ × ℕ). s.0) _ c.args.address c.requires.sorted) (λ a r q k. search rules) in
    sym (found-not c.args.index.now c.args.runs.now c.args.address c.partition_point-after.result _ (0, 0) c.index-runs-place.result c.requires few parted refl (ap (λ (r : Run). has_address r c.args.address) (sym c.index-runs-place.is) ∙ sym c.has.ensures ∙ c.if-has.false))
