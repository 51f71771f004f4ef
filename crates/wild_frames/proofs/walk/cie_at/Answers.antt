use Rattle.std.proofs.Common.{sym, arith, rules}
use Rattle.std.proofs.lemmas.List.Sorted.{IsPartitionPoint-from_clause}
use Rattle.wild_frames.specs.declared.entry.Cie.{Cie}
use Rattle.wild_frames.proofs.RelocationLemmas.{stands_before, parted, below_point, at_point, cie_found, cie_absent}
use Rattle.wild_frames.proofs.walk.cie_at.Goals as goal
use Rattle.wild_frames.proofs.walk.cie_at.Goals.{else-index-cies-via-then-index-cies+else-cies-index, else-index-cies-via-else-index-cies}

abbrev nought : Cie
nought = record { from = 0; to = 0 }

pub returns-then-cies-index : goal.returns-then-cies-index
returns-then-cies-index c =
    let x = c.args.from in
    let cs = c.args.cies.now in
    let i = c.partition_point-index.result in
    let p = IsPartitionPoint-from_clause (stands_before x) cs i c.partition_point-index.ensures.partitioned (parted x cs c.requires) (λ a r q k. search rules) in
    sym (cie_found x i cs nought (below_point x i cs p) c.if-index-cies.true c.if-cies-index.true)

pub returns-else-index-cies : goal.returns-else-index-cies
returns-else-index-cies c =
    let x = c.args.from in
    let cs = c.args.cies.now in
    let i = c.partition_point-index.result in
    let p = IsPartitionPoint-from_clause (stands_before x) cs i c.partition_point-index.ensures.partitioned (parted x cs c.requires) (λ a r q k. search rules) in
    elim c.else-index-cies.branch [
      | else-index-cies-via-then-index-cies+else-cies-index w ↦ sym (cie_absent x i cs nought c.requires (below_point x i cs p) (λ l. let a = at_point x i cs nought p l in let n = w.if-cies-index.false in omega (arith, a, n)))
      | else-index-cies-via-else-index-cies w ↦ sym (cie_absent x i cs nought c.requires (below_point x i cs p) (λ l. absurd (let n = w.if-index-cies.false in omega (arith, n, l))))
    ]
