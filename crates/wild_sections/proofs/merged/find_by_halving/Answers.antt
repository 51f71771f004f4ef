use Rattle.std.proofs.Common.{sym, rules}
use Rattle.std.proofs.lemmas.List.Sorted.{IsPartitionPoint-from_clause}
use Rattle.wild_types.specs.declared.input.MergedString.{MergedString}
use Rattle.wild_sections.proofs.StringLemmas.{stands_before, parted, halved_none, halved_last}
use Rattle.wild_sections.proofs.merged.find_by_halving.Goals as goal

abbrev nought : MergedString
nought = record { offset = 0; address = 0 }

pub returns-then-count-eq0 : goal.returns-then-count-eq0
returns-then-count-eq0 c =
    let x = c.args.byte in
    let ss = c.args.strings.now in
    let i = c.partition_point-count.result in
    let p = IsPartitionPoint-from_clause (stands_before x) ss i c.partition_point-count.ensures.partitioned (parted x ss c.requires) (λ a r q k. search rules) in
    sym (halved_none x i ss p c.if-count-eq0.true)

pub returns : goal.returns
returns c =
    let x = c.args.byte in
    let ss = c.args.strings.now in
    let i = c.partition_point-count.result in
    let p = IsPartitionPoint-from_clause (stands_before x) ss i c.partition_point-count.ensures.partitioned (parted x ss c.requires) (λ a r q k. search rules) in
    sym (halved_last x i ss nought p c.if-count-eq0.false c.partition_point-count.ensures.bound)
