use Rattle.std.proofs.Common.{◌≡◌, List, ◌++◌, flat_map, take, sym, ap, ◌∙◌, subst}
use Rattle.std.specs.List.Sorted.{IsPermutation, IsNonDecreasingBy}
use Rattle.wild_records.specs.declared.frames.EhFrameHdrEntry.{EhFrameHdrEntry}
use Rattle.wild_frames.specs.Table.{entry_bytes, rank_of, in_order}
use Rattle.wild_frames.proofs.OrderLemmas.{sorted_is_in_order}
use Rattle.wild_frames.proofs.table.put_sorted.Goals as goal

pub returns-clause-bytes : goal.returns-clause-bytes
returns-clause-bytes g c =
    let s = sorted_is_in_order c.args.entries.now c.sort.new.entries c.in_ok-sort.ensures.sorted c.in_ok-sort.ensures.stable in
    c.put_entries.ensures ∙ ap (λ (es : List EhFrameHdrEntry). take 12 c.args.out.now ++ flat_map entry_bytes es) s

pub returns-clause-all : goal.returns-clause-all
returns-clause-all g c =
    let s = sorted_is_in_order c.args.entries.now c.sort.new.entries c.in_ok-sort.ensures.sorted c.in_ok-sort.ensures.stable in
    subst (IsPermutation c.args.entries.now) s c.sort.ensures.permutation

pub returns-clause-sorted : goal.returns-clause-sorted
returns-clause-sorted g c =
    let s = sorted_is_in_order c.args.entries.now c.sort.new.entries c.in_ok-sort.ensures.sorted c.in_ok-sort.ensures.stable in
    subst (IsNonDecreasingBy rank_of) s c.in_ok-sort.ensures.sorted
