use Rattle.std.proofs.Common.{ℕ, ◌+◌, ◌-◌, set, ap, sym, ◌∙◌}
use Rattle.wild_relinker.proofs.SwapLemmas.{with_item_set, with_item-past}
use Rattle.wild_relinker.proofs.changed_image.correct_count.Goals as goal

pub returns-then-counts-index : goal.returns-then-counts-index
returns-then-counts-index c = sym (with_item-past (λ (n : ℕ). n + c.args.after - c.args.before) c.args.counts.now c.args.index c.if-counts-index.true)

pub corrected_count-requires : goal.corrected_count-requires
corrected_count-requires c = (c.requires.counts c.args.index 0 c.if-counts-index.false, c.requires.after)

pub returns : goal.returns
returns c = ap (set c.args.counts.now c.args.index) c.corrected_count.ensures ∙ with_item_set (λ (n : ℕ). n + c.args.after - c.args.before) c.args.counts.now c.args.index 0 c.if-counts-index.false
