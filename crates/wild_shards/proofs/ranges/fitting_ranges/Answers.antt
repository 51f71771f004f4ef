use Rattle.std.proofs.Common.{rules, ◌≡◌, ◌+◌, [], ◌∷◌, ◌++◌, ◌∙◌, sym, ap₂, arith}
use Rattle.std.proofs.lemmas.List.FromFn.{map-range_with_len_more}
use Rattle.wild_shards.specs.Ranges.{cut, shard, output_end, TailFits}
use Rattle.wild_shards.proofs.CutLemmas.{below-more}
use Rattle.wild_shards.proofs.ranges.fitting_ranges.Goals as goal

pub loop-index-preserved : goal.loop-index-preserved
loop-index-preserved g c =
    let i = c.loop-index.index in
    let more = map-range_with_len_more (shard (g.O.Offsets.offset c.args.offsets.now) c.args.count c.args.output c.args.shards) 0 i i (omega arith) in
    let pushed : c.push.new.self.items ≡ c.loop-index.ranges.items ++ c.shard_of.result ∷ [] = search rules in
    let tail : TailFits (g.O.Offsets.offset c.args.offsets.now) (g.S.Sizes.size c.args.sizes.now) (cut c.args.count c.args.shards i) (cut c.args.count c.args.shards (i + 1)) (output_end (g.O.Offsets.offset c.args.offsets.now) c.args.count c.args.output c.args.shards i) = search rules in (
      pushed ∙ (ap₂ (λ xs x. xs ++ x ∷ []) c.loop-index.invariant.0 c.shard_of.ensures ∙ sym more),
      below-more (λ k. TailFits (g.O.Offsets.offset c.args.offsets.now) (g.S.Sizes.size c.args.sizes.now) (cut c.args.count c.args.shards k) (cut c.args.count c.args.shards (k + 1)) (output_end (g.O.Offsets.offset c.args.offsets.now) c.args.count c.args.output c.args.shards k)) i c.loop-index.invariant.1 tail,
    )
