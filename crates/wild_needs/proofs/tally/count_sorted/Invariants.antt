use Rattle.std.proofs.Common.{◌≡◌, ◌+◌, ◌-◌, ◌^◌, ◌<◌, drop, map, min}
use Rattle.std.specs.List.{flat_map}
use Rattle.wild_types.specs.Lists.{total}
use Rattle.wild_placement.specs.PlacedSections.{Input, sorted_input}
use Rattle.wild_placement.specs.ReversedWords.{with_word_order}
use Rattle.wild_needs.specs.Tallies.{counted_in}
use Rattle.wild_needs.proofs.tally.count_sorted.Given as goal

abbrev pub invariant-loop-entry : goal.invariant-loop-entry
invariant-loop-entry l = record {
  rest : min (2 ^ 64 - 1) (l.sum + total (counted_in l.fn.kind l.layout) (map (λ (x : Input). with_word_order x.section) (flat_map (sorted_input l.layout) (drop l.entry-index l.entry-items)))) ≡ min (2 ^ 64 - 1) (total (counted_in l.fn.kind l.layout) (map (λ (x : Input). with_word_order x.section) (flat_map (sorted_input l.layout) l.entry-items)));
  small : l.sum < 2 ^ 64;
}
