use Rattle.std.proofs.Common.{◌≡◌, ◌+◌, ◌≤◌, drop, length}
use Rattle.std.specs.Prelude.{flat_map}
use Rattle.wild_needs.specs.Dynamic.{all_tags, entry_of}
use Rattle.wild_needs.proofs.dynamic.tag_count.Given as goal

abbrev pub invariant-loop-tag : goal.invariant-loop-tag
invariant-loop-tag l = record {
  rest : l.count + length (flat_map (entry_of l.layout) (drop l.tag-index l.tag-items)) ≡ length (flat_map (entry_of l.layout) all_tags);
  small : l.count ≤ l.tag-index;
  all : length l.tag-items ≡ 37;
}
