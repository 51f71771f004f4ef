use Rattle.std.proofs.Common.{◌≡◌, take}
use Rattle.std.specs.Prelude.{All}
use Rattle.wild_needs.specs.Dynamic.{TagFits, all_tags}
use Rattle.wild_needs.proofs.dynamic.tags_fit.Given as goal

abbrev pub invariant-loop-tag : goal.invariant-loop-tag
invariant-loop-tag l = record {
  each : All (TagFits l.layout) (take l.tag-index l.tag-items);
  all : l.tag-items ≡ all_tags;
}
