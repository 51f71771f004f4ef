use Rattle.std.proofs.Common.{◌≡◌, ◌+◌, ◌≤◌, drop}
use Rattle.wild_relr.specs.declared.run.Run.TheVariants.{Closed}
use Rattle.wild_relr.specs.RunWords.{counted}
use Rattle.wild_relr.proofs.count.count_words.Given as goal

abbrev pub invariant-loop-place : goal.invariant-loop-place
invariant-loop-place l = record {
  rest : l.count + counted l.run (drop l.place-index l.places) ≡ counted Closed l.places;
  few : l.count ≤ l.place-index;
}
