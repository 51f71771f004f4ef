use Rattle.wild_image.proofs.Common.{◌≡◌, ℕ, ◌<◌, [], length, slice_index_or, HasStarts}
use Rattle.wild_image.proofs.prepared.starts_from.Given as goal

abbrev pub invariant-loop-j : goal.invariant-loop-j
invariant-loop-j l = record {
  next : HasStarts l.layout l.j l.starts.items;
  count : length l.all.items ≡ l.j;
  each : (k : ℕ) → k < l.j → HasStarts l.layout k (slice_index_or l.all.items k []);
}
