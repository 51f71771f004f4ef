use Rattle.std.proofs.Common.{◌≡◌, rules}
use Rattle.std.proofs.lemmas.Fn.{always_returns_same}
use Rattle.std.proofs.lemmas.List.Sorted.{IsNonDecreasingBy-from_sort_by_key}
use Rattle.wild_frames.specs.Table.{rank_of}
use Rattle.wild_frames.proofs.TableLemmas.{on_ok}
use Rattle.wild_frames.proofs.sorter.sort_eh_frame_hdr_entries.Goals as goal

pub returns-clause-sorted : goal.returns-clause-sorted
returns-clause-sorted g c = on_ok c.par_sort_by_key.result _ _ c.par_sort_by_key.ensures.sorted (λ h. IsNonDecreasingBy-from_sort_by_key rank_of c.par_sort_by_key.new.s h (λ a r q k. search rules))

pub returns-clause-stable : goal.returns-clause-stable
returns-clause-stable g c = c.par_sort_by_key.ensures.stable rank_of (always_returns_same _ (λ a r. r ≡ rank_of a.0.now) _ (λ a r q k. search rules))
