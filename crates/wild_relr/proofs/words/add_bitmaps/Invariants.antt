use Rattle.std.proofs.Common.{◌≡◌, ℕ, ◌+◌, ◌-◌, ◌*◌, ◌≤◌, ◌++◌, get_or}
use Rattle.wild_relr.specs.RunWords.{bitmaps}
use Rattle.wild_relr.specs.WriterState.{words_in, IsSpelled}
use Rattle.wild_relr.proofs.words.add_bitmaps.Given as goal

abbrev pub invariant-loop-i : goal.invariant-loop-i
invariant-loop-i l = record {
  words : words_in l.out (l.count + l.i) ++ bitmaps (l.words - l.i) l.rest ≡ words_in l.initial.out l.count ++ bitmaps l.words l.slots;
  spelled : IsSpelled l.initial.out l.count → IsSpelled l.out (l.count + l.i);
  rest : (k : ℕ) → 8 * (l.count + l.i) ≤ k → get_or l.out k 0 ≡ get_or l.initial.out k 0;
}
