use Rattle.std.proofs.Common.{◌≡◌, ◌*◌, length, take}
use Rattle.wild_slot.specs.StubAArch64.{spelled}
use Rattle.wild_slot.proofs.stub_aarch64.put_words.Given as goal

abbrev pub invariant-loop-i : goal.invariant-loop-i
invariant-loop-i l = record {
  front : take (4 * l.i) l.out ≡ spelled (take l.i l.words);
  length : length l.out ≡ length l.initial.out;
}
