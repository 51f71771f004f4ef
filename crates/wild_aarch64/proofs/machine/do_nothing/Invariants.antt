use Rattle.std.specs.Prelude.{◌≡◌, drop, map}
use Rattle.wild_aarch64.specs.Code.{read}
use Rattle.wild_aarch64.specs.Machine.{all_hints}
use Rattle.wild_aarch64.proofs.machine.do_nothing.Given as goal

abbrev pub invariant-loop-word : goal.invariant-loop-word
invariant-loop-word l = all_hints (map read (drop l.word-index l.words)) ≡ all_hints (map read l.words)
