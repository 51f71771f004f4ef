use Rattle.std.specs.Prelude.{◌≡◌, ◌+◌, ◌*◌, ◌≤◌, drop, [], map}
use Rattle.wild_aarch64.specs.Code.{read}
use Rattle.wild_aarch64.specs.Machine.{run}
use Rattle.wild_aarch64.specs.Registers.{entries_of, count}
use Rattle.wild_aarch64.proofs.machine.meaning_of.Given as goal

abbrev pub invariant-loop-i : goal.invariant-loop-i
invariant-loop-i l = record {
  rest : run (map read (drop l.i l.words)) (l.place + 4 * l.i) (entries_of l.registers) ≡ run (map read l.words) l.place [];
  room : count l.registers ≤ l.i;
}
