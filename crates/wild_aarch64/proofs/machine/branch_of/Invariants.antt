use Rattle.std.specs.Prelude.{◌≡◌, ◌+◌, ◌*◌, ◌≤◌, drop, []}
use Rattle.wild_aarch64.specs.Registers.{entries_of, count, follow_words}
use Rattle.wild_aarch64.proofs.machine.branch_of.Given as goal

abbrev pub invariant-loop-i : goal.invariant-loop-i
invariant-loop-i l = record {
  rest : follow_words (drop l.i l.words) (l.place + 4 * l.i) (entries_of l.registers) ≡ follow_words l.words l.place [];
  room : count l.registers ≤ l.i;
}
