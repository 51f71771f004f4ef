use Rattle.std.proofs.Common.{◌≡◌, ◌+◌, ◌*◌, ◌^◌, ◌≤◌, drop, length}
use Rattle.wild_types.specs.declared.section.Section.{Section}
use Rattle.wild_types.specs.Lists.{total}
use Rattle.wild_needs.proofs.share.name_bytes.Given as goal

abbrev pub invariant-loop-section : goal.invariant-loop-section
invariant-loop-section l = record {
  rest : l.sum + total (λ (s : Section). length s.name + 1) (drop l.section-index l.section-items) ≡ total (λ (s : Section). length s.name + 1) l.section-items;
  small : l.sum ≤ l.section-index * 2 ^ 64;
}
