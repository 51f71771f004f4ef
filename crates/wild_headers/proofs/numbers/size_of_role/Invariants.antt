use Rattle.std.proofs.Common.{◌≡◌, drop}
use Rattle.wild_table_formats.specs.Headers.{size_of_role}
use Rattle.wild_headers.proofs.numbers.size_of_role.Given as goal

abbrev pub invariant-loop-part : goal.invariant-loop-part
invariant-loop-part l = size_of_role l.role (drop l.part-index l.parts) ≡ size_of_role l.role l.parts
