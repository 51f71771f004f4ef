use Rattle.std.proofs.Common.{◌≡◌, drop}
use Rattle.wild_types.specs.declared.part.Role.TheVariants.{SectionHeaders}
use Rattle.wild_table_formats.specs.Headers.{offset_of_role}
use Rattle.wild_headers.proofs.numbers.section_headers_offset.Given as goal

abbrev pub invariant-loop-part : goal.invariant-loop-part
invariant-loop-part l = offset_of_role SectionHeaders (drop l.part-index l.parts) ≡ offset_of_role SectionHeaders l.parts
