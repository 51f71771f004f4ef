use Rattle.std.proofs.Common.{◌≡◌, drop}
use Rattle.wild_types.specs.Parts.{part_with}
use Rattle.wild_table_formats.specs.DynamicFields.{part_section}
use Rattle.wild_symbols.proofs.dynamic.section_of_role.Given as goal

abbrev pub invariant-loop-part : goal.invariant-loop-part
invariant-loop-part l = part_section (part_with l.role (drop l.part-index l.parts)) ≡ part_section (part_with l.role l.parts)
