use Rattle.wild_placer.proofs.Common.{◌≡◌, drop, map, [], section_entries, rela_header}
use Rattle.wild_placer.proofs.plain.section_entries.Given as goal

abbrev pub invariant-loop-section : goal.invariant-loop-section
invariant-loop-section l = section_entries l.image (map (rela_header l.layout) (drop l.section-index l.sections)) l.entries ≡ section_entries l.image (map (rela_header l.layout) l.sections) []
