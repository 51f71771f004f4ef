use Rattle.std.proofs.Common.{take}
use Rattle.std.specs.List.{flat_map}
use Rattle.wild_table_formats.specs.TableEntries.{file_table}
use Rattle.wild_contents.specs.Walks.{Walks}
use Rattle.wild_needs.specs.declared.table.TablePart.TheVariants.{Entries}
use Rattle.wild_contents.proofs.symtab.add_group_table.Given as goal

abbrev pub invariant-loop-file : goal.invariant-loop-file
invariant-loop-file g l = Walks (Entries l.local) l.initial.bytes l.group.strtab_start l.bytes l.at (flat_map (file_table l.resolved.layout.now) (take l.file-index l.file-items))
