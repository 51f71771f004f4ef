use Rattle.std.proofs.Common.{List, arith, ◌∙◌, subst}
use Rattle.std.specs.List.{flat_map}
use Rattle.std.proofs.lemmas.List.{take_all}
use Rattle.wild_types.specs.declared.file.File.{File}
use Rattle.wild_table_formats.specs.TableEntries.{file_table}
use Rattle.wild_contents.specs.Walks.{Walks}
use Rattle.wild_needs.specs.declared.table.TablePart.TheVariants.{Entries}
use Rattle.wild_contents.proofs.WalkLemmas.{table_walked}
use Rattle.wild_contents.proofs.symtab.add_group_table.Goals as goal

pub returns : goal.returns
returns g c =
    let l = c.args.resolved.now.layout.now in
    let group = c.args.group.now in
    let items = c.as_slice-file-items.result.now in
    let end = c.loop-file.auto.file-index-end in
    let out = c.loop-file-test.false in
    let P : List File → Type 0 = λ fs. Walks (Entries c.args.local) c.args.bytes.now group.strtab_start c.loop-file.bytes c.loop-file.at (flat_map (file_table l) fs) in
    table_walked c.args.local l group c.args.bytes.now c.loop-file.bytes c.loop-file.at (subst P (take_all c.loop-file.file-index items (omega (arith, end, out)) ∙ c.as_slice-file-items.ensures) c.loop-file.invariant)
