use Rattle.std.proofs.Common.{◌≡◌, List, ◌++◌, subst, rules}
use Rattle.std.specs.List.{flat_map}
use Rattle.std.specs.Prelude.{OnOk}
use Rattle.std.proofs.lemmas.Result.{IfOk-weaker}
use Rattle.wild_types.specs.declared.file.File.{File}
use Rattle.wild_contents.specs.PlacedSections.{first_given}
use Rattle.wild_contents.proofs.FileLemmas.{files_table}
use Rattle.wild_contents.proofs.tables.add_files.Goals as goal

-- src/tables.rt:138:1
pub returns-in-EhFrameHdr : goal.returns-in-EhFrameHdr
returns-in-EhFrameHdr g c =
    let given : OnOk c.add_search_table.result (c.add_search_table.new.bytes ≡ c.args.bytes.now ++ flat_map (first_given c.args.beside.now.table.now) c.args.group.now.files)
    = subst (λ (fs : List File). OnOk c.add_search_table.result (c.add_search_table.new.bytes ≡ c.args.bytes.now ++ flat_map (first_given c.args.beside.now.table.now) fs)) c.as_slice.ensures c.add_search_table.ensures in
    IfOk-weaker c.add_search_table.result _ _ (λ r h. files_table _ c.args.role _ _ _ _ c.in-EhFrameHdr.is (c.requires.table c.in-EhFrameHdr.is) h) given
