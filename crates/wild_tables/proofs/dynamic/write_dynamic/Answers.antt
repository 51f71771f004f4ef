use Rattle.std.proofs.Common.{◌∙◌, ap, ◌++◌, List, ℕ}
use Rattle.wild_needs.specs.Dynamic.{tag_entries}
use Rattle.wild_table_formats.specs.DynamicSection.{entries_bytes}
use Rattle.wild_table_formats.proofs.DynamicLemmas.{dynamic_written}
use Rattle.wild_tables.proofs.dynamic.write_dynamic.Goals as goal

pub returns : goal.returns
returns c =
    let l = c.args.layout.now in
    let a = c.write_strings-at.ensures in
    let b = c.write_tags-at.ensures in
    let w = b.written ∙ ap (λ (x : List ℕ). x ++ entries_bytes (tag_entries l)) a.written in
    dynamic_written l _ c.write_strings-at.result c.write_tags-at.result c.write_tags-at.new.out c.write_unused.new.out a.at b.at (b.room ∙ a.room) c.write_unused.ensures w
