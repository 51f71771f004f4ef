use Rattle.std.proofs.Common.{◌≡◌, List, set, get_or, ap, sym, ◌∙◌, subst, rules}
use Rattle.std.specs.Prelude.{Some}
use Rattle.wild_types.specs.declared.file.File.{File}
use Rattle.wild_change.specs.Change.{changed_file, section_in_file}
use Rattle.wild_relinker.proofs.SwapLemmas.{written_item, found_within, read_inside}
use Rattle.wild_relinker.proofs.swap.swap_in_group.Goals as goal

pub returns-clause-group : goal.returns-clause-group
returns-clause-group c =
    let x = c.args.group.now in
    let d = c.args.change.now in
    let old = c.index_mut.result.now in
    let read : old ≡ get_or x.files d.file old = search rules in
    let write : c.from_vec.result ≡ set x.files d.file c.swap_in_file.new.file = search rules in
    ap (λ (ys : List File). record x { files = ys }) (write ∙ written_item (changed_file d) x.files d.file old c.swap_in_file.new.file (found_within (section_in_file c.args.change.now) c.args.group.now.files c.args.change.now.file c.requires) read c.swap_in_file.ensures.file)

pub returns-clause-change : goal.returns-clause-change
returns-clause-change c =
    λ s at.
    (let x = c.args.group.now in
    let d = c.args.change.now in
    let old = c.index_mut.result.now in
    let read : old ≡ get_or x.files d.file old = search rules in
    c.swap_in_file.ensures.change s (subst (λ (y : File). section_in_file d y ≡ Some s) (sym read) (read_inside (section_in_file d) x.files d.file old s at)))
