use Rattle.std.proofs.Common.{◌≡◌, List, set, get_or, ap, sym, ◌∙◌, subst, rules}
use Rattle.std.specs.Prelude.{Some}
use Rattle.wild_types.specs.declared.file.Group.{Group}
use Rattle.wild_change.specs.Change.{changed_group, section_in_group}
use Rattle.wild_relinker.proofs.SwapLemmas.{written_item, found_within, read_inside}
use Rattle.wild_relinker.proofs.swap.swap_contents.Goals as goal

pub returns-clause-layout : goal.returns-clause-layout
returns-clause-layout c =
    let x = c.args.layout.now in
    let d = c.args.change.now in
    let old = c.index_mut.result.now in
    let read : old ≡ get_or x.groups d.group old = search rules in
    let write : c.from_vec.result ≡ set x.groups d.group c.swap_in_group.new.group = search rules in
    ap (λ (ys : List Group). record x { groups = ys }) (write ∙ written_item (changed_group d) x.groups d.group old c.swap_in_group.new.group (found_within (section_in_group c.args.change.now) c.args.layout.now.groups c.args.change.now.group c.requires) read c.swap_in_group.ensures.group)

pub returns-clause-change : goal.returns-clause-change
returns-clause-change c =
    λ s at.
    (let x = c.args.layout.now in
    let d = c.args.change.now in
    let old = c.index_mut.result.now in
    let read : old ≡ get_or x.groups d.group old = search rules in
    c.swap_in_group.ensures.change s (subst (λ (y : Group). section_in_group d y ≡ Some s) (sym read) (read_inside (section_in_group d) x.groups d.group old s at)))
