use Rattle.std.proofs.Common.{◌≡◌, List, set, get_or, ap, ◌∙◌, rules}
use Rattle.wild_types.specs.declared.input.InputSection.{InputSection}
use Rattle.wild_change.specs.Change.{changed_section}
use Rattle.wild_relinker.specs.Find.{with_contents_of}
use Rattle.wild_relinker.proofs.SwapLemmas.{written_item, is_within, read_item}
use Rattle.wild_relinker.proofs.swap.swap_in_file.Goals as goal

pub returns-clause-file : goal.returns-clause-file
returns-clause-file c =
    let x = c.args.file.now in
    let d = c.args.change.now in
    let old = c.index_mut.result.now in
    let read : old ≡ get_or x.sections d.section old = search rules in
    let write : c.from_vec.result ≡ set x.sections d.section c.swap_section.new.section = search rules in
    ap (λ (ys : List InputSection). record x { sections = ys }) (write ∙ written_item (changed_section d) x.sections d.section old c.swap_section.new.section (is_within c.args.file.now.sections c.args.change.now.section c.requires) read c.swap_section.ensures.section)

pub returns-clause-change : goal.returns-clause-change
returns-clause-change c =
    λ s at.
    (let x = c.args.file.now in
    let d = c.args.change.now in
    let old = c.index_mut.result.now in
    let read : old ≡ get_or x.sections d.section old = search rules in
    c.swap_section.ensures.change ∙ ap (λ (t : InputSection). with_contents_of t d) (read ∙ read_item x.sections d.section old s at))
