use Rattle.wild_image.proofs.Common.{ℕ, ◌+◌, ◌≤◌, ◌∙◌, ap, arith, given, table_given}
use Rattle.wild_layout.specs.Image.{shares_before}
use Rattle.wild_image.proofs.AppendLemmas.{cut_off}
use Rattle.wild_image.proofs.TableLemmas.{in_part, start_given, table_put, table_not_put, table_stays}
use Rattle.wild_image.proofs.append.append_table.Goals as goal

pub split_at-requires : goal.split_at-requires
split_at-requires c =
    let h = in_part c.args.layout.now c.args.i c.args.index c.args.size c.args.part.now c.args.group.now c.requires.parts c.requires.part c.requires.group c.requires.size in
    (cut_off (table_given c.args.layout.now c.args.group.now c.args.part.now) c.args.bytes.now c.args.size h.size c.requires.own).within

pub overflow_add-part : goal.overflow_add-part
overflow_add-part c =
    let h = in_part c.args.layout.now c.args.i c.args.index c.args.size c.args.part.now c.args.group.now c.requires.parts c.requires.part c.requires.group c.requires.size in
    let some : 1 ≤ c.args.size = omega (arith, c.if-size-eq0.false) in
    let start = start_given c.args.layout.now c.args.part.now (given c.args.i c.args.group.now) (shares_before c.args.layout.now c.args.i c.args.index) c.args.size c.args.start c.requires.size some c.requires.start in
    let fits = h.fits some in
    omega (arith, fits, start, c.requires.fits)

pub returns-clause-image : goal.returns-clause-image
returns-clause-image c =
    let h = in_part c.args.layout.now c.args.i c.args.index c.args.size c.args.part.now c.args.group.now c.requires.parts c.requires.part c.requires.group c.requires.size in
    let some : 1 ≤ c.args.size = omega (arith, c.if-size-eq0.false) in
    let start = start_given c.args.layout.now c.args.part.now (given c.args.i c.args.group.now) (shares_before c.args.layout.now c.args.i c.args.index) c.args.size c.args.start c.requires.size some c.requires.start in
    let cut = cut_off (table_given c.args.layout.now c.args.group.now c.args.part.now) c.args.bytes.now c.args.size h.size c.requires.own in
    table_put c.args.layout.now c.args.i c.args.index _ c.args.size c.args.part.now c.args.group.now _ c.args.out.now c.put_in_prefix.new.out h some (ap (λ (n : ℕ). c.args.part.now.offset + n) start) (c.split_at.ensures.front ∙ cut.front) c.put_in_prefix.ensures

pub returns-clause-rest : goal.returns-clause-rest
returns-clause-rest c =
    let h = in_part c.args.layout.now c.args.i c.args.index c.args.size c.args.part.now c.args.group.now c.requires.parts c.requires.part c.requires.group c.requires.size in
    let cut = cut_off (table_given c.args.layout.now c.args.group.now c.args.part.now) c.args.bytes.now c.args.size h.size c.requires.own in
    λ rest e. c.split_at.ensures.back ∙ cut.back rest e

pub returns-then-size-eq0-clause-image : goal.returns-then-size-eq0-clause-image
returns-then-size-eq0-clause-image c =
    let h = in_part c.args.layout.now c.args.i c.args.index c.args.size c.args.part.now c.args.group.now c.requires.parts c.requires.part c.requires.group c.requires.size in
    table_not_put c.args.layout.now c.args.i c.args.index c.args.size c.args.part.now c.args.group.now c.args.out.now h (omega (arith, c.if-size-eq0.true))

pub returns-then-size-eq0-clause-rest : goal.returns-then-size-eq0-clause-rest
returns-then-size-eq0-clause-rest c =
    let h = in_part c.args.layout.now c.args.i c.args.index c.args.size c.args.part.now c.args.group.now c.requires.parts c.requires.part c.requires.group c.requires.size in
    table_stays c.args.layout.now c.args.i c.args.index c.args.size c.args.part.now c.args.group.now c.args.bytes.now h (omega (arith, c.if-size-eq0.true))
