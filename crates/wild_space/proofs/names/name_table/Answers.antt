use Rattle.std.proofs.Common.{◌≡◌, ◌+◌, ◌-◌, length, arith, subst, sym, drop, ap, ◌∙◌}
use Rattle.wild_space.specs.declared.image.NamedImage.{NamedImage}
use Rattle.wild_space.specs.Names.{IsTableFrom}
use Rattle.wild_space.proofs.Loops.{table_start, table_step}
use Rattle.wild_space.proofs.names.name_table.Goals as goal

pub loop-i-init : goal.loop-i-init
loop-i-init c = (omega arith, table_start c.new-table.result c.args.images.now (length c.args.images.now) c.new-table.ensures.empty (omega arith))

pub loop-i-preserved : goal.loop-i-preserved
loop-i-preserved c =
    let i = c.loop-i.i - 1 in
    let e : c.loop-i.i ≡ i + 1 = omega arith in
    let after = subst (λ n. IsTableFrom n c.loop-i.table (drop n c.args.images.now)) e c.loop-i.invariant.1 in
    (omega arith, table_step c.loop-i.table c.insert.new.self c.args.images.now i c.index-images-i.result c.as_slice.result (omega arith) c.index-images-i.is (c.as_slice.ensures ∙ ap (λ (q : NamedImage). q.name) (sym c.index-images-i.is)) after c.in_ok-insert.ensures.updates)
