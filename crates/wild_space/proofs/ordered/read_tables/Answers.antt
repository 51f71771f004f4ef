use Rattle.std.proofs.Common.{◌≡◌, ◌<◌, ◌+◌, ◌++◌, ◌∷◌, [], length, arith, ap, sym, ◌∙◌, subst, get_or}
use Rattle.std.proofs.lemmas.List.{length-append}
use Rattle.wild_space.specs.Order.{HasTables, AreTables}
use Rattle.wild_space.specs.OrderLaws.{tables_after}
use Rattle.wild_space.proofs.Loops.{tables_next, tables_pushed}
use Rattle.wild_space.proofs.ordered.read_tables.Goals as goal

pub loop-n-preserved : goal.loop-n-preserved
loop-n-preserved c =
    let xs = c.args.images.now in
    let order = c.args.order.now in
    let test = c.loop-n-test.true in
    let below : c.loop-n.n < length order = omega (arith, test) in
    let many = c.loop-n.invariant.many in
    let t = c.in_ok-found.found in
    let pushed : c.push.new.self ≡ c.loop-n.tables ++ t ∷ [] = c.in_ok-push.ensures.ok in
    let has : HasTables xs (get_or order c.loop-n.n 0) t = record { are = sym c.in_ok-found.ensures.is; inside = c.in_ok-found.ensures.inside } in
    let long = length-append c.loop-n.tables (t ∷ []) in
    record {
      same = tables_next xs c.loop-n.n order c.loop-n.tables c.push.new.self t (tables_after xs order []) below has.are pushed c.loop-n.invariant.same;
      many = ap length pushed ∙ long ∙ omega (arith, many);
      are = subst (AreTables xs order) (sym pushed) (tables_pushed xs order c.loop-n.tables t c.loop-n.n many has c.loop-n.invariant.are);
    }
