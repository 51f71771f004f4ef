use Rattle.std.proofs.Common.{◌≡◌, ◌+◌, ◌-◌, ◌∷◌, [], List, length, drop, arith, ap, sym, ◌∙◌, subst, Ok}
use Rattle.std.specs.Prelude.{reverse}
use Rattle.std.proofs.lemmas.List.{reverse-append}
use Rattle.std.proofs.lemmas.Result.{err_from_is_err_and}
use Rattle.wild_loader.specs.declared.memory.Memory.{Memory}
use Rattle.wild_space.specs.Given.{Fails}
use Rattle.wild_space.specs.Bound.{memory_of_image, memories}
use Rattle.wild_space.proofs.Loops.{memories_next, memories_refused, later_long, later_at}
use Rattle.wild_space.proofs.loading.memories.Goals as goal

pub returns-in_err-memory_of_image : goal.returns-in_err-memory_of_image
returns-in_err-memory_of_image c =
    let p = err_from_is_err_and c.from_residual.result c.from_residual.ensures.1 in
    let xs = c.args.space.now.images.now in
    let order = c.args.space.now.order in
    let js = drop 1 order in
    let ws = c.args.worlds.now in
    let k = c.loop-i.i - 1 in
    let w = c.index-worlds-i.result in
    let e = c.in_err-memory_of_image.field-0.0 in
    let within = c.loop-i.invariant.within in
    let test = c.loop-i-test.true in
    let long = later_long order (length ws) c.requires.worlds in
    let next : c.loop-i.i ≡ k + 1 = omega (arith, test) in
    let rest = subst (λ q. memories xs (drop q js) (drop q ws) ≡ Ok (reverse c.loop-i.loaded.items)) next c.loop-i.invariant.same in
    let fails = subst (λ q. Fails e (memory_of_image xs q w)) (sym (later_at order k)) c.in_err-memory_of_image.ensures in
    rw (p.1, p.2) (memories_refused xs js ws k w (reverse c.loop-i.loaded.items) e (omega (arith, within, test, long)) (omega (arith, within, test)) c.index-worlds-i.is rest fails)

pub loop-i-preserved : goal.loop-i-preserved
loop-i-preserved c =
    let xs = c.args.space.now.images.now in
    let order = c.args.space.now.order in
    let js = drop 1 order in
    let ws = c.args.worlds.now in
    let k = c.loop-i.i - 1 in
    let w = c.index-worlds-i.result in
    let m = c.in_ok-memory_of_image.field-0 in
    let within = c.loop-i.invariant.within in
    let test = c.loop-i-test.true in
    let long = later_long order (length ws) c.requires.worlds in
    let next : c.loop-i.i ≡ k + 1 = omega (arith, test) in
    let rest = subst (λ q. memories xs (drop q js) (drop q ws) ≡ Ok (reverse c.loop-i.loaded.items)) next c.loop-i.invariant.same in
    let own = subst (λ q. memory_of_image xs q w ≡ Ok m) (sym (later_at order k)) c.in_ok-memory_of_image.ensures in
    let all : reverse c.push.new.self.items ≡ m ∷ reverse c.loop-i.loaded.items = ap (λ (q : List Memory). reverse q) c.in_ok-push.ensures.items ∙ reverse-append c.loop-i.loaded.items (m ∷ []) in
    record {
      within = omega (arith, within);
      same = memories_next xs js ws k w (reverse c.loop-i.loaded.items) m (omega (arith, within, test, long)) (omega (arith, within, test)) c.index-worlds-i.is rest own ∙ ap (λ (q : List Memory). Ok q) (sym all);
    }
