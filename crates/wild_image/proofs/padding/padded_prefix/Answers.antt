use Rattle.wild_image.proofs.Common.{◌≡◌, ℕ, length, arith, rules, sym, subst, min, take_at, image_size, IsPadded}
use Rattle.wild_image.proofs.padding.padded_prefix.Goals as goal

pub returns : goal.returns
returns c =
    let l = c.args.layout.now in
    let long : length c.fill_zeros.new.out ≡ c.in_ok-out.out.len = search rules in
    let all : c.in_ok-out.out.len ≡ c.min-end.result = search rules in
    let is : length c.deref_mut.result.now ≡ min (image_size l) c.args.size = omega (arith, long, all, c.fill_zeros.auto.out, c.min-end.ensures, c.image_end.ensures) in
    subst (IsPadded l (min (image_size l) c.args.size)) (sym (take_at c.fill_zeros.new.out _ c.in_ok-out.out.len long)) (subst (λ (n : ℕ). IsPadded l n c.fill_zeros.new.out) is c.in_ok-fill_zeros.ensures)
