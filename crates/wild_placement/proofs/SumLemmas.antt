-- Sums that stay below 2^64, step by step.
use Rattle.std.proofs.Common.{◌≡◌, ℕ, ◌+◌, ◌-◌, ◌^◌, ◌<◌, List, length, drop, get_or, ap, sym, ◌∙◌, arith}
use Rattle.std.specs.Prelude.{min}
use Rattle.std.proofs.lemmas.List.{drop_more}
use Rattle.wild_types.specs.Lists.{total}

-- one more of a list
pub sum_next : {X : Type 0} (f : X → ℕ) (xs : List X) (i : ℕ) (x : X) (count one next : ℕ) → i < length xs → x ≡ get_or xs i x → one ≡ min (2 ^ 64 - 1) (f x) → next ≡ min (count + one) (2 ^ 64 - 1)
    → min (2 ^ 64 - 1) (count + total f (drop i xs)) ≡ min (2 ^ 64 - 1) (total f xs) → min (2 ^ 64 - 1) (next + total f (drop (i + 1) xs)) ≡ min (2 ^ 64 - 1) (total f xs)
sum_next f xs i x count one next low read o n h =
    let e : total f (drop i xs) ≡ f (get_or xs i x) + total f (drop (i + 1) xs) = ap (total f) (drop_more xs i x low) in
    let r = ap f read in
    omega (arith, e, r, o, n, h)
