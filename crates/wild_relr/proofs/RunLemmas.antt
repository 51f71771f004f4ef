-- How many words places take, in loops.
use Rattle.std.proofs.Common.{◌≡◌, ℕ, ◌+◌, ◌<◌, ◌≤◌, List, arith, length, drop, get_or}
use Rattle.std.proofs.lemmas.List.{drop_more, drop_all}
use Rattle.wild_relr.specs.declared.run.Run.{Run}
use Rattle.wild_relr.specs.declared.run.Choice.TheVariants.{Joins, Adds}
use Rattle.wild_relr.specs.Encoding.{choice}
use Rattle.wild_relr.specs.RunWords.{counted, new_words, run_after}

pub counted_more : (r : Run) (ps : List ℕ) (i n whole : ℕ) → i < length ps → n + counted r (drop i ps) ≡ whole → n + new_words (choice r (get_or ps i 0)) + counted (run_after (choice r (get_or ps i 0)) r) (drop (i + 1) ps) ≡ whole
unfolding counted
counted_more r ps i n whole l h =
    let d = drop_more ps i 0 l in
    let g = rw d at h in
    omega (arith, g)

pub counted_adds : (r q : Run) (ps : List ℕ) (i n whole w : ℕ) → Adds w q ≡ choice r (get_or ps i 0) → i < length ps → n + counted r (drop i ps) ≡ whole → n + 1 + counted q (drop (i + 1) ps) ≡ whole
counted_adds r q ps i n whole w e l h = let g = counted_more r ps i n whole l h in rw (← e) at g

pub counted_joins : (r : Run) (ps : List ℕ) (i n whole j : ℕ) → Joins j ≡ choice r (get_or ps i 0) → i < length ps → n + counted r (drop i ps) ≡ whole → n + counted r (drop (i + 1) ps) ≡ whole
counted_joins r ps i n whole j e l h =
    let g = counted_more r ps i n whole l h in
    let k = rw (← e) at g in
    omega (arith, k)

pub counted_done : (r : Run) (ps : List ℕ) (i n whole : ℕ) → length ps ≤ i → n + counted r (drop i ps) ≡ whole → n ≡ whole
unfolding counted
counted_done r ps i n whole l h =
    let d = drop_all i ps l in
    let g = rw d at h in
    omega (arith, g)
