-- Laws of shares that are checked batch by batch.
use Rattle.wild_image.proofs.Common.{◌≡◌, ℕ, ◌+◌, inl, inr, true, List, [], length, sym, arith, subst, Some, slice_get, slice_get_within, Group, Layout, flat_map_from, AreBatches, part_faults, HasCorrectShares, Batch, ShareCheck}
use Rattle.std.proofs.lemmas.Option.{slice_get_cases}
use Rattle.wild_image.specs.ShareChecks.{HasCorrectGroups, GivesCheck}
use Rattle.wild_image.proofs.BatchLemmas.{cut_of, holds_of_all}
use Rattle.wild_image.proofs.PlainLemmas.{shares_none}

-- a batch has a check, which found its shares correct
batch_checked : (l : Layout) (bs : List Batch) (checks : List ShareCheck) → length checks ≡ length bs → ((i : ℕ) (o : ShareCheck) → slice_get checks i ≡ Some o → GivesCheck l bs i o.is_correct) → ((i : ℕ) (o : ShareCheck) → slice_get checks i ≡ Some o → o.is_correct ≡ true) → (i : ℕ) (b : Batch) → slice_get bs i ≡ Some b → HasCorrectGroups l b
batch_checked l bs checks same gives correct i b at = elim (slice_get_cases checks i).1 [
  | inl p ↦ gives i p.0 p.2 (correct i p.0 p.2) b at
  | inr q ↦ (let low = slice_get_within bs i b at in let past = q.0 in absurd (omega (arith, low, past, same)))
]

-- if each batch's shares were found correct, no share has a fault
pub checked_shares : (l : Layout) (bs : List Batch) (checks : List ShareCheck) → AreBatches l.groups bs → length checks ≡ length bs → ((i : ℕ) (o : ShareCheck) → slice_get checks i ≡ Some o → GivesCheck l bs i o.is_correct) → ((i : ℕ) (o : ShareCheck) → slice_get checks i ≡ Some o → o.is_correct ≡ true) → flat_map_from (part_faults l) 0 l.parts ≡ []
checked_shares l bs checks are same gives correct =
    shares_none l (λ j g at. holds_of_all (HasCorrectShares l) 0 l.groups bs (cut_of l.groups bs are) (batch_checked l bs checks same gives correct) j j g (omega arith) at)

-- if those of all groups are correct, no share has a fault
pub whole_checked : (l : Layout) (gs : List Group) → gs ≡ l.groups → ((j : ℕ) (g : Group) → slice_get gs j ≡ Some g → HasCorrectShares l (0 + j) g) → flat_map_from (part_faults l) 0 l.parts ≡ []
whole_checked l gs all h =
    shares_none l (λ j g at.
    (let number : 0 + j ≡ j = omega arith in
    subst (λ (k : ℕ). HasCorrectShares l k g) number (h j g (subst (λ (xs : List Group). slice_get xs j ≡ Some g) (sym all) at))))
