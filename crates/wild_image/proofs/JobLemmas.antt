-- Laws of the groups as work.
use Rattle.wild_image.proofs.Common.{◌≡◌, ℕ, ◌^◌, ◌<◌, ◌-◌, List, [], length, arith, subst, Result, Ok, Err, Some, slice_get, IfOk, OnOk, Error, Group, Layout, Answers, Refuses, first_clause, overlay, group_errors, group_pieces, group_pairs, batch_errors, pairs_at, Batch, GroupBytes}
use Rattle.wild_plan_rules.specs.ClauseTests.{check_sizes, check_counts}
use Rattle.wild_plan_rules.proofs.ClauseLemmas.{first_holds, rest_holds}
use Rattle.wild_image.specs.Pieces.{group_parts}
use Rattle.wild_image.specs.Batches.{HasBatch, batch_pairs, GivesBatch}
use Rattle.wild_image.specs.Jobs.{GivesPiece, PutsPieces}
use Rattle.wild_image.specs.declared.piece.GroupPiece.{GroupPiece}
use Rattle.wild_image.proofs.OutputLemmas.{few_lists}

-- a layout whose clauses hold has few groups
pub few_groups : (l : Layout) → first_clause l ≡ Ok tt → length l.groups < 2 ^ 32
unfolding first_clause
few_groups l h = let e = few_lists l (first_holds (check_counts l) _ (rest_holds (check_sizes l) _ h)) in let f = e.1 in omega (arith, f)

-- what a batch was found to give is what the batch with its number gives
pub gives_found : (l : Layout) (bs : List Batch) (i : ℕ) (found : Batch) (r : Result GroupBytes Error) → slice_get bs i ≡ Some found → Answers r (batch_errors l found) → IfOk r (HasBatch l found) → GivesBatch l bs i r
gives_found l bs i found r at faults bytes = λ b e. given l found b r (cc) faults bytes
  where
    given : (l : Layout) (found b : Batch) (r : Result GroupBytes Error) → found ≡ b → Answers r (batch_errors l found) → IfOk r (HasBatch l found) → Answers r (batch_errors l b) × IfOk r (HasBatch l b)
    given l found b r same faults bytes = (subst (λ (x : Batch). Answers r (batch_errors l x)) same faults, subst (λ (x : Batch). IfOk r (HasBatch l x)) same bytes)

pub pairs_found : (l : Layout) (bs : List Batch) (i : ℕ) (found : Batch) (pairs : List (ℕ × ℕ)) → slice_get bs i ≡ Some found → pairs ≡ batch_pairs l found → pairs ≡ pairs_at l bs i
unfolding pairs_at
pairs_found l bs i found pairs at is = rw at is

-- what a batch gave
pub bytes_given : (l : Layout) (bs : List Batch) (i : ℕ) (b : Batch) (r : Result GroupBytes Error) (bytes : GroupBytes) → GivesBatch l bs i r → slice_get bs i ≡ Some b → r ≡ Ok bytes → (batch_errors l b ≡ []) × HasBatch l b bytes
bytes_given l bs i b r bytes gives at is = rw is at (gives b at)

pub fault_given : (l : Layout) (bs : List Batch) (i : ℕ) (b : Batch) (r : Result GroupBytes Error) (e : Error) → GivesBatch l bs i r → slice_get bs i ≡ Some b → r ≡ Err e → Refuses e (batch_errors l b)
fault_given l bs i b r e gives at is = (rw is at (gives b at)).0

pub piece_found : (l : Layout) (i : ℕ) (found : Group) (r : Result GroupPiece Error) → slice_get l.groups i ≡ Some found → Answers r (group_errors l i found) → IfOk r (λ p. p.parts ≡ group_parts l found) → IfOk r (λ p. p.counts ≡ group_pairs l found) → GivesPiece l i r
piece_found l i found r at faults parts counts = λ g e. given l i found g r (cc) faults parts counts
  where
    given : (l : Layout) (i : ℕ) (found g : Group) (r : Result GroupPiece Error) → found ≡ g → Answers r (group_errors l i found) → IfOk r (λ p. p.parts ≡ group_parts l found) → IfOk r (λ p. p.counts ≡ group_pairs l found) → Answers r (group_errors l i g) × IfOk r (λ p. (p.parts ≡ group_parts l g) × (p.counts ≡ group_pairs l g))
    given l i found g r same faults parts counts = (subst (λ (x : Group). Answers r (group_errors l i x)) same faults, both l g r (subst (λ (x : Group). IfOk r (λ p. p.parts ≡ group_parts l x)) same parts) (subst (λ (x : Group). IfOk r (λ p. p.counts ≡ group_pairs l x)) same counts))
      where
        both : (l : Layout) (g : Group) (r : Result GroupPiece Error) → IfOk r (λ p. p.parts ≡ group_parts l g) → IfOk r (λ p. p.counts ≡ group_pairs l g) → IfOk r (λ p. (p.parts ≡ group_parts l g) × (p.counts ≡ group_pairs l g))
        both l g (Ok p) a b = (a, b)
        both l g (Err e) a b = tt

-- the pieces of the group that was found are those of the group with its number
pub puts_found : (l : Layout) (i : ℕ) (found : Group) (old : List ℕ) (r : Result (Unit {0}) Error) (new : List ℕ) → slice_get l.groups i ≡ Some found → Answers r (group_errors l i found) → OnOk r (new ≡ overlay (group_pieces l i found) old) → PutsPieces l i old r new
puts_found l i found old r new at faults image = λ g e. given found g (cc) faults image
  where
    given : (found g : Group) → found ≡ g → Answers r (group_errors l i found) → OnOk r (new ≡ overlay (group_pieces l i found) old) → Answers r (group_errors l i g) × OnOk r (new ≡ overlay (group_pieces l i g) old)
    given found g same faults image = (subst (λ (x : Group). Answers r (group_errors l i x)) same faults, subst (λ (x : Group). OnOk r (new ≡ overlay (group_pieces l i x) old)) same image)
