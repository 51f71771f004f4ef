-- Bytes on which cells stand, spelled by them.
use Rattle.std.proofs.Common.{◌≡◌, ℕ, suc, ◌+◌, true, List, [], ◌∷◌, length, get_or, refl, sym, ap, ◌∙◌, arith, subst}
use Rattle.std.proofs.lemmas.Bool.Decides.{nat_tests}
use Rattle.std.proofs.lemmas.Bool.{and_parts}
use Rattle.wild_relax.specs.declared.pattern.Cell.{Cell}
use Rattle.wild_relax.specs.declared.pattern.Cell.TheVariants.{Is, RexWide, Rex2Wide, Slot, Any}
use Rattle.wild_relax.specs.Pattern.{fits, matches_cells}
use Rattle.wild_relax.specs.KeepX86_64.{IsWhole}

-- the byte of a cell: the fixed one, or the one that is there
abbrev pub spelled : Cell → ℕ → ℕ
spelled (Is n) b = n
spelled RexWide b = b
spelled Rex2Wide b = b
spelled Slot b = b
spelled Any b = b

abbrev pub filled : List Cell → ℕ → List ℕ → List ℕ
filled [] k whole = []
filled (c ∷ cs) k whole = spelled c (get_or whole k 0) ∷ filled cs (k + 1) whole

spelled-is : (c : Cell) (b : ℕ) → fits c b ≡ true → b ≡ spelled c b
spelled-is (Is n) b h = grind (arith, nat_tests)
spelled-is RexWide b h = refl
spelled-is Rex2Wide b h = refl
spelled-is Slot b h = refl
spelled-is Any b h = refl

from : (cs : List Cell) (bs whole : List ℕ) (k : ℕ) → ((i : ℕ) → get_or whole (k + i) 0 ≡ get_or bs i 0) → length bs ≡ length cs → matches_cells cs bs ≡ true → bs ≡ filled cs k whole
from [] [] whole k same long h = refl
from [] (b ∷ bs) whole k same long h = absurd (omega arith)
from (c ∷ cs) [] whole k same long h = absurd (omega arith)
from (c ∷ cs) (b ∷ bs) whole k same long h =
    let z : k + 0 ≡ k = omega arith in
    let here : get_or whole k 0 ≡ b = subst (λ (j : ℕ). get_or whole j 0 ≡ b) z (same 0) in
    let each = and_parts (fits c b) (matches_cells cs bs) h in
    let first : b ≡ spelled c b = spelled-is c b each.0 in
    let next : (i : ℕ) → get_or whole (k + 1 + i) 0 ≡ get_or bs i 0 = λ i. subst (λ (j : ℕ). get_or whole j 0 ≡ get_or bs i 0) (omega arith) (same (suc i)) in
    let rest : bs ≡ filled cs (k + 1) whole = from cs bs whole (k + 1) next (omega arith) each.1 in
    ap (λ (x : ℕ). x ∷ bs) first ∙ ap (λ (x : ℕ). spelled c x ∷ bs) (sym here) ∙ ap (λ (xs : List ℕ). spelled c (get_or whole k 0) ∷ xs) rest

pub shape : (cs : List Cell) (bs : List ℕ) → IsWhole cs bs → bs ≡ filled cs 0 bs
shape cs bs whole = from cs bs bs 0 (λ i. subst (λ (j : ℕ). get_or bs j 0 ≡ get_or bs i 0) (omega arith) refl) whole.long whole.same

-- what stands under the cells, said of the bytes in their spelling
pub shape-matches_cells : (cs : List Cell) (bs : List ℕ) → IsWhole cs bs → matches_cells cs (filled cs 0 bs) ≡ true
shape-matches_cells cs bs whole = subst (λ (xs : List ℕ). matches_cells cs xs ≡ true) (shape cs bs whole) whole.same
