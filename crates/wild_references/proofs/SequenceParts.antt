-- The relocations of a sequence are those of the item, and each refers to something.
use Rattle.wild_references.proofs.Common.{◌≡◌, ℕ, zero, suc, ◌+◌, ◌<◌, Bool, true, List, [], ◌∷◌, length, refl, subst, arith, ◌==◌, ◌&&◌, ◌≢◌, not, Some, Contains, slice_get, slice_index_or, list_all, and_parts, r_x86_64_none, Machine, InputRelocation, Layout, Item, listed_passes, Instruction, instructions_of, HasPartners, IsSequence}
use Rattle.std.proofs.Common.{eq-eqb}
use Rattle.wild_types.specs.declared.kind.Machine.TheVariants as machine
use Rattle.wild_meaning.specs.Sequence.{Partner}

-- ---- no instruction is filled by a relocation that is for nothing

abbrev are_types : List ℕ → Bool
are_types ns = list_all (λ (n : ℕ). not (n == r_x86_64_none)) ns

abbrev have_types : List Partner → Bool
have_types ps = list_all (λ (p : Partner). are_types p.numbers) ps

each_has_types : (k : Machine) → list_all (λ (o : Instruction). are_types o.numbers && have_types o.partners) (instructions_of k) ≡ true
each_has_types machine.X86_64 = refl
each_has_types machine.AArch64 = refl

is_type : (ns : List ℕ) (n : ℕ) → are_types ns ≡ true → Contains ns n → n ≢ r_x86_64_none
is_type ns n h c e =
    let one : not (n == r_x86_64_none) ≡ true = listed_passes (λ (k : ℕ). not (k == r_x86_64_none)) ns n h c in
    let is : (n == r_x86_64_none) ≡ true = eq-eqb n r_x86_64_none e in
    let none : not true ≡ true = subst (λ (b : Bool). not b ≡ true) is one in
    cc

-- ---- where they are

pub record IsListed (s : Item) (r : InputRelocation) : Type 0 where
  pub index : ℕ
  pub listed : slice_get s.relocations index ≡ Some r
  pub refers : r.number ≢ r_x86_64_none

further : (l : Layout) (s : Item) (first : InputRelocation) (start i : ℕ) (ps : List Partner) (rs : List InputRelocation) → have_types ps ≡ true → HasPartners l s first start i ps rs → (r : InputRelocation) (k : ℕ) → k < length rs → slice_index_or rs k r ≡ r → IsListed s r
further l s first start i [] [] types h r k lt e = absurd (omega (arith, lt))
further l s first start i [] (q ∷ rs) types h r k lt e = absurd h
further l s first start i (p ∷ ps) [] types h r k lt e = absurd h
further l s first start i (p ∷ ps) (q ∷ rs) types h r zero lt e =
    let t = and_parts (are_types p.numbers) (have_types ps) types in
    subst (IsListed s) e (record { index = i; listed = h.0.listed; refers = is_type p.numbers q.number t.0 h.0.number })
further l s first start i (p ∷ ps) (q ∷ rs) types h r (suc k) lt e =
    let t = and_parts (are_types p.numbers) (have_types ps) types in
    further l s first start (i + 1) ps rs t.1 h.1 r k (omega (arith, lt)) e

pub in_sequence : (l : Layout) (s : Item) (first : InputRelocation) (rest : List InputRelocation) (start : ℕ) (o : Instruction) → IsSequence l s first rest start o → (r : InputRelocation) → Contains (first ∷ rest) r → IsListed s r
in_sequence l s first rest start o q r c = by c.0 c.1 c.2
  where
    types : (are_types o.numbers ≡ true) × (have_types o.partners ≡ true)
    types = and_parts (are_types o.numbers) (have_types o.partners) (listed_passes (λ (x : Instruction). are_types x.numbers && have_types x.partners) (instructions_of l.machine) o (each_has_types l.machine) q.stands.known)

    by : (k : ℕ) → k < length (first ∷ rest) → slice_index_or (first ∷ rest) k r ≡ r → IsListed s r
    by zero lt e = subst (IsListed s) e (record { index = q.index; listed = q.listed; refers = is_type o.numbers first.number types.0 q.stands.number })
    by (suc k) lt e = further l s first start (q.index + 1) o.partners rest types.1 q.has r k (omega (arith, lt)) e
