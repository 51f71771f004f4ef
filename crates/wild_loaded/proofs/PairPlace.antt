-- Where the pair of the output's own thread-local data stands.
use Rattle.wild_loaded.proofs.Common.{◌≡◌, ℕ, ◌+◌, ◌^◌, ◌<◌, ◌≤◌, List, length, refl, ap, arith, subst, Option, Some, None, Part, Layout, part_with, address_of_part, start_of, IsLaidOut, end_of, PairIsPlaced, HasWholeSlots}
use Rattle.wild_types.specs.declared.part.Role.TheVariants as role
use Rattle.wild_loaded.proofs.TablesFit.{PairIsLow}

-- the table of slots ends below 2^64
got_ends : (l : Layout) → IsLaidOut l → end_of l role.Got < 2 ^ 64
got_ends l laid = by_part (part_with role.Got l.parts) refl
  where
    by_part : (o : Option Part) → part_with role.Got l.parts ≡ o → end_of l role.Got < 2 ^ 64
    by_part None e =
        let none = ap (λ (bs : List ℕ). length bs) ((laid.roles role.Got (λ z. cc)).missing e) in
        let start : start_of l role.Got ≡ 0 = begins e in
        omega (arith, none, start)
      where
        begins : part_with role.Got l.parts ≡ None → start_of l role.Got ≡ 0
        begins q = ap address_of_part q
    by_part (Some p) e =
        let t = (laid.roles role.Got (λ z. cc)).there p e in
        let size = t.size in
        let low = subst (λ (q : Part). q.address + q.size ≤ 2 ^ 62) t.listed.2 (laid.parts t.listed.0 p t.listed.1).address in
        let start : start_of l role.Got ≡ p.address = begins e in
        omega (arith, size, low, start)
      where
        begins : part_with role.Got l.parts ≡ Some p → start_of l role.Got ≡ p.address
        begins q = ap address_of_part q

-- and the pair stands in it
pub pair_low : (l : Layout) → PairIsPlaced → IsLaidOut l → HasWholeSlots l → PairIsLow l
pair_low l law laid slots = λ at e. (let to = (law l slots.order laid.some_group at e).to in let ends = got_ends l laid in omega (arith, to, ends))
