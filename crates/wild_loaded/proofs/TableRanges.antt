-- The parts of slots and stubs in memory: they share no byte with each other, nor with an input section.
use Rattle.wild_loaded.proofs.Common.{◌≡◌, ℕ, ◌+◌, ◌-◌, ◌^◌, ◌≤◌, inl, inr, Bool, true, false, List, length, refl, sym, ap, ◌∙◌, arith, subst, Option, Some, None, All, AllPairs, Contains, slice_get, ◌&&◌, not, All-contains, slice_get-get_or, Part, Role, InputSection, Layout, is_header_only_role, KeepsAll, has_data, is_header_only_at, takes_file_bytes, is_filled, not_hollow_at, not_raw, role_place, has_role, is_loaded_role, part_with, address_of_part, start_of, offset_in, SectionLies, IsLaidOut, IsLoadable, end_of, IsLocatedAt}
use Rattle.wild_types.specs.declared.part.Role.TheVariants as role
use Rattle.wild_layout.specs.SectionPlaces.{HasRoom, RangesApart}
use Rattle.wild_loaded.proofs.PartsHeld.{placed, written_part, part_carried}
use Rattle.wild_loaded.proofs.Fillings.{Filling, DoNotOverlap}
use Rattle.wild_loaded.proofs.LoadedRanges.{LoadedRange, IsCarriedRange, AreDisjointRanges, LiesIn}
use Rattle.wild_loaded.proofs.SectionsApart.{range_of_section, filled_place}

-- ---- where a part stands

abbrev pub range_of_part : Option Part → LoadedRange
range_of_part None = record { address = 0; offset = 0; size = 0 }
range_of_part (Some p) = record { address = p.address; offset = p.offset; size = p.size }

-- that of a role, where there is one
abbrev pub range_of_role : Layout → Role → LoadedRange
range_of_role l r = range_of_part (part_with r l.parts)

pub role_there : (l : Layout) (r : Role) → is_loaded_role r ≡ true → is_header_only_role l r ≡ false → IsLoadable l.kind → IsLaidOut l → IsCarriedRange l (range_of_role l r)
role_there l r loaded written kind laid = by_part (part_with r l.parts) refl
  where
    by_part : (o : Option Part) → part_with r l.parts ≡ o → IsCarriedRange l (range_of_part o)
    by_part None e k lt = absurd (omega (arith, lt))
    by_part (Some p) e k lt = part_carried l r p k loaded kind laid e (written_part l r p written e) lt

-- ---- parts

-- the one part of a role, by its number
record IsPartOf (l : Layout) (r : Role) (p : Part) : Type 0 where
  index : ℕ
  there : slice_get l.parts index ≡ Some p
  has : p.role ≡ r
  takes : takes_file_bytes l p.section ≡ true

part_of : (l : Layout) (r : Role) (p : Part) → (role_place r ≡ 0 → ⊥) → KeepsAll l → IsLaidOut l → part_with r l.parts ≡ Some p → IsPartOf l r p
part_of l r p some keeps laid e =
    let t = (laid.roles r some).there p e in
    let c = t.listed in
    let raw = not_raw r p some t.has in
    record {
      index = c.0;
      there = slice_get-get_or l.parts c.0 p c.1 ∙ ap (λ (q : Part). Some q) c.2;
      has = t.has;
      takes = both (has_data l p.section) (is_header_only_at l p.section) (All-contains (λ (q : Part). has_role role.Raw q ≡ false → has_data l q.section ≡ true) l.parts p laid.room c raw) (not_hollow_at l p.section keeps);
    }
  where
    both : (holds header_only : Bool) → holds ≡ true → header_only ≡ false → (holds && not header_only) ≡ true
    both holds header_only d h = rw (d, h) refl

one_part : (l : Layout) (i j : ℕ) (p q : Part) → slice_get l.parts i ≡ Some p → slice_get l.parts j ≡ Some q → i ≡ j → p ≡ q
one_part l i j p q a b e = (let both : Some p ≡ Some q = sym a ∙ ap (λ (k : ℕ). slice_get l.parts k) e ∙ b in cc)

-- the parts of two roles
pub any_roles_apart : (l : Layout) (r t : Role) → (role_place r ≡ 0 → ⊥) → (role_place t ≡ 0 → ⊥) → (r ≡ t → ⊥) → KeepsAll l → IsLaidOut l → AreDisjointRanges (range_of_role l r) (range_of_role l t)
any_roles_apart l r t lr lt other keeps laid = by_parts (part_with r l.parts) (part_with t l.parts) refl refl
  where
    by_parts : (o x : Option Part) → part_with r l.parts ≡ o → part_with t l.parts ≡ x → AreDisjointRanges (range_of_part o) (range_of_part x)
    by_parts None x a b = inl (omega arith)
    by_parts (Some p) None a b = inr (omega arith)
    by_parts (Some p) (Some q) a b =
        let m = part_of l r p lr keeps laid a in
        let n = part_of l t q lt keeps laid b in
        laid.apart m.index n.index p q m.there n.there (λ e. other (sym m.has ∙ ap (λ (x : Part). x.role) (one_part l m.index n.index p q m.there n.there e) ∙ n.has)) m.takes n.takes

-- of two roles that a program reads
pub roles_apart : (l : Layout) (r t : Role) → is_loaded_role r ≡ true → is_loaded_role t ≡ true → (r ≡ t → ⊥) → KeepsAll l → IsLaidOut l → AreDisjointRanges (range_of_role l r) (range_of_role l t)
roles_apart l r t lr lt other keeps laid = any_roles_apart l r t (placed r lr) (placed t lt) other keeps laid

-- the part of a role and what stands in a raw part
pub any_room_apart : (l : Layout) (r : Role) (k at n : ℕ) (q : Part) → (role_place r ≡ 0 → ⊥) → KeepsAll l → IsLaidOut l → HasRoom l k at n q → AreDisjointRanges (range_of_role l r) (record { address = at; offset = offset_in (slice_get l.parts k) at; size = n })
any_room_apart l r k at n q some keeps laid h = by_part (part_with r l.parts) refl
  where
    placed_range : LoadedRange
    placed_range = record { address = at; offset = offset_in (slice_get l.parts k) at; size = n }

    place : offset_in (slice_get l.parts k) at ≡ q.offset + (at - q.address)
    place = ap (λ (o : Option Part). offset_in o at) h.listed

    within : (p : Part) → RangesApart p q → AreDisjointRanges (range_of_part (Some p)) placed_range
    within p (inl le) = (let e = place in inl (omega (arith, e, le)))
    within p (inr le) = (let e = place in let from = h.from in let to = h.to in inr (omega (arith, e, from, to, le)))

    by_part : (o : Option Part) → part_with r l.parts ≡ o → AreDisjointRanges (range_of_part o) placed_range
    by_part None e = inl (omega arith)
    by_part (Some p) e =
        let m = part_of l r p some keeps laid e in
        within p (laid.apart m.index k p q m.there h.listed (λ same. some (ap role_place (sym m.has ∙ ap (λ (x : Part). x.role) (one_part l m.index k p q m.there h.listed same) ∙ h.raw))) m.takes h.takes)

-- of a role that a program reads
pub room_apart : (l : Layout) (r : Role) (k at n : ℕ) (q : Part) → is_loaded_role r ≡ true → KeepsAll l → IsLaidOut l → HasRoom l k at n q → AreDisjointRanges (range_of_role l r) (record { address = at; offset = offset_in (slice_get l.parts k) at; size = n })
room_apart l r k at n q loaded keeps laid h = any_room_apart l r k at n q (placed r loaded) keeps laid h

-- the part of a role and an input section
pub filled_apart_from : (l : Layout) (r : Role) (s : InputSection) → (role_place r ≡ 0 → ⊥) → KeepsAll l → IsLaidOut l → SectionLies l s → is_filled l s ≡ true → AreDisjointRanges (range_of_role l r) (range_of_section l s)
filled_apart_from l r s some keeps laid lies filled =
    let q = (lies.owner filled).stands in
    let apart = any_room_apart l r s.part s.address s.size q.0 some keeps laid q.1 in
    subst (λ (k : ℕ). AreDisjointRanges (range_of_role l r) (record { address = s.address; offset = k; size = s.size })) (sym (filled_place l s filled)) apart

-- ---- what stands in a table

-- the table of a role ends where its part does
pub table_ends : (l : Layout) (r : Role) → is_loaded_role r ≡ true → IsLaidOut l → ((start_of l r ≡ (range_of_role l r).address) × (end_of l r ≡ (range_of_role l r).address + (range_of_role l r).size)) × (end_of l r ≤ 2 ^ 62)
table_ends l r loaded laid = by_part (part_with r l.parts) refl
  where
    by_part : (o : Option Part) → part_with r l.parts ≡ o → ((start_of l r ≡ (range_of_part o).address) × (end_of l r ≡ (range_of_part o).address + (range_of_part o).size)) × (end_of l r ≤ 2 ^ 62)
    by_part None e =
        let none = ap (λ (bs : List ℕ). length bs) ((laid.roles r (placed r loaded)).missing e) in
        let start : start_of l r ≡ 0 = ap address_of_part e in
        ((start, omega (arith, start, none)), omega (arith, start, none))
    by_part (Some p) e =
        let t = (laid.roles r (placed r loaded)).there p e in
        let full = t.size in
        let start : start_of l r ≡ p.address = ap address_of_part e in
        let low = part_low p t.listed in
        ((start, omega (arith, start, full)), omega (arith, start, full, low))
      where
        part_low : (p : Part) → Contains l.parts p → p.address + p.size ≤ 2 ^ 62
        part_low p c = subst (λ (q : Part). q.address + q.size ≤ 2 ^ 62) c.2 (laid.parts c.0 p c.1).address

-- fillings in the table of a role
pub record InTable (l : Layout) (r : Role) (xs : List Filling) : Type 0 where
  pub within : All (LiesIn (range_of_role l r)) xs
  pub beside : AllPairs DoNotOverlap xs

abbrev pub EndsBefore : Filling → Filling → Type 0
EndsBefore x y = x.entry.offset + x.width ≤ y.entry.offset

pub in_table : (l : Layout) (r : Role) (low : ℕ) (xs : List Filling) → is_loaded_role r ≡ true → IsLaidOut l → start_of l r ≤ low → All (λ (x : Filling). low ≤ x.entry.offset) xs → All (λ (x : Filling). x.entry.offset + x.width ≤ end_of l r) xs → AllPairs EndsBefore xs → InTable l r xs
in_table l r low xs loaded laid start from to ascend =
    let e = table_ends l r loaded laid in
    let s = e.0.0 in
    let t = e.0.1 in
    record {
      within = λ k d m. (let f = from k d m in let g = to k d m in record { from = omega (arith, s, start, f); to = omega (arith, t, g) });
      beside = λ i j d lt m. (let h = ascend i j d lt m in λ k lk o lo e. omega (arith, h, lk, e));
    }

-- a byte of what stands there
pub stands_inside : (l : Layout) (r : Role) (at : ℕ) (bs : List ℕ) → is_loaded_role r ≡ true → IsLaidOut l → IsLocatedAt l r at bs → ((range_of_role l r).address ≤ at) × (at + length bs ≤ (range_of_role l r).address + (range_of_role l r).size)
stands_inside l r at bs loaded laid h =
    let e = table_ends l r loaded laid in
    let s = e.0.0 in
    let t = e.0.1 in
    let from = h.from in
    let to = h.to in
    (omega (arith, s, from), omega (arith, t, to))
