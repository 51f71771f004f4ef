-- The tables of slots and stubs in the memory of an image that no entry has changed.
use Rattle.wild_loaded.proofs.Common.{◌≡◌, ℕ, zero, suc, ◌+◌, ◌-◌, ◌^◌, ◌<◌, ◌≤◌, true, false, List, [], ◌∷◌, length, map, refl, sym, ap, ◌∙◌, arith, subst, Option, Some, None, nat_le, ◌&&◌, slice_get, slice_index, All-contains, pt_load, HasBytesAt, Contains-map, Part, Role, Segment, InputSection, Layout, is_header_only_role, image_size, section_of_part, is_header_only_at, role_place, is_loaded_role, part_with, address_of_part, start_of, file_header, program_header, bytes, offset_in, SegmentLoads, CarriesByte, table_bytes, IsLaidOut, TablesStand, Memory, World, machine_of, Holds, byte_in, BytesAreLoaded, IsLoadable, IsLegal, not_partial, IsLocatedAt, image_memory, PartsAreStored}
use Rattle.wild_words.proofs.OverlayLemmas.{HasBytesAt-inner}
use Rattle.wild_types.specs.declared.part.Role.TheVariants as role
use Rattle.wild_layout.specs.Loadable.{IsCarried, IsPartCarried, IsPartMapped}
use Rattle.wild_loaded.proofs.Loads.{are_loadable, kind_is, header_from, header_to, header_distance}

-- ---- bytes

-- one byte of what stands in the image
pub byte_stands : (whole : List ℕ) (at k : ℕ) (part : List ℕ) → k < length part → HasBytesAt whole at part → HasBytesAt whole (at + k) (slice_index part k ∷ [])
byte_stands whole at k part lt st = record { fits = (let f = st.fits in omega (arith, f, lt)); same = same whole at k part (st.same k lt) }
  where
    same : (whole : List ℕ) (at k : ℕ) (part : List ℕ) → slice_index whole (at + k) ≡ slice_index part k → (i : ℕ) → i < 1 → slice_index whole (at + k + i) ≡ slice_index (slice_index part k ∷ []) i
    same whole at k part e zero m = (let n : at + k ≡ at + k + 0 = omega arith in subst (λ (a : ℕ). slice_index whole a ≡ slice_index part k) n e)
    same whole at k part e (suc i) m = absurd (omega arith)

pub carries_section : (l : Layout) (s : InputSection) (k : ℕ) (g : Segment) → IsCarried l s k g → CarriesByte l g (offset_in (slice_get l.parts s.part) s.address + k) (s.address + k)
carries_section l s k g c = record { listed = c.listed; loaded = c.loaded; from = c.from; to = c.to; distance = c.distance }

pub carries_part : (l : Layout) (p : Part) (k : ℕ) (g : Segment) → IsPartCarried l p k g → CarriesByte l g (p.offset + k) (p.address + k)
carries_part l p k g c = record { listed = c.listed; loaded = c.loaded; from = c.from; to = c.to; distance = c.distance }

-- a byte that a segment carries
pub byte_carried : (l : Layout) (w : World) (g : Segment) (offset address byte : ℕ) → BytesAreLoaded → IsLoadable l.kind → IsLegal l w → IsLaidOut l → CarriesByte l g offset address → HasBytesAt (bytes l) offset (byte ∷ []) → byte_in (image_memory l w) (w.base + address) ≡ Some byte
byte_carried l w g offset address byte law kind legal laid c st =
    let to = c.to in
    let held = law (machine_of (file_header l)) w.base (bytes l) (map (program_header l) l.segments) (program_header l g) (byte ∷ []) offset address
    (are_loadable l w kind legal laid)
    (Contains-map (program_header l) l.segments g c.listed)
    (kind_is l g ∙ c.loaded)
    (header_from l g address c.from)
    (header_to l g (address + 1) (omega (arith, to)))
    (header_distance l g address offset c.distance)
    st
    in
    let e : w.base + address + 0 ≡ w.base + address = omega arith in
    subst (λ (a : ℕ). byte_in (image_memory l w) a ≡ Some byte) e (held 0 (omega arith))

-- and its address does not wrap
pub byte_below : (l : Layout) (w : World) (g : Segment) (offset address : ℕ) → IsLoadable l.kind → IsLegal l w → IsLaidOut l → CarriesByte l g offset address → w.base + address + 1 ≤ 2 ^ 64
byte_below l w g offset address kind legal laid c =
    let to = c.to in
    let sizes = (All-contains (SegmentLoads (image_size l)) l.segments g (laid.loadable (not_partial l.kind kind)).each c.listed).sizes c.loaded in
    let ends = All-contains (λ (h : Segment). h.kind ≡ pt_load → w.base + h.address + h.mem_size ≤ 2 ^ 64) l.segments g legal.ends c.listed c.loaded in
    omega (arith, to, sizes, ends)

-- what stands in bytes that memory has
pub Holds-inner : (m : Memory) (a off : ℕ) (whole part : List ℕ) → Holds m a whole → HasBytesAt whole off part → Holds m (a + off) part
Holds-inner m a off whole part h st = λ k l.
    let f = st.fits in
    let e : a + off + k ≡ a + (off + k) = omega arith in
    rw e (h (off + k) (omega arith) ∙ ap Some (st.same k l))

-- ---- parts

pub placed : (r : Role) → is_loaded_role r ≡ true → role_place r ≡ 0 → ⊥
placed r h e = by_place (role_place r) e h
  where
    by_place : (n : ℕ) → n ≡ 0 → (nat_le (role_place role.Got) n && nat_le n (role_place role.Dynamic)) ≡ true → ⊥
    by_place n e h = (let z = subst (λ (k : ℕ). (nat_le (role_place role.Got) k && nat_le k (role_place role.Dynamic)) ≡ true) e h in cc)

-- the part of a role, where it is written
pub written_part : (l : Layout) (r : Role) (p : Part) → is_header_only_role l r ≡ false → part_with r l.parts ≡ Some p → is_header_only_at l p.section ≡ false
written_part l r p written there = subst (λ (o : Option Part). is_header_only_at l (section_of_part o) ≡ false) there written

-- each byte of a part that a program reads is carried, where it is written
pub part_carried : (l : Layout) (r : Role) (p : Part) (k : ℕ) → is_loaded_role r ≡ true → IsLoadable l.kind → IsLaidOut l → part_with r l.parts ≡ Some p → is_header_only_at l p.section ≡ false → k < p.size → (g : Segment) × CarriesByte l g (p.offset + k) (p.address + k)
part_carried l r p k loaded kind laid there written lt =
    let t = (laid.roles r (placed r loaded)).there p there in
    let c = All-contains (IsPartMapped l) l.parts p (laid.carried (not_partial l.kind kind)) t.listed (not_partial l.kind kind) (subst (λ (x : Role). is_loaded_role x ≡ true) (sym t.has) loaded) written k lt in
    (c.0, carries_part l p k c.0 c.1)

pub part_stored : BytesAreLoaded → TablesStand → PartsAreStored
part_stored law stands = λ l w r p loaded kind legal laid there written.
    let full = ((laid.roles r (placed r loaded)).there p there).size in
    record {
      ends = λ some. last l w r p loaded kind legal laid there written some;
      held = λ k lt.
          (let c = part_carried l r p k loaded kind laid there written (omega (arith, full, lt)) in
          let st = stands l laid r (placed r loaded) p there written (omega (arith, full, lt)) in
          let e : w.base + (p.address + k) ≡ w.base + p.address + k = omega arith in
          subst (λ (a : ℕ). byte_in (image_memory l w) a ≡ Some (slice_index (table_bytes l r) k)) e (byte_carried l w c.0 (p.offset + k) (p.address + k) (slice_index (table_bytes l r) k) law kind legal laid c.1 (byte_stands (bytes l) p.offset k (table_bytes l r) lt st)));
    }
  where
    last : (l : Layout) (w : World) (r : Role) (p : Part) → is_loaded_role r ≡ true → IsLoadable l.kind → IsLegal l w → IsLaidOut l → part_with r l.parts ≡ Some p → is_header_only_at l p.section ≡ false → 1 ≤ p.size → w.base + p.address + p.size ≤ 2 ^ 64
    last l w r p loaded kind legal laid there written some =
        let c = part_carried l r p (p.size - 1) loaded kind laid there written (omega (arith, some)) in
        let e = byte_below l w c.0 (p.offset + (p.size - 1)) (p.address + (p.size - 1)) kind legal laid c.1 in
        omega (arith, e, some)

-- ---- what stands in tables

pub record IsHeldAt (l : Layout) (w : World) (at : ℕ) (bs : List ℕ) : Type 0 where
  pub ends : w.base + at + length bs ≤ 2 ^ 64
  pub held : Holds (image_memory l w) (w.base + at) bs

-- bytes that stand in the table of a role are in memory at their address, where it is written
pub stands_held : (l : Layout) (w : World) (r : Role) (at : ℕ) (bs : List ℕ) → PartsAreStored → is_loaded_role r ≡ true → is_header_only_role l r ≡ false → IsLoadable l.kind → IsLegal l w → IsLaidOut l → 1 ≤ length bs → IsLocatedAt l r at bs → IsHeldAt l w at bs
stands_held l w r at bs law loaded written kind legal laid some h = by_part (part_with r l.parts) refl
  where
    start_is : (o : Option Part) → part_with r l.parts ≡ o → start_of l r ≡ address_of_part o
    start_is o e = ap address_of_part e

    by_part : (o : Option Part) → part_with r l.parts ≡ o → IsHeldAt l w at bs
    by_part None e =
        let none = ap (λ (xs : List ℕ). length xs) ((laid.roles r (placed r loaded)).missing e) in
        let f = h.stands.fits in
        absurd (omega (arith, none, f, some))
    by_part (Some p) e =
        let s = law l w r p loaded kind legal laid e (written_part l r p written e) in
        let full = ((laid.roles r (placed r loaded)).there p e).size in
        let start : start_of l r ≡ p.address = start_is (Some p) e in
        let from = h.from in
        let f = h.stands.fits in
        let ends = s.ends (omega (arith, full, f, some)) in
        let at_is : w.base + p.address + (at - start_of l r) ≡ w.base + at = omega (arith, start, from) in
        record {
          ends = omega (arith, ends, full, f, start, from);
          held = subst (λ (a : ℕ). Holds (image_memory l w) a bs) at_is (Holds-inner (image_memory l w) (w.base + p.address) (at - start_of l r) (table_bytes l r) bs s.held h.stands);
        }

-- a part of what stands there
pub stands_inner : (l : Layout) (r : Role) (at off : ℕ) (whole part : List ℕ) → IsLocatedAt l r at whole → HasBytesAt whole off part → IsLocatedAt l r (at + off) part
stands_inner l r at off whole part h st =
    let from = h.from in
    let to = h.to in
    let f = st.fits in
    let inner = HasBytesAt-inner (table_bytes l r) whole part (at - start_of l r) off h.stands st in
    let e : at - start_of l r + off ≡ at + off - start_of l r = omega (arith, from) in
    record { from = omega (arith, from); to = omega (arith, to, f); stands = subst (λ (n : ℕ). HasBytesAt (table_bytes l r) n part) e inner }
