-- The parts of an image that one segment carries whole, as a look-up finds them.
use Rattle.wild_names.proofs.Common.{◌≡◌, ℕ, zero, suc, ◌+◌, ◌-◌, ◌<◌, ◌≤◌, inl, inr, true, false, List, [], ◌∷◌, length, get_or, map, drop, refl, ap, ◌∙◌, arith, subst, AllPairs, ◌&&◌, ◌==◌, nat_lt, nat_le, slice_index, Ok, cases_Bool, eqb-true, le-leb, HasBytesAt, ProgramHeader, Part, Layout, bytes_of}
use Rattle.std.proofs.Common.{eq-eqb}
use Rattle.std.proofs.lemmas.Bool.{lt-ltb, le-ltb, and_right, and_left, and_from}
use Rattle.std.proofs.lemmas.List.{get_or-take, get_or-drop, length-take, length-drop}
use Rattle.wild_records.specs.Abi.Segment.{pt_load}
use Rattle.wild_types.specs.declared.section.Segment.{Segment}
use Rattle.wild_types.specs.Lookups.{image_size}
use Rattle.wild_table_formats.specs.Headers.{program_header}
use Rattle.wild_layout.specs.Loadable.{Ascends, IsCarriedWhole, SegmentLoads}
use Rattle.wild_loader.specs.Tables.{has_in_memory}
use Rattle.wild_hashes.specs.declared.image.Part.{Part as Found}
use Rattle.wild_hashes.specs.Image.{part_at, part_in}

-- ---- the segment of an address

-- the segment has the address in memory
record HasAddress (g : Segment) (a : ℕ) : Type 0 where
  loaded : g.kind ≡ pt_load
  from : g.address ≤ a
  to : a < g.address + g.mem_size

is_here : (l : Layout) (g : Segment) (a : ℕ) → HasAddress g a → has_in_memory (program_header l g) a ≡ true
unfolding program_header
is_here l g a h = and_from (g.kind == pt_load && nat_le g.address a) (nat_lt a (g.address + g.mem_size)) (and_from (g.kind == pt_load) (nat_le g.address a) (eq-eqb g.kind pt_load h.loaded) (le-leb _ _ h.from)) (lt-ltb _ _ h.to)

-- an earlier segment does not have an address that a later one has
not_earlier : (l : Layout) (g h : Segment) (a : ℕ) → Ascends g h → HasAddress h a → has_in_memory (program_header l g) a ≡ false
unfolding program_header
not_earlier l g h a order has =
    let low = has.from in
    elim (cases_Bool (g.kind == pt_load)) [
      | inl t ↦ (let e = order (eqb-true _ _ t) has.loaded in and_right (g.kind == pt_load && nat_le g.address a) (nat_lt a (g.address + g.mem_size)) (le-ltb _ _ (omega (arith, e, low))))
      | inr f ↦ and_left (g.kind == pt_load && nat_le g.address a) (nat_lt a (g.address + g.mem_size)) (and_left (g.kind == pt_load) (nat_le g.address a) f)
    ]

pairs_rest : (g : Segment) (gs : List Segment) → AllPairs Ascends (g ∷ gs) → AllPairs Ascends gs
pairs_rest g gs h = λ i j d l m. h (suc i) (suc j) d (omega (arith, l)) (omega (arith, m))

-- the first segment that has the address is the one that has it
found_at : (l : Layout) (image : List ℕ) (i : ℕ) (gs : List Segment) (h : Segment) (a : ℕ) → AllPairs Ascends gs → i < length gs → get_or gs i h ≡ h → HasAddress h a → part_at image (map (program_header l) gs) a ≡ Ok (part_in image (program_header l h) a)
unfolding part_at
found_at l image i [] h a order lt e has = absurd (omega (arith, lt))
found_at l image zero (g ∷ gs) h a order lt e has =
    let P : Segment → Type 0 = λ r. HasAddress r a → part_at image (map (program_header l) (g ∷ gs)) a ≡ Ok (part_in image (program_header l r) a) in
    let here : P g = λ is. rw (is_here l g a is) refl in
    subst P e here has
found_at l image (suc i) (g ∷ gs) h a order lt e has =
    let P : Segment → Type 0 = λ r. Ascends g r in
    let before : Ascends g h = subst P e (order 0 (suc i) h (omega arith) (omega (arith, lt))) in
    rw (not_earlier l g h a before has) (found_at l image i gs h a (pairs_rest g gs order) (omega (arith, lt)) e has)

-- ---- the part

-- a look-up finds the part: it begins where the part does, and has all of its bytes
pub record IsFoundPart (image : List ℕ) (hs : List ProgramHeader) (p : Part) (f : Found) : Type 0 where
  pub is : part_at image hs p.address ≡ Ok f
  pub start : f.start ≡ p.offset
  pub room : p.size ≤ f.size

placed_in : (l : Layout) (image : List ℕ) (g : Segment) (p : Part) → p.offset + p.size ≤ length image → p.offset ≡ g.offset + (p.address - g.address) → p.address + p.size ≤ g.address + g.file_size → ((part_in image (program_header l g) p.address).start ≡ p.offset) × (p.size ≤ (part_in image (program_header l g) p.address).size)
unfolding program_header
placed_in l image g p within distance to = (omega (arith, within, distance), omega (arith, within, distance, to))

pub found_part : (l : Layout) (image : List ℕ) (p : Part) → AllPairs Ascends l.segments → (c : IsCarriedWhole l p) → SegmentLoads (image_size l) c.segment → 1 ≤ p.size → p.offset + p.size ≤ length image → IsFoundPart image (map (program_header l) l.segments) p (part_in image (program_header l c.segment) p.address)
found_part l image p order c loads some within =
    let to = c.to in
    let sizes = loads.sizes c.loaded in
    let at = c.listed in
    let place = placed_in l image c.segment p within c.distance c.to in
    record {
      is = found_at l image at.0 l.segments c.segment p.address order at.1 at.2 (record { loaded = c.loaded; from = c.from; to = omega (arith, to, sizes, some) });
      start = place.0;
      room = place.1;
    }

-- ---- its bytes

-- what stands in an image stands in a part that has it
pub stands_cut : (image part : List ℕ) (f : Found) (at k : ℕ) → f.start ≡ at → k + length part ≤ f.size → HasBytesAt image (at + k) part → HasBytesAt (bytes_of image f) k part
stands_cut image part f at k e room st =
    let fits = st.fits in
    let rest = length-drop f.start image in
    let cut = length-take f.size (drop f.start image) in
    record {
      fits = omega (arith, e, room, fits, rest, cut);
      same = λ i lt. byte i lt;
    }
  where
    byte : (i : ℕ) → i < length part → slice_index (bytes_of image f) (k + i) ≡ slice_index part i
    byte i lt =
        let there : f.start + (k + i) ≡ at + k + i = omega (arith, e) in
        get_or-take f.size (drop f.start image) (k + i) 0 (omega (arith, room, lt)) ∙ get_or-drop f.start image (k + i) 0 ∙ ap (λ (n : ℕ). slice_index image n) there ∙ st.same i lt
