-- The segments carry the bytes of parts and of input sections to their addresses.
use Rattle.wild_geometry.proofs.Common.{◌≡◌, ℕ, zero, suc, ◌+◌, ◌-◌, ◌<◌, ◌≤◌, ◌==◌, nat_lt, nat_le, true, false, not, ◌&&◌, ◌||◌, List, [], ◌∷◌, length, drop, get_or, All, Option, Some, slice_get, refl, arith, subst, list_any, and_parts, and_from, leb-true, ltb-true, eqb-true, eqb-false, ne_eqb, not-true, Found-from_list_any, ItemAt-within, holds_at, implied, or_other, pt_load, Part, Section, Segment, Slot, InputSection, Layout, is_partial_link, allocated, flags_of, section_of_part, is_allocated_section, is_header_only, header_only, is_header_only_at, has_data, takes_file_bytes, is_loaded, is_filled, part_lies, bool_eq, part_index_fits}
use Rattle.wild_words.proofs.ListLemmas.{Found}
use Rattle.wild_plan_rules.specs.declared.side.ImageOrMemory.TheVariants as side
use Rattle.wild_types.specs.declared.input.Slot.TheVariants as slot
use Rattle.wild_types.specs.Lookups.{without_data, is_allocated_part, is_without_data, fills_file}
use Rattle.wild_plan_rules.specs.Places.{within, is_level, lies_in, lies_by}
use Rattle.wild_types.specs.Parts.{is_loaded_role}
use Rattle.wild_plan_rules.specs.Segments.{at_equal_distance, has_byte, has_file_bytes, all_below, bytes_are_loaded}
use Rattle.wild_plan_rules.proofs.CoverLemmas.{all_below_each}
use Rattle.wild_plan_rules.specs.Contents.{has_room}
use Rattle.wild_layout.specs.Loadable.{CarriesByte, IsMapped, IsPartMapped}
use Rattle.wild_geometry.specs.Carried.{EachPartIsLoaded}
use Rattle.wild_geometry.proofs.PlacedSectionLemmas.{AllClausesHold}
use Rattle.wild_geometry.proofs.SectionLemmas.{Holds, IsInRawPart}
use Rattle.wild_geometry.proofs.PieceLemmas.{place_is}

-- ---- a section with data

-- the section with that header index is allocated, and has file bytes
pub record Filled (l : Layout) (k : ℕ) : Type 0 where
  pub section : Section
  pub is : slice_get l.sections k ≡ Some section
  pub later : k ≡ 0 → ⊥
  pub bits : fills_file l section ≡ true
  pub allocated : allocated section.flags ≡ true

pub Filled-from_tests : (l : Layout) (k : ℕ) → k < length l.sections → is_allocated_section l k ≡ true → takes_file_bytes l k ≡ true → Filled l k
Filled-from_tests l k named place takes =
    let both = and_parts (not (k == 0)) (allocated (flags_of (slice_get l.sections k))) place in
    let item = ItemAt-within l.sections k named in
    let written = and_parts (has_data l k) (not (is_header_only_at l k)) takes in
    let here : not (not (k == 0) && header_only l (Some item.item)) ≡ true = subst (λ (o : Option Section). not (not (k == 0) && header_only l o) ≡ true) item.is written.1 in
    record {
      section = item.item;
      is = item.is;
      later = eqb-false _ _ (not-true _ both.0);
      bits = and_from (not (is_without_data item.item)) (not (is_header_only l item.item)) (subst (λ (o : Option Section). not (without_data o) ≡ true) item.is written.0) (rw both.0 at here);
      allocated = subst (λ (o : Option Section). allocated (flags_of o) ≡ true) item.is both.1;
    }

later_item : {X : Type 0} (P : X → Type 0) (xs : List X) (k : ℕ) (x : X) → slice_get xs k ≡ Some x → (k ≡ 0 → ⊥) → All P (drop 1 xs) → P x
later_item P [] k x e n a = cc
later_item P (y ∷ ys) zero x e n a = absurd (n refl)
later_item P (y ∷ ys) (suc k) x e n a = holds_at P ys k x e a

-- ---- a part in its section

-- the section has the part, at equal distance in file and memory
pub record Level (s : Section) (p : Part) : Type 0 where
  pub low : s.offset ≤ p.offset
  pub high : p.offset + p.size ≤ s.offset + s.size
  pub address : s.address ≤ p.address
  pub distance : p.address + s.offset ≡ p.offset + s.address

level_by : (l : Layout) (s : Section) (p : Part) → lies_in l s p ≡ true → fills_file l s ≡ true → allocated s.flags ≡ true → Level s p
level_by l s p h k a =
    let b = and_parts (within s.offset s.size p.offset p.size) (not (allocated s.flags) || is_level s p) (rw k at h) in
    let c = and_parts (nat_le s.offset p.offset) (nat_le (p.offset + p.size) (s.offset + s.size)) b.0 in
    let d : is_level s p ≡ true = implied (allocated s.flags) (is_level s p) b.1 a in
    let e = and_parts (nat_le s.address p.address) (p.address + s.offset == p.offset + s.address) d in
    record { low = leb-true _ _ c.0; high = leb-true _ _ c.1; address = leb-true _ _ e.0; distance = eqb-true _ _ e.1 }

pub part_level : (l : Layout) (p : Part) → part_lies l p ≡ true → (o : Filled l p.section) → Level o.section p
part_level l p lies o =
    let in' : lies_by l (slice_get l.sections p.section) p ≡ true = or_other (p.section == 0) (lies_by l (slice_get l.sections p.section) p) lies (ne_eqb _ _ o.later) in
    level_by l o.section p (subst (λ (x : Option Section). lies_by l x p ≡ true) o.is in') o.bits o.allocated

-- ---- the segment of a byte

-- the segment has the section's byte with address a among its file bytes
record Carries (s : Section) (a : ℕ) (g : Segment) : Type 0 where
  loaded : g.kind ≡ pt_load
  from : g.address ≤ a
  to : a < g.address + g.file_size
  distance : s.offset + g.address ≡ s.address + g.offset

carries_by : (l : Layout) (s : Section) (a : ℕ) (g : Segment) → has_byte side.File l s a g ≡ true → fills_file l s ≡ true → Carries s a g
carries_by l s a g h k =
    let b = and_parts (g.kind == pt_load && (nat_le g.address a && nat_lt a (g.address + g.file_size))) (not (fills_file l s) || at_equal_distance s g) h in
    let c = and_parts (g.kind == pt_load) (nat_le g.address a && nat_lt a (g.address + g.file_size)) b.0 in
    let d = and_parts (nat_le g.address a) (nat_lt a (g.address + g.file_size)) c.1 in
    let e : at_equal_distance s g ≡ true = or_other (not (fills_file l s)) (at_equal_distance s g) b.1 (rw k refl) in
    record { loaded = eqb-true _ _ c.0; from = leb-true _ _ d.0; to = ltb-true _ _ d.1; distance = eqb-true _ _ e }

segment_of : (l : Layout) (segments : List Segment) (s : Section) → bytes_are_loaded side.File l segments s ≡ true → allocated s.flags ≡ true → fills_file l s ≡ true → (k : ℕ) → k < s.size → Found (has_byte side.File l s (s.address + k)) segments
segment_of l segments s h a bits k lt =
    let has : has_file_bytes l s ≡ true = and_from (allocated s.flags) (fills_file l s) a bits in
    let each = implied (has_file_bytes l s) (all_below (λ n. list_any (has_byte side.File l s (s.address + n)) segments) s.size) h has in
    Found-from_list_any (has_byte side.File l s (s.address + k)) segments (all_below_each (λ n. list_any (has_byte side.File l s (s.address + n)) segments) s.size each k lt)

-- a segment carries the byte with that offset and that address
abbrev pub IsByteCarried : Layout → ℕ → ℕ → Type 0
IsByteCarried l offset address = (h : Segment) × CarriesByte l h offset address

-- byte n of a section with data
byte_of : (l : Layout) → AllClausesHold l → is_partial_link l.kind ≡ false → (k : ℕ) (o : Filled l k) (n : ℕ) → n < o.section.size → IsByteCarried l (o.section.offset + n) (o.section.address + n)
byte_of l h kind k o n lt =
    let loaded = later_item (λ x. bytes_are_loaded side.File l l.segments x ≡ true) l.sections k o.section o.is o.later (h.segments.loaded kind) in
    let found = segment_of l l.segments o.section loaded o.allocated o.bits n lt in
    let c = carries_by l o.section (o.section.address + n) found.item found.passes o.bits in
    let a = c.from in
    let b = c.to in
    let d = c.distance in
    (found.item, record { listed = found.listed; loaded = c.loaded; from = a; to = b; distance = omega arith })

-- a byte of a part of such a section, that many behind the part's start
pub byte_of_part : (l : Layout) → AllClausesHold l → is_partial_link l.kind ≡ false → (p : Part) → part_lies l p ≡ true → (o : Filled l p.section) → (k : ℕ) → k < p.size → IsByteCarried l (p.offset + k) (p.address + k)
byte_of_part l h kind p lies o k lt =
    let level = part_level l p lies o in
    let low = level.low in
    let high = level.high in
    let near = level.address in
    let same = level.distance in
    let n = p.offset - o.section.offset + k in
    let c = byte_of l h kind p.section o n (omega arith) in
    let offset : o.section.offset + n ≡ p.offset + k = omega arith in
    let address : o.section.address + n ≡ p.address + k = omega arith in
    subst (λ (a : ℕ). IsByteCarried l (p.offset + k) a) address (subst (λ (b : ℕ). IsByteCarried l b (o.section.address + n)) offset c)

-- ---- parts

pub IsPartMapped-from_clauses : (l : Layout) → AllClausesHold l → (i : ℕ) (d : Part) → i < length l.parts → IsPartMapped l (get_or l.parts i d)
IsPartMapped-from_clauses l h i d low kind loaded written k lt =
    let p = get_or l.parts i d in
    let asked : (is_partial_link l.kind || not (is_loaded_role p.role)) ≡ false = rw (kind, loaded) refl in
    let both = and_parts (is_allocated_section l p.section) (has_data l p.section) (or_other (is_partial_link l.kind || not (is_loaded_role p.role)) (is_allocated_section l p.section && has_data l p.section) (h.parts.loaded i d low) asked) in
    let o = Filled-from_tests l p.section (ltb-true _ _ (h.indexes.parts i d low)) both.0 (and_from (has_data l p.section) (not (is_header_only_at l p.section)) both.1 (rw written refl)) in
    let c = byte_of_part l h kind p (h.parts.lie i d low) o k lt in
    (c.0, record { listed = c.1.listed; loaded = c.1.loaded; from = c.1.from; to = c.1.to; distance = c.1.distance })

-- any part of an allocated section with bytes in the file
pub EachPartIsLoaded-from_clauses : (l : Layout) → AllClausesHold l → EachPartIsLoaded l
EachPartIsLoaded-from_clauses l h = λ kind i d low place takes k lt. (
    let p = get_or l.parts i d in
    byte_of_part l h kind p (h.parts.lie i d low) (Filled-from_tests l p.section (ltb-true _ _ (h.indexes.parts i d low)) place takes) k lt)

-- ---- input sections

room_of_loaded : (k : Slot) → is_loaded k ≡ true → has_room k ≡ true
room_of_loaded slot.Loaded h = refl
room_of_loaded other h = cc

-- the output section of an input section that is allocated
output_of : (l : Layout) → AllClausesHold l → is_partial_link l.kind ≡ false → (s : InputSection) → Holds l s → is_loaded s.slot ≡ true → allocated s.flags ≡ true → (st : IsInRawPart l s) → Filled l st.part.section
output_of l h kind s holds loaded alloc st =
    let room = room_of_loaded s.slot loaded in
    let asked : (is_partial_link l.kind || not (has_room s.slot)) ≡ false = rw (kind, room) refl in
    let agrees = or_other (is_partial_link l.kind || not (has_room s.slot)) (bool_eq (allocated s.flags) (is_allocated_part l s.part)) holds.allocation asked in
    let part : is_allocated_part l s.part ≡ true = rw alloc at agrees in
    let place : is_allocated_section l st.part.section ≡ true = subst (λ (o : Option Part). is_allocated_section l (section_of_part o) ≡ true) st.is part in
    let named = ltb-true _ _ (holds_at (λ p. part_index_fits l p ≡ true) l.parts s.part st.part st.is h.indexes.parts) in
    Filled-from_tests l st.part.section named place st.takes

pub IsMapped-from_stood : (l : Layout) → AllClausesHold l → is_partial_link l.kind ≡ false → (s : InputSection) → Holds l s → (is_filled l s ≡ true → IsInRawPart l s) → IsMapped l s
IsMapped-from_stood l h kind s holds stood loaded filled alloc =
    let st = stood filled in
    let o = output_of l h kind s holds loaded alloc st in
    let lies = holds_at (λ p. part_lies l p ≡ true) l.parts s.part st.part st.is h.parts.lie in
    let from = st.from in
    let to = st.to in
    let place = place_is l s st in
    λ k lt. (
    let c = byte_of_part l h kind st.part lies o (s.address - st.part.address + k) (omega arith) in
    let a = c.1.from in
    let b = c.1.to in
    let d = c.1.distance in
    (c.0, record { listed = c.1.listed; loaded = c.1.loaded; from = omega arith; to = omega arith; distance = omega arith })
    )
