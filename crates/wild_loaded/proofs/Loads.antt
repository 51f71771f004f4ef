-- The image of a laid out layout is loaded.
use Rattle.wild_loaded.proofs.Common.{is_partial_link, not_partial, ◌≡◌, ℕ, zero, suc, ◌+◌, ◌-◌, ◌^◌, ◌<◌, ◌≤◌, inl, inr, List, [], ◌∷◌, length, get_or, map, refl, sym, ap, ◌∙◌, arith, subst, AllPairs, Bool, Contains, if◌then◌else◌, All, flat_map, cases_lt, flat_map-map, All-map, file_header_size, pt_load, HasBytesAt, Piece, AreDisjoint, length-overlay, ProgramHeader, Segment, Layout, image_size, file_header, program_header, section_headers_of, bytes, pieces, NumbersFit, SegmentLoads, IsLaidOut, IsLegal, World, HasHeaders, IsStatic, length-section_headers_of, image_memory, processor_of, facts_of}
use Rattle.std.proofs.lemmas.List.{length-map}
use Rattle.wild_words.specs.Record.{spell}
use Rattle.wild_words.proofs.OverlayLemmas.{HasBytesAt-overlay, overlay-outside}
use Rattle.wild_records.specs.ProgramHeader.{ProgramHeaderFits, program_header_fields}
use Rattle.wild_types.specs.declared.part.Role.TheVariants as role
use Rattle.wild_table_formats.specs.Headers.{name_table, offset_of_role, file_header_bytes, program_header_bytes, section_header_bytes}
use Rattle.wild_layout.specs.Image.{padding}
use Rattle.wild_layout.specs.Loadable.{IsStatic as StaticSegment, Ascends}
use Rattle.wild_layout.specs.TablePlaces.{IsPiece}
use Rattle.wild_meaning.specs.World.{IsLoadable as IsLoadableKind}
use Rattle.wild_loader.specs.SegmentLaws.{IsLoadable, AreLoadable, Ascends as HeadersAscend}
use Rattle.wild_layout.proofs.LayoutLemmas.{length-padding}
use Rattle.wild_loaded.specs.Owners.{HasOneOwnerEach}
use Rattle.wild_loaded.proofs.HeadersFit.{file_header_fits, name_table_below, program_header_fits, section_headers_fit, headers_told}

-- ---- owners

apart_in : (l : Layout) → IsLaidOut l → AreDisjoint (length (padding l)) (pieces l)
apart_in l laid = subst (λ (n : ℕ). AreDisjoint n (pieces l)) (sym (length-padding l)) laid.owners

pub length-bytes : (l : Layout) → IsLaidOut l → length (bytes l) ≡ image_size l
unfolding bytes
length-bytes l laid = length-overlay (pieces l) (padding l) (apart_in l laid) ∙ length-padding l

pub piece_stands : (l : Layout) (p : Piece) → IsLaidOut l → Contains (pieces l) p → HasBytesAt (bytes l) p.at p.bytes
unfolding bytes
piece_stands l p laid c = HasBytesAt-overlay p (pieces l) (padding l) (apart_in l laid) c

pub one_owner_each : (l : Layout) → IsLaidOut l → HasOneOwnerEach l
unfolding bytes
one_owner_each l laid = record {
  size = length-bytes l laid;
  apart = laid.owners;
  owned = λ p c. piece_stands l p laid c;
  padded = λ k none. overlay-outside k (pieces l) (padding l) (apart_in l laid) none;
}

-- ---- tables

-- a table of the image stands at its offset
table_stands : (l : Layout) (at : ℕ) (bs : List ℕ) → IsLaidOut l → IsPiece l at bs → HasBytesAt (bytes l) at bs
table_stands l at bs laid t =
    elim (cases_lt 0 (length bs)) [
      | inl some ↦ piece_stands l (record { at = at; bytes = bs }) laid (t.listed (omega (arith, some)))
      | inr none ↦ record { fits = let n = length-bytes l laid in let w = t.within in omega (arith, n, w); same = λ k lt. absurd (omega (arith, lt, none)) }
    ]

segment_headers : Layout → List ProgramHeader
segment_headers l = map (program_header l) l.segments

programs_stand : (l : Layout) → IsLoadableKind l.kind → IsLaidOut l → HasBytesAt (bytes l) (if is_partial_link l.kind then 0 else file_header_size) (flat_map (λ (h : ProgramHeader). spell (program_header_fields h)) (map (program_header l) l.segments))
programs_stand l k laid =
    let st = table_stands l file_header_size (program_header_bytes l) laid laid.tables.program_headers in
    let told : (if is_partial_link l.kind then 0 else file_header_size) ≡ file_header_size = ap (λ (b : Bool). if b then 0 else file_header_size) (not_partial l.kind k) in
    subst (λ (n : ℕ). HasBytesAt (bytes l) n (flat_map (λ (h : ProgramHeader). spell (program_header_fields h)) (map (program_header l) l.segments))) (sym told) (subst (λ (xs : List ℕ). HasBytesAt (bytes l) file_header_size xs) (sym (flat_map-map (λ (h : ProgramHeader). spell (program_header_fields h)) (program_header l) l.segments)) st)

headers_offset : (l : Layout) → IsLaidOut l → offset_of_role role.SectionHeaders l.parts < 2 ^ 64
headers_offset l laid =
    let within = laid.tables.section_headers.within in
    let size = laid.size in
    omega (arith, within, size)

names_low : (l : Layout) → IsLaidOut l → name_table l < 2 ^ 32
names_low l laid =
    let below = name_table_below l (length l.sections) laid.some_section laid.named in
    let few = laid.sections in
    omega (arith, below, few)

pub has_headers : (l : Layout) → IsLoadableKind l.kind → NumbersFit l → IsLaidOut l → HasHeaders (bytes l) (file_header l) (map (program_header l) l.segments) (section_headers_of l l.sections)
unfolding file_header
has_headers l k numbers laid =
    record {
      fits = file_header_fits l k numbers laid.segments (headers_offset l laid);
      file_header = table_stands l 0 (file_header_bytes l) laid laid.tables.file_header;
      programs_fit = All-map ProgramHeaderFits (program_header l) l.segments (λ i d lt. program_header_fits l (get_or l.segments i d) numbers.page (numbers.segments i d lt));
      programs = programs_stand l k laid;
      program_count = sym (length-map l.segments (program_header l));
      sections_fit = section_headers_fit l l.sections laid.sections (names_low l laid) laid.names numbers.sections;
      sections = table_stands l (offset_of_role role.SectionHeaders l.parts) (section_header_bytes l) laid laid.tables.section_headers;
      section_count = headers_told l laid.some_section;
      some_section = let n = length-section_headers_of l l.sections in let some = laid.some_section in omega (arith, n, some);
    }

-- ---- segments

segment_loadable : (l : Layout) (base : ℕ) (g : Segment) → (g.kind ≡ pt_load → base + g.address + g.mem_size ≤ 2 ^ 64) → SegmentLoads (image_size l) g → IsLaidOut l → (program_header l g).kind ≡ pt_load → IsLoadable base (length (bytes l)) (program_header l g)
unfolding program_header
segment_loadable l base g ends h laid k =
    let n = length-bytes l laid in
    let file = h.file in
    record { file = omega (arith, n, file); sizes = h.sizes k; end = ends k }

pub kind_is : (l : Layout) (g : Segment) → (program_header l g).kind ≡ g.kind
unfolding program_header
kind_is l g = refl

headers_ascend : (l : Layout) (g h : Segment) → Ascends g h → HeadersAscend (program_header l g) (program_header l h)
unfolding program_header
headers_ascend l g h a = a

AllPairs-map : {X Y : Type 0} (R : Y → Y → Type 0) (f : X → Y) (xs : List X) → AllPairs (λ x y. R (f x) (f y)) xs → AllPairs R (map f xs)
AllPairs-map {X} R f [] h = λ i j d l m. absurd (omega arith)
AllPairs-map {X} R f (x ∷ xs) h = λ i j d l m. at R f x xs h (AllPairs-map R f xs (λ i j d l m. h (suc i) (suc j) d (omega arith) (omega arith))) i j d l m
  where
    at : {X Y : Type 0} (R : Y → Y → Type 0) (f : X → Y) (x : X) (xs : List X) → AllPairs (λ x y. R (f x) (f y)) (x ∷ xs) → AllPairs R (map f xs) → (i j : ℕ) (d : Y) → i < j → j < length (map f (x ∷ xs)) → R (get_or (map f (x ∷ xs)) i d) (get_or (map f (x ∷ xs)) j d)
    at R f x xs h again i zero d l m = absurd (omega arith)
    at R f x xs h again (suc i) (suc j) d l m = again i j d (omega arith) (omega arith)
    at R f x xs h again zero (suc j) d l m = All-map (R (f x)) f xs (λ k e lt. h 0 (suc k) e (omega arith) (omega arith)) j d (omega arith)

-- segments that do not wrap at a base
loadable_at : (l : Layout) (base : ℕ) → IsLoadableKind l.kind → All (λ (g : Segment). g.kind ≡ pt_load → base + g.address + g.mem_size ≤ 2 ^ 64) l.segments → IsLaidOut l → AreLoadable base (bytes l) (map (program_header l) l.segments)
loadable_at l base kind ends laid = record {
  each = All-map (λ (h : ProgramHeader). h.kind ≡ pt_load → IsLoadable base (length (bytes l)) h) (program_header l) l.segments (λ i d lt. segment_loadable l base (get_or l.segments i d) (ends i d lt) ((laid.loadable (not_partial l.kind kind)).each i d lt) laid);
  ascend = AllPairs-map HeadersAscend (program_header l) l.segments (λ i j d lt m. headers_ascend l (get_or l.segments i d) (get_or l.segments j d) ((laid.loadable (not_partial l.kind kind)).ascend i j d lt m));
}

pub are_loadable : (l : Layout) (w : World) → IsLoadableKind l.kind → IsLegal l w → IsLaidOut l → AreLoadable w.base (bytes l) (map (program_header l) l.segments)
are_loadable l w kind legal laid = loadable_at l w.base kind legal.ends laid

-- each segment is low, so it wraps at no small base
pub loadable_at_zero : (l : Layout) → IsLoadableKind l.kind → IsLaidOut l → AreLoadable 0 (bytes l) (map (program_header l) l.segments)
loadable_at_zero l kind laid = loadable_at l 0 kind (λ i d lt loads. (let low = ((laid.loadable (not_partial l.kind kind)).each i d lt).low in omega (arith, low))) laid

-- what a program header tells of a segment
pub header_from : (l : Layout) (h : Segment) (a : ℕ) → h.address ≤ a → (program_header l h).address ≤ a
unfolding program_header
header_from l h a le = le

pub header_to : (l : Layout) (h : Segment) (e : ℕ) → e ≤ h.address + h.file_size → e ≤ (program_header l h).address + (program_header l h).file_size
unfolding program_header
header_to l h e le = le

pub header_distance : (l : Layout) (h : Segment) (a place : ℕ) → place ≡ h.offset + (a - h.address) → place ≡ (program_header l h).offset + (a - (program_header l h).address)
unfolding program_header
header_distance l h a place e = e

pub segment_static : (l : Layout) (g : Segment) → StaticSegment g → IsStatic (program_header l g)
unfolding program_header
segment_static l g h = h

pub image_machine : (l : Layout) (w : World) → (image_memory l w).machine ≡ processor_of l.machine
unfolding file_header
image_machine l w = (facts_of l.machine).header (file_header l) refl
