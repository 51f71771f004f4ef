-- Kept sections in the memory of an image that no entry has changed: their fields, what is rewritten, their other bytes, and zeros.
use Rattle.wild_loaded.proofs.Common.{◌≡◌, ℕ, ◌+◌, ◌≤◌, List, [], ◌∷◌, length, refl, sym, ap, ◌∙◌, arith, subst, Some, Contains, if◌then◌else◌, slice_get, slice_range, range_with_len, slice_get_within, word, HasBytesAt, Piece, AreDisjoint, length-overlay, Contains-map, Segment, InputRelocation, Item, item_of, Layout, size_width, ByteSize, Eight, file_header, program_header, Decision, Field, RelativeAddress, DynamicField, field_site, site, sites, bytes, Contains-flat_map, site_written, machine_of, byte_in, BytesAreLoaded, HasDecision, image_memory, headers_of, SectionsAreStored, ZerosAreStored, PartsAreStored}
use Rattle.wild_words.specs.Overlay.{overlay}
use Rattle.wild_words.proofs.OverlayLemmas.{HasBytesAt-overlay, overlay-outside}
use Rattle.wild_words.proofs.Basics.{range-Contains}
use Rattle.wild_layout.specs.Sites.{Written, written_by, template_site}
use Rattle.wild_layout.proofs.DecisionLemmas.{decide_left}
use Rattle.wild_layout.proofs.SiteLemmas.{site_rewritten}
use Rattle.wild_loader.specs.SegmentLaws.{ZerosAreLoaded}
use Rattle.wild_loaded.proofs.LeftFields.{left_zeroed}
use Rattle.wild_loaded.proofs.PartsHeld.{Holds-inner}
use Rattle.wild_loaded.proofs.SectionBytesInMemory.{section_held, section_ends}
use Rattle.wild_loaded.proofs.Loads.{are_loadable, kind_is}

-- ---- fields

-- what a relocation writes stands in the section's bytes
site_stands : (l : Layout) (s : Item) (i : ℕ) (r : InputRelocation) (p : Piece) → AreDisjoint (length s.bytes) (sites l s) → slice_get s.relocations i ≡ Some r → site l s i ≡ p ∷ [] → HasBytesAt (overlay (sites l s) s.bytes) p.at p.bytes
site_stands l s i r p apart listed is =
    let one : Contains (p ∷ []) p = (0, omega arith, refl) in
    let here : Contains (site l s i) p = subst (λ (ps : List Piece). Contains ps p) (sym is) one in
    HasBytesAt-overlay p (sites l s) s.bytes apart (Contains-flat_map (site l s) (range_with_len 0 (length s.relocations)) i p (range-Contains (length s.relocations) i (slice_get_within s.relocations i r listed)) here)

-- so does its field
field_stands : (l : Layout) (s : Item) (i : ℕ) (r : InputRelocation) (d : Decision) (x : Written) → AreDisjoint (length s.bytes) (sites l s) → HasDecision l s i r d → written_by d ≡ Some x → HasBytesAt (overlay (sites l s) s.bytes) r.offset (field_site s r.offset x.size x.value).bytes
field_stands l s i r d x apart h by = site_stands l s i r (field_site s r.offset x.size x.value) apart h.listed (site_written l s i r d x h.listed h.decided by)

pub sections_stored : BytesAreLoaded → PartsAreStored → SectionsAreStored
sections_stored law parts = λ l w s kind legal laid k decisions.
    let item = item_of l k.input.owner s in
    let held = section_held l w s law parts kind legal laid k decisions.apart in
    let whole = overlay (sites l item) s.bytes in
    let len = length-overlay (sites l item) s.bytes decisions.apart in
    record {
      ends = section_ends l w s kind legal laid k;
      values = λ i r z v h. Holds-inner (image_memory l w) (w.base + s.address) r.offset whole (field_site item r.offset z v).bytes held (field_stands l item i r (Field z v) (record { size = z; value = v }) decisions.apart h refl);
      addresses = λ i r v packed h. Holds-inner (image_memory l w) (w.base + s.address) r.offset whole (word 8 (if packed then v else 0)) held (field_stands l item i r (RelativeAddress v packed) (record { size = ByteSize Eight; value = if packed then v else 0 }) decisions.apart h refl);
      left = λ i r z number symbol addend h. (
          let p = field_site item r.offset z 0 in
          let made = (decide_left l item i r z number symbol addend h.listed h.decided).made in
          (p.bytes, Holds-inner (image_memory l w) (w.base + s.address) r.offset whole p.bytes held (field_stands l item i r (DynamicField z number symbol addend) (record { size = z; value = 0 }) decisions.apart h refl), left_zeroed l item r z number symbol addend (slice_range s.bytes r.offset (r.offset + size_width z)) made));
      rewritten = λ i r row v h. (
          let p = template_site item r row v in
          Holds-inner (image_memory l w) (w.base + s.address) p.at whole p.bytes held (site_stands l item i r p decisions.apart h.listed (site_rewritten l item i r row v h.listed h.decided)));
      others = λ i lt out. held i (omega (arith, len, lt)) ∙ ap Some (overlay-outside i (sites l item) s.bytes decisions.apart out);
    }

-- ---- zeros

-- what a program header tells of a segment's end
header_behind : (l : Layout) (h : Segment) (a : ℕ) → h.address + h.file_size ≤ a → (program_header l h).address + (program_header l h).file_size ≤ a
unfolding program_header
header_behind l h a le = le

header_room : (l : Layout) (h : Segment) (e : ℕ) → e ≤ h.address + h.mem_size → e ≤ (program_header l h).address + (program_header l h).mem_size
unfolding program_header
header_room l h e le = le

pub zeros_stored : ZerosAreLoaded → ZerosAreStored
zeros_stored law = λ l w a kind legal laid b.
    let to = b.to in
    let zeros = law (machine_of (file_header l)) w.base (bytes l) (headers_of l) (program_header l b.segment) a 1
    (are_loadable l w kind legal laid)
    (Contains-map (program_header l) l.segments b.segment b.listed)
    (kind_is l b.segment ∙ b.loads)
    (header_behind l b.segment a b.from)
    (header_room l b.segment (a + 1) (omega (arith, to)))
    in
    let e : w.base + a + 0 ≡ w.base + a = omega arith in
    subst (λ (x : ℕ). byte_in (image_memory l w) x ≡ Some 0) e (zeros 0 (omega arith))
