-- How many bytes of the part of frames the sections of frames take.
use Rattle.wild_geometry.proofs.Common.{Group, is_prelude, total, length-append, append-nil, and_parts, not-true, ◌≡◌, ℕ, ◌-◌, Bool, true, false, List, [], length, get_or, refl, sym, ap, ◌∙◌, arith, ◌∷◌, ◌++◌, replicate, if◌then◌else◌, All, Option, Some, None, not, slice_get, All-nil, All-head, All-tail, All-flat_map, flat_map-same, Slot, InputSection, File, Layout, item_of, is_frame, has_relocations, is_read, has_fields, frame_bytes, reversed_section, with_word_order, frames_of, kept_size, Input, placed_by, placed_section, sorted_inputs, sorted_by, sorted_in_file, sorted_in_group, files_at, sorted_input, as_loaded, unread, placed_sections, address_after, placed_files, frame_bytes_of, content, file_content, frames_bytes, item_bytes, section_bytes, SectionLies, is_own, SortedSection, overlay}
use Rattle.std.specs.List.{flat_map}
use Rattle.wild_types.specs.declared.part.Role.TheVariants as role
use Rattle.wild_types.specs.declared.input.Slot.TheVariants as slot
use Rattle.wild_types.specs.Lookups.{has_written_relocations}
use Rattle.wild_layout.specs.Sites.{sites}
use Rattle.wild_layout.proofs.PartialLemmas.{section_bytes_read}
use Rattle.wild_geometry.proofs.SiteLemmas.{length-section_bytes}
use Rattle.wild_geometry.proofs.FrameSections.{slot_of_unread}
use Rattle.wild_layout.proofs.SiteLemmas.{All-one}

-- the bytes of a section that a loader may apply relocations to are its own with its sites
pub data_bytes : (l : Layout) (f : File) (s : InputSection) → is_read s ≡ true → section_bytes l f s ≡ overlay (sites l (item_of l f s)) s.bytes
data_bytes l f s r =
    let both = and_parts (has_relocations s.slot) (not s.nobits) r in
    section_bytes_read l f s both.0 ∙ by_bits s.nobits (not-true s.nobits both.1)
  where
    by_bits : (b : Bool) → b ≡ false → (if b then replicate s.size 0 else overlay (sites l (item_of l f s)) s.bytes) ≡ overlay (sites l (item_of l f s)) s.bytes
    by_bits false h = refl
    by_bits true h = cc

-- ---- sections as they stand

-- what is known of a section that stands at an address, of which n bytes of frames are kept
pub data HasKeptSize (t : InputSection) (at n : ℕ) : Type 0 where
  NoFrame : is_frame t.slot ≡ false → n ≡ 0 → HasKeptSize t at n
  Frames : is_frame t.slot ≡ true → t.nobits ≡ false → t.address ≡ at → t.size ≡ n → HasKeptSize t at n

pub turned_slot : (s : InputSection) → (with_word_order s).slot ≡ s.slot
unfolding with_word_order
turned_slot s = by s.reversed
  where
    by : (b : Bool) → (if b then reversed_section s else s).slot ≡ s.slot
    by true = refl
    by false = refl

pub placed_section_has_kept_size : (l : Layout) (f : File) (at : ℕ) (s : InputSection) → HasKeptSize (placed_section l f at s) at (kept_size l f s)
unfolding placed_section kept_size
placed_section_has_kept_size l f at s = by s.slot refl
  where
    by : (k : Slot) → s.slot ≡ k → HasKeptSize (placed_by k l f at s) at (if is_frame k then length (frame_bytes (frames_of l f s)) else 0)
    by slot.Loaded e = NoFrame (ap is_frame (turned_slot (unread l s) ∙ slot_of_unread l s ∙ e)) refl
    by slot.Debug e = NoFrame (ap is_frame (turned_slot s ∙ e)) refl
    by slot.Frame e = Frames refl refl refl refl
    by slot.Rela e = NoFrame refl refl
    by other e = NoFrame (ap is_frame e) refl

pub frame_item : (l : Layout) (f : File) (t : InputSection) → is_frame t.slot ≡ true → frame_bytes_of l f t ≡ item_bytes l (item_of l f t)
unfolding frame_bytes_of
frame_item l f t e = rw e refl

pub no_item : (l : Layout) (f : File) (t : InputSection) → is_frame t.slot ≡ false → frame_bytes_of l f t ≡ []
unfolding frame_bytes_of
no_item l f t e = rw e refl

frame_reads : (k : Slot) → is_frame k ≡ true → k ≡ slot.Frame
frame_reads slot.Frame e = refl
frame_reads other e = cc

pub frame_read : (t : InputSection) → is_frame t.slot ≡ true → t.nobits ≡ false → is_read t ≡ true
frame_read t e n = (let k = frame_reads t.slot e in rw (k, n) refl)

frame_written : (t : InputSection) → is_frame t.slot ≡ true → t.nobits ≡ false → has_written_relocations t ≡ true
frame_written t e n = (let k = frame_reads t.slot e in rw (k, n) refl)

pub length-frame_item : (l : Layout) (f : File) (t : InputSection) → SectionLies l t → is_frame t.slot ≡ true → t.nobits ≡ false → length (frame_bytes_of l f t) ≡ t.size
length-frame_item l f t lies e n =
    let k = frame_reads t.slot e in
    ap (λ (bs : List ℕ). length bs) (frame_item l f t e ∙ sym (data_bytes l f t (frame_read t e n)))
    ∙ length-section_bytes l f t (ap is_own k) (λ m. lies.bytes (frame_written t e n)) (lies.fields (ap has_fields k))

-- the sections that stand in a given order are loaded ones
abbrev pub IsLoadedInput : Input → Type 0
IsLoadedInput x = x.section.slot ≡ slot.Loaded

one_sorted : (l : Layout) (x : SortedSection) → All IsLoadedInput (sorted_input l x)
unfolding sorted_input
one_sorted l x = by_group (slice_get (files_at (slice_get l.groups x.group)) x.file)
  where
    by_slot : (f : File) (s : InputSection) (k : Slot) → All IsLoadedInput (sorted_by l f k s)
    by_slot f s slot.Sorted = All-one IsLoadedInput (record { file = f; section = as_loaded (unread l s) }) refl
    by_slot f s other = All-nil IsLoadedInput

    by_section : (f : File) (o : Option InputSection) → All IsLoadedInput (sorted_in_file l f o)
    by_section f None = All-nil IsLoadedInput
    by_section f (Some s) = by_slot f s s.slot

    by_group : (o : Option File) → All IsLoadedInput (sorted_in_group l o x.section)
    by_group None = All-nil IsLoadedInput
    by_group (Some f) = by_section f (slice_get f.sections x.section)

pub sorted_loaded : (l : Layout) → All IsLoadedInput (sorted_inputs l)
sorted_loaded l = All-flat_map IsLoadedInput (sorted_input l) l.sorted (λ k d m. one_sorted l (get_or l.sorted k d))

-- ---- how many bytes they take

pub sections_size : (l : Layout) (f g : File) (at : ℕ) (ss : List InputSection) → All (SectionLies l) (placed_sections l g at ss) → length (flat_map (frame_bytes_of l f) (placed_sections l g at ss)) ≡ total (kept_size l g) ss
sections_size l f g at [] lies = refl
sections_size l f g at (s ∷ ss) lies =
    let t = placed_section l g at s in
    let ts = placed_sections l g (address_after at (kept_size l g s)) ss in
    let rest = sections_size l f g (address_after at (kept_size l g s)) ss (All-tail (SectionLies l) t ts lies) in
    let mine = one (placed_section_has_kept_size l g at s) (All-head (SectionLies l) t ts lies) in
    let both = length-append (frame_bytes_of l f t) (flat_map (frame_bytes_of l f) ts) in
    omega (arith, rest, mine, both)
  where
    one : HasKeptSize (placed_section l g at s) at (kept_size l g s) → SectionLies l (placed_section l g at s) → length (frame_bytes_of l f (placed_section l g at s)) ≡ kept_size l g s
    one (NoFrame plain none) lies = ap (λ (bs : List ℕ). length bs) (no_item l f (placed_section l g at s) plain) ∙ sym none
    one (Frames frame with_data here wide) lies = length-frame_item l f (placed_section l g at s) lies frame with_data ∙ wide

-- ---- what files and groups give

-- the bytes that a file gives to the part of frames
pub frames_given : (l : Layout) (f : File) → file_content l role.EhFrame f ≡ frames_bytes l f
frames_given l f = by_role (is_prelude f.role)
  where
    by_role : (b : Bool) → ((if b then [] else []) ++ frames_bytes l f) ++ [] ≡ frames_bytes l f
    by_role true = append-nil (frames_bytes l f)
    by_role false = append-nil (frames_bytes l f)

-- and a group
pub group_given : (l : Layout) (g : Group) → content l role.EhFrame g ≡ flat_map (frames_bytes l) (placed_files l g)
group_given l g = append-nil (flat_map (file_content l role.EhFrame) (placed_files l g)) ∙ flat_map-same (file_content l role.EhFrame) (frames_bytes l) (placed_files l g) (frames_given l)
