-- Frames as they stand: their fields lie in the kept bytes, which keep their length.
use Rattle.wild_geometry.proofs.Common.{◌≡◌, ℕ, ◌+◌, ◌≤◌, inr, Bool, true, false, if◌then◌else◌, List, [], ◌∷◌, length, map, get_or, All, flat_map, refl, ap, ◌∙◌, arith, length-append, All-map, All-head, All-tail, All-flat_map, Slot, InputRelocation, InputSection, File, Layout, is_epilogue, item_of, is_partial_link, total, is_frame, frame_bytes, with_word_order, frames_of, kept_size, moved_relocations, placed_frames, without_relocations, unread, rela_with_target, placed_by, placed_section, placed_file, bytes_if_last, frame_bytes_of, frames_bytes, FieldLies, item_bytes}
use Rattle.wild_types.specs.declared.input.Slot.TheVariants as slot
use Rattle.wild_frames.specs.declared.entry.KeptEntry.{KeptEntry}
use Rattle.wild_frames.specs.Frames.{start, kept_in, found_in}
use Rattle.wild_frames.proofs.EntryLemmas.{found_walked, KeptIs, each_kept, no_gaps}
use Rattle.wild_frames.proofs.WriteLemmas.{length-entry}
use Rattle.wild_placement.specs.PlacedSections.{entry_relocations, moved_relocation}
use Rattle.wild_placement.proofs.PlacedFiles.{All-sections}
use Rattle.wild_needs.specs.Needs.{frame_room, frames_room}
use Rattle.wild_layout.specs.Content.{end_of_frames}
use Rattle.wild_geometry.proofs.SiteLemmas.{length-item_bytes}

-- ---- one section

-- the fields of a kept entry lie in the kept bytes
entry_fields : (l : Layout) (f : File) (s : InputSection) (k : KeptEntry) → KeptIs (frames_of l f s) k → k.to + k.size ≤ length (frame_bytes (frames_of l f s))
    → All (FieldLies l.machine (length (frame_bytes (frames_of l f s)))) (map (moved_relocation k) (entry_relocations (frames_of l f s) k))
entry_fields l f s k is ends =
    let fs = frames_of l f s in
    let P : InputRelocation → Type 0 = FieldLies l.machine (length (frame_bytes fs)) in
    All-map P (moved_relocation k) (entry_relocations fs k) (λ i r m.
    let field = is.lies.fields i r m in
    let behind = field.behind in
    let within = field.within in
    inr (omega arith))

-- those of all
pub framed_fields : (l : Layout) (f : File) (s : InputSection) → All (FieldLies l.machine (length (frame_bytes (frames_of l f s)))) (moved_relocations (frames_of l f s))
unfolding moved_relocations
framed_fields l f s =
    let fs = frames_of l f s in
    let kept = each_kept fs start (found_in fs) (found_walked fs) in
    let stand = (no_gaps fs).stand in
    All-flat_map (FieldLies l.machine (length (frame_bytes fs))) (λ k. map (moved_relocation k) (entry_relocations fs k)) (kept_in fs) (λ i k m.
    let one = kept i k m in
    let x = get_or (kept_in fs) i k in
    let long = length-entry fs x one.lies.least one.lies.within in
    let fits = (stand i k m).fits in
    entry_fields l f s x one (omega arith))

-- the bytes of such a section keep their length
pub length-placed_frames : (l : Layout) (f g : File) (at : ℕ) (s : InputSection) → length (item_bytes l (item_of l g (placed_frames l f at s))) ≡ length (frame_bytes (frames_of l f s))
length-placed_frames l f g at s = length-item_bytes l (item_of l g (placed_frames l f at s)) (length (frame_bytes (frames_of l f s))) refl (framed_fields l f s)

-- ---- the sections of a file

-- a section of a file gives as many bytes to the part of frames as it has room there
abbrev pub HasFrameRoom : Layout → File → InputSection → Type 0
HasFrameRoom l f s = length (frame_bytes_of l f s) ≡ frame_room s

pub slot_of_turned : (s : InputSection) → (with_word_order s).slot ≡ s.slot
unfolding with_word_order
slot_of_turned s = by s.reversed refl
  where
    by : (b : Bool) → s.reversed ≡ b → (with_word_order s).slot ≡ s.slot
    by true e = rw e refl
    by false e = rw e refl

pub slot_of_unread : (l : Layout) (s : InputSection) → (unread l s).slot ≡ s.slot
slot_of_unread l s = by (is_partial_link l.kind)
  where
    by : (b : Bool) → (if b then without_relocations s else s).slot ≡ s.slot
    by true = refl
    by false = refl

no_frame : (l : Layout) (f : File) (s : InputSection) → is_frame s.slot ≡ false → HasFrameRoom l f s
unfolding frame_bytes_of
no_frame l f s e = rw e refl

framed_room : (l : Layout) (f g : File) (at : ℕ) (s : InputSection) → HasFrameRoom l g (placed_frames l f at s)
unfolding frame_bytes_of
framed_room l f g at s = length-placed_frames l f g at s

pub frame_room_of : (l : Layout) (f g : File) (at : ℕ) (s : InputSection) → HasFrameRoom l g (placed_section l f at s)
unfolding placed_section
frame_room_of l f g at s = by s.slot refl
  where
    by : (k : Slot) → s.slot ≡ k → HasFrameRoom l g (placed_by k l f at s)
    by slot.Loaded e = no_frame l g (with_word_order (unread l s)) (ap is_frame (slot_of_turned (unread l s) ∙ slot_of_unread l s ∙ e))
    by slot.Debug e = no_frame l g (with_word_order s) (ap is_frame (slot_of_turned s ∙ e))
    by slot.Frame e = framed_room l f g at s
    by slot.Rela e = no_frame l g (rela_with_target f s) refl
    by other e = no_frame l g s (ap is_frame e)

-- so much is kept of a section as has room there
pub frame_room_is : (l : Layout) (f : File) (at : ℕ) (s : InputSection) → frame_room (placed_section l f at s) ≡ kept_size l f s
unfolding placed_section kept_size
frame_room_is l f at s = by s.slot refl
  where
    by : (k : Slot) → s.slot ≡ k → frame_room (placed_by k l f at s) ≡ (if is_frame s.slot then length (frame_bytes (frames_of l f s)) else 0)
    by slot.Loaded e = rw (slot_of_turned (unread l s), slot_of_unread l s, e) refl
    by slot.Debug e = rw (slot_of_turned s, e) refl
    by slot.Frame e = rw e refl
    by slot.Rela e = rw e refl
    by other e = rw e refl

-- ---- a file

-- each section of a file that stands as it does has its room
abbrev pub HasFrameRooms : Layout → File → Type 0
HasFrameRooms l f = All (HasFrameRoom l f) f.sections

pub placed_frame_rooms : (l : Layout) (f : File) (at : ℕ) → HasFrameRooms l (placed_file l at f)
placed_frame_rooms l f at = All-sections l f (HasFrameRoom l (placed_file l at f)) at f.sections (λ i s m a. frame_room_of l f (placed_file l at f) a (get_or f.sections i s))

-- lists joined end to end, each of whose items gives so many
pub joined_all : {X Y : Type 0} (f : X → List Y) (n : X → ℕ) (xs : List X) → All (λ (x : X). length (f x) ≡ n x) xs → length (flat_map f xs) ≡ total n xs
joined_all f n [] h = refl
joined_all {X} {Y} f n (x ∷ xs) h =
    let P : X → Type 0 = λ y. length (f y) ≡ n y in
    let a = length-append (f x) (flat_map f xs) in
    let b = All-head P x xs h in
    let c = joined_all f n xs (All-tail P x xs h) in
    omega arith

end_length : (l : Layout) (f : File) → length (if is_epilogue f.role then end_of_frames l else []) ≡ (if l.options.terminator then bytes_if_last f.role 4 else 0)
end_length l f = by (is_epilogue f.role) l.options.terminator
  where
    by : (last ends : Bool) → length {A = ℕ} (if last then (if ends then 0 ∷ 0 ∷ 0 ∷ 0 ∷ [] else []) else []) ≡ (if ends then (if last then 4 else 0) else 0)
    by true true = refl
    by true false = refl
    by false true = refl
    by false false = refl

pub frames_length : (l : Layout) (f : File) → HasFrameRooms l f → length (frames_bytes l f) ≡ frames_room l f
unfolding frames_bytes
frames_length l f h =
    let own = flat_map (frame_bytes_of l f) f.sections in
    let a = length-append own (if is_epilogue f.role then end_of_frames l else []) in
    let b = joined_all (frame_bytes_of l f) frame_room f.sections h in
    let c = end_length l f in
    omega arith
