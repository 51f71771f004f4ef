-- Frames as they stand have the bytes that are kept.
use Rattle.std.proofs.Common.{◌≡◌, ℕ, List, [], ◌∷◌, false, refl, ap, ◌∙◌, arith}
use Rattle.wild_types.specs.declared.file.File.{File}
use Rattle.wild_types.specs.declared.input.InputSection.{InputSection}
use Rattle.wild_types.specs.declared.input.Slot.{Slot}
use Rattle.wild_types.specs.declared.input.Slot.TheVariants as slot
use Rattle.wild_types.specs.declared.layout.Layout.{Layout}
use Rattle.std.specs.Prelude.{if◌then◌else◌, length}
use Rattle.std.proofs.lemmas.Bool.{cases_Bool}
use Rattle.std.proofs.Common.{inl, inr}
use Rattle.wild_types.specs.Kinds.{is_partial_link}
use Rattle.wild_types.specs.Lists.{total}
use Rattle.wild_types.specs.Lookups.{is_frame}
use Rattle.wild_frames.specs.Frames.{frame_bytes}
use Rattle.wild_placement.specs.ReversedWords.{with_word_order}
use Rattle.wild_placement.specs.FrameInputs.{frames_of, kept_size}
use Rattle.wild_placement.specs.PlacedSections.{placed_by, unread, address_after, placed_section, placed_sections}
use Rattle.wild_needs.specs.Needs.{frame_room}

-- a section in another slot is none of frames
turned_room : (s : InputSection) → is_frame s.slot ≡ false → frame_room (with_word_order s) ≡ 0
unfolding with_word_order
turned_room s h =
    elim (cases_Bool s.reversed) [
      | inl t ↦ rw (t, h) refl
      | inr f ↦ rw (f, h) refl
    ]

unread_slot : (l : Layout) (s : InputSection) → (unread l s).slot ≡ s.slot
unread_slot l s =
    elim (cases_Bool (is_partial_link l.kind)) [
      | inl t ↦ rw t refl
      | inr f ↦ rw f refl
    ]

section_room : (l : Layout) (f : File) (at : ℕ) (s : InputSection) → frame_room (placed_section l f at s) ≡ kept_size l f s
unfolding placed_section kept_size
section_room l f at s = by_slot s.slot refl
  where
    by_slot : (k : Slot) → s.slot ≡ k → frame_room (placed_by k l f at s) ≡ (if is_frame k then length (frame_bytes (frames_of l f s)) else 0)
    by_slot slot.Loaded h = turned_room (unread l s) (ap is_frame (unread_slot l s ∙ h))
    by_slot slot.Debug h = turned_room s (ap is_frame h)
    by_slot slot.Rela h = refl
    by_slot slot.Frame h = refl
    by_slot other h = rw h refl

pub frames_kept : (l : Layout) (f : File) (at : ℕ) (ss : List InputSection) → total frame_room (placed_sections l f at ss) ≡ total (kept_size l f) ss
frames_kept l f at [] = refl
frames_kept l f at (s ∷ ss) =
    let here = section_room l f at s in
    let rest = frames_kept l f (address_after at (kept_size l f s)) ss in
    omega (arith, here, rest)
