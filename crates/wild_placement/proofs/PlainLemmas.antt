-- Files of which nothing moves stand as they are.
use Rattle.std.proofs.Common.{◌≡◌, ℕ, false, List, [], ◌∷◌, All, refl, ap, sym, ◌∙◌}
use Rattle.std.proofs.lemmas.List.Elements.{All-head, All-tail}
use Rattle.wild_types.specs.declared.input.Slot.{Slot}
use Rattle.wild_types.specs.declared.input.Slot.TheVariants as slot
use Rattle.wild_types.specs.declared.input.InputSection.{InputSection}
use Rattle.wild_types.specs.declared.file.File.{File}
use Rattle.wild_types.specs.declared.file.Group.{Group}
use Rattle.wild_types.specs.declared.layout.Layout.{Layout}
use Rattle.wild_types.specs.Kinds.{is_partial_link}
use Rattle.wild_types.specs.Lookups.{is_frame, is_rela}
use Rattle.wild_placement.specs.ReversedWords.{with_word_order}
use Rattle.wild_placement.specs.FrameInputs.{kept_size}
use Rattle.wild_placement.specs.Plain.{IsPlacedUnchanged, ArePlacedUnchanged}
use Rattle.wild_placement.specs.PlacedSections.{placed_by, placed_section, placed_sections, placed_file, placed_from, placed_files, address_after, file_frames, frames_at, unread}

turned_plain : (s : InputSection) → s.reversed ≡ false → with_word_order s ≡ s
unfolding with_word_order
turned_plain s h = rw h refl

-- outside relocatable objects, relocations are read
pub unread_linked : (l : Layout) (s : InputSection) → is_partial_link l.kind ≡ false → unread l s ≡ s
unread_linked l s h = rw h refl

by_slot : (k : Slot) (l : Layout) (f : File) (at : ℕ) (s : InputSection) → is_partial_link l.kind ≡ false → is_frame k ≡ false → is_rela k ≡ false → s.reversed ≡ false → placed_by k l f at s ≡ s
by_slot slot.Loaded l f at s p h t r = ap with_word_order (unread_linked l s p) ∙ turned_plain s r
by_slot slot.Debug l f at s p h t r = turned_plain s r
by_slot slot.Frame l f at s p h t r = cc
by_slot slot.Rela l f at s p h t r = cc
by_slot slot.Discard l f at s p h t r = refl
by_slot slot.Sorted l f at s p h t r = refl
by_slot slot.Merge l f at s p h t r = refl
by_slot slot.Group l f at s p h t r = refl

-- a section of which nothing moves stands as it is
pub plain_section : (l : Layout) (f : File) (at : ℕ) (s : InputSection) → is_partial_link l.kind ≡ false → IsPlacedUnchanged s → placed_section l f at s ≡ s
unfolding placed_section
plain_section l f at s p h = by_slot s.slot l f at s p h.frame h.table h.reversed

pub plain_sections : (l : Layout) (f : File) (at : ℕ) (ss : List InputSection) → is_partial_link l.kind ≡ false → All IsPlacedUnchanged ss → placed_sections l f at ss ≡ ss
plain_sections l f at [] p a = refl
plain_sections l f at (s ∷ ss) p a =
    ap (λ (x : InputSection). x ∷ placed_sections l f (address_after at (kept_size l f s)) ss) (plain_section l f at s p (All-head IsPlacedUnchanged s ss a))
    ∙ ap (λ xs. s ∷ xs) (plain_sections l f (address_after at (kept_size l f s)) ss p (All-tail IsPlacedUnchanged s ss a))

abbrev with_sections : File → List InputSection → File
with_sections f ss = record {
  role = f.role;
  first_symbol = f.first_symbol;
  symbol_count = f.symbol_count;
  sections = ss;
  thunk_block = f.thunk_block;
  owns_thunk_block = f.owns_thunk_block;
  lib_name = f.lib_name;
  copies = f.copies;
  verneed = f.verneed;
}

-- and so does a file of such
pub plain_file_placed : (l : Layout) (at : ℕ) (f : File) → is_partial_link l.kind ≡ false → ArePlacedUnchanged f → placed_file l at f ≡ f
plain_file_placed l at f p a = ap (with_sections f) (plain_sections l f at f.sections p a)

plain_from : (l : Layout) (at : ℕ) (fs : List File) → is_partial_link l.kind ≡ false → All ArePlacedUnchanged fs → placed_from l at fs ≡ fs
plain_from l at [] p a = refl
plain_from l at (f ∷ fs) p a =
    ap (λ (x : File). x ∷ placed_from l (address_after at (file_frames l f)) fs) (plain_file_placed l at f p (All-head ArePlacedUnchanged f fs a))
    ∙ ap (λ xs. f ∷ xs) (plain_from l (address_after at (file_frames l f)) fs p (All-tail ArePlacedUnchanged f fs a))

-- and the files of a group
pub plain_files : (l : Layout) (g : Group) → is_partial_link l.kind ≡ false → All ArePlacedUnchanged g.files → placed_files l g ≡ g.files
unfolding placed_files
plain_files l g p a = plain_from l (frames_at l g) g.files p a
