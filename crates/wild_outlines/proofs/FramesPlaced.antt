-- Frames, placed sections and sorted sections in an outline.
use Rattle.wild_outlines.proofs.Common.{◌≡◌, ℕ, if◌then◌else◌, List, [], ◌∷◌, ◌++◌, map, Option, Some, None, option_map, slice_get, refl, sym, ap, ◌∙◌, slice_get-map, File, Group, InputSection, Slot, Layout, SortedSection, is_frame, kept_size, frames_of, placed_by, placed_files, placed_from, placed_section, placed_sections, processed_sections, sorted_input, Input, placed_frames_with, frames_at, file_frames, address_after, sorted_inputs, unread, of_last_file, outline_section, outline_file, outline_group, outline, is_changeable}
use Rattle.wild_types.specs.declared.input.Slot.TheVariants as slot
use Rattle.wild_placement.specs.PlacedSections.{sorted_by, sorted_in_file, sorted_in_group, files_at, origins_of, kept_relocations}
use Rattle.wild_outlines.proofs.ListLemmas.{flat_map-same, map-flat_map}
use Rattle.wild_outlines.proofs.ChangedItems.{outline_section-fixed}
use Rattle.wild_outlines.proofs.SharesFrames.{frames_of-outline, kept_size-outline, file_frames-outline}
use Rattle.wild_outlines.proofs.SharesLemmas.{sorted_sections-outline}
use Rattle.wild_outlines.proofs.ValuesFiles.{same_file}
use Rattle.wild_outlines.proofs.ClausesGroups.{files_at-outline}

pub frames_of-same_file : (l : Layout) (f : File) (s : InputSection) → frames_of (outline l) f s ≡ frames_of l f s
frames_of-same_file l f s = same_file (λ m g. frames_of m g s) (λ m g. frames_of-outline m g s) l f

pub kept_size-same_file : (l : Layout) (f : File) (s : InputSection) → kept_size (outline l) f s ≡ kept_size l f s
kept_size-same_file l f s = same_file (λ m g. kept_size m g s) (λ m g. kept_size-outline m g s) l f

pub file_frames-same_file : (l : Layout) (f : File) → file_frames (outline l) f ≡ file_frames l f
file_frames-same_file l f = same_file file_frames file_frames-outline l f

pub origins_of-outline : (l : Layout) (f : File) (s : InputSection) → origins_of (outline l) (outline_file f) s ≡ origins_of l f s
origins_of-outline l f s = ap (λ fs. if is_frame s.slot then kept_relocations fs else (unread l s).relocations) (frames_of-outline l f s)

placed_by-outline : (l : Layout) (k : Slot) (f : File) (at : ℕ) (s : InputSection) → placed_by k (outline l) f at s ≡ placed_by k l f at s
placed_by-outline l slot.Frame f at s = ap (placed_frames_with s at) (frames_of-same_file l f s)
placed_by-outline l other f at s = refl

pub placed_section-outline : (l : Layout) (f : File) (at : ℕ) (s : InputSection) → placed_section (outline l) f at s ≡ placed_section l f at s
unfolding placed_section
placed_section-outline l f at s = placed_by-outline l s.slot f at s

-- ---- sorted sections

-- a sorted section is unchangeable; its file may have others
abbrev pub outline_input : Input → Input
outline_input x = record { file = outline_file x.file; section = x.section }

sorted_by-outline : (l : Layout) (f : File) (k : Slot) (s : InputSection) → sorted_by (outline l) (outline_file f) k s ≡ map outline_input (sorted_by l f k s)
sorted_by-outline l f slot.Sorted s = refl
sorted_by-outline l f other s = refl

sorted_sections_are_unchangeable : (l : Layout) (f : File) (s : InputSection) (k : Slot) → s.slot ≡ k → sorted_by l f k (outline_section s) ≡ sorted_by l f k s
sorted_sections_are_unchangeable l f s slot.Sorted h = ap (sorted_by l f slot.Sorted) (outline_section-fixed s (ap is_changeable h))
sorted_sections_are_unchangeable l f s other h = refl

sorted_in_file-outline : (l : Layout) (f : File) (o : Option InputSection) → sorted_in_file (outline l) (outline_file f) (option_map outline_section o) ≡ map outline_input (sorted_in_file l f o)
sorted_in_file-outline l f None = refl
sorted_in_file-outline l f (Some s) = sorted_sections_are_unchangeable (outline l) (outline_file f) s s.slot refl ∙ sorted_by-outline l f s.slot s

sorted_in_group-outline : (l : Layout) (o : Option File) (k : ℕ) → sorted_in_group (outline l) (option_map outline_file o) k ≡ map outline_input (sorted_in_group l o k)
sorted_in_group-outline l None k = refl
sorted_in_group-outline l (Some f) k = ap (sorted_in_file (outline l) (outline_file f)) (slice_get-map outline_section f.sections k) ∙ sorted_in_file-outline l f (slice_get f.sections k)

pub sorted_input-outline : (l : Layout) (x : SortedSection) → sorted_input (outline l) x ≡ map outline_input (sorted_input l x)
unfolding sorted_input
sorted_input-outline l x =
    ap (λ o. sorted_in_group (outline l) (slice_get (files_at o) x.file) x.section) (slice_get-map outline_group l.groups x.group)
    ∙ (ap (λ fs. sorted_in_group (outline l) (slice_get fs x.file) x.section) (files_at-outline (slice_get l.groups x.group))
    ∙ (ap (λ o. sorted_in_group (outline l) o x.section) (slice_get-map outline_file (files_at (slice_get l.groups x.group)) x.file)
    ∙ sorted_in_group-outline l (slice_get (files_at (slice_get l.groups x.group)) x.file) x.section))

pub sorted_inputs-outline : (l : Layout) → sorted_inputs (outline l) ≡ map outline_input (sorted_inputs l)
sorted_inputs-outline l = flat_map-same (sorted_input (outline l)) (λ x. map outline_input (sorted_input l x)) l.sorted (sorted_input-outline l) ∙ sym (map-flat_map outline_input (sorted_input l) l.sorted)

pub processed_sections-outline : (l : Layout) (f : File) → processed_sections (outline l) f ≡ processed_sections l f
processed_sections-outline l f = ap (λ ss. f.sections ++ of_last_file f ss) (sorted_sections-outline l)

placed_sections-outline : (l : Layout) (f : File) (at : ℕ) (ss : List InputSection) → placed_sections (outline l) f at ss ≡ placed_sections l f at ss
placed_sections-outline l f at [] = refl
placed_sections-outline l f at (s ∷ ss) = simp (placed_section-outline l f at s, kept_size-same_file l f s, placed_sections-outline l f (address_after at (kept_size l f s)) ss)

placed_from-outline : (l : Layout) (at : ℕ) (fs : List File) → placed_from (outline l) at fs ≡ placed_from l at fs
placed_from-outline l at [] = refl
placed_from-outline l at (f ∷ fs) = simp (placed_sections-outline l f at f.sections, file_frames-same_file l f, placed_from-outline l (address_after at (file_frames l f)) fs)

pub placed_files-outline : (l : Layout) (g : Group) → placed_files (outline l) g ≡ placed_files l g
unfolding placed_files
placed_files-outline l g = placed_from-outline l (frames_at l g) g.files
