-- The frames of input files are the same for the outline: of code sections they read addresses and sizes alone.
use Rattle.wild_outlines.proofs.Common.{◌≡◌, ℕ, true, false, [], length, Option, Some, None, refl, sym, ap, ◌∙◌, inl, inr, if◌then◌else◌, option_map, slice_get, cases_Bool, slice_get-map, fun_ext, InputRelocation, InputSection, Slot, File, Group, Place, Symbol, Layout, total, is_frame, files_of, file_of, frames_of, kept_size, file_frames, is_changeable, outline_section, outline_file, outline_group, outline}
use Rattle.wild_types.specs.declared.input.Slot.TheVariants as slot
use Rattle.wild_types.specs.declared.symbol.Place.TheVariants as at
use Rattle.wild_types.specs.Rows.{field_bytes}
use Rattle.wild_frames.specs.declared.frames.Target.{Target}
use Rattle.wild_frames.specs.Frames.{Frames, frame_bytes, fdes_in}
use Rattle.wild_placement.specs.FrameInputs.{section_target, target_in, has_symbol, defining_file_of, target_at, symbol_target, target_by, target_of, fde_count}
use Rattle.wild_placement.specs.PlacedSections.{all_fdes}
use Rattle.wild_outlines.proofs.ChangedItems.{outline_section-fixed}
use Rattle.wild_outlines.proofs.ClausesGroups.{total-mapped, option_map-if, file_of-layout}

-- ---- the targets of relocations

section_target-outline : (l : Layout) (o : Option InputSection) → section_target (outline l) (option_map outline_section o) ≡ section_target l o
section_target-outline l None = refl
section_target-outline l (Some s) = refl

target_in-outline : (l : Layout) (k : ℕ) (o : Option File) → target_in (outline l) k (option_map outline_file o) ≡ target_in l k o
target_in-outline l k None = refl
target_in-outline l k (Some f) = ap (section_target (outline l)) (slice_get-map outline_section f.sections k) ∙ section_target-outline l (slice_get f.sections k)

defining_file_of-outline : (l : Layout) (f : File) (i : ℕ) → defining_file_of (outline l) (outline_file f) i ≡ option_map outline_file (defining_file_of l f i)
defining_file_of-outline l f i =
    ap (λ (o : Option File). if has_symbol f i then Some (outline_file f) else o) (file_of-layout l.groups i) ∙ option_map-if (has_symbol f i) f (file_of (files_of l.groups) i)

target_at-outline : (l : Layout) (f : File) (i : ℕ) (p : Place) → target_at (outline l) (outline_file f) i p ≡ target_at l f i p
target_at-outline l f i (at.Section k) = ap (target_in (outline l) k) (defining_file_of-outline l f i) ∙ target_in-outline l k (defining_file_of l f i)
target_at-outline l f i other = refl

symbol_target-outline : (l : Layout) (f : File) (i : ℕ) (o : Option Symbol) → symbol_target (outline l) (outline_file f) i o ≡ symbol_target l f i o
symbol_target-outline l f i None = refl
symbol_target-outline l f i (Some s) = target_at-outline l f i s.place

target_by-outline : (l : Layout) (f : File) (o : Option ℕ) → target_by (outline l) (outline_file f) o ≡ target_by l f o
target_by-outline l f None = refl
target_by-outline l f (Some i) = symbol_target-outline l f i (slice_get l.symbols i)

target_of-outline : (l : Layout) (f : File) (r : InputRelocation) → target_of (outline l) (outline_file f) r ≡ target_of l f r
unfolding target_of
target_of-outline l f r = target_by-outline l f r.symbol

-- ---- frames

pub frames_of-outline : (l : Layout) (f : File) (s : InputSection) → frames_of (outline l) (outline_file f) s ≡ frames_of l f s
frames_of-outline l f s =
    ap (λ (t : InputRelocation → Target). record { bytes = if s.nobits then [] else s.bytes; relocations = if s.nobits then [] else s.relocations; width = λ r. field_bytes l.machine r.number; target = t })
    (fun_ext (λ r. target_of-outline l f r))

pub kept_size-outline : (l : Layout) (f : File) (s : InputSection) → kept_size (outline l) (outline_file f) s ≡ kept_size l f s
unfolding kept_size
kept_size-outline l f s = ap (λ (fs : Frames). if is_frame s.slot then length (frame_bytes fs) else 0) (frames_of-outline l f s)

fde_count-outline : (l : Layout) (f : File) (s : InputSection) → fde_count (outline l) (outline_file f) s ≡ fde_count l f s
unfolding fde_count
fde_count-outline l f s = ap (λ (fs : Frames). if is_frame s.slot then length (fdes_in fs) else 0) (frames_of-outline l f s)

-- a section of frames may not be changed
pub frame_fixed : (k : Slot) → is_frame k ≡ true → is_changeable k ≡ false
frame_fixed slot.Frame h = refl
frame_fixed slot.Loaded h = cc
frame_fixed slot.Debug h = cc
frame_fixed other h = refl

kept_none : (l : Layout) (f : File) (s : InputSection) → is_frame s.slot ≡ false → kept_size l f s ≡ 0
unfolding kept_size
kept_none l f s h = rw h refl

fde_none : (l : Layout) (f : File) (s : InputSection) → is_frame s.slot ≡ false → fde_count l f s ≡ 0
unfolding fde_count
fde_none l f s h = rw h refl

pub kept_size-both : (l : Layout) (f : File) (s : InputSection) → kept_size (outline l) (outline_file f) (outline_section s) ≡ kept_size l f s
kept_size-both l f s =
    elim (cases_Bool (is_frame s.slot)) [
      | inl t ↦ ap (kept_size (outline l) (outline_file f)) (outline_section-fixed s (frame_fixed s.slot t)) ∙ kept_size-outline l f s
      | inr n ↦ kept_none (outline l) (outline_file f) (outline_section s) n ∙ sym (kept_none l f s n)
    ]

fde_count-both : (l : Layout) (f : File) (s : InputSection) → fde_count (outline l) (outline_file f) (outline_section s) ≡ fde_count l f s
fde_count-both l f s =
    elim (cases_Bool (is_frame s.slot)) [
      | inl t ↦ ap (fde_count (outline l) (outline_file f)) (outline_section-fixed s (frame_fixed s.slot t)) ∙ fde_count-outline l f s
      | inr n ↦ fde_none (outline l) (outline_file f) (outline_section s) n ∙ sym (fde_none l f s n)
    ]

pub file_frames-outline : (l : Layout) (f : File) → file_frames (outline l) (outline_file f) ≡ file_frames l f
file_frames-outline l f = total-mapped (kept_size (outline l) (outline_file f)) (kept_size l f) outline_section (kept_size-both l f) f.sections

pub all_fdes-outline : (l : Layout) → all_fdes (outline l) ≡ all_fdes l
all_fdes-outline l =
    total-mapped (λ (g : Group). total (λ (f : File). total (fde_count (outline l) f) f.sections) g.files) (λ (g : Group). total (λ (f : File). total (fde_count l f) f.sections) g.files) outline_group
    (λ (g : Group). total-mapped (λ (f : File). total (fde_count (outline l) f) f.sections) (λ (f : File). total (fde_count l f) f.sections) outline_file
    (λ (f : File). total-mapped (fde_count (outline l) (outline_file f)) (fde_count l f) outline_section (fde_count-both l f) f.sections) g.files) l.groups

-- ---- two layouts and two files with the same outlines

pub same_by_outlines : {X : Type 0} (d : Layout → File → X) → ((l : Layout) (f : File) → d (outline l) (outline_file f) ≡ d l f) → (l m : Layout) (f g : File) → outline m ≡ outline l → outline_file g ≡ outline_file f → d m g ≡ d l f
same_by_outlines d h l m f g e k = sym (h m g) ∙ (ap (λ (n : Layout). d n (outline_file g)) e ∙ (ap (d (outline l)) k ∙ h l f))
