-- The search table of an outline.
use Rattle.wild_outlines.proofs.Common.{◌≡◌, ℕ, Bool, true, false, if◌then◌else◌, List, [], ◌∷◌, map, refl, ap, ◌∙◌, fun_ext, File, InputRelocation, InputSection, Layout, is_frame, frames_of, kept_size, file_frames, frames_at, address_after, outline_section, outline_file, outline_group, outline}
use Rattle.wild_frames.specs.declared.entry.KeptEntry.{KeptEntry}
use Rattle.wild_frames.specs.Frames.{Frames, fdes_in}
use Rattle.wild_placement.specs.PlacedSections.{entry_relocations}
use Rattle.wild_layout.specs.SearchTable.{code_at, files_fdes, layout_fdes, search_table, search_table_faults, sections_fdes, fde_at, section_fdes, group_fdes}
use Rattle.wild_outlines.proofs.ChangedItems.{outline_section-fixed}
use Rattle.wild_outlines.proofs.SharesFrames.{frame_fixed, frames_of-outline, kept_size-both, file_frames-outline}
use Rattle.wild_outlines.proofs.ClausesGroups.{flat_map-mapped}
use Rattle.wild_outlines.proofs.ClausesTests.{header_only-outline}
use Rattle.wild_outlines.proofs.ValuesSymbols.{raw_address-outline}

code_at-outline : (l : Layout) (rs : List InputRelocation) → code_at (outline l) rs ≡ code_at l rs
code_at-outline l [] = refl
code_at-outline l (r ∷ rs) = simp (raw_address-outline l)

fde_at-outline : (l : Layout) (fs : Frames) (at : ℕ) (k : KeptEntry) → fde_at (outline l) fs at k ≡ fde_at l fs at k
fde_at-outline l fs at k = simp (code_at-outline l (entry_relocations fs k))

fdes_of_frames : (l : Layout) (f : File) (at : ℕ) (s : InputSection) → section_fdes (outline l) (outline_file f) at s ≡ section_fdes l f at s
fdes_of_frames l f at s =
    ap (λ fs. if is_frame s.slot then map (fde_at (outline l) fs at) (fdes_in fs) else []) (frames_of-outline l f s)
    ∙ ap (λ g. if is_frame s.slot then map g (fdes_in (frames_of l f s)) else []) (fun_ext (fde_at-outline l (frames_of l f s) at))

section_fdes_by : (b : Bool) (l : Layout) (f : File) (at : ℕ) (s : InputSection) → is_frame s.slot ≡ b → section_fdes (outline l) (outline_file f) at (outline_section s) ≡ section_fdes l f at s
section_fdes_by true l f at s h = ap (section_fdes (outline l) (outline_file f) at) (outline_section-fixed s (frame_fixed s.slot h)) ∙ fdes_of_frames l f at s
section_fdes_by false l f at s h = rw h refl

sections_fdes-outline : (l : Layout) (f : File) (at : ℕ) (ss : List InputSection) → sections_fdes (outline l) (outline_file f) at (map outline_section ss) ≡ sections_fdes l f at ss
sections_fdes-outline l f at [] = refl
sections_fdes-outline l f at (s ∷ ss) = simp (section_fdes_by (is_frame s.slot) l f at s refl, kept_size-both l f s, sections_fdes-outline l f (address_after at (kept_size l f s)) ss)

files_fdes-outline : (l : Layout) (at : ℕ) (fs : List File) → files_fdes (outline l) at (map outline_file fs) ≡ files_fdes l at fs
files_fdes-outline l at [] = refl
files_fdes-outline l at (f ∷ fs) = simp (sections_fdes-outline l f at f.sections, file_frames-outline l f, files_fdes-outline l (address_after at (file_frames l f)) fs)

pub layout_fdes-outline : (l : Layout) → layout_fdes (outline l) ≡ layout_fdes l
unfolding layout_fdes
layout_fdes-outline l = flat_map-mapped (group_fdes (outline l)) (group_fdes l) outline_group (λ g. files_fdes-outline l (frames_at l g) g.files) l.groups

pub search_table_faults-outline : (l : Layout) → search_table_faults (outline l) ≡ search_table_faults l
unfolding search_table_faults
search_table_faults-outline l = simp (header_only-outline l, layout_fdes-outline l)

pub search_table-outline : (l : Layout) → search_table (outline l) ≡ search_table l
unfolding search_table
search_table-outline l = simp (layout_fdes-outline l)
