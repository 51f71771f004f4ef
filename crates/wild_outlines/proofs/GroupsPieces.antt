-- The pieces of a group in an outline.
use Rattle.wild_outlines.proofs.Common.{◌≡◌, ℕ, take, refl, ap, ◌∙◌, fun_ext, Layout, Part, InputSection, File, Group, given, total, with_word_order, Input, sorted_inputs, placed_files, owned_pieces, group_pieces, outline_file, outline_group, outline}
use Rattle.std.proofs.Common.{flat_map}
use Rattle.std.proofs.lemmas.List.{take-map}
use Rattle.wild_layout.specs.Image.{section_piece, sorted_piece, thunk_pieces, file_pieces, shares_before, table_piece, table_pieces, thunk_piece}
use Rattle.wild_outlines.proofs.ListLemmas.{flat_map-same}
use Rattle.wild_outlines.proofs.ChangedPieces.{flat_map_from-same}
use Rattle.wild_outlines.proofs.ValuesFiles.{same_file, raw_value-outline}
use Rattle.wild_outlines.proofs.ClausesTests.{header_only-outline}
use Rattle.wild_outlines.proofs.FramesPlaced.{outline_input, sorted_inputs-outline, placed_files-outline}
use Rattle.wild_outlines.proofs.ContentSections.{section_bytes-outline}
use Rattle.wild_outlines.proofs.ContentTables.{content-outline}
use Rattle.wild_outlines.proofs.ClausesGroups.{flat_map-mapped, total-mapped}
use Rattle.wild_outlines.proofs.ChangedExtents.{merged-outline}

section_piece-outline : (l : Layout) (f : File) (s : InputSection) → section_piece (outline l) (outline_file f) s ≡ section_piece l f s
section_piece-outline l f s = simp (header_only-outline l, section_bytes-outline l f s)

section_piece-same_file : (l : Layout) (f : File) (s : InputSection) → section_piece (outline l) f s ≡ section_piece l f s
section_piece-same_file l f s = same_file (λ m g. section_piece m g s) (λ m g. section_piece-outline m g s) l f

sorted_piece-outline : (l : Layout) (x : Input) → sorted_piece (outline l) (outline_input x) ≡ sorted_piece l x
sorted_piece-outline l x = section_piece-outline l x.file (with_word_order x.section)

sorted_pieces-outline : (l : Layout) → flat_map (sorted_piece (outline l)) (sorted_inputs (outline l)) ≡ flat_map (sorted_piece l) (sorted_inputs l)
sorted_pieces-outline l = ap (flat_map (sorted_piece (outline l))) (sorted_inputs-outline l) ∙ flat_map-mapped (sorted_piece (outline l)) (sorted_piece l) outline_input (sorted_piece-outline l) (sorted_inputs l)

thunk_piece-each : (l : Layout) → thunk_piece (outline l) ≡ thunk_piece l
thunk_piece-each l = fun_ext (λ t. simp (raw_value-outline l))

thunk_pieces-outline : (l : Layout) (f : File) → thunk_pieces (outline l) f ≡ thunk_pieces l f
thunk_pieces-outline l f = simp (header_only-outline l, thunk_piece-each l)

file_pieces-outline : (l : Layout) (f : File) → file_pieces (outline l) f ≡ file_pieces l f
file_pieces-outline l f =
    simp (flat_map-same (section_piece (outline l) f) (section_piece l f) f.sections (section_piece-same_file l f), sorted_pieces-outline l, merged-outline l, thunk_pieces-outline l f)

owned_pieces-outline : (l : Layout) (g : Group) → owned_pieces (outline l) g ≡ owned_pieces l g
owned_pieces-outline l g = ap (flat_map (file_pieces (outline l))) (placed_files-outline l g) ∙ flat_map-same (file_pieces (outline l)) (file_pieces l) (placed_files l g) (file_pieces-outline l)

pub shares_before-outline : (l : Layout) (part group : ℕ) → shares_before (outline l) part group ≡ shares_before l part group
shares_before-outline l part group = ap (total (given part)) (take-map outline_group group l.groups) ∙ total-mapped (given part) (given part) outline_group (λ g. refl) (take group l.groups)

table_piece-outline : (l : Layout) (group : ℕ) (g : Group) (i : ℕ) (p : Part) → table_piece (outline l) group g i p ≡ table_piece l group g i p
table_piece-outline l group g i p = simp (shares_before-outline l i group, content-outline l p.role g, header_only-outline l)

table_pieces-outline : (l : Layout) (group : ℕ) (g : Group) → table_pieces (outline l) group g ≡ table_pieces l group g
table_pieces-outline l group g = flat_map_from-same (table_piece l group g) (table_piece (outline l) group g) (table_piece-outline l group g) 0 l.parts

pub group_pieces-outline : (l : Layout) (group : ℕ) (g : Group) → group_pieces (outline l) group g ≡ group_pieces l group g
group_pieces-outline l group g = simp (table_pieces-outline l group g, owned_pieces-outline l g)
