-- The headers of an outline.
use Rattle.wild_outlines.proofs.Common.{◌≡◌, ℕ, ◌+◌, List, [], ◌∷◌, length, refl, ap, Layout, Section, outline}
use Rattle.wild_types.specs.declared.section.Segment.{Segment}
use Rattle.wild_needs.specs.EntryPoint.{EntryPoint}
use Rattle.wild_table_formats.specs.Headers.{computed_infos, file_header, headers_from, null_header, program_header, section_header, section_headers_of}
use Rattle.wild_table_formats.specs.declared.section_info.ComputedInfo.{ComputedInfo}
use Rattle.wild_outlines.proofs.ClausesGroups.{need_count-outline}
use Rattle.wild_outlines.proofs.ContentNeeds.{entry_point-outline}

pub file_header-outline : (l : Layout) → file_header (outline l) ≡ file_header l
unfolding file_header
file_header-outline l = ap (λ (e : EntryPoint). record (file_header l) { entry = e.address }) (entry_point-outline l)

pub program_header-outline : (l : Layout) (g : Segment) → program_header (outline l) g ≡ program_header l g
unfolding program_header
program_header-outline l g = refl

computed_infos-outline : (l : Layout) → computed_infos (outline l) ≡ computed_infos l
unfolding computed_infos
computed_infos-outline l = simp (need_count-outline l.groups)

section_header-outline : (l : Layout) (info name : ℕ) (s : Section) → section_header (outline l) info name s ≡ section_header l info name s
unfolding section_header
section_header-outline l info name s = refl

headers_from-outline : (l : Layout) (infos : List ComputedInfo) (i name : ℕ) (ss : List Section) → headers_from (outline l) infos i name ss ≡ headers_from l infos i name ss
headers_from-outline l told i name [] = refl
headers_from-outline l told i name (s ∷ ss) = simp (section_header-outline l, headers_from-outline l told (i + 1) (name + length s.name + 1) ss)

null_header-outline : (l : Layout) → null_header (outline l) ≡ null_header l
unfolding null_header
null_header-outline l = refl

pub section_headers_of-outline : (l : Layout) (ss : List Section) → section_headers_of (outline l) ss ≡ section_headers_of l ss
section_headers_of-outline l [] = refl
section_headers_of-outline l (s ∷ ss) = simp (null_header-outline l, headers_from-outline l, computed_infos-outline l)
