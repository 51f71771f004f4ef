-- How long the headers are.
use Rattle.std.proofs.Common.{◌≡◌, ℕ, ◌+◌, ◌*◌, List, [], ◌∷◌, ◌++◌, length, refl, ap, ◌∙◌, arith, suc, ◌<◌, ◌≤◌, inl, inr}
use Rattle.std.specs.List.{flat_map}
use Rattle.std.proofs.lemmas.List.{length-append}
use Rattle.std.specs.Prelude.{All}
use Rattle.std.proofs.lemmas.Bool.{cases_Bool}
use Rattle.wild_words.specs.Record.{spell}
use Rattle.wild_words.proofs.Basics.{length-flat_map_each}
use Rattle.wild_records.specs.ProgramHeader.{program_header_size, program_header_fields}
use Rattle.wild_records.specs.SectionHeader.{section_header_size, section_header_fields}
use Rattle.wild_records.proofs.FileHeaderLemmas.{length-file_header}
use Rattle.wild_types.specs.declared.section.Section.{Section}
use Rattle.wild_types.specs.declared.layout.Layout.{Layout}
use Rattle.wild_types.specs.Lists.{total}
use Rattle.wild_types.specs.declared.part.Part.{Part}
use Rattle.wild_types.specs.declared.part.Role.{Role}
use Rattle.wild_types.specs.Parts.{has_role}
use Rattle.wild_table_formats.specs.declared.section_info.ComputedInfo.{ComputedInfo}
use Rattle.wild_table_formats.specs.Headers.{file_header, program_header, computed_infos, headers_from, section_headers_of, section_of_role}
use Rattle.wild_table_formats.specs.HeaderLaws.{LengthsOfHeaders}
use Rattle.wild_table_formats.proofs.HeaderLemmas.{length-program_header, length-section_header}

length-headers_from : (l : Layout) (d : List ComputedInfo) (i name : ℕ) (ss : List Section) → length (headers_from l d i name ss) ≡ length ss
length-headers_from l d i name [] = refl
length-headers_from l d i name (s ∷ ss) = let e = length-headers_from l d (i + 1) (name + length s.name + 1) ss in omega (arith, e)

pub length-section_headers_of : (l : Layout) (ss : List Section) → length (section_headers_of l ss) ≡ length ss
length-section_headers_of l [] = refl
length-section_headers_of l (s ∷ ss) = let e = length-headers_from l (computed_infos l) 1 (length s.name + 1) ss in omega (arith, e)

length-names : (ss : List Section) → length (flat_map (λ (s : Section). s.name ++ 0 ∷ []) ss) ≡ total (λ (s : Section). length s.name + 1) ss
length-names [] = refl
length-names (s ∷ ss) =
    let e = length-append (s.name ++ 0 ∷ []) (flat_map (λ (t : Section). t.name ++ 0 ∷ []) ss) in
    let here : length (s.name ++ 0 ∷ []) ≡ length s.name + 1 = length-append s.name (0 ∷ []) in
    let rest = length-names ss in
    omega (arith, e, here, rest)

pub lengths_of_headers : (l : Layout) → LengthsOfHeaders l
lengths_of_headers l = record {
  file_header = length-file_header (file_header l);
  program_headers = length-flat_map_each (λ g. spell (program_header_fields (program_header l g))) program_header_size (λ g. length-program_header (program_header l g)) l.segments;
  section_headers = length-flat_map_each (λ h. spell (section_header_fields h)) section_header_size length-section_header (section_headers_of l l.sections) ∙ ap (λ (k : ℕ). section_header_size * k) (length-section_headers_of l l.sections);
  names = length-names l.sections;
}

-- the section of a role is one that the parts name
pub role_below : (r : Role) (ps : List Part) (n : ℕ) → 1 ≤ n → All (λ (p : Part). p.section < n) ps → section_of_role r ps < n
role_below r [] n some h = some
role_below r (p ∷ ps) n some h =
    elim (cases_Bool (has_role r p)) [
      | inl t ↦ rw t (h 0 p (omega arith))
      | inr f ↦ rw f (role_below r ps n some (λ k d l. h (suc k) d (omega arith)))
    ]
