-- Layouts without a dynamic section.
use Rattle.wild_placer.proofs.Common.{◌≡◌, ℕ, ◌+◌, ◌==◌, ◌&&◌, inl, inr, Bool, true, false, not, if◌then◌else◌, List, [], ◌∷◌, length, map, drop, refl, sym, ◌∙◌, None, Result, Ok, Err, Rela, SectionHeader, Layout, bytes, LoadFault, ◌>>=◌, section_entries, first_dynamic, rela_header}
use Rattle.std.specs.List.{list_all}
use Rattle.std.proofs.lemmas.Bool.{and_parts}
use Rattle.wild_records.specs.Abi.Segment.{pt_dynamic}
use Rattle.wild_records.specs.FileHeader.{FileHeaderIsRead}
use Rattle.wild_records.specs.ProgramHeader.{ProgramHeaderIsRead}
use Rattle.wild_records.specs.SectionHeader.{SectionHeaderIsRead}
use Rattle.wild_types.specs.declared.kind.RelocationModel.TheVariants as model
use Rattle.wild_types.specs.declared.kind.OutputKind.{OutputKind}
use Rattle.wild_types.specs.declared.kind.OutputKind.TheVariants as output
use Rattle.wild_types.specs.declared.section.Section.{Section}
use Rattle.wild_types.specs.declared.section.Segment.{Segment}
use Rattle.wild_types.specs.Kinds.{is_partial_link}
use Rattle.wild_table_formats.specs.declared.section_info.ComputedInfo.{ComputedInfo}
use Rattle.wild_table_formats.specs.Headers.{file_header, program_header, null_header, section_header, info_at, headers_from, computed_infos, section_headers_of}
use Rattle.wild_layout.specs.Geometry.{LayoutsAreLaidOut}
use Rattle.wild_layout.proofs.FaultLemmas.{laid_out}
use Rattle.wild_loader.specs.Tables.{has_entries, with_section}
use Rattle.wild_meaning.specs.World.{IsLoadable}
use Rattle.wild_loaded.specs.Memory.{headers_of}
use Rattle.wild_loaded.specs.Laws.{HeadersAreThere}
use Rattle.wild_loaded.proofs.HeadersFit.{uncompressed_flags-alloc}
use Rattle.wild_placer.specs.Plain.{is_plain}
use Rattle.wild_placer.specs.Laws.{PlainLayoutsAreLoaded}
use Rattle.wild_placer.proofs.PlainLemmas.{static_is_loaded}

loadable_kind : (k : OutputKind) → not (is_partial_link k) ≡ true → IsLoadable k
loadable_kind output.PartialObject h = cc
loadable_kind output.SharedObject h = inr tt
loadable_kind (output.StaticExecutable model.Relocatable) h = inr tt
loadable_kind (output.StaticExecutable model.NonRelocatable) h = inl tt
loadable_kind (output.DynamicExecutable model.Relocatable) h = inr tt
loadable_kind (output.DynamicExecutable model.NonRelocatable) h = inl tt

is_other : (b : Bool) → not b ≡ true → b ≡ false
is_other true h = cc
is_other false h = refl

-- no segment is a dynamic section
none_dynamic : (l : Layout) (gs : List Segment) → list_all (λ (g : Segment). not (g.kind == pt_dynamic)) gs ≡ true → first_dynamic (map (program_header l) gs) ≡ None
unfolding first_dynamic program_header
none_dynamic l [] h = refl
none_dynamic l (g ∷ gs) h =
    let both = and_parts (not (g.kind == pt_dynamic)) (list_all (λ (x : Segment). not (x.kind == pt_dynamic)) gs) h in
    rw (is_other (g.kind == pt_dynamic) both.0) (none_dynamic l gs both.1)

-- ---- a layout's section, as far as relocation entries are read by it, is its header

header_alike : (l : Layout) (info name : ℕ) (s : Section) → has_entries (section_header l info name s) ≡ has_entries (rela_header l s)
unfolding section_header
header_alike l info name s = rw (uncompressed_flags-alloc s.flags) refl

entries_alike : (im : List ℕ) (l : Layout) (info name : ℕ) (s : Section) (entries : List Rela) → with_section im (section_header l info name s) entries ≡ with_section im (rela_header l s) entries
unfolding section_header
entries_alike im l info name s entries = refl

-- one step of both lists
step_alike : (b c : Bool) (x y : Result (List Rela) LoadFault) (f g : List Rela → Result (List Rela) LoadFault) (entries : List Rela) → b ≡ c → x ≡ y → ((more : List Rela) → f more ≡ g more)
    → (if b then (x >>= f) else f entries) ≡ (if c then (y >>= g) else g entries)
step_alike true c x y f g entries same at next = rw (sym same, sym at) (by x)
  where
    by : (r : Result (List Rela) LoadFault) → (r >>= f) ≡ (r >>= g)
    by (Ok more) = next more
    by (Err e) = refl
step_alike false c x y f g entries same at next = rw (sym same) (next entries)

sections_alike : (im : List ℕ) (l : Layout) (told : List ComputedInfo) (i name : ℕ) (ss : List Section) (entries : List Rela) → section_entries im (headers_from l told i name ss) entries ≡ section_entries im (map (rela_header l) ss) entries
unfolding section_entries
sections_alike im l told i name [] entries = refl
sections_alike im l told i name (s ∷ ss) entries =
    let own = info_at told i s.info in
    step_alike (has_entries (section_header l own name s)) (has_entries (rela_header l s)) (with_section im (section_header l own name s) entries) (with_section im (rela_header l s) entries)
    (section_entries im (headers_from l told (i + 1) (name + length s.name + 1) ss)) (section_entries im (map (rela_header l) ss)) entries
    (header_alike l own name s) (entries_alike im l own name s entries) (λ more. sections_alike im l told (i + 1) (name + length s.name + 1) ss more)

null_alike : (im : List ℕ) (l : Layout) (ss : List SectionHeader) (entries : List Rela) → section_entries im (null_header l ∷ ss) entries ≡ section_entries im ss entries
unfolding section_entries null_header
null_alike im l ss entries = refl

has_its_sections : (l : Layout) (ss : List Section) (im : List ℕ) (entries : List Rela) → section_entries im (section_headers_of l ss) entries ≡ section_entries im (map (rela_header l) (drop 1 ss)) entries
has_its_sections l [] im entries = refl
has_its_sections l (s ∷ ss) im entries = null_alike im l (headers_from l (computed_infos l) 1 (length s.name + 1) ss) entries ∙ sections_alike im l (computed_infos l) 1 (length s.name + 1) ss entries

pub plain_loaded : LayoutsAreLaidOut → HeadersAreThere → FileHeaderIsRead → ProgramHeaderIsRead → SectionHeaderIsRead → PlainLayoutsAreLoaded
plain_loaded layouts headers file program section l w fits none plain =
    let both = and_parts (not (is_partial_link l.kind)) (list_all (λ (g : Segment). not (g.kind == pt_dynamic)) l.segments) plain in
    let loadable = loadable_kind l.kind both.0 in
    static_is_loaded file program section l w (bytes l) (file_header l) (headers_of l) (section_headers_of l l.sections) (headers.stand l loadable fits (laid_out layouts l none)) (headers.taken l loadable) (none_dynamic l l.segments both.1) (has_its_sections l l.sections)
