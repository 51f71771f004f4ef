-- How long the notes and the search table of frames are.
use Rattle.wild_geometry.proofs.Common.{◌≡◌, ℕ, ◌+◌, ◌*◌, inl, inr, Bool, true, false, if◌then◌else◌, List, [], ◌∷◌, ◌++◌, length, map, Option, Some, None, flat_map, refl, ap, ◌∙◌, arith, nat_lt, cases_Bool, ne_eqb, length-append, length-map, InputSection, File, Group, Layout, total, is_frame, frames_of, kept_size, address_after, file_frames, frames_at}
use Rattle.wild_words.specs.Words.{word}
use Rattle.wild_words.specs.Record.{spell}
use Rattle.wild_words.proofs.WordLemmas.{length-word}
use Rattle.wild_words.proofs.RecordLemmas.{length-spell}
use Rattle.wild_records.specs.Abi.Note.{nt_gnu_property_type_0}
use Rattle.wild_records.specs.Notes.{note_header_fields}
use Rattle.wild_records.specs.declared.frames.EhFrameHdrEntry.{EhFrameHdrEntry}
use Rattle.wild_records.specs.declared.notes.NoteHeader.{NoteHeader}
use Rattle.wild_types.specs.declared.layout.Property.{Property}
use Rattle.wild_types.specs.declared.layout.PropertyValue.{PropertyValue}
use Rattle.wild_types.specs.declared.layout.PropertyValue.TheVariants as values
use Rattle.wild_types.specs.declared.part.Role.TheVariants as role
use Rattle.wild_frames.specs.declared.table.Fde.{Fde}
use Rattle.wild_frames.specs.Frames.{fdes_in}
use Rattle.wild_frames.specs.Table.{entry_of, rank_of, header_of, put_in_order, in_order, hdr_bytes, entry_bytes, table_of}
use Rattle.wild_frames.proofs.TableLemmas.{length-hdr, length-entry}
use Rattle.wild_placement.specs.FrameInputs.{fde_count}
use Rattle.wild_placement.specs.PlacedSections.{all_fdes}
use Rattle.wild_needs.specs.Needs.{search_table_room, build_id_room, property_room, properties_room}
use Rattle.wild_layout.specs.Notes.{gnu_note, build_id_note, value_bytes, property_bytes, property_note}
use Rattle.wild_layout.specs.SearchTable.{fde_at, section_fdes, sections_fdes, files_fdes, group_fdes, layout_fdes, address_of_role, search_table}

-- ---- notes

length-note_header : (h : NoteHeader) → length (spell (note_header_fields h)) ≡ 12
unfolding note_header_fields
length-note_header h = length-spell (note_header_fields h)

length-gnu_note : (kind : ℕ) (description : List ℕ) → length (gnu_note kind description) ≡ 16 + length description
length-gnu_note kind description =
    let header : NoteHeader = record { name_size = 4; descriptor_size = length description; kind = kind } in
    let a = length-append (spell (note_header_fields header)) (71 ∷ 78 ∷ 85 ∷ 0 ∷ description) in
    let b = length-note_header header in
    omega arith

pub length-build_id : (id : Option (List ℕ)) → length (build_id_note id) ≡ build_id_room id
length-build_id None = refl
length-build_id (Some id) = length-gnu_note _ id

property_length : (p : Property) → length (property_bytes p) ≡ property_room p
property_length p =
    let a = length-append (word 4 p.ptype) (value_bytes p.value) in
    let b = length-word 4 p.ptype in
    let c = by p.value in
    omega arith
  where
    by : (v : PropertyValue) → 4 + length (value_bytes v) ≡ property_room (record { ptype = p.ptype; value = v })
    by (values.Word v) =
        let a = length-append (word 4 4) (word 4 v ++ word 4 0) in
        let b = length-append (word 4 v) (word 4 0) in
        let c = length-word 4 4 in
        let d = length-word 4 v in
        let e = length-word 4 0 in
        omega arith
    by (values.PointerAuthentication platform version) =
        let a = length-append (word 4 16) (word 8 platform ++ word 8 version) in
        let b = length-append (word 8 platform) (word 8 version) in
        let c = length-word 4 16 in
        let d = length-word 8 platform in
        let e = length-word 8 version in
        omega arith

properties_length : (ps : List Property) → length (flat_map property_bytes ps) ≡ total property_room ps
properties_length [] = refl
properties_length (p ∷ ps) =
    let a = length-append (property_bytes p) (flat_map property_bytes ps) in
    let b = property_length p in
    let c = properties_length ps in
    omega arith

pub length-properties : (ps : List Property) → length (property_note ps) ≡ properties_room ps
length-properties [] = refl
length-properties (p ∷ ps) =
    let some = ne_eqb (length (p ∷ ps)) 0 (λ e. omega arith) in
    rw some (length-gnu_note nt_gnu_property_type_0 (flat_map property_bytes (p ∷ ps)) ∙ ap (λ (n : ℕ). 16 + n) (properties_length (p ∷ ps)))

-- ---- the search table

put_length : (e : EhFrameHdrEntry) (es : List EhFrameHdrEntry) → length (put_in_order e es) ≡ length es + 1
put_length e [] = refl
put_length e (f ∷ fs) =
    elim (cases_Bool (nat_lt (rank_of f) (rank_of e))) [
      | inl t ↦ rw t (let a = put_length e fs in omega arith)
      | inr n ↦ rw n (omega arith)
    ]

order_length : (es : List EhFrameHdrEntry) → length (in_order es) ≡ length es
unfolding in_order
order_length [] = refl
order_length (e ∷ es) =
    let a = put_length e (in_order es) in
    let b = order_length es in
    omega arith

entries_length : (es : List EhFrameHdrEntry) → length (flat_map entry_bytes es) ≡ 8 * length es
entries_length [] = refl
entries_length (e ∷ es) =
    let a = length-append (entry_bytes e) (flat_map entry_bytes es) in
    let b = length-entry e in
    let c = entries_length es in
    omega arith

length-table : (header eh_frame : ℕ) (fs : List Fde) → length (table_of header eh_frame fs) ≡ 12 + 8 * length fs
unfolding table_of
length-table header eh_frame fs =
    let entries = in_order (map (entry_of header) fs) in
    let a = length-append (hdr_bytes (header_of header eh_frame (length fs))) (flat_map entry_bytes entries) in
    let b = length-hdr (header_of header eh_frame (length fs)) in
    let c = entries_length entries in
    let d = order_length (map (entry_of header) fs) in
    let e = length-map fs (entry_of header) in
    omega arith

section_count : (l : Layout) (f : File) (at : ℕ) (s : InputSection) → length (section_fdes l f at s) ≡ fde_count l f s
unfolding fde_count
section_count l f at s =
    elim (cases_Bool (is_frame s.slot)) [
      | inl t ↦ rw t (length-map (fdes_in (frames_of l f s)) (fde_at l (frames_of l f s) at))
      | inr n ↦ rw n refl
    ]

sections_count : (l : Layout) (f : File) (at : ℕ) (ss : List InputSection) → length (sections_fdes l f at ss) ≡ total (fde_count l f) ss
sections_count l f at [] = refl
sections_count l f at (s ∷ ss) =
    let a = length-append (section_fdes l f at s) (sections_fdes l f (address_after at (kept_size l f s)) ss) in
    let b = section_count l f at s in
    let c = sections_count l f (address_after at (kept_size l f s)) ss in
    omega arith

abbrev file_fdes : Layout → File → ℕ
file_fdes l f = total (fde_count l f) f.sections

files_count : (l : Layout) (at : ℕ) (fs : List File) → length (files_fdes l at fs) ≡ total (file_fdes l) fs
files_count l at [] = refl
files_count l at (f ∷ fs) =
    let a = length-append (sections_fdes l f at f.sections) (files_fdes l (address_after at (file_frames l f)) fs) in
    let b = sections_count l f at f.sections in
    let c = files_count l (address_after at (file_frames l f)) fs in
    omega arith

groups_count : (l : Layout) (gs : List Group) → length (flat_map (group_fdes l) gs) ≡ total (λ (g : Group). total (file_fdes l) g.files) gs
groups_count l [] = refl
groups_count l (g ∷ gs) =
    let a = length-append (group_fdes l g) (flat_map (group_fdes l) gs) in
    let b = files_count l (frames_at l g) g.files in
    let c = groups_count l gs in
    omega arith

fdes_count : (l : Layout) → length (layout_fdes l) ≡ all_fdes l
unfolding layout_fdes
fdes_count l = groups_count l l.groups

pub length-search_table : (l : Layout) → length (search_table l) ≡ search_table_room l
unfolding search_table
length-search_table l = by l.options.eh_frame_hdr
  where
    table : List ℕ
    table = table_of (address_of_role l role.EhFrameHdr) (address_of_role l role.EhFrame) (layout_fdes l)

    by : (asked : Bool) → length (if asked then table else []) ≡ (if asked then 12 + 8 * all_fdes l else 0)
    by true =
        let a = length-table (address_of_role l role.EhFrameHdr) (address_of_role l role.EhFrame) (layout_fdes l) in
        let b = fdes_count l in
        omega arith
    by false = refl
