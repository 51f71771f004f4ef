-- What the groups give to the parts of the interpreter's path, of notes and of the search table.
use Rattle.wild_names.proofs.Common.{◌≡◌, ℕ, Bool, true, false, if◌then◌else◌, List, [], ◌++◌, length, refl, sym, ap, ◌∙◌, subst, append-nil, HasBytesAt, Role, Group, Layout, is_prelude, is_epilogue, role_place, placed_files, content, file_content, bytes, table_bytes, IsLaidOut, TablesStand, placed_files_same}
use Rattle.std.specs.List.{flat_map}
use Rattle.wild_types.specs.declared.part.Role.TheVariants as role
use Rattle.wild_frames.specs.Table.{table_of}
use Rattle.wild_layout.specs.Notes.{build_id_note, property_note}
use Rattle.wild_layout.specs.SearchTable.{address_of_role, layout_fdes, search_table}
use Rattle.wild_loaded.proofs.FirstFile.{interpreter_bytes, search_bytes}
use Rattle.wild_names.specs.NoteLaws.{HoldsJust, NotesAreWritten, SearchTablesAreWritten}
use Rattle.wild_names.proofs.HashBytes.{GivenByLast, in_groups}

-- ---- what the last file gives

behind_all : (b : Bool) (xs : List ℕ) → ((if b then [] else []) ++ xs) ++ [] ≡ xs
behind_all true xs = append-nil xs
behind_all false xs = append-nil xs

by_last : (l : Layout) (r : Role) (bs : List ℕ) → IsLaidOut l → ((g : Group) → content l r g ≡ flat_map (file_content l r) g.files) → GivenByLast (file_content l r) bs → table_bytes l r ≡ bs
by_last l r bs laid group each = in_groups (content l r) (file_content l r) bs true 0 l.groups each group laid.some_group laid.files

build_id_bytes : (l : Layout) → IsLaidOut l → table_bytes l role.BuildId ≡ build_id_note l.build_id
build_id_bytes l laid =
    by_last l role.BuildId (build_id_note l.build_id) laid
    (λ g. append-nil (flat_map (file_content l role.BuildId) (placed_files l g)) ∙ placed_files_same (file_content l role.BuildId) l g (λ at f. refl))
    (λ f. behind_all (is_prelude f.role) (if is_epilogue f.role then build_id_note l.build_id else []))

property_bytes : (l : Layout) → IsLaidOut l → table_bytes l role.Property ≡ property_note l.properties
property_bytes l laid =
    by_last l role.Property (property_note l.properties) laid
    (λ g. append-nil (flat_map (file_content l role.Property) (placed_files l g)) ∙ placed_files_same (file_content l role.Property) l g (λ at f. refl))
    (λ f. behind_all (is_prelude f.role) (if is_epilogue f.role then property_note l.properties else []))

-- ---- where they stand

holds_just : TablesStand → (l : Layout) (r : Role) (bs : List ℕ) → IsLaidOut l → (role_place r ≡ 0 → ⊥) → table_bytes l r ≡ bs → HoldsJust l r bs
holds_just stands l r bs laid placed is = λ p there written some.
    (ap (λ (xs : List ℕ). length xs) (sym is) ∙ ((laid.roles r placed).there p there).size, subst (λ (xs : List ℕ). HasBytesAt (bytes l) p.offset xs) is (stands l laid r placed p there written some))

pub notes_there : TablesStand → NotesAreWritten
notes_there stands = record {
  interpreter = λ l laid. holds_just stands l role.Interp l.interp laid (λ e. cc) (interpreter_bytes l laid);
  build_id = λ l laid. holds_just stands l role.BuildId (build_id_note l.build_id) laid (λ e. cc) (build_id_bytes l laid);
  properties = λ l laid. holds_just stands l role.Property (property_note l.properties) laid (λ e. cc) (property_bytes l laid);
}

asked : (l : Layout) → l.options.eh_frame_hdr ≡ true → search_table l ≡ table_of (address_of_role l role.EhFrameHdr) (address_of_role l role.EhFrame) (layout_fdes l)
unfolding search_table
asked l e = rw e refl

pub search_there : TablesStand → SearchTablesAreWritten
search_there stands = λ l laid e. holds_just stands l role.EhFrameHdr (table_of (address_of_role l role.EhFrameHdr) (address_of_role l role.EhFrame) (layout_fdes l)) laid (λ z. cc) (search_bytes l laid ∙ asked l e)
