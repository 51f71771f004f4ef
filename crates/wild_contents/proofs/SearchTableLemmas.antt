-- Laws of the search table.
use Rattle.std.proofs.Common.{◌≡◌, ℕ, ◌+◌, ◌<◌, ◌≤◌, Bool, true, false, not, ◌&&◌, if◌then◌else◌, List, [], ◌∷◌, ◌++◌, map, length, take, drop, get_or, refl, sym, ap, ◌∙◌}
use Rattle.std.specs.Prelude.{Option, Some, None}
use Rattle.std.specs.List.{flat_map}
use Rattle.std.proofs.lemmas.Bool.{and_parts}
use Rattle.std.proofs.lemmas.List.{append-nil, append_assoc, drop_more, drop_all}
use Rattle.wild_types.specs.declared.fault.Fault.{Fault}
use Rattle.wild_types.specs.declared.fault.Fault.TheVariants as faults
use Rattle.wild_types.specs.declared.part.Role.TheVariants as role
use Rattle.wild_types.specs.declared.input.InputSection.{InputSection}
use Rattle.wild_types.specs.Lookups.{is_frame}
use Rattle.wild_types.specs.HeaderOnly.{is_header_only_role}
use Rattle.wild_types.specs.declared.file.File.{File}
use Rattle.wild_types.specs.declared.layout.Layout.{Layout}
use Rattle.wild_frames.specs.declared.entry.Found.{Found}
use Rattle.wild_frames.specs.declared.entry.KeptEntry.{KeptEntry}
use Rattle.wild_frames.specs.declared.table.Fde.{Fde}
use Rattle.wild_frames.specs.declared.entry.BadFrame.{BadFrame}
use Rattle.wild_frames.specs.declared.table.TableError.{TableError}
use Rattle.wild_frames.specs.declared.table.TableError.TheVariants as error
use Rattle.wild_frames.specs.Frames.{Frames, State, walk_continues, rest_of, fde_of, start, list_error}
use Rattle.wild_frames.specs.Table.{IsFirst, table_of, table_errors}
use Rattle.wild_frames.specs.Walks.{IsNext}
use Rattle.wild_placement.specs.FrameInputs.{frames_of, kept_size}
use Rattle.wild_placement.specs.PlacedSections.{address_after, file_frames}
use Rattle.wild_layout.specs.SearchTable.{fde_at, section_fdes, sections_fdes, files_fdes, layout_fdes, address_of_role, fault_of, search_table, search_table_faults}
use Rattle.wild_contents.specs.declared.search_table.SearchTable.{SearchTable}
use Rattle.wild_contents.specs.SearchTable.{found_fdes, FaultIsFirst, IsSearchTable}

-- ---- the walk over a section's frames

-- one more thing that was found
pub found_more : (g : Found → List Fde) (s : Frames) (from to : State) (f : Found) (now next whole : List Fde) → IsNext s from to f → now ++ flat_map g (rest_of s from) ≡ whole → next ≡ now ++ g f → walk_continues f ≡ true → next ++ flat_map g (rest_of s to) ≡ whole
found_more g s from to f now next whole is before more on =
    let rest : rest_of s from ≡ f ∷ rest_of s to = rw on at is in
    ap (λ (ys : List Fde). ys ++ flat_map g (rest_of s to)) more ∙ append_assoc now (g f) (flat_map g (rest_of s to)) ∙ sym (ap (λ (xs : List Found). now ++ flat_map g xs) rest) ∙ before

-- the last
pub found_last : (g : Found → List Fde) (s : Frames) (from to : State) (f : Found) (now next whole : List Fde) → IsNext s from to f → now ++ flat_map g (rest_of s from) ≡ whole → next ≡ now ++ g f → walk_continues f ≡ false → next ≡ whole
found_last g s from to f now next whole is before more on =
    let rest : rest_of s from ≡ f ∷ [] = rw on at is in
    more ∙ ap (λ (ys : List Fde). now ++ ys) (sym (append-nil (g f))) ∙ sym (ap (λ (xs : List Found). now ++ flat_map g xs) rest) ∙ before

map-append : {X Y : Type 0} (h : X → Y) (xs ys : List X) → map h (xs ++ ys) ≡ map h xs ++ map h ys
map-append h [] ys = refl
map-append {X} {Y} h (x ∷ xs) ys = ap (λ (zs : List Y). h x ∷ zs) (map-append h xs ys)

map_joined : (h : KeptEntry → Fde) (fs : List Found) → map h (flat_map fde_of fs) ≡ flat_map (λ f. map h (fde_of f)) fs
map_joined h [] = refl
map_joined h (f ∷ fs) = map-append h (fde_of f) (flat_map fde_of fs) ∙ ap (λ (ys : List Fde). map h (fde_of f) ++ ys) (map_joined h fs)

-- the kept FDEs of a section, as they are found
pub fdes_found : (l : Layout) (fs : Frames) (at : ℕ) (xs : List Found) → flat_map (found_fdes l fs at) xs ≡ map (fde_at l fs at) (flat_map fde_of xs)
fdes_found l fs at xs = sym (map_joined (fde_at l fs at) xs)

-- ---- the walks over sections and files

-- one more section
pub section_more : (l : Layout) (f : File) (at : ℕ) (ss : List InputSection) (i : ℕ) (s : InputSection) (now next whole : List Fde) → i < length ss → s ≡ get_or ss i s → now ++ sections_fdes l f at (drop i ss) ≡ whole → next ≡ now ++ section_fdes l f at s → next ++ sections_fdes l f (address_after at (kept_size l f s)) (drop (i + 1) ss) ≡ whole
section_more l f at ss i s now next whole low read before is =
    let rest = sections_fdes l f (address_after at (kept_size l f s)) (drop (i + 1) ss) in
    let cut : drop i ss ≡ s ∷ drop (i + 1) ss = drop_more ss i s low ∙ ap (λ (x : InputSection). x ∷ drop (i + 1) ss) (sym read) in
    ap (λ (ys : List Fde). ys ++ rest) is ∙ append_assoc now (section_fdes l f at s) rest ∙ sym (ap (λ (xs : List InputSection). now ++ sections_fdes l f at xs) cut) ∙ before

pub section_done : (l : Layout) (f : File) (at : ℕ) (ss : List InputSection) (i : ℕ) (now whole : List Fde) → length ss ≤ i → now ++ sections_fdes l f at (drop i ss) ≡ whole → now ≡ whole
section_done l f at ss i now whole end before = sym (append-nil now) ∙ sym (ap (λ (xs : List InputSection). now ++ sections_fdes l f at xs) (drop_all i ss end)) ∙ before

-- one more file
pub file_more : (l : Layout) (at : ℕ) (fs : List File) (i : ℕ) (f : File) (now next whole : List Fde) → i < length fs → f ≡ get_or fs i f → now ++ files_fdes l at (drop i fs) ≡ whole → next ≡ now ++ sections_fdes l f at f.sections → next ++ files_fdes l (address_after at (file_frames l f)) (drop (i + 1) fs) ≡ whole
file_more l at fs i f now next whole low read before is =
    let rest = files_fdes l (address_after at (file_frames l f)) (drop (i + 1) fs) in
    let cut : drop i fs ≡ f ∷ drop (i + 1) fs = drop_more fs i f low ∙ ap (λ (x : File). x ∷ drop (i + 1) fs) (sym read) in
    ap (λ (ys : List Fde). ys ++ rest) is ∙ append_assoc now (sections_fdes l f at f.sections) rest ∙ sym (ap (λ (xs : List File). now ++ files_fdes l at xs) cut) ∙ before

pub file_done : (l : Layout) (at : ℕ) (fs : List File) (i : ℕ) (now whole : List Fde) → length fs ≤ i → now ++ files_fdes l at (drop i fs) ≡ whole → now ≡ whole
file_done l at fs i now whole end before = sym (append-nil now) ∙ sym (ap (λ (xs : List File). now ++ files_fdes l at xs) (drop_all i fs end)) ∙ before

-- ---- a section

-- what a section of frames gives, of which the walk found all
pub frames_added : (l : Layout) (f : File) (at : ℕ) (s : InputSection) (now next : List Fde) → is_frame s.slot ≡ true → list_error (frames_of l f s).relocations ≡ None → next ≡ now ++ flat_map (found_fdes l (frames_of l f s) at) (rest_of (frames_of l f s) start)
    → next ≡ now ++ section_fdes l f at s
frames_added l f at s now next frame good is = rw (frame, good) (is ∙ ap (λ (ys : List Fde). now ++ ys) (fdes_found l (frames_of l f s) at (rest_of (frames_of l f s) start)))

-- one whose relocations have a fault
pub frames_bad : (l : Layout) (f : File) (at : ℕ) (s : InputSection) (now : List Fde) (e : BadFrame) → is_frame s.slot ≡ true → list_error (frames_of l f s).relocations ≡ Some e → now ≡ now ++ section_fdes l f at s
frames_bad l f at s now e frame bad = rw (frame, bad) (sym (append-nil now))

-- any other section
pub frames_none : (l : Layout) (f : File) (at : ℕ) (s : InputSection) (now : List Fde) → is_frame s.slot ≡ false → now ≡ now ++ section_fdes l f at s
frames_none l f at s now other = rw other (sym (append-nil now))

-- ---- the table

none_first : (f : Option Fault) (fs : List Fault) → f ≡ None → fs ≡ [] → FaultIsFirst f fs
none_first f fs e h = rw e h

not_asked : (asked header_only : Bool) → (asked && not header_only) ≡ false → header_only ≡ false → asked ≡ false
not_asked true true h e = cc
not_asked true false h e = cc
not_asked false header_only h e = refl

nothing_asked : (l : Layout) → l.options.eh_frame_hdr ≡ false → search_table l ≡ []
unfolding search_table
nothing_asked l asked = rw asked refl

-- it was not asked for, or nothing of it is written
pub table_none : (l : Layout) (t : SearchTable) → (l.options.eh_frame_hdr && not (is_header_only_role l role.EhFrameHdr)) ≡ false → t.fault ≡ None → t.bytes ≡ [] → IsSearchTable l t
unfolding search_table_faults
table_none l t asked fault bytes = record {
  fault = none_first t.fault (search_table_faults l) fault (ap (λ (b : Bool). if b then map fault_of (table_errors (address_of_role l role.EhFrameHdr) (address_of_role l role.EhFrame) (layout_fdes l)) else []) asked);
  bytes = λ written h. bytes ∙ sym (nothing_asked l (not_asked l.options.eh_frame_hdr (is_header_only_role l role.EhFrameHdr) asked written));
}

-- what a choice takes
chosen : {X : Type 0} (b : Bool) (x y : X) → b ≡ true → (if b then x else y) ≡ x
chosen b x y h = rw h refl

-- it is asked for, and written
abbrev IsAsked : Layout → Type 0
IsAsked l = (l.options.eh_frame_hdr && not (is_header_only_role l role.EhFrameHdr)) ≡ true

faults_asked : (l : Layout) → IsAsked l → search_table_faults l ≡ map fault_of (table_errors (address_of_role l role.EhFrameHdr) (address_of_role l role.EhFrame) (layout_fdes l))
unfolding search_table_faults
faults_asked l asked =
    chosen (l.options.eh_frame_hdr && not (is_header_only_role l role.EhFrameHdr)) (map fault_of (table_errors (address_of_role l role.EhFrameHdr) (address_of_role l role.EhFrame) (layout_fdes l))) [] asked

table_asked : (l : Layout) → IsAsked l → search_table l ≡ table_of (address_of_role l role.EhFrameHdr) (address_of_role l role.EhFrame) (layout_fdes l)
unfolding search_table
table_asked l asked = chosen l.options.eh_frame_hdr (table_of (address_of_role l role.EhFrameHdr) (address_of_role l role.EhFrame) (layout_fdes l)) [] (and_parts l.options.eh_frame_hdr _ asked).0

-- the errors of the table that was made are those of the layout's
errors_same : (fs gs : List Fde) (h i e d : ℕ) → fs ≡ gs → h ≡ i → e ≡ d → table_errors i d gs ≡ table_errors h e fs
errors_same fs gs h i e d is header frames = rw (is, header, frames) refl

bytes_same : (fs gs : List Fde) (h i e d : ℕ) → fs ≡ gs → h ≡ i → e ≡ d → table_of h e fs ≡ table_of i d gs
bytes_same fs gs h i e d is header frames = rw (is, header, frames) refl

some_first : (f : Option Fault) (fs gs : List Fault) (x : Fault) → f ≡ Some x → fs ≡ gs → FaultIsFirst (Some x) gs → FaultIsFirst f fs
some_first f fs gs x e is h = rw (e, is) h

-- it was made of all FDEs
pub table_made : (l : Layout) (t : SearchTable) (fs : List Fde) (header eh_frame : ℕ) → IsAsked l → fs ≡ layout_fdes l → header ≡ address_of_role l role.EhFrameHdr → eh_frame ≡ address_of_role l role.EhFrame
    → table_errors header eh_frame fs ≡ [] → t.fault ≡ None → t.bytes ≡ table_of header eh_frame fs → IsSearchTable l t
table_made l t fs header eh_frame asked is at frames good fault bytes =
    let same = errors_same fs (layout_fdes l) header (address_of_role l role.EhFrameHdr) eh_frame (address_of_role l role.EhFrame) is at frames in
    record {
      fault = none_first t.fault (search_table_faults l) fault (faults_asked l asked ∙ ap (map fault_of) (same ∙ good));
      bytes = λ here h. bytes ∙ bytes_same fs (layout_fdes l) header (address_of_role l role.EhFrameHdr) eh_frame (address_of_role l role.EhFrame) is at frames ∙ sym (table_asked l asked);
    }

first_far : (es : List TableError) (v : ℕ) → IsFirst (error.FrameOffsetOverflow v) es → FaultIsFirst (Some (faults.FrameOffsetOverflow v)) (map fault_of es)
first_far [] v h = h
first_far (e ∷ es) v h = ap fault_of h

first_same : (e : TableError) (es gs : List TableError) → gs ≡ es → IsFirst e es → IsFirst e gs
first_same e es gs is h = rw is h

never : (f : Option Fault) (x : Fault) (bs cs : List ℕ) → f ≡ Some x → f ≡ None → bs ≡ cs
never f x bs cs e h = cc

-- something is too far from it
pub table_far : (l : Layout) (t : SearchTable) (fs : List Fde) (header eh_frame v : ℕ) → IsAsked l → fs ≡ layout_fdes l → header ≡ address_of_role l role.EhFrameHdr → eh_frame ≡ address_of_role l role.EhFrame
    → IsFirst (error.FrameOffsetOverflow v) (table_errors header eh_frame fs) → t.fault ≡ Some (faults.FrameOffsetOverflow v) → IsSearchTable l t
table_far l t fs header eh_frame v asked is at frames far fault =
    let errors = table_errors (address_of_role l role.EhFrameHdr) (address_of_role l role.EhFrame) (layout_fdes l) in
    let same = errors_same fs (layout_fdes l) header (address_of_role l role.EhFrameHdr) eh_frame (address_of_role l role.EhFrame) is at frames in
    record {
      fault = some_first t.fault (search_table_faults l) (map fault_of errors) (faults.FrameOffsetOverflow v) fault (faults_asked l asked) (first_far errors v (first_same (error.FrameOffsetOverflow v) (table_errors header eh_frame fs) errors same far));
      bytes = λ here h. never t.fault (faults.FrameOffsetOverflow v) t.bytes (search_table l) fault h;
    }

front_taken : (xs ys : List ℕ) → take (length xs) (xs ++ ys) ≡ xs
front_taken [] ys = refl
front_taken (x ∷ xs) ys = ap (λ (zs : List ℕ). x ∷ zs) (front_taken xs ys)

-- what was written over all of a room is what stands there
pub all_written : (n : ℕ) (xs ys : List ℕ) → n ≡ length xs → take n (xs ++ ys) ≡ xs
all_written n xs ys is = rw is (front_taken xs ys)
