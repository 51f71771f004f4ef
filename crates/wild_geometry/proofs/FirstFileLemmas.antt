-- What stands once in an image is the first file's.
use Rattle.wild_geometry.proofs.Common.{◌≡◌, ◌≤◌, inl, inr, ◌==◌, Bool, true, false, ◌&&◌, List, [], ◌∷◌, ◌++◌, length, get_or, None, flat_map, refl, ◌∙◌, arith, cases_Bool, and_parts, append-nil, Role, File, Group, Layout, is_prelude, is_epilogue, bool_eq, file_position_fits, later_positions_fit, group_positions_fit, first_misplaced_file, same_bool, placed_files, unique_table, file_content, content, slot_bytes, header_bytes}
use Rattle.wild_placement.proofs.PlacedFiles.{ReadsNoSection, placed_files_same}
use Rattle.wild_layout.specs.Content.{file_part_bytes, group_bytes}
use Rattle.wild_geometry.proofs.ClauseLemmas.{SharesHold}

-- no file and no group gives anything to the part of the role
pub record StandsOnce (l : Layout) (r : Role) : Type 0 where
  pub own : (f : File) → file_part_bytes l r f ≡ []
  pub slots : (f : File) → slot_bytes l r f ≡ []
  pub header : header_bytes l r ≡ []
  pub block : (g : Group) → group_bytes l r g ≡ []
  pub stays : ReadsNoSection l (file_content l r)

-- files behind the first one give nothing
later_content : (l : Layout) (r : Role) → StandsOnce l r → (last : Bool) (fs : List File) → later_positions_fit last fs ≡ true → flat_map (file_content l r) fs ≡ []
later_content l r once last [] h = refl
later_content l r once last (f ∷ fs) h =
    let a = and_parts (file_position_fits false (last && length fs == 0) f) (later_positions_fit last fs) h in
    let b = same_bool (is_prelude f.role) false (and_parts (bool_eq (is_prelude f.role) false) (bool_eq (is_epilogue f.role) (last && length fs == 0)) a.0).0 in
    rw (b, once.own f, once.slots f) (later_content l r once last fs a.1)

first_content : (l : Layout) (r : Role) → StandsOnce l r → (last : Bool) (fs : List File) → group_positions_fit true last fs ≡ true → flat_map (file_content l r) fs ≡ unique_table l r
first_content l r once last [] h = cc
first_content l r once last (f ∷ fs) h =
    let a = and_parts (file_position_fits true (last && length fs == 0) f) (later_positions_fit last fs) h in
    let b = same_bool (is_prelude f.role) true (and_parts (bool_eq (is_prelude f.role) true) (bool_eq (is_epilogue f.role) (last && length fs == 0)) a.0).0 in
    let later = later_content l r once last fs a.1 in
    rw (b, once.own f, once.slots f, once.header, later) (append-nil (unique_table l r ++ [] ++ [] ++ []) ∙ append-nil (unique_table l r ++ [] ++ []) ∙ append-nil (unique_table l r ++ []) ∙ append-nil (unique_table l r))

-- the first group gives the whole
pub content_of_first : (l : Layout) (r : Role) (g : Group) → StandsOnce l r → 1 ≤ length l.groups → SharesHold l → content l r (get_or l.groups 0 g) ≡ unique_table l r
content_of_first l r g once some s = by l.groups g some s.files
  where
    by : (gs : List Group) (g : Group) → 1 ≤ length gs → first_misplaced_file true 0 gs ≡ None → content l r (get_or gs 0 g) ≡ unique_table l r
    by [] g some h = absurd (omega arith)
    by (x ∷ gs) g some h =
        elim (cases_Bool (group_positions_fit true (length gs == 0) x.files)) [
          | inl t ↦ rw (once.block x) (append-nil (flat_map (file_content l r) (placed_files l x)) ∙ placed_files_same l (file_content l r) x once.stays ∙ first_content l r once (length gs == 0) x.files t)
          | inr f ↦ cc (rw f at h)
        ]
