-- The image and the faults of a changed layout.
use Rattle.wild_outlines.proofs.Common.{◌≡◌, ℕ, zero, suc, ◌+◌, Bool, true, false, List, [], ◌∷◌, ◌++◌, map, length, take, Some, Result, Ok, Err, refl, sym, ap, subst, ◌∙◌, arith, inl, inr, ◌==◌, if◌then◌else◌, All, slice_get, cases_Bool, map-append, Extent, Clause, InputSection, File, Group, Part, Role, Layout, given, total, image_size, has_role, placed_files, processed_sections, Change, with_item, changed_group, changed_layout, outline, flat_map_from, part_errors, group_errors, owned_pieces, group_pieces, padding, extent_of}
use Rattle.std.proofs.lemmas.Option.{slice_get_within, get_or_from_slice_get}
use Rattle.wild_words.specs.Overlay.{Piece, overlay, AreDisjoint}
use Rattle.wild_words.proofs.Basics.{flat_map-none}
use Rattle.wild_words.proofs.ListLemmas.{nil_parts, holds_at}
use Rattle.wild_types.specs.declared.part.Role.TheVariants as role
use Rattle.wild_types.specs.FileRoles.{is_prelude}
use Rattle.wild_types.specs.Lookups.{is_header_only_at}
use Rattle.wild_types.specs.Parts.{role_place}
use Rattle.wild_plan_rules.specs.WellFormed.{first_clause}
use Rattle.wild_layout.specs.Content.{content, file_content, unique_table}
use Rattle.wild_layout.specs.SlotBytes.{header_bytes}
use Rattle.wild_layout.specs.Faults.{clause_errors, errors}
use Rattle.wild_layout.specs.Geometry.{IsLaidOut}
use Rattle.wild_layout.specs.Image.{some_piece, shares_before, table_piece, table_pieces, pieces, bytes}
use Rattle.wild_layout.specs.SectionPlaces.{SectionLies, PartLies}
use Rattle.wild_outlines.proofs.ChangedItems.{slice_get-with_item, FoundSection, outline_group-changed, same_by_outline}
use Rattle.wild_outlines.proofs.ClausesTests.{image_size-outline, is_header_only_at-outline}
use Rattle.wild_outlines.proofs.SharesLemmas.{same_by_groups}
use Rattle.wild_layout.proofs.LayoutLemmas.{length-padding}
use Rattle.wild_outlines.proofs.ChangedPieces.{overlay-replaced, flat_map_from-same, middle_alone, none_from, Middle, Middle-from_item}
use Rattle.wild_outlines.specs.RefusalLaws.{HasFaultsOfGroup}
use Rattle.wild_outlines.proofs.ClausesChanged.{Changed}
use Rattle.wild_outlines.proofs.ClausesLemmas.{first_clause-changed}
use Rattle.wild_outlines.proofs.SharesRefused.{shares-refused}
use Rattle.wild_outlines.proofs.ChangedExtents.{group_extents, group_extents-outline, group_extents_are}

-- ---- tables

-- the items before a place are as before
take-with_item : {X : Type 0} (v : X → X) (i : ℕ) (xs : List X) → take i (with_item v i xs) ≡ take i xs
take-with_item v zero xs = refl
take-with_item v (suc i) [] = refl
take-with_item v (suc i) (x ∷ xs) = ap (λ ys. x ∷ ys) (take-with_item v i xs)

-- no file writes to a raw part
raw_file : (l : Layout) (f : File) → file_content l role.Raw f ≡ []
raw_file l f = by (is_prelude f.role)
  where
    by : (b : Bool) → (if b then unique_table l role.Raw ++ header_bytes l role.Raw else []) ++ [] ++ [] ≡ []
    by true = refl
    by false = refl

raw_content : (l : Layout) (r : Role) (g : Group) → (role_place r == 0) ≡ true → length (content l r g) ≡ 0
raw_content l role.Raw g h = rw (flat_map-none (file_content l role.Raw) (placed_files l g) (raw_file l)) refl
raw_content l other g h = cc

-- bytes at a place, by their number
abbrev some_extent : ℕ → ℕ → List Extent
some_extent at n = if n == 0 then [] else record { start = at; end = at + n } ∷ []

some_extent_is : (at : ℕ) (bs : List ℕ) → map extent_of (some_piece at bs) ≡ some_extent at (length bs)
some_extent_is at bs =
    elim (cases_Bool (length bs == 0)) [
      | inl t ↦ rw t refl
      | inr f ↦ rw f refl
    ]

-- what a group gives to a part: nothing to a raw one, else its share
abbrev part_given : ℕ → Part → Group → ℕ
part_given k p g = if has_role role.Raw p then 0 else given k g

abbrev table_extent : Layout → ℕ → Group → ℕ → Part → List Extent
table_extent l i g k p = if is_header_only_at l p.section then [] else some_extent (p.offset + shares_before l k i) (part_given k p g)

-- the part at a place lies in the image
part_lies_at : (l : Layout) → IsLaidOut l → (k : ℕ) (p : Part) → slice_get l.parts k ≡ Some p → PartLies l k p
part_lies_at l laid k p at = subst (PartLies l k) (get_or_from_slice_get l.parts k p p at) (laid.parts k p (slice_get_within l.parts k p at))

content_length : (l : Layout) → IsLaidOut l → (i : ℕ) (g : Group) → slice_get l.groups i ≡ Some g → (k : ℕ) (p : Part) → slice_get l.parts k ≡ Some p → length (content l p.role g) ≡ part_given k p g
content_length l laid i g at k p there =
    elim (cases_Bool (has_role role.Raw p)) [
      | inl t ↦ rw t (raw_content l p.role g t)
      | inr n ↦ rw n (holds_at (λ (h : Group). length (content l p.role h) ≡ given k h) l.groups i g at ((part_lies_at l laid k p there).tables n))
    ]

table_extent_is : (l : Layout) → IsLaidOut l → (i : ℕ) (g : Group) → slice_get l.groups i ≡ Some g → (k : ℕ) (p : Part) → slice_get l.parts k ≡ Some p → map extent_of (table_piece l i g k p) ≡ table_extent l i g k p
table_extent_is l laid i g at k p there =
    let n = content_length l laid i g at k p there in
    let e = some_extent_is (p.offset + shares_before l k i) (content l p.role g) ∙ ap (some_extent (p.offset + shares_before l k i)) n in
    elim (cases_Bool (is_header_only_at l p.section)) [
      | inl t ↦ rw t refl
      | inr f ↦ rw f e
    ]

map-flat_map_from : {X Y Z : Type 0} (e : Y → Z) (f : ℕ → X → List Y) (h : ℕ → X → List Z) (j : ℕ) (xs : List X) → ((i k : ℕ) (x : X) → i ≡ j + k → slice_get xs k ≡ Some x → map e (f i x) ≡ h i x) → map e (flat_map_from f j xs) ≡ flat_map_from h j xs
map-flat_map_from e f h j [] each = refl
map-flat_map_from e f h j (x ∷ xs) each =
    map-append e (f j x) (flat_map_from f (j + 1) xs)
    ∙ (ap (λ zs. zs ++ map e (flat_map_from f (j + 1) xs)) (each j 0 x (omega arith) refl)
    ∙ ap (λ zs. h j x ++ zs) (map-flat_map_from e f h (j + 1) xs (λ i k y is at. each i (suc k) y (omega (arith, is)) at)))

table_extents_are : (l : Layout) → IsLaidOut l → (i : ℕ) (g : Group) → slice_get l.groups i ≡ Some g → map extent_of (table_pieces l i g) ≡ flat_map_from (table_extent l i g) 0 l.parts
table_extents_are l laid i g at =
    map-flat_map_from extent_of (table_piece l i g) (table_extent l i g) 0 l.parts (λ j k p is there. table_extent_is l laid i g at j p (subst (λ (n : ℕ). slice_get l.parts n ≡ Some p) (zero_added j k is) there))
  where
    zero_added : (j k : ℕ) → j ≡ 0 + k → k ≡ j
    zero_added j k e = omega (arith, e)

-- ---- the pieces of the changed group

module _ (l : Layout) (c : Change) (s : InputSection) (p : FoundSection l c s) (n : length c.bytes ≡ length s.bytes) (e : outline (changed_layout l c) ≡ outline l) (laid : IsLaidOut l) (after : IsLaidOut (changed_layout l c)) where
  table_extent-changed : (k : ℕ) (q : Part) → table_extent (changed_layout l c) c.group (changed_group c p.group) k q ≡ table_extent l c.group p.group k q
  table_extent-changed k q =
      let header = same_by_outline (λ m. is_header_only_at m q.section) (λ m. is_header_only_at-outline m q.section) l (changed_layout l c) e in
      ap (λ b. if b then [] else some_extent (q.offset + shares_before (changed_layout l c) k c.group) (part_given k q p.group)) header
      ∙ ap (λ (gs : List Group). if is_header_only_at l q.section then [] else some_extent (q.offset + total (given k) gs) (part_given k q p.group)) (take-with_item (changed_group c) c.group l.groups)

  changed_at : slice_get (changed_layout l c).groups c.group ≡ Some (changed_group c p.group)
  changed_at = slice_get-with_item (changed_group c) c.group l.groups p.group p.in_layout

  table_extents-changed : map extent_of (table_pieces (changed_layout l c) c.group (changed_group c p.group)) ≡ map extent_of (table_pieces l c.group p.group)
  table_extents-changed =
      table_extents_are (changed_layout l c) after c.group (changed_group c p.group) changed_at
      ∙ (flat_map_from-same (table_extent l c.group p.group) (table_extent (changed_layout l c) c.group (changed_group c p.group)) table_extent-changed 0 l.parts
      ∙ sym (table_extents_are l laid c.group p.group p.in_layout))

  owned_extents-changed : map extent_of (owned_pieces (changed_layout l c) (changed_group c p.group)) ≡ map extent_of (owned_pieces l p.group)
  owned_extents-changed =
      let old = holds_at (λ (g : Group). All (λ (f : File). All (SectionLies l) (processed_sections l f)) (placed_files l g)) l.groups c.group p.group p.in_layout laid.inputs in
      let new = holds_at (λ (g : Group). All (λ (f : File). All (SectionLies (changed_layout l c)) (processed_sections (changed_layout l c) f)) (placed_files (changed_layout l c) g)) (changed_layout l c).groups c.group (changed_group c p.group) changed_at after.inputs in
      group_extents_are (changed_layout l c) (changed_group c p.group) new
      ∙ (same_by_groups group_extents group_extents-outline l (changed_layout l c) p.group (changed_group c p.group) e (outline_group-changed l c s p n) ∙ sym (group_extents_are l p.group old))

  extents-changed : map extent_of (group_pieces (changed_layout l c) c.group (changed_group c p.group)) ≡ map extent_of (group_pieces l c.group p.group)
  extents-changed =
      map-append extent_of (table_pieces (changed_layout l c) c.group (changed_group c p.group)) (owned_pieces (changed_layout l c) (changed_group c p.group))
      ∙ (ap (λ es. es ++ map extent_of (owned_pieces (changed_layout l c) (changed_group c p.group))) table_extents-changed
      ∙ (ap (λ es. map extent_of (table_pieces l c.group p.group) ++ es) owned_extents-changed ∙ sym (map-append extent_of (table_pieces l c.group p.group) (owned_pieces l p.group))))

  pub bytes-changed : ((i : ℕ) (g : Group) → group_pieces (changed_layout l c) i g ≡ group_pieces l i g) → padding (changed_layout l c) ≡ padding l
      → bytes (changed_layout l c) ≡ overlay (group_pieces (changed_layout l c) c.group (changed_group c p.group)) (bytes l)
  unfolding bytes pieces
  bytes-changed same pad =
      let m = changed_layout l c in
      let old = group_pieces l c.group p.group in
      let new = group_pieces m c.group (changed_group c p.group) in
      let mid : Middle (group_pieces l c.group p.group) (group_pieces (changed_layout l c) c.group (changed_group c p.group)) (flat_map_from (group_pieces l) 0 l.groups) (flat_map_from (group_pieces (changed_layout l c)) 0 (changed_layout l c).groups) =
      Middle-from_item (group_pieces l) (group_pieces m) (changed_group c) same c.group l.groups p.group p.in_layout 0 c.group (omega arith) in
      let size : image_size m ≡ length (padding l) = same_by_outline image_size image_size-outline l m e ∙ sym (length-padding l) in
      let before : AreDisjoint (length (padding l)) (mid.front ++ (old ++ mid.behind)) = subst (λ (ps : List Piece). AreDisjoint (length (padding l)) ps) mid.before (subst (λ (k : ℕ). AreDisjoint k (pieces l)) (sym (length-padding l)) laid.owners) in
      let behind : AreDisjoint (length (padding l)) (mid.front ++ (new ++ mid.behind)) = subst (λ (ps : List Piece). AreDisjoint (length (padding l)) ps) mid.after (subst (λ (k : ℕ). AreDisjoint k (pieces m)) size after.owners) in
      ap (overlay (flat_map_from (group_pieces m) 0 m.groups)) pad
      ∙ (ap (λ ps. overlay ps (padding l)) mid.after
      ∙ (overlay-replaced mid.front old new mid.behind (padding l) extents-changed before behind ∙ ap (λ ps. overlay new (overlay ps (padding l))) (sym mid.before)))

-- ---- faults

-- the faults before those of groups
pub none_before : (l : Layout) → errors l ≡ [] → (first_clause l ≡ Ok tt) × (flat_map_from (part_errors l) 0 l.parts ≡ []) × (flat_map_from (group_errors l) 0 l.groups ≡ [])
unfolding errors
none_before l none =
    let a = nil_parts (clause_errors (first_clause l) ++ flat_map_from (part_errors l) 0 l.parts) (flat_map_from (group_errors l) 0 l.groups) none in
    let b = nil_parts (clause_errors (first_clause l)) (flat_map_from (part_errors l) 0 l.parts) a.0 in
    (clause (first_clause l) b.0, b.1, a.1)
  where
    clause : (r : Result (Unit {0}) Clause) → clause_errors r ≡ [] → r ≡ Ok tt
    clause (Ok u) h = refl
    clause (Err e) h = cc

-- a group of a layout without faults has none
pub group_without_faults : (l : Layout) → errors l ≡ [] → (j : ℕ) (g : Group) → slice_get l.groups j ≡ Some g → group_errors l j g ≡ []
group_without_faults l none j g at = none_from (group_errors l) 0 l.groups (none_before l none).2 j j g (omega arith) at

-- the faults of groups after a change are those of the changed group
groups_changed : (l : Layout) (c : Change) (g : Group) → slice_get l.groups c.group ≡ Some g → errors l ≡ [] → ((i : ℕ) (h : Group) → group_errors (changed_layout l c) i h ≡ group_errors l i h)
    → flat_map_from (group_errors (changed_layout l c)) 0 (changed_layout l c).groups ≡ group_errors (changed_layout l c) c.group (changed_group c g)
groups_changed l c g at none groups =
    (middle_alone (Middle-from_item (group_errors l) (group_errors (changed_layout l c)) (changed_group c) groups c.group l.groups g at 0 c.group (omega arith)) (none_before l none).2).1

-- where the faults of clauses, of shares and of the other groups are none, those of the changed group are all
pub errors-changed : (l : Layout) (c : Change) (g : Group) → slice_get l.groups c.group ≡ Some g → errors l ≡ [] → first_clause (changed_layout l c) ≡ Ok tt → ((i : ℕ) (p : Part) → part_errors (changed_layout l c) i p ≡ part_errors l i p)
    → ((i : ℕ) (h : Group) → group_errors (changed_layout l c) i h ≡ group_errors l i h) → errors (changed_layout l c) ≡ group_errors (changed_layout l c) c.group (changed_group c g)
unfolding errors
errors-changed l c g at none clauses shares groups =
    let parts : flat_map_from (part_errors (changed_layout l c)) 0 (changed_layout l c).parts ≡ [] = flat_map_from-same (part_errors l) (part_errors (changed_layout l c)) shares 0 l.parts ∙ (none_before l none).1 in
    rw (clauses, parts) (groups_changed l c g at none groups)

-- all faults of the changed layout
pub faults-refused : (l : Layout) (c : Change) (s : InputSection) (k : Changed l c s) → errors l ≡ [] → ((i : ℕ) (h : Group) → group_errors (changed_layout l c) i h ≡ group_errors l i h) → HasFaultsOfGroup l c s k.found.group k.found.file
unfolding errors
faults-refused l c s k none groups =
    let before = none_before l none in
    let clause = first_clause-changed l c s k before.0 in
    let shares = shares-refused l c s k before.1 in
    let group = groups_changed l c k.found.group k.found.in_layout none groups in
    record { clause = clause; shares = shares; groups = group; errors = rw (clause, shares, group) refl }
