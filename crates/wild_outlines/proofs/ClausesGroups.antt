-- Tests of clauses on groups, files and input sections: they are the same for the outline.
use Rattle.wild_outlines.proofs.Common.{◌≡◌, ℕ, suc, ◌+◌, ◌-◌, Bool, true, false, List, [], ◌∷◌, ◌++◌, map, length, Option, Some, None, refl, sym, ap, ◌∙◌, ◌==◌, ◌&&◌, not, if◌then◌else◌, nat_le, nat_lt, is_some, option_map, option_and_then, slice_get, flat_map, list_all, list_any, length-map, slice_get-map, InputSection, Slot, File, Group, Part, Place, Symbol, SortedSection, Layout, first_failing, total, files_of, file_of, given, Input, sorted_input, sorted_inputs, of_last_file, output_section, is_changeable, outline_section, outline_file, outline_group, outline, each_section}
use Rattle.std.specs.List.{filter}
use Rattle.wild_types.specs.declared.input.Slot.TheVariants as slot
use Rattle.wild_types.specs.declared.symbol.Place.TheVariants as at
use Rattle.wild_types.specs.declared.layout.DynamicSymbol.{DynamicSymbol}
use Rattle.wild_types.specs.Lists.{through}
use Rattle.wild_types.specs.Lookups.{canonical}
use Rattle.wild_types.specs.FilePlaces.{later_positions_fit, group_positions_fit, first_misplaced_file}
use Rattle.wild_types.specs.FileSymbols.{copied_definitions, first_double_copy}
use Rattle.wild_placement.specs.PlacedSections.{files_at, sorted_by, sorted_in_file, sorted_in_group}
use Rattle.wild_needs.specs.DynamicSymbols.{undefined_entries, undefined_in, dynamic_symbols, input_of, section_of_input, symbol_listed_fits, first_misplaced_listed, first_listed}
use Rattle.wild_needs.specs.Versions.{has_needs, file_versions}
use Rattle.wild_plan_rules.specs.MisplacedSections.{all_placed, group_or, entry_group, own_all_placed, owner_in_part, owner_in_parts, misplaced_owner, misplaced_place}
use Rattle.wild_plan_rules.specs.Contents.{addresses, share_mismatch, ends_of, placed_in, file_placed_in, part_placed, parts_placed, section_misplaced, sections_named_once, files_named_once, sorted_named_once, names_sorted, leaves_front, file_leaves_front, group_leaves_front, front_is_free}
use Rattle.wild_plan_rules.specs.Thunks.{sections_in_ranges}
use Rattle.wild_plan_rules.specs.Indexes.{section_count, symbol_misfit, section_is_there, file_is_there, sorted_is_there, range_follows, or_place, range_out_of_order}
use Rattle.wild_plan_rules.specs.GroupStarts.{group_share_at, starts_after_group, start_astray}
use Rattle.wild_plan_rules.specs.declared.group_starts.Starts.{Starts}
use Rattle.wild_plan_rules.specs.VersionTables.{mark_step, mark_astray}
use Rattle.wild_plan_rules.specs.Fronts.{given_by}
use Rattle.wild_outlines.proofs.ChangedItems.{length-outline}
use Rattle.wild_outlines.proofs.ClausesTests.{place_fits-outline}

-- ---- lists of outlines

pub list_all-mapped : {X Y : Type 0} (t : Y → Bool) (u : X → Bool) (v : X → Y) → ((x : X) → t (v x) ≡ u x) → (xs : List X) → list_all t (map v xs) ≡ list_all u xs
list_all-mapped t u v h [] = refl
list_all-mapped t u v h (x ∷ xs) = rw (h x, list_all-mapped t u v h xs) refl

pub failing-mapped : {X Y : Type 0} (t : Y → Bool) (u : X → Bool) (v : X → Y) → ((x : X) → t (v x) ≡ u x) → (i : ℕ) (xs : List X) → first_failing t i (map v xs) ≡ first_failing u i xs
failing-mapped t u v h i [] = refl
failing-mapped t u v h i (x ∷ xs) = rw (h x, failing-mapped t u v h (i + 1) xs) refl

pub list_any-mapped : {X Y : Type 0} (t : Y → Bool) (u : X → Bool) (v : X → Y) → ((x : X) → t (v x) ≡ u x) → (xs : List X) → list_any t (map v xs) ≡ list_any u xs
list_any-mapped t u v h [] = refl
list_any-mapped t u v h (x ∷ xs) = rw (h x, list_any-mapped t u v h xs) refl

pub total-mapped : {X Y : Type 0} (n : Y → ℕ) (m : X → ℕ) (v : X → Y) → ((x : X) → n (v x) ≡ m x) → (xs : List X) → total n (map v xs) ≡ total m xs
total-mapped n m v h [] = refl
total-mapped n m v h (x ∷ xs) = rw (h x, total-mapped n m v h xs) refl

pub flat_map-mapped : {X Y Z : Type 0} (f : Y → List Z) (g : X → List Z) (v : X → Y) → ((x : X) → f (v x) ≡ g x) → (xs : List X) → flat_map f (map v xs) ≡ flat_map g xs
flat_map-mapped f g v h [] = refl
flat_map-mapped f g v h (x ∷ xs) = rw (h x, flat_map-mapped f g v h xs) refl

pub and_then-same : {S T : Type 0} (f g : S → Option T) → ((s : S) → f s ≡ g s) → (o : Option S) → option_and_then f o ≡ option_and_then g o
and_then-same f g h None = refl
and_then-same f g h (Some s) = h s

pub through-same : {S X : Type 0} (step other : S → X → Option S) → ((s : S) (x : X) → step s x ≡ other s x) → (s : S) (xs : List X) → through step s xs ≡ through other s xs
through-same step other h s [] = refl
through-same step other h s (x ∷ xs) =
    ap (option_and_then (λ t. through step t xs)) (h s x)
    ∙ and_then-same (λ t. through step t xs) (λ t. through other t xs) (λ t. through-same step other h t xs) (other s x)

pub through-mapped : {S X Y : Type 0} (step : S → Y → Option S) (other : S → X → Option S) (v : X → Y) → ((s : S) (x : X) → step s (v x) ≡ other s x) → (s : S) (xs : List X) → through step s (map v xs) ≡ through other s xs
through-mapped step other v h s [] = refl
through-mapped step other v h s (x ∷ xs) =
    ap (option_and_then (λ t. through step t (map v xs))) (h s x)
    ∙ and_then-same (λ t. through step t (map v xs)) (λ t. through other t xs) (λ t. through-mapped step other v h t xs) (other s x)

-- a walk over mapped items and then over others
pub through-front : {S X : Type 0} (step other : S → X → Option S) (v : X → X) → ((s : S) (x : X) → step s (v x) ≡ other s x) → ((s : S) (x : X) → step s x ≡ other s x) → (s : S) (xs ys : List X) → through step s (map v xs ++ ys) ≡ through other s (xs ++ ys)
through-front step other v h k s [] ys = through-same step other k s ys
through-front step other v h k s (x ∷ xs) ys =
    ap (option_and_then (λ t. through step t (map v xs ++ ys))) (h s x)
    ∙ and_then-same (λ t. through step t (map v xs ++ ys)) (λ t. through other t (xs ++ ys)) (λ t. through-front step other v h k t xs ys) (other s x)

list_all-front : {X : Type 0} (t u : X → Bool) (v : X → X) → ((x : X) → t (v x) ≡ u x) → ((x : X) → t x ≡ u x) → (xs ys : List X) → list_all t (map v xs ++ ys) ≡ list_all u (xs ++ ys)
list_all-front t u v h k [] [] = refl
list_all-front t u v h k [] (y ∷ ys) = rw (k y, list_all-front t u v h k [] ys) refl
list_all-front t u v h k (x ∷ xs) ys = rw (h x, list_all-front t u v h k xs ys) refl

filter-length : {X : Type 0} (t : X → Bool) (v : X → X) → ((x : X) → t (v x) ≡ t x) → (xs : List X) → length (filter t (map v xs)) ≡ length (filter t xs)
filter-length t v h [] = refl
filter-length t v h (x ∷ xs) = ap (λ (b : Bool). length (if b then v x ∷ filter t (map v xs) else filter t (map v xs))) (h x) ∙ by (t x) (filter-length t v h xs)
  where
    by : (b : Bool) → length (filter t (map v xs)) ≡ length (filter t xs) → length (if b then v x ∷ filter t (map v xs) else filter t (map v xs)) ≡ length (if b then x ∷ filter t xs else filter t xs)
    by true e = ap suc e
    by false e = e

-- ---- files and sections

-- a test that is the same for the outline of a section is the same for groups
pub each_section-outline : (t u : InputSection → Bool) → ((s : InputSection) → t (outline_section s) ≡ u s) → (g : Group) → each_section t (outline_group g) ≡ each_section u g
each_section-outline t u h g =
    list_all-mapped (λ (f : File). list_all t f.sections) (λ (f : File). list_all u f.sections) outline_file (λ (f : File). list_all-mapped t u outline_section h f.sections) g.files

pub failing_sections-outline : (t u : InputSection → Bool) → ((s : InputSection) → t (outline_section s) ≡ u s) → (i : ℕ) (gs : List Group) → first_failing (each_section t) i (map outline_group gs) ≡ first_failing (each_section u) i gs
failing_sections-outline t u h i gs = failing-mapped (each_section t) (each_section u) outline_group (each_section-outline t u h) i gs

pub files_of-outline : (gs : List Group) → files_of (map outline_group gs) ≡ map outline_file (files_of gs)
files_of-outline [] = refl
files_of-outline (g ∷ gs) = ap (λ fs. map outline_file g.files ++ fs) (files_of-outline gs) ∙ sym (map-append g.files (files_of gs))
  where
    map-append : (fs hs : List File) → map outline_file (fs ++ hs) ≡ map outline_file fs ++ map outline_file hs
    map-append [] hs = refl
    map-append (f ∷ fs) hs = ap (λ ks. outline_file f ∷ ks) (map-append fs hs)

pub option_map-if : (b : Bool) (f : File) (o : Option File) → (if b then Some (outline_file f) else option_map outline_file o) ≡ option_map outline_file (if b then Some f else o)
option_map-if true f o = refl
option_map-if false f o = refl

pub file_of-outline : (fs : List File) (i : ℕ) → file_of (map outline_file fs) i ≡ option_map outline_file (file_of fs i)
file_of-outline [] i = refl
file_of-outline (f ∷ fs) i = rw (file_of-outline fs i) (option_map-if (nat_le f.first_symbol i && nat_lt i (f.first_symbol + f.symbol_count)) f (file_of fs i))

pub file_of-layout : (gs : List Group) (i : ℕ) → file_of (files_of (map outline_group gs)) i ≡ option_map outline_file (file_of (files_of gs) i)
file_of-layout gs i = ap (λ fs. file_of fs i) (files_of-outline gs) ∙ file_of-outline (files_of gs) i

-- ---- sorted sections

-- the slots of sections that may not be changed
fixed_sorted : (s : InputSection) → slot.Sorted ≡ s.slot → is_changeable s.slot ≡ false
fixed_sorted s e = ap is_changeable (sym e)

abbrev pub sections_of_inputs : List Input → List InputSection
sections_of_inputs xs = map (λ (x : Input). x.section) xs

sorted_by-outline : (l : Layout) (f : File) (k : Slot) (s : InputSection) → k ≡ s.slot → sections_of_inputs (sorted_by (outline l) (outline_file f) k (outline_section s)) ≡ sections_of_inputs (sorted_by l f k s)
sorted_by-outline l f slot.Sorted s e = rw (fixed_sorted s e) refl
sorted_by-outline l f other s e = refl

sorted_in_file-outline : (l : Layout) (f : File) (o : Option InputSection) → sections_of_inputs (sorted_in_file (outline l) (outline_file f) (option_map outline_section o)) ≡ sections_of_inputs (sorted_in_file l f o)
sorted_in_file-outline l f None = refl
sorted_in_file-outline l f (Some s) = sorted_by-outline l f s.slot s refl

sorted_in_group-outline : (l : Layout) (o : Option File) (k : ℕ) → sections_of_inputs (sorted_in_group (outline l) (option_map outline_file o) k) ≡ sections_of_inputs (sorted_in_group l o k)
sorted_in_group-outline l None k = refl
sorted_in_group-outline l (Some f) k = rw (slice_get-map outline_section f.sections k) (sorted_in_file-outline l f (slice_get f.sections k))

pub files_at-outline : (o : Option Group) → files_at (option_map outline_group o) ≡ map outline_file (files_at o)
files_at-outline None = refl
files_at-outline (Some g) = refl

pub sorted_input-outline : (l : Layout) (x : SortedSection) → sections_of_inputs (sorted_input (outline l) x) ≡ sections_of_inputs (sorted_input l x)
unfolding sorted_input
sorted_input-outline l x =
    rw (slice_get-map outline_group l.groups x.group, files_at-outline (slice_get l.groups x.group), slice_get-map outline_file (files_at (slice_get l.groups x.group)) x.file)
    (sorted_in_group-outline l (slice_get (files_at (slice_get l.groups x.group)) x.file) x.section)

pub sorted_inputs-outline : (l : Layout) (xs : List SortedSection) → sections_of_inputs (flat_map (sorted_input (outline l)) xs) ≡ sections_of_inputs (flat_map (sorted_input l) xs)
sorted_inputs-outline l [] = refl
sorted_inputs-outline l (x ∷ xs) =
    map-append (sorted_input (outline l) x) (flat_map (sorted_input (outline l)) xs)
    ∙ (ap (λ ss. ss ++ sections_of_inputs (flat_map (sorted_input (outline l)) xs)) (sorted_input-outline l x)
    ∙ (ap (λ ss. sections_of_inputs (sorted_input l x) ++ ss) (sorted_inputs-outline l xs) ∙ sym (map-append (sorted_input l x) (flat_map (sorted_input l) xs))))
  where
    map-append : (xs ys : List Input) → sections_of_inputs (xs ++ ys) ≡ sections_of_inputs xs ++ sections_of_inputs ys
    map-append [] ys = refl
    map-append (x ∷ xs) ys = ap (λ ss. x.section ∷ ss) (map-append xs ys)

-- the sections in the ranges of a file: the outlines of its own, and then sorted ones
pub sections_in_ranges-outline : (l : Layout) (f : File) → sections_in_ranges (outline l) (outline_file f) ≡ map outline_section f.sections ++ of_last_file f (sections_of_inputs (sorted_inputs l))
sections_in_ranges-outline l f = ap (λ ss. map outline_section f.sections ++ of_last_file f ss) (sorted_inputs-outline l l.sorted)

pub names_sorted-outline : (l : Layout) (x : SortedSection) → names_sorted (outline l) x ≡ names_sorted l x
names_sorted-outline l x =
    let e : length (sorted_input (outline l) x) ≡ length (sorted_input l x) = sym (length-map (sorted_input (outline l) x) (λ (y : Input). y.section)) ∙ (ap length (sorted_input-outline l x) ∙ length-map (sorted_input l x) (λ (y : Input). y.section)) in
    ap (λ n. not (n == 0)) e

-- ---- clause 7

pub share_mismatch-outline : (gs : List Group) (i : ℕ) (ps : List Part) → share_mismatch (map outline_group gs) i ps ≡ share_mismatch gs i ps
share_mismatch-outline gs i [] = refl
share_mismatch-outline gs i (p ∷ ps) = rw (total-mapped (given i) (given i) outline_group (λ g. refl) gs, share_mismatch-outline gs (i + 1) ps) refl

later_positions_fit-outline : (last : Bool) (fs : List File) → later_positions_fit last (map outline_file fs) ≡ later_positions_fit last fs
later_positions_fit-outline last [] = refl
later_positions_fit-outline last (f ∷ fs) = rw (length-map fs outline_file, later_positions_fit-outline last fs) refl

group_positions_fit-outline : (first last : Bool) (fs : List File) → group_positions_fit first last (map outline_file fs) ≡ group_positions_fit first last fs
group_positions_fit-outline first last [] = refl
group_positions_fit-outline first last (f ∷ fs) = rw (length-map fs outline_file, later_positions_fit-outline last fs) refl

pub first_misplaced_file-outline : (first : Bool) (i : ℕ) (gs : List Group) → first_misplaced_file first i (map outline_group gs) ≡ first_misplaced_file first i gs
first_misplaced_file-outline first i [] = refl
first_misplaced_file-outline first i (g ∷ gs) =
    rw (length-map gs outline_group, group_positions_fit-outline first (length gs == 0) g.files, first_misplaced_file-outline false (i + 1) gs) refl

-- ---- clause 8

placed_in-outline : (l : Layout) (part end n : ℕ) (s : InputSection) → placed_in (outline l) part end n (outline_section s) ≡ placed_in l part end n s
placed_in-outline l part end n s = rw (length-outline s) refl

file_placed_in-outline : (l : Layout) (part end n : ℕ) (f : File) → file_placed_in (outline l) part end n (outline_file f) ≡ file_placed_in l part end n f
file_placed_in-outline l part end n f =
    rw (sections_in_ranges-outline l f)
    (through-front (placed_in (outline l) part end) (placed_in l part end) outline_section (placed_in-outline l part end) (λ m s. refl) n f.sections (of_last_file f (sections_of_inputs (sorted_inputs l))))

part_placed-outline : (l : Layout) (part start end : ℕ) (g : Group) → part_placed (outline l) part start end (outline_group g) ≡ part_placed l part start end g
part_placed-outline l part start end g = ap is_some (through-mapped (file_placed_in (outline l) part end) (file_placed_in l part end) outline_file (file_placed_in-outline l part end) start g.files)

parts_placed-outline : (l : Layout) (g : Group) (part : ℕ) (starts : List ℕ) → parts_placed (outline l) (outline_group g) part starts ≡ parts_placed l g part starts
parts_placed-outline l g part [] = refl
parts_placed-outline l g part (start ∷ starts) = rw (part_placed-outline l part start (start + given part g) g, parts_placed-outline l g (part + 1) starts) refl

ends_of-outline : (g : Group) (part : ℕ) (starts : List ℕ) → ends_of (outline_group g) part starts ≡ ends_of g part starts
ends_of-outline g part [] = refl
ends_of-outline g part (start ∷ starts) = ap (λ ends. (start + given part g) ∷ ends) (ends_of-outline g (part + 1) starts)

section_misplaced-outline : (l : Layout) (starts : List ℕ) (i : ℕ) (gs : List Group) → section_misplaced (outline l) starts i (map outline_group gs) ≡ section_misplaced l starts i gs
section_misplaced-outline l starts i [] = refl
section_misplaced-outline l starts i (g ∷ gs) =
    rw (parts_placed-outline l g 0 starts, ends_of-outline g 0 starts, section_misplaced-outline l (ends_of g 0 starts) (i + 1) gs) refl

all_placed-outline : (l : Layout) (part : ℕ) (ends cursors : List ℕ) (s : InputSection) → all_placed (outline l) part ends cursors (outline_section s) ≡ all_placed l part ends cursors s
all_placed-outline l part [] cs s = refl
all_placed-outline l part (e ∷ es) [] s = refl
all_placed-outline l part (e ∷ es) (c ∷ cs) s = rw (placed_in-outline l part e c s, all_placed-outline l (part + 1) es cs s) refl

all_placed-same : (l : Layout) (part : ℕ) (ends cursors : List ℕ) (s : InputSection) → all_placed (outline l) part ends cursors s ≡ all_placed l part ends cursors s
all_placed-same l part [] cs s = refl
all_placed-same l part (e ∷ es) [] s = refl
all_placed-same l part (e ∷ es) (c ∷ cs) s = rw (all_placed-same l (part + 1) es cs s) refl

group_or-same : (g : ℕ) (f h : List ℕ → Option ℕ) → ((cs : List ℕ) → f cs ≡ h cs) → (o : Option (List ℕ)) → group_or g f o ≡ group_or g h o
group_or-same g f h e None = refl
group_or-same g f h e (Some cs) = e cs

entry_group-outline : (l : Layout) (part : ℕ) (ends cursors : List ℕ) (xs : List SortedSection) → entry_group (outline l) part ends cursors xs ≡ entry_group l part ends cursors xs
entry_group-outline l part ends cursors [] = refl
entry_group-outline l part ends cursors (x ∷ xs) =
    ap (λ ss. group_or x.group (λ next. entry_group (outline l) part ends next xs) (through (all_placed (outline l) part ends) cursors ss)) (sorted_input-outline l x)
    ∙ (ap (group_or x.group (λ next. entry_group (outline l) part ends next xs)) (through-same (all_placed (outline l) part ends) (all_placed l part ends) (all_placed-same l part ends) cursors (sections_of_inputs (sorted_input l x)))
    ∙ group_or-same x.group (λ next. entry_group (outline l) part ends next xs) (λ next. entry_group l part ends next xs) (λ next. entry_group-outline l part ends next xs) (through (all_placed l part ends) cursors (sections_of_inputs (sorted_input l x))))

own_placed-outline : (l : Layout) (part : ℕ) (ends cursors : List ℕ) (f : File) → own_all_placed (outline l) part ends cursors (outline_file f) ≡ own_all_placed l part ends cursors f
own_placed-outline l part ends cursors f = through-mapped (all_placed (outline l) part ends) (all_placed l part ends) outline_section (all_placed-outline l part ends) cursors f.sections

owner_in_part-outline : (l : Layout) (i : ℕ) (g : Group) (k : ℕ) (p : Part) → owner_in_part (outline l) i (outline_group g) k p ≡ owner_in_part l i g k p
owner_in_part-outline l i g k p =
    let ends : List ℕ = (p.address + p.size) ∷ [] in
    ap (group_or i (λ cs. entry_group (outline l) k ends cs l.sorted)) (through-mapped (own_all_placed (outline l) k ends) (own_all_placed l k ends) outline_file (own_placed-outline l k ends) ((p.address + p.size - given k g) ∷ []) g.files)
    ∙ group_or-same i (λ cs. entry_group (outline l) k ends cs l.sorted) (λ cs. entry_group l k ends cs l.sorted) (λ cs. entry_group-outline l k ends cs l.sorted) (through (own_all_placed l k ends) ((p.address + p.size - given k g) ∷ []) g.files)

owner_in_parts-outline : (l : Layout) (i : ℕ) (g : Group) (k : ℕ) (ps : List Part) → owner_in_parts (outline l) i (outline_group g) k ps ≡ owner_in_parts l i g k ps
owner_in_parts-outline l i g k [] = refl
owner_in_parts-outline l i g k (p ∷ ps) = rw (owner_in_part-outline l i g k p, owner_in_parts-outline l i g (k + 1) ps) refl

misplaced_owner-outline : (l : Layout) (i : ℕ) → misplaced_owner (outline l) i ≡ misplaced_owner l i
misplaced_owner-outline l i = by (slice_get l.groups i) refl
  where
    by : (o : Option Group) → slice_get l.groups i ≡ o → misplaced_owner (outline l) i ≡ misplaced_owner l i
    by None e = rw (length-map l.groups outline_group, slice_get-map outline_group l.groups i, e) refl
    by (Some g) e = rw (length-map l.groups outline_group, slice_get-map outline_group l.groups i, e, owner_in_parts-outline l i g 0 l.parts) refl

pub misplaced_place-outline : (l : Layout) → misplaced_place (outline l) ≡ misplaced_place l
misplaced_place-outline l = rw (section_misplaced-outline l (addresses l.parts) 0 l.groups) (by (section_misplaced l (addresses l.parts) 0 l.groups))
  where
    by : (o : Option ℕ) → option_map (misplaced_owner (outline l)) o ≡ option_map (misplaced_owner l) o
    by None = refl
    by (Some i) = ap Some (misplaced_owner-outline l i)

sections_named_once-outline : (l : Layout) (group file k : ℕ) (ss : List InputSection) → sections_named_once (outline l) group file k (map outline_section ss) ≡ sections_named_once l group file k ss
sections_named_once-outline l group file k [] = refl
sections_named_once-outline l group file k (s ∷ ss) = rw (sections_named_once-outline l group file (k + 1) ss) refl

files_named_once-outline : (l : Layout) (group k : ℕ) (fs : List File) → files_named_once (outline l) group k (map outline_file fs) ≡ files_named_once l group k fs
files_named_once-outline l group k [] = refl
files_named_once-outline l group k (f ∷ fs) = rw (sections_named_once-outline l group k 0 f.sections, files_named_once-outline l group (k + 1) fs) refl

pub sorted_named_once-outline : (l : Layout) (i : ℕ) (gs : List Group) → sorted_named_once (outline l) i (map outline_group gs) ≡ sorted_named_once l i gs
sorted_named_once-outline l i [] = refl
sorted_named_once-outline l i (g ∷ gs) = rw (files_named_once-outline l i 0 g.files, sorted_named_once-outline l (i + 1) gs) refl

leaves_front-outline : (l : Layout) (s : InputSection) → leaves_front (outline l) (outline_section s) ≡ leaves_front l s
leaves_front-outline l s = rw (length-outline s) refl

file_leaves_front-outline : (l : Layout) (f : File) → file_leaves_front (outline l) (outline_file f) ≡ file_leaves_front l f
file_leaves_front-outline l f =
    rw (sections_in_ranges-outline l f, list_all-front (leaves_front (outline l)) (leaves_front l) outline_section (leaves_front-outline l) (λ s. refl) f.sections (of_last_file f (sections_of_inputs (sorted_inputs l)))) refl

group_leaves_front-outline : (l : Layout) (o : Option Group) → group_leaves_front (outline l) (option_map outline_group o) ≡ group_leaves_front l o
group_leaves_front-outline l None = refl
group_leaves_front-outline l (Some g) = list_all-mapped (file_leaves_front (outline l)) (file_leaves_front l) outline_file (file_leaves_front-outline l) g.files

pub front_is_free-outline : (l : Layout) → front_is_free (outline l) ≡ front_is_free l
front_is_free-outline l = ap (group_leaves_front (outline l)) (slice_get-map outline_group l.groups 0) ∙ group_leaves_front-outline l (slice_get l.groups 0)

-- ---- clause 9

section_count-outline : (o : Option File) → section_count (option_map outline_file o) ≡ section_count o
section_count-outline None = refl
section_count-outline (Some f) = length-map f.sections outline_section

pub symbol_misfit-outline : (l : Layout) (i : ℕ) (ss : List Symbol) → symbol_misfit (outline l) (files_of (map outline_group l.groups)) i ss ≡ symbol_misfit l (files_of l.groups) i ss
symbol_misfit-outline l i [] = refl
symbol_misfit-outline l i (s ∷ ss) =
    rw (file_of-layout l.groups i, section_count-outline (file_of (files_of l.groups) i), place_fits-outline l (section_count (file_of (files_of l.groups) i)) s.place, symbol_misfit-outline l (i + 1) ss) refl

section_is_there-outline : (k : ℕ) (o : Option File) → section_is_there k (option_map outline_file o) ≡ section_is_there k o
section_is_there-outline k None = refl
section_is_there-outline k (Some f) = rw (length-map f.sections outline_section) refl

file_is_there-outline : (file k : ℕ) (o : Option Group) → file_is_there file k (option_map outline_group o) ≡ file_is_there file k o
file_is_there-outline file k None = refl
file_is_there-outline file k (Some g) = ap (section_is_there k) (slice_get-map outline_file g.files file) ∙ section_is_there-outline k (slice_get g.files file)

pub sorted_is_there-outline : (l : Layout) (x : SortedSection) → sorted_is_there (outline l) x ≡ sorted_is_there l x
sorted_is_there-outline l x = ap (file_is_there x.file x.section) (slice_get-map outline_group l.groups x.group) ∙ file_is_there-outline x.file x.section (slice_get l.groups x.group)

copied_definitions-outline : (l : Layout) (g : Group) → copied_definitions (outline l) (outline_group g) ≡ copied_definitions l g
copied_definitions-outline l g = flat_map-mapped (λ (f : File). map (canonical l) f.copies) (λ (f : File). map (canonical l) f.copies) outline_file (λ f. refl) g.files

pub first_double_copy-outline : (l : Layout) (earlier : List ℕ) (i : ℕ) (gs : List Group) → first_double_copy (outline l) earlier i (map outline_group gs) ≡ first_double_copy l earlier i gs
first_double_copy-outline l earlier i [] = refl
first_double_copy-outline l earlier i (g ∷ gs) =
    rw (copied_definitions-outline l g, first_double_copy-outline l (earlier ++ copied_definitions l g) (i + 1) gs) refl

or_place-same : {S : Type 0} (i : ℕ) (f g : S → Option ℕ) → ((s : S) → f s ≡ g s) → (o : Option S) → or_place i o f ≡ or_place i o g
or_place-same i f g h None = refl
or_place-same i f g h (Some s) = h s

pub range_out_of_order-outline : (end i : ℕ) (gs : List Group) → range_out_of_order end i (map outline_group gs) ≡ range_out_of_order end i gs
range_out_of_order-outline end i [] = refl
range_out_of_order-outline end i (g ∷ gs) =
    ap (λ o. or_place i o (λ next. range_out_of_order next (i + 1) (map outline_group gs))) (through-mapped range_follows range_follows outline_file (λ n f. refl) end g.files)
    ∙ or_place-same i (λ next. range_out_of_order next (i + 1) (map outline_group gs)) (λ next. range_out_of_order next (i + 1) gs) (λ next. range_out_of_order-outline next (i + 1) gs) (through range_follows end g.files)

-- ---- clause 13

pub undefined_entries-outline : (ss : List Symbol) (gs : List Group) → undefined_entries ss (files_of (map outline_group gs)) ≡ undefined_entries ss (files_of gs)
undefined_entries-outline ss gs = ap (undefined_entries ss) (files_of-outline gs) ∙ flat_map-mapped (undefined_in ss) (undefined_in ss) outline_file (λ f. refl) (files_of gs)

pub dynamic_symbols-outline : (l : Layout) → dynamic_symbols (outline l) ≡ dynamic_symbols l
dynamic_symbols-outline l = rw (undefined_entries-outline l.symbols l.groups) refl

pub first_listed-outline : (l : Layout) → first_listed (outline l) ≡ first_listed l
first_listed-outline l = ap (λ (ns : List ℕ). length ns + 1) (undefined_entries-outline l.symbols l.groups)

section_of_input-outline : (l : Layout) (o : Option InputSection) → section_of_input (outline l) (option_map outline_section o) ≡ section_of_input l o
section_of_input-outline l None = refl
section_of_input-outline l (Some s) = refl

input_of-outline : (o : Option File) (k : ℕ) → input_of (option_map outline_file o) k ≡ option_map outline_section (input_of o k)
input_of-outline None k = refl
input_of-outline (Some f) k = slice_get-map outline_section f.sections k

pub output_section-outline : (l : Layout) (o : Option File) (p : Place) → output_section (outline l) (option_map outline_file o) p ≡ output_section l o p
output_section-outline l o (at.Output k) = refl
output_section-outline l o (at.Section k) = ap (section_of_input (outline l)) (input_of-outline o k) ∙ section_of_input-outline l (input_of o k)
output_section-outline l o other = refl

symbol_listed_fits-outline : (l : Layout) (p i : ℕ) (o : Option Symbol) → symbol_listed_fits (outline l) p i o ≡ symbol_listed_fits l p i o
symbol_listed_fits-outline l p i None = refl
symbol_listed_fits-outline l p i (Some s) = rw (file_of-layout l.groups i, output_section-outline l (file_of (files_of l.groups) i) s.place) refl

pub first_misplaced_listed-outline : (l : Layout) (p i : ℕ) (ds : List DynamicSymbol) → first_misplaced_listed (outline l) p i ds ≡ first_misplaced_listed l p i ds
first_misplaced_listed-outline l p i [] = refl
first_misplaced_listed-outline l p i (d ∷ ds) =
    rw (symbol_listed_fits-outline l p d.symbol (slice_get l.symbols d.symbol), first_misplaced_listed-outline l (p + 1) (i + 1) ds) refl

-- ---- clause 16

group_share_at-outline : (o : Option ℕ) (g : Group) → group_share_at o (outline_group g) ≡ group_share_at o g
group_share_at-outline None g = refl
group_share_at-outline (Some part) g = refl

starts_after_group-outline : (places : Starts (Option ℕ)) (from : Starts ℕ) (g : Group) → starts_after_group places from (outline_group g) ≡ starts_after_group places from g
starts_after_group-outline places from g =
    rw (group_share_at-outline places.dynstr g, group_share_at-outline places.strtab g, group_share_at-outline places.frames g, group_share_at-outline places.locals g, group_share_at-outline places.globals g) refl

pub start_astray-outline : (places : Starts (Option ℕ)) (from : Starts ℕ) (i : ℕ) (gs : List Group) → start_astray places from i (map outline_group gs) ≡ start_astray places from i gs
start_astray-outline places from i [] = refl
start_astray-outline places from i (g ∷ gs) =
    rw (starts_after_group-outline places from g, start_astray-outline places (starts_after_group places from g) (i + 1) gs) refl

-- ---- clause 18

pub need_count-outline : (gs : List Group) → length (filter has_needs (files_of (map outline_group gs))) ≡ length (filter has_needs (files_of gs))
need_count-outline gs = ap (λ fs. length (filter has_needs fs)) (files_of-outline gs) ∙ filter-length has_needs outline_file (λ f. refl) (files_of gs)

pub versions_needed-outline : (gs : List Group) → total file_versions (files_of (map outline_group gs)) ≡ total file_versions (files_of gs)
versions_needed-outline gs = ap (total file_versions) (files_of-outline gs) ∙ total-mapped file_versions file_versions outline_file (λ f. refl) (files_of gs)

pub mark_astray-outline : (n i : ℕ) (gs : List Group) → mark_astray n i (map outline_group gs) ≡ mark_astray n i gs
mark_astray-outline n i [] = refl
mark_astray-outline n i (g ∷ gs) =
    rw (through-mapped mark_step mark_step outline_file (λ n f. refl) n g.files, filter-length has_needs outline_file (λ f. refl) g.files, mark_astray-outline (n - length (filter has_needs g.files)) (i + 1) gs) refl

-- ---- clause 22

pub given_by-option : (part : ℕ) (o : Option Group) → given_by part (option_map outline_group o) ≡ given_by part o
given_by-option part None = refl
given_by-option part (Some g) = refl

pub given_by-outline : (part : ℕ) (gs : List Group) → given_by part (slice_get (map outline_group gs) 0) ≡ given_by part (slice_get gs 0)
given_by-outline part gs = ap (given_by part) (slice_get-map outline_group gs 0) ∙ given_by-option part (slice_get gs 0)
