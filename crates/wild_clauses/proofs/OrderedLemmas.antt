-- Sections in a given order, entry by entry; and where such a section stands.
use Rattle.std.proofs.Common.{◌≡◌, ℕ, ◌+◌, ◌<◌, inl, inr, Bool, true, false, List, [], ◌∷◌, ◌++◌, length, get_or, drop, refl, ap, ◌∙◌}
use Rattle.std.specs.Prelude.{Option, Some, None, Result, Ok, Err, ◌&&◌, option_and_then}
use Rattle.std.specs.List.{flat_map, list_all}
use Rattle.std.proofs.lemmas.Bool.{cases_Bool}
use Rattle.std.proofs.lemmas.List.{drop_more, map-append}
use Rattle.wild_types.specs.declared.input.InputSection.{InputSection}
use Rattle.wild_types.specs.declared.layout.SortedSection.{SortedSection}
use Rattle.wild_types.specs.declared.layout.Layout.{Layout}
use Rattle.wild_types.specs.declared.file.File.{File}
use Rattle.wild_types.specs.declared.file.Group.{Group}
use Rattle.wild_types.specs.declared.part.Part.{Part}
use Rattle.wild_types.specs.FileRoles.{is_epilogue}
use Rattle.wild_types.specs.Lists.{through}
use Rattle.wild_types.specs.Kinds.{is_partial_link}
use Rattle.wild_types.specs.Lookups.{has_bytes, has_range_bytes}
use Rattle.wild_placement.specs.PlacedSections.{Input, sorted_input, of_last_file}
use Rattle.wild_plan_rules.specs.SlotPlaces.{and_then, walk}
use Rattle.wild_plan_rules.specs.Thunks.{bytes_step, section_step, sections_in_ranges}
use Rattle.wild_plan_rules.specs.MisplacedSections.{all_placed, bytes_placed, file_all_placed, entry_group, owner_in_part, owner_in_parts}
use Rattle.wild_clauses.specs.SortedOrder.{sorted_as_loaded, sections_of, sections_by_order}
use Rattle.wild_plan_rules.proofs.BlockLemmas.{filled}

-- ---- one section

-- of a section in a given order the part, the address and the size are its own
ordered_bytes_placed : (l : Layout) (part : ℕ) (ends cursors : List ℕ) (s : InputSection) → bytes_placed part ends cursors (sorted_as_loaded l s) ≡ bytes_placed part ends cursors s
ordered_bytes_placed l part [] cs s = refl
ordered_bytes_placed l part (e ∷ es) [] s = refl
ordered_bytes_placed l part (e ∷ es) (c ∷ cs) s =
    elim (cases_Bool (is_partial_link l.kind)) [
      | inl t ↦ rw (ordered_bytes_placed l (part + 1) es cs s, t) refl
      | inr f ↦ rw (ordered_bytes_placed l (part + 1) es cs s, f) refl
    ]

pub ordered_placed : (l : Layout) (part : ℕ) (ends cursors : List ℕ) (s : InputSection) → has_bytes l (sorted_as_loaded l s) ≡ true → all_placed l part ends cursors (sorted_as_loaded l s) ≡ bytes_placed part ends cursors s
ordered_placed l part ends cursors s h = filled l part ends cursors (sorted_as_loaded l s) h ∙ ordered_bytes_placed l part ends cursors s

-- ---- one after another

pub ordered_more : (l : Layout) (i : ℕ) (xs : List SortedSection) (d : SortedSection) → i < length xs → sections_by_order l (drop i xs) ≡ sections_of (sorted_input l (get_or xs i d)) ++ sections_by_order l (drop (i + 1) xs)
ordered_more l i xs d lt = rw (drop_more xs i d lt) (map-append _ (sorted_input l (get_or xs i d)) (flat_map (sorted_input l) (drop (i + 1) xs)))

pub through_append : {S X : Type 0} (step : S → X → Option S) (s : S) (xs ys : List X) → through step s (xs ++ ys) ≡ option_and_then (λ t. through step t ys) (through step s xs)
through_append step s [] ys = refl
through_append {S = S} step s (x ∷ xs) ys = next (λ t. through_append step t xs ys) (step s x)
  where
    next : ((t : S) → through step t (xs ++ ys) ≡ option_and_then (λ u. through step u ys) (through step t xs)) → (o : Option S) → option_and_then (λ t. through step t (xs ++ ys)) o ≡ option_and_then (λ t. through step t ys) (option_and_then (λ t. through step t xs) o)
    next again None = refl
    next again (Some t) = again t

pub ordered_next : {S : Type 0} (step : S → InputSection → Option S) (s t : S) (l : Layout) (i : ℕ) (xs : List SortedSection) (d : SortedSection) → i < length xs → through step s (sections_of (sorted_input l (get_or xs i d))) ≡ Some t → through step s (sections_by_order l (drop i xs)) ≡ through step t (sections_by_order l (drop (i + 1) xs))
ordered_next step s t l i xs d lt h = rw (ordered_more l i xs d lt, through_append step s (sections_of (sorted_input l (get_or xs i d))) (sections_by_order l (drop (i + 1) xs)), h)

pub ordered_out : {S : Type 0} (step : S → InputSection → Option S) (s : S) (l : Layout) (i : ℕ) (xs : List SortedSection) (d : SortedSection) → i < length xs → through step s (sections_of (sorted_input l (get_or xs i d))) ≡ None → through step s (sections_by_order l (drop i xs)) ≡ None
ordered_out step s l i xs d lt h = rw (ordered_more l i xs d lt, through_append step s (sections_of (sorted_input l (get_or xs i d))) (sections_by_order l (drop (i + 1) xs)), h)

-- ---- whose section is misplaced

pub entry_out : (l : Layout) (part : ℕ) (ends cursors : List ℕ) (i : ℕ) (xs : List SortedSection) (d : SortedSection) → i < length xs → through (all_placed l part ends) cursors (sections_of (sorted_input l (get_or xs i d))) ≡ None → entry_group l part ends cursors (drop i xs) ≡ Some (get_or xs i d).group
entry_out l part ends cursors i xs d lt h = rw (drop_more xs i d lt, h)

pub entry_next : (l : Layout) (part : ℕ) (ends cursors next : List ℕ) (i : ℕ) (xs : List SortedSection) (d : SortedSection) → i < length xs → through (all_placed l part ends) cursors (sections_of (sorted_input l (get_or xs i d))) ≡ Some next → entry_group l part ends cursors (drop i xs) ≡ entry_group l part ends next (drop (i + 1) xs)
entry_next l part ends cursors next i xs d lt h = rw (drop_more xs i d lt, h)

pub owner-found : (l : Layout) (i : ℕ) (g : Group) (k : ℕ) (ps : List Part) (p : Part) (owner : ℕ) → k < length ps → p ≡ get_or ps k p → owner_in_part l i g k p ≡ Some owner → owner_in_parts l i g k (drop k ps) ≡ owner
owner-found l i g k ps p owner lt is h = rw (drop_more ps k p lt, ← is, h)

pub owner-next : (l : Layout) (i : ℕ) (g : Group) (k : ℕ) (ps : List Part) (p : Part) → k < length ps → p ≡ get_or ps k p → owner_in_part l i g k p ≡ None → owner_in_parts l i g k (drop k ps) ≡ owner_in_parts l i g (k + 1) (drop (k + 1) ps)
owner-next l i g k ps p lt is h = rw (drop_more ps k p lt, ← is, h)

-- ---- the sections of a file, and those of the order

pub file_out : (l : Layout) (part : ℕ) (ends cursors : List ℕ) (f : File) → through (all_placed l part ends) cursors f.sections ≡ None → file_all_placed l part ends cursors f ≡ None
file_out l part ends cursors f h = rw (through_append (all_placed l part ends) cursors f.sections (of_last_file f (sections_by_order l l.sorted)), h)

pub file_last : (l : Layout) (part : ℕ) (ends cursors next : List ℕ) (f : File) → is_epilogue f.role ≡ true → through (all_placed l part ends) cursors f.sections ≡ Some next → file_all_placed l part ends cursors f ≡ through (all_placed l part ends) next (sections_by_order l l.sorted)
file_last l part ends cursors next f e h = rw (through_append (all_placed l part ends) cursors f.sections (of_last_file f (sections_by_order l l.sorted)), h, e)

-- ---- the same of steps that may refuse

pub filled_step : (l : Layout) (group at : ℕ) (s : InputSection) → has_range_bytes l s ≡ true → section_step l group at s ≡ bytes_step l.primary_part group at s
filled_step l group at s e = rw e refl

pub unfilled_step : (l : Layout) (group at : ℕ) (s : InputSection) → has_range_bytes l s ≡ false → section_step l group at s ≡ Ok at
unfilled_step l group at s e = rw e refl

pub ordered_step : (l : Layout) (group at : ℕ) (s : InputSection) → has_bytes l (sorted_as_loaded l s) ≡ true → section_step l group at (sorted_as_loaded l s) ≡ bytes_step l.primary_part group at s
ordered_step l group at s h = filled_step l group at (sorted_as_loaded l s) h ∙ same
  where
    same : bytes_step l.primary_part group at (sorted_as_loaded l s) ≡ bytes_step l.primary_part group at s
    same =
        elim (cases_Bool (is_partial_link l.kind)) [
          | inl t ↦ rw t refl
          | inr f ↦ rw f refl
        ]

pub then_ok : {S : Type 0} (r : Result S ℕ) → and_then r (λ t. Ok t) ≡ r
then_ok (Ok s) = refl
then_ok (Err e) = refl

walk_append : {S X : Type 0} (step : S → X → Result S ℕ) (s : S) (xs ys : List X) → walk step s (xs ++ ys) ≡ and_then (walk step s xs) (λ t. walk step t ys)
unfolding walk
walk_append step s [] ys = refl
walk_append {S = S} step s (x ∷ xs) ys = next (λ t. walk_append step t xs ys) (step s x)
  where
    next : ((t : S) → walk step t (xs ++ ys) ≡ and_then (walk step t xs) (λ u. walk step u ys)) → (r : Result S ℕ) → and_then r (λ t. walk step t (xs ++ ys)) ≡ and_then (and_then r (λ t. walk step t xs)) (λ t. walk step t ys)
    next again (Err e) = refl
    next again (Ok t) = again t

walk_entry : {S : Type 0} (step : S → InputSection → Result S ℕ) (s : S) (l : Layout) (i : ℕ) (xs : List SortedSection) (d : SortedSection) → i < length xs → walk step s (sections_by_order l (drop i xs)) ≡ and_then (walk step s (sections_of (sorted_input l (get_or xs i d)))) (λ t. walk step t (sections_by_order l (drop (i + 1) xs)))
walk_entry step s l i xs d lt = rw (ordered_more l i xs d lt) (walk_append step s (sections_of (sorted_input l (get_or xs i d))) (sections_by_order l (drop (i + 1) xs)))

pub walk_next : {S : Type 0} (step : S → InputSection → Result S ℕ) (s t : S) (l : Layout) (i : ℕ) (xs : List SortedSection) (d : SortedSection) → i < length xs → walk step s (sections_of (sorted_input l (get_or xs i d))) ≡ Ok t → walk step s (sections_by_order l (drop i xs)) ≡ walk step t (sections_by_order l (drop (i + 1) xs))
walk_next step s t l i xs d lt h = walk_entry step s l i xs d lt ∙ ap (λ r. and_then r (λ u. walk step u (sections_by_order l (drop (i + 1) xs)))) h

pub walk_out : {S : Type 0} (step : S → InputSection → Result S ℕ) (s : S) (e : ℕ) (l : Layout) (i : ℕ) (xs : List SortedSection) (d : SortedSection) → i < length xs → walk step s (sections_of (sorted_input l (get_or xs i d))) ≡ Err e → walk step s (sections_by_order l (drop i xs)) ≡ Err e
walk_out step s e l i xs d lt h = walk_entry step s l i xs d lt ∙ ap (λ r. and_then r (λ u. walk step u (sections_by_order l (drop (i + 1) xs)))) h

pub walk_sections_in_ranges : (l : Layout) (group at : ℕ) (f : File) → walk (section_step l group) at (sections_in_ranges l f) ≡ and_then (walk (section_step l group) at f.sections) (λ t. walk (section_step l group) t (of_last_file f (sections_by_order l l.sorted)))
walk_sections_in_ranges l group at f = walk_append (section_step l group) at f.sections (of_last_file f (sections_by_order l l.sorted))

-- ---- the same of tests

all_append : (t : InputSection → Bool) (ss rest : List InputSection) → list_all t (ss ++ rest) ≡ (list_all t ss && list_all t rest)
all_append t [] rest = refl
all_append t (s ∷ ss) rest = rw (all_append t ss rest) (both (t s) (list_all t ss) (list_all t rest))
  where
    both : (b c d : Bool) → (b && (c && d)) ≡ ((b && c) && d)
    both true c d = refl
    both false c d = refl

ordered_all : (test : InputSection → Bool) (l : Layout) (xs : List SortedSection) → list_all (λ (x : SortedSection). list_all test (sections_of (sorted_input l x))) xs ≡ list_all test (sections_by_order l xs)
ordered_all test l [] = refl
ordered_all test l (x ∷ xs) = rw (map-append (λ (y : Input). y.section) (sorted_input l x) (flat_map (sorted_input l) xs), all_append test (sections_of (sorted_input l x)) (sections_by_order l xs), ordered_all test l xs)

-- all that stand in the last file's ranges pass, and all that stand in another's
pub standing_all : (test : InputSection → Bool) (l : Layout) (f : File) → is_epilogue f.role ≡ true → list_all test (sections_in_ranges l f) ≡ (list_all test f.sections && list_all (λ (x : SortedSection). list_all test (sections_of (sorted_input l x))) l.sorted)
standing_all test l f e = rw (all_append test f.sections (of_last_file f (sections_by_order l l.sorted)), ordered_all test l l.sorted, e)

pub standing_rest : (test : InputSection → Bool) (l : Layout) (f : File) → is_epilogue f.role ≡ false → list_all test (sections_in_ranges l f) ≡ list_all test f.sections
standing_rest test l f e = rw (all_append test f.sections (of_last_file f (sections_by_order l l.sorted)), e) (whole (list_all test f.sections))
  where
    whole : (b : Bool) → (b && true) ≡ b
    whole true = refl
    whole false = refl
