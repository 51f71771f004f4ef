-- Cursors of many parts, moved side by side, tell what each part's cursor tells by itself.
use Rattle.std.proofs.Common.{◌≡◌, ℕ, zero, suc, ◌+◌, ◌<◌, ◌≤◌, ◌⊎◌, inl, inr, Bool, true, false, List, [], ◌∷◌, length, get_or, set, refl, sym, ap, ◌∙◌, arith}
use Rattle.std.specs.Prelude.{Option, Some, None, ◌&&◌, ◌==◌, nat_le, is_some, option_and_then}
use Rattle.std.proofs.lemmas.Bool.{cases_Bool}
use Rattle.std.proofs.lemmas.Bool.Decides.{nat_tests}
use Rattle.std.proofs.lemmas.List.{ext_get_or, length-map}
use Rattle.wild_types.specs.declared.part.Part.{Part}
use Rattle.wild_types.specs.declared.input.InputSection.{InputSection}
use Rattle.wild_types.specs.declared.file.File.{File}
use Rattle.wild_types.specs.declared.file.Group.{Group}
use Rattle.wild_types.specs.declared.layout.Layout.{Layout}
use Rattle.wild_types.specs.Lists.{through}
use Rattle.wild_types.specs.Lookups.{has_range_bytes}
use Rattle.wild_plan_rules.specs.Contents.{addresses, ends_of, placed_in, file_placed_in, part_placed, parts_placed}
use Rattle.wild_types.specs.FilePlaces.{given}
use Rattle.wild_plan_rules.specs.Thunks.{sections_in_ranges}
use Rattle.wild_plan_rules.specs.MisplacedSections.{both, all_placed, bytes_placed, file_all_placed}

both_none : (o : Option ℕ) → both o None ≡ None
both_none None = refl
both_none (Some a) = refl

-- ---- one input section

-- one that owns no bytes moves no cursor
pub unfilled : (l : Layout) (part : ℕ) (ends cursors : List ℕ) (s : InputSection) → length ends ≡ length cursors → has_range_bytes l s ≡ false → all_placed l part ends cursors s ≡ Some cursors
unfilled l part [] [] s same h = refl
unfilled l part [] (c ∷ cs) s same h = absurd (omega arith)
unfilled l part (e ∷ es) [] s same h = absurd (omega arith)
unfilled l part (e ∷ es) (c ∷ cs) s same h =
    let again = unfilled l (part + 1) es cs s (omega arith) h in
    rw (h, again)

-- one that owns bytes moves that of its part
pub filled : (l : Layout) (part : ℕ) (ends cursors : List ℕ) (s : InputSection) → has_range_bytes l s ≡ true → all_placed l part ends cursors s ≡ bytes_placed part ends cursors s
filled l part [] cs s h = refl
filled l part (e ∷ es) [] s h = refl
filled l part (e ∷ es) (c ∷ cs) s h = rw (h, filled l (part + 1) es cs s h) refl

-- one of another part moves none
pub before_all : (part : ℕ) (ends cursors : List ℕ) (s : InputSection) → length ends ≡ length cursors → s.part < part → bytes_placed part ends cursors s ≡ Some cursors
before_all part [] [] s same h = refl
before_all part [] (c ∷ cs) s same h = absurd (omega arith)
before_all part (e ∷ es) [] s same h = absurd (omega arith)
before_all part (e ∷ es) (c ∷ cs) s same h =
    let again = before_all (part + 1) es cs s (omega arith) (omega arith) in
    let other : (s.part == part) ≡ false = grind (arith, nat_tests) in
    rw (other, again)

pub behind_all : (part : ℕ) (ends cursors : List ℕ) (s : InputSection) → length ends ≡ length cursors → part + length cursors ≤ s.part → bytes_placed part ends cursors s ≡ Some cursors
behind_all part [] [] s same h = refl
behind_all part [] (c ∷ cs) s same h = absurd (omega arith)
behind_all part (e ∷ es) [] s same h = absurd (omega arith)
behind_all part (e ∷ es) (c ∷ cs) s same h =
    let again = behind_all (part + 1) es cs s (omega arith) (omega arith) in
    let other : (s.part == part) ≡ false = grind (arith, nat_tests) in
    rw (other, again)

-- the cursor of its part moves, where it stands between cursor and end
abbrev pub moved : List ℕ → ℕ → ℕ → ℕ → Bool → Option (List ℕ)
moved cursors k address size true = Some (set cursors k (address + size))
moved cursors k address size false = None

at_part : (part k : ℕ) (ends cursors : List ℕ) (s : InputSection) → length ends ≡ length cursors → s.part ≡ part + k → k < length cursors → bytes_placed part ends cursors s ≡ moved cursors k s.address s.size (nat_le (get_or cursors k 0) s.address && nat_le (s.address + s.size) (get_or ends k 0))
at_part part k [] [] s same e lt = absurd (omega arith)
at_part part k [] (c ∷ cs) s same e lt = absurd (omega arith)
at_part part k (b ∷ es) [] s same e lt = absurd (omega arith)
at_part part zero (b ∷ es) (c ∷ cs) s same e lt =
    let others = before_all (part + 1) es cs s (omega arith) (omega arith) in
    let here : (s.part == part) ≡ true = grind (arith, nat_tests) in
    elim (cases_Bool (nat_le c s.address && nat_le (s.address + s.size) b)) [
      | inl t ↦ rw (others, here, t)
      | inr f ↦ rw (others, here, f)
    ]
at_part part (suc k) (b ∷ es) (c ∷ cs) s same e lt =
    let other : (s.part == part) ≡ false = grind (arith, nat_tests) in
    let again = at_part (part + 1) k es cs s (omega arith) (omega arith) (omega arith) in
    rw (other, again)
    (later (nat_le (get_or cs k 0) s.address && nat_le (s.address + s.size) (get_or es k 0)))
  where
    later : (t : Bool) → both (Some c) (moved cs k s.address s.size t) ≡ moved (c ∷ cs) (suc k) s.address s.size t
    later true = refl
    later false = refl

pub at_part_in : (part k : ℕ) (ends cursors : List ℕ) (s : InputSection) → length ends ≡ length cursors → s.part ≡ part + k → k < length cursors → get_or cursors k 0 ≤ s.address → s.address + s.size ≤ get_or ends k 0 → bytes_placed part ends cursors s ≡ Some (set cursors k (s.address + s.size))
at_part_in part k ends cursors s same e lt from to =
    let test : (nat_le (get_or cursors k 0) s.address && nat_le (s.address + s.size) (get_or ends k 0)) ≡ true = grind (arith, nat_tests) in
    rw test at (at_part part k ends cursors s same e lt)

pub at_part_out : (part k : ℕ) (ends cursors : List ℕ) (s : InputSection) → length ends ≡ length cursors → s.part ≡ part + k → k < length cursors → (s.address < get_or cursors k 0) ⊎ (get_or ends k 0 < s.address + s.size) → bytes_placed part ends cursors s ≡ None
at_part_out part k ends cursors s same e lt out =
    let test : (nat_le (get_or cursors k 0) s.address && nat_le (s.address + s.size) (get_or ends k 0)) ≡ false = grind (arith, nat_tests) in
    rw test at (at_part part k ends cursors s same e lt)

-- ---- files and groups

sections_split : (l : Layout) (part end cursor : ℕ) (ends cursors : List ℕ) (ss : List InputSection) → through (all_placed l part (end ∷ ends)) (cursor ∷ cursors) ss ≡ both (through (placed_in l part end) cursor ss) (through (all_placed l (part + 1) ends) cursors ss)
sections_split l part end cursor ends cursors [] = refl
sections_split l part end cursor ends cursors (s ∷ ss) =
    split (placed_in l part end cursor s) (all_placed l (part + 1) ends cursors s) (λ c cs. sections_split l part end c ends cs ss)
  where
    split : (a : Option ℕ) (b : Option (List ℕ)) → ((c : ℕ) (cs : List ℕ) → through (all_placed l part (end ∷ ends)) (c ∷ cs) ss ≡ both (through (placed_in l part end) c ss) (through (all_placed l (part + 1) ends) cs ss)) → option_and_then (λ t. through (all_placed l part (end ∷ ends)) t ss) (both a b) ≡ both (option_and_then (λ t. through (placed_in l part end) t ss) a) (option_and_then (λ t. through (all_placed l (part + 1) ends) t ss) b)
    split None b again = refl
    split (Some a) None again = sym (both_none _)
    split (Some a) (Some b) again = again a b

files_split : (l : Layout) (part end cursor : ℕ) (ends cursors : List ℕ) (fs : List File) → through (file_all_placed l part (end ∷ ends)) (cursor ∷ cursors) fs ≡ both (through (file_placed_in l part end) cursor fs) (through (file_all_placed l (part + 1) ends) cursors fs)
files_split l part end cursor ends cursors [] = refl
files_split l part end cursor ends cursors (f ∷ fs) =
    rw (sections_split l part end cursor ends cursors (sections_in_ranges l f))
    (split (file_placed_in l part end cursor f) (file_all_placed l (part + 1) ends cursors f) (λ c cs. files_split l part end c ends cs fs))
  where
    split : (a : Option ℕ) (b : Option (List ℕ)) → ((c : ℕ) (cs : List ℕ) → through (file_all_placed l part (end ∷ ends)) (c ∷ cs) fs ≡ both (through (file_placed_in l part end) c fs) (through (file_all_placed l (part + 1) ends) cs fs)) → option_and_then (λ t. through (file_all_placed l part (end ∷ ends)) t fs) (both a b) ≡ both (option_and_then (λ t. through (file_placed_in l part end) t fs) a) (option_and_then (λ t. through (file_all_placed l (part + 1) ends) t fs) b)
    split None b again = refl
    split (Some a) None again = sym (both_none _)
    split (Some a) (Some b) again = again a b

both_some : (a : Option ℕ) (b : Option (List ℕ)) → is_some (both a b) ≡ (is_some a && is_some b)
both_some None b = refl
both_some (Some a) None = refl
both_some (Some a) (Some b) = refl

sections_none : (l : Layout) (part : ℕ) (ss : List InputSection) → through (all_placed l part []) [] ss ≡ Some []
sections_none l part [] = refl
sections_none l part (s ∷ ss) = sections_none l part ss

files_none : (l : Layout) (part : ℕ) (fs : List File) → through (file_all_placed l part []) [] fs ≡ Some []
files_none l part [] = refl
files_none l part (f ∷ fs) = rw (sections_none l part (sections_in_ranges l f)) (files_none l part fs)

pub group_placed : (l : Layout) (part : ℕ) (starts : List ℕ) (g : Group) → is_some (through (file_all_placed l part (ends_of g part starts)) starts g.files) ≡ parts_placed l g part starts
group_placed l part [] g = rw (files_none l part g.files)
group_placed l part (start ∷ starts) g =
    rw (files_split l part (start + given part g) start (ends_of g (part + 1) starts) starts g.files, both_some _ _)
    (ap (λ b. part_placed l part start (start + given part g) g && b) (group_placed l (part + 1) starts g))

-- ---- where parts begin and end

pub length-ends_of : (g : Group) (part : ℕ) (starts : List ℕ) → length (ends_of g part starts) ≡ length starts
length-ends_of g part [] = refl
length-ends_of g part (s ∷ ss) = ap suc (length-ends_of g (part + 1) ss)

pub get_or-ends_of : (g : Group) (part : ℕ) (starts : List ℕ) (k : ℕ) → k < length starts → get_or (ends_of g part starts) k 0 ≡ get_or starts k 0 + given (part + k) g
get_or-ends_of g part [] k h = absurd (omega arith)
get_or-ends_of g part (s ∷ ss) zero h = let e : part + 0 ≡ part = omega arith in rw e
get_or-ends_of g part (s ∷ ss) (suc k) h =
    let e : part + suc k ≡ part + 1 + k = omega arith in
    rw e (get_or-ends_of g (part + 1) ss k (omega arith))

pub is_ends_of : (g : Group) (part : ℕ) (starts xs : List ℕ) → length xs ≡ length starts → ((j : ℕ) → j < length starts → get_or xs j 0 ≡ get_or starts j 0 + given (part + j) g) → xs ≡ ends_of g part starts
is_ends_of g part starts xs same h =
    ext_get_or 0 xs (ends_of g part starts) (same ∙ sym (length-ends_of g part starts))
    (λ j lt. h j (omega arith) ∙ sym (get_or-ends_of g part starts j (omega arith)))

pub is_addresses : (ps : List Part) (xs : List ℕ) → length xs ≡ length ps → ((j : ℕ) → j < length ps → get_or xs j 0 ≡ get_or (addresses ps) j 0) → xs ≡ addresses ps
is_addresses ps xs same h = ext_get_or 0 xs (addresses ps) (rw length-map same) (λ j lt. h j (omega arith))
