-- The words of packed places: a loader finds the places of addresses and of slots in them, and no others.
use Rattle.wild_loaded.proofs.Common.{is_epilogue, all_sections, by_files, placed_files_same_all, IsLaidOut, placed_file, placed_files, processed_sections, of_last_file, sorted_sections, has_last, ◌≡◌, ℕ, suc, ◌+◌, ◌%◌, ◌^◌, ◌<◌, ◌≤◌, ◌⊎◌, inl, inr, Bool, true, false, List, [], ◌∷◌, ◌++◌, get_or, map, refl, sym, ap, ◌∙◌, arith, subst, append_assoc, Some, None, All, AllPairs, Contains, ◌≢◌, IsPermutation, option_to_list, if◌then◌else◌, ◌&&◌, ◌==◌, ◌||◌, flat_map, cases_Bool, eqb-true, append-nil, get_or_default, flat_map-append, flat_map-map, All-nil, All-cons, All-append, All-map, All-contains, All-permutation, IsPermutation-sym, IsPermutation-trans, IsPermutation-map, IsPermutation-append_right, IsPermutation-append_comm, AllPairs-cons, All-flat_map, AllPairs-nil, AllPairs-head, AllPairs-tail, flat_map-same, flat_map-flat_map, InputRelocation, InputSection, SlotWord, Number, Address, InRelrGot, General, Plt, File, Group, Layout, place_of, packs, is_relative, relr_place, relr_places, is_packed, relr_slot_place, relr_got_place, block_of, group_relr_got, file_words, flat_places_of, places, Run, DoesNotOverlap, OrderDoesNotMatter, packed_words_of_file, group_words, tables_of}
use Rattle.wild_loaded.proofs.FramesInPart.{LastAlone, groups_alone}
use Rattle.std.specs.List.{list_any}
use Rattle.std.proofs.lemmas.List.Sorted.{IsPermutation-append_left}
use Rattle.wild_needs.specs.declared.slot_shares.RelrGot.{RelrGot}
use Rattle.wild_types.specs.Lookups.{may_have_relative}
use Rattle.wild_relr.specs.RunWords.{Piece, Places, packed, words_of, words_of_piece, places_of_pieces, places_of_piece, slots, IsEven, RelrSlotIsARun, after_relr_slot, after_run, nothing}
use Rattle.wild_relr.specs.RunWords as relr
use Rattle.wild_relr.specs.Encoding.{State}
use Rattle.wild_loader.proofs.OverlaidBytes.{elsewhere}
use Rattle.wild_table_formats.specs.EntryLaws.{PlacesAreLoaded}
use Rattle.wild_slots.specs.Blocks.{IsWhole}
use Rattle.wild_loaded.proofs.SlotSites.{of_site, file_sites, flat_by_sites, block_by_sites, all_by_sites, groups_by_sites, all_sites}
use Rattle.wild_loaded.proofs.PairLemmas.{All-unmap}
use Rattle.wild_loaded.proofs.Permuted.{flat_map-parts, nested-parts}
use Rattle.wild_loaded.proofs.FilledTables.{runs_apart_by}
use Rattle.wild_loaded.proofs.SlotFillings.{made_of}
use Rattle.wild_loaded.proofs.TableLists.{packed_list}
use Rattle.wild_loaded.proofs.CopyFillings.{Differ}

-- ---- what is recorded

abbrev file_runs : Layout → File → List Piece
file_runs l f = map (λ (s : InputSection). Places (relr_places l s)) f.sections ++ map (λ (a : ℕ). Places (a ∷ [])) (flat_places_of l f)

abbrev block_run : RelrGot → Piece
block_run b = relr.Block b.base b.count

-- the runs of the sorted sections, of the group with the last file
abbrev sorted_runs : Layout → Group → List Piece
sorted_runs l g = if has_last g then map (λ (s : InputSection). Places (relr_places l s)) (sorted_sections l) else []

abbrev group_runs : Layout → Group → List Piece
group_runs l g = flat_map (file_runs l) (placed_files l g) ++ (block_run (block_of (group_relr_got l g)) ∷ sorted_runs l g)

abbrev all_runs : Layout → List Piece
all_runs l = flat_map (group_runs l) l.groups

-- what is made of the runs of a layout
of_file_runs : {Y : Type 0} (h : Piece → List Y) (l : Layout) (f : File) → flat_map h (file_runs l f) ≡ flat_map (λ (s : InputSection). h (Places (relr_places l s))) f.sections ++ flat_map (λ (a : ℕ). h (Places (a ∷ []))) (flat_places_of l f)
of_file_runs h l f =
    flat_map-append h (map (λ (s : InputSection). Places (relr_places l s)) f.sections) (map (λ (a : ℕ). Places (a ∷ [])) (flat_places_of l f))
    ∙ ap (λ ys. ys ++ flat_map h (map (λ (a : ℕ). Places (a ∷ [])) (flat_places_of l f))) (flat_map-map h (λ (s : InputSection). Places (relr_places l s)) f.sections)
    ∙ ap (λ ys. flat_map (λ (s : InputSection). h (Places (relr_places l s))) f.sections ++ ys) (flat_map-map h (λ (a : ℕ). Places (a ∷ [])) (flat_places_of l f))

of_group_runs : {Y : Type 0} (h : Piece → List Y) (of : File → List Y) (l : Layout) (g : Group) → ((f : File) → flat_map h (file_runs l f) ≡ of f) → flat_map h (group_runs l g) ≡ flat_map of (placed_files l g) ++ (h (block_run (block_of (group_relr_got l g))) ++ flat_map h (sorted_runs l g))
of_group_runs h of l g each =
    flat_map-append h (flat_map (file_runs l) (placed_files l g)) (block_run (block_of (group_relr_got l g)) ∷ sorted_runs l g)
    ∙ ap (λ ys. ys ++ (h (block_run (block_of (group_relr_got l g))) ++ flat_map h (sorted_runs l g))) (flat_map-flat_map h (file_runs l) (placed_files l g) ∙ flat_map-same (λ (f : File). flat_map h (file_runs l f)) of (placed_files l g) each)

of_sorted_runs : (h : Piece → List ℕ) (of : InputSection → List ℕ) (l : Layout) (g : Group) → ((s : InputSection) → h (Places (relr_places l s)) ≡ of s) → flat_map h (sorted_runs l g) ≡ (if has_last g then flat_map of (sorted_sections l) else [])
of_sorted_runs h of l g each = by_last (has_last g)
  where
    by_last : (b : Bool) → flat_map h (if b then map (λ (s : InputSection). Places (relr_places l s)) (sorted_sections l) else []) ≡ (if b then flat_map of (sorted_sections l) else [])
    by_last false = refl
    by_last true = flat_map-map h (λ (s : InputSection). Places (relr_places l s)) (sorted_sections l) ∙ flat_map-same (λ (s : InputSection). h (Places (relr_places l s))) of (sorted_sections l) each

each_single : (h : ℕ → List ℕ) (xs : List ℕ) → ((a : ℕ) → h a ≡ a ∷ []) → flat_map h xs ≡ xs
each_single h [] e = refl
each_single h (x ∷ xs) e = rw (e x) (ap (λ ys. x ∷ ys) (each_single h xs e))

-- a place of its own is its word
one_word : RelrSlotIsARun → (a : ℕ) → packed (a ∷ []) ≡ a ∷ []
one_word law a = sym (ap (λ (s : State). s.words) (law nothing a))

runs_words : RelrSlotIsARun → (l : Layout) → words_of (all_runs l) ≡ (tables_of l).words
runs_words law l =
    flat_map-flat_map words_of_piece (group_runs l) l.groups
    ∙ flat_map-same (λ (g : Group). flat_map words_of_piece (group_runs l g)) (group_words l) l.groups (λ g.
    of_group_runs words_of_piece (packed_words_of_file l) l g (λ f.
    of_file_runs words_of_piece l f ∙ ap (λ ys. file_words l f ++ ys) (each_single (λ (a : ℕ). packed (a ∷ [])) (flat_places_of l f) (one_word law)))
    ∙ ap (λ ys. flat_map (packed_words_of_file l) (placed_files l g) ++ (words_of_piece (block_run (block_of (group_relr_got l g))) ++ ys)) (of_sorted_runs words_of_piece (λ (s : InputSection). packed (relr_places l s)) l g (λ s. refl)))

-- the places of a block are those of its group
block_places_are : (b : RelrGot) (ps : List ℕ) → IsWhole b ps → places_of_piece (block_run b) ≡ ps
block_places_are b [] h =
    elim (cases_Bool (b.base == 0)) [
      | inl t ↦ rw t refl
      | inr f ↦ rw f (sym h.places)
    ]
block_places_are b (p ∷ ps) h =
    elim (cases_Bool (b.base == 0)) [
      | inl t ↦ absurd (h.based (omega arith) (eqb-true b.base 0 t))
      | inr f ↦ rw f (sym h.places)
    ]

-- the places that are recorded, in their order
abbrev file_places : Layout → File → List ℕ
file_places l f = flat_map (relr_places l) f.sections ++ flat_places_of l f

abbrev last_places : Layout → Group → List ℕ
last_places l g = if has_last g then flat_map (relr_places l) (sorted_sections l) else []

abbrev group_places : Layout → Group → List ℕ
group_places l g = flat_map (file_places l) (placed_files l g) ++ (group_relr_got l g ++ last_places l g)

abbrev recorded_places : Layout → List ℕ
recorded_places l = flat_map (group_places l) l.groups

abbrev pub AreWhole : Layout → Type 0
AreWhole l = (g : Group) → Contains l.groups g → IsWhole (block_of (group_relr_got l g)) (group_relr_got l g)

flat_map-listed : {X Y : Type 0} (f g : X → List Y) (xs : List X) → ((x : X) → Contains xs x → f x ≡ g x) → flat_map f xs ≡ flat_map g xs
flat_map-listed f g [] h = refl
flat_map-listed {X} {Y} f g (x ∷ xs) h =
    let here = h x (0, omega arith, refl) in
    ap (λ ys. ys ++ flat_map f xs) here ∙ ap (λ ys. g x ++ ys) (flat_map-listed f g xs (λ y c. h y (suc c.0, omega (arith, c.1), c.2)))

runs_places : (l : Layout) → AreWhole l → places_of_pieces (all_runs l) ≡ recorded_places l
runs_places l whole =
    flat_map-flat_map places_of_piece (group_runs l) l.groups
    ∙ flat_map-listed (λ (g : Group). flat_map places_of_piece (group_runs l g)) (group_places l) l.groups (λ g c.
    of_group_runs places_of_piece (file_places l) l g (λ f.
    of_file_runs places_of_piece l f ∙ ap (λ ys. flat_map (relr_places l) f.sections ++ ys) (each_single (λ (a : ℕ). a ∷ []) (flat_places_of l f) (λ a. refl)))
    ∙ ap (λ ys. flat_map (file_places l) (placed_files l g) ++ (ys ++ flat_map places_of_piece (sorted_runs l g))) (block_places_are (block_of (group_relr_got l g)) (group_relr_got l g) (whole g c))
    ∙ ap (λ ys. flat_map (file_places l) (placed_files l g) ++ (group_relr_got l g ++ ys)) (of_sorted_runs places_of_piece (relr_places l) l g (λ s. refl)))

-- ---- the order

relr_places_of_placed : (l : Layout) (at : ℕ) (f : File) → flat_places_of l (placed_file l at f) ≡ flat_places_of l f
unfolding flat_places_of
relr_places_of_placed l at f = refl

-- what the last file has, of the files of a group
of_last : {X : Type 0} (xs : List X) (fs : List File) → LastAlone fs → flat_map (λ (f : File). if is_epilogue f.role then xs else []) fs ≡ (if list_any (λ (f : File). is_epilogue f.role) fs then xs else [])
of_last xs [] alone = refl
of_last xs (f ∷ []) alone = by_role (is_epilogue f.role)
  where
    by_role : (b : Bool) → (if b then xs else []) ++ [] ≡ (if b || false then xs else [])
    by_role true = append-nil xs
    by_role false = refl
of_last xs (f ∷ (g ∷ gs)) alone = (let e = alone.0 in rw e (of_last xs (g ∷ gs) alone.1))

-- the places of the sorted sections
abbrev sorted_places : Layout → File → List ℕ
sorted_places l f = if is_epilogue f.role then flat_map (relr_places l) (sorted_sections l) else []

file_parts : (l : Layout) (f : File) → flat_map (relr_places l) (processed_sections l f) ≡ flat_map (relr_places l) f.sections ++ sorted_places l f
file_parts l f = flat_map-append (relr_places l) f.sections (of_last_file f (sorted_sections l)) ∙ ap (λ ys. flat_map (relr_places l) f.sections ++ ys) (by_role (is_epilogue f.role))
  where
    by_role : (b : Bool) → flat_map (relr_places l) (if b then sorted_sections l else []) ≡ (if b then flat_map (relr_places l) (sorted_sections l) else [])
    by_role true = refl
    by_role false = refl

-- those of all sections are those of the files' own, and then the sorted ones
sections_parts : (l : Layout) → IsLaidOut l → IsPermutation (flat_map (relr_places l) (all_sections l)) (flat_map (λ (g : Group). flat_map (λ (f : File). flat_map (relr_places l) f.sections) (placed_files l g)) l.groups ++ flat_map (last_places l) l.groups)
sections_parts l laid =
    let a : File → List ℕ = λ f. flat_map (relr_places l) f.sections in
    let aa = flat_map (λ (g : Group). flat_map a (placed_files l g)) l.groups in
    let dd = flat_map (λ (g : Group). flat_map (sorted_places l) (placed_files l g)) l.groups in
    let all = nested-parts (placed_files l) a (sorted_places l) l.groups in
    let same : flat_map (λ (g : Group). flat_map (λ (f : File). a f ++ sorted_places l f) (placed_files l g)) l.groups ≡ flat_map (relr_places l) (all_sections l) =
    flat_map-same (λ (g : Group). flat_map (λ (f : File). a f ++ sorted_places l f) (placed_files l g)) (λ (g : Group). flat_map (λ (f : File). flat_map (relr_places l) (processed_sections l f)) (placed_files l g)) l.groups (λ g. flat_map-same (λ (f : File). a f ++ sorted_places l f) (λ (f : File). flat_map (relr_places l) (processed_sections l f)) (placed_files l g) (λ f. sym (file_parts l f)))
    ∙ sym (by_files (relr_places l) l) in
    let alone = groups_alone true 0 l.groups laid.files in
    let last : dd ≡ flat_map (last_places l) l.groups = placed_files_same_all (sorted_places l) l (λ at f. refl) ∙ flat_map-listed (λ (g : Group). flat_map (sorted_places l) g.files) (last_places l) l.groups (λ g c. of_last (flat_map (relr_places l) (sorted_sections l)) g.files (All-contains (λ (x : Group). LastAlone x.files) l.groups g alone c)) in
    subst (λ (xs : List ℕ). IsPermutation xs (aa ++ flat_map (last_places l) l.groups)) same (subst (λ (xs : List ℕ). IsPermutation (flat_map (λ (g : Group). flat_map (λ (f : File). a f ++ sorted_places l f) (placed_files l g)) l.groups) (aa ++ xs)) last all)

moved_up : (a b c d : List ℕ) → IsPermutation ((a ++ b) ++ (c ++ d)) ((a ++ d) ++ (b ++ c))
moved_up a b c d =
    let one : (a ++ b) ++ (c ++ d) ≡ a ++ ((b ++ c) ++ d) = append_assoc a b (c ++ d) ∙ ap (λ (xs : List ℕ). a ++ xs) (sym (append_assoc b c d)) in
    let two = IsPermutation-append_right a ((b ++ c) ++ d) (d ++ (b ++ c)) (IsPermutation-append_comm (b ++ c) d) in
    let three : a ++ (d ++ (b ++ c)) ≡ (a ++ d) ++ (b ++ c) = sym (append_assoc a d (b ++ c)) in
    subst (λ (xs : List ℕ). IsPermutation xs ((a ++ d) ++ (b ++ c))) (sym one) (subst (λ (xs : List ℕ). IsPermutation (a ++ ((b ++ c) ++ d)) xs) three two)

recorded_sorted : (l : Layout) → IsLaidOut l → IsPermutation (recorded_places l) (packed_list l)
recorded_sorted l laid =
    let a : File → List ℕ = λ f. flat_map (relr_places l) f.sections in
    let b : File → List ℕ = flat_places_of l in
    let c : Group → List ℕ = group_relr_got l in
    let d : Group → List ℕ = last_places l in
    let aa = flat_map (λ (g : Group). flat_map a (placed_files l g)) l.groups in
    let bb = flat_map (λ (g : Group). flat_map b (placed_files l g)) l.groups in
    let cc' = flat_map c l.groups in
    let dd = flat_map d l.groups in
    let ff = flat_map (λ (g : Group). flat_map (file_places l) (placed_files l g)) l.groups in
    let ee = flat_map (λ (g : Group). c g ++ d g) l.groups in
    let outer = flat_map-parts (λ (g : Group). flat_map (file_places l) (placed_files l g)) (λ (g : Group). c g ++ d g) l.groups in
    let files = nested-parts (placed_files l) a b l.groups in
    let ends = flat_map-parts c d l.groups in
    let two = IsPermutation-trans (ff ++ ee) ((aa ++ bb) ++ ee) ((aa ++ bb) ++ (cc' ++ dd)) (IsPermutation-append_left ee ff (aa ++ bb) files) (IsPermutation-append_right (aa ++ bb) ee (cc' ++ dd) ends) in
    let three = IsPermutation-trans (ff ++ ee) ((aa ++ bb) ++ (cc' ++ dd)) ((aa ++ dd) ++ (bb ++ cc')) two (moved_up aa bb cc' dd) in
    let sections = IsPermutation-sym (flat_map (relr_places l) (all_sections l)) (aa ++ dd) (sections_parts l laid) in
    let four = IsPermutation-trans (ff ++ ee) ((aa ++ dd) ++ (bb ++ cc')) (flat_map (relr_places l) (all_sections l) ++ (bb ++ cc')) three (IsPermutation-append_left (bb ++ cc') (aa ++ dd) (flat_map (relr_places l) (all_sections l)) sections) in
    let whole = IsPermutation-trans (recorded_places l) (ff ++ ee) (flat_map (relr_places l) (all_sections l) ++ (bb ++ cc')) outer four in
    let flats : bb ≡ made_of (relr_slot_place l.options.relr) (all_sites l) = placed_files_same_all b l (relr_places_of_placed l) ∙ all_by_sites (of_site (relr_slot_place l.options.relr)) b l (flat_by_sites l) in
    let blocks : cc' ≡ made_of relr_got_place (all_sites l) = groups_by_sites (of_site relr_got_place) c l (block_by_sites l) in
    let same : flat_map (relr_places l) (all_sections l) ++ (bb ++ cc') ≡ packed_list l = ap (λ (xs : List ℕ). flat_map (relr_places l) (all_sections l) ++ (xs ++ cc')) flats ∙ ap (λ (xs : List ℕ). flat_map (relr_places l) (all_sections l) ++ (made_of (relr_slot_place l.options.relr) (all_sites l) ++ xs)) blocks in
    subst (λ (xs : List ℕ). IsPermutation (recorded_places l) xs) same whole

-- ---- even places

packs_even : (relr : Bool) (a : ℕ) → is_packed relr a ≡ true → a % 2 ≡ 0
packs_even relr a h = by_tests relr (a % 2 == 0) refl h
  where
    by_tests : (x y : Bool) → (a % 2 == 0) ≡ y → (x && y) ≡ true → a % 2 ≡ 0
    by_tests true true e h = eqb-true (a % 2) 0 e
    by_tests true false e h = cc
    by_tests false y e h = cc

abbrev EvenPlace : ℕ → Type 0
EvenPlace a = a % 2 ≡ 0

section_even : (l : Layout) (s : InputSection) → All EvenPlace (relr_places l s)
unfolding relr_places
section_even l s = by_test (may_have_relative l s)
  where
    one : (b : Bool) (r : InputRelocation) → packs l (place_of s.address r) ≡ b → All EvenPlace (option_to_list (if is_relative l s r && b then Some (place_of s.address r) else None))
    one true r e = by_move (is_relative l s r)
      where
        by_move : (m : Bool) → All EvenPlace (option_to_list (if m && true then Some (place_of s.address r) else None))
        by_move true = All-cons EvenPlace (place_of s.address r) [] (packs_even l.options.relr (place_of s.address r) e) (All-nil EvenPlace)
        by_move false = All-nil EvenPlace
    one false r e = by_move (is_relative l s r)
      where
        by_move : (m : Bool) → All EvenPlace (option_to_list (if m && false then Some (place_of s.address r) else None))
        by_move true = All-nil EvenPlace
        by_move false = All-nil EvenPlace

    by_test : (b : Bool) → All EvenPlace (if b then flat_map (λ (r : InputRelocation). option_to_list (relr_place l s r)) s.relocations else [])
    by_test false = All-nil EvenPlace
    by_test true = All-flat_map EvenPlace (λ (r : InputRelocation). option_to_list (relr_place l s r)) s.relocations (λ k d b. one (packs l (place_of s.address (get_or s.relocations k d))) (get_or s.relocations k d) refl)

flat_even : (l : Layout) (f : File) → All EvenPlace (flat_places_of l f)
flat_even l f = subst (All EvenPlace) (sym (flat_by_sites l f)) (All-flat_map EvenPlace (of_site (relr_slot_place l.options.relr)) (file_sites l f) (λ k d b. one (get_or (file_sites l f) k d).at (get_or (file_sites l f) k d).word))
  where
    packed_at : (at : ℕ) (b : Bool) → is_packed l.options.relr at ≡ b → All EvenPlace (option_to_list (if b then Some at else None))
    packed_at at true e = All-cons EvenPlace at [] (packs_even l.options.relr at e) (All-nil EvenPlace)
    packed_at at false e = All-nil EvenPlace

    one : (at : ℕ) (d : SlotWord) → All EvenPlace (option_to_list (relr_slot_place l.options.relr at d))
    one at (Address v) = packed_at at (is_packed l.options.relr at) refl
    one at (Number n) = All-nil EvenPlace
    one at (InRelrGot v) = All-nil EvenPlace
    one at (General e) = All-nil EvenPlace
    one at (Plt e) = All-nil EvenPlace

sorted_even : (l : Layout) (g : Group) → All IsEven (sorted_runs l g)
sorted_even l g = by_last (has_last g)
  where
    by_last : (b : Bool) → All IsEven (if b then map (λ (s : InputSection). Places (relr_places l s)) (sorted_sections l) else [])
    by_last false = All-nil IsEven
    by_last true = All-map IsEven (λ (s : InputSection). Places (relr_places l s)) (sorted_sections l) (λ k d b. section_even l (get_or (sorted_sections l) k d))

runs_even : (l : Layout) → AreWhole l → All IsEven (all_runs l)
runs_even l whole =
    All-flat_map IsEven (group_runs l) l.groups (λ k d b. of_group (get_or l.groups k d) (whole (get_or l.groups k d) (k, b, get_or_default l.groups k (get_or l.groups k d) d b)))
  where
    of_file : (f : File) → All IsEven (file_runs l f)
    of_file f =
        All-append IsEven (map (λ (s : InputSection). Places (relr_places l s)) f.sections) (map (λ (a : ℕ). Places (a ∷ [])) (flat_places_of l f))
        (All-map IsEven (λ (s : InputSection). Places (relr_places l s)) f.sections (λ k d b. section_even l (get_or f.sections k d)))
        (All-map IsEven (λ (a : ℕ). Places (a ∷ [])) (flat_places_of l f) (λ k d b. All-cons EvenPlace (get_or (flat_places_of l f) k d) [] (flat_even l f k d b) (All-nil EvenPlace)))

    of_group : (g : Group) → IsWhole (block_of (group_relr_got l g)) (group_relr_got l g) → All IsEven (group_runs l g)
    of_group g h =
        All-append IsEven (flat_map (file_runs l) (placed_files l g)) (block_run (block_of (group_relr_got l g)) ∷ sorted_runs l g)
        (All-flat_map IsEven (file_runs l) (placed_files l g) (λ k d b. of_file (get_or (placed_files l g) k d)))
        (All-cons IsEven (block_run (block_of (group_relr_got l g))) (sorted_runs l g) h.even (sorted_even l g))

-- ---- what a loader finds

-- a byte at a place
abbrev byte_run : ℕ → Run
byte_run a = record { start = a; bytes = 0 ∷ [] }

-- whether places differ does not go by their order
differ-order : OrderDoesNotMatter → (xs ys : List ℕ) → IsPermutation xs ys → AllPairs Differ xs → AllPairs Differ ys
differ-order law xs ys moved h = back ys (law (map byte_run xs) (map byte_run ys) (IsPermutation-map byte_run xs ys moved) (there xs h))
  where
    apart : (a b : ℕ) → Differ a b → DoesNotOverlap (byte_run a) (byte_run b)
    apart a b d = runs_apart_by (byte_run a) (byte_run b) (λ k j lk lj e. d (omega (arith, lk, lj, e)))

    there : (xs : List ℕ) → AllPairs Differ xs → AllPairs DoesNotOverlap (map byte_run xs)
    there [] h = AllPairs-nil DoesNotOverlap
    there (x ∷ xs) h = AllPairs-cons DoesNotOverlap (byte_run x) (map byte_run xs) (All-map (DoesNotOverlap (byte_run x)) byte_run xs (λ k d m. apart x (get_or xs k d) (AllPairs-head Differ x xs h k d m))) (there xs (AllPairs-tail Differ x xs h))

    differ : (a b : ℕ) → DoesNotOverlap (byte_run a) (byte_run b) → Differ a b
    differ a b h = λ e. by_side a b e (elsewhere (byte_run a) (byte_run b) 0 h (omega arith))
      where
        by_side : (a b : ℕ) → a ≡ b → (a + 0 < b) ⊎ (b + 1 ≤ a + 0) → ⊥
        by_side a b e (inl h) = omega (arith, e, h)
        by_side a b e (inr h) = omega (arith, e, h)

    back : (ys : List ℕ) → AllPairs DoesNotOverlap (map byte_run ys) → AllPairs Differ ys
    back [] h = AllPairs-nil Differ
    back (y ∷ ys) h =
        let first = All-unmap (DoesNotOverlap (byte_run y)) byte_run ys (AllPairs-head DoesNotOverlap (byte_run y) (map byte_run ys) h) in
        AllPairs-cons Differ y ys (λ k d m. differ y (get_or ys k d) (first k d m)) (back ys (AllPairs-tail DoesNotOverlap (byte_run y) (map byte_run ys) h))

pub packed_sorted : (l : Layout) → IsLaidOut l → RelrSlotIsARun → PlacesAreLoaded → OrderDoesNotMatter → AreWhole l → All (λ (a : ℕ). a < 2 ^ 64) (packed_list l) → AllPairs Differ (packed_list l) → IsPermutation (packed_list l) (places (tables_of l).words)
packed_sorted l laid flat law order whole low differ =
    let moved = recorded_sorted l laid in
    let back = IsPermutation-sym (recorded_places l) (packed_list l) moved in
    let same = sym (runs_places l whole) in
    let P : List ℕ → Type 0 = λ xs. All (λ (a : ℕ). a < 2 ^ 64) xs in
    let Q : List ℕ → Type 0 = λ xs. AllPairs (λ (a b : ℕ). a ≢ b) xs in
    let fit = All-permutation (λ (a : ℕ). a < 2 ^ 64) (packed_list l) (recorded_places l) back low in
    let other = differ-order order (packed_list l) (recorded_places l) back differ in
    let found = law (all_runs l) (runs_even l whole) (subst P same fit) (subst Q same other) in
    let found' = subst (λ (xs : List ℕ). IsPermutation xs (places (words_of (all_runs l)))) (sym same) found in
    IsPermutation-trans (packed_list l) (recorded_places l) (places (tables_of l).words) back
    (subst (λ (ws : List ℕ). IsPermutation (recorded_places l) (places ws)) (runs_words flat l) found')
