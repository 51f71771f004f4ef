-- Laws of what a group owns of each part.
use Rattle.wild_image.proofs.Common.{◌≡◌, ℕ, ◌+◌, ◌<◌, inl, inr, ◌==◌, if◌then◌else◌, Bool, true, false, not, ◌&&◌, List, [], ◌∷◌, ◌++◌, length, map, take, set, get_or, refl, sym, ap, ◌∙◌, arith, subst, Option, Some, slice_get, Result, Ok, Err, OnOk, flat_map, flat_map-more, eqb-true, append-nil, nil_from_length, append_assoc, get_or-set_same, get_or-set_other, get_or_default, get_or_from_slice_get, slice_get_within, fill_by_all, Part, InputSection, File, Group, Layout, section_of_part, is_filled, is_header_only_at, is_header_only_part, section_bytes, table_given, front_in}
use Rattle.wild_words.proofs.Basics.{slice_get_inside}
use Rattle.std.proofs.lemmas.Bool.{cases_eq, eq-eqb, ne_eqb}
use Rattle.std.proofs.lemmas.List.{get_or-map, map_more, length-map}
use Rattle.wild_layout.specs.Content.{content}
use Rattle.wild_image.specs.Pieces.{role_of, group_given, in_part, group_owned, group_part, group_parts}

-- bytes behind those of one part, which stand there or nowhere
pub part_taken : (part : ℕ) (bytes : List ℕ) (parts : List (List ℕ)) (d new : List ℕ) → part < length parts → new ≡ get_or parts part d ++ bytes
    → (k : ℕ) → k < length parts → get_or (set parts part new) k [] ≡ get_or parts k [] ++ (if part == k then bytes else [])
part_taken part bytes parts d new inside is k low =
    elim (cases_eq k part) [
      | inl same ↦
          (let t = eq-eqb part part refl in
          let here : get_or parts part d ≡ get_or parts part [] = get_or_default parts part d [] inside in
          rw (same, t) (get_or-set_same parts part new [] inside ∙ is ∙ ap (λ (xs : List ℕ). xs ++ bytes) here))
      | inr other ↦
          (let t = ne_eqb part k (λ e. other (sym e)) in
          rw t (get_or-set_other parts part k new [] other ∙ sym (append-nil (get_or parts k []))))
    ]

-- two, one behind the other
pub both_owned : (f g : ℕ → List ℕ) (base now next : List (List ℕ)) → length now ≡ length base → ((k : ℕ) → k < length base → get_or now k [] ≡ get_or base k [] ++ f k) → ((k : ℕ) → k < length now → get_or next k [] ≡ get_or now k [] ++ g k)
    → (k : ℕ) → k < length base → get_or next k [] ≡ get_or base k [] ++ (f k ++ g k)
both_owned f g base now next long first second k low =
    second k (omega arith) ∙ ap (λ (ys : List ℕ). ys ++ g k) (first k low) ∙ append_assoc (get_or base k []) (f k) (g k)

-- the same, where the second may want memory
pub owned_twice : {T E : Type 0} (r : Result T E) (f g : ℕ → List ℕ) (base now next : List (List ℕ)) → length now ≡ length base → ((k : ℕ) → k < length base → get_or now k [] ≡ get_or base k [] ++ f k)
    → OnOk r ((k : ℕ) → k < length now → get_or next k [] ≡ get_or now k [] ++ g k) → OnOk r ((k : ℕ) → k < length base → get_or next k [] ≡ get_or base k [] ++ (f k ++ g k))
owned_twice (Ok x) f g base now next long first second = both_owned f g base now next long first second
owned_twice (Err e) f g base now next long first second = tt

-- bytes of which there are none stand nowhere
nowhere : (b : Bool) (bs : List ℕ) → length bs ≡ 0 → (if b then bs else []) ≡ []
nowhere true bs z = nil_from_length bs z
nowhere false bs z = refl

empty_by : (none : Bool) → (not none && true) ≡ false → none ≡ true
empty_by true h = refl
empty_by false h = cc

nothing_in : (header_only : Bool) (old : List ℕ) (k part : ℕ) (bs : List ℕ) → (not (length bs == 0) && not header_only) ≡ false → old ≡ old ++ (if header_only then [] else in_part k part bs)
nothing_in true old k part bs h = sym (append-nil old)
nothing_in false old k part bs h = sym (append-nil old) ∙ ap (λ (ys : List ℕ). old ++ ys) (sym (nowhere (part == k) bs (eqb-true (length bs) 0 (empty_by (length bs == 0) h))))

-- nor do those at the front of a part, where there are none or the part is not written
pub front_none : (l : Layout) (parts : List (List ℕ)) (k part : ℕ) (bs : List ℕ) → (not (length bs == 0) && not (is_header_only_part l part)) ≡ false → get_or parts k [] ≡ get_or parts k [] ++ front_in l k part bs
front_none l parts k part bs h = nothing_in (is_header_only_part l part) (get_or parts k []) k part bs h

-- of one that is written they stand there
pub front_written : (l : Layout) (k part : ℕ) (bs : List ℕ) → is_header_only_part l part ≡ false → in_part k part bs ≡ front_in l k part bs
front_written l k part bs written = sym (ap (λ (b : Bool). if b then [] else in_part k part bs) written)

-- one more item's bytes, for an item that a loop read
pub owned_read : {X : Type 0} (f : ℕ → X → List ℕ) (xs : List X) (i : ℕ) (x : X) (base now next : List (List ℕ)) → i < length xs → x ≡ get_or xs i x → length next ≡ length now
    → ((k : ℕ) → k < length now → get_or now k [] ≡ get_or base k [] ++ flat_map (f k) (take i xs)) → ((k : ℕ) → k < length now → get_or next k [] ≡ get_or now k [] ++ f k x)
    → (k : ℕ) → k < length next → get_or next k [] ≡ get_or base k [] ++ flat_map (f k) (take (i + 1) xs)
owned_read {X} f xs i x base now next h read long before step k low =
    let P : X → Type 0 = λ y. get_or next k [] ≡ get_or now k [] ++ f k y in
    subst P read (step k (omega arith)) ∙ ap (λ (ys : List ℕ). ys ++ f k (get_or xs i x)) (before k (omega arith))
    ∙ append_assoc (get_or base k []) (flat_map (f k) (take i xs)) (f k (get_or xs i x))
    ∙ ap (λ (ys : List ℕ). get_or base k [] ++ ys) (sym (flat_map-more (f k) xs i x h))

-- the same, of an item that a loop copied
pub owned_at : {X : Type 0} (f : ℕ → X → List ℕ) (xs items : List X) (i : ℕ) (d : X) (base now next : List (List ℕ)) → items ≡ xs → i < length items → length next ≡ length now
    → ((k : ℕ) → k < length now → get_or now k [] ≡ get_or base k [] ++ flat_map (f k) (take i xs)) → ((k : ℕ) → k < length now → get_or next k [] ≡ get_or now k [] ++ f k (get_or items i d))
    → (k : ℕ) → k < length next → get_or next k [] ≡ get_or base k [] ++ flat_map (f k) (take (i + 1) xs)
owned_at {X} f xs items i d base now next same h long before step =
    let Q : List X → Type 0 = λ ys. i < length ys → ((k : ℕ) → k < length now → get_or next k [] ≡ get_or now k [] ++ f k (get_or ys i d)) → (k : ℕ) → k < length next → get_or next k [] ≡ get_or base k [] ++ flat_map (f k) (take (i + 1) xs) in
    subst Q (sym same) (λ low each. owned_read f xs i (get_or xs i d) base now next low (get_or_default xs i d (get_or xs i d) low) long before each) h step

-- the same, of one list of bytes
pub bytes_read : {X : Type 0} (f : X → List ℕ) (xs : List X) (i : ℕ) (x : X) (base now next : List ℕ) → i < length xs → x ≡ get_or xs i x → now ≡ base ++ flat_map f (take i xs) → next ≡ now ++ f x → next ≡ base ++ flat_map f (take (i + 1) xs)
bytes_read {X} f xs i x base now next h read before step =
    let P : X → Type 0 = λ y. next ≡ now ++ f y in
    subst P read step ∙ ap (λ (ys : List ℕ). ys ++ f (get_or xs i x)) before
    ∙ append_assoc base (flat_map f (take i xs)) (f (get_or xs i x))
    ∙ ap (λ (ys : List ℕ). base ++ ys) (sym (flat_map-more f xs i x h))

-- one more item of a list that a loop makes
pub map_read : {X Y : Type 0} (f : X → Y) (xs : List X) (i : ℕ) (x : X) (now next : List Y) → slice_get xs i ≡ Some x → now ≡ map f (take i xs) → next ≡ now ++ f x ∷ [] → next ≡ map f (take (i + 1) xs)
map_read {X} {Y} f xs i x now next at before step =
    let read = get_or_from_slice_get xs i x x at in
    step ∙ ap (λ (ys : List Y). ys ++ f x ∷ []) before ∙ ap (λ (y : X). map f (take i xs) ++ f y ∷ []) (sym read) ∙ sym (map_more f xs i x (slice_get_within xs i x at))

-- what a group gives to part k
table_at : (l : Layout) (g : Group) (k : ℕ) → k < length l.parts → get_or (map (table_given l g) l.parts) k [] ≡ group_given l k g
table_at l g k low =
    let there = slice_get_inside l.parts k low in
    let p = there.0 in
    get_or-map (table_given l g) l.parts k p [] low
    ∙ ap (table_given l g) (get_or_from_slice_get l.parts k p p there.1)
    ∙ sym (ap (λ (o : Option Part). if is_header_only_at l (section_of_part o) then [] else content l (role_of o) g) there.1)

-- all parts of a group: first what it gives, then what its input sections own
pub parts_are : (l : Layout) (g : Group) (tables parts : List (List ℕ)) → tables ≡ map (table_given l g) l.parts → length parts ≡ length tables → ((k : ℕ) → k < length tables → get_or parts k [] ≡ get_or tables k [] ++ group_owned l k g) → parts ≡ group_parts l g
unfolding group_parts
parts_are l g tables parts given long each =
    let count : length tables ≡ length l.parts = ap length given ∙ length-map l.parts (table_given l g) in
    fill_by_all (group_part l g) parts (length l.parts) [] (long ∙ count) (λ k low.
    each k (omega (arith, low, count)) ∙ ap (λ (ys : List ℕ). ys ++ group_owned l k g) (ap (λ (xs : List (List ℕ)). get_or xs k []) given ∙ table_at l g k low))
