-- Laws of an exchange of contents.
use Rattle.std.proofs.Common.{◌≡◌, ℕ, zero, suc, List, [], ◌∷◌, length, set, get_or, ◌<◌, ◌≤◌, refl, ap, sym, ◌∙◌, arith}
use Rattle.std.specs.Prelude.{Option, Some, slice_get, option_and_then, is_some, true}
use Rattle.wild_types.specs.declared.input.InputSection.{InputSection}
use Rattle.wild_types.specs.declared.file.File.{File}
use Rattle.wild_types.specs.declared.file.Group.{Group}
use Rattle.wild_types.specs.declared.layout.Layout.{Layout}
use Rattle.wild_change.specs.declared.change.Change.{Change}
use Rattle.wild_change.specs.Change.{with_item, changed_section, changed_file, changed_group, changed_layout, section_in_file, section_in_group}
use Rattle.wild_relinker.specs.Find.{section_at, with_contents_of}

-- a list with item i set to f of it
pub with_item_set : {X : Type 0} (f : X → X) (xs : List X) (i : ℕ) (d : X) → i < length xs → set xs i (f (get_or xs i d)) ≡ with_item f i xs
with_item_set f [] i d low = absurd (omega (arith, low))
with_item_set f (x ∷ xs) zero d low = refl
with_item_set {X} f (x ∷ xs) (suc i) d low = ap (λ (ys : List X). x ∷ ys) (with_item_set f xs i d (omega (arith, low)))

-- the same for an item that was read and written
pub written_item : {X : Type 0} (f : X → X) (xs : List X) (i : ℕ) (old new : X) → i < length xs → old ≡ get_or xs i old → new ≡ f old → set xs i new ≡ with_item f i xs
written_item {X} f xs i old new low read write =
    ap (set xs i) (write ∙ ap f read) ∙ with_item_set f xs i old low

-- a list without item i
pub with_item-past : {X : Type 0} (f : X → X) (xs : List X) (i : ℕ) → length xs ≤ i → with_item f i xs ≡ xs
with_item-past f [] i past = refl
with_item-past f (x ∷ xs) zero past = absurd (omega (arith, past))
with_item-past {X} f (x ∷ xs) (suc i) past = ap (λ (ys : List X). x ∷ ys) (with_item-past f xs i (omega (arith, past)))

-- an item that is there has a place in the list
pub is_within : {X : Type 0} (xs : List X) (i : ℕ) → is_some (slice_get xs i) ≡ true → i < length xs
is_within [] i h = cc
is_within (x ∷ xs) zero h = omega arith
is_within (x ∷ xs) (suc i) h = let r = is_within xs i h in omega (arith, r)

-- what is found in an item: the item is there, and has it
pub found_within : {X Y : Type 0} (f : X → Option Y) (xs : List X) (i : ℕ) → is_some (option_and_then f (slice_get xs i)) ≡ true → i < length xs
found_within f [] i h = cc
found_within f (x ∷ xs) zero h = omega arith
found_within f (x ∷ xs) (suc i) h = let r = found_within f xs i h in omega (arith, r)

pub read_inside : {X Y : Type 0} (f : X → Option Y) (xs : List X) (i : ℕ) (d : X) (y : Y) → option_and_then f (slice_get xs i) ≡ Some y → f (get_or xs i d) ≡ Some y
read_inside f [] i d y h = cc
read_inside f (x ∷ xs) zero d y h = h
read_inside f (x ∷ xs) (suc i) d y h = read_inside f xs i d y h

pub read_item : {X : Type 0} (xs : List X) (i : ℕ) (d y : X) → slice_get xs i ≡ Some y → get_or xs i d ≡ y
read_item [] i d y h = cc
read_item (x ∷ xs) zero d y h = cc
read_item (x ∷ xs) (suc i) d y h = read_item xs i d y h

-- an item changed, and changed back
pub with_item_twice : {X : Type 0} (f g : X → X) (i : ℕ) (xs : List X) → ((x : X) → slice_get xs i ≡ Some x → g (f x) ≡ x) → with_item g i (with_item f i xs) ≡ xs
with_item_twice f g i [] back = refl
with_item_twice {X} f g zero (x ∷ xs) back = ap (λ (y : X). y ∷ xs) (back x refl)
with_item_twice {X} f g (suc i) (x ∷ xs) back = ap (λ (ys : List X). x ∷ ys) (with_item_twice f g i xs back)

file_back : (c : Change) (f : File) (s : InputSection) → section_in_file c f ≡ Some s → changed_file (with_contents_of s c) (changed_file c f) ≡ f
file_back c f s found = ap (λ (ss : List InputSection). record f { sections = ss }) (with_item_twice (changed_section c) (changed_section (with_contents_of s c)) c.section f.sections (λ t at. (let same : t ≡ s = cc in rw same refl)))

group_back : (c : Change) (g : Group) (s : InputSection) → section_in_group c g ≡ Some s → changed_group (with_contents_of s c) (changed_group c g) ≡ g
group_back c g s found = ap (λ (fs : List File). record g { files = fs }) (with_item_twice (changed_file c) (changed_file (with_contents_of s c)) c.file g.files (λ f at. file_back c f s (sym (ap (option_and_then (section_in_file c)) at) ∙ found)))

-- exchanged twice, the layout is as before
pub changed_back : (l : Layout) (c : Change) (s : InputSection) → section_at l c ≡ Some s → changed_layout (changed_layout l c) (with_contents_of s c) ≡ l
changed_back l c s found = ap (λ (gs : List Group). record l { groups = gs }) (with_item_twice (changed_group c) (changed_group (with_contents_of s c)) c.group l.groups (λ g at. group_back c g s (sym (ap (option_and_then (section_in_group c)) at) ∙ found)))

pub swapped_back : (l : Layout) (c : Change) (s : InputSection) (m : Layout) (d : Change) → section_at l c ≡ Some s → m ≡ changed_layout l c → d ≡ with_contents_of s c → changed_layout m d ≡ l
swapped_back l c s m d found e u = rw (e, u) (changed_back l c s found)
