-- The sections of a layout as they stand, group by group and file by file.
use Rattle.wild_geometry.proofs.Common.{kept_size, ◌≡◌, ℕ, zero, suc, ◌<◌, inl, inr, Bool, true, false, List, [], ◌∷◌, ◌++◌, length, get_or, refl, sym, ap, ◌∙◌, arith, subst, All, Contains, if◌then◌else◌, map, All-contains, Contains-append_left, Contains-append_right, Contains-here, Contains-there, flat_map-same, flat_map-flat_map, InputSection, File, Group, Layout, is_epilogue, with_word_order, Input, placed_file, placed_from, placed_files, file_frames, frames_at, address_after, sorted_inputs, sorted_sections, of_last_file, processed_sections, placed_section, placed_sections, Contains-flat_map, Own, Ordered, IsPlacedSection}
use Rattle.std.specs.List.{flat_map}
use Rattle.std.proofs.lemmas.List.Elements.{Contains-append_cases}
use Rattle.wild_words.proofs.Basics.{Contains-map, Contains-from_flat_map}
use Rattle.wild_layout.specs.Geometry.{EachSection}
use Rattle.wild_geometry.specs.PlacedSections.{IsSectionOfFile}

-- ---- files

-- what is made of files without their sections
pub placed_files_same : {Y : Type 0} (make : File → List Y) (l : Layout) (g : Group) → ((at : ℕ) (f : File) → make (placed_file l at f) ≡ make f) → flat_map make (placed_files l g) ≡ flat_map make g.files
unfolding placed_files
placed_files_same make l g each = from make l (frames_at l g) g.files each
  where
    from : {Y : Type 0} (make : File → List Y) (l : Layout) (at : ℕ) (fs : List File) → ((at : ℕ) (f : File) → make (placed_file l at f) ≡ make f) → flat_map make (placed_from l at fs) ≡ flat_map make fs
    from make l at [] each = refl
    from make l at (f ∷ fs) each = ap (λ ys. ys ++ flat_map make (placed_from l (address_after at (file_frames l f)) fs)) (each at f) ∙ ap (λ ys. make f ++ ys) (from make l (address_after at (file_frames l f)) fs each)

-- in all groups
pub placed_files_same_all : {Y : Type 0} (make : File → List Y) (l : Layout) → ((at : ℕ) (f : File) → make (placed_file l at f) ≡ make f) → flat_map (λ (g : Group). flat_map make (placed_files l g)) l.groups ≡ flat_map (λ (g : Group). flat_map make g.files) l.groups
placed_files_same_all make l each = flat_map-same (λ (g : Group). flat_map make (placed_files l g)) (λ (g : Group). flat_map make g.files) l.groups (λ g. placed_files_same make l g each)

-- a file of a group stands among those that do
pub placed_file_of : (l : Layout) (g : Group) (f : File) → Contains g.files f → (at : ℕ) × Contains (placed_files l g) (placed_file l at f)
unfolding placed_files
placed_file_of l g f c = from l (frames_at l g) g.files f c
  where
    from : (l : Layout) (at : ℕ) (fs : List File) (f : File) → Contains fs f → (a : ℕ) × Contains (placed_from l at fs) (placed_file l a f)
    from l at [] f c = absurd (omega (arith, c.1))
    from l at (g ∷ gs) f c = there l at g gs f c.0 c.1 c.2 (λ c'. from l (address_after at (file_frames l g)) gs f c')
      where
        there : (l : Layout) (at : ℕ) (g : File) (gs : List File) (f : File) (k : ℕ) → k < length (g ∷ gs) → get_or (g ∷ gs) k f ≡ f → (Contains gs f → (a : ℕ) × Contains (placed_from l (address_after at (file_frames l g)) gs) (placed_file l a f)) → (a : ℕ) × Contains (placed_from l at (g ∷ gs)) (placed_file l a f)
        there l at g gs f zero lt e again = (at, subst (λ (x : File). Contains (placed_file l at g ∷ placed_from l (address_after at (file_frames l g)) gs) (placed_file l at x)) e (Contains-here (placed_file l at g) (placed_from l (address_after at (file_frames l g)) gs)))
        there l at g gs f (suc k) lt e again = (let r = again (k, omega (arith, lt), e) in (r.0, Contains-there (placed_file l r.0 f) (placed_file l at g) (placed_from l (address_after at (file_frames l g)) gs) r.1))

-- a section of a file stands among those that do
pub placed_section_in : (l : Layout) (f : File) (at : ℕ) (ss : List InputSection) (s : InputSection) → Contains ss s → (a : ℕ) × Contains (placed_sections l f at ss) (placed_section l f a s)
placed_section_in l f at [] s c = absurd (omega (arith, c.1))
placed_section_in l f at (t ∷ ts) s c = there l f at t ts s c.0 c.1 c.2 (λ c'. placed_section_in l f (address_after at (kept_size l f t)) ts s c')
  where
    there : (l : Layout) (f : File) (at : ℕ) (t : InputSection) (ts : List InputSection) (s : InputSection) (k : ℕ) → k < length (t ∷ ts) → get_or (t ∷ ts) k s ≡ s → (Contains ts s → (a : ℕ) × Contains (placed_sections l f (address_after at (kept_size l f t)) ts) (placed_section l f a s)) → (a : ℕ) × Contains (placed_sections l f at (t ∷ ts)) (placed_section l f a s)
    there l f at t ts s zero lt e again = (at, subst (λ (x : InputSection). Contains (placed_section l f at t ∷ placed_sections l f (address_after at (kept_size l f t)) ts) (placed_section l f at x)) e (Contains-here (placed_section l f at t) (placed_sections l f (address_after at (kept_size l f t)) ts)))
    there l f at t ts s (suc k) lt e again = (let r = again (k, omega (arith, lt), e) in (r.0, Contains-there (placed_section l f r.0 s) (placed_section l f at t) (placed_sections l f (address_after at (kept_size l f t)) ts) r.1))

-- ---- sections

-- the sections of a group, and of all, in order
abbrev pub sections_of : Layout → Group → List InputSection
sections_of l g = flat_map (processed_sections l) (placed_files l g)

abbrev pub all_sections : Layout → List InputSection
all_sections l = flat_map (sections_of l) l.groups

-- what is made of all sections is made group by group and file by file
pub by_files : {Y : Type 0} (h : InputSection → List Y) (l : Layout) → flat_map h (all_sections l) ≡ flat_map (λ (g : Group). flat_map (λ (f : File). flat_map h (processed_sections l f)) (placed_files l g)) l.groups
by_files h l = flat_map-flat_map h (sections_of l) l.groups ∙ flat_map-same (λ (g : Group). flat_map h (sections_of l g)) (λ (g : Group). flat_map (λ (f : File). flat_map h (processed_sections l f)) (placed_files l g)) l.groups (λ g. flat_map-flat_map h (processed_sections l) (placed_files l g))

-- a section of a file as it stands
pub in_processed : (l : Layout) (f owner : File) (s : InputSection) → IsSectionOfFile l f owner s → Contains (processed_sections l f) s
in_processed l f owner s (Own e c) = Contains-append_left f.sections (of_last_file f (sorted_sections l)) s c
in_processed l f owner s (Ordered last x c e i) =
    let one : Contains (sorted_sections l) s = subst (λ (t : InputSection). Contains (sorted_sections l) t) (sym i) (Contains-map (λ (y : Input). with_word_order y.section) (sorted_inputs l) x c) in
    Contains-append_right f.sections (of_last_file f (sorted_sections l)) s (subst (λ (b : Bool). Contains (if b then sorted_sections l else []) s) (sym last) one)

-- what a list was made of
pub Contains-from_map : {X Y : Type 0} (f : X → Y) (xs : List X) (y : Y) → Contains (map f xs) y → (x : X) × Contains xs x × (y ≡ f x)
Contains-from_map f [] y c = absurd (omega (arith, c.1))
Contains-from_map f (x ∷ xs) y c = at f x xs y c.0 c.1 c.2 (λ c'. Contains-from_map f xs y c')
  where
    at : {X Y : Type 0} (f : X → Y) (x : X) (xs : List X) (y : Y) (k : ℕ) → k < length (map f (x ∷ xs)) → get_or (map f (x ∷ xs)) k y ≡ y → (Contains (map f xs) y → (z : X) × Contains xs z × (y ≡ f z)) → (z : X) × Contains (x ∷ xs) z × (y ≡ f z)
    at f x xs y zero l e again = (x, Contains-here x xs, sym e)
    at f x xs y (suc k) l e again = (let r = again (k, omega (arith, l), e) in (r.0, Contains-there r.0 x xs r.1, r.2))

pub of_processed : (l : Layout) (f : File) (s : InputSection) → Contains (processed_sections l f) s → (owner : File) × IsSectionOfFile l f owner s
of_processed l f s c =
    elim (Contains-append_cases f.sections (of_last_file f (sorted_sections l)) s c) [
      | inl own ↦ (f, Own refl own)
      | inr last ↦ by_role (is_epilogue f.role) refl last
    ]
  where
    by_role : (b : Bool) → is_epilogue f.role ≡ b → Contains (if b then sorted_sections l else []) s → (owner : File) × IsSectionOfFile l f owner s
    by_role false e c = absurd (omega (arith, c.1))
    by_role true e c = (let x = Contains-from_map (λ (y : Input). with_word_order y.section) (sorted_inputs l) s c in (x.0.file, Ordered e x.0 x.1 refl x.2))

-- what holds of each section
pub each_at : (P : InputSection → Type 0) (l : Layout) (s : InputSection) → EachSection l P → IsPlacedSection l s → P s
each_at P l s h k =
    All-contains P (processed_sections l k.file) s (All-contains (λ (f : File). All P (processed_sections l f)) (placed_files l k.group) k.file (All-contains (λ (g : Group). All (λ (f : File). All P (processed_sections l f)) (placed_files l g)) l.groups k.group h k.grouped) k.filed) (in_processed l k.file k.owner s k.listed)

-- a section is among all
pub listed_section : (l : Layout) (s : InputSection) → IsPlacedSection l s → Contains (all_sections l) s
listed_section l s k = Contains-flat_map (sections_of l) l.groups k.group s k.grouped (Contains-flat_map (processed_sections l) (placed_files l k.group) k.file s k.filed (in_processed l k.file k.owner s k.listed))

pub input_of : (l : Layout) (s : InputSection) → Contains (all_sections l) s → IsPlacedSection l s
input_of l s c =
    let g = Contains-from_flat_map (sections_of l) l.groups s c in
    let f = Contains-from_flat_map (processed_sections l) (placed_files l g.0) s g.2 in
    let o = of_processed l f.0 s f.2 in
    record { group = g.0; grouped = g.1; file = f.0; filed = f.1; owner = o.0; listed = o.1 }
