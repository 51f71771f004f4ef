-- Files whose sections are as they stand, beside the files of the plan.
use Rattle.std.proofs.Common.{◌≡◌, ℕ, ◌+◌, ◌^◌, ◌<◌, ◌≤◌, Bool, List, [], ◌∷◌, ◌++◌, length, All, flat_map, refl, ap, ◌∙◌, arith}
use Rattle.std.specs.Prelude.{◌||◌, map}
use Rattle.std.specs.List.{list_any}
use Rattle.std.proofs.lemmas.List.Elements.{All-nil, All-cons, All-head, All-tail}
use Rattle.wild_types.specs.declared.input.InputSection.{InputSection}
use Rattle.wild_types.specs.declared.file.File.{File}
use Rattle.wild_types.specs.declared.file.Group.{Group}
use Rattle.wild_types.specs.declared.layout.Layout.{Layout}
use Rattle.wild_types.specs.Lists.{total}
use Rattle.wild_placement.specs.FrameInputs.{kept_size}
use Rattle.wild_placement.specs.PlacedSections.{placed_section, address_after, placed_sections, placed_file, file_frames, placed_from, frames_at, placed_files}

-- ---- what reads no section is the same of both

-- a function of files that gives the same of a file wherever its sections stand
abbrev pub ReadsNoSection : {X : Type 0} → Layout → (File → X) → Type 0
ReadsNoSection l F = (at : ℕ) (f : File) → F (placed_file l at f) ≡ F f

pub map_from : {X : Type 0} (l : Layout) (F : File → X) (at : ℕ) (fs : List File) → ReadsNoSection l F → map F (placed_from l at fs) ≡ map F fs
map_from l F at [] h = refl
map_from l F at (f ∷ fs) h = ap (λ xs. F (placed_file l at f) ∷ xs) (map_from l F (address_after at (file_frames l f)) fs h) ∙ ap (λ x. x ∷ map F fs) (h at f)

pub joined_from : {X : Type 0} (l : Layout) (F : File → List X) (at : ℕ) (fs : List File) → ReadsNoSection l F → flat_map F (placed_from l at fs) ≡ flat_map F fs
joined_from l F at [] h = refl
joined_from l F at (f ∷ fs) h = ap (λ xs. F (placed_file l at f) ++ xs) (joined_from l F (address_after at (file_frames l f)) fs h) ∙ ap (λ x. x ++ flat_map F fs) (h at f)

pub total_from : (l : Layout) (F : File → ℕ) (at : ℕ) (fs : List File) → ReadsNoSection l F → total F (placed_from l at fs) ≡ total F fs
total_from l F at [] h = refl
total_from l F at (f ∷ fs) h =
    let a = h at f in
    let b = total_from l F (address_after at (file_frames l f)) fs h in
    omega arith

pub any_from : (l : Layout) (F : File → Bool) (at : ℕ) (fs : List File) → ReadsNoSection l F → list_any F (placed_from l at fs) ≡ list_any F fs
any_from l F at [] h = refl
any_from l F at (f ∷ fs) h = ap (λ b. F (placed_file l at f) || b) (any_from l F (address_after at (file_frames l f)) fs h) ∙ ap (λ b. b || list_any F fs) (h at f)

pub length_from : (l : Layout) (at : ℕ) (fs : List File) → length (placed_from l at fs) ≡ length fs
length_from l at [] = refl
length_from l at (f ∷ fs) = let a = length_from l (address_after at (file_frames l f)) fs in omega arith

-- the same of the files of a group
pub placed_files_same : {X : Type 0} (l : Layout) (F : File → List X) (g : Group) → ReadsNoSection l F → flat_map F (placed_files l g) ≡ flat_map F g.files
unfolding placed_files
placed_files_same l F g h = joined_from l F (frames_at l g) g.files h

pub placed_files_total : (l : Layout) (F : File → ℕ) (g : Group) → ReadsNoSection l F → total F (placed_files l g) ≡ total F g.files
unfolding placed_files
placed_files_total l F g h = total_from l F (frames_at l g) g.files h

pub placed_files_any : (l : Layout) (F : File → Bool) (g : Group) → ReadsNoSection l F → list_any F (placed_files l g) ≡ list_any F g.files
unfolding placed_files
placed_files_any l F g h = any_from l F (frames_at l g) g.files h

pub length-placed_files : (l : Layout) (g : Group) → length (placed_files l g) ≡ length g.files
unfolding placed_files
length-placed_files l g = length_from l (frames_at l g) g.files

-- ---- what holds of files and sections wherever they stand

pub All-from : (l : Layout) (P : File → Type 0) (at : ℕ) (fs : List File) → All (λ f. (a : ℕ) → P (placed_file l a f)) fs → All P (placed_from l at fs)
All-from l P at [] h = All-nil P
All-from l P at (f ∷ fs) h =
    let Q : File → Type 0 = λ x. (a : ℕ) → P (placed_file l a x) in
    All-cons P (placed_file l at f) (placed_from l (address_after at (file_frames l f)) fs) (All-head Q f fs h at) (All-from l P (address_after at (file_frames l f)) fs (All-tail Q f fs h))

pub All-placed_files : (l : Layout) (P : File → Type 0) (g : Group) → All (λ f. (a : ℕ) → P (placed_file l a f)) g.files → All P (placed_files l g)
unfolding placed_files
All-placed_files l P g h = All-from l P (frames_at l g) g.files h

pub All-sections : (l : Layout) (f : File) (P : InputSection → Type 0) (at : ℕ) (ss : List InputSection) → All (λ s. (a : ℕ) → P (placed_section l f a s)) ss → All P (placed_sections l f at ss)
All-sections l f P at [] h = All-nil P
All-sections l f P at (s ∷ ss) h =
    let Q : InputSection → Type 0 = λ x. (a : ℕ) → P (placed_section l f a x) in
    All-cons P (placed_section l f at s) (placed_sections l f (address_after at (kept_size l f s)) ss) (All-head Q s ss h at) (All-sections l f P (address_after at (kept_size l f s)) ss (All-tail Q s ss h))

-- what one function gives of the plan's and another of those that stand
pub joined_sections : {X : Type 0} (l : Layout) (f : File) (F G : InputSection → List X) (at : ℕ) (ss : List InputSection) → All (λ s. (a : ℕ) → F s ≡ G (placed_section l f a s)) ss → flat_map F ss ≡ flat_map G (placed_sections l f at ss)
joined_sections l f F G at [] h = refl
joined_sections {X} l f F G at (s ∷ ss) h =
    let Q : InputSection → Type 0 = λ x. (a : ℕ) → F x ≡ G (placed_section l f a x) in
    let here : F s ≡ G (placed_section l f at s) = All-head Q s ss h at in
    ap (λ (xs : List X). xs ++ flat_map F ss) here ∙ ap (λ (xs : List X). G (placed_section l f at s) ++ xs) (joined_sections l f F G (address_after at (kept_size l f s)) ss (All-tail Q s ss h))

pub joined_files : {X : Type 0} (l : Layout) (F G : File → List X) (at : ℕ) (fs : List File) → All (λ f. (a : ℕ) → F f ≡ G (placed_file l a f)) fs → flat_map F fs ≡ flat_map G (placed_from l at fs)
joined_files l F G at [] h = refl
joined_files {X} l F G at (f ∷ fs) h =
    let Q : File → Type 0 = λ x. (a : ℕ) → F x ≡ G (placed_file l a x) in
    let here : F f ≡ G (placed_file l at f) = All-head Q f fs h at in
    ap (λ (xs : List X). xs ++ flat_map F fs) here ∙ ap (λ (xs : List X). G (placed_file l at f) ++ xs) (joined_files l F G (address_after at (file_frames l f)) fs (All-tail Q f fs h))

pub joined_placed_files : {X : Type 0} (l : Layout) (F G : File → List X) (g : Group) → All (λ f. (a : ℕ) → F f ≡ G (placed_file l a f)) g.files → flat_map F g.files ≡ flat_map G (placed_files l g)
unfolding placed_files
joined_placed_files l F G g h = joined_files l F G (frames_at l g) g.files h

-- ---- frames that stand below 2^64, one behind the other

behind_low : (at n limit : ℕ) → at + n ≤ limit → limit < 2 ^ 64 → address_after at n ≡ at + n
behind_low at n limit h low = omega arith

-- what holds of sections that stand below a limit
pub All-low_sections : (l : Layout) (f : File) (P : InputSection → Type 0) (limit at : ℕ) (ss : List InputSection) → limit < 2 ^ 64 → at + total (kept_size l f) ss ≤ limit → All (λ s. (a : ℕ) → a + kept_size l f s ≤ limit → P (placed_section l f a s)) ss → All P (placed_sections l f at ss)
All-low_sections l f P limit at [] low ends h = All-nil P
All-low_sections l f P limit at (s ∷ ss) low ends h =
    let Q : InputSection → Type 0 = λ x. (a : ℕ) → a + kept_size l f x ≤ limit → P (placed_section l f a x) in
    let next = behind_low at (kept_size l f s) limit (omega arith) low in
    All-cons P (placed_section l f at s) (placed_sections l f (address_after at (kept_size l f s)) ss) (All-head Q s ss h at (omega arith)) (All-low_sections l f P limit (address_after at (kept_size l f s)) ss low (omega arith) (All-tail Q s ss h))

-- and of files
pub All-low_files : (l : Layout) (P : File → Type 0) (limit at : ℕ) (fs : List File) → limit < 2 ^ 64 → at + total (file_frames l) fs ≤ limit → All (λ f. (a : ℕ) → a + file_frames l f ≤ limit → P (placed_file l a f)) fs → All P (placed_from l at fs)
All-low_files l P limit at [] low ends h = All-nil P
All-low_files l P limit at (f ∷ fs) low ends h =
    let Q : File → Type 0 = λ x. (a : ℕ) → a + file_frames l x ≤ limit → P (placed_file l a x) in
    let next = behind_low at (file_frames l f) limit (omega arith) low in
    All-cons P (placed_file l at f) (placed_from l (address_after at (file_frames l f)) fs) (All-head Q f fs h at (omega arith)) (All-low_files l P limit (address_after at (file_frames l f)) fs low (omega arith) (All-tail Q f fs h))
