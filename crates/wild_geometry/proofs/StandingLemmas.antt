-- The input sections that stand in the ranges of files: each file's own, and the sorted ones behind those of the last file.
use Rattle.wild_geometry.proofs.Common.{◌≡◌, ℕ, Bool, true, false, if◌then◌else◌, List, [], map, get_or, All, Option, Some, None, slice_get, flat_map, refl, All-nil, All-cons, All-append, All-map, All-flat_map, All-from_flat_map, holds_at, Slot, InputSection, File, Group, SortedSection, Layout, is_epilogue, is_loaded, Input, as_loaded, unread, sorted_by, sorted_in_file, sorted_in_group, files_at, sorted_input, sorted_inputs, of_last_file, sections_in_ranges}
use Rattle.wild_types.specs.declared.input.Slot.TheVariants as slot
use Rattle.wild_geometry.proofs.RunLemmas.{sections_in}

-- the input sections, in the order of processing
abbrev pub all_sections : Layout → List InputSection
all_sections l = flat_map (sections_in l) l.groups

-- each input section of the plan
abbrev pub EachInput : Layout → (InputSection → Type 0) → Type 0
EachInput l P = All (λ (g : Group). All (λ (f : File). All P f.sections) g.files) l.groups

-- each, with its file
abbrev pub EachIn : Layout → (File → InputSection → Type 0) → Type 0
EachIn l P = All (λ (g : Group). All (λ (f : File). All (P f) f.sections) g.files) l.groups

-- each that stands in the range of a file
abbrev pub EachStanding : Layout → (File → InputSection → Type 0) → Type 0
EachStanding l P = All (λ (g : Group). All (λ (f : File). All (P f) (sections_in_ranges l f)) g.files) l.groups

-- what holds of a sorted section holds of it as a loaded one
abbrev pub AsLoaded : Layout → (P Q : InputSection → Type 0) → Type 0
AsLoaded l P Q = (s : InputSection) → s.slot ≡ slot.Sorted → P s → Q (as_loaded (unread l s))

-- ---- sorted sections

of_slot : (l : Layout) (P Q : InputSection → Type 0) → AsLoaded l P Q → (f : File) (s : InputSection) → P s → (k : Slot) → s.slot ≡ k → All (λ (x : Input). Q x.section) (sorted_by l f k s)
of_slot l P Q loads f s p slot.Sorted e = All-cons (λ (x : Input). Q x.section) (record { file = f; section = as_loaded (unread l s) }) [] (loads s e p) (All-nil (λ (x : Input). Q x.section))
of_slot l P Q loads f s p other e = All-nil (λ (x : Input). Q x.section)

of_section : (l : Layout) (P Q : InputSection → Type 0) → AsLoaded l P Q → (f : File) (k : ℕ) → All P f.sections → (o : Option InputSection) → slice_get f.sections k ≡ o → All (λ (x : Input). Q x.section) (sorted_in_file l f o)
of_section l P Q loads f k h None is = All-nil (λ (x : Input). Q x.section)
of_section l P Q loads f k h (Some s) is = of_slot l P Q loads f s (holds_at P f.sections k s is h) s.slot refl

of_file : (l : Layout) (P Q : InputSection → Type 0) → AsLoaded l P Q → (fs : List File) (i k : ℕ) → All (λ (f : File). All P f.sections) fs → (o : Option File) → slice_get fs i ≡ o → All (λ (x : Input). Q x.section) (sorted_in_group l o k)
of_file l P Q loads fs i k h None is = All-nil (λ (x : Input). Q x.section)
of_file l P Q loads fs i k h (Some f) is = of_section l P Q loads f k (holds_at (λ (f : File). All P f.sections) fs i f is h) (slice_get f.sections k) refl

in_files : (l : Layout) (P : InputSection → Type 0) → EachInput l P → (i : ℕ) (o : Option Group) → slice_get l.groups i ≡ o → All (λ (f : File). All P f.sections) (files_at o)
in_files l P h i None is = All-nil (λ (f : File). All P f.sections)
in_files l P h i (Some g) is = holds_at (λ (g : Group). All (λ (f : File). All P f.sections) g.files) l.groups i g is h

entry_holds : (l : Layout) (P Q : InputSection → Type 0) → EachInput l P → AsLoaded l P Q → (x : SortedSection) → All (λ (x : Input). Q x.section) (sorted_input l x)
unfolding sorted_input
entry_holds l P Q h loads x =
    let fs = files_at (slice_get l.groups x.group) in
    of_file l P Q loads fs x.file x.section (in_files l P h x.group (slice_get l.groups x.group) refl) (slice_get fs x.file) refl

pub sorted_holds : (l : Layout) (P Q : InputSection → Type 0) → EachInput l P → AsLoaded l P Q → All (λ (x : Input). Q x.section) (sorted_inputs l)
sorted_holds l P Q h loads = All-flat_map (λ (x : Input). Q x.section) (sorted_input l) l.sorted (λ i x m. entry_holds l P Q h loads (get_or l.sorted i x))

-- a sorted section stands as a loaded one
pub sorted_loaded : (l : Layout) → All (λ (x : Input). is_loaded x.section.slot ≡ true) (sorted_inputs l)
sorted_loaded l = sorted_holds l (λ s. Unit {0}) (λ s. is_loaded s.slot ≡ true) (λ i g m j f n k s o. tt) (λ s e p. refl)

-- ---- all that stand

if_last : (P : InputSection → Type 0) (last : Bool) (ss : List InputSection) → All P ss → All P (if last then ss else [])
if_last P true ss h = h
if_last P false ss h = All-nil P

standing_holds : (l : Layout) (P : InputSection → Type 0) → EachInput l P → AsLoaded l P P → (f : File) → All P f.sections → All P (sections_in_ranges l f)
standing_holds l P each loads f own =
    let sorted = All-map P (λ (x : Input). x.section) (sorted_inputs l) (sorted_holds l P P each loads) in
    All-append P f.sections (of_last_file f (map (λ (x : Input). x.section) (sorted_inputs l))) own (if_last P (is_epilogue f.role) (map (λ (x : Input). x.section) (sorted_inputs l)) sorted)

pub all_standing : (l : Layout) (P : InputSection → Type 0) → EachInput l P → AsLoaded l P P → All P (all_sections l)
all_standing l P h loads =
    All-flat_map P (sections_in l) l.groups (λ i g m.
    All-flat_map P (sections_in_ranges l) (get_or l.groups i g).files (λ j f n. standing_holds l P h loads (get_or (get_or l.groups i g).files j f) (h i g m j f n)))

pub EachStanding-from_all : (l : Layout) (P : InputSection → Type 0) → All P (all_sections l) → EachStanding l (λ f. P)
EachStanding-from_all l P a = λ i g m. All-from_flat_map P (sections_in_ranges l) (get_or l.groups i g).files (All-from_flat_map P (sections_in l) l.groups a i g m)

-- what holds of the files' own sections, and of each loaded one, holds of all that stand
pub EachStanding-from_own : (l : Layout) (P : File → InputSection → Type 0) → EachIn l P → ((f : File) (s : InputSection) → is_loaded s.slot ≡ true → P f s) → EachStanding l P
EachStanding-from_own l P own loads = λ i g m j f n.
    let x = get_or (get_or l.groups i g).files j f in
    let sorted = All-map (P x) (λ (y : Input). y.section) (sorted_inputs l) (λ k y o. loads x (get_or (sorted_inputs l) k y).section (sorted_loaded l k y o)) in
    All-append (P x) x.sections (of_last_file x (map (λ (y : Input). y.section) (sorted_inputs l))) (own i g m j f n) (if_last (P x) (is_epilogue x.role) (map (λ (y : Input). y.section) (sorted_inputs l)) sorted)
