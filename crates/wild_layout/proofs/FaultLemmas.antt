-- What holds where there are no faults.
use Rattle.std.proofs.Common.{◌≡◌, ℕ, ◌+◌, Bool, true, false, if◌then◌else◌, List, [], ◌∷◌, ◌++◌, Option, Some, None, Result, Ok, Err, refl}
use Rattle.std.specs.Prelude.{All}
use Rattle.std.specs.List.{flat_map}
use Rattle.std.proofs.lemmas.List.Elements.{All-nil, All-cons}
use Rattle.wild_words.proofs.Basics.{All-from_nothing}
use Rattle.wild_types.specs.declared.fault.At.{At}
use Rattle.wild_types.specs.declared.fault.Clause.{Clause}
use Rattle.wild_types.specs.declared.fault.Error.{Error}
use Rattle.wild_types.specs.declared.fault.Fault.{Fault}
use Rattle.wild_slot.specs.declared.slot.SlotFault.{SlotFault}
use Rattle.wild_types.specs.declared.symbol.Symbol.{Symbol}
use Rattle.wild_types.specs.declared.file.File.{File}
use Rattle.wild_types.specs.declared.file.Group.{Group}
use Rattle.wild_types.specs.declared.layout.Layout.{Layout}
use Rattle.wild_types.specs.declared.layout.Thunk.{Thunk}
use Rattle.wild_types.specs.FileSymbols.{copies_of, own_symbols}
use Rattle.wild_types.specs.FileThunks.{thunks_of}
use Rattle.wild_types.specs.HeaderOnly.{is_header_only_role, KeepsAll}
use Rattle.wild_types.specs.Lookups.{is_header_only_part}
use Rattle.wild_types.proofs.LookupLemmas.{not_hollow_role, not_hollow_part}
use Rattle.wild_slot.specs.SymbolWords.{slots_of}
use Rattle.wild_plan_rules.specs.WellFormed.{first_clause}
use Rattle.wild_placement.specs.PlacedSections.{file_frames, frames_at, address_after, of_last_file}
use Rattle.wild_layout.specs.SymbolValues.{raw_address}
use Rattle.wild_layout.specs.SlotValues.{index_of}
use Rattle.wild_layout.specs.Thunks.{thunk_fault}
use Rattle.wild_layout.specs.Faults.{flat_map_from, clause_errors, overlap_errors, sections_errors, sorted_errors, first_errors, files_errors, at_file, slot_refusal, slot_role, symbol_errors, slot_errors, copy_fault, fault_errors, copy_errors, thunk_error, thunk_errors, entry_errors, file_errors, exported_errors, table_errors, group_errors, errors, part_errors}
use Rattle.wild_layout.specs.Geometry.{IsLaidOut, LayoutsAreLaidOut}

pub clause_holds : (r : Result (Unit {0}) Clause) → clause_errors r ≡ [] → r ≡ Ok tt
clause_holds (Ok x) h = refl
clause_holds (Err c) h = cc

pub no_overlap : (at : At) (o : Option ℕ) → overlap_errors at o ≡ [] → o ≡ None
no_overlap at None h = refl
no_overlap at (Some k) h = cc

-- ---- lists of faults

pub first_empty : {X : Type 0} (xs ys : List X) → xs ++ ys ≡ [] → xs ≡ []
first_empty [] ys h = refl
first_empty (x ∷ xs) ys h = cc

pub rest_empty : {X : Type 0} (xs ys : List X) → xs ++ ys ≡ [] → ys ≡ []
rest_empty [] ys h = h
rest_empty (x ∷ xs) ys h = cc

-- what is written has its faults
of_written : {X : Type 0} (b : Bool) (xs : List X) → b ≡ false → (if b then [] else xs) ≡ [] → xs ≡ []
of_written true xs n h = cc
of_written false xs n h = h

-- what holds of each item, where what it gives is empty, holds of all
pub All-from_none : {X Y : Type 0} (P : X → Type 0) (f : ℕ → X → List Y) (i : ℕ) (xs : List X) → ((k : ℕ) (x : X) → f k x ≡ [] → P x) → flat_map_from f i xs ≡ [] → All P xs
All-from_none P f i [] each h = All-nil P
All-from_none P f i (x ∷ xs) each h = All-cons P x xs (each i x (first_empty (f i x) (flat_map_from f (i + 1) xs) h)) (All-from_none P f (i + 1) xs each (rest_empty (f i x) (flat_map_from f (i + 1) xs) h))

-- ---- slots

-- all that the symbol's slots are to have is written
abbrev pub HasWholeSlots : Layout → Symbol → Type 0
HasWholeSlots l s = (slots_of l s).fault ≡ None

no_refusal : (at : At) (i : ℕ) (o : Option SlotFault) → slot_refusal at i o ≡ [] → o ≡ None
no_refusal at i None h = refl
no_refusal at i (Some f) h = cc

-- the faults of a file's sections, those of the sorted ones, of its copies and slots, of its thunks, and of the search table
abbrev sorted_of : Layout → File → List Error
sorted_of l f = of_last_file f (flat_map (sorted_errors l) l.sorted)

pub sections_of_file : (l : Layout) (g at k : ℕ) (f : File) → file_errors l g at k f ≡ [] → sections_errors l g k f at 0 f.sections ≡ []
unfolding file_errors
sections_of_file l g at k f h = first_empty (sections_errors l g k f at 0 f.sections) (sorted_of l f ++ (entry_errors l g k f ++ (thunk_errors l g k f ++ first_errors l g k f))) h

behind_sections : (l : Layout) (g at k : ℕ) (f : File) → file_errors l g at k f ≡ [] → sorted_of l f ++ (entry_errors l g k f ++ (thunk_errors l g k f ++ first_errors l g k f)) ≡ []
unfolding file_errors
behind_sections l g at k f h = rest_empty (sections_errors l g k f at 0 f.sections) (sorted_of l f ++ (entry_errors l g k f ++ (thunk_errors l g k f ++ first_errors l g k f))) h

pub sorted_of_file : (l : Layout) (g at k : ℕ) (f : File) → file_errors l g at k f ≡ [] → of_last_file f (flat_map (sorted_errors l) l.sorted) ≡ []
sorted_of_file l g at k f h = first_empty (sorted_of l f) (entry_errors l g k f ++ (thunk_errors l g k f ++ first_errors l g k f)) (behind_sections l g at k f h)

behind_sorted : (l : Layout) (g at k : ℕ) (f : File) → file_errors l g at k f ≡ [] → entry_errors l g k f ++ (thunk_errors l g k f ++ first_errors l g k f) ≡ []
behind_sorted l g at k f h = rest_empty (sorted_of l f) (entry_errors l g k f ++ (thunk_errors l g k f ++ first_errors l g k f)) (behind_sections l g at k f h)

entries_of_file : (l : Layout) (g at k : ℕ) (f : File) → file_errors l g at k f ≡ [] → entry_errors l g k f ≡ []
entries_of_file l g at k f h = first_empty (entry_errors l g k f) (thunk_errors l g k f ++ first_errors l g k f) (behind_sorted l g at k f h)

behind_entries : (l : Layout) (g at k : ℕ) (f : File) → file_errors l g at k f ≡ [] → thunk_errors l g k f ++ first_errors l g k f ≡ []
behind_entries l g at k f h = rest_empty (entry_errors l g k f) (thunk_errors l g k f ++ first_errors l g k f) (behind_sorted l g at k f h)

pub first_of_file : (l : Layout) (g at k : ℕ) (f : File) → file_errors l g at k f ≡ [] → first_errors l g k f ≡ []
first_of_file l g at k f h = rest_empty (thunk_errors l g k f) (first_errors l g k f) (behind_entries l g at k f h)

pub slots_of_file : (l : Layout) (g at k : ℕ) (f : File) → KeepsAll l → file_errors l g at k f ≡ [] → All (HasWholeSlots l) (own_symbols l f)
unfolding slot_errors
slots_of_file l g at k f keeps h =
    All-from_none (HasWholeSlots l) (symbol_errors l g k) f.first_symbol (own_symbols l f) (λ i s e. no_refusal (at_file g k) i (slots_of l s).fault (of_written (is_header_only_role l (slot_role l s)) (slot_refusal (at_file g k) i (slots_of l s).fault) (not_hollow_role l (slot_role l s) keeps) e)) (rest_empty (flat_map (copy_errors l g k) (copies_of f)) (slot_errors l g k f) (entries_of_file l g at k f h))

-- the faults of the files of a group
pub files_of_group : (l : Layout) (i : ℕ) (g : Group) → group_errors l i g ≡ [] → files_errors l i (frames_at l g) 0 g.files ≡ []
unfolding group_errors
files_of_group l i g h = first_empty (files_errors l i (frames_at l g) 0 g.files) (flat_map_from (exported_errors l i) 0 g.files ++ flat_map_from (table_errors l i) 0 g.files) h

-- what holds of each file without faults, where its frames begin so, holds of all that follow one another
pub All-files : (l : Layout) (P : File → Type 0) (i at k : ℕ) (fs : List File) → ((at k : ℕ) (f : File) → file_errors l i at k f ≡ [] → P f) → files_errors l i at k fs ≡ [] → All P fs
All-files l P i at k [] each h = All-nil P
All-files l P i at k (f ∷ fs) each h =
    All-cons P f fs (each at k f (first_empty (file_errors l i at k f) (files_errors l i (address_after at (file_frames l f)) (k + 1) fs) h))
    (All-files l P i (address_after at (file_frames l f)) (k + 1) fs each (rest_empty (file_errors l i at k f) (files_errors l i (address_after at (file_frames l f)) (k + 1) fs) h))

-- where no group has a fault, what holds of each file without faults holds of all files
pub of_files : (l : Layout) (P : File → Type 0) → ((i at k : ℕ) (f : File) → file_errors l i at k f ≡ [] → P f) → flat_map_from (group_errors l) 0 l.groups ≡ [] → All (λ (g : Group). All P g.files) l.groups
of_files l P each h = All-from_none (λ (g : Group). All P g.files) (group_errors l) 0 l.groups (λ i g e. All-files l P i (frames_at l g) 0 g.files (λ at k f n. each i at k f n) (files_of_group l i g e)) h

-- where all is written, each file writes all of its symbols' slots
pub slots_of_groups : (l : Layout) → KeepsAll l → flat_map_from (group_errors l) 0 l.groups ≡ [] → All (λ (g : Group). All (λ (f : File). All (HasWholeSlots l) (own_symbols l f)) g.files) l.groups
slots_of_groups l keeps h = of_files l (λ (f : File). All (HasWholeSlots l) (own_symbols l f)) (λ i at k f n. slots_of_file l i at k f keeps n) h

-- ---- copies

-- nothing lacks of the entry that copies the symbol
abbrev pub CanBeCopied : Layout → ℕ → Type 0
CanBeCopied l i = copy_fault i (index_of l i) (raw_address l (Some i)) ≡ None

pub no_fault : (at : At) (o : Option Fault) → fault_errors at o ≡ [] → o ≡ None
no_fault at None h = refl
no_fault at (Some f) h = cc

pub copies_of_file : (l : Layout) (g at k : ℕ) (f : File) → file_errors l g at k f ≡ [] → All (CanBeCopied l) (copies_of f)
copies_of_file l g at k f h =
    All-from_nothing (CanBeCopied l) (copy_errors l g k) (copies_of f) (λ i e. no_fault (at_file g k) (copy_fault i (index_of l i) (raw_address l (Some i))) e) (first_empty (flat_map (copy_errors l g k) (copies_of f)) (slot_errors l g k f) (entries_of_file l g at k f h))

pub copies_of_groups : (l : Layout) → flat_map_from (group_errors l) 0 l.groups ≡ [] → All (λ (g : Group). All (λ (f : File). All (CanBeCopied l) (copies_of f)) g.files) l.groups
copies_of_groups l h = of_files l (λ (f : File). All (CanBeCopied l) (copies_of f)) (λ i at k f n. copies_of_file l i at k f n) h

-- ---- thunks

-- the thunk has a target that it reaches
abbrev pub CanGoOn : Layout → Thunk → Type 0
CanGoOn l t = thunk_fault l t ≡ None

pub thunks_of_file : (l : Layout) (g at k : ℕ) (f : File) → KeepsAll l → file_errors l g at k f ≡ [] → All (CanGoOn l) (thunks_of l f)
unfolding thunk_errors
thunks_of_file l g at k f keeps h =
    let none = first_empty (thunk_errors l g k f) (first_errors l g k f) (behind_entries l g at k f h) in
    All-from_nothing (CanGoOn l) (thunk_error l (at_file g k)) (thunks_of l f) (λ t e. no_fault (at_file g k) (thunk_fault l t) e) (of_written (is_header_only_part l l.primary_part) (flat_map (thunk_error l (at_file g k)) (thunks_of l f)) (not_hollow_part l l.primary_part keeps) none)

pub thunks_of_groups : (l : Layout) → KeepsAll l → flat_map_from (group_errors l) 0 l.groups ≡ [] → All (λ (g : Group). All (λ (f : File). All (CanGoOn l) (thunks_of l f)) g.files) l.groups
thunks_of_groups l keeps h = of_files l (λ (f : File). All (CanGoOn l) (thunks_of l f)) (λ i at k f n. thunks_of_file l i at k f keeps n) h

-- no group has an error where the layout has none
pub no_group_errors : (l : Layout) → errors l ≡ [] → flat_map_from (group_errors l) 0 l.groups ≡ []
unfolding errors
no_group_errors l h = rest_empty (clause_errors (first_clause l) ++ flat_map_from (part_errors l) 0 l.parts) (flat_map_from (group_errors l) 0 l.groups) h

-- a layout without errors is laid out
pub laid_out : LayoutsAreLaidOut → (l : Layout) → errors l ≡ [] → IsLaidOut l
unfolding errors
laid_out laid l h =
    let clauses = clause_errors (first_clause l) in
    let shares = flat_map_from (part_errors l) 0 l.parts in
    let front = first_empty (clauses ++ shares) (flat_map_from (group_errors l) 0 l.groups) h in
    laid l (clause_holds (first_clause l) (first_empty clauses shares front)) (rest_empty clauses shares front)
