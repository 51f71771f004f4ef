-- What the tables of a layout fill, as one list, and that it has what each table has.
use Rattle.wild_loaded.proofs.Common.{placed_file, placed_files, processed_sections, all_sections, by_files, placed_files_same_all, ◌≡◌, ℕ, List, [], ◌∷◌, ◌++◌, map, refl, sym, ap, ◌∙◌, subst, append_assoc, IsPermutation, flat_map, append-nil, flat_map-append, flat_map-map, IsPermutation-refl, IsPermutation-sym, IsPermutation-trans, IsPermutation-append, IsPermutation-append_right, IsPermutation-append_comm, map-flat_map, flat_map-same, flat_map-flat_map, Rela, InputSection, EntryPart, File, Group, Layout, relr_places, copies_of, entry_of, relr_slot_place, relr_got_place, IsLaidOut, section_entries, file_entries, section_generals, copy_entry, file_generals, slot_entries_of, storage_entries, World, relative_entries, other_entries, tables_of}
use Rattle.std.proofs.lemmas.List.Concat.{flat_map_single}
use Rattle.std.proofs.lemmas.List.Sorted.{IsPermutation-append_left}
use Rattle.wild_slot.specs.declared.slot_parts.EntryPart.TheVariants as entries
use Rattle.wild_loaded.specs.Tables.{entries_of_first_file}
use Rattle.wild_loaded.proofs.SlotSites.{of_site, entries_by_sites, all_sites, all_by_sites}
use Rattle.wild_loaded.proofs.Permuted.{nested-parts}
use Rattle.wild_loaded.proofs.Fillings.{Filling, packed_in, relative_in, general_in, jump_in}
use Rattle.wild_loaded.proofs.PlacesApart.{all_places}
use Rattle.wild_loaded.proofs.SectionFillings.{section_fillings, packed_are, relatives_are, generals_are, jumps_are}
use Rattle.wild_loaded.proofs.SlotFillings.{slot_filling, block_filling, pair_sites, got_sites, made_of, slots_packed, slots_relative, slots_general, slots_jump, blocks_packed, blocks_relative, blocks_general, blocks_jump, pair_packed, pair_relative, pair_general, pair_jump}
use Rattle.wild_loaded.proofs.CopyFillings.{copy_filling, all_copies, group_copies, copies_filled}
use Rattle.wild_loaded.proofs.FirstFile.{stands_once}

-- ---- all fillings

abbrev pub sections_filled : Layout → List Filling
sections_filled l = all_places l (section_fillings l)

abbrev pub slots_filled : Layout → List Filling
slots_filled l = made_of (slot_filling l) (got_sites l)

abbrev pub blocks_filled : Layout → List Filling
blocks_filled l = made_of block_filling (all_sites l)

-- those in file bytes, and all of them
abbrev pub stored_fillings : Layout → List Filling
stored_fillings l = sections_filled l ++ (slots_filled l ++ blocks_filled l)

abbrev pub all_fillings : Layout → World → List Filling
all_fillings l w = stored_fillings l ++ copies_filled l w

-- ---- by source

in_all : {Y : Type 0} (g : Filling → List Y) (l : Layout) (w : World) (a b c d : List Y) → flat_map g (sections_filled l) ≡ a → flat_map g (slots_filled l) ≡ b → flat_map g (blocks_filled l) ≡ c → flat_map g (copies_filled l w) ≡ d → flat_map g (all_fillings l w) ≡ (a ++ (b ++ c)) ++ d
in_all {Y} g l w a b c d ea eb ec ed =
    flat_map-append g (stored_fillings l) (copies_filled l w)
    ∙ ap (λ (ys : List Y). ys ++ flat_map g (copies_filled l w)) (flat_map-append g (sections_filled l) (slots_filled l ++ blocks_filled l))
    ∙ ap (λ (ys : List Y). (flat_map g (sections_filled l) ++ ys) ++ flat_map g (copies_filled l w)) (flat_map-append g (slots_filled l) (blocks_filled l))
    ∙ ap (λ (ys : List Y). (ys ++ (flat_map g (slots_filled l) ++ flat_map g (blocks_filled l))) ++ flat_map g (copies_filled l w)) ea
    ∙ ap (λ (ys : List Y). (a ++ (ys ++ flat_map g (blocks_filled l))) ++ flat_map g (copies_filled l w)) eb
    ∙ ap (λ (ys : List Y). (a ++ (b ++ ys)) ++ flat_map g (copies_filled l w)) ec
    ∙ ap (λ (ys : List Y). (a ++ (b ++ c)) ++ ys) ed

in_sections : {Y : Type 0} (g : Filling → List Y) (l : Layout) (h : InputSection → List Y) → ((s : InputSection) → flat_map g (section_fillings l s) ≡ h s) → flat_map g (sections_filled l) ≡ flat_map h (all_sections l)
in_sections g l h each = flat_map-flat_map g (section_fillings l) (all_sections l) ∙ flat_map-same (λ (s : InputSection). flat_map g (section_fillings l s)) h (all_sections l) each

-- of copies nothing but entries
no_copies : {Y : Type 0} (g : Filling → List Y) (l : Layout) (w : World) → ((i : ℕ) → g (copy_filling l w i) ≡ []) → flat_map g (copies_filled l w) ≡ []
no_copies {Y} g l w none = flat_map-map g (copy_filling l w) (all_copies l) ∙ empty (all_copies l)
  where
    empty : (is : List ℕ) → flat_map (λ (i : ℕ). g (copy_filling l w i)) is ≡ []
    empty [] = refl
    empty (i ∷ is) = ap (λ (ys : List Y). ys ++ flat_map (λ (i : ℕ). g (copy_filling l w i)) is) (none i) ∙ empty is

-- ---- packed places

-- the places that are packed, by source
abbrev pub packed_list : Layout → List ℕ
packed_list l = flat_map (relr_places l) (all_sections l) ++ (made_of (relr_slot_place l.options.relr) (all_sites l) ++ made_of relr_got_place (all_sites l))

pub all_packed : (l : Layout) (w : World) → flat_map packed_in (all_fillings l w) ≡ packed_list l
all_packed l w =
    in_all packed_in l w (flat_map (relr_places l) (all_sections l)) (made_of (relr_slot_place l.options.relr) (all_sites l)) (made_of relr_got_place (all_sites l)) []
    (in_sections packed_in l (relr_places l) (packed_are l))
    (slots_packed l (got_sites l) ∙ flat_map-append (of_site (relr_slot_place l.options.relr)) (pair_sites l) (all_sites l) ∙ ap (λ (ys : List ℕ). ys ++ made_of (relr_slot_place l.options.relr) (all_sites l)) (pair_packed l))
    (blocks_packed (all_sites l))
    (no_copies packed_in l w (λ i. refl))
    ∙ append-nil (packed_list l)

-- ---- relative entries

abbrev relative_list : Layout → List Rela
relative_list l = flat_map (section_entries l) (all_sections l) ++ made_of (entry_of entries.Relative l.machine l.options.relr) (all_sites l)

all_relative : (l : Layout) (w : World) → flat_map relative_in (all_fillings l w) ≡ relative_list l
all_relative l w =
    in_all relative_in l w (flat_map (section_entries l) (all_sections l)) (made_of (entry_of entries.Relative l.machine l.options.relr) (all_sites l)) [] []
    (in_sections relative_in l (section_entries l) (relatives_are l))
    (slots_relative l (got_sites l) ∙ flat_map-append (of_site (entry_of entries.Relative l.machine l.options.relr)) (pair_sites l) (all_sites l) ∙ ap (λ (ys : List Rela). ys ++ made_of (entry_of entries.Relative l.machine l.options.relr) (all_sites l)) (pair_relative l))
    (blocks_relative (all_sites l))
    (no_copies relative_in l w (λ i. refl))
    ∙ append-nil (flat_map (section_entries l) (all_sections l) ++ (made_of (entry_of entries.Relative l.machine l.options.relr) (all_sites l) ++ []))
    ∙ ap (λ (ys : List Rela). flat_map (section_entries l) (all_sections l) ++ ys) (append-nil (made_of (entry_of entries.Relative l.machine l.options.relr) (all_sites l)))

-- the entries of slots in a table
entries_of_placed : (part : EntryPart) (l : Layout) (at : ℕ) (f : File) → slot_entries_of part l (placed_file l at f) ≡ slot_entries_of part l f
unfolding slot_entries_of
entries_of_placed part l at f = refl

slots_listed : (l : Layout) (part : EntryPart) → flat_map (λ (g : Group). flat_map (slot_entries_of part l) (placed_files l g)) l.groups ≡ made_of (entry_of part l.machine l.options.relr) (all_sites l)
slots_listed l part = placed_files_same_all (slot_entries_of part l) l (entries_of_placed part l) ∙ all_by_sites (of_site (entry_of part l.machine l.options.relr)) (slot_entries_of part l) l (entries_by_sites part l)

relative_sorted : (l : Layout) → IsPermutation (relative_list l) (flat_map (λ (g : Group). flat_map (relative_entries l) (placed_files l g)) l.groups)
relative_sorted l =
    let parts = nested-parts (placed_files l) (file_entries l) (slot_entries_of entries.Relative l) l.groups in
    let a : flat_map (λ (g : Group). flat_map (file_entries l) (placed_files l g)) l.groups ≡ flat_map (section_entries l) (all_sections l) = sym (by_files (section_entries l) l) in
    let same : flat_map (λ (g : Group). flat_map (file_entries l) (placed_files l g)) l.groups ++ flat_map (λ (g : Group). flat_map (slot_entries_of entries.Relative l) (placed_files l g)) l.groups ≡ relative_list l =
    ap (λ (ys : List Rela). ys ++ flat_map (λ (g : Group). flat_map (slot_entries_of entries.Relative l) (placed_files l g)) l.groups) a ∙ ap (λ (ys : List Rela). flat_map (section_entries l) (all_sections l) ++ ys) (slots_listed l entries.Relative) in
    let whole = flat_map (λ (g : Group). flat_map (relative_entries l) (placed_files l g)) l.groups in
    IsPermutation-sym whole (relative_list l) (subst (λ (ys : List Rela). IsPermutation whole ys) same parts)

-- ---- other entries

abbrev general_list : Layout → List Rela
general_list l = (flat_map (section_generals l) (all_sections l) ++ (storage_entries l ++ made_of (entry_of entries.General l.machine l.options.relr) (all_sites l))) ++ map (copy_entry l) (all_copies l)

all_general : (l : Layout) (w : World) → flat_map general_in (all_fillings l w) ≡ general_list l
all_general l w =
    in_all general_in l w (flat_map (section_generals l) (all_sections l)) (storage_entries l ++ made_of (entry_of entries.General l.machine l.options.relr) (all_sites l)) [] (map (copy_entry l) (all_copies l))
    (in_sections general_in l (section_generals l) (generals_are l))
    (slots_general l (got_sites l) ∙ flat_map-append (of_site (entry_of entries.General l.machine l.options.relr)) (pair_sites l) (all_sites l) ∙ ap (λ (ys : List Rela). ys ++ made_of (entry_of entries.General l.machine l.options.relr) (all_sites l)) (pair_general l))
    (blocks_general (all_sites l))
    (flat_map-map general_in (copy_filling l w) (all_copies l) ∙ flat_map_single (copy_entry l) (all_copies l))
    ∙ ap (λ (ys : List Rela). (flat_map (section_generals l) (all_sections l) ++ ys) ++ map (copy_entry l) (all_copies l)) (append-nil (storage_entries l ++ made_of (entry_of entries.General l.machine l.options.relr) (all_sites l)))

-- the entries of files for copies and fields
file_parts : (l : Layout) (f : File) → file_generals l f ≡ map (copy_entry l) (copies_of f) ++ flat_map (section_generals l) (processed_sections l f)
unfolding file_generals
file_parts l f = refl

reversed_section : {X : Type 0} (a b c d : List X) → IsPermutation (b ++ ((d ++ a) ++ c)) ((a ++ (b ++ c)) ++ d)
reversed_section a b c d =
    let one = IsPermutation-append_right b ((d ++ a) ++ c) (d ++ (a ++ c)) (subst (λ xs. IsPermutation ((d ++ a) ++ c) xs) (append_assoc d a c) (IsPermutation-refl ((d ++ a) ++ c))) in
    let two = IsPermutation-append_right b (d ++ (a ++ c)) ((a ++ c) ++ d) (IsPermutation-append_comm d (a ++ c)) in
    let three : b ++ ((a ++ c) ++ d) ≡ ((b ++ a) ++ c) ++ d = sym (append_assoc b (a ++ c) d) ∙ ap (λ xs. xs ++ d) (sym (append_assoc b a c)) in
    let four = IsPermutation-append_left d ((b ++ a) ++ c) ((a ++ b) ++ c) (IsPermutation-append_left c (b ++ a) (a ++ b) (IsPermutation-append_comm b a)) in
    let five : ((a ++ b) ++ c) ++ d ≡ (a ++ (b ++ c)) ++ d = ap (λ xs. xs ++ d) (append_assoc a b c) in
    let first = IsPermutation-trans (b ++ ((d ++ a) ++ c)) (b ++ (d ++ (a ++ c))) (b ++ ((a ++ c) ++ d)) one two in
    let second = subst (λ xs. IsPermutation (b ++ ((d ++ a) ++ c)) xs) three first in
    subst (λ xs. IsPermutation (b ++ ((d ++ a) ++ c)) xs) five (IsPermutation-trans (b ++ ((d ++ a) ++ c)) (((b ++ a) ++ c) ++ d) (((a ++ b) ++ c) ++ d) second four)

general_sorted : (l : Layout) → IsLaidOut l → IsPermutation (general_list l) (flat_map (λ (g : Group). flat_map (other_entries l) (placed_files l g)) l.groups)
general_sorted l laid =
    let whole = flat_map (λ (g : Group). flat_map (other_entries l) (placed_files l g)) l.groups in
    let first = flat_map (λ (g : Group). flat_map (entries_of_first_file l) (placed_files l g)) l.groups in
    let files = flat_map (λ (g : Group). flat_map (file_generals l) (placed_files l g)) l.groups in
    let slots = flat_map (λ (g : Group). flat_map (slot_entries_of entries.General l) (placed_files l g)) l.groups in
    let rest = flat_map (λ (g : Group). flat_map (λ (f : File). file_generals l f ++ slot_entries_of entries.General l f) (placed_files l g)) l.groups in
    let copies = flat_map (λ (g : Group). flat_map (λ (f : File). map (copy_entry l) (copies_of f)) (placed_files l g)) l.groups in
    let fields = flat_map (λ (g : Group). flat_map (λ (f : File). flat_map (section_generals l) (processed_sections l f)) (placed_files l g)) l.groups in
    let one = nested-parts (placed_files l) (entries_of_first_file l) (λ (f : File). file_generals l f ++ slot_entries_of entries.General l f) l.groups in
    let two = nested-parts (placed_files l) (file_generals l) (slot_entries_of entries.General l) l.groups in
    let cut : files ≡ flat_map (λ (g : Group). flat_map (λ (f : File). map (copy_entry l) (copies_of f) ++ flat_map (section_generals l) (processed_sections l f)) (placed_files l g)) l.groups =
    flat_map-same (λ (g : Group). flat_map (file_generals l) (placed_files l g)) (λ (g : Group). flat_map (λ (f : File). map (copy_entry l) (copies_of f) ++ flat_map (section_generals l) (processed_sections l f)) (placed_files l g)) l.groups (λ g. flat_map-same (file_generals l) (λ (f : File). map (copy_entry l) (copies_of f) ++ flat_map (section_generals l) (processed_sections l f)) (placed_files l g) (file_parts l)) in
    let three = nested-parts (placed_files l) (λ (f : File). map (copy_entry l) (copies_of f)) (λ (f : File). flat_map (section_generals l) (processed_sections l f)) l.groups in
    let three' = subst (λ (ys : List Rela). IsPermutation ys (copies ++ fields)) (sym cut) three in
    let two' = IsPermutation-trans rest (files ++ slots) ((copies ++ fields) ++ slots) two (IsPermutation-append_left slots files (copies ++ fields) three') in
    let one' = IsPermutation-trans whole (first ++ rest) (first ++ ((copies ++ fields) ++ slots)) one (IsPermutation-append_right first rest ((copies ++ fields) ++ slots) two') in
    let all = IsPermutation-trans whole (first ++ ((copies ++ fields) ++ slots)) ((fields ++ (first ++ slots)) ++ copies) one' (reversed_section fields first slots copies) in
    let ef : fields ≡ flat_map (section_generals l) (all_sections l) = sym (by_files (section_generals l) l) in
    let eo : first ≡ storage_entries l = placed_files_same_all (entries_of_first_file l) l (λ at f. refl) ∙ stands_once (storage_entries l) l.groups laid.some_group laid.files in
    let es : slots ≡ made_of (entry_of entries.General l.machine l.options.relr) (all_sites l) = slots_listed l entries.General in
    let ec : copies ≡ map (copy_entry l) (all_copies l) = placed_files_same_all (λ (f : File). map (copy_entry l) (copies_of f)) l (λ at f. refl) ∙ sym (map-nested (copy_entry l) l.groups) in
    let same : (fields ++ (first ++ slots)) ++ copies ≡ general_list l =
    ap (λ (ys : List Rela). (ys ++ (first ++ slots)) ++ copies) ef
    ∙ ap (λ (ys : List Rela). (flat_map (section_generals l) (all_sections l) ++ (ys ++ slots)) ++ copies) eo
    ∙ ap (λ (ys : List Rela). (flat_map (section_generals l) (all_sections l) ++ (storage_entries l ++ ys)) ++ copies) es
    ∙ ap (λ (ys : List Rela). (flat_map (section_generals l) (all_sections l) ++ (storage_entries l ++ made_of (entry_of entries.General l.machine l.options.relr) (all_sites l))) ++ ys) ec in
    IsPermutation-sym whole (general_list l) (subst (λ (ys : List Rela). IsPermutation whole ys) same all)
  where
    map-nested : (f : ℕ → Rela) (gs : List Group) → map f (flat_map group_copies gs) ≡ flat_map (λ (g : Group). flat_map (λ (x : File). map f (copies_of x)) g.files) gs
    map-nested f gs = map-flat_map f group_copies gs ∙ flat_map-same (λ (g : Group). map f (group_copies g)) (λ (g : Group). flat_map (λ (x : File). map f (copies_of x)) g.files) gs (λ g. map-flat_map f copies_of g.files)

-- ---- all entries

pub entries_sorted : (l : Layout) (w : World) → IsLaidOut l → IsPermutation (flat_map relative_in (all_fillings l w) ++ flat_map general_in (all_fillings l w)) (tables_of l).entries
entries_sorted l w laid =
    let target = (tables_of l).entries in
    let both = IsPermutation-append (relative_list l) (flat_map (λ (g : Group). flat_map (relative_entries l) (placed_files l g)) l.groups) (general_list l) (flat_map (λ (g : Group). flat_map (other_entries l) (placed_files l g)) l.groups) (relative_sorted l) (general_sorted l laid) in
    let same : flat_map relative_in (all_fillings l w) ++ flat_map general_in (all_fillings l w) ≡ relative_list l ++ general_list l = ap (λ (ys : List Rela). ys ++ flat_map general_in (all_fillings l w)) (all_relative l w) ∙ ap (λ (ys : List Rela). relative_list l ++ ys) (all_general l w) in
    subst (λ (ys : List Rela). IsPermutation ys target) (sym same) both

abbrev no_jump : InputSection → List Rela
no_jump s = []

pub jumps_sorted : (l : Layout) (w : World) → IsPermutation (flat_map jump_in (all_fillings l w)) (tables_of l).jumps
jumps_sorted l w =
    let listed = made_of (entry_of entries.Plt l.machine l.options.relr) (all_sites l) in
    let same : flat_map jump_in (all_fillings l w) ≡ (tables_of l).jumps =
    in_all jump_in l w [] listed [] []
    (in_sections jump_in l no_jump (jumps_are l) ∙ no_sections (all_sections l))
    (slots_jump l (got_sites l) ∙ flat_map-append (of_site (entry_of entries.Plt l.machine l.options.relr)) (pair_sites l) (all_sites l) ∙ ap (λ (ys : List Rela). ys ++ listed) (pair_jump l))
    (blocks_jump (all_sites l))
    (no_copies jump_in l w (λ i. refl))
    ∙ append-nil (listed ++ [])
    ∙ append-nil listed
    ∙ sym (slots_listed l entries.Plt) in
    subst (λ (ys : List Rela). IsPermutation ys (tables_of l).jumps) (sym same) (IsPermutation-refl (tables_of l).jumps)
  where
    no_sections : (ss : List InputSection) → flat_map no_jump ss ≡ []
    no_sections [] = refl
    no_sections (s ∷ ss) = no_sections ss
