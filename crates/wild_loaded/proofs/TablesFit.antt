-- The numbers of the tables: each entry and each word has its range.
use Rattle.wild_loaded.proofs.Common.{has_last, placed_files, processed_sections, sorted_sections, ◌≡◌, ℕ, ◌+◌, ◌%◌, ◌^◌, ◌<◌, ◌≤◌, inl, inr, Bool, true, false, not, List, [], ◌∷◌, ◌++◌, map, get_or, refl, sym, arith, subst, Option, Some, None, All, unwrap_or, option_to_list, option_map, option_and_then, if◌then◌else◌, ◌&&◌, slice_get, flat_map, w64, cases_lt, All-nil, All-cons, All-head, All-tail, All-append, All-map, All-contains, All-flat_map, of_if, listed_at, RelaFits, Rela, Machine, InputRelocation, InputSection, File, Group, Resolution, Symbol, Layout, SlotEntry, SlotWord, Number, Address, InRelrGot, General, Plt, EntryPart, Treatment, place_of, packs, canonical, is_relative, relr_place, relr_places, sorted_words, copies_of, is_prelude, next, is_packed, type_of, entry_at, entry_of, address_entry, relr_slot_place, relr_got_place, block_of, group_relr_got, block_words, storage_words, treatment, addend_bits, entry_for, section_generals, copy_entry, file_generals, value_or_0, relative_value, listed_entry, section_entries, file_entries, file_words, SymbolNumbers, slot_entries_of, flat_places_of, storage_entries, decided_address, raw_value, relative_entry, packed_words_of_file, group_words, relative_entries, other_entries, tables_of, words_of_last, facts_of}
use Rattle.std.specs.Int.{cast_signed}
use Rattle.std.specs.Int.RustNames.{FitsSigned}
use Rattle.std.proofs.lemmas.Int.{ints}
use Rattle.wild_reloc.specs.declared.dynamic.DynamicRelocationKind.TheVariants as entry_kinds
use Rattle.wild_types.specs.declared.fault.Missing.TheVariants as missing
use Rattle.wild_types.specs.declared.symbol.Place.{Place}
use Rattle.wild_types.specs.declared.symbol.Place.TheVariants as at
use Rattle.wild_slot.specs.declared.slot_parts.EntryPart.TheVariants as entries
use Rattle.wild_slot.specs.declared.treatment.Treatment.TheVariants as treatments
use Rattle.wild_types.specs.Lookups.{may_have_relative, has_address, files_of, file_of}
use Rattle.wild_needs.specs.Entries.{words_of, dynamic_relocations}
use Rattle.wild_slot.specs.SlotParts.{slot_entries}
use Rattle.wild_needs.specs.SlotShares.{first_place}
use Rattle.wild_relr.specs.Laws.{IsWord, WordsFit}
use Rattle.wild_layout.specs.DynamicRelocations.{index_or_zero, dynamic_relocation_by, dynamic_relocation}
use Rattle.wild_layout.specs.SymbolValues.{resolved_address, raw_address}
use Rattle.wild_types.specs.Addresses.{address_in_section, address_in_file, address_at, placed_value, resolved_or}
use Rattle.wild_loaded.specs.Tables.{entries_of_first_file}
use Rattle.wild_loaded.proofs.SlotNumbers.{WordFits}
use Rattle.wild_loaded.proofs.SlotSites.{SlotSite, of_site, file_sites, group_sites, entries_by_sites, flat_by_sites, block_by_sites}
use Rattle.wild_loaded.proofs.SitesFit.{SiteFits, sites_fit, group_sites_fit, block_fits}

-- ---- each entry

-- what holds of each relative entry
abbrev pub OfEntries : Layout → (Rela → Type 0) → Type 0
OfEntries l P = (place v : ℕ) → place < 2 ^ 64 → v < 2 ^ 64 → P (relative_entry l place v)

of_relocation : (P : Rela → Type 0) (l : Layout) (s : InputSection) (r : InputRelocation) → OfEntries l P → All P (option_to_list (listed_entry l s r))
of_relocation P l s r h = by_test (is_relative l s r && not (packs l (place_of s.address r)))
  where
    by_test : (b : Bool) → All P (option_to_list (option_map (λ (place : ℕ). relative_entry l place (relative_value l r)) (if b then Some (place_of s.address r) else None)))
    by_test false = All-nil P
    by_test true = All-cons P (relative_entry l (place_of s.address r) (relative_value l r)) [] (h (place_of s.address r) (relative_value l r) (omega arith) (omega arith)) (All-nil P)

of_section : (P : Rela → Type 0) (l : Layout) (s : InputSection) → OfEntries l P → All P (section_entries l s)
unfolding section_entries
of_section P l s h = by_test (may_have_relative l s)
  where
    by_test : (b : Bool) → All P (if b then flat_map (λ (r : InputRelocation). option_to_list (listed_entry l s r)) s.relocations else [])
    by_test false = All-nil P
    by_test true = All-flat_map P (λ (r : InputRelocation). option_to_list (listed_entry l s r)) s.relocations (λ k d b. of_relocation P l s (get_or s.relocations k d) h)

-- the site of a slot's address has such an entry
of_slots : (P : Rela → Type 0) (l : Layout) (xs : List SlotSite) → OfEntries l P → All SiteFits xs → All P (flat_map (of_site (entry_of entries.Relative l.machine l.options.relr)) xs)
of_slots P l [] h a = All-nil P
of_slots P l (x ∷ xs) h a =
    All-append P (of_site (entry_of entries.Relative l.machine l.options.relr) x) (flat_map (of_site (entry_of entries.Relative l.machine l.options.relr)) xs)
    (one x.at x.word (All-head SiteFits x xs a)) (of_slots P l xs h (All-tail SiteFits x xs a))
  where
    listed : (at v : ℕ) (b : Bool) → at < 2 ^ 64 → v < 2 ^ 64 → All P (option_to_list (if b then None else Some (address_entry l.machine at v)))
    listed at v true low small = All-nil P
    listed at v false low small = All-cons P (address_entry l.machine at v) [] (h at v low small) (All-nil P)

    one : (at : ℕ) (d : SlotWord) → (at < 2 ^ 64) × WordFits d → All P (option_to_list (entry_of entries.Relative l.machine l.options.relr at d))
    one at (Address v) f = listed at v (is_packed l.options.relr at) f.0 f.1
    one at (Number n) f = All-nil P
    one at (InRelrGot v) f = All-nil P
    one at (General e) f = All-nil P
    one at (Plt e) f = All-nil P

pub of_file : (P : Rela → Type 0) (l : Layout) (f : File) → OfEntries l P → All SymbolNumbers l.symbols → All P (relative_entries l f)
of_file P l f h numbers =
    All-append P (file_entries l f) (slot_entries_of entries.Relative l f)
    (All-flat_map P (section_entries l) (processed_sections l f) (λ k d b. of_section P l (get_or (processed_sections l f) k d) h))
    (subst (All P) (sym (entries_by_sites entries.Relative l f)) (of_slots P l (file_sites l f) h (sites_fit l f numbers)))

-- any number, seen as one with a sign, has 64 bits
pub signed_fits : (n : ℕ) → FitsSigned w64 (cast_signed w64 n)
signed_fits n = elim (cases_lt n (2 ^ 64)) [ inl low ↦ low_fits n low | inr high ↦ high_fits n high ]
  where
    low_fits : (k : ℕ) → k < 2 ^ 64 → FitsSigned w64 (cast_signed w64 k)
    low_fits k h = grind (arith, ints)

    high_fits : (k : ℕ) → 2 ^ 64 ≤ k → FitsSigned w64 (cast_signed w64 k)
    high_fits k h = grind (arith, ints)

relatives_fit : (l : Layout) (f : File) → All SymbolNumbers l.symbols → All RelaFits (relative_entries l f)
relatives_fit l f numbers = of_file RelaFits l f (λ place v low small. record { offset = low; number = (facts_of l.machine).types entry_kinds.Relative; symbol = omega arith; addend = signed_fits v }) numbers

-- ---- entries of slots

entry_fits : (m : Machine) (at : ℕ) (e : SlotEntry) → at < 2 ^ 64 → RelaFits (entry_at m at e)
entry_fits m at e low = record { offset = low; number = (facts_of m).types e.kind; symbol = omega arith; addend = signed_fits e.addend }

one_fits : (m : Machine) (at : ℕ) (e : SlotEntry) → at < 2 ^ 64 → All RelaFits (entry_at m at e ∷ [])
one_fits m at e low = All-cons RelaFits (entry_at m at e) [] (entry_fits m at e low) (All-nil RelaFits)

moved_fits : (m : Machine) (b : Bool) (at v : ℕ) → at < 2 ^ 64 → All RelaFits (option_to_list (if b then None else Some (address_entry m at v)))
moved_fits m true at v low = All-nil RelaFits
moved_fits m false at v low = All-cons RelaFits (address_entry m at v) [] (record { offset = low; number = (facts_of m).types entry_kinds.Relative; symbol = omega arith; addend = signed_fits v }) (All-nil RelaFits)

-- the entry of a word at its place
site_entry_fits : (part : EntryPart) (m : Machine) (relr : Bool) (at : ℕ) (d : SlotWord) → at < 2 ^ 64 → All RelaFits (option_to_list (entry_of part m relr at d))
site_entry_fits entries.Plt m relr at (Plt e) low = one_fits m at e low
site_entry_fits entries.Plt m relr at (Number n) low = All-nil RelaFits
site_entry_fits entries.Plt m relr at (Address a) low = All-nil RelaFits
site_entry_fits entries.Plt m relr at (InRelrGot a) low = All-nil RelaFits
site_entry_fits entries.Plt m relr at (General e) low = All-nil RelaFits
site_entry_fits entries.General m relr at (General e) low = one_fits m at e low
site_entry_fits entries.General m relr at (Number n) low = All-nil RelaFits
site_entry_fits entries.General m relr at (Address a) low = All-nil RelaFits
site_entry_fits entries.General m relr at (InRelrGot a) low = All-nil RelaFits
site_entry_fits entries.General m relr at (Plt e) low = All-nil RelaFits
site_entry_fits entries.Relative m relr at (Address a) low = moved_fits m (is_packed relr at) at a low
site_entry_fits entries.Relative m relr at (Number n) low = All-nil RelaFits
site_entry_fits entries.Relative m relr at (InRelrGot a) low = All-nil RelaFits
site_entry_fits entries.Relative m relr at (General e) low = All-nil RelaFits
site_entry_fits entries.Relative m relr at (Plt e) low = All-nil RelaFits

slot_entries_fit : (part : EntryPart) (l : Layout) (f : File) → All SymbolNumbers l.symbols → All RelaFits (slot_entries_of part l f)
slot_entries_fit part l f numbers =
    subst (All RelaFits) (sym (entries_by_sites part l f))
    (All-flat_map RelaFits (of_site (entry_of part l.machine l.options.relr)) (file_sites l f) (λ k d b. site_entry_fits part l.machine l.options.relr (get_or (file_sites l f) k d).at (get_or (file_sites l f) k d).word (sites_fit l f numbers k d b).0))

-- those of words from a place on
places_entries_fit : (part : EntryPart) (m : Machine) (relr : Bool) (at : ℕ) (ws : List SlotWord) → at < 2 ^ 64 → All RelaFits (slot_entries part m relr at ws)
places_entries_fit part m relr at [] low = All-nil RelaFits
places_entries_fit part m relr at (w ∷ ws) low =
    All-append RelaFits (option_to_list (entry_of part m relr at w)) (slot_entries part m relr (next at) ws) (site_entry_fits part m relr at w low) (places_entries_fit part m relr (next at) ws (omega arith))

-- ---- entries of fields and of copies

named_fits : (place number symbol addend : ℕ) → place < 2 ^ 64 → RelaFits (entry_for place number symbol addend)
named_fits place number symbol addend low = record { offset = low; number = omega arith; symbol = omega arith; addend = signed_fits addend }

left_fits : (l : Layout) (s : InputSection) (r : InputRelocation) (t : Treatment) → RelaFits (dynamic_relocation_by l s.address r t)
left_fits l s r (treatments.Symbolic i) = named_fits (place_of s.address r) (type_of l.machine entry_kinds.Absolute) (index_or_zero l i) (addend_bits r) (omega arith)
left_fits l s r (treatments.Indirect i) = named_fits (place_of s.address r) (type_of l.machine entry_kinds.Irelative) 0 (value_or_0 (decided_address l i)) (omega arith)
left_fits l s r (treatments.Extent row i) = named_fits (place_of s.address r) r.number (index_or_zero l i) (addend_bits r) (omega arith)
left_fits l s r treatments.Nothing = named_fits (place_of s.address r) 0 0 0 (omega arith)
left_fits l s r (treatments.Value row) = named_fits (place_of s.address r) 0 0 0 (omega arith)
left_fits l s r treatments.BaseRelative = named_fits (place_of s.address r) 0 0 0 (omega arith)
left_fits l s r treatments.Recompile = named_fits (place_of s.address r) 0 0 0 (omega arith)
left_fits l s r treatments.Unsupported = named_fits (place_of s.address r) 0 0 0 (omega arith)

-- where a symbol stands is a number of 64 bits
placed_low : (l : Layout) (i v : ℕ) → placed_value l i ≡ Some v → v < 2 ^ 64
placed_low l i v h = by_symbol (slice_get l.symbols i) h
  where
    by_section : (value : ℕ) (o : Option InputSection) → address_in_section l value o ≡ Some v → v < 2 ^ 64
    by_section value None e = cc
    by_section value (Some s) e = by_test (has_address l s) e
      where
        by_test : (b : Bool) → (if b then Some ((s.address + value) % 2 ^ 64) else None) ≡ Some v → v < 2 ^ 64
        by_test true q = (let is : (s.address + value) % 2 ^ 64 ≡ v = cc in omega (arith, is))
        by_test false q = cc

    by_file : (k value : ℕ) (o : Option File) → address_in_file l k value o ≡ Some v → v < 2 ^ 64
    by_file k value None e = cc
    by_file k value (Some f) e = by_section value (slice_get f.sections k) e

    by_place : (value : ℕ) (p : Place) → address_at l i value p ≡ Some v → v < 2 ^ 64
    by_place value (at.Section k) e = by_file k value (file_of (files_of l.groups) i) e
    by_place value at.Undefined e = cc
    by_place value at.Absolute e = cc
    by_place value at.Common e = cc
    by_place value (at.Output k) e = cc

    by_symbol : (o : Option Symbol) → option_and_then (λ (s : Symbol). address_at l i s.value s.place) o ≡ Some v → v < 2 ^ 64
    by_symbol None e = cc
    by_symbol (Some s) e = by_place s.value s.place e

-- and so is the address of a symbol
raw_low : (l : Layout) (i : ℕ) → All SymbolNumbers l.symbols → value_or_0 (raw_address l (Some i)) < 2 ^ 64
unfolding raw_value
raw_low l i numbers = by_symbol (slice_get l.symbols (canonical l i)) refl
  where
    placed : (o : Option ℕ) → placed_value l i ≡ o → value_or_0 (resolved_address missing.Address i (resolved_or None o)) < 2 ^ 64
    placed None e = omega arith
    placed (Some v) e = placed_low l i v e

    by_resolution : (s : Symbol) → slice_get l.symbols (canonical l i) ≡ Some s → (o : Option Resolution) → s.resolution ≡ o → value_or_0 (resolved_address missing.Address i (resolved_or (option_map (λ (r : Resolution). r.raw_value) o) (placed_value l i))) < 2 ^ 64
    by_resolution s there None e = placed (placed_value l i) refl
    by_resolution s there (Some r) e = (All-contains SymbolNumbers l.symbols s numbers (listed_at l.symbols (canonical l i) s there) r e).value

    by_symbol : (o : Option Symbol) → slice_get l.symbols (canonical l i) ≡ o → value_or_0 (resolved_address missing.Address i (resolved_or (option_and_then (λ (s : Symbol). option_map (λ (r : Resolution). r.raw_value) s.resolution) o) (placed_value l i))) < 2 ^ 64
    by_symbol None e = placed (placed_value l i) refl
    by_symbol (Some s) e = by_resolution s e s.resolution refl

left_entries_fit : (l : Layout) (s : InputSection) → All RelaFits (section_generals l s)
unfolding section_generals
left_entries_fit l s = All-map RelaFits (dynamic_relocation l s.address s.flags) (dynamic_relocations l s) (λ k d b. left_fits l s (get_or (dynamic_relocations l s) k d) (treatment l s.flags (get_or (dynamic_relocations l s) k d)))

file_entries_fit : (l : Layout) (f : File) → All SymbolNumbers l.symbols → All RelaFits (file_generals l f)
unfolding file_generals
file_entries_fit l f numbers =
    All-append RelaFits (map (copy_entry l) (copies_of f)) (flat_map (section_generals l) (processed_sections l f))
    (All-map RelaFits (copy_entry l) (copies_of f) (λ k d b. named_fits (value_or_0 (raw_address l (Some (get_or (copies_of f) k d)))) (type_of l.machine entry_kinds.Copy) (index_or_zero l (get_or (copies_of f) k d)) 0 (raw_low l (get_or (copies_of f) k d) numbers)))
    (All-flat_map RelaFits (section_generals l) (processed_sections l f) (λ k d b. left_entries_fit l (get_or (processed_sections l f) k d)))

-- ---- all entries

-- the pair of the output's own thread-local data stands at a number of 64 bits
abbrev pub PairIsLow : Layout → Type 0
PairIsLow l = (at : ℕ) → l.tlsld ≡ Some at → at < 2 ^ 64

storage_fits : (l : Layout) → PairIsLow l → All RelaFits (storage_entries l)
storage_fits l low = places_entries_fit entries.General l.machine l.options.relr (unwrap_or l.tlsld 0) (storage_words l) (by_place l.tlsld low)
  where
    by_place : (o : Option ℕ) → ((at : ℕ) → o ≡ Some at → at < 2 ^ 64) → unwrap_or o 0 < 2 ^ 64
    by_place None h = omega arith
    by_place (Some at) h = h at refl

generals_fit : (l : Layout) (f : File) → PairIsLow l → All SymbolNumbers l.symbols → All RelaFits (other_entries l f)
generals_fit l f low numbers =
    All-append RelaFits (entries_of_first_file l f) (file_generals l f ++ slot_entries_of entries.General l f)
    (of_if (All RelaFits) (is_prelude f.role) (storage_entries l) [] (λ t. storage_fits l low) (λ n. All-nil RelaFits))
    (All-append RelaFits (file_generals l f) (slot_entries_of entries.General l f) (file_entries_fit l f numbers) (slot_entries_fit entries.General l f numbers))

-- what holds of the entries of each file holds of all
of_all_files : (P : Rela → Type 0) (l : Layout) (of : File → List Rela) → ((f : File) → All P (of f)) → All P (flat_map (λ (g : Group). flat_map of (placed_files l g)) l.groups)
of_all_files P l of h = All-flat_map P (λ (g : Group). flat_map of (placed_files l g)) l.groups (λ i d b. All-flat_map P of (placed_files l (get_or l.groups i d)) (λ j f c. h (get_or (placed_files l (get_or l.groups i d)) j f)))

pub all_generals_fit : (l : Layout) → PairIsLow l → All SymbolNumbers l.symbols → All RelaFits (flat_map (λ (g : Group). flat_map (other_entries l) (placed_files l g)) l.groups)
all_generals_fit l low numbers = of_all_files RelaFits l (other_entries l) (λ f. generals_fit l f low numbers)

pub entries_fit : (l : Layout) → PairIsLow l → All SymbolNumbers l.symbols → All RelaFits (tables_of l).entries
entries_fit l low numbers =
    All-append RelaFits (flat_map (λ (g : Group). flat_map (relative_entries l) (placed_files l g)) l.groups) (flat_map (λ (g : Group). flat_map (other_entries l) (placed_files l g)) l.groups)
    (of_all_files RelaFits l (relative_entries l) (λ f. relatives_fit l f numbers))
    (all_generals_fit l low numbers)

pub jumps_fit : (l : Layout) → All SymbolNumbers l.symbols → All RelaFits (tables_of l).jumps
jumps_fit l numbers = of_all_files RelaFits l (slot_entries_of entries.Plt l) (λ f. slot_entries_fit entries.Plt l f numbers)

-- ---- each word

-- each place is a number of 64 bits
places_fit : (l : Layout) (s : InputSection) → All IsWord (relr_places l s)
unfolding relr_places
places_fit l s = by_test (may_have_relative l s)
  where
    one : (b : Bool) (r : InputRelocation) → All IsWord (option_to_list (if b then Some (place_of s.address r) else None))
    one false r = All-nil IsWord
    one true r = All-cons IsWord (place_of s.address r) [] (omega arith) (All-nil IsWord)

    one_of : (r : InputRelocation) → All IsWord (option_to_list (relr_place l s r))
    one_of r = one (is_relative l s r && packs l (place_of s.address r)) r

    by_test : (b : Bool) → All IsWord (if b then flat_map (λ (r : InputRelocation). option_to_list (relr_place l s r)) s.relocations else [])
    by_test false = All-nil IsWord
    by_test true = All-flat_map IsWord (λ (r : InputRelocation). option_to_list (relr_place l s r)) s.relocations (λ k d b. one_of (get_or s.relocations k d))

words_of_sections : (l : Layout) (f : File) → WordsFit → All IsWord (file_words l f)
words_of_sections l f law = All-flat_map IsWord (words_of l) f.sections (λ k d b. law (relr_places l (get_or f.sections k d)) (places_fit l (get_or f.sections k d)))

-- each place of a slot is one
flat_of : (l : Layout) (xs : List SlotSite) → All SiteFits xs → All IsWord (flat_map (of_site (relr_slot_place l.options.relr)) xs)
flat_of l [] a = All-nil IsWord
flat_of l (x ∷ xs) a =
    All-append IsWord (of_site (relr_slot_place l.options.relr) x) (flat_map (of_site (relr_slot_place l.options.relr)) xs)
    (one x.at x.word (All-head SiteFits x xs a).0) (flat_of l xs (All-tail SiteFits x xs a))
  where
    packed_at : (at : ℕ) (b : Bool) → at < 2 ^ 64 → All IsWord (option_to_list (if b then Some at else None))
    packed_at at true low = All-cons IsWord at [] low (All-nil IsWord)
    packed_at at false low = All-nil IsWord

    one : (at : ℕ) (d : SlotWord) → at < 2 ^ 64 → All IsWord (option_to_list (relr_slot_place l.options.relr at d))
    one at (Address v) low = packed_at at (is_packed l.options.relr at) low
    one at (Number n) low = All-nil IsWord
    one at (InRelrGot v) low = All-nil IsWord
    one at (General e) low = All-nil IsWord
    one at (Plt e) low = All-nil IsWord

words_of_file : (l : Layout) (f : File) → WordsFit → All SymbolNumbers l.symbols → All IsWord (packed_words_of_file l f)
words_of_file l f law numbers =
    All-append IsWord (file_words l f) (flat_places_of l f) (words_of_sections l f law)
    (subst (All IsWord) (sym (flat_by_sites l f)) (flat_of l (file_sites l f) (sites_fit l f numbers)))

block_low : (l : Layout) (g : Group) → All SymbolNumbers l.symbols → first_place (group_relr_got l g) < 2 ^ 64
block_low l g numbers = subst (λ (ps : List ℕ). first_place ps < 2 ^ 64) (sym (block_by_sites l g)) (first_of (group_sites l g) (group_sites_fit l g numbers))
  where
    first_of : (xs : List SlotSite) → All SiteFits xs → first_place (flat_map (of_site relr_got_place) xs) < 2 ^ 64
    first_of [] a = omega arith
    first_of (x ∷ xs) a = one x.at x.word (All-head SiteFits x xs a).0 (first_of xs (All-tail SiteFits x xs a))
      where
        one : (at : ℕ) (d : SlotWord) → at < 2 ^ 64 → first_place (flat_map (of_site relr_got_place) xs) < 2 ^ 64 → first_place (option_to_list (relr_got_place at d) ++ flat_map (of_site relr_got_place) xs) < 2 ^ 64
        one at (InRelrGot v) low rest = low
        one at (Number n) low rest = rest
        one at (Address v) low rest = rest
        one at (General e) low rest = rest
        one at (Plt e) low rest = rest

words_of_group : (l : Layout) (g : Group) → WordsFit → All SymbolNumbers l.symbols → All IsWord (group_words l g)
words_of_group l g law numbers =
    All-append IsWord (flat_map (packed_words_of_file l) (placed_files l g)) (block_words l g ++ words_of_last l g)
    (All-flat_map IsWord (packed_words_of_file l) (placed_files l g) (λ k d b. words_of_file l (get_or (placed_files l g) k d) law numbers))
    (All-append IsWord (block_words l g) (words_of_last l g) (block_fits (block_of (group_relr_got l g)).base (block_of (group_relr_got l g)).count (block_low l g numbers)) (by_last (has_last g)))
  where
    by_last : (b : Bool) → All IsWord (if b then sorted_words l else [])
    by_last false = All-nil IsWord
    by_last true = All-flat_map IsWord (words_of l) (sorted_sections l) (λ k d b. law (relr_places l (get_or (sorted_sections l) k d)) (places_fit l (get_or (sorted_sections l) k d)))

pub words_fit : (l : Layout) → WordsFit → All SymbolNumbers l.symbols → All IsWord (tables_of l).words
words_fit l law numbers = All-flat_map IsWord (group_words l) l.groups (λ k d b. words_of_group l (get_or l.groups k d) law numbers)
