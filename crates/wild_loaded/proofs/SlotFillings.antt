-- What the words of slots have tables fill, by table.
use Rattle.wild_loaded.proofs.Common.{◌≡◌, ℕ, Bool, true, false, List, [], ◌∷◌, ◌++◌, refl, sym, ap, ◌∙◌, ⊤, Option, Some, None, All, option_to_list, if◌then◌else◌, unwrap_or, flat_map, All-nil, All-cons, All-head, All-tail, flat_map-same, flat_map-flat_map, Rela, DtpMod, SlotWord, Number, Address, InRelrGot, General, Plt, Symbol, File, Group, Layout, is_executable, setting_of, minus, next, is_packed, entry_of, entry_at, address_entry, relr_slot_place, own_symbols, slots_of, slots_address, storage_at, storage_words, relr_got_place, storage_entries, place_in, filled_width}
use Rattle.wild_slot.specs.declared.slot_parts.EntryPart.TheVariants as entries
use Rattle.wild_slot.specs.declared.slot_parts.WordPart.{WordPart}
use Rattle.wild_slot.specs.SlotParts.{at_places}
use Rattle.wild_slots.specs.Order.{group_symbols, written_symbols}
use Rattle.wild_slots.specs.AscendingPlaces.{word_places}
use Rattle.wild_loaded.proofs.SlotSites.{SlotSite, of_site, sites_at, symbol_sites, file_sites, group_sites, all_sites, by_sites}
use Rattle.wild_loaded.proofs.Fillings.{Filling, JumpTable, packed_at, relative_of, general_of, packed_in, relative_in, general_in, jump_in}

-- ---- fillings

-- a word that moves with the base
abbrev pub address_filling : Layout → ℕ → ℕ → Bool → Filling
address_filling l at a true = packed_at at
address_filling l at a false = relative_of (address_entry l.machine at a)

-- a word of the table of slots that a loader changes
abbrev pub slot_filling : Layout → ℕ → SlotWord → Option Filling
slot_filling l at (Address a) = Some (address_filling l at a (is_packed l.options.relr at))
slot_filling l at (General e) = Some (general_of (entry_at l.machine at e) (filled_width e))
slot_filling l at (Plt e) = Some (record { table = JumpTable; entry = entry_at l.machine at e; width = filled_width e })
slot_filling l at other = None

-- a word of a block
abbrev pub block_filling : ℕ → SlotWord → Option Filling
block_filling at (InRelrGot a) = Some (packed_at at)
block_filling at other = None

-- the words of the pair of the output's own thread-local data, and all of the table of slots
abbrev pub pair_sites : Layout → List SlotSite
pair_sites l = sites_at (unwrap_or l.tlsld 0) (storage_words l)

abbrev pub got_sites : Layout → List SlotSite
got_sites l = pair_sites l ++ all_sites l

abbrev pub made_of : {X : Type 0} → (ℕ → SlotWord → Option X) → List SlotSite → List X
made_of f xs = flat_map (of_site f) xs

-- ---- by table

-- what is made of fillings is made of their sites
of_fillings : {Y : Type 0} (g : Filling → List Y) (f : ℕ → SlotWord → Option Filling) (h : ℕ → SlotWord → Option Y) (xs : List SlotSite) → ((at : ℕ) (d : SlotWord) → flat_map g (option_to_list (f at d)) ≡ option_to_list (h at d)) → flat_map g (made_of f xs) ≡ made_of h xs
of_fillings g f h xs each = flat_map-flat_map g (of_site f) xs ∙ flat_map-same (λ (x : SlotSite). flat_map g (of_site f x)) (of_site h) xs (λ x. each x.at x.word)

pub slots_packed : (l : Layout) (xs : List SlotSite) → flat_map packed_in (made_of (slot_filling l) xs) ≡ made_of (relr_slot_place l.options.relr) xs
slots_packed l xs = of_fillings packed_in (slot_filling l) (relr_slot_place l.options.relr) xs one
  where
    one : (at : ℕ) (d : SlotWord) → flat_map packed_in (option_to_list (slot_filling l at d)) ≡ option_to_list (relr_slot_place l.options.relr at d)
    one at (Number n) = refl
    one at (InRelrGot a) = refl
    one at (General e) = refl
    one at (Plt e) = refl
    one at (Address a) = by_test (is_packed l.options.relr at)
      where
        by_test : (b : Bool) → flat_map packed_in (address_filling l at a b ∷ []) ≡ option_to_list (if b then Some at else None)
        by_test true = refl
        by_test false = refl

pub slots_relative : (l : Layout) (xs : List SlotSite) → flat_map relative_in (made_of (slot_filling l) xs) ≡ made_of (entry_of entries.Relative l.machine l.options.relr) xs
slots_relative l xs = of_fillings relative_in (slot_filling l) (entry_of entries.Relative l.machine l.options.relr) xs one
  where
    one : (at : ℕ) (d : SlotWord) → flat_map relative_in (option_to_list (slot_filling l at d)) ≡ option_to_list (entry_of entries.Relative l.machine l.options.relr at d)
    one at (Number n) = refl
    one at (InRelrGot a) = refl
    one at (General e) = refl
    one at (Plt e) = refl
    one at (Address a) = by_test (is_packed l.options.relr at)
      where
        by_test : (b : Bool) → flat_map relative_in (address_filling l at a b ∷ []) ≡ option_to_list (if b then None else Some (address_entry l.machine at a))
        by_test true = refl
        by_test false = refl

pub slots_general : (l : Layout) (xs : List SlotSite) → flat_map general_in (made_of (slot_filling l) xs) ≡ made_of (entry_of entries.General l.machine l.options.relr) xs
slots_general l xs = of_fillings general_in (slot_filling l) (entry_of entries.General l.machine l.options.relr) xs one
  where
    one : (at : ℕ) (d : SlotWord) → flat_map general_in (option_to_list (slot_filling l at d)) ≡ option_to_list (entry_of entries.General l.machine l.options.relr at d)
    one at (Number n) = refl
    one at (InRelrGot a) = refl
    one at (General e) = refl
    one at (Plt e) = refl
    one at (Address a) = by_test (is_packed l.options.relr at)
      where
        by_test : (b : Bool) → flat_map general_in (address_filling l at a b ∷ []) ≡ []
        by_test true = refl
        by_test false = refl

pub slots_jump : (l : Layout) (xs : List SlotSite) → flat_map jump_in (made_of (slot_filling l) xs) ≡ made_of (entry_of entries.Plt l.machine l.options.relr) xs
slots_jump l xs = of_fillings jump_in (slot_filling l) (entry_of entries.Plt l.machine l.options.relr) xs one
  where
    one : (at : ℕ) (d : SlotWord) → flat_map jump_in (option_to_list (slot_filling l at d)) ≡ option_to_list (entry_of entries.Plt l.machine l.options.relr at d)
    one at (Number n) = refl
    one at (InRelrGot a) = refl
    one at (General e) = refl
    one at (Plt e) = refl
    one at (Address a) = by_test (is_packed l.options.relr at)
      where
        by_test : (b : Bool) → flat_map jump_in (address_filling l at a b ∷ []) ≡ []
        by_test true = refl
        by_test false = refl

pub blocks_packed : (xs : List SlotSite) → flat_map packed_in (made_of block_filling xs) ≡ made_of relr_got_place xs
blocks_packed xs = of_fillings packed_in block_filling relr_got_place xs one
  where
    one : (at : ℕ) (d : SlotWord) → flat_map packed_in (option_to_list (block_filling at d)) ≡ option_to_list (relr_got_place at d)
    one at (Number n) = refl
    one at (Address a) = refl
    one at (InRelrGot a) = refl
    one at (General e) = refl
    one at (Plt e) = refl

-- they have no entry
abbrev no_entry : ℕ → SlotWord → Option Rela
no_entry at d = None

nothing_made : (xs : List SlotSite) → made_of no_entry xs ≡ []
nothing_made [] = refl
nothing_made (x ∷ xs) = nothing_made xs

pub blocks_relative : (xs : List SlotSite) → flat_map relative_in (made_of block_filling xs) ≡ []
blocks_relative xs = of_fillings relative_in block_filling no_entry xs one ∙ nothing_made xs
  where
    one : (at : ℕ) (d : SlotWord) → flat_map relative_in (option_to_list (block_filling at d)) ≡ []
    one at (Number n) = refl
    one at (Address a) = refl
    one at (InRelrGot a) = refl
    one at (General e) = refl
    one at (Plt e) = refl

pub blocks_general : (xs : List SlotSite) → flat_map general_in (made_of block_filling xs) ≡ []
blocks_general xs = of_fillings general_in block_filling no_entry xs one ∙ nothing_made xs
  where
    one : (at : ℕ) (d : SlotWord) → flat_map general_in (option_to_list (block_filling at d)) ≡ []
    one at (Number n) = refl
    one at (Address a) = refl
    one at (InRelrGot a) = refl
    one at (General e) = refl
    one at (Plt e) = refl

pub blocks_jump : (xs : List SlotSite) → flat_map jump_in (made_of block_filling xs) ≡ []
blocks_jump xs = of_fillings jump_in block_filling no_entry xs one ∙ nothing_made xs
  where
    one : (at : ℕ) (d : SlotWord) → flat_map jump_in (option_to_list (block_filling at d)) ≡ []
    one at (Number n) = refl
    one at (Address a) = refl
    one at (InRelrGot a) = refl
    one at (General e) = refl
    one at (Plt e) = refl

-- ---- the pair

-- a number, or the entry of a module
abbrev pub IsPairWord : SlotWord → Type 0
IsPairWord (Number n) = ⊤
IsPairWord (General e) = e.kind ≡ DtpMod
IsPairWord other = ⊥

pub pair_words : (l : Layout) → All IsPairWord (storage_words l)
pair_words l = by_place l.tlsld
  where
    two : (a b : SlotWord) → IsPairWord a → IsPairWord b → All IsPairWord (a ∷ b ∷ [])
    two a b h k = All-cons IsPairWord a (b ∷ []) h (All-cons IsPairWord b [] k (All-nil IsPairWord))

    by_kind : (b : Bool) (a c : ℕ) → All IsPairWord (if b then Number a ∷ Number c ∷ [] else General (record { kind = DtpMod; symbol = 0; addend = 0 }) ∷ Number 0 ∷ [])
    by_kind true a c = two (Number a) (Number c) tt tt
    by_kind false a c = two (General (record { kind = DtpMod; symbol = 0; addend = 0 })) (Number 0) refl tt

    by_place : (o : Option ℕ) → All IsPairWord (storage_at (setting_of l) o)
    by_place None = All-nil IsPairWord
    by_place (Some at) = by_kind (is_executable l.kind) 1 (minus (setting_of l).thread_pointer l.tls.start)

-- none of them moves with the base, nor is one gone through by a stub
sites_of_pair : {X : Type 0} (f : ℕ → SlotWord → Option X) (at : ℕ) (ws : List SlotWord) → All IsPairWord ws → ((at : ℕ) (d : SlotWord) → IsPairWord d → f at d ≡ None) → made_of f (sites_at at ws) ≡ []
sites_of_pair f at [] h none = refl
sites_of_pair {X} f at (w ∷ ws) h none = ap (λ (o : Option X). option_to_list o ++ made_of f (sites_at (next at) ws)) (none at w (All-head IsPairWord w ws h)) ∙ sites_of_pair f (next at) ws (All-tail IsPairWord w ws h) none

pub pair_packed : (l : Layout) → made_of (relr_slot_place l.options.relr) (pair_sites l) ≡ []
pair_packed l = sites_of_pair (relr_slot_place l.options.relr) (unwrap_or l.tlsld 0) (storage_words l) (pair_words l) one
  where
    one : (at : ℕ) (d : SlotWord) → IsPairWord d → relr_slot_place l.options.relr at d ≡ None
    one at (Number n) h = refl
    one at (General e) h = refl
    one at (Address a) h = absurd h
    one at (InRelrGot a) h = absurd h
    one at (Plt e) h = absurd h

pub pair_relative : (l : Layout) → made_of (entry_of entries.Relative l.machine l.options.relr) (pair_sites l) ≡ []
pair_relative l = sites_of_pair (entry_of entries.Relative l.machine l.options.relr) (unwrap_or l.tlsld 0) (storage_words l) (pair_words l) one
  where
    one : (at : ℕ) (d : SlotWord) → IsPairWord d → entry_of entries.Relative l.machine l.options.relr at d ≡ None
    one at (Number n) h = refl
    one at (General e) h = refl
    one at (Address a) h = absurd h
    one at (InRelrGot a) h = absurd h
    one at (Plt e) h = absurd h

pub pair_jump : (l : Layout) → made_of (entry_of entries.Plt l.machine l.options.relr) (pair_sites l) ≡ []
pair_jump l = sites_of_pair (entry_of entries.Plt l.machine l.options.relr) (unwrap_or l.tlsld 0) (storage_words l) (pair_words l) one
  where
    one : (at : ℕ) (d : SlotWord) → IsPairWord d → entry_of entries.Plt l.machine l.options.relr at d ≡ None
    one at (Number n) h = refl
    one at (General e) h = refl
    one at (Address a) h = absurd h
    one at (InRelrGot a) h = absurd h
    one at (Plt e) h = absurd h

-- its entry
pub pair_general : (l : Layout) → made_of (entry_of entries.General l.machine l.options.relr) (pair_sites l) ≡ storage_entries l
pair_general l = sym (by_sites (entry_of entries.General l.machine l.options.relr) (unwrap_or l.tlsld 0) (storage_words l))

-- ---- the places of all words

-- what is made of symbols in their order is made of sites
pub by_symbols : {X : Type 0} (f : ℕ → SlotWord → Option X) (of : Symbol → List X) (l : Layout) → ((s : Symbol) → of s ≡ at_places f (slots_address s) (slots_of l s).words) → flat_map of (written_symbols l) ≡ made_of f (all_sites l)
by_symbols f of l each =
    flat_map-same of (λ (s : Symbol). flat_map (of_site f) (symbol_sites l s)) (written_symbols l) (λ s. each s ∙ by_sites f (slots_address s) (slots_of l s).words)
    ∙ flat_map-flat_map (λ (s : Symbol). flat_map (of_site f) (symbol_sites l s)) (group_symbols l) l.groups
    ∙ flat_map-same (λ (g : Group). flat_map (λ (s : Symbol). flat_map (of_site f) (symbol_sites l s)) (group_symbols l g)) (λ (g : Group). flat_map (of_site f) (group_sites l g)) l.groups
    (λ g.
    flat_map-flat_map (λ (s : Symbol). flat_map (of_site f) (symbol_sites l s)) (own_symbols l) g.files
    ∙ flat_map-same (λ (file : File). flat_map (λ (s : Symbol). flat_map (of_site f) (symbol_sites l s)) (own_symbols l file)) (λ (file : File). flat_map (of_site f) (file_sites l file)) g.files (λ file. sym (flat_map-flat_map (of_site f) (symbol_sites l) (own_symbols l file)))
    ∙ sym (flat_map-flat_map (of_site f) (file_sites l) g.files))
    ∙ sym (flat_map-flat_map (of_site f) (group_sites l) l.groups)

pub words_by_sites : (part : WordPart) (l : Layout) → flat_map (word_places part l) (written_symbols l) ≡ made_of (place_in part) (all_sites l)
words_by_sites part l = by_symbols (place_in part) (word_places part l) l (λ s. refl)
