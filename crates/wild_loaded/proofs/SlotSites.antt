-- The words of slots with their places, of which each table of a layout is made.
use Rattle.wild_loaded.proofs.Common.{◌≡◌, ℕ, zero, suc, ◌+◌, ◌*◌, ◌%◌, ◌^◌, ◌<◌, List, [], ◌∷◌, ◌++◌, length, get_or, refl, sym, ap, ◌∙◌, arith, Option, Some, Contains, option_to_list, slice_get, flat_map, flat_map-same, flat_map-flat_map, File, Group, Symbol, Layout, SlotWord, EntryPart, next, entry_of, relr_slot_place, own_symbols, slots_of, slots_address, relr_got_place, group_relr_got, slot_entries_of, flat_places_of}
use Rattle.wild_slot.specs.SlotParts.{at_places}
use Rattle.wild_needs.specs.SlotShares.{relr_got_places}
use Rattle.wild_layout.specs.SlotBytes.{symbol_entries, relr_slots_in}

-- ---- sites

-- a word with its place
pub record SlotSite : Type 0 where
  pub at : ℕ
  pub word : SlotWord

abbrev pub sites_at : ℕ → List SlotWord → List SlotSite
sites_at at [] = []
sites_at at (w ∷ ws) = record { at = at; word = w } ∷ sites_at (next at) ws

abbrev pub symbol_sites : Layout → Symbol → List SlotSite
symbol_sites l s = sites_at (slots_address s) (slots_of l s).words

-- those of a file, of a group, and all
abbrev pub file_sites : Layout → File → List SlotSite
file_sites l f = flat_map (symbol_sites l) (own_symbols l f)

abbrev pub group_sites : Layout → Group → List SlotSite
group_sites l g = flat_map (file_sites l) g.files

abbrev pub all_sites : Layout → List SlotSite
all_sites l = flat_map (group_sites l) l.groups

-- what is made of a site
abbrev pub of_site : {X : Type 0} → (ℕ → SlotWord → Option X) → SlotSite → List X
of_site f x = option_to_list (f x.at x.word)

-- what is made of words at their places is made of sites
pub by_sites : {X : Type 0} (f : ℕ → SlotWord → Option X) (at : ℕ) (ws : List SlotWord) → at_places f at ws ≡ flat_map (of_site f) (sites_at at ws)
by_sites f at [] = refl
by_sites f at (w ∷ ws) = ap (λ xs. option_to_list (f at w) ++ xs) (by_sites f (next at) ws)

by_file : {X : Type 0} (f : ℕ → SlotWord → Option X) (of : Symbol → List X) (l : Layout) (file : File) → ((s : Symbol) → of s ≡ at_places f (slots_address s) (slots_of l s).words) → flat_map of (own_symbols l file) ≡ flat_map (of_site f) (file_sites l file)
by_file f of l file each =
    flat_map-same of (λ (s : Symbol). flat_map (of_site f) (symbol_sites l s)) (own_symbols l file) (λ s. each s ∙ by_sites f (slots_address s) (slots_of l s).words)
    ∙ sym (flat_map-flat_map (of_site f) (symbol_sites l) (own_symbols l file))

pub entries_by_sites : (part : EntryPart) (l : Layout) (f : File) → slot_entries_of part l f ≡ flat_map (of_site (entry_of part l.machine l.options.relr)) (file_sites l f)
unfolding slot_entries_of
entries_by_sites part l f = by_file (entry_of part l.machine l.options.relr) (symbol_entries part l) l f (λ s. refl)

pub flat_by_sites : (l : Layout) (f : File) → flat_places_of l f ≡ flat_map (of_site (relr_slot_place l.options.relr)) (file_sites l f)
unfolding flat_places_of
flat_by_sites l f = by_file (relr_slot_place l.options.relr) (relr_slots_in l) l f (λ s. refl)

pub block_by_sites : (l : Layout) (g : Group) → group_relr_got l g ≡ flat_map (of_site relr_got_place) (group_sites l g)
unfolding group_relr_got
block_by_sites l g =
    flat_map-same (λ f. flat_map (relr_got_places l) (own_symbols l f)) (λ (f : File). flat_map (of_site relr_got_place) (file_sites l f)) g.files (λ f. by_file relr_got_place (relr_got_places l) l f (λ s. refl))
    ∙ sym (flat_map-flat_map (of_site relr_got_place) (file_sites l) g.files)

-- of all files
pub all_by_sites : {X : Type 0} (f : SlotSite → List X) (of : File → List X) (l : Layout) → ((file : File) → of file ≡ flat_map f (file_sites l file)) → flat_map (λ (g : Group). flat_map of g.files) l.groups ≡ flat_map f (all_sites l)
all_by_sites f of l each =
    flat_map-same (λ (g : Group). flat_map of g.files) (λ (g : Group). flat_map f (group_sites l g)) l.groups
    (λ g. flat_map-same of (λ (file : File). flat_map f (file_sites l file)) g.files each ∙ sym (flat_map-flat_map f (file_sites l) g.files))
    ∙ sym (flat_map-flat_map f (group_sites l) l.groups)

-- and of all groups
pub groups_by_sites : {X : Type 0} (f : SlotSite → List X) (of : Group → List X) (l : Layout) → ((g : Group) → of g ≡ flat_map f (group_sites l g)) → flat_map of l.groups ≡ flat_map f (all_sites l)
groups_by_sites f of l each = flat_map-same of (λ (g : Group). flat_map f (group_sites l g)) l.groups each ∙ sym (flat_map-flat_map f (group_sites l) l.groups)

-- ---- the place of a site

-- a site is that of a word; places count modulo 2^64
pub record IsSiteOf (at : ℕ) (ws : List SlotWord) (x : SlotSite) : Type 0 where
  pub index : ℕ
  pub word : slice_get ws index ≡ Some x.word
  pub place : x.at ≡ (at + 8 * index) % 2 ^ 64

pub site_of : (at : ℕ) (ws : List SlotWord) (x : SlotSite) → at < 2 ^ 64 → Contains (sites_at at ws) x → IsSiteOf at ws x
site_of at [] x low c = absurd (omega (arith, c.1))
site_of at (w ∷ ws) x low c = cases at w ws x low c.0 c.1 c.2 (λ c'. site_of (next at) ws x (omega arith) c')
  where
    cases : (at : ℕ) (w : SlotWord) (ws : List SlotWord) (x : SlotSite) → at < 2 ^ 64 → (k : ℕ) → k < length (sites_at at (w ∷ ws)) → get_or (sites_at at (w ∷ ws)) k x ≡ x → (Contains (sites_at (next at) ws) x → IsSiteOf (next at) ws x) → IsSiteOf at (w ∷ ws) x
    cases at w ws x low zero m e again = record {
      index = 0;
      word = ap (λ (y : SlotSite). Some y.word) e;
      place = (let here = ap (λ (y : SlotSite). y.at) e in let there : x.at ≡ at = sym here in omega (arith, there, low));
    }
    cases at w ws x low (suc k) m e again =
        let r = again (k, omega (arith, m), e) in
        let p = r.place in
        record { index = suc r.index; word = r.word; place = omega (arith, p, low) }
