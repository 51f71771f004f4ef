-- What the words of slots have tables fill: where it lies, and what memory has there before any entry is applied.
use Rattle.wild_loaded.proofs.Common.{◌≡◌, ℕ, ◌+◌, ◌-◌, ◌*◌, ◌%◌, ◌^◌, ◌<◌, ◌≤◌, ◌⊎◌, inl, inr, Bool, true, false, List, [], ◌∷◌, ◌++◌, length, get_or, refl, sym, ap, ◌∙◌, arith, subst, ⊤, Option, Some, None, All, AllPairs, Contains, option_to_list, if◌then◌else◌, slice_get, slice_index, unwrap_or, cases_lt, get_or_append_left, length-append, All-nil, All-cons, All-head, All-tail, All-contains, All-append, slice_get-get_or, AllPairs-cons, word, All-flat_map, AllPairs-nil, AllPairs-head, All-append-left, All-append-right, length-word, listed_at, All-each, Rela, DynamicRelocationKind, SlotEntry, SlotWord, Number, Address, InRelrGot, General, Plt, Resolution, Symbol, File, Layout, KeepsAll, is_executable, minus, slot, setting_of, items_at, is_packed, entry_at, address_entry, next, got_of, slots_address, word_size, storage_at, storage_words, relr_got_place, own_symbols, slots_of, resolved_slots, distance_if_too_far, NumbersFit, SymbolNumbers, IsLaidOut, Change, Memory, World, size_of, Holds, byte_in, loaded_at, IsLoadable, IsLegal, Ascend, place_in, image_memory, HasWholeSlots, IsWordStored, filled_width, FillsWords, FillsSlot, SlotsAreStored, EntriesHaveChanges, entry_in, processor_of, facts_of, entry_with}
use Rattle.std.proofs.lemmas.List.{get_or-append_right}
use Rattle.wild_words.proofs.ListLemmas.{AllPairs-right}
use Rattle.wild_reloc.specs.declared.dynamic.DynamicRelocationKind.TheVariants as entry_kinds
use Rattle.wild_slot.specs.declared.slot_parts.WordPart.TheVariants as words
use Rattle.wild_slot.specs.Slots.{with_items, no_slot}
use Rattle.wild_types.proofs.FileLemmas.{All-own}
use Rattle.wild_loader.specs.declared.change.Change.TheVariants as changes
use Rattle.wild_slots.specs.AscendingPlaces.{LiesWithin}
use Rattle.wild_loaded.proofs.SitesFit.{slots_low}
use Rattle.wild_loaded.proofs.SlotNumbers.{WordFits, words_fit, storage_fits}
use Rattle.wild_loaded.proofs.SlotSites.{SlotSite, of_site, sites_at, symbol_sites, file_sites, group_sites, all_sites, site_of}
use Rattle.wild_loaded.proofs.Fillings.{Table, PackedTable, RelativeTable, GeneralTable, JumpTable, Filling, Makes, place_entry, packed_at, relative_of, general_of, HasChange, HasWord, IsKnown, place_loaded}
use Rattle.wild_loaded.proofs.SectionsKnown.{change_elsewhere, MakesThat, has_change, RelativeLaws, relative_makes}
use Rattle.wild_loaded.proofs.SlotFillings.{address_filling, slot_filling, block_filling, pair_sites, got_sites, made_of}
use Rattle.wild_loaded.proofs.SlotsSpaced.{IsNarrow, IsNumber, SitesSpaced}
use Rattle.wild_loader.specs.declared.memory.Machine.{Machine as Processor}
use Rattle.wild_geometry.specs.EntryKinds.{loaded_kind}

-- ---- sites

-- what the entry of a word does is known
abbrev pub WordFills : Processor → World → SlotWord → Type 0
WordFills p w (General e) = FillsSlot p w e
WordFills p w (Plt e) = FillsSlot p w e
WordFills p w other = ⊤

-- and memory has the word
pub record SiteIsKnown (l : Layout) (w : World) (x : SlotSite) : Type 0 where
  pub stored : IsWordStored l w x.at x.word
  pub low : x.at < 2 ^ 64
  pub fits : WordFits x.word
  pub fills : WordFills (processor_of l.machine) w x.word

-- what the crates below owe of slots
pub record SlotLaws : Type 0 where
  pub stored : SlotsAreStored
  pub changes : EntriesHaveChanges
  pub relative : RelativeLaws

-- what is known of a layout
pub record IsFilledSlots (l : Layout) (w : World) : Type 0 where
  pub keeps : KeepsAll l
  pub kind : IsLoadable l.kind
  pub numbers : NumbersFit l
  pub legal : IsLegal l w
  pub laid : IsLaidOut l
  pub whole : HasWholeSlots l

no_site : (at : ℕ) (ws : List SlotWord) (x : SlotSite) → ws ≡ [] → Contains (sites_at at ws) x → ⊥
no_site at [] x e c = absurd (omega (arith, c.1))
no_site at (w ∷ ws) x e c = cc

-- a symbol with words has a place for them
pub place_there : (l : Layout) (s : Symbol) (x : SlotSite) → Contains (symbol_sites l s) x → got_of s ≡ Some (slots_address s)
unfolding slots_of slot
place_there l s x c = by_resolution s.resolution refl
  where
    by_place : (r : Resolution) (o : Option ℕ) → s.resolution ≡ Some r → r.got_address ≡ o → got_of s ≡ Some (slots_address s)
    by_place r None e g = absurd (no_site (slots_address s) (slots_of l s).words x (ap (λ (o : Option Resolution). (resolved_slots l o).words) e ∙ ap (λ (o : Option ℕ). (with_items no_slot (items_at (setting_of l) (distance_if_too_far l r) r o)).words) g) c)
    by_place r (Some a) e g =
        let got : got_of s ≡ Some a = ap (λ (o : Option Resolution). got_by o) e ∙ g in
        let at : slots_address s ≡ a = ap (λ (o : Option ℕ). unwrap_or o 0) got in
        got ∙ ap (λ (k : ℕ). Some k) (sym at)
      where
        got_by : Option Resolution → Option ℕ
        got_by None = None
        got_by (Some r) = r.got_address

    by_resolution : (o : Option Resolution) → s.resolution ≡ o → got_of s ≡ Some (slots_address s)
    by_resolution None e = absurd (no_site (slots_address s) (slots_of l s).words x (ap (λ (o : Option Resolution). (resolved_slots l o).words) e) c)
    by_resolution (Some r) e = by_place r r.got_address e refl

word_fills : (p : Processor) (w : World) (d : SlotWord) → ((e : SlotEntry) → entry_in d ≡ Some e → FillsSlot p w e) → WordFills p w d
word_fills p w (Number n) h = tt
word_fills p w (Address a) h = tt
word_fills p w (InRelrGot a) h = tt
word_fills p w (General e) h = h e refl
word_fills p w (Plt e) h = h e refl

site_known : (l : Layout) (w : World) (s : Symbol) (x : SlotSite) → SlotLaws → IsFilledSlots l w → Contains l.symbols s → Contains (symbol_sites l s) x → SiteIsKnown l w x
site_known l w s x laws h listed c =
    let numbers = All-contains SymbolNumbers l.symbols s h.numbers.symbols listed in
    let low = slots_low s numbers in
    let k = site_of (slots_address s) (slots_of l s).words x low c in
    let there : slice_get l.symbols listed.0 ≡ Some s = slice_get-get_or l.symbols listed.0 s listed.1 ∙ ap (λ (y : Symbol). Some y) listed.2 in
    let b = laws.stored.words l w listed.0 (slots_address s) k.index s x.word h.keeps h.kind h.numbers h.legal h.laid h.whole there (place_there l s x c) k.word in
    let ends = b.ends in
    let place = k.place in
    let is : slots_address s + word_size * k.index ≡ x.at = omega (arith, ends, place) in
    record {
      stored = subst (λ (a : ℕ). IsWordStored l w a x.word) is b;
      low = omega (arith, place);
      fits = All-contains WordFits (slots_of l s).words x.word (words_fit l s numbers) (listed_at (slots_of l s).words k.index x.word k.word);
      fills = word_fills (processor_of l.machine) w x.word (λ e entry. laws.changes.slots l w listed.0 k.index s x.word e h.numbers h.legal h.laid h.whole there k.word entry);
    }

-- the first word of the pair
storage_first : (l : Layout) (at : ℕ) → l.tlsld ≡ Some at → (d : SlotWord) × (slice_get (storage_words l) 0 ≡ Some d)
storage_first l at e =
    let f = by_kind (is_executable l.kind) in
    (f.0, ap (λ (o : Option ℕ). slice_get (storage_at (setting_of l) o) 0) e ∙ f.1)
  where
    by_kind : (b : Bool) → (d : SlotWord) × (slice_get (if b then Number 1 ∷ Number (minus (setting_of l).thread_pointer l.tls.start) ∷ [] else General (record { kind = entry_kinds.DtpMod; symbol = 0; addend = 0 }) ∷ Number 0 ∷ []) 0 ≡ Some d)
    by_kind true = (Number 1, refl)
    by_kind false = (General (record { kind = entry_kinds.DtpMod; symbol = 0; addend = 0 }), refl)

pair_known : (l : Layout) (w : World) (x : SlotSite) → SlotLaws → IsFilledSlots l w → Contains (pair_sites l) x → SiteIsKnown l w x
pair_known l w x laws h c = by_place l.tlsld refl
  where
    by_place : (o : Option ℕ) → l.tlsld ≡ o → SiteIsKnown l w x
    by_place None e = absurd (no_site (unwrap_or l.tlsld 0) (storage_words l) x (ap (λ (o : Option ℕ). storage_at (setting_of l) o) e) c)
    by_place (Some at) e =
        let first : unwrap_or l.tlsld 0 ≡ at = ap (λ (o : Option ℕ). unwrap_or o 0) e in
        let here = subst (λ (a : ℕ). Contains (sites_at a (storage_words l)) x) first c in
        let zeroth = storage_first l at e in
        let low : at < 2 ^ 64 = (let ends = (laws.stored.pair l w at 0 zeroth.0 h.keeps h.kind h.legal h.laid h.whole e zeroth.1).ends in omega (arith, ends)) in
        let k = site_of at (storage_words l) x low here in
        let b = laws.stored.pair l w at k.index x.word h.keeps h.kind h.legal h.laid h.whole e k.word in
        let ends = b.ends in
        let place = k.place in
        let is : at + word_size * k.index ≡ x.at = omega (arith, ends, place) in
        let listed = listed_at (storage_words l) k.index x.word k.word in
        record {
          stored = subst (λ (a : ℕ). IsWordStored l w a x.word) is b;
          low = omega (arith, place);
          fits = All-contains WordFits (storage_words l) x.word (storage_fits l) listed;
          fills = word_fills (processor_of l.machine) w x.word (λ e entry. laws.changes.pair l w x.word e h.legal listed entry);
        }

pub sites_known : (l : Layout) (w : World) → SlotLaws → IsFilledSlots l w → All (SiteIsKnown l w) (got_sites l)
sites_known l w laws h =
    let P = SiteIsKnown l w in
    All-append P (pair_sites l) (all_sites l)
    (All-each P (pair_sites l) (λ x c. pair_known l w x laws h c))
    (All-flat_map P (group_sites l) l.groups (λ i d b.
    All-flat_map P (file_sites l) (get_or l.groups i d).files (λ j f c. of_file (get_or (get_or l.groups i d).files j f))))
  where
    of_file : (f : File) → All (SiteIsKnown l w) (file_sites l f)
    of_file f =
        let own_listed = All-own (λ (s : Symbol). Contains l.symbols s) l f (All-each (λ (s : Symbol). Contains l.symbols s) l.symbols (λ s c. c)) in
        All-flat_map (SiteIsKnown l w) (symbol_sites l) (own_symbols l f) (λ k s b. All-each (SiteIsKnown l w) (symbol_sites l (get_or (own_symbols l f) k s)) (λ x c. site_known l w (get_or (own_symbols l f) k s) x laws h (own_listed k s b) c))

-- ---- one word

-- the entry of a word
pub slot_makes : (l : Layout) (w : World) (at : ℕ) (e : SlotEntry) → (h : FillsSlot (processor_of l.machine) w e) → MakesThat (processor_of l.machine) w (entry_at l.machine at e) h.change
slot_makes l w at e h =
    let i = h.index in
    let kind = loaded_kind (processor_of l.machine) e.kind in
    record { kind = kind; known = (facts_of l.machine).entries e.kind; made = change_elsewhere w kind (entry_at l.machine at e) (entry_with 0 e.symbol e.addend) (omega (arith, i)) refl ∙ h.makes }

pub fills_size : (n : ℕ) (c : Change) → FillsWords n c → size_of c ≡ n
fills_size n (changes.Word v) h = sym h.0
fills_size n (changes.Half v) h = absurd h
fills_size n (changes.Fill bytes) h = absurd h
fills_size n (changes.Add v) h = absurd h
fills_size n (changes.Descriptor o) h = sym h

slot_change : (l : Layout) (w : World) (at : ℕ) (e : SlotEntry) → FillsSlot (processor_of l.machine) w e → HasChange (image_memory l w).machine w (entry_at l.machine at e) (filled_width e)
slot_change l w at e h = has_change l w (entry_at l.machine at e) h.change (filled_width e) (slot_makes l w at e h) (fills_size (filled_width e) h.change h.fills)

pub width_most : (e : SlotEntry) → filled_width e ≤ 16
width_most e = by_kind e.kind e.symbol e.addend
  where
    by_kind : (k : DynamicRelocationKind) (i a : ℕ) → filled_width (record { kind = k; symbol = i; addend = a }) ≤ 16
    by_kind entry_kinds.TlsDesc i a = omega arith
    by_kind other i a = omega arith

pub two_widths : (e : SlotEntry) → (filled_width e ≡ 8) ⊎ (filled_width e ≡ 16)
two_widths e = by_kind e.kind e.symbol e.addend
  where
    by_kind : (k : DynamicRelocationKind) (i a : ℕ) → (filled_width (record { kind = k; symbol = i; addend = a }) ≡ 8) ⊎ (filled_width (record { kind = k; symbol = i; addend = a }) ≡ 16)
    by_kind entry_kinds.TlsDesc i a = inr refl
    by_kind other i a = inl refl

-- bytes behind bytes
pub holds_both : (m : Memory) (a : ℕ) (xs ys : List ℕ) → Holds m a xs → Holds m (a + length xs) ys → Holds m a (xs ++ ys)
holds_both m a xs ys h k = λ i lt.
    elim (cases_lt i (length xs)) [
      | inl minus ↦ h i minus ∙ ap Some (sym (get_or_append_left xs ys 0 i minus))
      | inr more ↦
          (let n = length-append xs ys in
          let e = k (i - length xs) (omega (arith, n, lt, more)) in
          let at : a + length xs + (i - length xs) ≡ a + i = omega (arith, more) in
          subst (λ (b : ℕ). byte_in m b ≡ Some (slice_index ys (i - length xs))) at e ∙ ap Some (sym (get_or-append_right xs ys (length xs) i 0 refl more)))
    ]

-- ---- in the table of slots

-- fillings from one address to another, each behind those before it
pub record AreFilled (w : World) (m : Memory) (low high : ℕ) (xs : List Filling) : Type 0 where
  pub from : All (λ (x : Filling). low ≤ x.entry.offset) xs
  pub to : All (λ (x : Filling). x.entry.offset + x.width ≤ high) xs
  pub ascend : AllPairs (λ (x y : Filling). x.entry.offset + x.width ≤ y.entry.offset) xs
  pub known : All (IsKnown w m) xs

-- what holds of the places of words holds of those of fillings
abbrev FromPlace : (ℕ → Type 0) → Filling → Type 0
FromPlace P x = P x.entry.offset

filled_place : (l : Layout) (P : ℕ → Type 0) (x : SlotSite) → All P (of_site (place_in words.Got) x) → All (FromPlace P) (of_site (slot_filling l) x)
filled_place l P x h = by_word x.at x.word h
  where
    one : (at : ℕ) (f : Filling) → f.entry.offset ≡ at → All P (at ∷ []) → All (FromPlace P) (f ∷ [])
    one at f e h = All-cons (FromPlace P) f [] (subst P (sym e) (All-head P at [] h)) (All-nil (FromPlace P))

    by_test : (at a : ℕ) (b : Bool) → All P (at ∷ []) → All (FromPlace P) (address_filling l at a b ∷ [])
    by_test at a true h = one at (packed_at at) refl h
    by_test at a false h = one at (relative_of (address_entry l.machine at a)) refl h

    by_word : (at : ℕ) (d : SlotWord) → All P (option_to_list (place_in words.Got at d)) → All (FromPlace P) (option_to_list (slot_filling l at d))
    by_word at (Number n) h = All-nil (FromPlace P)
    by_word at (Address a) h = by_test at a (is_packed l.options.relr at) h
    by_word at (InRelrGot a) h = All-nil (FromPlace P)
    by_word at (General e) h = one at (general_of (entry_at l.machine at e) (filled_width e)) refl h
    by_word at (Plt e) h = one at (record { table = JumpTable; entry = entry_at l.machine at e; width = filled_width e }) refl h

pub filled_places : (l : Layout) (P : ℕ → Type 0) (xs : List SlotSite) → All P (made_of (place_in words.Got) xs) → All (FromPlace P) (made_of (slot_filling l) xs)
filled_places l P [] h = All-nil (FromPlace P)
filled_places l P (x ∷ xs) h =
    All-append (FromPlace P) (of_site (slot_filling l) x) (made_of (slot_filling l) xs)
    (filled_place l P x (All-append-left P (of_site (place_in words.Got) x) (made_of (place_in words.Got) xs) h))
    (filled_places l P xs (All-append-right P (of_site (place_in words.Got) x) (made_of (place_in words.Got) xs) h))

-- a filling ahead of others
filled_more : (w : World) (m : Memory) (low high : ℕ) (f : Filling) (xs : List Filling) → low ≤ f.entry.offset → f.entry.offset + f.width ≤ high → IsKnown w m f → All (λ (y : Filling). f.entry.offset + f.width ≤ y.entry.offset) xs → AreFilled w m low high xs → AreFilled w m low high (f ∷ xs)
filled_more w m low high f xs from to known ahead h = record {
  from = All-cons (λ (x : Filling). low ≤ x.entry.offset) f xs from h.from;
  to = All-cons (λ (x : Filling). x.entry.offset + x.width ≤ high) f xs to h.to;
  ascend = AllPairs-cons (λ (x y : Filling). x.entry.offset + x.width ≤ y.entry.offset) f xs ahead h.ascend;
  known = All-cons (IsKnown w m) f xs known h.known;
}

-- a filling of one word
word_known : (l : Layout) (w : World) (at : ℕ) (d : SlotWord) (t : Table) (e : Rela) → IsWordStored l w at d → e.offset ≡ at → Makes w (image_memory l w) t e 8 → IsKnown w (image_memory l w) (record { table = t; entry = e; width = 8 })
word_known l w at d t e s is makes =
    let ends = s.ends in
    let loaded = place_loaded w at 8 (omega arith) ends in
    let held = subst (λ (a : ℕ). Holds (image_memory l w) a (word 8 s.value)) (sym (ap (loaded_at w) is ∙ loaded)) s.held in
    record { low = λ some. omega (arith, ends, is); old = word 8 s.value; wide = length-word 8 s.value; held = held; makes = makes }

pub site_word : (l : Layout) (w : World) (at : ℕ) (d : SlotWord) → IsWordStored l w at d → HasWord w (image_memory l w) at
site_word l w at d s =
    let ends = s.ends in
    record { value = s.value; fits = s.fits; held = subst (λ (a : ℕ). Holds (image_memory l w) a (word 8 s.value)) (sym (place_loaded w at 8 (omega arith) ends)) s.held }

entry_known : (l : Layout) (w : World) (at n : ℕ) (t : Table) (e : SlotEntry) (d : SlotWord) → ((r : Rela) (k : ℕ) → HasChange (image_memory l w).machine w r k → Makes w (image_memory l w) t r k) → FillsSlot (processor_of l.machine) w e → IsWordStored l w at d → filled_width e ≡ n → n ≡ 8 → IsKnown w (image_memory l w) (record { table = t; entry = entry_at l.machine at e; width = n })
entry_known l w at n t e d to h s width eight =
    let c = slot_change l w at e h in
    let P : ℕ → Type 0 = λ k. IsKnown w (image_memory l w) (record { table = t; entry = entry_at l.machine at e; width = k }) in
    subst P (sym eight) (word_known l w at d t (entry_at l.machine at e) s refl (to (entry_at l.machine at e) 8 (subst (HasChange (image_memory l w).machine w (entry_at l.machine at e)) (width ∙ eight) c)))

-- one of two words
two_known : (l : Layout) (w : World) (at next_at : ℕ) (t : Table) (e : SlotEntry) (d c : SlotWord) → ((r : Rela) (k : ℕ) → HasChange (image_memory l w).machine w r k → Makes w (image_memory l w) t r k) → FillsSlot (processor_of l.machine) w e → IsWordStored l w at d → IsWordStored l w next_at c → next_at ≡ at + 8 → filled_width e ≡ 16 → IsKnown w (image_memory l w) (record { table = t; entry = entry_at l.machine at e; width = filled_width e })
two_known l w at next_at t e d c to h s u is width =
    let ends = s.ends in
    let more = u.ends in
    let n = length-word 8 s.value in
    let k = length-word 8 u.value in
    let both = length-append (word 8 s.value) (word 8 u.value) in
    let loaded = place_loaded w at 8 (omega arith) ends in
    let second : w.base + next_at ≡ w.base + at + length (word 8 s.value) = omega (arith, is, n) in
    let held = holds_both (image_memory l w) (w.base + at) (word 8 s.value) (word 8 u.value) s.held (subst (λ (a : ℕ). Holds (image_memory l w) a (word 8 u.value)) second u.held) in
    record {
      low = λ some. omega (arith, more, is, width);
      old = word 8 s.value ++ word 8 u.value;
      wide = omega (arith, both, n, k, width);
      held = subst (λ (a : ℕ). Holds (image_memory l w) a (word 8 s.value ++ word 8 u.value)) (sym loaded) held;
      makes = to (entry_at l.machine at e) (filled_width e) (slot_change l w at e h);
    }

-- the rest of the places
pub rest_ascend : (low high : ℕ) (xs ys : List ℕ) → Ascend 8 low high (xs ++ ys) → Ascend 8 low high ys
rest_ascend low high xs ys h = record {
  within = All-append-right (LiesWithin 8 low high) xs ys h.within;
  ascend = AllPairs-right (λ (p q : ℕ). p + 8 ≤ q) xs ys h.ascend;
}

-- what stands behind a place
pub behind_place : (low high a : ℕ) (ys : List ℕ) → Ascend 8 low high (a ∷ ys) → All (λ (q : ℕ). a + 8 ≤ q) ys
behind_place low high a ys h = AllPairs-head (λ (p q : ℕ). p + 8 ≤ q) a ys h.ascend

abbrev pub got_places : List SlotSite → List ℕ
got_places xs = made_of (place_in words.Got) xs

-- a filling of one word, and those behind it
narrow_more : (l : Layout) (w : World) (low high at : ℕ) (f : Filling) (xs : List SlotSite) → f.entry.offset ≡ at → f.width ≡ 8 → IsKnown w (image_memory l w) f → Ascend 8 low high (at ∷ got_places xs) → AreFilled w (image_memory l w) low high (made_of (slot_filling l) xs) → AreFilled w (image_memory l w) low high (f ∷ made_of (slot_filling l) xs)
narrow_more l w low high at f xs is eight known h rest =
    let here = All-head (LiesWithin 8 low high) at (got_places xs) h.within in
    let from = here.from in
    let to = here.to in
    let behind = filled_places l (λ (q : ℕ). at + 8 ≤ q) xs (behind_place low high at (got_places xs) h) in
    filled_more w (image_memory l w) low high f (made_of (slot_filling l) xs) (omega (arith, is, from)) (omega (arith, is, eight, to)) known (λ k d lt. (let b = behind k d lt in omega (arith, is, eight, b))) rest

-- one of two words
wide_more : (l : Layout) (w : World) (low high at : ℕ) (f : Filling) (y : SlotSite) (ys : List SlotSite) → f.entry.offset ≡ at → f.width ≤ 16 → y.at ≡ at + 8 → slot_filling l y.at y.word ≡ None → place_in words.Got y.at y.word ≡ Some y.at → IsKnown w (image_memory l w) f → Ascend 8 low high (at ∷ got_places (y ∷ ys)) → AreFilled w (image_memory l w) low high (made_of (slot_filling l) (y ∷ ys)) → AreFilled w (image_memory l w) low high (f ∷ made_of (slot_filling l) (y ∷ ys))
wide_more l w low high at f y ys is wide next_is none own known h rest =
    let here = All-head (LiesWithin 8 low high) at (got_places (y ∷ ys)) h.within in
    let from = here.from in
    let places : got_places (y ∷ ys) ≡ y.at ∷ got_places ys = ap (λ (o : Option ℕ). option_to_list o ++ got_places ys) own in
    let second = subst (Ascend 8 low high) places (rest_ascend low high (at ∷ []) (got_places (y ∷ ys)) h) in
    let there = All-head (LiesWithin 8 low high) y.at (got_places ys) second.within in
    let to = there.to in
    let behind = filled_places l (λ (q : ℕ). y.at + 8 ≤ q) ys (behind_place low high y.at (got_places ys) second) in
    let same : made_of (slot_filling l) (y ∷ ys) ≡ made_of (slot_filling l) ys = ap (λ (o : Option Filling). option_to_list o ++ made_of (slot_filling l) ys) none in
    let ahead : All (λ (z : Filling). f.entry.offset + f.width ≤ z.entry.offset) (made_of (slot_filling l) ys) = λ k d lt. (let b = behind k d lt in omega (arith, is, wide, next_is, b)) in
    filled_more w (image_memory l w) low high f (made_of (slot_filling l) (y ∷ ys)) (omega (arith, is, from)) (omega (arith, is, wide, next_is, to)) known (subst (All (λ (z : Filling). f.entry.offset + f.width ≤ z.entry.offset)) (sym same) ahead) rest

pub number_none : (l : Layout) (at : ℕ) (d : SlotWord) → IsNumber d → slot_filling l at d ≡ None
number_none l at (Number n) h = refl
number_none l at (Address a) h = absurd h
number_none l at (InRelrGot a) h = absurd h
number_none l at (General e) h = absurd h
number_none l at (Plt e) h = absurd h

pub number_own : (at : ℕ) (d : SlotWord) → IsNumber d → place_in words.Got at d ≡ Some at
number_own at (Number n) h = refl
number_own at (Address a) h = absurd h
number_own at (InRelrGot a) h = absurd h
number_own at (General e) h = absurd h
number_own at (Plt e) h = absurd h

-- the word behind stands 8 bytes behind, where places do not wrap
next_there : (at at' low high : ℕ) (ys : List ℕ) → at' ≡ next at → Ascend 8 low high (at ∷ at' ∷ ys) → at' ≡ at + 8
next_there at at' low high ys e h =
    let le = All-head (λ (q : ℕ). at + 8 ≤ q) at' ys (behind_place low high at (at' ∷ ys) h) in
    omega (arith, e, le)

pub second_there : (l : Layout) (low high at : ℕ) (y : SlotSite) (ys : List SlotSite) → IsNumber y.word → y.at ≡ next at → Ascend 8 low high (at ∷ got_places (y ∷ ys)) → y.at ≡ at + 8
second_there l low high at y ys num e h =
    let places : got_places (y ∷ ys) ≡ y.at ∷ got_places ys = ap (λ (o : Option ℕ). option_to_list o ++ got_places ys) (number_own y.at y.word num) in
    next_there at y.at low high (got_places ys) e (subst (λ (ps : List ℕ). Ascend 8 low high (at ∷ ps)) places h)

-- the fillings of words behind one that is all that its entry fills
narrow_site : (l : Layout) (w : World) (low high at : ℕ) (d : SlotWord) (xs : List SlotSite) → RelativeLaws → IsWordStored l w at d → WordFits d → WordFills (processor_of l.machine) w d → IsNarrow d → Ascend 8 low high (option_to_list (place_in words.Got at d) ++ got_places xs) → AreFilled w (image_memory l w) low high (made_of (slot_filling l) xs)
    → AreFilled w (image_memory l w) low high (option_to_list (slot_filling l at d) ++ made_of (slot_filling l) xs)
narrow_site l w low high at (Number n) xs laws s fits fills narrow h rest = rest
narrow_site l w low high at (InRelrGot a) xs laws s fits fills narrow h rest = rest
narrow_site l w low high at (Address a) xs laws s fits fills narrow h rest = by_test (is_packed l.options.relr at)
  where
    by_test : (b : Bool) → AreFilled w (image_memory l w) low high (address_filling l at a b ∷ made_of (slot_filling l) xs)
    by_test true = narrow_more l w low high at (packed_at at) xs refl refl (word_known l w at (Address a) PackedTable (place_entry at) s refl (refl, site_word l w at (Address a) s)) h rest
    by_test false =
        let change : HasChange (image_memory l w).machine w (address_entry l.machine at a) 8 = has_change l w (address_entry l.machine at a) (changes.Word ((w.base + a) % 2 ^ 64)) 8 (relative_makes l w at a laws fits) refl in
        narrow_more l w low high at (relative_of (address_entry l.machine at a)) xs refl refl (word_known l w at (Address a) RelativeTable (address_entry l.machine at a) s refl change) h rest
narrow_site l w low high at (General e) xs laws s fits fills narrow h rest = narrow_more l w low high at (general_of (entry_at l.machine at e) (filled_width e)) xs refl narrow (entry_known l w at (filled_width e) GeneralTable e (General e) (λ r k c. c) fills s refl narrow) h rest
narrow_site l w low high at (Plt e) xs laws s fits fills narrow h rest = narrow_more l w low high at (record { table = JumpTable; entry = entry_at l.machine at e; width = filled_width e }) xs refl narrow (entry_known l w at (filled_width e) JumpTable e (Plt e) (λ r k c. c) fills s refl narrow) h rest

-- those behind a word before a number
wide_site : (l : Layout) (w : World) (low high at : ℕ) (d : SlotWord) (y : SlotSite) (ys : List SlotSite) → RelativeLaws → IsWordStored l w at d → WordFits d → WordFills (processor_of l.machine) w d → IsWordStored l w y.at y.word → IsNumber y.word → y.at ≡ next at → Ascend 8 low high (option_to_list (place_in words.Got at d) ++ got_places (y ∷ ys)) → AreFilled w (image_memory l w) low high (made_of (slot_filling l) (y ∷ ys))
    → AreFilled w (image_memory l w) low high (option_to_list (slot_filling l at d) ++ made_of (slot_filling l) (y ∷ ys))
wide_site l w low high at (Number n) y ys laws s fits fills u num e h rest = rest
wide_site l w low high at (InRelrGot a) y ys laws s fits fills u num e h rest = rest
wide_site l w low high at (Address a) y ys laws s fits fills u num e h rest = narrow_site l w low high at (Address a) (y ∷ ys) laws s fits fills tt h rest
wide_site l w low high at (General e) y ys laws s fits fills u num n h rest =
    elim (two_widths e) [
      | inl eight ↦ narrow_site l w low high at (General e) (y ∷ ys) laws s fits fills eight h rest
      | inr both ↦
          (let is = second_there l low high at y ys num n h in
          wide_more l w low high at (general_of (entry_at l.machine at e) (filled_width e)) y ys refl (width_most e) is (number_none l y.at y.word num) (number_own y.at y.word num) (two_known l w at y.at GeneralTable e (General e) y.word (λ r k c. c) fills s u is both) h rest)
    ]
wide_site l w low high at (Plt e) y ys laws s fits fills u num n h rest =
    elim (two_widths e) [
      | inl eight ↦ narrow_site l w low high at (Plt e) (y ∷ ys) laws s fits fills eight h rest
      | inr both ↦
          (let is = second_there l low high at y ys num n h in
          wide_more l w low high at (record { table = JumpTable; entry = entry_at l.machine at e; width = filled_width e }) y ys refl (width_most e) is (number_none l y.at y.word num) (number_own y.at y.word num) (two_known l w at y.at JumpTable e (Plt e) y.word (λ r k c. c) fills s u is both) h rest)
    ]

pub tail_ascend : (low high : ℕ) (x : SlotSite) (xs : List SlotSite) → Ascend 8 low high (got_places (x ∷ xs)) → Ascend 8 low high (got_places xs)
tail_ascend low high x xs h = rest_ascend low high (of_site (place_in words.Got) x) (got_places xs) h

-- the fillings of words that ascend
pub sites_filled : (l : Layout) (w : World) (low high : ℕ) (xs : List SlotSite) → RelativeLaws → SitesSpaced xs → All (SiteIsKnown l w) xs → Ascend 8 low high (got_places xs) → AreFilled w (image_memory l w) low high (made_of (slot_filling l) xs)
sites_filled l w low high [] laws spaced known h = record {
  from = All-nil (λ (x : Filling). low ≤ x.entry.offset);
  to = All-nil (λ (x : Filling). x.entry.offset + x.width ≤ high);
  ascend = AllPairs-nil (λ (x y : Filling). x.entry.offset + x.width ≤ y.entry.offset);
  known = All-nil (IsKnown w (image_memory l w));
}
sites_filled l w low high (a ∷ []) laws spaced known h =
    let k = All-head (SiteIsKnown l w) a [] known in
    narrow_site l w low high a.at a.word [] laws k.stored k.fits k.fills spaced h (sites_filled l w low high [] laws tt (All-tail (SiteIsKnown l w) a [] known) (tail_ascend low high a [] h))
sites_filled l w low high (a ∷ b ∷ xs) laws spaced known h =
    let k = All-head (SiteIsKnown l w) a (b ∷ xs) known in
    let more = All-tail (SiteIsKnown l w) a (b ∷ xs) known in
    let second = All-head (SiteIsKnown l w) b xs more in
    let rest = sites_filled l w low high (b ∷ xs) laws spaced.1 more (tail_ascend low high a (b ∷ xs) h) in
    elim spaced.0 [
      | inl narrow ↦ narrow_site l w low high a.at a.word (b ∷ xs) laws k.stored k.fits k.fills narrow h rest
      | inr wide ↦ wide_site l w low high a.at a.word b xs laws k.stored k.fits k.fills second.stored wide.0 wide.1 h rest
    ]

-- ---- words of blocks

-- each is known
pub blocks_known : (l : Layout) (w : World) (xs : List SlotSite) → All (SiteIsKnown l w) xs → All (IsKnown w (image_memory l w)) (made_of block_filling xs)
blocks_known l w [] h = All-nil (IsKnown w (image_memory l w))
blocks_known l w (x ∷ xs) h =
    All-append (IsKnown w (image_memory l w)) (of_site block_filling x) (made_of block_filling xs)
    (one x.at x.word (All-head (SiteIsKnown l w) x xs h).stored)
    (blocks_known l w xs (All-tail (SiteIsKnown l w) x xs h))
  where
    one : (at : ℕ) (d : SlotWord) → IsWordStored l w at d → All (IsKnown w (image_memory l w)) (option_to_list (block_filling at d))
    one at (Number n) s = All-nil (IsKnown w (image_memory l w))
    one at (Address a) s = All-nil (IsKnown w (image_memory l w))
    one at (General e) s = All-nil (IsKnown w (image_memory l w))
    one at (Plt e) s = All-nil (IsKnown w (image_memory l w))
    one at (InRelrGot a) s = All-cons (IsKnown w (image_memory l w)) (packed_at at) [] (word_known l w at (InRelrGot a) PackedTable (place_entry at) s refl (refl, site_word l w at (InRelrGot a) s)) (All-nil (IsKnown w (image_memory l w)))

-- their fillings are at their places
pub blocks_placed : (P : ℕ → Type 0) (xs : List SlotSite) → All P (made_of relr_got_place xs) → All (λ (x : Filling). P x.entry.offset) (made_of block_filling xs)
blocks_placed P [] h = All-nil (FromPlace P)
blocks_placed P (x ∷ xs) h =
    All-append (FromPlace P) (of_site block_filling x) (made_of block_filling xs)
    (one x.at x.word (All-append-left P (of_site relr_got_place x) (made_of relr_got_place xs) h))
    (blocks_placed P xs (All-append-right P (of_site relr_got_place x) (made_of relr_got_place xs) h))
  where
    one : (at : ℕ) (d : SlotWord) → All P (option_to_list (relr_got_place at d)) → All (FromPlace P) (option_to_list (block_filling at d))
    one at (Number n) h = All-nil (FromPlace P)
    one at (Address a) h = All-nil (FromPlace P)
    one at (General e) h = All-nil (FromPlace P)
    one at (Plt e) h = All-nil (FromPlace P)
    one at (InRelrGot a) h = All-cons (FromPlace P) (packed_at at) [] (All-head P at [] h) (All-nil (FromPlace P))

-- and have a word each
pub blocks_wide : (xs : List SlotSite) → All (λ (x : Filling). x.width ≡ 8) (made_of block_filling xs)
blocks_wide [] = All-nil (λ (x : Filling). x.width ≡ 8)
blocks_wide (x ∷ xs) = All-append (λ (x : Filling). x.width ≡ 8) (of_site block_filling x) (made_of block_filling xs) (one x.at x.word) (blocks_wide xs)
  where
    one : (at : ℕ) (d : SlotWord) → All (λ (x : Filling). x.width ≡ 8) (option_to_list (block_filling at d))
    one at (Number n) = All-nil (λ (x : Filling). x.width ≡ 8)
    one at (Address a) = All-nil (λ (x : Filling). x.width ≡ 8)
    one at (General e) = All-nil (λ (x : Filling). x.width ≡ 8)
    one at (Plt e) = All-nil (λ (x : Filling). x.width ≡ 8)
    one at (InRelrGot a) = All-cons (λ (x : Filling). x.width ≡ 8) (packed_at at) [] refl (All-nil (λ (x : Filling). x.width ≡ 8))

pub blocks_ascend : (low high : ℕ) (xs : List SlotSite) → Ascend 8 low high (made_of relr_got_place xs) → AllPairs (λ (x y : Filling). x.entry.offset + x.width ≤ y.entry.offset) (made_of block_filling xs)
blocks_ascend low high [] h = AllPairs-nil (λ (x y : Filling). x.entry.offset + x.width ≤ y.entry.offset)
blocks_ascend low high (x ∷ xs) h = one x.at x.word h (blocks_ascend low high xs (rest_ascend low high (of_site relr_got_place x) (made_of relr_got_place xs) h))
  where
    R : Filling → Filling → Type 0
    R x y = x.entry.offset + x.width ≤ y.entry.offset

    one : (at : ℕ) (d : SlotWord) → Ascend 8 low high (option_to_list (relr_got_place at d) ++ made_of relr_got_place xs) → AllPairs R (made_of block_filling xs) → AllPairs R (option_to_list (block_filling at d) ++ made_of block_filling xs)
    one at (Number n) h rest = rest
    one at (Address a) h rest = rest
    one at (General e) h rest = rest
    one at (Plt e) h rest = rest
    one at (InRelrGot a) h rest = AllPairs-cons R (packed_at at) (made_of block_filling xs) (blocks_placed (λ (q : ℕ). at + 8 ≤ q) xs (behind_place low high at (made_of relr_got_place xs) h)) rest
