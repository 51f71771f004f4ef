-- Which entries the words of slots have, and where they come from.
use Rattle.wild_slots.proofs.Common.{◌≡◌, ℕ, suc, ◌+◌, ◌*◌, ◌%◌, ◌^◌, ◌<◌, inl, inr, List, [], ◌∷◌, get_or, Some, None, All, Contains, refl, sym, ap, ◌∙◌, subst, arith, slice_get, Option, option_to_list, unwrap_or, All-nil, All-cons, All-append, All-weaker, All-flat_map, File, Resolution, Symbol, Layout, Setting, SlotWord, Number, Address, InRelrGot, General, Plt, has_flag, ifunc, HasItsFlags, next, at_places, setting_of, got_of, slots_address, own_symbols, slots_of}
use Rattle.std.proofs.lemmas.List.Elements.{All-contains_itself, All-contains}
use Rattle.wild_words.proofs.Basics.{of_if}
use Rattle.wild_reloc.specs.declared.dynamic.DynamicRelocationKind.TheVariants.{DtpMod}
use Rattle.wild_types.specs.declared.symbol.ValueFlags.{ValueFlags}
use Rattle.wild_slot.specs.declared.slot.SlotEntry.{SlotEntry}
use Rattle.wild_slot.specs.declared.slot_parts.EntryPart.{EntryPart}
use Rattle.wild_types.specs.Kinds.{is_executable}
use Rattle.wild_slot.specs.Storage.{minus}
use Rattle.wild_slot.specs.SlotParts.{entry_of}
use Rattle.wild_slot.specs.Slots.{storage_pair}
use Rattle.wild_types.proofs.FileLemmas.{All-own}
use Rattle.wild_needs.specs.SlotShares.{storage_at, storage_words}
use Rattle.wild_layout.specs.SlotBytes.{symbol_entries, slot_entries_of}
use Rattle.wild_slots.specs.Entries.{IsKnownEntry, entry_in, EntriesAreKnown, IsOfWord}
use Rattle.wild_slots.proofs.SlotLemmas.{IsEntry, IsOther, IsFirst}
use Rattle.wild_slots.proofs.EntryLemmas.{of_words}

-- ---- what entries name

-- the entry of a word, where it has one, is one of those
abbrev Knows : Resolution → SlotWord → Type 0
Knows r (General e) = IsEntry r e
Knows r (Plt e) = IsEntry r e
Knows r other = Unit {0}

knows_other : (s : Setting) (r : Resolution) (w : SlotWord) → IsOther s r w → Knows r w
knows_other s r (Number n) h = tt
knows_other s r (Address a) h = tt
knows_other s r (InRelrGot a) h = tt
knows_other s r (General e) h = h
knows_other s r (Plt e) h = absurd h

knows_first : (s : Setting) (r : Resolution) (w : SlotWord) → IsFirst s r w → Knows r w
knows_first s r (Number n) h = tt
knows_first s r (Address a) h = tt
knows_first s r (InRelrGot a) h = tt
knows_first s r (General e) h = h
knows_first s r (Plt e) h = h

-- the entry of a word of a symbol
abbrev IsKnownWord : Symbol → SlotWord → Type 0
IsKnownWord s w = (e : SlotEntry) → entry_in w ≡ Some e → IsKnownEntry s e

known_entry : (s : Symbol) (r : Resolution) (e : SlotEntry) → HasItsFlags s → s.resolution ≡ Some r → IsEntry r e → IsKnownEntry s e
known_entry s r e f is (inl n) = inl (record { resolution = r; resolved = is; index = n.index; kind = n.kind; nothing = n.nothing })
known_entry s r e f is (inr (inl i)) =
    let flag = ap (λ (v : ValueFlags). has_flag v ifunc) (sym (f r is)) ∙ i.indirect in
    let is_it = i.is in
    inr (inl (record {
      resolution = r;
      resolved = is;
      indirect = flag;
      kind = ap (λ (x : SlotEntry). x.kind) is_it;
      none = ap (λ (x : SlotEntry). x.symbol) is_it;
      is = ap (λ (x : SlotEntry). x.addend) is_it;
    }))
known_entry s r e f is (inr (inr m)) = inr (inr m)

known_word : (s : Symbol) (r : Resolution) (w : SlotWord) → HasItsFlags s → s.resolution ≡ Some r → Knows r w → IsKnownWord s w
known_word s r (Number n) f is k e h = cc
known_word s r (Address a) f is k e h = cc
known_word s r (InRelrGot a) f is k e h = cc
known_word s r (General x) f is k e h = let q : x ≡ e = cc in known_entry s r e f is (subst (IsEntry r) q k)
known_word s r (Plt x) f is k e h = let q : x ≡ e = cc in known_entry s r e f is (subst (IsEntry r) q k)

known_words : (l : Layout) (s : Symbol) → HasItsFlags s → All (IsKnownWord s) (slots_of l s).words
known_words l s f =
    of_words (IsKnownWord s) l s
    (λ r is w h. known_word s r w f is (knows_other (setting_of l) r w h))
    (λ r is w h. known_word s r w f is (knows_first (setting_of l) r w h))

-- the entry of a word of the pair that stands once
abbrev IsOwnWord : SlotWord → Type 0
IsOwnWord w = (e : SlotEntry) → entry_in w ≡ Some e → (e.kind ≡ DtpMod) × (e.symbol ≡ 0) × (e.addend ≡ 0)

own_number : (n : ℕ) → IsOwnWord (Number n)
own_number n e h = cc

abbrev own_word : SlotWord
own_word = General (record { kind = DtpMod; symbol = 0; addend = 0 })

own_module : IsOwnWord own_word
own_module e h =
    let q : record { kind = DtpMod; symbol = 0; addend = 0 } ≡ e = cc in
    subst (λ (x : SlotEntry). (x.kind ≡ DtpMod) × (x.symbol ≡ 0) × (x.addend ≡ 0)) q (refl, refl, refl)

own_two : (v : SlotWord) (n : ℕ) → IsOwnWord v → All IsOwnWord (v ∷ Number n ∷ [])
own_two v n h = All-cons IsOwnWord v (Number n ∷ []) h (All-cons IsOwnWord (Number n) [] (own_number n) (All-nil IsOwnWord))

own_pair : (s : Setting) → All IsOwnWord (storage_pair s)
own_pair s =
    of_if (All IsOwnWord) (is_executable s.kind) _ _ (λ t. own_two (Number 1) (minus s.thread_pointer s.tls.start) (own_number 1)) (λ f. own_two own_word 0 own_module)

own_storage : (s : Setting) (o : Option ℕ) → All IsOwnWord (storage_at s o)
own_storage s None = All-nil IsOwnWord
own_storage s (Some at) = own_pair s

pub entries_known : EntriesAreKnown
entries_known = record {
  words = λ l s d e f c h. All-contains (IsKnownWord s) (slots_of l s).words d (known_words l s f) c e h;
  pair = λ l d e c h. All-contains IsOwnWord (storage_words l) d (own_storage (setting_of l) l.tlsld) c e h;
}

-- ---- where they come from

-- an item is what word k gives at its place
record IsGiven {X : Type 0} (f : ℕ → SlotWord → Option X) (at : ℕ) (ws : List SlotWord) (x : X) : Type 0 where
  number : ℕ
  word : SlotWord
  there : slice_get ws number ≡ Some word
  is : f ((at + 8 * number) % 2 ^ 64) word ≡ Some x

given_later : {X : Type 0} (f : ℕ → SlotWord → Option X) (at : ℕ) (w : SlotWord) (ws : List SlotWord) (x : X) → IsGiven f (next at) ws x → IsGiven f at (w ∷ ws) x
given_later {X} f at w ws x g =
    let k = g.number in
    let e : (next at + 8 * k) % 2 ^ 64 ≡ (at + 8 * suc k) % 2 ^ 64 = omega arith in
    let P : ℕ → Type 0 = λ (p : ℕ). f p g.word ≡ Some x in
    record { number = suc k; word = g.word; there = g.there; is = subst P e g.is }

given_first : {X : Type 0} (f : ℕ → SlotWord → Option X) (at : ℕ) (w : SlotWord) (ws : List SlotWord) → at < 2 ^ 64 → (o : Option X) → f at w ≡ o → All (IsGiven f at (w ∷ ws)) (option_to_list o)
given_first f at w ws low None e = All-nil (IsGiven f at (w ∷ ws))
given_first {X} f at w ws low (Some x) e =
    let z : at ≡ (at + 8 * 0) % 2 ^ 64 = omega (arith, low) in
    let P : ℕ → Type 0 = λ (p : ℕ). f p w ≡ Some x in
    All-cons (IsGiven f at (w ∷ ws)) x [] (record { number = 0; word = w; there = refl; is = subst P z e }) (All-nil (IsGiven f at (w ∷ ws)))

place_of_word : {X : Type 0} (f : ℕ → SlotWord → Option X) (at : ℕ) (ws : List SlotWord) → at < 2 ^ 64 → All (IsGiven f at ws) (at_places f at ws)
place_of_word f at [] low = All-nil (IsGiven f at [])
place_of_word f at (w ∷ ws) low =
    let below : next at < 2 ^ 64 = omega arith in
    All-append (IsGiven f at (w ∷ ws)) (option_to_list (f at w)) (at_places f (next at) ws)
    (given_first f at w ws low (f at w) refl)
    (All-weaker (IsGiven f (next at) ws) (IsGiven f at (w ∷ ws)) (λ x g. given_later f at w ws x g) (at_places f (next at) ws) (place_of_word f (next at) ws below))

low_place : (o : Option ℕ) → ((at : ℕ) → o ≡ Some at → at < 2 ^ 64) → unwrap_or o 0 < 2 ^ 64
low_place None h = omega arith
low_place (Some at) h = h at refl

-- the symbol's place is a number of 64 bits
abbrev IsLow : Symbol → Type 0
IsLow s = (at : ℕ) → got_of s ≡ Some at → at < 2 ^ 64

pub entries_of_words : (l : Layout) (f : File) (part : EntryPart) → All IsLow l.symbols → All (IsOfWord l f part) (slot_entries_of part l f)
unfolding slot_entries_of
entries_of_words l f part low =
    All-flat_map (IsOfWord l f part) (symbol_entries part l) (own_symbols l f) (λ k d lt. one (get_or (own_symbols l f) k d) (All-contains_itself (own_symbols l f) k d lt) (All-own IsLow l f low k d lt))
  where
    one : (s : Symbol) → Contains (own_symbols l f) s → IsLow s → All (IsOfWord l f part) (symbol_entries part l s)
    one s c h =
        All-weaker (IsGiven (entry_of part l.machine l.options.relr) (slots_address s) (slots_of l s).words) (IsOfWord l f part)
        (λ e g. record { symbol = s; own = c; number = g.number; word = g.word; there = g.there; is = g.is })
        (symbol_entries part l s) (place_of_word (entry_of part l.machine l.options.relr) (slots_address s) (slots_of l s).words (low_place (got_of s) h))
