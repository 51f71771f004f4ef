-- A word that an entry fills is followed by a number wherever that entry fills two words.
use Rattle.wild_loaded.proofs.Common.{◌≡◌, ℕ, ◌⊎◌, inl, inr, Bool, true, false, List, [], ◌∷◌, ◌++◌, refl, sym, ap, ◌∙◌, subst, append_assoc, ⊤, All, unwrap_or, Option, Some, None, if◌then◌else◌, ◌==◌, ◌&&◌, not, flat_map, All-head, All-tail, DynamicRelocationKind, DtpMod, Resolution, Symbol, Layout, Setting, SlotWord, Number, Address, InRelrGot, General, Plt, has_flag, ifunc, is_executable, is_position_independent, slots_address, setting_of, items_at, slot, next, own_symbols, slots_of, resolved_slots, storage_words, distance_if_too_far, filled_width}
use Rattle.wild_reloc.specs.declared.dynamic.DynamicRelocationKind.TheVariants.{GotEntry, JumpSlot, TpOff}
use Rattle.wild_slot.specs.declared.slot.SlotFault.{SlotFault}
use Rattle.wild_slot.specs.declared.slot.SlotItem.{SlotItem}
use Rattle.wild_slot.specs.declared.slot.SlotItem.TheVariants.{Word, Stub, Fault}
use Rattle.wild_types.specs.Flags.{interposable, has_link_time_address, dynamic, got_tls_offset, got_tls_module, got_tls_descriptor, canonical_plt, ifunc_got_for_address, canonical_plt_got_for_address}
use Rattle.wild_slot.specs.Storage.{is_outside}
use Rattle.wild_types.specs.SymbolSlots.{has_dynamic_symbol, has_thread_slot}
use Rattle.wild_slot.specs.Slots.{SlotContent, no_slot, add_item, with_item, with_items, number, general, plt, named, items_if, offset_item, module_item, module_offset, module_offset_item, descriptor_item, offset_items, module_items, descriptor_items, stub_item, stub_items, stub_address, ifunc_address_items, canonical_address_items, thread_items, address_items}
use Rattle.wild_slot.proofs.SlotLemmas.{items_joined}
use Rattle.wild_loaded.proofs.SlotSites.{SlotSite, sites_at, symbol_sites, file_sites, group_sites, all_sites}
use Rattle.wild_loaded.proofs.SlotFillings.{IsPairWord, pair_words, pair_sites, got_sites}

-- ---- words

-- the word is all that its entry fills
abbrev pub IsNarrow : SlotWord → Type 0
IsNarrow (General e) = filled_width e ≡ 8
IsNarrow (Plt e) = filled_width e ≡ 8
IsNarrow other = ⊤

abbrev pub IsNumber : SlotWord → Type 0
IsNumber (Number n) = ⊤
IsNumber other = ⊥

-- each word is, or stands before a number
abbrev pub Spaced : List SlotWord → Type 0
Spaced [] = ⊤
Spaced (w ∷ []) = IsNarrow w
Spaced (w ∷ x ∷ ws) = (IsNarrow w ⊎ IsNumber x) × Spaced (x ∷ ws)

spaced_join : (xs ys : List SlotWord) → Spaced xs → Spaced ys → Spaced (xs ++ ys)
spaced_join [] ys h k = k
spaced_join (w ∷ []) [] h k = h
spaced_join (w ∷ []) (y ∷ ys) h k = (inl h, k)
spaced_join (w ∷ x ∷ xs) ys h k = (h.0, spaced_join (x ∷ xs) ys h.1 k)

-- ---- items

abbrev IsPlain : SlotItem → Type 0
IsPlain (Word w) = IsNarrow w
IsPlain other = ⊤

abbrev AllPlain : List SlotItem → Type 0
AllPlain [] = ⊤
AllPlain (x ∷ xs) = IsPlain x × AllPlain xs

plain_join : (xs ys : List SlotItem) → AllPlain xs → AllPlain ys → AllPlain (xs ++ ys)
plain_join [] ys h k = k
plain_join (x ∷ xs) ys h k = (h.0, plain_join xs ys h.1 k)

plain_where : (b : Bool) (xs : List SlotItem) → AllPlain xs → AllPlain (items_if b xs)
plain_where true xs h = h
plain_where false xs h = tt

plain_if : (b : Bool) (t u : SlotItem) → IsPlain t → IsPlain u → IsPlain (if b then t else u)
plain_if true t u h k = h
plain_if false t u h k = k

plain_named : (o : Option ℕ) (by : ℕ → SlotItem) → ((d : ℕ) → IsPlain (by d)) → IsPlain (named o by)
plain_named None by h = tt
plain_named (Some d) by h = h d

one_plain : (c : SlotContent) (x : SlotItem) → IsPlain x → Spaced c.words → Spaced (with_item c x).words
one_plain c x p h = by_fault c.words c.has_stub c.fault x p h
  where
    by_item : (ws : List SlotWord) (b : Bool) (x : SlotItem) → IsPlain x → Spaced ws → Spaced (add_item (record { words = ws; has_stub = b; fault = None }) x).words
    by_item ws b (Word w) p h = spaced_join ws (w ∷ []) h p
    by_item ws b Stub p h = h
    by_item ws b (Fault f) p h = h

    by_fault : (ws : List SlotWord) (b : Bool) (o : Option SlotFault) (x : SlotItem) → IsPlain x → Spaced ws → Spaced (with_item (record { words = ws; has_stub = b; fault = o }) x).words
    by_fault ws b None x p h = by_item ws b x p h
    by_fault ws b (Some f) x p h = h

all_plain : (c : SlotContent) (xs : List SlotItem) → AllPlain xs → Spaced c.words → Spaced (with_items c xs).words
all_plain c [] p h = h
all_plain c (x ∷ xs) p h = all_plain (with_item c x) xs p.1 (one_plain c x p.0 h)

-- any item before a number
pair_spaced : (c : SlotContent) (x : SlotItem) (n : ℕ) → Spaced c.words → Spaced (with_items c (x ∷ number n ∷ [])).words
pair_spaced c x n h = by_fault c.words c.has_stub c.fault x h
  where
    by_item : (ws : List SlotWord) (b : Bool) (x : SlotItem) → Spaced ws → Spaced (with_item (add_item (record { words = ws; has_stub = b; fault = None }) x) (number n)).words
    by_item ws b (Word w) h = subst Spaced (sym (append_assoc ws (w ∷ []) (Number n ∷ []))) (spaced_join ws (w ∷ Number n ∷ []) h (inr tt, tt))
    by_item ws b Stub h = spaced_join ws (Number n ∷ []) h tt
    by_item ws b (Fault f) h = h

    by_fault : (ws : List SlotWord) (b : Bool) (o : Option SlotFault) (x : SlotItem) → Spaced ws → Spaced (with_item (with_item (record { words = ws; has_stub = b; fault = o }) x) (number n)).words
    by_fault ws b None x h = by_item ws b x h
    by_fault ws b (Some f) x h = h

-- ---- the slots of a symbol

offset_plain : (s : Setting) (r : Resolution) → AllPlain (offset_items s r)
offset_plain s r =
    plain_where (has_flag r.flags got_tls_offset) (offset_item s r ∷ []) (
      plain_if (has_dynamic_symbol r.flags) _ _ (plain_named r.dynamic_symbol_index (λ d. general TpOff d 0) (λ d. refl))
          (plain_if (r.raw_value == 0) _ _ tt
          (plain_if (is_outside s.tls r.raw_value) _ _ tt
          (plain_if (is_executable s.kind) _ _ tt refl))),
      tt,
    )

module_plain : (s : Setting) (r : Resolution) → AllPlain (module_items s r)
module_plain s r =
    plain_where (has_flag r.flags got_tls_module) (module_item s r ∷ module_offset_item s r ∷ []) (
      plain_if (is_executable s.kind && not (has_flag r.flags dynamic)) _ _ tt
          (plain_if (interposable r.flags) _ _ (plain_named r.dynamic_symbol_index (λ d. general DtpMod d 0) (λ d. refl)) refl),
      (by_index (if interposable r.flags then r.dynamic_symbol_index else None), tt),
    )
  where
    by_index : (o : Option ℕ) → IsPlain (module_offset s r.raw_value o)
    by_index None = tt
    by_index (Some d) = refl

thread_spaced : (s : Setting) (r : Resolution) → Spaced (with_items no_slot (thread_items s r)).words
thread_spaced s r =
    let a = offset_items s r in
    let b = module_items s r in
    let c = descriptor_items s r in
    let first = all_plain no_slot a (offset_plain s r) tt in
    let second = all_plain (with_items no_slot a) b (module_plain s r) first in
    let third = described (with_items (with_items no_slot a) b) (has_flag r.flags got_tls_descriptor) second in
    let e : with_items no_slot (a ++ (b ++ c)) ≡ with_items (with_items (with_items no_slot a) b) c = items_joined no_slot a (b ++ c) ∙ items_joined (with_items no_slot a) b c in
    subst (λ (x : SlotContent). Spaced x.words) (sym e) third
  where
    described : (c : SlotContent) (b : Bool) → Spaced c.words → Spaced (with_items c (items_if b (descriptor_item s r ∷ number 0 ∷ []))).words
    described c true h = pair_spaced c (descriptor_item s r) 0 h
    described c false h = h

address_plain : (s : Setting) (far : Option ℕ) (r : Resolution) → AllPlain (address_items s far r)
address_plain s far r = (
  plain_if (has_flag r.flags canonical_plt) _ _ (plain_named r.dynamic_symbol_index (λ d. plt JumpSlot d 0) (λ d. refl))
      (plain_if (has_dynamic_symbol r.flags) _ _ (plain_named r.dynamic_symbol_index (λ d. general GotEntry d 0) (λ d. refl))
      (plain_if (has_flag r.flags ifunc) _ _ refl
      (plain_if (is_position_independent s.kind && has_link_time_address r.flags) _ _ (moving s.relr) tt))),
  plain_join (stub_items far r.plt_address) (ifunc_address_items s r ++ canonical_address_items s r) (of_stub r.plt_address)
      (plain_join (ifunc_address_items s r) (canonical_address_items s r)
      (plain_where (has_flag r.flags ifunc_got_for_address) (stub_address s r.plt_address ∷ []) (of_address r.plt_address, tt))
      (plain_where (has_flag r.flags canonical_plt_got_for_address) _ (plain_named r.dynamic_symbol_index (λ d. general GotEntry d 0) (λ d. refl), tt))),
)
  where
    moving : (b : Bool) → IsNarrow (if b then InRelrGot r.raw_value else Address r.raw_value)
    moving true = tt
    moving false = tt

    of_far : (o : Option ℕ) → IsPlain (stub_item o)
    of_far None = tt
    of_far (Some d) = tt

    of_stub : (o : Option ℕ) → AllPlain (stub_items far o)
    of_stub None = tt
    of_stub (Some p) = (of_far far, tt)

    of_address : (o : Option ℕ) → IsPlain (stub_address s o)
    of_address None = tt
    of_address (Some p) = plain_if (is_position_independent s.kind) _ _ tt tt

pub words_spaced : (l : Layout) (s : Symbol) → Spaced (slots_of l s).words
unfolding slots_of slot
words_spaced l s = by_resolution s.resolution
  where
    by_kind : (r : Resolution) (b : Bool) → Spaced (with_items no_slot (if b then thread_items (setting_of l) r else address_items (setting_of l) (distance_if_too_far l r) r)).words
    by_kind r true = thread_spaced (setting_of l) r
    by_kind r false = all_plain no_slot (address_items (setting_of l) (distance_if_too_far l r) r) (address_plain (setting_of l) (distance_if_too_far l r) r) tt

    by_place : (r : Resolution) (o : Option ℕ) → Spaced (with_items no_slot (items_at (setting_of l) (distance_if_too_far l r) r o)).words
    by_place r None = tt
    by_place r (Some a) = by_kind r (has_thread_slot r.flags)

    by_resolution : (o : Option Resolution) → Spaced (resolved_slots l o).words
    by_resolution None = tt
    by_resolution (Some r) = by_place r r.got_address

-- ---- sites

-- the same of words at their places
abbrev pub SitesSpaced : List SlotSite → Type 0
SitesSpaced [] = ⊤
SitesSpaced (x ∷ []) = IsNarrow x.word
SitesSpaced (x ∷ y ∷ xs) = (IsNarrow x.word ⊎ (IsNumber y.word × (y.at ≡ next x.at))) × SitesSpaced (y ∷ xs)

sites_join : (xs ys : List SlotSite) → SitesSpaced xs → SitesSpaced ys → SitesSpaced (xs ++ ys)
sites_join [] ys h k = k
sites_join (w ∷ []) [] h k = h
sites_join (w ∷ []) (y ∷ ys) h k = (inl h, k)
sites_join (w ∷ x ∷ xs) ys h k = (h.0, sites_join (x ∷ xs) ys h.1 k)

sites_made : {X : Type 0} (f : X → List SlotSite) (xs : List X) → ((x : X) → SitesSpaced (f x)) → SitesSpaced (flat_map f xs)
sites_made f [] h = tt
sites_made f (x ∷ xs) h = sites_join (f x) (flat_map f xs) (h x) (sites_made f xs h)

sites_spaced : (at : ℕ) (ws : List SlotWord) → Spaced ws → SitesSpaced (sites_at at ws)
sites_spaced at [] h = tt
sites_spaced at (w ∷ []) h = h
sites_spaced at (w ∷ x ∷ ws) h = (elim h.0 [ inl n ↦ inl n | inr n ↦ inr (n, refl) ], sites_spaced (next at) (x ∷ ws) h.1)

module_width : (k : DynamicRelocationKind) (i a : ℕ) → k ≡ DtpMod → filled_width (record { kind = k; symbol = i; addend = a }) ≡ 8
module_width k i a e = ap (λ (x : DynamicRelocationKind). filled_width (record { kind = x; symbol = i; addend = a })) e

pair_narrow : (w : SlotWord) → IsPairWord w → IsNarrow w
pair_narrow (Number n) h = tt
pair_narrow (Address a) h = tt
pair_narrow (InRelrGot a) h = tt
pair_narrow (Plt e) h = absurd h
pair_narrow (General e) h = module_width e.kind e.symbol e.addend h

words_of_pair : (ws : List SlotWord) → All IsPairWord ws → Spaced ws
words_of_pair [] h = tt
words_of_pair (w ∷ []) h = pair_narrow w (All-head IsPairWord w [] h)
words_of_pair (w ∷ x ∷ ws) h = (inl (pair_narrow w (All-head IsPairWord w (x ∷ ws) h)), words_of_pair (x ∷ ws) (All-tail IsPairWord w (x ∷ ws) h))

-- all words of the table of slots
pub all_spaced : (l : Layout) → SitesSpaced (got_sites l)
all_spaced l =
    sites_join (pair_sites l) (all_sites l)
    (sites_spaced (unwrap_or l.tlsld 0) (storage_words l) (words_of_pair (storage_words l) (pair_words l)))
    (sites_made (group_sites l) l.groups (λ g. sites_made (file_sites l) g.files (λ f. sites_made (symbol_sites l) (own_symbols l f) (λ s. sites_spaced (slots_address s) (slots_of l s).words (words_spaced l s)))))
