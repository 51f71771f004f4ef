-- Only the first word of a slot is one of the group's block, and only where addresses are packed.
use Rattle.std.proofs.Common.{◌≡◌, ℕ, Bool, true, false, List, [], ◌∷◌, ◌++◌, refl, ap, rules}
use Rattle.std.specs.Prelude.{if◌then◌else◌, ◌&&◌, Option, Some, None}
use Rattle.std.specs.List.{list_all, flat_map}
use Rattle.std.proofs.lemmas.Bool.{and_parts}
use Rattle.std.proofs.lemmas.List.Folds.{list_all-append}
use Rattle.wild_reloc.specs.declared.dynamic.DynamicRelocationKind.TheVariants.{GotEntry}
use Rattle.wild_types.specs.declared.file.File.{File}
use Rattle.wild_types.specs.declared.file.Group.{Group}
use Rattle.wild_types.specs.declared.layout.Layout.{Layout}
use Rattle.wild_slot.specs.declared.slot.Setting.{Setting}
use Rattle.wild_slot.specs.declared.slot.SlotWord.{SlotWord}
use Rattle.wild_slot.specs.declared.slot.SlotWord.TheVariants.{Address, InRelrGot}
use Rattle.wild_slot.specs.declared.slot.SlotItem.{SlotItem}
use Rattle.wild_slot.specs.declared.slot.SlotItem.TheVariants.{Word, Stub, Fault}
use Rattle.wild_slot.specs.declared.slot.SlotFault.{SlotFault}
use Rattle.wild_types.specs.declared.symbol.Resolution.{Resolution}
use Rattle.wild_types.specs.declared.symbol.Symbol.{Symbol}
use Rattle.wild_types.specs.Flags.{has_link_time_address}
use Rattle.wild_types.specs.Kinds.{is_position_independent}
use Rattle.wild_slot.specs.Slots.{SlotContent, setting_of, number, general, named, offset_item, module_item, module_offset, module_offset_item, described, descriptor_item, items_if, offset_items, module_items, descriptor_items, plain_item, stub_items, stub_address, ifunc_address_items, canonical_address_items, thread_items, address_items, items_at, with_item_by, with_item, with_items, no_slot, slot}
use Rattle.wild_slot.specs.SlotParts.{next, at_places, begins_relr_got}
use Rattle.wild_types.specs.SymbolSlots.{lacks_slots, slots_address, has_thread_slot}
use Rattle.wild_slot.specs.SymbolWords.{resolved_slots, slots_of}
use Rattle.wild_needs.specs.SlotShares.{relr_got_place, relr_got_places, group_relr_got}
use Rattle.wild_types.specs.FileSymbols.{own_symbols}
use Rattle.wild_slot.specs.MachineStub.{distance_if_too_far}
use Rattle.wild_needs.proofs.SlotShareLemmas.{no_slots}

-- ---- words that are none of the block

abbrev is_apart : SlotWord → Bool
is_apart (InRelrGot a) = false
is_apart other = true

-- all but the first are
abbrev tail_apart : List SlotWord → Bool
tail_apart [] = true
tail_apart (w ∷ ws) = list_all is_apart ws

abbrev item_apart : SlotItem → Bool
item_apart (Word w) = is_apart w
item_apart other = true

abbrev items_apart : List SlotItem → Bool
items_apart xs = list_all item_apart xs

-- ---- items

either : (b : Bool) (x y : SlotItem) → item_apart x ≡ true → item_apart y ≡ true → item_apart (if b then x else y) ≡ true
either true x y p q = p
either false x y p q = q

named_apart : (o : Option ℕ) (by : ℕ → SlotItem) → ((d : ℕ) → item_apart (by d) ≡ true) → item_apart (named o by) ≡ true
named_apart None by h = refl
named_apart (Some d) by h = h d

offset_apart : (s : Setting) (r : Resolution) → item_apart (offset_item s r) ≡ true
offset_apart s r = search (rules, either, named_apart)

module_apart : (s : Setting) (r : Resolution) → item_apart (module_item s r) ≡ true
module_apart s r = search (rules, either, named_apart)

module_offset_apart : (s : Setting) (raw : ℕ) (o : Option ℕ) → item_apart (module_offset s raw o) ≡ true
module_offset_apart s raw None = refl
module_offset_apart s raw (Some d) = refl

descriptor_apart : (s : Setting) (r : Resolution) (o : Option ℕ) → item_apart (described s r.flags r.raw_value o) ≡ true
descriptor_apart s r None = search (rules, either)
descriptor_apart s r (Some d) = search (rules, either)

stub_address_apart : (s : Setting) (o : Option ℕ) → item_apart (stub_address s o) ≡ true
stub_address_apart s None = refl
stub_address_apart s (Some stub) = search (rules, either)

stub_apart : (far stub : Option ℕ) → items_apart (stub_items far stub) ≡ true
stub_apart far None = refl
stub_apart None (Some stub) = refl
stub_apart (Some d) (Some stub) = refl

-- the address is one of the block only in an output that moves, with packed addresses
plain_apart : (s : Setting) (r : Resolution) → (s.relr && is_position_independent s.kind) ≡ false → item_apart (plain_item s r) ≡ true
plain_apart s r h = search (rules, either, named_apart, moved s.relr (is_position_independent s.kind) h)
  where
    moved : (relr moves : Bool) → (relr && moves) ≡ false → item_apart (if moves && has_link_time_address r.flags then Word (if relr then InRelrGot r.raw_value else Address r.raw_value) else number r.raw_value) ≡ true
    moved true true h = cc
    moved true false h = refl
    moved false moves h = search (rules, either)

-- ---- lists of items

where_apart : (b : Bool) (xs : List SlotItem) → items_apart xs ≡ true → items_apart (items_if b xs) ≡ true
where_apart true xs h = h
where_apart false xs h = refl

joined_apart : (xs ys : List SlotItem) → items_apart xs ≡ true → items_apart ys ≡ true → items_apart (xs ++ ys) ≡ true
joined_apart xs ys p q = rw (list_all-append item_apart xs ys, p, q) refl

one_apart : (x : SlotItem) → item_apart x ≡ true → items_apart (x ∷ []) ≡ true
one_apart x h = rw h refl

two_apart : (x y : SlotItem) → item_apart x ≡ true → item_apart y ≡ true → items_apart (x ∷ y ∷ []) ≡ true
two_apart x y h k = rw (h, k) refl

thread_apart : (s : Setting) (r : Resolution) → items_apart (thread_items s r) ≡ true
thread_apart s r =
    joined_apart (offset_items s r) _ (where_apart _ (offset_item s r ∷ []) (one_apart _ (offset_apart s r)))
    (joined_apart (module_items s r) (descriptor_items s r) (where_apart _ (module_item s r ∷ module_offset_item s r ∷ []) (two_apart _ _ (module_apart s r) (module_offset_apart s r.raw_value _)))
    (where_apart _ (descriptor_item s r ∷ number 0 ∷ []) (two_apart (descriptor_item s r) (number 0) (descriptor_apart s r r.dynamic_symbol_index) refl)))

-- all that stands behind the address
abbrev pub behind_plain : Setting → Option ℕ → Resolution → List SlotItem
behind_plain s far r = stub_items far r.plt_address ++ (ifunc_address_items s r ++ canonical_address_items s r)

behind_apart : (s : Setting) (far : Option ℕ) (r : Resolution) → items_apart (behind_plain s far r) ≡ true
behind_apart s far r =
    joined_apart (stub_items far r.plt_address) _ (stub_apart far r.plt_address)
    (joined_apart (ifunc_address_items s r) (canonical_address_items s r) (where_apart _ (stub_address s r.plt_address ∷ []) (one_apart _ (stub_address_apart s r.plt_address)))
    (where_apart _ (named r.dynamic_symbol_index (λ d. general GotEntry d 0) ∷ []) (one_apart _ (named_apart r.dynamic_symbol_index (λ d. general GotEntry d 0) (λ d. refl)))))

-- ---- words

-- what one more word apart keeps, such items keep
kept : (P : List SlotWord → Type 0) → ((ws : List SlotWord) (w : SlotWord) → is_apart w ≡ true → P ws → P (ws ++ w ∷ [])) → (c : SlotContent) (xs : List SlotItem) → items_apart xs ≡ true → P c.words → P (with_items c xs).words
kept P more c [] h p = p
kept P more c (x ∷ xs) h p =
    let q = and_parts (item_apart x) (items_apart xs) h in
    kept P more (with_item c x) xs q.1 (one c.fault x q.0)
  where
    one : (o : Option SlotFault) (x : SlotItem) → item_apart x ≡ true → P (with_item_by o c x).words
    one None (Word w) h = more c.words w h p
    one None Stub h = p
    one None (Fault f) h = p
    one (Some f) x h = p

more_apart : (ws : List SlotWord) (w : SlotWord) → is_apart w ≡ true → list_all is_apart ws ≡ true → list_all is_apart (ws ++ w ∷ []) ≡ true
more_apart ws w h p = rw (list_all-append is_apart ws (w ∷ []), p, h) refl

more_tail : (ws : List SlotWord) (w : SlotWord) → is_apart w ≡ true → tail_apart ws ≡ true → tail_apart (ws ++ w ∷ []) ≡ true
more_tail [] w h p = refl
more_tail (v ∷ ws) w h p = more_apart ws w h p

first_tail : (x : SlotItem) → tail_apart (with_item no_slot x).words ≡ true
first_tail (Word w) = refl
first_tail Stub = refl
first_tail (Fault f) = refl

-- ---- slots

slot_tail : (s : Setting) (far : Option ℕ) (r : Resolution) → tail_apart (slot s far r).words ≡ true
unfolding slot
slot_tail s far r = by_place r.got_address
  where
    by_thread : (b : Bool) → tail_apart (with_items no_slot (if b then thread_items s r else address_items s far r)).words ≡ true
    by_thread true = kept (λ ws. tail_apart ws ≡ true) more_tail no_slot (thread_items s r) (thread_apart s r) refl
    by_thread false = kept (λ ws. tail_apart ws ≡ true) more_tail (with_item no_slot (plain_item s r)) (behind_plain s far r) (behind_apart s far r) (first_tail (plain_item s r))

    by_place : (o : Option ℕ) → tail_apart (with_items no_slot (items_at s far r o)).words ≡ true
    by_place None = refl
    by_place (Some at) = by_thread (has_thread_slot r.flags)

slot_apart : (s : Setting) (far : Option ℕ) (r : Resolution) → (s.relr && is_position_independent s.kind) ≡ false → list_all is_apart (slot s far r).words ≡ true
unfolding slot
slot_apart s far r h = by_place r.got_address
  where
    address_apart : items_apart (address_items s far r) ≡ true
    address_apart = rw (plain_apart s r h, behind_apart s far r) refl

    by_thread : (b : Bool) → list_all is_apart (with_items no_slot (if b then thread_items s r else address_items s far r)).words ≡ true
    by_thread true = kept (λ ws. list_all is_apart ws ≡ true) more_apart no_slot (thread_items s r) (thread_apart s r) refl
    by_thread false = kept (λ ws. list_all is_apart ws ≡ true) more_apart no_slot (address_items s far r) address_apart refl

    by_place : (o : Option ℕ) → list_all is_apart (with_items no_slot (items_at s far r o)).words ≡ true
    by_place None = refl
    by_place (Some at) = by_thread (has_thread_slot r.flags)

-- ---- places

none_of_apart : (at : ℕ) (ws : List SlotWord) → list_all is_apart ws ≡ true → at_places relr_got_place at ws ≡ []
none_of_apart at [] h = refl
none_of_apart at (InRelrGot a ∷ ws) h = cc
none_of_apart at (other ∷ ws) h = none_of_apart (next at) ws h

head_alone : (at : ℕ) (ws : List SlotWord) → tail_apart ws ≡ true → at_places relr_got_place at ws ≡ (if begins_relr_got ws then at ∷ [] else [])
head_alone at [] h = refl
head_alone at (InRelrGot a ∷ ws) h = ap (λ ps. at ∷ ps) (none_of_apart (next at) ws h)
head_alone at (other ∷ ws) h = none_of_apart (next at) ws h

-- the first word alone may have a place in the block
block_places_are : (l : Layout) (s : Symbol) → relr_got_places l s ≡ (if begins_relr_got (slots_of l s).words then slots_address s ∷ [] else [])
unfolding slots_of
block_places_are l s = head_alone (slots_address s) (resolved_slots l s.resolution).words (by_resolution s.resolution)
  where
    by_resolution : (o : Option Resolution) → tail_apart (resolved_slots l o).words ≡ true
    by_resolution None = refl
    by_resolution (Some r) = slot_tail (setting_of l) (distance_if_too_far l r) r

-- and none has one where addresses are not packed
no_block_places : (l : Layout) (s : Symbol) → (l.options.relr && is_position_independent l.kind) ≡ false → relr_got_places l s ≡ []
unfolding slots_of
no_block_places l s h = none_of_apart (slots_address s) (resolved_slots l s.resolution).words (by_resolution s.resolution)
  where
    by_resolution : (o : Option Resolution) → list_all is_apart (resolved_slots l o).words ≡ true
    by_resolution None = refl
    by_resolution (Some r) = slot_apart (setting_of l) (distance_if_too_far l r) r h

pub no_block : (l : Layout) (g : Group) → (l.options.relr && is_position_independent l.kind) ≡ false → group_relr_got l g ≡ []
unfolding group_relr_got
no_block l g h = of_files g.files
  where
    of_symbols : (ss : List Symbol) → flat_map (relr_got_places l) ss ≡ []
    of_symbols [] = refl
    of_symbols (s ∷ ss) = rw (no_block_places l s h) (of_symbols ss)

    of_files : (fs : List File) → flat_map (λ (f : File). flat_map (relr_got_places l) (own_symbols l f)) fs ≡ []
    of_files [] = refl
    of_files (f ∷ fs) = rw (of_symbols (own_symbols l f)) (of_files fs)

-- ---- symbols without slots, and one with or without a slot in the block

pub places_without : (l : Layout) (ss : List Symbol) → list_all lacks_slots ss ≡ true → flat_map (relr_got_places l) ss ≡ []
places_without l [] h = refl
places_without l (s ∷ ss) h =
    let p = and_parts (lacks_slots s) (list_all lacks_slots ss) h in
    rw (no_slots l s p.0) (places_without l ss p.1)

pub placed : (l : Layout) (s : Symbol) → begins_relr_got (slots_of l s).words ≡ true → relr_got_places l s ≡ slots_address s ∷ []
placed l s h = rw (block_places_are l s, h) refl

pub unplaced : (l : Layout) (s : Symbol) → begins_relr_got (slots_of l s).words ≡ false → relr_got_places l s ≡ []
unplaced l s h = rw (block_places_are l s, h) refl
