-- What slots take of the parts: a symbol without a slot takes nothing.
use Rattle.std.proofs.Common.{◌≡◌, ℕ, zero, suc, ◌+◌, ◌-◌, inl, inr, Bool, true, false, List, [], ◌∷◌, ◌++◌, length, take, drop, refl, sym, ap, ◌∙◌, arith}
use Rattle.std.specs.Prelude.{if◌then◌else◌, not, Option, Some, None, is_some, unwrap_or, replicate, slice_range}
use Rattle.std.specs.List.{list_all}
use Rattle.std.proofs.lemmas.Bool.{cases_Bool, and_parts, and_from}
use Rattle.std.proofs.lemmas.List.{length-append, length-replicate}
use Rattle.wild_types.specs.declared.file.File.{File}
use Rattle.wild_types.specs.declared.layout.Layout.{Layout}
use Rattle.wild_types.specs.declared.part.Role.{Role}
use Rattle.wild_types.specs.declared.part.Role.TheVariants as role
use Rattle.wild_slot.specs.declared.slot.Setting.{Setting}
use Rattle.wild_slot.specs.declared.slot_parts.WordPart.TheVariants as words
use Rattle.wild_types.specs.declared.symbol.Resolution.{Resolution}
use Rattle.wild_types.specs.declared.symbol.Symbol.{Symbol}
use Rattle.wild_types.specs.Kinds.{is_executable}
use Rattle.wild_types.specs.FileRoles.{writes_slots}
use Rattle.wild_types.specs.Lists.{total}
use Rattle.wild_slot.specs.SlotParts.{slot_words}
use Rattle.wild_types.specs.SymbolSlots.{lacks_slots, resolved_got}
use Rattle.wild_slot.specs.Slots.{setting_of, slot, no_slot, items_at, with_items, storage_pair}
use Rattle.wild_slot.specs.SymbolWords.{resolved_slots, slots_of}
use Rattle.wild_types.specs.FileSymbols.{own_symbols}
use Rattle.wild_needs.specs.SlotShares.{storage_at, header_words, symbol_share, is_slot_role, slot_share}
use Rattle.wild_slot.specs.MachineStub.{distance_if_too_far}

-- ---- a symbol without a slot

no_items : (c : Setting) (far : Option ℕ) (r : Resolution) (got : Option ℕ) → not (is_some got) ≡ true → with_items no_slot (items_at c far r got) ≡ no_slot
no_items c far r None h = refl
no_items c far r (Some at) h = cc

no_resolved : (l : Layout) (o : Option Resolution) → not (is_some (resolved_got o)) ≡ true → resolved_slots l o ≡ no_slot
unfolding slot
no_resolved l None h = refl
no_resolved l (Some r) h = no_items (setting_of l) (distance_if_too_far l r) r r.got_address h

pub no_slots : (l : Layout) (s : Symbol) → lacks_slots s ≡ true → slots_of l s ≡ no_slot
unfolding slots_of
no_slots l s h = no_resolved l s.resolution h

pub share_without : (l : Layout) (r : Role) (s : Symbol) → lacks_slots s ≡ true → symbol_share l r s ≡ 0
share_without l role.Got s h = let e = no_slots l s h in rw e refl
share_without l role.GotRelr s h = let e = no_slots l s h in rw e refl
share_without l role.PltGot s h = let e = no_slots l s h in rw e refl
share_without l role.RelaPlt s h = let e = no_slots l s h in rw e refl
share_without l role.RelaDynRelative s h = let e = no_slots l s h in rw e refl
share_without l role.RelaDynGeneral s h = let e = no_slots l s h in rw e refl
share_without l role.RelrDyn s h = let e = no_slots l s h in rw e refl
share_without l other s h = refl

-- ---- symbols without slots

pub total_without : (f : Symbol → ℕ) (ss : List Symbol) → ((s : Symbol) → lacks_slots s ≡ true → f s ≡ 0) → list_all lacks_slots ss ≡ true → total f ss ≡ 0
total_without f [] none h = refl
total_without f (s ∷ ss) none h =
    let p = and_parts (lacks_slots s) (list_all lacks_slots ss) h in
    let a = none s p.0 in
    let b = total_without f ss none p.1 in
    omega (arith, a, b)

pub slots_plain : (l : Layout) (r : Role) (f : File) → list_all lacks_slots (own_symbols l f) ≡ true → slot_share l r f ≡ 0
unfolding slot_share
slots_plain l r f h = total_without (symbol_share l r) (own_symbols l f) (share_without l r) h

-- ---- other parts

none_of_others : (l : Layout) (r : Role) (ss : List Symbol) → is_slot_role r ≡ false → total (symbol_share l r) ss ≡ 0
none_of_others l r [] h = refl
none_of_others l r (s ∷ ss) h =
    let a = here r h in
    let b = none_of_others l r ss h in
    omega (arith, a, b)
  where
    here : (r : Role) → is_slot_role r ≡ false → symbol_share l r s ≡ 0
    here role.Got h = cc
    here role.GotRelr h = cc
    here role.PltGot h = cc
    here role.RelaPlt h = cc
    here role.RelaDynRelative h = cc
    here role.RelaDynGeneral h = cc
    here role.RelrDyn h = cc
    here other h = refl

pub others_share : (l : Layout) (r : Role) (f : File) → is_slot_role r ≡ false → slot_share l r f ≡ 0
unfolding slot_share
others_share l r f h = none_of_others l r (own_symbols l f) h

-- ---- no symbol of the layout has a slot

without_taken : (n : ℕ) (ss : List Symbol) → list_all lacks_slots ss ≡ true → list_all lacks_slots (take n ss) ≡ true
without_taken zero ss h = refl
without_taken (suc n) [] h = refl
without_taken (suc n) (s ∷ ss) h =
    let p = and_parts (lacks_slots s) (list_all lacks_slots ss) h in
    and_from (lacks_slots s) (list_all lacks_slots (take n ss)) p.0 (without_taken n ss p.1)

without_left : (n : ℕ) (ss : List Symbol) → list_all lacks_slots ss ≡ true → list_all lacks_slots (drop n ss) ≡ true
without_left zero ss h = h
without_left (suc n) [] h = refl
without_left (suc n) (s ∷ ss) h = let p = and_parts (lacks_slots s) (list_all lacks_slots ss) h in without_left n ss p.1

without_range : (a b : ℕ) (ss : List Symbol) → list_all lacks_slots ss ≡ true → list_all lacks_slots (slice_range ss a b) ≡ true
without_range a b ss h = without_taken (b - a) (drop a ss) (without_left a ss h)

pub own_without : (l : Layout) (f : File) → list_all lacks_slots l.symbols ≡ true → list_all lacks_slots (own_symbols l f) ≡ true
own_without l f h = by_role (writes_slots f.role) (without_range f.first_symbol (f.first_symbol + f.symbol_count) l.symbols h)
  where
    by_role : (b : Bool) → list_all lacks_slots (slice_range l.symbols f.first_symbol (f.first_symbol + f.symbol_count)) ≡ true → list_all lacks_slots (if b then slice_range l.symbols f.first_symbol (f.first_symbol + f.symbol_count) else []) ≡ true
    by_role true e = e
    by_role false e = refl

-- ---- what stands once

pair_length : (l : Layout) (at : ℕ) → length (slot_words words.Got l.options.relr at (storage_pair (setting_of l))) ≡ 2
pair_length l at =
    elim (cases_Bool (is_executable l.kind)) [
      | inl t ↦ rw t refl
      | inr f ↦ rw f refl
    ]

behind_zeros : (n : ℕ) (xs : List ℕ) → length (replicate n 0 ++ xs) ≡ n + length xs
behind_zeros n xs = simp (length-append, length-replicate)

-- as many words as are reserved, and a pair where there is one
pub header_length : (l : Layout) (n : ℕ) → n ≡ (if is_some l.tlsld then 2 else 0) → length (header_words l) ≡ l.got_header + n
header_length l n h = behind_zeros l.got_header _ ∙ ap (λ k. l.got_header + k) (by_place l.tlsld ∙ sym h)
  where
    by_place : (o : Option ℕ) → length (slot_words words.Got l.options.relr (unwrap_or o 0) (storage_at (setting_of l) o)) ≡ (if is_some o then 2 else 0)
    by_place None = refl
    by_place (Some at) = pair_length l at
