-- The writer's value of a symbol is the symbol's address.
use Rattle.wild_references.proofs.Common.{◌≡◌, ℕ, ◌+◌, ◌%◌, ◌^◌, ◌⊎◌, inl, inr, true, false, refl, sym, ap, ◌∙◌, subst, Option, Some, None, slice_get, option_and_then, option_map, ◌==◌, cases_Bool, ne_eqb, and_parts, not-true, or_cases, Place, Symbol, Resolution, InputSection, File, Layout, canonical, raw_value, IsSymbol, IsDefinedBy, IsLocatedAt, IsResolved, IsUnresolved, HasRaw}
use Rattle.wild_types.specs.declared.symbol.Place.TheVariants as at
use Rattle.wild_types.specs.declared.input.Slot.{Slot}
use Rattle.wild_types.specs.declared.input.Slot.TheVariants as slot
use Rattle.wild_types.specs.Lookups.{has_address, is_discarded, files_of, file_of, is_allocated_part}
use Rattle.wild_types.specs.Addresses.{resolved_or, placed_value, address_at, address_in_file, address_in_section}
use Rattle.wild_meaning.specs.Section.{IsAllocatedPart, IsPlaced}
use Rattle.wild_meaning.specs.Value.{IsOwnFile}
use Rattle.wild_meaning.proofs.BitLemmas.{alloc_bit}

-- ---- where a symbol stands

not_discarded : (s : Slot) → is_discarded s ≡ false → s ≡ slot.Discard → ⊥
not_discarded s h e = let t : is_discarded s ≡ is_discarded slot.Discard = ap is_discarded e in cc

-- a part that the reader sees in memory the writer sees there too
allocated_part : (l : Layout) (n : ℕ) → IsAllocatedPart l n → is_allocated_part l n ≡ true
allocated_part l n h =
    let real : (h.part.section == 0) ≡ false = ne_eqb h.part.section 0 h.named in
    let room = alloc_bit h.section.flags h.room in
    rw (h.listed, h.found, real, room) refl

not_allocated : (l : Layout) (n : ℕ) → is_allocated_part l n ≡ false → IsAllocatedPart l n → ⊥
not_allocated l n f h = (let t = allocated_part l n h in cc)

is_placed : (l : Layout) (s : InputSection) → has_address l s ≡ true → IsPlaced l s
is_placed l s h =
    let parts = and_parts _ _ h in
    record {
      kept = not_discarded s.slot (not-true _ parts.0);
      address = elim (or_cases _ _ parts.1) [
        | inl a ↦ inl (λ z. zero_not s.address (not-true _ a) z)
        | inr b ↦ inr (not_allocated l s.part (not-true _ b))
      ];
    }
  where
    zero_not : (a : ℕ) → (a == 0) ≡ false → a ≡ 0 → ⊥
    zero_not a f z = let t : (a == 0) ≡ true = rw z refl in cc

section_stands : (l : Layout) (i a n : ℕ) (symbol : Symbol) (f : File) (o : Option InputSection) → IsSymbol l i symbol → symbol.place ≡ at.Section n → IsOwnFile l i f → slice_get f.sections n ≡ o → address_in_section l symbol.value o ≡ Some a → IsLocatedAt l i a
section_stands l i a n symbol f None listed place own found h = cc
section_stands l i a n symbol f (Some s) listed place own found h =
    elim (cases_Bool (has_address l s)) [
      | inr none ↦ cc (rw none at h)
      | inl t ↦
          (let e : Some ((s.address + symbol.value) % 2 ^ 64) ≡ Some a = rw t at h in
          let same : (s.address + symbol.value) % 2 ^ 64 ≡ a = cc in
          record { symbol = symbol; listed = listed; number = n; place = place; file = f; own = own; section = s; found = found; placed = is_placed l s t; address = sym same })
    ]

file_stands : (l : Layout) (i a n : ℕ) (symbol : Symbol) (o : Option File) → IsSymbol l i symbol → symbol.place ≡ at.Section n → file_of (files_of l.groups) i ≡ o → address_in_file l n symbol.value o ≡ Some a → IsLocatedAt l i a
file_stands l i a n symbol None listed place is h = cc
file_stands l i a n symbol (Some f) listed place is h = section_stands l i a n symbol f (slice_get f.sections n) listed place is refl h

place_stands : (l : Layout) (i a : ℕ) (symbol : Symbol) (p : Place) → IsSymbol l i symbol → symbol.place ≡ p → address_at l i symbol.value p ≡ Some a → IsLocatedAt l i a
place_stands l i a symbol at.Undefined listed place h = cc
place_stands l i a symbol at.Absolute listed place h = cc
place_stands l i a symbol at.Common listed place h = cc
place_stands l i a symbol (at.Output k) listed place h = cc
place_stands l i a symbol (at.Section n) listed place h = file_stands l i a n symbol (file_of (files_of l.groups) i) listed place refl h

-- ---- the value

-- what was decided of a symbol, seen from the list
abbrev pub decided : Layout → ℕ → Option ℕ
decided l c = option_and_then (λ (s : Symbol). option_map (λ r. r.raw_value) s.resolution) (slice_get l.symbols c)

resolved_some : (l : Layout) (c a : ℕ) (o : Option Symbol) → slice_get l.symbols c ≡ o → option_and_then (λ (s : Symbol). option_map (λ r. r.raw_value) s.resolution) o ≡ Some a → IsResolved l c a
resolved_some l c a None is h = cc
resolved_some l c a (Some s) is h = inner l c a s s.resolution is refl h
  where
    inner : (l : Layout) (c a : ℕ) (s : Symbol) (r : Option Resolution) → slice_get l.symbols c ≡ Some s → s.resolution ≡ r → option_map (λ r. r.raw_value) r ≡ Some a → IsResolved l c a
    inner l c a s None is e h = cc
    inner l c a s (Some r) is e h = let same : r.raw_value ≡ a = cc in record { symbol = s; listed = is; resolution = r; decided = e; value = sym same }

resolved_none : (l : Layout) (c : ℕ) (o : Option Symbol) → slice_get l.symbols c ≡ o → option_and_then (λ (s : Symbol). option_map (λ r. r.raw_value) s.resolution) o ≡ None → IsUnresolved l c
resolved_none l c None is h = λ s e. (let f : None ≡ Some s = sym is ∙ e in cc)
resolved_none l c (Some t) is h = λ s e. (let same : t ≡ s = cc in subst (λ (x : Symbol). x.resolution ≡ None) same (inner t t.resolution refl h))
  where
    inner : (t : Symbol) (r : Option Resolution) → t.resolution ≡ r → option_map (λ r. r.raw_value) r ≡ None → t.resolution ≡ None
    inner t None e h = e
    inner t (Some r) e h = cc

given_by : (l : Layout) (i c a : ℕ) (symbol : Symbol) (d : Option ℕ) → IsSymbol l i symbol → decided l c ≡ d → resolved_or d (placed_value l i) ≡ Some a → IsResolved l c a ⊎ (IsUnresolved l c × IsLocatedAt l i a)
given_by l i c a symbol (Some v) listed is h =
    let same : v ≡ a = cc in
    inl (resolved_some l c a (slice_get l.symbols c) refl (is ∙ ap Some same))
given_by l i c a symbol None listed is h =
    let placed : address_at l i symbol.value symbol.place ≡ Some a = rw listed at h in
    inr (resolved_none l c (slice_get l.symbols c) refl is, place_stands l i a symbol symbol.place listed refl placed)

defined_by : (l : Layout) (i : ℕ) (symbol : Symbol) (d : Option ℕ) → IsSymbol l i symbol → symbol.definition ≡ d → (c : ℕ) × (canonical l i ≡ c) × IsDefinedBy l i c
defined_by l i symbol None listed is = (i, rw (listed, is) refl, record { symbol = symbol; listed = listed; defined = inr (is, refl) })
defined_by l i symbol (Some c) listed is = (c, rw (listed, is) refl, record { symbol = symbol; listed = listed; defined = inl is })

-- a symbol with a value is one of the layout's
listed_of : (l : Layout) (i a : ℕ) (o : Option Symbol) → slice_get l.symbols i ≡ o → raw_value l i ≡ Some a → (s : Symbol) × IsSymbol l i s
unfolding raw_value
listed_of l i a None is h = cc (rw (is, is) at h)
listed_of l i a (Some s) is h = (s, is)

pub has_raw : (l : Layout) (i a : ℕ) → raw_value l i ≡ Some a → HasRaw l i a
unfolding raw_value
has_raw l i a h =
    let s = listed_of l i a (slice_get l.symbols i) refl h in
    let d = defined_by l i s.0 s.0.definition s.1 refl in
    let h' : resolved_or (decided l d.0) (placed_value l i) ≡ Some a = rw d.1 at h in
    record { definition = d.0; defined = d.2; given = given_by l i d.0 a s.0 (decided l d.0) s.1 refl h' }
