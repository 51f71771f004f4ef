-- What is known of a relocation that writes a value: whether its symbol moves.
use Rattle.wild_references.proofs.Common.{◌≡◌, ℕ, ◌<◌, ◌⊎◌, inl, inr, Bool, true, false, refl, sym, ◌∙◌, length, Option, Some, None, if◌then◌else◌, not, ◌&&◌, ◌||◌, ◌==◌, cases_Bool, InputRelocation, Item, Layout, Treatment, has_flag, absolute, is_position_independent, is_shared_object, allocated, canonical, row_of, needs_symbolic, is_barred, is_narrow, needs_irelative, flags_at, moves, address_treatment, kind_treatment, row_accepts, treatment, field_width, RelocationKindInfo}
use Rattle.std.proofs.lemmas.Bool.{lt-ltb}
use Rattle.wild_slot.specs.declared.treatment.Treatment.TheVariants as treatments
use Rattle.wild_slot.specs.Treatment.{is_sized, relative_treatment, irelative_treatment, distance_treatment, pointer_treatment, size_treatment, named, if_defined, row_treatment}

-- the treatment goes by the row's kind, where the row takes the relocation's symbol and addend
pub treated_by : (l : Layout) (s : Item) (r : InputRelocation) (row : RelocationKindInfo) (t : Treatment) → row_of l.machine r.number ≡ Some row → treatment l s.flags r ≡ t → (treatments.Unsupported ≡ t → ⊥) → kind_treatment l s.flags r.number r.symbol row row.kind ≡ t
unfolding treatment row_treatment
treated_by l s r row t known is some = by_row (row_accepts l.machine r row) (rw known at is)
  where
    by_row : (b : Bool) → row_treatment l s.flags r.number r.symbol (if b then Some row else None) ≡ t → kind_treatment l s.flags r.number r.symbol row row.kind ≡ t
    by_row true h = h
    by_row false h = absurd (some h)

-- so the row takes them
pub suits_by : (l : Layout) (s : Item) (r : InputRelocation) (row : RelocationKindInfo) (t : Treatment) → row_of l.machine r.number ≡ Some row → treatment l s.flags r ≡ t → (treatments.Unsupported ≡ t → ⊥) → row_accepts l.machine r row ≡ true
unfolding treatment row_treatment
suits_by l s r row t known is some = by_row (row_accepts l.machine r row) (rw known at is)
  where
    by_row : (b : Bool) → row_treatment l s.flags r.number r.symbol (if b then Some row else None) ≡ t → b ≡ true
    by_row true h = refl
    by_row false h = absurd (some h)

-- ---- symbols

-- a value that needs a symbol has one
pub symbol_named : (symbol : Option ℕ) (by : ℕ → Treatment) (row : RelocationKindInfo) → named symbol by ≡ treatments.Value row → (i : ℕ) × (symbol ≡ Some i) × (by i ≡ treatments.Value row)
symbol_named None by row h = cc
symbol_named (Some i) by row h = (i, refl, h)

-- what does not move is in an output that does not, or is absolute
still_cases : (l : Layout) (i : ℕ) → moves l i ≡ false → (is_position_independent l.kind ≡ false) ⊎ (has_flag (flags_at l i) absolute ≡ true)
still_cases l i h = by_tests (is_position_independent l.kind) (has_flag (flags_at l i) absolute) h
  where
    by_tests : (a b : Bool) → (a && not b) ≡ false → (a ≡ false) ⊎ (b ≡ true)
    by_tests false b h = inl refl
    by_tests true true h = inr refl
    by_tests true false h = cc

is_no_value : (row : RelocationKindInfo) → relative_treatment row ≡ treatments.Value row → ⊥
is_no_value row h =
    elim (cases_Bool (field_width row == 8)) [
      | inl t ↦ cc (rw t at h)
      | inr f ↦ cc (rw f at h)
    ]

chosen_is_no_value : (row : RelocationKindInfo) (i : ℕ) → irelative_treatment row i ≡ treatments.Value row → ⊥
chosen_is_no_value row i h =
    elim (cases_Bool (field_width row == 8)) [
      | inl t ↦ cc (rw t at h)
      | inr f ↦ cc (rw f at h)
    ]

-- the value of an address that is written in memory does not move
pub address_still : (l : Layout) (s : Item) (n : ℕ) (row : RelocationKindInfo) (i : ℕ) → allocated s.flags ≡ true → address_treatment l s.flags n row i ≡ treatments.Value row → (is_position_independent l.kind ≡ false) ⊎ (has_flag (flags_at l i) absolute ≡ true)
address_still l s n row i room h = still_cases l i (by_tests (is_barred l s.flags n i || is_narrow l s.flags n) (needs_symbolic l s.flags row i) (needs_irelative l s.flags i) (allocated s.flags) (moves l i) room h)
  where
    by_tests : (barred left chosen room moving : Bool) → room ≡ true → (if barred then treatments.Recompile else (if left then treatments.Symbolic i else (if chosen then irelative_treatment row i else (if room && moving then relative_treatment row else treatments.Value row)))) ≡ treatments.Value row → moving ≡ false
    by_tests barred left chosen room false e h = refl
    by_tests true left chosen room true e h = cc
    by_tests false true chosen room true e h = cc
    by_tests false false true room true e h = absurd (chosen_is_no_value row i h)
    by_tests false false false false true e h = cc
    by_tests false false false true true e h = absurd (is_no_value row h)

-- an address that is written, or moves, is not left to an entry
pub address_kept : (l : Layout) (s : Item) (n : ℕ) (row : RelocationKindInfo) (i : ℕ) (t : Treatment) → address_treatment l s.flags n row i ≡ t → (treatments.Recompile ≡ t → ⊥) → (treatments.Symbolic i ≡ t → ⊥) → needs_symbolic l s.flags row i ≡ false
address_kept l s n row i t h no_recompile no_entry = by_tests (is_barred l s.flags n i || is_narrow l s.flags n) (needs_symbolic l s.flags row i) (if needs_irelative l s.flags i then irelative_treatment row i else (if allocated s.flags && moves l i then relative_treatment row else treatments.Value row)) h
  where
    by_tests : (barred left : Bool) (rest : Treatment) → (if barred then treatments.Recompile else (if left then treatments.Symbolic i else rest)) ≡ t → left ≡ false
    by_tests true left rest h = absurd (no_recompile h)
    by_tests false true rest h = absurd (no_entry h)
    by_tests false false rest h = refl

-- a distance without a symbol is in an output that does not move
pub distance_still : (l : Layout) (s : Item) (n : ℕ) (row : RelocationKindInfo) → allocated s.flags ≡ true → distance_treatment l s.flags n row None ≡ treatments.Value row → is_position_independent l.kind ≡ false
distance_still l s n row room h = by_tests (allocated s.flags) (is_position_independent l.kind) room h
  where
    by_tests : (a b : Bool) → a ≡ true → (if a && b then treatments.Recompile else treatments.Value row) ≡ treatments.Value row → b ≡ false
    by_tests a false e h = refl
    by_tests true true e h = cc
    by_tests false true e h = cc

-- a size that is written is not left to an entry
pub size_kept : (l : Layout) (s : Item) (row : RelocationKindInfo) (i : ℕ) → size_treatment l s.flags row i ≡ treatments.Value row → is_sized l s.flags i ≡ false
size_kept l s row i h = by_test (is_sized l s.flags i) h
  where
    by_test : (b : Bool) → (if b then treatments.Extent row i else treatments.Value row) ≡ treatments.Value row → b ≡ false
    by_test false h = refl
    by_test true h = cc

-- an offset from the thread pointer is written in no library
pub pointer_kept : (l : Layout) (s : Item) (row : RelocationKindInfo) → allocated s.flags ≡ true → pointer_treatment l s.flags row ≡ treatments.Value row → is_shared_object l.kind ≡ false
pointer_kept l s row room h = by_tests (allocated s.flags) (is_shared_object l.kind) room h
  where
    by_tests : (a b : Bool) → a ≡ true → (if a && b then treatments.Recompile else treatments.Value row) ≡ treatments.Value row → b ≡ false
    by_tests a false e h = refl
    by_tests true true e h = cc
    by_tests false true e h = cc

-- ---- symbols that are there

-- of a symbol whose definition is there the treatment is its own
pub there : (l : Layout) (row : RelocationKindInfo) (i : ℕ) (t : Treatment) → canonical l i < length l.symbols → if_defined l row i t ≡ t
there l row i t h = let e = lt-ltb (canonical l i) (length l.symbols) h in rw e refl

pub peeled : (l : Layout) (row : RelocationKindInfo) (i : ℕ) (t u : Treatment) → canonical l i < length l.symbols → if_defined l row i t ≡ u → t ≡ u
peeled l row i t u h e = sym (there l row i t h) ∙ e
