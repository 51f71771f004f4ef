-- Distances in an output that does not move.
use Rattle.std.proofs.Common.{◌≡◌, ℕ, Bool, true, false, Option, Some, None, refl, ap, ◌∙◌}
use Rattle.std.specs.Prelude.{if◌then◌else◌, ◌&&◌, ◌||◌, not}
use Rattle.wild_types.specs.declared.input.InputRelocation.{InputRelocation}
use Rattle.wild_types.specs.Item.{Item}
use Rattle.wild_types.specs.declared.layout.Layout.{Layout}
use Rattle.wild_slot.specs.declared.treatment.Treatment.{Treatment}
use Rattle.wild_slot.specs.declared.treatment.Treatment.TheVariants.{Value, Recompile}
use Rattle.wild_types.specs.Flags.{has_flag, interposable, dynamic, copy_relocation, plt_stub}
use Rattle.wild_types.specs.Kinds.{is_position_independent}
use Rattle.wild_types.specs.Lookups.{allocated, place_of}
use Rattle.wild_types.specs.Rows.{row_of}
use Rattle.wild_slot.specs.Treatment.{flags_at, has_no_local_address, is_barred_type, is_barred, distance_treatment, kind_treatment, row_that_accepts, row_treatment, treatment}
use Rattle.wild_reloc.specs.declared.info.RelocationKind.TheVariants.{Relative}
use Rattle.wild_reloc.specs.declared.info.RelocationKindInfo.{RelocationKindInfo}
use Rattle.wild_layout.specs.Values.{term_at}
use Rattle.wild_slot.proofs.TreatmentLemmas.{suited_x86_64}
use Rattle.wild_types.specs.declared.kind.Machine.TheVariants as machine
use Rattle.wild_layout.specs.Decide.{field_for, decided}

-- a test that asks for a moving output is none in a fixed one
no_test : (a m b c : Bool) (t u : Treatment) → m ≡ false → (if a && m && b && c then t else u) ≡ u
no_test true m b c t u h = rw h refl
no_test false m b c t u h = refl

no_last : (a m : Bool) (t u : Treatment) → m ≡ false → (if a && m then t else u) ≡ u
no_last true m t u h = rw h refl
no_last false m t u h = refl

fixed_distance : (l : Layout) (s : Item) (n : ℕ) (row : RelocationKindInfo) (symbol : Option ℕ) → is_position_independent l.kind ≡ false → distance_treatment l s.flags n row symbol ≡ Value row
fixed_distance l s n row None h = no_last (allocated s.flags) (is_position_independent l.kind) Recompile (Value row) h
fixed_distance l s n row (Some i) h = no_test (allocated s.flags) (is_position_independent l.kind) (is_barred_type l.machine n) (has_no_local_address (flags_at l i)) Recompile (Value row) h

-- what is decided of a distance of x86-64 is its value in the field, if that is its treatment
distance_decided : (l : Layout) (s : Item) (r : InputRelocation) (row : RelocationKindInfo) → row_of l.machine r.number ≡ Some row → row.kind ≡ Relative → l.machine ≡ machine.X86_64 → distance_treatment l s.flags r.number row r.symbol ≡ Value row
    → field_for l s r row (term_at l r row (place_of s.address r)) ≡ decided l s r
unfolding decided treatment row_treatment
distance_decided l s r row known kind x86 h =
    let t : kind_treatment l s.flags r.number r.symbol row row.kind ≡ Value row = ap (kind_treatment l s.flags r.number r.symbol row) kind ∙ h in
    let own : row_that_accepts l.machine r (row_of l.machine r.number) ≡ row_of l.machine r.number = suited_x86_64 l.machine r (row_of l.machine r.number) x86 in
    rw (own, known, t) refl

-- as in an output that does not move
pub fixed_decided : (l : Layout) (s : Item) (r : InputRelocation) (row : RelocationKindInfo) → row_of l.machine r.number ≡ Some row → row.kind ≡ Relative → l.machine ≡ machine.X86_64 → is_position_independent l.kind ≡ false
    → field_for l s r row (term_at l r row (place_of s.address r)) ≡ decided l s r
fixed_decided l s r row known kind x86 h = distance_decided l s r row known kind x86 (fixed_distance l s r.number row r.symbol h)

-- and for a symbol that no other module defines
pub known_decided : (l : Layout) (s : Item) (r : InputRelocation) (row : RelocationKindInfo) (i : ℕ) → row_of l.machine r.number ≡ Some row → row.kind ≡ Relative → l.machine ≡ machine.X86_64 → r.symbol ≡ Some i → is_barred l s.flags r.number i ≡ false
    → field_for l s r row (term_at l r row (place_of s.address r)) ≡ decided l s r
known_decided l s r row i known kind x86 named here =
    distance_decided l s r row known kind x86 (ap (distance_treatment l s.flags r.number row) named ∙ ap (λ (b : Bool). if b then Recompile else Value row) here)

none_at_end : (a b c d : Bool) → d ≡ false → (a && b && c && d) ≡ false
none_at_end true true true d h = h
none_at_end true true false d h = refl
none_at_end true false c d h = refl
none_at_end false b c d h = refl

none_in_front : (a b c d : Bool) → b ≡ false → (a && b && c && d) ≡ false
none_in_front true b c d h = rw h refl
none_in_front false b c d h = refl

-- no field is barred in an output that does not move
pub fixed_is_known : (l : Layout) (i : ℕ) → is_position_independent l.kind ≡ false → (flags n : ℕ) → is_barred l flags n i ≡ false
fixed_is_known l i h flags n = none_in_front (allocated flags) (is_position_independent l.kind) (is_barred_type l.machine n) (has_no_local_address (flags_at l i)) h

either_open : (a b c : Bool) → a ≡ false → b ≡ false → ((a || b) && c) ≡ false
either_open false b c g h = rw h refl
either_open true b c g h = cc

-- or for a symbol that is neither interposable nor another module's
pub own_is_known : (l : Layout) (i : ℕ) → interposable (flags_at l i) ≡ false → has_flag (flags_at l i) dynamic ≡ false → (flags n : ℕ) → is_barred l flags n i ≡ false
own_is_known l i own here flags n =
    none_at_end (allocated flags) (is_position_independent l.kind) (is_barred_type l.machine n) (has_no_local_address (flags_at l i)) (either_open (interposable (flags_at l i)) (has_flag (flags_at l i) dynamic) (not (has_flag (flags_at l i) copy_relocation || has_flag (flags_at l i) plt_stub)) own here)
