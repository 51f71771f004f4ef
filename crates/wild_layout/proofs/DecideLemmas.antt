-- What a decision says of its relocation.
use Rattle.std.proofs.Common.{◌≡◌, ℕ, ◌+◌, ◌<◌, ◌≤◌, inl, inr, Bool, true, Some, refl, sym, ap, ◌∙◌, arith, subst, ℤ, ◌^◌}
use Rattle.std.specs.Prelude.{◌||◌, ⊤, Option, None, Result, Ok, Err, nat_lt, if◌then◌else◌, ◌==◌}
use Rattle.std.proofs.lemmas.Bool.{cases_Bool, ltb-true}
use Rattle.wild_types.specs.declared.kind.Machine.{Machine}
use Rattle.wild_types.specs.declared.kind.Machine.TheVariants as machine
use Rattle.wild_types.specs.declared.fault.Fault.{Fault}
use Rattle.wild_types.specs.declared.input.InputRelocation.{InputRelocation}
use Rattle.wild_types.specs.Item.{Item}
use Rattle.wild_types.specs.declared.layout.Layout.{Layout}
use Rattle.wild_slot.specs.declared.treatment.Treatment.{Treatment}
use Rattle.wild_slot.specs.declared.treatment.Treatment.TheVariants as treatments
use Rattle.wild_types.specs.Rows.{row_of, row_width, field_bytes}
use Rattle.wild_types.specs.Lookups.{place_of, packs, allocated}
use Rattle.wild_needs.specs.Entries.{has_dynamic_entry}
use Rattle.wild_slot.specs.SlotParts.{type_of}
use Rattle.wild_slot.specs.Slots.{is_replaceable}
use Rattle.wild_slot.specs.Treatment.{flags_at, treatment}
use Rattle.wild_reloc.specs.Field.{allows, field_width, size_width}
use Rattle.wild_reloc.specs.TableX86_64.{x86_64_rows, x86_64_row}
use Rattle.wild_reloc.specs.TableAArch64.{static_rows, thread_rows, static_row, thread_row}
use Rattle.wild_reloc.proofs.TableLemmas.{entry_passes, parts_pass}
use Rattle.wild_reloc.specs.declared.info.RelocationKind.{RelocationKind}
use Rattle.wild_reloc.specs.declared.info.RelocationKindInfo.{RelocationKindInfo}
use Rattle.wild_reloc.specs.declared.info.RelocationSize.{RelocationSize}
use Rattle.wild_reloc.specs.declared.info.RelocationSize.TheVariants.{ByteSize, BitMasking}
use Rattle.wild_reloc.specs.declared.info.Width.TheVariants.{Zero, One, Two, Four, Eight}
use Rattle.wild_reloc.specs.declared.dynamic.DynamicRelocationKind.TheVariants.{Absolute, Irelative}
use Rattle.wild_reloc.specs.declared.expression.Subtrahend.{Subtrahend}
use Rattle.wild_reloc.specs.declared.expression.Subtrahend.TheVariants as subtrahend
use Rattle.wild_reloc.specs.Expression.{expression_of}
use Rattle.wild_layout.specs.declared.decision.Decision.{Decision}
use Rattle.wild_layout.specs.declared.decision.Decision.TheVariants.{Nothing, Field, RelativeAddress, DynamicField}
use Rattle.wild_layout.specs.SymbolValues.{sum, symbol_size}
use Rattle.wild_layout.specs.SlotValues.{index_of, decided_address}
use Rattle.wild_layout.specs.Merged.{address_for}
use Rattle.wild_layout.specs.Values.{subtract, value_by, value_in, term_at}
use Rattle.wild_layout.specs.SectionPlaces.{FieldLies}
use Rattle.wild_layout.specs.Decide.{field_for, relative_decision, addend_bits, dynamic_decision, size_decision, ifunc_decision, decide_by, decided}
use Rattle.wild_layout.specs.DynamicRelocations.{dynamic_relocation_by, dynamic_relocation, entry_for}
use Rattle.wild_layout.proofs.ThunkFieldLemmas.{ComesTo, reached_by}
pub use Rattle.wild_slot.proofs.TreatmentLemmas.{has_value, HasValue, IsSilent}
use Rattle.wild_slot.proofs.TreatmentLemmas.{IsMovedBy, IsLeftBy, known_value, known_nothing, known_moved}
pub use Rattle.wild_slot.proofs.TreatmentLemmas.{known_symbolic, known_indirect, known_extent}

-- ---- rows

-- a kind that has a value has a field
abbrev has_field : RelocationKind → ℕ → Bool
has_field kind width = if has_value kind then nat_lt 0 width else true

field_of_kind : (k : RelocationKind) (width : ℕ) → HasValue k → has_field k width ≡ true → 0 < width
field_of_kind k width e h = ltb-true 0 width (rw e at h)

pub value_has_field : (m : Machine) (n : ℕ) (row : RelocationKindInfo) → row_of m n ≡ Some row → HasValue row.kind → 0 < field_width row
unfolding row_of x86_64_row static_row thread_row
value_has_field m n row known kind = field_of_kind row.kind (field_width row) kind (by_machine m known)
  where
    by_machine : (m : Machine) → row_of m n ≡ Some row → has_field row.kind (field_width row) ≡ true
    by_machine machine.X86_64 known = entry_passes (λ (m : ℕ) (r : RelocationKindInfo). has_field r.kind (field_width r)) x86_64_rows refl n row known
    by_machine machine.AArch64 known = parts_pass (λ (m : ℕ) (r : RelocationKindInfo). has_field r.kind (field_width r)) static_rows thread_rows refl refl n row known

-- ---- decisions

-- the relocation's row has a field of size z
pub record HasField (l : Layout) (r : InputRelocation) (z : RelocationSize) : Type 0 where
  pub row : RelocationKindInfo
  pub known : row_of l.machine r.number ≡ Some row
  pub kind : HasValue row.kind
  pub size : row.size ≡ z

-- a relocation that writes v into a field of size z
pub record IsField (l : Layout) (s : Item) (r : InputRelocation) (z : RelocationSize) (v : ℕ) : Type 0 where
  pub row : RelocationKindInfo
  pub known : row_of l.machine r.number ≡ Some row
  pub treated : treatment l s.flags r ≡ treatments.Value row
  pub kind : HasValue row.kind
  pub size : row.size ≡ z
  pub term : ℕ
  pub given : term_at l r row (place_of s.address r) ≡ Ok term
  pub comes : ComesTo l s r row (value_in l row term r.addend (place_of s.address r)) v
  pub allowed : allows row v ≡ true

-- a relocation that writes the address v, which moves with the base
pub record IsMoved (l : Layout) (s : Item) (r : InputRelocation) (v : ℕ) (packed : Bool) : Type 0 where
  pub row : RelocationKindInfo
  pub known : row_of l.machine r.number ≡ Some row
  pub treated : treatment l s.flags r ≡ treatments.BaseRelative
  pub by : IsMovedBy l s.flags r.symbol row
  pub address : ℕ
  pub given : address_for l r ≡ Ok address
  pub value : sum address r.addend ≡ v
  pub packs : packs l (place_of s.address r) ≡ packed

-- a relocation of a kind without a value
pub record IsNothing (l : Layout) (r : InputRelocation) : Type 0 where
  pub row : RelocationKindInfo
  pub known : row_of l.machine r.number ≡ Some row
  pub kind : IsSilent row.kind

field_from : (l : Layout) (s : Item) (r : InputRelocation) (row : RelocationKindInfo) (z : RelocationSize) (v : ℕ) (a : Result ℕ Fault) → row_of l.machine r.number ≡ Some row → treatment l s.flags r ≡ treatments.Value row → HasValue row.kind → term_at l r row (place_of s.address r) ≡ a → field_for l s r row a ≡ Ok (Field z v) → IsField l s r z v
field_from l s r row z v (Err f) known treated kind given h = cc
field_from l s r row z v (Ok a) known treated kind given h =
    let w = value_in l row a r.addend (place_of s.address r) in
    let f = reached_by l s r row w (Field z v) h in
    let is = f.is in
    let size : row.size ≡ z = cc in
    let value : f.value ≡ v = cc in
    record { row = row; known = known; treated = treated; kind = kind; size = size; term = a; given = given; comes = subst (ComesTo l s r row w) value f.comes; allowed = subst (λ (n : ℕ). allows row n ≡ true) value f.allowed }

-- a field that is left to an entry
abbrev IsLeftAlone : Decision → Type 0
IsLeftAlone (DynamicField z number symbol addend) = ⊤
IsLeftAlone other = ⊥

left_alone : (d : Decision) (z : RelocationSize) (number : ℕ) (r : InputRelocation) (i : ℕ) (o : Option ℕ) → dynamic_decision z number r i o ≡ Ok d → IsLeftAlone d
left_alone d z number r i None h = cc
left_alone d z number r i (Some index) h =
    let e : DynamicField z number index (addend_bits r) ≡ d = cc in
    subst IsLeftAlone e tt

-- a size that is left to an entry is in range, where it is known
pub record IsSizedTo (l : Layout) (r : InputRelocation) (row : RelocationKindInfo) (i : ℕ) (o : Result Decision Fault) (d : Decision) : Type 0 where
  pub left : o ≡ Ok d
  pub ranged : (is_replaceable l.kind (flags_at l i) || allows row (sum (symbol_size l i) r.addend)) ≡ true

pub sized_parts : (l : Layout) (r : InputRelocation) (row : RelocationKindInfo) (i : ℕ) (o : Result Decision Fault) (d : Decision) → size_decision l r row i o ≡ Ok d → IsSizedTo l r row i o d
sized_parts l r row i (Err f) d h = cc
sized_parts l r row i (Ok e) d h =
    elim (cases_Bool (is_replaceable l.kind (flags_at l i) || allows row (sum (symbol_size l i) r.addend))) [
      | inl t ↦ (let same : Ok e ≡ Ok d = rw t at h in record { left = same; ranged = t })
      | inr f ↦ cc (rw f at h)
    ]

-- the entry that it is left to
pub sized_left : (l : Layout) (r : InputRelocation) (row : RelocationKindInfo) (i : ℕ) (d : Decision) → size_decision l r row i (dynamic_decision row.size r.number r i (index_of l i)) ≡ Ok d → dynamic_decision row.size r.number r i (index_of l i) ≡ Ok d
sized_left l r row i d h = (sized_parts l r row i (dynamic_decision row.size r.number r i (index_of l i)) d h).left

chosen_alone : (d : Decision) (l : Layout) (r : InputRelocation) (a : Result ℕ Fault) → ifunc_decision l r a ≡ Ok d → IsLeftAlone d
chosen_alone d l r (Err f) h = cc
chosen_alone d l r (Ok resolver) h =
    elim (cases_Bool (addend_bits r == 0)) [
      | inr f ↦ cc (rw f at h)
      | inl t ↦
          (let made : Ok (DynamicField (ByteSize Eight) (type_of l.machine Irelative) 0 resolver) ≡ Ok d = rw t at h in
          let e : DynamicField (ByteSize Eight) (type_of l.machine Irelative) 0 resolver ≡ d = cc in
          subst IsLeftAlone e tt)
    ]

moved_is_no_field : (l : Layout) (s : Item) (r : InputRelocation) (z : RelocationSize) (v : ℕ) (a : Result ℕ Fault) → relative_decision l s r a ≡ Ok (Field z v) → ⊥
moved_is_no_field l s r z v (Err f) h = cc
moved_is_no_field l s r z v (Ok a) h = cc

treated_field : (l : Layout) (s : Item) (r : InputRelocation) (t : Treatment) (z : RelocationSize) (v : ℕ) → treatment l s.flags r ≡ t → decide_by l s r t ≡ Ok (Field z v) → IsField l s r z v
treated_field l s r treatments.Nothing z v is h = cc
treated_field l s r (treatments.Value row) z v is h = let k = known_value l s.flags r row is in field_from l s r row z v (term_at l r row (place_of s.address r)) k.0 is k.1 refl h
treated_field l s r treatments.BaseRelative z v is h = absurd (moved_is_no_field l s r z v (address_for l r) h)
treated_field l s r (treatments.Symbolic i) z v is h = absurd (left_alone (Field z v) (ByteSize Eight) (type_of l.machine Absolute) r i (index_of l i) h)
treated_field l s r (treatments.Indirect i) z v is h = absurd (chosen_alone (Field z v) l r (decided_address l i) h)
treated_field l s r (treatments.Extent row i) z v is h = absurd (left_alone (Field z v) row.size r.number r i (index_of l i) (sized_left l r row i (Field z v) h))
treated_field l s r treatments.Recompile z v is h = cc
treated_field l s r treatments.Unsupported z v is h = cc

pub decided_field : (l : Layout) (s : Item) (r : InputRelocation) (z : RelocationSize) (v : ℕ) → decided l s r ≡ Ok (Field z v) → IsField l s r z v
unfolding decided
decided_field l s r z v h = treated_field l s r (treatment l s.flags r) z v refl h

value_is_not_moved : (l : Layout) (s : Item) (r : InputRelocation) (row : RelocationKindInfo) (v : ℕ) (packed : Bool) (a : Result ℕ Fault) → field_for l s r row a ≡ Ok (RelativeAddress v packed) → ⊥
value_is_not_moved l s r row v packed (Err f) h = cc
value_is_not_moved l s r row v packed (Ok a) h = let e = (reached_by l s r row (value_in l row a r.addend (place_of s.address r)) (RelativeAddress v packed) h).is in cc

moved_from : (l : Layout) (s : Item) (r : InputRelocation) (v : ℕ) (packed : Bool) (a : Result ℕ Fault) → treatment l s.flags r ≡ treatments.BaseRelative → address_for l r ≡ a → relative_decision l s r a ≡ Ok (RelativeAddress v packed) → IsMoved l s r v packed
moved_from l s r v packed (Err f) treated is h = cc
moved_from l s r v packed (Ok a) treated is h =
    let k = known_moved l s.flags r treated in
    let value : sum a r.addend ≡ v = cc in
    let same : packs l (place_of s.address r) ≡ packed = cc in
    record { row = k.0; known = k.1; treated = treated; by = k.2; address = a; given = is; value = value; packs = same }

treated_moved : (l : Layout) (s : Item) (r : InputRelocation) (t : Treatment) (v : ℕ) (packed : Bool) → treatment l s.flags r ≡ t → decide_by l s r t ≡ Ok (RelativeAddress v packed) → IsMoved l s r v packed
treated_moved l s r treatments.Nothing v packed is h = cc
treated_moved l s r (treatments.Value row) v packed is h = absurd (value_is_not_moved l s r row v packed (term_at l r row (place_of s.address r)) h)
treated_moved l s r treatments.BaseRelative v packed is h = moved_from l s r v packed (address_for l r) is refl h
treated_moved l s r (treatments.Symbolic i) v packed is h = absurd (left_alone (RelativeAddress v packed) (ByteSize Eight) (type_of l.machine Absolute) r i (index_of l i) h)
treated_moved l s r (treatments.Indirect i) v packed is h = absurd (chosen_alone (RelativeAddress v packed) l r (decided_address l i) h)
treated_moved l s r (treatments.Extent row i) v packed is h = absurd (left_alone (RelativeAddress v packed) row.size r.number r i (index_of l i) (sized_left l r row i (RelativeAddress v packed) h))
treated_moved l s r treatments.Recompile v packed is h = cc
treated_moved l s r treatments.Unsupported v packed is h = cc

pub decided_moved : (l : Layout) (s : Item) (r : InputRelocation) (v : ℕ) (packed : Bool) → decided l s r ≡ Ok (RelativeAddress v packed) → IsMoved l s r v packed
unfolding decided
decided_moved l s r v packed h = treated_moved l s r (treatment l s.flags r) v packed refl h

-- ---- fields

pub field_has : (l : Layout) (s : Item) (r : InputRelocation) (z : RelocationSize) (v : ℕ) → IsField l s r z v → HasField l r z
field_has l s r z v f = record { row = f.row; known = f.known; kind = f.kind; size = f.size }

-- a field of 8 bytes is whole bytes
eight_bytes : (z : RelocationSize) → size_width z ≡ 8 → z ≡ ByteSize Eight
eight_bytes (ByteSize Zero) h = cc
eight_bytes (ByteSize One) h = cc
eight_bytes (ByteSize Two) h = cc
eight_bytes (ByteSize Four) h = cc
eight_bytes (ByteSize Eight) h = refl
eight_bytes (BitMasking m) h = cc

pub moved_has : (l : Layout) (s : Item) (r : InputRelocation) (v : ℕ) (packed : Bool) → IsMoved l s r v packed → HasField l r (ByteSize Eight)
moved_has l s r v packed m = record {
  row = m.row;
  known = m.known;
  kind = ap has_value m.by.kind;
  size = eight_bytes m.row.size m.by.width;
}

-- its field has bytes, those of its row
pub field_has_bytes : (l : Layout) (r : InputRelocation) (z : RelocationSize) → HasField l r z → 0 < size_width z
field_has_bytes l r z f = subst (λ (x : RelocationSize). 0 < size_width x) f.size (value_has_field l.machine r.number f.row f.known f.kind)

pub field_bytes_are : (l : Layout) (r : InputRelocation) (z : RelocationSize) → HasField l r z → field_bytes l.machine r.number ≡ size_width z
field_bytes_are l r z f = ap row_width f.known ∙ ap size_width f.size

-- and lies where the clauses say
pub field_ends : (l : Layout) (r : InputRelocation) (z : RelocationSize) (n : ℕ) → HasField l r z → FieldLies l.machine n r → r.offset + size_width z ≤ n
field_ends l r z n f (inl none) = let w = field_bytes_are l r z f in let some = field_has_bytes l r z f in absurd (omega (arith, w, some, none))
field_ends l r z n f (inr ends) = let w = field_bytes_are l r z f in omega (arith, w, ends)

-- ---- nothing

value_is_some : (l : Layout) (s : Item) (r : InputRelocation) (row : RelocationKindInfo) (a : Result ℕ Fault) → field_for l s r row a ≡ Ok Nothing → ⊥
value_is_some l s r row (Err f) h = cc
value_is_some l s r row (Ok a) h = let e = (reached_by l s r row (value_in l row a r.addend (place_of s.address r)) Nothing h).is in cc

moved_is_some : (l : Layout) (s : Item) (r : InputRelocation) (a : Result ℕ Fault) → relative_decision l s r a ≡ Ok Nothing → ⊥
moved_is_some l s r (Err f) h = cc
moved_is_some l s r (Ok a) h = cc

treated_nothing : (l : Layout) (s : Item) (r : InputRelocation) (t : Treatment) → treatment l s.flags r ≡ t → decide_by l s r t ≡ Ok Nothing → IsNothing l r
treated_nothing l s r treatments.Nothing is h = let k = known_nothing l s.flags r is in record { row = k.0; known = k.1; kind = k.2 }
treated_nothing l s r (treatments.Value row) is h = absurd (value_is_some l s r row (term_at l r row (place_of s.address r)) h)
treated_nothing l s r treatments.BaseRelative is h = absurd (moved_is_some l s r (address_for l r) h)
treated_nothing l s r (treatments.Symbolic i) is h = absurd (left_alone Nothing (ByteSize Eight) (type_of l.machine Absolute) r i (index_of l i) h)
treated_nothing l s r (treatments.Indirect i) is h = absurd (chosen_alone Nothing l r (decided_address l i) h)
treated_nothing l s r (treatments.Extent row i) is h = absurd (left_alone Nothing row.size r.number r i (index_of l i) (sized_left l r row i Nothing h))
treated_nothing l s r treatments.Recompile is h = cc
treated_nothing l s r treatments.Unsupported is h = cc

pub decided_nothing : (l : Layout) (s : Item) (r : InputRelocation) → decided l s r ≡ Ok Nothing → IsNothing l r
unfolding decided
decided_nothing l s r h = treated_nothing l s r (treatment l s.flags r) refl h

-- ---- fields that are left to entries

-- a relocation whose field of size z is left to an entry of that number, with that index and addend
pub record IsLeft (l : Layout) (s : Item) (r : InputRelocation) (z : RelocationSize) (number symbol addend : ℕ) : Type 0 where
  pub field : HasField l r z
  pub room : allocated s.flags ≡ true
  pub treated : Treatment
  pub is : treatment l s.flags r ≡ treated
  pub left : has_dynamic_entry treated ≡ true
  pub made : decide_by l s r treated ≡ Ok (DynamicField z number symbol addend)
  pub entry : dynamic_relocation l s.address s.flags r ≡ entry_for (place_of s.address r) number symbol addend

-- of an address in 8 bytes
left_field : (l : Layout) (s : Item) (r : InputRelocation) (row : RelocationKindInfo) (i : ℕ) → row_of l.machine r.number ≡ Some row → IsLeftBy s.flags r.symbol row i → HasField l r (ByteSize Eight)
left_field l s r row i known by = record { row = row; known = known; kind = ap has_value by.kind; size = eight_bytes row.size by.width }

-- what is left to an entry that names a symbol
record IsLeftTo (z x : RelocationSize) (number n symbol addend a : ℕ) (o : Option ℕ) : Type 0 where
  size : z ≡ x
  type_is : number ≡ n
  index : o ≡ Some symbol
  more : a ≡ addend

left_parts : (z x : RelocationSize) (number n symbol addend : ℕ) (r : InputRelocation) (i : ℕ) (o : Option ℕ) → dynamic_decision z number r i o ≡ Ok (DynamicField x n symbol addend) → IsLeftTo z x number n symbol addend (addend_bits r) o
left_parts z x number n symbol addend r i None h = cc
left_parts z x number n symbol addend r i (Some index) h =
    let size : z ≡ x = cc in
    let same : number ≡ n = cc in
    let there : index ≡ symbol = cc in
    let more : addend_bits r ≡ addend = cc in
    record { size = size; type_is = same; index = ap (λ (k : ℕ). Some k) there; more = more }

chosen_parts : (l : Layout) (x : RelocationSize) (n symbol addend : ℕ) (r : InputRelocation) (a : Result ℕ Fault) → ifunc_decision l r a ≡ Ok (DynamicField x n symbol addend) → (ByteSize Eight ≡ x) × (type_of l.machine Irelative ≡ n) × (0 ≡ symbol) × (a ≡ Ok addend)
chosen_parts l x n symbol addend r (Err f) h = cc
chosen_parts l x n symbol addend r (Ok resolver) h =
    elim (cases_Bool (addend_bits r == 0)) [
      | inr f ↦ cc (rw f at h)
      | inl t ↦
          (let e : Ok (DynamicField (ByteSize Eight) (type_of l.machine Irelative) 0 resolver) ≡ Ok (DynamicField x n symbol addend) = rw t at h in
          let size : ByteSize Eight ≡ x = cc in
          let same : type_of l.machine Irelative ≡ n = cc in
          let none : 0 ≡ symbol = cc in
          let is : resolver ≡ addend = cc in
          (size, same, none, ap (λ (k : ℕ). Ok k) is))
    ]

value_is_not_left : (l : Layout) (s : Item) (r : InputRelocation) (row : RelocationKindInfo) (z : RelocationSize) (n symbol addend : ℕ) (a : Result ℕ Fault) → field_for l s r row a ≡ Ok (DynamicField z n symbol addend) → ⊥
value_is_not_left l s r row z n symbol addend (Err f) h = cc
value_is_not_left l s r row z n symbol addend (Ok a) h = let e = (reached_by l s r row (value_in l row a r.addend (place_of s.address r)) (DynamicField z n symbol addend) h).is in cc

moved_is_not_left : (l : Layout) (s : Item) (r : InputRelocation) (z : RelocationSize) (n symbol addend : ℕ) (a : Result ℕ Fault) → relative_decision l s r a ≡ Ok (DynamicField z n symbol addend) → ⊥
moved_is_not_left l s r z n symbol addend (Err f) h = cc
moved_is_not_left l s r z n symbol addend (Ok a) h = cc

treated_left : (l : Layout) (s : Item) (r : InputRelocation) (t : Treatment) (z : RelocationSize) (n symbol addend : ℕ) → treatment l s.flags r ≡ t → decide_by l s r t ≡ Ok (DynamicField z n symbol addend) → IsLeft l s r z n symbol addend
treated_left l s r treatments.Nothing z n symbol addend is h = cc
treated_left l s r (treatments.Value row) z n symbol addend is h = absurd (value_is_not_left l s r row z n symbol addend (term_at l r row (place_of s.address r)) h)
treated_left l s r treatments.BaseRelative z n symbol addend is h = absurd (moved_is_not_left l s r z n symbol addend (address_for l r) h)
treated_left l s r (treatments.Symbolic i) z n symbol addend is h =
    let k = known_symbolic l s.flags r i is in
    let p = left_parts (ByteSize Eight) z (type_of l.machine Absolute) n symbol addend r i (index_of l i) h in
    record {
      field = subst (HasField l r) p.size (left_field l s r k.0 i k.1 k.2);
      room = k.2.room;
      treated = treatments.Symbolic i;
      is = is;
      left = refl;
      made = h;
      entry = ap (dynamic_relocation_by l s.address r) is ∙ same p.type_is p.index p.more;
    }
  where
    same : type_of l.machine Absolute ≡ n → index_of l i ≡ Some symbol → addend_bits r ≡ addend → dynamic_relocation_by l s.address r (treatments.Symbolic i) ≡ entry_for (place_of s.address r) n symbol addend
    same e f g = rw (e, f, g) refl
treated_left l s r (treatments.Indirect i) z n symbol addend is h =
    let k = known_indirect l s.flags r i is in
    let p = chosen_parts l z n symbol addend r (decided_address l i) h in
    record {
      field = subst (HasField l r) p.0 (left_field l s r k.0 i k.1 k.2);
      room = k.2.room;
      treated = treatments.Indirect i;
      is = is;
      left = refl;
      made = h;
      entry = ap (dynamic_relocation_by l s.address r) is ∙ same p.1 p.2 p.3;
    }
  where
    same : type_of l.machine Irelative ≡ n → 0 ≡ symbol → decided_address l i ≡ Ok addend → dynamic_relocation_by l s.address r (treatments.Indirect i) ≡ entry_for (place_of s.address r) n symbol addend
    same e f g = rw (e, sym f, g) refl
treated_left l s r (treatments.Extent row i) z n symbol addend is h =
    let k = known_extent l s.flags r row i is in
    let p = left_parts row.size z r.number n symbol addend r i (index_of l i) (sized_left l r row i (DynamicField z n symbol addend) h) in
    record {
      field = record { row = row; known = k.0; kind = ap has_value k.1.kind; size = p.size };
      room = k.1.room;
      treated = treatments.Extent row i;
      is = is;
      left = refl;
      made = h;
      entry = ap (dynamic_relocation_by l s.address r) is ∙ same p.type_is p.index p.more;
    }
  where
    same : r.number ≡ n → index_of l i ≡ Some symbol → addend_bits r ≡ addend → dynamic_relocation_by l s.address r (treatments.Extent row i) ≡ entry_for (place_of s.address r) n symbol addend
    same e f g = rw (e, f, g) refl
treated_left l s r treatments.Recompile z n symbol addend is h = cc
treated_left l s r treatments.Unsupported z n symbol addend is h = cc

pub decided_left : (l : Layout) (s : Item) (r : InputRelocation) (z : RelocationSize) (n symbol addend : ℕ) → decided l s r ≡ Ok (DynamicField z n symbol addend) → IsLeft l s r z n symbol addend
unfolding decided
decided_left l s r z n symbol addend h = treated_left l s r (treatment l s.flags r) z n symbol addend refl h

pub left_has : (l : Layout) (s : Item) (r : InputRelocation) (z : RelocationSize) (n symbol addend : ℕ) → IsLeft l s r z n symbol addend → HasField l r z
left_has l s r z n symbol addend h = h.field

-- a value is below 2 ^ 64
pub less_below : (l : Layout) (less : Subtrahend) (s p : ℕ) (a : ℤ) → subtract l less s a p < 2 ^ 64
less_below l subtrahend.Nothing s p a = omega arith
less_below l subtrahend.Place s p a = omega arith
less_below l subtrahend.GotBase s p a = omega arith
less_below l subtrahend.PageOfPlace s p a = omega arith
less_below l subtrahend.PageOfGot s p a = omega arith

pub value_below : (l : Layout) (kind : RelocationKind) (s p : ℕ) (a : ℤ) → value_by l kind s a p < 2 ^ 64
value_below l kind s p a = less_below l (expression_of kind).subtrahend s p a
