-- What a treatment says of its relocation: the one inversion that all others cite.
use Rattle.std.proofs.Common.{◌≡◌, ℕ, ◌⊎◌, inl, inr, Bool, true, false, Option, Some, None, refl, sym, ap, ◌∙◌, subst}
use Rattle.std.specs.Prelude.{⊤, length, nat_lt, ◌&&◌, ◌||◌, ◌==◌}
use Rattle.std.proofs.lemmas.Bool.{eqb-true, and_parts}
use Rattle.wild_words.proofs.Basics.{of_if}
use Rattle.wild_types.specs.declared.input.InputRelocation.{InputRelocation}
use Rattle.wild_types.specs.declared.kind.Machine.{Machine}
use Rattle.wild_types.specs.declared.kind.Machine.TheVariants as machine
use Rattle.wild_types.specs.declared.layout.Layout.{Layout}
use Rattle.wild_types.specs.Flags.{has_flag, dynamic, ifunc, interposable}
use Rattle.wild_types.specs.Kinds.{is_position_independent, is_shared_object}
use Rattle.wild_types.specs.Lookups.{writable, allocated, canonical}
use Rattle.wild_types.specs.Rows.{row_of}
use Rattle.wild_reloc.specs.Field.{field_width}
use Rattle.wild_reloc.specs.Expression.{expression_of}
use Rattle.wild_reloc.specs.Expression as classes
use Rattle.wild_reloc.specs.declared.expression.Class.{Class}
use Rattle.wild_reloc.specs.declared.expression.Class.TheVariants as class
use Rattle.wild_reloc.specs.declared.info.RelocationKind.{RelocationKind}
use Rattle.wild_reloc.specs.declared.info.RelocationKind.TheVariants as kinds
use Rattle.wild_reloc.specs.declared.info.RelocationKindInfo.{RelocationKindInfo}
use Rattle.wild_slot.specs.declared.treatment.Treatment.{Treatment}
use Rattle.wild_slot.specs.declared.treatment.Treatment.TheVariants as treatments
use Rattle.wild_slot.specs.Treatment.{flags_at, needs_symbolic, is_barred, is_narrow, needs_irelative, is_sized, moves, address_treatment, distance_treatment, pointer_treatment, size_treatment, named, if_defined, class_treatment, row_treatment, row_accepts, row_that_accepts, treatment}

-- ---- kinds by their class

-- a kind that has a value
abbrev pub has_value : RelocationKind → Bool
has_value kind = classes.has_value (expression_of kind).class

abbrev pub HasValue : RelocationKind → Type 0
HasValue k = has_value k ≡ true

-- one that has none: nothing is relocated, or a descriptor is called
abbrev pub IsSilent : RelocationKind → Type 0
IsSilent k = (k ≡ kinds.None) ⊎ (k ≡ kinds.TlsDescCall)

nothing_kind : (k : RelocationKind) → (expression_of k).class ≡ class.Nothing → k ≡ kinds.None
nothing_kind kinds.None h = refl
nothing_kind other h = cc

mark_kind : (k : RelocationKind) → (expression_of k).class ≡ class.Mark → k ≡ kinds.TlsDescCall
mark_kind kinds.TlsDescCall h = refl
mark_kind other h = cc

address_kind : (k : RelocationKind) → (expression_of k).class ≡ class.Address → k ≡ kinds.Absolute
address_kind kinds.Absolute h = refl
address_kind other h = cc

extent_kind : (k : RelocationKind) → (expression_of k).class ≡ class.Extent → k ≡ kinds.SymbolSize
extent_kind kinds.SymbolSize h = refl
extent_kind other h = cc

-- ---- treatments

-- an address that moves is one of a symbol's, in 8 bytes of an allocated section
pub record IsMovedBy (l : Layout) (flags : ℕ) (symbol : Option ℕ) (row : RelocationKindInfo) : Type 0 where
  pub kind : row.kind ≡ kinds.Absolute
  pub width : field_width row ≡ 8
  pub number : ℕ
  pub named : symbol ≡ Some number
  pub moves : moves l number ≡ true
  pub room : allocated flags ≡ true

-- an address of symbol i that an entry fills stands in 8 bytes of an allocated section
pub record IsLeftBy (flags : ℕ) (symbol : Option ℕ) (row : RelocationKindInfo) (i : ℕ) : Type 0 where
  pub kind : row.kind ≡ kinds.Absolute
  pub width : field_width row ≡ 8
  pub named : symbol ≡ Some i
  pub room : allocated flags ≡ true

-- one that is left to a resolver is not left to an index, and a resolver chooses the symbol
pub record IsLeftToResolver (l : Layout) (flags : ℕ) (row : RelocationKindInfo) (i : ℕ) : Type 0 where
  pub own : needs_symbolic l flags row i ≡ false
  pub chosen : needs_irelative l flags i ≡ true

-- a size of symbol i that an entry fills stands in an allocated section
pub record IsSizedBy (l : Layout) (flags : ℕ) (symbol : Option ℕ) (row : RelocationKindInfo) (i : ℕ) : Type 0 where
  pub kind : row.kind ≡ kinds.SymbolSize
  pub named : symbol ≡ Some i
  pub room : allocated flags ≡ true
  pub sized : is_sized l flags i ≡ true

-- what a treatment says
abbrev pub Says : Layout → ℕ → Option ℕ → RelocationKindInfo → Treatment → Type 0
Says l flags symbol row treatments.Nothing = IsSilent row.kind
Says l flags symbol row (treatments.Value r) = (row ≡ r) × HasValue row.kind
Says l flags symbol row treatments.BaseRelative = IsMovedBy l flags symbol row
Says l flags symbol row (treatments.Symbolic i) = IsLeftBy flags symbol row i × (needs_symbolic l flags row i ≡ true)
Says l flags symbol row (treatments.Indirect i) = IsLeftBy flags symbol row i × IsLeftToResolver l flags row i
Says l flags symbol row (treatments.Extent r i) = (row ≡ r) × IsSizedBy l flags symbol row i
Says l flags symbol row other = ⊤

-- ---- by class

left_true : (a b c d : Bool) → (a && b && c && d) ≡ true → (a ≡ true) × (c ≡ true)
left_true true true true true h = (refl, refl)
left_true true true true false h = cc
left_true true true false d h = cc
left_true true false c d h = cc
left_true false b c d h = cc

first_of_four : (a b c d : Bool) → (a && b && c && d) ≡ true → a ≡ true
first_of_four true b c d h = refl
first_of_four false b c d h = cc

first_of_three : (a b c : Bool) → (a && b && c) ≡ true → a ≡ true
first_of_three true b c h = refl
first_of_three false b c h = cc

said_address : (l : Layout) (flags : ℕ) (n : ℕ) (row : RelocationKindInfo) (i : ℕ) → row.kind ≡ kinds.Absolute → Says l flags (Some i) row (address_treatment l flags n row i)
said_address l flags n row i k =
    let P = Says l flags (Some i) row in
    let value : HasValue row.kind = ap has_value k in
    of_if P (is_barred l flags n i || is_narrow l flags n) _ _ (λ e. tt) (λ e.
    of_if P (needs_symbolic l flags row i) _ _
    (λ left. (let both = left_true (allocated flags) (writable flags) (field_width row == 8) (interposable (flags_at l i)) left in (record { kind = k; width = eqb-true (field_width row) 8 both.1; named = refl; room = both.0 }, left)))
    (λ own. of_if P (needs_irelative l flags i) _ _
    (λ chosen. of_if P (field_width row == 8) _ _
    (λ w. (record { kind = k; width = eqb-true (field_width row) 8 w; named = refl; room = first_of_four (allocated flags) (writable flags) (is_position_independent l.kind) (has_flag (flags_at l i) ifunc) chosen }, record { own = own; chosen = chosen }))
    (λ w. tt))
    (λ e. of_if P (allocated flags && moves l i) _ _
    (λ m. (let both = and_parts (allocated flags) (moves l i) m in of_if P (field_width row == 8) _ _ (λ w. record { kind = k; width = eqb-true (field_width row) 8 w; number = i; named = refl; moves = both.1; room = both.0 }) (λ w. tt)))
    (λ m. (refl, value)))))

said_size : (l : Layout) (flags : ℕ) (row : RelocationKindInfo) (i : ℕ) → row.kind ≡ kinds.SymbolSize → Says l flags (Some i) row (size_treatment l flags row i)
said_size l flags row i k =
    of_if (Says l flags (Some i) row) (is_sized l flags i) _ _
    (λ sized. (refl, record { kind = k; named = refl; room = first_of_three (allocated flags) (interposable (flags_at l i)) (has_flag (flags_at l i) dynamic || is_shared_object l.kind) sized; sized = sized }))
    (λ e. (refl, ap has_value k))

said_distance : (l : Layout) (flags : ℕ) (n : ℕ) (row : RelocationKindInfo) (symbol : Option ℕ) → HasValue row.kind → Says l flags symbol row (distance_treatment l flags n row symbol)
said_distance l flags n row None v = of_if (Says l flags None row) (allocated flags && is_position_independent l.kind) _ _ (λ e. tt) (λ e. (refl, v))
said_distance l flags n row (Some i) v = of_if (Says l flags (Some i) row) (is_barred l flags n i) _ _ (λ e. tt) (λ e. (refl, v))

said_named : (l : Layout) (flags : ℕ) (row : RelocationKindInfo) (symbol : Option ℕ) (by : ℕ → Treatment) → ((i : ℕ) → Says l flags (Some i) row (by i)) → Says l flags symbol row (named symbol by)
said_named l flags row None by h = tt
said_named l flags row (Some i) by h = h i

-- of a symbol that is there; of another the value is written, which it has not
said_there : (l : Layout) (flags : ℕ) (row : RelocationKindInfo) (i : ℕ) (t : Treatment) → HasValue row.kind → Says l flags (Some i) row t → Says l flags (Some i) row (if_defined l row i t)
said_there l flags row i t v h = of_if (Says l flags (Some i) row) (nat_lt (canonical l i) (length l.symbols)) _ _ (λ there. h) (λ there. (refl, v))

class_says : (l : Layout) (flags : ℕ) (n : ℕ) (symbol : Option ℕ) (row : RelocationKindInfo) (c : Class) → (expression_of row.kind).class ≡ c → Says l flags symbol row (class_treatment l flags n symbol row c)
class_says l flags n symbol row class.Nothing e = inl (nothing_kind row.kind e)
class_says l flags n symbol row class.Mark e = said_named l flags row symbol (λ i. treatments.Nothing) (λ i. inr (mark_kind row.kind e))
class_says l flags n symbol row class.Free e = (refl, ap classes.has_value e)
class_says l flags n symbol row class.Plain e = said_named l flags row symbol (λ i. treatments.Value row) (λ i. (refl, ap classes.has_value e))
class_says l flags n symbol row class.Address e = said_named l flags row symbol (λ i. if_defined l row i (address_treatment l flags n row i)) (λ i. said_there l flags row i (address_treatment l flags n row i) (ap classes.has_value e) (said_address l flags n row i (address_kind row.kind e)))
class_says l flags n symbol row class.Distance e = said_distance l flags n row symbol (ap classes.has_value e)
class_says l flags n symbol row class.Pointer e = said_named l flags row symbol (λ i. pointer_treatment l flags row) (λ i. of_if (Says l flags (Some i) row) (allocated flags && is_shared_object l.kind) _ _ (λ p. tt) (λ p. (refl, ap classes.has_value e)))
class_says l flags n symbol row class.Extent e = said_named l flags row symbol (λ i. if_defined l row i (size_treatment l flags row i)) (λ i. said_there l flags row i (size_treatment l flags row i) (ap classes.has_value e) (said_size l flags row i (extent_kind row.kind e)))
class_says l flags n symbol row class.Part e = said_named l flags row symbol (λ i. distance_treatment l flags n row (Some i)) (λ i. said_distance l flags n row (Some i) (ap classes.has_value e))

-- ---- by row

pub row_said : (l : Layout) (flags : ℕ) (n : ℕ) (symbol : Option ℕ) (row : RelocationKindInfo) → Says l flags symbol row (row_treatment l flags n symbol (Some row))
unfolding row_treatment
row_said l flags n symbol row = class_says l flags n symbol row (expression_of row.kind).class refl

-- a row that takes the relocation is its type's
pub suited_is : (m : Machine) (r : InputRelocation) (o : Option RelocationKindInfo) (row : RelocationKindInfo) → row_that_accepts m r o ≡ Some row → o ≡ Some row
suited_is m r None row h = cc
suited_is m r (Some k) row h = of_if (λ (x : Option RelocationKindInfo). x ≡ Some row → Some k ≡ Some row) (row_accepts m r k) (Some k) None (λ t e. e) (λ f e. cc) h

pub suited_x86_64 : (m : Machine) (r : InputRelocation) (o : Option RelocationKindInfo) → m ≡ machine.X86_64 → row_that_accepts m r o ≡ o
suited_x86_64 machine.AArch64 r o h = cc
suited_x86_64 machine.X86_64 r None h = refl
suited_x86_64 machine.X86_64 r (Some row) h = refl

-- of a relocation, by its row
pub treated_says : (l : Layout) (flags : ℕ) (r : InputRelocation) (row : RelocationKindInfo) (t : Treatment) → row_of l.machine r.number ≡ Some row → treatment l flags r ≡ t → Says l flags r.symbol row t
unfolding treatment row_treatment
treated_says l flags r row t known is =
    let P : Option RelocationKindInfo → Type 0 = λ (o : Option RelocationKindInfo). Says l flags r.symbol row (row_treatment l flags r.number r.symbol o) in
    let both = of_if P (row_accepts l.machine r row) (Some row) None (λ e. row_said l flags r.number r.symbol row) (λ e. tt) in
    subst (Says l flags r.symbol row) is (subst (λ (o : Option RelocationKindInfo). P (row_that_accepts l.machine r o)) (sym known) both)

-- a row whose treatment is t, and what that says
pub record HasRow (l : Layout) (flags : ℕ) (symbol : Option ℕ) (o : Option RelocationKindInfo) (t : Treatment) : Type 0 where
  pub row : RelocationKindInfo
  pub known : o ≡ Some row
  pub says : Says l flags symbol row t

-- no row is needed where nothing is said
abbrev Speaks : Treatment → Type 0
Speaks treatments.Recompile = ⊥
Speaks treatments.Unsupported = ⊥
Speaks other = ⊤

row_says : (l : Layout) (flags : ℕ) (n : ℕ) (symbol : Option ℕ) (o : Option RelocationKindInfo) (t : Treatment) → Speaks t → row_treatment l flags n symbol o ≡ t → HasRow l flags symbol o t
unfolding row_treatment
row_says l flags n symbol None t some h = absurd (subst Speaks (sym h) some)
row_says l flags n symbol (Some row) t some h = record { row = row; known = refl; says = subst (Says l flags symbol row) h (row_said l flags n symbol row) }

treated_row : (l : Layout) (flags : ℕ) (r : InputRelocation) (t : Treatment) → Speaks t → treatment l flags r ≡ t → HasRow l flags r.symbol (row_of l.machine r.number) t
unfolding treatment
treated_row l flags r t some h =
    let k = row_says l flags r.number r.symbol (row_that_accepts l.machine r (row_of l.machine r.number)) t some h in
    record { row = k.row; known = suited_is l.machine r (row_of l.machine r.number) k.row k.known; says = k.says }

pub known_value : (l : Layout) (flags : ℕ) (r : InputRelocation) (row : RelocationKindInfo) → treatment l flags r ≡ treatments.Value row → (row_of l.machine r.number ≡ Some row) × HasValue row.kind
known_value l flags r row h =
    let k = treated_row l flags r (treatments.Value row) tt h in
    (k.known ∙ ap (λ (x : RelocationKindInfo). Some x) k.says.0, subst (λ (x : RelocationKindInfo). HasValue x.kind) k.says.0 k.says.1)

pub known_nothing : (l : Layout) (flags : ℕ) (r : InputRelocation) → treatment l flags r ≡ treatments.Nothing → (row : RelocationKindInfo) × (row_of l.machine r.number ≡ Some row) × IsSilent row.kind
known_nothing l flags r h = let k = treated_row l flags r treatments.Nothing tt h in (k.row, k.known, k.says)

pub known_moved : (l : Layout) (flags : ℕ) (r : InputRelocation) → treatment l flags r ≡ treatments.BaseRelative → (row : RelocationKindInfo) × (row_of l.machine r.number ≡ Some row) × IsMovedBy l flags r.symbol row
known_moved l flags r h = let k = treated_row l flags r treatments.BaseRelative tt h in (k.row, k.known, k.says)

pub known_symbolic : (l : Layout) (flags : ℕ) (r : InputRelocation) (i : ℕ) → treatment l flags r ≡ treatments.Symbolic i → (row : RelocationKindInfo) × (row_of l.machine r.number ≡ Some row) × IsLeftBy flags r.symbol row i
known_symbolic l flags r i h = let k = treated_row l flags r (treatments.Symbolic i) tt h in (k.row, k.known, k.says.0)

pub known_indirect : (l : Layout) (flags : ℕ) (r : InputRelocation) (i : ℕ) → treatment l flags r ≡ treatments.Indirect i → (row : RelocationKindInfo) × (row_of l.machine r.number ≡ Some row) × IsLeftBy flags r.symbol row i × IsLeftToResolver l flags row i
known_indirect l flags r i h = let k = treated_row l flags r (treatments.Indirect i) tt h in (k.row, k.known, k.says.0, k.says.1)

pub known_extent : (l : Layout) (flags : ℕ) (r : InputRelocation) (row : RelocationKindInfo) (i : ℕ) → treatment l flags r ≡ treatments.Extent row i → (row_of l.machine r.number ≡ Some row) × IsSizedBy l flags r.symbol row i
known_extent l flags r row i h =
    let k = treated_row l flags r (treatments.Extent row i) tt h in
    (k.known ∙ ap (λ (x : RelocationKindInfo). Some x) k.says.0, subst (λ (x : RelocationKindInfo). IsSizedBy l flags r.symbol x i) k.says.0 k.says.1)
