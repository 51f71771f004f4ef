-- What the relocations of a decided section write that keep their instructions.
use Rattle.wild_references.proofs.Common.{◌≡◌, ℕ, ◌+◌, ◌⊎◌, inl, inr, Bool, refl, sym, ap, subst, Option, Some, None, Ok, slice_get, r_x86_64_none, r_x86_64_tlsdesc_call, Machine, InputRelocation, Item, Layout, RelocationKindInfo, RelocationSize, row_of, Decision, Nothing, Field, RelativeAddress, DynamicField, Rewritten, Partner, raw_address, raw_value, Treatment, treatment, kind_treatment, RelocationKind, decided, decided_moved, decided_left, decided_nothing, IsOwn, decide_nothing, decide_moved, decide_left, decide_field, HasDecision, RowsAreRead, NoValue, NoField, formula_of, KeepsInstruction}
use Rattle.wild_types.specs.declared.kind.Machine.TheVariants as machine
use Rattle.wild_types.specs.declared.fault.Missing.{Missing}
use Rattle.wild_types.specs.declared.fault.Missing.TheVariants as missing
use Rattle.wild_layout.specs.SymbolValues.{resolved_address}
use Rattle.wild_slot.specs.declared.treatment.Treatment.TheVariants as treatments
use Rattle.wild_reloc.specs.declared.info.RelocationKind.TheVariants as kinds
use Rattle.wild_layout.specs.Decide.{decide_by}
use Rattle.wild_layout.proofs.DecideLemmas.{IsField, IsMoved, IsLeft, decided_field}
use Rattle.wild_slot.proofs.TreatmentLemmas.{has_value}
use Rattle.wild_references.proofs.KnownRows.{RowFits, row_fits, none_is, call_is, call_known}
use Rattle.wild_layout.proofs.DecisionLemmas.{IsKept, IsKeptAArch64}
use Rattle.wild_references.proofs.MovingSymbols.{treated_by}

-- ---- relocations

-- the symbol of a relocation has that address; 0 without a symbol
abbrev pub HasAddress : Layout → Option ℕ → ℕ → Type 0
HasAddress l None a = a ≡ 0
HasAddress l (Some i) a = raw_value l i ≡ Some a

-- what a symbol does not lack is there
pub given_some : (what : Missing) (i : ℕ) (o : Option ℕ) (a : ℕ) → resolved_address what i o ≡ Ok a → o ≡ Some a
given_some what i None a h = cc
given_some what i (Some b) a h = let e : b ≡ a = cc in ap Some e

pub address_given : (l : Layout) (symbol : Option ℕ) (a : ℕ) → raw_address l symbol ≡ Ok a → HasAddress l symbol a
address_given l None a h = let z : Ok 0 ≡ Ok a = h in let e : a ≡ 0 = cc in e
address_given l (Some i) a h = given_some missing.Address i (raw_value l i) a h

-- relocation i has a decision of its own: no row stands there, and none takes it along
pub record IsPlain (l : Layout) (s : Item) (i : ℕ) (r : InputRelocation) (d : Decision) : Type 0 where
  pub has : HasDecision l s i r d
  pub own : IsOwn l s i r d

-- a relocation that writes a value
pub record IsValue (l : Layout) (s : Item) (i : ℕ) (r : InputRelocation) : Type 0 where
  pub size : RelocationSize
  pub value : ℕ
  pub plain : IsPlain l s i r (Field size value)
  pub field : IsField l s r size value
  pub fits : RowFits l.machine r.number field.row

-- a relocation that writes an address, which moves with the base
pub record IsAddress (l : Layout) (s : Item) (i : ℕ) (r : InputRelocation) : Type 0 where
  pub value : ℕ
  pub packed : Bool
  pub plain : IsPlain l s i r (RelativeAddress value packed)
  pub moved : IsMoved l s r value packed
  pub fits : RowFits l.machine r.number moved.row

-- a relocation whose field is left to an entry
pub record IsLeftField (l : Layout) (s : Item) (i : ℕ) (r : InputRelocation) : Type 0 where
  pub size : RelocationSize
  pub number : ℕ
  pub symbol : ℕ
  pub addend : ℕ
  pub plain : IsPlain l s i r (DynamicField size number symbol addend)
  pub left : IsLeft l s r size number symbol addend
  pub fits : RowFits l.machine r.number left.field.row

-- the call through a descriptor, which writes nothing
pub record IsCall (l : Layout) (s : Item) (i : ℕ) (r : InputRelocation) : Type 0 where
  pub plain : IsPlain l s i r Nothing
  pub number : l.machine ≡ machine.X86_64 → r.number ≡ r_x86_64_tlsdesc_call
  pub known : formula_of l.machine r.number ≡ Some (record { value = NoValue; form = NoField })
  pub symbol : ℕ
  pub named : r.symbol ≡ Some symbol

pub row_here : (l : Layout) (n : ℕ) (row : RelocationKindInfo) → l.machine ≡ machine.X86_64 → row_of l.machine n ≡ Some row → row_of machine.X86_64 n ≡ Some row
row_here l n row m is = subst (λ (x : Machine). row_of x n ≡ Some row) m is

value_written : (l : Layout) (s : Item) (i : ℕ) (r : InputRelocation) (z : RelocationSize) (v : ℕ) → RowsAreRead → IsPlain l s i r (Field z v) → IsValue l s i r
value_written l s i r z v agrees p =
    let f = decided_field l s r z v p.own.made in
    record { size = z; value = v; plain = p; field = f; fits = row_fits agrees l.machine r.number f.row f.known f.kind }

address_written : (l : Layout) (s : Item) (i : ℕ) (r : InputRelocation) (v : ℕ) (packed : Bool) → RowsAreRead → IsPlain l s i r (RelativeAddress v packed) → IsAddress l s i r
address_written l s i r v packed agrees p =
    let f = decided_moved l s r v packed p.own.made in
    record { value = v; packed = packed; plain = p; moved = f; fits = row_fits agrees l.machine r.number f.row f.known (ap has_value f.by.kind) }

left_written : (l : Layout) (s : Item) (i : ℕ) (r : InputRelocation) (z : RelocationSize) (number symbol addend : ℕ) → RowsAreRead → IsPlain l s i r (DynamicField z number symbol addend) → IsLeftField l s i r
left_written l s i r z number symbol addend agrees p =
    let f = decided_left l s r z number symbol addend p.own.made in
    record { size = z; number = number; symbol = symbol; addend = addend; plain = p; left = f; fits = row_fits agrees l.machine r.number f.field.row f.field.known f.field.kind }

-- a relocation whose field a row writes, which keeps the bytes around it
pub record IsRowField (l : Layout) (s : Item) (i : ℕ) (r : InputRelocation) : Type 0 where
  pub size : RelocationSize
  pub value : ℕ
  pub has : HasDecision l s i r (Field size value)
  pub kept : IsKept l s r (slice_get s.relocations (i + 1)) size value

-- the same on AArch64: a branch, or the distance of a stub
pub record IsBranchField (l : Layout) (s : Item) (i : ℕ) (r : InputRelocation) : Type 0 where
  pub size : RelocationSize
  pub value : ℕ
  pub has : HasDecision l s i r (Field size value)
  pub kept : IsKeptAArch64 l s i r size value

-- such a call has a symbol: without one it is refused
call_named : (l : Layout) (s : Item) (r : InputRelocation) (row : RelocationKindInfo) → row_of l.machine r.number ≡ Some row → row.kind ≡ kinds.TlsDescCall → decided l s r ≡ Ok Nothing → (i : ℕ) × (r.symbol ≡ Some i)
unfolding decided
call_named l s r row known kind made =
    by_treatment (treatment l s.flags r) refl made
  where
    by_symbol : (o : Option ℕ) → r.symbol ≡ o → decide_by l s r (kind_treatment l s.flags r.number o row kinds.TlsDescCall) ≡ Ok Nothing → (i : ℕ) × (r.symbol ≡ Some i)
    by_symbol None e h = cc
    by_symbol (Some i) e h = (i, e)

    by_treatment : (t : Treatment) → treatment l s.flags r ≡ t → decide_by l s r t ≡ Ok Nothing → (i : ℕ) × (r.symbol ≡ Some i)
    by_treatment treatments.Unsupported is h = cc
    by_treatment other is h = by_symbol r.symbol refl (subst (λ (t : Treatment). decide_by l s r t ≡ Ok Nothing) (sym (subst (λ (k : RelocationKind). kind_treatment l s.flags r.number r.symbol row k ≡ other) kind (treated_by l s r row other known is (λ e. cc)))) h)

-- what a relocation writes that keeps its instruction
abbrev pub Writes : Layout → Item → ℕ → InputRelocation → Type 0
Writes l s i r = IsValue l s i r ⊎ (IsAddress l s i r ⊎ (IsLeftField l s i r ⊎ (IsCall l s i r ⊎ (IsRowField l s i r ⊎ IsBranchField l s i r))))

nothing_written : (l : Layout) (s : Item) (i : ℕ) (r : InputRelocation) → IsPlain l s i r Nothing → (r.number ≡ r_x86_64_none → ⊥) → IsCall l s i r
nothing_written l s i r p some =
    let none = decided_nothing l s r p.own.made in
    elim none.kind [
      | inl kind ↦ absurd (some (none_is l.machine r.number none.row none.known kind))
      | inr kind ↦
          (let symbol = call_named l s r none.row none.known kind p.own.made in
          record {
            plain = p;
            number = λ x86. call_is r.number none.row (row_here l r.number none.row x86 none.known) kind;
            known = call_known l.machine r.number none.row none.known kind;
            symbol = symbol.0;
            named = symbol.1;
          })
    ]

field_written : (l : Layout) (s : Item) (i : ℕ) (r : InputRelocation) (z : RelocationSize) (v : ℕ) → RowsAreRead → HasDecision l s i r (Field z v) → IsOwn l s i r (Field z v) ⊎ (IsKept l s r (slice_get s.relocations (i + 1)) z v ⊎ IsKeptAArch64 l s i r z v) → Writes l s i r
field_written l s i r z v agrees has (inl own) = inl (value_written l s i r z v agrees (record { has = has; own = own }))
field_written l s i r z v agrees has (inr (inl kept)) = inr (inr (inr (inr (inl (record { size = z; value = v; has = has; kept = kept })))))
field_written l s i r z v agrees has (inr (inr kept)) = inr (inr (inr (inr (inr (record { size = z; value = v; has = has; kept = kept })))))

-- each but NONE writes a value or an address, is left to an entry, or is such a call
pub relocation_written : (l : Layout) (s : Item) (i : ℕ) (r : InputRelocation) (d : Decision) → RowsAreRead → HasDecision l s i r d → KeepsInstruction d → (r.number ≡ r_x86_64_none → ⊥) → Writes l s i r
relocation_written l s i r Nothing agrees has keeps some = inr (inr (inr (inl (nothing_written l s i r (record { has = has; own = decide_nothing l s i r has.listed has.decided }) some))))
relocation_written l s i r (Field z v) agrees has keeps some = field_written l s i r z v agrees has (decide_field l s i r z v has.listed has.decided)
relocation_written l s i r (RelativeAddress v packed) agrees has keeps some = inr (inl (address_written l s i r v packed agrees (record { has = has; own = decide_moved l s i r v packed has.listed has.decided })))
relocation_written l s i r (DynamicField z number symbol addend) agrees has keeps some = inr (inr (inl (left_written l s i r z number symbol addend agrees (record { has = has; own = decide_left l s i r z number symbol addend has.listed has.decided }))))
relocation_written l s i r (Rewritten row v) agrees has keeps some = absurd keeps
relocation_written l s i r Partner agrees has keeps some = absurd keeps
