-- What is decided of relocation i of a section, taken apart: as of one that keeps its instruction, by a row, or with the relocation
-- before it.
--   IsOwn l s i r d                 no row stands at the relocation, and none takes it along: d is decided of it alone
--   decide_nothing, decide_moved, decide_left    decisions that are so in any case
--   IsWrittenBy l s r row v         v is the value of the kind that the row writes
--   IsKept l s r next z v           a row writes a value into the field, and keeps the bytes around it
--   IsWrittenInPlace l s r row v, IsKeptAArch64 l s i r z v    the same of a row of AArch64: a distance of code
--   decide_field                    a field is written by itself or by such a row
--   IsRewritten l s r next row v    a row of x86-64 writes the whole instruction
--   IsRewrittenAArch64 l s i r row v    one of AArch64 writes a word
--   decide_rewritten                it is decided so; rewritten_x86_64, rewritten_aarch64    by the machine
--   decide_partner                  a relocation that is taken along is behind one whose row writes a sequence
--   sequence_is_rewritten           what is decided of that one
--   decide_alone                    without a row, and taken along by none, a relocation is decided of by itself
--   decide_loads, decide_base_relative, decide_symbolic, decide_indirect, decide_extent    a field that a loader may fill is decided of by itself
use Rattle.std.proofs.Common.{◌≡◌, ℕ, ℤ, ◌+◌, ◌%◌, ◌^◌, ◌⊎◌, inl, inr, Bool, true, false, refl, sym, ap, ◌∙◌, arith, subst}
use Rattle.std.specs.Prelude.{⊤, List, [], ◌∷◌, Contains, Option, Some, None, Result, Ok, Err, ◌==◌, ◌&&◌, ◌||◌, not, if◌then◌else◌, slice_get}
use Rattle.std.specs.List.{list_all, filter}
use Rattle.std.proofs.lemmas.Bool.{cases_Bool, not-true, eqb-true, and_parts}
use Rattle.wild_words.proofs.Basics.{not_both, implied, listed_passes}
use Rattle.wild_records.specs.Abi.Relocation as abi
use Rattle.wild_reloc.specs.Expression.{subtrahend_of, expression_of}
use Rattle.wild_reloc.specs.Field.{allows}
use Rattle.wild_reloc.specs.Table.{plain}
use Rattle.wild_reloc.specs.TableX86_64.{x86_64_row}
use Rattle.wild_reloc.specs.TableAArch64.{static_row}
use Rattle.wild_reloc.specs.declared.range.Sign.TheVariants.{Signed}
use Rattle.wild_reloc.specs.declared.info.Width.TheVariants.{Zero, Four, Eight}
use Rattle.wild_reloc.specs.declared.info.RelocationKind.{RelocationKind}
use Rattle.wild_reloc.specs.declared.info.RelocationKind.TheVariants as kinds
use Rattle.wild_reloc.specs.declared.info.PageMask.{PageMask}
use Rattle.wild_reloc.specs.declared.info.RelocationKindInfo.{RelocationKindInfo}
use Rattle.wild_reloc.specs.declared.info.RelocationSize.{RelocationSize}
use Rattle.wild_reloc.specs.declared.info.RelocationSize.TheVariants.{ByteSize}
use Rattle.wild_reloc.specs.declared.dynamic.DynamicRelocationKind.TheVariants.{Absolute, Irelative}
use Rattle.wild_types.specs.declared.kind.Machine.{Machine}
use Rattle.wild_types.specs.declared.kind.Machine.TheVariants as machine
use Rattle.wild_types.specs.declared.fault.Fault.{Fault}
use Rattle.wild_types.specs.declared.fault.Fault.TheVariants as faults
use Rattle.wild_types.specs.declared.input.InputRelocation.{InputRelocation}
use Rattle.wild_types.specs.Item.{Item}
use Rattle.wild_types.specs.declared.layout.Layout.{Layout}
use Rattle.wild_slot.specs.declared.treatment.Treatment.{Treatment}
use Rattle.wild_slot.specs.declared.treatment.Treatment.TheVariants as treatments
use Rattle.wild_types.specs.Rows.{row_of}
use Rattle.wild_slot.specs.SlotParts.{type_of}
use Rattle.wild_slot.specs.Treatment.{treatment}
use Rattle.wild_relax.specs.declared.reference.UnknownSequence.{UnknownSequence}
use Rattle.wild_relax.specs.declared.pattern.GeneralForm.{GeneralForm}
use Rattle.wild_relax.specs.declared.pattern.GeneralForm.TheVariants as general
use Rattle.wild_relax.specs.declared.row.Row.{Row}
use Rattle.wild_relax.specs.declared.table.TheConstants.{PLT, PLT_OFF}
use Rattle.wild_relax.specs.Rows.{rows_x86_64}
use Rattle.wild_relax.specs.RowSequences.{call_form, is_call_number}
use Rattle.wild_relax.specs.declared.row.Written.{Written}
use Rattle.wild_relax.specs.declared.row.Written.TheVariants as written
use Rattle.wild_relax.specs.declared.row.Made.{Made}
use Rattle.wild_relax.specs.declared.row.Made.TheVariants as ways
use Rattle.wild_relax.specs.declared.row.Distance.{Distance}
use Rattle.wild_relax.specs.declared.row.Distance.TheVariants as distances
use Rattle.wild_relax.specs.declared.row.Goal.{Goal}
use Rattle.wild_relax.specs.declared.row.Goal.TheVariants as goals
use Rattle.wild_relax.specs.declared.pattern.LocalForm.TheVariants as local
use Rattle.wild_relax.specs.declared.row.ValueTest.{ValueTest}
use Rattle.wild_relax.specs.declared.row.ValueTest.TheVariants as value
use Rattle.wild_relax.specs.declared.row.SymbolTest.{SymbolTest}
use Rattle.wild_relax.specs.declared.row.SymbolTest.TheVariants as symbol
use Rattle.wild_relax.specs.RowsAArch64.{rows_aarch64}
use Rattle.wild_relax.specs.RewriteX86_64.{distance_type, change_of, number_written, or_nothing, is_aarch64, type_row, info_by, info_written, rewrite_of}
use Rattle.wild_relax.proofs.RewriteLemmas.{typed, written_row, listed_type}
use Rattle.wild_relax.specs.LinkedPattern.{keeps_bytes}
use Rattle.wild_layout.specs.declared.decision.Decision.{Decision}
use Rattle.wild_layout.specs.declared.decision.Decision.TheVariants.{Nothing, Field, RelativeAddress, DynamicField, Rewritten, Partner}
use Rattle.wild_types.specs.Lookups.{place_of}
use Rattle.wild_layout.specs.SlotValues.{index_of, decided_address}
use Rattle.wild_layout.specs.Merged.{names_merged, address_for}
use Rattle.wild_layout.specs.Values.{term_of, value_by, subtract, value_in, weak_resolves_to_place, term_by, term_at}
use Rattle.wild_layout.specs.Choice.{choice_of, choice_on, takes_next, is_partner}
use Rattle.wild_layout.specs.Decide.{field_for, field_or_thunk, relative_decision, addend_bits, dynamic_decision, ifunc_decision, decide_by, decided, field_at, place_to, value_to, term_to, rewritten_decision, refused_sequence, decide_with, decide_at, decide}
use Rattle.wild_slot.proofs.TreatmentLemmas.{HasValue, known_moved, known_symbolic, known_indirect, known_extent}
use Rattle.wild_layout.proofs.ChoiceLemmas.{IsChosen, choice_row, IsChosenAArch64, choice_row_aarch64, is_listed, kept_listed, of_two, IsSequence, partner_is_taken, no_partner_aarch64, partner_number, loads, no_row, no_partner}
use Rattle.wild_layout.proofs.ThunkFieldLemmas.{ComesTo, IsReached, reached_by, comes_alone}
use Rattle.wild_layout.proofs.DecideLemmas.{HasField, sized_left}
use Rattle.wild_layout.proofs.MergedLemmas.{term_plain}

-- ---- which decisions come from where

-- a relocation that keeps its instruction
abbrev KeepsInstruction : Decision → Type 0
KeepsInstruction (Rewritten row v) = ⊥
KeepsInstruction Partner = ⊥
KeepsInstruction other = ⊤

value_keeps : (l : Layout) (s : Item) (r : InputRelocation) (row : RelocationKindInfo) (a : Result ℕ Fault) (d : Decision) → field_for l s r row a ≡ Ok d → KeepsInstruction d
value_keeps l s r row (Err f) d h = cc
value_keeps l s r row (Ok a) d h = subst KeepsInstruction (reached_by l s r row (value_in l row a r.addend (place_of s.address r)) d h).is tt

moved_keeps : (l : Layout) (s : Item) (r : InputRelocation) (a : Result ℕ Fault) (d : Decision) → relative_decision l s r a ≡ Ok d → KeepsInstruction d
moved_keeps l s r (Err f) d h = cc
moved_keeps l s r (Ok a) (RelativeAddress v packed) h = tt
moved_keeps l s r (Ok a) Nothing h = tt
moved_keeps l s r (Ok a) (Field z v) h = tt
moved_keeps l s r (Ok a) (DynamicField z number symbol addend) h = tt
moved_keeps l s r (Ok a) (Rewritten row v) h = cc
moved_keeps l s r (Ok a) Partner h = cc

left_keeps : (z : RelocationSize) (number : ℕ) (r : InputRelocation) (i : ℕ) (o : Option ℕ) (d : Decision) → dynamic_decision z number r i o ≡ Ok d → KeepsInstruction d
left_keeps z number r i None d h = cc
left_keeps z number r i (Some index) d h = let same : DynamicField z number index (addend_bits r) ≡ d = cc in subst KeepsInstruction same tt

chosen_keeps : (l : Layout) (r : InputRelocation) (a : Result ℕ Fault) (d : Decision) → ifunc_decision l r a ≡ Ok d → KeepsInstruction d
chosen_keeps l r (Err f) d h = cc
chosen_keeps l r (Ok resolver) d h =
    elim (cases_Bool (addend_bits r == 0)) [
      | inr f ↦ cc (rw f at h)
      | inl t ↦
          (let e : Ok (DynamicField (ByteSize Eight) (type_of l.machine Irelative) 0 resolver) ≡ Ok d = rw t at h in
          let same : DynamicField (ByteSize Eight) (type_of l.machine Irelative) 0 resolver ≡ d = cc in
          subst KeepsInstruction same tt)
    ]

treated_keeps : (l : Layout) (s : Item) (r : InputRelocation) (t : Treatment) (d : Decision) → decide_by l s r t ≡ Ok d → KeepsInstruction d
treated_keeps l s r treatments.Nothing d h = let same : Nothing ≡ d = cc in subst KeepsInstruction same tt
treated_keeps l s r (treatments.Value row) d h = value_keeps l s r row (term_at l r row (place_of s.address r)) d h
treated_keeps l s r treatments.BaseRelative d h = moved_keeps l s r (address_for l r) d h
treated_keeps l s r (treatments.Symbolic i) d h = left_keeps (ByteSize Eight) (type_of l.machine Absolute) r i (index_of l i) d h
treated_keeps l s r (treatments.Indirect i) d h = chosen_keeps l r (decided_address l i) d h
treated_keeps l s r (treatments.Extent row i) d h = left_keeps row.size r.number r i (index_of l i) d (sized_left l r row i d h)
treated_keeps l s r treatments.Recompile d h = cc
treated_keeps l s r treatments.Unsupported d h = cc

decided_keeps : (l : Layout) (s : Item) (r : InputRelocation) (d : Decision) → decided l s r ≡ Ok d → KeepsInstruction d
unfolding decided
decided_keeps l s r d h = treated_keeps l s r (treatment l s.flags r) d h

-- a row
abbrev pub IsOfRow : Decision → Type 0
IsOfRow (Field z v) = ⊤
IsOfRow (Rewritten row v) = ⊤
IsOfRow other = ⊥

of_row : (b : Bool) (z : RelocationSize) (row : Row) (v : ℕ) (d : Decision) → (if b then Field z v else Rewritten row v) ≡ d → IsOfRow d
of_row true z row v d h = subst IsOfRow h tt
of_row false z row v d h = subst IsOfRow h tt

-- ---- what a row writes

-- what a kind needs of the symbol where none stands for it by its place
abbrev pub term_alone : Layout → InputRelocation → RelocationKindInfo → Result ℕ Fault
term_alone l r info = if has_no_value info.kind then Ok 0 else term_of l r.symbol info.kind
  where
    has_no_value : RelocationKind → Bool
    has_no_value kinds.None = true
    has_no_value other = false

-- v is the value of the kind that is written, at the field's new place and with its new addend, and the field takes it
pub record IsWrittenBy (l : Layout) (s : Item) (r : InputRelocation) (row : Row) (v : ℕ) : Type 0 where
  pub info : RelocationKindInfo
  pub known : row_of l.machine (rewrite_of row).number ≡ Some info
  pub term : ℕ
  pub given : term_alone l r info ≡ Ok term
  pub value : value_by l info.kind term ((rewrite_of row).addend r.addend) (place_to s r row) ≡ v
  pub allowed : allows info v ≡ true

-- of a kind that has a value, the term is what that needs of the symbol
pub term_has_value : (l : Layout) (r : InputRelocation) (info : RelocationKindInfo) (a : ℕ) → HasValue info.kind → term_alone l r info ≡ Ok a → term_of l r.symbol info.kind ≡ Ok a
term_has_value l r info a has h = by_kind l r a info.kind has h
  where
    by_kind : (l : Layout) (r : InputRelocation) (a : ℕ) (k : RelocationKind) → HasValue k → term_alone l r (plain k Zero Signed) ≡ Ok a → term_of l r.symbol k ≡ Ok a
    by_kind l r a kinds.None has h = cc
    by_kind l r a other has h = h

-- a row that writes, and what it comes to
record IsMade (l : Layout) (s : Item) (r : InputRelocation) (row : Row) (d : Decision) : Type 0 where
  value : ℕ
  by : IsWrittenBy l s r row value
  is : (if keeps_bytes row then Field by.info.size value else Rewritten row value) ≡ d

-- on x86-64 no place stands for a symbol
no_place : (m : Machine) (l : Layout) (r : InputRelocation) (info : RelocationKindInfo) → m ≡ machine.X86_64 → weak_resolves_to_place m l r info ≡ false
no_place machine.X86_64 l r info is = refl
no_place machine.AArch64 l r info is = cc

placed_at : (l : Layout) (r : InputRelocation) (info : RelocationKindInfo) (p : ℕ) → l.machine ≡ machine.X86_64 → term_at l r info p ≡ term_by l r (expression_of info.kind).term
placed_at l r info p is = rw (no_place l.machine l r info is) refl

abbrev is_silent : RelocationKind → Bool
is_silent kinds.None = true
is_silent other = false

not_placed : (l : Layout) (r : InputRelocation) (info : RelocationKindInfo) (p : ℕ) → l.machine ≡ machine.X86_64 → names_merged l r.symbol ≡ false → term_to l r info p ≡ term_alone l r info
not_placed l r info p is unmerged = ap (λ (t : Result ℕ Fault). if is_silent info.kind then Ok 0 else t) (placed_at l r info p is ∙ term_plain l r (expression_of info.kind).term unmerged)

-- and what is written counts no pages
unmasked : (w : Written) → is_aarch64 w ≡ false → (info_by w).mask ≡ None
unfolding x86_64_row
unmasked written.Nothing h = refl
unmasked written.Pc32 h = refl
unmasked written.Plt32 h = refl
unmasked written.Unsigned32 h = refl
unmasked written.Signed32 h = refl
unmasked written.GotTpOff h = refl
unmasked written.TpOff32 h = refl
unmasked written.GotOff64 h = refl
unmasked other h = cc

-- and goes by no thunk
unthunked : (w : Written) → is_aarch64 w ≡ false → (info_by w).thunkable ≡ false
unfolding x86_64_row
unthunked written.Nothing h = refl
unthunked written.Pc32 h = refl
unthunked written.Plt32 h = refl
unthunked written.Unsigned32 h = refl
unthunked written.Signed32 h = refl
unthunked written.GotTpOff h = refl
unthunked written.TpOff32 h = refl
unthunked written.GotOff64 h = refl
unthunked other h = cc

whole_value : (l : Layout) (info : RelocationKindInfo) (a : ℕ) (addend : ℤ) (p : ℕ) → info.mask ≡ None → value_in l info a addend p ≡ value_by l info.kind a addend p
whole_value l info a addend p none = ap (λ (m : Option PageMask). subtract l (subtrahend_of info.kind m) a addend p) none

known_on : (m : Machine) (row : Row) → m ≡ machine.X86_64 → is_aarch64 row.written ≡ false → row_of m (rewrite_of row).number ≡ Some (info_written row)
unfolding row_of
known_on machine.AArch64 row is type = cc
known_on machine.X86_64 row is type = written_row row.written type

row_makes : (l : Layout) (s : Item) (r : InputRelocation) (row : Row) (d : Decision) → l.machine ≡ machine.X86_64 → names_merged l r.symbol ≡ false → is_aarch64 row.written ≡ false → rewritten_decision l s r row ≡ Ok d → IsMade l s r row d
row_makes l s r row d x86 unmerged type h = by_term (term_to l r (info_written row) (place_to s r row)) refl h
  where
    made_of : (a v : ℕ) → term_to l r (info_written row) (place_to s r row) ≡ Ok a → value_in l (info_written row) a ((rewrite_of row).addend r.addend) (place_to s r row) ≡ v → allows (info_written row) v ≡ true
        → (if keeps_bytes row then Field (info_written row).size v else Rewritten row v) ≡ d → IsMade l s r row d
    made_of a v given value allowed is = record {
      value = v;
      by = record {
        info = info_written row;
        known = known_on l.machine row x86 type;
        term = a;
        given = sym (not_placed l r (info_written row) (place_to s r row) x86 unmerged) ∙ given;
        value = sym (whole_value l (info_written row) a ((rewrite_of row).addend r.addend) (place_to s r row) (unmasked row.written type)) ∙ value;
        allowed = allowed;
      };
      is = is;
    }

    by_test : (a v : ℕ) (k b : Bool) → term_to l r (info_written row) (place_to s r row) ≡ Ok a → value_in l (info_written row) a ((rewrite_of row).addend r.addend) (place_to s r row) ≡ v → keeps_bytes row ≡ k → allows (info_written row) v ≡ b
        → (if k then field_or_thunk l s r (info_written row) v else (if b then Ok (Rewritten row v) else Err (faults.OutOfRange v))) ≡ Ok d → IsMade l s r row d
    by_test a v false false given value keeps allowed e = cc
    by_test a v false true given value keeps allowed e = let is : Rewritten row v ≡ d = cc in made_of a v given value allowed (rw keeps is)
    by_test a v true b given value keeps allowed e =
        let f = reached_by l s r (info_written row) v d e in
        made_of a f.value given (value ∙ comes_alone l s r (info_written row) v f.value (unthunked row.written type) f.comes) f.allowed (rw keeps f.is)

    by_term : (t : Result ℕ Fault) → term_to l r (info_written row) (place_to s r row) ≡ t → value_to l s r row t ≡ Ok d → IsMade l s r row d
    by_term (Err f) given e = cc
    by_term (Ok a) given e =
        let v = value_in l (info_written row) a ((rewrite_of row).addend r.addend) (place_to s r row) in
        by_test a v (keeps_bytes row) (allows (info_written row) v) given refl refl refl e

-- ---- what a row of AArch64 writes that keeps the bytes

-- the distance is that of a stub, or of what stands for one (aaelf64, "Call and Jump relocations"; PLT32)
abbrev pub goes_far : Distance → Bool
goes_far distances.Jump26 = true
goes_far distances.Call26 = true
goes_far distances.Plt32 = true
goes_far other = false

-- it writes a distance of code, of the relocation's own type: to the symbol where that is the output's own; a conditional branch goes to
-- the stub of an undefined weak symbol
pub record IsDistance (row : Row) : Type 0 where
  pub distance : Distance
  pub goal : Goal
  pub written : row.written ≡ written.Code distance goal
  pub number : row.number ≡ distance_type distance
  pub own : goal ≡ goals.Symbol → (goes_far distance ≡ true) × (row.value ≡ value.Own) × (row.symbol ≡ symbol.Plain)
  pub weak : goes_far distance ≡ false → (row.symbol ≡ symbol.UndefinedWeak) × (row.in_code ≡ true)

abbrev is_weak : SymbolTest → Bool
is_weak symbol.UndefinedWeak = true
is_weak other = false

abbrev goes_well : Written → ValueTest → SymbolTest → Bool → Bool
goes_well (written.Code d goals.Symbol) value.Own symbol.Plain code = goes_far d
goes_well (written.Code d goals.Stub) v s code = goes_far d || is_weak s && code
goes_well other v s code = false

abbrev changes_or_goes : Row → Bool
changes_or_goes row = not (keeps_bytes row) || goes_well row.written row.value row.symbol row.in_code && row.number == number_written row.written

each_goes : list_all changes_or_goes rows_aarch64 ≡ true
unfolding rows_aarch64
each_goes = refl

pub distance_of : (row : Row) → Contains rows_aarch64 row → keeps_bytes row ≡ true → IsDistance row
distance_of row c k =
    let both = and_parts _ _ (implied _ _ (listed_passes changes_or_goes rows_aarch64 row each_goes c) k) in
    by_fields row.written row.value row.symbol refl refl refl both.0 (eqb-true _ _ both.1)
  where
    weak_is : (s : SymbolTest) → is_weak s ≡ true → s ≡ symbol.UndefinedWeak
    weak_is symbol.UndefinedWeak h = refl
    weak_is other h = cc

    weak_by : (b c : Bool) (s : SymbolTest) → (b || is_weak s && c) ≡ true → b ≡ false → (s ≡ symbol.UndefinedWeak) × (c ≡ true)
    weak_by true c s h near = cc
    weak_by false c s h near = (let p = and_parts (is_weak s) c h in (weak_is s p.0, p.1))

    by_fields : (w : Written) (v : ValueTest) (s : SymbolTest) → row.written ≡ w → row.value ≡ v → row.symbol ≡ s → goes_well w v s row.in_code ≡ true → row.number ≡ number_written row.written → IsDistance row
    by_fields (written.Code d goals.Symbol) value.Own symbol.Plain is own test h e = record { distance = d; goal = goals.Symbol; written = is; number = e ∙ ap number_written is; own = λ g. (h, own, test); weak = λ near. (let both : true ≡ false = sym h ∙ near in cc) }
    by_fields (written.Code d goals.Stub) v s is own test h e = record { distance = d; goal = goals.Stub; written = is; number = e ∙ ap number_written is; own = λ g. cc; weak = λ near. (let w = weak_by (goes_far d) row.in_code s h near in (test ∙ w.0, w.1)) }
    by_fields w v s is own test h e = cc

-- its place, its addend and its value are the relocation's
kept_made : (m : Made) → ((change_of m).size == 0) ≡ true → m ≡ ways.Kept
kept_made ways.Kept h = refl
kept_made ways.Lea h = cc
kept_made ways.Load h = cc
kept_made (ways.Immediate p o) h = cc
kept_made ways.MovImmediate h = cc
kept_made ways.DirectCall h = cc
kept_made ways.DirectJump h = cc
kept_made ways.Nop h = cc
kept_made ways.LocalExec h = cc
kept_made ways.LocalExecLarge h = cc
kept_made ways.InitialExec h = cc
kept_made (ways.ThreadPointer local.Regular) h = cc
kept_made (ways.ThreadPointer local.Large) h = cc
kept_made (ways.ThreadPointer local.NoPlt) h = cc
kept_made (ways.Code w) h = cc

same_place : (s : Item) (r : InputRelocation) (row : Row) → keeps_bytes row ≡ true → place_to s r row ≡ place_of s.address r
same_place s r row k = let e = kept_made row.made k in rw e (omega arith)

same_addend : (row : Row) (a : ℤ) → keeps_bytes row ≡ true → (rewrite_of row).addend a ≡ a
same_addend row a k = let e = kept_made row.made k in rw e refl

needs_term : (l : Layout) (r : InputRelocation) (d : Distance) (goal : Goal) (p : ℕ) → term_to l r (info_by (written.Code d goal)) p ≡ term_at l r (info_by (written.Code d goal)) p
needs_term l r d goals.Symbol p = refl
needs_term l r d goals.Stub p = refl

-- v is what the row's type makes of the symbol, or the distance to its thunk, and the field takes it
pub record IsWrittenInPlace (l : Layout) (s : Item) (r : InputRelocation) (row : Row) (v : ℕ) : Type 0 where
  pub term : ℕ
  pub given : term_at l r (info_written row) (place_of s.address r) ≡ Ok term
  pub comes : ComesTo l s r (info_written row) (value_in l (info_written row) term r.addend (place_of s.address r)) v
  pub allowed : allows (info_written row) v ≡ true

record IsMadeInPlace (l : Layout) (s : Item) (r : InputRelocation) (row : Row) (d : Decision) : Type 0 where
  goes : IsDistance row
  value : ℕ
  by : IsWrittenInPlace l s r row value
  is : Field (info_written row).size value ≡ d

made_in_place : (l : Layout) (s : Item) (r : InputRelocation) (row : Row) (d : Decision) → IsDistance row → keeps_bytes row ≡ true → rewritten_decision l s r row ≡ Ok d → IsMadeInPlace l s r row d
made_in_place l s r row d goes k h = by_term (term_at l r (info_written row) (place_of s.address r)) refl (subst (λ (t : Result ℕ Fault). value_to l s r row t ≡ Ok d) asked h)
  where
    asked : term_to l r (info_written row) (place_to s r row) ≡ term_at l r (info_written row) (place_of s.address r)
    asked =
        ap (term_to l r (info_written row)) (same_place s r row k)
        ∙ subst (λ (w : Written). term_to l r (info_by w) (place_of s.address r) ≡ term_at l r (info_by w) (place_of s.address r)) (sym goes.written) (needs_term l r goes.distance goes.goal (place_of s.address r))

    by_reached : (a : ℕ) → term_at l r (info_written row) (place_of s.address r) ≡ Ok a → IsReached l s r (info_written row) (value_in l (info_written row) a r.addend (place_of s.address r)) d → IsMadeInPlace l s r row d
    by_reached a given f = record { goes = goes; value = f.value; by = record { term = a; given = given; comes = f.comes; allowed = f.allowed }; is = f.is }

    by_term : (t : Result ℕ Fault) → term_at l r (info_written row) (place_of s.address r) ≡ t → value_to l s r row t ≡ Ok d → IsMadeInPlace l s r row d
    by_term (Err f) given e = cc
    by_term (Ok a) given e =
        let v = value_in l (info_written row) a ((rewrite_of row).addend r.addend) (place_to s r row) in
        let value : v ≡ value_in l (info_written row) a r.addend (place_of s.address r) = ap (value_in l (info_written row) a ((rewrite_of row).addend r.addend)) (same_place s r row k) ∙ ap (λ (x : ℤ). value_in l (info_written row) a x (place_of s.address r)) (same_addend row r.addend k) in
        let goes : field_or_thunk l s r (info_written row) v ≡ Ok d = rw k at e in
        by_reached a given (reached_by l s r (info_written row) (value_in l (info_written row) a r.addend (place_of s.address r)) d (subst (λ (w : ℕ). field_or_thunk l s r (info_written row) w ≡ Ok d) value goes))

-- ---- the four ways

-- no row stands at relocation i, and it is not taken along: d is decided of it alone
pub record IsOwn (l : Layout) (s : Item) (i : ℕ) (r : InputRelocation) (d : Decision) : Type 0 where
  pub made : decided l s r ≡ Ok d
  pub choice : choice_on l.machine l s i r ≡ Ok None
  pub alone : is_partner l s i ≡ false

-- on x86-64 so it is of the relocation and the one behind it
pub own_choice : (l : Layout) (s : Item) (i : ℕ) (r : InputRelocation) (d : Decision) → IsOwn l s i r d → l.machine ≡ machine.X86_64 → choice_of l s r (slice_get s.relocations (i + 1)) ≡ Ok None
own_choice l s i r d own x86 = subst (λ (m : Machine). choice_on m l s i r ≡ Ok None) x86 own.choice

-- a sequence that is not there has no decision
pub refused : (l : Layout) (s : Item) (r : InputRelocation) (e : UnknownSequence) (d : Decision) → refused_sequence l s r e ≡ Ok d → ⊥
refused l s r e d h = by_term l s r e d (term_to l r e.written (place_of s.address r)) refl h
  where
    by_term : (l : Layout) (s : Item) (r : InputRelocation) (e : UnknownSequence) (d : Decision) (t : Result ℕ Fault) → term_to l r e.written (place_of s.address r) ≡ t → refused_sequence l s r e ≡ Ok d → ⊥
    by_term l s r e d (Err f) is h = cc (rw is at h)
    by_term l s r e d (Ok a) is h = cc (rw is at h)

-- a row of AArch64 that changes a word, and what it comes to
record IsMadeWord (l : Layout) (s : Item) (r : InputRelocation) (row : Row) (d : Decision) : Type 0 where
  changes : keeps_bytes row ≡ false
  made : rewritten_decision l s r row ≡ Ok d
  value : ℕ
  is : Rewritten row value ≡ d

made_word : (l : Layout) (s : Item) (r : InputRelocation) (row : Row) (d : Decision) → keeps_bytes row ≡ false → rewritten_decision l s r row ≡ Ok d → IsMadeWord l s r row d
made_word l s r row d k h = by_term (term_to l r (info_written row) (place_to s r row)) h
  where
    by_test : (v : ℕ) (b : Bool) → (if b then Ok (Rewritten row v) else Err (faults.OutOfRange v)) ≡ Ok d → IsMadeWord l s r row d
    by_test v false e = cc
    by_test v true e = (let is : Rewritten row v ≡ d = cc in record { changes = k; made = h; value = v; is = is })

    by_term : (t : Result ℕ Fault) → value_to l s r row t ≡ Ok d → IsMadeWord l s r row d
    by_term (Err f) e = cc
    by_term (Ok a) e = (let v = value_in l (info_written row) a ((rewrite_of row).addend r.addend) (place_to s r row) in by_test v (allows (info_written row) v) (rw k at e))

-- what a row of AArch64 comes to
abbrev IsMadeThere : Layout → Item → InputRelocation → Row → Decision → Type 0
IsMadeThere l s r row d = IsMadeInPlace l s r row d ⊎ IsMadeWord l s r row d

made_there : (l : Layout) (s : Item) (i : ℕ) (r : InputRelocation) (row : Row) (d : Decision) → IsChosenAArch64 l s i r row → rewritten_decision l s r row ≡ Ok d → IsMadeThere l s r row d
made_there l s i r row d c h =
    elim (cases_Bool (keeps_bytes row)) [
      | inl k ↦ inl (made_in_place l s r row d (distance_of row c.listed k) k h)
      | inr k ↦ inr (made_word l s r row d k h)
    ]

decide_cases : {P : Type 0} (l : Layout) (s : Item) (i : ℕ) (r : InputRelocation) (d : Decision) → slice_get s.relocations i ≡ Some r → decide l s i ≡ Ok d → (IsOwn l s i r d → P) → ((row : Row) → IsChosen l s r (slice_get s.relocations (i + 1)) row → IsMade l s r row d → P) → ((row : Row) → IsChosenAArch64 l s i r row → IsMadeThere l s r row d → P)
    → (is_partner l s i ≡ true → Partner ≡ d → P) → P
unfolding decide
decide_cases {P} l s i r d listed h own made there taken = by_partner (is_partner l s i) refl h
  where
    by_machine : (m : Machine) (row : Row) → l.machine ≡ m → choice_on m l s i r ≡ Ok (Some row) → rewritten_decision l s r row ≡ Ok d → P
    by_machine machine.X86_64 row on is e = (let c = choice_row l s r (slice_get s.relocations (i + 1)) row on is in made row c (row_makes l s r row d on c.plain (listed_type row (is_listed l s r (slice_get s.relocations (i + 1)) row c)) e))
    by_machine machine.AArch64 row on is e = (let c = choice_row_aarch64 l s i r row on listed is in there row c (made_there l s i r row d c e))

    by_choice : (c : Result (Option Row) UnknownSequence) → is_partner l s i ≡ false → choice_on l.machine l s i r ≡ c → decide_with l s r c ≡ Ok d → P
    by_choice (Ok None) alone is e = own (record { made = e; choice = is; alone = alone })
    by_choice (Ok (Some row)) alone is e = by_machine l.machine row refl is e
    by_choice (Err u) alone is e = absurd (refused l s r u d e)

    by_partner : (b : Bool) → is_partner l s i ≡ b → (if b then Ok Partner else decide_at l s i (slice_get s.relocations i)) ≡ Ok d → P
    by_partner true is e = taken is cc
    by_partner false is e = by_choice (choice_on l.machine l s i r) is refl (subst (λ (o : Option InputRelocation). decide_at l s i o ≡ Ok d) listed e)

of_made : (l : Layout) (s : Item) (r : InputRelocation) (row : Row) (d : Decision) → IsMadeThere l s r row d → IsOfRow d
of_made l s r row d (inl m) = subst IsOfRow m.is tt
of_made l s r row d (inr m) = subst IsOfRow m.is tt

-- ---- decisions of a relocation alone

own_alone : (l : Layout) (s : Item) (i : ℕ) (r : InputRelocation) (d : Decision) → slice_get s.relocations i ≡ Some r → decide l s i ≡ Ok d → (IsOfRow d → ⊥) → (Partner ≡ d → ⊥) → IsOwn l s i r d
own_alone l s i r d listed h no_row no_call =
    decide_cases l s i r d listed h
    (λ own. own)
    (λ row c m. absurd (no_row (of_row (keeps_bytes row) m.by.info.size row m.value d m.is)))
    (λ row c m. absurd (no_row (of_made l s r row d m)))
    (λ t e. absurd (no_call e))

pub decide_nothing : (l : Layout) (s : Item) (i : ℕ) (r : InputRelocation) → slice_get s.relocations i ≡ Some r → decide l s i ≡ Ok Nothing → IsOwn l s i r Nothing
decide_nothing l s i r listed h = own_alone l s i r Nothing listed h (λ x. x) (λ e. cc)

pub decide_moved : (l : Layout) (s : Item) (i : ℕ) (r : InputRelocation) (v : ℕ) (packed : Bool) → slice_get s.relocations i ≡ Some r → decide l s i ≡ Ok (RelativeAddress v packed) → IsOwn l s i r (RelativeAddress v packed)
decide_moved l s i r v packed listed h = own_alone l s i r (RelativeAddress v packed) listed h (λ x. x) (λ e. cc)

pub decide_left : (l : Layout) (s : Item) (i : ℕ) (r : InputRelocation) (z : RelocationSize) (number symbol addend : ℕ) → slice_get s.relocations i ≡ Some r → decide l s i ≡ Ok (DynamicField z number symbol addend) → IsOwn l s i r (DynamicField z number symbol addend)
decide_left l s i r z number symbol addend listed h = own_alone l s i r (DynamicField z number symbol addend) listed h (λ x. x) (λ e. cc)

-- ---- values of rows that keep the bytes around their field

-- such a row writes v into the relocation's own field
pub record IsKept (l : Layout) (s : Item) (r : InputRelocation) (next : Option InputRelocation) (z : RelocationSize) (v : ℕ) : Type 0 where
  pub row : Row
  pub keeps : (row ≡ PLT) ⊎ (row ≡ PLT_OFF)
  pub chosen : IsChosen l s r next row
  pub info : RelocationKindInfo
  pub known : row_of l.machine (rewrite_of row).number ≡ Some info
  pub kind : HasValue info.kind
  pub size : info.size ≡ z
  pub term : ℕ
  pub given : term_of l r.symbol info.kind ≡ Ok term
  pub value : value_by l info.kind term r.addend (place_of s.address r) ≡ v
  pub allowed : allows info v ≡ true
  pub field : HasField l r z

other_number : (n k : ℕ) → n ≡ k → (n == abi.r_x86_64_pc32) ≡ false → (k == abi.r_x86_64_pc32) ≡ false
other_number n k e h = subst (λ (x : ℕ). (x == abi.r_x86_64_pc32) ≡ false) e h

-- two rows keep the bytes, but for that of IFUNCs
abbrev keeps_here : Row → Bool
keeps_here row = keeps_bytes row && not (row.number == abi.r_x86_64_pc32)

two_keep : filter keeps_here rows_x86_64 ≡ PLT ∷ PLT_OFF ∷ []
unfolding rows_x86_64
two_keep = refl

kept_rows : (row : Row) → Contains rows_x86_64 row → keeps_bytes row ≡ true → (row.number == abi.r_x86_64_pc32) ≡ false → (row ≡ PLT) ⊎ (row ≡ PLT_OFF)
kept_rows row listed k n = of_two PLT PLT_OFF row (subst (λ (rows : List Row). Contains rows row) two_keep (kept_listed keeps_here rows_x86_64 row listed (rw (k, n) refl)))

-- the row of a number, by the table
at_number : (m : Machine) (n k : ℕ) (row : RelocationKindInfo) → m ≡ machine.X86_64 → n ≡ k → x86_64_row k ≡ Some row → row_of m n ≡ Some row
unfolding row_of
at_number machine.AArch64 n k row is e h = cc
at_number machine.X86_64 n k row is e h = ap x86_64_row e ∙ h

known_info : (m : Machine) (n : ℕ) (info row : RelocationKindInfo) → m ≡ machine.X86_64 → row_of m n ≡ Some info → x86_64_row n ≡ Some row → info ≡ row
known_info m n info row is known h = let e : Some info ≡ Some row = sym known ∙ at_number m n n row is refl h in cc

kept_field : (l : Layout) (s : Item) (r : InputRelocation) (next : Option InputRelocation) (row : Row) (z : RelocationSize) (v : ℕ) (old new : RelocationKindInfo) → IsChosen l s r next row → (m : IsWrittenBy l s r row v) → m.info.size ≡ z → (row ≡ PLT) ⊎ (row ≡ PLT_OFF) → x86_64_row row.number ≡ Some old → HasValue old.kind → x86_64_row (rewrite_of row).number ≡ Some new → HasValue new.kind → old.size ≡ new.size → (rewrite_of row).addend r.addend ≡ r.addend → field_at row r ≡ r.offset → IsKept l s r next z v
kept_field l s r next row z v old new c m size keeps before old_kind behind new_kind sizes addend at =
    let same : m.info ≡ new = known_info l.machine (rewrite_of row).number m.info new c.machine m.known behind in
    let kind : HasValue m.info.kind = subst (λ (x : RelocationKindInfo). HasValue x.kind) (sym same) new_kind in
    record {
      row = row;
      keeps = keeps;
      chosen = c;
      info = m.info;
      known = m.known;
      kind = kind;
      size = size;
      term = m.term;
      given = term_has_value l r m.info m.term kind m.given;
      value = ap (λ a. value_by l m.info.kind m.term a (place_of s.address r)) (sym addend) ∙ ap (λ (p : ℕ). value_by l m.info.kind m.term ((rewrite_of row).addend r.addend) ((s.address + p) % 2 ^ 64)) (sym at) ∙ m.value;
      allowed = m.allowed;
      field = record { row = old; known = at_number l.machine r.number row.number old c.machine c.number before; kind = old_kind; size = sizes ∙ ap (λ (x : RelocationKindInfo). x.size) (sym same) ∙ size };
    }

kept_plt : (l : Layout) (s : Item) (r : InputRelocation) (next : Option InputRelocation) (z : RelocationSize) (v : ℕ) → IsChosen l s r next PLT → (m : IsWrittenBy l s r PLT v) → m.info.size ≡ z → IsKept l s r next z v
unfolding x86_64_row
kept_plt l s r next z v c m size = kept_field l s r next PLT z v (plain kinds.PltRelative Four Signed) (plain kinds.Relative Four Signed) c m size (inl refl) refl refl refl refl refl refl (omega arith)

kept_offset : (l : Layout) (s : Item) (r : InputRelocation) (next : Option InputRelocation) (z : RelocationSize) (v : ℕ) → IsChosen l s r next PLT_OFF → (m : IsWrittenBy l s r PLT_OFF v) → m.info.size ≡ z → IsKept l s r next z v
unfolding x86_64_row
kept_offset l s r next z v c m size = kept_field l s r next PLT_OFF z v (plain kinds.PltRelGotBase Eight Signed) (plain kinds.SymRelGotBase Eight Signed) c m size (inr refl) refl refl refl refl refl refl (omega arith)

made_kept : (l : Layout) (s : Item) (r : InputRelocation) (next : Option InputRelocation) (z : RelocationSize) (v : ℕ) (row : Row) → IsChosen l s r next row → (row ≡ PLT) ⊎ (row ≡ PLT_OFF) → (m : IsWrittenBy l s r row v) → m.info.size ≡ z → IsKept l s r next z v
made_kept l s r next z v row c (inl e) =
    let P : Row → Type 0 = λ x. IsChosen l s r next x → (m : IsWrittenBy l s r x v) → m.info.size ≡ z → IsKept l s r next z v in
    subst P (sym e) (kept_plt l s r next z v) c
made_kept l s r next z v row c (inr e) =
    let P : Row → Type 0 = λ x. IsChosen l s r next x → (m : IsWrittenBy l s r x v) → m.info.size ≡ z → IsKept l s r next z v in
    subst P (sym e) (kept_offset l s r next z v) c

-- the same on AArch64: a distance of code into a field of the relocation's own type
pub record IsKeptAArch64 (l : Layout) (s : Item) (i : ℕ) (r : InputRelocation) (z : RelocationSize) (v : ℕ) : Type 0 where
  pub row : Row
  pub chosen : IsChosenAArch64 l s i r row
  pub goes : IsDistance row
  pub written : IsWrittenInPlace l s r row v
  pub size : (info_written row).size ≡ z
  pub field : HasField l r z

pub distance_has_value : (d : Distance) (goal : Goal) → HasValue (or_nothing (type_row (written.Code d goal))).kind
unfolding static_row
distance_has_value distances.Jump26 goal = refl
distance_has_value distances.Call26 goal = refl
distance_has_value distances.CondBr19 goal = refl
distance_has_value distances.TstBr14 goal = refl
distance_has_value distances.Plt32 goal = refl

-- the row of its type
pub distance_row : (d : Distance) (goal : Goal) → row_of machine.AArch64 (distance_type d) ≡ Some (or_nothing (type_row (written.Code d goal)))
unfolding row_of
distance_row d goal = typed (written.Code d goal)

distance_field : (l : Layout) (s : Item) (i : ℕ) (r : InputRelocation) (row : Row) → IsChosenAArch64 l s i r row → IsDistance row → HasField l r (info_written row).size
distance_field l s i r row c goes =
    let old = or_nothing (type_row (written.Code goes.distance goes.goal)) in
    record {
      row = old;
      known = ap (λ (m : Machine). row_of m r.number) c.machine ∙ ap (row_of machine.AArch64) (c.number ∙ goes.number) ∙ distance_row goes.distance goes.goal;
      kind = distance_has_value goes.distance goes.goal;
      size = ap (λ (w : Written). (info_by w).size) (sym goes.written);
    }

-- a field that is written into what the input has there
pub decide_field : (l : Layout) (s : Item) (i : ℕ) (r : InputRelocation) (z : RelocationSize) (v : ℕ) → slice_get s.relocations i ≡ Some r → decide l s i ≡ Ok (Field z v) → IsOwn l s i r (Field z v) ⊎ (IsKept l s r (slice_get s.relocations (i + 1)) z v ⊎ IsKeptAArch64 l s i r z v)
decide_field l s i r z v listed h = decide_cases l s i r (Field z v) listed h (λ own. inl own) (λ row c m. inr (inl (by_row l s r (slice_get s.relocations (i + 1)) row z v c m))) (λ row c m. inr (inr (by_distance row c m))) (λ t e. cc)
  where
    by_test : (b : Bool) (row : Row) (size z : RelocationSize) (w v : ℕ) → (if b then Field size w else Rewritten row w) ≡ Field z v → (b ≡ true) × (size ≡ z) × (w ≡ v)
    by_test true row size z w v h =
        let a : size ≡ z = cc in
        let e : w ≡ v = cc in
        (refl, a, e)
    by_test false row size z w v h = cc

    by_row : (l : Layout) (s : Item) (r : InputRelocation) (next : Option InputRelocation) (row : Row) (z : RelocationSize) (v : ℕ) → IsChosen l s r next row → IsMade l s r row (Field z v) → IsKept l s r next z v
    by_row l s r next row z v c m =
        let t = by_test (keeps_bytes row) row m.by.info.size z m.value v m.is in
        let keeps = kept_rows row (is_listed l s r next row c) t.0 (other_number r.number row.number c.number c.other) in
        subst (λ (x : ℕ). IsKept l s r next z x) t.2 (made_kept l s r next z m.value row c keeps m.by t.1)

    by_distance : (row : Row) → IsChosenAArch64 l s i r row → IsMadeThere l s r row (Field z v) → IsKeptAArch64 l s i r z v
    by_distance row c (inr m) = (let e = m.is in cc)
    by_distance row c (inl m) =
        let size : (info_written row).size ≡ z = (let e = m.is in cc) in
        let value : m.value ≡ v = (let e = m.is in cc) in
        record { row = row; chosen = c; goes = m.goes; written = subst (IsWrittenInPlace l s r row) value m.by; size = size; field = subst (HasField l r) size (distance_field l s i r row c m.goes) }

-- ---- instructions

-- a row writes all of its pattern, with v in the field
pub record IsRewritten (l : Layout) (s : Item) (r : InputRelocation) (next : Option InputRelocation) (row : Row) (v : ℕ) : Type 0 where
  pub chosen : IsChosen l s r next row
  pub changes : keeps_bytes row ≡ false
  pub written : IsWrittenBy l s r row v

-- a row of AArch64 writes a word, with v in its field
pub record IsRewrittenAArch64 (l : Layout) (s : Item) (i : ℕ) (r : InputRelocation) (row : Row) (v : ℕ) : Type 0 where
  pub chosen : IsChosenAArch64 l s i r row
  pub changes : keeps_bytes row ≡ false
  pub made : rewritten_decision l s r row ≡ Ok (Rewritten row v)
  pub alone : is_partner l s i ≡ false

abbrev pub IsRewrittenBy : Layout → Item → ℕ → InputRelocation → Row → ℕ → Type 0
IsRewrittenBy l s i r row v = IsRewritten l s r (slice_get s.relocations (i + 1)) row v ⊎ IsRewrittenAArch64 l s i r row v

pub decide_rewritten : (l : Layout) (s : Item) (i : ℕ) (r : InputRelocation) (row : Row) (v : ℕ) → slice_get s.relocations i ≡ Some r → decide l s i ≡ Ok (Rewritten row v) → IsRewrittenBy l s i r row v
decide_rewritten l s i r row v listed h = decide_cases l s i r (Rewritten row v) listed h (λ own. absurd (decided_keeps l s r (Rewritten row v) own.made)) (λ w c m. inl (by_row w c m)) (λ w c m. inr (by_word w c m)) (λ t e. cc)
  where
    by_test : (b : Bool) (w : Row) (size : RelocationSize) (x : ℕ) → (if b then Field size x else Rewritten w x) ≡ Rewritten row v → (b ≡ false) × (w ≡ row) × (x ≡ v)
    by_test true w size x h = cc
    by_test false w size x h =
        let a : w ≡ row = cc in
        let e : x ≡ v = cc in
        (refl, a, e)

    by_row : (w : Row) → IsChosen l s r (slice_get s.relocations (i + 1)) w → IsMade l s r w (Rewritten row v) → IsRewritten l s r (slice_get s.relocations (i + 1)) row v
    by_row w c m =
        let t = by_test (keeps_bytes w) w m.by.info.size m.value m.is in
        let P : Row → Type 0 = λ y. IsRewritten l s r (slice_get s.relocations (i + 1)) y v in
        subst P t.1 (record { chosen = c; changes = t.0; written = subst (λ (x : ℕ). IsWrittenBy l s r w x) t.2 m.by })

    by_word : (w : Row) → IsChosenAArch64 l s i r w → IsMadeThere l s r w (Rewritten row v) → IsRewrittenAArch64 l s i r row v
    by_word w c (inl m) = (let e = m.is in cc)
    by_word w c (inr m) =
        let same : w ≡ row = (let e = m.is in cc) in
        let Q : Row → Type 0 = λ y. IsChosenAArch64 l s i r y in
        record {
          chosen = subst Q same c;
          changes = subst (λ (y : Row). keeps_bytes y ≡ false) same m.changes;
          made = subst (λ (y : Row). rewritten_decision l s r y ≡ Ok (Rewritten row v)) same m.made;
          alone = no_partner_aarch64 l s i c.machine;
        }

pub rewritten_x86_64 : (l : Layout) (s : Item) (i : ℕ) (r : InputRelocation) (row : Row) (v : ℕ) → l.machine ≡ machine.X86_64 → slice_get s.relocations i ≡ Some r → decide l s i ≡ Ok (Rewritten row v) → IsRewritten l s r (slice_get s.relocations (i + 1)) row v
rewritten_x86_64 l s i r row v on listed h =
    elim (decide_rewritten l s i r row v listed h) [
      | inl w ↦ w
      | inr w ↦ (let both : machine.AArch64 ≡ machine.X86_64 = sym w.chosen.machine ∙ on in cc)
    ]

pub rewritten_aarch64 : (l : Layout) (s : Item) (i : ℕ) (r : InputRelocation) (row : Row) (v : ℕ) → l.machine ≡ machine.AArch64 → slice_get s.relocations i ≡ Some r → decide l s i ≡ Ok (Rewritten row v) → IsRewrittenAArch64 l s i r row v
rewritten_aarch64 l s i r row v on listed h =
    elim (decide_rewritten l s i r row v listed h) [
      | inl w ↦ (let both : machine.AArch64 ≡ machine.X86_64 = sym on ∙ w.chosen.machine in cc)
      | inr w ↦ w
    ]

-- ---- relocations that are taken along

pub decide_partner : (l : Layout) (s : Item) (i : ℕ) (r : InputRelocation) → slice_get s.relocations i ≡ Some r → decide l s i ≡ Ok Partner → (j : ℕ) × (i ≡ j + 1) × (row : Row) × IsSequence l s j row
decide_partner l s i r listed h = decide_cases l s i r Partner listed h (λ own. absurd (decided_keeps l s r Partner own.made)) (λ row c m. absurd (of_row (keeps_bytes row) m.by.info.size row m.value Partner m.is)) (λ row c m. absurd (of_made l s r row Partner m)) (λ t e. partner_is_taken l s i t)

-- the relocation of such a row is no call
abbrev is_no_call : GeneralForm → Row → Bool
is_no_call f row = not (is_call_number f row.number)

each_is_no_call : (f : GeneralForm) → list_all (λ (row : Row). not (takes_next (Ok (Some row))) || is_no_call f row) rows_x86_64 ≡ true
unfolding rows_x86_64
each_is_no_call general.Regular = refl
each_is_no_call general.NoPlt = refl
each_is_no_call general.Large = refl

sequence_is_no_call : (row : Row) (f : GeneralForm) → Contains rows_x86_64 row → takes_next (Ok (Some row)) ≡ true → is_call_number f row.number ≡ true → ⊥
sequence_is_no_call row f listed t h = not_both (is_call_number f row.number) (implied _ _ (listed_passes (λ (r : Row). not (takes_next (Ok (Some r))) || is_no_call f r) rows_x86_64 row (each_is_no_call f) listed) t) h

-- and so it is not taken along itself
pub sequence_is_alone : (l : Layout) (s : Item) (j : ℕ) (row : Row) → IsSequence l s j row → is_partner l s j ≡ false
sequence_is_alone l s j row q =
    elim (cases_Bool (is_partner l s j)) [
      | inr f ↦ f
      | inl t ↦ (let p = partner_is_taken l s j t in absurd (taken l s p.0 p.2 q.relocation (slice_get s.relocations (j + 1)) row p.3 (subst (λ (k : ℕ). slice_get s.relocations k ≡ Some q.relocation) p.1 q.listed) q.is q.takes))
    ]
  where
    taken : (l : Layout) (s : Item) (k : ℕ) (w : Row) (r : InputRelocation) (next : Option InputRelocation) (row : Row) → IsSequence l s k w → slice_get s.relocations (k + 1) ≡ Some r → choice_of l s r next ≡ Ok (Some row) → takes_next (Ok (Some row)) ≡ true → ⊥
    taken l s k w r next row p listed is takes =
        let before = choice_row l s p.relocation (Some r) w p.machine (subst (λ (o : Option InputRelocation). choice_of l s p.relocation o ≡ Ok (Some w)) listed p.is) in
        let c = choice_row l s r next row p.machine is in
        let n = partner_number l s p.relocation r w before p.takes in
        sequence_is_no_call row (call_form w) (is_listed l s r next row c) takes (subst (λ (x : ℕ). is_call_number (call_form w) x ≡ true) c.number n)

abbrev takes_or_keeps : Row → Bool
takes_or_keeps row = not (takes_next (Ok (Some row))) || not (keeps_bytes row)

each_changes : list_all takes_or_keeps rows_x86_64 ≡ true
unfolding rows_x86_64
each_changes = refl

sequence_changes : (row : Row) → Contains rows_x86_64 row → takes_next (Ok (Some row)) ≡ true → keeps_bytes row ≡ false
sequence_changes row listed t = not-true (keeps_bytes row) (implied _ _ (listed_passes takes_or_keeps rows_x86_64 row each_changes listed) t)

-- what is decided of the relocation of such a row is its rewrite
pub sequence_is_rewritten : (l : Layout) (s : Item) (j : ℕ) (row : Row) (d : Decision) → IsSequence l s j row → decide l s j ≡ Ok d → (v : ℕ) × (d ≡ Rewritten row v)
sequence_is_rewritten l s j row d q h =
    decide_cases l s j q.relocation d q.listed h
    (λ own. absurd (no_other (choice_of l s q.relocation (slice_get s.relocations (j + 1))) row (subst (λ (m : Machine). choice_on m l s j q.relocation ≡ Ok None) q.machine own.choice) q.is))
    (λ w c m. by_row l s q.relocation (slice_get s.relocations (j + 1)) w row d c q.is q.takes m)
    (λ w c m. (let both : machine.AArch64 ≡ machine.X86_64 = sym c.machine ∙ q.machine in cc))
    (λ t e. absurd (no_both (is_partner l s j) t (sequence_is_alone l s j row q)))
  where
    no_other : (c : Result (Option Row) UnknownSequence) (row : Row) → c ≡ Ok None → c ≡ Ok (Some row) → ⊥
    no_other c row e h = let b : Ok None ≡ Ok (Some row) = sym e ∙ h in cc

    no_both : (b : Bool) → b ≡ true → b ≡ false → ⊥
    no_both true t f = cc
    no_both false t f = cc

    same_row : (c : Result (Option Row) UnknownSequence) (w row : Row) → c ≡ Ok (Some w) → c ≡ Ok (Some row) → w ≡ row
    same_row c w row e h = let b : Ok (Some w) ≡ Ok (Some row) = sym e ∙ h in cc

    by_test : (b : Bool) (z : RelocationSize) (w : Row) (x : ℕ) (d : Decision) → b ≡ false → (if b then Field z x else Rewritten w x) ≡ d → d ≡ Rewritten w x
    by_test true z w x d f h = cc
    by_test false z w x d f h = sym h

    by_row : (l : Layout) (s : Item) (r : InputRelocation) (next : Option InputRelocation) (w row : Row) (d : Decision) → IsChosen l s r next w → choice_of l s r next ≡ Ok (Some row) → takes_next (Ok (Some row)) ≡ true → IsMade l s r w d → (v : ℕ) × (d ≡ Rewritten row v)
    by_row l s r next w row d c is takes m =
        let same = same_row (choice_of l s r next) w row c.choice is in
        let changes = subst (λ (x : Row). keeps_bytes x ≡ false) (sym same) (sequence_changes row (subst (λ (x : Row). Contains rows_x86_64 x) same (is_listed l s r next w c)) takes) in
        (m.value, by_test (keeps_bytes w) m.by.info.size w m.value d changes m.is ∙ ap (λ (x : Row). Rewritten x m.value) same)

-- ---- relocations that are decided of by themselves

-- no row stands there, and none takes it along
pub decide_alone : (l : Layout) (s : Item) (i : ℕ) (r : InputRelocation) → slice_get s.relocations i ≡ Some r → is_partner l s i ≡ false → choice_on l.machine l s i r ≡ Ok None → decide l s i ≡ decided l s r
unfolding decide
decide_alone l s i r listed alone none = rw (alone, listed, none) refl

-- a field that a loader may fill is of no row's kind, and of no call's
pub decide_loads : (l : Layout) (s : Item) (i : ℕ) (r : InputRelocation) (row : RelocationKindInfo) → slice_get s.relocations i ≡ Some r → row_of l.machine r.number ≡ Some row → loads row.kind ≡ true → decide l s i ≡ decided l s r
decide_loads l s i r row listed known h = decide_alone l s i r listed (no_partner l s i r row listed known h) (no_row l s i r row listed known h)

pub decide_base_relative : (l : Layout) (s : Item) (i : ℕ) (r : InputRelocation) → slice_get s.relocations i ≡ Some r → treatment l s.flags r ≡ treatments.BaseRelative → decide l s i ≡ decided l s r
decide_base_relative l s i r listed is = let k = known_moved l s.flags r is in decide_loads l s i r k.0 listed k.1 (ap loads k.2.kind)

pub decide_symbolic : (l : Layout) (s : Item) (i : ℕ) (r : InputRelocation) (n : ℕ) → slice_get s.relocations i ≡ Some r → treatment l s.flags r ≡ treatments.Symbolic n → decide l s i ≡ decided l s r
decide_symbolic l s i r n listed is = let k = known_symbolic l s.flags r n is in decide_loads l s i r k.0 listed k.1 (ap loads k.2.kind)

pub decide_indirect : (l : Layout) (s : Item) (i : ℕ) (r : InputRelocation) (n : ℕ) → slice_get s.relocations i ≡ Some r → treatment l s.flags r ≡ treatments.Indirect n → decide l s i ≡ decided l s r
decide_indirect l s i r n listed is = let k = known_indirect l s.flags r n is in decide_loads l s i r k.0 listed k.1 (ap loads k.2.kind)

pub decide_extent : (l : Layout) (s : Item) (i : ℕ) (r : InputRelocation) (row : RelocationKindInfo) (n : ℕ) → slice_get s.relocations i ≡ Some r → treatment l s.flags r ≡ treatments.Extent row n → decide l s i ≡ decided l s r
decide_extent l s i r row n listed is = let k = known_extent l s.flags r row n is in decide_loads l s i r row listed k.0 (ap loads k.1.kind)
