-- The fields of AArch64's rows that keep the bytes around them: a branch, and the distance of a stub, goes to the symbol's stub, or of an own symbol
-- to itself.
use Rattle.wild_references.proofs.Common.{◌≡◌, ℕ, ◌+◌, ◌-◌, ◌%◌, ◌^◌, ◌<◌, ◌≤◌, ◌⊎◌, inl, inr, Bool, true, false, refl, sym, ap, ◌∙◌, arith, subst, Option, Some, None, Ok, ◌&&◌, ◌||◌, not, is_none, nat_lt, nat_le, if◌then◌else◌, All, Contains, length, list_all, cases_Bool, not-true, and_parts, le-leb, w64, cast_unsigned, implied, listed_passes, slice_get_inside, holds_at, r_aarch64_tstbr14, r_aarch64_condbr19, r_aarch64_jump26, r_aarch64_call26, Machine, InputRelocation, Item, Layout, has_flag, interposable, ifunc, undefined_weak, plt_stub, KeepsAll, is_position_independent, place_of, allocated, executable, row_of, flags_at, is_barred, kind_treatment, row_accepts, expression_of, allows, size_width, Value, Formula, formula, StubDistance, Distance, Bits, Imm26Field, WithinPower, aarch64_formula, contains, static_row, Subtrahend, PageMask, RelocationKindInfo, RelocationSize, takes_symbol, takes_value, is_listed, branch_types, info_by, rows_aarch64, Row, SymbolTest, ValueTest, IsApplied, applied, question_around, NamesSymbol, DefinitionNames, names_merged, address_for, field_site, address_of, stub_of, stub_address, subtract, is_undefined_weak_without_stub, subtracts_place, weak_resolves_to_place, undefined_weak_target, term_at, value_in, HasField, ComesTo, Memory, World, Holds, IsSum, IsReferent, IsReferentOnAArch64, Gives, IsPlaceRelative, formula_of, FieldReads, place_at, HasRaw, HasFlag, MustHold, TakesStub, IsOmitted, bit_code, flag_is, FieldHolds, is_expressed, value_by_row, IsDirect, HasTerm, IsFollowed, EachThunkJumps, AllowsThunks, NamesStrings}
use Rattle.std.proofs.lemmas.Bool.{lt-ltb}
use Rattle.wild_types.specs.declared.fault.Missing.TheVariants as missing
use Rattle.wild_types.specs.declared.kind.Machine.TheVariants as machine
use Rattle.wild_slot.specs.declared.treatment.Treatment.TheVariants as treatments
use Rattle.wild_slot.specs.Treatment.{is_barred_type, has_no_local_address}
use Rattle.wild_reloc.specs.TableAArch64.{signed}
use Rattle.wild_reloc.specs.declared.range.AllowedRange.{AllowedRange}
use Rattle.wild_reloc.specs.declared.expression.Term.TheVariants as term
use Rattle.wild_reloc.specs.declared.expression.Subtrahend.TheVariants as subtrahend
use Rattle.wild_meaning.proofs.SymbolLemmas.{distance_denotes}
use Rattle.wild_relax.specs.RewriteX86_64.{distance_type, or_nothing, type_row}
use Rattle.wild_relax.specs.declared.row.Distance.{Distance as Branch}
use Rattle.wild_relax.specs.declared.row.Distance.TheVariants as distances
use Rattle.wild_relax.specs.declared.row.Goal.{Goal}
use Rattle.wild_relax.specs.declared.row.Goal.TheVariants as goals
use Rattle.wild_relax.specs.declared.row.SymbolTest.TheVariants as symbol
use Rattle.wild_relax.specs.declared.row.Written.{Written}
use Rattle.wild_relax.specs.declared.row.Written.TheVariants as written
use Rattle.wild_layout.proofs.ChoiceLemmas.{IsChosenAArch64}
use Rattle.wild_layout.proofs.ThunkFieldLemmas.{IsCarried}
use Rattle.wild_layout.proofs.DecisionLemmas.{IsDistance, IsKeptAArch64, goes_far, distance_has_value, distance_row}
use Rattle.wild_meaning.specs.Section.{IsForDebuggers}
use Rattle.wild_meaning.specs.Template.{CanHave}
use Rattle.wild_meaning.specs.Reference.{BranchesDirectly}
use Rattle.wild_references.proofs.Fields.{KindLaws, IsItemLoaded, old_field, old_long, field_within, place_is, place_ends, comes_low, row_reads, row_keeps}
use Rattle.wild_references.proofs.KnownRows.{RowFits, row_fits}
use Rattle.wild_references.proofs.OmittedReferences.{all_or_bare}
use Rattle.wild_references.proofs.OwnSymbols.{own_symbol}
use Rattle.wild_references.proofs.Referents.{not_own}
use Rattle.wild_references.proofs.SymbolStubs.{stub_there}
use Rattle.wild_references.proofs.Symbols.{flag_at}
use Rattle.wild_references.proofs.ThunkKinds.{symbol_row, stub_row, not_far, from_place as from_there}
use Rattle.wild_references.proofs.ValueKinds.{more}
use Rattle.wild_references.proofs.Values.{has_raw}
use Rattle.wild_references.proofs.WrittenFields.{IsBranchField, address_given, given_some}
use Rattle.wild_meaning.proofs.StringLemmas.{referent_by}
use Rattle.wild_references.proofs.MergedStrings.{names_none, plain_address}

-- ---- the rows

-- the type's own row, and the one that is written
abbrev pub old_row : Branch → Goal → RelocationKindInfo
old_row d goal = or_nothing (type_row (written.Code d goal))

abbrev pub new_row : Branch → Goal → RelocationKindInfo
new_row d goal = info_by (written.Code d goal)

-- what the type's own row stands for
abbrev pub expressed_of : Branch → Value
expressed_of distances.CondBr19 = Distance
expressed_of distances.TstBr14 = Distance
expressed_of other = StubDistance

pub far_value : (d : Branch) → goes_far d ≡ true → expressed_of d ≡ StubDistance
far_value distances.Jump26 h = refl
far_value distances.Call26 h = refl
far_value distances.Plt32 h = refl
far_value other h = cc

pub near_value : (d : Branch) → goes_far d ≡ false → expressed_of d ≡ Distance
near_value distances.CondBr19 h = refl
near_value distances.TstBr14 h = refl
near_value other h = cc

from_place : (d : Branch) → IsPlaceRelative (expressed_of d)
from_place distances.Jump26 = tt
from_place distances.Call26 = tt
from_place distances.CondBr19 = tt
from_place distances.TstBr14 = tt
from_place distances.Plt32 = tt

old_value : (d : Branch) (goal : Goal) → value_by_row (old_row d goal) ≡ expressed_of d
unfolding static_row
old_value distances.Jump26 goal = refl
old_value distances.Call26 goal = refl
old_value distances.CondBr19 goal = refl
old_value distances.TstBr14 goal = refl
old_value distances.Plt32 goal = refl

stub_value : (d : Branch) → value_by_row (new_row d goals.Stub) ≡ StubDistance
unfolding static_row
stub_value distances.Jump26 = refl
stub_value distances.Call26 = refl
stub_value distances.CondBr19 = refl
stub_value distances.TstBr14 = refl
stub_value distances.Plt32 = refl

pub symbol_value : (d : Branch) → value_by_row (new_row d goals.Symbol) ≡ Distance
unfolding static_row
symbol_value distances.Jump26 = refl
symbol_value distances.Call26 = refl
symbol_value distances.CondBr19 = refl
symbol_value distances.TstBr14 = refl
symbol_value distances.Plt32 = refl

pub no_mask : (d : Branch) (goal : Goal) → (new_row d goal).mask ≡ None
unfolding static_row
no_mask distances.Jump26 goal = refl
no_mask distances.Call26 goal = refl
no_mask distances.CondBr19 goal = refl
no_mask distances.TstBr14 goal = refl
no_mask distances.Plt32 goal = refl

-- only a branch that goes far may go by a thunk
pub near_alone : (d : Branch) (goal : Goal) → goes_far d ≡ false → (new_row d goal).thunkable ≡ false
unfolding static_row
near_alone distances.CondBr19 goal h = refl
near_alone distances.TstBr14 goal h = refl
near_alone other goal h = cc

carries_goal : (d : Branch) (goal : Goal) → (new_row d goal).thunkable ≡ true → AllowsThunks (new_row d goal)
unfolding static_row
carries_goal distances.Jump26 goals.Symbol h = record { kind = inl refl; whole = refl; here = refl; next = refl }
carries_goal distances.Jump26 goals.Stub h = record { kind = inr refl; whole = refl; here = refl; next = refl }
carries_goal distances.Call26 goals.Symbol h = record { kind = inl refl; whole = refl; here = refl; next = refl }
carries_goal distances.Call26 goals.Stub h = record { kind = inr refl; whole = refl; here = refl; next = refl }
carries_goal other goal h = cc

-- ---- what is known of it

-- without a page, of a symbol that is named, such a term suits
suits_named : (x y : Bool) (o : Option ℕ) (i : ℕ) → o ≡ Some i → ((x || true) && not (is_none o && y)) ≡ true
suits_named true y o i e = rw e refl
suits_named false y o i e = rw e refl

pub suits_goal : (l : Layout) (r : InputRelocation) (d : Branch) (goal : Goal) (i : ℕ) → l.machine ≡ machine.AArch64 → r.symbol ≡ Some i → row_accepts l.machine r (new_row d goal) ≡ true
suits_goal l r d goals.Symbol i on named = subst (λ (m : Machine). row_accepts m r (new_row d goals.Symbol) ≡ true) (sym on) (suits_named _ (not (is_none (new_row d goals.Symbol).mask)) r.symbol i named)
suits_goal l r d goals.Stub i on named = subst (λ (m : Machine). row_accepts m r (new_row d goals.Stub) ≡ true) (sym on) (suits_named _ (not (is_none (new_row d goals.Stub).mask)) r.symbol i named)

pub expressed_goal : (l : Layout) (d : Branch) (goal : Goal) → l.machine ≡ machine.AArch64 → is_expressed l.machine (expression_of (new_row d goal).kind).term (expression_of (new_row d goal).kind).subtrahend (new_row d goal).mask ≡ true
expressed_goal l d goals.Symbol on = subst (λ (m : Machine). is_expressed m term.Symbol subtrahend.Place (new_row d goals.Symbol).mask ≡ true) (sym on) (subst (λ (o : Option PageMask). is_expressed machine.AArch64 term.Symbol subtrahend.Place o ≡ true) (sym (no_mask d goals.Symbol)) refl)
expressed_goal l d goals.Stub on = subst (λ (m : Machine). is_expressed m term.Stub subtrahend.Place (new_row d goals.Stub).mask ≡ true) (sym on) (subst (λ (o : Option PageMask). is_expressed machine.AArch64 term.Stub subtrahend.Place o ≡ true) (sym (no_mask d goals.Stub)) refl)

-- a type that bars no symbol
not_barred : (l : Layout) (flags i : ℕ) → l.machine ≡ machine.AArch64 → is_barred l flags 0 i ≡ false
not_barred l flags i on = by (allocated flags) (is_position_independent l.kind) (is_barred_type l.machine 0) (has_no_local_address (flags_at l i)) (ap (λ (m : Machine). is_barred_type m 0) on)
  where
    by : (a b c e : Bool) → c ≡ false → (a && b && c && e) ≡ false
    by false b c e h = refl
    by true false c e h = refl
    by true true false e h = refl
    by true true true e h = cc

pub treated_goal : (l : Layout) (s : Item) (r : InputRelocation) (d : Branch) (goal : Goal) (i : ℕ) → l.machine ≡ machine.AArch64 → r.symbol ≡ Some i → kind_treatment l s.flags 0 r.symbol (new_row d goal) (new_row d goal).kind ≡ treatments.Value (new_row d goal)
treated_goal l s r d goals.Stub i on named = rw named refl
treated_goal l s r d goals.Symbol i on named = (let free = not_barred l s.flags i on in rw (named, free) refl)

-- the symbol of a conditional branch in code: nothing here defines it, and it is weak
pub record IsWeakBranch (l : Layout) (s : Item) (r : InputRelocation) (symbol : ℕ) : Type 0 where
  pub code : executable s.flags ≡ true
  pub plain : has_flag (flags_at l symbol) ifunc ≡ false
  pub weak : has_flag (flags_at l symbol) undefined_weak ≡ true

-- ---- the value

flat : (x c q : ℕ) → ((x + c) % 2 ^ 64 + q) % 2 ^ 64 ≡ (x + c + q) % 2 ^ 64
flat x c q = omega arith

-- what stands for the symbol is where a branch may go
branched : (l : Layout) (w : World) (m : Memory) (s : Item) (r : InputRelocation) (a : ℕ) → l.machine ≡ machine.AArch64 → (NamesStrings l r → ⊥) → IsReferent l.machine Distance l w m s r a → IsReferent l.machine StubDistance l w m s r a
branched l w m s r a on none h =
    subst (λ (k : Machine). IsReferent k StubDistance l w m s r a) (sym on) (inr ((λ t. t.0), by_symbol r.symbol (referent_by machine.AArch64 Distance l w m s r a (λ t. none t.1) (subst (λ (k : Machine). IsReferent k Distance l w m s r a) on h))))
  where
    by_symbol : (o : Option ℕ) → IsReferentOnAArch64 Distance l w m s r o a → IsReferentOnAArch64 StubDistance l w m s r o a
    by_symbol None t = t
    by_symbol (Some i) (inl own) = inl own
    by_symbol (Some i) (inr there) = inr (there.0, record { symbol = a; denoted = distance_denotes l w m r i a there.1; comes = inl refl })

goes_there : (l : Layout) (w : World) (m : Memory) (s : Item) (r : InputRelocation) (v : ℕ) → l.machine ≡ machine.AArch64 → (NamesStrings l r → ⊥) → Gives Distance l w m s r v → Gives StubDistance l w m s r v
goes_there l w m s r v on none g =
    let sum : IsSum Distance l w m s r g.0 = g.1 in
    let at = 2 ^ 64 - place_at w s r.offset in
    (sum.symbol, branched l w m s r sum.symbol on none sum.denoted, g.2 ∙ ap (λ (t : ℕ). (t + at) % 2 ^ 64) sum.sum ∙ flat sum.symbol (more r) at)

-- what a row of the table that keeps the bytes says: its goal is the symbol where that is the output's own, and not of a conditional branch; a
-- branch with the stub as its goal is to one that a resolver chooses
pub record GoesWell (l : Layout) (s : Item) (r : InputRelocation) (d : Branch) (goal : Goal) : Type 0 where
  pub on : l.machine ≡ machine.AArch64
  pub symbol : ℕ
  pub named : r.symbol ≡ Some symbol
  pub own : goal ≡ goals.Symbol → (goes_far d ≡ true) × IsFollowed l r Distance
  pub direct : goal ≡ goals.Symbol → has_flag (flags_at l symbol) ifunc ≡ false
  pub chosen : goal ≡ goals.Stub → goes_far d ≡ true → has_flag (flags_at l symbol) ifunc ≡ true
  pub weak : goes_far d ≡ false → IsWeakBranch l s r symbol
  pub number : r.number ≡ distance_type d
  pub plain : names_merged l r.symbol ≡ false

-- whichever module has the symbol
followed_goal : (l : Layout) (s : Item) (r : InputRelocation) (d : Branch) (goal : Goal) → GoesWell l s r d goal → IsFollowed l r (value_by_row (new_row d goal))
followed_goal l s r d goals.Stub g =
    let follow : IsFollowed l r StubDistance = λ j n. inr (inl (λ o. o, λ a. a)) in
    subst (λ (q : Value). IsFollowed l r q) (sym (stub_value d)) follow
followed_goal l s r d goals.Symbol g = subst (λ (q : Value). IsFollowed l r q) (sym (symbol_value d)) (g.own refl).1

-- a branch whose distance is that of the symbol itself is one by its type
near_listed : (d : Branch) → goes_far d ≡ false → is_listed (distance_type d) branch_types ≡ true
near_listed distances.TstBr14 h = refl
near_listed distances.CondBr19 h = refl
near_listed other h = cc

gives_goal : (l : Layout) (w : World) (m : Memory) (s : Item) (r : InputRelocation) (d : Branch) (goal : Goal) (v : ℕ) → KindLaws → GoesWell l s r d goal → HasTerm l w m s r (new_row d goal) v → Gives (expressed_of d) l w m s r v
gives_goal l w m s r d goals.Stub v laws g there =
    elim (cases_Bool (goes_far d)) [
      | inr near ↦ subst (λ (q : Value). Gives q l w m s r v) (sym (near_value d near)) (laws.stands (new_row d goals.Stub) refl l w m s r v g.on (ap (λ (n : ℕ). is_listed n branch_types) g.number ∙ near_listed d near) (names_none l r g.plain) there)
      | inl far ↦ subst (λ (q : Value). Gives q l w m s r v) (stub_value d ∙ sym (far_value d far)) (laws.stub (new_row d goals.Stub) refl refl l w m s r v there (followed_goal l s r d goals.Stub g))
    ]
gives_goal l w m s r d goals.Symbol v laws g there =
    subst (λ (q : Value). Gives q l w m s r v) (sym (far_value d (g.own refl).0)) (goes_there l w m s r v g.on (names_none l r g.plain) (subst (λ (q : Value). Gives q l w m s r v) (symbol_value d) (laws.symbol (new_row d goals.Symbol) refl refl l w m s r v there (followed_goal l s r d goals.Symbol g))))

-- or the distance of a thunk
carried_goal : (l : Layout) (w : World) (m : Memory) (s : Item) (r : InputRelocation) (d : Branch) (goal : Goal) (x v : ℕ) → KindLaws → KeepsAll l → EachThunkJumps l w m → GoesWell l s r d goal → HasTerm l w m s r (new_row d goal) x → IsCarried l s r (new_row d goal) x v → Gives (expressed_of d) l w m s r v
carried_goal l w m s r d goal x v laws all thunks g there t =
    let gives = laws.thunk (new_row d goal) (carries_goal d goal t.thunkable) l w m s r x t.thunk g.on all there thunks (λ k. g.plain) (followed_goal l s r d goal g) t.far t.found t.alone in
    subst (λ (q : Value). Gives q l w m s r v) (sym (far_value d far)) (subst (λ (n : ℕ). Gives StubDistance l w m s r n) t.distance gives)
  where
    far : goes_far d ≡ true
    far =
        elim (cases_Bool (goes_far d)) [
          | inl e ↦ e
          | inr near ↦ (let none = near_alone d goal near in let some = t.thunkable in cc)
        ]

-- ---- what is left out

pub near_type : (d : Branch) → goes_far d ≡ false → (distance_type d ≡ r_aarch64_tstbr14) ⊎ (distance_type d ≡ r_aarch64_condbr19)
near_type distances.TstBr14 h = inl refl
near_type distances.CondBr19 h = inr refl
near_type other h = cc

-- what is known of the relocation beside its row
record IsBranch (l : Layout) (s : Item) (r : InputRelocation) (d : Branch) : Type 0 where
  names : NamesSymbol l r
  symbols : All (DefinitionNames l) l.symbols
  number : r.number ≡ distance_type d
  formula : Formula
  known : formula_of l.machine r.number ≡ Some formula
  is : formula.value ≡ expressed_of d
  low : s.address + r.offset ≤ 2 ^ 62

flag_of : (l : Layout) (s : Item) (r : InputRelocation) (d : Branch) (flag k : ℕ) → IsBranch l s r d → r.symbol ≡ Some k → HasFlag l k flag (has_flag (flags_at l k) flag)
flag_of l s r d flag k b named = (let z = slice_get_inside l.symbols k (b.names k named) in flag_at l k flag z.0 b.symbols z.1)

both_weak : (weak stub : Bool) → weak ≡ true → (weak && not stub) ≡ false → stub ≡ true
both_weak true true e h = refl
both_weak true false e h = cc
both_weak false stub e h = cc

-- a branch with the stub as its goal goes by it, but to a symbol that is not there
stub_left : (l : Layout) (s : Item) (r : InputRelocation) (d : Branch) (term : ℕ) → IsForDebuggers l → (IsOmitted l s r → ⊥) → IsBranch l s r d → (g : GoesWell l s r d goals.Stub) → weak_resolves_to_place l.machine l r (new_row d goals.Stub) ≡ false → stub_address l (Some g.symbol) ≡ Ok term → ⊥
stub_left l s r d term bare present b g here given =
    let there = stub_there l g.symbol term (given_some missing.Stub g.symbol (stub_of l g.symbol) term given) in
    elim (cases_Bool (goes_far d)) [
      | inl far ↦ present (
        bare,
        inr (inr (inl (record {
          symbol = g.symbol;
          named = g.named;
          formula = b.formula;
          known = b.known;
          stub = inr (subst TakesStub (sym (b.is ∙ far_value d far)) tt, (λ direct. indirect far direct), (term, there));
        }))),
      )
      | inr near ↦ present (
        bare,
        inr (inr (inr (inl (record {
          on = g.on;
          conditional = subst (λ (n : ℕ). (n ≡ r_aarch64_tstbr14) ⊎ (n ≡ r_aarch64_condbr19)) (sym b.number) (near_type d near);
          code = bit_code s.flags (g.weak near).code;
          symbol = g.symbol;
          named = g.named;
          weak = subst (HasFlag l g.symbol undefined_weak) (g.weak near).weak (flag_of l s r d undefined_weak g.symbol b g.named);
          plain = subst (HasFlag l g.symbol ifunc) (g.weak near).plain (flag_of l s r d ifunc g.symbol b g.named);
          stubbed = subst (HasFlag l g.symbol plt_stub) (stubbed near) (flag_of l s r d plt_stub g.symbol b g.named);
        })))),
      )
    ]
  where
    indirect : goes_far d ≡ true → BranchesDirectly l s r g.symbol → ⊥
    indirect far direct = (let plain = flag_is l g.symbol ifunc false direct.plain in let both : true ≡ false = sym (g.chosen refl far) ∙ plain in cc)

    present_one : is_undefined_weak_without_stub l (Some g.symbol) ≡ false
    present_one = subst (λ (o : Option ℕ). is_undefined_weak_without_stub l o ≡ false) g.named (not_own l.machine l r (new_row d goals.Stub) here g.on refl (ap subtracts_place (stub_row (new_row d goals.Stub) (no_mask d goals.Stub) refl).taken))

    stubbed : goes_far d ≡ false → has_flag (flags_at l g.symbol) plt_stub ≡ true
    stubbed near = both_weak (has_flag (flags_at l g.symbol) undefined_weak) (has_flag (flags_at l g.symbol) plt_stub) (g.weak near).weak present_one

-- so that one that is not left out goes by none
goes_direct : (l : Layout) (s : Item) (r : InputRelocation) (d : Branch) (goal : Goal) (term : ℕ) → IsForDebuggers l → (IsOmitted l s r → ⊥) → IsBranch l s r d → GoesWell l s r d goal → term_at l r (new_row d goal) (place_of s.address r) ≡ Ok term → IsDirect l r (new_row d goal) (expression_of (new_row d goal).kind).term
goes_direct l s r d goals.Symbol term bare present b g given = λ takes j named stubbed. present (
  bare,
  inr (inr (inl (record {
    symbol = j;
    named = named;
    formula = b.formula;
    known = b.known;
    stub = inl (inr (subst TakesStub (sym (b.is ∙ far_value d (g.own refl).0)) tt), stubbed);
  }))),
)
goes_direct l s r d goals.Stub term bare present b g given = by_place (weak_resolves_to_place l.machine l r (new_row d goals.Stub)) refl given
  where
    by_place : (b : Bool) → weak_resolves_to_place l.machine l r (new_row d goals.Stub) ≡ b → (if b then Ok (undefined_weak_target r.number (place_of s.address r)) else stub_address l r.symbol) ≡ Ok term → weak_resolves_to_place l.machine l r (new_row d goals.Stub) ≡ true
    by_place true e h = e
    by_place false e h = absurd (stub_left l s r d term bare present b g e (subst (λ (o : Option ℕ). stub_address l o ≡ Ok term) g.named h))

-- ---- thunks that are left out

abbrev far_formula : Formula
far_formula = formula StubDistance (Bits Imm26Field 27 2 (WithinPower 28) 4)

-- what may go by a thunk
record GoesFar (l : Layout) (r : InputRelocation) (d : Branch) (goal : Goal) : Type 0 where
  branch : (distance_type d ≡ r_aarch64_jump26) ⊎ (distance_type d ≡ r_aarch64_call26)
  range : (new_row d goal).range ≡ signed 28
  formula : aarch64_formula (distance_type d) ≡ Some far_formula

goes_by_thunk : (l : Layout) (r : InputRelocation) (d : Branch) (goal : Goal) → (new_row d goal).thunkable ≡ true → GoesFar l r d goal
unfolding static_row aarch64_formula
goes_by_thunk l r distances.Jump26 goals.Symbol h = record { branch = inl refl; range = refl; formula = refl }
goes_by_thunk l r distances.Jump26 goals.Stub h = record { branch = inl refl; range = refl; formula = refl }
goes_by_thunk l r distances.Call26 goals.Symbol h = record { branch = inr refl; range = refl; formula = refl }
goes_by_thunk l r distances.Call26 goals.Stub h = record { branch = inr refl; range = refl; formula = refl }
goes_by_thunk l r other goal h = cc

-- what is out of range the field cannot have
cannot_have : (x : ℕ) → contains (signed 28) x ≡ false → CanHave far_formula.form x → ⊥
cannot_have x out can = by (nat_lt x (2 ^ 27)) (nat_le (2 ^ 64 - 2 ^ 27) x) (λ low. lt-ltb x (2 ^ 27) low) (λ high. le-leb (2 ^ 64 - 2 ^ 27) x high) out can.0
  where
    by : (a b : Bool) → (x < 2 ^ 27 → a ≡ true) → (2 ^ 64 - 2 ^ 27 ≤ x → b ≡ true) → (a || b) ≡ false → (x < 2 ^ 27) ⊎ (2 ^ 64 - 2 ^ 27 ≤ x) → ⊥
    by true b low high h c = cc
    by false true low high h c = cc
    by false false low high h (inl c) = (let e : false ≡ true = low c in cc)
    by false false low high h (inr c) = (let e : false ≡ true = high c in cc)

distance_same : (t c a o : ℕ) → a + o ≤ 2 ^ 62 → ((t + c) % 2 ^ 64 + (2 ^ 64 - (a + o) % 2 ^ 64)) % 2 ^ 64 ≡ (t + c + (2 ^ 64 - (a + o))) % 2 ^ 64
distance_same t c a o low = omega (arith, low)

-- the symbol is too far for the branch
symbol_far : (l : Layout) (w : World) (m : Memory) (s : Item) (r : InputRelocation) (d : Branch) (x v : ℕ) → IsForDebuggers l → (IsOmitted l s r → ⊥) → IsBranch l s r d → GoesWell l s r d goals.Symbol → (h : HasTerm l w m s r (new_row d goals.Symbol) x) → IsCarried l s r (new_row d goals.Symbol) x v → address_of l r.symbol ≡ Ok h.term → ⊥
symbol_far l w m s r d x v bare present b g h t given =
    let k = g.symbol in
    let far = goes_by_thunk l r d goals.Symbol t.thunkable in
    let plain = g.direct refl in
    let raw : address_of l (Some k) ≡ Ok h.term = subst (λ (o : Option ℕ). address_of l o ≡ Ok h.term) g.named given in
    let there : HasRaw l k h.term = has_raw l k h.term (address_given l (Some k) h.term (rw plain at raw)) in
    let less = (symbol_row (new_row d goals.Symbol) (no_mask d goals.Symbol) refl).taken in
    let value : ((h.term + cast_unsigned w64 r.addend) % 2 ^ 64 + (2 ^ 64 - (s.address + r.offset) % 2 ^ 64)) % 2 ^ 64 ≡ x = subst (λ (u : Subtrahend). subtract l u h.term r.addend (place_of s.address r) ≡ x) less h.value in
    let same : b.formula ≡ far_formula =
    (let e : Some b.formula ≡ Some far_formula = sym b.known ∙ (ap (λ (j : Machine). formula_of j r.number) g.on ∙ (ap aarch64_formula b.number ∙ far.formula)) in cc) in
    let at : x ≡ (h.term + cast_unsigned w64 r.addend + (2 ^ 64 - (s.address + r.offset))) % 2 ^ 64 = sym value ∙ distance_same h.term (cast_unsigned w64 r.addend) s.address r.offset b.low in
    let out : contains (signed 28) x ≡ false = subst (λ (a : AllowedRange). contains a x ≡ false) far.range t.far in
    let none : CanHave b.formula.form x → ⊥ = subst (λ (f : Formula). CanHave f.form x → ⊥) (sym same) (cannot_have x out) in
    present (
      bare,
      inr (inr (inr (inr (record {
        on = g.on;
        branch = subst (λ (n : ℕ). (n ≡ r_aarch64_jump26) ⊎ (n ≡ r_aarch64_call26)) (sym b.number) far.branch;
        symbol = k;
        named = g.named;
        formula = b.formula;
        known = b.known;
        raw = h.term;
        given = there;
        far = subst (λ (n : ℕ). CanHave b.formula.form n → ⊥) at none;
      })))),
    )

-- the next instruction is no far target
own_far : (l : Layout) (w : World) (m : Memory) (s : Item) (r : InputRelocation) (d : Branch) (goal : Goal) (x v : ℕ) → (h : HasTerm l w m s r (new_row d goal) x) → IsCarried l s r (new_row d goal) x v → undefined_weak_target r.number (place_of s.address r) ≡ h.term → ⊥
own_far l w m s r d goal x v h t term = (let c = carries_goal d goal t.thunkable in not_far l w m s r (new_row d goal) x h c (from_there (new_row d goal) c) t.alone term t.far)

-- a branch that is not left out goes by no thunk
no_thunk : (l : Layout) (w : World) (m : Memory) (s : Item) (r : InputRelocation) (d : Branch) (goal : Goal) (x v : ℕ) → IsForDebuggers l → (IsOmitted l s r → ⊥) → IsBranch l s r d → GoesWell l s r d goal → HasTerm l w m s r (new_row d goal) x → IsCarried l s r (new_row d goal) x v → ⊥
no_thunk l w m s r d goals.Symbol x v bare present b g h t = by_place (weak_resolves_to_place l.machine l r (new_row d goals.Symbol)) refl h.given
  where
    by_place : (b : Bool) → weak_resolves_to_place l.machine l r (new_row d goals.Symbol) ≡ b → (if b then Ok (undefined_weak_target r.number (place_of s.address r)) else address_for l r) ≡ Ok h.term → ⊥
    by_place true e given = own_far l w m s r d goals.Symbol x v h t (let same : undefined_weak_target r.number (place_of s.address r) ≡ h.term = cc in same)
    by_place false e given = symbol_far l w m s r d x v bare present b g h t (sym (plain_address l r g.plain) ∙ given)
no_thunk l w m s r d goals.Stub x v bare present b g h t = by_place (weak_resolves_to_place l.machine l r (new_row d goals.Stub)) refl h.given
  where
    by_place : (b : Bool) → weak_resolves_to_place l.machine l r (new_row d goals.Stub) ≡ b → (if b then Ok (undefined_weak_target r.number (place_of s.address r)) else stub_address l r.symbol) ≡ Ok h.term → ⊥
    by_place true e given = own_far l w m s r d goals.Stub x v h t (let same : undefined_weak_target r.number (place_of s.address r) ≡ h.term = cc in same)
    by_place false e given = stub_left l s r d h.term bare present b g e (subst (λ (o : Option ℕ). stub_address l o ≡ Ok h.term) g.named given)

-- ---- a row with a stub as its goal

abbrev is_resolved : SymbolTest → Bool
is_resolved symbol.Ifunc = true
is_resolved other = false

abbrev goes_to_resolver : Written → SymbolTest → Bool
goes_to_resolver (written.Code d goals.Stub) t = not (goes_far d) || is_resolved t
goes_to_resolver other t = true

each_resolver : list_all (λ (row : Row). goes_to_resolver row.written row.symbol) rows_aarch64 ≡ true
unfolding rows_aarch64
each_resolver = refl

resolved_row : (row : Row) (d : Branch) (goal : Goal) → Contains rows_aarch64 row → row.written ≡ written.Code d goal → goal ≡ goals.Stub → goes_far d ≡ true → row.symbol ≡ symbol.Ifunc
resolved_row row d goal listed is to far = by row.symbol (subst (λ (b : Bool). (not b || is_resolved row.symbol) ≡ true) far (subst (λ (w : Written). goes_to_resolver w row.symbol ≡ true) (is ∙ ap (λ (x : Goal). written.Code d x) to) (listed_passes (λ (x : Row). goes_to_resolver x.written x.symbol) rows_aarch64 row each_resolver listed)))
  where
    by : (t : SymbolTest) → is_resolved t ≡ true → t ≡ symbol.Ifunc
    by symbol.Ifunc h = refl
    by other h = cc

-- ---- the field

-- what is known of the field: it comes to the value of the row's term
pub record BranchReads (l : Layout) (w : World) (m : Memory) (s : Item) (r : InputRelocation) : Type 0 where
  pub distance : Branch
  pub goal : Goal
  pub goes : GoesWell l s r distance goal
  pub number : r.number ≡ distance_type distance
  pub formula : Formula
  pub known : formula_of l.machine r.number ≡ Some formula
  pub is : formula.value ≡ expressed_of distance
  pub term : ℕ
  pub there : HasTerm l w m s r (new_row distance goal) term
  pub value : ℕ
  pub comes : ComesTo l s r (new_row distance goal) term value
  pub thunked : IsCarried l s r (new_row distance goal) term value → KeepsAll l
  pub field : FieldReads w m s r formula.form value

pub branch_reads : (l : Layout) (w : World) (m : Memory) (s : Item) (i : ℕ) (r : InputRelocation) → (h : IsItemLoaded l w m s) → (IsOmitted l s r → ⊥) → MustHold l w s r → IsBranchField l s i r → BranchReads l w m s r
branch_reads l w m s i r h present asked f = record {
  distance = d;
  goal = goal;
  goes = well;
  number = c.number ∙ goes.number;
  formula = fits.formula;
  known = fits.known;
  is = is;
  term = x;
  there = there;
  value = v;
  comes = comes;
  thunked = λ t. elim (all_or_bare l) [ inl all ↦ all | inr bare ↦ absurd (no_thunk l w m s r d goal x v bare present branch well there t) ];
  field = row_reads l w m s i r old fits.formula.form v v h f.has.listed field
      (record {
        width = fits.width;
        reads = fits.reads v (old_field s r old) low (old_long l w m s i r old h f.has.listed field) allowed;
        keeps = row_keeps l s r old v h.bytes (field_within l w m s i r old.size h f.has.listed field) fits;
      })
      (subst (λ (z : RelocationSize). Holds m (place_at w s r.offset) (field_site s r.offset z v).bytes) (sym size) (h.item.values i r f.size v f.has));
}
  where
    k : IsKeptAArch64 l s i r f.size f.value
    k = f.kept

    c : IsChosenAArch64 l s i r k.row
    c = k.chosen

    goes : IsDistance k.row
    goes = k.goes

    v : ℕ
    v = f.value

    d : Branch
    d = goes.distance

    goal : Goal
    goal = goes.goal

    old : RelocationKindInfo
    old = old_row d goal

    known : row_of l.machine r.number ≡ Some old
    known = ap (λ (m : Machine). row_of m r.number) c.machine ∙ ap (row_of machine.AArch64) (c.number ∙ goes.number) ∙ distance_row d goal

    field : HasField l r old.size
    field = record { row = old; known = known; kind = distance_has_value d goal; size = refl }

    fits : RowFits l.machine r.number old
    fits = row_fits h.tables.agree l.machine r.number old known (distance_has_value d goal)

    is : fits.formula.value ≡ expressed_of d
    is = sym fits.value ∙ old_value d goal

    size : old.size ≡ f.size
    size = ap (λ (w : Written). (info_by w).size) (sym goes.written) ∙ k.size

    given : term_at l r (new_row d goal) (place_of s.address r) ≡ Ok k.written.term
    given = subst (λ (w : Written). term_at l r (info_by w) (place_of s.address r) ≡ Ok k.written.term) goes.written k.written.given

    x : ℕ
    x = value_in l (new_row d goal) k.written.term r.addend (place_of s.address r)

    comes : ComesTo l s r (new_row d goal) x v
    comes = subst (λ (w : Written). ComesTo l s r (info_by w) (value_in l (info_by w) k.written.term r.addend (place_of s.address r)) v) goes.written k.written.comes

    allowed : allows old v ≡ true
    allowed = subst (λ (w : Written). allows (info_by w) v ≡ true) goes.written k.written.allowed

    low : v < 2 ^ 64
    low = comes_low l s r (new_row d goal) k.written.term v comes

    names : NamesSymbol l r
    names = holds_at (NamesSymbol l) s.relocations i r f.has.listed h.symbols

    takes : IsApplied (question_around l s i r c.symbol) k.row
    takes = applied (question_around l s i r c.symbol) k.row c.here

    follow : goal ≡ goals.Symbol → IsFollowed l r Distance
    follow to j named =
        let free : interposable (flags_at l c.symbol) ≡ false = not-true _ (subst (λ (t : ValueTest). takes_value t (question_around l s i r c.symbol) ≡ true) (goes.own to).1 takes.value) in
        let same : c.symbol ≡ j = (let e : Some c.symbol ≡ Some j = sym c.named ∙ named in cc) in
        inl (own_symbol l j h.placed.symbols (names j named) (subst (λ (n : ℕ). interposable (flags_at l n) ≡ false) same free))

    own : goal ≡ goals.Symbol → (goes_far d ≡ true) × IsFollowed l r Distance
    own to = ((goes.own to).0, follow to)

    weak : goes_far d ≡ false → IsWeakBranch l s r c.symbol
    weak near =
        let test = goes.weak near in
        let flags = and_parts _ _ (subst (λ (t : SymbolTest). takes_symbol t (question_around l s i r c.symbol) ≡ true) test.0 takes.symbol) in
        record { code = implied k.row.in_code _ takes.section test.1; plain = not-true _ flags.0; weak = flags.1 }

    direct : goal ≡ goals.Symbol → has_flag (flags_at l c.symbol) ifunc ≡ false
    direct to = not-true _ (subst (λ (t : SymbolTest). takes_symbol t (question_around l s i r c.symbol) ≡ true) (goes.own to).2 takes.symbol)

    resolved : goal ≡ goals.Stub → goes_far d ≡ true → has_flag (flags_at l c.symbol) ifunc ≡ true
    resolved to far = subst (λ (t : SymbolTest). takes_symbol t (question_around l s i r c.symbol) ≡ true) (resolved_row k.row d goal c.listed goes.written to far) takes.symbol

    well : GoesWell l s r d goal
    well = record { on = c.machine; symbol = c.symbol; named = c.named; own = own; direct = direct; chosen = resolved; weak = weak; number = c.number ∙ goes.number; plain = c.plain }

    inside : r.offset + size_width old.size ≤ length s.bytes
    inside = field_within l w m s i r old.size h f.has.listed field

    branch : IsBranch l s r d
    branch = record { names = names; symbols = h.placed.symbols.named; number = c.number ∙ goes.number; formula = fits.formula; known = fits.known; is = is; low = (let low = h.low in omega (arith, inside, low)) }

    there : HasTerm l w m s r (new_row d goal) x
    there = record {
      placed = h.placed;
      present = elim (all_or_bare l) [ inl all ↦ inl all | inr bare ↦ inr (goes_direct l s r d goal k.written.term bare present branch well given) ];
      room = h.room;
      listed = names;
      number = 0;
      row = new_row d goal;
      treated = treated_goal l s r d goal c.symbol c.machine c.named;
      row_that_accepts = suits_goal l r d goal c.symbol c.machine c.named;
      expressed = expressed_goal l d goal c.machine;
      term = k.written.term;
      given = given;
      value = refl;
      place = place_is l w m s i r old.size h f.has.listed field;
      ends = place_ends l w m s i r old.size h f.has.listed field;
      addend = λ some. absurd (let none = c.plain in let both : true ≡ false = sym some ∙ none in cc);
      asked = λ relative movable j named absolute. asked (record {
        movable = movable;
        symbol = j;
        named = named;
        absolute = absolute;
        relative = inl (record { formula = fits.formula; known = fits.known; relative = subst IsPlaceRelative (sym is) (from_place d) });
      });
    }

-- so it reads as its formula
pub branch_holds : (l : Layout) (w : World) (m : Memory) (s : Item) (r : InputRelocation) → KindLaws → (KeepsAll l → EachThunkJumps l w m) → BranchReads l w m s r → FieldHolds l w m s r
branch_holds l w m s r laws thunks b = record {
  formula = b.formula;
  known = b.known;
  value = b.value;
  gives = subst (λ (q : Value). Gives q l w m s r b.value) (sym b.is) (by b.comes);
  field = b.field;
}
  where
    by : ComesTo l s r (new_row b.distance b.goal) b.term b.value → Gives (expressed_of b.distance) l w m s r b.value
    by (inl same) = gives_goal l w m s r b.distance b.goal b.value laws b.goes (subst (λ (n : ℕ). HasTerm l w m s r (new_row b.distance b.goal) n) same b.there)
    by (inr t) = (let all = b.thunked t in carried_goal l w m s r b.distance b.goal b.term b.value laws all (thunks all) b.goes b.there t)
