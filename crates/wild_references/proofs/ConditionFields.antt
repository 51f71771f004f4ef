-- Conditional branches of AArch64 to undefined weak symbols: which go by a stub, and the fields of those that take the output's own symbol.
use Rattle.wild_references.proofs.Common.{◌≡◌, ℕ, ◌<◌, ◌≤◌, ◌⊎◌, inl, inr, true, false, length, refl, sym, ap, ◌∙◌, arith, subst, Option, Some, None, Result, Ok, slice_get, cases_Bool, slice_get_inside, r_aarch64_tstbr14, r_aarch64_condbr19, Machine, InputRelocation, Item, Layout, has_flag, interposable, ifunc, undefined_weak, plt_stub, place_of, flags_at, subtrahend_of, Value, Distance, PageMask, RelocationInfo, UnknownSequence, Row, relocation_of, Decision, nameless, question_around, choice_on, choice, subtract, is_undefined_weak_without_stub, undefined_weak_target, term_at, value_in, relocation_around, IsOwn, Memory, World, GivesLinked, IsPlaceRelative, TakesAddress, TakesOffset, HasPlace, MustHold, HasStubAddress, UsesOwnDefinition, UsesOwnSymbolOnly, HasFlag, IsReplaceable, code_bit, bit_code, flag_is, SymbolsFit, HasTerm}
use Rattle.wild_types.specs.declared.kind.Machine.TheVariants as machine
use Rattle.wild_reloc.specs.declared.info.RelocationKind.TheVariants as kinds
use Rattle.wild_relax.specs.declared.row.Distance.{Distance as Branch}
use Rattle.wild_relax.specs.declared.row.Goal.{Goal}
use Rattle.wild_relax.specs.declared.row.Goal.TheVariants as goals
use Rattle.wild_relax.specs.Relaxation.{chosen_row_of}
use Rattle.wild_relax.proofs.TogetherLemmas.{conditional_chosen}
use Rattle.wild_layout.proofs.QuestionLemmas.{around_choice}
use Rattle.wild_layout.proofs.DecisionLemmas.{goes_far}
use Rattle.wild_layout.proofs.ThunkFieldLemmas.{comes_alone}
use Rattle.wild_meaning.specs.Reference.{BranchesThroughStub}
use Rattle.wild_references.specs.Laws.{FieldIsLinked}
use Rattle.wild_references.proofs.OwnSymbolReferences.{taken, takes_none}
use Rattle.wild_references.proofs.BranchFields.{near_type, new_row, far_value, near_value, symbol_value, no_mask, near_alone, suits_goal, expressed_goal, treated_goal, BranchReads}
use Rattle.wild_references.proofs.Fields.{LinkedLaws}
use Rattle.wild_references.proofs.OwnSymbols.{own_symbol}
use Rattle.wild_references.proofs.Symbols.{replaceable_is, flag_at}
use Rattle.wild_references.proofs.MergedStrings.{weak_plain}

-- ---- a branch that is decided of by itself

-- a symbol that a loader takes from other modules is one that these may define
open_symbol : (l : Layout) (k : ℕ) → SymbolsFit l → k < length l.symbols → IsReplaceable l k true → interposable (flags_at l k) ≡ true
open_symbol l k fit inside whose =
    elim (cases_Bool (interposable (flags_at l k))) [
      | inl t ↦ t
      | inr f ↦ (let both : true ≡ false = sym (replaceable_is l k true whose) ∙ replaceable_is l k false (own_symbol l k fit inside f) in cc)
    ]

no_two : (c : Result (Option Row) UnknownSequence) (row : Row) → c ≡ Ok None → c ≡ Ok (Some row) → ⊥
no_two c row e h = (let both : Ok None ≡ Ok (Some row) = sym e ∙ h in cc)

-- it goes by no stub to another module's symbol: a row would stand
pub own_goes : (l : Layout) (s : Item) (i : ℕ) (r : InputRelocation) (d : Decision) (k : ℕ) → IsOwn l s i r d → slice_get s.relocations i ≡ Some r → r.offset ≤ length s.bytes → SymbolsFit l → k < length l.symbols → r.symbol ≡ Some k → IsReplaceable l k true → BranchesThroughStub l s r → ⊥
own_goes l s i r d k own listed room fit inside named whose g =
    let q = question_around l s i r k in
    let same : relocation_of q ≡ nameless r = relocation_around l s i r k listed in
    let number : r.number ≡ (relocation_of q).number = sym (ap (λ (x : RelocationInfo). x.number) same) in
    let offset : (relocation_of q).offset ≡ r.offset = ap (λ (x : RelocationInfo). x.offset) same in
    let one : g.symbol ≡ k = (let e : Some g.symbol ≡ Some k = sym g.named ∙ named in cc) in
    let plain : has_flag (flags_at l k) ifunc ≡ false = flag_is l k ifunc false (subst (λ (j : ℕ). HasFlag l j ifunc false) one g.plain) in
    let weak : has_flag (flags_at l k) undefined_weak ≡ true = flag_is l k undefined_weak true (subst (λ (j : ℕ). HasFlag l j undefined_weak true) one g.weak) in
    let open_one = open_symbol l k fit inside whose in
    let chosen = conditional_chosen q (record {
      number = subst (λ (n : ℕ). (n ≡ r_aarch64_tstbr14) ⊎ (n ≡ r_aarch64_condbr19)) number g.conditional;
      section = code_bit s.flags g.code;
      symbol = rw (plain, weak) refl;
      value = rw open_one refl;
      room = omega (arith, room, offset);
    }) in
    let here : choice l s i ≡ choice_on l.machine l s i r = rw listed refl in
    no_two (chosen_row_of l.machine q) chosen.0 (sym (around_choice l s i r k g.on listed named (weak_plain l r k named weak)) ∙ here ∙ own.choice) (ap (λ (m : Machine). chosen_row_of m q) g.on ∙ chosen.1)

-- ---- a branch to a weak symbol that no module has

-- the place itself stands for it, whatever the row goes to
own_term : (l : Layout) (r : InputRelocation) (d : Branch) (goal : Goal) (p : ℕ) → l.machine ≡ machine.AArch64 → is_undefined_weak_without_stub l r.symbol ≡ true → term_at l r (new_row d goal) p ≡ Ok (undefined_weak_target r.number p)
own_term l r d goals.Symbol p on none =
    let mask = no_mask d goals.Symbol in
    rw (on, mask, none) refl
own_term l r d goals.Stub p on none =
    let mask = no_mask d goals.Stub in
    rw (on, mask, none) refl

value_place : (l : Layout) (r : InputRelocation) (d : Branch) (goal : Goal) (t p : ℕ) → value_in l (new_row d goal) t r.addend p ≡ value_in l (new_row d goals.Symbol) t r.addend p
value_place l r d goals.Symbol t p = refl
value_place l r d goals.Stub t p =
    ap (λ (o : Option PageMask). subtract l (subtrahend_of kinds.PltRelative o) t r.addend p) (no_mask d goals.Stub)
    ∙ sym (ap (λ (o : Option PageMask). subtract l (subtrahend_of kinds.Relative o) t r.addend p) (no_mask d goals.Symbol))

-- what the row writes is what that of the symbol itself would
as_symbol : (l : Layout) (w : World) (m : Memory) (s : Item) (r : InputRelocation) → (b : BranchReads l w m s r) → is_undefined_weak_without_stub l r.symbol ≡ true → ((i : ℕ) → r.symbol ≡ Some i → HasStubAddress l i → ⊥) → HasPlace l r → MustHold l w s r → HasTerm l w m s r (new_row b.distance goals.Symbol) b.term
as_symbol l w m s r b none bare place asked =
    let t = b.there in
    let g = b.goes in
    record {
      placed = t.placed;
      present = inr (λ takes. bare);
      room = t.room;
      listed = t.listed;
      number = 0;
      row = new_row b.distance goals.Symbol;
      treated = treated_goal l s r b.distance goals.Symbol g.symbol g.on g.named;
      row_that_accepts = suits_goal l r b.distance goals.Symbol g.symbol g.on g.named;
      expressed = expressed_goal l b.distance goals.Symbol g.on;
      term = t.term;
      given = own_term l r b.distance goals.Symbol (place_of s.address r) g.on none ∙ sym (own_term l r b.distance b.goal (place_of s.address r) g.on none) ∙ t.given;
      value = sym (value_place l r b.distance b.goal t.term (place_of s.address r)) ∙ t.value;
      place = t.place;
      ends = t.ends;
      addend = t.addend;
      asked = λ relative movable j named absolute. asked (record { movable = movable; symbol = j; named = named; absolute = absolute; relative = inl place });
    }

near_links : (l : Layout) (w : World) (m : Memory) (s : Item) (r : InputRelocation) → LinkedLaws → (b : BranchReads l w m s r) → MustHold l w s r → (a : UsesOwnSymbolOnly l s r) → goes_far b.distance ≡ false → is_undefined_weak_without_stub l r.symbol ≡ true → FieldIsLinked l w m s r
near_links l w m s r laws b asked a near none =
    let same = comes_alone l s r (new_row b.distance b.goal) b.term b.value (near_alone b.distance b.goal near) b.comes in
    let is : b.formula.value ≡ Distance = b.is ∙ near_value b.distance near in
    let bare : HasStubAddress l a.symbol → ⊥ = by (subst (λ (v : Value). UsesOwnDefinition l s a.symbol (record { value = v; form = b.formula.form })) is (taken l s r b.formula b.known a)) in
    let free : (i : ℕ) → r.symbol ≡ Some i → HasStubAddress l i → ⊥ = λ i named. (let one : a.symbol ≡ i = (let e : Some a.symbol ≡ Some i = sym a.named ∙ named in cc) in subst (λ (k : ℕ). HasStubAddress l k → ⊥) one bare) in
    let there = subst (λ (n : ℕ). HasTerm l w m s r (new_row b.distance goals.Symbol) n) same (as_symbol l w m s r b none free (record { formula = b.formula; known = b.known; relative = subst IsPlaceRelative (sym is) tt }) asked) in
    let linked = laws.symbol (new_row b.distance goals.Symbol) refl refl l w m s r b.value a.symbol there a.named a.replaceable (inl bare) in
    record {
      formula = b.formula;
      known = b.known;
      value = b.value;
      gives = subst (λ (q : Value). GivesLinked q l w s r b.value) (symbol_value b.distance ∙ sym is) linked;
      field = b.field;
    }
  where
    by : UsesOwnDefinition l s a.symbol (record { value = Distance; form = b.formula.form }) → HasStubAddress l a.symbol → ⊥
    by (inl offset) = absurd offset
    by (inr t) = t.2

-- a branch that takes the output's own symbol goes by no stub
pub branch_links : (l : Layout) (w : World) (m : Memory) (s : Item) (r : InputRelocation) → LinkedLaws → BranchReads l w m s r → MustHold l w s r → UsesOwnSymbolOnly l s r → FieldIsLinked l w m s r
branch_links l w m s r laws b asked a =
    elim (cases_Bool (goes_far b.distance)) [
      | inl far ↦ absurd (takes_none l s r b.formula b.known (λ o. subst TakesOffset (b.is ∙ far_value b.distance far) o) (λ t. subst TakesAddress (b.is ∙ far_value b.distance far) t) a)
      | inr near ↦ near_links l w m s r laws b asked a near (absent near)
    ]
  where
    i : ℕ
    i = b.goes.symbol

    stubless : goes_far b.distance ≡ false → has_flag (flags_at l i) plt_stub ≡ false
    stubless near =
        elim (cases_Bool (has_flag (flags_at l i) plt_stub)) [
          | inr f ↦ f
          | inl t ↦
              (let x = b.goes.weak near in
              let z = slice_get_inside l.symbols i (b.there.listed i b.goes.named) in
              let fit = b.there.placed.symbols.named in
              absurd (a.direct (record {
                on = b.goes.on;
                conditional = subst (λ (n : ℕ). (n ≡ r_aarch64_tstbr14) ⊎ (n ≡ r_aarch64_condbr19)) (sym b.number) (near_type b.distance near);
                code = bit_code s.flags x.code;
                symbol = i;
                named = b.goes.named;
                weak = subst (HasFlag l i undefined_weak) x.weak (flag_at l i undefined_weak z.0 fit z.1);
                plain = subst (HasFlag l i ifunc) x.plain (flag_at l i ifunc z.0 fit z.1);
                stubbed = subst (HasFlag l i plt_stub) t (flag_at l i plt_stub z.0 fit z.1);
              })))
        ]

    absent : goes_far b.distance ≡ false → is_undefined_weak_without_stub l r.symbol ≡ true
    absent near =
        let weak = (b.goes.weak near).weak in
        let none = stubless near in
        let named = b.goes.named in
        rw (named, weak, none) refl
