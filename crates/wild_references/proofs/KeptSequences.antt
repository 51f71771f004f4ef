-- Both relocations of a sequence keep it, or none does.
use Rattle.wild_references.proofs.Common.{◌≡◌, ℕ, suc, ◌+◌, ◌<◌, ◌⊎◌, inl, inr, true, false, refl, sym, ap, ◌∙◌, arith, subst, Contains, Option, Some, Ok, ◌==◌, slice_get, eqb-true, or_cases, slice_get_within, r_x86_64_tlsgd, r_x86_64_tlsld, Machine, InputRelocation, Layout, x86_64_formula, GeneralForm, Row, call_form, is_call_number, Decision, Nothing, Field, RelativeAddress, DynamicField, Rewritten, Partner, choice_of, choice, takes_next, is_partner, decide, choice_row, chosen_listed, rewritten_x86_64, decide_partner, IsDecided, HasDecision, KeepsInstruction, Item, Instruction, instructions_of, IsGetterCall}
use Rattle.wild_types.specs.declared.kind.Machine.TheVariants as machine
use Rattle.wild_layout.proofs.ChoiceLemmas.{choice_is, partner_number, IsSequence as Taking}
use Rattle.wild_references.proofs.WindowRows.{width_of}
use Rattle.wild_references.proofs.WindowFields.{HasSite, has_site}
use Rattle.wild_references.proofs.KeptTables.{keeps_all, by_slot, IsFilled, is_filled, partner_width, partner_some, partner_kept, pair_number, row_fixed, each_row_fixed, is_fixed}
use Rattle.wild_references.proofs.KeptRelocations.{one_decision, same_owner, kept_takes_none}
use Rattle.wild_references.proofs.KeptModes.{rewritten_on, slot_not_kept}
use Rattle.wild_references.proofs.RewrittenFree.{no_call, is_first}

-- ---- relocations that begin a sequence

two_pairs : (n : ℕ) → is_first n ≡ true → (n ≡ r_x86_64_tlsgd) ⊎ (n ≡ r_x86_64_tlsld)
two_pairs n h = elim (or_cases (n == r_x86_64_tlsgd) (n == r_x86_64_tlsld) h) [ inl e ↦ inl (eqb-true n r_x86_64_tlsgd e) | inr e ↦ inr (eqb-true n r_x86_64_tlsld e) ]

pair_some : (n : ℕ) → is_first n ≡ true → 0 < width_of n
unfolding x86_64_formula
pair_some n h = elim (two_pairs n h) [ inl e ↦ rw e (omega arith) | inr e ↦ rw e (omega arith) ]

-- a relocation that is taken along, behind the one before
record IsTaken (l : Layout) (s : Item) (i : ℕ) (r : InputRelocation) : Type 0 where
  before : ℕ
  next : i ≡ before + 1
  takes : takes_next (choice l s before) ≡ true
  form : GeneralForm
  call : is_call_number form r.number ≡ true

taken_is : (l : Layout) (s : Item) (i : ℕ) (r : InputRelocation) → HasDecision l s i r Partner → IsTaken l s i r
taken_is l s i r h =
    let p = decide_partner l s i r h.listed h.decided in
    by p.0 p.1 p.2 p.3
  where
    by : (j : ℕ) → i ≡ j + 1 → (row : Row) → Taking l s j row → IsTaken l s i r
    by j e row t =
        let listed : slice_get s.relocations (j + 1) ≡ Some r = subst (λ (k : ℕ). slice_get s.relocations k ≡ Some r) e h.listed in
        let c = choice_row l s t.relocation (Some r) row t.machine (subst (λ (o : Option InputRelocation). choice_of l s t.relocation o ≡ Ok (Some row)) listed t.is) in
        let made : choice l s j ≡ Ok (Some row) = choice_is l s j t.relocation t.machine t.listed ∙ t.is in
        record { before = j; next = e; takes = ap takes_next made ∙ t.takes; form = call_form row; call = partner_number l s t.relocation r row c t.takes }

-- a relocation behind one that takes it along has no decision of its own
next_is_partner : (l : Layout) (s : Item) (i : ℕ) → takes_next (choice l s i) ≡ true → decide l s (i + 1) ≡ Ok Partner
unfolding decide
next_is_partner l s i takes =
    let e : suc i ≡ i + 1 = omega arith in
    let taken : is_partner l s (i + 1) ≡ true = subst (λ (k : ℕ). is_partner l s k ≡ true) e takes in
    rw taken refl

-- ---- decisions

keeps_or : (d : Decision) → KeepsInstruction d ⊎ ((d ≡ Partner) ⊎ ((row : Row) × (v : ℕ) × (d ≡ Rewritten row v)))
keeps_or Nothing = inl tt
keeps_or (Field z v) = inl tt
keeps_or (RelativeAddress v packed) = inl tt
keeps_or (DynamicField z n symbol addend) = inl tt
keeps_or (Rewritten row v) = inr (inr (row, v, refl))
keeps_or Partner = inr (inl refl)

same_next : (a b : ℕ) → a + 1 ≡ b + 1 → a ≡ b
same_next a b e = omega (arith, e)

-- ---- sequences

-- and_parts relocations keep their instruction
pub record AreKept (l : Layout) (s : Item) (first second : InputRelocation) (i : ℕ) : Type 0 where
  pub one : Decision
  pub has_one : HasDecision l s i first one
  pub keeps_one : KeepsInstruction one
  pub two : Decision
  pub has_two : HasDecision l s (i + 1) second two
  pub keeps_two : KeepsInstruction two

-- what is known of a sequence
record Facts (l : Layout) (s : Item) (first second : InputRelocation) (start : ℕ) (o : Instruction) (i : ℕ) : Type 0 where
  x86 : l.machine ≡ machine.X86_64
  whole : IsDecided l s
  sequence : IsGetterCall l s first second start o
  filled : IsFilled o
  pair : is_first first.number ≡ true
  some : 0 < width_of second.number
  one : Decision
  has_one : HasDecision l s i first one
  two : Decision
  has_two : HasDecision l s (i + 1) second two

facts : (l : Layout) (s : Item) (first second : InputRelocation) (start : ℕ) (o : Instruction) → l.machine ≡ machine.X86_64 → IsDecided l s → (q : IsGetterCall l s first second start o) → Facts l s first second start o q.has.index
facts l s first second start o x86 whole q =
    let known = subst (λ (m : Machine). Contains (instructions_of m) o) x86 q.stands.known in
    let f = is_filled o known in
    let a = whole.each q.has.index (slice_get_within s.relocations q.has.index first q.has.listed) in
    let b = whole.each (q.has.index + 1) (slice_get_within s.relocations (q.has.index + 1) second q.has.next) in
    let wide = partner_width o q.partner second.number f q.calls q.has.number in
    record {
      x86 = x86;
      whole = whole;
      sequence = q;
      filled = f;
      pair = pair_number o q.partner first.number f q.calls q.stands.number;
      some = subst (λ (n : ℕ). 0 < n) (sym wide) (partner_some o q.partner f q.calls);
      one = a.0;
      has_one = record { listed = q.has.listed; decided = a.1 };
      two = b.0;
      has_two = record { listed = q.has.next; decided = b.1 };
    }

-- its first relocation is the call of none
first_no_call : (l : Layout) (s : Item) (i : ℕ) (r : InputRelocation) (d : Decision) → HasDecision l s i r d → is_first r.number ≡ true → d ≡ Partner → ⊥
first_no_call l s i r d h pair e =
    let t = taken_is l s i r (subst (λ (x : Decision). HasDecision l s i r x) e h) in
    no_call t.form r.number pair t.call

-- where it is kept, so is the call
second_kept : (l : Layout) (s : Item) (first second : InputRelocation) (start : ℕ) (o : Instruction) (i : ℕ) → (f : Facts l s first second start o i) → KeepsInstruction f.one → KeepsInstruction f.two
second_kept l s first second start o i f k = by (keeps_or f.two)
  where
    fixed : (row : Row) (v : ℕ) → HasDecision l s (i + 1) second (Rewritten row v) → (keeps_all second.number ≡ true) ⊎ (by_slot o ≡ true) → ⊥
    fixed row v h (inl all) =
        let w = rewritten_x86_64 l s (i + 1) second row v f.x86 h.listed h.decided in
        let n = (is_fixed row (chosen_listed l s second (slice_get s.relocations (i + 1 + 1)) row w.chosen row_fixed each_row_fixed) w.changes).writes in
        let e : keeps_all second.number ≡ false = ap keeps_all w.chosen.number ∙ n in
        let g : true ≡ false = sym all ∙ e in
        cc
    fixed row v h (inr slot) = slot_not_kept l s i first second f.one start o f.x86 f.has_one k f.sequence slot (rewritten_on l s (i + 1) second row v f.x86 h).taken

    by : KeepsInstruction f.two ⊎ ((f.two ≡ Partner) ⊎ ((row : Row) × (v : ℕ) × (f.two ≡ Rewritten row v))) → KeepsInstruction f.two
    by (inl keeps) = keeps
    by (inr (inl e)) =
        let t = taken_is l s (i + 1) second (subst (λ (x : Decision). HasDecision l s (i + 1) second x) e f.has_two) in
        let at = same_next i t.before t.next in
        absurd (kept_takes_none l s i first f.one f.has_one k (subst (λ (j : ℕ). takes_next (choice l s j) ≡ true) (sym at) t.takes))
    by (inr (inr e)) = absurd (fixed e.0 e.1 (subst (λ (x : Decision). HasDecision l s (i + 1) second x) e.2 f.has_two) (partner_kept o f.sequence.partner second.number f.filled f.sequence.calls f.sequence.has.number))

-- where the call is kept, so is it
first_kept : (l : Layout) (s : Item) (first second : InputRelocation) (start : ℕ) (o : Instruction) (i : ℕ) → (f : Facts l s first second start o i) → KeepsInstruction f.two → KeepsInstruction f.one
first_kept l s first second start o i f k = by (keeps_or f.one)
  where
    takes_all : (row : Row) (v : ℕ) → HasDecision l s i first (Rewritten row v) → ⊥
    takes_all row v h =
        let w = rewritten_x86_64 l s i first row v f.x86 h.listed h.decided in
        let pair : is_first row.number ≡ true = subst (λ (n : ℕ). is_first n ≡ true) w.chosen.number f.pair in
        let skips = (is_fixed row (chosen_listed l s first (slice_get s.relocations (i + 1)) row w.chosen row_fixed each_row_fixed) w.changes).skips pair in
        let made : choice l s i ≡ Ok (Some row) = choice_is l s i first w.chosen.machine h.listed ∙ w.chosen.choice in
        let taken = next_is_partner l s i (ap takes_next made ∙ skips) in
        let same : Ok f.two ≡ Ok Partner = sym f.has_two.decided ∙ taken in
        let e : f.two ≡ Partner = cc in
        subst KeepsInstruction e k

    by : KeepsInstruction f.one ⊎ ((f.one ≡ Partner) ⊎ ((row : Row) × (v : ℕ) × (f.one ≡ Rewritten row v))) → KeepsInstruction f.one
    by (inl keeps) = keeps
    by (inr (inl e)) = absurd (first_no_call l s i first f.one f.has_one f.pair e)
    by (inr (inr e)) = absurd (takes_all e.0 e.1 (subst (λ (x : Decision). HasDecision l s i first x) e.2 f.has_one))

-- ---- which of the two it is

no_width : (n : ℕ) → 0 < n → n ≡ 0 → ⊥
no_width n some none = absurd (omega (arith, some, none))

-- the bytes that are written over a field that is kept are its own
own_site : (l : Layout) (s : Item) (i : ℕ) (r : InputRelocation) (d : Decision) → KeepsInstruction d → (x : HasSite l s i r d) → x.index ≡ i
own_site l s i r d k x = by x.own
  where
    by : (x.index ≡ i) ⊎ ((i ≡ x.index + 1) × (d ≡ Partner)) → x.index ≡ i
    by (inl e) = e
    by (inr e) = absurd (subst KeepsInstruction e.1 k)

by_first : (l : Layout) (s : Item) (first second : InputRelocation) (start : ℕ) (o : Instruction) (i j : ℕ) (d : Decision) → (f : Facts l s first second start o i) → HasDecision l s j first d → KeepsInstruction d → KeepsInstruction f.one
by_first l s first second start o i j d f h k = sites (has_site l s j first d f.x86 f.whole h) (has_site l s i first f.one f.x86 f.whole f.has_one)
  where
    at : (y : HasSite l s i first f.one) → j ≡ y.index → (y.index ≡ i) ⊎ ((i ≡ y.index + 1) × (f.one ≡ Partner)) → KeepsInstruction f.one
    at y same (inl e) = subst KeepsInstruction (one_decision l s i first first d f.one (subst (λ (n : ℕ). HasDecision l s n first d) (same ∙ e) h) f.has_one) k
    at y same (inr e) = absurd (first_no_call l s i first f.one f.has_one f.pair e.1)

    sites : (width_of first.number ≡ 0) ⊎ HasSite l s j first d → (width_of first.number ≡ 0) ⊎ HasSite l s i first f.one → KeepsInstruction f.one
    sites (inl none) y = absurd (no_width (width_of first.number) (pair_some first.number f.pair) none)
    sites (inr x) (inl none) = absurd (no_width (width_of first.number) (pair_some first.number f.pair) none)
    sites (inr x) (inr y) = at y (sym (own_site l s j first d k x) ∙ same_owner l s f.whole j i first d f.one (pair_some first.number f.pair) x y) y.own

by_second : (l : Layout) (s : Item) (first second : InputRelocation) (start : ℕ) (o : Instruction) (i j : ℕ) (d : Decision) → (f : Facts l s first second start o i) → HasDecision l s j second d → KeepsInstruction d → KeepsInstruction f.two
by_second l s first second start o i j d f h k = sites (has_site l s j second d f.x86 f.whole h) (has_site l s (i + 1) second f.two f.x86 f.whole f.has_two)
  where
    -- the call would be taken along by a relocation that is kept
    taken : (n : ℕ) → j ≡ n → i + 1 ≡ n + 1 → f.two ≡ Partner → ⊥
    taken n same e is =
        let t = taken_is l s (i + 1) second (subst (λ (x : Decision). HasDecision l s (i + 1) second x) is f.has_two) in
        let at : t.before ≡ j = sym (same_next i t.before t.next) ∙ (same_next i n e ∙ sym same) in
        kept_takes_none l s j second d h k (subst (λ (m : ℕ). takes_next (choice l s m) ≡ true) at t.takes)

    at : (y : HasSite l s (i + 1) second f.two) → j ≡ y.index → (y.index ≡ i + 1) ⊎ ((i + 1 ≡ y.index + 1) × (f.two ≡ Partner)) → KeepsInstruction f.two
    at y same (inl e) = subst KeepsInstruction (one_decision l s (i + 1) second second d f.two (subst (λ (n : ℕ). HasDecision l s n second d) (same ∙ e) h) f.has_two) k
    at y same (inr e) = absurd (taken y.index same e.0 e.1)

    sites : (width_of second.number ≡ 0) ⊎ HasSite l s j second d → (width_of second.number ≡ 0) ⊎ HasSite l s (i + 1) second f.two → KeepsInstruction f.two
    sites (inl none) y = absurd (no_width (width_of second.number) f.some none)
    sites (inr x) (inl none) = absurd (no_width (width_of second.number) f.some none)
    sites (inr x) (inr y) = at y (sym (own_site l s j second d k x) ∙ same_owner l s f.whole j (i + 1) second d f.two f.some x y) y.own

pub are_kept : (l : Layout) (s : Item) (i : ℕ) (r : InputRelocation) (d : Decision) (first second : InputRelocation) (start : ℕ) (o : Instruction) → l.machine ≡ machine.X86_64 → IsDecided l s → HasDecision l s i r d → KeepsInstruction d → (q : IsGetterCall l s first second start o) → (r ≡ first) ⊎ (r ≡ second) → AreKept l s first second q.has.index
are_kept l s i r d first second start o x86 whole h k q one = by one
  where
    f : Facts l s first second start o q.has.index
    f = facts l s first second start o x86 whole q

    all : KeepsInstruction f.one → KeepsInstruction f.two → AreKept l s first second q.has.index
    all a b = record { one = f.one; has_one = f.has_one; keeps_one = a; two = f.two; has_two = f.has_two; keeps_two = b }

    by : (r ≡ first) ⊎ (r ≡ second) → AreKept l s first second q.has.index
    by (inl e) =
        let a = by_first l s first second start o q.has.index i d f (subst (λ (x : InputRelocation). HasDecision l s i x d) e h) k in
        all a (second_kept l s first second start o q.has.index f a)
    by (inr e) =
        let b = by_second l s first second start o q.has.index i d f (subst (λ (x : InputRelocation). HasDecision l s i x d) e h) k in
        all (first_kept l s first second start o q.has.index f b) b
