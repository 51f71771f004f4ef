-- The sequences of x86-64: each has one further field, that of the call of the function that gives thread addresses.
-- Their fields count from their end, four bytes behind.
--   IsGetterCall ..            a sequence of two relocations, with the second by itself
--   IsDouble ..          a relocation is one of the two
--   as_pair, as_double   a sequence of x86-64 is one
--   sequence_of          and such a pair is a sequence
--   counts_four          what fields count from
--   counts_by_slot       instructions that count from their own place go through a slot
use Rattle.wild_meaning.proofs.Common.{◌≡◌, ℕ, zero, suc, ◌+◌, ◌<◌, ◌⊎◌, inl, inr, Bool, true, false, List, [], ◌∷◌, length, get_or, refl, sym, ap, ◌∙◌, subst, arith, Some, Contains, slice_get, r_x86_64_tlsgd, r_x86_64_tlsld, Machine, InputRelocation, Layout, ifunc, IsExecutable, HasFlag, Item, Target, SymbolPair, Described, FieldBits, Partner, Instruction, of_symbol, by_call, by_slot, by_distance, instructions_of, IsInstruction, IsSequence, IsOfSequence}
use Rattle.wild_types.specs.declared.kind.Machine.TheVariants as machine
use Rattle.wild_types.specs.Flags.{non_interposable}
use Rattle.wild_meaning.specs.Sequence.{Sort, TargetInSlot, AddressInSlot, OffsetInSlot, OwnPair, DescribedCall, Address, Named, Getter, Condition, of_output}
use Rattle.wild_meaning.specs.Partners.{NamesGetter, HasCallAddend, NamesRequiredSymbol, HasPartner, HasPartners, AreMet}
use Rattle.wild_meaning.specs.Template.{field_origin}
use Rattle.wild_meaning.specs.Reference.{CountsFromPlace}
use Rattle.wild_meaning.proofs.AmongLemmas.{Among, pick}

-- ---- lists of one and of two

pub the_one : {X : Type 0} (xs : List X) (x : X) → xs ≡ x ∷ [] → Contains xs x
the_one {X} xs x e = subst (λ (ys : List X). Contains ys x) (sym e) (0, omega arith, refl)

pub only_one : {X : Type 0} (a r : X) → Contains (a ∷ []) r → r ≡ a
only_one {X} a r c = at a r c.0 c.1 c.2
  where
    at : {X : Type 0} (a r : X) (k : ℕ) → k < 1 → get_or (a ∷ []) k r ≡ r → r ≡ a
    at {X} a r zero lt e = sym e
    at {X} a r (suc k) lt e = absurd (omega (arith, lt))

pub one_of_two : {X : Type 0} (a b r : X) → Contains (a ∷ b ∷ []) r → (r ≡ a) ⊎ (r ≡ b)
one_of_two {X} a b r c = at a b r c.0 c.1 c.2
  where
    at : {X : Type 0} (a b r : X) (k : ℕ) → k < 2 → get_or (a ∷ b ∷ []) k r ≡ r → (r ≡ a) ⊎ (r ≡ b)
    at {X} a b r zero lt e = inl (sym e)
    at {X} a b r (suc zero) lt e = inr (sym e)
    at {X} a b r (suc (suc k)) lt e = absurd (omega (arith, lt))

-- ---- the table

-- when a sequence is one
abbrev MetIn : Instruction → Type 0
MetIn o = (((n : ℕ) → Contains o.numbers n → n ≡ r_x86_64_tlsgd) × (o.conditions ≡ of_symbol)) ⊎ (((n : ℕ) → Contains o.numbers n → n ≡ r_x86_64_tlsld) × (o.conditions ≡ of_output))

record HasOneCall (o : Instruction) : Type 0 where
  call : Partner
  calls : o.partners ≡ call ∷ []
  getter : call.names ≡ Getter
  met : MetIn o

abbrev pub are_several : List Partner → Bool
are_several [] = false
are_several (p ∷ ps) = true

of_pair : {o : Instruction} (call : Partner) → o.partners ≡ call ∷ [] → call.names ≡ Getter → MetIn o → HasOneCall o
of_pair call calls getter met = record { call = call; calls = calls; getter = getter; met = met }

each_has_one : Among (λ (o : Instruction). are_several o.partners) HasOneCall (instructions_of machine.X86_64)
each_has_one = (
  of_pair (by_call 12) refl refl (inl ((λ n c. only_one r_x86_64_tlsgd n c), refl)),
  (
    of_pair (by_slot 12) refl refl (inl ((λ n c. only_one r_x86_64_tlsgd n c), refl)),
    (
      of_pair (by_distance 9) refl refl (inl ((λ n c. only_one r_x86_64_tlsgd n c), refl)),
      (
        of_pair (by_call 8) refl refl (inr ((λ n c. only_one r_x86_64_tlsld n c), refl)),
        (
          of_pair (by_slot 9) refl refl (inr ((λ n c. only_one r_x86_64_tlsld n c), refl)),
          (of_pair (by_distance 9) refl refl (inr ((λ n c. only_one r_x86_64_tlsld n c), refl)), tt),
        ),
      ),
    ),
  ),
)

pub some : (ps : List Partner) → 0 < length ps → are_several ps ≡ true
some [] h = absurd (omega (arith, h))
some (p ∷ ps) h = refl

one_call : (l : Layout) (o : Instruction) → l.machine ≡ machine.X86_64 → Contains (instructions_of l.machine) o → 0 < length o.partners → HasOneCall o
one_call l o x known several =
    pick (λ (p : Instruction). are_several p.partners) HasOneCall (instructions_of machine.X86_64) each_has_one o (subst (λ (m : Machine). Contains (instructions_of m) o) x known) (some o.partners several)

-- ---- instructions that count from their own place

abbrev is_by_place : Sort → Bool
is_by_place TargetInSlot = true
is_by_place Address = true
is_by_place other = false

by_place : (sort : Sort) → CountsFromPlace sort → is_by_place sort ≡ true
by_place Target h = absurd h
by_place TargetInSlot h = refl
by_place AddressInSlot h = absurd h
by_place OffsetInSlot h = absurd h
by_place SymbolPair h = absurd h
by_place OwnPair h = absurd h
by_place Described h = absurd h
by_place DescribedCall h = absurd h
by_place Address h = refl
by_place FieldBits h = absurd h

-- they call and jump through a slot
pub counts_by_slot : (l : Layout) (o : Instruction) → l.machine ≡ machine.X86_64 → Contains (instructions_of l.machine) o → CountsFromPlace o.sort → o.sort ≡ TargetInSlot
counts_by_slot l o x known h = pick (λ (p : Instruction). is_by_place p.sort) (λ (p : Instruction). p.sort ≡ TargetInSlot) (instructions_of machine.X86_64) (refl, (refl, tt)) o (subst (λ (m : Machine). Contains (instructions_of m) o) x known) (by_place o.sort h)

-- ---- pairs

-- the relocation behind the first is that of the call
pub record HasCall (l : Layout) (item : Item) (first second : InputRelocation) (start : ℕ) (p : Partner) : Type 0 where
  pub index : ℕ
  pub listed : slice_get item.relocations index ≡ Some first
  pub next : slice_get item.relocations (index + 1) ≡ Some second
  pub field : second.offset ≡ start + p.field
  pub number : Contains p.numbers second.number
  pub getter : NamesGetter l second
  pub addend : HasCallAddend p.width second

pub record IsGetterCall (l : Layout) (item : Item) (first second : InputRelocation) (start : ℕ) (o : Instruction) : Type 0 where
  pub executable : IsExecutable l.kind
  pub stands : IsInstruction l item first start o
  pub partner : Partner
  pub calls : o.partners ≡ partner ∷ []
  pub has : HasCall l item first second start partner
  pub symbol : ℕ
  pub named : first.symbol ≡ Some symbol
  pub plain : HasFlag l symbol ifunc false
  pub rewritten : first.number ≡ r_x86_64_tlsgd → HasFlag l symbol non_interposable false → l.options.relax ≡ true

-- what the conditions come to
record IsOn (l : Layout) (i n : ℕ) : Type 0 where
  executable : IsExecutable l.kind
  plain : HasFlag l i ifunc false
  rewritten : n ≡ r_x86_64_tlsgd → HasFlag l i non_interposable false → l.options.relax ≡ true

on_symbol : (l : Layout) (i n : ℕ) → AreMet l i of_symbol → IsOn l i n
on_symbol l i n h = record { executable = h.0; plain = h.1.0; rewritten = λ e. h.1.1.0 }

on_output : (l : Layout) (i n : ℕ) → n ≡ r_x86_64_tlsld → AreMet l i of_output → IsOn l i n
on_output l i n e h = record { executable = h.0; plain = h.1.0; rewritten = λ f. absurd (other n e f) }
  where
    other : (n : ℕ) → n ≡ 20 → n ≡ 19 → ⊥
    other n e f = omega (arith, e, f)

is_on : (l : Layout) (i n : ℕ) (o : Instruction) → MetIn o → Contains o.numbers n → AreMet l i o.conditions → IsOn l i n
is_on l i n o (inl t) number met = on_symbol l i n (subst (λ (cs : List Condition). AreMet l i cs) t.1 met)
is_on l i n o (inr t) number met = on_output l i n (t.0 n number) (subst (λ (cs : List Condition). AreMet l i cs) t.1 met)

are_met : (l : Layout) (i n : ℕ) (o : Instruction) → MetIn o → Contains o.numbers n → IsOn l i n → AreMet l i o.conditions
are_met l i n o (inl t) number h = subst (λ (cs : List Condition). AreMet l i cs) (sym t.1) (h.executable, (h.plain, (h.rewritten (t.0 n number), tt)))
are_met l i n o (inr t) number h = subst (λ (cs : List Condition). AreMet l i cs) (sym t.1) (h.executable, (h.plain, tt))

-- the relocations of a list with one partner
pub record IsOnly (l : Layout) (item : Item) (first : InputRelocation) (start index : ℕ) (p : Partner) (rest : List InputRelocation) : Type 0 where
  pub second : InputRelocation
  pub is : rest ≡ second ∷ []
  pub has : HasPartner l item first second start index p

pub only : (l : Layout) (item : Item) (first : InputRelocation) (start index : ℕ) (p : Partner) (rest : List InputRelocation) → HasPartners l item first start index (p ∷ []) rest → IsOnly l item first start index p rest
only l item first start index p [] h = absurd h
only l item first start index p (r ∷ []) h = record { second = r; is = refl; has = h.0 }
only l item first start index p (r ∷ s ∷ rs) h = absurd h.1

pub record PairOf (l : Layout) (item : Item) (first : InputRelocation) (rest : List InputRelocation) (start : ℕ) (o : Instruction) : Type 0 where
  pub second : InputRelocation
  pub is : rest ≡ second ∷ []
  pub pair : IsGetterCall l item first second start o

pub as_pair : (l : Layout) (item : Item) (first : InputRelocation) (rest : List InputRelocation) (start : ℕ) (o : Instruction) → l.machine ≡ machine.X86_64 → IsSequence l item first rest start o → PairOf l item first rest start o
as_pair l item first rest start o x q =
    let t = one_call l o x q.stands.known q.several in
    let h = only l item first start (q.index + 1) t.call rest (subst (λ (ps : List Partner). HasPartners l item first start (q.index + 1) ps rest) t.calls q.has) in
    let on = is_on l q.symbol first.number o t.met q.stands.number q.met in
    let names = subst (λ (n : Named). NamesRequiredSymbol l first h.second t.call.width n) t.getter h.has.names in
    record {
      second = h.second;
      is = h.is;
      pair = record {
        executable = on.executable;
        stands = q.stands;
        partner = t.call;
        calls = t.calls;
        has = record { index = q.index; listed = q.listed; next = h.has.listed; field = h.has.field; number = h.has.number; getter = names.0; addend = names.1 };
        symbol = q.symbol;
        named = q.named;
        plain = on.plain;
        rewritten = on.rewritten;
      };
    }

pub sequence_of : (l : Layout) (item : Item) (first second : InputRelocation) (start : ℕ) (o : Instruction) → l.machine ≡ machine.X86_64 → IsGetterCall l item first second start o → IsSequence l item first (second ∷ []) start o
sequence_of l item first second start o x q =
    let several = subst (λ (ps : List Partner). 0 < length ps) (sym q.calls) (omega arith) in
    let t = one_call l o x q.stands.known several in
    let same : t.call ≡ q.partner = (let both : t.call ∷ [] ≡ q.partner ∷ [] = sym t.calls ∙ q.calls in cc) in
    let names = sym (ap (λ (p : Partner). p.names) same) ∙ t.getter in
    record {
      stands = q.stands;
      several = several;
      index = q.has.index;
      listed = q.has.listed;
      has = subst (λ (ps : List Partner). HasPartners l item first start (q.has.index + 1) ps (second ∷ [])) (sym q.calls) (record { listed = q.has.next; field = q.has.field; number = q.has.number; names = subst (λ (n : Named). NamesRequiredSymbol l first second q.partner.width n) (sym names) (q.has.getter, q.has.addend) }, tt);
      symbol = q.symbol;
      named = q.named;
      met = are_met l q.symbol first.number o t.met q.stands.number (record { executable = q.executable; plain = q.plain; rewritten = q.rewritten });
    }

-- ---- relocations of a pair

-- the second
pub as_its_call : (l : Layout) (item : Item) (first r : InputRelocation) (rest : List InputRelocation) (start : ℕ) (o : Instruction) → l.machine ≡ machine.X86_64 → IsSequence l item first rest start o → Contains rest r → IsGetterCall l item first r start o
as_its_call l item first r rest start o x q c =
    let t = as_pair l item first rest start o x q in
    let same : r ≡ t.second = only_one t.second r (subst (λ (rs : List InputRelocation). Contains rs r) t.is c) in
    subst (λ (y : InputRelocation). IsGetterCall l item first y start o) (sym same) t.pair

-- one of the two
pub record IsDouble (l : Layout) (item : Item) (r : InputRelocation) (start : ℕ) (o : Instruction) (first : InputRelocation) : Type 0 where
  pub second : InputRelocation
  pub sequence : IsGetterCall l item first second start o
  pub one : (r ≡ first) ⊎ (r ≡ second)

pub as_double : (l : Layout) (item : Item) (r : InputRelocation) (start : ℕ) (o : Instruction) (first : InputRelocation) → l.machine ≡ machine.X86_64 → IsOfSequence l item r start o first → IsDouble l item r start o first
as_double l item r start o first x t =
    let p = as_pair l item first t.rest start o x t.sequence in
    record { second = p.second; sequence = p.pair; one = one_of_two first p.second r (subst (λ (rs : List InputRelocation). Contains (first ∷ rs) r) p.is t.one) }

-- ---- fields

pub counts_four : (m : Machine) → m ≡ machine.X86_64 → field_origin m ≡ 4
counts_four m x = subst (λ (k : Machine). field_origin k ≡ 4) (sym x) refl
