-- Words of AArch64 code that do what is demanded, and words that do not.
use Rattle.wild_meaning.proofs.Common.{◌≡◌, ℕ, ◌+◌, ◌-◌, ◌%◌, ◌^◌, ◌<◌, ◌≤◌, inl, inr, List, [], ◌∷◌, length, refl, sym, ap, ◌∙◌, subst, arith, ◌≢◌, Option, Some, None, option_map, w64, cast_unsigned, word, number, Machine, InputRelocation, Layout, r_aarch64_adr_got_page, r_aarch64_ld64_got_lo12_nc, Value, SymbolPart, Distance, SlotAddress, SlotPageDistance, AddressSlot, AdrField, Imm12Field, NoCheck, WithinPower, Bits, Formula, formula, aarch64_formula, insert_bits, read, read_address, read_access, read_vector_access, read_literal, read_transfer, read_condition, Memory, World, Set, number_in, Holds, Reader, Effect, step, jumps, thunks-read, Item, place_at, formula_of, FieldReads, Gives, IsSum, IsReferent, IsReferentOnAArch64, FieldBits, Instruction, size_of, descriptor_call_words, address_pair_words, reads, reads_without_calls, effect_of, demand_of, IsDemanded, old_bytes, DoesDemanded, ReferenceHolds}
use Rattle.std.specs.List.{flat_map}
use Rattle.wild_types.specs.declared.kind.Machine.TheVariants as machine
use Rattle.wild_records.specs.Abi.Relocation.{r_aarch64_movw_uabs_g0, r_aarch64_adr_prel_lo21}
use Rattle.wild_reloc.specs.Formula.{Field, Imm16Field, Check, BelowPower, Passes}
use Rattle.wild_loader.specs.declared.memory.Machine as processor
use Rattle.wild_loader.specs.declared.memory.Machine.TheVariants as processors
use Rattle.wild_loader.specs.declared.effect.Effect as running
use Rattle.wild_loader.specs.InstructionAArch64.{effect_aarch64, demand_aarch64}
use Rattle.wild_loader.specs.Effect.{words_at, step_of, step_aarch64}
use Rattle.wild_loader.specs.Reach.{jump_target, Reaches, JumpsTo, ReachesWithin}
use Rattle.wild_loader.proofs.StepLemmasAArch64.{jumps-reach}
use Rattle.wild_meaning.specs.WordsAArch64.{effect_with as asked_of}
use Rattle.wild_meaning.specs.Sequence.{of_word, offset_pair_words}
use Rattle.wild_meaning.specs.Template.{CanHave, DoesWith}
use Rattle.wild_meaning.specs.Worked.RefusalsAArch64.{Does, DoesNot, call_item, slot_item, pair_item, move_item, move_word, RightWordsDo, WrongWordsAreRefused, CutBitsAreRefused, SlotAddendsAreRefused, PairsAreExcepted, ThunksAreJudged}
use Rattle.wild_meaning.proofs.InstructionsAArch64.{IsAlone, alone_only}
use Rattle.wild_meaning.proofs.WordsTemplates.{slot_page_formula, slot_low_formula, slot_page_alone, slot_low_alone}
use Rattle.wild_meaning.proofs.OneReference.{same_bytes, effect_with, value_in}
use Rattle.wild_meaning.proofs.StringLemmas.{nameless, referent_by}

-- what the loaded bytes do is what is demanded
both : (read : Reader) (l : Layout) (w : World) (m : Memory) (item : Item) (o : Instruction) (v a : ℕ) (bytes : List ℕ) → l.machine ≡ machine.AArch64 → place_at w item 0 ≡ a → Holds m a bytes → length bytes ≡ size_of o
    → ((e : Effect) → IsDemanded o.sort l item v (place_at w item 0) (old_bytes item 0 o) e → demand_of l.machine v (place_at w item 0) (old_bytes item 0 o) ≡ Some e)
    → DoesWith read l w m item 0 o v → effect_aarch64 read a bytes ≡ demand_aarch64 v a (old_bytes item 0 o)
both read l w m item o v a bytes x at held long plain h =
    let same : h.bytes ≡ bytes = same_bytes m a h.bytes bytes (h.whole ∙ sym long) (subst (λ (p : ℕ). Holds m p h.bytes) at h.held) held in
    let here : effect_of l.machine read (place_at w item 0) bytes ≡ Some h.effect = subst (λ (bs : List ℕ). effect_of l.machine read (place_at w item 0) bs ≡ Some h.effect) same h.does in
    let does : effect_of machine.AArch64 read a bytes ≡ Some h.effect = subst (λ (k : Machine). effect_of k read a bytes ≡ Some h.effect) x (subst (λ (p : ℕ). effect_of l.machine read p bytes ≡ Some h.effect) at here) in
    let there = plain h.effect h.demanded in
    let asked : demand_of machine.AArch64 v a (old_bytes item 0 o) ≡ Some h.effect =
    subst (λ (k : Machine). demand_of k v a (old_bytes item 0 o) ≡ Some h.effect) x (subst (λ (p : ℕ). demand_of l.machine v p (old_bytes item 0 o) ≡ Some h.effect) at there) in
    does ∙ sym asked

-- where both are one effect, it does
made : (read : Reader) (l : Layout) (w : World) (m : Memory) (item : Item) (o : Instruction) (v a : ℕ) (bytes : List ℕ) (e : Effect) → l.machine ≡ machine.AArch64 → place_at w item 0 ≡ a → Holds m a bytes → length bytes ≡ size_of o
    → (demand_of l.machine v (place_at w item 0) (old_bytes item 0 o) ≡ Some e → IsDemanded o.sort l item v (place_at w item 0) (old_bytes item 0 o) e)
    → demand_aarch64 v a (old_bytes item 0 o) ≡ Some e → effect_aarch64 read a bytes ≡ Some e → DoesWith read l w m item 0 o v
made read l w m item o v a bytes e x at held long plain asked does = record {
  effect = e;
  demanded = plain (subst (λ (k : Machine). demand_of k v (place_at w item 0) (old_bytes item 0 o) ≡ Some e) (sym x) (subst (λ (p : ℕ). demand_of machine.AArch64 v p (old_bytes item 0 o) ≡ Some e) (sym at) asked));
  bytes = bytes;
  whole = long;
  held = subst (λ (p : ℕ). Holds m p bytes) (sym at) held;
  does = subst (λ (k : Machine). effect_of k read (place_at w item 0) bytes ≡ Some e) (sym x) (subst (λ (p : ℕ). effect_of machine.AArch64 read p bytes ≡ Some e) (sym at) does);
}

-- ---- what is demanded

call_asked : (v : ℕ) → demand_aarch64 v 0x10010 (old_bytes call_item 0 descriptor_call_words) ≡ Some (effect_with (Set 0) 64 (v % 2 ^ 64))
unfolding word number read read_address read_access read_vector_access read_literal read_transfer read_condition
call_asked v = refl

slot_asked : (v : ℕ) → demand_aarch64 v 0x10000 (old_bytes slot_item 0 offset_pair_words) ≡ Some (effect_with (Set 0) 64 (v % 2 ^ 64))
unfolding word number read read_address read_access read_vector_access read_literal read_transfer read_condition
slot_asked v = refl

pair_asked : (v : ℕ) → demand_aarch64 v 0x10000 (old_bytes pair_item 0 address_pair_words) ≡ Some (effect_with (Set 0) 64 (v % 2 ^ 64))
unfolding word number read read_address read_access read_vector_access read_literal read_transfer read_condition
pair_asked v = refl

-- ---- right words

call_does : Does call_item descriptor_call_words 0x18 (0xd503201f ∷ 0xd503201f ∷ 0xd2a00000 ∷ 0xf2800300 ∷ [])
unfolding word number read read_address read_access read_vector_access read_literal read_transfer read_condition
call_does = λ l w m x base held.
    let at : place_at w call_item 0 ≡ 0x10010 = omega (arith, base) in
    made (reads_without_calls w m) l w m call_item descriptor_call_words 0x18 0x10010 (flat_map (word 4) (0xd503201f ∷ 0xd503201f ∷ 0xd2a00000 ∷ 0xf2800300 ∷ [])) (effect_with (Set 0) 64 0x18) x at held refl (λ h. h) (call_asked 0x18) refl

pair_does : Does pair_item address_pair_words 0x10104 (0xd503201f ∷ 0x10000800 ∷ [])
unfolding word number read read_address read_access read_vector_access read_literal read_transfer read_condition
pair_does = λ l w m x base held.
    let at : place_at w pair_item 0 ≡ 0x10000 = omega (arith, base) in
    made (reads_without_calls w m) l w m pair_item address_pair_words 0x10104 0x10000 (flat_map (word 4) (0xd503201f ∷ 0x10000800 ∷ [])) (effect_with (Set 0) 64 0x10104) x at held refl (λ h. h) (pair_asked 0x10104) refl

-- a word with bits in its field
move_asked : asked_of 0x18 0x10000 (old_bytes move_item 0 move_word) ≡ Some (effect_with (Set 0) 64 0x180000)
unfolding word number read read_address read_access read_vector_access read_literal read_transfer read_condition insert_bits
move_asked = refl

move_does : Does move_item move_word 0x18 (0xd2a00300 ∷ [])
unfolding word number read read_address read_access read_vector_access read_literal read_transfer read_condition
move_does = λ l w m x base held.
    let at : place_at w move_item 0 ≡ 0x10000 = omega (arith, base) in
    record {
      effect = effect_with (Set 0) 64 0x180000;
      demanded = subst (λ (p : ℕ). asked_of 0x18 p (old_bytes move_item 0 move_word) ≡ Some (effect_with (Set 0) 64 0x180000)) (sym at) move_asked;
      bytes = flat_map (word 4) (0xd2a00300 ∷ []);
      whole = refl;
      held = subst (λ (p : ℕ). Holds m p (flat_map (word 4) (0xd2a00300 ∷ []))) (sym at) held;
      does = subst (λ (k : Machine). effect_of k (reads_without_calls w m) (place_at w move_item 0) (flat_map (word 4) (0xd2a00300 ∷ [])) ≡ Some (effect_with (Set 0) 64 0x180000)) (sym x)
          (subst (λ (p : ℕ). effect_of machine.AArch64 (reads_without_calls w m) p (flat_map (word 4) (0xd2a00300 ∷ [])) ≡ Some (effect_with (Set 0) 64 0x180000)) (sym at) refl);
    }

pub right_words : RightWordsDo
right_words = record { call = call_does; pair = pair_does; move = move_does }

-- ---- wrong words

-- nothing is told of `movn`
negated_done : (read : Reader) → effect_aarch64 read 0x10000 (flat_map (word 4) (0x92a00300 ∷ [])) ≡ None
unfolding word number read read_address read_access read_vector_access read_literal read_transfer read_condition
negated_done read = refl

negated_does_not : DoesNot move_item move_word 0x18 (0x92a00300 ∷ [])
unfolding word
negated_does_not = λ l w m x base held h.
    let at : place_at w move_item 0 ≡ 0x10000 = omega (arith, base) in
    let bytes = flat_map (word 4) (0x92a00300 ∷ []) in
    let same : h.bytes ≡ bytes = same_bytes m 0x10000 h.bytes bytes h.whole (subst (λ (p : ℕ). Holds m p h.bytes) at h.held) held in
    let here : effect_of l.machine (reads_without_calls w m) (place_at w move_item 0) bytes ≡ Some h.effect = subst (λ (bs : List ℕ). effect_of l.machine (reads_without_calls w m) (place_at w move_item 0) bs ≡ Some h.effect) same h.does in
    let does : effect_of machine.AArch64 (reads_without_calls w m) 0x10000 bytes ≡ Some h.effect =
    subst (λ (k : Machine). effect_of k (reads_without_calls w m) 0x10000 bytes ≡ Some h.effect) x (subst (λ (p : ℕ). effect_of l.machine (reads_without_calls w m) p bytes ≡ Some h.effect) at here) in
    let none : None ≡ Some h.effect = sym (negated_done (reads_without_calls w m)) ∙ does in
    cc

half_does_not : DoesNot call_item descriptor_call_words 0x18 (0xd503201f ∷ 0xd503201f ∷ 0xd2800300 ∷ 0xd63f0020 ∷ [])
unfolding word number read read_address read_access read_vector_access read_literal read_transfer read_condition
half_does_not = λ l w m x base held h.
    let at : place_at w call_item 0 ≡ 0x10010 = omega (arith, base) in
    let one = both (reads_without_calls w m) l w m call_item descriptor_call_words 0x18 0x10010 (flat_map (word 4) (0xd503201f ∷ 0xd503201f ∷ 0xd2800300 ∷ 0xd63f0020 ∷ [])) x at held refl (λ e k. k) h in
    let none : None ≡ Some (effect_with (Set 0) 64 0x18) = one ∙ call_asked 0x18 in
    cc

low_does_not : DoesNot call_item descriptor_call_words 0x18 (0xd503201f ∷ 0xd503201f ∷ 0xd2a00300 ∷ 0xf2800000 ∷ [])
unfolding word number read read_address read_access read_vector_access read_literal read_transfer read_condition
low_does_not = λ l w m x base held h.
    let at : place_at w call_item 0 ≡ 0x10010 = omega (arith, base) in
    let one = both (reads_without_calls w m) l w m call_item descriptor_call_words 0x18 0x10010 (flat_map (word 4) (0xd503201f ∷ 0xd503201f ∷ 0xd2a00300 ∷ 0xf2800000 ∷ [])) x at held refl (λ e k. k) h in
    let other : Some (effect_with (Set 0) 64 0x180000) ≡ Some (effect_with (Set 0) 64 0x18) = one ∙ call_asked 0x18 in
    let value : 0x180000 ≡ 0x18 = value_in (Set 0) 64 0x180000 (effect_with (Set 0) 64 0x18) other in
    omega (arith, value)

early_does_not : DoesNot pair_item address_pair_words 0x10104 (0x10000800 ∷ 0xd503201f ∷ [])
unfolding word number read read_address read_access read_vector_access read_literal read_transfer read_condition
early_does_not = λ l w m x base held h.
    let at : place_at w pair_item 0 ≡ 0x10000 = omega (arith, base) in
    let one = both (reads_without_calls w m) l w m pair_item address_pair_words 0x10104 0x10000 (flat_map (word 4) (0x10000800 ∷ 0xd503201f ∷ [])) x at held refl (λ e k. k) h in
    let other : Some (effect_with (Set 0) 64 0x10100) ≡ Some (effect_with (Set 0) 64 0x10104) = one ∙ pair_asked 0x10104 in
    let value : 0x10100 ≡ 0x10104 = value_in (Set 0) 64 0x10100 (effect_with (Set 0) 64 0x10104) other in
    omega (arith, value)

other_slot : (l : Layout) (w : World) (m : Memory) (n : ℕ) → l.machine ≡ machine.AArch64 → w.base ≡ 0 → Holds m 0x10000 (flat_map (word 4) (0x90000080 ∷ 0xf9400c00 ∷ [])) → number_in m 0x20018 8 ≡ Some n → n < 2 ^ 64
    → n ≢ 0x18 → DoesWith (reads w m) l w m slot_item 0 offset_pair_words 0x18 → ⊥
unfolding word number read read_address read_access read_vector_access read_literal read_transfer read_condition
other_slot l w m n x base held there small wrong h =
    let at : place_at w slot_item 0 ≡ 0x10000 = omega (arith, base) in
    let one = both (reads w m) l w m slot_item offset_pair_words 0x18 0x10000 (flat_map (word 4) (0x90000080 ∷ 0xf9400c00 ∷ [])) x at held refl (λ e k. k) h in
    let read_there : option_map (λ (v : ℕ). effect_with (Set 0) 64 (v % 2 ^ 64)) (number_in m 0x20018 8) ≡ Some (effect_with (Set 0) 64 0x18) = one ∙ slot_asked 0x18 in
    let other : Some (effect_with (Set 0) 64 (n % 2 ^ 64)) ≡ Some (effect_with (Set 0) 64 0x18) = subst (λ (o : Option ℕ). option_map (λ (v : ℕ). effect_with (Set 0) 64 (v % 2 ^ 64)) o ≡ Some (effect_with (Set 0) 64 0x18)) there read_there in
    let value : n % 2 ^ 64 ≡ 0x18 = value_in (Set 0) 64 (n % 2 ^ 64) (effect_with (Set 0) 64 0x18) other in
    wrong (omega (arith, value, small))

pub wrong_words : WrongWordsAreRefused
wrong_words = record { half = half_does_not; low = low_does_not; early = early_does_not; negated = negated_does_not; slot = other_slot }

-- ---- values that fields can't have, addends at slots

adr_formula : aarch64_formula r_aarch64_adr_prel_lo21 ≡ Some (formula Distance (Bits AdrField 20 0 (WithinPower 21) 1))
unfolding aarch64_formula
adr_formula = refl

move_formula : aarch64_formula r_aarch64_movw_uabs_g0 ≡ Some (formula SymbolPart (Bits Imm16Field 15 0 (BelowPower 16) 1))
unfolding aarch64_formula
move_formula = refl

-- where no value of the formula is in the field's range, no reference of that type holds
no_value : (l : Layout) (w : World) (m : Memory) (item : Item) (r : InputRelocation) (v : Value) (f : Field) (high low : ℕ) (check : Check) (unit : ℕ) → l.machine ≡ machine.AArch64 → IsAlone r.number (of_word FieldBits r.number)
    → aarch64_formula r.number ≡ Some (formula v (Bits f high low check unit)) → ((x : ℕ) → Gives v l w m item r x → Passes check x → ⊥) → ReferenceHolds l w m item r → ⊥
no_value l w m item r v f high low check unit x alone known none = by
  where
    known_there : formula_of l.machine r.number ≡ Some (formula v (Bits f high low check unit))
    known_there = subst (λ (k : Machine). formula_of k r.number ≡ Some (formula v (Bits f high low check unit))) (sym x) known

    same : (g : Formula) → formula_of l.machine r.number ≡ Some g → g ≡ formula v (Bits f high low check unit)
    same g e = let both : Some g ≡ Some (formula v (Bits f high low check unit)) = sym e ∙ known_there in cc

    in_plain : (g : Formula) → g ≡ formula v (Bits f high low check unit) → (n : ℕ) → Gives g.value l w m item r n → FieldReads w m item r g.form n → ⊥
    in_plain g e n given field =
        none n (subst (λ (k : Formula). Gives k.value l w m item r n) e given) (subst (λ (k : Formula). FieldReads w m item r k.form n) e field).reads.passes

    in_bits : (g : Formula) → g ≡ formula v (Bits f high low check unit) → (n : ℕ) → Gives g.value l w m item r n → CanHave g.form n → ⊥
    in_bits g e n given fits = none n (subst (λ (k : Formula). Gives k.value l w m item r n) e given) (subst (λ (k : Formula). CanHave k.form n) e fits).0

    by : ReferenceHolds l w m item r → ⊥
    by (inl h) = in_plain h.formula (same h.formula h.known) h.value h.gives h.field
    by (inr h) =
        alone_only (λ start o first. DoesDemanded (reads_without_calls w m) l w m item first start o → ⊥) l item r (of_word FieldBits r.number) x alone (λ d. in_bits d.demands.formula (same d.demands.formula d.demands.known) d.demands.value d.demands.gives d.demands.fits)
        h.start h.instruction h.first h.template h.does

adr_alone : IsAlone r_aarch64_adr_prel_lo21 (of_word FieldBits r_aarch64_adr_prel_lo21)
adr_alone = record { single = refl; at = refl; one = (refl, tt); none = tt }

move_alone : IsAlone r_aarch64_movw_uabs_g0 (of_word FieldBits r_aarch64_movw_uabs_g0)
move_alone = record { single = refl; at = refl; one = (refl, tt); none = tt }

-- a type's facts, of a reference that has it
of_type : (P : ℕ → Type 0) (n k : ℕ) → n ≡ k → P k → P n
of_type P n k e h = subst P (sym e) h

-- without a symbol S is 0
no_symbol : (l : Layout) (v : Value) (w : World) (m : Memory) (item : Item) (r : InputRelocation) (x : ℕ) → l.machine ≡ machine.AArch64 → r.symbol ≡ None → IsSum v l w m item r x → x ≡ (0 + cast_unsigned w64 r.addend) % 2 ^ 64
no_symbol l v w m item r x is none s =
    let there : IsReferent machine.AArch64 v l w m item r s.symbol = subst (λ (k : Machine). IsReferent k v l w m item r s.symbol) is s.denoted in
    let plain : IsReferentOnAArch64 v l w m item r r.symbol s.symbol = referent_by machine.AArch64 v l w m item r s.symbol (λ t. nameless l r none t.1) there in
    let zero : s.symbol ≡ 0 = subst (λ (o : Option ℕ). IsReferentOnAArch64 v l w m item r o s.symbol) none plain in
    s.sum ∙ ap (λ (n : ℕ). (n + cast_unsigned w64 r.addend) % 2 ^ 64) zero

pub cut_bits : CutBitsAreRefused
cut_bits = record {
  far = λ l w m item r d x n none is from to.
      no_value l w m item r Distance AdrField 20 0 (WithinPower 21) 1 x (of_type (λ k. IsAlone k (of_word FieldBits k)) r.number r_aarch64_adr_prel_lo21 n adr_alone)
      (of_type (λ k. aarch64_formula k ≡ Some (formula Distance (Bits AdrField 20 0 (WithinPower 21) 1))) r.number r_aarch64_adr_prel_lo21 n adr_formula) (λ v given passes. too_far l w m item r d v x none is from to given passes);
  wide = λ l w m item r x n none above.
      no_value l w m item r SymbolPart Imm16Field 15 0 (BelowPower 16) 1 x (of_type (λ k. IsAlone k (of_word FieldBits k)) r.number r_aarch64_movw_uabs_g0 n move_alone)
      (of_type (λ k. aarch64_formula k ≡ Some (formula SymbolPart (Bits Imm16Field 15 0 (BelowPower 16) 1))) r.number r_aarch64_movw_uabs_g0 n move_formula) (λ v given passes. too_wide l w m item r v x none above given passes);
}
  where
    too_far : (l : Layout) (w : World) (m : Memory) (item : Item) (r : InputRelocation) (d v : ℕ) → l.machine ≡ machine.AArch64 → r.symbol ≡ None → (cast_unsigned w64 r.addend + (2 ^ 64 - place_at w item r.offset)) % 2 ^ 64 ≡ d → 2 ^ 20 ≤ d → d + 2 ^ 20 < 2 ^ 64
        → Gives Distance l w m item r v → Passes (WithinPower 21) v → ⊥
    too_far l w m item r d v x none is from to given (inl low) = (let t = no_symbol l Distance w m item r given.0 x none given.1 in omega (arith, t, given.2, is, from, to, low))
    too_far l w m item r d v x none is from to given (inr high) = (let t = no_symbol l Distance w m item r given.0 x none given.1 in omega (arith, t, given.2, is, from, to, high))

    too_wide : (l : Layout) (w : World) (m : Memory) (item : Item) (r : InputRelocation) (v : ℕ) → l.machine ≡ machine.AArch64 → r.symbol ≡ None → 2 ^ 16 ≤ cast_unsigned w64 r.addend % 2 ^ 64 → Gives SymbolPart l w m item r v → Passes (BelowPower 16) v → ⊥
    too_wide l w m item r v x none above given passes = let t = no_symbol l SymbolPart w m item r v x none given in omega (arith, t, above, passes)

pub slot_addends : SlotAddendsAreRefused
slot_addends = record {
  page = λ l w m item r x n other.
      no_value l w m item r (SlotPageDistance AddressSlot) AdrField 32 12 (WithinPower 33) 4096 x (of_type (λ k. IsAlone k (of_word FieldBits k)) r.number r_aarch64_adr_got_page n slot_page_alone)
      (of_type (λ k. aarch64_formula k ≡ Some (formula (SlotPageDistance AddressSlot) (Bits AdrField 32 12 (WithinPower 33) 4096))) r.number r_aarch64_adr_got_page n slot_page_formula) (λ v given passes. other given.1.1);
  low = λ l w m item r x n other.
      no_value l w m item r (SlotAddress AddressSlot) Imm12Field 11 3 NoCheck 8 x (of_type (λ k. IsAlone k (of_word FieldBits k)) r.number r_aarch64_ld64_got_lo12_nc n slot_low_alone)
      (of_type (λ k. aarch64_formula k ≡ Some (formula (SlotAddress AddressSlot) (Bits Imm12Field 11 3 NoCheck 8))) r.number r_aarch64_ld64_got_lo12_nc n slot_low_formula) (λ v given passes. other given.1.1);
}

pub pairs_excepted : PairsAreExcepted
pairs_excepted = λ l item r first start i t movable named absolute. record { movable = movable; symbol = i; named = named; absolute = absolute; relative = inr (record { start = start; instruction = address_pair_words; first = first; template = t; counts = tt }) }

-- ---- thunks

right_thunk : (m : Memory) → m.machine ≡ processors.AArch64 → Holds m 0x1000 (flat_map (word 4) (0x90000030 ∷ 0x9119e210 ∷ 0xd61f0200 ∷ [])) → step m 0x1000 ≡ Some (jumps 12 0x5678)
unfolding insert_bits
right_thunk m x held = thunks-read m 0 0x1000 0x5678 x (record { above = omega arith; below = omega arith }) refl (omega arith) held

far_thunk : (m : Memory) → m.machine ≡ processors.AArch64 → Holds m 0x1000 (flat_map (word 4) (0xb0000030 ∷ 0x9119e210 ∷ 0xd61f0200 ∷ [])) → step m 0x1000 ≡ Some (jumps 12 0x6678)
unfolding insert_bits
far_thunk m x held = thunks-read m 0 0x1000 0x6678 x (record { above = omega arith; below = omega arith }) refl (omega arith) held

-- where no word is loaded, no code is known
no_code : (m : Memory) (a : ℕ) → m.machine ≡ processors.AArch64 → number_in m a 4 ≡ None → step m a ≡ None
unfolding step_aarch64 words_at
no_code m a x none = ap (λ (k : processor.Machine). step_of k m a) x ∙ rw none refl

pub goes_there : (m : Memory) (a v b : ℕ) → step m a ≡ Some (jumps 12 v) → JumpsTo m a b → b ≡ v
goes_there m a v b known j =
    let one : Some (jumps 12 v) ≡ Some j.effect = sym known ∙ j.known in
    let same : jumps 12 v ≡ j.effect = cc in
    let target : Some v ≡ Some b = subst (λ (e : running.Effect). jump_target e ≡ Some b) (sym same) j.jump in
    cc

goes_nowhere : (m : Memory) (a b : ℕ) → step m a ≡ None → JumpsTo m a b → ⊥
goes_nowhere m a b none j = let both_ways : None ≡ Some j.effect = sym none ∙ j.known in cc

no_second : (m : Memory) (b v : ℕ) → step m b ≡ None → (b ≡ v → ⊥) → ReachesWithin 1 m b v → ⊥
no_second m b v none apart (inl e) = apart e
no_second m b v none apart (inr h) = goes_nowhere m b h.0 none h.1

wrong_thunk : (m : Memory) → step m 0x1000 ≡ Some (jumps 12 0x6678) → step m 0x6678 ≡ None → Reaches m 0x1000 0x5678 → ⊥
wrong_thunk m first none (inl e) = omega (arith, e)
wrong_thunk m first none (inr h) =
    let b = goes_there m 0x1000 0x6678 h.0 first h.1 in
    no_second m 0x6678 0x5678 none (λ e. omega (arith, e)) (subst (λ (k : ℕ). ReachesWithin 1 m k 0x5678) b h.2)

pub thunks_judged : ThunksAreJudged
thunks_judged = record {
  right = λ m x held. jumps-reach m 0x1000 0x5678 (jumps 12 0x5678) (right_thunk m x held) refl;
  wrong = λ m x held none. wrong_thunk m (far_thunk m x held) (no_code m 0x6678 x none);
}
