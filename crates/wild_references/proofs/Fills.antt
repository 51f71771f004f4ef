-- An instruction with its fields filled does what its input's bytes demand.
use Rattle.wild_references.proofs.Common.{◌≡◌, ℕ, zero, suc, ◌+◌, ◌*◌, ◌/◌, ◌%◌, ◌^◌, ◌<◌, ◌≤◌, ◌⊎◌, inl, inr, Bool, true, false, List, [], ◌∷◌, length, get_or, refl, sym, ap, ◌∙◌, arith, subst, ◌&&◌, ◌||◌, nat_le, nat_lt, Some, Option, option_map, option_and_then, slice_index, ⊤, leb-true, ltb-true, and_parts, or_cases, and_from, Is, From, Slot, Digit, Any, Operand, Number, Word, Action, Set, Subtract, Compare, Call, Jump, fits, matches_cells, Reader, Effect, effect, with_value, as_value, no_prefix, rex, rex2, branch, with_slot, general_call, general_slot_call, far_pair_call, local_call, local_slot_call, descriptor_call, r_x86_64_pc32, r_x86_64_plt32, r_x86_64_gotpcrel, r_x86_64_gottpoff, r_x86_64_gotpc32_tlsdesc, r_x86_64_code_4_gotpc32_tlsdesc, r_x86_64_tlsdesc_call, r_x86_64_tlsgd, r_x86_64_tlsld, Target, TargetInSlot, AddressInSlot, OffsetInSlot, SymbolPair, OwnPair, Described, DescribedCall, Instruction, size_of, IsOutsidePartners, IsOwnByte, of_field, by_call, by_slot, by_distance, instructions_of}
use Rattle.wild_types.specs.declared.kind.Machine.TheVariants as machine
use Rattle.wild_loader.specs.declared.instruction.Cell.{Cell}
use Rattle.wild_loader.specs.declared.instruction.Deed.{Deed}
use Rattle.wild_loader.specs.declared.instruction.Deed.TheVariants.{Add}
use Rattle.wild_records.specs.Abi.Relocation.{r_x86_64_gotpcrelx, r_x86_64_rex_gotpcrelx, r_x86_64_code_4_gotpcrelx, r_x86_64_code_4_gottpoff}
use Rattle.wild_meaning.specs.Sequence.{any_words, Partner, of_sequence, of_output, of_symbol}
use Rattle.wild_references.specs.FilledX86_64.{IsFilled, HasEffect, FilledInstructionsDo}
use Rattle.wild_references.proofs.Acts as acts
use Rattle.wild_references.proofs.Acts.{IsMeant}

-- ---- own bytes

abbrev outside_partners : ℕ → List Partner → Bool
outside_partners k [] = true
outside_partners k (p ∷ ps) = (nat_lt k p.field || nat_le (p.field + p.width) k) && outside_partners k ps

abbrev is_own : Instruction → ℕ → Bool
is_own o k = (nat_lt k o.field || nat_le (o.field + o.width) k) && outside_partners k o.partners

outside : (k a b : ℕ) → (nat_lt k a || nat_le b k) ≡ true → (k < a) ⊎ (b ≤ k)
outside k a b h = elim (or_cases (nat_lt k a) (nat_le b k) h) [ inl x ↦ inl (ltb-true k a x) | inr x ↦ inr (leb-true b k x) ]

beside_is : (k : ℕ) (ps : List Partner) → outside_partners k ps ≡ true → IsOutsidePartners k ps
beside_is k [] h = tt
beside_is k (p ∷ ps) h = let two = and_parts (nat_lt k p.field || nat_le (p.field + p.width) k) (outside_partners k ps) h in (outside k p.field (p.field + p.width) two.0, beside_is k ps two.1)

own_is : (o : Instruction) (k : ℕ) → k < size_of o → is_own o k ≡ true → IsOwnByte o k
own_is o k lt h =
    let two = and_parts (nat_lt k o.field || nat_le (o.field + o.width) k) (outside_partners k o.partners) h in
    record { inside = lt; beside = outside k o.field (o.field + o.width) two.0; apart = beside_is k o.partners two.1 }

-- ---- cells that are no field's are own bytes

abbrev pub is_any : Cell → Bool
is_any Any = true
is_any other = false

abbrev covered : (ℕ → Bool) → List Cell → ℕ → Bool
covered own [] k = true
covered own (c ∷ cs) k = (is_any c || own k) && covered own cs (k + 1)

fits_any : (c : Cell) (b d : ℕ) → is_any c ≡ true → fits c d ≡ true
fits_any Any b d h = refl
fits_any (Is n) b d h = cc
fits_any (From l u) b d h = cc
fits_any Slot b d h = cc
fits_any (Digit n) b d h = cc

-- from cell k on
stands_too : (own : ℕ → Bool) (cs : List Cell) (old new whole_old whole_new : List ℕ) (k : ℕ) → ((i : ℕ) → get_or whole_old (k + i) 0 ≡ get_or old i 0) → ((i : ℕ) → get_or whole_new (k + i) 0 ≡ get_or new i 0)
    → length new ≡ length cs → ((i : ℕ) → i < k + length cs → own i ≡ true → get_or whole_new i 0 ≡ get_or whole_old i 0) → covered own cs k ≡ true → matches_cells cs old ≡ true → matches_cells cs new ≡ true
stands_too own [] old new wo wn k so sn long same h s = refl
stands_too own (c ∷ cs) [] new wo wn k so sn long same h s = cc
stands_too own (c ∷ cs) (b ∷ old) [] wo wn k so sn long same h s = absurd (omega arith)
stands_too own (c ∷ cs) (b ∷ old) (d ∷ new) wo wn k so sn long same h s =
    let z : k + 0 ≡ k = omega arith in
    let one = and_parts (fits c b) (matches_cells cs old) s in
    let two = and_parts (is_any c || own k) (covered own cs (k + 1)) h in
    let ob : get_or wo k 0 ≡ b = subst (λ (j : ℕ). get_or wo j 0 ≡ b) z (so 0) in
    let nd : get_or wn k 0 ≡ d = subst (λ (j : ℕ). get_or wn j 0 ≡ d) z (sn 0) in
    let first : fits c d ≡ true =
    elim (or_cases (is_any c) (own k) two.0) [
      | inl any ↦ fits_any c b d any
      | inr is ↦ (let e : d ≡ b = sym nd ∙ same k (omega arith) is ∙ ob in subst (λ (x : ℕ). fits c x ≡ true) (sym e) one.0)
    ] in
    let no : (i : ℕ) → get_or wo (k + 1 + i) 0 ≡ get_or old i 0 = λ i. subst (λ (j : ℕ). get_or wo j 0 ≡ get_or old i 0) (omega arith) (so (suc i)) in
    let nn : (i : ℕ) → get_or wn (k + 1 + i) 0 ≡ get_or new i 0 = λ i. subst (λ (j : ℕ). get_or wn j 0 ≡ get_or new i 0) (omega arith) (sn (suc i)) in
    let rest = stands_too own cs old new wo wn (k + 1) no nn (omega arith) (λ i lt is. same i (omega arith) is) two.1 one.1 in
    and_from (fits c d) (matches_cells cs new) first rest

from_zero : (bs : List ℕ) (i : ℕ) → get_or bs (0 + i) 0 ≡ get_or bs i 0
from_zero bs i = subst (λ (j : ℕ). get_or bs j 0 ≡ get_or bs i 0) (omega arith) refl

filled_stands : (o : Instruction) (old new : List ℕ) → covered (is_own o) o.template.cells 0 ≡ true → IsFilled o old new → matches_cells o.template.cells new ≡ true
filled_stands o old new c f = stands_too (is_own o) o.template.cells old new old new 0 (from_zero old) (from_zero new) f.whole (λ i lt is. f.same i (own_is o i (omega arith) is)) c f.stood

-- ---- actions

-- what is done hangs on own bytes alone
abbrev ActsSame : Instruction → Type 0
ActsSame o = (old new : List ℕ) → IsFilled o old new → (a v : ℕ) → with_value (o.template.action a new) v ≡ with_value (o.template.action a old) v

pub record IsKnown (o : Instruction) : Type 0 where
  pub meant : IsMeant o.template
  pub covers : covered (is_own o) o.template.cells 0 ≡ true
  pub acts : ActsSame o

known : (o : Instruction) → IsMeant o.template → covered (is_own o) o.template.cells 0 ≡ true → ActsSame o → IsKnown o
known o m c s = record { meant = m; covers = c; acts = s }

own_at : (o : Instruction) (k : ℕ) (old new : List ℕ) → nat_lt k (size_of o) ≡ true → is_own o k ≡ true → IsFilled o old new → slice_index new k ≡ slice_index old k
own_at o k old new lt own f = f.same k (own_is o k (ltb-true k (size_of o) lt) own)

does_of : (o : Instruction) (read : Reader) (a v : ℕ) (old new : List ℕ) → IsKnown o → IsFilled o old new → read (o.template.action a new).operand ≡ Some v → HasEffect read a v old new
does_of o read a v old new k f r =
    let mo = k.meant old f.long f.stood a in
    let mn = k.meant new f.whole (filled_stands o old new k.covers f) a in
    record {
      effect = with_value (o.template.action a old) v;
      demanded = ap (λ (x : Option Action). option_and_then (effect (as_value v)) x) mo;
      done = ap (λ (x : Option Action). option_and_then (effect read) x) mn ∙ ap (λ (x : Option ℕ). option_map (with_value (o.template.action a new)) x) r ∙ ap (λ (x : Effect). Some x) (k.acts old new f a v);
    }

-- ---- each instruction

abbrev Acted : (ℕ → Deed) → ℕ → ℕ → ℕ → Effect
Acted deed width n v = record { deed = deed n; width = width; value = v % 2 ^ width }

-- with a slot: the register stands in ModRM, and in the prefix
bare_acts : (opcode : ℕ) (operand : ℕ → Operand) (deed : ℕ → Deed) (a v : ℕ) (old new : List ℕ) → slice_index new 1 ≡ slice_index old 1
    → with_value ((with_slot opcode operand deed no_prefix).action a new) v ≡ with_value ((with_slot opcode operand deed no_prefix).action a old) v
bare_acts opcode operand deed a v old new e = ap (λ (x : ℕ). Acted deed 32 (x / 8 % 8 + 0) v) e

rex_acts : (opcode : ℕ) (operand : ℕ → Operand) (deed : ℕ → Deed) (a v : ℕ) (old new : List ℕ) → slice_index new 0 ≡ slice_index old 0 → slice_index new 2 ≡ slice_index old 2
    → with_value ((with_slot opcode operand deed rex).action a new) v ≡ with_value ((with_slot opcode operand deed rex).action a old) v
rex_acts opcode operand deed a v old new p e =
    ap (λ (x : ℕ). Acted deed 64 (x / 8 % 8 + 8 * (slice_index new 0 / 4 % 2)) v) e ∙ ap (λ (x : ℕ). Acted deed 64 (slice_index old 2 / 8 % 8 + 8 * (x / 4 % 2)) v) p

rex2_acts : (opcode : ℕ) (operand : ℕ → Operand) (deed : ℕ → Deed) (a v : ℕ) (old new : List ℕ) → slice_index new 1 ≡ slice_index old 1 → slice_index new 3 ≡ slice_index old 3
    → with_value ((with_slot opcode operand deed rex2).action a new) v ≡ with_value ((with_slot opcode operand deed rex2).action a old) v
rex2_acts opcode operand deed a v old new p e =
    ap (λ (x : ℕ). Acted deed (32 + 32 * (slice_index new 1 / 8 % 2)) (x / 8 % 8 + (8 * (slice_index new 1 / 4 % 2) + 16 * (slice_index new 1 / 64 % 2))) v) e
    ∙ ap (λ (x : ℕ). Acted deed (32 + 32 * (x / 8 % 2)) (slice_index old 3 / 8 % 8 + (8 * (x / 4 % 2) + 16 * (x / 64 % 2))) v) p

near_call : IsKnown (of_field (branch (0xe8 ∷ []) Number Call) 1 Target (r_x86_64_pc32 ∷ r_x86_64_plt32 ∷ []))
near_call = known (of_field (branch (0xe8 ∷ []) Number Call) 1 Target (r_x86_64_pc32 ∷ r_x86_64_plt32 ∷ [])) acts.call_near refl (λ old new f a v. refl)

near_jump : IsKnown (of_field (branch (0xe9 ∷ []) Number Jump) 1 Target (r_x86_64_pc32 ∷ r_x86_64_plt32 ∷ []))
near_jump = known (of_field (branch (0xe9 ∷ []) Number Jump) 1 Target (r_x86_64_pc32 ∷ r_x86_64_plt32 ∷ [])) acts.jump_near refl (λ old new f a v. refl)

through_call : IsKnown (of_field (branch (0xff ∷ 0x15 ∷ []) Word Call) 2 TargetInSlot (r_x86_64_gotpcrel ∷ r_x86_64_gotpcrelx ∷ []))
through_call = known (of_field (branch (0xff ∷ 0x15 ∷ []) Word Call) 2 TargetInSlot (r_x86_64_gotpcrel ∷ r_x86_64_gotpcrelx ∷ [])) acts.call_slot refl (λ old new f a v. refl)

through_jump : IsKnown (of_field (branch (0xff ∷ 0x25 ∷ []) Word Jump) 2 TargetInSlot (r_x86_64_gotpcrel ∷ r_x86_64_gotpcrelx ∷ []))
through_jump = known (of_field (branch (0xff ∷ 0x25 ∷ []) Word Jump) 2 TargetInSlot (r_x86_64_gotpcrel ∷ r_x86_64_gotpcrelx ∷ [])) acts.jump_slot refl (λ old new f a v. refl)

bare_address_mov : IsKnown (of_field (with_slot 0x8b Word Set no_prefix) 2 AddressInSlot (r_x86_64_gotpcrelx ∷ []))
bare_address_mov = known (of_field (with_slot 0x8b Word Set no_prefix) 2 AddressInSlot (r_x86_64_gotpcrelx ∷ [])) acts.bare_mov refl (λ old new f a v. bare_acts 0x8b Word Set a v old new (own_at (of_field (with_slot 0x8b Word Set no_prefix) 2 AddressInSlot (r_x86_64_gotpcrelx ∷ [])) 1 old new refl refl f))

bare_address_add : IsKnown (of_field (with_slot 0x03 Word Add no_prefix) 2 AddressInSlot (r_x86_64_gotpcrelx ∷ []))
bare_address_add = known (of_field (with_slot 0x03 Word Add no_prefix) 2 AddressInSlot (r_x86_64_gotpcrelx ∷ [])) acts.bare_add refl (λ old new f a v. bare_acts 0x03 Word Add a v old new (own_at (of_field (with_slot 0x03 Word Add no_prefix) 2 AddressInSlot (r_x86_64_gotpcrelx ∷ [])) 1 old new refl refl f))

bare_address_sub : IsKnown (of_field (with_slot 0x2b Word Subtract no_prefix) 2 AddressInSlot (r_x86_64_gotpcrelx ∷ []))
bare_address_sub = known (of_field (with_slot 0x2b Word Subtract no_prefix) 2 AddressInSlot (r_x86_64_gotpcrelx ∷ [])) acts.bare_sub refl (λ old new f a v. bare_acts 0x2b Word Subtract a v old new (own_at (of_field (with_slot 0x2b Word Subtract no_prefix) 2 AddressInSlot (r_x86_64_gotpcrelx ∷ [])) 1 old new refl refl f))

bare_address_cmp : IsKnown (of_field (with_slot 0x3b Word Compare no_prefix) 2 AddressInSlot (r_x86_64_gotpcrelx ∷ []))
bare_address_cmp = known (of_field (with_slot 0x3b Word Compare no_prefix) 2 AddressInSlot (r_x86_64_gotpcrelx ∷ [])) acts.bare_cmp refl (λ old new f a v. bare_acts 0x3b Word Compare a v old new (own_at (of_field (with_slot 0x3b Word Compare no_prefix) 2 AddressInSlot (r_x86_64_gotpcrelx ∷ [])) 1 old new refl refl f))

rex_address_mov : IsKnown (of_field (with_slot 0x8b Word Set rex) 3 AddressInSlot (r_x86_64_rex_gotpcrelx ∷ []))
rex_address_mov = known (of_field (with_slot 0x8b Word Set rex) 3 AddressInSlot (r_x86_64_rex_gotpcrelx ∷ [])) acts.rex_mov refl (λ old new f a v. rex_acts 0x8b Word Set a v old new (own_at (of_field (with_slot 0x8b Word Set rex) 3 AddressInSlot (r_x86_64_rex_gotpcrelx ∷ [])) 0 old new refl refl f) (own_at (of_field (with_slot 0x8b Word Set rex) 3 AddressInSlot (r_x86_64_rex_gotpcrelx ∷ [])) 2 old new refl refl f))

rex_address_add : IsKnown (of_field (with_slot 0x03 Word Add rex) 3 AddressInSlot (r_x86_64_rex_gotpcrelx ∷ []))
rex_address_add = known (of_field (with_slot 0x03 Word Add rex) 3 AddressInSlot (r_x86_64_rex_gotpcrelx ∷ [])) acts.rex_add refl (λ old new f a v. rex_acts 0x03 Word Add a v old new (own_at (of_field (with_slot 0x03 Word Add rex) 3 AddressInSlot (r_x86_64_rex_gotpcrelx ∷ [])) 0 old new refl refl f) (own_at (of_field (with_slot 0x03 Word Add rex) 3 AddressInSlot (r_x86_64_rex_gotpcrelx ∷ [])) 2 old new refl refl f))

rex_address_sub : IsKnown (of_field (with_slot 0x2b Word Subtract rex) 3 AddressInSlot (r_x86_64_rex_gotpcrelx ∷ []))
rex_address_sub = known (of_field (with_slot 0x2b Word Subtract rex) 3 AddressInSlot (r_x86_64_rex_gotpcrelx ∷ [])) acts.rex_sub refl (λ old new f a v. rex_acts 0x2b Word Subtract a v old new (own_at (of_field (with_slot 0x2b Word Subtract rex) 3 AddressInSlot (r_x86_64_rex_gotpcrelx ∷ [])) 0 old new refl refl f) (own_at (of_field (with_slot 0x2b Word Subtract rex) 3 AddressInSlot (r_x86_64_rex_gotpcrelx ∷ [])) 2 old new refl refl f))

rex_address_cmp : IsKnown (of_field (with_slot 0x3b Word Compare rex) 3 AddressInSlot (r_x86_64_rex_gotpcrelx ∷ []))
rex_address_cmp = known (of_field (with_slot 0x3b Word Compare rex) 3 AddressInSlot (r_x86_64_rex_gotpcrelx ∷ [])) acts.rex_cmp refl (λ old new f a v. rex_acts 0x3b Word Compare a v old new (own_at (of_field (with_slot 0x3b Word Compare rex) 3 AddressInSlot (r_x86_64_rex_gotpcrelx ∷ [])) 0 old new refl refl f) (own_at (of_field (with_slot 0x3b Word Compare rex) 3 AddressInSlot (r_x86_64_rex_gotpcrelx ∷ [])) 2 old new refl refl f))

rex2_address_mov : IsKnown (of_field (with_slot 0x8b Word Set rex2) 4 AddressInSlot (r_x86_64_code_4_gotpcrelx ∷ []))
rex2_address_mov = known (of_field (with_slot 0x8b Word Set rex2) 4 AddressInSlot (r_x86_64_code_4_gotpcrelx ∷ [])) acts.rex2_mov refl (λ old new f a v. rex2_acts 0x8b Word Set a v old new (own_at (of_field (with_slot 0x8b Word Set rex2) 4 AddressInSlot (r_x86_64_code_4_gotpcrelx ∷ [])) 1 old new refl refl f) (own_at (of_field (with_slot 0x8b Word Set rex2) 4 AddressInSlot (r_x86_64_code_4_gotpcrelx ∷ [])) 3 old new refl refl f))

rex2_address_add : IsKnown (of_field (with_slot 0x03 Word Add rex2) 4 AddressInSlot (r_x86_64_code_4_gotpcrelx ∷ []))
rex2_address_add = known (of_field (with_slot 0x03 Word Add rex2) 4 AddressInSlot (r_x86_64_code_4_gotpcrelx ∷ [])) acts.rex2_add refl (λ old new f a v. rex2_acts 0x03 Word Add a v old new (own_at (of_field (with_slot 0x03 Word Add rex2) 4 AddressInSlot (r_x86_64_code_4_gotpcrelx ∷ [])) 1 old new refl refl f) (own_at (of_field (with_slot 0x03 Word Add rex2) 4 AddressInSlot (r_x86_64_code_4_gotpcrelx ∷ [])) 3 old new refl refl f))

rex2_address_sub : IsKnown (of_field (with_slot 0x2b Word Subtract rex2) 4 AddressInSlot (r_x86_64_code_4_gotpcrelx ∷ []))
rex2_address_sub = known (of_field (with_slot 0x2b Word Subtract rex2) 4 AddressInSlot (r_x86_64_code_4_gotpcrelx ∷ [])) acts.rex2_sub refl (λ old new f a v. rex2_acts 0x2b Word Subtract a v old new (own_at (of_field (with_slot 0x2b Word Subtract rex2) 4 AddressInSlot (r_x86_64_code_4_gotpcrelx ∷ [])) 1 old new refl refl f) (own_at (of_field (with_slot 0x2b Word Subtract rex2) 4 AddressInSlot (r_x86_64_code_4_gotpcrelx ∷ [])) 3 old new refl refl f))

rex2_address_cmp : IsKnown (of_field (with_slot 0x3b Word Compare rex2) 4 AddressInSlot (r_x86_64_code_4_gotpcrelx ∷ []))
rex2_address_cmp = known (of_field (with_slot 0x3b Word Compare rex2) 4 AddressInSlot (r_x86_64_code_4_gotpcrelx ∷ [])) acts.rex2_cmp refl (λ old new f a v. rex2_acts 0x3b Word Compare a v old new (own_at (of_field (with_slot 0x3b Word Compare rex2) 4 AddressInSlot (r_x86_64_code_4_gotpcrelx ∷ [])) 1 old new refl refl f) (own_at (of_field (with_slot 0x3b Word Compare rex2) 4 AddressInSlot (r_x86_64_code_4_gotpcrelx ∷ [])) 3 old new refl refl f))

rex_offset_mov : IsKnown (of_field (with_slot 0x8b Word Set rex) 3 OffsetInSlot (r_x86_64_gottpoff ∷ []))
rex_offset_mov = known (of_field (with_slot 0x8b Word Set rex) 3 OffsetInSlot (r_x86_64_gottpoff ∷ [])) acts.rex_mov refl (λ old new f a v. rex_acts 0x8b Word Set a v old new (own_at (of_field (with_slot 0x8b Word Set rex) 3 OffsetInSlot (r_x86_64_gottpoff ∷ [])) 0 old new refl refl f) (own_at (of_field (with_slot 0x8b Word Set rex) 3 OffsetInSlot (r_x86_64_gottpoff ∷ [])) 2 old new refl refl f))

rex_offset_add : IsKnown (of_field (with_slot 0x03 Word Add rex) 3 OffsetInSlot (r_x86_64_gottpoff ∷ []))
rex_offset_add = known (of_field (with_slot 0x03 Word Add rex) 3 OffsetInSlot (r_x86_64_gottpoff ∷ [])) acts.rex_add refl (λ old new f a v. rex_acts 0x03 Word Add a v old new (own_at (of_field (with_slot 0x03 Word Add rex) 3 OffsetInSlot (r_x86_64_gottpoff ∷ [])) 0 old new refl refl f) (own_at (of_field (with_slot 0x03 Word Add rex) 3 OffsetInSlot (r_x86_64_gottpoff ∷ [])) 2 old new refl refl f))

rex2_offset_mov : IsKnown (of_field (with_slot 0x8b Word Set rex2) 4 OffsetInSlot (r_x86_64_code_4_gottpoff ∷ []))
rex2_offset_mov = known (of_field (with_slot 0x8b Word Set rex2) 4 OffsetInSlot (r_x86_64_code_4_gottpoff ∷ [])) acts.rex2_mov refl (λ old new f a v. rex2_acts 0x8b Word Set a v old new (own_at (of_field (with_slot 0x8b Word Set rex2) 4 OffsetInSlot (r_x86_64_code_4_gottpoff ∷ [])) 1 old new refl refl f) (own_at (of_field (with_slot 0x8b Word Set rex2) 4 OffsetInSlot (r_x86_64_code_4_gottpoff ∷ [])) 3 old new refl refl f))

rex2_offset_add : IsKnown (of_field (with_slot 0x03 Word Add rex2) 4 OffsetInSlot (r_x86_64_code_4_gottpoff ∷ []))
rex2_offset_add = known (of_field (with_slot 0x03 Word Add rex2) 4 OffsetInSlot (r_x86_64_code_4_gottpoff ∷ [])) acts.rex2_add refl (λ old new f a v. rex2_acts 0x03 Word Add a v old new (own_at (of_field (with_slot 0x03 Word Add rex2) 4 OffsetInSlot (r_x86_64_code_4_gottpoff ∷ [])) 1 old new refl refl f) (own_at (of_field (with_slot 0x03 Word Add rex2) 4 OffsetInSlot (r_x86_64_code_4_gottpoff ∷ [])) 3 old new refl refl f))

rex_load : IsKnown (of_field (with_slot 0x8b Word Set rex) 3 AddressInSlot (r_x86_64_gotpcrel ∷ []))
rex_load = known (of_field (with_slot 0x8b Word Set rex) 3 AddressInSlot (r_x86_64_gotpcrel ∷ [])) acts.rex_mov refl (λ old new f a v. rex_acts 0x8b Word Set a v old new (own_at (of_field (with_slot 0x8b Word Set rex) 3 AddressInSlot (r_x86_64_gotpcrel ∷ [])) 0 old new refl refl f) (own_at (of_field (with_slot 0x8b Word Set rex) 3 AddressInSlot (r_x86_64_gotpcrel ∷ [])) 2 old new refl refl f))

rex2_load : IsKnown (of_field (with_slot 0x8b Word Set rex2) 4 AddressInSlot (r_x86_64_gotpcrel ∷ []))
rex2_load = known (of_field (with_slot 0x8b Word Set rex2) 4 AddressInSlot (r_x86_64_gotpcrel ∷ [])) acts.rex2_mov refl (λ old new f a v. rex2_acts 0x8b Word Set a v old new (own_at (of_field (with_slot 0x8b Word Set rex2) 4 AddressInSlot (r_x86_64_gotpcrel ∷ [])) 1 old new refl refl f) (own_at (of_field (with_slot 0x8b Word Set rex2) 4 AddressInSlot (r_x86_64_gotpcrel ∷ [])) 3 old new refl refl f))

rex_descriptor : IsKnown (of_field (with_slot 0x8d Number Set rex) 3 Described (r_x86_64_gotpc32_tlsdesc ∷ []))
rex_descriptor = known (of_field (with_slot 0x8d Number Set rex) 3 Described (r_x86_64_gotpc32_tlsdesc ∷ [])) acts.rex_lea refl (λ old new f a v. rex_acts 0x8d Number Set a v old new (own_at (of_field (with_slot 0x8d Number Set rex) 3 Described (r_x86_64_gotpc32_tlsdesc ∷ [])) 0 old new refl refl f) (own_at (of_field (with_slot 0x8d Number Set rex) 3 Described (r_x86_64_gotpc32_tlsdesc ∷ [])) 2 old new refl refl f))

rex2_descriptor : IsKnown (of_field (with_slot 0x8d Number Set rex2) 4 Described (r_x86_64_code_4_gotpc32_tlsdesc ∷ []))
rex2_descriptor = known (of_field (with_slot 0x8d Number Set rex2) 4 Described (r_x86_64_code_4_gotpc32_tlsdesc ∷ [])) acts.rex2_lea refl (λ old new f a v. rex2_acts 0x8d Number Set a v old new (own_at (of_field (with_slot 0x8d Number Set rex2) 4 Described (r_x86_64_code_4_gotpc32_tlsdesc ∷ [])) 1 old new refl refl f) (own_at (of_field (with_slot 0x8d Number Set rex2) 4 Described (r_x86_64_code_4_gotpc32_tlsdesc ∷ [])) 3 old new refl refl f))

through_descriptor : IsKnown (record { template = descriptor_call; words = any_words; field = 0; width = 0; sort = DescribedCall; numbers = r_x86_64_tlsdesc_call ∷ []; partners = []; conditions = [] })
through_descriptor = known (record { template = descriptor_call; words = any_words; field = 0; width = 0; sort = DescribedCall; numbers = r_x86_64_tlsdesc_call ∷ []; partners = []; conditions = [] }) acts.call_described refl (λ old new f a v. refl)

general_by_call : IsKnown (of_sequence general_call 4 SymbolPair r_x86_64_tlsgd of_symbol (by_call 12))
general_by_call = known (of_sequence general_call 4 SymbolPair r_x86_64_tlsgd of_symbol (by_call 12)) acts.general refl (λ old new f a v. refl)

general_by_slot : IsKnown (of_sequence general_slot_call 4 SymbolPair r_x86_64_tlsgd of_symbol (by_slot 12))
general_by_slot = known (of_sequence general_slot_call 4 SymbolPair r_x86_64_tlsgd of_symbol (by_slot 12)) acts.general_slot refl (λ old new f a v. refl)

general_by_distance : IsKnown (of_sequence far_pair_call 3 SymbolPair r_x86_64_tlsgd of_symbol (by_distance 9))
general_by_distance = known (of_sequence far_pair_call 3 SymbolPair r_x86_64_tlsgd of_symbol (by_distance 9)) acts.far refl (λ old new f a v. refl)

own_by_call : IsKnown (of_sequence local_call 3 OwnPair r_x86_64_tlsld of_output (by_call 8))
own_by_call = known (of_sequence local_call 3 OwnPair r_x86_64_tlsld of_output (by_call 8)) acts.local refl (λ old new f a v. refl)

own_by_slot : IsKnown (of_sequence local_slot_call 3 OwnPair r_x86_64_tlsld of_output (by_slot 9))
own_by_slot = known (of_sequence local_slot_call 3 OwnPair r_x86_64_tlsld of_output (by_slot 9)) acts.local_slot refl (λ old new f a v. refl)

own_by_distance : IsKnown (of_sequence far_pair_call 3 OwnPair r_x86_64_tlsld of_output (by_distance 9))
own_by_distance = known (of_sequence far_pair_call 3 OwnPair r_x86_64_tlsld of_output (by_distance 9)) acts.far refl (λ old new f a v. refl)

-- ---- all of them

abbrev pub Each : (Instruction → Type 0) → List Instruction → Type 0
Each P [] = ⊤
Each P (o ∷ os) = P o × Each P os

pub each_at : (P : Instruction → Type 0) (os : List Instruction) (o : Instruction) → Each P os → (k : ℕ) → k < length os → get_or os k o ≡ o → P o
each_at P [] o h k lt e = absurd (omega arith)
each_at P (x ∷ os) o h zero lt e = subst P e h.0
each_at P (x ∷ os) o h (suc k) lt e = each_at P os o h.1 k (omega arith) e

every : Each IsKnown (instructions_of machine.X86_64)
every = (near_call, (near_jump, (through_call, (through_jump, (bare_address_mov, (bare_address_add, (bare_address_sub, (bare_address_cmp, (rex_address_mov, (rex_address_add, (rex_address_sub, (rex_address_cmp, (rex2_address_mov, (rex2_address_add, (rex2_address_sub, (rex2_address_cmp, (rex_offset_mov, (rex_offset_add, (rex2_offset_mov, (rex2_offset_add, (rex_load, (rex2_load, (rex_descriptor, (rex2_descriptor, (through_descriptor, (general_by_call, (general_by_slot, (general_by_distance, (own_by_call, (own_by_slot, (own_by_distance, tt)))))))))))))))))))))))))))))))

pub instructions_do : FilledInstructionsDo
instructions_do o read a v old new listed f r = does_of o read a v old new (each_at IsKnown (instructions_of machine.X86_64) o every listed.0 listed.1 listed.2) f r
