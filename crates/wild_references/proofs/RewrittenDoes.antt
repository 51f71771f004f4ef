-- Each row: the code that it writes does what the instruction demands.
use Rattle.wild_references.proofs.Common.{◌≡◌, ℕ, ◌+◌, ◌^◌, ◌<◌, ◌⊎◌, inl, inr, Bool, true, false, List, refl, sym, ap, ◌∙◌, arith, subst, length, pos, ◌==◌, ◌&&◌, ◌||◌, not, if◌then◌else◌, Some, slice_get, cases_Bool, and_parts, or_cases, eqb-true, not-true, or_other, implied, listed_passes, list_all, r_x86_64_none, r_x86_64_pc32, r_x86_64_gottpoff, InputRelocation, Layout, KeepsAll, has_flag, interposable, has_link_time_address, absolute, ifunc, is_executable, is_static_executable, has_fixed_load_address, flags_at, x86_64_row, Signed, ValueTest, Row, Question, minus_four, rows_x86_64, takes_value, is_mandatory, is_skip, rewrite_of, keeps_bytes, field_in, template_of, distance, template_start, Memory, World, Holds, IsMovable, IsAbsolute, Item, place_at, Effect, Reader, sum_64, effect_x86_64, demand_x86_64, Instruction, size_of, Sort, TargetInSlot, AddressInSlot, OffsetInSlot, SymbolPair, OwnPair, Described, DescribedCall, reads_without_calls, demand_of, Demands, IsDemanded, old_bytes, Number, Word, reads_numbers, IsOffset, HasOffsetMode, question_of, applied, IsLoadedItem}
use Rattle.wild_records.specs.Abi.Relocation.{r_x86_64_32, r_x86_64_32s, r_x86_64_tpoff32}
use Rattle.wild_types.specs.declared.kind.Machine.TheVariants as machine
use Rattle.wild_reloc.specs.declared.range.Sign.TheVariants.{Unsigned}
use Rattle.wild_relax.specs.declared.row.ValueTest.TheVariants as value
use Rattle.wild_relax.specs.declared.row.Made.{Made}
use Rattle.wild_relax.specs.declared.row.Made.TheVariants.{Nop}
use Rattle.wild_relax.specs.declared.row.Written.{Written}
use Rattle.wild_relax.specs.declared.row.Written.TheVariants as written
use Rattle.wild_relax.specs.Question.{is_own, is_known}
use Rattle.wild_relax.specs.RowSymbols.{is_in_32}
use Rattle.wild_relax.specs.RewriteX86_64.{change_of, addend_by, number_written}
use Rattle.wild_relax.proofs.RewriteLemmas.{code_high}
use Rattle.wild_relax.specs.KeepX86_64.{FieldIsRight, demanded}
use Rattle.wild_meaning.specs.Template.{no_effect}
use Rattle.wild_relax.proofs.RowLemmas.{signed_32s, unsigned_32}
use Rattle.wild_references.proofs.RewrittenReads.{IsDone, ReadsOnlySlots, no_slots, reads_only}
use Rattle.wild_meaning.proofs.SymbolLemmas.{target_of, slot_address_of}
use Rattle.wild_references.proofs.RewrittenForms.{instruction_of}
use Rattle.wild_references.proofs.RewrittenPairs.{paired}
use Rattle.wild_references.proofs.RewrittenPlaces.{LawsBelow, IsPlacedRow, is_code, mandatory_static}
use Rattle.wild_references.proofs.RewrittenTemplates.{is_plain, plain_taken}
use Rattle.wild_references.proofs.RewrittenInInput.{called}
use Rattle.wild_references.proofs.RewrittenTerms.{info_is}
use Rattle.wild_references.proofs.RewrittenValues.{known_still}
use Rattle.wild_references.proofs.RewrittenOperands.{LandsFar, LandsItself, not_absolute, not_moved, lands_far, lands_itself}
use Rattle.wild_references.proofs.RewrittenThreads.{LandsOffset, LandsSlot, lands_offset, lands_slot, offset_mode, own_base}
use Rattle.wild_references.proofs.RewrittenEffects.{old_of, effect_kept, on_machine, whole_is, does_by}

-- the row's code does what the instruction demands, and reads no word but the slot of the symbol's offset
abbrev pub DoesRow : Layout → World → Memory → Item → InputRelocation → Row → Type 0
DoesRow l w m s r row = IsDone machine.X86_64 l w m s r (template_start row r) (instruction_of row)

-- ---- addresses

-- of an own symbol that may move
lea_far : LawsBelow → (l : Layout) (w : World) (m : Memory) (s : Item) (i : ℕ) (r : InputRelocation) (row : Row) (v : ℕ) → IsLoadedItem machine.X86_64 l w m s → KeepsAll l → (p : IsPlacedRow l s i r row v) → (rewrite_of row).number ≡ 2 → (rewrite_of row).addend r.addend ≡ r.addend → minus_four r.addend ≡ true → not (has_flag (flags_at l p.chosen.symbol) ifunc) ≡ true
    → (not (interposable (flags_at l p.chosen.symbol)) && not (has_flag (flags_at l p.chosen.symbol) absolute || has_link_time_address (flags_at l p.chosen.symbol) && has_fixed_load_address l.kind)) ≡ true → LandsFar l w m s r row v
lea_far laws l w m s i r row v h all p number same ends plain value =
    let k = p.chosen.symbol in
    let t = and_parts (not (interposable (flags_at l k))) _ value in
    lands_far laws l w m s i r row v h all p number same ends (not-true _ t.0) (not-true _ plain) (λ movable abs. absurd (not_absolute l k t.1 abs))

pub plain_far : LawsBelow → (l : Layout) (w : World) (m : Memory) (s : Item) (i : ℕ) (r : InputRelocation) (row : Row) (v : ℕ) → IsLoadedItem machine.X86_64 l w m s → KeepsAll l → (p : IsPlacedRow l s i r row v) → (rewrite_of row).number ≡ 2 → (rewrite_of row).addend r.addend ≡ r.addend → minus_four r.addend ≡ true → not (has_flag (flags_at l p.chosen.symbol) ifunc) ≡ true
    → (not (interposable (flags_at l p.chosen.symbol)) && (has_link_time_address (flags_at l p.chosen.symbol) || has_fixed_load_address l.kind)) ≡ true → LandsFar l w m s r row v
plain_far laws l w m s i r row v h all p number same ends plain value =
    let k = p.chosen.symbol in
    let t = and_parts (not (interposable (flags_at l k))) _ value in
    lands_far laws l w m s i r row v h all p number same ends (not-true _ t.0) (not-true _ plain) (λ movable abs. absurd (not_moved l k t.1 movable abs))

-- of one whose value is known
number_itself : LawsBelow → (l : Layout) (w : World) (m : Memory) (s : Item) (i : ℕ) (r : InputRelocation) (row : Row) (v : ℕ) (held : Bool) → IsLoadedItem machine.X86_64 l w m s → KeepsAll l → (p : IsPlacedRow l s i r row v) → ((rewrite_of row).number ≡ 11) ⊎ ((rewrite_of row).number ≡ 10) → (rewrite_of row).addend r.addend ≡ pos 0 → not (has_flag (flags_at l p.chosen.symbol) ifunc) ≡ true
    → (not (interposable (flags_at l p.chosen.symbol)) && ((has_flag (flags_at l p.chosen.symbol) absolute || has_link_time_address (flags_at l p.chosen.symbol) && has_fixed_load_address l.kind) && held)) ≡ true → LandsItself l w m r v
number_itself laws l w m s i r row v held h all p number none plain value =
    let k = p.chosen.symbol in
    let t = and_parts (not (interposable (flags_at l k))) _ value in
    let still = known_still l k (and_parts _ held t.1).0 in
    let known = info_is l w m s i r row v h p in
    elim number [
      | inl e ↦ lands_itself laws l w m s i r row v Signed h all p (signed_32s p.made.written.info (sym (subst (λ (n : ℕ). x86_64_row n ≡ Some p.made.written.info) e known))) none (not-true _ t.0) (not-true _ plain) still
      | inr e ↦ lands_itself laws l w m s i r row v Unsigned h all p (unsigned_32 p.made.written.info (sym (subst (λ (n : ℕ). x86_64_row n ≡ Some p.made.written.info) e known))) none (not-true _ t.0) (not-true _ plain) still
    ]

-- ---- offsets from the thread pointer

-- an own symbol's offset, in a program
own_offset : LawsBelow → (l : Layout) (w : World) (m : Memory) (s : Item) (i : ℕ) (r : InputRelocation) (row : Row) (v : ℕ) → IsLoadedItem machine.X86_64 l w m s → KeepsAll l → (p : IsPlacedRow l s i r row v) → (rewrite_of row).number ≡ 23 → (rewrite_of row).addend r.addend ≡ pos 0 → is_executable l.kind ≡ true → not (interposable (flags_at l p.chosen.symbol)) ≡ true → LandsOffset l w r v
own_offset laws l w m s i r row v h all p number none program own = lands_offset laws l w m s i r row v h all p number none program (not-true _ own)

-- a sequence's addend counts from its end
sequence_ends : (l : Layout) (s : Item) (i : ℕ) (r : InputRelocation) (row : Row) (v : ℕ) → IsPlacedRow l s i r row v → is_skip (rewrite_of row).next ≡ true → minus_four r.addend ≡ true
sequence_ends l s i r row v p skips = (let pair = paired row p.changing skips in (called l s row r p.chosen.symbol pair.distance (slice_get s.relocations (i + 1)) pair.behind p.stands.taken.partner).2.ends)

-- ---- the rows

-- where code goes through a slot, its symbol's value does not stand still beside a base
abbrev pub GoesWithBase : Layout → World → Row → ℕ → Type 0
GoesWithBase l w row k = (instruction_of row).sort ≡ TargetInSlot → IsMovable l.kind → IsAbsolute l k → w.base ≡ 0

-- ---- how a field lands

lands_far_as : (w : Written) (read : Reader) (place n v : ℕ) → number_written w ≡ r_x86_64_pc32 → v ≡ distance n place → FieldIsRight w read place n v
lands_far_as written.Pc32 read place n v e h = h
lands_far_as (written.Code d goal) read place n v e h = absurd (let high = code_high d in omega (arith, high, e))
lands_far_as other read place n v e h = cc

abbrev is_itself : Written → Bool
is_itself written.Signed32 = true
is_itself written.Unsigned32 = true
is_itself written.TpOff32 = true
is_itself other = false

lands_as : (w : Written) (read : Reader) (place n v : ℕ) → is_itself w ≡ true → v ≡ n → FieldIsRight w read place n v
lands_as written.Signed32 read place n v e h = h
lands_as written.Unsigned32 read place n v e h = h
lands_as written.TpOff32 read place n v e h = h
lands_as other read place n v e h = cc

lands_slot_as : (w : Written) (read : Reader) (place n v : ℕ) → number_written w ≡ r_x86_64_gottpoff → read (Word (sum_64 (place + 4) v)) ≡ Some n → FieldIsRight w read place n v
lands_slot_as written.GotTpOff read place n v e h = h
lands_slot_as (written.Code d goal) read place n v e h = absurd (let high = code_high d in omega (arith, high, e))
lands_slot_as other read place n v e h = cc

lands_start : (w : Written) (read : Reader) (place v : ℕ) → number_written w ≡ r_x86_64_none → FieldIsRight w read place 0 v
lands_start written.Nothing read place v e = refl
lands_start (written.Code d goal) read place v e = absurd (let high = code_high d in omega (arith, high, e))
lands_start other read place v e = cc

-- ---- what is demanded

abbrev is_nop : Made → Bool
is_nop Nop = true
is_nop other = false

demanded_as : (m : Made) (n a : ℕ) (old : List ℕ) → is_nop m ≡ false → demanded m n a old ≡ demand_x86_64 n a old
demanded_as Nop n a old h = cc
demanded_as other n a old h = refl

demanded_none : (m : Made) (n a : ℕ) (old : List ℕ) → is_nop m ≡ true → demanded m n a old ≡ Some no_effect
demanded_none Nop n a old h = refl
demanded_none other n a old h = cc

-- ---- what each row has

abbrev writes : ℕ → Row → Bool
writes n row = number_written row.written == n

abbrev counts_ends : Row → Bool
counts_ends row = (change_of row.made).keeps_addend && ((row.ends || row.needs_end) || is_skip (rewrite_of row).next)

abbrev counts_none : Row → Bool
counts_none row = not (change_of row.made).keeps_addend && is_itself row.written

-- by what the instruction is about, and which values the row takes
abbrev does_so : Sort → ValueTest → Row → Bool
does_so AddressInSlot value.OwnSigned row = writes r_x86_64_32s row && counts_none row
does_so AddressInSlot value.OwnUnsigned row = writes r_x86_64_32 row && counts_none row
does_so AddressInSlot value.OwnMoving row = writes r_x86_64_pc32 row && counts_ends row
does_so AddressInSlot value.OwnFixed row = writes r_x86_64_pc32 row && counts_ends row
does_so TargetInSlot value.Own row = writes r_x86_64_pc32 row && counts_ends row
does_so OffsetInSlot value.Own row = writes r_x86_64_tpoff32 row && counts_none row
does_so SymbolPair value.Own row = writes r_x86_64_tpoff32 row && counts_none row
does_so Described value.Own row = writes r_x86_64_tpoff32 row && counts_none row
does_so SymbolPair value.Interposable row = writes r_x86_64_gottpoff row && counts_ends row
does_so Described value.Interposable row = writes r_x86_64_gottpoff row && counts_ends row
does_so OwnPair value.Any row = writes r_x86_64_none row
does_so other t row = false

abbrev pub is_call : Sort → Bool
is_call DescribedCall = true
is_call other = false

abbrev is_thread : Sort → Bool
is_thread AddressInSlot = false
is_thread TargetInSlot = false
is_thread other = true

-- a call that is left out
abbrev left_well : Row → Bool
left_well row = is_nop row.made && writes r_x86_64_none row

-- any other instruction is of a symbol that no resolver answers for
abbrev acts_well : Row → Bool
acts_well row = not (is_nop row.made) && (is_plain row.symbol && does_so (instruction_of row).sort row.value row)

-- a call through a descriptor is left out
abbrev does_well : Row → Bool
does_well row = keeps_bytes row || ((not (is_thread (instruction_of row).sort) || row.thread_local) && (if is_call (instruction_of row).sort then left_well row else acts_well row))

each_does_well : list_all does_well rows_x86_64 ≡ true
unfolding rows_x86_64
each_does_well = refl

-- where rewriting is on, or there is no loader
on_where : (relax must static : Bool) → (relax || must) ≡ true → (must ≡ true → static ≡ true) → static ≡ false → relax ≡ true
on_where true must static h f e = refl
on_where false true static h f e = (let t = f refl in cc)
on_where false false static h f e = cc

-- what is written has the demanded effect, for any reader of operands
effect_as : LawsBelow → (l : Layout) (w : World) (m : Memory) (s : Item) (i : ℕ) (r : InputRelocation) (row : Row) (v n : ℕ) (e : Effect) → IsLoadedItem machine.X86_64 l w m s → IsPlacedRow l s i r row v → n < 2 ^ 64 → ((read : Reader) → FieldIsRight row.written read (place_at w s (template_start row r) + field_in row) n v)
    → ((a : ℕ) (old : List ℕ) → demanded row.made n a old ≡ Some e) → (read : Reader) → ((k : ℕ) → read (Number k) ≡ Some k) → effect_x86_64 read (place_at w s (template_start row r)) (template_of row v (old_of s row r)) ≡ Some e
effect_as laws l w m s i r row v n e h p small lands asks read numbers =
    let a = place_at w s (template_start row r) in
    effect_kept laws read numbers l w m s i r row v n a h p small (lands read) ∙ asks a (old_of s row r)

chosen_first : (b x y : Bool) → b ≡ true → (if b then x else y) ≡ true → x ≡ true
chosen_first true x y e h = h
chosen_first false x y e h = cc

chosen_second : (b x y : Bool) → b ≡ false → (if b then x else y) ≡ true → y ≡ true
chosen_second true x y e h = cc
chosen_second false x y e h = h

-- ---- what is known of the row that was chosen

record IsWell (row : Row) : Type 0 where
  thread : (not (is_thread (instruction_of row).sort) || row.thread_local) ≡ true
  does : (if is_call (instruction_of row).sort then left_well row else acts_well row) ≡ true

well_chosen : (l : Layout) (s : Item) (i : ℕ) (r : InputRelocation) (row : Row) (v : ℕ) → IsPlacedRow l s i r row v → IsWell row
well_chosen l s i r row v p =
    let does = if is_call (instruction_of row).sort then left_well row else acts_well row in
    let thread = not (is_thread (instruction_of row).sort) || row.thread_local in
    let both = and_parts thread does (or_other (keeps_bytes row) (thread && does) (listed_passes does_well rows_x86_64 row each_does_well p.changing.listed) p.made.changes) in
    record { thread = both.0; does = both.1 }

left_code : (row : Row) → IsWell row → is_call (instruction_of row).sort ≡ true → left_well row ≡ true
left_code row h call = chosen_first (is_call (instruction_of row).sort) (left_well row) (acts_well row) call h.does

acting_code : (row : Row) → IsWell row → is_call (instruction_of row).sort ≡ false → acts_well row ≡ true
acting_code row h other = chosen_second (is_call (instruction_of row).sort) (left_well row) (acts_well row) other h.does

-- thread-local code is rewritten in programs only, where references to descriptors are offsets
thread_program : (l : Layout) (s : Item) (i : ℕ) (r : InputRelocation) (row : Row) (v : ℕ) → IsPlacedRow l s i r row v → is_thread (instruction_of row).sort ≡ true → is_executable l.kind ≡ true
thread_program l s i r row v p t = implied row.thread_local (is_executable l.kind) p.stands.taken.thread (implied (is_thread (instruction_of row).sort) row.thread_local (well_chosen l s i r row v p).thread t)

thread_mode : (l : Layout) (w : World) (m : Memory) (s : Item) (i : ℕ) (r : InputRelocation) (row : Row) (v : ℕ) → IsLoadedItem machine.X86_64 l w m s → IsPlacedRow l s i r row v → is_thread (instruction_of row).sort ≡ true → HasOffsetMode l s
thread_mode l w m s i r row v h p t =
    let q = question_of l s r p.chosen.symbol (slice_get s.relocations (i + 1)) in
    offset_mode l s h.on (thread_program l s i r row v p t) (on_where l.options.relax (is_mandatory row.duty q) (is_static_executable l.kind) (applied q row p.stands.here).on (mandatory_static row q p.changing)) (is_code l s i r row v p)

-- where an addend counts from the end, and where it is none
ends_there : (l : Layout) (s : Item) (i : ℕ) (r : InputRelocation) (row : Row) (v : ℕ) → IsPlacedRow l s i r row v → counts_ends row ≡ true → minus_four r.addend ≡ true
ends_there l s i r row v p e = elim (or_cases (row.ends || row.needs_end) (is_skip (rewrite_of row).next) (and_parts (change_of row.made).keeps_addend ((row.ends || row.needs_end) || is_skip (rewrite_of row).next) e).1) [
  | inl t ↦ implied (row.ends || row.needs_end) (minus_four r.addend) p.stands.taken.addend t
  | inr skips ↦ sequence_ends l s i r row v p skips
]

addend_none : (r : InputRelocation) (row : Row) → counts_none row ≡ true → (rewrite_of row).addend r.addend ≡ pos 0
addend_none r row e = ap (λ (b : Bool). addend_by b r.addend) (not-true (change_of row.made).keeps_addend (and_parts (not (change_of row.made).keeps_addend) (is_itself row.written) e).0)

addend_kept : (r : InputRelocation) (row : Row) → counts_ends row ≡ true → (rewrite_of row).addend r.addend ≡ r.addend
addend_kept r row e = ap (λ (b : Bool). addend_by b r.addend) (and_parts (change_of row.made).keeps_addend ((row.ends || row.needs_end) || is_skip (rewrite_of row).next) e).0

itself_there : (row : Row) → counts_none row ≡ true → is_itself row.written ≡ true
itself_there row e = (and_parts (not (change_of row.made).keeps_addend) (is_itself row.written) e).1

-- what a call that is left out demands
zero_is_demanded : (o : Sort) (l : Layout) (w : World) (m : Memory) (s : Item) (r : InputRelocation) (n : ℕ) → o ≡ DescribedCall → n ≡ 0 → Demands o l w m s r n
zero_is_demanded o l w m s r n e z = subst (λ (x : Sort). Demands x l w m s r n) (sym e) z

nothing_is_demanded : (o : Sort) (l : Layout) (s : Item) (n a : ℕ) (old : List ℕ) (e : Effect) → o ≡ DescribedCall → HasOffsetMode l s → e ≡ no_effect → IsDemanded o l s n a old e
nothing_is_demanded o l s n a old e call offsets nothing = subst (λ (x : Sort). IsDemanded x l s n a old e) (sym call) (inl (offsets, nothing))

-- code that has the same effect for every reader of operands does what is demanded, and reads no other word
does_always : (l : Layout) (w : World) (m : Memory) (s : Item) (r : InputRelocation) (start : ℕ) (o : Instruction) (bytes : List ℕ) (n : ℕ) (e : Effect) (only : Reader) → ReadsOnlySlots l w r.symbol only → l.machine ≡ machine.X86_64 → length bytes ≡ size_of o → Holds m (place_at w s start) bytes
    → ((read : Reader) → ((k : ℕ) → read (Number k) ≡ Some k) → effect_x86_64 read (place_at w s start) bytes ≡ Some e) → Demands o.sort l w m s r n → IsDemanded o.sort l s n (place_at w s start) (old_bytes s start o) e → IsDone machine.X86_64 l w m s r start o
does_always l w m s r start o bytes n e only reads on whole held does demands demanded = record {
  words = reads_only only l w m s r start o bytes e reads whole held (does only reads.numbers);
  does = record {
    value = n;
    demands = demands;
    code = record {
      effect = e;
      demanded = demanded;
      bytes = bytes;
      whole = whole;
      held = held;
      does = on_machine l.machine (reads_without_calls w m) (place_at w s start) bytes on ∙ does (reads_without_calls w m) (λ k. refl);
    };
  };
}

-- where the row's field is in memory
abbrev field_place : World → Item → InputRelocation → Row → ℕ
field_place w s r row = place_at w s (template_start row r) + field_in row

-- with an operand that is right for some reader of no other word, the row's code does what is demanded
does_operand : LawsBelow → (l : Layout) (w : World) (m : Memory) (s : Item) (i : ℕ) (r : InputRelocation) (row : Row) (v n : ℕ) (o : Sort) → IsLoadedItem machine.X86_64 l w m s → IsPlacedRow l s i r row v → (instruction_of row).sort ≡ o → is_nop row.made ≡ false → Demands o l w m s r n → n < 2 ^ 64
    → FieldIsRight row.written (reads_without_calls w m) (field_place w s r row) n v → (only : Reader) → ReadsOnlySlots l w r.symbol only → FieldIsRight row.written only (field_place w s r row) n v → ((a : ℕ) (old : List ℕ) (e : Effect) → demand_of l.machine n a old ≡ Some e → IsDemanded o l s n a old e) → DoesRow l w m s r row
does_operand laws l w m s i r row v n o h p sort acts demands small lands only reads lands_only told =
    does_by laws l w m s i r row v n h p (subst (λ (x : Sort). Demands x l w m s r n) (sym sort) demands) small lands only reads lands_only (λ a old. demanded_as row.made n a old acts)
    (λ a old e k. subst (λ (x : Sort). IsDemanded x l s n a old e) (sym sort) (told a old e k))

-- the same with an operand that is right for every reader, so in the code itself
does_number : LawsBelow → (l : Layout) (w : World) (m : Memory) (s : Item) (i : ℕ) (r : InputRelocation) (row : Row) (v n : ℕ) (o : Sort) → IsLoadedItem machine.X86_64 l w m s → IsPlacedRow l s i r row v → (instruction_of row).sort ≡ o → is_nop row.made ≡ false → Demands o l w m s r n → n < 2 ^ 64
    → ((read : Reader) → FieldIsRight row.written read (field_place w s r row) n v) → ((a : ℕ) (old : List ℕ) (e : Effect) → demand_of l.machine n a old ≡ Some e → IsDemanded o l s n a old e) → DoesRow l w m s r row
does_number laws l w m s i r row v n o h p sort acts demands small lands told = does_operand laws l w m s i r row v n o h p sort acts demands small (lands (reads_without_calls w m)) reads_numbers (no_slots l w r.symbol) (lands reads_numbers) told

-- a call that is left out
does_nothing : LawsBelow → (l : Layout) (w : World) (m : Memory) (s : Item) (i : ℕ) (r : InputRelocation) (row : Row) (v n : ℕ) (e : Effect) → IsLoadedItem machine.X86_64 l w m s → IsPlacedRow l s i r row v → n < 2 ^ 64 → n ≡ 0 → e ≡ no_effect → (instruction_of row).sort ≡ DescribedCall → HasOffsetMode l s
    → ((read : Reader) → FieldIsRight row.written read (field_place w s r row) n v) → ((a : ℕ) (old : List ℕ) → demanded row.made n a old ≡ Some e) → DoesRow l w m s r row
does_nothing laws l w m s i r row v n e h p small zero nothing call offsets lands asks =
    does_always l w m s r (template_start row r) (instruction_of row) (template_of row v (old_of s row r)) n e reads_numbers (no_slots l w r.symbol) h.on (whole_is l w m s i r row v h p) (h.item.rewritten i r row v p.has) (effect_as laws l w m s i r row v n e h p small lands asks)
    (zero_is_demanded (instruction_of row).sort l w m s r n call zero) (nothing_is_demanded (instruction_of row).sort l s n (place_at w s (template_start row r)) (old_bytes s (template_start row r) (instruction_of row)) e call offsets nothing)

-- what an offset of the symbol demands
abbrev OffsetDemands : Sort → Layout → World → Memory → Item → InputRelocation → Type 0
OffsetDemands o l w m s r = (n : ℕ) → IsOffset l w r.symbol n → Demands o l w m s r n

-- the demanded effect is that of the input's code with the operand
abbrev DemandsOperand : Sort → Layout → Item → Type 0
DemandsOperand o l s = (n a : ℕ) (old : List ℕ) (e : Effect) → demand_of l.machine n a old ≡ Some e → IsDemanded o l s n a old e

-- an operand in the slot of the symbol's offset
does_slot : LawsBelow → (l : Layout) (w : World) (m : Memory) (s : Item) (i : ℕ) (r : InputRelocation) (row : Row) (v : ℕ) (o : Sort) → IsLoadedItem machine.X86_64 l w m s → IsPlacedRow l s i r row v → LandsSlot l w m s r row v → number_written row.written ≡ r_x86_64_gottpoff → (instruction_of row).sort ≡ o → is_nop row.made ≡ false → OffsetDemands o l w m s r
    → DemandsOperand o l s → DoesRow l w m s r row
does_slot laws l w m s i r row v o h p x written sort acts demands told =
    does_operand laws l w m s i r row v x.operand o h p sort acts (demands x.operand x.is.offset) x.is.small (lands_slot_as row.written (reads_without_calls w m) (field_place w s r row) x.operand v written x.lands) x.only x.reads (lands_slot_as row.written x.only (field_place w s r row) x.operand v written x.lands_only) (told x.operand)

-- the offset itself
does_offset : LawsBelow → (l : Layout) (w : World) (m : Memory) (s : Item) (i : ℕ) (r : InputRelocation) (row : Row) (v : ℕ) (o : Sort) → IsLoadedItem machine.X86_64 l w m s → IsPlacedRow l s i r row v → LandsOffset l w r v → is_itself row.written ≡ true → (instruction_of row).sort ≡ o → is_nop row.made ≡ false → OffsetDemands o l w m s r → DemandsOperand o l s
    → DoesRow l w m s r row
does_offset laws l w m s i r row v o h p x itself sort acts demands told =
    does_number laws l w m s i r row v x.operand o h p sort acts (demands x.operand x.is.offset) x.is.small (λ read. lands_as row.written read (field_place w s r row) x.operand v itself x.lands) (told x.operand)

-- the symbol's address itself
does_itself : LawsBelow → (l : Layout) (w : World) (m : Memory) (s : Item) (i : ℕ) (r : InputRelocation) (row : Row) (v : ℕ) → IsLoadedItem machine.X86_64 l w m s → IsPlacedRow l s i r row v → LandsItself l w m r v → is_itself row.written ≡ true → (instruction_of row).sort ≡ AddressInSlot → is_nop row.made ≡ false → DoesRow l w m s r row
does_itself laws l w m s i r row v h p x itself sort acts =
    does_number laws l w m s i r row v x.operand AddressInSlot h p sort acts (slot_address_of l w m r.symbol x.operand x.is.target) x.is.small (λ read. lands_as row.written read (field_place w s r row) x.operand v itself x.lands) (λ a old e k. k)

-- the distance to it, in code that loads or computes the address
does_far : LawsBelow → (l : Layout) (w : World) (m : Memory) (s : Item) (i : ℕ) (r : InputRelocation) (row : Row) (v : ℕ) → IsLoadedItem machine.X86_64 l w m s → IsPlacedRow l s i r row v → LandsFar l w m s r row v → number_written row.written ≡ r_x86_64_pc32 → (instruction_of row).sort ≡ AddressInSlot → is_nop row.made ≡ false → DoesRow l w m s r row
does_far laws l w m s i r row v h p x written sort acts =
    does_number laws l w m s i r row v x.operand AddressInSlot h p sort acts (slot_address_of l w m r.symbol x.operand x.is.target) x.is.small (λ read. lands_far_as row.written read (field_place w s r row) x.operand v written x.lands) (λ a old e k. k)

-- and in a branch
does_branch : LawsBelow → (l : Layout) (w : World) (m : Memory) (s : Item) (i : ℕ) (r : InputRelocation) (row : Row) (v : ℕ) → IsLoadedItem machine.X86_64 l w m s → IsPlacedRow l s i r row v → LandsFar l w m s r row v → number_written row.written ≡ r_x86_64_pc32 → (instruction_of row).sort ≡ TargetInSlot → is_nop row.made ≡ false → DoesRow l w m s r row
does_branch laws l w m s i r row v h p x written sort acts =
    does_number laws l w m s i r row v x.operand TargetInSlot h p sort acts (target_of l w m r.symbol x.operand x.is.target) x.is.small (λ read. lands_far_as row.written read (field_place w s r row) x.operand v written x.lands) (λ a old e k. k)

-- what the row writes goes by what is written, but a call that is left out
abbrev pub IsWhole : Layout → Row → Type 0
IsWhole l row = is_call (instruction_of row).sort ≡ false → KeepsAll l

-- the call that is left out does nothing
call_sort : (o : Sort) → is_call o ≡ true → o ≡ DescribedCall
call_sort DescribedCall e = refl
call_sort other e = cc

does_left_out : LawsBelow → (l : Layout) (w : World) (m : Memory) (s : Item) (i : ℕ) (r : InputRelocation) (row : Row) (v : ℕ) → IsLoadedItem machine.X86_64 l w m s → IsPlacedRow l s i r row v → is_call (instruction_of row).sort ≡ true → DoesRow l w m s r row
does_left_out laws l w m s i r row v h p call =
    let sort = call_sort (instruction_of row).sort call in
    let f = and_parts (is_nop row.made) (writes r_x86_64_none row) (left_code row (well_chosen l s i r row v p) call) in
    let nothing = eqb-true (number_written row.written) r_x86_64_none f.1 in
    does_nothing laws l w m s i r row v 0 no_effect h p (omega arith) refl refl sort (thread_mode l w m s i r row v h p (ap is_thread sort)) (λ read. lands_start row.written read (field_place w s r row) v nothing) (λ a old. demanded_none row.made 0 a old f.0)

-- any other instruction
does_acting : LawsBelow → (l : Layout) (w : World) (m : Memory) (s : Item) (i : ℕ) (r : InputRelocation) (row : Row) (v : ℕ) → IsLoadedItem machine.X86_64 l w m s → KeepsAll l → (p : IsPlacedRow l s i r row v) → GoesWithBase l w row p.chosen.symbol → is_call (instruction_of row).sort ≡ false → DoesRow l w m s r row
does_acting laws l w m s i r row v h keeps p asked other =
    let f = and_parts (not (is_nop row.made)) (is_plain row.symbol && does_so (instruction_of row).sort row.value row) (acting_code row (well_chosen l s i r row v p) other) in
    let g = and_parts (is_plain row.symbol) (does_so (instruction_of row).sort row.value row) f.1 in
    let plain : not (has_flag q.flags ifunc) ≡ true = (let e = plain_taken row.symbol q g.0 p.stands.taken.symbol in rw e refl) in
    act keeps (instruction_of row).sort row.value refl refl (not-true (is_nop row.made) f.0) plain (thread_program l s i r row v p) g.1
  where
    q : Question
    q = question_of l s r p.chosen.symbol (slice_get s.relocations (i + 1))

    taken : (t : ValueTest) → row.value ≡ t → takes_value t q ≡ true
    taken t e = subst (λ (x : ValueTest). takes_value x q ≡ true) e p.stands.taken.value

    number : KeepsAll l → (t : ValueTest) (held : Bool) → takes_value t q ≡ (is_own q && (is_known q && held)) → ((rewrite_of row).number ≡ 11) ⊎ ((rewrite_of row).number ≡ 10) → row.value ≡ t → (instruction_of row).sort ≡ AddressInSlot → is_nop row.made ≡ false → not (has_flag q.flags ifunc) ≡ true → counts_none row ≡ true → DoesRow l w m s r row
    number all t held is written takes sort acts plain counts = does_itself laws l w m s i r row v h p (number_itself laws l w m s i r row v held h all p written (addend_none r row counts) plain (sym is ∙ taken t takes)) (itself_there row counts) sort acts

    own : KeepsAll l → (o : Sort) → (instruction_of row).sort ≡ o → row.value ≡ value.Own → is_nop row.made ≡ false → is_executable l.kind ≡ true → (writes r_x86_64_tpoff32 row && counts_none row) ≡ true → OffsetDemands o l w m s r → DemandsOperand o l s → DoesRow l w m s r row
    own all o sort takes acts there so demands told =
        let f = and_parts (writes r_x86_64_tpoff32 row) (counts_none row) so in
        does_offset laws l w m s i r row v o h p (own_offset laws l w m s i r row v h all p (eqb-true (number_written row.written) r_x86_64_tpoff32 f.0) (addend_none r row f.1) there (taken value.Own takes)) (itself_there row f.1) sort acts demands told

    slot : KeepsAll l → (o : Sort) → (instruction_of row).sort ≡ o → is_nop row.made ≡ false → (writes r_x86_64_gottpoff row && counts_ends row) ≡ true → OffsetDemands o l w m s r → DemandsOperand o l s → DoesRow l w m s r row
    slot all o sort acts so demands told =
        let f = and_parts (writes r_x86_64_gottpoff row) (counts_ends row) so in
        let written = eqb-true (number_written row.written) r_x86_64_gottpoff f.0 in
        does_slot laws l w m s i r row v o h p (lands_slot laws l w m s i r row v h all p written (addend_kept r row f.1) (ends_there l s i r row v p f.1)) written sort acts demands told

    act : KeepsAll l → (o : Sort) (t : ValueTest) → (instruction_of row).sort ≡ o → row.value ≡ t → is_nop row.made ≡ false → not (has_flag q.flags ifunc) ≡ true → (is_thread o ≡ true → is_executable l.kind ≡ true) → does_so o t row ≡ true → DoesRow l w m s r row
    act all AddressInSlot value.OwnSigned sort takes acts plain there so = (let f = and_parts (writes r_x86_64_32s row) (counts_none row) so in number all value.OwnSigned (is_in_32 Signed q.value) refl (inl (eqb-true (number_written row.written) r_x86_64_32s f.0)) takes sort acts plain f.1)
    act all AddressInSlot value.OwnUnsigned sort takes acts plain there so = (let f = and_parts (writes r_x86_64_32 row) (counts_none row) so in number all value.OwnUnsigned (is_in_32 Unsigned q.value) refl (inr (eqb-true (number_written row.written) r_x86_64_32 f.0)) takes sort acts plain f.1)
    act all AddressInSlot value.OwnMoving sort takes acts plain there so =
        let f = and_parts (writes r_x86_64_pc32 row) (counts_ends row) so in
        let written = eqb-true (number_written row.written) r_x86_64_pc32 f.0 in
        does_far laws l w m s i r row v h p (lea_far laws l w m s i r row v h all p written (addend_kept r row f.1) (ends_there l s i r row v p f.1) plain (taken value.OwnMoving takes)) written sort acts
    act all AddressInSlot value.OwnFixed sort takes acts plain there so =
        let f = and_parts (writes r_x86_64_pc32 row) (counts_ends row) so in
        let written = eqb-true (number_written row.written) r_x86_64_pc32 f.0 in
        does_far laws l w m s i r row v h p (plain_far laws l w m s i r row v h all p written (addend_kept r row f.1) (ends_there l s i r row v p f.1) plain (taken value.OwnFixed takes)) written sort acts
    act all TargetInSlot value.Own sort takes acts plain there so =
        let f = and_parts (writes r_x86_64_pc32 row) (counts_ends row) so in
        let written = eqb-true (number_written row.written) r_x86_64_pc32 f.0 in
        does_branch laws l w m s i r row v h p (lands_far laws l w m s i r row v h all p written (addend_kept r row f.1) (ends_there l s i r row v p f.1) (not-true (interposable q.flags) (taken value.Own takes)) (not-true (has_flag q.flags ifunc) plain) (λ movable abs. asked sort movable abs)) written sort acts
    act all OffsetInSlot value.Own sort takes acts plain there so = own all OffsetInSlot sort takes acts (there refl) so (λ n k. k) (λ n a old e k. k)
    act all SymbolPair value.Own sort takes acts plain there so = own all SymbolPair sort takes acts (there refl) so (λ n k. k) (λ n a old e k. k)
    act all Described value.Own sort takes acts plain there so = own all Described sort takes acts (there refl) so (λ n k. inl (thread_mode l w m s i r row v h p (ap is_thread sort), k)) (λ n a old e k. k)
    act all SymbolPair value.Interposable sort takes acts plain there so = slot all SymbolPair sort acts so (λ n k. k) (λ n a old e k. k)
    act all Described value.Interposable sort takes acts plain there so = slot all Described sort acts so (λ n k. inl (thread_mode l w m s i r row v h p (ap is_thread sort), k)) (λ n a old e k. k)
    act all OwnPair value.Any sort takes acts plain there so = does_number laws l w m s i r row v 0 OwnPair h p sort acts (own_base l w h.on (there refl)) (omega arith) (λ read. lands_start row.written read (field_place w s r row) v (eqb-true (number_written row.written) r_x86_64_none so)) (λ a old e k. k)
    act all o t sort takes acts plain there so = absurd (let no : false ≡ true = so in cc)

pub does_row : LawsBelow → (l : Layout) (w : World) (m : Memory) (s : Item) (i : ℕ) (r : InputRelocation) (row : Row) (v : ℕ) → IsLoadedItem machine.X86_64 l w m s → IsWhole l row → (p : IsPlacedRow l s i r row v) → GoesWithBase l w row p.chosen.symbol → DoesRow l w m s r row
does_row laws l w m s i r row v h whole p asked = elim (cases_Bool (is_call (instruction_of row).sort)) [
  | inl call ↦ does_left_out laws l w m s i r row v h p call
  | inr other ↦ does_acting laws l w m s i r row v h (whole other) p asked other
]
