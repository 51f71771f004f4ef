-- What an entry stores in a field that is left to it is what the formula of the relocation gives.
use Rattle.wild_references.proofs.Common.{◌≡◌, ℕ, suc, ◌+◌, ◌*◌, ◌/◌, ◌%◌, ◌^◌, ◌<◌, ◌≤◌, ◌-◌, ◌⊎◌, inl, inr, Bool, true, false, List, length, Option, Some, None, Result, Ok, Err, refl, sym, ap, ◌∙◌, arith, subst, FitsSigned, ◌==◌, ◌&&◌, ◌||◌, not, nat_le, nat_lt, option_and_then, option_map, slice_get, w64, cast_unsigned, list_all, cases_Bool, eqb-true, eq-eqb, leb-true, ltb-true, or_cases, word, slice_get_inside, signed_fits, Fault, Machine, Resolution, ValueFlags, InputRelocation, Layout, Treatment, has_dynamic_entry, has_flag, interposable, dynamic, ifunc, absolute, non_interposable, copy_relocation, export_dynamic, is_position_independent, canonical, writable, allocated, row_of, flags_at, needs_symbolic, needs_irelative, address_treatment, kind_treatment, treatment, is_barred, is_narrow, moves, allows, field_width, Formula, formula, Form, Value, Full, Plain, Reads, Keeps, SymbolAddress, Size, x86_64_formula, plain, x86_64_rows, x86_64_row, Irelative, RelocationKind, RelocationKindInfo, RelocationSize, ByteSize, Four, Eight, entry_passes, DynamicField, decided, sum, symbol_size, resolution_of, decided_left, known_extent, known_indirect, known_symbolic, NamesSymbol, RowsAreRead, InMemory, LoadFault, Memory, World, formula_of, IsSymbolAddress, IsSum, Gives, Item, HasRaw, HasOwnValue, HasFlag, HasAnswer, IsReplaceable, may_be_replaced, is_library, IsPlaced, processor_of, NamesStrings}
use Rattle.std.specs.Int.{cast_signed}
use Rattle.std.proofs.lemmas.Int.{of_z-to_z}
use Rattle.wild_words.specs.Words as words
use Rattle.wild_words.proofs.WordLemmas.{number-word, number-word_2, number-word_4}
use Rattle.wild_words.proofs.Basics.{of_if}
use Rattle.wild_records.specs.Abi.Relocation.{r_x86_64_size32, r_x86_64_size64}
use Rattle.wild_types.specs.declared.fault.Missing.TheVariants as missing
use Rattle.wild_types.specs.declared.kind.Machine.TheVariants as machine
use Rattle.wild_slot.specs.declared.treatment.Treatment.TheVariants as treatments
use Rattle.wild_slot.specs.SlotParts.{type_of}
use Rattle.wild_slot.specs.Slots.{is_replaceable}
use Rattle.wild_reloc.specs.Formula.{Unsigned}
use Rattle.wild_reloc.specs.declared.dynamic.DynamicRelocationKind.TheVariants.{Absolute}
use Rattle.wild_reloc.specs.declared.info.RelocationKind.TheVariants as kinds
use Rattle.wild_reloc.specs.declared.range.Sign.TheVariants as row_sign
use Rattle.wild_layout.specs.Decide.{addend_bits, dynamic_decision, ifunc_decision, decide_by}
use Rattle.wild_layout.specs.SlotValues.{index_of, decided_address}
use Rattle.wild_layout.proofs.DecideLemmas.{sized_parts}
use Rattle.wild_slot.proofs.TreatmentLemmas.{has_value, IsLeftToResolver}
use Rattle.wild_geometry.specs.Loaded.{MakesChange, stored_bytes, ReadsFilledField}
use Rattle.wild_loader.specs.Changes.{kind_of, change_of, answer_at}
use Rattle.wild_loader.specs.declared.change.Change.{Change}
use Rattle.wild_loader.specs.declared.change.Change.TheVariants as changes
use Rattle.wild_loader.specs.declared.kind.DynamicKind.TheVariants as works
use Rattle.wild_meaning.specs.Formula.{IsExtent, IsWhole}
use Rattle.wild_references.specs.Laws.{EntriesGive}
use Rattle.wild_references.proofs.AnsweredValues.{has_answer, answered_value, answered_size}
use Rattle.wild_references.proofs.EntryWords.{IsAnsweredBy, after_known, after_step, change_by}
use Rattle.wild_references.proofs.KnownRows.{RowFits, row_fits, size_machine}
use Rattle.wild_references.proofs.Referents.{address_referent}
use Rattle.wild_references.proofs.OutputKinds.{library_is}
use Rattle.wild_references.proofs.SlotFlags.{symbol_fits, resolver_own, listed_at}
use Rattle.wild_references.proofs.Symbols.{IsResolvedBy, resolved, resolved_raw, flags_are, replaceable_at, flag_at, own_size_is, definition_there}
use Rattle.wild_references.proofs.MovingSymbols.{treated_by, peeled}
use Rattle.wild_references.proofs.ValueKinds.{more}
use Rattle.wild_references.proofs.WrittenFields.{row_here, given_some}
use Rattle.wild_loader.specs.declared.memory.Machine.{Machine as Processor}
use Rattle.wild_geometry.proofs.MachineLemmas.{facts_of}
use Rattle.wild_references.proofs.MergedStrings.{open_none, resolver_none}

-- ---- what a decision says of the entry

index_given : (z x : RelocationSize) (number n symbol addend : ℕ) (r : InputRelocation) (i : ℕ) (o : Option ℕ) → dynamic_decision z number r i o ≡ Ok (DynamicField x n symbol addend) → (o ≡ Some symbol) × (number ≡ n) × (addend_bits r ≡ addend)
index_given z x number n symbol addend r i None h = cc
index_given z x number n symbol addend r i (Some index) h =
    let there : index ≡ symbol = cc in
    let same : number ≡ n = cc in
    let more : addend_bits r ≡ addend = cc in
    (ap (λ (k : ℕ). Some k) there, same, more)

-- one with a resolver adds nothing to what that answers
resolver_given : (l : Layout) (x : RelocationSize) (n symbol addend : ℕ) (r : InputRelocation) (a : Result ℕ Fault) → ifunc_decision l r a ≡ Ok (DynamicField x n symbol addend) → (a ≡ Ok addend) × (type_of l.machine Irelative ≡ n) × (addend_bits r ≡ 0) × (0 ≡ symbol)
resolver_given l x n symbol addend r (Err f) h = cc
resolver_given l x n symbol addend r (Ok resolver) h =
    elim (cases_Bool (addend_bits r == 0)) [
      | inr f ↦ cc (rw f at h)
      | inl t ↦
          (let e : Ok (DynamicField (ByteSize Eight) (type_of l.machine Irelative) 0 resolver) ≡ Ok (DynamicField x n symbol addend) = rw t at h in
          let same : type_of l.machine Irelative ≡ n = cc in
          let is : resolver ≡ addend = cc in
          let none : 0 ≡ symbol = cc in
          (ap (λ (k : ℕ). Ok k) is, same, eqb-true _ _ t, none))
    ]

-- what was decided of the symbol, with its index
index_resolved : (l : Layout) (i d : ℕ) → index_of l i ≡ Some d → (r : Resolution) × IsResolvedBy l i r × (r.dynamic_symbol_index ≡ Some d)
index_resolved l i d h = by_resolution (resolution_of l i) refl h
  where
    by_resolution : (o : Option Resolution) → resolution_of l i ≡ o → option_and_then (λ (r : Resolution). r.dynamic_symbol_index) o ≡ Some d → (r : Resolution) × IsResolvedBy l i r × (r.dynamic_symbol_index ≡ Some d)
    by_resolution None e h = cc
    by_resolution (Some r) e h = (r, resolved l i r e, h)

-- ---- bytes

-- the bytes of a change that is known
bytes_are : (bs : List ℕ) (c d : Change) → c ≡ d → bs ≡ stored_bytes c → bs ≡ stored_bytes d
bytes_are bs c d e h = h ∙ ap stored_bytes e

abbrev made_change : Change → Result Change LoadFault
made_change c = Ok c

-- a word reads as the number, modulo 2^64: byte by byte
word_step : (n x : ℕ) → words.number (word (suc n) x) ≡ x % 256 + 256 * words.number (word n (x / 256))
unfolding word words.number
word_step n x = refl

of_three : (x : ℕ) → words.number (word 3 x) ≡ x % 2 ^ 24
of_three x = let a = word_step 2 x in let b = number-word_2 (x / 256) in omega (arith, a, b)

of_five : (x : ℕ) → words.number (word 5 x) ≡ x % 2 ^ 40
of_five x = let a = word_step 4 x in let b = number-word_4 (x / 256) in omega (arith, a, b)

of_six : (x : ℕ) → words.number (word 6 x) ≡ x % 2 ^ 48
of_six x = let a = word_step 5 x in let b = of_five (x / 256) in omega (arith, a, b)

of_seven : (x : ℕ) → words.number (word 7 x) ≡ x % 2 ^ 56
of_seven x = let a = word_step 6 x in let b = of_six (x / 256) in omega (arith, a, b)

number_of_word : (x : ℕ) → words.number (word 8 x) ≡ x % 2 ^ 64
number_of_word x = let a = word_step 7 x in let b = of_seven (x / 256) in omega (arith, a, b)

reads_full : (form : Form) (bs : List ℕ) (x : ℕ) → form ≡ Full → bs ≡ word 8 x → x < 2 ^ 64 → Reads form bs x
reads_full form bs x full is low = subst (λ (f : Form). Reads f bs x) (sym full) (ap words.number is ∙ number-word 8 x low)

-- ---- S + A

-- what memory has, and the value that it is
pub record IsGiven (l : Layout) (w : World) (m : Memory) (s : Item) (r : InputRelocation) (f : Formula) (bs : List ℕ) : Type 0 where
  pub value : ℕ
  pub gives : Gives f.value l w m s r value
  pub reads : Reads f.form bs value
  pub keeps : (old : List ℕ) → Keeps f.form old bs

sum_given : (l : Layout) (w : World) (m : Memory) (s : Item) (r : InputRelocation) (f : Formula) (bs : List ℕ) (x : ℕ) → f.value ≡ SymbolAddress → f.form ≡ Full → IsSum SymbolAddress l w m s r x → bs ≡ word 8 x → x < 2 ^ 64 → IsGiven l w m s r f bs
sum_given l w m s r f bs x value full is bytes low = record { value = x; gives = subst (λ (v : Value). Gives v l w m s r x) (sym value) is; reads = reads_full f.form bs x full bytes low; keeps = λ old. subst (λ (k : Form). Keeps k old bs) (sym full) tt }

-- an answer's address and the addend
symbol_change : (p : Processor) (w : World) (n d a : ℕ) (c : Change) → kind_of p n ≡ Some works.SymbolPlus → a < 2 ^ 64 → MakesChange p w n d a c → (x : IsAnsweredBy w d) × (c ≡ changes.Word ((x.answer.address + a) % 2 ^ 64))
unfolding change_of
symbol_change p w n d a c is low h =
    let e = change_by p w n d a c works.SymbolPlus is h in
    let x = after_known (slice_get w.symbols d) _ _ c e in
    let same : changes.Word ((x.0.address + cast_unsigned w64 (cast_signed w64 a)) % 2 ^ 64) ≡ c = (let g : made_change (changes.Word ((x.0.address + cast_unsigned w64 (cast_signed w64 a)) % 2 ^ 64)) ≡ made_change c = x.2 in cc) in
    (record { answer = x.0; there = x.1 }, sym same ∙ ap (λ (n : ℕ). changes.Word ((x.0.address + n) % 2 ^ 64)) (of_z-to_z w64 a low))

symbolic_given : (l : Layout) (w : World) (m : Memory) (s : Item) (r : InputRelocation) (i number symbol addend : ℕ) (z : RelocationSize) (bs : List ℕ) (f : Formula) → IsPlaced l w m → FitsSigned w64 r.addend → r.symbol ≡ Some i → (NamesStrings l r → ⊥) → f.value ≡ SymbolAddress → f.form ≡ Full
    → dynamic_decision (ByteSize Eight) (type_of l.machine Absolute) r i (index_of l i) ≡ Ok (DynamicField z number symbol addend) → ReadsFilledField (processor_of l.machine) InMemory w z number symbol addend bs → IsGiven l w m s r f bs
symbolic_given l w m s r i number symbol addend z bs f p fits named none value full made reads =
    let d = index_given (ByteSize Eight) z (type_of l.machine Absolute) number symbol addend r i (index_of l i) made in
    let by = index_resolved l i symbol d.0 in
    let is = subst (λ (k : ℕ). kind_of (processor_of l.machine) k ≡ Some works.SymbolPlus) d.1 ((facts_of l.machine).entries Absolute) in
    let low : addend < 2 ^ 64 = subst (λ (k : ℕ). k < 2 ^ 64) d.2 (signed_fits w64 r.addend fits) in
    let c = symbol_change (processor_of l.machine) w number symbol addend reads.0 is low reads.1 in
    let x = (c.0.answer.address + addend) % 2 ^ 64 in
    let a = answered_value l w i c.0.answer p.legal.symbols (has_answer l w i symbol by.0 by.1 by.2 c.0) in
    let target : IsSymbolAddress l w m r.symbol c.0.answer.address = subst (λ (o : Option ℕ). IsSymbolAddress l w m o c.0.answer.address) (sym named) (inl a) in
    let sum : x ≡ (c.0.answer.address + more r) % 2 ^ 64 = ap (λ (k : ℕ). (c.0.answer.address + k) % 2 ^ 64) (sym d.2) in
    sum_given l w m s r f bs x value full (record { symbol = c.0.answer.address; denoted = address_referent l w m s r c.0.answer.address none target; sum = sum }) (bytes_are bs reads.0 (changes.Word x) c.1 reads.2) (omega arith)

-- ---- what a resolver answers

resolver_change : (p : Processor) (w : World) (n d a : ℕ) (c : Change) → kind_of p n ≡ Some works.Resolved → a < 2 ^ 64 → MakesChange p w n d a c → (v : ℕ) × (answer_at w ((w.base + a) % 2 ^ 64) ≡ Ok v) × (c ≡ changes.Word v)
unfolding change_of
resolver_change p w n d a c is low h =
    let e = change_by p w n d a c works.Resolved is h in
    let v = after_step (answer_at w ((w.base + cast_unsigned w64 (cast_signed w64 a)) % 2 ^ 64)) _ c e in
    let same : changes.Word v.0 ≡ c = (let g : made_change (changes.Word v.0) ≡ made_change c = v.2 in cc) in
    (v.0, subst (λ (n : ℕ). answer_at w ((w.base + n) % 2 ^ 64) ≡ Ok v.0) (of_z-to_z w64 a low) v.1, sym same)

-- the address that was decided of a symbol
decided_resolved : (l : Layout) (i a : ℕ) → decided_address l i ≡ Ok a → (r : Resolution) × IsResolvedBy l i r × (r.raw_value ≡ a)
decided_resolved l i a h = by_resolution (resolution_of l i) refl (given_some missing.Address i (option_map (λ (r : Resolution). r.raw_value) (resolution_of l i)) a h)
  where
    by_resolution : (o : Option Resolution) → resolution_of l i ≡ o → option_map (λ (r : Resolution). r.raw_value) o ≡ Some a → (r : Resolution) × IsResolvedBy l i r × (r.raw_value ≡ a)
    by_resolution None e h = cc
    by_resolution (Some r) e h = (r, resolved l i r e, (let same : r.raw_value ≡ a = cc in same))

-- a symbol that none may replace, and that a resolver chooses, is the output's own
resolver_flags : (l : Layout) (s : Item) (row : RelocationKindInfo) (i : ℕ) → field_width row ≡ 8 → needs_symbolic l s.flags row i ≡ false → needs_irelative l s.flags i ≡ true → has_flag (flags_at l i) dynamic ≡ false → (may_be_replaced l.kind (flags_at l i) ≡ false) × (has_flag (flags_at l i) ifunc ≡ true)
resolver_flags l s row i width own chosen none =
    by_tests (allocated s.flags) (writable s.flags) (field_width row == 8) (has_flag (flags_at l i) non_interposable) (is_position_independent l.kind) (has_flag (flags_at l i) ifunc) (has_flag (flags_at l i) dynamic) (has_flag (flags_at l i) copy_relocation) (is_library l.kind) (has_flag (flags_at l i) export_dynamic) (eq-eqb (field_width row) 8 width) own chosen none
  where
    by_tests : (a b wide fixed pi f d copied library exported : Bool) → wide ≡ true → (a && b && wide && not fixed) ≡ false → (a && b && pi && f) ≡ true → d ≡ false → (((d && not copied) || (library && (exported && not fixed))) ≡ false) × (f ≡ true)
    by_tests false b wide fixed pi f d copied library exported e own chosen none = cc
    by_tests true false wide fixed pi f d copied library exported e own chosen none = cc
    by_tests true true false fixed pi f d copied library exported e own chosen none = cc
    by_tests true true true false pi f d copied library exported e own chosen none = cc
    by_tests true true true true false f d copied library exported e own chosen none = cc
    by_tests true true true true true false d copied library exported e own chosen none = cc
    by_tests true true true true true true true copied library exported e own chosen none = cc
    by_tests true true true true true true false copied false exported e own chosen none = (refl, refl)
    by_tests true true true true true true false copied true false e own chosen none = (refl, refl)
    by_tests true true true true true true false copied true true e own chosen none = (refl, refl)

-- the own symbol, which a resolver chooses
pub record IsChosenOwn (l : Layout) (i : ℕ) : Type 0 where
  pub own : IsReplaceable l i false
  pub chosen : HasFlag l i ifunc true

pub chosen_own : (l : Layout) (w : World) (m : Memory) (s : Item) (row : RelocationKindInfo) (i : ℕ) → IsPlaced l w m → i < length l.symbols → field_width row ≡ 8 → IsLeftToResolver l s.flags row i → IsChosenOwn l i
chosen_own l w m s row i p listed width h =
    let z = slice_get_inside l.symbols i listed in
    let whose = replaceable_at l i z.0 p.symbols.named z.1 in
    let c = whose.definition in
    let flags = flags_are l i c whose.symbol whose.defined whose.listed in
    let fits = symbol_fits l i whose.symbol p.symbols (listed_at l i c whose.symbol whose.defined whose.listed) in
    let asked : has_flag (flags_at l i) ifunc ≡ true = last_of (allocated s.flags && writable s.flags && is_position_independent l.kind) (has_flag (flags_at l i) ifunc) h.chosen in
    let none : has_flag (flags_at l i) dynamic ≡ false = ap (λ (f : ValueFlags). has_flag f dynamic) flags ∙ resolver_own whose.symbol fits.chosen (sym (ap (λ (f : ValueFlags). has_flag f ifunc) flags) ∙ asked) in
    let t = resolver_flags l s row i width h.own h.chosen none in
    record { own = subst (λ (b : Bool). IsReplaceable l i b) t.0 whose; chosen = subst (λ (b : Bool). HasFlag l i ifunc b) t.1 (flag_at l i ifunc z.0 p.symbols.named z.1) }
  where
    last_of : (a b : Bool) → (a && b) ≡ true → b ≡ true
    last_of true b h = h
    last_of false b h = cc

indirect_given : (l : Layout) (w : World) (m : Memory) (s : Item) (r : InputRelocation) (i number symbol addend : ℕ) (z : RelocationSize) (bs : List ℕ) (f : Formula) → IsPlaced l w m → i < length l.symbols → IsChosenOwn l i → r.symbol ≡ Some i → f.value ≡ SymbolAddress → f.form ≡ Full
    → ifunc_decision l r (decided_address l i) ≡ Ok (DynamicField z number symbol addend) → ReadsFilledField (processor_of l.machine) InMemory w z number symbol addend bs → IsGiven l w m s r f bs
indirect_given l w m s r i number symbol addend z bs f p listed chosen named value full made reads =
    let d = resolver_given l z number symbol addend r (decided_address l i) made in
    let by = decided_resolved l i addend d.0 in
    let raw = subst (λ (a : ℕ). HasRaw l i a) by.2 (resolved_raw l i by.0 by.1) in
    let low = subst (λ (a : ℕ). a < 2 ^ 64) by.2 ((symbol_fits l i by.1.symbol p.symbols by.1.listed).number by.0 by.1.decided) in
    let is = subst (λ (k : ℕ). kind_of (processor_of l.machine) k ≡ Some works.Resolved) d.1 ((facts_of l.machine).entries Irelative) in
    let c = resolver_change (processor_of l.machine) w number symbol addend reads.0 is low reads.1 in
    let z = slice_get_inside l.symbols i listed in
    let a : HasOwnValue l w i c.0 = record { raw = addend; given = raw; indirect = true; resolved = chosen.chosen; still = has_flag (flags_at l i) absolute; absolute = flag_at l i absolute z.0 p.symbols.named z.1; is = c.1 } in
    let target : IsSymbolAddress l w m r.symbol c.0 = subst (λ (o : Option ℕ). IsSymbolAddress l w m o c.0) (sym named) (inl (inr (chosen.own, a))) in
    let x = (c.0 + more r) % 2 ^ 64 in
    let bytes = bytes_are bs reads.0 (changes.Word c.0) c.2 reads.2 in
    record { value = x; gives = subst (λ (v : Value). Gives v l w m s r x) (sym value) (record { symbol = c.0; denoted = address_referent l w m s r c.0 (resolver_none l r i named chosen.chosen) target; sum = refl }); reads = subst (λ (k : Form). Reads k bs x) (sym full) (ap words.number bytes ∙ (number_of_word c.0 ∙ sum_none c.0 (more r) d.2)); keeps = λ old. subst (λ (k : Form). Keeps k old bs) (sym full) tt }
  where
    sum_none : (v a : ℕ) → a ≡ 0 → v % 2 ^ 64 ≡ (v + a) % 2 ^ 64
    sum_none v a e = omega (arith, e)

-- ---- sizes

-- a size is that of one of two types
abbrev size_number : RelocationKind → ℕ → Bool
size_number kinds.SymbolSize n = n == r_x86_64_size32 || n == r_x86_64_size64
size_number other n = true

each_size : list_all (λ (e : ℕ × RelocationKindInfo). size_number e.1.kind e.0) x86_64_rows ≡ true
each_size = refl

size_types : (n : ℕ) (row : RelocationKindInfo) → row_of machine.X86_64 n ≡ Some row → row.kind ≡ kinds.SymbolSize → (n ≡ r_x86_64_size32) ⊎ (n ≡ r_x86_64_size64)
unfolding row_of x86_64_row
size_types n row is kind =
    let t = entry_passes (λ (k : ℕ) (x : RelocationKindInfo). size_number x.kind k) x86_64_rows each_size n row is in
    elim (or_cases (n == r_x86_64_size32) (n == r_x86_64_size64) (subst (λ (k : RelocationKind). size_number k n ≡ true) kind t)) [
      | inl a ↦ inl (eqb-true _ _ a)
      | inr b ↦ inr (eqb-true _ _ b)
    ]

short_formula : x86_64_formula r_x86_64_size32 ≡ Some (formula Size (Plain 32 Unsigned))
unfolding x86_64_formula
short_formula = refl

long_formula : x86_64_formula r_x86_64_size64 ≡ Some (formula Size Full)
unfolding x86_64_formula
long_formula = refl

short_is : (m : Machine) → m ≡ machine.X86_64 → kind_of (processor_of m) r_x86_64_size32 ≡ Some works.Size32
unfolding kind_of
short_is m x = rw x refl

long_is : (m : Machine) → m ≡ machine.X86_64 → kind_of (processor_of m) r_x86_64_size64 ≡ Some works.Size64
unfolding kind_of
long_is m x = rw x refl

short_change : (p : Processor) (w : World) (n d a : ℕ) (c : Change) → kind_of p n ≡ Some works.Size32 → a < 2 ^ 64 → MakesChange p w n d a c → (x : IsAnsweredBy w d) × (c ≡ changes.Half ((x.answer.size + a) % 2 ^ 64 % 2 ^ 32))
unfolding change_of
short_change p w n d a c is low h =
    let e = change_by p w n d a c works.Size32 is h in
    let x = after_known (slice_get w.symbols d) _ _ c e in
    let same : changes.Half ((x.0.size + cast_unsigned w64 (cast_signed w64 a)) % 2 ^ 64 % 2 ^ 32) ≡ c = (let g : made_change (changes.Half ((x.0.size + cast_unsigned w64 (cast_signed w64 a)) % 2 ^ 64 % 2 ^ 32)) ≡ made_change c = x.2 in cc) in
    (record { answer = x.0; there = x.1 }, sym same ∙ ap (λ (n : ℕ). changes.Half ((x.0.size + n) % 2 ^ 64 % 2 ^ 32)) (of_z-to_z w64 a low))

long_change : (p : Processor) (w : World) (n d a : ℕ) (c : Change) → kind_of p n ≡ Some works.Size64 → a < 2 ^ 64 → MakesChange p w n d a c → (x : IsAnsweredBy w d) × (c ≡ changes.Word ((x.answer.size + a) % 2 ^ 64))
unfolding change_of
long_change p w n d a c is low h =
    let e = change_by p w n d a c works.Size64 is h in
    let x = after_known (slice_get w.symbols d) _ _ c e in
    let same : changes.Word ((x.0.size + cast_unsigned w64 (cast_signed w64 a)) % 2 ^ 64) ≡ c = (let g : made_change (changes.Word ((x.0.size + cast_unsigned w64 (cast_signed w64 a)) % 2 ^ 64)) ≡ made_change c = x.2 in cc) in
    (record { answer = x.0; there = x.1 }, sym same ∙ ap (λ (n : ℕ). changes.Word ((x.0.size + n) % 2 ^ 64)) (of_z-to_z w64 a low))

-- the row of a size in four bytes
short_row : row_of machine.X86_64 r_x86_64_size32 ≡ Some (plain kinds.SymbolSize Four row_sign.Unsigned)
unfolding row_of x86_64_row
short_row = refl

-- a value that it takes
short_below : (v : ℕ) → v < 2 ^ 64 → allows (plain kinds.SymbolSize Four row_sign.Unsigned) v ≡ true → v < 2 ^ 32
short_below v small h = by_tests (nat_lt v (2 ^ 32)) (nat_le (2 ^ 64 - 0) v) (λ t. ltb-true _ _ t) (λ t. leb-true _ _ t) h
  where
    by_tests : (a b : Bool) → (a ≡ true → v < 2 ^ 32) → (b ≡ true → 2 ^ 64 - 0 ≤ v) → (a || b) ≡ true → v < 2 ^ 32
    by_tests true b low high h = low refl
    by_tests false b low high h = (let n = high h in omega (arith, n, small))

short_allowed : (n : ℕ) (row : RelocationKindInfo) (v : ℕ) → row_of machine.X86_64 n ≡ Some row → n ≡ r_x86_64_size32 → v < 2 ^ 64 → allows row v ≡ true → v < 2 ^ 32
short_allowed n row v here e small h =
    let at = subst (λ (k : ℕ). row_of machine.X86_64 k ≡ Some row) e here in
    let same : row ≡ plain kinds.SymbolSize Four row_sign.Unsigned = (let both : Some row ≡ Some (plain kinds.SymbolSize Four row_sign.Unsigned) = sym at ∙ short_row in cc) in
    short_below v small (subst (λ (x : RelocationKindInfo). allows x v ≡ true) same h)

-- whose symbol it is, as the writer has it
whose_flags : (l : Layout) (f : ValueFlags) → may_be_replaced l.kind f ≡ is_replaceable l.kind f
whose_flags l f = ap (λ (b : Bool). (has_flag f dynamic && not (has_flag f copy_relocation)) || (b && (has_flag f export_dynamic && interposable f))) (library_is l.kind)

whose : (l : Layout) (w : World) (m : Memory) (i : ℕ) → IsPlaced l w m → i < length l.symbols → IsReplaceable l i (is_replaceable l.kind (flags_at l i))
whose l w m i p listed =
    let z = slice_get_inside l.symbols i listed in
    subst (λ (b : Bool). IsReplaceable l i b) (whose_flags l (flags_at l i)) (replaceable_at l i z.0 p.symbols.named z.1)

extent_given : (l : Layout) (w : World) (m : Memory) (s : Item) (r : InputRelocation) (row : RelocationKindInfo) (i number symbol addend : ℕ) (z : RelocationSize) (bs : List ℕ) (fits : RowFits l.machine r.number row) → IsPlaced l w m → l.machine ≡ machine.X86_64 → FitsSigned w64 r.addend → i < length l.symbols → row_of machine.X86_64 r.number ≡ Some row → (is_replaceable l.kind (flags_at l i) || allows row (sum (symbol_size l i) r.addend)) ≡ true → r.symbol ≡ Some i → (r.number ≡ r_x86_64_size32) ⊎ (r.number ≡ r_x86_64_size64)
    → dynamic_decision row.size r.number r i (index_of l i) ≡ Ok (DynamicField z number symbol addend) → ReadsFilledField (processor_of l.machine) InMemory w z number symbol addend bs → IsGiven l w m s r fits.formula bs
extent_given l w m s r row i number symbol addend z bs fits p x86 signed listed here ranged named type made reads = by_type type
  where
    d : (index_of l i ≡ Some symbol) × (r.number ≡ number) × (addend_bits r ≡ addend)
    d = index_given row.size z r.number number symbol addend r i (index_of l i) made

    low : addend < 2 ^ 64
    low = subst (λ (k : ℕ). k < 2 ^ 64) d.2 (signed_fits w64 r.addend signed)

    answer : (x : IsAnsweredBy w symbol) → HasAnswer l w i x.answer
    answer x = let by = index_resolved l i symbol d.0 in has_answer l w i symbol by.0 by.1 by.2 x

    extent : (x : IsAnsweredBy w symbol) → IsExtent l w r.symbol x.answer.size
    extent x = subst (λ (o : Option ℕ). IsExtent l w o x.answer.size) (sym named) (answered_size l w i x.answer p.legal.symbols (answer x))

    makes : (n : ℕ) → r.number ≡ n → MakesChange (processor_of l.machine) w n symbol addend reads.0
    makes n e = subst (λ (k : ℕ). MakesChange (processor_of l.machine) w k symbol addend reads.0) (sym d.1 ∙ e) reads.1

    formula_by : (n : ℕ) (f : Formula) → r.number ≡ n → x86_64_formula n ≡ Some f → f ≡ fits.formula
    formula_by n f e known = (let g : Some f ≡ Some fits.formula = sym known ∙ (ap x86_64_formula (sym e) ∙ subst (λ (k : Machine). formula_of k r.number ≡ Some fits.formula) x86 fits.known) in cc)

    sum_is : (x : IsAnsweredBy w symbol) → (x.answer.size + addend) % 2 ^ 64 ≡ (x.answer.size + more r) % 2 ^ 64
    sum_is x = ap (λ (k : ℕ). (x.answer.size + k) % 2 ^ 64) (sym d.2)

    -- the low half is the whole of an own symbol's
    half_is : (x : IsAnsweredBy w symbol) → r.number ≡ r_x86_64_size32 → (b : Bool) → IsReplaceable l i b → (b || allows row (sum (symbol_size l i) r.addend)) ≡ true → IsWhole l r ((x.answer.size + more r) % 2 ^ 64) ((x.answer.size + addend) % 2 ^ 64 % 2 ^ 32)
    half_is x e true replaced told = inr (record { number = e; symbol = i; named = named; replaceable = replaced }, ap (λ (k : ℕ). k % 2 ^ 32) (sum_is x))
    half_is x e false own told =
        let size : x.answer.size ≡ symbol_size l i = own_size_is l i x.answer.size (p.legal.symbols.own i x.answer own (answer x)).size in
        let same : (x.answer.size + more r) % 2 ^ 64 ≡ sum (symbol_size l i) r.addend = ap (λ (k : ℕ). (k + more r) % 2 ^ 64) size in
        let low = short_allowed r.number row (sum (symbol_size l i) r.addend) here e (omega arith) told in
        let sums = sum_is x in
        inl (omega (arith, sums, same, low))

    by_type : (r.number ≡ r_x86_64_size32) ⊎ (r.number ≡ r_x86_64_size64) → IsGiven l w m s r fits.formula bs
    by_type (inl e) =
        let c = short_change (processor_of l.machine) w r_x86_64_size32 symbol addend reads.0 (short_is l.machine x86) low (makes r_x86_64_size32 e) in
        let x = c.0 in
        let v = (x.answer.size + addend) % 2 ^ 64 % 2 ^ 32 in
        let bytes = bytes_are bs reads.0 (changes.Half v) c.1 reads.2 in
        subst (λ (f : Formula). IsGiven l w m s r f bs) (formula_by r_x86_64_size32 (formula Size (Plain 32 Unsigned)) e short_formula) (record {
          value = v;
          gives = (x.answer.size, extent x, half_is x e (is_replaceable l.kind (flags_at l i)) (whose l w m i p listed) ranged);
          reads = ap words.number bytes ∙ number-word 4 v (omega arith);
          keeps = λ old. tt;
        })
    by_type (inr e) =
        let c = long_change (processor_of l.machine) w r_x86_64_size64 symbol addend reads.0 (long_is l.machine x86) low (makes r_x86_64_size64 e) in
        let x = c.0 in
        let v = (x.answer.size + addend) % 2 ^ 64 in
        let bytes = bytes_are bs reads.0 (changes.Word v) c.1 reads.2 in
        subst (λ (f : Formula). IsGiven l w m s r f bs) (formula_by r_x86_64_size64 (formula Size Full) e long_formula) (record {
          value = v;
          gives = (x.answer.size, extent x, inl (sum_is x));
          reads = ap words.number bytes ∙ number-word 8 v (omega arith);
          keeps = λ old. tt;
        })

-- ---- the entry of a relocation

-- the treatment of an address is that of its symbol
pub address_by : (l : Layout) (s : Item) (r : InputRelocation) (row : RelocationKindInfo) (i : ℕ) (t : Treatment) → canonical l i < length l.symbols → treatment l s.flags r ≡ t → (treatments.Unsupported ≡ t → ⊥) → row_of l.machine r.number ≡ Some row → row.kind ≡ kinds.Absolute → r.symbol ≡ Some i → address_treatment l s.flags r.number row i ≡ t
address_by l s r row i t inside is some known kind named =
    let a : kind_treatment l s.flags r.number r.symbol row row.kind ≡ t = treated_by l s r row t known is some in
    let b : kind_treatment l s.flags r.number r.symbol row kinds.Absolute ≡ t = subst (λ (k : RelocationKind). kind_treatment l s.flags r.number r.symbol row k ≡ t) kind a in
    peeled l row i (address_treatment l s.flags r.number row i) t inside (subst (λ (o : Option ℕ). kind_treatment l s.flags r.number o row kinds.Absolute ≡ t) named b)

-- one that is left to an index is open
left_open : (l : Layout) (flags n : ℕ) (row : RelocationKindInfo) (i : ℕ) → address_treatment l flags n row i ≡ treatments.Symbolic i → interposable (flags_at l i) ≡ true
left_open l flags n row i h =
    let P : Treatment → Type 0 = λ t. t ≡ treatments.Symbolic i → interposable (flags_at l i) ≡ true in
    of_if P (is_barred l flags n i || is_narrow l flags n) _ _ (λ e. λ g. cc) (λ e.
    of_if P (needs_symbolic l flags row i) _ _
    (λ left. λ g. last_of_four (allocated flags) (writable flags) (field_width row == 8) (interposable (flags_at l i)) left)
    (λ own. of_if P (needs_irelative l flags i) _ _
    (λ chosen. of_if P (field_width row == 8) _ _ (λ w. λ g. cc) (λ w. λ g. cc))
    (λ e. of_if P (allocated flags && moves l i) _ _ (λ m. of_if P (field_width row == 8) _ _ (λ w. λ g. cc) (λ w. λ g. cc)) (λ m. λ g. cc)))) h
  where
    last_of_four : (a b c d : Bool) → (a && b && c && d) ≡ true → d ≡ true
    last_of_four true true true d h = h
    last_of_four true true false d h = cc
    last_of_four true false c d h = cc
    last_of_four false b c d h = cc

-- a field with its formula
pub record FieldGiven (l : Layout) (w : World) (m : Memory) (s : Item) (r : InputRelocation) (bs : List ℕ) : Type 0 where
  pub formula : Formula
  pub known : formula_of l.machine r.number ≡ Some formula
  pub given : IsGiven l w m s r formula bs

left_given : RowsAreRead → (l : Layout) (w : World) (m : Memory) (s : Item) (r : InputRelocation) (z : RelocationSize) (number symbol addend : ℕ) (bs : List ℕ) → IsPlaced l w m → NamesSymbol l r → FitsSigned w64 r.addend → decided l s r ≡ Ok (DynamicField z number symbol addend) → ReadsFilledField (processor_of l.machine) InMemory w z number symbol addend bs → FieldGiven l w m s r bs
left_given agrees l w m s r z number symbol addend bs p listed fits made reads =
    let h = decided_left l s r z number symbol addend made in
    by_treatment h.treated h.left h.is h.made
  where
    by_treatment : (t : Treatment) → has_dynamic_entry t ≡ true → treatment l s.flags r ≡ t → decide_by l s r t ≡ Ok (DynamicField z number symbol addend) → FieldGiven l w m s r bs
    by_treatment (treatments.Symbolic i) left is h =
        let k = known_symbolic l s.flags r i is in
        let f = row_fits agrees l.machine r.number k.0 k.1 (ap has_value k.2.kind) in
        let full = f.full k.2.kind k.2.width in
        let there = address_by l s r k.0 i (treatments.Symbolic i) (definition_there l i p.symbols.named (listed i k.2.named)) is (λ e. cc) k.1 k.2.kind k.2.named in
        let open_one = left_open l s.flags r.number k.0 i there in
        record { formula = f.formula; known = f.known; given = symbolic_given l w m s r i number symbol addend z bs f.formula p fits k.2.named (open_none l r i k.2.named open_one) full.0 full.1 h reads }
    by_treatment (treatments.Indirect i) left is h =
        let k = known_indirect l s.flags r i is in
        let f = row_fits agrees l.machine r.number k.0 k.1 (ap has_value k.2.kind) in
        let full = f.full k.2.kind k.2.width in
        let inside = listed i k.2.named in
        let chosen = chosen_own l w m s k.0 i p inside k.2.width k.3 in
        record { formula = f.formula; known = f.known; given = indirect_given l w m s r i number symbol addend z bs f.formula p inside chosen k.2.named full.0 full.1 h reads }
    by_treatment (treatments.Extent row i) left is h =
        let k = known_extent l s.flags r row i is in
        let x86 = size_machine l.machine r.number row k.0 k.1.kind in
        let here = row_here l r.number row x86 k.0 in
        let f = row_fits agrees l.machine r.number row k.0 (ap has_value k.1.kind) in
        let sized = sized_parts l r row i (dynamic_decision row.size r.number r i (index_of l i)) (DynamicField z number symbol addend) h in
        record { formula = f.formula; known = f.known; given = extent_given l w m s r row i number symbol addend z bs f p x86 fits (listed i k.1.named) here sized.ranged k.1.named (size_types r.number row here k.1.kind) sized.left reads }
    by_treatment other left is h = cc

pub entries_give : RowsAreRead → EntriesGive
entries_give agrees = λ l w m s r z number symbol addend bs all p listed fits made reads.
    let h = left_given agrees l w m s r z number symbol addend bs p listed fits made reads in
    (h.formula, h.known, h.given.value, h.given.gives, h.given.reads, h.given.keeps)
