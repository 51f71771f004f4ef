-- The offsets in thread-local storage that a relocation writes are what its expression gives.
use Rattle.wild_references.proofs.Common.{◌≡◌, ℕ, ◌+◌, ◌-◌, ◌%◌, ◌^◌, ◌<◌, ◌⊎◌, inl, inr, true, false, length, refl, sym, ap, ◌∙◌, arith, subst, Option, Some, None, Result, Ok, Err, w64, cast_unsigned, cases_Bool, slice_get_inside, Fault, Machine, InputRelocation, Layout, place_of, kind_treatment, value_of, expression_of, Value, PointerOffset, ModuleOffset, Subtrahend, RelocationKindInfo, RelocationSize, RelocationKind, raw_address, term_of, subtract, adds_symbol, World, Memory, Item, IsOffset, Gives, GivesLinked, TakesAddress, TakesOffset, HasStubAddress, IsOffsetBase, IsReplaceable, IsExecutable, IsFirstModule, IsLoadable, distance_known, executable_is, IsPlaced, is_expressed, value_by_row, HasTerm, IsFollowed, RowGives, RowGivesLinked}
use Rattle.wild_types.specs.declared.kind.Machine.TheVariants as machine
use Rattle.wild_types.specs.declared.kind.OutputKind.TheVariants as output
use Rattle.wild_slot.specs.declared.treatment.Treatment.TheVariants as treatments
use Rattle.wild_slot.specs.Treatment.{pointer_treatment}
use Rattle.wild_reloc.specs.declared.expression.Subtrahend.TheVariants as subtrahend
use Rattle.wild_reloc.specs.declared.info.RelocationKind.TheVariants as kinds
use Rattle.wild_layout.specs.SymbolValues.{minus, thread_pointer, storage_start, is_undefined}
use Rattle.wild_layout.specs.Values.{offset_from, pointer_offset}
use Rattle.wild_meaning.specs.Formula.{IsOwnOffset}
use Rattle.wild_meaning.specs.Thread.{HasDistance, HasOwnOffset}
use Rattle.wild_references.proofs.WrittenFields.{address_given}
use Rattle.wild_references.proofs.Values.{has_raw}
use Rattle.wild_references.proofs.Symbols.{undefined}
use Rattle.wild_references.proofs.Moves.{less_sum}
use Rattle.wild_references.proofs.OutputKinds.{loadable_cases, loaded_program}
use Rattle.wild_references.proofs.ThreadValues.{thread_place, placed_thread, thread_sum, distance_below, pointer_same, own_base, library_base, data_base}
use Rattle.wild_references.proofs.MovingSymbols.{symbol_named, pointer_kept}
use Rattle.wild_references.specs.Terms.{page_mask}
use Rattle.wild_references.proofs.Referents.{no_mask, sized_is}
use Rattle.wild_references.proofs.ValueKinds.{more, value_is, taken_is, plain_term}

-- ---- an address less a number

behind_given : (start term : ℕ) (o : Result ℕ Fault) → offset_from start o ≡ Ok term → (a : ℕ) × (o ≡ Ok a) × (minus a start ≡ term)
behind_given start term (Err f) h = cc
behind_given start term (Ok a) h = (a, refl, (let e : Ok (minus a start) ≡ Ok term = h in cc))

-- the own symbol's place in the thread's data, where the writer takes its address less the thread pointer
pub record HasPlace (l : Layout) (w : World) (i term : ℕ) : Type 0 where
  pub offset : ℕ
  pub is : HasOwnOffset l w i offset
  pub sum : (a : ℕ) → (offset + a) % 2 ^ 64 ≡ (term + a) % 2 ^ 64

placed_offset : (l : Layout) (w : World) (m : Memory) (i term : ℕ) → IsPlaced l w m → IsFirstModule l w → offset_from (thread_pointer l.machine l.tls) (raw_address l (Some i)) ≡ Ok term → HasPlace l w i term
placed_offset l w m i term p f h =
    let a = behind_given (thread_pointer l.machine l.tls) term (raw_address l (Some i)) h in
    let raw = has_raw l i a.0 (address_given l (Some i) a.0 a.1) in
    let d = cast_unsigned w64 f.distance in
    record {
      offset = (d + a.0 + (2 ^ 64 - l.tls.start)) % 2 ^ 64;
      is = inl (thread_place l w i a.0 f raw);
      sum = λ c.
          (let there = thread_sum l w a.0 c f in
          let same = ap (λ (n : ℕ). (a.0 + c + (2 ^ 64 - n)) % 2 ^ 64) (pointer_same l w p.paged p.tls_end) in
          let back = sym (less_sum a.0 c (thread_pointer l.machine l.tls)) in
          there ∙ same ∙ back ∙ ap (λ (n : ℕ). (n + c) % 2 ^ 64) a.2);
    }

-- an expression that takes an offset is asked of an own symbol alone
own_followed : (l : Layout) (r : InputRelocation) (v : Value) → TakesOffset v → IsFollowed l r v → (i : ℕ) → r.symbol ≡ Some i → IsReplaceable l i false
own_followed l r v takes f i named = by_case (f i named)
  where
    by_case : IsReplaceable l i false ⊎ (((TakesOffset v → ⊥) × (TakesAddress v → ⊥)) ⊎ ((TakesOffset v → ⊥) × HasStubAddress l i)) → IsReplaceable l i false
    by_case (inl own) = own
    by_case (inr (inl other)) = absurd (other.0 takes)
    by_case (inr (inr stubbed)) = absurd (stubbed.0 takes)

-- ---- from the thread pointer

-- of a symbol that nothing defines the offset is 0
pointer_place : (l : Layout) (w : World) (m : Memory) (i term : ℕ) → IsPlaced l w m → IsFirstModule l w → i < length l.symbols → pointer_offset l (Some i) ≡ Ok term → HasPlace l w i term
pointer_place l w m i term p f listed given =
    let z = slice_get_inside l.symbols i listed in
    elim (cases_Bool (is_undefined l i)) [
      | inl t ↦
          (let e : Ok 0 ≡ Ok term = rw t at given in
          let none : 0 ≡ term = cc in
          record { offset = 0; is = inr (inl (undefined l i z.0 z.1 t), refl); sum = λ c. ap (λ (n : ℕ). (n + c) % 2 ^ 64) none })
      | inr n ↦ placed_offset l w m i term p f (rw n at given)
    ]

-- a relocation whose symbol has an own place
record HasOwnPlace (l : Layout) (w : World) (r : InputRelocation) (x : ℕ) : Type 0 where
  pub symbol : ℕ
  pub named : r.symbol ≡ Some symbol
  pub offset : ℕ
  pub is : HasOwnOffset l w symbol offset
  pub sum : x ≡ (offset + more r) % 2 ^ 64

-- what a row of offsets says
record IsOffsetRow (v : Value) (l : Layout) (w : World) (m : Memory) (s : Item) (r : InputRelocation) (info : RelocationKindInfo) (x term : ℕ) : Type 0 where
  value : value_by_row info ≡ v
  sum : (term + more r) % 2 ^ 64 ≡ x

offset_row : (v : Value) (k : RelocationKind) (l : Layout) (w : World) (m : Memory) (s : Item) (r : InputRelocation) (info : RelocationKindInfo) (x : ℕ) → (h : HasTerm l w m s r info x) → info.kind ≡ k → (expression_of k).subtrahend ≡ subtrahend.Nothing → page_mask (expression_of k).term (expression_of k).subtrahend ≡ None → ((z : RelocationSize) → value_of k None z ≡ v) → IsOffsetRow v l w m s r info x h.term
offset_row v k l w m s r info x h kind nothing single is =
    let mask = no_mask l.machine (expression_of k).term (expression_of k).subtrahend info.mask (subst (λ (j : RelocationKind). is_expressed l.machine (expression_of j).term (expression_of j).subtrahend info.mask ≡ true) kind h.expressed) single in
    record {
      value = value_is info k None kind mask ∙ is info.size;
      sum = subst (λ (u : Subtrahend). subtract l u h.term r.addend (place_of s.address r) ≡ x) (taken_is info k None kind mask ∙ nothing) h.value;
    }

pointer_given : (l : Layout) (w : World) (m : Memory) (s : Item) (r : InputRelocation) (info : RelocationKindInfo) (x : ℕ) → (h : HasTerm l w m s r info x) → info.kind ≡ kinds.TpOff → (h.term + more r) % 2 ^ 64 ≡ x → HasOwnPlace l w r x
pointer_given l w m s r info x h kind sum =
    let treated = subst (λ (k : RelocationKind). kind_treatment l s.flags h.number r.symbol h.row k ≡ treatments.Value h.row) kind h.treated in
    let i = symbol_named r.symbol (λ i. pointer_treatment l s.flags h.row) h.row treated in
    let program = loaded_program l.kind h.placed.loadable (pointer_kept l s h.row h.room i.2) in
    let plain = plain_term l w m s r info x h (ap (λ (k : RelocationKind). adds_symbol (expression_of k).term) kind) in
    let here : pointer_offset l r.symbol ≡ Ok h.term = subst (λ (k : RelocationKind). term_of l r.symbol k ≡ Ok h.term) kind plain in
    let given : pointer_offset l (Some i.0) ≡ Ok h.term = subst (λ (o : Option ℕ). pointer_offset l o ≡ Ok h.term) i.1 here in
    let p = pointer_place l w m i.0 h.term h.placed (h.placed.legal.first program) (h.listed i.0 i.1) given in
    record { symbol = i.0; named = i.1; offset = p.offset; is = p.is; sum = sym sum ∙ sym (p.sum (more r)) }

followed_offset : (l : Layout) (w : World) (r : InputRelocation) (v : Value) (x : ℕ) → TakesOffset v → IsFollowed l r v → (p : HasOwnPlace l w r x) → IsOffset l w r.symbol p.offset
followed_offset l w r v x takes f p = subst (λ (o : Option ℕ). IsOffset l w o p.offset) (sym p.named) (inr (own_followed l r v takes f p.symbol p.named, p.is))

own_offset_from : (l : Layout) (w : World) (r : InputRelocation) (x : ℕ) → (p : HasOwnPlace l w r x) → IsOwnOffset l w r.symbol p.offset
own_offset_from l w r x p = subst (λ (o : Option ℕ). IsOwnOffset l w o p.offset) (sym p.named) p.is

pub gives_pointer : (info : RelocationKindInfo) → info.kind ≡ kinds.TpOff → RowGives info
gives_pointer info kind = λ l w m s r x h f.
    let a = offset_row PointerOffset kinds.TpOff l w m s r info x h kind refl refl (λ z. sized_is z PointerOffset refl) in
    let p = pointer_given l w m s r info x h kind a.sum in
    subst (λ (v : Value). Gives v l w m s r x) (sym a.value) (p.offset, followed_offset l w r PointerOffset x tt (subst (λ (v : Value). IsFollowed l r v) a.value f) p, p.sum)

pub links_pointer : (info : RelocationKindInfo) → info.kind ≡ kinds.TpOff → RowGivesLinked info
links_pointer info kind = λ l w m s r x i h named whose alone.
    let a = offset_row PointerOffset kinds.TpOff l w m s r info x h kind refl refl (λ z. sized_is z PointerOffset refl) in
    let p = pointer_given l w m s r info x h kind a.sum in
    subst (λ (v : Value). GivesLinked v l w s r x) (sym a.value) (p.offset, own_offset_from l w r x p, p.sum)

-- ---- in the own module

-- the place, and what offsets in the module count from
record HasModulePlace (l : Layout) (w : World) (r : InputRelocation) (x : ℕ) : Type 0 where
  pub symbol : ℕ
  pub named : r.symbol ≡ Some symbol
  pub offset : ℕ
  pub is : HasOwnOffset l w symbol offset
  pub begin : ℕ
  pub counted : IsOffsetBase l.machine l.kind w begin
  pub sum : x ≡ (offset + more r + (2 ^ 64 - begin)) % 2 ^ 64

storage_program : (l : Layout) → l.machine ≡ machine.X86_64 → IsExecutable l.kind → storage_start l ≡ thread_pointer l.machine l.tls
storage_program l x86 program = rw (x86, executable_is l.kind program) refl

-- elsewhere offsets count from the data
record CountsFromData (l : Layout) : Type 0 where
  pub start : storage_start l ≡ l.tls.start
  pub base : (w : World) (d : ℕ) → HasDistance w d → IsOffsetBase l.machine l.kind w d

storage_cases : (l : Layout) → IsLoadable l.kind → ((l.machine ≡ machine.X86_64) × IsExecutable l.kind) ⊎ CountsFromData l
storage_cases l loads = by_machine l.machine refl
  where
    by_kind : l.machine ≡ machine.X86_64 → IsExecutable l.kind ⊎ (l.kind ≡ output.SharedObject) → ((l.machine ≡ machine.X86_64) × IsExecutable l.kind) ⊎ CountsFromData l
    by_kind x86 (inl program) = inl (x86, program)
    by_kind x86 (inr library) = inr (record { start = rw (x86, library) refl; base = λ w d h. library_base l.machine l.kind w d x86 library h })

    by_machine : (k : Machine) → l.machine ≡ k → ((l.machine ≡ machine.X86_64) × IsExecutable l.kind) ⊎ CountsFromData l
    by_machine machine.X86_64 e = by_kind e (loadable_cases l.kind loads)
    by_machine machine.AArch64 e = inr (record { start = rw e refl; base = λ w d h. subst (λ (k : Machine). IsOffsetBase k l.kind w d) (sym e) (data_base l.kind w d h) })

program_place : (l : Layout) (w : World) (m : Memory) (r : InputRelocation) (x i term : ℕ) → IsPlaced l w m → l.machine ≡ machine.X86_64 → IsExecutable l.kind → r.symbol ≡ Some i → offset_from (storage_start l) (raw_address l (Some i)) ≡ Ok term → (term + more r) % 2 ^ 64 ≡ x → HasModulePlace l w r x
program_place l w m r x i term p x86 program named given value =
    let given' = subst (λ (n : ℕ). offset_from n (raw_address l (Some i)) ≡ Ok term) (storage_program l x86 program) given in
    let o = placed_offset l w m i term p (p.legal.first program) given' in
    record { symbol = i; named = named; offset = o.offset; is = o.is; begin = 0; counted = own_base l.machine l.kind w x86 program; sum = sym value ∙ sym (o.sum (more r)) ∙ whole (o.offset + more r) }
  where
    whole : (n : ℕ) → n % 2 ^ 64 ≡ (n + (2 ^ 64 - 0)) % 2 ^ 64
    whole n = omega arith

library_sum : (d raw start a x : ℕ) → d < 2 ^ 64 → ((raw + (2 ^ 64 - start)) % 2 ^ 64 + a) % 2 ^ 64 ≡ x → x ≡ ((d + raw + (2 ^ 64 - start)) % 2 ^ 64 + a + (2 ^ 64 - d)) % 2 ^ 64
library_sum d raw start a x low e = omega (arith, low, e)

data_place : (l : Layout) (w : World) (m : Memory) (r : InputRelocation) (x i term : ℕ) → IsPlaced l w m → CountsFromData l → r.symbol ≡ Some i → offset_from (storage_start l) (raw_address l (Some i)) ≡ Ok term → (term + more r) % 2 ^ 64 ≡ x → HasModulePlace l w r x
data_place l w m r x i term p counts named given value =
    let given' = subst (λ (n : ℕ). offset_from n (raw_address l (Some i)) ≡ Ok term) counts.start given in
    let a = behind_given l.tls.start term (raw_address l (Some i)) given' in
    let raw = has_raw l i a.0 (address_given l (Some i) a.0 a.1) in
    let k = p.legal.symbols.known in
    let d = cast_unsigned w64 k.distance in
    let own = distance_known w w.own_module k in
    let here = ap (λ (n : ℕ). (n + more r) % 2 ^ 64) a.2 ∙ value in
    record {
      symbol = i;
      named = named;
      offset = (d + a.0 + (2 ^ 64 - l.tls.start)) % 2 ^ 64;
      is = inl (placed_thread l w i a.0 d own raw);
      begin = d;
      counted = counts.base w d own;
      sum = library_sum d a.0 l.tls.start (more r) x (distance_below w w.own_module k) here;
    }

module_given : (l : Layout) (w : World) (m : Memory) (s : Item) (r : InputRelocation) (info : RelocationKindInfo) (x : ℕ) → (h : HasTerm l w m s r info x) → info.kind ≡ kinds.DtpOff → (h.term + more r) % 2 ^ 64 ≡ x → HasModulePlace l w r x
module_given l w m s r info x h kind sum =
    let treated = subst (λ (k : RelocationKind). kind_treatment l s.flags h.number r.symbol h.row k ≡ treatments.Value h.row) kind h.treated in
    let i = symbol_named r.symbol (λ i. treatments.Value h.row) h.row treated in
    let plain = plain_term l w m s r info x h (ap (λ (k : RelocationKind). adds_symbol (expression_of k).term) kind) in
    let here : offset_from (storage_start l) (raw_address l r.symbol) ≡ Ok h.term = subst (λ (k : RelocationKind). term_of l r.symbol k ≡ Ok h.term) kind plain in
    let given : offset_from (storage_start l) (raw_address l (Some i.0)) ≡ Ok h.term = subst (λ (o : Option ℕ). offset_from (storage_start l) (raw_address l o) ≡ Ok h.term) i.1 here in
    elim (storage_cases l h.placed.loadable) [
      | inl program ↦ program_place l w m r x i.0 h.term h.placed program.0 program.1 i.1 given sum
      | inr counts ↦ data_place l w m r x i.0 h.term h.placed counts i.1 given sum
    ]

pub gives_offset : (info : RelocationKindInfo) → info.kind ≡ kinds.DtpOff → RowGives info
gives_offset info kind = λ l w m s r x h f.
    let a = offset_row ModuleOffset kinds.DtpOff l w m s r info x h kind refl refl (λ z. sized_is z ModuleOffset refl) in
    let p = module_given l w m s r info x h kind a.sum in
    let own = own_followed l r ModuleOffset tt (subst (λ (v : Value). IsFollowed l r v) a.value f) p.symbol p.named in
    subst (λ (v : Value). Gives v l w m s r x) (sym a.value) (p.offset, p.begin, subst (λ (o : Option ℕ). IsOffset l w o p.offset) (sym p.named) (inr (own, p.is)), p.counted, p.sum)

pub links_offset : (info : RelocationKindInfo) → info.kind ≡ kinds.DtpOff → RowGivesLinked info
links_offset info kind = λ l w m s r x i h named whose alone.
    let a = offset_row ModuleOffset kinds.DtpOff l w m s r info x h kind refl refl (λ z. sized_is z ModuleOffset refl) in
    let p = module_given l w m s r info x h kind a.sum in
    subst (λ (v : Value). GivesLinked v l w s r x) (sym a.value) (p.offset, p.begin, subst (λ (o : Option ℕ). IsOwnOffset l w o p.offset) (sym p.named) p.is, p.counted, p.sum)
