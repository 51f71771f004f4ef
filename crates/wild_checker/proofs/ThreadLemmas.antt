-- The terms of thread-local offsets have the offsets' values.
use Rattle.wild_checker.proofs.Common.{◌≡◌, ℕ, ℤ, ◌+◌, ◌-◌, ◌%◌, ◌^◌, ◌<◌, inl, inr, Bool, true, false, ◌||◌, refl, sym, ap, ◌∙◌, arith, subst, Option, Some, None, Ok, if◌then◌else◌, not, slice_get, option_map, w64, eqb-true, and_parts, or_cases, not-true, File, Machine, OutputKind, Symbol, canonical, World, first_value, HasRaw, may_be_replaced, own_definition, first_filtered, Term, number_term, sum, difference, value_of, sums_are, differences_are, IndexedAnswer, Loaded, raw_in, index_of, known_answer, thread_term, may_be_zero}
use Rattle.std.specs.Int.{cast_unsigned}
use Rattle.wild_records.proofs.FieldLemmas.{signed_fits}
use Rattle.wild_types.specs.declared.kind.Machine.TheVariants as machine
use Rattle.wild_types.specs.declared.kind.OutputKind.TheVariants as output
use Rattle.wild_types.specs.declared.symbol.Place.{Place}
use Rattle.wild_types.specs.declared.symbol.Place.TheVariants as at
use Rattle.wild_loader.specs.declared.fault.LoadFault.TheVariants as faults
use Rattle.wild_loader.specs.Changes.{distance_of}
use Rattle.wild_loader.specs.Outcome.{◌>>=◌, known}
use Rattle.wild_meaning.specs.Thread.{HasDistance, IsThreadPlace, HasThreadOffset, IsOffsetBase}
use Rattle.wild_meaning.specs.Value.{IsUndefined}
use Rattle.wild_meaning.proofs.WorldLemmas.{distance_known}
use Rattle.wild_terms.specs.Outline.{distance_by, own_module, own_distance, module_of, offset_of, thread_offset_of}
use Rattle.wild_terms.specs.Values.{distance_or, unsigned_or}
use Rattle.wild_terms.proofs.ValueLemmas.{own_module_is, own_distance_is, module_is, offset_is, thread_offset_is, distance_is}
use Rattle.wild_checker.specs.Threads.{in_data, own_offset, own_thread_term, module_term, offset_term, is_undefined, is_zero, pointer_by, pointer_term, counts_from_pointer, relative_by, relative_term, begin_offset}
use Rattle.wild_checker.proofs.ValueLemmas.{Known, mapped, raw_is, answered_for, is_replaceable}

some_is : {X : Type 0} (x y : X) → (let o : Option X = Some x in o) ≡ Some y → x ≡ y
some_is x y h = cc

-- ---- distances of modules

-- the distance of the own module's data
record OwnDistance (k : Loaded) (w : World) : Type 0 where
  distance : ℕ
  known : HasDistance w distance
  low : distance < 2 ^ 64
  is : value_of w (own_distance k.outline) ≡ distance
  plus : (own_distance k.outline).plus < 2 ^ 64

own_distance_of : (k : Loaded) (f : File) (w : World) → Known k f w → OwnDistance k w
own_distance_of k f w n =
    let c = cast_unsigned w64 n.own.distance in
    let low = signed_fits w64 n.own.distance n.own.fits in
    let given : distance_or w w.own_module ≡ c = ap unsigned_or (first_filtered w.modules w.own_module n.own.distance n.own.pair) in
    let is = own_distance_is k.outline w n.world in
    record {
      distance = c;
      known = distance_known w w.own_module n.own;
      low = low;
      is = omega (arith, is, given, low);
      plus = by given low k.outline.program refl;
    }
  where
    plus_of : Term → ℕ
    plus_of t = t.plus

    by : distance_or w w.own_module ≡ cast_unsigned w64 n.own.distance → cast_unsigned w64 n.own.distance < 2 ^ 64 → (p : Option ℕ) → k.outline.program ≡ p → plus_of (distance_by p) < 2 ^ 64
    by given low None e = omega arith
    by given low (Some d) e = (let h = (n.world.program d e).is in omega (arith, h, given, low))

-- ---- the output's own data

record IsOwnPlace (k : Loaded) (w : World) (i : ℕ) (offset : ℕ) : Type 0 where
  raw : ℕ
  given : HasRaw k.layout i raw
  is : offset ≡ in_data k raw

own_place : (k : Loaded) (f : File) (w : World) (i n : ℕ) (d : Symbol) → Known k f w → slice_get k.layout.symbols (canonical k.layout i) ≡ Some d → own_offset k f i d ≡ Some n → IsOwnPlace k w i n
own_place k f w i n d known there h =
    let m = mapped (in_data k) (raw_in k f i d.resolution) n h in
    record { raw = m.from; given = known.raw k.layout i m.from (raw_is k f w i m.from d known there m.is); is = sym m.made }

place_sum : (c raw start n : ℕ) → n ≡ (raw + (2 ^ 64 - start)) % 2 ^ 64 → (c + n) % 2 ^ 64 ≡ (c + raw + (2 ^ 64 - start)) % 2 ^ 64
place_sum c raw start n e = omega (arith, e)

-- an offset in the own data, from the thread pointer
placed : (k : Loaded) (w : World) (i n c : ℕ) → HasDistance w c → IsOwnPlace k w i n → IsThreadPlace k.layout w i ((c + n) % 2 ^ 64)
placed k w i n c own p = record { raw = p.raw; given = p.given; distance = c; own = own; sum = place_sum c p.raw k.layout.tls.start n p.is }

own_thread : (k : Loaded) (f : File) (w : World) (i : ℕ) (d : Symbol) (t : Term) → Known k f w → slice_get k.layout.symbols (canonical k.layout i) ≡ Some d → own_thread_term k f i d ≡ Some t → IsThreadPlace k.layout w i (value_of w t)
own_thread k f w i d t n there h =
    let c = own_distance_of k f w n in
    let m = mapped (sum (own_distance k.outline)) (own_offset k f i d) t h in
    let p = placed k w i m.from c.distance c.known (own_place k f w i m.from d n there m.is) in
    let same : (c.distance + m.from) % 2 ^ 64 ≡ value_of w t = ap (λ (x : ℕ). (x + m.from) % 2 ^ 64) (sym c.is) ∙ sym (sums_are w (own_distance k.outline) m.from) ∙ ap (value_of w) m.made in
    subst (IsThreadPlace k.layout w i) same p

-- ---- whichever module defines the symbol

found_distance : (w : World) (m : ℕ) (x : ℤ) → first_value w.modules m ≡ Some x → distance_of w m ≡ Ok (cast_unsigned w64 x)
found_distance w m x h = ap (λ (o : Option ℤ). known o (faults.NoAnswer m) >>= λ y. Ok (cast_unsigned w64 y)) h

-- the offset of symbol i from the thread pointer
pub thread_is : (k : Loaded) (f : File) (w : World) (i : ℕ) (d : Symbol) (t : Term) → Known k f w → slice_get k.layout.symbols (canonical k.layout i) ≡ Some d → thread_term k f i d ≡ Some t → HasThreadOffset k.layout w i (value_of w t)
thread_is k f w i d t n there h = by (may_be_replaced k.layout.kind d.flags) refl h
  where
    by : (b : Bool) → may_be_replaced k.layout.kind d.flags ≡ b → (if b then option_map (λ a. thread_offset_of k.outline a.index a.answer) (known_answer k.outline (index_of d.resolution)) else own_thread_term k f i d) ≡ Some t → HasThreadOffset k.layout w i (value_of w t)
    by false e h = inr (is_replaceable k i d false there e, inl (own_thread k f w i d t n there h))
    by true e h =
        let m = mapped (λ (a : IndexedAnswer). thread_offset_of k.outline a.index a.answer) (known_answer k.outline (index_of d.resolution)) t h in
        let a = answered_for k w i d m.from n.world there m.is in
        let c = a.known.known.distance in
        let same : distance_or w a.known.answer.module ≡ cast_unsigned w64 c = distance_is w a.known.answer.module c a.known.known.known in
        let is = thread_offset_is k.outline w m.from.index m.from.answer n.world a.known ∙ ap (value_of w) m.made in
        inl (
          is_replaceable k i d true there e,
          record {
            answer = a.known.answer;
            given = a.given;
            distance = cast_unsigned w64 c;
            known = found_distance w a.known.answer.module c a.known.known.known;
            sum = sym is ∙ ap (λ (x : ℕ). (x + a.known.answer.offset) % 2 ^ 64) same;
          },
        )

-- it may be 0 for an own symbol that is undefined or at address 0
pub zero_is : (k : Loaded) (f : File) (w : World) (i : ℕ) (d : Symbol) → Known k f w → slice_get k.layout.symbols (canonical k.layout i) ≡ Some d → may_be_zero k f i d ≡ true → HasThreadOffset k.layout w i 0
zero_is k f w i d n there h =
    let both = and_parts (not (may_be_replaced k.layout.kind d.flags)) (is_undefined d.place || is_zero (raw_in k f i d.resolution)) h in
    let own = not-true (may_be_replaced k.layout.kind d.flags) both.0 in
    elim (or_cases (is_undefined d.place) (is_zero (raw_in k f i d.resolution)) both.1) [
      | inl u ↦ inr (is_replaceable k i d false there own, inr (inl (undefined k i d there u), refl))
      | inr z ↦ inr (is_replaceable k i d false there own, inr (inr (at_zero (raw_in k f i d.resolution) refl z), refl))
    ]
  where
    at_zero : (o : Option ℕ) → raw_in k f i d.resolution ≡ o → is_zero o ≡ true → HasRaw k.layout i 0
    at_zero None e z = cc
    at_zero (Some a) e z = subst (HasRaw k.layout i) (eqb-true a 0 z) (n.raw k.layout i a (raw_is k f w i a d n there e))

    nowhere : (p : Place) → is_undefined p ≡ true → p ≡ at.Undefined
    nowhere at.Undefined u = refl
    nowhere at.Absolute u = cc
    nowhere at.Common u = cc
    nowhere (at.Section x) u = cc
    nowhere (at.Output x) u = cc

    undefined : (k : Loaded) (i : ℕ) (d : Symbol) → slice_get k.layout.symbols (canonical k.layout i) ≡ Some d → is_undefined d.place ≡ true → IsUndefined k.layout i
    undefined k i d there u = record { definition = canonical k.layout i; defined = own_definition k.layout i d there; symbol = d; listed = there; nowhere = nowhere d.place u }

-- ---- pairs

-- a module and an offset there represent symbol i's offset from the thread pointer
pub record RepresentsPair (k : Loaded) (w : World) (i a b : ℕ) : Type 0 where
  pub distance : ℕ
  pub known : distance_of w a ≡ Ok distance
  pub has : HasThreadOffset k.layout w i ((distance + b) % 2 ^ 64)

pub pair_is : (k : Loaded) (f : File) (w : World) (i : ℕ) (d : Symbol) (x y : Term) → Known k f w → slice_get k.layout.symbols (canonical k.layout i) ≡ Some d → module_term k d ≡ Some x → offset_term k f i d ≡ Some y → RepresentsPair k w i (value_of w x) (value_of w y)
pair_is k f w i d x y n there first second = by (may_be_replaced k.layout.kind d.flags) refl first second
  where
    one : (a b : IndexedAnswer) → (let o : Option IndexedAnswer = Some a in o) ≡ Some b → a ≡ b
    one a b e = cc

    small : (a b : ℕ) → (a + (0 + b) % 2 ^ 64) % 2 ^ 64 ≡ (a + b) % 2 ^ 64
    small a b = omega arith

    by : (b : Bool) → may_be_replaced k.layout.kind d.flags ≡ b → (if b then option_map (λ a. module_of k.outline a.index a.answer) (known_answer k.outline (index_of d.resolution)) else Some (own_module k.outline)) ≡ Some x → (if b then option_map (λ a. offset_of a.index a.answer) (known_answer k.outline (index_of d.resolution)) else option_map number_term (own_offset k f i d)) ≡ Some y → RepresentsPair k w i (value_of w x) (value_of w y)
    by false e first second =
        let c = own_distance_of k f w n in
        let m = mapped number_term (own_offset k f i d) y second in
        let p = placed k w i m.from c.distance c.known (own_place k f w i m.from d n there m.is) in
        let owner : w.own_module ≡ value_of w x = own_module_is k.outline w n.world ∙ ap (value_of w) (some_is (own_module k.outline) x first) in
        let offset : (c.distance + m.from) % 2 ^ 64 ≡ (c.distance + value_of w y) % 2 ^ 64 = sym (small c.distance m.from) ∙ ap (λ (t : Term). (c.distance + value_of w t) % 2 ^ 64) m.made in
        record {
          distance = c.distance;
          known = subst (λ (a : ℕ). distance_of w a ≡ Ok c.distance) owner c.known;
          has = inr (is_replaceable k i d false there e, inl (subst (IsThreadPlace k.layout w i) offset p));
        }
    by true e first second =
        let m = mapped (λ (a : IndexedAnswer). module_of k.outline a.index a.answer) (known_answer k.outline (index_of d.resolution)) x first in
        let o = mapped (λ (a : IndexedAnswer). offset_of a.index a.answer) (known_answer k.outline (index_of d.resolution)) y second in
        let same = one o.from m.from (sym o.is ∙ m.is) in
        let a = answered_for k w i d m.from n.world there m.is in
        let c = a.known.known.distance in
        let owner : a.known.answer.module ≡ value_of w x = module_is k.outline w m.from.index m.from.answer n.world a.known ∙ ap (value_of w) m.made in
        let offset : a.known.answer.offset ≡ value_of w y = offset_is w m.from.index m.from.answer a.known ∙ ap (λ (z : IndexedAnswer). value_of w (offset_of z.index z.answer)) (sym same) ∙ ap (value_of w) o.made in
        let given = found_distance w a.known.answer.module c a.known.known.known in
        record {
          distance = cast_unsigned w64 c;
          known = subst (λ (q : ℕ). distance_of w q ≡ Ok (cast_unsigned w64 c)) owner given;
          has = inl (is_replaceable k i d true there e, record { answer = a.known.answer; given = a.given; distance = cast_unsigned w64 c; known = given; sum = ap (λ (q : ℕ). (cast_unsigned w64 c + q) % 2 ^ 64) (sym offset) });
        }

-- ---- references

-- what offsets in the own module are relative to
zero_base : (m : Machine) (kind : OutputKind) (w : World) → counts_from_pointer m kind ≡ true → IsOffsetBase m kind w 0
zero_base machine.X86_64 (output.StaticExecutable x) w h = refl
zero_base machine.X86_64 (output.DynamicExecutable x) w h = refl
zero_base machine.X86_64 output.SharedObject w h = cc
zero_base machine.X86_64 output.PartialObject w h = cc
zero_base machine.AArch64 kind w h = cc

own_base : (m : Machine) (kind : OutputKind) (w : World) (b : ℕ) → counts_from_pointer m kind ≡ false → HasDistance w b → IsOffsetBase m kind w b
own_base machine.X86_64 (output.StaticExecutable x) w b h d = cc
own_base machine.X86_64 (output.DynamicExecutable x) w b h d = cc
own_base machine.X86_64 output.SharedObject w b h d = d
own_base machine.X86_64 output.PartialObject w b h d = d
own_base machine.AArch64 kind w b h d = d

-- symbol i's offset from the thread pointer; no other module may define it
pub record IsOwnPointer (k : Loaded) (w : World) (i t : ℕ) : Type 0 where
  pub definition : Symbol
  pub there : slice_get k.layout.symbols (canonical k.layout i) ≡ Some definition
  pub own : may_be_replaced k.layout.kind definition.flags ≡ false
  pub has : HasThreadOffset k.layout w i t

pub pointer_is : (k : Loaded) (f : File) (w : World) (i : ℕ) (t : Term) → Known k f w → pointer_term k f (Some i) ≡ Some t → IsOwnPointer k w i (value_of w t)
pointer_is k f w i t n h = by (slice_get k.layout.symbols (canonical k.layout i)) refl h
  where
    by_place : (d : Symbol) → slice_get k.layout.symbols (canonical k.layout i) ≡ Some d → may_be_replaced k.layout.kind d.flags ≡ false → (p : Place) → d.place ≡ p → (if is_undefined p then Some (number_term 0) else own_thread_term k f i d) ≡ Some t → HasThreadOffset k.layout w i (value_of w t)
    by_place d there own at.Undefined e h = subst (λ (x : Term). HasThreadOffset k.layout w i (value_of w x)) (some_is (number_term 0) t h) (inr (is_replaceable k i d false there own, inr (inl (record { definition = canonical k.layout i; defined = own_definition k.layout i d there; symbol = d; listed = there; nowhere = e }), refl)))
    by_place d there own at.Absolute e h = inr (is_replaceable k i d false there own, inl (own_thread k f w i d t n there h))
    by_place d there own at.Common e h = inr (is_replaceable k i d false there own, inl (own_thread k f w i d t n there h))
    by_place d there own (at.Section x) e h = inr (is_replaceable k i d false there own, inl (own_thread k f w i d t n there h))
    by_place d there own (at.Output x) e h = inr (is_replaceable k i d false there own, inl (own_thread k f w i d t n there h))

    by_own : (d : Symbol) → slice_get k.layout.symbols (canonical k.layout i) ≡ Some d → (b : Bool) → may_be_replaced k.layout.kind d.flags ≡ b → (if b then None else (if is_undefined d.place then Some (number_term 0) else own_thread_term k f i d)) ≡ Some t → IsOwnPointer k w i (value_of w t)
    by_own d there true e h = cc
    by_own d there false e h = record { definition = d; there = there; own = e; has = by_place d there e d.place refl h }

    by : (o : Option Symbol) → slice_get k.layout.symbols (canonical k.layout i) ≡ o → pointer_by k f i o ≡ Some t → IsOwnPointer k w i (value_of w t)
    by None there h = cc
    by (Some d) there h = by_own d there (may_be_replaced k.layout.kind d.flags) refl h

-- the offset of symbol i in its module, plus a number; no other module may define it
pub record IsOwnOffset (k : Loaded) (w : World) (i v : ℕ) : Type 0 where
  pub definition : Symbol
  pub there : slice_get k.layout.symbols (canonical k.layout i) ≡ Some definition
  pub own : may_be_replaced k.layout.kind definition.flags ≡ false
  pub pointer : ℕ
  pub has : HasThreadOffset k.layout w i pointer
  pub begin : ℕ
  pub base : IsOffsetBase k.layout.machine k.layout.kind w begin
  pub is : (a : ℕ) → (v + a) % 2 ^ 64 ≡ (pointer + a + (2 ^ 64 - begin)) % 2 ^ 64

pub relative_is : (k : Loaded) (f : File) (w : World) (i : ℕ) (t : Term) → Known k f w → relative_term k f (Some i) ≡ Some t → IsOwnOffset k w i (value_of w t)
relative_is k f w i t n h = by (slice_get k.layout.symbols (canonical k.layout i)) refl h
  where
    from_zero : (v a : ℕ) → (v + a) % 2 ^ 64 ≡ (v + a + (2 ^ 64 - 0)) % 2 ^ 64
    from_zero v a = omega arith

    from_base : (c n a : ℕ) → c < 2 ^ 64 → ((0 + n) % 2 ^ 64 + a) % 2 ^ 64 ≡ ((c + n) % 2 ^ 64 + a + (2 ^ 64 - c)) % 2 ^ 64
    from_base c n a low = omega (arith, low)

    by_base : (d : Symbol) → slice_get k.layout.symbols (canonical k.layout i) ≡ Some d → may_be_replaced k.layout.kind d.flags ≡ false → (b : Bool) → counts_from_pointer k.layout.machine k.layout.kind ≡ b → (if b then own_thread_term k f i d else option_map number_term (own_offset k f i d)) ≡ Some t → IsOwnOffset k w i (value_of w t)
    by_base d there own true e h = record {
      definition = d;
      there = there;
      own = own;
      pointer = value_of w t;
      has = inr (is_replaceable k i d false there own, inl (own_thread k f w i d t n there h));
      begin = 0;
      base = zero_base k.layout.machine k.layout.kind w e;
      is = from_zero (value_of w t);
    }
    by_base d there own false e h =
        let c = own_distance_of k f w n in
        let m = mapped number_term (own_offset k f i d) t h in
        let p = placed k w i m.from c.distance c.known (own_place k f w i m.from d n there m.is) in
        record {
          definition = d;
          there = there;
          own = own;
          pointer = (c.distance + m.from) % 2 ^ 64;
          has = inr (is_replaceable k i d false there own, inl p);
          begin = c.distance;
          base = own_base k.layout.machine k.layout.kind w c.distance e c.known;
          is = λ a. ap (λ (x : Term). (value_of w x + a) % 2 ^ 64) (sym m.made) ∙ from_base c.distance m.from a c.low;
        }

    by_own : (d : Symbol) → slice_get k.layout.symbols (canonical k.layout i) ≡ Some d → (b : Bool) → may_be_replaced k.layout.kind d.flags ≡ b → (if b then None else (if counts_from_pointer k.layout.machine k.layout.kind then own_thread_term k f i d else option_map number_term (own_offset k f i d))) ≡ Some t → IsOwnOffset k w i (value_of w t)
    by_own d there true e h = cc
    by_own d there false e h = by_base d there e (counts_from_pointer k.layout.machine k.layout.kind) refl h

    by : (o : Option Symbol) → slice_get k.layout.symbols (canonical k.layout i) ≡ o → relative_by k f i o ≡ Some t → IsOwnOffset k w i (value_of w t)
    by None there h = cc
    by (Some d) there h = by_own d there (may_be_replaced k.layout.kind d.flags) refl h

-- ---- the pair of the own module

-- a number in the own module represents what offsets there are relative to
pub record IsBegin (k : Loaded) (w : World) (v : ℕ) : Type 0 where
  pub distance : ℕ
  pub known : HasDistance w distance
  pub base : IsOffsetBase k.layout.machine k.layout.kind w ((distance + v) % 2 ^ 64)

pub begin_is : (k : Loaded) (f : File) (w : World) (n : ℕ) → Known k f w → begin_offset k ≡ Some n → IsBegin k w (value_of w (number_term n))
begin_is k f w n facts h = by (counts_from_pointer k.layout.machine k.layout.kind) refl h
  where
    c : OwnDistance k w
    c = own_distance_of k f w facts

    whole : (x n : ℕ) → x < 2 ^ 64 → (0 + (2 ^ 64 - x)) % 2 ^ 64 ≡ n → (x + (0 + n) % 2 ^ 64) % 2 ^ 64 ≡ 0
    whole x n low e = omega (arith, low, e)

    none : (x n : ℕ) → x < 2 ^ 64 → 0 ≡ n → x ≡ (x + (0 + n) % 2 ^ 64) % 2 ^ 64
    none x n low e = omega (arith, low, e)

    by : (b : Bool) → counts_from_pointer k.layout.machine k.layout.kind ≡ b → (if b then difference (number_term 0) (own_distance k.outline) else Some 0) ≡ Some n → IsBegin k w (value_of w (number_term n))
    by true e h =
        let d = differences_are w (number_term 0) (own_distance k.outline) n c.plus h in
        let zero = whole c.distance n c.low (ap (λ (x : ℕ). (0 + (2 ^ 64 - x)) % 2 ^ 64) (sym c.is) ∙ d) in
        record { distance = c.distance; known = c.known; base = subst (IsOffsetBase k.layout.machine k.layout.kind w) (sym zero) (zero_base k.layout.machine k.layout.kind w e) }
    by false e h =
        let same = none c.distance n c.low (some_is 0 n h) in
        record { distance = c.distance; known = c.known; base = own_base k.layout.machine k.layout.kind w ((c.distance + (0 + n) % 2 ^ 64) % 2 ^ 64) e (subst (HasDistance w) same c.known) }
