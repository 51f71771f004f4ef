-- What an entry stores in a world is the value of its term.
use Rattle.std.proofs.Common.{◌≡◌, ℕ, ℤ, ◌+◌, ◌-◌, ◌%◌, ◌^◌, ◌<◌, Bool, true, false, ◌&&◌, refl, arith, ap, sym, ◌∙◌}
use Rattle.std.specs.Prelude.{◌==◌, Option, Some, None, Ok, Err, slice_get, unwrap_or, if◌then◌else◌}
use Rattle.std.specs.Int.{cast_unsigned, w64}
use Rattle.std.proofs.lemmas.Bool.{eqb-true}
use Rattle.wild_records.specs.declared.relocations.Rela.{Rela}
use Rattle.wild_loader.specs.declared.fault.LoadFault.{LoadFault}
use Rattle.wild_loader.specs.declared.fault.LoadFault.TheVariants as faults
use Rattle.wild_loader.specs.declared.kind.DynamicKind.{DynamicKind}
use Rattle.wild_loader.specs.declared.kind.DynamicKind.TheVariants as kinds
use Rattle.wild_loader.specs.declared.change.Change.{Change}
use Rattle.wild_loader.specs.declared.change.Change.TheVariants as loaded
use Rattle.wild_loader.specs.declared.world.World.{World}
use Rattle.wild_loader.specs.declared.world.Answer.{Answer}
use Rattle.wild_loader.specs.Outcome.{◌>>=◌, known}
use Rattle.wild_loader.specs.Changes.{first_value, answer_of, answer_at, sum_with_addend, module_and_offset, thread_offset, change_of}
use Rattle.wild_loader.proofs.EntryLemmas.{stepped, same-ok}
use Rattle.wild_terms.specs.declared.term.Atom.{Atom}
use Rattle.wild_terms.specs.declared.term.Atom.TheVariants.{Zero, Base, Address, Module, Offset, ThreadOffset, Size, OwnModule, OwnDistance, Resolver}
use Rattle.wild_terms.specs.declared.term.Term.{Term}
use Rattle.wild_terms.specs.declared.outline.KnownAnswer.{KnownAnswer}
use Rattle.wild_terms.specs.declared.outline.KnownAnswer.TheVariants.{Foreign, Own}
use Rattle.wild_terms.specs.declared.outline.Outline.{Outline}
use Rattle.wild_terms.specs.declared.outline.TermChange.{TermChange}
use Rattle.wild_terms.specs.declared.outline.TermChange.TheVariants as changes
use Rattle.wild_terms.specs.Terms.{number_term, atom_term, sum, same_atom}
use Rattle.wild_terms.specs.Outline.{has_resolver, based, module_by, own_module, distance_by, own_distance, answer_for, address_of, module_of, offset_of, thread_offset_of, size_of, resolver_term, module_term, thread_offset_term, addend_of, change_terms}
use Rattle.wild_terms.specs.Values.{no_answer, answer_or, unsigned_or, distance_or, value_of, IsAnswered, IsWorldOf}
use Rattle.wild_terms.specs.Laws.{SumsAreValues, DifferencesAreValues, SameTermsAreEqual}

-- ---- arithmetic

pub sums_are : SumsAreValues
sums_are w t n = omega arith

pub same_is : (a b : Atom) → same_atom a b ≡ true → a ≡ b
same_is Zero Zero h = refl
same_is Base Base h = refl
same_is (Address i) (Address j) h = ap Address (eqb-true i j h)
same_is (Module i) (Module j) h = ap Module (eqb-true i j h)
same_is (Offset i) (Offset j) h = ap Offset (eqb-true i j h)
same_is (ThreadOffset i) (ThreadOffset j) h = ap ThreadOffset (eqb-true i j h)
same_is (Size i) (Size j) h = ap Size (eqb-true i j h)
same_is OwnModule OwnModule h = refl
same_is OwnDistance OwnDistance h = refl
same_is (Resolver m) (Resolver n) h = ap Resolver (eqb-true m n h)
same_is a b h = cc

apart_sum : (v m n d : ℕ) → n < 2 ^ 64 → (m + (2 ^ 64 - n)) % 2 ^ 64 ≡ d → ((v + m) % 2 ^ 64 + (2 ^ 64 - (v + n) % 2 ^ 64)) % 2 ^ 64 ≡ d
apart_sum v m n d h e = omega arith

pub differences_are : DifferencesAreValues
differences_are w s t d l h = by_test (same_atom s.atom t.atom) refl h
  where
    by_test : (b : Bool) → same_atom s.atom t.atom ≡ b → (if b then Some ((s.plus + (2 ^ 64 - t.plus)) % 2 ^ 64) else None) ≡ Some d → (value_of w s + (2 ^ 64 - value_of w t)) % 2 ^ 64 ≡ d
    by_test true e h = let a = same_is s.atom t.atom e in let f : (s.plus + (2 ^ 64 - t.plus)) % 2 ^ 64 ≡ d = cc in rw a (apart_sum _ s.plus t.plus d l f)
    by_test false e h = cc

both : (a b : Bool) → (a && b) ≡ true → (a ≡ true) × (b ≡ true)
both true b h = (refl, h)
both false b h = cc

pub same_terms : SameTermsAreEqual
same_terms s t h =
    let b = both (same_atom s.atom t.atom) (s.plus == t.plus) h in
    let first : s ≡ record { atom = t.atom; plus = s.plus } = ap (λ (a : Atom). record { atom = a; plus = s.plus }) (same_is s.atom t.atom b.0) in
    let second : record { atom = t.atom; plus = s.plus } ≡ t = ap (λ (n : ℕ). record { atom = t.atom; plus = n }) (eqb-true s.plus t.plus b.1) in
    first ∙ second

-- ---- what the output has

pub based_is : (o : Outline) (w : World) (n : ℕ) → IsWorldOf o w → value_of w (based o n) ≡ (w.base + n) % 2 ^ 64
based_is o w n l = by_test o.movable refl
  where
    by_test : (b : Bool) → o.movable ≡ b → value_of w (if b then record { atom = Base; plus = n } else number_term n) ≡ (w.base + n) % 2 ^ 64
    by_test true e = refl
    by_test false e = let b = l.fixed e in rw b refl

small : (n : ℕ) → n < 2 ^ 64 → n ≡ (n + 0) % 2 ^ 64
small n h = omega arith

pub own_module_is : (o : Outline) (w : World) → IsWorldOf o w → w.own_module ≡ value_of w (own_module o)
own_module_is o w l = by_program o.program refl
  where
    by_program : (p : Option ℕ) → o.program ≡ p → w.own_module ≡ value_of w (module_by p)
    by_program None e = small w.own_module l.owner
    by_program (Some d) e = let h = (l.program d e).owner in omega (arith, h)

pub own_distance_is : (o : Outline) (w : World) → IsWorldOf o w → value_of w (own_distance o) ≡ distance_or w w.own_module % 2 ^ 64
own_distance_is o w l = by_program o.program refl
  where
    by_program : (p : Option ℕ) → o.program ≡ p → value_of w (distance_by p) ≡ distance_or w w.own_module % 2 ^ 64
    by_program None e = omega arith
    by_program (Some d) e = let h = (l.program d e).is in omega (arith, h)

-- ---- answers

known_is : {A : Type 0} (o : Option A) (e : LoadFault) (x : A) → known o e ≡ Ok x → o ≡ Some x
known_is None e x h = cc
known_is (Some y) e x h = cc

-- the answer for an index that an outline has
answered_at : (o : Outline) (w : World) (i : ℕ) (a : KnownAnswer) → IsWorldOf o w → answer_for o i ≡ Ok a → IsAnswered w i a
answered_at o w i a l h = l.answered i a (known_is (slice_get o.symbols i) (faults.UnknownSymbol i) a h)

part_is : (f : Answer → ℕ) (w : World) (i : ℕ) (x : Answer) → slice_get w.symbols i ≡ Some x → f x < 2 ^ 64 → f x ≡ (f (answer_or w i) + 0) % 2 ^ 64
part_is f w i x e h = small (f x) h ∙ ap (λ (o : Option Answer). (f (unwrap_or o no_answer) + 0) % 2 ^ 64) (sym e)

pub address_is : (w : World) (i : ℕ) (a : KnownAnswer) → (k : IsAnswered w i a) → k.answer.address ≡ value_of w (address_of i a)
address_is w i Foreign k = part_is (λ x. x.address) w i k.answer k.given k.known.address
address_is w i (Own address offset size) k = k.agrees.0

pub module_is : (o : Outline) (w : World) (i : ℕ) (a : KnownAnswer) → IsWorldOf o w → (k : IsAnswered w i a) → k.answer.module ≡ value_of w (module_of o i a)
module_is o w i Foreign l k = part_is (λ x. x.module) w i k.answer k.given k.known.owner
module_is o w i (Own address offset size) l k = k.agrees.1 ∙ own_module_is o w l

pub offset_is : (w : World) (i : ℕ) (a : KnownAnswer) → (k : IsAnswered w i a) → k.answer.offset ≡ value_of w (offset_of i a)
offset_is w i Foreign k = part_is (λ x. x.offset) w i k.answer k.given k.known.offset
offset_is w i (Own address offset size) k = let e = k.agrees.2 in let h = k.known.offset in omega (arith, e, h)

pub size_is : (w : World) (i : ℕ) (a : KnownAnswer) → (k : IsAnswered w i a) → k.answer.size ≡ value_of w (size_of i a)
size_is w i Foreign k = part_is (λ x. x.size) w i k.answer k.given k.known.size
size_is w i (Own address offset size) k = let e = k.agrees.3 in let h = k.known.size in omega (arith, e, h)

answer_same : (w : World) (i : ℕ) (x : Answer) → slice_get w.symbols i ≡ Some x → answer_or w i ≡ x
answer_same w i x e = ap (λ (o : Option Answer). unwrap_or o no_answer) e

-- the offset from the thread pointer
pub thread_offset_is : (o : Outline) (w : World) (i : ℕ) (a : KnownAnswer) → IsWorldOf o w → (k : IsAnswered w i a) → (distance_or w k.answer.module + k.answer.offset) % 2 ^ 64 ≡ value_of w (thread_offset_of o i a)
thread_offset_is o w i Foreign l k =
    let same = answer_same w i k.answer k.given in
    let whole : (distance_or w (answer_or w i).module + (answer_or w i).offset) % 2 ^ 64 ≡ (distance_or w k.answer.module + k.answer.offset) % 2 ^ 64 = ap (λ (x : Answer). (distance_or w x.module + x.offset) % 2 ^ 64) same in
    omega (arith, whole)
thread_offset_is o w i (Own address offset size) l k =
    let e = ap (distance_or w) k.agrees.1 in
    let f = k.agrees.2 in
    let g = own_distance_is o w l in
    let s = sums_are w (own_distance o) offset in
    omega (arith, e, f, g, s)

-- ---- entries

-- the change of symbolic loading, in a world
abbrev pub change_by : World → TermChange → Change
change_by w (changes.Word t) = loaded.Word (value_of w t)
change_by w (changes.Half t) = loaded.Half (value_of w t % 2 ^ 32)
change_by w (changes.Descriptor t) = loaded.Descriptor (value_of w t)

-- the change of an entry that uses an answer
by_answer : (o : Outline) (w : World) (i : ℕ) (c : TermChange) (g : KnownAnswer → TermChange) (f : Answer → Change) → IsWorldOf o w → ((a : KnownAnswer) (k : IsAnswered w i a) → f k.answer ≡ change_by w (g a)) → (answer_for o i >>= λ a. Ok (g a)) ≡ Ok c → (answer_of w i >>= λ x. Ok (f x)) ≡ Ok (change_by w c)
by_answer o w i c g f l each h =
    let b = stepped (answer_for o i) (λ a. Ok (g a)) c h in
    let k = answered_at o w i b.value l b.was in
    let given = k.given in
    let start : (answer_of w i >>= λ x. Ok (f x)) ≡ Ok (f k.answer) = rw given refl in
    start ∙ ap Ok (each b.value k ∙ ap (change_by w) (same-ok (g b.value) c b.next))

plus_is : (w : World) (t : Term) (v : ℕ) (r : Rela) → v ≡ value_of w t → sum_with_addend v r ≡ value_of w (sum t (addend_of r))
plus_is w t v r e = ap (λ n. sum_with_addend n r) e ∙ sym (sums_are w t (addend_of r))

-- the module and the offset of an index, and the distance of the module
record Place (w : World) (i : ℕ) (t : Term) : Type 0 where
  owner : ℕ
  offset : ℕ
  given : module_and_offset w i ≡ Ok (owner, offset)
  distance : ℤ
  known : first_value w.modules owner ≡ Some distance
  is : (cast_unsigned w64 distance + offset) % 2 ^ 64 ≡ value_of w t

pub distance_is : (w : World) (m : ℕ) (d : ℤ) → first_value w.modules m ≡ Some d → distance_or w m ≡ cast_unsigned w64 d
distance_is w m d e = ap unsigned_or e

place_is : (o : Outline) (w : World) (i : ℕ) (t : Term) → IsWorldOf o w → thread_offset_term o i ≡ Ok t → Place w i t
place_is o w i t l h = by_test (i == 0) refl h
  where
    by_test : (b : Bool) → (i == 0) ≡ b → (if b then Ok (own_distance o) else (answer_for o i >>= λ a. Ok (thread_offset_of o i a))) ≡ Ok t → Place w i t
    by_test true e h =
        let same : own_distance o ≡ t = cc in
        let f = own_distance_is o w l in
        let d = distance_is w w.own_module l.distance l.known in
        let v : (cast_unsigned w64 l.distance + 0) % 2 ^ 64 ≡ value_of w (own_distance o) = omega (arith, f, d) in
        record { owner = w.own_module; offset = 0; given = rw e refl; distance = l.distance; known = l.known; is = v ∙ ap (value_of w) same }
    by_test false e h =
        let b = stepped (answer_for o i) (λ a. Ok (thread_offset_of o i a)) t h in
        let k = answered_at o w i b.value l b.was in
        let given = k.given in
        let g : module_and_offset w i ≡ Ok (k.answer.module, k.answer.offset) = rw (e, given) refl in
        let d = distance_is w k.answer.module k.known.distance k.known.known in
        let same : thread_offset_of o i b.value ≡ t = same-ok (thread_offset_of o i b.value) t b.next in
        record { owner = k.answer.module; offset = k.answer.offset; given = g; distance = k.known.distance; known = k.known.known; is = ap (λ n. (n + k.answer.offset) % 2 ^ 64) (sym d) ∙ thread_offset_is o w i b.value l k ∙ ap (value_of w) same }

thread_is : (o : Outline) (w : World) (r : Rela) (t : Term) → IsWorldOf o w → thread_offset_term o r.symbol ≡ Ok t → thread_offset w r ≡ Ok (value_of w (sum t (addend_of r)))
thread_is o w r t l h =
    let p = place_is o w r.symbol t l h in
    let g = p.given in
    let d = p.known in
    let start : thread_offset w r ≡ Ok (sum_with_addend ((cast_unsigned w64 p.distance + p.offset) % 2 ^ 64) r) = rw (g, d) refl in
    start ∙ ap Ok (plus_is w t _ r p.is)

module_value : (o : Outline) (w : World) (i : ℕ) (t : Term) → IsWorldOf o w → module_term o i ≡ Ok t → (module_and_offset w i >>= λ m. Ok (loaded.Word m.0)) ≡ Ok (loaded.Word (value_of w t))
module_value o w i t l h = by_test (i == 0) refl h
  where
    by_test : (b : Bool) → (i == 0) ≡ b → (if b then Ok (own_module o) else (answer_for o i >>= λ a. Ok (module_of o i a))) ≡ Ok t → (module_and_offset w i >>= λ m. Ok (loaded.Word m.0)) ≡ Ok (loaded.Word (value_of w t))
    by_test true e h =
        let same : own_module o ≡ t = cc in
        let start : (module_and_offset w i >>= λ m. Ok (loaded.Word m.0)) ≡ Ok (loaded.Word w.own_module) = rw e refl in
        start ∙ ap (λ n. Ok (loaded.Word n)) (own_module_is o w l ∙ ap (value_of w) same)
    by_test false e h =
        let b = stepped (answer_for o i) (λ a. Ok (module_of o i a)) t h in
        let k = answered_at o w i b.value l b.was in
        let given = k.given in
        let same : module_of o i b.value ≡ t = same-ok (module_of o i b.value) t b.next in
        let start : (module_and_offset w i >>= λ m. Ok (loaded.Word m.0)) ≡ Ok (loaded.Word k.answer.module) = rw (e, given) refl in
        start ∙ ap (λ n. Ok (loaded.Word n)) (module_is o w i b.value l k ∙ ap (value_of w) same)

resolver_value : (o : Outline) (w : World) (r : Rela) (t : Term) → IsWorldOf o w → resolver_term o (addend_of r) ≡ Ok t → answer_at w (sum_with_addend w.base r) ≡ Ok (value_of w t)
resolver_value o w r t l h = by_test (has_resolver o (addend_of r)) refl h
  where
    by_test : (b : Bool) → has_resolver o (addend_of r) ≡ b → (if b then Ok (atom_term (Resolver (addend_of r))) else Err (faults.NoAnswer (addend_of r))) ≡ Ok t → answer_at w (sum_with_addend w.base r) ≡ Ok (value_of w t)
    by_test true e h =
        let v = l.resolvers (addend_of r) e in
        let given = v.given in
        let same : atom_term (Resolver (addend_of r)) ≡ t = cc in
        let start : answer_at w (sum_with_addend w.base r) ≡ Ok v.answer = rw given refl in
        start ∙ ap Ok (small v.answer v.fits ∙ ap (λ (o : Option ℕ). (unwrap_or o 0 + 0) % 2 ^ 64) (sym given) ∙ ap (value_of w) same)
    by_test false e h = cc

-- the change of an entry in a world is that of its terms
pub change_is : (o : Outline) (w : World) (kind : DynamicKind) (r : Rela) (c : TermChange) → IsWorldOf o w → change_terms o kind r ≡ Ok c → change_of w kind r ≡ Ok (change_by w c)
unfolding change_terms change_of
change_is o w kinds.Relative r c l h =
    let same = same-ok (changes.Word (based o (addend_of r))) c h in
    ap (λ n. Ok (loaded.Word n)) (sym (based_is o w (addend_of r) l)) ∙ ap (λ x. Ok (change_by w x)) same
change_is o w kinds.Symbol r c l h = by_answer o w r.symbol c (λ a. changes.Word (address_of r.symbol a)) (λ x. loaded.Word x.address) l (λ a k. ap loaded.Word (address_is w r.symbol a k)) h
change_is o w kinds.SymbolPlus r c l h = by_answer o w r.symbol c (λ a. changes.Word (sum (address_of r.symbol a) (addend_of r))) (λ x. loaded.Word (sum_with_addend x.address r)) l (λ a k. ap loaded.Word (plus_is w (address_of r.symbol a) _ r (address_is w r.symbol a k))) h
change_is o w kinds.Resolved r c l h =
    let b = stepped (resolver_term o (addend_of r)) (λ t. Ok (changes.Word t)) c h in
    let e = resolver_value o w r b.value l b.was in
    let same = same-ok (changes.Word b.value) c b.next in
    let start : change_of w kinds.Resolved r ≡ Ok (loaded.Word (value_of w b.value)) = rw e refl in
    start ∙ ap (λ x. Ok (change_by w x)) same
change_is o w kinds.Module r c l h =
    let b = stepped (module_term o r.symbol) (λ t. Ok (changes.Word t)) c h in
    let same = same-ok (changes.Word b.value) c b.next in
    module_value o w r.symbol b.value l b.was ∙ ap (λ x. Ok (change_by w x)) same
change_is o w kinds.ModuleOffset r c l h = by_answer o w r.symbol c (λ a. changes.Word (sum (offset_of r.symbol a) (addend_of r))) (λ x. loaded.Word (sum_with_addend x.offset r)) l (λ a k. ap loaded.Word (plus_is w (offset_of r.symbol a) _ r (offset_is w r.symbol a k))) h
change_is o w kinds.ThreadOffset r c l h =
    let b = stepped (thread_offset_term o r.symbol) (λ t. Ok (changes.Word (sum t (addend_of r)))) c h in
    let e = thread_is o w r b.value l b.was in
    let same = same-ok (changes.Word (sum b.value (addend_of r))) c b.next in
    let start : change_of w kinds.ThreadOffset r ≡ Ok (loaded.Word (value_of w (sum b.value (addend_of r)))) = rw e refl in
    start ∙ ap (λ x. Ok (change_by w x)) same
change_is o w kinds.Descriptor r c l h =
    let b = stepped (thread_offset_term o r.symbol) (λ t. Ok (changes.Descriptor (sum t (addend_of r)))) c h in
    let e = thread_is o w r b.value l b.was in
    let same = same-ok (changes.Descriptor (sum b.value (addend_of r))) c b.next in
    let start : change_of w kinds.Descriptor r ≡ Ok (loaded.Descriptor (value_of w (sum b.value (addend_of r)))) = rw e refl in
    start ∙ ap (λ x. Ok (change_by w x)) same
change_is o w kinds.Copy r c l h = cc
change_is o w kinds.Size32 r c l h = by_answer o w r.symbol c (λ a. changes.Half (sum (size_of r.symbol a) (addend_of r))) (λ x. loaded.Half (sum_with_addend x.size r % 2 ^ 32)) l (λ a k. ap (λ n. loaded.Half (n % 2 ^ 32)) (plus_is w (size_of r.symbol a) _ r (size_is w r.symbol a k))) h
change_is o w kinds.Size64 r c l h = by_answer o w r.symbol c (λ a. changes.Word (sum (size_of r.symbol a) (addend_of r))) (λ x. loaded.Word (sum_with_addend x.size r)) l (λ a k. ap loaded.Word (plus_is w (size_of r.symbol a) _ r (size_is w r.symbol a k))) h
