-- What a legal world answers: dynamic symbols by their index, thread-local modules, and resolvers.
use Rattle.wild_loaded.proofs.Common.{◌≡◌, ℕ, ◌^◌, ◌<◌, ◌⊎◌, inl, inr, false, length, refl, sym, arith, subst, Some, Ok, ◌==◌, slice_get, w64, cases_Bool, eqb-true, All-contains, slice_get_within, listed_at, Resolution, Symbol, Layout, IsLaidOut, Answer, World, IsLegal, IsAnsweredOnce}
use Rattle.std.specs.Int.{cast_unsigned}
use Rattle.wild_words.proofs.Basics.{slice_get_inside}
use Rattle.wild_needs.specs.DynamicSymbols.{dynamic_symbols}
use Rattle.wild_loader.specs.Changes.{answer_at, module_and_offset, distance_of}
use Rattle.wild_meaning.specs.World.{IsAnswer, IsAnswered}
use Rattle.wild_meaning.proofs.WorldLemmas.{first_filtered, distance_known}

-- ---- pairs by their keys

pub answered : (w : World) (a : ℕ) → (h : IsAnsweredOnce w a) → answer_at w a ≡ Ok h.answer
answered w a h = rw (first_filtered w.resolvers a h.answer h.pair) refl

-- ---- dynamic symbols

-- the answer of an index
pub record IsGiven (w : World) (index : ℕ) : Type 0 where
  pub answer : Answer
  pub listed : slice_get w.symbols index ≡ Some answer
  pub is : IsAnswer w answer

pub given_answer : (l : Layout) (w : World) (index : ℕ) → IsLegal l w → index < length w.symbols → IsGiven w index
given_answer l w index legal h =
    let x = slice_get_inside w.symbols index h in
    record { answer = x.0; listed = x.1; is = All-contains (IsAnswer w) w.symbols x.0 legal.symbols.each (listed_at w.symbols index x.0 x.1) }

-- the index of a symbol has one
pub symbol_answer : (l : Layout) (w : World) (i index : ℕ) (s : Symbol) (r : Resolution) → IsLegal l w → slice_get l.symbols i ≡ Some s → s.resolution ≡ Some r → r.dynamic_symbol_index ≡ Some index → IsGiven w index
symbol_answer l w i index s r legal there is told = given_answer l w index legal (All-contains (IsAnswered w) l.symbols s legal.symbols.there (listed_at l.symbols i s there) r index is told)

-- ---- indexes

-- the index of a symbol has 32 bits
pub index_small : (l : Layout) (i index : ℕ) (s : Symbol) (r : Resolution) → IsLaidOut l → slice_get l.symbols i ≡ Some s → s.resolution ≡ Some r → r.dynamic_symbol_index ≡ Some index → index < 2 ^ 32
index_small l i index s r laid there is told =
    let e = laid.dynsyms.indexed i index s r there is told in
    let low = slice_get_within (dynamic_symbols l) e.0 i e.2 in
    let few = laid.indexes in
    let at = e.1 in
    omega (arith, low, few, at)

-- ---- modules

-- a module and an offset there, and its distance, for an index, which is 0 for the own module
pub record IsKnownPair (w : World) (index : ℕ) : Type 0 where
  pub pair : ℕ × ℕ
  pub given : module_and_offset w index ≡ Ok pair
  pub fits : pair.0 < 2 ^ 64
  pub distance : ℕ
  pub known : distance_of w pair.0 ≡ Ok distance

own_pair : (l : Layout) (w : World) → IsLegal l w → IsKnownPair w 0
own_pair l w legal = record {
  pair = (w.own_module, 0);
  given = refl;
  fits = legal.symbols.owner;
  distance = cast_unsigned w64 legal.symbols.known.distance;
  known = distance_known w w.own_module legal.symbols.known;
}

answer_pair : (w : World) (index : ℕ) → (index == 0) ≡ false → IsGiven w index → IsKnownPair w index
answer_pair w index other g =
    let is = g.is in
    record {
      pair = (g.answer.module, g.answer.offset);
      given = rw (other, g.listed) refl;
      fits = is.owner;
      distance = cast_unsigned w64 is.known.distance;
      known = distance_known w g.answer.module is.known;
    }

pub known_pair : (l : Layout) (w : World) (index : ℕ) → IsLegal l w → (index ≡ 0) ⊎ IsGiven w index → IsKnownPair w index
known_pair l w index legal (inl e) = subst (IsKnownPair w) (sym e) (own_pair l w legal)
known_pair l w index legal (inr g) =
    elim (cases_Bool (index == 0)) [
      | inl t ↦ subst (IsKnownPair w) (sym (eqb-true index 0 t)) (own_pair l w legal)
      | inr f ↦ answer_pair w index f g
    ]
