-- What the world answers for a symbol is its value: another module's, or the output's own.
use Rattle.wild_references.proofs.Common.{◌≡◌, ℕ, ◌+◌, ◌-◌, ◌%◌, ◌^◌, inl, inr, Bool, true, false, Some, Ok, refl, arith, subst, holds_at, Resolution, Layout, canonical, distance_of, Answer, World, HasRaw, HasAnswer, HasValue, IsReplaceable, may_be_replaced, IsAnswer}
use Rattle.wild_meaning.specs.Value.{HasSize}
use Rattle.wild_meaning.specs.Thread.{HasThreadOffset}
use Rattle.wild_meaning.specs.World.{AnswersSymbols}
use Rattle.wild_references.proofs.EntryWords.{IsAnsweredBy}
use Rattle.wild_references.proofs.Symbols.{IsResolvedBy}

-- the answer for the index that was decided of a symbol
pub has_answer : (l : Layout) (w : World) (i d : ℕ) (r : Resolution) → IsResolvedBy l i r → r.dynamic_symbol_index ≡ Some d → (a : IsAnsweredBy w d) → HasAnswer l w i a.answer
has_answer l w i d r by told a = record { definition = canonical l i; defined = by.defined; symbol = by.symbol; listed = by.listed; resolution = r; decided = by.decided; index = d; told = told; given = a.there }

-- whose symbol it is
answer_whose : (l : Layout) (w : World) (i : ℕ) (x : Answer) → (h : HasAnswer l w i x) → IsReplaceable l i (may_be_replaced l.kind h.symbol.flags)
answer_whose l w i x h = record { definition = h.definition; defined = h.defined; symbol = h.symbol; listed = h.listed; told = refl }

pub answered_value : (l : Layout) (w : World) (i : ℕ) (x : Answer) → AnswersSymbols l w → HasAnswer l w i x → HasValue l w i x.address
answered_value l w i x a h = by_whose (may_be_replaced l.kind h.symbol.flags) (answer_whose l w i x h)
  where
    by_whose : (b : Bool) → IsReplaceable l i b → HasValue l w i x.address
    by_whose true whose = inl (whose, x, h, refl)
    by_whose false whose = inr (whose, (a.own i x whose h).address)

pub answered_size : (l : Layout) (w : World) (i : ℕ) (x : Answer) → AnswersSymbols l w → HasAnswer l w i x → HasSize l w i x.size
answered_size l w i x a h = by_whose (may_be_replaced l.kind h.symbol.flags) (answer_whose l w i x h)
  where
    by_whose : (b : Bool) → IsReplaceable l i b → HasSize l w i x.size
    by_whose true whose = inl (whose, x, h, refl)
    by_whose false whose = inr (whose, (a.own i x whose h).size)

pub place_same : (d offset raw start : ℕ) → offset ≡ (raw + (2 ^ 64 - start)) % 2 ^ 64 → (d + offset) % 2 ^ 64 ≡ (d + raw + (2 ^ 64 - start)) % 2 ^ 64
place_same d offset raw start e = omega (arith, e)

-- the distance of its module and its offset there
pub answered_offset : (l : Layout) (w : World) (i raw d : ℕ) (x : Answer) → AnswersSymbols l w → HasAnswer l w i x → HasRaw l i raw → distance_of w x.module ≡ Ok d → HasThreadOffset l w i ((d + x.offset) % 2 ^ 64)
answered_offset l w i raw d x a h given known = by_whose (may_be_replaced l.kind h.symbol.flags) (answer_whose l w i x h)
  where
    by_whose : (b : Bool) → IsReplaceable l i b → HasThreadOffset l w i ((d + x.offset) % 2 ^ 64)
    by_whose true whose = inl (whose, record { answer = x; given = h; distance = d; known = known; sum = refl })
    by_whose false whose =
        let own = a.own i x whose h in
        inr (whose, inl (record { raw = raw; given = given; distance = d; own = subst (λ (n : ℕ). distance_of w n ≡ Ok d) own.owner known; sum = place_same d x.offset raw l.tls.start (own.offset raw given) }))

-- an answer's module is known
pub answer_fits : (l : Layout) (w : World) (d : ℕ) → AnswersSymbols l w → (a : IsAnsweredBy w d) → IsAnswer w a.answer
answer_fits l w d s a = holds_at (IsAnswer w) w.symbols d a.answer a.there s.each
