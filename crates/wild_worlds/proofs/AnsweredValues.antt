-- The values of symbols whose resolvers answer, and of those that the world answers.
use Rattle.wild_worlds.proofs.Common.{◌≡◌, ℕ, ◌+◌, ◌%◌, ◌^◌, inl, inr, true, refl, sym, ap, ◌∙◌, subst, Ok, Symbol, Layout, has_flag, absolute, ifunc, World, answer_at, IsDefinedBy, HasRaw, HasFlag, HasResolver, IsLegal, one_symbol, own_value}
use Rattle.wild_words.proofs.ListLemmas.{holds_at}
use Rattle.wild_meaning.specs.Value.{IsResolved, HasOwnValue}
use Rattle.wild_meaning.specs.World.{IsAnsweredOnce}
use Rattle.wild_worlds.specs.Symbols.{ResolversAnswer, WorldsAnswer}
use Rattle.wild_laws.proofs.Symbols.{one_answer, some_flag, given_value, answered_value}
use Rattle.wild_worlds.proofs.Resolvers.{once_answered}

with_answer : (l : Layout) (w : World) (i raw a : ℕ) → HasRaw l i raw → HasFlag l i ifunc true → answer_at w ((w.base + raw) % 2 ^ 64) ≡ Ok a → HasOwnValue l w i a
with_answer l w i raw a h f answered = let still = some_flag l i ifunc absolute true f in record { raw = raw; given = h; indirect = true; resolved = f; still = still.0; absolute = still.1; is = answered }

-- the world has one answer of the resolver of a symbol that was decided
answered_once : (l : Layout) (w : World) (i c raw : ℕ) → IsLegal l w → IsDefinedBy l i c → IsResolved l c raw → HasFlag l i ifunc true → IsAnsweredOnce w ((w.base + raw) % 2 ^ 64)
answered_once l w i c raw legal d res f =
    let same = one_symbol l i f.definition c f.symbol res.symbol f.defined d f.listed res.listed in
    let flagged : has_flag res.symbol.flags ifunc ≡ true = sym (ap (λ (s : Symbol). has_flag s.flags ifunc) same) ∙ f.flagged in
    subst (λ (n : ℕ). IsAnsweredOnce w ((w.base + n) % 2 ^ 64)) (sym res.value) (holds_at (HasResolver w) l.symbols c res.symbol res.listed legal.resolvers flagged res.resolution res.decided)

-- an own one's value, whose resolver answers it
own_answer : (l : Layout) (w : World) (i a : ℕ) → HasFlag l i ifunc true → HasOwnValue l w i a → (raw : ℕ) × HasRaw l i raw × (answer_at w ((w.base + raw) % 2 ^ 64) ≡ Ok a)
own_answer l w i a f h = (h.raw, h.given, answered_value l w i a h f)

pub resolvers_answer : ResolversAnswer
resolvers_answer = record {
  value = λ l w i raw a own h f answered. inr (own, with_answer l w i raw a h f answered);
  alone = λ l w i a own h f. own_answer l w i a f (own_value l w i a own h);
  there = λ l w i c raw legal own d res f.
      (let once = answered_once l w i c raw legal d res f in
      (once.answer, inr (own, with_answer l w i raw once.answer (record { definition = c; defined = d; given = inl res }) f (once_answered w ((w.base + raw) % 2 ^ 64) once.answer once.pair)), once.fits));
}

pub worlds_answer : WorldsAnswer
worlds_answer = record {
  value = λ l w i x other h. inl (other, x, h, refl);
  alone = given_value;
  one = one_answer;
  own = λ l w i x legal own h. inr (own, (legal.symbols.own i x own h).address);
}
