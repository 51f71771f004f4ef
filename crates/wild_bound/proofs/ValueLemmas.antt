-- The value of a symbol that another module may define is that of its definition.
use Rattle.wild_bound.proofs.Common.{◌≡◌, ℕ, ◌≤◌, inl, inr, true, false, List, [], sym, ap, ◌∙◌, arith, subst, Option, Some, None, Ok, slice_get_within, Layout, Resolution, Symbol, LayoutsAreLaidOut, Answer, World, well_formed, IsSymbol, may_be_replaced, Definition, NamedImage, BindsAreFirst, bind, no_answer}
use Rattle.wild_layout.specs.Faults.{errors}
use Rattle.wild_laws.proofs.Symbols.{one_symbol}
use Rattle.wild_meaning.specs.Value.{IsReplaceable, HasAnswer}
use Rattle.wild_space.specs.BoundLaws.{SpacesAreMade}
use Rattle.wild_space.specs.Binds.{answer_for}
use Rattle.wild_bound.specs.Values.{HasBoundValue, HasLinkedValue, BoundValuesAreDefinitions}
use Rattle.wild_bound.proofs.AnswerLemmas.{answered}
use Rattle.wild_bound.proofs.LegalLemmas.{IsMadeWorld, made_world}

-- a symbol is replaceable or not
not_both : (l : Layout) (i : ℕ) → IsReplaceable l i true → IsReplaceable l i false → ⊥
not_both l i may may_not =
    let same = one_symbol l i may.definition may_not.definition may.symbol may_not.symbol may.defined may_not.defined may.listed may_not.listed in
    let both : true ≡ false = sym may.told ∙ ap (λ (s : Symbol). may_be_replaced l.kind s.flags) same ∙ may_not.told in
    cc

by_definition : BindsAreFirst → (xs : List NamedImage) (order : List ℕ) (rs : List (ℕ × ℕ)) (n k : ℕ) (o : Option Definition) (made : Answer) → bind xs order n k ≡ Ok o → answer_for xs order rs o ≡ Ok made → HasBoundValue xs order rs n k made.address
by_definition law xs order rs n k None made is made_is =
    let same : no_answer ≡ made = cc in
    inl (is, ap (λ (q : Answer). q.address) (sym same))
by_definition law xs order rs n k (Some d) made is made_is =
    let a = answered xs order rs d made made_is in
    inr (record {
      definition = d;
      is = law xs order n k d is;
      address = record { entry = a.entry; there = a.there; start = a.start; starts = a.starts; is = a.address };
    })

pub values_are : BindsAreFirst → SpacesAreMade → LayoutsAreLaidOut → BoundValuesAreDefinitions
values_are first made laid = λ xs rs b n i a l some is h replaced value. elim value [
  | inl v ↦ by_answer xs rs b.order n i a l h.world (made_world xs rs b n h.world ((made xs rs b some is).1 n h.inside) h.has_world) (indexed l h.is.none) v.1 v.2 v.3
  | inr v ↦ absurd (not_both l i replaced v.0)
]
  where
    Indexed : Layout → Type 0
    Indexed l = (c p : ℕ) (s : Symbol) (r : Resolution) → IsSymbol l c s → s.resolution ≡ Some r → r.dynamic_symbol_index ≡ Some p → 1 ≤ p

    indexed : (l : Layout) → errors l ≡ [] → Indexed l
    indexed l none = λ c p s r listed decided index. (
        let formed = well_formed l none in
        let e = (laid l formed.0 formed.1).dynsyms.indexed c p s r listed decided index in
        let place = e.1 in
        omega (arith, place))

    by_answer : (xs : List NamedImage) (rs : List (ℕ × ℕ)) (order : List ℕ) (n i a : ℕ) (l : Layout) (w : World) → IsMadeWorld xs rs order n w → Indexed l → (x : Answer) → HasAnswer l w i x → a ≡ x.address → HasLinkedValue xs order rs n l i a
    by_answer xs rs order n i a l w m each x q e =
        let k = q.index in
        let low = each q.definition k q.symbol q.resolution q.listed q.decided q.told in
        let inside = slice_get_within w.symbols k x q.given in
        let many = m.many in
        let s = m.each k low (omega (arith, low, inside, many)) in
        let answers : Some s.answer ≡ Some x = sym s.answered ∙ q.given in
        let answer : s.answer ≡ x = cc in
        let address : s.made.address ≡ a = sym s.same.address ∙ ap (λ (y : Answer). y.address) answer ∙ sym e in
        record {
          index = k;
          has_index = record { definition = q.definition; defined = q.defined; symbol = q.symbol; listed = q.listed; resolution = q.resolution; decided = q.decided; index = q.told };
          value = subst (λ (v : ℕ). HasBoundValue xs order rs n k v) address (by_definition first xs order rs n k s.definition s.made s.bound s.is_made);
        }
