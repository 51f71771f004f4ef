-- What the layout says of a symbol is one thing.
use Rattle.wild_laws.proofs.Common.{◌≡◌, ℕ, ◌+◌, ◌%◌, ◌^◌, ◌⊎◌, inl, inr, Bool, true, false, refl, sym, ap, ◌∙◌, subst, Option, Some, None, Ok, slice_get, Layout, World}
use Rattle.wild_types.specs.declared.symbol.Resolution.{Resolution}
use Rattle.wild_types.specs.declared.symbol.Symbol.{Symbol}
use Rattle.wild_types.specs.Flags.{has_flag, absolute, ifunc}
use Rattle.wild_loader.specs.Changes.{answer_at}
use Rattle.wild_loader.specs.declared.world.Answer.{Answer}
use Rattle.wild_meaning.specs.Value.{IsSymbol, IsDefinedBy, HasFlag, HasOwnValue, HasAnswer, HasValue, IsReplaceable, IsValue, with_base, may_be_replaced}

-- a symbol has one definition
pub one_definition : (l : Layout) (i c d : ℕ) → IsDefinedBy l i c → IsDefinedBy l i d → c ≡ d
one_definition l i c d h g = cases l i c d h.symbol g.symbol h.listed g.listed h.defined g.defined
  where
    cases : (l : Layout) (i c d : ℕ) (s t : Symbol) → IsSymbol l i s → IsSymbol l i t → (s.definition ≡ Some c) ⊎ ((s.definition ≡ None) × (c ≡ i)) → (t.definition ≡ Some d) ⊎ ((t.definition ≡ None) × (d ≡ i)) → c ≡ d
    cases l i c d s t a b e f = by_definition i c d s.definition e (subst (λ (x : Symbol). (x.definition ≡ Some d) ⊎ ((x.definition ≡ None) × (d ≡ i))) (let same : Some t ≡ Some s = sym b ∙ a in let e : t ≡ s = cc in e) f)
      where
        by_definition : (i c d : ℕ) (o : Option ℕ) → (o ≡ Some c) ⊎ ((o ≡ None) × (c ≡ i)) → (o ≡ Some d) ⊎ ((o ≡ None) × (d ≡ i)) → c ≡ d
        by_definition i c d o (inl e) (inl f) = cc
        by_definition i c d o (inl e) (inr f) = absurd (let g : Some c ≡ None = sym e ∙ f.0 in cc)
        by_definition i c d o (inr e) (inl f) = absurd (let g : Some d ≡ None = sym f ∙ e.0 in cc)
        by_definition i c d o (inr e) (inr f) = e.1 ∙ sym f.1

pub one_symbol : (l : Layout) (i c d : ℕ) (s t : Symbol) → IsDefinedBy l i c → IsDefinedBy l i d → IsSymbol l c s → IsSymbol l d t → s ≡ t
one_symbol l i c d s t h g a b =
    let there = subst (λ (k : ℕ). IsSymbol l k s) (one_definition l i c d h g) a in
    let both : Some s ≡ Some t = sym there ∙ b in
    cc

-- whether a symbol's definition has a flag is one thing
pub one_flag : (l : Layout) (i flag : ℕ) (b c : Bool) → HasFlag l i flag b → HasFlag l i flag c → b ≡ c
one_flag l i flag b c h g = sym h.flagged ∙ ap (λ (s : Symbol). has_flag s.flags flag) (one_symbol l i h.definition g.definition h.symbol g.symbol h.defined g.defined h.listed g.listed) ∙ g.flagged

pub not_both : (l : Layout) (i flag : ℕ) → HasFlag l i flag true → HasFlag l i flag false → ⊥
not_both l i flag h g = let both : true ≡ false = one_flag l i flag true false h g in cc

-- each flag is there or not, where a definition is
pub some_flag : (l : Layout) (i flag other : ℕ) (b : Bool) → HasFlag l i flag b → (c : Bool) × HasFlag l i other c
some_flag l i flag other b h = (has_flag h.symbol.flags other, record { definition = h.definition; defined = h.defined; symbol = h.symbol; listed = h.listed; flagged = refl })

-- whether a symbol may be another module's is one thing
pub one_owner : (l : Layout) (i : ℕ) (b c : Bool) → IsReplaceable l i b → IsReplaceable l i c → b ≡ c
one_owner l i b c h g = sym h.told ∙ ap (λ (s : Symbol). may_be_replaced l.kind s.flags) (one_symbol l i h.definition g.definition h.symbol g.symbol h.defined g.defined h.listed g.listed) ∙ g.told

pub not_replaceable : (l : Layout) (i : ℕ) → IsReplaceable l i true → IsReplaceable l i false → ⊥
not_replaceable l i h g = let both : true ≡ false = one_owner l i true false h g in cc

-- ---- values

-- the value of a symbol that is the output's own
pub own_value : (l : Layout) (w : World) (i a : ℕ) → IsReplaceable l i false → HasValue l w i a → HasOwnValue l w i a
own_value l w i a own (inl h) = absurd (not_replaceable l i h.0 own)
own_value l w i a own (inr h) = h.1

-- and of one that may be another module's
pub given_value : (l : Layout) (w : World) (i a : ℕ) → IsReplaceable l i true → HasValue l w i a → (x : Answer) × HasAnswer l w i x × (a ≡ x.address)
given_value l w i a other (inl h) = (h.1, h.2, h.3)
given_value l w i a other (inr h) = absurd (not_replaceable l i other h.0)

-- a world has one answer for a symbol
pub one_answer : (l : Layout) (w : World) (i : ℕ) (x y : Answer) → HasAnswer l w i x → HasAnswer l w i y → x ≡ y
one_answer l w i x y h g =
    let same = one_symbol l i g.definition h.definition g.symbol h.symbol g.defined h.defined g.listed h.listed in
    by_index l w i x y h g (subst (λ (s : Symbol). s.resolution ≡ Some g.resolution) same g.decided)
  where
    by_index : (l : Layout) (w : World) (i : ℕ) (x y : Answer) → (h : HasAnswer l w i x) → (g : HasAnswer l w i y) → h.symbol.resolution ≡ Some g.resolution → x ≡ y
    by_index l w i x y h g decided =
        let both : Some h.resolution ≡ Some g.resolution = sym h.decided ∙ decided in
        let same : h.resolution ≡ g.resolution = cc in
        let told : h.resolution.dynamic_symbol_index ≡ Some g.index = subst (λ (r : Resolution). r.dynamic_symbol_index ≡ Some g.index) (sym same) g.told in
        let index : Some h.index ≡ Some g.index = sym h.told ∙ told in
        let at : h.index ≡ g.index = cc in
        let given : Some x ≡ Some y = sym h.given ∙ subst (λ (k : ℕ). slice_get w.symbols k ≡ Some y) (sym at) g.given in
        cc

-- the value of one of the output's own that is no IFUNC
pub plain_value : (l : Layout) (w : World) (i a : ℕ) → (h : HasOwnValue l w i a) → HasFlag l i ifunc false → a ≡ with_base h.still w.base h.raw
plain_value l w i a h f = subst (λ (b : Bool). IsValue w b h.still h.raw a) (one_flag l i ifunc h.indirect false h.resolved f) h.is

-- where it moves
pub moved_value : (l : Layout) (w : World) (i a : ℕ) → (h : HasOwnValue l w i a) → HasFlag l i ifunc false → HasFlag l i absolute false → a ≡ (w.base + h.raw) % 2 ^ 64
moved_value l w i a h f g = plain_value l w i a h f ∙ ap (λ (b : Bool). with_base b w.base h.raw) (one_flag l i absolute h.still false h.absolute g)

-- of an IFUNC it is the answer
pub answered_value : (l : Layout) (w : World) (i a : ℕ) → (h : HasOwnValue l w i a) → HasFlag l i ifunc true → answer_at w ((w.base + h.raw) % 2 ^ 64) ≡ Ok a
answered_value l w i a h f = subst (λ (b : Bool). IsValue w b h.still h.raw a) (one_flag l i ifunc h.indirect true h.resolved f) h.is
