-- What legal worlds have of a symbol that is told by its flags and its index.
use Rattle.wild_meaning.proofs.Common.{◌≡◌, ℕ, ◌<◌, true, false, length, sym, ◌∙◌, arith, Option, Some, None, option_and_then, Resolution, Symbol, has_flag, ifunc, World, HasResolver, IsAnswered}

-- no resolver answers for it
pub not_indirect : (w : World) (s : Symbol) → has_flag s.flags ifunc ≡ false → HasResolver w s
not_indirect w s none i = absurd (let both : true ≡ false = sym i ∙ none in cc)

abbrev pub index_of : Symbol → Option ℕ
index_of s = option_and_then (λ (r : Resolution). r.dynamic_symbol_index) s.resolution

-- no index, and one below the number of answers
pub no_index : (w : World) (s : Symbol) → index_of s ≡ None → IsAnswered w s
no_index w s none r index decided told = absurd (let both : None ≡ Some index = sym none ∙ (rw decided told) in cc)

pub one_index : (w : World) (s : Symbol) (k : ℕ) → index_of s ≡ Some k → k < length w.symbols → IsAnswered w s
one_index w s k is lt r index decided told = let both : Some k ≡ Some index = sym is ∙ (rw decided told) in let same : k ≡ index = cc in omega (arith, same, lt)
