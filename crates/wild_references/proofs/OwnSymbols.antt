-- The symbols that no other module may replace: their values are the output's own.
use Rattle.wild_references.proofs.Common.{◌≡◌, ℕ, ◌<◌, inr, Bool, true, false, Some, Ok, length, sym, ap, ◌∙◌, subst, slice_get_inside, ValueFlags, Layout, has_flag, interposable, absolute, dynamic, flags_at, raw_address, symbol_is_ifunc, address_of, Memory, World, HasValue, IsAbsolute, IsReplaceable, with_base, SymbolsFit, IsPlaced}
use Rattle.wild_references.proofs.SlotFlags.{symbol_fits, dynamic_interposable, listed_at}
use Rattle.wild_references.proofs.Symbols.{replaceable_at, flags_are}
use Rattle.wild_references.proofs.Targets.{raw_addressed}
use Rattle.wild_references.proofs.ThreadSlots.{fixed_flags}

-- no loader takes such a symbol from another module
pub own_symbol : (l : Layout) (i : ℕ) → SymbolsFit l → i < length l.symbols → interposable (flags_at l i) ≡ false → IsReplaceable l i false
own_symbol l i fit listed own =
    let z = slice_get_inside l.symbols i listed in
    let whose = replaceable_at l i z.0 fit.named z.1 in
    let f = flags_are l i whose.definition whose.symbol whose.defined whose.listed in
    let fits = symbol_fits l i whose.symbol fit (listed_at l i whose.definition whose.symbol whose.defined whose.listed) in
    let open_one : has_flag (flags_at l i) dynamic ≡ true → interposable (flags_at l i) ≡ true = λ d.
    ap (λ (x : ValueFlags). interposable x) f ∙ dynamic_interposable whose.symbol fits.interposable (sym (ap (λ (x : ValueFlags). has_flag x dynamic) f) ∙ d) in
    subst (λ (b : Bool). IsReplaceable l i b) (fixed_flags l (flags_at l i) open_one own) whose

-- its value: the address that the layout has, moved with the base where it moves
pub record IsOwnValue (l : Layout) (w : World) (i a : ℕ) : Type 0 where
  pub still : Bool
  pub value : HasValue l w i (with_base still w.base a)
  pub flag : has_flag (flags_at l i) absolute ≡ still
  pub absolute : still ≡ true → IsAbsolute l i

pub own_value : (l : Layout) (w : World) (m : Memory) (i a : ℕ) → IsPlaced l w m → i < length l.symbols → interposable (flags_at l i) ≡ false → symbol_is_ifunc l i ≡ false → address_of l (Some i) ≡ Ok a → IsOwnValue l w i a
own_value l w m i a p listed own direct given =
    let raw : raw_address l (Some i) ≡ Ok a = rw direct at given in
    let t = raw_addressed l w m i a p direct raw in
    record { still = t.still; value = inr (own_symbol l i p.symbols listed own, t.value); flag = t.flag; absolute = t.absolute }
