-- Bytes that are found to be the same in every world are in memory.
use Rattle.wild_checker.proofs.Common.{◌≡◌, ℕ, ◌+◌, true, List, refl, sym, ap, ◌∙◌, arith, Option, Some, None, not, is_some, slice_index, Memory, World, Holds, Follows, Symbolic, first_changed, has_bytes}
use Rattle.wild_loader.specs.Memory.{byte_in}
use Rattle.wild_checker.proofs.SiteLemmas.{no_change}

has_none : {X : Type 0} (o : Option X) → not (is_some o) ≡ true → o ≡ None
has_none None h = refl
has_none (Some x) h = cc

pub bytes_held : (w : World) (m : Memory) (t : Symbolic) (a : ℕ) (bs : List ℕ) → Follows w t m → has_bytes t a bs ≡ true → Holds m (w.base + a) bs
bytes_held w m t a bs follows h k l =
    let known = no_change t a 0 bs (has_none (first_changed t a 0 bs) h) k l in
    let e : w.base + (a + (0 + k)) ≡ w.base + a + k = omega arith in
    ap (byte_in m) (sym e) ∙ follows.bytes (a + (0 + k)) (slice_index bs k) known
