-- What the judge says of a symbol, as the layout has it.
use Rattle.wild_geometry.proofs.Common.{◌≡◌, ℕ, Bool, refl, ap, ◌∙◌, Layout}
use Rattle.wild_types.specs.declared.symbol.ValueFlags.{ValueFlags}
use Rattle.wild_types.specs.Flags.{has_flag}
use Rattle.wild_slot.specs.Treatment.{flags_at}
use Rattle.wild_meaning.specs.Value.{HasFlag}
use Rattle.wild_meaning.proofs.SymbolLemmas.{canonical_is}

-- the flag of the definition of a symbol is the one that the writer tests
pub flag_is : (l : Layout) (i flag : ℕ) (b : Bool) → HasFlag l i flag b → has_flag (flags_at l i) flag ≡ b
flag_is l i flag b h =
    let e = canonical_is l i h.definition h.defined in
    let listed = h.listed in
    let same : flags_at l i ≡ h.symbol.flags = rw (e, listed) refl in
    ap (λ (f : ValueFlags). has_flag f flag) same ∙ h.flagged
