-- What was decided of the symbols of plans has their flags.
use Rattle.std.proofs.Common.{◌≡◌, ℕ, List, Ok, Option, Some, None, refl, subst}
use Rattle.std.specs.Prelude.{option_map}
use Rattle.serde_json.specs.Data.{Data}
use Rattle.wild_types.specs.ResolvedFlags.{HasItsFlags}
use Rattle.wild_types.specs.declared.symbol.Resolution.{Resolution}
use Rattle.wild_types.specs.declared.symbol.Symbol.{Symbol}
use Rattle.wild_text.specs.Symbols.{with_flags, with_flags_in_resolution, symbol_members, symbol_in}
use Rattle.wild_text.proofs.FieldLemmas.{first_step, given_same}

-- the resolution that a symbol with these flags has, if any, has its flags
resolved : (s : Symbol) (found : Option Resolution) (r : Resolution) → option_map (with_flags s.flags) found ≡ Some r → r.flags ≡ s.flags
resolved s None r e = absurd cc
resolved s (Some found) r e =
    let same : with_flags s.flags found ≡ r = cc in
    subst (λ (x : Resolution). x.flags ≡ s.flags) same refl

flagged_has : (s : Symbol) → HasItsFlags (with_flags_in_resolution s)
flagged_has s = resolved s s.resolution

-- each symbol that a plan gives
pub own_symbol : (d : Data) (s : Symbol) → symbol_in d ≡ Ok s → HasItsFlags s
unfolding symbol_in
own_symbol d s e =
    let m = first_step (symbol_members d) _ s e in
    subst HasItsFlags (given_same (with_flags_in_resolution m.0) s m.2) (flagged_has m.0)
