-- Symbols that have a resolution.
use Rattle.wild_slots.proofs.Common.{◌≡◌, ℕ, true, Some, None, refl, Option, is_some, Resolution, Symbol, got_of, resolved_got}

-- a symbol with a slot has a resolution
pub has_resolution : (s : Symbol) (at : ℕ) → got_of s ≡ Some at → is_some s.resolution ≡ true
has_resolution s at g = by_resolution s.resolution g
  where
    by_resolution : (o : Option Resolution) → resolved_got o ≡ Some at → is_some o ≡ true
    by_resolution None h = cc
    by_resolution (Some r) h = refl
