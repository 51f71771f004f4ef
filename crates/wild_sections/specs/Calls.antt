-- Calls and jumps of x86-64 that go to their symbol directly.
--   IsCalled l s r i   relocation r of code names symbol i, and rewriting is on
use Rattle.std.specs.Prelude.{◌≡◌, ℕ, ◌≤◌, true, length, Some}
use Rattle.wild_types.specs.declared.input.InputRelocation.{InputRelocation}
use Rattle.wild_types.specs.declared.layout.Layout.{Layout}
use Rattle.wild_types.specs.Item.{Item}
use Rattle.wild_types.specs.Lookups.{executable}

-- the relocation is in the item's code and names the symbol, and rewriting is on
pub record IsCalled (l : Layout) (s : Item) (r : InputRelocation) (i : ℕ) : Type 0 where
  pub named : r.symbol ≡ Some i
  pub relax : l.options.relax ≡ true
  pub code : executable s.flags ≡ true
  pub within : r.offset ≤ length s.bytes
