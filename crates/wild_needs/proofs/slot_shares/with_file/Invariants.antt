use Rattle.std.proofs.Common.{◌≡◌, ℕ, List, ◌++◌, take}
use Rattle.std.specs.List.{flat_map}
use Rattle.wild_needs.specs.SlotShares.{relr_got_places, block_of}
use Rattle.wild_needs.proofs.slot_shares.with_file.Given as goal

abbrev pub invariant-loop-symbol : goal.invariant-loop-symbol
invariant-loop-symbol l = (ps : List ℕ) → l.initial.block ≡ block_of ps → l.block ≡ block_of (ps ++ flat_map (relr_got_places l.layout) (take l.symbol-index l.symbol-items))
