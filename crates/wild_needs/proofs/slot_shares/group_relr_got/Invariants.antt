use Rattle.std.proofs.Common.{◌≡◌, take}
use Rattle.std.specs.List.{flat_map}
use Rattle.wild_types.specs.FileSymbols.{own_symbols}
use Rattle.wild_needs.specs.SlotShares.{relr_got_places, block_of}
use Rattle.wild_types.specs.declared.file.File.{File}
use Rattle.wild_needs.proofs.slot_shares.group_relr_got.Given as goal

abbrev pub invariant-loop-file : goal.invariant-loop-file
invariant-loop-file l = l.block ≡ block_of (flat_map (λ (f : File). flat_map (relr_got_places l.layout) (own_symbols l.layout f)) (take l.file-index l.file-items))
