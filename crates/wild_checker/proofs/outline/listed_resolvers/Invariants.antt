use Rattle.wild_checker.proofs.Common.{◌≡◌, take}
use Rattle.std.specs.List.{filter_map}
use Rattle.wild_checker.specs.Outline.{resolver_of}
use Rattle.wild_checker.proofs.outline.listed_resolvers.Given as goal

abbrev pub invariant-loop-symbol : goal.invariant-loop-symbol
invariant-loop-symbol l = l.addresses.items ≡ filter_map resolver_of (take l.symbol-index l.symbols)
