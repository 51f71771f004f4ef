use Rattle.std.proofs.Common.{◌≡◌, ◌-◌}
use Rattle.wild_space.specs.Given.{steps}
use Rattle.wild_space.specs.Binds.{null_alone, with_symbol}
use Rattle.wild_space.proofs.symbols.symbols_of.Given as goal

abbrev pub invariant-loop-index : goal.invariant-loop-index
invariant-loop-index l =
    steps (with_symbol l.space.images.now l.space.order l.space.resolvers.now l.copies l.n) (l.count - l.index) l.index l.symbols
    ≡ steps (with_symbol l.space.images.now l.space.order l.space.resolvers.now l.copies l.n) (l.count - 1) 1 null_alone
