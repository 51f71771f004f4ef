-- The state of a writer after a prefix of it was requested.
--   PrefixOrNone w r   if there was no room for a prefix, the writer is unchanged; otherwise it is as the prefix left it
use Rattle.std.specs.Prelude.{◌≡◌, Result}
use Rattle.std.specs.Borrow.{Fml, MutBor, RestsIfErr}
use Rattle.wild_types.specs.declared.fault.Error.{Error}
use Rattle.wild_symbols.specs.declared.writer.SymbolTableWriter.{SymbolTableWriter}
use Rattle.wild_symbols.specs.declared.prefix.SymbolTablePrefix.{SymbolTablePrefix}
use Rattle.wild_symbols.specs.contracts.writer.SymbolTableWriter.{the_row}

abbrev pub PrefixOrNone : MutBor SymbolTableWriter → Result SymbolTablePrefix Error → Fml
PrefixOrNone w r = RestsIfErr the_row w (λ p. p.writer.ghost_name) r (λ n. n ≡ w.now)
