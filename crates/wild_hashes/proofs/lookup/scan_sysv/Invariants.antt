use Rattle.std.proofs.Common.{◌≡◌, ◌-◌}
use Rattle.wild_hashes.specs.Reading.{read, symbol_name}
use Rattle.wild_hashes.specs.LookUp.{chain_word, sysv_scan}
use Rattle.wild_hashes.proofs.lookup.scan_sysv.Given as goal

abbrev pub invariant-loop-i : goal.invariant-loop-i
invariant-loop-i l = sysv_scan (chain_word (read l.tables.hashes.now) l.at 0) (symbol_name l.tables.symbols.now l.tables.strings.now) l.name (l.count - l.i) l.index ≡ sysv_scan (chain_word (read l.tables.hashes.now) l.at 0) (symbol_name l.tables.symbols.now l.tables.strings.now) l.name l.count l.first
