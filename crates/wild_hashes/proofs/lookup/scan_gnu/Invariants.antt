use Rattle.std.proofs.Common.{◌≡◌, ◌-◌, ◌+◌, ◌*◌, ◌≤◌, length}
use Rattle.wild_hashes.specs.Reading.{read, symbol_name}
use Rattle.wild_hashes.specs.LookUp.{chain_word, gnu_scan}
use Rattle.wild_hashes.proofs.lookup.scan_gnu.Given as goal

abbrev pub invariant-loop-i : goal.invariant-loop-i
invariant-loop-i l = record {
  same : gnu_scan (chain_word (read l.tables.hashes.now) l.at l.base) (symbol_name l.tables.symbols.now l.tables.strings.now) l.name l.hash (length l.tables.hashes.now - l.i) l.index ≡ gnu_scan (chain_word (read l.tables.hashes.now) l.at l.base) (symbol_name l.tables.symbols.now l.tables.strings.now) l.name l.hash (length l.tables.hashes.now) l.first;
  above : l.base ≤ l.index;
  place : l.place ≡ l.at + 4 * (l.index - l.base);
}
