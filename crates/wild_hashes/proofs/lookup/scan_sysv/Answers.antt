use Rattle.std.proofs.Common.{sym, ◌∙◌}
use Rattle.std.proofs.lemmas.Bool.{ne_eqb}
use Rattle.wild_hashes.specs.Reading.{read, symbol_name}
use Rattle.wild_hashes.specs.LookUp.{chain_word}
use Rattle.wild_hashes.proofs.ScanLemmas.{sysv_scan_next}
use Rattle.wild_hashes.proofs.lookup.scan_sysv.Goals as goal

pub loop-i-preserved : goal.loop-i-preserved
loop-i-preserved c =
    sysv_scan_next (chain_word (read c.args.tables.now.hashes.now) c.args.at 0) (symbol_name c.args.tables.now.symbols.now c.args.tables.now.strings.now) c.args.name.now c.args.count c.loop-i.i c.loop-i.index c.in_ok-index.index c.in_ok-has_name.field-0 _ c.loop-i.invariant c.loop-i-test.true (ne_eqb c.loop-i.index 0 c.if-index-eq0.false)
    (sym c.has_name.ensures ∙ c.in_ok-has_name.was) c.if-branch.false (sym c.chain_word.ensures ∙ c.in_ok-index.was)
