use Rattle.std.proofs.Common.{sym, ap, ◌∙◌}
use Rattle.wild_needs.specs.SlotShares.{block_of}
use Rattle.wild_needs.proofs.SlotBlockLemmas.{no_block}
use Rattle.wild_needs.proofs.slot_shares.group_relr_got.Goals as goal

pub returns-else-packs_slots : goal.returns-else-packs_slots
returns-else-packs_slots c = ap block_of (sym (no_block c.args.layout.now c.args.group.now (sym c.packs_slots.ensures ∙ c.if-packs_slots.false)))
