use Rattle.std.proofs.Common.{refl, sym, ◌∙◌}
use Rattle.wild_needs.proofs.SlotShareLemmas.{others_share}
use Rattle.wild_needs.proofs.slot_shares.slot_share.Goals as goal

pub returns-else-is_slot_role : goal.returns-else-is_slot_role
returns-else-is_slot_role c = rw (others_share c.args.layout.now c.args.role c.args.file.now (sym c.is_slot_role.ensures ∙ c.if-is_slot_role.false)) refl
