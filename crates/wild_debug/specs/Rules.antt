-- Properties of the rule by which a debug section is written.
--   rule_small l s   a field has at most 10 bytes
--   rule_keeps l s   a field keeps its number of bytes
use Rattle.wild_types.specs.declared.input.InputSection.{InputSection}
use Rattle.wild_types.specs.declared.layout.Layout.{Layout}
use Rattle.wild_shards.specs.InOrder.{AreSmall, KeepsLength}
use Rattle.wild_layout.specs.Debug.{debug_rule, at_offset_only}
use Rattle.wild_layout.proofs.DebugLemmas.{debug_small, debug_keeps}

pub rule_small : (l : Layout) (s : InputSection) → AreSmall (debug_rule l at_offset_only s)
rule_small l s = debug_small l at_offset_only s

pub rule_keeps : (l : Layout) (s : InputSection) → KeepsLength (debug_rule l at_offset_only s)
rule_keeps l s = debug_keeps l at_offset_only s
