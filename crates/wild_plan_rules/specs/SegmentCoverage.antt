-- The bytes of a section and the segments that load them.
--   loads_nothing_from a g          the segment loads no byte at address a or higher
--   covers side l s a gs   consecutive segments load all bytes of the section from address a on
use Rattle.std.specs.Prelude.{ℕ, ◌+◌, ◌==◌, Bool, true, false, not, ◌&&◌, if◌then◌else◌, nat_lt, nat_le, List, [], ◌∷◌}
use Rattle.wild_records.specs.Abi.Segment.{pt_load}
use Rattle.wild_types.specs.declared.section.Section.{Section}
use Rattle.wild_types.specs.declared.section.Segment.{Segment}
use Rattle.wild_types.specs.declared.layout.Layout.{Layout}
use Rattle.wild_plan_rules.specs.declared.side.ImageOrMemory.{ImageOrMemory}
use Rattle.wild_plan_rules.specs.Segments.{size_on, has_byte}

-- the segment loads no byte at address a or higher
abbrev pub loads_nothing_from : ℕ → Segment → Bool
loads_nothing_from a g = not (g.kind == pt_load && nat_lt a (g.address + g.mem_size))

-- consecutive segments load all bytes of the section from address a on
abbrev pub covers : ImageOrMemory → Layout → Section → ℕ → List Segment → Bool
covers on l s a [] = nat_le (s.address + s.size) a
covers on l s a (g ∷ gs) =
    if nat_le (s.address + s.size) a
    then true
    else (if loads_nothing_from a g then covers on l s a gs else (if has_byte on l s a g then covers on l s (g.address + size_on on g) gs else false))
