-- How a C struct says why a layout has no image: a number for the fault, and what it has, in members of their own. A member that the
-- fault has not is 0, a place that it has not is absent.
--   fault_of e   the struct
use Rattle.std.specs.Prelude.{ℕ, ℤ, pos, Option, unwrap_or}
use Rattle.wild_types.specs.declared.fault.At.{At}
use Rattle.wild_types.specs.declared.fault.Error.{Error}
use Rattle.wild_types.specs.declared.fault.Fault.{Fault}
use Rattle.wild_types.specs.declared.fault.Fault.TheVariants as faults
use Rattle.wild_types.specs.declared.fault.FrameFault.{FrameFault}
use Rattle.wild_types.specs.declared.fault.FrameFault.TheVariants as frame
use Rattle.wild_types.specs.declared.fault.Missing.{Missing}
use Rattle.wild_types.specs.declared.fault.Missing.TheVariants as missing
use Rattle.wild_c_layout.specs.Values.{absent}
use Rattle.wild_c_layout.specs.declared.fault.CFault.{CFault}

-- a place that may be absent
abbrev pub place : Option ℕ → ℕ
place n = unwrap_or n absent

-- a fault without members at a place
abbrev pub empty_at : At → ℕ → CFault
empty_at at n = record {
  fault = n;
  number = 0;
  index = 0;
  share_group = 0;
  given = 0;
  needed = 0;
  value = 0;
  addend = pos 0;
  group = place at.group;
  file = place at.file;
  section = place at.section;
  offset = place at.offset;
}

-- with a number: a clause, a relocation type, what is missing, or what is wrong with frames
abbrev pub with_number : ℕ → CFault → CFault
with_number n f = record f { number = n }

-- with the index of an item, a part or a symbol
abbrev pub with_index : ℕ → CFault → CFault
with_index n f = record f { index = n }

-- with a group's share of a part, and what is needed
abbrev pub with_share : ℕ → ℕ → ℕ → ℕ → CFault → CFault
with_share part group given needed f = record f { index = part; share_group = group; given = given; needed = needed }

-- with a value, a distance or an offset
abbrev pub with_value : ℕ → CFault → CFault
with_value n f = record f { value = n }

abbrev pub with_addend : ℤ → CFault → CFault
with_addend n f = record f { addend = n }

abbrev pub missing_number : Missing → ℕ
missing_number missing.Address = 0
missing_number missing.Slot = 1
missing_number missing.Stub = 2
missing_number missing.DynamicSymbol = 3
missing_number missing.Section = 4

abbrev pub frame_number : FrameFault → ℕ
frame_number frame.Malformed = 0
frame_number frame.Unsorted = 1
frame_number frame.Cut = 2
frame_number frame.Short = 3
frame_number frame.PcBegin = 4
frame_number frame.Cie = 5
frame_number frame.Field = 6

abbrev pub fault_at : At → Fault → CFault
fault_at at faults.OutOfMemory = empty_at at 0
fault_at at (faults.MalformedLayout clause index) = with_index index (with_number clause (empty_at at 1))
fault_at at (faults.InsufficientAllocation part group given needed) = with_share part group given needed (empty_at at 2)
fault_at at (faults.ExcessiveAllocation part group given needed) = with_share part group given needed (empty_at at 3)
fault_at at (faults.UnsupportedRelocation number) = with_number number (empty_at at 4)
fault_at at (faults.RecompileWithPic number) = with_number number (empty_at at 5)
fault_at at (faults.MissingResolution what symbol) = with_index symbol (with_number (missing_number what) (empty_at at 6))
fault_at at (faults.UnknownSequence number) = with_number number (empty_at at 7)
fault_at at (faults.IfuncAddend addend) = with_addend addend (empty_at at 8)
fault_at at (faults.NoThunk value) = with_value value (empty_at at 9)
fault_at at (faults.ThunkOutOfRange value) = with_value value (empty_at at 10)
fault_at at (faults.ThunkAddend addend) = with_addend addend (empty_at at 11)
fault_at at (faults.PltTooFar value) = with_value value (empty_at at 12)
fault_at at (faults.TlsOutOfSegment value) = with_value value (empty_at at 13)
fault_at at (faults.StaticTlsDesc symbol) = with_index symbol (empty_at at 14)
fault_at at (faults.BadFrameData why) = with_number (frame_number why) (empty_at at 15)
fault_at at (faults.FrameOffsetOverflow value) = with_value value (empty_at at 16)
fault_at at (faults.OutOfRange value) = with_value value (empty_at at 17)
fault_at at (faults.OverlappingSites byte) = with_value byte (empty_at at 18)

unfoldable pub fault_of : Error → CFault
fault_of e = fault_at e.at e.fault
