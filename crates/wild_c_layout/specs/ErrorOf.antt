-- Which fault a C struct says (FaultOf.antt has the numbers).
--   error_of c   the fault and its place; none, if the number of the fault, or one that it has, is none of those
use Rattle.std.specs.Prelude.{ℕ, ◌==◌, if◌then◌else◌, List, [], ◌∷◌, Option, Some, None, option_map, slice_get}
use Rattle.wild_types.specs.declared.fault.At.{At}
use Rattle.wild_types.specs.declared.fault.Error.{Error}
use Rattle.wild_types.specs.declared.fault.Fault.{Fault}
use Rattle.wild_types.specs.declared.fault.Fault.TheVariants as faults
use Rattle.wild_types.specs.declared.fault.FrameFault.{FrameFault}
use Rattle.wild_types.specs.declared.fault.FrameFault.TheVariants as frame
use Rattle.wild_types.specs.declared.fault.Missing.{Missing}
use Rattle.wild_types.specs.declared.fault.Missing.TheVariants as missing
use Rattle.wild_c_layout.specs.Values.{present}
use Rattle.wild_c_layout.specs.declared.fault.CFault.{CFault}

-- the places that the struct has
abbrev pub at_of : CFault → At
at_of c = record { group = present c.group; file = present c.file; section = present c.section; offset = present c.offset }

-- what may be missing, each at its number
abbrev pub missing_kinds : List Missing
missing_kinds = missing.Address ∷ missing.Slot ∷ missing.Stub ∷ missing.DynamicSymbol ∷ missing.Section ∷ []

-- what may be wrong with frames, each at its number
abbrev pub frame_faults : List FrameFault
frame_faults = frame.Malformed ∷ frame.Unsorted ∷ frame.Cut ∷ frame.Short ∷ frame.PcBegin ∷ frame.Cie ∷ frame.Field ∷ []

-- something is missing, and the symbol that lacks it
abbrev pub missing_fault : Option Missing → ℕ → Option Fault
missing_fault what symbol = option_map (λ (w : Missing). faults.MissingResolution w symbol) what

-- frames are wrong
abbrev pub frame_fault : Option FrameFault → Option Fault
frame_fault why = option_map (λ (w : FrameFault). faults.BadFrameData w) why

-- the fault without its place
abbrev pub numbered_fault : CFault → Option Fault
numbered_fault c =
    if c.fault == 1 then Some (faults.MalformedLayout c.number c.index)
    else if c.fault == 2 then Some (faults.InsufficientAllocation c.index c.share_group c.given c.needed)
    else if c.fault == 3 then Some (faults.ExcessiveAllocation c.index c.share_group c.given c.needed)
    else if c.fault == 4 then Some (faults.UnsupportedRelocation c.number)
    else if c.fault == 5 then Some (faults.RecompileWithPic c.number)
    else if c.fault == 6 then missing_fault (slice_get missing_kinds c.number) c.index
    else if c.fault == 7 then Some (faults.UnknownSequence c.number)
    else if c.fault == 8 then Some (faults.IfuncAddend c.addend)
    else if c.fault == 9 then Some (faults.NoThunk c.value)
    else if c.fault == 10 then Some (faults.ThunkOutOfRange c.value)
    else if c.fault == 11 then Some (faults.ThunkAddend c.addend)
    else if c.fault == 12 then Some (faults.PltTooFar c.value)
    else if c.fault == 13 then Some (faults.TlsOutOfSegment c.value)
    else if c.fault == 14 then Some (faults.StaticTlsDesc c.index)
    else if c.fault == 15 then frame_fault (slice_get frame_faults c.number)
    else if c.fault == 16 then Some (faults.FrameOffsetOverflow c.value)
    else if c.fault == 17 then Some (faults.OutOfRange c.value)
    else if c.fault == 18 then Some (faults.OverlappingSites c.value)
    else None

abbrev pub fault_with_place : At → Fault → Error
fault_with_place at f = record { fault = f; at = at }

unfoldable pub error_of : CFault → Option Error
error_of c = option_map (fault_with_place (at_of c)) (numbered_fault c)
