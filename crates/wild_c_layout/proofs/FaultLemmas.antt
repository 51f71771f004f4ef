-- The struct of a fault says that fault; the number of a role is its index.
use Rattle.std.proofs.Common.{◌≡◌, ℕ, ◌<◌, ◌==◌, true, false, Option, Some, None, refl, arith}
use Rattle.std.specs.Prelude.{if◌then◌else◌, option_map}
use Rattle.std.proofs.lemmas.Bool.Decides.{nat_tests}
use Rattle.wild_types.specs.Parts.{role_place}
use Rattle.wild_types.specs.declared.fault.At.{At}
use Rattle.wild_types.specs.declared.fault.Error.{Error}
use Rattle.wild_types.specs.declared.fault.Fault.{Fault}
use Rattle.wild_types.specs.declared.fault.Fault.TheVariants as faults
use Rattle.wild_types.specs.declared.fault.FrameFault.TheVariants as frame
use Rattle.wild_types.specs.declared.fault.Missing.TheVariants as missing
use Rattle.wild_types.specs.declared.part.Role.{Role}
use Rattle.wild_types.specs.declared.part.Role.TheVariants as role
use Rattle.wild_c_layout.specs.Codes.{roles, role_of}
use Rattle.wild_c_layout.specs.ErrorOf.{error_of, numbered_fault, at_of, fault_with_place}
use Rattle.wild_c_layout.specs.FaultOf.{place, fault_at, fault_of}
use Rattle.wild_c_layout.specs.Laws.{IsBelowAbsent, HasNumbers}
use Rattle.wild_c_layout.specs.Values.{absent, present}

-- ---- roles

pub role_at_its_index : (r : Role) → role_of (role_place r) ≡ r
unfolding roles
role_at_its_index role.Raw = refl
role_at_its_index role.FileHeader = refl
role_at_its_index role.ProgramHeaders = refl
role_at_its_index role.SectionHeaders = refl
role_at_its_index role.Shstrtab = refl
role_at_its_index role.Got = refl
role_at_its_index role.GotRelr = refl
role_at_its_index role.PltGot = refl
role_at_its_index role.RelaPlt = refl
role_at_its_index role.RelaDynRelative = refl
role_at_its_index role.RelaDynGeneral = refl
role_at_its_index role.RelrDyn = refl
role_at_its_index role.Dynsym = refl
role_at_its_index role.Dynstr = refl
role_at_its_index role.GnuVersion = refl
role_at_its_index role.GnuVersionD = refl
role_at_its_index role.GnuVersionR = refl
role_at_its_index role.SysvHash = refl
role_at_its_index role.GnuHash = refl
role_at_its_index role.EhFrame = refl
role_at_its_index role.EhFrameHdr = refl
role_at_its_index role.Dynamic = refl
role_at_its_index role.SymtabLocal = refl
role_at_its_index role.SymtabGlobal = refl
role_at_its_index role.SymtabShndxLocal = refl
role_at_its_index role.SymtabShndxGlobal = refl
role_at_its_index role.Strtab = refl
role_at_its_index role.Interp = refl
role_at_its_index role.BuildId = refl
role_at_its_index role.Property = refl

-- ---- faults

not_absent : (n : ℕ) → n < absent → (n == absent) ≡ false
not_absent n h = grind (arith, nat_tests)

-- a number that may be absent is the one that was there
present_again : (n : Option ℕ) → IsBelowAbsent n → present (place n) ≡ n
present_again None h = refl
present_again (Some n) h = rw (not_absent n h) refl

fault_again : (at : At) (f : Fault) → (f ≡ faults.OutOfMemory → ⊥) → numbered_fault (fault_at at f) ≡ Some f
fault_again at faults.OutOfMemory known = absurd (known refl)
fault_again at (faults.MalformedLayout clause index) known = refl
fault_again at (faults.InsufficientAllocation part group given needed) known = refl
fault_again at (faults.ExcessiveAllocation part group given needed) known = refl
fault_again at (faults.UnsupportedRelocation number) known = refl
fault_again at (faults.RecompileWithPic number) known = refl
fault_again at (faults.MissingResolution missing.Address symbol) known = refl
fault_again at (faults.MissingResolution missing.Slot symbol) known = refl
fault_again at (faults.MissingResolution missing.Stub symbol) known = refl
fault_again at (faults.MissingResolution missing.DynamicSymbol symbol) known = refl
fault_again at (faults.MissingResolution missing.Section symbol) known = refl
fault_again at (faults.UnknownSequence number) known = refl
fault_again at (faults.IfuncAddend addend) known = refl
fault_again at (faults.NoThunk value) known = refl
fault_again at (faults.ThunkOutOfRange value) known = refl
fault_again at (faults.ThunkAddend addend) known = refl
fault_again at (faults.PltTooFar value) known = refl
fault_again at (faults.TlsOutOfSegment value) known = refl
fault_again at (faults.StaticTlsDesc symbol) known = refl
fault_again at (faults.BadFrameData frame.Malformed) known = refl
fault_again at (faults.BadFrameData frame.Unsorted) known = refl
fault_again at (faults.BadFrameData frame.Cut) known = refl
fault_again at (faults.BadFrameData frame.Short) known = refl
fault_again at (faults.BadFrameData frame.PcBegin) known = refl
fault_again at (faults.BadFrameData frame.Cie) known = refl
fault_again at (faults.BadFrameData frame.Field) known = refl
fault_again at (faults.FrameOffsetOverflow value) known = refl
fault_again at (faults.OutOfRange value) known = refl
fault_again at (faults.OverlappingSites byte) known = refl

-- the places of a struct
placed : ℕ → ℕ → ℕ → ℕ → At
placed group file section offset = record { group = present group; file = present file; section = present section; offset = present offset }

places_of : At → At
places_of at = placed (place at.group) (place at.file) (place at.section) (place at.offset)

-- each struct of a fault has the fault's places
place_kept : (at : At) (f : Fault) → at_of (fault_at at f) ≡ places_of at
unfolding places_of placed
place_kept at faults.OutOfMemory = refl
place_kept at (faults.MalformedLayout clause index) = refl
place_kept at (faults.InsufficientAllocation part group given needed) = refl
place_kept at (faults.ExcessiveAllocation part group given needed) = refl
place_kept at (faults.UnsupportedRelocation number) = refl
place_kept at (faults.RecompileWithPic number) = refl
place_kept at (faults.MissingResolution what symbol) = refl
place_kept at (faults.UnknownSequence number) = refl
place_kept at (faults.IfuncAddend addend) = refl
place_kept at (faults.NoThunk value) = refl
place_kept at (faults.ThunkOutOfRange value) = refl
place_kept at (faults.ThunkAddend addend) = refl
place_kept at (faults.PltTooFar value) = refl
place_kept at (faults.TlsOutOfSegment value) = refl
place_kept at (faults.StaticTlsDesc symbol) = refl
place_kept at (faults.BadFrameData why) = refl
place_kept at (faults.FrameOffsetOverflow value) = refl
place_kept at (faults.OutOfRange value) = refl
place_kept at (faults.OverlappingSites byte) = refl

places_again : (at : At) → HasNumbers at → places_of at ≡ at
unfolding places_of placed
places_again at h = rw (present_again at.group h.group, present_again at.file h.file, present_again at.section h.section, present_again at.offset h.offset) refl

-- the struct of a fault says that fault
pub error_again : (e : Error) → HasNumbers e.at → (e.fault ≡ faults.OutOfMemory → ⊥) → error_of (fault_of e) ≡ Some e
unfolding error_of fault_of
error_again e h known =
    rw (fault_again e.at e.fault known, place_kept e.at e.fault, places_again e.at h) refl
