-- How a C struct says why an image is not loaded: a number for the fault, and the number that it has, else 0.
--   load_fault_of f   the struct
use Rattle.std.specs.Prelude.{ℕ}
use Rattle.wild_loader.specs.declared.fault.LoadFault.{LoadFault}
use Rattle.wild_loader.specs.declared.fault.LoadFault.TheVariants as faults
use Rattle.wild_c_place.specs.declared.load_fault.CLoadFault.{CLoadFault}

abbrev pub numbered : ℕ → ℕ → CLoadFault
numbered n value = record { fault = n; value = value }

abbrev pub load_fault_of : LoadFault → CLoadFault
load_fault_of faults.NotElf = numbered 1 0
load_fault_of (faults.Cut offset) = numbered 2 offset
load_fault_of (faults.NoTable tag) = numbered 3 tag
load_fault_of (faults.UnknownDynamic number) = numbered 4 number
load_fault_of (faults.UnknownSymbol index) = numbered 5 index
load_fault_of (faults.NoAnswer value) = numbered 6 value
load_fault_of (faults.Unloaded address) = numbered 7 address
load_fault_of (faults.Wraps address) = numbered 8 address
load_fault_of (faults.Overlap address) = numbered 9 address
load_fault_of faults.OutOfMemory = numbered 0 0
