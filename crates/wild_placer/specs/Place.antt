-- The memory of a layout in a world.
--   layout_memory l w          the memory that the loader makes of the layout's image, or the first fault
--   Gives result read   the call answers that, unless it runs out of memory
use Rattle.std.specs.Prelude.{◌≡◌, List, [], ◌∷◌, Option, Some, None, Result, Ok, Err}
use Rattle.wild_types.specs.declared.fault.Error.{Error}
use Rattle.wild_types.specs.declared.fault.Fault.{Fault}
use Rattle.wild_types.specs.declared.fault.Fault.TheVariants as write_faults
use Rattle.wild_types.specs.declared.layout.Layout.{Layout}
use Rattle.wild_layout.specs.Faults.{errors}
use Rattle.wild_layout.specs.Image.{bytes}
use Rattle.wild_loader.specs.declared.fault.LoadFault.{LoadFault}
use Rattle.wild_loader.specs.declared.fault.LoadFault.TheVariants as load_faults
use Rattle.wild_loader.specs.declared.memory.Memory.{Memory}
use Rattle.wild_loader.specs.declared.world.World.{World}
use Rattle.wild_loader.specs.Load.{load}
use Rattle.wild_placer.specs.declared.fault.PlaceFault.{PlaceFault}
use Rattle.wild_placer.specs.declared.fault.PlaceFault.TheVariants as faults

-- the first fault of a layout, or else what the loader makes of its image
abbrev pub first_fault_or : List Error → Result Memory LoadFault → Result Memory PlaceFault
first_fault_or (e ∷ es) loaded = Err (faults.Write e)
first_fault_or [] (Ok m) = Ok m
first_fault_or [] (Err f) = Err (faults.Load f)

-- the memory that the loader makes of the layout's image in a world, or the first fault
unfoldable pub layout_memory : Layout → World → Result Memory PlaceFault
layout_memory l w = first_fault_or (errors l) (load w (bytes l))

-- a fault that a call may return: out of memory at any time, otherwise the definition's fault
abbrev pub Fails : {B : Type 0} → PlaceFault → Result B PlaceFault → Type 0
Fails faults.OutOfMemory read = Unit {0}
Fails fault read = read ≡ Err fault

-- the call answers what the definition gives, unless it runs out of memory
abbrev pub Gives : {A : Type 0} → Result A PlaceFault → Result A PlaceFault → Type 0
Gives (Ok x) read = read ≡ Ok x
Gives (Err e) read = Fails e read

-- the writer's error, as a fault of the placer
abbrev pub write_fault_by : Fault → Error → PlaceFault
write_fault_by write_faults.OutOfMemory e = faults.OutOfMemory
write_fault_by fault e = faults.Write e

abbrev pub write_fault : Error → PlaceFault
write_fault e = write_fault_by e.fault e

-- the loader's fault, as one of the placer
abbrev pub load_fault : LoadFault → PlaceFault
load_fault load_faults.OutOfMemory = faults.OutOfMemory
load_fault fault = faults.Load fault

-- the loader's fault in the first bytes of an image, as one of the placer, unless it says that these bytes end too early
abbrev pub fault_of_prefix : LoadFault → Option PlaceFault
fault_of_prefix (load_faults.Cut o) = None
fault_of_prefix fault = Some (load_fault fault)
