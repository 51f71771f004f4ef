-- Why a layout is not placed, by the answers of the two steps.
use Rattle.wild_placer.proofs.Common.{◌≡◌, List, [], ◌∷◌, subst, Result, Ok, Err, Layout, bytes, LoadFault, Memory, World, load, PlaceFault, Placements, AddFails}
use Rattle.wild_types.specs.declared.fault.Error.{Error}
use Rattle.wild_layout.specs.Faults.{errors}
use Rattle.wild_placer.specs.declared.fault.PlaceFault.TheVariants as faults
use Rattle.wild_placer.specs.Place.{first_fault_or, layout_memory, Fails}
use Rattle.wild_placer.specs.Placed.{PlaceFails}

-- a fault of the writer or of the loader, or none
abbrev IsOfLayout : PlaceFault → Type 0
IsOfLayout faults.Full = ⊥
IsOfLayout (faults.Write e) = Unit {0}
IsOfLayout (faults.Load f) = Unit {0}
IsOfLayout (faults.Taken a) = ⊥
IsOfLayout (faults.NoSuch n) = ⊥
IsOfLayout faults.OutOfMemory = Unit {0}

abbrev HasFaultOfLayout : Result Memory PlaceFault → Type 0
HasFaultOfLayout (Ok m) = Unit {0}
HasFaultOfLayout (Err e) = IsOfLayout e

of_layout : (es : List Error) (r : Result Memory LoadFault) → HasFaultOfLayout (first_fault_or es r)
of_layout (e ∷ es) r = tt
of_layout [] (Ok m) = tt
of_layout [] (Err f) = tt

layout_faults : (l : Layout) (w : World) → HasFaultOfLayout (layout_memory l w)
unfolding layout_memory
layout_faults l w = of_layout (errors l) (load w (bytes l))

-- a call of `place_code` that is refused
pub code_fails : (e : PlaceFault) (p : Placements) (l : Layout) (w : World) → Fails e (layout_memory l w) → PlaceFails e p l w
code_fails faults.OutOfMemory p l w h = tt
code_fails faults.Full p l w h = absurd (subst (λ (r : Result Memory PlaceFault). HasFaultOfLayout r) h (layout_faults l w))
code_fails (faults.Write x) p l w h = h
code_fails (faults.Load x) p l w h = h
code_fails (faults.Taken a) p l w h = absurd (subst (λ (r : Result Memory PlaceFault). HasFaultOfLayout r) h (layout_faults l w))
code_fails (faults.NoSuch n) p l w h = absurd (subst (λ (r : Result Memory PlaceFault). HasFaultOfLayout r) h (layout_faults l w))

-- a memory that is not added
pub add_fails : (e : PlaceFault) (p : Placements) (l : Layout) (w : World) (m : Memory) → layout_memory l w ≡ Ok m → AddFails e p m → PlaceFails e p l w
add_fails faults.OutOfMemory p l w m is h = tt
add_fails faults.Full p l w m is h = absurd h
add_fails (faults.Write x) p l w m is h = absurd h
add_fails (faults.Load x) p l w m is h = absurd h
add_fails (faults.Taken a) p l w m is h = record { memory = m; is = is; fails = h }
add_fails (faults.NoSuch n) p l w m is h = absurd h
