-- The first of a list of faults.
--   IsFirst e es   e is the first of es
--   Answers r es   r is a value if es is empty; else it is the first of es, or out of memory
use Rattle.std.specs.Prelude.{◌≡◌, List, [], ◌∷◌, Result, Ok, Err, None}
use Rattle.wild_types.specs.declared.fault.At.{At}
use Rattle.wild_types.specs.declared.fault.Error.{Error}
use Rattle.wild_types.specs.declared.fault.Fault.{Fault}
use Rattle.wild_types.specs.declared.fault.Fault.TheVariants as faults

-- no location
abbrev pub nowhere : At
nowhere = record { group = None; file = None; section = None; offset = None }

-- out of memory
abbrev pub out_of_memory : Error
out_of_memory = record { fault = faults.OutOfMemory; at = nowhere }

-- e is the first of the errors
abbrev pub IsFirst : Error → List Error → Type 0
IsFirst e [] = ⊥
IsFirst e (f ∷ fs) = e ≡ f

-- the fault of an error is the first of the errors, or out of memory
abbrev pub RefusesWith : Fault → Error → List Error → Type 0
RefusesWith faults.OutOfMemory e es = Unit {0}
RefusesWith f e es = IsFirst e es

abbrev pub Refuses : Error → List Error → Type 0
Refuses e es = RefusesWith e.fault e es

-- a call returns the first of the errors, if there is one
abbrev pub Answers : {A : Type 0} → Result A Error → List Error → Type 0
Answers (Ok x) es = es ≡ []
Answers (Err e) es = Refuses e es
