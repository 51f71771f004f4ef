-- The result of a call that may run out of memory at any time, and of steps in sequence.
--   GivesBy view result read   the call answers what the definition gives, unless it runs out of memory
--   Gives result read          the same, for a result that is compared unchanged
--   read >>= next              one step, then the next with its result; stops at the first fault
--   look i read                what is read of image i, for a fault of a look-up
--   load i read                the same, for a fault of the loader
use Rattle.std.specs.Prelude.{◌≡◌, ℕ, zero, suc, ◌+◌, Option, Some, None, Result, Ok, Err}
use Rattle.wild_hashes.specs.declared.fault.ImageFault.{ImageFault}
use Rattle.wild_loader.specs.declared.fault.LoadFault.{LoadFault}
use Rattle.wild_loader.specs.declared.fault.LoadFault.TheVariants as load_faults
use Rattle.wild_space.specs.declared.fault.BindFault.{BindFault}
use Rattle.wild_space.specs.declared.fault.BindFault.TheVariants as faults

-- a fault that a call may return: out of memory at any time, otherwise the definition's fault
abbrev pub Fails : {B : Type 0} → BindFault → Result B BindFault → Type 0
Fails faults.OutOfMemory read = Unit {0}
Fails fault read = read ≡ Err fault

-- the result of a call, seen through view, is what the definition gives
abbrev pub GivesBy : {A B : Type 0} → (A → B) → Result A BindFault → Result B BindFault → Type 0
GivesBy view (Ok x) read = read ≡ Ok (view x)
GivesBy view (Err e) read = Fails e read

-- the same, for a result that is compared unchanged
abbrev pub Gives : {A : Type 0} → Result A BindFault → Result A BindFault → Type 0
Gives result read = GivesBy (λ x. x) result read

-- one step, then the next with its result; stops at the first fault
infixl 10 ◌>>=◌
abbrev pub ◌>>=◌ : {A B : Type 0} → Result A BindFault → (A → Result B BindFault) → Result B BindFault
(Ok x) >>= f = f x
(Err e) >>= f = Err e

-- so many steps, the first with number k
unfoldable pub steps : {S : Type 0} → (ℕ → S → Result S BindFault) → ℕ → ℕ → S → Result S BindFault
steps step zero k s = Ok s
steps step (suc left) k s = step k s >>= λ next. steps step left (k + 1) next

-- the value, or else that fault
abbrev pub known : {A : Type 0} → Option A → BindFault → Result A BindFault
known None fault = Err fault
known (Some x) fault = Ok x

-- what is read of image i
abbrev pub look : {A : Type 0} → ℕ → Result A ImageFault → Result A BindFault
look i (Ok x) = Ok x
look i (Err e) = Err (faults.LookUp i e)

-- a fault of the loader at image i
abbrev pub load_fault : ℕ → LoadFault → BindFault
load_fault i load_faults.OutOfMemory = faults.OutOfMemory
load_fault i fault = faults.Load i fault

-- what the loader makes of image i
abbrev pub load : {A : Type 0} → ℕ → Result A LoadFault → Result A BindFault
load i (Ok x) = Ok x
load i (Err e) = Err (load_fault i e)
