-- The answer to a change.
--   answer l c      Ok if the layout after the change has no faults; else why it is refused
--   Relinks r l c   r is that answer, or out of memory
--   CountsNone r new old   if r is one of the first two answers, the number of steps is as before
use Rattle.std.specs.Prelude.{◌≡◌, ℕ, ◌==◌, ◌⊎◌, if◌then◌else◌, List, [], ◌∷◌, length, Option, None, Some, Result, Ok, Err}
use Rattle.wild_types.specs.declared.fault.Error.{Error}
use Rattle.wild_types.specs.declared.input.InputSection.{InputSection}
use Rattle.wild_types.specs.declared.layout.Layout.{Layout}
use Rattle.wild_change.specs.declared.change.Change.{Change}
use Rattle.wild_change.specs.Change.{found_section, changed_layout}
use Rattle.wild_layout.specs.Faults.{errors}
use Rattle.wild_relinker.specs.declared.fault.RelinkFault.{RelinkFault}
use Rattle.wild_relinker.specs.declared.fault.RelinkFault.TheVariants as refusal

-- Ok if there are no errors; else the first of them
abbrev pub unless_errors : List Error → Result (Unit {0}) RelinkFault
unless_errors [] = Ok tt
unless_errors (e ∷ es) = Err (refusal.Write e)

-- the answer, if this is the section that the change names
abbrev pub answer_for : Layout → Change → Option InputSection → Result (Unit {0}) RelinkFault
answer_for l c None = Err refusal.NoSection
answer_for l c (Some s) = if length c.bytes == length s.bytes then unless_errors (errors (changed_layout l c)) else Err (refusal.Length (length c.bytes) (length s.bytes))

-- the section must be there and keep its length, and the layout after the change must have no faults
abbrev pub answer : Layout → Change → Result (Unit {0}) RelinkFault
answer l c = answer_for l c (found_section l c)

-- that answer, or out of memory
abbrev pub Relinks : Result (Unit {0}) RelinkFault → Layout → Change → Type 0
Relinks r l c = (r ≡ answer l c) ⊎ (r ≡ Err refusal.OutOfMemory)

-- no step is counted if the change names no section, or has another length
abbrev pub CountsNone : Result (Unit {0}) RelinkFault → ℕ → ℕ → Type 0
CountsNone (Ok done) new old = Unit {0}
CountsNone (Err refusal.NoSection) new old = new ≡ old
CountsNone (Err (refusal.Length given needed)) new old = new ≡ old
CountsNone (Err (refusal.Write e)) new old = Unit {0}
CountsNone (Err refusal.OutOfMemory) new old = Unit {0}
