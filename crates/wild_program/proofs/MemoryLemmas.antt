-- The memory of a plan in its world, and its status and text.
use Rattle.wild_program.proofs.Common.{◌≡◌, ℕ, List, [], ◌∷◌, Result, Ok, Err, sym, ap, ◌∙◌, Error, Layout, errors, bytes, LoadFault, Memory, PlaceFault, PlaceRequest, memory_status, IsRefusal}
use Rattle.wild_loader.specs.declared.world.World.{World}
use Rattle.wild_loader.specs.Load.{load}
use Rattle.wild_placer.specs.Place.{first_fault_or, layout_memory}
use Rattle.wild_placer.specs.declared.fault.PlaceFault.TheVariants as place_faults
use Rattle.wild_text.specs.PlaceAnswer.{place_text, not_placed_text}
use Rattle.wild_program.specs.Exit as exit
use Rattle.wild_program.specs.Program.{memory_text}

-- a memory, or a fault of the layout or of loading
abbrev pub IsLoaderAnswer : Result Memory PlaceFault → Type 0
IsLoaderAnswer (Ok m) = Unit {0}
IsLoaderAnswer (Err (place_faults.Write e)) = Unit {0}
IsLoaderAnswer (Err (place_faults.Load fault)) = Unit {0}
IsLoaderAnswer (Err fault) = ⊥

answer_known : (es : List Error) (r : Result Memory LoadFault) → IsLoaderAnswer (first_fault_or es r)
answer_known (e ∷ es) r = tt
answer_known [] (Ok m) = tt
answer_known [] (Err fault) = tt

pub memory_known : (l : Layout) (w : World) → IsLoaderAnswer (layout_memory l w)
unfolding layout_memory
memory_known l w = answer_known (errors l) (load w (bytes l))

-- a plan with faults is refused with the first of them
pub memory_refused : (r : PlaceRequest) (e : Error) (memory : Result Memory PlaceFault) (code : ℕ) (text : List ℕ) → memory ≡ Err (place_faults.Write e) → IsRefusal e code text → (code ≡ memory_status memory) × (text ≡ memory_text r memory)
memory_refused r e memory code text is said =
    (said.status_is ∙ sym (ap memory_status is), said.text_is ∙ sym (ap (λ (m : Result Memory PlaceFault). memory_text r m) is))

-- a plan without faults that is loaded
pub memory_placed : (r : PlaceRequest) (m : Memory) (memory : Result Memory PlaceFault) (text : List ℕ) → memory ≡ Ok m → text ≡ place_text r.world.base r.plan.segments m.runs → (exit.linked ≡ memory_status memory) × (text ≡ memory_text r memory)
memory_placed r m memory text is shown =
    (sym (ap memory_status is), shown ∙ sym (ap (λ (x : Result Memory PlaceFault). memory_text r x) is))

-- one that is not loaded
pub memory_not_placed : (r : PlaceRequest) (f : LoadFault) (memory : Result Memory PlaceFault) (text : List ℕ) → memory ≡ Err (place_faults.Load f) → text ≡ not_placed_text f → (exit.not_placed ≡ memory_status memory) × (text ≡ memory_text r memory)
memory_not_placed r f memory text is shown =
    (sym (ap memory_status is), shown ∙ sym (ap (λ (x : Result Memory PlaceFault). memory_text r x) is))
