-- The bytes of a memory that was made are those of a sound one.
use Rattle.std.proofs.Common.{◌≡◌, ℕ, List, Result, Ok, Err, refl, subst}
use Rattle.wild_types.specs.ResolvedFlags.{HaveTheirFlags}
use Rattle.wild_types.specs.declared.layout.Layout.{Layout}
use Rattle.wild_layout.specs.Numbers.{NumbersFit}
use Rattle.wild_loader.specs.declared.memory.Memory.{Memory}
use Rattle.wild_loader.specs.declared.world.World.{World}
use Rattle.wild_meaning.specs.World.{IsLoadable, IsLegal}
use Rattle.wild_placer.specs.Laws.{PlacementsAreSound}
use Rattle.wild_placer.specs.Place.{layout_memory}
use Rattle.wild_placer.specs.declared.fault.PlaceFault.{PlaceFault}
use Rattle.wild_c_place.specs.Answers.{HasMemory, IsSoundMemory}

made_soundly : (l : Layout) (w : World) (out : List ℕ) (r : Result Memory PlaceFault) → layout_memory l w ≡ r → HasMemory r out
    → PlacementsAreSound → NumbersFit l → HaveTheirFlags l → IsLoadable l.kind → IsLegal l w → IsSoundMemory l w out
made_soundly l w out (Ok m) made shown sound fits own loads legal = record { memory = m; shown = shown; sound = sound l w m fits own loads legal made }
made_soundly l w out (Err f) made shown sound fits own loads legal = absurd shown

-- the layout and the world that were decoded are those that the structs represent
pub sound_memory : (l d : Layout) (w v : World) (out : List ℕ) → PlacementsAreSound → NumbersFit d → HaveTheirFlags l → d ≡ l → v ≡ w
    → HasMemory (layout_memory d v) out → IsLoadable l.kind → IsLegal l w → IsSoundMemory l w out
sound_memory l d w v out sound fits own e f shown =
    let of_layout : HasMemory (layout_memory l v) out = subst (λ (x : Layout). HasMemory (layout_memory x v) out) e shown in
    let of_world : HasMemory (layout_memory l w) out = subst (λ (x : World). HasMemory (layout_memory l x) out) f of_layout in
    made_soundly l w out (layout_memory l w) refl of_world sound (subst NumbersFit e fits) own
