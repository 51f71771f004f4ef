-- The stubs and thunks of a loaded image go on to their slots and targets.
use Rattle.wild_meaning.proofs.OutputLemmas.{not_partial}
use Rattle.wild_laws.proofs.Common.{◌≡◌, [], sym, ◌∙◌, subst, Ok, Layout, IsLaidOut, laid_out, Memory, World}
use Rattle.wild_types.specs.HeaderOnly.{KeepsAll}
use Rattle.wild_types.specs.ResolvedFlags.{HaveTheirFlags}
use Rattle.wild_layout.specs.Faults.{errors}
use Rattle.wild_layout.specs.Geometry.{LayoutsAreLaidOut}
use Rattle.wild_layout.specs.Image.{bytes}
use Rattle.wild_layout.specs.Numbers.{NumbersFit}
use Rattle.wild_layout.proofs.FaultLemmas.{no_group_errors}
use Rattle.wild_loader.specs.Load.{load}
use Rattle.wild_meaning.specs.World.{IsLoadable, IsLegal}
use Rattle.wild_geometry.specs.Carried.{PartsAreLoaded}
use Rattle.wild_loaded.specs.Laws.{SlotsAreThere}
use Rattle.wild_loaded.specs.Memory.{HasMemory}
use Rattle.wild_loaded.specs.LoadedMemoryLaws.{ImagesAreLoaded}
use Rattle.wild_references.specs.Laws.{OutputsMoveByPages}
use Rattle.wild_references.specs.Stubs.{EachStubJumps, StubsJumpToSlots}
use Rattle.wild_references.specs.Thunks.{EachThunkJumps, ThunksJumpToTargets}
use Rattle.wild_laws.specs.Laws.{StubsOfImagesJump, ThunksOfImagesJump}
use Rattle.wild_laws.proofs.Decided.{sections_decided}

-- what the loader makes of the image, where all is written
record IsImage (l : Layout) (w : World) (m : Memory) : Type 0 where
  laid : IsLaidOut l
  loaded : HasMemory l w
  same : loaded.memory ≡ m

image : LayoutsAreLaidOut → PartsAreLoaded → SlotsAreThere → ImagesAreLoaded → (l : Layout) (w : World) (m : Memory) → KeepsAll l → NumbersFit l → HaveTheirFlags l → errors l ≡ [] → IsLoadable l.kind → IsLegal l w → load w (bytes l) ≡ Ok m → IsImage l w m
image layouts parts there loaded l w m keeps numbers flags none loads legal accepted =
    let laid = laid_out layouts l none in
    let groups = no_group_errors l none in
    let h = loaded l w keeps loads numbers legal laid (parts l none) (sections_decided l (not_partial l.kind loads) laid groups) (there l keeps flags laid groups) groups in
    let both : Ok h.memory ≡ Ok m = sym h.accepted ∙ accepted in
    let same : h.memory ≡ m = cc in
    record { laid = laid; loaded = h; same = same }

pub images_stubs : LayoutsAreLaidOut → PartsAreLoaded → SlotsAreThere → ImagesAreLoaded → OutputsMoveByPages → StubsJumpToSlots → StubsOfImagesJump
images_stubs layouts parts there loaded pages go = λ l w m keeps numbers flags none loads legal accepted.
    let i = image layouts parts there loaded l w m keeps numbers flags none loads legal accepted in
    subst (λ (n : Memory). EachStubJumps l w n) i.same (go l w i.loaded.memory (pages l w numbers legal i.laid) i.loaded.machine flags i.laid.slot_flags i.loaded.slots)

pub images_thunks : LayoutsAreLaidOut → PartsAreLoaded → SlotsAreThere → ImagesAreLoaded → OutputsMoveByPages → ThunksJumpToTargets → ThunksOfImagesJump
images_thunks layouts parts there loaded pages go = λ l w m keeps numbers flags none loads legal accepted.
    let i = image layouts parts there loaded l w m keeps numbers flags none loads legal accepted in
    subst (λ (n : Memory). EachThunkJumps l w n) i.same (go l w i.loaded.memory (pages l w numbers legal i.laid) i.loaded.machine i.laid i.loaded.thunks)
