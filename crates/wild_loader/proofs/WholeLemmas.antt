-- An image whose tables make known changes, or store words, is loaded.
use Rattle.std.proofs.Common.{◌≡◌, ℕ, ◌+◌, ◌%◌, ◌^◌, sym, ◌∙◌, arith, subst, refl, List, [], ◌++◌}
use Rattle.wild_records.specs.Dynamic.{DynamicEntryIsRead}
use Rattle.wild_records.specs.FileHeader.{FileHeaderIsRead}
use Rattle.wild_records.specs.ProgramHeader.{ProgramHeaderIsRead}
use Rattle.wild_records.specs.Relocations.{RelaIsRead, RelrIsRead}
use Rattle.wild_records.specs.SectionHeader.{SectionHeaderIsRead}
use Rattle.wild_loader.specs.Memory.{Holds}
use Rattle.wild_loader.specs.Headers.{machine_of}
use Rattle.wild_loader.specs.Relocate.{memory_with_patches, relocate}
use Rattle.wild_loader.specs.SegmentLaws.{loaded_memory}
use Rattle.wild_loader.specs.EntryLaws.{patches_of}
use Rattle.wild_loader.specs.FilledLaws.{PlacesAreLoaded, ImagesAreApplied, ImagesAreFilled, StaticImagesAreFilled}
use Rattle.wild_loader.proofs.MappedSegments.{at-contained, bytes-loaded}
use Rattle.wild_loader.proofs.ImageLemmas.{dynamic-loaded, listed-loaded}
use Rattle.wild_loader.proofs.EntryLemmas.{tables-applied}
use Rattle.wild_loader.proofs.FilledLemmas.{tables-filled, joined-relocated}

pub places-loaded : PlacesAreLoaded
places-loaded machine w image hs a part can at =
    let h = at.segment in
    let own = at-contained w.base _ hs h can.each at.contained at.to_load in
    let end = own.end in
    let inner = at.inner in
    let e : (w.base + a) % 2 ^ 64 ≡ w.base + a = omega (arith, end, inner) in
    let held = bytes-loaded machine w.base image hs h part _ a can at.contained at.to_load at.low at.high refl at.stands in
    let P : ℕ → Type 0 = λ x. Holds (loaded_memory machine w.base image hs) x part in
    subst P (sym e) held

pub images-applied : FileHeaderIsRead → ProgramHeaderIsRead → DynamicEntryIsRead → RelaIsRead → RelrIsRead → ImagesAreApplied
images-applied file program dynamic rela relr w image e hs ss ds t g f has made pairs =
    let loaded = dynamic-loaded file program dynamic rela relr w image e hs ss ds t has.headers has.loadable_header has.loadable has.dynamic has.tables in
    let applied = tables-applied w (loaded_memory (machine_of e) w.base image hs) t g f made pairs in
    (memory_with_patches (loaded_memory (machine_of e) w.base image hs) (patches_of t g f), loaded ∙ applied.is, applied)

pub images-filled : FileHeaderIsRead → ProgramHeaderIsRead → DynamicEntryIsRead → RelaIsRead → RelrIsRead → ImagesAreFilled
images-filled file program dynamic rela relr w image e hs ss ds t v u has are =
    let loaded = dynamic-loaded file program dynamic rela relr w image e hs ss ds t has.headers has.loadable_header has.loadable has.dynamic has.tables in
    let filled = tables-filled w (loaded_memory (machine_of e) w.base image hs) t v u are in
    (filled.0, loaded ∙ filled.1.is, filled.1)

pub static-filled : FileHeaderIsRead → ProgramHeaderIsRead → SectionHeaderIsRead → RelaIsRead → StaticImagesAreFilled
static-filled file program section rela w image e hs ss t v u has are =
    let before = loaded_memory (machine_of e) w.base image hs in
    let loaded = listed-loaded file program section rela w image e hs ss (t.entries ++ t.jumps) has.headers has.loadable_header has.loadable has.static has.entries has.sections in
    let joined = subst (λ (ws : List ℕ). relocate w before (record { words = ws; entries = t.entries ++ t.jumps; jumps = [] }) ≡ relocate w before t) has.words (joined-relocated w before t v u are) in
    let filled = tables-filled w before t v u are in
    (filled.0, loaded ∙ joined ∙ filled.1.is, filled.1)
