-- What placed memories have.
use Rattle.wild_placer.proofs.Common.{◌≡◌, ℕ, ◌+◌, List, [], ◌∷◌, map, refl, sym, ap, ◌∙◌, Option, None, Some, Result, Ok, Err, bytes, FileHeader, ProgramHeader, LoadFault, Image, Memory, Run, Tables, World, ◌>>=◌, memory_of, header, machine_of, program_headers, least_shared, load_segments, segments, tables, relocate, image_with, image_at, load}
use Rattle.wild_words.specs.Extents.{least_extent}
use Rattle.wild_loader.specs.declared.change.Patch.{Patch}
use Rattle.wild_loader.specs.declared.fault.LoadFault.TheVariants as faults
use Rattle.wild_loader.specs.Runs.{extent_of, check_no_overlap, put_byte, put_bytes, overlay_runs}
use Rattle.wild_loader.specs.Places.{places}
use Rattle.wild_loader.specs.Relocate.{rela_patch, place_patch, add_without_overlap, runs_of_patches, memory_with_patches}
use Rattle.wild_loader.proofs.IndexLemmas.{extents-put}
use Rattle.wild_meaning.specs.LinkedImage.{IsLinked}
use Rattle.wild_laws.specs.Laws.{ImagesAreSound}
use Rattle.wild_placer.specs.Laws.{PlacementsAreSound, PlacedRunsAreSeparate}
use Rattle.wild_placer.proofs.PlaceLemmas.{same_ok, no_error, has_memory}

pub placements_hold : ImagesAreSound → PlacementsAreSound
placements_hold images l w m fits flags kind legal is =
    let has = has_memory l w m is in
    let linked : IsLinked l w (bytes l) = (images l fits flags has.none kind).1 w legal in
    record { linked = linked; same = same_ok linked.memory m (sym linked.accepted ∙ has.loaded) }

-- ---- runs of a loaded image

record IsStep {A B : Type 0} (r : Result A LoadFault) (f : A → Result B LoadFault) (y : B) : Type 0 where
  pub value : A
  pub is : r ≡ Ok value
  pub next : f value ≡ Ok y

step_ok : {A B : Type 0} (r : Result A LoadFault) (f : A → Result B LoadFault) (y : B) → (r >>= f) ≡ Ok y → IsStep r f y
step_ok (Ok x) f y h = record { value = x; is = refl; next = h }
step_ok (Err e) f y h = absurd (no_error e y h)

extents-bytes : (a : ℕ) (bs : List ℕ) (rs : List Run) → map extent_of (put_bytes a bs rs) ≡ map extent_of rs
unfolding put_bytes
extents-bytes a [] rs = refl
extents-bytes a (b ∷ bs) rs = extents-bytes (a + 1) bs (put_byte a b rs) ∙ extents-put a b rs

extents-overlay : (ps rs : List Run) → map extent_of (overlay_runs ps rs) ≡ map extent_of rs
unfolding overlay_runs
extents-overlay [] rs = refl
extents-overlay (p ∷ ps) rs = extents-overlay ps (put_bytes p.start p.bytes rs) ∙ extents-bytes p.start p.bytes rs

-- entries change bytes where runs have some
relocated : (w : World) (m after : Memory) (t : Tables) → relocate w m t ≡ Ok after → map extent_of after.runs ≡ map extent_of m.runs
unfolding relocate
relocated w m after t h =
    let last : List Patch → Result Memory LoadFault = λ c. Ok (memory_with_patches m c) in
    let jumps : List Patch → Result Memory LoadFault = λ b. add_without_overlap (rela_patch w m) t.jumps b >>= last in
    let entries : List Patch → Result Memory LoadFault = λ a. add_without_overlap (rela_patch w m) t.entries a >>= jumps in
    let a = step_ok (add_without_overlap (place_patch w m) (places t.words) []) entries after h in
    let b = step_ok (add_without_overlap (rela_patch w m) t.entries a.value) jumps after a.next in
    let c = step_ok (add_without_overlap (rela_patch w m) t.jumps b.value) last after b.next in
    ap (λ (x : Memory). map extent_of x.runs) (sym (same_ok (memory_with_patches m c.value) after c.next)) ∙ extents-overlay (runs_of_patches c.value) m.runs

none_shared : (o : Option ℕ) (u : Unit {0}) → check_no_overlap o ≡ Ok u → o ≡ None
none_shared None u h = refl
none_shared (Some a) u h = absurd (no_error (faults.Overlap a) u h)

segments_apart : (base : ℕ) (image : List ℕ) (hs : List ProgramHeader) (runs : List Run) → segments base image hs ≡ Ok runs → least_shared runs ≡ None
unfolding segments
segments_apart base image hs runs h =
    let check : List Run → Result (List Run) LoadFault = λ rs. check_no_overlap (least_shared rs) >>= λ apart. Ok rs in
    let a = step_ok (load_segments base image hs []) check runs h in
    let last : Unit {0} → Result (List Run) LoadFault = λ apart. Ok a.value in
    let b = step_ok (check_no_overlap (least_shared a.value)) last runs a.next in
    ap least_shared (sym (same_ok a.value runs b.next)) ∙ none_shared (least_shared a.value) b.value b.is

image_apart : (base : ℕ) (image : List ℕ) (i : Image) → image_at base image ≡ Ok i → least_shared i.runs ≡ None
unfolding image_at image_with
image_apart base image i h =
    let read : FileHeader → Result Image LoadFault = λ e. image_with base image e (program_headers image e.program_count e.program_offset) in
    let a = step_ok (header image) read i h in
    let hs = program_headers image a.value.program_count a.value.program_offset in
    let tabled : List Run → Result Image LoadFault = λ runs. tables image a.value hs >>= λ t. Ok (record { machine = machine_of a.value; runs = runs; tables = t }) in
    let b = step_ok (segments base image hs) tabled i a.next in
    let made : Tables → Image = λ t. record { machine = machine_of a.value; runs = b.value; tables = t } in
    let last : Tables → Result Image LoadFault = λ t. Ok (made t) in
    let c = step_ok (tables image a.value hs) last i b.next in
    runs_of_image (made c.value) i b.value (same_ok (made c.value) i c.next) refl (segments_apart base image hs b.value b.is)
  where
    runs_of_image : (made i : Image) (runs : List Run) → made ≡ i → made.runs ≡ runs → least_shared runs ≡ None → least_shared i.runs ≡ None
    runs_of_image made i runs same has none = ap (λ (x : Image). least_shared x.runs) (sym same) ∙ ap least_shared has ∙ none

loaded_apart : (w : World) (image : List ℕ) (m : Memory) → load w image ≡ Ok m → least_shared m.runs ≡ None
unfolding load
loaded_apart w image m h =
    let apply : Image → Result Memory LoadFault = λ i. relocate w (memory_of i.machine i.runs) i.tables in
    let a = step_ok (image_at w.base image) apply m h in
    ap least_extent (relocated w (memory_of a.value.machine a.value.runs) m a.value.tables a.next) ∙ image_apart w.base image a.value a.is

pub runs_are_separate : PlacedRunsAreSeparate
runs_are_separate l w m is = loaded_apart w (bytes l) m (has_memory l w m is).loaded
