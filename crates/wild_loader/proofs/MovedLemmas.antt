-- An image that is read at another base.
use Rattle.std.proofs.Common.{◌≡◌, ℕ, ◌+◌, ◌^◌, ◌≤◌, inl, inr, Bool, true, false, List, [], ◌∷◌, ◌++◌, length, refl, sym, ap, ◌∙◌, arith, map, max, min, subst}
use Rattle.std.specs.Prelude.{◌==◌, if◌then◌else◌, nat_lt, Option, Some, None, Result, Ok, Err}
use Rattle.std.proofs.lemmas.List.{map-append}
use Rattle.std.proofs.lemmas.List.Elements.{All-head, All-tail}
use Rattle.std.proofs.lemmas.Bool.{cases_Bool, eqb-true, ltb-true, ltb-false, le-ltb, lt-ltb}
use Rattle.wild_records.specs.Abi.Segment.{pt_load}
use Rattle.wild_records.specs.declared.file_header.FileHeader.{FileHeader}
use Rattle.wild_records.specs.declared.program_header.ProgramHeader.{ProgramHeader}
use Rattle.wild_words.specs.Extents.{least, shared_among, least_extent}
use Rattle.wild_loader.specs.declared.fault.LoadFault.{LoadFault}
use Rattle.wild_loader.specs.declared.image.Image.{Image}
use Rattle.wild_loader.specs.declared.memory.Run.{Run}
use Rattle.wild_loader.specs.declared.tables.Tables.{Tables}
use Rattle.wild_loader.specs.Outcome.{◌>>=◌}
use Rattle.wild_loader.specs.Headers.{header, machine_of, program_headers}
use Rattle.wild_loader.specs.Runs.{extent_of, shared_address, least_shared, check_no_overlap}
use Rattle.wild_loader.specs.Segments.{run_of, runs_of, load_segment, load_segments, segments}
use Rattle.wild_loader.specs.Tables.{tables}
use Rattle.wild_loader.specs.Load.{image_at, image_with}
use Rattle.wild_loader.specs.MovedLaws.{shifted_run, moved, EndsBelow, ImagesShiftWithBase, ShiftedImagesAreRead}

-- ---- steps

-- where a step and the next answer, the first did
pub first_ok : {A B : Type 0} (r : Result A LoadFault) (f : A → Result B LoadFault) (y : B) → (r >>= f) ≡ Ok y → (x : A) × (r ≡ Ok x) × (f x ≡ Ok y)
first_ok (Ok x) f y h = (x, refl, h)
first_ok (Err e) f y h = cc

then_ok : {A B : Type 0} (r : Result A LoadFault) (f : A → Result B LoadFault) (x : A) → r ≡ Ok x → (r >>= f) ≡ f x
then_ok r f x e = rw e refl

-- ---- no two runs share an address

is_relative : (more a b c d : ℕ) → nat_lt (max (more + a) (more + c)) (min (more + a + b) (more + c + d)) ≡ nat_lt (max a c) (min (a + b) (c + d))
is_relative more a b c d =
    elim (cases_Bool (nat_lt (max a c) (min (a + b) (c + d)))) [
      | inl t ↦ (let l = ltb-true _ _ t in let u : nat_lt (max (more + a) (more + c)) (min (more + a + b) (more + c + d)) ≡ true = lt-ltb _ _ (omega (arith, l)) in u ∙ sym t)
      | inr f ↦ (let l = ltb-false _ _ f in let u : nat_lt (max (more + a) (more + c)) (min (more + a + b) (more + c + d)) ≡ false = le-ltb _ _ (omega (arith, l)) in u ∙ sym f)
    ]

-- runs that are moved share an address where they did
unshared : (more : ℕ) (r s : Run) → (shared_address (shifted_run more r) (shifted_run more s) ≡ None → shared_address r s ≡ None) × (shared_address r s ≡ None → shared_address (shifted_run more r) (shifted_run more s) ≡ None)
unshared more r s =
    let e = is_relative more r.start (length r.bytes) s.start (length s.bytes) in
    elim (cases_Bool (nat_lt (max r.start s.start) (min (r.start + length r.bytes) (s.start + length s.bytes)))) [
      | inl t ↦ (λ h. absurd (some_shared _ _ (e ∙ t) h), λ h. absurd (some_shared _ _ t h))
      | inr f ↦ (λ h. rw f refl, λ h. rw (e ∙ f) refl)
    ]
  where
    some_shared : (test : Bool) (n : ℕ) → test ≡ true → (if test then Some n else None) ≡ None → ⊥
    some_shared true n t h = cc
    some_shared false n t h = cc

least_none : (a b : Option ℕ) → least a b ≡ None → (a ≡ None) × (b ≡ None)
least_none None b h = (refl, h)
least_none (Some a) None h = cc
least_none (Some a) (Some b) h = cc

among_moved : (more : ℕ) (r : Run) (rs : List Run) → shared_among (extent_of r) (map extent_of rs) ≡ None → shared_among (extent_of (shifted_run more r)) (map extent_of (map (shifted_run more) rs)) ≡ None
among_moved more r [] h = refl
among_moved more r (s ∷ ss) h = (let two = least_none _ _ h in rw ((unshared more r s).1 two.0, among_moved more r ss two.1) refl)

among_back : (more : ℕ) (r : Run) (rs : List Run) → shared_among (extent_of (shifted_run more r)) (map extent_of (map (shifted_run more) rs)) ≡ None → shared_among (extent_of r) (map extent_of rs) ≡ None
among_back more r [] h = refl
among_back more r (s ∷ ss) h = (let two = least_none _ _ h in rw ((unshared more r s).0 two.0, among_back more r ss two.1) refl)

apart_moved : (more : ℕ) (rs : List Run) → least_shared rs ≡ None → least_shared (map (shifted_run more) rs) ≡ None
unfolding least_extent
apart_moved more [] h = refl
apart_moved more (r ∷ rs) h = (let two = least_none _ _ h in rw (among_moved more r rs two.0, apart_moved more rs two.1) refl)

apart_back : (more : ℕ) (rs : List Run) → least_shared (map (shifted_run more) rs) ≡ None → least_shared rs ≡ None
unfolding least_extent
apart_back more [] h = refl
apart_back more (r ∷ rs) h = (let two = least_none _ _ h in rw (among_back more r rs two.0, apart_back more rs two.1) refl)

unless_none : (o : Option ℕ) (runs out : List Run) → (check_no_overlap o >>= λ apart. Ok runs) ≡ Ok out → (o ≡ None) × (runs ≡ out)
unless_none None runs out h = (refl, cc)
unless_none (Some a) runs out h = cc

-- ---- a segment

own_moved : (base more : ℕ) (image : List ℕ) (g : ProgramHeader) → runs_of (more + base) image g ≡ map (shifted_run more) (runs_of base image g)
own_moved base more image g =
    elim (cases_Bool (g.mem_size == 0)) [
      | inl t ↦ rw t refl
      | inr f ↦ rw f (let e : more + base + g.address ≡ more + (base + g.address) = omega arith in ap (λ (a : ℕ). record { start = a; bytes = (run_of base image g).bytes } ∷ []) e)
    ]

more_moved : (base more : ℕ) (image : List ℕ) (g : ProgramHeader) (acc : List Run) → map (shifted_run more) acc ++ runs_of (more + base) image g ≡ map (shifted_run more) (acc ++ runs_of base image g)
more_moved base more image g acc = ap (λ (rs : List Run). map (shifted_run more) acc ++ rs) (own_moved base more image g) ∙ sym (map-append (shifted_run more) acc (runs_of base image g))

-- a segment that is loaded at a base is loaded at one further, where it does not wrap there
abbrev IsIn : ℕ → ProgramHeader → Type 0
IsIn base g = g.kind ≡ pt_load → base + g.address + g.mem_size ≤ 2 ^ 64

one_moved : (base more : ℕ) (image : List ℕ) (g : ProgramHeader) (acc out : List Run) → load_segment base image g acc ≡ Ok out → IsIn (more + base) g → load_segment (more + base) image g (map (shifted_run more) acc) ≡ Ok (map (shifted_run more) out)
unfolding load_segment
one_moved base more image g acc out h low =
    elim (cases_Bool (g.kind == pt_load)) [
      | inr f ↦ (let e : Ok acc ≡ Ok out = rw f at h in let same : acc ≡ out = cc in rw f (ap (λ (rs : List Run). Ok (map (shifted_run more) rs)) same))
      | inl t ↦
          elim (cases_Bool (nat_lt (length image) (g.offset + g.file_size))) [
            | inl cut ↦ absurd (refused _ (rw (t, cut) at h))
            | inr fits ↦
                elim (cases_Bool (nat_lt (2 ^ 64) (base + g.address + g.mem_size))) [
                  | inl wraps ↦ absurd (refused _ (rw (t, fits, wraps) at h))
                  | inr in_room ↦
                      (let e : Ok (acc ++ runs_of base image g) ≡ Ok out = rw (t, fits, in_room) at h in
                      let same : acc ++ runs_of base image g ≡ out = cc in
                      let b = low (eqb-true g.kind pt_load t) in
                      let room : nat_lt (2 ^ 64) (more + base + g.address + g.mem_size) ≡ false = le-ltb _ _ b in
                      rw (t, fits, room) (ap (λ (rs : List Run). Ok rs) (more_moved base more image g acc ∙ ap (λ (rs : List Run). map (shifted_run more) rs) same)))
                ]
          ]
    ]
  where
    refused : (e : LoadFault) → Err e ≡ Ok out → ⊥
    refused e h = cc

-- and what is loaded further is loaded at the base
one_back : (base more : ℕ) (image : List ℕ) (g : ProgramHeader) (acc out : List Run) → load_segment (more + base) image g (map (shifted_run more) acc) ≡ Ok out → (rs : List Run) × (load_segment base image g acc ≡ Ok rs) × (out ≡ map (shifted_run more) rs)
unfolding load_segment
one_back base more image g acc out h =
    elim (cases_Bool (g.kind == pt_load)) [
      | inr f ↦ (let e : Ok (map (shifted_run more) acc) ≡ Ok out = rw f at h in (acc, rw f refl, (let same : map (shifted_run more) acc ≡ out = cc in sym same)))
      | inl t ↦
          elim (cases_Bool (nat_lt (length image) (g.offset + g.file_size))) [
            | inl cut ↦ absurd (refused _ (rw (t, cut) at h))
            | inr fits ↦
                elim (cases_Bool (nat_lt (2 ^ 64) (more + base + g.address + g.mem_size))) [
                  | inl wraps ↦ absurd (refused _ (rw (t, fits, wraps) at h))
                  | inr in_room ↦
                      (let e : Ok (map (shifted_run more) acc ++ runs_of (more + base) image g) ≡ Ok out = rw (t, fits, in_room) at h in
                      let same : map (shifted_run more) acc ++ runs_of (more + base) image g ≡ out = cc in
                      let b = ltb-false _ _ in_room in
                      let room : nat_lt (2 ^ 64) (base + g.address + g.mem_size) ≡ false = le-ltb _ _ (omega (arith, b)) in
                      (acc ++ runs_of base image g, rw (t, fits, room) refl, sym same ∙ more_moved base more image g acc))
                ]
          ]
    ]
  where
    refused : (e : LoadFault) → Err e ≡ Ok out → ⊥
    refused e h = cc

-- ---- segments

all_moved : (base more : ℕ) (image : List ℕ) (gs : List ProgramHeader) (acc out : List Run) → load_segments base image gs acc ≡ Ok out → EndsBelow (more + base) gs → load_segments (more + base) image gs (map (shifted_run more) acc) ≡ Ok (map (shifted_run more) out)
unfolding load_segments
all_moved base more image [] acc out h low = (let same : acc ≡ out = cc in ap (λ (rs : List Run). Ok (map (shifted_run more) rs)) same)
all_moved base more image (g ∷ gs) acc out h low =
    let first = first_ok (load_segment base image g acc) (load_segments base image gs) out h in
    let one = one_moved base more image g acc first.0 first.1 (All-head (IsIn (more + base)) g gs low) in
    rw one (all_moved base more image gs first.0 out first.2 (All-tail (IsIn (more + base)) g gs low))

all_back : (base more : ℕ) (image : List ℕ) (gs : List ProgramHeader) (acc out : List Run) → load_segments (more + base) image gs (map (shifted_run more) acc) ≡ Ok out → (rs : List Run) × (load_segments base image gs acc ≡ Ok rs) × (out ≡ map (shifted_run more) rs)
unfolding load_segments
all_back base more image [] acc out h = (acc, refl, (let same : map (shifted_run more) acc ≡ out = cc in sym same))
all_back base more image (g ∷ gs) acc out h =
    let first = first_ok (load_segment (more + base) image g (map (shifted_run more) acc)) (load_segments (more + base) image gs) out h in
    let one = one_back base more image g acc first.0 first.1 in
    let rest = all_back base more image gs one.0 out (subst (λ (rs : List Run). load_segments (more + base) image gs rs ≡ Ok out) one.2 first.2) in
    (rest.0, rw one.1 rest.1, rest.2)

segments_moved : (base more : ℕ) (image : List ℕ) (gs : List ProgramHeader) (out : List Run) → segments base image gs ≡ Ok out → EndsBelow (more + base) gs → segments (more + base) image gs ≡ Ok (map (shifted_run more) out)
unfolding segments
segments_moved base more image gs out h low =
    let first = first_ok (load_segments base image gs []) (λ runs. check_no_overlap (least_shared runs) >>= λ apart. Ok runs) out h in
    let two = unless_none (least_shared first.0) first.0 out first.2 in
    let all = all_moved base more image gs [] first.0 first.1 low in
    rw (all, apart_moved more first.0 two.0) (ap (λ (rs : List Run). Ok (map (shifted_run more) rs)) two.1)

segments_back : (base more : ℕ) (image : List ℕ) (gs : List ProgramHeader) (out : List Run) → segments (more + base) image gs ≡ Ok out → (rs : List Run) × (segments base image gs ≡ Ok rs) × (out ≡ map (shifted_run more) rs)
unfolding segments
segments_back base more image gs out h =
    let first = first_ok (load_segments (more + base) image gs []) (λ runs. check_no_overlap (least_shared runs) >>= λ apart. Ok runs) out h in
    let two = unless_none (least_shared first.0) first.0 out first.2 in
    let all = all_back base more image gs [] first.0 first.1 in
    let none : least_shared (map (shifted_run more) all.0) ≡ None = subst (λ (rs : List Run). least_shared rs ≡ None) all.2 two.0 in
    (all.0, rw (all.1, apart_back more all.0 none) refl, sym two.1 ∙ all.2)

-- ---- the whole

abbrev read_of : FileHeader → List Run → Tables → Image
read_of e runs t = record { machine = machine_of e; runs = runs; tables = t }

with_moved : (base more : ℕ) (image : List ℕ) (e : FileHeader) (hs : List ProgramHeader) (i : Image) → image_with base image e hs ≡ Ok i → EndsBelow (more + base) hs → image_with (more + base) image e hs ≡ Ok (moved more i)
unfolding image_with
with_moved base more image e hs i h low =
    let first = first_ok (segments base image hs) (λ runs. tables image e hs >>= λ t. Ok (read_of e runs t)) i h in
    let second = first_ok (tables image e hs) (λ t. Ok (read_of e first.0 t)) i first.2 in
    let runs = segments_moved base more image hs first.0 first.1 low in
    let same : read_of e first.0 second.0 ≡ i = (let h = second.2 in cc) in
    then_ok (segments (more + base) image hs) (λ runs. tables image e hs >>= λ t. Ok (read_of e runs t)) (map (shifted_run more) first.0) runs
    ∙ then_ok (tables image e hs) (λ t. Ok (read_of e (map (shifted_run more) first.0) t)) second.0 second.1
    ∙ ap (λ (x : Image). Ok (moved more x)) same

with_back : (base more : ℕ) (image : List ℕ) (e : FileHeader) (hs : List ProgramHeader) (j : Image) → image_with (more + base) image e hs ≡ Ok j → (i : Image) × (image_with base image e hs ≡ Ok i) × (j ≡ moved more i)
unfolding image_with
with_back base more image e hs j h =
    let first = first_ok (segments (more + base) image hs) (λ runs. tables image e hs >>= λ t. Ok (read_of e runs t)) j h in
    let second = first_ok (tables image e hs) (λ t. Ok (read_of e first.0 t)) j first.2 in
    let runs = segments_back base more image hs first.0 first.1 in
    let same : read_of e first.0 second.0 ≡ j = (let h = second.2 in cc) in
    let read = then_ok (segments base image hs) (λ runs. tables image e hs >>= λ t. Ok (read_of e runs t)) runs.0 runs.1 ∙ then_ok (tables image e hs) (λ t. Ok (read_of e runs.0 t)) second.0 second.1 in
    (read_of e runs.0 second.0, read, sym same ∙ ap (λ (rs : List Run). read_of e rs second.0) runs.2)

pub images-moved : ImagesShiftWithBase
unfolding image_at
images-moved = λ base more image i h low.
    let first = first_ok (header image) (λ e. image_with base image e (program_headers image e.program_count e.program_offset)) i h in
    let e = first.0 in
    let all = with_moved base more image e (program_headers image e.program_count e.program_offset) i first.2 (low e first.1) in
    then_ok (header image) (λ e. image_with (more + base) image e (program_headers image e.program_count e.program_offset)) e first.1 ∙ all

pub images-back : ShiftedImagesAreRead
unfolding image_at
images-back = λ base more image j h.
    let first = first_ok (header image) (λ e. image_with (more + base) image e (program_headers image e.program_count e.program_offset)) j h in
    let e = first.0 in
    let all = with_back base more image e (program_headers image e.program_count e.program_offset) j first.2 in
    (all.0, then_ok (header image) (λ e. image_with base image e (program_headers image e.program_count e.program_offset)) e first.1 ∙ all.1, all.2)
