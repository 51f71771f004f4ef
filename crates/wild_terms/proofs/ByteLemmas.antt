-- Bytes of runs that are shifted by a base.
use Rattle.std.proofs.Common.{◌≡◌, ℕ, ◌+◌, ◌-◌, ◌^◌, ◌<◌, ◌≤◌, inl, inr, Bool, true, false, List, [], ◌∷◌, ◌++◌, length, map, refl, sym, ◌∙◌, arith, subst, nat_le, nat_lt, min, take, drop, replicate}
use Rattle.std.specs.Prelude.{Some, None, Ok, Err, All, if◌then◌else◌, ◌&&◌, ◌==◌, slice_index}
use Rattle.std.proofs.lemmas.Bool.{cases_Bool, false≢true, leb-true, le-leb, ltb-true, ltb-false, lt-ltb}
use Rattle.std.proofs.lemmas.List.Elements.{All-head, All-tail, All-nil, All-append, All-cons, All-take, All-drop, All-replicate}
use Rattle.wild_records.specs.Abi.Segment.{pt_load}
use Rattle.wild_records.specs.declared.program_header.ProgramHeader.{ProgramHeader}
use Rattle.wild_loader.specs.declared.fault.LoadFault.TheVariants as faults
use Rattle.wild_loader.specs.declared.image.Image.{Image}
use Rattle.wild_loader.specs.declared.memory.Machine.{Machine}
use Rattle.wild_loader.specs.declared.memory.Memory.{Memory}
use Rattle.wild_loader.specs.declared.memory.Run.{Run}
use Rattle.wild_loader.specs.Headers.{header, program_headers}
use Rattle.wild_loader.specs.Load.{image_at, image_with}
use Rattle.wild_loader.specs.Memory.{memory_of, byte_of, byte_in, Holds}
use Rattle.wild_loader.specs.MovedLaws.{shifted_run}
use Rattle.wild_loader.specs.Runs.{has_address, check_no_overlap, least_shared}
use Rattle.wild_loader.specs.Segments.{runs_of, run_of, load_segment, load_segments, segments}
use Rattle.wild_loader.specs.Tables.{tables}
use Rattle.wild_loader.proofs.EntryLemmas.{stepped, same-ok}
use Rattle.wild_loader.proofs.SegmentLemmas.{length-run_of}

-- ---- a run has a byte at an address

both : (a b : Bool) → (a && b) ≡ true → (a ≡ true) × (b ≡ true)
both true b h = (refl, h)
both false b h = cc

has : (r : Run) (a : ℕ) → r.start ≤ a → a < r.start + length r.bytes → has_address r a ≡ true
has r a l h =
    let e = le-leb r.start a l in
    let t : a - r.start < length r.bytes = omega arith in
    let f = lt-ltb (a - r.start) (length r.bytes) t in
    rw (e, f) refl

had : (r : Run) (a : ℕ) → has_address r a ≡ true → (r.start ≤ a) × (a < r.start + length r.bytes)
had r a h =
    let b = both (nat_le r.start a) (nat_lt (a - r.start) (length r.bytes)) h in
    let l = leb-true r.start a b.0 in
    let t = ltb-true (a - r.start) (length r.bytes) b.1 in
    (l, omega (arith, l, t))

has_not : (r : Run) (a : ℕ) → ((r.start ≤ a) → (a < r.start + length r.bytes) → ⊥) → has_address r a ≡ false
has_not r a h = elim (cases_Bool (has_address r a)) [
  | inl t ↦ (let b = had r a t in absurd (h b.0 b.1))
  | inr f ↦ f
]

-- ---- shifted runs

-- the run ends at or below the last address
abbrev pub EndsInRange : Run → Type 0
EndsInRange r = r.start + length r.bytes ≤ 2 ^ 64

-- a byte of runs is at the same distance in shifted runs
pub record IsShifted (base : ℕ) (runs : List Run) (a b : ℕ) : Type 0 where
  pub byte : byte_of (map (shifted_run base) runs) (base + a) ≡ Some b
  pub small : base + a < 2 ^ 64

pub byte_shifted : (base : ℕ) (runs : List Run) (a b : ℕ) → All EndsInRange (map (shifted_run base) runs) → byte_of runs a ≡ Some b → IsShifted base runs a b
byte_shifted base [] a b r h = cc
byte_shifted base (s ∷ ss) a b r h = by_test (byte_shifted base ss a b (All-tail EndsInRange (shifted_run base s) (map (shifted_run base) ss) r)) (All-head EndsInRange (shifted_run base s) (map (shifted_run base) ss) r) (has_address s a) refl h
  where
    by_test : (byte_of ss a ≡ Some b → IsShifted base ss a b) → EndsInRange (shifted_run base s) → (t : Bool) → has_address s a ≡ t → (if t then Some (slice_index s.bytes (a - s.start)) else byte_of ss a) ≡ Some b → IsShifted base (s ∷ ss) a b
    by_test more room true e h =
        let i = had s a e in
        let l = i.0 in
        let u = i.1 in
        let f = has (shifted_run base s) (base + a) (omega (arith, l)) (omega (arith, u)) in
        let d : base + a - (base + s.start) ≡ a - s.start = omega arith in
        record { byte = rw (f, d) h; small = omega (arith, u, room) }
    by_test more room false e h =
        let m = more h in
        let f = has_not (shifted_run base s) (base + a) (λ l u. let t = has s a (omega (arith, l)) (omega (arith, u)) in false≢true (sym e ∙ t)) in
        record { byte = rw f m.byte; small = m.small }

-- a byte of memory is a byte of its runs, below the last address
pub of_in : (m : Memory) (a b : ℕ) → byte_in m a ≡ Some b → (a < 2 ^ 64) × (byte_of m.runs a ≡ Some b)
of_in m a b h = by_test (nat_lt a (2 ^ 64)) refl h
  where
    by_test : (t : Bool) → nat_lt a (2 ^ 64) ≡ t → (if t then byte_of m.runs a else None) ≡ Some b → (a < 2 ^ 64) × (byte_of m.runs a ≡ Some b)
    by_test true e h = (ltb-true a (2 ^ 64) e, h)
    by_test false e h = cc

-- memory of shifted runs has the byte at the same distance
pub byte_moves : (machine : Machine) (base : ℕ) (runs : List Run) (a b : ℕ) → All EndsInRange (map (shifted_run base) runs) → byte_in (memory_of machine runs) a ≡ Some b → (byte_in (memory_of machine (map (shifted_run base) runs)) (base + a) ≡ Some b) × (base + a < 2 ^ 64)
byte_moves machine base runs a b r h =
    let s = byte_shifted base runs a b r (of_in (memory_of machine runs) a b h).1 in
    let t = lt-ltb (base + a) (2 ^ 64) s.small in
    (rw t s.byte, s.small)

-- and so the bytes from an address on
pub bytes_move : (machine : Machine) (base : ℕ) (runs : List Run) (a : ℕ) (bs : List ℕ) → All EndsInRange (map (shifted_run base) runs) → Holds (memory_of machine runs) a bs → Holds (memory_of machine (map (shifted_run base) runs)) (base + a) bs
bytes_move machine base runs a bs r h k l =
    let e : base + a + k ≡ base + (a + k) = omega arith in
    let m = byte_moves machine base runs (a + k) (slice_index bs k) r (h k l) in
    rw e m.0

-- the last of them is below the last address
pub room_of : (machine : Machine) (base : ℕ) (runs : List Run) (a : ℕ) (bs : List ℕ) → All EndsInRange (map (shifted_run base) runs) → Holds (memory_of machine runs) a bs → 0 < length bs → base + a + length bs ≤ 2 ^ 64
room_of machine base runs a bs r h some =
    let m = (byte_moves machine base runs (a + (length bs - 1)) (slice_index bs (length bs - 1)) r (h (length bs - 1) (omega (arith, some)))).1 in
    omega (arith, m, some)

-- ---- runs of an image

-- what each segment's run has, all runs have
added_run : (P : Run → Type 0) (base : ℕ) (image : List ℕ) → ((g : ProgramHeader) → g.offset + g.file_size ≤ length image → base + g.address + g.mem_size ≤ 2 ^ 64 → P (run_of base image g)) → (g : ProgramHeader) (acc more : List Run) → load_segment base image g acc ≡ Ok more → All P acc → All P more
unfolding load_segment
added_run P base image each g acc more h all = by_kind (g.kind == pt_load) refl h
  where
    here : g.offset + g.file_size ≤ length image → base + g.address + g.mem_size ≤ 2 ^ 64 → (b : Bool) → All P (if b then [] else run_of base image g ∷ [])
    here file end true = All-nil P
    here file end false = All-cons P (run_of base image g) [] (each g file end) (All-nil P)

    by_end : g.offset + g.file_size ≤ length image → (b : Bool) → nat_lt (2 ^ 64) (base + g.address + g.mem_size) ≡ b → (if b then Err (faults.Wraps g.address) else Ok (acc ++ runs_of base image g)) ≡ Ok more → All P more
    by_end file true e h = cc
    by_end file false e h =
        let end = ltb-false (2 ^ 64) (base + g.address + g.mem_size) e in
        let Q : List Run → Type 0 = λ v. All P v in
        subst Q (same-ok (acc ++ runs_of base image g) more h) (All-append P acc (runs_of base image g) all (here file end (g.mem_size == 0)))

    by_file : (b : Bool) → nat_lt (length image) (g.offset + g.file_size) ≡ b → (if b then Err (faults.Cut g.offset) else (if nat_lt (2 ^ 64) (base + g.address + g.mem_size) then Err (faults.Wraps g.address) else Ok (acc ++ runs_of base image g))) ≡ Ok more → All P more
    by_file true e h = cc
    by_file false e h = by_end (ltb-false (length image) (g.offset + g.file_size) e) (nat_lt (2 ^ 64) (base + g.address + g.mem_size)) refl h

    by_kind : (b : Bool) → (g.kind == pt_load) ≡ b → (if b then (if nat_lt (length image) (g.offset + g.file_size) then Err (faults.Cut g.offset) else (if nat_lt (2 ^ 64) (base + g.address + g.mem_size) then Err (faults.Wraps g.address) else Ok (acc ++ runs_of base image g))) else Ok acc) ≡ Ok more → All P more
    by_kind true e h = by_file (nat_lt (length image) (g.offset + g.file_size)) refl h
    by_kind false e h = let Q : List Run → Type 0 = λ v. All P v in subst Q (same-ok acc more h) all

added_runs : (P : Run → Type 0) (base : ℕ) (image : List ℕ) → ((g : ProgramHeader) → g.offset + g.file_size ≤ length image → base + g.address + g.mem_size ≤ 2 ^ 64 → P (run_of base image g)) → (gs : List ProgramHeader) (acc more : List Run) → load_segments base image gs acc ≡ Ok more → All P acc → All P more
unfolding load_segments
added_runs P base image each [] acc more h all = let Q : List Run → Type 0 = λ v. All P v in subst Q (same-ok acc more h) all
added_runs P base image each (g ∷ gs) acc more h all =
    let s = stepped (load_segment base image g acc) (λ runs. load_segments base image gs runs) more h in
    added_runs P base image each gs s.value more s.next (added_run P base image each g acc s.value s.was all)

-- the runs of an image that is read at a base
image_runs : (P : Run → Type 0) (base : ℕ) (image : List ℕ) → ((g : ProgramHeader) → g.offset + g.file_size ≤ length image → base + g.address + g.mem_size ≤ 2 ^ 64 → P (run_of base image g)) → (i : Image) → image_at base image ≡ Ok i → All P i.runs
unfolding image_at image_with segments
image_runs P base image each i h =
    let a = stepped (header image) (λ e. image_with base image e (program_headers image e.program_count e.program_offset)) i h in
    let hs = program_headers image a.value.program_count a.value.program_offset in
    let b = stepped (segments base image hs) _ i a.next in
    let c = stepped (load_segments base image hs []) _ b.value b.was in
    let d = stepped (check_no_overlap (least_shared c.value)) _ b.value c.next in
    let e = stepped (tables image a.value hs) _ i b.next in
    let runs : c.value ≡ b.value = same-ok c.value b.value d.next in
    let same = same-ok _ i e.next in
    let Q : Image → Type 0 = λ j. All P j.runs in
    let R : List Run → Type 0 = λ v. All P v in
    subst Q same (subst R runs (added_runs P base image each hs [] c.value c.was (All-nil P)))

pub image_in_range : (base : ℕ) (image : List ℕ) (i : Image) → image_at base image ≡ Ok i → All EndsInRange i.runs
image_in_range base image i h = image_runs EndsInRange base image (λ g file end. let n = length-run_of base image g file in omega (arith, n, end)) i h

-- ---- bytes are below 256

abbrev pub HasBytes : Run → Type 0
HasBytes r = All (λ b. b < 256) r.bytes

pub image_has_bytes : (base : ℕ) (image : List ℕ) (i : Image) → All (λ b. b < 256) image → image_at base image ≡ Ok i → All HasBytes i.runs
image_has_bytes base image i small h = image_runs HasBytes base image (λ g file end.
    let P : ℕ → Type 0 = λ b. b < 256 in
    All-append P (take (min g.file_size g.mem_size) (drop g.offset image)) (replicate (g.mem_size - g.file_size) 0) (All-take P (min g.file_size g.mem_size) (drop g.offset image) (All-drop P g.offset image small)) (All-replicate P (g.mem_size - g.file_size) 0 (omega arith))) i h

byte_of_small : (runs : List Run) (a b : ℕ) → All HasBytes runs → byte_of runs a ≡ Some b → b < 256
byte_of_small [] a b all h = cc
byte_of_small (r ∷ rs) a b all h = by_test (byte_of_small rs a b (All-tail HasBytes r rs all)) (has_address r a) refl h
  where
    by_test : (byte_of rs a ≡ Some b → b < 256) → (t : Bool) → has_address r a ≡ t → (if t then Some (slice_index r.bytes (a - r.start)) else byte_of rs a) ≡ Some b → b < 256
    by_test rest true e h =
        let i = had r a e in
        let l = i.0 in
        let u = i.1 in
        let x = All-head HasBytes r rs all (a - r.start) 0 (omega (arith, l, u)) in
        let same : slice_index r.bytes (a - r.start) ≡ b = cc in
        let P : ℕ → Type 0 = λ y. y < 256 in
        subst P same x
    by_test rest false e h = rest h

pub byte_small : (m : Memory) (a b : ℕ) → All HasBytes m.runs → byte_in m a ≡ Some b → b < 256
byte_small m a b all h = byte_of_small m.runs a b all (of_in m a b h).1
