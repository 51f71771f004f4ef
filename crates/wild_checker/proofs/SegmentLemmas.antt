-- Where layout and image have the same segments to load, none of the image's ends past the last address of a legal world.
use Rattle.wild_checker.proofs.Common.{◌≡◌, ℕ, zero, suc, ◌+◌, ◌^◌, ◌<◌, ◌≤◌, Bool, true, false, ◌&&◌, List, [], ◌∷◌, length, get_or, inl, inr, nat_lt, refl, sym, ◌∙◌, arith, subst, Option, Some, None, Ok, All, if◌then◌else◌, ◌==◌, slice_get, eqb-true, eq-eqb, All-nil, All-cons, Layout, World}
use Rattle.std.proofs.lemmas.Bool.{ltb-false}
use Rattle.std.proofs.lemmas.Bool.Decides.{leb_tells}
use Rattle.std.proofs.lemmas.List.Elements.{All-head, All-tail}
use Rattle.wild_records.specs.Abi.Segment.{pt_load}
use Rattle.wild_records.specs.declared.file_header.FileHeader.{FileHeader}
use Rattle.wild_records.specs.declared.program_header.ProgramHeader.{ProgramHeader}
use Rattle.wild_types.specs.declared.section.Segment.{Segment}
use Rattle.wild_loader.specs.Headers.{header, program_headers}
use Rattle.wild_loader.specs.MovedLaws.{EndsBelow}
use Rattle.wild_loader.proofs.EntryLemmas.{stepped, same-ok}
use Rattle.wild_terms.specs.Laws.{HasRoom}
use Rattle.wild_checker.specs.declared.segments.Load.{Load}
use Rattle.wild_checker.specs.Segments.{layout_loads, image_loads, is_same, is_at, first_different, segment_doubt}

-- it ends at or below the last address at a base
abbrev HasRoomAt : ℕ → Load → Type 0
HasRoomAt base x = base + x.address + x.mem_size ≤ 2 ^ 64

-- what is made of a segment to load has room
room_of_loads : (base : ℕ) (gs : List Segment) → All (λ (g : Segment). g.kind ≡ pt_load → base + g.address + g.mem_size ≤ 2 ^ 64) gs → All (HasRoomAt base) (layout_loads gs)
room_of_loads base [] h = All-nil (HasRoomAt base)
room_of_loads base (g ∷ gs) h = by_test (room_of_loads base gs (All-tail (λ (g : Segment). g.kind ≡ pt_load → base + g.address + g.mem_size ≤ 2 ^ 64) g gs h)) (g.kind == pt_load) refl
  where
    by_test : All (HasRoomAt base) (layout_loads gs) → (b : Bool) → (g.kind == pt_load) ≡ b → All (HasRoomAt base) (layout_loads (g ∷ gs))
    by_test rest true e = rw e (All-cons (HasRoomAt base) (record { address = g.address; file_size = g.file_size; mem_size = g.mem_size }) (layout_loads gs) (All-head (λ (g : Segment). g.kind ≡ pt_load → base + g.address + g.mem_size ≤ 2 ^ 64) g gs h (eqb-true g.kind pt_load e)) rest)
    by_test rest false e = rw e rest

both : (a b : Bool) → (a && b) ≡ true → (a ≡ true) × (b ≡ true)
both true b h = (refl, h)
both false b h = cc

get_at : {X : Type 0} (xs : List X) (i : ℕ) (x d : X) → slice_get xs i ≡ Some x → get_or xs i d ≡ x
get_at [] i x d h = cc
get_at (y ∷ ys) zero x d h = cc
get_at (y ∷ ys) (suc i) x d h = get_at ys i x d h

-- a load that is at a position has room if the other has
room_at : (base i : ℕ) (a d : Load) (bs : List Load) → is_at bs i a ≡ true → HasRoomAt base a → HasRoomAt base (get_or bs i d)
room_at base i a d bs e room = by_load (slice_get bs i) refl e
  where
    by_load : (x : Option Load) → slice_get bs i ≡ x → is_same x a ≡ true → HasRoomAt base (get_or bs i d)
    by_load None f e = cc
    by_load (Some b) f e =
        let one = both (b.address == a.address && (b.file_size == a.file_size)) (b.mem_size == a.mem_size) e in
        let two = both (b.address == a.address) (b.file_size == a.file_size) one.0 in
        let address = eqb-true b.address a.address two.0 in
        let size = eqb-true b.mem_size a.mem_size one.1 in
        subst (HasRoomAt base) (sym (get_at bs i b d f)) (omega (arith, address, size, room))

-- the same loads have room alike
room_of_same : (base i : ℕ) (front bs : List Load) → first_different i front bs ≡ None → All (HasRoomAt base) front → (k : ℕ) (d : Load) → i ≤ k → k < length bs → HasRoomAt base (get_or bs k d)
room_of_same base i [] bs e h k d low high = by_test (nat_lt i (length bs)) refl e
  where
    by_test : (b : Bool) → nat_lt i (length bs) ≡ b → (if b then Some i else None) ≡ None → HasRoomAt base (get_or bs k d)
    by_test true f e = cc
    by_test false f e = let few = ltb-false i (length bs) f in absurd (omega (arith, few, low, high))
room_of_same base i (a ∷ more) bs e h k d low high = by_test (λ f. room_of_same base (i + 1) more bs f (All-tail (HasRoomAt base) a more h) k d) (is_at bs i a) refl e
  where
    by_test : (first_different (i + 1) more bs ≡ None → i + 1 ≤ k → k < length bs → HasRoomAt base (get_or bs k d)) → (b : Bool) → is_at bs i a ≡ b → (if b then first_different (i + 1) more bs else Some i) ≡ None → HasRoomAt base (get_or bs k d)
    by_test rest false f e = cc
    by_test rest true f e = elim (leb_tells k i) [
      | inl t ↦ (let s = t.1 in let same : i ≡ k = omega (arith, s, low) in let P : ℕ → Type 0 = λ n. HasRoomAt base (get_or bs n d) in subst P same (room_at base i a d bs f (All-head (HasRoomAt base) a more h)))
      | inr t ↦ (let s = t.1 in rest e (omega (arith, s)) high)
    ]

-- and so have the headers
room_of_headers : (base : ℕ) (hs : List ProgramHeader) → All (HasRoomAt base) (image_loads hs) → EndsBelow base hs
room_of_headers base [] h = All-nil (λ (g : ProgramHeader). g.kind ≡ pt_load → base + g.address + g.mem_size ≤ 2 ^ 64)
room_of_headers base (g ∷ gs) h = by_test (room_of_headers base gs) (g.kind == pt_load) refl
  where
    P : ProgramHeader → Type 0
    P g = g.kind ≡ pt_load → base + g.address + g.mem_size ≤ 2 ^ 64

    by_test : (All (HasRoomAt base) (image_loads gs) → EndsBelow base gs) → (b : Bool) → (g.kind == pt_load) ≡ b → EndsBelow base (g ∷ gs)
    by_test rest true e =
        let all : All (HasRoomAt base) (record { address = g.address; file_size = g.file_size; mem_size = g.mem_size } ∷ image_loads gs) = rw e at h in
        All-cons (λ (g : ProgramHeader). g.kind ≡ pt_load → base + g.address + g.mem_size ≤ 2 ^ 64) g gs (λ k. All-head (HasRoomAt base) (record { address = g.address; file_size = g.file_size; mem_size = g.mem_size }) (image_loads gs) all) (rest (All-tail (HasRoomAt base) (record { address = g.address; file_size = g.file_size; mem_size = g.mem_size }) (image_loads gs) all))
    by_test rest false e =
        let all : All (HasRoomAt base) (image_loads gs) = rw e at h in
        All-cons (λ (g : ProgramHeader). g.kind ≡ pt_load → base + g.address + g.mem_size ≤ 2 ^ 64) g gs (λ k. let t = eq-eqb g.kind pt_load k in absurd (let both = sym e ∙ t in cc)) (rest all)

pub room_for : (l : Layout) (w : World) (image : List ℕ) → segment_doubt l image ≡ Ok None → All (λ (g : Segment). g.kind ≡ pt_load → w.base + g.address + g.mem_size ≤ 2 ^ 64) l.segments → HasRoom w image
unfolding segment_doubt
room_for l w image d ends e is =
    let s = stepped (header image) (λ e. Ok (first_different 0 (layout_loads l.segments) (image_loads (program_headers image e.program_count e.program_offset)))) None d in
    let same : s.value ≡ e = same-ok s.value e (sym s.was ∙ is) in
    let none = same-ok (first_different 0 (layout_loads l.segments) (image_loads (program_headers image s.value.program_count s.value.program_offset))) None s.next in
    let P : FileHeader → Type 0 = λ h. first_different 0 (layout_loads l.segments) (image_loads (program_headers image h.program_count h.program_offset)) ≡ None in
    room_of_headers w.base (program_headers image e.program_count e.program_offset) (λ k d high. room_of_same w.base 0 (layout_loads l.segments) (image_loads (program_headers image e.program_count e.program_offset)) (subst P same none) (room_of_loads w.base l.segments ends) k d (omega arith) high)
