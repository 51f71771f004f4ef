-- In a world, the loader makes the changes of symbolic loading.
use Rattle.std.proofs.Common.{◌≡◌, ℕ, zero, suc, ◌+◌, ◌-◌, ◌*◌, ◌/◌, ◌%◌, ◌^◌, ◌<◌, ◌≤◌, inl, inr, ◌⊎◌, Bool, true, false, List, [], ◌∷◌, ◌++◌, length, get_or, map, refl, sym, ap, ◌∙◌, arith, subst}
use Rattle.std.specs.Prelude.{Option, Some, None, Result, Ok, Err, All, AllPairs, if◌then◌else◌, ◌==◌, option_map, option_and_then, is_some, slice_index}
use Rattle.std.specs.List.Sorted.{IsPermutation}
use Rattle.std.proofs.lemmas.Bool.{eqb-true, eq-eqb, ne_eqb}
use Rattle.std.proofs.lemmas.List.{append_assoc, append-nil, map-append, length-map, get_or-map}
use Rattle.std.proofs.lemmas.List.Elements.{All-head, All-tail, All-nil, All-cons, All-append, All-map, All-contains}
use Rattle.std.proofs.lemmas.List.Sorted.{All-permutation, IsPermutation-sym, Contains-permutation}
use Rattle.wild_words.specs.Words.{word, number}
use Rattle.wild_words.proofs.ListLemmas.{AllPairs-tail}
use Rattle.wild_words.specs.Extents.{least_extent}
use Rattle.wild_records.specs.declared.relocations.Rela.{Rela}
use Rattle.wild_records.specs.declared.file_header.FileHeader.{FileHeader}
use Rattle.wild_loader.specs.declared.fault.LoadFault.{LoadFault}
use Rattle.wild_loader.specs.declared.fault.LoadFault.TheVariants as faults
use Rattle.wild_loader.specs.declared.change.Change.TheVariants as loaded
use Rattle.wild_loader.specs.declared.change.Patch.{Patch}
use Rattle.wild_loader.specs.declared.kind.DynamicKind.{DynamicKind}
use Rattle.wild_loader.specs.declared.image.Image.{Image}
use Rattle.wild_loader.specs.declared.memory.Memory.{Memory}
use Rattle.wild_loader.specs.declared.memory.Run.{Run}
use Rattle.wild_loader.specs.declared.world.World.{World}
use Rattle.wild_loader.specs.Outcome.{◌>>=◌, known}
use Rattle.wild_loader.specs.Changes.{first_value, kind_of, size_of, bytes_after, patch_over}
use Rattle.wild_loader.specs.EntryLaws.{HasMade, patches_of}
use Rattle.wild_loader.specs.Headers.{header, program_headers}
use Rattle.wild_loader.specs.Load.{image_at, load}
use Rattle.wild_loader.specs.Memory.{memory_of, byte_in, Holds}
use Rattle.wild_loader.specs.MovedLaws.{shifted_run, moved, EndsBelow}
use Rattle.wild_loader.specs.Places.{places}
use Rattle.wild_loader.specs.Relocate.{add_all, rela_patch, place_patch, relocate, loaded_at, runs_of_patches, notes, memory_with_patches}
use Rattle.wild_loader.specs.Runs.{read_bytes, check_no_overlap}
use Rattle.wild_loader.specs.SegmentLaws.{DoesNotOverlap, IsOutsideRun}
use Rattle.wild_loader.proofs.EntryLemmas.{stepped, same-ok, read-bytes, length-after, place-moved, entry-changed, tables-applied}
use Rattle.wild_loader.proofs.MovedLemmas.{images-moved}
use Rattle.wild_loader.proofs.SegmentLemmas.{beside-apart}
use Rattle.wild_terms.specs.declared.term.Term.{Term}
use Rattle.wild_terms.specs.declared.outline.Outline.{Outline}
use Rattle.wild_terms.specs.declared.outline.TermChange.{TermChange}
use Rattle.wild_terms.specs.declared.outline.TermChange.TheVariants as changes
use Rattle.wild_terms.specs.declared.load.TermPatch.{TermPatch}
use Rattle.wild_terms.specs.Terms.{number_term}
use Rattle.wild_terms.specs.Outline.{based, change_terms}
use Rattle.wild_terms.specs.Values.{value_of, IsWorldOf}
use Rattle.wild_terms.specs.Symbolic.{width_of, extent_of, AreApart, covers, patch_covering, patch_terms, place_terms, rela_terms, apart_terms, image_tails, relocate_terms, Symbolic, image_terms, terms_of, known_byte, known_number, whole_term, term_by, term_at, noted_term, descriptor_by, descriptor_at}
use Rattle.wild_terms.specs.Laws.{Follows, TermsAreLoaded}
use Rattle.wild_terms.proofs.PatchLemmas.{outside, covering_in, none_covering, pairs_apart, last_apart, some_width, no_patch}
use Rattle.wild_terms.proofs.ValueLemmas.{based_is, change_by, change_is}
use Rattle.wild_terms.proofs.ByteLemmas.{EndsInRange, byte_moves, bytes_move, room_of, image_in_range, image_has_bytes, byte_small}
use Rattle.wild_loader.proofs.Numbers.{number_bound, fits_eight}

-- ---- steps that do not fail

abbrev pub patch_or : Result TermPatch LoadFault → TermPatch
patch_or (Ok p) = p
patch_or (Err e) = no_patch

record Added {X : Type 0} (make : X → Result TermPatch LoadFault) (xs : List X) (ys zs : List TermPatch) : Type 0 where
  is : zs ≡ ys ++ map (λ x. patch_or (make x)) xs
  each : All (λ x. make x ≡ Ok (patch_or (make x))) xs

added : {X : Type 0} (make : X → Result TermPatch LoadFault) (xs : List X) (ys zs : List TermPatch) → add_all make xs ys ≡ Ok zs → Added make xs ys zs
unfolding add_all
added make [] ys zs h = let e = same-ok ys zs h in record { is = sym e ∙ sym (append-nil ys); each = All-nil (λ x. make x ≡ Ok (patch_or (make x))) }
added make (x ∷ xs) ys zs h =
    let s = stepped (make x) (λ p. add_all make xs (ys ++ p ∷ [])) zs h in
    let r = added make xs (ys ++ s.value ∷ []) zs s.next in
    let f : patch_or (make x) ≡ s.value = ap patch_or s.was in
    record {
      is = r.is ∙ append_assoc ys (s.value ∷ []) (map (λ x. patch_or (make x)) xs) ∙ ap (λ p. ys ++ (p ∷ map (λ x. patch_or (make x)) xs)) (sym f);
      each = All-cons (λ x. make x ≡ Ok (patch_or (make x))) x xs (s.was ∙ ap Ok (sym f)) r.each;
    }

-- ---- what symbolic loading read

record Parts (o : Outline) (image : List ℕ) (s : Symbolic) : Type 0 where
  image_read : Image
  read : image_at 0 image ≡ Ok image_read
  memory : s.memory ≡ memory_of image_read.machine image_read.runs
  patches : s.patches ≡ map (λ x. patch_or (place_terms o (memory_of image_read.machine image_read.runs) x)) (places image_read.tables.words) ++ map (λ r. patch_or (rela_terms o (memory_of image_read.machine image_read.runs) r)) image_read.tables.entries ++ map (λ r. patch_or (rela_terms o (memory_of image_read.machine image_read.runs) r)) image_read.tables.jumps
  words : All (λ x. place_terms o (memory_of image_read.machine image_read.runs) x ≡ Ok (patch_or (place_terms o (memory_of image_read.machine image_read.runs) x))) (places image_read.tables.words)
  entries : All (λ r. rela_terms o (memory_of image_read.machine image_read.runs) r ≡ Ok (patch_or (rela_terms o (memory_of image_read.machine image_read.runs) r))) image_read.tables.entries
  jumps : All (λ r. rela_terms o (memory_of image_read.machine image_read.runs) r ≡ Ok (patch_or (rela_terms o (memory_of image_read.machine image_read.runs) r))) image_read.tables.jumps
  apart : AreApart s.patches

none_shared : (o : Option ℕ) (u : Unit {0}) → check_no_overlap o ≡ Ok u → o ≡ None
none_shared None u h = refl
none_shared (Some a) u h = cc

parts : (o : Outline) (image : List ℕ) (s : Symbolic) → terms_of o image ≡ Ok s → Parts o image s
unfolding terms_of relocate_terms
parts o image s h =
    let a = stepped (image_at 0 image) (λ i. image_terms o image i) s h in
    let i = a.value in
    let m = memory_of i.machine i.runs in
    let b = stepped (image_tails image) _ s a.next in
    let tails = b.value in
    let c = stepped (relocate_terms o m tails i.tables) _ s b.next in
    let one = stepped (add_all (place_terms o m) (places i.tables.words) []) _ c.value c.was in
    let first = stepped (apart_terms tails one.value) _ c.value one.next in
    let two = stepped (add_all (rela_terms o m) i.tables.entries one.value) _ c.value first.next in
    let second = stepped (apart_terms tails two.value) _ c.value two.next in
    let three = stepped (add_all (rela_terms o m) i.tables.jumps two.value) _ c.value second.next in
    let third = stepped (apart_terms tails three.value) _ c.value three.next in
    let x = added (place_terms o m) (places i.tables.words) [] one.value one.was in
    let y = added (rela_terms o m) i.tables.entries one.value two.value two.was in
    let z = added (rela_terms o m) i.tables.jumps two.value three.value three.was in
    let last : three.value ≡ c.value = same-ok three.value c.value third.next in
    let made : Symbolic = record { memory = m; patches = c.value } in
    let same : made ≡ s = same-ok made s c.next in
    let ps = ap (λ (t : Symbolic). t.patches) same in
    let none : AreApart three.value = last_apart tails three.value (none_shared (least_extent (tails ++ map extent_of three.value)) third.value third.was) in
    record {
      image_read = i;
      read = a.was;
      memory = sym (ap (λ (t : Symbolic). t.memory) same);
      patches = sym ps ∙ sym last ∙ z.is ∙ ap (λ v. v ++ map (λ r. patch_or (rela_terms o m r)) i.tables.jumps) (y.is ∙ ap (λ v. v ++ map (λ r. patch_or (rela_terms o m r)) i.tables.entries) x.is);
      words = x.each;
      entries = y.each;
      jumps = z.each;
      apart = subst AreApart (last ∙ ps) none;
    }

-- ---- one change

abbrev bytes_or : Result (List ℕ) LoadFault → List ℕ
bytes_or (Ok bs) = bs
bytes_or (Err e) = []

module _ (w : World) (o : Outline) (i : Image) where
  -- memory at base 0, and at the world's base
  abbrev here : Memory
  here = memory_of i.machine i.runs

  abbrev there : Memory
  there = memory_of i.machine (map (shifted_run w.base) i.runs)

  -- the change that the loader makes
  abbrev made_of : TermPatch → Patch
  made_of p = patch_over (loaded_at w p.place) (change_by w p.change) (bytes_or (read_bytes here p.place (width_of p.change)))

  -- the bytes are loaded at a change's place, which does not wrap
  record IsOver (p : TermPatch) (old : List ℕ) : Type 0 where
    wide : length old ≡ width_of p.change
    held : Holds there (loaded_at w p.place) old
    near : loaded_at w p.place ≡ w.base + p.place

  -- a change over loaded bytes
  record IsPlaced (p : TermPatch) : Type 0 where
    old : List ℕ
    read : read_bytes here p.place (width_of p.change) ≡ Ok old
    over : IsOver p old

  size_is : (c : TermChange) → size_of (change_by w c) ≡ width_of c
  size_is (changes.Word t) = refl
  size_is (changes.Half t) = refl
  size_is (changes.Descriptor t) = refl

  over_bytes : All EndsInRange there.runs → (p : TermPatch) (old : List ℕ) → read_bytes here p.place (width_of p.change) ≡ Ok old → IsOver p old
  over_bytes ends p old h =
      let b = read-bytes here p.place (width_of p.change) old h in
      let n = b.0 in
      let some = some_width p.change in
      let room = room_of i.machine w.base i.runs p.place old ends b.1 (omega (arith, n, some)) in
      let near : loaded_at w p.place ≡ w.base + p.place = omega (arith, n, room, some) in
      let m = bytes_move i.machine w.base i.runs p.place old ends b.1 in
      record { wide = n; held = rw near m; near = near }

  placed : All EndsInRange there.runs → (p : TermPatch) (old : List ℕ) → read_bytes here p.place (width_of p.change) ≡ Ok old → IsPlaced p
  placed ends p old h = record { old = old; read = h; over = over_bytes ends p old h }

  -- the bytes that the loader writes
  length_made : (p : TermPatch) → IsPlaced p → length (made_of p).run.bytes ≡ width_of p.change
  length_made p k =
      let read = k.read in
      let n = length-after (change_by w p.change) k.old (k.over.wide ∙ sym (size_is p.change)) in
      let e : (made_of p).run.bytes ≡ bytes_after (change_by w p.change) k.old = rw read refl in
      ap length e ∙ n ∙ size_is p.change

  -- ---- each place and each entry

  placed_word : All EndsInRange there.runs → (x : ℕ) (p : TermPatch) → place_terms o here x ≡ Ok p → IsPlaced p
  unfolding place_terms
  placed_word ends x p h =
      let s = stepped (read_bytes here x 8) _ p h in
      let made : TermPatch = record { place = x; change = changes.Word (based o (number s.value)) } in
      subst IsPlaced (same-ok made p s.next) (placed ends made s.value s.was)

  place_step : IsWorldOf o w → All EndsInRange there.runs → (x : ℕ) (old : List ℕ) → read_bytes here x 8 ≡ Ok old → place_patch w there x ≡ Ok (made_of (record { place = x; change = changes.Word (based o (number old)) }))
  place_step l ends x old read =
      let made : TermPatch = record { place = x; change = changes.Word (based o (number old)) } in
      let k = over_bytes ends made old read in
      let v = based_is o w (number old) l in
      let e : (number old + w.base) % 2 ^ 64 ≡ value_of w (based o (number old)) = omega (arith, v) in
      let start = place-moved w there x old k.held k.wide in
      let same : patch_over (loaded_at w x) (loaded.Add w.base) old ≡ patch_over (loaded_at w x) (loaded.Word (value_of w (based o (number old)))) old = ap (λ (n : ℕ). patch_over (loaded_at w x) (loaded.Word n) old) e in
      let whole : patch_over (loaded_at w x) (loaded.Word (value_of w (based o (number old)))) old ≡ made_of made = ap (λ (r : Result (List ℕ) LoadFault). patch_over (loaded_at w x) (loaded.Word (value_of w (based o (number old)))) (bytes_or r)) (sym read) in
      start ∙ ap Ok (same ∙ whole)

  place_made : IsWorldOf o w → All EndsInRange there.runs → (x : ℕ) (p : TermPatch) → place_terms o here x ≡ Ok p → place_patch w there x ≡ Ok (made_of p)
  unfolding place_terms
  place_made l ends x p h =
      let s = stepped (read_bytes here x 8) _ p h in
      let P : TermPatch → Type 0 = λ q. place_patch w there x ≡ Ok (made_of q) in
      subst P (same-ok _ p s.next) (place_step l ends x s.value s.was)

  -- what an entry's change consists of
  record Entry (r : Rela) (p : TermPatch) : Type 0 where
    kind : DynamicKind
    known : kind_of i.machine r.number ≡ Some kind
    change : TermChange
    terms : change_terms o kind r ≡ Ok change
    old : List ℕ
    read : read_bytes here r.offset (width_of change) ≡ Ok old
    is : record { place = r.offset; change = change } ≡ p

  known_is : {A : Type 0} (o : Option A) (e : LoadFault) (x : A) → known o e ≡ Ok x → o ≡ Some x
  known_is None e x h = cc
  known_is (Some y) e x h = cc

  entry_of : (r : Rela) (p : TermPatch) → rela_terms o here r ≡ Ok p → Entry r p
  unfolding rela_terms patch_terms
  entry_of r p h =
      let a = stepped (known (kind_of i.machine r.number) (faults.UnknownDynamic r.number)) _ p h in
      let b = stepped (change_terms o a.value r) _ p a.next in
      let c = stepped (read_bytes here r.offset (width_of b.value)) _ p b.next in
      record { kind = a.value; known = known_is (kind_of i.machine r.number) (faults.UnknownDynamic r.number) a.value a.was; change = b.value; terms = b.was; old = c.value; read = c.was; is = same-ok _ p c.next }

  placed_entry : All EndsInRange there.runs → (r : Rela) (p : TermPatch) → rela_terms o here r ≡ Ok p → IsPlaced p
  placed_entry ends r p h =
      let e = entry_of r p h in
      subst IsPlaced e.is (placed ends (record { place = r.offset; change = e.change }) e.old e.read)

  entry_step : IsWorldOf o w → All EndsInRange there.runs → (r : Rela) (kind : DynamicKind) (c : TermChange) (old : List ℕ) → kind_of i.machine r.number ≡ Some kind → change_terms o kind r ≡ Ok c → read_bytes here r.offset (width_of c) ≡ Ok old → rela_patch w there r ≡ Ok (made_of (record { place = r.offset; change = c }))
  entry_step l ends r kind c old known terms read =
      let k = over_bytes ends (record { place = r.offset; change = c }) old read in
      let start = entry-changed w there r kind (change_by w c) old known (change_is o w kind r c l terms) k.held (k.wide ∙ sym (size_is c)) in
      let whole : patch_over (loaded_at w r.offset) (change_by w c) old ≡ made_of (record { place = r.offset; change = c }) = ap (λ (b : Result (List ℕ) LoadFault). patch_over (loaded_at w r.offset) (change_by w c) (bytes_or b)) (sym read) in
      start ∙ ap Ok whole

  entry_made : IsWorldOf o w → All EndsInRange there.runs → (r : Rela) (p : TermPatch) → rela_terms o here r ≡ Ok p → rela_patch w there r ≡ Ok (made_of p)
  entry_made l ends r p h =
      let e = entry_of r p h in
      let P : TermPatch → Type 0 = λ q. rela_patch w there r ≡ Ok (made_of q) in
      subst P e.is (entry_step l ends r e.kind e.change e.old e.known e.terms e.read)

  -- ---- changes share no address

  made_apart : (ps : List TermPatch) → All IsPlaced ps → AreApart ps → AllPairs DoesNotOverlap (runs_of_patches (map made_of ps))
  made_apart ps all apart a b d l m =
      let n = length-map (map made_of ps) (λ (p : Patch). p.run) in
      let q = length-map ps made_of in
      let few : b < length ps = omega (arith, n, q, m) in
      let less : a < length ps = omega (arith, few, l) in
      let one = pairs_apart ps apart a b no_patch l few in
      let x = get_or ps a no_patch in
      let y = get_or ps b no_patch in
      let kx : IsPlaced x = all a no_patch less in
      let ky : IsPlaced y = all b no_patch few in
      let px = kx.over.near in
      let py = ky.over.near in
      let nx = length_made x kx in
      let ny = length_made y ky in
      let at : (k : ℕ) → k < length ps → get_or (runs_of_patches (map made_of ps)) k d ≡ (made_of (get_or ps k no_patch)).run = λ k j. get_or-map (λ (p : Patch). p.run) (map made_of ps) k (made_of no_patch) d (omega (arith, q, j)) ∙ ap (λ (p : Patch). p.run) (get_or-map made_of ps k no_patch (made_of no_patch) j) in
      let two : DoesNotOverlap (made_of x).run (made_of y).run = beside-apart (made_of x).run (made_of y).run (elim one [ inl u ↦ inl (omega (arith, px, py, nx, u)) | inr u ↦ inr (omega (arith, px, py, ny, u)) ]) in
      let P : Run → Type 0 = λ r. DoesNotOverlap r (made_of y).run in
      let Q : Run → Type 0 = λ r. DoesNotOverlap (get_or (runs_of_patches (map made_of ps)) a d) r in
      subst Q (sym (at b few)) (subst P (sym (at a less)) two)

  -- ---- descriptors

  -- the pair that a descriptor notes is the first with its place
  first_note : (ps : List TermPatch) (k : ℕ) (u : Term) → All IsPlaced ps → AllPairs (λ (p q : TermPatch). (p.place + width_of p.change ≤ q.place) ⊎ (q.place + width_of q.change ≤ p.place)) ps → k < length ps → (get_or ps k no_patch).change ≡ changes.Descriptor u → first_value (notes (map made_of ps)) (made_of (get_or ps k no_patch)).run.start ≡ Some (value_of w u)
  unfolding notes
  first_note [] k u all apart l e = absurd (omega (arith, l))
  first_note (p ∷ ps) zero u all apart l e =
      let n = eq-eqb (loaded_at w p.place) (loaded_at w p.place) refl in
      rw (e, n) refl
  first_note (p ∷ ps) (suc k) u all apart l e = by_change (first_note ps k u (All-tail IsPlaced p ps all) (AllPairs-tail (λ (p q : TermPatch). (p.place + width_of p.change ≤ q.place) ⊎ (q.place + width_of q.change ≤ p.place)) p ps apart) (omega (arith, l)) e) p.change refl
    where
      q : TermPatch
      q = get_or ps k no_patch

      by_change : first_value (notes (map made_of ps)) (made_of q).run.start ≡ Some (value_of w u) → (c : TermChange) → p.change ≡ c → first_value (notes (map made_of (p ∷ ps))) (made_of q).run.start ≡ Some (value_of w u)
      by_change rest (changes.Word v) f = rw f rest
      by_change rest (changes.Half v) f = rw f rest
      by_change rest (changes.Descriptor v) f =
          let kp = (All-head IsPlaced p ps all).over.near in
          let kq = (all (suc k) no_patch l).over.near in
          let pair = apart 0 (suc k) no_patch (omega arith) l in
          let sp = some_width p.change in
          let sq = some_width q.change in
          let other : (loaded_at w p.place == loaded_at w q.place) ≡ false = ne_eqb _ _ (λ same. elim pair [ inl x ↦ omega (arith, kp, kq, same, x, sp) | inr y ↦ omega (arith, kp, kq, same, y, sq) ]) in
          rw (f, other) rest

-- ---- what memory has

cut_number : (t : Symbolic) (a n x : ℕ) → known_number t a (suc n) ≡ Some x → (y : ℕ) × (r : ℕ) × (known_byte t a ≡ Some y) × (known_number t (a + 1) n ≡ Some r) × (x ≡ y + 256 * r)
cut_number t a n x h = first (known_byte t a) refl h
  where
    second : (y : ℕ) → known_byte t a ≡ Some y → (o : Option ℕ) → known_number t (a + 1) n ≡ o → option_map (λ rest. y + 256 * rest) o ≡ Some x → (y : ℕ) × (r : ℕ) × (known_byte t a ≡ Some y) × (known_number t (a + 1) n ≡ Some r) × (x ≡ y + 256 * r)
    second y e None f h = cc
    second y e (Some r) f h = let q : y + 256 * r ≡ x = cc in (y, r, e, f, sym q)

    first : (o : Option ℕ) → known_byte t a ≡ o → option_and_then (λ y. option_map (λ rest. y + 256 * rest) (known_number t (a + 1) n)) o ≡ Some x → (y : ℕ) × (r : ℕ) × (known_byte t a ≡ Some y) × (known_number t (a + 1) n ≡ Some r) × (x ≡ y + 256 * r)
    first None e h = cc
    first (Some y) e h = second y e (known_number t (a + 1) n) refl h

held_more : (m : Memory) (a b : ℕ) (bs : List ℕ) → byte_in m a ≡ Some b → Holds m (a + 1) bs → Holds m a (b ∷ bs)
held_more m a b bs first rest = λ k l. at k l
  where
    at : (k : ℕ) → k < length (b ∷ bs) → byte_in m (a + k) ≡ Some (slice_index (b ∷ bs) k)
    at zero l = let e : a + 0 ≡ a = omega arith in ap (byte_in m) e ∙ first
    at (suc k) l = let e : a + suc k ≡ a + 1 + k = omega arith in ap (byte_in m) e ∙ rest k (omega (arith, l))

word_more : (n b r x : ℕ) → b < 256 → x ≡ b + 256 * r → b ∷ word n r ≡ word (suc n) x
unfolding word
word_more n b r x l e =
    let low : x % 256 ≡ b = omega (arith, l, e) in
    let high : x / 256 ≡ r = omega (arith, l, e) in
    rw (low, high) refl

no_word : (m : Memory) (a x : ℕ) → Holds m a (word 0 x)
unfolding word
no_word m a x = λ k l. absurd (omega (arith, l))

-- memory has the number in known bytes
number_known : (t : Symbolic) (m : Memory) (base : ℕ) → ((a b : ℕ) → known_byte t a ≡ Some b → (byte_in m (base + a) ≡ Some b) × (b < 256)) → (n a x : ℕ) → known_number t a n ≡ Some x → Holds m (base + a) (word n x) × (x < 256 ^ n)
number_known t m base each zero a x h = let e : 0 ≡ x = cc in (no_word m (base + a) x, omega (arith, e))
number_known t m base each (suc n) a x h =
    let c = cut_number t a n x h in
    let low = each a c.0 c.2 in
    let high = number_known t m base each n (a + 1) c.1 c.3 in
    let e : base + (a + 1) ≡ base + a + 1 = omega arith in
    let P : ℕ → Type 0 = λ k. Holds m k (word n c.1) in
    let Q : List ℕ → Type 0 = λ bs. Holds m (base + a) bs in
    let whole = subst Q (word_more n c.0 c.1 x low.1 c.4) (held_more m (base + a) c.0 (word n c.1) low.0 (subst P e high.0)) in
    let less : suc n - 1 ≡ n = omega arith in
    let bound = number_bound c.0 c.1 (suc n) low.1 (omega arith) (rw less high.1) in
    let R : ℕ → Type 0 = λ v. v < 256 ^ suc n in
    (whole, subst R (sym c.4) bound)

-- the low half of a number
low_half : (x : ℕ) → word 4 (x % 2 ^ 32) ≡ word 4 x
unfolding word
low_half x =
    let a : x % 2 ^ 32 % 256 ≡ x % 256 = omega arith in
    let b : x % 2 ^ 32 / 256 % 256 ≡ x / 256 % 256 = omega arith in
    let c : x % 2 ^ 32 / 256 / 256 % 256 ≡ x / 256 / 256 % 256 = omega arith in
    let d : x % 2 ^ 32 / 256 / 256 / 256 % 256 ≡ x / 256 / 256 / 256 % 256 = omega arith in
    rw (a, b, c, d) refl

-- an element in range does not depend on the default
same_at : {X : Type 0} (xs : List X) (j : ℕ) (q d : X) → j < length xs → get_or xs j q ≡ q → get_or xs j d ≡ q
same_at [] j q d l e = absurd (omega (arith, l))
same_at (x ∷ xs) zero q d l e = e
same_at (x ∷ xs) (suc j) q d l e = same_at xs j q d (omega (arith, l)) e

some_is : {X : Type 0} (x y : X) → (let o : Option X = Some x in o) ≡ Some y → x ≡ y
some_is x y h = cc

module _ (w : World) (o : Outline) (i : Image) (t : Symbolic) (m : Memory) where
  -- memory has the changed bytes of placed changes
  record HasPatches : Type 0 where
    placed : All (IsPlaced w o i) t.patches
    held : All (λ q. Holds m (made_of w o i q).run.start (made_of w o i q).run.bytes) t.patches
    bytes : (a b : ℕ) → known_byte t a ≡ Some b → (byte_in m (w.base + a) ≡ Some b) × (b < 256)

  -- a change that covers exactly the bytes
  whole_is : (q : TermPatch) (c : TermChange) (old : List ℕ) (a n : ℕ) (u : Term) → IsPlaced w o i q → Holds m (loaded_at w q.place) (bytes_after (change_by w c) old) → q.place ≡ a → whole_term c n ≡ Some u → Holds m (w.base + a) (word n (value_of w u))
  whole_is q (changes.Word v) old a n u k held at h = by_test (n == 8) refl h
    where
      by_test : (b : Bool) → (n == 8) ≡ b → (if b then Some v else None) ≡ Some u → Holds m (w.base + a) (word n (value_of w u))
      by_test false e h = cc
      by_test true e h =
          let n_is : n ≡ 8 = eqb-true n 8 e in
          let near : loaded_at w q.place ≡ w.base + a = k.over.near ∙ ap (λ (p : ℕ). w.base + p) at in
          let P : ℕ → Type 0 = λ x. Holds m x (word 8 (value_of w v)) in
          let Q : ℕ → Type 0 = λ x. Holds m (w.base + a) (word x (value_of w v)) in
          let R : Term → Type 0 = λ x. Holds m (w.base + a) (word n (value_of w x)) in
          subst R (some_is v u h) (subst Q (sym n_is) (subst P near held))
  whole_is q (changes.Half v) old a n u k held at h = by_test (n == 4) refl h
    where
      by_test : (b : Bool) → (n == 4) ≡ b → (if b then Some v else None) ≡ Some u → Holds m (w.base + a) (word n (value_of w u))
      by_test false e h = cc
      by_test true e h =
          let n_is : n ≡ 4 = eqb-true n 4 e in
          let near : loaded_at w q.place ≡ w.base + a = k.over.near ∙ ap (λ (p : ℕ). w.base + p) at in
          let P : ℕ → Type 0 = λ x. Holds m x (word 4 (value_of w v % 2 ^ 32)) in
          let B : List ℕ → Type 0 = λ bs. Holds m (w.base + a) bs in
          let Q : ℕ → Type 0 = λ x. Holds m (w.base + a) (word x (value_of w v)) in
          let R : Term → Type 0 = λ x. Holds m (w.base + a) (word n (value_of w x)) in
          subst R (some_is v u h) (subst Q (sym n_is) (subst B (low_half (value_of w v)) (subst P near held)))
  whole_is q (changes.Descriptor v) old a n u k held at h = cc

  number_is : (a n x : ℕ) (u : Term) → HasPatches → n ≤ 8 → known_number t a n ≡ Some x → number_term x ≡ u → Holds m (w.base + a) (word n (value_of w u))
  number_is a n x u k l h e =
      let f = number_known t m w.base k.bytes n a x h in
      let small = fits_eight x n l f.1 in
      let P : ℕ → Type 0 = λ v. Holds m (w.base + a) (word n v) in
      let Q : Term → Type 0 = λ v. Holds m (w.base + a) (word n (value_of w v)) in
      let same : x ≡ (0 + x) % 2 ^ 64 = omega (arith, small) in
      subst Q e (subst P same f.0)

  term_is : HasPatches → (a n : ℕ) (u : Term) → n ≤ 8 → term_at t a n ≡ Some u → Holds m (w.base + a) (word n (value_of w u))
  unfolding term_at
  term_is k a n u l h = by_patch (patch_covering t.patches a) refl h
    where
      by_number : (x : Option ℕ) → known_number t a n ≡ x → option_map number_term x ≡ Some u → Holds m (w.base + a) (word n (value_of w u))
      by_number None e h = cc
      by_number (Some x) e h = number_is a n x u k l e (some_is (number_term x) u h)

      by_place : (q : TermPatch) → patch_covering t.patches a ≡ Some q → (b : Bool) → (q.place == a) ≡ b → (if b then whole_term q.change n else None) ≡ Some u → Holds m (w.base + a) (word n (value_of w u))
      by_place q e false f h = cc
      by_place q e true f h =
          let found = covering_in t.patches a q e in
          whole_is q q.change (bytes_or (read_bytes (memory_of i.machine i.runs) q.place (width_of q.change))) a n u (All-contains (IsPlaced w o i) t.patches q k.placed found.0) (All-contains (λ q. Holds m (made_of w o i q).run.start (made_of w o i q).run.bytes) t.patches q k.held found.0) (eqb-true q.place a f) h

      by_patch : (x : Option TermPatch) → patch_covering t.patches a ≡ x → term_by t a n x ≡ Some u → Holds m (w.base + a) (word n (value_of w u))
      by_patch None e h = by_number (known_number t a n) refl h
      by_patch (Some q) e h = by_place q e (q.place == a) refl h

  -- the descriptor at an address
  descriptor_is : (ps : List TermPatch) → HasPatches → IsPermutation ps t.patches → All (IsPlaced w o i) ps → AreApart ps → m.descriptors ≡ notes (map (made_of w o i) ps) → (a : ℕ) (u : Term) → descriptor_at t a ≡ Some u → first_value m.descriptors (w.base + a) ≡ Some (value_of w u)
  unfolding descriptor_at
  descriptor_is ps k moved placed apart is a u h = by_patch (patch_covering t.patches a) refl h
    where
      noted : (c : TermChange) → noted_term c ≡ Some u → c ≡ changes.Descriptor u
      noted (changes.Word v) h = cc
      noted (changes.Half v) h = cc
      noted (changes.Descriptor v) h = ap changes.Descriptor (some_is v u h)

      by_place : (q : TermPatch) → patch_covering t.patches a ≡ Some q → (b : Bool) → (q.place == a) ≡ b → (if b then noted_term q.change else None) ≡ Some u → first_value m.descriptors (w.base + a) ≡ Some (value_of w u)
      by_place q e false f h = cc
      by_place q e true f h =
          let there = Contains-permutation t.patches ps q (IsPermutation-sym ps t.patches moved) (covering_in t.patches a q e).0 in
          let j = there.0 in
          let l = there.1 in
          let same : get_or ps j no_patch ≡ q = same_at ps j q no_patch l there.2 in
          let change = ap (λ (p : TermPatch). p.change) same ∙ noted q.change h in
          let first = first_note w o i ps j u placed (pairs_apart ps apart) l change in
          let near : (made_of w o i (get_or ps j no_patch)).run.start ≡ w.base + a = ap (λ (p : TermPatch). loaded_at w p.place) same ∙ (All-contains (IsPlaced w o i) t.patches q k.placed (covering_in t.patches a q e).0).over.near ∙ ap (λ (p : ℕ). w.base + p) (eqb-true q.place a f) in
          ap (λ ds. first_value ds (w.base + a)) is ∙ ap (λ (x : ℕ). first_value (notes (map (made_of w o i) ps)) x) (sym near) ∙ first

      by_patch : (x : Option TermPatch) → patch_covering t.patches a ≡ x → descriptor_by a x ≡ Some u → first_value m.descriptors (w.base + a) ≡ Some (value_of w u)
      by_patch None e h = cc
      by_patch (Some q) e h = by_place q e (q.place == a) refl h

  -- which is an address of the machine
  descriptor_low : HasPatches → (a : ℕ) (u : Term) → descriptor_at t a ≡ Some u → w.base + a < 2 ^ 64
  unfolding descriptor_at
  descriptor_low k a u h = by_patch (patch_covering t.patches a) refl h
    where
      low : (q : TermPatch) → loaded_at w q.place ≡ w.base + q.place → q.place ≡ a → w.base + a < 2 ^ 64
      low q near at = omega (arith, near, at)

      by_place : (q : TermPatch) → patch_covering t.patches a ≡ Some q → (b : Bool) → (q.place == a) ≡ b → (if b then noted_term q.change else None) ≡ Some u → w.base + a < 2 ^ 64
      by_place q e false f h = cc
      by_place q e true f h = low q (All-contains (IsPlaced w o i) t.patches q k.placed (covering_in t.patches a q e).0).over.near (eqb-true q.place a f)

      by_patch : (x : Option TermPatch) → patch_covering t.patches a ≡ x → descriptor_by a x ≡ Some u → w.base + a < 2 ^ 64
      by_patch None e h = cc
      by_patch (Some q) e h = by_place q e (q.place == a) refl h

-- ---- the whole

map_twice : {X Y Z : Type 0} (f : Y → Z) (g : X → Y) (xs : List X) → map f (map g xs) ≡ map (λ x. f (g x)) xs
map_twice f g [] = refl
map_twice f g (x ∷ xs) = ap (λ ys. f (g x) ∷ ys) (map_twice f g xs)

three : {X : Type 0} (P : X → Type 0) (a b c xs : List X) → xs ≡ a ++ b ++ c → All P a → All P b → All P c → All P xs
three {X} P a b c xs e x y z = let Q : List X → Type 0 = λ v. All P v in subst Q (sym e) (All-append P (a ++ b) c (All-append P a b x y) z)

-- a change that does not cover an address leaves it outside
outside_made : (w : World) (o : Outline) (i : Image) (a : ℕ) (q : TermPatch) → IsPlaced w o i q → covers q a ≡ false → IsOutsideRun (w.base + a) (made_of w o i q).run
outside_made w o i a q k h =
    let near = k.over.near in
    let n = length_made w o i q k in
    elim (outside q a h) [ inl x ↦ inl (omega (arith, near, x)) | inr y ↦ inr (omega (arith, near, n, y)) ]

all_outside : (w : World) (o : Outline) (i : Image) (a : ℕ) (ps : List TermPatch) → All (IsPlaced w o i) ps → All (λ p. covers p a ≡ false) ps → All (IsOutsideRun (w.base + a)) (runs_of_patches (map (made_of w o i) ps))
all_outside w o i a ps k h = All-map (IsOutsideRun (w.base + a)) (λ (p : Patch). p.run) (map (made_of w o i) ps) (All-map (λ (p : Patch). IsOutsideRun (w.base + a) p.run) (made_of w o i) ps (λ j d l. outside_made w o i a (get_or ps j d) (k j d l) (h j d l)))

pub loaded_terms : TermsAreLoaded
unfolding load
loaded_terms o image s t w h sorted l room bytes =
    let p = parts o image s h in
    let i = p.image_read in
    let m0 = memory_of i.machine i.runs in
    let m1 = memory_of i.machine (map (shifted_run w.base) i.runs) in
    let zero : w.base + 0 ≡ w.base = omega arith in
    let B : ℕ → Type 0 = λ b. (e : FileHeader) → header image ≡ Ok e → EndsBelow b (program_headers image e.program_count e.program_offset) in
    let I : ℕ → Type 0 = λ b. image_at b image ≡ Ok (moved w.base i) in
    let at : image_at w.base image ≡ Ok (moved w.base i) = subst I zero (images-moved 0 w.base image i p.read (subst B (sym zero) room)) in
    let ends : All EndsInRange m1.runs = image_in_range w.base image (moved w.base i) at in
    let small = image_has_bytes 0 image i bytes p.read in
    let X = λ (x : ℕ). patch_or (place_terms o m0 x) in
    let R = λ (r : Rela). patch_or (rela_terms o m0 r) in
    let g = λ (x : ℕ). made_of w o i (X x) in
    let f = λ (r : Rela). made_of w o i (R r) in
    let K : TermPatch → Type 0 = IsPlaced w o i in
    let made : HasMade w m1 i.tables g f = record {
      words = λ k d j. place_made w o i l ends (get_or (places i.tables.words) k d) _ (p.words k d j);
      entries = λ k d j. entry_made w o i l ends (get_or i.tables.entries k d) _ (p.entries k d j);
      jumps = λ k d j. entry_made w o i l ends (get_or i.tables.jumps k d) _ (p.jumps k d j);
    } in
    let placed : All K s.patches = three K (map X (places i.tables.words)) (map R i.tables.entries) (map R i.tables.jumps) s.patches p.patches
    (All-map K X (places i.tables.words) (λ k d j. placed_word w o i ends (get_or (places i.tables.words) k d) _ (p.words k d j)))
    (All-map K R i.tables.entries (λ k d j. placed_entry w o i ends (get_or i.tables.entries k d) _ (p.entries k d j)))
    (All-map K R i.tables.jumps (λ k d j. placed_entry w o i ends (get_or i.tables.jumps k d) _ (p.jumps k d j))) in
    let M = made_of w o i in
    let whole : map M s.patches ≡ patches_of i.tables g f = ap (map M) p.patches
    ∙ map-append M (map X (places i.tables.words) ++ map R i.tables.entries) (map R i.tables.jumps)
    ∙ ap (λ v. v ++ map M (map R i.tables.jumps)) (map-append M (map X (places i.tables.words)) (map R i.tables.entries))
    ∙ ap (λ v. v ++ map M (map R i.tables.entries) ++ map M (map R i.tables.jumps)) (map_twice M X (places i.tables.words))
    ∙ ap (λ v. map g (places i.tables.words) ++ v ++ map M (map R i.tables.jumps)) (map_twice M R i.tables.entries)
    ∙ ap (λ v. map g (places i.tables.words) ++ map f i.tables.entries ++ v) (map_twice M R i.tables.jumps) in
    let D : List Patch → Type 0 = λ ps. AllPairs DoesNotOverlap (runs_of_patches ps) in
    let applied = tables-applied w m1 i.tables g f made (subst D whole (made_apart w o i s.patches placed p.apart)) in
    let m = memory_with_patches m1 (patches_of i.tables g f) in
    let H : TermPatch → Type 0 = λ q. Holds m (M q).run.start (M q).run.bytes in
    let held : All H s.patches = three H (map X (places i.tables.words)) (map R i.tables.entries) (map R i.tables.jumps) s.patches p.patches
    (All-map H X (places i.tables.words) applied.words)
    (All-map H R i.tables.entries applied.entries)
    (All-map H R i.tables.jumps applied.jumps) in
    let O : ℕ → List Patch → Type 0 = λ a ps. All (IsOutsideRun (w.base + a)) (runs_of_patches ps) in
    let back = IsPermutation-sym s.patches t.patches sorted.patches in
    let same : t.memory ≡ m0 = sorted.memory ∙ p.memory in
    let byte : (a b : ℕ) → known_byte t a ≡ Some b → (byte_in m (w.base + a) ≡ Some b) × (b < 256) = (λ a b e.
    let k = known_plain t a b e in
    let here : byte_in m0 a ≡ Some b = ap (λ (x : Memory). byte_in x a) (sym same) ∙ k.1 in
    let clear = All-permutation (λ (q : TermPatch). covers q a ≡ false) t.patches s.patches back (none_covering t.patches a k.0) in
    let out = subst (O a) whole (all_outside w o i a s.patches placed clear) in
    (applied.others (w.base + a) out ∙ (byte_moves i.machine w.base i.runs a b ends here).0, byte_small m0 a b small here)) in
    let has : HasPatches w o i t m = record { placed = All-permutation K s.patches t.patches sorted.patches placed; held = All-permutation H s.patches t.patches sorted.patches held; bytes = byte } in
    let follows : Follows w t m = record { machine = ap (λ (x : Memory). x.machine) (sym same); terms = term_is w o i t m has; descriptors = descriptor_is w o i t m s.patches has sorted.patches placed p.apart (applied.descriptors ∙ ap notes (sym whole)); places = descriptor_low w o i t m has; bytes = λ a b e. (byte a b e).0 } in
    (m, ap (λ (r : Result Image LoadFault). r >>= λ (j : Image). relocate w (memory_of j.machine j.runs) j.tables) at ∙ applied.is, follows)
  where
    known_plain : (t : Symbolic) (a b : ℕ) → known_byte t a ≡ Some b → (patch_covering t.patches a ≡ None) × (byte_in t.memory a ≡ Some b)
    known_plain t a b h = by_patch (patch_covering t.patches a) refl h
      where
        by_patch : (x : Option TermPatch) → patch_covering t.patches a ≡ x → (if is_some x then None else byte_in t.memory a) ≡ Some b → (patch_covering t.patches a ≡ None) × (byte_in t.memory a ≡ Some b)
        by_patch None e h = (e, h)
        by_patch (Some q) e h = cc
