-- What the rest of a walk gives, step by step.
use Rattle.std.proofs.Common.{◌≡◌, ℕ, ◌+◌, ◌-◌, ◌<◌, ◌≤◌, inl, inr, true, false, List, [], ◌∷◌, ◌++◌, length, take, drop, flat_map, refl, ap, sym, ◌∙◌, arith, subst}
use Rattle.std.specs.Prelude.{◌==◌, ◌&&◌, slice_range}
use Rattle.std.proofs.lemmas.Bool.{cases_Bool}
use Rattle.std.proofs.lemmas.List.{append-nil, append_assoc, length-append, length-take-le, length-take, length-drop, take_all}
use borrow.Rule.Slice.PartMut.{put_mid}
use Rattle.wild_words.specs.Words.{word, number_at}
use Rattle.wild_words.proofs.Basics.{length-range}
use Rattle.wild_words.proofs.WordLemmas.{length-word, place_put_mid, front-place}
use Rattle.wild_words.proofs.OverlayLemmas.{length-place}
use Rattle.wild_frames.specs.declared.entry.KeptEntry.{KeptEntry}
use Rattle.wild_frames.specs.declared.entry.Found.{Found}
use Rattle.wild_frames.specs.declared.entry.Found.TheVariants as finds
use Rattle.wild_frames.specs.declared.entry.BadFrame.{BadFrame}
use Rattle.wild_frames.specs.declared.entry.FrameError.{FrameError}
use Rattle.wild_frames.specs.declared.entry.FrameError.TheVariants as error
use Rattle.wild_frames.specs.declared.walk.Walk.{Walk}
use Rattle.wild_frames.specs.Frames.{Frames, State, found, walk_continues, after, rest_of, start, entry_bytes, found_bytes, fde_of, tail_of}
use Rattle.wild_frames.specs.Faults.{found_errors, Refuses}
use Rattle.wild_frames.specs.Walks.{IsWithinSection, Fits, IsAtStart, IsNext, IsWritten, state_of}
use Rattle.wild_frames.proofs.WalkLemmas.{Facts, found_facts}

-- a list made of the rest of a walk, by one step that goes on
pub on : {X : Type 0} (g : Found → List X) (s : Frames) (a b : State) (f : Found) → IsNext s a b f → walk_continues f ≡ true → flat_map g (rest_of s a) ≡ g f ++ flat_map g (rest_of s b)
on g s a b f n t = ap (flat_map g) (rw t at n)

-- and by the last step
pub last : {X : Type 0} (g : Found → List X) (s : Frames) (a b : State) (f : Found) → IsNext s a b f → walk_continues f ≡ false → flat_map g (rest_of s a) ≡ g f
last g s a b f n t = ap (flat_map g) (rw t at n) ∙ append-nil (g f)

-- ---- lengths

pub length-entry : (s : Frames) (k : KeptEntry) → 8 ≤ k.size → k.from + k.size ≤ length s.bytes → length (entry_bytes s k) ≡ k.size
unfolding entry_bytes
length-entry s k l w =
    let e = length-range s.bytes k.from k.size w in
    elim (cases_Bool (k.id == 0)) [
      | inl t ↦ rw t e
      | inr f ↦ rw f (length-place 4 (slice_range s.bytes k.from (k.from + k.size)) (word 4 k.id) (let n = length-word 4 k.id in omega (arith, e, n)) ∙ e)
    ]

pub length-kept : (s : Frames) (f : Found) (k : KeptEntry) → f ≡ finds.Kept k → IsWithinSection s f → length (found_bytes s f) ≡ k.size
length-kept s f k e =
    let P : Found → Type 0 = λ h. IsWithinSection s h → length (found_bytes s h) ≡ k.size in
    subst P (sym e) (λ h. length-entry s k h.least h.within)

-- ---- one step of a writer

pub record Ahead (xs ys : List ℕ) : Type 0 where
  pub more : List ℕ
  pub is : xs ≡ ys ++ more

ahead : (s : Frames) (a b : State) (f : Found) → IsNext s a b f → Ahead (flat_map (found_bytes s) (rest_of s a)) (found_bytes s f)
ahead s a b f n =
    elim (cases_Bool (walk_continues f)) [
      | inl t ↦ record { more = flat_map (found_bytes s) (rest_of s b); is = on (found_bytes s) s a b f n t }
      | inr e ↦ record { more = []; is = last (found_bytes s) s a b f n e ∙ sym (append-nil (found_bytes s f)) }
    ]

pub room_ahead : (s : Frames) (w v : Walk) (out : List ℕ) (f : Found) → IsWritten s w out → IsNext s (state_of w) (state_of v) f → w.to + length (found_bytes s f) ≤ length out
room_ahead s w v out f h n =
    let a = ahead s (state_of w) (state_of v) f n in
    let b = simp (length-append, length-take) at (ap length h.bytes) in
    let c = simp length-append at (ap length a.is) in
    let l = h.whole in
    let r = h.room in
    let t = length-take-le w.to out h.room in
    omega (arith, b, c, l, r, t)

-- where the kept bytes end behind what was found
pub to_on : (s : Frames) (st : State) (f : Found) → IsWithinSection s f → walk_continues f ≡ true → (after st f).to ≡ st.to + length (found_bytes s f)
to_on s st (finds.Kept k) h t = ap (λ (n : ℕ). st.to + n) (sym (length-entry s k h.least h.within))
to_on s st (finds.Dropped size) h t = omega arith
to_on s st finds.End h t = cc
to_on s st (finds.Tail at) h t = cc
to_on s st (finds.Bad y at) h t = cc

calm_on : (f : Found) → walk_continues f ≡ true → found_errors f ≡ []
calm_on (finds.Kept k) t = refl
calm_on (finds.Dropped size) t = refl
calm_on finds.End t = cc
calm_on (finds.Tail at) t = cc
calm_on (finds.Bad y at) t = cc

pub written_on : (s : Frames) (w v : Walk) (out to : List ℕ) (f : Found) → IsWritten s w out → IsNext s (state_of w) (state_of v) f → IsWithinSection s f → walk_continues f ≡ true
    → state_of v ≡ after (state_of w) f → Fits s (state_of v) v.relocation → length to ≡ length out
    → take (w.to + length (found_bytes s f)) to ≡ take w.to out ++ found_bytes s f
    → IsWritten s v to
written_on s w v out to f h n l t is fits same front =
    let moved : v.to ≡ w.to + length (found_bytes s f) = ap (λ (x : State). x.to) is ∙ to_on s (state_of w) f l t in
    let room = room_ahead s w v out f h n in
    let rest = flat_map (found_bytes s) (rest_of s (state_of v)) in
    record {
      fits = fits;
      room = omega (arith, moved, room, same);
      bytes = ap (λ xs. xs ++ rest) (ap (λ (k : ℕ). take k to) moved ∙ front)
          ∙ append_assoc (take w.to out) (found_bytes s f) rest
          ∙ ap (λ bs. take w.to out ++ bs) (sym (on (found_bytes s) s (state_of w) (state_of v) f n t)) ∙ h.bytes;
      errors = sym (ap (λ es. es ++ flat_map found_errors (rest_of s (state_of v))) (calm_on f t))
          ∙ sym (on found_errors s (state_of w) (state_of v) f n t) ∙ h.errors;
      whole = same ∙ h.whole;
    }

pub written_last : (s : Frames) (w v : Walk) (out to : List ℕ) (f : Found) → IsWritten s w out → IsNext s (state_of w) (state_of v) f → walk_continues f ≡ false → length to ≡ length out
    → take (w.to + length (found_bytes s f)) to ≡ take w.to out ++ found_bytes s f
    → to ≡ flat_map (found_bytes s) (rest_of s start)
written_last s w v out to f h n t same front =
    let b = last (found_bytes s) s (state_of w) (state_of v) f n t in
    let whole = ap (λ bs. take w.to out ++ bs) (sym b) ∙ h.bytes in
    let m = simp (length-append, length-take) at (ap length whole) in
    let l = h.whole in
    let r = h.room in
    let enough : length to ≤ w.to + length (found_bytes s f) = omega (arith, m, l, r, same) in
    sym (take_all (w.to + length (found_bytes s f)) to enough) ∙ front ∙ whole

pub errors_last : (s : Frames) (w v : Walk) (out : List ℕ) (f : Found) → IsWritten s w out → IsNext s (state_of w) (state_of v) f → walk_continues f ≡ false
    → found_errors f ≡ [] → flat_map found_errors (rest_of s start) ≡ []
errors_last s w v out f h n t e = sym h.errors ∙ last found_errors s (state_of w) (state_of v) f n t ∙ e

refuses_more : (e : FrameError) (xs ys : List BadFrame) → Refuses e xs → Refuses e (xs ++ ys)
refuses_more error.OutOfMemory xs ys h = tt
refuses_more (error.Bad e) [] ys h = absurd h
refuses_more (error.Bad e) (x ∷ xs) ys h = h

pub refuses_at : (s : Frames) (w v : Walk) (out : List ℕ) (f : Found) (r : FrameError) → IsWritten s w out → IsNext s (state_of w) (state_of v) f
    → Refuses r (found_errors f) → Refuses r (flat_map found_errors (rest_of s start))
refuses_at s w v out f r h n x =
    elim (cases_Bool (walk_continues f)) [
      | inl t ↦ subst (Refuses r) (sym (on found_errors s (state_of w) (state_of v) f n t) ∙ h.errors) (refuses_more r (found_errors f) (flat_map found_errors (rest_of s (state_of v))) x)
      | inr e ↦ subst (Refuses r) (sym (last found_errors s (state_of w) (state_of v) f n e) ∙ h.errors) x
    ]

-- what was put at an offset
pub record Front (n : ℕ) (out to part : List ℕ) : Type 0 where
  pub same : length to ≡ length out
  pub front : take (n + length part) to ≡ take n out ++ part

pub front_written : (n count : ℕ) (out room part : List ℕ) → room ≡ part → count ≡ length part → n + length part ≤ length out → Front n out (put_mid n (n + count - n) out room) part
front_written n count out room part e h l =
    let k : length room ≡ length part = ap length e in
    let p = place_put_mid n (n + count) out room (omega arith) in
    rw p (rw e (record {
      same = length-place n out part l;
      front = front-place n (n + length part) out part refl (omega arith);
    }))

pub written_start : (s : Frames) (w : Walk) (out : List ℕ) → IsAtStart s w → length out ≡ length (flat_map (found_bytes s) (rest_of s start)) → IsWritten s w out
written_start s w out h l =
    let e = h.state in
    let z : w.to ≡ 0 = ap (λ (x : State). x.to) e in
    record {
      fits = h.fits;
      room = omega (arith, z);
      bytes = ap (λ (k : ℕ). take k out ++ flat_map (found_bytes s) (rest_of s (state_of w))) z ∙ ap (λ (x : State). flat_map (found_bytes s) (rest_of s x)) e;
      errors = ap (λ (x : State). flat_map found_errors (rest_of s x)) e;
      whole = l;
    }
