-- How much is kept, counted by a walk that takes no memory.
use Rattle.std.proofs.Common.{◌≡◌, ℕ, ◌+◌, ◌-◌, ◌<◌, ◌≤◌, inl, inr, true, false, List, [], ◌∷◌, ◌++◌, length, drop, flat_map, refl, ap, sym, ◌∙◌, arith, subst}
use Rattle.std.specs.Prelude.{◌==◌, ◌&&◌}
use Rattle.std.proofs.lemmas.Bool.{cases_Bool}
use Rattle.std.proofs.lemmas.List.{length-append, length-drop}
use Rattle.wild_words.specs.Words.{number_at}
use Rattle.wild_frames.specs.declared.entry.Found.{Found}
use Rattle.wild_frames.specs.declared.entry.Found.TheVariants as finds
use Rattle.wild_frames.specs.declared.pass.Pass.{Pass}
use Rattle.wild_frames.specs.Frames.{Frames, State, found, walk_continues, after, rest_of, start, found_bytes, fde_of, tail_of}
use Rattle.wild_frames.specs.Walks.{IsWithinSection}
use Rattle.wild_frames.specs.Passes.{without_id, FollowsWalk, IsReady, IsPassStep}
use Rattle.wild_frames.proofs.WalkLemmas.{Facts, found_facts}
use Rattle.wild_frames.proofs.WriteLemmas.{on, last, to_on}
use Rattle.wild_frames.proofs.PassLemmas.{goes_brief}

-- ---- what does not ask for the id of an FDE

pub lies_brief : (s : Frames) (f : Found) → IsWithinSection s f → IsWithinSection s (without_id f)
lies_brief s (finds.Kept k) h = record { least = h.least; within = h.within; fields = h.fields }
lies_brief s (finds.Dropped size) h = h
lies_brief s (finds.Tail from) h = h
lies_brief s (finds.Bad w at) h = h
lies_brief s finds.End h = h

-- what ends a walk has no id
ends_brief : (f : Found) → walk_continues (without_id f) ≡ false → without_id f ≡ f
ends_brief (finds.Kept k) t = cc
ends_brief (finds.Dropped size) t = cc
ends_brief (finds.Tail from) t = refl
ends_brief (finds.Bad w at) t = refl
ends_brief finds.End t = refl

fde_brief : (f : Found) → length (fde_of (without_id f)) ≡ length (fde_of f)
fde_brief (finds.Kept k) = elim (cases_Bool (k.id == 0)) [ inl t ↦ rw t refl | inr n ↦ rw n refl ]
fde_brief (finds.Dropped size) = refl
fde_brief (finds.Tail from) = refl
fde_brief (finds.Bad w at) = refl
fde_brief finds.End = refl

pub one_fde : (f : Found) → length (fde_of f) ≤ 1
one_fde (finds.Kept k) = elim (cases_Bool (k.id == 0)) [ inl t ↦ rw t (omega arith) | inr n ↦ rw n (omega arith) ]
one_fde (finds.Dropped size) = omega arith
one_fde finds.End = omega arith
one_fde (finds.Tail at) = omega arith
one_fde (finds.Bad y at) = omega arith

-- ---- counting

-- so much is counted as the walk has passed
pub record IsCounted (s : Frames) (p : Pass) (fdes : ℕ) : Type 0 where
  pub state : State
  pub on : FollowsWalk s p state
  pub few : fdes ≤ p.at
  pub bytes : p.to + length (flat_map (found_bytes s) (rest_of s state)) ≡ length (flat_map (found_bytes s) (rest_of s start))
  pub table : fdes + length (flat_map fde_of (rest_of s state)) ≡ length (flat_map fde_of (rest_of s start))

pub counted_start : (s : Frames) (p : Pass) → IsReady s p → IsCounted s p 0
counted_start s p h =
    let z : p.to ≡ 0 = sym h.on.to in
    record { state = start; on = h.on; few = omega arith; bytes = omega (arith, z); table = omega arith }

pub counted_on : (s : Frames) (p q : Pass) (fdes more : ℕ) (f : Found) (h : IsCounted s p fdes) → IsPassStep s h.state p q f → walk_continues f ≡ true → more ≡ fdes + length (fde_of f) → IsCounted s q more
counted_on s p q fdes more f h n t m =
    let g = found s h.state in
    let u : walk_continues g ≡ true = sym (goes_brief g) ∙ ap walk_continues (sym n.is) ∙ t in
    let next = n.more t in
    let b = simp length-append at (ap length (on (found_bytes s) s h.state (after h.state g) g n.next u)) in
    let d = simp length-append at (ap length (on fde_of s h.state (after h.state g) g n.next u)) in
    let to = h.on.to in
    let new = next.on.to in
    let moved = to_on s h.state g n.lies u in
    let one = one_fde f in
    let fde : length (fde_of f) ≡ length (fde_of g) = ap (λ (x : Found). length (fde_of x)) n.is ∙ fde_brief g in
    let hb = h.bytes in
    let ht = h.table in
    let few = h.few in
    let further = next.further in
    record {
      state = after h.state g;
      on = next.on;
      few = omega (arith, one, m, few, further);
      bytes = omega (arith, to, new, moved, b, hb);
      table = omega (arith, m, d, fde, ht);
    }

last_is : (s : Frames) (p q : Pass) (st : State) (f : Found) → IsPassStep s st p q f → walk_continues f ≡ false → f ≡ found s st
last_is s p q st f n t = n.is ∙ ends_brief (found s st) (ap walk_continues (sym n.is) ∙ t)

last_ends : (s : Frames) (p q : Pass) (st : State) (f : Found) → IsPassStep s st p q f → walk_continues f ≡ false → walk_continues (found s st) ≡ false
last_ends s p q st f n t = ap walk_continues (sym (last_is s p q st f n t)) ∙ t

pub counted_bytes : (s : Frames) (p q : Pass) (fdes : ℕ) (f : Found) (h : IsCounted s p fdes) → IsPassStep s h.state p q f → walk_continues f ≡ false → p.to + length (found_bytes s f) ≡ length (flat_map (found_bytes s) (rest_of s start))
counted_bytes s p q fdes f h n t =
    let b = ap length (last (found_bytes s) s h.state (after h.state (found s h.state)) (found s h.state) n.next (last_ends s p q h.state f n t)) in
    let e = ap (λ (x : Found). length (found_bytes s x)) (last_is s p q h.state f n t) in
    let hb = h.bytes in
    omega (arith, b, e, hb)

none_last : (f : Found) → walk_continues f ≡ false → length (fde_of f) ≡ 0
none_last (finds.Kept k) t = cc
none_last (finds.Dropped size) t = cc
none_last finds.End t = refl
none_last (finds.Tail at) t = refl
none_last (finds.Bad y at) t = refl

pub counted_fdes : (s : Frames) (p q : Pass) (fdes : ℕ) (f : Found) (h : IsCounted s p fdes) → IsPassStep s h.state p q f → walk_continues f ≡ false → fdes ≡ length (flat_map fde_of (rest_of s start))
counted_fdes s p q fdes f h n t =
    let u = last_ends s p q h.state f n t in
    let b = ap length (last fde_of s h.state (after h.state (found s h.state)) (found s h.state) n.next u) in
    let z = none_last (found s h.state) u in
    let ht = h.table in
    omega (arith, b, ht, z)

length-tail : (bs : List ℕ) → length (tail_of bs) ≤ length bs
unfolding tail_of
length-tail bs = elim (cases_Bool ((length bs == 4) && (number_at bs 0 4 == 0))) [ inl t ↦ rw t (omega arith) | inr n ↦ rw n (omega arith) ]

short_last : (s : Frames) (st : State) (f : Found) → Facts s st f → walk_continues f ≡ false → length (found_bytes s f) ≤ length s.bytes - st.at
short_last s st (finds.Kept k) l t = cc
short_last s st (finds.Dropped size) l t = cc
short_last s st finds.End l t = omega arith
short_last s st (finds.Tail at) l t = (let e = l.0 in let a = length-tail (drop at s.bytes) in let d = length-drop at s.bytes in omega (arith, e, a, d))
short_last s st (finds.Bad y at) l t = omega arith

pub small_last : (s : Frames) (p q : Pass) (fdes : ℕ) (f : Found) (h : IsCounted s p fdes) → IsPassStep s h.state p q f → walk_continues f ≡ false → p.to + length (found_bytes s f) ≤ length s.bytes
small_last s p q fdes f h n t =
    let m = short_last s h.state (found s h.state) (found_facts s h.state) (last_ends s p q h.state f n t) in
    let e = ap (λ (x : Found). length (found_bytes s x)) (last_is s p q h.state f n t) in
    let a = h.on.fits.within in
    let b = h.on.fits.shrinks in
    let to = h.on.to in
    omega (arith, m, e, a, b, to)
