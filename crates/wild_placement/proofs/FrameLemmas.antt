-- What is given and kept of frames, step by step of a walk.
use Rattle.std.proofs.Common.{◌≡◌, ℕ, ◌+◌, ◌-◌, ◌<◌, ◌≤◌, ◌^◌, true, false, List, [], ◌∷◌, ◌++◌, length, map, flat_map, inl, inr, All, Some, None, Ok, Err, Result, refl, ap, sym, ◌∙◌, arith, subst}
use Rattle.std.specs.Prelude.{slice_range}
use Rattle.std.proofs.lemmas.List.{append-nil, append_assoc}
use Rattle.std.proofs.lemmas.List.Concat.{flat_map-append}
use Rattle.std.proofs.lemmas.Bool.{cases_Bool}
use Rattle.wild_types.specs.declared.input.InputRelocation.{InputRelocation}
use Rattle.wild_frames.specs.declared.entry.KeptEntry.{KeptEntry}
use Rattle.wild_frames.specs.declared.entry.Found.{Found}
use Rattle.wild_frames.specs.declared.entry.Found.TheVariants as finds
use Rattle.wild_frames.specs.declared.entry.BadFrame.{BadFrame}
use Rattle.wild_frames.specs.declared.pass.Pass.{Pass}
use Rattle.wild_frames.specs.Frames.{Frames, State, found, walk_continues, after, rest_of, start, kept_of, found_in, kept_in, list_error}
use Rattle.wild_frames.specs.Walks.{IsWithinSection, MovesBack, AreOwn, IsNext, FieldLies}
use Rattle.wild_frames.specs.Passes.{without_id, FollowsWalk, IsPassStep}
use Rattle.wild_placement.specs.PlacedSections.{entry_relocations, moved_relocation, kept_relocations, moved_relocations}
use Rattle.wild_placement.specs.PlacedInputs.{StaysLow, StayLow, found_moved, found_placed, found_kept}
use Rattle.wild_words.specs.Runs.{SinkRun, RestOfWalk}
use Rattle.wild_words.proofs.RunLemmas.{left_done, left_next, left_out}

-- ---- a list made of what a walk finds

-- by one step that goes on
pub rest_on : {X : Type 0} (g : Found → List X) (s : Frames) (a b : State) (f : Found) → IsNext s a b f → walk_continues f ≡ true → flat_map g (rest_of s a) ≡ g f ++ flat_map g (rest_of s b)
rest_on g s a b f n t = ap (flat_map g) (rw t at n)

-- and by the last step
pub rest_last : {X : Type 0} (g : Found → List X) (s : Frames) (a b : State) (f : Found) → IsNext s a b f → walk_continues f ≡ false → flat_map g (rest_of s a) ≡ g f
rest_last g s a b f n t = ap (flat_map g) (rw t at n) ∙ append-nil (g f)

-- or by any
pub record Ahead {X : Type 0} (xs ys : List X) : Type 0 where
  pub more : List X
  pub is : xs ≡ ys ++ more

pub rest_ahead : {X : Type 0} (g : Found → List X) (s : Frames) (a b : State) (f : Found) → IsNext s a b f → Ahead (flat_map g (rest_of s a)) (g f)
rest_ahead g s a b f n = elim (cases_Bool (walk_continues f)) [
  | inl t ↦ record { more = flat_map g (rest_of s b); is = rest_on g s a b f n t }
  | inr u ↦ record { more = []; is = rest_last g s a b f n u ∙ sym (append-nil (g f)) }
]

-- what entries give, of all that is found
by_found : {X : Type 0} (h : KeptEntry → List X) (g : Found → List X) → ((f : Found) → flat_map h (kept_of f) ≡ g f) → (fs : List Found) → flat_map h (flat_map kept_of fs) ≡ flat_map g fs
by_found h g e [] = refl
by_found h g e (f ∷ fs) = flat_map-append h (kept_of f) (flat_map kept_of fs) ∙ ap (λ xs. xs ++ flat_map h (flat_map kept_of fs)) (e f) ∙ ap (λ xs. g f ++ xs) (by_found h g e fs)

placed_relocations_each : (s : Frames) (f : Found) → flat_map (λ k. map (moved_relocation k) (entry_relocations s k)) (kept_of f) ≡ found_placed s f
placed_relocations_each s (finds.Kept k) = append-nil (map (moved_relocation k) (entry_relocations s k))
placed_relocations_each s (finds.Dropped size) = refl
placed_relocations_each s (finds.Tail from) = refl
placed_relocations_each s (finds.Bad w at) = refl
placed_relocations_each s finds.End = refl

kept_each : (s : Frames) (f : Found) → flat_map (entry_relocations s) (kept_of f) ≡ found_kept s f
kept_each s (finds.Kept k) = append-nil (entry_relocations s k)
kept_each s (finds.Dropped size) = refl
kept_each s (finds.Tail from) = refl
kept_each s (finds.Bad w at) = refl
kept_each s finds.End = refl

pub laid-found : (s : Frames) → moved_relocations s ≡ flat_map (found_placed s) (found_in s)
unfolding moved_relocations
laid-found s = by_found (λ k. map (moved_relocation k) (entry_relocations s k)) (found_placed s) (placed_relocations_each s) (found_in s)

pub kept-found : (s : Frames) → kept_relocations s ≡ flat_map (found_kept s) (found_in s)
unfolding kept_relocations
kept-found s = by_found (entry_relocations s) (found_kept s) (kept_each s) (found_in s)

-- ---- places of moved relocations

low_each : (s : Frames) (k : KeptEntry) (rs : List InputRelocation) → k.to ≤ k.from → k.from + k.size < 2 ^ 64 → All (FieldLies s k.from k.size) rs → All (StaysLow k) rs
low_each s k rs b w a i d l = let h = a i d l in let e = h.within in let f = h.behind in omega (arith, b, w, e, f)

pub stay_low : (s : Frames) (own : List InputRelocation) (f : Found) → length s.bytes < 2 ^ 64 → IsWithinSection s f → MovesBack f → AreOwn s own f → StayLow own f
stay_low s own (finds.Kept k) w h b e = let i = h.within in subst (λ (rs : List InputRelocation). All (StaysLow k) rs) (sym e) (low_each s k (entry_relocations s k) b (omega (arith, w, i)) h.fields)
stay_low s own (finds.Dropped size) w h b e = tt
stay_low s own (finds.Tail from) w h b e = tt
stay_low s own (finds.Bad y at) w h b e = tt
stay_low s own finds.End w h b e = tt

pub low_brief : (own : List InputRelocation) (f : Found) → StayLow own f → StayLow own (without_id f)
low_brief own (finds.Kept k) h = h
low_brief own (finds.Dropped size) h = h
low_brief own (finds.Tail from) h = h
low_brief own (finds.Bad y at) h = h
low_brief own finds.End h = h

-- ---- what is given

goes_brief : (f : Found) → walk_continues (without_id f) ≡ walk_continues f
goes_brief (finds.Kept k) = refl
goes_brief (finds.Dropped size) = refl
goes_brief (finds.Tail from) = refl
goes_brief (finds.Bad w at) = refl
goes_brief finds.End = refl

moved_brief : (s : Frames) (own : List InputRelocation) (f : Found) → AreOwn s own f → found_moved own (without_id f) ≡ found_placed s f
moved_brief s own (finds.Kept k) e = ap (map (moved_relocation k)) e
moved_brief s own (finds.Dropped size) e = refl
moved_brief s own (finds.Tail from) e = refl
moved_brief s own (finds.Bad y at) e = refl
moved_brief s own finds.End e = refl

-- a walk has relocations to give
pub record Gives {S E : Type 0} (goes : S → InputRelocation → S → Type 0) (refuses : S → InputRelocation → E → S → Type 0) (s : Frames) (from : S) (p : Pass) (at : S) : Type 0 where
  pub state : State
  pub on : FollowsWalk s p state
  pub rest : RestOfWalk goes refuses from (flat_map (found_placed s) (rest_of s start)) at (flat_map (found_placed s) (rest_of s state))

-- what a step gives
own_moved : (s : Frames) (p q : Pass) (st : State) (f : Found) (own : List InputRelocation) → IsPassStep s st p q f → own ≡ slice_range s.relocations p.relocation q.relocation → found_moved own f ≡ found_placed s (found s st)
own_moved s p q st f own n e =
    ap (found_moved own) n.is ∙ moved_brief s own (found s st) (subst (λ (rs : List InputRelocation). AreOwn s rs (found s st)) (sym e) n.own)

pub low_own : (s : Frames) (p q : Pass) (st : State) (f : Found) (own : List InputRelocation) → length s.bytes < 2 ^ 64 → IsPassStep s st p q f → own ≡ slice_range s.relocations p.relocation q.relocation → StayLow own f
low_own s p q st f own w n e =
    subst (StayLow own) (sym n.is) (low_brief own (found s st) (stay_low s own (found s st) w n.lies n.back (subst (λ (rs : List InputRelocation). AreOwn s rs (found s st)) (sym e) n.own)))

module _ {S E : Type 0} {goes : S → InputRelocation → S → Type 0} {refuses : S → InputRelocation → E → S → Type 0} where
  pub gives_on : {a b c : S} {u : Unit {0}} (s : Frames) (p q : Pass) (f : Found) (own : List InputRelocation) (h : Gives goes refuses s a p b) → IsPassStep s h.state p q f → own ≡ slice_range s.relocations p.relocation q.relocation → walk_continues f ≡ true
      → SinkRun goes refuses b (found_moved own f) (Ok u) c → Gives goes refuses s a q c
  gives_on {a = a} {b = b} {c = c} {u = u} s p q f own h n e t r =
      let g = found s h.state in
      let next = n.more t in
      let goes_too : walk_continues g ≡ true = sym (goes_brief g) ∙ ap walk_continues (sym n.is) ∙ t in
      let all = flat_map (found_placed s) (rest_of s start) in
      record {
        state = after h.state g;
        on = next.on;
        rest = left_next (subst (λ (xs : List InputRelocation). RestOfWalk goes refuses a all b xs) (rest_on (found_placed s) s h.state (after h.state g) g n.next goes_too) h.rest)
            (subst (λ (xs : List InputRelocation). SinkRun goes refuses b xs (Ok u) c) (own_moved s p q h.state f own n e) r);
      }

  pub gives_out : {a b c : S} {x : E} (s : Frames) (p q : Pass) (f : Found) (own : List InputRelocation) (h : Gives goes refuses s a p b) → IsPassStep s h.state p q f → own ≡ slice_range s.relocations p.relocation q.relocation
      → SinkRun goes refuses b (found_moved own f) (Err x) c → SinkRun goes refuses a (flat_map (found_placed s) (rest_of s start)) (Err x) c
  gives_out {a = a} {b = b} {c = c} {x = x} s p q f own h n e r =
      let g = found s h.state in
      let all = flat_map (found_placed s) (rest_of s start) in
      let ahead = rest_ahead (found_placed s) s h.state (after h.state g) g n.next in
      left_out ahead.more (subst (λ (xs : List InputRelocation). RestOfWalk goes refuses a all b xs) ahead.is h.rest) (subst (λ (xs : List InputRelocation). SinkRun goes refuses b xs (Err x) c) (own_moved s p q h.state f own n e) r)

  pub gives_last : {a b c : S} {u : Unit {0}} (s : Frames) (p q : Pass) (f : Found) (own : List InputRelocation) (h : Gives goes refuses s a p b) → IsPassStep s h.state p q f → own ≡ slice_range s.relocations p.relocation q.relocation → walk_continues f ≡ false
      → SinkRun goes refuses b (found_moved own f) (Ok u) c → SinkRun goes refuses a (flat_map (found_placed s) (rest_of s start)) (Ok tt) c
  gives_last {a = a} {b = b} {c = c} {u = u} s p q f own h n e t r =
      let g = found s h.state in
      let all = flat_map (found_placed s) (rest_of s start) in
      let ends : walk_continues g ≡ false = sym (goes_brief g) ∙ ap walk_continues (sym n.is) ∙ t in
      let is = rest_last (found_placed s) s h.state (after h.state g) g n.next ends ∙ sym (append-nil (found_placed s g)) in
      left_done (left_next (subst (λ (xs : List InputRelocation). RestOfWalk goes refuses a all b xs) is h.rest) (subst (λ (xs : List InputRelocation). SinkRun goes refuses b xs (Ok u) c) (own_moved s p q h.state f own n e) r))

-- where the relocations are in order, there is all that a walk finds from the start; else nothing
pub found_whole : (s : Frames) → list_error s.relocations ≡ None → found_in s ≡ rest_of s start
found_whole s h = rw h refl

pub found_none : (s : Frames) (e : BadFrame) → list_error s.relocations ≡ Some e → found_in s ≡ []
found_none s e h = rw h refl

pub placed_relocations_whole : (s : Frames) → list_error s.relocations ≡ None → flat_map (found_placed s) (rest_of s start) ≡ moved_relocations s
placed_relocations_whole s h = sym (laid-found s ∙ ap (flat_map (found_placed s)) (found_whole s h))

pub placed_relocations_none : (s : Frames) (e : BadFrame) → list_error s.relocations ≡ Some e → moved_relocations s ≡ []
placed_relocations_none s e h = laid-found s ∙ ap (flat_map (found_placed s)) (found_none s e h)
