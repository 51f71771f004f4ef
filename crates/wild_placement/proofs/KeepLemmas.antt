-- What a walk keeps of frames, step by step.
use Rattle.std.proofs.Common.{◌≡◌, ℕ, true, false, List, [], ◌∷◌, ◌++◌, flat_map, map, Option, Some, None, refl, ap, sym, ◌∙◌, subst}
use Rattle.std.specs.Prelude.{option_to_list}
use Rattle.std.proofs.lemmas.List.{append_assoc}
use Rattle.wild_types.specs.declared.input.InputRelocation.{InputRelocation}
use Rattle.wild_frames.specs.declared.entry.BadFrame.{BadFrame}
use Rattle.wild_frames.specs.declared.entry.Found.{Found}
use Rattle.wild_frames.specs.declared.entry.Found.TheVariants as finds
use Rattle.wild_frames.specs.declared.walk.Walk.{Walk}
use Rattle.wild_frames.specs.Frames.{Frames, State, walk_continues, rest_of, start, found_bytes, found_in, list_error}
use Rattle.wild_frames.specs.Faults.{found_errors, frame_errors}
use Rattle.wild_frames.specs.Walks.{AreOwn, Fits, IsAtStart, IsNext, state_of}
use Rattle.wild_placement.specs.PlacedSections.{moved_relocation}
use Rattle.wild_placement.specs.PlacedInputs.{found_moved, found_kept, found_placed, own_kept, fault_after, AreKept}
use Rattle.wild_placement.proofs.FrameLemmas.{rest_on, rest_last, found_whole, found_none}

-- ---- lists of what is found

list_on : {X : Type 0} (g : Found → List X) (s : Frames) (a b : State) (f : Found) (xs ys all : List X) → xs ++ flat_map g (rest_of s a) ≡ all → IsNext s a b f → walk_continues f ≡ true → ys ≡ xs ++ g f → ys ++ flat_map g (rest_of s b) ≡ all
list_on g s a b f xs ys all h n t e = ap (λ zs. zs ++ flat_map g (rest_of s b)) e ∙ append_assoc xs (g f) (flat_map g (rest_of s b)) ∙ ap (λ zs. xs ++ zs) (sym (rest_on g s a b f n t)) ∙ h

list_last : {X : Type 0} (g : Found → List X) (s : Frames) (a b : State) (f : Found) (xs ys all : List X) → xs ++ flat_map g (rest_of s a) ≡ all → IsNext s a b f → walk_continues f ≡ false → ys ≡ xs ++ g f → ys ≡ all
list_last g s a b f xs ys all h n t e = e ∙ ap (λ zs. xs ++ zs) (sym (rest_last g s a b f n t)) ∙ h

own_is : (s : Frames) (own : List InputRelocation) (f : Found) → AreOwn s own f → own_kept own f ≡ found_kept s f
own_is s own (finds.Kept k) h = h
own_is s own (finds.Dropped size) h = refl
own_is s own (finds.Tail from) h = refl
own_is s own (finds.Bad w at) h = refl
own_is s own finds.End h = refl

moved_is : (s : Frames) (own : List InputRelocation) (f : Found) → AreOwn s own f → found_moved own f ≡ found_placed s f
moved_is s own (finds.Kept k) h = ap (map (moved_relocation k)) h
moved_is s own (finds.Dropped size) h = refl
moved_is s own (finds.Tail from) h = refl
moved_is s own (finds.Bad w at) h = refl
moved_is s own finds.End h = refl

fault_on : (fault : Option BadFrame) (f : Found) → walk_continues f ≡ true → fault_after fault f ≡ fault
fault_on fault (finds.Kept k) t = refl
fault_on fault (finds.Dropped size) t = refl
fault_on fault (finds.Tail from) t = cc
fault_on fault (finds.Bad w at) t = cc
fault_on fault finds.End t = cc

calm_on : (f : Found) → walk_continues f ≡ true → found_errors f ≡ []
calm_on (finds.Kept k) t = refl
calm_on (finds.Dropped size) t = refl
calm_on (finds.Tail from) t = cc
calm_on (finds.Bad w at) t = cc
calm_on finds.End t = cc

fault_last : (f : Found) → option_to_list (fault_after None f) ≡ found_errors f
fault_last (finds.Kept k) = refl
fault_last (finds.Dropped size) = refl
fault_last (finds.Tail from) = refl
fault_last (finds.Bad w at) = refl
fault_last finds.End = refl

-- ---- a walk that keeps

-- so much is kept as the walk has passed, and no fault was met
pub record Keeps (s : Frames) (w : Walk) (bytes : List ℕ) (origins moved : List InputRelocation) (fault : Option BadFrame) : Type 0 where
  pub fits : Fits s (state_of w) w.relocation
  pub written : bytes ++ flat_map (found_bytes s) (rest_of s (state_of w)) ≡ flat_map (found_bytes s) (rest_of s start)
  pub from : origins ++ flat_map (found_kept s) (rest_of s (state_of w)) ≡ flat_map (found_kept s) (rest_of s start)
  pub to : moved ++ flat_map (found_placed s) (rest_of s (state_of w)) ≡ flat_map (found_placed s) (rest_of s start)
  pub none : fault ≡ None
  pub errors : flat_map found_errors (rest_of s (state_of w)) ≡ flat_map found_errors (rest_of s start)

at_first : {X : Type 0} (g : Found → List X) (s : Frames) (st : State) (xs : List X) → xs ≡ [] → st ≡ start → xs ++ flat_map g (rest_of s st) ≡ flat_map g (rest_of s start)
at_first g s st xs h e = ap (λ zs. zs ++ flat_map g (rest_of s st)) h ∙ ap (λ (x : State). flat_map g (rest_of s x)) e

pub keeps_start : (s : Frames) (w : Walk) (bytes : List ℕ) (origins moved : List InputRelocation) (fault : Option BadFrame) → IsAtStart s w → bytes ≡ [] → origins ≡ [] → moved ≡ [] → fault ≡ None → Keeps s w bytes origins moved fault
keeps_start s w bytes origins moved fault h b o m n = record {
  fits = h.fits;
  written = at_first (found_bytes s) s (state_of w) bytes b h.state;
  from = at_first (found_kept s) s (state_of w) origins o h.state;
  to = at_first (found_placed s) s (state_of w) moved m h.state;
  none = n;
  errors = ap (λ (x : State). flat_map found_errors (rest_of s x)) h.state;
}

-- what a step adds
pub record Adds (s : Frames) (own : List InputRelocation) (f : Found) (b c : List ℕ) (o p m n : List InputRelocation) (d e : Option BadFrame) : Type 0 where
  pub bytes : c ≡ b ++ found_bytes s f
  pub origins : p ≡ o ++ own_kept own f
  pub moved : n ≡ m ++ found_moved own f
  pub fault : e ≡ fault_after d f
  pub own_are : AreOwn s own f

pub keeps_on : (s : Frames) (w v : Walk) (own : List InputRelocation) (f : Found) (b c : List ℕ) (o p m n : List InputRelocation) (d e : Option BadFrame) → Keeps s w b o m d → Adds s own f b c o p m n d e
    → IsNext s (state_of w) (state_of v) f → walk_continues f ≡ true → Fits s (state_of v) v.relocation → Keeps s v c p n e
keeps_on s w v own f b c o p m n d e h a next t fits = record {
  fits = fits;
  written = list_on (found_bytes s) s (state_of w) (state_of v) f b c (flat_map (found_bytes s) (rest_of s start)) h.written next t a.bytes;
  from = list_on (found_kept s) s (state_of w) (state_of v) f o p (flat_map (found_kept s) (rest_of s start)) h.from next t (a.origins ∙ ap (λ xs. o ++ xs) (own_is s own f a.own_are));
  to = list_on (found_placed s) s (state_of w) (state_of v) f m n (flat_map (found_placed s) (rest_of s start)) h.to next t (a.moved ∙ ap (λ xs. m ++ xs) (moved_is s own f a.own_are));
  none = a.fault ∙ fault_on d f t ∙ h.none;
  errors = sym (rest_on found_errors s (state_of w) (state_of v) f next t ∙ ap (λ xs. xs ++ flat_map found_errors (rest_of s (state_of v))) (calm_on f t)) ∙ h.errors;
}

pub keeps_all : (s : Frames) (w v : Walk) (own : List InputRelocation) (f : Found) (b c : List ℕ) (o p m n : List InputRelocation) (d e : Option BadFrame) → Keeps s w b o m d → Adds s own f b c o p m n d e
    → IsNext s (state_of w) (state_of v) f → walk_continues f ≡ false → AreKept s (rest_of s start) c p n
keeps_all s w v own f b c o p m n d e h a next t = record {
  written = list_last (found_bytes s) s (state_of w) (state_of v) f b c (flat_map (found_bytes s) (rest_of s start)) h.written next t a.bytes;
  from = list_last (found_kept s) s (state_of w) (state_of v) f o p (flat_map (found_kept s) (rest_of s start)) h.from next t (a.origins ∙ ap (λ xs. o ++ xs) (own_is s own f a.own_are));
  to = list_last (found_placed s) s (state_of w) (state_of v) f m n (flat_map (found_placed s) (rest_of s start)) h.to next t (a.moved ∙ ap (λ xs. m ++ xs) (moved_is s own f a.own_are));
}

pub keeps_fault : (s : Frames) (w v : Walk) (own : List InputRelocation) (f : Found) (b c : List ℕ) (o p m n : List InputRelocation) (d e : Option BadFrame) → Keeps s w b o m d → Adds s own f b c o p m n d e
    → IsNext s (state_of w) (state_of v) f → walk_continues f ≡ false → option_to_list e ≡ flat_map found_errors (rest_of s start)
keeps_fault s w v own f b c o p m n d e h a next t =
    ap option_to_list (a.fault ∙ ap (λ (x : Option BadFrame). fault_after x f) h.none) ∙ fault_last f ∙ sym (rest_last found_errors s (state_of w) (state_of v) f next t) ∙ h.errors

-- ---- all

pub kept_whole : (s : Frames) (b : List ℕ) (o m : List InputRelocation) → list_error s.relocations ≡ None → AreKept s (rest_of s start) b o m → AreKept s (found_in s) b o m
kept_whole s b o m h k = subst (λ (fs : List Found). AreKept s fs b o m) (sym (found_whole s h)) k

pub faults_whole : (s : Frames) (e : Option BadFrame) → list_error s.relocations ≡ None → option_to_list e ≡ flat_map found_errors (rest_of s start) → option_to_list e ≡ frame_errors s
faults_whole s e h k = rw h k

pub kept_none : (s : Frames) (b : List ℕ) (o m : List InputRelocation) (e : BadFrame) → list_error s.relocations ≡ Some e → b ≡ [] → o ≡ [] → m ≡ [] → AreKept s (found_in s) b o m
kept_none s b o m e h p q r = let n = found_none s e h in record { written = rw (n, p) refl; from = rw (n, q) refl; to = rw (n, r) refl }

pub faults_none : (s : Frames) (e : BadFrame) → list_error s.relocations ≡ Some e → option_to_list (Some e) ≡ frame_errors s
faults_none s e h = rw h refl
