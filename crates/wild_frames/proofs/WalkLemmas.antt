-- What a walk finds, step by step.
use Rattle.std.proofs.Common.{◌≡◌, ℕ, zero, suc, ◌+◌, ◌-◌, ◌<◌, ◌≤◌, ◌⊎◌, inl, inr, Bool, true, false, List, [], ◌∷◌, ◌++◌, length, take, drop, get_or, All, AllPairs, Some, None, Option, refl, ap, sym, ◌∙◌, arith, subst}
use Rattle.std.specs.Prelude.{nat_lt, nat_le, ◌==◌, ◌&&◌, slice_range}
use Rattle.std.specs.List.{filter, list_all}
use Rattle.std.proofs.lemmas.Bool.{cases_Bool, cases_lt, le-leb, ltb-true, leb-true, eqb-true, and_parts}
use Rattle.std.proofs.lemmas.Bool.Decides.{nat_tests}
use Rattle.std.proofs.lemmas.List.Elements.{All-nil, All-cons, All-append, filter_passes}
use Rattle.std.proofs.lemmas.List.{length-drop, drop-drop}
use Rattle.wild_words.specs.Words.{number_at}
use Rattle.wild_words.proofs.ListLemmas.{AllPairs-nil, AllPairs-append, All-from_list_all}
use Rattle.std.proofs.lemmas.List.Kept.{AllPairs-cons}
use Rattle.wild_frames.proofs.RelocationLemmas.{sorted_drop, all_behind}
use Rattle.wild_frames.specs.declared.frames.Target.{Target}
use Rattle.wild_frames.specs.declared.frames.Target.TheVariants as target
use Rattle.wild_types.specs.declared.input.InputRelocation.{InputRelocation}
use Rattle.wild_frames.specs.declared.entry.Cie.{Cie}
use Rattle.wild_frames.specs.declared.entry.KeptEntry.{KeptEntry}
use Rattle.wild_frames.specs.declared.entry.BadFrame.{BadFrame}
use Rattle.wild_frames.specs.declared.entry.Found.{Found}
use Rattle.wild_frames.specs.declared.entry.Found.TheVariants as finds
use Rattle.wild_frames.specs.declared.walk.Walk.{Walk}
use Rattle.wild_frames.specs.Frames.{Frames, State, relocations_in, target_first, cie_back, kept_if, fde_entry, entry_with_id, entry_of_size, found, state_after, walk_continues, after, walk, rest_of, start, unsorted_in, malformed_in, list_error, or_else}
use Rattle.wild_frames.specs.Walks.{IsSorted, CiesArePassed, Fits, IsOwn, FieldLies, KeptLies, IsWithinSection, MovesBack, AreOwn, IsAtStart, IsNext, state_of}

-- ---- one thing

-- the relocations of an entry of that size
abbrev pub own_at : Frames → State → ℕ → List InputRelocation
own_at s st size = relocations_in st.at (st.at + size) s.relocations

-- the id in the input of the entry that stands there
abbrev pub id_at : Frames → State → ℕ
id_at s st = number_at s.bytes (st.at + 4) 4

-- a kept FDE: its id is the distance to the new place of the CIE that the input's id led to
pub record FdeFacts (s : Frames) (st : State) (k : KeptEntry) : Type 0 where
  pub cie : ℕ
  pub met : cie_back (st.at + 4) (id_at s st) st.cies ≡ Some cie
  pub is : k.id ≡ st.to + 4 - cie
  pub other : id_at s st == 0 ≡ false
  pub loaded : target_first s.target (st.at + 8) (own_at s st k.size) ≡ target.Loaded

pub record CieFacts (s : Frames) (st : State) (k : KeptEntry) : Type 0 where
  pub zero : id_at s st ≡ 0
  pub is : k.id ≡ 0

-- what is known of a kept entry
pub record KeptFacts (s : Frames) (st : State) (k : KeptEntry) : Type 0 where
  pub from : k.from ≡ st.at
  pub to : k.to ≡ st.to
  pub size : k.size ≡ 4 + number_at s.bytes st.at 4
  pub least : 8 ≤ k.size
  pub within : st.at + k.size ≤ length s.bytes
  pub fields : All (λ r. r.offset + s.width r ≤ st.at + k.size) (own_at s st k.size)
  pub links : CieFacts s st k ⊎ FdeFacts s st k

-- of an entry that is not kept
pub record DroppedFacts (s : Frames) (st : State) (size : ℕ) : Type 0 where
  pub size_is : size ≡ 4 + number_at s.bytes st.at 4
  pub least : 8 ≤ size
  pub within : st.at + size ≤ length s.bytes
  pub other : id_at s st == 0 ≡ false
  pub discarded : target_first s.target (st.at + 8) (own_at s st size) ≡ target.Discarded

-- what is known of what stands there
abbrev pub Facts : Frames → State → Found → Type 0
Facts s st (finds.Kept k) = KeptFacts s st k
Facts s st (finds.Dropped size) = DroppedFacts s st size
Facts s st (finds.Tail from) = (from ≡ st.at) × (length s.bytes < st.at + 8)
Facts s st finds.End = number_at s.bytes st.at 4 ≡ 0
Facts s st _ = Unit {0}

fields_of : (s : Frames) (end : ℕ) (rs : List InputRelocation) → list_all (λ r. nat_le (r.offset + s.width r) end) rs ≡ true → All (λ r. r.offset + s.width r ≤ end) rs
fields_of s end rs h = λ k d l. leb-true _ _ (All-from_list_all (λ r. nat_le (r.offset + s.width r) end) rs h k d l)

kept_facts : (s : Frames) (st : State) (size id : ℕ) → size ≡ 4 + number_at s.bytes st.at 4 → 8 ≤ size → st.at + size ≤ length s.bytes
    → CieFacts s st (record { from = st.at; size = size; to = st.to; id = id }) ⊎ FdeFacts s st (record { from = st.at; size = size; to = st.to; id = id })
    → Facts s st (kept_if s.width (own_at s st size) st.at st.to size id)
kept_facts s st size id e l w k =
    elim (cases_Bool (list_all (λ r. nat_le (r.offset + s.width r) (st.at + size)) (own_at s st size))) [
      | inl t ↦ rw t (record { from = refl; to = refl; size = e; least = l; within = w; fields = fields_of s (st.at + size) (own_at s st size) t; links = k })
      | inr f ↦ rw f tt
    ]

described_facts : (s : Frames) (st : State) (size : ℕ) (a : Target) (c : Option ℕ) → size ≡ 4 + number_at s.bytes st.at 4 → 8 ≤ size → st.at + size ≤ length s.bytes
    → id_at s st == 0 ≡ false → target_first s.target (st.at + 8) (own_at s st size) ≡ a → cie_back (st.at + 4) (id_at s st) st.cies ≡ c
    → Facts s st (fde_entry s.width a c (own_at s st size) st.at st.to size)
described_facts s st size target.NoSection c e l w n a h = tt
described_facts s st size target.Discarded None e l w n a h = tt
described_facts s st size target.Discarded (Some c) e l w n a h = record { size_is = e; least = l; within = w; other = n; discarded = a }
described_facts s st size target.Loaded None e l w n a h = elim (cases_Bool (nat_lt size 12)) [ inl t ↦ rw t tt | inr f ↦ rw f tt ]
described_facts s st size target.Loaded (Some c) e l w n a h =
    elim (cases_Bool (nat_lt size 12)) [
      | inl t ↦ rw t tt
      | inr f ↦ rw f (kept_facts s st size (st.to + 4 - c) e l w (inr (record { cie = c; met = h; is = refl; other = n; loaded = a })))
    ]

pub sized_facts : (s : Frames) (st : State) (size : ℕ) → size ≡ 4 + number_at s.bytes st.at 4 → Facts s st (entry_of_size s st size)
unfolding entry_of_size entry_with_id
sized_facts s st size e =
    elim (cases_Bool (nat_lt (length s.bytes) (st.at + size))) [
      | inl t ↦ rw t tt
      | inr f ↦ rw f (elim (cases_Bool (nat_lt size 8)) [
        | inl t ↦ rw t tt
        | inr g ↦ rw g (
            let w : st.at + size ≤ length s.bytes = grind (arith, nat_tests) in
            let l : 8 ≤ size = grind (arith, nat_tests) in
            elim (cases_Bool (id_at s st == 0)) [
              | inl t ↦ rw t (kept_facts s st size 0 e l w (inl (record { zero = grind (arith, nat_tests); is = refl })))
              | inr n ↦ rw n (described_facts s st size (target_first s.target (st.at + 8) (own_at s st size)) (cie_back (st.at + 4) (id_at s st) st.cies) e l w n refl refl)
            ])
      ])
    ]

pub found_facts : (s : Frames) (st : State) → Facts s st (found s st)
unfolding found
found_facts s st =
    elim (cases_Bool (nat_lt (length s.bytes) (st.at + 8))) [
      | inl t ↦ rw t (refl, ltb-true _ _ t)
      | inr f ↦ rw f (elim (cases_Bool (number_at s.bytes st.at 4 == 0)) [
        | inl t ↦ rw t (eqb-true _ 0 t)
        | inr g ↦ rw g (sized_facts s st (4 + number_at s.bytes st.at 4) refl)
      ])
    ]

-- what is behind: it lies in the section
pub record Goes (s : Frames) (st next : State) : Type 0 where
  pub more : st.at + 8 ≤ next.at
  pub within : next.at ≤ length s.bytes

pub goes : (s : Frames) (st : State) (f : Found) → Facts s st f → walk_continues f ≡ true → Goes s st (after st f)
goes s st (finds.Kept k) h g = record { more = let l = h.least in omega arith; within = h.within }
goes s st (finds.Dropped size) h g = record { more = let l = h.least in omega arith; within = h.within }
goes s st finds.End h g = cc
goes s st (finds.Tail at) h g = cc
goes s st (finds.Bad w at) h g = cc

pub next_at : (s : Frames) (st : State) (f : Found) → Facts s st f → walk_continues f ≡ true → (after st f).at ≡ st.at + (4 + number_at s.bytes st.at 4)
next_at s st (finds.Kept k) h g = ap (λ (n : ℕ). st.at + n) h.size
next_at s st (finds.Dropped size) h g = ap (λ (n : ℕ). st.at + n) h.size_is
next_at s st finds.End h g = cc
next_at s st (finds.Tail at) h g = cc
next_at s st (finds.Bad w at) h g = cc

-- ---- all

walk_enough : (s : Frames) (n m : ℕ) (st : State) → length s.bytes - st.at < n → length s.bytes - st.at < m → walk s n st ≡ walk s m st
unfolding walk
walk_enough s zero m st h k = absurd (omega arith)
walk_enough s (suc n) zero st h k = absurd (omega arith)
walk_enough s (suc n) (suc m) st h k =
    elim (cases_Bool (walk_continues (found s st))) [
      | inl t ↦
          (let g = goes s st (found s st) (found_facts s st) t in
          rw t (ap (λ fs. found s st ∷ fs) (walk_enough s n m (after st (found s st)) (let a = g.more in let b = g.within in omega arith) (let a = g.more in let b = g.within in omega arith))))
      | inr f ↦ rw f refl
    ]

-- what is found from a state on, by one step
pub next_found : (s : Frames) (st : State) → IsNext s st (after st (found s st)) (found s st)
unfolding rest_of walk
next_found s st =
    elim (cases_Bool (walk_continues (found s st))) [
      | inl t ↦
          (let g = goes s st (found s st) (found_facts s st) t in
          rw t (ap (λ fs. found s st ∷ fs) (walk_enough s (length s.bytes - st.at) (suc (length s.bytes - (after st (found s st)).at)) (after st (found s st)) (let a = g.more in let b = g.within in omega arith) (omega arith))))
      | inr f ↦ rw f refl
    ]

-- ---- the relocations of an entry

filter-filter : (p q r : InputRelocation → Bool) (xs : List InputRelocation) → ((x : InputRelocation) → (p x && q x) ≡ r x) → filter p (filter q xs) ≡ filter r xs
filter-filter p q r [] h = refl
filter-filter p q r (x ∷ xs) h =
    let e = h x in
    elim (cases_Bool (q x)) [
      | inl t ↦ elim (cases_Bool (p x)) [
        | inl u ↦ (let k : true ≡ r x = rw (u, t) at e in rw (t, ← k) (rw u (ap (λ ys. x ∷ ys) (filter-filter p q r xs h))))
        | inr u ↦ (let k : false ≡ r x = rw u at e in rw (t, ← k) (rw u (filter-filter p q r xs h)))
      ]
      | inr f ↦ elim (cases_Bool (p x)) [
        | inl u ↦ (let k : false ≡ r x = rw (u, f) at e in rw (f, ← k) (filter-filter p q r xs h))
        | inr u ↦ (let k : false ≡ r x = rw u at e in rw (f, ← k) (filter-filter p q r xs h))
      ]
    ]

swapped : (a b : Bool) → (a && b) ≡ (b && a)
swapped true true = refl
swapped true false = refl
swapped false true = refl
swapped false false = refl

further : (a b : ℕ) (o : ℕ) → a ≤ b → (nat_le b o && nat_le a o) ≡ nat_le b o
further a b o h =
    elim (cases_lt o b) [
      | inl lt ↦ (let f : nat_le b o ≡ false = grind (arith, nat_tests) in rw f refl)
      | inr ge ↦ (let t : nat_le b o ≡ true = le-leb b o ge in let u : nat_le a o ≡ true = le-leb a o (omega arith) in rw (t, u) refl)
    ]

pub own_of : (s : Frames) (st : State) (j end n : ℕ) (rest : List InputRelocation) → rest ≡ drop j s.relocations → Fits s st j → st.at ≤ end → n ≤ length rest
    → take n rest ≡ filter (λ r. nat_lt r.offset end) rest
    → drop n rest ≡ filter (λ r. nat_le end r.offset) rest
    → IsOwn s st.at end j n
own_of s st j end n rest e f h l own behind =
    let l2 : n ≤ length (drop j s.relocations) = subst (λ (rs : List InputRelocation). n ≤ length rs) e l in
    let own2 = subst (λ (rs : List InputRelocation). take n rs ≡ filter (λ r. nat_lt r.offset end) rs) e own in
    let behind2 = subst (λ (rs : List InputRelocation). drop n rs ≡ filter (λ r. nat_le end r.offset) rs) e behind in
    record {
      counted = let c = f.counted in let d = length-drop j s.relocations in omega arith;
      own = own2 ∙ ap (filter (λ r. nat_lt r.offset end)) f.behind ∙ filter-filter (λ r. nat_lt r.offset end) (λ r. nat_le st.at r.offset) (λ r. nat_le st.at r.offset && nat_lt r.offset end) s.relocations (λ r. swapped (nat_lt r.offset end) (nat_le st.at r.offset));
      behind = sym (drop-drop n j s.relocations) ∙ behind2 ∙ ap (filter (λ r. nat_le end r.offset)) f.behind ∙ filter-filter (λ r. nat_le end r.offset) (λ r. nat_le st.at r.offset) (λ r. nat_le end r.offset) s.relocations (λ r. further st.at end r.offset h);
    }

-- the fields of a kept entry lie in it
fields_lie : (s : Frames) (from size : ℕ) (rs : List InputRelocation) → All (λ r. r.offset + s.width r ≤ from + size) (relocations_in from (from + size) rs) → All (FieldLies s from size) (relocations_in from (from + size) rs)
fields_lie s from size rs a = λ k d l.
    let p = filter_passes (λ r. nat_le from r.offset && nat_lt r.offset (from + size)) rs k d l in
    record { behind = leb-true _ _ (and_parts _ _ p).0; within = a k d l }

pub kept_lies : (s : Frames) (st : State) (k : KeptEntry) → KeptFacts s st k → KeptLies s k
kept_lies s st k h = record {
  least = h.least;
  within = let f = h.from in let i = h.within in omega arith;
  fields = rw h.from (fields_lie s st.at k.size s.relocations h.fields);
}

pub lies : (s : Frames) (st : State) (j : ℕ) (f : Found) → Fits s st j → Facts s st f → IsWithinSection s f
lies s st j (finds.Kept k) w h = kept_lies s st k h
lies s st j (finds.Dropped size) w h = tt
lies s st j finds.End w h = tt
lies s st j (finds.Tail at) w h = rw h.0 w.within
lies s st j (finds.Bad y at) w h = tt

pub moves_back : (s : Frames) (st : State) (j : ℕ) (f : Found) → Fits s st j → Facts s st f → MovesBack f
moves_back s st j (finds.Kept k) w h = let f = h.from in let t = h.to in let l = w.shrinks in omega (arith, l, f, t)
moves_back s st j (finds.Dropped size) w h = tt
moves_back s st j finds.End w h = tt
moves_back s st j (finds.Tail at) w h = tt
moves_back s st j (finds.Bad y at) w h = tt

pub are_own : (s : Frames) (st : State) (f : Found) (j n m : ℕ) → Facts s st f → (walk_continues f ≡ true → IsOwn s st.at (after st f).at j n) → (walk_continues f ≡ true → m ≡ j + n) → AreOwn s (slice_range s.relocations j m) f
are_own s st (finds.Kept k) j n m h o e =
    let eq = e refl in
    let d : j + n - j ≡ n = omega arith in
    rw (eq, d, h.from) (o refl).own
are_own s st (finds.Dropped size) j n m h o e = tt
are_own s st finds.End j n m h o e = tt
are_own s st (finds.Tail at) j n m h o e = tt
are_own s st (finds.Bad y at) j n m h o e = tt

-- ---- behind what was found

ascend_more : (x : Cie) (cs : List Cie) → AllPairs (λ c d. c.from < d.from) cs → All (λ c. c.from < x.from) cs → AllPairs (λ c d. c.from < d.from) (cs ++ x ∷ [])
ascend_more x cs p a =
    AllPairs-append (λ c d. c.from < d.from) cs (x ∷ []) p (AllPairs-cons (λ c d. c.from < d.from) x [] (All-nil (λ d. x.from < d.from)) (AllPairs-nil (λ c d. c.from < d.from)))
    (λ k d l. All-cons (λ e. (get_or cs k d).from < e.from) x [] (a k d l) (All-nil (λ e. (get_or cs k d).from < e.from)))

met_further : (at end : ℕ) (cs : List Cie) → at ≤ end → CiesArePassed at cs → CiesArePassed end cs
met_further at end cs h m = record { ascend = m.ascend; before = λ i d l. (let a = m.before i d l in omega arith) }

met_more : (at to size : ℕ) (cs : List Cie) → 8 ≤ size → CiesArePassed at cs → CiesArePassed (at + size) (cs ++ (record { from = at; to = to }) ∷ [])
met_more at to size cs l m =
    let x : Cie = record { from = at; to = to } in
    let g = met_further at (at + size) cs (omega arith) m in
    record {
      ascend = ascend_more x cs m.ascend m.before;
      before = All-append (λ c. c.from < at + size) cs (x ∷ []) g.before (All-cons (λ c. c.from < at + size) x [] (omega arith) (All-nil (λ c. c.from < at + size)));
    }

met_behind : (s : Frames) (st : State) (k : KeptEntry) → KeptFacts s st k → CiesArePassed st.at st.cies → CiesArePassed (st.at + k.size) (state_after st k).cies
met_behind s st k h m =
    let l = h.least in
    elim (cases_Bool (k.id == 0)) [
      | inl t ↦ rw (t, h.from) (met_more st.at k.to k.size st.cies l m)
      | inr f ↦ rw f (met_further st.at (st.at + k.size) st.cies (omega arith) m)
    ]

fits_on : (s : Frames) (st next : State) (j n : ℕ) → Fits s st j → Goes s st next → next.to ≤ next.at → CiesArePassed next.at next.cies → IsOwn s st.at next.at j n → Fits s next (j + n)
fits_on s st next j n f g t m o = record {
  within = g.within;
  shrinks = t;
  counted = o.counted;
  behind = o.behind;
  sorted = subst IsSorted (drop-drop n j s.relocations) (sorted_drop n (drop j s.relocations) f.sorted);
  met = m;
}

pub fits_after : (s : Frames) (st : State) (f : Found) (j n : ℕ) → Fits s st j → Facts s st f → walk_continues f ≡ true → IsOwn s st.at (after st f).at j n → Fits s (after st f) (j + n)
fits_after s st (finds.Kept k) j n h x t o =
    fits_on s st (state_after st k) j n h (goes s st (finds.Kept k) x t) (let a = h.shrinks in omega arith) (met_behind s st k x h.met) o
fits_after s st (finds.Dropped size) j n h x t o =
    fits_on s st (after st (finds.Dropped size)) j n h (goes s st (finds.Dropped size) x t) (let a = h.shrinks in omega arith) (met_further st.at (st.at + size) st.cies (omega arith) h.met) o
fits_after s st finds.End j n h x t o = cc
fits_after s st (finds.Tail at) j n h x t o = cc
fits_after s st (finds.Bad w at) j n h x t o = cc

pub sorted_list : (rs : List InputRelocation) → list_error rs ≡ None → unsorted_in 0 rs ≡ None
unfolding list_error
sorted_list rs h = right (malformed_in rs) (unsorted_in 0 rs) h
  where
    right : (a b : Option BadFrame) → or_else a b ≡ None → b ≡ None
    right None b h = h
    right (Some e) b h = cc

pub fits_start : (s : Frames) → list_error s.relocations ≡ None → Fits s start 0
fits_start s h = record {
  within = omega arith;
  shrinks = omega arith;
  counted = omega arith;
  behind = sym (all_behind 0 s.relocations (λ k d l. omega arith));
  sorted = record { reach = 0; none = sorted_list s.relocations h };
  met = record { ascend = AllPairs-nil (λ c d. c.from < d.from); before = All-nil (λ c. c.from < 0) };
}

-- a walk at the start of a section whose relocations are in order
pub at_start : (s : Frames) (w : Walk) → list_error s.relocations ≡ None → state_of w ≡ start → w.relocation ≡ 0 → IsAtStart s w
at_start s w n e j = record {
  none = n;
  state = e;
  fits = subst (λ (x : State). Fits s x w.relocation) (sym e) (subst (λ (k : ℕ). Fits s start k) (sym j) (fits_start s n));
}
