-- A walk that takes no memory finds what one does that has the places of all CIEs.
use Rattle.std.proofs.Common.{◌≡◌, ℕ, zero, suc, ◌+◌, ◌-◌, ◌<◌, ◌≤◌, ◌⊎◌, inl, inr, Bool, true, false, not, List, [], ◌∷◌, ◌++◌, length, take, drop, get_or, All, Some, None, Option, refl, ap, sym, ◌∙◌, arith, subst}
use Rattle.std.specs.Prelude.{if◌then◌else◌, nat_lt, nat_le, ◌==◌, ◌&&◌, is_some, slice_range}
use Rattle.std.proofs.lemmas.Bool.{cases_Bool, cases_lt, le-leb, lt-ltb, ltb-true, leb-true, eqb-true, and_parts}
use Rattle.std.proofs.lemmas.Bool.Decides.{nat_tests}
use Rattle.std.specs.List.{filter, list_all}
use Rattle.wild_words.proofs.ListLemmas.{AllPairs-nil}
use Rattle.std.proofs.lemmas.List.Elements.{All-nil, All-cons, All-head, All-tail, All-append}
use Rattle.wild_words.specs.Words.{number_at}
use Rattle.wild_types.specs.declared.input.InputRelocation.{InputRelocation}
use Rattle.wild_frames.specs.declared.frames.Target.{Target}
use Rattle.wild_frames.specs.declared.frames.Target.TheVariants as target
use Rattle.wild_frames.specs.declared.entry.Cie.{Cie}
use Rattle.wild_frames.specs.declared.entry.KeptEntry.{KeptEntry}
use Rattle.wild_frames.specs.declared.entry.Found.{Found}
use Rattle.wild_frames.specs.declared.entry.Found.TheVariants as finds
use Rattle.wild_frames.specs.declared.pass.Pass.{Pass}
use Rattle.wild_frames.specs.Frames.{Frames, State, cie_at, cie_back, kept_if, fde_entry, entry_with_id, entry_of_size, found, target_first, state_after, after, walk_continues, start, list_error}
use Rattle.wild_frames.specs.Walks.{Fits, IsOwn, IsNext, IsWithinSection, AreOwn}
use Rattle.wild_frames.specs.Passes.{reaches_offset, has_cie, cie_before, state_with_cie, state_without_cies, entry_without_id, without_id, last_cie_after, IsBoundary, FollowsWalk, IsWithin, IsReady, PassContinues, IsPassStep}
use Rattle.wild_frames.proofs.WalkLemmas.{own_at, id_at, FdeFacts, CieFacts, KeptFacts, DroppedFacts, Facts, found_facts, goes, next_at, next_found, lies, moves_back, are_own, fits_after, fits_start}

-- ---- reading by lengths

-- enough steps are enough
pub comes_enough : (bs : List ℕ) (n m at x : ℕ) → x - at ≤ n → x - at ≤ m → reaches_offset bs n at x ≡ reaches_offset bs m at x
unfolding reaches_offset
comes_enough bs zero zero at x h k = refl
comes_enough bs zero (suc m) at x h k = let f : nat_lt at x ≡ false = grind (arith, nat_tests) in rw f refl
comes_enough bs (suc n) zero at x h k = let f : nat_lt at x ≡ false = grind (arith, nat_tests) in rw f refl
comes_enough bs (suc n) (suc m) at x h k = elim (cases_Bool (nat_lt at x)) [
  | inl t ↦ rw t (comes_enough bs n m (at + (4 + number_at bs at 4)) x (omega (arith, h)) (omega (arith, k)))
  | inr f ↦ rw f refl
]

-- where a place is ahead, reading goes on behind the entry
pub comes_on : (bs : List ℕ) (n at x : ℕ) → x ≤ n → at < x → reaches_offset bs n at x ≡ reaches_offset bs n (at + (4 + number_at bs at 4)) x
unfolding reaches_offset
comes_on bs zero at x h l = absurd (omega (arith, h, l))
comes_on bs (suc n) at x h l = let t : nat_lt at x ≡ true = lt-ltb at x l in rw t (comes_enough bs n (suc n) (at + (4 + number_at bs at 4)) x (omega (arith, h)) (omega (arith, h)))

-- where it is reached
pub comes_here : (bs : List ℕ) (n at x : ℕ) → x ≤ at → reaches_offset bs n at x ≡ (at == x)
unfolding reaches_offset
comes_here bs zero at x h = refl
comes_here bs (suc n) at x h = let f : nat_lt at x ≡ false = grind (arith, nat_tests) in rw f refl

-- ---- CIEs that were met

cie_none : (x at : ℕ) (cs : List Cie) → All (λ c. c.from < at) cs → at ≤ x → cie_at x cs ≡ None
cie_none x at [] a h = refl
cie_none x at (c ∷ cs) a h =
    let l : c.from < at = All-head (λ c. c.from < at) c cs a in
    let f : (c.from == x) ≡ false = grind (arith, nat_tests) in
    rw f (cie_none x at cs (All-tail (λ c. c.from < at) c cs a) h)

cie_low : (x t : ℕ) (cs : List Cie) (to : ℕ) → All (λ c. c.to ≤ t) cs → cie_at x cs ≡ Some to → to ≤ t
cie_low x t [] to a h = cc
cie_low x t (c ∷ cs) to a h = elim (cases_Bool (c.from == x)) [
  | inl e ↦ (let g : Some c.to ≡ Some to = rw e at h in let l = All-head (λ c. c.to ≤ t) c cs a in subst (λ (n : ℕ). n ≤ t) (some_same g) l)
  | inr f ↦ (let g : cie_at x cs ≡ Some to = rw f at h in cie_low x t cs to (All-tail (λ c. c.to ≤ t) c cs a) g)
]
  where
    some_same : {a b : ℕ} → Some a ≡ Some b → a ≡ b
    some_same h = cc

cie_beside : (x : ℕ) (cs : List Cie) (c : Cie) → (c.from == x) ≡ false → cie_at x (cs ++ c ∷ []) ≡ cie_at x cs
cie_beside x [] c h = rw h refl
cie_beside x (d ∷ ds) c h = elim (cases_Bool (d.from == x)) [ inl t ↦ rw t refl | inr f ↦ rw f (cie_beside x ds c h) ]

cie_last : (x at : ℕ) (cs : List Cie) (c : Cie) → All (λ c. c.from < at) cs → at ≤ x → cie_at x (cs ++ c ∷ []) ≡ (if c.from == x then Some c.to else None)
cie_last x at [] c a h = refl
cie_last x at (d ∷ ds) c a h =
    let l : d.from < at = All-head (λ c. c.from < at) d ds a in
    let f : (d.from == x) ≡ false = grind (arith, nat_tests) in
    rw f (cie_last x at ds c (All-tail (λ c. c.from < at) d ds a) h)

-- ---- one step

-- what two walks know of the CIE of an FDE, where the one does not know its place
abbrev Agree : ℕ → Option ℕ → Option ℕ → Type 0
Agree to None None = Unit {0}
Agree to (Some c) (Some d) = (c ≤ to) × (d ≡ to)
Agree to None (Some d) = ⊥
Agree to (Some c) None = ⊥

brief_cie : (w : InputRelocation → ℕ) (own : List InputRelocation) (at to size : ℕ) → kept_if w own at to size 0 ≡ without_id (kept_if w own at to size 0)
brief_cie w own at to size = elim (cases_Bool (list_all (λ r. nat_le (r.offset + w r) (at + size)) own)) [ inl t ↦ rw t refl | inr f ↦ rw f refl ]

brief_fde : (w : InputRelocation → ℕ) (own : List InputRelocation) (at to size c d : ℕ) → c ≤ to → d ≡ to → kept_if w own at to size (to + 4 - d) ≡ without_id (kept_if w own at to size (to + 4 - c))
brief_fde w own at to size c d h e =
    let n : to + 4 - d ≡ 4 = omega (arith, e) in
    let f : (to + 4 - c == 0) ≡ false = grind (arith, nat_tests) in
    elim (cases_Bool (list_all (λ r. nat_le (r.offset + w r) (at + size)) own)) [ inl t ↦ rw (t, n, f) refl | inr g ↦ rw g refl ]

brief_described : (w : InputRelocation → ℕ) (t : Target) (a b : Option ℕ) (own : List InputRelocation) (at to size : ℕ) → Agree to a b → fde_entry w t b own at to size ≡ without_id (fde_entry w t a own at to size)
brief_described w target.NoSection a b own at to size h = refl
brief_described w target.Discarded None None own at to size h = refl
brief_described w target.Discarded (Some c) (Some d) own at to size h = refl
brief_described w target.Discarded None (Some d) own at to size h = absurd h
brief_described w target.Discarded (Some c) None own at to size h = absurd h
brief_described w target.Loaded None None own at to size h = elim (cases_Bool (nat_lt size 12)) [ inl t ↦ rw t refl | inr f ↦ rw f refl ]
brief_described w target.Loaded (Some c) (Some d) own at to size h = elim (cases_Bool (nat_lt size 12)) [ inl t ↦ rw t refl | inr f ↦ rw f (brief_fde w own at to size c d h.0 h.1) ]
brief_described w target.Loaded None (Some d) own at to size h = absurd h
brief_described w target.Loaded (Some c) None own at to size h = absurd h

-- the state of the one walk, by that of the other
abbrev seen : Frames → State → State
seen s st = record { at = st.at; to = st.to; cies = cie_before s.bytes st.at st.to (id_at s st) }

agree_some : (x to : ℕ) (cs : List Cie) (b : Bool) → All (λ c. c.to ≤ to) cs → is_some (cie_at x cs) ≡ b → Agree to (cie_at x cs) (cie_at x (if b then (record { from = x; to = to }) ∷ [] else []))
agree_some x to cs b a h = by_value (cie_at x cs) b refl h
  where
    same : (x == x) ≡ true
    same = grind (arith, nat_tests)

    by_value : (v : Option ℕ) (b : Bool) → cie_at x cs ≡ v → is_some v ≡ b → Agree to v (cie_at x (if b then (record { from = x; to = to }) ∷ [] else []))
    by_value None false e h = tt
    by_value None true e h = cc
    by_value (Some c) true e h = rw same (cie_low x to cs c a e, refl)
    by_value (Some c) false e h = cc

agree_back : (s : Frames) (st : State) (id : ℕ) → All (λ c. c.from < st.at) st.cies → All (λ c. c.to ≤ st.to) st.cies → ((x : ℕ) → x < st.at → is_some (cie_at x st.cies) ≡ has_cie s.bytes x)
    → Agree st.to (cie_back (st.at + 4) id st.cies) (cie_back (st.at + 4) id (cie_before s.bytes st.at st.to id))
agree_back s st id before ahead met =
    elim (cases_Bool (nat_le id (st.at + 4))) [
      | inr f ↦ rw f tt
      | inl t ↦ rw t (elim (cases_Bool (nat_lt 4 id)) [
        | inl u ↦ rw u (agree_some (st.at + 4 - id) st.to st.cies (has_cie s.bytes (st.at + 4 - id)) ahead (met (st.at + 4 - id) (grind (arith, nat_tests))))
        | inr g ↦ (let n = cie_none (st.at + 4 - id) st.at st.cies before (grind (arith, nat_tests)) in rw (g, n) tt)
      ])
    ]

brief_identified : (s : Frames) (own : List InputRelocation) (st : State) (size id : ℕ) → Agree st.to (cie_back (st.at + 4) id st.cies) (cie_back (st.at + 4) id (seen s st).cies)
    → entry_with_id s own (seen s st) size id ≡ without_id (entry_with_id s own st size id)
unfolding entry_with_id
brief_identified s own st size id h =
    elim (cases_Bool (id == 0)) [
      | inl t ↦ rw t (brief_cie s.width own st.at st.to size)
      | inr f ↦ rw f (brief_described s.width (target_first s.target (st.at + 8) own) (cie_back (st.at + 4) id st.cies) (cie_back (st.at + 4) id (seen s st).cies) own st.at st.to size h)
    ]

brief_sized : (s : Frames) (st : State) (size : ℕ) → Agree st.to (cie_back (st.at + 4) (id_at s st) st.cies) (cie_back (st.at + 4) (id_at s st) (seen s st).cies) → entry_of_size s (seen s st) size ≡ without_id (entry_of_size s st size)
unfolding entry_of_size
brief_sized s st size h =
    elim (cases_Bool (nat_lt (length s.bytes) (st.at + size))) [
      | inl t ↦ rw t refl
      | inr f ↦ rw f (elim (cases_Bool (nat_lt size 8)) [ inl t ↦ rw t refl | inr g ↦ rw g (brief_identified s (own_at s st size) st size (id_at s st) h) ])
    ]

brief_found : (s : Frames) (st : State) → Agree st.to (cie_back (st.at + 4) (id_at s st) st.cies) (cie_back (st.at + 4) (id_at s st) (seen s st).cies) → found s (seen s st) ≡ without_id (found s st)
unfolding found
brief_found s st h =
    elim (cases_Bool (nat_lt (length s.bytes) (st.at + 8))) [
      | inl t ↦ rw t refl
      | inr f ↦ rw f (elim (cases_Bool (number_at s.bytes st.at 4 == 0)) [ inl t ↦ rw t refl | inr g ↦ rw g (brief_sized s st (4 + number_at s.bytes st.at 4) h) ])
    ]

-- what the walk finds
pub found_brief : (s : Frames) (p : Pass) (st : State) → FollowsWalk s p st → found s (state_with_cie s.bytes p) ≡ without_id (found s st)
found_brief s p st h =
    let m = h.fits.met in
    let g = brief_found s st (agree_back s st (id_at s st) m.before h.ahead h.met) in
    subst (λ (to : ℕ). found s (record { at = p.at; to = to; cies = cie_before s.bytes p.at to (number_at s.bytes (p.at + 4) 4) }) ≡ without_id (found s st)) h.to
    (subst (λ (at : ℕ). found s (record { at = at; to = st.to; cies = cie_before s.bytes at st.to (number_at s.bytes (at + 4) 4) }) ≡ without_id (found s st)) h.at g)

pub goes_brief : (f : Found) → walk_continues (without_id f) ≡ walk_continues f
goes_brief (finds.Kept k) = refl
goes_brief (finds.Dropped size) = refl
goes_brief (finds.Tail from) = refl
goes_brief (finds.Bad w at) = refl
goes_brief finds.End = refl

-- ---- a walk at the start

pub ready : (s : Frames) → list_error s.relocations ≡ None → IsReady s (record { at = 0; relocation = 0; to = 0; known = 0 })
ready s h = record {
  none = h;
  on = record {
    at = refl;
    to = refl;
    fits = fits_start s h;
    below = omega arith;
    known = λ x l. refl;
    here = λ x l. refl;
    ahead = All-nil (λ c. c.to ≤ 0);
    met = λ x l. absurd (omega (arith, l));
  };
}

-- ---- behind what was found

after_at : (p : Pass) (st : State) (f : Found) → st.at ≡ p.at → (after (state_without_cies p) (without_id f)).at ≡ (after st f).at
after_at p st (finds.Kept k) h = rw h refl
after_at p st (finds.Dropped size) h = rw h refl
after_at p st (finds.Tail from) h = sym h
after_at p st (finds.Bad w at) h = sym h
after_at p st finds.End h = sym h

after_to : (p : Pass) (st : State) (f : Found) → st.to ≡ p.to → (after (state_without_cies p) (without_id f)).to ≡ (after st f).to
after_to p st (finds.Kept k) h = rw h refl
after_to p st (finds.Dropped size) h = sym h
after_to p st (finds.Tail from) h = sym h
after_to p st (finds.Bad w at) h = sym h
after_to p st finds.End h = sym h

-- the id of what is kept is 0 exactly where that of the input is
same_zero : (s : Frames) (st : State) (k : KeptEntry) → All (λ c. c.to ≤ st.to) st.cies → KeptFacts s st k → (k.id == 0) ≡ (id_at s st == 0)
same_zero s st k a h = elim h.links [
  | inl c ↦ (let z = c.zero in let e = c.is in rw (z, e) refl)
  | inr f ↦ (
      let o = f.other in
      let e = f.is in
      let low : f.cie ≤ st.to = low_back (nat_le (id_at s st) (st.at + 4)) f.cie f.met in
      let n : (k.id == 0) ≡ false = grind (arith, nat_tests) in
      rw (n, o) refl)
]
  where
    low_back : (b : Bool) (c : ℕ) → (if b then cie_at (st.at + 4 - id_at s st) st.cies else None) ≡ Some c → c ≤ st.to
    low_back true c h = cie_low (st.at + 4 - id_at s st) st.to st.cies c a h
    low_back false c h = cc

-- reading by lengths comes to what is behind an entry
boundary_on : (bs : List ℕ) (at next : ℕ) → IsBoundary bs at → next ≡ at + (4 + number_at bs at 4) → IsBoundary bs next
boundary_on bs at next h e x l = h x (omega (arith, e, l)) ∙ comes_on bs x at x (omega arith) (omega (arith, e, l)) ∙ ap (λ (n : ℕ). reaches_offset bs x n x) (sym e)

-- between an entry and what is behind it no CIE stands but the entry
cie_here : (bs : List ℕ) (at next x : ℕ) → IsBoundary bs at → next ≡ at + (4 + number_at bs at 4) → at ≤ x → x < next → has_cie bs x ≡ ((at == x) && (number_at bs (at + 4) 4 == 0))
cie_here bs at next x h e l m = elim (cases_lt at x) [
  | inl u ↦ (
      let c = h x l ∙ comes_on bs x at x (omega arith) u ∙ ap (λ (n : ℕ). reaches_offset bs x n x) (sym e) ∙ comes_here bs x next x (omega (arith, m)) in
      let f : (next == x) ≡ false = grind (arith, nat_tests) in
      let g : (at == x) ≡ false = grind (arith, nat_tests) in
      rw (c, f, g) refl)
  | inr u ↦ (
      let same : x ≡ at = omega (arith, l, u) in
      subst (λ (y : ℕ). has_cie bs y ≡ ((at == y) && (number_at bs (at + 4) 4 == 0))) (sym same) (
      let c = h at (omega arith) ∙ comes_here bs at at at (omega arith) in
      rw c refl))
]

-- the places of the CIEs behind what was found
abbrev MetAfter : Frames → State → Found → Type 0
MetAfter s st f = (x : ℕ) → x < (after st f).at → is_some (cie_at x (after st f).cies) ≡ has_cie s.bytes x

met_kept : (s : Frames) (st : State) (k : KeptEntry) → All (λ c. c.from < st.at) st.cies → All (λ c. c.to ≤ st.to) st.cies → IsBoundary s.bytes st.at → ((x : ℕ) → x < st.at → is_some (cie_at x st.cies) ≡ has_cie s.bytes x)
    → KeptFacts s st k → MetAfter s st (finds.Kept k)
met_kept s st k before ahead here met h x l =
    let z = same_zero s st k ahead h in
    let from = h.from in
    let size = h.size in
    elim (cases_lt x st.at) [
      | inl low ↦ elim (cases_Bool (k.id == 0)) [
        | inl t ↦ (let n : (k.from == x) ≡ false = grind (arith, nat_tests) in rw t (ap is_some (cie_beside x st.cies (record { from = k.from; to = k.to }) n) ∙ met x low))
        | inr f ↦ rw f (met x low)
      ]
      | inr high ↦ (
          let c = cie_here s.bytes st.at (st.at + k.size) x here (ap (λ (n : ℕ). st.at + n) size) high l in
          elim (cases_Bool (k.id == 0)) [
            | inl t ↦ (
                let i : (id_at s st == 0) ≡ true = sym z ∙ t in
                rw (t, c, i) (ap is_some (cie_last x st.at st.cies (record { from = k.from; to = k.to }) before high) ∙ at_it (st.at == x) (ap (λ (n : ℕ). n == x) from)))
            | inr f ↦ (
                let i : (id_at s st == 0) ≡ false = sym z ∙ f in
                let n = cie_none x st.at st.cies before high in
                rw (f, c, i, n) (both_false (st.at == x)))
          ])
    ]
  where
    at_it : (b : Bool) → (k.from == x) ≡ b → is_some (if k.from == x then Some k.to else None) ≡ (b && true)
    at_it true e = rw e refl
    at_it false e = rw e refl

    both_false : (b : Bool) → false ≡ (b && false)
    both_false true = refl
    both_false false = refl

met_dropped : (s : Frames) (st : State) (size : ℕ) → All (λ c. c.from < st.at) st.cies → IsBoundary s.bytes st.at → ((x : ℕ) → x < st.at → is_some (cie_at x st.cies) ≡ has_cie s.bytes x)
    → DroppedFacts s st size → MetAfter s st (finds.Dropped size)
met_dropped s st size before here met h x l = elim (cases_lt x st.at) [
  | inl low ↦ met x low
  | inr high ↦ (
      let c = cie_here s.bytes st.at (st.at + size) x here (ap (λ (n : ℕ). st.at + n) h.size_is) high l in
      let i = h.other in
      let n = cie_none x st.at st.cies before high in
      rw (c, i, n) (both_false (st.at == x)))
]
  where
    both_false : (b : Bool) → false ≡ (b && false)
    both_false true = refl
    both_false false = refl

met_behind : (s : Frames) (p : Pass) (st : State) (f : Found) → FollowsWalk s p st → IsBoundary s.bytes st.at → Facts s st f → walk_continues f ≡ true → MetAfter s st f
met_behind s p st (finds.Kept k) h b x t = met_kept s st k h.fits.met.before h.ahead b h.met x
met_behind s p st (finds.Dropped size) h b x t = met_dropped s st size h.fits.met.before b h.met x
met_behind s p st (finds.Tail from) h b x t = cc
met_behind s p st (finds.Bad w at) h b x t = cc
met_behind s p st finds.End h b x t = cc

ahead_behind : (s : Frames) (st : State) (f : Found) → All (λ c. c.to ≤ st.to) st.cies → Facts s st f → All (λ c. c.to ≤ (after st f).to) (after st f).cies
ahead_behind s st (finds.Kept k) a h =
    let e = h.to in
    let more : All (λ c. c.to ≤ st.to + k.size) st.cies = λ i d l. (let b = a i d l in omega (arith, b)) in
    elim (cases_Bool (k.id == 0)) [
      | inl t ↦ rw t (All-append (λ c. c.to ≤ st.to + k.size) st.cies ((record { from = k.from; to = k.to }) ∷ []) more (All-cons (λ c. c.to ≤ st.to + k.size) (record { from = k.from; to = k.to }) [] (omega (arith, e)) (All-nil (λ c. c.to ≤ st.to + k.size))))
      | inr f ↦ rw f more
    ]
ahead_behind s st (finds.Dropped size) a h = a
ahead_behind s st (finds.Tail from) a h = a
ahead_behind s st (finds.Bad w at) a h = a
ahead_behind s st finds.End a h = a

record IsKnown (s : Frames) (at known : ℕ) : Type 0 where
  pub below : known ≤ at
  pub known_place : IsBoundary s.bytes known

known_behind : (s : Frames) (st : State) (f : Found) (known : ℕ) → known ≤ st.at → IsBoundary s.bytes known → IsBoundary s.bytes st.at → Facts s st f → IsKnown s (after st f).at (last_cie_after known (without_id f))
known_behind s st (finds.Kept k) known l b here h =
    let e = h.from in
    elim (cases_Bool (k.id == 0)) [
      | inl t ↦ rw (t, e) (record { below = omega arith; known_place = here })
      | inr f ↦ rw f (record { below = omega (arith, l); known_place = b })
    ]
known_behind s st (finds.Dropped size) known l b here h = record { below = omega (arith, l); known_place = b }
known_behind s st (finds.Tail from) known l b here h = record { below = l; known_place = b }
known_behind s st (finds.Bad w at) known l b here h = record { below = l; known_place = b }
known_behind s st finds.End known l b here h = record { below = l; known_place = b }

-- a step that found what the other walk finds
pub record IsMoved (s : Frames) (p q : Pass) (f : Found) (n : ℕ) : Type 0 where
  pub own : walk_continues f ≡ true → IsOwn s p.at (after (state_without_cies p) f).at p.relocation n
  pub few : p.relocation + n ≤ length s.relocations
  pub new_at : q.at ≡ (after (state_without_cies p) f).at
  pub new_to : q.to ≡ (after (state_without_cies p) f).to
  pub passed : walk_continues f ≡ true → q.relocation ≡ p.relocation + n
  pub stays : walk_continues f ≡ false → q.relocation ≡ p.relocation
  pub new_known : q.known ≡ last_cie_after p.known f

goes_further : (s : Frames) (p q : Pass) (st : State) (n : ℕ) → FollowsWalk s p st → IsMoved s p q (without_id (found s st)) n → walk_continues (found s st) ≡ true → PassContinues s st p q
goes_further s p q st n h m t =
    let f = found s st in
    let x = found_facts s st in
    let u : walk_continues (without_id f) ≡ true = goes_brief f ∙ t in
    let at = m.new_at ∙ after_at p st f h.at in
    let to = m.new_to ∙ after_to p st f h.to in
    let o : IsOwn s st.at (after st f).at p.relocation n = subst (λ (a : ℕ). IsOwn s a (after st f).at p.relocation n) (sym h.at) (subst (λ (b : ℕ). IsOwn s p.at b p.relocation n) (after_at p st f h.at) (m.own u)) in
    let g = goes s st f x t in
    let here = subst (IsBoundary s.bytes) (sym h.at) h.here in
    let old = h.at in
    let below = h.below in
    let k = known_behind s st f p.known (omega (arith, old, below)) h.known here x in
    let more = g.more in
    let within = g.within in
    let lower = k.below in
    let known = m.new_known in
    record {
      on = record {
        at = sym at;
        to = sym to;
        fits = subst (λ (j : ℕ). Fits s (after st f) j) (sym (m.passed u)) (fits_after s st f p.relocation n h.fits x t o);
        below = omega (arith, lower, known, at);
        known = subst (IsBoundary s.bytes) (sym known) k.known_place;
        here = boundary_on s.bytes st.at q.at here (at ∙ next_at s st f x t);
        ahead = ahead_behind s st f h.ahead x;
        met = met_behind s p st f h here x t;
      };
      further = omega (arith, at, more, old);
      within = omega (arith, at, within);
    }

counted : (s : Frames) (p q : Pass) (f : Found) (n : ℕ) → IsMoved s p q f n → (p.relocation ≤ q.relocation) × (q.relocation ≤ length s.relocations)
counted s p q f n m = elim (cases_Bool (walk_continues f)) [
  | inl t ↦ (let e = m.passed t in let l = m.few in (omega (arith, e), omega (arith, e, l)))
  | inr u ↦ (let e = m.stays u in let l = m.few in (omega (arith, e), omega (arith, e, l)))
]

step_passes : (s : Frames) (p q : Pass) (st : State) (n : ℕ) → FollowsWalk s p st → IsMoved s p q (without_id (found s st)) n → IsPassStep s st p q (without_id (found s st))
step_passes s p q st n h m =
    let f = found s st in
    let x = found_facts s st in
    let c = counted s p q (without_id f) n m in
    let own_by : walk_continues f ≡ true → IsOwn s st.at (after st f).at p.relocation n = (λ t. subst (λ (a : ℕ). IsOwn s a (after st f).at p.relocation n) (sym h.at)
    (subst (λ (b : ℕ). IsOwn s p.at b p.relocation n) (after_at p st f h.at) (m.own (goes_brief f ∙ t)))) in
    record {
      is = refl;
      next = next_found s st;
      lies = lies s st p.relocation f h.fits x;
      back = moves_back s st p.relocation f h.fits x;
      own = are_own s st f p.relocation n q.relocation x own_by (λ t. m.passed (goes_brief f ∙ t));
      counted = c.0;
      few = c.1;
      more = λ t. goes_further s p q st n h m (sym (goes_brief f) ∙ t);
    }

-- a step of the walk
pub passes : (s : Frames) (p q : Pass) (st : State) (f : Found) (n : ℕ) → FollowsWalk s p st → f ≡ found s (state_with_cie s.bytes p) → IsMoved s p q f n → IsPassStep s st p q f
passes s p q st f n h e m =
    let is = e ∙ found_brief s p st h in
    subst (λ (g : Found). IsPassStep s st p q g) (sym is) (step_passes s p q st n h (subst (λ (g : Found). IsMoved s p q g n) is m))

-- what the walk asks of a place, of one that has the places of all CIEs
pub bare_fits : (s : Frames) (p : Pass) (st : State) → FollowsWalk s p st → Fits s (state_without_cies p) p.relocation
bare_fits s p st h =
    let f = h.fits in
    let at = h.at in
    let to = h.to in
    let w = f.within in
    let k = f.shrinks in
    record {
      within = omega (arith, at, w);
      shrinks = omega (arith, at, to, k);
      counted = f.counted;
      behind = subst (λ (a : ℕ). drop p.relocation s.relocations ≡ filter (λ r. nat_le a r.offset) s.relocations) at f.behind;
      sorted = f.sorted;
      met = record { ascend = AllPairs-nil (λ c d. c.from < d.from); before = All-nil (λ c. c.from < p.at) };
    }

-- what was found ends in the section
pub room_behind : (s : Frames) (p : Pass) (st : State) (f : Found) → FollowsWalk s p st → f ≡ found s (state_with_cie s.bytes p) → walk_continues f ≡ true → (after (state_without_cies p) f).at ≤ length s.bytes
room_behind s p st f h e t =
    let is = e ∙ found_brief s p st h in
    let u : walk_continues (found s st) ≡ true = sym (goes_brief (found s st)) ∙ ap walk_continues (sym is) ∙ t in
    let w = (goes s st (found s st) (found_facts s st) u).within in
    let at = ap (λ (g : Found). (after (state_without_cies p) g).at) is ∙ after_at p st (found s st) h.at in
    omega (arith, at, w)
