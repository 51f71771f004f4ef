-- What a walk finds, as one list.
use Rattle.std.proofs.Common.{◌≡◌, ℕ, zero, suc, ◌+◌, ◌-◌, ◌<◌, ◌≤◌, inl, inr, false, List, [], ◌∷◌, ◌++◌, length, get_or, All, Some, None, Option, flat_map, refl, ◌∙◌, arith, subst}
use Rattle.std.specs.Prelude.{Contains, nat_le, ◌==◌, drop}
use Rattle.std.proofs.lemmas.Bool.{cases_Bool, leb-true, eqb-true}
use Rattle.std.proofs.lemmas.List.{append_assoc, length-append, get_or_append_left, get_or-append-add}
use Rattle.std.proofs.lemmas.List.Elements.{All-nil, All-cons, All-head, All-tail, All-append}
use Rattle.wild_words.specs.Words.{number_at, HasBytesAt}
use Rattle.wild_words.proofs.RecordLemmas.{HasBytesAt-left, HasBytesAt-right}
use Rattle.wild_types.specs.Lists.{total}
use Rattle.wild_frames.specs.declared.entry.Cie.{Cie}
use Rattle.wild_frames.specs.declared.entry.KeptEntry.{KeptEntry}
use Rattle.wild_frames.specs.declared.entry.BadFrame.{BadFrame}
use Rattle.wild_frames.specs.declared.entry.Found.{Found}
use Rattle.wild_frames.specs.declared.entry.Found.TheVariants as finds
use Rattle.wild_frames.specs.Frames.{Frames, State, start, cie_at, cie_back, state_after, after, walk_continues, found, walk, rest_of, entry_bytes, tail_of, found_bytes, kept_of, kept_in, list_error, unless, found_in}
use Rattle.wild_frames.specs.Walks.{KeptLies}
use Rattle.wild_frames.specs.Reading.{LeadsToItsCie, AreConsecutiveFrom, tail_found, EntriesHaveNoGaps}
use Rattle.wild_frames.proofs.WalkLemmas.{Facts, KeptFacts, found_facts, kept_lies}
use Rattle.wild_frames.proofs.WriteLemmas.{length-entry}

Contains-left : {X : Type 0} (xs ys : List X) (x : X) → Contains xs x → Contains (xs ++ ys) x
Contains-left xs ys x c = (c.0, (let l = c.1 in let n = length-append xs ys in omega (arith, l, n)), get_or_append_left xs ys x c.0 c.1 ∙ c.2)

Contains-right : {X : Type 0} (xs ys : List X) (x : X) → Contains ys x → Contains (xs ++ ys) x
Contains-right xs ys x c = (length xs + c.0, (let l = c.1 in let n = length-append xs ys in omega (arith, l, n)), get_or-append-add xs ys c.0 x ∙ c.2)

-- the facts of each, one behind the other
pub record Step (s : Frames) (st : State) (f : Found) (fs : List Found) (rest : Type 0) : Type 0 where
  pub facts : Facts s st f
  pub ends : walk_continues f ≡ false → fs ≡ []
  pub others : rest

abbrev pub IsWalked : Frames → State → List Found → Type 0
IsWalked s st [] = Unit {0}
IsWalked s st (f ∷ fs) = Step s st f fs (IsWalked s (after st f) fs)

walked : (s : Frames) (n : ℕ) (st : State) → IsWalked s st (walk s n st)
unfolding walk
walked s zero st = tt
walked s (suc n) st =
    elim (cases_Bool (walk_continues (found s st))) [
      | inl t ↦ rw t (record { facts = found_facts s st; ends = λ n. cc; others = walked s n (after st (found s st)) })
      | inr f ↦ rw f (record { facts = found_facts s st; ends = λ n. refl; others = tt })
    ]

unless_walked : (s : Frames) (e : Option BadFrame) (fs : List Found) → IsWalked s start fs → IsWalked s start (unless e fs)
unless_walked s None fs w = w
unless_walked s (Some e) fs w = tt

pub found_walked : (s : Frames) → IsWalked s start (found_in s)
unfolding rest_of
found_walked s = unless_walked s (list_error s.relocations) (rest_of s start) (walked s _ start)

-- ---- each kept entry

pub record KeptIs (s : Frames) (k : KeptEntry) : Type 0 where
  pub lies : KeptLies s k
  pub size : k.size ≡ 4 + number_at s.bytes k.from 4

pub each_kept : (s : Frames) (st : State) (fs : List Found) → IsWalked s st fs → All (KeptIs s) (flat_map kept_of fs)
each_kept s st [] w = All-nil (KeptIs s)
each_kept s st (finds.Kept k ∷ fs) w =
    let h = w.facts in
    All-cons (KeptIs s) k (flat_map kept_of fs) (record { lies = kept_lies s st k h; size = rw h.from h.size }) (each_kept s (state_after st k) fs w.others)
each_kept s st (finds.Dropped size ∷ fs) w = each_kept s _ fs w.others
each_kept s st (finds.End ∷ fs) w = each_kept s _ fs w.others
each_kept s st (finds.Tail at ∷ fs) w = each_kept s _ fs w.others
each_kept s st (finds.Bad y at ∷ fs) w = each_kept s _ fs w.others

-- ---- where they stand

lie_in : (s : Frames) (st : State) (fs : List Found) → IsWalked s st fs → AreConsecutiveFrom st.to (flat_map kept_of fs)
lie_in s st [] w = tt
lie_in s st (finds.Kept k ∷ fs) w = (w.facts.to, lie_in s (state_after st k) fs w.others)
lie_in s st (finds.Dropped size ∷ fs) w = lie_in s (after st (finds.Dropped size)) fs w.others
lie_in s st (finds.End ∷ fs) w = lie_in s st fs w.others
lie_in s st (finds.Tail at ∷ fs) w = lie_in s st fs w.others
lie_in s st (finds.Bad y at ∷ fs) w = lie_in s st fs w.others

length_in : (s : Frames) (st : State) (fs : List Found) → IsWalked s st fs → length (flat_map (found_bytes s) fs) ≡ total (λ k. k.size) (flat_map kept_of fs) + length (flat_map (tail_found s) fs)
length_in s st [] w = refl
length_in s st (finds.Kept k ∷ fs) w =
    let lies = kept_lies s st k w.facts in
    let e = length-entry s k lies.least lies.within in
    let n = length-append (entry_bytes s k) (flat_map (found_bytes s) fs) in
    let h = length_in s (state_after st k) fs w.others in
    omega (arith, e, n, h)
length_in s st (finds.Dropped size ∷ fs) w = length_in s (after st (finds.Dropped size)) fs w.others
length_in s st (finds.End ∷ fs) w = length_in s st fs w.others
length_in s st (finds.Bad y at ∷ fs) w = length_in s st fs w.others
length_in s st (finds.Tail at ∷ fs) w =
    let n = length-append (tail_of (drop at s.bytes)) (flat_map (found_bytes s) fs) in
    let m = length-append (tail_of (drop at s.bytes)) (flat_map (tail_found s) fs) in
    let h = length_in s st fs w.others in
    omega (arith, n, m, h)

-- each stands in the bytes
stand_in : (s : Frames) (st : State) (fs : List Found) (front : List ℕ) → length front ≡ st.to → IsWalked s st fs
    → All (λ k. HasBytesAt (front ++ flat_map (found_bytes s) fs) k.to (entry_bytes s k)) (flat_map kept_of fs)
stand_in s st [] front e w = All-nil (λ k. HasBytesAt (front ++ []) k.to (entry_bytes s k))
stand_in s st (finds.Kept k ∷ fs) front e w =
    let h = w.facts in
    let lies = kept_lies s st k h in
    let bytes = flat_map (found_bytes s) fs in
    let here = HasBytesAt-right front (entry_bytes s k ++ bytes) (entry_bytes s k) 0 (HasBytesAt-left (entry_bytes s k) bytes) in
    let at : length front + 0 ≡ k.to = let t = h.to in omega arith in
    let n = length-entry s k lies.least lies.within in
    let more : length (front ++ entry_bytes s k) ≡ st.to + k.size = simp length-append (omega (arith, n, e)) in
    let rest = stand_in s (state_after st k) fs (front ++ entry_bytes s k) more w.others in
    All-cons (λ j. HasBytesAt (front ++ (entry_bytes s k ++ bytes)) j.to (entry_bytes s j)) k (flat_map kept_of fs)
    (subst (λ (a : ℕ). HasBytesAt (front ++ (entry_bytes s k ++ bytes)) a (entry_bytes s k)) at here)
    (λ i d l. subst (λ (bs : List ℕ). HasBytesAt bs (get_or (flat_map kept_of fs) i d).to (entry_bytes s (get_or (flat_map kept_of fs) i d))) (append_assoc front (entry_bytes s k) bytes) (rest i d l))
stand_in s st (finds.Dropped size ∷ fs) front e w = stand_in s (after st (finds.Dropped size)) fs front e w.others
stand_in s st (finds.End ∷ fs) front e w = stand_in s st fs front e w.others
stand_in s st (finds.Bad y at ∷ fs) front e w = stand_in s st fs front e w.others
stand_in s st (finds.Tail at ∷ fs) front e w = rw (w.ends refl) (All-nil (λ k. HasBytesAt (front ++ (found_bytes s (finds.Tail at) ++ [])) k.to (entry_bytes s k)))

-- kept entries have no gaps
pub no_gaps : EntriesHaveNoGaps
no_gaps s = record {
  lie = lie_in s start (found_in s) (found_walked s);
  sum = length_in s start (found_in s) (found_walked s);
  stand = stand_in s start (found_in s) [] refl (found_walked s);
}

-- ---- the CIE of an FDE

-- a CIE that was met is one of the kept entries; the way from it is no longer in the kept bytes than in the input
pub record Known (done : List KeptEntry) (at to : ℕ) (c : Cie) : Type 0 where
  pub entry : KeptEntry
  pub listed : Contains done entry
  pub is_cie : entry.id ≡ 0
  pub from : entry.from ≡ c.from
  pub new : entry.to ≡ c.to
  pub before : c.to < to
  pub shrinks : to + c.from ≤ c.to + at

cie_holds : (P : Cie → Type 0) (x c : ℕ) (cs : List Cie) → All P cs → cie_at x cs ≡ Some c → P (record { from = x; to = c })
cie_holds P x c [] a h = cc
cie_holds P x c (d ∷ ds) a h =
    elim (cases_Bool (d.from == x)) [
      | inl t ↦
          (let e : d.from ≡ x = eqb-true d.from x t in
          let g = rw t at h in
          let m : d.to ≡ c = cc in
          subst (λ (y : ℕ). P (record { from = y; to = c })) e (subst (λ (y : ℕ). P (record { from = d.from; to = y })) m (All-head P d ds a)))
      | inr f ↦ cie_holds P x c ds (All-tail P d ds a) (rw f at h)
    ]

cie_behind : (P : Cie → Type 0) (at id c : ℕ) (cs : List Cie) → All P cs → cie_back at id cs ≡ Some c → (id ≤ at) × P (record { from = at - id; to = c })
cie_behind P at id c cs a h =
    elim (cases_Bool (nat_le id at)) [
      | inl t ↦ (leb-true id at t, cie_holds P (at - id) c cs a (rw t at h))
      | inr f ↦ (let g = rw f at h in cc)
    ]

leads_here : (s : Frames) (st : State) (k : KeptEntry) (done whole : List KeptEntry) → KeptFacts s st k → All (Known done st.at st.to) st.cies → ((j : KeptEntry) → Contains done j → Contains whole j) → LeadsToItsCie s whole k
leads_here s st k done whole h a more =
    elim h.links [
      | inl z ↦ inl (rw h.from z.zero, z.is)
      | inr l ↦ (
          let d = cie_behind (Known done st.at st.to) (st.at + 4) (number_at s.bytes (st.at + 4) 4) l.cie st.cies a l.met in
          let x = d.1 in
          let within = d.0 in
          let f = x.from in
          let t = x.new in
          let b = x.before in
          let g = x.shrinks in
          let i = l.is in
          let kf = h.from in
          let kt = h.to in
          inr (rw h.from (record {
            cie = x.entry;
            listed = more x.entry x.listed;
            is_cie = x.is_cie;
            ahead = omega (arith, t, b, kt);
            before = omega (arith, f, within);
            after = omega (arith, t, b, i, kt);
            shorter = omega (arith, g, b, i, within);
          })))
    ]

known_further : (done more : List KeptEntry) (at to at2 to2 : ℕ) (c : Cie) → to ≤ to2 → to2 + at ≤ to + at2 → ((j : KeptEntry) → Contains done j → Contains more j) → Known done at to c → Known more at2 to2 c
known_further done more at to at2 to2 c h n m k = record {
  entry = k.entry;
  listed = m k.entry k.listed;
  is_cie = k.is_cie;
  from = k.from;
  new = k.new;
  before = let b = k.before in omega arith;
  shrinks = let b = k.shrinks in omega arith;
}

known_behind : (s : Frames) (st : State) (k : KeptEntry) (done : List KeptEntry) → KeptFacts s st k → st.to ≤ st.at → All (Known done st.at st.to) st.cies → All (Known (done ++ k ∷ []) (st.at + k.size) (st.to + k.size)) (state_after st k).cies
known_behind s st k done h w a =
    let P : Cie → Type 0 = Known (done ++ k ∷ []) (st.at + k.size) (st.to + k.size) in
    let old : All P st.cies = λ i d l. known_further done (done ++ k ∷ []) st.at st.to (st.at + k.size) (st.to + k.size) (get_or st.cies i d) (omega arith) (omega arith) (λ j m. Contains-left done (k ∷ []) j m) (a i d l) in
    let least = h.least in
    let f = h.from in
    let t = h.to in
    elim (cases_Bool (k.id == 0)) [
      | inl z ↦ rw z (All-append P st.cies _ old
          (All-cons P (record { from = k.from; to = k.to }) []
          (record {
            entry = k;
            listed = Contains-right done (k ∷ []) k (0, omega arith, refl);
            is_cie = eqb-true k.id 0 z;
            from = refl;
            new = refl;
            before = omega (arith, t, least);
            shrinks = omega (arith, t, f);
          })
          (All-nil P)))
      | inr n ↦ rw n old
    ]

leads_in : (s : Frames) (st : State) (fs : List Found) (done : List KeptEntry) → st.to ≤ st.at → All (Known done st.at st.to) st.cies → IsWalked s st fs → All (LeadsToItsCie s (done ++ flat_map kept_of fs)) (flat_map kept_of fs)
leads_in s st [] done m a w = All-nil (LeadsToItsCie s (done ++ []))
leads_in s st (finds.Kept k ∷ fs) done m a w =
    let ks = flat_map kept_of fs in
    All-cons (LeadsToItsCie s (done ++ k ∷ ks)) k ks
    (leads_here s st k done (done ++ k ∷ ks) w.facts a (λ j c. Contains-left done (k ∷ ks) j c))
    (λ i d l. subst (λ (xs : List KeptEntry). LeadsToItsCie s xs (get_or ks i d)) (append_assoc done (k ∷ []) ks) (leads_in s (state_after st k) fs (done ++ k ∷ []) (omega arith) (known_behind s st k done w.facts m a) w.others i d l))
leads_in s st (finds.Dropped size ∷ fs) done m a w =
    leads_in s (after st (finds.Dropped size)) fs done (omega arith) (λ i d l. known_further done done st.at st.to (st.at + size) st.to (get_or st.cies i d) (omega arith) (omega arith) (λ j c. c) (a i d l)) w.others
leads_in s st (finds.End ∷ fs) done m a w = leads_in s st fs done m a w.others
leads_in s st (finds.Bad y at ∷ fs) done m a w = leads_in s st fs done m a w.others
leads_in s st (finds.Tail at ∷ fs) done m a w = leads_in s st fs done m a w.others

pub leads_all : (s : Frames) → All (LeadsToItsCie s (kept_in s)) (kept_in s)
leads_all s = leads_in s start (found_in s) [] (omega arith) (All-nil (Known [] 0 0)) (found_walked s)
