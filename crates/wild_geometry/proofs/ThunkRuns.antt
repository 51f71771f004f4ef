-- Thunks stand behind the sections of their files in the primary part, apart from each other and beside all sections.
use Rattle.wild_geometry.proofs.Common.{◌≡◌, ℕ, ◌+◌, ◌*◌, ◌<◌, ◌≤◌, ◌⊎◌, inl, inr, ◌==◌, nat_le, Bool, true, false, ◌&&◌, if◌then◌else◌, List, [], ◌∷◌, ◌++◌, length, get_or, All, AllPairs, Option, Some, None, flat_map, refl, sym, arith, subst, Result, Ok, Err, cases_Bool, and_parts, leb-true, eqb-true, append-nil, All-nil, All-cons, All-head, All-tail, All-weaker, All-append, AllPairs-cons, AllPairs-nil, AllPairs-append, All-append-left, All-append-right, InputSection, File, Group, Thunk, Layout, total, has_range_bytes, given, thunk_size, thunks_of, section_misplaced, sections_in_ranges}
use Rattle.wild_plan_rules.specs.Contents.{ends_of, parts_placed}
use Rattle.wild_plan_rules.specs.SlotPlaces.{and_then, walk}
use Rattle.wild_plan_rules.specs.Thunks.{is_used, next_code, are_consecutive_from, block_step, section_step, file_step, or_next, misplaced_from}
use Rattle.wild_plan_rules.proofs.BlockLemmas.{length-ends_of, get_or-ends_of}
use Rattle.wild_geometry.proofs.RunLemmas.{sections_in, Owns, From, To, Run-from_group, each_part_placed}

-- the thunks of a group, and all, in the order of processing
abbrev pub thunks_in : Layout → Group → List Thunk
thunks_in l g = flat_map (thunks_of l) g.files

abbrev pub all_thunks : Layout → List Thunk
all_thunks l = flat_map (thunks_in l) l.groups

-- the thunk stands there
pub record LiesFrom (low high : ℕ) (t : Thunk) : Type 0 where
  pub from : low ≤ t.address
  pub to : t.address + thunk_size ≤ high

abbrev pub Ahead : Thunk → Thunk → Type 0
Ahead t u = t.address + thunk_size ≤ u.address

-- a section that owns bytes of the part ends before the thunk, or begins behind it
abbrev pub SectionThunkApart : Layout → ℕ → InputSection → Thunk → Type 0
SectionThunkApart l part s t = Owns l part s → (s.address + s.size ≤ t.address) ⊎ (t.address + thunk_size ≤ s.address)

-- sections that own bytes of the part, and thunks, stand from low to high, each thunk beside all others
pub record Spread (l : Layout) (part low high : ℕ) (ss : List InputSection) (ts : List Thunk) : Type 0 where
  pub grows : low ≤ high
  pub from : All (From l part low) ss
  pub to : All (To l part high) ss
  pub within : All (LiesFrom low high) ts
  pub ascend : AllPairs Ahead ts
  pub beside : All (λ s. All (SectionThunkApart l part s) ts) ss

Spread-none : (l : Layout) (part at : ℕ) → Spread l part at at [] []
Spread-none l part at = record { grows = omega arith; from = All-nil (From l part at); to = All-nil (To l part at); within = All-nil (LiesFrom at at); ascend = AllPairs-nil Ahead; beside = All-nil (λ s. All (SectionThunkApart l part s) []) }

Spread-append : (l : Layout) (part a b c : ℕ) (ss us : List InputSection) (ts vs : List Thunk) → Spread l part a b ss ts → Spread l part b c us vs → Spread l part a c (ss ++ us) (ts ++ vs)
Spread-append l part a b c ss us ts vs r q =
    let g = r.grows in
    let k = q.grows in
    record {
      grows = omega arith;
      from = All-append (From l part a) ss us r.from (All-weaker (From l part b) (From l part a) (λ s f o. let z = f o in omega arith) us q.from);
      to = All-append (To l part c) ss us (All-weaker (To l part b) (To l part c) (λ s f o. let z = f o in omega arith) ss r.to) q.to;
      within = All-append (LiesFrom a c) ts vs (All-weaker (LiesFrom a b) (LiesFrom a c) (λ t f. let y = f.to in record { from = f.from; to = omega arith }) ts r.within) (All-weaker (LiesFrom b c) (LiesFrom a c) (λ t f. let y = f.from in record { from = omega arith; to = f.to }) vs q.within);
      ascend = AllPairs-append Ahead ts vs r.ascend q.ascend (All-weaker (LiesFrom a b) (λ t. All (Ahead t) vs) (λ t f. All-weaker (LiesFrom b c) (Ahead t) (λ u e. let y = f.to in let z = e.from in omega arith) vs q.within) ts r.within);
      beside = All-append (λ s. All (SectionThunkApart l part s) (ts ++ vs)) ss us
          (λ i s m. All-append (SectionThunkApart l part (get_or ss i s)) ts vs (r.beside i s m) (All-weaker (LiesFrom b c) (SectionThunkApart l part (get_or ss i s)) (λ t e o. inl (let y = r.to i s m o in let z = e.from in omega arith)) vs q.within))
          (λ i s m. All-append (SectionThunkApart l part (get_or us i s)) ts vs (All-weaker (LiesFrom a b) (SectionThunkApart l part (get_or us i s)) (λ t e o. inr (let y = q.from i s m o in let z = e.to in omega arith)) ts r.within) (q.beside i s m));
    }

-- ---- steps

-- a step, and the others behind it
record Walked {S X : Type 0} (step : S → X → Result S ℕ) (s : S) (x : X) (xs : List X) (end : S) : Type 0 where
  next : S
  first : step s x ≡ Ok next
  others : walk step next xs ≡ Ok end

Walked-from_walk : {S X : Type 0} (step : S → X → Result S ℕ) (s : S) (x : X) (xs : List X) (end : S) → walk step s (x ∷ xs) ≡ Ok end → Walked step s x xs end
unfolding walk
Walked-from_walk step s x xs end h = by step s x xs end (step s x) refl h
  where
    by : {S X : Type 0} (step : S → X → Result S ℕ) (s : S) (x : X) (xs : List X) (end : S) (r : Result S ℕ) → step s x ≡ r → and_then r (λ t. walk step t xs) ≡ Ok end → Walked step s x xs end
    by step s x xs end (Err e) is h = cc
    by step s x xs end (Ok t) is h = record { next = t; first = is; others = h }

walk_nil : {S X : Type 0} (step : S → X → Result S ℕ) (s end : S) → walk step s [] ≡ Ok end → s ≡ end
unfolding walk
walk_nil step s end h = cc

-- ---- sections

-- where the free place is behind a section
record Passed (l : Layout) (start limit end : ℕ) (s : InputSection) : Type 0 where
  low : end ≤ limit
  spread : Spread l l.primary_part start end (s ∷ []) []

abbrev passed : ℕ → Result ℕ ℕ
passed at = Ok at

same_place : (a b : ℕ) → passed a ≡ passed b → a ≡ b
same_place a b h = cc

-- of the two answers of a test it is the first
ok_if : (b : Bool) (end n group : ℕ) → (if b then Ok n else Err group) ≡ Ok end → (b ≡ true) × (n ≡ end)
ok_if true end n group h = (refl, cc)
ok_if false end n group h = cc

Passed-from_step : (l : Layout) (group start limit end : ℕ) (s : InputSection) → section_step l group start s ≡ Ok end → start ≤ limit → To l l.primary_part limit s → Passed l start limit end s
Passed-from_step l group start limit end s h le ends =
    elim (cases_Bool (has_range_bytes l s && s.part == l.primary_part)) [
      | inl own ↦
          (let a = ok_if (nat_le start s.address) end (s.address + s.size) group (rw own at h) in
          let low = leb-true _ _ a.0 in
          let same = a.1 in
          let high = ends own in
          record {
            low = omega arith;
            spread = record {
              grows = omega arith;
              from = All-cons (From l l.primary_part start) s [] (λ o. low) (All-nil (From l l.primary_part start));
              to = All-cons (To l l.primary_part end) s [] (λ o. omega arith) (All-nil (To l l.primary_part end));
              within = All-nil (LiesFrom start end);
              ascend = AllPairs-nil Ahead;
              beside = All-cons (λ x. All (SectionThunkApart l l.primary_part x) []) s [] (All-nil (SectionThunkApart l l.primary_part s)) (All-nil (λ x. All (SectionThunkApart l l.primary_part x) []));
            };
          })
      | inr other ↦
          (let same = same_place start end (rw other at h) in
          record {
            low = omega arith;
            spread = record {
              grows = omega arith;
              from = All-cons (From l l.primary_part start) s [] (λ o. cc) (All-nil (From l l.primary_part start));
              to = All-cons (To l l.primary_part end) s [] (λ o. cc) (All-nil (To l l.primary_part end));
              within = All-nil (LiesFrom start end);
              ascend = AllPairs-nil Ahead;
              beside = All-cons (λ x. All (SectionThunkApart l l.primary_part x) []) s [] (All-nil (SectionThunkApart l l.primary_part s)) (All-nil (λ x. All (SectionThunkApart l l.primary_part x) []));
            };
          })
    ]

Spread-from_sections : (l : Layout) (group start limit end : ℕ) (ss : List InputSection) → walk (section_step l group) start ss ≡ Ok end → start ≤ limit → All (To l l.primary_part limit) ss → (end ≤ limit) × Spread l l.primary_part start end ss []
Spread-from_sections l group start limit end [] h le ends =
    let e = walk_nil (section_step l group) start end h in
    (omega arith, subst (λ (n : ℕ). Spread l l.primary_part start n [] []) e (Spread-none l l.primary_part start))
Spread-from_sections l group start limit end (s ∷ ss) h le ends =
    let w = Walked-from_walk (section_step l group) start s ss end h in
    let p = Passed-from_step l group start limit w.next s w.first le (All-head (To l l.primary_part limit) s ss ends) in
    let rest = Spread-from_sections l group w.next limit end ss w.others p.low (All-tail (To l l.primary_part limit) s ss ends) in
    (rest.0, Spread-append l l.primary_part start w.next end (s ∷ []) ss [] [] p.spread rest.1)

-- ---- thunks

-- thunks one behind the other
Spread-from_thunks : (l : Layout) (part at end : ℕ) (ts : List Thunk) → are_consecutive_from at ts ≡ true → end ≡ at + thunk_size * length ts → Spread l part at end [] ts
Spread-from_thunks l part at end [] h e =
    let same : at ≡ end = omega arith in
    subst (λ (n : ℕ). Spread l part at n [] []) same (Spread-none l part at)
Spread-from_thunks l part at end (t ∷ ts) h e =
    let both = and_parts (t.address == at) (are_consecutive_from (at + thunk_size) ts) h in
    let here = eqb-true _ _ both.0 in
    let one : Spread l part at (at + thunk_size) [] (t ∷ []) = record {
      grows = omega arith;
      from = All-nil (From l part at);
      to = All-nil (To l part (at + thunk_size));
      within = All-cons (LiesFrom at (at + thunk_size)) t [] (record { from = omega arith; to = omega arith }) (All-nil (LiesFrom at (at + thunk_size)));
      ascend = AllPairs-cons Ahead t [] (All-nil (Ahead t)) (AllPairs-nil Ahead);
      beside = All-nil (λ s. All (SectionThunkApart l part s) (t ∷ []));
    } in
    Spread-append l part at (at + thunk_size) end [] [] (t ∷ []) ts one (Spread-from_thunks l part (at + thunk_size) end ts both.1 (omega arith))

-- from a lower place on
Spread-lower : (l : Layout) (part low at end : ℕ) (ts : List Thunk) → low ≤ at → Spread l part at end [] ts → Spread l part low end [] ts
Spread-lower l part low at end ts le r = record {
  grows = let g = r.grows in omega arith;
  from = All-nil (From l part low);
  to = r.to;
  within = All-weaker (LiesFrom at end) (LiesFrom low end) (λ t f. let y = f.from in record { from = omega arith; to = f.to }) ts r.within;
  ascend = r.ascend;
  beside = r.beside;
}

pub unused : (b : List Thunk) → is_used b ≡ false → b ≡ []
unused b h = elim (cases_Bool (length b == 0)) [ inl e ↦ none b (eqb-true (length b) 0 e) | inr f ↦ cc (rw f at h) ]
  where
    none : (b : List Thunk) → length b ≡ 0 → b ≡ []
    none [] e = refl
    none (t ∷ ts) e = absurd (omega (arith, e))

pub next_code-up : (n : ℕ) → n ≤ next_code n
next_code-up n = omega arith

Spread-from_block : (l : Layout) (part block limit at end : ℕ) (ts : List Thunk) → block_step block limit at ts ≡ Ok end → at ≤ limit → (end ≤ limit) × Spread l part at end [] ts
Spread-from_block l part block limit at end ts h le =
    elim (cases_Bool (is_used ts)) [
      | inl used ↦
          (let a = ok_if (are_consecutive_from (next_code at) ts && nat_le (next_code at + thunk_size * length ts) limit) end (next_code at + thunk_size * length ts) block (rw used at h) in
          let both = and_parts (are_consecutive_from (next_code at) ts) (nat_le (next_code at + thunk_size * length ts) limit) a.0 in
          let high = leb-true _ _ both.1 in
          let same = a.1 in
          (omega arith, Spread-lower l part at (next_code at) end ts (next_code-up at) (Spread-from_thunks l part (next_code at) end ts both.0 (sym same))))
      | inr none ↦
          (let same = same_place at end (rw none at h) in
          let nothing = unused ts none in
          (omega arith, subst (λ (xs : List Thunk). Spread l part at end [] xs) (sym nothing) (subst (λ (n : ℕ). Spread l part at n [] []) same (Spread-none l part at))))
    ]

-- ---- files and groups

-- one step, and the one behind it
record InTurn {S : Type 0} (first : Result S ℕ) (next : S → Result S ℕ) (end : S) : Type 0 where
  between : S
  is : first ≡ Ok between
  rest : next between ≡ Ok end

in_turn : {S : Type 0} (first : Result S ℕ) (next : S → Result S ℕ) (end : S) → and_then first next ≡ Ok end → InTurn first next end
in_turn (Err e) next end h = cc
in_turn (Ok s) next end h = record { between = s; is = refl; rest = h }

Spread-from_file : (l : Layout) (group limit start end : ℕ) (f : File) → file_step l group limit start f ≡ Ok end → start ≤ limit → All (To l l.primary_part limit) (sections_in_ranges l f) → (end ≤ limit) × Spread l l.primary_part start end (sections_in_ranges l f) (thunks_of l f)
Spread-from_file l group limit start end f h le ends =
    let w = in_turn (walk (section_step l group) start (sections_in_ranges l f)) (λ n. block_step f.thunk_block limit n (thunks_of l f)) end h in
    let a = Spread-from_sections l group start limit w.between (sections_in_ranges l f) w.is le ends in
    let b = Spread-from_block l l.primary_part f.thunk_block limit w.between end (thunks_of l f) w.rest a.0 in
    (b.0, subst (λ (ss : List InputSection). Spread l l.primary_part start end ss (thunks_of l f)) (append-nil (sections_in_ranges l f)) (Spread-append l l.primary_part start w.between end (sections_in_ranges l f) [] [] (thunks_of l f) a.1 b.1))

Spread-from_files : (l : Layout) (group limit start end : ℕ) (fs : List File) → walk (file_step l group limit) start fs ≡ Ok end → start ≤ limit → All (To l l.primary_part limit) (flat_map (sections_in_ranges l) fs) → (end ≤ limit) × Spread l l.primary_part start end (flat_map (sections_in_ranges l) fs) (flat_map (thunks_of l) fs)
Spread-from_files l group limit start end [] h le ends =
    let e = walk_nil (file_step l group limit) start end h in
    (omega arith, subst (λ (n : ℕ). Spread l l.primary_part start n [] []) e (Spread-none l l.primary_part start))
Spread-from_files l group limit start end (f ∷ fs) h le ends =
    let w = Walked-from_walk (file_step l group limit) start f fs end h in
    let a = Spread-from_file l group limit start w.next f w.first le (All-append-left (To l l.primary_part limit) (sections_in_ranges l f) (flat_map (sections_in_ranges l) fs) ends) in
    let b = Spread-from_files l group limit w.next end fs w.others a.0 (All-append-right (To l l.primary_part limit) (sections_in_ranges l f) (flat_map (sections_in_ranges l) fs) ends) in
    (b.0, Spread-append l l.primary_part start w.next end (sections_in_ranges l f) (flat_map (sections_in_ranges l) fs) (thunks_of l f) (flat_map (thunks_of l) fs) a.1 b.1)

Spread-longer : (l : Layout) (part low end high : ℕ) (ss : List InputSection) (ts : List Thunk) → end ≤ high → Spread l part low end ss ts → Spread l part low high ss ts
Spread-longer l part low end high ss ts le r = record {
  grows = let g = r.grows in omega arith;
  from = r.from;
  to = All-weaker (To l part end) (To l part high) (λ s f o. let g = f o in omega arith) ss r.to;
  within = All-weaker (LiesFrom low end) (LiesFrom low high) (λ t f. let y = f.to in record { from = f.from; to = omega arith }) ts r.within;
  ascend = r.ascend;
  beside = r.beside;
}

-- the first of two answers is Ok
both_pass : (r : Result ℕ ℕ) (rest : Option ℕ) → or_next r rest ≡ None → ((n : ℕ) × (r ≡ Ok n)) × (rest ≡ None)
both_pass (Err i) rest h = cc
both_pass (Ok n) rest h = ((n, refl), h)

none_if : (b : Bool) (rest : Option ℕ) (i : ℕ) → (if b then rest else Some i) ≡ None → (b ≡ true) × (rest ≡ None)
none_if true rest i h = (refl, h)
none_if false rest i h = cc

pub Spread-from_groups : (l : Layout) (last start : ℕ) (starts : List ℕ) (i j : ℕ) (gs : List Group) → section_misplaced l starts i gs ≡ None → misplaced_from l last start j gs ≡ None → l.primary_part < length starts → start ≡ get_or starts l.primary_part 0 → (end : ℕ) → end ≡ start + total (given l.primary_part) gs
    → Spread l l.primary_part start end (flat_map (sections_in l) gs) (flat_map (thunks_in l) gs)
Spread-from_groups l last start starts i j [] h w m is end e =
    let same : start ≡ end = omega arith in
    subst (λ (n : ℕ). Spread l l.primary_part start n [] []) same (Spread-none l l.primary_part start)
Spread-from_groups l last start starts i j (g ∷ gs) h w m is end e =
    let k = l.primary_part in
    let next = start + given k g in
    let placed = none_if (parts_placed l g 0 starts) (section_misplaced l (ends_of g 0 starts) (i + 1) gs) i h in
    let within = none_if (nat_le next last) (or_next (walk (file_step l j next) start g.files) (misplaced_from l last next (j + 1) gs)) j w in
    let here = both_pass (walk (file_step l j next) start g.files) (misplaced_from l last next (j + 1) gs) within.1 in
    let run = Run-from_group l k (get_or starts k 0) (get_or starts k 0 + given k g) g (omega arith) (each_part_placed l g 0 starts placed.0 k k (omega arith) m) in
    let limit : get_or starts k 0 + given k g ≡ next = omega arith in
    let first = Spread-from_files l j next start here.0.0 g.files here.0.1 (omega arith) (subst (λ (n : ℕ). All (To l k n) (sections_in l g)) limit run.to) in
    let n = length-ends_of g 0 starts in
    let own : 0 + k ≡ k = omega arith in
    let z : get_or (ends_of g 0 starts) k 0 ≡ get_or starts k 0 + given k g = rw own at (get_or-ends_of g 0 starts k m) in
    let rest = Spread-from_groups l last next (ends_of g 0 starts) (i + 1) (j + 1) gs placed.1 here.1 (omega arith) (omega arith) end (omega arith) in
    Spread-append l k start next end (sections_in l g) (flat_map (sections_in l) gs) (thunks_in l g) (flat_map (thunks_in l) gs) (Spread-longer l k start here.0.0 next (sections_in l g) (thunks_in l g) first.0 first.1) rest

-- those of the groups behind the first stand behind what that is given
pub Thunks-after : (l : Layout) (last start : ℕ) (starts : List ℕ) (i j : ℕ) (g : Group) (gs : List Group) → section_misplaced l starts i (g ∷ gs) ≡ None → misplaced_from l last start j (g ∷ gs) ≡ None → l.primary_part < length starts → start ≡ get_or starts l.primary_part 0
    → All (λ (t : Thunk). start + given l.primary_part g ≤ t.address) (flat_map (thunks_in l) gs)
Thunks-after l last start starts i j g gs h w m is =
    let k = l.primary_part in
    let next = start + given k g in
    let placed = none_if (parts_placed l g 0 starts) (section_misplaced l (ends_of g 0 starts) (i + 1) gs) i h in
    let within = none_if (nat_le next last) (or_next (walk (file_step l j next) start g.files) (misplaced_from l last next (j + 1) gs)) j w in
    let here = both_pass (walk (file_step l j next) start g.files) (misplaced_from l last next (j + 1) gs) within.1 in
    let n = length-ends_of g 0 starts in
    let own : 0 + k ≡ k = omega arith in
    let z : get_or (ends_of g 0 starts) k 0 ≡ get_or starts k 0 + given k g = rw own at (get_or-ends_of g 0 starts k m) in
    let rest = Spread-from_groups l last next (ends_of g 0 starts) (i + 1) (j + 1) gs placed.1 here.1 (omega arith) (omega arith) (next + total (given k) gs) refl in
    All-weaker (LiesFrom next (next + total (given k) gs)) (λ (t : Thunk). next ≤ t.address) (λ t f. f.from) (flat_map (thunks_in l) gs) rest.within
