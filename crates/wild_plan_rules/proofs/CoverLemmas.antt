-- Segments one behind the other have every byte of a section exactly where each byte lies in one of them.
use Rattle.std.proofs.Common.{◌≡◌, ℕ, zero, suc, ◌+◌, ◌-◌, ◌<◌, ◌≤◌, inl, inr, ◌==◌, nat_lt, nat_le, Bool, true, false, not, ◌&&◌, ◌||◌, if◌then◌else◌, List, [], ◌∷◌, take, drop, length, get_or, All, Some, None, refl, sym, ap, ◌∙◌, subst, arith, length-drop, drop-cons}
use Rattle.std.proofs.lemmas.List.{take_all}
use Rattle.std.specs.List.{list_any}
use Rattle.std.proofs.lemmas.Bool.{cases_Bool, and_parts, and_from, leb-true, ltb-true, le-leb, lt-leb, lt-ltb, eqb-true, eqb-false, or_right}
use Rattle.std.proofs.lemmas.Bool.Decides.{nat_tests, same_from_decides}
use Rattle.std.proofs.lemmas.List.Elements.{All-head, All-tail, All-more, All-weaker}
use Rattle.wild_words.proofs.Basics.{or_other}
use Rattle.wild_records.specs.Abi.Segment.{pt_load}
use Rattle.wild_types.specs.declared.layout.Layout.{Layout}
use Rattle.wild_types.specs.declared.section.Section.{Section}
use Rattle.wild_types.specs.declared.section.Segment.{Segment}
use Rattle.wild_plan_rules.specs.declared.side.ImageOrMemory.{ImageOrMemory}
use Rattle.wild_plan_rules.specs.declared.side.ImageOrMemory.TheVariants as side
use Rattle.wild_plan_rules.specs.Segments.{congruent, segment_follows, segment_out_of_order, size_on, at_equal_distance, has_byte, must_be_loaded, all_below, bytes_are_loaded}
use Rattle.wild_types.specs.Lists.{first_failing}
use Rattle.wild_types.specs.Lookups.{fills_file}
use Rattle.wild_plan_rules.specs.SegmentCoverage.{loads_nothing_from, covers}

-- ---- tests of numbers below n

pub all_below_each : (t : ℕ → Bool) (n : ℕ) → all_below t n ≡ true → (k : ℕ) → k < n → t k ≡ true
all_below_each t zero h k lt = absurd (omega arith)
all_below_each t (suc n) h k lt =
    let both = and_parts (t n) (all_below t n) h in
    elim (cases_Bool (k == n)) [
      | inl e ↦ (let same : n ≡ k = sym (eqb-true k n e) in subst (λ (m : ℕ). t m ≡ true) same both.0)
      | inr f ↦ (let other : k ≡ n → ⊥ = eqb-false k n f in all_below_each t n both.1 k (omega arith))
    ]

pub all_below_from : (t : ℕ → Bool) (n : ℕ) → ((k : ℕ) → k < n → t k ≡ true) → all_below t n ≡ true
all_below_from t zero h = refl
all_below_from t (suc n) h = and_from (t n) (all_below t n) (h n (omega arith)) (all_below_from t n (λ k lt. h k (omega arith)))

-- ---- one segment

-- what a segment says that has a byte
record Has (on : ImageOrMemory) (l : Layout) (s : Section) (a : ℕ) (g : Segment) : Type 0 where
  loaded : (g.kind == pt_load) ≡ true
  from : g.address ≤ a
  to : a < g.address + size_on on g
  level : (not (fills_file l s) || at_equal_distance s g) ≡ true

Has-from_test : (on : ImageOrMemory) (l : Layout) (s : Section) (a : ℕ) (g : Segment) → has_byte on l s a g ≡ true → Has on l s a g
Has-from_test on l s a g h =
    let b = and_parts (g.kind == pt_load && (nat_le g.address a && nat_lt a (g.address + size_on on g))) (not (fills_file l s) || at_equal_distance s g) h in
    let c = and_parts (g.kind == pt_load) (nat_le g.address a && nat_lt a (g.address + size_on on g)) b.0 in
    let d = and_parts (nat_le g.address a) (nat_lt a (g.address + size_on on g)) c.1 in
    record { loaded = c.0; from = leb-true _ _ d.0; to = ltb-true _ _ d.1; level = b.1 }

test-from_Has : (on : ImageOrMemory) (l : Layout) (s : Section) (a : ℕ) (g : Segment) → Has on l s a g → has_byte on l s a g ≡ true
test-from_Has on l s a g h =
    let run = and_from (nat_le g.address a) (nat_lt a (g.address + size_on on g)) (le-leb _ _ h.from) (lt-ltb _ _ h.to) in
    and_from (g.kind == pt_load && (nat_le g.address a && nat_lt a (g.address + size_on on g))) _ (and_from (g.kind == pt_load) _ h.loaded run) h.level

-- where a byte lies the later ones up to the end lie too
more_bytes : (on : ImageOrMemory) (l : Layout) (s : Section) (a b : ℕ) (g : Segment) → has_byte on l s a g ≡ true → a ≤ b → b < g.address + size_on on g → has_byte on l s b g ≡ true
more_bytes on l s a b g h le lt =
    let k = Has-from_test on l s a g h in
    let from = k.from in
    test-from_Has on l s b g (record { loaded = k.loaded; from = omega arith; to = lt; level = k.level })

no_byte : (on : ImageOrMemory) (l : Layout) (s : Section) (a : ℕ) (g : Segment) → (Has on l s a g → ⊥) → has_byte on l s a g ≡ false
no_byte on l s a g h =
    elim (cases_Bool (has_byte on l s a g)) [
      | inl t ↦ absurd (h (Has-from_test on l s a g t))
      | inr f ↦ f
    ]

-- ---- segments that are passed

pub covers_done : (on : ImageOrMemory) (l : Layout) (s : Section) (a : ℕ) (gs : List Segment) → s.address + s.size ≤ a → covers on l s a gs ≡ true
covers_done on l s a [] h = le-leb _ _ h
covers_done on l s a (g ∷ gs) h = let t = le-leb (s.address + s.size) a h in rw t

covers_passed : (on : ImageOrMemory) (l : Layout) (s : Section) (a n : ℕ) (gs : List Segment) → All (λ g. loads_nothing_from a g ≡ true) (take n gs) → covers on l s a (drop n gs) ≡ covers on l s a gs
covers_passed on l s a zero gs h = refl
covers_passed on l s a (suc n) [] h = refl
covers_passed on l s a (suc n) (g ∷ gs) h =
    let here = All-head (λ x. loads_nothing_from a x ≡ true) g (take n gs) h in
    let again = covers_passed on l s a n gs (All-tail (λ x. loads_nothing_from a x ≡ true) g (take n gs) h) in
    elim (cases_Bool (nat_le (s.address + s.size) a)) [
      | inl t ↦ (let done = covers_done on l s a (drop n gs) (leb-true _ _ t) in rw t done)
      | inr f ↦ rw (f, here) again
    ]

-- ---- the order of the segments

-- what the order says of a segment, and of those behind it
record Step (page end : ℕ) (g : Segment) (gs : List Segment) : Type 0 where
  next : ℕ
  last : ℕ
  rest : segment_out_of_order page next last gs ≡ None
  grows : end ≤ last
  starts : (g.kind == pt_load) ≡ true → end ≤ g.address
  sized : (g.kind == pt_load) ≡ true → g.file_size ≤ g.mem_size
  ends : (g.kind == pt_load) ≡ true → g.address + g.mem_size ≤ last

Step-from_order : (page i end : ℕ) (g : Segment) (gs : List Segment) → segment_out_of_order page i end (g ∷ gs) ≡ None → Step page end g gs
Step-from_order page i end g gs h =
    elim (cases_Bool (g.kind == pt_load)) [
      | inl t ↦ loaded t (rw t at h)
      | inr f ↦ record { next = i + 1; last = end; rest = rw f at h; grows = omega arith; starts = λ e. absurd (cc); sized = λ e. absurd (cc); ends = λ e. absurd (cc) }
    ]
  where
    loaded : (g.kind == pt_load) ≡ true → (if segment_follows page end g then segment_out_of_order page (i + 1) (g.address + g.mem_size) gs else Some i) ≡ None → Step page end g gs
    loaded t h =
        elim (cases_Bool (segment_follows page end g)) [
          | inl u ↦
              (let a = and_parts (nat_le end g.address && nat_le g.file_size g.mem_size) (congruent page g.address g.offset) u in
              let b = and_parts (nat_le end g.address) (nat_le g.file_size g.mem_size) a.0 in
              let from = leb-true _ _ b.0 in
              let size = leb-true _ _ b.1 in
              record { next = i + 1; last = g.address + g.mem_size; rest = rw u at h; grows = omega arith; starts = λ e. from; sized = λ e. size; ends = λ e. omega arith })
          | inr f ↦ cc (rw f at h)
        ]

-- a segment has no more bytes on either side than in memory
size_on-most : (on : ImageOrMemory) (g : Segment) → g.file_size ≤ g.mem_size → size_on on g ≤ g.mem_size
size_on-most side.Memory g h = omega arith
size_on-most side.File g h = h

-- before the segments there is no byte
none_before : (page i end : ℕ) (on : ImageOrMemory) (l : Layout) (s : Section) (a : ℕ) (gs : List Segment) → segment_out_of_order page i end gs ≡ None → a < end → list_any (has_byte on l s a) gs ≡ false
none_before page i end on l s a [] h lt = refl
none_before page i end on l s a (g ∷ gs) h lt =
    let k = Step-from_order page i end g gs h in
    let grows = k.grows in
    let here = no_byte on l s a g (λ b. let from = b.from in let starts = k.starts b.loaded in omega arith) in
    rw here (none_before page k.next k.last on l s a gs k.rest (omega arith))

passed_none : (on : ImageOrMemory) (l : Layout) (s : Section) (a b : ℕ) (g : Segment) → loads_nothing_from a g ≡ true → ((g.kind == pt_load) ≡ true → g.file_size ≤ g.mem_size) → a ≤ b → has_byte on l s b g ≡ false
passed_none on l s a b g p sized le =
    no_byte on l s b g (λ h. let most = size_on-most on g (sized h.loaded) in let to = h.to in let far = lt-ltb a (g.address + g.mem_size) (omega arith) in let t = h.loaded in cc (rw (t, far) at p))

not_passed : (a : ℕ) (g : Segment) → loads_nothing_from a g ≡ false → ((g.kind == pt_load) ≡ true) × (a < g.address + g.mem_size)
not_passed a g h = by (g.kind == pt_load) (nat_lt a (g.address + g.mem_size)) refl refl h
  where
    by : (t u : Bool) → (g.kind == pt_load) ≡ t → nat_lt a (g.address + g.mem_size) ≡ u → not (t && u) ≡ false → ((g.kind == pt_load) ≡ true) × (a < g.address + g.mem_size)
    by true true e f h = (e, ltb-true _ _ f)
    by true false e f h = cc
    by false u e f h = cc

-- ---- both ways

covers_each : (on : ImageOrMemory) (l : Layout) (s : Section) (a : ℕ) (gs : List Segment) → covers on l s a gs ≡ true → (b : ℕ) → a ≤ b → b < s.address + s.size → list_any (has_byte on l s b) gs ≡ true
covers_each on l s a [] h b le lt = absurd (let e = leb-true _ _ h in omega arith)
covers_each on l s a (g ∷ gs) h b le lt =
    let more : nat_le (s.address + s.size) a ≡ false = lt-leb _ _ (omega arith) in
    elim (cases_Bool (loads_nothing_from a g)) [
      | inl t ↦ or_right (has_byte on l s b g) _ (covers_each on l s a gs (rw (more, t) at h) b le lt)
      | inr f ↦
          elim (cases_Bool (has_byte on l s a g)) [
            | inl u ↦ within u (covers_each on l s (g.address + size_on on g) gs (rw (more, f, u) at h) b)
            | inr n ↦ cc (rw (more, f, n) at h)
          ]
    ]
  where
    within : has_byte on l s a g ≡ true → (g.address + size_on on g ≤ b → b < s.address + s.size → list_any (has_byte on l s b) gs ≡ true) → list_any (has_byte on l s b) (g ∷ gs) ≡ true
    within u k =
        elim (cases_Bool (nat_lt b (g.address + size_on on g))) [
          | inl near ↦ (let here = more_bytes on l s a b g u le (ltb-true _ _ near) in rw here)
          | inr far ↦ or_right (has_byte on l s b g) _ (k (grind (arith, nat_tests)) lt)
        ]

covers_all : (page i end : ℕ) (on : ImageOrMemory) (l : Layout) (s : Section) (a : ℕ) (gs : List Segment) → segment_out_of_order page i end gs ≡ None → ((b : ℕ) → a ≤ b → b < s.address + s.size → list_any (has_byte on l s b) gs ≡ true) → covers on l s a gs ≡ true
covers_all page i end on l s a [] order h =
    elim (cases_Bool (nat_le (s.address + s.size) a)) [
      | inl t ↦ t
      | inr f ↦ cc (h a (omega arith) (grind (arith, nat_tests)))
    ]
covers_all page i end on l s a (g ∷ gs) order h =
    let k = Step-from_order page i end g gs order in
    elim (cases_Bool (nat_le (s.address + s.size) a)) [
      | inl t ↦ rw t
      | inr f ↦
          elim (cases_Bool (loads_nothing_from a g)) [
            | inl p ↦ rw (f, p) (covers_all page k.next k.last on l s a gs k.rest (λ b le lt. or_other (has_byte on l s b g) _ (h b le lt) (passed_none on l s a b g p k.sized le)))
            | inr n ↦ (let asked : a < s.address + s.size = grind (arith, nat_tests) in rw (f, n) (here k asked (not_passed a g n) (covers_all page k.next k.last on l s (g.address + size_on on g) gs k.rest)))
          ]
    ]
  where
    here : (k : Step page end g gs) → a < s.address + s.size → ((g.kind == pt_load) ≡ true) × (a < g.address + g.mem_size) → (((b : ℕ) → g.address + size_on on g ≤ b → b < s.address + s.size → list_any (has_byte on l s b) gs ≡ true) → covers on l s (g.address + size_on on g) gs ≡ true) → (if has_byte on l s a g then covers on l s (g.address + size_on on g) gs else false) ≡ true
    here k asked p again =
        elim (cases_Bool (has_byte on l s a g)) [
          | inl u ↦
              (let to = (Has-from_test on l s a g u).to in
              rw u (again (λ b le lt. or_other (has_byte on l s b g) _ (h b (omega arith) lt) (no_byte on l s b g (λ q. let far = q.to in omega arith)))))
          | inr n ↦
              (let ends = k.ends p.0 in
              let near = p.1 in
              let later = none_before page k.next k.last on l s a gs k.rest (omega arith) in
              let any = h a (omega arith) asked in
              cc (rw (n, later) at any))
        ]

-- ---- the whole section

loaded_by_covers : (page : ℕ) (on : ImageOrMemory) (l : Layout) (s : Section) (gs : List Segment) → segment_out_of_order page 0 0 gs ≡ None → covers on l s s.address gs ≡ all_below (λ k. list_any (has_byte on l s (s.address + k)) gs) s.size
loaded_by_covers page on l s gs order =
    let each : (b : ℕ) → (k : ℕ) → s.address + k ≡ b → list_any (has_byte on l s (s.address + k)) gs ≡ true → list_any (has_byte on l s b) gs ≡ true = λ b k e. subst (λ (n : ℕ). list_any (has_byte on l s n) gs ≡ true) e in
    same_from_decides {P = (b : ℕ) → s.address ≤ b → b < s.address + s.size → list_any (has_byte on l s b) gs ≡ true}
    (covers on l s s.address gs)
    (all_below (λ k. list_any (has_byte on l s (s.address + k)) gs) s.size)
    (covers_each on l s s.address gs, covers_all page 0 0 on l s s.address gs order) (
      λ h b le lt. each b (b - s.address) (omega arith) (all_below_each (λ k. list_any (has_byte on l s (s.address + k)) gs) s.size h (b - s.address) (omega arith)),
      λ h. all_below_from (λ k. list_any (has_byte on l s (s.address + k)) gs) s.size (λ k lt. h (s.address + k) (omega arith) (omega arith)),
    )

-- behind segments that are passed
loaded_where_covered : (page : ℕ) (on : ImageOrMemory) (l : Layout) (s : Section) (n : ℕ) (gs : List Segment) → segment_out_of_order page 0 0 gs ≡ None → All (λ g. loads_nothing_from s.address g ≡ true) (take n gs) → covers on l s s.address (drop n gs) ≡ all_below (λ k. list_any (has_byte on l s (s.address + k)) gs) s.size
loaded_where_covered page on l s n gs order passed = covers_passed on l s s.address n gs passed ∙ loaded_by_covers page on l s gs order

-- what is passed at an address is passed behind it
pub passed_later : (a b : ℕ) (gs : List Segment) → a ≤ b → All (λ g. loads_nothing_from a g ≡ true) gs → All (λ g. loads_nothing_from b g ≡ true) gs
passed_later a b gs le h = All-weaker (λ g. loads_nothing_from a g ≡ true) (λ g. loads_nothing_from b g ≡ true) (λ g p. at g p) gs h
  where
    at : (g : Segment) → loads_nothing_from a g ≡ true → loads_nothing_from b g ≡ true
    at g p =
        elim (cases_Bool (loads_nothing_from b g)) [
          | inl t ↦ t
          | inr f ↦ (let q = not_passed b g f in let t = q.0 in let near = q.1 in let far = lt-ltb a (g.address + g.mem_size) (omega arith) in cc (rw (t, far) at p))
        ]

pub passed_more : (a n : ℕ) (gs : List Segment) (g : Segment) → n < length gs → All (λ x. loads_nothing_from a x ≡ true) (take n gs) → true ≡ loads_nothing_from a (get_or gs n g) → All (λ x. loads_nothing_from a x ≡ true) (take (n + 1) gs)
passed_more a n gs g lt h t = All-more (λ x. loads_nothing_from a x ≡ true) gs n g lt h (sym t)

loaded_is : (page : ℕ) (on : ImageOrMemory) (l : Layout) (s : Section) (n : ℕ) (gs : List Segment) → segment_out_of_order page 0 0 gs ≡ None → All (λ g. loads_nothing_from s.address g ≡ true) (take n gs) → must_be_loaded on l s ≡ true → bytes_are_loaded on l gs s ≡ covers on l s s.address (drop n gs)
loaded_is page on l s n gs order passed asked = let same = loaded_where_covered page on l s n gs order passed in rw asked (sym same)

loaded_unasked : (on : ImageOrMemory) (l : Layout) (s : Section) (gs : List Segment) → must_be_loaded on l s ≡ false → bytes_are_loaded on l gs s ≡ true
loaded_unasked on l s gs h = rw h

-- ---- one section behind the other

from_place : {X : Type 0} (t : X → Bool) (xs : List X) (i : ℕ) (x : X) → i < length xs → x ≡ get_or xs i x → first_failing t (i + 1) (drop i xs) ≡ (if t x then first_failing t (i + 1 + 1) (drop (i + 1) xs) else Some (i + 1))
from_place {X = X} t xs i x lt e =
    let more : suc i ≡ i + 1 = omega arith in
    let cut : drop i xs ≡ get_or xs i x ∷ drop (i + 1) xs = subst (λ (n : ℕ). drop i xs ≡ get_or xs i x ∷ drop n xs) more (drop-cons xs i x lt) in
    let cut' : drop i xs ≡ x ∷ drop (i + 1) xs = subst (λ (y : X). drop i xs ≡ y ∷ drop (i + 1) xs) (sym e) cut in
    rw cut' (by (t x) refl)
  where
    by : (b : Bool) → t x ≡ b → first_failing t (i + 1) (x ∷ drop (i + 1) xs) ≡ (if b then first_failing t (i + 1 + 1) (drop (i + 1) xs) else Some (i + 1))
    by true e = rw e
    by false e = rw e

-- a section that is asked for, with the segments from some place on
pub asked_step : (page : ℕ) (on : ImageOrMemory) (l : Layout) (gs : List Segment) (n : ℕ) (later : List Section) (i : ℕ) (s : Section) (b : Bool) → segment_out_of_order page 0 0 gs ≡ None → n ≤ length gs → All (λ g. loads_nothing_from s.address g ≡ true) (take n gs) → i < length later → s ≡ get_or later i s → must_be_loaded on l s ≡ true → b ≡ covers on l s s.address (take (length gs - n) (drop n gs))
    → first_failing (bytes_are_loaded on l gs) (i + 1) (drop i later) ≡ (if b then first_failing (bytes_are_loaded on l gs) (i + 1 + 1) (drop (i + 1) later) else Some (i + 1))
asked_step page on l gs n later i s b order there passed lt e asked is =
    let whole = take_all (length gs - n) (drop n gs) (simp length-drop (omega arith)) in
    let same = loaded_is page on l s n gs order passed asked in
    let at = from_place (bytes_are_loaded on l gs) later i s lt e in
    let is' : b ≡ bytes_are_loaded on l gs s = is ∙ ap (covers on l s s.address) whole ∙ sym same in
    rw is' at

-- one that is not
pub unasked_step : (on : ImageOrMemory) (l : Layout) (gs : List Segment) (later : List Section) (i : ℕ) (s : Section) → i < length later → s ≡ get_or later i s → must_be_loaded on l s ≡ false → first_failing (bytes_are_loaded on l gs) (i + 1) (drop i later) ≡ first_failing (bytes_are_loaded on l gs) (i + 1 + 1) (drop (i + 1) later)
unasked_step on l gs later i s lt e asked =
    let at = from_place (bytes_are_loaded on l gs) later i s lt e in
    let is = loaded_unasked on l s gs asked in
    rw is at at
