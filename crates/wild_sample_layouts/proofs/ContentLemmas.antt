-- The clauses on shares and input sections hold of the plan of n groups.
use Rattle.std.proofs.Common.{◌≡◌, ℕ, zero, suc, ◌+◌, ◌*◌, ◌-◌, ◌≤◌, ◌==◌, inl, inr, Bool, true, false, [], ◌∷◌, refl, sym, ap, ◌∙◌, arith}
use Rattle.std.specs.Prelude.{Some, None, Ok}
use Rattle.std.proofs.lemmas.Bool.{cases_Bool, le-leb, ne_eqb, eq-eqb}
use Rattle.wild_types.specs.Lists.{first_failing, total}
use Rattle.wild_types.specs.Lookups.{bit}
use Rattle.wild_plan_rules.specs.Contents.{each_section, share_mismatch, has_share_for_each_part, part_placed, file_placed_in, parts_placed, section_misplaced, length_fits, discarded_is_empty, part_is_raw, frames_part_fits, files_named_once, sorted_named_once, file_leaves_front, front_is_free, allocation_agrees, bytes_take_room}
use Rattle.wild_types.specs.FilePlaces.{given, group_positions_fit, first_misplaced_file}
use Rattle.wild_plan_rules.specs.ClauseTests.{check_shares, check_inputs}
use Rattle.wild_sample_layouts.specs.PlanOfGroups.{made_section, made_files, made_group, made_parts, plan_of_groups}
use Rattle.wild_sample_layouts.specs.Laws.{IsCount}
use Rattle.wild_sample_layouts.proofs.ListLemmas.{made_from, none_fails, total_same, length_made}
use Rattle.wild_sample_layouts.proofs.FileLemmas.{all_files, through_files}
use Rattle.wild_sample_layouts.proofs.PlaceLemmas.{sections_pass}

-- ---- clause 7

-- a sum of one number and of equal ones behind it
total_first : {X : Type 0} (t : X → ℕ) (f : ℕ → X) (c d m : ℕ) → t (f 0) ≡ c → ((k : ℕ) → 1 ≤ k → t (f k) ≡ d) → 1 ≤ m → total t (made_from f 0 m) ≡ c + d * (m - 1)
total_first t f c d zero first later some = absurd (omega arith)
total_first t f c d (suc m) first later some =
    let rest = total_same t f d 1 m (λ k low high. later k low) in
    let e : d * (suc m - 1) ≡ d * m = ap (λ (k : ℕ). d * k) (omega arith) in
    omega arith

-- the bytes of a part that group i gives, by its place
later_given : (n part d i : ℕ) → given part (made_group n 1) ≡ d → 1 ≤ i → given part (made_group n i) ≡ d
later_given n part d i h low = let e = ne_eqb i 0 (λ z. omega arith) in rw e h

pub given_total : (n part c d : ℕ) → IsCount n → given part (made_group n 0) ≡ c → given part (made_group n 1) ≡ d → total (given part) (made_from (made_group n) 0 n) ≡ c + d * (n - 1)
given_total n part c d h first later = total_first (given part) (made_group n) c d n first (λ k low. later_given n part d k later low) h.some

shares_add_up : (n : ℕ) → IsCount n → share_mismatch (made_from (made_group n) 0 n) 0 (made_parts n) ≡ None
shares_add_up n h =
    let some = h.some in
    let a = given_total n 0 64 0 h refl refl in
    let b = given_total n 1 56 0 h refl refl in
    let c = given_total n 2 64 64 h refl refl in
    let d = given_total n 3 17 0 h refl refl in
    let e = given_total n 4 192 0 h refl refl in
    let a' : total (given 0) (made_from (made_group n) 0 n) ≡ 64 = omega arith in
    let b' : total (given 1) (made_from (made_group n) 0 n) ≡ 56 = omega arith in
    let c' : total (given 2) (made_from (made_group n) 0 n) ≡ 64 * n = omega arith in
    let d' : total (given 3) (made_from (made_group n) 0 n) ≡ 17 = omega arith in
    let e' : total (given 4) (made_from (made_group n) 0 n) ≡ 192 = omega arith in
    let f = eq-eqb (64 * n) (64 * n) refl in
    simp (a', b', c', d', e', f) refl

each_has_shares : (n i : ℕ) → has_share_for_each_part 5 (made_group n i) ≡ true
each_has_shares n i = elim (cases_Bool (i == 0)) [ inl a ↦ rw a refl | inr a ↦ rw a refl ]

files_fit : (n i : ℕ) → group_positions_fit (i == 0) (i + 1 == n) (made_files n i) ≡ true
files_fit n i =
    elim (cases_Bool (i == 0)) [
      | inl a ↦ elim (cases_Bool (i + 1 == n)) [ inl b ↦ simp (a, b) refl | inr b ↦ simp (a, b) refl ]
      | inr a ↦ elim (cases_Bool (i + 1 == n)) [ inl b ↦ simp (a, b) refl | inr b ↦ simp (a, b) refl ]
    ]

-- group a is the last where none follows
same_end : (a m n : ℕ) → a + suc m ≡ n → (m == 0) ≡ (a + 1 == n)
same_end a zero n e = sym (eq-eqb (a + 1) n (omega arith))
same_end a (suc m) n e = ne_eqb (suc m) 0 (λ h. omega arith) ∙ sym (ne_eqb (a + 1) n (λ h. omega arith))

none_misplaced : (n a m : ℕ) (first : Bool) → a + m ≡ n → first ≡ (a == 0) → first_misplaced_file first a (made_from (made_group n) a m) ≡ None
none_misplaced n a zero first e f = refl
none_misplaced n a (suc m) first e f =
    let long = length_made (made_group n) (a + 1) m in
    let last = same_end a m n e in
    let next = sym (ne_eqb (a + 1) 0 (λ h. omega arith)) in
    rw (f, long, last, files_fit n a) (none_misplaced n (a + 1) m false (omega arith) next)

pub shares_hold : (n : ℕ) → IsCount n → check_shares (plan_of_groups n) ≡ Ok tt
unfolding check_shares plan_of_groups
shares_hold n c =
    let a = shares_add_up n c in
    let b = none_fails (has_share_for_each_part 5) (made_group n) 0 0 n (λ k low high. each_has_shares n k) in
    let d = none_misplaced n 0 n true (omega arith) refl in
    rw (a, b, d) refl

-- ---- clause 8

other_placed : (n i part start end : ℕ) → (2 == part) ≡ false → part_placed (plan_of_groups n) part start end (made_group n i) ≡ true
unfolding made_section plan_of_groups
other_placed n i part start end h = rw (through_files (file_placed_in (plan_of_groups n) part end) start n i (λ t. refl) (λ t. refl) (Some start) (rw h refl)) refl

own_placed : (n i start end : ℕ) → start ≡ 4194432 + 64 * i → end ≡ start + 64 → part_placed (plan_of_groups n) 2 start end (made_group n i) ≡ true
unfolding made_section plan_of_groups
own_placed n i start end e f =
    let a = le-leb start (4194432 + 64 * i) (omega arith) in
    let b = le-leb (4194432 + 64 * i + 64) end (omega arith) in
    rw (through_files (file_placed_in (plan_of_groups n) 2 end) start n i (λ t. refl) (λ t. refl) (Some (4194432 + 64 * i + 64)) (rw (a, b) refl)) refl

later_positions_fit : (n a m : ℕ) → 1 ≤ a → section_misplaced (plan_of_groups n) (4194368 ∷ 4194424 ∷ (4194432 + 64 * a) ∷ 17 ∷ 192 ∷ []) a (made_from (made_group n) a m) ≡ None
later_positions_fit n a zero low = refl
later_positions_fit n a (suc m) low =
    let z = ne_eqb a 0 (λ h. omega arith) in
    let g2 : given 2 (made_group n a) ≡ 64 = rw z refl in
    let g0 : given 0 (made_group n a) ≡ 0 = rw z refl in
    let g1 : given 1 (made_group n a) ≡ 0 = rw z refl in
    let g3 : given 3 (made_group n a) ≡ 0 = rw z refl in
    let g4 : given 4 (made_group n a) ≡ 0 = rw z refl in
    let p0 = other_placed n a 0 4194368 (4194368 + given 0 (made_group n a)) refl in
    let p1 = other_placed n a 1 4194424 (4194424 + given 1 (made_group n a)) refl in
    let p2 = own_placed n a (4194432 + 64 * a) (4194432 + 64 * a + given 2 (made_group n a)) refl (omega arith) in
    let p3 = other_placed n a 3 17 (17 + given 3 (made_group n a)) refl in
    let p4 = other_placed n a 4 192 (192 + given 4 (made_group n a)) refl in
    let all : parts_placed (plan_of_groups n) (made_group n a) 0 (4194368 ∷ 4194424 ∷ (4194432 + 64 * a) ∷ 17 ∷ 192 ∷ []) ≡ true = rw (p0, p1, p2, p3, p4) refl in
    let on : 4194432 + 64 * a + 64 ≡ 4194432 + 64 * (a + 1) = omega arith in
    rw (all, g0, g1, g2, g3, g4, on) (later_positions_fit n (a + 1) m (omega arith))

first_placed : (n m : ℕ) → section_misplaced (plan_of_groups n) (4194304 ∷ 4194368 ∷ 4194432 ∷ 0 ∷ 0 ∷ []) 0 (made_from (made_group n) 0 m) ≡ None
first_placed n zero = refl
first_placed n (suc m) =
    let p0 = other_placed n 0 0 4194304 4194368 refl in
    let p1 = other_placed n 0 1 4194368 4194424 refl in
    let p2 = own_placed n 0 4194432 4194496 refl refl in
    let p3 = other_placed n 0 3 0 17 refl in
    let p4 = other_placed n 0 4 0 192 refl in
    let all : parts_placed (plan_of_groups n) (made_group n 0) 0 (4194304 ∷ 4194368 ∷ 4194432 ∷ 0 ∷ 0 ∷ []) ≡ true = rw (p0, p1, p2, p3, p4) refl in
    rw all (later_positions_fit n 1 m (omega arith))

lengths_fit : (n : ℕ) → first_failing (each_section length_fits) 0 (made_from (made_group n) 0 n) ≡ None
unfolding made_section
lengths_fit n = sections_pass length_fits n (λ i h. refl)

discarded_empty : (n : ℕ) → first_failing (each_section discarded_is_empty) 0 (made_from (made_group n) 0 n) ≡ None
unfolding made_section
discarded_empty n = sections_pass discarded_is_empty n (λ i h. refl)

parts_raw : (n : ℕ) → first_failing (each_section (part_is_raw (plan_of_groups n))) 0 (made_from (made_group n) 0 n) ≡ None
unfolding made_section plan_of_groups
parts_raw n = sections_pass (part_is_raw (plan_of_groups n)) n (λ i h. refl)

allocations_agree : (n : ℕ) → first_failing (each_section (allocation_agrees (plan_of_groups n))) 0 (made_from (made_group n) 0 n) ≡ None
unfolding made_section plan_of_groups bit
allocations_agree n = sections_pass (allocation_agrees (plan_of_groups n)) n (λ i h. refl)

frames_placed : (n : ℕ) → first_failing (each_section (frames_part_fits (plan_of_groups n))) 0 (made_from (made_group n) 0 n) ≡ None
unfolding made_section plan_of_groups
frames_placed n = sections_pass (frames_part_fits (plan_of_groups n)) n (λ i h. refl)

-- there are no sorted sections
files_named : (n i a : ℕ) → files_named_once (plan_of_groups n) i 0 (made_files n a) ≡ true
unfolding made_section
files_named n i a =
    elim (cases_Bool (a == 0)) [
      | inl z ↦ elim (cases_Bool (a + 1 == n)) [ inl b ↦ simp (z, b) refl | inr b ↦ simp (z, b) refl ]
      | inr z ↦ elim (cases_Bool (a + 1 == n)) [ inl b ↦ simp (z, b) refl | inr b ↦ simp (z, b) refl ]
    ]

none_sorted : (n i a m : ℕ) → sorted_named_once (plan_of_groups n) i (made_from (made_group n) a m) ≡ None
none_sorted n i a zero = refl
none_sorted n i a (suc m) = rw (files_named n i a) (none_sorted n (i + 1) (a + 1) m)

-- no merged strings stand anywhere
front_free : (n : ℕ) → front_is_free (plan_of_groups n) ≡ true
unfolding made_section plan_of_groups
front_free zero = refl
front_free (suc m) = all_files (file_leaves_front (plan_of_groups (suc m))) (suc m) 0 refl refl refl

bytes_have_room : (n : ℕ) → first_failing (each_section (bytes_take_room (plan_of_groups n))) 0 (made_from (made_group n) 0 n) ≡ None
unfolding made_section plan_of_groups
bytes_have_room n = sections_pass (bytes_take_room (plan_of_groups n)) n (λ i h. refl)

pub inputs_hold : (n : ℕ) → check_inputs (plan_of_groups n) ≡ Ok tt
unfolding check_inputs plan_of_groups
inputs_hold n = rw (first_placed n n, none_sorted n 0 0 n, lengths_fit n, frames_placed n, discarded_empty n, parts_raw n, front_free n, allocations_agree n, bytes_have_room n) refl
