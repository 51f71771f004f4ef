-- Where parts end low, and their shares add up to them, all ranges of groups end low.
use Rattle.std.proofs.Common.{◌≡◌, ℕ, zero, suc, ◌+◌, ◌-◌, ◌^◌, ◌<◌, ◌≤◌, inl, inr, true, List, [], ◌∷◌, None, Ok, length, take, drop, get_or, sym, ap, ◌∙◌, arith}
use Rattle.std.specs.Prelude.{◌&&◌, ◌==◌}
use Rattle.std.specs.Int.{is_power_of_two}
use Rattle.std.specs.List.{slice_range}
use Rattle.std.proofs.lemmas.Bool.{cases_Bool, and_parts, leb-true, eqb-true}
use Rattle.std.proofs.lemmas.List.{take-map, drop-map, get_or-take, get_or-drop, drop_more}
use Rattle.wild_types.specs.declared.part.Part.{Part}
use Rattle.wild_types.specs.declared.file.Group.{Group}
use Rattle.wild_types.specs.declared.layout.Layout.{Layout}
use Rattle.wild_types.specs.Lists.{first_failing, total}
use Rattle.wild_types.specs.FilePlaces.{given}
use Rattle.wild_plan_rules.specs.Places.{ends_low, part_fits}
use Rattle.wild_plan_rules.specs.Contents.{addresses, ends_of, share_mismatch}
use Rattle.wild_plan_rules.specs.ClauseTests.{check_sizes, check_shares}
use Rattle.wild_plan_rules.proofs.BlockLemmas.{length-ends_of, get_or-ends_of}
use Rattle.wild_plan_rules.proofs.ClauseLemmas.{None-from_fails, first_holds, rest_holds}

fits_next : (j : ℕ) (p : Part) (ps : List Part) → first_failing part_fits j (p ∷ ps) ≡ None → (part_fits p ≡ true) × (first_failing part_fits (j + 1) ps ≡ None)
fits_next j p ps h = elim (cases_Bool (part_fits p)) [ inl t ↦ (t, rw t at h) | inr f ↦ cc (rw f at h) ]

adds_up : (gs : List Group) (i : ℕ) (p : Part) (ps : List Part) → share_mismatch gs i (p ∷ ps) ≡ None → (total (given i) gs ≡ p.size) × (share_mismatch gs (i + 1) ps ≡ None)
adds_up gs i p ps h = elim (cases_Bool (total (given i) gs == p.size)) [ inl t ↦ (eqb-true _ _ t, rw t at h) | inr f ↦ cc (rw f at h) ]

room_at : (gs : List Group) (i j : ℕ) (ps : List Part) (k : ℕ) → share_mismatch gs i ps ≡ None → first_failing part_fits j ps ≡ None → k < length ps → get_or (addresses ps) k 0 + total (given (i + k)) gs ≤ 2 ^ 62
room_at gs i j [] k m s lt = absurd (omega arith)
room_at gs i j (p ∷ ps) zero m s lt =
    let e : i + 0 ≡ i = omega arith in
    let a = (adds_up gs i p ps m).0 in
    let b = and_parts (is_power_of_two p.align && ends_low p.address p.size) (ends_low p.offset p.size) (fits_next j p ps s).0 in
    let c = leb-true _ _ (and_parts (is_power_of_two p.align) (ends_low p.address p.size) b.0).1 in
    rw (e, a) c
room_at gs i j (p ∷ ps) (suc k) m s lt =
    let e : i + suc k ≡ i + 1 + k = omega arith in
    rw e (room_at gs (i + 1) (j + 1) ps k (adds_up gs i p ps m).1 (fits_next j p ps s).1 (omega arith))

room_of : (l : Layout) → check_sizes l ≡ Ok tt → check_shares l ≡ Ok tt → (k : ℕ) → k < length l.parts → get_or (addresses l.parts) k 0 + total (given k) l.groups ≤ 2 ^ 62
unfolding check_sizes check_shares
room_of l sizes shares k lt =
    let e : 0 + k ≡ k = omega arith in
    let m = None-from_fails 7 _ (first_holds _ _ shares) in
    let s = None-from_fails 1 _ (first_holds _ _ (rest_holds _ _ sizes)) in
    rw e at (room_at l.groups 0 0 l.parts k m s lt)

-- the same for a block of parts
room_in : (l : Layout) (part end : ℕ) → check_sizes l ≡ Ok tt → check_shares l ≡ Ok tt → part ≤ end → end ≤ length l.parts → (k : ℕ) → k < end - part → get_or (addresses (slice_range l.parts part end)) k 0 + total (given (part + k)) l.groups < 2 ^ 64
room_in l part end sizes shares from to k lt =
    let room = room_of l sizes shares (part + k) (omega arith) in
    let cut : addresses (slice_range l.parts part end) ≡ take (end - part) (drop part (addresses l.parts)) = sym (ap (take (end - part)) (drop-map (λ (p : Part). p.address) part l.parts) ∙ take-map (λ (p : Part). p.address) (end - part) (drop part l.parts)) in
    let same : get_or (addresses (slice_range l.parts part end)) k 0 ≡ get_or (addresses l.parts) (part + k) 0 = ap (λ (xs : List ℕ). get_or xs k 0) cut ∙ get_or-take (end - part) (drop part (addresses l.parts)) k 0 lt ∙ get_or-drop part (addresses l.parts) k 0 in
    omega (arith, room, same)

pub room_in_block : (l : Layout) (parts : List Part) (part end : ℕ) → parts ≡ l.parts → check_sizes l ≡ Ok tt → check_shares l ≡ Ok tt → part ≤ end → end ≤ length parts → (k : ℕ) → k < end - part → get_or (addresses (slice_range parts part end)) k 0 + total (given (part + k)) l.groups < 2 ^ 64
room_in_block l parts part end same sizes shares from to k lt = rw same (room_in l part end sizes shares from (rw same at to) k lt)

-- a part ends low
low_at : (j : ℕ) (ps : List Part) (k : ℕ) (p : Part) → first_failing part_fits j ps ≡ None → k < length ps → p ≡ get_or ps k p → p.address + p.size ≤ 2 ^ 62
low_at j [] k p s lt is = absurd (omega arith)
low_at j (q ∷ ps) zero p s lt is =
    let b = and_parts (is_power_of_two q.align && ends_low q.address q.size) (ends_low q.offset q.size) (fits_next j q ps s).0 in
    rw is (leb-true _ _ (and_parts (is_power_of_two q.align) (ends_low q.address q.size) b.0).1)
low_at j (q ∷ ps) (suc k) p s lt is = low_at (j + 1) ps k p (fits_next j q ps s).1 (omega arith) is

pub part_ends_low : (l : Layout) (ps : List Part) (k : ℕ) (p : Part) → ps ≡ l.parts → check_sizes l ≡ Ok tt → k < length ps → p ≡ get_or ps k p → p.address + p.size < 2 ^ 64
unfolding check_sizes
part_ends_low l ps k p same sizes lt is =
    let s : first_failing part_fits 0 l.parts ≡ None = None-from_fails 1 _ (first_holds _ _ (rest_holds _ _ sizes)) in
    let low : p.address + p.size ≤ 2 ^ 62 = low_at 0 ps k p (ap (first_failing part_fits 0) same ∙ s) lt is in
    omega (arith, low)

-- ---- one group further

room_next : (gs : List Group) (i n start : ℕ) (g : Group) → i < length gs → g ≡ get_or gs i g → start + total (given n) (drop i gs) < 2 ^ 64 → start + given n g + total (given n) (drop (i + 1) gs) < 2 ^ 64
room_next gs i n start g lt e h =
    let k = rw (drop_more gs i g lt, ← e) at h in
    omega (arith, k)

-- the group's own share has room
pub room_here : (gs : List Group) (i n start : ℕ) (g : Group) → i < length gs → g ≡ get_or gs i g → start + total (given n) (drop i gs) < 2 ^ 64 → start + given n g < 2 ^ 64
room_here gs i n start g lt e h =
    let r = room_next gs i n start g lt e h in
    omega (arith, r)

-- so have those behind it
pub room_behind : (gs : List Group) (i part : ℕ) (starts next : List ℕ) (g : Group) → i < length gs → g ≡ get_or gs i g → next ≡ ends_of g part starts → ((k : ℕ) → k < length starts → get_or starts k 0 + total (given (part + k)) (drop i gs) < 2 ^ 64) → (k : ℕ) → k < length next → get_or next k 0 + total (given (part + k)) (drop (i + 1) gs) < 2 ^ 64
room_behind gs i part starts next g lt e behind room k few =
    let long : length next ≡ length starts = ap length behind ∙ length-ends_of g part starts in
    let within : k < length starts = omega (arith, long, few) in
    let end : get_or next k 0 ≡ get_or starts k 0 + given (part + k) g = ap (λ (xs : List ℕ). get_or xs k 0) behind ∙ get_or-ends_of g part starts k within in
    let r = room_next gs i (part + k) (get_or starts k 0) g lt e (room k within) in
    omega (arith, end, r)
