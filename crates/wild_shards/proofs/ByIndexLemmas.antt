-- The ranges that are answered follow one another, and each field lies in its part.
use Rattle.std.proofs.Common.{◌≡◌, ℕ, zero, suc, ◌+◌, ◌-◌, ◌<◌, ◌≤◌, List, length, take, drop, map, min, get_or, refl, sym, ap, ◌∙◌, arith, subst, ◌⊎◌, inl, inr, Option, Some, None}
use Rattle.std.specs.Prelude.{Result, Ok, Err, IfOk, IfSome, option_map}
use Rattle.std.specs.List.{range_with_len}
use Rattle.std.proofs.lemmas.Bool.{cases_lt, cases_eq, eq-eqb, ne_eqb}
use Rattle.std.proofs.lemmas.List.{length-drop, length-take-le, get_or-take, get_or-drop, get_or_default, drop-drop, drop_all}
use Rattle.wild_shards.proofs.CutLemmas.{cut-le, cut-none, cut-all, cut-rises}
use Rattle.wild_types.specs.declared.input.InputRelocation.{InputRelocation}
use Rattle.wild_shards.specs.declared.ranges.DebugRelocationShardRange.{DebugRelocationShardRange}
use Rattle.wild_shards.specs.InOrder.{Rule, width_of, AreSmall, FieldWithin, Takes, Tiles}
use Rattle.wild_shards.specs.Ranges.{cut, shard, output_start, output_end, AreSorted, AreWithin, AreShards, AreRanges, Fits}
use Rattle.wild_shards.specs.ByIndex.{nothing, relocation_at, offset_in, size_in}

-- where the output of a shard begins and ends, by cases
start-cases : (offset : ℕ → ℕ) (count n i : ℕ) → ((i ≡ 0) × (output_start offset count n i ≡ 0)) ⊎ ((0 < i) × (output_start offset count n i ≡ offset (cut count n i)))
start-cases offset count n i =
    elim (cases_eq i 0) [
      | inl e ↦ inl (e, rw (eq-eqb i 0 e) refl)
      | inr d ↦ inr (elim (cases_lt 0 i) [ inl l ↦ l | inr g ↦ absurd (d (omega (arith, g))) ], rw (ne_eqb i 0 d) refl)
    ]

end-cases : (offset : ℕ → ℕ) (count output n i : ℕ) → i < n → ((i + 1 ≡ n) × (output_end offset count output n i ≡ output)) ⊎ ((i + 1 < n) × (output_end offset count output n i ≡ offset (cut count n (i + 1))))
end-cases offset count output n i l =
    elim (cases_eq (i + 1) n) [
      | inl e ↦ inl (e, rw (eq-eqb (i + 1) n e) refl)
      | inr d ↦ inr (elim (cases_lt (i + 1) n) [ inl m ↦ m | inr g ↦ absurd (d (omega (arith, g, l))) ], rw (ne_eqb (i + 1) n d) refl)
    ]

-- no offset of a shard is before its part of the output
start-below : (offset : ℕ → ℕ) (count n i j : ℕ) → AreSorted offset count → cut count n i ≤ j → j < count → output_start offset count n i ≤ offset j
start-below offset count n i j sorted l m =
    elim (start-cases offset count n i) [
      | inl e ↦ (let z = e.1 in omega (arith, z))
      | inr e ↦ (let z = e.1 in let s = sorted (cut count n i) j l m in omega (arith, z, s))
    ]

-- and none is behind it
end-above : (offset : ℕ → ℕ) (count output n i j : ℕ) → AreSorted offset count → AreWithin offset count output → n ≤ count → i < n → j < cut count n (i + 1) → offset j ≤ output_end offset count output n i
end-above offset count output n i j sorted within few l m =
    let top : cut count n (i + 1) ≤ count = cut-le count n (i + 1) (omega (arith, l)) (omega (arith, l)) in
    elim (end-cases offset count output n i l) [
      | inl e ↦ (let z = e.1 in let w = within j (omega (arith, m, top)) in omega (arith, z, w))
      | inr e ↦
          (let z = e.1 in
          let more = e.0 in
          let up : cut count n (i + 1) < cut count n (i + 1 + 1) = cut-rises count n (i + 1) (omega (arith, l)) few in
          let all : cut count n (i + 1 + 1) ≤ count = cut-le count n (i + 1 + 1) (omega (arith, l)) (omega (arith, more)) in
          let s = sorted j (cut count n (i + 1)) (omega (arith, m)) (omega (arith, up, all)) in
          omega (arith, z, s))
    ]

-- a part ends in the output
end-within : (offset : ℕ → ℕ) (count output n i : ℕ) → AreWithin offset count output → n ≤ count → i < n → output_end offset count output n i ≤ output
end-within offset count output n i within few l =
    elim (end-cases offset count output n i l) [
      | inl e ↦ (let z = e.1 in omega (arith, z))
      | inr e ↦
          (let z = e.1 in
          let more = e.0 in
          let up : cut count n (i + 1) < cut count n (i + 1 + 1) = cut-rises count n (i + 1) (omega (arith, l)) few in
          let all : cut count n (i + 1 + 1) ≤ count = cut-le count n (i + 1 + 1) (omega (arith, l)) (omega (arith, more)) in
          let w = within (cut count n (i + 1)) (omega (arith, up, all)) in
          omega (arith, z, w))
    ]

-- a field is known to fit in the tail, and is too small before it to reach past the last offset
field-fits : (size : Option ℕ) (at low end last : ℕ) → width_of size ≤ 10 → low ≤ at → last ≤ end → (last < at + 10 → Fits end at size) → (low ≤ at) × (at + width_of size ≤ end)
field-fits None at low end last small l m tail = elim (cases_lt last (at + 10)) [ inl t ↦ absurd (tail t) | inr g ↦ (l, omega (arith, g, m)) ]
field-fits (Some s) at low end last small l m tail = elim (cases_lt last (at + 10)) [ inl t ↦ (let x = (tail t).1 in (l, omega (arith, x))) | inr g ↦ (l, omega (arith, small, g, m)) ]

-- each field of a shard lies in its part of the output
shard-fields : (rule : Rule) (rs : List InputRelocation) (output n i j : ℕ)
    → AreSmall rule → n ≤ length rs → AreShards (offset_in rs) (size_in rule rs) (length rs) output n
    → i < n → cut (length rs) n i ≤ j → j < cut (length rs) n (i + 1)
    → FieldWithin rule (output_start (offset_in rs) (length rs) n i) (output_end (offset_in rs) (length rs) output n i) (relocation_at rs j)
shard-fields rule rs output n i j small few h l low high =
    let count : ℕ = length rs in
    let top : cut count n (i + 1) ≤ count = cut-le count n (i + 1) (omega (arith, l)) (omega (arith, l)) in
    field-fits (size_in rule rs j) (offset_in rs j) (output_start (offset_in rs) count n i) (output_end (offset_in rs) count output n i) (offset_in rs (cut count n (i + 1) - 1))
    (small (relocation_at rs j))
    (start-below (offset_in rs) count n i j h.sorted low (omega (arith, high, top)))
    (end-above (offset_in rs) count output n i (cut count n (i + 1) - 1) h.sorted h.within few l (omega (arith, high)))
    (h.tails i l j low high)

shard-takes : (rule : Rule) (rs : List InputRelocation) (output n i base : ℕ)
    → AreSmall rule → n ≤ length rs → AreShards (offset_in rs) (size_in rule rs) (length rs) output n
    → i < n → base ≡ output_start (offset_in rs) (length rs) n i
    → Takes rule (shard (offset_in rs) (length rs) output n i) (drop (cut (length rs) n i) rs) base output
shard-takes rule rs output n i base small few h l e =
    let count : ℕ = length rs in
    let a : ℕ = cut count n i in
    let b : ℕ = cut count n (i + 1) in
    let rise : a < b = cut-rises count n i (omega (arith, l)) few in
    let top : b ≤ count = cut-le count n (i + 1) (omega (arith, l)) (omega (arith, l)) in
    let long : length (drop a rs) ≡ length rs - a = length-drop a rs in
    let s1 = start-below (offset_in rs) count n i a h.sorted (omega arith) (omega (arith, rise, top)) in
    let s2 = end-above (offset_in rs) count output n i a h.sorted h.within few l rise in
    record {
      begins = sym e;
      low = omega (arith, e, s1, s2);
      high = end-within (offset_in rs) count output n i h.within few l;
      rising = omega (arith, rise);
      many = omega (arith, long, top);
      fields = λ k d m.
          let short : length (take (b - a) (drop a rs)) ≡ b - a = length-take-le (b - a) (drop a rs) (omega (arith, long, top)) in
          let is : get_or (take (b - a) (drop a rs)) k d ≡ relocation_at rs (a + k) =
          get_or-take (b - a) (drop a rs) k d (omega (arith, m, short)) ∙ (get_or-drop a rs k d ∙ get_or_default rs (a + k) d nothing (omega (arith, m, short, top, rise))) in
          let f = shard-fields rule rs output n i (a + k) small few h l (omega arith) (omega (arith, m, short, rise)) in
          let g = subst (λ (c : ℕ). FieldWithin rule c (output_end (offset_in rs) count output n i) (relocation_at rs (a + k))) (sym e) f in
          subst (λ (r : InputRelocation). FieldWithin rule base (output_end (offset_in rs) count output n i) r) (sym is) g;
    }

tiles-from : (rule : Rule) (rs : List InputRelocation) (output n : ℕ) (m i base : ℕ)
    → AreSmall rule → n ≤ length rs → AreShards (offset_in rs) (size_in rule rs) (length rs) output n
    → i + m ≡ n → (0 < m → base ≡ output_start (offset_in rs) (length rs) n i) → (m ≡ 0 → base ≡ output)
    → Tiles rule (map (shard (offset_in rs) (length rs) output n) (range_with_len i m)) (drop (cut (length rs) n i) rs) base output
tiles-from rule rs output n zero i base small few h e s z =
    let two = h.several in
    let all = cut-all (length rs) n (omega (arith, two)) in
    let k : i ≡ n = omega (arith, e) in
    (drop_all (cut (length rs) n i) rs (rw (k, all) (omega arith)), z refl)
tiles-from rule rs output n (suc m) i base small few h e s z =
    let count : ℕ = length rs in
    let l : i < n = omega (arith, e) in
    let rise : cut count n i < cut count n (i + 1) = cut-rises count n i (omega (arith, l)) few in
    let sum : cut count n i + (cut count n (i + 1) - cut count n i) ≡ cut count n (i + 1) = omega (arith, rise) in
    let left : drop (cut count n (i + 1) - cut count n i) (drop (cut count n i) rs) ≡ drop (cut count n (i + 1)) rs = drop-drop (cut count n (i + 1) - cut count n i) (cut count n i) rs ∙ ap (λ (k : ℕ). drop k rs) sum in
    let rest = tiles-from rule rs output n m (i + 1) (output_end (offset_in rs) count output n i) small few h (omega (arith, e)) (λ p. next (offset_in rs) count output n i (omega (arith, e, p))) (λ p. last (offset_in rs) count output n i l (omega (arith, e, p))) in (
      shard-takes rule rs output n i base small few h l (s (omega arith)),
      subst (λ (qs : List InputRelocation). Tiles rule (map (shard (offset_in rs) count output n) (range_with_len (i + 1) m)) qs (output_end (offset_in rs) count output n i) output) (sym left) rest,
    )
  where
    last : (offset : ℕ → ℕ) (count output n i : ℕ) → i < n → i + 1 ≡ n → output_end offset count output n i ≡ output
    last offset count output n i l k = elim (end-cases offset count output n i l) [ inl e ↦ e.1 | inr e ↦ (let z = e.0 in absurd (omega (arith, z, k))) ]

    next : (offset : ℕ → ℕ) (count output n i : ℕ) → i + 1 < n → output_end offset count output n i ≡ output_start offset count n (i + 1)
    next offset count output n i l =
        elim (end-cases offset count output n i (omega (arith, l))) [
          | inl e ↦ (let z = e.0 in absurd (omega (arith, z, l)))
          | inr e ↦ elim (start-cases offset count n (i + 1)) [ inl f ↦ (let z = f.0 in absurd (omega (arith, z))) | inr f ↦ e.1 ∙ sym f.1 ]
        ]

ranges_tile : (rule : Rule) (rs : List InputRelocation) (output n : ℕ)
    → AreSmall rule → n ≤ length rs → AreShards (offset_in rs) (size_in rule rs) (length rs) output n
    → Tiles rule (map (shard (offset_in rs) (length rs) output n) (range_with_len 0 n)) rs 0 output
ranges_tile rule rs output n small few h =
    let two = h.several in
    let first : output_start (offset_in rs) (length rs) n 0 ≡ 0 = refl in
    let none : cut (length rs) n 0 ≡ 0 = cut-none (length rs) n (omega (arith, two)) in
    let t = tiles-from rule rs output n n 0 0 small few h (omega arith) (λ p. sym first) (λ p. absurd (omega (arith, two, p))) in
    subst (λ (k : ℕ). Tiles rule (map (shard (offset_in rs) (length rs) output n) (range_with_len 0 n)) (drop k rs) 0 output) none t

ranges_run : (rule : Rule) (rs : List InputRelocation) (ranges : List DebugRelocationShardRange) (output shards : ℕ)
    → AreSmall rule → AreRanges (offset_in rs) (size_in rule rs) (length rs) output (min shards (length rs)) (Some ranges)
    → Tiles rule ranges rs 0 output
ranges_run rule rs ranges output shards small h =
    subst (λ (v : List DebugRelocationShardRange). Tiles rule v rs 0 output) (sym h.1) (ranges_tile rule rs output (min shards (length rs)) small (omega arith) h.0)

-- the answer, where there are ranges
pub answer_tiles : {V E : Type 0} (items : V → List DebugRelocationShardRange) (rule : Rule) (rs : List InputRelocation) (output shards : ℕ) (o : Result (Option V) E)
    → AreSmall rule → IfOk o (λ p. AreRanges (offset_in rs) (size_in rule rs) (length rs) output (min shards (length rs)) (option_map items p))
    → IfOk o (λ p. IfSome p (λ v. Tiles rule (items v) rs 0 output))
answer_tiles items rule rs output shards (Err e) small h = tt
answer_tiles items rule rs output shards (Ok None) small h = tt
answer_tiles items rule rs output shards (Ok (Some v)) small h = ranges_run rule rs (items v) output shards small h
