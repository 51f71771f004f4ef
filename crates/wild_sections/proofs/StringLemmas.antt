-- Laws of merged strings, as they are looked for.
use Rattle.std.proofs.Common.{◌≡◌, ℕ, zero, suc, ◌+◌, ◌-◌, ◌<◌, ◌≤◌, inl, inr, Bool, true, false, List, [], ◌∷◌, length, get_or, refl, sym, ap, ◌∙◌, arith}
use Rattle.std.specs.Prelude.{All, Option, Some, None, nat_le, if◌then◌else◌}
use Rattle.std.specs.Option.{option_or}
use Rattle.std.proofs.lemmas.Bool.{cases_lt, and_parts, leb-true, le-leb}
use Rattle.std.proofs.lemmas.List.Elements.{All-nil, All-cons}
use Rattle.std.specs.List.Sorted.{IsPartitionedBy, IsPartitionPoint}
use Rattle.wild_types.specs.declared.input.MergedString.{MergedString}
use Rattle.wild_layout.specs.Merged.{string_before}
use Rattle.wild_sections.specs.Strings.{offsets_ascend, last_string_up_to}

-- one more string of a walk
or_later : (b : Bool) (o last : Option MergedString) (s : MergedString) → option_or (option_or o (if b then Some s else None)) last ≡ option_or o (if b then Some s else last)
or_later b (Some x) last s = refl
or_later true None last s = refl
or_later false None last s = refl

pub walked_on : (s : MergedString) (ss : List MergedString) (x : ℕ) (last next all : Option MergedString) → option_or (string_before (s ∷ ss) x) last ≡ all → next ≡ last_string_up_to last s x → option_or (string_before ss x) next ≡ all
walked_on s ss x last next all before is = ap (option_or (string_before ss x)) is ∙ sym (or_later (nat_le s.offset x) (string_before ss x) last s) ∙ before

or_none : (o : Option MergedString) → option_or o None ≡ o
or_none None = refl
or_none (Some x) = refl

-- ---- strings in order

pub behind_reach : (reach : ℕ) (ss : List MergedString) → offsets_ascend reach ss ≡ true → All (λ (s : MergedString). reach ≤ s.offset) ss
behind_reach reach [] h = All-nil (λ (s : MergedString). reach ≤ s.offset)
behind_reach reach (s ∷ ss) h =
    let both = and_parts (nat_le reach s.offset) (offsets_ascend s.offset ss) h in
    let low = leb-true _ _ both.0 in
    let rest = behind_reach s.offset ss both.1 in
    All-cons (λ (s : MergedString). reach ≤ s.offset) s ss low (λ k d l. (let m = rest k d l in omega (arith, low, m)))

in_order : (reach : ℕ) (ss : List MergedString) → offsets_ascend reach ss ≡ true → (i j : ℕ) (d : MergedString) → i < j → j < length ss → (get_or ss i d).offset ≤ (get_or ss j d).offset
in_order reach [] h i j d l m = absurd (omega (arith, m))
in_order reach (s ∷ ss) h zero (suc j) d l m = behind_reach s.offset ss (and_parts (nat_le reach s.offset) (offsets_ascend s.offset ss) h).1 j d (omega (arith, m))
in_order reach (s ∷ ss) h (suc i) (suc j) d l m = in_order s.offset ss (and_parts (nat_le reach s.offset) (offsets_ascend s.offset ss) h).1 i j d (omega (arith, l)) (omega (arith, m))
in_order reach (s ∷ ss) h i zero d l m = absurd (omega (arith, l))

-- the test of a search by halves
abbrev pub stands_before : ℕ → MergedString → Bool
stands_before x s = nat_le s.offset x

pub parted : (x : ℕ) (ss : List MergedString) → offsets_ascend 0 ss ≡ true → IsPartitionedBy (stands_before x) ss
parted x ss h i j d l m t =
    elim (cases_lt i j) [
      | inl lt ↦ (let low = in_order 0 ss h i j d lt m in let b = leb-true _ _ t in le-leb (get_or ss i d).offset x (omega (arith, low, b)))
      | inr ge ↦ (let e : i ≡ j = omega (arith, l, ge) in rw e t)
    ]

none_before : (x : ℕ) (ss : List MergedString) → ((k : ℕ) (d : MergedString) → k < length ss → stands_before x (get_or ss k d) ≡ false) → string_before ss x ≡ None
none_before x [] h = refl
none_before x (s ∷ ss) h =
    let here : nat_le s.offset x ≡ false = h 0 s (omega arith) in
    let rest = none_before x ss (λ k d l. h (suc k) d (omega (arith, l))) in
    rw (rest, here) refl

last_before : (x i : ℕ) (ss : List MergedString) (d : MergedString) → i < length ss → ((k : ℕ) (e : MergedString) → k < i + 1 → stands_before x (get_or ss k e) ≡ true) → ((k : ℕ) (e : MergedString) → i + 1 ≤ k → k < length ss → stands_before x (get_or ss k e) ≡ false) → string_before ss x ≡ Some (get_or ss i d)
last_before x i [] d l front back = absurd (omega (arith, l))
last_before x zero (s ∷ ss) d l front back =
    let here : nat_le s.offset x ≡ true = front 0 s (omega arith) in
    let rest = none_before x ss (λ k e m. back (suc k) e (omega arith) (omega (arith, m))) in
    rw (rest, here) refl
last_before x (suc i) (s ∷ ss) d l front back =
    let rest = last_before x i ss d (omega (arith, l)) (λ k e m. front (suc k) e (omega (arith, m))) (λ k e m n. back (suc k) e (omega (arith, m)) (omega (arith, n))) in
    rw rest refl

abbrev pub IsPoint : ℕ → List MergedString → ℕ → Type 0
IsPoint x ss i = IsPartitionPoint (λ s. stands_before x s ≡ true) (λ s. stands_before x s ≡ false) ss i

-- what a search by halves finds
pub halved_none : (x i : ℕ) (ss : List MergedString) → IsPoint x ss i → i ≡ 0 → string_before ss x ≡ None
halved_none x i ss h none = none_before x ss (λ k d l. h.1 k d (omega (arith, none)) l)

pub halved_last : (x i : ℕ) (ss : List MergedString) (s : MergedString) → IsPoint x ss i → (i ≡ 0 → ⊥) → i ≤ length ss → string_before ss x ≡ Some (get_or ss (i - 1) s)
halved_last x i ss s h some few =
    let low : 0 < i = elim (cases_lt 0 i) [ inl lt ↦ lt | inr ge ↦ absurd (some (omega (arith, ge))) ] in
    last_before x (i - 1) ss s (omega (arith, low, few)) (λ k e m. h.0 k e (omega (arith, m, low)) (omega (arith, m, low, few))) (λ k e m n. h.1 k e (omega (arith, m, low)) n)
