-- Items that ascend, one symbol's behind those of the symbols before it.
use Rattle.wild_slots.proofs.Common.{◌≡◌, ℕ, zero, suc, ◌+◌, ◌*◌, ◌≤◌, List, [], ◌∷◌, ◌++◌, All, subst, arith, flat_map, All-nil, All-cons, All-head, All-tail, All-append, All-weaker, slots, Symbol, Layout, total, Ascend}
use Rattle.std.proofs.lemmas.List.Kept.{AllPairs-cons}
use Rattle.wild_words.proofs.ListLemmas.{AllPairs-nil, AllPairs-append}
use Rattle.wild_slots.specs.AscendingPlaces.{LiesWithin}
use Rattle.wild_slots.proofs.WalkLemmas.{AllAfter}
use Rattle.wild_slots.proofs.OrderLemmas.{IsPlacedAfter, total-push}

pub Ascend-none : (n low high : ℕ) → Ascend n low high []
Ascend-none n low high = record { within = All-nil (LiesWithin n low high); ascend = AllPairs-nil (λ (p q : ℕ). p + n ≤ q) }

pub Ascend-one : (n p high : ℕ) → p + n ≤ high → Ascend n p high (p ∷ [])
Ascend-one n p high h = record {
  within = All-cons (LiesWithin n p high) p [] (record { from = omega arith; to = h }) (All-nil (LiesWithin n p high));
  ascend = AllPairs-cons (λ (q r : ℕ). q + n ≤ r) p [] (All-nil (λ (q : ℕ). p + n ≤ q)) (AllPairs-nil (λ (q r : ℕ). q + n ≤ r));
}

pub Ascend-wider : (n a b c d : ℕ) (ps : List ℕ) → a ≤ b → c ≤ d → Ascend n b c ps → Ascend n a d ps
Ascend-wider n a b c d ps h k s = record {
  within = All-weaker (LiesWithin n b c) (LiesWithin n a d) (λ p w. let f = w.from in let t = w.to in record { from = omega (arith, h, f); to = omega (arith, k, t) }) ps s.within;
  ascend = s.ascend;
}

pub Ascend-append : (n low mid high : ℕ) (ps qs : List ℕ) → low ≤ mid → mid ≤ high → Ascend n low mid ps → Ascend n mid high qs → Ascend n low high (ps ++ qs)
Ascend-append n low mid high ps qs h k a b = record {
  within = All-append (LiesWithin n low high) ps qs (Ascend-wider n low low mid high ps (omega arith) k a).within (Ascend-wider n low mid high high qs h (omega arith) b).within;
  ascend = AllPairs-append (λ (p q : ℕ). p + n ≤ q) ps qs a.ascend b.ascend (λ i d lt j e m. let t = (a.within i d lt).to in let f = (b.within j e m).from in omega (arith, t, f));
}

pub Ascend-slots : (base n : ℕ) → Ascend 8 base (base + 8 * n) (slots base n)
unfolding slots
Ascend-slots base zero = Ascend-none 8 base (base + 8 * 0)
Ascend-slots base (suc n) =
    let e : base + 8 + 8 * n ≡ base + 8 * suc n = omega arith in
    let P : ℕ → Type 0 = λ (high : ℕ). Ascend 8 (base + 8) high (slots (base + 8) n) in
    Ascend-append 8 base (base + 8) (base + 8 * suc n) (base ∷ []) (slots (base + 8) n) (omega arith) (omega arith)
    (Ascend-one 8 base (base + 8) (omega arith))
    (subst P e (Ascend-slots (base + 8) n))

-- ---- symbol by symbol

-- what each symbol has to show: that its items lie behind those of the symbols before it, and ascend
abbrev pub AscendAt : Layout → (Symbol → Type 0) → ℕ → ℕ → ℕ → (Symbol → ℕ) → (Symbol → List ℕ) → Type 0
AscendAt l P n base limit share places = (front : List Symbol) (s : Symbol) → P s → IsPlacedAfter l front s → base + total share front + share s ≤ limit
    → Ascend n (base + total share front) (base + total share front + share s) (places s)

pub ascend_all : (l : Layout) (P : Symbol → Type 0) (n base limit : ℕ) (share : Symbol → ℕ) (places : Symbol → List ℕ) → AscendAt l P n base limit share places
    → (ss front : List Symbol) → All P ss → AllAfter (IsPlacedAfter l) front ss → base + total share front + total share ss ≤ limit
    → Ascend n (base + total share front) (base + total share front + total share ss) (flat_map places ss)
ascend_all l P n base limit share places each [] front a b h = Ascend-none n _ _
ascend_all l P n base limit share places each (s ∷ ss) front a b h =
    let e = total-push share front s in
    let low = base + total share front in
    let high = base + total share (front ++ s ∷ []) in
    let here = each front s (All-head P s ss a) b.0 (omega (arith, h)) in
    let rest = ascend_all l P n base limit share places each ss (front ++ s ∷ []) (All-tail P s ss a) b.1 (omega (arith, h, e)) in
    Ascend-append n low high (low + total share (s ∷ ss)) (places s) (flat_map places ss) (omega (arith, e)) (omega (arith, e))
    (Ascend-wider n low low (low + share s) high (places s) (omega arith) (omega (arith, e)) here)
    (Ascend-wider n high high (high + total share ss) (low + total share (s ∷ ss)) (flat_map places ss) (omega arith) (omega (arith, e)) rest)
