-- Ranges that follow one another.
use Rattle.std.proofs.Common.{◌≡◌, ℕ, ◌+◌, ◌-◌, ◌≤◌, List, [], ◌∷◌, ◌++◌, length, take, drop, sym, arith, subst}
use Rattle.std.specs.Prelude.{All, Result}
use Rattle.std.proofs.lemmas.List.{take-append-drop, length-take-le, length-drop}
use Rattle.std.proofs.lemmas.List.Elements.{All-append}
use Rattle.wild_types.specs.declared.input.InputRelocation.{InputRelocation}
use Rattle.wild_types.specs.declared.fault.Error.{Error}
use Rattle.wild_shards.specs.declared.ranges.DebugRelocationShardRange.{DebugRelocationShardRange}
use Rattle.wild_shards.specs.InOrder.{Rule, in_order, ResultIs, FieldWithin, KeepsLength, Tiles, count_of, first_of}
use Rattle.wild_shards.proofs.PartLemmas.{in_parts}

fields-widen : (rule : Rule) (a b e f : ℕ) (rs : List InputRelocation) → a ≤ b → e ≤ f → All (FieldWithin rule b e) rs → All (FieldWithin rule a f) rs
fields-widen rule a b e f rs l m h = λ k d n. let p = (h k d n).0 in let q = (h k d n).1 in (omega (arith, l, p), omega (arith, m, q))

-- all fields of ranges that follow one another lie in the output
tiles-within : (rule : Rule) (ss : List DebugRelocationShardRange) (rs : List InputRelocation) (base end : ℕ) → Tiles rule ss rs base end → All (FieldWithin rule base end) rs
tiles-within rule [] rs base end h = subst (λ (xs : List InputRelocation). All (FieldWithin rule base end) xs) (sym h.0) (λ k d l. absurd (omega arith))
tiles-within rule (s ∷ ss) rs base end h =
    let t = h.0 in
    let front : All (FieldWithin rule base end) (take (count_of s) rs) = fields-widen rule base base s.output.end end (take (count_of s) rs) (omega arith) t.high t.fields in
    let back : All (FieldWithin rule base end) (drop (count_of s) rs) = fields-widen rule base s.output.end end end (drop (count_of s) rs) t.low (omega arith) (tiles-within rule ss (drop (count_of s) rs) s.output.end end h.1) in
    subst (λ (xs : List InputRelocation). All (FieldWithin rule base end) xs) (take-append-drop (count_of s) rs) (All-append (FieldWithin rule base end) (take (count_of s) rs) (drop (count_of s) rs) front back)

-- the first range and the rest, each in order in its part, are the whole in order
tiles-step : (rule : Rule) (s : DebugRelocationShardRange) (ss : List DebugRelocationShardRange) (rs : List InputRelocation) (xs zs ws : List ℕ) (base : ℕ) (a b : Result (Unit {0}) Error)
    → KeepsLength rule → Tiles rule (s ∷ ss) rs base (base + length xs)
    → ResultIs a zs (in_order rule base (take (count_of s) rs) (take (s.output.end - base) xs))
    → ResultIs b ws (in_order rule s.output.end (drop (count_of s) rs) (drop (s.output.end - base) xs))
    → ResultIs (first_of a b) (zs ++ ws) (in_order rule base rs xs)
tiles-step rule s ss rs xs zs ws base a b keeps h c d =
    let t = h.0 in
    let low : base ≤ s.output.end = t.low in
    let high : s.output.end ≤ base + length xs = t.high in
    let m : ℕ = s.output.end - base in
    let front : length (take m xs) ≡ m = length-take-le m xs (omega (arith, low, high)) in
    let back : length (drop m xs) ≡ length xs - m = length-drop m xs in
    let up : s.output.end ≡ base + length (take m xs) = omega (arith, low, front) in
    let end : base + length xs ≡ s.output.end + length (drop m xs) = omega (arith, low, high, back) in
    let mine : All (FieldWithin rule base (base + length (take m xs))) (take (count_of s) rs) = subst (λ (n : ℕ). All (FieldWithin rule base n) (take (count_of s) rs)) up t.fields in
    let others : All (FieldWithin rule s.output.end (s.output.end + length (drop m xs))) (drop (count_of s) rs) = subst (λ (n : ℕ). All (FieldWithin rule s.output.end n) (drop (count_of s) rs)) end (tiles-within rule ss (drop (count_of s) rs) s.output.end (base + length xs) h.1) in
    let whole = in_parts rule base s.output.end (take (count_of s) rs) (drop (count_of s) rs) (take m xs) (drop m xs) zs ws a b keeps up mine others c d in
    let one : ResultIs (first_of a b) (zs ++ ws) (in_order rule base rs (take m xs ++ drop m xs)) = subst (λ (qs : List InputRelocation). ResultIs (first_of a b) (zs ++ ws) (in_order rule base qs (take m xs ++ drop m xs))) (take-append-drop (count_of s) rs) whole in
    subst (λ (qs : List ℕ). ResultIs (first_of a b) (zs ++ ws) (in_order rule base rs qs)) (take-append-drop m xs) one

pub tiles-run : (rule : Rule) (ranges : List DebugRelocationShardRange) (s : DebugRelocationShardRange) (ss : List DebugRelocationShardRange) (rs mine others : List InputRelocation) (xs front back zs ws : List ℕ) (base : ℕ) (a b o : Result (Unit {0}) Error)
    → ranges ≡ s ∷ ss → mine ≡ take (count_of s) rs → others ≡ drop (count_of s) rs → front ≡ take (s.output.end - base) xs → back ≡ drop (s.output.end - base) xs → o ≡ first_of a b
    → KeepsLength rule → Tiles rule ranges rs base (base + length xs)
    → ResultIs a zs (in_order rule base mine front)
    → ResultIs b ws (in_order rule s.output.end others back)
    → ResultIs o (zs ++ ws) (in_order rule base rs xs)
tiles-run rule ranges s ss rs mine others xs front back zs ws base a b o e1 e2 e3 e4 e5 e6 keeps h c d =
    let h' : Tiles rule (s ∷ ss) rs base (base + length xs) = subst (λ (q : List DebugRelocationShardRange). Tiles rule q rs base (base + length xs)) e1 h in
    let c1 = subst (λ (q : List InputRelocation). ResultIs a zs (in_order rule base q front)) e2 c in
    let c2 = subst (λ (q : List ℕ). ResultIs a zs (in_order rule base (take (count_of s) rs) q)) e4 c1 in
    let d1 = subst (λ (q : List InputRelocation). ResultIs b ws (in_order rule s.output.end q back)) e3 d in
    let d2 = subst (λ (q : List ℕ). ResultIs b ws (in_order rule s.output.end (drop (count_of s) rs) q)) e5 d1 in
    subst (λ (q : Result (Unit {0}) Error). ResultIs q (zs ++ ws) (in_order rule base rs xs)) (sym e6) (tiles-step rule s ss rs xs zs ws base a b keeps h' c2 d2)
