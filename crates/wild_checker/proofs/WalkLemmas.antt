-- What a walk over the relocations of a section says of each relocation, and of each byte in no field.
use Rattle.wild_checker.proofs.Common.{◌≡◌, ℕ, zero, suc, ◌+◌, ◌<◌, ◌≤◌, ◌⊎◌, inl, inr, Bool, true, false, List, [], ◌∷◌, length, max, nat_le, refl, sym, ap, ◌∙◌, arith, subst, Option, Some, None, All, if◌then◌else◌, ◌==◌, slice_get, slice_index, unwrap_or, cases_lt, leb-true, File, InputRelocation, InputSection, Machine, field_bytes, Cursor, field_end, are_in_order, Loaded, rewritten_start, changed_gap, is_settled, first_doubt}
use Rattle.std.proofs.lemmas.List.Elements.{All-head, All-tail}
use Rattle.wild_terms.specs.Symbolic.{known_byte}
use Rattle.wild_checker.specs.Bytes.{changed_between}
use Rattle.wild_checker.specs.Rewritten.{reach, next_cursor}
use Rattle.wild_checker.specs.Sections.{gap_end}
use Rattle.wild_checker.proofs.SiteLemmas.{IsBeside, both_none, between_known}

-- where the walk is before relocation i
abbrev pub cursor_at : Machine → Cursor → List InputRelocation → ℕ → Cursor
cursor_at m c rs zero = c
cursor_at m c [] (suc i) = c
cursor_at m c (r ∷ rs) (suc i) = cursor_at m (next_cursor m c r) rs i

no_item : {X : Type 0} (i : ℕ) (x : X) → (let xs : List X = [] in slice_get xs i) ≡ Some x → ⊥
no_item zero x h = cc
no_item (suc i) x h = cc

the_item : {X : Type 0} (x y : X) → (let o : Option X = Some x in o) ≡ Some y → x ≡ y
the_item x y h = cc

-- ---- relocations

pub settled_at : (k : Loaded) (f : File) (s : InputSection) (c : Cursor) (j : ℕ) (rs : List InputRelocation) (i : ℕ) (r : InputRelocation) → first_doubt k f s c j rs ≡ None → slice_get rs i ≡ Some r → is_settled k f s (cursor_at k.layout.machine c rs i) r ≡ true
settled_at k f s c j [] i r none there = absurd (no_item i r there)
settled_at k f s c j (x ∷ rs) zero r none there = by (is_settled k f s c x) refl none
  where
    by : (b : Bool) → is_settled k f s c x ≡ b → (if b then first_doubt k f s (next_cursor k.layout.machine c x) (j + 1) rs else Some j) ≡ None → is_settled k f s c r ≡ true
    by true e h = subst (λ (y : InputRelocation). is_settled k f s c y ≡ true) (the_item x r there) e
    by false e h = cc
settled_at k f s c j (x ∷ rs) (suc i) r none there = by (settled_at k f s (next_cursor k.layout.machine c x) (j + 1) rs i r) (is_settled k f s c x) none
  where
    by : (first_doubt k f s (next_cursor k.layout.machine c x) (j + 1) rs ≡ None → slice_get rs i ≡ Some r → is_settled k f s (cursor_at k.layout.machine (next_cursor k.layout.machine c x) rs i) r ≡ true) → (b : Bool) → (if b then first_doubt k f s (next_cursor k.layout.machine c x) (j + 1) rs else Some j) ≡ None → is_settled k f s (cursor_at k.layout.machine c (x ∷ rs) (suc i)) r ≡ true
    by rest true h = rest h there
    by rest false h = cc

-- ---- bytes

-- the byte is in the bytes of a rewritten instruction before its field
pub record InRewritten (k : Loaded) (f : File) (s : InputSection) (c : Cursor) (rs : List InputRelocation) (b : ℕ) : Type 0 where
  pub position : ℕ
  pub relocation : InputRelocation
  pub there : slice_get rs position ≡ Some relocation
  pub start : ℕ
  pub is : rewritten_start k f s (cursor_at k.layout.machine c rs position) relocation ≡ Some start
  pub low : start ≤ b
  pub high : b < relocation.offset

abbrev IsKnownByte : Loaded → InputSection → ℕ → Type 0
IsKnownByte k s b = known_byte k.memory (s.address + b) ≡ Some (slice_index s.bytes b)

further : (k : Loaded) (f : File) (s : InputSection) (c : Cursor) (r : InputRelocation) (rs : List InputRelocation) (b : ℕ) → IsKnownByte k s b ⊎ InRewritten k f s (next_cursor k.layout.machine c r) rs b → IsKnownByte k s b ⊎ InRewritten k f s c (r ∷ rs) b
further k f s c r rs b (inl known) = inl known
further k f s c r rs b (inr h) = inr (record { position = suc h.position; relocation = h.relocation; there = h.there; start = h.start; is = h.is; low = h.low; high = h.high })

pub byte_or_rewritten : (k : Loaded) (f : File) (s : InputSection) (c : Cursor) (rs : List InputRelocation) (b : ℕ) → changed_gap k f s c rs ≡ None → c.end ≤ b → b < length s.bytes → All (IsBeside k.layout.machine b) rs → IsKnownByte k s b ⊎ InRewritten k f s c rs b
byte_or_rewritten k f s c [] b none low within all = inl (between_known k.memory s c.end (length s.bytes) b none low within within)
byte_or_rewritten k f s c (r ∷ rs) b none low within all =
    let two = both_none (changed_between k.memory s c.end (gap_end k f s c r)) (changed_gap k f s (next_cursor k.layout.machine c r) rs) none in
    let beside = All-head (IsBeside k.layout.machine b) r rs all in
    let others = All-tail (IsBeside k.layout.machine b) r rs all in
    by (λ high. further k f s c r rs b (byte_or_rewritten k f s (next_cursor k.layout.machine c r) rs b two.1 (behind beside high) within others)) (rewritten_start k f s c r) refl two.0
  where
    behind : IsBeside k.layout.machine b r → r.offset ≤ b → field_end k.layout.machine r ≤ b
    behind (inl h) high = absurd (omega (arith, h, high))
    behind (inr h) high = h

    by : (r.offset ≤ b → IsKnownByte k s b ⊎ InRewritten k f s c (r ∷ rs) b) → (o : Option ℕ) → rewritten_start k f s c r ≡ o → changed_between k.memory s c.end (unwrap_or (rewritten_start k f s c r) r.offset) ≡ None → IsKnownByte k s b ⊎ InRewritten k f s c (r ∷ rs) b
    by rest (Some start) e gap =
        let plain : changed_between k.memory s c.end start ≡ None = subst (λ (o : Option ℕ). changed_between k.memory s c.end (unwrap_or o r.offset) ≡ None) e gap in
        elim (cases_lt b start) [
          | inl before ↦ inl (between_known k.memory s c.end start b plain low before within)
          | inr from ↦ elim (cases_lt b r.offset) [
            | inl inside ↦ inr (record { position = 0; relocation = r; there = refl; start = start; is = e; low = from; high = inside })
            | inr high ↦ rest high
          ]
        ]
    by rest None e gap =
        let plain : changed_between k.memory s c.end r.offset ≡ None = subst (λ (o : Option ℕ). changed_between k.memory s c.end (unwrap_or o r.offset) ≡ None) e gap in
        elim (cases_lt b r.offset) [
          | inl before ↦ inl (between_known k.memory s c.end r.offset b plain low before within)
          | inr high ↦ rest high
        ]

-- ---- order

order_from : (m : Machine) (n : ℕ) (rs : List InputRelocation) (i : ℕ) (r : InputRelocation) → are_in_order m n rs ≡ true → slice_get rs i ≡ Some r → n ≤ r.offset
order_from m n [] i r h there = absurd (no_item i r there)
order_from m n (x ∷ rs) zero r h there = by (nat_le n x.offset) refl h
  where
    by : (b : Bool) → nat_le n x.offset ≡ b → (if b then are_in_order m (field_end m x) rs else false) ≡ true → n ≤ r.offset
    by true e h = subst (λ (y : InputRelocation). n ≤ y.offset) (the_item x r there) (leb-true n x.offset e)
    by false e h = cc
order_from m n (x ∷ rs) (suc i) r h there = by (order_from m (field_end m x) rs i r) (nat_le n x.offset) refl h
  where
    by : (are_in_order m (field_end m x) rs ≡ true → slice_get rs i ≡ Some r → field_end m x ≤ r.offset) → (b : Bool) → nat_le n x.offset ≡ b → (if b then are_in_order m (field_end m x) rs else false) ≡ true → n ≤ r.offset
    by rest true e h =
        let low = leb-true n x.offset e in
        let next = rest h there in
        omega (arith, low, next)
    by rest false e h = cc

-- a field ends before a later one
pub in_order : (m : Machine) (n : ℕ) (rs : List InputRelocation) (j i : ℕ) (q r : InputRelocation) → are_in_order m n rs ≡ true → j < i → slice_get rs j ≡ Some q → slice_get rs i ≡ Some r → field_end m q ≤ r.offset
in_order m n [] j i q r h lt before there = absurd (no_item j q before)
in_order m n (x ∷ rs) j zero q r h lt before there = absurd (omega (arith, lt))
in_order m n (x ∷ rs) zero (suc i) q r h lt before there = by (nat_le n x.offset) h
  where
    by : (b : Bool) → (if b then are_in_order m (field_end m x) rs else false) ≡ true → field_end m q ≤ r.offset
    by true h = subst (λ (y : InputRelocation). field_end m y ≤ r.offset) (the_item x q before) (order_from m (field_end m x) rs i r h there)
    by false h = cc
in_order m n (x ∷ rs) (suc j) (suc i) q r h lt before there = by (in_order m (field_end m x) rs j i q r) (nat_le n x.offset) h
  where
    by : (are_in_order m (field_end m x) rs ≡ true → j < i → slice_get rs j ≡ Some q → slice_get rs i ≡ Some r → field_end m q ≤ r.offset) → (b : Bool) → (if b then are_in_order m (field_end m x) rs else false) ≡ true → field_end m q ≤ r.offset
    by rest true h = rest h (omega (arith, lt)) before there
    by rest false h = cc

-- ---- where the walk is

grows : (m : Machine) (c : Cursor) (rs : List InputRelocation) (i : ℕ) → c.clear ≤ (cursor_at m c rs i).clear
grows m c rs zero = omega arith
grows m c [] (suc i) = omega arith
grows m c (r ∷ rs) (suc i) =
    let rest = grows m (next_cursor m c r) rs i in
    let more : c.clear ≤ max c.clear (reach m r) = left c.clear (reach m r) in
    trans c.clear (max c.clear (reach m r)) (cursor_at m (next_cursor m c r) rs i).clear more rest
  where
    left : (a b : ℕ) → a ≤ max a b
    left a b = grind arith

    trans : (a b d : ℕ) → a ≤ b → b ≤ d → a ≤ d
    trans a b d h k = omega (arith, h, k)

-- the instructions of earlier relocations have ended
pub reached : (m : Machine) (c : Cursor) (rs : List InputRelocation) (j i : ℕ) (q : InputRelocation) → j < i → slice_get rs j ≡ Some q → reach m q ≤ (cursor_at m c rs i).clear
reached m c [] j i q lt before = absurd (no_item j q before)
reached m c (x ∷ rs) j zero q lt before = absurd (omega (arith, lt))
reached m c (x ∷ rs) zero (suc i) q lt before =
    let rest = grows m (next_cursor m c x) rs i in
    let more : reach m x ≤ max c.clear (reach m x) = right c.clear (reach m x) in
    let here : reach m x ≤ (cursor_at m (next_cursor m c x) rs i).clear = trans (reach m x) (max c.clear (reach m x)) (cursor_at m (next_cursor m c x) rs i).clear more rest in
    subst (λ (y : InputRelocation). reach m y ≤ (cursor_at m (next_cursor m c x) rs i).clear) (the_item x q before) here
  where
    right : (a b : ℕ) → b ≤ max a b
    right a b = grind arith

    trans : (a b d : ℕ) → a ≤ b → b ≤ d → a ≤ d
    trans a b d h k = omega (arith, h, k)
reached m c (x ∷ rs) (suc j) (suc i) q lt before = reached m (next_cursor m c x) rs j i q (omega (arith, lt)) before

-- the type of the last relocation with a field
pub last_is : (m : Machine) (c : Cursor) (rs : List InputRelocation) (i : ℕ) (q : InputRelocation) → slice_get rs i ≡ Some q → (field_bytes m q.number == 0) ≡ false → (cursor_at m c rs (i + 1)).last ≡ q.number
last_is m c rs i q there wide = subst (λ (k : ℕ). (cursor_at m c rs k).last ≡ q.number) (one i) (after m c rs i q there wide)
  where
    one : (i : ℕ) → suc i ≡ i + 1
    one i = omega arith

    after : (m : Machine) (c : Cursor) (rs : List InputRelocation) (i : ℕ) (q : InputRelocation) → slice_get rs i ≡ Some q → (field_bytes m q.number == 0) ≡ false → (cursor_at m c rs (suc i)).last ≡ q.number
    after m c [] i q there wide = absurd (no_item i q there)
    after m c (x ∷ rs) zero q there wide =
        let same : x ≡ q = the_item x q there in
        let some : (field_bytes m x.number == 0) ≡ false = subst (λ (y : InputRelocation). (field_bytes m y.number == 0) ≡ false) (sym same) wide in
        let kept : (next_cursor m c x).last ≡ x.number = rw some refl in
        kept ∙ ap (λ (y : InputRelocation). y.number) same
    after m c (x ∷ rs) (suc i) q there wide = after m (next_cursor m c x) rs i q there wide
