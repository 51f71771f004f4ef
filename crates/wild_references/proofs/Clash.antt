-- Instructions that overlap: by a table over each pair of an instruction that is kept and a row's pattern, and each distance, they
-- clash in a byte, or the pattern has a byte of a field of the instruction.
use Rattle.wild_references.proofs.Common.{◌≡◌, ℕ, zero, suc, ◌+◌, ◌-◌, ◌<◌, ◌≤◌, ◌⊎◌, inl, inr, Bool, true, false, List, [], ◌∷◌, length, get_or, refl, sym, ap, ◌∙◌, arith, subst, drop, take, slice_range, not, ◌&&◌, ◌||◌, ◌==◌, list_all, and_parts, cases_lt, eqb-true, or_cases, not_both, Cell, Row, pattern_cells, rows_x86_64, pattern_of, keeps_bytes, Is, From, Slot, Digit, Any, fits, matches_cells, Instruction, instructions_of}
use Rattle.std.proofs.lemmas.Bool.{or_right}
use Rattle.std.proofs.lemmas.List.{get_or-drop, drop-drop, length-drop}
use Rattle.wild_types.specs.declared.kind.Machine.TheVariants as machine
use Rattle.wild_relax.specs.declared.pattern.Cell.TheVariants as its
use Rattle.wild_relax.specs.Pattern as pattern
use Rattle.wild_loader.specs.declared.instruction.Cell as own-cell
use Rattle.wild_references.proofs.Fills.{is_any}

-- ---- no byte fits both cells

abbrev pub clashes : own-cell.Cell → Cell → Bool
clashes c (its.Is n) = not (fits c n)
clashes c its.RexWide = not (fits c 0x48) && not (fits c 0x4c)
clashes c its.Rex2Wide = (not (fits c 0x08) && not (fits c 0x0c)) && (not (fits c 0x48) && not (fits c 0x4c))
clashes (Is n) its.Slot = not (pattern.fits its.Slot n)
clashes c d = false

at : (c : own-cell.Cell) (b n : ℕ) → not (fits c n) ≡ true → (b == n) ≡ true → fits c b ≡ true → ⊥
at c b n h e f = not_both (fits c n) h (subst (λ (x : ℕ). fits c x ≡ true) (eqb-true b n e) f)

one_of : (c : own-cell.Cell) (b m n : ℕ) → (not (fits c m) && not (fits c n)) ≡ true → (b == m || b == n) ≡ true → fits c b ≡ true → ⊥
one_of c b m n h e f =
    let two = and_parts (not (fits c m)) (not (fits c n)) h in
    elim (or_cases (b == m) (b == n) e) [ inl k ↦ at c b m two.0 k f | inr k ↦ at c b n two.1 k f ]

one_of_four : (c : own-cell.Cell) (b m n o p : ℕ) → ((not (fits c m) && not (fits c n)) && (not (fits c o) && not (fits c p))) ≡ true → (b == m || b == n || b == o || b == p) ≡ true → fits c b ≡ true → ⊥
one_of_four c b m n o p h e f =
    let two = and_parts (not (fits c m) && not (fits c n)) (not (fits c o) && not (fits c p)) h in
    let low = and_parts (not (fits c m)) (not (fits c n)) two.0 in
    let high = and_parts (not (fits c o)) (not (fits c p)) two.1 in
    elim (or_cases (b == m || b == n || b == o) (b == p) e) [
      | inr k ↦ at c b p high.1 k f
      | inl x ↦ elim (or_cases (b == m || b == n) (b == o) x) [
        | inr k ↦ at c b o high.0 k f
        | inl y ↦ elim (or_cases (b == m) (b == n) y) [ inl k ↦ at c b m low.0 k f | inr k ↦ at c b n low.1 k f ]
      ]
    ]

slot_at : (b n : ℕ) → not (pattern.fits its.Slot n) ≡ true → (b == n) ≡ true → pattern.fits its.Slot b ≡ true → ⊥
slot_at b n h e f = not_both (pattern.fits its.Slot n) h (subst (λ (x : ℕ). pattern.fits its.Slot x ≡ true) (eqb-true b n e) f)

none_fits : (c : own-cell.Cell) (d : Cell) (b : ℕ) → clashes c d ≡ true → fits c b ≡ true → pattern.fits d b ≡ true → ⊥
none_fits c (its.Is n) b h e f = at c b n h f e
none_fits c its.RexWide b h e f = one_of c b 0x48 0x4c h f e
none_fits c its.Rex2Wide b h e f = one_of_four c b 0x08 0x0c 0x48 0x4c h f e
none_fits (Is n) its.Slot b h e f = slot_at b n h e f
none_fits (From low high) its.Slot b h e f = cc
none_fits Slot its.Slot b h e f = cc
none_fits (Digit n) its.Slot b h e f = cc
none_fits Any its.Slot b h e f = cc
none_fits c its.Any b h e f = cc

-- ---- cells side by side

-- two clash
abbrev pub clash : List own-cell.Cell → List Cell → Bool
clash [] ds = false
clash (c ∷ cs) [] = false
clash (c ∷ cs) (d ∷ ds) = clashes c d || clash cs ds

none_stand : (cs : List own-cell.Cell) (ds : List Cell) (bs : List ℕ) → clash cs ds ≡ true → matches_cells cs bs ≡ true → pattern.matches_cells ds bs ≡ true → ⊥
none_stand [] ds bs h e f = cc
none_stand (c ∷ cs) [] bs h e f = cc
none_stand (c ∷ cs) (d ∷ ds) [] h e f = cc
none_stand (c ∷ cs) (d ∷ ds) (b ∷ bs) h e f =
    let x = and_parts (fits c b) (matches_cells cs bs) e in
    let y = and_parts (pattern.fits d b) (pattern.matches_cells ds bs) f in
    elim (or_cases (clashes c d) (clash cs ds) h) [ inl k ↦ none_fits c d b k x.0 y.0 | inr k ↦ none_stand cs ds bs k x.1 y.1 ]

abbrev pub is_free : Cell → Bool
is_free its.Any = true
is_free other = false

-- both fix a byte
abbrev pub touch : List own-cell.Cell → List Cell → Bool
touch [] ds = false
touch (c ∷ cs) [] = false
touch (c ∷ cs) (d ∷ ds) = (not (is_any c) && not (is_free d)) || touch cs ds

touch_at : (cs : List own-cell.Cell) (ds : List Cell) (t : ℕ) → t < length cs → t < length ds → is_any (get_or cs t Any) ≡ false → is_free (get_or ds t its.Any) ≡ false → touch cs ds ≡ true
touch_at [] ds t l m h g = absurd (omega arith)
touch_at (c ∷ cs) [] t l m h g = absurd (omega arith)
touch_at (c ∷ cs) (d ∷ ds) zero l m h g = rw (h, g) refl
touch_at (c ∷ cs) (d ∷ ds) (suc t) l m h g = or_right (not (is_any c) && not (is_free d)) (touch cs ds) (touch_at cs ds t (omega arith) (omega arith) h g)

-- the second have a byte of a field of the first
abbrev pub covers : List own-cell.Cell → List Cell → Bool
covers [] ds = false
covers (c ∷ cs) [] = false
covers (c ∷ cs) (d ∷ ds) = is_any c || covers cs ds

pub record IsCovered (cs : List own-cell.Cell) (ds : List Cell) : Type 0 where
  pub place : ℕ
  pub first : place < length cs
  pub second : place < length ds
  pub any : is_any (get_or cs place Any) ≡ true

covered : (cs : List own-cell.Cell) (ds : List Cell) → covers cs ds ≡ true → IsCovered cs ds
covered [] ds h = cc
covered (c ∷ cs) [] h = cc
covered (c ∷ cs) (d ∷ ds) h =
    elim (or_cases (is_any c) (covers cs ds) h) [
      | inl k ↦ record { place = 0; first = omega arith; second = omega arith; any = k }
      | inr k ↦ (let r = covered cs ds k in let l = r.first in let m = r.second in record { place = suc r.place; first = omega (arith, l); second = omega (arith, m); any = r.any })
    ]

-- ---- the table

abbrev pub ok : List own-cell.Cell → List Cell → Bool
ok cs ds = not (touch cs ds) || (clash cs ds || covers cs ds)

abbrev pub below : ℕ → (ℕ → Bool) → Bool
below zero f = true
below (suc n) f = f n && below n f

pub below_at : (n : ℕ) (f : ℕ → Bool) (i : ℕ) → i < n → below n f ≡ true → f i ≡ true
below_at zero f i lt h = absurd (omega arith)
below_at (suc n) f i lt h =
    let two = and_parts (f n) (below n f) h in
    elim (cases_lt i n) [ inl low ↦ below_at n f i low two.1 | inr high ↦ (let e : i ≡ n = omega arith in subst (λ (x : ℕ). f x ≡ true) (sym e) two.0) ]

-- the calls through a descriptor alone have two bytes
abbrev pub are_calls : List own-cell.Cell → List Cell → Bool
are_calls cs ds = length cs == 2 && length ds == 2

-- the second begin s bytes behind the first, or before
abbrev pub pair_ok : List own-cell.Cell → List Cell → Bool
pair_ok cs ds = are_calls cs ds || (below (length cs) (λ s. ok (drop s cs) ds) && below (length ds) (λ s. ok cs (drop s ds)))

abbrev pub row_ok : Row → Bool
row_ok row = keeps_bytes row || list_all (λ (o : Instruction). pair_ok o.template.cells (pattern_cells (pattern_of row))) (instructions_of machine.X86_64)

pub each_row_ok : list_all row_ok rows_x86_64 ≡ true
unfolding rows_x86_64
each_row_ok = refl

-- ---- two templates in the same bytes

-- cells stand on the front of the bytes, and the rest on the rest
pub stands_more : (cs : List own-cell.Cell) (n : ℕ) (bs : List ℕ) → matches_cells cs (take n bs) ≡ true → matches_cells cs bs ≡ true
stands_more [] n bs h = refl
stands_more (c ∷ cs) zero bs h = cc
stands_more (c ∷ cs) (suc n) [] h = cc
stands_more (c ∷ cs) (suc n) (b ∷ bs) h =
    let x = and_parts (fits c b) (matches_cells cs (take n bs)) h in
    rw (x.0, stands_more cs n bs x.1) refl

stands_drop : (s : ℕ) (cs : List own-cell.Cell) (bs : List ℕ) → matches_cells cs bs ≡ true → matches_cells (drop s cs) (drop s bs) ≡ true
stands_drop zero cs bs h = h
stands_drop (suc s) [] bs h = refl
stands_drop (suc s) (c ∷ cs) [] h = cc
stands_drop (suc s) (c ∷ cs) (b ∷ bs) h = stands_drop s cs bs (and_parts (fits c b) (matches_cells cs bs) h).1

its_more : (ds : List Cell) (n : ℕ) (bs : List ℕ) → pattern.matches_cells ds (take n bs) ≡ true → pattern.matches_cells ds bs ≡ true
its_more [] n bs h = refl
its_more (d ∷ ds) zero bs h = cc
its_more (d ∷ ds) (suc n) [] h = cc
its_more (d ∷ ds) (suc n) (b ∷ bs) h =
    let x = and_parts (pattern.fits d b) (pattern.matches_cells ds (take n bs)) h in
    rw (x.0, its_more ds n bs x.1) refl

its_drop : (s : ℕ) (ds : List Cell) (bs : List ℕ) → pattern.matches_cells ds bs ≡ true → pattern.matches_cells (drop s ds) (drop s bs) ≡ true
its_drop zero ds bs h = h
its_drop (suc s) [] bs h = refl
its_drop (suc s) (d ∷ ds) [] h = cc
its_drop (suc s) (d ∷ ds) (b ∷ bs) h = its_drop s ds bs (and_parts (pattern.fits d b) (pattern.matches_cells ds bs) h).1

-- no byte of a field of the first, at a, is among the bytes of the second, at b
abbrev pub IsUncovered : List own-cell.Cell → List Cell → ℕ → ℕ → Type 0
IsUncovered cs ds a b = (k : ℕ) → k < length cs → is_any (get_or cs k Any) ≡ true → (a + k < b) ⊎ (b + length ds ≤ a + k)

none_of : (t c m : Bool) → (not t || (c || m)) ≡ true → t ≡ true → (c ≡ true → ⊥) → (m ≡ true → ⊥) → ⊥
none_of true true m h e x y = x refl
none_of true false true h e x y = y refl
none_of true false false h e x y = cc
none_of false c m h e x y = cc

behind_not : (cs : List own-cell.Cell) (ds : List Cell) (s a b : ℕ) → b ≡ a + s → IsUncovered cs ds a b → covers (drop s cs) ds ≡ true → ⊥
behind_not cs ds s a b e u h =
    let c = covered (drop s cs) ds h in
    let l = c.first in
    let m = c.second in
    let n = length-drop s cs in
    let any : is_any (get_or cs (s + c.place) Any) ≡ true = subst (λ (x : own-cell.Cell). is_any x ≡ true) (get_or-drop s cs c.place Any) c.any in
    elim (u (s + c.place) (omega (arith, l, n)) any) [ inl x ↦ absurd (omega (arith, x, e)) | inr x ↦ absurd (omega (arith, x, e, m)) ]

before_not : (cs : List own-cell.Cell) (ds : List Cell) (s a b : ℕ) → a ≡ b + s → IsUncovered cs ds a b → covers cs (drop s ds) ≡ true → ⊥
before_not cs ds s a b e u h =
    let c = covered cs (drop s ds) h in
    let l = c.first in
    let m = c.second in
    let n = length-drop s ds in
    elim (u c.place l c.any) [ inl x ↦ absurd (omega (arith, x, e)) | inr x ↦ absurd (omega (arith, x, e, m, n)) ]

-- two templates, with a byte that and_parts fix
pub record Meet (cs : List own-cell.Cell) (ds : List Cell) (bytes : List ℕ) (a b : ℕ) : Type 0 where
  pub first : matches_cells cs (slice_range bytes a (a + length cs)) ≡ true
  pub second : pattern.matches_cells ds (slice_range bytes b (b + length ds)) ≡ true
  pub own : ℕ
  pub other : ℕ
  pub same : a + own ≡ b + other
  pub own_inside : own < length cs
  pub other_inside : other < length ds
  pub own_fixed : is_any (get_or cs own Any) ≡ false
  pub other_fixed : is_free (get_or ds other its.Any) ≡ false
  pub uncovered : IsUncovered cs ds a b

no_clash_at_distance : (cs : List own-cell.Cell) (ds : List Cell) (bytes : List ℕ) (a b s : ℕ) → b ≡ a + s → Meet cs ds bytes a b → below (length cs) (λ s. ok (drop s cs) ds) ≡ true → ⊥
no_clash_at_distance cs ds bytes a b s e t h =
    let same = t.same in
    let inside = t.own_inside in
    let n = length-drop s cs in
    let split : t.own ≡ s + t.other = omega (arith, same, e) in
    let fixed : is_any (get_or (drop s cs) t.other Any) ≡ false = subst (λ (x : own-cell.Cell). is_any x ≡ false) (sym (get_or-drop s cs t.other Any)) (subst (λ (x : ℕ). is_any (get_or cs x Any) ≡ false) split t.own_fixed) in
    let touches = touch_at (drop s cs) ds t.other (omega (arith, n, inside, split)) t.other_inside fixed t.other_fixed in
    let here : drop b bytes ≡ drop s (drop a bytes) = ap (λ (x : ℕ). drop x bytes) e ∙ sym (drop-drop s a bytes) in
    let first : matches_cells (drop s cs) (drop b bytes) ≡ true = subst (λ (x : List ℕ). matches_cells (drop s cs) x ≡ true) (sym here) (stands_drop s cs (drop a bytes) (stands_more cs (a + length cs - a) (drop a bytes) t.first)) in
    let second = its_more ds (b + length ds - b) (drop b bytes) t.second in
    none_of (touch (drop s cs) ds) (clash (drop s cs) ds) (covers (drop s cs) ds) (below_at (length cs) (λ s. ok (drop s cs) ds) s (omega (arith, inside, split)) h) touches
    (λ k. none_stand (drop s cs) ds (drop b bytes) k first second)
    (λ k. behind_not cs ds s a b e t.uncovered k)

before : (cs : List own-cell.Cell) (ds : List Cell) (bytes : List ℕ) (a b s : ℕ) → a ≡ b + s → Meet cs ds bytes a b → below (length ds) (λ s. ok cs (drop s ds)) ≡ true → ⊥
before cs ds bytes a b s e t h =
    let same = t.same in
    let inside = t.other_inside in
    let n = length-drop s ds in
    let split : t.other ≡ s + t.own = omega (arith, same, e) in
    let fixed : is_free (get_or (drop s ds) t.own its.Any) ≡ false = subst (λ (x : Cell). is_free x ≡ false) (sym (get_or-drop s ds t.own its.Any)) (subst (λ (x : ℕ). is_free (get_or ds x its.Any) ≡ false) split t.other_fixed) in
    let touches = touch_at cs (drop s ds) t.own t.own_inside (omega (arith, n, inside, split)) t.own_fixed fixed in
    let here : drop a bytes ≡ drop s (drop b bytes) = ap (λ (x : ℕ). drop x bytes) e ∙ sym (drop-drop s b bytes) in
    let first = stands_more cs (a + length cs - a) (drop a bytes) t.first in
    let second : pattern.matches_cells (drop s ds) (drop a bytes) ≡ true = subst (λ (x : List ℕ). pattern.matches_cells (drop s ds) x ≡ true) (sym here) (its_drop s ds (drop b bytes) (its_more ds (b + length ds - b) (drop b bytes) t.second)) in
    none_of (touch cs (drop s ds)) (clash cs (drop s ds)) (covers cs (drop s ds)) (below_at (length ds) (λ s. ok cs (drop s ds)) s (omega (arith, inside, split)) h) touches
    (λ k. none_stand cs (drop s ds) (drop a bytes) k first second)
    (λ k. before_not cs ds s a b e t.uncovered k)

pub apart_templates : (cs : List own-cell.Cell) (ds : List Cell) (bytes : List ℕ) (a b : ℕ) → pair_ok cs ds ≡ true → (are_calls cs ds ≡ true → ⊥) → Meet cs ds bytes a b → ⊥
apart_templates cs ds bytes a b h calls t =
    elim (or_cases (are_calls cs ds) (below (length cs) (λ s. ok (drop s cs) ds) && below (length ds) (λ s. ok cs (drop s ds))) h) [
      | inl k ↦ calls k
      | inr k ↦
          (let two = and_parts (below (length cs) (λ s. ok (drop s cs) ds)) (below (length ds) (λ s. ok cs (drop s ds))) k in
          elim (cases_lt b a) [
            | inl low ↦ before cs ds bytes a b (a - b) (omega arith) t two.1
            | inr high ↦ no_clash_at_distance cs ds bytes a b (b - a) (omega arith) t two.0
          ])
    ]
