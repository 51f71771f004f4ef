-- The listed runs of live placements, as memories are added and removed.
use Rattle.wild_placer.proofs.Common.{◌≡◌, ℕ, zero, suc, ◌+◌, ◌-◌, ◌^◌, ◌<◌, ◌≤◌, true, false, List, [], ◌∷◌, length, get_or, ◌∙◌, sym, ap, subst, refl, arith, inl, inr, ◌⊎◌, Bool, not, ◌&&◌, ◌||◌, ◌==◌, if◌then◌else◌, Option, Some, None, IsSome, cond, slice_get, slice_index, nat_lt, nat_cmp, is_eq, cases_Bool, eqb-true, eq-eqb, ltb-true, ltb-false, same_Some, none-some, slice_get_within, Memory, Run, least_shared, LoadedRun, Runs, IsRunAt, IsTaken, IsLeastOfRuns, any_begins, listed_run, with_runs, without_runs}
use Rattle.std.proofs.lemmas.Option.{get_or_from_slice_get}
use Rattle.wild_words.proofs.ExtentLemmas.{apart-beside}
use Rattle.wild_loader.specs.Memory.{byte_of, byte_in}
use Rattle.wild_loader.specs.Runs.{extent_of, has_address}
use Rattle.wild_loader.specs.SegmentLaws.{DoesNotOverlap}
use Rattle.wild_loader.proofs.RunLemmas.{runs-apart}
use Rattle.wild_placer.specs.Index.{AreSeparate}
use Rattle.wild_placer.specs.Listed.{begins_at, entry_of, own_entry, or_else}
use Rattle.wild_placer.specs.Live.{Memories, IsRun, HoldsRun, ArePlaced}
use Rattle.wild_placer.proofs.IndexLemmas.{clash, not_some, start_is_taken}
use Rattle.wild_placer.proofs.SharedLemmas.{address_low, address_high, is_address}
use Rattle.wild_placer.proofs.ListedLemmas.{is_key, listed-none}

pub value_of_some : {X : Type 0} (o : Option X) → IsSome o → (x : X) × (o ≡ Some x)
value_of_some {X} None h = absurd (not_some {X = X} None h refl)
value_of_some (Some x) h = (x, refl)

positive : (n : ℕ) → (n == 0) ≡ false → 1 ≤ n
positive zero f = cc
positive (suc n) f = omega arith

-- ---- a byte of runs

pub record IsFound (rs : List Run) (a : ℕ) : Type 0 where
  pub index : ℕ
  pub run : Run
  pub listed : slice_get rs index ≡ Some run
  pub has : has_address run a ≡ true

found_in_rest : (r : Run) (rs : List Run) (a : ℕ) → IsFound rs a → IsFound (r ∷ rs) a
found_in_rest r rs a f = record { index = suc f.index; run = f.run; listed = f.listed; has = f.has }

pub byte-found : (rs : List Run) (a b : ℕ) → byte_of rs a ≡ Some b → IsFound rs a
byte-found [] a b h = absurd (none-some b h)
byte-found (r ∷ rs) a b h =
    elim (cases_Bool (has_address r a)) [
      | inl t ↦ record { index = 0; run = r; listed = refl; has = t }
      | inr f ↦ found_in_rest r rs a (byte-found rs a b (rw f at h))
    ]

byte-there : (rs : List Run) (i a : ℕ) (r : Run) → slice_get rs i ≡ Some r → has_address r a ≡ true → byte_of rs a ≡ None → ⊥
byte-there [] i a r at has none = none-some r at
byte-there (q ∷ rs) zero a r at has none =
    let same : r ≡ q = sym (same_Some q r at) in
    let t : has_address q a ≡ true = subst (λ (x : Run). has_address x a ≡ true) same has in
    none-some (slice_index q.bytes (a - q.start)) (sym (rw t at none))
byte-there (q ∷ rs) (suc i) a r at has none =
    elim (cases_Bool (has_address q a)) [
      | inl t ↦ none-some (slice_index q.bytes (a - q.start)) (sym (rw t at none))
      | inr f ↦ byte-there rs i a r at has (rw f at none)
    ]

pub byte_of-in : (m : Memory) (a b : ℕ) → byte_in m a ≡ Some b → byte_of m.runs a ≡ Some b
byte_of-in m a b h =
    elim (cases_Bool (nat_lt a (2 ^ 64))) [
      | inl t ↦ rw t at h
      | inr f ↦ absurd (none-some b (rw f at h))
    ]

-- memory has a byte at an address of one of its runs
pub byte-some : (m : Memory) (i a : ℕ) (r : Run) → nat_lt a (2 ^ 64) ≡ true → slice_get m.runs i ≡ Some r → has_address r a ≡ true → IsSome (byte_in m a)
byte-some m i a r low at has = rw low (some (byte_of m.runs a) refl)
  where
    some : (o : Option ℕ) → byte_of m.runs a ≡ o → IsSome o
    some None e = absurd (byte-there m.runs i a r at has e)
    some (Some b) e = refl

-- ---- live placements

-- a byte of a live placement is in a listed run
pub run_is_listed : (next : ℕ) (memories : Memories) (runs : Runs) (n a i : ℕ) (m : Memory) (r : Run) → ArePlaced next memories runs → memories n ≡ Some m → slice_get m.runs i ≡ Some r → has_address r a ≡ true → IsRunAt runs a r.start (entry_of n i r)
run_is_listed next memories runs n a i m r placed live at has =
    let low = address_low r a has in
    let high = address_high r a has in
    record { listed = placed.listed n i m r live at (omega (arith, low, high)); low = low; high = high }

pub free_at : (next : ℕ) (memories : Memories) (runs : Runs) (a : ℕ) → ArePlaced next memories runs → (IsTaken runs a → ⊥) → (n : ℕ) (m : Memory) → memories n ≡ Some m → byte_in m a ≡ None
free_at next memories runs a placed free n m live = none (byte_in m a) refl
  where
    none : (o : Option ℕ) → byte_in m a ≡ o → byte_in m a ≡ None
    none None e = e
    none (Some b) e =
        let f = byte-found m.runs a b (byte_of-in m a b e) in
        absurd (free (record { start = f.run.start; run = entry_of n f.index f.run; is = run_is_listed next memories runs n a f.index m f.run placed live f.listed f.has }))

-- the placement of a listed run has each of its bytes
pub taken_has : (next : ℕ) (memories : Memories) (runs : Runs) (a start : ℕ) (x : LoadedRun) (m : Memory) → ArePlaced next memories runs → nat_lt a (2 ^ 64) ≡ true → IsRunAt runs a start x → memories x.number ≡ Some m → IsSome (byte_in m a)
taken_has next memories runs a start x m placed low at live = by (slice_get m.runs x.index) refl (subst (λ (o : Option Memory). HoldsRun o start x) live (placed.held start x at.listed))
  where
    by : (o : Option Run) → slice_get m.runs x.index ≡ o → IsRun o start x → IsSome (byte_in m a)
    by None e h = absurd h
    by (Some r) e h =
        let begin = h.0 in
        let end = h.1 in
        let from = at.low in
        let to = at.high in
        byte-some m x.index a r low e (is_address r a (omega (arith, begin, from)) (omega (arith, begin, end, to)))

-- the placement of a listed run is live
pub taken_live : (next : ℕ) (memories : Memories) (runs : Runs) (start : ℕ) (x : LoadedRun) → ArePlaced next memories runs → runs start ≡ Some x → (m : Memory) × (memories x.number ≡ Some m)
taken_live next memories runs start x placed at = by (memories x.number) refl (placed.held start x at)
  where
    by : (o : Option Memory) → memories x.number ≡ o → HoldsRun o start x → (m : Memory) × (memories x.number ≡ Some m)
    by None e h = absurd h
    by (Some m) e h = (m, e)

-- an address is in one listed run alone
one_run : (runs : Runs) (a s t : ℕ) (x y : LoadedRun) → AreSeparate runs → IsRunAt runs a s x → IsRunAt runs a t y → x ≡ y
one_run runs a s t x y separate p q =
    let from = p.low in
    let to = p.high in
    let other_from = q.low in
    let other_to = q.high in
    elim (cases_Bool (nat_lt s t)) [
      | inl l ↦ (let ends = separate.apart s t x y p.listed q.listed (ltb-true _ _ l) in absurd (omega (arith, ends, to, other_from)))
      | inr f ↦ elim (cases_Bool (nat_lt t s)) [
        | inl l ↦ (let ends = separate.apart t s y x q.listed p.listed (ltb-true _ _ l) in absurd (omega (arith, ends, other_to, from)))
        | inr g ↦ (
            let up = ltb-false _ _ f in
            let down = ltb-false _ _ g in
            let same : s ≡ t = omega (arith, up, down) in
            same_Some x y (sym (subst (λ (k : ℕ). runs k ≡ Some x) same p.listed) ∙ q.listed)
            )
      ]
    ]

-- no two live placements have a byte at one address
pub placements_apart : (next : ℕ) (memories : Memories) (runs : Runs) (a n k : ℕ) (m q : Memory) → ArePlaced next memories runs → memories n ≡ Some m → memories k ≡ Some q → IsSome (byte_in m a) → IsSome (byte_in q a) → n ≡ k
placements_apart next memories runs a n k m q placed live other has too =
    let b = value_of_some (byte_in m a) has in
    let d = value_of_some (byte_in q a) too in
    let f = byte-found m.runs a b.0 (byte_of-in m a b.0 b.1) in
    let g = byte-found q.runs a d.0 (byte_of-in q a d.0 d.1) in
    ap (λ (x : LoadedRun). x.number) (one_run runs a f.run.start g.run.start (entry_of n f.index f.run) (entry_of k g.index g.run) placed.separate
    (run_is_listed next memories runs n a f.index m f.run placed live f.listed f.has)
    (run_is_listed next memories runs k a g.index q g.run placed other g.listed g.has))

-- ---- runs that begin at an address

pub record IsBegun (rs : List Run) (q : ℕ) : Type 0 where
  pub index : ℕ
  pub run : Run
  pub listed : slice_get rs index ≡ Some run
  pub full : 1 ≤ length run.bytes
  pub begins : run.start ≡ q

begins_in_rest : (r : Run) (rs : List Run) (q : ℕ) → IsBegun rs q → IsBegun (r ∷ rs) q
begins_in_rest r rs q b = record { index = suc b.index; run = b.run; listed = b.listed; full = b.full; begins = b.begins }

begins_parts : (r : Run) (q : ℕ) → begins_at r q ≡ true → (1 ≤ length r.bytes) × (r.start ≡ q)
begins_parts r q h =
    elim (cases_Bool (length r.bytes == 0)) [
      | inl t ↦ absurd (clash (begins_at r q) h (ap (λ (b : Bool). not b && r.start == q) t))
      | inr f ↦ (positive (length r.bytes) f, eqb-true _ _ (sym (ap (λ (b : Bool). not b && r.start == q) f) ∙ h))
    ]

pub run_that_begins : (rs : List Run) (q : ℕ) → any_begins rs q ≡ true → IsBegun rs q
run_that_begins [] q h = absurd (clash false h refl)
run_that_begins (r ∷ rs) q h =
    elim (cases_Bool (begins_at r q)) [
      | inl t ↦ (let parts = begins_parts r q t in record { index = 0; run = r; listed = refl; full = parts.0; begins = parts.1 })
      | inr f ↦ begins_in_rest r rs q (run_that_begins rs q (sym (ap (λ (b : Bool). b || any_begins rs q) f) ∙ h))
    ]

begins_at_start : (r : Run) → 1 ≤ length r.bytes → begins_at r r.start ≡ true
begins_at_start r some =
    elim (cases_Bool (length r.bytes == 0)) [
      | inl t ↦ (let e = eqb-true (length r.bytes) 0 t in absurd (omega (arith, e, some)))
      | inr f ↦ ap (λ (b : Bool). not b && r.start == r.start) f ∙ eq-eqb r.start r.start refl
    ]

any-listed : (rs : List Run) (i q : ℕ) (r : Run) → slice_get rs i ≡ Some r → begins_at r q ≡ true → any_begins rs q ≡ true
any-listed [] i q r at h = absurd (none-some r at)
any-listed (x ∷ rs) zero q r at h =
    let same : r ≡ x = sym (same_Some x r at) in
    ap (λ (b : Bool). b || any_begins rs q) (subst (λ (y : Run). begins_at y q ≡ true) same h)
any-listed (x ∷ rs) (suc i) q r at h = or_late (begins_at x q) (any_begins rs q) (any-listed rs i q r at h)
  where
    or_late : (a b : Bool) → b ≡ true → (a || b) ≡ true
    or_late true b e = refl
    or_late false b e = e

-- where a run of a memory begins that shares nothing with live placements, none is listed
pub free_start : (runs : Runs) (rs : List Run) (q : ℕ) → AreSeparate runs → IsLeastOfRuns runs rs (length rs) None → any_begins rs q ≡ true → runs q ≡ None
free_start runs rs q separate none h = by (runs q) refl
  where
    by : (o : Option LoadedRun) → runs q ≡ o → runs q ≡ None
    by None e = e
    by (Some x) e =
        let b = run_that_begins rs q h in
        let full = b.full in
        let begin = b.begins in
        absurd (none q (record { index = b.index; run = b.run; before = slice_get_within rs b.index b.run b.listed; listed = b.listed; has = is_address b.run q (omega (arith, begin)) (omega (arith, begin, full)) }) (start_is_taken runs q x separate e))

-- ---- look-ups that find the same

pub placed_again : (next : ℕ) (memories others : Memories) (runs same : Runs) → ArePlaced next memories runs → ((q : ℕ) → others q ≡ memories q) → ((q : ℕ) → same q ≡ runs q) → ArePlaced next others same
placed_again next memories others runs same placed e f = record {
  numbers = λ n m h. placed.numbers n m (sym (e n) ∙ h);
  listed = λ n i m r h at some. f r.start ∙ placed.listed n i m r (sym (e n) ∙ h) at some;
  held = λ a x h. subst (λ (o : Option Memory). HoldsRun o a x) (sym (e x.number)) (placed.held a x (sym (f a) ∙ h));
  separate = record {
    filled = λ a x h. placed.separate.filled a x (sym (f a) ∙ h);
    apart = λ a b x y h g l. placed.separate.apart a b x y (sym (f a) ∙ h) (sym (f b) ∙ g) l;
  };
}

-- ---- a placement is removed

-- the memories after one number is removed
memory_after_removal : (n q : ℕ) (memories after : Memories) (x : Memory) → after q ≡ cond (is_eq (nat_cmp n q)) None (memories q) → after q ≡ Some x → (memories q ≡ Some x) × ((n == q) ≡ false)
memory_after_removal n q memories after x step h =
    elim (cases_Bool (n == q)) [
      | inl t ↦ (let gone : after q ≡ None = step ∙ ap (λ (b : Bool). cond b None (memories q)) (is_key n q ∙ t) in absurd (none-some x (sym gone ∙ h)))
      | inr f ↦ (let kept : after q ≡ memories q = step ∙ ap (λ (b : Bool). cond b None (memories q)) (is_key n q ∙ f) in (sym kept ∙ h, f))
    ]

-- the runs after those of a memory are removed
run_after_removal : (rs : List Run) (a : ℕ) (runs rest : Runs) (x : LoadedRun) → rest a ≡ without_runs rs runs a → rest a ≡ Some x → (runs a ≡ Some x) × (any_begins rs a ≡ false)
run_after_removal rs a runs rest x step h =
    elim (cases_Bool (any_begins rs a)) [
      | inl t ↦ (let gone : rest a ≡ None = step ∙ ap (λ (b : Bool). if b then None else runs a) t in absurd (none-some x (sym gone ∙ h)))
      | inr f ↦ (let kept : rest a ≡ runs a = step ∙ ap (λ (b : Bool). if b then None else runs a) f in (sym kept ∙ h, f))
    ]

-- a memory that has a listed run begins there
held_begins : (m : Memory) (a : ℕ) (x : LoadedRun) → IsRun (slice_get m.runs x.index) a x → a < x.end → any_begins m.runs a ≡ true
held_begins m a x h full = by (slice_get m.runs x.index) refl h
  where
    by : (o : Option Run) → slice_get m.runs x.index ≡ o → IsRun o a x → any_begins m.runs a ≡ true
    by None e h = absurd h
    by (Some r) e h =
        let begin = h.0 in
        let end = h.1 in
        let some : 1 ≤ length r.bytes = omega (arith, end, full) in
        any-listed m.runs x.index a r e (subst (λ (q : ℕ). begins_at r q ≡ true) begin (begins_at_start r some))

pub placed_after_removal : (next n : ℕ) (memories after : Memories) (m : Memory) (runs rest : Runs) → ArePlaced next memories runs → memories n ≡ Some m → ((q : ℕ) → after q ≡ cond (is_eq (nat_cmp n q)) None (memories q)) → ((q : ℕ) → rest q ≡ without_runs m.runs runs q) → ArePlaced next after rest
placed_after_removal next n memories after m runs rest placed live taken gone = record {
  numbers = λ k x h. placed.numbers k x (memory_after_removal n k memories after x (taken k) h).0;
  listed = λ k i x r h at full. by_run k i x r (memory_after_removal n k memories after x (taken k) h) at full;
  held = λ a x h. by_entry a x (run_after_removal m.runs a runs rest x (gone a) h);
  separate = record {
    filled = λ a x h. placed.separate.filled a x (run_after_removal m.runs a runs rest x (gone a) h).0;
    apart = λ a b x y h g l. placed.separate.apart a b x y (run_after_removal m.runs a runs rest x (gone a) h).0 (run_after_removal m.runs b runs rest y (gone b) g).0 l;
  };
}
  where
    not_begun : (k i : ℕ) (x : Memory) (r : Run) → (memories k ≡ Some x) × ((n == k) ≡ false) → slice_get x.runs i ≡ Some r → 1 ≤ length r.bytes → any_begins m.runs r.start ≡ true → ⊥
    not_begun k i x r s at full t =
        let b = run_that_begins m.runs r.start t in
        let mine = subst (λ (q : ℕ). runs q ≡ Some (entry_of n b.index b.run)) b.begins (placed.listed n b.index m b.run live b.listed b.full) in
        let other = placed.listed k i x r s.0 at full in
        let same : n ≡ k = ap (λ (y : LoadedRun). y.number) (same_Some _ _ (sym mine ∙ other)) in
        clash (n == k) (eq-eqb n k same) s.1

    by_run : (k i : ℕ) (x : Memory) (r : Run) → (memories k ≡ Some x) × ((n == k) ≡ false) → slice_get x.runs i ≡ Some r → 1 ≤ length r.bytes → rest r.start ≡ Some (entry_of k i r)
    by_run k i x r s at full =
        elim (cases_Bool (any_begins m.runs r.start)) [
          | inl t ↦ absurd (not_begun k i x r s at full t)
          | inr f ↦ gone r.start ∙ ap (λ (b : Bool). if b then None else runs r.start) f ∙ placed.listed k i x r s.0 at full
        ]

    by_entry : (a : ℕ) (x : LoadedRun) → (runs a ≡ Some x) × (any_begins m.runs a ≡ false) → HoldsRun (after x.number) a x
    by_entry a x p =
        elim (cases_Bool (n == x.number)) [
          | inl t ↦ (
              let same : n ≡ x.number = eqb-true _ _ t in
              let here : memories x.number ≡ Some m = subst (λ (k : ℕ). memories k ≡ Some m) same live in
              let run : IsRun (slice_get m.runs x.index) a x = subst (λ (o : Option Memory). HoldsRun o a x) here (placed.held a x p.0) in
              absurd (clash (any_begins m.runs a) (held_begins m a x run (placed.separate.filled a x p.0)) p.1)
              )
          | inr f ↦ subst (λ (o : Option Memory). HoldsRun o a x) (sym (taken x.number ∙ ap (λ (b : Bool). cond b None (memories x.number)) (is_key n x.number ∙ f))) (placed.held a x p.0)
        ]

-- ---- a placement is added

-- of two runs with bytes one ends before the other starts
abbrev pub AreOrdered : List Run → Type 0
AreOrdered rs = (i j : ℕ) (r q : Run) → slice_get rs i ≡ Some r → slice_get rs j ≡ Some q → 1 ≤ length r.bytes → 1 ≤ length q.bytes → i < j → (r.start + length r.bytes ≤ q.start) ⊎ (q.start + length q.bytes ≤ r.start)

pub are_ordered : (rs : List Run) → least_shared rs ≡ None → AreOrdered rs
are_ordered rs none i j r q at too some filled l =
    let first = get_or_from_slice_get rs i r r at in
    let second = get_or_from_slice_get rs j q r too in
    let raw : DoesNotOverlap (get_or rs i r) (get_or rs j r) = runs-apart rs none i j r l (slice_get_within rs j q too) in
    let both : DoesNotOverlap r q = subst (λ (y : Run). DoesNotOverlap r y) second (subst (λ (y : Run). DoesNotOverlap y (get_or rs j r)) first raw) in
    let one : r.start < r.start + length r.bytes = omega (arith, some) in
    let two : q.start < q.start + length q.bytes = omega (arith, filled) in
    apart-beside (extent_of r) (extent_of q) both one two

-- two runs with bytes that begin at one address are one
same_index : (rs : List Run) (i j : ℕ) (r q : Run) → AreOrdered rs → slice_get rs i ≡ Some r → slice_get rs j ≡ Some q → 1 ≤ length r.bytes → 1 ≤ length q.bytes → r.start ≡ q.start → i ≡ j
same_index rs i j r q ordered at too some filled same =
    elim (cases_Bool (nat_lt i j)) [
      | inl l ↦ elim (ordered i j r q at too some filled (ltb-true _ _ l)) [ inl e ↦ absurd (omega (arith, e, some, same)) | inr e ↦ absurd (omega (arith, e, filled, same)) ]
      | inr f ↦ elim (cases_Bool (nat_lt j i)) [
        | inl l ↦ elim (ordered j i q r too at filled some (ltb-true _ _ l)) [ inl e ↦ absurd (omega (arith, e, filled, same)) | inr e ↦ absurd (omega (arith, e, some, same)) ]
        | inr g ↦ (let up = ltb-false _ _ f in let down = ltb-false _ _ g in omega (arith, up, down))
      ]
    ]

-- what is listed for a list of runs, which count from i
pub record IsListed (n i : ℕ) (rs : List Run) (q : ℕ) (x : LoadedRun) : Type 0 where
  pub index : ℕ
  pub run : Run
  pub at : slice_get rs index ≡ Some run
  pub full : 1 ≤ length run.bytes
  pub begins : run.start ≡ q
  pub is : x ≡ entry_of n (i + index) run

entry_is_listed : (n i : ℕ) (rs : List Run) (q : ℕ) (x : LoadedRun) → listed_run n i rs q ≡ Some x → IsListed n i rs q x
unfolding listed_run
entry_is_listed n i [] q x h = absurd (none-some x h)
entry_is_listed n i (r ∷ rs) q x h = by (listed_run n (i + 1) rs q) refl (λ e. entry_is_listed n (i + 1) rs q x e) h
  where
    here : Some (entry_of n i r) ≡ Some x → begins_at r q ≡ true → IsListed n i (r ∷ rs) q x
    here e t =
        let parts = begins_parts r q t in
        let place : i ≡ i + 0 = omega arith in
        record { index = 0; run = r; at = refl; full = parts.0; begins = parts.1; is = sym (same_Some (entry_of n i r) x e) ∙ ap (λ (k : ℕ). entry_of n k r) place }

    later : IsListed n (i + 1) rs q x → IsListed n i (r ∷ rs) q x
    later f =
        let next : i + 1 + f.index ≡ i + suc f.index = omega arith in
        record { index = suc f.index; run = f.run; at = f.at; full = f.full; begins = f.begins; is = f.is ∙ ap (λ (k : ℕ). entry_of n k f.run) next }

    by : (o : Option LoadedRun) → listed_run n (i + 1) rs q ≡ o → (listed_run n (i + 1) rs q ≡ Some x → IsListed n (i + 1) rs q x) → or_else o (own_entry n i r q) ≡ Some x → IsListed n i (r ∷ rs) q x
    by None e more h =
        elim (cases_Bool (begins_at r q)) [
          | inl t ↦ here (sym (ap (λ (b : Bool). if b then Some (entry_of n i r) else None) t) ∙ h) t
          | inr f ↦ absurd (none-some x (sym (ap (λ (b : Bool). if b then Some (entry_of n i r) else None) f) ∙ h))
        ]
    by (Some y) e more h = later (more (e ∙ h))

-- each run with bytes is listed, if no two begin at one address
abbrev pub BeginApart : List Run → Type 0
BeginApart rs = (i j : ℕ) (r q : Run) → slice_get rs i ≡ Some r → slice_get rs j ≡ Some q → 1 ≤ length r.bytes → 1 ≤ length q.bytes → r.start ≡ q.start → i ≡ j

each_run_is_listed : (n i k : ℕ) (rs : List Run) (r : Run) → BeginApart rs → slice_get rs k ≡ Some r → 1 ≤ length r.bytes → listed_run n i rs r.start ≡ Some (entry_of n (i + k) r)
unfolding listed_run
each_run_is_listed n i k [] r apart at some = absurd (none-some r at)
each_run_is_listed n i zero (x ∷ rs) r apart at some =
    let same : x ≡ r = same_Some x r at in
    let own : begins_at x r.start ≡ true = subst (λ (y : Run). begins_at y r.start ≡ true) (sym same) (begins_at_start r some) in
    let place : i ≡ i + 0 = omega arith in
    ap (λ (o : Option LoadedRun). or_else o (own_entry n i x r.start)) (listed-none n (i + 1) rs r.start (not_later x rs r apart same some))
    ∙ ap (λ (b : Bool). if b then Some (entry_of n i x) else None) own
    ∙ ap (λ (y : Run). Some (entry_of n i y)) same
    ∙ ap (λ (k : ℕ). Some (entry_of n k r)) place
  where
    not_later : (x : Run) (rs : List Run) (r : Run) → BeginApart (x ∷ rs) → x ≡ r → 1 ≤ length r.bytes → any_begins rs r.start ≡ false
    not_later x rs r apart same some =
        elim (cases_Bool (any_begins rs r.start)) [
          | inl t ↦ (
              let b = run_that_begins rs r.start t in
              let e : 0 ≡ suc b.index = apart 0 (suc b.index) r b.run (ap (λ (y : Run). Some y) same) b.listed some b.full (sym b.begins) in
              absurd (omega (arith, e))
              )
          | inr f ↦ f
        ]
each_run_is_listed n i (suc k) (x ∷ rs) r apart at some =
    let next : i + 1 + k ≡ i + suc k = omega arith in
    ap (λ (o : Option LoadedRun). or_else o (own_entry n i x r.start)) (each_run_is_listed n (i + 1) k rs r (λ a b p q pa qa pf qf s. less a b (apart (suc a) (suc b) p q pa qa pf qf s)) at some)
    ∙ ap (λ (j : ℕ). Some (entry_of n j r)) next
  where
    less : (a b : ℕ) → suc a ≡ suc b → a ≡ b
    less a b e = omega (arith, e)

-- what is there after one number is added
memory_after_addition : (n q : ℕ) (m x : Memory) (memories after : Memories) → after q ≡ cond (is_eq (nat_cmp n q)) (Some m) (memories q) → after q ≡ Some x → ((q ≡ n) × (m ≡ x)) ⊎ (memories q ≡ Some x)
memory_after_addition n q m x memories after step h =
    elim (cases_Bool (n == q)) [
      | inl t ↦ (let put : after q ≡ Some m = step ∙ ap (λ (b : Bool). cond b (Some m) (memories q)) (is_key n q ∙ t) in inl (sym (eqb-true _ _ t), same_Some m x (sym put ∙ h)))
      | inr f ↦ (let kept : after q ≡ memories q = step ∙ ap (λ (b : Bool). cond b (Some m) (memories q)) (is_key n q ∙ f) in inr (sym kept ∙ h))
    ]

-- what is listed after the runs of a memory are added
run_after_addition : (n a : ℕ) (rs : List Run) (runs more : Runs) (x : LoadedRun) → more a ≡ with_runs n rs runs a → more a ≡ Some x → IsListed n 0 rs a x ⊎ (runs a ≡ Some x)
run_after_addition n a rs runs more x step h = by (listed_run n 0 rs a) refl (sym step ∙ h)
  where
    by : (o : Option LoadedRun) → listed_run n 0 rs a ≡ o → or_else o (runs a) ≡ Some x → IsListed n 0 rs a x ⊎ (runs a ≡ Some x)
    by None e h = inr h
    by (Some y) e h = inl (entry_is_listed n 0 rs a x (e ∙ h))

pub placed_after_addition : (next : ℕ) (memories after : Memories) (m : Memory) (runs more : Runs) → ArePlaced next memories runs → least_shared m.runs ≡ None → IsLeastOfRuns runs m.runs (length m.runs) None → ((q : ℕ) → after q ≡ cond (is_eq (nat_cmp next q)) (Some m) (memories q)) → ((q : ℕ) → more q ≡ with_runs next m.runs runs q) → ArePlaced (next + 1) after more
placed_after_addition next memories after m runs more placed none free put new = record {
  numbers = λ k x h. by_number k x (memory_after_addition next k m x memories after (put k) h);
  listed = λ k i x r h at full. by_run k i x r (memory_after_addition next k m x memories after (put k) h) at full;
  held = λ a x h. by_entry a x (run_after_addition next a m.runs runs more x (new a) h);
  separate = record {
    filled = λ a x h. by_filled a x (run_after_addition next a m.runs runs more x (new a) h);
    apart = λ a b x y h g l. by_apart a b x y (run_after_addition next a m.runs runs more x (new a) h) (run_after_addition next b m.runs runs more y (new b) g) l;
  };
}
  where
    ordered : AreOrdered m.runs
    ordered = are_ordered m.runs none

    -- an address of a run of the memory is not taken
    own_free : (i a : ℕ) (r : Run) → slice_get m.runs i ≡ Some r → has_address r a ≡ true → IsTaken runs a → ⊥
    own_free i a r at has t = free a (record { index = i; run = r; before = slice_get_within m.runs i r at; listed = at; has = has }) t

    by_number : (k : ℕ) (x : Memory) → ((k ≡ next) × (m ≡ x)) ⊎ (memories k ≡ Some x) → k < next + 1
    by_number k x (inl p) = let e = p.0 in omega (arith, e)
    by_number k x (inr h) = let l = placed.numbers k x h in omega (arith, l)

    -- a run of a live placement is listed where it was
    old_run : (k i : ℕ) (x : Memory) (r : Run) → memories k ≡ Some x → slice_get x.runs i ≡ Some r → 1 ≤ length r.bytes → (o : Option LoadedRun) → listed_run next 0 m.runs r.start ≡ o → or_else o (runs r.start) ≡ Some (entry_of k i r)
    old_run k i x r live at full None e = placed.listed k i x r live at full
    old_run k i x r live at full (Some y) e =
        let f = entry_is_listed next 0 m.runs r.start y e in
        let begin = f.begins in
        let some = f.full in
        absurd (own_free f.index r.start f.run f.at (is_address f.run r.start (omega (arith, begin)) (omega (arith, begin, some))) (start_is_taken runs r.start (entry_of k i r) placed.separate (placed.listed k i x r live at full)))

    by_run : (k i : ℕ) (x : Memory) (r : Run) → ((k ≡ next) × (m ≡ x)) ⊎ (memories k ≡ Some x) → slice_get x.runs i ≡ Some r → 1 ≤ length r.bytes → more r.start ≡ Some (entry_of k i r)
    by_run k i x r (inl p) at full =
        let mine : slice_get m.runs i ≡ Some r = subst (λ (y : Memory). slice_get y.runs i ≡ Some r) (sym p.1) at in
        let listed : listed_run next 0 m.runs r.start ≡ Some (entry_of next (0 + i) r) = each_run_is_listed next 0 i m.runs r (λ a b q s qa sa qf sf e. same_index m.runs a b q s ordered qa sa qf sf e) mine full in
        let place : 0 + i ≡ i = omega arith in
        let whole : entry_of next (0 + i) r ≡ entry_of k i r = ap (λ (j : ℕ). entry_of next j r) place ∙ ap (λ (j : ℕ). entry_of j i r) (sym p.0) in
        new r.start ∙ ap (λ (o : Option LoadedRun). or_else o (runs r.start)) listed ∙ ap (λ (y : LoadedRun). Some y) whole
    by_run k i x r (inr h) at full = new r.start ∙ old_run k i x r h at full (listed_run next 0 m.runs r.start) refl

    here : after next ≡ Some m
    here = put next ∙ ap (λ (b : Bool). cond b (Some m) (memories next)) (is_key next next ∙ eq-eqb next next refl)

    below_other : (k : ℕ) → k < next → (next == k) ≡ false
    below_other k below =
        elim (cases_Bool (next == k)) [
          | inl t ↦ (let e = eqb-true _ _ t in absurd (omega (arith, e, below)))
          | inr f ↦ f
        ]

    by_entry : (a : ℕ) (x : LoadedRun) → IsListed next 0 m.runs a x ⊎ (runs a ≡ Some x) → HoldsRun (after x.number) a x
    by_entry a x (inl f) =
        let begin = f.begins in
        let place : 0 + f.index ≡ f.index = omega arith in
        let own : HoldsRun (Some m) a (entry_of next (0 + f.index) f.run) =
        subst (λ (o : Option Run). IsRun o a (entry_of next (0 + f.index) f.run)) (sym (ap (slice_get m.runs) place ∙ f.at)) (begin, ap (λ (k : ℕ). k + length f.run.bytes) begin) in
        let at_next : HoldsRun (after next) a (entry_of next (0 + f.index) f.run) = subst (λ (o : Option Memory). HoldsRun o a (entry_of next (0 + f.index) f.run)) (sym here) own in
        subst (λ (y : LoadedRun). HoldsRun (after y.number) a y) (sym f.is) at_next
    by_entry a x (inr h) =
        let live = taken_live next memories runs a x placed h in
        let below = placed.numbers x.number live.0 live.1 in
        let other = below_other x.number below in
        subst (λ (o : Option Memory). HoldsRun o a x) (sym (put x.number ∙ ap (λ (b : Bool). cond b (Some m) (memories x.number)) (is_key next x.number ∙ other))) (placed.held a x h)

    own_end : (a : ℕ) (x : LoadedRun) (f : IsListed next 0 m.runs a x) → x.end ≡ a + length f.run.bytes
    own_end a x f = ap (λ (y : LoadedRun). y.end) f.is ∙ ap (λ (k : ℕ). k + length f.run.bytes) f.begins

    by_filled : (a : ℕ) (x : LoadedRun) → IsListed next 0 m.runs a x ⊎ (runs a ≡ Some x) → a < x.end
    by_filled a x (inl f) = let end = own_end a x f in let full = f.full in omega (arith, end, full)
    by_filled a x (inr h) = placed.separate.filled a x h

    -- the two are runs of the memory
    both_own : (a b : ℕ) (x y : LoadedRun) → IsListed next 0 m.runs a x → IsListed next 0 m.runs b y → a < b → x.end ≤ b
    both_own a b x y f g l =
        let end = own_end a x f in
        let full = f.full in
        let filled = g.full in
        let begin = f.begins in
        let other = g.begins in
        elim (cases_Bool (nat_lt f.index g.index)) [
          | inl t ↦ elim (ordered f.index g.index f.run g.run f.at g.at full filled (ltb-true _ _ t)) [ inl e ↦ omega (arith, e, end, begin, other) | inr e ↦ absurd (omega (arith, e, begin, other, l)) ]
          | inr u ↦ elim (cases_Bool (nat_lt g.index f.index)) [
            | inl t ↦ elim (ordered g.index f.index g.run f.run g.at f.at filled full (ltb-true _ _ t)) [ inl e ↦ absurd (omega (arith, e, begin, other, l)) | inr e ↦ omega (arith, e, end, begin, other) ]
            | inr v ↦ (
                let up = ltb-false _ _ u in
                let down = ltb-false _ _ v in
                let same : f.index ≡ g.index = omega (arith, up, down) in
                let run : f.run ≡ g.run = same_Some f.run g.run (sym (subst (λ (k : ℕ). slice_get m.runs k ≡ Some f.run) same f.at) ∙ g.at) in
                let start : f.run.start ≡ g.run.start = ap (λ (r : Run). r.start) run in
                absurd (omega (arith, start, begin, other, l))
                )
          ]
        ]

    by_apart : (a b : ℕ) (x y : LoadedRun) → IsListed next 0 m.runs a x ⊎ (runs a ≡ Some x) → IsListed next 0 m.runs b y ⊎ (runs b ≡ Some y) → a < b → x.end ≤ b
    by_apart a b x y (inl f) (inl g) l = both_own a b x y f g l
    by_apart a b x y (inl f) (inr h) l =
        let end = own_end a x f in
        let begin = f.begins in
        elim (cases_Bool (nat_lt b x.end)) [
          | inl t ↦ (let inside = ltb-true _ _ t in absurd (own_free f.index b f.run f.at (is_address f.run b (omega (arith, begin, l)) (omega (arith, begin, end, inside))) (start_is_taken runs b y placed.separate h)))
          | inr u ↦ ltb-false _ _ u
        ]
    by_apart a b x y (inr h) (inl g) l =
        let begin = g.begins in
        let full = g.full in
        elim (cases_Bool (nat_lt b x.end)) [
          | inl t ↦ absurd (own_free g.index b g.run g.at (is_address g.run b (omega (arith, begin)) (omega (arith, begin, full))) (record { start = a; run = x; is = record { listed = h; low = omega (arith, l); high = ltb-true _ _ t } }))
          | inr u ↦ ltb-false _ _ u
        ]
    by_apart a b x y (inr h) (inr g) l = placed.separate.apart a b x y h g l
