-- Bytes put over memory.
use Rattle.std.proofs.Common.{◌≡◌, ◌≢◌, ℕ, zero, suc, ◌+◌, ◌-◌, ◌<◌, ◌≤◌, ◌⊎◌, inl, inr, Bool, true, false, List, [], ◌∷◌, length, get_or, refl, sym, ap, ◌∙◌, arith, max, min, add-zero, subst}
use Rattle.std.specs.Prelude.{All, AllPairs, Some, None, is_some, if◌then◌else◌, nat_lt, nat_le, ◌^◌}
use Rattle.std.proofs.lemmas.Bool.{cases_Bool, cases_lt, and_parts, leb-true, ltb-true, ltb-false}
use Rattle.std.proofs.lemmas.List.{length-set, get_or-set_same, get_or-set_other}
use Rattle.wild_loader.specs.declared.memory.Memory.{Memory}
use Rattle.wild_loader.specs.declared.memory.Run.{Run}
use Rattle.wild_loader.specs.Memory.{byte_of, byte_in}
use Rattle.wild_loader.specs.Runs.{has_address, with_byte, put_byte, put_bytes, overlay_runs}
use Rattle.wild_loader.specs.SegmentLaws.{DoesNotOverlap, IsOutsideRun, PartsAreHeld, OthersAreKept}

-- ---- one byte

-- the run with another byte has the same addresses
same_addresses : (a b x : ℕ) (r : Run) → has_address (with_byte a b r) x ≡ has_address r x
same_addresses a b x r = rw (length-set r.bytes (a - r.start) b) refl

-- the first run, or those behind
byte_of-here : (r : Run) (rs : List Run) (x : ℕ) → has_address r x ≡ true → byte_of (r ∷ rs) x ≡ Some (get_or r.bytes (x - r.start) 0)
byte_of-here r rs x t = rw t refl

byte_of-past : (r : Run) (rs : List Run) (x : ℕ) → has_address r x ≡ false → byte_of (r ∷ rs) x ≡ byte_of rs x
byte_of-past r rs x f = rw f refl

-- what has_address says
record Inside (r : Run) (x : ℕ) : Type 0 where
  pub low : r.start ≤ x
  pub high : x - r.start < length r.bytes

inside : (r : Run) (x : ℕ) → has_address r x ≡ true → Inside r x
inside r x t =
    let parts = and_parts (nat_le r.start x) (nat_lt (x - r.start) (length r.bytes)) t in
    record { low = leb-true _ _ parts.0; high = ltb-true _ _ parts.1 }

-- another byte of a run with one byte put
other_byte : (a b x : ℕ) (r : Run) (rs : List Run) → has_address r a ≡ true → x ≢ a → byte_of (with_byte a b r ∷ rs) x ≡ byte_of (r ∷ rs) x
other_byte a b x r rs here ne =
    elim (cases_Bool (has_address r x)) [
      | inl t ↦
          (let at = inside r a here in
          let to = inside r x t in
          let low = at.low in
          let from = to.low in
          let far : x - r.start ≢ a - r.start = λ e. ne (omega arith) in
          byte_of-here (with_byte a b r) rs x (same_addresses a b x r ∙ t) ∙ ap Some (get_or-set_other r.bytes (a - r.start) (x - r.start) b 0 far) ∙ sym (byte_of-here r rs x t))
      | inr f ↦ byte_of-past (with_byte a b r) rs x (same_addresses a b x r ∙ f) ∙ sym (byte_of-past r rs x f)
    ]

byte_of-same_first : (r : Run) (rs ss : List Run) (x : ℕ) → byte_of rs x ≡ byte_of ss x → byte_of (r ∷ rs) x ≡ byte_of (r ∷ ss) x
byte_of-same_first r rs ss x e = rw e refl

pub put_byte-other : (a b x : ℕ) (runs : List Run) → x ≢ a → byte_of (put_byte a b runs) x ≡ byte_of runs x
unfolding put_byte
put_byte-other a b x [] ne = refl
put_byte-other a b x (r ∷ rs) ne =
    elim (cases_Bool (has_address r a)) [
      | inl t ↦ rw t (other_byte a b x r rs t ne)
      | inr f ↦ rw f (byte_of-same_first r (put_byte a b rs) rs x (put_byte-other a b x rs ne))
    ]

-- a byte is loaded exactly where one was
loaded_behind : (r : Run) (rs ss : List Run) (x : ℕ) → is_some (byte_of rs x) ≡ is_some (byte_of ss x) → is_some (byte_of (r ∷ rs) x) ≡ is_some (byte_of (r ∷ ss) x)
loaded_behind r rs ss x e =
    elim (cases_Bool (has_address r x)) [
      | inl t ↦ rw t refl
      | inr f ↦ rw f e
    ]

loaded_with : (a b x : ℕ) (r : Run) (rs : List Run) → is_some (byte_of (with_byte a b r ∷ rs) x) ≡ is_some (byte_of (r ∷ rs) x)
loaded_with a b x r rs =
    elim (cases_Bool (has_address r x)) [
      | inl t ↦ ap is_some (byte_of-here (with_byte a b r) rs x (same_addresses a b x r ∙ t)) ∙ sym (ap is_some (byte_of-here r rs x t))
      | inr f ↦ ap is_some (byte_of-past (with_byte a b r) rs x (same_addresses a b x r ∙ f)) ∙ sym (ap is_some (byte_of-past r rs x f))
    ]

pub put_byte-loaded : (a b x : ℕ) (runs : List Run) → is_some (byte_of (put_byte a b runs) x) ≡ is_some (byte_of runs x)
unfolding put_byte
put_byte-loaded a b x [] = refl
put_byte-loaded a b x (r ∷ rs) =
    elim (cases_Bool (has_address r a)) [
      | inl t ↦ rw t (loaded_with a b x r rs)
      | inr f ↦ rw f (loaded_behind r (put_byte a b rs) rs x (put_byte-loaded a b x rs))
    ]

pub put_byte-same : (a b : ℕ) (runs : List Run) → is_some (byte_of runs a) ≡ true → byte_of (put_byte a b runs) a ≡ Some b
unfolding put_byte
put_byte-same a b [] some = cc
put_byte-same a b (r ∷ rs) some =
    elim (cases_Bool (has_address r a)) [
      | inl t ↦ rw t (byte_of-here (with_byte a b r) rs a (same_addresses a b a r ∙ t) ∙ ap Some (let at = inside r a t in get_or-set_same r.bytes (a - r.start) b 0 at.high))
      | inr f ↦ rw f (byte_of-past r (put_byte a b rs) a f ∙ put_byte-same a b rs (sym (ap is_some (byte_of-past r rs a f)) ∙ some))
    ]

-- ---- bytes from an address on

pub put_bytes-outside : (a : ℕ) (bs : List ℕ) (x : ℕ) (runs : List Run) → (x < a) ⊎ (a + length bs ≤ x) → byte_of (put_bytes a bs runs) x ≡ byte_of runs x
unfolding put_bytes
put_bytes-outside a [] x runs out = refl
put_bytes-outside a (b ∷ bs) x runs (inl low) = put_bytes-outside (a + 1) bs x (put_byte a b runs) (inl (omega arith)) ∙ put_byte-other a b x runs (omega arith)
put_bytes-outside a (b ∷ bs) x runs (inr high) = put_bytes-outside (a + 1) bs x (put_byte a b runs) (inr (omega arith)) ∙ put_byte-other a b x runs (omega arith)

pub put_bytes-loaded : (a : ℕ) (bs : List ℕ) (x : ℕ) (runs : List Run) → is_some (byte_of (put_bytes a bs runs) x) ≡ is_some (byte_of runs x)
unfolding put_bytes
put_bytes-loaded a [] x runs = refl
put_bytes-loaded a (b ∷ bs) x runs = put_bytes-loaded (a + 1) bs x (put_byte a b runs) ∙ put_byte-loaded a b x runs

pub put_bytes-inside : (a : ℕ) (bs : List ℕ) (k : ℕ) (runs : List Run) → k < length bs → ((j : ℕ) → j < length bs → is_some (byte_of runs (a + j)) ≡ true) → byte_of (put_bytes a bs runs) (a + k) ≡ Some (get_or bs k 0)
unfolding put_bytes
put_bytes-inside a [] k runs l some = absurd (omega arith)
put_bytes-inside a (b ∷ bs) zero runs l some =
    put_bytes-outside (a + 1) bs (a + 0) (put_byte a b runs) (inl (omega arith))
    ∙ ap (λ (x : ℕ). byte_of (put_byte a b runs) x) (add-zero a)
    ∙ put_byte-same a b runs (ap (λ (x : ℕ). is_some (byte_of runs x)) (sym (add-zero a)) ∙ some 0 (omega arith))
put_bytes-inside a (b ∷ bs) (suc k) runs l some =
    let e : a + suc k ≡ a + 1 + k = omega arith in
    let next : (j : ℕ) → j < length bs → is_some (byte_of (put_byte a b runs) (a + 1 + j)) ≡ true = λ j m. put_byte-loaded a b (a + 1 + j) runs ∙ (let f : a + 1 + j ≡ a + suc j = omega arith in rw f (some (suc j) (omega arith))) in
    ap (λ (x : ℕ). byte_of (put_bytes (a + 1) bs (put_byte a b runs)) x) e ∙ put_bytes-inside (a + 1) bs k (put_byte a b runs) (omega arith) next

-- ---- parts, one after another

pub overlay_runs-outside : (x : ℕ) (ps runs : List Run) → All (IsOutsideRun x) ps → byte_of (overlay_runs ps runs) x ≡ byte_of runs x
unfolding overlay_runs
overlay_runs-outside x [] runs out = refl
overlay_runs-outside x (p ∷ ps) runs out = overlay_runs-outside x ps (put_bytes p.start p.bytes runs) (λ k d l. out (suc k) d (omega arith)) ∙ put_bytes-outside p.start p.bytes x runs (out 0 p (omega arith))

none_from_test : (t : Bool) (a : ℕ) → (if t then Some a else None) ≡ None → t ≡ false
none_from_test true a e = cc
none_from_test false a e = refl

-- no byte of a run is one of a run apart from it
pub elsewhere : (p q : Run) (k : ℕ) → DoesNotOverlap p q → k < length p.bytes → IsOutsideRun (p.start + k) q
elsewhere p q k apart l =
    let f = ltb-false (max p.start q.start) (min (p.start + length p.bytes) (q.start + length q.bytes)) (none_from_test _ _ apart) in
    elim (cases_lt (p.start + k) q.start) [
      | inl low ↦ inl low
      | inr from ↦ inr (omega (arith, f))
    ]

pub apart-rest : (p : Run) (ps : List Run) → AllPairs DoesNotOverlap (p ∷ ps) → AllPairs DoesNotOverlap ps
apart-rest p ps h = λ i j d l m. h (suc i) (suc j) d (omega arith) (omega arith)

pub overlay_runs-inside : (i : ℕ) (p : Run) (ps runs : List Run) (k : ℕ) → AllPairs DoesNotOverlap ps → i < length ps → get_or ps i p ≡ p → k < length p.bytes → ((j : ℕ) → j < length p.bytes → is_some (byte_of runs (p.start + j)) ≡ true) → byte_of (overlay_runs ps runs) (p.start + k) ≡ Some (get_or p.bytes k 0)
unfolding overlay_runs
overlay_runs-inside i p [] runs k apart l e m some = absurd (omega arith)
overlay_runs-inside zero p (q ∷ qs) runs k apart l e m some =
    let P : Run → Type 0 = λ r. k < length r.bytes → ((j : ℕ) → j < length r.bytes → is_some (byte_of runs (r.start + j)) ≡ true) → byte_of (overlay_runs qs (put_bytes q.start q.bytes runs)) (r.start + k) ≡ Some (get_or r.bytes k 0) in
    let here : P q = λ within held. overlay_runs-outside (q.start + k) qs (put_bytes q.start q.bytes runs) (λ j d n. elsewhere q (get_or qs j d) k (apart 0 (suc j) d (omega arith) (omega arith)) within) ∙ put_bytes-inside q.start q.bytes k runs within held in
    subst P e here m some
overlay_runs-inside (suc i) p (q ∷ qs) runs k apart l e m some =
    overlay_runs-inside i p qs (put_bytes q.start q.bytes runs) k (apart-rest q qs apart) (omega arith) e m (λ j n. put_bytes-loaded q.start q.bytes (p.start + j) runs ∙ some j n)

-- ---- memory below 2^64

record BelowEnd (m : Memory) (x : ℕ) : Type 0 where
  pub test : nat_lt x (2 ^ 64) ≡ true
  pub some : is_some (byte_of m.runs x) ≡ true

below_end : (m : Memory) (x : ℕ) → is_some (byte_in m x) ≡ true → BelowEnd m x
below_end m x h =
    elim (cases_Bool (nat_lt x (2 ^ 64))) [
      | inl t ↦ record { test = t; some = rw t at h }
      | inr f ↦ absurd (let g = rw f at h in cc)
    ]

pub parts-held : PartsAreHeld
parts-held m ps p apart c loaded = λ k l.
    let below = below_end m (p.start + k) (loaded k l) in
    rw (below.test) (overlay_runs-inside c.0 p ps m.runs k apart c.1 c.2 l (λ j n. let b = below_end m (p.start + j) (loaded j n) in b.some))

pub others-kept : OthersAreKept
others-kept m ps a out = rw (overlay_runs-outside a ps m.runs out) refl
