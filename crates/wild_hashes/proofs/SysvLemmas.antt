-- The look-up along System V chains, through readers that read the chains and the names.
use Rattle.std.proofs.Common.{◌≡◌, ℕ, zero, suc, ◌+◌, ◌%◌, ◌<◌, ◌≤◌, Bool, true, false, List, [], ◌∷◌, length, map, get_or, refl, arith, ◌∙◌, sym, ap, inl, inr, Option, Some, None, Result, Ok}
use Rattle.std.specs.Prelude.{bytes_eq, if◌then◌else◌, ◌==◌}
use Rattle.std.proofs.lemmas.Bool.{cases_eq, cases_Bool, ne_eqb}
use Rattle.std.proofs.lemmas.Slice.Eq.{bytes_eq-Decides}
use Rattle.wild_records.specs.Hashes.{sysv_hash}
use Rattle.wild_hashes.specs.declared.fault.LookupFault.{LookupFault}
use Rattle.wild_hashes.specs.Tables.{first_in, buckets, sysv_chains}
use Rattle.wild_hashes.specs.LookUp.{sysv_scan}
use Rattle.wild_hashes.specs.Laws.{first_named, Reads}
use Rattle.wild_hashes.proofs.BucketLemmas.{no_bucket, bucket_is, bucket_here, bucket_other}

pub reads_first : {X : Type 0} (read : ℕ → Result X LookupFault) (i : ℕ) (x d : X) (xs : List X) → Reads read i (x ∷ xs) d → read i ≡ Ok x
reads_first read i x d xs h = let e : i + 0 ≡ i = omega arith in rw e at (h 0 (omega arith))

pub reads_rest : {X : Type 0} (read : ℕ → Result X LookupFault) (i : ℕ) (x d : X) (xs : List X) → Reads read i (x ∷ xs) d → Reads read (i + 1) xs d
reads_rest read i x d xs h k l = let e : i + 1 + k ≡ i + suc k = omega arith in rw e (h (suc k) (omega arith))

sysv_end : (chain : ℕ → Result ℕ LookupFault) (named : ℕ → Result (List ℕ) LookupFault) (name : List ℕ) (left : ℕ) → sysv_scan chain named name left 0 ≡ Ok None
sysv_end chain named name zero = refl
sysv_end chain named name (suc left) = refl

sysv_step : (chain : ℕ → Result ℕ LookupFault) (named : ℕ → Result (List ℕ) LookupFault) (name : List ℕ) (left i j : ℕ) (found : List ℕ) → 1 ≤ i → named i ≡ Ok found → chain i ≡ Ok j
    → sysv_scan chain named name (suc left) i ≡ (if bytes_eq found name then Ok (Some i) else sysv_scan chain named name left j)
sysv_step chain named name left i j found p n c =
    let e : (i == 0) ≡ false = ne_eqb i 0 (λ z. omega arith) in
    rw (e, n, c) refl

-- the answer, past one symbol
pub chosen : (b : Bool) (i : ℕ) (rest : Result (Option ℕ) LookupFault) (other : Option ℕ) → rest ≡ Ok other → (if b then Ok (Some i) else rest) ≡ Ok (if b then Some i else other)
chosen true i rest other h = refl
chosen false i rest other h = h

-- a name of another hash is another name
pub other_name : (f : List ℕ → ℕ) (m name : List ℕ) → (f m ≡ f name → ⊥) → bytes_eq m name ≡ false
other_name f m name d = elim (cases_Bool (bytes_eq m name)) [ inl t ↦ absurd (d (ap f ((bytes_eq-Decides m name).0 t))) | inr n ↦ n ]

pub sysv_scan_finds : (chain : ℕ → Result ℕ LookupFault) (named : ℕ → Result (List ℕ) LookupFault) (name : List ℕ) (n left i : ℕ) (ns : List (List ℕ)) → sysv_hash name % n < n → 1 ≤ i → length ns ≤ left
    → Reads chain i (sysv_chains n i (map sysv_hash ns)) 0 → Reads named i ns []
    → sysv_scan chain named name left (get_or (buckets n i (map sysv_hash ns)) (sysv_hash name % n) 0) ≡ Ok (first_named i ns name)
sysv_scan_finds chain named name n left i [] b p l c r = rw (no_bucket n i (sysv_hash name % n) b) (sysv_end chain named name left)
sysv_scan_finds chain named name n zero i (m ∷ ns) b p l c r = absurd (omega arith)
sysv_scan_finds chain named name n (suc left) i (m ∷ ns) b p l c r =
    let hs : List ℕ = map sysv_hash ns in
    elim (cases_eq (sysv_hash m % n) (sysv_hash name % n)) [
      | inl e ↦
          (let here = bucket_here n i (sysv_hash name % n) (sysv_hash m) hs b e in
          let there = reads_first chain i (first_in n (sysv_hash m % n) (i + 1) hs) 0 (sysv_chains n (i + 1) hs) c ∙ ap (λ (x : ℕ). Ok x) (sym (bucket_is n (i + 1) (sysv_hash m % n) hs (omega (arith, e, b)))) in
          let next = rw e at there in
          let rest = sysv_scan_finds chain named name n left (i + 1) ns b (omega arith) (omega arith) (reads_rest chain i _ 0 _ c) (reads_rest named i m [] ns r) in
          rw here (sysv_step chain named name left i _ m p (reads_first named i m [] ns r) next ∙ chosen (bytes_eq m name) i _ _ rest))
      | inr d ↦
          (let other = other_name sysv_hash m name (λ e. d (ap (λ (h : ℕ). h % n) e)) in
          rw (bucket_other n i (sysv_hash name % n) (sysv_hash m) hs b d, other)
          (sysv_scan_finds chain named name n (suc left) (i + 1) ns b (omega arith) (omega arith) (reads_rest chain i _ 0 _ c) (reads_rest named i m [] ns r)))
    ]
