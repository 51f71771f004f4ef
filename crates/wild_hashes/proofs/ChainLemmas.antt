-- The look-up along GNU chains, through readers that read the chains and the names.
use Rattle.std.proofs.Common.{◌≡◌, ℕ, zero, suc, ◌+◌, ◌*◌, ◌/◌, ◌%◌, ◌<◌, ◌≤◌, Bool, true, false, List, [], ◌∷◌, length, map, get_or, refl, arith, ◌∙◌, sym, ap, inl, inr, Some, None, Result, Ok}
use Rattle.std.specs.Prelude.{bytes_eq, if◌then◌else◌, ◌==◌, nat_lt, AllPairs}
use Rattle.std.proofs.lemmas.Bool.{cases_eq, cases_Bool, ne_eqb, eq-eqb, lt-ltb, le-ltb}
use Rattle.std.proofs.lemmas.Slice.Eq.{bytes_eq-Decides}
use Rattle.wild_records.specs.Hashes.{gnu_hash}
use Rattle.wild_hashes.specs.declared.fault.LookupFault.{LookupFault}
use Rattle.wild_hashes.specs.Tables.{buckets, gnu_chains, is_last}
use Rattle.wild_hashes.specs.LookUp.{gnu_scan, is_named}
use Rattle.wild_hashes.specs.Laws.{first_named, Reads}
use Rattle.wild_hashes.proofs.BucketLemmas.{no_bucket, bucket_here, bucket_other}
use Rattle.wild_hashes.proofs.SysvLemmas.{reads_first, reads_rest, other_name}

-- the buckets of hashes ascend
abbrev pub Ascends : ℕ → List ℕ → Type 0
Ascends n hs = AllPairs (λ g h. g % n ≤ h % n) hs

pub ascends_rest : (n h : ℕ) (hs : List ℕ) → Ascends n (h ∷ hs) → Ascends n hs
ascends_rest n h hs a i j d l m = a (suc i) (suc j) d (omega arith) (omega arith)

pub ascends_first : (n h : ℕ) (hs : List ℕ) → Ascends n (h ∷ hs) → (k : ℕ) → k < length hs → h % n ≤ get_or hs k 0 % n
ascends_first n h hs a k l = a 0 (suc k) 0 (omega arith) (omega arith)

-- where no hash is of the name's bucket, the name is not there
pub none_named : (n i : ℕ) (ns : List (List ℕ)) (name : List ℕ) → ((k : ℕ) → k < length (map gnu_hash ns) → (get_or (map gnu_hash ns) k 0 % n ≡ gnu_hash name % n → ⊥)) → first_named i ns name ≡ None
none_named n i [] name h = refl
none_named n i (m ∷ ns) name h =
    let other = other_name gnu_hash m name (λ e. h 0 (omega arith) (ap (λ (g : ℕ). g % n) e)) in
    rw other (none_named n (i + 1) ns name (λ k l. h (suc k) (omega arith)))

-- behind a bucket's last symbol no name of the bucket comes
pub none_behind : (n i : ℕ) (m : List ℕ) (ns : List (List ℕ)) (name : List ℕ) → Ascends n (gnu_hash m ∷ map gnu_hash ns) → gnu_hash m % n ≡ gnu_hash name % n → is_last n (gnu_hash m) (map gnu_hash ns) ≡ true → first_named i ns name ≡ None
none_behind n i m [] name a e t = refl
none_behind n i m (p ∷ ns) name a e t =
    elim (cases_eq (gnu_hash p % n) (gnu_hash m % n)) [
      | inl s ↦ (let z : (gnu_hash p % n == gnu_hash m % n) ≡ true = eq-eqb _ _ s in absurd (let y = rw z at t in cc))
      | inr d ↦
          (let step : gnu_hash m % n ≤ gnu_hash p % n = ascends_first n (gnu_hash m) (gnu_hash p ∷ map gnu_hash ns) a 0 (omega arith) in
          none_named n i (p ∷ ns) name (λ k l e2. behind n (gnu_hash p) (map gnu_hash ns) (gnu_hash m % n) (ascends_rest n (gnu_hash m) (gnu_hash p ∷ map gnu_hash ns) a) (above (gnu_hash m % n) (gnu_hash p % n) step d) k l (e2 ∙ sym e)))
    ]
  where
    above : (a b : ℕ) → a ≤ b → (b ≡ a → ⊥) → a < b
    above a b l d = elim (cases_eq b a) [ inl e ↦ absurd (d e) | inr _ ↦ omega (arith, l, d) ]

    behind : (n h : ℕ) (hs : List ℕ) (b : ℕ) → Ascends n (h ∷ hs) → b < h % n → (k : ℕ) → k < length (h ∷ hs) → get_or (h ∷ hs) k 0 % n ≡ b → ⊥
    behind n h hs b a l zero m e = omega arith
    behind n h hs b a l (suc k) m e = let s = ascends_first n h hs a k (omega arith) in omega (arith, s, e, l)

-- the word of a chain: the hash but for bit 0, and that bit
word_hash : (h e : ℕ) → e < 2 → (2 * (h / 2) + e) / 2 ≡ h / 2
word_hash h e l = omega arith

word_end : (h e : ℕ) → e < 2 → (2 * (h / 2) + e) % 2 ≡ e
word_end h e l = omega arith

named_true : (named : ℕ → Result (List ℕ) LookupFault) (name : List ℕ) (h c i : ℕ) (found : List ℕ) → named i ≡ Ok found → c / 2 ≡ h / 2 → bytes_eq found name ≡ true → is_named named name h c i ≡ Ok true
named_true named name h c i found n e t = let z : (c / 2 == h / 2) ≡ true = eq-eqb _ _ e in rw (z, n) (ap (λ (b : Bool). Ok b) t)

named_false : (named : ℕ → Result (List ℕ) LookupFault) (name : List ℕ) (h c i : ℕ) (found : List ℕ) → named i ≡ Ok found → bytes_eq found name ≡ false → is_named named name h c i ≡ Ok false
named_false named name h c i found n f =
    elim (cases_Bool (c / 2 == h / 2)) [
      | inl t ↦ rw (t, n) (ap (λ (b : Bool). Ok b) f)
      | inr z ↦ rw z refl
    ]

-- one symbol of a chain
scan_found : (chain : ℕ → Result ℕ LookupFault) (named : ℕ → Result (List ℕ) LookupFault) (name : List ℕ) (h left i c : ℕ) → chain i ≡ Ok c → is_named named name h c i ≡ Ok true → gnu_scan chain named name h (suc left) i ≡ Ok (Some i)
scan_found chain named name h left i c r n = rw (r, n) refl

scan_last : (chain : ℕ → Result ℕ LookupFault) (named : ℕ → Result (List ℕ) LookupFault) (name : List ℕ) (h left i c : ℕ) → chain i ≡ Ok c → is_named named name h c i ≡ Ok false → c % 2 ≡ 1 → gnu_scan chain named name h (suc left) i ≡ Ok None
scan_last chain named name h left i c r n e = let z : (c % 2 == 1) ≡ true = eq-eqb _ _ e in rw (r, n, z) refl

scan_next : (chain : ℕ → Result ℕ LookupFault) (named : ℕ → Result (List ℕ) LookupFault) (name : List ℕ) (h left i c : ℕ) → chain i ≡ Ok c → is_named named name h c i ≡ Ok false → c % 2 ≡ 0 → gnu_scan chain named name h (suc left) i ≡ gnu_scan chain named name h left (i + 1)
scan_next chain named name h left i c r n e = let z : (c % 2 == 1) ≡ false = ne_eqb _ _ (λ y. omega (arith, e, y)) in rw (r, n, z) refl

word_hash_bit : (h : ℕ) (b : Bool) → (2 * (h / 2) + (if b then 1 else 0)) / 2 ≡ h / 2
word_hash_bit h true = omega arith
word_hash_bit h false = omega arith

last_word : (h : ℕ) (b : Bool) → b ≡ true → (2 * (h / 2) + (if b then 1 else 0)) % 2 ≡ 1
last_word h true e = omega arith
last_word h false e = absurd cc

more_word : (h : ℕ) (b : Bool) → b ≡ false → (2 * (h / 2) + (if b then 1 else 0)) % 2 ≡ 0
more_word h true e = absurd cc
more_word h false e = omega arith

-- one symbol of the name's bucket, where the answer is known from the next one of the bucket on
scan_one : (chain : ℕ → Result ℕ LookupFault) (named : ℕ → Result (List ℕ) LookupFault) (name : List ℕ) (n left i : ℕ) (m : List ℕ) (ns : List (List ℕ)) → gnu_hash m % n ≡ gnu_hash name % n
    → Ascends n (map gnu_hash (m ∷ ns)) → Reads chain i (gnu_chains n (map gnu_hash (m ∷ ns))) 0 → Reads named i (m ∷ ns) []
    → (is_last n (gnu_hash m) (map gnu_hash ns) ≡ false → gnu_scan chain named name (gnu_hash name) left (i + 1) ≡ Ok (first_named (i + 1) ns name))
    → gnu_scan chain named name (gnu_hash name) (suc left) i ≡ Ok (first_named i (m ∷ ns) name)
scan_one chain named name n left i m ns b a c r further =
    let named_here = reads_first named i m [] ns r in
    let chain_here = reads_first chain i _ 0 _ c in
    elim (cases_Bool (bytes_eq m name)) [
      | inl t ↦
          (let same : m ≡ name = (bytes_eq-Decides m name).0 t in
          let e = named_true named name (gnu_hash name) _ i m named_here (word_hash_bit (gnu_hash m) (is_last n (gnu_hash m) (map gnu_hash ns)) ∙ ap (λ (x : List ℕ). gnu_hash x / 2) same) t in
          rw t (scan_found chain named name (gnu_hash name) left i _ chain_here e))
      | inr f ↦
          (let e = named_false named name (gnu_hash name) _ i m named_here f in
          elim (cases_Bool (is_last n (gnu_hash m) (map gnu_hash ns))) [
            | inl t ↦
                (let none = none_behind n (i + 1) m ns name a b t in
                rw (f, none) (scan_last chain named name (gnu_hash name) left i _ chain_here e (last_word (gnu_hash m) _ t)))
            | inr more ↦
                (let next = scan_next chain named name (gnu_hash name) left i _ chain_here e (more_word (gnu_hash m) _ more) in
                rw f (next ∙ further more))
          ])
    ]

-- the chain from a symbol of the name's bucket on
pub gnu_scan_finds : (chain : ℕ → Result ℕ LookupFault) (named : ℕ → Result (List ℕ) LookupFault) (name : List ℕ) (n left i : ℕ) (m : List ℕ) (ns : List (List ℕ)) → length ns < left → gnu_hash m % n ≡ gnu_hash name % n
    → Ascends n (map gnu_hash (m ∷ ns)) → Reads chain i (gnu_chains n (map gnu_hash (m ∷ ns))) 0 → Reads named i (m ∷ ns) []
    → gnu_scan chain named name (gnu_hash name) left i ≡ Ok (first_named i (m ∷ ns) name)
gnu_scan_finds chain named name n zero i m ns l b a c r = absurd (omega arith)
gnu_scan_finds chain named name n (suc left) i m [] l b a c r = scan_one chain named name n left i m [] b a c r (λ more. absurd cc)
gnu_scan_finds chain named name n (suc left) i m (p ∷ ns) l b a c r =
    scan_one chain named name n left i m (p ∷ ns) b a c r
    (λ more.
    let same : gnu_hash p % n ≡ gnu_hash m % n = elim (cases_eq (gnu_hash p % n) (gnu_hash m % n)) [ inl s ↦ s | inr d ↦ absurd (let z : (gnu_hash p % n == gnu_hash m % n) ≡ false = ne_eqb _ _ d in let y = rw z at more in cc) ] in
    gnu_scan_finds chain named name n left (i + 1) p ns (omega arith) (same ∙ b) (ascends_rest n (gnu_hash m) (map gnu_hash (p ∷ ns)) a) (reads_rest chain i _ 0 (gnu_chains n (map gnu_hash (p ∷ ns))) c) (reads_rest named i m [] (p ∷ ns) r))

-- the chain from the bucket's first symbol on
pub gnu_bucket_finds : (chain : ℕ → Result ℕ LookupFault) (named : ℕ → Result (List ℕ) LookupFault) (name : List ℕ) (n left base i : ℕ) (ns : List (List ℕ)) → gnu_hash name % n < n → 1 ≤ base → base ≤ i → length ns ≤ left
    → Ascends n (map gnu_hash ns) → Reads chain i (gnu_chains n (map gnu_hash ns)) 0 → Reads named i ns []
    → (if nat_lt (get_or (buckets n i (map gnu_hash ns)) (gnu_hash name % n) 0) base then Ok None else gnu_scan chain named name (gnu_hash name) left (get_or (buckets n i (map gnu_hash ns)) (gnu_hash name % n) 0)) ≡ Ok (first_named i ns name)
gnu_bucket_finds chain named name n left base i [] b p o l a c r = let z : nat_lt 0 base ≡ true = lt-ltb 0 base (omega arith) in rw (no_bucket n i (gnu_hash name % n) b, z) refl
gnu_bucket_finds chain named name n left base i (m ∷ ns) b p o l a c r =
    elim (cases_eq (gnu_hash m % n) (gnu_hash name % n)) [
      | inl e ↦
          (let z : nat_lt i base ≡ false = le-ltb i base o in
          rw (bucket_here n i (gnu_hash name % n) (gnu_hash m) (map gnu_hash ns) b e, z) (gnu_scan_finds chain named name n left i m ns (omega arith) e a c r))
      | inr d ↦
          (let other = other_name gnu_hash m name (λ e. d (ap (λ (h : ℕ). h % n) e)) in
          rw (bucket_other n i (gnu_hash name % n) (gnu_hash m) (map gnu_hash ns) b d, other)
          (gnu_bucket_finds chain named name n left base (i + 1) ns b p (omega arith) (omega arith) (ascends_rest n (gnu_hash m) (map gnu_hash ns) a) (reads_rest chain i _ 0 (gnu_chains n (map gnu_hash ns)) c) (reads_rest named i m [] ns r)))
    ]
