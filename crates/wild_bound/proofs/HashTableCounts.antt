-- The number of symbols that a hash table tells.
use Rattle.wild_bound.proofs.Common.{◌≡◌, ℕ, zero, suc, ◌+◌, ◌-◌, ◌*◌, ◌/◌, ◌%◌, ◌^◌, ◌<◌, ◌≤◌, ◌⊎◌, inl, inr, true, false, if◌then◌else◌, List, [], ◌∷◌, ◌++◌, length, map, get_or, All, AllPairs, refl, sym, ap, ◌∙◌, arith, subst, Ok, ◌==◌, not, nat_lt, nat_le, max, cases_Bool, ne_eqb, eqb-true, All-nil, DynamicSymbol, gnu_hash_of, gnu_count, sysv_count}
use Rattle.std.proofs.lemmas.Bool.{eq-eqb, lt-ltb, le-ltb, le-leb}
use Rattle.std.proofs.lemmas.List.{length-append}
use Rattle.std.proofs.lemmas.List.Elements.{All-cons, All-head, All-tail, All-append}
use Rattle.std.proofs.Math.Nat.{mod-lt}
use Rattle.wild_words.specs.Words.{HasBytesAt}
use Rattle.wild_words.specs.Record.{spell}
use Rattle.wild_words.proofs.ListLemmas.{AllPairs-head, AllPairs-tail, AllPairs-cross}
use Rattle.wild_words.proofs.OverlayLemmas.{HasBytesAt-inner}
use Rattle.wild_words.proofs.RecordLemmas.{length-spell}
use Rattle.wild_records.specs.HashTables.{gnu_hash_header_size, gnu_hash_header_fields, gnu_hash_header_at, GnuHashHeaderIsRead}
use Rattle.wild_records.specs.declared.hash_tables.GnuHashHeader.{GnuHashHeader}
use Rattle.wild_hashes.specs.Laws.{IsValidGnuTable, ReadsWords}
use Rattle.wild_hashes.specs.Reading.{read}
use Rattle.wild_hashes.specs.Tables.{first_in, buckets, gnu_chains, words, gnu_table, sysv_table}
use Rattle.wild_hashes.proofs.BucketLemmas.{length-buckets, bucket_is, bucket_small}
use Rattle.wild_hashes.proofs.ChainLemmas.{Ascends}
use Rattle.wild_hashes.proofs.FoundLemmas.{chains_small, hash_small}
use Rattle.wild_hashes.proofs.TableLemmas.{gnu_stands, sysv_stands, reads_word, reads_words, length-gnu_chains, length-words}
use Rattle.wild_imports.specs.SymbolCount.{greatest_word, count_chain, count_from}

-- ---- System V

pub sysv_counted : (table : List ℕ) (n base : ℕ) (hs : List ℕ) → HasBytesAt table 0 (sysv_table n base hs) → base + length hs < 2 ^ 32 → sysv_count table ≡ Ok (base + length hs)
unfolding sysv_count
sysv_counted table n base hs st few =
    let pair : List ℕ = n ∷ (base + length hs) ∷ [] in
    let counts = HasBytesAt-inner table (sysv_table n base hs) (words 4 pair) 0 0 st (sysv_stands n base hs).counts in
    reads_word table 0 4 pair 1 counts (omega arith) (omega (arith, few))

-- ---- the last run of symbols of one bucket

-- the greatest first symbol of a bucket is the first one of the last run: the symbols from it on are in one bucket
record IsLastRun (n i : ℕ) (hs : List ℕ) : Type 0 where
  front : List ℕ
  first : ℕ
  rest : List ℕ
  is : hs ≡ front ++ first ∷ rest
  same : All (λ (g : ℕ). g % n ≡ first % n) rest
  there : first_in n (first % n) i hs ≡ i + length front
  most : (b : ℕ) → first_in n b i hs ≤ i + length front

none_in : (n b c i : ℕ) (hs : List ℕ) → All (λ (g : ℕ). g % n ≡ c) hs → (c == b) ≡ false → first_in n b i hs ≡ 0
none_in n b c i [] all other = refl
none_in n b c i (h ∷ hs) all other =
    let P : ℕ → Type 0 = λ g. g % n ≡ c in
    let e : (h % n == b) ≡ false = ap (λ (q : ℕ). q == b) (All-head P h hs all) ∙ other in
    rw e (none_in n b c (i + 1) hs (All-tail P h hs all) other)

-- if the first symbol's bucket is that of the last run, all symbols are in it
one_bucket : (n h : ℕ) (hs front : List ℕ) (first : ℕ) (rest : List ℕ) → Ascends n (h ∷ hs) → hs ≡ front ++ first ∷ rest → All (λ (g : ℕ). g % n ≡ first % n) rest → h % n ≡ first % n → All (λ (g : ℕ). g % n ≡ h % n) hs
one_bucket n h hs front first rest ascend is same e =
    let R : ℕ → ℕ → Type 0 = λ a b. a % n ≤ b % n in
    let low = AllPairs-head R h hs ascend in
    let pairs : AllPairs R (front ++ first ∷ rest) = subst (λ (xs : List ℕ). AllPairs R xs) is (AllPairs-tail R h hs ascend) in
    let cross = AllPairs-cross R front (first ∷ rest) pairs in
    let P : ℕ → Type 0 = λ g. g % n ≤ first % n in
    let before : All P front = λ k d lt. All-head (R (get_or front k d)) first rest (cross k d lt) in
    let after : All P rest = λ k d lt. (let q = same k d lt in omega (arith, q)) in
    let high : All P hs = subst (λ (xs : List ℕ). All P xs) (sym is) (All-append P front (first ∷ rest) before (All-cons P first rest (omega arith) after)) in
    λ k d lt. (let a = low k d lt in let b = high k d lt in omega (arith, a, b, e))

last_run : (n i h : ℕ) (hs : List ℕ) → Ascends n (h ∷ hs) → IsLastRun n i (h ∷ hs)
last_run n i h [] ascend =
    let here : (h % n == h % n) ≡ true = eq-eqb _ _ refl in
    record {
      front = [];
      first = h;
      rest = [];
      is = refl;
      same = All-nil (λ (g : ℕ). g % n ≡ h % n);
      there = rw here (omega arith);
      most = λ b. elim (cases_Bool (h % n == b)) [
        | inl t ↦ rw t (omega arith)
        | inr f ↦ rw f (omega arith)
      ];
    }
last_run n i h (g ∷ gs) ascend = by_run (last_run n (i + 1) g gs (AllPairs-tail (λ (a b : ℕ). a % n ≤ b % n) h (g ∷ gs) ascend))
  where
    all_in_one : (r : IsLastRun n (i + 1) (g ∷ gs)) → h % n ≡ r.first % n → IsLastRun n i (h ∷ g ∷ gs)
    all_in_one r e =
        let here : (h % n == h % n) ≡ true = eq-eqb _ _ refl in
        let one = one_bucket n h (g ∷ gs) r.front r.first r.rest ascend r.is r.same e in
        record {
          front = [];
          first = h;
          rest = g ∷ gs;
          is = refl;
          same = one;
          there = rw here (omega arith);
          most = λ b. elim (cases_Bool (h % n == b)) [
            | inl t ↦ rw t (omega arith)
            | inr f ↦ rw f (let none = none_in n b (h % n) (i + 1) (g ∷ gs) one f in omega (arith, none))
          ];
        }

    one_more : (r : IsLastRun n (i + 1) (g ∷ gs)) → (h % n == r.first % n) ≡ false → IsLastRun n i (h ∷ g ∷ gs)
    one_more r f =
        let at = r.there in
        record {
          front = h ∷ r.front;
          first = r.first;
          rest = r.rest;
          is = ap (λ (xs : List ℕ). h ∷ xs) r.is;
          same = r.same;
          there = rw f (omega (arith, at));
          most = λ b. elim (cases_Bool (h % n == b)) [
            | inl t ↦ rw t (omega arith)
            | inr u ↦ rw u (let m = r.most b in omega (arith, m))
          ];
        }

    by_run : IsLastRun n (i + 1) (g ∷ gs) → IsLastRun n i (h ∷ g ∷ gs)
    by_run r = elim (cases_Bool (h % n == r.first % n)) [
      | inl t ↦ all_in_one r (eqb-true _ _ t)
      | inr f ↦ one_more r f
    ]

-- ---- the greatest word

-- the list has the number
record HasItem (bs : List ℕ) (m : ℕ) : Type 0 where
  place : ℕ
  inside : place < length bs
  is : get_or bs place 0 ≡ m

-- no word of the list is greater
abbrev AreAtMost : List ℕ → ℕ → Type 0
AreAtMost bs m = (k : ℕ) → k < length bs → get_or bs k 0 ≤ m

reads_rest : (table : List ℕ) (at b : ℕ) (bs : List ℕ) → ReadsWords (read table) at 4 (b ∷ bs) → ReadsWords (read table) (at + 4) 4 bs
reads_rest table at b bs reads = λ k lt. (let place : at + 4 * suc k ≡ at + 4 + 4 * k = omega arith in rw place at (reads (suc k) (omega (arith, lt))))

reads_first : (table : List ℕ) (at b : ℕ) (bs : List ℕ) → ReadsWords (read table) at 4 (b ∷ bs) → read table at 4 ≡ Ok b
reads_first table at b bs reads = (let place : at + 4 * 0 ≡ at = omega arith in rw place at (reads 0 (omega arith)))

greatest_is : (table : List ℕ) (at best m : ℕ) (bs : List ℕ) → ReadsWords (read table) at 4 bs → best ≤ m → AreAtMost bs m → (best ≡ m) ⊎ HasItem bs m → greatest_word table (length bs) at best ≡ Ok m
unfolding greatest_word
greatest_is table at best m [] reads low most (inl e) = ap Ok e
greatest_is table at best m [] reads low most (inr h) = (let lt = h.inside in absurd (omega (arith, lt)))
greatest_is table at best m (b ∷ bs) reads low most one =
    let here = most 0 (omega arith) in
    rw (reads_first table at b bs reads)
    (greatest_is table (at + 4) (max best b) m bs (reads_rest table at b bs reads) (omega (arith, low, here)) (λ k lt. most (suc k) (omega (arith, lt))) (next one))
  where
    by_place : (k : ℕ) → k < length (b ∷ bs) → get_or (b ∷ bs) k 0 ≡ m → (max best b ≡ m) ⊎ HasItem bs m
    by_place zero lt e = inl (omega (arith, e, low))
    by_place (suc k) lt e = inr (record { place = k; inside = omega (arith, lt); is = e })

    next : (best ≡ m) ⊎ HasItem (b ∷ bs) m → (max best b ≡ m) ⊎ HasItem bs m
    next (inl e) = (let here = most 0 (omega arith) in inl (omega (arith, e, here)))
    next (inr h) = by_place h.place h.inside h.is

-- ---- the chain

-- the chain from a symbol on ends with the last one of its bucket
run_counted : (table : List ℕ) (n left at i h : ℕ) (rest : List ℕ) → All (λ (g : ℕ). g % n ≡ h % n) rest → ReadsWords (read table) at 4 (gnu_chains n (h ∷ rest)) → suc (length rest) ≤ left → count_chain table left at i ≡ Ok (i + suc (length rest))
unfolding count_chain
run_counted table n zero at i h rest same reads enough = absurd (omega (arith, enough))
run_counted table n (suc left) at i h [] same reads enough =
    let odd : ((2 * (h / 2) + 1) % 2 == 1) ≡ true = eq-eqb _ _ (omega arith) in
    rw (reads_first table at (2 * (h / 2) + 1) [] reads, odd) refl
run_counted table n (suc left) at i h (g ∷ gs) same reads enough =
    let P : ℕ → Type 0 = λ q. q % n ≡ h % n in
    let first = All-head P g gs same in
    let further = All-tail P g gs same in
    let one : (g % n == h % n) ≡ true = eq-eqb _ _ first in
    let word = 2 * (h / 2) + (if not (g % n == h % n) then 1 else 0) in
    let zero_bit : word ≡ 2 * (h / 2) = rw one (omega arith) in
    let even : (word % 2 == 1) ≡ false = ne_eqb (word % 2) 1 (λ e. omega (arith, e, zero_bit)) in
    let all : All (λ (q : ℕ). q % n ≡ g % n) gs = λ k d lt. further k d lt ∙ sym first in
    let more : i + 1 + suc (length gs) ≡ i + suc (length (g ∷ gs)) = omega arith in
    rw (reads_first table at word (gnu_chains n (g ∷ gs)) reads, even) (run_counted table n left (at + 4) (i + 1) g gs all (reads_rest table at word (gnu_chains n (g ∷ gs)) reads) (omega (arith, enough)) ∙ ap (λ (q : ℕ). Ok q) more)

-- the chain words of the symbols after others
reads_after : (table : List ℕ) (n at : ℕ) (front back : List ℕ) → ReadsWords (read table) at 4 (gnu_chains n (front ++ back)) → ReadsWords (read table) (at + 4 * length front) 4 (gnu_chains n back)
reads_after table n at [] back reads = (let place : at + 4 * 0 ≡ at = omega arith in rw place reads)
reads_after table n at (h ∷ front) back reads =
    let place : at + 4 + 4 * length front ≡ at + 4 * suc (length front) = omega arith in
    subst (λ (q : ℕ). ReadsWords (read table) q 4 (gnu_chains n back)) place (reads_after table n (at + 4) front back (reads_rest table at _ (gnu_chains n (front ++ back)) reads))

-- ---- GNU

header_length : (t : GnuHashHeader) → length (spell (gnu_hash_header_fields t)) ≡ gnu_hash_header_size
unfolding gnu_hash_header_fields
header_length t = length-spell (gnu_hash_header_fields t)

-- the number of symbols by the greatest bucket
count_by_run : (table : List ℕ) (t : GnuHashHeader) (hs : List ℕ) → Ascends t.bucket_count hs → 1 ≤ t.bucket_count → 1 ≤ t.symbol_base → ReadsWords (read table) (16 + 8 * t.bloom_count) 4 (buckets t.bucket_count t.symbol_base hs)
    → ReadsWords (read table) (16 + 8 * t.bloom_count + 4 * t.bucket_count) 4 (gnu_chains t.bucket_count hs) → length hs ≤ length table → (last : ℕ) × (greatest_word table t.bucket_count (16 + 8 * t.bloom_count) 0 ≡ Ok last) × (count_from table t last ≡ Ok (t.symbol_base + length hs))
count_by_run table t [] ascend some one bs cs enough =
    let n = t.bucket_count in
    let long = length-buckets n t.symbol_base [] in
    let none : AreAtMost (buckets n t.symbol_base []) 0 = λ k lt. (let z = bucket_is n t.symbol_base k [] (omega (arith, lt, long)) in omega (arith, z)) in
    let before : nat_lt 0 t.symbol_base ≡ true = lt-ltb _ _ one in
    let most = greatest_is table (16 + 8 * t.bloom_count) 0 0 (buckets n t.symbol_base []) bs (omega arith) none (inl refl) in
    (0, subst (λ (q : ℕ). greatest_word table q (16 + 8 * t.bloom_count) 0 ≡ Ok 0) long most, rw before (ap (λ (q : ℕ). Ok q) (omega arith)))
count_by_run table t (h ∷ hs) ascend some one bs cs enough =
    let n = t.bucket_count in
    let base = t.symbol_base in
    let r = last_run n base h hs ascend in
    let last = base + length r.front in
    let long = length-buckets n base (h ∷ hs) in
    let in_range : r.first % n < n = mod-lt r.first some in
    let at = r.there in
    let most : AreAtMost (buckets n base (h ∷ hs)) last = λ k lt. (let z = bucket_is n base k (h ∷ hs) (omega (arith, lt, long)) in let m = r.most k in omega (arith, z, m)) in
    let item : HasItem (buckets n base (h ∷ hs)) last = record { place = r.first % n; inside = omega (arith, in_range, long); is = bucket_is n base (r.first % n) (h ∷ hs) in_range ∙ at } in
    let greatest = greatest_is table (16 + 8 * t.bloom_count) 0 last (buckets n base (h ∷ hs)) bs (omega arith) most (inr item) in
    let after : nat_lt last base ≡ false = le-ltb _ _ (omega arith) in
    let parts = ap length r.is ∙ length-append r.front (r.first ∷ r.rest) in
    let chains = reads_after table n (16 + 8 * t.bloom_count + 4 * n) r.front (r.first ∷ r.rest) (subst (λ (xs : List ℕ). ReadsWords (read table) (16 + 8 * t.bloom_count + 4 * n) 4 (gnu_chains n xs)) r.is cs) in
    let run = run_counted table n (length table) (16 + 8 * t.bloom_count + 4 * n + 4 * length r.front) last r.first r.rest r.same chains (omega (arith, parts, enough)) in
    let place : last - base ≡ length r.front = omega arith in
    let total : last + suc (length r.rest) ≡ base + length (h ∷ hs) = omega (arith, parts) in
    (last, subst (λ (q : ℕ). greatest_word table q (16 + 8 * t.bloom_count) 0 ≡ Ok last) long greatest, rw (after, place) (run ∙ ap (λ (q : ℕ). Ok q) total))

pub gnu_counted : GnuHashHeaderIsRead → (table : List ℕ) (t : GnuHashHeader) (hs : List ℕ) → HasBytesAt table 0 (gnu_table t hs) → 1 ≤ t.symbol_base → t.symbol_base + length hs < 2 ^ 32 → IsValidGnuTable t hs → ((k : ℕ) → k < length hs → get_or hs k 0 < 2 ^ 32) → gnu_count table ≡ Ok (t.symbol_base + length hs)
unfolding gnu_count
gnu_counted law table t hs st one few valid small =
    let s = gnu_stands t hs in
    let n = t.bucket_count in
    let base = t.symbol_base in
    let front = HasBytesAt-inner table (gnu_table t hs) (spell (gnu_hash_header_fields t)) 0 0 st s.header in
    let size = header_length t in
    let within = front.fits in
    let fits : nat_le gnu_hash_header_size (length table) ≡ true = le-leb _ _ (omega (arith, size, within)) in
    let header : gnu_hash_header_at table 0 ≡ t = law table 0 t valid.fits front in
    let long = length-buckets n base hs in
    let buckets_there = HasBytesAt-inner table (gnu_table t hs) (words 4 (buckets n base hs)) 0 (16 + 8 * t.bloom_count) st s.buckets in
    let chains_there = HasBytesAt-inner table (gnu_table t hs) (words 4 (gnu_chains n hs)) 0 (16 + 8 * t.bloom_count + 4 * n) st s.chains in
    let bs = reads_words table (0 + (16 + 8 * t.bloom_count)) 4 (buckets n base hs) buckets_there (λ k l. bucket_small n base k (2 ^ 32) hs (omega (arith, few)) (omega (arith, l, long)) (omega arith)) in
    let cs = reads_words table (0 + (16 + 8 * t.bloom_count + 4 * n)) 4 (gnu_chains n hs) chains_there (chains_small n hs small) in
    let lies = chains_there.fits in
    let wide = length-words 4 (gnu_chains n hs) in
    let many = length-gnu_chains n hs in
    let one_at : 0 + (16 + 8 * t.bloom_count) ≡ 16 + 8 * t.bloom_count = omega arith in
    let two_at : 0 + (16 + 8 * t.bloom_count + 4 * n) ≡ 16 + 8 * t.bloom_count + 4 * n = omega arith in
    let c = count_by_run table t hs valid.ascend valid.some_bucket one (subst (λ (q : ℕ). ReadsWords (read table) q 4 (buckets n base hs)) one_at bs) (subst (λ (q : ℕ). ReadsWords (read table) q 4 (gnu_chains n hs)) two_at cs) (omega (arith, lies, wide, many)) in
    rw (fits, header, c.1, c.2) refl

-- ---- the hashes of names

pub hashes_small : (ds : List DynamicSymbol) (k : ℕ) → k < length (map gnu_hash_of ds) → get_or (map gnu_hash_of ds) k 0 < 2 ^ 32
unfolding gnu_hash_of
hashes_small [] k l = absurd (omega (arith, l))
hashes_small (d ∷ ds) zero l = hash_small d.name
hashes_small (d ∷ ds) (suc k) l = hashes_small ds k (omega (arith, l))
