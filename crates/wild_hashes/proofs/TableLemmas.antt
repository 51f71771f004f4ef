-- The words of tables, read where they stand.
use Rattle.std.proofs.Common.{Result, ◌≡◌, ℕ, zero, suc, ◌+◌, ◌-◌, ◌*◌, ◌%◌, ◌^◌, ◌<◌, ◌≤◌, List, [], ◌∷◌, ◌++◌, length, get_or, replicate, refl, arith, ◌∙◌, ap, Ok}
use Rattle.std.proofs.lemmas.Bool.{le-leb}
use Rattle.std.proofs.lemmas.List.{length-append, length-replicate}
use Rattle.wild_words.specs.Words.{word, HasBytesAt}
use Rattle.wild_words.specs.Record.{spell}
use Rattle.wild_words.proofs.WordLemmas.{length-word}
use Rattle.wild_words.proofs.OverlayLemmas.{HasBytesAt-inner}
use Rattle.wild_words.proofs.RecordLemmas.{HasBytesAt-left, HasBytesAt-right, number-stands, length-spell}
use Rattle.wild_records.specs.HashTables.{gnu_hash_header_fields}
use Rattle.wild_records.specs.declared.hash_tables.GnuHashHeader.{GnuHashHeader}
use Rattle.wild_hashes.specs.declared.fault.LookupFault.{LookupFault}
use Rattle.wild_hashes.specs.Tables.{buckets, sysv_chains, bloom, gnu_chains, words, gnu_table, sysv_table}
use Rattle.wild_hashes.specs.Reading.{read}
use Rattle.wild_hashes.specs.LookUp.{chain_word}
use Rattle.wild_hashes.proofs.BucketLemmas.{length-buckets, first_small}
use Rattle.wild_hashes.proofs.BloomLemmas.{length-bloom}
use Rattle.wild_hashes.specs.Laws.{Reads, ReadsWords, LengthsOfSysvTables, LengthsOfGnuTables}

pub length-words : (w : ℕ) (xs : List ℕ) → length (words w xs) ≡ w * length xs
unfolding words
length-words w [] = omega arith
length-words w (x ∷ xs) =
    let e : w * suc (length xs) ≡ w + w * length xs = omega arith in
    length-append (word w x) (words w xs) ∙ rw (length-word w x, length-words w xs, e) refl

-- each word stands at its place
pub HasBytesAt-word : (w : ℕ) (xs : List ℕ) (k : ℕ) → k < length xs → HasBytesAt (words w xs) (w * k) (word w (get_or xs k 0))
unfolding words
HasBytesAt-word w [] k l = absurd (omega arith)
HasBytesAt-word w (x ∷ xs) zero l = let e : w * 0 ≡ 0 = omega arith in rw e (HasBytesAt-left (word w x) (words w xs))
HasBytesAt-word w (x ∷ xs) (suc k) l =
    let e : length (word w x) + w * k ≡ w * suc k = let n = length-word w x in omega arith in
    rw e at (HasBytesAt-right (word w x) (words w xs) (word w (get_or xs k 0)) (w * k) (HasBytesAt-word w xs k (omega arith)))

-- each word is read where they stand
pub reads_word : (table : List ℕ) (at w : ℕ) (xs : List ℕ) (k : ℕ) → HasBytesAt table at (words w xs) → k < length xs → get_or xs k 0 < 256 ^ w → read table (at + w * k) w ≡ Ok (get_or xs k 0)
unfolding read
reads_word table at w xs k s l b =
    let here = HasBytesAt-inner table (words w xs) (word w (get_or xs k 0)) at (w * k) s (HasBytesAt-word w xs k l) in
    let fits = rw (length-word w (get_or xs k 0)) at here.fits in
    rw (le-leb (at + w * k + w) (length table) fits, number-stands table (at + w * k) w (get_or xs k 0) here b) refl

-- words that stand in bytes are read
pub reads_words : (table : List ℕ) (at w : ℕ) (xs : List ℕ) → HasBytesAt table at (words w xs) → ((k : ℕ) → k < length xs → get_or xs k 0 < 256 ^ w) → ReadsWords (read table) at w xs
reads_words table at w xs s b k l = reads_word table at w xs k s l (b k l)

-- the chain from a symbol on
pub reads_chain : (read : ℕ → ℕ → Result ℕ LookupFault) (at from base i : ℕ) (xs : List ℕ) → ReadsWords read at 4 xs → base ≤ i → at ≡ from + 4 * (i - base) → Reads (chain_word read from base) i xs 0
unfolding chain_word
reads_chain read at from base i xs s l e k m =
    let place : at + 4 * k ≡ from + 4 * (i + k - base) = omega arith in
    rw place at (s k m)

-- ---- System V

pub length-sysv_chains : (n i : ℕ) (hs : List ℕ) → length (sysv_chains n i hs) ≡ length hs
length-sysv_chains n i [] = refl
length-sysv_chains n i (h ∷ hs) = let e = length-sysv_chains n (i + 1) hs in omega arith

pub sysv_chains_small : (n i m : ℕ) (hs : List ℕ) → 0 < n → i + length hs ≤ m → (k : ℕ) → k < length (sysv_chains n i hs) → get_or (sysv_chains n i hs) k 0 < m
sysv_chains_small n i m [] p h k l = absurd (omega arith)
sysv_chains_small n i m (g ∷ hs) p h zero l = first_small n (g % n) (i + 1) m hs (omega arith) (omega arith)
sysv_chains_small n i m (g ∷ hs) p h (suc k) l = sysv_chains_small n (i + 1) m hs p (omega arith) k (omega arith)

-- the parts of a System V table stand in bytes
pub record SysvStands (table : List ℕ) (n base : ℕ) (hs : List ℕ) : Type 0 where
  pub counts : HasBytesAt table 0 (words 4 (n ∷ (base + length hs) ∷ []))
  pub buckets : HasBytesAt table 8 (words 4 (buckets n base hs))
  pub chains : HasBytesAt table (8 + 4 * n + 4 * base) (words 4 (sysv_chains n base hs))

pub sysv_stands : (n base : ℕ) (hs : List ℕ) → SysvStands (sysv_table n base hs) n base hs
unfolding sysv_table
sysv_stands n base hs =
    let front : List ℕ = words 4 (n ∷ (base + length hs) ∷ []) in
    let bs : List ℕ = words 4 (buckets n base hs) in
    let none : List ℕ = words 4 (replicate base 0) in
    let cs : List ℕ = words 4 (sysv_chains n base hs) in
    let one : length front ≡ 8 = length-words 4 (n ∷ (base + length hs) ∷ []) in
    let two : length bs ≡ 4 * n = length-words 4 (buckets n base hs) ∙ ap (λ (k : ℕ). 4 * k) (length-buckets n base hs) in
    let three : length none ≡ 4 * base = length-words 4 (replicate base 0) ∙ ap (λ (k : ℕ). 4 * k) (length-replicate base 0) in
    let buckets_at : length front + 0 ≡ 8 = omega arith in
    let chains_at : length front + (length bs + (length none + 0)) ≡ 8 + 4 * n + 4 * base = omega arith in
    let last : HasBytesAt cs 0 cs = record { fits = omega arith; same = λ k l. let z : 0 + k ≡ k = omega arith in rw z refl } in
    record {
      counts = HasBytesAt-left front (bs ++ (none ++ cs));
      buckets = rw buckets_at at (HasBytesAt-right front (bs ++ (none ++ cs)) bs 0 (HasBytesAt-left bs (none ++ cs)));
      chains = rw chains_at at (HasBytesAt-right front (bs ++ (none ++ cs)) cs (length bs + (length none + 0)) (HasBytesAt-right bs (none ++ cs) cs (length none + 0) (HasBytesAt-right none cs cs 0 last)));
    }

-- ---- GNU

pub length-gnu_chains : (n : ℕ) (hs : List ℕ) → length (gnu_chains n hs) ≡ length hs
length-gnu_chains n [] = refl
length-gnu_chains n (h ∷ hs) = let e = length-gnu_chains n hs in omega arith

-- the parts of a GNU table stand in bytes
pub record GnuStands (table : List ℕ) (t : GnuHashHeader) (hs : List ℕ) : Type 0 where
  pub header : HasBytesAt table 0 (spell (gnu_hash_header_fields t))
  pub bloom : HasBytesAt table 16 (words 8 (bloom t.bloom_count t.bloom_shift hs))
  pub buckets : HasBytesAt table (16 + 8 * t.bloom_count) (words 4 (buckets t.bucket_count t.symbol_base hs))
  pub chains : HasBytesAt table (16 + 8 * t.bloom_count + 4 * t.bucket_count) (words 4 (gnu_chains t.bucket_count hs))

length-header : (t : GnuHashHeader) → length (spell (gnu_hash_header_fields t)) ≡ 16
unfolding gnu_hash_header_fields
length-header t = length-spell (gnu_hash_header_fields t)

pub gnu_stands : (t : GnuHashHeader) (hs : List ℕ) → GnuStands (gnu_table t hs) t hs
unfolding gnu_table
gnu_stands t hs =
    let front : List ℕ = spell (gnu_hash_header_fields t) in
    let filter : List ℕ = words 8 (bloom t.bloom_count t.bloom_shift hs) in
    let bs : List ℕ = words 4 (buckets t.bucket_count t.symbol_base hs) in
    let cs : List ℕ = words 4 (gnu_chains t.bucket_count hs) in
    let one : length front ≡ 16 = length-header t in
    let two : length filter ≡ 8 * t.bloom_count = length-words 8 (bloom t.bloom_count t.bloom_shift hs) ∙ ap (λ (k : ℕ). 8 * k) (length-bloom t.bloom_count t.bloom_shift hs) in
    let three : length bs ≡ 4 * t.bucket_count = length-words 4 (buckets t.bucket_count t.symbol_base hs) ∙ ap (λ (k : ℕ). 4 * k) (length-buckets t.bucket_count t.symbol_base hs) in
    let bloom_at : length front + 0 ≡ 16 = omega arith in
    let buckets_at : length front + (length filter + 0) ≡ 16 + 8 * t.bloom_count = omega arith in
    let chains_at : length front + (length filter + (length bs + 0)) ≡ 16 + 8 * t.bloom_count + 4 * t.bucket_count = omega arith in
    let last : HasBytesAt cs 0 cs = record { fits = omega arith; same = λ k l. let z : 0 + k ≡ k = omega arith in rw z refl } in
    record {
      header = HasBytesAt-left front (filter ++ (bs ++ cs));
      bloom = rw bloom_at at (HasBytesAt-right front (filter ++ (bs ++ cs)) filter 0 (HasBytesAt-left filter (bs ++ cs)));
      buckets = rw buckets_at at (HasBytesAt-right front (filter ++ (bs ++ cs)) bs (length filter + 0) (HasBytesAt-right filter (bs ++ cs) bs 0 (HasBytesAt-left bs cs)));
      chains = rw chains_at at (HasBytesAt-right front (filter ++ (bs ++ cs)) cs (length filter + (length bs + 0)) (HasBytesAt-right filter (bs ++ cs) cs (length bs + 0) (HasBytesAt-right bs cs cs 0 last)));
    }

-- ---- lengths

length-four : (a b c d : List ℕ) → length (a ++ (b ++ (c ++ d))) ≡ length a + length b + length c + length d
length-four a b c d =
    let e = length-append a (b ++ (c ++ d)) in
    let f = length-append b (c ++ d) in
    let g = length-append c d in
    omega (arith, e, f, g)

pub length-sysv_table : LengthsOfSysvTables
unfolding sysv_table
length-sysv_table n base hs =
    let whole = length-four (words 4 (n ∷ (base + length hs) ∷ [])) (words 4 (buckets n base hs)) (words 4 (replicate base 0)) (words 4 (sysv_chains n base hs)) in
    let one = length-words 4 (n ∷ (base + length hs) ∷ []) in
    let two = length-words 4 (buckets n base hs) in
    let three = length-words 4 (replicate base 0) in
    let four = length-words 4 (sysv_chains n base hs) in
    let b = length-buckets n base hs in
    let r = length-replicate {A = ℕ} base 0 in
    let c = length-sysv_chains n base hs in
    omega (arith, whole, one, two, three, four, b, r, c)

pub length-gnu_table : LengthsOfGnuTables
unfolding gnu_table
length-gnu_table t hs =
    let whole = length-four (spell (gnu_hash_header_fields t)) (words 8 (bloom t.bloom_count t.bloom_shift hs)) (words 4 (buckets t.bucket_count t.symbol_base hs)) (words 4 (gnu_chains t.bucket_count hs)) in
    let one = length-header t in
    let two = length-words 8 (bloom t.bloom_count t.bloom_shift hs) in
    let three = length-words 4 (buckets t.bucket_count t.symbol_base hs) in
    let four = length-words 4 (gnu_chains t.bucket_count hs) in
    let f = length-bloom t.bloom_count t.bloom_shift hs in
    let b = length-buckets t.bucket_count t.symbol_base hs in
    let c = length-gnu_chains t.bucket_count hs in
    omega (arith, whole, one, two, three, four, f, b, c)
