-- The steps of the writers.
use Rattle.std.proofs.Common.{◌≡◌, ℕ, zero, suc, ◌+◌, ◌-◌, ◌*◌, ◌/◌, ◌%◌, ◌^◌, ◌<◌, ◌≤◌, Bool, true, false, not, List, [], ◌∷◌, ◌++◌, length, take, drop, map, get_or, set, replicate, refl, sym, ap, ◌∙◌, arith, append_assoc, bit_or}
use Rattle.std.specs.Prelude.{if◌then◌else◌, ◌==◌, slice_range}
use Rattle.std.proofs.lemmas.List.{append-nil, length-take-le, length-map, length-drop, replicate-append-replicate}
use Rattle.std.proofs.Math.Nat.{mod-lt}
use Rattle.std.proofs.Math.Seq.{take-append-add, drop-append-add, drop-cons, take-length, drop-length, drop-append_seam}
use Rattle.wild_words.specs.Words.{word, number, place}
use Rattle.wild_words.proofs.WordLemmas.{length-word}
use Rattle.wild_words.proofs.OverlayLemmas.{length-place}
use Rattle.wild_words.proofs.RecordLemmas.{number-stands}
use Rattle.wild_types.specs.declared.layout.DynamicSymbol.{DynamicSymbol}
use Rattle.wild_hashes.specs.Tables.{gnu_hash_of, sysv_hash_of, words, buckets, bloom, with_bits, gnu_chains, sysv_chains, is_last}
use Rattle.wild_hashes.proofs.TableLemmas.{HasBytesAt-word}
use Rattle.wild_hashes.proofs.BucketLemmas.{length-buckets, bucket_small, bucket_is, buckets-nil, buckets-cons}
use Rattle.wild_hashes.proofs.BloomLemmas.{length-bloom, bloom_small, bloom-nil, bloom-cons}

-- bytes put behind a front
place_behind : (front part old : List ℕ) (a : ℕ) → place (length front + a) part (front ++ old) ≡ front ++ place a part old
unfolding place
place_behind front part old a =
    let e : length front + a + length part ≡ length front + (a + length part) = omega arith in
    rw (e, take-append-add front old a, drop-append-add front old (a + length part)) (append_assoc front (take a old) (part ++ drop (a + length part) old))

-- bytes put at the front over as many
place_front : (part front old : List ℕ) → length part ≡ length front → place 0 part (front ++ old) ≡ part ++ old
unfolding place
place_front part front old e =
    let z : 0 + length part ≡ length front = omega arith in
    rw (z, drop-append_seam front old) refl

-- a word put over a word
pub place-word : (w k x : ℕ) (xs : List ℕ) → k < length xs → place (w * k) (word w x) (words w xs) ≡ words w (set xs k x)
unfolding words
place-word w k x [] l = absurd (omega arith)
place-word w zero x (y ∷ ys) l =
    let z : w * 0 ≡ 0 = omega arith in
    rw z (place_front (word w x) (word w y) (words w ys) (length-word w x ∙ sym (length-word w y)))
place-word w (suc k) x (y ∷ ys) l =
    let z : w * suc k ≡ length (word w y) + w * k = let n = length-word w y in omega arith in
    rw z (place_behind (word w y) (word w x) (words w ys) (w * k) ∙ ap (λ (r : List ℕ). word w y ++ r) (place-word w k x ys (omega arith)))

zero_word : (w : ℕ) → word w 0 ≡ replicate w 0
unfolding word
zero_word zero = refl
zero_word (suc w) = ap (λ (r : List ℕ). 0 ∷ r) (zero_word w)

-- zeros are words of 0
pub zero_words : (w n m : ℕ) → m ≡ w * n → replicate m 0 ≡ words w (replicate n 0)
unfolding words
zero_words w zero m e = let z : m ≡ 0 = omega arith in rw z refl
zero_words w (suc n) m e =
    let z : m ≡ w + w * n = omega arith in
    rw (z, zero_word w) (sym (replicate-append-replicate w (w * n) 0) ∙ ap (λ (r : List ℕ). replicate w 0 ++ r) (zero_words w n (w * n) refl))

-- the hashes from one name on
pub hashes_from : (f : DynamicSymbol → ℕ) (names : List DynamicSymbol) (i j : ℕ) (x : DynamicSymbol) → i < length names → j ≡ i + 1 → x ≡ get_or names i x → map f (drop i names) ≡ f x ∷ map f (drop j names)
hashes_from f names i j x l e r =
    let s : j ≡ suc i = omega arith in
    rw (s, drop-cons names i x l) (ap (λ (y : DynamicSymbol). f y ∷ map f (drop (suc i) names)) (sym r))

pub hashes_behind : (f : DynamicSymbol → ℕ) (names : List DynamicSymbol) → map f (drop (length names) names) ≡ []
hashes_behind f names = rw (drop-length names) refl

-- one symbol more in the buckets
pub buckets_more : (f : DynamicSymbol → ℕ) (n base i j : ℕ) (names : List DynamicSymbol) (x : DynamicSymbol) → f x % n < n → i < length names → j ≡ i + 1 → x ≡ get_or names i x
    → place (4 * (f x % n)) (word 4 (base + i)) (words 4 (buckets n (base + j) (map f (drop j names)))) ≡ words 4 (buckets n (base + i) (map f (drop i names)))
buckets_more f n base i j names x p l e r =
    let s : base + j ≡ base + i + 1 = omega arith in
    let b = length-buckets n (base + i + 1) (map f (drop j names)) in
    rw (s, hashes_from f names i j x l e r) (place-word 4 (f x % n) (base + i) (buckets n (base + i + 1) (map f (drop j names))) (omega arith) ∙ ap (words 4) (buckets-cons n (base + i) (f x) (map f (drop j names)) p))

-- none in the buckets
pub buckets_none : (f : DynamicSymbol → ℕ) (n base i m : ℕ) (names : List DynamicSymbol) → m ≡ 4 * n → i ≡ length names → replicate m 0 ≡ words 4 (buckets n (base + i) (map f (drop i names)))
buckets_none f n base i m names e s = rw (s, hashes_behind f names) (zero_words 4 n m e ∙ ap (words 4) (sym (buckets-nil n (base + length names))))

pub buckets_all : (f : DynamicSymbol → ℕ) (n base i : ℕ) (names : List DynamicSymbol) → i ≡ 0 → words 4 (buckets n (base + i) (map f (drop i names))) ≡ words 4 (buckets n base (map f names))
buckets_all f n base i names e = let z : base + 0 ≡ base = omega arith in rw (e, z) refl

pub place_within : (n h : ℕ) → 0 < n → 4 * (h % n) + 4 ≤ 4 * n
place_within n h p = let e = mod-lt h p in omega (arith, e)

pub ruleset bucket_steps = (buckets_more, buckets_none, buckets_all, place_within, length-place, length-word, mod-lt)

-- ---- the Bloom filter

-- a word of words, as it is read
pub words_read : (w k : ℕ) (xs : List ℕ) → k < length xs → get_or xs k 0 < 256 ^ w → number (slice_range (words w xs) (w * k) (w * k + w)) ≡ get_or xs k 0
words_read w k xs l b = number-stands (words w xs) (w * k) w (get_or xs k 0) (HasBytesAt-word w xs k l) b

pub bloom_more : (n shift i j v : ℕ) (names : List DynamicSymbol) (x : DynamicSymbol) (out : List ℕ) → 0 < n → i < length names → j ≡ i + 1 → x ≡ get_or names i x → out ≡ words 8 (bloom n shift (map gnu_hash_of (drop j names)))
    → v ≡ number (slice_range out (8 * (gnu_hash_of x / 64 % n)) (8 * (gnu_hash_of x / 64 % n) + 8))
    → place (8 * (gnu_hash_of x / 64 % n)) (word 8 (with_bits shift (gnu_hash_of x) v)) out ≡ words 8 (bloom n shift (map gnu_hash_of (drop i names)))
bloom_more n shift i j v names x out p l e r o q =
    let k : ℕ = gnu_hash_of x / 64 % n in
    let hs : List ℕ = map gnu_hash_of (drop j names) in
    let b = length-bloom n shift hs in
    let in_range : k < n = mod-lt (gnu_hash_of x / 64) p in
    let value : v ≡ get_or (bloom n shift hs) k 0 = q ∙ ap (λ (bs : List ℕ). number (slice_range bs (8 * k) (8 * k + 8))) o ∙ words_read 8 k (bloom n shift hs) (omega arith) (bloom_small n shift k hs in_range) in
    rw (o, value, hashes_from gnu_hash_of names i j x l e r) (place-word 8 k _ (bloom n shift hs) (omega arith) ∙ ap (words 8) (bloom-cons n shift (gnu_hash_of x) hs in_range))

pub bloom_none : (n shift i m : ℕ) (names : List DynamicSymbol) → m ≡ 8 * n → i ≡ length names → replicate m 0 ≡ words 8 (bloom n shift (map gnu_hash_of (drop i names)))
bloom_none n shift i m names e s = rw (s, hashes_behind gnu_hash_of names) (zero_words 8 n m e ∙ ap (words 8) (sym (bloom-nil n shift)))

pub bloom_all : (n shift i : ℕ) (names : List DynamicSymbol) → i ≡ 0 → words 8 (bloom n shift (map gnu_hash_of (drop i names))) ≡ words 8 (bloom n shift (map gnu_hash_of names))
bloom_all n shift i names e = rw e refl

pub place_within_8 : (n h : ℕ) → 0 < n → 8 * (h % n) + 8 ≤ 8 * n
place_within_8 n h p = let e = mod-lt h p in omega (arith, e)

pub ruleset bloom_steps = (bloom_more, bloom_none, bloom_all, place_within_8, length-place, length-word)

-- ---- chains

pub last_none : (n h i : ℕ) (names : List DynamicSymbol) → i ≡ length names → is_last n h (map gnu_hash_of (drop i names)) ≡ true
last_none n h i names e = rw (e, hashes_behind gnu_hash_of names) refl

pub last_some : (n h i : ℕ) (names : List DynamicSymbol) (x : DynamicSymbol) → i < length names → x ≡ get_or names i x → is_last n h (map gnu_hash_of (drop i names)) ≡ not (gnu_hash_of x % n == h % n)
last_some n h i names x l r = rw (hashes_from gnu_hash_of names i (i + 1) x l refl r) refl

pub ruleset last_steps = (last_none, last_some)

-- what was put is the front of the rest
drop-place : (a : ℕ) (part old : List ℕ) → a + length part ≤ length old → drop a (place a part old) ≡ part ++ drop (a + length part) old
unfolding place
drop-place a part old h =
    let e : length (take a old) ≡ a = length-take-le a old (omega arith) in
    ap (λ (n : ℕ). drop n (take a old ++ (part ++ drop (a + length part) old))) (sym e) ∙ drop-append_seam (take a old) (part ++ drop (a + length part) old)

words_cons : (w x : ℕ) (xs : List ℕ) → words w (x ∷ xs) ≡ word w x ++ words w xs
unfolding words
words_cons w x xs = refl

-- one word more in front of the rest
pub word_in_front : (i j v : ℕ) (out xs : List ℕ) → j ≡ i + 1 → 4 * j ≤ length out → drop (4 * j) out ≡ words 4 xs → drop (4 * i) (place (4 * i) (word 4 v) out) ≡ words 4 (v ∷ xs)
word_in_front i j v out xs e l d =
    let n = length-word 4 v in
    let z : 4 * i + length (word 4 v) ≡ 4 * j = omega (arith, n, e) in
    drop-place (4 * i) (word 4 v) out (omega (arith, z, l)) ∙ rw (z, d) (sym (words_cons 4 v xs))

pub gnu_chains_more : (n i j v : ℕ) (names : List DynamicSymbol) (x : DynamicSymbol) (out : List ℕ) → i < length names → j ≡ i + 1 → x ≡ get_or names i x → length out ≡ 4 * length names → drop (4 * j) out ≡ words 4 (gnu_chains n (map gnu_hash_of (drop j names)))
    → v ≡ 2 * (gnu_hash_of x / 2) + (if is_last n (gnu_hash_of x) (map gnu_hash_of (drop j names)) then 1 else 0)
    → drop (4 * i) (place (4 * i) (word 4 v) out) ≡ words 4 (gnu_chains n (map gnu_hash_of (drop i names)))
gnu_chains_more n i j v names x out l e r o d q =
    rw (hashes_from gnu_hash_of names i j x l e r) (word_in_front i j v out (gnu_chains n (map gnu_hash_of (drop j names))) e (omega arith) d ∙ ap (λ (y : ℕ). words 4 (y ∷ gnu_chains n (map gnu_hash_of (drop j names)))) q)

no_words : (w : ℕ) → words w [] ≡ []
unfolding words
no_words w = refl

pub gnu_chains_none : (n i m : ℕ) (names : List DynamicSymbol) (out : List ℕ) → i ≡ length names → m ≡ 4 * i → length out ≡ 4 * length names → drop m out ≡ words 4 (gnu_chains n (map gnu_hash_of (drop i names)))
gnu_chains_none n i m names out e f o = let z : m ≡ length out = omega arith in rw (z, e, hashes_behind gnu_hash_of names, no_words 4) (drop-length out)

pub gnu_chains_all : (n i : ℕ) (names : List DynamicSymbol) (out : List ℕ) → i ≡ 0 → drop (4 * i) out ≡ words 4 (gnu_chains n (map gnu_hash_of (drop i names))) → out ≡ words 4 (gnu_chains n (map gnu_hash_of names))
gnu_chains_all n i names out e h = rw e at h

pub ruleset chain_steps = (gnu_chains_more, gnu_chains_none, gnu_chains_all, length-place, length-word)

-- ---- System V

pub sysv_chains_more : (n base i j v : ℕ) (names : List DynamicSymbol) (x : DynamicSymbol) (firsts out : List ℕ) → 0 < n → base + length names < 2 ^ 32 → i < length names → j ≡ i + 1 → x ≡ get_or names i x → length out ≡ 4 * length names
    → drop (4 * j) out ≡ words 4 (sysv_chains n (base + j) (map sysv_hash_of (drop j names))) → firsts ≡ words 4 (buckets n (base + j) (map sysv_hash_of (drop j names)))
    → v ≡ number (slice_range firsts (4 * (sysv_hash_of x % n)) (4 * (sysv_hash_of x % n) + 4))
    → drop (4 * i) (place (4 * i) (word 4 v) out) ≡ words 4 (sysv_chains n (base + i) (map sysv_hash_of (drop i names)))
sysv_chains_more n base i j v names x firsts out p few l e r o d f q =
    let s : base + i + 1 ≡ base + j = omega arith in
    let hs : List ℕ = map sysv_hash_of (drop j names) in
    let k : ℕ = sysv_hash_of x % n in
    let in_range : k < n = mod-lt (sysv_hash_of x) p in
    let b = length-buckets n (base + j) hs in
    let count : length hs ≡ length names - j = length-map (drop j names) sysv_hash_of ∙ length-drop j names in
    let value : v ≡ get_or (buckets n (base + j) hs) k 0 = q ∙ ap (λ (bs : List ℕ). number (slice_range bs (4 * k) (4 * k + 4))) f ∙ words_read 4 k (buckets n (base + j) hs) (omega arith) (bucket_small n (base + j) k (2 ^ 32) hs (omega arith) in_range (omega arith)) in
    rw (hashes_from sysv_hash_of names i j x l e r, s) (word_in_front i j v out (sysv_chains n (base + j) hs) e (omega arith) d ∙ ap (λ (y : ℕ). words 4 (y ∷ sysv_chains n (base + j) hs)) (value ∙ bucket_is n (base + j) k hs in_range))

pub sysv_chains_none : (n base i m : ℕ) (names : List DynamicSymbol) (out : List ℕ) → i ≡ length names → m ≡ 4 * i → length out ≡ 4 * length names → drop m out ≡ words 4 (sysv_chains n (base + i) (map sysv_hash_of (drop i names)))
sysv_chains_none n base i m names out e f o = let z : m ≡ length out = omega arith in rw (z, e, hashes_behind sysv_hash_of names, no_words 4) (drop-length out)

pub sysv_chains_all : (n base i : ℕ) (names : List DynamicSymbol) (out : List ℕ) → i ≡ 0 → drop (4 * i) out ≡ words 4 (sysv_chains n (base + i) (map sysv_hash_of (drop i names))) → out ≡ words 4 (sysv_chains n base (map sysv_hash_of names))
sysv_chains_all n base i names out e h = let z : base + 0 ≡ base = omega arith in rw (e, z) at h

pub ruleset sysv_steps = (sysv_chains_more, sysv_chains_none, sysv_chains_all, buckets_more, buckets_none, buckets_all, place_within, length-place, length-word, mod-lt)

-- ---- whole tables

-- two words are all of their room
pub two_counts : (a b : ℕ) (mid new : List ℕ) → length new ≡ 8 → take 4 mid ≡ word 4 a → take 8 new ≡ take 4 mid ++ word 4 b → new ≡ words 4 (a ∷ b ∷ [])
unfolding words
two_counts a b mid new l m n =
    let whole : take 8 new ≡ new = ap (λ (k : ℕ). take k new) (sym l) ∙ take-length new in
    sym whole ∙ n ∙ ap (λ (r : List ℕ). r ++ word 4 b) m ∙ ap (λ (r : List ℕ). word 4 a ++ r) (sym (append-nil (word 4 b)))
