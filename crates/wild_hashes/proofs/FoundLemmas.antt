-- The look-up in bytes where the parts of a table stand.
use Rattle.std.proofs.Common.{AllPairs, Result, ap, subst, ◌≡◌, ℕ, zero, suc, ◌+◌, ◌-◌, ◌*◌, ◌/◌, ◌%◌, ◌^◌, ◌<◌, ◌≤◌, Bool, true, false, List, [], ◌∷◌, length, map, get_or, refl, arith, inl, inr, Ok, lit<}
use Rattle.std.specs.Prelude.{if◌then◌else◌, ◌==◌, nat_le, fold}
use Rattle.std.proofs.lemmas.Bool.{leb-true, and_parts, le-leb, ne_eqb, cases_Bool}
use Rattle.std.proofs.lemmas.List.{length-map}
use Rattle.std.proofs.Math.Nat.{mod-lt}
use Rattle.wild_words.specs.Words.{HasBytesAt}
use Rattle.wild_words.proofs.OverlayLemmas.{HasBytesAt-inner}
use Rattle.wild_records.specs.Hashes.{gnu_hash, sysv_hash, gnu_start, gnu_next}
use Rattle.wild_records.specs.HashTables.{gnu_hash_header_at, GnuHashHeaderIsRead, gnu_hash_header_fields}
use Rattle.wild_records.specs.declared.hash_tables.GnuHashHeader.{GnuHashHeader}
use Rattle.wild_hashes.specs.Tables.{sysv_hash_of, gnu_hash_of, words, gnu_table, sysv_table, buckets, sysv_chains, bloom, gnu_chains, is_last}
use Rattle.wild_hashes.specs.LookUp.{chain_word, sysv_lookup, sysv_by, sysv_find, gnu_lookup, gnu_find, gnu_in_bucket, may_hold}
use Rattle.wild_hashes.specs.declared.fault.LookupFault.{LookupFault}
use Rattle.wild_hashes.specs.Reading.{read, symbol_name}
use Rattle.wild_hashes.proofs.NameLemmas.{symbol_named}
use Rattle.wild_types.specs.declared.layout.DynamicSymbol.{DynamicSymbol}
use Rattle.wild_words.specs.Record.{spell}
use Rattle.wild_hashes.specs.Laws.{ascends, ascends_from, Reads, GnuIsRead, SysvIsRead, first_named, IsValidGnuTable, AreNumbered, names_of, GnuLookUpFindsTheFirst, SysvLookUpFindsTheFirst}
use Rattle.wild_hashes.proofs.BucketLemmas.{length-buckets, bucket_small}
use Rattle.wild_hashes.proofs.BloomLemmas.{length-bloom, bloom_small, filtered_none}
use Rattle.wild_hashes.proofs.SysvLemmas.{sysv_scan_finds}
use Rattle.wild_hashes.proofs.ChainLemmas.{gnu_bucket_finds}
use Rattle.wild_hashes.proofs.TableLemmas.{gnu_stands, sysv_stands, reads_words, reads_word, reads_chain, sysv_chains_small, length-gnu_chains, length-words}

-- where a System V table is read, and the names from base on are, the first of a name is found
pub sysv_read_found : (read : ℕ → ℕ → Result ℕ LookupFault) (named : ℕ → Result (List ℕ) LookupFault) (at n base : ℕ) (ns : List (List ℕ)) (name : List ℕ) → SysvIsRead read at n base (map sysv_hash ns) → Reads named base ns [] → 1 ≤ base → 1 ≤ n
    → sysv_by read named name at ≡ Ok (first_named base ns name)
unfolding sysv_by sysv_find
sysv_read_found read named at n base ns name s r b p =
    let hs : List ℕ = map sysv_hash ns in
    let some : (n == 0) ≡ false = ne_eqb n 0 (λ z. omega arith) in
    let in_range : sysv_hash name % n < n = mod-lt (sysv_hash name) p in
    let long = length-buckets n base hs in
    let first = s.buckets (sysv_hash name % n) (omega arith) in
    let place : at + 8 + 4 * n + 4 * base ≡ at + 8 + 4 * n + 4 * (base - 0) = omega arith in
    let chain = reads_chain read (at + 8 + 4 * n + 4 * base) (at + 8 + 4 * n) 0 base (sysv_chains n base hs) s.chains (omega arith) place in
    let enough : length ns ≤ base + length hs = let a = length-map ns sysv_hash in omega arith in
    rw (s.buckets_count, s.count, some, first) (sysv_scan_finds (chain_word read (at + 8 + 4 * n) 0) named name n (base + length hs) base ns in_range b enough chain r)

-- a word of a chain has 32 bits
pub chains_small : (n : ℕ) (hs : List ℕ) → ((k : ℕ) → k < length hs → get_or hs k 0 < 2 ^ 32) → (k : ℕ) → k < length (gnu_chains n hs) → get_or (gnu_chains n hs) k 0 < 2 ^ 32
chains_small n [] h k l = absurd (omega arith)
chains_small n (g ∷ hs) h zero l = bit (is_last n g hs) g (h 0 (omega arith))
  where
    bit : (b : Bool) (g : ℕ) → g < 2 ^ 32 → 2 * (g / 2) + (if b then 1 else 0) < 2 ^ 32
    bit true g l = omega arith
    bit false g l = omega arith
chains_small n (g ∷ hs) h (suc k) l = chains_small n hs (λ j m. h (suc j) (omega arith)) k (omega arith)

-- a hash has 32 bits
pub hash_small : (name : List ℕ) → gnu_hash name < 2 ^ 32
unfolding gnu_hash
hash_small name = from gnu_start name (lit< tt)
  where
    from : (h : ℕ) (xs : List ℕ) → h < 2 ^ 32 → fold gnu_next h xs < 2 ^ 32
    from h [] l = l
    from h (x ∷ xs) l = from (gnu_next h x) xs (omega arith)

hashes_small : (ns : List (List ℕ)) (k : ℕ) → k < length (map gnu_hash ns) → get_or (map gnu_hash ns) k 0 < 2 ^ 32
hashes_small [] k l = absurd (omega arith)
hashes_small (m ∷ ns) zero l = hash_small m
hashes_small (m ∷ ns) (suc k) l = hashes_small ns k (omega arith)

gnu_read_in_bucket : (read : ℕ → ℕ → Result ℕ LookupFault) (named : ℕ → Result (List ℕ) LookupFault) (left at : ℕ) (t : GnuHashHeader) (ns : List (List ℕ)) (name : List ℕ) → GnuIsRead read at t (map gnu_hash ns) → Reads named t.symbol_base ns [] → 1 ≤ t.symbol_base → IsValidGnuTable t (map gnu_hash ns) → length ns ≤ left
    → gnu_in_bucket read named name (gnu_hash name) left at t ≡ Ok (first_named t.symbol_base ns name)
unfolding gnu_in_bucket
gnu_read_in_bucket read named left at t ns name s r b laid enough =
    let n : ℕ = t.bucket_count in
    let base : ℕ = t.symbol_base in
    let hs : List ℕ = map gnu_hash ns in
    let in_range : gnu_hash name % n < n = mod-lt (gnu_hash name) laid.some_bucket in
    let long = length-buckets n base hs in
    let first = s.buckets (gnu_hash name % n) (omega arith) in
    let from : ℕ = at + 16 + 8 * t.bloom_count + 4 * n in
    let place : from ≡ from + 4 * (base - base) = omega arith in
    let chain = reads_chain read from from base base (gnu_chains n hs) s.chains (omega arith) place in
    rw first (gnu_bucket_finds (chain_word read from base) named name n left base base ns in_range b (omega arith) enough laid.ascend chain r)

-- where a GNU table is read, and the names from its base on are, the first of a name is found
pub gnu_read_found : (read : ℕ → ℕ → Result ℕ LookupFault) (named : ℕ → Result (List ℕ) LookupFault) (left at : ℕ) (t : GnuHashHeader) (ns : List (List ℕ)) (name : List ℕ) → GnuIsRead read at t (map gnu_hash ns) → Reads named t.symbol_base ns [] → 1 ≤ t.symbol_base → IsValidGnuTable t (map gnu_hash ns) → length ns ≤ left
    → gnu_find read named name (gnu_hash name) left at t ≡ Ok (first_named t.symbol_base ns name)
unfolding gnu_find
gnu_read_found read named left at t ns name s r o laid enough =
    let hs : List ℕ = map gnu_hash ns in
    let b : (t.bucket_count == 0) ≡ false = let p = laid.some_bucket in ne_eqb t.bucket_count 0 (λ z. omega arith) in
    let f : (t.bloom_count == 0) ≡ false = let p = laid.some_bloom in ne_eqb t.bloom_count 0 (λ z. omega arith) in
    let in_range : gnu_hash name / 64 % t.bloom_count < t.bloom_count = mod-lt (gnu_hash name / 64) laid.some_bloom in
    let long = length-bloom t.bloom_count t.bloom_shift hs in
    let word = s.bloom (gnu_hash name / 64 % t.bloom_count) (omega arith) in
    elim (cases_Bool (may_hold t.bloom_shift (gnu_hash name) (get_or (bloom t.bloom_count t.bloom_shift hs) (gnu_hash name / 64 % t.bloom_count) 0))) [
      | inl held ↦ rw (b, f, word, held) (gnu_read_in_bucket read named left at t ns name s r o laid enough)
      | inr out ↦ (let none = filtered_none t.bloom_count t.bloom_shift t.symbol_base ns name in_range out in rw (b, f, word, out, none) refl)
    ]

-- the hashes of names are as many
hashes_count : (f : List ℕ → ℕ) (ns : List (List ℕ)) → length (map f ns) ≡ length ns
hashes_count f ns = length-map ns f

-- a GNU table that stands in bytes is read there
gnu_is_read : (image : List ℕ) (at : ℕ) (t : GnuHashHeader) (ns : List (List ℕ)) → HasBytesAt image at (gnu_table t (map gnu_hash ns)) → t.symbol_base + length ns < 2 ^ 32 → GnuIsRead (read image) at t (map gnu_hash ns)
gnu_is_read image at t ns st few =
    let hs : List ℕ = map gnu_hash ns in
    let count : length hs ≡ length ns = hashes_count gnu_hash ns in
    let s = gnu_stands t hs in
    let long = length-buckets t.bucket_count t.symbol_base hs in
    let wide = length-bloom t.bloom_count t.bloom_shift hs in
    let one : at + (16 + 8 * t.bloom_count) ≡ at + 16 + 8 * t.bloom_count = omega arith in
    let two : at + (16 + 8 * t.bloom_count + 4 * t.bucket_count) ≡ at + 16 + 8 * t.bloom_count + 4 * t.bucket_count = omega arith in
    let bloom_stands = HasBytesAt-inner image (gnu_table t hs) (words 8 (bloom t.bloom_count t.bloom_shift hs)) at 16 st s.bloom in
    let buckets_stand = rw one at (HasBytesAt-inner image (gnu_table t hs) (words 4 (buckets t.bucket_count t.symbol_base hs)) at (16 + 8 * t.bloom_count) st s.buckets) in
    let chains_stand = rw two at (HasBytesAt-inner image (gnu_table t hs) (words 4 (gnu_chains t.bucket_count hs)) at (16 + 8 * t.bloom_count + 4 * t.bucket_count) st s.chains) in
    record {
      bloom = reads_words image (at + 16) 8 (bloom t.bloom_count t.bloom_shift hs) bloom_stands (λ k l. bloom_small t.bloom_count t.bloom_shift k hs (omega arith));
      buckets = reads_words image (at + 16 + 8 * t.bloom_count) 4 (buckets t.bucket_count t.symbol_base hs) buckets_stand (λ k l. bucket_small t.bucket_count t.symbol_base k (2 ^ 32) hs (omega arith) (omega arith) (omega arith));
      chains = reads_words image (at + 16 + 8 * t.bloom_count + 4 * t.bucket_count) 4 (gnu_chains t.bucket_count hs) chains_stand (chains_small t.bucket_count hs (hashes_small ns));
    }

pub gnu_stood_found : (image : List ℕ) (named : ℕ → Result (List ℕ) LookupFault) (left at : ℕ) (t : GnuHashHeader) (ns : List (List ℕ)) (name : List ℕ) → HasBytesAt image at (gnu_table t (map gnu_hash ns)) → Reads named t.symbol_base ns [] → 1 ≤ t.symbol_base → t.symbol_base + length ns < 2 ^ 32 → IsValidGnuTable t (map gnu_hash ns) → length ns ≤ left
    → gnu_find (read image) named name (gnu_hash name) left at t ≡ Ok (first_named t.symbol_base ns name)
gnu_stood_found image named left at t ns name st r o few laid enough = gnu_read_found (read image) named left at t ns name (gnu_is_read image at t ns st few) r o laid enough

-- a System V table that stands in bytes is read there
sysv_is_read : (image : List ℕ) (at n base : ℕ) (ns : List (List ℕ)) → HasBytesAt image at (sysv_table n base (map sysv_hash ns)) → base + length ns < 2 ^ 32 → 1 ≤ n → n < 2 ^ 32 → SysvIsRead (read image) at n base (map sysv_hash ns)
sysv_is_read image at n base ns st few p f =
    let hs : List ℕ = map sysv_hash ns in
    let count : length hs ≡ length ns = hashes_count sysv_hash ns in
    let s = sysv_stands n base hs in
    let long = length-buckets n base hs in
    let zero_at : at + 0 ≡ at = omega arith in
    let first_at : at + 4 * 0 ≡ at = omega arith in
    let two : at + (8 + 4 * n + 4 * base) ≡ at + 8 + 4 * n + 4 * base = omega arith in
    let pair : List ℕ = n ∷ (base + length hs) ∷ [] in
    let counts_stand = rw zero_at at (HasBytesAt-inner image (sysv_table n base hs) (words 4 pair) at 0 st s.counts) in
    let buckets_stand = HasBytesAt-inner image (sysv_table n base hs) (words 4 (buckets n base hs)) at 8 st s.buckets in
    let chains_stand = rw two at (HasBytesAt-inner image (sysv_table n base hs) (words 4 (sysv_chains n base hs)) at (8 + 4 * n + 4 * base) st s.chains) in
    record {
      buckets_count = rw first_at at (reads_word image at 4 pair 0 counts_stand (omega arith) f);
      count = reads_word image at 4 pair 1 counts_stand (omega arith) (omega arith);
      buckets = reads_words image (at + 8) 4 (buckets n base hs) buckets_stand (λ k l. bucket_small n base k (2 ^ 32) hs (omega arith) (omega arith) (omega arith));
      chains = reads_words image (at + 8 + 4 * n + 4 * base) 4 (sysv_chains n base hs) chains_stand (sysv_chains_small n base (2 ^ 32) hs p (omega arith));
    }

pub sysv_stood_found : (image : List ℕ) (named : ℕ → Result (List ℕ) LookupFault) (at n base : ℕ) (ns : List (List ℕ)) (name : List ℕ) → HasBytesAt image at (sysv_table n base (map sysv_hash ns)) → Reads named base ns [] → 1 ≤ base → base + length ns < 2 ^ 32 → 1 ≤ n → n < 2 ^ 32
    → sysv_by (read image) named name at ≡ Ok (first_named base ns name)
sysv_stood_found image named at n base ns name st r o few p f = sysv_read_found (read image) named at n base ns name (sysv_is_read image at n base ns st few p f) r o p

-- ---- names in their tables

hashes_of_gnu : (ds : List DynamicSymbol) → map gnu_hash_of ds ≡ map gnu_hash (names_of ds)
unfolding gnu_hash_of
hashes_of_gnu [] = refl
hashes_of_gnu (d ∷ ds) = ap (λ (hs : List ℕ). gnu_hash d.name ∷ hs) (hashes_of_gnu ds)

hashes_of_sysv : (ds : List DynamicSymbol) → map sysv_hash_of ds ≡ map sysv_hash (names_of ds)
unfolding sysv_hash_of
hashes_of_sysv [] = refl
hashes_of_sysv (d ∷ ds) = ap (λ (hs : List ℕ). sysv_hash d.name ∷ hs) (hashes_of_sysv ds)

reads_names : (symbols strings : List ℕ) (base : ℕ) (ds : List DynamicSymbol) → AreNumbered symbols strings base ds → Reads (symbol_name symbols strings) base (names_of ds) []
reads_names symbols strings base ds h k l =
    let n = length-map ds (λ (d : DynamicSymbol). d.name) in
    symbol_named symbols strings (base + k) (get_or (names_of ds) k []) (h.named k (omega (arith, n, l)))

pub gnu_found : GnuHashHeaderIsRead → GnuLookUpFindsTheFirst
unfolding gnu_lookup
gnu_found header_is_read table symbols strings t ds name st h laid =
    let ns : List (List ℕ) = names_of ds in
    let hs : List ℕ = map gnu_hash ns in
    let same = hashes_of_gnu ds in
    let st_names : HasBytesAt table 0 (gnu_table t hs) = subst (λ (x : List ℕ). HasBytesAt table 0 (gnu_table t x)) same st in
    let laid_names : IsValidGnuTable t hs = subst (IsValidGnuTable t) same laid in
    let s = gnu_stands t hs in
    let front = HasBytesAt-inner table (gnu_table t hs) (spell (gnu_hash_header_fields t)) 0 0 st_names s.header in
    let header : gnu_hash_header_at table 0 ≡ t = header_is_read table 0 t laid.fits front in
    let fits = st_names.fits in
    let bloom_fits = s.bloom.fits in
    let chains_fit = s.chains.fits in
    let room : nat_le 16 (length table) ≡ true = le-leb 16 (length table) (omega (arith, fits, bloom_fits)) in
    let count : length ns ≡ length ds = length-map ds (λ (d : DynamicSymbol). d.name) in
    let hashes : length hs ≡ length ns = length-map ns gnu_hash in
    let words_long = length-words 4 (gnu_chains t.bucket_count hs) in
    let chains_long = length-gnu_chains t.bucket_count hs in
    let enough : length ns ≤ length table = omega (arith, fits, chains_fit, words_long, chains_long, hashes) in
    let few = h.few in
    rw (room, header) (gnu_stood_found table (symbol_name symbols strings) (length table) 0 t ns name st_names (reads_names symbols strings t.symbol_base ds h) h.not_0 (omega (arith, few, count)) laid_names enough)

pub sysv_found : SysvLookUpFindsTheFirst
unfolding sysv_lookup
sysv_found table symbols strings n base ds name st h p f =
    let same = hashes_of_sysv ds in
    let st_names : HasBytesAt table 0 (sysv_table n base (map sysv_hash (names_of ds))) = subst (λ (x : List ℕ). HasBytesAt table 0 (sysv_table n base x)) same st in
    let count : length (names_of ds) ≡ length ds = length-map ds (λ (d : DynamicSymbol). d.name) in
    let few = h.few in
    sysv_stood_found table (symbol_name symbols strings) 0 n base (names_of ds) name st_names (reads_names symbols strings base ds h) h.not_0 (omega (arith, few, count)) p f

-- a scan over neighbours reaches each later one
ascends_to : (n h : ℕ) (hs : List ℕ) → ascends_from n h hs ≡ true → (k : ℕ) (d : ℕ) → k < length hs → h % n ≤ get_or hs k d % n
ascends_to n h [] t k d l = absurd (omega arith)
ascends_to n h (g ∷ gs) t zero d l = leb-true _ _ (and_parts _ _ t).0
ascends_to n h (g ∷ gs) t (suc k) d l =
    let both = and_parts (nat_le (h % n) (g % n)) (ascends_from n g gs) t in
    let one = leb-true (h % n) (g % n) both.0 in
    let rest : g % n ≤ get_or gs k d % n = ascends_to n g gs both.1 k d (omega arith) in
    omega (arith, one, rest)

pub neighbours_ascend : (n : ℕ) (hs : List ℕ) → ascends n hs ≡ true → AllPairs (λ g h. g % n ≤ h % n) hs
neighbours_ascend n [] t i j d l m = absurd (omega arith)
neighbours_ascend n (h ∷ hs) t zero zero d l m = absurd (omega arith)
neighbours_ascend n (h ∷ hs) t zero (suc j) d l m = ascends_to n h hs t j d (omega arith)
neighbours_ascend n (h ∷ hs) t (suc i) zero d l m = absurd (omega arith)
neighbours_ascend n (h ∷ hs) t (suc i) (suc j) d l m = neighbours_ascend n hs (ascends_tail n h hs t) i j d (omega arith) (omega arith)
  where
    ascends_tail : (n h : ℕ) (hs : List ℕ) → ascends_from n h hs ≡ true → ascends n hs ≡ true
    ascends_tail n h [] t = refl
    ascends_tail n h (g ∷ gs) t = (and_parts _ _ t).1
