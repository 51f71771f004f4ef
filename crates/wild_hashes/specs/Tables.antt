-- The words of hash tables of symbols, from the hashes of their names.
--   first_in n b i hs       the first symbol of bucket b of n, or 0
--   buckets n i hs          the first symbol of each of n buckets, or 0
--   sysv_chains n i hs      for each symbol the next one of its bucket, or 0
--   bloom n shift hs        the words of the Bloom filter; bloom_word n shift w hs is word w
--   gnu_chains n hs         for each symbol its hash, with bit 0 set for the last of a bucket
--   gnu_table, sysv_table   the bytes of the tables
--   sysv_hash_of, gnu_hash_of   the hashes of a symbol's name
--   gnu_header              the header of a GNU table, from the layout's settings
-- In each, the symbols with the hashes hs have the indexes from i on.
use Rattle.std.specs.Prelude.{ℕ, ◌+◌, ◌*◌, ◌/◌, ◌%◌, ◌^◌, Bool, true, not, ◌==◌, if◌then◌else◌, List, [], ◌∷◌, ◌++◌, length, map, replicate, bit_or}
use Rattle.std.specs.List.{range_with_len}
use Rattle.wild_words.specs.Words.{word}
use Rattle.wild_words.specs.Record.{spell}
use Rattle.wild_records.specs.Hashes.{sysv_hash, gnu_hash}
use Rattle.wild_types.specs.declared.layout.DynamicSymbol.{DynamicSymbol}
use Rattle.wild_types.specs.declared.layout.GnuHash.{GnuHash}
use Rattle.wild_records.specs.HashTables.{gnu_hash_header_fields}
use Rattle.wild_records.specs.declared.hash_tables.GnuHashHeader.{GnuHashHeader}

-- the System V hash of a symbol's name, and its GNU hash
unfoldable pub sysv_hash_of : DynamicSymbol → ℕ
sysv_hash_of d = sysv_hash d.name

unfoldable pub gnu_hash_of : DynamicSymbol → ℕ
gnu_hash_of d = gnu_hash d.name

-- the header of a GNU table
abbrev pub gnu_header : GnuHash → GnuHashHeader
gnu_header g = record { bucket_count = g.buckets; symbol_base = g.base; bloom_count = g.bloom_count; bloom_shift = g.bloom_shift }

-- the first symbol of bucket b; 0 for an empty bucket
abbrev pub first_in : ℕ → ℕ → ℕ → List ℕ → ℕ
first_in n b i [] = 0
first_in n b i (h ∷ hs) = if h % n == b then i else first_in n b (i + 1) hs

-- the first symbol of each of n buckets (gABI, "Hash Table"; GNU, "DT_GNU_HASH")
unfoldable pub buckets : ℕ → ℕ → List ℕ → List ℕ
buckets n i hs = map (λ b. first_in n b i hs) (range_with_len 0 n)

-- the next symbol of each symbol's bucket, or 0 (gABI, "Hash Table")
abbrev pub sysv_chains : ℕ → ℕ → List ℕ → List ℕ
sysv_chains n i [] = []
sysv_chains n i (h ∷ hs) = first_in n (h % n) (i + 1) hs ∷ sysv_chains n (i + 1) hs

-- a word of the Bloom filter, with the two bits of a hash set
abbrev pub with_bits : ℕ → ℕ → ℕ → ℕ
with_bits shift h old = bit_or (bit_or old (2 ^ (h % 64))) (2 ^ (h / 2 ^ shift % 64))

-- word w of n of the Bloom filter: the two bits of each hash that belongs to it
abbrev pub bloom_word : ℕ → ℕ → ℕ → List ℕ → ℕ
bloom_word n shift w [] = 0
bloom_word n shift w (h ∷ hs) = if h / 64 % n == w then with_bits shift h (bloom_word n shift w hs) else bloom_word n shift w hs

-- the n words of the Bloom filter (GNU, "DT_GNU_HASH")
unfoldable pub bloom : ℕ → ℕ → List ℕ → List ℕ
bloom n shift hs = map (λ w. bloom_word n shift w hs) (range_with_len 0 n)

-- a symbol is the last of its bucket: the next one is in another bucket, or there is none
abbrev pub is_last : ℕ → ℕ → List ℕ → Bool
is_last n h [] = true
is_last n h (g ∷ gs) = not (g % n == h % n)

-- each symbol's hash, with bit 0 set only for the last of a bucket (GNU, "DT_GNU_HASH")
abbrev pub gnu_chains : ℕ → List ℕ → List ℕ
gnu_chains n [] = []
gnu_chains n (h ∷ hs) = (2 * (h / 2) + (if is_last n h hs then 1 else 0)) ∷ gnu_chains n hs

-- words of w bytes each
unfoldable pub words : ℕ → List ℕ → List ℕ
words w [] = []
words w (x ∷ xs) = word w x ++ words w xs

-- the GNU hash table of the symbols from the header's base on, whose names have these hashes
unfoldable pub gnu_table : GnuHashHeader → List ℕ → List ℕ
gnu_table t hs =
    spell (gnu_hash_header_fields t) ++ (words 8 (bloom t.bloom_count t.bloom_shift hs) ++ (words 4 (buckets t.bucket_count t.symbol_base hs) ++ words 4 (gnu_chains t.bucket_count hs)))

-- the System V hash table of n buckets; base other symbols come before those whose names have these hashes
unfoldable pub sysv_table : ℕ → ℕ → List ℕ → List ℕ
sysv_table n base hs =
    words 4 (n ∷ (base + length hs) ∷ []) ++ (words 4 (buckets n base hs) ++ (words 4 (replicate base 0) ++ words 4 (sysv_chains n base hs)))
