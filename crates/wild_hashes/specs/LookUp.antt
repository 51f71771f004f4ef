-- The standard look-up of a name in hash tables of symbols (gABI, "Hash Table"; GNU, "DT_GNU_HASH").
--   sysv_lookup table symbols strings name   the symbol that the look-up in the System V table finds
--   gnu_lookup table symbols strings name    the symbol that the look-up in the GNU table finds
--   sysv_by, gnu_find                        the same through two readers: of a number of n bytes at an offset, and of
--                                            a symbol's name
use Rattle.std.specs.Prelude.{ℕ, zero, suc, ◌+◌, ◌-◌, ◌*◌, ◌/◌, ◌%◌, ◌^◌, Bool, false, ◌&&◌, ◌||◌, ◌==◌, if◌then◌else◌, nat_lt, nat_le, List, length, Option, Some, None, Result, Ok, Err}
use Rattle.std.specs.Int.{bit_at}
use Rattle.wild_records.specs.Hashes.{gnu_hash, sysv_hash}
use Rattle.wild_records.specs.HashTables.{gnu_hash_header_at, gnu_hash_header_size}
use Rattle.wild_records.specs.declared.hash_tables.GnuHashHeader.{GnuHashHeader}
use Rattle.wild_hashes.specs.declared.fault.LookupFault.{LookupFault}
use Rattle.wild_hashes.specs.declared.fault.LookupFault.TheVariants as faults
use Rattle.wild_hashes.specs.Reading.{read, symbol_name, has_name, ◌>>=◌}

-- the chain word of symbol i; the chain words begin at an offset, with that of symbol base
unfoldable pub chain_word : (ℕ → ℕ → Result ℕ LookupFault) → ℕ → ℕ → ℕ → Result ℕ LookupFault
chain_word read at base i = read (at + 4 * (i - base)) 4

-- the walk along the System V chain from symbol i on, for a limited number of symbols (gABI, "Hash Table")
abbrev pub sysv_scan : (ℕ → Result ℕ LookupFault) → (ℕ → Result (List ℕ) LookupFault) → List ℕ → ℕ → ℕ → Result (Option ℕ) LookupFault
sysv_scan chain named name zero i = if i == 0 then Ok None else Err (faults.Cycle i)
sysv_scan chain named name (suc left) i =
    if i == 0 then Ok None else (has_name named name i >>= λ same. if same then Ok (Some i) else (chain i >>= λ j. sysv_scan chain named name left j))

-- the look-up in a System V table of n buckets and count symbols
unfoldable pub sysv_find : (ℕ → ℕ → Result ℕ LookupFault) → (ℕ → Result (List ℕ) LookupFault) → List ℕ → ℕ → ℕ → ℕ → ℕ → Result (Option ℕ) LookupFault
sysv_find read named name h at n count =
    if n == 0 then Ok None else (read (at + 8 + 4 * (h % n)) 4 >>= λ first. sysv_scan (chain_word read (at + 8 + 4 * n) 0) named name count first)

-- the look-up in the System V table at an offset
unfoldable pub sysv_by : (ℕ → ℕ → Result ℕ LookupFault) → (ℕ → Result (List ℕ) LookupFault) → List ℕ → ℕ → Result (Option ℕ) LookupFault
sysv_by read named name at = read at 4 >>= λ n. read (at + 4) 4 >>= λ count. sysv_find read named name (sysv_hash name) at n count

-- the look-up in a System V table
unfoldable pub sysv_lookup : List ℕ → List ℕ → List ℕ → List ℕ → Result (Option ℕ) LookupFault
sysv_lookup table symbols strings name = sysv_by (read table) (symbol_name symbols strings) name 0

-- the two bits of a hash are set in this word of the Bloom filter
abbrev pub may_hold : ℕ → ℕ → ℕ → Bool
may_hold shift h w = bit_at w (h % 64) == 1 && bit_at w (h / 2 ^ shift % 64) == 1

-- the symbol has that name; the name is read only if the chain word has its hash
abbrev pub is_named : (ℕ → Result (List ℕ) LookupFault) → List ℕ → ℕ → ℕ → ℕ → Result Bool LookupFault
is_named named name h c i = if c / 2 == h / 2 then has_name named name i else Ok false

-- the walk along the GNU chain from symbol i on, which ends at a word with bit 0 set (GNU, "DT_GNU_HASH"); its limit is more words
-- than the table has, so the word after them is cut
abbrev pub gnu_scan : (ℕ → Result ℕ LookupFault) → (ℕ → Result (List ℕ) LookupFault) → List ℕ → ℕ → ℕ → ℕ → Result (Option ℕ) LookupFault
gnu_scan chain named name h zero i = chain i >>= λ c. Ok None
gnu_scan chain named name h (suc left) i =
    chain i >>= λ c. is_named named name h c i >>= λ same. if same then Ok (Some i) else if c % 2 == 1 then Ok None else gnu_scan chain named name h left (i + 1)

-- the look-up in the bucket of a hash; left is the limit of words read from its chain
unfoldable pub gnu_in_bucket : (ℕ → ℕ → Result ℕ LookupFault) → (ℕ → Result (List ℕ) LookupFault) → List ℕ → ℕ → ℕ → ℕ → GnuHashHeader → Result (Option ℕ) LookupFault
gnu_in_bucket read named name h left at t =
    read (at + 16 + 8 * t.bloom_count + 4 * (h % t.bucket_count)) 4 >>= λ first.
    if nat_lt first t.symbol_base then Ok None else gnu_scan (chain_word read (at + 16 + 8 * t.bloom_count + 4 * t.bucket_count) t.symbol_base) named name h left first

-- the look-up in the GNU table at an offset, with this header
unfoldable pub gnu_find : (ℕ → ℕ → Result ℕ LookupFault) → (ℕ → Result (List ℕ) LookupFault) → List ℕ → ℕ → ℕ → ℕ → GnuHashHeader → Result (Option ℕ) LookupFault
gnu_find read named name h left at t =
    if t.bucket_count == 0 || t.bloom_count == 0 then Ok None
    else (read (at + 16 + 8 * (h / 64 % t.bloom_count)) 8 >>= λ w. if may_hold t.bloom_shift h w then gnu_in_bucket read named name h left at t else Ok None)

-- the look-up in a GNU table
unfoldable pub gnu_lookup : List ℕ → List ℕ → List ℕ → List ℕ → Result (Option ℕ) LookupFault
gnu_lookup table symbols strings name =
    if nat_le gnu_hash_header_size (length table)
    then gnu_find (read table) (symbol_name symbols strings) name (gnu_hash name) (length table) 0 (gnu_hash_header_at table 0)
    else Err (faults.Cut 0)
