-- Which JSON values encode the shapes of hash tables, and for thunks. Other members are unknown.
use Rattle.std.specs.Prelude.{ℕ, List, [], ◌∷◌, codes, Result, Ok}
use Rattle.serde_json.specs.Data.{Data}
use Rattle.wild_types.specs.declared.layout.GnuHash.{GnuHash}
use Rattle.wild_types.specs.declared.layout.SysvHash.{SysvHash}
use Rattle.wild_types.specs.declared.layout.Thunk.{Thunk}
use Rattle.wild_text.specs.Reads.{◌>>=◌}
use Rattle.wild_text.specs.Values.{u32_in, u64_in}
use Rattle.wild_text.specs.Members.{field, an_object, known_only}

-- the System V hash table (gABI, "Hash Table")
unfoldable pub sysv_hash_in : Data → Result SysvHash (List ℕ)
sysv_hash_in d = do
  whole ← an_object d
  buckets ← field (codes "buckets") u32_in 0 d
  all_known ← known_only (codes "buckets" ∷ []) d
  Ok (record { buckets = buckets })

-- the GNU hash table
unfoldable pub gnu_hash_in : Data → Result GnuHash (List ℕ)
gnu_hash_in d = do
  whole ← an_object d
  buckets ← field (codes "buckets") u32_in 0 d
  bloom_count ← field (codes "bloom_count") u32_in 0 d
  bloom_shift ← field (codes "bloom_shift") u32_in 0 d
  base ← field (codes "base") u32_in 0 d
  all_known ← known_only (codes "buckets" ∷ codes "bloom_count" ∷ codes "bloom_shift" ∷ codes "base" ∷ []) d
  Ok (record { buckets = buckets; bloom_count = bloom_count; bloom_shift = bloom_shift; base = base })

-- a thunk ("ELF for the Arm 64-bit Architecture", "Call and Jump relocations": veneers)
unfoldable pub thunk_in : Data → Result Thunk (List ℕ)
thunk_in d = do
  whole ← an_object d
  symbol ← field (codes "symbol") u64_in 0 d
  address ← field (codes "address") u64_in 0 d
  all_known ← known_only (codes "symbol" ∷ codes "address" ∷ []) d
  Ok (record { symbol = symbol; address = address })
