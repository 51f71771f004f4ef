-- The shapes of the two hash tables of dynamic symbols (gABI, "Hash Table"; GNU, "DT_GNU_HASH").
--   sysv_fits h     a table of that shape has a bucket
--   gnu_fits l h    a GNU table has a bucket, a word of its filter, a shift of less than 32, and begins with the first symbol of `dynsyms`
--   bucket_astray n d ds   the first symbol that follows one of a later bucket
use Rattle.std.specs.Prelude.{ℕ, ◌+◌, ◌%◌, ◌==◌, Bool, true, ◌&&◌, if◌then◌else◌, nat_lt, nat_le, List, [], ◌∷◌, Option, Some, None}
use Rattle.wild_records.specs.Hashes.{gnu_hash}
use Rattle.wild_types.specs.declared.layout.SysvHash.{SysvHash}
use Rattle.wild_types.specs.declared.layout.GnuHash.{GnuHash}
use Rattle.wild_types.specs.declared.layout.DynamicSymbol.{DynamicSymbol}
use Rattle.wild_types.specs.declared.layout.Layout.{Layout}
use Rattle.wild_needs.specs.DynamicSymbols.{first_listed}

abbrev pub sysv_fits : Option SysvHash → Bool
sysv_fits None = true
sysv_fits (Some h) = nat_le 1 h.buckets

-- the table's first symbol is the first one of `dynsyms`
abbrev pub gnu_shape_fits : Layout → GnuHash → Bool
gnu_shape_fits l h = nat_le 1 h.buckets && (nat_le 1 h.bloom_count && (nat_lt h.bloom_shift 32 && h.base == first_listed l))

abbrev pub gnu_fits : Layout → Option GnuHash → Bool
gnu_fits l None = true
gnu_fits l (Some h) = gnu_shape_fits l h

-- the bucket of a symbol's name
unfoldable pub bucket_of : ℕ → DynamicSymbol → ℕ
bucket_of n d = gnu_hash d.name % n

-- the buckets of the symbols after one of bucket b do not descend; else the index of the first that does
abbrev pub bucket_below : ℕ → ℕ → ℕ → List DynamicSymbol → Option ℕ
bucket_below n b i [] = None
bucket_below n b i (d ∷ ds) = if nat_le b (bucket_of n d) then bucket_below n (bucket_of n d) (i + 1) ds else Some i

abbrev pub bucket_astray : Option GnuHash → List DynamicSymbol → Option ℕ
bucket_astray None ds = None
bucket_astray (Some h) ds = bucket_below h.buckets 0 0 ds
