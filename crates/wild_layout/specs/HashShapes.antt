-- The parameters of the two hash tables of dynamic symbols (gABI, "Hash Table"; GNU, "DT_GNU_HASH").
--   HasGnuShape l h    a GNU table with these parameters is valid for the layout's list of symbols
--   HasHashShapes l    the layout's tables have valid parameters
use Rattle.std.specs.Prelude.{◌≡◌, ◌<◌, ◌≤◌, true, map, Some}
use Rattle.wild_types.specs.declared.layout.SysvHash.{SysvHash}
use Rattle.wild_types.specs.declared.layout.GnuHash.{GnuHash}
use Rattle.wild_types.specs.declared.layout.Layout.{Layout}
use Rattle.wild_needs.specs.DynamicSymbols.{first_listed}
use Rattle.wild_hashes.specs.Tables.{gnu_hash_of}
use Rattle.wild_hashes.specs.Laws.{ascends}

-- it has a bucket and a word of its filter, its shift is below 32, and its symbols are the exported ones, which ascend by bucket
pub record HasGnuShape (l : Layout) (h : GnuHash) : Type 0 where
  pub some_bucket : 1 ≤ h.buckets
  pub some_bloom : 1 ≤ h.bloom_count
  pub short_shift : h.bloom_shift < 32
  pub base : h.base ≡ first_listed l
  pub ascend : ascends h.buckets (map gnu_hash_of l.dynsyms) ≡ true

-- the System V table has a bucket, and the GNU table has valid parameters
pub record HasHashShapes (l : Layout) : Type 0 where
  pub sysv : (h : SysvHash) → l.sysv_hash ≡ Some h → 1 ≤ h.buckets
  pub gnu : (h : GnuHash) → l.gnu_hash ≡ Some h → HasGnuShape l h
