-- What the writers require of a layout beside its places: numbers fit in their fields, and thunks are sorted.
--   SysvStands l h, GnuStands l h   a hash table with these parameters has a bucket, its other numbers fit, and its symbols have indexes
--   FieldsFit l                     the numbers of headers, versions and names fit in their fields, and thunks ascend
use Rattle.std.specs.Prelude.{◌≡◌, ◌+◌, ◌^◌, ◌<◌, ◌≤◌, All, length, Some}
use Rattle.wild_types.specs.declared.layout.SysvHash.{SysvHash}
use Rattle.wild_types.specs.declared.layout.GnuHash.{GnuHash}
use Rattle.wild_types.specs.declared.layout.Layout.{Layout}
use Rattle.wild_needs.specs.DynamicSymbols.{first_listed}
use Rattle.wild_needs.specs.Needs.{name_bytes}
use Rattle.wild_table_formats.specs.Headers.{name_table}
use Rattle.wild_layout.specs.Thunks.{Ascend}

-- a gABI hash table with these parameters has a bucket, and its symbols have indexes
pub record SysvStands (l : Layout) (h : SysvHash) : Type 0 where
  pub some : 1 ≤ h.buckets
  pub few : first_listed l + length l.dynsyms < 2 ^ 32

-- a GNU hash table with these parameters has a bucket, a word of its filter and a shift below 32, and begins with the first defined symbol
pub record GnuStands (l : Layout) (h : GnuHash) : Type 0 where
  pub some : 1 ≤ h.buckets
  pub some_bloom : 1 ≤ h.bloom_count
  pub short : h.bloom_shift < 32
  pub base : h.base ≡ first_listed l
  pub few : first_listed l + length l.dynsyms < 2 ^ 32

-- the numbers of headers, versions and names fit in their fields; thunks are sorted by symbol
pub record FieldsFit (l : Layout) : Type 0 where
  pub segments : length l.segments < 2 ^ 16
  pub sections : length l.sections < 2 ^ 31
  pub names : name_bytes l < 2 ^ 32
  pub name_table : name_table l < 2 ^ 32
  pub definitions : length l.verdefs < 2 ^ 16
  pub sysv : (h : SysvHash) → l.sysv_hash ≡ Some h → SysvStands l h
  pub gnu : (h : GnuHash) → l.gnu_hash ≡ Some h → GnuStands l h
  pub thunks : All Ascend l.thunk_blocks
