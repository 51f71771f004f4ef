-- What a look-up finds in a table of names.
--   LengthsOfSysvTables, LengthsOfGnuTables   the lengths of the tables
--   first_named i ns name      the first symbol with a name; ns are the names from symbol i on
--   IsValidGnuTable t hs          the conditions on a GNU table's header, and on the order of its symbols
--   Reads, ReadsWords          a reader returns these items
--   GnuIsRead, SysvIsRead      a reader returns the words of a table
--   AreNumbered                the defined symbols in the symbol and string tables
--   GnuLookUpFindsTheFirst, SysvLookUpFindsTheFirst   the first symbol with any name is found, and none if no symbol has it
--   GnuLookUpInImagesFindsTheFirst, SysvLookUpInImagesFindsTheFirst   the same in an image that refers to such tables
use Rattle.std.specs.Prelude.{Bool, true, ◌&&◌, nat_le, Result, ◌*◌, slice_index, slice_index_or, ◌≡◌, ℕ, ◌+◌, ◌%◌, ◌^◌, ◌<◌, ◌≤◌, if◌then◌else◌, List, [], ◌∷◌, length, map, bytes_eq, AllPairs, Option, Some, None, Ok}
use Rattle.wild_words.specs.Words.{HasBytesAt}
use Rattle.wild_records.specs.Hashes.{gnu_hash, sysv_hash}
use Rattle.wild_records.specs.HashTables.{GnuHashHeaderFits}
use Rattle.wild_records.specs.declared.hash_tables.GnuHashHeader.{GnuHashHeader}
use Rattle.wild_types.specs.declared.layout.DynamicSymbol.{DynamicSymbol}
use Rattle.wild_hashes.specs.declared.fault.LookupFault.{LookupFault}
use Rattle.wild_hashes.specs.Tables.{sysv_hash_of, gnu_hash_of, bloom, buckets, gnu_chains, sysv_chains, gnu_table, sysv_table}
use Rattle.wild_hashes.specs.Reading.{read, IsNamed}
use Rattle.wild_records.specs.Abi.Dynamic.{dt_hash, dt_gnu_hash}
use Rattle.wild_hashes.specs.declared.image.Parts.{Parts}
use Rattle.wild_hashes.specs.Image.{tables_of, bytes_of, bytes_or_none, gnu_lookup_in, sysv_lookup_in}
use Rattle.wild_hashes.specs.LookUp.{gnu_find, sysv_by, gnu_lookup, sysv_lookup}

-- ---- lengths

-- two counts, and a word of 4 bytes for each bucket and for each symbol, including those before the base
abbrev pub LengthsOfSysvTables : Type 0
LengthsOfSysvTables = (n base : ℕ) (hs : List ℕ) → length (sysv_table n base hs) ≡ 8 + 4 * n + 4 * (base + length hs)

-- the header, 8 bytes for each word of the Bloom filter, 4 for each bucket, and 4 for each symbol from the base on
abbrev pub LengthsOfGnuTables : Type 0
LengthsOfGnuTables = (t : GnuHashHeader) (hs : List ℕ) → length (gnu_table t hs) ≡ 16 + 8 * t.bloom_count + 4 * t.bucket_count + 4 * length hs

-- ---- look-ups

-- the first symbol with a name; ns are the names from symbol i on
abbrev pub first_named : ℕ → List (List ℕ) → List ℕ → Option ℕ
first_named i [] name = None
first_named i (n ∷ ns) name = if bytes_eq n name then Some i else first_named (i + 1) ns name

-- the conditions on a GNU table's header and on the hashes of the defined symbols, which ascend by bucket
pub record IsValidGnuTable (t : GnuHashHeader) (hs : List ℕ) : Type 0 where
  pub fits : GnuHashHeaderFits t
  pub some_bucket : 1 ≤ t.bucket_count
  pub some_bloom : 1 ≤ t.bloom_count
  pub short_shift : t.bloom_shift < 32
  pub ascend : AllPairs (λ g h. g % t.bucket_count ≤ h % t.bucket_count) hs

-- a reader of single items returns these, from index i on
abbrev pub Reads : {X : Type 0} → (ℕ → Result X LookupFault) → ℕ → List X → X → Type 0
Reads read i xs d = (k : ℕ) → k < length xs → read (i + k) ≡ Ok (slice_index_or xs k d)

-- a reader of numbers returns these words of w bytes each, from an offset on
abbrev pub ReadsWords : (ℕ → ℕ → Result ℕ LookupFault) → ℕ → ℕ → List ℕ → Type 0
ReadsWords read at w xs = (k : ℕ) → k < length xs → read (at + w * k) w ≡ Ok (slice_index xs k)

-- a reader returns the words of the GNU table of these hashes at offset at; its header is read elsewhere
pub record GnuIsRead (read : ℕ → ℕ → Result ℕ LookupFault) (at : ℕ) (t : GnuHashHeader) (hs : List ℕ) : Type 0 where
  pub bloom : ReadsWords read (at + 16) 8 (bloom t.bloom_count t.bloom_shift hs)
  pub buckets : ReadsWords read (at + 16 + 8 * t.bloom_count) 4 (buckets t.bucket_count t.symbol_base hs)
  pub chains : ReadsWords read (at + 16 + 8 * t.bloom_count + 4 * t.bucket_count) 4 (gnu_chains t.bucket_count hs)

-- a reader returns the words of the System V table of these hashes at offset at
pub record SysvIsRead (read : ℕ → ℕ → Result ℕ LookupFault) (at n base : ℕ) (hs : List ℕ) : Type 0 where
  pub buckets_count : read at 4 ≡ Ok n
  pub count : read (at + 4) 4 ≡ Ok (base + length hs)
  pub buckets : ReadsWords read (at + 8) 4 (buckets n base hs)
  pub chains : ReadsWords read (at + 8 + 4 * n + 4 * base) 4 (sysv_chains n base hs)

-- if readers return the words of a GNU table, and the names ns from its base on, the look-up finds the first symbol with a name, and
-- none if no symbol has it
abbrev pub GnuReadersFindTheFirst : Type 0
GnuReadersFindTheFirst = (read : ℕ → ℕ → Result ℕ LookupFault) (named : ℕ → Result (List ℕ) LookupFault) (left at : ℕ) (t : GnuHashHeader) (ns : List (List ℕ)) (name : List ℕ) → GnuIsRead read at t (map gnu_hash ns) → Reads named t.symbol_base ns [] → 1 ≤ t.symbol_base
    → IsValidGnuTable t (map gnu_hash ns) → length ns ≤ left → gnu_find read named name (gnu_hash name) left at t ≡ Ok (first_named t.symbol_base ns name)

-- the same for a System V table
abbrev pub SysvReadersFindTheFirst : Type 0
SysvReadersFindTheFirst = (read : ℕ → ℕ → Result ℕ LookupFault) (named : ℕ → Result (List ℕ) LookupFault) (at n base : ℕ) (ns : List (List ℕ)) (name : List ℕ) → SysvIsRead read at n base (map sysv_hash ns) → Reads named base ns [] → 1 ≤ base → 1 ≤ n
    → sysv_by read named name at ≡ Ok (first_named base ns name)

-- if a GNU table is in bytes at offset at, and a reader returns the names ns from its base on, the look-up finds the first symbol
-- with a name
abbrev pub GnuTablesInBytesFindTheFirst : Type 0
GnuTablesInBytesFindTheFirst = (image : List ℕ) (named : ℕ → Result (List ℕ) LookupFault) (left at : ℕ) (t : GnuHashHeader) (ns : List (List ℕ)) (name : List ℕ) → HasBytesAt image at (gnu_table t (map gnu_hash ns)) → Reads named t.symbol_base ns [] → 1 ≤ t.symbol_base
    → t.symbol_base + length ns < 2 ^ 32 → IsValidGnuTable t (map gnu_hash ns) → length ns ≤ left → gnu_find (read image) named name (gnu_hash name) left at t ≡ Ok (first_named t.symbol_base ns name)

-- the same for a System V table
abbrev pub SysvTablesInBytesFindTheFirst : Type 0
SysvTablesInBytesFindTheFirst = (image : List ℕ) (named : ℕ → Result (List ℕ) LookupFault) (at n base : ℕ) (ns : List (List ℕ)) (name : List ℕ) → HasBytesAt image at (sysv_table n base (map sysv_hash ns)) → Reads named base ns [] → 1 ≤ base → base + length ns < 2 ^ 32 → 1 ≤ n → n < 2 ^ 32
    → sysv_by (read image) named name at ≡ Ok (first_named base ns name)

-- each hash's bucket is at most the next one's
abbrev pub ascends_from : ℕ → ℕ → List ℕ → Bool
ascends_from n h [] = true
ascends_from n h (g ∷ gs) = nat_le (h % n) (g % n) && ascends_from n g gs

abbrev pub ascends : ℕ → List ℕ → Bool
ascends n [] = true
ascends n (h ∷ hs) = ascends_from n h hs

-- comparing neighbours is enough
abbrev pub NeighboursAscend : Type 0
NeighboursAscend = (n : ℕ) (hs : List ℕ) → ascends n hs ≡ true → AllPairs (λ g h. g % n ≤ h % n) hs

-- ---- the tables that are written

-- the names of symbols
abbrev pub names_of : List DynamicSymbol → List (List ℕ)
names_of ds = map (λ d. d.name) ds

-- the defined symbols have the indexes from base on in the dynamic symbol table; base is not 0, the null symbol's index, and each
-- index fits in 32 bits
pub record AreNumbered (symbols strings : List ℕ) (base : ℕ) (ds : List DynamicSymbol) : Type 0 where
  pub not_0 : 1 ≤ base
  pub few : base + length ds < 2 ^ 32
  pub named : (k : ℕ) → k < length ds → IsNamed symbols strings (base + k) (slice_index_or (names_of ds) k [])

-- if bytes begin with a GNU table of the defined symbols, the look-up of any name finds the first symbol with that name, and none if
-- no symbol has it
abbrev pub GnuLookUpFindsTheFirst : Type 0
GnuLookUpFindsTheFirst = (table symbols strings : List ℕ) (t : GnuHashHeader) (ds : List DynamicSymbol) (name : List ℕ) → HasBytesAt table 0 (gnu_table t (map gnu_hash_of ds)) → AreNumbered symbols strings t.symbol_base ds → IsValidGnuTable t (map gnu_hash_of ds)
    → gnu_lookup table symbols strings name ≡ Ok (first_named t.symbol_base (names_of ds) name)

-- the same for a System V table
abbrev pub SysvLookUpFindsTheFirst : Type 0
SysvLookUpFindsTheFirst = (table symbols strings : List ℕ) (n base : ℕ) (ds : List DynamicSymbol) (name : List ℕ) → HasBytesAt table 0 (sysv_table n base (map sysv_hash_of ds)) → AreNumbered symbols strings base ds → 1 ≤ n → n < 2 ^ 32
    → sysv_lookup table symbols strings name ≡ Ok (first_named base (names_of ds) name)

-- if an image's dynamic section refers to such tables, the look-up in the image finds the first symbol with any name, and none if no
-- symbol has it
abbrev pub GnuLookUpInImagesFindsTheFirst : Type 0
GnuLookUpInImagesFindsTheFirst = (image : List ℕ) (ps : Parts) (t : GnuHashHeader) (ds : List DynamicSymbol) (name : List ℕ) → tables_of image dt_gnu_hash ≡ Ok (Some ps) → HasBytesAt (bytes_of image ps.hashes) 0 (gnu_table t (map gnu_hash_of ds))
    → AreNumbered (bytes_or_none image ps.symbols) (bytes_or_none image ps.strings) t.symbol_base ds → IsValidGnuTable t (map gnu_hash_of ds)
    → gnu_lookup_in image name ≡ Ok (first_named t.symbol_base (names_of ds) name)

-- the same for a System V table
abbrev pub SysvLookUpInImagesFindsTheFirst : Type 0
SysvLookUpInImagesFindsTheFirst = (image : List ℕ) (ps : Parts) (n base : ℕ) (ds : List DynamicSymbol) (name : List ℕ) → tables_of image dt_hash ≡ Ok (Some ps) → HasBytesAt (bytes_of image ps.hashes) 0 (sysv_table n base (map sysv_hash_of ds))
    → AreNumbered (bytes_or_none image ps.symbols) (bytes_or_none image ps.strings) base ds → 1 ≤ n → n < 2 ^ 32
    → sysv_lookup_in image name ≡ Ok (first_named base (names_of ds) name)
