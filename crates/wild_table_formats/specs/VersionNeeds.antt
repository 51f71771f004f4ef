-- The versions that are needed of libraries (LSB, "Version Requirements").
--   verneed_of file n           the record of a library
--   vernaux_of names i last v   the record of version i that is needed of it
--   need_bytes file names n     the bytes of both
use Rattle.std.specs.Prelude.{ℕ, Bool, List, ◌++◌, length}
use Rattle.wild_words.specs.Record.{spell}
use Rattle.wild_records.specs.Abi.Version.{ver_need_current}
use Rattle.wild_records.specs.Hashes.{sysv_hash}
use Rattle.wild_records.specs.Verneeds.{verneed_size, vernaux_size, verneed_fields, vernaux_fields}
use Rattle.wild_records.specs.declared.verneeds.Verneed.{Verneed}
use Rattle.wild_records.specs.declared.verneeds.Vernaux.{Vernaux}
use Rattle.wild_types.specs.declared.file.NeededVersion.{NeededVersion}
use Rattle.wild_types.specs.declared.file.VersionNeeds.{VersionNeeds}
use Rattle.wild_needs.specs.Versions.{need_size}
use Rattle.wild_table_formats.specs.VersionChain.{chain, next_of, name_at}

-- the record of a library; file is the offset of its name in .dynstr
abbrev pub verneed_of : ℕ → VersionNeeds → Verneed
verneed_of file n = record {
  version = ver_need_current;
  count = length n.versions;
  file = file;
  aux = verneed_size;
  next = next_of n.last (need_size n);
}

-- the record of version i that is needed
abbrev pub vernaux_of : List ℕ → ℕ → Bool → NeededVersion → Vernaux
vernaux_of names i last v = record {
  hash = sysv_hash v.name;
  flags = 0;
  index = v.index;
  name = name_at names i;
  next = next_of last vernaux_size;
}

-- its bytes
abbrev pub needed_bytes : List ℕ → ℕ → Bool → NeededVersion → List ℕ
needed_bytes names i last v = spell (vernaux_fields (vernaux_of names i last v))

-- the bytes of a library and of its versions; file and names are the offsets of their names in .dynstr
abbrev pub need_bytes : ℕ → List ℕ → VersionNeeds → List ℕ
need_bytes file names n = spell (verneed_fields (verneed_of file n)) ++ chain (needed_bytes names) 0 n.versions
