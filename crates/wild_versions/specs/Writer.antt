-- The tables of versions of a group.
--   no_versions l group           empty tables with the sizes of the group's shares of the three parts
--   with_versions vs w            with the versions of symbols appended
--   with_definitions names l w    with the versions that the output defines appended
--   with_need file names n w      with a library and the versions that are needed of it appended
--   tables_full_or_fault w                   all tables are full, or ExcessiveAllocation for the first that is not
use Rattle.std.specs.Prelude.{ℕ, List, Result, Ok, Err}
use Rattle.wild_types.specs.declared.fault.Error.{Error}
use Rattle.wild_types.specs.declared.file.VersionNeeds.{VersionNeeds}
use Rattle.wild_types.specs.declared.layout.Layout.{Layout}
use Rattle.wild_types.specs.declared.part.Role.TheVariants as role
use Rattle.wild_versions.specs.Table.{empty_table, table_with_bytes, table_full_or_fault}
use Rattle.wild_table_formats.specs.SymbolVersions.{version_bytes}
use Rattle.wild_table_formats.specs.VersionDefinitions.{definition_table}
use Rattle.wild_table_formats.specs.VersionNeeds.{need_bytes}
use Rattle.wild_versions.specs.declared.writer.VersionWriter.{VersionWriter}

-- empty tables
abbrev pub no_versions : Layout → ℕ → VersionWriter
no_versions l group = record {
  symbols = empty_table l group role.GnuVersion;
  definitions = empty_table l group role.GnuVersionD;
  needs = empty_table l group role.GnuVersionR;
}

-- with the versions of symbols appended
abbrev pub with_versions : List ℕ → VersionWriter → VersionWriter
with_versions vs w = record w { symbols = table_with_bytes (version_bytes vs) w.symbols }

-- with the versions that the output defines appended
abbrev pub with_definitions : List ℕ → Layout → VersionWriter → VersionWriter
with_definitions names l w = record w { definitions = table_with_bytes (definition_table names l.options.soname l.verdefs) w.definitions }

-- with a library and the versions that are needed of it appended
abbrev pub with_need : ℕ → List ℕ → VersionNeeds → VersionWriter → VersionWriter
with_need file names n w = record w { needs = table_with_bytes (need_bytes file names n) w.needs }

-- the first fault of two tests, in order
abbrev pub first_fault : Result (Unit {0}) Error → Result (Unit {0}) Error → Result (Unit {0}) Error
first_fault (Err e) r = Err e
first_fault (Ok t) r = r

-- all tables are full; otherwise the fault of the first that is not, in the order of roles
abbrev pub tables_full_or_fault : VersionWriter → Result (Unit {0}) Error
tables_full_or_fault w = first_fault (first_fault (table_full_or_fault w.symbols) (table_full_or_fault w.definitions)) (table_full_or_fault w.needs)
