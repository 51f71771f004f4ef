-- The statements about lower crates on which the laws on look-ups depend: an image contains its tables, and they are read back.
--   RecordLaws   headers and entries of the dynamic section are read back as they were written
--   ImageLaws    an image contains the headers, the dynamic section and all tables
--   NameLaws     it contains the dynamic symbols and their names
use Rattle.wild_records.specs.Dynamic.{DynamicEntryIsRead}
use Rattle.wild_records.specs.FileHeader.{FileHeaderIsRead}
use Rattle.wild_records.specs.ProgramHeader.{ProgramHeaderIsRead}
use Rattle.wild_table_formats.specs.DynamicSection.{EntriesAreFound, NeededAreOfLibraries}
use Rattle.wild_layout.specs.Geometry.{LayoutsAreLaidOut, TablesStand}
use Rattle.wild_loaded.specs.Laws.{HeadersAreThere, DynamicSectionsAreThere}
use Rattle.wild_names.specs.Laws.{SymbolTablesAreThere, SymbolsAreInTable}

-- statements about records
pub record RecordLaws : Type 0 where
  pub headers : FileHeaderIsRead
  pub programs : ProgramHeaderIsRead
  pub dynamics : DynamicEntryIsRead

-- statements about images
pub record ImageLaws : Type 0 where
  pub laid : LayoutsAreLaidOut
  pub stand : TablesStand
  pub headers : HeadersAreThere
  pub sections : DynamicSectionsAreThere
  pub needed : NeededAreOfLibraries
  pub found : EntriesAreFound
  pub records : RecordLaws

-- statements about names
pub record NameLaws : Type 0 where
  pub there : SymbolTablesAreThere
  pub stand : SymbolsAreInTable
