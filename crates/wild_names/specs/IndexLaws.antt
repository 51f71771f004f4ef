-- The extended section indexes in an image (gABI, "Symbol Table", SHT_SYMTAB_SHNDX; "Special Section Indexes", SHN_XINDEX).
--   index_role local     the part of the indexes of the local symbols, or of the other symbols
--   side_table l local   the contents of a side's entries, each with its index
--   HasIndex ..          index k belongs to entry k of its side
--   IndexesAreThere ..   each entry of a side has its index, and there are no others
--   LongIndexesAreWritten     this holds in the image of a layout
use Rattle.std.specs.Prelude.{◌≡◌, ℕ, ◌+◌, ◌*◌, Bool, true, false, List, length, Some, slice_get}
use Rattle.std.specs.List.{flat_map, filter}
use Rattle.wild_words.specs.Words.{HasBytesAt, word}
use Rattle.wild_records.specs.Abi.Section.{shn_xindex}
use Rattle.wild_types.specs.declared.part.Part.{Part}
use Rattle.wild_types.specs.declared.part.Role.{Role}
use Rattle.wild_types.specs.declared.part.Role.TheVariants as role
use Rattle.wild_types.specs.declared.file.Group.{Group}
use Rattle.wild_types.specs.declared.layout.Layout.{Layout}
use Rattle.wild_needs.specs.Needs.{long_index_size}
use Rattle.wild_types.specs.Lookups.{is_header_only_at}
use Rattle.wild_types.specs.Parts.{part_with}
use Rattle.wild_table_formats.specs.TableEntries.{NamedEntry, is_side, group_table}
use Rattle.wild_layout.specs.Image.{bytes}
use Rattle.wild_layout.specs.Geometry.{IsLaidOut}
use Rattle.wild_names.specs.Laws.{fields_of_entry, side_symbols}

-- the part of the indexes of .symtab's local symbols, or of its other symbols
abbrev pub index_role : Bool → Role
index_role true = role.SymtabShndxLocal
index_role false = role.SymtabShndxGlobal

-- the contents of the entries of that table's local symbols, or of its other symbols, in group order, each with its index
abbrev pub side_table : Layout → Bool → List NamedEntry
side_table l local = flat_map (λ (g : Group). filter (is_side local) (group_table l g)) l.groups

-- index k is at its position, and belongs to entry k of its side; it is 0 unless st_shndx is SHN_XINDEX
pub record HasIndex (l : Layout) (local : Bool) (indexes : Part) (k : ℕ) (n : NamedEntry) : Type 0 where
  pub entry : slice_get (side_symbols l local) k ≡ Some (fields_of_entry n)
  pub index : HasBytesAt (bytes l) (indexes.offset + long_index_size * k) (word long_index_size n.fields.long)
  pub else_zero : (n.fields.fields.section ≡ shn_xindex → ⊥) → n.fields.long ≡ 0

-- each entry of a side has its index, and there are no others
pub record IndexesAreThere (l : Layout) (local : Bool) (indexes : Part) : Type 0 where
  pub whole : indexes.size ≡ long_index_size * length (side_symbols l local)
  pub each : (k : ℕ) (n : NamedEntry) → slice_get (side_table l local) k ≡ Some n → HasIndex l local indexes k n

-- this holds in the image of a layout whose clauses and shares hold, if there is such a part and it is written
abbrev pub LongIndexesAreWritten : Type 0
LongIndexesAreWritten = (l : Layout) → IsLaidOut l → (local : Bool) (indexes : Part) → part_with (index_role local) l.parts ≡ Some indexes → is_header_only_at l indexes.section ≡ false → IndexesAreThere l local indexes
