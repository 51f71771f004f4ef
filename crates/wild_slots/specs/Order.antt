-- The order in which slots and stubs are written (x86-64 psABI, "Global Offset Table (GOT)", "Procedure Linkage Table").
--   written_symbols l    the symbols whose slots files write, in their order
--   IsWritten l s        a file of a group writes the symbol's slots
--   end_of l r           the end of the table of a role
use Rattle.std.specs.Prelude.{◌≡◌, ℕ, ◌+◌, List, true, length, Contains}
use Rattle.std.specs.List.{flat_map}
use Rattle.wild_types.specs.declared.part.Role.{Role}
use Rattle.wild_types.specs.declared.file.File.{File}
use Rattle.wild_types.specs.declared.file.Group.{Group}
use Rattle.wild_types.specs.declared.symbol.Symbol.{Symbol}
use Rattle.wild_types.specs.declared.layout.Layout.{Layout}
use Rattle.wild_types.specs.FileRoles.{writes_slots}
use Rattle.wild_types.specs.FileSymbols.{own_symbols}
use Rattle.wild_plan_rules.specs.SlotPlaces.{start_of}
use Rattle.wild_layout.specs.TablePlaces.{table_bytes}

-- the symbols whose slots the files of a group write, in order; and those of all groups
abbrev pub group_symbols : Layout → Group → List Symbol
group_symbols l g = flat_map (own_symbols l) g.files

abbrev pub written_symbols : Layout → List Symbol
written_symbols l = flat_map (group_symbols l) l.groups

-- a file of a group writes the symbol's slots
pub record IsWritten (l : Layout) (s : Symbol) : Type 0 where
  pub group : Group
  pub file : File
  pub listed : Contains l.groups group
  pub holds : Contains group.files file
  pub writes : writes_slots file.role ≡ true
  pub own : Contains (own_symbols l file) s

-- the end of the table of a role
abbrev pub end_of : Layout → Role → ℕ
end_of l r = start_of l r + length (table_bytes l r)
