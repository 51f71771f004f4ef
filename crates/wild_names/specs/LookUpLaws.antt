-- Names are found in the image of a layout without faults (gABI, "Hash Table"; GNU, "DT_GNU_HASH").
--   first_with_name l name          the first of the listed symbols with that name, by its index in the dynamic symbol table
--   IsWritten l           an output with a dynamic section, which is written, without faults
--   SysvLookUpsFind, GnuLookUpsFind   the look-up of any name in the image gives that symbol, and none if no symbol has the name
--   LookUpsWithoutTable   without the part of a table, or with an empty one, the look-up in it gives none
use Rattle.std.specs.Prelude.{◌≡◌, ℕ, true, [], List, Option, Some, None, Ok}
use Rattle.wild_types.specs.declared.part.Part.{Part}
use Rattle.wild_types.specs.declared.part.Role.TheVariants as role
use Rattle.wild_types.specs.declared.layout.SysvHash.{SysvHash}
use Rattle.wild_types.specs.declared.layout.GnuHash.{GnuHash}
use Rattle.wild_types.specs.declared.layout.Layout.{Layout}
use Rattle.wild_needs.specs.DynamicPlaces.{filled_part}
use Rattle.wild_needs.specs.DynamicSymbols.{first_listed}
use Rattle.wild_types.specs.HeaderOnly.{KeepsAll}
use Rattle.wild_types.specs.Kinds.{needs_dynamic}
use Rattle.wild_types.specs.Parts.{part_with}
use Rattle.wild_hashes.specs.Image.{gnu_lookup_in, sysv_lookup_in}
use Rattle.wild_hashes.specs.Laws.{first_named, names_of}
use Rattle.wild_layout.specs.Faults.{errors}
use Rattle.wild_layout.specs.Image.{bytes}
use Rattle.wild_layout.specs.Numbers.{NumbersFit}

-- the first of the listed symbols with that name, by its index in the dynamic symbol table
abbrev pub first_with_name : Layout → List ℕ → Option ℕ
first_with_name l name = first_named (first_listed l) (names_of l.dynsyms) name

-- an output with a dynamic section, which is written, without faults
pub record IsWritten (l : Layout) : Type 0 where
  pub dynamic : needs_dynamic l.kind ≡ true
  pub numbers : NumbersFit l
  pub none : errors l ≡ []
  pub keeps : KeepsAll l

-- in the image of one with a System V table the look-up of any name finds the first symbol of that name, or none
abbrev pub SysvLookUpsFind : Type 0
SysvLookUpsFind = (l : Layout) (h : SysvHash) (p : Part) (name : List ℕ) → IsWritten l → l.sysv_hash ≡ Some h → part_with role.SysvHash l.parts ≡ Some p → sysv_lookup_in (bytes l) name ≡ Ok (first_with_name l name)

-- the same with a GNU table
abbrev pub GnuLookUpsFind : Type 0
GnuLookUpsFind = (l : Layout) (h : GnuHash) (p : Part) (name : List ℕ) → IsWritten l → l.gnu_hash ≡ Some h → part_with role.GnuHash l.parts ≡ Some p → gnu_lookup_in (bytes l) name ≡ Ok (first_with_name l name)

-- without the part of a table, or with an empty one, a look-up in it finds none
pub record LookUpsWithoutTable : Type 0 where
  pub sysv : (l : Layout) (name : List ℕ) → IsWritten l → filled_part l role.SysvHash ≡ None → sysv_lookup_in (bytes l) name ≡ Ok None
  pub gnu : (l : Layout) (name : List ℕ) → IsWritten l → filled_part l role.GnuHash ≡ None → gnu_lookup_in (bytes l) name ≡ Ok None
