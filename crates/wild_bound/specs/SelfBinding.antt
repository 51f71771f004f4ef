-- When symbols of an image are bound to themselves, and its number of dynamic symbols.
--   HasImage xs order n l       the image at place n is that of layout l, which has a hash table
--   HasLookUpTable l            the layout has a hash table that is not empty
--   IsDefined f                 the fields are those of a defined symbol
--   VisibleSymbolsAreBound      an exported symbol that is not of default visibility is bound to itself
--   FirstSymbolsAreBound        an exported symbol of the first image is bound to itself, if it is the first one with its name
--   IndexesAreInRange           each index in the dynamic symbol table is below the number of symbols that is read
use Rattle.std.specs.Prelude.{◌≡◌, ◌≢◌, ℕ, ◌+◌, ◌%◌, ◌^◌, ◌<◌, ◌≤◌, ◌⊎◌, true, List, length, Some, None, slice_get}
use Rattle.wild_records.specs.Abi.Section.{shn_undef}
use Rattle.wild_records.specs.Abi.Symbol.{stv_default}
use Rattle.wild_types.specs.declared.layout.DynamicSymbol.{DynamicSymbol}
use Rattle.wild_types.specs.declared.layout.GnuHash.{GnuHash}
use Rattle.wild_types.specs.declared.layout.SysvHash.{SysvHash}
use Rattle.wild_types.specs.declared.layout.Layout.{Layout}
use Rattle.wild_types.specs.declared.part.Part.{Part}
use Rattle.wild_types.specs.declared.part.Role.TheVariants as role
use Rattle.wild_types.specs.Parts.{part_with, has_hashes}
use Rattle.wild_needs.specs.DynamicPlaces.{filled_part}
use Rattle.wild_needs.specs.DynamicSymbols.{first_listed}
use Rattle.wild_table_formats.specs.declared.symbols.SymbolFields.{SymbolFields}
use Rattle.wild_table_formats.specs.DynamicEntries.{listed}
use Rattle.wild_layout.specs.Image.{bytes as image_bytes}
use Rattle.wild_names.specs.LookUpLaws.{IsWritten, first_with_name}
use Rattle.wild_space.specs.declared.image.NamedImage.{NamedImage}
use Rattle.wild_space.specs.Binds.{place_of}
use Rattle.wild_bound.specs.Premises.{IsBoundToItself, AreIndexesInRange}

-- the image at place n is that of an output with a dynamic section and a hash table, without faults
pub record HasImage (xs : List NamedImage) (order : List ℕ) (n : ℕ) (l : Layout) : Type 0 where
  pub image : NamedImage
  pub there : slice_get xs (place_of order n) ≡ Some image
  pub is : image.bytes ≡ image_bytes l
  pub written : IsWritten l
  pub hashes : has_hashes l ≡ true

-- the layout has a GNU hash table
pub record HasGnuTable (l : Layout) : Type 0 where
  pub shape : GnuHash
  pub given : l.gnu_hash ≡ Some shape
  pub part : Part
  pub there : part_with role.GnuHash l.parts ≡ Some part

-- the layout has a System V hash table
pub record HasSysvTable (l : Layout) : Type 0 where
  pub shape : SysvHash
  pub given : l.sysv_hash ≡ Some shape
  pub part : Part
  pub there : part_with role.SysvHash l.parts ≡ Some part

-- a look-up reads the GNU table or, without one, the System V table
abbrev pub HasLookUpTable : Layout → Type 0
HasLookUpTable l = HasGnuTable l ⊎ ((filled_part l role.GnuHash ≡ None) × HasSysvTable l)

-- the fields are those of a defined symbol, and in their ranges
pub record IsDefined (f : SymbolFields) : Type 0 where
  pub section : f.section < 2 ^ 16
  pub other : f.attributes.other < 2 ^ 8
  pub defined : f.section ≢ shn_undef

-- an exported symbol that is not of default visibility is bound to itself (gABI, "Symbol Visibility")
abbrev pub VisibleSymbolsAreBound : Type 0
VisibleSymbolsAreBound = (xs : List NamedImage) (order : List ℕ) (n j : ℕ) (l : Layout) (d : DynamicSymbol) → HasImage xs order n l → slice_get l.dynsyms j ≡ Some d → IsDefined (listed l d).fields → (listed l d).fields.attributes.other % 4 ≢ stv_default → IsBoundToItself xs order n (first_listed l + j)

-- an exported symbol of the first image of the order is bound to itself, if none before it has its name
abbrev pub FirstSymbolsAreBound : Type 0
FirstSymbolsAreBound = (xs : List NamedImage) (order : List ℕ) (j : ℕ) (l : Layout) (d : DynamicSymbol) → 1 ≤ length order → HasImage xs order 0 l → HasLookUpTable l → slice_get l.dynsyms j ≡ Some d → IsDefined (listed l d).fields → first_with_name l d.name ≡ Some (first_listed l + j)
    → IsBoundToItself xs order 0 (first_listed l + j)

-- the number of symbols is read of the System V table or, without one, of the GNU table
abbrev pub HasCountTable : Layout → Type 0
HasCountTable l = HasSysvTable l ⊎ ((filled_part l role.SysvHash ≡ None) × HasGnuTable l)

-- each index in the dynamic symbol table is below the number of symbols that is read
abbrev pub IndexesAreInRange : Type 0
IndexesAreInRange = (xs : List NamedImage) (order : List ℕ) (n : ℕ) (l : Layout) → HasImage xs order n l → HasCountTable l → AreIndexesInRange xs order n l
