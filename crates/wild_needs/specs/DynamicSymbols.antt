-- Clause 13: the dynamic symbol table (gABI, "Symbol Table"). After the null symbol it has, file by file, the symbols that other
-- modules define, and then those of the layout's list `dynsyms` in its order. A symbol's flags, resolution and place are those
-- that the layout gives for it, even if another symbol defines it.
--   undefined_entries ss fs   the symbols that other modules define, in the order of their entries
--   dynamic_symbols l         the symbols of the table after the null symbol
--   has_position table i p    entry p of the table is that of symbol i
--   misplaced table i ss      the first symbol whose index is not its position
--   first_misplaced_listed l p i ds           the first symbol of `dynsyms` whose index is not the next position, or which is in a section whose
--                             header index no symbol can have
use Rattle.std.specs.Prelude.{ℕ, zero, suc, ◌+◌, ◌==◌, Bool, true, false, not, ◌&&◌, if◌then◌else◌, nat_lt, List, [], ◌∷◌, ◌++◌, length, map, Option, Some, None, slice_get}
use Rattle.std.specs.List.{flat_map}
use Rattle.wild_types.specs.declared.symbol.Place.{Place}
use Rattle.wild_types.specs.declared.symbol.Place.TheVariants as at
use Rattle.wild_types.specs.declared.symbol.ValueFlags.{ValueFlags}
use Rattle.wild_types.specs.declared.symbol.Resolution.{Resolution}
use Rattle.wild_types.specs.declared.symbol.Symbol.{Symbol}
use Rattle.wild_types.specs.declared.input.InputSection.{InputSection}
use Rattle.wild_types.specs.declared.file.FileRole.{FileRole}
use Rattle.wild_types.specs.declared.file.FileRole.TheVariants as file_role
use Rattle.wild_types.specs.declared.file.File.{File}
use Rattle.wild_types.specs.declared.layout.DynamicSymbol.{DynamicSymbol}
use Rattle.wild_types.specs.declared.layout.Layout.{Layout}
use Rattle.wild_types.specs.FileSymbols.{range_of}
use Rattle.wild_types.specs.Flags.{has_flag, dynamic, copy_relocation, canonical_plt}
use Rattle.wild_types.specs.Lookups.{section_of, files_of, file_of}

-- ---- the table

-- a file of this role has an undefined entry for a resolution with these flags: an object for a symbol that another module defines, a
-- library for one that has neither a copy relocation nor a canonical stub
abbrev pub writes_undefined_entry : FileRole → ValueFlags → Bool
writes_undefined_entry file_role.Object f = has_flag f dynamic
writes_undefined_entry file_role.Dynamic f = not (has_flag f copy_relocation) && not (has_flag f canonical_plt)
writes_undefined_entry other f = false

abbrev pub is_resolved : Option Resolution → Bool
is_resolved None = false
is_resolved (Some r) = true

-- a symbol of a file of this role has an undefined entry
abbrev pub is_undefined_entry : FileRole → Symbol → Bool
is_undefined_entry role s = writes_undefined_entry role s.flags && is_resolved s.resolution

-- the indexes of the items that pass a test, counted from i on
abbrev pub places_where : {X : Type 0} → (X → Bool) → ℕ → List X → List ℕ
places_where test i [] = []
places_where test i (x ∷ xs) = if test x then i ∷ places_where test (i + 1) xs else places_where test (i + 1) xs

abbrev pub undefined_in : List Symbol → File → List ℕ
undefined_in symbols f = places_where (is_undefined_entry f.role) f.first_symbol (range_of symbols f)

-- the symbols that other modules define, in the order of their entries
abbrev pub undefined_entries : List Symbol → List File → List ℕ
undefined_entries symbols files = flat_map (undefined_in symbols) files

abbrev pub listed : List DynamicSymbol → List ℕ
listed ds = map (λ (d : DynamicSymbol). d.symbol) ds

-- the symbols of the table after the null symbol
abbrev pub dynamic_symbols : Layout → List ℕ
dynamic_symbols l = undefined_entries l.symbols (files_of l.groups) ++ listed l.dynsyms

-- ---- a symbol's index is its position

abbrev pub is_named : ℕ → Option ℕ → Bool
is_named i None = false
is_named i (Some j) = j == i

-- entry 0 is the null symbol's
abbrev pub has_position : List ℕ → ℕ → ℕ → Bool
has_position table i zero = false
has_position table i (suc k) = is_named i (slice_get table k)

abbrev pub resolved_index : Option Resolution → Option ℕ
resolved_index None = None
resolved_index (Some r) = r.dynamic_symbol_index

-- the symbol's index in the dynamic symbol table
abbrev pub dynsym_of : Symbol → Option ℕ
dynsym_of s = resolved_index s.resolution

-- the index, if there is one, is the position of symbol i
abbrev pub position_fits : List ℕ → ℕ → Option ℕ → Bool
position_fits table i None = true
position_fits table i (Some p) = has_position table i p

abbrev pub misplaced : List ℕ → ℕ → List Symbol → Option ℕ
misplaced table i [] = None
misplaced table i (s ∷ ss) = if position_fits table i (dynsym_of s) then misplaced table (i + 1) ss else Some i

-- ---- the symbols of the list `dynsyms`

-- a header index that a symbol may have (gABI, "Special Section Indexes": SHN_LORESERVE)
abbrev pub symbol_sections : ℕ
symbol_sections = 0xff00

abbrev pub input_of : Option File → ℕ → Option InputSection
input_of None k = None
input_of (Some f) k = slice_get f.sections k

abbrev pub section_of_input : Layout → Option InputSection → ℕ
section_of_input l None = 0
section_of_input l (Some s) = section_of l s.part

-- the header index of the output section for a symbol's place in a file; 0 if there is none
abbrev pub output_section : Layout → Option File → Place → ℕ
output_section l f (at.Output k) = k
output_section l f (at.Section k) = section_of_input l (input_of f k)
output_section l f other = 0

abbrev pub is_position : ℕ → Option ℕ → Bool
is_position p None = false
is_position p (Some q) = q == p

abbrev pub symbol_listed_fits : Layout → ℕ → ℕ → Option Symbol → Bool
symbol_listed_fits l p i None = false
symbol_listed_fits l p i (Some s) = is_position p (dynsym_of s) && nat_lt (output_section l (file_of (files_of l.groups) i) s.place) symbol_sections

-- the symbol has index p, and a symbol may have the header index of its section
abbrev pub listed_fits : Layout → ℕ → DynamicSymbol → Bool
listed_fits l p d = symbol_listed_fits l p d.symbol (slice_get l.symbols d.symbol)

abbrev pub first_misplaced_listed : Layout → ℕ → ℕ → List DynamicSymbol → Option ℕ
first_misplaced_listed l p i [] = None
first_misplaced_listed l p i (d ∷ ds) = if listed_fits l p d then first_misplaced_listed l (p + 1) (i + 1) ds else Some i

-- the position of the first symbol of `dynsyms`: after the null symbol and the undefined ones
abbrev pub first_listed : Layout → ℕ
first_listed l = length (undefined_entries l.symbols (files_of l.groups)) + 1
