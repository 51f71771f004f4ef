-- Clause 9: each index names an item that exists, and each symbol belongs to at most one file.
--   index_fits count i         an index, if there is one, is below count
--   symbol_misfit l fs i ss    the first symbol whose definition or place does not exist
--   thunks_are_there l b       the symbols of a block of thunks exist
--   listed_misfit l            the first listed symbol that does not exist
--   sorted_is_there l x        the section that an entry of the order names exists
--   range_out_of_order n i gs  the first group with a symbol range that begins before the end of the previous one
use Rattle.std.specs.Prelude.{ℕ, ◌+◌, ◌==◌, Bool, true, false, ◌&&◌, ◌||◌, if◌then◌else◌, nat_lt, nat_le, max, List, [], ◌∷◌, length, Option, Some, None, slice_get}
use Rattle.std.specs.List.{list_all}
use Rattle.wild_types.specs.declared.part.Part.{Part}
use Rattle.wild_types.specs.declared.symbol.Place.{Place}
use Rattle.wild_types.specs.declared.symbol.Place.TheVariants as at
use Rattle.wild_types.specs.declared.symbol.Symbol.{Symbol}
use Rattle.wild_types.specs.declared.input.InputRelocation.{InputRelocation}
use Rattle.wild_types.specs.declared.input.InputSection.{InputSection}
use Rattle.wild_types.specs.declared.file.File.{File}
use Rattle.wild_types.specs.declared.file.Group.{Group}
use Rattle.wild_types.specs.declared.layout.Entry.{Entry}
use Rattle.wild_types.specs.declared.layout.Entry.TheVariants as entry
use Rattle.wild_types.specs.declared.layout.Layout.{Layout}
use Rattle.wild_types.specs.declared.layout.DynamicSymbol.{DynamicSymbol}
use Rattle.wild_types.specs.declared.layout.Thunk.{Thunk}
use Rattle.wild_types.specs.declared.layout.SortedSection.{SortedSection}
use Rattle.wild_types.specs.declared.layout.Merged.{Merged}
use Rattle.wild_types.specs.Lists.{first_failing, through}
use Rattle.wild_types.specs.Lookups.{file_of}

-- an index, if there is one, is below count
abbrev pub index_fits : ℕ → Option ℕ → Bool
index_fits count None = true
index_fits count (Some i) = nat_lt i count

abbrev pub part_index_fits : Layout → Part → Bool
part_index_fits l p = nat_lt p.section (length l.sections)

abbrev pub primary_is_there : Layout → Bool
primary_is_there l = nat_lt l.primary_part (length l.parts)

-- ---- symbols

-- an output section is one of the output's; an input section is below count, the number of sections of the symbol's own file
abbrev pub place_fits : Layout → ℕ → Place → Bool
place_fits l count (at.Output k) = nat_lt k (length l.sections)
place_fits l count (at.Section k) = nat_lt k count
place_fits l count other = true

abbrev pub symbol_indexes_fit : Layout → ℕ → Symbol → Bool
symbol_indexes_fit l count s = index_fits (length l.symbols) s.definition && place_fits l count s.place

abbrev pub section_count : Option File → ℕ
section_count None = 0
section_count (Some f) = length f.sections

-- the first symbol whose definition or place does not exist
abbrev pub symbol_misfit : Layout → List File → ℕ → List Symbol → Option ℕ
symbol_misfit l files i [] = None
symbol_misfit l files i (s ∷ ss) = if symbol_indexes_fit l (section_count (file_of files i)) s then symbol_misfit l files (i + 1) ss else Some i

-- ---- groups

abbrev pub relocation_index_fits : Layout → InputRelocation → Bool
relocation_index_fits l r = index_fits (length l.symbols) r.symbol

abbrev pub symbol_is_there : Layout → ℕ → Bool
symbol_is_there l i = nat_lt i (length l.symbols)

-- a header index names a section
abbrev pub header_is_there : Layout → ℕ → Bool
header_is_there l k = nat_lt k (length l.sections)

abbrev pub section_indexes_fit : Layout → InputSection → Bool
section_indexes_fit l s = nat_lt s.part (length l.parts) && (index_fits (length l.sections) s.singleton && (list_all (header_is_there l) s.members && list_all (relocation_index_fits l) s.relocations))

-- block 0 may be named if there are no blocks
abbrev pub block_is_there : Layout → File → Bool
block_is_there l f = nat_lt f.thunk_block (max 1 (length l.thunk_blocks))

abbrev pub file_indexes_fit : Layout → File → Bool
file_indexes_fit l f = (f.symbol_count == 0 || nat_le (f.first_symbol + f.symbol_count) (length l.symbols)) && (list_all (section_indexes_fit l) f.sections && (list_all (symbol_is_there l) f.copies && block_is_there l f))

abbrev pub group_indexes_fit : Layout → Group → Bool
group_indexes_fit l g = list_all (file_indexes_fit l) g.files

-- ---- thunks

abbrev pub thunk_is_there : Layout → Thunk → Bool
thunk_is_there l t = symbol_is_there l t.symbol

abbrev pub thunks_are_there : Layout → List Thunk → Bool
thunks_are_there l b = list_all (thunk_is_there l) b

-- ---- listed symbols

abbrev pub listed_is_there : Layout → DynamicSymbol → Bool
listed_is_there l d = symbol_is_there l d.symbol

abbrev pub listed_misfit : Layout → Option ℕ
listed_misfit l = first_failing (listed_is_there l) 0 l.dynsyms

-- ---- sorted sections, merged strings and the linker's identity string

abbrev pub section_is_there : ℕ → Option File → Bool
section_is_there k None = false
section_is_there k (Some f) = nat_lt k (length f.sections)

abbrev pub file_is_there : ℕ → ℕ → Option Group → Bool
file_is_there file k None = false
file_is_there file k (Some g) = section_is_there k (slice_get g.files file)

-- the section that an entry of the order names exists
abbrev pub sorted_is_there : Layout → SortedSection → Bool
sorted_is_there l x = file_is_there x.file x.section (slice_get l.groups x.group)

abbrev pub merged_is_there : Layout → Merged → Bool
merged_is_there l m = nat_lt m.part (length l.parts)

abbrev pub identity_is_there : Layout → Bool
identity_is_there l = nat_lt l.identity.part (length l.parts)

-- ---- the entry point

abbrev pub entry_is_there : Layout → Option Entry → Bool
entry_is_there l (Some (entry.Symbol i)) = symbol_is_there l i
entry_is_there l other = true

-- ---- definitions

abbrev pub defines_itself : ℕ → Option Symbol → Bool
defines_itself i None = true
defines_itself i (Some s) = is_own s.definition
  where
    is_own : Option ℕ → Bool
    is_own None = true
    is_own (Some j) = j == i

-- a symbol's definition defines itself
abbrev pub definition_is_own : Layout → Symbol → Bool
definition_is_own l s = is_final s.definition
  where
    is_final : Option ℕ → Bool
    is_final None = true
    is_final (Some j) = defines_itself j (slice_get l.symbols j)

-- ---- the order of the ranges

-- where the symbol ranges of later files may begin; none if the file's begins before
abbrev pub range_follows : ℕ → File → Option ℕ
range_follows end f = if f.symbol_count == 0 then Some end else (if nat_le end f.first_symbol then Some (f.first_symbol + f.symbol_count) else None)

abbrev pub or_place : {S : Type 0} → ℕ → Option S → (S → Option ℕ) → Option ℕ
or_place i None rest = Some i
or_place i (Some state) rest = rest state

-- the first group with a file whose range begins before the end of the previous one
abbrev pub range_out_of_order : ℕ → ℕ → List Group → Option ℕ
range_out_of_order end i [] = None
range_out_of_order end i (g ∷ gs) = or_place i (through range_follows end g.files) (λ next. range_out_of_order next (i + 1) gs)
