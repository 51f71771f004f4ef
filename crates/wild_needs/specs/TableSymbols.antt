-- The symbols of `.symtab` (gABI, "Symbol Table"). Its local symbols precede all others; names are in the order in which the files are
-- processed.
--   TableSymbol            a symbol of the layout, or the name of its slot, of its stub or of a thunk to it
--   section_symbols l      the sections for which a relocatable object has symbols
--   pass_items l p i ss    the items for symbols from number i on, in one pass
--   thunk_items l f        the names of the thunks that a file writes
--   file_items l f         the items for a file, in the order of the names
--   item_name x            its name
--   is_local x             it is a local symbol
--   side local xs          the local symbols, or the global ones
--   local_count, global_count   the number of entries of a file for local symbols, and for global ones
--   table_strings l f      the strings of a file
--   has_long l r           parts of that role have a 32-bit section index for each symbol
use Rattle.std.specs.Prelude.{ℕ, ◌+◌, ◌/◌, ◌==◌, Bool, true, false, not, ◌&&◌, ◌||◌, if◌then◌else◌, List, [], ◌∷◌, ◌++◌, length, map, codes, Option, Some, None, option_to_list, slice_get}
use Rattle.std.specs.List.{filter, flat_map, list_any}
use Rattle.wild_records.specs.Abi.Symbol.{stb_local}
use Rattle.wild_types.specs.declared.part.Role.{Role}
use Rattle.wild_types.specs.declared.file.FileRole.{FileRole}
use Rattle.wild_types.specs.declared.file.FileRole.TheVariants as file_role
use Rattle.wild_types.specs.declared.file.File.{File}
use Rattle.wild_types.specs.declared.input.InputSection.{InputSection}
use Rattle.wild_types.specs.declared.section.Section.{Section}
use Rattle.wild_types.specs.declared.kind.OutputKind.{OutputKind}
use Rattle.wild_types.specs.declared.symbol.Place.{Place}
use Rattle.wild_types.specs.declared.symbol.Place.TheVariants as at
use Rattle.wild_types.specs.declared.symbol.Symbol.{Symbol}
use Rattle.wild_types.specs.declared.layout.Thunk.{Thunk}
use Rattle.wild_needs.specs.declared.table.SymtabName.{SymtabName}
use Rattle.wild_needs.specs.declared.table.SymtabName.TheVariants as named
use Rattle.wild_needs.specs.declared.table.SymtabPass.{SymtabPass}
use Rattle.wild_needs.specs.declared.table.SymtabSymbols.{SymtabSymbols}
use Rattle.wild_needs.specs.declared.table.SymtabSymbols.TheVariants as takes
use Rattle.wild_types.specs.declared.layout.Layout.{Layout}
use Rattle.wild_types.specs.FileRoles.{is_prelude}
use Rattle.wild_types.specs.Flags.{has_flag, downgrade_to_local}
use Rattle.wild_types.specs.Parts.{has_role}
use Rattle.wild_types.specs.FileSymbols.{loaded_symbols}
use Rattle.wild_types.specs.FileThunks.{thunks_of}
use Rattle.wild_types.specs.SymbolSlots.{names_slot, names_stub}
use Rattle.wild_types.specs.Kinds.{is_partial_link}
use Rattle.wild_types.specs.Lookups.{has_symtab, has_many_sections, files_of}
use Rattle.wild_words.specs.Runs.{numbered_items}

-- ---- symbols

-- a symbol of the layout, its number, and the kind of its name: its own, its slot's, its stub's, or that of a thunk to it
pub record TableSymbol : Type 0 where
  pub named : SymtabName
  pub index : ℕ
  pub symbol : Symbol

abbrev pub item : SymtabName → ℕ → Symbol → TableSymbol
item named i s = record { named = named; index = i; symbol = s }

abbrev pub item_if : Bool → TableSymbol → List TableSymbol
item_if b x = if b then x ∷ [] else []

abbrev pub slot_items : Layout → ℕ → Symbol → List TableSymbol
slot_items l i s = item_if (names_slot l i s) (item named.Slot i s) ++ item_if (names_stub l i s) (item named.Stub i s)

-- the symbol is undefined
abbrev pub is_undefined_symbol : Place → Bool
is_undefined_symbol at.Undefined = true
is_undefined_symbol other = false

-- the symbol is one of those that a pass takes
abbrev pub is_of_pass : SymtabSymbols → Symbol → Bool
is_of_pass takes.Every s = true
is_of_pass takes.Defined s = not (is_undefined_symbol s.place)
is_of_pass takes.Undefined s = is_undefined_symbol s.place
is_of_pass takes.Nothing s = false

abbrev pub own_item : SymtabSymbols → ℕ → Symbol → List TableSymbol
own_item o i s = item_if (is_of_pass o s && s.emit) (item named.Itself i s)

-- the items for a symbol in a pass: the names of its slot and its stub, then its own
abbrev pub symbol_items : Layout → SymtabPass → ℕ → Symbol → List TableSymbol
symbol_items l p i s = (if p.slots then slot_items l i s else []) ++ own_item p.own i s

-- the items for symbols in a pass, from number i on
abbrev pub pass_items : Layout → SymtabPass → ℕ → List Symbol → List TableSymbol
pass_items l p i ss = numbered_items (symbol_items l p) i ss

-- an input file has one pass; the linker's own files have their symbols first, and then the names of their slots
abbrev pub linked_passes : FileRole → List SymtabPass
linked_passes file_role.Object = record { slots = true; own = takes.Every } ∷ []
linked_passes file_role.Dynamic = record { slots = true; own = takes.Every } ∷ []
linked_passes other = record { slots = false; own = takes.Every } ∷ record { slots = true; own = takes.Nothing } ∷ []

-- in a relocatable object, which has no slots, a file's undefined symbols follow the others
abbrev pub passes : OutputKind → FileRole → List SymtabPass
passes kind role =
    if is_partial_link kind
    then record { slots = false; own = takes.Defined } ∷ record { slots = false; own = takes.Undefined } ∷ []
    else linked_passes role

abbrev pub items_of : Layout → List SymtabPass → File → List TableSymbol
items_of l ps f = flat_map (λ (p : SymtabPass). pass_items l p f.first_symbol (loaded_symbols l f)) ps

abbrev pub named_thunk : Thunk → Option Symbol → List TableSymbol
named_thunk t None = []
named_thunk t (Some s) = item (named.Thunk t.address) t.symbol s ∷ []

-- the name of a thunk
abbrev pub thunk_item : Layout → Thunk → List TableSymbol
thunk_item l t = named_thunk t (slice_get l.symbols t.symbol)

-- the names of the thunks that a file writes
abbrev pub thunk_items : Layout → File → List TableSymbol
thunk_items l f = flat_map (thunk_item l) (thunks_of l f)

-- the items for a file: its symbols, then its thunks
unfoldable pub file_items : Layout → File → List TableSymbol
file_items l f = if has_symtab l then items_of l (passes l.kind f.role) f ++ thunk_items l f else []

-- ---- names

abbrev pub prefix : SymtabName → List ℕ
prefix (named.Thunk a) = codes "__wild_thunk_"
prefix other = []

abbrev pub suffix : SymtabName → List ℕ
suffix named.Slot = codes "$got"
suffix named.Stub = codes "$plt"
suffix other = []

-- the full name of an item for a symbol with that name
abbrev pub full_name : SymtabName → List ℕ → List ℕ
full_name n name = prefix n ++ (name ++ suffix n)

abbrev pub item_name : TableSymbol → List ℕ
item_name x = full_name x.named x.symbol.name

-- ---- local and global symbols

-- the symbol's binding is local, or was downgraded to local (gABI, "Symbol Table", STB_LOCAL)
abbrev pub is_local_symbol : Symbol → Bool
is_local_symbol s = s.info / 16 == stb_local || has_flag s.flags downgrade_to_local

abbrev pub is_local_by : SymtabName → Symbol → Bool
is_local_by named.Itself s = is_local_symbol s
is_local_by other s = true

-- names of slots, stubs and thunks are local
abbrev pub is_local : TableSymbol → Bool
is_local x = is_local_by x.named x.symbol

abbrev pub is_on_side : Bool → TableSymbol → Bool
is_on_side true x = is_local x
is_on_side false x = not (is_local x)

-- the local symbols, or the global ones
abbrev pub side : Bool → List TableSymbol → List TableSymbol
side local xs = filter (is_on_side local) xs

-- ---- section symbols

-- the header indexes of the sections that have a section symbol by the layout, counted from k on
abbrev pub marked_sections : ℕ → List Section → List ℕ
marked_sections k [] = []
marked_sections k (s ∷ ss) = if s.section_symbol then k ∷ marked_sections (k + 1) ss else marked_sections (k + 1) ss

-- the header indexes of the input sections that the object keeps as sections of their own, in the order of processing
abbrev pub singleton_sections : Layout → List ℕ
singleton_sections l = flat_map (λ (f : File). flat_map (λ (s : InputSection). option_to_list s.singleton) f.sections) (files_of l.groups)

-- a relocatable object has a local symbol for each of these (gABI, "Symbol Table": STT_SECTION)
unfoldable pub section_symbols : Layout → List ℕ
section_symbols l = if is_partial_link l.kind then marked_sections 0 l.sections ++ singleton_sections l else []

-- the table begins with the null symbol, which is local, and the section symbols
abbrev pub null_count : Layout → File → ℕ
null_count l f = if has_symtab l && is_prelude f.role then 1 + length (section_symbols l) else 0

-- the number of entries of a file for local symbols, and for global ones
abbrev pub local_count : Layout → File → ℕ
local_count l f = null_count l f + length (side true (file_items l f))

abbrev pub global_count : Layout → File → ℕ
global_count l f = length (side false (file_items l f))

-- ---- strings

-- the empty string, with which the string table begins, belongs to the first file (gABI, "String Table")
abbrev pub null_strings : Layout → File → List (List ℕ)
null_strings l f = if has_symtab l && is_prelude f.role then [] ∷ [] else []

-- the strings of a file
unfoldable pub table_strings : Layout → File → List (List ℕ)
table_strings l f = null_strings l f ++ map item_name (file_items l f)

-- ---- longer section indexes

-- each symbol has a 32-bit index, if there is a part for them, or a section that needs one (gABI, SHT_SYMTAB_SHNDX)
abbrev pub has_long : Layout → Role → Bool
has_long l r = list_any (has_role r) l.parts || has_many_sections l
