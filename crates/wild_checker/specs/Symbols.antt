-- The value of a symbol as a term, where the output's own definition has it.
--   are_ordered l          the files' ranges of symbols ascend, so a symbol is one of at most one file
--   in_file k f i          symbol i is one of file f
--   raw_in k f i r         symbol i's address in the layout, from its definition's resolution r or from its place in file f
--   symbol_term k f i      symbol i's value
--   known_answer o x       the answer for a dynamic symbol, as far as the outline fixes it
--   loaded_term k f i d    symbol i's value, also where another module may define the symbol
--   names_no_strings k f i symbol i is not that of a section of merged strings
use Rattle.std.specs.Prelude.{ℕ, ◌+◌, ◌%◌, ◌^◌, ◌==◌, ◌&&◌, ◌||◌, Bool, true, false, not, if◌then◌else◌, nat_lt, nat_le, slice_get, List, [], ◌∷◌, Option, Some, None, is_some, option_map, option_and_then}
use Rattle.wild_records.specs.Abi.Symbol.{stt_section}
use Rattle.wild_types.specs.declared.file.File.{File}
use Rattle.wild_types.specs.declared.file.Group.{Group}
use Rattle.wild_types.specs.declared.input.InputSection.{InputSection}
use Rattle.wild_types.specs.declared.input.Slot.{Slot}
use Rattle.wild_types.specs.declared.input.Slot.TheVariants as slot
use Rattle.wild_types.specs.declared.kind.Machine.{Machine}
use Rattle.wild_types.specs.declared.kind.Machine.TheVariants as machine
use Rattle.wild_types.specs.declared.layout.Layout.{Layout}
use Rattle.wild_types.specs.declared.symbol.Place.{Place}
use Rattle.wild_types.specs.declared.symbol.Place.TheVariants as at
use Rattle.wild_types.specs.declared.symbol.Resolution.{Resolution}
use Rattle.wild_types.specs.declared.symbol.Symbol.{Symbol}
use Rattle.wild_types.specs.Addresses.{address_in_section}
use Rattle.wild_types.specs.Flags.{has_flag, ifunc, absolute, undefined_weak}
use Rattle.wild_types.specs.Lookups.{canonical}
use Rattle.wild_types.specs.SymbolSlots.{plt_of}
use Rattle.wild_meaning.specs.Value.{may_be_replaced}
use Rattle.wild_terms.specs.declared.outline.KnownAnswer.{KnownAnswer}
use Rattle.wild_terms.specs.declared.outline.Outline.{Outline}
use Rattle.wild_terms.specs.declared.term.Atom.TheVariants.{Resolver}
use Rattle.wild_terms.specs.declared.term.Term.{Term}
use Rattle.wild_terms.specs.Terms.{number_term, atom_term}
use Rattle.wild_terms.specs.Outline.{based, address_of}
use Rattle.wild_checker.specs.declared.symbols.IndexedAnswer.{IndexedAnswer}
use Rattle.wild_checker.specs.Loaded.{Loaded}

-- ---- the files of symbols

-- the end of a file's range of symbols, if it has symbols and they start at n or after it
abbrev pub end_of_file : ℕ → File → Option ℕ
end_of_file n f = if f.symbol_count == 0 then Some n else (if nat_le n f.first_symbol then Some (f.first_symbol + f.symbol_count) else None)

-- the end of the last range of symbols, if the ranges ascend from n on
abbrev pub end_of_files : ℕ → List File → Option ℕ
end_of_files n [] = Some n
end_of_files n (f ∷ fs) = option_and_then (λ m. end_of_files m fs) (end_of_file n f)

abbrev pub end_of_groups : ℕ → List Group → Option ℕ
end_of_groups n [] = Some n
end_of_groups n (g ∷ gs) = option_and_then (λ m. end_of_groups m gs) (end_of_files n g.files)

-- the files' ranges of symbols ascend, so a symbol is one of at most one file
abbrev pub are_ordered : Layout → Bool
are_ordered l = is_some (end_of_groups 0 l.groups)

-- symbol i is one of file f
abbrev pub in_file : Loaded → File → ℕ → Bool
in_file k f i = k.ordered && (nat_le f.first_symbol i && nat_lt i (f.first_symbol + f.symbol_count))

-- ---- addresses

abbrev pub address_by_place : Layout → File → ℕ → Place → Option ℕ
address_by_place l f value (at.Section n) = address_in_section l value (slice_get f.sections n)
address_by_place l f value other = None

abbrev pub address_of_symbol : Layout → File → Option Symbol → Option ℕ
address_of_symbol l f None = None
address_of_symbol l f (Some s) = address_by_place l f s.value s.place

-- symbol i's address in the layout: that of its definition's resolution, else of its place in file f
abbrev pub raw_in : Loaded → File → ℕ → Option Resolution → Option ℕ
raw_in k f i (Some r) = Some r.raw_value
raw_in k f i None = if in_file k f i then address_of_symbol k.layout f (slice_get k.layout.symbols i) else None

-- ---- values

abbrev pub value_by : Bool → Outline → ℕ → Term
value_by true o a = number_term a
value_by false o a = based o a

abbrev pub is_equal : Option ℕ → Option ℕ → Bool
is_equal None y = false
is_equal (Some a) None = false
is_equal (Some a) (Some b) = a == b

-- On AArch64 an address represents its symbol if it is not that of the symbol's stub, and an undefined weak symbol has a rule of its own
-- (aaelf64, "Weak references").
abbrev pub represents : Machine → Symbol → Option ℕ → Bool
represents machine.X86_64 d raw = true
represents machine.AArch64 d raw = not (has_flag d.flags undefined_weak) && not (is_equal raw (plt_of d))

-- no other module may define the symbol, and no resolver computes its value
abbrev pub is_plain : Loaded → File → ℕ → Symbol → Bool
is_plain k f i d = not (may_be_replaced k.layout.kind d.flags) && (not (has_flag d.flags ifunc) && represents k.layout.machine d (raw_in k f i d.resolution))

-- symbol i's value, where d is its definition
abbrev pub defined_term : Loaded → File → ℕ → Option Symbol → Option Term
defined_term k f i None = None
defined_term k f i (Some d) = if is_plain k f i d then option_map (value_by (has_flag d.flags absolute) k.outline) (raw_in k f i d.resolution) else None

-- symbol i's value
abbrev pub symbol_term : Loaded → File → ℕ → Option Term
symbol_term k f i = defined_term k f i (slice_get k.layout.symbols (canonical k.layout i))

-- ---- symbols that another module may define

abbrev pub index_of : Option Resolution → Option ℕ
index_of None = None
index_of (Some r) = r.dynamic_symbol_index

abbrev pub answer_at : ℕ → KnownAnswer → IndexedAnswer
answer_at i a = record { index = i; answer = a }

-- the answer for a dynamic symbol, as far as the outline fixes it
abbrev pub known_answer : Outline → Option ℕ → Option IndexedAnswer
known_answer o None = None
known_answer o (Some i) = if nat_lt i (2 ^ 32) then option_map (answer_at i) (slice_get o.symbols i) else None

-- the address in the answer for a dynamic symbol
abbrev pub answer_term : Outline → Option ℕ → Option Term
answer_term o x = option_map (λ a. address_of a.index a.answer) (known_answer o x)

-- the answer of an IFUNC's resolver
abbrev pub resolver_term : Option Resolution → Option Term
resolver_term None = None
resolver_term (Some r) = Some (atom_term (Resolver r.raw_value))

-- symbol i's value by the output's own definition d
abbrev pub own_term : Loaded → File → ℕ → Symbol → Option Term
own_term k f i d = if has_flag d.flags ifunc then resolver_term d.resolution else option_map (value_by (has_flag d.flags absolute) k.outline) (raw_in k f i d.resolution)

-- symbol i's value, where d is its definition: the world's answer, or the output's own value
abbrev pub loaded_term : Loaded → File → ℕ → Symbol → Option Term
loaded_term k f i d = if may_be_replaced k.layout.kind d.flags then answer_term k.outline (index_of d.resolution) else own_term k f i d

-- ---- merged strings

abbrev pub is_merge : Slot → Bool
is_merge slot.Merge = true
is_merge other = false

abbrev pub has_no_strings : Option InputSection → Bool
has_no_strings None = true
has_no_strings (Some s) = not (is_merge s.slot)

abbrev pub is_no_merged : File → Place → Bool
is_no_merged f (at.Section n) = has_no_strings (slice_get f.sections n)
is_no_merged f other = true

abbrev pub names_none : Loaded → File → ℕ → Option Symbol → Bool
names_none k f i None = true
names_none k f i (Some s) = not (s.info % 16 == stt_section) || (in_file k f i && is_no_merged f s.place)

-- symbol i is not that of a section of merged strings (gABI, "Symbol Table": STT_SECTION)
abbrev pub names_no_strings : Loaded → File → ℕ → Bool
names_no_strings k f i = names_none k f i (slice_get k.layout.symbols i)
