-- The relocations of a relocatable object in a further link, compared with those of the input (gABI, "Relocation", "Symbol
-- Table").
--   Link                the addresses that such a link gives to the object's sections, and to names that the object does not
--                       define
--   object_symbols l    the entries of the object's symbol table, by their numbers
--   entry_value k e     the value of an entry's symbol
--   IsNumberOf ..       the value of the symbol whose number is in a relocation entry
--   HasValue ..         the value of a symbol of the input
--   HasTargetValue ..             S of a relocation of the input
--   IsFaithful ..       the entry gives the same value, at the same place
--   RelinkingIsFaithful this holds for each relocation of a relocatable object without faults
use Rattle.std.specs.Prelude.{◌≡◌, ◌≢◌, ℕ, ◌+◌, ◌%◌, ◌^◌, ◌<◌, ◌≤◌, ◌⊎◌, ◌==◌, true, false, if◌then◌else◌, List, [], ◌++◌, Option, Some, None, Contains, slice_get}
use Rattle.std.specs.Int.{w64, cast_unsigned}
use Rattle.wild_records.specs.Abi.Section.{shn_undef, shn_abs, shn_xindex}
use Rattle.wild_types.specs.declared.input.InputRelocation.{InputRelocation}
use Rattle.wild_types.specs.declared.input.InputSection.{InputSection}
use Rattle.wild_types.specs.declared.symbol.Place.TheVariants as at
use Rattle.wild_types.specs.declared.symbol.Symbol.{Symbol}
use Rattle.wild_types.specs.declared.file.File.{File}
use Rattle.wild_types.specs.declared.layout.Layout.{Layout}
use Rattle.wild_types.specs.Addresses.{raw_value}
use Rattle.wild_types.specs.FileRoles.{is_library}
use Rattle.wild_types.specs.Kinds.{is_partial_link}
use Rattle.wild_types.specs.Lookups.{canonical, section_of, is_discarded, files_of, file_of}
use Rattle.wild_placement.specs.ReversedWords.{with_word_order}
use Rattle.wild_placement.specs.PlacedSections.{base_of}
use Rattle.wild_table_formats.specs.declared.symbols.TableFields.{TableFields}
use Rattle.wild_table_formats.specs.DynamicFields.{is_thread_symbol}
use Rattle.wild_table_formats.specs.TableEntries.{NamedEntry}
use Rattle.wild_table_formats.specs.SectionSymbols.{symbol_section, is_section_type, entry_index, named_index}
use Rattle.wild_layout.specs.Faults.{errors}
use Rattle.wild_names.specs.IndexLaws.{side_table}
use Rattle.wild_names.specs.ObjectTables.{IsSectionOf, entry_of}

-- a link that reads the object: the addresses of its sections, by their header indexes, and of the names that nothing in it
-- defines
pub record Link : Type 0 where
  pub section : ℕ → ℕ
  pub outside : List ℕ → ℕ

-- ---- the object

-- the entries of the symbol table by their numbers, local ones first
abbrev pub object_symbols : Layout → List NamedEntry
object_symbols l = side_table l true ++ side_table l false

-- the section index in an entry (gABI, "Symbol Table": st_shndx, SHT_SYMTAB_SHNDX)
abbrev pub section_of_entry : TableFields → ℕ
section_of_entry t = if t.fields.section == shn_xindex then t.long else t.fields.section

abbrev pub undefined_value : Link → Option (List ℕ) → ℕ
undefined_value k None = 0
undefined_value k (Some name) = k.outside name

-- the value of an entry's symbol: st_value is relative to the start of its section (gABI, "Symbol Table", st_value)
abbrev pub entry_value : Link → NamedEntry → ℕ
entry_value k e =
    if e.fields.fields.section == shn_undef then undefined_value k e.name
    else if e.fields.fields.section == shn_abs then e.fields.fields.value
    else (k.section (section_of_entry e.fields) + e.fields.fields.value) % 2 ^ 64

-- the value of the symbol whose number is in a relocation entry; number 0 is no symbol, with the value 0 (gABI, "Relocation":
-- STN_UNDEF)
pub data IsNumberOf (k : Link) (l : Layout) (n v : ℕ) : Type 0 where
  NoNumber : n ≡ 0 → v ≡ 0 → IsNumberOf k l n v
  OfEntry : (e : NamedEntry) → 1 ≤ n → slice_get (object_symbols l) n ≡ Some e → v ≡ entry_value k e → IsNumberOf k l n v

-- ---- the input

-- the input section is in the object's section n, which is not 0; an input section that is kept separate is that section itself
pub record IsInObjectSection (l : Layout) (t : InputSection) (n : ℕ) : Type 0 where
  pub is : section_of l t.part ≡ n
  pub some : 1 ≤ n
  pub alone : (k : ℕ) → t.singleton ≡ Some k → k ≡ n
  pub kept : is_discarded t.slot ≡ false

-- the address of an input section in the object's section n
abbrev pub address_of : Link → ℕ → InputSection → ℕ
address_of k n t = k.section n + base_of t

-- The value of symbol i. In an input section it is relative to the section's address, if the symbol is not resolved elsewhere
-- and, for a thread-local one, if thread-local data begin at 0. Otherwise it is the symbol's own value, or that of its name in
-- the link.
pub data HasValue (k : Link) (l : Layout) (i : ℕ) (s : Symbol) (v : ℕ) : Type 0 where
  InSection : (j n : ℕ) (t : InputSection) → s.place ≡ at.Section j → symbol_section l i ≡ Some t → IsInObjectSection l t n → ((a : ℕ) → raw_value l i ≡ Some a → a ≡ (t.address + s.value) % 2 ^ 64) → (is_thread_symbol s ≡ true → l.tls.start ≡ 0)
      → v ≡ (address_of k n t + s.value) % 2 ^ 64 → HasValue k l i s v
  Absolute : s.place ≡ at.Absolute → v ≡ s.value → HasValue k l i s v
  Outside : s.place ≡ at.Undefined → v ≡ k.outside s.name → HasValue k l i s v

-- the symbol is not a section symbol
abbrev pub IsPlain : Layout → ℕ → Type 0
IsPlain l i = (s : Symbol) → slice_get l.symbols i ≡ Some s → is_section_type s ≡ false

-- S of a relocation: for a section symbol the start of its section (gABI, "Symbol Table": STT_SECTION); for any other symbol the
-- value of its definition, which no library has
pub data HasTargetValue (k : Link) (l : Layout) : Option ℕ → ℕ → Type 0 where
  NoSymbol : HasTargetValue k l None 0
  OfSection : (i n : ℕ) (s : Symbol) (t : InputSection) → slice_get l.symbols i ≡ Some s → is_section_type s ≡ true → entry_index l i ≡ None → symbol_section l i ≡ Some t → IsInObjectSection l t n → HasTargetValue k l (Some i) (address_of k n t)
  OfSymbol : (i v : ℕ) (s : Symbol) → slice_get l.symbols (canonical l i) ≡ Some s → IsPlain l i → IsPlain l (canonical l i) → (i ≡ canonical l i) ⊎ (entry_index l i ≡ None) → ((f : File) → file_of (files_of l.groups) (canonical l i) ≡ Some f → is_library f.role ≡ false)
      → HasValue k l (canonical l i) s v → HasTargetValue k l (Some i) v

-- the entry of a relocation of section t, which is in the object's section n, gives the value S + A of the relocation, at the
-- same place
pub record IsFaithful (k : Link) (l : Layout) (n : ℕ) (t : InputSection) (r : InputRelocation) (value : ℕ) : Type 0 where
  pub told : ℕ
  pub number : IsNumberOf k l (entry_of l t r).symbol told
  pub same : (told + cast_unsigned w64 (entry_of l t r).addend) % 2 ^ 64 ≡ (value + cast_unsigned w64 r.addend) % 2 ^ 64
  pub place : (k.section n + (entry_of l t r).offset) % 2 ^ 64 ≡ (address_of k n t + r.offset) % 2 ^ 64

-- this holds for each relocation of a target, in every link, if its symbol has a number that fits
abbrev pub RelinkingIsFaithful : Type 0
RelinkingIsFaithful = (l : Layout) (f : File) (t : InputSection) → is_partial_link l.kind ≡ true → errors l ≡ [] → IsSectionOf l f t → (n : ℕ) → IsInObjectSection l t n → (r : InputRelocation) → Contains (with_word_order t).relocations r
    → (r.symbol ≢ None → named_index l r.symbol ≢ 0) → named_index l r.symbol < 2 ^ 32 → (k : Link) (v : ℕ) → HasTargetValue k l r.symbol v → IsFaithful k l n t r v
