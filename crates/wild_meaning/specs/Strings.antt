-- Merged strings: S in a reference to a section of them (gABI, "Section Header": SHF_MERGE, SHF_STRINGS).
--   HasStrings l i strings   symbol i is that of a section whose strings were merged
--   NamesStrings l r         the symbol of a reference is such a symbol
--   IsStringAt strings x s   byte x of the section belongs to string s
--   IsString l w r a         a plus the reference's addend is the address of the string
use Rattle.std.specs.Prelude.{◌≡◌, ℕ, ◌+◌, ◌-◌, ◌%◌, ◌^◌, ◌<◌, ◌≤◌, true, false, List, ◌∷◌, ◌++◌, All, Some, slice_get}
use Rattle.std.specs.Int.{w64, cast_unsigned}
use Rattle.wild_records.specs.Abi.Symbol.{stt_section}
use Rattle.wild_types.specs.declared.symbol.Place.TheVariants as at
use Rattle.wild_types.specs.declared.symbol.Symbol.{Symbol}
use Rattle.wild_types.specs.declared.input.Slot.TheVariants as slot
use Rattle.wild_types.specs.declared.input.InputRelocation.{InputRelocation}
use Rattle.wild_types.specs.declared.input.InputSection.{InputSection}
use Rattle.wild_types.specs.declared.input.MergedString.{MergedString}
use Rattle.wild_types.specs.declared.file.File.{File}
use Rattle.wild_types.specs.declared.layout.Layout.{Layout}
use Rattle.wild_types.specs.Flags.{absolute, dynamic, ifunc, non_interposable, undefined_weak}
use Rattle.wild_loader.specs.declared.world.World.{World}
use Rattle.wild_meaning.specs.Value.{IsSymbol, IsOwnFile, HasFlag}

-- the value is the output's own, and moves with the base
pub record IsPlainOwn (l : Layout) (i : ℕ) : Type 0 where
  pub own : HasFlag l i non_interposable true
  pub here : HasFlag l i dynamic false
  pub moves : HasFlag l i absolute false
  pub plain : HasFlag l i ifunc false
  pub defined : HasFlag l i undefined_weak false

-- the symbol is a section symbol (gABI, "Symbol Table": STT_SECTION) of an input section of its own file whose strings were
-- merged
pub record HasStrings (l : Layout) (i : ℕ) (strings : List MergedString) : Type 0 where
  pub plain : IsPlainOwn l i
  pub symbol : Symbol
  pub listed : IsSymbol l i symbol
  pub of_section : symbol.info % 16 ≡ stt_section
  pub index : ℕ
  pub stands : symbol.place ≡ at.Section index
  pub file : File
  pub own : IsOwnFile l i file
  pub section : InputSection
  pub found : slice_get file.sections index ≡ Some section
  pub merged : section.slot ≡ slot.Merge
  pub is : strings ≡ section.strings

-- the symbol of a reference is such a symbol
pub record NamesStrings (l : Layout) (r : InputRelocation) : Type 0 where
  pub symbol : ℕ
  pub named : r.symbol ≡ Some symbol
  pub strings : List MergedString
  pub has : HasStrings l symbol strings

-- the last string that starts at or before byte x
pub record IsStringAt (strings : List MergedString) (x : ℕ) (s : MergedString) : Type 0 where
  pub ahead : List MergedString
  pub behind : List MergedString
  pub parts : strings ≡ ahead ++ (s ∷ behind)
  pub begins : s.offset ≤ x
  pub last : All (λ (t : MergedString). x < t.offset) behind

-- the byte of the section given by the symbol's value plus the addend, as an unsigned number
abbrev pub byte_of_reference : Symbol → InputRelocation → ℕ
byte_of_reference s r = (s.value + cast_unsigned w64 r.addend) % 2 ^ 64

-- a plus the addend is the loaded address of that byte, at the same distance from its string's start as in the input
pub record IsString (l : Layout) (w : World) (r : InputRelocation) (a : ℕ) : Type 0 where
  pub symbol : ℕ
  pub named : r.symbol ≡ Some symbol
  pub strings : List MergedString
  pub has : HasStrings l symbol strings
  pub string : MergedString
  pub found : IsStringAt strings (byte_of_reference has.symbol r) string
  pub is : (a + cast_unsigned w64 r.addend) % 2 ^ 64 ≡ (w.base + string.address + (byte_of_reference has.symbol r - string.offset)) % 2 ^ 64
  pub small : a < 2 ^ 64
