-- The value of a relocation's formula for an item, in a world and a memory.
--   IsTarget l w m symbol a  a is L for a reference's symbol; IsSymbolAddress: a is S
--   IsReferent ..            a is S or L, by the expression; for merged strings, a and A together make the string's address
--   IsSum value l w m item r x   x is S + A
--   table_at l w             GOT
--   IsOffset l w symbol t    t is S's offset from the thread pointer
--   IsExtent l w symbol z    z is Z, the symbol's size
--   IsWhole l r n x          x is Z + A; for another module's symbol in a field of four bytes, x may be its low half
--   HasOffsetMode l item     a reference to a descriptor in the item holds the thread-pointer offset itself
--   IsPlaceRelative value    the expression subtracts P, Page(P) or GOT from an address
--   Gives value l w m item r x   x is the value of the expression
--   GivesLinked value ..     the same with the output's own S, whatever definition another module has
use Rattle.std.specs.Prelude.{◌≡◌, ℕ, ◌+◌, ◌-◌, ◌%◌, ◌^◌, ◌⊎◌, true, ⊤, Option, Some, None}
use Rattle.std.specs.Int.{w64, cast_unsigned}
use Rattle.wild_records.specs.Abi.Relocation.{r_x86_64_size32}
use Rattle.wild_records.specs.Abi.Section.{shf_execinstr}
use Rattle.wild_reloc.specs.Formula.{Slot, Value, NoValue, SymbolAddress, SymbolPart, Distance, PageDistance, FromTable, StubDistance, StubFromTable, TableDistance, SlotAddress, SlotDistance, SlotPageDistance, SlotFromTable, SlotFromTablePage, AddressSlot, Descriptor, ModuleOffset, PointerOffset, Size}
use Rattle.wild_types.specs.declared.kind.Machine.{Machine}
use Rattle.wild_types.specs.declared.kind.Machine.TheVariants as machine
use Rattle.wild_types.specs.declared.kind.OutputKind.{OutputKind}
use Rattle.wild_types.specs.declared.kind.OutputKind.TheVariants as output
use Rattle.wild_types.specs.declared.input.InputRelocation.{InputRelocation}
use Rattle.wild_types.specs.declared.layout.Layout.{Layout}
use Rattle.wild_loader.specs.declared.memory.Memory.{Memory}
use Rattle.wild_loader.specs.declared.world.World.{World}
use Rattle.wild_meaning.specs.Section.{IsSet}
use Rattle.wild_meaning.specs.Value.{IsReplaceable, HasOwnValue, HasSize}
use Rattle.wild_meaning.specs.Denotes.{IsAddressOf, Denotes}
use Rattle.wild_meaning.specs.ReferentAArch64.{IsUndefinedWeak, own_place, RepresentsOnAArch64}
use Rattle.wild_meaning.specs.Thread.{HasThreadOffset, HasOwnOffset, IsOffsetBase}
use Rattle.wild_meaning.specs.Slot.{IsSlot}
use Rattle.wild_meaning.specs.Strings.{NamesStrings, IsString}
use Rattle.wild_types.specs.Item.{Item}
use Rattle.wild_meaning.specs.Item.{place_at}

-- a is S for a reference's symbol, or 0 without one
abbrev pub IsSymbolAddress : Layout → World → Memory → Option ℕ → ℕ → Type 0
IsSymbolAddress l w m None a = a ≡ 0
IsSymbolAddress l w m (Some i) a = IsAddressOf l w m i a

-- a is L for a reference's symbol, or 0 without one
abbrev pub IsTarget : Layout → World → Memory → Option ℕ → ℕ → Type 0
IsTarget l w m None a = a ≡ 0
IsTarget l w m (Some i) a = Denotes l w m i a

-- The expression subtracts P, Page(P) or GOT from S or L, even if it has no value yet. GOT + A - P does not count, because both
-- terms move with the base.
abbrev pub IsPlaceRelative : Value → Type 0
IsPlaceRelative Distance = ⊤
IsPlaceRelative PageDistance = ⊤
IsPlaceRelative FromTable = ⊤
IsPlaceRelative StubDistance = ⊤
IsPlaceRelative StubFromTable = ⊤
IsPlaceRelative other = ⊥

-- the expression contains the symbol's address or its page
abbrev pub TakesAddress : Value → Type 0
TakesAddress SymbolAddress = ⊤
TakesAddress SymbolPart = ⊤
TakesAddress Distance = ⊤
TakesAddress PageDistance = ⊤
TakesAddress FromTable = ⊤
TakesAddress other = ⊥

-- ---- S and L

-- the expression subtracts a place from an undefined weak symbol
abbrev pub UsesOwnPlace : Value → Layout → ℕ → Type 0
UsesOwnPlace value l i = IsPlaceRelative value × IsUndefinedWeak l i

-- S or L on AArch64; for an undefined weak symbol, the reference's own place
abbrev pub IsReferentOnAArch64 : Value → Layout → World → Memory → Item → InputRelocation → Option ℕ → ℕ → Type 0
IsReferentOnAArch64 value l w m item r None a = a ≡ 0
IsReferentOnAArch64 value l w m item r (Some i) a = (UsesOwnPlace value l i × (a ≡ own_place w item r)) ⊎ ((UsesOwnPlace value l i → ⊥) × RepresentsOnAArch64 value l w m r i a)

-- S or L on x86-64
abbrev pub IsReferentOnX86_64 : Value → Layout → World → Memory → Option ℕ → ℕ → Type 0
IsReferentOnX86_64 StubDistance l w m symbol a = IsTarget l w m symbol a
IsReferentOnX86_64 StubFromTable l w m symbol a = IsTarget l w m symbol a
IsReferentOnX86_64 other l w m symbol a = IsSymbolAddress l w m symbol a

-- a represents the symbol; merged strings are treated separately
abbrev pub IsReferentOnMachine : Machine → Value → Layout → World → Memory → Item → InputRelocation → ℕ → Type 0
IsReferentOnMachine machine.X86_64 value l w m item r a = IsReferentOnX86_64 value l w m r.symbol a
IsReferentOnMachine machine.AArch64 value l w m item r a = IsReferentOnAArch64 value l w m item r r.symbol a

-- the expression contains S, and the symbol is that of a section of merged strings: S and A together determine the string
abbrev pub TakesString : Value → Layout → InputRelocation → Type 0
TakesString value l r = TakesAddress value × NamesStrings l r

-- a is S or L in a reference with that expression; it may depend on the reference's place and addend
abbrev pub IsReferent : Machine → Value → Layout → World → Memory → Item → InputRelocation → ℕ → Type 0
IsReferent machine value l w m item r a = (TakesString value l r × IsString l w r a) ⊎ ((TakesString value l r → ⊥) × IsReferentOnMachine machine value l w m item r a)

-- x is S + A
pub record IsSum (value : Value) (l : Layout) (w : World) (m : Memory) (item : Item) (r : InputRelocation) (x : ℕ) : Type 0 where
  pub symbol : ℕ
  pub denoted : IsReferent l.machine value l w m item r symbol
  pub sum : x ≡ (symbol + cast_unsigned w64 r.addend) % 2 ^ 64

-- ---- the other terms

-- GOT: the loaded address of the global offset table
abbrev pub table_at : Layout → World → ℕ
table_at l w = (w.base + l.got_base) % 2 ^ 64

-- the page of 4096 bytes in which an address lies (Arm Architecture Reference Manual, ADRP)
abbrev pub page_of : ℕ → ℕ
page_of n = n - n % 4096

-- t is the offset of S from the thread pointer; there is none without a symbol
abbrev pub IsOffset : Layout → World → Option ℕ → ℕ → Type 0
IsOffset l w None t = ⊥
IsOffset l w (Some i) t = HasThreadOffset l w i t

-- z is Z, the symbol's size; there is none without a symbol
abbrev pub IsExtent : Layout → World → Option ℕ → ℕ → Type 0
IsExtent l w None z = ⊥
IsExtent l w (Some i) z = HasSize l w i z

-- The field has four bytes, and a loader stores another module's size there, which may not fit (x86-64 psABI, "Relocation Types":
-- R_X86_64_SIZE32).
pub record IsShortSizeField (l : Layout) (r : InputRelocation) : Type 0 where
  pub number : r.number ≡ r_x86_64_size32
  pub symbol : ℕ
  pub named : r.symbol ≡ Some symbol
  pub replaceable : IsReplaceable l symbol true

-- x is the number n, or its low 32 bits if the field is of that kind
abbrev pub IsWhole : Layout → InputRelocation → (n x : ℕ) → Type 0
IsWhole l r n x = (x ≡ n) ⊎ (IsShortSizeField l r × (x ≡ n % 2 ^ 32))

-- On AArch64 an expression with a slot needs addend 0: the slot of S + A is the symbol's own slot if A is 0, and no layout has
-- another one (aaelf64, "Relocation operations": GDAT(S + A)).
abbrev pub NamesSlot : (sort : Slot) → Layout → World → Memory → InputRelocation → ℕ → Type 0
NamesSlot sort l w m r g = IsSlot sort l w m r.symbol g × (cast_unsigned w64 r.addend ≡ 0)

-- An x86-64 program whose code holds offsets in place of descriptor references: one without a loader that fills descriptors, or
-- one with rewriting on. On AArch64 the instructions of a descriptor call are treated as a whole.
abbrev pub KnowsOffsets : Machine → OutputKind → Layout → Type 0
KnowsOffsets machine.X86_64 (output.StaticExecutable any) l = ⊤
KnowsOffsets machine.X86_64 (output.DynamicExecutable any) l = l.options.relax ≡ true
KnowsOffsets machine kind l = ⊥

-- in the item's code a reference to a descriptor holds the offset itself, not a descriptor's address ("ELF Handling For
-- Thread-Local Storage", "Linker Relaxations")
abbrev pub HasOffsetMode : Layout → Item → Type 0
HasOffsetMode l item = KnowsOffsets l.machine l.kind l × IsSet item.flags shf_execinstr

-- x is the value of the expression (x86-64 psABI, "Relocation Types"; aaelf64, "Relocation operations"). For thread-local
-- expressions see "ELF Handling For Thread-Local Storage", "TLS Access Models".
-- The call through a descriptor has no value, and is not allowed if references to descriptors hold offsets.
abbrev pub Gives : Value → Layout → World → Memory → Item → InputRelocation → ℕ → Type 0
Gives NoValue l w m item r x = HasOffsetMode l item → ⊥
Gives SymbolAddress l w m item r x = IsSum SymbolAddress l w m item r x
Gives SymbolPart l w m item r x = IsSum SymbolPart l w m item r x
Gives Distance l w m item r x = (t : ℕ) × IsSum Distance l w m item r t × (x ≡ (t + (2 ^ 64 - place_at w item r.offset)) % 2 ^ 64)
Gives PageDistance l w m item r x = (t : ℕ) × IsSum PageDistance l w m item r t × (x ≡ (page_of t + (2 ^ 64 - page_of (place_at w item r.offset))) % 2 ^ 64)
Gives FromTable l w m item r x = (t : ℕ) × IsSum FromTable l w m item r t × (x ≡ (t + (2 ^ 64 - table_at l w)) % 2 ^ 64)
Gives StubDistance l w m item r x = (a : ℕ) × IsReferent l.machine StubDistance l w m item r a × (x ≡ (a + cast_unsigned w64 r.addend + (2 ^ 64 - place_at w item r.offset)) % 2 ^ 64)
Gives StubFromTable l w m item r x = (a : ℕ) × IsReferent l.machine StubFromTable l w m item r a × (x ≡ (a + cast_unsigned w64 r.addend + (2 ^ 64 - table_at l w)) % 2 ^ 64)
Gives (SlotDistance Descriptor) l w m item r x = (g : ℕ) × IsSlot Descriptor l w m r.symbol g × (HasOffsetMode l item → ⊥) × (x ≡ (g + cast_unsigned w64 r.addend + (2 ^ 64 - place_at w item r.offset)) % 2 ^ 64)
Gives (SlotDistance sort) l w m item r x = (g : ℕ) × IsSlot sort l w m r.symbol g × (x ≡ (g + cast_unsigned w64 r.addend + (2 ^ 64 - place_at w item r.offset)) % 2 ^ 64)
Gives (SlotAddress sort) l w m item r x = (g : ℕ) × NamesSlot sort l w m r g × (x ≡ g % 2 ^ 64)
Gives (SlotPageDistance sort) l w m item r x = (g : ℕ) × NamesSlot sort l w m r g × (x ≡ (page_of g + (2 ^ 64 - page_of (place_at w item r.offset))) % 2 ^ 64)
Gives SlotFromTablePage l w m item r x = (g : ℕ) × NamesSlot AddressSlot l w m r g × (x ≡ (g + (2 ^ 64 - page_of (table_at l w))) % 2 ^ 64)
Gives SlotFromTable l w m item r x = (g : ℕ) × IsSlot AddressSlot l w m r.symbol g × (x ≡ (g + cast_unsigned w64 r.addend + (2 ^ 64 - table_at l w)) % 2 ^ 64)
Gives TableDistance l w m item r x = x ≡ (table_at l w + cast_unsigned w64 r.addend + (2 ^ 64 - place_at w item r.offset)) % 2 ^ 64
Gives PointerOffset l w m item r x = (t : ℕ) × IsOffset l w r.symbol t × (x ≡ (t + cast_unsigned w64 r.addend) % 2 ^ 64)
Gives ModuleOffset l w m item r x = (t b : ℕ) × IsOffset l w r.symbol t × IsOffsetBase l.machine l.kind w b × (x ≡ (t + cast_unsigned w64 r.addend + (2 ^ 64 - b)) % 2 ^ 64)
Gives Size l w m item r x = (z : ℕ) × IsExtent l w r.symbol z × IsWhole l r ((z + cast_unsigned w64 r.addend) % 2 ^ 64) x

-- ---- the output's own definition of a symbol

-- a is the value of the output's own symbol; there is none without a symbol
abbrev pub IsOwnTarget : Layout → World → Option ℕ → ℕ → Type 0
IsOwnTarget l w None a = ⊥
IsOwnTarget l w (Some i) a = HasOwnValue l w i a

-- the same on AArch64; for an undefined weak symbol, the reference's own place
abbrev pub IsOwnReferentOnAArch64 : Value → Layout → World → Item → InputRelocation → Option ℕ → ℕ → Type 0
IsOwnReferentOnAArch64 value l w item r None a = ⊥
IsOwnReferentOnAArch64 value l w item r (Some i) a = (UsesOwnPlace value l i × (a ≡ own_place w item r)) ⊎ ((UsesOwnPlace value l i → ⊥) × HasOwnValue l w i a)

-- a is the output's own S in a reference with that expression
abbrev pub IsOwnReferent : Machine → Value → Layout → World → Item → InputRelocation → ℕ → Type 0
IsOwnReferent machine.X86_64 value l w item r a = IsOwnTarget l w r.symbol a
IsOwnReferent machine.AArch64 value l w item r a = IsOwnReferentOnAArch64 value l w item r r.symbol a

-- x is S + A, with the output's own S
pub record IsOwnSum (value : Value) (l : Layout) (w : World) (item : Item) (r : InputRelocation) (x : ℕ) : Type 0 where
  pub symbol : ℕ
  pub denoted : IsOwnReferent l.machine value l w item r symbol
  pub sum : x ≡ (symbol + cast_unsigned w64 r.addend) % 2 ^ 64

-- t is the thread-pointer offset of the output's own symbol
abbrev pub IsOwnOffset : Layout → World → Option ℕ → ℕ → Type 0
IsOwnOffset l w None t = ⊥
IsOwnOffset l w (Some i) t = HasOwnOffset l w i t

-- x is the value of the expression with the output's own S; only expressions that contain S, or its offset, have one
abbrev pub GivesLinked : Value → Layout → World → Item → InputRelocation → ℕ → Type 0
GivesLinked SymbolAddress l w item r x = IsOwnSum SymbolAddress l w item r x
GivesLinked SymbolPart l w item r x = IsOwnSum SymbolPart l w item r x
GivesLinked Distance l w item r x = (t : ℕ) × IsOwnSum Distance l w item r t × (x ≡ (t + (2 ^ 64 - place_at w item r.offset)) % 2 ^ 64)
GivesLinked PageDistance l w item r x = (t : ℕ) × IsOwnSum PageDistance l w item r t × (x ≡ (page_of t + (2 ^ 64 - page_of (place_at w item r.offset))) % 2 ^ 64)
GivesLinked FromTable l w item r x = (t : ℕ) × IsOwnSum FromTable l w item r t × (x ≡ (t + (2 ^ 64 - table_at l w)) % 2 ^ 64)
GivesLinked PointerOffset l w item r x = (t : ℕ) × IsOwnOffset l w r.symbol t × (x ≡ (t + cast_unsigned w64 r.addend) % 2 ^ 64)
GivesLinked ModuleOffset l w item r x = (t b : ℕ) × IsOwnOffset l w r.symbol t × IsOffsetBase l.machine l.kind w b × (x ≡ (t + cast_unsigned w64 r.addend + (2 ^ 64 - b)) % 2 ^ 64)
GivesLinked other l w item r x = ⊥

-- the expression contains the symbol's offset from the thread pointer
abbrev pub TakesOffset : Value → Type 0
TakesOffset PointerOffset = ⊤
TakesOffset ModuleOffset = ⊤
TakesOffset other = ⊥
