-- The values that the writer computes are those of the judge's formulas.
--   RowGives info         the value of a row is that of the row's expression
--   RowGivesLinked info   or that of the expression with the output's own symbol
--   TermGives t           the same for each row with that term; SlotsGive for slots
--   StubsRepresentSymbols            the value of a stub's distance, for the symbol itself
--   PartsGive             the value whose low bits a part of an address below its page holds
--   AddressesGive, AddressesGiveLinked   an address that moves with the base is S + A after loading
--   EntriesGive           the same for the value that an entry stores in a field that is left to it
--   ThreadPlacesAreKnown  a symbol's offset in the thread-local data, and its distance from the thread pointer
--   KeepsInstruction d    the relocation keeps its instruction
--   FieldHolds ..         a field in memory has its formula's value; FieldIsLinked with the output's own symbol
--   OutputsMoveByPages, ItemsHaveBytes   further conditions on an AArch64 output and its items
--   FieldsHold ..         memory has an item's fields with their formulas' values, where relocations keep their instructions
--   ItemFieldsHold          the same for each kept item that memory has as decided
use Rattle.std.specs.Prelude.{◌≡◌, ℕ, ◌+◌, ◌-◌, ◌%◌, ◌^◌, ◌<◌, ◌≢◌, ◌⊎◌, ⊤, FitsSigned, Bool, true, List, Some, Ok, All}
use Rattle.std.specs.Int.{w64, cast_unsigned}
use Rattle.wild_types.specs.declared.kind.Machine.{Machine}
use Rattle.wild_types.specs.declared.kind.Machine.TheVariants as machine
use Rattle.wild_types.specs.declared.input.InputRelocation.{InputRelocation}
use Rattle.wild_types.specs.declared.layout.Layout.{Layout}
use Rattle.wild_types.specs.HeaderOnly.{KeepsAll}
use Rattle.wild_types.specs.ResolvedFlags.{HaveTheirFlags}
use Rattle.wild_reloc.specs.Formula.{Value, SymbolAddress, Distance, Formula, Reads, Keeps}
use Rattle.wild_reloc.specs.Expression.{expression_of, writes}
use Rattle.wild_reloc.specs.declared.expression.Term.{Term}
use Rattle.wild_reloc.specs.declared.expression.Term.TheVariants as term
use Rattle.wild_reloc.specs.declared.expression.SlotSort.{SlotSort}
use Rattle.wild_reloc.specs.declared.expression.SlotSort.TheVariants as sorts
use Rattle.wild_reloc.specs.declared.expression.Class.TheVariants as class
use Rattle.wild_reloc.specs.declared.info.RelocationKind.TheVariants as kinds
use Rattle.wild_reloc.specs.declared.info.RelocationKindInfo.{RelocationKindInfo}
use Rattle.wild_reloc.specs.declared.info.RelocationSize.{RelocationSize}
use Rattle.wild_layout.specs.declared.decision.Decision.{Decision}
use Rattle.wild_layout.specs.declared.decision.Decision.TheVariants.{RelativeAddress, DynamicField, Rewritten, Partner}
use Rattle.wild_layout.specs.Decide.{decided}
use Rattle.wild_layout.specs.Numbers.{NumbersFit}
use Rattle.wild_layout.specs.Geometry.{IsLaidOut, NamesSymbol}
use Rattle.wild_geometry.specs.Loaded.{IsDecided, Stage, InMemory, number_at, ReadsFilledField, HasDecision, HasItem}
use Rattle.wild_geometry.specs.Slots.{HasSlots}
use Rattle.wild_geometry.specs.Thunks.{HasThunks}
use Rattle.wild_loader.specs.declared.memory.Memory.{Memory}
use Rattle.wild_loader.specs.declared.world.World.{World}
use Rattle.wild_meaning.specs.World.{IsFirstModule, IsLoadable, IsLegal}
use Rattle.wild_meaning.specs.Value.{HasRaw, IsReplaceable}
use Rattle.wild_meaning.specs.Thread.{thread_pointer, HasDistance, IsThreadPlace}
use Rattle.wild_records.specs.Abi.Relocation.{r_x86_64_none}
use Rattle.wild_types.specs.Item.{Item}
use Rattle.wild_meaning.specs.Item.{IsKept}
use Rattle.wild_meaning.specs.Field.{formula_of, FieldReads}
use Rattle.wild_reloc.specs.BarredTypes.{is_listed}
use Rattle.wild_meaning.specs.ReferentAArch64.{branch_types}
use Rattle.wild_meaning.specs.Formula.{IsSum, HasOffsetMode, Gives, IsOwnSum, GivesLinked, TakesAddress, TakesOffset}
use Rattle.wild_meaning.specs.Reference.{MustHold, HasStubAddress, UsesOwnSymbolOnly, IsOmitted}
use Rattle.wild_references.specs.Terms.{IsPlaced, MovesByPages, value_by_row, HasTerm, IsFollowed}
use Rattle.wild_meaning.specs.LinkedImage.{processor_of}
use Rattle.wild_meaning.specs.Strings.{NamesStrings}

-- The value that the writer computes for a row is that of the row's expression, if the symbol's definition is followed (x86-64
-- psABI, "Relocation Types"; aaelf64, "Relocation operations").
abbrev pub RowGives : RelocationKindInfo → Type 0
RowGives info = (l : Layout) (w : World) (m : Memory) (s : Item) (r : InputRelocation) (x : ℕ) → HasTerm l w m s r info x → IsFollowed l r (value_by_row info) → Gives (value_by_row info) l w m s r x

-- Otherwise it is the value of the expression with the output's own symbol. This is for rows with a symbol's address or its
-- thread-pointer offset.
abbrev pub RowGivesLinked : RelocationKindInfo → Type 0
RowGivesLinked info = (l : Layout) (w : World) (m : Memory) (s : Item) (r : InputRelocation) (x i : ℕ) → HasTerm l w m s r info x → r.symbol ≡ Some i → IsReplaceable l i true → (HasStubAddress l i → ⊥) ⊎ TakesOffset (value_by_row info) → GivesLinked (value_by_row info) l w s r x

-- the same for each row with that term whose field holds the whole value
abbrev pub TermGives : Term → Type 0
TermGives t = (info : RelocationKindInfo) → (expression_of info.kind).term ≡ t → writes (expression_of info.kind).class ≡ true → RowGives info

abbrev pub TermGivesLinked : Term → Type 0
TermGivesLinked t = (info : RelocationKindInfo) → (expression_of info.kind).term ≡ t → writes (expression_of info.kind).class ≡ true → RowGivesLinked info

-- On AArch64 the distance to a stub that a row of a branch writes is the distance of the symbol that the stub represents, if the
-- symbol is not that of merged strings.
abbrev pub StubsRepresentSymbols : Type 0
StubsRepresentSymbols = (info : RelocationKindInfo) → info.kind ≡ kinds.PltRelative → (l : Layout) (w : World) (m : Memory) (s : Item) (r : InputRelocation) (x : ℕ) → l.machine ≡ machine.AArch64 → is_listed r.number branch_types ≡ true → (NamesStrings l r → ⊥) → HasTerm l w m s r info x → Gives Distance l w m s r x

-- For slots, whichever module defines the symbol. For a descriptor, unless references in that code hold offsets ("ELF Handling
-- For Thread-Local Storage", "Linker Relaxations").
abbrev pub SlotsGive : Type 0
SlotsGive = (sort : SlotSort) (info : RelocationKindInfo) → (expression_of info.kind).term ≡ term.Slot sort → writes (expression_of info.kind).class ≡ true → (l : Layout) (w : World) (m : Memory) (s : Item) (r : InputRelocation) (x : ℕ) → HasTerm l w m s r info x → (sort ≡ sorts.TlsDesc → HasOffsetMode l s → ⊥) → Gives (value_by_row info) l w m s r x

-- the expression has a value with the same bits below its page as x
abbrev pub GivesPart : Value → Layout → World → Memory → Item → InputRelocation → ℕ → Type 0
GivesPart v l w m s r x = (t : ℕ) × Gives v l w m s r t × (t % 4096 ≡ x % 4096)

-- for AArch64's rows with such bits, of a symbol or of a slot (aaelf64, "Relocation operations")
abbrev pub PartsGive : Type 0
PartsGive = (info : RelocationKindInfo) → (expression_of info.kind).class ≡ class.Part → (l : Layout) (w : World) (m : Memory) (s : Item) (r : InputRelocation) (x : ℕ) → l.machine ≡ machine.AArch64 → HasTerm l w m s r info x → IsFollowed l r (value_by_row info) → GivesPart (value_by_row info) l w m s r x

-- the expression with the output's own symbol has a value with the same bits below its page as x
abbrev pub GivesLinkedPart : Value → Layout → World → Item → InputRelocation → ℕ → Type 0
GivesLinkedPart v l w s r x = (t : ℕ) × GivesLinked v l w s r t × (t % 4096 ≡ x % 4096)

-- otherwise with the output's own symbol
abbrev pub PartsGiveLinked : Type 0
PartsGiveLinked = (info : RelocationKindInfo) → (expression_of info.kind).class ≡ class.Part → (l : Layout) (w : World) (m : Memory) (s : Item) (r : InputRelocation) (x i : ℕ) → l.machine ≡ machine.AArch64 → HasTerm l w m s r info x → r.symbol ≡ Some i → IsReplaceable l i true → (HasStubAddress l i → ⊥) ⊎ TakesOffset (value_by_row info) → TakesOffset (value_by_row info) ⊎ TakesAddress (value_by_row info) → GivesLinkedPart (value_by_row info) l w s r x

-- an address decided to move with the base is S + A in the world after the base is added, if the symbol's definition is followed
-- and all tables are written
abbrev pub AddressesGive : Type 0
AddressesGive = (l : Layout) (w : World) (m : Memory) (s : Item) (r : InputRelocation) (v : ℕ) (packed : Bool) → KeepsAll l → IsPlaced l w m → NamesSymbol l r → FitsSigned w64 r.addend → decided l s r ≡ Ok (RelativeAddress v packed) → IsFollowed l r SymbolAddress → IsSum SymbolAddress l w m s r (number_at InMemory w v packed)

-- otherwise with the output's own symbol
abbrev pub AddressesGiveLinked : Type 0
AddressesGiveLinked = (l : Layout) (w : World) (m : Memory) (s : Item) (r : InputRelocation) (v i : ℕ) (packed : Bool) → KeepsAll l → IsPlaced l w m → NamesSymbol l r → decided l s r ≡ Ok (RelativeAddress v packed) → r.symbol ≡ Some i → IsReplaceable l i true → (HasStubAddress l i → ⊥) → IsOwnSum SymbolAddress l w s r (number_at InMemory w v packed)

-- If all tables are written, a field that is left to an entry has the value of its relocation type's formula once the entry has
-- stored its number. The field is whole bytes.
abbrev pub EntriesGive : Type 0
EntriesGive = (l : Layout) (w : World) (m : Memory) (s : Item) (r : InputRelocation) (z : RelocationSize) (number symbol addend : ℕ) (bs : List ℕ) → KeepsAll l → IsPlaced l w m → NamesSymbol l r → FitsSigned w64 r.addend → decided l s r ≡ Ok (DynamicField z number symbol addend)
    → ReadsFilledField (processor_of l.machine) InMemory w z number symbol addend bs → (f : Formula) × (formula_of l.machine r.number ≡ Some f) × (x : ℕ) × Gives f.value l w m s r x × Reads f.form bs x × ((old : List ℕ) → Keeps f.form old bs)

-- In a world whose first module is the executable: the distance of its thread-local data, a symbol's offset in these data, and
-- that it is the symbol's address minus the thread pointer ("ELF Handling For Thread-Local Storage", "Run-Time Handling of TLS").
pub record ThreadPlacesAreKnown : Type 0 where
  pub own : (l : Layout) (w : World) → (f : IsFirstModule l w) → HasDistance w (cast_unsigned w64 f.distance)
  pub there : (l : Layout) (w : World) (i raw : ℕ) → (f : IsFirstModule l w) → HasRaw l i raw → IsThreadPlace l w i ((cast_unsigned w64 f.distance + raw + (2 ^ 64 - l.tls.start)) % 2 ^ 64)
  pub less : (l : Layout) (w : World) (raw a : ℕ) → (f : IsFirstModule l w) → ((cast_unsigned w64 f.distance + raw + (2 ^ 64 - l.tls.start)) % 2 ^ 64 + a) % 2 ^ 64 ≡ (raw + a + (2 ^ 64 - thread_pointer l % 2 ^ 64)) % 2 ^ 64

-- the relocation keeps its instruction: it is not rewritten, and no rewritten sequence before it includes it
abbrev pub KeepsInstruction : Decision → Type 0
KeepsInstruction (Rewritten row v) = ⊥
KeepsInstruction Partner = ⊥
KeepsInstruction other = ⊤

-- the field has the value of its relocation type's formula
pub record FieldHolds (l : Layout) (w : World) (m : Memory) (item : Item) (r : InputRelocation) : Type 0 where
  pub formula : Formula
  pub known : formula_of l.machine r.number ≡ Some formula
  pub value : ℕ
  pub gives : Gives formula.value l w m item r value
  pub field : FieldReads w m item r formula.form value

-- the field has the formula's value with the output's own symbol
pub record FieldIsLinked (l : Layout) (w : World) (m : Memory) (item : Item) (r : InputRelocation) : Type 0 where
  pub formula : Formula
  pub known : formula_of l.machine r.number ≡ Some formula
  pub value : ℕ
  pub gives : GivesLinked formula.value l w item r value
  pub field : FieldReads w m item r formula.form value

-- relocation i of an item refers to a symbol or value, and keeps its instruction
pub record IsKeptReference (l : Layout) (s : Item) (i : ℕ) (r : InputRelocation) : Type 0 where
  pub decision : Decision
  pub has : HasDecision l s i r decision
  pub keeps : KeepsInstruction decision
  pub refers : r.number ≢ r_x86_64_none

-- The fields of an item in memory. Each reference that keeps its instruction, is checked and is not left out has its formula's
-- value; one to the output's own symbol has it with that symbol.
pub record FieldsHold (l : Layout) (w : World) (m : Memory) (s : Item) : Type 0 where
  pub references : (i : ℕ) (r : InputRelocation) → IsKeptReference l s i r → (IsOmitted l s r → ⊥) → MustHold l w s r → (UsesOwnSymbolOnly l s r → ⊥) → FieldHolds l w m s r
  pub linked : (i : ℕ) (r : InputRelocation) → IsKeptReference l s i r → (IsOmitted l s r → ⊥) → MustHold l w s r → UsesOwnSymbolOnly l s r → FieldIsLinked l w m s r

-- the bytes of the instructions whose bits are fields
abbrev pub HasBytes : Machine → Item → Type 0
HasBytes machine.X86_64 s = ⊤
HasBytes machine.AArch64 s = All (λ (b : ℕ). b < 256) s.bytes

-- A kept item of an output for machine k in a legal world. Memory has the item as decided and, if all tables are written, slots,
-- stubs and thunks. In an image only for debuggers it has the file's content.
pub record IsLoadedItem (k : Machine) (l : Layout) (w : World) (m : Memory) (s : Item) : Type 0 where
  pub on : l.machine ≡ k
  pub paged : MovesByPages k l w
  pub bytes : HasBytes k s
  pub loadable : IsLoadable l.kind
  pub flags : HaveTheirFlags l
  pub numbers : NumbersFit l
  pub legal : IsLegal l w
  pub laid : IsLaidOut l
  pub loaded : m.machine ≡ processor_of l.machine
  pub slots : KeepsAll l → HasSlots l w m
  pub thunks : KeepsAll l → HasThunks l w m
  pub kept : IsKept l s
  pub decided : IsDecided l s
  pub stage : Stage
  pub moved : KeepsAll l → stage ≡ InMemory
  pub item : HasItem l w m s stage

-- a further condition on AArch64 outputs: in a legal world, bases of a laid out output are multiples of 4096
abbrev pub OutputsMoveByPages : Type 0
OutputsMoveByPages = (l : Layout) (w : World) → NumbersFit l → IsLegal l w → IsLaidOut l → MovesByPages l.machine l w

-- the numbers of a kept item are bytes
abbrev pub ItemsHaveBytes : Type 0
ItemsHaveBytes = (l : Layout) (s : Item) → NumbersFit l → IsKept l s → HasBytes l.machine s

-- the fields of kept items hold
abbrev pub ItemFieldsHold : Type 0
ItemFieldsHold = (k : Machine) (l : Layout) (w : World) (m : Memory) (s : Item) → IsLoadedItem k l w m s → FieldsHold l w m s
