-- The requirements of a layout on an image for either machine in any world, in terms of fields, calls and jumps. They follow from
-- the definitions for all layouts.
--   IsNamed ..             a is S in an address or a distance
--   IsBranchedTo ..        a is S or L in a call or a jump
--   BranchReaches ..       a direct call or jump goes to an address that represents its symbol
--   IsGoal ..              execution that starts at an address reaches S
--   SlotBranchReaches ..   one through a slot goes to an address that leads to its symbol
--   HasFormula ..          the field in memory has the formula's value
--   IsFollowed ..          a reference is checked in the world and for this image, and not only with the output's own symbol
--   HoldsByForms ..        the judge's requirements for every type
--   HoldsByFields ..       the requirements of fields, calls and jumps on an input section; other types by their forms
--   NamesAreAddresses      the consequences for symbols that are not IFUNCs
use Rattle.std.specs.Prelude.{◌≡◌, ℕ, ℤ, ◌+◌, ◌-◌, ◌%◌, ◌^◌, ◌<◌, false, List, length, Option, Some, None, Contains, slice_index, ◌⊎◌}
use Rattle.std.specs.Int.{w64, cast_unsigned}
use Rattle.wild_types.specs.declared.kind.Machine.{Machine}
use Rattle.wild_types.specs.declared.kind.Machine.TheVariants as machine
use Rattle.wild_types.specs.declared.input.InputRelocation.{InputRelocation}
use Rattle.wild_types.specs.declared.input.InputSection.{InputSection}
use Rattle.wild_types.specs.declared.symbol.Symbol.{Symbol}
use Rattle.wild_types.specs.declared.layout.Layout.{Layout}
use Rattle.wild_types.specs.Flags.{has_flag, absolute, ifunc}
use Rattle.wild_reloc.specs.Formula.{Value, SymbolAddress, Distance, Form, Formula, Reads}
use Rattle.wild_loader.specs.declared.world.World.{World}
use Rattle.wild_loader.specs.declared.memory.Memory.{Memory}
use Rattle.wild_loader.specs.Memory.{Holds, byte_in}
use Rattle.wild_meaning.specs.Value.{IsSymbol, IsDefinedBy, HasRaw, HasFlag, HasValue, IsReplaceable, with_base}
use Rattle.wild_loader.specs.Reach.{Reaches, ReachesWithin}
use Rattle.wild_meaning.specs.Denotes.{HasStub, Denotes}
use Rattle.wild_meaning.specs.ReferentAArch64.{IsUndefinedWeak}
use Rattle.wild_meaning.specs.Field.{formula_of, form_width, InNoField}
use Rattle.wild_meaning.specs.Formula.{IsSymbolAddress, IsTarget, Gives}
use Rattle.wild_loader.specs.declared.instruction.Deed.{Deed}
use Rattle.wild_loader.specs.declared.instruction.Deed.TheVariants.{Call, Jump}
use Rattle.wild_meaning.specs.Sequence.{Instruction}
use Rattle.wild_meaning.specs.Template.{field_origin, effect_of, reads, IsTemplate, DoesDemanded}
use Rattle.wild_types.specs.Item.{Item}
use Rattle.wild_meaning.specs.Item.{placed_item}
use Rattle.wild_meaning.specs.Strings.{NamesStrings, IsString}
use Rattle.wild_meaning.specs.Reference.{MustHold, UsesOwnSymbolOnly, IsOmitted}
use Rattle.wild_meaning.specs.LinkedImage.{IsLinked}
use Rattle.wild_laws.specs.FirstTypes.{IsLoadedSection, IsRelocated, address_types, HasFirstTypes, address_at, IsCall, IsJump, IsBranchField, IsSlotCall, IsSlotJump, GivesThreadAddress}

-- ---- S

-- the reference is to a symbol that is weak and undefined
pub record NamesUndefinedWeak (l : Layout) (r : InputRelocation) : Type 0 where
  pub symbol : ℕ
  pub named : r.symbol ≡ Some symbol
  pub absent : IsUndefinedWeak l symbol

-- on AArch64 the distance to such a symbol is A, as if it were at the place itself (aaelf64, "Weak references")
pub record IsDistanceOfUndefinedWeak (v : Value) (l : Layout) (r : InputRelocation) : Type 0 where
  pub distance : v ≡ Distance
  pub symbol : NamesUndefinedWeak l r

-- a represents the symbol in an address or a distance: its value, or its stub if the output uses that as its address
abbrev pub RepresentsSymbol : Machine → Value → Layout → World → Memory → Item → InputRelocation → ℕ → Type 0
RepresentsSymbol machine.X86_64 v l w m s r a = IsSymbolAddress l w m r.symbol a
RepresentsSymbol machine.AArch64 v l w m s r a = (IsDistanceOfUndefinedWeak v l r × (a ≡ address_at w s r.offset % 2 ^ 64)) ⊎ ((IsDistanceOfUndefinedWeak v l r → ⊥) × IsSymbolAddress l w m r.symbol a)

-- a is S there: it represents the symbol; for merged strings, a and A together make the address of a byte of a string
abbrev pub IsNamed : Value → Layout → World → Memory → Item → InputRelocation → ℕ → Type 0
IsNamed v l w m s r a = (NamesStrings l r × IsString l w r a) ⊎ ((NamesStrings l r → ⊥) × RepresentsSymbol l.machine v l w m s r a)

-- On AArch64 execution that starts at a + A reaches an address that represents the symbol, plus A; or a thunk that leads there
-- (aaelf64, "Call and Jump relocations").
pub record LeadsToSymbol (l : Layout) (w : World) (m : Memory) (r : InputRelocation) (a : ℕ) : Type 0 where
  pub present : NamesUndefinedWeak l r → ⊥
  pub symbol : ℕ
  pub stands : IsTarget l w m r.symbol symbol
  pub comes : ReachesWithin 1 m ((a + cast_unsigned w64 r.addend) % 2 ^ 64) ((symbol + cast_unsigned w64 r.addend) % 2 ^ 64)

-- an undefined weak symbol counts as if it were directly after the call or the jump
pub record IsNextInstruction (l : Layout) (w : World) (s : Item) (r : InputRelocation) (a : ℕ) : Type 0 where
  pub absent : NamesUndefinedWeak l r
  pub behind : a ≡ (address_at w s r.offset + 4) % 2 ^ 64

-- a is S or L in a call or a jump: it represents the symbol or, with A, makes a string's address; on AArch64 a thunk may lead there
abbrev pub IsBranchedTo : Machine → Layout → World → Memory → Item → InputRelocation → ℕ → Type 0
IsBranchedTo machine.X86_64 l w m s r a = IsTarget l w m r.symbol a ⊎ (NamesStrings l r × IsString l w r a)
IsBranchedTo machine.AArch64 l w m s r a = LeadsToSymbol l w m r a ⊎ IsNextInstruction l w s r a

-- ---- calls and jumps

-- the symbol's value plus A, relative to the origin of the field: on x86-64 A contains -4 for the four bytes of the field
abbrev pub branch_target : Machine → InputRelocation → ℕ → ℕ
branch_target m r a = (a + cast_unsigned w64 r.addend + field_origin m) % 2 ^ 64

-- the sizes in bytes of a direct call or jump, and of one through a slot
abbrev pub branch_size : Machine → ℕ
branch_size machine.X86_64 = 5
branch_size machine.AArch64 = 4

-- the loaded bytes call, or jump to, an address that represents the symbol, plus the part of the addend past the field
pub record BranchReaches (l : Layout) (w : World) (m : Memory) (s : Item) (r : InputRelocation) (k : ℕ) (deed : Deed) : Type 0 where
  pub target : ℕ
  pub stands : IsBranchedTo l.machine l w m s r target
  pub bytes : List ℕ
  pub whole : length bytes ≡ branch_size l.machine
  pub held : Holds m (address_at w s k) bytes
  pub goes : effect_of l.machine (reads w m) (address_at w s k) bytes ≡ Some (record { deed = deed; width = 64; value = branch_target l.machine r target })

-- execution that starts at a reaches S
abbrev pub IsGoal : Layout → World → Memory → Option ℕ → ℕ → Type 0
IsGoal l w m None a = a ≡ 0
IsGoal l w m (Some i) a = (v : ℕ) × HasValue l w i v × Reaches m a v

-- the six loaded bytes call, or jump to, an address that leads to the symbol
pub record SlotBranchReaches (l : Layout) (w : World) (m : Memory) (s : Item) (r : InputRelocation) (k : ℕ) (deed : Deed) : Type 0 where
  pub target : ℕ
  pub comes : IsGoal l w m r.symbol target
  pub bytes : List ℕ
  pub six : length bytes ≡ 6
  pub held : Holds m (address_at w s k) bytes
  pub goes : effect_of l.machine (reads w m) (address_at w s k) bytes ≡ Some (record { deed = deed; width = 64; value = target % 2 ^ 64 })

-- ---- fields

-- the formula has the value x (x86-64 psABI, "Relocation Types"; aaelf64, "Static data relocations"): S + A, or S + A - P
abbrev pub Demands : Value → ℕ → ℤ → ℕ → ℕ → Type 0
Demands SymbolAddress s a p x = x ≡ (s + cast_unsigned w64 a) % 2 ^ 64
Demands Distance s a p x = x ≡ ((s + cast_unsigned w64 a) % 2 ^ 64 + (2 ^ 64 - p)) % 2 ^ 64
Demands other s a p x = ⊥

-- memory has at a place a field with the value x
pub record HasField (m : Memory) (form : Form) (p x : ℕ) : Type 0 where
  pub bytes : List ℕ
  pub wide : length bytes ≡ form_width form
  pub held : Holds m p bytes
  pub reads : Reads form bytes x

-- the field has the value of the formula of the reference's relocation type
pub record HasFormula (l : Layout) (w : World) (m : Memory) (s : Item) (r : InputRelocation) : Type 0 where
  pub formula : Formula
  pub known : formula_of l.machine r.number ≡ Some formula
  pub target : ℕ
  pub denoted : IsNamed formula.value l w m s r target
  pub value : ℕ
  pub demanded : Demands formula.value target r.addend (address_at w s r.offset) value
  pub field : HasField m formula.form (address_at w s r.offset) value

-- The reference is checked in the world; it does not only refer to the output's own symbol, whichever module defines it. The
-- image contains what the reference depends on.
abbrev pub IsFollowed : Layout → World → Item → InputRelocation → Type 0
IsFollowed l w s r = MustHold l w s r × (UsesOwnSymbolOnly l s r → ⊥) × (IsOmitted l s r → ⊥)

-- each reference of the item is checked, and the image contains what it depends on
abbrev pub EachIsChecked : Layout → World → Item → Type 0
EachIsChecked l w s = (r : InputRelocation) → IsRelocated s r → MustHold l w s r × (IsOmitted l s r → ⊥)

-- the field has the value of the judge's formula for the relocation's type, whichever type that is
pub record HasValueOf (l : Layout) (w : World) (m : Memory) (s : Item) (r : InputRelocation) (f : Formula) : Type 0 where
  pub value : ℕ
  pub gives : Gives f.value l w m s r value
  pub field : HasField m f.form (address_at w s r.offset) value

-- the reference belongs to an instruction of the input
pub record HasInstruction (l : Layout) (s : Item) (r : InputRelocation) : Type 0 where
  pub start : ℕ
  pub instruction : Instruction
  pub first : InputRelocation
  pub template : IsTemplate l s r start instruction first

-- the loaded code has the effect that such an instruction requires
pub record DoesInstruction (l : Layout) (w : World) (m : Memory) (s : Item) (r : InputRelocation) : Type 0 where
  pub of : HasInstruction l s r
  pub does : DoesDemanded (reads w m) l w m s of.first of.start of.instruction

-- for every type: a reference outside instructions has its formula's value in its field; for one in an instruction the code has
-- the required effect
pub record HoldsByForms (l : Layout) (w : World) (m : Memory) (s : Item) : Type 0 where
  pub fields : (r : InputRelocation) (f : Formula) → IsRelocated s r → IsFollowed l w s r → formula_of l.machine r.number ≡ Some f → (HasInstruction l s r → ⊥) → HasValueOf l w m s r f
  pub instructions : (r : InputRelocation) → IsRelocated s r → IsFollowed l w s r → HasInstruction l s r → DoesInstruction l w m s r

-- The requirements are:
-- - each address and each distance outside calls and jumps has its formula's value in its field;
-- - each call and each jump reaches its symbol, except for a call that returns a thread-local address;
-- - a reference of any other type holds in its form;
-- - if no relocation belongs to an instruction with other bytes, every byte outside all fields is the input's.
pub record HoldsByFields (l : Layout) (w : World) (m : Memory) (s : Item) : Type 0 where
  pub references : (r : InputRelocation) → IsRelocated s r → IsFollowed l w s r → Contains (address_types l.machine) r.number → (IsBranchField l.machine l s r → ⊥) → (GivesThreadAddress l.machine l s r → ⊥) → HasFormula l w m s r
  pub calls : (r : InputRelocation) (k : ℕ) → IsRelocated s r → IsFollowed l w s r → (GivesThreadAddress l.machine l s r → ⊥) → IsCall l.machine l s r k → BranchReaches l w m s r k Call
  pub jumps : (r : InputRelocation) (k : ℕ) → IsRelocated s r → IsFollowed l w s r → (GivesThreadAddress l.machine l s r → ⊥) → IsJump l.machine l s r k → BranchReaches l w m s r k Jump
  pub slot_calls : (r : InputRelocation) (k : ℕ) → IsRelocated s r → IsFollowed l w s r → (GivesThreadAddress l.machine l s r → ⊥) → IsSlotCall l.machine l s r k → SlotBranchReaches l w m s r k Call
  pub slot_jumps : (r : InputRelocation) (k : ℕ) → IsRelocated s r → IsFollowed l w s r → (GivesThreadAddress l.machine l s r → ⊥) → IsSlotJump l.machine l s r k → SlotBranchReaches l w m s r k Jump
  pub forms : HoldsByForms l w m s
  pub others : HasFirstTypes l.machine s → EachIsChecked l w s → (k : ℕ) → k < length s.bytes → InNoField l s k → byte_in m (address_at w s k) ≡ Some (slice_index s.bytes k)

-- an image that meets the requirements for all layouts in a world, at any base, meets these
abbrev pub MeaningGivesFields : Type 0
MeaningGivesFields = (l : Layout) (w : World) (image : List ℕ) → (linked : IsLinked l w image) → (s : InputSection) (k : IsLoadedSection l s) → HoldsByFields l w linked.memory (placed_item l k.file s)

-- it also meets those on forms
abbrev pub MeaningGivesForms : Type 0
MeaningGivesForms = (l : Layout) (w : World) (image : List ℕ) → (linked : IsLinked l w image) → (s : InputSection) (k : IsLoadedSection l s) → HoldsByForms l w linked.memory (placed_item l k.file s)

-- ---- symbols

-- a is symbol i's address in the world
pub record IsAddress (l : Layout) (w : World) (i a : ℕ) : Type 0 where
  pub raw : ℕ
  pub given : HasRaw l i raw
  pub definition : ℕ
  pub defined : IsDefinedBy l i definition
  pub symbol : Symbol
  pub listed : IsSymbol l definition symbol
  pub moves : a ≡ with_base (has_flag symbol.flags absolute) w.base raw

-- An address that represents a symbol leads to it. Without a stub, an own symbol that is not an IFUNC is represented only by its
-- address, and execution that reaches the symbol reaches that address.
pub record NamesAreAddresses : Type 0 where
  pub stands : (l : Layout) (w : World) (m : Memory) (i a : ℕ) → Denotes l w m i a → IsGoal l w m (Some i) a
  pub alone : (l : Layout) (w : World) (m : Memory) (i a : ℕ) → IsReplaceable l i false → HasFlag l i ifunc false → ((p : ℕ) → HasStub l i p → ⊥) → Denotes l w m i a → IsAddress l w i a
  pub goals : (l : Layout) (w : World) (m : Memory) (i a : ℕ) → IsReplaceable l i false → HasFlag l i ifunc false → IsGoal l w m (Some i) a → (v : ℕ) × IsAddress l w i v × Reaches m a v
