-- The instruction of the input that a reference belongs to, and its required effect.
--   IsInstruction ..     an instruction is in the input's bytes, with a relocation at its field
--   IsSequence ..        it is a sequence, whose further relocations follow the first
--   IsTemplate ..        it is the instruction of a reference; `first` is the relocation of its first field
--   reads w m            the values of operands in memory; `reads_without_calls` for code that calls no function
--   Demands ..           v is the value that the instruction's operand must have
--   IsDemanded ..        e is the effect that the input's bytes require
--   DoesWith ..          the loaded code has that effect, with a given reader, for the operand value v
--   DoesDemanded ..      the same for a value that is required
--   DoesLinked ..        the same with the output's own symbol
use Rattle.std.specs.Prelude.{◌≡◌, ℕ, ◌+◌, ◌-◌, ◌/◌, ◌%◌, ◌^◌, ◌<◌, ◌≤◌, ◌⊎◌, ⊤, true, List, [], ◌∷◌, length, slice_get, slice_range, Option, Some, None, Result, Ok, Err, option_and_then, option_map, Contains}
use Rattle.std.specs.Int.{w64, cast_unsigned}
use Rattle.wild_records.specs.Abi.Section.{shf_execinstr}
use Rattle.wild_types.specs.declared.kind.Machine.{Machine}
use Rattle.wild_types.specs.declared.kind.Machine.TheVariants as machine
use Rattle.wild_types.specs.declared.input.InputRelocation.{InputRelocation}
use Rattle.wild_types.specs.declared.layout.Layout.{Layout}
use Rattle.wild_reloc.specs.Formula.{Distance, PageDistance, StubDistance, Descriptor, Form, Bits, Formula, Passes}
use Rattle.wild_loader.specs.declared.fault.LoadFault.{LoadFault}
use Rattle.wild_loader.specs.declared.memory.Memory.{Memory}
use Rattle.wild_loader.specs.declared.world.World.{World}
use Rattle.wild_loader.specs.Changes.{distance_of, first_value}
use Rattle.wild_loader.specs.Memory.{number_in, Holds}
use Rattle.wild_loader.specs.declared.instruction.Operand.TheVariants.{Number, Word, Pair, Offset}
use Rattle.wild_loader.specs.declared.instruction.Deed.TheVariants.{Nothing}
use Rattle.wild_loader.specs.Instruction.{Reader, Effect, matches_cells}
use Rattle.wild_loader.specs.InstructionX86_64.{effect_x86_64, demand_x86_64}
use Rattle.wild_loader.specs.InstructionAArch64.{effect_aarch64, demand_aarch64}
use Rattle.wild_aarch64.specs.Effect.{words_of}
use Rattle.wild_meaning.specs.WordsAArch64.{effect_with}
use Rattle.wild_meaning.specs.Sequence.{Sort, Target, TargetInSlot, AddressInSlot, OffsetInSlot, SymbolPair, OwnPair, Described, DescribedCall, Address, FieldBits, Instruction, size_of, IsOwnByte, instructions_of}
use Rattle.wild_meaning.specs.Section.{IsSet}
use Rattle.wild_meaning.specs.Partners.{HasPartners, AreMet}
use Rattle.wild_meaning.specs.Thread.{IsOffsetBase}
use Rattle.wild_meaning.specs.Slot.{IsInAddressSlot, IsSlot}
use Rattle.wild_types.specs.Item.{Item}
use Rattle.wild_meaning.specs.Item.{place_at}
use Rattle.wild_meaning.specs.Field.{formula_of, InNoField}
use Rattle.wild_meaning.specs.Formula.{Gives, IsSum, IsTarget, IsReferent, IsOwnReferent, IsOffset, HasOffsetMode, TakesString}
use Rattle.wild_meaning.specs.Strings.{IsString}

-- ---- in the input's bytes

-- The origin of a field's distance, relative to the field's start: its end, four bytes later (Intel SDM, "RIP-Relative
-- Addressing"); or the instruction, whose word contains the field (Arm ARM, "PC-relative address calculation").
abbrev pub field_origin : Machine → ℕ
field_origin machine.X86_64 = 4
field_origin machine.AArch64 = 0

-- The addend of a field for a slot only compensates for that origin. A branch or an address may have a further offset from its
-- symbol, and the call through a descriptor has no field.
abbrev pub HasOriginAddend : Machine → Sort → InputRelocation → Type 0
HasOriginAddend m Target r = ⊤
HasOriginAddend m DescribedCall r = ⊤
HasOriginAddend m Address r = ⊤
HasOriginAddend m FieldBits r = ⊤
HasOriginAddend m other r = (cast_unsigned w64 r.addend + field_origin m) % 2 ^ 64 ≡ 0

-- The instruction is in the item's bytes at `start`, in code, with the relocation at its field. No relocation fills its own
-- bytes, as that would make another instruction of it.
pub record IsInstruction (l : Layout) (item : Item) (r : InputRelocation) (start : ℕ) (o : Instruction) : Type 0 where
  pub code : IsSet item.flags shf_execinstr
  pub known : Contains (instructions_of l.machine) o
  pub number : Contains o.numbers r.number
  pub field : r.offset ≡ start + o.field
  pub inside : start + size_of o ≤ length item.bytes
  pub stands : matches_cells o.template.cells (slice_range item.bytes start (start + size_of o)) ≡ true
  pub words : o.words (words_of (slice_range item.bytes start (start + size_of o))) ≡ true
  pub counts : HasOriginAddend l.machine o.sort r
  pub alone : (k : ℕ) → IsOwnByte o k → InNoField l item (start + k)

-- a sequence: its first relocation, and those after it
pub record IsSequence (l : Layout) (item : Item) (first : InputRelocation) (rest : List InputRelocation) (start : ℕ) (o : Instruction) : Type 0 where
  pub stands : IsInstruction l item first start o
  pub several : 0 < length o.partners
  pub index : ℕ
  pub listed : slice_get item.relocations index ≡ Some first
  pub has : HasPartners l item first start (index + 1) o.partners rest
  pub symbol : ℕ
  pub named : first.symbol ≡ Some symbol
  pub met : AreMet l symbol o.conditions

-- an instruction with one field that does not belong to a sequence as a further one; if several match, the longest
pub record IsSingle (l : Layout) (item : Item) (r : InputRelocation) (start : ℕ) (o : Instruction) : Type 0 where
  pub single : o.partners ≡ []
  pub stands : IsInstruction l item r start o
  pub longest : (from : ℕ) (p : Instruction) → p.partners ≡ [] → IsInstruction l item r from p → size_of p ≤ size_of o
  pub free : (first : InputRelocation) (rest : List InputRelocation) (from : ℕ) (p : Instruction) → IsSequence l item first rest from p → Contains rest r → ⊥

-- the relocation belongs to a sequence
pub record IsOfSequence (l : Layout) (item : Item) (r : InputRelocation) (start : ℕ) (o : Instruction) (first : InputRelocation) : Type 0 where
  pub rest : List InputRelocation
  pub sequence : IsSequence l item first rest start o
  pub one : Contains (first ∷ rest) r

-- the instruction of a reference, with the relocation of its first field
abbrev pub IsTemplate : Layout → Item → InputRelocation → ℕ → Instruction → InputRelocation → Type 0
IsTemplate l item r start o first = (IsSingle l item r start o × (first ≡ r)) ⊎ IsOfSequence l item r start o first

-- ---- in memory

abbrev pub or_none : Result ℕ LoadFault → Option ℕ
or_none (Ok d) = Some d
or_none (Err f) = None

abbrev pub sum_of : Option ℕ → Option ℕ → Option ℕ
sum_of None b = None
sum_of (Some a) b = option_map (λ n. (a + n) % 2 ^ 64) b

-- the thread-pointer offset that the pair at an address represents: the distance of its module plus the offset there
abbrev pub pair_in : World → Memory → ℕ → Option ℕ
pair_in w m a = sum_of (option_and_then (λ owner. or_none (distance_of w owner)) (number_in m a 8)) (number_in m (a + 8) 8)

-- the values of operands
abbrev pub reads : World → Memory → Reader
reads w m (Number n) = Some n
reads w m (Word a) = number_in m a 8
reads w m (Pair a) = pair_in w m a
reads w m (Offset a) = first_value m.descriptors a

-- the same for code that calls no function: only such a call reads a pair or a descriptor
abbrev pub reads_without_calls : World → Memory → Reader
reads_without_calls w m (Pair a) = None
reads_without_calls w m (Offset a) = None
reads_without_calls w m other = reads w m other

-- the effect of bytes at an address, with the instructions of the machine
abbrev pub effect_of : Machine → Reader → ℕ → List ℕ → Option Effect
effect_of machine.X86_64 read a bs = effect_x86_64 read a bs
effect_of machine.AArch64 read a bs = effect_aarch64 read a bs

-- the effect that the input's bytes require if their fields are filled so that their operand has the value v
abbrev pub demand_of : Machine → ℕ → ℕ → List ℕ → Option Effect
demand_of machine.X86_64 v a bs = demand_x86_64 v a bs
demand_of machine.AArch64 v a bs = demand_aarch64 v a bs

-- ---- required effects

-- the formula of the reference's type contains S, and its symbol is that of merged strings
pub record GoesToString (l : Layout) (r : InputRelocation) : Type 0 where
  pub formula : Formula
  pub known : formula_of l.machine r.number ≡ Some formula
  pub takes : TakesString formula.value l r

-- a is S or L of a branch; for merged strings, a plus A is the string's address
abbrev pub IsBranchReferent : Layout → World → Memory → Item → InputRelocation → ℕ → Type 0
IsBranchReferent l w m item r a = (GoesToString l r × IsString l w r a) ⊎ ((GoesToString l r → ⊥) × IsReferent l.machine StubDistance l w m item r a)

-- the target of a branch to S + A or L + A, where A compensates for the origin of its field
pub record IsBranchTarget (l : Layout) (w : World) (m : Memory) (item : Item) (r : InputRelocation) (v : ℕ) : Type 0 where
  pub goal : ℕ
  pub stands : IsBranchReferent l w m item r goal
  pub is : v ≡ (goal + cast_unsigned w64 r.addend + field_origin l.machine) % 2 ^ 64

-- the value of a reference to a descriptor: the offset itself, or the address of the symbol's descriptor
abbrev pub IsDescribed : Layout → World → Memory → Item → InputRelocation → ℕ → Type 0
IsDescribed l w m item r v = (HasOffsetMode l item × IsOffset l w r.symbol v) ⊎ ((HasOffsetMode l item → ⊥) × (g : ℕ) × IsSlot Descriptor l w m r.symbol g × (v ≡ g % 2 ^ 64))

-- the bits of a formula's value that the field holds
abbrev pub bits_of : Form → ℕ → ℕ
bits_of (Bits field high low check unit) x = x / 2 ^ low % 2 ^ (high + 1 - low)
bits_of other x = 0

-- the value fits the field: it is in range, and the bits below the field's are 0 (aaelf64, "Relocation operations": checks of
-- overflow)
abbrev pub CanHave : Form → ℕ → Type 0
CanHave (Bits field high low check unit) x = Passes check x × (x % unit ≡ 0)
CanHave other x = ⊥

-- v is the field's bits of the value of the relocation's formula, and the value fits
pub record IsFieldBits (l : Layout) (w : World) (m : Memory) (item : Item) (r : InputRelocation) (v : ℕ) : Type 0 where
  pub formula : Formula
  pub known : formula_of l.machine r.number ≡ Some formula
  pub value : ℕ
  pub gives : Gives formula.value l w m item r value
  pub fits : CanHave formula.form value
  pub bits : v ≡ bits_of formula.form value

-- a is the address in the slot of a reference's symbol, or 0 without one
abbrev pub IsSlotAddress : Layout → World → Memory → Option ℕ → ℕ → Type 0
IsSlotAddress l w m None a = a ≡ 0
IsSlotAddress l w m (Some i) a = IsInAddressSlot l w m i a

-- v is the value that an operand of that sort must have:
-- - for a branch its target; for a call through a slot S or its stub; for an address in a slot what that slot has;
-- - a thread-pointer offset; the base of offsets in the output's own thread-local data;
-- - the value of a reference to a descriptor;
-- - S + A as one address, if several instructions each hold a part of it; or the bits of a field.
abbrev pub Demands : Sort → Layout → World → Memory → Item → InputRelocation → ℕ → Type 0
Demands Target l w m item r v = IsBranchTarget l w m item r v
Demands TargetInSlot l w m item r v = IsTarget l w m r.symbol v
Demands AddressInSlot l w m item r v = IsSlotAddress l w m r.symbol v
Demands OffsetInSlot l w m item r v = IsOffset l w r.symbol v
Demands SymbolPair l w m item r v = IsOffset l w r.symbol v
Demands OwnPair l w m item r v = IsOffsetBase l.machine l.kind w v
Demands Described l w m item r v = IsDescribed l w m item r v
Demands DescribedCall l w m item r v = v ≡ 0
Demands Address l w m item r v = IsSum PageDistance l w m item r v
Demands FieldBits l w m item r v = IsFieldBits l w m item r v

-- no effect
abbrev pub no_effect : Effect
no_effect = record { deed = Nothing; width = 64; value = 0 }

-- The effect of the input's bytes if their operand has the value v, or with the bits v in their field. If references to
-- descriptors hold offsets, the call through one has no effect.
abbrev pub IsDemanded : Sort → Layout → Item → ℕ → ℕ → List ℕ → Effect → Type 0
IsDemanded DescribedCall l item v a old e = (HasOffsetMode l item × (e ≡ no_effect)) ⊎ ((HasOffsetMode l item → ⊥) × (demand_of l.machine v a old ≡ Some e))
IsDemanded FieldBits l item v a old e = effect_with v a old ≡ Some e
IsDemanded sort l item v a old e = demand_of l.machine v a old ≡ Some e

-- the input's bytes of the instruction
abbrev pub old_bytes : Item → ℕ → Instruction → List ℕ
old_bytes item start o = slice_range item.bytes start (start + size_of o)

-- the loaded code has the effect of the input's instruction for the operand value v
pub record DoesWith (read : Reader) (l : Layout) (w : World) (m : Memory) (item : Item) (start : ℕ) (o : Instruction) (v : ℕ) : Type 0 where
  pub effect : Effect
  pub demanded : IsDemanded o.sort l item v (place_at w item start) (old_bytes item start o) effect
  pub bytes : List ℕ
  pub whole : length bytes ≡ size_of o
  pub held : Holds m (place_at w item start) bytes
  pub does : effect_of l.machine read (place_at w item start) bytes ≡ Some effect

-- the same for a value that is required
pub record DoesDemanded (read : Reader) (l : Layout) (w : World) (m : Memory) (item : Item) (first : InputRelocation) (start : ℕ) (o : Instruction) : Type 0 where
  pub value : ℕ
  pub demands : Demands o.sort l w m item first value
  pub code : DoesWith read l w m item start o value

-- ---- with the output's own symbol, whatever definition another module has

-- the target of a branch to the own S + A, where A compensates for the origin of its field
pub record IsOwnBranchTarget (l : Layout) (w : World) (item : Item) (r : InputRelocation) (v : ℕ) : Type 0 where
  pub goal : ℕ
  pub stands : IsOwnReferent l.machine Distance l w item r goal
  pub is : v ≡ (goal + cast_unsigned w64 r.addend + field_origin l.machine) % 2 ^ 64

-- the value that an operand of that sort must have: only a branch target is S itself; every other operand uses a slot, which a
-- loader fills
abbrev pub DemandsLinked : Sort → Layout → World → Item → InputRelocation → ℕ → Type 0
DemandsLinked Target l w item r v = IsOwnBranchTarget l w item r v
DemandsLinked other l w item r v = ⊥

-- the loaded code, without calling a function for it, has the effect of the input's instruction for that operand value
pub record DoesLinked (l : Layout) (w : World) (m : Memory) (item : Item) (r : InputRelocation) (start : ℕ) (o : Instruction) : Type 0 where
  pub value : ℕ
  pub demands : DemandsLinked o.sort l w item r value
  pub code : DoesWith (reads_without_calls w m) l w m item start o value
