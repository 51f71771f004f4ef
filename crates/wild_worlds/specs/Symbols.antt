-- Every symbol has a value in a world, and only one.
--   AddressesMove      the output's own symbols
--   ResolversAnswer    those that are IFUNCs
--   WorldsAnswer       replaceable ones, and all with an index
--   OffsetsCount       offsets in the thread-local data
--   SlotsAreOne        slots
--   SizesAreWhole      sizes
use Rattle.std.specs.Prelude.{◌≡◌, ℕ, ◌+◌, ◌-◌, ◌%◌, ◌^◌, ◌<◌, true, false, Option, Some, Ok}
use Rattle.wild_reloc.specs.Formula.{Slot}
use Rattle.wild_types.specs.declared.input.InputRelocation.{InputRelocation}
use Rattle.wild_types.specs.declared.layout.Layout.{Layout}
use Rattle.wild_types.specs.Flags.{absolute, ifunc}
use Rattle.wild_loader.specs.declared.world.World.{World}
use Rattle.wild_loader.specs.declared.memory.Memory.{Memory}
use Rattle.wild_loader.specs.declared.world.Answer.{Answer}
use Rattle.wild_loader.specs.Changes.{answer_at}
use Rattle.wild_meaning.specs.World.{IsExecutable, IsLegal}
use Rattle.wild_meaning.specs.Thread.{thread_pointer, IsThreadPlace}
use Rattle.wild_meaning.specs.Value.{IsDefinedBy, IsResolved, HasRaw, HasFlag, IsReplaceable, HasAnswer, HasValue}
use Rattle.wild_loader.specs.Reach.{Reaches}
use Rattle.wild_meaning.specs.Denotes.{HasStub, Denotes}
use Rattle.wild_meaning.specs.Slot.{IsSlot}
use Rattle.wild_meaning.specs.Formula.{IsWhole}
use Rattle.wild_laws.specs.FirstPath.{IsGoal}

-- For the output's own symbols that are not IFUNCs: the address of one that is not absolute moves with the base, an absolute
-- value does not. Without a stub no other address represents the symbol, and execution that reaches the symbol reaches that
-- address.
pub record AddressesMove : Type 0 where
  pub moves : (l : Layout) (w : World) (m : Memory) (i raw : ℕ) → IsReplaceable l i false → HasRaw l i raw → HasFlag l i ifunc false → HasFlag l i absolute false → Denotes l w m i ((w.base + raw) % 2 ^ 64)
  pub stays : (l : Layout) (w : World) (m : Memory) (i raw : ℕ) → IsReplaceable l i false → HasRaw l i raw → HasFlag l i ifunc false → HasFlag l i absolute true → Denotes l w m i raw
  pub alone : (l : Layout) (w : World) (m : Memory) (i a : ℕ) → IsReplaceable l i false → Denotes l w m i a → HasFlag l i ifunc false → HasFlag l i absolute false → ((p : ℕ) → HasStub l i p → ⊥) → (raw : ℕ) × HasRaw l i raw × (a ≡ (w.base + raw) % 2 ^ 64)
  pub goals : (l : Layout) (w : World) (m : Memory) (i a : ℕ) → IsReplaceable l i false → IsGoal l w m (Some i) a → HasFlag l i ifunc false → HasFlag l i absolute false → (raw : ℕ) × HasRaw l i raw × Reaches m a ((w.base + raw) % 2 ^ 64)

-- the value of an own IFUNC is its resolver's answer, and nothing else; in a legal world the resolver has one answer, an address
pub record ResolversAnswer : Type 0 where
  pub value : (l : Layout) (w : World) (i raw a : ℕ) → IsReplaceable l i false → HasRaw l i raw → HasFlag l i ifunc true → answer_at w ((w.base + raw) % 2 ^ 64) ≡ Ok a → HasValue l w i a
  pub alone : (l : Layout) (w : World) (i a : ℕ) → IsReplaceable l i false → HasValue l w i a → HasFlag l i ifunc true → (raw : ℕ) × HasRaw l i raw × (answer_at w ((w.base + raw) % 2 ^ 64) ≡ Ok a)
  pub there : (l : Layout) (w : World) (i c raw : ℕ) → IsLegal l w → IsReplaceable l i false → IsDefinedBy l i c → IsResolved l c raw → HasFlag l i ifunc true → (a : ℕ) × HasValue l w i a × (a < 2 ^ 64)

-- The value of a replaceable symbol is the world's answer for its index, and nothing else. In a legal world the same is true for
-- an own symbol with an index.
pub record WorldsAnswer : Type 0 where
  pub value : (l : Layout) (w : World) (i : ℕ) (x : Answer) → IsReplaceable l i true → HasAnswer l w i x → HasValue l w i x.address
  pub alone : (l : Layout) (w : World) (i a : ℕ) → IsReplaceable l i true → HasValue l w i a → (x : Answer) × HasAnswer l w i x × (a ≡ x.address)
  pub one : (l : Layout) (w : World) (i : ℕ) (x y : Answer) → HasAnswer l w i x → HasAnswer l w i y → x ≡ y
  pub own : (l : Layout) (w : World) (i : ℕ) (x : Answer) → IsLegal l w → IsReplaceable l i false → HasAnswer l w i x → HasValue l w i x.address

-- In a legal world each symbol of an executable with an address has exactly one thread-pointer offset: its address minus the
-- thread pointer.
pub record OffsetsCount : Type 0 where
  pub there : (l : Layout) (w : World) (i raw : ℕ) → IsExecutable l.kind → IsLegal l w → HasRaw l i raw → (t : ℕ) × IsThreadPlace l w i t
  pub less : (l : Layout) (w : World) (i t : ℕ) → IsExecutable l.kind → IsLegal l w → IsThreadPlace l w i t → (raw : ℕ) × HasRaw l i raw × (t ≡ (raw + (2 ^ 64 - thread_pointer l % 2 ^ 64)) % 2 ^ 64)

-- G is one address in a world, whatever memory holds: no other word with the same content is a symbol's slot
abbrev pub SlotsAreOne : Type 0
SlotsAreOne = (sort : Slot) (l : Layout) (w : World) (m n : Memory) (symbol : Option ℕ) (g h : ℕ) → IsSlot sort l w m symbol g → IsSlot sort l w n symbol h → g ≡ h

-- a field with the size of an own symbol holds the whole size, even if it has four bytes
abbrev pub SizesAreWhole : Type 0
SizesAreWhole = (l : Layout) (r : InputRelocation) (i n x : ℕ) → r.symbol ≡ Some i → IsReplaceable l i false → IsWhole l r n x → x ≡ n
