-- The premises of the headline can be met: there are legal worlds.
--   ZeroIsLegal, MovedIsLegal   base 0 is legal; so is every base with enough room, if the output is movable
--   NoResolversNeeded        if no symbol is an IFUNC, a world needs no answers of resolvers
--   IsConsistent l           the conditions on a layout under which its worlds are given
--   WorldsAreThere     it has a legal world, whatever the resolvers answer and the other module defines
--   KindsAreLoaded     every kind of output except a partial object can be loaded
use Rattle.std.specs.Prelude.{◌≡◌, ◌≢◌, ℕ, ℤ, ◌+◌, ◌%◌, ◌^◌, ◌<◌, ◌≤◌, true, false, [], Some, Ok, All}
use Rattle.std.specs.Int.{w64, cast_unsigned}
use Rattle.std.specs.Int.RustNames.{FitsSigned}
use Rattle.wild_types.specs.declared.kind.RelocationModel.TheVariants as model
use Rattle.wild_types.specs.declared.kind.OutputKind.{OutputKind}
use Rattle.wild_types.specs.declared.kind.OutputKind.TheVariants as output
use Rattle.wild_types.specs.declared.section.Segment.{Segment}
use Rattle.wild_types.specs.declared.symbol.Resolution.{Resolution}
use Rattle.wild_types.specs.declared.symbol.Symbol.{Symbol}
use Rattle.wild_types.specs.declared.layout.Layout.{Layout}
use Rattle.wild_types.specs.Flags.{has_flag, ifunc}
use Rattle.wild_layout.specs.Numbers.{NumbersFit}
use Rattle.wild_layout.specs.Faults.{errors}
use Rattle.wild_loader.specs.declared.world.World.{World}
use Rattle.wild_loader.specs.declared.world.Answer.{Answer}
use Rattle.wild_loader.specs.Changes.{answer_at, distance_of}
use Rattle.wild_meaning.specs.World.{IsFixed, IsMovable, IsLoadable, IsExecutable, IsFirstModule, HasResolver, AnswersSymbols, IsLegal}
use Rattle.wild_meaning.specs.Value.{IsReplaceable, HasAnswer}

-- in the world an executable is the program's own module
abbrev pub KnowsModule : Layout → World → Type 0
KnowsModule l w = IsExecutable l.kind → IsFirstModule l w

-- the world has exactly one answer of each symbol's resolver
abbrev pub HasResolvers : Layout → World → Type 0
HasResolvers l w = All (HasResolver w) l.symbols

-- if no symbol is an IFUNC, none is needed
abbrev pub NoResolversNeeded : Type 0
NoResolversNeeded = (l : Layout) (w : World) → All (λ (s : Symbol). has_flag s.flags ifunc ≡ false) l.symbols → HasResolvers l w

-- a page-aligned base at which no segment wraps
pub record HasRoomAbove (l : Layout) (base : ℕ) : Type 0 where
  pub aligned : base % l.page_size ≡ 0
  pub ends : All (λ (g : Segment). base + g.address + g.mem_size ≤ 2 ^ 64) l.segments

-- base 0 is legal in every world with answers for modules, resolvers and dynamic symbols
abbrev pub ZeroIsLegal : Type 0
ZeroIsLegal = (l : Layout) (w : World) → errors l ≡ [] → w.base ≡ 0 → KnowsModule l w → HasResolvers l w → AnswersSymbols l w → IsLegal l w

-- if the output is movable, so is every base with enough room
abbrev pub MovedIsLegal : Type 0
MovedIsLegal = (l : Layout) (w : World) → IsMovable l.kind → HasRoomAbove l w.base → KnowsModule l w → HasResolvers l w → AnswersSymbols l w → IsLegal l w

-- the resolvers of a layout's symbols have these answers, each at its own address
abbrev pub AreAnswered : Layout → World → (ℕ → ℕ) → Type 0
AreAnswered l w answers = All (λ (s : Symbol). (r : Resolution) → s.resolution ≡ Some r → answer_at w ((w.base + r.raw_value) % 2 ^ 64) ≡ Ok (answers ((w.base + r.raw_value) % 2 ^ 64))) l.symbols

-- each answer is an address in the machine's range
abbrev pub AreAddresses : (ℕ → ℕ) → Type 0
AreAddresses answers = (a : ℕ) → answers a < 2 ^ 64

-- Another module's definitions for each index of the dynamic symbol table, and the distance of its thread-local data from the
-- thread pointer. For a library also the distance of the output's own data.
pub record OtherModule : Type 0 where
  pub address : ℕ → ℕ
  pub offset : ℕ → ℕ
  pub size : ℕ → ℕ
  pub distance : ℤ
  pub own : ℤ

-- these numbers are in the machine's range
pub record AreNumbers (o : OtherModule) : Type 0 where
  pub address : AreAddresses o.address
  pub offset : AreAddresses o.offset
  pub size : AreAddresses o.size
  pub distance : FitsSigned w64 o.distance
  pub own : FitsSigned w64 o.own

-- the module after the first one
abbrev pub other_module : ℕ
other_module = 2

-- the answer for an index is the other module's definition
pub record IsOtherAnswer (o : OtherModule) (index : ℕ) (x : Answer) : Type 0 where
  pub address : x.address ≡ o.address index
  pub owner : x.module ≡ other_module
  pub offset : x.offset ≡ o.offset index
  pub size : x.size ≡ o.size index

-- a legal world with that base, those answers of resolvers, and that other module
pub record HasWorld (l : Layout) (base : ℕ) (answers : ℕ → ℕ) (others : OtherModule) : Type 0 where
  pub world : World
  pub at : world.base ≡ base
  pub legal : IsLegal l world
  pub answered : AreAnswered l world answers
  pub found : (i : ℕ) (x : Answer) → IsReplaceable l i true → (h : HasAnswer l world i x) → IsOtherAnswer others h.index x
  pub far : distance_of world other_module ≡ Ok (cast_unsigned w64 others.distance)
  pub near : (IsExecutable l.kind → ⊥) → distance_of world world.own_module ≡ Ok (cast_unsigned w64 others.own)

-- the conditions on a layout under which its worlds are given
pub record IsConsistent (l : Layout) : Type 0 where
  pub faultless : errors l ≡ []
  pub numbers : NumbersFit l
  pub sizes : All (λ (s : Symbol). s.size < 2 ^ 64) l.symbols

-- So there are legal worlds, whatever the resolvers answer and the other module defines: at base 0 and, if the output is movable,
-- at every base with enough room.
pub record WorldsAreThere : Type 0 where
  pub zero : (l : Layout) (answers : ℕ → ℕ) (others : OtherModule) → AreAddresses answers → AreNumbers others → IsConsistent l → HasWorld l 0 answers others
  pub elsewhere : (l : Layout) (base : ℕ) (answers : ℕ → ℕ) (others : OtherModule) → AreAddresses answers → AreNumbers others → IsMovable l.kind → HasRoomAbove l base → IsConsistent l → HasWorld l base answers others

-- every kind except a partial object can be loaded, at its own addresses or at any base
pub record KindsAreLoaded : Type 0 where
  pub static : IsFixed (output.StaticExecutable model.NonRelocatable)
  pub dynamic : IsFixed (output.DynamicExecutable model.NonRelocatable)
  pub static_elsewhere : IsMovable (output.StaticExecutable model.Relocatable)
  pub dynamic_elsewhere : IsMovable (output.DynamicExecutable model.Relocatable)
  pub shared : IsMovable output.SharedObject
  pub each : (kind : OutputKind) → kind ≢ output.PartialObject → IsLoadable kind
