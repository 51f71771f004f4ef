-- The value of a term in a world.
--   atom_value w a    the number that a world determines for an atom; 0 where it does not answer
--   value_of w t      the value of a term
--   IsWorldOf o w     the world answers all that an outline has, and agrees with what it knows
use Rattle.std.specs.Prelude.{◌≡◌, ℕ, ℤ, ◌+◌, ◌%◌, ◌^◌, ◌<◌, true, false, [], Option, Some, None, slice_get, unwrap_or}
use Rattle.std.specs.Int.{cast_unsigned, w64}
use Rattle.wild_loader.specs.declared.world.World.{World}
use Rattle.wild_loader.specs.declared.world.Answer.{Answer}
use Rattle.wild_loader.specs.Changes.{first_value}
use Rattle.wild_terms.specs.declared.term.Atom.{Atom}
use Rattle.wild_terms.specs.declared.term.Atom.TheVariants.{Zero, Base, Address, Module, Offset, ThreadOffset, Size, OwnModule, OwnDistance, Resolver}
use Rattle.wild_terms.specs.declared.term.Term.{Term}
use Rattle.wild_terms.specs.declared.outline.KnownAnswer.{KnownAnswer}
use Rattle.wild_terms.specs.declared.outline.KnownAnswer.TheVariants as answers
use Rattle.wild_terms.specs.declared.outline.Outline.{Outline}
use Rattle.wild_terms.specs.Outline.{has_resolver}

-- ---- values

abbrev pub no_answer : Answer
no_answer = record { address = 0; «module» = 0; offset = 0; size = 0; bytes = [] }

abbrev pub answer_or : World → ℕ → Answer
answer_or w i = unwrap_or (slice_get w.symbols i) no_answer

abbrev pub unsigned_or : Option ℤ → ℕ
unsigned_or None = 0
unsigned_or (Some d) = cast_unsigned w64 d

-- the distance of a module's thread-local data from the thread pointer, as an unsigned number
abbrev pub distance_or : World → ℕ → ℕ
distance_or w m = unsigned_or (first_value w.modules m)

-- the number that a world determines for an atom; 0 where it does not answer
abbrev pub atom_value : World → Atom → ℕ
atom_value w Zero = 0
atom_value w Base = w.base
atom_value w (Address i) = (answer_or w i).address
atom_value w (Module i) = (answer_or w i).module
atom_value w (Offset i) = (answer_or w i).offset
atom_value w (ThreadOffset i) = (distance_or w (answer_or w i).module + (answer_or w i).offset) % 2 ^ 64
atom_value w (Size i) = (answer_or w i).size
atom_value w OwnModule = w.own_module
atom_value w OwnDistance = distance_or w w.own_module
atom_value w (Resolver n) = unwrap_or (first_value w.resolvers ((w.base + n) % 2 ^ 64)) 0

abbrev pub value_of : World → Term → ℕ
value_of w t = (atom_value w t.atom + t.plus) % 2 ^ 64

-- ---- worlds of an outline

-- the numbers of an answer are in the machine's range, and the distance of its module is known
pub record IsKnown (w : World) (x : Answer) : Type 0 where
  pub address : x.address < 2 ^ 64
  pub owner : x.module < 2 ^ 64
  pub offset : x.offset < 2 ^ 64
  pub size : x.size < 2 ^ 64
  pub distance : ℤ
  pub known : first_value w.modules x.module ≡ Some distance

-- the answer agrees with what an outline knows of it
abbrev pub Agrees : World → Answer → KnownAnswer → Type 0
Agrees w x answers.Foreign = Unit {0}
Agrees w x (answers.Own address offset size) = (x.address ≡ value_of w address) × (x.module ≡ w.own_module) × (x.offset ≡ offset) × (x.size ≡ size)

-- the world has an answer that agrees with what an outline knows of it
pub record IsAnswered (w : World) (i : ℕ) (a : KnownAnswer) : Type 0 where
  pub answer : Answer
  pub given : slice_get w.symbols i ≡ Some answer
  pub known : IsKnown w answer
  pub agrees : Agrees w answer a

-- the resolver at the base plus a number has an answer of the machine
pub record HasResolver (w : World) (n : ℕ) : Type 0 where
  pub answer : ℕ
  pub given : first_value w.resolvers ((w.base + n) % 2 ^ 64) ≡ Some answer
  pub fits : answer < 2 ^ 64

-- an executable is module 1, and its data has this distance from the thread pointer
pub record IsProgram (w : World) (distance : ℕ) : Type 0 where
  pub owner : w.own_module ≡ 1
  pub is : distance_or w w.own_module ≡ distance

-- the world answers all that an outline has, and agrees with what it knows
pub record IsWorldOf (o : Outline) (w : World) : Type 0 where
  pub fixed : o.movable ≡ false → w.base ≡ 0
  pub answered : (i : ℕ) (a : KnownAnswer) → slice_get o.symbols i ≡ Some a → IsAnswered w i a
  pub resolvers : (n : ℕ) → has_resolver o n ≡ true → HasResolver w n
  pub owner : w.own_module < 2 ^ 64
  pub distance : ℤ
  pub known : first_value w.modules w.own_module ≡ Some distance
  pub program : (d : ℕ) → o.program ≡ Some d → IsProgram w d
