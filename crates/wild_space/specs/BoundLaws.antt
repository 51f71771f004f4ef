-- What binding makes of each image.
--   IsSameAnswer a c             two answers are equal but for their bytes
--   IsMadeSymbol xs order rs n k binds w   the bind and the answer of symbol k of the image at place n
--   IsMade xs rs b n             the binds, world and memory of the image at place n
--   AnswersOne b d               all images that are bound to d have one answer for it
--   OverlapNowhere xs order      no address is in two images
use Rattle.std.specs.Prelude.{◌≡◌, ℕ, ◌+◌, ◌-◌, ◌<◌, ◌≤◌, List, length, Option, Some, Ok, slice_get}
use Rattle.wild_loader.specs.declared.memory.Memory.{Memory}
use Rattle.wild_loader.specs.declared.world.Answer.{Answer}
use Rattle.wild_loader.specs.declared.world.World.{World}
use Rattle.wild_loader.specs.Load.{load as load_image}
use Rattle.wild_space.specs.declared.binds.Definition.{Definition}
use Rattle.wild_space.specs.declared.image.NamedImage.{NamedImage}
use Rattle.wild_space.specs.declared.space.Bound.{Bound}
use Rattle.wild_space.specs.Order.{bytes_at, order_of}
use Rattle.wild_space.specs.Binds.{place_of, base_of, count_of, bind, answer_for, no_answer, modules_of}
use Rattle.wild_space.specs.Overlaps.{placed}
use Rattle.wild_space.specs.Counts.{count}
use Rattle.wild_space.specs.Bound.{bound}

-- the answers are equal but for their bytes
pub record IsSameAnswer (a c : Answer) : Type 0 where
  pub address : a.address ≡ c.address
  pub owner : a.«module» ≡ c.«module»
  pub offset : a.offset ≡ c.offset
  pub size : a.size ≡ c.size

-- symbol k of the image at place n has its bind at place k - 1 of the binds and the answer for it at place k of the world
pub record IsMadeSymbol (xs : List NamedImage) (order : List ℕ) (rs : List (ℕ × ℕ)) (n k : ℕ) (binds : List (Option Definition)) (w : World) : Type 0 where
  pub definition : Option Definition
  pub bound : bind xs order n k ≡ Ok definition
  pub listed : slice_get binds (k - 1) ≡ Some definition
  pub made : Answer
  pub is_made : answer_for xs order rs definition ≡ Ok made
  pub answer : Answer
  pub answered : slice_get w.symbols k ≡ Some answer
  pub same : IsSameAnswer answer made

-- what binding makes of the image at place n of the order
pub record IsMade (xs : List NamedImage) (rs : List (ℕ × ℕ)) (b : Bound) (n : ℕ) : Type 0 where
  pub binds : List (Option Definition)
  pub has_binds : slice_get b.binds n ≡ Some binds
  pub world : World
  pub has_world : slice_get b.worlds n ≡ Some world
  pub base : world.base ≡ base_of xs (place_of b.order n)
  pub resolvers : world.resolvers ≡ rs
  pub modules : world.modules ≡ modules_of xs b.order
  pub own : world.own_module ≡ n + 1
  pub symbols : ℕ
  pub counted : count_of xs (place_of b.order n) ≡ Ok symbols
  pub many : length world.symbols ≡ 1 + (symbols - 1)
  pub null : Answer
  pub has_null : slice_get world.symbols 0 ≡ Some null
  pub null_same : IsSameAnswer null no_answer
  pub each : (k : ℕ) → 1 ≤ k → k < symbols → IsMadeSymbol xs b.order rs n k binds world
  pub memory : Memory
  pub has_memory : slice_get b.memories n ≡ Some memory
  pub loaded : load_image world (bytes_at xs (place_of b.order n)) ≡ Ok memory

-- images that are bound to each other have their order, and each image of it is made so
abbrev pub SpacesAreMade : Type 0
SpacesAreMade = (xs : List NamedImage) (rs : List (ℕ × ℕ)) (b : Bound) → 1 ≤ length xs → bound xs rs ≡ Ok b → (order_of xs ≡ Ok b.order) × ((n : ℕ) → n < length b.order → IsMade xs rs b n)

-- symbol k of the image at place n is bound to d, and has this answer
pub record HasAnswer (b : Bound) (n k : ℕ) (d : Definition) (a : Answer) : Type 0 where
  pub inside : n < length b.order
  pub some : 1 ≤ k
  pub binds : List (Option Definition)
  pub has_binds : slice_get b.binds n ≡ Some binds
  pub listed : slice_get binds (k - 1) ≡ Some (Some d)
  pub world : World
  pub has_world : slice_get b.worlds n ≡ Some world
  pub answered : slice_get world.symbols k ≡ Some a

-- images that are bound to one definition have one answer for it, but for its bytes
abbrev pub DefinitionsAreOne : Type 0
DefinitionsAreOne = (xs : List NamedImage) (rs : List (ℕ × ℕ)) (b : Bound) (n m k j : ℕ) (d : Definition) (a c : Answer) → 1 ≤ length xs → bound xs rs ≡ Ok b → HasAnswer b n k d a → HasAnswer b m j d c → IsSameAnswer a c

-- no address is in two images that are bound to each other
abbrev pub SpacesOverlapNowhere : Type 0
SpacesOverlapNowhere = (xs : List NamedImage) (rs : List (ℕ × ℕ)) (b : Bound) → bound xs rs ≡ Ok b → (a : ℕ) → count a (placed xs b.order) ≤ 1
