-- Which world a C struct represents.
--   world_of w   the world
use Rattle.std.specs.Prelude.{ℕ, ℤ, map}
use Rattle.wild_loader.specs.declared.world.Answer.{Answer}
use Rattle.wild_loader.specs.declared.world.World.{World}
use Rattle.wild_c_place.specs.declared.world.CAnswer.{CAnswer}
use Rattle.wild_c_place.specs.declared.world.CModule.{CModule}
use Rattle.wild_c_place.specs.declared.world.CResolver.{CResolver}
use Rattle.wild_c_place.specs.declared.world.CWorld.{CWorld}

-- the dynamic linker's answer for a dynamic symbol
abbrev pub answer_of : CAnswer → Answer
answer_of a = record { address = a.address; «module» = a.«module»; offset = a.offset; size = a.size; bytes = a.bytes.now }

-- the address of a resolver, and the one that it returns
abbrev pub resolver_of : CResolver → ℕ × ℕ
resolver_of r = (r.address, r.answer)

-- a module, and the distance of its thread-local data
abbrev pub module_of : CModule → ℕ × ℤ
module_of m = (m.«module», m.distance)

-- the world in which an image is loaded
unfoldable pub world_of : CWorld → World
world_of w = record { base = w.base; symbols = map answer_of w.symbols.now; resolvers = map resolver_of w.resolvers.now; modules = map module_of w.modules.now; own_module = w.own_module }
