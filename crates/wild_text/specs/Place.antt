-- Which JSON values encode a plan with the world in which it is loaded. Other members are unknown.
use Rattle.std.specs.Prelude.{ℕ, ℤ, pos, List, [], ◌∷◌, codes, Result, Ok}
use Rattle.serde_json.specs.Data.{Data}
use Rattle.wild_loader.specs.declared.world.Answer.{Answer}
use Rattle.wild_loader.specs.declared.world.World.{World}
use Rattle.wild_text.specs.Reads.{◌>>=◌}
use Rattle.wild_text.specs.Values.{u64_in, i64_in, hex_in, list_in}
use Rattle.wild_text.specs.Members.{field, member_or_empty, an_object, known_only}
use Rattle.wild_text.specs.Relink.{plan_in}
use Rattle.wild_text.specs.Space.{resolver_in}
use Rattle.wild_text.specs.declared.place.PlaceRequest.{PlaceRequest}

-- the answer for a symbol
unfoldable pub answer_in : Data → Result Answer (List ℕ)
answer_in d = do
  whole ← an_object d
  address ← field (codes "address") u64_in 0 d
  owner ← field (codes "module") u64_in 0 d
  offset ← field (codes "offset") u64_in 0 d
  size ← field (codes "size") u64_in 0 d
  bytes ← field (codes "bytes") hex_in [] d
  all_known ← known_only (codes "address" ∷ codes "module" ∷ codes "offset" ∷ codes "size" ∷ codes "bytes" ∷ []) d
  Ok (record { address = address; «module» = owner; offset = offset; size = size; bytes = bytes })

-- a module, and the distance of its thread-local data
unfoldable pub module_in : Data → Result (ℕ × ℤ) (List ℕ)
module_in d = do
  whole ← an_object d
  number ← field (codes "module") u64_in 0 d
  distance ← field (codes "distance") i64_in (pos 0) d
  all_known ← known_only (codes "module" ∷ codes "distance" ∷ []) d
  Ok (number, distance)

-- a world
unfoldable pub world_in : Data → Result World (List ℕ)
world_in d = do
  whole ← an_object d
  base ← field (codes "base") u64_in 0 d
  symbols ← field (codes "symbols") (list_in answer_in) [] d
  resolvers ← field (codes "resolvers") (list_in resolver_in) [] d
  modules ← field (codes "modules") (list_in module_in) [] d
  own_module ← field (codes "own_module") u64_in 0 d
  all_known ← known_only (codes "base" ∷ codes "symbols" ∷ codes "resolvers" ∷ codes "modules" ∷ codes "own_module" ∷ []) d
  Ok (record { base = base; symbols = symbols; resolvers = resolvers; modules = modules; own_module = own_module })

-- the world of the plan
unfoldable pub plan_world_in : Data → Result World (List ℕ)
plan_world_in d = member_or_empty (codes "world") world_in d

-- a plan, and the world in which it is loaded
unfoldable pub place_in : Data → Result PlaceRequest (List ℕ)
place_in d = do
  whole ← an_object d
  layout ← plan_in d
  world ← plan_world_in d
  all_known ← known_only (codes "plan" ∷ codes "world" ∷ []) d
  Ok (record { plan = layout; world = world })
