-- Which JSON values encode images of a name space, and the answers of resolvers. Other members are unknown.
use Rattle.std.specs.Prelude.{◌≡◌, ◌≤◌, ℕ, ℤ, pos, List, [], ◌∷◌, length, codes, Result, Ok, Err}
use Rattle.serde_json.specs.Data.{Data}
use Rattle.wild_space.specs.declared.image.NamedImage.{NamedImage}
use Rattle.wild_text.specs.Reads.{◌>>=◌}
use Rattle.wild_text.specs.Values.{u64_in, i64_in, hex_in, list_in}
use Rattle.wild_text.specs.Members.{field, an_object, known_only}
use Rattle.wild_text.specs.declared.space.SpaceRequest.{SpaceRequest}

-- an image with its name, its base and the distance of its thread-local data
unfoldable pub named_image_in : Data → Result NamedImage (List ℕ)
named_image_in d = do
  whole ← an_object d
  name ← field (codes "name") hex_in [] d
  bytes ← field (codes "bytes") hex_in [] d
  base ← field (codes "base") u64_in 0 d
  distance ← field (codes "distance") i64_in (pos 0) d
  all_known ← known_only (codes "name" ∷ codes "bytes" ∷ codes "base" ∷ codes "distance" ∷ []) d
  Ok (record { name = name; bytes = bytes; base = base; distance = distance })

-- the loaded address of a resolver, and its answer
unfoldable pub resolver_in : Data → Result (ℕ × ℕ) (List ℕ)
resolver_in d = do
  whole ← an_object d
  address ← field (codes "address") u64_in 0 d
  answer ← field (codes "answer") u64_in 0 d
  all_known ← known_only (codes "address" ∷ codes "answer" ∷ []) d
  Ok (address, answer)

-- the images; there has to be at least one
abbrev pub unless_empty : List NamedImage → Result (List NamedImage) (List ℕ)
unless_empty [] = Err (codes "/images")
unless_empty (image ∷ images) = Ok (image ∷ images)

unfoldable pub images_in : Data → Result (List NamedImage) (List ℕ)
images_in d = field (codes "images") (list_in named_image_in) [] d >>= unless_empty

-- images and the answers of resolvers
unfoldable pub space_in : Data → Result SpaceRequest (List ℕ)
space_in d = do
  whole ← an_object d
  images ← images_in d
  resolvers ← field (codes "resolvers") (list_in resolver_in) [] d
  all_known ← known_only (codes "images" ∷ codes "resolvers" ∷ []) d
  Ok (record { images = images; resolvers = resolvers })
