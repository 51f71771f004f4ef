-- Which JSON values encode a plan with an image that is verified. Other members are unknown.
use Rattle.std.specs.Prelude.{ℕ, List, [], ◌∷◌, codes, Result, Ok}
use Rattle.serde_json.specs.Data.{Data}
use Rattle.wild_text.specs.Reads.{◌>>=◌}
use Rattle.wild_text.specs.Values.{hex_in}
use Rattle.wild_text.specs.Members.{field, an_object, known_only}
use Rattle.wild_text.specs.Relink.{plan_in}
use Rattle.wild_text.specs.declared.verify.VerifyRequest.{VerifyRequest}

-- the bytes of the image; without the member there are none
unfoldable pub image_in : Data → Result (List ℕ) (List ℕ)
image_in d = field (codes "image") hex_in [] d

-- a plan, and an image
unfoldable pub verify_in : Data → Result VerifyRequest (List ℕ)
verify_in d = do
  whole ← an_object d
  layout ← plan_in d
  image ← image_in d
  all_known ← known_only (codes "plan" ∷ codes "image" ∷ []) d
  Ok (record { plan = layout; image = image })
