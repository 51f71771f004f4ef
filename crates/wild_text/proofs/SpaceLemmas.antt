-- What the command `space` reads has an image.
use Rattle.std.proofs.Common.{◌≡◌, ◌≤◌, ℕ, List, [], ◌∷◌, length, Ok, subst, arith}
use Rattle.std.specs.Prelude.{codes}
use Rattle.serde_json.specs.Data.{Data}
use Rattle.wild_space.specs.declared.image.NamedImage.{NamedImage}
use Rattle.wild_text.specs.Values.{list_in}
use Rattle.wild_text.specs.Members.{field, an_object, known_only}
use Rattle.wild_text.specs.Space.{named_image_in, resolver_in, unless_empty, images_in, space_in}
use Rattle.wild_text.specs.declared.space.SpaceRequest.{SpaceRequest}
use Rattle.wild_text.proofs.FieldLemmas.{first_step, given_same}

has_some : (found images : List NamedImage) → unless_empty found ≡ Ok images → 1 ≤ length images
has_some [] images e = absurd cc
has_some (x ∷ xs) images e = subst (λ (ys : List NamedImage). 1 ≤ length ys) (given_same (x ∷ xs) images e) (omega arith)

images_are_some : (d : Data) (images : List NamedImage) → images_in d ≡ Ok images → 1 ≤ length images
unfolding images_in
images_are_some d images e =
    let read = first_step (field (codes "images") (list_in named_image_in) [] d) unless_empty images e in
    has_some read.0 images read.2

-- what is read has an image
pub has_images : (d : Data) (s : SpaceRequest) → space_in d ≡ Ok s → 1 ≤ length s.images
unfolding space_in
has_images d s e =
    let whole = first_step (an_object d) _ s e in
    let images = first_step (images_in d) _ s whole.2 in
    let resolvers = first_step (field (codes "resolvers") (list_in resolver_in) [] d) _ s images.2 in
    let known = first_step (known_only (codes "images" ∷ codes "resolvers" ∷ []) d) _ s resolvers.2 in
    subst (λ (x : SpaceRequest). 1 ≤ length x.images) (given_same _ s known.2) (images_are_some d images.0 images.1)
