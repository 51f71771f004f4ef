-- The order in which images are searched: image 0; then, image by image in order, the images that it needs, each where it is not in
-- the order yet (gABI, "Shared Object Dependencies").
--   bytes_at xs i           the bytes of image i
--   tables_of xs i          where the tables of image i are
--   target xs i t k at      the image that DT_NEEDED entry k of image i names, whose name is at an offset of its strings
--   with_image order j      the order with j at its end, if j is not in it yet
--   with_targets xs i t k ats order   the order with the images that entries k, k + 1, .. of image i name
--   with_needed xs i order  the order with all images that image i needs
--   walk xs left p order    the order with what the images from place p on need, for at most so many images
--   order_of xs             the order
use Rattle.std.specs.Prelude.{◌≡◌, ℕ, zero, suc, ◌+◌, ◌<◌, if◌then◌else◌, Bool, false, nat_eq, List, [], ◌∷◌, ◌++◌, length, Option, Some, None, Result, Ok, slice_get, get_or, All}
use Rattle.std.specs.List.{list_any}
use Rattle.wild_hashes.specs.declared.tables.ImageTables.{ImageTables}
use Rattle.wild_hashes.specs.ImageTables.{image_tables, text_at, AreTablesInside}
use Rattle.wild_imports.specs.Imports.{needed_offsets}
use Rattle.wild_space.specs.declared.fault.BindFault.{BindFault}
use Rattle.wild_space.specs.declared.fault.BindFault.TheVariants as faults
use Rattle.wild_space.specs.declared.image.NamedImage.{NamedImage}
use Rattle.wild_space.specs.declared.order.Growing.{Growing}
use Rattle.wild_space.specs.Given.{◌>>=◌, known, look}
use Rattle.wild_space.specs.Names.{named}

-- the bytes of an image; none if there is no image
abbrev pub bytes_of_image : Option NamedImage → List ℕ
bytes_of_image None = []
bytes_of_image (Some x) = x.bytes

-- the bytes of image i
abbrev pub bytes_at : List NamedImage → ℕ → List ℕ
bytes_at xs i = bytes_of_image (slice_get xs i)

-- where the tables of image i are
unfoldable pub tables_of : List NamedImage → ℕ → Result ImageTables BindFault
tables_of xs i = look i (image_tables (bytes_at xs i))

-- the image that an entry names
unfoldable pub target : List NamedImage → ℕ → ImageTables → ℕ → ℕ → Result ℕ BindFault
target xs i t k at = look i (text_at (bytes_at xs i) t at) >>= λ name. known (named xs name) (faults.Missing i k)

-- the list has the number
abbrev pub has : List ℕ → ℕ → Bool
has order j = list_any (nat_eq j) order

-- the order with an image at its end, if the image is not in it yet
abbrev pub with_image : List ℕ → ℕ → List ℕ
with_image order j = if has order j then order else order ++ j ∷ []

-- the order with the images that entries name
unfoldable pub with_targets : List NamedImage → ℕ → ImageTables → ℕ → List ℕ → List ℕ → Result (List ℕ) BindFault
with_targets xs i t k [] order = Ok order
with_targets xs i t k (at ∷ ats) order = target xs i t k at >>= λ j. with_targets xs i t (k + 1) ats (with_image order j)

-- the order with the images that image i needs
unfoldable pub with_needed : List NamedImage → ℕ → List ℕ → Result (List ℕ) BindFault
with_needed xs i order = tables_of xs i >>= λ t. with_targets xs i t 0 (needed_offsets (bytes_at xs i) t) order

-- the same for the image at a place of the order
abbrev pub with_next : List NamedImage → List ℕ → Option ℕ → Result (List ℕ) BindFault
with_next xs order None = Ok order
with_next xs order (Some i) = with_needed xs i order

-- the order with what the images from place p on need, for at most so many images
unfoldable pub walk : List NamedImage → ℕ → ℕ → List ℕ → Result (List ℕ) BindFault
walk xs zero p order = Ok order
walk xs (suc left) p order = with_next xs order (slice_get order p) >>= λ more. walk xs left (p + 1) more

-- the order; it has no more images than there are
unfoldable pub order_of : List NamedImage → Result (List ℕ) BindFault
order_of xs = walk xs (length xs) 0 (0 ∷ [])

-- each mark says whether the order has that image, and there is a mark for each of n images
pub record IsGrowing (n : ℕ) (g : Growing) : Type 0 where
  pub room : length g.present.items ≡ n
  pub marks : (j : ℕ) → j < n → get_or g.present.items j false ≡ has g.order j
  pub small : All (λ i. i < n) g.order

-- t has the tables of image i
pub record HasTables (xs : List NamedImage) (i : ℕ) (t : ImageTables) : Type 0 where
  pub are : tables_of xs i ≡ Ok t
  pub inside : AreTablesInside (bytes_at xs i) t

-- each of these are the tables of the image at its place of the order
abbrev pub AreTables : List NamedImage → List ℕ → List ImageTables → Type 0
AreTables xs order ts = (n : ℕ) (t : ImageTables) → slice_get ts n ≡ Some t → HasTables xs (get_or order n 0) t

-- each image of the order is one of the images, and has its tables at its place
pub record AreOrdered (xs : List NamedImage) (order : List ℕ) (ts : List ImageTables) : Type 0 where
  pub small : All (λ i. i < length xs) order
  pub many : length ts ≡ length order
  pub each : AreTables xs order ts
