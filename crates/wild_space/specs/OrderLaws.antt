-- What the order is, without a walk.
--   targets xs i            the images that image i needs, entry by entry; or the first fault
--   all_targets xs is       those of several images, in order
--   tables_after xs is ts   the tables of several images, after others
--   firsts js               numbers, each only where it occurs first
--   IsBreadthFirst xs o     the order is image 0 and what all images of the order need, each only where it occurs first
--   IsShort xs o            no image is in the order twice, so it has no more images than there are
--   IsReached xs o p        the image at place p of the order is needed by an image before it
--   IsMissing xs i k        DT_NEEDED entry k of image i has a name that no image has
use Rattle.std.specs.Prelude.{◌≡◌, ℕ, ◌+◌, ◌<◌, ◌≤◌, true, false, List, [], ◌∷◌, ◌++◌, length, Some, Result, Ok, Err, slice_get, get_or, bytes_eq, nat_eq, All}
use Rattle.std.specs.List.{IsDistinct}
use Rattle.wild_hashes.specs.declared.tables.ImageTables.{ImageTables}
use Rattle.wild_hashes.specs.ImageTables.{text_at}
use Rattle.wild_imports.specs.Imports.{needed_offsets}
use Rattle.wild_space.specs.declared.fault.BindFault.{BindFault}
use Rattle.wild_space.specs.declared.fault.BindFault.TheVariants as faults
use Rattle.wild_space.specs.declared.image.NamedImage.{NamedImage}
use Rattle.wild_space.specs.Given.{◌>>=◌}
use Rattle.wild_space.specs.Order.{bytes_at, tables_of, target, has, with_image, order_of}

-- the images that entries from number k on name
unfoldable pub targets_from : List NamedImage → ℕ → ImageTables → ℕ → List ℕ → Result (List ℕ) BindFault
targets_from xs i t k [] = Ok []
targets_from xs i t k (at ∷ ats) = target xs i t k at >>= λ j. targets_from xs i t (k + 1) ats >>= λ js. Ok (j ∷ js)

-- the images that image i needs
unfoldable pub targets : List NamedImage → ℕ → Result (List ℕ) BindFault
targets xs i = tables_of xs i >>= λ t. targets_from xs i t 0 (needed_offsets (bytes_at xs i) t)

-- the images that several images need, in order
unfoldable pub all_targets : List NamedImage → List ℕ → Result (List ℕ) BindFault
all_targets xs [] = Ok []
all_targets xs (i ∷ is) = targets xs i >>= λ js. all_targets xs is >>= λ rest. Ok (js ++ rest)

-- the tables of images, after others
unfoldable pub tables_after : List NamedImage → List ℕ → List ImageTables → Result (List ImageTables) BindFault
tables_after xs [] ts = Ok ts
tables_after xs (i ∷ is) ts = tables_of xs i >>= λ t. tables_after xs is (ts ++ t ∷ [])

-- an order, and after it numbers that are not in it yet, each only where it occurs first
abbrev pub firsts_after : List ℕ → List ℕ → List ℕ
firsts_after order [] = order
firsts_after order (j ∷ js) = firsts_after (with_image order j) js

abbrev pub firsts : List ℕ → List ℕ
firsts js = firsts_after [] js

-- the order is image 0 and what all images of the order need, each only where it occurs first
pub record IsBreadthFirst (xs : List NamedImage) (order : List ℕ) : Type 0 where
  pub needed : List ℕ
  pub are : all_targets xs order ≡ Ok needed
  pub is : order ≡ firsts (0 ∷ needed)

-- no image is in it twice, so it has no more images than there are
pub record IsShort (xs : List NamedImage) (order : List ℕ) : Type 0 where
  pub distinct : IsDistinct nat_eq order
  pub few : length order ≤ length xs

abbrev pub OrdersAreBreadthFirst : Type 0
OrdersAreBreadthFirst = (xs : List NamedImage) (order : List ℕ) → 1 ≤ length xs → order_of xs ≡ Ok order → IsBreadthFirst xs order

abbrev pub OrdersAreShort : Type 0
OrdersAreShort = (xs : List NamedImage) (order : List ℕ) → 1 ≤ length xs → order_of xs ≡ Ok order → IsShort xs order

-- the image at place p is needed by an image before it
pub record IsReached (xs : List NamedImage) (order : List ℕ) (p : ℕ) : Type 0 where
  pub place : ℕ
  pub before : place < p
  pub needed : List ℕ
  pub are : targets xs (get_or order place 0) ≡ Ok needed
  pub has_it : has needed (get_or order p 0) ≡ true

-- so is each image but the first
abbrev pub OrdersAreReached : Type 0
OrdersAreReached = (xs : List NamedImage) (order : List ℕ) → 1 ≤ length xs → order_of xs ≡ Ok order → (p : ℕ) → 1 ≤ p → p < length order → IsReached xs order p

-- DT_NEEDED entry k of image i has a name that no image has
pub record IsMissing (xs : List NamedImage) (i k : ℕ) : Type 0 where
  pub tables : ImageTables
  pub opened : tables_of xs i ≡ Ok tables
  pub at : ℕ
  pub entry : slice_get (needed_offsets (bytes_at xs i) tables) k ≡ Some at
  pub name : List ℕ
  pub text : text_at (bytes_at xs i) tables at ≡ Ok name
  pub none : All (λ (x : NamedImage). bytes_eq x.name name ≡ false) xs

abbrev pub MissingIsMissing : Type 0
MissingIsMissing = (xs : List NamedImage) (i k : ℕ) → order_of xs ≡ Err (faults.Missing i k) → IsMissing xs i k
