-- Images of the worked program with a copied symbol that are refused in its world.
--   CopyingWorldIsLegal   the world is legal, and the bytes to copy are not all 0
--   RoomlessWorldIsLegal  a layout without room for the symbol has a legal world too
--   WrongCopyIsRefused    a wrong copied byte
--   ..                    each other law names one kind of wrong memory or image
use Rattle.std.specs.Prelude.{◌≡◌, ◌≢◌, ℕ, List, []}
use Rattle.wild_records.specs.Abi.Header.{et_dyn}
use Rattle.wild_records.specs.FileHeader.{file_header_at}
use Rattle.wild_loader.specs.declared.memory.Machine.TheVariants as processors
use Rattle.wild_meaning.specs.World.{IsLegal, IsPastFileBytes, HasCopy}
use Rattle.wild_meaning.specs.LinkedImage.{DescribesOutput}
use Rattle.wild_meaning.specs.Worked.Builders.{IsRightImage, Refuses}
use Rattle.wild_meaning.specs.Worked.Copy.{copying_layout, copying_world, copied_answer, roomless_layout, roomless_world, answer_with}
use Rattle.wild_meaning.specs.Worked.CopyImage.{copying_image}
use Rattle.wild_meaning.specs.Worked.Refusals.{HasWrongNumber, HasWrongByte}

-- the world is legal, and the bytes to copy are not all 0
pub record CopyingWorldIsLegal : Type 0 where
  pub legal : IsLegal copying_layout copying_world
  pub copied : HasCopy copying_layout copying_world 0 0x3100 copied_answer

-- if there is no memory after file bytes, a world in which the library has no bytes of the symbol is legal
pub record RoomlessWorldIsLegal : Type 0 where
  pub roomless : (a : ℕ) → IsPastFileBytes roomless_layout a → ⊥
  pub legal : IsLegal roomless_layout roomless_world
  pub copied : HasCopy roomless_layout roomless_world 0 0x3100 (answer_with [])

-- a copied byte
abbrev pub WrongCopyIsRefused : Type 0
WrongCopyIsRefused = Refuses copying_layout copying_world (HasWrongByte 0x23103 4)

-- a byte outside every copy, in a section without data
abbrev pub WrongZeroIsRefused : Type 0
WrongZeroIsRefused = Refuses copying_layout copying_world (HasWrongByte 0x23080 0)

-- the address of the copied symbol is that of its copy
abbrev pub WrongPlaceOfCopyIsRefused : Type 0
WrongPlaceOfCopyIsRefused = Refuses copying_layout copying_world (HasWrongNumber 0x21000 8 0x23100)

-- an image of another machine
abbrev pub WrongMachineIsRefused : Type 0
WrongMachineIsRefused = Refuses copying_layout copying_world (λ m. m.machine ≡ processors.AArch64)

-- a file header whose type allows any base, and whose entry is at a symbol
pub record WrongHeadersAreRefused : Type 0 where
  pub begin : (image : List ℕ) → DescribesOutput copying_layout image → (file_header_at image 0).entry ≢ 0x1100 → ⊥
  pub kind : (image : List ℕ) → DescribesOutput copying_layout image → (file_header_at image 0).file_type ≢ et_dyn → ⊥

-- an image is linked in the world, so the refusals are not vacuous
abbrev pub CopyingImageIsLinked : Type 0
CopyingImageIsLinked = IsRightImage copying_layout copying_world copying_image
