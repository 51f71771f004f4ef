-- Memory of a worked layout that is wrong in one place, and that no linked image is loaded so.
--   HasWrongNumber place n right m   the n bytes at a place are not the right number
--   NamesWrongWord place n x ..      a field names a slot, and the word there is not the right one
use Rattle.std.specs.Prelude.{◌≡◌, ◌≢◌, ℕ, ◌+◌, [], ◌∷◌, Some}
use Rattle.wild_loader.specs.declared.memory.Memory.{Memory}
use Rattle.wild_loader.specs.Memory.{byte_in, number_in}
use Rattle.wild_meaning.specs.Slot.{HasWord}

-- the n bytes at a place are not the right number
pub record HasWrongNumber (place n right : ℕ) (m : Memory) : Type 0 where
  pub number : ℕ
  pub there : number_in m place n ≡ Some number
  pub wrong : number ≢ right

-- the n bytes at a place are x, which names a slot, and the word there is not the right one
pub record NamesWrongWord (place n x slot right : ℕ) (m : Memory) : Type 0 where
  pub field : number_in m place n ≡ Some x
  pub word : ℕ
  pub there : HasWord m slot word
  pub wrong : word ≢ right

-- a field names a pair, and the module in it is not the right one for the offset there
pub record NamesWrongModule (place x slot right offset : ℕ) (m : Memory) : Type 0 where
  pub field : number_in m place 4 ≡ Some x
  pub owner : ℕ
  pub first : HasWord m slot owner
  pub second : HasWord m (slot + 8) offset
  pub wrong : owner ≢ right

-- a field names the only descriptor, and the offset that the loader noted for it is not the right one
pub record NamesWrongDescriptor (place x slot right : ℕ) (m : Memory) : Type 0 where
  pub field : number_in m place 4 ≡ Some x
  pub offset : ℕ
  pub there : m.descriptors ≡ (slot, offset) ∷ []
  pub wrong : offset ≢ right

-- the byte at an address is not the right one
pub record HasWrongByte (place right : ℕ) (m : Memory) : Type 0 where
  pub byte : ℕ
  pub there : byte_in m place ≡ Some byte
  pub wrong : byte ≢ right
