-- The input of the decision on each relocation: bytes of input files, with their relocations, at one address.
--   block_for l f s    the block of thunks that a section's branches use
--   item_with k s      the item of an input section whose branches use thunk block k
--   item_of l f s      the item of a file's section, with the block of its file
--   item_now i         the item to which a reference in the code refers
use Rattle.std.specs.Prelude.{ℕ, ◌==◌, if◌then◌else◌, List}
use Rattle.wild_types.specs.declared.input.InputRelocation.{InputRelocation}
use Rattle.wild_types.specs.declared.input.InputSection.{InputSection}
use Rattle.wild_types.specs.declared.item.ItemRef.{ItemRef}
use Rattle.wild_types.specs.declared.file.File.{File}
use Rattle.wild_types.specs.declared.layout.Layout.{Layout}

-- input bytes and their relocations, at an address of the layout; the flags are the input section's own (gABI, sh_flags); branches
-- whose target is out of range use the thunks of the block
pub record Item : Type 0 where
  pub address : ℕ
  pub flags : ℕ
  pub bytes : List ℕ
  pub relocations : List InputRelocation
  pub thunk_block : ℕ

-- the block of the file; block 0 outside the primary part
abbrev pub block_for : Layout → File → InputSection → ℕ
block_for l f s = if s.part == l.primary_part then f.thunk_block else 0

abbrev pub item_with : ℕ → InputSection → Item
item_with k s = record { address = s.address; flags = s.flags; bytes = s.bytes; relocations = s.relocations; thunk_block = k }

abbrev pub item_of : Layout → File → InputSection → Item
item_of l f s = item_with (block_for l f s) s

abbrev pub item_now : ItemRef → Item
item_now i = record { address = i.address; flags = i.flags; bytes = i.bytes.now; relocations = i.relocations.now; thunk_block = i.thunk_block }
