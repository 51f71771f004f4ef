-- The memory of an image after its tables were applied.
--   HasApplied l w m   memory has the change of each place and each entry, and every other byte is as before
--   HasLoadedMemory l w m     memory has each kept item as decided, the slots, stubs and thunks, copies, and zeros where they were
use Rattle.std.specs.Prelude.{◌≡◌, ℕ, ◌+◌, ◌<◌, ◌++◌, Some, All}
use Rattle.wild_records.specs.declared.relocations.Rela.{Rela}
use Rattle.wild_types.specs.Item.{Item}
use Rattle.wild_types.specs.declared.input.InputSection.{InputSection}
use Rattle.wild_types.specs.declared.layout.Layout.{Layout}
use Rattle.wild_geometry.specs.Slots.{HasSlots}
use Rattle.wild_geometry.specs.Thunks.{HasThunks}
use Rattle.wild_geometry.specs.Loaded.{HasItem, InMemory}
use Rattle.wild_layout.specs.Image.{bytes}
use Rattle.wild_loader.specs.declared.change.Patch.{Patch}
use Rattle.wild_loader.specs.declared.memory.Memory.{Memory}
use Rattle.wild_loader.specs.declared.world.World.{World}
use Rattle.wild_loader.specs.declared.world.Answer.{Answer}
use Rattle.wild_loader.specs.Changes.{first_value}
use Rattle.wild_loader.specs.Memory.{byte_in, Holds}
use Rattle.wild_loader.specs.Places.{places}
use Rattle.wild_loader.specs.Relocate.{runs_of_patches}
use Rattle.wild_loader.specs.SegmentLaws.{IsOutsideRun}
use Rattle.wild_loader.specs.EntryLaws.{patches_of}
use Rattle.wild_meaning.specs.Section.{HasFileBytes}
use Rattle.wild_meaning.specs.World.{IsPastFileBytes, HasCopy}
use Rattle.wild_meaning.specs.Item.{IsKept}
use Rattle.wild_meaning.specs.Unfilled.{IsFileByte, IsUnfilled}
use Rattle.wild_meaning.specs.LinkedImage.{IsSectionWithoutData, IsNotCopied, HoldsTexts, processor_of}
use Rattle.wild_loaded.specs.Memory.{image_memory}
use Rattle.wild_loaded.specs.Tables.{tables_of}
use Rattle.wild_loaded.specs.Words.{place_change, entry_change}

-- memory has the bytes of a change, and its descriptor if it notes one
pub record IsMade (m : Memory) (p : Patch) : Type 0 where
  pub held : Holds m p.run.start p.run.bytes
  pub noted : (o : ℕ) → p.offset ≡ Some o → first_value m.descriptors p.run.start ≡ Some o

-- memory has the change of each packed place and each entry over the loaded segments, and every other byte is as before
pub record HasApplied (l : Layout) (w : World) (m : Memory) : Type 0 where
  pub machine : m.machine ≡ processor_of l.machine
  pub words : All (λ x. IsMade m (place_change w (image_memory l w) x)) (places (tables_of l).words)
  pub entries : All (λ (e : Rela). IsMade m (entry_change w (image_memory l w) e)) ((tables_of l).entries ++ (tables_of l).jumps)
  pub others : (a : ℕ) → All (IsOutsideRun a) (runs_of_patches (patches_of (tables_of l) (place_change w (image_memory l w)) (entry_change w (image_memory l w)))) → byte_in m a ≡ byte_in (image_memory l w) a

-- Memory has each kept item, with the base added to its addresses and with the fields that entries fill; the slots, stubs and
-- thunks; copies of symbols; merged strings and the interpreter's path; and each byte of the file that nothing fills. Otherwise it
-- is zero after the file bytes of segments, and in sections without data.
pub record HasLoadedMemory (l : Layout) (w : World) (m : Memory) : Type 0 where
  pub items : (item : Item) → IsKept l item → HasItem l w m item InMemory
  pub slots : HasSlots l w m
  pub thunks : HasThunks l w m
  pub zeros : (a : ℕ) → IsPastFileBytes l a → IsNotCopied l w a → byte_in m (w.base + a) ≡ Some 0
  pub blanks : (s : InputSection) (k : ℕ) → IsSectionWithoutData l s → HasFileBytes l s.part → k < s.size → byte_in m (w.base + (s.address + k)) ≡ Some 0
  pub copies : (i raw : ℕ) (x : Answer) → HasCopy l w i raw x → Holds m (w.base + raw) x.bytes
  pub texts : HoldsTexts l w m
  pub still : (a b : ℕ) → IsFileByte l (bytes l) a b → IsUnfilled l w a → byte_in m (w.base + a) ≡ Some b
