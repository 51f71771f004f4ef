-- Slots and stubs in memory: the result of loading an image, from which references through them are proved.
--   IsLoadedWord ..         x is the loaded value of a slot's word at a place
--   HasWords ..             memory has these words from an address on
--   HasSymbolSlots ..       memory has the slots of a symbol, and its stub
--   HasSlots l w m          it has those of each symbol, and the pair of the output's own thread-local data
use Rattle.std.specs.Prelude.{◌≡◌, ℕ, ◌+◌, ◌*◌, ◌%◌, ◌^◌, ◌<◌, List, length, Some, None, Ok, slice_get, slice_index_or}
use Rattle.wild_types.specs.declared.symbol.Symbol.{Symbol}
use Rattle.wild_types.specs.declared.layout.Layout.{Layout}
use Rattle.wild_slot.specs.declared.slot.SlotEntry.{SlotEntry}
use Rattle.wild_slot.specs.declared.slot.SlotWord.{SlotWord}
use Rattle.wild_slot.specs.declared.slot.SlotWord.TheVariants.{Number, Address, InRelrGot, General, Plt}
use Rattle.wild_types.specs.SymbolSlots.{got_of, plt_of}
use Rattle.wild_slot.specs.SymbolWords.{slots_of}
use Rattle.wild_needs.specs.SlotShares.{storage_words}
use Rattle.wild_loader.specs.declared.memory.Memory.{Memory}
use Rattle.wild_loader.specs.declared.world.World.{World}
use Rattle.wild_loader.specs.declared.change.Change.{Change}
use Rattle.wild_loader.specs.declared.change.Change.TheVariants as changes
use Rattle.wild_loader.specs.Changes.{first_value, change_of}
use Rattle.wild_loader.specs.Memory.{Holds, number_in}
use Rattle.wild_geometry.specs.EntryKinds.{loaded_kind}
use Rattle.wild_geometry.specs.Loaded.{entry_with}
use Rattle.wild_slot.specs.MachineStub.{stub_in}

-- the value of a word after a change: the number that it stores; for a descriptor, which is two words, the offset is noted
abbrev pub IsWordAfterChange : Memory → ℕ → Change → ℕ → Type 0
IsWordAfterChange m place (changes.Word v) x = x ≡ v
IsWordAfterChange m place (changes.Descriptor o) x = first_value m.descriptors place ≡ Some o
IsWordAfterChange m place other x = ⊥

-- an entry fills the word with the change that the loader of the memory's machine makes for its kind, whatever its type
pub record IsFilledBy (w : World) (m : Memory) (place : ℕ) (e : SlotEntry) (x : ℕ) : Type 0 where
  pub change : Change
  pub makes : change_of w (loaded_kind m.machine e.kind) (entry_with 0 e.symbol e.addend) ≡ Ok change
  pub leaves : IsWordAfterChange m place change x

-- the loaded value of a word: a number is unchanged, the base is added to an address, an entry fills its word
abbrev pub IsLoadedWord : World → Memory → ℕ → SlotWord → ℕ → Type 0
IsLoadedWord w m place (Number n) x = x ≡ n
IsLoadedWord w m place (Address a) x = x ≡ (a + w.base) % 2 ^ 64
IsLoadedWord w m place (InRelrGot a) x = x ≡ (a + w.base) % 2 ^ 64
IsLoadedWord w m place (General e) x = IsFilledBy w m place e x
IsLoadedWord w m place (Plt e) x = IsFilledBy w m place e x

-- memory has such words from an address of the image on
abbrev pub HasWords : World → Memory → ℕ → List SlotWord → Type 0
HasWords w m at ws = (k : ℕ) (d : SlotWord) → k < length ws → (x : ℕ) × (number_in m (w.base + at + 8 * k) 8 ≡ Some x) × IsLoadedWord w m (w.base + at + 8 * k) (slice_index_or ws k d) x

-- the slots of a symbol have no fault and are in memory from their address on, and its stub is at its address in the layout
pub record HasSymbolSlots (l : Layout) (w : World) (m : Memory) (s : Symbol) (at : ℕ) : Type 0 where
  pub whole : (slots_of l s).fault ≡ None
  pub words : HasWords w m at (slots_of l s).words
  pub stub : (p : ℕ) → plt_of s ≡ Some p → Holds m (w.base + p) (stub_in l at p).bytes

-- each symbol with slots has them, and memory has the pair of the output's own thread-local data if the layout has one
pub record HasSlots (l : Layout) (w : World) (m : Memory) : Type 0 where
  pub symbols : (i at : ℕ) (s : Symbol) → slice_get l.symbols i ≡ Some s → got_of s ≡ Some at → HasSymbolSlots l w m s at
  pub pair : (at : ℕ) → l.tlsld ≡ Some at → HasWords w m at (storage_words l)
