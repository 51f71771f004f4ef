-- An item in memory, as decided: the result of loading an image, from which its references are proved.
--   IsDecided l s         each relocation of the item has a decision, and no two write the same byte
--   InNoSite l s k        no relocation writes byte k of the item
--   Stage                 before or after the entries of the image are applied
--   number_at stage w     the number at the place of an address that moves
--   HasDecision ..        relocation i has that decision
--   MakesChange p w ..    the change that a loader makes for an entry
--   ReadsFilledField p stage ..  the bytes of a field that is left to an entry
--   HasItem ..         memory has the item's values, its addresses, the fields left to entries, and its other bytes
use Rattle.std.specs.Prelude.{◌≡◌, ℕ, ◌+◌, ◌%◌, ◌^◌, ◌<◌, ◌≤◌, ◌⊎◌, Bool, if◌then◌else◌, List, [], length, replicate, Some, Ok, All, slice_index, slice_get}
use Rattle.std.specs.Int.{w64, cast_signed}
use Rattle.wild_words.specs.Words.{word}
use Rattle.wild_words.specs.Overlay.{Piece, AreDisjoint}
use Rattle.wild_records.specs.declared.relocations.Rela.{Rela}
use Rattle.wild_reloc.specs.Field.{size_width}
use Rattle.wild_types.specs.declared.input.InputRelocation.{InputRelocation}
use Rattle.wild_types.specs.Item.{Item}
use Rattle.wild_types.specs.declared.layout.Layout.{Layout}
use Rattle.wild_reloc.specs.declared.info.RelocationSize.{RelocationSize}
use Rattle.wild_layout.specs.declared.decision.Decision.{Decision}
use Rattle.wild_layout.specs.declared.decision.Decision.TheVariants.{Field, RelativeAddress, DynamicField, Rewritten}
use Rattle.wild_relax.specs.declared.row.Row.{Row}
use Rattle.wild_layout.specs.Decide.{decide}
use Rattle.wild_layout.specs.Sites.{field_site, template_site, sites}
use Rattle.wild_loader.specs.declared.memory.Memory.{Memory}
use Rattle.wild_loader.specs.declared.world.World.{World}
use Rattle.wild_loader.specs.declared.memory.Machine.{Machine as Processor}
use Rattle.wild_loader.specs.declared.change.Change.{Change}
use Rattle.wild_loader.specs.declared.change.Change.TheVariants as changes
use Rattle.wild_loader.specs.declared.kind.DynamicKind.{DynamicKind}
use Rattle.wild_loader.specs.Changes.{kind_of, change_of}
use Rattle.wild_loader.specs.Memory.{Holds, byte_in}
use Rattle.wild_meaning.specs.LinkedImage.{processor_of}

-- each relocation of the item has a decision, no fault, and no byte is written by two
pub record IsDecided (l : Layout) (s : Item) : Type 0 where
  pub each : (i : ℕ) → i < length s.relocations → (d : Decision) × (decide l s i ≡ Ok d)
  pub apart : AreDisjoint (length s.bytes) (sites l s)

-- no relocation writes byte k
abbrev pub InNoSite : Layout → Item → ℕ → Type 0
InNoSite l s k = All (λ (p : Piece). (k < p.at) ⊎ (p.at + length p.bytes ≤ k)) (sites l s)

-- memory before and after the entries of the image are applied
pub data Stage : Type 0 where
  InFile : Stage
  InMemory : Stage

-- The number at the place of an address v that moves with the base. In the file it is v for a packed place, and 0 for one with an
-- entry. In memory it is v plus the base (gABI, "Relative Relocation Table"; x86-64 psABI, R_X86_64_RELATIVE).
abbrev pub number_at : Stage → World → ℕ → Bool → ℕ
number_at InFile w v packed = if packed then v else 0
number_at InMemory w v packed = (v + w.base) % 2 ^ 64

-- an entry of that type, with an index in the dynamic symbol table and an addend modulo 2^64; its offset does not affect what it
-- stores
abbrev pub entry_with : ℕ → ℕ → ℕ → Rela
entry_with number symbol addend = record { offset = 0; number = number; symbol = symbol; addend = cast_signed w64 addend }

-- a loader of the processor makes that change for such an entry
pub record MakesChange (p : Processor) (w : World) (number symbol addend : ℕ) (c : Change) : Type 0 where
  pub kind : DynamicKind
  pub known : kind_of p number ≡ Some kind
  pub makes : change_of w kind (entry_with number symbol addend) ≡ Ok c

-- the bytes of a change that stores a number
abbrev pub stored_bytes : Change → List ℕ
stored_bytes (changes.Word v) = word 8 v
stored_bytes (changes.Half v) = word 4 v
stored_bytes other = []

-- the bytes of a field of that size that is left to such an entry: 0 in the file, and in memory the number that the entry stores
abbrev pub ReadsFilledField : Processor → Stage → World → RelocationSize → (number symbol addend : ℕ) → List ℕ → Type 0
ReadsFilledField p InFile w z number symbol addend bs = bs ≡ replicate (size_width z) 0
ReadsFilledField p InMemory w z number symbol addend bs = (c : Change) × MakesChange p w number symbol addend c × (bs ≡ stored_bytes c) × (length bs ≡ size_width z)

-- relocation i of the item has that decision
pub record HasDecision (l : Layout) (s : Item) (i : ℕ) (r : InputRelocation) (d : Decision) : Type 0 where
  pub listed : slice_get s.relocations i ≡ Some r
  pub decided : decide l s i ≡ Ok d

-- Memory has an item as decided, at its address plus the base:
-- - each value in its field, and each address that moves as eight bytes;
-- - each field that is left to an entry;
-- - each rewritten instruction as its row writes it;
-- - every byte that no relocation writes as in the input.
pub record HasItem (l : Layout) (w : World) (m : Memory) (s : Item) (stage : Stage) : Type 0 where
  pub ends : 1 ≤ length s.bytes → w.base + s.address + length s.bytes ≤ 2 ^ 64
  pub values : (i : ℕ) (r : InputRelocation) (z : RelocationSize) (v : ℕ) → HasDecision l s i r (Field z v) → Holds m (w.base + s.address + r.offset) (field_site s r.offset z v).bytes
  pub addresses : (i : ℕ) (r : InputRelocation) (v : ℕ) (packed : Bool) → HasDecision l s i r (RelativeAddress v packed) → Holds m (w.base + s.address + r.offset) (word 8 (number_at stage w v packed))
  pub left : (i : ℕ) (r : InputRelocation) (z : RelocationSize) (number symbol addend : ℕ) → HasDecision l s i r (DynamicField z number symbol addend)
      → (bs : List ℕ) × Holds m (w.base + s.address + r.offset) bs × ReadsFilledField (processor_of l.machine) stage w z number symbol addend bs
  pub rewritten : (i : ℕ) (r : InputRelocation) (row : Row) (v : ℕ) → HasDecision l s i r (Rewritten row v) → Holds m (w.base + s.address + (template_site s r row v).at) (template_site s r row v).bytes
  pub others : (k : ℕ) → k < length s.bytes → InNoSite l s k → byte_in m (w.base + s.address + k) ≡ Some (slice_index s.bytes k)
