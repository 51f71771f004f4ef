-- The bytes of an image that loading leaves as they are.
--   IsFileByte l image a b   a loaded segment has byte b of the image at address a
--   is_filled_role r   a part of this role has slots or frames, which references are checked for
--   IsUnfilled l w a   the address is in no kept section, in no such part and in no copy
use Rattle.std.specs.Prelude.{◌≡◌, ℕ, ◌+◌, ◌-◌, ◌<◌, ◌≤◌, ◌⊎◌, Bool, true, false, length, List, [], ◌∷◌, Contains}
use Rattle.wild_words.specs.Words.{HasBytesAt}
use Rattle.wild_records.specs.Abi.Segment.{pt_load}
use Rattle.wild_types.specs.declared.part.Part.{Part}
use Rattle.wild_types.specs.declared.part.Role.{Role}
use Rattle.wild_types.specs.declared.part.Role.TheVariants as role
use Rattle.wild_types.specs.declared.section.Segment.{Segment}
use Rattle.wild_types.specs.declared.input.InputSection.{InputSection}
use Rattle.wild_types.specs.declared.layout.Layout.{Layout}
use Rattle.wild_loader.specs.declared.world.Answer.{Answer}
use Rattle.wild_loader.specs.declared.world.World.{World}
use Rattle.wild_meaning.specs.World.{HasCopy}
use Rattle.wild_meaning.specs.Item.{IsKeptSection}

-- a PT_LOAD segment of the layout has that byte of the image at the address, among its file bytes (gABI, "Program Header")
pub record IsFileByte (l : Layout) (image : List ℕ) (a b : ℕ) : Type 0 where
  pub segment : Segment
  pub listed : Contains l.segments segment
  pub loaded : segment.kind ≡ pt_load
  pub from : segment.address ≤ a
  pub within : a < segment.address + segment.file_size
  pub given : HasBytesAt image (segment.offset + (a - segment.address)) (b ∷ [])

-- the address is not in these bytes
abbrev pub IsOutside : ℕ → ℕ → ℕ → Type 0
IsOutside start size a = (a < start) ⊎ (start + size ≤ a)

-- the roles of parts with slots or frames
abbrev pub is_filled_role : Role → Bool
is_filled_role role.Got = true
is_filled_role role.GotRelr = true
is_filled_role role.EhFrame = true
is_filled_role other = false

-- No reference is checked for what is at the address. References determine the fields of kept sections and frames, and slots. The
-- other bytes there are the input's (`ItemHolds`).
pub record IsUnfilled (l : Layout) (w : World) (a : ℕ) : Type 0 where
  pub sections : (s : InputSection) → IsKeptSection l s → IsOutside s.address s.size a
  pub parts : (p : Part) → Contains l.parts p → is_filled_role p.role ≡ true → IsOutside p.address p.size a
  pub copies : (i raw : ℕ) (x : Answer) → HasCopy l w i raw x → IsOutside raw (length x.bytes) a
