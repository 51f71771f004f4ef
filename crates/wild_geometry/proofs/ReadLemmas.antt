-- What the slot of a section says of its relocations.
use Rattle.wild_geometry.proofs.Common.{◌≡◌, true, false, refl, not, ◌&&◌, and_parts, Slot, InputSection, is_read, is_loaded, is_frame, has_relocations, has_fields}
use Rattle.wild_types.specs.declared.input.Slot.TheVariants as slot
use Rattle.wild_types.specs.Lookups.{has_written_relocations, is_debug}

-- where a loader may apply relocations, they are written
fields_of : (k : Slot) → has_relocations k ≡ true → has_fields k ≡ true
fields_of slot.Loaded h = refl
fields_of slot.Frame h = refl
fields_of other h = cc

pub read_fields : (s : InputSection) → is_read s ≡ true → has_fields s.slot ≡ true
read_fields s read = fields_of s.slot (and_parts (has_relocations s.slot) (not s.nobits) read).0

pub read_written : (s : InputSection) → is_read s ≡ true → has_written_relocations s ≡ true
read_written s read = rw (read_fields s read) (and_parts (has_relocations s.slot) (not s.nobits) read).1

-- debuggers do not read it
plain_slot : (k : Slot) → has_relocations k ≡ true → is_debug k ≡ false
plain_slot slot.Loaded h = refl
plain_slot slot.Frame h = refl
plain_slot other h = cc

pub read_plain : (s : InputSection) → is_read s ≡ true → is_debug s.slot ≡ false
read_plain s read = plain_slot s.slot (and_parts (has_relocations s.slot) (not s.nobits) read).0

-- such a section that is none of frames is loaded
loaded_slot : (k : Slot) → has_relocations k ≡ true → is_frame k ≡ false → is_loaded k ≡ true
loaded_slot slot.Loaded h p = refl
loaded_slot slot.Frame h p = cc
loaded_slot other h p = cc

pub read_loaded : (s : InputSection) → is_read s ≡ true → is_frame s.slot ≡ false → is_loaded s.slot ≡ true
read_loaded s read plain = loaded_slot s.slot (and_parts (has_relocations s.slot) (not s.nobits) read).0 plain

pub loaded_is : (k : Slot) → is_loaded k ≡ true → k ≡ slot.Loaded
loaded_is slot.Loaded h = refl
loaded_is other h = cc
