-- Checks of references to merged strings, and of references in reversed words.
--   StringsWorldIsLegal     the world of the program without a dynamic linker is legal for this one
--   StringsAreJudged        a reference to the middle of a string
--   ReversedWordsAreJudged  two reversed words
--   TextsAreJudged          the bytes of merged strings, and of the interpreter's path
--   StringsImageIsLinked    an image is linked in that world
use Rattle.wild_meaning.specs.World.{IsLegal}
use Rattle.wild_meaning.specs.Reference.{ReferenceHolds}
use Rattle.wild_meaning.specs.Worked.Refusals.{HasWrongNumber, HasWrongByte}
use Rattle.wild_meaning.specs.Worked.Builders.{IsRightImage, Refuses}
use Rattle.wild_meaning.specs.Worked.Static.{static_pie_world}
use Rattle.wild_meaning.specs.Worked.Strings.{strings_layout, strings_memory, pointer_item, string_reference}
use Rattle.wild_meaning.specs.Worked.StringImage.{strings_image}

abbrev pub StringsWorldIsLegal : Type 0
StringsWorldIsLegal = IsLegal strings_layout static_pie_world

-- A reference to the middle of a string holds if the field is that byte's address. No image is linked if it is another number,
-- such as the address of the string's end, or of that byte relative to the first string.
pub record StringsAreJudged : Type 0 where
  pub found : ReferenceHolds strings_layout static_pie_world strings_memory pointer_item string_reference
  pub wrong : Refuses strings_layout static_pie_world (HasWrongNumber 0x41100 8 0x41122)

-- no image is linked if the address is not in the last of two reversed words, or if the first word does not have the bytes of the
-- other
pub record ReversedWordsAreJudged : Type 0 where
  pub address : Refuses strings_layout static_pie_world (HasWrongNumber 0x41118 8 0x41210)
  pub other : Refuses strings_layout static_pie_world (HasWrongByte 0x41110 7)

-- no image is linked if a byte of a merged string, or of the interpreter's path, is another one
pub record TextsAreJudged : Type 0 where
  pub string : Refuses strings_layout static_pie_world (HasWrongByte 0x41125 0x6e)
  pub path : Refuses strings_layout static_pie_world (HasWrongByte 0x4112a 0x6c)

-- an image is linked in the world, so the refusals are not vacuous
abbrev pub StringsImageIsLinked : Type 0
StringsImageIsLinked = IsRightImage strings_layout static_pie_world strings_image
