-- Images of the worked AArch64 program that are refused in its world.
--   WordsWorldIsLegal            the world is legal
--   WrongCodeOfWordsIsRefused    a slot, a thunk, a branch with an addend and a descriptor call, each with one wrong word
--   WordsImageIsLinked           an image that is linked
use Rattle.std.specs.Prelude.{ℕ, List, [], ◌∷◌}
use Rattle.wild_loader.specs.declared.memory.Memory.{Memory}
use Rattle.wild_loader.specs.Memory.{Holds}
use Rattle.wild_meaning.specs.World.{IsLegal}
use Rattle.wild_meaning.specs.Worked.Builders.{IsRightImage, Refuses}
use Rattle.wild_meaning.specs.Worked.AArch64.{words_static, words_world}
use Rattle.wild_meaning.specs.Worked.AArch64Image.{words_image}
use Rattle.wild_meaning.specs.Worked.StaticRefusals.{MemoryHas}

abbrev pub WordsWorldIsLegal : Type 0
WordsWorldIsLegal = IsLegal words_static words_world

-- `adrp x0; ldr x0, [x0]` of the word after the function's slot
abbrev pub slot_behind : List ℕ
slot_behind = 0 ∷ 0 ∷ 0 ∷ 0x90 ∷ 0 ∷ 0x44 ∷ 0x40 ∷ 0xf9 ∷ []

-- `bl` to the thunk
abbrev pub call_of_thunk : List ℕ
call_of_thunk = 0x10 ∷ 0 ∷ 0 ∷ 0x94 ∷ []

-- a thunk that jumps to the page after the function's
abbrev pub far_thunk : List ℕ
far_thunk = 0x10 ∷ 0 ∷ 0 ∷ 0xb0 ∷ 0x10 ∷ 0x02 ∷ 0x08 ∷ 0x91 ∷ 0 ∷ 0x02 ∷ 0x1f ∷ 0xd6 ∷ []

-- code in the thunk's place that jumps to the address in the function's slot: `adrp x16; ldr x17, [x16]; br x17`
abbrev pub stored_thunk : List ℕ
stored_thunk = 0x10 ∷ 0 ∷ 0 ∷ 0x90 ∷ 0x11 ∷ 0x42 ∷ 0x40 ∷ 0xf9 ∷ 0x20 ∷ 0x02 ∷ 0x1f ∷ 0xd6 ∷ []

-- `bl` to the thunk from the next word, and the thunk, which jumps to the function itself
abbrev pub next_call_of_thunk : List ℕ
next_call_of_thunk = 0x0f ∷ 0 ∷ 0 ∷ 0x94 ∷ []

abbrev pub right_thunk : List ℕ
right_thunk = 0x10 ∷ 0 ∷ 0 ∷ 0x90 ∷ 0x10 ∷ 0x02 ∷ 0x08 ∷ 0x91 ∷ 0 ∷ 0x02 ∷ 0x1f ∷ 0xd6 ∷ []

-- `nop; nop; movz x0, lsl 16`, and the original call
abbrev pub half_call : List ℕ
half_call = 0x1f ∷ 0x20 ∷ 0x03 ∷ 0xd5 ∷ 0x1f ∷ 0x20 ∷ 0x03 ∷ 0xd5 ∷ 0 ∷ 0 ∷ 0xa0 ∷ 0xd2 ∷ 0x20 ∷ 0 ∷ 0x3f ∷ 0xd6 ∷ []

-- `nop; nop; movz x0, #0x18, lsl 16; movk x0, #0`
abbrev pub low_half : List ℕ
low_half = 0x1f ∷ 0x20 ∷ 0x03 ∷ 0xd5 ∷ 0x1f ∷ 0x20 ∷ 0x03 ∷ 0xd5 ∷ 0 ∷ 0x03 ∷ 0xa0 ∷ 0xd2 ∷ 0 ∷ 0 ∷ 0x80 ∷ 0xf2 ∷ []

-- `nop; nop; adrp x0; ldr x0, [x0]` of a word that is no slot of the symbol, whatever its content
abbrev pub load_of_word : List ℕ
load_of_word = 0x1f ∷ 0x20 ∷ 0x03 ∷ 0xd5 ∷ 0x1f ∷ 0x20 ∷ 0x03 ∷ 0xd5 ∷ 0 ∷ 0 ∷ 0 ∷ 0x90 ∷ 0 ∷ 0x40 ∷ 0x40 ∷ 0xf9 ∷ []

-- `nop; adr x0` of the instruction after the function's first one
abbrev pub address_past : List ℕ
address_past = 0x1f ∷ 0x20 ∷ 0x03 ∷ 0xd5 ∷ 0 ∷ 0x0e ∷ 0 ∷ 0x10 ∷ []

-- bytes at one address, and others at another one
pub record HasBoth (a : ℕ) (bs : List ℕ) (b : ℕ) (cs : List ℕ) (m : Memory) : Type 0 where
  pub one : Holds m a bs
  pub other : Holds m b cs

-- Refused are:
-- - a load from another slot than the symbol's;
-- - a thunk one page off, and one that reads its target in a word;
-- - a branch with an addend through a thunk, which does not add it;
-- - a descriptor call that is rewritten by half;
-- - one with the low half of the offset where `movz` has the high one;
-- - one that loads the offset from a word which is no slot of the symbol;
-- - an address in two instructions that is another than the symbol's.
pub record WrongCodeOfWordsIsRefused : Type 0 where
  pub slot : Refuses words_static words_world (MemoryHas 0x11010 slot_behind)
  pub thunk : Refuses words_static words_world (HasBoth 0x11020 call_of_thunk 0x11060 far_thunk)
  pub stored : Refuses words_static words_world (HasBoth 0x11020 call_of_thunk 0x11060 stored_thunk)
  pub addend : Refuses words_static words_world (HasBoth 0x11024 next_call_of_thunk 0x11060 right_thunk)
  pub half : Refuses words_static words_world (MemoryHas 0x11030 half_call)
  pub low : Refuses words_static words_world (MemoryHas 0x11030 low_half)
  pub word : Refuses words_static words_world (MemoryHas 0x11030 load_of_word)
  pub address : Refuses words_static words_world (MemoryHas 0x11040 address_past)

-- an image is linked in the world, so the refusals are not vacuous
abbrev pub WordsImageIsLinked : Type 0
WordsImageIsLinked = IsRightImage words_static words_world words_image
