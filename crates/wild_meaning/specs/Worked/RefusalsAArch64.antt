-- AArch64 code with the required effect, and code with one wrong word.
--   Does, DoesNot ..       loaded bytes have the effect that an instruction of the input requires, or do not
--   RightWordsDo           correct rewrites
--   WrongWordsAreRefused   wrong rewrites
--   CutBitsAreRefused      a value out of range for its field, whatever the memory holds
--   SlotAddendsAreRefused  an addend in a reference to a symbol's slot
--   NegatedMovesAreUnknown `movn` is no instruction of a reference
--   ShiftedAddsAreUnknown  `add` of a shifted number is not the second word of a page pair
--   PairsAreExcepted       the low bits of an address are checked at the same bases as its page
use Rattle.std.specs.Prelude.{◌≡◌, ◌≢◌, ℕ, ◌+◌, ◌-◌, ◌%◌, ◌^◌, ◌<◌, ◌≤◌, true, false, List, [], ◌∷◌, Some, None}
use Rattle.std.specs.Int.{w64, cast_unsigned}
use Rattle.std.specs.List.{flat_map}
use Rattle.wild_words.specs.Words.{word}
use Rattle.wild_records.specs.Abi.Section.{shf_execinstr}
use Rattle.wild_records.specs.Abi.Relocation.{r_aarch64_movw_uabs_g0, r_aarch64_adr_prel_lo21, r_aarch64_adr_got_page, r_aarch64_ld64_got_lo12_nc, r_aarch64_tlsle_movw_tprel_g1}
use Rattle.wild_types.specs.declared.kind.Machine.TheVariants as machine
use Rattle.wild_types.specs.declared.input.InputRelocation.{InputRelocation}
use Rattle.wild_types.specs.declared.layout.Layout.{Layout}
use Rattle.wild_loader.specs.declared.memory.Machine.TheVariants as processors
use Rattle.wild_loader.specs.declared.memory.Memory.{Memory}
use Rattle.wild_loader.specs.declared.world.World.{World}
use Rattle.wild_loader.specs.Memory.{number_in, Holds}
use Rattle.wild_loader.specs.Reach.{Reaches}
use Rattle.wild_types.specs.Item.{Item}
use Rattle.wild_aarch64.specs.Slice.{has_fixed_bits}
use Rattle.wild_aarch64.specs.Forms.{add_shifted, movn}
use Rattle.wild_meaning.specs.WordsAArch64.{is_filled}
use Rattle.wild_meaning.specs.World.{IsMovable}
use Rattle.wild_meaning.specs.Value.{IsAbsolute}
use Rattle.wild_meaning.specs.Item.{place_at}
use Rattle.wild_meaning.specs.Sequence.{FieldBits, Instruction, of_word, descriptor_call_words, offset_pair_words, address_pair_words}
use Rattle.wild_meaning.specs.Template.{IsTemplate, reads, reads_without_calls, DoesWith}
use Rattle.wild_meaning.specs.Reference.{ReferenceHolds, IsCheckedAtZeroOnly}

-- code of these words, without relocations
abbrev pub code_of : ℕ → List ℕ → Item
code_of address ws = record { address = address; flags = shf_execinstr; bytes = flat_map (word 4) ws; relocations = []; thunk_block = 0 }

-- the words in memory, in place of the item's, have the effect that its instruction requires for an operand with the value v
abbrev pub Does : Item → Instruction → ℕ → List ℕ → Type 0
Does item o v ws = (l : Layout) (w : World) (m : Memory) → l.machine ≡ machine.AArch64 → w.base ≡ 0 → Holds m item.address (flat_map (word 4) ws) → DoesWith (reads_without_calls w m) l w m item 0 o v

abbrev pub DoesNot : Item → Instruction → ℕ → List ℕ → Type 0
DoesNot item o v ws = (l : Layout) (w : World) (m : Memory) → l.machine ≡ machine.AArch64 → w.base ≡ 0 → Holds m item.address (flat_map (word 4) ws) → DoesWith (reads_without_calls w m) l w m item 0 o v → ⊥

-- `adrp x0; ldr x1, [x0]; add x0, x0; blr x1`, `adrp x0; ldr x0, [x0]` and `adrp x0; add x0, x0`
abbrev pub call_item : Item
call_item = code_of 0x10010 (0x90000000 ∷ 0xf9400001 ∷ 0x91000000 ∷ 0xd63f0020 ∷ [])

abbrev pub slot_item : Item
slot_item = code_of 0x10000 (0x90000000 ∷ 0xf9400000 ∷ [])

abbrev pub pair_item : Item
pair_item = code_of 0x10000 (0x90000000 ∷ 0x91000000 ∷ [])

-- `movz x0, lsl 16`, whose relocation type fills in bits of an offset
abbrev pub move_item : Item
move_item = code_of 0x10000 (0xd2a00000 ∷ [])

abbrev pub move_word : Instruction
move_word = of_word FieldBits r_aarch64_tlsle_movw_tprel_g1

-- `nop; nop; movz x0, lsl 16; movk x0, #0x18`, `nop; adr x0` of 0x10104, and `movz x0, #0x18, lsl 16`
pub record RightWordsDo : Type 0 where
  pub call : Does call_item descriptor_call_words 0x18 (0xd503201f ∷ 0xd503201f ∷ 0xd2a00000 ∷ 0xf2800300 ∷ [])
  pub pair : Does pair_item address_pair_words 0x10104 (0xd503201f ∷ 0x10000800 ∷ [])
  pub move : Does move_item move_word 0x18 (0xd2a00300 ∷ [])

-- Refused are:
-- - a descriptor call that remains after the rewrite;
-- - the low half where `movz` has the high one;
-- - `adr` before `nop`, because its distance is relative to the other word;
-- - `movn`, which complements the bits outside its field;
-- - a slot of another offset, 8 bytes after the symbol's.
pub record WrongWordsAreRefused : Type 0 where
  pub half : DoesNot call_item descriptor_call_words 0x18 (0xd503201f ∷ 0xd503201f ∷ 0xd2800300 ∷ 0xd63f0020 ∷ [])
  pub low : DoesNot call_item descriptor_call_words 0x18 (0xd503201f ∷ 0xd503201f ∷ 0xd2a00300 ∷ 0xf2800000 ∷ [])
  pub early : DoesNot pair_item address_pair_words 0x10104 (0x10000800 ∷ 0xd503201f ∷ [])
  pub negated : DoesNot move_item move_word 0x18 (0x92a00300 ∷ [])
  pub slot : (l : Layout) (w : World) (m : Memory) (n : ℕ) → l.machine ≡ machine.AArch64 → w.base ≡ 0 → Holds m 0x10000 (flat_map (word 4) (0x90000080 ∷ 0xf9400c00 ∷ [])) → number_in m 0x20018 8 ≡ Some n → n < 2 ^ 64
      → n ≢ 0x18 → DoesWith (reads w m) l w m slot_item 0 offset_pair_words 0x18 → ⊥

-- a thunk at 0x1000 reaches 0x5678; one to the next page does not, if there is no code at its target
pub record ThunksAreJudged : Type 0 where
  pub right : (m : Memory) → m.machine ≡ processors.AArch64 → Holds m 0x1000 (flat_map (word 4) (0x90000030 ∷ 0x9119e210 ∷ 0xd61f0200 ∷ [])) → Reaches m 0x1000 0x5678
  pub wrong : (m : Memory) → m.machine ≡ processors.AArch64 → Holds m 0x1000 (flat_map (word 4) (0xb0000030 ∷ 0x9119e210 ∷ 0xd61f0200 ∷ [])) → number_in m 0x6678 4 ≡ None → Reaches m 0x1000 0x5678 → ⊥

-- without a symbol: a distance out of range for `adr`, and a number of more than 16 bits in a single `movz`
pub record CutBitsAreRefused : Type 0 where
  pub far : (l : Layout) (w : World) (m : Memory) (item : Item) (r : InputRelocation) (d : ℕ) → l.machine ≡ machine.AArch64 → r.number ≡ r_aarch64_adr_prel_lo21 → r.symbol ≡ None
      → (cast_unsigned w64 r.addend + (2 ^ 64 - place_at w item r.offset)) % 2 ^ 64 ≡ d → 2 ^ 20 ≤ d → d + 2 ^ 20 < 2 ^ 64 → ReferenceHolds l w m item r → ⊥
  pub wide : (l : Layout) (w : World) (m : Memory) (item : Item) (r : InputRelocation) → l.machine ≡ machine.AArch64 → r.number ≡ r_aarch64_movw_uabs_g0 → r.symbol ≡ None → 2 ^ 16 ≤ cast_unsigned w64 r.addend % 2 ^ 64 → ReferenceHolds l w m item r → ⊥

-- the page of a symbol's slot, and its low bits
pub record SlotAddendsAreRefused : Type 0 where
  pub page : (l : Layout) (w : World) (m : Memory) (item : Item) (r : InputRelocation) → l.machine ≡ machine.AArch64 → r.number ≡ r_aarch64_adr_got_page → cast_unsigned w64 r.addend ≢ 0 → ReferenceHolds l w m item r → ⊥
  pub low : (l : Layout) (w : World) (m : Memory) (item : Item) (r : InputRelocation) → l.machine ≡ machine.AArch64 → r.number ≡ r_aarch64_ld64_got_lo12_nc → cast_unsigned w64 r.addend ≢ 0 → ReferenceHolds l w m item r → ⊥

-- for an absolute symbol in an output that can be loaded at any base, both relocations of a page pair are only checked at base 0
abbrev pub PairsAreExcepted : Type 0
PairsAreExcepted = (l : Layout) (item : Item) (r first : InputRelocation) (start i : ℕ) → IsTemplate l item r start address_pair_words first → IsMovable l.kind → r.symbol ≡ Some i → IsAbsolute l i → IsCheckedAtZeroOnly l item r

-- `movn` has no meaning here, so it is not an instruction that a relocation type fills
abbrev pub NegatedMovesAreUnknown : Type 0
NegatedMovesAreUnknown = (n w : ℕ) → has_fixed_bits movn.fixed w ≡ true → is_filled n (w ∷ []) ≡ false

-- R_AARCH64_ADD_ABS_LO12_NC does not fill an `add` of a number shifted by 12
abbrev pub ShiftedAddsAreUnknown : Type 0
ShiftedAddsAreUnknown = (w u : ℕ) → has_fixed_bits add_shifted.fixed u ≡ true → address_pair_words.words (w ∷ u ∷ []) ≡ false
