-- Consecutive words of AArch64, each with a relocation (aaelf64, "Relocation types"; "Thread Local Storage").
--   types_of s              their relocation types, in order
--   words_before n          the number of words of the sequence before that of a relocation type
--   words_at bs start n     n words of the bytes, from a start on
--   words_match_register s r ws       the words are those of the sequence for register r
--   register_of s ws        the register that they use
--   words_match s ws           they are those of the sequence, for the register that they use
--   is_among q s k          the relocation is that of the sequence's word k, and the other words and relocations are around it
use Rattle.std.specs.Prelude.{ℕ, zero, suc, ◌+◌, ◌-◌, ◌*◌, ◌/◌, ◌%◌, ◌^◌, ◌==◌, Bool, true, false, ◌&&◌, ◌||◌, if◌then◌else◌, nat_le, nat_lt, List, [], ◌∷◌, length, drop, slice_range, Option, Some, None}
use Rattle.wild_words.specs.Words.{number}
use Rattle.wild_records.specs.Abi.Relocation as abi
use Rattle.wild_relax.specs.declared.pattern.Sequence.{Sequence}
use Rattle.wild_relax.specs.declared.pattern.Sequence.TheVariants.{DescriptorCall, OffsetSlot, Address}
use Rattle.wild_relax.specs.declared.pattern.Pattern.{Pattern}
use Rattle.wild_relax.specs.declared.pattern.Pattern.TheVariants as pattern
use Rattle.wild_relax.specs.declared.reference.RelocationInfo.{RelocationInfo}
use Rattle.wild_relax.specs.Question.{Question, relocation_of, zero as none_added}
use Rattle.wild_relax.specs.RewriteX86_64.{register_set}

-- ---- relocations

-- TLSDESC_ADR_PAGE21, TLSDESC_LD64_LO12, TLSDESC_ADD_LO12, TLSDESC_CALL; TLSIE_ADR_GOTTPREL_PAGE21, TLSIE_LD64_GOTTPREL_LO12_NC;
-- ADR_PREL_PG_HI21, ADD_ABS_LO12_NC
abbrev pub types_of : Sequence → List ℕ
types_of DescriptorCall = abi.r_aarch64_tlsdesc_adr_page21 ∷ abi.r_aarch64_tlsdesc_ld64_lo12 ∷ abi.r_aarch64_tlsdesc_add_lo12 ∷ abi.r_aarch64_tlsdesc_call ∷ []
types_of OffsetSlot = abi.r_aarch64_tlsie_adr_gottprel_page21 ∷ abi.r_aarch64_tlsie_ld64_gottprel_lo12_nc ∷ []
types_of Address = abi.r_aarch64_adr_prel_pg_hi21 ∷ abi.r_aarch64_add_abs_lo12_nc ∷ []

-- the number of words before that of the type; 0 if it belongs to no sequence
abbrev pub words_before : ℕ → ℕ
words_before n =
    if n == abi.r_aarch64_tlsdesc_ld64_lo12 || n == abi.r_aarch64_tlsie_ld64_gottprel_lo12_nc || n == abi.r_aarch64_add_abs_lo12_nc then 1
    else if n == abi.r_aarch64_tlsdesc_add_lo12 then 2
    else if n == abi.r_aarch64_tlsdesc_call then 3
    else 0

abbrev pub same_symbol : Option ℕ → Option ℕ → Bool
same_symbol (Some a) (Some b) = a == b
same_symbol other symbol = false

-- these relocations have those types, that symbol, addend 0 and offsets 4 bytes apart, from a start on
abbrev pub relocations_match : Option ℕ → ℕ → List ℕ → List RelocationInfo → Bool
relocations_match symbol place [] rs = true
relocations_match symbol place (n ∷ ns) [] = false
relocations_match symbol place (n ∷ ns) (r ∷ rs) = r.number == n && r.offset == place && same_symbol r.symbol symbol && none_added r.addend && relocations_match symbol (place + 4) ns rs

-- ---- words

-- `count` words of the bytes, from a start on
abbrev pub words_at : List ℕ → ℕ → ℕ → List ℕ
words_at bs start zero = []
words_at bs start (suc n) = number (slice_range bs start (start + 4)) ∷ words_at bs (start + 4) n

-- the register that a word reads (Arm Architecture Reference Manual, C4.1: Rn)
abbrev pub register_read : ℕ → ℕ
register_read w = w / 2 ^ 5 % 2 ^ 5

-- `adrp`; `ldr` of 64 bits and `add` of 64 bits, each of a register and a number; `blr` (C6.2)
abbrev pub is_adrp : ℕ → ℕ → Bool
is_adrp r w = w / 2 ^ 31 == 1 && w / 2 ^ 24 % 2 ^ 5 == 16 && register_set w == r

abbrev pub is_ldr : ℕ → ℕ → ℕ → Bool
is_ldr r q w = w / 2 ^ 22 == 0x3e5 && register_set w == r && register_read w == q

abbrev pub is_add : ℕ → ℕ → ℕ → Bool
is_add r q w = w / 2 ^ 22 == 0x244 && register_set w == r && register_read w == q

abbrev pub is_blr : ℕ → ℕ → Bool
is_blr r w = w / 2 ^ 10 == 0x358fc0 && register_set w == 0 && register_read w == r

-- the address of a descriptor is in register 0, and that of its function in another register
abbrev pub words_match_register : Sequence → ℕ → List ℕ → Bool
words_match_register DescriptorCall r (a ∷ b ∷ c ∷ d ∷ []) = nat_le 1 r && is_adrp 0 a && is_ldr r 0 b && is_add 0 0 c && is_blr r d
words_match_register OffsetSlot r (a ∷ b ∷ []) = is_adrp r a && is_ldr r r b
words_match_register Address r (a ∷ b ∷ []) = is_adrp r a && is_add r r b
words_match_register s r other = false

-- the register that the second word sets
abbrev pub register_of : List ℕ → ℕ
register_of (a ∷ b ∷ ws) = register_set b
register_of other = 31

-- 31 does not name a register here (C1.2.5, "Register names")
abbrev pub words_match : Sequence → List ℕ → Bool
words_match s ws = nat_lt (register_of ws) 31 && words_match_register s (register_of ws) ws

-- ---- both

-- the start of the sequence, for the relocation of its word k
abbrev pub sequence_start : Question → ℕ → ℕ
sequence_start q k = (relocation_of q).offset - 4 * k

unfoldable pub is_among : Question → Sequence → ℕ → Bool
is_among q s k =
    nat_le k q.at && nat_le q.at (length q.relocations) && nat_le (4 * k) (relocation_of q).offset && relocations_match (relocation_of q).symbol (sequence_start q k) (types_of s) (drop (q.at - k) q.relocations)
    && nat_le (sequence_start q k + 4 * length (types_of s)) (length q.bytes) && words_match s (words_at q.bytes (sequence_start q k) (length (types_of s)))

-- if the pattern is a word of a sequence, the relocation is that of this word
abbrev pub has_around : Question → Pattern → Bool
has_around q (pattern.Among s k) = is_among q s k
has_around q other = true
