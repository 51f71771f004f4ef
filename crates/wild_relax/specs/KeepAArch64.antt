-- The law of the rewrites of AArch64: the words written in place of a sequence have the effect that the sequence demands.
--   Rewriting, rewritings    a sequence with the rows of its words, and the rewrite of `wild_aarch64` that they carry out
--   field_value w a x        the value in the field of a word at a, for an offset, slot or address x
--   templates_at rows a x ws  what the rows write in place of words, each in its own word
--   RowsOfAArch64Keep        the law
use Rattle.std.specs.Prelude.{◌≡◌, ℕ, ◌+◌, ◌^◌, ◌<◌, true, List, [], ◌∷◌, ◌++◌, Contains}
use Rattle.wild_words.specs.Words.{word}
use Rattle.wild_aarch64.specs.Machine.{page}
use Rattle.wild_aarch64.specs.Effect.{Reader, ReadsNumbers, effect, demand, words_of}
use Rattle.wild_aarch64.specs.Row as judged
use Rattle.wild_aarch64.specs.Row.{IsValueOf, distance}
use Rattle.wild_relax.specs.declared.pattern.Sequence.{Sequence}
use Rattle.wild_relax.specs.declared.pattern.Sequence.TheVariants.{DescriptorCall, OffsetSlot, Address}
use Rattle.wild_relax.specs.declared.row.Written.{Written}
use Rattle.wild_relax.specs.declared.row.Written.TheVariants as written
use Rattle.wild_relax.specs.declared.row.Row.{Row}
use Rattle.wild_relax.specs.declared.table_aarch64.TheConstants.{CALL_FIRST, CALL_SECOND, CALL_THIRD, CALL_FOURTH, CALL_THIRD_SLOT, CALL_FOURTH_SLOT, SLOT_FIRST, SLOT_SECOND, ADDRESS_FIRST, ADDRESS_SECOND}
use Rattle.wild_relax.specs.LinkedPattern.{template_of}
use Rattle.wild_relax.specs.SequenceAArch64.{words_match}

-- a sequence, the rows of its words in order, and the rewrite of `wild_aarch64` that they carry out
pub record Rewriting : Type 0 where
  pub sequence : Sequence
  pub rows : List Row
  pub run : judged.Row

abbrev pub rewriting : Sequence → List Row → judged.Row → Rewriting
rewriting sequence rows run = record { sequence = sequence; rows = rows; run = run }

abbrev pub rewritings : List Rewriting
rewritings =
    rewriting DescriptorCall (CALL_FIRST ∷ CALL_SECOND ∷ CALL_THIRD ∷ CALL_FOURTH ∷ []) judged.call_to_offset
    ∷ rewriting DescriptorCall (CALL_FIRST ∷ CALL_SECOND ∷ CALL_THIRD_SLOT ∷ CALL_FOURTH_SLOT ∷ []) judged.call_to_slot
    ∷ rewriting OffsetSlot (SLOT_FIRST ∷ SLOT_SECOND ∷ []) judged.slot_to_offset
    ∷ rewriting Address (ADDRESS_FIRST ∷ ADDRESS_SECOND ∷ []) judged.address_to_near
    ∷ []

-- TPREL; Page(G) - Page(P); G; S - P (aaelf64, "Relocation types")
abbrev pub field_value : Written → ℕ → ℕ → ℕ
field_value written.TlsLeMovwTprelG1 a x = x
field_value written.TlsLeMovwTprelG0Nc a x = x
field_value written.TlsIeAdrGotTprelPage21 a x = distance (page a) (page x)
field_value written.TlsIeLd64GotTprelLo12Nc a x = x
field_value written.AdrPrelLo21 a x = distance a x
field_value other a x = 0

-- the bytes that the rows write in place of the words from address a on
abbrev pub templates_at : List Row → ℕ → ℕ → List ℕ → List ℕ
templates_at [] a x ws = []
templates_at (row ∷ rows) a x [] = []
templates_at (row ∷ rows) a x (w ∷ ws) = template_of row (field_value row.written a x) (word 4 w) ++ templates_at rows (a + 4) x ws

abbrev pub AreWords : List ℕ → Type 0
AreWords [] = Unit {0}
AreWords (w ∷ ws) = (w < 2 ^ 32) × AreWords ws

-- for each valid register, at every address and base, if the fields are computed from what v stands for
abbrev pub Keeps : Rewriting → Type 0
Keeps t = (ws : List ℕ) (reader : Reader) → ReadsNumbers reader → (base a x v : ℕ) → AreWords ws → words_match t.sequence ws ≡ true → IsValueOf t.run.target reader base a x v
    → effect reader (base + a) (words_of (templates_at t.rows a x ws)) ≡ demand v (base + a) ws

abbrev pub RowsOfAArch64Keep : Type 0
RowsOfAArch64Keep = (t : Rewriting) → Contains rewritings t → Keeps t
