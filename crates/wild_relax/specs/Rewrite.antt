-- The changes that a rewrite makes.
--   Rewrite            which bytes around the field it replaces and with which, and how the field is written afterwards
--   rewritten_bytes w o bs   the bytes of a section after a rewrite whose field was at o
--   is_skip m          the next relocation belongs to the same sequence
--   HasRoom w o n      the bytes that it replaces are within the n bytes of the section
use Rattle.std.specs.Prelude.{ℕ, ℤ, ◌+◌, ◌-◌, ◌≤◌, Bool, true, false, List, slice_range}
use Rattle.wild_words.specs.Words.{place}
use Rattle.wild_relax.specs.declared.relaxation.RelocationModifier.{RelocationModifier}
use Rattle.wild_relax.specs.declared.relaxation.RelocationModifier.TheVariants.{Normal, SkipNextRelocation}

-- It replaces `size` bytes, from `back` bytes before the field on, with `bytes` of them. Afterwards the field is `field` bytes
-- after their start and has that relocation type and addend; its own bytes are among them, with any value.
pub record Rewrite : Type 0 where
  pub back : ℕ
  pub size : ℕ
  pub bytes : List ℕ → List ℕ
  pub field : ℕ
  pub number : ℕ
  pub addend : ℤ → ℤ
  pub next : RelocationModifier

abbrev pub is_skip : RelocationModifier → Bool
is_skip Normal = false
is_skip SkipNextRelocation = true

abbrev pub replaced_bytes : Rewrite → ℕ → List ℕ → List ℕ
replaced_bytes w start old = place start (w.bytes (slice_range old start (start + w.size))) old

abbrev pub rewritten_bytes : Rewrite → ℕ → List ℕ → List ℕ
rewritten_bytes w offset old = replaced_bytes w (offset - w.back) old

pub record HasRoom (w : Rewrite) (offset length : ℕ) : Type 0 where
  pub before : w.back ≤ offset
  pub behind : offset - w.back + w.size ≤ length
