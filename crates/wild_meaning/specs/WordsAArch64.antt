-- The words of AArch64 code that relocations fill. `wild_aarch64` says which instruction a word is, and what it does.
--   is_filled n ws    the words are one that a relocation type fills, and their meaning is known
--   filled_numbers    the relocation types that fill a single word
--   is_run t ns ws    the words form a run of a kind, and each is one that its relocation type fills
--   with_field v w    the word with those bits in its field
--   effect_with ..    the effect that words require, with those bits in their fields
use Rattle.std.specs.Prelude.{ℕ, Bool, true, false, ◌&&◌, ◌||◌, not, ◌==◌, if◌then◌else◌, List, [], ◌∷◌, map, Option, Some, None, option_and_then}
use Rattle.std.specs.List.{list_all, filter}
use Rattle.wild_records.specs.Abi.Relocation.{r_aarch64_jump26, r_aarch64_call26}
use Rattle.wild_aarch64.specs.declared.template.Template.{Template}
use Rattle.wild_aarch64.specs.declared.operand.Action as run-action
use Rattle.wild_aarch64.specs.Immediate.{word_with_immediate}
use Rattle.wild_aarch64.specs.Slice.{Form, has_fixed_bits}
use Rattle.wild_aarch64.specs.Forms.{forms}
use Rattle.wild_aarch64.specs.FilledForms.{filled_forms, forms_filled}
use Rattle.wild_aarch64.specs.Code.{read}
use Rattle.wild_aarch64.specs.Machine.{run, meaning}
use Rattle.wild_aarch64.specs.Effect.{shapes, words_of}
use Rattle.wild_aarch64.specs.Template.{codes_of, begins, register_in}
use Rattle.wild_loader.specs.declared.instruction.Operand.TheVariants.{Number}
use Rattle.wild_loader.specs.Instruction.{Reader, Effect, effect}
use Rattle.wild_loader.specs.InstructionAArch64.{action_of}

-- the word is of one of the forms
abbrev pub is_of : List Form → ℕ → Bool
is_of [] w = false
is_of (f ∷ fs) w = has_fixed_bits f.fixed w || is_of fs w

abbrev pub has_known_meaning : Option run-action.Action → Bool
has_known_meaning None = false
has_known_meaning (Some act) = true

-- the words have a form that the relocation type fills, and their meaning is known for every content of the fields; `movn` has no
-- meaning here
abbrev pub is_filled : ℕ → List ℕ → Bool
is_filled n ws = list_all (is_of (forms_filled n)) ws && has_known_meaning (run (shapes ws) 0 [])

-- the word has one of the forms, or there are no forms: the call through a descriptor has no field (aaelf64, "Relocations for
-- thread-local storage": R_AARCH64_TLSDESC_CALL)
abbrev pub may_be_of : List Form → ℕ → Bool
may_be_of [] w = true
may_be_of fs w = is_of fs w

-- each word is one that its relocation type fills
abbrev pub are_filled : List ℕ → List ℕ → Bool
are_filled [] [] = true
are_filled (n ∷ ns) (w ∷ ws) = may_be_of (forms_filled n) w && are_filled ns ws
are_filled ns ws = false

-- the words form a run of that kind, for the register that the second word sets, with those relocation types, and their meaning
-- is known
abbrev pub is_run : Template → List ℕ → List ℕ → Bool
is_run t ns ws = are_filled ns ws && (begins (codes_of t (register_in ws)) (map read ws) && has_known_meaning (run (shapes ws) 0 []))

-- the relocation types that fill words, except for branches to code, which go to an address that represents a symbol
abbrev pub filled_numbers : List ℕ
filled_numbers = filter (λ n. not (n == r_aarch64_jump26 || n == r_aarch64_call26)) (map (λ e. e.0) filled_forms)

-- the word with those bits in its field
abbrev pub with_field_of : List Form → ℕ → ℕ → ℕ
with_field_of [] v w = w
with_field_of (f ∷ fs) v w = if has_fixed_bits f.fixed w then word_with_immediate f.field v w else with_field_of fs v w

abbrev pub with_field : ℕ → ℕ → ℕ
with_field v w = with_field_of forms v w

-- numbers read as themselves; other operands have no value
abbrev pub reads_numbers : Reader
reads_numbers (Number n) = Some n
reads_numbers other = None

-- the effect that these bytes of code require at an address, with those bits in their words' fields
abbrev pub effect_with : ℕ → ℕ → List ℕ → Option Effect
effect_with v a bs = option_and_then (effect reads_numbers) (option_and_then action_of (meaning a (map (with_field v) (words_of bs))))
