-- How the name of a symbol is shown.
use Rattle.std.proofs.Common.{◌≡◌, ℕ, true, false, List, refl, inl, inr}
use Rattle.std.specs.Prelude.{IsUtf8}
use Rattle.std.specs.List.{list_any}
use Rattle.std.specs.Str.{is_utf8}
use Rattle.std.proofs.lemmas.Bool.{cases_Bool}
use Rattle.std.proofs.lemmas.Str.{is_utf8-from_IsUtf8, IsUtf8-from_is_utf8}
use Rattle.hex.specs.Hex.{encode_lower}
use Rattle.wild_text.specs.Answer.{is_control, shown_name}

-- a name that is text without control characters is shown as it is
pub shown_text : (name : List ℕ) → list_any is_control name ≡ false → IsUtf8 name → shown_name name ≡ name
unfolding shown_name
shown_text name seen h = rw (seen, is_utf8-from_IsUtf8 name h) refl

-- one with a control character is shown in hex
pub shown_control : (name : List ℕ) → list_any is_control name ≡ true → shown_name name ≡ encode_lower name
unfolding shown_name
shown_control name some = rw some refl

-- and so is one that is no text
pub shown_hex : (name : List ℕ) → list_any is_control name ≡ false → (IsUtf8 name → ⊥) → shown_name name ≡ encode_lower name
unfolding shown_name
shown_hex name seen none = elim (cases_Bool (is_utf8 name)) [
  | inl t ↦ absurd (none (IsUtf8-from_is_utf8 name t))
  | inr f ↦ rw (seen, f) refl
]
