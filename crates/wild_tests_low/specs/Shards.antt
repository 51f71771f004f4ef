-- The rule of the tests of shards: a relocation of type 10 writes its offset in four bytes, any other has a fault.
use Rattle.std.proofs.Common.{◌≡◌, ℕ, ◌%◌, ◌^◌, ◌≤◌, Bool, true, false, List, length, arith}
use Rattle.std.specs.Prelude.{◌==◌, if◌then◌else◌, Some, None, Ok, Err, IfOk}
use Rattle.wild_words.specs.Words.{word, place}
use Rattle.wild_words.proofs.WordLemmas.{length-word}
use Rattle.wild_words.proofs.OverlayLemmas.{length-place}
use Rattle.wild_types.specs.declared.input.InputRelocation.{InputRelocation}
use Rattle.wild_types.specs.declared.fault.Error.{Error}
use Rattle.wild_types.specs.declared.fault.Fault.TheVariants.{UnsupportedRelocation}
use Rattle.wild_shards.specs.InOrder.{Rule, AreSmall, KeepsLength, width_of}

abbrev pub unsupported : InputRelocation → Error
unsupported r = record { fault = UnsupportedRelocation r.number; at = record { group = None; file = None; section = None; offset = Some r.offset } }

abbrev pub offset_rule : Rule
offset_rule = record {
  sized = λ r. if r.number == 10 then Some 4 else None;
  written = λ r xs. if r.number == 10 then Ok (place 0 (word 4 (r.offset % 2 ^ 32)) xs) else Err (unsupported r);
}

small_by : (b : Bool) → width_of (if b then Some 4 else None) ≤ 10
small_by true = omega arith
small_by false = omega arith

pub offset_rule-small : AreSmall offset_rule
offset_rule-small r = small_by (r.number == 10)

keeps_by : (b : Bool) (v : ℕ) (e : Error) (xs : List ℕ) → length xs ≡ width_of (if b then Some 4 else None) → IfOk (if b then Ok (place 0 (word 4 v) xs) else Err e) (λ ys. length ys ≡ length xs)
keeps_by true v e xs h = let w = length-word 4 v in length-place 0 xs (word 4 v) (omega (arith, h, w))
keeps_by false v e xs h = tt

pub offset_rule-keeps : KeepsLength offset_rule
offset_rule-keeps r xs h = keeps_by (r.number == 10) (r.offset % 2 ^ 32) (unsupported r) xs h
