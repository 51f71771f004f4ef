-- The names of symbols, read.
use Rattle.std.proofs.Common.{◌≡◌, ℕ, suc, ◌+◌, ◌-◌, ◌*◌, true, false, List, [], ◌∷◌, ◌++◌, length, drop, refl, arith, ◌∙◌, sym, ap, Ok, append_assoc}
use Rattle.std.specs.Prelude.{position, ◌==◌, nat_lt}
use Rattle.std.specs.List.{position_or_len}
use Rattle.std.proofs.lemmas.Bool.{ne_eqb, lt-ltb, le-leb}
use Rattle.std.proofs.lemmas.List.{take-append-drop, length-append}
use Rattle.std.proofs.Math.Seq.{take-append_seam}
use Rattle.wild_words.specs.Words.{HasBytesAt}
use Rattle.wild_words.proofs.RecordLemmas.{HasBytesAt-slice}
use Rattle.wild_records.specs.SymtabEntry.{symtab_entry_at}
use Rattle.wild_hashes.specs.Reading.{is_zero, first_bytes, string_at, name_offset, symbol_name, HasNoZero, IsNamed}

first_zero : (name rest : List ℕ) → HasNoZero name → position_or_len is_zero (name ++ 0 ∷ rest) ≡ length name
first_zero [] rest h = refl
first_zero (b ∷ bs) rest h =
    let e : (b == 0) ≡ false = ne_eqb b 0 (h 0 (omega arith)) in
    let rest_is = first_zero bs rest (λ k l. h (suc k) (omega arith)) in
    rw e (omega (arith, rest_is))

string_front : (at : ℕ) (name rest : List ℕ) → HasNoZero name → first_bytes at (name ++ 0 ∷ rest) (position is_zero (name ++ 0 ∷ rest)) ≡ Ok name
string_front at name rest h =
    let e = first_zero name rest h in
    let n = length-append name (0 ∷ rest) in
    let l : nat_lt (length name) (length (name ++ 0 ∷ rest)) ≡ true = lt-ltb _ _ (omega arith) in
    rw (e, l) (ap (λ (x : List ℕ). Ok x) (take-append_seam name (0 ∷ rest)))

-- what stands at an offset is the front of the rest
drop-stands : (whole part : List ℕ) (at : ℕ) → HasBytesAt whole at part → drop at whole ≡ part ++ drop (length part) (drop at whole)
drop-stands whole part at s =
    let n : at + length part - at ≡ length part = omega arith in
    let e = rw n at (HasBytesAt-slice whole part at s) in
    sym (take-append-drop (length part) (drop at whole)) ∙ ap (λ (r : List ℕ). r ++ drop (length part) (drop at whole)) e

pub string_stands : (strings name : List ℕ) (at : ℕ) → HasBytesAt strings at (name ++ 0 ∷ []) → HasNoZero name → string_at strings at ≡ Ok name
unfolding string_at
string_stands strings name at s h =
    let rest : List ℕ = drop (length (name ++ 0 ∷ [])) (drop at strings) in
    let e : drop at strings ≡ name ++ 0 ∷ rest = drop-stands strings (name ++ 0 ∷ []) at s ∙ append_assoc name (0 ∷ []) rest in
    ap (λ (bs : List ℕ). first_bytes at bs (position is_zero bs)) e ∙ string_front at name rest h

pub symbol_named : (symbols strings : List ℕ) (i : ℕ) (name : List ℕ) → IsNamed symbols strings i name → symbol_name symbols strings i ≡ Ok name
unfolding symbol_name name_offset
symbol_named symbols strings i name h =
    rw (le-leb (24 * i + 24) (length symbols) h.inside) (string_stands strings name (symtab_entry_at symbols (24 * i)).name h.named h.no_zero)
