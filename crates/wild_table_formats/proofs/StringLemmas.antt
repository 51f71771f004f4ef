-- Laws of strings.
use Rattle.std.proofs.Common.{◌≡◌, ℕ, zero, suc, ◌+◌, ◌≤◌, List, [], ◌∷◌, ◌++◌, length, take, refl, sym, ap, ◌∙◌, arith, subst}
use Rattle.std.proofs.lemmas.List.{append_assoc, append-nil, length-append}
use Rattle.wild_words.specs.Words.{word, place, HasBytesAt}
use Rattle.wild_words.proofs.WordLemmas.{word_1, front-place}
use Rattle.wild_words.proofs.OverlayLemmas.{length-place, HasBytesAt-inner}
use Rattle.wild_words.proofs.RecordLemmas.{HasBytesAt-left, HasBytesAt-right}
use Rattle.wild_table_formats.specs.Strings.{Strings, string, string_bytes, offset_of, with_string, with_strings}
use Rattle.wild_table_formats.specs.SymbolLaws.{LengthsOfStrings, StringsAreAppended, StringsAreAtOffsets}

-- a string whose second piece is empty
pub ruleset joined_with_none = (append-nil)

-- a string in two pieces behind what was there, and its zero behind it
pub front_of_joined : (at : ℕ) (xs ys out : List ℕ) → at + (length xs + length ys) ≤ length out
    → take (at + (length xs + length ys)) (place (at + length xs) ys (place at xs out)) ++ word 1 0 ≡ take at out ++ string (xs ++ ys)
front_of_joined at xs ys out h =
    let kept = length-place at out xs in
    let n = at + (length xs + length ys) in
    let a : take n (place (at + length xs) ys (place at xs out)) ≡ take (at + length xs) (place at xs out) ++ ys = front-place (at + length xs) n (place at xs out) ys (omega arith) (omega (arith, h, kept (omega (arith, h)))) in
    let b = front-place at (at + length xs) out xs refl (omega (arith, h)) in
    rw (← word_1 0 (omega arith))
    (ap (λ (f : List ℕ). f ++ 0 ∷ []) (a ∙ ap (λ (f : List ℕ). f ++ ys) b ∙ append_assoc (take at out) xs ys)
    ∙ append_assoc (take at out) (xs ++ ys) (0 ∷ []))

-- ---- laws

length-string : (s : List ℕ) → length (string s) ≡ length s + 1
length-string s = length-append s (0 ∷ [])

pub length-string_bytes : LengthsOfStrings
length-string_bytes [] = refl
length-string_bytes (s ∷ ss) =
    let e = length-append (string s) (string_bytes ss) in
    let f = length-string s in
    let r = length-string_bytes ss in
    omega (arith, e, f, r)

pub with_strings-after : StringsAreAppended
with_strings-after [] t = sym (ap (λ (bs : List ℕ). record t { bytes = bs }) (append-nil t.bytes))
with_strings-after (s ∷ ss) t =
    with_strings-after ss (with_string s t)
    ∙ ap (λ (bs : List ℕ). record t { bytes = bs }) (append_assoc t.bytes (string s) (string_bytes ss))

-- the string behind those before it
stands_behind : (whole : List ℕ) (t : Strings) (s : List ℕ) (ss : List (List ℕ)) → HasBytesAt whole t.start (with_strings (s ∷ ss) t).bytes → HasBytesAt whole (offset_of t) (string s)
stands_behind whole t s ss h =
    let e : (with_strings (s ∷ ss) t).bytes ≡ t.bytes ++ (string s ++ string_bytes ss) = ap (λ (x : Strings). x.bytes) (with_strings-after (s ∷ ss) t) in
    let inner = HasBytesAt-right t.bytes (string s ++ string_bytes ss) (string s) 0 (HasBytesAt-left (string s) (string_bytes ss)) in
    let z : length t.bytes + 0 ≡ length t.bytes = omega arith in
    HasBytesAt-inner whole (t.bytes ++ (string s ++ string_bytes ss)) (string s) t.start (length t.bytes)
    (subst (λ (bs : List ℕ). HasBytesAt whole t.start bs) e h)
    (subst (λ (n : ℕ). HasBytesAt (t.bytes ++ (string s ++ string_bytes ss)) n (string s)) z inner)

pub string_stands : StringsAreAtOffsets
string_stands whole t [] k d h l = absurd (omega (arith, l))
string_stands whole t (s ∷ ss) zero d h l = stands_behind whole t s ss h
string_stands whole t (s ∷ ss) (suc k) d h l = string_stands whole (with_string s t) ss k d h (omega (arith, l))
