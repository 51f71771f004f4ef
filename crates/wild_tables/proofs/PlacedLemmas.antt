-- Words of slots at their places.
use Rattle.std.proofs.Common.{◌≡◌, ℕ, zero, suc, ◌+◌, ◌^◌, ◌<◌, if◌then◌else◌, Bool, true, false, Some, None, List, [], ◌∷◌, ◌++◌, length, get_or, refl, sym, ap, ◌∙◌, arith}
use Rattle.std.specs.Prelude.{All, option_to_list, Option}
use Rattle.std.proofs.lemmas.List.{length-append}
use Rattle.std.proofs.lemmas.List.Elements.{All-nil, All-cons, All-head, All-tail, All-append}
use Rattle.wild_relr.specs.Laws.{WordsAreRead}
use Rattle.wild_records.specs.declared.relocations.Rela.{Rela}
use Rattle.wild_types.specs.declared.kind.Machine.{Machine}
use Rattle.wild_slot.specs.declared.slot.SlotWord.{SlotWord}
use Rattle.wild_slot.specs.declared.slot.SlotWord.TheVariants.{Number, Address, InRelrGot, General, Plt}
use Rattle.wild_slot.specs.declared.slot_parts.WordPart.TheVariants as words
use Rattle.wild_slot.specs.declared.slot_parts.EntryPart.{EntryPart}
use Rattle.wild_slot.specs.declared.slot_parts.EntryPart.TheVariants as entries
use Rattle.wild_slot.specs.SlotParts.{next, is_packed, address_entry, entry_at, at_places, word_of, entry_of, relr_slot_place, slot_words, slot_entries}
use Rattle.wild_tables.specs.SlotLaws.{EachWordIsInOnePart, EachFilledWordHasOneEntry, WordsAreReadInOrder, EntriesFillWords, CountsDoNotDependOnMachine, Fills, filled, is_in_relr_got, word_place}

count : {X : Type 0} → Option X → ℕ
count o = length (option_to_list o)

placed-count : {X : Type 0} (f : ℕ → SlotWord → Option X) (at : ℕ) (w : SlotWord) (ws : List SlotWord) → length (at_places f at (w ∷ ws)) ≡ count (f at w) + length (at_places f (next at) ws)
unfolding count
placed-count f at w ws = length-append (option_to_list (f at w)) (at_places f (next at) ws)

-- ---- each word

stands-once : (relr : Bool) (at : ℕ) (w : SlotWord) → count (word_of words.Got relr at w) + count (word_of words.RelrGot relr at w) ≡ 1
unfolding count
stands-once relr at (Number n) = refl
stands-once relr at (Address a) = refl
stands-once relr at (InRelrGot a) = refl
stands-once relr at (General e) = refl
stands-once relr at (Plt e) = refl

pub words_stand : EachWordIsInOnePart
words_stand relr at [] = refl
words_stand relr at (w ∷ ws) =
    let once = stands-once relr at w in
    let got = placed-count (word_of words.Got relr) at w ws in
    let block = placed-count (word_of words.RelrGot relr) at w ws in
    let rest = words_stand relr (next at) ws in
    omega (arith, once, got, block, rest)

-- ---- each filling

one_of_two : {X Y : Type 0} (b : Bool) (x : X) (y : Y) → count (if b then None else Some x) + count (if b then Some y else None) ≡ 1
unfolding count
one_of_two true x y = refl
one_of_two false x y = refl

filled-once : (m : Machine) (relr : Bool) (at : ℕ) (w : SlotWord)
    → count (entry_of entries.Plt m relr at w) + count (entry_of entries.Relative m relr at w) + count (entry_of entries.General m relr at w) + count (relr_slot_place relr at w) ≡ count (filled w)
unfolding count
filled-once m relr at (Number n) = refl
filled-once m relr at (Address a) = let e = one_of_two (is_packed relr at) (address_entry m at a) at in omega (arith, e)
filled-once m relr at (InRelrGot a) = refl
filled-once m relr at (General e) = refl
filled-once m relr at (Plt e) = refl

pub fillings_are_there : EachFilledWordHasOneEntry
fillings_are_there m relr at [] = refl
fillings_are_there m relr at (w ∷ ws) =
    let once = filled-once m relr at w in
    let a = placed-count (entry_of entries.Plt m relr) at w ws in
    let b = placed-count (entry_of entries.Relative m relr) at w ws in
    let c = placed-count (entry_of entries.General m relr) at w ws in
    let d = placed-count (relr_slot_place relr) at w ws in
    let e = placed-count (λ (at : ℕ). filled) at w ws in
    let rest = fillings_are_there m relr (next at) ws in
    omega (arith, once, a, b, c, d, e, rest)

-- ---- words in order

-- the word of a slot in `got` that is not in the block
got_value : (relr : Bool) (at : ℕ) (w : SlotWord) → is_in_relr_got w ≡ false → (v : ℕ) × (word_of words.Got relr at w ≡ Some v)
got_value relr at (Number n) h = (n, refl)
got_value relr at (Address a) h = (if is_packed relr at then a else 0, refl)
got_value relr at (InRelrGot a) h = cc
got_value relr at (General e) h = (0, refl)
got_value relr at (Plt e) h = (0, refl)

got_words-cons : (relr : Bool) (at v : ℕ) (w : SlotWord) (ws : List SlotWord) → word_of words.Got relr at w ≡ Some v → slot_words words.Got relr at (w ∷ ws) ≡ v ∷ slot_words words.Got relr (next at) ws
got_words-cons relr at v w ws h = ap (λ (o : Option ℕ). option_to_list o ++ slot_words words.Got relr (next at) ws) h

place-zero : (at : ℕ) → at < 2 ^ 64 → word_place at 0 ≡ at
place-zero at l = omega arith

place-suc : (at k : ℕ) → word_place at (suc k) ≡ word_place (next at) k
place-suc at k = omega arith

got_words-length : (relr : Bool) (at : ℕ) (ws : List SlotWord) → All (λ w. is_in_relr_got w ≡ false) ws → length (slot_words words.Got relr at ws) ≡ length ws
got_words-length relr at [] h = refl
got_words-length relr at (w ∷ ws) h =
    let v = got_value relr at w (All-head (λ (w : SlotWord). is_in_relr_got w ≡ false) w ws h) in
    let rest = got_words-length relr (next at) ws (All-tail (λ (w : SlotWord). is_in_relr_got w ≡ false) w ws h) in
    let e = ap length (got_words-cons relr at v.0 w ws v.1) in
    omega (arith, e, rest)

in_order : (relr : Bool) (at : ℕ) (ws : List SlotWord) (k : ℕ) (d : SlotWord) → at < 2 ^ 64 → All (λ w. is_in_relr_got w ≡ false) ws → k < length ws
    → word_of words.Got relr (word_place at k) (get_or ws k d) ≡ Some (get_or (slot_words words.Got relr at ws) k 0)
in_order relr at [] k d l h n = absurd (omega (arith, n))
in_order relr at (w ∷ ws) zero d l h n =
    let v = got_value relr at w (All-head (λ (w : SlotWord). is_in_relr_got w ≡ false) w ws h) in
    let p = place-zero at l in
    ap (λ (x : ℕ). word_of words.Got relr x w) p ∙ v.1 ∙ sym (ap (λ (xs : List ℕ). Some (get_or xs 0 0)) (got_words-cons relr at v.0 w ws v.1))
in_order relr at (w ∷ ws) (suc k) d l h n =
    let v = got_value relr at w (All-head (λ (w : SlotWord). is_in_relr_got w ≡ false) w ws h) in
    let low : next at < 2 ^ 64 = omega arith in
    let rest = in_order relr (next at) ws k d low (All-tail (λ (w : SlotWord). is_in_relr_got w ≡ false) w ws h) (omega (arith, n)) in
    ap (λ (x : ℕ). word_of words.Got relr x (get_or ws k d)) (place-suc at k) ∙ rest ∙ sym (ap (λ (xs : List ℕ). Some (get_or xs (suc k) 0)) (got_words-cons relr at v.0 w ws v.1))

pub words_in_order : WordsAreRead → WordsAreReadInOrder
words_in_order read relr at ws whole from k d l h small s n =
    let len = got_words-length relr at ws h in
    let r = read whole (slot_words words.Got relr at ws) from k 0 small s (omega (arith, len, n)) in
    in_order relr at ws k d l h n ∙ sym (ap (λ (x : ℕ). Some x) r)

-- ---- entries

one_entry : (P : Rela → Type 0) (e : Rela) → P e → All P (option_to_list (Some e))
one_entry P e h = All-cons P e [] h (All-nil P)

unpacked_entry : (P : Rela → Type 0) (b : Bool) (e : Rela) → (b ≡ false → P e) → All P (option_to_list (if b then None else Some e))
unpacked_entry P true e h = All-nil P
unpacked_entry P false e h = one_entry P e (h refl)

entry_fills : (part : EntryPart) (m : Machine) (relr : Bool) (at : ℕ) (w : SlotWord) (ws : List SlotWord) → at < 2 ^ 64 → All (Fills relr at (w ∷ ws)) (option_to_list (entry_of part m relr at w))
entry_fills entries.Plt m relr at (Plt e) ws l = one_entry (Fills relr at (Plt e ∷ ws)) (entry_at m at e) (record { index = 0; word = Plt e; listed = (omega arith, refl); place = sym (place-zero at l); zero = refl })
entry_fills entries.General m relr at (General e) ws l = one_entry (Fills relr at (General e ∷ ws)) (entry_at m at e) (record { index = 0; word = General e; listed = (omega arith, refl); place = sym (place-zero at l); zero = refl })
entry_fills entries.Relative m relr at (Address a) ws l =
    unpacked_entry (Fills relr at (Address a ∷ ws)) (is_packed relr at) (address_entry m at a)
    (λ f. record { index = 0; word = Address a; listed = (omega arith, refl); place = sym (place-zero at l); zero = ap (λ (b : Bool). Some (if b then a else 0)) f })
entry_fills entries.Plt m relr at w ws l = All-nil (Fills relr at (w ∷ ws))
entry_fills entries.General m relr at w ws l = All-nil (Fills relr at (w ∷ ws))
entry_fills entries.Relative m relr at w ws l = All-nil (Fills relr at (w ∷ ws))

fills_later : (relr : Bool) (at : ℕ) (w : SlotWord) (ws : List SlotWord) (e : Rela) → Fills relr (next at) ws e → Fills relr at (w ∷ ws) e
fills_later relr at w ws e f =
    let below = f.listed.0 in
    record { index = suc f.index; word = f.word; listed = (omega (arith, below), f.listed.1); place = f.place ∙ sym (place-suc at f.index); zero = f.zero }

pub entries_fill : EntriesFillWords
entries_fill part m relr at [] l = All-nil (Fills relr at [])
entries_fill part m relr at (w ∷ ws) l =
    let low : next at < 2 ^ 64 = omega arith in
    let rest = entries_fill part m relr (next at) ws low in
    All-append (Fills relr at (w ∷ ws)) (option_to_list (entry_of part m relr at w)) (slot_entries part m relr (next at) ws) (entry_fills part m relr at w ws l) (λ k d n. fills_later relr at w ws _ (rest k d n))

-- ---- counts

one_or_none : {X : Type 0} (b : Bool) (x y : X) → count (if b then None else Some x) ≡ count (if b then None else Some y)
unfolding count
one_or_none true x y = refl
one_or_none false x y = refl

entry-count : (part : EntryPart) (m n : Machine) (relr : Bool) (at : ℕ) (w : SlotWord) → count (entry_of part m relr at w) ≡ count (entry_of part n relr at w)
unfolding count
entry-count entries.Plt m n relr at (Plt e) = refl
entry-count entries.General m n relr at (General e) = refl
entry-count entries.Relative m n relr at (Address a) = one_or_none (is_packed relr at) (address_entry m at a) (address_entry n at a)
entry-count entries.Plt m n relr at w = refl
entry-count entries.General m n relr at w = refl
entry-count entries.Relative m n relr at w = refl

pub counts_same : CountsDoNotDependOnMachine
counts_same part m n relr at [] = refl
counts_same part m n relr at (w ∷ ws) =
    let once = entry-count part m n relr at w in
    let a = placed-count (entry_of part m relr) at w ws in
    let b = placed-count (entry_of part n relr) at w ws in
    let rest = counts_same part m n relr (next at) ws in
    omega (arith, once, a, b, rest)
