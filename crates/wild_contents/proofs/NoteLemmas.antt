-- Laws of notes.
use Rattle.std.proofs.Common.{◌≡◌, ℕ, ◌+◌, ◌-◌, ◌*◌, ◌/◌, ◌%◌, ◌^◌, ◌<◌, ◌≤◌, List, [], ◌∷◌, ◌++◌, length, take, drop, get_or, flat_map, refl, sym, ap, ◌∙◌, arith}
use Rattle.std.specs.Prelude.{min}
use Rattle.std.proofs.lemmas.List.{append_assoc, take_all, length-append}
use Rattle.wild_words.specs.Words.{word, place}
use Rattle.wild_words.specs.Record.{spell}
use Rattle.wild_words.proofs.WordLemmas.{length-word, front-place}
use Rattle.wild_words.proofs.OverlayLemmas.{length-place}
use Rattle.wild_words.proofs.ListLemmas.{flat_map-more}
use Rattle.wild_records.specs.Notes.{note_header_fields}
use Rattle.wild_types.specs.declared.layout.Property.{Property}
use Rattle.wild_types.specs.declared.layout.PropertyValue.{PropertyValue}
use Rattle.wild_types.specs.declared.layout.PropertyValue.TheVariants as values
use Rattle.wild_types.specs.Lists.{total}
use Rattle.wild_types.proofs.ListLemmas.{total-more, total-prefix}
use Rattle.wild_needs.specs.Needs.{gnu_note_size, value_room, property_room}
use Rattle.wild_layout.specs.Notes.{gnu_name, gnu_note, value_bytes, property_bytes, property_note}
use Rattle.wild_contents.specs.Notes.{gnu_front}

-- four bytes hold the low 32 bits
low-word : (x : ℕ) → word 4 (x % 2 ^ 32) ≡ word 4 x
unfolding word
low-word x =
    let a : x % 2 ^ 32 % 256 ≡ x % 256 = omega arith in
    let b : x % 2 ^ 32 / 256 % 256 ≡ x / 256 % 256 = omega arith in
    let c : x % 2 ^ 32 / 256 / 256 % 256 ≡ x / 256 / 256 % 256 = omega arith in
    let d : x % 2 ^ 32 / 256 / 256 / 256 % 256 ≡ x / 256 / 256 / 256 % 256 = omega arith in
    rw (a, b, c, d) refl

name_word : word 4 5590599 ≡ gnu_name
unfolding word
name_word = refl

-- four fields that were put one behind the other
pub four_put : (a b c d out one two three four : List ℕ) (at n m k e : ℕ) → take n one ≡ take at out ++ a → take m two ≡ take n one ++ b → take k three ≡ take m two ++ c → take e four ≡ take k three ++ d → take e four ≡ take at out ++ (a ++ (b ++ (c ++ d)))
four_put a b c d out one two three four at n m k e first second third last =
    last ∙ ap (λ (x : List ℕ). x ++ d) (third ∙ ap (λ (x : List ℕ). x ++ c) (second ∙ ap (λ (x : List ℕ). x ++ b) first))
    ∙ append_assoc ((take at out ++ a) ++ b) c d ∙ append_assoc (take at out ++ a) b (c ++ d) ∙ append_assoc (take at out) a (b ++ (c ++ d))

-- the header with its name
front_is : (kind size : ℕ) → word 4 4 ++ (word 4 (size % 2 ^ 32) ++ (word 4 kind ++ word 4 5590599)) ≡ gnu_front kind size
unfolding note_header_fields
front_is kind size =
    ap (λ (w : List ℕ). word 4 4 ++ (w ++ (word 4 kind ++ word 4 5590599))) (low-word size)
    ∙ ap (λ (w : List ℕ). word 4 4 ++ (word 4 size ++ (word 4 kind ++ w))) name_word
    ∙ sym (append_assoc (word 4 4) (word 4 size) (word 4 kind ++ gnu_name))
    ∙ sym (append_assoc (word 4 4 ++ word 4 size) (word 4 kind) gnu_name)

pub front_put : (kind size v : ℕ) (out one two three four : List ℕ) → v ≡ size % 2 ^ 32 → take 4 one ≡ take 0 out ++ word 4 4 → take 8 two ≡ take 4 one ++ word 4 v → take 12 three ≡ take 8 two ++ word 4 kind → take 16 four ≡ take 12 three ++ word 4 5590599 → take 16 four ≡ gnu_front kind size
front_put kind size v out one two three four is first second third last =
    four_put (word 4 4) (word 4 (size % 2 ^ 32)) (word 4 kind) (word 4 5590599) out one two three four 0 4 8 12 16 first (second ∙ ap (λ (n : ℕ). take 4 one ++ word 4 n) is) third last ∙ front_is kind size

note_spelled : (kind : ℕ) (description : List ℕ) → gnu_front kind (length description) ++ description ≡ gnu_note kind description
note_spelled kind description = append_assoc (spell (note_header_fields (record { name_size = 4; descriptor_size = length description; kind = kind }))) gnu_name description

-- a note's front and its descriptor
pub note_put : (kind : ℕ) (description front out : List ℕ) → length front ≡ 16 + length description → take 16 front ≡ gnu_front kind (length description) → out ≡ place 16 description front → out ≡ gnu_note kind description
note_put kind description front out long is e =
    let n = 16 + length description in
    e ∙ sym (take_all n (place 16 description front) (let s = length_place description front long in omega (arith, s)))
    ∙ front-place 16 n front description refl (omega (arith, long)) ∙ ap (λ (x : List ℕ). x ++ description) is ∙ note_spelled kind description
  where
    length_place : (ys xs : List ℕ) → length xs ≡ 16 + length ys → length (place 16 ys xs) ≤ 16 + length ys
    length_place ys xs long = omega (arith, length-place 16 xs ys (omega (arith, long)), long)

-- ---- properties

length_value : (v : PropertyValue) → length (value_bytes v) + 4 ≡ value_room v
length_value (values.Word v) =
    let a = length-append (word 4 4) (word 4 v ++ word 4 0) in
    let b = length-append (word 4 v) (word 4 0) in
    omega (arith, a, b, length-word 4 4, length-word 4 v, length-word 4 0)
length_value (values.PointerAuthentication p v) =
    let a = length-append (word 4 16) (word 8 p ++ word 8 v) in
    let b = length-append (word 8 p) (word 8 v) in
    omega (arith, a, b, length-word 4 16, length-word 8 p, length-word 8 v)

length_property : (p : Property) → length (property_bytes p) ≡ property_room p
length_property p =
    let a = length-append (word 4 p.ptype) (value_bytes p.value) in
    omega (arith, a, length_value p.value, length-word 4 p.ptype)

pub length_properties : (ps : List Property) → length (flat_map property_bytes ps) ≡ total property_room ps
length_properties [] = refl
length_properties (p ∷ ps) =
    let a = length-append (property_bytes p) (flat_map property_bytes ps) in
    omega (arith, a, length_property p, length_properties ps)

note_of : (ps : List Property) → (length ps ≡ 0 → ⊥) → gnu_front 5 (length (flat_map property_bytes ps)) ++ flat_map property_bytes ps ≡ property_note ps
note_of [] h = absurd (h refl)
note_of (p ∷ ps) h = note_spelled 5 (flat_map property_bytes (p ∷ ps))

-- the note of some properties
pub properties_put : (ps : List Property) (size : ℕ) (front out : List ℕ) → (length ps ≡ 0 → ⊥) → size ≡ total property_room ps → take 16 front ≡ gnu_front 5 size → out ≡ take 16 front ++ flat_map property_bytes ps → out ≡ property_note ps
properties_put ps size front out some is a b =
    b ∙ ap (λ (x : List ℕ). x ++ flat_map property_bytes ps) (a ∙ ap (gnu_front 5) (is ∙ sym (length_properties ps))) ∙ note_of ps some

-- one more property
pub room_more : (ps : List Property) (i n : ℕ) (d : Property) → i < length ps → n ≡ property_room (get_or ps i d) → total property_room (take (i + 1) ps) ≡ total property_room (take i ps) + n
room_more ps i n d low is = let m = total-more property_room ps i d low in omega (arith, m, is)

pub room_within : (ps : List Property) (i at size : ℕ) (d : Property) → i < length ps → at ≡ 16 + total property_room (take i ps) → size ≡ 16 + total property_room ps → at + property_room (get_or ps i d) ≤ size
room_within ps i at size d low a s = let p = total-prefix property_room ps i d low in omega (arith, p, a, s)

pub property_more : (ps : List Property) (i at n : ℕ) (d : Property) (front now next : List ℕ) → i < length ps → n ≡ property_room (get_or ps i d) → take at now ≡ front ++ flat_map property_bytes (take i ps) → take (at + property_room (get_or ps i d)) next ≡ take at now ++ property_bytes (get_or ps i d)
    → take (at + n) next ≡ front ++ flat_map property_bytes (take (i + 1) ps)
property_more ps i at n d front now next low is before more =
    ap (λ (k : ℕ). take (at + k) next) is ∙ more ∙ ap (λ (x : List ℕ). x ++ property_bytes (get_or ps i d)) before
    ∙ append_assoc front (flat_map property_bytes (take i ps)) (property_bytes (get_or ps i d))
    ∙ ap (λ (x : List ℕ). front ++ x) (sym (flat_map-more property_bytes ps i d low))

pub room_sum : (ps : List Property) (i at n size : ℕ) (d : Property) → i < length ps → at ≡ 16 + total property_room (take i ps) → size ≡ 16 + total property_room ps → n ≡ property_room (get_or ps i d) → at + n ≤ size
room_sum ps i at n size d low a s is = let p = total-prefix property_room ps i d low in omega (arith, p, a, s, is)
