-- A section whose words are reversed is the item that the layout is to keep of it.
use Rattle.wild_geometry.proofs.Common.{◌≡◌, ℕ, zero, suc, ◌+◌, ◌-◌, ◌*◌, ◌/◌, ◌%◌, ◌<◌, ◌≤◌, Bool, true, false, if◌then◌else◌, List, [], ◌∷◌, ◌++◌, length, map, get_or, refl, sym, ap, ◌∙◌, arith, subst, All, slice_range, slice_index, take, drop, All-head, All-tail, InputRelocation, InputSection, Machine, Item, item_of, File, Layout, reversed_offset, reversed_section, with_word_order, HasWords}
use Rattle.std.specs.List.{flat_map, range_with_len}
use Rattle.std.proofs.lemmas.List.{map-append}
use Rattle.wild_placement.specs.ReversedWords.{word_from_end, reversed_word_bytes}
use Rattle.wild_meaning.specs.Item.{input_offset_of, reversed_bytes, reversed_relocation, placed_item}

-- ---- bytes

-- numbers that two functions make alike
map_shift : (f g : ℕ → ℕ) (a b c : ℕ) → ((k : ℕ) → k < c → f (a + k) ≡ g (b + k)) → map f (range_with_len a c) ≡ map g (range_with_len b c)
map_shift f g a b zero h = refl
map_shift f g a b (suc c) h =
    let head : f a ≡ g b = (let e = h 0 (omega arith) in subst (λ (n : ℕ). f n ≡ g b) (omega arith) (subst (λ (n : ℕ). f (a + 0) ≡ g n) (omega arith) e)) in
    let tail = map_shift f g (a + 1) (b + 1) c (λ k lt. (let e = h (k + 1) (omega (arith, lt)) in subst (λ (n : ℕ). f n ≡ g (b + 1 + k)) (omega arith) (subst (λ (n : ℕ). f (a + (k + 1)) ≡ g n) (omega arith) e))) in
    ap (λ (x : ℕ). x ∷ map f (range_with_len (a + 1) c)) head ∙ ap (λ (xs : List ℕ). g b ∷ xs) tail

range_split : (a m n : ℕ) → range_with_len a (m + n) ≡ range_with_len a m ++ range_with_len (a + m) n
range_split a zero n = (let e : a ≡ a + 0 = omega arith in let z : 0 + n ≡ n = omega arith in ap (λ (k : ℕ). range_with_len a k) z ∙ ap (λ (k : ℕ). range_with_len k n) e)
range_split a (suc m) n =
    let e : a + 1 + m ≡ a + suc m = omega arith in
    let z : suc m + n ≡ suc (m + n) = omega arith in
    ap (λ (k : ℕ). range_with_len a k) z ∙
    ap (λ (xs : List ℕ). a ∷ xs) (range_split (a + 1) m n) ∙ ap (λ (k : ℕ). a ∷ (range_with_len (a + 1) m ++ range_with_len k n)) e

-- a slice is its bytes one by one
slice_bytes : (bs : List ℕ) (p c : ℕ) → p + c ≤ length bs → take c (drop p bs) ≡ map (λ k. slice_index bs k) (range_with_len p c)
slice_bytes [] zero zero le = refl
slice_bytes [] zero (suc c) le = absurd (omega (arith, le))
slice_bytes [] (suc p) c le = absurd (omega (arith, le))
slice_bytes (b ∷ bs) zero zero le = refl
slice_bytes (b ∷ bs) zero (suc c) le = ap (λ (xs : List ℕ). b ∷ xs) (slice_bytes bs 0 c (omega (arith, le)) ∙ map_shift (λ k. slice_index bs k) (λ k. slice_index (b ∷ bs) k) 0 1 c (λ k lt. one b bs k))
  where
    one : (b : ℕ) (bs : List ℕ) (k : ℕ) → slice_index bs (0 + k) ≡ slice_index (b ∷ bs) (1 + k)
    one b bs k = (let e : 1 + k ≡ suc k = omega arith in let f : 0 + k ≡ k = omega arith in rw (e, f) refl)
slice_bytes (b ∷ bs) (suc p) c le = slice_bytes bs p c (omega (arith, le)) ∙ map_shift (λ k. slice_index bs k) (λ k. slice_index (b ∷ bs) k) p (suc p) c (λ k lt. one b bs p k)
  where
    one : (b : ℕ) (bs : List ℕ) (p k : ℕ) → slice_index bs (p + k) ≡ slice_index (b ∷ bs) (suc p + k)
    one b bs p k = (let e : suc p + k ≡ suc (p + k) = omega arith in rw e refl)

-- word i, byte by byte
word_bytes : (bs : List ℕ) (i : ℕ) → 8 * i + 8 ≤ length bs → word_from_end bs i ≡ map (λ k. slice_index bs k) (range_with_len (length bs - (8 * i + 8)) 8)
word_bytes bs i le =
    let from : length bs - 8 * (i + 1) ≡ length bs - (8 * i + 8) = omega arith in
    let to : length bs - 8 * i ≡ length bs - (8 * i + 8) + 8 = omega (arith, le) in
    ap (λ (p : ℕ). slice_range bs p (length bs - 8 * i)) from
    ∙ ap (λ (q : ℕ). slice_range bs (length bs - (8 * i + 8)) q) to
    ∙ slice_is bs (length bs - (8 * i + 8)) 8
    ∙ slice_bytes bs (length bs - (8 * i + 8)) 8 (omega (arith, le))
  where
    slice_is : (bs : List ℕ) (p n : ℕ) → slice_range bs p (p + n) ≡ take n (drop p bs)
    slice_is bs p n = (let e : p + n - p ≡ n = omega arith in ap (λ (k : ℕ). take k (drop p bs)) e)

turned_from : (bs : List ℕ) (a c : ℕ) → 8 * (a + c) ≤ length bs → flat_map (word_from_end bs) (range_with_len a c) ≡ map (λ k. slice_index bs (input_offset_of (length bs) k)) (range_with_len (8 * a) (8 * c))
turned_from bs a zero le = refl
turned_from bs a (suc c) le =
    let g : ℕ → ℕ = λ k. slice_index bs (input_offset_of (length bs) k) in
    let rest = turned_from bs (a + 1) c (omega (arith, le)) in
    let one = word_bytes bs a (omega (arith, le)) ∙ map_shift (λ k. slice_index bs k) g (length bs - (8 * a + 8)) (8 * a) 8 (λ k lt. same bs a k lt (omega (arith, le))) in
    let e : 8 * (a + 1) ≡ 8 * a + 8 = omega arith in
    let n : 8 + 8 * c ≡ 8 * suc c = omega arith in
    ap (λ (xs : List ℕ). xs ++ flat_map (word_from_end bs) (range_with_len (a + 1) c)) one
    ∙ ap (λ (xs : List ℕ). map g (range_with_len (8 * a) 8) ++ xs) (rest ∙ ap (λ (k : ℕ). map g (range_with_len k (8 * c))) e)
    ∙ sym (map-append g (range_with_len (8 * a) 8) (range_with_len (8 * a + 8) (8 * c)))
    ∙ ap (λ (xs : List ℕ). map g xs) (sym (range_split (8 * a) 8 (8 * c)))
    ∙ ap (λ (k : ℕ). map g (range_with_len (8 * a) k)) n
  where
    same : (bs : List ℕ) (a k : ℕ) → k < 8 → 8 * a + 8 ≤ length bs → slice_index bs (length bs - (8 * a + 8) + k) ≡ slice_index bs (input_offset_of (length bs) (8 * a + k))
    same bs a k lt le = ap (λ (j : ℕ). slice_index bs j) (omega (arith, lt, le))

pub turned_bytes_are : (bs : List ℕ) → length bs % 8 ≡ 0 → reversed_word_bytes bs ≡ reversed_bytes bs
unfolding reversed_word_bytes
turned_bytes_are bs h =
    let e : 8 * (length bs / 8) ≡ length bs = omega (arith, h) in
    turned_from bs 0 (length bs / 8) (omega (arith, h)) ∙ ap (λ (n : ℕ). map (λ k. slice_index bs (input_offset_of (length bs) k)) (range_with_len 0 n)) e

-- ---- relocations

reversed_relocations : (n : ℕ) (rs : List InputRelocation) → map (reversed_offset n) rs ≡ map (reversed_relocation n) rs
reversed_relocations n [] = refl
reversed_relocations n (r ∷ rs) =
    let e : n - r.offset - 8 ≡ n - 8 - r.offset = omega arith in
    ap (λ (o : ℕ). record { offset = o; number = r.number; symbol = r.symbol; addend = r.addend; malformed = r.malformed } ∷ map (reversed_offset n) rs) e ∙ ap (λ (xs : List InputRelocation). reversed_relocation n r ∷ xs) (reversed_relocations n rs)

-- ---- items

-- the section as it stands is that item, where its words are whole
pub turned_item : (l : Layout) (f : File) (s : InputSection) → (s.reversed ≡ true → HasWords l.machine s) → item_of l f (with_word_order s) ≡ placed_item l f s
unfolding with_word_order
turned_item l f s words = by_test s.reversed refl
  where
    by_test : (b : Bool) → s.reversed ≡ b → item_of l f (if b then reversed_section s else s) ≡ record { address = s.address; flags = s.flags; bytes = if b then reversed_bytes s.bytes else s.bytes; relocations = if b then map (reversed_relocation s.size) s.relocations else s.relocations; thunk_block = (placed_item l f s).thunk_block }
    by_test false e = refl
    by_test true e =
        let w = words e in
        let whole = w.whole in
        let long = w.bytes in
        let bytes = turned_bytes_are s.bytes (omega (arith, whole, long)) in
        let relocations = reversed_relocations s.size s.relocations in
        ap (λ (bs : List ℕ). record { address = s.address; flags = s.flags; bytes = bs; relocations = map (reversed_offset s.size) s.relocations; thunk_block = (placed_item l f s).thunk_block }) bytes
        ∙ ap (λ (rs : List InputRelocation). record { address = s.address; flags = s.flags; bytes = reversed_bytes s.bytes; relocations = rs; thunk_block = (placed_item l f s).thunk_block }) relocations
