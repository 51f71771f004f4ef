-- Laws of bytes that are written over the first bytes of an image.
use Rattle.wild_image.proofs.Common.{◌≡◌, ℕ, ◌+◌, ◌-◌, ◌<◌, ◌≤◌, List, [], ◌∷◌, ◌++◌, length, take, get_or, refl, sym, ap, ◌∙◌, arith, subst, All, flat_map, take_all, All-head, All-tail, Piece, overlay, flat_map-more, place_in_prefix, overlay_prefix}
use Rattle.std.proofs.lemmas.List.{places, same_lists}
use Rattle.wild_words.specs.Words.{place}
use Rattle.wild_words.proofs.OverlayLemmas.{length-place}

-- ---- one piece

-- past the end nothing is written
pub nothing_placed : (at : ℕ) (part old : List ℕ) → length old ≤ at → old ≡ place_in_prefix at part old
unfolding place_in_prefix place
nothing_placed at part old h = same_lists _ _ (grind (arith, places)) (λ k d low. grind (arith, places))

-- a piece that is longer than what follows
pub front_placed : (at n : ℕ) (part own old new : List ℕ) → n ≡ length old - at → own ≡ take n part → new ≡ place at own old → new ≡ place_in_prefix at part old
unfolding place_in_prefix
front_placed at n part own old new room front e = e ∙ ap (λ (bs : List ℕ). place at bs old) (front ∙ ap (λ (m : ℕ). take m part) room)

-- a piece that is not
pub all_placed : (at : ℕ) (part old new : List ℕ) → length part ≤ length old - at → new ≡ place at part old → new ≡ place_in_prefix at part old
unfolding place_in_prefix
all_placed at part old new fits e = e ∙ ap (λ (bs : List ℕ). place at bs old) (sym (take_all (length old - at) part fits))

-- a piece of the image, written over the image's first bytes
pub place_taken : (n at : ℕ) (part image : List ℕ) → at + length part ≤ length image → place_in_prefix at part (take n image) ≡ take n (place at part image)
unfolding place_in_prefix place
place_taken n at part image fits = same_lists _ _ (grind (arith, places)) (λ k d low. grind (arith, places))

-- ---- several pieces

pub overlay_prefix-append : (ps qs : List Piece) (old : List ℕ) → overlay_prefix (ps ++ qs) old ≡ overlay_prefix qs (overlay_prefix ps old)
overlay_prefix-append [] qs old = refl
overlay_prefix-append (p ∷ ps) qs old = overlay_prefix-append ps qs (place_in_prefix p.at p.bytes old)

-- one more item's pieces
pub overlay_prefix-more : {X : Type 0} (f : X → List Piece) (xs : List X) (i : ℕ) (d : X) (base now next : List ℕ) → i < length xs → now ≡ overlay_prefix (flat_map f (take i xs)) base → next ≡ overlay_prefix (f (get_or xs i d)) now → next ≡ overlay_prefix (flat_map f (take (i + 1) xs)) base
overlay_prefix-more f xs i d base now next h e s =
    s ∙ ap (overlay_prefix (f (get_or xs i d))) e ∙ sym (overlay_prefix-append (flat_map f (take i xs)) (f (get_or xs i d)) base) ∙ ap (λ (ps : List Piece). overlay_prefix ps base) (sym (flat_map-more f xs i d h))

-- the same, for an item that a loop read
pub overlay_prefix_read : {X : Type 0} (f : X → List Piece) (xs : List X) (i : ℕ) (x : X) (base now next : List ℕ) → i < length xs → x ≡ get_or xs i x → now ≡ overlay_prefix (flat_map f (take i xs)) base → next ≡ overlay_prefix (f x) now → next ≡ overlay_prefix (flat_map f (take (i + 1) xs)) base
overlay_prefix_read {X} f xs i x base now next h read e s = let P : X → Type 0 = λ y. next ≡ overlay_prefix (f y) now in overlay_prefix-more f xs i x base now next h e (subst P read s)

-- pieces of the image, written over the image's first bytes
pub overlay_taken : (n : ℕ) (ps : List Piece) (image : List ℕ) → All (λ (p : Piece). p.at + length p.bytes ≤ length image) ps → overlay_prefix ps (take n image) ≡ take n (overlay ps image)
overlay_taken n [] image h = refl
overlay_taken n (p ∷ ps) image h =
    let P : ℕ → Piece → Type 0 = λ m q. q.at + length q.bytes ≤ m in
    let fits : p.at + length p.bytes ≤ length image = All-head (P (length image)) p ps h in
    let long = length-place p.at image p.bytes fits in
    let rest : All (P (length image)) ps = All-tail (P (length image)) p ps h in
    ap (overlay_prefix ps) (place_taken n p.at p.bytes image fits)
    ∙ overlay_taken n ps (place p.at p.bytes image) (subst (λ (m : ℕ). All (P m) ps) (sym long) rest)

-- and over the whole image
pub overlay_whole : (ps : List Piece) (image : List ℕ) → All (λ (p : Piece). p.at + length p.bytes ≤ length image) ps → overlay_prefix ps image ≡ overlay ps image
overlay_whole [] image h = refl
overlay_whole (p ∷ ps) image h =
    let P : ℕ → Piece → Type 0 = λ m q. q.at + length q.bytes ≤ m in
    let fits : p.at + length p.bytes ≤ length image = All-head (P (length image)) p ps h in
    let long = length-place p.at image p.bytes fits in
    let rest : All (P (length image)) ps = All-tail (P (length image)) p ps h in
    ap (overlay_prefix ps) (sym (all_placed p.at p.bytes image (place p.at p.bytes image) (omega (arith, fits)) refl))
    ∙ overlay_whole ps (place p.at p.bytes image) (subst (λ (m : ℕ). All (P m) ps) (sym long) rest)
