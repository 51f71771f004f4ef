-- The tables of files and groups, and the offsets of names, one behind the other.
use Rattle.std.proofs.Common.{◌≡◌, ℕ, ◌+◌, ◌<◌, ◌≤◌, List, [], ◌∷◌, ◌++◌, length, map, drop, get_or, sym, ap, ◌∙◌, arith, subst}
use Rattle.std.proofs.lemmas.List.{append_assoc, append-nil, length-append, drop_more, drop_all}
use Rattle.std.proofs.lemmas.Grind.{flat_map-append}
use Rattle.wild_types.specs.declared.file.File.{File}
use Rattle.wild_types.specs.declared.layout.Layout.{Layout}
use Rattle.wild_needs.specs.DynamicStrings.{offset_after_string, next_dynstr}
use Rattle.wild_table_formats.specs.VersionRoom.{BufferContent, with_bytes, IsFull}
use Rattle.wild_table_formats.specs.SymbolVersions.{spelled, version_bytes}
use Rattle.wild_table_formats.proofs.VersionLengths.{length-versym, length-definition_table, length-need_bytes}
use Rattle.wild_table_formats.specs.VersionNames.{offset_u32, offsets_from, need_of, needs_from}

pub ruleset sizes = (length-definition_table)

-- bytes that fill the room that was made for them
pub full_with : (bs : List ℕ) (n : ℕ) (t : BufferContent) → length bs ≡ n → IsFull t → IsFull (with_bytes bs (record t { room = t.room + n }))
full_with bs n t e h = let a = length-append t.bytes bs in omega (arith, a, e, h)

-- ---- offsets

pub offset_more : (front : List ℕ) (at : ℕ) (n : List ℕ) (ns : List (List ℕ)) → (front ++ offset_u32 at ∷ []) ++ offsets_from (offset_after_string at n) ns ≡ front ++ offsets_from at (n ∷ ns)
unfolding offsets_from
offset_more front at n ns = append_assoc front (offset_u32 at ∷ []) (offsets_from (offset_after_string at n) ns)

pub offset_end : (front : List ℕ) (at : ℕ) → front ++ offsets_from at [] ≡ front
unfolding offsets_from
offset_end front at = append-nil front

-- one name more, of items that have one each
pub offsets_step : {X : Type 0} (name : X → List ℕ) (xs : List X) (i : ℕ) (x : X) (at next : ℕ) (front longer goal : List ℕ) → i < length xs → x ≡ get_or xs i x → next ≡ offset_after_string at (name x) → longer ≡ front ++ offset_u32 at ∷ []
    → front ++ offsets_from at (map name (drop i xs)) ≡ goal → longer ++ offsets_from next (map name (drop (i + 1) xs)) ≡ goal
offsets_step {X} name xs i x at next front longer goal l r n w h =
    let P : List X → Type 0 = λ ys. front ++ offsets_from at (map name ys) ≡ goal in
    let split : drop i xs ≡ x ∷ drop (i + 1) xs = drop_more xs i x l ∙ ap (λ (y : X). y ∷ drop (i + 1) xs) (sym r) in
    rw (n, w) (offset_more front at (name x) (map name (drop (i + 1) xs)) ∙ subst P split h)

pub offsets_done : {X : Type 0} (name : X → List ℕ) (xs : List X) (i at : ℕ) (front goal : List ℕ) → length xs ≤ i → front ++ offsets_from at (map name (drop i xs)) ≡ goal → front ≡ goal
offsets_done {X} name xs i at front goal l h =
    let P : List X → Type 0 = λ ys. front ++ offsets_from at (map name ys) ≡ goal in
    sym (offset_end front at) ∙ subst P (drop_all i xs l) h

-- ---- versions of symbols

pub version_more : (front : List ℕ) (v : ℕ) (vs : List ℕ) → (front ++ spelled v) ++ version_bytes vs ≡ front ++ version_bytes (v ∷ vs)
version_more front v vs = append_assoc front (spelled v) (version_bytes vs)

pub version_end : (front : List ℕ) → front ++ version_bytes [] ≡ front
version_end front = append-nil front

pub versions_joined : (front xs ys : List ℕ) → (front ++ version_bytes xs) ++ version_bytes ys ≡ front ++ version_bytes (xs ++ ys)
versions_joined front xs ys =
    append_assoc front (version_bytes xs) (version_bytes ys) ∙ ap (λ (bs : List ℕ). front ++ bs) (sym (flat_map-append spelled xs ys))

pub ruleset version_steps = (version_more, version_end)

-- ---- versions that are needed

pub need_more : (l : Layout) (front : List ℕ) (at : ℕ) (f : File) (fs : List File) → (front ++ need_of l at f) ++ needs_from l (next_dynstr l at f) fs ≡ front ++ needs_from l at (f ∷ fs)
need_more l front at f fs = append_assoc front (need_of l at f) (needs_from l (next_dynstr l at f) fs)

pub need_end : (l : Layout) (front : List ℕ) (at : ℕ) → front ++ needs_from l at [] ≡ front
need_end l front at = append-nil front

pub ruleset need_steps = (need_more, need_end)
