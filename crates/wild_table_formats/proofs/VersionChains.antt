-- Bytes behind each other in a room.
use Rattle.std.proofs.Common.{◌≡◌, ℕ, zero, suc, ◌+◌, ◌<◌, ◌≤◌, ◌==◌, Bool, List, [], ◌∷◌, ◌++◌, length, drop, get_or, refl, sym, ap, ◌∙◌, arith}
use Rattle.std.specs.Prelude.{Option}
use Rattle.std.proofs.Math.Dec.{eqb-zero-suc, eqb-suc-suc}
use Rattle.std.proofs.lemmas.List.{append_assoc, append-nil, drop_more, drop_all}
use Rattle.wild_words.proofs.WordLemmas.{front-place}
use Rattle.wild_table_formats.specs.VersionRoom.{BufferContent, with_bytes}
use Rattle.wild_types.specs.declared.file.NeededVersion.{NeededVersion}
use Rattle.wild_types.specs.declared.layout.VersionDefinition.{VersionDefinition}
use Rattle.wild_table_formats.specs.VersionChain.{chain, is_end}
use Rattle.wild_table_formats.specs.VersionDefinitions.{definition_bytes}
use Rattle.wild_needs.specs.Versions.{definition_size, definitions_size}
use Rattle.wild_table_formats.specs.VersionNeeds.{needed_bytes}

-- what is put behind the first bytes of a share
pub ruleset front_of = (front-place)

-- bytes behind bytes
pub with_bytes_append : (xs ys : List ℕ) (t : BufferContent) → with_bytes ys (with_bytes xs t) ≡ with_bytes (xs ++ ys) t
with_bytes_append xs ys t = ap (λ (bs : List ℕ). record t { bytes = bs }) (append_assoc t.bytes xs ys)

-- bytes behind which nothing follows
pub nothing : (t : BufferContent) → with_bytes [] t ≡ t
nothing t = ap (λ (bs : List ℕ). record t { bytes = bs }) (append-nil t.bytes)

pub alone : (xs : List ℕ) (t : BufferContent) → with_bytes (xs ++ []) t ≡ with_bytes xs t
alone xs t = ap (λ (bs : List ℕ). with_bytes bs t) (append-nil xs)

-- ---- chains

-- nothing follows where the place behind is the number of items
end_at : {X : Type 0} (xs : List X) (i : ℕ) → i ≤ length xs → is_end (drop i xs) ≡ (i == length xs)
end_at [] zero h = refl
end_at [] (suc i) h = absurd (omega (arith, h))
end_at (x ∷ xs) zero h = sym (eqb-zero-suc (length xs))
end_at (x ∷ xs) (suc i) h = end_at xs i (omega (arith, h)) ∙ sym (eqb-suc-suc i (length xs))

pub chain-cons : {X : Type 0} (f : ℕ → Bool → X → List ℕ) (i : ℕ) (x : X) (xs : List X) → chain f i (x ∷ xs) ≡ f i (is_end xs) x ++ chain f (i + 1) xs
unfolding chain
chain-cons f i x xs = refl

pub chain-nil : {X : Type 0} (f : ℕ → Bool → X → List ℕ) (i : ℕ) → chain f i [] ≡ []
unfolding chain
chain-nil f i = refl

-- one item, and those behind it
chain_next : {X : Type 0} (f : ℕ → Bool → X → List ℕ) (xs : List X) (i : ℕ) (x : X) (last : Bool) → i < length xs → x ≡ get_or xs i x → last ≡ (i + 1 == length xs)
    → chain f i (drop i xs) ≡ f i last x ++ chain f (i + 1) (drop (i + 1) xs)
chain_next {X} f xs i x last l r e =
    ap (chain f i) (drop_more xs i x l)
    ∙ chain-cons f i (get_or xs i x) (drop (i + 1) xs)
    ∙ ap (λ (b : Bool). f i b (get_or xs i x) ++ chain f (i + 1) (drop (i + 1) xs)) (end_at xs (i + 1) (omega (arith, l)) ∙ sym e)
    ∙ ap (λ (y : X). f i last y ++ chain f (i + 1) (drop (i + 1) xs)) (sym r)

-- one item more in a room, with what is to come
chain_more : {X : Type 0} (f : ℕ → Bool → X → List ℕ) (xs : List X) (i : ℕ) (x : X) (last : Bool) (t u : BufferContent) → i < length xs → x ≡ get_or xs i x → last ≡ (i + 1 == length xs)
    → with_bytes (chain f i (drop i xs)) t ≡ u → with_bytes (chain f (i + 1) (drop (i + 1) xs)) (with_bytes (f i last x) t) ≡ u
chain_more f xs i x last t u l r e h =
    with_bytes_append (f i last x) (chain f (i + 1) (drop (i + 1) xs)) t
    ∙ ap (λ (bs : List ℕ). with_bytes bs t) (sym (chain_next f xs i x last l r e))
    ∙ h

-- nothing is to come
chain_end : {X : Type 0} (f : ℕ → Bool → X → List ℕ) (xs : List X) (i : ℕ) (t u : BufferContent) → length xs ≤ i → with_bytes (chain f i (drop i xs)) t ≡ u → t ≡ u
chain_end f xs i t u l h = sym (ap (λ (bs : List ℕ). with_bytes bs t) (ap (chain f i) (drop_all i xs l) ∙ chain-nil f i) ∙ nothing t) ∙ h

pub definition_more : (names : List ℕ) (soname : Option (List ℕ)) (ds : List VersionDefinition) (i j : ℕ) (d : VersionDefinition) (last : Bool) (t u : BufferContent) → i < length ds → d ≡ get_or ds i d → j ≡ i + 1 → last ≡ (i + 1 == length ds)
    → with_bytes (chain (definition_bytes names soname) i (drop i ds)) t ≡ u → with_bytes (chain (definition_bytes names soname) j (drop j ds)) (with_bytes (definition_bytes names soname i last d) t) ≡ u
definition_more names soname ds i j d last t u l r s e h = rw s (chain_more (definition_bytes names soname) ds i d last t u l r e h)

pub definition_end : (names : List ℕ) (soname : Option (List ℕ)) (ds : List VersionDefinition) (i : ℕ) (t u : BufferContent) → i ≡ length ds → with_bytes (chain (definition_bytes names soname) i (drop i ds)) t ≡ u → t ≡ u
definition_end names soname ds i t u l h = chain_end (definition_bytes names soname) ds i t u (omega (arith, l)) h

-- the room for what is to come
pub definition_room : (ds : List VersionDefinition) (i : ℕ) (d : VersionDefinition) (used next room : ℕ) → i < length ds → d ≡ get_or ds i d → next ≡ used + definition_size d → used + definitions_size (drop i ds) ≤ room → next + definitions_size (drop (i + 1) ds) ≤ room
definition_room ds i d used next room l r e h =
    let s : definitions_size (drop i ds) ≡ definition_size (get_or ds i d) + definitions_size (drop (i + 1) ds) = ap (λ (xs : List VersionDefinition). definitions_size xs) (drop_more ds i d l) in
    let z : definition_size d ≡ definition_size (get_or ds i d) = ap (λ (x : VersionDefinition). definition_size x) r in
    omega (arith, s, z, e, h)

pub needed_more : (names : List ℕ) (vs : List NeededVersion) (i j : ℕ) (v : NeededVersion) (last : Bool) (t u : BufferContent) → i < length vs → v ≡ get_or vs i v → j ≡ i + 1 → last ≡ (i + 1 == length vs)
    → with_bytes (chain (needed_bytes names) i (drop i vs)) t ≡ u → with_bytes (chain (needed_bytes names) j (drop j vs)) (with_bytes (needed_bytes names i last v) t) ≡ u
needed_more names vs i j v last t u l r s e h = rw s (chain_more (needed_bytes names) vs i v last t u l r e h)

pub needed_end : (names : List ℕ) (vs : List NeededVersion) (i : ℕ) (t u : BufferContent) → i ≡ length vs → with_bytes (chain (needed_bytes names) i (drop i vs)) t ≡ u → t ≡ u
needed_end names vs i t u l h = chain_end (needed_bytes names) vs i t u (omega (arith, l)) h

pub ruleset definition_steps = (definition_more, definition_end)

pub ruleset need_steps = (needed_more, needed_end)

pub ruleset name_steps = (with_bytes_append, alone)
