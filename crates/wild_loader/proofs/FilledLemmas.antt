-- Tables whose entries store words are applied.
use Rattle.std.proofs.Common.{◌≡◌, ℕ, suc, ◌+◌, ◌%◌, ◌^◌, ◌<◌, ◌≤◌, ◌⊎◌, inl, inr, List, [], ◌∷◌, ◌++◌, length, get_or, map, refl, sym, ap, ◌∙◌, arith, subst}
use Rattle.std.specs.Prelude.{All, AllPairs, None, Ok}
use Rattle.std.specs.List.Sorted.{IsPermutation}
use Rattle.std.proofs.lemmas.List.Sorted.{IsPermutation-map}
use Rattle.std.proofs.lemmas.List.{append_assoc, append-nil, length-map, get_or-map, map-append}
use Rattle.std.proofs.lemmas.List.Elements.{All-nil, All-cons, All-head, All-tail, All-append, All-map}
use Rattle.wild_words.specs.Words.{word, number}
use Rattle.wild_words.proofs.WordLemmas.{length-word, number-word}
use Rattle.wild_records.specs.declared.relocations.Rela.{Rela}
use Rattle.wild_loader.specs.declared.change.Change.TheVariants as changes
use Rattle.wild_loader.specs.declared.change.Patch.{Patch}
use Rattle.wild_loader.specs.declared.memory.Memory.{Memory}
use Rattle.wild_loader.specs.declared.memory.Run.{Run}
use Rattle.wild_loader.specs.declared.tables.Tables.{Tables}
use Rattle.wild_loader.specs.declared.world.World.{World}
use Rattle.wild_loader.specs.Memory.{Holds}
use Rattle.wild_loader.specs.Places.{places}
use Rattle.wild_loader.specs.Changes.{change_of}
use Rattle.wild_loader.specs.Relocate.{rela_patch, place_patch, runs_of_patches, loaded_at, memory_with_patches, relocate}
use Rattle.wild_loader.specs.SegmentLaws.{DoesNotOverlap, IsOutsideRun}
use Rattle.wild_loader.specs.EntryLaws.{HasMade, patches_of}
use Rattle.wild_loader.specs.FilledLaws.{StoresWord, RelativesStoreWords, ResolvedStoreWords, DoNotOverlap, loaded_places, AreWords, TablesAreFilled}
use Rattle.wild_loader.proofs.OverlaidBytes.{elsewhere}
use Rattle.wild_loader.proofs.SegmentLemmas.{beside-apart}
use Rattle.wild_loader.proofs.EntryLemmas.{place-moved, entry-changed, tables-applied, order-free}

-- eight bytes of a number at an address
abbrev word_patch : ℕ → ℕ → Patch
word_patch a x = record { run = record { start = a; bytes = word 8 x }; offset = None }

number-moved : (w : World) (before : Memory) (x v : ℕ) → v < 2 ^ 64 → Holds before (loaded_at w x) (word 8 v) → place_patch w before x ≡ Ok (word_patch (loaded_at w x) ((v + w.base) % 2 ^ 64))
number-moved w before x v small held =
    let e : number (word 8 v) ≡ v = number-word 8 v small in
    place-moved w before x (word 8 v) held (length-word 8 v) ∙ rw e refl

pub relative-stored : RelativesStoreWords
unfolding change_of
relative-stored w r = refl

pub resolved-stored : ResolvedStoreWords
unfolding change_of
resolved-stored w r v answer = rw answer refl

entry-stored : (w : World) (before : Memory) (u : Rela → ℕ) (r : Rela) → StoresWord w before u r → rela_patch w before r ≡ Ok (word_patch (loaded_at w r.offset) (u r))
entry-stored w before u r h = entry-changed w before r h.kind (changes.Word (u r)) h.old h.known h.change h.held h.wide

-- ---- places beside each other

-- a change of eight bytes
abbrev IsWord : Patch → Type 0
IsWord p = length p.run.bytes ≡ 8

beside-runs : (ps : List Patch) → All IsWord ps → AllPairs DoNotOverlap (map (λ (p : Patch). p.run.start) ps) → AllPairs DoesNotOverlap (runs_of_patches ps)
beside-runs ps wide h = λ i j d l m.
    let n = length-map ps (λ (p : Patch). p.run) in
    let o = length-map ps (λ (p : Patch). p.run.start) in
    let e : Patch = record { run = d; offset = None } in
    let a = get_or-map (λ (p : Patch). p.run) ps i e d (omega (arith, n)) in
    let b = get_or-map (λ (p : Patch). p.run) ps j e d (omega (arith, n)) in
    let p = get_or-map (λ (p : Patch). p.run.start) ps i e 0 (omega (arith, n, o)) in
    let q = get_or-map (λ (p : Patch). p.run.start) ps j e 0 (omega (arith, n, o)) in
    let x = wide i e (omega (arith, n)) in
    let y = wide j e (omega (arith, n)) in
    let both = h i j 0 l (omega (arith, n, o)) in
    let at = rw (p, q) at both in
    rw (a, b) (beside-apart (get_or ps i e).run (get_or ps j e).run (apart-by (get_or ps i e) (get_or ps j e) x y at))
  where
    apart-by : (p q : Patch) → IsWord p → IsWord q → DoNotOverlap p.run.start q.run.start → (p.run.start + length p.run.bytes ≤ q.run.start) ⊎ (q.run.start + length q.run.bytes ≤ p.run.start)
    apart-by p q x y (inl h) = inl (omega (arith, x, h))
    apart-by p q x y (inr h) = inr (omega (arith, y, h))

-- eight bytes at a place
abbrev word_run : ℕ → Run
word_run a = record { start = a; bytes = word 8 0 }

beside-words : (a b : ℕ) → DoNotOverlap a b → DoesNotOverlap (word_run a) (word_run b)
beside-words a b h = beside-apart (word_run a) (word_run b) (wide a b h)
  where
    wide : (a b : ℕ) → DoNotOverlap a b → (a + length (word 8 0) ≤ b) ⊎ (b + length (word 8 0) ≤ a)
    wide a b (inl h) = let n = length-word 8 0 in inl (omega (arith, n, h))
    wide a b (inr h) = let n = length-word 8 0 in inr (omega (arith, n, h))

words-beside : (a b : ℕ) → DoesNotOverlap (word_run a) (word_run b) → DoNotOverlap a b
words-beside a b h =
    let n = length-word 8 0 in
    let one = elsewhere (word_run a) (word_run b) 0 h (omega (arith, n)) in
    let two = elsewhere (word_run a) (word_run b) 7 h (omega (arith, n)) in
    by_sides a b (length (word 8 0)) n one two
  where
    by_sides : (a b n : ℕ) → n ≡ 8 → (a + 0 < b) ⊎ (b + n ≤ a + 0) → (a + 7 < b) ⊎ (b + n ≤ a + 7) → DoNotOverlap a b
    by_sides a b n e (inr h) two = inr (omega (arith, e, h))
    by_sides a b n e (inl h) (inl k) = inl (omega (arith, k))
    by_sides a b n e (inl h) (inr k) = absurd (omega (arith, e, h, k))

-- whether places are beside each other does not go by their order
beside-order : (xs ys : List ℕ) → IsPermutation xs ys → AllPairs DoNotOverlap xs → AllPairs DoNotOverlap ys
beside-order xs ys moved h = back ys (order-free (map word_run xs) (map word_run ys) (IsPermutation-map word_run xs ys moved) (there xs h))
  where
    there : (xs : List ℕ) → AllPairs DoNotOverlap xs → AllPairs DoesNotOverlap (map word_run xs)
    there xs h = λ i j d l m.
        let n = length-map xs word_run in
        let a = get_or-map word_run xs i 0 d (omega (arith, n, m)) in
        let b = get_or-map word_run xs j 0 d (omega (arith, n, m)) in
        rw (a, b) (beside-words (get_or xs i 0) (get_or xs j 0) (h i j 0 l (omega (arith, n, m))))

    back : (ys : List ℕ) → AllPairs DoesNotOverlap (map word_run ys) → AllPairs DoNotOverlap ys
    back ys h = λ i j d l m.
        let n = length-map ys word_run in
        let a = get_or-map word_run ys i d (word_run 0) (omega arith) in
        let b = get_or-map word_run ys j d (word_run 0) m in
        let both = h i j (word_run 0) l (omega (arith, n, m)) in
        words-beside (get_or ys i d) (get_or ys j d) (rw (a, b) at both)

map-map : {X : Type 0} (h : X → Patch) (s : X → ℕ) → ((x : X) → (h x).run.start ≡ s x) → (xs : List X) → map (λ (p : Patch). p.run.start) (map h xs) ≡ map s xs
map-map h s e [] = refl
map-map h s e (x ∷ xs) = rw (e x, map-map h s e xs) refl

all-words : {X : Type 0} (h : X → Patch) → ((x : X) → IsWord (h x)) → (xs : List X) → All IsWord (map h xs)
all-words h e xs = All-map IsWord h xs (λ k d l. e (get_or xs k d))

-- ---- tables

-- what is stored at a packed place, and by an entry
abbrev packed_word : World → (ℕ → ℕ) → ℕ → Patch
packed_word w v x = word_patch (loaded_at w x) ((v x + w.base) % 2 ^ 64)

abbrev entry_word : World → (Rela → ℕ) → Rela → Patch
entry_word w u r = word_patch (loaded_at w r.offset) (u r)

abbrev stored : World → Tables → (ℕ → ℕ) → (Rela → ℕ) → List Patch
stored w t v u = patches_of t (packed_word w v) (entry_word w u)

made : (w : World) (before : Memory) (t : Tables) (v : ℕ → ℕ) (u : Rela → ℕ) → AreWords w before t v u → HasMade w before t (packed_word w v) (entry_word w u)
made w before t v u are = record {
  words = λ k d l. let h = are.numbers k d l in number-moved w before (get_or (places t.words) k d) (v (get_or (places t.words) k d)) h.0 h.1;
  entries = λ k d l. entry-stored w before u (get_or t.entries k d) (are.entries k d l);
  jumps = λ k d l. entry-stored w before u (get_or t.jumps k d) (are.jumps k d l);
}

wide : (w : World) (t : Tables) (v : ℕ → ℕ) (u : Rela → ℕ) → All IsWord (stored w t v u)
wide w t v u =
    let a = map (packed_word w v) (places t.words) in
    let b = map (entry_word w u) t.entries in
    let c = map (entry_word w u) t.jumps in
    All-append IsWord (a ++ b) c (All-append IsWord a b (all-words (packed_word w v) (λ x. length-word 8 _) (places t.words)) (all-words (entry_word w u) (λ r. length-word 8 _) t.entries)) (all-words (entry_word w u) (λ r. length-word 8 _) t.jumps)

starts : (w : World) (t : Tables) (v : ℕ → ℕ) (u : Rela → ℕ) → map (λ (p : Patch). p.run.start) (stored w t v u) ≡ loaded_places w t
starts w t v u =
    let start : Patch → ℕ = λ p. p.run.start in
    let a = map (packed_word w v) (places t.words) in
    let b = map (entry_word w u) t.entries in
    let c = map (entry_word w u) t.jumps in
    map-append start (a ++ b) c
    ∙ rw (map-append start a b, map-map (packed_word w v) (λ x. loaded_at w x) (λ x. refl) (places t.words), map-map (entry_word w u) (λ r. loaded_at w r.offset) (λ r. refl) t.entries, map-map (entry_word w u) (λ r. loaded_at w r.offset) (λ r. refl) t.jumps) refl

pairs : (w : World) (before : Memory) (t : Tables) (v : ℕ → ℕ) (u : Rela → ℕ) → AreWords w before t v u → AllPairs DoesNotOverlap (runs_of_patches (stored w t v u))
pairs w before t v u are = beside-runs (stored w t v u) (wide w t v u) (subst (AllPairs DoNotOverlap) (sym (starts w t v u)) (beside-order are.order (loaded_places w t) are.ordered are.beside))

elsewhere-all : (x : ℕ) (ps : List Patch) → All IsWord ps → All (λ y. (x < y) ⊎ (y + 8 ≤ x)) (map (λ (p : Patch). p.run.start) ps) → All (IsOutsideRun x) (runs_of_patches ps)
elsewhere-all x [] wide out = All-nil _
elsewhere-all x (p ∷ ps) wide out = All-cons (IsOutsideRun x) p.run (runs_of_patches ps) (one x p (All-head IsWord p ps wide) (out 0 0 (omega arith))) (elsewhere-all x ps (All-tail IsWord p ps wide) (λ k d l. out (suc k) d (omega arith)))
  where
    one : (x : ℕ) (p : Patch) → IsWord p → (x < p.run.start) ⊎ (p.run.start + 8 ≤ x) → IsOutsideRun x p.run
    one x p n (inl h) = inl h
    one x p n (inr h) = inr (omega (arith, n, h))

pub tables-filled : TablesAreFilled
tables-filled w before t v u are =
    let all = tables-applied w before t (packed_word w v) (entry_word w u) (made w before t v u are) (pairs w before t v u are) in (
      memory_with_patches before (stored w t v u),
      record {
        is = all.is;
        machine = refl;
        numbers = all.words;
        entries = all.entries;
        jumps = all.jumps;
        others = λ x out. all.others x (elsewhere-all x (stored w t v u) (wide w t v u) (subst (All (λ y. (x < y) ⊎ (y + 8 ≤ x))) (sym (starts w t v u)) out));
      },
    )

-- ---- one list of entries

-- the entries of stubs behind the others
abbrev joined : Tables → Tables
joined t = record { words = t.words; entries = t.entries ++ t.jumps; jumps = [] }

joined-stored : (w : World) (t : Tables) (v : ℕ → ℕ) (u : Rela → ℕ) → stored w (joined t) v u ≡ stored w t v u
joined-stored w t v u =
    let f = entry_word w u in
    let a = map (packed_word w v) (places t.words) in
    append-nil (a ++ map f (t.entries ++ t.jumps)) ∙ rw (map-append f t.entries t.jumps) (sym (append_assoc a (map f t.entries) (map f t.jumps)))

-- relocating gives the same
pub joined-relocated : (w : World) (before : Memory) (t : Tables) (v : ℕ → ℕ) (u : Rela → ℕ) → AreWords w before t v u → relocate w before (joined t) ≡ relocate w before t
joined-relocated w before t v u are =
    let f = entry_word w u in
    let each = made w before t v u are in
    let apart = pairs w before t v u are in
    let e = joined-stored w t v u in
    let whole : HasMade w before (joined t) (packed_word w v) f = record { words = each.words; entries = All-append (λ r. rela_patch w before r ≡ Ok (f r)) t.entries t.jumps each.entries each.jumps; jumps = All-nil _ } in
    let one = tables-applied w before (joined t) (packed_word w v) f whole (subst (λ (ps : List Patch). AllPairs DoesNotOverlap (runs_of_patches ps)) (sym e) apart) in
    let other = tables-applied w before t (packed_word w v) f each apart in
    one.is ∙ ap (λ (ps : List Patch). Ok (memory_with_patches before ps)) e ∙ sym other.is
