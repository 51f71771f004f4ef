-- Laws of bytes that a loop puts one behind the other, as those of a table of relocations and of a group.
use Rattle.std.proofs.Common.{◌≡◌, ℕ, ◌+◌, ◌*◌, ◌<◌, ◌≤◌, List, [], ◌∷◌, ◌++◌, length, take, get_or, map, refl, sym, ap, ◌∙◌, arith, subst}
use Rattle.std.specs.List.{flat_map}
use Rattle.std.proofs.lemmas.List.{append_assoc, append-nil, take_all, length-append}
use Rattle.wild_words.proofs.Basics.{length-flat_map_each}
use Rattle.wild_words.specs.Words.{place, word}
use Rattle.wild_words.specs.Record.{spell}
use Rattle.wild_words.proofs.ListLemmas.{flat_map-more}
use Rattle.wild_words.proofs.WordLemmas.{front-place, length-word}
use Rattle.wild_records.specs.Relocations.{rela_fields}
use Rattle.wild_types.specs.declared.input.InputRelocation.{InputRelocation}
use Rattle.wild_types.specs.declared.input.InputSection.{InputSection}
use Rattle.wild_types.specs.declared.layout.Layout.{Layout}
use Rattle.wild_table_formats.specs.RelativeEntries.{rela_bytes}
use Rattle.wild_table_formats.proofs.EntryLemmas.{length-rela}
use Rattle.wild_layout.specs.Partial.{rela_of, rela_bytes_of, group_words}

-- one more item's bytes, behind those of the others
pub put_more : {X : Type 0} (f : X → List ℕ) (xs : List X) (i : ℕ) (x : X) (front old new : List ℕ) (a b : ℕ) → i < length xs → x ≡ get_or xs i x → b ≡ a + length (f x) → a ≤ length old
    → take a old ≡ front ++ flat_map f (take i xs) → new ≡ place a (f x) old → take b new ≡ front ++ flat_map f (take (i + 1) xs)
put_more {X} f xs i x front old new a b low read ends fits before step =
    let P : X → Type 0 = λ y. front ++ (flat_map f (take i xs) ++ f y) ≡ front ++ flat_map f (take (i + 1) xs) in
    ap (take b) step ∙ front-place a b old (f x) ends fits ∙ ap (λ (bs : List ℕ). bs ++ f x) before ∙ append_assoc front (flat_map f (take i xs)) (f x)
    ∙ subst P (sym read) (ap (λ (bs : List ℕ). front ++ bs) (sym (flat_map-more f xs i x low)))

-- the bytes of an entry
abbrev pub entry_of : Layout → InputRelocation → List ℕ
entry_of l r = spell (rela_fields (rela_of l r))

entries_mapped : (l : Layout) (rs : List InputRelocation) → flat_map (entry_of l) rs ≡ rela_bytes (map (rela_of l) rs)
entries_mapped l [] = refl
entries_mapped l (r ∷ rs) = ap (λ (bs : List ℕ). entry_of l r ++ bs) (entries_mapped l rs)

pub entry_more : (l : Layout) (rs : List InputRelocation) (i : ℕ) (r : InputRelocation) (old new : List ℕ) → i < length rs → r ≡ get_or rs i r → 24 * i ≤ length old → take (24 * i) old ≡ flat_map (entry_of l) (take i rs) → new ≡ place (24 * i) (entry_of l r) old
    → take (24 * (i + 1)) new ≡ flat_map (entry_of l) (take (i + 1) rs)
entry_more l rs i r old new low read fits before step =
    let n = length-rela (rela_of l r) in
    put_more (entry_of l) rs i r [] old new (24 * i) (24 * (i + 1)) low read (omega (arith, n)) fits before step

pub entries_done : (l : Layout) (s : InputSection) (i : ℕ) (out : List ℕ) → length out ≡ 24 * length s.relocations → length s.relocations ≤ i → take (24 * i) out ≡ flat_map (entry_of l) (take i s.relocations) → out ≡ rela_bytes_of l s
unfolding rela_bytes_of
entries_done l s i out long end all =
    sym (take_all (24 * i) out (omega (arith, long, end))) ∙ all ∙ ap (flat_map (entry_of l)) (take_all i s.relocations end) ∙ entries_mapped l s.relocations

pub member_more : (front : List ℕ) (ms : List ℕ) (i m : ℕ) (old new : List ℕ) → i < length ms → m ≡ get_or ms i m → length front + 4 * i ≤ length old → take (length front + 4 * i) old ≡ front ++ flat_map (word 4) (take i ms) → new ≡ place (length front + 4 * i) (word 4 m) old
    → take (length front + 4 * (i + 1)) new ≡ front ++ flat_map (word 4) (take (i + 1) ms)
member_more front ms i m old new low read fits before step =
    let n = length-word 4 m in
    put_more (word 4) ms i m front old new (length front + 4 * i) (length front + 4 * (i + 1)) low read (omega (arith, n)) fits before step

-- the flags, put
pub flags_put : (flags out new ms : List ℕ) → new ≡ place 0 flags out → take (length flags + 4 * 0) new ≡ flags ++ flat_map (word 4) (take 0 ms)
flags_put flags out new ms e = ap (take (length flags + 4 * 0)) e ∙ front-place 0 (length flags + 4 * 0) out flags (omega arith) (omega arith) ∙ sym (append-nil flags)

pub member_done : (s : InputSection) (i : ℕ) (front out : List ℕ) → front ≡ take 4 s.bytes → length out ≡ length (group_words s) → length s.members ≤ i → take (length front + 4 * i) out ≡ front ++ flat_map (word 4) (take i s.members) → out ≡ group_words s
unfolding group_words
member_done s i front out is long end all =
    let a = length-append front (flat_map (word 4) s.members) in
    let b = length-flat_map_each (word 4) 4 (λ x. length-word 4 x) s.members in
    let c = ap (λ (bs : List ℕ). length (bs ++ flat_map (word 4) s.members)) is in
    sym (take_all (length front + 4 * i) out (omega (arith, a, b, c, long, end))) ∙ all ∙ ap (λ (ms : List ℕ). front ++ flat_map (word 4) ms) (take_all i s.members end) ∙ ap (λ (bs : List ℕ). bs ++ flat_map (word 4) s.members) is

-- how many bytes a group has, whose flags are there
pub length-members : (s : InputSection) (front : List ℕ) → front ≡ take 4 s.bytes → length (group_words s) ≡ length front + 4 * length s.members
unfolding group_words
length-members s front is =
    let a = length-append (take 4 s.bytes) (flat_map (word 4) s.members) in
    let b = length-flat_map_each (word 4) 4 (λ x. length-word 4 x) s.members in
    let c = ap length is in
    omega (arith, a, b, c)

pub ruleset entries = (entry_more, entries_done)

pub ruleset members = (flags_put, member_more, member_done)
