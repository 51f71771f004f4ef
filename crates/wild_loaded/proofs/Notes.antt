-- What a loader notes of descriptors, and the tables of an image in whatever order a loader finds them.
use Rattle.wild_loaded.proofs.Common.{◌≡◌, ℕ, zero, suc, ◌+◌, ◌<◌, ◌≤◌, ◌⊎◌, inl, inr, List, [], ◌∷◌, ◌++◌, length, get_or, map, refl, sym, ap, ◌∙◌, arith, subst, Option, Some, None, Ok, All, AllPairs, Contains, IsPermutation, ne_eqb, map-append, append-nil, All-nil, All-head, All-tail, All-append, All-map, All-contains, Contains-append_left, Contains-append_right, All-permutation, IsPermutation-sym, IsPermutation-map, All-each, Contains-map, AllPairs-head, AllPairs-tail, Rela, Change, Memory, Run, Tables, World, kind_of, change_of, size_of, patch_over, byte_in, Holds, places, loaded_at, DoesNotOverlap, patches_of, OrderDoesNotMatter, place_change, entry_change}
use Rattle.std.proofs.lemmas.Bool.{eq-eqb}
use Rattle.wild_loader.specs.declared.change.Change.TheVariants as changes
use Rattle.wild_loader.specs.declared.change.Patch.{Patch}
use Rattle.wild_loader.specs.declared.fault.LoadFault.TheVariants as faults
use Rattle.wild_loader.specs.Outcome.{known}
use Rattle.wild_loader.specs.Runs.{read_bytes}
use Rattle.wild_loader.specs.Changes.{patch_at, first_value}
use Rattle.wild_loader.specs.Places.{places_from}
use Rattle.wild_loader.specs.Relocate.{rela_patch, place_patch, runs_of_patches, memory_with_patches, notes, relocate}
use Rattle.wild_loader.specs.SegmentLaws.{IsOutsideRun}
use Rattle.wild_loader.specs.EntryLaws.{HasMade, TablesAreApplied}
use Rattle.wild_loader.proofs.EntryLemmas.{stepped, same-ok, read-bytes}
use Rattle.wild_loader.proofs.OverlaidBytes.{elsewhere}
use Rattle.wild_loaded.proofs.PairLemmas.{All-unmap}
use Rattle.wild_loaded.specs.LoadedMemory.{IsMade}

-- ---- what is noted

-- a change that notes something has bytes
abbrev pub NotesBytes : Patch → Type 0
NotesBytes p = (o : ℕ) → p.offset ≡ Some o → 1 ≤ length p.run.bytes

change_notes : (place : ℕ) (c : Change) (old : List ℕ) → length old ≡ size_of c → NotesBytes (patch_over place c old)
change_notes place (changes.Descriptor x) old e = λ o h. omega (arith, e)
change_notes place (changes.Word v) old e = λ o h. cc
change_notes place (changes.Half v) old e = λ o h. cc
change_notes place (changes.Fill bytes) old e = λ o h. cc
change_notes place (changes.Add v) old e = λ o h. cc

patch_notes : (m : Memory) (place : ℕ) (c : Change) (p : Patch) → patch_at m place c ≡ Ok p → NotesBytes p
unfolding patch_at
patch_notes m place c p h =
    let read = stepped (read_bytes m place (size_of c)) _ p h in
    let both = read-bytes m place (size_of c) read.value read.was in
    subst NotesBytes (same-ok (patch_over place c read.value) p read.next) (change_notes place c read.value both.0)

entry_notes : (w : World) (m : Memory) (r : Rela) (p : Patch) → rela_patch w m r ≡ Ok p → NotesBytes p
unfolding rela_patch
entry_notes w m r p h =
    let kind = stepped (known (kind_of m.machine r.number) (faults.UnknownDynamic r.number)) _ p h in
    let change = stepped (change_of w kind.value r) _ p kind.next in
    patch_notes m (loaded_at w r.offset) change.value p change.next

place_notes : (w : World) (m : Memory) (x : ℕ) (p : Patch) → place_patch w m x ≡ Ok p → NotesBytes p
unfolding place_patch
place_notes w m x p h = patch_notes m (loaded_at w x) (changes.Add w.base) p h

-- what the first of changes that are apart notes at its place
starts_differ : (p q : Run) → DoesNotOverlap p q → 1 ≤ length p.bytes → 1 ≤ length q.bytes → p.start ≡ q.start → ⊥
starts_differ p q h some more e = by_side (elsewhere p q 0 h (omega (arith, some)))
  where
    by_side : (p.start + 0 < q.start) ⊎ (q.start + length q.bytes ≤ p.start + 0) → ⊥
    by_side (inl lt) = omega (arith, e, lt)
    by_side (inr le) = omega (arith, e, le, more)

noted_first : (ps : List Patch) (p : Patch) (o : ℕ) → AllPairs DoesNotOverlap (runs_of_patches ps) → All NotesBytes ps → Contains ps p → p.offset ≡ Some o → first_value (notes ps) p.run.start ≡ Some o
unfolding notes
noted_first [] p o apart each c is = absurd (omega (arith, c.1))
noted_first (q ∷ qs) p o apart each c is = by_number c.0 c.1 c.2 (λ k m e. noted_first qs p o (AllPairs-tail DoesNotOverlap q.run (runs_of_patches qs) apart) (All-tail NotesBytes q qs each) (k, m, e) is)
  where
    here : (q : Patch) (x : Option ℕ) → q.offset ≡ x → x ≡ Some o → first_value (notes (q ∷ qs)) q.run.start ≡ Some o
    here q None e x = cc
    here q (Some y) e x =
        let t = eq-eqb q.run.start q.run.start refl in
        rw (e, t) x

    there : (x : Option ℕ) → q.offset ≡ x → (q.run.start ≡ p.run.start → (y : ℕ) → x ≡ Some y → ⊥) → first_value (notes qs) p.run.start ≡ Some o → first_value (notes (q ∷ qs)) p.run.start ≡ Some o
    there None e other again = rw e again
    there (Some y) e other again =
        let f = ne_eqb q.run.start p.run.start (λ same. other same y refl) in
        rw (e, f) again

    by_number : (k : ℕ) → k < length (q ∷ qs) → get_or (q ∷ qs) k p ≡ p → ((k : ℕ) → k < length qs → get_or qs k p ≡ p → first_value (notes qs) p.run.start ≡ Some o) → first_value (notes (q ∷ qs)) p.run.start ≡ Some o
    by_number zero m e again =
        let P : Patch → Type 0 = λ x. x.offset ≡ Some o → first_value (notes (x ∷ qs)) x.run.start ≡ Some o in
        let own : P q = λ h. here q q.offset refl h in
        subst (λ (x : Patch). x.offset ≡ Some o → first_value (notes (q ∷ qs)) x.run.start ≡ Some o) e own is
    by_number (suc k) m e again =
        let c : Contains qs p = (k, omega (arith, m), e) in
        let others = All-unmap (DoesNotOverlap q.run) (λ (x : Patch). x.run) qs (AllPairs-head DoesNotOverlap q.run (runs_of_patches qs) apart) in
        let two = All-contains (λ (x : Patch). DoesNotOverlap q.run x.run) qs p others c in
        let bytes = All-contains NotesBytes qs p (All-tail NotesBytes q qs each) c o is in
        there q.offset refl (λ same y h. starts_differ q.run p.run two (All-head NotesBytes q qs each y h) bytes same) (again k (omega (arith, m)) e)

-- ---- tables that were applied

-- memory has what each place and each entry changes, and every other byte is as before
pub record HasChanged (w : World) (before : Memory) (t : Tables) (m : Memory) : Type 0 where
  pub is : relocate w before t ≡ Ok m
  pub machine : m.machine ≡ before.machine
  pub words : All (λ x. IsMade m (place_change w before x)) (places t.words)
  pub entries : All (λ (e : Rela). IsMade m (entry_change w before e)) (t.entries ++ t.jumps)
  pub others : (a : ℕ) → All (IsOutsideRun a) (runs_of_patches (patches_of t (place_change w before) (entry_change w before))) → byte_in m a ≡ byte_in before a

pub has_changed : (w : World) (before : Memory) (t : Tables) → TablesAreApplied → HasMade w before t (place_change w before) (entry_change w before) → AllPairs DoesNotOverlap (runs_of_patches (patches_of t (place_change w before) (entry_change w before)))
    → HasChanged w before t (memory_with_patches before (patches_of t (place_change w before) (entry_change w before)))
has_changed w before t law made apart =
    let g = place_change w before in
    let f = entry_change w before in
    let ps = patches_of t g f in
    let a = law w before t g f made apart in
    let words : All NotesBytes (map g (places t.words)) = All-map NotesBytes g (places t.words) (λ k d lt. place_notes w before (get_or (places t.words) k d) (g (get_or (places t.words) k d)) (made.words k d lt)) in
    let entries : All NotesBytes (map f t.entries) = All-map NotesBytes f t.entries (λ k d lt. entry_notes w before (get_or t.entries k d) (f (get_or t.entries k d)) (made.entries k d lt)) in
    let jumps : All NotesBytes (map f t.jumps) = All-map NotesBytes f t.jumps (λ k d lt. entry_notes w before (get_or t.jumps k d) (f (get_or t.jumps k d)) (made.jumps k d lt)) in
    let each : All NotesBytes ps = All-append NotesBytes (map g (places t.words) ++ map f t.entries) (map f t.jumps) (All-append NotesBytes (map g (places t.words)) (map f t.entries) words entries) jumps in
    let m = memory_with_patches before ps in
    let noted : (p : Patch) → Contains ps p → (o : ℕ) → p.offset ≡ Some o → first_value m.descriptors p.run.start ≡ Some o = λ p c o is. noted_first ps p o apart each c is in
    let P : Rela → Type 0 = λ e. IsMade m (f e) in
    record {
      is = a.is;
      machine = refl;
      words = All-each (λ x. IsMade m (g x)) (places t.words) (λ x c. record { held = All-contains (λ x. Holds m (g x).run.start (g x).run.bytes) (places t.words) x a.words c; noted = noted (g x) (Contains-append_left (map g (places t.words) ++ map f t.entries) (map f t.jumps) (g x) (Contains-append_left (map g (places t.words)) (map f t.entries) (g x) (Contains-map g (places t.words) x c))) });
      entries = All-append P t.entries t.jumps
          (All-each P t.entries (λ e c. record { held = All-contains (λ (e : Rela). Holds m (f e).run.start (f e).run.bytes) t.entries e a.entries c; noted = noted (f e) (Contains-append_left (map g (places t.words) ++ map f t.entries) (map f t.jumps) (f e) (Contains-append_right (map g (places t.words)) (map f t.entries) (f e) (Contains-map f t.entries e c))) }))
          (All-each P t.jumps (λ e c. record { held = All-contains (λ (e : Rela). Holds m (f e).run.start (f e).run.bytes) t.jumps e a.jumps c; noted = noted (f e) (Contains-append_right (map g (places t.words) ++ map f t.entries) (map f t.jumps) (f e) (Contains-map f t.jumps e c)) }));
      others = a.others;
    }

-- ---- tables in another order

-- entries alone
abbrev pub alone : List Rela → Tables
alone rs = record { words = []; entries = rs; jumps = [] }

no_places : places [] ≡ []
unfolding places_from
no_places = refl

-- the runs of tables without packed words
runs_alone : (t : Tables) (g : ℕ → Patch) (f : Rela → Patch) → t.words ≡ [] → runs_of_patches (patches_of t g f) ≡ map (λ (p : Patch). p.run) (map f (t.entries ++ t.jumps))
runs_alone t g f none =
    let e : map g (places t.words) ≡ [] = ap (λ (ws : List ℕ). map g (places ws)) none ∙ ap (map g) no_places in
    ap (λ (ps : List Patch). runs_of_patches ((ps ++ map f t.entries) ++ map f t.jumps)) e ∙ ap (map (λ (p : Patch). p.run)) (sym (map-append f t.entries t.jumps))

runs_permuted : (t u : Tables) (g : ℕ → Patch) (f : Rela → Patch) → t.words ≡ [] → u.words ≡ [] → IsPermutation (t.entries ++ t.jumps) (u.entries ++ u.jumps) → IsPermutation (runs_of_patches (patches_of t g f)) (runs_of_patches (patches_of u g f))
runs_permuted t u g f nt nu moved =
    let run : Patch → Run = λ p. p.run in
    let both = IsPermutation-map run (map f (t.entries ++ t.jumps)) (map f (u.entries ++ u.jumps)) (IsPermutation-map f (t.entries ++ t.jumps) (u.entries ++ u.jumps) moved) in
    subst (λ (xs : List Run). IsPermutation xs (runs_of_patches (patches_of u g f))) (sym (runs_alone t g f nt)) (subst (λ (xs : List Run). IsPermutation (map run (map f (t.entries ++ t.jumps))) xs) (sym (runs_alone u g f nu)) both)

-- where entries alone are those of the tables in another order, they change what the tables do
pub alone_made : (w : World) (before : Memory) (t : Tables) (rs : List Rela) → IsPermutation rs (t.entries ++ t.jumps) → HasMade w before t (place_change w before) (entry_change w before) → HasMade w before (alone rs) (place_change w before) (entry_change w before)
alone_made w before t rs moved made =
    let P : Rela → Type 0 = λ e. rela_patch w before e ≡ Ok (entry_change w before e) in
    let Q : ℕ → Type 0 = λ x. place_patch w before x ≡ Ok (place_change w before x) in
    record {
      words = subst (All Q) (sym no_places) (All-nil Q);
      entries = All-permutation P (t.entries ++ t.jumps) rs (IsPermutation-sym rs (t.entries ++ t.jumps) moved) (All-append P t.entries t.jumps made.entries made.jumps);
      jumps = All-nil P;
    }

to_alone : (t : Tables) (rs : List Rela) → IsPermutation rs (t.entries ++ t.jumps) → IsPermutation (t.entries ++ t.jumps) ((alone rs).entries ++ (alone rs).jumps)
to_alone t rs moved = subst (λ (xs : List Rela). IsPermutation (t.entries ++ t.jumps) xs) (sym (append-nil rs)) (IsPermutation-sym rs (t.entries ++ t.jumps) moved)

pub alone_apart : (w : World) (before : Memory) (t : Tables) (rs : List Rela) → OrderDoesNotMatter → t.words ≡ [] → IsPermutation rs (t.entries ++ t.jumps) → AllPairs DoesNotOverlap (runs_of_patches (patches_of t (place_change w before) (entry_change w before))) → AllPairs DoesNotOverlap (runs_of_patches (patches_of (alone rs) (place_change w before) (entry_change w before)))
alone_apart w before t rs law none moved apart =
    let g = place_change w before in
    let f = entry_change w before in
    law (runs_of_patches (patches_of t g f)) (runs_of_patches (patches_of (alone rs) g f)) (runs_permuted t (alone rs) g f none refl (to_alone t rs moved)) apart

pub alone_changed : (w : World) (before m : Memory) (t : Tables) (rs : List Rela) → t.words ≡ [] → IsPermutation rs (t.entries ++ t.jumps) → HasChanged w before (alone rs) m
    → (All (λ x. IsMade m (place_change w before x)) (places t.words) × All (λ (e : Rela). IsMade m (entry_change w before e)) (t.entries ++ t.jumps)) × ((a : ℕ) → All (IsOutsideRun a) (runs_of_patches (patches_of t (place_change w before) (entry_change w before))) → byte_in m a ≡ byte_in before a)
alone_changed w before m t rs none moved h =
    let g = place_change w before in
    let f = entry_change w before in
    let P : Rela → Type 0 = λ e. IsMade m (f e) in
    let Q : ℕ → Type 0 = λ x. IsMade m (g x) in
    let back = to_alone t rs moved in
    let words = subst (λ (ws : List ℕ). All Q (places ws)) (sym none) (subst (All Q) (sym no_places) (All-nil Q)) in
    let entries = All-permutation P ((alone rs).entries ++ (alone rs).jumps) (t.entries ++ t.jumps) (IsPermutation-sym (t.entries ++ t.jumps) ((alone rs).entries ++ (alone rs).jumps) back) h.entries in
    ((words, entries), λ a out. h.others a (All-permutation (IsOutsideRun a) (runs_of_patches (patches_of t g f)) (runs_of_patches (patches_of (alone rs) g f)) (runs_permuted t (alone rs) g f none refl back) out))
