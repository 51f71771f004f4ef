-- The bytes of symbols that are copied: they lie behind file bytes, those of one symbol beside those of another.
use Rattle.wild_loaded.proofs.Common.{◌≡◌, ℕ, ◌+◌, ◌-◌, ◌^◌, ◌<◌, ◌≤◌, ◌⊎◌, inl, inr, Bool, true, false, not, List, [], ◌∷◌, ◌++◌, length, get_or, map, replicate, refl, sym, ap, ◌∙◌, arith, subst, append_assoc, Some, None, Result, Ok, Err, All, AllPairs, Contains, ◌≢◌, if◌then◌else◌, ◌==◌, slice_index, flat_map, cases_Bool, and_parts, not-true, append-nil, get_or-replicate, length-replicate, All-nil, All-cons, All-head, All-tail, All-map, All-contains, AllPairs-cons, All-each, map-flat_map, AllPairs-nil, AllPairs-head, AllPairs-tail, AllPairs-append, flat_map-flat_map, pt_load, Rela, Segment, File, Group, Layout, copies_of, is_library, canonical, NumbersFit, flat_map_from, group_errors, IsLaidOut, copy_entry, Change, Answer, World, change_of, size_of, kind_of, byte_in, loaded_at, IsLegal, IsPastFileBytes, IsCopied, HasCopy, IsLoadable, canonical_is, image_memory, ZerosAreStored, EntriesHaveChanges, processor_of}
use Rattle.std.specs.List.{list_any}
use Rattle.std.proofs.lemmas.Bool.{eq-eqb}
use Rattle.wild_words.proofs.Basics.{Contains-from_flat_map}
use Rattle.wild_types.specs.FileSymbols.{copied_definitions, are_distinct_from, first_double_copy}
use Rattle.wild_types.proofs.FileLemmas.{library_role}
use Rattle.wild_loader.specs.declared.change.Change.TheVariants as changes
use Rattle.wild_loader.specs.declared.fault.LoadFault.{LoadFault}
use Rattle.wild_loader.specs.declared.kind.DynamicKind.TheVariants as kinds
use Rattle.wild_loaded.specs.StoredTables.{Copies}
use Rattle.wild_loaded.specs.Laws.{CopiesAreThere}
use Rattle.wild_loaded.proofs.PairLemmas.{AllPairs-fewer, All-unmap}
use Rattle.wild_loaded.proofs.Fillings.{Filling, general_of, DoNotOverlap, IsKnown, place_loaded}
use Rattle.wild_loader.specs.declared.memory.Machine.{Machine as Processor}
use Rattle.wild_loaded.proofs.Loads.{image_machine}

-- ---- fillings

abbrev pub width_by : Result Change LoadFault → ℕ
width_by (Ok c) = size_of c
width_by (Err f) = 0

-- how many bytes an entry copies
abbrev pub copy_width : World → Rela → ℕ
copy_width w e = width_by (change_of w kinds.Copy e)

abbrev pub copy_filling : Layout → World → ℕ → Filling
copy_filling l w i = general_of (copy_entry l i) (copy_width w (copy_entry l i))

-- the symbols that are copied, file by file
abbrev pub group_copies : Group → List ℕ
group_copies g = flat_map copies_of g.files

abbrev pub all_copies : Layout → List ℕ
all_copies l = flat_map group_copies l.groups

abbrev pub copies_filled : Layout → World → List Filling
copies_filled l w = map (copy_filling l w) (all_copies l)

-- ---- what is copied

pub copied_there : (l : Layout) (i : ℕ) → Contains (all_copies l) i → IsCopied l i
copied_there l i c =
    let g = Contains-from_flat_map group_copies l.groups i c in
    let f = Contains-from_flat_map copies_of g.0.files i g.2 in
    by_role g.0 g.1 f.0 f.1 (is_library f.0.role) refl f.2
  where
    by_role : (g : Group) → Contains l.groups g → (f : File) → Contains g.files f → (b : Bool) → is_library f.role ≡ b → Contains (if b then f.copies else []) i → IsCopied l i
    by_role g cg f cf true e c = record { group = g; grouped = cg; file = f; filed = cf; library = library_role f.role e; listed = c }
    by_role g cg f cf false e c = absurd (omega (arith, c.1))

-- what the crates below owe of copies
pub record CopyLaws : Type 0 where
  pub changes : EntriesHaveChanges
  pub there : CopiesAreThere
  pub zeros : ZerosAreStored

-- what is known of a layout
pub record HasCopies (l : Layout) (w : World) : Type 0 where
  pub kind : IsLoadable l.kind
  pub numbers : NumbersFit l
  pub legal : IsLegal l w
  pub laid : IsLaidOut l
  pub none : flat_map_from (group_errors l) 0 l.groups ≡ []

-- a copy with its answer
pub record IsCopyOf (l : Layout) (w : World) (i : ℕ) (x : Filling) : Type 0 where
  pub raw : ℕ
  pub answer : Answer
  pub has : HasCopy l w i raw answer
  pub made : Copies (processor_of l.machine) w (copy_entry l i) raw answer.bytes
  pub is : x ≡ copy_filling l w i
  pub place : x.entry.offset ≡ raw
  pub width : x.width ≡ length answer.bytes

pub copy_is : (l : Layout) (w : World) (i raw : ℕ) (y : Answer) → CopyLaws → HasCopies l w → HasCopy l w i raw y → IsCopyOf l w i (copy_filling l w i)
copy_is l w i raw y laws h c =
    let made = laws.changes.copies l w i raw y h.numbers h.legal h.laid c in
    record { raw = raw; answer = y; has = c; made = made; is = refl; place = made.place; width = ap width_by made.makes }

pub copy_of : (l : Layout) (w : World) (i : ℕ) → CopyLaws → HasCopies l w → Contains (all_copies l) i → IsCopyOf l w i (copy_filling l w i)
copy_of l w i laws h c =
    let there = laws.there l w i h.legal h.laid h.none (copied_there l i c) in
    copy_is l w i there.0 there.1 laws h there.2

-- ---- they lie behind file bytes

abbrev pub LiesPastFileBytes : Layout → Filling → Type 0
LiesPastFileBytes l x = (k : ℕ) → k < x.width → IsPastFileBytes l (x.entry.offset + k)

behind_of : (l : Layout) (w : World) (i : ℕ) (x : Filling) → HasCopies l w → IsCopyOf l w i x → LiesPastFileBytes l x
behind_of l w i x h c = λ k lt.
    let width = c.width in
    subst (λ (a : ℕ). IsPastFileBytes l (a + k)) (sym c.place) ((h.legal.symbols.copies i c.raw c.answer c.has).behind k (omega (arith, width, lt)))

pub copies_behind : (l : Layout) (w : World) → CopyLaws → HasCopies l w → All (LiesPastFileBytes l) (copies_filled l w)
copies_behind l w laws h = All-map (LiesPastFileBytes l) (copy_filling l w) (all_copies l) (All-each (λ (i : ℕ). LiesPastFileBytes l (copy_filling l w i)) (all_copies l) (λ i c. behind_of l w i (copy_filling l w i) h (copy_of l w i laws h c)))

segment_ends : (l : Layout) (w : World) (a : ℕ) → IsLegal l w → IsPastFileBytes l a → w.base + a + 1 ≤ 2 ^ 64
segment_ends l w a legal b =
    let ends = All-contains (λ (g : Segment). g.kind ≡ pt_load → w.base + g.address + g.mem_size ≤ 2 ^ 64) l.segments b.segment legal.ends b.listed b.loads in
    let to = b.to in
    omega (arith, ends, to)

known_of : (l : Layout) (w : World) (i : ℕ) → CopyLaws → HasCopies l w → IsCopyOf l w i (copy_filling l w i) → IsKnown w (image_memory l w) (copy_filling l w i)
known_of l w i laws h c =
    let x = copy_filling l w i in
    let behind = behind_of l w i x h c in
    let low : 1 ≤ x.width → w.base + x.entry.offset + x.width ≤ 2 ^ 64 = λ some. (let last = segment_ends l w (x.entry.offset + (x.width - 1)) h.legal (behind (x.width - 1) (omega (arith, some))) in omega (arith, last, some)) in
    record {
      low = low;
      old = replicate x.width 0;
      wide = length-replicate x.width 0;
      held = λ k lt. zero_there x low behind k (let n : length (replicate x.width zeroed) ≡ x.width = length-replicate x.width zeroed in omega (arith, n, lt));
      makes = record { kind = kinds.Copy; known = subst (λ (p : Processor). kind_of p (copy_entry l i).number ≡ Some kinds.Copy) (sym (image_machine l w)) c.made.known; change = changes.Fill c.answer.bytes; made = c.made.makes; size = sym c.width };
    }
  where
    zeroed : ℕ
    zeroed = 0

    zero_there : (x : Filling) → (1 ≤ x.width → w.base + x.entry.offset + x.width ≤ 2 ^ 64) → LiesPastFileBytes l x → (k : ℕ) → k < x.width → byte_in (image_memory l w) (loaded_at w x.entry.offset + k) ≡ Some (slice_index (replicate x.width 0) k)
    zero_there x low behind k lt =
        let some : 1 ≤ x.width = omega (arith, lt) in
        let at = place_loaded w x.entry.offset x.width some (low some) in
        let place : w.base + (x.entry.offset + k) ≡ loaded_at w x.entry.offset + k = omega (arith, at) in
        let zeros = laws.zeros l w (x.entry.offset + k) h.kind h.legal h.laid (behind k lt) in
        subst (λ (a : ℕ). byte_in (image_memory l w) a ≡ Some 0) place zeros ∙ ap Some (sym (get_or-replicate x.width k 0 0 lt))

pub copies_known : (l : Layout) (w : World) → CopyLaws → HasCopies l w → All (IsKnown w (image_memory l w)) (copies_filled l w)
copies_known l w laws h = All-map (IsKnown w (image_memory l w)) (copy_filling l w) (all_copies l) (All-each (λ (i : ℕ). IsKnown w (image_memory l w) (copy_filling l w i)) (all_copies l) (λ i c. known_of l w i laws h (copy_of l w i laws h c)))

-- ---- no two are of one symbol

abbrev pub Differ : ℕ → ℕ → Type 0
Differ a b = a ≢ b

none_is : (c : ℕ) (xs : List ℕ) → list_any (λ d. d == c) xs ≡ false → All (λ (d : ℕ). Differ d c) xs
none_is c [] h = All-nil (λ (d : ℕ). Differ d c)
none_is c (x ∷ xs) h =
    elim (cases_Bool (x == c)) [
      | inl t ↦ cc (rw t at h)
      | inr f ↦ All-cons (λ (d : ℕ). Differ d c) x xs (λ e. (let t : (x == c) ≡ true = eq-eqb x c e in let both : true ≡ false = sym t ∙ f in cc)) (none_is c xs (rw f at h))
    ]

one_more : (xs : List ℕ) (c : ℕ) → AllPairs Differ xs → All (λ (d : ℕ). Differ d c) xs → AllPairs Differ (xs ++ c ∷ [])
one_more xs c p h = AllPairs-append Differ xs (c ∷ []) p (AllPairs-cons Differ c [] (All-nil (Differ c)) (AllPairs-nil Differ)) (λ k d m. All-cons (Differ (get_or xs k d)) c [] (h k d m) (All-nil (Differ (get_or xs k d))))

new_differ : (earlier cs : List ℕ) → AllPairs Differ earlier → are_distinct_from earlier cs ≡ true → AllPairs Differ (earlier ++ cs)
new_differ earlier [] p h = subst (AllPairs Differ) (sym (append-nil earlier)) p
new_differ earlier (c ∷ cs) p h =
    let both = and_parts (not (list_any (λ d. d == c) earlier)) (are_distinct_from (earlier ++ c ∷ []) cs) h in
    let more = one_more earlier c p (none_is c earlier (not-true (list_any (λ d. d == c) earlier) both.0)) in
    subst (AllPairs Differ) (append_assoc earlier (c ∷ []) cs) (new_differ (earlier ++ c ∷ []) cs more both.1)

groups_differ : (l : Layout) (earlier : List ℕ) (i : ℕ) (gs : List Group) → AllPairs Differ earlier → first_double_copy l earlier i gs ≡ None → AllPairs Differ (earlier ++ flat_map (copied_definitions l) gs)
groups_differ l earlier i [] p h = subst (AllPairs Differ) (sym (append-nil earlier)) p
groups_differ l earlier i (g ∷ gs) p h =
    elim (cases_Bool (are_distinct_from earlier (copied_definitions l g))) [
      | inr f ↦ cc (rw f at h)
      | inl t ↦
          (let rest : first_double_copy l (earlier ++ copied_definitions l g) (i + 1) gs ≡ None = rw t at h in
          subst (AllPairs Differ) (append_assoc earlier (copied_definitions l g) (flat_map (copied_definitions l) gs)) (groups_differ l (earlier ++ copied_definitions l g) (i + 1) gs (new_differ earlier (copied_definitions l g) p t) rest))
    ]

files_of_groups : {Y : Type 0} (f : File → List Y) (gs : List Group) → flat_map f (flat_map (λ (g : Group). g.files) gs) ≡ flat_map (λ (g : Group). flat_map f g.files) gs
files_of_groups f gs = flat_map-flat_map f (λ (g : Group). g.files) gs

-- the definitions of the symbols that are copied
copies_differ : (l : Layout) → IsLaidOut l → AllPairs Differ (map (canonical l) (all_copies l))
copies_differ l laid =
    let all : AllPairs Differ (flat_map (copied_definitions l) l.groups) = groups_differ l [] 0 l.groups (AllPairs-nil Differ) laid.copies in
    let whole : File → List ℕ = λ f. map (canonical l) f.copies in
    let some : File → List ℕ = λ f. map (canonical l) (copies_of f) in
    let files = flat_map (λ (g : Group). g.files) l.groups in
    let listed = subst (AllPairs Differ) (sym (files_of_groups whole l.groups)) all in
    let fewer = AllPairs-fewer Differ whole some files (λ f. by_role f (is_library f.role)) listed in
    let e : flat_map some files ≡ map (canonical l) (all_copies l) = sym (map-flat_map (canonical l) copies_of files) ∙ ap (map (canonical l)) (files_of_groups copies_of l.groups) in
    subst (AllPairs Differ) e fewer
  where
    by_role : (f : File) (b : Bool) → (map (canonical l) (if b then f.copies else []) ≡ []) ⊎ (map (canonical l) (if b then f.copies else []) ≡ map (canonical l) f.copies)
    by_role f true = inr refl
    by_role f false = inl refl

-- ---- they lie beside each other

two_beside : (l : Layout) (w : World) (i j : ℕ) → HasCopies l w → IsCopyOf l w i (copy_filling l w i) → IsCopyOf l w j (copy_filling l w j) → Differ (canonical l i) (canonical l j) → DoNotOverlap (copy_filling l w i) (copy_filling l w j)
two_beside l w i j h a b other =
    let ci = a.has.given.definition in
    let cj = b.has.given.definition in
    let different : ci ≡ cj → ⊥ = λ e. other (canonical_is l i ci a.has.given.defined ∙ e ∙ sym (canonical_is l j cj b.has.given.defined)) in
    let apart = h.legal.symbols.apart i j ci cj a.raw b.raw a.answer b.answer a.has.given.defined b.has.given.defined different a.has b.has in
    sides (copy_filling l w i) (copy_filling l w j) a.raw b.raw (length a.answer.bytes) (length b.answer.bytes) a.place b.place a.width b.width apart
  where
    sides : (x y : Filling) (p q n m : ℕ) → x.entry.offset ≡ p → y.entry.offset ≡ q → x.width ≡ n → y.width ≡ m → (p + n ≤ q) ⊎ (q + m ≤ p) → DoNotOverlap x y
    sides x y p q n m ep eq en em (inl le) = λ k lk o lo e. omega (arith, ep, eq, en, em, le, lk, lo, e)
    sides x y p q n m ep eq en em (inr le) = λ k lk o lo e. omega (arith, ep, eq, en, em, le, lk, lo, e)

beside_in : (l : Layout) (w : World) (xs : List ℕ) → HasCopies l w → All (λ (i : ℕ). IsCopyOf l w i (copy_filling l w i)) xs → AllPairs Differ (map (canonical l) xs) → AllPairs DoNotOverlap (map (copy_filling l w) xs)
beside_in l w [] h all p = AllPairs-nil DoNotOverlap
beside_in l w (i ∷ xs) h all p =
    let P : ℕ → Type 0 = λ i. IsCopyOf l w i (copy_filling l w i) in
    let first = All-head P i xs all in
    let rest = All-tail P i xs all in
    let others = All-unmap (Differ (canonical l i)) (canonical l) xs (AllPairs-head Differ (canonical l i) (map (canonical l) xs) p) in
    AllPairs-cons DoNotOverlap (copy_filling l w i) (map (copy_filling l w) xs)
    (All-map (DoNotOverlap (copy_filling l w i)) (copy_filling l w) xs (λ k d m. two_beside l w i (get_or xs k d) h first (rest k d m) (others k d m)))
    (beside_in l w xs h rest (AllPairs-tail Differ (canonical l i) (map (canonical l) xs) p))

pub copies_beside : (l : Layout) (w : World) → CopyLaws → HasCopies l w → AllPairs DoNotOverlap (copies_filled l w)
copies_beside l w laws h = beside_in l w (all_copies l) h (All-each (λ (i : ℕ). IsCopyOf l w i (copy_filling l w i)) (all_copies l) (λ i c. copy_of l w i laws h c)) (copies_differ l h.laid)
