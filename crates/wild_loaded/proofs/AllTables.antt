-- What the tables of a layout fill is known and lies beside each other.
use Rattle.wild_loaded.proofs.Common.{all_sections, input_of, each_at, ◌≡◌, ℕ, ◌+◌, ◌^◌, ◌<◌, ◌≤◌, true, List, [], ◌++◌, get_or, refl, sym, arith, subst, All, AllPairs, Contains, ◌≢◌, IsPermutation, flat_map, All-nil, All-cons, All-append, get_or_default, not_empty, AllPairs-nil, All-append-right, AllPairs-append, All-flat_map, AllPairs-flat_map, Rela, Role, InputSection, Layout, KeepsAll, is_loaded_role, not_hollow_role, word_size, start_of, NumbersFit, flat_map_from, group_errors, SectionLies, IsLaidOut, places, Memory, World, IsLoadable, IsLegal, IsPastFileBytes, end_of, Ascend, image_memory, EachDecided, HasWholeSlots, tables_of, SegmentsAreLoadable}
use Rattle.wild_loaded.proofs.SectionsDisjoint.{section_apart}
use Rattle.wild_types.specs.declared.part.Role.TheVariants as role
use Rattle.wild_slot.specs.declared.slot_parts.WordPart.TheVariants as words
use Rattle.wild_relr.specs.RunWords.{RelrSlotIsARun}
use Rattle.wild_table_formats.specs.EntryLaws.{PlacesAreLoaded}
use Rattle.wild_slots.specs.AscendingPlaces.{PlacesAscend}
use Rattle.wild_slots.specs.Blocks.{BlocksAreWhole}
use Rattle.wild_loaded.specs.Laws.{SectionsAreInSegments}
use Rattle.wild_loaded.proofs.PartsHeld.{placed}
use Rattle.wild_loaded.proofs.SlotSites.{all_sites}
use Rattle.wild_loaded.specs.FilledLaws.{TablesAreMade}
use Rattle.wild_loaded.proofs.Fillings.{Table, PackedTable, RelativeTable, GeneralTable, JumpTable, Filling, Misses, DoNotOverlap, IsKnown, Makes, packed_in}
use Rattle.wild_loaded.proofs.FilledTables.{ChangeLaws, AreSorted, tables_made, patches_apart, All-made}
use Rattle.wild_loaded.proofs.LoadedRanges.{AreDisjointRanges, disjoint_ranges_flip, fillings_disjoint, misses_past_file_bytes}
use Rattle.wild_loaded.proofs.SectionsApart.{range_of_section, stored_section_is_carried}
use Rattle.wild_loaded.proofs.PlacesApart.{HavePlaces, places_beside}
use Rattle.wild_loaded.proofs.SectionFillings.{section_fillings}
use Rattle.wild_loaded.proofs.FilledSections.{have_places}
use Rattle.wild_loaded.proofs.SectionsKnown.{SectionLaws, sections_known}
use Rattle.wild_loaded.proofs.SlotFillings.{pair_sites, got_sites, words_by_sites}
use Rattle.wild_loaded.proofs.SlotsSpaced.{all_spaced}
use Rattle.wild_loaded.proofs.SlotsKnown.{SlotLaws, IsFilledSlots, SiteIsKnown, AreFilled, sites_known, sites_filled, blocks_known, blocks_placed, blocks_wide, blocks_ascend}
use Rattle.wild_loaded.proofs.GotPlaces.{got_ascends}
use Rattle.wild_loaded.proofs.TableRanges.{range_of_role, role_there, roles_apart, table_ends, InTable, in_table}
use Rattle.wild_loaded.proofs.CopyFillings.{CopyLaws, HasCopies, copies_filled, LiesPastFileBytes, copies_behind, copies_known, copies_beside}
use Rattle.wild_loaded.proofs.TableLists.{sections_filled, slots_filled, blocks_filled, stored_fillings, all_fillings, all_packed, entries_sorted, jumps_sorted}
use Rattle.wild_loaded.proofs.PackedTables.{AreWhole, packed_sorted}

-- what the crates below owe
pub record FilledLaws : Type 0 where
  pub carried : SectionsAreInSegments
  pub segments : SegmentsAreLoadable
  pub changes : ChangeLaws
  pub sections : SectionLaws
  pub slots : SlotLaws
  pub copies : CopyLaws
  pub flat : RelrSlotIsARun
  pub found : PlacesAreLoaded
  pub ascend : PlacesAscend
  pub blocks : BlocksAreWhole

-- what is known of a layout
pub record IsFilledWell (l : Layout) (w : World) : Type 0 where
  pub keeps : KeepsAll l
  pub kind : IsLoadable l.kind
  pub numbers : NumbersFit l
  pub legal : IsLegal l w
  pub laid : IsLaidOut l
  pub decided : EachDecided l
  pub whole : HasWholeSlots l
  pub none : flat_map_from (group_errors l) 0 l.groups ≡ []

abbrev pub slots_of_well : (l : Layout) (w : World) → IsFilledWell l w → IsFilledSlots l w
slots_of_well l w h = record { keeps = h.keeps; kind = h.kind; numbers = h.numbers; legal = h.legal; laid = h.laid; whole = h.whole }

abbrev pub copies_of_well : (l : Layout) (w : World) → IsFilledWell l w → HasCopies l w
copies_of_well l w h = record { kind = h.kind; numbers = h.numbers; legal = h.legal; laid = h.laid; none = h.none }

-- ---- slots

-- the words of slots that a loader changes lie in their tables, beside each other
pub record SlotTables (l : Layout) : Type 0 where
  pub got : InTable l role.Got (slots_filled l)
  pub block : InTable l role.GotRelr (blocks_filled l)

pub got_filled : (l : Layout) (w : World) → FilledLaws → IsFilledWell l w → AreFilled w (image_memory l w) (start_of l role.Got) (end_of l role.Got) (slots_filled l)
got_filled l w laws h =
    let s = slots_of_well l w h in
    sites_filled l w (start_of l role.Got) (end_of l role.Got) (got_sites l) laws.slots.relative (all_spaced l) (sites_known l w laws.slots s) (got_ascends l w laws.ascend laws.slots.stored s)

pub slot_tables : (l : Layout) (w : World) → FilledLaws → IsFilledWell l w → SlotTables l
slot_tables l w laws h =
    let got = got_filled l w laws h in
    let low = (table_ends l role.Got refl h.laid).1 in
    let a = (laws.ascend l h.whole.order (omega (arith, low))).blocks in
    let block = subst (λ (xs : List ℕ). Ascend word_size (start_of l role.GotRelr) (end_of l role.GotRelr) xs) (words_by_sites words.RelrGot l) a in
    let from = blocks_placed (λ (q : ℕ). start_of l role.GotRelr ≤ q) (all_sites l) (λ k d m. (block.within k d m).from) in
    let to = blocks_placed (λ (q : ℕ). q + 8 ≤ end_of l role.GotRelr) (all_sites l) (λ k d m. (block.within k d m).to) in
    let wide = blocks_wide (all_sites l) in
    record {
      got = in_table l role.Got (start_of l role.Got) (slots_filled l) refl h.laid (omega arith) got.from got.to got.ascend;
      block = in_table l role.GotRelr (start_of l role.GotRelr) (blocks_filled l) refl h.laid (omega arith) from (λ k d m. (let t = to k d m in let n = wide k d m in omega (arith, t, n))) (blocks_ascend (start_of l role.GotRelr) (end_of l role.GotRelr) (all_sites l) block);
    }

pub got_apart : (l : Layout) → KeepsAll l → IsLaidOut l → AreDisjointRanges (range_of_role l role.Got) (range_of_role l role.GotRelr)
got_apart l keeps laid = roles_apart l role.Got role.GotRelr refl refl (λ e. cc) keeps laid

tables_beside : (l : Layout) → IsLoadable l.kind → KeepsAll l → IsLaidOut l → SlotTables l → AllPairs DoNotOverlap (slots_filled l ++ blocks_filled l)
tables_beside l kind keeps laid t =
    AllPairs-append DoNotOverlap (slots_filled l) (blocks_filled l) t.got.beside t.block.beside
    (λ k d m. (λ i e n. fillings_disjoint l (range_of_role l role.Got) (range_of_role l role.GotRelr) (get_or (slots_filled l) k d) (get_or (blocks_filled l) i e) kind laid (role_there l role.Got refl (not_hollow_role l role.Got keeps) kind laid) (role_there l role.GotRelr refl (not_hollow_role l role.GotRelr keeps) kind laid) (got_apart l keeps laid) (t.got.within k d m) (t.block.within i e n)))

-- ---- sections

pub lies_of : (l : Layout) (s : InputSection) → IsLaidOut l → Contains (all_sections l) s → SectionLies l s
lies_of l s laid c = each_at (SectionLies l) l s laid.inputs (input_of l s c)

sections_beside : (l : Layout) (r : Role) (xs : List Filling) → is_loaded_role r ≡ true → (r ≡ role.EhFrame → ⊥) → IsLoadable l.kind → KeepsAll l → IsLaidOut l → HavePlaces l (section_fillings l) → InTable l r xs → All (λ (x : Filling). All (DoNotOverlap x) xs) (sections_filled l)
sections_beside l r xs loaded other kind keeps laid h t =
    All-flat_map (λ (x : Filling). All (DoNotOverlap x) xs) (section_fillings l) (all_sections l) (λ i d m. (λ k e n. (λ p f q.
    let s = get_or (all_sections l) i d in
    let stored = h.stored i d m (not_empty _ k n) in
    let c : Contains (all_sections l) s = (i, m, get_or_default (all_sections l) i s d m) in
    fillings_disjoint l (range_of_section l s) (range_of_role l r) (get_or (section_fillings l s) k e) (get_or xs p f) kind laid (stored_section_is_carried l s stored) (role_there l r loaded (not_hollow_role l r keeps) kind laid) (disjoint_ranges_flip (range_of_role l r) (range_of_section l s) (section_apart l r s loaded other keeps laid c stored)) (h.within i d m k e n) (t.within p f q))))

both_beside : (xs ys zs : List Filling) → All (λ (x : Filling). All (DoNotOverlap x) ys) xs → All (λ (x : Filling). All (DoNotOverlap x) zs) xs → All (λ (x : Filling). All (DoNotOverlap x) (ys ++ zs)) xs
both_beside xs ys zs h k = λ i d m. All-append (DoNotOverlap (get_or xs i d)) ys zs (h i d m) (k i d m)

-- those in file bytes lie beside each other
stored_beside : (l : Layout) → IsLoadable l.kind → KeepsAll l → IsLaidOut l → HavePlaces l (section_fillings l) → SlotTables l → AllPairs DoNotOverlap (stored_fillings l)
stored_beside l kind keeps laid h t =
    AllPairs-append DoNotOverlap (sections_filled l) (slots_filled l ++ blocks_filled l)
    (places_beside l (section_fillings l) kind keeps laid h)
    (tables_beside l kind keeps laid t)
    (both_beside (sections_filled l) (slots_filled l) (blocks_filled l) (sections_beside l role.Got (slots_filled l) refl (λ e. cc) kind keeps laid h t.got) (sections_beside l role.GotRelr (blocks_filled l) refl (λ e. cc) kind keeps laid h t.block))

-- ---- copies

-- a copy and a filling in file bytes
behind_beside : (l : Layout) (x y : Filling) → (LiesPastFileBytes l y) → ((a : ℕ) → IsPastFileBytes l a → Misses a x) → DoNotOverlap x y
behind_beside l x y behind misses = λ k lt j less e. misses (y.entry.offset + j) (behind j less) k lt (sym e)

table_behind : (l : Layout) (r : Role) (xs : List Filling) → is_loaded_role r ≡ true → IsLoadable l.kind → KeepsAll l → IsLaidOut l → InTable l r xs → All (λ (x : Filling). (a : ℕ) → IsPastFileBytes l a → Misses a x) xs
table_behind l r xs loaded kind keeps laid t = λ i d m. (λ a b. misses_past_file_bytes l (range_of_role l r) a (get_or xs i d) kind laid (role_there l r loaded (not_hollow_role l r keeps) kind laid) (t.within i d m) b)

-- no filling in file bytes has a byte behind file bytes
pub stored_misses : (l : Layout) → IsLoadable l.kind → KeepsAll l → IsLaidOut l → HavePlaces l (section_fillings l) → SlotTables l → All (λ (x : Filling). (a : ℕ) → IsPastFileBytes l a → Misses a x) (stored_fillings l)
stored_misses l kind keeps laid h t =
    let P : Filling → Type 0 = λ x. (a : ℕ) → IsPastFileBytes l a → Misses a x in
    All-append P (sections_filled l) (slots_filled l ++ blocks_filled l)
    (All-flat_map P (section_fillings l) (all_sections l) (λ i d m. (λ k e n. (λ a b. misses_past_file_bytes l (range_of_section l (get_or (all_sections l) i d)) a (get_or (section_fillings l (get_or (all_sections l) i d)) k e) kind laid (stored_section_is_carried l (get_or (all_sections l) i d) (h.stored i d m (not_empty _ k n))) (h.within i d m k e n) b))))
    (All-append P (slots_filled l) (blocks_filled l) (table_behind l role.Got (slots_filled l) refl kind keeps laid t.got) (table_behind l role.GotRelr (blocks_filled l) refl kind keeps laid t.block))

-- ---- all of them

pub all_beside : (l : Layout) (w : World) → FilledLaws → IsFilledWell l w → AllPairs DoNotOverlap (all_fillings l w)
all_beside l w laws h =
    let have = have_places l laws.carried h.kind h.keeps h.laid h.decided in
    let t = slot_tables l w laws h in
    let c = copies_of_well l w h in
    let misses = stored_misses l h.kind h.keeps h.laid have t in
    let behind = copies_behind l w laws.copies c in
    AllPairs-append DoNotOverlap (stored_fillings l) (copies_filled l w)
    (stored_beside l h.kind h.keeps h.laid have t)
    (copies_beside l w laws.copies c)
    (λ i d m. (λ k e n. behind_beside l (get_or (stored_fillings l) i d) (get_or (copies_filled l w) k e) (behind k e n) (misses i d m)))

pub all_known : (l : Layout) (w : World) → FilledLaws → IsFilledWell l w → All (IsKnown w (image_memory l w)) (all_fillings l w)
all_known l w laws h =
    let P = IsKnown w (image_memory l w) in
    let s = slots_of_well l w h in
    let sites = sites_known l w laws.slots s in
    All-append P (stored_fillings l) (copies_filled l w)
    (All-append P (sections_filled l) (slots_filled l ++ blocks_filled l)
    (sections_known l w laws.sections h.keeps h.kind h.numbers h.legal h.laid h.decided)
    (All-append P (slots_filled l) (blocks_filled l) (got_filled l w laws h).known (blocks_known l w (all_sites l) (All-append-right (SiteIsKnown l w) (pair_sites l) (all_sites l) sites))))
    (copies_known l w laws.copies (copies_of_well l w h))

-- ---- packed places

-- a packed place is low
place_low : (w : World) (m : Memory) (x : Filling) → IsKnown w m x → All (λ (a : ℕ). a < 2 ^ 64) (packed_in x)
place_low w m x h = by_table x.table x.entry x.width h.low h.makes
  where
    P : ℕ → Type 0
    P a = a < 2 ^ 64

    by_table : (t : Table) (e : Rela) (n : ℕ) → (1 ≤ n → w.base + e.offset + n ≤ 2 ^ 64) → Makes w m t e n → All P (packed_in (record { table = t; entry = e; width = n }))
    by_table PackedTable e n low h = All-cons P e.offset [] (let eight = h.0 in let b = low (omega (arith, eight)) in omega (arith, b, eight)) (All-nil P)
    by_table RelativeTable e n low h = All-nil P
    by_table GeneralTable e n low h = All-nil P
    by_table JumpTable e n low h = All-nil P

-- and has a byte
one_differs : (w : World) (m : Memory) (x y : Filling) → IsKnown w m x → IsKnown w m y → DoNotOverlap x y → All (λ (a : ℕ). All (λ (b : ℕ). a ≢ b) (packed_in y)) (packed_in x)
one_differs w m x y hx hy beside = first x.table x.entry x.width hx.makes beside
  where
    second : (a : ℕ) (t : Table) (e : Rela) (n : ℕ) → Makes w m t e n → Misses a (record { table = t; entry = e; width = n }) → All (λ (b : ℕ). a ≢ b) (packed_in (record { table = t; entry = e; width = n }))
    second a PackedTable e n h out = All-cons (λ (b : ℕ). a ≢ b) e.offset [] (λ same. out 0 (let eight = h.0 in omega (arith, eight)) (omega (arith, same))) (All-nil (λ (b : ℕ). a ≢ b))
    second a RelativeTable e n h out = All-nil (λ (b : ℕ). a ≢ b)
    second a GeneralTable e n h out = All-nil (λ (b : ℕ). a ≢ b)
    second a JumpTable e n h out = All-nil (λ (b : ℕ). a ≢ b)

    P : ℕ → Type 0
    P a = All (λ (b : ℕ). a ≢ b) (packed_in y)

    first : (t : Table) (e : Rela) (n : ℕ) → Makes w m t e n → DoNotOverlap (record { table = t; entry = e; width = n }) y → All P (packed_in (record { table = t; entry = e; width = n }))
    first PackedTable e n h b = All-cons P e.offset [] (second e.offset y.table y.entry y.width hy.makes (λ j lt at. b 0 (let eight = h.0 in omega (arith, eight)) j lt (omega (arith, at)))) (All-nil P)
    first RelativeTable e n h b = All-nil P
    first GeneralTable e n h b = All-nil P
    first JumpTable e n h b = All-nil P

places_differ : (w : World) (m : Memory) (xs : List Filling) → All (IsKnown w m) xs → AllPairs DoNotOverlap xs → AllPairs (λ (a b : ℕ). a ≢ b) (flat_map packed_in xs)
places_differ w m xs known beside =
    AllPairs-flat_map (λ (a b : ℕ). a ≢ b) packed_in xs
    (λ k d lt. one_alone (get_or xs k d).table (get_or xs k d).entry)
    (λ i j d l n. one_differs w m (get_or xs i d) (get_or xs j d) (known i d (omega (arith, l, n))) (known j d n) (beside i j d l n))
  where
    one_alone : (t : Table) (e : Rela) → AllPairs (λ (a b : ℕ). a ≢ b) (packed_in (record { table = t; entry = e; width = 0 }))
    one_alone PackedTable e = λ i j d l n. absurd (omega (arith, l, n))
    one_alone RelativeTable e = AllPairs-nil (λ (a b : ℕ). a ≢ b)
    one_alone GeneralTable e = AllPairs-nil (λ (a b : ℕ). a ≢ b)
    one_alone JumpTable e = AllPairs-nil (λ (a b : ℕ). a ≢ b)

blocks_whole : (l : Layout) → BlocksAreWhole → IsLaidOut l → HasWholeSlots l → AreWhole l
blocks_whole l law laid whole = λ g c. law l whole.order (let e = (table_ends l role.GotRelr refl laid).1 in omega (arith, e)) (laid.roles role.GotRelr (placed role.GotRelr refl)).missing g c

packed_there : (l : Layout) (w : World) → FilledLaws → IsFilledWell l w → AllPairs DoNotOverlap (all_fillings l w) → All (IsKnown w (image_memory l w)) (all_fillings l w) → IsPermutation (flat_map packed_in (all_fillings l w)) (places (tables_of l).words)
packed_there l w laws h beside known =
    let m = image_memory l w in
    let xs = all_fillings l w in
    let same = all_packed l w in
    let low = subst (All (λ (a : ℕ). a < 2 ^ 64)) same (All-made (IsKnown w m) (λ (a : ℕ). a < 2 ^ 64) packed_in xs (λ x k. place_low w m x k) known) in
    let differ = subst (AllPairs (λ (a b : ℕ). a ≢ b)) same (places_differ w m xs known beside) in
    subst (λ (ps : List ℕ). IsPermutation ps (places (tables_of l).words)) (sym same) (packed_sorted l h.laid laws.flat laws.found laws.changes.order (blocks_whole l laws.blocks h.laid h.whole) low differ)

-- ---- the tables

pub tables_sorted : (l : Layout) (w : World) → FilledLaws → IsFilledWell l w → AreSorted w (image_memory l w) (tables_of l) (all_fillings l w)
tables_sorted l w laws h =
    let beside = all_beside l w laws h in
    let known = all_known l w laws h in
    record {
      packed = packed_there l w laws h beside known;
      entries = entries_sorted l w h.laid;
      jumps = jumps_sorted l w;
      beside = beside;
      known = known;
    }

pub all_made : FilledLaws → TablesAreMade
all_made laws = λ l w keeps kind numbers legal laid decided whole none.
    let h : IsFilledWell l w = record { keeps = keeps; kind = kind; numbers = numbers; legal = legal; laid = laid; decided = decided; whole = whole; none = none } in
    let sorted = tables_sorted l w laws h in
    record {
      made = tables_made w (image_memory l w) (tables_of l) (all_fillings l w) laws.changes sorted;
      apart = patches_apart w (image_memory l w) (tables_of l) (all_fillings l w) laws.changes sorted;
    }
