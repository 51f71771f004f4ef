-- Bytes that no table of the image fills.
use Rattle.wild_loaded.proofs.Common.{all_sections, ◌≡◌, ℕ, ◌+◌, ◌<◌, ◌≤◌, ◌⊎◌, inl, inr, true, List, ◌++◌, length, get_or, refl, arith, All, Contains, All-append, All-map, get_or_default, not_empty, All-each, All-flat_map, Role, InputSection, Layout, is_loaded_role, not_hollow_role, Memory, World, IsPastFileBytes, IsStored}
use Rattle.wild_loaded.proofs.SectionsDisjoint.{section_apart}
use Rattle.wild_types.specs.declared.part.Role.TheVariants as role
use Rattle.wild_meaning.specs.LinkedImage.{IsNotCopied}
use Rattle.wild_loaded.proofs.Fillings.{Filling, Misses, general_of, place_entry}
use Rattle.wild_loaded.proofs.LoadedRanges.{LoadedRange, IsCarriedRange, AreDisjointRanges, disjoint_ranges_flip, misses_across, misses_past_file_bytes}
use Rattle.wild_loaded.proofs.SectionsApart.{range_of_section, stored_section_is_carried}
use Rattle.wild_loaded.proofs.PlacesApart.{misses_all}
use Rattle.wild_loaded.proofs.SectionFillings.{section_fillings}
use Rattle.wild_loaded.proofs.TableRanges.{range_of_role, role_there, roles_apart, InTable}
use Rattle.wild_loaded.proofs.CopyFillings.{all_copies, copy_filling, copies_filled, copies_behind, copy_of}
use Rattle.wild_loaded.proofs.TableLists.{sections_filled, slots_filled, blocks_filled, stored_fillings, all_fillings}
use Rattle.wild_loaded.proofs.AllTables.{copies_of_well, stored_misses}
use Rattle.wild_loaded.proofs.MadeChanges.{IsMovedImage}

-- missed by all of them
pub all_miss : (l : Layout) (w : World) (a : ℕ) → All (Misses a) (sections_filled l) → All (Misses a) (slots_filled l) → All (Misses a) (blocks_filled l) → All (Misses a) (copies_filled l w) → All (Misses a) (all_fillings l w)
all_miss l w a s g b c = All-append (Misses a) (stored_fillings l) (copies_filled l w) (All-append (Misses a) (sections_filled l) (slots_filled l ++ blocks_filled l) s (All-append (Misses a) (slots_filled l) (blocks_filled l) g b)) c

-- ---- copies

-- a byte of a run of file bytes is that of no copy
range_misses_copies : (l : Layout) (w : World) (m : Memory) (h : LoadedRange) (k : ℕ) → IsMovedImage l w m → IsCarriedRange l h → k < h.size → All (Misses (h.address + k)) (copies_filled l w)
range_misses_copies l w m h k image there lt = λ i d b. (λ j less e.
    let y = get_or (copies_filled l w) i d in
    let behind = copies_behind l w image.laws.filled.copies (copies_of_well l w image.well) i d b j less in
    let p : Filling = general_of (place_entry (h.address + k)) 1 in
    misses_past_file_bytes l h (y.entry.offset + j) p image.well.kind image.well.laid there (record { from = omega arith; to = omega (arith, lt) }) behind 0 (omega arith) (omega (arith, e)))

-- an address to which no symbol's bytes are copied
pub copies_miss : (l : Layout) (w : World) (m : Memory) (a : ℕ) → IsMovedImage l w m → IsNotCopied l w a → All (Misses a) (copies_filled l w)
copies_miss l w m a h none = All-map (Misses a) (copy_filling l w) (all_copies l) (All-each (λ (i : ℕ). Misses a (copy_filling l w i)) (all_copies l) (λ i c. missed i c))
  where
    missed : (i : ℕ) → Contains (all_copies l) i → Misses a (copy_filling l w i)
    missed i c =
        let k = copy_of l w i h.laws.filled.copies (copies_of_well l w h.well) c in
        sides (copy_filling l w i) k.raw (length k.answer.bytes) k.place k.width (none i k.raw k.answer k.has)
      where
        sides : (x : Filling) (p n : ℕ) → x.entry.offset ≡ p → x.width ≡ n → (a < p) ⊎ (p + n ≤ a) → Misses a x
        sides x p n ep en (inl lt) = λ j less e. omega (arith, ep, lt, e)
        sides x p n ep en (inr le) = λ j less e. omega (arith, ep, en, le, less, e)

-- ---- bytes of sections

section_misses_table : (l : Layout) (w : World) (m : Memory) (r : Role) (s : InputSection) (k : ℕ) (xs : List Filling) → IsMovedImage l w m → is_loaded_role r ≡ true → (r ≡ role.EhFrame → ⊥) → Contains (all_sections l) s → IsStored l s → k < s.size → InTable l r xs → All (Misses (s.address + k)) xs
section_misses_table l w m r s k xs h loaded other c stored lt t = λ i d b.
    misses_across l (range_of_section l s) (range_of_role l r) k (get_or xs i d) h.well.kind h.well.laid (stored_section_is_carried l s stored) (role_there l r loaded (not_hollow_role l r h.well.keeps) h.well.kind h.well.laid) (disjoint_ranges_flip (range_of_role l r) (range_of_section l s) (section_apart l r s loaded other h.well.keeps h.well.laid c stored)) lt (t.within i d b)

-- a byte of a section that the section's own fillings miss
pub section_misses : (l : Layout) (w : World) (m : Memory) (s : InputSection) (k : ℕ) → IsMovedImage l w m → Contains (all_sections l) s → IsStored l s → k < s.size → All (Misses (s.address + k)) (section_fillings l s) → All (Misses (s.address + k)) (all_fillings l w)
section_misses l w m s k h c stored lt own =
    all_miss l w (s.address + k)
    (misses_all l (section_fillings l) s k h.well.kind h.well.keeps h.well.laid h.sections c stored lt own)
    (section_misses_table l w m role.Got s k (slots_filled l) h refl (λ e. cc) c stored lt h.slots.got)
    (section_misses_table l w m role.GotRelr s k (blocks_filled l) h refl (λ e. cc) c stored lt h.slots.block)
    (range_misses_copies l w m (range_of_section l s) k h (stored_section_is_carried l s stored) lt)

-- ---- bytes of tables

run_misses_sections : (l : Layout) (w : World) (m : Memory) (r : LoadedRange) (k : ℕ) → IsMovedImage l w m → IsCarriedRange l r → ((s : InputSection) → Contains (all_sections l) s → IsStored l s → AreDisjointRanges r (range_of_section l s)) → k < r.size → All (Misses (r.address + k)) (sections_filled l)
run_misses_sections l w m r k h there apart lt =
    All-flat_map (Misses (r.address + k)) (section_fillings l) (all_sections l) (λ i d b. (λ j e n.
    let s = get_or (all_sections l) i d in
    let stored = h.sections.stored i d b (not_empty _ j n) in
    let c : Contains (all_sections l) s = (i, b, get_or_default (all_sections l) i s d b) in
    misses_across l r (range_of_section l s) k (get_or (section_fillings l s) j e) h.well.kind h.well.laid there (stored_section_is_carried l s stored) (apart s c stored) lt (h.sections.within i d b j e n)))

run_misses_table : (l : Layout) (w : World) (m : Memory) (r : LoadedRange) (t : Role) (k : ℕ) (xs : List Filling) → IsMovedImage l w m → IsCarriedRange l r → is_loaded_role t ≡ true → AreDisjointRanges r (range_of_role l t) → k < r.size → InTable l t xs → All (Misses (r.address + k)) xs
run_misses_table l w m r t k xs h there loaded apart low table = λ i d b.
    misses_across l r (range_of_role l t) k (get_or xs i d) h.well.kind h.well.laid there (role_there l t loaded (not_hollow_role l t h.well.keeps) h.well.kind h.well.laid) apart low (table.within i d b)

table_misses_sections : (l : Layout) (w : World) (m : Memory) (r : Role) (k : ℕ) → IsMovedImage l w m → is_loaded_role r ≡ true → (r ≡ role.EhFrame → ⊥) → k < (range_of_role l r).size → All (Misses ((range_of_role l r).address + k)) (sections_filled l)
table_misses_sections l w m r k h loaded other lt =
    run_misses_sections l w m (range_of_role l r) k h (role_there l r loaded (not_hollow_role l r h.well.keeps) h.well.kind h.well.laid) (λ s c stored. section_apart l r s loaded other h.well.keeps h.well.laid c stored) lt

table_misses_table : (l : Layout) (w : World) (m : Memory) (r t : Role) (k : ℕ) (xs : List Filling) → IsMovedImage l w m → is_loaded_role r ≡ true → is_loaded_role t ≡ true → (r ≡ t → ⊥) → k < (range_of_role l r).size → InTable l t xs → All (Misses ((range_of_role l r).address + k)) xs
table_misses_table l w m r t k xs h lr lt other low table =
    run_misses_table l w m (range_of_role l r) t k xs h (role_there l r lr (not_hollow_role l r h.well.keeps) h.well.kind h.well.laid) lt (roles_apart l r t lr lt other h.well.keeps h.well.laid) low table

-- a byte of a stub
pub stub_misses : (l : Layout) (w : World) (m : Memory) (k : ℕ) → IsMovedImage l w m → k < (range_of_role l role.PltGot).size → All (Misses ((range_of_role l role.PltGot).address + k)) (all_fillings l w)
stub_misses l w m k h lt =
    all_miss l w ((range_of_role l role.PltGot).address + k)
    (table_misses_sections l w m role.PltGot k h refl (λ e. cc) lt)
    (table_misses_table l w m role.PltGot role.Got k (slots_filled l) h refl refl (λ e. cc) lt h.slots.got)
    (table_misses_table l w m role.PltGot role.GotRelr k (blocks_filled l) h refl refl (λ e. cc) lt h.slots.block)
    (range_misses_copies l w m (range_of_role l role.PltGot) k h (role_there l role.PltGot refl (not_hollow_role l role.PltGot h.well.keeps) h.well.kind h.well.laid) lt)

-- a byte of a run that shares none with sections and tables
pub run_misses : (l : Layout) (w : World) (m : Memory) (r : LoadedRange) (k : ℕ) → IsMovedImage l w m → IsCarriedRange l r → ((s : InputSection) → Contains (all_sections l) s → IsStored l s → AreDisjointRanges r (range_of_section l s)) → ((t : Role) → is_loaded_role t ≡ true → AreDisjointRanges r (range_of_role l t)) → k < r.size → All (Misses (r.address + k)) (all_fillings l w)
run_misses l w m r k h there sections tables lt =
    all_miss l w (r.address + k)
    (run_misses_sections l w m r k h there sections lt)
    (run_misses_table l w m r role.Got k (slots_filled l) h there refl (tables role.Got refl) lt h.slots.got)
    (run_misses_table l w m r role.GotRelr k (blocks_filled l) h there refl (tables role.GotRelr refl) lt h.slots.block)
    (range_misses_copies l w m r k h there lt)

-- a byte of the table of slots that the fillings there miss
pub got_misses : (l : Layout) (w : World) (m : Memory) (k : ℕ) → IsMovedImage l w m → k < (range_of_role l role.Got).size → All (Misses ((range_of_role l role.Got).address + k)) (slots_filled l) → All (Misses ((range_of_role l role.Got).address + k)) (all_fillings l w)
got_misses l w m k h lt own =
    all_miss l w ((range_of_role l role.Got).address + k)
    (table_misses_sections l w m role.Got k h refl (λ e. cc) lt)
    own
    (table_misses_table l w m role.Got role.GotRelr k (blocks_filled l) h refl refl (λ e. cc) lt h.slots.block)
    (range_misses_copies l w m (range_of_role l role.Got) k h (role_there l role.Got refl (not_hollow_role l role.Got h.well.keeps) h.well.kind h.well.laid) lt)

-- ---- zeros

-- an address behind file bytes to which no symbol's bytes are copied
pub behind_miss : (l : Layout) (w : World) (m : Memory) (a : ℕ) → IsMovedImage l w m → IsPastFileBytes l a → IsNotCopied l w a → All (Misses a) (all_fillings l w)
behind_miss l w m a h b none =
    All-append (Misses a) (stored_fillings l) (copies_filled l w)
    (λ i d lt. stored_misses l h.well.kind h.well.keeps h.well.laid h.sections h.slots i d lt a b)
    (copies_miss l w m a h none)
