-- The bytes of the file that no table fills.
use Rattle.wild_loaded.proofs.Common.{◌≡◌, ℕ, ◌+◌, ◌-◌, inl, inr, true, false, get_or, refl, sym, ◌∙◌, arith, subst, Option, Some, None, All, Contains, cases_Bool, eqb-true, All-each, All-flat_map, Part, Role, InputSection, Layout, block_for, KeepsAll, is_frame, is_read, allocated, has_role, part_with, IsLaidOut, bytes, Memory, World, byte_in, BytesAreLoaded, IsLoadable, not_partial, IsPlacedSection, all_sections, input_of, FileBytesAreStored}
use Rattle.wild_types.specs.declared.part.Role.TheVariants as role
use Rattle.wild_meaning.specs.Unfilled.{IsFileByte, IsUnfilled, IsOutside, is_filled_role}
use Rattle.wild_geometry.proofs.RoleLemmas.{FoundAt-from_find}
use Rattle.wild_geometry.proofs.TableLemmas.{same_role}
use Rattle.wild_geometry.proofs.PlacedOrigins.{kept_origin}
use Rattle.wild_loaded.proofs.Fillings.{Filling, Misses}
use Rattle.wild_loaded.proofs.LoadedRanges.{LoadedRange, LiesIn}
use Rattle.wild_loaded.proofs.PartsHeld.{byte_carried}
use Rattle.wild_loaded.proofs.SectionsApart.{range_of_section}
use Rattle.wild_loaded.proofs.SectionsDisjoint.{frame_inside}
use Rattle.wild_loaded.proofs.SectionFillings.{section_fillings}
use Rattle.wild_loaded.proofs.FilledSections.{filling_known, filled_there, lies_there}
use Rattle.wild_loaded.proofs.TableRanges.{range_of_role, range_of_part}
use Rattle.wild_loaded.proofs.TableLists.{sections_filled, slots_filled, blocks_filled}
use Rattle.wild_loaded.proofs.MadeChanges.{IsMovedImage, kept_at}
use Rattle.wild_loaded.proofs.OutsideTables.{all_miss, copies_miss}

-- a byte of the file is loaded
pub file_bytes_stored : BytesAreLoaded → FileBytesAreStored
file_bytes_stored law = λ l w a b kind legal laid h. byte_carried l w h.segment (h.segment.offset + (a - h.segment.address)) a b law kind legal laid (record { listed = h.listed; loaded = h.loaded; from = h.from; to = h.within; distance = refl }) h.given

-- ---- what fills nothing there

outside_misses : (h : LoadedRange) (x : Filling) (a : ℕ) → LiesIn h x → IsOutside h.address h.size a → Misses a x
outside_misses h x a lies (inl lt) = λ j less e. (let from = lies.from in omega (arith, lt, from, e))
outside_misses h x a lies (inr le) = λ j less e. (let to = lies.to in omega (arith, le, to, less, e))

-- the parts that are filled
role_outside : (l : Layout) (w : World) (a : ℕ) (r : Role) → IsUnfilled l w a → is_filled_role r ≡ true → IsOutside (range_of_role l r).address (range_of_role l r).size a
role_outside l w a r free filled = by_part (part_with r l.parts) refl
  where
    by_part : (o : Option Part) → part_with r l.parts ≡ o → IsOutside (range_of_part o).address (range_of_part o).size a
    by_part None e = inr (omega arith)
    by_part (Some p) e =
        let f = FoundAt-from_find (has_role r) l.parts p e in
        let has = same_role p.role r (eqb-true _ _ f.passes) in
        free.parts p (f.place, f.within, f.is p) (subst (λ (x : Role). is_filled_role x ≡ true) (sym has) filled)

-- frames are in their part
frame_outside : (l : Layout) (w : World) (a : ℕ) (s : InputSection) → IsLaidOut l → IsUnfilled l w a → Contains (all_sections l) s → is_frame s.slot ≡ true → IsOutside s.address s.size a
frame_outside l w a s laid free c frame = by_part (role_outside l w a role.EhFrame free refl)
  where
    by_part : IsOutside (range_of_role l role.EhFrame).address (range_of_role l role.EhFrame).size a → IsOutside s.address s.size a
    by_part (inl lt) = (let from = (frame_inside l s laid c frame).from in inl (omega (arith, lt, from)))
    by_part (inr le) = (let to = (frame_inside l s laid c frame).to in inr (omega (arith, le, to)))

-- other sections are the layout's
plain_outside : (l : Layout) (w : World) (a : ℕ) (s : InputSection) → KeepsAll l → IsLoadable l.kind → IsUnfilled l w a → IsPlacedSection l s → is_read s ≡ true → is_frame s.slot ≡ false → allocated s.flags ≡ true → IsOutside s.address s.size a
plain_outside l w a s keeps kind free input reads plain room =
    let o = kept_origin l s keeps (not_partial l.kind kind) input reads plain room in
    subst (λ (n : ℕ). IsOutside s.address n a) o.size (subst (λ (n : ℕ). IsOutside n o.section.size a) o.address (free.sections o.section o.kept))

section_misses : (l : Layout) (w : World) (m : Memory) (a : ℕ) (s : InputSection) (x : Filling) → IsMovedImage l w m → IsUnfilled l w a → Contains (all_sections l) s → Contains (section_fillings l s) x → Misses a x
section_misses l w m a s x h free c cx =
    let input = input_of l s c in
    let known = filling_known l s x cx in
    let there = filled_there l s x h.well.keeps h.well.laid h.well.decided input known in
    let lies = lies_there l (block_for l input.owner s) s x there in
    elim (cases_Bool (is_frame s.slot)) [
      | inl frame ↦ outside_misses (range_of_section l s) x a lies (frame_outside l w a s h.well.laid free c frame)
      | inr plain ↦ outside_misses (range_of_section l s) x a lies (plain_outside l w a s h.well.keeps h.well.kind free input known.reads plain there.by.room)
    ]

sections_miss : (l : Layout) (w : World) (m : Memory) (a : ℕ) → IsMovedImage l w m → IsUnfilled l w a → All (Misses a) (sections_filled l)
sections_miss l w m a h free =
    All-flat_map (Misses a) (section_fillings l) (all_sections l)
    (All-each (λ (s : InputSection). All (Misses a) (section_fillings l s)) (all_sections l) (λ s c. All-each (Misses a) (section_fillings l s) (λ x cx. section_misses l w m a s x h free c cx)))

-- such a byte is as in the file
pub still_held : (l : Layout) (w : World) (m : Memory) (a b : ℕ) → FileBytesAreStored → IsMovedImage l w m → IsFileByte l (bytes l) a b → IsUnfilled l w a → byte_in m (w.base + a) ≡ Some b
still_held l w m a b law h file free =
    kept_at l w m a h (all_miss l w a
    (sections_miss l w m a h free)
    (λ i d lt. outside_misses (range_of_role l role.Got) (get_or (slots_filled l) i d) a (h.slots.got.within i d lt) (role_outside l w a role.Got free refl))
    (λ i d lt. outside_misses (range_of_role l role.GotRelr) (get_or (blocks_filled l) i d) a (h.slots.block.within i d lt) (role_outside l w a role.GotRelr free refl))
    (copies_miss l w m a h free.copies))
    ∙ law l w a b h.well.kind h.well.legal h.well.laid file
