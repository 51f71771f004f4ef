-- Kept sections share no byte of the file, frames included, and none with a table.
use Rattle.wild_placement.specs.PlacedSections.{part_address}
use Rattle.wild_loaded.proofs.Common.{get_or_default, All-contains, ◌≡◌, ◌+◌, ◌-◌, ◌≤◌, inl, inr, true, length, get_or, refl, ap, ◌∙◌, arith, AllPairs, Contains, Option, Some, None, slice_get, if◌then◌else◌, Bool, Disjoint, Between, Part, Role, InputSection, Layout, KeepsAll, is_frame, part_with, is_loaded_role, role_place, start_of, address_of_part, offset_in, SectionLies, IsLaidOut, table_bytes, file_place, IsStored, HasPlace, Filled, Framed, all_sections, each_at, input_of, section_room}
use Rattle.wild_types.specs.declared.part.Role.TheVariants as role
use Rattle.wild_loaded.proofs.PartsHeld.{placed}
use Rattle.wild_loaded.proofs.LoadedRanges.{LoadedRange, AreDisjointRanges, disjoint_ranges_flip}
use Rattle.wild_loaded.proofs.SectionsApart.{range_of_section, section_rooms_apart, filled_apart}
use Rattle.wild_loaded.proofs.FramesInPart.{FramesBeside, FrameWithin, frames_lie, frames_beside, part_base}
use Rattle.wild_loaded.proofs.TableRanges.{range_of_role, range_of_part, any_roles_apart, filled_apart_from, table_ends}

-- ---- frames in their part

-- the run lies in another
pub record LiesInside (h i : LoadedRange) : Type 0 where
  pub from : i.address ≤ h.address
  pub to : h.address + h.size ≤ i.address + i.size
  pub distance : 1 ≤ h.size → h.offset ≡ i.offset + (h.address - i.address)

pub inside_apart : (h i j : LoadedRange) → 1 ≤ h.size → LiesInside h i → AreDisjointRanges j i → AreDisjointRanges j h
inside_apart h i j some l (inl le) = (let d = l.distance some in inl (omega (arith, le, d)))
inside_apart h i j some l (inr le) = (let d = l.distance some in let from = l.from in let to = l.to in inr (omega (arith, le, d, from, to)))

frame_place : (l : Layout) (s : InputSection) → is_frame s.slot ≡ true → file_place l s ≡ offset_in (part_with role.EhFrame l.parts) s.address
frame_place l s frame = ap (λ (b : Bool). offset_in (if b then part_with role.EhFrame l.parts else slice_get l.parts s.part) s.address) frame

-- a section of frames lies in the part of frames
pub frame_inside : (l : Layout) (s : InputSection) → IsLaidOut l → Contains (all_sections l) s → is_frame s.slot ≡ true → LiesInside (range_of_section l s) (range_of_role l role.EhFrame)
frame_inside l s laid c frame =
    let w = All-contains (FrameWithin (part_base l) (part_base l + length (table_bytes l role.EhFrame))) (all_sections l) s (frames_lie l laid).run.within c frame in
    let ends = table_ends l role.EhFrame refl laid in
    let from = w.0 in
    let to = w.1 in
    let start : start_of l role.EhFrame ≡ part_base l = base_is (part_with role.EhFrame l.parts) in
    let placed_range = ends.0.0 in
    let last = ends.0.1 in
    let off = offset_is (part_with role.EhFrame l.parts) in
    let place = frame_place l s frame in
    record {
      from = omega (arith, from, start, placed_range);
      to = omega (arith, to, start, placed_range, last);
      distance = λ some. place ∙ off (omega (arith, some, from, to, start, placed_range, last));
    }
  where
    base_is : (o : Option Part) → address_of_part o ≡ part_address o
    base_is None = refl
    base_is (Some p) = refl

    offset_is : (o : Option Part) → 1 ≤ (range_of_part o).size → offset_in o s.address ≡ (range_of_part o).offset + (s.address - (range_of_part o).address)
    offset_is None some = absurd (omega (arith, some))
    offset_is (Some p) some = refl

-- a section shares no byte with another table
pub any_section_apart : (l : Layout) (r : Role) (s : InputSection) → (role_place r ≡ 0 → ⊥) → (r ≡ role.EhFrame → ⊥) → KeepsAll l → IsLaidOut l → Contains (all_sections l) s → IsStored l s → AreDisjointRanges (range_of_role l r) (range_of_section l s)
any_section_apart l r s some other keeps laid c stored = by_place stored.place
  where
    by_place : HasPlace l s → AreDisjointRanges (range_of_role l r) (range_of_section l s)
    by_place (Filled filled) = filled_apart_from l r s some keeps laid (each_at (SectionLies l) l s laid.inputs (input_of l s c)) filled
    by_place (Framed frame) = inside_apart (range_of_section l s) (range_of_role l role.EhFrame) (range_of_role l r) stored.some (frame_inside l s laid c frame) (any_roles_apart l r role.EhFrame some (λ e. cc) other keeps laid)

-- of a role that a program reads
pub section_apart : (l : Layout) (r : Role) (s : InputSection) → is_loaded_role r ≡ true → (r ≡ role.EhFrame → ⊥) → KeepsAll l → IsLaidOut l → Contains (all_sections l) s → IsStored l s → AreDisjointRanges (range_of_role l r) (range_of_section l s)
section_apart l r s loaded other keeps laid c stored = any_section_apart l r s (placed r loaded) other keeps laid c stored

-- ---- two sections

-- they share no byte, where both have bytes in the file
abbrev pub AreAside : Layout → InputSection → InputSection → Type 0
AreAside l s t = IsStored l s → IsStored l t → AreDisjointRanges (range_of_section l s) (range_of_section l t)

both_framed : (h i j : LoadedRange) → 1 ≤ h.size → 1 ≤ i.size → LiesInside h j → LiesInside i j → h.address + h.size ≤ i.address → AreDisjointRanges h i
both_framed h i j sh si lh li le =
    let a = lh.distance sh in
    let b = li.distance si in
    let fh = lh.from in
    let fi = li.from in
    inl (omega (arith, a, b, fh, fi, le))

-- so it is with each two of the layout
pub sections_aside : (l : Layout) → KeepsAll l → IsLaidOut l → AllPairs (AreAside l) (all_sections l)
sections_aside l keeps laid = λ i j d lt m.
    let s = get_or (all_sections l) i d in
    let t = get_or (all_sections l) j d in
    let cs : Contains (all_sections l) s = (i, omega (arith, lt, m), get_or_default (all_sections l) i s d (omega (arith, lt, m))) in
    let ct : Contains (all_sections l) t = (j, m, get_or_default (all_sections l) j t d m) in
    both s t cs ct (section_rooms_apart l laid i j d lt m) (frames_beside l laid i j d lt m)
  where
    both : (s t : InputSection) → Contains (all_sections l) s → Contains (all_sections l) t → Between Disjoint (section_room l) s t → FramesBeside s t → AreAside l s t
    both s t cs ct across beside = λ x y. by_places x.some y.some x.place y.place
      where
        by_places : 1 ≤ s.size → 1 ≤ t.size → HasPlace l s → HasPlace l t → AreDisjointRanges (range_of_section l s) (range_of_section l t)
        by_places ss st (Filled fs) (Filled ft) = filled_apart l s t fs ft across
        by_places ss st (Filled fs) (Framed ft) =
            (inside_apart (range_of_section l t) (range_of_role l role.EhFrame) (range_of_section l s) st (frame_inside l t laid ct ft)
            (disjoint_ranges_flip (range_of_role l role.EhFrame) (range_of_section l s) (filled_apart_from l role.EhFrame s (λ e. cc) keeps laid (each_at (SectionLies l) l s laid.inputs (input_of l s cs)) fs)))
        by_places ss st (Framed fs) (Filled ft) =
            disjoint_ranges_flip (range_of_section l t) (range_of_section l s)
            (inside_apart (range_of_section l s) (range_of_role l role.EhFrame) (range_of_section l t) ss (frame_inside l s laid cs fs)
            (disjoint_ranges_flip (range_of_role l role.EhFrame) (range_of_section l t) (filled_apart_from l role.EhFrame t (λ e. cc) keeps laid (each_at (SectionLies l) l t laid.inputs (input_of l t ct)) ft)))
        by_places ss st (Framed fs) (Framed ft) = both_framed (range_of_section l s) (range_of_section l t) (range_of_role l role.EhFrame) ss st (frame_inside l s laid cs fs) (frame_inside l t laid ct ft) (beside fs ft)
