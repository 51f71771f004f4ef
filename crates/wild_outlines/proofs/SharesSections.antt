-- The numbers of dynamic relocations of a file's sections, after a change that keeps those of the changed section.
use Rattle.wild_outlines.proofs.Common.{◌≡◌, ℕ, zero, suc, Bool, true, false, List, [], ◌∷◌, length, Option, Some, None, refl, sym, ap, ◌∙◌, arith, inl, inr, ◌+◌, ◌*◌, not, if◌then◌else◌, option_to_list, slice_get, flat_map, cases_Bool, RelocationKindInfo, InputRelocation, InputSection, Slot, File, Role, Layout, is_partial_link, total, is_frame, frames_of, kept_size, address_after, unread, placed_frames_with, placed_by, placed_section, placed_sections, with_word_order, words_of, Change, is_changeable, with_item, changed_section, outline_file, outline, written_section, KeepsCounts}
use Rattle.std.specs.List.{filter}
use Rattle.std.proofs.lemmas.Bool.{and_left, and_right}
use Rattle.wild_relr.specs.RunWords.{packed}
use Rattle.wild_reloc.specs.declared.expression.Class.{Class}
use Rattle.wild_reloc.specs.declared.expression.Class.TheVariants as class
use Rattle.wild_reloc.specs.Expression.{expression_of}
use Rattle.wild_types.specs.declared.input.Slot.TheVariants as slot
use Rattle.wild_types.specs.declared.part.Role.TheVariants as role
use Rattle.wild_types.specs.Kinds.{is_position_independent}
use Rattle.wild_types.specs.Lookups.{is_read, has_relocations, may_have_relative}
use Rattle.wild_types.specs.Rows.{row_of}
use Rattle.wild_frames.specs.Frames.{frame_bytes}
use Rattle.wild_placement.specs.PlacedSections.{rela_with_target}
use Rattle.wild_slot.specs.Treatment.{distance_treatment, class_treatment, row_treatment, row_that_accepts, treatment}
use Rattle.wild_needs.specs.Entries.{rela_place, relr_place, rela_places, relr_places, has_dynamic_entry, dynamic_relocations}
use Rattle.wild_needs.proofs.EntryLemmas.{packed_none}
use Rattle.wild_records.specs.Relocations.{rela_size, relr_size}
use Rattle.wild_outlines.specs.RefusalLaws.{entry_room}
use Rattle.wild_outlines.proofs.ListLemmas.{flat_map-same, some_same}
use Rattle.wild_outlines.proofs.ChangedItems.{same_by_outline}
use Rattle.wild_outlines.proofs.SharesFrames.{frames_of-outline, kept_size-outline, same_by_outlines}

-- ---- one relocation

distance_treatment-outline : (l : Layout) (flags n : ℕ) (row : RelocationKindInfo) (o : Option ℕ) → distance_treatment (outline l) flags n row o ≡ distance_treatment l flags n row o
distance_treatment-outline l flags n row None = refl
distance_treatment-outline l flags n row (Some i) = refl

class_treatment-outline : (l : Layout) (flags n : ℕ) (o : Option ℕ) (row : RelocationKindInfo) (k : Class) → class_treatment (outline l) flags n o row k ≡ class_treatment l flags n o row k
class_treatment-outline l flags n o row class.Distance = distance_treatment-outline l flags n row o
class_treatment-outline l flags n o row other = refl

row_treatment-outline : (l : Layout) (flags n : ℕ) (o : Option ℕ) (r : Option RelocationKindInfo) → row_treatment (outline l) flags n o r ≡ row_treatment l flags n o r
unfolding row_treatment
row_treatment-outline l flags n o None = refl
row_treatment-outline l flags n o (Some row) = class_treatment-outline l flags n o row (expression_of row.kind).class

pub treatment-outline : (l : Layout) (flags : ℕ) (r : InputRelocation) → treatment (outline l) flags r ≡ treatment l flags r
unfolding treatment
treatment-outline l flags r = row_treatment-outline l flags r.number r.symbol (row_that_accepts l.machine r (row_of l.machine r.number))

-- ---- one section

rela_place-outline : (l : Layout) (s : InputSection) (r : InputRelocation) → rela_place (outline l) s r ≡ rela_place l s r
rela_place-outline l s r = rw (treatment-outline l s.flags r) refl

relr_place-outline : (l : Layout) (s : InputSection) (r : InputRelocation) → relr_place (outline l) s r ≡ relr_place l s r
relr_place-outline l s r = rw (treatment-outline l s.flags r) refl

pub rela_places-outline : (l : Layout) (s : InputSection) → rela_places (outline l) s ≡ rela_places l s
unfolding rela_places
rela_places-outline l s =
    ap (λ (ns : List ℕ). if may_have_relative l s then ns else [])
    (flat_map-same (λ r. option_to_list (rela_place (outline l) s r)) (λ r. option_to_list (rela_place l s r)) s.relocations (λ r. ap option_to_list (rela_place-outline l s r)))

pub relr_places-outline : (l : Layout) (s : InputSection) → relr_places (outline l) s ≡ relr_places l s
unfolding relr_places
relr_places-outline l s =
    ap (λ (ns : List ℕ). if may_have_relative l s then ns else [])
    (flat_map-same (λ r. option_to_list (relr_place (outline l) s r)) (λ r. option_to_list (relr_place l s r)) s.relocations (λ r. ap option_to_list (relr_place-outline l s r)))

pub words_of-outline : (l : Layout) (s : InputSection) → words_of (outline l) s ≡ words_of l s
words_of-outline l s = ap packed (relr_places-outline l s)

filter-same : {X : Type 0} (t u : X → Bool) (xs : List X) → ((x : X) → t x ≡ u x) → filter t xs ≡ filter u xs
filter-same t u [] h = refl
filter-same t u (x ∷ xs) h = rw (h x, filter-same t u xs h) refl

pub dynamic_relocations-outline : (l : Layout) (s : InputSection) → dynamic_relocations (outline l) s ≡ dynamic_relocations l s
unfolding dynamic_relocations
dynamic_relocations-outline l s =
    ap (λ (rs : List InputRelocation). if is_read s then rs else [])
    (filter-same (λ r. has_dynamic_entry (treatment (outline l) s.flags r)) (λ r. has_dynamic_entry (treatment l s.flags r)) s.relocations (λ r. ap has_dynamic_entry (treatment-outline l s.flags r)))

-- the number of a section's entries in the part of a role
abbrev pub counted_for : Role → Layout → InputSection → ℕ
counted_for role.RelaDynRelative l s = length (rela_places l s)
counted_for role.RelrDyn l s = length (words_of l s)
counted_for other l s = length (dynamic_relocations l s)

counted_for-outline : (r : Role) (s : InputSection) (l : Layout) → counted_for r (outline l) s ≡ counted_for r l s
counted_for-outline role.RelaDynRelative s l = ap length (rela_places-outline l s)
counted_for-outline role.RelrDyn s l = ap length (words_of-outline l s)
counted_for-outline other s l = ap length (dynamic_relocations-outline l s)

pub same_count : (r : Role) (l m : Layout) → outline m ≡ outline l → (s : InputSection) → counted_for r m s ≡ counted_for r l s
same_count r l m e s = same_by_outline (λ n. counted_for r n s) (counted_for-outline r s) l m e

-- a section whose relocations no loader applies has none
none_read : (r : Role) (l : Layout) (s : InputSection) → has_relocations s.slot ≡ false → counted_for r l s ≡ 0
unfolding rela_places relr_places dynamic_relocations
none_read role.RelaDynRelative l s h = rw (and_right (is_position_independent l.kind) (is_read s) (and_left (has_relocations s.slot) (not s.nobits) h)) refl
none_read role.RelrDyn l s h = rw (and_right (is_position_independent l.kind) (is_read s) (and_left (has_relocations s.slot) (not s.nobits) h)) (ap length packed_none)
none_read other l s h = rw h refl

-- ---- placed sections of two files with the same outline

-- layouts and files that differ in no outline
pub record SameOutlines (l m : Layout) (f g : File) : Type 0 where
  pub layout : outline m ≡ outline l
  pub file : outline_file g ≡ outline_file f

same_unread : (l m : Layout) → outline m ≡ outline l → (s : InputSection) → unread m s ≡ unread l s
same_unread l m e s = same_by_outline (λ n. unread n s) (λ n. refl) l m e

same_kept : (l m : Layout) (f g : File) → SameOutlines l m f g → (s : InputSection) → kept_size m g s ≡ kept_size l f s
same_kept l m f g e s = same_by_outlines (λ n h. kept_size n h s) (λ n h. kept_size-outline n h s) l m f g e.layout e.file

pub placed_count : (r : Role) (l m : Layout) (f g : File) → SameOutlines l m f g → (a : ℕ) (s : InputSection) → counted_for r m (placed_section m g a s) ≡ counted_for r l (placed_section l f a s)
unfolding placed_section
placed_count r l m f g e a s = by_slot s.slot
  where
    by_slot : (k : Slot) → counted_for r m (placed_by k m g a s) ≡ counted_for r l (placed_by k l f a s)
    by_slot slot.Loaded = ap (λ t. counted_for r m (with_word_order t)) (same_unread l m e.layout s) ∙ same_count r l m e.layout (with_word_order (unread l s))
    by_slot slot.Debug = same_count r l m e.layout (with_word_order s)
    by_slot slot.Frame =
        ap (λ fs. counted_for r m (placed_frames_with s a fs)) (same_by_outlines (λ n h. frames_of n h s) (λ n h. frames_of-outline n h s) l m f g e.layout e.file)
        ∙ same_count r l m e.layout (placed_frames_with s a (frames_of l f s))
    by_slot slot.Rela = none_read r m (rela_with_target g s) refl ∙ sym (none_read r l (rela_with_target f s) refl)
    by_slot other = same_count r l m e.layout s

pub sections_count : (r : Role) (l m : Layout) (f g : File) → SameOutlines l m f g → (a : ℕ) (ss : List InputSection) → total (counted_for r m) (placed_sections m g a ss) ≡ total (counted_for r l) (placed_sections l f a ss)
sections_count r l m f g e a [] = refl
sections_count r l m f g e a (s ∷ ss) =
    let here = placed_count r l m f g e a s in
    let rest = sections_count r l m f g e (address_after a (kept_size l f s)) ss in
    let move = ap (λ n. total (counted_for r m) (placed_sections m g (address_after a n) ss)) (same_kept l m f g e s) in
    omega (arith, here, rest, move)

-- ---- the changed section

written_slot : (s : InputSection) → (with_word_order s).slot ≡ s.slot
unfolding with_word_order
written_slot s =
    elim (cases_Bool s.reversed) [
      | inl t ↦ rw t refl
      | inr n ↦ rw n refl
    ]

-- a section that may be changed has as many where it is placed as where it is written
pub written_count : (r : Role) (l : Layout) (f : File) (a : ℕ) (s : InputSection) → is_changeable s.slot ≡ true → counted_for r l (placed_section l f a s) ≡ counted_for r l (written_section l s)
unfolding placed_section
written_count r l f a s h = by_slot s.slot refl h
  where
    unread_slot : (t : InputSection) → (unread l t).slot ≡ t.slot
    unread_slot t =
        elim (cases_Bool (is_partial_link l.kind)) [
          | inl x ↦ rw x refl
          | inr x ↦ rw x refl
        ]

    by_slot : (z : Slot) → z ≡ s.slot → is_changeable z ≡ true → counted_for r l (placed_by z l f a s) ≡ counted_for r l (written_section l s)
    by_slot slot.Loaded d h = refl
    by_slot slot.Debug d h =
        none_read r l (with_word_order s) (ap has_relocations (written_slot s ∙ sym d)) ∙ sym (none_read r l (written_section l s) (ap has_relocations (written_slot (unread l s) ∙ (unread_slot s ∙ sym d))))
    by_slot other d h = cc

-- no frames
kept_changed : (l : Layout) (f : File) (s : InputSection) → is_changeable s.slot ≡ true → kept_size l f s ≡ 0
unfolding kept_size
kept_changed l f s h = by_slot s.slot h
  where
    by_slot : (k : Slot) → is_changeable k ≡ true → (if is_frame k then length (frame_bytes (frames_of l f s)) else 0) ≡ 0
    by_slot slot.Frame h = cc
    by_slot other h = refl

-- the number of a file's entries, less those of the old section, plus those of the new one
pub sections_changed : (r : Role) (l m : Layout) (f g : File) (c : Change) → SameOutlines l m f g → (i : ℕ) (ss : List InputSection) (s : InputSection) → slice_get ss i ≡ Some s → is_changeable s.slot ≡ true
    → (a : ℕ) → total (counted_for r m) (placed_sections m g a (with_item (changed_section c) i ss)) + counted_for r l (written_section l s) ≡ total (counted_for r l) (placed_sections l f a ss) + counted_for r l (written_section l (changed_section c s))
sections_changed r l m f g c e i [] s at h a = cc
sections_changed r l m f g c e zero (t ∷ ss) s at h a =
    let t_is : t ≡ s = some_same at in
    let changeable : is_changeable t.slot ≡ true = ap (λ (x : InputSection). is_changeable x.slot) t_is ∙ h in
    let new = placed_count r l m f g e a (changed_section c t) ∙ (written_count r l f a (changed_section c t) changeable ∙ ap (λ (x : InputSection). counted_for r l (written_section l (changed_section c x))) t_is) in
    let old = written_count r l f a t changeable ∙ ap (λ (x : InputSection). counted_for r l (written_section l x)) t_is in
    let rest = sections_count r l m f g e (address_after a (kept_size l f t)) ss in
    let move = ap (λ n. total (counted_for r m) (placed_sections m g (address_after a n) ss)) (kept_changed m g (changed_section c t) changeable ∙ sym (kept_changed l f t changeable)) in
    omega (arith, new, old, rest, move)
sections_changed r l m f g c e (suc i) (t ∷ ss) s at h a =
    let here = placed_count r l m f g e a t in
    let rest = sections_changed r l m f g c e i ss s at h (address_after a (kept_size l f t)) in
    let move = ap (λ n. total (counted_for r m) (placed_sections m g (address_after a n) (with_item (changed_section c) i ss))) (same_kept l m f g e t) in
    omega (arith, here, rest, move)

-- ---- room for entries

-- the size of an entry in the part of a role; 0 for the parts of other roles
abbrev pub entry_size : Role → ℕ
entry_size role.RelaDynRelative = rela_size
entry_size role.RelaDynGeneral = rela_size
entry_size role.RelrDyn = relr_size
entry_size other = 0

pub entry_room_is : (r : Role) (l : Layout) (s : InputSection) → entry_room l r s ≡ entry_size r * counted_for r l s
entry_room_is role.RelaDynRelative l s = refl
entry_room_is role.RelaDynGeneral l s = refl
entry_room_is role.RelrDyn l s = refl
entry_room_is other l s = omega arith

-- a change that keeps these numbers keeps the room
pub kept_room : (r : Role) (l : Layout) (s t : InputSection) → KeepsCounts l s t → entry_size r * counted_for r l (written_section l t) ≡ entry_size r * counted_for r l (written_section l s)
kept_room role.RelaDynRelative l s t k = ap (λ n. rela_size * n) k.rela
kept_room role.RelaDynGeneral l s t k = ap (λ n. rela_size * n) k.dynamic
kept_room role.RelrDyn l s t k = ap (λ n. relr_size * n) k.relr
kept_room other l s t k = omega arith

-- without relocations there are no entries
none_unread : (l : Layout) (s : InputSection) → s.relocations ≡ [] → (unread l s).relocations ≡ []
none_unread l s h =
    elim (cases_Bool (is_partial_link l.kind)) [
      | inl t ↦ rw t refl
      | inr f ↦ rw f h
    ]

none_reversed : (s : InputSection) → s.relocations ≡ [] → (with_word_order s).relocations ≡ []
unfolding with_word_order
none_reversed s h =
    elim (cases_Bool s.reversed) [
      | inl t ↦ rw (t, h) refl
      | inr f ↦ rw f h
    ]

either_none : {X : Type 0} (b : Bool) (xs : List X) → xs ≡ [] → (if b then xs else []) ≡ []
either_none true xs h = h
either_none false xs h = refl

none_listed : (r : Role) (l : Layout) (s : InputSection) → s.relocations ≡ [] → counted_for r l s ≡ 0
unfolding rela_places relr_places dynamic_relocations
none_listed role.RelaDynRelative l s h = ap length (either_none (may_have_relative l s) (flat_map (λ r. option_to_list (rela_place l s r)) s.relocations) (ap (flat_map (λ r. option_to_list (rela_place l s r))) h))
none_listed role.RelrDyn l s h =
    ap (λ (ns : List ℕ). length (packed ns)) (either_none (may_have_relative l s) (flat_map (λ r. option_to_list (relr_place l s r)) s.relocations) (ap (flat_map (λ r. option_to_list (relr_place l s r))) h)) ∙ ap length packed_none
none_listed other l s h = ap length (either_none (is_read s) (filter (λ r. has_dynamic_entry (treatment l s.flags r)) s.relocations) (ap (filter (λ r. has_dynamic_entry (treatment l s.flags r))) h))

pub none_written : (r : Role) (l : Layout) (s : InputSection) → s.relocations ≡ [] → counted_for r l (written_section l s) ≡ 0
none_written r l s h = none_listed r l (written_section l s) (none_reversed (unread l s) (none_unread l s h))
