-- Sections that contribute nothing to the tables of dynamic relocations.
use Rattle.std.proofs.Common.{◌≡◌, ℕ, ◌+◌, inl, inr, Bool, true, false, if◌then◌else◌, List, [], ◌∷◌, ◌++◌, map, get_or, All, Option, Some, None, refl, sym, ap, ◌∙◌}
use Rattle.std.specs.Prelude.{◌&&◌, ◌||◌, ◌==◌, not, nat_le, nat_lt, option_map, option_to_list}
use Rattle.std.specs.List.{flat_map, filter, list_all}
use Rattle.std.proofs.lemmas.Bool.{cases_Bool, and_parts}
use Rattle.std.proofs.lemmas.List.Elements.{All-nil, All-cons, All-head, All-tail, All-filter, All-map}
use Rattle.wild_words.proofs.ListLemmas.{All-flat_map}
use Rattle.wild_records.specs.Abi.Relocation.{r_aarch64_abs64, r_x86_64_64, r_x86_64_size32, r_x86_64_size64}
use Rattle.wild_records.specs.declared.relocations.Rela.{Rela}
use Rattle.wild_relr.specs.RunWords.{packed, packed_on}
use Rattle.wild_types.specs.declared.part.Role.{Role}
use Rattle.wild_types.specs.declared.part.Role.TheVariants as role
use Rattle.wild_types.specs.declared.input.Slot.{Slot}
use Rattle.wild_types.specs.declared.input.Slot.TheVariants as slot
use Rattle.wild_types.specs.declared.input.InputRelocation.{InputRelocation}
use Rattle.wild_types.specs.declared.input.InputSection.{InputSection}
use Rattle.wild_types.specs.declared.file.File.{File}
use Rattle.wild_types.specs.declared.layout.Layout.{Layout}
use Rattle.wild_types.specs.Kinds.{is_partial_link, is_position_independent}
use Rattle.wild_types.specs.Lookups.{is_frame, has_relocations, is_read, writable, place_of, packs, may_have_relative}
use Rattle.wild_frames.specs.Frames.{kept_in}
use Rattle.wild_slot.specs.Treatment.{treatment}
use Rattle.wild_placement.specs.ReversedWords.{with_word_order, reversed_section}
use Rattle.wild_placement.specs.FrameInputs.{frames_of}
use Rattle.wild_placement.specs.PlacedSections.{without_relocations, unread, entry_relocations, moved_relocation, moved_relocations, placed_by, placed_frames, placed_section}
use Rattle.wild_needs.specs.Entries.{is_relative_by, may_be_relative, relr_place, relr_places, may_have_dynamic_entry, has_dynamic_entry, dynamic_relocations}
use Rattle.wild_needs.proofs.EntryLemmas.{others_fixed, others_stay}
use Rattle.wild_table_formats.specs.RelativeEntries.{rela_bytes}
use Rattle.wild_table_formats.specs.GroupTables.{relative_entry}
use Rattle.wild_layout.specs.DynamicRelocations.{dynamic_relocation, section_generals}
use Rattle.wild_layout.specs.RelativeRelocations.{relative_value, listed_entry, section_entries}
use Rattle.wild_contents.specs.FileTables.{section_entry_bytes, section_word_bytes}
use Rattle.wild_contents.specs.General.{section_general_bytes}
use Rattle.wild_contents.specs.PlacedSections.{section_given}
use Rattle.wild_contents.specs.NoEntries.{can_need_entry, needs_no_entry}
use Rattle.wild_contents.proofs.FileTableLemmas.{none_added, no_entries, no_words}
use Rattle.wild_contents.proofs.GeneralLemmas.{section_unread}

abbrev NeedsNone : InputRelocation → Type 0
NeedsNone r = can_need_entry r.number ≡ false

-- ---- the relocations of the kept entries

negated : (b : Bool) → not b ≡ true → b ≡ false
negated true h = cc
negated false h = refl

each_needs_none : (rs : List InputRelocation) → list_all (λ (r : InputRelocation). not (can_need_entry r.number)) rs ≡ true → All NeedsNone rs
each_needs_none [] h = All-nil NeedsNone
each_needs_none (r ∷ rs) h =
    let p = and_parts (not (can_need_entry r.number)) (list_all (λ (x : InputRelocation). not (can_need_entry x.number)) rs) h in
    All-cons NeedsNone r rs (negated (can_need_entry r.number) p.0) (each_needs_none rs p.1)

own_need_none : (b : Bool) (rs : List InputRelocation) → All NeedsNone rs → All NeedsNone (if b then [] else rs)
own_need_none true rs h = All-nil NeedsNone
own_need_none false rs h = h

moved_need_none : (l : Layout) (f : File) (s : InputSection) → All NeedsNone (if s.nobits then [] else s.relocations) → All NeedsNone (moved_relocations (frames_of l f s))
unfolding moved_relocations
moved_need_none l f s h =
    let fs = frames_of l f s in
    All-flat_map NeedsNone (λ k. map (moved_relocation k) (entry_relocations fs k)) (kept_in fs) (λ i k m.
    let x = get_or (kept_in fs) i k in
    All-map NeedsNone (moved_relocation x) (entry_relocations fs x) (All-filter (λ r. nat_le x.from r.offset && nat_lt r.offset (x.from + x.size)) NeedsNone fs.relocations h))

-- ---- what such relocations contribute

either_false : (a b : Bool) → (a || b) ≡ false → (a ≡ false) × (b ≡ false)
either_false true b h = cc
either_false false b h = (refl, h)

not_relative : (l : Layout) (flags : ℕ) (r : InputRelocation) → NeedsNone r → is_relative_by l flags r ≡ false
not_relative l flags r h = others_fixed l flags r (either_false (may_be_relative r.number) (r.number == r_x86_64_size32 || r.number == r_x86_64_size64) h).0

no_type : (a w b : Bool) → a ≡ false → b ≡ false → ((a && w) || b) ≡ false
no_type false w b g h = h
no_type true w b g h = cc

not_dynamic : (l : Layout) (flags : ℕ) (r : InputRelocation) → NeedsNone r → has_dynamic_entry (treatment l flags r) ≡ false
not_dynamic l flags r h =
    let p = either_false (r.number == r_x86_64_64 || r.number == r_aarch64_abs64) (r.number == r_x86_64_size32 || r.number == r_x86_64_size64) h in
    others_stay l flags r (no_type (r.number == r_x86_64_64 || r.number == r_aarch64_abs64) (writable flags) (r.number == r_x86_64_size32 || r.number == r_x86_64_size64) p.0 p.1)

none_mapped : {Y : Type 0} (g : InputRelocation → List Y) (rs : List InputRelocation) → ((r : InputRelocation) → NeedsNone r → g r ≡ []) → All NeedsNone rs → flat_map g rs ≡ []
none_mapped g [] none h = refl
none_mapped {Y} g (r ∷ rs) none h = ap (λ (ys : List Y). ys ++ flat_map g rs) (none r (All-head NeedsNone r rs h)) ∙ none_mapped g rs none (All-tail NeedsNone r rs h)

none_left_in : (t : InputRelocation → Bool) (rs : List InputRelocation) → ((r : InputRelocation) → NeedsNone r → t r ≡ false) → All NeedsNone rs → filter t rs ≡ []
none_left_in t [] none h = refl
none_left_in t (r ∷ rs) none h = let e = none r (All-head NeedsNone r rs h) in rw e (none_left_in t rs none (All-tail NeedsNone r rs h))

none_if : {Y : Type 0} (b : Bool) (ys : List Y) → ys ≡ [] → (if b then ys else []) ≡ []
none_if true ys h = h
none_if false ys h = refl

unlisted : {Y : Type 0} (b c : Bool) (place : ℕ) (g : ℕ → Y) → b ≡ false → option_to_list (option_map g (if b && c then Some place else None)) ≡ []
unlisted false c place g h = refl
unlisted true c place g h = cc

unpacked : (b c : Bool) (place : ℕ) → b ≡ false → option_to_list (if b && c then Some place else None) ≡ []
unpacked false c place h = refl
unpacked true c place h = cc

no_relative : (l : Layout) (s : InputSection) → All NeedsNone s.relocations → section_entry_bytes l s ≡ []
unfolding section_entry_bytes section_entries
no_relative l s h =
    ap rela_bytes (none_if (may_have_relative l s) (flat_map (λ r. option_to_list (listed_entry l s r)) s.relocations)
    (none_mapped (λ r. option_to_list (listed_entry l s r)) s.relocations (λ r n. unlisted (is_relative_by l s.flags r) (not (packs l (place_of s.address r))) (place_of s.address r) (λ place. relative_entry l place (relative_value l r)) (not_relative l s.flags r n)) h))

no_places : (l : Layout) (s : InputSection) → All NeedsNone s.relocations → relr_places l s ≡ []
unfolding relr_places
no_places l s h =
    none_if (may_have_relative l s) (flat_map (λ r. option_to_list (relr_place l s r)) s.relocations)
    (none_mapped (λ r. option_to_list (relr_place l s r)) s.relocations (λ r n. unpacked (is_relative_by l s.flags r) (packs l (place_of s.address r)) (place_of s.address r) (not_relative l s.flags r n)) h)

no_words_there : (l : Layout) (s : InputSection) → relr_places l s ≡ [] → section_word_bytes l s ≡ []
unfolding section_word_bytes packed packed_on
no_words_there l s h = rw h refl

no_general : (l : Layout) (s : InputSection) → All NeedsNone s.relocations → section_general_bytes l s ≡ []
unfolding section_general_bytes section_generals dynamic_relocations
no_general l s h =
    ap (λ (rs : List InputRelocation). rela_bytes (map (dynamic_relocation l s.address s.flags) rs)) (none_if (is_read s) (filter (λ r. has_dynamic_entry (treatment l s.flags r)) s.relocations)
    (none_left_in (λ r. has_dynamic_entry (treatment l s.flags r)) s.relocations (λ r n. not_dynamic l s.flags r n) h))

nothing_given : (r : Role) (l : Layout) (s : InputSection) → All NeedsNone s.relocations → section_given r l s ≡ []
nothing_given role.RelaDynRelative l s h = no_relative l s h
nothing_given role.RelaDynGeneral l s h = no_general l s h
nothing_given role.RelrDyn l s h = no_words_there l s (no_places l s h)
nothing_given other l s h = refl

-- ---- sections that are not read

reversed_is_read : (b : Bool) (s : InputSection) → is_read (if b then reversed_section s else s) ≡ is_read s
reversed_is_read true s = refl
reversed_is_read false s = refl

linked_is_read : (b : Bool) (s : InputSection) → is_read (if b then without_relocations s else s) ≡ is_read s
linked_is_read true s = refl
linked_is_read false s = refl

stays_unread : (k : Slot) (l : Layout) (f : File) (at : ℕ) (s : InputSection) → s.slot ≡ k → is_frame k ≡ false → is_read s ≡ false → is_read (placed_by k l f at s) ≡ false
unfolding with_word_order
stays_unread slot.Discard l f at s k o h = h
stays_unread slot.Loaded l f at s k o h = reversed_is_read (unread l s).reversed (unread l s) ∙ linked_is_read (is_partial_link l.kind) s ∙ h
stays_unread slot.Sorted l f at s k o h = h
stays_unread slot.Debug l f at s k o h = reversed_is_read s.reversed s ∙ h
stays_unread slot.Frame l f at s k o h = cc
stays_unread slot.Merge l f at s k o h = h
stays_unread slot.Rela l f at s k o h = refl
stays_unread slot.Group l f at s k o h = h

none_may : (a b : Bool) → b ≡ false → (a && b) ≡ false
none_may true b h = h
none_may false b h = refl

nothing_read : (r : Role) (l : Layout) (s : InputSection) → is_read s ≡ false → section_given r l s ≡ []
nothing_read role.RelaDynRelative l s h = no_entries l s (none_may (is_position_independent l.kind) (is_read s) h)
nothing_read role.RelaDynGeneral l s h = section_unread l s h
nothing_read role.RelrDyn l s h = no_words l s (none_may (is_position_independent l.kind) (is_read s) h)
nothing_read other l s h = refl

-- ---- frames

frames_placed : (k : Slot) (l : Layout) (f : File) (at : ℕ) (s : InputSection) → is_frame k ≡ true → placed_by k l f at s ≡ placed_frames l f at s
frames_placed slot.Frame l f at s h = refl
frames_placed other l f at s h = cc

-- frames that are not read have no bytes, so no relocations
unread_frames : (s : InputSection) → is_frame s.slot ≡ true → is_read s ≡ false → s.nobits ≡ true
unread_frames s f h = by_test (has_relocations s.slot) s.nobits (framed s.slot f) h
  where
    framed : (k : Slot) → is_frame k ≡ true → has_relocations k ≡ true
    framed slot.Frame f = refl
    framed other f = cc

    by_test : (a b : Bool) → a ≡ true → (a && not b) ≡ false → b ≡ true
    by_test true true e h = refl
    by_test true false e h = cc
    by_test false b e h = cc

unread_need_none : (b : Bool) (rs : List InputRelocation) → b ≡ true → All NeedsNone (if b then [] else rs)
unread_need_none true rs h = All-nil NeedsNone
unread_need_none false rs h = cc

framed_nothing : (r : Role) (l : Layout) (f : File) (at : ℕ) (s : InputSection) → is_frame s.slot ≡ true → All NeedsNone (if s.nobits then [] else s.relocations) → section_given r l (placed_by s.slot l f at s) ≡ []
framed_nothing r l f at s frame h =
    ap (section_given r l) (frames_placed s.slot l f at s frame) ∙ nothing_given r l (placed_frames l f at s) (moved_need_none l f s h)

unread_nothing : (r : Role) (l : Layout) (f : File) (at : ℕ) (s : InputSection) → is_read s ≡ false → section_given r l (placed_by s.slot l f at s) ≡ []
unread_nothing r l f at s h =
    elim (cases_Bool (is_frame s.slot)) [
      | inl t ↦ framed_nothing r l f at s t (unread_need_none s.nobits s.relocations (unread_frames s t h))
      | inr o ↦ nothing_read r l (placed_by s.slot l f at s) (stays_unread s.slot l f at s refl o h)
    ]

-- a section that passes the test contributes nothing
pub nothing_needed : (r : Role) (l : Layout) (f : File) (at : ℕ) (s : InputSection) (bytes : List ℕ) → needs_no_entry s ≡ true → bytes ≡ bytes ++ section_given r l (placed_section l f at s)
unfolding needs_no_entry placed_section
nothing_needed r l f at s bytes h = none_added bytes (section_given r l (placed_by s.slot l f at s)) (by_test (is_read s) refl)
  where
    by_test : (b : Bool) → is_read s ≡ b → section_given r l (placed_by s.slot l f at s) ≡ []
    by_test false e = unread_nothing r l f at s e
    by_test true e =
        let p = and_parts (is_frame s.slot) (list_all (λ (x : InputRelocation). not (can_need_entry x.number)) s.relocations) (rw e at h) in
        framed_nothing r l f at s p.0 (own_need_none s.nobits s.relocations (each_needs_none s.relocations p.1))
