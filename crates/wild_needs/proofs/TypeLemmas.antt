-- If the types of an input section's relocations exclude the items of a kind, the placed section has none.
use Rattle.std.proofs.Common.{◌≡◌, ℕ, ◌+◌, ◌-◌, ◌^◌, inl, inr, min, Bool, true, false, List, [], ◌∷◌, ◌++◌, length, map, refl, subst, ap, ◌∙◌, arith, Option, Some, None}
use Rattle.std.specs.Prelude.{◌&&◌, not, if◌then◌else◌, nat_le, nat_lt, option_to_list}
use Rattle.std.specs.List.{flat_map, filter, list_all}
use Rattle.std.proofs.lemmas.Bool.{cases_Bool, and_parts, and_left, and_right}
use Rattle.wild_relr.specs.RunWords.{packed}
use Rattle.wild_types.specs.declared.file.File.{File}
use Rattle.wild_types.specs.declared.input.InputRelocation.{InputRelocation}
use Rattle.wild_types.specs.declared.input.InputSection.{InputSection}
use Rattle.wild_types.specs.declared.input.Slot.{Slot}
use Rattle.wild_types.specs.declared.input.Slot.TheVariants as slot
use Rattle.wild_types.specs.declared.layout.Layout.{Layout}
use Rattle.wild_types.specs.Kinds.{is_partial_link, is_position_independent}
use Rattle.wild_types.specs.Lookups.{allocated, is_read}
use Rattle.wild_slot.specs.Treatment.{treatment}
use Rattle.wild_frames.specs.declared.entry.KeptEntry.{KeptEntry}
use Rattle.wild_frames.specs.Frames.{Frames, kept_in, relocations_in}
use Rattle.wild_placement.specs.FrameInputs.{frames_of}
use Rattle.wild_placement.specs.ReversedWords.{reversed_offset, with_word_order}
use Rattle.wild_placement.specs.PlacedSections.{entry_relocations, moved_relocation, moved_relocations, unread, rela_with_target, placed_by, placed_section}
use Rattle.wild_needs.specs.declared.tally.Counted.{Counted}
use Rattle.wild_needs.specs.declared.tally.Counted.TheVariants.{Listed, Packed, Dynamic}
use Rattle.wild_needs.specs.declared.tally.SectionFacts.{SectionFacts}
use Rattle.wild_needs.specs.Entries.{listed_at, relr_place_at, rela_places, relr_places, may_be_relative, has_dynamic_entry, may_have_dynamic_entry, dynamic_relocations}
use Rattle.wild_needs.specs.Tallies.{section_facts, counted_in, may_have_items, type_allows, types_exclude}
use Rattle.wild_needs.proofs.EntryLemmas.{packed_none, false_from_not, others_fixed, others_stay}
use Rattle.wild_needs.proofs.TallyLemmas.{unasked}

-- ---- the relocations of a placed section have types of the input's

-- the type of each relocation passes a test
abbrev types_pass : (ℕ → Bool) → List InputRelocation → Bool
types_pass t rs = list_all (λ (r : InputRelocation). t r.number) rs

types_append : (t : ℕ → Bool) (xs ys : List InputRelocation) → types_pass t xs ≡ true → types_pass t ys ≡ true → types_pass t (xs ++ ys) ≡ true
types_append t [] ys a b = b
types_append t (x ∷ xs) ys a b = let p = and_parts (t x.number) (types_pass t xs) a in rw p.0 (types_append t xs ys p.1 b)

entry_types : (t : ℕ → Bool) (k : KeptEntry) (rs : List InputRelocation) → types_pass t rs ≡ true → types_pass t (map (moved_relocation k) (relocations_in k.from (k.from + k.size) rs)) ≡ true
entry_types t k [] h = refl
entry_types t k (r ∷ rs) h =
    let p = and_parts (t r.number) (types_pass t rs) h in
    let rest = entry_types t k rs p.1 in
    elim (cases_Bool (nat_le k.from r.offset && nat_lt r.offset (k.from + k.size))) [
      | inl inside ↦ rw inside (rw p.0 rest)
      | inr outside ↦ rw outside rest
    ]

entries_types : (t : ℕ → Bool) (fs : Frames) (ks : List KeptEntry) → types_pass t fs.relocations ≡ true → types_pass t (flat_map (λ k. map (moved_relocation k) (entry_relocations fs k)) ks) ≡ true
entries_types t fs [] h = refl
entries_types t fs (k ∷ ks) h = types_append t (map (moved_relocation k) (entry_relocations fs k)) (flat_map (λ k. map (moved_relocation k) (entry_relocations fs k)) ks) (entry_types t k fs.relocations h) (entries_types t fs ks h)

frames_types : (t : ℕ → Bool) (fs : Frames) → types_pass t fs.relocations ≡ true → types_pass t (moved_relocations fs) ≡ true
unfolding moved_relocations
frames_types t fs h = entries_types t fs (kept_in fs) h

data_types : (t : ℕ → Bool) (nobits : Bool) (rs : List InputRelocation) → types_pass t rs ≡ true → types_pass t (if nobits then [] else rs) ≡ true
data_types t true rs h = refl
data_types t false rs h = h

reversed_types : (t : ℕ → Bool) (n : ℕ) (rs : List InputRelocation) → types_pass t rs ≡ true → types_pass t (map (reversed_offset n) rs) ≡ true
reversed_types t n [] h = refl
reversed_types t n (r ∷ rs) h = let p = and_parts (t r.number) (types_pass t rs) h in rw p.0 (reversed_types t n rs p.1)

ordered_types : (t : ℕ → Bool) (s : InputSection) → types_pass t s.relocations ≡ true → types_pass t (with_word_order s).relocations ≡ true
unfolding with_word_order
ordered_types t s h =
    elim (cases_Bool s.reversed) [
      | inl reversed ↦ rw reversed (reversed_types t s.size s.relocations h)
      | inr other ↦ rw other h
    ]

unread_types : (t : ℕ → Bool) (l : Layout) (s : InputSection) → types_pass t s.relocations ≡ true → types_pass t (unread l s).relocations ≡ true
unread_types t l s h =
    elim (cases_Bool (is_partial_link l.kind)) [
      | inl partial ↦ rw partial refl
      | inr other ↦ rw other h
    ]

-- ---- such a section has no items

no_place : (f : InputRelocation → Option ℕ) (t : ℕ → Bool) (rs : List InputRelocation) → ((r : InputRelocation) → t r.number ≡ true → f r ≡ None) → types_pass t rs ≡ true → flat_map (λ r. option_to_list (f r)) rs ≡ []
no_place f t [] none h = refl
no_place f t (r ∷ rs) none h = let p = and_parts (t r.number) (types_pass t rs) h in rw (none r p.0) (no_place f t rs none p.1)

no_rela_place : (l : Layout) (flags address : ℕ) (r : InputRelocation) → not (may_be_relative r.number) ≡ true → listed_at l flags address r ≡ None
no_rela_place l flags address r h = rw (others_fixed l flags r (false_from_not (may_be_relative r.number) h)) refl

no_relr_place : (l : Layout) (flags address : ℕ) (r : InputRelocation) → not (may_be_relative r.number) ≡ true → relr_place_at l flags address r ≡ None
no_relr_place l flags address r h = rw (others_fixed l flags r (false_from_not (may_be_relative r.number) h)) refl

no_entry : (l : Layout) (flags : ℕ) (rs : List InputRelocation) → types_exclude Dynamic flags rs ≡ true → filter (λ r. has_dynamic_entry (treatment l flags r)) rs ≡ []
no_entry l flags [] h = refl
no_entry l flags (r ∷ rs) h =
    let p = and_parts (not (may_have_dynamic_entry flags r.number)) (types_exclude Dynamic flags rs) h in
    rw (others_stay l flags r (false_from_not (may_have_dynamic_entry flags r.number) p.0)) (no_entry l flags rs p.1)

none_if : {X : Type 0} (b : Bool) (xs : List X) → xs ≡ [] → (if b then xs else []) ≡ []
none_if true xs h = h
none_if false xs h = refl

-- by the types of its own relocations
none_by_types : (k : Counted) (l : Layout) (s : InputSection) → types_exclude k s.flags s.relocations ≡ true → counted_in k l s ≡ 0
unfolding rela_places relr_places dynamic_relocations
none_by_types Listed l s h =
    ap length (none_if (is_position_independent l.kind && is_read s) (flat_map (λ r. option_to_list (listed_at l s.flags s.address r)) s.relocations) (no_place (listed_at l s.flags s.address) (λ n. not (may_be_relative n)) s.relocations (no_rela_place l s.flags s.address) h))
none_by_types Packed l s h =
    ap (λ (ps : List ℕ). length (packed ps)) (none_if (is_position_independent l.kind && is_read s) (flat_map (λ r. option_to_list (relr_place_at l s.flags s.address r)) s.relocations) (no_place (relr_place_at l s.flags s.address) (λ n. not (may_be_relative n)) s.relocations (no_relr_place l s.flags s.address) h))
    ∙ ap length packed_none
none_by_types Dynamic l s h = ap length (none_if (is_read s) (filter (λ r. has_dynamic_entry (treatment l s.flags r)) s.relocations) (no_entry l s.flags s.relocations h))

-- nor has a section whose relocations are not read
not_read : (k : Counted) (l : Layout) (s : InputSection) → is_read s ≡ false → may_have_items k l (section_facts s) ≡ false
not_read Listed l s h = and_right (is_position_independent l.kind) (is_read s) h
not_read Packed l s h = and_left (is_position_independent l.kind && is_read s) l.options.relr (and_right (is_position_independent l.kind) (is_read s) h)
not_read Dynamic l s h = and_left (is_read s) (allocated s.flags) h

-- by the types of the input's
none_placed : (c : Slot) (k : Counted) (l : Layout) (f : File) (at : ℕ) (s : InputSection) → types_exclude k (placed_by c l f at s).flags s.relocations ≡ true → counted_in k l (placed_by c l f at s) ≡ 0
none_placed slot.Loaded k l f at s h =
    let x : InputSection = with_word_order (unread l s) in
    none_by_types k l x (ordered_types (λ n. not (type_allows k x.flags n)) (unread l s) (unread_types (λ n. not (type_allows k x.flags n)) l s h))
none_placed slot.Debug k l f at s h = let x : InputSection = with_word_order s in none_by_types k l x (ordered_types (λ n. not (type_allows k x.flags n)) s h)
none_placed slot.Frame k l f at s h =
    let x : InputSection = placed_by slot.Frame l f at s in
    none_by_types k l x (frames_types (λ n. not (type_allows k x.flags n)) (frames_of l f s) (data_types (λ n. not (type_allows k x.flags n)) s.nobits s.relocations h))
none_placed slot.Rela k l f at s h = unasked k l (rela_with_target f s) (not_read k l (rela_with_target f s) refl)
none_placed other k l f at s h = none_by_types k l s h

pub excluded_section : (k : Counted) (l : Layout) (f : File) (at : ℕ) (s : InputSection) (facts : SectionFacts) → facts ≡ section_facts (placed_section l f at s) → types_exclude k facts.flags s.relocations ≡ true → 0 ≡ min (2 ^ 64 - 1) (counted_in k l (placed_section l f at s))
unfolding placed_section
excluded_section k l f at s facts is h =
    let e : counted_in k l (placed_section l f at s) ≡ 0 = none_placed s.slot k l f at s (subst (λ (x : SectionFacts). types_exclude k x.flags s.relocations ≡ true) is h) in
    omega (arith, e)
