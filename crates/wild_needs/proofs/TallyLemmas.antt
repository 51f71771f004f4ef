-- What is counted of the relocations of sections as they stand.
use Rattle.std.proofs.Common.{◌≡◌, ℕ, ◌+◌, ◌-◌, ◌^◌, ◌<◌, ◌≤◌, inl, inr, min, Bool, true, false, List, [], ◌∷◌, ◌++◌, length, drop, get_or, map, refl, sym, subst, ap, ◌∙◌, arith, Option, Some, None, Ok}
use Rattle.std.specs.Prelude.{◌&&◌, not, if◌then◌else◌, option_to_list, is_some}
use Rattle.std.specs.declared.convert.Infallible.{Infallible}
use Rattle.std.specs.List.{flat_map, filter}
use Rattle.std.proofs.lemmas.Bool.{cases_Bool, and_parts}
use Rattle.std.proofs.lemmas.List.{drop_more, drop_all, get_or_default, length-append}
use Rattle.wild_relr.specs.declared.run.Run.{Run}
use Rattle.wild_relr.specs.declared.run.Run.TheVariants.{Closed}
use Rattle.wild_relr.specs.RunWords.{counted, packed}
use Rattle.wild_types.specs.declared.file.File.{File}
use Rattle.wild_types.specs.declared.input.InputRelocation.{InputRelocation}
use Rattle.wild_types.specs.declared.input.InputSection.{InputSection}
use Rattle.wild_types.specs.declared.input.Slot.{Slot}
use Rattle.wild_types.specs.declared.input.Slot.TheVariants as slot
use Rattle.wild_types.specs.declared.layout.Layout.{Layout}
use Rattle.wild_types.specs.declared.layout.SortedSection.{SortedSection}
use Rattle.wild_types.specs.Kinds.{is_partial_link, is_position_independent}
use Rattle.wild_types.specs.Lists.{total}
use Rattle.wild_types.specs.Lookups.{is_frame, is_read, has_relocations, allocated}
use Rattle.wild_types.proofs.ListLemmas.{total-append}
use Rattle.wild_slot.specs.Treatment.{treatment}
use Rattle.wild_words.specs.Runs.{SinkRun, none, more}
use Rattle.wild_placement.specs.ReversedWords.{with_word_order}
use Rattle.wild_placement.specs.PlacedSections.{Input, sorted_input, as_loaded, unread, rela_with_target, placed_by, placed_frames, frame_flags, address_after, placed_section, placed_sections}
use Rattle.wild_placement.specs.FrameInputs.{kept_size}
use Rattle.wild_needs.specs.declared.tally.Counted.{Counted}
use Rattle.wild_needs.specs.declared.tally.Counted.TheVariants.{Listed, Packed, Dynamic}
use Rattle.wild_needs.specs.declared.tally.SectionFacts.{SectionFacts}
use Rattle.wild_needs.specs.declared.tally.Tally.{Tally}
use Rattle.wild_needs.specs.Entries.{is_relative_by, listed_at, relr_place, relr_place_at, rela_places, relr_places, words_of, has_dynamic_entry, dynamic_relocations}
use Rattle.wild_needs.specs.Tallies.{section_facts, counted_in, may_have_items, reads_places, rest_of, tallied, Tallies}
use Rattle.wild_needs.proofs.EntryLemmas.{counted_none, packed_none, none_left}

-- ---- what is asked of a section

-- words in another order change nothing of it
pub turned_standing : (s : InputSection) → section_facts (with_word_order s) ≡ section_facts s
unfolding with_word_order
turned_standing s =
    elim (cases_Bool s.reversed) [
      | inl t ↦ rw t refl
      | inr f ↦ rw f refl
    ]

pub frame_standing : (l : Layout) (f : File) (at : ℕ) (s : InputSection) → is_frame s.slot ≡ true → section_facts (placed_section l f at s) ≡ record { flags = frame_flags s.flags; address = at; is_read = true }
unfolding placed_section
frame_standing l f at s h = by_slot s.slot h
  where
    by_slot : (k : Slot) → is_frame k ≡ true → section_facts (placed_by k l f at s) ≡ record { flags = frame_flags s.flags; address = at; is_read = true }
    by_slot slot.Frame h = refl
    by_slot other h = cc

-- nor does it that a relocatable object leaves the relocations
unread_standing : (l : Layout) (s : InputSection) → section_facts (unread l s) ≡ section_facts s
unread_standing l s =
    elim (cases_Bool (is_partial_link l.kind)) [
      | inl t ↦ rw t refl
      | inr f ↦ rw f refl
    ]

-- a table of relocations is not read
table_standing : (f : File) (s : InputSection) → slot.Rela ≡ s.slot → section_facts (rela_with_target f s) ≡ section_facts s
table_standing f s h = ap (λ (k : Slot). record { flags = s.flags; address = s.address; is_read = has_relocations k && not s.nobits }) h

pub other_standing : (l : Layout) (f : File) (at : ℕ) (s : InputSection) → is_frame s.slot ≡ false → section_facts (placed_section l f at s) ≡ section_facts s
unfolding placed_section
other_standing l f at s h = by_slot s.slot refl h
  where
    by_slot : (k : Slot) → k ≡ s.slot → is_frame k ≡ false → section_facts (placed_by k l f at s) ≡ section_facts s
    by_slot slot.Loaded e h = turned_standing (unread l s) ∙ unread_standing l s
    by_slot slot.Debug e h = turned_standing s
    by_slot slot.Frame e h = cc
    by_slot slot.Rela e h = table_standing f s e
    by_slot other e h = refl

loaded_standing : (l : Layout) (s : InputSection) → section_facts (as_loaded (unread l s)) ≡ section_facts (as_loaded s)
loaded_standing l s =
    elim (cases_Bool (is_partial_link l.kind)) [
      | inl t ↦ rw t refl
      | inr f ↦ rw f refl
    ]

pub sorted_standing : (l : Layout) (s : InputSection) → section_facts (with_word_order (as_loaded (unread l s))) ≡ section_facts (as_loaded s)
sorted_standing l s = turned_standing (as_loaded (unread l s)) ∙ loaded_standing l s

pub ruleset stands = (frame_standing, other_standing, sorted_standing)

-- ---- one section

-- an entry more, or none, in front
added : {X : Type 0} (o : Option X) (xs : List X) (n : ℕ) → n ≡ (if is_some o then 1 else 0) → n + length xs ≡ length (option_to_list o ++ xs)
added None xs n h = omega (arith, h)
added (Some x) xs n h = omega (arith, h)

pub listed_step : (l : Layout) (at : SectionFacts) (run : Run) (r : InputRelocation) (rs : List InputRelocation) (n : ℕ) → n ≡ (if is_some (listed_at l at.flags at.address r) then 1 else 0)
    → n + rest_of Listed l at run rs ≡ rest_of Listed l at run (r ∷ rs)
listed_step l at run r rs n h = added (listed_at l at.flags at.address r) (flat_map (λ r. option_to_list (listed_at l at.flags at.address r)) rs) n h

kept : {X : Type 0} (b : Bool) (x : X) (xs : List X) (n : ℕ) → n ≡ (if b then 1 else 0) → n + length xs ≡ length (if b then x ∷ xs else xs)
kept true x xs n h = omega (arith, h)
kept false x xs n h = omega (arith, h)

pub left_step : (l : Layout) (at : SectionFacts) (run : Run) (r : InputRelocation) (rs : List InputRelocation) (n : ℕ) → n ≡ (if has_dynamic_entry (treatment l at.flags r) then 1 else 0)
    → n + rest_of Dynamic l at run rs ≡ rest_of Dynamic l at run (r ∷ rs)
left_step l at run r rs n h = kept (has_dynamic_entry (treatment l at.flags r)) r (filter (λ r. has_dynamic_entry (treatment l at.flags r)) rs) n h

pub ruleset steps = (listed_step, left_step)

-- nothing is left
rest_none : (k : Counted) (l : Layout) (at : SectionFacts) (run : Run) → rest_of k l at run [] ≡ 0
rest_none Listed l at run = refl
rest_none Packed l at run = counted_none run
rest_none Dynamic l at run = refl

-- one relocation counted is a run
pub tally_one : {refuses : Tally → InputRelocation → Infallible → Tally → Type 0} (a b : Tally) (r : InputRelocation) → ((rs : List InputRelocation) → tallied b rs ≡ tallied a (r ∷ rs)) → b.count < 2 ^ 64 → SinkRun Tallies refuses a (r ∷ []) (Ok tt) b
tally_one a b r h small = more (record { on = h; small = small }) none

-- what is counted of relocations one after another
pub tally_all : {refuses : Tally → InputRelocation → Infallible → Tally → Type 0} {a b : Tally} {rs : List InputRelocation} {u : Unit {0}} → SinkRun Tallies refuses a rs (Ok u) b → tallied b [] ≡ tallied a rs
tally_all none = refl
tally_all (more {xs = rs} h t) = tally_all t ∙ h.on rs

tally_small : {refuses : Tally → InputRelocation → Infallible → Tally → Type 0} {a b : Tally} {rs : List InputRelocation} {u : Unit {0}} → SinkRun Tallies refuses a rs (Ok u) b → a.count < 2 ^ 64 → b.count < 2 ^ 64
tally_small none low = low
tally_small (more h t) low = tally_small t h.small

-- where a section may have some, what its relocations come to is how many it has
asked : (k : Counted) (l : Layout) (s : InputSection) → ((ps : List ℕ) → length (packed ps) ≡ counted Closed ps) → may_have_items k l (section_facts s) ≡ true → rest_of k l (section_facts s) Closed s.relocations ≡ counted_in k l s
unfolding rela_places relr_places dynamic_relocations
asked Listed l s runs h = rw h refl
asked Packed l s runs h = let p = and_parts (is_position_independent l.kind && is_read s) l.options.relr h in rw p.0 (sym (runs (flat_map (λ r. option_to_list (relr_place_at l s.flags s.address r)) s.relocations)))
asked Dynamic l s runs h = let p = and_parts (is_read s) (allocated s.flags) h in rw p.0 refl

-- without the option no place is packed
no_place_without_relr : (l : Layout) (flags a : ℕ) (rs : List InputRelocation) → l.options.relr ≡ false → flat_map (λ r. option_to_list (relr_place_at l flags a r)) rs ≡ []
no_place_without_relr l flags a [] h = refl
no_place_without_relr l flags a (r ∷ rs) h =
    elim (cases_Bool (is_relative_by l flags r)) [
      | inl t ↦ rw (t, h) (no_place_without_relr l flags a rs h)
      | inr f ↦ rw f (no_place_without_relr l flags a rs h)
    ]

no_words_without_relr : (l : Layout) (s : InputSection) (b : Bool) → (b && l.options.relr) ≡ false → length (packed (if b then flat_map (λ r. option_to_list (relr_place l s r)) s.relocations else [])) ≡ 0
no_words_without_relr l s false h = ap length packed_none
no_words_without_relr l s true h = ap (λ (ps : List ℕ). length (packed ps)) (no_place_without_relr l s.flags s.address s.relocations h) ∙ ap length packed_none

-- else it has none
pub unasked : (k : Counted) (l : Layout) (s : InputSection) → may_have_items k l (section_facts s) ≡ false → counted_in k l s ≡ 0
unfolding rela_places relr_places dynamic_relocations
unasked Listed l s h = rw h refl
unasked Packed l s h = no_words_without_relr l s (is_position_independent l.kind && is_read s) h
unasked Dynamic l s h = by_test (is_read s) h
  where
    by_test : (b : Bool) → (b && allocated s.flags) ≡ false → length (if b then filter (λ r. has_dynamic_entry (treatment l s.flags r)) s.relocations else []) ≡ 0
    by_test false h = refl
    by_test true h = none_left l s.flags s.relocations h

-- a tally from nothing on
pub tally_section : {refuses : Tally → InputRelocation → Infallible → Tally → Type 0} {a b : Tally} {rs : List InputRelocation} {u : Unit {0}} (k : Counted) (l : Layout) (at : SectionFacts) (s : InputSection) → rs ≡ s.relocations
    → at ≡ section_facts s → ((ps : List ℕ) → length (packed ps) ≡ counted Closed ps) → may_have_items k l at ≡ true → a.count ≡ 0 → ((rs : List InputRelocation) → tallied a rs ≡ min (2 ^ 64 - 1) (rest_of k l at Closed rs))
    → SinkRun Tallies refuses a rs (Ok u) b → b.count ≡ min (2 ^ 64 - 1) (counted_in k l s)
tally_section {a = a} {b = b} {rs = rs} k l at s all_of is runs test nothing first ran =
    let small : b.count < 2 ^ 64 = tally_small ran (omega (arith, nothing)) in
    let none : rest_of b.kind b.layout.now b.standing b.run [] ≡ 0 = rest_none b.kind b.layout.now b.standing b.run in
    let all : tallied b [] ≡ tallied a rs = tally_all ran in
    let start : tallied a rs ≡ min (2 ^ 64 - 1) (rest_of k l at Closed s.relocations) = first rs ∙ ap (λ (xs : List InputRelocation). min (2 ^ 64 - 1) (rest_of k l at Closed xs)) all_of in
    let whole : rest_of k l at Closed s.relocations ≡ counted_in k l s = subst (λ (x : SectionFacts). rest_of k l x Closed s.relocations ≡ counted_in k l s) (sym is) (asked k l s runs (subst (λ (x : SectionFacts). may_have_items k l x ≡ true) is test)) in
    omega (arith, none, all, start, whole, small)

-- a sorted section has the relocations of its input
pub loaded_relocations : (s : InputSection) → (with_word_order s).relocations ≡ (with_word_order (as_loaded s)).relocations
unfolding with_word_order
loaded_relocations s =
    elim (cases_Bool s.reversed) [
      | inl t ↦ rw t refl
      | inr f ↦ rw f refl
    ]

pub unasked_section : (k : Counted) (l : Layout) (at : SectionFacts) (s : InputSection) → at ≡ section_facts s → may_have_items k l at ≡ false → 0 ≡ min (2 ^ 64 - 1) (counted_in k l s)
unasked_section k l at s is h =
    let e : counted_in k l s ≡ 0 = unasked k l s (subst (λ (x : SectionFacts). may_have_items k l x ≡ false) is h) in
    omega (arith, e)

pub ruleset tallies = (tally_one, tally_section, unasked_section)

-- ---- the sections of a file

placed_sections_drop : (l : Layout) (f : File) (at : ℕ) (ss : List InputSection) (i : ℕ) (s : InputSection) → i < length ss → s ≡ get_or ss i s
    → placed_sections l f at (drop i ss) ≡ placed_section l f at s ∷ placed_sections l f (address_after at (kept_size l f s)) (drop (i + 1) ss)
placed_sections_drop l f at ss i s low read = ap (placed_sections l f at) (drop_more ss i s low ∙ ap (λ (x : InputSection). x ∷ drop (i + 1) ss) (sym read))

-- ---- where a section stands

-- as many relocations are listed at one place as at another, where none is packed
listed_anywhere : (l : Layout) (flags a b : ℕ) (rs : List InputRelocation) → l.options.relr ≡ false
    → length (flat_map (λ r. option_to_list (listed_at l flags a r)) rs) ≡ length (flat_map (λ r. option_to_list (listed_at l flags b r)) rs)
listed_anywhere l flags a b [] h = refl
listed_anywhere l flags a b (r ∷ rs) h =
    let rest = listed_anywhere l flags a b rs h in
    elim (cases_Bool (is_relative_by l flags r)) [
      | inl t ↦ rw (t, h) (omega (arith, rest))
      | inr f ↦ rw f rest
    ]

-- a section of frames
frames_anywhere : (k : Counted) (l : Layout) (f : File) (a b : ℕ) (s : InputSection) → reads_places k l ≡ false → counted_in k l (placed_frames l f a s) ≡ counted_in k l (placed_frames l f b s)
unfolding rela_places relr_places dynamic_relocations
frames_anywhere Listed l f a b s h =
    elim (cases_Bool (is_position_independent l.kind)) [
      | inl t ↦ rw t (listed_anywhere l (frame_flags s.flags) a b (placed_frames l f a s).relocations (rw t at h))
      | inr n ↦ rw n refl
    ]
frames_anywhere Packed l f a b s h =
    elim (cases_Bool (is_position_independent l.kind)) [
      | inl t ↦ rw (t, no_place_without_relr l (frame_flags s.flags) a (placed_frames l f a s).relocations (rw t at h), no_place_without_relr l (frame_flags s.flags) b (placed_frames l f a s).relocations (rw t at h)) refl
      | inr n ↦ rw n refl
    ]
frames_anywhere Dynamic l f a b s h = refl

pub section_anywhere : (k : Counted) (l : Layout) (f : File) (a b : ℕ) (s : InputSection) → reads_places k l ≡ false → counted_in k l (placed_section l f a s) ≡ counted_in k l (placed_section l f b s)
unfolding placed_section
section_anywhere k l f a b s h = by_slot s.slot
  where
    by_slot : (c : Slot) → counted_in k l (placed_by c l f a s) ≡ counted_in k l (placed_by c l f b s)
    by_slot slot.Frame = frames_anywhere k l f a b s h
    by_slot slot.Loaded = refl
    by_slot other = refl

pub sections_anywhere : (k : Counted) (l : Layout) (f : File) (a b : ℕ) (ss : List InputSection) → reads_places k l ≡ false → total (counted_in k l) (placed_sections l f a ss) ≡ total (counted_in k l) (placed_sections l f b ss)
sections_anywhere k l f a b [] h = refl
sections_anywhere k l f a b (s ∷ ss) h =
    let here = section_anywhere k l f a b s h in
    let rest = sections_anywhere k l f (address_after a (kept_size l f s)) (address_after b (kept_size l f s)) ss h in
    omega (arith, here, rest)

-- so it is with those behind a section
rest_anywhere : (k : Counted) (l : Layout) (f : File) (at there size : ℕ) (ss : List InputSection) → (reads_places k l ≡ true → there ≡ address_after at size)
    → total (counted_in k l) (placed_sections l f there ss) ≡ total (counted_in k l) (placed_sections l f (address_after at size) ss)
rest_anywhere k l f at there size ss h =
    elim (cases_Bool (reads_places k l)) [
      | inl t ↦ ap (λ (a : ℕ). total (counted_in k l) (placed_sections l f a ss)) (h t)
      | inr n ↦ sections_anywhere k l f there (address_after at size) ss n
    ]

-- a section more
pub section_next : (k : Counted) (l : Layout) (f : File) (at : ℕ) (ss : List InputSection) (i : ℕ) (s : InputSection) (sum n next there all : ℕ) → i < length ss → s ≡ get_or ss i s
    → n ≡ min (2 ^ 64 - 1) (counted_in k l (placed_section l f at s)) → next ≡ min (sum + n) (2 ^ 64 - 1) → (reads_places k l ≡ true → there ≡ address_after at (kept_size l f s))
    → min (2 ^ 64 - 1) (sum + total (counted_in k l) (placed_sections l f at (drop i ss))) ≡ all → min (2 ^ 64 - 1) (next + total (counted_in k l) (placed_sections l f there (drop (i + 1) ss))) ≡ all
section_next k l f at ss i s sum n next there all low read is added at_next h =
    let e : total (counted_in k l) (placed_sections l f at (drop i ss)) ≡ counted_in k l (placed_section l f at s) + total (counted_in k l) (placed_sections l f (address_after at (kept_size l f s)) (drop (i + 1) ss)) = ap (total (counted_in k l)) (placed_sections_drop l f at ss i s low read) in
    let rest = rest_anywhere k l f at there (kept_size l f s) (drop (i + 1) ss) at_next in
    omega (arith, added, is, h, e, rest)

pub sections_end : (count : InputSection → ℕ) (l : Layout) (f : File) (at : ℕ) (ss : List InputSection) (i sum all : ℕ) → length ss ≤ i → sum < 2 ^ 64
    → min (2 ^ 64 - 1) (sum + total count (placed_sections l f at (drop i ss))) ≡ all → sum ≡ all
sections_end count l f at ss i sum all high small h =
    let e : total count (placed_sections l f at (drop i ss)) ≡ 0 = ap (λ (zs : List InputSection). total count (placed_sections l f at zs)) (drop_all i ss high) in
    omega (arith, small, h, e)

pub ruleset section_loops = (sections_end)

-- ---- the sorted sections

map-append : {X Y : Type 0} (f : X → Y) (xs ys : List X) → map f (xs ++ ys) ≡ map f xs ++ map f ys
map-append f [] ys = refl
map-append f (x ∷ xs) ys = ap (λ zs. f x ∷ zs) (map-append f xs ys)

-- what entries name, as it stands
abbrev pub named_sections : Layout → List SortedSection → List InputSection
named_sections l xs = map (λ (x : Input). with_word_order x.section) (flat_map (sorted_input l) xs)

-- an entry more
pub entry_next : (count : InputSection → ℕ) (l : Layout) (xs : List SortedSection) (i : ℕ) (d : SortedSection) (sum n next all : ℕ) → i < length xs → next ≡ min (sum + n) (2 ^ 64 - 1)
    → n ≡ min (2 ^ 64 - 1) (total count (map (λ (x : Input). with_word_order x.section) (sorted_input l (get_or xs i d)))) → min (2 ^ 64 - 1) (sum + total count (named_sections l (drop i xs))) ≡ all
    → min (2 ^ 64 - 1) (next + total count (named_sections l (drop (i + 1) xs))) ≡ all
entry_next count l xs i d sum n next all low added is h =
    let x : SortedSection = get_or xs i d in
    let here : drop i xs ≡ x ∷ drop (i + 1) xs = drop_more xs i x low ∙ ap (λ (y : SortedSection). y ∷ drop (i + 1) xs) (get_or_default xs i x d low) in
    let own : List InputSection = map (λ (y : Input). with_word_order y.section) (sorted_input l x) in
    let e : total count (named_sections l (drop i xs)) ≡ total count own + total count (named_sections l (drop (i + 1) xs)) =
    ap (λ (ys : List SortedSection). total count (named_sections l ys)) here ∙ ap (total count) (map-append (λ (y : Input). with_word_order y.section) (sorted_input l x) (flat_map (sorted_input l) (drop (i + 1) xs))) ∙ total-append count own (named_sections l (drop (i + 1) xs)) in
    omega (arith, added, is, h, e)

pub entries_end : (count : InputSection → ℕ) (l : Layout) (xs : List SortedSection) (i sum all : ℕ) → length xs ≤ i → sum < 2 ^ 64
    → min (2 ^ 64 - 1) (sum + total count (named_sections l (drop i xs))) ≡ all → sum ≡ all
entries_end count l xs i sum all high small h =
    let e : total count (named_sections l (drop i xs)) ≡ 0 = ap (λ (ys : List SortedSection). total count (named_sections l ys)) (drop_all i xs high) in
    omega (arith, small, h, e)

pub ruleset sorted_loops = (entries_end)

-- the words of sections, counted section by section
pub length_words : (l : Layout) (ss : List InputSection) → total (counted_in Packed l) ss ≡ length (flat_map (words_of l) ss)
length_words l [] = refl
length_words l (s ∷ ss) =
    let rest = length_words l ss in
    let e = length-append (words_of l s) (flat_map (words_of l) ss) in
    omega (arith, rest, e)

pub ruleset sums = (total-append)
