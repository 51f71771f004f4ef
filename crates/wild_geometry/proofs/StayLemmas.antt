-- Input sections as they stand: what is known of the plan's holds of them.
use Rattle.wild_geometry.proofs.Common.{◌≡◌, ℕ, ◌+◌, ◌%◌, ◌^◌, ◌≤◌, inl, inr, ◌==◌, nat_le, nat_lt, Bool, true, false, not, ◌&&◌, ◌||◌, if◌then◌else◌, List, [], ◌∷◌, length, map, get_or, All, refl, sym, ap, ◌∙◌, arith, subst, list_all, cases_Bool, and_parts, eqb-true, All-nil, All-cons, All-head, All-tail, All-append, All-map, implied, All-from_list_all, All-flat_map, All-append-left, All-append-right, Slot, InputRelocation, InputSection, File, Group, Layout, is_epilogue, total, is_partial_link, is_loaded, is_frame, is_discarded, is_rela, has_counted, has_range, is_filled, has_data, is_header_only_part, field_bytes, reversed_offset, reversed_section, with_word_order, frames_of, kept_size, Input, moved_relocations, placed_frames, without_relocations, unread, rela_with_target, placed_by, placed_section, placed_sections, placed_file, file_frames, frames_at, placed_files, sorted_inputs, sorted_sections, of_last_file, processed_sections, may_lack_bytes, sections_in_ranges, NamesSymbol, FieldLies}
use Rattle.std.specs.List.{filter}
use Rattle.wild_types.specs.declared.input.Slot.TheVariants as slot
use Rattle.wild_types.specs.Lookups.{section_of}
use Rattle.wild_frames.specs.Frames.{kept_in}
use Rattle.wild_placement.specs.ReversedWords.{reversed_word_bytes}
use Rattle.wild_placement.specs.PlacedSections.{entry_relocations, moved_relocation}
use Rattle.wild_placement.proofs.PlacedFiles.{All-low_sections, All-low_files}
use Rattle.wild_placement.proofs.ReversedBytes.{length-reversed_word_bytes}
use Rattle.wild_plan_rules.specs.Fronts.{is_whole_word}
use Rattle.wild_layout.specs.Geometry.{EachSection}
use Rattle.wild_layout.specs.SectionPlaces.{IsWord}
use Rattle.wild_geometry.proofs.StandingLemmas.{EachStanding, sorted_loaded}
use Rattle.wild_geometry.proofs.SectionLemmas.{Holds, Known, is_whole, length_of_data, not_discarded, known_unread}
use Rattle.wild_geometry.proofs.FrameSections.{slot_of_unread}

-- ---- words

-- what the clause says of a section whose words are reversed
pub record Words (l : Layout) (s : InputSection) : Type 0 where
  pub whole : s.size % 8 ≡ 0
  pub fields : All (IsWord l.machine s.size) s.relocations

is_word : (l : Layout) (n : ℕ) (r : InputRelocation) → is_whole_word l.machine r ≡ true → FieldLies l.machine n r → IsWord l.machine n r
is_word l n r h lies =
    let a = and_parts (r.offset % 8 == 0) (field_bytes l.machine r.number == 8) h in
    let wide = eqb-true _ _ a.1 in
    record { begins = eqb-true _ _ a.0; wide = wide; within = elim lies [ inl none ↦ absurd (omega arith) | inr some ↦ omega arith ] }

pub Words-from_known : (l : Layout) (s : InputSection) → Known l s → s.reversed ≡ true → Words l s
Words-from_known l s h e =
    let both = and_parts (s.size % 8 == 0) (list_all (is_whole_word l.machine) s.relocations) (implied s.reversed _ h.words e) in
    record {
      whole = eqb-true _ _ both.0;
      fields = λ i r m. is_word l s.size (get_or s.relocations i r) (All-from_list_all (is_whole_word l.machine) s.relocations both.1 i r m) (h.holds.fields i r m);
    }

-- the bytes of such a section are as many as its size, or there are none
bytes_even : (l : Layout) (s : InputSection) → Known l s → is_whole s.slot ≡ true → s.reversed ≡ true → length s.bytes % 8 ≡ 0
bytes_even l s h own e = by s.nobits refl
  where
    none : (n : ℕ) → (n == 0) ≡ true → n % 8 ≡ 0
    none n t = let z = eqb-true n 0 t in omega arith

    by : (b : Bool) → s.nobits ≡ b → length s.bytes % 8 ≡ 0
    by true t =
        let d = not_discarded s.slot own in
        let fits = h.holds.length in
        none (length s.bytes) (rw (d, t) at fits)
    by false t = let long = length_of_data l s h.holds own t in let whole = (Words-from_known l s h e).whole in omega arith

-- ---- a section whose words are reversed

pub length-reversed_section : (l : Layout) (s : InputSection) → Known l s → is_whole s.slot ≡ true → s.reversed ≡ true → length (reversed_word_bytes s.bytes) ≡ length s.bytes
length-reversed_section l s h whole e = length-reversed_word_bytes s.bytes (bytes_even l s h whole e)

turned_fields : (l : Layout) (s : InputSection) → Known l s → s.reversed ≡ true → All (FieldLies l.machine s.size) (map (reversed_offset s.size) s.relocations)
turned_fields l s h e =
    All-map (FieldLies l.machine s.size) (reversed_offset s.size) s.relocations (λ i r m.
    let word = (Words-from_known l s h e).fields i r m in
    let wide = word.wide in
    let within = word.within in
    inr (omega arith))

turned_holds : (l : Layout) (s : InputSection) → Known l s → is_whole s.slot ≡ true → s.reversed ≡ true → Holds l (reversed_section s)
turned_holds l s h whole e =
    let long = length-reversed_section l s h whole e in
    record {
      small = h.holds.small;
      part = h.holds.part;
      length = subst (λ (n : ℕ). (is_discarded s.slot || (if s.nobits then n == 0 else (n == s.size || (may_lack_bytes s.slot && n == 0)))) ≡ true) (sym long) h.holds.length;
      raw = h.holds.raw;
      allocation = h.holds.allocation;
      room = subst (λ (n : ℕ). (not (not (n == 0) || (is_rela s.slot && not (s.size == 0))) || has_data l (section_of l s.part)) ≡ true) (sym long) h.holds.room;
      fields = turned_fields l s h e;
      symbols = All-map (NamesSymbol l) (reversed_offset s.size) s.relocations h.holds.symbols;
    }

-- as it stands it fills what it filled
turned_filled : (l : Layout) (s : InputSection) → Known l s → is_whole s.slot ≡ true → s.reversed ≡ true → is_filled l (reversed_section s) ≡ is_filled l s
turned_filled l s h whole e =
    let long = length-reversed_section l s h whole e in
    ap (λ (n : ℕ). (has_range s.slot && (if s.nobits then has_counted s.slot && (not (s.size == 0) && has_data l (section_of l s.part)) else if is_rela s.slot then not (s.size == 0) else not (n == 0))) && not (is_header_only_part l s.part)) long

-- a section has the place and the room of another
pub record IsAt (l : Layout) (s t : InputSection) : Type 0 where
  pub filled : is_filled l t ≡ is_filled l s
  pub part : t.part ≡ s.part
  pub address : t.address ≡ s.address
  pub size : t.size ≡ s.size

-- a section as it stands: at its place, with its room
pub record Turns (l : Layout) (s t : InputSection) : Type 0 where
  pub holds : Holds l t
  pub slot : t.slot ≡ s.slot
  pub at : IsAt l s t

pub turns : (l : Layout) (s : InputSection) → Known l s → is_whole s.slot ≡ true → Turns l s (with_word_order s)
unfolding with_word_order
turns l s h whole = by s.reversed refl
  where
    by : (b : Bool) → s.reversed ≡ b → Turns l s (if b then reversed_section s else s)
    by true e = record { holds = turned_holds l s h whole e; slot = refl; at = record { filled = turned_filled l s h whole e; part = refl; address = refl; size = refl } }
    by false e = record { holds = h.holds; slot = refl; at = record { filled = refl; part = refl; address = refl; size = refl } }

unread_at : (l : Layout) (s : InputSection) → IsAt l s (unread l s)
unread_at l s = by (is_partial_link l.kind)
  where
    by : (b : Bool) → IsAt l s (if b then without_relocations s else s)
    by true = record { filled = refl; part = refl; address = refl; size = refl }
    by false = record { filled = refl; part = refl; address = refl; size = refl }

-- of a relocatable object without its relocations
pub turns_unread : (l : Layout) (s : InputSection) → Known l s → is_whole s.slot ≡ true → Turns l s (with_word_order (unread l s))
turns_unread l s h whole =
    let t = turns l (unread l s) (known_unread l s h) (ap is_whole (slot_of_unread l s) ∙ whole) in
    let u = unread_at l s in
    record {
      holds = t.holds;
      slot = t.slot ∙ slot_of_unread l s;
      at = record { filled = t.at.filled ∙ u.filled; part = t.at.part ∙ u.part; address = t.at.address ∙ u.address; size = t.at.size ∙ u.size };
    }

-- ---- frames

All-filter : {X : Type 0} (P : X → Type 0) (t : X → Bool) (xs : List X) → All P xs → All P (filter t xs)
All-filter P t [] h = All-nil P
All-filter P t (x ∷ xs) h =
    let rest = All-filter P t xs (All-tail P x xs h) in
    elim (cases_Bool (t x)) [
      | inl e ↦ rw e (All-cons P x (filter t xs) (All-head P x xs h) rest)
      | inr e ↦ rw e rest
    ]

own_named : (l : Layout) (s : InputSection) → Holds l s → All (NamesSymbol l) (if s.nobits then [] else s.relocations)
own_named l s h = by s.nobits
  where
    by : (b : Bool) → All (NamesSymbol l) (if b then [] else s.relocations)
    by true = All-nil (NamesSymbol l)
    by false = h.symbols

pub framed_named : (l : Layout) (f : File) (s : InputSection) → Holds l s → All (NamesSymbol l) (moved_relocations (frames_of l f s))
unfolding moved_relocations
framed_named l f s h =
    let fs = frames_of l f s in
    All-flat_map (NamesSymbol l) (λ k. map (moved_relocation k) (entry_relocations fs k)) (kept_in fs) (λ i k m.
    let x = get_or (kept_in fs) i k in
    All-map (NamesSymbol l) (moved_relocation x) (entry_relocations fs x) (All-filter (NamesSymbol l) (λ r. nat_le x.from r.offset && nat_lt r.offset (x.from + x.size)) fs.relocations (own_named l s h)))

-- ---- all that stand, as they do

-- the section stands as it is, but for its words
abbrev pub is_turned : Slot → Bool
is_turned slot.Loaded = true
is_turned slot.Debug = true
is_turned other = false

-- it stands as the input has it
abbrev pub is_as_it_is : Slot → Bool
is_as_it_is slot.Loaded = false
is_as_it_is slot.Debug = false
is_as_it_is slot.Frame = false
is_as_it_is slot.Rela = false
is_as_it_is other = true

-- what of a section that stands in a file's ranges is known, of it as it stands
pub record Stays (l : Layout) (R : File → InputSection → Type 0) (P : InputSection → Type 0) : Type 0 where
  pub loaded : (f : File) (s : InputSection) → is_loaded s.slot ≡ true → R f s → P (with_word_order (unread l s))
  pub reversed_section : (f : File) (s : InputSection) → is_turned s.slot ≡ true → R f s → P (with_word_order s)
  pub frame : (f : File) (at : ℕ) (s : InputSection) → is_frame s.slot ≡ true → at + kept_size l f s ≤ 2 ^ 62 → R f s → P (placed_frames l f at s)
  pub table : (f : File) (s : InputSection) → is_rela s.slot ≡ true → R f s → P (rela_with_target f s)
  pub other : (f : File) (s : InputSection) → is_as_it_is s.slot ≡ true → R f s → P s

placed_section_stays : (l : Layout) (R : File → InputSection → Type 0) (P : InputSection → Type 0) → Stays l R P → (f : File) (at : ℕ) (s : InputSection) → at + kept_size l f s ≤ 2 ^ 62 → R f s → P (placed_section l f at s)
unfolding placed_section
placed_section_stays l R P stays f at s low r = by s.slot refl
  where
    by : (k : Slot) → s.slot ≡ k → P (placed_by k l f at s)
    by slot.Loaded e = stays.loaded f s (ap is_loaded e) r
    by slot.Debug e = stays.reversed_section f s (ap is_turned e) r
    by slot.Frame e = stays.frame f at s (ap is_frame e) low r
    by slot.Rela e = stays.table f s (ap is_rela e) r
    by other e = stays.other f s (ap is_as_it_is e) r

-- and of sorted sections
All-of_map : {X Y : Type 0} (P : Y → Type 0) (f : X → Y) (xs : List X) → All P (map f xs) → All (λ x. P (f x)) xs
All-of_map P f [] h = λ i x m. absurd (omega arith)
All-of_map {X} {Y} P f (x ∷ xs) h = All-cons (λ (y : X). P (f y)) x xs (All-head P (f x) (map f xs) h) (All-of_map P f xs (All-tail P (f x) (map f xs) h))

sorted_stays : (l : Layout) (R : File → InputSection → Type 0) (P : InputSection → Type 0) → Stays l R P → (f : File) (last : Bool) → All (R f) (if last then map (λ (x : Input). x.section) (sorted_inputs l) else []) → All P (if last then sorted_sections l else [])
sorted_stays l R P stays f false h = All-nil P
sorted_stays l R P stays f true h =
    let each = All-of_map (R f) (λ (x : Input). x.section) (sorted_inputs l) h in
    All-map P (λ (x : Input). with_word_order x.section) (sorted_inputs l) (λ i x m. (let y = get_or (sorted_inputs l) i x in stays.reversed_section f y.section (loaded_turned y.section.slot (sorted_loaded l i x m)) (each i x m)))
  where
    loaded_turned : (k : Slot) → is_loaded k ≡ true → is_turned k ≡ true
    loaded_turned slot.Loaded h = refl
    loaded_turned other h = cc

file_stays : (l : Layout) (R : File → InputSection → Type 0) (P : InputSection → Type 0) → Stays l R P → (f : File) (at : ℕ) → at + file_frames l f ≤ 2 ^ 62 → All (R f) (sections_in_ranges l f) → All P (processed_sections l (placed_file l at f))
file_stays l R P stays f at low h =
    let sorted = of_last_file f (map (λ (x : Input). x.section) (sorted_inputs l)) in
    let own = All-append-left (R f) f.sections sorted h in
    All-append P (placed_sections l f at f.sections) (of_last_file f (sorted_sections l))
    (All-low_sections l f P (2 ^ 62) at f.sections (omega arith) low (λ i s m a ends. placed_section_stays l R P stays f a (get_or f.sections i s) ends (own i s m)))
    (sorted_stays l R P stays f (is_epilogue f.role) (All-append-right (R f) f.sections sorted h))

-- the frames of a group end below 2^62
abbrev pub FramesEnd : Layout → Group → Type 0
FramesEnd l g = frames_at l g + total (file_frames l) g.files ≤ 2 ^ 62

group_stays : (l : Layout) (R : File → InputSection → Type 0) (P : InputSection → Type 0) → Stays l R P → (g : Group) → FramesEnd l g → All (λ (f : File). All (R f) (sections_in_ranges l f)) g.files → All (λ (f : File). All P (processed_sections l f)) (placed_files l g)
unfolding placed_files
group_stays l R P stays g low h =
    All-low_files l (λ (f : File). All P (processed_sections l f)) (2 ^ 62) (frames_at l g) g.files (omega arith) low (λ i f m a ends. file_stays l R P stays (get_or g.files i f) a ends (h i f m))

pub EachSection-from_standing : (l : Layout) (R : File → InputSection → Type 0) (P : InputSection → Type 0) → Stays l R P → All (FramesEnd l) l.groups → EachStanding l R → EachSection l P
EachSection-from_standing l R P stays low h = λ i g m. group_stays l R P stays (get_or l.groups i g) (low i g m) (h i g m)
