-- Laws of sections as they stand, of their faults, and of the walks over them.
use Rattle.wild_image.proofs.Common.{◌≡◌, ℕ, ◌+◌, ◌<◌, ◌≤◌, Bool, true, false, inl, inr, not, ◌&&◌, ◌||◌, if◌then◌else◌, List, [], ◌∷◌, ◌++◌, map, length, drop, get_or, All, refl, sym, ap, ◌∙◌, subst, flat_map, list_any, cases_Bool, true≢false, append-nil, append_assoc, drop_more, drop_all, All-nil, All-head, All-tail, Option, Some, None, Error, Slot, InputSection, File, Group, SortedSection, Layout, Refuses, is_prelude, is_partial_link, is_header_only_role, is_omitted, has_range, has_fields, is_read, has_written_relocations, is_frame, is_debug, is_rela, has_range_bytes, is_filled, is_header_only_part, with_word_order, reversed_section, kept_size, as_loaded, without_relocations, unread, placed_by, placed_section, placed_sections, placed_from, placed_files, address_after, file_frames, frames_at, sorted_input, of_last_file, PlacedContent, section_bytes, MovesApart, frame_bytes_of, sections_errors, sorted_errors, files_errors, group_errors, SectionLies, file_thunks, section_owned, file_sections, trailer_bytes, file_bytes, CanBeReversed, IsOfKind, StandFrom, PlacedApart, HasOrigins, IsWhole}
use Rattle.std.proofs.lemmas.List.Elements.{All-cons}
use Rattle.wild_types.specs.declared.fault.Fault.{Fault}
use Rattle.wild_types.specs.declared.input.Slot.TheVariants as slot
use Rattle.wild_types.specs.Item.{item_of, block_for}
use Rattle.wild_types.specs.declared.input.InputRelocation.{InputRelocation}
use Rattle.wild_types.specs.declared.part.Role.TheVariants as role
use Rattle.wild_types.specs.Lookups.{has_relocations}
use Rattle.wild_frames.specs.declared.entry.BadFrame.{BadFrame}
use Rattle.wild_frames.specs.Faults.{frame_errors}
use Rattle.wild_placement.specs.FrameInputs.{frames_of}
use Rattle.wild_placement.specs.PlacedSections.{Input, rela_with_target, origins_of, placed_file}
use Rattle.wild_placement.specs.PlacedInputs.{placed_content, sorted_content, frame_faults}
use Rattle.wild_layout.specs.Image.{unless_omitted}
use Rattle.wild_layout.specs.Sites.{item_bytes}
use Rattle.wild_layout.proofs.PartialLemmas.{section_bytes_zeros}
use Rattle.wild_layout.specs.Content.{frames_bytes, end_of_frames}
use Rattle.wild_layout.specs.Faults.{item_errors, debug_errors, frame_refusal, bad_frames, placed_section_errors_by, section_errors, sorted_errors_of, file_errors, first_errors, entry_errors, thunk_errors, at_file}
use Rattle.wild_layout.specs.SearchTable.{search_table, search_table_faults}
use Rattle.wild_layout.proofs.MovedSites.{placed_section_moves, turned_or_stays, debug_count}
use Rattle.wild_sections.proofs.FaultLemmas.{Refuses-front}
use Rattle.wild_words.proofs.ListLemmas.{nil_parts}
use Rattle.wild_contents.specs.declared.search_table.SearchTable.{SearchTable}
use Rattle.wild_contents.specs.SearchTable.{IsSearchTable, IsTableFor, FaultIsFirst}
use Rattle.wild_contents.specs.PlacedSections.{HasSearchTable, HaveSearchTable, group_frames}
use Rattle.wild_image.specs.Append.{InputStands, SortedStands, FileStands}
use Rattle.wild_image.specs.Placed.{written_faults, kept_section_faults, placed_section_faults, zeros_of, first_of, HasTableOrFault, file_trailer_errors, file_trailer_bytes}
use Rattle.wild_image.proofs.RelaOrGroupLemmas.{debug_slot, not_given}
use Rattle.wild_image.proofs.StandingLemmas.{of_sections, no_owned, unread_by, one_input}

-- ---- one section

refusals : (l : Layout) (group file : ℕ) (f : File) (section : ℕ) (s : InputSection) (b : Bool) → map (frame_refusal group file section) (if b then frame_errors (frames_of l f s) else []) ≡ (if b then map (frame_refusal group file section) (frame_errors (frames_of l f s)) else [])
refusals l group file f section s true = refl
refusals l group file f section s false = refl

guarded : (dropped written : Bool) (xs ys : List Error) → xs ≡ ys → (if dropped then [] else if written then xs else []) ≡ (if written && not dropped then ys else [])
guarded true true xs ys e = refl
guarded true false xs ys e = refl
guarded false true xs ys e = e
guarded false false xs ys e = refl

-- the faults of a section of a file are those of the section as it stands
pub section_placed : (l : Layout) (group file : ℕ) (f : File) (at section : ℕ) (s : InputSection) → placed_section_faults l group file section f (placed_content l f at s) ≡ section_errors l group file f at section s
unfolding placed_section_faults kept_section_faults section_errors
section_placed l group file f at section s = guarded (is_omitted l (placed_section l f at s)) (has_written_relocations (placed_section l f at s)) _ _ (by (is_debug (placed_section l f at s).slot))
  where
    by : (b : Bool) → written_faults b l group file section f (placed_content l f at s) ≡ placed_section_errors_by b l group file f section s (placed_section l f at s)
    by true = refl
    by false = ap (item_errors l group file section (item_of l f (placed_section l f at s)) (origins_of l f s)) (refusals l group file f section s (is_frame s.slot))

turned_slot : (s : InputSection) → (with_word_order s).slot ≡ s.slot
unfolding with_word_order
turned_slot s = by s.reversed
  where
    by : (b : Bool) → (if b then reversed_section s else s).slot ≡ s.slot
    by true = refl
    by false = refl

unread_slot : (l : Layout) (s : InputSection) → (unread l s).slot ≡ s.slot
unread_slot l s = unread_by l s (λ (t : InputSection). t.slot ≡ s.slot) refl refl

slot_is : (l : Layout) (f : File) (at : ℕ) (s : InputSection) (k : Slot) → s.slot ≡ k → (placed_by k l f at s).slot ≡ k
slot_is l f at s slot.Loaded e = turned_slot (unread l s) ∙ unread_slot l s ∙ e
slot_is l f at s slot.Debug e = turned_slot s ∙ e
slot_is l f at s slot.Frame e = refl
slot_is l f at s slot.Rela e = refl
slot_is l f at s other e = e

-- a section stands in its own slot
pub placed_section_slot : (l : Layout) (f : File) (at : ℕ) (s : InputSection) → (placed_section l f at s).slot ≡ s.slot
unfolding placed_section
placed_section_slot l f at s = slot_is l f at s s.slot refl

whole_unless : (s : InputSection) (k : Slot) → s.slot ≡ k → is_frame k ≡ false → IsWhole s
whole_unless s k e none = λ h. cc (rw (e, none) at h)

whole_by : (l : Layout) (f : File) (at : ℕ) (s : InputSection) (k : Slot) → s.slot ≡ k → IsWhole (placed_by k l f at s)
whole_by l f at s slot.Frame e = λ h. refl
whole_by l f at s slot.Loaded e = whole_unless (placed_by slot.Loaded l f at s) slot.Loaded (slot_is l f at s slot.Loaded e) refl
whole_by l f at s slot.Debug e = whole_unless (placed_by slot.Debug l f at s) slot.Debug (slot_is l f at s slot.Debug e) refl
whole_by l f at s slot.Rela e = whole_unless (rela_with_target f s) slot.Rela refl refl
whole_by l f at s slot.Discard e = whole_unless s slot.Discard e refl
whole_by l f at s slot.Sorted e = whole_unless s slot.Sorted e refl
whole_by l f at s slot.Merge e = whole_unless s slot.Merge e refl
whole_by l f at s slot.Group e = whole_unless s slot.Group e refl

-- frames that stand have data
pub placed_section_whole : (l : Layout) (f : File) (at : ℕ) (s : InputSection) → IsWhole (placed_section l f at s)
unfolding placed_section
placed_section_whole l f at s = whole_by l f at s s.slot refl

sorted_slot : (l : Layout) (s : InputSection) → (with_word_order (as_loaded (unread l s))).slot ≡ slot.Loaded
sorted_slot l s = turned_slot (as_loaded (unread l s))

pub sorted_whole : (l : Layout) (s : InputSection) → IsWhole (with_word_order (as_loaded (unread l s)))
sorted_whole l s = whole_unless (with_word_order (as_loaded (unread l s))) slot.Loaded (sorted_slot l s) refl

-- a section is of its kind of output as it stands
pub placed_section_kind : (l : Layout) (f : File) (at : ℕ) (s : InputSection) → IsOfKind l s → IsOfKind l (placed_section l f at s)
placed_section_kind l f at s h =
    let e = placed_section_slot l f at s in
    record { table = λ t. h.table (sym (ap is_rela e) ∙ t); debug = λ t. h.debug (sym (ap is_debug e) ∙ t) }

pub sorted_kind : (l : Layout) (s : InputSection) → IsOfKind l (with_word_order (as_loaded (unread l s)))
sorted_kind l s =
    let e = sorted_slot l s in
    record { table = λ t. cc (rw e at t); debug = λ t. cc (rw e at t) }

-- what debuggers read has as many relocations as the input has
pub placed_content_origins : (l : Layout) (f : File) (at : ℕ) (s : InputSection) → IsOfKind l s → HasOrigins (placed_content l f at s)
placed_content_origins l f at s h = λ t.
    let d : is_debug s.slot ≡ true = sym (ap is_debug (placed_section_slot l f at s)) ∙ t in
    debug_count l f at s (h.debug d) (debug_slot s.slot d)

pub sorted_origins : (l : Layout) (s : InputSection) → HasOrigins (sorted_content l s)
sorted_origins l s = λ t. let e = sorted_slot l s in cc (rw e at t)

not_ranged : (k : Slot) → is_frame k ≡ true → has_range k ≡ false
not_ranged slot.Frame e = refl
not_ranged other e = cc

-- frames own nothing of a raw part
pub frames_own_none : (l : Layout) (f : File) (s : InputSection) → is_frame s.slot ≡ true → section_owned l f s ≡ []
frames_own_none l f s e = let n = not_ranged s.slot e in rw n refl

read_frame : (k : Slot) (b : Bool) → is_frame k ≡ true → b ≡ false → (has_relocations k && not b) ≡ true
read_frame slot.Frame b e f = rw f refl
read_frame slot.Discard b e f = cc
read_frame slot.Loaded b e f = cc
read_frame slot.Sorted b e f = cc
read_frame slot.Debug b e f = cc
read_frame slot.Merge b e f = cc
read_frame slot.Rela b e f = cc
read_frame slot.Group b e f = cc

-- what is not read has no frames
pub unread_no_frames : (l : Layout) (f : File) (s : InputSection) → IsWhole s → is_read s ≡ false → frame_bytes_of l f s ≡ []
unfolding frame_bytes_of
unread_no_frames l f s whole none =
    elim (cases_Bool (is_frame s.slot)) [
      | inl t ↦ (let r = read_frame s.slot s.nobits t (whole t) in cc (rw r at none))
      | inr n ↦ rw n refl
    ]

-- what has no data owns zeros
pub zeros_owned : (l : Layout) (f : File) (s : InputSection) → s.nobits ≡ true → zeros_of l s ≡ section_owned l f s
zeros_owned l f s none = ap (λ (bs : List ℕ). if is_filled l s then bs else []) (sym (section_bytes_zeros l f s none))

-- and adds no frames
pub no_frames_added : (l : Layout) (f : File) (s : InputSection) (old : List ℕ) → IsWhole s → is_read s ≡ false → old ≡ old ++ frame_bytes_of l f s
no_frames_added l f s old whole unread = sym (append-nil old) ∙ ap (λ (ys : List ℕ). old ++ ys) (sym (unread_no_frames l f s whole unread))

-- what is no frame adds none
pub plain_frames : (l : Layout) (f : File) (s : InputSection) (old new : List ℕ) → is_frame s.slot ≡ false → new ≡ old ++ frame_bytes_of l f s → new ≡ old
unfolding frame_bytes_of
plain_frames l f s old new other h = h ∙ ap (λ (b : Bool). old ++ (if b then item_bytes l (item_of l f s) else [])) other ∙ append-nil old

-- ---- what is dropped

frame_dropped : (l : Layout) (s : InputSection) → is_frame s.slot ≡ true → is_omitted l s ≡ is_header_only_role l role.EhFrame
frame_dropped l s e = ap (λ (b : Bool). if b then is_header_only_role l role.EhFrame else is_header_only_part l s.part) e

pub other_dropped : (l : Layout) (s : InputSection) → is_frame s.slot ≡ false → is_omitted l s ≡ is_header_only_part l s.part
other_dropped l s e = ap (λ (b : Bool). if b then is_header_only_role l role.EhFrame else is_header_only_part l s.part) e

-- what owns nothing, though its part is written, has no bytes
pub none_given : (l : Layout) (s : InputSection) → is_filled l s ≡ false → is_frame s.slot ≡ false → is_omitted l s ≡ false → has_range_bytes l s ≡ false
none_given l s none other written = not_given (has_range_bytes l s) (is_header_only_part l s.part) none (sym (other_dropped l s other) ∙ written)

not_owned : (given header_only : Bool) → header_only ≡ true → (given && not header_only) ≡ false
not_owned true true h = refl
not_owned false true h = refl
not_owned given false h = cc

none_dropped : (l : Layout) (f : File) (s : InputSection) → is_omitted l s ≡ true → section_owned l f s ≡ []
none_dropped l f s dropped =
    elim (cases_Bool (is_frame s.slot)) [
      | inl t ↦ frames_own_none l f s t
      | inr n ↦ ap (λ (b : Bool). if b then section_bytes l f s else []) (not_owned (has_range_bytes l s) (is_header_only_part l s.part) (sym (other_dropped l s n) ∙ dropped))
    ]

-- it owns nothing
pub dropped_owned : (l : Layout) (f : File) (s : InputSection) (old : List ℕ) → is_omitted l s ≡ true → old ≡ old ++ section_owned l f s
dropped_owned l f s old dropped = sym (append-nil old) ∙ ap (λ (ys : List ℕ). old ++ ys) (sym (none_dropped l f s dropped))

-- nor are there frames of it, where frames are written
pub dropped_frames : (l : Layout) (f : File) (s : InputSection) (old : List ℕ) → is_omitted l s ≡ true → is_header_only_role l role.EhFrame ≡ false → old ≡ old ++ frame_bytes_of l f s
unfolding frame_bytes_of
dropped_frames l f s old dropped written =
    elim (cases_Bool (is_frame s.slot)) [
      | inl t ↦ absurd (true≢false (sym dropped ∙ frame_dropped l s t ∙ written))
      | inr n ↦ sym (ap (λ (b : Bool). old ++ (if b then item_bytes l (item_of l f s) else [])) n ∙ append-nil old)
    ]

pub dropped_faults : (l : Layout) (group file section : ℕ) (f : File) (x : PlacedContent) → is_omitted l x.section ≡ true → placed_section_faults l group file section f x ≡ []
unfolding placed_section_faults
dropped_faults l group file section f x dropped = ap (λ (b : Bool). if b then [] else kept_section_faults l group file section f x) dropped

-- nor faults of what has no data
pub unread_faults : (l : Layout) (group file section : ℕ) (f : File) (x : PlacedContent) → x.section.nobits ≡ true → placed_section_faults l group file section f x ≡ []
unfolding placed_section_faults kept_section_faults
unread_faults l group file section f x none = no_data (is_omitted l x.section) (has_fields x.section.slot) x.section.nobits _ none
  where
    no_data : (dropped fields nobits : Bool) (es : List Error) → nobits ≡ true → (if dropped then [] else if fields && not nobits then es else []) ≡ []
    no_data true fields nobits es e = refl
    no_data false true true es e = refl
    no_data false false nobits es e = refl
    no_data false true false es e = cc

pub faults_kept : (l : Layout) (group file section : ℕ) (f : File) (x : PlacedContent) → is_omitted l x.section ≡ false → placed_section_faults l group file section f x ≡ kept_section_faults l group file section f x
unfolding placed_section_faults
faults_kept l group file section f x kept = ap (λ (b : Bool). if b then [] else kept_section_faults l group file section f x) kept

-- their sites are apart as those of the input
pub placed_content_apart : (l : Layout) (f : File) (at : ℕ) (s : InputSection) → CanBeReversed l s → is_read (placed_section l f at s) ≡ true → PlacedApart l f (placed_content l f at s)
placed_content_apart l f at s t read = placed_section_moves l f (block_for l f (placed_section l f at s)) at s t read

not_true : (b : Bool) → not b ≡ true → b ≡ false
not_true true h = cc
not_true false h = refl

read_counted : (b : Bool) (s : InputSection) → is_read (if b then reversed_section (as_loaded s) else as_loaded s) ≡ true → s.nobits ≡ false
read_counted true s h = not_true s.nobits h
read_counted false s h = not_true s.nobits h

pub sorted_apart : (l : Layout) (f : File) (s : InputSection) → CanBeReversed l (as_loaded (unread l s)) → is_read (with_word_order (as_loaded (unread l s))) ≡ true → PlacedApart l f (sorted_content l s)
unfolding with_word_order
sorted_apart l f s t read =
    let x = as_loaded (unread l s) in
    let counted = read_counted x.reversed x read in
    turned_or_stays l (block_for l f (with_word_order x)) x (t (rw counted refl))

-- ---- sorted sections

unread_twice : (l : Layout) (s : InputSection) → (unread l s).relocations ≡ (unread l (as_loaded (unread l s))).relocations
unread_twice l s = by (is_partial_link l.kind)
  where
    by : (b : Bool) → (if b then without_relocations s else s).relocations ≡ (if b then without_relocations (as_loaded (if b then without_relocations s else s)) else as_loaded (if b then without_relocations s else s)).relocations
    by true = refl
    by false = refl

found_errors : (l : Layout) (x : SortedSection) (f : File) (s : InputSection) → placed_section_faults l x.group x.file x.section f (sorted_content l s) ≡ sorted_errors_of l x (one_input l f s)
unfolding placed_section_faults kept_section_faults
found_errors l x f s = guarded (is_omitted l t) (has_written_relocations t) _ _ (by (is_debug t.slot))
  where
    t : InputSection
    t = with_word_order (as_loaded (unread l s))

    by : (b : Bool) → written_faults b l x.group x.file x.section f (sorted_content l s) ≡ placed_section_errors_by b l x.group x.file f x.section (as_loaded (unread l s)) t
    by true = ap (debug_errors l x.group x.file x.section t) (unread_twice l s)
    by false = ap (λ (rs : List InputRelocation). item_errors l x.group x.file x.section (item_of l f t) rs []) (unread_twice l s)

-- the faults of one that was found
pub sorted_stood : (l : Layout) (x : SortedSection) (f : File) (s : InputSection) → sorted_input l x ≡ one_input l f s ∷ [] → placed_section_faults l x.group x.file x.section f (sorted_content l s) ≡ sorted_errors l x
sorted_stood l x f s e = found_errors l x f s ∙ sym (ap (flat_map (sorted_errors_of l x)) e ∙ append-nil (sorted_errors_of l x (one_input l f s)))

-- which is no frame
pub sorted_plain : (l : Layout) (s : InputSection) → is_frame (with_word_order (as_loaded (unread l s))).slot ≡ false
sorted_plain l s = ap is_frame (sorted_slot l s)

pub one_stands : (l : Layout) (x : SortedSection) (f : File) (s : InputSection) → sorted_input l x ≡ one_input l f s ∷ [] → SortedStands l x → InputStands l (one_input l f s)
one_stands l x f s e h = All-head (InputStands l) (one_input l f s) [] (subst (All (InputStands l)) e h)

-- ---- the walk over sections

pub faults_more : (l : Layout) (group file : ℕ) (f : File) (ss : List InputSection) (i at next : ℕ) (s : InputSection) (whole : List Error) → i < length ss → s ≡ get_or ss i s → sections_errors l group file f at i (drop i ss) ≡ whole → section_errors l group file f at i s ≡ [] → next ≡ address_after at (kept_size l f s)
    → sections_errors l group file f next (i + 1) (drop (i + 1) ss) ≡ whole
faults_more l group file f ss i at next s whole low read before none is =
    let cut : drop i ss ≡ s ∷ drop (i + 1) ss = drop_more ss i s low ∙ ap (λ (x : InputSection). x ∷ drop (i + 1) ss) (sym read) in
    ap (λ (n : ℕ). sections_errors l group file f n (i + 1) (drop (i + 1) ss)) is
    ∙ sym (ap (λ (es : List Error). es ++ sections_errors l group file f (address_after at (kept_size l f s)) (i + 1) (drop (i + 1) ss)) none)
    ∙ sym (ap (sections_errors l group file f at i) cut) ∙ before

pub faults_refuse : (l : Layout) (group file : ℕ) (f : File) (ss : List InputSection) (i at : ℕ) (s : InputSection) (whole : List Error) (e : Error) → i < length ss → s ≡ get_or ss i s → sections_errors l group file f at i (drop i ss) ≡ whole → Refuses e (section_errors l group file f at i s) → Refuses e whole
faults_refuse l group file f ss i at s whole e low read before h =
    let cut : drop i ss ≡ s ∷ drop (i + 1) ss = drop_more ss i s low ∙ ap (λ (x : InputSection). x ∷ drop (i + 1) ss) (sym read) in
    subst (Refuses e) (sym (ap (sections_errors l group file f at i) cut) ∙ before) (Refuses-front e (section_errors l group file f at i s) _ h)

pub faults_done : (l : Layout) (group file : ℕ) (f : File) (ss : List InputSection) (i at : ℕ) (whole : List Error) → length ss ≤ i → sections_errors l group file f at i (drop i ss) ≡ whole → whole ≡ []
faults_done l group file f ss i at whole end before = sym before ∙ ap (sections_errors l group file f at i) (drop_all i ss end)

pub lies_head : (l : Layout) (f : File) (ss : List InputSection) (i at : ℕ) (s : InputSection) → i < length ss → s ≡ get_or ss i s → All (SectionLies l) (placed_sections l f at (drop i ss)) → SectionLies l (placed_section l f at s)
lies_head l f ss i at s low read h =
    let cut : drop i ss ≡ s ∷ drop (i + 1) ss = drop_more ss i s low ∙ ap (λ (x : InputSection). x ∷ drop (i + 1) ss) (sym read) in
    All-head (SectionLies l) (placed_section l f at s) (placed_sections l f (address_after at (kept_size l f s)) (drop (i + 1) ss)) (subst (λ (xs : List InputSection). All (SectionLies l) (placed_sections l f at xs)) cut h)

pub lies_tail : (l : Layout) (f : File) (ss : List InputSection) (i at next : ℕ) (s : InputSection) → i < length ss → s ≡ get_or ss i s → next ≡ address_after at (kept_size l f s) → All (SectionLies l) (placed_sections l f at (drop i ss)) → All (SectionLies l) (placed_sections l f next (drop (i + 1) ss))
lies_tail l f ss i at next s low read is h =
    let cut : drop i ss ≡ s ∷ drop (i + 1) ss = drop_more ss i s low ∙ ap (λ (x : InputSection). x ∷ drop (i + 1) ss) (sym read) in
    subst (λ (n : ℕ). All (SectionLies l) (placed_sections l f n (drop (i + 1) ss))) (sym is)
    (All-tail (SectionLies l) (placed_section l f at s) (placed_sections l f (address_after at (kept_size l f s)) (drop (i + 1) ss)) (subst (λ (xs : List InputSection). All (SectionLies l) (placed_sections l f at xs)) cut h))

-- what sections give that stand from an address on
pub given_more : {Y : Type 0} (G : InputSection → List Y) (l : Layout) (f : File) (ss : List InputSection) (i at next : ℕ) (s : InputSection) (now after whole : List Y) → i < length ss → s ≡ get_or ss i s → next ≡ address_after at (kept_size l f s) → now ++ flat_map G (placed_sections l f at (drop i ss)) ≡ whole → after ≡ now ++ G (placed_section l f at s)
    → after ++ flat_map G (placed_sections l f next (drop (i + 1) ss)) ≡ whole
given_more {Y} G l f ss i at next s now after whole low read is before more =
    let rest = flat_map G (placed_sections l f (address_after at (kept_size l f s)) (drop (i + 1) ss)) in
    let cut : drop i ss ≡ s ∷ drop (i + 1) ss = drop_more ss i s low ∙ ap (λ (x : InputSection). x ∷ drop (i + 1) ss) (sym read) in
    ap (λ (n : ℕ). after ++ flat_map G (placed_sections l f n (drop (i + 1) ss))) is
    ∙ ap (λ (ys : List Y). ys ++ rest) more
    ∙ append_assoc now (G (placed_section l f at s)) rest
    ∙ sym (ap (λ (xs : List InputSection). now ++ flat_map G (placed_sections l f at xs)) cut)
    ∙ before

pub given_done : {Y : Type 0} (G : InputSection → List Y) (l : Layout) (f : File) (ss : List InputSection) (i at : ℕ) (now whole : List Y) → length ss ≤ i → now ++ flat_map G (placed_sections l f at (drop i ss)) ≡ whole → now ≡ whole
given_done {Y} G l f ss i at now whole end before =
    sym (append-nil now) ∙ sym (ap (λ (xs : List InputSection). now ++ flat_map G (placed_sections l f at xs)) (drop_all i ss end)) ∙ before

-- ---- files

-- the bytes of a file's sections are those of the sections that stand in ranges
pub owned_ranged : (l : Layout) (at : ℕ) (f : File) → flat_map (section_owned l f) (placed_sections l f at f.sections) ≡ file_sections l f
owned_ranged l at f = of_sections (section_owned l f) l f at f.sections (no_owned l f)

pub file_owned_by : (l : Layout) (at : ℕ) (f : File) (old one two : List ℕ) → one ≡ old ++ flat_map (section_owned l f) (placed_sections l f at f.sections) → two ≡ one ++ file_trailer_bytes l f → two ≡ old ++ file_bytes l f
unfolding file_trailer_bytes
file_owned_by l at f old one two a b =
    b ∙ ap (λ (ys : List ℕ). ys ++ behind) (a ∙ ap (λ (ys : List ℕ). old ++ ys) (owned_ranged l at f)) ∙ append_assoc old (file_sections l f) behind
  where
    behind : List ℕ
    behind = trailer_bytes l f ++ unless_omitted l l.primary_part (file_thunks l f)

pub file_frames_by : (l : Layout) (at : ℕ) (f : File) (old one two : List ℕ) → one ≡ old ++ flat_map (frame_bytes_of l f) (placed_sections l f at f.sections) → two ≡ one ++ of_last_file f (end_of_frames l) → two ≡ old ++ frames_bytes l (placed_file l at f)
unfolding frames_bytes frame_bytes_of
file_frames_by l at f old one two a b =
    b ∙ ap (λ (ys : List ℕ). ys ++ of_last_file f (end_of_frames l)) a ∙ append_assoc old (flat_map (frame_bytes_of l f) (placed_sections l f at f.sections)) (of_last_file f (end_of_frames l))

pub file_faults_by : (l : Layout) (group file at : ℕ) (f : File) → file_errors l group at file f ≡ sections_errors l group file f at 0 f.sections ++ file_trailer_errors l group file f
unfolding file_errors file_trailer_errors
file_faults_by l group file at f = refl

pub files_more : (l : Layout) (group : ℕ) (fs : List File) (i at next : ℕ) (f : File) (whole : List Error) → i < length fs → f ≡ get_or fs i f → files_errors l group at i (drop i fs) ≡ whole → file_errors l group at i f ≡ [] → next ≡ address_after at (file_frames l f)
    → files_errors l group next (i + 1) (drop (i + 1) fs) ≡ whole
files_more l group fs i at next f whole low read before none is =
    let cut : drop i fs ≡ f ∷ drop (i + 1) fs = drop_more fs i f low ∙ ap (λ (x : File). x ∷ drop (i + 1) fs) (sym read) in
    ap (λ (n : ℕ). files_errors l group n (i + 1) (drop (i + 1) fs)) is
    ∙ sym (ap (λ (es : List Error). es ++ files_errors l group (address_after at (file_frames l f)) (i + 1) (drop (i + 1) fs)) none)
    ∙ sym (ap (files_errors l group at i) cut) ∙ before

pub files_refuse : (l : Layout) (group : ℕ) (fs : List File) (i at : ℕ) (f : File) (whole : List Error) (e : Error) → i < length fs → f ≡ get_or fs i f → files_errors l group at i (drop i fs) ≡ whole → Refuses e (file_errors l group at i f) → Refuses e whole
files_refuse l group fs i at f whole e low read before h =
    let cut : drop i fs ≡ f ∷ drop (i + 1) fs = drop_more fs i f low ∙ ap (λ (x : File). x ∷ drop (i + 1) fs) (sym read) in
    subst (Refuses e) (sym (ap (files_errors l group at i) cut) ∙ before) (Refuses-front e (file_errors l group at i f) _ h)

pub files_done : (l : Layout) (group : ℕ) (fs : List File) (i at : ℕ) (whole : List Error) → length fs ≤ i → files_errors l group at i (drop i fs) ≡ whole → whole ≡ []
files_done l group fs i at whole end before = sym before ∙ ap (files_errors l group at i) (drop_all i fs end)

pub stands_head : (l : Layout) (fs : List File) (i at : ℕ) (f : File) → i < length fs → f ≡ get_or fs i f → StandFrom l at (drop i fs) → FileStands l at f
stands_head l fs i at f low read h =
    let cut : drop i fs ≡ f ∷ drop (i + 1) fs = drop_more fs i f low ∙ ap (λ (x : File). x ∷ drop (i + 1) fs) (sym read) in
    (subst (StandFrom l at) cut h).0

pub stands_tail : (l : Layout) (fs : List File) (i at next : ℕ) (f : File) → i < length fs → f ≡ get_or fs i f → next ≡ address_after at (file_frames l f) → StandFrom l at (drop i fs) → StandFrom l next (drop (i + 1) fs)
stands_tail l fs i at next f low read is h =
    let cut : drop i fs ≡ f ∷ drop (i + 1) fs = drop_more fs i f low ∙ ap (λ (x : File). x ∷ drop (i + 1) fs) (sym read) in
    subst (λ (n : ℕ). StandFrom l n (drop (i + 1) fs)) (sym is) ((subst (StandFrom l at) cut h).1)

pub framed_more : (l : Layout) (fs : List File) (i at next : ℕ) (f : File) (now after whole : List ℕ) → i < length fs → f ≡ get_or fs i f → next ≡ address_after at (file_frames l f) → now ++ flat_map (frames_bytes l) (placed_from l at (drop i fs)) ≡ whole → after ≡ now ++ frames_bytes l (placed_file l at f)
    → after ++ flat_map (frames_bytes l) (placed_from l next (drop (i + 1) fs)) ≡ whole
framed_more l fs i at next f now after whole low read is before more =
    let rest = flat_map (frames_bytes l) (placed_from l (address_after at (file_frames l f)) (drop (i + 1) fs)) in
    let cut : drop i fs ≡ f ∷ drop (i + 1) fs = drop_more fs i f low ∙ ap (λ (x : File). x ∷ drop (i + 1) fs) (sym read) in
    ap (λ (n : ℕ). after ++ flat_map (frames_bytes l) (placed_from l n (drop (i + 1) fs))) is
    ∙ ap (λ (ys : List ℕ). ys ++ rest) more
    ∙ append_assoc now (frames_bytes l (placed_file l at f)) rest
    ∙ sym (ap (λ (xs : List File). now ++ flat_map (frames_bytes l) (placed_from l at xs)) cut)
    ∙ before

pub framed_done : (l : Layout) (fs : List File) (i at : ℕ) (now whole : List ℕ) → length fs ≤ i → now ++ flat_map (frames_bytes l) (placed_from l at (drop i fs)) ≡ whole → now ≡ whole
framed_done l fs i at now whole end before =
    sym (append-nil now) ∙ sym (ap (λ (xs : List File). now ++ flat_map (frames_bytes l) (placed_from l at xs)) (drop_all i fs end)) ∙ before

-- ---- the search table

no_errors : (h : Fault → Error) (fs : List Fault) → map h fs ≡ [] → fs ≡ []
no_errors h [] e = refl
no_errors h (f ∷ fs) e = cc

no_fault : (f : Option Fault) (fs : List Fault) → fs ≡ [] → FaultIsFirst f fs → f ≡ None
no_fault None fs none h = refl
no_fault (Some f) [] none h = absurd h
no_fault (Some f) (g ∷ gs) none h = cc

met : (f : Option Fault) (fs : List Fault) → FaultIsFirst f fs → f ≡ first_of fs
met None fs h = sym (ap first_of h)
met (Some f) [] h = absurd h
met (Some f) (g ∷ gs) h = ap Some h

is_met : (f : Option Fault) (fs : List Fault) → f ≡ first_of fs → FaultIsFirst f fs
is_met None [] e = refl
is_met None (g ∷ gs) e = cc
is_met (Some f) [] e = cc
is_met (Some f) (g ∷ gs) e = cc

-- it was made, or its first fault was met
pub made : (l : Layout) (t : SearchTable) → IsSearchTable l t → HasTableOrFault l t
made l t h = record { fault = met t.fault (search_table_faults l) h.fault; bytes = h.bytes }

pub is_made : (l : Layout) (t : SearchTable) → HasTableOrFault l t → IsSearchTable l t
is_made l t h = record { fault = is_met t.fault (search_table_faults l) h.fault; bytes = h.bytes }

-- without faults of a file the table is there where it is the first
table_by : (l : Layout) (t : SearchTable) (group file at : ℕ) (f : File) → is_header_only_role l role.EhFrameHdr ≡ false → IsTableFor l t f → file_errors l group at file f ≡ [] → HasSearchTable l t.bytes f
unfolding file_errors
table_by l t group file at f written is none = λ first. (
    let a = nil_parts (sections_errors l group file f at 0 f.sections) _ none in
    let b = nil_parts (of_last_file f (flat_map (sorted_errors l) l.sorted)) _ a.1 in
    let c = nil_parts (entry_errors l group file f) _ b.1 in
    let d = nil_parts (thunk_errors l group file f) (first_errors l group file f) c.1 in
    let e = is first in
    let faults : search_table_faults l ≡ [] = no_errors (λ (x : Fault). record { fault = x; at = at_file group file }) (search_table_faults l) (rw first at d.1) in
    e.bytes written (no_fault t.fault (search_table_faults l) faults e.fault))

-- and so of the files of a group
pub table_from : (l : Layout) (t : SearchTable) (group at i : ℕ) (fs : List File) → is_header_only_role l role.EhFrameHdr ≡ false → All (IsTableFor l t) fs → files_errors l group at i fs ≡ [] → HaveSearchTable l t.bytes fs
table_from l t group at i [] written is none = All-nil (HasSearchTable l t.bytes)
table_from l t group at i (f ∷ fs) written is none =
    let parts = nil_parts (file_errors l group at i f) (files_errors l group (address_after at (file_frames l f)) (i + 1) fs) none in
    All-cons (HasSearchTable l t.bytes) f fs (table_by l t group i at f written (All-head (IsTableFor l t) f fs is) parts.0)
    (table_from l t group (address_after at (file_frames l f)) (i + 1) fs written (All-tail (IsTableFor l t) f fs is) parts.1)

-- where no fault of a group is found
pub table_of_group : (l : Layout) (t : SearchTable) (group : ℕ) (g : Group) → is_header_only_role l role.EhFrameHdr ≡ false → All (IsTableFor l t) g.files → group_errors l group g ≡ [] → HaveSearchTable l t.bytes g.files
unfolding group_errors
table_of_group l t group g written is none = table_from l t group (frames_at l g) 0 g.files written is ((nil_parts (files_errors l group (frames_at l g) 0 g.files) _ none).0)

pub table_of_all : (l : Layout) (t : SearchTable) (fs : List File) → IsSearchTable l t → All (IsTableFor l t) fs
table_of_all l t [] is = All-nil (IsTableFor l t)
table_of_all l t (f ∷ fs) is = All-cons (IsTableFor l t) f fs (λ first. is) (table_of_all l t fs is)

or_none : (a b : Bool) → (a || b) ≡ false → (a ≡ false) × (b ≡ false)
or_none true b h = cc
or_none false b h = (refl, h)

no_first : (l : Layout) (t : SearchTable) (f : File) → is_prelude f.role ≡ false → IsTableFor l t f
no_first l t f e = λ first. cc (rw e at first)

-- no file of the group is the first one
pub table_of_none : (l : Layout) (t : SearchTable) (fs : List File) → list_any (λ (f : File). is_prelude f.role) fs ≡ false → All (IsTableFor l t) fs
table_of_none l t [] none = All-nil (IsTableFor l t)
table_of_none l t (f ∷ fs) none =
    let parts = or_none (is_prelude f.role) (list_any (λ (f : File). is_prelude f.role) fs) none in
    All-cons (IsTableFor l t) f fs (no_first l t f parts.0) (table_of_none l t fs parts.1)
