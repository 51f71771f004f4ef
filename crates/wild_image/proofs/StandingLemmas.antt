-- Laws of sections that stand in the output, beside those of the plan.
use Rattle.wild_image.proofs.Common.{◌≡◌, ℕ, zero, suc, ◌^◌, ◌<◌, ◌≤◌, ◌+◌, ◌==◌, Bool, true, false, not, ◌&&◌, ◌||◌, if◌then◌else◌, List, [], ◌∷◌, ◌++◌, map, length, All, Ok, refl, sym, ap, ◌∙◌, subst, get_or, arith, Contains, replicate, Option, Some, None, option_to_list, slice_get, flat_map, append-nil, get_or_from_slice_get, slice_get_within, All-nil, All-head, All-tail, Piece, Slot, InputSection, File, Group, SortedSection, Layout, is_prelude, is_epilogue, is_partial_link, has_range, has_fields, is_rela, is_filled, section_of, is_header_only_part, reversed_section, with_word_order, kept_size, as_loaded, without_relocations, unread, placed_by, placed_section, placed_sections, placed_from, placed_files, address_after, file_frames, sorted_input, of_last_file, section_bytes, merged_bytes, owned_pieces, of_first_file, SectionLies, IsLaidOut, first_clause, section_owned, sorted_owned, sorted_in, ranged_piece, sorted_pieces, file_pieces_in_order, MergedLies, RangedLies, SortedLies, FileLies, CanBeReversed, IsOfKind, StandFrom, GroupStands}
use Rattle.std.proofs.lemmas.List.Elements.{All-cons}
use Rattle.wild_words.proofs.ListLemmas.{flat_map-flat_map, flat_map-same, All-append-left, All-append-right, All-from_flat_map}
use Rattle.wild_types.specs.declared.input.Slot.TheVariants as slot
use Rattle.wild_types.specs.Lookups.{has_counted, has_data}
use Rattle.wild_placement.specs.FrameInputs.{frames_of}
use Rattle.wild_placement.specs.PlacedSections.{Input, placed_frames, sorted_by, sorted_in_file, sorted_in_group, files_at, placed_file, sorted_inputs, sorted_sections, processed_sections}
use Rattle.wild_layout.specs.Sites.{bytes_by}
use Rattle.wild_layout.specs.Image.{offset_in, section_piece, section_pieces, sorted_piece, file_pieces, merged_and_identity_pieces, thunk_pieces}
use Rattle.wild_layout.specs.SectionPlaces.{IsWord, FrontLies, PartLies}
use Rattle.wild_image.specs.Pieces.{placed_in_range, has_room, some_by, ranged_room, input_owned, owned_in, input_in}
use Rattle.wild_image.specs.Owners.{ranged_pieces, all_sorted_pieces, trailer_pieces}
use Rattle.wild_image.specs.Append.{InputLies, EachFileLies, InputStands, SortedStands, FileStands, EachStands}
use Rattle.wild_image.proofs.KindLemmas.{OfKind, each_of_kind}

-- ---- one section

-- section t stands for section s of the plan, at its place, with as many bytes
pub record StandsFor (l : Layout) (s t : InputSection) (owns : Bool) : Type 0 where
  pub lies : SectionLies l t
  pub part : t.part ≡ s.part
  pub address : t.address ≡ s.address
  pub size : t.size ≡ s.size
  pub filled : owns ≡ is_filled l t

-- whether a section has bytes, by what that hangs on
abbrev given_by : Slot → Bool → (size part count : ℕ) → Layout → Bool
given_by k nobits size part count l =
    has_range k
    && (if nobits then has_counted k && (not (size == 0) && has_data l (section_of l part))
    else if is_rela k then not (size == 0)
    else not (count == 0))

-- and owns them
abbrev filled_by : Slot → Bool → (size part count : ℕ) → Layout → Bool
filled_by k nobits size part count l = given_by k nobits size part count l && not (is_header_only_part l part)

if_written : (l : Layout) (part : ℕ) (a b : Bool) → a ≡ b → (a && not (is_header_only_part l part)) ≡ (b && not (is_header_only_part l part))
if_written l part a b e = ap (λ (c : Bool). c && not (is_header_only_part l part)) e

and_true : (b : Bool) → b ≡ (b && true)
and_true true = refl
and_true false = refl

-- it has bytes where it has a size, and its part is one of data
room_is : (l : Layout) (k : Slot) (nobits : Bool) (size part count : ℕ) → has_range k ≡ true → has_counted k ≡ true → is_rela k ≡ false → (nobits ≡ false → count ≡ size)
    → (not (size == 0) && (not nobits || has_data l (section_of l part))) ≡ given_by k nobits size part count l
room_is l k true size part count range counted rela h = rw (range, counted) refl
room_is l k false size part count range counted rela h = let e = h refl in rw (range, rela, e) (sym (and_true (not (size == 0))))

-- so of a loaded one, and of one that debuggers read
abbrev IsOwn : Slot → Type 0
IsOwn k = (has_range k ≡ true) × (has_counted k ≡ true) × (is_rela k ≡ false) × (has_fields k ≡ true)

own_stands : (l : Layout) (s t : InputSection) (k : Slot) → SectionLies l t → t.slot ≡ k → IsOwn k → t.part ≡ s.part → t.address ≡ s.address → t.size ≡ s.size → t.nobits ≡ s.nobits → StandsFor l s t (has_room l s)
own_stands l s t k lies is own part address size nobits = record {
  lies = lies;
  part = part;
  address = address;
  size = size;
  filled = if_written l s.part _ _ (room_is l k s.nobits s.size s.part (length t.bytes) own.0 own.1 own.2 (λ n. whole (nobits ∙ n) ∙ size))
      ∙ sym (ap (λ (x : Slot). filled_by x s.nobits s.size s.part (length t.bytes) l) is)
      ∙ sym (ap (λ (b : Bool). filled_by t.slot b s.size s.part (length t.bytes) l) nobits)
      ∙ sym (ap (λ (n : ℕ). filled_by t.slot t.nobits n s.part (length t.bytes) l) size)
      ∙ sym (ap (λ (n : ℕ). filled_by t.slot t.nobits t.size n (length t.bytes) l) part);
}
  where
    whole : t.nobits ≡ false → length t.bytes ≡ t.size
    whole n = let f = ap has_fields is ∙ own.3 in lies.bytes (rw (f, n) refl)

turned_stands : (l : Layout) (s t : InputSection) → SectionLies l (with_word_order t) → IsOwn t.slot → t.part ≡ s.part → t.address ≡ s.address → t.size ≡ s.size → t.nobits ≡ s.nobits → StandsFor l s (with_word_order t) (has_room l s)
unfolding with_word_order
turned_stands l s t lies own part address size nobits = by t.reversed lies
  where
    by : (b : Bool) → SectionLies l (if b then reversed_section t else t) → StandsFor l s (if b then reversed_section t else t) (has_room l s)
    by true h = own_stands l s (reversed_section t) t.slot h refl own part address size nobits
    by false h = own_stands l s t t.slot h refl own part address size nobits

pub unread_by : (l : Layout) (s : InputSection) (P : InputSection → Type 0) → P (without_relocations s) → P s → P (unread l s)
unread_by l s P a b = by (is_partial_link l.kind)
  where
    by : (partial : Bool) → P (if partial then without_relocations s else s)
    by true = a
    by false = b

-- a section, in whatever slot, that is at the same place
record IsSame (s t : InputSection) : Type 0 where
  slot : t.slot ≡ s.slot
  part : t.part ≡ s.part
  address : t.address ≡ s.address
  size : t.size ≡ s.size
  nobits : t.nobits ≡ s.nobits

same : (s : InputSection) → IsSame s s
same s = record { slot = refl; part = refl; address = refl; size = refl; nobits = refl }

unread_same : (l : Layout) (s : InputSection) → IsSame s (unread l s)
unread_same l s = unread_by l s (IsSame s) (record { slot = refl; part = refl; address = refl; size = refl; nobits = refl }) (same s)

-- a sorted section, as it stands
pub sorted_stands : (l : Layout) (s : InputSection) → SectionLies l (with_word_order (as_loaded (unread l s))) → StandsFor l s (with_word_order (as_loaded (unread l s))) (has_room l s)
sorted_stands l s lies =
    let e = unread_same l s in
    turned_stands l s (as_loaded (unread l s)) lies (refl, refl, refl, refl) e.part e.address e.size e.nobits

own_kinds : (k : Slot) (x : Slot) → x ≡ k → IsOwn k → IsOwn x
own_kinds k x e own = subst IsOwn (sym e) own

nothing_there : (nobits : Bool) (b : Bool) → (not nobits && b) ≡ (if nobits then false else b)
nothing_there true b = refl
nothing_there false b = refl

by_range : (l : Layout) (f : File) (s : InputSection) (k : Slot) → s.slot ≡ k → has_range k ≡ true → SectionLies l (placed_by k l f 0 s) → StandsFor l s (placed_by k l f 0 s) (some_by k l s && not (is_header_only_part l s.part))
by_range l f s slot.Loaded is h lies =
    let e = unread_same l s in
    turned_stands l s (unread l s) lies (own_kinds slot.Loaded (unread l s).slot (e.slot ∙ is) (refl, refl, refl, refl)) e.part e.address e.size e.nobits
by_range l f s slot.Debug is h lies = turned_stands l s s lies (own_kinds slot.Debug s.slot is (refl, refl, refl, refl)) refl refl refl refl
by_range l f s slot.Rela is h lies = record { lies = lies; part = refl; address = refl; size = refl; filled = if_written l s.part _ _ (nothing_there s.nobits (not (s.size == 0))) }
by_range l f s slot.Group is h lies = record {
  lies = lies;
  part = refl;
  address = refl;
  size = refl;
  filled = if_written l s.part _ _ (nothing_there s.nobits (not (length s.bytes == 0))) ∙ sym (ap (λ (x : Slot). filled_by x s.nobits s.size s.part (length s.bytes) l) is);
}
by_range l f s other is h lies = cc

-- a section that stands in its part's range, as it stands
pub ranged_stands : (l : Layout) (f : File) (s : InputSection) → RangedLies l f s → has_range s.slot ≡ true → StandsFor l s (placed_in_range l f s) (ranged_room l s)
unfolding placed_section
ranged_stands l f s lies h = by_range l f s s.slot refl h (lies h)

no_range : (k : Slot) (l : Layout) (s : InputSection) → has_range k ≡ false → some_by k l s ≡ false
no_range slot.Discard l s h = refl
no_range slot.Sorted l s h = refl
no_range slot.Frame l s h = refl
no_range slot.Merge l s h = refl
no_range other l s h = cc

-- one that stands in no range owns nothing there
pub ranged_none : (l : Layout) (s : InputSection) → has_range s.slot ≡ false → ranged_room l s ≡ false
ranged_none l s h = ap (λ (b : Bool). b && not (is_header_only_part l s.part)) (no_range s.slot l s h)

-- ---- what sections of files give

abbrev pub OfRanged : {X : Type 0} → (InputSection → List X) → Layout → File → InputSection → List X
OfRanged G l f s = if has_range s.slot then G (placed_in_range l f s) else []

-- what is nothing of a section that stands in no range
abbrev pub IsOfRanged : {X : Type 0} → (InputSection → List X) → Type 0
IsOfRanged G = (s : InputSection) → has_range s.slot ≡ false → G s ≡ []

slot_by : {X : Type 0} (G : InputSection → List X) (l : Layout) (f : File) (at : ℕ) (s : InputSection) (k : Slot) → s.slot ≡ k → IsOfRanged G → G (placed_by k l f at s) ≡ (if has_range k then G (placed_by k l f 0 s) else [])
slot_by G l f at s slot.Loaded e none = refl
slot_by G l f at s slot.Debug e none = refl
slot_by G l f at s slot.Rela e none = refl
slot_by G l f at s slot.Group e none = refl
slot_by G l f at s slot.Frame e none = none (placed_frames l f at s) refl
slot_by G l f at s slot.Discard e none = none s (rw e refl)
slot_by G l f at s slot.Sorted e none = none s (rw e refl)
slot_by G l f at s slot.Merge e none = none s (rw e refl)

of_section : {X : Type 0} (G : InputSection → List X) (l : Layout) (f : File) (at : ℕ) (s : InputSection) → IsOfRanged G → G (placed_section l f at s) ≡ OfRanged G l f s
unfolding placed_section
of_section G l f at s none = slot_by G l f at s s.slot refl none

pub of_sections : {X : Type 0} (G : InputSection → List X) (l : Layout) (f : File) (at : ℕ) (ss : List InputSection) → IsOfRanged G → flat_map G (placed_sections l f at ss) ≡ flat_map (OfRanged G l f) ss
of_sections G l f at [] none = refl
of_sections {X} G l f at (s ∷ ss) none =
    ap (λ (xs : List X). xs ++ flat_map G (placed_sections l f (address_after at (kept_size l f s)) ss)) (of_section G l f at s none)
    ∙ ap (λ (xs : List X). OfRanged G l f s ++ xs) (of_sections G l f (address_after at (kept_size l f s)) ss none)

-- ---- pieces

not_filled : (l : Layout) (s : InputSection) → has_range s.slot ≡ false → is_filled l s ≡ false
not_filled l s e = rw e refl

pub no_owned : (l : Layout) (f : File) → IsOfRanged (section_owned l f)
no_owned l f s e = let n = not_filled l s e in rw n refl

no_piece : (l : Layout) (f : File) → IsOfRanged (section_piece l f)
no_piece l f s e = let n = not_filled l s e in rw n refl

abbrev pub piece_at : ℕ → List ℕ → List Piece
piece_at at bs = record { at = at; bytes = bs } ∷ []

-- the bytes of a section are no others where those of its file stand elsewhere
same_bytes : (l : Layout) (at : ℕ) (f : File) (s : InputSection) → section_bytes l (placed_file l at f) s ≡ section_bytes l f s
unfolding section_bytes
same_bytes l at f s = ap (λ (bs : List ℕ). if s.nobits then replicate s.size 0 else bs) (by s.slot)
  where
    by : (k : Slot) → bytes_by k l (placed_file l at f) s ≡ bytes_by k l f s
    by slot.Debug = refl
    by slot.Rela = refl
    by slot.Group = refl
    by other = refl

same_piece : (l : Layout) (at : ℕ) (f : File) (s : InputSection) → section_piece l (placed_file l at f) s ≡ section_piece l f s
same_piece l at f s = ap (λ (bs : List ℕ). if is_filled l s then piece_at (offset_in (slice_get l.parts s.part) s.address) bs else []) (same_bytes l at f s)

pieces_of_file : (l : Layout) (at : ℕ) (f : File) → section_pieces l (placed_file l at f) ≡ ranged_pieces l f
pieces_of_file l at f =
    flat_map-same (section_piece l (placed_file l at f)) (section_piece l f) (placed_sections l f at f.sections) (same_piece l at f)
    ∙ of_sections (section_piece l f) l f at f.sections (no_piece l f)

abbrev last_pieces : Layout → File → List Piece → List Piece
last_pieces l f ps = of_last_file f ps ++ (of_first_file f (merged_and_identity_pieces l) ++ thunk_pieces l f)

ends_joined : (a b c : List Piece) → a ++ (b ++ c) ≡ (a ++ b) ++ c
ends_joined [] b c = refl
ends_joined (x ∷ a) b c = ap (λ (ps : List Piece). x ∷ ps) (ends_joined a b c)

pieces_of : (l : Layout) (at : ℕ) (f : File) → file_pieces l (placed_file l at f) ≡ file_pieces_in_order l f
pieces_of l at f =
    ap (λ (ps : List Piece). ps ++ last_pieces l f (flat_map (sorted_piece l) (sorted_inputs l))) (pieces_of_file l at f)
    ∙ ap (λ (ps : List Piece). ranged_pieces l f ++ last_pieces l f ps) (flat_map-flat_map (sorted_piece l) (sorted_input l) l.sorted)
    ∙ ap (λ (ps : List Piece). ranged_pieces l f ++ ps) (ends_joined (of_last_file f (all_sorted_pieces l)) (of_first_file f (merged_and_identity_pieces l)) (thunk_pieces l f))

pieces_from : (l : Layout) (at : ℕ) (fs : List File) → flat_map (file_pieces l) (placed_from l at fs) ≡ flat_map (file_pieces_in_order l) fs
pieces_from l at [] = refl
pieces_from l at (f ∷ fs) =
    ap (λ (ps : List Piece). ps ++ flat_map (file_pieces l) (placed_from l (address_after at (file_frames l f)) fs)) (pieces_of l at f)
    ∙ ap (λ (ps : List Piece). file_pieces_in_order l f ++ ps) (pieces_from l (address_after at (file_frames l f)) fs)

-- the pieces of a group's files, as the plan has them
pub pieces_of_group : (l : Layout) (g : Group) → owned_pieces l g ≡ flat_map (file_pieces_in_order l) g.files
unfolding placed_files
pieces_of_group l g = pieces_from l _ g.files

-- ---- where they lie

ranged_lies : (l : Layout) (f : File) (at : ℕ) (s : InputSection) → SectionLies l (placed_section l f at s) → RangedLies l f s
unfolding placed_section
ranged_lies l f at s h = λ e. subst (SectionLies l) (anywhere s.slot e) h
  where
    anywhere : (k : Slot) → has_range k ≡ true → placed_by k l f at s ≡ placed_by k l f 0 s
    anywhere slot.Loaded e = refl
    anywhere slot.Debug e = refl
    anywhere slot.Rela e = refl
    anywhere slot.Group e = refl
    anywhere other e = cc

sections_lie : (l : Layout) (f : File) (at : ℕ) (ss : List InputSection) → All (SectionLies l) (placed_sections l f at ss) → All (RangedLies l f) ss
sections_lie l f at [] h = All-nil (RangedLies l f)
sections_lie l f at (s ∷ ss) h =
    All-cons (RangedLies l f) s ss
    (ranged_lies l f at s (All-head (SectionLies l) (placed_section l f at s) (placed_sections l f (address_after at (kept_size l f s)) ss) h))
    (sections_lie l f (address_after at (kept_size l f s)) ss (All-tail (SectionLies l) (placed_section l f at s) (placed_sections l f (address_after at (kept_size l f s)) ss) h))

from_map : {X Y : Type 0} (P : Y → Type 0) (h : X → Y) (xs : List X) → All P (map h xs) → All (λ x. P (h x)) xs
from_map P h [] a = All-nil (λ x. P (h x))
from_map P h (x ∷ xs) a = All-cons (λ y. P (h y)) x xs (All-head P (h x) (map h xs) a) (from_map P h xs (All-tail P (h x) (map h xs) a))

sorted_lie : (l : Layout) → All (SectionLies l) (sorted_sections l) → All (SortedLies l) l.sorted
sorted_lie l h = All-from_flat_map (InputLies l) (sorted_input l) l.sorted (from_map (SectionLies l) (λ (x : Input). with_word_order x.section) (sorted_inputs l) h)

of_last : (l : Layout) (b : Bool) → All (SectionLies l) (if b then sorted_sections l else []) → b ≡ true → All (SortedLies l) l.sorted
of_last l true h e = sorted_lie l h
of_last l false h e = cc

abbrev Processed : Layout → File → Type 0
Processed l f = All (SectionLies l) (processed_sections l f)

-- the sorted sections of the last file
pub last_lie : (l : Layout) (at : ℕ) (f : File) → Processed l (placed_file l at f) → is_epilogue f.role ≡ true → All (SortedLies l) l.sorted
last_lie l at f h = of_last l (is_epilogue f.role) (All-append-right (SectionLies l) (placed_sections l f at f.sections) (of_last_file f (sorted_sections l)) h)

pub own_lie : (l : Layout) (at : ℕ) (f : File) → Processed l (placed_file l at f) → All (SectionLies l) (placed_sections l f at f.sections)
own_lie l at f h = All-append-left (SectionLies l) (placed_sections l f at f.sections) (of_last_file f (sorted_sections l)) h

-- what is known of each file of the plan from what is known of it as it stands
abbrev HoldsWhenPlaced : Layout → (File → Type 0) → Type 0
HoldsWhenPlaced l P = (at : ℕ) (f : File) → Processed l (placed_file l at f) → P f

holds_from : (l : Layout) (P : File → Type 0) (at : ℕ) (fs : List File) → HoldsWhenPlaced l P → All (Processed l) (placed_from l at fs) → All P fs
holds_from l P at [] t h = All-nil P
holds_from l P at (f ∷ fs) t h =
    All-cons P f fs (t at f (All-head (Processed l) (placed_file l at f) (placed_from l (address_after at (file_frames l f)) fs) h))
    (holds_from l P (address_after at (file_frames l f)) fs t (All-tail (Processed l) (placed_file l at f) (placed_from l (address_after at (file_frames l f)) fs) h))

holds_of_group : (l : Layout) (P : File → Type 0) (g : Group) → HoldsWhenPlaced l P → All (Processed l) (placed_files l g) → All P g.files
unfolding placed_files
holds_of_group l P g t h = holds_from l P _ g.files t h

pub record SectionsLie (l : Layout) (f : File) : Type 0 where
  pub sections : All (RangedLies l f) f.sections
  pub sorted : is_epilogue f.role ≡ true → All (SortedLies l) l.sorted

-- what stands at the front of a part is no more than the part
front_small : (l : Layout) → IsLaidOut l → (k : ℕ) (bs : List ℕ) → FrontLies l k bs → length bs < 2 ^ 64
front_small l laid k bs h =
    let low = slice_get_within l.parts k h.part h.listed in
    let lies = subst (PartLies l k) (get_or_from_slice_get l.parts k h.part h.part h.listed) (laid.parts k h.part low) in
    let within = h.within in
    let end = lies.low in
    omega (arith, within, end)

-- in a layout that is laid out all that each file has lies in its parts
pub each_file_lies : (l : Layout) → IsLaidOut l → EachFileLies l
each_file_lies l laid = λ i g m.
    let told = holds_of_group l (SectionsLie l) (get_or l.groups i g) (λ at f h. record { sections = sections_lie l f at f.sections (own_lie l at f h); sorted = last_lie l at f h }) (laid.inputs i g m) in
    (λ k f n. record {
      sections = (told k f n).sections;
      sorted = (told k f n).sorted;
      merged = λ e. all_merged l laid;
      identity = λ e. laid.identity;
      thunks = λ written. laid.thunks written i g m k f n;
    })
  where
    all_merged : (l : Layout) → IsLaidOut l → All (MergedLies l) l.merged
    all_merged l laid = λ k m low. (
        let lies = laid.merged k m low in
        record {
          front = λ some. lies;
          small = front_small l laid (get_or l.merged k m).part (merged_bytes (get_or l.merged k m)) lies;
        })

-- ---- a sorted section

abbrev pub one_input : Layout → File → InputSection → Input
one_input l f s = record { file = f; section = as_loaded (unread l s) }

-- the bytes of a section that was found among the sorted ones
pub one_owned : (l : Layout) (x : SortedSection) (f : File) (s : InputSection) → sorted_input l x ≡ one_input l f s ∷ [] → sorted_owned l x ≡ section_owned l f (with_word_order (as_loaded (unread l s)))
one_owned l x f s e = ap (flat_map (input_owned l)) e ∙ append-nil (section_owned l f (with_word_order (as_loaded (unread l s))))

pub one_piece : (l : Layout) (x : SortedSection) (f : File) (s : InputSection) → sorted_input l x ≡ one_input l f s ∷ [] → sorted_pieces l x ≡ section_piece l f (with_word_order (as_loaded (unread l s)))
one_piece l x f s e = ap (flat_map (sorted_piece l)) e ∙ append-nil (section_piece l f (with_word_order (as_loaded (unread l s))))

pub one_in : (l : Layout) (k : ℕ) (x : SortedSection) (f : File) (s : InputSection) → sorted_input l x ≡ one_input l f s ∷ [] → sorted_in l k x ≡ owned_in l f k (with_word_order (as_loaded (unread l s)))
one_in l k x f s e = ap (flat_map (input_in l k)) e ∙ append-nil (owned_in l f k (with_word_order (as_loaded (unread l s))))

pub one_lies : (l : Layout) (x : SortedSection) (f : File) (s : InputSection) → sorted_input l x ≡ one_input l f s ∷ [] → SortedLies l x → SectionLies l (with_word_order (as_loaded (unread l s)))
one_lies l x f s e h = All-head (InputLies l) (one_input l f s) [] (subst (All (InputLies l)) e h)

-- ---- as the sections stand

at_section : (l : Layout) (f : File) (o : Option InputSection) → All (CanBeReversed l) (option_to_list o) → All (λ (x : Input). CanBeReversed l x.section) (sorted_in_file l f o)
at_section l f None h = All-nil (λ (x : Input). CanBeReversed l x.section)
at_section l f (Some s) h = by s.slot refl
  where
    own : CanBeReversed l s
    own = All-head (CanBeReversed l) s [] h

    loaded : s.slot ≡ slot.Sorted → CanBeReversed l (as_loaded s)
    loaded e = λ counted reversed. (
        let words = own (rw e counted) reversed in
        record { whole = words.whole; bytes = words.bytes; fields = words.fields })

    left : s.slot ≡ slot.Sorted → CanBeReversed l (as_loaded (without_relocations s))
    left e = λ counted reversed. (
        let words = own (rw e counted) reversed in
        record { whole = words.whole; bytes = words.bytes; fields = All-nil (IsWord l.machine s.size) })

    by : (k : Slot) → s.slot ≡ k → All (λ (x : Input). CanBeReversed l x.section) (sorted_by l f k s)
    by slot.Sorted e = All-cons (λ (x : Input). CanBeReversed l x.section) (one_input l f s) [] (unread_by l s (λ (t : InputSection). CanBeReversed l (as_loaded t)) (left e) (loaded e)) (All-nil (λ (x : Input). CanBeReversed l x.section))
    by slot.Discard e = All-nil (λ (x : Input). CanBeReversed l x.section)
    by slot.Loaded e = All-nil (λ (x : Input). CanBeReversed l x.section)
    by slot.Debug e = All-nil (λ (x : Input). CanBeReversed l x.section)
    by slot.Frame e = All-nil (λ (x : Input). CanBeReversed l x.section)
    by slot.Merge e = All-nil (λ (x : Input). CanBeReversed l x.section)
    by slot.Rela e = All-nil (λ (x : Input). CanBeReversed l x.section)
    by slot.Group e = All-nil (λ (x : Input). CanBeReversed l x.section)

found_in : {X : Type 0} (P : X → Type 0) (xs : List X) (i : ℕ) → All P xs → All P (option_to_list (slice_get xs i))
found_in P [] i h = All-nil P
found_in P (x ∷ xs) zero h = All-cons P x [] (All-head P x xs h) (All-nil P)
found_in P (x ∷ xs) (suc i) h = found_in P xs i (All-tail P x xs h)

at_file : (l : Layout) (o : Option File) (k : ℕ) → All (λ (f : File). All (CanBeReversed l) f.sections) (option_to_list o) → All (λ (x : Input). CanBeReversed l x.section) (sorted_in_group l o k)
at_file l None k h = All-nil (λ (x : Input). CanBeReversed l x.section)
at_file l (Some f) k h = at_section l f (slice_get f.sections k) (found_in (CanBeReversed l) f.sections k (All-head (λ (f : File). All (CanBeReversed l) f.sections) f [] h))

at_group : (l : Layout) (o : Option Group) (j : ℕ) → All (λ (g : Group). All (λ (f : File). All (CanBeReversed l) f.sections) g.files) (option_to_list o) → All (λ (f : File). All (CanBeReversed l) f.sections) (option_to_list (slice_get (files_at o) j))
at_group l None j h = All-nil (λ (f : File). All (CanBeReversed l) f.sections)
at_group l (Some g) j h = found_in (λ (f : File). All (CanBeReversed l) f.sections) g.files j (All-head (λ (g : Group). All (λ (f : File). All (CanBeReversed l) f.sections) g.files) g [] h)

-- the words of a section that is named among the sorted ones are whole
sorted_turned : (l : Layout) → IsLaidOut l → (x : SortedSection) → All (λ (i : Input). CanBeReversed l i.section) (sorted_input l x)
unfolding sorted_input
sorted_turned l laid x =
    at_file l (slice_get (files_at (slice_get l.groups x.group)) x.file) x.section
    (at_group l (slice_get l.groups x.group) x.file (found_in (λ (g : Group). All (λ (f : File). All (CanBeReversed l) f.sections) g.files) l.groups x.group laid.reversed_section))

both_stand : (l : Layout) (xs : List Input) → All (InputLies l) xs → All (λ (i : Input). CanBeReversed l i.section) xs → All (InputStands l) xs
both_stand l xs a b = λ k d low. record { lies = a k d low; reversed_section = b k d low }

sorted_stand : (l : Layout) → IsLaidOut l → All (SortedLies l) l.sorted → All (SortedStands l) l.sorted
sorted_stand l laid h = λ k d low. both_stand l (sorted_input l (get_or l.sorted k d)) (h k d low) (sorted_turned l laid (get_or l.sorted k d))

stand_from : (l : Layout) (at : ℕ) (fs : List File) → IsLaidOut l → All (Processed l) (placed_from l at fs) → All (λ (f : File). All (CanBeReversed l) f.sections) fs → OfKind l fs → StandFrom l at fs
stand_from l at [] laid h t k = tt
stand_from l at (f ∷ fs) laid h t k =
    let rest = placed_from l (address_after at (file_frames l f)) fs in
    let own = All-head (Processed l) (placed_file l at f) rest h in (
      record { lies = own_lie l at f own; reversed_section = All-head (λ (f : File). All (CanBeReversed l) f.sections) f fs t; kinds = All-head (λ (f : File). All (IsOfKind l) f.sections) f fs k; sorted = λ e. sorted_stand l laid (last_lie l at f own e) },
      stand_from l (address_after at (file_frames l f)) fs laid (All-tail (Processed l) (placed_file l at f) rest h) (All-tail (λ (f : File). All (CanBeReversed l) f.sections) f fs t) (All-tail (λ (f : File). All (IsOfKind l) f.sections) f fs k),
    )

group_stands : (l : Layout) (g : Group) → IsLaidOut l → All (Processed l) (placed_files l g) → All (λ (f : File). All (CanBeReversed l) f.sections) g.files → OfKind l g.files → GroupStands l g
unfolding placed_files GroupStands
group_stands l g laid h t k = stand_from l _ g.files laid h t k

-- in a layout that is laid out the sections of each group lie where they stand
pub each_stands : (l : Layout) → first_clause l ≡ Ok tt → IsLaidOut l → EachStands l
each_stands l clauses laid = λ i g m. group_stands l (get_or l.groups i g) laid (laid.inputs i g m) (laid.reversed_section i g m) (each_of_kind l clauses i g m)
