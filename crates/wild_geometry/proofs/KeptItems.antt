-- An item that the layout keeps is that of a section as it stands.
use Rattle.wild_geometry.proofs.Common.{slice_get-get_or, Contains-flat_map, table_bytes, content, frame_bytes_of, frames_bytes, bool_eq, file_position_fits, later_positions_fit, group_positions_fit, first_misplaced_file, ◌≡◌, ℕ, zero, suc, ◌+◌, ◌-◌, ◌%◌, ◌^◌, ◌≤◌, inl, inr, Bool, true, false, if◌then◌else◌, List, [], ◌∷◌, ◌++◌, length, take, refl, sym, ap, ◌∙◌, arith, subst, All, Contains, Option, Some, None, slice_get, not, ◌&&◌, ◌==◌, cases_Bool, and_parts, length-append, All-head, All-tail, All-contains, Contains-append_right, Contains-append_left, Contains-here, Contains-there, All-append-left, Part, Symbol, Slot, InputRelocation, InputSection, File, Group, Layout, Item, item_of, is_partial_link, total, is_read, is_frame, is_header_only_part, allocated, files_of, file_of, is_epilogue, is_prelude, part_with, field_bytes, frame_bytes, reversed_section, with_word_order, frames_of, kept_size, Input, placed_frames, placed_by, placed_section, placed_sections, placed_file, placed_from, placed_files, file_frames, frames_at, address_after, sorted_inputs, as_loaded, processed_sections, of_last_file, sorted_sections, moved_relocations, HasWords, SectionLies, IsLaidOut, Own, Ordered, IsPlacedSection}
use Rattle.wild_records.specs.Abi.Section.{shf_write, shf_execinstr}
use Rattle.wild_layout.specs.Content.{end_of_frames}
use Rattle.std.specs.List.{flat_map}
use std.Path.{fun_ext}
use Rattle.wild_types.specs.declared.part.Role.TheVariants as role
use Rattle.wild_types.specs.declared.symbol.Place.{Place}
use Rattle.wild_types.specs.declared.symbol.Place.TheVariants as at
use Rattle.wild_types.specs.declared.input.Slot.TheVariants as slot
use Rattle.wild_types.specs.HeaderOnly.{is_omitted}
use Rattle.wild_types.specs.Lookups.{is_counted, bit}
use Rattle.wild_frames.specs.declared.frames.Target.{Target}
use Rattle.wild_frames.specs.Frames.{Frames}
use Rattle.wild_placement.specs.FrameInputs.{has_symbol, defining_file_of, target_in, target_at, symbol_target, target_by, target_of, section_target}
use Rattle.wild_placement.specs.PlacedSections.{part_address, frame_flags}
use Rattle.wild_placement.proofs.PlainLemmas.{unread_linked}
use Rattle.wild_meaning.specs.Frames.{code_in, code_at, code_by, code_of, frames_in, kept_bytes, kept_of_file, IsFrameInput, frames_item, frames_item_of, frames_address, code_section, kept_by, without, address_of_part}
use Rattle.wild_meaning.specs.Item.{IsInput, IsLoadedSlot, IsKeptSection, placed_item, IsKept, OfSection, OfFrames}
use Rattle.wild_meaning.proofs.BitLemmas.{alloc_bit}
use Rattle.wild_geometry.specs.PlacedSections.{IsPlacedItem, KeptItemsArePlaced}
use Rattle.wild_geometry.proofs.HeaderOnlyLemmas.{part_is_written, role_is_written}
use Rattle.wild_geometry.proofs.PlacedInputs.{placed_file_of, placed_section_in, each_at}
use Rattle.wild_geometry.proofs.ReversedItems.{turned_item}
use Rattle.wild_geometry.proofs.FrameSizes.{sections_size, group_given}

-- ---- sections

-- the words of a section that is reversed
has_words : (l : Layout) (s : InputSection) → IsLaidOut l → (k : IsInput l s) → is_counted s ≡ true → s.reversed ≡ true → HasWords l.machine s
has_words l s laid k counted reversed =
    All-contains (λ (t : InputSection). is_counted t ≡ true → t.reversed ≡ true → HasWords l.machine t) k.file.sections s
    (All-contains (λ (f : File). All (λ (t : InputSection). is_counted t ≡ true → t.reversed ≡ true → HasWords l.machine t) f.sections) k.group.files k.file
    (All-contains (λ (g : Group). All (λ (f : File). All (λ (t : InputSection). is_counted t ≡ true → t.reversed ≡ true → HasWords l.machine t) f.sections) g.files) l.groups k.group laid.reversed_section k.grouped) k.filed) k.listed counted reversed

turned_reads : (s : InputSection) → s.slot ≡ slot.Loaded → s.nobits ≡ false → is_read (with_word_order s) ≡ true
unfolding with_word_order
turned_reads s e n = by s.reversed
  where
    by : (b : Bool) → is_read (if b then reversed_section s else s) ≡ true
    by true = rw (e, n) refl
    by false = rw (e, n) refl

turned_flags : (s : InputSection) → (with_word_order s).flags ≡ s.flags
unfolding with_word_order
turned_flags s = by s.reversed
  where
    by : (b : Bool) → (if b then reversed_section s else s).flags ≡ s.flags
    by true = refl
    by false = refl

-- it is written, where its part is
turned_written : (l : Layout) (s : InputSection) → is_frame s.slot ≡ false → is_header_only_part l s.part ≡ false → is_omitted l (with_word_order s) ≡ false
unfolding with_word_order
turned_written l s plain written = by s.reversed
  where
    by : (b : Bool) → is_omitted l (if b then reversed_section s else s) ≡ false
    by true = rw (plain, written) refl
    by false = rw (plain, written) refl

placed_loaded_section : (l : Layout) (f : File) (at : ℕ) (s : InputSection) → is_partial_link l.kind ≡ false → s.slot ≡ slot.Loaded → placed_section l f at s ≡ with_word_order s
unfolding placed_section
placed_loaded_section l f at s kind e = ap (λ (k : Slot). placed_by k l f at s) e ∙ ap with_word_order (unread_linked l s kind)

-- a sorted one is among those that stand in their order
is_sorted : (l : Layout) (s : InputSection) → is_partial_link l.kind ≡ false → IsLaidOut l → (k : IsInput l s) → s.slot ≡ slot.Sorted → Contains (sorted_inputs l) (record { file = k.file; section = as_loaded s })
is_sorted l s kind laid k e = subst (λ (t : InputSection). Contains (sorted_inputs l) (record { file = k.file; section = as_loaded t })) (unread_linked l s kind) (laid.sorted k.group k.file s k.grouped k.filed k.listed e)

-- a loaded section
loaded_item : (l : Layout) (item : Item) (s : InputSection) → is_partial_link l.kind ≡ false → IsLaidOut l → (k : IsKeptSection l s) → s.slot ≡ slot.Loaded → item ≡ placed_item l k.input.file s → IsPlacedItem l item
loaded_item l item s kind laid k e is =
    let g = k.input.group in
    let f = k.input.file in
    let a = placed_file_of l g f k.input.filed in
    let c = placed_section_in l f a.0 f.sections s k.input.listed in
    let t = placed_section l f c.0 s in
    let same : t ≡ with_word_order s = placed_loaded_section l f c.0 s kind e in
    let n = k.has_data in
    let here = turned_item l f s (λ r. has_words l s laid k.input (rw (e, n) refl) r) in
    record {
      section = t;
      kept = record {
        input = record { group = g; grouped = k.input.grouped; file = placed_file l a.0 f; filed = a.1; owner = placed_file l a.0 f; listed = Own refl c.1 };
        reads = subst (λ (x : InputSection). is_read x ≡ true) (sym same) (turned_reads s e n);
        room = λ plain. subst (λ (x : InputSection). allocated x.flags ≡ true) (sym same) (subst (λ (y : ℕ). allocated y ≡ true) (sym (turned_flags s)) (alloc_bit s.flags k.room));
        written = subst (λ (x : InputSection). is_omitted l x ≡ false) (sym same) (turned_written l s (ap is_frame e) (part_is_written l s.part k.written));
      };
      is = is ∙ sym here ∙ ap (λ (x : InputSection). item_of l f x) (sym same);
    }

-- the last file of the layout
pub record LastFile (gs : List Group) : Type 0 where
  pub group : Group
  pub grouped : Contains gs group
  pub file : File
  pub filed : Contains group.files file
  pub last : is_epilogue file.role ≡ true

is_last : (b : Bool) → bool_eq b true ≡ true → b ≡ true
is_last true h = refl
is_last false h = cc

later_last : (fs : List File) → 1 ≤ length fs → later_positions_fit true fs ≡ true → (f : File) × Contains fs f × (is_epilogue f.role ≡ true)
later_last [] some h = absurd (omega (arith, some))
later_last (f ∷ []) some h =
    let parts = and_parts (file_position_fits false true f) true h in
    (f, Contains-here f [], is_last (is_epilogue f.role) (and_parts (bool_eq (is_prelude f.role) false) (bool_eq (is_epilogue f.role) true) parts.0).1)
later_last (f ∷ (g ∷ gs)) some h =
    let rest = later_last (g ∷ gs) (omega arith) (and_parts (file_position_fits false (true && length (g ∷ gs) == 0) f) (later_positions_fit true (g ∷ gs)) h).1 in
    (rest.0, Contains-there rest.0 f (g ∷ gs) rest.1, rest.2)

group_last_file : (first : Bool) (fs : List File) → group_positions_fit first true fs ≡ true → (f : File) × Contains fs f × (is_epilogue f.role ≡ true)
group_last_file first [] h = absurd (none first h)
  where
    none : (b : Bool) → (not b && false) ≡ true → ⊥
    none true h = cc
    none false h = cc
group_last_file first (f ∷ []) h =
    let parts = and_parts (file_position_fits first true f) true h in
    (f, Contains-here f [], is_last (is_epilogue f.role) (and_parts (bool_eq (is_prelude f.role) first) (bool_eq (is_epilogue f.role) true) parts.0).1)
group_last_file first (f ∷ (g ∷ gs)) h =
    let rest = later_last (g ∷ gs) (omega arith) (and_parts (file_position_fits first (true && length (g ∷ gs) == 0) f) (later_positions_fit true (g ∷ gs)) h).1 in
    (rest.0, Contains-there rest.0 f (g ∷ gs) rest.1, rest.2)

groups_last : (first : Bool) (i : ℕ) (gs : List Group) → 1 ≤ length gs → first_misplaced_file first i gs ≡ None → LastFile gs
groups_last first i [] some h = absurd (omega (arith, some))
groups_last first i (g ∷ []) some h =
    elim (cases_Bool (group_positions_fit first true g.files)) [
      | inl t ↦ (let f = group_last_file first g.files t in record { group = g; grouped = Contains-here g []; file = f.0; filed = f.1; last = f.2 })
      | inr n ↦ absurd (let no : Some i ≡ None = rw n at h in cc)
    ]
groups_last first i (g ∷ (x ∷ xs)) some h =
    elim (cases_Bool (group_positions_fit first (length (x ∷ xs) == 0) g.files)) [
      | inl t ↦ (let rest = groups_last false (i + 1) (x ∷ xs) (omega arith) (rw t at h) in record { group = rest.group; grouped = Contains-there rest.group g (x ∷ xs) rest.grouped; file = rest.file; filed = rest.filed; last = rest.last })
      | inr n ↦ absurd (let no : Some i ≡ None = rw n at h in cc)
    ]

pub last_file : (l : Layout) → IsLaidOut l → LastFile l.groups
last_file l laid = groups_last true 0 l.groups laid.some_group laid.files

-- a sorted section, which stands with the last file
sorted_item : (l : Layout) (item : Item) (s : InputSection) → is_partial_link l.kind ≡ false → IsLaidOut l → (k : IsKeptSection l s) → s.slot ≡ slot.Sorted → item ≡ placed_item l k.input.file s → IsPlacedItem l item
sorted_item l item s kind laid k e is =
    let f = k.input.file in
    let last = last_file l laid in
    let a = placed_file_of l last.group last.file last.filed in
    let n = k.has_data in
    let words = λ (r : s.reversed ≡ true). has_words l s laid k.input (rw (e, n) refl) r in
    let here = turned_item l f (as_loaded s) (λ r. (let w = words r in record { whole = w.whole; bytes = w.bytes; fields = w.fields })) in
    record {
      section = with_word_order (as_loaded s);
      kept = record {
        input = record { group = last.group; grouped = last.grouped; file = placed_file l a.0 last.file; filed = a.1; owner = f; listed = Ordered last.last (record { file = f; section = as_loaded s }) (is_sorted l s kind laid k.input e) refl refl };
        reads = turned_reads (as_loaded s) refl n;
        room = λ plain. subst (λ (y : ℕ). allocated y ≡ true) (sym (turned_flags (as_loaded s))) (alloc_bit s.flags k.room);
        written = turned_written l (as_loaded s) refl (part_is_written l s.part k.written);
      };
      is = is ∙ sym here;
    }

-- what a section keeps whose words are reversed
pub record KeepsFields (s t : InputSection) : Type 0 where
  pub slot : t.slot ≡ s.slot
  pub nobits : t.nobits ≡ s.nobits
  pub part : t.part ≡ s.part
  pub address : t.address ≡ s.address
  pub size : t.size ≡ s.size
  pub flags : t.flags ≡ s.flags

pub turned_fields : (s : InputSection) → KeepsFields s (with_word_order s)
unfolding with_word_order
turned_fields s = by s.reversed
  where
    by : (b : Bool) → KeepsFields s (if b then reversed_section s else s)
    by true = record { slot = refl; nobits = refl; part = refl; address = refl; size = refl; flags = refl }
    by false = record { slot = refl; nobits = refl; part = refl; address = refl; size = refl; flags = refl }

pub loaded_same : (s : InputSection) → s.slot ≡ slot.Loaded → s ≡ as_loaded s
loaded_same s e = ap (λ (k : Slot). record { slot = k; name = s.name; part = s.part; address = s.address; size = s.size; flags = s.flags; nobits = s.nobits; reversed = s.reversed; singleton = s.singleton; target = s.target; members = s.members; bytes = s.bytes; strings = s.strings; relocations = s.relocations }) e

-- a loaded or sorted section as it stands
pub record InputStands (l : Layout) (s : InputSection) : Type 0 where
  pub section : InputSection
  pub input : IsPlacedSection l section
  pub is : section ≡ with_word_order (as_loaded s)

pub input_stands : (l : Layout) (s : InputSection) → is_partial_link l.kind ≡ false → IsLaidOut l → IsInput l s → IsLoadedSlot s.slot → InputStands l s
input_stands l s kind laid k loaded = by_slot s.slot refl loaded
  where
    by_slot : (t : Slot) → s.slot ≡ t → IsLoadedSlot t → InputStands l s
    by_slot slot.Loaded e h =
        let a = placed_file_of l k.group k.file k.filed in
        let c = placed_section_in l k.file a.0 k.file.sections s k.listed in
        record {
          section = placed_section l k.file c.0 s;
          input = record { group = k.group; grouped = k.grouped; file = placed_file l a.0 k.file; filed = a.1; owner = placed_file l a.0 k.file; listed = Own refl c.1 };
          is = placed_loaded_section l k.file c.0 s kind e ∙ ap with_word_order (loaded_same s e);
        }
    by_slot slot.Sorted e h =
        let last = last_file l laid in
        let a = placed_file_of l last.group last.file last.filed in
        record {
          section = with_word_order (as_loaded s);
          input = record { group = last.group; grouped = last.grouped; file = placed_file l a.0 last.file; filed = a.1; owner = k.file; listed = Ordered last.last (record { file = k.file; section = as_loaded s }) (is_sorted l s kind laid k e) refl refl };
          is = refl;
        }
    by_slot other e h = absurd h

section_item : (l : Layout) (item : Item) (s : InputSection) → is_partial_link l.kind ≡ false → IsLaidOut l → (k : IsKeptSection l s) → item ≡ placed_item l k.input.file s → IsPlacedItem l item
section_item l item s kind laid k is = by_slot s.slot refl k.loaded
  where
    by_slot : (t : Slot) → s.slot ≡ t → IsLoadedSlot t → IsPlacedItem l item
    by_slot slot.Loaded e h = loaded_item l item s kind laid k e is
    by_slot slot.Sorted e h = sorted_item l item s kind laid k e is
    by_slot other e h = absurd h

-- ---- frames

-- the judge finds what the writer does
defining_file_same : (l : Layout) (f : File) (i : ℕ) → IsLaidOut l → Contains (files_of l.groups) f → defining_file_of l f i ≡ file_of (files_of l.groups) i
defining_file_same l f i laid c =
    elim (cases_Bool (has_symbol f i)) [
      | inl t ↦ (let own = laid.ranges f i c t in rw t (sym own))
      | inr n ↦ rw n refl
    ]

target_same : (l : Layout) (f : File) (r : InputRelocation) → IsLaidOut l → Contains (files_of l.groups) f → code_of l r.symbol ≡ target_of l f r
unfolding target_of
target_same l f r laid c = by_symbol r.symbol
  where
    by_section : (o : Option InputSection) → code_section l o ≡ section_target l o
    by_section None = refl
    by_section (Some s) = refl

    by_file : (k : ℕ) (o : Option File) → code_in l k o ≡ target_in l k o
    by_file k None = refl
    by_file k (Some g) = by_section (slice_get g.sections k)

    by_place : (i : ℕ) (p : Place) → code_at l i p ≡ target_at l f i p
    by_place i (at.Section k) = by_file k (file_of (files_of l.groups) i) ∙ ap (target_in l k) (sym (defining_file_same l f i laid c))
    by_place i other = refl

    by_listed : (i : ℕ) (o : Option Symbol) → code_by l i o ≡ symbol_target l f i o
    by_listed i None = refl
    by_listed i (Some s) = by_place i s.place

    by_symbol : (o : Option ℕ) → code_of l o ≡ target_by l f o
    by_symbol None = refl
    by_symbol (Some i) = by_listed i (slice_get l.symbols i)

pub frames_same : (l : Layout) (f : File) (s : InputSection) → IsLaidOut l → Contains (files_of l.groups) f → frames_in l s ≡ frames_of l f s
frames_same l f s laid c =
    ap (λ (t : InputRelocation → Target). record { bytes = if s.nobits then [] else s.bytes; relocations = if s.nobits then [] else s.relocations; width = λ r. field_bytes l.machine r.number; target = t }) (fun_ext (λ r. target_same l f r laid c))

kept_same : (l : Layout) (f : File) (s : InputSection) → IsLaidOut l → Contains (files_of l.groups) f → kept_bytes l s ≡ kept_size l f s
unfolding kept_size
kept_same l f s laid c = by_slot s.slot
  where
    by_slot : (k : Slot) → kept_by k l s ≡ (if is_frame k then length (frame_bytes (frames_of l f s)) else 0)
    by_slot slot.Frame = ap (λ (fs : Frames). length (frame_bytes fs)) (frames_same l f s laid c)
    by_slot other = refl

-- ---- where they stand

total_append : {X : Type 0} (f : X → ℕ) (xs ys : List X) → total f (xs ++ ys) ≡ total f xs + total f ys
total_append f [] ys = omega arith
total_append f (x ∷ xs) ys = (let e = total_append f xs ys in omega (arith, e))

total_same : {X : Type 0} (f g : X → ℕ) (xs : List X) → ((x : X) → Contains xs x → f x ≡ g x) → total f xs ≡ total g xs
total_same f g [] h = refl
total_same f g (x ∷ xs) h = (let a = h x (Contains-here x xs) in let b = total_same f g xs (λ y c. h y (Contains-there y x xs c)) in omega (arith, a, b))

-- the place in a list of laid files of the one behind others
file_after : (l : Layout) (at : ℕ) (fs : List File) (f : File) (rest : List File) → (a : ℕ) × Contains (placed_from l at (fs ++ (f ∷ rest))) (placed_file l a f) × (a % 2 ^ 64 ≡ (at + total (file_frames l) fs) % 2 ^ 64)
file_after l at [] f rest = (at, Contains-here (placed_file l at f) (placed_from l (address_after at (file_frames l f)) rest), (let e : at ≡ at + 0 = omega arith in ap (λ (n : ℕ). n % 2 ^ 64) e))
file_after l at (g ∷ gs) f rest =
    let r = file_after l (address_after at (file_frames l g)) gs f rest in
    let e = r.2 in
    (r.0, Contains-there (placed_file l r.0 f) (placed_file l at g) (placed_from l (address_after at (file_frames l g)) (gs ++ (f ∷ rest))) r.1, omega (arith, e))

section_after : (l : Layout) (f : File) (at : ℕ) (ss : List InputSection) (s : InputSection) (rest : List InputSection) → (a : ℕ) × Contains (placed_sections l f at (ss ++ (s ∷ rest))) (placed_section l f a s) × (a % 2 ^ 64 ≡ (at + total (kept_size l f) ss) % 2 ^ 64)
section_after l f at [] s rest = (at, Contains-here (placed_section l f at s) (placed_sections l f (address_after at (kept_size l f s)) rest), (let e : at ≡ at + 0 = omega arith in ap (λ (n : ℕ). n % 2 ^ 64) e))
section_after l f at (t ∷ ts) s rest =
    let r = section_after l f (address_after at (kept_size l f t)) ts s rest in
    let e = r.2 in
    (r.0, Contains-there (placed_section l f r.0 s) (placed_section l f at t) (placed_sections l f (address_after at (kept_size l f t)) (ts ++ (s ∷ rest))) r.1, omega (arith, e))

-- a group gives as many bytes as its files keep, or more
file_most : (l : Layout) (f : File) (at : ℕ) → All (SectionLies l) (processed_sections l (placed_file l at f)) → file_frames l f ≤ length (frames_bytes l (placed_file l at f))
unfolding frames_bytes
file_most l f at lies =
    let g = placed_file l at f in
    let size = sections_size l g f at f.sections (All-append-left (SectionLies l) g.sections (of_last_file g (sorted_sections l)) lies) in
    let both = length-append (flat_map (frame_bytes_of l g) g.sections) (of_last_file g (end_of_frames l)) in
    omega (arith, size, both)

abbrev LiesWell : Layout → File → Type 0
LiesWell l f = All (SectionLies l) (processed_sections l f)

files_most : (l : Layout) (at : ℕ) (fs : List File) → All (LiesWell l) (placed_from l at fs) → total (file_frames l) fs ≤ length (flat_map (frames_bytes l) (placed_from l at fs))
files_most l at [] lies = omega arith
files_most l at (f ∷ fs) lies =
    let g = placed_file l at f in
    let gs = placed_from l (address_after at (file_frames l f)) fs in
    let one = file_most l f at (All-head (LiesWell l) g gs lies) in
    let rest = files_most l (address_after at (file_frames l f)) fs (All-tail (LiesWell l) g gs lies) in
    let both = length-append (frames_bytes l g) (flat_map (frames_bytes l) gs) in
    omega (arith, one, rest, both)

group_most : (l : Layout) (g : Group) → All (LiesWell l) (placed_files l g) → total (file_frames l) g.files ≤ length (content l role.EhFrame g)
unfolding placed_files
group_most l g lies =
    let most = files_most l (frames_at l g) g.files lies in
    let e = ap (λ (bs : List ℕ). length bs) (group_given l g) in
    omega (arith, most, e)

-- the frames of a group end where the part does, or before
joined_length : {X : Type 0} (f : X → List ℕ) (xs : List X) → length (flat_map f xs) ≡ total (λ x. length (f x)) xs
joined_length f [] = refl
joined_length f (x ∷ xs) = (let a = length-append (f x) (flat_map f xs) in let b = joined_length f xs in omega (arith, a, b))

prefix_fits : {X : Type 0} (f : X → ℕ) (xs : List X) (j : ℕ) (x : X) → slice_get xs j ≡ Some x → total f (take j xs) + f x ≤ total f xs
prefix_fits f [] j x e = cc
prefix_fits f (y ∷ ys) zero x e = (let same : y ≡ x = cc in let g = ap f same in omega (arith, g))
prefix_fits f (y ∷ ys) (suc j) x e = (let rest = prefix_fits f ys j x e in omega (arith, rest))

part_ends : (l : Layout) → IsLaidOut l → part_address (part_with role.EhFrame l.parts) + length (table_bytes l role.EhFrame) ≤ 2 ^ 62
part_ends l laid = by_part (part_with role.EhFrame l.parts) refl
  where
    low : (p : Part) → Contains l.parts p → p.address + p.size ≤ 2 ^ 62
    low p c = subst (λ (q : Part). q.address + q.size ≤ 2 ^ 62) c.2 (laid.parts c.0 p c.1).address

    by_part : (o : Option Part) → part_with role.EhFrame l.parts ≡ o → part_address o + length (table_bytes l role.EhFrame) ≤ 2 ^ 62
    by_part None e = (let none = ap (λ (bs : List ℕ). length bs) ((laid.roles role.EhFrame (λ z. cc)).missing e) in omega (arith, none))
    by_part (Some p) e =
        let t = (laid.roles role.EhFrame (λ z. cc)).there p e in
        let size = t.size in
        let top = low p t.listed in
        omega (arith, size, top)

-- ---- the item

frame_flags_same : (flags : ℕ) → frame_flags flags ≡ without (without flags shf_write) shf_execinstr
unfolding bit
frame_flags_same flags = refl

placed_frame_section : (l : Layout) (f : File) (at : ℕ) (s : InputSection) → s.slot ≡ slot.Frame → placed_section l f at s ≡ placed_frames l f at s
unfolding placed_section
placed_frame_section l f at s e = ap (λ (k : Slot). placed_by k l f at s) e

framed_item : (l : Layout) (f : File) (a b at : ℕ) (s : InputSection) → IsLaidOut l → Contains (files_of l.groups) f → b ≡ at → item_of l (placed_file l a f) (placed_frames l f b s) ≡ frames_item l f s at
unfolding moved_relocations bit
framed_item l f a b at s laid c e =
    ap (λ (fs : Frames). frames_item_of fs s.flags b (frames_item l f s at).thunk_block) (sym (frames_same l f s laid c)) ∙ ap (λ (n : ℕ). frames_item l f s n) e

-- sums of a group with the file and the section that are meant
record Sums (l : Layout) (s : InputSection) (k : IsFrameInput l s) : Type 0 where
  files : total (kept_of_file l) k.files ≡ total (file_frames l) k.files
  sections : total (kept_bytes l) k.sections ≡ total (kept_size l k.file) k.sections
  most : total (file_frames l) k.files + total (kept_size l k.file) k.sections ≤ total (file_frames l) k.group.files

file_listed : (l : Layout) (s : InputSection) (k : IsFrameInput l s) (f : File) → Contains k.group.files f → Contains (files_of l.groups) f
file_listed l s k f c = Contains-flat_map (λ (g : Group). g.files) l.groups k.group f k.grouped c

file_here : (l : Layout) (s : InputSection) (k : IsFrameInput l s) → Contains k.group.files k.file
file_here l s k = subst (λ (fs : List File). Contains fs k.file) (sym k.filed) (Contains-append_right k.files (k.file ∷ k.files_behind) k.file (Contains-here k.file k.files_behind))

file_before : (l : Layout) (s : InputSection) (k : IsFrameInput l s) (f : File) → Contains k.files f → Contains k.group.files f
file_before l s k f c = subst (λ (fs : List File). Contains fs f) (sym k.filed) (Contains-append_left k.files (k.file ∷ k.files_behind) f c)

sums_of : (l : Layout) (s : InputSection) → IsLaidOut l → (k : IsFrameInput l s) → Sums l s k
sums_of l s laid k =
    let own = file_listed l s k k.file (file_here l s k) in
    let all = ap (λ (fs : List File). total (file_frames l) fs) k.filed ∙ total_append (file_frames l) k.files (k.file ∷ k.files_behind) in
    let mine = ap (λ (ss : List InputSection). total (kept_size l k.file) ss) k.listed ∙ total_append (kept_size l k.file) k.sections (s ∷ k.sections_behind) in
    record {
      files = total_same (kept_of_file l) (file_frames l) k.files (λ f c. total_same (kept_bytes l) (kept_size l f) f.sections (λ t d. kept_same l f t laid (file_listed l s k f (file_before l s k f c))));
      sections = total_same (kept_bytes l) (kept_size l k.file) k.sections (λ t d. kept_same l k.file t laid own);
      most = omega (arith, all, mine);
    }

-- where the frames of an input section stand
record FrameFound (l : Layout) (s : InputSection) (k : IsFrameInput l s) : Type 0 where
  base : ℕ
  filed : Contains (placed_files l k.group) (placed_file l base k.file)
  at : ℕ
  listed : Contains (placed_file l base k.file).sections (placed_section l k.file at s)
  is : at % 2 ^ 64 ≡ frames_address l s k % 2 ^ 64

frame_found : (l : Layout) (s : InputSection) → IsLaidOut l → (k : IsFrameInput l s) → FrameFound l s k
unfolding placed_files
frame_found l s laid k =
    let a = file_after l (frames_at l k.group) k.files k.file k.files_behind in
    let b = section_after l k.file a.0 k.sections s k.sections_behind in
    let sums = sums_of l s laid k in
    let x = a.2 in
    let y = b.2 in
    let p = sums.files in
    let q = sums.sections in
    let base : part_address (part_with role.EhFrame l.parts) ≡ address_of_part (part_with role.EhFrame l.parts) = base_is (part_with role.EhFrame l.parts) in
    record {
      base = a.0;
      filed = subst (λ (fs : List File). Contains (placed_from l (frames_at l k.group) fs) (placed_file l a.0 k.file)) (sym k.filed) a.1;
      at = b.0;
      listed = subst (λ (ss : List InputSection). Contains (placed_sections l k.file a.0 ss) (placed_section l k.file b.0 s)) (sym k.listed) b.1;
      is = omega (arith, x, y, p, q, base);
    }
  where
    base_is : (o : Option Part) → part_address o ≡ address_of_part o
    base_is None = refl
    base_is (Some p) = refl

frame_low : (l : Layout) (s : InputSection) → IsLaidOut l → (k : IsFrameInput l s) → frames_address l s k ≤ 2 ^ 62
frame_low l s laid k =
    let g = k.group in
    let j = k.grouped.0 in
    let at : slice_get l.groups j ≡ Some g = slice_get-get_or l.groups j g k.grouped.1 ∙ ap (λ (x : Group). Some x) k.grouped.2 in
    let start = laid.frame_starts j g at in
    let sums = sums_of l s laid k in
    let p = sums.files in
    let q = sums.sections in
    let most = sums.most in
    let given = group_most l g (All-contains (λ (x : Group). All (LiesWell l) (placed_files l x)) l.groups g laid.inputs k.grouped) in
    let fits = prefix_fits (λ (x : Group). length (content l role.EhFrame x)) l.groups j g at in
    let whole = joined_length (content l role.EhFrame) l.groups in
    let top = part_ends l laid in
    let base : part_address (part_with role.EhFrame l.parts) ≡ address_of_part (part_with role.EhFrame l.parts) = base_is (part_with role.EhFrame l.parts) in
    omega (arith, start, p, q, most, given, fits, whole, top, base)
  where
    base_is : (o : Option Part) → part_address o ≡ address_of_part o
    base_is None = refl
    base_is (Some p) = refl

framed_reads : (t : InputSection) (l : Layout) (f : File) (at : ℕ) (s : InputSection) → t ≡ placed_frames l f at s → is_read t ≡ true
framed_reads t l f at s e = ap is_read e

frames_kept : (l : Layout) (item : Item) (s : InputSection) → IsLaidOut l → (k : IsFrameInput l s) → item ≡ frames_item l k.file s (frames_address l s k) → IsPlacedItem l item
frames_kept l item s laid k is =
    let found = frame_found l s laid k in
    let t = placed_section l k.file found.at s in
    let same : t ≡ placed_frames l k.file found.at s = placed_frame_section l k.file found.at s k.frame in
    let input : IsPlacedSection l t = record { group = k.group; grouped = k.grouped; file = placed_file l found.base k.file; filed = found.filed; owner = placed_file l found.base k.file; listed = Own refl found.listed } in
    let small = (each_at (SectionLies l) l t laid.inputs input).small in
    let here : t.address ≡ found.at = ap (λ (x : InputSection). x.address) same in
    let low = frame_low l s laid k in
    let e = found.is in
    let at : found.at ≡ frames_address l s k = omega (arith, small, here, low, e) in
    record {
      section = t;
      kept = record {
        input = input;
        reads = framed_reads t l k.file found.at s same;
        room = λ plain. absurd (let frame : is_frame t.slot ≡ true = ap (λ (x : InputSection). is_frame x.slot) same in let both : true ≡ false = sym frame ∙ plain in cc);
        written = ap (is_omitted l) same ∙ role_is_written l role.EhFrame k.written;
      };
      is = is ∙ sym (framed_item l k.file found.base found.at (frames_address l s k) s laid (file_listed l s k k.file (file_here l s k)) at) ∙ ap (λ (x : InputSection). item_of l (placed_file l found.base k.file) x) (sym same);
    }

-- ---- items

pub kept_items_placed : KeptItemsArePlaced
kept_items_placed = λ l item kind laid kept. by_kept l item kind laid kept
  where
    by_kept : (l : Layout) (item : Item) → is_partial_link l.kind ≡ false → IsLaidOut l → IsKept l item → IsPlacedItem l item
    by_kept l item kind laid (OfSection s k is) = section_item l item s kind laid k is
    by_kept l item kind laid (OfFrames s k is) = frames_kept l item s laid k is
