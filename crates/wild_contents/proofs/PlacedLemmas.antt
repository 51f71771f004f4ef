-- Laws of what is given of sections as they stand.
use Rattle.std.proofs.Common.{◌≡◌, ℕ, zero, suc, ◌+◌, ◌%◌, ◌^◌, ◌<◌, ◌≤◌, Bool, true, false, if◌then◌else◌, List, [], ◌∷◌, ◌++◌, map, length, drop, get_or, All, Some, None, refl, sym, ap, ◌∙◌, arith, inl, inr}
use Rattle.std.specs.Prelude.{Option, slice_get}
use Rattle.std.specs.List.{flat_map}
use Rattle.std.proofs.lemmas.Bool.{cases_Bool}
use Rattle.std.proofs.lemmas.List.{append-nil, append_assoc, drop_more, drop_all}
use Rattle.std.proofs.lemmas.List.Concat.{flat_map-append}
use Rattle.std.proofs.lemmas.List.Elements.{All-head, All-tail}
use Rattle.wild_words.proofs.ListLemmas.{flat_map-flat_map, flat_map-same}
use Rattle.wild_types.specs.declared.part.Role.{Role}
use Rattle.wild_types.specs.declared.part.Role.TheVariants as role
use Rattle.wild_types.specs.declared.symbol.Place.{Place}
use Rattle.wild_types.specs.declared.symbol.Place.TheVariants as places
use Rattle.wild_types.specs.declared.symbol.Symbol.{Symbol}
use Rattle.wild_types.specs.declared.input.Slot.{Slot}
use Rattle.wild_types.specs.declared.input.Slot.TheVariants as slot
use Rattle.wild_types.specs.declared.input.InputSection.{InputSection}
use Rattle.wild_types.specs.declared.file.File.{File}
use Rattle.wild_types.specs.declared.file.Group.{Group}
use Rattle.wild_types.specs.declared.layout.SortedSection.{SortedSection}
use Rattle.wild_types.specs.declared.layout.Layout.{Layout}
use Rattle.wild_types.specs.Lists.{total}
use Rattle.wild_types.specs.FileRoles.{is_prelude}
use Rattle.wild_types.specs.FileSymbols.{copies_of}
use Rattle.wild_types.specs.Kinds.{is_partial_link}
use Rattle.wild_types.specs.Lookups.{is_frame, is_loaded}
use Rattle.wild_frames.specs.Frames.{frame_bytes}
use Rattle.wild_needs.specs.declared.table.SymtabName.{SymtabName}
use Rattle.wild_needs.specs.declared.table.SymtabName.TheVariants as named
use Rattle.wild_needs.specs.DynamicStrings.{file_strings}
use Rattle.wild_needs.specs.DynamicSymbols.{output_section, section_of_input}
use Rattle.wild_needs.specs.Needs.{frame_room, has_last}
use Rattle.wild_needs.specs.TableSymbols.{TableSymbol, file_items, item_name, is_local, has_long, table_strings}
use Rattle.wild_placement.specs.ReversedWords.{with_word_order, reversed_section}
use Rattle.wild_placement.specs.FrameInputs.{frames_of, kept_size}
use Rattle.wild_placement.specs.PlacedSections.{Input, without_relocations, unread, placed_by, placed_section, placed_sections, placed_file, placed_from, placed_files, address_after, file_frames, sorted_input, sorted_inputs, sorted_sections, of_last_file, processed_sections}
use Rattle.wild_table_formats.specs.declared.symbols.TableFields.{TableFields}
use Rattle.wild_types.specs.declared.fault.Fault.{Fault}
use Rattle.std.specs.Prelude.{Result}
use Rattle.wild_table_formats.specs.TableEntries.{NamedEntry, file_table, named_entry, null_entries, table_fields_or_null, table_fields, table_by, fields_of, index_bytes, long_indexes}
use Rattle.wild_table_formats.specs.VersionNames.{definition_offsets, file_definitions}
use Rattle.wild_needs.specs.Entries.{sorted_words}
use Rattle.wild_relr.specs.WriterState.{word_bytes}
use Rattle.wild_layout.specs.DynamicRelocations.{section_generals}
use Rattle.wild_layout.specs.SearchTable.{search_table}
use Rattle.wild_layout.specs.SlotBytes.{slot_bytes, header_bytes, block_bytes, slot_words_of, slot_entries_of, stubs_of, flat_places_of}
use Rattle.wild_layout.specs.Content.{unique_table, file_part_bytes, file_content, frames_bytes, group_bytes, last_words}
use Rattle.wild_contents.specs.FileTables.{section_entry_bytes, section_word_bytes}
use Rattle.wild_contents.specs.General.{section_general_bytes, copy_bytes}
use Rattle.wild_contents.specs.PlacedSections.{is_applied, is_apart, section_given, input_given, sorted_given, sorted_entries_after, copy_entries_before, entries_after, group_frames, first_given, HasSearchTable, HaveSearchTable}
use Rattle.wild_contents.proofs.FileTableLemmas.{entries_joined, words_joined}
use Rattle.wild_contents.proofs.GeneralLemmas.{generals_are}

-- ---- the walk over the sections of a file

turned_room : (b : Bool) (s : InputSection) → is_frame s.slot ≡ false → frame_room (if b then reversed_section s else s) ≡ 0
turned_room true s e = rw e refl
turned_room false s e = rw e refl

-- without its relocations a section has its slot and its part
unread_slot : (b : Bool) (s : InputSection) → (if b then without_relocations s else s).slot ≡ s.slot
unread_slot true s = refl
unread_slot false s = refl

unread_part : (b : Bool) (s : InputSection) → (if b then without_relocations s else s).part ≡ s.part
unread_part true s = refl
unread_part false s = refl

room_by : (l : Layout) (f : File) (at : ℕ) (s : InputSection) (k : Slot) → s.slot ≡ k → frame_room (placed_by k l f at s) ≡ (if is_frame k then length (frame_bytes (frames_of l f s)) else 0)
unfolding with_word_order
room_by l f at s slot.Discard e = rw e refl
room_by l f at s slot.Loaded e = turned_room (unread l s).reversed (unread l s) (ap is_frame (unread_slot (is_partial_link l.kind) s ∙ e))
room_by l f at s slot.Sorted e = rw e refl
room_by l f at s slot.Debug e = turned_room s.reversed s (ap is_frame e)
room_by l f at s slot.Frame e = refl
room_by l f at s slot.Merge e = rw e refl
room_by l f at s slot.Rela e = refl
room_by l f at s slot.Group e = rw e refl

-- how many bytes of frames a section has is told by how it stands
pub room_of_placed : (l : Layout) (f : File) (at : ℕ) (s : InputSection) → frame_room (placed_section l f at s) ≡ kept_size l f s
unfolding placed_section kept_size
room_of_placed l f at s = room_by l f at s s.slot refl

loaded_unchanged : (k : Slot) (l : Layout) (f : File) (at : ℕ) (s : InputSection) → is_loaded k ≡ true → s.reversed ≡ false → is_partial_link l.kind ≡ false → placed_by k l f at s ≡ s
unfolding with_word_order
loaded_unchanged slot.Loaded l f at s k h p = rw (p, h) refl
loaded_unchanged other l f at s k h p = cc

-- a loaded section is placed as it is, unless its words are reversed or its relocations are in a table
pub placed_unchanged : (l : Layout) (s : InputSection) → is_loaded s.slot ≡ true → s.reversed ≡ false → is_partial_link l.kind ≡ false → (f : File) (at : ℕ) → placed_section l f at s ≡ s
unfolding placed_section
placed_unchanged l s k h p f at = loaded_unchanged s.slot l f at s k h p

-- so it gives what it gives as the plan has it
pub given_unchanged : (r : Role) (l : Layout) (f : File) (at : ℕ) (s : InputSection) (old now : List ℕ) → ((g : File) (a : ℕ) → placed_section l g a s ≡ s) → now ≡ old ++ section_given r l s → now ≡ old ++ section_given r l (placed_section l f at s)
given_unchanged r l f at s old now same is = is ∙ ap (λ (x : InputSection). old ++ section_given r l x) (sym (same f at))

-- one more section of those to come
pub placed_sections_more : {Y : Type 0} (G : InputSection → List Y) (l : Layout) (f : File) (at : ℕ) (ss : List InputSection) (i : ℕ) (s : InputSection) (now next whole : List Y) → i < length ss → s ≡ get_or ss i s → now ++ flat_map G (placed_sections l f at (drop i ss)) ≡ whole → next ≡ now ++ G (placed_section l f at s)
    → next ++ flat_map G (placed_sections l f (address_after at (kept_size l f s)) (drop (i + 1) ss)) ≡ whole
placed_sections_more {Y} G l f at ss i s now next whole low read before is =
    let rest = flat_map G (placed_sections l f (address_after at (kept_size l f s)) (drop (i + 1) ss)) in
    let cut : drop i ss ≡ s ∷ drop (i + 1) ss = drop_more ss i s low ∙ ap (λ (x : InputSection). x ∷ drop (i + 1) ss) (sym read) in
    ap (λ (ys : List Y). ys ++ rest) is
    ∙ append_assoc now (G (placed_section l f at s)) rest
    ∙ sym (ap (λ (xs : List InputSection). now ++ flat_map G (placed_sections l f at xs)) cut)
    ∙ before

-- no more
pub placed_sections_done : {Y : Type 0} (G : InputSection → List Y) (l : Layout) (f : File) (at : ℕ) (ss : List InputSection) (i : ℕ) (now whole : List Y) → length ss ≤ i → now ++ flat_map G (placed_sections l f at (drop i ss)) ≡ whole → now ≡ whole
placed_sections_done {Y} G l f at ss i now whole end before =
    sym (append-nil now) ∙ sym (ap (λ (xs : List InputSection). now ++ flat_map G (placed_sections l f at xs)) (drop_all i ss end)) ∙ before

-- the addresses of the frames to come
pub reach_more : (l : Layout) (f : File) (ss : List InputSection) (i : ℕ) (s : InputSection) (at next whole : ℕ) → i < length ss → s ≡ get_or ss i s → address_after at (total (kept_size l f) (drop i ss)) ≡ whole → next ≡ address_after at (kept_size l f s)
    → address_after next (total (kept_size l f) (drop (i + 1) ss)) ≡ whole
reach_more l f ss i s at next whole low read before is =
    let cut : drop i ss ≡ s ∷ drop (i + 1) ss = drop_more ss i s low ∙ ap (λ (x : InputSection). x ∷ drop (i + 1) ss) (sym read) in
    let t : total (kept_size l f) (drop i ss) ≡ kept_size l f s + total (kept_size l f) (drop (i + 1) ss) = ap (total (kept_size l f)) cut in
    omega (arith, t, is, before)

pub reach_done : (l : Layout) (f : File) (ss : List InputSection) (i at whole : ℕ) → at < 2 ^ 64 → length ss ≤ i → address_after at (total (kept_size l f) (drop i ss)) ≡ whole → at ≡ whole
reach_done l f ss i at whole small end before =
    let t : total (kept_size l f) (drop i ss) ≡ 0 = ap (total (kept_size l f)) (drop_all i ss end) in
    omega (arith, t, small, before)

-- an address behind another fits
pub behind_small : (at n next : ℕ) → next ≡ address_after at n → next < 2 ^ 64
behind_small at n next e = omega (arith, e)

-- ---- the walk over files

pub files_more : {Y : Type 0} (G : File → List Y) (l : Layout) (at : ℕ) (fs : List File) (i : ℕ) (f : File) (now next whole : List Y) → i < length fs → f ≡ get_or fs i f → now ++ flat_map G (placed_from l at (drop i fs)) ≡ whole → next ≡ now ++ G (placed_file l at f)
    → next ++ flat_map G (placed_from l (address_after at (file_frames l f)) (drop (i + 1) fs)) ≡ whole
files_more {Y} G l at fs i f now next whole low read before is =
    let rest = flat_map G (placed_from l (address_after at (file_frames l f)) (drop (i + 1) fs)) in
    let cut : drop i fs ≡ f ∷ drop (i + 1) fs = drop_more fs i f low ∙ ap (λ (x : File). x ∷ drop (i + 1) fs) (sym read) in
    ap (λ (ys : List Y). ys ++ rest) is
    ∙ append_assoc now (G (placed_file l at f)) rest
    ∙ sym (ap (λ (xs : List File). now ++ flat_map G (placed_from l at xs)) cut)
    ∙ before

pub files_done : {Y : Type 0} (G : File → List Y) (l : Layout) (at : ℕ) (fs : List File) (i : ℕ) (now whole : List Y) → length fs ≤ i → now ++ flat_map G (placed_from l at (drop i fs)) ≡ whole → now ≡ whole
files_done {Y} G l at fs i now whole end before =
    sym (append-nil now) ∙ sym (ap (λ (xs : List File). now ++ flat_map G (placed_from l at xs)) (drop_all i fs end)) ∙ before

-- ---- what hangs on no section

turned_part : (b : Bool) (s : InputSection) → (if b then reversed_section s else s).part ≡ s.part
turned_part true s = refl
turned_part false s = refl

part_by : (l : Layout) (f : File) (at : ℕ) (s : InputSection) (k : Slot) → (placed_by k l f at s).part ≡ s.part
unfolding with_word_order
part_by l f at s slot.Discard = refl
part_by l f at s slot.Loaded = turned_part (unread l s).reversed (unread l s) ∙ unread_part (is_partial_link l.kind) s
part_by l f at s slot.Sorted = refl
part_by l f at s slot.Debug = turned_part s.reversed s
part_by l f at s slot.Frame = refl
part_by l f at s slot.Merge = refl
part_by l f at s slot.Rela = refl
part_by l f at s slot.Group = refl

-- a section stays in its part
pub part_of_placed_section : (l : Layout) (f : File) (at : ℕ) (s : InputSection) → (placed_section l f at s).part ≡ s.part
unfolding placed_section
part_of_placed_section l f at s = part_by l f at s s.slot

listed_section_of_placed : (l : Layout) (f : File) (ss : List InputSection) (at k : ℕ) → section_of_input l (slice_get (placed_sections l f at ss) k) ≡ section_of_input l (slice_get ss k)
listed_section_of_placed l f [] at k = refl
listed_section_of_placed l f (s ∷ ss) at zero = let e = part_of_placed_section l f at s in rw e refl
listed_section_of_placed l f (s ∷ ss) at (suc k) = listed_section_of_placed l f ss (address_after at (kept_size l f s)) k

output_section_of_placed : (l : Layout) (at : ℕ) (f : File) (p : Place) → output_section l (Some (placed_file l at f)) p ≡ output_section l (Some f) p
output_section_of_placed l at f (places.Section k) = listed_section_of_placed l f f.sections at k
output_section_of_placed l at f (places.Output k) = refl
output_section_of_placed l at f places.Undefined = refl
output_section_of_placed l at f places.Absolute = refl
output_section_of_placed l at f places.Common = refl

fields_of_placed : (l : Layout) (at : ℕ) (f : File) (n : SymtabName) (i : ℕ) (s : Symbol) → fields_of l (placed_file l at f) n i s ≡ fields_of l f n i s
fields_of_placed l at f named.Itself i s = ap (table_by l i f.role s) (output_section_of_placed l at f s.place)
fields_of_placed l at f named.Slot i s = refl
fields_of_placed l at f named.Stub i s = refl
fields_of_placed l at f (named.Thunk a) i s = refl

entry_of_placed : (l : Layout) (at : ℕ) (f : File) (x : TableSymbol) → named_entry l (placed_file l at f) x ≡ named_entry l f x
unfolding table_fields
entry_of_placed l at f x = ap (λ (r : Result TableFields Fault). record { name = Some (item_name x); local = is_local x; fields = table_fields_or_null r }) (fields_of_placed l at f x.named x.index x.symbol)

map_same : {X Y : Type 0} (f g : X → Y) (xs : List X) → ((x : X) → f x ≡ g x) → map f xs ≡ map g xs
map_same f g [] same = refl
map_same {X} {Y} f g (x ∷ xs) same = ap (λ (y : Y). y ∷ map f xs) (same x) ∙ ap (λ (ys : List Y). g x ∷ ys) (map_same f g xs same)

file_table-placed_file : (l : Layout) (at : ℕ) (f : File) → file_table l (placed_file l at f) ≡ file_table l f
unfolding file_items
file_table-placed_file l at f = ap (λ (ns : List NamedEntry). null_entries l f ++ ns) (map_same (named_entry l (placed_file l at f)) (named_entry l f) (file_items l f) (entry_of_placed l at f))

slot_bytes-placed_file : (l : Layout) (r : Role) (at : ℕ) (f : File) → slot_bytes l r (placed_file l at f) ≡ slot_bytes l r f
unfolding slot_words_of slot_entries_of stubs_of flat_places_of
slot_bytes-placed_file l role.Raw at f = refl
slot_bytes-placed_file l role.FileHeader at f = refl
slot_bytes-placed_file l role.ProgramHeaders at f = refl
slot_bytes-placed_file l role.SectionHeaders at f = refl
slot_bytes-placed_file l role.Shstrtab at f = refl
slot_bytes-placed_file l role.Got at f = refl
slot_bytes-placed_file l role.GotRelr at f = refl
slot_bytes-placed_file l role.PltGot at f = refl
slot_bytes-placed_file l role.RelaPlt at f = refl
slot_bytes-placed_file l role.RelaDynRelative at f = refl
slot_bytes-placed_file l role.RelaDynGeneral at f = refl
slot_bytes-placed_file l role.RelrDyn at f = refl
slot_bytes-placed_file l role.Dynsym at f = refl
slot_bytes-placed_file l role.Dynstr at f = refl
slot_bytes-placed_file l role.GnuVersion at f = refl
slot_bytes-placed_file l role.GnuVersionD at f = refl
slot_bytes-placed_file l role.GnuVersionR at f = refl
slot_bytes-placed_file l role.SysvHash at f = refl
slot_bytes-placed_file l role.GnuHash at f = refl
slot_bytes-placed_file l role.EhFrame at f = refl
slot_bytes-placed_file l role.EhFrameHdr at f = refl
slot_bytes-placed_file l role.Dynamic at f = refl
slot_bytes-placed_file l role.SymtabLocal at f = refl
slot_bytes-placed_file l role.SymtabGlobal at f = refl
slot_bytes-placed_file l role.SymtabShndxLocal at f = refl
slot_bytes-placed_file l role.SymtabShndxGlobal at f = refl
slot_bytes-placed_file l role.Strtab at f = refl
slot_bytes-placed_file l role.Interp at f = refl
slot_bytes-placed_file l role.BuildId at f = refl
slot_bytes-placed_file l role.Property at f = refl

same_own : (l : Layout) (r : Role) (at : ℕ) (f : File) → is_applied r ≡ false → is_apart r ≡ false → file_part_bytes l r (placed_file l at f) ≡ file_part_bytes l r f
unfolding file_strings file_items table_strings definition_offsets file_definitions
same_own l role.Raw at f a b = refl
same_own l role.FileHeader at f a b = refl
same_own l role.ProgramHeaders at f a b = refl
same_own l role.SectionHeaders at f a b = refl
same_own l role.Shstrtab at f a b = refl
same_own l role.Got at f a b = refl
same_own l role.GotRelr at f a b = refl
same_own l role.PltGot at f a b = refl
same_own l role.RelaPlt at f a b = refl
same_own l role.RelaDynRelative at f a b = cc
same_own l role.RelaDynGeneral at f a b = cc
same_own l role.RelrDyn at f a b = cc
same_own l role.Dynsym at f a b = refl
same_own l role.Dynstr at f a b = refl
same_own l role.GnuVersion at f a b = refl
same_own l role.GnuVersionD at f a b = refl
same_own l role.GnuVersionR at f a b = refl
same_own l role.SysvHash at f a b = refl
same_own l role.GnuHash at f a b = refl
same_own l role.EhFrame at f a b = cc
same_own l role.EhFrameHdr at f a b = refl
same_own l role.Dynamic at f a b = refl
same_own l role.SymtabLocal at f a b = refl
same_own l role.SymtabGlobal at f a b = refl
same_own l role.SymtabShndxLocal at f a b = ap (λ (ns : List NamedEntry). if has_long l role.SymtabShndxLocal then index_bytes (long_indexes true ns) else []) (file_table-placed_file l at f)
same_own l role.SymtabShndxGlobal at f a b = ap (λ (ns : List NamedEntry). if has_long l role.SymtabShndxGlobal then index_bytes (long_indexes false ns) else []) (file_table-placed_file l at f)
same_own l role.Strtab at f a b = refl
same_own l role.Interp at f a b = refl
same_own l role.BuildId at f a b = refl
same_own l role.Property at f a b = refl

abbrev front_of : Layout → Role → File → List ℕ
front_of l r f = if is_prelude f.role then unique_table l r ++ header_bytes l r else []

-- what a file gives for which no section is read
same_content : (l : Layout) (r : Role) (at : ℕ) (f : File) → is_applied r ≡ false → is_apart r ≡ false → file_content l r (placed_file l at f) ≡ file_content l r f
same_content l r at f plain here =
    ap (λ (o : List ℕ). front_of l r f ++ o ++ slot_bytes l r (placed_file l at f)) (same_own l r at f plain here)
    ∙ ap (λ (o : List ℕ). front_of l r f ++ file_part_bytes l r f ++ o) (slot_bytes-placed_file l r at f)

from_same : {Y : Type 0} (G H : File → List Y) (l : Layout) (at : ℕ) (fs : List File) → ((a : ℕ) (f : File) → G (placed_file l a f) ≡ H f) → flat_map G (placed_from l at fs) ≡ flat_map H fs
from_same G H l at [] same = refl
from_same {Y} G H l at (f ∷ fs) same =
    ap (λ (ys : List Y). ys ++ flat_map G (placed_from l (address_after at (file_frames l f)) fs)) (same at f) ∙ ap (λ (ys : List Y). H f ++ ys) (from_same G H l (address_after at (file_frames l f)) fs same)

-- what the files of a group give for which no section is read
pub plain_files : (l : Layout) (r : Role) (g : Group) → is_applied r ≡ false → is_apart r ≡ false → flat_map (file_content l r) (placed_files l g) ≡ flat_map (file_content l r) g.files
unfolding placed_files
plain_files l r g plain here = from_same (file_content l r) (file_content l r) l _ g.files (λ a f. same_content l r a f plain here)

-- ---- what is made apart

no_front : (b : Bool) (xs : List ℕ) → (if b then [] ++ [] else []) ++ xs ++ [] ≡ xs
no_front true xs = append-nil xs
no_front false xs = append-nil xs

pub frames_given : (l : Layout) (g : Group) → flat_map (file_content l role.EhFrame) (placed_files l g) ≡ group_frames l g
unfolding group_frames
frames_given l g = flat_map-same (file_content l role.EhFrame) (frames_bytes l) (placed_files l g) (λ f. no_front (is_prelude f.role) (frames_bytes l f))

first_by : (b : Bool) (table whole : List ℕ) → (b ≡ true → table ≡ whole) → (if b then whole ++ [] else []) ++ [] ++ [] ≡ (if b then table else [])
first_by true table whole is = append-nil ((whole ++ []) ++ []) ∙ append-nil (whole ++ []) ∙ append-nil whole ∙ sym (is refl)
first_by false table whole is = refl

table_from : (l : Layout) (table : List ℕ) (at : ℕ) (fs : List File) → HaveSearchTable l table fs → flat_map (file_content l role.EhFrameHdr) (placed_from l at fs) ≡ flat_map (first_given table) fs
table_from l table at [] is = refl
table_from l table at (f ∷ fs) is =
    ap (λ (ys : List ℕ). ys ++ flat_map (file_content l role.EhFrameHdr) (placed_from l (address_after at (file_frames l f)) fs)) (first_by (is_prelude f.role) table (search_table l) (All-head (HasSearchTable l table) f fs is))
    ∙ ap (λ (ys : List ℕ). first_given table f ++ ys) (table_from l table (address_after at (file_frames l f)) fs (All-tail (HasSearchTable l table) f fs is))

pub table_given : (l : Layout) (g : Group) (table : List ℕ) → HaveSearchTable l table g.files → flat_map (file_content l role.EhFrameHdr) (placed_files l g) ≡ flat_map (first_given table) g.files
unfolding placed_files
table_given l g table is = table_from l table _ g.files is

-- ---- sorted sections

flat_map-map : {X Y Z : Type 0} (g : Y → List Z) (h : X → Y) (xs : List X) → flat_map g (map h xs) ≡ flat_map (λ x. g (h x)) xs
flat_map-map g h [] = refl
flat_map-map {X} {Y} {Z} g h (x ∷ xs) = ap (λ (ys : List Z). g (h x) ++ ys) (flat_map-map g h xs)

pub sorted_joined : (r : Role) (l : Layout) → flat_map (section_given r l) (sorted_sections l) ≡ flat_map (sorted_given r l) l.sorted
sorted_joined r l =
    flat_map-map (section_given r l) (λ (x : Input). with_word_order x.section) (sorted_inputs l) ∙ flat_map-flat_map (input_given r l) (sorted_input l) l.sorted

pub sorted_words_given : (l : Layout) → flat_map (section_given role.RelrDyn l) (sorted_sections l) ≡ word_bytes (sorted_words l)
sorted_words_given l = sym (words_joined l (sorted_sections l))

-- what is told of the files of a group together: the words of its block, and behind those the words of the sorted sections
pub words_added : (l : Layout) (g : Group) (old one two : List ℕ) → has_last g ≡ true → one ≡ old ++ block_bytes l role.RelrDyn g → two ≡ one ++ flat_map (section_given role.RelrDyn l) (sorted_sections l) → two ≡ old ++ group_bytes l role.RelrDyn g
words_added l g old one two last a b =
    let e : last_words l g ≡ word_bytes (sorted_words l) = rw last refl in
    b ∙ ap (λ (ys : List ℕ). ys ++ flat_map (section_given role.RelrDyn l) (sorted_sections l)) a
    ∙ append_assoc old (block_bytes l role.RelrDyn g) (flat_map (section_given role.RelrDyn l) (sorted_sections l))
    ∙ ap (λ (ys : List ℕ). old ++ (block_bytes l role.RelrDyn g ++ ys)) (sorted_words_given l ∙ sym e)

pub words_not_last : (l : Layout) (g : Group) (old one : List ℕ) → has_last g ≡ false → one ≡ old ++ block_bytes l role.RelrDyn g → one ≡ old ++ group_bytes l role.RelrDyn g
words_not_last l g old one last a =
    let e : last_words l g ≡ [] = rw last refl in
    a ∙ ap (λ (ys : List ℕ). old ++ ys) (sym (append-nil (block_bytes l role.RelrDyn g)) ∙ ap (λ (ys : List ℕ). block_bytes l role.RelrDyn g ++ ys) (sym e))

-- ---- what a file gives of its sections

last_given : (b : Bool) (g : InputSection → List ℕ) (xs : List InputSection) → flat_map g (if b then xs else []) ≡ (if b then flat_map g xs else [])
last_given true g xs = refl
last_given false g xs = refl

processed_given : (g : InputSection → List ℕ) (l : Layout) (f : File) → flat_map g (processed_sections l f) ≡ flat_map g f.sections ++ of_last_file f (flat_map g (sorted_sections l))
processed_given g l f = flat_map-append g f.sections (of_last_file f (sorted_sections l)) ∙ ap (λ (ys : List ℕ). flat_map g f.sections ++ ys) (last_given _ g (sorted_sections l))

own_parts : (l : Layout) (r : Role) (at : ℕ) (f : File) → is_applied r ≡ true → file_part_bytes l r (placed_file l at f) ≡ copy_entries_before r l f ++ (flat_map (section_given r l) (placed_sections l f at f.sections) ++ entries_after r l f)
own_parts l role.RelaDynRelative at f a = entries_joined l (processed_sections l (placed_file l at f)) ∙ processed_given (section_entry_bytes l) l (placed_file l at f)
own_parts l role.RelaDynGeneral at f a = generals_are l (placed_file l at f) ∙ ap (λ (ys : List ℕ). flat_map (copy_bytes l) (copies_of f) ++ ys) (processed_given (section_general_bytes l) l (placed_file l at f))
own_parts l role.RelrDyn at f a = words_joined l (placed_file l at f).sections ∙ sym (append-nil (flat_map (section_word_bytes l) (placed_file l at f).sections))
own_parts l role.Raw at f a = cc
own_parts l role.FileHeader at f a = cc
own_parts l role.ProgramHeaders at f a = cc
own_parts l role.SectionHeaders at f a = cc
own_parts l role.Shstrtab at f a = cc
own_parts l role.Got at f a = cc
own_parts l role.GotRelr at f a = cc
own_parts l role.PltGot at f a = cc
own_parts l role.RelaPlt at f a = cc
own_parts l role.Dynsym at f a = cc
own_parts l role.Dynstr at f a = cc
own_parts l role.GnuVersion at f a = cc
own_parts l role.GnuVersionD at f a = cc
own_parts l role.GnuVersionR at f a = cc
own_parts l role.SysvHash at f a = cc
own_parts l role.GnuHash at f a = cc
own_parts l role.EhFrame at f a = cc
own_parts l role.EhFrameHdr at f a = cc
own_parts l role.Dynamic at f a = cc
own_parts l role.SymtabLocal at f a = cc
own_parts l role.SymtabGlobal at f a = cc
own_parts l role.SymtabShndxLocal at f a = cc
own_parts l role.SymtabShndxGlobal at f a = cc
own_parts l role.Strtab at f a = cc
own_parts l role.Interp at f a = cc
own_parts l role.BuildId at f a = cc
own_parts l role.Property at f a = cc

pub own_joined : (l : Layout) (r : Role) (at : ℕ) (f : File) (old one two three : List ℕ) → is_applied r ≡ true → one ≡ old ++ copy_entries_before r l f → two ≡ one ++ flat_map (section_given r l) (placed_sections l f at f.sections) → three ≡ two ++ entries_after r l f → three ≡ old ++ file_part_bytes l r (placed_file l at f)
own_joined l r at f old one two three applied a b c =
    let ahead = copy_entries_before r l f in
    let own = flat_map (section_given r l) (placed_sections l f at f.sections) in
    let last = entries_after r l f in
    c ∙ ap (λ (ys : List ℕ). ys ++ last) (b ∙ ap (λ (ys : List ℕ). ys ++ own) a)
    ∙ append_assoc (old ++ ahead) own last ∙ append_assoc old ahead (own ++ last)
    ∙ ap (λ (ys : List ℕ). old ++ ys) (sym (own_parts l r at f applied))

-- all that a file gives
pub file_given : (l : Layout) (r : Role) (at : ℕ) (f : File) (old one two three : List ℕ) → one ≡ old ++ front_of l r f → two ≡ one ++ file_part_bytes l r (placed_file l at f) → three ≡ two ++ slot_bytes l r f → three ≡ old ++ file_content l r (placed_file l at f)
file_given l r at f old one two three a b c =
    let front = front_of l r f in
    let own = file_part_bytes l r (placed_file l at f) in
    let slots = slot_bytes l r f in
    c ∙ ap (λ (ys : List ℕ). ys ++ slots) (b ∙ ap (λ (ys : List ℕ). ys ++ own) a ∙ append_assoc old front own)
    ∙ append_assoc old (front ++ own) slots
    ∙ ap (λ (ys : List ℕ). old ++ (front ++ own ++ ys)) (sym (slot_bytes-placed_file l r at f))
