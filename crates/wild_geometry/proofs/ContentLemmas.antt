-- How long it is what files and groups give to the parts.
use Rattle.wild_geometry.proofs.Common.{◌≡◌, ℕ, ◌+◌, ◌*◌, inl, inr, Bool, true, false, if◌then◌else◌, List, [], ◌∷◌, ◌++◌, length, map, get_or, None, flat_map, refl, ap, arith, Option, Some, option_map, option_to_list, cases_Bool, length-append, length-map, dynamic_entry_size, dynamic_bytes, InputRelocation, InputSection, Role, File, Group, Layout, dynamic_count, needed_entries, placed_file, placed_files, of_last_file, processed_sections, total, bytes_if_last, share, has_last, group_share, is_prelude, is_epilogue, role_place, unique_table, dynamic_room, file_content, content, slot_bytes, header_bytes}
use Rattle.wild_words.proofs.Basics.{length-if, nil_if, flat_map-none}
use Rattle.wild_records.specs.SymtabEntry.{symtab_entry_size}
use Rattle.wild_relr.proofs.SpellLemmas.{length-word_bytes}
use Rattle.wild_table_formats.proofs.EntryLemmas.{length-rela_bytes}
use Rattle.wild_table_formats.specs.DynamicSection.{entries_bytes}
use Rattle.wild_table_formats.proofs.DynamicLemmas.{length_entries}
use Rattle.wild_table_formats.specs.DynamicEntries.{group_symbols}
use Rattle.wild_table_formats.proofs.HeaderLengths.{lengths_of_headers}
use Rattle.wild_table_formats.proofs.StringLemmas.{length-string_bytes}
use Rattle.wild_table_formats.proofs.SymbolLemmas.{length-symbol_bytes}
use Rattle.wild_table_formats.proofs.SymtabLemmas.{length-long_indexes, length-index_bytes, length-file_side, length-table_entries}
use Rattle.wild_table_formats.specs.TableLaws.{side_count}
use Rattle.wild_table_formats.proofs.VersionRooms.{length-symbol_versions, length-file_definitions, length-group_needs}
use Rattle.wild_types.specs.declared.part.Role.TheVariants as role
use Rattle.wild_needs.specs.DynamicStrings.{file_strings, needed_count}
use Rattle.wild_types.specs.Lookups.{may_have_relative}
use Rattle.wild_needs.specs.Entries.{rela_place, rela_places, words_of, entry_count, sorted_words, dynamic_relocations, general_count}
use Rattle.wild_placement.proofs.PlacedFiles.{ReadsNoSection, placed_files_total, All-placed_files}
use Rattle.wild_types.specs.FileSymbols.{copies_of}
use Rattle.wild_needs.specs.Needs.{bytes_per_image, dynsym_count, build_id_room, properties_room, file_table_bytes, first_share, last_share}
use Rattle.wild_needs.specs.TableSymbols.{TableSymbol, file_items, side, null_count, has_long, local_count, global_count, table_strings}
use Rattle.wild_needs.specs.Versions.{needs_room}
use Rattle.wild_table_formats.specs.TableEntries.{file_table, table_entries, long_indexes, index_bytes}
use Rattle.wild_needs.specs.SlotShares.{relr_got_share}
use Rattle.wild_needs.proofs.DynamicLemmas.{length_needed_entries}
use Rattle.wild_layout.specs.Content.{file_part_bytes, dynamic_of, last_words, group_bytes}
use Rattle.wild_layout.specs.Notes.{build_id_note, property_note}
use Rattle.wild_layout.specs.DynamicRelocations.{dynamic_relocation, section_generals, copy_entry, file_generals}
use Rattle.wild_table_formats.specs.GroupTables.{relative_entry}
use Rattle.wild_layout.specs.RelativeRelocations.{relative_value, listed_entry, section_entries, file_entries, file_words}
use Rattle.wild_layout.specs.SlotBytes.{block_bytes}
use Rattle.wild_relr.specs.WriterState.{word_bytes}
use Rattle.wild_geometry.proofs.LastGroupLemmas.{some_if}
use Rattle.wild_geometry.proofs.FrameSections.{HasFrameRooms, placed_frame_rooms, joined_all, frames_length}
use Rattle.wild_geometry.proofs.NoteLengths.{length-build_id, length-properties, length-search_table}
use Rattle.wild_geometry.proofs.SlotLengths.{slot_length, header_length, block_length}
use Rattle.wild_geometry.proofs.SymbolLengths.{length-group_symbols}
use Rattle.wild_geometry.proofs.HashLengths.{sysv_length, gnu_length}

-- ---- sums

pub length_joined : {X : Type 0} (f : X → List ℕ) (xs : List X) → length (flat_map f xs) ≡ total (λ (x : X). length (f x)) xs
length_joined f [] = refl
length_joined f (x ∷ xs) =
    let a = length-append (f x) (flat_map f xs) in
    let b = length_joined f xs in
    omega arith

-- lists joined end to end, whose lengths are these numbers
joined_lengths : {X Y : Type 0} (f : X → List Y) (n : X → ℕ) (xs : List X) → ((x : X) → length (f x) ≡ n x) → length (flat_map f xs) ≡ total n xs
joined_lengths f n [] h = refl
joined_lengths f n (x ∷ xs) h =
    let a = length-append (f x) (flat_map f xs) in
    let b = joined_lengths f n xs h in
    let c = h x in
    omega arith

total_by : {X : Type 0} (f g : X → ℕ) (xs : List X) → ((x : X) → f x ≡ g x) → total f xs ≡ total g xs
total_by f g [] h = refl
total_by f g (x ∷ xs) h =
    let a = h x in
    let b = total_by f g xs h in
    omega arith

total_times : {X : Type 0} (m : ℕ) (f : X → ℕ) (xs : List X) → total (λ (x : X). m * f x) xs ≡ m * total f xs
total_times m f [] = omega arith
total_times m f (x ∷ xs) =
    let a = total_times m f xs in
    omega arith

-- ---- entries

listed_length : (l : Layout) (s : InputSection) (rs : List InputRelocation) → length (flat_map (λ r. option_to_list (listed_entry l s r)) rs) ≡ length (flat_map (λ r. option_to_list (rela_place l s r)) rs)
listed_length l s [] = refl
listed_length l s (r ∷ rs) =
    let a = length-append (option_to_list (listed_entry l s r)) (flat_map (λ q. option_to_list (listed_entry l s q)) rs) in
    let b = length-append (option_to_list (rela_place l s r)) (flat_map (λ q. option_to_list (rela_place l s q)) rs) in
    let c = mapped (rela_place l s r) in
    let d = listed_length l s rs in
    omega arith
  where
    mapped : (o : Option ℕ) → length (option_to_list (option_map (λ place. relative_entry l place (relative_value l r)) o)) ≡ length (option_to_list o)
    mapped None = refl
    mapped (Some x) = refl

section_length : (l : Layout) (s : InputSection) → length (section_entries l s) ≡ length (rela_places l s)
unfolding section_entries rela_places
section_length l s =
    elim (cases_Bool (may_have_relative l s)) [
      | inl t ↦ rw t (listed_length l s s.relocations)
      | inr f ↦ rw f refl
    ]

left_length : (l : Layout) (s : InputSection) → length (section_generals l s) ≡ length (dynamic_relocations l s)
unfolding section_generals
left_length l s = length-map (dynamic_relocations l s) (dynamic_relocation l s.address s.flags)

general_length : (l : Layout) (f : File) → length (file_generals l f) ≡ general_count l f
unfolding file_generals general_count
general_length l f =
    let copies = map (copy_entry l) (copies_of f) in
    let a = length-append copies (flat_map (section_generals l) (processed_sections l f)) in
    let b = length-map (copies_of f) (copy_entry l) in
    let c = joined_lengths (section_generals l) (λ s. length (dynamic_relocations l s)) (processed_sections l f) (left_length l) in
    omega arith

-- ---- what one file gives

-- of a part that is told group by group, and to which no file gives anything by itself
abbrev is_by_group : Role → Bool
is_by_group role.Dynsym = true
is_by_group role.GnuVersionR = true
is_by_group role.Dynamic = true
is_by_group role.SymtabLocal = true
is_by_group role.SymtabGlobal = true
is_by_group other = false

-- the longer section indexes of a file, where a part has them
indexes_length : (asked : Bool) (l : Layout) (local : Bool) (f : File) → length (if asked then index_bytes (long_indexes local (file_table l f)) else []) ≡ (if asked then 4 * side_count local l f else 0)
indexes_length true l local f =
    let a = length-index_bytes (long_indexes local (file_table l f)) in
    let b = length-long_indexes local (file_table l f) in
    let c = length-file_side local l f in
    omega arith
indexes_length false l local f = refl

-- what the last file has
last_length : (f : File) (bytes : List ℕ) (n : ℕ) → length bytes ≡ n → length (of_last_file f bytes) ≡ bytes_if_last f.role n
last_length f bytes n h = length-if (is_epilogue f.role) bytes n h

own_length : (l : Layout) (r : Role) (f : File) → is_by_group r ≡ false → HasFrameRooms l f → length (file_part_bytes l r f) ≡ file_table_bytes l r f
own_length l role.RelaDynRelative f n h =
    let a = length-rela_bytes (file_entries l f) in
    let b : length (file_entries l f) ≡ entry_count l f = joined_lengths (section_entries l) (λ s. length (rela_places l s)) (processed_sections l f) (section_length l) in
    omega arith
own_length l role.RelaDynGeneral f n h =
    let a = length-rela_bytes (file_generals l f) in
    let b = general_length l f in
    omega arith
own_length l role.RelrDyn f n h =
    let a = length-word_bytes (file_words l f) in
    let b = joined_lengths (words_of l) (λ s. length (words_of l s)) f.sections (λ s. refl) in
    omega arith
own_length l role.Dynstr f n h = length-string_bytes (file_strings l f)
own_length l role.GnuVersion f n h = length-symbol_versions l f
own_length l role.GnuVersionD f n h = length-file_definitions l f
own_length l role.SysvHash f n h = sysv_length l f
own_length l role.GnuHash f n h = gnu_length l f
own_length l role.SymtabShndxLocal f n h = indexes_length (has_long l role.SymtabShndxLocal) l true f
own_length l role.SymtabShndxGlobal f n h = indexes_length (has_long l role.SymtabShndxGlobal) l false f
own_length l role.Strtab f n h = length-string_bytes (table_strings l f)
own_length l role.Dynsym f n h = cc
own_length l role.GnuVersionR f n h = cc
own_length l role.Dynamic f n h = cc
own_length l role.SymtabLocal f n h = cc
own_length l role.SymtabGlobal f n h = cc
own_length l role.EhFrame f n h = frames_length l f h
own_length l role.BuildId f n h = last_length f (build_id_note l.build_id) (build_id_room l.build_id) (length-build_id l.build_id)
own_length l role.Property f n h = last_length f (property_note l.properties) (properties_room l.properties) (length-properties l.properties)
own_length l other f n h = refl

pub length-unique_table : (l : Layout) (r : Role) → length (unique_table l r) ≡ bytes_per_image l r
length-unique_table l role.FileHeader = (lengths_of_headers l).file_header
length-unique_table l role.ProgramHeaders = (lengths_of_headers l).program_headers
length-unique_table l role.SectionHeaders = (lengths_of_headers l).section_headers
length-unique_table l role.Shstrtab = (lengths_of_headers l).names
length-unique_table l role.EhFrameHdr = length-search_table l
length-unique_table l role.Interp = refl
length-unique_table l other = refl

first_length : (l : Layout) (r : Role) → length (unique_table l r ++ header_bytes l r) ≡ first_share l r
first_length l r =
    let a = length-append (unique_table l r) (header_bytes l r) in
    let b = length-unique_table l r in
    let c = header_length l r in
    omega arith

file_length : (l : Layout) (r : Role) (f : File) → is_by_group r ≡ false → HasFrameRooms l f → length (file_content l r f) ≡ share l r f
file_length l r f n h =
    let first = if is_prelude f.role then unique_table l r ++ header_bytes l r else [] in
    let a = length-append first (file_part_bytes l r f) in
    let b = length-if (is_prelude f.role) (unique_table l r ++ header_bytes l r) (first_share l r) (first_length l r) in
    let c = length-append (first ++ file_part_bytes l r f) (slot_bytes l r f) in
    let d = own_length l r f n h in
    let e = slot_length l r f in
    omega arith

-- ---- what a group gives

-- the words of the sorted sections, in the group of the last file
words_length : (l : Layout) (g : Group) → length (last_words l g) ≡ last_share l role.RelrDyn g
words_length l g = length-if (has_last g) (word_bytes (sorted_words l)) (8 * length (sorted_words l)) (length-word_bytes (sorted_words l))

group_length : (l : Layout) (r : Role) (g : Group) → is_by_group r ≡ false → length (group_bytes l r g) ≡ relr_got_share l r g + last_share l r g
group_length l role.Dynsym g n = cc
group_length l role.GnuVersionR g n = cc
group_length l role.Dynamic g n = cc
group_length l role.SymtabLocal g n = cc
group_length l role.SymtabGlobal g n = cc
group_length l role.RelrDyn g n =
    let a = length-append (block_bytes l role.RelrDyn g) (last_words l g) in
    let b = block_length l role.RelrDyn g in
    let c = words_length l g in
    omega arith
group_length l other g n = refl

by_file_length : (l : Layout) (r : Role) (g : Group) → is_by_group r ≡ false → length (content l r g) ≡ group_share l r g
by_file_length l r g n =
    let a = length-append (flat_map (file_content l r) (placed_files l g)) (group_bytes l r g) in
    let b = joined_all (file_content l r) (share l r) (placed_files l g) (All-placed_files l (λ f. length (file_content l r f) ≡ share l r f) g (λ i f m at. file_length l r (placed_file l at (get_or g.files i f)) n (placed_frame_rooms l (get_or g.files i f) at))) in
    let c = group_length l r g n in
    omega arith

pub zero_if : (b : Bool) → some_if 0 b ≡ 0
zero_if true = refl
zero_if false = refl

-- what is told by the group, no file gives
no_content : (l : Layout) (r : Role) (f : File) → is_by_group r ≡ true → file_content l r f ≡ []
no_content l role.Dynsym f n = rw (nil_if (is_prelude f.role)) refl
no_content l role.GnuVersionR f n = rw (nil_if (is_prelude f.role)) refl
no_content l role.Dynamic f n = rw (nil_if (is_prelude f.role)) refl
no_content l role.SymtabLocal f n = rw (nil_if (is_prelude f.role)) refl
no_content l role.SymtabGlobal f n = rw (nil_if (is_prelude f.role)) refl
no_content l other f n = cc

by_group_content : (l : Layout) (r : Role) (g : Group) → is_by_group r ≡ true → content l r g ≡ group_bytes l r g
by_group_content l r g n = rw (flat_map-none (file_content l r) (placed_files l g) (λ f. no_content l r f n)) refl

-- and a file's share of it is its own
own_share : (l : Layout) (r : Role) (f : File) → first_share l r ≡ 0 → length (slot_bytes l r f) ≡ 0 → share l r f ≡ file_table_bytes l r f
own_share l r f first none =
    let a = slot_length l r f in
    let b = zero_if (is_prelude f.role) in
    rw first (omega arith)

pub dynamic_content : (l : Layout) (g : Group) → content l role.Dynamic g ≡ dynamic_of l g
dynamic_content l g = by_group_content l role.Dynamic g refl

-- a group's records of a table, each of so many bytes
records_length : (l : Layout) (r : Role) (g : Group) (n : File → ℕ) → is_by_group r ≡ true → relr_got_share l r g + last_share l r g ≡ 0 → ((f : File) → share l r f ≡ n f) → ReadsNoSection l n → length (group_bytes l r g) ≡ total n g.files → length (content l r g) ≡ group_share l r g
records_length l r g n told none each stays long =
    let a = total_by (share l r) n (placed_files l g) each in
    let b = placed_files_total l n g stays in
    rw (by_group_content l r g told) (omega arith)

symbols_length : (l : Layout) (g : Group) → length (content l role.Dynsym g) ≡ group_share l role.Dynsym g
symbols_length l g =
    let a = length-symbol_bytes (group_symbols l g) in
    let b = length-group_symbols l g in
    let c = total_times 24 (dynsym_count l) g.files in
    records_length l role.Dynsym g (λ (f : File). symtab_entry_size * dynsym_count l f) refl refl (λ f. own_share l role.Dynsym f refl refl) (λ at f. refl) (omega arith)

-- a file's symbols in the table are the same wherever its sections stand
items_stay : (l : Layout) (at : ℕ) (f : File) → file_items l (placed_file l at f) ≡ file_items l f
unfolding file_items
items_stay l at f = refl

locals_stay : (l : Layout) → ReadsNoSection l (λ (f : File). symtab_entry_size * local_count l f)
locals_stay l at f = ap (λ (xs : List TableSymbol). symtab_entry_size * (null_count l f + length (side true xs))) (items_stay l at f)

globals_stay : (l : Layout) → ReadsNoSection l (λ (f : File). symtab_entry_size * global_count l f)
globals_stay l at f = ap (λ (xs : List TableSymbol). symtab_entry_size * length (side false xs)) (items_stay l at f)

locals_length : (l : Layout) (g : Group) → length (content l role.SymtabLocal g) ≡ group_share l role.SymtabLocal g
locals_length l g =
    let a = length-symbol_bytes (table_entries l true g) in
    let b = length-table_entries true l g in
    let c = total_times 24 (local_count l) g.files in
    records_length l role.SymtabLocal g (λ (f : File). symtab_entry_size * local_count l f) refl refl (λ f. own_share l role.SymtabLocal f refl refl) (locals_stay l) (omega arith)

globals_length : (l : Layout) (g : Group) → length (content l role.SymtabGlobal g) ≡ group_share l role.SymtabGlobal g
globals_length l g =
    let a = length-symbol_bytes (table_entries l false g) in
    let b = length-table_entries false l g in
    let c = total_times 24 (global_count l) g.files in
    records_length l role.SymtabGlobal g (λ (f : File). symtab_entry_size * global_count l f) refl refl (λ f. own_share l role.SymtabGlobal f refl refl) (globals_stay l) (omega arith)

needs_length : (l : Layout) (g : Group) → length (content l role.GnuVersionR g) ≡ group_share l role.GnuVersionR g
needs_length l g = records_length l role.GnuVersionR g (needs_room l) refl refl (λ f. own_share l role.GnuVersionR f refl refl) (λ at f. refl) (length-group_needs l g)

-- what a group gives to a part is as long as its share, for every role but that of the dynamic section
pub length-content : (l : Layout) (r : Role) (g : Group) → (role_place r ≡ role_place role.Dynamic → ⊥) → length (content l r g) ≡ group_share l r g
length-content l role.Dynsym g n = symbols_length l g
length-content l role.GnuVersionR g n = needs_length l g
length-content l role.Dynamic g n = absurd (n refl)
length-content l role.SymtabLocal g n = locals_length l g
length-content l role.SymtabGlobal g n = globals_length l g
length-content l other g n = by_file_length l other g refl

-- ---- the dynamic section

pub length-dynamic_content : (l : Layout) (g : Group) → length (content l role.Dynamic g) ≡ dynamic_entry_size * total (needed_count l) g.files + some_if (length (dynamic_bytes l (dynamic_room l))) (has_last g)
length-dynamic_content l g =
    let needed = entries_bytes (needed_entries l g) in
    let a = length-append needed (if has_last g then dynamic_bytes l (dynamic_room l) else []) in
    let b = length_entries (needed_entries l g) in
    let c = length_needed_entries l g in
    let d = length-if (has_last g) (dynamic_bytes l (dynamic_room l)) (length (dynamic_bytes l (dynamic_room l))) refl in
    rw (dynamic_content l g) (omega arith)

pub dynamic_share : (l : Layout) (g : Group) → group_share l role.Dynamic g ≡ dynamic_entry_size * total (needed_count l) g.files + total (λ (f : File). bytes_if_last f.role (dynamic_entry_size * dynamic_count l)) g.files
dynamic_share l g =
    let e = each (placed_files l g) in
    let a = placed_files_total l (needed_count l) g (λ at f. refl) in
    let b = placed_files_total l (λ (f : File). bytes_if_last f.role (dynamic_entry_size * dynamic_count l)) g (λ at f. refl) in
    omega arith
  where
    one : (f : File) → share l role.Dynamic f ≡ dynamic_entry_size * needed_count l f + bytes_if_last f.role (dynamic_entry_size * dynamic_count l)
    one f =
        let a = zero_if (is_prelude f.role) in
        let b = slot_length l role.Dynamic f in
        elim (cases_Bool (is_epilogue f.role)) [ inl t ↦ rw t (omega arith) | inr n ↦ rw n (omega arith) ]

    each : (fs : List File) → total (share l role.Dynamic) fs ≡ dynamic_entry_size * total (needed_count l) fs + total (λ (f : File). bytes_if_last f.role (dynamic_entry_size * dynamic_count l)) fs
    each [] = refl
    each (f ∷ fs) =
        let a = one f in
        let b = each fs in
        omega arith
