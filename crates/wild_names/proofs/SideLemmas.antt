-- The table of all symbols: its local ones in one part, and all others in another.
use Rattle.wild_names.proofs.Common.{placed_files, placed_file, placed_files_same, ◌≡◌, ℕ, ◌+◌, ◌*◌, ◌^◌, ◌<◌, ◌≤◌, inl, inr, ◌==◌, ◌&&◌, Bool, true, false, List, [], ◌∷◌, ◌++◌, length, map, filter, replicate, Option, Some, None, option_to_list, slice_get, flat_map, refl, sym, ap, ◌∙◌, arith, subst, cases_Bool, and_parts, append-nil, length-append, HasBytesAt, spell, flat_map-same, flat_map-flat_map, HasBytesAt-whole, HasBytesAt-front, HasBytesAt-after, nil_if, symtab_entry_fields, SymtabEntry, File, Group, Layout, bool_eq, file_position_fits, later_positions_fit, group_positions_fit, first_misplaced_file, offset_after_string, is_prelude, is_epilogue, total, share, group_share, role_place, has_symtab, same_bool, file_items, section_symbols, entry_at, no_fields, string, string_bytes, symbol_bytes, NamedEntry, is_side, section_entry, named_entry, file_table, group_table, length-string_bytes, length-symbol_bytes, file_content, content, table_bytes, IsLaidOut, TablesStand, bytes, fields_of_entry, side_symbols}
use Rattle.wild_types.specs.declared.part.Role.TheVariants as role
use Rattle.wild_needs.specs.TableSymbols.{table_strings}
use Rattle.wild_table_formats.specs.TableEntries.{name_at, offset_after_name, side_entries, table_entries}
use Rattle.wild_table_formats.specs.TableLaws.{names_of, NamesOfGroups, NameIsAt}
use Rattle.wild_names.specs.Laws.{EntryFields, HasEntryFields, IsNamedIfAny, TableSymbolsAreInParts, table_role}
use Rattle.wild_names.proofs.BesideLemmas.{Belong, HasBeside, belong-length, belongs_at}
use Rattle.wild_names.proofs.ImageLemmas.{entry_stands, named, none_joined, null_bytes}
use Rattle.wild_names.proofs.RunLemmas.{groups_along}

-- ---- one group

-- the entry says that of the symbol, and tells its name
record Tells (strings : List ℕ) (e : SymtabEntry) (n : EntryFields) : Type 0 where
  at : ℕ
  is : e ≡ entry_at at n.fields
  name : NameIsAt strings at n.name

-- an entry in front of those that belong
entry_belongs : (local : Bool) (whole : List ℕ) (at : ℕ) (n : NamedEntry) (ns : List NamedEntry) → NameIsAt whole (name_at at n.name) n.name → Belong (Tells whole) (side_entries local (offset_after_name at n.name) ns) (map fields_of_entry (filter (is_side local) ns)) → Belong (Tells whole) (side_entries local at (n ∷ ns)) (map fields_of_entry (filter (is_side local) (n ∷ ns)))
unfolding side_entries
entry_belongs local whole at n ns tells rest =
    elim (cases_Bool (is_side local n)) [
      | inl t ↦ rw t (record { first = record { at = name_at at n.name; is = refl; name = tells }; rest = rest })
      | inr f ↦ rw f rest
    ]

-- those of a side, where its names stand
abbrev SideBelongs : Bool → List ℕ → List NamedEntry → Type 0
SideBelongs local whole ns = (at : ℕ) → HasBytesAt whole at (string_bytes (names_of ns)) → Belong (Tells whole) (side_entries local at ns) (map fields_of_entry (filter (is_side local) ns))

side_step : (local : Bool) (whole : List ℕ) → length whole < 2 ^ 32 → (n : NamedEntry) (ns : List NamedEntry) → SideBelongs local whole ns → SideBelongs local whole (n ∷ ns)
side_step local whole small n ns again = λ at s. by at n.name refl s
  where
    with_name : (at : ℕ) (o : Option (List ℕ)) → n.name ≡ o → NameIsAt whole (name_at at o) o → HasBytesAt whole (offset_after_name at o) (string_bytes (names_of ns)) → Belong (Tells whole) (side_entries local at (n ∷ ns)) (map fields_of_entry (filter (is_side local) (n ∷ ns)))
    with_name at o e tells later =
        entry_belongs local whole at n ns (subst (λ (x : Option (List ℕ)). NameIsAt whole (name_at at x) x) (sym e) tells)
        (again (offset_after_name at n.name) (subst (λ (x : Option (List ℕ)). HasBytesAt whole (offset_after_name at x) (string_bytes (names_of ns))) (sym e) later))

    by : (at : ℕ) (o : Option (List ℕ)) → n.name ≡ o → HasBytesAt whole at (string_bytes (option_to_list o ++ names_of ns)) → Belong (Tells whole) (side_entries local at (n ∷ ns)) (map fields_of_entry (filter (is_side local) (n ∷ ns)))
    by at None e s = with_name at None e refl s
    by at (Some name) e s =
        let here = HasBytesAt-front whole (string name) (string_bytes (names_of ns)) at s in
        let later = HasBytesAt-after whole (string name) (string_bytes (names_of ns)) at (length (string name)) refl s in
        let long = length-append name (0 ∷ []) in
        let ends = here.fits in
        let is : at + length (string name) ≡ offset_after_string at name = omega arith in
        with_name at (Some name) e here (subst (λ (m : ℕ). HasBytesAt whole m (string_bytes (names_of ns))) is later)

-- the entries of a side belong to its symbols, where the names of all stand
side_belongs : (local : Bool) (whole : List ℕ) → length whole < 2 ^ 32 → (ns : List NamedEntry) → SideBelongs local whole ns
unfolding side_entries
side_belongs local whole small [] = λ at s. tt
side_belongs local whole small (n ∷ ns) = side_step local whole small n ns (side_belongs local whole small ns)

-- ---- the strings

file_text : (l : Layout) (f : File) → file_content l role.Strtab f ≡ string_bytes (table_strings l f)
file_text l f = rw (nil_if (is_prelude f.role)) (append-nil (string_bytes (table_strings l f)))

-- a group's strings are the names of its symbols
texts_of_placed : (l : Layout) (at : ℕ) (f : File) → string_bytes (table_strings l (placed_file l at f)) ≡ string_bytes (table_strings l f)
unfolding table_strings file_items
texts_of_placed l at f = refl

group_text : (l : Layout) (g : Group) → NamesOfGroups → content l role.Strtab g ≡ string_bytes (names_of (group_table l g))
group_text l g names =
    append-nil (flat_map (file_content l role.Strtab) (placed_files l g))
    ∙ flat_map-same (file_content l role.Strtab) (λ (f : File). string_bytes (table_strings l f)) (placed_files l g) (file_text l)
    ∙ placed_files_same (λ (f : File). string_bytes (table_strings l f)) l g (texts_of_placed l)
    ∙ sym (flat_map-flat_map string (table_strings l) g.files)
    ∙ ap string_bytes (sym (names l g))

files_fit : (l : Layout) (fs : List File) → length (flat_map (file_content l role.Strtab) fs) ≤ total (share l role.Strtab) fs
files_fit l [] = omega arith
files_fit l (f ∷ fs) =
    let a = length-append (file_content l role.Strtab f) (flat_map (file_content l role.Strtab) fs) in
    let b = ap (λ (bs : List ℕ). length bs) (file_text l f) in
    let c = length-string_bytes (table_strings l f) in
    let d = files_fit l fs in
    omega arith

groups_fit : (l : Layout) (gs : List Group) → length (flat_map (content l role.Strtab) gs) ≤ total (group_share l role.Strtab) gs
groups_fit l [] = omega arith
groups_fit l (g ∷ gs) =
    let a = length-append (content l role.Strtab g) (flat_map (content l role.Strtab) gs) in
    let b = ap (λ (bs : List ℕ). length bs) (append-nil (flat_map (file_content l role.Strtab) (placed_files l g))) in
    let c = files_fit l (placed_files l g) in
    let d = groups_fit l gs in
    omega arith

text_is_short : (l : Layout) → IsLaidOut l → length (table_bytes l role.Strtab) < 2 ^ 32
text_is_short l laid = let a = groups_fit l l.groups in let b = laid.table_strings in omega arith

-- ---- all groups

abbrev all_entries : Layout → Bool → List SymtabEntry
all_entries l local = flat_map (table_entries l local) l.groups

sides_belong : (l : Layout) (local : Bool) → NamesOfGroups → IsLaidOut l → Belong (Tells (table_bytes l role.Strtab)) (all_entries l local) (side_symbols l local)
unfolding table_entries
sides_belong l local names laid =
    let whole = table_bytes l role.Strtab in
    let small = text_is_short l laid in
    groups_along (Tells whole) (table_entries l local) (λ (g : Group). map fields_of_entry (filter (is_side local) (group_table l g))) l role.Strtab (λ (g : Group). g.strtab_start) whole
    (λ g s. side_belongs local whole small (group_table l g) g.strtab_start (subst (λ (bs : List ℕ). HasBytesAt whole g.strtab_start bs) (group_text l g names) s)) 0 l.groups (λ j g found. let e = laid.table_starts j g found in omega arith) (HasBytesAt-whole whole)

-- ---- their bytes

no_table : (l : Layout) (local : Bool) (f : File) → file_content l (table_role local) f ≡ []
no_table l true f = rw (nil_if (is_prelude f.role)) refl
no_table l false f = rw (nil_if (is_prelude f.role)) refl

entries_given : (l : Layout) (local : Bool) (g : Group) → content l (table_role local) g ≡ symbol_bytes (table_entries l local g)
entries_given l true g = rw (none_joined (file_content l role.SymtabLocal) (placed_files l g) (no_table l true)) refl
entries_given l false g = rw (none_joined (file_content l role.SymtabGlobal) (placed_files l g) (no_table l false)) refl

entries_table : (l : Layout) (local : Bool) → symbol_bytes (all_entries l local) ≡ table_bytes l (table_role local)
entries_table l local = flat_map-flat_map (λ (e : SymtabEntry). spell (symtab_entry_fields e)) (table_entries l local) l.groups ∙ sym (flat_map-same (content l (table_role local)) (λ (g : Group). symbol_bytes (table_entries l local g)) l.groups (entries_given l local))

has_place : (local : Bool) → role_place (table_role local) ≡ 0 → ⊥
has_place true e = absurd (omega arith)
has_place false e = absurd (omega arith)

-- ---- the first entry

-- the files of the first group give the entry of no symbol first
first_of_files : (l : Layout) (last : Bool) (fs : List File) → has_symtab l ≡ true → group_positions_fit true last fs ≡ true → (rest : List SymtabEntry) × (side_entries true 0 (flat_map (file_table l) fs) ≡ entry_at 0 no_fields ∷ rest)
unfolding side_entries
first_of_files l last [] has h = cc
first_of_files l last (f ∷ fs) has h =
    let a = and_parts (file_position_fits true (last && length fs == 0) f) (later_positions_fit last fs) h in
    let b = same_bool (is_prelude f.role) true (and_parts (bool_eq (is_prelude f.role) true) (bool_eq (is_epilogue f.role) (last && length fs == 0)) a.0).0 in
    let more = (map section_entry (section_symbols l) ++ map (named_entry l f) (file_items l f)) ++ flat_map (file_table l) fs in
    (side_entries true (offset_after_string 0 []) more, rw (has, b) refl)

first_of_groups : (l : Layout) (gs : List Group) → has_symtab l ≡ true → 1 ≤ length gs → first_misplaced_file true 0 gs ≡ None → ((g : Group) → slice_get gs 0 ≡ Some g → g.strtab_start ≡ 0) → (rest : List SymtabEntry) × (flat_map (table_entries l true) gs ≡ entry_at 0 no_fields ∷ rest)
unfolding table_entries group_table
first_of_groups l [] has some h start = absurd (omega (arith, some))
first_of_groups l (g ∷ gs) has some h start =
    elim (cases_Bool (group_positions_fit true (length gs == 0) g.files)) [
      | inl t ↦
          (let first = first_of_files l (length gs == 0) g.files has t in
          let own : side_entries true g.strtab_start (flat_map (file_table l) g.files) ≡ entry_at 0 no_fields ∷ first.0 = subst (λ (n : ℕ). side_entries true n (flat_map (file_table l) g.files) ≡ entry_at 0 no_fields ∷ first.0) (sym (start g refl)) first.1 in
          (first.0 ++ flat_map (table_entries l true) gs, ap (λ (es : List SymtabEntry). es ++ flat_map (table_entries l true) gs) own))
      | inr n ↦ cc (rw n at h)
    ]

first_entry : (l : Layout) → IsLaidOut l → has_symtab l ≡ true → slice_get (all_entries l true) 0 ≡ Some (entry_at 0 no_fields)
first_entry l laid has =
    let first = first_of_groups l l.groups has laid.some_group laid.files (λ g found. laid.table_starts 0 g found) in
    ap (λ (es : List SymtabEntry). slice_get es 0) first.1

-- ---- the image

pub table_stands : TablesStand → NamesOfGroups → TableSymbolsAreInParts
table_stands stand names l laid local table strings found with_strings written text_written =
    let text = table_bytes l role.Strtab in
    let all = sides_belong l local names laid in
    record {
      whole = whole_table (belong-length (Tells text) (all_entries l local) (side_symbols l local) all);
      null = λ is has. null_stands is (subst (λ (b : Bool). slice_get (all_entries l b) 0 ≡ Some (entry_at 0 no_fields)) (sym is) (first_entry l laid has));
      each = λ k n h. one k n (belongs_at (Tells text) (all_entries l local) (side_symbols l local) k n all h);
    }
  where
    null_stands : local ≡ true → slice_get (all_entries l local) 0 ≡ Some (entry_at 0 no_fields) → HasBytesAt (bytes l) table.offset (replicate 24 0)
    null_stands is e =
        let here = entry_stands stand l laid (table_role local) (has_place local) (all_entries l local) (entries_table l local) table found written 0 (entry_at 0 no_fields) e in
        let z : table.offset + 24 * 0 ≡ table.offset = omega arith in
        subst (λ (n : ℕ). HasBytesAt (bytes l) n (replicate 24 0)) z (subst (λ (bs : List ℕ). HasBytesAt (bytes l) (table.offset + 24 * 0) bs) null_bytes here)

    whole_table : length (all_entries l local) ≡ length (side_symbols l local) → table.size ≡ 24 * length (side_symbols l local)
    whole_table n =
        let size = ((laid.roles (table_role local) (has_place local)).there table found).size in
        let own : length (table_bytes l (table_role local)) ≡ 24 * length (all_entries l local) = subst (λ (bs : List ℕ). length bs ≡ 24 * length (all_entries l local)) (entries_table l local) (length-symbol_bytes (all_entries l local)) in
        omega arith

    name_there : (at : ℕ) (o : Option (List ℕ)) → NameIsAt (table_bytes l role.Strtab) at o → IsNamedIfAny l strings at o
    name_there at None h = h
    name_there at (Some name) h = named stand l laid role.Strtab (λ e. absurd (omega arith)) (text_is_short l laid) strings with_strings text_written at name h

    one : (k : ℕ) (n : EntryFields) → HasBeside (Tells (table_bytes l role.Strtab)) (all_entries l local) k n → HasEntryFields l table strings k n
    one k n b =
        let told = b.belongs in
        let here = entry_stands stand l laid (table_role local) (has_place local) (all_entries l local) (entries_table l local) table found written k b.item b.is in
        record {
          at = told.at;
          entry = subst (λ (e : SymtabEntry). HasBytesAt (bytes l) (table.offset + 24 * k) (spell (symtab_entry_fields e))) told.is here;
          name = name_there told.at n.name told.name;
        }
