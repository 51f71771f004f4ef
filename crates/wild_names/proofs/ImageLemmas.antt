-- Both tables in the image: each entry stands where it is counted, and each name where its entry tells.
use Rattle.wild_names.proofs.Common.{placed_files, ◌≡◌, ℕ, suc, ◌+◌, ◌*◌, ◌^◌, ◌<◌, ◌≤◌, true, false, List, [], ◌∷◌, ◌++◌, length, map, replicate, option_map, Some, None, slice_get, flat_map, refl, sym, ap, ◌∙◌, arith, subst, length-append, length-map, slice_get-map, HasBytesAt, word, spell, HasBytesAt-inner, flat_map-same, flat_map-flat_map, nil_if, SymtabEntry, DynamicEntry, symtab_entry_fields, Part, Role, File, Group, Layout, is_prelude, needs_dynamic, role_place, part_with, string, symbol_bytes, NamedFields, entry_at, no_fields, group_symbols, length-symbol_bytes, file_content, content, table_bytes, all_needed, IsLaidOut, TablesStand, bytes, HasEntry, table_symbols}
use Rattle.wild_words.proofs.RecordLemmas.{HasBytesAt-left}
use Rattle.wild_records.specs.Dynamic.{dynamic_entry_fields}
use Rattle.wild_types.specs.declared.part.Role.TheVariants as role
use Rattle.wild_types.specs.Lookups.{is_header_only_at}
use Rattle.wild_table_formats.proofs.SymbolLemmas.{length-symbol}
use Rattle.wild_table_formats.proofs.DynamicLemmas.{length_entry}
use Rattle.wild_table_formats.specs.DynamicSection.{entries_bytes, dynamic_bytes}
use Rattle.wild_layout.specs.Content.{dynamic_room}
use Rattle.wild_names.specs.Laws.{IsNamed, HasLibrary, SymbolsAreInTable, LibrariesAreNamed, libraries}
use Rattle.wild_names.proofs.BesideLemmas.{Belong, HasBeside, belong-length, belongs_at, HasBytesAt-record}
use Rattle.wild_names.proofs.LibraryLemmas.{NamesLibrary, libraries_belong}
use Rattle.wild_names.proofs.OrderLemmas.{items_of_all}
use Rattle.wild_names.proofs.RunLemmas.{strings_are_short}
use Rattle.wild_names.proofs.SymbolLemmas.{IsEntryOf, Tells, symbols_belong}

-- bytes in the table of a role stand in the image
pub in_image : TablesStand → (l : Layout) → IsLaidOut l → (r : Role) → (role_place r ≡ 0 → ⊥) → (p : Part) → part_with r l.parts ≡ Some p → is_header_only_at l p.section ≡ false → (k : ℕ) (part : List ℕ) → 1 ≤ length part → HasBytesAt (table_bytes l r) k part → HasBytesAt (bytes l) (p.offset + k) part
in_image stand l laid r loaded p found written k part some s =
    let size = ((laid.roles r loaded).there p found).size in
    let ends = s.fits in
    HasBytesAt-inner (bytes l) (table_bytes l r) part p.offset k (stand l laid r loaded p found written (omega arith)) s

-- so do strings, each with its zero
pub named : TablesStand → (l : Layout) → IsLaidOut l → (r : Role) → (role_place r ≡ 0 → ⊥) → length (table_bytes l r) < 2 ^ 32 → (strings : Part) → part_with r l.parts ≡ Some strings → is_header_only_at l strings.section ≡ false → (at : ℕ) (name : List ℕ) → HasBytesAt (table_bytes l r) at (string name) → IsNamed l strings at name
named stand l laid r loaded short strings found written at name s =
    let size = ((laid.roles r loaded).there strings found).size in
    let long = length-append name (0 ∷ []) in
    let ends = s.fits in
    record { small = omega arith; within = omega arith; stands = in_image stand l laid r loaded strings found written at (string name) (omega arith) s }

dynamic_named : TablesStand → (l : Layout) → IsLaidOut l → (strings : Part) → part_with role.Dynstr l.parts ≡ Some strings → is_header_only_at l strings.section ≡ false → (at : ℕ) (name : List ℕ) → HasBytesAt (table_bytes l role.Dynstr) at (string name) → IsNamed l strings at name
dynamic_named stand l laid = named stand l laid role.Dynstr (λ e. absurd (omega arith)) (strings_are_short l laid)

-- ---- symbols

pub null_bytes : spell (symtab_entry_fields (entry_at 0 no_fields)) ≡ replicate 24 0
unfolding symtab_entry_fields word
null_bytes = refl

pub none_joined : (f : File → List ℕ) (fs : List File) → ((x : File) → f x ≡ []) → flat_map f fs ≡ []
none_joined f [] h = refl
none_joined f (x ∷ fs) h = rw (h x) (none_joined f fs h)

no_symbols : (l : Layout) (f : File) → file_content l role.Dynsym f ≡ []
no_symbols l f = rw (nil_if (is_prelude f.role)) refl

symbols_given : (l : Layout) (g : Group) → content l role.Dynsym g ≡ symbol_bytes (group_symbols l g)
symbols_given l g = rw (none_joined (file_content l role.Dynsym) (placed_files l g) (no_symbols l)) refl

abbrev pub all_symbols : Layout → List SymtabEntry
all_symbols l = flat_map (group_symbols l) l.groups

pub symbol_table : (l : Layout) → symbol_bytes (all_symbols l) ≡ table_bytes l role.Dynsym
symbol_table l = flat_map-flat_map (λ (e : SymtabEntry). spell (symtab_entry_fields e)) (group_symbols l) l.groups ∙ sym (flat_map-same (content l role.Dynsym) (λ (g : Group). symbol_bytes (group_symbols l g)) l.groups (symbols_given l))

-- entry k of a table of symbols
pub entry_stands : TablesStand → (l : Layout) → IsLaidOut l → (r : Role) → (role_place r ≡ 0 → ⊥) → (es : List SymtabEntry) → symbol_bytes es ≡ table_bytes l r → (table : Part) → part_with r l.parts ≡ Some table → is_header_only_at l table.section ≡ false → (k : ℕ) (e : SymtabEntry) → slice_get es k ≡ Some e
    → HasBytesAt (bytes l) (table.offset + 24 * k) (spell (symtab_entry_fields e))
entry_stands stand l laid r loaded es given table found written k e h =
    let long = length-symbol e in
    let here = HasBytesAt-record (λ (x : SymtabEntry). spell (symtab_entry_fields x)) 24 length-symbol es k e h in
    in_image stand l laid r loaded table found written (24 * k) (spell (symtab_entry_fields e)) (omega arith) (subst (λ (bs : List ℕ). HasBytesAt bs (24 * k) (spell (symtab_entry_fields e))) given here)

dynamic_entry_stands : TablesStand → (l : Layout) → IsLaidOut l → (table : Part) → part_with role.Dynsym l.parts ≡ Some table → is_header_only_at l table.section ≡ false → (k : ℕ) (e : SymtabEntry) → slice_get (all_symbols l) k ≡ Some e → HasBytesAt (bytes l) (table.offset + 24 * k) (spell (symtab_entry_fields e))
dynamic_entry_stands stand l laid = entry_stands stand l laid role.Dynsym (λ z. absurd (omega arith)) (all_symbols l) (symbol_table l)

pub symbols_stand : TablesStand → SymbolsAreInTable
symbols_stand stand l laid needs table strings found with_strings written text_written =
    let names = table_bytes l role.Dynstr in
    let items = None ∷ map Some (table_symbols l) in
    let all = subst (Belong (IsEntryOf names) (all_symbols l)) (items_of_all l laid.some_group laid.files) (symbols_belong l laid needs) in
    record {
      whole = whole_table (belong-length (IsEntryOf names) (all_symbols l) items all);
      null = null_stands (belongs_at (IsEntryOf names) (all_symbols l) items 0 None all refl);
      each = λ k n h. one k n (belongs_at (IsEntryOf names) (all_symbols l) items (suc k) (Some n) all (item k n h));
    }
  where
    whole_table : length (all_symbols l) ≡ suc (length (map Some (table_symbols l))) → table.size ≡ 24 * (length (table_symbols l) + 1)
    whole_table n =
        let size = ((laid.roles role.Dynsym (λ e. absurd (omega arith))).there table found).size in
        let own : length (table_bytes l role.Dynsym) ≡ 24 * length (all_symbols l) = subst (λ (bs : List ℕ). length bs ≡ 24 * length (all_symbols l)) (symbol_table l) (length-symbol_bytes (all_symbols l)) in
        let items = length-map (table_symbols l) Some in
        omega arith

    null_stands : HasBeside (IsEntryOf (table_bytes l role.Dynstr)) (all_symbols l) 0 None → HasBytesAt (bytes l) table.offset (replicate 24 0)
    null_stands b =
        let z : table.offset + 24 * 0 ≡ table.offset = omega arith in
        let same : spell (symtab_entry_fields b.item) ≡ replicate 24 0 = ap (λ (e : SymtabEntry). spell (symtab_entry_fields e)) b.belongs ∙ null_bytes in
        subst (λ (n : ℕ). HasBytesAt (bytes l) n (replicate 24 0)) z (subst (λ (bs : List ℕ). HasBytesAt (bytes l) (table.offset + 24 * 0) bs) same (dynamic_entry_stands stand l laid table found written 0 b.item b.is))

    item : (k : ℕ) (n : NamedFields) → slice_get (table_symbols l) k ≡ Some n → slice_get (map Some (table_symbols l)) k ≡ Some (Some n)
    item k n h = slice_get-map Some (table_symbols l) k ∙ ap (option_map Some) h

    one : (k : ℕ) (n : NamedFields) → HasBeside (IsEntryOf (table_bytes l role.Dynstr)) (all_symbols l) (suc k) (Some n) → HasEntry l table strings (k + 1) n
    one k n b =
        let told : Tells (table_bytes l role.Dynstr) b.item n = b.belongs in
        let z : table.offset + 24 * suc k ≡ table.offset + 24 * (k + 1) = omega arith in
        let here = subst (λ (m : ℕ). HasBytesAt (bytes l) m (spell (symtab_entry_fields b.item))) z (dynamic_entry_stands stand l laid table found written (suc k) b.item b.is) in
        record {
          at = told.at;
          entry = subst (λ (e : SymtabEntry). HasBytesAt (bytes l) (table.offset + 24 * (k + 1)) (spell (symtab_entry_fields e))) told.is here;
          name = dynamic_named stand l laid strings with_strings text_written told.at n.name told.stands;
        }

-- ---- libraries

-- entry j of the dynamic section, of those of libraries
needed_stands : TablesStand → (l : Layout) → IsLaidOut l → needs_dynamic l.kind ≡ true → (section : Part) → part_with role.Dynamic l.parts ≡ Some section → is_header_only_at l section.section ≡ false → (j : ℕ) (d : DynamicEntry) → slice_get (all_needed l) j ≡ Some d
    → HasBytesAt (bytes l) (section.offset + 16 * j) (spell (dynamic_entry_fields d))
needed_stands stand l laid needs section found written j d h =
    let long = length_entry d in
    let own = HasBytesAt-record (λ (x : DynamicEntry). spell (dynamic_entry_fields x)) 16 length_entry (all_needed l) j d h in
    let front = HasBytesAt-left (entries_bytes (all_needed l)) (dynamic_bytes l (dynamic_room l)) in
    let here = HasBytesAt-inner (entries_bytes (all_needed l) ++ dynamic_bytes l (dynamic_room l)) (entries_bytes (all_needed l)) (spell (dynamic_entry_fields d)) 0 (16 * j) front own in
    let z : 0 + 16 * j ≡ 16 * j = omega arith in
    let there = subst (λ (m : ℕ). HasBytesAt (entries_bytes (all_needed l) ++ dynamic_bytes l (dynamic_room l)) m (spell (dynamic_entry_fields d))) z here in
    in_image stand l laid role.Dynamic (λ e. absurd (omega arith)) section found written (16 * j) (spell (dynamic_entry_fields d)) (omega arith) (subst (λ (bs : List ℕ). HasBytesAt bs (16 * j) (spell (dynamic_entry_fields d))) (sym (laid.dynamic needs)) there)

pub libraries_are_named : TablesStand → LibrariesAreNamed
libraries_are_named stand l laid needs section strings found with_strings written text_written j f h = one (belongs_at (NamesLibrary (table_bytes l role.Dynstr)) (all_needed l) (libraries l) j f (libraries_belong l laid needs) h)
  where
    one : HasBeside (NamesLibrary (table_bytes l role.Dynstr)) (all_needed l) j f → HasLibrary l section strings j f
    one b =
        let told = b.belongs in
        record {
          at = told.at;
          entry = subst (λ (d : DynamicEntry). HasBytesAt (bytes l) (section.offset + 16 * j) (spell (dynamic_entry_fields d))) told.is (needed_stands stand l laid needs section found written j b.item b.is);
          name = dynamic_named stand l laid strings with_strings text_written told.at f.lib_name told.stands;
        }
