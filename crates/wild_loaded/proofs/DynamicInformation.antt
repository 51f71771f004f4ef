-- The dynamic section tells a dynamic linker what it is to do.
use Rattle.wild_loaded.proofs.Common.{placed_files, ◌≡◌, ◌≢◌, ℕ, zero, suc, ◌+◌, ◌-◌, ◌*◌, ◌/◌, ◌%◌, ◌<◌, ◌≤◌, inl, inr, Bool, true, false, not, ◌&&◌, List, [], ◌∷◌, ◌++◌, length, replicate, refl, sym, ap, ◌∙◌, arith, subst, Option, Some, None, Ok, All, bit_or, option_map, if◌then◌else◌, ◌==◌, slice_get, flat_map, ne_eqb, All-flat_map, dynamic_entry_size, DynamicEntry, ProgramHeader, Rela, Part, Role, File, Group, Layout, KeepsAll, is_executable, is_position_independent, needs_dynamic, part_with, dynamic_number, dynamic_entry, bytes, NumbersFit, IsLaidOut, table_bytes, Tables, kind_of, IsTableOf, entries_before_null, rela_bytes, word_bytes, value_of_tag, Relative, facts_of, processor_of, HasWholeSlots, TablesAreFound, relative_entries, tables_of, headers_of}
use Rattle.std.specs.Int.{bit_at}
use Rattle.std.proofs.lemmas.Nat.Bits.{bit_at-lt, bit_at_or}
use Rattle.wild_words.proofs.Basics.{slice_get_inside, length-flat_map_each}
use Rattle.wild_words.proofs.ListLemmas.{holds_at}
use Rattle.wild_records.specs.Abi.Dynamic.{dt_pltrel, dt_jmprel, dt_pltrelsz, dt_hash, dt_gnu_hash, dt_strtab, dt_symtab, dt_rela, dt_relasz, dt_relaent, dt_syment, dt_flags, dt_relr, dt_relrsz, dt_relrent, dt_relacount, dt_flags_1, dt_versym, dt_verdef, dt_verneed, df_bind_now, df_1_now, df_static_tls, df_textrel, df_origin, df_1_pie, df_1_origin, df_1_nodelete, df_1_interpose}
use Rattle.wild_records.specs.Dynamic.{DynamicEntryIsRead}
use Rattle.wild_records.specs.Relocations.{rela_size, relr_size, RelaIsRead, RelrIsRead}
use Rattle.wild_records.specs.SymtabEntry.{symtab_entry_size}
use Rattle.wild_types.specs.declared.part.Role.TheVariants as role
use Rattle.wild_types.specs.Kinds.{is_shared_object}
use Rattle.wild_needs.specs.declared.dynamic.DynamicTag.{DynamicTag}
use Rattle.wild_needs.specs.declared.dynamic.DynamicTag.TheVariants as tags
use Rattle.wild_needs.specs.Dynamic.{dynamic_flags, dynamic_flags_1, dynamic_count, flag}
use Rattle.wild_needs.specs.DynamicPlaces.{section_named, part_address, part_size, if_present, filled_part, unless_empty, first_entries, relative_count}
use Rattle.wild_layout.specs.TablePlaces.{all_needed}
use Rattle.wild_loader.specs.declared.kind.DynamicKind.TheVariants as kinds
use Rattle.wild_loader.specs.SegmentLaws.{AreLoadable}
use Rattle.wild_loader.specs.Tables.{first_dynamic as found_dynamic, section_of, named_tables}
use Rattle.wild_loader.proofs.RecordLists.{length-rela, length-word_bytes}
use Rattle.wild_loader.proofs.TableLemmas.{section-found, named-found}
use Rattle.wild_table_formats.specs.DynamicSection.{null_entry, dynamic_records, NeededAreOfLibraries, EntriesAreFound}
use Rattle.wild_meaning.specs.Section.{IsSet}
use Rattle.wild_meaning.specs.Segments.{headers_in}
use Rattle.wild_meaning.specs.DynamicSection.{IsFlagged, HasCompanionTag, IsRelativeAt, AreRelativeFirst, HasWholeSize, LeadsToPart, LeadsToTables, LeadsToFunctions, InformsLinker}
use Rattle.wild_loaded.specs.Laws.{HasEntries, DynamicSectionsAreThere}
use Rattle.wild_loaded.specs.Tables.{HasTablesIn}
use Rattle.wild_loaded.proofs.TableBytes.{all_relatives, all_generals, relatives_are}
use Rattle.wild_loaded.proofs.TablesFit.{of_file}
use Rattle.wild_loaded.proofs.OneValues.{fewer, one_value_each}

-- what the crates below owe, and this one
pub record LawsBelow : Type 0 where
  pub dynamic : DynamicEntryIsRead
  pub relas : RelaIsRead
  pub words : RelrIsRead
  pub needed : NeededAreOfLibraries
  pub found : EntriesAreFound
  pub stand : DynamicSectionsAreThere
  pub tables : TablesAreFound

-- ---- flags

-- a bit that is set stays so
kept : (a b i : ℕ) → bit_at a i ≡ 1 → bit_at (bit_or a b) i ≡ 1
kept a b i h = let s = bit_at-lt b i in bit_at_or a b i ∙ rw h (omega (arith, s))

bound_now : (l : Layout) → IsSet (dynamic_flags l.kind l.options) df_bind_now
unfolding dynamic_flags
bound_now l =
    let a = flag (not (is_executable l.kind) && l.options.static_tls) df_static_tls in
    let b = flag l.options.textrel df_textrel in
    kept (bit_or (bit_or df_bind_now a) b) (flag l.options.origin df_origin) 3 (kept (bit_or df_bind_now a) b 3 (kept df_bind_now a 3 refl))

bound_now_1 : (l : Layout) → IsSet (dynamic_flags_1 l.kind l.options) df_1_now
unfolding dynamic_flags_1
bound_now_1 l =
    let a = flag (is_executable l.kind && is_position_independent l.kind) df_1_pie in
    let b = flag l.options.origin df_1_origin in
    let c = flag (is_shared_object l.kind && l.options.nodelete) df_1_nodelete in
    kept (bit_or (bit_or (bit_or df_1_now a) b) c) (flag (is_shared_object l.kind && l.options.interpose) df_1_interpose) 0 (kept (bit_or (bit_or df_1_now a) b) c 0 (kept (bit_or df_1_now a) b 0 (kept df_1_now a 0 refl)))

-- ---- tags

-- what a reader finds of a tag
abbrev found : Layout → ℕ → List DynamicEntry
found l room = entries_before_null (all_needed l ++ dynamic_records l room)

of_tag : (l : Layout) (room : ℕ) (tag : DynamicTag) → LawsBelow → needs_dynamic l.kind ≡ true → tag ≢ tags.Null → value_of_tag (dynamic_number tag) (found l room) ≡ dynamic_entry l tag
of_tag l room tag laws needs some = laws.found l (all_needed l) (replicate (room / dynamic_entry_size - dynamic_count l) null_entry) tag (laws.needed.names l l.groups) needs some

-- a number beside a part that is there
beside_part : (o : Option Part) (n a : ℕ) → part_address o ≡ Some a → if_present n o ≡ Some n
beside_part None n a h = cc
beside_part (Some p) n a h = refl

now_told : (l : Layout) (room : ℕ) → LawsBelow → needs_dynamic l.kind ≡ true → IsFlagged (found l room) dt_flags df_bind_now
unfolding dynamic_number dynamic_entry
now_told l room laws needs = record { value = dynamic_flags l.kind l.options; there = of_tag l room tags.Flags laws needs (λ e. cc); set = bound_now l }

now_1_told : (l : Layout) (room : ℕ) → LawsBelow → needs_dynamic l.kind ≡ true → IsFlagged (found l room) dt_flags_1 df_1_now
unfolding dynamic_number dynamic_entry
now_1_told l room laws needs = record { value = dynamic_flags_1 l.kind l.options; there = of_tag l room tags.Flags1 laws needs (λ e. cc); set = bound_now_1 l }

stubs_told : (l : Layout) (room : ℕ) → LawsBelow → needs_dynamic l.kind ≡ true → HasCompanionTag (found l room) dt_jmprel dt_pltrel dt_rela
unfolding dynamic_number dynamic_entry
stubs_told l room laws needs a h = of_tag l room tags.PltRel laws needs (λ e. cc) ∙ beside_part (filled_part l role.RelaPlt) dt_rela a (sym (of_tag l room tags.JmpRel laws needs (λ e. cc)) ∙ h)

entries_told : (l : Layout) (room : ℕ) → LawsBelow → needs_dynamic l.kind ≡ true → HasCompanionTag (found l room) dt_rela dt_relaent rela_size
unfolding dynamic_number dynamic_entry
entries_told l room laws needs a h = of_tag l room tags.RelaEntry laws needs (λ e. cc) ∙ beside_part (first_entries l) rela_size a (sym (of_tag l room tags.Rela laws needs (λ e. cc)) ∙ h)

words_told : (l : Layout) (room : ℕ) → LawsBelow → needs_dynamic l.kind ≡ true → HasCompanionTag (found l room) dt_relr dt_relrent relr_size
unfolding dynamic_number dynamic_entry
words_told l room laws needs a h = of_tag l room tags.RelrEntry laws needs (λ e. cc) ∙ beside_part (part_with role.RelrDyn l.parts) relr_size a (sym (of_tag l room tags.Relr laws needs (λ e. cc)) ∙ h)

symbols_told : (l : Layout) (room : ℕ) → LawsBelow → needs_dynamic l.kind ≡ true → HasCompanionTag (found l room) dt_symtab dt_syment symtab_entry_size
unfolding dynamic_number dynamic_entry
symbols_told l room laws needs a h = of_tag l room tags.SymbolSize laws needs (λ e. cc) ∙ beside_part (part_with role.Dynsym l.parts) symtab_entry_size a (sym (of_tag l room tags.SymbolTable laws needs (λ e. cc)) ∙ h)

-- ---- relative entries

abbrev IsRelative : Layout → Rela → Type 0
IsRelative l r = kind_of (processor_of l.machine) r.number ≡ Some kinds.Relative

all_relative : (l : Layout) → NumbersFit l → All (IsRelative l) (all_relatives l)
all_relative l numbers =
    All-flat_map (IsRelative l) (λ (g : Group). flat_map (relative_entries l) (placed_files l g)) l.groups (λ k d b.
    All-flat_map (IsRelative l) (relative_entries l) _ (λ j e c. of_file (IsRelative l) l _ (λ place v low small. (facts_of l.machine).entries Relative) numbers.symbols))

-- as many as are told
all_told : (l : Layout) (n : ℕ) (o : Option Part) → IsLaidOut l → part_with role.RelaDynRelative l.parts ≡ o → option_map (λ (p : Part). p.size / rela_size) (unless_empty o) ≡ Some n → n ≡ length (all_relatives l)
all_told l n None laid e h = cc
all_told l n (Some p) laid e h = by_test (p.size == 0) h
  where
    by_test : (b : Bool) → option_map (λ (q : Part). q.size / rela_size) (if b then None else Some p) ≡ Some n → n ≡ length (all_relatives l)
    by_test true h = cc
    by_test false h =
        let is : p.size / rela_size ≡ n = cc in
        let size = ((laid.roles role.RelaDynRelative (λ z. cc)).there p e).size in
        let same = ap (λ (bs : List ℕ). length bs) (relatives_are l) in
        let each = length-flat_map_each rela_bytes rela_size length-rela (all_relatives l) in
        omega (arith, is, size, same, each)

get_append : {X : Type 0} (xs ys : List X) (k : ℕ) (x : X) → slice_get xs k ≡ Some x → slice_get (xs ++ ys) k ≡ Some x
get_append [] ys k x h = cc
get_append (y ∷ xs) ys zero x h = h
get_append (y ∷ xs) ys (suc k) x h = get_append xs ys k x h

relative_at : (l : Layout) (k : ℕ) → NumbersFit l → k < length (all_relatives l) → IsRelativeAt (processor_of l.machine) (tables_of l).entries k
relative_at l k numbers lt =
    let at = slice_get_inside (all_relatives l) k lt in
    record {
      entry = at.0;
      there = get_append (all_relatives l) (all_generals l) k at.0 at.1;
      kind = holds_at (IsRelative l) (all_relatives l) k at.0 at.1 (all_relative l numbers);
    }

count_told : (l : Layout) (room n : ℕ) → LawsBelow → needs_dynamic l.kind ≡ true → IsLaidOut l → value_of_tag dt_relacount (found l room) ≡ Some n → n ≡ length (all_relatives l)
unfolding dynamic_number dynamic_entry
count_told l room n laws needs laid h = all_told l n (part_with role.RelaDynRelative l.parts) laid refl (sym (of_tag l room tags.RelaCount laws needs (λ e. cc)) ∙ h)

-- ---- sizes

-- the entries that have the tables
same_entries : (l : Layout) → LawsBelow → (e : HasEntries l) (t : HasTablesIn l) → entries_before_null t.entries ≡ found l e.room
same_entries l laws e t =
    let hs = headers_of l in
    let first : Some t.dynamic.segment ≡ Some e.dynamic.segment = sym t.dynamic.first ∙ e.dynamic.first in
    let segment : t.dynamic.segment ≡ e.dynamic.segment = cc in
    let both : Ok (entries_before_null t.entries) ≡ Ok (found l e.room) = sym (section-found laws.dynamic (bytes l) hs t.entries t.dynamic) ∙ ap (λ (h : ProgramHeader). section_of (bytes l) h) segment ∙ section-found laws.dynamic (bytes l) hs (all_needed l ++ dynamic_records l e.room) e.dynamic in
    cc

-- a table that consists of k entries of n bytes has a size that n divides
entries_whole : (image : List ℕ) (hs : List ProgramHeader) (a b : Option ℕ) (bs : List ℕ) (k n : ℕ) → IsTableOf image hs a b bs → length bs ≡ rela_size * k → b ≡ Some n → n % rela_size ≡ 0
entries_whole image hs (Some a) (Some m) bs k n h long e = (let size = h.0 in let same : m ≡ n = cc in omega (arith, size, long, same))
entries_whole image hs (Some a) None bs k n h long e = absurd h
entries_whole image hs None (Some m) bs k n h long e = absurd h
entries_whole image hs None None bs k n h long e = cc

words_whole : (image : List ℕ) (hs : List ProgramHeader) (a b : Option ℕ) (bs : List ℕ) (k n : ℕ) → IsTableOf image hs a b bs → length bs ≡ relr_size * k → b ≡ Some n → n % relr_size ≡ 0
words_whole image hs (Some a) (Some m) bs k n h long e = (let size = h.0 in let same : m ≡ n = cc in omega (arith, size, long, same))
words_whole image hs (Some a) None bs k n h long e = absurd h
words_whole image hs None (Some m) bs k n h long e = absurd h
words_whole image hs None None bs k n h long e = cc

record HasWholeTables (ds : List DynamicEntry) : Type 0 where
  entries : HasWholeSize ds dt_relasz rela_size
  stubs : HasWholeSize ds dt_pltrelsz rela_size
  words : HasWholeSize ds dt_relrsz relr_size

whole_tables : (l : Layout) → LawsBelow → (e : HasEntries l) → HasTablesIn l → HasWholeTables (found l e.room)
whole_tables l laws e t =
    let hs = headers_of l in
    subst HasWholeTables (same_entries l laws e t) (record {
      entries = λ n h. entries_whole (bytes l) hs _ _ (flat_map rela_bytes (tables_of l).entries) (length (tables_of l).entries) n t.tables.entries (length-flat_map_each rela_bytes rela_size length-rela (tables_of l).entries) h;
      stubs = λ n h. entries_whole (bytes l) hs _ _ (flat_map rela_bytes (tables_of l).jumps) (length (tables_of l).jumps) n t.tables.jumps (length-flat_map_each rela_bytes rela_size length-rela (tables_of l).jumps) h;
      words = λ n h. words_whole (bytes l) hs _ _ (flat_map word_bytes (tables_of l).words) (length (tables_of l).words) n t.tables.words (length-flat_map_each word_bytes relr_size length-word_bytes (tables_of l).words) h;
    })

-- ---- tables and functions

led_to : (l : Layout) (ds : List DynamicEntry) (tag : ℕ) (r : Role) → value_of_tag tag ds ≡ part_address (part_with r l.parts) → LeadsToPart l ds tag r
led_to l ds tag r e = record {
  there = λ p h some. e ∙ ap part_address h;
  only = λ a h. of (part_with r l.parts) a refl (sym e ∙ h);
}
  where
    of : (o : Option Part) (a : ℕ) → part_with r l.parts ≡ o → part_address o ≡ Some a → (p : Part) × ((part_with r l.parts ≡ Some p) × (p.address ≡ a))
    of None a is h = absurd (let both : None ≡ Some a = h in cc)
    of (Some p) a is h = (p, (is, (let both : Some p.address ≡ Some a = h in cc)))

-- the same of a part that is named only if it has bytes
led_if_filled : (l : Layout) (ds : List DynamicEntry) (tag : ℕ) (r : Role) → value_of_tag tag ds ≡ part_address (filled_part l r) → LeadsToPart l ds tag r
led_if_filled l ds tag r e = record {
  there = λ p h some. e ∙ filled p h some;
  only = λ a h. of (part_with r l.parts) a refl (sym e ∙ h);
}
  where
    filled : (p : Part) → part_with r l.parts ≡ Some p → 1 ≤ p.size → part_address (filled_part l r) ≡ Some p.address
    filled p h some = (let f : (p.size == 0) ≡ false = ne_eqb p.size 0 (λ z. omega (arith, some, z)) in rw (h, f) refl)

    by_size : (p : Part) (b : Bool) (a : ℕ) → part_address (if b then None else Some p) ≡ Some a → p.address ≡ a
    by_size p true a h = absurd (let both : None ≡ Some a = h in cc)
    by_size p false a h = (let both : Some p.address ≡ Some a = h in cc)

    of : (o : Option Part) (a : ℕ) → part_with r l.parts ≡ o → part_address (unless_empty o) ≡ Some a → (p : Part) × ((part_with r l.parts ≡ Some p) × (p.address ≡ a))
    of None a is h = absurd (let both : None ≡ Some a = h in cc)
    of (Some p) a is h = (p, (is, by_size p (p.size == 0) a h))

tables_led : (l : Layout) (room : ℕ) → LawsBelow → needs_dynamic l.kind ≡ true → LeadsToTables l (found l room)
unfolding dynamic_number dynamic_entry
tables_led l room laws needs = record {
  strings = led_to l (found l room) dt_strtab role.Dynstr (of_tag l room tags.StringTable laws needs (λ e. cc));
  string_size = λ p h some. of_tag l room tags.StringSize laws needs (λ e. cc) ∙ ap part_size h;
  symbols = led_to l (found l room) dt_symtab role.Dynsym (of_tag l room tags.SymbolTable laws needs (λ e. cc));
  hash = led_if_filled l (found l room) dt_hash role.SysvHash (of_tag l room tags.SysvHash laws needs (λ e. cc));
  gnu_hash = led_if_filled l (found l room) dt_gnu_hash role.GnuHash (of_tag l room tags.GnuHash laws needs (λ e. cc));
  versions = led_to l (found l room) dt_versym role.GnuVersion (of_tag l room tags.SymbolVersions laws needs (λ e. cc));
  definitions = led_to l (found l room) dt_verdef role.GnuVersionD (of_tag l room tags.VersionDefinitions laws needs (λ e. cc));
  needs = led_to l (found l room) dt_verneed role.GnuVersionR (of_tag l room tags.VersionNeeds laws needs (λ e. cc));
  stubs = led_if_filled l (found l room) dt_jmprel role.RelaPlt (of_tag l room tags.JmpRel laws needs (λ e. cc));
  words = led_to l (found l room) dt_relr role.RelrDyn (of_tag l room tags.Relr laws needs (λ e. cc));
}

functions_led : (l : Layout) (room : ℕ) → LawsBelow → needs_dynamic l.kind ≡ true → LeadsToFunctions l (found l room)
unfolding dynamic_number dynamic_entry section_named
functions_led l room laws needs = record {
  init = of_tag l room tags.Init laws needs (λ e. cc);
  fini = of_tag l room tags.Fini laws needs (λ e. cc);
  preinit_array = of_tag l room tags.PreinitArray laws needs (λ e. cc);
  preinit_size = of_tag l room tags.PreinitArraySize laws needs (λ e. cc);
  init_array = of_tag l room tags.InitArray laws needs (λ e. cc);
  init_size = of_tag l room tags.InitArraySize laws needs (λ e. cc);
  fini_array = of_tag l room tags.FiniArray laws needs (λ e. cc);
  fini_size = of_tag l room tags.FiniArraySize laws needs (λ e. cc);
}

-- ---- the whole

-- the tables that a loader finds by these entries
tables_named : (l : Layout) (base : ℕ) → LawsBelow → NumbersFit l → AreLoadable base (bytes l) (headers_of l) → (e : HasEntries l) → HasTablesIn l → named_tables (bytes l) (headers_of l) (found l e.room) ≡ Ok (tables_of l)
tables_named l base laws numbers loadable e t =
    let hs = headers_of l in
    let same = same_entries l laws e t in
    subst (λ (ds : List DynamicEntry). named_tables (bytes l) hs ds ≡ Ok (tables_of l)) same (named-found laws.relas laws.words base (bytes l) hs t.entries (tables_of l) loadable t.tables)

pub linker_told : (l : Layout) (base : ℕ) → LawsBelow → KeepsAll l → needs_dynamic l.kind ≡ true → NumbersFit l → IsLaidOut l → HasWholeSlots l → AreLoadable base (bytes l) (headers_of l) → headers_in (bytes l) ≡ headers_of l → InformsLinker l (processor_of l.machine) (bytes l)
linker_told l base laws keeps needs numbers laid slots loadable same =
    let e = laws.stand l keeps needs numbers laid in
    let there = laws.tables l keeps needs numbers laid slots in
    let tables = tables_named l base laws numbers loadable e there in
    let sizes = whole_tables l laws e there in
    let count = e.dynamic.count in
    let short = fewer l (all_needed l) (replicate (e.room / dynamic_entry_size - dynamic_count l) null_entry) needs in
    record {
      segment = e.dynamic.segment;
      first = ap found_dynamic same ∙ e.dynamic.first;
      entries = found l e.room;
      read = section-found laws.dynamic (bytes l) (headers_of l) (all_needed l ++ dynamic_records l e.room) e.dynamic;
      ended = omega (arith, count, short);
      told = record {
        now = now_told l e.room laws needs;
        now_1 = now_1_told l e.room laws needs;
        stubs = stubs_told l e.room laws needs;
        entry_size = entries_told l e.room laws needs;
        word_size = words_told l e.room laws needs;
        symbol_size = symbols_told l e.room laws needs;
        relative = λ n t h named.
            (let count = count_told l e.room n laws needs laid h in
            let both : Ok (tables_of l) ≡ Ok t = sym tables ∙ sym (ap (λ (hs : List ProgramHeader). named_tables (bytes l) hs (found l e.room)) same) ∙ named in
            let is : tables_of l ≡ t = cc in
            subst (λ (u : Tables). AreRelativeFirst (processor_of l.machine) n u.entries) is (λ k lt. relative_at l k numbers (omega (arith, lt, count))));
        whole = sizes.entries;
        stubs_whole = sizes.stubs;
        words_whole = sizes.words;
        one = one_value_each l (all_needed l) (e.room / dynamic_entry_size - dynamic_count l) needs (laws.needed.names l l.groups) (λ tag some. of_tag l e.room tag laws needs some);
        tables = tables_led l e.room laws needs;
        functions = functions_led l e.room laws needs;
      };
    }
