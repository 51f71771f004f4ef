-- A reader of an image finds the libraries that versions are needed of, with these versions.
use Rattle.wild_names.proofs.Common.{◌≡◌, ℕ, ◌^◌, ◌<◌, ◌≤◌, Bool, true, false, if◌then◌else◌, List, [], ◌∷◌, length, All, get_or, refl, sym, ap, arith, subst, Option, Some, None, nat_le, ◌&&◌, and_parts, length-append, All-nil, All-cons, All-head, All-tail, get_or_from_slice_get, slice_get_within, HasBytesAt, All-flat_map, File, Group, NeededVersion, VersionNeeds, Layout, is_library, total, files_of, needs_of, string, name_at, NeedsAreNamed, Need, IsLaidOut, TablesStand, table_bytes, bytes, IndexesFit}
use Rattle.std.proofs.lemmas.Bool.{leb-true}
use Rattle.wild_types.specs.declared.part.Role.TheVariants as role
use Rattle.wild_needs.specs.Versions.{need_size, need_count, length_of, file_versions, versions_needed, most_versions}
use Rattle.wild_types.proofs.ListLemmas.{total-prefix}
use Rattle.wild_table_formats.specs.VersionLaws.{LengthsOfNeeds, NeedFits, needs_bytes, NeedsAreRead}
use Rattle.wild_table_formats.specs.VersionNeeds.{need_bytes}
use Rattle.wild_names.specs.Laws.{IsNamed}
use Rattle.wild_names.specs.VersionLaws.{VersionNumbersFit, LibraryNeeds, needs_of_library, libraries_with_needs, HasNeeds, NeedsAreWritten}
use Rattle.wild_names.proofs.BesideLemmas.{Belong, HasBeside, belong-length, belongs_at}
use Rattle.wild_names.proofs.ImageLemmas.{named}
use Rattle.wild_names.proofs.RunLemmas.{strings_are_short}
use Rattle.wild_names.proofs.VersionMarks.{all_records, records_end_once}
use Rattle.wild_names.proofs.VersionNeeds.{IsRecordOf, records_belong, needs_given}

-- ---- numbers

-- the versions that are needed of a library have 16 bits for their indexes, and for how many they are
record VersionsFit (w : LibraryNeeds) : Type 0 where
  indexes : All (λ (v : NeededVersion). v.index < 2 ^ 16) w.needs.versions
  few : length w.needs.versions < 2 ^ 16

record_fits : (strings : List ℕ) (n : Need) (w : LibraryNeeds) → IsRecordOf strings n w → VersionsFit w → NeedFits n
record_fits strings n w r f = record {
  file = r.file;
  names = r.names;
  indexes = subst (λ (x : VersionNeeds). All (λ (v : NeededVersion). v.index < 2 ^ 16) x.versions) (sym r.same) f.indexes;
  few = subst (λ (x : VersionNeeds). length x.versions < 2 ^ 16) (sym r.same) f.few;
}

records_fit : (strings : List ℕ) (ns : List Need) (ws : List LibraryNeeds) → Belong (IsRecordOf strings) ns ws → All VersionsFit ws → All NeedFits ns
records_fit strings [] [] h a = All-nil NeedFits
records_fit strings [] (w ∷ ws) h a = absurd h
records_fit strings (n ∷ ns) [] h a = absurd h
records_fit strings (n ∷ ns) (w ∷ ws) h a = All-cons NeedFits n ns (record_fits strings n w h.first (All-head VersionsFit w ws a)) (records_fit strings ns ws h.rest (All-tail VersionsFit w ws a))

-- what is needed of a library stands in its file
given_by : (b : Bool) (o : Option VersionNeeds) (n : VersionNeeds) → (if b then o else None) ≡ Some n → o ≡ Some n
given_by true o n h = h
given_by false o n h = cc

file_fits : (f : File) → IndexesFit f → file_versions f < 2 ^ 16 → All VersionsFit (needs_of_library f (needs_of f))
file_fits f fit few = by (needs_of f) refl
  where
    by : (o : Option VersionNeeds) → needs_of f ≡ o → All VersionsFit (needs_of_library f o)
    by None e = All-nil VersionsFit
    by (Some n) e =
        let long = ap length_of e in
        All-cons VersionsFit (record { file = f; needs = n }) [] (record { indexes = fit n (given_by (is_library f.role) f.verneed n e); few = omega arith }) (All-nil VersionsFit)

needs_fit : (l : Layout) → IsLaidOut l → VersionNumbersFit l → All VersionsFit (libraries_with_needs l)
needs_fit l laid fit =
    let a = and_parts (nat_le (length l.verdefs) most_versions) (nat_le (need_count l) most_versions && nat_le (versions_needed l) most_versions) laid.few_versions in
    let b = and_parts (nat_le (need_count l) most_versions) (nat_le (versions_needed l) most_versions) a.1 in
    let c = leb-true (versions_needed l) most_versions b.1 in
    let fs = files_of l.groups in
    let indexes = All-flat_map IndexesFit (λ (g : Group). g.files) l.groups fit.needed in
    All-flat_map VersionsFit (λ (f : File). needs_of_library f (needs_of f)) fs (λ k f low. file_fits (get_or fs k f) (indexes k f low) (let n = total-prefix file_versions fs k f low in omega arith))

-- ---- lengths

-- the records have the bytes of their libraries' needs
records_length : LengthsOfNeeds → (strings : List ℕ) (ns : List Need) (ws : List LibraryNeeds) → Belong (IsRecordOf strings) ns ws → length (needs_bytes ns) ≡ total (λ (w : LibraryNeeds). need_size w.needs) ws
records_length lengths strings [] [] h = refl
records_length lengths strings [] (w ∷ ws) h = absurd h
records_length lengths strings (n ∷ ns) [] h = absurd h
records_length lengths strings (n ∷ ns) (w ∷ ws) h =
    let a = length-append (need_bytes n.file n.names n.needs) (needs_bytes ns) in
    let b = lengths n.file n.names n.needs in
    let c = ap need_size h.first.same in
    let d = records_length lengths strings ns ws h.rest in
    omega arith

some_bytes : LengthsOfNeeds → (ns : List Need) → 1 ≤ length ns → 1 ≤ length (needs_bytes ns)
some_bytes lengths [] h = absurd (omega arith)
some_bytes lengths (n ∷ ns) h =
    let a = length-append (need_bytes n.file n.names n.needs) (needs_bytes ns) in
    let b = lengths n.file n.names n.needs in
    omega arith

-- ---- the image

pub needs_stand : TablesStand → LengthsOfNeeds → NeedsAreRead → NeedsAreNamed → NeedsAreWritten
needs_stand stand lengths read law l laid fit needs some table strings found with_strings written text_written =
    let ns = all_records l in
    let all = records_belong law l laid needs in
    let count = belong-length (IsRecordOf (table_bytes l role.Dynstr)) ns (libraries_with_needs l) all in
    let given = needs_given l needs in
    let size = ((laid.roles role.GnuVersionR (λ z. absurd (omega arith))).there table found).size in
    let same = ap (λ (bs : List ℕ). length bs) given in
    let own = records_length lengths (table_bytes l role.Dynstr) ns (libraries_with_needs l) all in
    let least = some_bytes lengths ns (omega arith) in
    let there = stand l laid role.GnuVersionR (λ z. absurd (omega arith)) table found written (omega arith) in
    let here = subst (λ (bs : List ℕ). HasBytesAt (bytes l) table.offset bs) (sym given) there in
    record {
      needs = ns;
      count = count;
      whole = omega arith;
      found = λ n enough. read (bytes l) ns table.offset n (records_fit (table_bytes l role.Dynstr) ns (libraries_with_needs l) all (needs_fit l laid fit)) (records_end_once l laid) (omega arith) enough here;
      each = λ k w h. one k w (belongs_at (IsRecordOf (table_bytes l role.Dynstr)) ns (libraries_with_needs l) k w all h);
    }
  where
    is_named : (at : ℕ) (name : List ℕ) → HasBytesAt (table_bytes l role.Dynstr) at (string name) → IsNamed l strings at name
    is_named = named stand l laid role.Dynstr (λ z. absurd (omega arith)) (strings_are_short l laid) strings with_strings text_written

    one : (k : ℕ) (w : LibraryNeeds) → HasBeside (IsRecordOf (table_bytes l role.Dynstr)) (all_records l) k w → HasNeeds l strings (all_records l) k w
    one k w b =
        let told = b.belongs in
        record {
          need = b.item;
          is = b.is;
          tells = record {
            same = told.same;
            library = is_named b.item.file w.file.lib_name told.library;
            versions = λ j v h.
                let low = slice_get_within w.needs.versions j v h in
                let own = subst (λ (x : NeededVersion). HasBytesAt (table_bytes l role.Dynstr) (name_at b.item.names j) (string x.name)) (get_or_from_slice_get w.needs.versions j v v h) (told.versions j v low) in
                is_named (name_at b.item.names j) v.name own;
          };
        }
