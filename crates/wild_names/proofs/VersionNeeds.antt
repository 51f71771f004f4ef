-- The versions that are needed of libraries: their records are what groups give, and names stand where they tell.
use Rattle.wild_names.proofs.Common.{placed_files, ◌≡◌, ℕ, ◌%◌, ◌^◌, ◌<◌, Bool, true, if◌then◌else◌, List, [], ◌∷◌, ◌++◌, length, All, get_or, refl, sym, ap, ◌∙◌, arith, subst, Option, Some, None, append-nil, flat_map-append, HasBytesAt, flat_map-same, flat_map-flat_map, nil_if, File, Group, NeededVersion, VersionNeeds, Layout, offset_after_string, next_dynstr, is_prelude, needs_dynsym, needs_of, string, name_at, NeedsAreNamed, Need, offset_after_entry_names, file_content, content, IsLaidOut, table_bytes}
use Rattle.wild_types.specs.declared.part.Role.TheVariants as role
use Rattle.wild_needs.specs.Versions.{needed_names}
use Rattle.wild_table_formats.specs.VersionLaws.{needs_bytes}
use Rattle.wild_table_formats.specs.VersionNames.{library_offset, need_offsets, need_at, need_of, needs_from, group_needs}
use Rattle.wild_table_formats.specs.VersionNeeds.{need_bytes}
use Rattle.wild_names.specs.VersionLaws.{LibraryNeeds, needs_of_library, libraries_with_needs}
use Rattle.wild_names.proofs.BesideLemmas.{Belong}
use Rattle.wild_names.proofs.ImageLemmas.{none_joined}
use Rattle.wild_names.proofs.RunLemmas.{strings_of, gathered, files_belong, groups_belong, strings_are_short}
use Rattle.wild_names.proofs.VersionOffsets.{offsets_small}
use Rattle.wild_names.proofs.VersionMarks.{record_by, record_of, group_records, all_records}

-- ---- names

-- the record has the versions that are needed of the library, and the names of both stand where it tells
pub record IsRecordOf (strings : List ℕ) (n : Need) (w : LibraryNeeds) : Type 0 where
  pub same : n.needs ≡ w.needs
  pub file : n.file < 2 ^ 32
  pub names : All (λ x. x < 2 ^ 32) n.names
  pub library : HasBytesAt strings n.file (string w.file.lib_name)
  pub versions : (k : ℕ) (v : NeededVersion) → k < length w.needs.versions → HasBytesAt strings (name_at n.names k) (string (get_or w.needs.versions k v).name)

told_small : (at : ℕ) → at % 2 ^ 32 < 2 ^ 32
told_small at = omega arith

-- a file that versions are needed of, with these
abbrev needed_of : File → List LibraryNeeds
needed_of f = needs_of_library f (needs_of f)

file_belongs : NeedsAreNamed → (l : Layout) (whole : List ℕ) → length whole < 2 ^ 32 → needs_dynsym l.kind ≡ true → (at : ℕ) (f : File) → HasBytesAt whole at (strings_of l f) → Belong (IsRecordOf whole) (record_of l at f) (needed_of f)
file_belongs law l whole small needs at f s = by (needs_of f) refl
  where
    by : (o : Option VersionNeeds) → needs_of f ≡ o → Belong (IsRecordOf whole) (record_by l at f o) (needs_of_library f o)
    by None e = tt
    by (Some n) e =
        let told = law l f n whole at needs e (record { small = small; stand = s }) in
        record {
          first = record {
            same = refl;
            file = told_small (offset_after_entry_names l at f);
            names = offsets_small (offset_after_string (offset_after_entry_names l at f) f.lib_name) (needed_names n.versions);
            library = told.library;
            versions = told.versions;
          };
          rest = tt;
        }

-- each record belongs to its library
pub records_belong : NeedsAreNamed → (l : Layout) → IsLaidOut l → needs_dynsym l.kind ≡ true → Belong (IsRecordOf (table_bytes l role.Dynstr)) (all_records l) (libraries_with_needs l)
records_belong law l laid needs =
    let whole = table_bytes l role.Dynstr in
    let small = strings_are_short l laid in
    groups_belong (IsRecordOf whole) (group_records l) needed_of l laid needs (λ g s. files_belong (IsRecordOf whole) (record_of l) needed_of l whole small (file_belongs law l whole small needs) g.dynstr_start g.files s)

-- ---- bytes

-- those of a record
abbrev spelled : Need → List ℕ
spelled n = need_bytes n.file n.names n.needs

file_spelled : (l : Layout) (at : ℕ) (f : File) → needs_bytes (record_of l at f) ≡ need_of l at f
file_spelled l at f = by (needs_of f)
  where
    by : (o : Option VersionNeeds) → needs_bytes (record_by l at f o) ≡ need_at (offset_after_entry_names l at f) f.lib_name o
    by None = refl
    by (Some n) = append-nil (need_bytes (library_offset l at f) (need_offsets l at f n) n)

files_spelled : (l : Layout) (at : ℕ) (fs : List File) → needs_bytes (gathered (record_of l) l at fs) ≡ needs_from l at fs
files_spelled l at [] = refl
files_spelled l at (f ∷ fs) =
    flat_map-append spelled (record_of l at f) (gathered (record_of l) l (next_dynstr l at f) fs)
    ∙ ap (λ (bs : List ℕ). bs ++ needs_bytes (gathered (record_of l) l (next_dynstr l at f) fs)) (file_spelled l at f)
    ∙ ap (λ (bs : List ℕ). need_of l at f ++ bs) (files_spelled l (next_dynstr l at f) fs)

group_spelled : (l : Layout) (g : Group) → needs_dynsym l.kind ≡ true → needs_bytes (group_records l g) ≡ group_needs l g
unfolding group_needs
group_spelled l g needs =
    let P : Bool → Type 0 = λ b. needs_from l g.dynstr_start g.files ≡ (if b then needs_from l g.dynstr_start g.files else []) in
    files_spelled l g.dynstr_start g.files ∙ subst P (sym needs) refl

no_needs : (l : Layout) (f : File) → file_content l role.GnuVersionR f ≡ []
no_needs l f = rw (nil_if (is_prelude f.role)) refl

group_gives : (l : Layout) (g : Group) → content l role.GnuVersionR g ≡ group_needs l g
group_gives l g = rw (none_joined (file_content l role.GnuVersionR) (placed_files l g) (no_needs l)) refl

-- the table has just the bytes of all records
pub needs_given : (l : Layout) → needs_dynsym l.kind ≡ true → needs_bytes (all_records l) ≡ table_bytes l role.GnuVersionR
needs_given l needs =
    flat_map-flat_map spelled (group_records l) l.groups
    ∙ flat_map-same (λ (g : Group). needs_bytes (group_records l g)) (content l role.GnuVersionR) l.groups (λ g. group_spelled l g needs ∙ sym (group_gives l g))
