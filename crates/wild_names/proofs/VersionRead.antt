-- The version of each dynamic symbol is read beside it.
use Rattle.wild_names.proofs.Common.{◌≡◌, ℕ, suc, ◌+◌, ◌*◌, ◌^◌, ◌<◌, Bool, true, false, if◌then◌else◌, List, [], ◌∷◌, length, map, drop, All, Some, slice_get, get_or, flat_map, refl, ap, ◌∙◌, arith, subst, length-append, length-map, All-cons, All-append, All-map, get_or_from_slice_get, slice_get_within, HasBytesAt, All-flat_map, FileRole, File, Layout, Symbol, range_of, undefined_symbols, is_undefined_entry, is_library, files_of, listed, undefined, version_of, exported_version, TablesStand, bytes, table_symbols}
use Rattle.std.proofs.lemmas.List.Elements.{All-filter, All-take, All-drop, All-weaker}
use Rattle.wild_records.specs.Versyms.{versym_at}
use Rattle.wild_types.specs.declared.part.Role.TheVariants as role
use Rattle.wild_table_formats.specs.VersionLaws.{LengthsOfVersions, VersionsAreRead}
use Rattle.wild_table_formats.specs.SymbolVersions.{version_bytes}
use Rattle.wild_names.specs.VersionLaws.{VersionNumbersFit, VersionsAreWritten, table_versions}
use Rattle.wild_names.proofs.VersionSymbols.{own, all_versions, version_table}

-- ---- their numbers

small_of : (r : FileRole) (s : Symbol) → s.version < 2 ^ 16 → version_of r s < 2 ^ 16
small_of r s h = by (is_library r)
  where
    by : (b : Bool) → (if b then s.version else 1) < 2 ^ 16
    by true = h
    by false = omega arith

own_small : (l : Layout) (f : File) → VersionNumbersFit l → All (λ v. v < 2 ^ 16) (own l f)
own_small l f fit =
    let P : Symbol → Type 0 = λ s. version_of f.role s < 2 ^ 16 in
    let all = All-weaker (λ (s : Symbol). s.version < 2 ^ 16) P (small_of f.role) l.symbols fit.symbols in
    let range = All-take P f.symbol_count (drop f.first_symbol l.symbols) (All-drop P f.first_symbol l.symbols all) in
    All-map (λ v. v < 2 ^ 16) (version_of f.role) (undefined_symbols l.symbols f) (All-filter (is_undefined_entry f.role) P (range_of l.symbols f) range)

all_small : (l : Layout) → VersionNumbersFit l → All (λ v. v < 2 ^ 16) (all_versions l)
all_small l fit =
    let P : ℕ → Type 0 = λ v. v < 2 ^ 16 in
    let files = All-flat_map P (own l) (files_of l.groups) (λ k f m. own_small l (get_or (files_of l.groups) k f) fit) in
    let seen = All-map P exported_version l.dynsyms fit.listed in
    All-cons P 0 (table_versions l) (omega arith) (All-append P (flat_map (own l) (files_of l.groups)) (map exported_version l.dynsyms) files seen)

-- ---- one for each symbol

own_beside : (l : Layout) (fs : List File) → length (flat_map (own l) fs) ≡ length (flat_map (λ (f : File). map (undefined f.role) (undefined_symbols l.symbols f)) fs)
own_beside l [] = refl
own_beside l (f ∷ fs) =
    let symbols = λ (x : File). map (undefined x.role) (undefined_symbols l.symbols x) in
    let a = length-append (own l f) (flat_map (own l) fs) in
    let b = length-append (symbols f) (flat_map symbols fs) in
    let c = length-map (undefined_symbols l.symbols f) (version_of f.role) in
    let d = length-map (undefined_symbols l.symbols f) (undefined f.role) in
    let e = own_beside l fs in
    omega arith

versions_beside : (l : Layout) → length (table_versions l) ≡ length (table_symbols l)
versions_beside l =
    let symbols = λ (x : File). map (undefined x.role) (undefined_symbols l.symbols x) in
    let a = length-append (flat_map (own l) (files_of l.groups)) (map exported_version l.dynsyms) in
    let b = length-append (flat_map symbols (files_of l.groups)) (map (listed l) l.dynsyms) in
    let c = length-map l.dynsyms exported_version in
    let d = length-map l.dynsyms (listed l) in
    let e = own_beside l (files_of l.groups) in
    omega arith

-- ---- the image

pub versions_are_written : TablesStand → LengthsOfVersions → VersionsAreRead → VersionsAreWritten
versions_are_written stand lengths read l laid fit needs asked table found written =
    let vs = all_versions l in
    let given = version_table l laid needs asked in
    let size = ((laid.roles role.GnuVersion (λ e. absurd (omega arith))).there table found).size in
    let long = lengths vs in
    let total = ap (λ (bs : List ℕ). length bs) given in
    let beside = versions_beside l in
    let there = stand l laid role.GnuVersion (λ e. absurd (omega arith)) table found written (omega arith) in
    let here = subst (λ (bs : List ℕ). HasBytesAt (bytes l) table.offset bs) given there in
    let z : table.offset + 2 * 0 ≡ table.offset = omega arith in
    record {
      beside = beside;
      whole = omega arith;
      null = subst (λ (n : ℕ). (versym_at (bytes l) n).version ≡ 0) z (read (bytes l) vs table.offset 0 0 (all_small l fit) here (omega arith));
      each = λ k v h. one k v h here;
    }
  where
    one : (k v : ℕ) → slice_get (table_versions l) k ≡ Some v → HasBytesAt (bytes l) table.offset (version_bytes (all_versions l)) → (versym_at (bytes l) (table.offset + 2 * (k + 1))).version ≡ v
    one k v h here =
        let low = slice_get_within (table_versions l) k v h in
        let z : table.offset + 2 * suc k ≡ table.offset + 2 * (k + 1) = omega arith in
        let is = read (bytes l) (all_versions l) table.offset (suc k) v (all_small l fit) here (omega arith) in
        subst (λ (n : ℕ). (versym_at (bytes l) n).version ≡ v) z (is ∙ get_or_from_slice_get (table_versions l) k v v h)
