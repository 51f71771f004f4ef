-- Look-ups in the image of a layout without faults.
use Rattle.wild_names.proofs.Common.{◌≡◌, ℕ, ◌≤◌, false, List, length, map, Some, None, Ok, refl, sym, ap, arith, subst, add-zero, HasBytesAt, word, dt_hash, dt_gnu_hash, Part, Role, Layout, first_listed, role_place, part_with, not_hollow_at, table_bytes, IsLaidOut, TablesStand, bytes, bytes_of, bytes_or_none, tables_of, AreNumbered, sysv_hash_of, gnu_hash_of, gnu_header, gnu_table, sysv_table, ImageLaws, NameLaws}
use Rattle.wild_records.specs.HashTables.{gnu_hash_header_fields, GnuHashHeaderFits}
use Rattle.wild_records.specs.declared.hash_tables.GnuHashHeader.{GnuHashHeader}
use Rattle.wild_types.specs.declared.part.Role.TheVariants as role
use Rattle.wild_types.specs.Lookups.{is_header_only_at}
use Rattle.wild_hashes.specs.Image.{gnu_lookup_in, sysv_lookup_in}
use Rattle.wild_hashes.specs.Laws.{first_named, names_of, NeighboursAscend, GnuLookUpInImagesFindsTheFirst, SysvLookUpInImagesFindsTheFirst}
use Rattle.wild_hashes.specs.Tables.{words}
use Rattle.wild_names.specs.LookUpLaws.{first_with_name, SysvLookUpsFind, GnuLookUpsFind, LookUpsWithoutTable}
use Rattle.wild_names.proofs.FoundParts.{is_read, HasParts, has_parts, no_parts, sysv_told, gnu_told}
use Rattle.wild_names.proofs.HashBytes.{sysv_stands, gnu_stands}
use Rattle.wild_names.proofs.PartBytes.{stands_cut}
use Rattle.wild_names.proofs.ShapeLemmas.{gnu_laid_out}

-- ---- tables are not empty

pub some_sysv : (n base : ℕ) (hs : List ℕ) → 1 ≤ length (sysv_table n base hs)
unfolding sysv_table words word
some_sysv n base hs = omega arith

pub some_gnu : (t : GnuHashHeader) (hs : List ℕ) → 1 ≤ length (gnu_table t hs)
unfolding gnu_table gnu_hash_header_fields word
some_gnu t hs = omega arith

-- a table that stands in the image stands in the part that a look-up finds
table_stands : (l : Layout) (r : Role) (tag : ℕ) (p : Part) (table : List ℕ) → TablesStand → IsLaidOut l → (role_place r ≡ 0 → ⊥) → part_with r l.parts ≡ Some p → is_header_only_at l p.section ≡ false → 1 ≤ p.size → table_bytes l r ≡ table → (parts : HasParts l tag p) → HasBytesAt (bytes_of (bytes l) parts.parts.hashes) 0 table
table_stands l r tag p table stand laid loaded first_with_name written some is parts =
    let here = subst (λ (bs : List ℕ). HasBytesAt (bytes l) p.offset bs) is (stand l laid r loaded p first_with_name written some) in
    let there = subst (λ (n : ℕ). HasBytesAt (bytes l) n table) (sym (add-zero p.offset)) here in
    let size = ((laid.roles r loaded).there p first_with_name).size in
    let same = ap (λ (bs : List ℕ). length bs) is in
    let room = parts.room in
    stands_cut (bytes l) table parts.parts.hashes p.offset 0 parts.start (omega (arith, size, same, room)) there

pub filled : (l : Layout) (r : Role) (p : Part) (table : List ℕ) → IsLaidOut l → (role_place r ≡ 0 → ⊥) → part_with r l.parts ≡ Some p → table_bytes l r ≡ table → 1 ≤ length table → 1 ≤ p.size
filled l r p table laid loaded first_with_name is some =
    let size = ((laid.roles r loaded).there p first_with_name).size in
    let same = ap (λ (bs : List ℕ). length bs) is in
    omega (arith, size, same, some)

-- ---- System V

pub sysv_found : ImageLaws → NameLaws → SysvLookUpInImagesFindsTheFirst → SysvLookUpsFind
sysv_found laws names law = λ l h p name w shape there.
    let read = is_read l laws w in
    let laid = read.laid in
    let table = sysv_table h.buckets (first_listed l) (map sysv_hash_of l.dynsyms) in
    let is = sysv_stands l h laid w.dynamic shape in
    let some = filled l role.SysvHash p table laid (λ e. cc) there is (some_sysv h.buckets (first_listed l) (map sysv_hash_of l.dynsyms)) in
    let parts = has_parts l role.SysvHash dt_hash p laws names read w.dynamic refl refl (λ e. cc) (sysv_told l read.entries.room laws w.dynamic) there some in
    let stands = table_stands l role.SysvHash dt_hash p table laws.stand laid (λ e. cc) there (not_hollow_at l p.section w.keeps) some is parts in
    law (bytes l) parts.parts h.buckets (first_listed l) l.dynsyms name parts.is stands parts.numbered (laid.hashes.sysv h shape) (w.numbers.sysv h shape).buckets

-- ---- GNU

pub gnu_found : ImageLaws → NameLaws → NeighboursAscend → GnuLookUpInImagesFindsTheFirst → GnuLookUpsFind
gnu_found laws names ascend law = λ l h p name w shape there.
    let read = is_read l laws w in
    let laid = read.laid in
    let table = gnu_table (gnu_header h) (map gnu_hash_of l.dynsyms) in
    let is = gnu_stands l h laid w.dynamic shape in
    let some = filled l role.GnuHash p table laid (λ e. cc) there is (some_gnu (gnu_header h) (map gnu_hash_of l.dynsyms)) in
    let parts = has_parts l role.GnuHash dt_gnu_hash p laws names read w.dynamic refl refl (λ e. cc) (gnu_told l read.entries.room laws w.dynamic) there some in
    let stands = table_stands l role.GnuHash dt_gnu_hash p table laws.stand laid (λ e. cc) there (not_hollow_at l p.section w.keeps) some is parts in
    let fits = laid.hashes.gnu h shape in
    let base = fits.base in
    let symbols = bytes_or_none (bytes l) parts.parts.symbols in
    let strings = bytes_or_none (bytes l) parts.parts.strings in
    let numbered = subst (λ (b : ℕ). AreNumbered symbols strings b l.dynsyms) (sym base) parts.numbered in
    let numbers = w.numbers.gnu h shape in
    let header : GnuHashHeaderFits (gnu_header h) = record { bucket_count = numbers.buckets; symbol_base = numbers.base; bloom_count = numbers.bloom_count; bloom_shift = numbers.bloom_shift } in
    let answer = law (bytes l) parts.parts (gnu_header h) l.dynsyms name parts.is stands numbered (gnu_laid_out l h ascend fits header) in
    subst (λ (b : ℕ). gnu_lookup_in (bytes l) name ≡ Ok (first_named b (names_of l.dynsyms) name)) base answer

-- ---- no table

sysv_none : (image name : List ℕ) → tables_of image dt_hash ≡ Ok None → sysv_lookup_in image name ≡ Ok None
unfolding sysv_lookup_in
sysv_none image name e = rw e refl

gnu_none : (image name : List ℕ) → tables_of image dt_gnu_hash ≡ Ok None → gnu_lookup_in image name ≡ Ok None
unfolding gnu_lookup_in
gnu_none image name e = rw e refl

pub none_found : ImageLaws → LookUpsWithoutTable
none_found laws = record {
  sysv = λ l name w missing. (let read = is_read l laws w in sysv_none (bytes l) name (no_parts l role.SysvHash dt_hash laws read (sysv_told l read.entries.room laws w.dynamic) missing));
  gnu = λ l name w missing. (let read = is_read l laws w in gnu_none (bytes l) name (no_parts l role.GnuHash dt_gnu_hash laws read (gnu_told l read.entries.room laws w.dynamic) missing));
}
