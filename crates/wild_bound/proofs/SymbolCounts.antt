-- The number of dynamic symbols that is read of an image.
use Rattle.wild_bound.proofs.Common.{◌≡◌, ℕ, ◌+◌, inl, inr, List, length, map, refl, sym, ap, ◌∙◌, arith, None, Some, Ok, slice_get_within, DynamicSymbol, Layout, files_of, LayoutsAreLaidOut, bytes, ImageTables, gnu_hash_of, sysv_count, gnu_count, IsWritten, AreReadBack, DynamicSymbolsAreRead, well_formed, NamedImage, place_of, count_of}
use Rattle.std.proofs.lemmas.List.{length-append, length-map}
use Rattle.wild_records.specs.HashTables.{GnuHashHeaderFits, GnuHashHeaderIsRead}
use Rattle.wild_types.specs.declared.part.Role.TheVariants as role
use Rattle.wild_needs.specs.DynamicPlaces.{filled_part}
use Rattle.wild_needs.specs.DynamicSymbols.{first_listed, undefined_entries, dynamic_symbols, listed as indexes_of}
use Rattle.wild_hashes.specs.declared.image.Part.{Part}
use Rattle.wild_hashes.specs.Image.{bytes_of}
use Rattle.wild_hashes.specs.Laws.{NeighboursAscend}
use Rattle.wild_hashes.specs.Tables.{gnu_header, sysv_hash_of}
use Rattle.wild_imports.specs.SymbolCount.{symbol_count}
use Rattle.wild_names.proofs.ShapeLemmas.{gnu_laid_out}
use Rattle.wild_bound.specs.SelfBinding.{HasGnuTable, HasSysvTable, HasCountTable, IndexesAreInRange}
use Rattle.wild_bound.proofs.HashTableCounts.{sysv_counted, gnu_counted, hashes_small}
use Rattle.wild_bound.proofs.OwnLemmas.{HasBytes, bytes_are, tables_are}

-- the laws on which the proof depends
pub record CountLaws : Type 0 where
  pub laid : LayoutsAreLaidOut
  pub read : DynamicSymbolsAreRead
  pub header : GnuHashHeaderIsRead
  pub ascend : NeighboursAscend

by_sysv : (image : List ℕ) (t : ImageTables) (p : Part) (n : ℕ) → t.sysv_hash ≡ Some (Ok p) → sysv_count (bytes_of image p) ≡ Ok n → symbol_count image t ≡ Ok n
unfolding symbol_count
by_sysv image t p n is counted = rw (is, counted) refl

by_gnu : (image : List ℕ) (t : ImageTables) (p : Part) (n : ℕ) → t.sysv_hash ≡ None → t.gnu_hash ≡ Some (Ok p) → gnu_count (bytes_of image p) ≡ Ok n → symbol_count image t ≡ Ok n
unfolding symbol_count
by_gnu image t p n none is counted = rw (none, is, counted) refl

-- the number of symbols of a layout with a hash table, with the null symbol
abbrev number_of : Layout → ℕ
number_of l = first_listed l + length l.dynsyms

symbols_counted : CountLaws → (l : Layout) → IsWritten l → (read : AreReadBack l) → HasCountTable l → symbol_count (bytes l) read.tables ≡ Ok (number_of l)
symbols_counted laws l w read has = elim has [
  | inl s ↦ sysv_is s
  | inr g ↦ gnu_is g.0 g.1
]
  where
    sysv_is : HasSysvTable l → symbol_count (bytes l) read.tables ≡ Ok (number_of l)
    sysv_is s =
        let h = s.shape in
        let t = read.hashes.sysv h s.part s.given s.there in
        let few = read.hashes.numbered.few in
        let many = length-map l.dynsyms sysv_hash_of in
        let counted = sysv_counted (bytes_of (bytes l) t.part) h.buckets (first_listed l) (map sysv_hash_of l.dynsyms) t.there (omega (arith, few, many)) in
        by_sysv (bytes l) read.tables t.part (number_of l) t.is (counted ∙ ap (λ (q : ℕ). Ok (first_listed l + q)) many)

    gnu_is : filled_part l role.SysvHash ≡ None → HasGnuTable l → symbol_count (bytes l) read.tables ≡ Ok (number_of l)
    gnu_is none g =
        let h = g.shape in
        let formed = well_formed l w.none in
        let laid = laws.laid l formed.0 formed.1 in
        let fits = laid.hashes.gnu h g.given in
        let base = fits.base in
        let t = read.hashes.gnu h g.part g.given g.there in
        let few = read.hashes.numbered.few in
        let one = read.hashes.numbered.not_0 in
        let many = length-map l.dynsyms gnu_hash_of in
        let numbers = w.numbers.gnu h g.given in
        let header : GnuHashHeaderFits (gnu_header h) = record { bucket_count = numbers.buckets; symbol_base = numbers.base; bloom_count = numbers.bloom_count; bloom_shift = numbers.bloom_shift } in
        let counted = gnu_counted laws.header (bytes_of (bytes l) t.part) (gnu_header h) (map gnu_hash_of l.dynsyms) t.there (omega (arith, one, base)) (omega (arith, few, many, base)) (gnu_laid_out l h laws.ascend fits header) (hashes_small l.dynsyms) in
        let total : h.base + length (map gnu_hash_of l.dynsyms) ≡ number_of l = omega (arith, base, many) in
        by_gnu (bytes l) read.tables t.part (number_of l) (read.hashes.no_sysv none) t.is (counted ∙ ap (λ (q : ℕ). Ok q) total)

count_is : (xs : List NamedImage) (i n : ℕ) (l : Layout) → HasBytes xs i l → (read : AreReadBack l) → symbol_count (bytes l) read.tables ≡ Ok n → count_of xs i ≡ Ok n
unfolding count_of
count_is xs i n l has read is = rw (tables_are xs i l has read, has, is) refl

pub counted : CountLaws → IndexesAreInRange
counted laws = λ xs order n l h table symbols c k s r is listed decided index. (
    let read = laws.read l h.written h.hashes in
    let formed = well_formed l h.written.none in
    let laid = laws.laid l formed.0 formed.1 in
    let has = bytes_are xs (place_of order n) h.image l h.there h.is in
    let number = count_is xs (place_of order n) (number_of l) l has read (symbols_counted laws l h.written read table) in
    let both : Ok symbols ≡ Ok (number_of l) = sym is ∙ number in
    let same : symbols ≡ number_of l = cc in
    let e = laid.dynsyms.indexed c k s r listed decided index in
    let place = e.1 in
    let lt = slice_get_within (dynamic_symbols l) e.0 c e.2 in
    let parts = length-append (undefined_entries l.symbols (files_of l.groups)) (indexes_of l.dynsyms) in
    let exported = length-map l.dynsyms (λ (d : DynamicSymbol). d.symbol) in
    omega (arith, same, place, lt, parts, exported))
