-- Symbols that are bound to themselves, and the number of dynamic symbols.
use Rattle.wild_bound.proofs.Common.{◌≡◌, ℕ, ◌+◌, ◌%◌, inl, inr, true, false, List, [], ◌∷◌, length, map, refl, sym, ap, ◌∙◌, arith, subst, Option, Some, None, Ok, ◌==◌, slice_get, option_map, cases_Bool, ne_eqb, holds_at, shn_undef, SymtabEntry, DynamicSymbol, Layout, files_of, LayoutsAreLaidOut, bytes, ImageTables, symbol_at, find_name, find_definition, IsWritten, AreReadBack, DynamicSymbolsAreRead, well_formed, NamedImage, place_of, symbol_of, find_in, bind, IsBoundToItself}
use Rattle.std.proofs.lemmas.Option.{slice_get-map}
use Rattle.wild_records.specs.Abi.Symbol.{stv_default}
use Rattle.wild_records.specs.HashTables.{GnuHashHeaderFits}
use Rattle.wild_types.specs.declared.layout.GnuHash.{GnuHash}
use Rattle.wild_types.specs.declared.part.Role.TheVariants as role
use Rattle.wild_needs.specs.DynamicPlaces.{filled_part}
use Rattle.wild_needs.specs.DynamicSymbols.{first_listed}
use Rattle.wild_table_formats.specs.DynamicEntries.{listed}
use Rattle.wild_layout.specs.Geometry.{IsLaidOut}
use Rattle.wild_hashes.specs.declared.image.Part.{Part}
use Rattle.wild_hashes.specs.Image.{bytes_of, bytes_or_none}
use Rattle.wild_hashes.specs.ImageTables.{text_at}
use Rattle.wild_hashes.specs.Laws.{AreNumbered, first_named, names_of, GnuLookUpFindsTheFirst, SysvLookUpFindsTheFirst, NeighboursAscend}
use Rattle.wild_hashes.specs.LookUp.{gnu_lookup, sysv_lookup}
use Rattle.wild_hashes.specs.Reading.{HasNoZero}
use Rattle.wild_hashes.specs.Tables.{gnu_header}
use Rattle.wild_names.specs.Laws.{table_symbols}
use Rattle.wild_names.specs.LookUpLaws.{first_with_name}
use Rattle.wild_names.specs.ReadLaws.{IsReadBack}
use Rattle.wild_names.proofs.NumberedLemmas.{defined_elsewhere, length-elsewhere, slice_get-second_list}
use Rattle.wild_names.proofs.ShapeLemmas.{gnu_laid_out}
use Rattle.wild_space.specs.Binds.{name_in, is_own, first_definition, definition_of_name}
use Rattle.wild_bound.specs.SelfBinding.{HasGnuTable, HasSysvTable, HasLookUpTable, IsDefined, VisibleSymbolsAreBound, FirstSymbolsAreBound}
use Rattle.wild_bound.proofs.OwnLemmas.{HasBytes, bytes_are, tables_are, symbol_is}

-- the laws on which the proofs depend
pub record LookUps : Type 0 where
  pub laid : LayoutsAreLaidOut
  pub read : DynamicSymbolsAreRead
  pub gnu : GnuLookUpFindsTheFirst
  pub sysv : SysvLookUpFindsTheFirst
  pub ascend : NeighboursAscend

-- ---- the entry of an exported symbol

exported_entry : (l : Layout) (j : ℕ) (d : DynamicSymbol) → slice_get l.dynsyms j ≡ Some d → slice_get (table_symbols l) (length (defined_elsewhere l (files_of l.groups)) + j) ≡ Some (listed l d)
exported_entry l j d h = slice_get-second_list (defined_elsewhere l (files_of l.groups)) (map (listed l) l.dynsyms) j ∙ slice_get-map (listed l) l.dynsyms j ∙ ap (λ (q : Option DynamicSymbol). option_map (listed l) q) h

read_exported : (l : Layout) (j : ℕ) (d : DynamicSymbol) (read : AreReadBack l) → slice_get l.dynsyms j ≡ Some d → IsReadBack l read.tables (first_listed l + j) (listed l d)
read_exported l j d read h =
    let long = length-elsewhere l (files_of l.groups) in
    let place : length (defined_elsewhere l (files_of l.groups)) + j + 1 ≡ first_listed l + j = omega (arith, long) in
    subst (λ (k : ℕ). IsReadBack l read.tables k (listed l d)) place (read.each (length (defined_elsewhere l (files_of l.groups)) + j) (listed l d) (exported_entry l j d h))

defined_is : (l : Layout) (t : ImageTables) (k : ℕ) (d : DynamicSymbol) (b : IsReadBack l t k (listed l d)) → IsDefined (listed l d).fields → (b.entry.section == shn_undef) ≡ false
defined_is l t k d b is = ne_eqb b.entry.section 0 (λ e. is.defined (sym (b.section is.section) ∙ e))

-- ---- bound by visibility

own_bound : (xs : List NamedImage) (order : List ℕ) (n k : ℕ) (e : SymtabEntry) → symbol_of xs (place_of order n) k ≡ Ok e → is_own e ≡ true → IsBoundToItself xs order n k
unfolding bind
own_bound xs order n k e there own = rw (there, own) refl

pub visible_bound : DynamicSymbolsAreRead → VisibleSymbolsAreBound
visible_bound law = λ xs order n j l d h listed_at is visible.
    let read = law l h.written h.hashes in
    let b = read_exported l j d read listed_at in
    let has = bytes_are xs (place_of order n) h.image l h.there h.is in
    let there = symbol_is xs (place_of order n) (first_listed l + j) l b.entry has read b.read in
    let defined = defined_is l read.tables (first_listed l + j) d b is in
    let other : (b.entry.other % 4 == stv_default) ≡ false = ne_eqb (b.entry.other % 4) 0 (λ e. visible (ap (λ (q : ℕ). q % 4) (sym (b.other is.other)) ∙ e)) in
    own_bound xs order n (first_listed l + j) b.entry there (rw (defined, other) refl)

-- ---- found by name

gnu_is : (image name : List ℕ) (t : ImageTables) (p : Part) (k : Option ℕ) → t.gnu_hash ≡ Some (Ok p) → gnu_lookup (bytes_of image p) (bytes_or_none image t.symbols) (bytes_or_none image t.strings) name ≡ Ok k → find_name image t name ≡ Ok k
unfolding find_name
gnu_is image name t p k is found = rw (is, found) refl

sysv_is : (image name : List ℕ) (t : ImageTables) (p : Part) (k : Option ℕ) → t.gnu_hash ≡ None → t.sysv_hash ≡ Some (Ok p) → sysv_lookup (bytes_of image p) (bytes_or_none image t.symbols) (bytes_or_none image t.strings) name ≡ Ok k → find_name image t name ≡ Ok k
unfolding find_name
sysv_is image name t p k none is found = rw (none, is, found) refl

pub name_found : LookUps → (l : Layout) (name : List ℕ) → IsWritten l → (read : AreReadBack l) → HasLookUpTable l → find_name (bytes l) read.tables name ≡ Ok (first_with_name l name)
name_found laws l name w read has = elim has [
  | inl g ↦ by_gnu g
  | inr s ↦ by_sysv s.0 s.1
]
  where
    laid : IsLaidOut l
    laid = (let formed = well_formed l w.none in laws.laid l formed.0 formed.1)

    by_gnu : HasGnuTable l → find_name (bytes l) read.tables name ≡ Ok (first_with_name l name)
    by_gnu g =
        let h = g.shape in
        let t = read.hashes.gnu h g.part g.given g.there in
        let fits = laid.hashes.gnu h g.given in
        let base = fits.base in
        let symbols = bytes_or_none (bytes l) read.tables.symbols in
        let strings = bytes_or_none (bytes l) read.tables.strings in
        let numbered = subst (λ (b : ℕ). AreNumbered symbols strings b l.dynsyms) (sym base) read.hashes.numbered in
        let numbers = w.numbers.gnu h g.given in
        let header : GnuHashHeaderFits (gnu_header h) = record { bucket_count = numbers.buckets; symbol_base = numbers.base; bloom_count = numbers.bloom_count; bloom_shift = numbers.bloom_shift } in
        let answer = laws.gnu (bytes_of (bytes l) t.part) symbols strings (gnu_header h) l.dynsyms name t.there numbered (gnu_laid_out l h laws.ascend fits header) in
        gnu_is (bytes l) name read.tables t.part (first_with_name l name) t.is (subst (λ (b : ℕ). gnu_lookup (bytes_of (bytes l) t.part) symbols strings name ≡ Ok (first_named b (names_of l.dynsyms) name)) base answer)

    by_sysv : filled_part l role.GnuHash ≡ None → HasSysvTable l → find_name (bytes l) read.tables name ≡ Ok (first_with_name l name)
    by_sysv none s =
        let h = s.shape in
        let t = read.hashes.sysv h s.part s.given s.there in
        let symbols = bytes_or_none (bytes l) read.tables.symbols in
        let strings = bytes_or_none (bytes l) read.tables.strings in
        let answer = laws.sysv (bytes_of (bytes l) t.part) symbols strings h.buckets (first_listed l) l.dynsyms name t.there read.hashes.numbered (laid.hashes.sysv h s.given) (w.numbers.sysv h s.given).buckets in
        sysv_is (bytes l) name read.tables t.part (first_with_name l name) (read.hashes.no_gnu none) t.is answer

definition_found : (image name : List ℕ) (t : ImageTables) (k : ℕ) (e : SymtabEntry) → find_name image t name ≡ Ok (Some k) → symbol_at image t k ≡ Ok e → (e.section == shn_undef) ≡ false → find_definition image t name ≡ Ok (Some k)
unfolding find_definition
definition_found image name t k e found there defined = rw (found, there, defined) refl

find_is : (xs : List NamedImage) (i k : ℕ) (l : Layout) (name : List ℕ) → HasBytes xs i l → (read : AreReadBack l) → find_definition (bytes l) read.tables name ≡ Ok (Some k) → find_in xs i name ≡ Ok (Some k)
unfolding find_in
find_is xs i k l name has read is = rw (tables_are xs i l has read, has, is) refl

name_is : (xs : List NamedImage) (i : ℕ) (l : Layout) (e : SymtabEntry) (name : List ℕ) → HasBytes xs i l → (read : AreReadBack l) → text_at (bytes l) read.tables e.name ≡ Ok name → name_in xs i e ≡ Ok name
unfolding name_in
name_is xs i l e name has read is = rw (tables_are xs i l has read, has, is) refl

first_found : (xs : List NamedImage) (i k : ℕ) (js name : List ℕ) → find_in xs i name ≡ Ok (Some k) → first_definition xs 0 (i ∷ js) name ≡ Ok (Some (record { image = 0; index = k }))
unfolding first_definition
first_found xs i k js name found = rw found refl

named_bound : (xs : List NamedImage) (i : ℕ) (js : List ℕ) (k : ℕ) (e : SymtabEntry) (name : List ℕ) → symbol_of xs i k ≡ Ok e → name_in xs i e ≡ Ok name → find_in xs i name ≡ Ok (Some k) → IsBoundToItself xs (i ∷ js) 0 k
unfolding bind definition_of_name
named_bound xs i js k e name there named found =
    elim (cases_Bool (is_own e)) [
      | inl t ↦ rw (there, t) refl
      | inr f ↦ rw (there, f, named, first_found xs i k js name found) refl
    ]

pub first_bound : LookUps → FirstSymbolsAreBound
first_bound laws = λ xs order j l d some h table listed_at is first. by_order laws xs order j l d some h table listed_at is first
  where
    by_order : LookUps → FirstSymbolsAreBound
    by_order laws xs [] j l d some h table listed_at is first = absurd (omega (arith, some))
    by_order laws xs (i ∷ js) j l d some h table listed_at is first =
        let read = laws.read l h.written h.hashes in
        let formed = well_formed l h.written.none in
        let laid = laws.laid l formed.0 formed.1 in
        let k = first_listed l + j in
        let b = read_exported l j d read listed_at in
        let has = bytes_are xs i h.image l h.there h.is in
        let there = symbol_is xs i k l b.entry has read b.read in
        let defined = defined_is l read.tables k d b is in
        let whole : HasNoZero d.name = holds_at (λ (q : DynamicSymbol). HasNoZero q.name) l.dynsyms j d listed_at laid.dynsyms.named in
        let named = name_is xs i l b.entry d.name has read (b.name whole) in
        let found : find_name (bytes l) read.tables d.name ≡ Ok (Some k) = name_found laws l d.name h.written read table ∙ ap (λ (q : Option ℕ). Ok q) first in
        named_bound xs i js k b.entry d.name there named (find_is xs i k l d.name has read (definition_found (bytes l) d.name read.tables k b.entry found b.read defined))
