-- The answer for a symbol that is bound to itself is the output's own.
use Rattle.wild_bound.proofs.Common.{◌≡◌, ℕ, zero, ◌+◌, ◌-◌, ◌%◌, ◌^◌, ◌<◌, inl, inr, Bool, true, false, if◌then◌else◌, List, refl, sym, ap, ◌∙◌, arith, subst, Option, Some, None, Result, Ok, Err, ◌==◌, not, slice_get, cases_Bool, and_parts, eqb-true, ne_eqb, shn_undef, SymtabEntry, Layout, Resolution, Symbol, has_flag, absolute, is_thread_symbol, World, ImageTables, find_name, symbol_at, bytes, thread_address, find_definition, AreReadBack, BindFault, NamedImage, BindsAreFirst, place_of, symbol_of, find_in, thread_start_of, address_of, offset_of, IsBoundToItself, SymbolNumbers, HasPlainEntry}
use Rattle.std.proofs.lemmas.Bool.{eq-eqb}
use Rattle.wild_records.specs.Abi.Section.{shn_abs}
use Rattle.wild_records.specs.Abi.Symbol.{stt_tls, stt_gnu_ifunc, stv_default}
use Rattle.wild_types.specs.Flags.{ifunc}
use Rattle.wild_table_formats.specs.DynamicEntries.{NamedFields}
use Rattle.wild_loader.specs.Changes.{first_value}
use Rattle.wild_hashes.specs.declared.fault.ImageFault.{ImageFault}
use Rattle.wild_hashes.specs.Image.{◌>>>◌}
use Rattle.wild_hashes.specs.ImageTables.{headers_of}
use Rattle.wild_imports.specs.Imports.{definition_at}
use Rattle.wild_names.specs.ReadLaws.{IsReadBack}
use Rattle.wild_meaning.specs.Value.{IsValue}
use Rattle.wild_space.specs.declared.fault.BindFault.TheVariants as faults
use Rattle.wild_space.specs.BindLaws.{IsBound}
use Rattle.wild_space.specs.Binds.{is_own}
use Rattle.wild_space.specs.Given.{◌>>=◌, known, look}
use Rattle.wild_space.specs.Order.{bytes_at, bytes_of_image, tables_of}
use Rattle.wild_bound.proofs.EntryLemmas.{counted_value, AreUndefinedOrOwn}

-- ---- what is read of the image

-- image i of the input is that of the layout
abbrev pub HasBytes : List NamedImage → ℕ → Layout → Type 0
HasBytes xs i l = bytes_at xs i ≡ bytes l

pub bytes_are : (xs : List NamedImage) (i : ℕ) (x : NamedImage) (l : Layout) → slice_get xs i ≡ Some x → x.bytes ≡ bytes l → HasBytes xs i l
bytes_are xs i x l there is = ap bytes_of_image there ∙ is

pub tables_are : (xs : List NamedImage) (i : ℕ) (l : Layout) → HasBytes xs i l → (read : AreReadBack l) → tables_of xs i ≡ Ok read.tables
unfolding tables_of
tables_are xs i l has read = rw (has, read.are) refl

pub symbol_is : (xs : List NamedImage) (i k : ℕ) (l : Layout) (e : SymtabEntry) → HasBytes xs i l → (read : AreReadBack l) → symbol_at (bytes l) read.tables k ≡ Ok e → symbol_of xs i k ≡ Ok e
unfolding symbol_of
symbol_is xs i k l e has read is = rw (tables_are xs i l has read, has, is) refl

pub start_is : (xs : List NamedImage) (i : ℕ) (l : Layout) → HasBytes xs i l → (read : AreReadBack l) → thread_start_of xs i ≡ Ok (thread_address (headers_of (bytes l) read.tables.headers))
unfolding thread_start_of
start_is xs i l has read = rw (tables_are xs i l has read, has) refl

-- ---- a symbol that is bound to itself is defined

-- the entry of a definition that is found
record IsDefinedAt (xs : List NamedImage) (i k : ℕ) : Type 0 where
  entry : SymtabEntry
  there : symbol_of xs i k ≡ Ok entry
  defined : (entry.section == shn_undef) ≡ false

abbrev defined_or_none : SymtabEntry → ℕ → Result (Option ℕ) ImageFault
defined_or_none e m = if e.section == shn_undef then Ok None else Ok (Some m)

definition_is : (image : List ℕ) (t : ImageTables) (found : Option ℕ) (k : ℕ) → definition_at image t found ≡ Ok (Some k) → (e : SymtabEntry) × (symbol_at image t k ≡ Ok e) × ((e.section == shn_undef) ≡ false)
definition_is image t None k h = (let no : ⊥ = cc in absurd no)
definition_is image t (Some m) k h = by_entry (symbol_at image t m) refl h
  where
    by_section : (e : SymtabEntry) → symbol_at image t m ≡ Ok e → defined_or_none e m ≡ Ok (Some k) → (e : SymtabEntry) × (symbol_at image t k ≡ Ok e) × ((e.section == shn_undef) ≡ false)
    by_section e is h =
        elim (cases_Bool (e.section == shn_undef)) [
          | inl u ↦ (let none : Ok None ≡ Ok (Some k) = rw u at h in let no : ⊥ = cc in absurd no)
          | inr d ↦ (let some : Ok (Some m) ≡ Ok (Some k) = rw d at h in let same : m ≡ k = cc in (e, subst (λ (q : ℕ). symbol_at image t q ≡ Ok e) same is, d))
        ]

    by_entry : (r : Result SymtabEntry ImageFault) → symbol_at image t m ≡ r → (r >>> λ e. defined_or_none e m) ≡ Ok (Some k) → (e : SymtabEntry) × (symbol_at image t k ≡ Ok e) × ((e.section == shn_undef) ≡ false)
    by_entry (Err f) is h = (let no : ⊥ = cc in absurd no)
    by_entry (Ok e) is h = by_section e is h

found_is : (image name : List ℕ) (t : ImageTables) (k : ℕ) → find_definition image t name ≡ Ok (Some k) → (e : SymtabEntry) × (symbol_at image t k ≡ Ok e) × ((e.section == shn_undef) ≡ false)
unfolding find_definition
found_is image name t k h = by_found (find_name image t name) h
  where
    by_found : (r : Result (Option ℕ) ImageFault) → (r >>> λ found. definition_at image t found) ≡ Ok (Some k) → (e : SymtabEntry) × (symbol_at image t k ≡ Ok e) × ((e.section == shn_undef) ≡ false)
    by_found (Err f) h = (let no : ⊥ = cc in absurd no)
    by_found (Ok found) h = definition_is image t found k h

look_ok : {A : Type 0} (i : ℕ) (r : Result A ImageFault) (x : A) → look i r ≡ Ok x → r ≡ Ok x
look_ok i (Ok y) x h = (let e : y ≡ x = cc in ap Ok e)
look_ok i (Err f) x h = (let no : ⊥ = cc in absurd no)

defined_found : (xs : List NamedImage) (i k : ℕ) (name : List ℕ) → find_in xs i name ≡ Ok (Some k) → IsDefinedAt xs i k
unfolding find_in symbol_of
defined_found xs i k name h = by_tables (tables_of xs i) refl h
  where
    by_tables : (r : Result ImageTables BindFault) → tables_of xs i ≡ r → (r >>= λ t. look i (find_definition (bytes_at xs i) t name)) ≡ Ok (Some k) → IsDefinedAt xs i k
    by_tables (Err f) is h = (let no : ⊥ = cc in absurd no)
    by_tables (Ok t) is h =
        let d = found_is (bytes_at xs i) name t k (look_ok i (find_definition (bytes_at xs i) t name) (Some k) h) in
        record { entry = d.0; there = rw (is, d.1) refl; defined = d.2 }

own_defined : (e : SymtabEntry) → is_own e ≡ true → (e.section == shn_undef) ≡ false
own_defined e h = not_true (e.section == shn_undef) (and_parts (not (e.section == shn_undef)) (not (e.other % 4 == stv_default)) h).0
  where
    not_true : (b : Bool) → not b ≡ true → b ≡ false
    not_true true h = cc
    not_true false h = refl

-- so no entry that is bound to itself is undefined
pub itself_defined : BindsAreFirst → (xs : List NamedImage) (order : List ℕ) (n k : ℕ) (e : SymtabEntry) → IsBoundToItself xs order n k → symbol_of xs (place_of order n) k ≡ Ok e → (e.section == shn_undef) ≡ false
itself_defined law xs order n k e itself is = by_case (law xs order n k (record { image = n; index = k }) itself)
  where
    by_entry : (q : SymtabEntry) → symbol_of xs (place_of order n) k ≡ Ok q → (q.section == shn_undef) ≡ false → (e.section == shn_undef) ≡ false
    by_entry q there defined =
        let both : Ok q ≡ Ok e = sym there ∙ is in
        let same : q ≡ e = cc in
        subst (λ (t : SymtabEntry). (t.section == shn_undef) ≡ false) same defined

    by_case : IsBound xs order n k (record { image = n; index = k }) → (e.section == shn_undef) ≡ false
    by_case b = elim b.is [
      | inl i ↦ by_entry b.entry b.there (own_defined b.entry i.own)
      | inr f ↦ (let d = defined_found xs (place_of order n) k f.name f.first.here in by_entry d.entry d.there d.defined)
    ]

-- ---- the value of an own entry

-- the entry has the fields of an own symbol
pub record IsOwnEntry (l : Layout) (s : Symbol) (r : Resolution) (e : SymtabEntry) : Type 0 where
  pub still : (e.section == shn_abs) ≡ has_flag s.flags absolute
  pub indirect : (e.info % 16 == stt_gnu_ifunc) ≡ has_flag s.flags ifunc
  pub thread : (e.info % 16 == stt_tls) ≡ is_thread_symbol s
  pub value : e.value ≡ counted_value (is_thread_symbol s) (has_flag s.flags absolute) r.raw_value l.tls.start
  pub size : e.size ≡ s.size

known_is : (o : Option ℕ) (f : BindFault) (a : ℕ) → known o f ≡ Ok a → o ≡ Some a
known_is None f a h = (let no : ⊥ = cc in absurd no)
known_is (Some v) f a h = (let e : v ≡ a = cc in ap (λ (q : ℕ). Some q) e)

pub address_is : (rs : List (ℕ × ℕ)) (e : SymtabEntry) (w : World) (b raw start a : ℕ) (still indirect thread : Bool) → w.resolvers ≡ rs → w.base ≡ b → start < 2 ^ 64
    → (e.section == shn_abs) ≡ still → (e.info % 16 == stt_gnu_ifunc) ≡ indirect → (e.info % 16 == stt_tls) ≡ thread → (indirect ≡ true → still ≡ false) → (indirect ≡ true → thread ≡ false) → e.value ≡ counted_value thread still raw start → address_of rs b start e ≡ Ok a → IsValue w indirect still raw a
unfolding address_of
address_is rs e w b raw start a true true thread resolvers base low abs ind thr moves apart value h = (let no : true ≡ false = moves refl in cc)
address_is rs e w b raw start a true false true resolvers base low abs ind thr moves apart value h =
    let v : Ok e.value ≡ Ok a = rw abs at h in
    let s : e.value ≡ a = cc in
    sym s ∙ value
address_is rs e w b raw start a true false false resolvers base low abs ind thr moves apart value h =
    let v : Ok e.value ≡ Ok a = rw abs at h in
    let s : e.value ≡ a = cc in
    sym s ∙ value
address_is rs e w b raw start a false true true resolvers base low abs ind thr moves apart value h = (let no : true ≡ false = apart refl in cc)
address_is rs e w b raw start a false true false resolvers base low abs ind thr moves apart value h =
    let place = (b + e.value) % 2 ^ 64 in
    let v : known (first_value rs place) (faults.NoAnswer place) ≡ Ok a = rw (abs, ind) at h in
    let found : first_value rs place ≡ Some a = known_is (first_value rs place) (faults.NoAnswer place) a v in
    let there : first_value rs ((b + raw) % 2 ^ 64) ≡ Some a = subst (λ (q : ℕ). first_value rs ((b + q) % 2 ^ 64) ≡ Some a) value found in
    rw (resolvers, base, there) refl
address_is rs e w b raw start a false false true resolvers base low abs ind thr moves apart value h =
    let v : Ok ((b + e.value + start) % 2 ^ 64) ≡ Ok a = rw (abs, ind, thr) at h in
    let s : (b + e.value + start) % 2 ^ 64 ≡ a = cc in
    sym s ∙ omega (arith, value, low, base)
address_is rs e w b raw start a false false false resolvers base low abs ind thr moves apart value h =
    let v : Ok ((b + e.value) % 2 ^ 64) ≡ Ok a = rw (abs, ind, thr) at h in
    let s : (b + e.value) % 2 ^ 64 ≡ a = cc in
    sym s ∙ rw (base, sym value) refl

pub offset_is : (e : SymtabEntry) (raw start : ℕ) (still thread : Bool) → (e.section == shn_abs) ≡ still → (e.info % 16 == stt_tls) ≡ thread → e.value ≡ counted_value thread still raw start → offset_of start e ≡ (raw + (2 ^ 64 - start)) % 2 ^ 64
offset_is e raw start true true abs thr value = rw (thr, abs, value) refl
offset_is e raw start true false abs thr value = rw (thr, value) refl
offset_is e raw start false true abs thr value = rw (thr, abs) value
offset_is e raw start false false abs thr value = rw (thr, value) refl

-- a type is one number
pub types_differ : (info : ℕ) (indirect thread : Bool) → (info % 16 == stt_gnu_ifunc) ≡ indirect → (info % 16 == stt_tls) ≡ thread → indirect ≡ true → thread ≡ false
types_differ info indirect thread ind thr t = sym thr ∙ ne_eqb (info % 16) 6 (λ e. (let ten : info % 16 ≡ 10 = eqb-true (info % 16) 10 (ind ∙ t) in omega (arith, e, ten)))

counted_small : (thread still : Bool) (raw start : ℕ) → raw < 2 ^ 64 → counted_value thread still raw start < 2 ^ 64
counted_small true true raw start h = h
counted_small true false raw start h = omega arith
counted_small false still raw start h = h

pub own_entry : (l : Layout) (t : ImageTables) (k : ℕ) (n : NamedFields) (s : Symbol) (r : Resolution) → (b : IsReadBack l t k n) → AreUndefinedOrOwn l s r n.fields → SymbolNumbers s → HasPlainEntry l s r → r.raw_value < 2 ^ 64 → (b.entry.section == shn_undef) ≡ false → IsOwnEntry l s r b.entry
own_entry l t k n s r b are fits plain small defined = elim are [
  | inl u ↦
      (let none : n.fields.section < 2 ^ 16 = omega (arith, u) in
      let zero : b.entry.section ≡ 0 = b.section none ∙ u in
      let yes : (b.entry.section == 0) ≡ true = eq-eqb b.entry.section 0 zero in
      let no : ⊥ = cc in
      absurd no)
  | inr f ↦
      (let own = f.info in
      let byte = fits.info in
      let long = fits.size in
      let sized = f.size in
      let valued = f.value in
      let low = counted_small (is_thread_symbol s) (has_flag s.flags absolute) r.raw_value l.tls.start small in
      let info : b.entry.info ≡ s.info = b.info (omega (arith, own, byte)) ∙ own in
      let section = b.section f.small in
      record {
        still = ap (λ (q : ℕ). q == shn_abs) section ∙ f.still;
        indirect = ap (λ (q : ℕ). q % 16 == stt_gnu_ifunc) info ∙ plain.indirect;
        thread = ap (λ (q : ℕ). q % 16 == stt_tls) info;
        value = b.value (omega (arith, valued, low)) ∙ valued;
        size = b.size (omega (arith, sized, long)) ∙ sized;
      })
]
