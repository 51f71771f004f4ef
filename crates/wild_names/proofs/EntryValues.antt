-- What entries of the symbol table tell of symbols that stand in sections, in none, and nowhere in the object.
use Rattle.wild_names.proofs.Common.{◌≡◌, ℕ, ◌+◌, ◌-◌, ◌%◌, ◌^◌, ◌<◌, ◌≤◌, inl, inr, ◌==◌, Bool, true, false, [], ◌∷◌, ◌++◌, length, refl, sym, ap, ◌∙◌, arith, subst, Option, Some, None, is_some, Ok, nat_lt, if◌then◌else◌, ◌&&◌, slice_get, cases_Bool, ne_eqb, File, FileRole, Part, InputSection, Symbol, Layout, is_library, is_partial_link, section_of, files_of, base_of, output_section, TableFields, NamedEntry, table_attributes, table_by, IsLaidOut}
use Rattle.std.proofs.lemmas.Bool.{ltb-true}
use Rattle.wild_words.proofs.ListLemmas.{holds_at}
use Rattle.wild_records.specs.Abi.Section.{shn_undef, shn_abs, shn_loreserve, shn_xindex}
use Rattle.wild_records.specs.SymbolSections.{split_index}
use Rattle.wild_types.specs.declared.kind.OutputKind.{OutputKind}
use Rattle.wild_types.specs.declared.kind.OutputKind.TheVariants as output
use Rattle.wild_types.specs.declared.symbol.Place.TheVariants as at
use Rattle.wild_types.specs.Addresses.{raw_value}
use Rattle.wild_types.specs.Flags.{has_flag, ifunc}
use Rattle.wild_types.specs.Kinds.{has_fixed_load_address}
use Rattle.wild_types.specs.Lookups.{section_of_part, file_of}
use Rattle.wild_types.specs.SymbolSlots.{plt_of}
use Rattle.wild_needs.specs.DynamicSymbols.{section_of_input}
use Rattle.wild_table_formats.specs.declared.symbols.SymbolAttributes.{SymbolAttributes}
use Rattle.wild_table_formats.specs.DynamicFields.{is_thread_symbol, some_section, has_stub_address}
use Rattle.wild_table_formats.specs.TableEntries.{in_table_section, counted_from, table_value, table_at}
use Rattle.wild_table_formats.specs.SectionSymbols.{symbol_section}
use Rattle.wild_names.specs.Links.{Link, entry_value, IsInObjectSection}

-- ---- entries

-- the value of an entry in a section
pub in_section : (k : Link) (n : ℕ) (e : NamedEntry) → 1 ≤ n → n < 2 ^ 32 → e.fields.fields.section ≡ (split_index n).0 → e.fields.long ≡ (split_index n).1 % 2 ^ 32 → entry_value k e ≡ (k.section n + e.fields.fields.value) % 2 ^ 64
in_section k n e some few section long =
    elim (cases_Bool (nat_lt n shn_loreserve)) [
      | inl t ↦
          (let lt = ltb-true n shn_loreserve t in
          let is : e.fields.fields.section ≡ n = rw t at section in
          let defined : (n == shn_undef) ≡ false = ne_eqb n shn_undef (λ z. omega (arith, z, some)) in
          let relative : (n == shn_abs) ≡ false = ne_eqb n shn_abs (λ z. omega (arith, z, lt)) in
          let short : (n == shn_xindex) ≡ false = ne_eqb n shn_xindex (λ z. omega (arith, z, lt)) in
          rw (is, defined, relative, short) refl)
      | inr f ↦
          (let is : e.fields.fields.section ≡ shn_xindex = rw f at section in
          let there : e.fields.long ≡ n % 2 ^ 32 = rw f at long in
          let all : n % 2 ^ 32 ≡ n = omega (arith, few) in
          rw (is, there, all) refl)
    ]

-- ---- sections

-- the section that a part lies in has a header
pub section_low : (l : Layout) (part : ℕ) → IsLaidOut l → section_of l part < 2 ^ 32
section_low l part laid = by (slice_get l.parts part) refl
  where
    by : (o : Option Part) → slice_get l.parts part ≡ o → section_of_part o < 2 ^ 32
    by None e = omega arith
    by (Some p) e = (let lt = holds_at (λ (q : Part). q.section < length l.sections) l.parts part p e laid.named in let few = laid.sections in omega (arith, lt, few))

-- ---- symbols of input sections

no_stub : (l : Layout) (s : Symbol) → is_partial_link l.kind ≡ true → has_stub_address l s ≡ false
no_stub l s partial = none (has_flag s.flags ifunc) (is_some (plt_of s)) (has_fixed_load_address l.kind) (moves l.kind partial)
  where
    moves : (k : OutputKind) → is_partial_link k ≡ true → has_fixed_load_address k ≡ false
    moves output.PartialObject h = refl
    moves k h = cc

    none : (a b c : Bool) → c ≡ false → (a && (b && c)) ≡ false
    none true true c h = h
    none true false c h = refl
    none false b c h = refl

-- where the symbol stands, in the object's section
pub record IsTableValue (l : Layout) (i : ℕ) (s : Symbol) (t : InputSection) : Type 0 where
  pub value : ℕ
  pub is : table_value l i s ≡ Some value
  pub same : value % 2 ^ 64 ≡ (base_of t + s.value) % 2 ^ 64

table_value_is : (l : Layout) (i n : ℕ) (s : Symbol) (t : InputSection) → is_partial_link l.kind ≡ true → symbol_section l i ≡ Some t → IsInObjectSection l t n → ((a : ℕ) → raw_value l i ≡ Some a → a ≡ (t.address + s.value) % 2 ^ 64) → IsTableValue l i s t
table_value_is l i n s t partial there stands own = by t.singleton refl
  where
    decided : (o : Option ℕ) → raw_value l i ≡ o → t.singleton ≡ None → IsTableValue l i s t
    decided None r e =
        let kept = stands.kept in
        record { value = (t.address + s.value) % 2 ^ 64; is = rw (partial, there, e, r, kept) refl; same = rw e (omega arith) }
    decided (Some a) r e =
        let is = own a r in
        record { value = a; is = rw (partial, there, e, r) refl; same = rw e (omega (arith, is)) }

    by : (o : Option ℕ) → t.singleton ≡ o → IsTableValue l i s t
    by (Some h) e = record { value = s.value; is = rw (partial, there, e) refl; same = rw e (omega arith) }
    by None e = decided (raw_value l i) refl e

-- of thread-local data that begin at 0 nothing is taken off
counted_same : (l : Layout) (s : Symbol) (v : ℕ) → (is_thread_symbol s ≡ true → l.tls.start ≡ 0) → counted_from l s v % 2 ^ 64 ≡ v % 2 ^ 64
counted_same l s v start = by (is_thread_symbol s) refl
  where
    by : (b : Bool) → is_thread_symbol s ≡ b → (if b then (v + (2 ^ 64 - l.tls.start)) % 2 ^ 64 else v) % 2 ^ 64 ≡ v % 2 ^ 64
    by true e = (let z = start e in omega (arith, z))
    by false e = refl

-- fields that tell the section n, and a value there
pub record TellsIn (n v : ℕ) (f : TableFields) : Type 0 where
  pub section : f.fields.section ≡ (split_index n).0
  pub long : f.long ≡ (split_index n).1 % 2 ^ 32
  pub value : f.fields.value % 2 ^ 64 ≡ v % 2 ^ 64

tells_in : (i n v w : ℕ) (a : SymbolAttributes) (f : TableFields) (o : Option ℕ) → o ≡ Some n → v % 2 ^ 64 ≡ w % 2 ^ 64 → in_table_section i o v a ≡ Ok f → TellsIn n w f
tells_in i n v w a f None e same told = cc
tells_in i n v w a f (Some m) e same told =
    let is : m ≡ n = cc in
    let made : record { fields = record { section = (split_index m).0; value = v; attributes = a }; long = (split_index m).1 % 2 ^ 32 } ≡ f = cc in
    subst (TellsIn n w) made (record { section = ap (λ (k : ℕ). (split_index k).0) is; long = ap (λ (k : ℕ). (split_index k).1 % 2 ^ 32) is; value = same })

-- a file that is no library has the symbol by its place
pub own_place : (l : Layout) (i : ℕ) (role : FileRole) (s : Symbol) (section : ℕ) → is_library role ≡ false → table_by l i role s section ≡ table_at l i role s section s.place
own_place l i role s section h = rw h refl

pub symbol_in_section : (l : Layout) (f : File) (i j n : ℕ) (s : Symbol) (t : InputSection) (fields : TableFields) → is_partial_link l.kind ≡ true → is_library f.role ≡ false → slice_get l.symbols i ≡ Some s → file_of (files_of l.groups) i ≡ Some f → s.place ≡ at.Section j → symbol_section l i ≡ Some t → IsInObjectSection l t n
    → ((a : ℕ) → raw_value l i ≡ Some a → a ≡ (t.address + s.value) % 2 ^ 64) → (is_thread_symbol s ≡ true → l.tls.start ≡ 0) → table_by l i f.role s (output_section l (Some f) s.place) ≡ Ok fields → TellsIn n (base_of t + s.value) fields
symbol_in_section l f i j n s t fields partial plain listed filed placed there stands own start told =
    let v = table_value_is l i n s t partial there stands own in
    let stub = no_stub l s partial in
    let same = counted_same l s v.value start in
    let equal = v.same in
    let input : slice_get f.sections j ≡ Some t = rw (listed, placed, filed) at there in
    let section : section_of_input l (slice_get f.sections j) ≡ n = ap (section_of_input l) input ∙ stands.is in
    let some = stands.some in
    let at_n : some_section (section_of_input l (slice_get f.sections j)) ≡ Some n = ap some_section section ∙ rw (ne_eqb n 0 (λ z. omega (arith, z, some))) refl in
    let by_place : table_at l i f.role s (section_of_input l (slice_get f.sections j)) (at.Section j) ≡ Ok fields = rw placed at (sym (own_place l i f.role s (output_section l (Some f) s.place) plain) ∙ told) in
    let in_it : in_table_section i (some_section (section_of_input l (slice_get f.sections j))) (counted_from l s v.value) (table_attributes f.role s) ≡ Ok fields = rw (stub, v.is) at by_place in
    tells_in i n (counted_from l s v.value) (base_of t + s.value) (table_attributes f.role s) fields (some_section (section_of_input l (slice_get f.sections j))) at_n (same ∙ equal) in_it
