-- The worked layouts have no faults, their numbers are in their types' ranges, and their images have these bytes.
use Rattle.wild_bound.proofs.Common.{◌≡◌, ℕ, ◌^◌, ◌<◌, Bool, true, List, [], ◌∷◌, refl, arith, subst, ◌&&◌, All, nat_lt, Some, w64, and_parts, All-nil, Resolution, File, bytes}
use Rattle.std.specs.List.{list_all}
use Rattle.std.proofs.lemmas.Bool.{ltb-true}
use Rattle.std.proofs.lemmas.Int.{fits_signed_from_abs}
use Rattle.std.proofs.lemmas.List.Elements.{All-from_recursion, All-weaker}
use lib.Count.{ones}
use lib.IntN.{negsuc}
use Rattle.wild_words.proofs.ListLemmas.{All-from_list_all}
use Rattle.wild_records.specs.Dynamic.{DynamicEntryFits}
use Rattle.wild_records.specs.declared.dynamic.DynamicEntry.{DynamicEntry}
use Rattle.wild_types.specs.declared.section.Section.{Section}
use Rattle.wild_types.specs.declared.file.Group.{Group}
use Rattle.wild_needs.specs.Dynamic.{dynamic_entries}
use Rattle.wild_layout.specs.Faults.{errors}
use Rattle.wild_layout.specs.Numbers.{NumbersFit, AddendFits, InputNumbers, SegmentNumbers, SectionNumbers, ResolutionNumbers, SymbolNumbers}
use Rattle.wild_sample_layouts.specs.CallingPlans.{call_bytes, call_reference}
use Rattle.wild_sample_layouts.proofs.OnLiterals.{clauses_on_literals, errors_on_literals}
use Rattle.wild_bound.specs.Worked.{code_section, worked_segments, exported_function, library_sections, return_bytes, library_files, library_layout, needed_function, program_sections, program_files, program_layout}
use Rattle.wild_bound.proofs.OnImages.{bytes_on_literals}
use Rattle.wild_bound.proofs.WorkedBytes.{library_bytes, program_bytes}

-- ---- faults

pub library_errors : errors library_layout ≡ []
unfolding errors_on_literals library_layout ones
library_errors = refl

pub program_errors : errors program_layout ≡ []
unfolding errors_on_literals program_layout ones
program_errors = refl

-- ---- bytes

pub library_is : bytes library_layout ≡ library_bytes
unfolding bytes_on_literals library_layout ones
library_is = refl

pub program_is : bytes program_layout ≡ program_bytes
unfolding bytes_on_literals program_layout ones
program_is = refl

-- ---- numbers

segments_fit : (end dynamic size : ℕ) → end < 2 ^ 32 → dynamic < 2 ^ 32 → size < 2 ^ 32 → All SegmentNumbers (worked_segments end dynamic size)
segments_fit end dynamic size a b c = All-from_recursion SegmentNumbers (worked_segments end dynamic size) (
  record { kind = omega arith; flags = omega arith; offset = omega arith; address = omega arith; physical = omega arith; file_size = omega (arith, a); mem_size = omega (arith, a); align = omega arith },
  (record { kind = omega arith; flags = omega arith; offset = omega (arith, b); address = omega (arith, b); physical = omega (arith, b); file_size = omega (arith, c); mem_size = omega (arith, c); align = omega arith }, tt),
)

-- the numbers of a section are small
abbrev is_small : Section → Bool
is_small s = nat_lt s.kind (2 ^ 32) && (nat_lt s.flags (2 ^ 64) && (nat_lt s.address (2 ^ 64) && (nat_lt s.offset (2 ^ 64) && (nat_lt s.size (2 ^ 64) && (nat_lt s.link (2 ^ 32) && (nat_lt s.info (2 ^ 32) && (nat_lt s.align (2 ^ 64) && nat_lt s.entsize (2 ^ 64))))))))

small_fits : (s : Section) → is_small s ≡ true → SectionNumbers s
small_fits s h =
    let a = and_parts (nat_lt s.kind (2 ^ 32)) _ h in
    let b = and_parts (nat_lt s.flags (2 ^ 64)) _ a.1 in
    let c = and_parts (nat_lt s.address (2 ^ 64)) _ b.1 in
    let d = and_parts (nat_lt s.offset (2 ^ 64)) _ c.1 in
    let e = and_parts (nat_lt s.size (2 ^ 64)) _ d.1 in
    let f = and_parts (nat_lt s.link (2 ^ 32)) _ e.1 in
    let g = and_parts (nat_lt s.info (2 ^ 32)) _ f.1 in
    let i = and_parts (nat_lt s.align (2 ^ 64)) _ g.1 in
    record {
      places = record { kind = ltb-true _ _ a.0; flags = ltb-true _ _ b.0; address = ltb-true _ _ c.0; offset = ltb-true _ _ d.0; size = ltb-true _ _ e.0 };
      links = record { link = ltb-true _ _ f.0; info = ltb-true _ _ g.0; align = ltb-true _ _ i.0; entsize = ltb-true _ _ i.1 };
    }

sections_fit : (ss : List Section) → list_all is_small ss ≡ true → All SectionNumbers ss
sections_fit ss h = All-weaker (λ (s : Section). is_small s ≡ true) SectionNumbers small_fits ss (All-from_list_all is_small ss h)

some_is : (x y : Resolution) → Some x ≡ Some y → x ≡ y
some_is x y h = cc

exported_fits : SymbolNumbers exported_function
exported_fits = λ r is. subst ResolutionNumbers (some_is _ r is) (record { value = omega arith; slots = λ a h. (let no : ⊥ = cc in absurd no); stub = λ a h. (let no : ⊥ = cc in absurd no) })

needed_fits : SymbolNumbers needed_function
needed_fits = λ r is. subst ResolutionNumbers (some_is _ r is) (record { value = omega arith; slots = λ a h. (let at : 264 ≡ a = cc in omega (arith, at)); stub = λ a h. (let no : ⊥ = cc in absurd no) })

abbrev fits : DynamicEntry → Bool
fits d = nat_lt d.tag (2 ^ 64) && nat_lt d.value (2 ^ 64)

entry_fits : (d : DynamicEntry) → fits d ≡ true → DynamicEntryFits d
entry_fits d h = let p = and_parts (nat_lt d.tag (2 ^ 64)) (nat_lt d.value (2 ^ 64)) h in record { tag = ltb-true _ _ p.0; value = ltb-true _ _ p.1 }

entries_fit : (ds : List DynamicEntry) → list_all fits ds ≡ true → All DynamicEntryFits ds
entries_fit ds h = All-weaker (λ (d : DynamicEntry). fits d ≡ true) DynamicEntryFits entry_fits ds (All-from_list_all fits ds h)

bytes_fit : (bs : List ℕ) → list_all (λ (b : ℕ). nat_lt b (2 ^ 8)) bs ≡ true → All (λ (b : ℕ). b < 2 ^ 8) bs
bytes_fit bs h = All-weaker (λ (b : ℕ). nat_lt b (2 ^ 8) ≡ true) (λ (b : ℕ). b < 2 ^ 8) (λ b t. ltb-true b (2 ^ 8) t) bs (All-from_list_all (λ (b : ℕ). nat_lt b (2 ^ 8)) bs h)

returns_fit : InputNumbers (code_section return_bytes [])
returns_fit = record { bytes = bytes_fit return_bytes refl; addends = All-nil AddendFits }

calls_fit : InputNumbers (code_section call_bytes (call_reference ∷ []))
calls_fit = record { bytes = bytes_fit call_bytes refl; addends = All-from_recursion AddendFits (call_reference ∷ []) (fits_signed_from_abs w64 (negsuc 3) (omega arith), tt) }

abbrev FileFits : File → Type 0
FileFits f = All InputNumbers f.sections

library_entries : list_all fits (dynamic_entries library_layout) ≡ true
unfolding clauses_on_literals library_layout ones
library_entries = refl

program_entries : list_all fits (dynamic_entries program_layout) ≡ true
unfolding clauses_on_literals program_layout ones
program_entries = refl

pub library_numbers : NumbersFit library_layout
unfolding clauses_on_literals library_layout
library_numbers = record {
  page = omega arith;
  segments = segments_fit 472 264 208 (omega arith) (omega arith) (omega arith);
  sections = sections_fit library_sections refl;
  symbols = All-from_recursion SymbolNumbers (exported_function ∷ []) (exported_fits, tt);
  entry = omega arith;
  got = omega arith;
  tls = record { start = omega arith; end = omega arith; align = omega arith };
  dynamic = entries_fit (dynamic_entries library_layout) library_entries;
  starts = All-from_recursion (λ (g : Group). g.dynstr_start < 2 ^ 64) library_layout.groups (omega arith, tt);
  sysv = λ h is. (let one : 1 ≡ h.buckets = cc in record { buckets = omega (arith, one) });
  gnu = λ h is. (let no : ⊥ = cc in absurd no);
  inputs = All-from_recursion (λ (g : Group). All FileFits g.files) library_layout.groups (All-from_recursion FileFits library_files (All-nil InputNumbers, (All-from_recursion InputNumbers (code_section return_bytes [] ∷ []) (returns_fit, tt), (All-nil InputNumbers, tt))), tt);
}

pub program_numbers : NumbersFit program_layout
unfolding clauses_on_literals program_layout
program_numbers = record {
  page = omega arith;
  segments = segments_fit 544 272 272 (omega arith) (omega arith) (omega arith);
  sections = sections_fit program_sections refl;
  symbols = All-from_recursion SymbolNumbers (needed_function ∷ []) (needed_fits, tt);
  entry = omega arith;
  got = omega arith;
  tls = record { start = omega arith; end = omega arith; align = omega arith };
  dynamic = entries_fit (dynamic_entries program_layout) program_entries;
  starts = All-from_recursion (λ (g : Group). g.dynstr_start < 2 ^ 64) program_layout.groups (omega arith, tt);
  sysv = λ h is. (let no : ⊥ = cc in absurd no);
  gnu = λ h is. (let no : ⊥ = cc in absurd no);
  inputs = All-from_recursion (λ (g : Group). All FileFits g.files) program_layout.groups (All-from_recursion FileFits program_files (All-nil InputNumbers, (All-from_recursion InputNumbers (code_section call_bytes (call_reference ∷ []) ∷ []) (calls_fit, tt), (All-nil InputNumbers, (All-nil InputNumbers, tt)))), tt);
}
