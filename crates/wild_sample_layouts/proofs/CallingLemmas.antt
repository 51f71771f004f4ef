-- The layouts that call a function have no faults, and the numbers of their headers have their fields.
use Rattle.std.proofs.Common.{◌≡◌, ℕ, ◌+◌, ◌^◌, ◌<◌, Bool, true, List, [], ◌∷◌, refl, arith, subst}
use Rattle.std.specs.Prelude.{◌&&◌, All, nat_lt, Option, Some, None}
use Rattle.std.specs.Int.{w64}
use Rattle.std.specs.List.{list_all}
use Rattle.std.proofs.lemmas.Bool.{and_parts, ltb-true}
use Rattle.std.proofs.lemmas.Int.{fits_signed_from_abs}
use Rattle.std.proofs.lemmas.List.Elements.{All-nil, All-from_recursion, All-weaker}
use lib.Count.{ones}
use lib.IntN.{pos, negsuc}
use Rattle.wild_words.proofs.ListLemmas.{All-from_list_all}
use Rattle.wild_records.specs.Dynamic.{DynamicEntryFits}
use Rattle.wild_records.specs.declared.dynamic.DynamicEntry.{DynamicEntry}
use Rattle.wild_types.specs.declared.kind.OutputKind.{OutputKind}
use Rattle.wild_types.specs.declared.part.Role.{Role}
use Rattle.wild_types.specs.declared.symbol.Place.{Place}
use Rattle.wild_types.specs.declared.symbol.Place.TheVariants as at
use Rattle.wild_types.specs.declared.symbol.Resolution.{Resolution}
use Rattle.wild_types.specs.declared.symbol.Symbol.{Symbol}
use Rattle.wild_types.specs.declared.file.File.{File}
use Rattle.wild_types.specs.declared.file.FileRole.TheVariants as file_role
use Rattle.wild_types.specs.declared.file.Group.{Group}
use Rattle.wild_needs.specs.Dynamic.{dynamic_entries}
use Rattle.wild_table_formats.specs.Headers.{entry_address}
use Rattle.wild_layout.specs.Faults.{errors}
use Rattle.wild_layout.specs.Numbers.{NumbersFit, AddendFits, InputNumbers, InputsFit, SegmentNumbers, SectionNumbers, ResolutionNumbers, SymbolNumbers}
use Rattle.wild_sample_layouts.specs.CallingPlans.{Code, stub_at, call_bytes, call_reference, by_slot, branch_bytes, branch_reference, of_words, by_stub, by_branch, calling_code, called_function, calling_layout, calling_sections, calling_segments, calling_static, calling_dynamic, calling_shared, calling_words, calling_words_static, calling_words_shared}
use Rattle.wild_sample_layouts.specs.PlanOfGroups.{file_with, plain_file}
use Rattle.wild_sample_layouts.specs.Laws.{CallingFaults, CallingNumbers}
use Rattle.wild_sample_layouts.proofs.ImageLemmas.{section_fits, bytes_fit}
use Rattle.wild_sample_layouts.proofs.OnLiterals.{clauses_on_literals, errors_on_literals}

-- ---- faults

static_errors : errors calling_static ≡ []
unfolding errors_on_literals calling_static ones
static_errors = refl

dynamic_errors : errors calling_dynamic ≡ []
unfolding errors_on_literals calling_dynamic ones
dynamic_errors = refl

shared_errors : errors calling_shared ≡ []
unfolding errors_on_literals calling_shared ones
shared_errors = refl

words_errors : errors calling_words ≡ []
unfolding errors_on_literals calling_words ones
words_errors = refl

words_static_errors : errors calling_words_static ≡ []
unfolding errors_on_literals calling_words_static ones
words_static_errors = refl

words_shared_errors : errors calling_words_shared ≡ []
unfolding errors_on_literals calling_words_shared ones
words_shared_errors = refl

pub calling_faults : CallingFaults
calling_faults = record { static = static_errors; dynamic = dynamic_errors; shared = shared_errors; words = words_errors; words_static = words_static_errors; words_shared = words_shared_errors }

-- ---- numbers

segments_fit : (c : Code) → c.stub < 2 ^ 32 → All SegmentNumbers (calling_segments c)
segments_fit c short = All-from_recursion SegmentNumbers (calling_segments c) (
  record { kind = omega arith; flags = omega arith; offset = omega arith; address = omega arith; physical = omega arith; file_size = omega (arith, short); mem_size = omega (arith, short); align = omega arith },
  (record { kind = omega arith; flags = omega arith; offset = omega (arith, short); address = omega (arith, short); physical = omega (arith, short); file_size = omega arith; mem_size = omega arith; align = omega arith }, tt),
)

sections_fit : (c : Code) (n m : ℕ) → c.stub < 2 ^ 32 → n < 2 ^ 32 → m < 2 ^ 32 → All SectionNumbers (calling_sections c n m)
sections_fit c n m short few names = All-from_recursion SectionNumbers (calling_sections c n m) (
  section_fits _ _ _ _ _ _ _ (omega arith) (omega arith) (omega arith) (omega arith) (omega arith) (omega arith),
  (
    section_fits _ _ _ _ _ _ _ (omega arith) (omega arith) (omega arith) (omega arith) (omega (arith, few)) (omega arith),
    (
      section_fits _ _ _ _ _ _ _ (omega arith) (omega arith) (omega arith) (omega arith) (omega (arith, names)) (omega arith),
      (
        section_fits _ _ _ _ _ _ _ (omega arith) (omega arith) (omega arith) (omega arith) (omega arith) (omega arith),
        (
          section_fits _ _ _ _ _ _ _ (omega arith) (omega arith) (omega arith) (omega arith) (omega (arith, short)) (omega arith),
          (
            section_fits _ _ _ _ _ _ _ (omega arith) (omega arith) (omega (arith, short)) (omega (arith, short)) (omega arith) (omega arith),
            (
              section_fits _ _ _ _ _ _ _ (omega arith) (omega arith) (omega (arith, short)) (omega (arith, short)) (omega arith) (omega arith),
              (section_fits _ _ _ _ _ _ _ (omega arith) (omega arith) (omega arith) (omega (arith, short)) (omega arith) (omega arith), tt),
            ),
          ),
        ),
      ),
    ),
  ),
)

function_fits : (c : Code) (flags raw : ℕ) (place : Place) (index stub : Option ℕ) → c.stub < 2 ^ 32 → raw < 2 ^ 32 → ((a : ℕ) → stub ≡ Some a → a < 2 ^ 32) → SymbolNumbers (called_function c flags place raw index stub)
function_fits c flags raw place index stub short low there = λ r is.
    let P : Resolution → Type 0 = ResolutionNumbers in
    subst P (some_is _ r is) (record { value = omega (arith, low); slots = λ a h. (let at : stub_at + c.stub ≡ a = cc in omega (arith, at, short)); stub = λ a h. (let at = there a h in omega (arith, at)) })
  where
    some_is : (x y : Resolution) → Some x ≡ Some y → x ≡ y
    some_is x y h = cc

-- where no stub is
no_stub : (a : ℕ) → None ≡ Some a → a < 2 ^ 32
no_stub a h = absurd cc

own_stub : (a : ℕ) → Some stub_at ≡ Some a → a < 2 ^ 32
own_stub a h = (let at : stub_at ≡ a = cc in omega (arith, at))

abbrev fits : DynamicEntry → Bool
fits d = nat_lt d.tag (2 ^ 64) && nat_lt d.value (2 ^ 64)

entry_fits : (d : DynamicEntry) → fits d ≡ true → DynamicEntryFits d
entry_fits d h = let p = and_parts (nat_lt d.tag (2 ^ 64)) (nat_lt d.value (2 ^ 64)) h in record { tag = ltb-true _ _ p.0; value = ltb-true _ _ p.1 }

entries_fit : (ds : List DynamicEntry) → list_all fits ds ≡ true → All DynamicEntryFits ds
entries_fit ds h = All-weaker (λ (d : DynamicEntry). fits d ≡ true) DynamicEntryFits entry_fits ds (All-from_list_all fits ds h)

abbrev FileFits : File → Type 0
FileFits f = All InputNumbers f.sections

abbrev GroupFits : Group → Type 0
GroupFits g = All FileFits g.files

slot_fits : InputNumbers (calling_code by_slot)
slot_fits = record { bytes = bytes_fit call_bytes refl; addends = All-from_recursion AddendFits (call_reference ∷ []) (fits_signed_from_abs w64 (negsuc 3) (omega arith), tt) }

branch_fits : (stub : ℕ) → InputNumbers (calling_code (of_words stub))
branch_fits stub = record { bytes = bytes_fit branch_bytes refl; addends = All-from_recursion AddendFits (branch_reference ∷ []) (fits_signed_from_abs w64 (pos 0) (omega arith), tt) }

inputs_fit : (c : Code) (k : OutputKind) (e : Role) (n m : ℕ) (f : Symbol) → InputNumbers (calling_code c) → InputsFit (calling_layout c k e n m f).groups
inputs_fit c k e n m f fits =
    let object = All-from_recursion InputNumbers (calling_code c ∷ []) (fits, tt) in
    let files : List File = plain_file file_role.Prelude ∷ file_with file_role.Object 0 1 (calling_code c ∷ []) ∷ plain_file file_role.Epilogue ∷ [] in
    All-from_recursion GroupFits (calling_layout c k e n m f).groups (All-from_recursion FileFits files (All-nil InputNumbers, (object, (All-nil InputNumbers, tt))), tt)

numbers_fit : (c : Code) (k : OutputKind) (e : Role) (n m : ℕ) (f : Symbol) → c.stub < 2 ^ 32 → n < 2 ^ 32 → m < 2 ^ 32 → InputNumbers (calling_code c) → SymbolNumbers f → entry_address (calling_layout c k e n m f) ≡ 0 → list_all fits (dynamic_entries (calling_layout c k e n m f)) ≡ true → NumbersFit (calling_layout c k e n m f)
numbers_fit c k e n m f short few names code symbol entry entries = record {
  page = omega arith;
  segments = segments_fit c short;
  sections = sections_fit c n m short few names;
  symbols = All-from_recursion SymbolNumbers (f ∷ []) (symbol, tt);
  entry = omega (arith, entry);
  got = omega (arith, short);
  tls = record { start = omega arith; end = omega arith; align = omega arith };
  dynamic = entries_fit (dynamic_entries (calling_layout c k e n m f)) entries;
  starts = All-from_recursion (λ (g : Group). g.dynstr_start < 2 ^ 64) (calling_layout c k e n m f).groups (omega arith, tt);
  sysv = λ h is. cc is;
  gnu = λ h is. cc is;
  inputs = inputs_fit c k e n m f code;
}

static_numbers : NumbersFit calling_static
unfolding clauses_on_literals calling_static
static_numbers = numbers_fit by_slot _ _ _ _ _ (omega arith) (omega arith) (omega arith) slot_fits (function_fits by_slot 0x28 262 (at.Section 0) None None (omega arith) (omega arith) no_stub) refl refl

dynamic_numbers : NumbersFit calling_dynamic
unfolding clauses_on_literals calling_dynamic
dynamic_numbers = numbers_fit by_slot _ _ _ _ _ (omega arith) (omega arith) (omega arith) slot_fits (function_fits by_slot 0x22 0 at.Undefined (Some 1) None (omega arith) (omega arith) no_stub) refl refl

shared_numbers : NumbersFit calling_shared
unfolding clauses_on_literals calling_shared
shared_numbers = numbers_fit by_slot _ _ _ _ _ (omega arith) (omega arith) (omega arith) slot_fits (function_fits by_slot 0x22 0 at.Undefined (Some 1) None (omega arith) (omega arith) no_stub) refl refl

words_numbers : NumbersFit calling_words
unfolding clauses_on_literals calling_words
words_numbers = numbers_fit by_stub _ _ _ _ _ (omega arith) (omega arith) (omega arith) (branch_fits 16) (function_fits by_stub 0x62 stub_at at.Undefined (Some 1) (Some stub_at) (omega arith) (omega arith) own_stub) refl refl

words_static_numbers : NumbersFit calling_words_static
unfolding clauses_on_literals calling_words_static
words_static_numbers = numbers_fit by_branch _ _ _ _ _ (omega arith) (omega arith) (omega arith) (branch_fits 0) (function_fits by_branch 0x28 260 (at.Section 0) None None (omega arith) (omega arith) no_stub) refl refl

words_shared_numbers : NumbersFit calling_words_shared
unfolding clauses_on_literals calling_words_shared
words_shared_numbers = numbers_fit by_stub _ _ _ _ _ (omega arith) (omega arith) (omega arith) (branch_fits 16) (function_fits by_stub 0x62 stub_at at.Undefined (Some 1) (Some stub_at) (omega arith) (omega arith) own_stub) refl refl

pub calling_numbers : CallingNumbers
calling_numbers = record { static = static_numbers; dynamic = dynamic_numbers; shared = shared_numbers; words = words_numbers; words_static = words_static_numbers; words_shared = words_shared_numbers }
