-- The size, the counts and the numbers of the plan of n groups.
use Rattle.std.proofs.Common.{◌≡◌, ℕ, ◌+◌, ◌*◌, ◌^◌, ◌<◌, ◌≤◌, zero, suc, Bool, true, false, List, [], ◌∷◌, map, Some, All, refl, ◌∙◌, arith, subst}
use Rattle.std.specs.Prelude.{◌==◌, if◌then◌else◌, codes, nat_lt}
use Rattle.std.specs.Int.{w64}
use Rattle.std.specs.List.{range_with_len, list_all}
use Rattle.std.proofs.lemmas.Bool.{ltb-true}
use lib.IntN.{negsuc}
use Rattle.std.proofs.lemmas.Int.{fits_signed_from_abs}
use Rattle.std.proofs.lemmas.List.Elements.{All-nil, All-cons, All-append, All-weaker}
use Rattle.wild_words.proofs.ListLemmas.{All-from_list_all}
use Rattle.wild_types.specs.declared.section.Section.{Section}
use Rattle.wild_types.specs.declared.file.FileRole.TheVariants as file_role
use Rattle.wild_types.specs.declared.file.File.{File}
use Rattle.wild_types.specs.declared.file.Group.{Group}
use Rattle.wild_types.specs.Lists.{total}
use Rattle.wild_needs.specs.Dynamic.{tag_entries, dynamic_entries}
use Rattle.wild_needs.specs.DynamicStrings.{named_strings, string_entries}
use Rattle.wild_needs.specs.EntryPoint.{entry_point}
use Rattle.wild_records.specs.Dynamic.{DynamicEntryFits}
use Rattle.wild_layout.specs.Image.{counts, counted, count_of}
use Rattle.wild_types.specs.declared.symbol.Resolution.{Resolution}
use Rattle.wild_layout.specs.Numbers.{NumbersFit, AddendFits, InputNumbers, SegmentNumbers, SectionNumbers, ResolutionNumbers, SymbolNumbers}
use Rattle.wild_sample_layouts.specs.PlanOfGroups.{code, made_symbol, made_relocation, made_section, plain_file, made_object, made_files, made_group, made_segment, made_sections, section_with, plan_of_groups}
use Rattle.wild_sample_layouts.specs.Laws.{IsCount}
use Rattle.wild_sample_layouts.proofs.ListLemmas.{total_same}
use Rattle.wild_sample_layouts.proofs.FileLemmas.{total_files}

-- what the input section of a group adds to the count of section k
section_counted : (n k c i : ℕ) → counted (plan_of_groups n) k (made_section n i) ≡ c → total (λ (f : File). total (counted (plan_of_groups n) k) f.sections) (made_group n i).files ≡ c
section_counted n k c i h = total_files (λ (f : File). total (counted (plan_of_groups n) k) f.sections) n i refl refl ∙ (let e = h in omega arith)

count_made : (n k c : ℕ) → ((i : ℕ) → counted (plan_of_groups n) k (made_section n i) ≡ c) → count_of (plan_of_groups n) k ≡ c * n
unfolding plan_of_groups
count_made n k c h = total_same (λ (g : Group). total (λ (f : File). total (counted (plan_of_groups n) k) f.sections) g.files) (made_group n) c 0 n (λ i low high. section_counted n k c i (h i))

pub counts_made : (n : ℕ) → counts (plan_of_groups n) ≡ 0 ∷ 8 * n ∷ 0 ∷ []
unfolding counts plan_of_groups made_section
counts_made n =
    let none : 0 * n ≡ 0 = omega arith in
    rw (count_made n 0 0 (λ i. refl), count_made n 1 8 (λ i. refl), count_made n 2 0 (λ i. refl), none) refl

segment_fits : (n : ℕ) → IsCount n → SegmentNumbers (made_segment n)
segment_fits n c =
    let few = c.few in
    record { kind = omega arith; flags = omega arith; offset = omega arith; address = omega arith; physical = omega arith; file_size = omega arith; mem_size = omega arith; align = omega arith }

-- section k
pub section_fits : (name : List ℕ) (kind flags address offset size align : ℕ) → kind < 2 ^ 32 → flags < 2 ^ 64 → address < 2 ^ 64 → offset < 2 ^ 64 → size < 2 ^ 64 → align < 2 ^ 64 → SectionNumbers (section_with name kind flags address offset size align)
section_fits name kind flags address offset size align a b c d e f = record {
  places = record { kind = a; flags = b; address = c; offset = d; size = e };
  links = record { link = omega arith; info = omega arith; align = f; entsize = omega arith };
}

sections_fit : (n : ℕ) → IsCount n → All SectionNumbers (made_sections n)
sections_fit n c =
    let few = c.few in
    let null = section_fits [] 0 0 0 0 0 0 (omega arith) (omega arith) (omega arith) (omega arith) (omega arith) (omega arith) in
    let text = section_fits (codes ".text") 1 6 4194432 128 (64 * n) 16 (omega arith) (omega arith) (omega arith) (omega arith) (omega arith) (omega arith) in
    let names = section_fits (codes ".shstrtab") 3 0 0 (128 + 64 * n) 17 1 (omega arith) (omega arith) (omega arith) (omega arith) (omega arith) (omega arith) in
    let last : List Section = section_with (codes ".shstrtab") 3 0 0 (128 + 64 * n) 17 1 ∷ [] in
    All-cons SectionNumbers _ (section_with (codes ".text") 1 6 4194432 128 (64 * n) 16 ∷ last) null (All-cons SectionNumbers _ last text (All-cons SectionNumbers _ [] names (All-nil SectionNumbers)))

symbol_fits : (i : ℕ) → i < 65536 → SymbolNumbers (made_symbol i)
symbol_fits i few = λ r is.
    let P : Resolution → Type 0 = ResolutionNumbers in
    subst P (some_is _ r is) (record { value = omega arith; slots = λ a h. cc h; stub = λ a h. cc h })
  where
    some_is : (x y : Resolution) → Some x ≡ Some y → x ≡ y
    some_is x y h = cc

symbols_fit : (a m : ℕ) → a + m ≤ 65536 → All SymbolNumbers (map made_symbol (range_with_len a m))
symbols_fit a zero few = All-nil SymbolNumbers
symbols_fit a (suc m) few = All-cons SymbolNumbers (made_symbol a) (map made_symbol (range_with_len (a + 1) m)) (symbol_fits a (omega arith)) (symbols_fit (a + 1) m (omega arith))

-- a fixed output has no entries for dynamic linking
no_entries : (n : ℕ) → All DynamicEntryFits (dynamic_entries (plan_of_groups n))
unfolding plan_of_groups dynamic_entries named_strings tag_entries string_entries
no_entries n = All-nil DynamicEntryFits

-- what each group has, all have
groups_have : (P : Group → Type 0) (n : ℕ) → ((i : ℕ) → P (made_group n i)) → (a m : ℕ) → All P (map (made_group n) (range_with_len a m))
groups_have P n each a zero = All-nil P
groups_have P n each a (suc m) = All-cons P (made_group n a) (map (made_group n) (range_with_len (a + 1) m)) (each a) (groups_have P n each (a + 1) m)

abbrev FileFits : File → Type 0
FileFits f = All InputNumbers f.sections

-- a file that may be there, beside the group's own
items_if : (b : Bool) (f : File) → FileFits f → All FileFits (if b then f ∷ [] else [])
items_if true f h = All-cons FileFits f [] h (All-nil FileFits)
items_if false f h = All-nil FileFits

-- bytes that are told are bytes
pub bytes_fit : (bs : List ℕ) → list_all (λ (b : ℕ). nat_lt b (2 ^ 8)) bs ≡ true → All (λ (b : ℕ). b < 2 ^ 8) bs
bytes_fit bs h = All-weaker (λ (b : ℕ). nat_lt b (2 ^ 8) ≡ true) (λ (b : ℕ). b < 2 ^ 8) (λ b t. ltb-true b (2 ^ 8) t) bs (All-from_list_all (λ (b : ℕ). nat_lt b (2 ^ 8)) bs h)

-- each call takes back its field's four bytes
call_adds : (n i j : ℕ) → AddendFits (made_relocation n i j)
call_adds n i j = fits_signed_from_abs w64 (negsuc 3) (omega arith)

calls_add : (n i a m : ℕ) → All AddendFits (map (made_relocation n i) (range_with_len a m))
calls_add n i a zero = All-nil AddendFits
calls_add n i a (suc m) = All-cons AddendFits (made_relocation n i a) (map (made_relocation n i) (range_with_len (a + 1) m)) (call_adds n i a) (calls_add n i (a + 1) m)

input_fits : (n i : ℕ) → InputNumbers (made_section n i)
unfolding made_section
input_fits n i = record { bytes = bytes_fit code refl; addends = calls_add n i 0 8 }

files_fit : (n i : ℕ) → All FileFits (made_files n i)
files_fit n i =
    let own : FileFits (made_object n i) = All-cons InputNumbers (made_section n i) [] (input_fits n i) (All-nil InputNumbers) in
    let first = items_if (i == 0) (plain_file file_role.Prelude) (All-nil InputNumbers) in
    let last = items_if (i + 1 == n) (plain_file file_role.Epilogue) (All-nil InputNumbers) in
    All-append FileFits _ _ first (All-cons FileFits (made_object n i) _ own last)

pub numbers_fit : (n : ℕ) → IsCount n → NumbersFit (plan_of_groups n)
unfolding plan_of_groups entry_point
numbers_fit n c = record {
  page = omega arith;
  segments = All-cons SegmentNumbers (made_segment n) [] (segment_fits n c) (All-nil SegmentNumbers);
  sections = sections_fit n c;
  symbols = (let few = c.few in symbols_fit 0 n (omega arith));
  entry = omega arith;
  got = omega arith;
  tls = record { start = omega arith; end = omega arith; align = omega arith };
  dynamic = no_entries n;
  starts = groups_have (λ (g : Group). g.dynstr_start < 2 ^ 64) n (λ i. omega arith) 0 n;
  sysv = λ h e. cc;
  gnu = λ h e. cc;
  inputs = groups_have (λ (g : Group). All FileFits g.files) n (files_fit n) 0 n;
}
