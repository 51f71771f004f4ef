-- The image of the worked program with merged strings is linked in its world, which is legal.
use Rattle.wild_meaning.proofs.Common.{◌≡◌, ℕ, zero, suc, ◌+◌, ◌^◌, ◌<◌, ◌≤◌, ◌⊎◌, inl, inr, true, false, List, [], ◌∷◌, length, refl, sym, ap, ◌∙◌, subst, arith, Ok, Some, None, Contains, All, slice_get, slice_index, All-nil, All-from_recursion, All-contains, word, number, spell, least_extent, HasBytesAt-left, pt_load, pt_gnu_stack, file_header_fields, file_header_at, program_header_fields, program_header_at, ProgramHeader, formula, SymbolAddress, Full, Part, Segment, File, Group, InputRelocation, InputSection, has_flag, ifunc, Item, Answer, byte_in, Holds, header, program_headers, sections, load_segment, load_segments, segments, first_dynamic, section_entries, section_tables, tables, places_from, overlay_runs, add_all, apart, notes, relocate, load, image_at, image_with, IsDefinedBy, HasValue, HasAnswer, HasResolver, IsAnswer, IsAnswered, IsKnownModule, IsCopied, IsInput, IsKept, OfSection, OfFrames, placed_item, UsesOwnSymbolOnly, IsOutsideReferences, ReferenceHolds, ItemHolds, headers_in, DescribeSegments, DescribesSections, IsSectionWithoutData, DescribesOutput, group_of, static_pie_world, second_function}
use Rattle.wild_records.specs.SectionHeader.{section_header_fields, section_header_at}
use Rattle.wild_types.specs.declared.part.Role.TheVariants as role
use Rattle.wild_types.specs.declared.file.FileRole.TheVariants as file_role
use Rattle.wild_types.specs.declared.input.Slot.TheVariants as slot
use Rattle.wild_types.specs.declared.layout.Entry.TheVariants as entry
use Rattle.wild_types.specs.declared.layout.Merged.{Merged}
use Rattle.wild_loader.specs.Headers.{section_headers}
use Rattle.wild_meaning.specs.Item.{IsLoadedSlot}
use Rattle.wild_meaning.specs.LinkedImage.{string_bytes}
use Rattle.wild_meaning.specs.Worked.Strings.{null_section, allocated_section, string_section, string_symbol, string_reference, pointer_data, reversed_data, strings_file, strings_layout, pointer_item, reversed_item, strings_memory, part_at, merged_texts, path_text, strings_content}
use Rattle.wild_meaning.specs.Worked.StringImage.{strings_image, strings_rest, strings_header, strings_segment, strings_null, strings_section}
use Rattle.wild_meaning.specs.Worked.StringRefusals.{StringsWorldIsLegal, StringsImageIsLinked}
use Rattle.wild_meaning.proofs.SectionHeaderLemmas.{one_section}
use Rattle.wild_meaning.proofs.DynamicLemmas.{no_dynamic_section}
use Rattle.wild_meaning.proofs.FileBytes.{HasLoadedBytes, file_byte_held}
use Rattle.wild_meaning.proofs.SymbolUnique.{only, IsUnstubbed, no_stubs}
use Rattle.wild_meaning.proofs.Legal.{not_indirect, no_index}
use Rattle.wild_meaning.proofs.Read.{held_from}
use Rattle.wild_meaning.proofs.Refused.{not_alone, no_template}
use Rattle.wild_meaning.proofs.PlacedLemmas.{frame_input}
use Rattle.wild_meaning.proofs.StaticRefused.{address_formula, no_code}
use Rattle.wild_meaning.proofs.StringsRefused.{strings_judged, moved_reference, function_is, no_string, texts_part, path_part}

-- ---- what a loader makes of it

strings_loaded : load static_pie_world strings_image ≡ Ok strings_memory
unfolding load image_at image_with header program_headers segments load_segment load_segments tables first_dynamic section_tables sections section_headers section_header_at section_header_fields section_entries relocate add_all apart notes overlay_runs places_from least_extent file_header_at file_header_fields program_header_at program_header_fields number word
strings_loaded = refl

strings_programs : headers_in strings_image ≡ strings_segment ∷ []
unfolding program_headers file_header_at file_header_fields program_header_at program_header_fields number word
strings_programs = refl

-- ---- references

-- what holds of an item's references, one by one
abbrev Both : Item → InputRelocation → Type 0
Both item r = ReferenceHolds strings_layout static_pie_world strings_memory item r × (UsesOwnSymbolOnly strings_layout item r → ⊥)

all_hold : (item : Item) → All (Both item) item.relocations → ((k : ℕ) → k < length item.bytes → IsOutsideReferences strings_layout item k → byte_in strings_memory (static_pie_world.base + item.address + k) ≡ Some (slice_index item.bytes k)) → ItemHolds strings_layout static_pie_world strings_memory item
all_hold item all others = record {
  references = λ r ref present asked alone. (All-contains (Both item) item.relocations r all ref.listed).0;
  linked = λ r ref present asked alone. absurd ((All-contains (Both item) item.relocations r all ref.listed).1 alone);
  others = others;
}

string_alone : UsesOwnSymbolOnly strings_layout pointer_item string_reference → ⊥
unfolding has_flag
string_alone x = not_alone strings_layout pointer_item string_reference (formula SymbolAddress Full) 0 string_symbol address_formula refl refl (λ e. absurd (let both : true ≡ false = sym e in cc)) x

no_other : (k : ℕ) → k < 8 → (k < 0) ⊎ (8 ≤ k) → ⊥
no_other k lt (inl h) = omega (arith, h)
no_other k lt (inr h) = omega (arith, lt, h)

pointer_item_holds : ItemHolds strings_layout static_pie_world strings_memory pointer_item
pointer_item_holds = all_hold pointer_item (All-from_recursion (Both pointer_item) pointer_item.relocations ((strings_judged.found, string_alone), tt))
    (λ k lt other. absurd (no_other k lt (other.fields 0 string_reference (omega arith) (formula SymbolAddress Full) address_formula)))

function_defined : IsDefinedBy strings_layout 1 1
function_defined = record { symbol = second_function; listed = refl; defined = inr (refl, refl) }

function_value : HasValue strings_layout static_pie_world 1 0x41210
unfolding has_flag
function_value = inr (
  record { definition = 1; defined = function_defined; symbol = second_function; listed = refl; told = refl },
  record {
    raw = 0x1210;
    given = record { definition = 1; defined = function_defined; given = inl (record { symbol = second_function; listed = refl; resolution = _; decided = refl; value = refl }) };
    indirect = false;
    resolved = record { definition = 1; defined = function_defined; symbol = second_function; listed = refl; flagged = refl };
    still = false;
    absolute = record { definition = 1; defined = function_defined; symbol = second_function; listed = refl; flagged = refl };
    is = refl;
  },
)

function_alone : UsesOwnSymbolOnly strings_layout reversed_item moved_reference → ⊥
function_alone x = not_alone strings_layout reversed_item moved_reference (formula SymbolAddress Full) 1 function_is.symbol address_formula refl function_is.is (λ e. absurd (let both : true ≡ false = sym e ∙ function_is.own in cc)) x

function_number : number (0x10 ∷ 0x12 ∷ 0x04 ∷ 0 ∷ 0 ∷ 0 ∷ 0 ∷ 0 ∷ []) ≡ 0x41210
unfolding number
function_number = refl

moved_holds : ReferenceHolds strings_layout static_pie_world strings_memory reversed_item moved_reference
moved_holds = inl (record {
  formula = formula SymbolAddress Full;
  known = address_formula;
  value = 0x41210;
  gives = record { symbol = 0x41210; denoted = inr (no_string, inl function_value); sum = refl };
  field = record { bytes = 0x10 ∷ 0x12 ∷ 0x04 ∷ 0 ∷ 0 ∷ 0 ∷ 0 ∷ 0 ∷ []; wide = refl; held = held_from strings_memory 0x41118 (0x10 ∷ 0x12 ∷ 0x04 ∷ 0 ∷ 0 ∷ 0 ∷ 0 ∷ 0 ∷ []) refl; reads = function_number; keeps = tt };
  kept = λ start o first t. absurd (no_template strings_layout reversed_item moved_reference start o first no_code t);
  does = λ start o first t. absurd (no_template strings_layout reversed_item moved_reference start o first no_code t);
})

-- the word without a relocation
first_word : (k : ℕ) → k < 16 → (k < 8) ⊎ (16 ≤ k) → byte_in strings_memory (0x41110 + k) ≡ Some (slice_index reversed_item.bytes k)
first_word k lt (inr h) = absurd (omega (arith, lt, h))
first_word k lt (inl h) = at k h
  where
    at : (k : ℕ) → k < 8 → byte_in strings_memory (0x41110 + k) ≡ Some (slice_index reversed_item.bytes k)
    at zero h = refl
    at (suc zero) h = refl
    at (suc (suc zero)) h = refl
    at (suc (suc (suc zero))) h = refl
    at (suc (suc (suc (suc zero)))) h = refl
    at (suc (suc (suc (suc (suc zero))))) h = refl
    at (suc (suc (suc (suc (suc (suc zero)))))) h = refl
    at (suc (suc (suc (suc (suc (suc (suc zero))))))) h = refl
    at (suc (suc (suc (suc (suc (suc (suc (suc k)))))))) h = absurd (omega (arith, h))

reversed_item_holds : ItemHolds strings_layout static_pie_world strings_memory reversed_item
reversed_item_holds = all_hold reversed_item (All-from_recursion (Both reversed_item) reversed_item.relocations ((moved_holds, function_alone), tt))
    (λ k lt other. first_word k lt (other.fields 0 moved_reference (omega arith) (formula SymbolAddress Full) address_formula))

-- ---- items

abbrev inputs : List InputSection
inputs = pointer_data ∷ reversed_data ∷ string_section ∷ []

-- its file is this
file_is : (s : InputSection) (h : IsInput strings_layout s) → strings_file ≡ h.file
file_is s h =
    let group = only (group_of (strings_file ∷ [])) h.group h.grouped in
    only strings_file h.file (subst (λ (g : Group). Contains g.files h.file) (sym group) h.filed)

listed_in : (s : InputSection) → IsInput strings_layout s → Contains inputs s
listed_in s h = subst (λ (f : File). Contains f.sections s) (sym (file_is s h)) h.listed

-- the section of strings is no item
abbrev SectionHolds : InputSection → Type 0
SectionHolds s = IsLoadedSlot s.slot → ItemHolds strings_layout static_pie_world strings_memory (placed_item strings_layout strings_file s)

sections_hold : All SectionHolds inputs
sections_hold = All-from_recursion SectionHolds inputs ((λ h. pointer_item_holds), ((λ h. reversed_item_holds), ((λ h. absurd h), tt)))

abbrev HasNoFrames : InputSection → Type 0
HasNoFrames s = s.slot ≡ slot.Frame → ⊥

no_frames : All HasNoFrames inputs
no_frames = All-from_recursion HasNoFrames inputs ((λ e. (let same : slot.Loaded ≡ slot.Frame = e in cc)), ((λ e. (let same : slot.Loaded ≡ slot.Frame = e in cc)), ((λ e. (let same : slot.Merge ≡ slot.Frame = e in cc)), tt)))

items_hold : (item : Item) → IsKept strings_layout item → ItemHolds strings_layout static_pie_world strings_memory item
items_hold item (OfSection s kept is) =
    let there : SectionHolds s = All-contains SectionHolds inputs s sections_hold (listed_in s kept.input) in
    subst (λ (i : Item). ItemHolds strings_layout static_pie_world strings_memory i) (sym (is ∙ ap (λ (f : File). placed_item strings_layout f s) (sym (file_is s kept.input)))) (there kept.loaded)
items_hold item (OfFrames s kept is) = absurd (All-contains HasNoFrames inputs s no_frames (listed_in s (frame_input strings_layout s kept)) kept.frame)

abbrev HasData : InputSection → Type 0
HasData s = s.nobits ≡ false

no_blank : (s : InputSection) → IsSectionWithoutData strings_layout s → ⊥
no_blank s h =
    let has : HasData s = All-contains HasData inputs s (All-from_recursion HasData inputs (refl, (refl, (refl, tt)))) (listed_in s h.input) in
    let both : true ≡ false = sym h.blank ∙ has in
    cc

no_library : (i : ℕ) → IsCopied strings_layout i → ⊥
no_library i h =
    let group = only (group_of (strings_file ∷ [])) h.group h.grouped in
    let file = only strings_file h.file (subst (λ (g : Group). Contains g.files h.file) (sym group) h.filed) in
    let role : file_role.Object ≡ file_role.Dynamic = ap (λ (f : File). f.role) file ∙ h.library in
    cc

-- ---- texts

texts_held : Holds strings_memory 0x41120 (string_bytes merged_texts)
texts_held = held_from strings_memory 0x41120 (string_bytes merged_texts) refl

path_held : Holds strings_memory 0x41129 path_text
path_held = held_from strings_memory 0x41129 path_text refl

strings_held : (g : Merged) (p : Part) → Contains strings_layout.merged g → slice_get strings_layout.parts g.part ≡ Some p → Holds strings_memory (static_pie_world.base + p.address) (string_bytes g)
strings_held g p c there =
    let one = only merged_texts g c in
    let here : Some texts_part ≡ Some p = subst (λ (x : Merged). slice_get strings_layout.parts x.part ≡ Some p) (sym one) there in
    let part : texts_part ≡ p = cc in
    subst (λ (x : Merged). Holds strings_memory (static_pie_world.base + p.address) (string_bytes x)) one (subst (λ (q : Part). Holds strings_memory (static_pie_world.base + q.address) (string_bytes merged_texts)) part texts_held)

path_there : (n : ℕ) (p : Part) → p.role ≡ role.Interp → slice_get strings_layout.parts n ≡ Some p → Holds strings_memory (static_pie_world.base + p.address) path_text
path_there zero p is there =
    let part : part_at role.Raw 0x1100 0x20 ≡ p = (let both : Some (part_at role.Raw 0x1100 0x20) ≡ Some p = there in cc) in
    absurd (let no : role.Raw ≡ role.Interp = ap (λ (q : Part). q.role) part ∙ is in cc)
path_there (suc zero) p is there =
    let part : texts_part ≡ p = (let both : Some texts_part ≡ Some p = there in cc) in
    absurd (let no : role.Raw ≡ role.Interp = ap (λ (q : Part). q.role) part ∙ is in cc)
path_there (suc (suc zero)) p is there =
    let part : path_part ≡ p = (let both : Some path_part ≡ Some p = there in cc) in
    subst (λ (q : Part). Holds strings_memory (static_pie_world.base + q.address) path_text) part path_held
path_there (suc (suc (suc n))) p is there = absurd (let none : None ≡ Some p = there in cc)

-- ---- the world

module_1 : IsKnownModule static_pie_world 1
module_1 = record { distance = _; fits = omega arith; pair = refl }

plain_strings : has_flag string_symbol.flags ifunc ≡ false
unfolding has_flag
plain_strings = refl

plain_function : has_flag second_function.flags ifunc ≡ false
unfolding has_flag
plain_function = refl

no_answers : (i : ℕ) (x : Answer) → HasAnswer strings_layout static_pie_world i x → ⊥
no_answers i x h = let both : None ≡ Some x = h.given in cc

pub strings_legal : StringsWorldIsLegal
strings_legal = record {
  aligned = refl;
  ends = All-from_recursion (λ (g : Segment). g.kind ≡ pt_load → static_pie_world.base + g.address + g.mem_size ≤ 2 ^ 64) strings_layout.segments ((λ k. omega arith), tt);
  fixed = λ f. absurd f;
  first = λ x. record { own = refl; distance = _; pair = refl; is = record { fits = omega arith; begins = refl } };
  resolvers = All-from_recursion (HasResolver static_pie_world) strings_layout.symbols (not_indirect static_pie_world string_symbol plain_strings, (not_indirect static_pie_world second_function plain_function, tt));
  symbols = record {
    owner = omega arith;
    known = module_1;
    each = All-nil (IsAnswer static_pie_world);
    there = All-from_recursion (IsAnswered static_pie_world) strings_layout.symbols (no_index static_pie_world string_symbol refl, (no_index static_pie_world second_function refl, tt));
    own = λ i x own h. absurd (no_answers i x h);
    copies = λ i raw x h. absurd (no_library i h.copied);
    apart = λ i j c d raw other x y _ _ _ h _. absurd (no_library i h.copied);
  };
}

-- ---- bytes of the file

file_bytes : All (HasLoadedBytes strings_memory static_pie_world.base strings_image) strings_layout.segments
unfolding file_header_fields program_header_fields section_header_fields word
file_bytes = All-from_recursion (HasLoadedBytes strings_memory static_pie_world.base strings_image) strings_layout.segments ((λ k. record { content = strings_content; stands = refl; size = refl; held = refl }), tt)

-- ---- the whole

strings_segments : DescribeSegments strings_layout strings_layout.segments (headers_in strings_image)
strings_segments = subst (λ (hs : List ProgramHeader). DescribeSegments strings_layout strings_layout.segments hs) (sym strings_programs) (
  record { kind = refl; flags = λ k. refl; stack = λ k. absurd (let no : 1 ≡ pt_gnu_stack = k in omega (arith, no)); offset = refl; address = refl; physical = refl; file_size = refl; mem_size = refl; align = λ k. absurd (k refl); pages = λ k. refl; congruent = λ k. refl },
  tt,
)

strings_read : sections strings_image strings_header ≡ Ok (strings_null ∷ strings_section ∷ [])
unfolding sections section_headers section_header_at section_header_fields file_header_fields program_header_fields number word
strings_read = refl

strings_sections : DescribesSections strings_layout strings_image strings_header
strings_sections = one_section strings_layout strings_image strings_header null_section allocated_section strings_null strings_section refl strings_read
    (record { kind = λ o. refl; bare = λ o. absurd (let both : false ≡ true = o.bare in cc); address = refl; offset = refl; size = refl; memory = refl })

strings_described : DescribesOutput strings_layout strings_image
strings_described = record {
  header = record {
    header = strings_header;
    fits = record {
      front = record { magic = omega arith; class = omega arith; encoding = omega arith; ident_version = omega arith; os_abi = omega arith; abi_version = omega arith; file_type = omega arith };
      middle = record { machine = omega arith; version = omega arith; entry = omega arith; program_offset = omega arith; section_offset = omega arith; flags = omega arith; header_size = omega arith };
      back = record { program_entry_size = omega arith; program_count = omega arith; section_entry_size = omega arith; section_count = omega arith; name_table = omega arith };
    };
    stands = HasBytesAt-left (spell (file_header_fields strings_header)) strings_rest;
    fixed = λ f. absurd f;
    movable = λ _. refl;
    address = λ a e. absurd (let one : None ≡ Some (entry.Address a) = e in cc);
    symbol = λ i a e _. absurd (let one : None ≡ Some (entry.Symbol i) = e in cc);
    none = λ e. refl;
    fields = record { ident_version = refl; os_abi = refl; abi_version = refl; programs = refl; version = refl; header = refl; program = refl; section = refl; flags = refl };
    segments = strings_segments;
    sections = strings_sections;
  };
  dynamic = λ whole d. absurd (no_dynamic_section strings_layout _ (λ linker. linker) refl refl d);
}

pub strings_linked : StringsImageIsLinked
strings_linked = (
  strings_described,
  record {
    memory = strings_memory;
    accepted = strings_loaded;
    machine = refl;
    kept = items_hold;
    zeros = λ s k h _ _ _. absurd (no_blank s h);
    stubs = λ whole i p h. absurd (no_stubs strings_layout i p (All-from_recursion IsUnstubbed strings_layout.symbols (refl, (refl, tt))) h);
    copies = λ whole i raw x h. absurd (no_library i h.copied);
    texts = record { strings = λ g p c there room written. strings_held g p c there; interpreter = λ n p is there room written. path_there n p is there };
    still = λ a b h free. file_byte_held strings_layout strings_memory static_pie_world.base a b strings_image file_bytes h;
  },
)
