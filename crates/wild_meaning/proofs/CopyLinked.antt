-- The image of the worked program with a copied symbol is linked in its world.
use Rattle.wild_meaning.proofs.Common.{if◌then◌else◌, Bool, ◌≡◌, ℕ, zero, suc, ◌+◌, ◌-◌, ◌<◌, ◌≤◌, ◌⊎◌, inl, inr, ◌==◌, true, false, List, [], ◌∷◌, refl, sym, ap, ◌∙◌, subst, arith, ◌++◌, Some, None, Contains, All, slice_index_or, replicate, eqb-false, All-from_recursion, All-contains, pos, number, word, spell, HasBytesAt-left, r_x86_64_64, pt_gnu_stack, file_header_fields, ProgramHeader, formula, SymbolAddress, Full, InputRelocation, InputSection, File, Group, has_flag, Answer, byte_in, Holds, first_dynamic, HasValue, IsPastFileBytes, Item, item_of, item_with, IsInput, IsKept, OfSection, OfFrames, UsesOwnSymbolOnly, ReferenceHolds, ItemHolds, headers_in, DescribeSegments, IsSectionWithoutData, DescribesOutput, reference, group_of, copying_layout, copying_world, copied_symbol, start_symbol, copied_answer, program_header_fields, dt_pltrelsz, dt_relrsz, rela_size, relr_size}
use Rattle.std.proofs.lemmas.List.{get_or-replicate}
use Rattle.wild_types.specs.declared.layout.Entry.TheVariants as entry
use Rattle.wild_loader.specs.declared.memory.Machine.TheVariants as processors
use Rattle.wild_meaning.specs.Section.{HasFileBytes}
use Rattle.wild_meaning.specs.World.{HasCopy}
use Rattle.wild_meaning.specs.DynamicSection.{InformsLinker}
use Rattle.wild_meaning.specs.LinkedImage.{IsNotCopied, HasResolvedAddress}
use Rattle.wild_meaning.specs.Worked.Copy.{copying_data, copying_item, copying_blank, copying_object, copying_library, copied_bytes}
use Rattle.wild_meaning.specs.Worked.CopyImage.{copying_image, copying_rest, copying_memory, copying_header, copying_third, copying_words, copying_tables}
use Rattle.wild_meaning.specs.Worked.CopyRefusals.{CopyingImageIsLinked}
use Rattle.wild_meaning.proofs.SectionHeaderLemmas.{no_sections}
use Rattle.wild_meaning.proofs.DynamicLemmas.{whole_size, no_size, one_value_each, no_tables, no_functions}
use Rattle.wild_meaning.proofs.FileBytes.{HasLoadedBytes, file_byte_held}
use Rattle.wild_meaning.proofs.SymbolUnique.{only, raw_of, IsUnstubbed, no_stubs}
use Rattle.wild_meaning.proofs.Read.{held_from}
use Rattle.wild_meaning.proofs.Refused.{not_alone, no_template}
use Rattle.wild_meaning.proofs.CopyLegal.{copied_own, has_copy, copy_is}
use Rattle.wild_meaning.proofs.CopyLoaded.{copying_loaded, copying_programs, copying_dynamic, copying_entries, copying_read, copying_tags}
use Rattle.wild_meaning.proofs.CopyRefused.{address_formula, copied_is_own, no_code, no_string}
use Rattle.wild_meaning.proofs.PlacedLemmas.{stood_plain, frame_input}
use Rattle.wild_meaning.proofs.TextLemmas.{no_texts}
use Rattle.wild_types.specs.declared.input.Slot.TheVariants as slot

abbrev copied_reference : InputRelocation
copied_reference = reference 0 r_x86_64_64 0 (pos 0)

copied_value : HasValue copying_layout copying_world 0 0x23100
unfolding has_flag
copied_value = inr (record { definition = 0; defined = record { symbol = copied_symbol; listed = refl; defined = inr (refl, refl) }; symbol = copied_symbol; listed = refl; told = refl }, copied_own.address)

words_number : number copying_words ≡ 0x23100
unfolding number
words_number = refl

copied_holds : ReferenceHolds copying_layout copying_world copying_memory copying_item copied_reference
copied_holds = inl (record {
  formula = formula SymbolAddress Full;
  known = address_formula;
  value = 0x23100;
  gives = record { symbol = 0x23100; denoted = inr (no_string SymbolAddress copied_reference, inl copied_value); sum = refl };
  field = record { bytes = copying_words; wide = refl; held = held_from copying_memory 0x21000 copying_words refl; reads = words_number; keeps = tt };
  kept = λ start o first t. absurd (no_template copying_layout copying_item copied_reference start o first no_code t);
  does = λ start o first t. absurd (no_template copying_layout copying_item copied_reference start o first no_code t);
})

abbrev Both : InputRelocation → Type 0
Both r = ReferenceHolds copying_layout copying_world copying_memory copying_item r × (UsesOwnSymbolOnly copying_layout copying_item r → ⊥)

each : All Both copying_item.relocations
each = All-from_recursion Both copying_item.relocations ((copied_holds, (λ x. not_alone copying_layout copying_item copied_reference _ 0 copied_is_own.symbol address_formula refl copied_is_own.is (λ e. absurd (let both : true ≡ false = sym e ∙ copied_is_own.own in cc)) x)), tt)

no_other : (k : ℕ) → k < 8 → (k < 0) ⊎ (8 ≤ k) → ⊥
no_other k lt (inl h) = omega (arith, h)
no_other k lt (inr h) = omega (arith, lt, h)

item_holds : ItemHolds copying_layout copying_world copying_memory copying_item
item_holds = record {
  references = λ r ref present asked alone. (All-contains Both copying_item.relocations r each ref.listed).0;
  linked = λ r ref present asked alone. absurd ((All-contains Both copying_item.relocations r each ref.listed).1 alone);
  others = λ k lt other. absurd (no_other k lt (other.fields 0 copied_reference (omega arith) (formula SymbolAddress Full) address_formula));
}

-- its sections are the object's
abbrev sections : List InputSection
sections = copying_data ∷ copying_blank ∷ []

listed_in : (s : InputSection) → IsInput copying_layout s → Contains sections s
listed_in s h =
    let group : group_of (copying_object ∷ copying_library ∷ []) ≡ h.group = only _ h.group h.grouped in
    let filed : Contains (copying_object ∷ copying_library ∷ []) h.file = subst (λ (g : Group). Contains g.files h.file) (sym group) h.filed in
    by s h.file filed.0 filed.1 filed.2 h.listed
  where
    by : (s : InputSection) (f : File) (k : ℕ) → k < 2 → slice_index_or (copying_object ∷ copying_library ∷ []) k f ≡ f → Contains f.sections s → Contains sections s
    by s f zero lt e listed = subst (λ (g : File). Contains g.sections s) (sym e) listed
    by s f (suc zero) lt e listed = absurd (let none : Contains [] s = subst (λ (g : File). Contains g.sections s) (sym e) listed in omega (arith, none.1))
    by s f (suc (suc k)) lt e listed = absurd (omega (arith, lt))

-- whose branches go by block 0
in_block : (s : InputSection) (h : IsInput copying_layout s) → item_of copying_layout h.file s ≡ item_with 0 s
in_block s h =
    let group : group_of (copying_object ∷ copying_library ∷ []) ≡ h.group = only _ h.group h.grouped in
    let filed : Contains (copying_object ∷ copying_library ∷ []) h.file = subst (λ (g : Group). Contains g.files h.file) (sym group) h.filed in
    let first : h.file.thunk_block ≡ 0 = All-contains (λ (f : File). f.thunk_block ≡ 0) (copying_object ∷ copying_library ∷ []) h.file (All-from_recursion (λ (f : File). f.thunk_block ≡ 0) (copying_object ∷ copying_library ∷ []) (refl, (refl, tt))) filed in
    ap (λ (k : ℕ). item_with k s) (by (s.part == copying_layout.primary_part) h.file.thunk_block first)
  where
    by : (b : Bool) (n : ℕ) → n ≡ 0 → (if b then n else 0) ≡ 0
    by true n e = e
    by false n e = refl

abbrev IsPlacedUnchanged : InputSection → Type 0
IsPlacedUnchanged s = s.reversed ≡ false

is_placed_unchanged : (s : InputSection) → IsInput copying_layout s → s.reversed ≡ false
is_placed_unchanged s h = All-contains IsPlacedUnchanged sections s (All-from_recursion IsPlacedUnchanged sections (refl, (refl, tt))) (listed_in s h)

abbrev IsLoaded : InputSection → Type 0
IsLoaded s = s.slot ≡ slot.Loaded

abbrev SectionHolds : InputSection → Type 0
SectionHolds s = s.nobits ≡ false → ItemHolds copying_layout copying_world copying_memory (item_with 0 s)

items_hold : (item : Item) → IsKept copying_layout item → ItemHolds copying_layout copying_world copying_memory item
items_hold item (OfSection s kept is) =
    let there : SectionHolds s = All-contains SectionHolds sections s (All-from_recursion SectionHolds sections ((λ e. item_holds), ((λ e. absurd (let both : true ≡ false = e in cc)), tt))) (listed_in s kept.input) in
    subst (λ (i : Item). ItemHolds copying_layout copying_world copying_memory i) (sym (is ∙ (stood_plain copying_layout kept.input.file s (is_placed_unchanged s kept.input) ∙ in_block s kept.input))) (there kept.has_data)
items_hold item (OfFrames s kept is) =
    let there : IsLoaded s = All-contains IsLoaded sections s (All-from_recursion IsLoaded sections (refl, (refl, tt))) (listed_in s (frame_input copying_layout s kept)) in
    let both : slot.Loaded ≡ slot.Frame = sym there ∙ kept.frame in
    cc

-- ---- zeros

zeros_first : Holds copying_memory 0x23000 (replicate 256 0)
zeros_first = held_from copying_memory 0x23000 (replicate 256 0) refl

zeros_last : Holds copying_memory 0x23108 (replicate 248 0)
zeros_last = held_from copying_memory 0x23108 (replicate 248 0) refl

zero_at : (k : ℕ) → k < 0x200 → (0x3000 + k < 0x3100) ⊎ (0x3100 + 8 ≤ 0x3000 + k) → byte_in copying_memory (0x23000 + k) ≡ Some 0
zero_at k lt (inl h) = zeros_first k (omega (arith, h)) ∙ ap Some (get_or-replicate 256 k 0 0 (omega (arith, h)))
zero_at k lt (inr h) = behind k lt h ((k - 264)) (omega (arith, h))
  where
    behind : (k : ℕ) → k < 0x200 → 0x3100 + 8 ≤ 0x3000 + k → (j : ℕ) → k ≡ 264 + j → byte_in copying_memory (0x23000 + k) ≡ Some 0
    behind k lt h j e =
        let at : 0x23108 + j ≡ 0x23000 + k = omega (arith, e) in
        subst (λ (a : ℕ). byte_in copying_memory a ≡ Some 0) at (zeros_last j (omega (arith, e, lt)) ∙ ap Some (get_or-replicate 248 j 0 0 (omega (arith, e, lt))))

abbrev IsZero : InputSection → Type 0
IsZero s = s.nobits ≡ true → (k : ℕ) → k < s.size → IsNotCopied copying_layout copying_world (s.address + k) → byte_in copying_memory (copying_world.base + s.address + k) ≡ Some 0

zeros : (s : InputSection) (k : ℕ) → IsSectionWithoutData copying_layout s → k < s.size → IsPastFileBytes copying_layout (s.address + k) ⊎ HasFileBytes copying_layout s.part → IsNotCopied copying_layout copying_world (s.address + k) → byte_in copying_memory (copying_world.base + s.address + k) ≡ Some 0
zeros s k h lt behind beside =
    let there : IsZero s = All-contains IsZero sections s (All-from_recursion IsZero sections ((λ e. absurd (let both : false ≡ true = e in cc)), ((λ e k lt beside. zero_at k lt (beside 0 0x3100 copied_answer has_copy)), tt))) (listed_in s h.input) in
    there h.blank k lt beside

copies : (i raw : ℕ) (x : Answer) → HasCopy copying_layout copying_world i raw x → Holds copying_memory (copying_world.base + raw) x.bytes
copies i raw x h =
    let is = copy_is i raw x h in
    subst (λ (y : Answer). Holds copying_memory (copying_world.base + raw) y.bytes) (sym is.2) (subst (λ (a : ℕ). Holds copying_memory (copying_world.base + a) copied_bytes) (sym is.1) (held_from copying_memory 0x23100 copied_bytes refl))

-- ---- bytes of the file

file_bytes : All (HasLoadedBytes copying_memory copying_world.base copying_image) copying_layout.segments
unfolding file_header_fields program_header_fields word
file_bytes = All-from_recursion (HasLoadedBytes copying_memory copying_world.base copying_image) copying_layout.segments ((λ k. record { content = copying_words ++ copying_tables; stands = refl; size = refl; held = refl }), ((λ k. record { content = []; stands = refl; size = refl; held = refl }), ((λ k. absurd (let no : 2 ≡ 1 = k in omega (arith, no))), tt)))

-- ---- the whole

no_load : (n : ℕ) → (n == pt_gnu_stack) ≡ false → n ≡ pt_gnu_stack → ⊥
no_load n f = eqb-false n pt_gnu_stack f

copying_segments : DescribeSegments copying_layout copying_layout.segments (headers_in copying_image)
copying_segments = subst (λ (hs : List ProgramHeader). DescribeSegments copying_layout copying_layout.segments hs) (sym copying_programs) (
  record { kind = refl; flags = λ k. refl; stack = λ k. absurd (no_load 1 refl k); offset = refl; address = refl; physical = refl; file_size = refl; mem_size = refl; align = λ k. absurd (k refl); pages = λ k. refl; congruent = λ k. refl },
  (
    record { kind = refl; flags = λ k. refl; stack = λ k. absurd (no_load 1 refl k); offset = refl; address = refl; physical = refl; file_size = refl; mem_size = refl; align = λ k. absurd (k refl); pages = λ k. refl; congruent = λ k. refl },
    (
      record { kind = refl; flags = λ k. refl; stack = λ k. absurd (no_load 2 refl k); offset = refl; address = refl; physical = refl; file_size = refl; mem_size = refl; align = λ k m. refl; pages = λ k. absurd (let no : 2 ≡ 1 = k in omega (arith, no)); congruent = λ k. absurd (let no : 2 ≡ 1 = k in omega (arith, no)) },
      tt,
    ),
  ),
)

-- what the dynamic section tells: no entry is said to be relative
copying_information : InformsLinker copying_layout processors.X86_64 copying_image
copying_information = record {
  segment = copying_third;
  first = ap first_dynamic copying_programs ∙ copying_dynamic;
  entries = copying_entries;
  read = copying_read;
  ended = omega arith;
  told = record {
    now = record { value = 8; there = copying_tags.flags; set = refl };
    now_1 = record { value = 1; there = copying_tags.flags_1; set = refl };
    stubs = λ a h. (let both : None ≡ Some a = sym copying_tags.no_stubs ∙ h in cc);
    entry_size = λ a h. copying_tags.entry_size;
    word_size = λ a h. (let both : None ≡ Some a = sym copying_tags.no_words ∙ h in cc);
    symbol_size = λ a h. (let both : None ≡ Some a = sym copying_tags.no_symbols ∙ h in cc);
    relative = λ n t h _. (let both : None ≡ Some n = sym copying_tags.no_count ∙ h in cc);
    whole = whole_size 0x1008;
    stubs_whole = no_size copying_entries dt_pltrelsz rela_size copying_tags.no_stub_size;
    words_whole = no_size copying_entries dt_relrsz relr_size copying_tags.no_word_size;
    one = one_value_each 0x1008;
    tables = no_tables copying_layout 0x1008 refl;
    functions = no_functions copying_layout 0x1008 refl;
  };
}

begins : (i a : ℕ) → copying_layout.entry ≡ Some (entry.Symbol i) → HasResolvedAddress copying_layout i a → 0x1100 ≡ a
begins i a e h =
    let one : Some (entry.Symbol 1) ≡ Some (entry.Symbol i) = e in
    let same : 1 ≡ i = cc in
    let there : HasResolvedAddress copying_layout 1 a = subst (λ (k : ℕ). HasResolvedAddress copying_layout k a) (sym same) h in
    sym (raw_of copying_layout 1 a start_symbol _ refl refl (record { definition = there.definition; defined = there.defined; given = inl there.given }))

copying_described : DescribesOutput copying_layout copying_image
copying_described = record {
  header = record {
    header = copying_header;
    fits = record {
      front = record { magic = omega arith; class = omega arith; encoding = omega arith; ident_version = omega arith; os_abi = omega arith; abi_version = omega arith; file_type = omega arith };
      middle = record { machine = omega arith; version = omega arith; entry = omega arith; program_offset = omega arith; section_offset = omega arith; flags = omega arith; header_size = omega arith };
      back = record { program_entry_size = omega arith; program_count = omega arith; section_entry_size = omega arith; section_count = omega arith; name_table = omega arith };
    };
    stands = HasBytesAt-left (spell (file_header_fields copying_header)) copying_rest;
    fixed = λ f. absurd f;
    movable = λ _. refl;
    address = λ a e. absurd (let one : Some (entry.Symbol 1) ≡ Some (entry.Address a) = e in cc);
    symbol = begins;
    none = λ e. absurd (let one : Some (entry.Symbol 1) ≡ None = e in cc);
    fields = record { ident_version = refl; os_abi = refl; abi_version = refl; programs = refl; version = refl; header = refl; program = refl; section = refl; flags = refl };
    segments = copying_segments;
    sections = no_sections copying_layout copying_image copying_header refl refl;
  };
  dynamic = λ whole d. copying_information;
}

pub copying_linked : CopyingImageIsLinked
copying_linked = (
  copying_described,
  record {
    memory = copying_memory;
    accepted = copying_loaded;
    machine = refl;
    kept = items_hold;
    zeros = zeros;
    stubs = λ whole i p h. absurd (no_stubs copying_layout i p (All-from_recursion IsUnstubbed copying_layout.symbols (refl, (refl, tt))) h);
    copies = λ whole. copies;
    texts = no_texts copying_layout copying_world copying_memory refl refl;
    still = λ a b h free. file_byte_held copying_layout copying_memory copying_world.base a b copying_image file_bytes h;
  },
)
