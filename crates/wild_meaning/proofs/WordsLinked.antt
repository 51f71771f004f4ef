-- The image of the worked program of AArch64 is linked in its world.
use Rattle.wild_meaning.proofs.Common.{◌==◌, if◌then◌else◌, Bool, ◌≡◌, ℕ, zero, suc, ◌+◌, ◌%◌, ◌^◌, ◌<◌, ◌≤◌, ◌⊎◌, inl, inr, true, false, List, [], ◌∷◌, length, refl, sym, ap, ◌∙◌, subst, arith, Some, None, Contains, All, slice_index, All-from_recursion, All-contains, word, number, spell, HasBytesAt-left, pt_gnu_stack, file_header_fields, ProgramHeader, SymbolPart, formula, PageDistance, StubDistance, SlotAddress, SlotPageDistance, AddressSlot, AdrField, Imm12Field, NoCheck, WithinPower, Bits, File, Group, InputRelocation, InputSection, Symbol, has_flag, insert_bits, read, read_address, read_access, read_vector_access, read_literal, read_transfer, read_condition, byte_in, Holds, Call, Set, Jump, Number, step, jumps, thunks-read, IsDefinedBy, IsSymbol, IsReplaceable, HasValue, HasThreadOffset, IsAddressStub, IsReferent, IsSum, Gives, IsSlot, Item, item_of, item_with, IsInput, IsKept, OfSection, OfFrames, Instruction, descriptor_call_words, address_pair_words, DoesDemanded, effect_of, demand_of, old_bytes, reads, reads_without_calls, ReadsOffsetSlots, UsesOwnSymbolOnly, IsOutsideReferences, ReferenceHolds, ItemHolds, headers_in, DescribeSegments, IsSectionWithoutData, DescribesOutput, file_of, group_of, words_static, words_world, near_function, local_data, page_reference, low_reference, slot_code, slot_item, slot_low_reference, call_code, call_item, call_reference, past_code, past_item, past_reference, kept_code, kept_item, descriptor_code, descriptor_item, descriptor_page, descriptor_load, program_header_fields}
use Rattle.std.specs.List.{flat_map}
use Rattle.wild_reloc.specs.Formula.{Imm26Field}
use Rattle.wild_types.specs.declared.file.FileRole.TheVariants as file_role
use Rattle.wild_types.specs.declared.layout.Entry.TheVariants as entry
use Rattle.wild_types.specs.FileThunks.{thunk_size}
use Rattle.wild_loader.specs.declared.instruction.Deed.TheVariants.{Load}
use Rattle.wild_loader.specs.InstructionAArch64.{meaning_aarch64}
use Rattle.wild_meaning.specs.Jump.{JumpsBy}
use Rattle.wild_meaning.specs.Sequence.{IsOwnByte}
use Rattle.wild_meaning.specs.WordsAArch64.{effect_with as asked_of}
use Rattle.wild_meaning.specs.Field.{IsInputByte}
use Rattle.wild_meaning.specs.Worked.AArch64.{address_code, address_item, slot_page_reference, descriptor_low, descriptor_call}
use Rattle.wild_meaning.specs.Worked.AArch64Image.{words_image, words_rest, words_memory, words_header, words_content}
use Rattle.wild_meaning.specs.Worked.ImageRefusalsAArch64.{WordsImageIsLinked}
use Rattle.wild_meaning.proofs.SectionHeaderLemmas.{no_sections}
use Rattle.wild_meaning.proofs.DynamicLemmas.{no_dynamic_section}
use Rattle.wild_meaning.proofs.FileBytes.{HasLoadedBytes, file_byte_held}
use Rattle.wild_meaning.proofs.SymbolUnique.{only, owner_of, stub_of, IsPlainOwn, IsUnstubbed, no_stubs}
use Rattle.wild_meaning.proofs.Read.{held_from}
use Rattle.wild_meaning.proofs.EffectLemmas.{done}
use Rattle.wild_types.specs.declared.kind.Machine.TheVariants as machine
use Rattle.wild_meaning.proofs.OneReference.{effect_with, no_words}
use Rattle.wild_meaning.proofs.InstructionsAArch64.{alone_only}
use Rattle.wild_meaning.proofs.WordsLegal.{no_library}
use Rattle.wild_meaning.proofs.WordsLoaded.{words_loaded, words_programs}
use Rattle.wild_meaning.proofs.WordsTemplates.{function_is, data_is, no_string, not_absent, slot_page_formula, slot_low_formula, call_formula, slot_page_word, slot_low_word, call_word, slot_page_alone, slot_low_alone, call_alone, no_byte, slot_page_template, slot_low_template, call_template, past_template, page_template, low_template, descriptor_template, page_formula, low_formula, page_word, no_byte_of_two, kept_template, kept_page_only, kept_low_only}
use Rattle.wild_meaning.proofs.PlacedLemmas.{stood_plain, frame_input}
use Rattle.wild_meaning.proofs.TextLemmas.{no_texts}
use Rattle.wild_types.specs.declared.input.Slot.TheVariants as slot

-- ---- symbols

defined : (i : ℕ) (s : Symbol) → IsSymbol words_static i s → s.definition ≡ None → IsDefinedBy words_static i i
defined i s listed own = record { symbol = s; listed = listed; defined = inr (own, refl) }

pub function_value : HasValue words_static words_world 0 0x11200
unfolding has_flag
function_value = inr (
  record { definition = 0; defined = defined 0 near_function refl refl; symbol = near_function; listed = refl; told = refl },
  record {
    raw = 0x11200;
    given = record { definition = 0; defined = defined 0 near_function refl refl; given = inl (record { symbol = near_function; listed = refl; resolution = _; decided = refl; value = refl }) };
    indirect = false;
    resolved = record { definition = 0; defined = defined 0 near_function refl refl; symbol = near_function; listed = refl; flagged = refl };
    still = false;
    absolute = record { definition = 0; defined = defined 0 near_function refl refl; symbol = near_function; listed = refl; flagged = refl };
    is = refl;
  },
)

data_offset : HasThreadOffset words_static words_world 1 0x18
unfolding has_flag
data_offset = inr (
  record { definition = 1; defined = defined 1 local_data refl refl; symbol = local_data; listed = refl; told = refl },
  inl (record {
    raw = 0x30008;
    given = record { definition = 1; defined = defined 1 local_data refl refl; given = inl (record { symbol = local_data; listed = refl; resolution = _; decided = refl; value = refl }) };
    distance = 16;
    own = refl;
    sum = refl;
  }),
)

-- it stands at no stub
no_stand_in : (p : ℕ) → IsAddressStub words_static 0 p → ⊥
no_stand_in p h = stub_of words_static 0 p function_is.symbol function_is.resolution function_is.is function_is.decided function_is.unstubbed h.stub

pub own_alone : (item : Item) (r : InputRelocation) (i raw : ℕ) → r.symbol ≡ Some i → IsPlainOwn words_static i raw → UsesOwnSymbolOnly words_static item r → ⊥
own_alone item r i raw named p h =
    let both : Some i ≡ Some h.symbol = sym named ∙ h.named in
    let same : h.symbol ≡ i = cc in
    let there = owner_of words_static i true p.symbol p.is (subst (λ (k : ℕ). IsReplaceable words_static k true) same h.replaceable) in
    let flags : true ≡ false = sym there ∙ p.own in
    cc

-- what holds of an item's references, one by one
abbrev Both : Item → InputRelocation → Type 0
Both item r = ReferenceHolds words_static words_world words_memory item r × (UsesOwnSymbolOnly words_static item r → ⊥)

all_hold : (item : Item) → All (Both item) item.relocations → ((k : ℕ) → k < length item.bytes → IsOutsideReferences words_static item k → IsInputByte words_world words_memory item k) → ItemHolds words_static words_world words_memory item
all_hold item all others = record {
  references = λ r ref present asked alone. (All-contains (Both item) item.relocations r all ref.listed).0;
  linked = λ r ref present asked alone. absurd ((All-contains (Both item) item.relocations r all ref.listed).1 alone);
  others = others;
}

-- ---- an address in two instructions

function_sum : IsSum PageDistance words_static words_world words_memory address_item page_reference 0x11200
function_sum = record { symbol = 0x11200; denoted = inr (no_string PageDistance page_reference, inr ((λ h. not_absent h.1), inr (no_stand_in, function_value))); sum = refl }

address_demanded : demand_of words_static.machine 0x11200 0x11000 (old_bytes address_item 0 address_pair_words) ≡ Some (effect_with (Set 0) 64 0x11200)
unfolding word number read read_address read_access read_vector_access read_literal read_transfer read_condition
address_demanded = refl

address_done : effect_of words_static.machine (reads_without_calls words_world words_memory) 0x11000 (0x1f ∷ 0x20 ∷ 0x03 ∷ 0xd5 ∷ 0xe0 ∷ 0x0f ∷ 0 ∷ 0x10 ∷ []) ≡ Some (effect_with (Set 0) 64 0x11200)
unfolding word number read read_address read_access read_vector_access read_literal read_transfer read_condition
address_done = refl

address_does : DoesDemanded (reads_without_calls words_world words_memory) words_static words_world words_memory address_item page_reference 0 address_pair_words
address_does = done (reads_without_calls words_world words_memory) words_static words_world words_memory address_item page_reference 0 address_pair_words (record {
  value = 0x11200;
  demands = function_sum;
  effect = effect_with (Set 0) 64 0x11200;
  demanded = address_demanded;
  bytes = 0x1f ∷ 0x20 ∷ 0x03 ∷ 0xd5 ∷ 0xe0 ∷ 0x0f ∷ 0 ∷ 0x10 ∷ [];
  whole = refl;
  held = held_from words_memory 0x11000 (0x1f ∷ 0x20 ∷ 0x03 ∷ 0xd5 ∷ 0xe0 ∷ 0x0f ∷ 0 ∷ 0x10 ∷ []) refl;
  does = address_done;
})

address_means : meaning_aarch64 0x11000 (0x1f ∷ 0x20 ∷ 0x03 ∷ 0xd5 ∷ 0xe0 ∷ 0x0f ∷ 0 ∷ 0x10 ∷ []) ≡ Some (record { deed = Set 0; width = 64; operand = Number 0x11200 })
unfolding word number read read_address read_access read_vector_access read_literal read_transfer read_condition
address_means = refl

address_words : ReadsOffsetSlots words_static.machine words_static words_world words_memory address_item page_reference 0 address_pair_words
address_words = no_words machine.AArch64 words_static words_world words_memory address_item page_reference 0 address_pair_words (0x1f ∷ 0x20 ∷ 0x03 ∷ 0xd5 ∷ 0xe0 ∷ 0x0f ∷ 0 ∷ 0x10 ∷ []) _ 0x11200 refl (held_from words_memory 0x11000 (0x1f ∷ 0x20 ∷ 0x03 ∷ 0xd5 ∷ 0xe0 ∷ 0x0f ∷ 0 ∷ 0x10 ∷ []) refl) address_means refl

within : (n k : ℕ) → k < n → (k < 0) ⊎ (n ≤ k) → ⊥
within n k lt (inl h) = omega (arith, h)
within n k lt (inr h) = omega (arith, lt, h)

address_item_holds : ItemHolds words_static words_world words_memory address_item
address_item_holds = all_hold address_item
    (All-from_recursion (Both address_item) address_item.relocations (
      (inr (record { start = 0; instruction = address_pair_words; first = page_reference; template = page_template; does = address_does; words = address_words }), own_alone address_item page_reference 0 0x11200 refl function_is),
      ((inr (record { start = 0; instruction = address_pair_words; first = page_reference; template = low_template; does = address_does; words = address_words }), own_alone address_item low_reference 0 0x11200 refl function_is), tt),
    ))
    (λ k lt other. absurd (within 8 k lt (other.templates page_reference 0 address_pair_words page_reference (record { listed = (0, omega arith, refl); refers = λ e. omega arith }) page_template)))

-- ---- a load from a slot

slot_there : IsSlot AddressSlot words_static words_world words_memory (Some 0) 0x11080
unfolding has_flag
slot_there = record {
  slot = 0x11080;
  given = record { definition = 0; defined = defined 0 near_function refl refl; symbol = near_function; listed = refl; flagged = refl; resolution = _; decided = refl; first = 0x11080; given = refl; place = refl };
  moves = refl;
  holds = (0x11200, refl, inl (inl function_value));
}

slot_page_gives : Gives (SlotPageDistance AddressSlot) words_static words_world words_memory slot_item slot_page_reference 0
slot_page_gives = (0x11080, (slot_there, refl), refl)

slot_low_gives : Gives (SlotAddress AddressSlot) words_static words_world words_memory slot_item slot_low_reference 0x11080
slot_low_gives = (0x11080, (slot_there, refl), refl)

slot_page_asked : asked_of 0 0x11010 (old_bytes slot_item 0 slot_page_word) ≡ Some (effect_with (Set 0) 64 0x11000)
unfolding word number read read_address read_access read_vector_access read_literal read_transfer read_condition insert_bits
slot_page_asked = refl

slot_page_done : effect_of words_static.machine (reads words_world words_memory) 0x11010 (0 ∷ 0 ∷ 0 ∷ 0x90 ∷ []) ≡ Some (effect_with (Set 0) 64 0x11000)
unfolding word number read read_address read_access read_vector_access read_literal read_transfer read_condition
slot_page_done = refl

slot_page_does : DoesDemanded (reads words_world words_memory) words_static words_world words_memory slot_item slot_page_reference 0 slot_page_word
slot_page_does = done (reads words_world words_memory) words_static words_world words_memory slot_item slot_page_reference 0 slot_page_word (record {
  value = 0;
  demands = record { formula = formula (SlotPageDistance AddressSlot) (Bits AdrField 32 12 (WithinPower 33) 4096); known = slot_page_formula; value = 0; gives = slot_page_gives; fits = (inl (omega arith), refl); bits = refl };
  effect = effect_with (Set 0) 64 0x11000;
  demanded = slot_page_asked;
  bytes = 0 ∷ 0 ∷ 0 ∷ 0x90 ∷ [];
  whole = refl;
  held = held_from words_memory 0x11010 (0 ∷ 0 ∷ 0 ∷ 0x90 ∷ []) refl;
  does = slot_page_done;
})

pub slot_low_asked : asked_of 0x10 0x11014 (old_bytes slot_item 4 slot_low_word) ≡ Some (effect_with (Load 0 0) 64 0x80)
unfolding word number read read_address read_access read_vector_access read_literal read_transfer read_condition insert_bits
slot_low_asked = refl

slot_low_done : effect_of words_static.machine (reads words_world words_memory) 0x11014 (0 ∷ 0x40 ∷ 0x40 ∷ 0xf9 ∷ []) ≡ Some (effect_with (Load 0 0) 64 0x80)
unfolding word number read read_address read_access read_vector_access read_literal read_transfer read_condition
slot_low_done = refl

slot_low_does : DoesDemanded (reads words_world words_memory) words_static words_world words_memory slot_item slot_low_reference 4 slot_low_word
slot_low_does = done (reads words_world words_memory) words_static words_world words_memory slot_item slot_low_reference 4 slot_low_word (record {
  value = 0x10;
  demands = record { formula = formula (SlotAddress AddressSlot) (Bits Imm12Field 11 3 NoCheck 8); known = slot_low_formula; value = 0x11080; gives = slot_low_gives; fits = (tt, refl); bits = refl };
  effect = effect_with (Load 0 0) 64 0x80;
  demanded = slot_low_asked;
  bytes = 0 ∷ 0x40 ∷ 0x40 ∷ 0xf9 ∷ [];
  whole = refl;
  held = held_from words_memory 0x11014 (0 ∷ 0x40 ∷ 0x40 ∷ 0xf9 ∷ []) refl;
  does = slot_low_done;
})

-- a word is a field as a whole, and does what it demands
abbrev IsDone : Item → ℕ → Instruction → InputRelocation → Type 0
IsDone item start o first = ((k : ℕ) → IsOwnByte o k → ⊥) × DoesDemanded (reads words_world words_memory) words_static words_world words_memory item first start o

slot_page_field : number (0 ∷ 0 ∷ 0 ∷ 0x90 ∷ []) ≡ 0x90000000
unfolding number
slot_page_field = refl

slot_page_holds : ReferenceHolds words_static words_world words_memory slot_item slot_page_reference
unfolding number
slot_page_holds =
    let each = alone_only (IsDone slot_item) words_static slot_item slot_page_reference slot_page_word refl slot_page_alone ((λ k h. no_byte k h.inside h.beside), slot_page_does) in
    inl (record {
      formula = formula (SlotPageDistance AddressSlot) (Bits AdrField 32 12 (WithinPower 33) 4096);
      known = slot_page_formula;
      value = 0;
      gives = slot_page_gives;
      field = record { bytes = 0 ∷ 0 ∷ 0 ∷ 0x90 ∷ []; wide = refl; held = held_from words_memory 0x11010 (0 ∷ 0 ∷ 0 ∷ 0x90 ∷ []) refl; reads = record { bits = refl; passes = inl (omega arith); decodes = refl; whole = refl }; keeps = refl };
      kept = λ start o first t k own. absurd ((each start o first t).0 k own);
      does = λ start o first t. (each start o first t).1;
    })

slot_low_holds : ReferenceHolds words_static words_world words_memory slot_item slot_low_reference
unfolding number
slot_low_holds =
    let each = alone_only (IsDone slot_item) words_static slot_item slot_low_reference slot_low_word refl slot_low_alone ((λ k h. no_byte k h.inside h.beside), slot_low_does) in
    inl (record {
      formula = formula (SlotAddress AddressSlot) (Bits Imm12Field 11 3 NoCheck 8);
      known = slot_low_formula;
      value = 0x11080;
      gives = slot_low_gives;
      field = record { bytes = 0 ∷ 0x40 ∷ 0x40 ∷ 0xf9 ∷ []; wide = refl; held = held_from words_memory 0x11014 (0 ∷ 0x40 ∷ 0x40 ∷ 0xf9 ∷ []) refl; reads = record { bits = refl; passes = tt; decodes = tt; whole = refl }; keeps = refl };
      kept = λ start o first t k own. absurd ((each start o first t).0 k own);
      does = λ start o first t. (each start o first t).1;
    })

no_byte_left : (k : ℕ) → k < 8 → (k < 0) ⊎ (4 ≤ k) → (k < 4) ⊎ (8 ≤ k) → ⊥
no_byte_left k lt (inl a) b = omega (arith, a)
no_byte_left k lt (inr a) (inl b) = omega (arith, a, b)
no_byte_left k lt (inr a) (inr b) = omega (arith, lt, b)

slot_item_holds : ItemHolds words_static words_world words_memory slot_item
slot_item_holds = all_hold slot_item
    (All-from_recursion (Both slot_item) slot_item.relocations ((slot_page_holds, own_alone slot_item slot_page_reference 0 0x11200 refl function_is), ((slot_low_holds, own_alone slot_item slot_low_reference 0 0x11200 refl function_is), tt)))
    (λ k lt other. absurd (no_byte_left k lt
    (other.templates slot_page_reference 0 slot_page_word slot_page_reference (record { listed = (0, omega arith, refl); refers = λ e. omega arith }) slot_page_template)
    (other.templates slot_low_reference 4 slot_low_word slot_low_reference (record { listed = (1, omega arith, refl); refers = λ e. omega arith }) slot_low_template)))

-- ---- a branch by a thunk, and one with an addend

abbrev thunk_bytes : List ℕ
thunk_bytes = 0x10 ∷ 0 ∷ 0 ∷ 0x90 ∷ 0x10 ∷ 0x02 ∷ 0x08 ∷ 0x91 ∷ 0 ∷ 0x02 ∷ 0x1f ∷ 0xd6 ∷ []

thunk_held : Holds words_memory 0x11060 (flat_map (word 4) (0x90000010 ∷ 0x91080210 ∷ 0xd61f0200 ∷ []))
unfolding word
thunk_held = held_from words_memory 0x11060 thunk_bytes refl

thunk_goes : step words_memory 0x11060 ≡ Some (jumps 12 0x11200)
unfolding insert_bits
thunk_goes = thunks-read words_memory 0 0x11060 0x11200 refl (record { above = omega arith; below = omega arith }) refl (omega arith) thunk_held

thunk_means : meaning_aarch64 0x11060 thunk_bytes ≡ Some (record { deed = Jump; width = 64; operand = Number 0x11200 })
unfolding word number read read_address read_access read_vector_access read_literal read_transfer read_condition
thunk_means = refl

thunk_jumps : JumpsBy words_static words_memory 0x11060 thunk_size (Number 0x11200) 0x11200
thunk_jumps = record { bytes = thunk_bytes; whole = refl; held = held_from words_memory 0x11060 thunk_bytes refl; means = thunk_means; jumps = record { effect = jumps 12 0x11200; known = thunk_goes; jump = refl } }

by_thunk : IsReferent words_static.machine StubDistance words_static words_world words_memory call_item call_reference 0x11060
by_thunk = inr (no_string StubDistance call_reference, inr ((λ h. not_absent h.1), record { symbol = 0x11200; denoted = inl function_value; comes = inr thunk_jumps }))

past_it : IsReferent words_static.machine StubDistance words_static words_world words_memory past_item past_reference 0x11200
past_it = inr (no_string StubDistance past_reference, inr ((λ h. not_absent h.1), record { symbol = 0x11200; denoted = inl function_value; comes = inl refl }))

pub call_demanded : (v : ℕ) → demand_of words_static.machine v 0x11020 (old_bytes call_item 0 call_word) ≡ Some (effect_with Call 64 (v % 2 ^ 64))
unfolding word number read read_address read_access read_vector_access read_literal read_transfer read_condition
call_demanded v = refl

pub past_demanded : (v : ℕ) → demand_of words_static.machine v 0x11024 (old_bytes past_item 0 call_word) ≡ Some (effect_with Call 64 (v % 2 ^ 64))
unfolding word number read read_address read_access read_vector_access read_literal read_transfer read_condition
past_demanded v = refl

call_done : effect_of words_static.machine (reads words_world words_memory) 0x11020 (0x10 ∷ 0 ∷ 0 ∷ 0x94 ∷ []) ≡ Some (effect_with Call 64 0x11060)
unfolding word number read read_address read_access read_vector_access read_literal read_transfer read_condition
call_done = refl

past_done : effect_of words_static.machine (reads words_world words_memory) 0x11024 (0x78 ∷ 0 ∷ 0 ∷ 0x94 ∷ []) ≡ Some (effect_with Call 64 0x11204)
unfolding word number read read_address read_access read_vector_access read_literal read_transfer read_condition
past_done = refl

call_does : DoesDemanded (reads words_world words_memory) words_static words_world words_memory call_item call_reference 0 call_word
call_does = done (reads words_world words_memory) words_static words_world words_memory call_item call_reference 0 call_word (record {
  value = 0x11060;
  demands = record { goal = 0x11060; stands = inr ((λ g. no_string g.formula.value call_reference g.takes), by_thunk); is = refl };
  effect = effect_with Call 64 0x11060;
  demanded = call_demanded 0x11060;
  bytes = 0x10 ∷ 0 ∷ 0 ∷ 0x94 ∷ [];
  whole = refl;
  held = held_from words_memory 0x11020 (0x10 ∷ 0 ∷ 0 ∷ 0x94 ∷ []) refl;
  does = call_done;
})

past_does : DoesDemanded (reads words_world words_memory) words_static words_world words_memory past_item past_reference 0 call_word
past_does = done (reads words_world words_memory) words_static words_world words_memory past_item past_reference 0 call_word (record {
  value = 0x11204;
  demands = record { goal = 0x11200; stands = inr ((λ g. no_string g.formula.value past_reference g.takes), past_it); is = refl };
  effect = effect_with Call 64 0x11204;
  demanded = past_demanded 0x11204;
  bytes = 0x78 ∷ 0 ∷ 0 ∷ 0x94 ∷ [];
  whole = refl;
  held = held_from words_memory 0x11024 (0x78 ∷ 0 ∷ 0 ∷ 0x94 ∷ []) refl;
  does = past_done;
})

call_holds : ReferenceHolds words_static words_world words_memory call_item call_reference
unfolding number
call_holds =
    let each = alone_only (IsDone call_item) words_static call_item call_reference call_word refl call_alone ((λ k h. no_byte k h.inside h.beside), call_does) in
    inl (record {
      formula = formula StubDistance (Bits Imm26Field 27 2 (WithinPower 28) 4);
      known = call_formula;
      value = 0x40;
      gives = (0x11060, by_thunk, refl);
      field = record { bytes = 0x10 ∷ 0 ∷ 0 ∷ 0x94 ∷ []; wide = refl; held = held_from words_memory 0x11020 (0x10 ∷ 0 ∷ 0 ∷ 0x94 ∷ []) refl; reads = record { bits = refl; passes = inl (omega arith); decodes = refl; whole = refl }; keeps = refl };
      kept = λ start o first t k own. absurd ((each start o first t).0 k own);
      does = λ start o first t. (each start o first t).1;
    })

past_holds : ReferenceHolds words_static words_world words_memory past_item past_reference
unfolding number
past_holds =
    let each = alone_only (IsDone past_item) words_static past_item past_reference call_word refl call_alone ((λ k h. no_byte k h.inside h.beside), past_does) in
    inl (record {
      formula = formula StubDistance (Bits Imm26Field 27 2 (WithinPower 28) 4);
      known = call_formula;
      value = 0x1e0;
      gives = (0x11200, past_it, refl);
      field = record { bytes = 0x78 ∷ 0 ∷ 0 ∷ 0x94 ∷ []; wide = refl; held = held_from words_memory 0x11024 (0x78 ∷ 0 ∷ 0 ∷ 0x94 ∷ []) refl; reads = record { bits = refl; passes = inl (omega arith); decodes = refl; whole = refl }; keeps = refl };
      kept = λ start o first t k own. absurd ((each start o first t).0 k own);
      does = λ start o first t. (each start o first t).1;
    })

call_item_holds : ItemHolds words_static words_world words_memory call_item
call_item_holds = all_hold call_item (All-from_recursion (Both call_item) call_item.relocations ((call_holds, own_alone call_item call_reference 0 0x11200 refl function_is), tt))
    (λ k lt other. absurd (within 4 k lt (other.templates call_reference 0 call_word call_reference (record { listed = (0, omega arith, refl); refers = λ e. omega arith }) call_template)))

past_others : (k : ℕ) → k < 8 → (k < 0) ⊎ (4 ≤ k) → byte_in words_memory (0x11024 + k) ≡ Some (slice_index past_item.bytes k)
past_others k lt (inl h) = absurd (omega (arith, h))
past_others k lt (inr h) = at k lt h
  where
    at : (k : ℕ) → k < 8 → 4 ≤ k → byte_in words_memory (0x11024 + k) ≡ Some (slice_index past_item.bytes k)
    at zero lt h = absurd (omega (arith, h))
    at (suc zero) lt h = absurd (omega (arith, h))
    at (suc (suc zero)) lt h = absurd (omega (arith, h))
    at (suc (suc (suc zero))) lt h = absurd (omega (arith, h))
    at (suc (suc (suc (suc zero)))) lt h = refl
    at (suc (suc (suc (suc (suc zero))))) lt h = refl
    at (suc (suc (suc (suc (suc (suc zero)))))) lt h = refl
    at (suc (suc (suc (suc (suc (suc (suc zero))))))) lt h = refl
    at (suc (suc (suc (suc (suc (suc (suc (suc k)))))))) lt h = absurd (omega (arith, lt))

past_item_holds : ItemHolds words_static words_world words_memory past_item
past_item_holds = all_hold past_item (All-from_recursion (Both past_item) past_item.relocations ((past_holds, own_alone past_item past_reference 0 0x11200 refl function_is), tt))
    (λ k lt other. past_others k lt (other.templates past_reference 0 call_word past_reference (record { listed = (0, omega arith, refl); refers = λ e. omega arith }) past_template))

-- ---- a descriptor's call

abbrev rewritten_call : List ℕ
rewritten_call = 0x1f ∷ 0x20 ∷ 0x03 ∷ 0xd5 ∷ 0x1f ∷ 0x20 ∷ 0x03 ∷ 0xd5 ∷ 0 ∷ 0 ∷ 0xa0 ∷ 0xd2 ∷ 0 ∷ 0x03 ∷ 0x80 ∷ 0xf2 ∷ []

descriptor_demanded : demand_of words_static.machine 0x18 0x11030 (old_bytes descriptor_item 0 descriptor_call_words) ≡ Some (effect_with (Set 0) 64 0x18)
unfolding word number read read_address read_access read_vector_access read_literal read_transfer read_condition
descriptor_demanded = refl

descriptor_done : effect_of words_static.machine (reads_without_calls words_world words_memory) 0x11030 rewritten_call ≡ Some (effect_with (Set 0) 64 0x18)
unfolding word number read read_address read_access read_vector_access read_literal read_transfer read_condition
descriptor_done = refl

descriptor_does : DoesDemanded (reads_without_calls words_world words_memory) words_static words_world words_memory descriptor_item descriptor_page 0 descriptor_call_words
descriptor_does = done (reads_without_calls words_world words_memory) words_static words_world words_memory descriptor_item descriptor_page 0 descriptor_call_words (record {
  value = 0x18;
  demands = data_offset;
  effect = effect_with (Set 0) 64 0x18;
  demanded = descriptor_demanded;
  bytes = rewritten_call;
  whole = refl;
  held = held_from words_memory 0x11030 rewritten_call refl;
  does = descriptor_done;
})

descriptor_means : meaning_aarch64 0x11030 rewritten_call ≡ Some (record { deed = Set 0; width = 64; operand = Number 0x18 })
unfolding word number read read_address read_access read_vector_access read_literal read_transfer read_condition
descriptor_means = refl

descriptor_words : ReadsOffsetSlots words_static.machine words_static words_world words_memory descriptor_item descriptor_page 0 descriptor_call_words
descriptor_words = no_words machine.AArch64 words_static words_world words_memory descriptor_item descriptor_page 0 descriptor_call_words rewritten_call _ 0x18 refl (held_from words_memory 0x11030 rewritten_call refl) descriptor_means refl

descriptor_holds : (r : InputRelocation) → Contains descriptor_item.relocations r → ReferenceHolds words_static words_world words_memory descriptor_item r
descriptor_holds r c = inr (record { start = 0; instruction = descriptor_call_words; first = descriptor_page; template = descriptor_template r c; does = descriptor_does; words = descriptor_words })

descriptor_item_holds : ItemHolds words_static words_world words_memory descriptor_item
descriptor_item_holds = all_hold descriptor_item
    (All-from_recursion (Both descriptor_item) descriptor_item.relocations (
      (descriptor_holds descriptor_page (0, omega arith, refl), own_alone descriptor_item descriptor_page 1 0x30008 refl data_is),
      (
        (descriptor_holds descriptor_load (1, omega arith, refl), own_alone descriptor_item descriptor_load 1 0x30008 refl data_is),
        (
          (descriptor_holds descriptor_low (2, omega arith, refl), own_alone descriptor_item descriptor_low 1 0x30008 refl data_is),
          ((descriptor_holds descriptor_call (3, omega arith, refl), own_alone descriptor_item descriptor_call 1 0x30008 refl data_is), tt),
        ),
      ),
    ))
    (λ k lt other. absurd (within 16 k lt (other.templates descriptor_page 0 descriptor_call_words descriptor_page (record { listed = (0, omega arith, refl); refers = λ e. omega arith }) (descriptor_template descriptor_page (0, omega arith, refl)))))

-- ---- an address that stays in two instructions

kept_sum : IsSum PageDistance words_static words_world words_memory kept_item page_reference 0x11200
kept_sum = record { symbol = 0x11200; denoted = inr (no_string PageDistance page_reference, inr ((λ h. not_absent h.1), inr (no_stand_in, function_value))); sum = refl }

kept_low_sum : IsSum SymbolPart words_static words_world words_memory kept_item low_reference 0x11200
kept_low_sum = record { symbol = 0x11200; denoted = inr (no_string SymbolPart low_reference, inr ((λ h. not_absent h.1), inr (no_stand_in, function_value))); sum = refl }

kept_word_asked : asked_of 0 0x11040 (old_bytes kept_item 0 page_word) ≡ Some (effect_with (Set 0) 64 0x11000)
unfolding word number read read_address read_access read_vector_access read_literal read_transfer read_condition insert_bits
kept_word_asked = refl

kept_word_done : effect_of words_static.machine (reads words_world words_memory) 0x11040 (0 ∷ 0 ∷ 0 ∷ 0x90 ∷ []) ≡ Some (effect_with (Set 0) 64 0x11000)
unfolding word number read read_address read_access read_vector_access read_literal read_transfer read_condition
kept_word_done = refl

kept_word_does : DoesDemanded (reads words_world words_memory) words_static words_world words_memory kept_item page_reference 0 page_word
kept_word_does = done (reads words_world words_memory) words_static words_world words_memory kept_item page_reference 0 page_word (record {
  value = 0;
  demands = record { formula = formula PageDistance (Bits AdrField 32 12 (WithinPower 33) 4096); known = page_formula; value = 0; gives = (0x11200, kept_sum, refl); fits = (inl (omega arith), refl); bits = refl };
  effect = effect_with (Set 0) 64 0x11000;
  demanded = kept_word_asked;
  bytes = 0 ∷ 0 ∷ 0 ∷ 0x90 ∷ [];
  whole = refl;
  held = held_from words_memory 0x11040 (0 ∷ 0 ∷ 0 ∷ 0x90 ∷ []) refl;
  does = kept_word_done;
})

kept_demanded : demand_of words_static.machine 0x11200 0x11040 (old_bytes kept_item 0 address_pair_words) ≡ Some (effect_with (Set 0) 64 0x11200)
unfolding word number read read_address read_access read_vector_access read_literal read_transfer read_condition
kept_demanded = refl

kept_done : effect_of words_static.machine (reads words_world words_memory) 0x11040 (0 ∷ 0 ∷ 0 ∷ 0x90 ∷ 0 ∷ 0 ∷ 0x08 ∷ 0x91 ∷ []) ≡ Some (effect_with (Set 0) 64 0x11200)
unfolding word number read read_address read_access read_vector_access read_literal read_transfer read_condition
kept_done = refl

kept_does : DoesDemanded (reads words_world words_memory) words_static words_world words_memory kept_item page_reference 0 address_pair_words
kept_does = done (reads words_world words_memory) words_static words_world words_memory kept_item page_reference 0 address_pair_words (record {
  value = 0x11200;
  demands = kept_sum;
  effect = effect_with (Set 0) 64 0x11200;
  demanded = kept_demanded;
  bytes = 0 ∷ 0 ∷ 0 ∷ 0x90 ∷ 0 ∷ 0 ∷ 0x08 ∷ 0x91 ∷ [];
  whole = refl;
  held = held_from words_memory 0x11040 (0 ∷ 0 ∷ 0 ∷ 0x90 ∷ 0 ∷ 0 ∷ 0x08 ∷ 0x91 ∷ []) refl;
  does = kept_done;
})

no_byte_there : (k : ℕ) → IsOwnByte address_pair_words k → ⊥
no_byte_there k h = no_byte_of_two k h.inside h.beside h.apart.0

kept_page_holds : ReferenceHolds words_static words_world words_memory kept_item page_reference
unfolding number
kept_page_holds =
    let each = kept_page_only (IsDone kept_item) ((λ k h. no_byte k h.inside h.beside), kept_word_does) (no_byte_there, kept_does) in
    inl (record {
      formula = formula PageDistance (Bits AdrField 32 12 (WithinPower 33) 4096);
      known = page_formula;
      value = 0;
      gives = (0x11200, kept_sum, refl);
      field = record { bytes = 0 ∷ 0 ∷ 0 ∷ 0x90 ∷ []; wide = refl; held = held_from words_memory 0x11040 (0 ∷ 0 ∷ 0 ∷ 0x90 ∷ []) refl; reads = record { bits = refl; passes = inl (omega arith); decodes = refl; whole = refl }; keeps = refl };
      kept = λ start o first t k own. absurd ((each start o first t).0 k own);
      does = λ start o first t. (each start o first t).1;
    })

kept_low_holds : ReferenceHolds words_static words_world words_memory kept_item low_reference
unfolding number
kept_low_holds =
    let each = kept_low_only (IsDone kept_item) (no_byte_there, kept_does) in
    inl (record {
      formula = formula SymbolPart (Bits Imm12Field 11 0 NoCheck 1);
      known = low_formula;
      value = 0x11200;
      gives = kept_low_sum;
      field = record { bytes = 0 ∷ 0 ∷ 0x08 ∷ 0x91 ∷ []; wide = refl; held = held_from words_memory 0x11044 (0 ∷ 0 ∷ 0x08 ∷ 0x91 ∷ []) refl; reads = record { bits = refl; passes = tt; decodes = tt; whole = refl }; keeps = refl };
      kept = λ start o first t k own. absurd ((each start o first t).0 k own);
      does = λ start o first t. (each start o first t).1;
    })

kept_item_holds : ItemHolds words_static words_world words_memory kept_item
kept_item_holds = all_hold kept_item
    (All-from_recursion (Both kept_item) kept_item.relocations ((kept_page_holds, own_alone kept_item page_reference 0 0x11200 refl function_is), ((kept_low_holds, own_alone kept_item low_reference 0 0x11200 refl function_is), tt)))
    (λ k lt other. absurd (within 8 k lt (other.templates page_reference 0 address_pair_words page_reference (record { listed = (0, omega arith, refl); refers = λ e. omega arith }) kept_template)))

-- ---- bytes of the file

file_bytes : All (HasLoadedBytes words_memory words_world.base words_image) words_static.segments
unfolding file_header_fields program_header_fields word
file_bytes = All-from_recursion (HasLoadedBytes words_memory words_world.base words_image) words_static.segments ((λ k. record { content = words_content; stands = refl; size = refl; held = refl }), tt)

-- ---- the whole

abbrev sections : List InputSection
sections = address_code ∷ slot_code ∷ call_code ∷ past_code ∷ descriptor_code ∷ kept_code ∷ []

-- its sections are these
listed_in : (s : InputSection) → IsInput words_static s → Contains sections s
listed_in s h =
    let group = only (group_of (file_of file_role.Object sections [] ∷ [])) h.group h.grouped in
    let filed : Contains (file_of file_role.Object sections [] ∷ []) h.file = subst (λ (g : Group). Contains g.files h.file) (sym group) h.filed in
    let file = only (file_of file_role.Object sections []) h.file filed in
    subst (λ (f : File). Contains f.sections s) (sym file) h.listed

-- whose branches go by block 0
in_block : (s : InputSection) (h : IsInput words_static s) → item_of words_static h.file s ≡ item_with 0 s
in_block s h =
    let group : group_of (file_of file_role.Object sections [] ∷ []) ≡ h.group = only _ h.group h.grouped in
    let filed : Contains (file_of file_role.Object sections [] ∷ []) h.file = subst (λ (g : Group). Contains g.files h.file) (sym group) h.filed in
    let first : h.file.thunk_block ≡ 0 = All-contains (λ (f : File). f.thunk_block ≡ 0) (file_of file_role.Object sections [] ∷ []) h.file (All-from_recursion (λ (f : File). f.thunk_block ≡ 0) (file_of file_role.Object sections [] ∷ []) (refl, tt)) filed in
    ap (λ (k : ℕ). item_with k s) (by (s.part == words_static.primary_part) h.file.thunk_block first)
  where
    by : (b : Bool) (n : ℕ) → n ≡ 0 → (if b then n else 0) ≡ 0
    by true n e = e
    by false n e = refl

abbrev IsPlacedUnchanged : InputSection → Type 0
IsPlacedUnchanged s = s.reversed ≡ false

is_placed_unchanged : (s : InputSection) → IsInput words_static s → s.reversed ≡ false
is_placed_unchanged s h = All-contains IsPlacedUnchanged sections s (All-from_recursion IsPlacedUnchanged sections (refl, (refl, (refl, (refl, (refl, (refl, tt))))))) (listed_in s h)

abbrev IsLoaded : InputSection → Type 0
IsLoaded s = s.slot ≡ slot.Loaded

abbrev SectionHolds : InputSection → Type 0
SectionHolds s = ItemHolds words_static words_world words_memory (item_with 0 s)

items_hold : (item : Item) → IsKept words_static item → ItemHolds words_static words_world words_memory item
items_hold item (OfSection s kept is) =
    let there : SectionHolds s = All-contains SectionHolds sections s (All-from_recursion SectionHolds sections (address_item_holds, (slot_item_holds, (call_item_holds, (past_item_holds, (descriptor_item_holds, (kept_item_holds, tt))))))) (listed_in s kept.input) in
    subst (λ (i : Item). ItemHolds words_static words_world words_memory i) (sym (is ∙ (stood_plain words_static kept.input.file s (is_placed_unchanged s kept.input) ∙ in_block s kept.input))) there
items_hold item (OfFrames s kept is) =
    let there : IsLoaded s = All-contains IsLoaded sections s (All-from_recursion IsLoaded sections (refl, (refl, (refl, (refl, (refl, (refl, tt))))))) (listed_in s (frame_input words_static s kept)) in
    let both : slot.Loaded ≡ slot.Frame = sym there ∙ kept.frame in
    cc

abbrev HasData : InputSection → Type 0
HasData s = s.nobits ≡ false

no_blank : (s : InputSection) → IsSectionWithoutData words_static s → ⊥
no_blank s h =
    let has : HasData s = All-contains HasData sections s (All-from_recursion HasData sections (refl, (refl, (refl, (refl, (refl, (refl, tt))))))) (listed_in s h.input) in
    let both : true ≡ false = sym h.blank ∙ has in
    cc

words_segments : DescribeSegments words_static words_static.segments (headers_in words_image)
words_segments = subst (λ (hs : List ProgramHeader). DescribeSegments words_static words_static.segments hs) (sym words_programs) (
  record { kind = refl; flags = λ k. refl; stack = λ k. absurd (let no : 1 ≡ pt_gnu_stack = k in omega (arith, no)); offset = refl; address = refl; physical = refl; file_size = refl; mem_size = refl; align = λ k. absurd (k refl); pages = λ k. refl; congruent = λ k. refl },
  tt,
)

words_described : DescribesOutput words_static words_image
words_described = record {
  header = record {
    header = words_header;
    fits = record {
      front = record { magic = omega arith; class = omega arith; encoding = omega arith; ident_version = omega arith; os_abi = omega arith; abi_version = omega arith; file_type = omega arith };
      middle = record { machine = omega arith; version = omega arith; entry = omega arith; program_offset = omega arith; section_offset = omega arith; flags = omega arith; header_size = omega arith };
      back = record { program_entry_size = omega arith; program_count = omega arith; section_entry_size = omega arith; section_count = omega arith; name_table = omega arith };
    };
    stands = HasBytesAt-left (spell (file_header_fields words_header)) words_rest;
    fixed = λ _. refl;
    movable = λ f. absurd f;
    address = λ a e. (let one : Some (entry.Address 0x11000) ≡ Some (entry.Address a) = e in let same : 0x11000 ≡ a = cc in same);
    symbol = λ i a e _. absurd (let one : Some (entry.Address 0x11000) ≡ Some (entry.Symbol i) = e in cc);
    none = λ e. absurd (let one : Some (entry.Address 0x11000) ≡ None = e in cc);
    fields = record { ident_version = refl; os_abi = refl; abi_version = refl; programs = refl; version = refl; header = refl; program = refl; section = refl; flags = refl };
    segments = words_segments;
    sections = no_sections words_static words_image words_header refl refl;
  };
  dynamic = λ whole d. absurd (no_dynamic_section words_static _ (λ linker. linker) refl refl d);
}

pub words_linked : WordsImageIsLinked
words_linked = (
  words_described,
  record {
    memory = words_memory;
    accepted = words_loaded;
    machine = refl;
    kept = items_hold;
    zeros = λ s k h _ _ _. absurd (no_blank s h);
    stubs = λ whole i p h. absurd (no_stubs words_static i p (All-from_recursion IsUnstubbed words_static.symbols (refl, (refl, tt))) h);
    copies = λ whole i raw x h. absurd (no_library i h.copied);
    texts = no_texts words_static words_world words_memory refl refl;
    still = λ a b h free. file_byte_held words_static words_memory words_world.base a b words_image file_bytes h;
  },
)
