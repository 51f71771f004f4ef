-- The image of the worked program without a dynamic linker is linked in its world.
use Rattle.wild_meaning.proofs.Common.{◌==◌, if◌then◌else◌, Bool, ◌≡◌, ℕ, zero, suc, ◌+◌, ◌-◌, ◌%◌, ◌^◌, ◌<◌, ◌≤◌, ◌⊎◌, inl, inr, true, false, List, [], ◌∷◌, length, refl, sym, ap, ◌∙◌, subst, arith, Some, None, Contains, All, slice_index, All-from_recursion, All-contains, pos, number, word, spell, HasBytesAt-left, r_x86_64_64, r_x86_64_tpoff64, pt_gnu_stack, file_header_fields, ProgramHeader, Formula, formula, SymbolAddress, PointerOffset, Full, StubDistance, x86_64_formula, File, Group, InputRelocation, InputSection, Symbol, has_flag, byte_in, Holds, Call, Set, SetThreadAddress, as_value, meaning_x86_64, effect_x86_64, IsDefinedBy, IsSymbol, HasValue, HasThreadOffset, Item, item_of, item_with, IsInput, IsKept, OfSection, OfFrames, DoesDemanded, reads_without_calls, Number, ReadsOffsetSlots, UsesOwnSymbolOnly, IsOutsideReferences, ReferenceHolds, ItemHolds, headers_in, DescribeSegments, IsSectionWithoutData, DescribesOutput, reference, file_of, group_of, static_pie, static_pie_world, branch_code, load_code, general_code, described_code, static_data, first_function, second_function, thread_symbol, getter_symbol, program_header_fields}
use Rattle.wild_types.specs.declared.file.FileRole.TheVariants as file_role
use Rattle.wild_types.specs.declared.layout.Entry.TheVariants as entry
use Rattle.wild_types.specs.declared.kind.Machine.TheVariants as machine
use Rattle.wild_meaning.specs.Worked.Static.{branch_item, branch_reference, load_item, load_reference, general_item, pair_reference, getter_reference, described_item, described_reference, static_item}
use Rattle.wild_meaning.specs.Worked.StaticImage.{static_image, static_rest, static_memory, static_header, static_content}
use Rattle.wild_meaning.specs.Worked.StaticRefusals.{StaticImageIsLinked}
use Rattle.wild_meaning.proofs.SectionHeaderLemmas.{no_sections}
use Rattle.wild_meaning.proofs.DynamicLemmas.{no_dynamic_section}
use Rattle.wild_meaning.proofs.FileBytes.{HasLoadedBytes, file_byte_held}
use Rattle.wild_meaning.proofs.SymbolUnique.{only, IsPlainOwn, IsUnstubbed, no_stubs}
use Rattle.wild_meaning.proofs.Read.{held_from}
use Rattle.wild_meaning.proofs.Refused.{not_alone, no_template}
use Rattle.wild_meaning.proofs.EffectLemmas.{done}
use Rattle.wild_meaning.proofs.OneReference.{effect_with, no_words}
use Rattle.wild_meaning.proofs.StaticLegal.{no_library}
use Rattle.wild_meaning.proofs.StaticLoaded.{static_loaded, static_programs}
use Rattle.wild_meaning.proofs.StaticRefused.{first_is, second_is, thread_is, address_formula, pointer_formula, no_code, no_string}
use Rattle.wild_meaning.proofs.CodeRefused.{plt_formula, load_formula, descriptor_formula, call, call_template, call_demanded, load, load_template, load_demanded, described, described_template, described_demanded}
use Rattle.wild_meaning.proofs.SequenceRefused.{pair_formula, general, general_demanded, general_template, getter_template}
use Rattle.wild_meaning.proofs.PlacedLemmas.{stood_plain, frame_input}
use Rattle.wild_meaning.proofs.TextLemmas.{no_texts}
use Rattle.wild_types.specs.declared.input.Slot.TheVariants as slot

-- ---- symbols

defined : (i : ℕ) (s : Symbol) → IsSymbol static_pie i s → s.definition ≡ None → IsDefinedBy static_pie i i
defined i s listed own = record { symbol = s; listed = listed; defined = inr (own, refl) }

first_value : HasValue static_pie static_pie_world 0 (0x40000 + 0x1200)
unfolding has_flag
first_value = inr (
  record { definition = 0; defined = defined 0 first_function refl refl; symbol = first_function; listed = refl; told = refl },
  record {
    raw = 0x1200;
    given = record { definition = 0; defined = defined 0 first_function refl refl; given = inl (record { symbol = first_function; listed = refl; resolution = _; decided = refl; value = refl }) };
    indirect = false;
    resolved = record { definition = 0; defined = defined 0 first_function refl refl; symbol = first_function; listed = refl; flagged = refl };
    still = false;
    absolute = record { definition = 0; defined = defined 0 first_function refl refl; symbol = first_function; listed = refl; flagged = refl };
    is = refl;
  },
)

second_value : HasValue static_pie static_pie_world 1 (0x40000 + 0x1210)
unfolding has_flag
second_value = inr (
  record { definition = 1; defined = defined 1 second_function refl refl; symbol = second_function; listed = refl; told = refl },
  record {
    raw = 0x1210;
    given = record { definition = 1; defined = defined 1 second_function refl refl; given = inl (record { symbol = second_function; listed = refl; resolution = _; decided = refl; value = refl }) };
    indirect = false;
    resolved = record { definition = 1; defined = defined 1 second_function refl refl; symbol = second_function; listed = refl; flagged = refl };
    still = false;
    absolute = record { definition = 1; defined = defined 1 second_function refl refl; symbol = second_function; listed = refl; flagged = refl };
    is = refl;
  },
)

thread_offset : HasThreadOffset static_pie static_pie_world 2 (2 ^ 64 - 8)
unfolding has_flag
thread_offset = inr (
  record { definition = 2; defined = defined 2 thread_symbol refl refl; symbol = thread_symbol; listed = refl; told = refl },
  inl (record {
    raw = 0x3008;
    given = record { definition = 2; defined = defined 2 thread_symbol refl refl; given = inl (record { symbol = thread_symbol; listed = refl; resolution = _; decided = refl; value = refl }) };
    distance = 2 ^ 64 - 16;
    own = refl;
    sum = refl;
  }),
)

getter_is : IsPlainOwn static_pie 3 0x1220
unfolding has_flag
getter_is = record { symbol = getter_symbol; resolution = _; is = refl; decided = refl; raw_is = refl; own = refl; plain = refl; moves = refl; unstubbed = refl }

-- a reference to an own symbol does not take the output's own alone
own_alone : (item : Item) (r : InputRelocation) (f : Formula) (i raw : ℕ) → x86_64_formula r.number ≡ Some f → r.symbol ≡ Some i → IsPlainOwn static_pie i raw → UsesOwnSymbolOnly static_pie item r → ⊥
own_alone item r f i raw known named p x = not_alone static_pie item r f i p.symbol known named p.is (λ e. absurd (let both : true ≡ false = sym e ∙ p.own in cc)) x

-- what holds of an item's references, one by one
abbrev Both : Item → InputRelocation → Type 0
Both item r = ReferenceHolds static_pie static_pie_world static_memory item r × (UsesOwnSymbolOnly static_pie item r → ⊥)

all_hold : (item : Item) → All (Both item) item.relocations → ((k : ℕ) → k < length item.bytes → IsOutsideReferences static_pie item k → byte_in static_memory (static_pie_world.base + item.address + k) ≡ Some (slice_index item.bytes k)) → ItemHolds static_pie static_pie_world static_memory item
all_hold item all others = record {
  references = λ r ref present asked alone. (All-contains (Both item) item.relocations r all ref.listed).0;
  linked = λ r ref present asked alone. absurd ((All-contains (Both item) item.relocations r all ref.listed).1 alone);
  others = others;
}

-- ---- branch

branch_done : effect_x86_64 (reads_without_calls static_pie_world static_memory) 0x41000 (0xe8 ∷ 0xfb ∷ 0x01 ∷ 0 ∷ 0 ∷ []) ≡ Some (effect_with Call 64 0x41200)
unfolding meaning_x86_64 number
branch_done = refl

branch_held : Holds static_memory 0x41000 (0xe8 ∷ 0xfb ∷ 0x01 ∷ 0 ∷ 0 ∷ [])
branch_held = held_from static_memory 0x41000 (0xe8 ∷ 0xfb ∷ 0x01 ∷ 0 ∷ 0 ∷ []) refl

branch_means : meaning_x86_64 0x41000 (0xe8 ∷ 0xfb ∷ 0x01 ∷ 0 ∷ 0 ∷ []) ≡ Some (record { deed = Call; width = 64; operand = Number (0x41200) })
unfolding meaning_x86_64 number
branch_means = refl

branch_words : ReadsOffsetSlots machine.X86_64 static_pie static_pie_world static_memory branch_item branch_reference 0 call
branch_words = no_words machine.X86_64 static_pie static_pie_world static_memory branch_item branch_reference 0 call (0xe8 ∷ 0xfb ∷ 0x01 ∷ 0 ∷ 0 ∷ []) _ (0x41200) refl branch_held branch_means refl

branch_holds : ReferenceHolds static_pie static_pie_world static_memory branch_item branch_reference
branch_holds = inr (record {
  start = 0;
  instruction = call;
  first = branch_reference;
  template = call_template;
  words = branch_words;
  does = done (reads_without_calls static_pie_world static_memory) static_pie static_pie_world static_memory branch_item branch_reference 0 call (record {
    value = 0x41200;
    demands = record { goal = 0x41200; stands = inr ((λ g. no_string g.formula.value branch_reference g.takes), inr (no_string StubDistance branch_reference, inl first_value)); is = refl };
    effect = effect_with Call 64 0x41200;
    demanded = call_demanded 0x41200;
    bytes = 0xe8 ∷ 0xfb ∷ 0x01 ∷ 0 ∷ 0 ∷ [];
    whole = refl;
    held = branch_held;
    does = branch_done;
  });
})

branch_others : (k : ℕ) → k < 7 → (k < 0) ⊎ (5 ≤ k) → byte_in static_memory (0x41000 + k) ≡ Some (slice_index branch_item.bytes k)
branch_others k lt (inl h) = absurd (omega (arith, h))
branch_others k lt (inr h) = at k lt h
  where
    at : (k : ℕ) → k < 7 → 5 ≤ k → byte_in static_memory (0x41000 + k) ≡ Some (slice_index branch_item.bytes k)
    at zero lt h = absurd (omega (arith, h))
    at (suc zero) lt h = absurd (omega (arith, h))
    at (suc (suc zero)) lt h = absurd (omega (arith, h))
    at (suc (suc (suc zero))) lt h = absurd (omega (arith, h))
    at (suc (suc (suc (suc zero)))) lt h = absurd (omega (arith, h))
    at (suc (suc (suc (suc (suc zero))))) lt h = refl
    at (suc (suc (suc (suc (suc (suc zero)))))) lt h = refl
    at (suc (suc (suc (suc (suc (suc (suc k))))))) lt h = absurd (omega (arith, lt))

branch_item_holds : ItemHolds static_pie static_pie_world static_memory branch_item
branch_item_holds = all_hold branch_item (All-from_recursion (Both branch_item) branch_item.relocations ((branch_holds, own_alone branch_item branch_reference _ 0 0x1200 plt_formula refl first_is), tt))
    (λ k lt other. branch_others k lt (other.templates branch_reference 0 call branch_reference (record { listed = (0, omega arith, refl); refers = λ e. omega arith }) call_template))

-- ---- load

load_done : effect_x86_64 (reads_without_calls static_pie_world static_memory) 0x41010 (0x48 ∷ 0x8d ∷ 0x05 ∷ 0xe9 ∷ 0x01 ∷ 0 ∷ 0 ∷ []) ≡ Some (effect_with (Set 0) 64 0x41200)
unfolding meaning_x86_64 number
load_done = refl

load_held : Holds static_memory 0x41010 (0x48 ∷ 0x8d ∷ 0x05 ∷ 0xe9 ∷ 0x01 ∷ 0 ∷ 0 ∷ [])
load_held = held_from static_memory 0x41010 (0x48 ∷ 0x8d ∷ 0x05 ∷ 0xe9 ∷ 0x01 ∷ 0 ∷ 0 ∷ []) refl

load_means : meaning_x86_64 0x41010 (0x48 ∷ 0x8d ∷ 0x05 ∷ 0xe9 ∷ 0x01 ∷ 0 ∷ 0 ∷ []) ≡ Some (record { deed = Set 0; width = 64; operand = Number (0x41200) })
unfolding meaning_x86_64 number
load_means = refl

load_words : ReadsOffsetSlots machine.X86_64 static_pie static_pie_world static_memory load_item load_reference 0 load
load_words = no_words machine.X86_64 static_pie static_pie_world static_memory load_item load_reference 0 load (0x48 ∷ 0x8d ∷ 0x05 ∷ 0xe9 ∷ 0x01 ∷ 0 ∷ 0 ∷ []) _ (0x41200) refl load_held load_means refl

load_holds : ReferenceHolds static_pie static_pie_world static_memory load_item load_reference
load_holds = inr (record {
  start = 0;
  instruction = load;
  first = load_reference;
  template = load_template;
  words = load_words;
  does = done (reads_without_calls static_pie_world static_memory) static_pie static_pie_world static_memory load_item load_reference 0 load (record {
    value = 0x41200;
    demands = inl (inl first_value);
    effect = effect_with (Set 0) 64 0x41200;
    demanded = load_demanded 0x41200;
    bytes = 0x48 ∷ 0x8d ∷ 0x05 ∷ 0xe9 ∷ 0x01 ∷ 0 ∷ 0 ∷ [];
    whole = refl;
    held = load_held;
    does = load_done;
  });
})

load_others : (k : ℕ) → k < 9 → (k < 0) ⊎ (7 ≤ k) → byte_in static_memory (0x41010 + k) ≡ Some (slice_index load_item.bytes k)
load_others k lt (inl h) = absurd (omega (arith, h))
load_others k lt (inr h) = at k lt h
  where
    at : (k : ℕ) → k < 9 → 7 ≤ k → byte_in static_memory (0x41010 + k) ≡ Some (slice_index load_item.bytes k)
    at zero lt h = absurd (omega (arith, h))
    at (suc zero) lt h = absurd (omega (arith, h))
    at (suc (suc zero)) lt h = absurd (omega (arith, h))
    at (suc (suc (suc zero))) lt h = absurd (omega (arith, h))
    at (suc (suc (suc (suc zero)))) lt h = absurd (omega (arith, h))
    at (suc (suc (suc (suc (suc zero))))) lt h = absurd (omega (arith, h))
    at (suc (suc (suc (suc (suc (suc zero)))))) lt h = absurd (omega (arith, h))
    at (suc (suc (suc (suc (suc (suc (suc zero))))))) lt h = refl
    at (suc (suc (suc (suc (suc (suc (suc (suc zero)))))))) lt h = refl
    at (suc (suc (suc (suc (suc (suc (suc (suc (suc k))))))))) lt h = absurd (omega (arith, lt))

load_item_holds : ItemHolds static_pie static_pie_world static_memory load_item
load_item_holds = all_hold load_item (All-from_recursion (Both load_item) load_item.relocations ((load_holds, own_alone load_item load_reference _ 0 0x1200 load_formula refl first_is), tt))
    (λ k lt other. load_others k lt (other.templates load_reference 0 load load_reference (record { listed = (0, omega arith, refl); refers = λ e. omega arith }) load_template))

-- ---- described

described_done : effect_x86_64 (reads_without_calls static_pie_world static_memory) 0x41040 (0x48 ∷ 0xc7 ∷ 0xc0 ∷ 0xf8 ∷ 0xff ∷ 0xff ∷ 0xff ∷ []) ≡ Some (effect_with (Set 0) 64 (2 ^ 64 - 8))
unfolding meaning_x86_64 number
described_done = refl

described_held : Holds static_memory 0x41040 (0x48 ∷ 0xc7 ∷ 0xc0 ∷ 0xf8 ∷ 0xff ∷ 0xff ∷ 0xff ∷ [])
described_held = held_from static_memory 0x41040 (0x48 ∷ 0xc7 ∷ 0xc0 ∷ 0xf8 ∷ 0xff ∷ 0xff ∷ 0xff ∷ []) refl

described_means : meaning_x86_64 0x41040 (0x48 ∷ 0xc7 ∷ 0xc0 ∷ 0xf8 ∷ 0xff ∷ 0xff ∷ 0xff ∷ []) ≡ Some (record { deed = Set 0; width = 64; operand = Number (2 ^ 64 - 8) })
unfolding meaning_x86_64 number
described_means = refl

described_words : ReadsOffsetSlots machine.X86_64 static_pie static_pie_world static_memory described_item described_reference 0 described
described_words = no_words machine.X86_64 static_pie static_pie_world static_memory described_item described_reference 0 described (0x48 ∷ 0xc7 ∷ 0xc0 ∷ 0xf8 ∷ 0xff ∷ 0xff ∷ 0xff ∷ []) _ (2 ^ 64 - 8) refl described_held described_means refl

described_holds : ReferenceHolds static_pie static_pie_world static_memory described_item described_reference
described_holds = inr (record {
  start = 0;
  instruction = described;
  first = described_reference;
  template = described_template;
  words = described_words;
  does = done (reads_without_calls static_pie_world static_memory) static_pie static_pie_world static_memory described_item described_reference 0 described (record {
    value = (2 ^ 64 - 8);
    demands = inl ((tt, refl), thread_offset);
    effect = effect_with (Set 0) 64 (2 ^ 64 - 8);
    demanded = described_demanded (2 ^ 64 - 8);
    bytes = 0x48 ∷ 0xc7 ∷ 0xc0 ∷ 0xf8 ∷ 0xff ∷ 0xff ∷ 0xff ∷ [];
    whole = refl;
    held = described_held;
    does = described_done;
  });
})

described_others : (k : ℕ) → k < 9 → (k < 0) ⊎ (7 ≤ k) → byte_in static_memory (0x41040 + k) ≡ Some (slice_index described_item.bytes k)
described_others k lt (inl h) = absurd (omega (arith, h))
described_others k lt (inr h) = at k lt h
  where
    at : (k : ℕ) → k < 9 → 7 ≤ k → byte_in static_memory (0x41040 + k) ≡ Some (slice_index described_item.bytes k)
    at zero lt h = absurd (omega (arith, h))
    at (suc zero) lt h = absurd (omega (arith, h))
    at (suc (suc zero)) lt h = absurd (omega (arith, h))
    at (suc (suc (suc zero))) lt h = absurd (omega (arith, h))
    at (suc (suc (suc (suc zero)))) lt h = absurd (omega (arith, h))
    at (suc (suc (suc (suc (suc zero))))) lt h = absurd (omega (arith, h))
    at (suc (suc (suc (suc (suc (suc zero)))))) lt h = absurd (omega (arith, h))
    at (suc (suc (suc (suc (suc (suc (suc zero))))))) lt h = refl
    at (suc (suc (suc (suc (suc (suc (suc (suc zero)))))))) lt h = refl
    at (suc (suc (suc (suc (suc (suc (suc (suc (suc k))))))))) lt h = absurd (omega (arith, lt))

described_item_holds : ItemHolds static_pie static_pie_world static_memory described_item
described_item_holds = all_hold described_item (All-from_recursion (Both described_item) described_item.relocations ((described_holds, own_alone described_item described_reference _ 2 0x3008 descriptor_formula refl thread_is), tt))
    (λ k lt other. described_others k lt (other.templates described_reference 0 described described_reference (record { listed = (0, omega arith, refl); refers = λ e. omega arith }) described_template))

-- ---- a sequence

general_done : effect_x86_64 (reads_without_calls static_pie_world static_memory) 0x41020 (0x64 ∷ 0x48 ∷ 0x8b ∷ 0x04 ∷ 0x25 ∷ 0 ∷ 0 ∷ 0 ∷ 0 ∷ 0x48 ∷ 0x8d ∷ 0x80 ∷ 0xf8 ∷ 0xff ∷ 0xff ∷ 0xff ∷ []) ≡ Some (effect_with (SetThreadAddress 0) 64 (2 ^ 64 - 8))
unfolding meaning_x86_64 number
general_done = refl

general_held : Holds static_memory 0x41020 (0x64 ∷ 0x48 ∷ 0x8b ∷ 0x04 ∷ 0x25 ∷ 0 ∷ 0 ∷ 0 ∷ 0 ∷ 0x48 ∷ 0x8d ∷ 0x80 ∷ 0xf8 ∷ 0xff ∷ 0xff ∷ 0xff ∷ [])
general_held = held_from static_memory 0x41020 (0x64 ∷ 0x48 ∷ 0x8b ∷ 0x04 ∷ 0x25 ∷ 0 ∷ 0 ∷ 0 ∷ 0 ∷ 0x48 ∷ 0x8d ∷ 0x80 ∷ 0xf8 ∷ 0xff ∷ 0xff ∷ 0xff ∷ []) refl

general_does : DoesDemanded (reads_without_calls static_pie_world static_memory) static_pie static_pie_world static_memory general_item pair_reference 0 general
general_does = done (reads_without_calls static_pie_world static_memory) static_pie static_pie_world static_memory general_item pair_reference 0 general (record {
  value = 2 ^ 64 - 8;
  demands = thread_offset;
  effect = effect_with (SetThreadAddress 0) 64 (2 ^ 64 - 8);
  demanded = general_demanded (2 ^ 64 - 8);
  bytes = 0x64 ∷ 0x48 ∷ 0x8b ∷ 0x04 ∷ 0x25 ∷ 0 ∷ 0 ∷ 0 ∷ 0 ∷ 0x48 ∷ 0x8d ∷ 0x80 ∷ 0xf8 ∷ 0xff ∷ 0xff ∷ 0xff ∷ [];
  whole = refl;
  held = general_held;
  does = general_done;
})

general_means : meaning_x86_64 0x41020 (0x64 ∷ 0x48 ∷ 0x8b ∷ 0x04 ∷ 0x25 ∷ 0 ∷ 0 ∷ 0 ∷ 0 ∷ 0x48 ∷ 0x8d ∷ 0x80 ∷ 0xf8 ∷ 0xff ∷ 0xff ∷ 0xff ∷ []) ≡ Some (record { deed = SetThreadAddress 0; width = 64; operand = Number (2 ^ 64 - 8) })
unfolding meaning_x86_64 number
general_means = refl

general_words : ReadsOffsetSlots machine.X86_64 static_pie static_pie_world static_memory general_item pair_reference 0 general
general_words = no_words machine.X86_64 static_pie static_pie_world static_memory general_item pair_reference 0 general (0x64 ∷ 0x48 ∷ 0x8b ∷ 0x04 ∷ 0x25 ∷ 0 ∷ 0 ∷ 0 ∷ 0 ∷ 0x48 ∷ 0x8d ∷ 0x80 ∷ 0xf8 ∷ 0xff ∷ 0xff ∷ 0xff ∷ []) _ (2 ^ 64 - 8) refl general_held general_means refl

pair_holds : ReferenceHolds static_pie static_pie_world static_memory general_item pair_reference
pair_holds = inr (record { start = 0; instruction = general; first = pair_reference; template = general_template; does = general_does; words = general_words })

getter_holds : ReferenceHolds static_pie static_pie_world static_memory general_item getter_reference
getter_holds = inr (record { start = 0; instruction = general; first = pair_reference; template = getter_template; does = general_does; words = general_words })

no_rest : (k : ℕ) → k < 16 → (k < 0) ⊎ (16 ≤ k) → ⊥
no_rest k lt (inl h) = omega (arith, h)
no_rest k lt (inr h) = omega (arith, lt, h)

general_item_holds : ItemHolds static_pie static_pie_world static_memory general_item
general_item_holds = all_hold general_item (All-from_recursion (Both general_item) general_item.relocations ((pair_holds, own_alone general_item pair_reference _ 2 0x3008 pair_formula refl thread_is), ((getter_holds, own_alone general_item getter_reference _ 3 0x1220 plt_formula refl getter_is), tt)))
    (λ k lt other. absurd (no_rest k lt (other.templates pair_reference 0 general pair_reference (record { listed = (0, omega arith, refl); refers = λ e. omega arith }) general_template)))

-- ---- data

address_number : number (0x10 ∷ 0x12 ∷ 0x04 ∷ 0 ∷ 0 ∷ 0 ∷ 0 ∷ 0 ∷ []) ≡ 0x41210
unfolding number
address_number = refl

offset_number : number (0xf8 ∷ 0xff ∷ 0xff ∷ 0xff ∷ 0xff ∷ 0xff ∷ 0xff ∷ 0xff ∷ []) ≡ 2 ^ 64 - 8
unfolding number
offset_number = refl

abbrev address_reference : InputRelocation
address_reference = reference 0 r_x86_64_64 1 (pos 0)

abbrev offset_reference : InputRelocation
offset_reference = reference 8 r_x86_64_tpoff64 2 (pos 0)

address_holds : ReferenceHolds static_pie static_pie_world static_memory static_item address_reference
address_holds = inl (record {
  formula = formula SymbolAddress Full;
  known = address_formula;
  value = 0x41210;
  gives = record { symbol = 0x41210; denoted = inr (no_string SymbolAddress address_reference, inl second_value); sum = refl };
  field = record { bytes = 0x10 ∷ 0x12 ∷ 0x04 ∷ 0 ∷ 0 ∷ 0 ∷ 0 ∷ 0 ∷ []; wide = refl; held = held_from static_memory 0x41100 (0x10 ∷ 0x12 ∷ 0x04 ∷ 0 ∷ 0 ∷ 0 ∷ 0 ∷ 0 ∷ []) refl; reads = address_number; keeps = tt };
  kept = λ start o first t. absurd (no_template static_pie static_item address_reference start o first no_code t);
  does = λ start o first t. absurd (no_template static_pie static_item address_reference start o first no_code t);
})

offset_holds : ReferenceHolds static_pie static_pie_world static_memory static_item offset_reference
offset_holds = inl (record {
  formula = formula PointerOffset Full;
  known = pointer_formula;
  value = 2 ^ 64 - 8;
  gives = (2 ^ 64 - 8, thread_offset, refl);
  field = record { bytes = 0xf8 ∷ 0xff ∷ 0xff ∷ 0xff ∷ 0xff ∷ 0xff ∷ 0xff ∷ 0xff ∷ []; wide = refl; held = held_from static_memory 0x41108 (0xf8 ∷ 0xff ∷ 0xff ∷ 0xff ∷ 0xff ∷ 0xff ∷ 0xff ∷ 0xff ∷ []) refl; reads = offset_number; keeps = tt };
  kept = λ start o first t. absurd (no_template static_pie static_item offset_reference start o first no_code t);
  does = λ start o first t. absurd (no_template static_pie static_item offset_reference start o first no_code t);
})

no_other : (k : ℕ) → k < 16 → (k < 0) ⊎ (8 ≤ k) → (k < 8) ⊎ (16 ≤ k) → ⊥
no_other k lt (inl a) b = omega (arith, a)
no_other k lt (inr a) (inl b) = omega (arith, a, b)
no_other k lt (inr a) (inr b) = omega (arith, lt, b)

static_item_holds : ItemHolds static_pie static_pie_world static_memory static_item
static_item_holds = all_hold static_item (All-from_recursion (Both static_item) static_item.relocations ((address_holds, own_alone static_item address_reference _ 1 0x1210 address_formula refl second_is), ((offset_holds, own_alone static_item offset_reference _ 2 0x3008 pointer_formula refl thread_is), tt)))
    (λ k lt other. absurd (no_other k lt (other.fields 0 address_reference (omega arith) (formula SymbolAddress Full) address_formula) (other.fields 1 address_reference (omega arith) (formula PointerOffset Full) pointer_formula)))

-- ---- bytes of the file

file_bytes : All (HasLoadedBytes static_memory static_pie_world.base static_image) static_pie.segments
unfolding file_header_fields program_header_fields word
file_bytes = All-from_recursion (HasLoadedBytes static_memory static_pie_world.base static_image) static_pie.segments ((λ k. record { content = static_content; stands = refl; size = refl; held = refl }), tt)

-- ---- the whole

abbrev sections : List InputSection
sections = branch_code ∷ load_code ∷ general_code ∷ described_code ∷ static_data ∷ []

-- its sections are these
listed_in : (s : InputSection) → IsInput static_pie s → Contains sections s
listed_in s h =
    let group = only (group_of (file_of file_role.Object sections [] ∷ [])) h.group h.grouped in
    let filed : Contains (file_of file_role.Object sections [] ∷ []) h.file = subst (λ (g : Group). Contains g.files h.file) (sym group) h.filed in
    let file = only (file_of file_role.Object sections []) h.file filed in
    subst (λ (f : File). Contains f.sections s) (sym file) h.listed

-- whose branches go by block 0
in_block : (s : InputSection) (h : IsInput static_pie s) → item_of static_pie h.file s ≡ item_with 0 s
in_block s h =
    let group : group_of (file_of file_role.Object sections [] ∷ []) ≡ h.group = only _ h.group h.grouped in
    let filed : Contains (file_of file_role.Object sections [] ∷ []) h.file = subst (λ (g : Group). Contains g.files h.file) (sym group) h.filed in
    let first : h.file.thunk_block ≡ 0 = All-contains (λ (f : File). f.thunk_block ≡ 0) (file_of file_role.Object sections [] ∷ []) h.file (All-from_recursion (λ (f : File). f.thunk_block ≡ 0) (file_of file_role.Object sections [] ∷ []) (refl, tt)) filed in
    ap (λ (k : ℕ). item_with k s) (by (s.part == static_pie.primary_part) h.file.thunk_block first)
  where
    by : (b : Bool) (n : ℕ) → n ≡ 0 → (if b then n else 0) ≡ 0
    by true n e = e
    by false n e = refl

abbrev IsPlacedUnchanged : InputSection → Type 0
IsPlacedUnchanged s = s.reversed ≡ false

is_placed_unchanged : (s : InputSection) → IsInput static_pie s → s.reversed ≡ false
is_placed_unchanged s h = All-contains IsPlacedUnchanged sections s (All-from_recursion IsPlacedUnchanged sections (refl, (refl, (refl, (refl, (refl, tt)))))) (listed_in s h)

abbrev IsLoaded : InputSection → Type 0
IsLoaded s = s.slot ≡ slot.Loaded

abbrev SectionHolds : InputSection → Type 0
SectionHolds s = ItemHolds static_pie static_pie_world static_memory (item_with 0 s)

items_hold : (item : Item) → IsKept static_pie item → ItemHolds static_pie static_pie_world static_memory item
items_hold item (OfSection s kept is) =
    let there : SectionHolds s = All-contains SectionHolds sections s (All-from_recursion SectionHolds sections (branch_item_holds, (load_item_holds, (general_item_holds, (described_item_holds, (static_item_holds, tt)))))) (listed_in s kept.input) in
    subst (λ (i : Item). ItemHolds static_pie static_pie_world static_memory i) (sym (is ∙ (stood_plain static_pie kept.input.file s (is_placed_unchanged s kept.input) ∙ in_block s kept.input))) there
items_hold item (OfFrames s kept is) =
    let there : IsLoaded s = All-contains IsLoaded sections s (All-from_recursion IsLoaded sections (refl, (refl, (refl, (refl, (refl, tt)))))) (listed_in s (frame_input static_pie s kept)) in
    let both : slot.Loaded ≡ slot.Frame = sym there ∙ kept.frame in
    cc

abbrev HasData : InputSection → Type 0
HasData s = s.nobits ≡ false

no_blank : (s : InputSection) → IsSectionWithoutData static_pie s → ⊥
no_blank s h =
    let has : HasData s = All-contains HasData sections s (All-from_recursion HasData sections (refl, (refl, (refl, (refl, (refl, tt)))))) (listed_in s h.input) in
    let both : true ≡ false = sym h.blank ∙ has in
    cc

static_segments : DescribeSegments static_pie static_pie.segments (headers_in static_image)
static_segments = subst (λ (hs : List ProgramHeader). DescribeSegments static_pie static_pie.segments hs) (sym static_programs) (
  record { kind = refl; flags = λ k. refl; stack = λ k. absurd (let no : 1 ≡ pt_gnu_stack = k in omega (arith, no)); offset = refl; address = refl; physical = refl; file_size = refl; mem_size = refl; align = λ k. absurd (k refl); pages = λ k. refl; congruent = λ k. refl },
  tt,
)

static_described : DescribesOutput static_pie static_image
static_described = record {
  header = record {
    header = static_header;
    fits = record {
      front = record { magic = omega arith; class = omega arith; encoding = omega arith; ident_version = omega arith; os_abi = omega arith; abi_version = omega arith; file_type = omega arith };
      middle = record { machine = omega arith; version = omega arith; entry = omega arith; program_offset = omega arith; section_offset = omega arith; flags = omega arith; header_size = omega arith };
      back = record { program_entry_size = omega arith; program_count = omega arith; section_entry_size = omega arith; section_count = omega arith; name_table = omega arith };
    };
    stands = HasBytesAt-left (spell (file_header_fields static_header)) static_rest;
    fixed = λ f. absurd f;
    movable = λ _. refl;
    address = λ a e. (let one : Some (entry.Address 0x1000) ≡ Some (entry.Address a) = e in let same : 0x1000 ≡ a = cc in same);
    symbol = λ i a e _. absurd (let one : Some (entry.Address 0x1000) ≡ Some (entry.Symbol i) = e in cc);
    none = λ e. absurd (let one : Some (entry.Address 0x1000) ≡ None = e in cc);
    fields = record { ident_version = refl; os_abi = refl; abi_version = refl; programs = refl; version = refl; header = refl; program = refl; section = refl; flags = refl };
    segments = static_segments;
    sections = no_sections static_pie static_image static_header refl refl;
  };
  dynamic = λ whole d. absurd (no_dynamic_section static_pie _ (λ linker. linker) refl refl d);
}

pub static_linked : StaticImageIsLinked
static_linked = (
  static_described,
  record {
    memory = static_memory;
    accepted = static_loaded;
    machine = refl;
    kept = items_hold;
    zeros = λ s k h _ _ _. absurd (no_blank s h);
    stubs = λ whole i p h. absurd (no_stubs static_pie i p (All-from_recursion IsUnstubbed static_pie.symbols (refl, (refl, (refl, (refl, tt))))) h);
    copies = λ whole i raw x h. absurd (no_library i h.copied);
    texts = no_texts static_pie static_pie_world static_memory refl refl;
    still = λ a b h free. file_byte_held static_pie static_memory static_pie_world.base a b static_image file_bytes h;
  },
)
