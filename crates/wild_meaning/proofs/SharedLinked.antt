-- The image of the worked shared object is linked in its world.
use Rattle.wild_meaning.proofs.Common.{◌==◌, ◌≡◌, ℕ, zero, suc, ◌+◌, ◌-◌, ◌%◌, ◌^◌, ◌<◌, ◌≤◌, ◌⊎◌, inl, inr, true, false, List, [], ◌∷◌, length, refl, sym, ap, ◌∙◌, subst, arith, ◌++◌, Some, None, Contains, All, slice_index, replicate, eqb-false, All-from_recursion, All-contains, pos, number, word, spell, HasBytesAt-left, r_x86_64_64, r_x86_64_tpoff64, r_x86_64_dtpoff64, r_x86_64_tlsgd, r_x86_64_tlsld, r_x86_64_gotpc32_tlsdesc, pt_gnu_stack, file_header_fields, ProgramHeader, Formula, formula, SlotDistance, AddressSlot, ThreadOffset, ModulePair, OwnModulePair, Descriptor, SymbolAddress, Distance, PointerOffset, ModuleOffset, Full, Plain, Signed, x86_64_formula, File, Group, InputRelocation, InputSection, Symbol, has_flag, Item, Answer, Set, byte_in, bytes_in, number_in, Holds, HasStub, meaning_x86_64, effect_x86_64, first_dynamic, IsDefinedBy, IsSymbol, IsReplaceable, HasAnswer, HasValue, HasThreadOffset, IsInput, IsKept, OfSection, OfFrames, place_at, placed_item, FieldReads, Gives, reads_without_calls, Number, UsesOwnDefinition, UsesOwnSymbolOnly, IsOutsideReferences, ReferenceHolds, ItemHolds, ReadsOffsetSlots, headers_in, DescribeSegments, IsSectionWithoutData, DescribesOutput, reference, file_of, group_of, shared_layout, shared_world, shared_data, shared_item, shared_code, shared_near, answer_of_module, own_symbol, open_symbol, own_thread, other_thread, stubbed_function, own_offset, program_header_fields, dt_pltrelsz, dt_relrsz, rela_size, relr_size}
use Rattle.wild_records.specs.Abi.Relocation.{r_x86_64_gotpcrel64, r_x86_64_size64, r_x86_64_gottpoff}
use Rattle.wild_reloc.specs.Formula.{Size, sign_extended}
use Rattle.wild_types.specs.declared.file.FileRole.TheVariants as file_role
use Rattle.wild_types.specs.declared.input.Slot.TheVariants as slot
use Rattle.wild_types.specs.declared.layout.Entry.TheVariants as entry
use Rattle.wild_loader.specs.declared.memory.Machine.TheVariants as processors
use Rattle.wild_loader.specs.Instruction.{signed_32, jump_through}
use Rattle.wild_loader.specs.StepLawsX86_64.{stub_bytes}
use Rattle.wild_loader.proofs.StepLemmas.{stub-held}
use Rattle.wild_meaning.specs.Denotes.{IsStub}
use Rattle.wild_meaning.specs.Value.{HasOwnValue}
use Rattle.wild_meaning.specs.Slot.{IsSlotOf}
use Rattle.wild_meaning.specs.Item.{IsReference}
use Rattle.wild_types.specs.declared.kind.Machine.TheVariants as machine
use Rattle.wild_meaning.specs.Reference.{LinkedHolds}
use Rattle.wild_meaning.specs.DynamicSection.{InformsLinker}
use Rattle.wild_meaning.specs.Worked.Builders.{loaded_segment}
use Rattle.wild_meaning.specs.Worked.Shared.{shared_bytes, code_item, shared_reference, near_item, near_reference}
use Rattle.wild_meaning.specs.Worked.SharedImage.{shared_image, shared_rest, shared_memory, shared_header, shared_third, shared_front, shared_back}
use Rattle.wild_meaning.specs.Worked.SharedRefusals.{other_offset, ChangedTableIsRefused, SharedImageIsLinked}
use Rattle.wild_meaning.specs.Unfilled.{IsUnfilled}
use Rattle.wild_meaning.proofs.SectionHeaderLemmas.{no_sections}
use Rattle.wild_meaning.proofs.DynamicLemmas.{whole_size, no_size, one_value_each, no_tables, no_functions}
use Rattle.wild_meaning.proofs.FileBytes.{HasLoadedBytes, file_byte_held}
use Rattle.wild_meaning.proofs.SymbolUnique.{only, IsPlainOwn, IsAnsweredAs, stub_of, stub_is}
use Rattle.wild_meaning.proofs.Read.{held_from}
use Rattle.wild_meaning.proofs.Refused.{not_alone, no_template}
use Rattle.wild_meaning.proofs.EffectLemmas.{done}
use Rattle.wild_meaning.proofs.OneReference.{effect_with, no_words}
use Rattle.wild_meaning.proofs.PlacedLemmas.{frame_input}
use Rattle.wild_meaning.proofs.SharedLegal.{no_library}
use Rattle.wild_meaning.proofs.SharedRefused.{slot_formula, address_formula, pointer_formula, inner_formula, size_formula, pair_formula, own_pair_formula, thread_slot_formula, descriptor_formula, own_is, thread_is, open_is, other_is, no_code, no_string, no_address, does_not_use_own, distance_formula, no_near_code, near_uses}
use Rattle.wild_meaning.proofs.SharedCode.{described, described_template, described_demanded}
use Rattle.wild_meaning.proofs.SharedLoaded.{shared_loaded, shared_programs, shared_dynamic, shared_entries, shared_read, shared_tags}
use Rattle.wild_meaning.proofs.TextLemmas.{no_texts}

-- ---- symbols

defined : (i : ℕ) (s : Symbol) → IsSymbol shared_layout i s → s.definition ≡ None → IsDefinedBy shared_layout i i
defined i s listed own = record { symbol = s; listed = listed; defined = inr (own, refl) }

own_value : HasValue shared_layout shared_world 0 0x11100
unfolding has_flag
own_value = inr (
  record { definition = 0; defined = defined 0 own_symbol refl refl; symbol = own_symbol; listed = refl; told = refl },
  record {
    raw = 0x1100;
    given = record { definition = 0; defined = defined 0 own_symbol refl refl; given = inl (record { symbol = own_symbol; listed = refl; resolution = _; decided = refl; value = refl }) };
    indirect = false;
    resolved = record { definition = 0; defined = defined 0 own_symbol refl refl; symbol = own_symbol; listed = refl; flagged = refl };
    still = false;
    absolute = record { definition = 0; defined = defined 0 own_symbol refl refl; symbol = own_symbol; listed = refl; flagged = refl };
    is = refl;
  },
)

-- the world's answers
abbrev open_answer : Answer
open_answer = answer_of_module 0x700010 3 0 24

abbrev other_answer : Answer
other_answer = answer_of_module 0 4 0x20 8

open_replaced : IsReplaceable shared_layout 1 true
unfolding has_flag
open_replaced = record { definition = 1; defined = defined 1 open_symbol refl refl; symbol = open_symbol; listed = refl; told = refl }

open_answered : HasAnswer shared_layout shared_world 1 open_answer
open_answered = record { definition = 1; defined = defined 1 open_symbol refl refl; symbol = open_symbol; listed = refl; resolution = _; decided = refl; index = 1; told = refl; given = refl }

open_value : HasValue shared_layout shared_world 1 0x700010
open_value = inl (open_replaced, open_answer, open_answered, refl)

thread_offset : HasThreadOffset shared_layout shared_world 2 own_offset
unfolding has_flag
thread_offset = inr (
  record { definition = 2; defined = defined 2 own_thread refl refl; symbol = own_thread; listed = refl; told = refl },
  inl (record {
    raw = 0x3008;
    given = record { definition = 2; defined = defined 2 own_thread refl refl; given = inl (record { symbol = own_thread; listed = refl; resolution = _; decided = refl; value = refl }) };
    distance = 2 ^ 64 - 0x60;
    own = refl;
    sum = refl;
  }),
)

other_thread_offset : HasThreadOffset shared_layout shared_world 3 other_offset
unfolding has_flag
other_thread_offset = inl (
  record { definition = 3; defined = defined 3 other_thread refl refl; symbol = other_thread; listed = refl; told = refl },
  record {
    answer = other_answer;
    given = record { definition = 3; defined = defined 3 other_thread refl refl; symbol = other_thread; listed = refl; resolution = _; decided = refl; index = 2; told = refl; given = refl };
    distance = 2 ^ 64 - 0x2000;
    known = refl;
    sum = refl;
  },
)

-- ---- slots

own_slot_there : IsSlotOf AddressSlot shared_layout shared_world shared_memory 0 0x12000
unfolding has_flag
own_slot_there = record {
  slot = 0x2000;
  given = record { definition = 0; defined = defined 0 own_symbol refl refl; symbol = own_symbol; listed = refl; flagged = refl; resolution = _; decided = refl; first = 0x2000; given = refl; place = refl };
  moves = refl;
  holds = (0x11100, refl, inl (inl own_value));
}

open_slot_there : IsSlotOf AddressSlot shared_layout shared_world shared_memory 1 0x12008
unfolding has_flag
open_slot_there = record {
  slot = 0x2008;
  given = record { definition = 1; defined = defined 1 open_symbol refl refl; symbol = open_symbol; listed = refl; flagged = refl; resolution = _; decided = refl; first = 0x2008; given = refl; place = refl };
  moves = refl;
  holds = (0x700010, refl, inl (inl open_value));
}

own_offset_slot : IsSlotOf ThreadOffset shared_layout shared_world shared_memory 2 0x12010
unfolding has_flag
own_offset_slot = record {
  slot = 0x2010;
  given = record { definition = 2; defined = defined 2 own_thread refl refl; symbol = own_thread; listed = refl; flagged = refl; resolution = _; decided = refl; first = 0x2010; given = refl; place = refl };
  moves = refl;
  holds = (own_offset, refl, thread_offset);
}

own_pair_slot : IsSlotOf ModulePair shared_layout shared_world shared_memory 2 0x12018
unfolding has_flag
own_pair_slot = record {
  slot = 0x2018;
  given = record { definition = 2; defined = defined 2 own_thread refl refl; symbol = own_thread; listed = refl; flagged = refl; resolution = _; decided = refl; first = 0x2010; given = refl; place = refl };
  moves = refl;
  holds = (own_offset, record { owner = 2; first = refl; offset = 8; second = refl; distance = 2 ^ 64 - 0x60; known = refl; sum = refl }, thread_offset);
}

own_descriptor : IsSlotOf Descriptor shared_layout shared_world shared_memory 2 0x12028
unfolding has_flag
own_descriptor = record {
  slot = 0x2028;
  given = record { definition = 2; defined = defined 2 own_thread refl refl; symbol = own_thread; listed = refl; flagged = refl; resolution = _; decided = refl; first = 0x2010; given = refl; place = refl };
  moves = refl;
  holds = (own_offset, refl, thread_offset);
}

other_offset_slot : IsSlotOf ThreadOffset shared_layout shared_world shared_memory 3 0x12038
unfolding has_flag
other_offset_slot = record {
  slot = 0x2038;
  given = record { definition = 3; defined = defined 3 other_thread refl refl; symbol = other_thread; listed = refl; flagged = refl; resolution = _; decided = refl; first = 0x2038; given = refl; place = refl };
  moves = refl;
  holds = (other_offset, refl, other_thread_offset);
}

other_pair_slot : IsSlotOf ModulePair shared_layout shared_world shared_memory 3 0x12040
unfolding has_flag
other_pair_slot = record {
  slot = 0x2040;
  given = record { definition = 3; defined = defined 3 other_thread refl refl; symbol = other_thread; listed = refl; flagged = refl; resolution = _; decided = refl; first = 0x2038; given = refl; place = refl };
  moves = refl;
  holds = (other_offset, record { owner = 4; first = refl; offset = 0x20; second = refl; distance = 2 ^ 64 - 0x2000; known = refl; sum = refl }, other_thread_offset);
}

-- the pair of the library's own module, which is no symbol's
begin_pair : IsSlotOf OwnModulePair shared_layout shared_world shared_memory 2 0x12050
begin_pair = record {
  slot = 0x2050;
  given = refl;
  moves = refl;
  holds = record { begin = 2 ^ 64 - 0x60; counted = refl; pair = record { owner = 2; first = refl; offset = 0; second = refl; distance = 2 ^ 64 - 0x60; known = refl; sum = refl } };
}

-- ---- fields

abbrev IsField : Formula → ℕ → InputRelocation → Type 0
IsField f v r = FieldReads shared_world shared_memory shared_item r f.form v

-- a field of data holds the value of its formula
data_holds : (r : InputRelocation) (f : Formula) (v : ℕ) → x86_64_formula r.number ≡ Some f → Gives f.value shared_layout shared_world shared_memory shared_item r v → IsField f v r → ReferenceHolds shared_layout shared_world shared_memory shared_item r
data_holds r f v known gives field = inl (record {
  formula = f;
  known = known;
  value = v;
  gives = gives;
  field = field;
  kept = λ start o first t. absurd (no_template shared_layout shared_item r start o first no_code t);
  does = λ start o first t. absurd (no_template shared_layout shared_item r start o first no_code t);
})

whole_field : (r : InputRelocation) (bs : List ℕ) (v : ℕ) → length bs ≡ 8 → bytes_in shared_memory (place_at shared_world shared_item r.offset) (length bs) ≡ Some bs → number bs ≡ v → FieldReads shared_world shared_memory shared_item r Full v
whole_field r bs v wide there reads = record { bytes = bs; wide = wide; held = held_from shared_memory (place_at shared_world shared_item r.offset) bs there; reads = reads; keeps = tt }

half_field : (r : InputRelocation) (bs : List ℕ) (v : ℕ) → length bs ≡ 4 → bytes_in shared_memory (place_at shared_world shared_item r.offset) (length bs) ≡ Some bs → sign_extended 32 (number bs) ≡ v → FieldReads shared_world shared_memory shared_item r (Plain 32 Signed) v
half_field r bs v wide there reads = record { bytes = bs; wide = wide; held = held_from shared_memory (place_at shared_world shared_item r.offset) bs there; reads = reads; keeps = tt }

-- a reference to an own symbol does not take the output's own alone; nor does one to a symbol of another module
own_alone : (r : InputRelocation) (f : Formula) (i raw : ℕ) → x86_64_formula r.number ≡ Some f → r.symbol ≡ Some i → IsPlainOwn shared_layout i raw → UsesOwnSymbolOnly shared_layout shared_item r → ⊥
own_alone r f i raw known named p x = not_alone shared_layout shared_item r f i p.symbol known named p.is (λ e. absurd (let both : true ≡ false = sym e ∙ p.own in cc)) x

other_alone : (r : InputRelocation) (f : Formula) (i : ℕ) (x : Answer) → x86_64_formula r.number ≡ Some f → r.symbol ≡ Some i → IsAnsweredAs shared_layout shared_world i x → (UsesOwnDefinition shared_layout shared_item i f → ⊥) → UsesOwnSymbolOnly shared_layout shared_item r → ⊥
other_alone r f i x known named p takes h = not_alone shared_layout shared_item r f i p.symbol known named p.is (λ e. takes) h

abbrev Both : Item → InputRelocation → Type 0
Both item r = ReferenceHolds shared_layout shared_world shared_memory item r × (UsesOwnSymbolOnly shared_layout item r → ⊥)

all_hold : (item : Item) → All (Both item) item.relocations → ((k : ℕ) → k < length item.bytes → IsOutsideReferences shared_layout item k → byte_in shared_memory (shared_world.base + item.address + k) ≡ Some (slice_index item.bytes k)) → ItemHolds shared_layout shared_world shared_memory item
all_hold item all others = record {
  references = λ r ref present asked alone. (All-contains (Both item) item.relocations r all ref.listed).0;
  linked = λ r ref present asked alone. absurd ((All-contains (Both item) item.relocations r all ref.listed).1 alone);
  others = others;
}

abbrev rslot_0 : InputRelocation
rslot_0 = reference 0 r_x86_64_gotpcrel64 0 (pos 0)

nslot_0 : number (0 ∷ 0x10 ∷ 0 ∷ 0 ∷ 0 ∷ 0 ∷ 0 ∷ 0 ∷ []) ≡ 0x1000
unfolding number
nslot_0 = refl

hslot_0 : Both shared_item rslot_0
hslot_0 = (data_holds rslot_0 (formula (SlotDistance AddressSlot) Full) 0x1000 slot_formula ((0x12000, own_slot_there, refl)) (whole_field rslot_0 (0 ∷ 0x10 ∷ 0 ∷ 0 ∷ 0 ∷ 0 ∷ 0 ∷ 0 ∷ []) 0x1000 refl refl nslot_0), own_alone rslot_0 _ 0 0x1100 slot_formula refl own_is)

abbrev ropen_8 : InputRelocation
ropen_8 = reference 8 r_x86_64_64 1 (pos 0)

nopen_8 : number (0x10 ∷ 0 ∷ 0x70 ∷ 0 ∷ 0 ∷ 0 ∷ 0 ∷ 0 ∷ []) ≡ 0x700010
unfolding number
nopen_8 = refl

hopen_8 : Both shared_item ropen_8
hopen_8 = (data_holds ropen_8 (formula SymbolAddress Full) 0x700010 address_formula (record { symbol = 0x700010; denoted = inr (no_string SymbolAddress _, inl open_value); sum = refl }) (whole_field ropen_8 (0x10 ∷ 0 ∷ 0x70 ∷ 0 ∷ 0 ∷ 0 ∷ 0 ∷ 0 ∷ []) 0x700010 refl refl nopen_8), other_alone ropen_8 _ 1 _ address_formula refl open_is does_not_use_own)

abbrev rown_16 : InputRelocation
rown_16 = reference 16 r_x86_64_64 0 (pos 4)

nown_16 : number (4 ∷ 0x11 ∷ 1 ∷ 0 ∷ 0 ∷ 0 ∷ 0 ∷ 0 ∷ []) ≡ 0x11104
unfolding number
nown_16 = refl

hown_16 : Both shared_item rown_16
hown_16 = (data_holds rown_16 (formula SymbolAddress Full) 0x11104 address_formula (record { symbol = 0x11100; denoted = inr (no_string SymbolAddress _, inl own_value); sum = refl }) (whole_field rown_16 (4 ∷ 0x11 ∷ 1 ∷ 0 ∷ 0 ∷ 0 ∷ 0 ∷ 0 ∷ []) 0x11104 refl refl nown_16), own_alone rown_16 _ 0 0x1100 address_formula refl own_is)

abbrev roffset_24 : InputRelocation
roffset_24 = reference 24 r_x86_64_tpoff64 2 (pos 0)

noffset_24 : number (0xa8 ∷ 0xff ∷ 0xff ∷ 0xff ∷ 0xff ∷ 0xff ∷ 0xff ∷ 0xff ∷ []) ≡ own_offset
unfolding number
noffset_24 = refl

hoffset_24 : Both shared_item roffset_24
hoffset_24 = (data_holds roffset_24 (formula PointerOffset Full) own_offset pointer_formula ((own_offset, thread_offset, refl)) (whole_field roffset_24 (0xa8 ∷ 0xff ∷ 0xff ∷ 0xff ∷ 0xff ∷ 0xff ∷ 0xff ∷ 0xff ∷ []) own_offset refl refl noffset_24), own_alone roffset_24 _ 2 0x3008 pointer_formula refl thread_is)

abbrev rpair_32 : InputRelocation
rpair_32 = reference 32 r_x86_64_tlsgd 2 (pos 0)

npair_32 : sign_extended 32 (number (0xf8 ∷ 0xf ∷ 0 ∷ 0 ∷ [])) ≡ 0xff8
unfolding number
npair_32 = refl

hpair_32 : Both shared_item rpair_32
hpair_32 = (data_holds rpair_32 (formula (SlotDistance ModulePair) (Plain 32 Signed)) 0xff8 pair_formula ((0x12018, own_pair_slot, refl)) (half_field rpair_32 (0xf8 ∷ 0xf ∷ 0 ∷ 0 ∷ []) 0xff8 refl refl npair_32), own_alone rpair_32 _ 2 0x3008 pair_formula refl thread_is)

abbrev roffset_slot_36 : InputRelocation
roffset_slot_36 = reference 36 r_x86_64_gottpoff 2 (pos 0)

noffset_slot_36 : sign_extended 32 (number (0xec ∷ 0xf ∷ 0 ∷ 0 ∷ [])) ≡ 0xfec
unfolding number
noffset_slot_36 = refl

hoffset_slot_36 : Both shared_item roffset_slot_36
hoffset_slot_36 = (data_holds roffset_slot_36 (formula (SlotDistance ThreadOffset) (Plain 32 Signed)) 0xfec thread_slot_formula ((0x12010, own_offset_slot, refl)) (half_field roffset_slot_36 (0xec ∷ 0xf ∷ 0 ∷ 0 ∷ []) 0xfec refl refl noffset_slot_36), own_alone roffset_slot_36 _ 2 0x3008 thread_slot_formula refl thread_is)

abbrev rdescriptor_40 : InputRelocation
rdescriptor_40 = reference 40 r_x86_64_gotpc32_tlsdesc 2 (pos 0)

ndescriptor_40 : sign_extended 32 (number (0 ∷ 0x10 ∷ 0 ∷ 0 ∷ [])) ≡ 0x1000
unfolding number
ndescriptor_40 = refl

hdescriptor_40 : Both shared_item rdescriptor_40
hdescriptor_40 = (data_holds rdescriptor_40 (formula (SlotDistance Descriptor) (Plain 32 Signed)) 0x1000 descriptor_formula ((0x12028, own_descriptor, (λ h. absurd h.0), refl)) (half_field rdescriptor_40 (0 ∷ 0x10 ∷ 0 ∷ 0 ∷ []) 0x1000 refl refl ndescriptor_40), own_alone rdescriptor_40 _ 2 0x3008 descriptor_formula refl thread_is)

abbrev rbegin_44 : InputRelocation
rbegin_44 = reference 44 r_x86_64_tlsld 2 (pos 0)

nbegin_44 : sign_extended 32 (number (0x24 ∷ 0x10 ∷ 0 ∷ 0 ∷ [])) ≡ 0x1024
unfolding number
nbegin_44 = refl

hbegin_44 : Both shared_item rbegin_44
hbegin_44 = (data_holds rbegin_44 (formula (SlotDistance OwnModulePair) (Plain 32 Signed)) 0x1024 own_pair_formula ((0x12050, begin_pair, refl)) (half_field rbegin_44 (0x24 ∷ 0x10 ∷ 0 ∷ 0 ∷ []) 0x1024 refl refl nbegin_44), own_alone rbegin_44 _ 2 0x3008 own_pair_formula refl thread_is)

abbrev rsize_48 : InputRelocation
rsize_48 = reference 48 r_x86_64_size64 1 (pos 0)

nsize_48 : number (0x18 ∷ 0 ∷ 0 ∷ 0 ∷ 0 ∷ 0 ∷ 0 ∷ 0 ∷ []) ≡ 24
unfolding number
nsize_48 = refl

hsize_48 : Both shared_item rsize_48
hsize_48 = (data_holds rsize_48 (formula Size Full) 24 size_formula ((24, inl (open_replaced, open_answer, open_answered, refl), inl refl)) (whole_field rsize_48 (0x18 ∷ 0 ∷ 0 ∷ 0 ∷ 0 ∷ 0 ∷ 0 ∷ 0 ∷ []) 24 refl refl nsize_48), other_alone rsize_48 _ 1 _ size_formula refl open_is no_address)

abbrev rslot_56 : InputRelocation
rslot_56 = reference 56 r_x86_64_gotpcrel64 1 (pos 0)

nslot_56 : number (0xd0 ∷ 0xf ∷ 0 ∷ 0 ∷ 0 ∷ 0 ∷ 0 ∷ 0 ∷ []) ≡ 0xfd0
unfolding number
nslot_56 = refl

hslot_56 : Both shared_item rslot_56
hslot_56 = (data_holds rslot_56 (formula (SlotDistance AddressSlot) Full) 0xfd0 slot_formula ((0x12008, open_slot_there, refl)) (whole_field rslot_56 (0xd0 ∷ 0xf ∷ 0 ∷ 0 ∷ 0 ∷ 0 ∷ 0 ∷ 0 ∷ []) 0xfd0 refl refl nslot_56), other_alone rslot_56 _ 1 _ slot_formula refl open_is no_address)

abbrev rinside_64 : InputRelocation
rinside_64 = reference 64 r_x86_64_dtpoff64 2 (pos 0)

ninside_64 : number (8 ∷ 0 ∷ 0 ∷ 0 ∷ 0 ∷ 0 ∷ 0 ∷ 0 ∷ []) ≡ 8
unfolding number
ninside_64 = refl

hinside_64 : Both shared_item rinside_64
hinside_64 = (data_holds rinside_64 (formula ModuleOffset Full) 8 inner_formula ((own_offset, 2 ^ 64 - 0x60, thread_offset, refl, refl)) (whole_field rinside_64 (8 ∷ 0 ∷ 0 ∷ 0 ∷ 0 ∷ 0 ∷ 0 ∷ 0 ∷ []) 8 refl refl ninside_64), own_alone rinside_64 _ 2 0x3008 inner_formula refl thread_is)

abbrev rpair_72 : InputRelocation
rpair_72 = reference 72 r_x86_64_tlsgd 3 (pos 0)

npair_72 : sign_extended 32 (number (0xf8 ∷ 0xf ∷ 0 ∷ 0 ∷ [])) ≡ 0xff8
unfolding number
npair_72 = refl

hpair_72 : Both shared_item rpair_72
hpair_72 = (data_holds rpair_72 (formula (SlotDistance ModulePair) (Plain 32 Signed)) 0xff8 pair_formula ((0x12040, other_pair_slot, refl)) (half_field rpair_72 (0xf8 ∷ 0xf ∷ 0 ∷ 0 ∷ []) 0xff8 refl refl npair_72), other_alone rpair_72 _ 3 _ pair_formula refl other_is no_address)

abbrev roffset_slot_76 : InputRelocation
roffset_slot_76 = reference 76 r_x86_64_gottpoff 3 (pos 0)

noffset_slot_76 : sign_extended 32 (number (0xec ∷ 0xf ∷ 0 ∷ 0 ∷ [])) ≡ 0xfec
unfolding number
noffset_slot_76 = refl

hoffset_slot_76 : Both shared_item roffset_slot_76
hoffset_slot_76 = (data_holds roffset_slot_76 (formula (SlotDistance ThreadOffset) (Plain 32 Signed)) 0xfec thread_slot_formula ((0x12038, other_offset_slot, refl)) (half_field roffset_slot_76 (0xec ∷ 0xf ∷ 0 ∷ 0 ∷ []) 0xfec refl refl noffset_slot_76), other_alone roffset_slot_76 _ 3 _ thread_slot_formula refl other_is no_address)

-- ---- data

-- a byte that is not in a field, and not before it, is after it
beyond : (k a b : ℕ) → a ≤ k → (k < a) ⊎ (b ≤ k) → b ≤ k
beyond k a b low (inl h) = absurd (omega (arith, low, h))
beyond k a b low (inr h) = h

-- only the last four bytes are in no field
past_fields : (k : ℕ) → IsOutsideReferences shared_layout shared_item k → 80 ≤ k
past_fields k other =
    let p0 : 8 ≤ k = beyond k 0 8 (omega arith) (other.fields 0 rslot_0 (omega arith) (formula (SlotDistance AddressSlot) Full) slot_formula) in
    let p1 : 16 ≤ k = beyond k 8 16 p0 (other.fields 1 ropen_8 (omega arith) (formula SymbolAddress Full) address_formula) in
    let p2 : 24 ≤ k = beyond k 16 24 p1 (other.fields 2 rown_16 (omega arith) (formula SymbolAddress Full) address_formula) in
    let p3 : 32 ≤ k = beyond k 24 32 p2 (other.fields 3 roffset_24 (omega arith) (formula PointerOffset Full) pointer_formula) in
    let p4 : 36 ≤ k = beyond k 32 36 p3 (other.fields 4 rpair_32 (omega arith) (formula (SlotDistance ModulePair) (Plain 32 Signed)) pair_formula) in
    let p5 : 40 ≤ k = beyond k 36 40 p4 (other.fields 5 roffset_slot_36 (omega arith) (formula (SlotDistance ThreadOffset) (Plain 32 Signed)) thread_slot_formula) in
    let p6 : 44 ≤ k = beyond k 40 44 p5 (other.fields 6 rdescriptor_40 (omega arith) (formula (SlotDistance Descriptor) (Plain 32 Signed)) descriptor_formula) in
    let p7 : 48 ≤ k = beyond k 44 48 p6 (other.fields 7 rbegin_44 (omega arith) (formula (SlotDistance OwnModulePair) (Plain 32 Signed)) own_pair_formula) in
    let p8 : 56 ≤ k = beyond k 48 56 p7 (other.fields 8 rsize_48 (omega arith) (formula Size Full) size_formula) in
    let p9 : 64 ≤ k = beyond k 56 64 p8 (other.fields 9 rslot_56 (omega arith) (formula (SlotDistance AddressSlot) Full) slot_formula) in
    let p10 : 72 ≤ k = beyond k 64 72 p9 (other.fields 10 rinside_64 (omega arith) (formula ModuleOffset Full) inner_formula) in
    let p11 : 76 ≤ k = beyond k 72 76 p10 (other.fields 11 rpair_72 (omega arith) (formula (SlotDistance ModulePair) (Plain 32 Signed)) pair_formula) in
    let p12 : 80 ≤ k = beyond k 76 80 p11 (other.fields 12 roffset_slot_76 (omega arith) (formula (SlotDistance ThreadOffset) (Plain 32 Signed)) thread_slot_formula) in
    p12

last_bytes : (k : ℕ) → k < 84 → 80 ≤ k → byte_in shared_memory (0x11000 + k) ≡ Some (slice_index shared_bytes k)
last_bytes k lt low =
    let at : 80 + (k - 80) ≡ k = omega (arith, low) in
    subst (λ (n : ℕ). byte_in shared_memory (0x11000 + n) ≡ Some (slice_index shared_bytes n)) at (by (k - 80) (omega (arith, lt, low)))
  where
    by : (j : ℕ) → j < 4 → byte_in shared_memory (0x11000 + (80 + j)) ≡ Some (slice_index shared_bytes (80 + j))
    by zero lt = refl
    by (suc zero) lt = refl
    by (suc (suc zero)) lt = refl
    by (suc (suc (suc zero))) lt = refl
    by (suc (suc (suc (suc j)))) lt = absurd (omega (arith, lt))

shared_item_holds : ItemHolds shared_layout shared_world shared_memory shared_item
shared_item_holds = all_hold shared_item (All-from_recursion (Both shared_item) shared_item.relocations (hslot_0, (hopen_8, (hown_16, (hoffset_24, (hpair_32, (hoffset_slot_36, (hdescriptor_40, (hbegin_44, (hsize_48, (hslot_56, (hinside_64, (hpair_72, (hoffset_slot_76, tt))))))))))))))
    (λ k lt other. last_bytes k lt (past_fields k other))

-- ---- code

described_done : effect_x86_64 (reads_without_calls shared_world shared_memory) 0x11080 (0x48 ∷ 0x8d ∷ 0x05 ∷ 0xa1 ∷ 0x0f ∷ 0 ∷ 0 ∷ []) ≡ Some (effect_with (Set 0) 64 0x12028)
unfolding meaning_x86_64 number
described_done = refl

described_held : Holds shared_memory 0x11080 (0x48 ∷ 0x8d ∷ 0x05 ∷ 0xa1 ∷ 0x0f ∷ 0 ∷ 0 ∷ [])
described_held = held_from shared_memory 0x11080 (0x48 ∷ 0x8d ∷ 0x05 ∷ 0xa1 ∷ 0x0f ∷ 0 ∷ 0 ∷ []) refl

described_means : meaning_x86_64 0x11080 (0x48 ∷ 0x8d ∷ 0x05 ∷ 0xa1 ∷ 0x0f ∷ 0 ∷ 0 ∷ []) ≡ Some (record { deed = Set 0; width = 64; operand = Number 0x12028 })
unfolding meaning_x86_64 number
described_means = refl

described_words : ReadsOffsetSlots machine.X86_64 shared_layout shared_world shared_memory code_item shared_reference 0 described
described_words = no_words machine.X86_64 shared_layout shared_world shared_memory code_item shared_reference 0 described (0x48 ∷ 0x8d ∷ 0x05 ∷ 0xa1 ∷ 0x0f ∷ 0 ∷ 0 ∷ []) _ 0x12028 refl described_held described_means refl

described_holds : ReferenceHolds shared_layout shared_world shared_memory code_item shared_reference
described_holds = inr (record {
  start = 0;
  instruction = described;
  first = shared_reference;
  template = described_template;
  words = described_words;
  does = done (reads_without_calls shared_world shared_memory) shared_layout shared_world shared_memory code_item shared_reference 0 described (record {
    value = 0x12028;
    demands = inr ((λ h. absurd h.0), 0x12028, own_descriptor, refl);
    effect = effect_with (Set 0) 64 0x12028;
    demanded = described_demanded 0x12028;
    bytes = 0x48 ∷ 0x8d ∷ 0x05 ∷ 0xa1 ∷ 0x0f ∷ 0 ∷ 0 ∷ [];
    whole = refl;
    held = described_held;
    does = described_done;
  });
})

described_alone : UsesOwnSymbolOnly shared_layout code_item shared_reference → ⊥
described_alone x = not_alone shared_layout code_item shared_reference _ 2 thread_is.symbol descriptor_formula refl thread_is.is (λ e. absurd (let both : true ≡ false = sym e ∙ thread_is.own in cc)) x

described_others : (k : ℕ) → k < 9 → (k < 0) ⊎ (7 ≤ k) → byte_in shared_memory (0x11080 + k) ≡ Some (slice_index code_item.bytes k)
described_others k lt (inl h) = absurd (omega (arith, h))
described_others k lt (inr h) = at k lt h
  where
    at : (k : ℕ) → k < 9 → 7 ≤ k → byte_in shared_memory (0x11080 + k) ≡ Some (slice_index code_item.bytes k)
    at zero lt h = absurd (omega (arith, h))
    at (suc zero) lt h = absurd (omega (arith, h))
    at (suc (suc zero)) lt h = absurd (omega (arith, h))
    at (suc (suc (suc zero))) lt h = absurd (omega (arith, h))
    at (suc (suc (suc (suc zero)))) lt h = absurd (omega (arith, h))
    at (suc (suc (suc (suc (suc zero))))) lt h = absurd (omega (arith, h))
    at (suc (suc (suc (suc (suc (suc zero)))))) lt h = absurd (omega (arith, h))
    at (suc (suc (suc (suc (suc (suc (suc zero))))))) lt h = refl
    at (suc (suc (suc (suc (suc (suc (suc (suc zero)))))))) lt h = refl
    at (suc (suc (suc (suc (suc (suc (suc (suc (suc k))))))))) lt h = absurd (omega (arith, lt))

code_item_holds : ItemHolds shared_layout shared_world shared_memory code_item
code_item_holds = all_hold code_item (All-from_recursion (Both code_item) code_item.relocations ((described_holds, described_alone), tt))
    (λ k lt other. described_others k lt (other.templates shared_reference 0 described shared_reference (record { listed = (0, omega arith, refl); refers = λ e. omega arith }) described_template))

-- ---- the distance of the own symbol

near_value : HasOwnValue shared_layout shared_world 1 0x11110
unfolding has_flag
near_value = record {
  raw = 0x1110;
  given = record { definition = 1; defined = defined 1 open_symbol refl refl; given = inl (record { symbol = open_symbol; listed = refl; resolution = _; decided = refl; value = refl }) };
  indirect = false;
  resolved = record { definition = 1; defined = defined 1 open_symbol refl refl; symbol = open_symbol; listed = refl; flagged = refl };
  still = false;
  absolute = record { definition = 1; defined = defined 1 open_symbol refl refl; symbol = open_symbol; listed = refl; flagged = refl };
  is = refl;
}

near_number : number (0xb0 ∷ 0 ∷ 0 ∷ 0 ∷ 0 ∷ 0 ∷ 0 ∷ 0 ∷ []) ≡ 0xb0
unfolding number
near_number = refl

near_field : FieldReads shared_world shared_memory near_item near_reference Full 0xb0
near_field = record { bytes = 0xb0 ∷ 0 ∷ 0 ∷ 0 ∷ 0 ∷ 0 ∷ 0 ∷ 0 ∷ []; wide = refl; held = held_from shared_memory 0x11060 (0xb0 ∷ 0 ∷ 0 ∷ 0 ∷ 0 ∷ 0 ∷ 0 ∷ 0 ∷ []) refl; reads = near_number; keeps = tt }

near_holds : LinkedHolds shared_layout shared_world shared_memory near_item near_reference
near_holds = inl (record {
  formula = formula Distance Full;
  known = distance_formula;
  value = 0xb0;
  gives = (0x11110, record { symbol = 0x11110; denoted = near_value; sum = refl }, refl);
  field = near_field;
  kept = λ start o first t. absurd (no_template shared_layout near_item near_reference start o first no_near_code t);
})

-- it is the one reference there
near_is : (r : InputRelocation) → IsReference near_item r → near_reference ≡ r
near_is r ref = only near_reference r ref.listed

near_item_holds : ItemHolds shared_layout shared_world shared_memory near_item
near_item_holds = record {
  references = λ r ref present asked alone. absurd (alone (subst (λ (x : InputRelocation). UsesOwnSymbolOnly shared_layout near_item x) (near_is r ref) near_uses));
  linked = λ r ref present asked alone. subst (λ (x : InputRelocation). LinkedHolds shared_layout shared_world shared_memory near_item x) (near_is r ref) near_holds;
  others = λ k lt other. absurd (let low : 8 ≤ k = beyond k 0 8 (omega arith) (other.fields 0 near_reference (omega arith) (formula Distance Full) distance_formula) in omega (arith, lt, low));
}

-- ---- items

abbrev inputs : List InputSection
inputs = shared_data ∷ shared_code ∷ shared_near ∷ []

abbrev shared_file : File
shared_file = file_of file_role.Object inputs []

-- its file is this
file_is : (s : InputSection) (h : IsInput shared_layout s) → shared_file ≡ h.file
file_is s h =
    let group = only (group_of (shared_file ∷ [])) h.group h.grouped in
    only shared_file h.file (subst (λ (g : Group). Contains g.files h.file) (sym group) h.filed)

listed_in : (s : InputSection) → IsInput shared_layout s → Contains inputs s
listed_in s h = subst (λ (f : File). Contains f.sections s) (sym (file_is s h)) h.listed

abbrev SectionHolds : InputSection → Type 0
SectionHolds s = ItemHolds shared_layout shared_world shared_memory (placed_item shared_layout shared_file s)

abbrev IsLoaded : InputSection → Type 0
IsLoaded s = s.slot ≡ slot.Loaded

items_hold : (item : Item) → IsKept shared_layout item → ItemHolds shared_layout shared_world shared_memory item
items_hold item (OfSection s kept is) =
    let there : SectionHolds s = All-contains SectionHolds inputs s (All-from_recursion SectionHolds inputs (shared_item_holds, (code_item_holds, (near_item_holds, tt)))) (listed_in s kept.input) in
    subst (λ (i : Item). ItemHolds shared_layout shared_world shared_memory i) (sym (is ∙ ap (λ (f : File). placed_item shared_layout f s) (sym (file_is s kept.input)))) there
items_hold item (OfFrames s kept is) =
    let there : IsLoaded s = All-contains IsLoaded inputs s (All-from_recursion IsLoaded inputs (refl, (refl, (refl, tt)))) (listed_in s (frame_input shared_layout s kept)) in
    let both : slot.Loaded ≡ slot.Frame = sym there ∙ kept.frame in
    cc

abbrev HasData : InputSection → Type 0
HasData s = s.nobits ≡ false

no_blank : (s : InputSection) → IsSectionWithoutData shared_layout s → ⊥
no_blank s h =
    let has : HasData s = All-contains HasData inputs s (All-from_recursion HasData inputs (refl, (refl, (refl, tt)))) (listed_in s h.input) in
    let both : true ≡ false = sym h.blank ∙ has in
    cc

-- ---- bytes of the file

file_bytes : All (HasLoadedBytes shared_memory shared_world.base shared_image) shared_layout.segments
unfolding file_header_fields program_header_fields word
file_bytes = All-from_recursion (HasLoadedBytes shared_memory shared_world.base shared_image) shared_layout.segments ((λ k. record { content = shared_front; stands = refl; size = refl; held = refl }), ((λ k. record { content = shared_back ++ replicate 32 0; stands = refl; size = refl; held = refl }), ((λ k. absurd (let no : 2 ≡ 1 = k in omega (arith, no))), tt)))

-- ---- the whole

no_load : (n : ℕ) → (n == pt_gnu_stack) ≡ false → n ≡ pt_gnu_stack → ⊥
no_load n f = eqb-false n pt_gnu_stack f

shared_segments : DescribeSegments shared_layout shared_layout.segments (headers_in shared_image)
shared_segments = subst (λ (hs : List ProgramHeader). DescribeSegments shared_layout shared_layout.segments hs) (sym shared_programs) (
  record { kind = refl; flags = λ k. refl; stack = λ k. absurd (no_load 1 refl k); offset = refl; address = refl; physical = refl; file_size = refl; mem_size = refl; align = λ k. absurd (k refl); pages = λ k. refl; congruent = λ k. refl },
  (
    record { kind = refl; flags = λ k. refl; stack = λ k. absurd (no_load 1 refl k); offset = refl; address = refl; physical = refl; file_size = refl; mem_size = refl; align = λ k. absurd (k refl); pages = λ k. refl; congruent = λ k. refl },
    (
      record { kind = refl; flags = λ k. refl; stack = λ k. absurd (no_load 2 refl k); offset = refl; address = refl; physical = refl; file_size = refl; mem_size = refl; align = λ k m. refl; pages = λ k. absurd (let no : 2 ≡ 1 = k in omega (arith, no)); congruent = λ k. absurd (let no : 2 ≡ 1 = k in omega (arith, no)) },
      tt,
    ),
  ),
)

-- the information of the dynamic section: no entry is said to be relative
shared_informs : InformsLinker shared_layout processors.X86_64 shared_image
shared_informs = record {
  segment = shared_third;
  first = ap first_dynamic shared_programs ∙ shared_dynamic;
  entries = shared_entries;
  read = shared_read;
  ended = omega arith;
  told = record {
    now = record { value = 8; there = shared_tags.flags; set = refl };
    now_1 = record { value = 1; there = shared_tags.flags_1; set = refl };
    stubs = λ a h. (let both : None ≡ Some a = sym shared_tags.no_stubs ∙ h in cc);
    entry_size = λ a h. shared_tags.entry_size;
    word_size = λ a h. (let both : None ≡ Some a = sym shared_tags.no_words ∙ h in cc);
    symbol_size = λ a h. (let both : None ≡ Some a = sym shared_tags.no_symbols ∙ h in cc);
    relative = λ n t h _. (let both : None ≡ Some n = sym shared_tags.no_count ∙ h in cc);
    whole = whole_size 0x20c0;
    stubs_whole = no_size shared_entries dt_pltrelsz rela_size shared_tags.no_stub_size;
    words_whole = no_size shared_entries dt_relrsz relr_size shared_tags.no_word_size;
    one = one_value_each 0x20c0;
    tables = no_tables shared_layout 0x20c0 refl;
    functions = no_functions shared_layout 0x20c0 refl;
  };
}

-- ---- the stub

function_value : HasValue shared_layout shared_world 4 0x11088
unfolding has_flag
function_value = inr (
  record { definition = 4; defined = defined 4 stubbed_function refl refl; symbol = stubbed_function; listed = refl; told = refl },
  record {
    raw = 0x1088;
    given = record { definition = 4; defined = defined 4 stubbed_function refl refl; given = inl (record { symbol = stubbed_function; listed = refl; resolution = _; decided = refl; value = refl }) };
    indirect = false;
    resolved = record { definition = 4; defined = defined 4 stubbed_function refl refl; symbol = stubbed_function; listed = refl; flagged = refl };
    still = false;
    absolute = record { definition = 4; defined = defined 4 stubbed_function refl refl; symbol = stubbed_function; listed = refl; flagged = refl };
    is = refl;
  },
)

abbrev stub_field : List ℕ
stub_field = 0xed ∷ 0xff ∷ 0xff ∷ 0xff ∷ []

stub_there : Holds shared_memory 0x120e0 (stub_bytes stub_field)
stub_there = held_from shared_memory 0x120e0 (stub_bytes stub_field) refl

function_word : number_in shared_memory 0x120d8 8 ≡ Some 0x11088
unfolding number
function_word = refl

named_word : number_in shared_memory ((0x120e0 + 11 + signed_32 (number stub_field)) % 2 ^ 64) 8 ≡ Some 0x11088
unfolding number
named_word = refl

stub_means : meaning_x86_64 0x120e0 (stub_bytes stub_field) ≡ Some (jump_through 0x120d8)
unfolding meaning_x86_64 number
stub_means = refl

function_stub : IsStub shared_layout shared_world shared_memory 4 0x120e0
function_stub = record {
  stub = 0x20e0;
  given = record { definition = 4; defined = defined 4 stubbed_function refl refl; symbol = stubbed_function; listed = refl; resolution = _; decided = refl; stub = refl };
  moves = refl;
  value = 0x11088;
  is = function_value;
  slot = 0x20d8;
  first = refl;
  word = function_word;
  code = record {
    bytes = stub_bytes stub_field;
    whole = refl;
    held = stub_there;
    means = stub_means;
    jumps = record { effect = _; known = stub-held shared_memory 0x120e0 0x11088 stub_field refl refl stub_there named_word; jump = refl };
  };
}

stubs_jump : (i p : ℕ) → HasStub shared_layout i p → IsStub shared_layout shared_world shared_memory i ((0x10000 + p) % 2 ^ 64)
stubs_jump zero p h = absurd (stub_of shared_layout 0 p own_symbol _ refl refl refl h)
stubs_jump (suc zero) p h = absurd (stub_of shared_layout 1 p open_symbol _ refl refl refl h)
stubs_jump (suc (suc zero)) p h = absurd (stub_of shared_layout 2 p own_thread _ refl refl refl h)
stubs_jump (suc (suc (suc zero))) p h = absurd (stub_of shared_layout 3 p other_thread _ refl refl refl h)
stubs_jump (suc (suc (suc (suc zero)))) p h = (let same : 0x20e0 ≡ p = stub_is shared_layout 4 p 0x20e0 stubbed_function _ refl refl refl h in subst (λ (q : ℕ). IsStub shared_layout shared_world shared_memory 4 ((0x10000 + q) % 2 ^ 64)) same function_stub)
stubs_jump (suc (suc (suc (suc (suc i))))) p h = absurd (let both : None ≡ Some h.defined.symbol = h.defined.listed in cc)

shared_described : DescribesOutput shared_layout shared_image
shared_described = record {
  header = record {
    header = shared_header;
    fits = record {
      front = record { magic = omega arith; class = omega arith; encoding = omega arith; ident_version = omega arith; os_abi = omega arith; abi_version = omega arith; file_type = omega arith };
      middle = record { machine = omega arith; version = omega arith; entry = omega arith; program_offset = omega arith; section_offset = omega arith; flags = omega arith; header_size = omega arith };
      back = record { program_entry_size = omega arith; program_count = omega arith; section_entry_size = omega arith; section_count = omega arith; name_table = omega arith };
    };
    stands = HasBytesAt-left (spell (file_header_fields shared_header)) shared_rest;
    fixed = λ f. absurd f;
    movable = λ _. refl;
    address = λ a e. absurd (let one : None ≡ Some (entry.Address a) = e in cc);
    symbol = λ i a e _. absurd (let one : None ≡ Some (entry.Symbol i) = e in cc);
    none = λ e. refl;
    fields = record { ident_version = refl; os_abi = refl; abi_version = refl; programs = refl; version = refl; header = refl; program = refl; section = refl; flags = refl };
    segments = shared_segments;
    sections = no_sections shared_layout shared_image shared_header refl refl;
  };
  dynamic = λ whole d. shared_informs;
}

pub shared_linked : SharedImageIsLinked
shared_linked = (
  shared_described,
  record {
    memory = shared_memory;
    accepted = shared_loaded;
    machine = refl;
    kept = items_hold;
    zeros = λ s k h _ _ _. absurd (no_blank s h);
    stubs = λ whole. stubs_jump;
    copies = λ whole i raw x h. absurd (no_library i h.copied);
    texts = no_texts shared_layout shared_world shared_memory refl refl;
    still = λ a b h free. file_byte_held shared_layout shared_memory shared_world.base a b shared_image file_bytes h;
  },
)

-- ---- a changed table

-- its sections end before the dynamic section
abbrev EndsBefore : InputSection → Type 0
EndsBefore s = s.address + s.size ≤ 0x2068

dynamic_unfilled : IsUnfilled shared_layout shared_world 0x2068
dynamic_unfilled = record {
  sections = λ s k. inr (All-contains EndsBefore inputs s (All-from_recursion EndsBefore inputs (omega arith, (omega arith, (omega arith, tt)))) (listed_in s k.input));
  parts = λ p c role. absurd (omega (arith, c.1));
  copies = λ i raw x h. absurd (no_library i h.copied);
}

pub changed_table : ChangedTableIsRefused
changed_table image b h stands wrong =
    wrong (h.still 0x2068 b (record { segment = loaded_segment 0x2000 0x110 0x110; listed = (1, omega arith, refl); loaded = refl; from = omega arith; within = omega arith; given = stands }) dynamic_unfilled)
