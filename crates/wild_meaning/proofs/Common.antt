-- The names that many proofs of this crate cite, passed on from one place. Declares nothing.
pub use Rattle.std.proofs.lemmas.Bool.{cases_Bool, eqb-false, eqb-true}
pub use Rattle.std.proofs.lemmas.List.Elements.{All-contains, All-from_recursion, All-nil}
pub use Rattle.std.specs.Int.{cast_unsigned, w64}
pub use Rattle.std.specs.List.{list_all}
pub use Rattle.std.specs.Prelude.{All, Bool, Contains, List, None, Ok, Option, Some, [], codes, drop, false, get_or, if◌then◌else◌, length, map, nat_le, nat_lt, not, option_and_then, option_map, replicate, slice_get, slice_index, slice_index_or, slice_range, suc, take, true, zero, ℕ, ◌%◌, ◌&&◌, ◌*◌, ◌++◌, ◌+◌, ◌-◌, ◌/◌, ◌<◌, ◌==◌, ◌^◌, ◌||◌, ◌∷◌, ◌≡◌, ◌≢◌, ◌≤◌, ◌⊎◌}
unfoldable pub use Rattle.wild_aarch64.specs.Code.{read, read_access, read_address, read_condition, read_literal, read_transfer, read_vector_access}
unfoldable pub use Rattle.wild_aarch64.specs.Immediate.{insert_bits}
pub use Rattle.wild_loader.proofs.StepLemmasAArch64.{thunks-read}
pub use Rattle.wild_loader.specs.Changes.{distance_of, first_value}
unfoldable pub use Rattle.wild_loader.specs.Changes.{kind_of}
pub use Rattle.wild_loader.specs.Effect.{step}
unfoldable pub use Rattle.wild_loader.specs.Headers.{header, program_headers, sections}
pub use Rattle.wild_loader.specs.Instruction.{Effect, Reader, as_value, matches_cells, with_value}
pub use Rattle.wild_loader.specs.InstructionX86_64.{effect_x86_64}
unfoldable pub use Rattle.wild_loader.specs.InstructionX86_64.{meaning_x86_64}
unfoldable pub use Rattle.wild_loader.specs.Load.{image_at, image_with, load}
pub use Rattle.wild_loader.specs.Memory.{Holds, byte_in, bytes_in, number_in}
unfoldable pub use Rattle.wild_loader.specs.Places.{places_from}
unfoldable pub use Rattle.wild_loader.specs.Relocate.{add_all, apart, notes, relocate}
unfoldable pub use Rattle.wild_loader.specs.Runs.{overlay_runs}
unfoldable pub use Rattle.wild_loader.specs.Segments.{load_segment, load_segments, segments}
pub use Rattle.wild_loader.specs.StepLawsAArch64.{jumps}
pub use Rattle.wild_loader.specs.Tables.{section_of}
unfoldable pub use Rattle.wild_loader.specs.Tables.{first_dynamic, section_entries, section_tables, tables, value_of_tag}
pub use Rattle.wild_loader.specs.declared.instruction.Action.{Action}
pub use Rattle.wild_loader.specs.declared.instruction.Deed.{Deed}
pub use Rattle.wild_loader.specs.declared.instruction.Deed.TheVariants.{Call, Jump, Set, SetThreadAddress}
pub use Rattle.wild_loader.specs.declared.instruction.Operand.TheVariants.{Number, Word}
pub use Rattle.wild_loader.specs.declared.memory.Memory.{Memory}
pub use Rattle.wild_loader.specs.declared.world.Answer.{Answer}
pub use Rattle.wild_loader.specs.declared.world.World.{World}
pub use Rattle.wild_meaning.specs.Denotes.{HasStub, IsAddressStub}
pub use Rattle.wild_meaning.specs.Field.{FieldReads, InNoField, form_width, formula_of}
pub use Rattle.wild_meaning.specs.Formula.{Gives, IsReferent, IsReferentOnAArch64, IsSum, TakesString}
pub use Rattle.wild_meaning.specs.Item.{IsInput, IsKept, OfFrames, OfSection, place_at, placed_item}
pub use Rattle.wild_meaning.specs.LinkedImage.{DescribesOutput, IsSectionWithoutData}
pub use Rattle.wild_meaning.specs.Reference.{IsOutsideReferences, ItemHolds, ReadsOffsetSlots, ReferenceHolds, UsesOwnDefinition, UsesOwnSymbolOnly}
pub use Rattle.wild_meaning.specs.Section.{IsSet}
pub use Rattle.wild_meaning.specs.SectionHeaders.{DescribesSections}
pub use Rattle.wild_meaning.specs.Segments.{DescribeSegments, headers_in}
pub use Rattle.wild_meaning.specs.Sequence.{Described, FieldBits, Instruction, Partner, SymbolPair, Target, address_pair_words, by_call, by_distance, by_slot, descriptor_call_words, instructions_of, of_symbol, size_of}
pub use Rattle.wild_meaning.specs.Slot.{HasSlotAddress, IsSlot}
pub use Rattle.wild_meaning.specs.Template.{DoesDemanded, IsDemanded, IsInstruction, IsOfSequence, IsSequence, IsTemplate, demand_of, effect_of, old_bytes, reads, reads_without_calls}
pub use Rattle.wild_meaning.specs.Thread.{HasThreadOffset}
pub use Rattle.wild_meaning.specs.Value.{HasAnswer, HasFlag, HasRaw, HasValue, IsDefinedBy, IsReplaceable, IsSymbol, may_be_replaced}
pub use Rattle.wild_meaning.specs.Worked.AArch64.{call_code, call_item, call_reference, descriptor_code, descriptor_item, descriptor_load, descriptor_page, kept_code, kept_item, local_data, low_reference, near_function, page_reference, past_code, past_item, past_reference, slot_code, slot_item, slot_low_reference, words_static, words_world}
pub use Rattle.wild_meaning.specs.Worked.Builders.{Refuses, file_of, group_of, reference}
pub use Rattle.wild_meaning.specs.Worked.Copy.{copied_answer, copied_symbol, copying_layout, copying_world, start_symbol}
pub use Rattle.wild_meaning.specs.Worked.Refusals.{HasWrongNumber}
pub use Rattle.wild_meaning.specs.Worked.Shared.{answer_of_module, open_symbol, other_thread, own_symbol, own_thread, shared_code, shared_data, shared_item, shared_layout, shared_near, shared_world, stubbed_function}
pub use Rattle.wild_meaning.specs.Worked.SharedRefusals.{Refused, own_offset}
pub use Rattle.wild_meaning.specs.Worked.Static.{branch_code, described_code, first_function, general_code, getter_symbol, load_code, second_function, static_data, static_pie, static_pie_world, thread_symbol}
pub use Rattle.wild_meaning.specs.Worked.StaticRefusals.{MemoryHas}
pub use Rattle.wild_meaning.specs.World.{HasResolver, IsAnswer, IsAnswered, IsCopied, IsExecutable, IsKnownModule, IsPastFileBytes}
pub use Rattle.wild_records.specs.Abi.Dynamic.{dt_jmprel, dt_pltrelsz, dt_relr, dt_relrsz, dt_symtab}
pub use Rattle.wild_records.specs.Abi.Relocation.{r_aarch64_adr_got_page, r_aarch64_ld64_got_lo12_nc, r_x86_64_64, r_x86_64_dtpoff64, r_x86_64_gotpc32_tlsdesc, r_x86_64_none, r_x86_64_tlsgd, r_x86_64_tlsld, r_x86_64_tpoff64}
pub use Rattle.wild_records.specs.Abi.Section.{shf_execinstr}
pub use Rattle.wild_records.specs.Abi.Segment.{pt_gnu_stack, pt_load}
pub use Rattle.wild_records.specs.FileHeader.{FileHeaderIsRead}
unfoldable pub use Rattle.wild_records.specs.FileHeader.{file_header_at, file_header_fields}
unfoldable pub use Rattle.wild_records.specs.ProgramHeader.{program_header_at, program_header_fields}
pub use Rattle.wild_records.specs.Relocations.{rela_size, relr_size}
pub use Rattle.wild_records.specs.declared.dynamic.DynamicEntry.{DynamicEntry}
pub use Rattle.wild_records.specs.declared.file_header.FileHeader.{FileHeader}
pub use Rattle.wild_records.specs.declared.program_header.ProgramHeader.{ProgramHeader}
pub use Rattle.wild_reloc.specs.Formula.{AddressSlot, AdrField, Bits, Descriptor, Distance, Formula, Full, Imm12Field, ModuleOffset, ModulePair, NoCheck, OwnModulePair, PageDistance, Plain, PointerOffset, Signed, Slot, SlotAddress, SlotDistance, SlotPageDistance, StubDistance, SymbolAddress, SymbolPart, ThreadOffset, Value, WithinPower, formula}
unfoldable pub use Rattle.wild_reloc.specs.FormulaAArch64.{aarch64_formula}
unfoldable pub use Rattle.wild_reloc.specs.FormulaX86_64.{x86_64_formula}
pub use Rattle.wild_types.specs.Flags.{absolute, ifunc}
unfoldable pub use Rattle.wild_types.specs.Flags.{has_flag}
pub use Rattle.wild_types.specs.Item.{Item, item_of, item_with}
pub use Rattle.wild_types.specs.declared.file.File.{File}
pub use Rattle.wild_types.specs.declared.file.Group.{Group}
pub use Rattle.wild_types.specs.declared.input.InputRelocation.{InputRelocation}
pub use Rattle.wild_types.specs.declared.input.InputSection.{InputSection}
pub use Rattle.wild_types.specs.declared.kind.Machine.{Machine}
pub use Rattle.wild_types.specs.declared.kind.OutputKind.{OutputKind}
pub use Rattle.wild_types.specs.declared.layout.Layout.{Layout}
pub use Rattle.wild_types.specs.declared.part.Part.{Part}
pub use Rattle.wild_types.specs.declared.section.Section.{Section}
pub use Rattle.wild_types.specs.declared.section.Segment.{Segment}
pub use Rattle.wild_types.specs.declared.symbol.Resolution.{Resolution}
pub use Rattle.wild_types.specs.declared.symbol.Symbol.{Symbol}
pub use Rattle.wild_words.proofs.RecordLemmas.{HasBytesAt-left}
unfoldable pub use Rattle.wild_words.specs.Extents.{least_extent}
pub use Rattle.wild_words.specs.Record.{spell}
unfoldable pub use Rattle.wild_words.specs.Words.{number, word}
pub use borrow.Author.Tests.{eq-eqb}
pub use lib.IntN.{pos}
pub use mathlib.Core.Logic.{inl, inr}
pub use mathlib.Core.Path.{ap, refl, subst, sym, ◌∙◌}
pub use native.Mathlib.Omega.{arith}
