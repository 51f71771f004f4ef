-- The names that many proofs of this crate cite, passed on from one place. Declares nothing.
pub use Rattle.std.proofs.lemmas.Bool.{and_from, and_parts, cases_Bool, cases_eq, cases_lt, eq-eqb, eqb-true, le-leb, leb-true, ltb-true, ne_eqb, not-true, or_cases}
pub use Rattle.std.proofs.lemmas.Bool.Decides.{nat_tests}
pub use Rattle.std.proofs.lemmas.List.Elements.{All-cons, All-nil}
pub use Rattle.std.proofs.lemmas.Option.{get_or_from_slice_get, slice_get-get_or, slice_get_within}
pub use Rattle.std.specs.Int.{cast_unsigned, w64}
pub use Rattle.std.specs.List.{list_all, range_with_len}
pub use Rattle.std.specs.Prelude.{All, Bool, Contains, Err, FitsSigned, List, None, Ok, Option, Result, Some, [], bit_and, drop, false, get_or, if◌then◌else◌, is_none, is_some, length, map, nat_le, nat_lt, negsuc, not, option_and_then, option_map, pos, slice_get, slice_index, slice_index_or, slice_range, suc, take, true, unwrap_or, zero, ℕ, ℤ, ⊤, ◌%◌, ◌&&◌, ◌*◌, ◌++◌, ◌+◌, ◌-◌, ◌/◌, ◌<◌, ◌==◌, ◌^◌, ◌||◌, ◌∷◌, ◌≡◌, ◌≢◌, ◌≤◌, ◌⊎◌}
unfoldable pub use Rattle.wild_aarch64.specs.Code.{read}
pub use Rattle.wild_aarch64.specs.Effect.{shapes, words_of}
pub use Rattle.wild_aarch64.specs.Machine.{does, meaning, page, run}
pub use Rattle.wild_aarch64.specs.Slice.{has_fixed_bits}
pub use Rattle.wild_aarch64.specs.declared.code.Code.{Code}
pub use Rattle.wild_aarch64.specs.declared.code.Code.TheVariants.{Add, Adrp, Blr, Ldr}
pub use Rattle.wild_geometry.proofs.JudgedLemmas.{flag_is}
pub use Rattle.wild_geometry.specs.Loaded.{HasDecision, InMemory, IsDecided}
pub use Rattle.wild_geometry.specs.MachineFacts.{RowsAreRead}
pub use Rattle.wild_geometry.specs.Slots.{HasWords, IsLoadedWord}
pub use Rattle.wild_layout.proofs.ChoiceLemmas.{IsChosen, choice_row, chosen_listed, relocation_around}
pub use Rattle.wild_layout.proofs.DecideLemmas.{HasField, decided_left, decided_moved, decided_nothing, field_has, known_extent, known_indirect, known_symbolic}
pub use Rattle.wild_layout.proofs.DecisionLemmas.{IsOwn, decide_field, decide_left, decide_moved, decide_nothing, decide_partner, own_choice, rewritten_aarch64, rewritten_x86_64}
pub use Rattle.wild_layout.proofs.SiteLemmas.{length-template_site, window_in}
pub use Rattle.wild_layout.proofs.ThunkFieldLemmas.{ComesTo}
pub use Rattle.wild_layout.specs.Choice.{choice, choice_of, choice_on, infos_from, is_partner, is_thread_type, nameless, question_around, question_of, takes_next}
unfoldable pub use Rattle.wild_layout.specs.Choice.{choice_by}
pub use Rattle.wild_layout.specs.Decide.{decide_with, place_to, term_to}
unfoldable pub use Rattle.wild_layout.specs.Decide.{decide, decided}
pub use Rattle.wild_layout.specs.Geometry.{DefinitionNames, IsLaidOut, NamesSymbol}
pub use Rattle.wild_layout.specs.Merged.{names_merged}
unfoldable pub use Rattle.wild_layout.specs.Merged.{address_for, merged_strings}
pub use Rattle.wild_layout.specs.Numbers.{AddendFits, NumbersFit}
pub use Rattle.wild_layout.specs.Sites.{field_site, site_for, template_site, template_start}
pub use Rattle.wild_layout.specs.SlotValues.{address_of, after_pair, after_word, resolution_of, stub_address, stub_of, symbol_is_ifunc}
pub use Rattle.wild_layout.specs.SymbolValues.{displacement, raw_address, sum, symbol_size}
pub use Rattle.wild_layout.specs.Values.{adds_symbol, is_undefined_weak_without_stub, subtract, subtracts_place, term_at, term_by, term_of, undefined_weak_target, value_in, weak_resolves_to_place}
pub use Rattle.wild_layout.specs.declared.decision.Decision.{Decision}
pub use Rattle.wild_layout.specs.declared.decision.Decision.TheVariants.{DynamicField, Field, Nothing, Partner, RelativeAddress, Rewritten}
pub use Rattle.wild_loader.proofs.MappedSegments.{byte_below}
pub use Rattle.wild_loader.specs.Changes.{distance_of, first_value}
pub use Rattle.wild_loader.specs.CodeX86_64.{branch, no_prefix, rex, rex2, with_slot}
pub use Rattle.wild_loader.specs.Instruction.{Effect, Reader, Template, as_value, effect, fits, matches_cells, sum_64, with_value}
pub use Rattle.wild_loader.specs.InstructionAArch64.{action_of}
pub use Rattle.wild_loader.specs.InstructionX86_64.{demand_x86_64, descriptor_call, effect_x86_64}
unfoldable pub use Rattle.wild_loader.specs.InstructionX86_64.{meaning_x86_64}
pub use Rattle.wild_loader.specs.Memory.{Holds, byte_in}
pub use Rattle.wild_loader.specs.ThreadCodeX86_64.{far_pair_call, general_call, general_slot_call, local_call, local_slot_call}
pub use Rattle.wild_loader.specs.declared.fault.LoadFault.{LoadFault}
pub use Rattle.wild_loader.specs.declared.instruction.Action.{Action}
pub use Rattle.wild_loader.specs.declared.instruction.Cell.TheVariants.{Any, Digit, From, Is, Slot}
pub use Rattle.wild_loader.specs.declared.instruction.Deed.TheVariants.{Call, Compare, Jump, Set, Subtract}
pub use Rattle.wild_loader.specs.declared.instruction.Operand.{Operand}
pub use Rattle.wild_loader.specs.declared.instruction.Operand.TheVariants.{Number, Word}
pub use Rattle.wild_loader.specs.declared.memory.Memory.{Memory}
pub use Rattle.wild_loader.specs.declared.world.Answer.{Answer}
pub use Rattle.wild_loader.specs.declared.world.World.{World}
pub use Rattle.wild_meaning.proofs.BitLemmas.{bit_code, code_bit}
pub use Rattle.wild_meaning.proofs.OutputLemmas.{executable_is}
pub use Rattle.wild_meaning.proofs.PairLemmas.{IsGetterCall, are_several, as_pair, only_one}
pub use Rattle.wild_meaning.proofs.SymbolLemmas.{address_denotes, canonical_is}
pub use Rattle.wild_meaning.proofs.WorldLemmas.{distance_known, word_below}
pub use Rattle.wild_meaning.specs.Denotes.{Denotes, HasStub, IsStub}
pub use Rattle.wild_meaning.specs.Field.{FieldReads, InNoField, IsInputByte, form_width, formula_of}
pub use Rattle.wild_meaning.specs.Formula.{Gives, GivesLinked, HasOffsetMode, IsOffset, IsPlaceRelative, IsReferent, IsReferentOnAArch64, IsSum, IsSymbolAddress, IsTarget, KnowsOffsets, TakesAddress, TakesOffset, TakesString, page_of, table_at}
pub use Rattle.wild_meaning.specs.Item.{place_at}
pub use Rattle.wild_meaning.specs.Jump.{JumpsBy}
pub use Rattle.wild_meaning.specs.LinkedImage.{processor_of}
pub use Rattle.wild_meaning.specs.Partners.{HasPartners}
pub use Rattle.wild_meaning.specs.Reference.{HasPlace, HasSlotFormula, HasStubAddress, HoldsRewritten, IsOffsetSlot, IsOmitted, IsSlotValue, MustHold, ReadsOffsetSlots, TakesStub, UsesOwnDefinition, UsesOwnSymbolOnly}
pub use Rattle.wild_meaning.specs.ReferentAArch64.{IsOneAddress, IsUndefinedWeak, branch_types}
pub use Rattle.wild_meaning.specs.Section.{IsSet}
pub use Rattle.wild_meaning.specs.Sequence.{AddressInSlot, Described, DescribedCall, FieldBits, Instruction, IsOutsidePartners, IsOwnByte, OffsetInSlot, OwnPair, Sort, SymbolPair, Target, TargetInSlot, address_pair_words, by_call, by_distance, by_slot, by_word, descriptor_call_words, instructions_of, of_field, offset_pair_words, size_of}
pub use Rattle.wild_meaning.specs.Slot.{HasWord, IsPair, IsSlot}
pub use Rattle.wild_meaning.specs.Strings.{NamesStrings}
pub use Rattle.wild_meaning.specs.Template.{Demands, DoesDemanded, HasOriginAddend, IsDemanded, IsInstruction, IsOfSequence, IsSequence, IsSingle, IsTemplate, demand_of, effect_of, field_origin, old_bytes, reads, reads_without_calls}
pub use Rattle.wild_meaning.specs.Thread.{IsOffsetBase}
pub use Rattle.wild_meaning.specs.Value.{HasAnswer, HasFlag, HasOwnValue, HasRaw, HasValue, IsAbsolute, IsDefinedBy, IsLocatedAt, IsReplaceable, IsResolved, IsSymbol, IsUnresolved, IsValue, is_library, may_be_replaced, with_base}
pub use Rattle.wild_meaning.specs.WordsAArch64.{has_known_meaning, is_run, reads_numbers}
pub use Rattle.wild_meaning.specs.World.{IsAnswer, IsExecutable, IsFirstModule, IsLoadable, IsMovable}
pub use Rattle.wild_needs.specs.Entries.{has_dynamic_entry}
pub use Rattle.wild_records.proofs.FieldLemmas.{signed_fits}
pub use Rattle.wild_records.specs.Abi.Relocation.{r_aarch64_add_abs_lo12_nc, r_aarch64_adr_prel_pg_hi21, r_aarch64_call26, r_aarch64_condbr19, r_aarch64_jump26, r_aarch64_tlsdesc_add_lo12, r_aarch64_tlsdesc_adr_page21, r_aarch64_tlsdesc_call, r_aarch64_tlsdesc_ld64_lo12, r_aarch64_tlsie_adr_gottprel_page21, r_aarch64_tlsie_ld64_gottprel_lo12_nc, r_aarch64_tstbr14, r_x86_64_code_4_gotpc32_tlsdesc, r_x86_64_gotpc32_tlsdesc, r_x86_64_gotpcrel, r_x86_64_gottpoff, r_x86_64_none, r_x86_64_pc32, r_x86_64_plt32, r_x86_64_pltoff64, r_x86_64_tlsdesc_call, r_x86_64_tlsgd, r_x86_64_tlsld}
pub use Rattle.wild_records.specs.Abi.Section.{shf_execinstr}
pub use Rattle.wild_references.specs.EffectLaws.{InstructionsAreKept, IsOutsideField, WindowsHaveNoOtherField}
pub use Rattle.wild_references.specs.Laws.{FieldHolds, HasBytes, IsKeptReference, IsLoadedItem, KeepsInstruction, RowGives, RowGivesLinked, TermGives}
pub use Rattle.wild_references.specs.Terms.{HasTerm, IsDirect, IsFollowed, IsPlaced, MovesByPages, SymbolsFit, is_expressed, value_by_row}
pub use Rattle.wild_references.specs.Thunks.{AllowsThunks, EachThunkJumps}
pub use Rattle.wild_relax.proofs.RoomLemmas.{IsApplied, applied}
pub use Rattle.wild_relax.specs.FirstRow.{first_standing, row_or_fault}
pub use Rattle.wild_relax.specs.KeepAArch64.{Rewriting, RowsOfAArch64Keep, rewriting, rewritings, templates_at}
pub use Rattle.wild_relax.specs.KeepX86_64.{distance}
pub use Rattle.wild_relax.specs.LinkedPattern.{IsChanging, field_in, keeps_bytes, pattern_of, pattern_size, template_of}
pub use Rattle.wild_relax.specs.Pattern.{field_of, pattern_cells}
unfoldable pub use Rattle.wild_relax.specs.Pattern.{cells_match_at, pattern_matches_before}
pub use Rattle.wild_relax.specs.Question.{Question, relocation_of}
unfoldable pub use Rattle.wild_relax.specs.Question.{minus_four}
pub use Rattle.wild_relax.specs.Rewrite.{is_skip}
pub use Rattle.wild_relax.specs.RewriteX86_64.{info_by, info_written, rewrite_of}
pub use Rattle.wild_relax.specs.RowSequences.{call_form, has_its_sequence, is_call_number, partner_distance}
pub use Rattle.wild_relax.specs.RowSymbols.{is_mandatory, takes_symbol, takes_value}
pub use Rattle.wild_relax.specs.Rows.{unknown_sequence}
unfoldable pub use Rattle.wild_relax.specs.Rows.{applies, chosen_row_x86_64, first_row_x86_64, rows_x86_64}
unfoldable pub use Rattle.wild_relax.specs.RowsAArch64.{chosen_row_aarch64, rows_aarch64}
pub use Rattle.wild_relax.specs.SequenceAArch64.{relocations_match, types_of, words_at, words_before, words_match}
pub use Rattle.wild_relax.specs.SequenceRowsAArch64.{RowsApplyTogether}
pub use Rattle.wild_relax.specs.declared.pattern.Cell.{Cell}
pub use Rattle.wild_relax.specs.declared.pattern.GeneralForm.{GeneralForm}
pub use Rattle.wild_relax.specs.declared.pattern.Pattern.{Pattern}
pub use Rattle.wild_relax.specs.declared.pattern.Sequence.{Sequence}
pub use Rattle.wild_relax.specs.declared.pattern.Sequence.TheVariants.{Address, DescriptorCall, OffsetSlot}
pub use Rattle.wild_relax.specs.declared.reference.RelocationInfo.{RelocationInfo}
pub use Rattle.wild_relax.specs.declared.reference.UnknownSequence.{UnknownSequence}
pub use Rattle.wild_relax.specs.declared.row.Duty.{Duty}
pub use Rattle.wild_relax.specs.declared.row.Row.{Row}
pub use Rattle.wild_relax.specs.declared.row.SymbolTest.{SymbolTest}
pub use Rattle.wild_relax.specs.declared.row.ValueTest.{ValueTest}
pub use Rattle.wild_relax.specs.declared.table.TheConstants.{DESCRIPTOR_CALL, GENERAL_NO_PLT, GENERAL_NO_PLT_SLOT, LOCAL_NO_PLT, PLAIN_LEA}
pub use Rattle.wild_relax.specs.declared.table_aarch64.TheConstants.{CALL_FIRST, CALL_FOURTH, CALL_FOURTH_SLOT, CALL_SECOND}
pub use Rattle.wild_reloc.proofs.PlaceLemmas.{length-size_written}
pub use Rattle.wild_reloc.proofs.TableLemmas.{entry_passes}
pub use Rattle.wild_reloc.specs.Agreement.{plain_value, sized, value_of}
pub use Rattle.wild_reloc.specs.BarredTypes.{is_listed}
pub use Rattle.wild_reloc.specs.Expression.{expressed, expression_of, paged, slot_sort, subtrahend_of, writes}
pub use Rattle.wild_reloc.specs.Field.{allows, field_width, is_aligned, size_width, written}
pub use Rattle.wild_reloc.specs.Formula.{AddressSlot, AdrField, Bits, Descriptor, Distance, Form, Formula, FromTable, Full, Imm12Field, Imm26Field, Keeps, ModuleOffset, ModulePair, NoField, NoValue, OwnModulePair, PageDistance, Plain, PointerOffset, Reads, Size, SlotAddress, SlotDistance, SlotPageDistance, StubDistance, StubFromTable, SymbolAddress, SymbolPart, ThreadOffset, Value, WithinPower, formula, immediate, others, sign_extended}
unfoldable pub use Rattle.wild_reloc.specs.FormulaAArch64.{aarch64_formula}
unfoldable pub use Rattle.wild_reloc.specs.FormulaX86_64.{x86_64_formula}
pub use Rattle.wild_reloc.specs.Range.{contains}
pub use Rattle.wild_reloc.specs.Table.{plain}
pub use Rattle.wild_reloc.specs.TableAArch64.{any}
unfoldable pub use Rattle.wild_reloc.specs.TableAArch64.{static_row, thread_row}
pub use Rattle.wild_reloc.specs.TableX86_64.{x86_64_rows}
unfoldable pub use Rattle.wild_reloc.specs.TableX86_64.{x86_64_row}
pub use Rattle.wild_reloc.specs.declared.dynamic.DynamicRelocationKind.TheVariants.{DtpMod, GotEntry, Irelative}
pub use Rattle.wild_reloc.specs.declared.expression.SlotSort.{SlotSort}
pub use Rattle.wild_reloc.specs.declared.expression.Subtrahend.{Subtrahend}
pub use Rattle.wild_reloc.specs.declared.expression.Term.{Term}
pub use Rattle.wild_reloc.specs.declared.info.PageMask.{PageMask}
pub use Rattle.wild_reloc.specs.declared.info.RelocationKind.{RelocationKind}
pub use Rattle.wild_reloc.specs.declared.info.RelocationKindInfo.{RelocationKindInfo}
pub use Rattle.wild_reloc.specs.declared.info.RelocationSize.{RelocationSize}
pub use Rattle.wild_reloc.specs.declared.info.RelocationSize.TheVariants.{BitMasking, ByteSize}
pub use Rattle.wild_reloc.specs.declared.info.Width.TheVariants.{Eight, Four}
pub use Rattle.wild_reloc.specs.declared.range.Sign.{Sign}
pub use Rattle.wild_reloc.specs.declared.range.Sign.TheVariants.{Signed}
pub use Rattle.wild_slot.specs.MachineStub.{distance_if_too_far}
pub use Rattle.wild_slot.specs.Slots.{canonical_address_items, general, ifunc_address_items, items_if, named, setting_of, stub_items, thread_items}
pub use Rattle.wild_slot.specs.Storage.{minus}
pub use Rattle.wild_slot.specs.Treatment.{address_treatment, flags_at, is_barred, is_narrow, kind_treatment, moves, needs_irelative, needs_symbolic, row_accepts}
unfoldable pub use Rattle.wild_slot.specs.Treatment.{treatment}
pub use Rattle.wild_slot.specs.declared.slot.SlotItem.{SlotItem}
pub use Rattle.wild_slot.specs.declared.slot.SlotWord.{SlotWord}
pub use Rattle.wild_slot.specs.declared.slot.SlotWord.TheVariants.{General}
pub use Rattle.wild_slot.specs.declared.treatment.Treatment.{Treatment}
unfoldable pub use Rattle.wild_types.specs.Addresses.{raw_value}
pub use Rattle.wild_types.specs.Flags.{absolute, copy_relocation, dynamic, export_dynamic, got_tls_descriptor, got_tls_module, got_tls_offset, has_flag, has_link_time_address, ifunc, interposable, non_interposable, plt_stub, undefined_weak}
pub use Rattle.wild_types.specs.HeaderOnly.{KeepsAll}
pub use Rattle.wild_types.specs.Item.{Item}
pub use Rattle.wild_types.specs.Kinds.{has_fixed_load_address, is_executable, is_position_independent, is_shared_object, is_static_executable}
pub use Rattle.wild_types.specs.Lookups.{allocated, canonical, executable, place_of, writable}
pub use Rattle.wild_types.specs.ResolvedFlags.{HasItsFlags}
unfoldable pub use Rattle.wild_types.specs.Rows.{row_of}
pub use Rattle.wild_types.specs.SymbolSlots.{got_of, has_dynamic_symbol, has_thread_slot, plt_of, resolved_got}
pub use Rattle.wild_types.specs.declared.fault.Fault.{Fault}
pub use Rattle.wild_types.specs.declared.file.File.{File}
pub use Rattle.wild_types.specs.declared.input.InputRelocation.{InputRelocation}
pub use Rattle.wild_types.specs.declared.input.InputSection.{InputSection}
pub use Rattle.wild_types.specs.declared.input.MergedString.{MergedString}
pub use Rattle.wild_types.specs.declared.kind.Machine.{Machine}
pub use Rattle.wild_types.specs.declared.kind.OutputKind.{OutputKind}
pub use Rattle.wild_types.specs.declared.layout.Layout.{Layout}
pub use Rattle.wild_types.specs.declared.layout.Thunk.{Thunk}
pub use Rattle.wild_types.specs.declared.symbol.Place.{Place}
pub use Rattle.wild_types.specs.declared.symbol.Resolution.{Resolution}
pub use Rattle.wild_types.specs.declared.symbol.Symbol.{Symbol}
pub use Rattle.wild_types.specs.declared.symbol.ValueFlags.{ValueFlags}
pub use Rattle.wild_words.proofs.Basics.{implied, length-range, listed_passes, not_both, or_other, range_byte, slice_get_inside}
pub use Rattle.wild_words.proofs.ListLemmas.{holds_at}
pub use Rattle.wild_words.specs.Overlay.{Disjoint, Piece}
unfoldable pub use Rattle.wild_words.specs.Words.{number, place, word}
pub use mathlib.Core.List.{append_assoc}
pub use mathlib.Core.Logic.{inl, inr}
pub use mathlib.Core.Path.{ap, refl, subst, sym, ◌∙◌}
pub use native.Mathlib.Omega.{arith}
