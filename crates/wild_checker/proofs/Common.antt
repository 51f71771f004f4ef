-- The names that many proofs of this crate cite, passed on from one place. Declares nothing.
pub use Rattle.std.proofs.lemmas.Bool.{and_from, and_parts, cases_lt, eq-eqb, eqb-true, leb-true, not-true, or_cases}
pub use Rattle.std.proofs.lemmas.Grind.{common_steps}
pub use Rattle.std.proofs.lemmas.List.Elements.{All-cons, All-contains, All-nil, filter_map-append}
pub use Rattle.std.specs.Int.{w64}
pub use Rattle.std.specs.Prelude.{All, Bool, Contains, Err, List, None, Ok, Option, Result, Some, [], drop, false, get_or, if◌then◌else◌, is_some, length, map, max, min, nat_le, nat_lt, not, option_and_then, option_map, replicate, set, slice_get, slice_index, slice_range, suc, take, true, unwrap_or, zero, ℕ, ℤ, ⊤, ◌%◌, ◌&&◌, ◌++◌, ◌+◌, ◌-◌, ◌/◌, ◌<◌, ◌==◌, ◌^◌, ◌||◌, ◌∷◌, ◌≡◌, ◌≢◌, ◌≤◌, ◌⊎◌}
pub use Rattle.wild_checker.specs.Bytes.{are_in_order, field_end, first_changed, has_bytes}
pub use Rattle.wild_checker.specs.Files.{file_for}
pub use Rattle.wild_checker.specs.Loaded.{Loaded}
pub use Rattle.wild_checker.specs.Rewritten.{begins_none, first_cursor, first_shape}
unfoldable pub use Rattle.wild_checker.specs.Rewritten.{rewritten_start}
pub use Rattle.wild_checker.specs.Search.{in_groups}
pub use Rattle.wild_checker.specs.Sections.{changed_gap, first_doubt, is_settled}
pub use Rattle.wild_checker.specs.Slots.{is_at_stub, stub_term}
pub use Rattle.wild_checker.specs.Symbols.{index_of, known_answer, loaded_term, raw_in}
pub use Rattle.wild_checker.specs.Threads.{may_be_zero, thread_term}
pub use Rattle.wild_checker.specs.declared.rewritten.Cursor.{Cursor}
pub use Rattle.wild_checker.specs.declared.symbols.IndexedAnswer.{IndexedAnswer}
pub use Rattle.wild_layout.specs.Numbers.{InputNumbers}
pub use Rattle.wild_loader.specs.Changes.{first_value}
pub use Rattle.wild_loader.specs.Instruction.{matches_cells}
pub use Rattle.wild_loader.specs.Memory.{Holds}
pub use Rattle.wild_loader.specs.declared.instruction.Operand.TheVariants.{Number, Word}
pub use Rattle.wild_loader.specs.declared.memory.Memory.{Memory}
pub use Rattle.wild_loader.specs.declared.world.World.{World}
pub use Rattle.wild_meaning.proofs.AmongLemmas.{Among, pick}
pub use Rattle.wild_meaning.proofs.SymbolLemmas.{canonical_is, own_definition}
pub use Rattle.wild_meaning.proofs.WorldLemmas.{first_filtered}
pub use Rattle.wild_meaning.specs.Field.{form_width, formula_of}
pub use Rattle.wild_meaning.specs.Item.{place_at}
pub use Rattle.wild_meaning.specs.Sequence.{Instruction, IsOwnByte, Partner, instructions_of, size_of}
pub use Rattle.wild_meaning.specs.Template.{IsInstruction, IsSingle}
pub use Rattle.wild_meaning.specs.Value.{HasFlag, HasRaw, HasValue, may_be_replaced}
pub use Rattle.wild_records.specs.Abi.Relocation.{r_x86_64_none}
pub use Rattle.wild_references.proofs.StubCode.{StubLaws}
pub use Rattle.wild_references.specs.PlainLaws.{RowsHaveFormulas}
pub use Rattle.wild_reloc.specs.Agreement.{WidthsHold}
pub use Rattle.wild_reloc.specs.Expression.{expression_of}
pub use Rattle.wild_reloc.specs.Field.{field_width}
pub use Rattle.wild_reloc.specs.Formula.{Formula, Plain, Signed, SlotDistance, Value, formula}
unfoldable pub use Rattle.wild_reloc.specs.TableX86_64.{x86_64_row}
pub use Rattle.wild_reloc.specs.declared.info.RelocationKindInfo.{RelocationKindInfo}
pub use Rattle.wild_reloc.specs.declared.info.RelocationSize.{RelocationSize}
pub use Rattle.wild_reloc.specs.declared.info.RelocationSize.TheVariants.{BitMasking, ByteSize}
pub use Rattle.wild_terms.proofs.ValueLemmas.{based_is, differences_are, sums_are}
pub use Rattle.wild_terms.specs.Laws.{Follows}
pub use Rattle.wild_terms.specs.Outline.{based}
pub use Rattle.wild_terms.specs.Symbolic.{Symbolic, term_at}
pub use Rattle.wild_terms.specs.Terms.{difference, number_term, sum}
pub use Rattle.wild_terms.specs.Values.{IsWorldOf, value_of}
pub use Rattle.wild_terms.specs.declared.outline.Outline.{Outline}
pub use Rattle.wild_terms.specs.declared.term.Atom.{Atom}
pub use Rattle.wild_terms.specs.declared.term.Term.{Term}
pub use Rattle.wild_types.specs.Flags.{absolute, has_flag, ifunc}
pub use Rattle.wild_types.specs.Item.{Item}
pub use Rattle.wild_types.specs.Lookups.{canonical}
pub use Rattle.wild_types.specs.Rows.{field_bytes}
unfoldable pub use Rattle.wild_types.specs.Rows.{row_of}
pub use Rattle.wild_types.specs.declared.file.File.{File}
pub use Rattle.wild_types.specs.declared.file.Group.{Group}
pub use Rattle.wild_types.specs.declared.input.InputRelocation.{InputRelocation}
pub use Rattle.wild_types.specs.declared.input.InputSection.{InputSection}
pub use Rattle.wild_types.specs.declared.kind.Machine.{Machine}
pub use Rattle.wild_types.specs.declared.kind.OutputKind.{OutputKind}
pub use Rattle.wild_types.specs.declared.layout.Layout.{Layout}
pub use Rattle.wild_types.specs.declared.symbol.Resolution.{Resolution}
pub use Rattle.wild_types.specs.declared.symbol.Symbol.{Symbol}
pub use Rattle.wild_words.proofs.Basics.{listed_at}
pub use Rattle.wild_words.proofs.WordLemmas.{length-word}
pub use Rattle.wild_words.specs.Words.{word}
pub use mathlib.Core.Logic.{inl, inr}
pub use mathlib.Core.Path.{ap, refl, subst, sym, ◌∙◌}
pub use native.Mathlib.Omega.{arith}
