-- The names that many proofs of this crate cite, passed on from one place. Declares nothing.
pub use Rattle.std.proofs.lemmas.Bool.{and_parts, cases_Bool, eqb-true, ltb-true}
pub use Rattle.std.proofs.lemmas.Int.{fits_signed_from_abs}
pub use Rattle.std.proofs.lemmas.List.Elements.{All-from_recursion, All-nil, All-weaker}
pub use Rattle.std.specs.Int.{w64}
pub use Rattle.std.specs.List.{list_all}
pub use Rattle.std.specs.Prelude.{All, Bool, Contains, List, None, Ok, Option, Result, Some, [], false, get_or, if◌then◌else◌, length, map, nat_le, nat_lt, not, option_map, slice_get, slice_index_or, slice_range, suc, true, zero, ℕ, ℤ, ◌%◌, ◌&&◌, ◌++◌, ◌+◌, ◌-◌, ◌<◌, ◌==◌, ◌^◌, ◌||◌, ◌∷◌, ◌≡◌, ◌≢◌, ◌≤◌, ◌⊎◌}
pub use Rattle.wild_laws.proofs.Symbols.{not_both, one_symbol, own_value}
pub use Rattle.wild_laws.specs.Laws.{ImagesAreSound}
unfoldable pub use Rattle.wild_layout.specs.Faults.{errors}
pub use Rattle.wild_layout.specs.Geometry.{LayoutsAreLaidOut}
pub use Rattle.wild_layout.specs.Numbers.{AddendFits, InputNumbers, InputsFit, NumbersFit, ResolutionNumbers, SectionNumbers, SegmentNumbers, SymbolNumbers}
pub use Rattle.wild_loader.specs.Changes.{answer_at}
pub use Rattle.wild_loader.specs.declared.world.World.{World}
pub use Rattle.wild_meaning.specs.Field.{formula_of}
pub use Rattle.wild_meaning.specs.Item.{OfSection}
pub use Rattle.wild_meaning.specs.Reference.{IsCheckedAtZeroOnly}
pub use Rattle.wild_meaning.specs.Sequence.{Instruction}
pub use Rattle.wild_meaning.specs.Value.{HasFlag, HasRaw, IsAbsolute, IsDefinedBy, IsReplaceable}
pub use Rattle.wild_meaning.specs.World.{AnswersSymbols, HasResolver, IsLegal}
pub use Rattle.wild_needs.specs.Dynamic.{dynamic_entries}
pub use Rattle.wild_records.specs.Abi.Relocation.{r_x86_64_gotpcrelx}
pub use Rattle.wild_records.specs.Dynamic.{DynamicEntryFits}
pub use Rattle.wild_records.specs.declared.dynamic.DynamicEntry.{DynamicEntry}
pub use Rattle.wild_reloc.specs.Formula.{Formula, Plain, Signed, formula}
unfoldable pub use Rattle.wild_reloc.specs.FormulaX86_64.{x86_64_formula}
unfoldable pub use Rattle.wild_sample_layouts.proofs.OnLiterals.{errors_on_literals}
pub use Rattle.wild_sample_layouts.specs.PlanOfGroups.{section_with}
pub use Rattle.wild_table_formats.specs.Headers.{entry_address}
pub use Rattle.wild_types.specs.Flags.{absolute, ifunc}
unfoldable pub use Rattle.wild_types.specs.Flags.{has_flag}
pub use Rattle.wild_types.specs.ResolvedFlags.{HasItsFlags, HaveTheirFlags}
pub use Rattle.wild_types.specs.declared.file.File.{File}
pub use Rattle.wild_types.specs.declared.file.Group.{Group}
pub use Rattle.wild_types.specs.declared.input.InputRelocation.{InputRelocation}
pub use Rattle.wild_types.specs.declared.kind.OutputKind.{OutputKind}
pub use Rattle.wild_types.specs.declared.layout.Layout.{Layout}
pub use Rattle.wild_types.specs.declared.section.Segment.{Segment}
pub use Rattle.wild_types.specs.declared.symbol.Resolution.{Resolution}
pub use Rattle.wild_types.specs.declared.symbol.Symbol.{Symbol}
pub use Rattle.wild_words.proofs.ListLemmas.{All-from_list_all}
pub use Rattle.wild_worlds.specs.Worlds.{AreAddresses, AreNumbers, HasRoomAbove, HasWorld, IsConsistent, OtherModule}
pub use borrow.Author.Tests.{eq-eqb}
unfoldable pub use lib.Count.{ones}
pub use lib.IntN.{negsuc, pos}
pub use mathlib.Core.Logic.{inl, inr}
pub use mathlib.Core.Path.{ap, refl, subst, sym, ◌∙◌}
pub use native.Mathlib.Omega.{arith}
