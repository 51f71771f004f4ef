-- The names that many proofs of this crate cite, passed on from one place. Declares nothing.
pub use Rattle.std.proofs.lemmas.Bool.{and_parts, cases_Bool, eqb-false, eqb-true}
pub use Rattle.std.proofs.lemmas.List.Elements.{All-contains}
pub use Rattle.std.specs.List.{list_all}
pub use Rattle.std.specs.Prelude.{All, Bool, Contains, Err, List, None, Ok, Option, Result, Some, [], drop, false, get_or, if◌then◌else◌, length, nat_le, nat_lt, not, option_and_then, option_map, slice_get, slice_index, slice_range, suc, true, zero, ℕ, ◌%◌, ◌&&◌, ◌*◌, ◌++◌, ◌+◌, ◌-◌, ◌<◌, ◌==◌, ◌^◌, ◌||◌, ◌∷◌, ◌≡◌, ◌≤◌, ◌⊎◌}
pub use Rattle.wild_laws.specs.FirstPath.{HasFormula}
pub use Rattle.wild_laws.specs.FirstTypes.{HasFirstTypes, IsBranch, IsThreadCall}
pub use Rattle.wild_layout.proofs.FaultLemmas.{laid_out}
pub use Rattle.wild_layout.specs.Geometry.{IsLaidOut}
pub use Rattle.wild_loader.specs.Instruction.{Effect, matches_cells}
unfoldable pub use Rattle.wild_loader.specs.InstructionX86_64.{meaning_x86_64}
pub use Rattle.wild_loader.specs.declared.instruction.Cell.{Cell}
pub use Rattle.wild_loader.specs.declared.instruction.Cell.TheVariants.{Is}
pub use Rattle.wild_loader.specs.declared.instruction.Deed.{Deed}
pub use Rattle.wild_loader.specs.declared.instruction.Deed.TheVariants.{Call, Jump}
pub use Rattle.wild_loader.specs.declared.memory.Memory.{Memory}
pub use Rattle.wild_loader.specs.declared.world.World.{World}
pub use Rattle.wild_meaning.proofs.BitLemmas.{bit_code}
pub use Rattle.wild_meaning.specs.Field.{InNoField, formula_of}
pub use Rattle.wild_meaning.specs.Item.{place_at}
pub use Rattle.wild_meaning.specs.Reference.{ItemHolds, ReferenceHolds}
pub use Rattle.wild_meaning.specs.ReferentAArch64.{branch_types}
pub use Rattle.wild_meaning.specs.Sequence.{Instruction, IsOwnByte, instructions_of, size_of}
pub use Rattle.wild_meaning.specs.Template.{DoesDemanded, IsInstruction, IsTemplate, demand_of, reads, reads_without_calls}
pub use Rattle.wild_reloc.specs.BarredTypes.{is_listed}
pub use Rattle.wild_reloc.specs.Formula.{Distance, Formula, Plain, StubDistance, SymbolAddress, formula}
pub use Rattle.wild_types.specs.Item.{Item}
pub use Rattle.wild_types.specs.declared.input.InputRelocation.{InputRelocation}
pub use Rattle.wild_types.specs.declared.input.InputSection.{InputSection}
pub use Rattle.wild_types.specs.declared.kind.Machine.{Machine}
pub use Rattle.wild_types.specs.declared.layout.Layout.{Layout}
pub use Rattle.wild_words.proofs.Basics.{length-range, listed_passes}
pub use borrow.Author.Tests.{eq-eqb}
pub use mathlib.Core.Logic.{inl, inr}
pub use mathlib.Core.Path.{ap, refl, subst, sym, ◌∙◌}
pub use native.Mathlib.Omega.{arith}
