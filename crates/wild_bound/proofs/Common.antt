-- The names that many proofs of this crate cite, passed on from one place. Declares nothing.
pub use Rattle.std.proofs.lemmas.Bool.{and_parts, cases_Bool, eqb-true, ne_eqb}
pub use Rattle.std.proofs.lemmas.List.Elements.{All-nil}
pub use Rattle.std.proofs.lemmas.Option.{slice_get_within}
pub use Rattle.std.specs.Int.{w64}
pub use Rattle.std.specs.Int.RustNames.{FitsSigned}
pub use Rattle.std.specs.Prelude.{All, AllPairs, Bool, Err, List, None, Ok, Option, Result, Some, [], codes, false, get_or, if◌then◌else◌, length, map, max, nat_le, nat_lt, not, option_map, pos, slice_get, suc, take, true, zero, ℕ, ℤ, ◌%◌, ◌&&◌, ◌*◌, ◌++◌, ◌+◌, ◌-◌, ◌/◌, ◌<◌, ◌==◌, ◌^◌, ◌∷◌, ◌≡◌, ◌≤◌, ◌⊎◌}
pub use Rattle.wild_bound.specs.Premises.{AnswerNumbers, HasPlainEntry, IsBoundToItself, SymbolNumbers}
unfoldable pub use Rattle.wild_hashes.specs.ImageTables.{find_name, symbol_at}
unfoldable pub use Rattle.wild_hashes.specs.Tables.{gnu_hash_of}
pub use Rattle.wild_hashes.specs.declared.tables.ImageTables.{ImageTables}
unfoldable pub use Rattle.wild_imports.specs.Imports.{find_definition, thread_address}
unfoldable pub use Rattle.wild_imports.specs.SymbolCount.{gnu_count, sysv_count}
pub use Rattle.wild_layout.specs.Geometry.{LayoutsAreLaidOut}
unfoldable pub use Rattle.wild_layout.specs.Image.{bytes}
pub use Rattle.wild_loader.specs.declared.world.Answer.{Answer}
pub use Rattle.wild_loader.specs.declared.world.World.{World}
pub use Rattle.wild_meaning.specs.Value.{IsSymbol, may_be_replaced}
pub use Rattle.wild_names.proofs.ShapeLemmas.{well_formed}
pub use Rattle.wild_names.specs.LookUpLaws.{IsWritten}
pub use Rattle.wild_names.specs.ReadLaws.{AreReadBack, DynamicSymbolsAreRead}
pub use Rattle.wild_records.specs.Abi.Section.{shn_undef}
pub use Rattle.wild_records.specs.declared.symtab_entry.SymtabEntry.{SymtabEntry}
pub use Rattle.wild_space.specs.BindLaws.{BindsAreFirst}
pub use Rattle.wild_space.specs.Binds.{no_answer, offset_of, place_of}
unfoldable pub use Rattle.wild_space.specs.Binds.{address_of, answer_of, bind, count_of, find_in, symbol_of, thread_start_of}
unfoldable pub use Rattle.wild_space.specs.Bound.{bound}
pub use Rattle.wild_space.specs.declared.binds.Definition.{Definition}
pub use Rattle.wild_space.specs.declared.fault.BindFault.{BindFault}
pub use Rattle.wild_space.specs.declared.image.NamedImage.{NamedImage}
pub use Rattle.wild_table_formats.specs.DynamicFields.{is_thread_symbol}
pub use Rattle.wild_types.specs.Flags.{absolute}
unfoldable pub use Rattle.wild_types.specs.Flags.{has_flag}
pub use Rattle.wild_types.specs.Lookups.{files_of}
pub use Rattle.wild_types.specs.declared.file.File.{File}
pub use Rattle.wild_types.specs.declared.layout.DynamicSymbol.{DynamicSymbol}
pub use Rattle.wild_types.specs.declared.layout.Layout.{Layout}
pub use Rattle.wild_types.specs.declared.symbol.Resolution.{Resolution}
pub use Rattle.wild_types.specs.declared.symbol.Symbol.{Symbol}
pub use Rattle.wild_words.proofs.ListLemmas.{holds_at}
pub use borrow.Author.Tests.{eq-eqb}
pub use mathlib.Core.Logic.{inl, inr}
pub use mathlib.Core.Path.{ap, refl, subst, sym, ◌∙◌}
pub use native.Mathlib.Omega.{arith}
