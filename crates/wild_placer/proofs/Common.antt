-- The names that many proofs of this crate cite, passed on from one place. Declares nothing.
pub use Rattle.std.proofs.lemmas.Bool.{cases_Bool, eq-eqb, eqb-true, le-leb, le-ltb, ltb-false, ltb-true}
pub use Rattle.std.proofs.lemmas.Option.{none-some, same_Some, slice_get_within}
pub use Rattle.std.specs.BTreeMap.{get, is_at}
pub use Rattle.std.specs.Map.{lookup}
pub use Rattle.std.specs.Ordering.{is_eq, nat_cmp}
pub use Rattle.std.specs.Prelude.{All, Bool, Err, IfNone, IfSome, IsSome, List, None, Ok, Option, Result, Some, [], cond, drop, false, get_or, if◌then◌else◌, is_some, length, map, min, nat_le, nat_lt, not, replicate, slice_get, slice_index, slice_range, suc, take, true, zero, ℕ, ◌%◌, ◌&&◌, ◌*◌, ◌++◌, ◌+◌, ◌-◌, ◌/◌, ◌<◌, ◌==◌, ◌^◌, ◌||◌, ◌∷◌, ◌≡◌, ◌≤◌, ◌⊎◌}
pub use Rattle.wild_layout.specs.Image.{bytes}
pub use Rattle.wild_loader.specs.Headers.{machine_of}
unfoldable pub use Rattle.wild_loader.specs.Headers.{header, program_headers}
unfoldable pub use Rattle.wild_loader.specs.Load.{image_at, image_with, load}
pub use Rattle.wild_loader.specs.Memory.{memory_of}
pub use Rattle.wild_loader.specs.Outcome.{◌>>=◌}
unfoldable pub use Rattle.wild_loader.specs.Relocate.{relocate}
pub use Rattle.wild_loader.specs.Runs.{least_shared}
unfoldable pub use Rattle.wild_loader.specs.Segments.{load_segments, segments}
unfoldable pub use Rattle.wild_loader.specs.Tables.{first_dynamic, section_entries, tables}
pub use Rattle.wild_loader.specs.declared.fault.LoadFault.{LoadFault}
pub use Rattle.wild_loader.specs.declared.image.Image.{Image}
pub use Rattle.wild_loader.specs.declared.memory.Memory.{Memory}
pub use Rattle.wild_loader.specs.declared.memory.Run.{Run}
pub use Rattle.wild_loader.specs.declared.tables.Tables.{Tables}
pub use Rattle.wild_loader.specs.declared.world.World.{World}
pub use Rattle.wild_placer.specs.Index.{IsRunAt, IsTaken, Runs}
pub use Rattle.wild_placer.specs.Listed.{any_begins, with_runs, without_runs}
unfoldable pub use Rattle.wild_placer.specs.Listed.{listed_run}
pub use Rattle.wild_placer.specs.Placed.{AddFails, Placements}
pub use Rattle.wild_placer.specs.Plain.{rela_header}
pub use Rattle.wild_placer.specs.Shared.{IsLeastOfRuns}
pub use Rattle.wild_placer.specs.declared.fault.PlaceFault.{PlaceFault}
pub use Rattle.wild_placer.specs.declared.index.LoadedRun.{LoadedRun}
pub use Rattle.wild_records.specs.declared.file_header.FileHeader.{FileHeader}
pub use Rattle.wild_records.specs.declared.program_header.ProgramHeader.{ProgramHeader}
pub use Rattle.wild_records.specs.declared.relocations.Rela.{Rela}
pub use Rattle.wild_records.specs.declared.section_header.SectionHeader.{SectionHeader}
pub use Rattle.wild_types.specs.declared.layout.Layout.{Layout}
pub use mathlib.Core.Logic.{inl, inr}
pub use mathlib.Core.Path.{ap, refl, subst, sym, ◌∙◌}
pub use native.Mathlib.Omega.{arith}
