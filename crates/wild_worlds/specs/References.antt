-- The premises of the headline can be met: items are kept, and their references are checked.
--   SectionsAreKept        loaded, allocated input sections with data are kept
--   SortedAreKept, FramesAreKept   so are those in a given order, and the kept entries of frames
--   RelocationsRefer       each of their relocations but NONE is a reference
--   ReferencesAreChecked, SlotsAreChecked   which references of an image are checked
--   FewUseOwnSymbolOnly      few of them refer only to the output's own symbol
--   ZerosAreChecked         sections without data are checked for zeros
use Rattle.std.specs.Prelude.{◌≡◌, ◌≢◌, ℕ, ◌+◌, ◌<◌, ◌≤◌, true, false, List, [], ◌∷◌, ◌++◌, Some, None, Contains}
use Rattle.wild_records.specs.Abi.Relocation.{r_x86_64_none, r_x86_64_gotpcrel, r_x86_64_gotpcrelx, r_aarch64_adr_prel_pg_hi21, r_aarch64_add_abs_lo12_nc}
use Rattle.wild_records.specs.Abi.Section.{shf_execinstr}
use Rattle.wild_records.specs.Abi.Segment.{pt_load}
use Rattle.wild_types.specs.declared.kind.Machine.TheVariants as machine
use Rattle.wild_types.specs.declared.section.Segment.{Segment}
use Rattle.wild_types.specs.declared.input.Slot.TheVariants as slot
use Rattle.wild_types.specs.declared.input.InputRelocation.{InputRelocation}
use Rattle.wild_types.specs.declared.input.InputSection.{InputSection}
use Rattle.wild_types.specs.declared.part.Part.{Part}
use Rattle.wild_types.specs.declared.part.Role.TheVariants as role
use Rattle.wild_types.specs.declared.file.File.{File}
use Rattle.wild_types.specs.declared.file.Group.{Group}
use Rattle.wild_types.specs.declared.layout.Layout.{Layout}
use Rattle.wild_types.specs.Flags.{absolute, ifunc}
use Rattle.wild_types.specs.Lookups.{allocated, thread_local}
use Rattle.wild_types.specs.Lists.{total}
use Rattle.wild_types.specs.Parts.{part_with}
use Rattle.wild_layout.specs.Faults.{errors}
use Rattle.wild_loader.specs.declared.world.World.{World}
use Rattle.wild_meaning.specs.Section.{IsSet, IsForDebuggers}
use Rattle.wild_meaning.specs.Frames.{frames_item, kept_of_file, kept_bytes}
use Rattle.wild_meaning.specs.World.{IsFixed, IsPastFileBytes}
use Rattle.wild_meaning.specs.Value.{HasFlag, IsAbsolute, IsReplaceable}
use Rattle.wild_meaning.specs.Field.{formula_of}
use Rattle.wild_meaning.specs.Formula.{IsPlaceRelative, TakesAddress, TakesOffset}
use Rattle.wild_types.specs.Item.{Item}
use Rattle.wild_meaning.specs.Item.{IsInput, IsKept, IsReference, placed_item}
use Rattle.wild_meaning.specs.Reference.{HasPlace, HasRelativeInstruction, MustHold, IsFilledByLoader, HasStubAddress, BranchesThroughStub, UsesOwnSymbolOnly}
use Rattle.wild_meaning.specs.LinkedImage.{IsSectionWithoutData}
use Rattle.wild_reloc.specs.Formula.{Formula}
use Rattle.wild_laws.specs.FirstTypes.{IsLoadedSection}

-- each loaded, allocated input section with data is kept, as its item
abbrev pub SectionsAreKept : Type 0
SectionsAreKept = (l : Layout) (s : InputSection) (k : IsLoadedSection l s) → IsKept l (placed_item l k.file s)

-- so is one that is placed in a given order, in an image that is not only for debuggers
abbrev pub SortedAreKept : Type 0
SortedAreKept = (l : Layout) (s : InputSection) (input : IsInput l s) → s.slot ≡ slot.Sorted → allocated s.flags ≡ true → s.nobits ≡ false → (IsForDebuggers l → ⊥) → IsKept l (placed_item l input.file s)

-- and the kept entries of each section of frames are an item, which is after those of earlier files of the group and of earlier
-- sections of the file
abbrev pub FramesAreKept : Type 0
FramesAreKept =
    (l : Layout) (g : Group) (f : File) (s : InputSection) (before after : List File) (front back : List InputSection) (p : Part) → Contains l.groups g → g.files ≡ before ++ (f ∷ after) → f.sections ≡ front ++ (s ∷ back) → s.slot ≡ slot.Frame → allocated s.flags ≡ true → s.nobits ≡ false → (IsForDebuggers l → ⊥)
    → part_with role.EhFrame l.parts ≡ Some p → IsKept l (frames_item l f s (p.address + g.eh_frame_start + total (kept_of_file l) before + total (kept_bytes l) front))

-- each of an item's relocations but NONE is a reference
abbrev pub RelocationsRefer : Type 0
RelocationsRefer = (item : Item) (r : InputRelocation) → Contains item.relocations r → r.number ≢ r_x86_64_none → IsReference item r

-- if a layout has no faults, no IFUNC is absolute
abbrev pub ResolversAreNotAbsolute : Type 0
ResolversAreNotAbsolute = (l : Layout) (i : ℕ) → errors l ≡ [] → HasFlag l i ifunc true → IsAbsolute l i → ⊥

-- A reference is checked at base 0. It is checked at every base if its symbol is not absolute, as for every IFUNC, or if neither
-- its value nor its instruction is relative to a place. A call or jump through a slot is relative to its place.
pub record ReferencesAreChecked : Type 0 where
  pub zero : (l : Layout) (w : World) (item : Item) (r : InputRelocation) → w.base ≡ 0 → MustHold l w item r
  pub fixed : (l : Layout) (w : World) (item : Item) (r : InputRelocation) → IsFixed l.kind → MustHold l w item r
  pub unnamed : (l : Layout) (w : World) (item : Item) (r : InputRelocation) → r.symbol ≡ None → MustHold l w item r
  pub moving : (l : Layout) (w : World) (item : Item) (r : InputRelocation) (i : ℕ) → r.symbol ≡ Some i → HasFlag l i absolute false → MustHold l w item r
  pub resolved : (l : Layout) (w : World) (item : Item) (r : InputRelocation) (i : ℕ) → errors l ≡ [] → r.symbol ≡ Some i → HasFlag l i ifunc true → MustHold l w item r
  pub placeless : (l : Layout) (w : World) (item : Item) (r : InputRelocation) → (HasPlace l r → ⊥) → (HasRelativeInstruction l item r → ⊥) → MustHold l w item r

-- So a value that is not relative to a place, such as the distance to a slot, is checked in every section without code. In code
-- it is checked unless its type is one of calls and jumps through slots or, on AArch64, of the two instructions that form an
-- address.
pub record SlotsAreChecked : Type 0 where
  pub numbers : (l : Layout) (w : World) (item : Item) (r : InputRelocation) (f : Formula) → l.machine ≡ machine.X86_64 → formula_of l.machine r.number ≡ Some f → (IsPlaceRelative f.value → ⊥) → (Contains (r_x86_64_gotpcrel ∷ r_x86_64_gotpcrelx ∷ []) r.number → ⊥) → MustHold l w item r
  pub words : (l : Layout) (w : World) (item : Item) (r : InputRelocation) (f : Formula) → l.machine ≡ machine.AArch64 → formula_of l.machine r.number ≡ Some f → (IsPlaceRelative f.value → ⊥) → (Contains (r_aarch64_adr_prel_pg_hi21 ∷ r_aarch64_add_abs_lo12_nc ∷ []) r.number → ⊥) → MustHold l w item r
  pub elsewhere : (l : Layout) (w : World) (item : Item) (r : InputRelocation) (f : Formula) → formula_of l.machine r.number ≡ Some f → (IsPlaceRelative f.value → ⊥) → (IsSet item.flags shf_execinstr → ⊥) → MustHold l w item r

-- A reference does not refer only to the output's own symbol if:
-- - its symbol is not replaceable, or it has none;
-- - its expression has neither the symbol's address nor its offset, such as the distance to a slot or a stub;
-- - its field is left to a loader, or the address is that of a stub;
-- - it is a conditional branch through a stub.
pub record FewUseOwnSymbolOnly : Type 0 where
  pub own : (l : Layout) (item : Item) (r : InputRelocation) (i : ℕ) → r.symbol ≡ Some i → IsReplaceable l i false → UsesOwnSymbolOnly l item r → ⊥
  pub unnamed : (l : Layout) (item : Item) (r : InputRelocation) → r.symbol ≡ None → UsesOwnSymbolOnly l item r → ⊥
  pub valued : (l : Layout) (item : Item) (r : InputRelocation) (f : Formula) → formula_of l.machine r.number ≡ Some f → (TakesOffset f.value → ⊥) → (TakesAddress f.value → ⊥) → UsesOwnSymbolOnly l item r → ⊥
  pub left : (l : Layout) (item : Item) (r : InputRelocation) (i : ℕ) (f : Formula) → r.symbol ≡ Some i → formula_of l.machine r.number ≡ Some f → IsFilledByLoader l item i f → UsesOwnSymbolOnly l item r → ⊥
  pub stubbed : (l : Layout) (item : Item) (r : InputRelocation) (i : ℕ) (f : Formula) → r.symbol ≡ Some i → formula_of l.machine r.number ≡ Some f → (TakesOffset f.value → ⊥) → HasStubAddress l i → UsesOwnSymbolOnly l item r → ⊥
  pub branched : (l : Layout) (item : Item) (r : InputRelocation) → BranchesThroughStub l item r → UsesOwnSymbolOnly l item r → ⊥

-- Each loaded, allocated input section without data is checked for zeros, unless it is thread-local, at every address after the
-- file bytes of a loaded segment.
pub record ZerosAreChecked : Type 0 where
  pub sections : (l : Layout) (s : InputSection) → IsInput l s → s.slot ≡ slot.Loaded → allocated s.flags ≡ true → thread_local s.flags ≡ false → s.nobits ≡ true → IsSectionWithoutData l s
  pub behind : (l : Layout) (g : Segment) (a : ℕ) → Contains l.segments g → g.kind ≡ pt_load → g.address + g.file_size ≤ a → a < g.address + g.mem_size → IsPastFileBytes l a
