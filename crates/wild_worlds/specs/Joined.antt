-- The premises of the headline can be met together.
--   HasCall l            a kept item of the layout calls a function
--   IsJoined l           the layout has no faults, a legal world at a base other than 0, and such a call, which holds there
--   HasNote l            an image only for debuggers has a note with a reference that is checked, and with one that is left out
--   HasOmittedSection l          of a section that a program would load, it has only the header
--   IsJoinedForDebuggers l   the same for such a layout, and for a reference in a note, whose field has only one right value
--   HasManySorts l           sections, symbols and slots of several sorts
--   IsLinkedElsewhere l      the image is linked in a legal world at a base other than 0
--   IsLinkedWithCopy l       the same, in a world where the loader copies bytes into the output
--   PremisesAreJoined    this is so for a layout of each kind that can be loaded at any base, and for one only for debuggers
use Rattle.std.specs.Prelude.{◌≡◌, ◌≢◌, ℕ, ◌+◌, ◌≤◌, false, true, List, [], ◌∷◌, Some, Contains, slice_get}
use Rattle.wild_records.specs.Abi.Relocation.{r_x86_64_none}
use Rattle.wild_records.specs.Abi.Section.{sht_note, shf_alloc}
use Rattle.wild_types.specs.declared.kind.Machine.{Machine}
use Rattle.wild_types.specs.declared.kind.Machine.TheVariants as machine
use Rattle.wild_types.specs.declared.kind.RelocationModel.TheVariants as model
use Rattle.wild_types.specs.declared.kind.OutputKind.{OutputKind}
use Rattle.wild_types.specs.declared.kind.OutputKind.TheVariants as output
use Rattle.wild_types.specs.declared.part.Part.{Part}
use Rattle.wild_types.specs.declared.section.Section.{Section}
use Rattle.wild_types.specs.declared.input.InputRelocation.{InputRelocation}
use Rattle.wild_types.specs.declared.input.InputSection.{InputSection}
use Rattle.wild_types.specs.declared.input.Slot.TheVariants as slot
use Rattle.wild_types.specs.declared.layout.Layout.{Layout}
use Rattle.wild_types.specs.declared.layout.Merged.{Merged}
use Rattle.wild_types.specs.Flags.{ifunc, got_tls_offset}
use Rattle.wild_layout.specs.Faults.{errors}
use Rattle.wild_layout.specs.Image.{bytes}
use Rattle.wild_loader.specs.declared.world.World.{World}
use Rattle.wild_loader.specs.declared.world.Answer.{Answer}
use Rattle.wild_loader.specs.Memory.{Holds, number_in}
use Rattle.wild_meaning.specs.Section.{IsSet, IsForDebuggers, IsHeaderOnly}
use Rattle.wild_meaning.specs.World.{HasCopy, IsLegal}
use Rattle.wild_meaning.specs.Value.{HasFlag}
use Rattle.wild_meaning.specs.Frames.{kept_bytes}
use Rattle.wild_types.specs.Item.{Item}
use Rattle.wild_meaning.specs.Item.{IsInput, IsLoadedSlot, IsKept, IsKeptSection, IsReference, placed_item, place_at}
use Rattle.wild_meaning.specs.Sequence.{Sort, Target, TargetInSlot, Instruction}
use Rattle.wild_meaning.specs.Template.{IsTemplate}
use Rattle.wild_meaning.specs.Reference.{IsCheckedAtZeroOnly, UsesOwnSymbolOnly, IsOmitted, ReferenceHolds}
use Rattle.wild_meaning.specs.LinkedImage.{DescribesOutput, IsLinked}
use Rattle.wild_meaning.specs.Worked.Builders.{Refuses}
use Rattle.wild_meaning.specs.Worked.Refusals.{HasWrongNumber}

-- how an instruction calls or jumps: on x86-64 through the slot that it names, on AArch64 by the distance in its word
abbrev pub IsCallSort : Machine → Sort → Type 0
IsCallSort machine.X86_64 sort = sort ≡ TargetInSlot
IsCallSort machine.AArch64 sort = sort ≡ Target

-- a reference of a kept item that is not excepted and does not refer only to the output's own symbol, and its instruction, which
-- calls or jumps in this way
pub record HasCall (l : Layout) : Type 0 where
  pub item : Item
  pub kept : IsKept l item
  pub reference : InputRelocation
  pub refers : IsReference item reference
  pub ordinary : IsCheckedAtZeroOnly l item reference → ⊥
  pub followed : UsesOwnSymbolOnly l item reference → ⊥
  pub start : ℕ
  pub instruction : Instruction
  pub template : IsTemplate l item reference start instruction reference
  pub goes : IsCallSort l.machine instruction.sort

-- all of this for one layout: a legal world at a base other than 0, in which the layout's image is linked, and the reference
-- holds
pub record IsJoined (l : Layout) : Type 0 where
  pub faultless : errors l ≡ []
  pub world : World
  pub elsewhere : world.base ≢ 0
  pub legal : IsLegal l world
  pub described : DescribesOutput l (bytes l)
  pub linked : IsLinked l world (bytes l)
  pub call : HasCall l
  pub holds : ReferenceHolds l world linked.memory call.item call.reference

-- ---- an image only for debuggers

-- the input section is in a section of notes that has memory (gABI, "Sections": SHT_NOTE)
pub record IsOfNotes (l : Layout) (s : InputSection) : Type 0 where
  pub part : Part
  pub listed : slice_get l.parts s.part ≡ Some part
  pub section : Section
  pub found : slice_get l.sections part.section ≡ Some section
  pub room : IsSet section.flags shf_alloc
  pub kind : section.kind ≡ sht_note

-- A kept item of notes with two references. One is not excepted, does not refer only to the output's own symbol and is not left
-- out; the other is left out.
pub record HasNote (l : Layout) : Type 0 where
  pub section : InputSection
  pub kept : IsKeptSection l section
  pub notes : IsOfNotes l section
  pub item : Item
  pub is : item ≡ placed_item l kept.input.file section
  pub reference : InputRelocation
  pub refers : IsReference item reference
  pub ordinary : IsCheckedAtZeroOnly l item reference → ⊥
  pub followed : UsesOwnSymbolOnly l item reference → ⊥
  pub there : IsOmitted l item reference → ⊥
  pub other : InputRelocation
  pub other_refers : IsReference item other
  pub left : IsOmitted l item other

-- an input section with data that a program would load, of which only the header is written; and a relocation of it, which
-- belongs to no kept item
pub record HasOmittedSection (l : Layout) : Type 0 where
  pub section : InputSection
  pub input : IsInput l section
  pub loaded : IsLoadedSlot section.slot
  pub room : IsSet section.flags shf_alloc
  pub has_data : section.nobits ≡ false
  pub part : Part
  pub listed : slice_get l.parts section.part ≡ Some part
  pub header_only : IsHeaderOnly l part
  pub reference : InputRelocation
  pub has : Contains section.relocations reference
  pub refers : reference.number ≢ r_x86_64_none
  pub unasked : (item : Item) → IsKept l item → IsReference item reference → ⊥

-- All of this for one layout only for debuggers: the note's reference holds, and its field of four bytes is a number. No image of
-- the layout is linked in that world if the field is another number.
pub record IsJoinedForDebuggers (l : Layout) : Type 0 where
  pub bare : IsForDebuggers l
  pub faultless : errors l ≡ []
  pub world : World
  pub elsewhere : world.base ≢ 0
  pub legal : IsLegal l world
  pub described : DescribesOutput l (bytes l)
  pub linked : IsLinked l world (bytes l)
  pub note : HasNote l
  pub holds : ReferenceHolds l world linked.memory note.item note.reference
  pub number : ℕ
  pub reads : number_in linked.memory (place_at world note.item note.reference.offset) 4 ≡ Some number
  pub refused : Refuses l world (HasWrongNumber (place_at world note.item note.reference.offset) 4 number)
  pub header_only : HasOmittedSection l

-- ---- a layout with much in it

-- the layout has a function that a resolver chooses, thread-local data with a slot, a merged string, a section that is placed in a
-- given order, and a section of frames, of which bytes are kept
pub record HasManySorts (l : Layout) : Type 0 where
  pub resolver : ℕ
  pub resolved : HasFlag l resolver ifunc true
  pub thread : ℕ
  pub slotted : HasFlag l thread got_tls_offset true
  pub merged : Merged
  pub strings : Contains l.merged merged
  pub sorted : InputSection
  pub placed : IsInput l sorted
  pub order : sorted.slot ≡ slot.Sorted
  pub frames : InputSection
  pub framed : IsInput l frames
  pub frame : frames.slot ≡ slot.Frame
  pub kept : 1 ≤ kept_bytes l frames

-- the layout has no faults, and a legal world at a base other than 0 in which its image is linked
pub record IsLinkedElsewhere (l : Layout) : Type 0 where
  pub faultless : errors l ≡ []
  pub world : World
  pub elsewhere : world.base ≢ 0
  pub legal : IsLegal l world
  pub described : DescribesOutput l (bytes l)
  pub linked : IsLinked l world (bytes l)

-- Also, in that world the loader copies a library's bytes to the address of a symbol. The first one is not 0. Memory has them.
pub record IsLinkedWithCopy (l : Layout) : Type 0 where
  pub elsewhere : IsLinkedElsewhere l
  pub symbol : ℕ
  pub address : ℕ
  pub answer : Answer
  pub copied : HasCopy l elsewhere.world symbol address answer
  pub first : ℕ
  pub rest : List ℕ
  pub bytes : answer.bytes ≡ first ∷ rest
  pub nonzero : first ≢ 0
  pub held : Holds elsewhere.linked.memory (elsewhere.world.base + address) answer.bytes

-- ---- the layouts

-- a layout with a copied symbol, of a kind, for a machine
abbrev pub IsMetWithCopy : Machine → OutputKind → Type 0
IsMetWithCopy machine kind = (l : Layout) × (l.machine ≡ machine) × (l.kind ≡ kind) × IsLinkedWithCopy l

-- a layout with much in it, of a kind, for a machine
abbrev pub IsMetWithMany : Machine → OutputKind → Type 0
IsMetWithMany machine kind = (l : Layout) × (l.machine ≡ machine) × (l.kind ≡ kind) × HasManySorts l × IsLinkedElsewhere l

-- a layout of a kind, for a machine
abbrev pub IsMet : Machine → OutputKind → Type 0
IsMet machine kind = (l : Layout) × (l.machine ≡ machine) × (l.kind ≡ kind) × IsJoined l

-- a layout only for debuggers, of a kind, for a machine
abbrev pub IsMetForDebuggers : Machine → OutputKind → Type 0
IsMetForDebuggers machine kind = (l : Layout) × (l.machine ≡ machine) × (l.kind ≡ kind) × IsJoinedForDebuggers l

-- a program without a dynamic linker, one with it, and a shared object, for either machine; the debuggers' image of a program without
-- a dynamic linker; such a program with much in it; and one with a dynamic linker and a copied symbol
pub record PremisesAreJoined : Type 0 where
  pub static_pie : IsMet machine.X86_64 (output.StaticExecutable model.Relocatable)
  pub dynamic_pie : IsMet machine.X86_64 (output.DynamicExecutable model.Relocatable)
  pub shared : IsMet machine.X86_64 output.SharedObject
  pub words_static_pie : IsMet machine.AArch64 (output.StaticExecutable model.Relocatable)
  pub words : IsMet machine.AArch64 (output.DynamicExecutable model.Relocatable)
  pub words_shared : IsMet machine.AArch64 output.SharedObject
  pub for_debuggers : IsMetForDebuggers machine.X86_64 (output.StaticExecutable model.Relocatable)
  pub mixed : IsMetWithMany machine.X86_64 (output.StaticExecutable model.Relocatable)
  pub copying : IsMetWithCopy machine.X86_64 (output.DynamicExecutable model.Relocatable)
