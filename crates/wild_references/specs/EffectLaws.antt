-- Instructions in memory, kept or rewritten: the conditions for each reference of a section to hold, beyond its fields.
--   WindowsHaveNoOtherField      no other relocation has a field among the bytes of an instruction that is rewritten
--   RewrittenAreInstructions       a rewritten instruction is one that the judge knows, with all of its bytes
--   RewrittenHold        the code written in place of an instruction has the effect that it requires
--   PartnersHold         the same for the call of a sequence
--   RewrittenAreFollowed no rewritten instruction refers only to the output's own symbol
--   InstructionsAreKept  an instruction that is not rewritten has its own bytes
--   SequencesAreKept     either all relocations of a sequence keep it, or none does
--   KeptInstructionsDo   a kept instruction has the effect that it requires
--   OthersAreKept        every byte outside all fields and instructions is the input's
--   ItemsHold            all of this together
use Rattle.std.specs.Prelude.{◌≡◌, ℕ, ◌+◌, ◌<◌, ◌≤◌, ◌⊎◌, ◌∷◌, length, Some, Contains}
use Rattle.wild_types.specs.declared.kind.Machine.{Machine}
use Rattle.wild_types.specs.declared.input.InputRelocation.{InputRelocation}
use Rattle.wild_types.specs.declared.layout.Layout.{Layout}
use Rattle.wild_reloc.specs.Formula.{Formula}
use Rattle.wild_relax.specs.declared.row.Row.{Row}
use Rattle.wild_relax.specs.LinkedPattern.{pattern_size}
use Rattle.wild_layout.specs.declared.decision.Decision.{Decision}
use Rattle.wild_layout.specs.declared.decision.Decision.TheVariants.{Rewritten, Partner}
use Rattle.wild_layout.specs.Sites.{template_start}
use Rattle.wild_geometry.specs.Loaded.{IsDecided, HasDecision}
use Rattle.wild_references.specs.Laws.{KeepsInstruction, IsKeptReference, FieldsHold, IsLoadedItem}
use Rattle.wild_loader.specs.declared.memory.Memory.{Memory}
use Rattle.wild_loader.specs.declared.world.World.{World}
use Rattle.wild_types.specs.Item.{Item}
use Rattle.wild_meaning.specs.Field.{formula_of, form_width, IsInputByte}
use Rattle.wild_meaning.specs.Sequence.{Instruction, size_of, IsOwnByte}
use Rattle.wild_meaning.specs.Template.{IsOfSequence, IsTemplate, reads, DoesDemanded}
use Rattle.wild_meaning.specs.Reference.{MustHold, UsesOwnSymbolOnly, IsOmitted, HoldsRewritten, HoldsWithSequence, IsOutsideReferences, ItemHolds}

-- byte k is not in the relocation's field
abbrev pub IsOutsideField : Layout → InputRelocation → ℕ → Type 0
IsOutsideField l r k = (f : Formula) → formula_of l.machine r.number ≡ Some f → (k < r.offset) ⊎ (r.offset + form_width f.form ≤ k)

-- no relocation other than that of the sequence's own call has a field among the bytes of a rewritten instruction
abbrev pub WindowsHaveNoOtherField : Type 0
WindowsHaveNoOtherField = (l : Layout) (s : Item) → IsDecided l s → (i j : ℕ) (r q : InputRelocation) (row : Row) (v : ℕ) (d : Decision) → HasDecision l s i r (Rewritten row v) → HasDecision l s j q d → (i ≡ j → ⊥) → (j ≡ i + 1 → d ≡ Partner → ⊥)
    → (k : ℕ) → template_start row r ≤ k → k < template_start row r + pattern_size row → IsOutsideField l q k

-- An instruction that the judge knows covers the `size` bytes from a start on, and the reference belongs to it. It may start
-- earlier, with a longer prefix that the judge knows.
pub record IsLocatedAt (l : Layout) (item : Item) (r : InputRelocation) (start size : ℕ) : Type 0 where
  pub from : ℕ
  pub instruction : Instruction
  pub first : InputRelocation
  pub template : IsTemplate l item r from instruction first
  pub before : from ≤ start
  pub behind : start + size ≤ from + size_of instruction

-- all rewritten bytes are those of an instruction that the judge knows
abbrev pub RewrittenAreInstructions : Type 0
RewrittenAreInstructions = (machine : Machine) (l : Layout) (w : World) (m : Memory) (s : Item) → IsLoadedItem machine l w m s → (i : ℕ) (r : InputRelocation) (row : Row) (v : ℕ) → HasDecision l s i r (Rewritten row v) → IsLocatedAt l s r (template_start row r) (pattern_size row)

-- If an instruction is rewritten and its reference is not left out, the loaded code has the effect that the instruction requires,
-- at each base at which that is checked.
abbrev pub RewrittenHold : Type 0
RewrittenHold = (machine : Machine) (l : Layout) (w : World) (m : Memory) (s : Item) → IsLoadedItem machine l w m s → (i : ℕ) (r : InputRelocation) (row : Row) (v : ℕ) → HasDecision l s i r (Rewritten row v) → (IsOmitted l s r → ⊥) → MustHold l w s r → HoldsRewritten l w m s r

-- the call of a rewritten sequence belongs to that sequence
abbrev pub PartnersHold : Type 0
PartnersHold = (machine : Machine) (l : Layout) (w : World) (m : Memory) (s : Item) → IsLoadedItem machine l w m s → (i : ℕ) (r : InputRelocation) → HasDecision l s i r Partner → (IsOmitted l s r → ⊥) → HoldsWithSequence l w m s r

-- The field of a rewritten instruction names a slot of the symbol, so it follows whichever module defines the symbol; or no other
-- module can define it.
abbrev pub RewrittenAreFollowed : Type 0
RewrittenAreFollowed = (l : Layout) (s : Item) (i : ℕ) (r : InputRelocation) (row : Row) (v : ℕ) → HasDecision l s i r (Rewritten row v) → UsesOwnSymbolOnly l s r → ⊥

-- an instruction whose reference keeps it has the input's bytes around its fields, whatever is rewritten near it
abbrev pub InstructionsAreKept : Type 0
InstructionsAreKept = (machine : Machine) (l : Layout) (w : World) (m : Memory) (s : Item) → IsLoadedItem machine l w m s → (i : ℕ) (r : InputRelocation) (d : Decision) → HasDecision l s i r d → KeepsInstruction d
    → (start : ℕ) (o : Instruction) (first : InputRelocation) → IsTemplate l s r start o first → (k : ℕ) → IsOwnByte o k → IsInputByte w m s (start + k)

-- a relocation of the item refers to a symbol or value, and keeps its instruction
pub record IsKeptAt (l : Layout) (s : Item) (r : InputRelocation) : Type 0 where
  pub index : ℕ
  pub kept : IsKeptReference l s index r

-- if one relocation of a sequence keeps it, each does
abbrev pub SequencesAreKept : Type 0
SequencesAreKept = (machine : Machine) (l : Layout) (w : World) (m : Memory) (s : Item) → IsLoadedItem machine l w m s → (i : ℕ) (r : InputRelocation) → IsKeptReference l s i r
    → (start : ℕ) (o : Instruction) (first : InputRelocation) → (t : IsOfSequence l s r start o first) → (p : InputRelocation) → Contains (first ∷ t.rest) p → IsKeptAt l s p

-- every byte outside all fields and instructions of references is the input's
abbrev pub OthersAreKept : Type 0
OthersAreKept = (machine : Machine) (l : Layout) (w : World) (m : Memory) (s : Item) → IsLoadedItem machine l w m s → (k : ℕ) → k < length s.bytes → IsOutsideReferences l s k → IsInputByte w m s k

-- a kept instruction whose fields have their formulas' values has the effect that it requires
abbrev pub KeptInstructionsDo : Type 0
KeptInstructionsDo = (machine : Machine) (l : Layout) (w : World) (m : Memory) (s : Item) → IsLoadedItem machine l w m s → FieldsHold l w m s → (i : ℕ) (r : InputRelocation) → IsKeptReference l s i r → (IsOmitted l s r → ⊥) → MustHold l w s r → (UsesOwnSymbolOnly l s r → ⊥)
    → (start : ℕ) (o : Instruction) (first : InputRelocation) → IsTemplate l s r start o first → DoesDemanded (reads w m) l w m s first start o

-- each reference of a loaded section holds, its instruction has the required effect, and other bytes are the input's
abbrev pub ItemsHold : Type 0
ItemsHold = (machine : Machine) (l : Layout) (w : World) (m : Memory) (s : Item) → IsLoadedItem machine l w m s → FieldsHold l w m s → ItemHolds l w m s
