-- What sections, kinds of output and rows are, as their tests say.
use Rattle.std.proofs.Common.{◌≡◌, true, false, refl, ℕ, Bool, ◌&&◌, if◌then◌else◌}
use Rattle.std.specs.Prelude.{Option, Some, None, slice_get, not, ◌==◌}
use Rattle.wild_reloc.specs.TableX86_64.{x86_64_row}
use Rattle.wild_reloc.specs.declared.info.RelocationKindInfo.{RelocationKindInfo}
use Rattle.wild_types.specs.declared.input.Slot.{Slot}
use Rattle.wild_types.specs.declared.input.InputSection.{InputSection}
use Rattle.wild_types.specs.declared.input.Slot.TheVariants as slot
use Rattle.wild_types.specs.declared.layout.Layout.{Layout}
use Rattle.wild_types.specs.declared.part.Role.{Role}
use Rattle.wild_types.specs.declared.part.Role.TheVariants as role
use Rattle.wild_types.specs.declared.section.Section.{Section}
use Rattle.wild_types.specs.HeaderOnly.{is_header_only_role, is_omitted, KeepsAll}
use Rattle.wild_types.specs.Lookups.{is_read, is_loaded, has_relocations, is_frame, section_of, section_of_part, is_header_only, header_only, is_header_only_at, is_header_only_part}
use Rattle.wild_types.specs.Parts.{part_with}
use Rattle.wild_types.specs.declared.kind.OutputKind.{OutputKind}
use Rattle.wild_types.specs.Kinds.{is_position_independent, needs_dynamic}
use Rattle.wild_types.specs.declared.kind.RelocationModel.TheVariants as model
use Rattle.wild_types.specs.declared.kind.OutputKind.TheVariants as output
use Rattle.wild_types.specs.declared.kind.Machine.{Machine}
use Rattle.wild_types.specs.Rows.{row_of}
use Rattle.wild_types.specs.declared.kind.Machine.TheVariants as machine

loaded_reads : (at : Slot) → is_loaded at ≡ true → has_relocations at ≡ true
loaded_reads slot.Loaded e = refl
loaded_reads slot.Frame e = refl
loaded_reads other e = e

-- a section in a slot that is loaded is read, where it has bytes
pub read_if : (s : InputSection) (at : Slot) → s.slot ≡ at → is_loaded at ≡ true → s.nobits ≡ false → is_read s ≡ true
read_if s at e t n = rw (e, loaded_reads at t, n) refl

-- an output without a dynamic section does not move
pub plain_still : (k : OutputKind) → needs_dynamic k ≡ false → is_position_independent k ≡ false
plain_still (output.StaticExecutable model.NonRelocatable) e = refl
plain_still (output.StaticExecutable model.Relocatable) e = cc
plain_still (output.DynamicExecutable any) e = cc
plain_still output.SharedObject e = cc
plain_still output.PartialObject e = refl

-- the row of a number, where the machine is known
pub row_here : (m : Machine) (n : ℕ) (info : RelocationKindInfo) → m ≡ machine.X86_64 → row_of m n ≡ Some info → x86_64_row n ≡ Some info
unfolding row_of
row_here machine.AArch64 n info is h = cc
row_here machine.X86_64 n info is h = h

-- ---- where all is written

pub not_hollow : (l : Layout) (s : Section) → KeepsAll l → is_header_only l s ≡ false
not_hollow l s h = rw h refl

pub not_hollow_at : (l : Layout) (k : ℕ) → KeepsAll l → is_header_only_at l k ≡ false
not_hollow_at l k h = by (not (k == 0)) (slice_get l.sections k)
  where
    by : (b : Bool) (s : Option Section) → (b && header_only l s) ≡ false
    by false s = refl
    by true None = refl
    by true (Some s) = not_hollow l s h

pub not_hollow_part : (l : Layout) (part : ℕ) → KeepsAll l → is_header_only_part l part ≡ false
not_hollow_part l part h = not_hollow_at l (section_of l part) h

pub not_hollow_role : (l : Layout) (r : Role) → KeepsAll l → is_header_only_role l r ≡ false
not_hollow_role l r h = not_hollow_at l (section_of_part (part_with r l.parts)) h

pub not_dropped : (l : Layout) (s : InputSection) → KeepsAll l → is_omitted l s ≡ false
not_dropped l s h = by (is_frame s.slot) (not_hollow_role l role.EhFrame h) (not_hollow_part l s.part h)
  where
    by : (b : Bool) → is_header_only_role l role.EhFrame ≡ false → is_header_only_part l s.part ≡ false → (if b then is_header_only_role l role.EhFrame else is_header_only_part l s.part) ≡ false
    by true e f = e
    by false e f = f
