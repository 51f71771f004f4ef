-- The file types of outputs that are loaded.
use Rattle.wild_loaded.proofs.Common.{◌≡◌, ◌^◌, ◌<◌, ◌⊎◌, inl, inr, true, false, refl, arith, needs_dynamic, is_fixed_static, IsLoadable}
use Rattle.wild_records.specs.Abi.Header.{et_exec, et_dyn}
use Rattle.wild_types.specs.declared.kind.RelocationModel.TheVariants as model
use Rattle.wild_types.specs.declared.kind.OutputKind.{OutputKind}
use Rattle.wild_types.specs.declared.kind.OutputKind.TheVariants as output
use Rattle.wild_table_formats.specs.Headers.{file_type}
use Rattle.wild_meaning.specs.World.{IsFixed, IsMovable}

pub kind_fits : (k : OutputKind) → IsFixed k → file_type k ≡ et_exec
kind_fits (output.StaticExecutable model.NonRelocatable) h = refl
kind_fits (output.DynamicExecutable model.NonRelocatable) h = refl
kind_fits (output.StaticExecutable model.Relocatable) h = absurd h
kind_fits (output.DynamicExecutable model.Relocatable) h = absurd h
kind_fits output.SharedObject h = absurd h
kind_fits output.PartialObject h = absurd h

pub movable_type : (k : OutputKind) → IsMovable k → file_type k ≡ et_dyn
movable_type (output.StaticExecutable model.Relocatable) h = refl
movable_type (output.DynamicExecutable model.Relocatable) h = refl
movable_type output.SharedObject h = refl
movable_type other h = absurd h

-- the file of an output that is loaded is one that a loader takes
pub type_known : (k : OutputKind) → IsLoadable k → (file_type k ≡ et_exec) ⊎ (file_type k ≡ et_dyn)
type_known k (inl fixed) = inl (kind_fits k fixed)
type_known k (inr moves) = inr (movable_type k moves)

pub type_fits : (k : OutputKind) → IsLoadable k → file_type k < 2 ^ 16
type_fits k h =
    elim (type_known k h) [
      | inl e ↦ omega (arith, e)
      | inr e ↦ omega (arith, e)
    ]

-- an output without a dynamic section is a fixed static one
pub plain_fixed : (k : OutputKind) → IsLoadable k → needs_dynamic k ≡ false → is_fixed_static k ≡ true
plain_fixed (output.StaticExecutable model.NonRelocatable) h e = refl
plain_fixed (output.StaticExecutable model.Relocatable) h e = cc
plain_fixed (output.DynamicExecutable any) h e = cc
plain_fixed output.SharedObject h e = cc
plain_fixed output.PartialObject (inl h) e = absurd h
plain_fixed output.PartialObject (inr h) e = absurd h
