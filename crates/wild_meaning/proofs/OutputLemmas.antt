-- Kinds of output, as the judge and as the writer name them.
use Rattle.wild_meaning.proofs.Common.{◌≡◌, true, refl, inl, inr, false, OutputKind, IsExecutable}
use Rattle.wild_types.specs.Kinds.{is_executable, is_position_independent, is_partial_link}
use Rattle.wild_types.specs.declared.kind.OutputKind.TheVariants as output
use Rattle.wild_types.specs.declared.kind.RelocationModel.TheVariants as model
use Rattle.wild_meaning.specs.World.{IsFixed, IsLoadable, IsMovable}

pub executable_is : (k : OutputKind) → IsExecutable k → is_executable k ≡ true
executable_is (output.StaticExecutable any) h = refl
executable_is (output.DynamicExecutable any) h = refl
executable_is output.SharedObject h = absurd h
executable_is output.PartialObject h = absurd h

pub is_program : (k : OutputKind) → is_executable k ≡ true → IsExecutable k
is_program (output.StaticExecutable any) h = tt
is_program (output.DynamicExecutable any) h = tt
is_program output.SharedObject h = cc
is_program output.PartialObject h = cc

pub still_fixed : (k : OutputKind) → IsLoadable k → is_position_independent k ≡ false → IsFixed k
still_fixed (output.StaticExecutable model.NonRelocatable) h e = tt
still_fixed (output.StaticExecutable model.Relocatable) h e = cc
still_fixed (output.DynamicExecutable model.NonRelocatable) h e = tt
still_fixed (output.DynamicExecutable model.Relocatable) h e = cc
still_fixed output.SharedObject h e = cc
still_fixed output.PartialObject (inl h) e = absurd h
still_fixed output.PartialObject (inr h) e = absurd h

pub moving_movable : (k : OutputKind) → is_position_independent k ≡ true → IsMovable k
moving_movable (output.StaticExecutable model.Relocatable) e = tt
moving_movable (output.StaticExecutable model.NonRelocatable) e = cc
moving_movable (output.DynamicExecutable model.Relocatable) e = tt
moving_movable (output.DynamicExecutable model.NonRelocatable) e = cc
moving_movable output.SharedObject e = tt
moving_movable output.PartialObject e = cc

-- an output that is loaded is no relocatable object
pub not_partial : (k : OutputKind) → IsLoadable k → is_partial_link k ≡ false
not_partial output.PartialObject (inl h) = absurd h
not_partial output.PartialObject (inr h) = absurd h
not_partial k h = refl
