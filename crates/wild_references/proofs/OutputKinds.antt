-- Kinds of outputs, as the writer tells them and as the reader does.
use Rattle.wild_references.proofs.Common.{◌≡◌, ◌⊎◌, inl, inr, false, refl, OutputKind, is_shared_object, is_library, IsLoadable, IsExecutable}
use Rattle.wild_types.specs.declared.kind.OutputKind.TheVariants as output

pub library_is : (k : OutputKind) → is_library k ≡ is_shared_object k
library_is (output.StaticExecutable any) = refl
library_is (output.DynamicExecutable any) = refl
library_is output.SharedObject = refl
library_is output.PartialObject = refl

pub no_library : (k : OutputKind) → IsExecutable k → is_library k ≡ false
no_library (output.StaticExecutable any) h = refl
no_library (output.DynamicExecutable any) h = refl
no_library output.SharedObject h = absurd h
no_library output.PartialObject h = absurd h

-- what is loaded is a program, or a library
pub loadable_cases : (k : OutputKind) → IsLoadable k → IsExecutable k ⊎ (k ≡ output.SharedObject)
loadable_cases (output.StaticExecutable any) h = inl tt
loadable_cases (output.DynamicExecutable any) h = inl tt
loadable_cases output.SharedObject h = inr refl
loadable_cases output.PartialObject (inl h) = absurd h
loadable_cases output.PartialObject (inr h) = absurd h

pub loaded_program : (k : OutputKind) → IsLoadable k → is_shared_object k ≡ false → IsExecutable k
loaded_program (output.StaticExecutable any) h e = tt
loaded_program (output.DynamicExecutable any) h e = tt
loaded_program output.SharedObject h e = cc
loaded_program output.PartialObject (inl h) e = absurd h
loaded_program output.PartialObject (inr h) e = absurd h
