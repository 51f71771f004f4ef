-- What kinds of output are, as their tests say.
use Rattle.wild_loaded.proofs.Common.{◌≡◌, true, false, refl, needs_dynamic, is_fixed_static, is_partial_link}
use Rattle.wild_types.specs.declared.kind.OutputKind.{OutputKind}
use Rattle.wild_types.specs.declared.kind.OutputKind.TheVariants as output

-- an output with a dynamic section is no relocatable object
pub dynamic_whole : (k : OutputKind) → needs_dynamic k ≡ true → is_partial_link k ≡ false
dynamic_whole output.PartialObject h = cc
dynamic_whole k h = refl

-- nor is a fixed one without
pub fixed_whole : (k : OutputKind) → is_fixed_static k ≡ true → is_partial_link k ≡ false
fixed_whole output.PartialObject h = cc
fixed_whole k h = refl
