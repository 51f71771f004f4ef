-- The text for bytes that are no plan.
use Rattle.wild_program.proofs.Common.{ℕ, List, Some, Result, Err, string_bytes, sym, ap, Data, no_json, no_plan}
use Rattle.wild_text.specs.declared.fault.InputFault.{InputFault}
use Rattle.wild_text.specs.declared.fault.InputFault.TheVariants as faults
use Rattle.wild_text.specs.Means.{IsReadAs}
use Rattle.wild_program.specs.Steps.{HasNoPlan, IsFaultText}

-- the text of a fault says that the bytes are no plan
pub no_plan_for : {X : Type 0} (reads : Data → Result X (List ℕ)) (bytes : List ℕ) (fault : InputFault) (said : List ℕ) → IsReadAs reads bytes (Err fault) → IsFaultText fault said → HasNoPlan reads bytes said
no_plan_for reads bytes faults.NoJson said means text = record { meaning = no_json; means = means; line = ap Some (sym text) }
no_plan_for reads bytes (faults.At path) said means text = record { meaning = no_plan (string_bytes path); means = means; line = ap Some (sym text) }
no_plan_for reads bytes faults.OutOfMemory said means text = absurd text
