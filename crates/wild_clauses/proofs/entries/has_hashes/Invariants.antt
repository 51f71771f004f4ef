use Rattle.std.proofs.Common.{◌≡◌, drop}
use Rattle.std.specs.List.{list_any}
use Rattle.wild_types.specs.declared.part.Part.{Part}
use Rattle.wild_types.specs.Parts.{is_hash_role}
use Rattle.wild_clauses.proofs.entries.has_hashes.Given as goal

abbrev pub invariant-loop-part : goal.invariant-loop-part
invariant-loop-part l = list_any (λ (p : Part). is_hash_role p.role) (drop l.part-index l.part-items) ≡ list_any (λ (p : Part). is_hash_role p.role) l.part-items
