use Rattle.wild_geometry.proofs.Common.{◌++◌, first_clause, part_errors, flat_map_from}
use Rattle.wild_layout.specs.Faults.{clause_errors, group_errors, errors}
use Rattle.wild_layout.proofs.FaultLemmas.{clause_holds, first_empty, rest_empty}
use Rattle.wild_geometry.proofs.PlacedSectionLemmas.{AllClausesHold-from_clauses}
use Rattle.wild_geometry.proofs.CarriedLemmas.{EachPartIsLoaded-from_clauses}
use Rattle.wild_geometry.proofs.parts_are_loaded.Goals as goal

pub returns : goal.returns
unfolding errors
returns c = λ l none. (
    let clauses = clause_errors (first_clause l) in
    let shares = flat_map_from (part_errors l) 0 l.parts in
    let front = first_empty (clauses ++ shares) (flat_map_from (group_errors l) 0 l.groups) none in
    EachPartIsLoaded-from_clauses l (AllClausesHold-from_clauses l (clause_holds (first_clause l) (first_empty clauses shares front)) (rest_empty clauses shares front)))
