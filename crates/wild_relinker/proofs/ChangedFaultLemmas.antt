-- The faults of a changed layout, by what is checked.
use Rattle.std.proofs.Common.{◌≡◌, ℕ, List, [], ◌++◌, Ok, sym, ap, ◌∙◌, subst}
use Rattle.wild_types.specs.declared.fault.Error.{Error}
use Rattle.wild_types.specs.declared.input.InputSection.{InputSection}
use Rattle.wild_types.specs.declared.file.File.{File}
use Rattle.wild_types.specs.declared.file.Group.{Group}
use Rattle.wild_types.specs.declared.layout.Layout.{Layout}
use Rattle.wild_types.specs.Faults.{Refuses}
use Rattle.wild_words.proofs.ListLemmas.{nil_parts}
use Rattle.wild_plan_rules.specs.WellFormed.{first_clause}
use Rattle.wild_layout.specs.Faults.{clause_errors, flat_map_from, part_errors, group_errors, errors}
use Rattle.wild_layout.proofs.FaultLemmas.{clause_holds}
use Rattle.wild_sections.proofs.FaultLemmas.{Refuses-front}
use Rattle.wild_outlines.specs.RefusalLaws.{changed_clause, changed_shares}
use Rattle.wild_relinker.specs.Changed.{HasFaultsOf}

-- a fault of the clauses or the shares that were checked is the layout's first
pub check_refused : (l : Layout) (i : ℕ) (g : Group) (f : File) (s : InputSection) (e : Error) → HasFaultsOf l i g f s → Refuses e (clause_errors (changed_clause l i f s) ++ changed_shares l i g) → Refuses e (errors l)
check_refused l i g f s e h refused =
    subst (λ (es : List Error). Refuses e es) (sym h.errors) (Refuses-front e (clause_errors (changed_clause l i f s) ++ changed_shares l i g) (group_errors l i g) refused)

-- if the check finds none, all clauses hold and all shares are correct, and the faults are those of the group
pub clauses_hold : (l : Layout) (i : ℕ) (g : Group) (f : File) (s : InputSection) → HasFaultsOf l i g f s → clause_errors (changed_clause l i f s) ++ changed_shares l i g ≡ [] → first_clause l ≡ Ok tt
clauses_hold l i g f s h none = h.clause ∙ clause_holds (changed_clause l i f s) (nil_parts (clause_errors (changed_clause l i f s)) (changed_shares l i g) none).0

pub shares_hold : (l : Layout) (i : ℕ) (g : Group) (f : File) (s : InputSection) → HasFaultsOf l i g f s → clause_errors (changed_clause l i f s) ++ changed_shares l i g ≡ [] → flat_map_from (part_errors l) 0 l.parts ≡ []
shares_hold l i g f s h none = h.shares ∙ (nil_parts (clause_errors (changed_clause l i f s)) (changed_shares l i g) none).1

pub errors-of_group : (l : Layout) (i : ℕ) (g : Group) (f : File) (s : InputSection) → HasFaultsOf l i g f s → clause_errors (changed_clause l i f s) ++ changed_shares l i g ≡ [] → errors l ≡ group_errors l i g
errors-of_group l i g f s h none = h.errors ∙ ap (λ (es : List Error). es ++ group_errors l i g) none
