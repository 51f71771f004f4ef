use Rattle.std.proofs.Common.{ap, ◌∙◌}
use Rattle.wild_relax.specs.declared.reference.RelocationInfo.{RelocationInfo}
use Rattle.wild_relax.specs.Question.{question}
use Rattle.wild_relax.specs.FirstRow.{first_standing}
use Rattle.wild_relax.specs.Rows.{applies}
use Rattle.wild_relax.specs.RowsOfType.{rows_with}
use Rattle.wild_relax.proofs.NumberLemmas.{standing_is}
use Rattle.wild_relax.proofs.row.first_row.Goals as goal

pub returns : goal.returns
returns c =
    let q = question c.args.reference.now in
    c.first_of.ensures ∙ ap (first_standing (applies q)) (c.rows_with.ensures ∙ ap (λ (r : RelocationInfo). rows_with r.number) c.relocation.ensures) ∙ standing_is q
