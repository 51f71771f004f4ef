use Rattle.std.proofs.Common.{ap, ◌∙◌}
use Rattle.wild_relax.specs.declared.reference.RelocationInfo.{RelocationInfo}
use Rattle.wild_relax.specs.Question.{question}
use Rattle.wild_relax.specs.FirstRow.{first_standing}
use Rattle.wild_relax.specs.RowsAArch64.{applies_aarch64, rows_with_aarch64}
use Rattle.wild_relax.proofs.RowsAArch64Lemmas.{standing_is}
use Rattle.wild_relax.proofs.rows_aarch64.first_row.Goals as goal

pub returns : goal.returns
returns c =
    let q = question c.args.reference.now in
    c.first_of.ensures ∙ ap (first_standing (applies_aarch64 q)) (c.rows_with_aarch64.ensures ∙ ap (λ (r : RelocationInfo). rows_with_aarch64 r.number) c.relocation.ensures) ∙ standing_is q
