use Rattle.std.specs.Prelude.{◌≡◌, IsSome, Some}
use Rattle.std.proofs.Common.{sym, subst, ap, ◌∙◌, refl}
use Rattle.wild_relax.specs.RewriteX86_64.{going, type_row, or_nothing}
use Rattle.wild_relax.proofs.RewriteLemmas.{typed}
use Rattle.wild_relax.proofs.row.Row.row_written.Goals as goal

pub unwrap-requires : goal.unwrap-requires
unwrap-requires c = subst IsSome (sym (c.type_row.ensures ∙ typed c.args.self.written)) refl

pub returns : goal.returns
returns c =
    let same : Some c.unwrap.result ≡ Some (or_nothing (type_row c.args.self.written)) = sym c.unwrap.ensures ∙ (c.type_row.ensures ∙ typed c.args.self.written) in
    let info : c.unwrap.result ≡ or_nothing (type_row c.args.self.written) = cc in
    c.going.ensures ∙ ap (going c.args.self.written) info
