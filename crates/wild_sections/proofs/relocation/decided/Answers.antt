use Rattle.std.proofs.Common.{◌≡◌, refl, ap, sym, ◌∙◌}
use Rattle.std.specs.Prelude.{Some}
use Rattle.wild_types.specs.declared.kind.Machine.{Machine}
use Rattle.wild_types.specs.Rows.{row_of}
use Rattle.wild_types.specs.Item.{item_now}
use Rattle.wild_sections.proofs.DistanceLemmas.{fixed_decided}
use Rattle.wild_sections.proofs.relocation.decided.Goals as goal

pub returns-in-Some : goal.returns-in-Some
returns-in-Some g c =
    let known : row_of c.args.resolved.now.layout.now.machine c.args.relocation.now.number ≡ Some c.in-Some.found = ap (λ (m : Machine). row_of m c.args.relocation.now.number) c.args.resolved.now.machine ∙ sym c.relocation_from_raw-row.ensures ∙ c.in-Some.is in
    c.distance_for.ensures ∙ fixed_decided c.args.resolved.now.layout.now (item_now c.args.item.now) c.args.relocation.now c.in-Some.found known (c.if-is_fixed_distance.ensures.kind refl) (c.if-is_fixed_distance.ensures.machine refl) (c.if-is_fixed_distance.ensures.fixed refl)
