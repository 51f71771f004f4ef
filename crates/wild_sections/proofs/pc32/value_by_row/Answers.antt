use Rattle.std.proofs.Common.{◌≡◌, refl, ap, sym, ◌∙◌}
use Rattle.std.specs.Prelude.{Some}
use Rattle.wild_types.specs.declared.kind.Machine.{Machine}
use Rattle.wild_types.specs.Rows.{row_of}
use Rattle.wild_types.specs.Item.{item_now}
use Rattle.wild_sections.proofs.DistanceLemmas.{fixed_decided}
use Rattle.wild_sections.proofs.pc32.value_by_row.Goals as goal

pub returns-in-Some : goal.returns-in-Some
returns-in-Some g c = λ value e.
    let l = c.args.resolved.now.layout.now in
    let r = c.args.relocation.now in
    let known : row_of l.machine r.number ≡ Some c.in-Some.found = ap (λ (m : Machine). row_of m r.number) c.args.resolved.now.machine ∙ ap (row_of g.A.Arch.machine) c.requires ∙ sym c.relocation_from_raw-row.ensures ∙ c.in-Some.is in
    sym (c.distance_for.ensures ∙ fixed_decided l (item_now c.args.item.now) r c.in-Some.found known (c.if-is_fixed_distance.ensures.kind refl) (c.if-is_fixed_distance.ensures.machine refl) (c.if-is_fixed_distance.ensures.fixed refl)) ∙ c.four_byte_value.ensures value e
