use Rattle.std.proofs.Common.{◌≡◌, ℕ, not, true, false, Some, sym, ap, ◌∙◌}
use Rattle.wild_types.specs.declared.part.Role.TheVariants as role
use Rattle.wild_placement.specs.PlacedSections.{placed_section}
use Rattle.wild_outlines.specs.RefusalLaws.{needs_no_part}
use Rattle.wild_relinker.proofs.RoleLemmas.{without_relative, without_general, without_relr, without_none, lacks_relative, lacks_general, lacks_relr}
use Rattle.wild_relinker.proofs.changed_faults.role_without_part.Goals as goal

pub returns-then-lacks_part : goal.returns-then-lacks_part
returns-then-lacks_part c =
    let l = c.args.layout.now in
    let s = placed_section l c.args.file.now 0 c.args.section.now in
    let n = c.section_counts-counts.ensures in
    let a : not (needs_no_part l s role.RelaDynRelative) ≡ true = sym (lacks_relative l s c.section_counts-counts.result.listed n.listed) ∙ (sym c.lacks_part.ensures ∙ c.if-lacks_part.true) in
    ap (λ (i : ℕ). Some i) c.place_of.ensures ∙ sym (without_relative l s a)

pub returns-then-lacks_part-2 : goal.returns-then-lacks_part-2
returns-then-lacks_part-2 c =
    let l = c.args.layout.now in
    let s = placed_section l c.args.file.now 0 c.args.section.now in
    let n = c.section_counts-counts.ensures in
    let a : not (needs_no_part l s role.RelaDynRelative) ≡ false = sym (lacks_relative l s c.section_counts-counts.result.listed n.listed) ∙ (sym c.lacks_part.ensures ∙ c.if-lacks_part.false) in
    let b : not (needs_no_part l s role.RelaDynGeneral) ≡ true = sym (lacks_general l s c.section_counts-counts.result.symbolic n.symbolic) ∙ (sym c.lacks_part-2.ensures ∙ c.if-lacks_part-2.true) in
    ap (λ (i : ℕ). Some i) c.place_of-then-lacks_part-2.ensures ∙ sym (without_general l s a b)

pub returns-then-lacks_part-3 : goal.returns-then-lacks_part-3
returns-then-lacks_part-3 c =
    let l = c.args.layout.now in
    let s = placed_section l c.args.file.now 0 c.args.section.now in
    let n = c.section_counts-counts.ensures in
    let a : not (needs_no_part l s role.RelaDynRelative) ≡ false = sym (lacks_relative l s c.section_counts-counts.result.listed n.listed) ∙ (sym c.lacks_part.ensures ∙ c.if-lacks_part.false) in
    let b : not (needs_no_part l s role.RelaDynGeneral) ≡ false = sym (lacks_general l s c.section_counts-counts.result.symbolic n.symbolic) ∙ (sym c.lacks_part-2.ensures ∙ c.if-lacks_part-2.false) in
    let d : not (needs_no_part l s role.RelrDyn) ≡ true = sym (lacks_relr l s c.section_counts-counts.result.packed n.packed) ∙ (sym c.lacks_part-3.ensures ∙ c.if-lacks_part-3.true) in
    ap (λ (i : ℕ). Some i) c.place_of-then-lacks_part-3.ensures ∙ sym (without_relr l s a b d)

pub returns : goal.returns
returns c =
    let l = c.args.layout.now in
    let s = placed_section l c.args.file.now 0 c.args.section.now in
    let n = c.section_counts-counts.ensures in
    let a : not (needs_no_part l s role.RelaDynRelative) ≡ false = sym (lacks_relative l s c.section_counts-counts.result.listed n.listed) ∙ (sym c.lacks_part.ensures ∙ c.if-lacks_part.false) in
    let b : not (needs_no_part l s role.RelaDynGeneral) ≡ false = sym (lacks_general l s c.section_counts-counts.result.symbolic n.symbolic) ∙ (sym c.lacks_part-2.ensures ∙ c.if-lacks_part-2.false) in
    let d : not (needs_no_part l s role.RelrDyn) ≡ false = sym (lacks_relr l s c.section_counts-counts.result.packed n.packed) ∙ (sym c.lacks_part-3.ensures ∙ c.if-lacks_part-3.false) in
    sym (without_none l s a b d)
