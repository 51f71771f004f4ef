use Rattle.std.proofs.Common.{◌<◌, false, ap, length, All, subst, ℕ, refl, sym, ◌∙◌, arith}
use Rattle.std.proofs.lemmas.Result.{err_from_is_err_and}
use Rattle.wild_reloc.specs.declared.info.RelocationSize.TheVariants.{ByteSize}
use Rattle.wild_reloc.specs.declared.info.Width.TheVariants.{Four}
use Rattle.wild_layout.specs.declared.decision.Decision.TheVariants.{Field}
use Rattle.wild_layout.specs.SectionPlaces.{FieldLies}
use Rattle.wild_types.specs.Item.{item_now}
use Rattle.wild_sections.proofs.DecisionLemmas.{read_at, ok_has_none, partner_next}
use Rattle.wild_sections.proofs.InstructionLemmas.{decision_lies}
use Rattle.wild_sections.proofs.AscendingLemmas.{ascended_more, ascended_next, ascending_refused, ascending_passes, ascending_apart}
use Rattle.wild_sections.proofs.section.write_ascending.Goals as goal
use Rattle.wild_sections.proofs.section.write_ascending.Goals.{in-Some, in-None+in_ok-end-in-None}

pub write_ascending_u32-end-requires : goal.write_ascending_u32-end-requires
write_ascending_u32-end-requires g c =
    let s = item_now c.args.item.now in
    let test = c.loop-index-test.true in
    let below : c.loop-index.index < length c.args.item.now.relocations.now = omega (arith, test) in
    let listed = read_at s.relocations c.loop-index.index _ below c.index-relocations-index.is in
    let whole = c.loop-index.auto.room ∙ ap length c.requires.bytes in
    let lies = subst (λ (n : ℕ). All (FieldLies c.args.resolved.now.layout.now.machine n) s.relocations) (sym c.loop-index.auto.room) c.requires.lies in
    record { lies = decision_lies c.args.resolved.now.layout.now s c.loop-index.index _ _ (Field (ByteSize Four) c.in-Some.value) listed whole lies (c.in-Some.ensures.is c.in-Some.value refl) }

pub returns-in_err-end-in-None-clause-faults : goal.returns-in_err-end-in-None-clause-faults
returns-in_err-end-in-None-clause-faults g c =
    let r = c.from_residual in
    let p = err_from_is_err_and r.result r.ensures.1 in
    let test = c.loop-index-test.true in
    let below : c.loop-index.index < length c.args.item.now.relocations.now = omega (arith, test) in
    rw (p.1, p.2) (ascending_refused c.args.resolved.now.layout.now c.args.origin.now.place.group c.args.origin.now.place.file c.args.origin.now.place.section (item_now c.args.item.now) c.args.origin.now.relocations.now c.loop-index.index c.loop-index.end_of_last_field c.loop-index.room _ below c.loop-index.invariant.ascended c.in_err-end-in-None.ensures.faults)

pub loop-index-preserved : goal.loop-index-preserved
loop-index-preserved g c =
    let l = c.args.resolved.now.layout.now in
    let place = c.args.origin.now.place in
    let s = item_now c.args.item.now in
    let os = c.args.origin.now.relocations.now in
    let test = c.loop-index-test.true in
    let below : c.loop-index.index < length c.args.item.now.relocations.now = omega (arith, test) in
    let listed = read_at s.relocations c.loop-index.index _ below c.index-relocations-index.is in
    let lies = subst (λ (n : ℕ). All (FieldLies l.machine n) s.relocations) (ap length c.requires.bytes) c.requires.lies in
    elim c.match-near_value.branch [
      | in-Some w ↦
          (let d = w.in-Some.ensures.is w.in-Some.value refl in
          let ends = sym w.end-is ∙ c.in-Some-end.is in
          record {
            ascended = rw w.room-is (ascended_more l place.group place.file place.section s os c.loop-index.index c.loop-index.end_of_last_field c.in-Some-end.end _ _ c.loop-index.room _ listed lies c.loop-index.invariant.ascended (ok_has_none l place.group place.file place.section s os c.loop-index.index _ d) d (sym w.write_ascending_u32-end.ensures.field_end ∙ ends) (w.write_ascending_u32-end.ensures.written c.in-Some-end.end ends));
            partner = rw w.partner-is (partner_next s.relocations c.loop-index.index _ false listed (sym (w.in-Some.ensures.alone w.in-Some.value refl)));
          })
      | in-None+in_ok-end-in-None w ↦ record {
        ascended = rw w.room-is (ascended_next l place.group place.file place.section s os c.loop-index.index c.loop-index.end_of_last_field c.in-Some-end.end _ c.loop-index.room _ lies c.loop-index.invariant.ascended w.in_ok-end-in-None.ensures.faults w.in_ok-end-in-None.ensures.next (sym w.end-is ∙ c.in-Some-end.is));
        partner = rw w.partner-is (partner_next s.relocations c.loop-index.index _ w.may_take_next-partner.result listed w.may_take_next-partner.ensures);
      }
    ]

pub returns-clause-none : goal.returns-clause-none
returns-clause-none g c = λ e.
    let end = c.loop-index.auto.index-end in
    let out = c.loop-index-test.false in
    ascending_passes c.args.resolved.now.layout.now c.args.origin.now.place.group c.args.origin.now.place.file c.args.origin.now.place.section (item_now c.args.item.now) c.args.origin.now.relocations.now c.loop-index.index c.loop-index.end_of_last_field c.loop-index.room (omega (arith, end, out)) c.loop-index.invariant.ascended

pub returns-clause-apart : goal.returns-clause-apart
returns-clause-apart g c = λ e.
    let end = c.loop-index.auto.index-end in
    let out = c.loop-index-test.false in
    ascending_apart c.args.resolved.now.layout.now c.args.origin.now.place.group c.args.origin.now.place.file c.args.origin.now.place.section (item_now c.args.item.now) c.args.origin.now.relocations.now c.loop-index.index c.loop-index.end_of_last_field c.loop-index.room (omega (arith, end, out)) c.requires.moves c.loop-index.invariant.ascended
