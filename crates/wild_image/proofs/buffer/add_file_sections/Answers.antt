use Rattle.wild_image.proofs.Common.{◌∙◌, sym, ap, arith, subst, err_from_is_err_and, frame_bytes_of, CanBeReversed, section_owned, GroupBytes, SectionLies}
use Rattle.wild_contents.proofs.PlacedLemmas.{reach_more, reach_done, behind_small}
use Rattle.wild_image.proofs.PlacedLemmas.{faults_more, faults_refuse, lies_head, lies_tail, given_more}
use Rattle.wild_image.proofs.UnchangedLemmas.{unchanged_parts, unchanged_section_placed, so_refuses, Adds, so_adds}
use Rattle.wild_image.proofs.buffer.add_file_sections.Goals as goal
use Rattle.wild_image.proofs.buffer.add_file_sections.Goals.{then-is_written_unchanged+in_ok-add_unchanged, else-is_written_unchanged+in_ok-next}

pub add_section-requires-clause-lies : goal.add_section-requires-clause-lies
add_section-requires-clause-lies g c = lies_head c.args.resolved.now.layout.now c.args.file.now c.as_slice-section-items.result.now c.loop-i.i c.loop-i.next c.section-item.result c.loop-i-test.true c.section-item.is c.loop-i.invariant.lies

pub add_section-requires-clause-reversed_section : goal.add_section-requires-clause-reversed_section
add_section-requires-clause-reversed_section g c =
    let h = rw c.as_slice-section-items.ensures at c.loop-i-test.true in
    let read = rw c.as_slice-section-items.ensures at c.section-item.is in
    subst (CanBeReversed c.args.resolved.now.layout.now) (sym read) (c.requires.reversed_section c.loop-i.i c.section-item.result h)

pub add_unchanged-requires-clause-lies : goal.add_unchanged-requires-clause-lies
add_unchanged-requires-clause-lies g c =
    let l = c.args.resolved.now.layout.now in
    let f = c.args.file.now in
    let s = c.section-item.result in
    let here = lies_head l f c.as_slice-section-items.result.now c.loop-i.i c.loop-i.next s c.loop-i-test.true c.section-item.is c.loop-i.invariant.lies in
    subst (SectionLies l) (unchanged_section_placed l f c.loop-i.next s (unchanged_parts l s (sym c.is_written_unchanged.ensures ∙ c.if-is_written_unchanged.true))) here

pub returns-in_err-add_unchanged-clause-faults : goal.returns-in_err-add_unchanged-clause-faults
returns-in_err-add_unchanged-clause-faults g c =
    let l = c.args.resolved.now.layout.now in
    let f = c.args.file.now in
    let s = c.section-item.result in
    let p = err_from_is_err_and c.from_residual.result c.from_residual.ensures.1 in
    let refused = so_refuses l c.args.place.group c.args.place.file f c.loop-i.next c.loop-i.i s _ (unchanged_parts l s (sym c.is_written_unchanged.ensures ∙ c.if-is_written_unchanged.true)) c.in_err-add_unchanged.ensures.faults in
    rw (p.1, p.2) (faults_refuse l c.args.place.group c.args.place.file f c.as_slice-section-items.result.now c.loop-i.i c.loop-i.next s _ _ c.loop-i-test.true c.section-item.is c.loop-i.invariant.faults refused)

pub loop-i-preserved : goal.loop-i-preserved
loop-i-preserved g c =
    let l = c.args.resolved.now.layout.now in
    let f = c.args.file.now in
    let ss = c.as_slice-section-items.result.now in
    let i = c.loop-i.i in
    let s = c.section-item.result in
    let low = c.loop-i-test.true in
    let read = c.section-item.is in
    let now = c.if-is_written_unchanged.bytes in
    let added : Adds l c.args.place.group c.args.place.file i c.loop-i.next c.if-is_written_unchanged.next f s c.loop-i.bytes now = elim c.if-is_written_unchanged.branch [
      | then-is_written_unchanged+in_ok-add_unchanged w ↦ so_adds l c.args.place.group c.args.place.file i c.loop-i.next c.if-is_written_unchanged.next f s c.loop-i.bytes now (sym c.is_written_unchanged.ensures ∙ w.if-is_written_unchanged.true) c.loop-i.invariant.small w.in_ok-add_unchanged.ensures.faults w.next-is (ap (λ (b : GroupBytes). b.files) w.bytes-is ∙ w.in_ok-add_unchanged.ensures.bytes) (ap (λ (b : GroupBytes). b.frames) w.bytes-is) (ap (λ (b : GroupBytes). b.tables) w.bytes-is)
      | else-is_written_unchanged+in_ok-next w ↦ rw (w.next-is, w.bytes-is) (record {
        faults = w.in_ok-next.ensures.faults;
        place = w.in_ok-next.ensures.next;
        files = w.in_ok-next.ensures.files;
        frames = w.in_ok-next.ensures.frames;
        tables = w.add_section.ensures.tables;
      })
    ] in
    record {
      faults = faults_more l c.args.place.group c.args.place.file f ss i c.loop-i.next _ s _ low read c.loop-i.invariant.faults added.faults added.place;
      next = reach_more l f ss i s c.loop-i.next _ _ low read c.loop-i.invariant.next added.place;
      small = behind_small c.loop-i.next _ _ added.place;
      files = given_more (section_owned l f) l f ss i c.loop-i.next _ s c.loop-i.bytes.files now.files _ low read added.place c.loop-i.invariant.files added.files;
      frames = λ written. given_more (frame_bytes_of l f) l f ss i c.loop-i.next _ s c.loop-i.bytes.frames now.frames _ low read added.place (c.loop-i.invariant.frames written) (added.frames written);
      tables = added.tables ∙ c.loop-i.invariant.tables;
      lies = lies_tail l f ss i c.loop-i.next _ s low read added.place c.loop-i.invariant.lies;
    }

pub returns-clause-next : goal.returns-clause-next
returns-clause-next g c =
    let end = c.loop-i-test.false in
    reach_done c.args.resolved.now.layout.now c.args.file.now c.as_slice-section-items.result.now c.loop-i.i c.loop-i.next _ c.loop-i.invariant.small (omega (arith, end)) c.loop-i.invariant.next
