use Rattle.std.proofs.Common.{refl, sym, ap, ◌∙◌, rules}
use Rattle.std.proofs.lemmas.Result.{err_from_is_err_and}
use Rattle.std.specs.Vec.{with_items}
use Rattle.std.proofs.lemmas.List.{with_items_is, places}
use Rattle.wild_words.specs.Overlay.{overlay}
use Rattle.wild_layout.specs.Image.{group_pieces}
use Rattle.wild_relinker.specs.Changed.{corrected_counts, IsSameImage}
use Rattle.wild_relinker.proofs.ImageLemmas.{few_by_number, few_of_section, relocations_are}
use Rattle.wild_relinker.proofs.changed_image.write_changed.Goals as goal

pub write_checked-requires-clause-count : goal.write_checked-requires-clause-count
write_checked-requires-clause-count g c =
    let x = c.args.found in
    few_by_number c.args.layout.now c.args.index x.group.now x.file.now x.section.now c.args.before c.args.written.now _ c.requires.awaits (search rules)

pub write_checked-requires-clause-faults : goal.write_checked-requires-clause-faults
write_checked-requires-clause-faults g c = c.requires.awaits.faults

pub correct_counts-requires-clause-after : goal.correct_counts-requires-clause-after
correct_counts-requires-clause-after g c =
    let x = c.args.found in
    few_of_section c.args.layout.now c.args.index x.group.now x.file.now x.section.now c.args.before c.args.written.now c.requires.awaits c.in_ok-write_checked.ensures.faults

pub returns-in_err-write_checked-clause-kept : goal.returns-in_err-write_checked-clause-kept
returns-in_err-write_checked-clause-kept g c =
    let p = err_from_is_err_and c.from_residual.result c.from_residual.ensures.1 in
    let w = c.args.written.now in
    let bytes = with_items_is w.out c.write_checked.new.out (search (rules, places)) in
    let same : IsSameImage (record { out = with_items w.out c.write_checked.new.out; counts = w.counts; relocations = w.relocations }) w =
    record { bytes = bytes ∙ (c.in_err-write_checked.ensures.kept ∙ c.deref_mut.ensures.value); counts = refl; relocations = refl } in
    rw p.1 same

pub returns-clause-written : goal.returns-clause-written
returns-clause-written g c =
    let l = c.args.layout.now in
    let x = c.args.found in
    let w = c.args.written.now in
    let none = c.in_ok-write_checked.ensures.faults in
    let bytes = with_items_is w.out c.write_checked.new.out (search (rules, places)) in
    let counts = with_items_is w.counts c.correct_counts.new.counts (search (rules, places)) in
    record {
      bytes = bytes ∙ (c.in_ok-write_checked.ensures.image ∙ (ap (overlay (group_pieces l c.args.index x.group.now)) c.deref_mut.ensures.value ∙ sym (c.requires.awaits.bytes none)));
      counts = counts ∙ (c.correct_counts.ensures ∙ (ap (corrected_counts l x.section.now c.args.before) c.deref_mut-2.ensures.value ∙ sym c.requires.awaits.counts));
      relocations = search rules ∙ relocations_are l c.args.index x.group.now x.file.now x.section.now c.args.before w c.requires.awaits none;
    }
