use Rattle.wild_image.proofs.Common.{sym, ◌∙◌, and_parts}
use Rattle.wild_layout.specs.Content.{end_of_frames}
use Rattle.wild_image.specs.Placed.{is_plain_object}
use Rattle.wild_image.proofs.BareLemmas.{object_fine, none_behind, no_end_behind}
use Rattle.wild_image.proofs.PlacedLemmas.{file_owned_by, file_frames_by}
use Rattle.wild_image.proofs.buffer.add_file.Goals as goal

pub returns-clause-files : goal.returns-clause-files
returns-clause-files g c = file_owned_by c.args.resolved.now.layout.now c.args.at c.args.file.now c.args.bytes.now.files c.add_file_sections.new.bytes.files c.add_file_trailer.new.bytes.files c.in_ok-next.ensures.files c.in_ok-add_file_trailer.ensures.files

pub returns-clause-frames : goal.returns-clause-frames
returns-clause-frames g c = λ written. file_frames_by c.args.resolved.now.layout.now c.args.at c.args.file.now c.args.bytes.now.frames c.add_file_sections.new.bytes.frames c.add_file_trailer.new.bytes.frames (c.in_ok-next.ensures.frames written) c.in_ok-add_file_trailer.ensures.frames

-- ---- where it ends there

pub returns-then-has_no_trailer-clause-faults : goal.returns-then-has_no_trailer-clause-faults
returns-then-has_no_trailer-clause-faults g c =
    let told = and_parts c.args.facts.needs_no_dynamic_tables (is_plain_object c.args.file.now) (sym c.has_no_trailer.ensures ∙ c.if-has_no_trailer.true) in
    object_fine c.args.resolved.now.layout.now c.args.place.group c.args.place.file c.args.at c.args.file.now (sym c.requires.facts.needs_no_dynamic_tables ∙ told.0) told.1 c.in_ok-next.ensures.faults

pub returns-then-has_no_trailer-clause-files : goal.returns-then-has_no_trailer-clause-files
returns-then-has_no_trailer-clause-files g c =
    let told = and_parts c.args.facts.needs_no_dynamic_tables (is_plain_object c.args.file.now) (sym c.has_no_trailer.ensures ∙ c.if-has_no_trailer.true) in
    let now = c.add_file_sections.new.bytes.files in
    file_owned_by c.args.resolved.now.layout.now c.args.at c.args.file.now c.args.bytes.now.files now now c.in_ok-next.ensures.files (none_behind c.args.resolved.now.layout.now c.args.file.now now told.1)

pub returns-then-has_no_trailer-clause-frames : goal.returns-then-has_no_trailer-clause-frames
returns-then-has_no_trailer-clause-frames g c = λ written.
    let told = and_parts c.args.facts.needs_no_dynamic_tables (is_plain_object c.args.file.now) (sym c.has_no_trailer.ensures ∙ c.if-has_no_trailer.true) in
    let now = c.add_file_sections.new.bytes.frames in
    file_frames_by c.args.resolved.now.layout.now c.args.at c.args.file.now c.args.bytes.now.frames now now (c.in_ok-next.ensures.frames written) (no_end_behind c.args.file.now now (end_of_frames c.args.resolved.now.layout.now) told.1)
