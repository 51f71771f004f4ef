use Rattle.wild_image.proofs.Common.{◌≡◌, false, ◌<◌, ◌^◌, ◌++◌, drop, All, flat_map, is_header_only_role, total, kept_size, placed_sections, file_frames, address_after, frame_bytes_of, sections_errors, SectionLies, section_owned}
use Rattle.wild_types.specs.declared.part.Role.TheVariants as role
use Rattle.wild_image.proofs.buffer.add_file_sections.Given as goal

abbrev pub invariant-loop-i : goal.invariant-loop-i
invariant-loop-i g l = record {
  faults : sections_errors l.resolved.layout.now l.place.group l.place.file l.file l.next l.i (drop l.i l.section-items) ≡ sections_errors l.resolved.layout.now l.place.group l.place.file l.file l.at 0 l.file.sections;
  next : address_after l.next (total (kept_size l.resolved.layout.now l.file) (drop l.i l.section-items)) ≡ address_after l.at (file_frames l.resolved.layout.now l.file);
  small : l.next < 2 ^ 64;
  files : l.bytes.files ++ flat_map (section_owned l.resolved.layout.now l.file) (placed_sections l.resolved.layout.now l.file l.next (drop l.i l.section-items)) ≡ l.initial.bytes.files ++ flat_map (section_owned l.resolved.layout.now l.file) (placed_sections l.resolved.layout.now l.file l.at l.file.sections);
  frames : is_header_only_role l.resolved.layout.now role.EhFrame ≡ false → l.bytes.frames ++ flat_map (frame_bytes_of l.resolved.layout.now l.file) (placed_sections l.resolved.layout.now l.file l.next (drop l.i l.section-items)) ≡ l.initial.bytes.frames ++ flat_map (frame_bytes_of l.resolved.layout.now l.file) (placed_sections l.resolved.layout.now l.file l.at l.file.sections);
  tables : l.bytes.tables ≡ l.initial.bytes.tables;
  lies : All (SectionLies l.resolved.layout.now) (placed_sections l.resolved.layout.now l.file l.next (drop l.i l.section-items));
}
