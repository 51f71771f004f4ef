use Rattle.wild_meaning.proofs.SegmentsRefused.{wrong_segments, wrong_stacks, other_places, wrong_fields, wrong_sections, no_dynamic, wrong_entries, own_sections}
use Rattle.wild_meaning.proofs.laws.wrong_segments_are_refused.Goals as goal

pub returns : goal.returns
returns c = record { segments = wrong_segments; stacks = wrong_stacks; places = other_places; fields = wrong_fields c.file_header_is_read.ensures; sections = wrong_sections c.file_header_is_read.ensures; dynamic = no_dynamic; entries = wrong_entries; own = own_sections }
