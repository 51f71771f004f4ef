-- The owners of an image's bytes in the order of the code: file by file, the sections of the plan.
--   ranged_piece l f s    a section with a range in its part, as placed, and its file offset; ranged_pieces l f for a file
--   sorted_pieces l x     a sorted input section; all_sorted_pieces l all of them
--   trailer_pieces l f       what only the last or only the first file has
--   file_pieces_in_order l f   all pieces of a file
use Rattle.std.specs.Prelude.{ℕ, if◌then◌else◌, List, [], ◌++◌}
use Rattle.std.specs.List.{flat_map}
use Rattle.wild_words.specs.Overlay.{Piece}
use Rattle.wild_types.specs.declared.input.InputSection.{InputSection}
use Rattle.wild_types.specs.declared.file.File.{File}
use Rattle.wild_types.specs.declared.layout.Merged.{Merged}
use Rattle.wild_types.specs.declared.layout.SortedSection.{SortedSection}
use Rattle.wild_types.specs.declared.layout.Layout.{Layout}
use Rattle.wild_types.specs.Lookups.{has_range}
use Rattle.wild_placement.specs.PlacedSections.{sorted_input, of_last_file}
use Rattle.wild_layout.specs.Image.{section_piece, sorted_piece, merged_bytes, front_piece, merged_and_identity_pieces, of_first_file, thunk_pieces}
use Rattle.wild_image.specs.Pieces.{placed_in_range}

-- a section with a range in its part
abbrev pub ranged_piece : Layout → File → InputSection → List Piece
ranged_piece l f s = if has_range s.slot then section_piece l f (placed_in_range l f s) else []

abbrev pub ranged_pieces : Layout → File → List Piece
ranged_pieces l f = flat_map (ranged_piece l f) f.sections

-- a sorted input section
abbrev pub sorted_pieces : Layout → SortedSection → List Piece
sorted_pieces l x = flat_map (sorted_piece l) (sorted_input l x)

abbrev pub all_sorted_pieces : Layout → List Piece
all_sorted_pieces l = flat_map (sorted_pieces l) l.sorted

-- merged strings
abbrev pub merged_piece : Layout → Merged → List Piece
merged_piece l m = front_piece l m.part (merged_bytes m)

-- what only the last or only the first file has
abbrev pub trailer_pieces : Layout → File → List Piece
trailer_pieces l f = of_last_file f (all_sorted_pieces l) ++ of_first_file f (merged_and_identity_pieces l)

-- all pieces of a file
abbrev pub file_pieces_in_order : Layout → File → List Piece
file_pieces_in_order l f = ranged_pieces l f ++ (trailer_pieces l f ++ thunk_pieces l f)
