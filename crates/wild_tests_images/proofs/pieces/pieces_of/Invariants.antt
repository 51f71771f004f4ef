use Rattle.wild_tests_images.proofs.pieces.pieces_of.Given as goal

abbrev pub ghosts-counted_pieces : goal.ghosts-counted_pieces
ghosts-counted_pieces g a = record { name = a.blank.name; parts = a.blank.parts }
