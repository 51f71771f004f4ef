use Rattle.wild_tests_images.proofs.changes.row_holds.Given as goal

abbrev pub ghosts-relinked : goal.ghosts-relinked
ghosts-relinked g a = record { name = a.blank.name; parts = a.blank.parts }
