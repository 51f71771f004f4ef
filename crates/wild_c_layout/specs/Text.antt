-- Text in a buffer of a C program.
--   fits text room   the text is not longer than the room
--   put text room    the room with the text at its front, if it fits
use Rattle.std.specs.Prelude.{ℕ, Bool, if◌then◌else◌, nat_le, List, ◌++◌, drop, length}

abbrev pub fits : List ℕ → List ℕ → Bool
fits text room = nat_le (length text) (length room)

abbrev pub put : List ℕ → List ℕ → List ℕ
put text room = if fits text room then text ++ drop (length text) room else room
