-- A property of a group that holds before its tables are written.
--   NeedsFit g   the number of versions needed of each of the group's libraries fits in 16 bits
use Rattle.std.specs.Prelude.{ℕ, ◌<◌, ◌^◌, All}
use Rattle.wild_types.specs.declared.file.File.{File}
use Rattle.wild_types.specs.declared.file.Group.{Group}
use Rattle.wild_needs.specs.Versions.{length_of, needs_of}

-- the number of versions needed of each of the group's libraries fits in 16 bits
abbrev pub NeedsFit : Group → Type 0
NeedsFit g = All (λ (f : File). length_of (needs_of f) < 2 ^ 16) g.files
