-- The role of a file.
--   is_prelude, is_epilogue   the first file, and the last one
--   is_library                a shared library
--   is_loaded_file            one that goes into the output
--   writes_slots r       it writes the slots of its symbols
use Rattle.std.specs.Prelude.{Bool, true, false}
use Rattle.wild_types.specs.declared.file.FileRole.{FileRole}
use Rattle.wild_types.specs.declared.file.FileRole.TheVariants as file_role

-- the first file, which writes what appears once in an image
abbrev pub is_prelude : FileRole → Bool
is_prelude file_role.Prelude = true
is_prelude other = false

-- the last file
abbrev pub is_epilogue : FileRole → Bool
is_epilogue file_role.Epilogue = true
is_epilogue other = false

-- a shared library
abbrev pub is_library : FileRole → Bool
is_library file_role.Dynamic = true
is_library other = false

-- one that goes into the output
abbrev pub is_loaded_file : FileRole → Bool
is_loaded_file file_role.NotLoaded = false
is_loaded_file other = true

-- the file writes the slots of its symbols: it is loaded, and is not the last file, which has no slots
abbrev pub writes_slots : FileRole → Bool
writes_slots file_role.Epilogue = false
writes_slots file_role.NotLoaded = false
writes_slots other = true
