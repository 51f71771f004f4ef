-- The thunks of files: code that continues branches of a file to targets out of their range ("ELF for the Arm 64-bit Architecture",
-- "Call and Jump relocations").
--   thunk_size       the bytes of a thunk
--   block_of l k     the thunks of a block; empty if there is no such block
--   thunks_of l f    those that the file writes after its sections: all thunks of its block if it owns the block
use Rattle.std.specs.Prelude.{ℕ, if◌then◌else◌, List, [], unwrap_or, slice_get}
use Rattle.wild_types.specs.declared.layout.Thunk.{Thunk}
use Rattle.wild_types.specs.declared.file.File.{File}
use Rattle.wild_types.specs.declared.layout.Layout.{Layout}

-- three instructions (Arm Architecture Reference Manual, C6.2: `adrp`, `add`, `br`)
abbrev pub thunk_size : ℕ
thunk_size = 12

-- the thunks of a block
abbrev pub block_of : Layout → ℕ → List Thunk
block_of l k = unwrap_or (slice_get l.thunk_blocks k) []

-- those that the file writes
abbrev pub thunks_of : Layout → File → List Thunk
thunks_of l f = if f.owns_thunk_block then block_of l f.thunk_block else []
