-- The statuses of the functions for C.
use Rattle.std.specs.Prelude.{ℕ}

-- the call did what its name says
abbrev pub written : ℕ
written = 0

-- the layout has a fault
abbrev pub refused : ℕ
refused = 1

-- the structs represent no layout
abbrev pub no_layout : ℕ
no_layout = 3

-- out of memory
abbrev pub no_memory : ℕ
no_memory = 6

-- the size of a buffer is not that of the output
abbrev pub wrong_size : ℕ
wrong_size = 8
