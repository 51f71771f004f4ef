-- The files of symbols.
--   file_table l ordered   for each symbol the position of the file that has it, if the files' ranges of symbols ascend
--   file_for k f o         the file in which symbol o is looked for: that of the table, else f
use Rattle.std.specs.Prelude.{ℕ, ◌+◌, ◌-◌, ◌==◌, Bool, if◌then◌else◌, List, [], ◌∷◌, ◌++◌, length, take, replicate, min, slice_get, Option, Some, None, option_and_then, unwrap_or}
use Rattle.wild_types.specs.declared.file.File.{File}
use Rattle.wild_types.specs.declared.file.Group.{Group}
use Rattle.wild_types.specs.declared.layout.Layout.{Layout}
use Rattle.wild_checker.specs.declared.loaded.FileSite.{FileSite}
use Rattle.wild_checker.specs.Loaded.{Loaded}

-- a table of n entries: the first ones, then this one
abbrev pub resized : ℕ → Option FileSite → List (Option FileSite) → List (Option FileSite)
resized n site table = take n table ++ replicate (n - length table) site

-- the table with a file's symbols at its end; it has at most as many entries as there are symbols
abbrev pub with_file : ℕ → FileSite → File → List (Option FileSite) → List (Option FileSite)
with_file count site f table =
    if f.symbol_count == 0 then table
    else resized (min (f.first_symbol + f.symbol_count) count) (Some site) (resized (min f.first_symbol count) None table)

abbrev pub with_files : ℕ → ℕ → ℕ → List File → List (Option FileSite) → List (Option FileSite)
with_files count g n [] table = table
with_files count g n (f ∷ fs) table = with_files count g (n + 1) fs (with_file count (record { group = g; file = n }) f table)

abbrev pub with_groups : ℕ → ℕ → List Group → List (Option FileSite) → List (Option FileSite)
with_groups count n [] table = table
with_groups count n (g ∷ gs) table = with_groups count (n + 1) gs (with_files count n 0 g.files table)

-- for each symbol the position of the file that has it, if the files' ranges of symbols ascend
abbrev pub file_table : Layout → Bool → List (Option FileSite)
file_table l ordered = if ordered then with_groups (length l.symbols) 0 l.groups [] else []

abbrev pub site_by : Option (Option FileSite) → Option FileSite
site_by None = None
site_by (Some site) = site

-- the entry of symbol i
abbrev pub site_of : List (Option FileSite) → ℕ → Option FileSite
site_of table i = site_by (slice_get table i)

-- the file at a position
abbrev pub file_at : Layout → Option FileSite → Option File
file_at l None = None
file_at l (Some site) = option_and_then (λ (g : Group). slice_get g.files site.file) (slice_get l.groups site.group)

-- the file that the table has for symbol i
abbrev pub find_file : Loaded → ℕ → Option File
find_file k i = file_at k.layout (site_of k.files i)

-- the file in which a symbol is looked for: that of the table, else that of the reference
abbrev pub file_for : Loaded → File → Option ℕ → File
file_for k f None = f
file_for k f (Some i) = unwrap_or (find_file k i) f
