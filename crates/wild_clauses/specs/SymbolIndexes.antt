-- The first symbol whose definition or place does not exist, found file by file.
--   ranges_lie len end fs    the files' symbol ranges ascend from end on and end at len or before; their end
--   file_walk l next f       the first such symbol from next to the end of the file's range, else that end
--   files_walk, groups_walk  the same for consecutive files and groups
--   walk_end l r             the symbol that the walk found, else the first such symbol after the last file
--   count_in files i         how many input sections the first file has whose range contains symbol i
use Rattle.std.specs.Prelude.{ℕ, ◌+◌, ◌-◌, ◌==◌, ◌&&◌, if◌then◌else◌, nat_lt, nat_le, List, [], ◌∷◌, length, take, drop, Option, Some, None, Result, Ok, Err}
use Rattle.wild_types.specs.declared.file.File.{File}
use Rattle.wild_types.specs.declared.file.Group.{Group}
use Rattle.wild_types.specs.declared.layout.Layout.{Layout}
use Rattle.wild_types.specs.Lists.{first_failing, through}
use Rattle.wild_plan_rules.specs.Indexes.{symbol_indexes_fit}
use Rattle.wild_types.specs.FileSymbols.{range_of}

-- where the ranges of later files may begin; none if the file's range begins before end or ends after len
abbrev pub range_lies : ℕ → ℕ → File → Option ℕ
range_lies len end f =
    if f.symbol_count == 0
    then Some end
    else (if nat_le end f.first_symbol && nat_le (f.first_symbol + f.symbol_count) len then Some (f.first_symbol + f.symbol_count) else None)

abbrev pub ranges_lie : ℕ → ℕ → List File → Option ℕ
ranges_lie len end files = through (range_lies len) end files

-- the same for groups
abbrev pub all_ranges_lie : ℕ → ℕ → List Group → Option ℕ
all_ranges_lie len end groups = through (λ next (g : Group). ranges_lie len next g.files) end groups

-- the first place if there is one, else the second
abbrev pub or_first : Option ℕ → Option ℕ → Option ℕ
or_first None b = b
or_first (Some i) b = Some i

-- a place that was found, else the position to continue from
abbrev pub found_or : Option ℕ → ℕ → Result ℕ ℕ
found_or None next = Ok next
found_or (Some i) next = Err i

-- the first symbol before the file's range whose index does not fit
abbrev pub gap_astray : Layout → ℕ → File → Option ℕ
gap_astray l next f = first_failing (symbol_indexes_fit l 0) next (take (f.first_symbol - next) (drop next l.symbols))

abbrev pub range_astray : Layout → File → Option ℕ
range_astray l f = first_failing (symbol_indexes_fit l (length f.sections)) f.first_symbol (range_of l.symbols f)

abbrev pub file_walk : Layout → ℕ → File → Result ℕ ℕ
file_walk l next f =
    if f.symbol_count == 0
    then Ok next
    else found_or (or_first (gap_astray l next f) (range_astray l f)) (f.first_symbol + length (range_of l.symbols f))

-- the rest of the walk, continued from a position
abbrev pub go_on : {A : Type 0} → Result ℕ ℕ → (ℕ → A) → (ℕ → A) → A
go_on (Ok next) found rest = rest next
go_on (Err i) found rest = found i

abbrev pub files_walk : Layout → ℕ → List File → Result ℕ ℕ
files_walk l next [] = Ok next
files_walk l next (f ∷ fs) = go_on (file_walk l next f) (λ i. Err i) (λ n. files_walk l n fs)

abbrev pub groups_walk : Layout → ℕ → List Group → Result ℕ ℕ
groups_walk l next [] = Ok next
groups_walk l next (g ∷ gs) = go_on (files_walk l next g.files) (λ i. Err i) (λ n. groups_walk l n gs)

abbrev pub walk_end : Layout → Result ℕ ℕ → Option ℕ
walk_end l r = go_on r (λ i. Some i) (λ n. first_failing (symbol_indexes_fit l 0) n (drop n l.symbols))

-- how many input sections the first file has whose range contains symbol i
abbrev pub count_in : List File → ℕ → Option ℕ
count_in [] i = None
count_in (f ∷ fs) i = if nat_le f.first_symbol i && nat_lt i (f.first_symbol + f.symbol_count) then Some (length f.sections) else count_in fs i
