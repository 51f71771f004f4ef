-- The symbols of a file: its range, those whose slots it writes, those that it adds to tables, and its copies.
--   range_of ss f         the symbols of a file
--   own_symbols l f       those whose slots it writes
--   loaded_symbols l f    the symbols of a file, if it is loaded
--   copies_of f           the symbols that are copied from a library
--   first_double_copy l ..     the first group that copies a symbol a second time
use Rattle.std.specs.Prelude.{ℕ, ◌+◌, ◌==◌, ◌&&◌, if◌then◌else◌, List, [], ◌∷◌, take, drop, Option, Some, None, Bool, true, not, ◌++◌, map, flat_map, slice_range}
use Rattle.wild_types.specs.declared.symbol.Symbol.{Symbol}
use Rattle.wild_types.specs.declared.file.File.{File}
use Rattle.wild_types.specs.declared.file.Group.{Group}
use Rattle.wild_types.specs.declared.layout.Layout.{Layout}
use Rattle.std.specs.List.{flat_map, list_any}
use Rattle.wild_types.specs.FileRoles.{is_library, writes_slots, is_loaded_file}
use Rattle.wild_types.specs.Lookups.{canonical}

-- the symbols of the file's range
abbrev pub range_of : List Symbol → File → List Symbol
range_of symbols f = take f.symbol_count (drop f.first_symbol symbols)

-- the symbols whose slots the file writes
abbrev pub own_symbols : Layout → File → List Symbol
own_symbols l f = if writes_slots f.role then slice_range l.symbols f.first_symbol (f.first_symbol + f.symbol_count) else []

-- the symbols of a file, if it is loaded
abbrev pub loaded_symbols : Layout → File → List Symbol
loaded_symbols l f = if is_loaded_file f.role then range_of l.symbols f else []

-- the symbols that are copied from a library into the output
abbrev pub copies_of : File → List ℕ
copies_of f = if is_library f.role then f.copies else []

-- the definitions of the symbols that the files of a group copy
abbrev pub copied_definitions : Layout → Group → List ℕ
copied_definitions l g = flat_map (λ (f : File). map (canonical l) f.copies) g.files

-- the items are distinct, and none is in the first list
abbrev pub are_distinct_from : List ℕ → List ℕ → Bool
are_distinct_from earlier [] = true
are_distinct_from earlier (c ∷ cs) = not (list_any (λ d. d == c) earlier) && are_distinct_from (earlier ++ c ∷ []) cs

-- the first group that copies a definition which it, or a group before it, has copied already
abbrev pub first_double_copy : Layout → List ℕ → ℕ → List Group → Option ℕ
first_double_copy l earlier i [] = None
first_double_copy l earlier i (g ∷ gs) = if are_distinct_from earlier (copied_definitions l g) then first_double_copy l (earlier ++ copied_definitions l g) (i + 1) gs else Some i
