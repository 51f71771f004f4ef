-- The numbers of undefined entries of files and groups in the dynamic symbol table.
--   undefined_of ss f    the number for a file
--   undefined_count l    the number for all files
use Rattle.std.specs.Prelude.{ℕ, ◌+◌, Bool, true, false, List}
use Rattle.wild_types.specs.declared.symbol.Symbol.{Symbol}
use Rattle.wild_types.specs.declared.file.FileRole.{FileRole}
use Rattle.wild_types.specs.declared.file.File.{File}
use Rattle.wild_types.specs.declared.file.Group.{Group}
use Rattle.wild_types.specs.declared.layout.Layout.{Layout}
use Rattle.wild_types.specs.FileSymbols.{range_of}
use Rattle.wild_needs.specs.DynamicSymbols.{is_undefined_entry}
use Rattle.wild_types.specs.Lists.{total}

abbrev pub counted : Bool → ℕ → ℕ
counted true c = c + 1
counted false c = c

abbrev pub count_in : FileRole → List Symbol → ℕ
count_in role ss = total (λ s. counted (is_undefined_entry role s) 0) ss

abbrev pub undefined_of : List Symbol → File → ℕ
undefined_of symbols f = count_in f.role (range_of symbols f)

abbrev pub undefined_of_group : List Symbol → Group → ℕ
undefined_of_group symbols g = total (undefined_of symbols) g.files

abbrev pub undefined_count : Layout → ℕ
undefined_count l = total (undefined_of_group l.symbols) l.groups
