-- Clause 19: names contain no zero byte, which would end them (gABI, "String Table").
--   name_fits name           the name has none
--   option_names_fit ..      the names in the options have none; and so on for each kind of name
--   interp_fits path         the path of the interpreter ends with its only zero byte
use Rattle.std.specs.Prelude.{ℕ, ◌==◌, Bool, true, false, not, ◌&&◌, ◌||◌, if◌then◌else◌, List, [], ◌∷◌, length, Option, Some, None}
use Rattle.std.specs.List.{list_all}
use Rattle.wild_types.specs.declared.options.Options.{Options}
use Rattle.wild_types.specs.declared.section.Section.{Section}
use Rattle.wild_types.specs.declared.symbol.Symbol.{Symbol}
use Rattle.wild_types.specs.declared.input.InputSection.{InputSection}
use Rattle.wild_types.specs.declared.file.NeededVersion.{NeededVersion}
use Rattle.wild_types.specs.declared.file.VersionNeeds.{VersionNeeds}
use Rattle.wild_types.specs.declared.file.File.{File}
use Rattle.wild_types.specs.declared.file.Group.{Group}
use Rattle.wild_types.specs.declared.layout.DynamicSymbol.{DynamicSymbol}
use Rattle.wild_types.specs.declared.layout.VersionDefinition.{VersionDefinition}

-- ---- clause 19: names

-- a name has no zero byte (gABI, "String Table")
abbrev pub name_fits : List ℕ → Bool
name_fits name = list_all (λ b. not (b == 0)) name

-- the same for an optional name
abbrev pub optional_name_fits : Option (List ℕ) → Bool
optional_name_fits None = true
optional_name_fits (Some name) = name_fits name

-- the search path and the name of the output
abbrev pub option_names_fit : Options → Bool
option_names_fit o = optional_name_fits o.rpath && optional_name_fits o.soname

abbrev pub section_name_fits : Section → Bool
section_name_fits s = name_fits s.name

abbrev pub symbol_name_fits : Symbol → Bool
symbol_name_fits s = name_fits s.name

abbrev pub input_name_fits : InputSection → Bool
input_name_fits s = name_fits s.name

abbrev pub version_name_fits : NeededVersion → Bool
version_name_fits v = name_fits v.name

abbrev pub needs_names_fit : Option VersionNeeds → Bool
needs_names_fit None = true
needs_names_fit (Some n) = list_all version_name_fits n.versions

-- the names of a file's sections, its own name as a library, and those of the versions needed from it
abbrev pub file_names_fit : File → Bool
file_names_fit f = list_all input_name_fits f.sections && (name_fits f.lib_name && needs_names_fit f.verneed)

abbrev pub group_names_fit : Group → Bool
group_names_fit g = list_all file_names_fit g.files

abbrev pub listed_name_fits : DynamicSymbol → Bool
listed_name_fits d = name_fits d.name

abbrev pub definition_name_fits : VersionDefinition → Bool
definition_name_fits d = name_fits d.name

-- ---- the path of the interpreter

-- the first zero byte is the last byte
abbrev pub ends_with_zero : List ℕ → Bool
ends_with_zero [] = false
ends_with_zero (b ∷ bs) = if b == 0 then length bs == 0 else ends_with_zero bs

-- a path ends with its only zero byte (gABI, "Program Header": PT_INTERP); without bytes there is none
abbrev pub interp_fits : List ℕ → Bool
interp_fits path = length path == 0 || ends_with_zero path
