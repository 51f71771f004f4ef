-- Clause 2: counts; and clause 4: the roles that need a part.
--   lists_fit l       no list is too long
--   table_fits l      the dynamic symbol table is not too long
--   counts_fit l      no string table is too long either
--   role_has_needed_part l r    a part of role r exists, or no bytes have to be written in one
use Rattle.std.specs.Prelude.{ℕ, ◌-◌, ◌^◌, ◌==◌, Bool, ◌&&◌, ◌||◌, nat_lt, nat_le, length}
use Rattle.std.specs.List.{list_any}
use Rattle.wild_types.specs.declared.file.File.{File}
use Rattle.wild_types.specs.declared.file.Group.{Group}
use Rattle.wild_types.specs.declared.layout.Layout.{Layout}
use Rattle.wild_types.specs.declared.part.Role.{Role}
use Rattle.wild_types.specs.declared.part.Role.TheVariants as role
use Rattle.wild_needs.specs.DynamicSymbols.{dynamic_symbols}
use Rattle.wild_needs.specs.Needs.{name_bytes, total_share}
use Rattle.wild_types.specs.Lists.{total}
use Rattle.wild_types.specs.Parts.{has_role}
use Rattle.wild_plan_rules.specs.Places.{relocation_count}
use Rattle.wild_needs.specs.Versions.{versions_fit}

-- how many symbols the ranges of a group's files have
abbrev pub symbols_in : File → ℕ
symbols_in f = f.symbol_count

abbrev pub symbols_of : Group → ℕ
symbols_of g = total symbols_in g.files

-- the dynamic symbol table is not too long
abbrev pub table_fits : Layout → Bool
table_fits l = nat_lt (length (dynamic_symbols l)) (2 ^ 32 - 1)

-- no list is too long
abbrev pub lists_fit : Layout → Bool
lists_fit l =
    nat_le 1 (length l.sections) && nat_lt (length l.sections) (2 ^ 31) && nat_le (length l.segments) 65534
    && nat_lt (length l.symbols) (2 ^ 32 - 1) && table_fits l && nat_lt (relocation_count l) (2 ^ 32 - 1)
    && nat_le 1 (length l.groups) && nat_lt (length l.groups) (2 ^ 32 - 1)

-- and each string table ends below 2^32 (gABI, "Symbol Table": st_name)
abbrev pub counts_fit : Layout → Bool
counts_fit l =
    lists_fit l && nat_lt (name_bytes l) (2 ^ 32)
    && nat_lt (total_share l role.Dynstr) (2 ^ 32) && nat_lt (total_share l role.Strtab) (2 ^ 32) && versions_fit l

-- a part of that role exists, or no bytes have to be written in one
abbrev pub role_has_needed_part : Layout → Role → Bool
role_has_needed_part l r = list_any (has_role r) l.parts || total_share l r == 0
