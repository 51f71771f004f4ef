-- Parts by their roles: which are loaded, which hold entries or tables, and properties of the first of a role.
--   role_place r       the index of a role in the list of roles
--   has_role r p       the part has that role
--   part_with r ps     the first part of a role
--   is_loaded_role r   a loader or the program reads the part
--   bytes_in ..        the size of the part if it is in that section
--   has_hashes l       the output has a hash table
use Rattle.std.specs.Prelude.{ℕ, ◌==◌, Bool, true, false, ◌&&◌, if◌then◌else◌, List, [], ◌∷◌, Option, Some, None, nat_le, find}
use Rattle.std.specs.List.{list_any}
use Rattle.wild_types.specs.declared.layout.Layout.{Layout}
use Rattle.wild_types.specs.declared.part.Part.{Part}
use Rattle.wild_types.specs.declared.part.Role.{Role}
use Rattle.wild_types.specs.declared.part.Role.TheVariants as role

-- the index of a role in the list of roles
abbrev pub role_place : Role → ℕ
role_place role.Raw = 0
role_place role.FileHeader = 1
role_place role.ProgramHeaders = 2
role_place role.SectionHeaders = 3
role_place role.Shstrtab = 4
role_place role.Got = 5
role_place role.GotRelr = 6
role_place role.PltGot = 7
role_place role.RelaPlt = 8
role_place role.RelaDynRelative = 9
role_place role.RelaDynGeneral = 10
role_place role.RelrDyn = 11
role_place role.Dynsym = 12
role_place role.Dynstr = 13
role_place role.GnuVersion = 14
role_place role.GnuVersionD = 15
role_place role.GnuVersionR = 16
role_place role.SysvHash = 17
role_place role.GnuHash = 18
role_place role.EhFrame = 19
role_place role.EhFrameHdr = 20
role_place role.Dynamic = 21
role_place role.SymtabLocal = 22
role_place role.SymtabGlobal = 23
role_place role.SymtabShndxLocal = 24
role_place role.SymtabShndxGlobal = 25
role_place role.Strtab = 26
role_place role.Interp = 27
role_place role.BuildId = 28
role_place role.Property = 29

-- the part has that role
abbrev pub has_role : Role → Part → Bool
has_role r p = role_place p.role == role_place r

-- a role of a table that a loader or the program reads: those from the GOT to the dynamic section
abbrev pub is_loaded_role : Role → Bool
is_loaded_role r = nat_le (role_place role.Got) (role_place r) && nat_le (role_place r) (role_place role.Dynamic)

-- the first part of a role
abbrev pub part_with : Role → List Part → Option Part
part_with r parts = find (has_role r) parts

abbrev pub is_entry_role : Role → Bool
is_entry_role role.RelaPlt = true
is_entry_role role.RelaDynRelative = true
is_entry_role role.RelaDynGeneral = true
is_entry_role other = false

-- the parts with relocation entries
abbrev pub entry_parts : List Part → List (Option Part)
entry_parts parts = part_with role.RelaPlt parts ∷ part_with role.RelaDynRelative parts ∷ part_with role.RelaDynGeneral parts ∷ []

-- the size of a part if it is in section k, else 0
abbrev pub bytes_in : ℕ → Option Part → ℕ
bytes_in k None = 0
bytes_in k (Some p) = if p.section == k then p.size else 0

abbrev pub is_table_role : Role → Bool
is_table_role role.RelaPlt = true
is_table_role role.RelaDynRelative = true
is_table_role role.RelaDynGeneral = true
is_table_role role.RelrDyn = true
is_table_role other = false

-- the tables in which a name is looked up: a hash table, the dynamic symbols, and their strings
abbrev pub is_look_up_role : Role → Bool
is_look_up_role role.SysvHash = true
is_look_up_role role.GnuHash = true
is_look_up_role role.Dynsym = true
is_look_up_role role.Dynstr = true
is_look_up_role other = false

abbrev pub is_hash_role : Role → Bool
is_hash_role role.SysvHash = true
is_hash_role role.GnuHash = true
is_hash_role other = false

-- the output has a hash table
abbrev pub has_hashes : Layout → Bool
has_hashes l = list_any (λ (p : Part). is_hash_role p.role) l.parts
