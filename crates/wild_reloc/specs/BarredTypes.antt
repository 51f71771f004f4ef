-- The relocation types whose fields cannot hold certain addresses (x86-64 psABI, "Position-Independent Code"; aaelf64, "Static
-- relocations"), and the types of branches.
--   is_listed n types       the type is in the list
--   barred_x86_64           types that cannot refer to a symbol that another module may define
--   barred_in_shared_x86_64 types that cannot hold an address in a shared object
--   is_narrow_alone e       on x86-64 the barred types are those with narrow fields
use Rattle.std.specs.Prelude.{ℕ, Bool, true, false, not, ◌==◌, ◌&&◌, if◌then◌else◌, List, [], ◌∷◌}
use Rattle.std.specs.List.{list_any}
use Rattle.wild_records.specs.Abi.Relocation as abi
use Rattle.wild_reloc.specs.Field.{field_width}
use Rattle.wild_reloc.specs.declared.info.RelocationKind.{RelocationKind}
use Rattle.wild_reloc.specs.declared.info.RelocationKind.TheVariants as kinds
use Rattle.wild_reloc.specs.declared.info.RelocationKindInfo.{RelocationKindInfo}

-- the type is in the list
abbrev pub is_listed : ℕ → List ℕ → Bool
is_listed n types = list_any (λ barred. n == barred) types

-- fields that are too narrow for the address of a symbol of another module, or for the distance to it
abbrev pub barred_x86_64 : List ℕ
barred_x86_64 = abi.r_x86_64_8 ∷ abi.r_x86_64_16 ∷ abi.r_x86_64_32 ∷ abi.r_x86_64_32s ∷ abi.r_x86_64_pc8 ∷ abi.r_x86_64_pc16 ∷ abi.r_x86_64_pc32 ∷ []

-- fields that are too narrow for an address at a load base that the loader chooses
abbrev pub barred_in_shared_x86_64 : List ℕ
barred_in_shared_x86_64 = abi.r_x86_64_8 ∷ abi.r_x86_64_16 ∷ abi.r_x86_64_32 ∷ abi.r_x86_64_32s ∷ []

-- the same on AArch64: fields that no dynamic relocation fills, and distances, which the loader does not compute
abbrev pub barred_aarch64 : List ℕ
barred_aarch64 =
    abi.r_aarch64_abs16
    ∷ abi.r_aarch64_abs32
    ∷ abi.r_aarch64_add_abs_lo12_nc
    ∷ abi.r_aarch64_ldst8_abs_lo12_nc
    ∷ abi.r_aarch64_ldst32_abs_lo12_nc
    ∷ abi.r_aarch64_ldst64_abs_lo12_nc
    ∷ abi.r_aarch64_prel16
    ∷ abi.r_aarch64_prel32
    ∷ abi.r_aarch64_prel64
    ∷ []

abbrev pub barred_in_shared_aarch64 : List ℕ
barred_in_shared_aarch64 = abi.r_aarch64_abs16 ∷ abi.r_aarch64_abs32 ∷ []

-- branches: one to an undefined weak symbol continues at the next instruction (aaelf64, "Relocations for control-flow instructions")
abbrev pub branches_aarch64 : List ℕ
branches_aarch64 = abi.r_aarch64_tstbr14 ∷ abi.r_aarch64_condbr19 ∷ abi.r_aarch64_jump26 ∷ abi.r_aarch64_call26 ∷ []

-- ---- on x86-64 the width of the field decides

-- both, or neither
abbrev pub are_same : Bool → Bool → Bool
are_same a b = if a then b else not b

-- the type writes S + A
abbrev pub is_address : RelocationKind → Bool
is_address kinds.Absolute = true
is_address other = false

-- the type writes S + A or S + A - P
abbrev pub is_address_or_distance : RelocationKind → Bool
is_address_or_distance kinds.Absolute = true
is_address_or_distance kinds.Relative = true
is_address_or_distance other = false

-- a type is listed exactly if it writes such a value to fewer than 8 bytes
abbrev pub is_narrow_alone : ℕ × RelocationKindInfo → Bool
is_narrow_alone e = are_same (is_listed e.0 barred_x86_64) (is_address_or_distance e.1.kind && not (field_width e.1 == 8)) && are_same (is_listed e.0 barred_in_shared_x86_64) (is_address e.1.kind && not (field_width e.1 == 8))
