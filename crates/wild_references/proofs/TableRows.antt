-- Rows of the table that the laws name, in their places.
use Rattle.wild_references.proofs.Common.{◌≡◌, Bool, true, [], ◌∷◌, List, refl, arith, subst, ◌==◌, Some, Contains, slice_get, r_x86_64_gotpcrel, Row, PLAIN_LEA, GENERAL_NO_PLT, GENERAL_NO_PLT_SLOT, LOCAL_NO_PLT, DESCRIPTOR_CALL, rows_x86_64}
use Rattle.std.specs.List.{filter}
use Rattle.wild_layout.proofs.ChoiceLemmas.{kept_listed, of_one}
use Rattle.wild_relax.specs.declared.table.TheConstants.{LEA_2, DESCRIPTOR, DESCRIPTOR_SLOT, DESCRIPTOR_2, DESCRIPTOR_SLOT_2}

pub general_there : Contains rows_x86_64 GENERAL_NO_PLT
unfolding rows_x86_64
general_there = (21, omega arith, refl)

pub general_slot_there : Contains rows_x86_64 GENERAL_NO_PLT_SLOT
unfolding rows_x86_64
general_slot_there = (24, omega arith, refl)

pub local_there : Contains rows_x86_64 LOCAL_NO_PLT
unfolding rows_x86_64
local_there = (27, omega arith, refl)

pub call_there : Contains rows_x86_64 DESCRIPTOR_CALL
unfolding rows_x86_64
call_there = (32, omega arith, refl)

-- the same by a look-up
pub descriptor_at : slice_get rows_x86_64 28 ≡ Some DESCRIPTOR
unfolding rows_x86_64
descriptor_at = refl

pub descriptor_slot_at : slice_get rows_x86_64 29 ≡ Some DESCRIPTOR_SLOT
unfolding rows_x86_64
descriptor_slot_at = refl

pub descriptor_2_at : slice_get rows_x86_64 30 ≡ Some DESCRIPTOR_2
unfolding rows_x86_64
descriptor_2_at = refl

pub descriptor_slot_2_at : slice_get rows_x86_64 31 ≡ Some DESCRIPTOR_SLOT_2
unfolding rows_x86_64
descriptor_slot_2_at = refl

pub call_at : slice_get rows_x86_64 32 ≡ Some DESCRIPTOR_CALL
unfolding rows_x86_64
call_at = refl

-- that of an instruction with the longer prefix
pub long_there : Contains rows_x86_64 LEA_2
unfolding rows_x86_64
long_there = (8, omega arith, refl)

-- the only row of a relocation type that does not tell the prefix
abbrev has_plain_type : Row → Bool
has_plain_type row = row.number == r_x86_64_gotpcrel

one_plain : filter has_plain_type rows_x86_64 ≡ PLAIN_LEA ∷ []
unfolding rows_x86_64
one_plain = refl

pub plain_is : (row : Row) → Contains rows_x86_64 row → (row.number == r_x86_64_gotpcrel) ≡ true → row ≡ PLAIN_LEA
plain_is row c h = of_one PLAIN_LEA row (subst (λ (rows : List Row). Contains rows row) one_plain (kept_listed has_plain_type rows_x86_64 row c h))
