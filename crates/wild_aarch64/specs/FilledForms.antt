-- Which instruction forms relocation types fill ("ELF for the Arm 64-bit Architecture", "Static AArch64 relocations").
--   filled_forms      relocation types, each with the forms of the words that it fills
--   forms_filled n    the forms of one type; empty if it fills no instruction
use Rattle.std.specs.Prelude.{ℕ, ◌==◌, if◌then◌else◌, List, [], ◌∷◌}
use Rattle.wild_records.specs.Abi.Relocation as abi
use Rattle.wild_aarch64.specs.Slice.{Form}
use Rattle.wild_aarch64.specs.Forms.{adrp, adr, add, add_shifted, movz, movk, movn, ldr, byte_access, half_access, word_access, ldrsw, str, prfm, vector_8, vector_16, vector_32, vector_64, vector_128, literals, branch, call, b_cond, cbz_32, cbz_64, tbz_low, tbz_high}

-- "MOV[KZ]", "MOV[NZ]"
abbrev pub kept_or_zero : List Form
kept_or_zero = movk ∷ movz ∷ []

abbrev pub not_or_zero : List Form
not_or_zero = movn ∷ movz ∷ []

-- loads and stores of 8 to 128 bits ("LD/ST")
abbrev pub of_8 : List Form
of_8 = byte_access ∷ vector_8 ∷ []

abbrev pub of_16 : List Form
of_16 = half_access ∷ vector_16 ∷ []

abbrev pub of_32 : List Form
of_32 = word_access ∷ ldrsw ∷ vector_32 ∷ []

abbrev pub of_64 : List Form
of_64 = ldr ∷ str ∷ prfm ∷ vector_64 ∷ []

abbrev pub of_128 : List Form
of_128 = vector_128 ∷ []

-- the table
abbrev pub filled_forms : List (ℕ × List Form)
filled_forms =
    (abi.r_aarch64_movw_uabs_g0, kept_or_zero)
    ∷ (abi.r_aarch64_movw_uabs_g0_nc, kept_or_zero)
    ∷ (abi.r_aarch64_movw_uabs_g1, kept_or_zero)
    ∷ (abi.r_aarch64_movw_uabs_g1_nc, kept_or_zero)
    ∷ (abi.r_aarch64_movw_uabs_g2, kept_or_zero)
    ∷ (abi.r_aarch64_movw_uabs_g2_nc, kept_or_zero)
    ∷ (abi.r_aarch64_movw_uabs_g3, kept_or_zero)
    ∷ (abi.r_aarch64_ld_prel_lo19, literals)
    ∷ (abi.r_aarch64_adr_prel_lo21, adr ∷ [])
    ∷ (abi.r_aarch64_adr_prel_pg_hi21, adrp ∷ [])
    ∷ (abi.r_aarch64_adr_prel_pg_hi21_nc, adrp ∷ [])
    ∷ (abi.r_aarch64_add_abs_lo12_nc, add ∷ [])
    ∷ (abi.r_aarch64_ldst8_abs_lo12_nc, of_8)
    ∷ (abi.r_aarch64_tstbr14, tbz_low ∷ tbz_high ∷ [])
    ∷ (abi.r_aarch64_condbr19, b_cond ∷ cbz_32 ∷ cbz_64 ∷ [])
    ∷ (abi.r_aarch64_jump26, branch ∷ [])
    ∷ (abi.r_aarch64_call26, call ∷ [])
    ∷ (abi.r_aarch64_ldst16_abs_lo12_nc, of_16)
    ∷ (abi.r_aarch64_ldst32_abs_lo12_nc, of_32)
    ∷ (abi.r_aarch64_ldst64_abs_lo12_nc, of_64)
    ∷ (abi.r_aarch64_ldst128_abs_lo12_nc, of_128)
    ∷ (abi.r_aarch64_adr_got_page, adrp ∷ [])
    ∷ (abi.r_aarch64_ld64_got_lo12_nc, ldr ∷ [])
    ∷ (abi.r_aarch64_ld64_gotpage_lo15, ldr ∷ [])
    ∷ (abi.r_aarch64_tlsgd_adr_page21, adrp ∷ [])
    ∷ (abi.r_aarch64_tlsgd_add_lo12_nc, add ∷ [])
    ∷ (abi.r_aarch64_tlsie_adr_gottprel_page21, adrp ∷ [])
    ∷ (abi.r_aarch64_tlsie_ld64_gottprel_lo12_nc, ldr ∷ [])
    ∷ (abi.r_aarch64_tlsle_movw_tprel_g2, not_or_zero)
    ∷ (abi.r_aarch64_tlsle_movw_tprel_g1, not_or_zero)
    ∷ (abi.r_aarch64_tlsle_movw_tprel_g1_nc, movk ∷ [])
    ∷ (abi.r_aarch64_tlsle_movw_tprel_g0_nc, movk ∷ [])
    ∷ (abi.r_aarch64_tlsle_add_tprel_hi12, add ∷ add_shifted ∷ [])
    ∷ (abi.r_aarch64_tlsle_add_tprel_lo12, add ∷ [])
    ∷ (abi.r_aarch64_tlsle_add_tprel_lo12_nc, add ∷ [])
    ∷ (abi.r_aarch64_tlsle_ldst8_tprel_lo12, of_8)
    ∷ (abi.r_aarch64_tlsle_ldst8_tprel_lo12_nc, of_8)
    ∷ (abi.r_aarch64_tlsle_ldst16_tprel_lo12, of_16)
    ∷ (abi.r_aarch64_tlsle_ldst16_tprel_lo12_nc, of_16)
    ∷ (abi.r_aarch64_tlsle_ldst32_tprel_lo12, of_32)
    ∷ (abi.r_aarch64_tlsle_ldst32_tprel_lo12_nc, of_32)
    ∷ (abi.r_aarch64_tlsle_ldst64_tprel_lo12, of_64)
    ∷ (abi.r_aarch64_tlsle_ldst64_tprel_lo12_nc, of_64)
    ∷ (abi.r_aarch64_tlsdesc_adr_page21, adrp ∷ [])
    ∷ (abi.r_aarch64_tlsdesc_ld64_lo12, ldr ∷ [])
    ∷ (abi.r_aarch64_tlsdesc_add_lo12, add ∷ [])
    ∷ []

abbrev pub forms_at : List (ℕ × List Form) → ℕ → List Form
forms_at [] n = []
forms_at (e ∷ es) n = if n == e.0 then e.1 else forms_at es n

-- the forms of the words that a relocation type fills
abbrev pub forms_filled : ℕ → List Form
forms_filled n = forms_at filled_forms n
