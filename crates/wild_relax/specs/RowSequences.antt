-- The call of a sequence, whose relocation is the next one ("ELF Handling For Thread-Local Storage", "Linker Relaxations").
--   partner_distance row      the distance from the row's field to the call's field
--   has_its_sequence q row    the bytes and the next relocation are those that the row needs
use Rattle.std.specs.Prelude.{ℕ, ℤ, ◌+◌, ◌==◌, Bool, true, false, not, ◌&&◌, ◌||◌, Option, Some, None, option_map}
use Rattle.wild_records.specs.Abi.Relocation as abi
use Rattle.wild_relax.specs.declared.reference.RelocationInfo.{RelocationInfo}
use Rattle.wild_relax.specs.declared.pattern.GeneralForm.{GeneralForm}
use Rattle.wild_relax.specs.declared.pattern.GeneralForm.TheVariants as general
use Rattle.wild_relax.specs.declared.row.Row.{Row}
use Rattle.wild_relax.specs.declared.row.Partner.{Partner}
use Rattle.wild_relax.specs.Question.{Question, relocation_of, next_of, minus_four, zero}
use Rattle.wild_relax.specs.Pattern.{pattern_matches_before}

-- the distance from the row's field to the call's field
abbrev pub partner_distance : Row → Option ℕ
partner_distance row = option_map (λ (p : Partner). p.distance) row.partner

abbrev pub form_by : Option Partner → GeneralForm
form_by None = general.Regular
form_by (Some p) = p.form

-- the form of the call
abbrev pub call_form : Row → GeneralForm
call_form row = form_by row.partner

-- the relocation types of a call, of a call through a slot, and of a distance of 64 bits
abbrev pub is_call_number : GeneralForm → ℕ → Bool
is_call_number general.Regular n = n == abi.r_x86_64_pc32 || n == abi.r_x86_64_plt32
is_call_number general.NoPlt n = n == abi.r_x86_64_gotpcrel || n == abi.r_x86_64_gotpcrelx || n == abi.r_x86_64_rex_gotpcrelx
is_call_number general.Large n = n == abi.r_x86_64_pltoff64

-- a distance is relative to the end of its four-byte field
abbrev pub is_call_addend : GeneralForm → ℤ → Bool
is_call_addend general.Large a = zero a
is_call_addend other a = minus_four a

unfoldable pub is_partner : GeneralForm → ℕ → RelocationInfo → Bool
is_partner form place next = next.offset == place && next.names_tls_get_addr && is_call_number form next.number && is_call_addend form next.addend

abbrev pub is_partner_at : RelocationInfo → Option Partner → Option RelocationInfo → Bool
is_partner_at r None next = true
is_partner_at r (Some partner) None = false
is_partner_at r (Some partner) (Some next) = minus_four r.addend && is_partner partner.form (r.offset + partner.distance) next

abbrev pub has_partner : Row → Question → Bool
has_partner row q = is_partner_at (relocation_of q) row.partner (next_of q)

unfoldable pub has_its_sequence : Question → Row → Bool
has_its_sequence q row = pattern_matches_before q.bytes (relocation_of q).offset row.needed && (not row.needs_end || minus_four (relocation_of q).addend) && has_partner row q
