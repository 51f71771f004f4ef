-- Which rewrite rows are applied even if rewriting is off, and which conditions on symbol and addend a rewritten field has.
--   duties_x86_64, duties_aarch64   each row of a machine's table, by its relocation type and what it writes, with its duty
--   RowsHaveDuties                  the rows of the tables have these duties
--   MandatoryRowsAlone              if rewriting is off, only a mandatory row is chosen, and each that is chosen if it is on
--   SuitsField w q                  a field of that relocation type is right for the symbol
--   FieldsSuitSymbols               this holds for each row that is chosen
--   AddendsAreChecked               x86-64: if the row changes bytes around its field, that field is the end of its instruction
use Rattle.std.specs.Prelude.{◌≡◌, ℕ, true, false, ⊤, ◌⊎◌, List, [], ◌∷◌, map, Some, Ok}
use Rattle.wild_records.specs.Abi.Relocation as abi
use Rattle.wild_types.specs.declared.kind.Machine.{Machine}
use Rattle.wild_types.specs.Flags.{has_flag, ifunc, undefined_weak}
use Rattle.wild_types.specs.Kinds.{is_executable}
use Rattle.wild_relax.specs.declared.pattern.LocalForm.TheVariants as local
use Rattle.wild_relax.specs.declared.pattern.Operation.TheVariants.{Mov, Sub, Cmp, Add}
use Rattle.wild_relax.specs.declared.pattern.Prefix.TheVariants.{Rex, Rex2}
use Rattle.wild_relax.specs.declared.row.Distance.TheVariants as distance
use Rattle.wild_relax.specs.declared.row.Duty.{Duty}
use Rattle.wild_relax.specs.declared.row.Duty.TheVariants.{Never, Static, StaticAbsolute, StaticMovable, Always}
use Rattle.wild_relax.specs.declared.row.Goal.TheVariants.{Symbol, Stub}
use Rattle.wild_relax.specs.declared.row.Made.{Made}
use Rattle.wild_relax.specs.declared.row.Made.TheVariants as made
use Rattle.wild_relax.specs.declared.row.Row.{Row}
use Rattle.wild_relax.specs.declared.row.Word.TheVariants as word
use Rattle.wild_relax.specs.declared.row.Written.{Written}
use Rattle.wild_relax.specs.declared.row.Written.TheVariants as written
use Rattle.wild_relax.specs.LinkedPattern.{keeps_bytes}
use Rattle.wild_relax.specs.Question.{Question, relocation_of, is_known, is_own, minus_four}
use Rattle.wild_relax.specs.Relaxation.{chosen_row_of}
use Rattle.wild_relax.specs.Rows.{rows_x86_64, chosen_row_x86_64}
use Rattle.wild_relax.specs.RowsAArch64.{rows_aarch64}
use Rattle.wild_relax.specs.RowSymbols.{is_mandatory}

-- ---- duties

-- the relocation type of a row, what it makes of the bytes, how it writes its field, and when it is applied though rewriting is off
pub record RowDuty : Type 0 where
  pub number : ℕ
  pub made : Made
  pub written : Written
  pub duty : Duty

abbrev pub row_duty : ℕ → Made → Written → Duty → RowDuty
row_duty number made written duty = record { number = number; made = made; written = written; duty = duty }

abbrev pub duty_of_row : Row → RowDuty
duty_of_row row = row_duty row.number row.made row.written row.duty

-- x86-64 psABI, "Linker Optimization"; "ELF Handling For Thread-Local Storage", "Linker Relaxations". The address of an IFUNC is its
-- stub in every output. In a static executable no dynamic linker fills a slot, a pair or a descriptor.
abbrev pub duties_x86_64 : List RowDuty
duties_x86_64 =
    row_duty abi.r_x86_64_pc32 made.Kept written.Plt32 Always
    ∷ row_duty abi.r_x86_64_rex_gotpcrelx (made.Immediate Rex Mov) written.Signed32 StaticAbsolute
    ∷ row_duty abi.r_x86_64_rex_gotpcrelx (made.Immediate Rex Sub) written.Signed32 StaticAbsolute
    ∷ row_duty abi.r_x86_64_rex_gotpcrelx (made.Immediate Rex Cmp) written.Signed32 StaticAbsolute
    ∷ row_duty abi.r_x86_64_rex_gotpcrelx made.Lea written.Pc32 Static
    ∷ row_duty abi.r_x86_64_code_4_gotpcrelx (made.Immediate Rex2 Mov) written.Signed32 StaticAbsolute
    ∷ row_duty abi.r_x86_64_code_4_gotpcrelx (made.Immediate Rex2 Sub) written.Signed32 StaticAbsolute
    ∷ row_duty abi.r_x86_64_code_4_gotpcrelx (made.Immediate Rex2 Cmp) written.Signed32 StaticAbsolute
    ∷ row_duty abi.r_x86_64_code_4_gotpcrelx made.Lea written.Pc32 Static
    ∷ row_duty abi.r_x86_64_gotpcrelx made.MovImmediate written.Unsigned32 Static
    ∷ row_duty abi.r_x86_64_gotpcrelx made.Lea written.Pc32 Static
    ∷ row_duty abi.r_x86_64_gotpcrelx made.DirectCall written.Pc32 StaticMovable
    ∷ row_duty abi.r_x86_64_gotpcrelx made.DirectJump written.Pc32 StaticMovable
    ∷ row_duty abi.r_x86_64_gotpcrel made.Lea written.Pc32 Never
    ∷ row_duty abi.r_x86_64_gottpoff (made.Immediate Rex Mov) written.TpOff32 Static
    ∷ row_duty abi.r_x86_64_gottpoff (made.Immediate Rex Add) written.TpOff32 Never
    ∷ row_duty abi.r_x86_64_code_4_gottpoff (made.Immediate Rex2 Mov) written.TpOff32 Static
    ∷ row_duty abi.r_x86_64_code_4_gottpoff (made.Immediate Rex2 Add) written.TpOff32 Never
    ∷ row_duty abi.r_x86_64_plt32 made.Kept written.Pc32 Static
    ∷ row_duty abi.r_x86_64_pltoff64 made.Kept written.GotOff64 Static
    ∷ row_duty abi.r_x86_64_tlsgd made.LocalExec written.TpOff32 Static
    ∷ row_duty abi.r_x86_64_tlsgd made.LocalExec written.TpOff32 Static
    ∷ row_duty abi.r_x86_64_tlsgd made.LocalExecLarge written.TpOff32 Static
    ∷ row_duty abi.r_x86_64_tlsgd made.InitialExec written.GotTpOff Never
    ∷ row_duty abi.r_x86_64_tlsgd made.InitialExec written.GotTpOff Never
    ∷ row_duty abi.r_x86_64_tlsld (made.ThreadPointer local.Regular) written.Nothing Static
    ∷ row_duty abi.r_x86_64_tlsld (made.ThreadPointer local.Large) written.Nothing Never
    ∷ row_duty abi.r_x86_64_tlsld (made.ThreadPointer local.NoPlt) written.Nothing Static
    ∷ row_duty abi.r_x86_64_gotpc32_tlsdesc (made.Immediate Rex Mov) written.TpOff32 Static
    ∷ row_duty abi.r_x86_64_gotpc32_tlsdesc made.Load written.GotTpOff Static
    ∷ row_duty abi.r_x86_64_code_4_gotpc32_tlsdesc (made.Immediate Rex2 Mov) written.TpOff32 Static
    ∷ row_duty abi.r_x86_64_code_4_gotpc32_tlsdesc made.Load written.GotTpOff Static
    ∷ row_duty abi.r_x86_64_tlsdesc_call made.Nop written.Nothing Static
    ∷ []

-- aaelf64, "Call and Jump relocations", "Thread Local Storage", "Relocation types". A branch to an IFUNC, and a conditional one to a
-- weak symbol that another module may define, go to the stub in every output.
abbrev pub duties_aarch64 : List RowDuty
duties_aarch64 =
    row_duty abi.r_aarch64_plt32 made.Kept (written.Code distance.Plt32 Symbol) Static
    ∷ row_duty abi.r_aarch64_tstbr14 made.Kept (written.Code distance.TstBr14 Stub) Always
    ∷ row_duty abi.r_aarch64_condbr19 made.Kept (written.Code distance.CondBr19 Stub) Always
    ∷ row_duty abi.r_aarch64_jump26 made.Kept (written.Code distance.Jump26 Stub) Always
    ∷ row_duty abi.r_aarch64_jump26 made.Kept (written.Code distance.Jump26 Symbol) Static
    ∷ row_duty abi.r_aarch64_call26 made.Kept (written.Code distance.Call26 Stub) Always
    ∷ row_duty abi.r_aarch64_call26 made.Kept (written.Code distance.Call26 Symbol) Static
    ∷ row_duty abi.r_aarch64_tlsdesc_adr_page21 (made.Code word.Nop) written.Nothing Static
    ∷ row_duty abi.r_aarch64_tlsdesc_ld64_lo12 (made.Code word.Nop) written.Nothing Static
    ∷ row_duty abi.r_aarch64_tlsdesc_add_lo12 (made.Code word.MovzX0) written.TlsLeMovwTprelG1 Static
    ∷ row_duty abi.r_aarch64_tlsdesc_add_lo12 (made.Code word.AdrpX0) written.TlsIeAdrGotTprelPage21 Static
    ∷ row_duty abi.r_aarch64_tlsdesc_call (made.Code word.MovkX0) written.TlsLeMovwTprelG0Nc Static
    ∷ row_duty abi.r_aarch64_tlsdesc_call (made.Code word.LdrX0) written.TlsIeLd64GotTprelLo12Nc Static
    ∷ row_duty abi.r_aarch64_tlsie_adr_gottprel_page21 (made.Code word.Movz) written.TlsLeMovwTprelG1 Never
    ∷ row_duty abi.r_aarch64_tlsie_ld64_gottprel_lo12_nc (made.Code word.Movk) written.TlsLeMovwTprelG0Nc Never
    ∷ row_duty abi.r_aarch64_adr_prel_pg_hi21 (made.Code word.Nop) written.Nothing Never
    ∷ row_duty abi.r_aarch64_add_abs_lo12_nc (made.Code word.Adr) written.AdrPrelLo21 Never
    ∷ []

pub record RowsHaveDuties : Type 0 where
  pub x86_64 : map duty_of_row rows_x86_64 ≡ duties_x86_64
  pub aarch64 : map duty_of_row rows_aarch64 ≡ duties_aarch64

-- ---- the choice if rewriting is off

-- the same, with rewriting off
abbrev pub without_rewriting : Question → Question
without_rewriting q = record q { relax = false }

-- a row that is chosen then is mandatory, and a mandatory row that is chosen with rewriting on is chosen then
pub record MandatoryRowsAlone : Type 0 where
  pub mandatory : (m : Machine) (q : Question) (row : Row) → q.relax ≡ false → chosen_row_of m q ≡ Ok (Some row) → is_mandatory row.duty q ≡ true
  pub kept : (m : Machine) (q : Question) (row : Row) → chosen_row_of m q ≡ Ok (Some row) → is_mandatory row.duty q ≡ true → chosen_row_of m (without_rewriting q) ≡ Ok (Some row)

-- ---- what a field stands for

-- the output's own definition, whose address no resolver gives
pub record IsOwnAddress (q : Question) : Type 0 where
  pub own : is_own q ≡ true
  pub direct : has_flag q.flags ifunc ≡ false

-- its offset from the thread pointer, which only an executable knows ("ELF Handling For Thread-Local Storage", "Local Exec TLS Model")
pub record IsOwnOffset (q : Question) : Type 0 where
  pub own : is_own q ≡ true
  pub executable : is_executable q.kind ≡ true

-- a number that does not move with the output
pub record IsFixedAddress (q : Question) : Type 0 where
  pub address : IsOwnAddress q
  pub known : is_known q ≡ true

-- another module may define the symbol
abbrev pub IsOthers : Question → Type 0
IsOthers q = is_own q ≡ false

-- the field has S or its distance, the offset of the symbol, its stub, or the slot with its offset
abbrev pub SuitsField : Written → Question → Type 0
SuitsField written.Nothing q = ⊤
SuitsField written.Pc32 q = IsOwnAddress q
SuitsField written.GotOff64 q = IsOwnAddress q
SuitsField written.AdrPrelLo21 q = IsOwnAddress q
SuitsField (written.Code d Symbol) q = IsOwnAddress q
SuitsField written.Unsigned32 q = IsFixedAddress q
SuitsField written.Signed32 q = IsFixedAddress q
SuitsField written.TpOff32 q = IsOwnOffset q
SuitsField written.TlsLeMovwTprelG1 q = IsOwnOffset q
SuitsField written.TlsLeMovwTprelG0Nc q = IsOwnOffset q
SuitsField written.Plt32 q = has_flag q.flags ifunc ≡ true
SuitsField (written.Code d Stub) q = (has_flag q.flags ifunc ≡ true) ⊎ ((has_flag q.flags undefined_weak ≡ true) × IsOthers q)
SuitsField written.GotTpOff q = (is_executable q.kind ≡ true) × IsOthers q
SuitsField written.TlsIeAdrGotTprelPage21 q = (is_executable q.kind ≡ true) × IsOthers q
SuitsField written.TlsIeLd64GotTprelLo12Nc q = (is_executable q.kind ≡ true) × IsOthers q

abbrev pub FieldsSuitSymbols : Type 0
FieldsSuitSymbols = (m : Machine) (q : Question) (row : Row) → chosen_row_of m q ≡ Ok (Some row) → SuitsField row.written q

-- ---- addends

-- the instruction's only field is its last four bytes, from whose end a distance counts (x86-64 psABI, "Relocation Types"); the call
-- through a descriptor has no field
abbrev pub AddendsAreChecked : Type 0
AddendsAreChecked = (q : Question) (row : Row) → chosen_row_x86_64 q ≡ Ok (Some row) → keeps_bytes row ≡ false → (row.made ≡ made.Nop → ⊥) → minus_four (relocation_of q).addend ≡ true
