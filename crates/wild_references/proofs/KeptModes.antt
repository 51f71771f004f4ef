-- Where relocations keep the instructions that a row would write: what that says of the output.
use Rattle.wild_references.proofs.Common.{◌≡◌, ℕ, ◌+◌, ◌⊎◌, inl, inr, Bool, true, false, refl, sym, ap, ◌∙◌, subst, Option, Some, None, Ok, not, ◌||◌, slice_get, cases_Bool, eq-eqb, or_cases, implied, r_x86_64_tlsgd, r_x86_64_tlsld, r_x86_64_tlsdesc_call, InputRelocation, ValueFlags, Layout, has_flag, ifunc, non_interposable, is_executable, is_static_executable, executable, row_of, flags_at, treatment, x86_64_row, Row, GENERAL_NO_PLT, GENERAL_NO_PLT_SLOT, LOCAL_NO_PLT, DESCRIPTOR_CALL, Question, is_mandatory, IsChanging, Decision, Rewritten, question_of, is_thread_type, decided, chosen_listed, rewritten_x86_64, HasDecision, KeepsInstruction, Item, HasFlag, Instruction, IsGetterCall, canonical_is, code_bit, executable_is, flag_is}
use Rattle.wild_words.proofs.Basics.{or_by}
use Rattle.wild_types.specs.declared.kind.Machine.TheVariants as machine
use Rattle.wild_slot.specs.Treatment.{row_treatment}
use Rattle.wild_relax.specs.declared.pattern.GeneralForm.TheVariants as general
use Rattle.wild_relax.specs.declared.pattern.LocalForm.TheVariants as local
use Rattle.wild_relax.specs.declared.pattern.Pattern.TheVariants as pattern
use Rattle.wild_references.proofs.TableRows.{general_there, general_slot_there, local_there, call_there}
use Rattle.wild_references.proofs.RewrittenPlaces.{takes_code, mandatory_static}
use Rattle.wild_layout.proofs.ChoiceLemmas.{is_listed}
use Rattle.wild_references.proofs.WindowRows.{Applied, applied, applied_by}
use Rattle.wild_references.proofs.WindowFields.{row_at}
use Rattle.wild_references.proofs.KeptTables.{is_described_call, keeps_all, by_slot, IsAskedFor, asked_for, asked_before, row_fixed, each_row_fixed, is_fixed}
use Rattle.wild_references.proofs.KeptRelocations.{kept_cases, no_row_applies}

-- ---- what a row that writes other bytes says of the output

-- where a row writes an instruction, rewriting is on, or the output has no loader; it is in code
pub record IsOn (l : Layout) (s : Item) (row : Row) : Type 0 where
  pub taken : (l.options.relax || is_static_executable l.kind) ≡ true
  pub code : executable s.flags ≡ true
  pub thread : row.thread_local ≡ true → is_executable l.kind ≡ true

pub rewritten_on : (l : Layout) (s : Item) (j : ℕ) (q : InputRelocation) (row : Row) (v : ℕ) → l.machine ≡ machine.X86_64 → HasDecision l s j q (Rewritten row v) → IsOn l s row
rewritten_on l s j q row v x86 h =
    let w = rewritten_x86_64 l s j q row v x86 h.listed h.decided in
    let next = slice_get s.relocations (j + 1) in
    let is = row_at l s q next row w.chosen in
    let asked = question_of l s q is.chosen.symbol next in
    let a = applied asked row is.applies in
    let changing : IsChanging row = record { listed = is_listed l s q next row w.chosen; changes = w.changes } in
    record {
      taken = or_by l.options.relax (is_mandatory row.duty asked) (is_static_executable l.kind) a.taken (mandatory_static row asked changing);
      code = takes_code row (executable s.flags) changing a.code;
      thread = implied row.thread_local (is_executable l.kind) a.thread;
    }

-- ---- the call through a descriptor

unnamed_call : (l : Layout) (s : Item) (r : InputRelocation) (d : Decision) → l.machine ≡ machine.X86_64 → r.number ≡ r_x86_64_tlsdesc_call → r.symbol ≡ None → decided l s r ≡ Ok d → ⊥
unfolding decided treatment row_treatment row_of x86_64_row
unnamed_call l s r d x86 number none h = cc (rw (x86, number, none) at h)

-- none keeps its instruction where one is rewritten
pub calls_apart : (l : Layout) (s : Item) (i j : ℕ) (r q : InputRelocation) (d : Decision) (row : Row) (v : ℕ) → l.machine ≡ machine.X86_64 → HasDecision l s i r d → KeepsInstruction d → r.number ≡ r_x86_64_tlsdesc_call → HasDecision l s j q (Rewritten row v) → row.number ≡ r_x86_64_tlsdesc_call → ⊥
calls_apart l s i j r q d row v x86 h k number h' number' = by_symbol r.symbol refl
  where
    next : Option InputRelocation
    next = slice_get s.relocations (i + 1)

    on : IsOn l s row
    on = rewritten_on l s j q row v x86 h'

    is_local : row.thread_local ≡ true
    is_local =
        let w = rewritten_x86_64 l s j q row v x86 h'.listed h'.decided in
        (is_fixed row (chosen_listed l s q (slice_get s.relocations (j + 1)) row w.chosen row_fixed each_row_fixed) w.changes).thread (ap is_described_call number')

    applied_call : (symbol : ℕ) → Applied (question_of l s r symbol next) DESCRIPTOR_CALL
    applied_call symbol = record {
      number = eq-eqb r.number r_x86_64_tlsdesc_call number;
      taken = on.taken;
      code = on.code;
      symbol = refl;
      thread = on.thread is_local;
      value = refl;
      counts = refl;
      stands = refl;
    }

    by_symbol : (o : Option ℕ) → r.symbol ≡ o → ⊥
    by_symbol None e =
        elim (kept_cases l s i r d x86 h k) [
          | inl own ↦ unnamed_call l s r d x86 number e own.made
          | inr x ↦ (let f : None ≡ Some x.chosen.symbol = sym e ∙ x.chosen.named in cc)
        ]
    by_symbol (Some symbol) e = no_row_applies l s i r d symbol DESCRIPTOR_CALL x86 h k (ap keeps_all number) (ap is_thread_type number) e call_there (applied_by (question_of l s r symbol next) DESCRIPTOR_CALL (applied_call symbol))

-- ---- sequences

-- another flag of it
pub other_flag : (l : Layout) (i flag other : ℕ) (b : Bool) → HasFlag l i flag b → HasFlag l i other (has_flag (flags_at l i) other)
other_flag l i flag other b h =
    let e = canonical_is l i h.definition h.defined in
    let listed = h.listed in
    let same : flags_at l i ≡ h.symbol.flags = rw (e, listed) refl in
    record { definition = h.definition; defined = h.defined; symbol = h.symbol; listed = h.listed; flagged = ap (λ (f : ValueFlags). has_flag f other) (sym same) }

-- a sequence whose call goes through a slot does not keep its first instruction where rows stand
pub slot_not_kept : (l : Layout) (s : Item) (i : ℕ) (first second : InputRelocation) (d : Decision) (start : ℕ) (o : Instruction) → l.machine ≡ machine.X86_64 → HasDecision l s i first d → KeepsInstruction d → IsGetterCall l s first second start o → by_slot o ≡ true → (l.options.relax || is_static_executable l.kind) ≡ true → ⊥
slot_not_kept l s i first second d start o x86 h k q slot taken =
    elim (or_cases _ _ slot) [
      | inl x ↦ general_form (asked_for r_x86_64_tlsgd (pattern.General general.NoPlt) o x) (cases_Bool (has_flag (flags_at l q.symbol) non_interposable))
      | inr x ↦ local_form (asked_for r_x86_64_tlsld (pattern.LocalStart local.NoPlt) o x)
    ]
  where
    next : Option InputRelocation
    next = slice_get s.relocations (i + 1)

    asked : Question
    asked = question_of l s first q.symbol next

    plain : not (has_flag (flags_at l q.symbol) ifunc) ≡ true
    plain = let e = flag_is l q.symbol ifunc false q.plain in rw e refl

    code : executable s.flags ≡ true
    code = code_bit s.flags q.stands.code

    general_form : IsAskedFor r_x86_64_tlsgd (pattern.General general.NoPlt) o → (has_flag (flags_at l q.symbol) non_interposable ≡ true) ⊎ (has_flag (flags_at l q.symbol) non_interposable ≡ false) → ⊥
    general_form a (inl own) =
        let number = a.number first.number q.stands.number in
        let all : Applied asked GENERAL_NO_PLT = record {
          number = eq-eqb first.number r_x86_64_tlsgd number;
          taken = taken;
          code = code;
          symbol = plain;
          thread = executable_is l.kind q.executable;
          value = rw own refl;
          counts = refl;
          stands = asked_before r_x86_64_tlsgd (pattern.General general.NoPlt) o s.bytes start first.offset a q.stands.field q.stands.inside q.stands.stands;
        } in
        no_row_applies l s i first d q.symbol GENERAL_NO_PLT x86 h k (ap keeps_all number) (ap is_thread_type number) q.named general_there (applied_by asked GENERAL_NO_PLT all)
    general_form a (inr other) =
        let number = a.number first.number q.stands.number in
        let flag = subst (λ (b : Bool). HasFlag l q.symbol non_interposable b) other (other_flag l q.symbol ifunc non_interposable false q.plain) in
        let relax : l.options.relax ≡ true = q.rewritten number flag in
        let all : Applied asked GENERAL_NO_PLT_SLOT = record {
          number = eq-eqb first.number r_x86_64_tlsgd number;
          taken = rw relax refl;
          code = code;
          symbol = plain;
          thread = executable_is l.kind q.executable;
          value = rw other refl;
          counts = refl;
          stands = asked_before r_x86_64_tlsgd (pattern.General general.NoPlt) o s.bytes start first.offset a q.stands.field q.stands.inside q.stands.stands;
        } in
        no_row_applies l s i first d q.symbol GENERAL_NO_PLT_SLOT x86 h k (ap keeps_all number) (ap is_thread_type number) q.named general_slot_there (applied_by asked GENERAL_NO_PLT_SLOT all)

    local_form : IsAskedFor r_x86_64_tlsld (pattern.LocalStart local.NoPlt) o → ⊥
    local_form a =
        let number = a.number first.number q.stands.number in
        let all : Applied asked LOCAL_NO_PLT = record {
          number = eq-eqb first.number r_x86_64_tlsld number;
          taken = taken;
          code = code;
          symbol = plain;
          thread = executable_is l.kind q.executable;
          value = refl;
          counts = refl;
          stands = asked_before r_x86_64_tlsld (pattern.LocalStart local.NoPlt) o s.bytes start first.offset a q.stands.field q.stands.inside q.stands.stands;
        } in
        no_row_applies l s i first d q.symbol LOCAL_NO_PLT x86 h k (ap keeps_all number) (ap is_thread_type number) q.named local_there (applied_by asked LOCAL_NO_PLT all)
