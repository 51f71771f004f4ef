-- The fields of the instruction of a row: its own, and that of the call of a sequence.
use Rattle.wild_references.proofs.Common.{◌≡◌, ℕ, ◌+◌, inl, inr, Bool, true, false, List, [], ◌∷◌, refl, sym, arith, subst, ◌||◌, ◌==◌, not, Option, Some, None, is_some, option_map, Contains, list_all, eqb-true, or_cases, implied, or_other, listed_passes, Formula, x86_64_formula, GeneralForm, Pattern, Row, is_skip, rewrite_of, is_call_number, rows_x86_64, pattern_of, keeps_bytes, IsChanging, form_width, Instruction, by_call, by_slot, by_distance, are_several}
use Rattle.wild_records.specs.Abi.Relocation as abi
use Rattle.wild_relax.specs.declared.pattern.GeneralForm.TheVariants as general
use Rattle.wild_relax.specs.declared.pattern.LocalForm.TheVariants as local
use Rattle.wild_relax.specs.declared.pattern.Pattern.TheVariants as pattern
use Rattle.wild_relax.specs.declared.row.Partner as writer
use Rattle.wild_relax.specs.RowSequences.{form_by}
use Rattle.wild_meaning.specs.Sequence.{Partner}
use Rattle.wild_references.proofs.RewrittenForms.{instruction_by, instruction_of, items_if, some_of}

-- ---- the own field

wide_as : (g f : Formula) (n : ℕ) → Some g ≡ Some f → form_width g.form ≡ n → form_width f.form ≡ n
wide_as g f n h e = (let same : g ≡ f = cc in subst (λ (x : Formula). form_width x.form ≡ n) same e)

abbrev is_wide : Option Formula → ℕ → Bool
is_wide None n = true
is_wide (Some f) n = form_width f.form == n

-- a row that changes bytes has the width of its type
abbrev pub has_its_width : Row → Bool
has_its_width row = keeps_bytes row || is_wide (x86_64_formula row.number) (instruction_of row).width

pub each_has_width : list_all has_its_width rows_x86_64 ≡ true
unfolding x86_64_formula rows_x86_64
each_has_width = refl

pub own_width : (row : Row) (f : Formula) → has_its_width row ≡ true → keeps_bytes row ≡ false → x86_64_formula row.number ≡ Some f → form_width f.form ≡ (instruction_of row).width
own_width row f wide changes h = eqb-true _ _ (subst (λ (o : Option Formula). is_wide o (instruction_of row).width ≡ true) h (or_other (keeps_bytes row) _ wide changes))

-- ---- the call's

abbrev pub partner_for : GeneralForm → ℕ → Partner
partner_for general.Regular n = by_call n
partner_for general.NoPlt n = by_slot n
partner_for general.Large n = by_distance n

-- a property of each relocation type of a call
each_number : (g : GeneralForm) (P : ℕ → Type 0) (n : ℕ) → is_call_number g n ≡ true → (g ≡ general.Regular → P abi.r_x86_64_pc32 × P abi.r_x86_64_plt32) → (g ≡ general.NoPlt → P abi.r_x86_64_gotpcrel × P abi.r_x86_64_gotpcrelx × P abi.r_x86_64_rex_gotpcrelx) → (g ≡ general.Large → P abi.r_x86_64_pltoff64) → P n
each_number general.Regular P n h a b c =
    elim (or_cases (n == abi.r_x86_64_pc32) (n == abi.r_x86_64_plt32) h) [
      | inl e ↦ subst P (sym (eqb-true n abi.r_x86_64_pc32 e)) (a refl).0
      | inr e ↦ subst P (sym (eqb-true n abi.r_x86_64_plt32 e)) (a refl).1
    ]
each_number general.NoPlt P n h a b c =
    elim (or_cases (n == abi.r_x86_64_gotpcrel || n == abi.r_x86_64_gotpcrelx) (n == abi.r_x86_64_rex_gotpcrelx) h) [
      | inr e ↦ subst P (sym (eqb-true n abi.r_x86_64_rex_gotpcrelx e)) (b refl).2
      | inl t ↦ elim (or_cases (n == abi.r_x86_64_gotpcrel) (n == abi.r_x86_64_gotpcrelx) t) [
        | inl e ↦ subst P (sym (eqb-true n abi.r_x86_64_gotpcrel e)) (b refl).0
        | inr e ↦ subst P (sym (eqb-true n abi.r_x86_64_gotpcrelx e)) (b refl).1
      ]
    ]
each_number general.Large P n h a b c = subst P (sym (eqb-true n abi.r_x86_64_pltoff64 h)) (c refl)

call_listed : (g : GeneralForm) (at n : ℕ) → is_call_number g n ≡ true → Contains (partner_for g at).numbers n
call_listed general.Regular at n h = each_number general.Regular (λ (x : ℕ). Contains (partner_for general.Regular at).numbers x) n h (λ e. ((0, omega arith, refl), (1, omega arith, refl))) (λ e. cc) (λ e. cc)
call_listed general.NoPlt at n h = each_number general.NoPlt (λ (x : ℕ). Contains (partner_for general.NoPlt at).numbers x) n h (λ e. cc) (λ e. ((0, omega arith, refl), (1, omega arith, refl), (2, omega arith, refl))) (λ e. cc)
call_listed general.Large at n h = each_number general.Large (λ (x : ℕ). Contains (partner_for general.Large at).numbers x) n h (λ e. cc) (λ e. cc) (λ e. (0, omega arith, refl))

call_width : (g : GeneralForm) (at n : ℕ) → is_call_number g n ≡ true → (f : Formula) → x86_64_formula n ≡ Some f → form_width f.form ≡ (partner_for g at).width
unfolding x86_64_formula
call_width general.Regular at n h = each_number general.Regular (λ (x : ℕ). (f : Formula) → x86_64_formula x ≡ Some f → form_width f.form ≡ 4) n h (λ e. ((λ f k. wide_as _ f 4 k refl), (λ f k. wide_as _ f 4 k refl))) (λ e. cc) (λ e. cc)
call_width general.NoPlt at n h = each_number general.NoPlt (λ (x : ℕ). (f : Formula) → x86_64_formula x ≡ Some f → form_width f.form ≡ 4) n h (λ e. cc) (λ e. ((λ f k. wide_as _ f 4 k refl), (λ f k. wide_as _ f 4 k refl), (λ f k. wide_as _ f 4 k refl))) (λ e. cc)
call_width general.Large at n h = each_number general.Large (λ (x : ℕ). (f : Formula) → x86_64_formula x ≡ Some f → form_width f.form ≡ 8) n h (λ e. cc) (λ e. cc) (λ e. (λ f k. wide_as _ f 8 k refl))

-- an instruction is a sequence, whose call has its field at a place and one of its relocation types
pub record IsPairedBy (o : Instruction) (partner : Option writer.Partner) : Type 0 where
  pub at : ℕ
  pub is : o.partners ≡ partner_for (form_by partner) at ∷ []
  pub distance : ℕ
  pub behind : option_map (λ (c : writer.Partner). c.distance) partner ≡ Some distance
  pub place : (partner_for (form_by partner) at).field ≡ o.field + distance
  pub numbers : (n : ℕ) → is_call_number (form_by partner) n ≡ true → Contains (partner_for (form_by partner) at).numbers n
  pub width : (n : ℕ) (f : Formula) → is_call_number (form_by partner) n ≡ true → x86_64_formula n ≡ Some f → form_width f.form ≡ (partner_for (form_by partner) at).width

abbrev pub IsPaired : Row → Type 0
IsPaired row = IsPairedBy (instruction_of row) row.partner

paired_by : (o : Instruction) (c : writer.Partner) (at : ℕ) → o.partners ≡ partner_for c.form at ∷ [] → (partner_for c.form at).field ≡ o.field + c.distance → IsPairedBy o (Some c)
paired_by o c at is place = record {
  at = at;
  is = is;
  distance = c.distance;
  behind = refl;
  place = place;
  numbers = call_listed c.form at;
  width = λ n f h k. call_width c.form at n h f k;
}

-- where the call is so far behind
abbrev pair_at : (o : Instruction) (c : writer.Partner) (at : ℕ) → o.partners ≡ partner_for c.form at ∷ [] → Option (IsPairedBy o (Some c))
pair_at o c at is = items_if ((partner_for c.form at).field == o.field + c.distance) (λ t. paired_by o c at is (eqb-true _ _ t)) None

abbrev form_pair : (p : Pattern) (n : ℕ) (c : writer.Partner) (form : GeneralForm) → c.form ≡ form → Option (IsPairedBy (instruction_by p n) (Some c))
form_pair (pattern.General general.Regular) n c general.Regular e = pair_at (instruction_by (pattern.General general.Regular) n) c 12 (rw e refl)
form_pair (pattern.General general.NoPlt) n c general.NoPlt e = pair_at (instruction_by (pattern.General general.NoPlt) n) c 12 (rw e refl)
form_pair (pattern.General general.Large) n c general.Large e = pair_at (instruction_by (pattern.General general.Large) n) c 9 (rw e refl)
form_pair (pattern.Local local.Regular) n c general.Regular e = pair_at (instruction_by (pattern.Local local.Regular) n) c 8 (rw e refl)
form_pair (pattern.Local local.NoPlt) n c general.NoPlt e = pair_at (instruction_by (pattern.Local local.NoPlt) n) c 9 (rw e refl)
form_pair (pattern.Local local.Large) n c general.Large e = pair_at (instruction_by (pattern.Local local.Large) n) c 9 (rw e refl)
form_pair p n c form e = None

abbrev pair_by : (p : Pattern) (n : ℕ) (partner : Option writer.Partner) → Option (IsPairedBy (instruction_by p n) partner)
pair_by p n None = None
pair_by p n (Some c) = form_pair p n c c.form refl

abbrev has_pair : Row → Bool
has_pair row = not (is_skip (rewrite_of row).next) || is_some (pair_by (pattern_of row) row.number row.partner)

each_has_pair : list_all has_pair rows_x86_64 ≡ true
unfolding rows_x86_64
each_has_pair = refl

pub paired : (row : Row) → IsChanging row → is_skip (rewrite_of row).next ≡ true → IsPaired row
paired row c h = some_of (pair_by (pattern_of row) row.number row.partner) (implied _ _ (listed_passes has_pair rows_x86_64 row each_has_pair c.listed) h)

-- any other row is of one instruction
abbrev is_single : Row → Bool
is_single row = is_skip (rewrite_of row).next || not (are_several (instruction_of row).partners)

each_is_single : list_all is_single rows_x86_64 ≡ true
unfolding rows_x86_64
each_is_single = refl

none_several : (ps : List Partner) → not (are_several ps) ≡ true → ps ≡ []
none_several [] h = refl
none_several (p ∷ ps) h = cc

pub single : (row : Row) → IsChanging row → is_skip (rewrite_of row).next ≡ false → (instruction_of row).partners ≡ []
single row c h = none_several (instruction_of row).partners (or_other (is_skip (rewrite_of row).next) _ (listed_passes is_single rows_x86_64 row each_is_single c.listed) h)
