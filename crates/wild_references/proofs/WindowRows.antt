-- The row that stands at a relocation: what was asked of it, and where its field and its bytes lie.
use Rattle.wild_references.proofs.Common.{◌≡◌, ℕ, ◌+◌, ◌≤◌, inl, inr, Bool, true, false, refl, Option, Some, None, Ok, not, ◌&&◌, ◌||◌, ◌==◌, nat_le, if◌then◌else◌, list_all, and_parts, eqb-true, leb-true, or_cases, and_from, is_executable, executable, Formula, x86_64_formula, GeneralForm, Row, Question, relocation_of, minus_four, field_of, pattern_matches_before, takes_value, takes_symbol, partner_distance, call_form, is_call_number, has_its_sequence, rows_x86_64, applies, chosen_row_x86_64, is_mandatory, is_skip, rewrite_of, pattern_of, pattern_size, keeps_bytes, form_width}
use Rattle.wild_relax.specs.declared.pattern.GeneralForm.TheVariants as general
use Rattle.wild_relax.proofs.RowLemmas.{either}
use Rattle.wild_relax.proofs.RoomLemmas.{chosen_is}

-- a row that is chosen stands, with its sequence
pub chosen_stands : (q : Question) (row : Row) → chosen_row_x86_64 q ≡ Ok (Some row) → (applies q row ≡ true) × (has_its_sequence q row ≡ true)
chosen_stands q row e = let c = chosen_is q row e in (c.here, c.whole)

-- ---- what is asked

pub record Applied (q : Question) (row : Row) : Type 0 where
  pub number : ((relocation_of q).number == row.number) ≡ true
  pub taken : (q.relax || is_mandatory row.duty q) ≡ true
  pub code : (not row.in_code || executable q.section_flags) ≡ true
  pub symbol : takes_symbol row.symbol q ≡ true
  pub thread : (not row.thread_local || is_executable q.kind) ≡ true
  pub value : takes_value row.value q ≡ true
  pub counts : (not row.ends || minus_four (relocation_of q).addend) ≡ true
  pub stands : (row.ignores_bytes || pattern_matches_before q.bytes (relocation_of q).offset row.required_bytes) ≡ true

pub applied : (q : Question) (row : Row) → applies q row ≡ true → Applied q row
unfolding applies
applied q row h =
    let a = and_parts _ _ h in
    let b = and_parts _ _ a.0 in
    let c = and_parts _ _ b.0 in
    let d = and_parts _ _ c.0 in
    let e = and_parts _ _ d.0 in
    let f = and_parts _ _ e.0 in
    let g = and_parts _ _ f.0 in
    record { number = g.0; taken = g.1; code = f.1; symbol = e.1; thread = d.1; value = c.1; counts = b.1; stands = a.1 }

pub applied_by : (q : Question) (row : Row) → Applied q row → applies q row ≡ true
unfolding applies
applied_by q row a = and_from _ _ (and_from _ _ (and_from _ _ (and_from _ _ (and_from _ _ (and_from _ _ (and_from _ _ a.number a.taken) a.code) a.symbol) a.thread) a.value) a.counts) a.stands

-- ---- its field

abbrev pub width_by : Option Formula → ℕ
width_by None = 0
width_by (Some f) = form_width f.form

-- how many bytes the field of a relocation type has, by its formula
abbrev pub width_of : ℕ → ℕ
width_of n = width_by (x86_64_formula n)

-- the field lies among the bytes of the pattern
abbrev lies : Row → Bool
lies row = nat_le (field_of (pattern_of row) + width_of row.number) (pattern_size row)

-- how many bytes the field of a call has
abbrev pub call_width : GeneralForm → ℕ
call_width general.Large = 8
call_width other = 4

abbrev call_lies : Row → Option ℕ → Bool
call_lies row None = false
call_lies row (Some distance) = nat_le (field_of (pattern_of row) + distance + call_width (call_form row)) (pattern_size row)

-- the field of a sequence's call lies there too
abbrev calls_well : Row → Bool
calls_well row = if is_skip (rewrite_of row).next then call_lies row (partner_distance row) else true

abbrev pub is_well : Row → Bool
is_well row = (keeps_bytes row || lies row) && calls_well row

pub each_is_well : list_all is_well rows_x86_64 ≡ true
unfolding x86_64_formula rows_x86_64
each_is_well = refl

-- ---- what each row has

pub field_lies : (row : Row) → is_well row ≡ true → keeps_bytes row ≡ false → field_of (pattern_of row) + width_of row.number ≤ pattern_size row
field_lies row h k = let a = and_parts (false || lies row) (calls_well row) (rw k at h) in leb-true _ _ a.0

-- what a row that writes a sequence has
pub record CallsWell (row : Row) : Type 0 where
  pub distance : ℕ
  pub known : partner_distance row ≡ Some distance
  pub lies : field_of (pattern_of row) + distance + call_width (call_form row) ≤ pattern_size row

pub calls_are_well : (row : Row) → is_well row ≡ true → is_skip (rewrite_of row).next ≡ true → CallsWell row
calls_are_well row h k =
    let a = and_parts (keeps_bytes row || lies row) (calls_well row) h in
    distance_is (partner_distance row) refl (rw k at a.1)
  where
    distance_is : (o : Option ℕ) → partner_distance row ≡ o → call_lies row o ≡ true → CallsWell row
    distance_is None e l = cc
    distance_is (Some n) e l = record { distance = n; known = e; lies = leb-true _ _ l }

-- how wide the field of a call is
pub call_width_is : (f : GeneralForm) (n : ℕ) → is_call_number f n ≡ true → width_of n ≡ call_width f
unfolding x86_64_formula
call_width_is general.Regular n h = elim (either 2 4 n h) [ inl e ↦ rw e refl | inr e ↦ rw e refl ]
call_width_is general.NoPlt n h = elim (or_cases (n == 9 || n == 41) (n == 42) h) [ inl x ↦ elim (either 9 41 n x) [ inl e ↦ rw e refl | inr e ↦ rw e refl ] | inr x ↦ rw (eqb-true n 42 x) refl ]
call_width_is general.Large n h = rw (eqb-true n 31 h) refl
