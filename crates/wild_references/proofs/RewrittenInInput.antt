-- An instruction that is rewritten stands in the input, and no relocation fills its own bytes.
use Rattle.wild_references.proofs.Common.{◌≡◌, ℕ, ℤ, ◌+◌, ◌-◌, ◌%◌, ◌^◌, ◌<◌, ◌≤◌, ◌⊎◌, inl, inr, true, List, [], ◌∷◌, get_or, refl, sym, ◌∙◌, arith, subst, option_map, ◌&&◌, Option, Some, None, Ok, slice_get, w64, cast_unsigned, eqb-true, and_parts, cases_eq, slice_get-get_or, Machine, InputRelocation, Layout, Formula, x86_64_formula, GeneralForm, Row, minus_four, field_of, partner_distance, call_form, is_call_number, is_skip, rewrite_of, pattern_of, pattern_size, Decision, Nothing, Field, RelativeAddress, DynamicField, Rewritten, Partner, question_of, choice_of, template_start, chosen_listed, decide_partner, IsDecided, HasDecision, Item, formula_of, form_width, InNoField, IsOutsidePartners, IsOwnByte, IsOutsideField, WindowsHaveNoOtherField}
use lib.IntN.{pos, negsuc}
use Rattle.std.proofs.lemmas.List.Elements.{All-from_get_or}
use Rattle.wild_types.specs.declared.kind.Machine.TheVariants as machine
use Rattle.wild_relax.specs.declared.pattern.GeneralForm.TheVariants as general
use Rattle.wild_relax.specs.Question.{zero}
use Rattle.wild_relax.specs.RowSequences.{is_call_addend, is_partner, is_partner_at, has_partner}
use Rattle.wild_relax.specs.declared.row.Partner as writer
use Rattle.wild_layout.specs.Choice.{is_getter, info_of}
use Rattle.wild_layout.proofs.ChoiceLemmas.{IsSequence}
use Rattle.wild_meaning.specs.Sequence.{Partner as Call}
use Rattle.wild_meaning.specs.Partners.{HasCallAddend}
use Rattle.wild_references.proofs.RewrittenForms.{instruction_of}
use Rattle.wild_references.proofs.RewrittenPairs.{own_width, has_its_width, each_has_width, partner_for, IsPaired, paired}
use Rattle.wild_references.proofs.RewrittenPlaces.{IsPlacedRow, ended, size_is}

-- ---- the call of a sequence

-- the next relocation is that of the call
pub record IsCalled (l : Layout) (row : Row) (r next : InputRelocation) (distance : ℕ) : Type 0 where
  pub place : next.offset ≡ r.offset + distance
  pub getter : is_getter l next.symbol ≡ true
  pub number : is_call_number (call_form row) next.number ≡ true
  pub addend : is_call_addend (call_form row) next.addend ≡ true
  pub ends : minus_four r.addend ≡ true

called_as : (l : Layout) (row : Row) (p : writer.Partner) (r next : InputRelocation) → row.partner ≡ Some p → (minus_four r.addend && is_partner p.form (r.offset + p.distance) (info_of l next)) ≡ true → IsCalled l row r next p.distance
unfolding is_partner
called_as l row p r next e h =
    let t = and_parts (minus_four r.addend) _ h in
    let a = and_parts _ _ t.1 in
    let b = and_parts _ _ a.0 in
    let c = and_parts _ _ b.0 in
    record { place = eqb-true next.offset (r.offset + p.distance) c.0; getter = c.1; number = rw e b.1; addend = rw e a.1; ends = t.0 }

called_by : (l : Layout) (row : Row) (r : InputRelocation) (n : ℕ) (o : Option writer.Partner) (next : Option InputRelocation) → row.partner ≡ o → option_map (λ (p : writer.Partner). p.distance) o ≡ Some n → is_partner_at (info_of l r) o (option_map (info_of l) next) ≡ true → (c : InputRelocation) × (next ≡ Some c) × IsCalled l row r c n
called_by l row r n None next is e h = cc
called_by l row r n (Some p) None is e h = cc
called_by l row r n (Some p) (Some c) is e h =
    let same : p.distance ≡ n = cc in
    (c, refl, subst (λ (k : ℕ). IsCalled l row r c k) same (called_as l row p r c is h))

-- a row of a sequence stands before such a relocation
pub called : (l : Layout) (s : Item) (row : Row) (r : InputRelocation) (k n : ℕ) (next : Option InputRelocation) → partner_distance row ≡ Some n → has_partner row (question_of l s r k next) ≡ true → (c : InputRelocation) × (next ≡ Some c) × IsCalled l row r c n
called l s row r k n None e h = called_by l row r n row.partner None refl e h
called l s row r k n (Some c) e h = called_by l row r n row.partner (Some c) refl e h

-- the call's addend
four_back : (r : InputRelocation) → minus_four r.addend ≡ true → (cast_unsigned w64 r.addend + 4) % 2 ^ 64 ≡ 0
four_back r h = (let e = ended r.addend h in omega (arith, e))

none_there : (a : ℤ) → zero a ≡ true → cast_unsigned w64 a ≡ 0
unfolding zero
none_there (pos n) h = subst (λ (k : ℕ). cast_unsigned w64 (pos k) ≡ 0) (sym (eqb-true n 0 h)) refl
none_there (negsuc n) h = cc

none_back : (r : InputRelocation) → zero r.addend ≡ true → (cast_unsigned w64 r.addend + 0) % 2 ^ 64 ≡ 0
none_back r h = (let e = none_there r.addend h in omega (arith, e))

pub call_addend : (g : GeneralForm) (at : ℕ) (r : InputRelocation) → is_call_addend g r.addend ≡ true → HasCallAddend (partner_for g at).width r
call_addend general.Regular at r h = four_back r h
call_addend general.NoPlt at r h = four_back r h
call_addend general.Large at r h = none_back r h

-- ---- fields beside an own byte

start_field : (offset back start field : ℕ) → back ≤ offset → start ≡ offset - back → field ≡ back → offset ≡ start + field
start_field offset back start field h e f = omega (arith, h, e, f)

pub field_is : (l : Layout) (s : Item) (i : ℕ) (r : InputRelocation) (row : Row) (v : ℕ) → IsPlacedRow l s i r row v → r.offset ≡ template_start row r + (instruction_of row).field
field_is l s i r row v p = start_field r.offset (field_of (pattern_of row)) (template_start row r) (instruction_of row).field p.stands.before refl p.fits.field

-- a byte is beside a field of the instruction, of another's width
outside_field : (k start field width offset w : ℕ) → offset ≡ start + field → w ≡ width → (k < field) ⊎ (field + width ≤ k) → (start + k < offset) ⊎ (offset + w ≤ start + k)
outside_field k start field width offset w e f (inl h) = inl (omega (arith, e, h))
outside_field k start field width offset w e f (inr h) = inr (omega (arith, e, f, h))

formula_here : (m : Machine) (n : ℕ) (f : Formula) → m ≡ machine.X86_64 → formula_of m n ≡ Some f → x86_64_formula n ≡ Some f
formula_here m n f e h = subst (λ (x : Machine). formula_of x n ≡ Some f) e h

own_beside : (l : Layout) (s : Item) (i : ℕ) (r : InputRelocation) (row : Row) (v k : ℕ) → l.machine ≡ machine.X86_64 → IsPlacedRow l s i r row v → IsOwnByte (instruction_of row) k → IsOutsideField l r (template_start row r + k)
own_beside l s i r row v k x86 p own = λ f known.
    let here = subst (λ (n : ℕ). x86_64_formula n ≡ Some f) p.chosen.number (formula_here l.machine r.number f x86 known) in
    outside_field k (template_start row r) (instruction_of row).field (instruction_of row).width r.offset (form_width f.form) (field_is l s i r row v p) (own_width row f (chosen_listed l s r (slice_get s.relocations (i + 1)) row p.chosen has_its_width each_has_width) p.made.changes here) own.beside

by_partner : (k : ℕ) (cs : List Call) (c : Call) → cs ≡ c ∷ [] → IsOutsidePartners k cs → (k < c.field) ⊎ (c.field + c.width ≤ k)
by_partner k cs c e h = (subst (λ (xs : List Call). IsOutsidePartners k xs) e h).0

-- the relocation behind a row that is taken along
pub record IsTaken (l : Layout) (row : Row) (r next : InputRelocation) : Type 0 where
  pub pair : IsPaired row
  pub call : IsCalled l row r next pair.distance

pub taken_call : (l : Layout) (s : Item) (i : ℕ) (r next : InputRelocation) (row : Row) (v : ℕ) → IsPlacedRow l s i r row v → is_skip (rewrite_of row).next ≡ true → slice_get s.relocations (i + 1) ≡ Some next → IsTaken l row r next
taken_call l s i r next row v p skips listed =
    let pair = paired row p.changing skips in
    let c = called l s row r p.chosen.symbol pair.distance (slice_get s.relocations (i + 1)) pair.behind p.stands.taken.partner in
    let same : c.0 ≡ next = (let e : Some c.0 ≡ Some next = sym c.1 ∙ listed in cc) in
    record { pair = pair; call = subst (λ (x : InputRelocation). IsCalled l row r x pair.distance) same c.2 }

pub call_place : (l : Layout) (s : Item) (i : ℕ) (r next : InputRelocation) (row : Row) (v : ℕ) → IsPlacedRow l s i r row v → (t : IsTaken l row r next) → next.offset ≡ template_start row r + (partner_for (call_form row) t.pair.at).field
call_place l s i r next row v p t =
    let a = field_is l s i r row v p in
    let b = t.call.place in
    let c = t.pair.place in
    omega (arith, a, b, c)

-- the row of the relocation before a call is the one that takes it along
pub skips_next : (l : Layout) (s : Item) (i : ℕ) (r next : InputRelocation) (row : Row) (v : ℕ) → IsPlacedRow l s i r row v → HasDecision l s (i + 1) next Partner → is_skip (rewrite_of row).next ≡ true
skips_next l s i r next row v p h =
    let t = decide_partner l s (i + 1) next h.listed h.decided in
    let at : t.0 ≡ i = (let e : i + 1 ≡ t.0 + 1 = t.1 in omega (arith, e)) in
    by_row t.2 (subst (λ (j : ℕ). IsSequence l s j t.2) at t.3)
  where
    by_row : (w : Row) → IsSequence l s i w → is_skip (rewrite_of row).next ≡ true
    by_row w q =
        let one : q.relocation ≡ r = (let e : Some q.relocation ≡ Some r = sym q.listed ∙ p.has.listed in cc) in
        let is : choice_of l s r (slice_get s.relocations (i + 1)) ≡ Ok (Some w) = subst (λ (x : InputRelocation). choice_of l s x (slice_get s.relocations (i + 1)) ≡ Ok (Some w)) one q.is in
        let same : w ≡ row = (let e : Ok (Some w) ≡ Ok (Some row) = sym is ∙ p.chosen.choice in cc) in
        subst (λ (x : Row). is_skip (rewrite_of x).next ≡ true) same q.takes

taken_beside : (l : Layout) (s : Item) (i : ℕ) (r next : InputRelocation) (row : Row) (v k : ℕ) → l.machine ≡ machine.X86_64 → IsPlacedRow l s i r row v → IsOwnByte (instruction_of row) k → HasDecision l s (i + 1) next Partner → IsOutsideField l next (template_start row r + k)
taken_beside l s i r next row v k x86 p own h =
    let t = taken_call l s i r next row v p (skips_next l s i r next row v p h) h.listed in
    let c = partner_for (call_form row) t.pair.at in
    λ f known. outside_field k (template_start row r) c.field c.width next.offset (form_width f.form) (call_place l s i r next row v p t) (t.pair.width next.number f t.call.number (formula_here l.machine next.number f x86 known)) (by_partner k (instruction_of row).partners c t.pair.is own.apart)

-- ---- every other relocation's

is_call : (d : Decision) → (d ≡ Partner) ⊎ (d ≡ Partner → ⊥)
is_call Nothing = inr (λ e. cc)
is_call (Field size v) = inr (λ e. cc)
is_call (RelativeAddress v packed) = inr (λ e. cc)
is_call (DynamicField size number symbol addend) = inr (λ e. cc)
is_call (Rewritten row v) = inr (λ e. cc)
is_call Partner = inl refl

each_beside : WindowsHaveNoOtherField → (l : Layout) (s : Item) (i j : ℕ) (r q : InputRelocation) (row : Row) (v k : ℕ) (d : Decision) → l.machine ≡ machine.X86_64 → IsDecided l s → IsPlacedRow l s i r row v → IsOwnByte (instruction_of row) k → HasDecision l s j q d → IsOutsideField l q (template_start row r + k)
each_beside law l s i j r q row v k d x86 decided p own h =
    let size = size_is l s i r row v p in
    let inside = own.inside in
    let low : template_start row r ≤ template_start row r + k = omega arith in
    let high : template_start row r + k < template_start row r + pattern_size row = omega (arith, size, inside) in
    elim (cases_eq i j) [
      | inl e ↦
          (let there : slice_get s.relocations i ≡ Some q = subst (λ (x : ℕ). slice_get s.relocations x ≡ Some q) (sym e) h.listed in
          let same : r ≡ q = (let z : Some r ≡ Some q = sym p.has.listed ∙ there in cc) in
          subst (λ (x : InputRelocation). IsOutsideField l x (template_start row r + k)) same (own_beside l s i r row v k x86 p own))
      | inr other ↦ elim (is_call d) [
        | inr plain ↦ law l s decided i j r q row v d p.has h other (λ e c. plain c) (template_start row r + k) low high
        | inl call ↦ elim (cases_eq j (i + 1)) [
          | inr far ↦ law l s decided i j r q row v d p.has h other (λ e c. far e) (template_start row r + k) low high
          | inl next ↦
              (let at : HasDecision l s (i + 1) q Partner = subst (λ (x : ℕ). HasDecision l s x q Partner) next (subst (λ (x : Decision). HasDecision l s j q x) call h) in
              taken_beside l s i r q row v k x86 p own at)
        ]
      ]
    ]

pub in_no_field : WindowsHaveNoOtherField → (l : Layout) (s : Item) (i : ℕ) (r : InputRelocation) (row : Row) (v k : ℕ) → l.machine ≡ machine.X86_64 → IsDecided l s → IsPlacedRow l s i r row v → IsOwnByte (instruction_of row) k → InNoField l s (template_start row r + k)
in_no_field law l s i r row v k x86 decided p own =
    All-from_get_or (λ (q : InputRelocation). IsOutsideField l q (template_start row r + k)) s.relocations r (λ j lt.
    let d = decided.each j lt in
    each_beside law l s i j r (get_or s.relocations j r) row v k d.0 x86 decided p own (record { listed = slice_get-get_or s.relocations j r lt; decided = d.1 }))
