-- A load whose relocation type does not tell its prefix: where the byte before it makes a longer instruction of it.
use Rattle.wild_references.proofs.Common.{◌≡◌, ℕ, zero, suc, ◌+◌, ◌-◌, ◌<◌, ◌≤◌, ◌⊎◌, inl, inr, Bool, true, false, List, [], ◌∷◌, length, take, drop, refl, sym, ◌∙◌, arith, subst, ◌&&◌, ◌==◌, Option, Some, None, All, Contains, slice_range, slice_index, cases_Bool, cases_lt, and_parts, All-nil, All-cons, Machine, InputRelocation, Layout, Formula, PLAIN_LEA, pattern_cells, template_start, IsDecided, Item, formula_of, form_width, InNoField, Word, Set, rex2, with_slot, AddressInSlot, Instruction, IsOwnByte, of_field, instructions_of, HasOriginAddend, IsInstruction, IsSingle, IsOutsideField, WindowsHaveNoOtherField}
use Rattle.wild_records.specs.Abi.Relocation as abi
use Rattle.wild_types.specs.declared.kind.Machine.TheVariants as machine
use Rattle.wild_relax.specs.declared.pattern.Prefix.TheVariants.{Rex}
use Rattle.wild_relax.specs.declared.pattern.Operation.TheVariants as operation
use Rattle.wild_relax.specs.declared.pattern.Pattern.TheVariants as pattern
use Rattle.wild_loader.specs.Instruction as judge
use Rattle.wild_loader.specs.declared.instruction.Cell.TheVariants as judge-cells
use Rattle.wild_references.proofs.RewrittenForms.{covers_all, all_stand}
use Rattle.wild_references.proofs.RewrittenPlaces.{IsPlacedRow, is_code}
use Rattle.wild_references.proofs.RewrittenInInput.{field_is, in_no_field}
use Rattle.wild_references.proofs.RewrittenSingles.{counts, no_longer}
use Rattle.wild_references.proofs.RewrittenSingleInstructions.{free}

-- ---- whether a byte lies in a field

is_beside : (l : Layout) (q : InputRelocation) (k : ℕ) → IsOutsideField l q k ⊎ (IsOutsideField l q k → ⊥)
is_beside l q k = by_formula (formula_of l.machine q.number) refl
  where
    by_formula : (o : Option Formula) → formula_of l.machine q.number ≡ o → IsOutsideField l q k ⊎ (IsOutsideField l q k → ⊥)
    by_formula None e = inl (λ f known. (let z : None ≡ Some f = sym e ∙ known in cc))
    by_formula (Some g) e =
        elim (cases_lt k q.offset) [
          | inl low ↦ inl (λ f known. inl low)
          | inr from ↦ elim (cases_lt k (q.offset + form_width g.form)) [
            | inl inside ↦ inr (λ h. not_both (h g e) from inside)
            | inr behind ↦ inl (λ f known. (let same : g ≡ f = (let z : Some g ≡ Some f = sym e ∙ known in cc) in inr (subst (λ (x : Formula). q.offset + form_width x.form ≤ k) same behind)))
          ]
        ]
      where
        not_both : (k < q.offset) ⊎ (q.offset + form_width g.form ≤ k) → q.offset ≤ k → k < q.offset + form_width g.form → ⊥
        not_both (inl a) b c = omega (arith, a, b)
        not_both (inr a) b c = omega (arith, a, c)

all_or_not : {X : Type 0} (P : X → Type 0) → ((x : X) → P x ⊎ (P x → ⊥)) → (xs : List X) → All P xs ⊎ (All P xs → ⊥)
all_or_not P test [] = inl (All-nil P)
all_or_not P test (x ∷ xs) =
    elim (test x) [
      | inr not_here ↦ inr (λ h. not_here (h 0 x (omega arith)))
      | inl here ↦ elim (all_or_not P test xs) [
        | inl rest ↦ inl (All-cons P x xs here rest)
        | inr not_there ↦ inr (λ h. not_there (λ i d lt. h (suc i) d (omega (arith, lt))))
      ]
    ]

no_field_or : (l : Layout) (s : Item) (k : ℕ) → InNoField l s k ⊎ (InNoField l s k → ⊥)
no_field_or l s k = all_or_not (λ (q : InputRelocation). IsOutsideField l q k) (λ q. is_beside l q k) s.relocations

-- ---- the bytes, with the one before

take_more : (bs : List ℕ) (a n : ℕ) → a < length bs → take (suc n) (drop a bs) ≡ slice_index bs a ∷ take n (drop (suc a) bs)
take_more [] a n h = absurd (omega (arith, h))
take_more (x ∷ xs) zero n h = refl
take_more (x ∷ xs) (suc a) n h = take_more xs a n (omega (arith, h))

pub one_more : (bs : List ℕ) (a n : ℕ) → a < length bs → slice_range bs a (a + suc n) ≡ slice_index bs a ∷ slice_range bs (suc a) (suc a + n)
one_more bs a n h =
    let e : a + suc n - a ≡ suc n = omega arith in
    let f : suc a + n - suc a ≡ n = omega arith in
    rw (e, f) (take_more bs a n h)

-- ---- the longer instruction

abbrev pub wide_load : Instruction
wide_load = of_field (with_slot 0x8b Word Set rex2) 4 AddressInSlot (abi.r_x86_64_gotpcrel ∷ [])

-- what is known of the row beside its start
pub record Plain (l : Layout) (s : Item) (i : ℕ) (r : InputRelocation) (v from : ℕ) : Type 0 where
  pub row : IsPlacedRow l s i r PLAIN_LEA v
  pub start : template_start PLAIN_LEA r ≡ suc from

pub at_field : (l : Layout) (s : Item) (i : ℕ) (r : InputRelocation) (v from : ℕ) → Plain l s i r v from → r.offset ≡ from + 4
at_field l s i r v from t = (let e = field_is l s i r PLAIN_LEA v t.row in let f = t.start in omega (arith, e, f))

pub room : (l : Layout) (s : Item) (i : ℕ) (r : InputRelocation) (v from : ℕ) → Plain l s i r v from → from + 8 ≤ length s.bytes
room l s i r v from t = (let e = t.row.stands.inside in let f = t.start in omega (arith, e, f))

pub bytes_are : (l : Layout) (s : Item) (i : ℕ) (r : InputRelocation) (v from : ℕ) → Plain l s i r v from → slice_range s.bytes from (from + 8) ≡ slice_index s.bytes from ∷ slice_range s.bytes (template_start PLAIN_LEA r) (template_start PLAIN_LEA r + 7)
bytes_are l s i r v from t =
    let inside = room l s i r v from t in
    subst (λ (n : ℕ). slice_range s.bytes from (from + 8) ≡ slice_index s.bytes from ∷ slice_range s.bytes n (n + 7)) (sym t.start) (one_more s.bytes from 7 (omega (arith, inside)))

rest_covers : covers_all (pattern_cells (pattern.Wide Rex operation.Mov)) (judge-cells.From 0 0x7f ∷ judge-cells.Is 0x8b ∷ judge-cells.Slot ∷ judge.field) ≡ true
rest_covers = refl

pub stands_with : (l : Layout) (s : Item) (i : ℕ) (r : InputRelocation) (v from : ℕ) → Plain l s i r v from → (slice_index s.bytes from == 0xd5) ≡ true → judge.matches_cells wide_load.template.cells (slice_range s.bytes from (from + 8)) ≡ true
stands_with l s i r v from t h =
    let old = slice_range s.bytes (template_start PLAIN_LEA r) (template_start PLAIN_LEA r + 7) in
    let rest : judge.matches_cells (judge-cells.From 0 0x7f ∷ judge-cells.Is 0x8b ∷ judge-cells.Slot ∷ judge.field) old ≡ true = all_stand (pattern_cells (pattern.Wide Rex operation.Mov)) (judge-cells.From 0 0x7f ∷ judge-cells.Is 0x8b ∷ judge-cells.Slot ∷ judge.field) old rest_covers t.row.whole.same in
    subst (λ (bs : List ℕ). judge.matches_cells wide_load.template.cells bs ≡ true) (sym (bytes_are l s i r v from t)) (both_stand (slice_index s.bytes from == 0xd5) _ h rest)
  where
    both_stand : (a b : Bool) → a ≡ true → b ≡ true → (a && b) ≡ true
    both_stand true b e f = f
    both_stand false b e f = cc

stands_first : (l : Layout) (s : Item) (i : ℕ) (r : InputRelocation) (v from : ℕ) → Plain l s i r v from → judge.matches_cells wide_load.template.cells (slice_range s.bytes from (from + 8)) ≡ true → (slice_index s.bytes from == 0xd5) ≡ true
stands_first l s i r v from t h =
    let there = subst (λ (bs : List ℕ). judge.matches_cells wide_load.template.cells bs ≡ true) (bytes_are l s i r v from t) h in
    (and_parts (slice_index s.bytes from == 0xd5) _ there).0

-- it stands there, with the byte before in no field
pub record IsWider (l : Layout) (s : Item) (i : ℕ) (r : InputRelocation) (v from : ℕ) : Type 0 where
  pub plain : Plain l s i r v from
  pub prefix : (slice_index s.bytes from == 0xd5) ≡ true
  pub alone : InNoField l s from

wide_alone : WindowsHaveNoOtherField → (l : Layout) (s : Item) (i : ℕ) (r : InputRelocation) (v from : ℕ) → l.machine ≡ machine.X86_64 → IsDecided l s → IsWider l s i r v from → (k : ℕ) → IsOwnByte wide_load k → InNoField l s (from + k)
wide_alone law l s i r v from x86 decided t zero own = (let e : from ≡ from + 0 = omega arith in subst (λ (n : ℕ). InNoField l s n) e t.alone)
wide_alone law l s i r v from x86 decided t (suc k) own =
    let start = t.plain.start in
    let e : template_start PLAIN_LEA r + k ≡ from + suc k = omega (arith, start) in
    let inside = own.inside in
    let low : k < 3 = lower own.beside in
    subst (λ (n : ℕ). InNoField l s n) e (in_no_field law l s i r PLAIN_LEA v k x86 decided t.plain.row (record { inside = omega (arith, inside); beside = inl low; apart = tt }))
  where
    lower : (suc k < 4) ⊎ (8 ≤ suc k) → k < 3
    lower (inl h) = omega (arith, h)
    lower (inr h) = (let inside = own.inside in absurd (omega (arith, h, inside)))

pub wide_stands : WindowsHaveNoOtherField → (l : Layout) (s : Item) (i : ℕ) (r : InputRelocation) (v from : ℕ) → l.machine ≡ machine.X86_64 → IsDecided l s → IsWider l s i r v from → IsInstruction l s r from wide_load
wide_stands law l s i r v from x86 decided t = record {
  code = is_code l s i r PLAIN_LEA v t.plain.row;
  known = subst (λ (m : Machine). Contains (instructions_of m) wide_load) (sym x86) (21, omega arith, refl);
  number = subst (λ (n : ℕ). Contains (abi.r_x86_64_gotpcrel ∷ []) n) (sym t.plain.row.chosen.number) (0, omega arith, refl);
  field = at_field l s i r v from t.plain;
  inside = room l s i r v from t.plain;
  stands = stands_with l s i r v from t.plain t.prefix;
  words = refl;
  counts = subst (λ (m : Machine). HasOriginAddend m AddressInSlot r) (sym x86) (counts l s i r PLAIN_LEA v t.plain.row);
  alone = wide_alone law l s i r v from x86 decided t;
}

pub wide_single : WindowsHaveNoOtherField → (l : Layout) (s : Item) (i : ℕ) (r : InputRelocation) (v from : ℕ) → l.machine ≡ machine.X86_64 → IsDecided l s → IsWider l s i r v from → IsSingle l s r from wide_load
wide_single law l s i r v from x86 decided t = record {
  single = refl;
  stands = wide_stands law l s i r v from x86 decided t;
  longest = λ a o none k. no_longer l s r a abi.r_x86_64_gotpcrel 8 o x86 t.plain.row.chosen.number refl none k;
  free = λ first rest a o q c. free law l s i r first rest PLAIN_LEA v a o x86 decided t.plain.row refl q c;
}

-- ---- one of both

none_at : (l : Layout) (s : Item) (i : ℕ) (r : InputRelocation) (v from a : ℕ) → Plain l s i r v from → (IsInstruction l s r from wide_load → ⊥) → IsInstruction l s r a wide_load → ⊥
none_at l s i r v from a t none h =
    let e = at_field l s i r v from t in
    let f = h.field in
    let same : a ≡ from = omega (arith, e, f) in
    none (subst (λ (n : ℕ). IsInstruction l s r n wide_load) same h)

pub wider_or_not : (l : Layout) (s : Item) (i : ℕ) (r : InputRelocation) (v : ℕ) → IsPlacedRow l s i r PLAIN_LEA v → ((from : ℕ) × IsWider l s i r v from) ⊎ ((a : ℕ) → IsInstruction l s r a wide_load → ⊥)
wider_or_not l s i r v p = by_start (template_start PLAIN_LEA r) refl
  where
    by_start : (n : ℕ) → template_start PLAIN_LEA r ≡ n → ((from : ℕ) × IsWider l s i r v from) ⊎ ((a : ℕ) → IsInstruction l s r a wide_load → ⊥)
    by_start zero e = inr (λ a h. (let f = field_is l s i r PLAIN_LEA v p in let g = h.field in omega (arith, e, f, g)))
    by_start (suc from) e =
        let t : Plain l s i r v from = record { row = p; start = e } in
        elim (cases_Bool (slice_index s.bytes from == 0xd5)) [
          | inr other ↦ inr (λ a h. none_at l s i r v from a t (λ k. (let z = stands_first l s i r v from t k.stands in let y : true ≡ false = sym z ∙ other in cc)) h)
          | inl prefix ↦ elim (no_field_or l s from) [
            | inl alone ↦ inl (from, record { plain = t; prefix = prefix; alone = alone })
            | inr filled ↦ inr (λ a h. none_at l s i r v from a t (λ k. filled (first_alone k)) h)
          ]
        ]
      where
        first_alone : IsInstruction l s r from wide_load → InNoField l s from
        first_alone k = (let z : from + 0 ≡ from = omega arith in subst (λ (n : ℕ). InNoField l s n) z (k.alone 0 (record { inside = omega arith; beside = inl (omega arith); apart = tt })))
