-- What code means at a loaded address, by what it means at its address in the layout.
use Rattle.wild_checker.proofs.Common.{◌≡◌, ℕ, ◌+◌, ◌-◌, ◌%◌, ◌^◌, ◌<◌, ◌⊎◌, ◌&&◌, inl, inr, Bool, true, false, List, [], ◌∷◌, ◌++◌, length, nat_le, refl, sym, ap, ◌∙◌, arith, subst, Option, Some, None, if◌then◌else◌, ◌==◌, ⊤, eq-eqb, eqb-true, and_parts, Number, Word, World, matches_cells, Outline, Term, number_term, sum, difference, based, value_of, IsWorldOf, based_is, sums_are, differences_are}
use Rattle.std.proofs.lemmas.Bool.{cases_Bool}
use Rattle.wild_loader.specs.declared.instruction.Action.{Action}
use Rattle.wild_loader.specs.declared.instruction.Deed.{Deed}
use Rattle.wild_loader.specs.declared.instruction.Deed.TheVariants.{Set, Add, Subtract, Compare, Call, Jump}
use Rattle.wild_loader.specs.declared.instruction.Operand.{Operand}
use Rattle.wild_loader.specs.declared.instruction.Operand.TheVariants.{Pair, Offset}
use Rattle.wild_loader.specs.Effect.{first_match}
use Rattle.wild_loader.specs.Instruction.{Template, template_fills, first_meaning, sum_64, signed_at}
use Rattle.wild_loader.specs.CodeX86_64.{Prefix, no_prefix, rex, rex2, with_slot, with_immediate, with_prefix, branch}
use Rattle.wild_loader.specs.InstructionX86_64.{whole_sequences, branches, short, templates_x86_64, meaning_x86_64}
use Rattle.wild_checker.specs.Rewritten.{nop, action_by, code_action, same_deed, operand_term, is_no_difference, is_low}

some_is : {X : Type 0} (x y : X) → (let o : Option X = Some x in o) ≡ Some y → x ≡ y
some_is x y h = cc

-- ---- the meaning of code

no_fill : (t : Template) (bs : List ℕ) → matches_cells t.cells bs ≡ false → template_fills nop t bs ≡ false
no_fill t bs e =
    elim (cases_Bool (nat_le (length t.cells) (length bs))) [
      | inl y ↦ rw (y, e) refl
      | inr n ↦ rw n refl
    ]

filled_first : (ts : List Template) (t : Template) (a : ℕ) (bs : List ℕ) → first_match ts bs ≡ Some t → template_fills nop t bs ≡ true → first_meaning nop ts a bs ≡ Some (t.action a bs)
unfolding first_match
filled_first [] t a bs h fills = cc
filled_first (x ∷ ts) t a bs h fills = by (filled_first ts t a bs) (matches_cells x.cells bs) refl h
  where
    by : (first_match ts bs ≡ Some t → template_fills nop t bs ≡ true → first_meaning nop ts a bs ≡ Some (t.action a bs)) → (b : Bool) → matches_cells x.cells bs ≡ b → (if b then Some x else first_match ts bs) ≡ Some t → first_meaning nop (x ∷ ts) a bs ≡ Some (t.action a bs)
    by rest true e h =
        let same : x ≡ t = some_is x t h in
        let own : template_fills nop x bs ≡ true = subst (λ (y : Template). template_fills nop y bs ≡ true) (sym same) fills in
        rw own (ap (λ (y : Template). Some (y.action a bs)) same)
    by rest false e h = let none = no_fill x bs e in rw none (rest h fills)

-- the template that code is
record IsCode (bs : List ℕ) : Type 0 where
  template : Template
  first : first_match templates_x86_64 bs ≡ Some template
  fills : template_fills nop template bs ≡ true

is_code : (a : ℕ) (bs : List ℕ) (act : Action) → code_action a bs ≡ Some act → (c : IsCode bs) × (c.template.action a bs ≡ act)
is_code a bs act h = by (first_match templates_x86_64 bs) refl h
  where
    by_test : (t : Template) → first_match templates_x86_64 bs ≡ Some t → (b : Bool) → template_fills nop t bs ≡ b → (if b then Some (t.action a bs) else None) ≡ Some act → (c : IsCode bs) × (c.template.action a bs ≡ act)
    by_test t e false f h = cc
    by_test t e true f h = (record { template = t; first = e; fills = f }, some_is (t.action a bs) act h)

    by : (o : Option Template) → first_match templates_x86_64 bs ≡ o → action_by a bs o ≡ Some act → (c : IsCode bs) × (c.template.action a bs ≡ act)
    by None e h = cc
    by (Some t) e h = by_test t e (template_fills nop t bs) refl h

code_acts : (a : ℕ) (bs : List ℕ) → (c : IsCode bs) → code_action a bs ≡ Some (c.template.action a bs)
code_acts a bs c = let e = c.first in let f = c.fills in rw (e, f) refl

means_at : (a : ℕ) (bs : List ℕ) → (c : IsCode bs) → meaning_x86_64 a bs ≡ Some (c.template.action a bs)
unfolding meaning_x86_64
means_at a bs c = filled_first templates_x86_64 c.template a bs c.first c.fills

-- ---- operands by the address of the code

-- relative to the place, or a number in the code, or in memory
abbrev IsMoving : Template → Type 0
IsMoving t = (e : ℕ) × (d : List ℕ → ℕ) × ((a : ℕ) (bs : List ℕ) → (t.action a bs).operand ≡ Number (sum_64 (a + e) (d bs)))

abbrev IsStill : Template → Type 0
IsStill t = (n : List ℕ → ℕ) × ((a : ℕ) (bs : List ℕ) → (t.action a bs).operand ≡ Number (n bs))

abbrev HasNoNumber : Template → Type 0
HasNoNumber t = (a : ℕ) (bs : List ℕ) (n : ℕ) → (t.action a bs).operand ≡ Number n → ⊥

record IsPlaceable (t : Template) : Type 0 where
  deed : (a b : ℕ) (bs : List ℕ) → (t.action a bs).deed ≡ (t.action b bs).deed
  width : (a b : ℕ) (bs : List ℕ) → (t.action a bs).width ≡ (t.action b bs).width
  operand : IsMoving t ⊎ (IsStill t ⊎ HasNoNumber t)

moving : {t : Template} → ((a b : ℕ) (bs : List ℕ) → (t.action a bs).deed ≡ (t.action b bs).deed) → ((a b : ℕ) (bs : List ℕ) → (t.action a bs).width ≡ (t.action b bs).width) → IsMoving t → IsPlaceable t
moving d w m = record { deed = d; width = w; operand = inl m }

still : {t : Template} → ((a b : ℕ) (bs : List ℕ) → (t.action a bs).deed ≡ (t.action b bs).deed) → ((a b : ℕ) (bs : List ℕ) → (t.action a bs).width ≡ (t.action b bs).width) → IsStill t → IsPlaceable t
still d w m = record { deed = d; width = w; operand = inr (inl m) }

in_memory : {t : Template} → ((a b : ℕ) (bs : List ℕ) → (t.action a bs).deed ≡ (t.action b bs).deed) → ((a b : ℕ) (bs : List ℕ) → (t.action a bs).width ≡ (t.action b bs).width) → HasNoNumber t → IsPlaceable t
in_memory d w m = record { deed = d; width = w; operand = inr (inr m) }

no_word : (a n : ℕ) → (let x : Operand = Word a in x) ≡ Number n → ⊥
no_word a n h = cc

no_pair : (a n : ℕ) → (let x : Operand = Pair a in x) ≡ Number n → ⊥
no_pair a n h = cc

slot_word : (opcode : ℕ) (deed : ℕ → Deed) (p : Prefix) → IsPlaceable (with_slot opcode Word deed p)
slot_word opcode deed p = in_memory (λ a b bs. refl) (λ a b bs. refl) (λ a bs n h. no_word _ n h)

slot_address : (opcode : ℕ) (deed : ℕ → Deed) (p : Prefix) → IsPlaceable (with_slot opcode Number deed p)
slot_address opcode deed p = moving (λ a b bs. refl) (λ a b bs. refl) (length p.cells + 6, (λ bs. signed_at bs (length p.cells + 2)), λ a bs. refl)

immediate : (opcode digit : ℕ) (deed : ℕ → Deed) (p : Prefix) → IsPlaceable (with_immediate opcode digit deed p)
immediate opcode digit deed p = still (λ a b bs. refl) (λ a b bs. refl) ((λ bs. signed_at bs (length p.cells + 2)), λ a bs. refl)

branch_address : (opcode : List ℕ) (deed : Deed) → IsPlaceable (branch opcode Number deed)
branch_address opcode deed = moving (λ a b bs. refl) (λ a b bs. refl) (length opcode + 4, (λ bs. signed_at bs (length opcode)), λ a bs. refl)

branch_word : (opcode : List ℕ) (deed : Deed) → IsPlaceable (branch opcode Word deed)
branch_word opcode deed = in_memory (λ a b bs. refl) (λ a b bs. refl) (λ a bs n h. no_word _ n h)

abbrev Each : (Template → Type 0) → List Template → Type 0
Each P [] = ⊤
Each P (t ∷ ts) = P t × Each P ts

each_append : (P : Template → Type 0) (ts us : List Template) → Each P ts → Each P us → Each P (ts ++ us)
each_append P [] us h k = k
each_append P (t ∷ ts) us h k = (h.0, each_append P ts us h.1 k)

first_has : (P : Template → Type 0) (ts : List Template) (bs : List ℕ) (t : Template) → Each P ts → first_match ts bs ≡ Some t → P t
unfolding first_match
first_has P [] bs t each h = cc
first_has P (x ∷ ts) bs t each h = by (first_has P ts bs t each.1) (matches_cells x.cells bs) h
  where
    by : (first_match ts bs ≡ Some t → P t) → (b : Bool) → (if b then Some x else first_match ts bs) ≡ Some t → P t
    by rest true h = subst P (some_is x t h) each.0
    by rest false h = rest h

with_prefixes : (p : Prefix) → Each IsPlaceable (with_prefix p)
with_prefixes p = (
  slot_word 0x8b Set p,
  (
    slot_word 0x03 Add p,
    (
      slot_word 0x2b Subtract p,
      (
        slot_word 0x3b Compare p,
        (
          slot_address 0x8d Set p,
          (
            immediate 0xc7 0 Set p,
            (
              immediate 0x81 0 Add p,
              (
                immediate 0x81 5 Subtract p,
                (
                  immediate 0x81 7 Compare p,
                  tt,
                ),
              ),
            ),
          ),
        ),
      ),
    ),
  ),
)

sequences : Each IsPlaceable whole_sequences
sequences = (
  in_memory (λ a b bs. refl) (λ a b bs. refl) (λ a bs n h. no_pair _ n h),
  (
    still (λ a b bs. refl) (λ a b bs. refl) ((λ bs. signed_at bs 12), λ a bs. refl),
    (
      still (λ a b bs. refl) (λ a b bs. refl) ((λ bs. 0), λ a bs. refl),
      (
        in_memory (λ a b bs. refl) (λ a b bs. refl) (λ a bs n h. no_pair _ n h),
        (
          in_memory (λ a b bs. refl) (λ a b bs. refl) (λ a bs n h. no_pair _ n h),
          (
            still (λ a b bs. refl) (λ a b bs. refl) ((λ bs. signed_at bs 12), λ a bs. refl),
            (
              in_memory (λ a b bs. refl) (λ a b bs. refl) (λ a bs n h. no_word _ n h),
              (
                in_memory (λ a b bs. refl) (λ a b bs. refl) (λ a bs n h. no_word _ n h),
                (
                  in_memory (λ a b bs. refl) (λ a b bs. refl) (λ a bs n h. no_pair _ n h),
                  (
                    still (λ a b bs. refl) (λ a b bs. refl) ((λ bs. 0), λ a bs. refl),
                    (
                      in_memory (λ a b bs. refl) (λ a b bs. refl) (λ a bs n h. no_pair _ n h),
                      (
                        still (λ a b bs. refl) (λ a b bs. refl) ((λ bs. 0), λ a bs. refl),
                        tt,
                      ),
                    ),
                  ),
                ),
              ),
            ),
          ),
        ),
      ),
    ),
  ),
)

others : Each IsPlaceable (branches ++ short)
others = (
  branch_address (0x67 ∷ 0xe8 ∷ []) Call,
  (
    branch_word (0xff ∷ 0x15 ∷ []) Call,
    (
      branch_word (0xff ∷ 0x25 ∷ []) Jump,
      (
        branch_address (0xe8 ∷ []) Call,
        (
          branch_address (0xe9 ∷ []) Jump,
          (
            still (λ a b bs. refl) (λ a b bs. refl) ((λ bs. 0), λ a bs. refl),
            (
              still (λ a b bs. refl) (λ a b bs. refl) ((λ bs. 0), λ a bs. refl),
              (
                still (λ a b bs. refl) (λ a b bs. refl) ((λ bs. 0), λ a bs. refl),
                tt,
              ),
            ),
          ),
        ),
      ),
    ),
  ),
)

placeable : Each IsPlaceable templates_x86_64
placeable =
    each_append IsPlaceable whole_sequences (with_prefix rex2 ++ (with_prefix rex ++ (with_prefix no_prefix ++ (branches ++ short)))) sequences
    (each_append IsPlaceable (with_prefix rex2) (with_prefix rex ++ (with_prefix no_prefix ++ (branches ++ short))) (with_prefixes rex2)
    (each_append IsPlaceable (with_prefix rex) (with_prefix no_prefix ++ (branches ++ short)) (with_prefixes rex)
    (each_append IsPlaceable (with_prefix no_prefix) (branches ++ short) (with_prefixes no_prefix) others)))

-- ---- code at a loaded address

-- the code's action there
pub record IsMoved (place : ℕ) (bs : List ℕ) (act : Action) : Type 0 where
  pub action : Action
  pub means : meaning_x86_64 place bs ≡ Some action
  pub deed : action.deed ≡ act.deed
  pub width : action.width ≡ act.width

-- whose operand has the value of a term
pub record HasNumber (w : World) (place : ℕ) (bs : List ℕ) (act : Action) (x : Term) : Type 0 where
  pub moved : IsMoved place bs act
  pub number : ℕ
  pub operand : moved.action.operand ≡ Number number
  pub value : number % 2 ^ 64 ≡ value_of w x
  pub small : x.plus < 2 ^ 64

moved_by : (a place : ℕ) (bs : List ℕ) (act : Action) → (c : IsCode bs) → c.template.action a bs ≡ act → IsMoved place bs act
moved_by a place bs act c is =
    let p = first_has IsPlaceable templates_x86_64 bs c.template placeable c.first in
    record {
      action = c.template.action place bs;
      means = means_at place bs c;
      deed = p.deed place a bs ∙ ap (λ (x : Action). x.deed) is;
      width = p.width place a bs ∙ ap (λ (x : Action). x.width) is;
    }

pub moved_code : (a place : ℕ) (bs : List ℕ) (act : Action) → code_action a bs ≡ Some act → IsMoved place bs act
moved_code a place bs act h = let c = is_code a bs act h in moved_by a place bs act c.0 c.1

operand_is : (o : Outline) (x z : Operand) (n m : ℕ) → x ≡ Number n → z ≡ Number m → operand_term o x z ≡ Some (sum (if m == n then number_term 0 else based o 0) n)
operand_is o x z n m e f = rw (e, f) refl

has_number : (o : Outline) (x z : Operand) (t : Term) → operand_term o x z ≡ Some t → (n : ℕ) × (x ≡ Number n)
has_number o (Number n) z t h = (n, refl)
has_number o (Word a) z t h = cc
has_number o (Pair a) z t h = cc
has_number o (Offset a) z t h = cc

sum_small : (t : Term) (n : ℕ) → (sum t n).plus < 2 ^ 64
sum_small t n = omega arith

next_differs : (a e d : ℕ) → ((a + 1 + e + d) % 2 ^ 64 == (a + e + d) % 2 ^ 64) ≡ false
next_differs a e d =
    elim (cases_Bool ((a + 1 + e + d) % 2 ^ 64 == (a + e + d) % 2 ^ 64)) [
      | inl t ↦ absurd (let s = eqb-true ((a + 1 + e + d) % 2 ^ 64) ((a + e + d) % 2 ^ 64) t in omega (arith, s))
      | inr f ↦ f
    ]

placed : (b a e d : ℕ) → (b + a + e + d) % 2 ^ 64 % 2 ^ 64 ≡ ((b + 0) % 2 ^ 64 + (a + e + d) % 2 ^ 64) % 2 ^ 64
placed b a e d = omega arith

reduced : (n : ℕ) → n % 2 ^ 64 ≡ ((0 + 0) % 2 ^ 64 + n) % 2 ^ 64
reduced n = omega arith

pub number_at_place : (o : Outline) (w : World) (a : ℕ) (bs : List ℕ) (y z : Action) (x : Term) → IsWorldOf o w → code_action a bs ≡ Some y → code_action (a + 1) bs ≡ Some z → operand_term o y.operand z.operand ≡ Some x → HasNumber w (w.base + a) bs y x
unfolding moved_by is_code
number_at_place o w a bs y z x world here next h = by p.operand
  where
    c : (c : IsCode bs) × (c.template.action a bs ≡ y)
    c = is_code a bs y here

    t : Template
    t = c.0.template

    p : IsPlaceable t
    p = first_has IsPlaceable templates_x86_64 bs t placeable c.0.first

    after : t.action (a + 1) bs ≡ z
    after = some_is (t.action (a + 1) bs) z (sym (code_acts (a + 1) bs c.0) ∙ next)

    own : (t.action a bs).operand ≡ y.operand
    own = ap (λ (act : Action). act.operand) c.1

    other : (t.action (a + 1) bs).operand ≡ z.operand
    other = ap (λ (act : Action). act.operand) after

    m : IsMoved (w.base + a) bs y
    m = moved_by a (w.base + a) bs y c.0 c.1

    by : IsMoving t ⊎ (IsStill t ⊎ HasNoNumber t) → HasNumber w (w.base + a) bs y x
    by (inl (e, d, is)) =
        let n = sum_64 (a + e) (d bs) in
        let k = sum_64 (a + 1 + e) (d bs) in
        let differs : (k == n) ≡ false = next_differs a e (d bs) in
        let term : Some (sum (if k == n then number_term 0 else based o 0) n) ≡ Some x = sym (operand_is o y.operand z.operand n k (sym own ∙ is a bs) (sym other ∙ is (a + 1) bs)) ∙ h in
        let moved : Some (sum (based o 0) n) ≡ Some x = rw differs at term in
        let same : sum (based o 0) n ≡ x = some_is (sum (based o 0) n) x moved in
        let value : value_of w (sum (based o 0) n) ≡ ((w.base + 0) % 2 ^ 64 + n) % 2 ^ 64 = sums_are w (based o 0) n ∙ ap (λ (v : ℕ). (v + n) % 2 ^ 64) (based_is o w 0 world) in
        record {
          moved = m;
          number = sum_64 (w.base + a + e) (d bs);
          operand = is (w.base + a) bs;
          value = placed w.base a e (d bs) ∙ sym value ∙ ap (value_of w) same;
          small = subst (λ (u : Term). u.plus < 2 ^ 64) same (sum_small (based o 0) n);
        }
    by (inr (inl (f, is))) =
        let n = f bs in
        let equal : (n == n) ≡ true = eq-eqb n n refl in
        let term : Some (sum (if n == n then number_term 0 else based o 0) n) ≡ Some x = sym (operand_is o y.operand z.operand n n (sym own ∙ is a bs) (sym other ∙ is (a + 1) bs)) ∙ h in
        let kept : Some (sum (number_term 0) n) ≡ Some x = rw equal at term in
        let same : sum (number_term 0) n ≡ x = some_is (sum (number_term 0) n) x kept in
        record {
          moved = m;
          number = n;
          operand = is (w.base + a) bs;
          value = reduced n ∙ sym (sums_are w (number_term 0) n) ∙ ap (value_of w) same;
          small = subst (λ (u : Term). u.plus < 2 ^ 64) same (sum_small (number_term 0) n);
        }
    by (inr (inr none)) = let n = has_number o y.operand z.operand x h in absurd (none a bs n.0 (own ∙ n.1))

-- ---- low bits

low_32 : (v u d : ℕ) → v < 2 ^ 64 → u < 2 ^ 64 → (v + (2 ^ 64 - u)) % 2 ^ 64 ≡ d → d % 2 ^ 32 ≡ 0 → u % 2 ^ 32 ≡ v % 2 ^ 32
low_32 v u d a b e z = omega (arith, a, b, e, z)

low_64 : (v u d : ℕ) → v < 2 ^ 64 → u < 2 ^ 64 → (v + (2 ^ 64 - u)) % 2 ^ 64 ≡ d → d ≡ 0 → u ≡ v
low_64 v u d a b e z = omega (arith, a, b, e, z)

half : (n u : ℕ) → n % 2 ^ 64 ≡ u → n % 2 ^ 32 ≡ u % 2 ^ 32
half n u e = omega (arith, e)

pub low_bits : (w : World) (width n : ℕ) (x y : Term) → x.plus < 2 ^ 64 → n % 2 ^ 64 ≡ value_of w x → is_low width x (Some y) ≡ true → n % 2 ^ width ≡ value_of w y % 2 ^ width
low_bits w width n x y small is h = by (difference y x) refl h
  where
    v : value_of w y < 2 ^ 64
    v = omega arith

    u : value_of w x < 2 ^ 64
    u = omega arith

    below : (k : ℕ) → k < 2 ^ 64 → k ≡ k % 2 ^ 64
    below k l = omega (arith, l)

    by_width : (d : ℕ) → difference y x ≡ Some d → (b : Bool) → (width == 32) ≡ b → (if b then d % 2 ^ 32 == 0 else (width == 64 && d == 0)) ≡ true → n % 2 ^ width ≡ value_of w y % 2 ^ width
    by_width d e true t h =
        let narrow : 32 ≡ width = sym (eqb-true width 32 t) in
        let zero = eqb-true (d % 2 ^ 32) 0 h in
        let same = low_32 (value_of w y) (value_of w x) d v u (differences_are w y x d small e) zero in
        subst (λ (k : ℕ). n % 2 ^ k ≡ value_of w y % 2 ^ k) narrow (half n (value_of w x) is ∙ same)
    by_width d e false t h =
        let both = and_parts (width == 64) (d == 0) h in
        let wide : 64 ≡ width = sym (eqb-true width 64 both.0) in
        let zero = eqb-true d 0 both.1 in
        let same = low_64 (value_of w y) (value_of w x) d v u (differences_are w y x d small e) zero in
        subst (λ (k : ℕ). n % 2 ^ k ≡ value_of w y % 2 ^ k) wide (is ∙ same ∙ below (value_of w y) v)

    by : (o : Option ℕ) → difference y x ≡ o → is_no_difference width o ≡ true → n % 2 ^ width ≡ value_of w y % 2 ^ width
    by None e h = cc
    by (Some d) e h = by_width d e (width == 32) refl h

-- ---- deeds

pub deed_is : (a b : Deed) → same_deed a b ≡ true → a ≡ b
deed_is (Set i) (Set j) h = ap Set (eqb-true i j h)
deed_is (Add i) (Add j) h = ap Add (eqb-true i j h)
deed_is (Subtract i) (Subtract j) h = ap Subtract (eqb-true i j h)
deed_is (Compare i) (Compare j) h = ap Compare (eqb-true i j h)
deed_is Call Call h = refl
deed_is Jump Jump h = refl
deed_is a b h = cc
