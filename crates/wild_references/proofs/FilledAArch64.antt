-- A word of AArch64 code whose field is filled: it is the input's word with those bits in its field, and does what that is to do.
use Rattle.wild_references.proofs.Common.{◌≡◌, ℕ, suc, ◌+◌, ◌-◌, ◌*◌, ◌/◌, ◌%◌, ◌^◌, ◌⊎◌, inl, inr, Bool, true, false, List, [], ◌∷◌, length, refl, sym, ap, ◌∙◌, subst, arith, ◌==◌, ◌&&◌, ◌||◌, ◌++◌, not, map, Option, Some, None, option_map, option_and_then, Contains, list_all, and_parts, or_cases, number, listed_passes, r_aarch64_jump26, r_aarch64_call26, Formula, Bits, AdrField, Imm12Field, Imm26Field, immediate, others, WithinPower, sign_extended, Reads, Keeps, aarch64_formula, Code, Adrp, Add, Ldr, Blr, has_fixed_bits, read, does, run, meaning, shapes, words_of, Action, Jump, Call, Number, Reader, Effect, effect, with_value, as_value, action_of, has_known_meaning, reads_numbers, form_width}
use Rattle.std.proofs.Common.{eqb-true, eq-eqb}
use Rattle.std.proofs.lemmas.Bool.{or_parts}
use Rattle.wild_reloc.specs.Formula.{Form as FieldForm, Field as Place, Imm14Field, Imm16Field, Imm19Field, ReadsBits}
use Rattle.wild_aarch64.specs.declared.code.Code.TheVariants.{Adr, Movz, Movk, Movn, Access, Literal, B, Bl, BranchIf, Br, Hint}
use Rattle.wild_aarch64.specs.declared.operand.Action as run-action
use Rattle.wild_aarch64.specs.declared.operand.Operand as run-operand
use Rattle.wild_aarch64.specs.declared.operand.Deed.TheVariants as runs
use Rattle.wild_aarch64.specs.Immediate.{Field, word_with_immediate, insert_bits, bits_of_field, Imm12, Imm14, Imm16, Imm19, Imm21, Imm26}
use Rattle.wild_aarch64.specs.Immediate as word
use Rattle.wild_aarch64.specs.Slice.{bits, signed, Fixed, Form}
use Rattle.wild_aarch64.specs.Forms.{branch, call, forms, addresses, accesses, vector_accesses, literals, transfers, conditions}
use Rattle.wild_aarch64.specs.FilledForms.{filled_forms, forms_at, forms_filled}
use Rattle.wild_aarch64.specs.Code.{read_by, read_address, read_access, read_vector_access, read_literal, read_transfer, read_condition}
use Rattle.wild_aarch64.specs.Machine.{goes_on, outcome, set}
use Rattle.wild_aarch64.specs.Effect.{without_immediate}
use Rattle.wild_aarch64.proofs.ListLemmas.{for_each}
use Rattle.wild_aarch64.proofs.FieldLemmas.{forms_are_read, fields_are_written, b_field, bl_field}
use Rattle.wild_loader.specs.InstructionAArch64.{effect_aarch64, demand_aarch64}
use Rattle.wild_meaning.specs.WordsAArch64.{is_of, is_filled, with_field, with_field_of, effect_with}
use Rattle.wild_meaning.specs.Template.{bits_of, CanHave}

-- ---- bits that no word has at once

abbrev differs : Fixed → Fixed → Bool
differs f g = f.low == g.low && (f.count == g.count && not (f.value == g.value))

abbrev clashes : Fixed → List Fixed → Bool
clashes f [] = false
clashes f (g ∷ gs) = differs f g || clashes f gs

abbrev are_apart : List Fixed → List Fixed → Bool
are_apart [] gs = false
are_apart (f ∷ fs) gs = clashes f gs || are_apart fs gs

no_both : (w : ℕ) (f g : Fixed) → differs f g ≡ true → bits f.low f.count w ≡ f.value → bits g.low g.count w ≡ g.value → ⊥
no_both w f g h e k =
    let one = and_parts (f.low == g.low) (f.count == g.count && not (f.value == g.value)) h in
    let two = and_parts (f.count == g.count) (not (f.value == g.value)) one.1 in
    let low : f.low ≡ g.low = eqb-true f.low g.low one.0 in
    let count : f.count ≡ g.count = eqb-true f.count g.count two.0 in
    let there : bits g.low g.count w ≡ f.value = subst (λ (n : ℕ). bits n g.count w ≡ f.value) low (subst (λ (n : ℕ). bits f.low n w ≡ f.value) count e) in
    let same : (f.value == g.value) ≡ true = eq-eqb f.value g.value (sym there ∙ k) in
    let none : not true ≡ true = subst (λ (b : Bool). not b ≡ true) same two.1 in
    cc

no_clash : (w : ℕ) (f : Fixed) (gs : List Fixed) → clashes f gs ≡ true → bits f.low f.count w ≡ f.value → has_fixed_bits gs w ≡ true → ⊥
no_clash w f [] h e s = absurd (let none : false ≡ true = h in cc)
no_clash w f (g ∷ gs) h e s =
    let t = and_parts (bits g.low g.count w == g.value) (has_fixed_bits gs w) s in
    elim (or_cases (differs f g) (clashes f gs) h) [
      | inl d ↦ no_both w f g d e (eqb-true (bits g.low g.count w) g.value t.0)
      | inr c ↦ no_clash w f gs c e t.1
    ]

not_both : (w : ℕ) (fs gs : List Fixed) → are_apart fs gs ≡ true → has_fixed_bits fs w ≡ true → has_fixed_bits gs w ≡ true → ⊥
not_both w [] gs h s t = absurd (let none : false ≡ true = h in cc)
not_both w (f ∷ fs) gs h s t =
    let p = and_parts (bits f.low f.count w == f.value) (has_fixed_bits fs w) s in
    elim (or_cases (clashes f gs) (are_apart fs gs) h) [
      | inl c ↦ no_clash w f gs c (eqb-true (bits f.low f.count w) f.value p.0) t
      | inr a ↦ not_both w fs gs a p.1 t
    ]

-- ---- the form of a word

is_of_none : (fs : List Form) (w : ℕ) → is_of fs w ≡ false → read_by fs w ≡ None
is_of_none [] w h = refl
is_of_none (f ∷ fs) w h =
    let p = or_parts (has_fixed_bits f.fixed w) (is_of fs w) h in
    let rest = is_of_none fs w p.1 in
    rw (p.0, rest) refl

of_both : (xs ys : List Form) (w : ℕ) → is_of (xs ++ ys) w ≡ false → (is_of xs w ≡ false) × (is_of ys w ≡ false)
of_both [] ys w h = (refl, h)
of_both (f ∷ xs) ys w h =
    let p = or_parts (has_fixed_bits f.fixed w) (is_of (xs ++ ys) w) h in
    let q = of_both xs ys w p.1 in
    (rw (p.0, q.0) refl, q.1)

-- a word of no form is no instruction
no_form : (w : ℕ) → is_of forms w ≡ false → read w ≡ None
unfolding read read_address read_access read_vector_access read_literal read_transfer read_condition
no_form w h =
    let a = of_both addresses (accesses ++ (vector_accesses ++ (literals ++ (transfers ++ conditions)))) w h in
    let b = of_both accesses (vector_accesses ++ (literals ++ (transfers ++ conditions))) w a.1 in
    let c = of_both vector_accesses (literals ++ (transfers ++ conditions)) w b.1 in
    let d = of_both literals (transfers ++ conditions) w c.1 in
    let e = of_both transfers conditions w d.1 in
    let one = is_of_none addresses w a.0 in
    let two = is_of_none accesses w b.0 in
    let three = is_of_none vector_accesses w c.0 in
    let four = is_of_none literals w d.0 in
    let five = is_of_none transfers w e.0 in
    let six = is_of_none conditions w e.1 in
    rw (one, two, three, four, five, six) refl

-- the first form that stands, in whose field bits are put
pub record HasForm (fs : List Form) (w : ℕ) : Type 0 where
  pub form : Form
  pub known : Contains fs form
  pub there : has_fixed_bits form.fixed w ≡ true
  pub put : (v : ℕ) → with_field_of fs v w ≡ word_with_immediate form.field v w

first_form : (fs : List Form) (w : ℕ) → is_of fs w ≡ true → HasForm fs w
first_form [] w h = absurd (let none : false ≡ true = h in cc)
first_form (f ∷ fs) w h = by (has_fixed_bits f.fixed w) refl (λ later. first_form fs w later)
  where
    by : (b : Bool) → has_fixed_bits f.fixed w ≡ b → (is_of fs w ≡ true → HasForm fs w) → HasForm (f ∷ fs) w
    by true e rest = record { form = f; known = (0, omega arith, refl); there = e; put = λ v. rw e refl }
    by false e rest =
        let later : is_of fs w ≡ true = rw e at h in
        let r = rest later in
        record { form = r.form; known = (suc r.known.0, (let lt = r.known.1 in omega (arith, lt)), r.known.2); there = r.there; put = λ v. rw e (r.put v) }

pub form_of : (w : ℕ) (c : Code) → read w ≡ Some c → HasForm forms w
form_of w c h = by (is_of forms w) refl
  where
    by : (b : Bool) → is_of forms w ≡ b → HasForm forms w
    by true e = first_form forms w e
    by false e = (let none : Some c ≡ None = sym h ∙ no_form w e in cc)

-- ---- the place of a field

abbrev pub same_place : Place → Field → Bool
same_place AdrField Imm21 = true
same_place Imm12Field Imm12 = true
same_place Imm14Field Imm14 = true
same_place Imm16Field Imm16 = true
same_place Imm19Field Imm19 = true
same_place Imm26Field Imm26 = true
same_place p f = false

two_same : (a b c e : ℕ) → a ∷ b ∷ [] ≡ c ∷ e ∷ [] → (a ≡ c) × (b ≡ e)
two_same a b c e h = (let x : a ≡ c = cc in let y : b ≡ e = cc in (x, y))

three_same : (a b c x y z : ℕ) → a ∷ b ∷ c ∷ [] ≡ x ∷ y ∷ z ∷ [] → (a ≡ x) × (b ≡ y) × (c ≡ z)
three_same a b c x y z h = (let p : a ≡ x = cc in let q : b ≡ y = cc in let r : c ≡ z = cc in (p, q, r))

-- a word with other bits in its field alone is the word with these put there
pub put_back : (p : Place) (f : Field) (w u v : ℕ) → same_place p f ≡ true → others p w ≡ others p u → immediate p u ≡ v → word_with_immediate f v w ≡ u
unfolding insert_bits
put_back AdrField Imm21 w u v h e is =
    let t = three_same (w % 2 ^ 5) (w / 2 ^ 24 % 2 ^ 5) (w / 2 ^ 31) (u % 2 ^ 5) (u / 2 ^ 24 % 2 ^ 5) (u / 2 ^ 31) e in
    let a = t.0 in
    let b = t.1 in
    let c = t.2 in
    omega (arith, is, a, b, c)
put_back Imm12Field Imm12 w u v h e is = (let t = two_same (w % 2 ^ 10) (w / 2 ^ 22) (u % 2 ^ 10) (u / 2 ^ 22) e in let a = t.0 in let b = t.1 in omega (arith, is, a, b))
put_back Imm14Field Imm14 w u v h e is = (let t = two_same (w % 2 ^ 5) (w / 2 ^ 19) (u % 2 ^ 5) (u / 2 ^ 19) e in let a = t.0 in let b = t.1 in omega (arith, is, a, b))
put_back Imm16Field Imm16 w u v h e is = (let t = two_same (w % 2 ^ 5) (w / 2 ^ 21) (u % 2 ^ 5) (u / 2 ^ 21) e in let a = t.0 in let b = t.1 in omega (arith, is, a, b))
put_back Imm19Field Imm19 w u v h e is = (let t = two_same (w % 2 ^ 5) (w / 2 ^ 24) (u % 2 ^ 5) (u / 2 ^ 24) e in let a = t.0 in let b = t.1 in omega (arith, is, a, b))
put_back Imm26Field Imm26 w u v h e is = (let a : w / 2 ^ 26 ≡ u / 2 ^ 26 = cc in omega (arith, is, a))
put_back p f w u v h e is = cc

-- ---- what a type's formula says of the words that it fills

-- no word of one of these forms is one of another form whose field lies elsewhere
abbrev places : Place → List Form → Bool
places p fs = list_all (λ (f : Form). list_all (λ (g : Form). same_place p g.field || are_apart f.fixed g.fixed) forms) fs

abbrev form_placed : FieldForm → List Form → Bool
form_placed (Bits p high low check unit) fs = places p fs
form_placed other fs = false

abbrev formula_placed : Option Formula → List Form → Bool
formula_placed None fs = false
formula_placed (Some f) fs = form_placed f.form fs

abbrev is_placed : ℕ × List Form → Bool
is_placed e = formula_placed (aarch64_formula e.0) e.1

each_is_placed : list_all is_placed filled_forms ≡ true
unfolding aarch64_formula
each_is_placed = refl

placed_in : (es : List (ℕ × List Form)) (n w : ℕ) → list_all is_placed es ≡ true → is_of (forms_at es n) w ≡ true → formula_placed (aarch64_formula n) (forms_at es n) ≡ true
placed_in [] n w h s = absurd (let none : false ≡ true = s in cc)
placed_in (e ∷ es) n w h s =
    let p = and_parts (is_placed e) (list_all is_placed es) h in
    by (n == e.0) refl p.0 (λ later. placed_in es n w p.1 later)
  where
    by : (b : Bool) → (n == e.0) ≡ b → is_placed e ≡ true → (is_of (forms_at es n) w ≡ true → formula_placed (aarch64_formula n) (forms_at es n) ≡ true) → formula_placed (aarch64_formula n) (forms_at (e ∷ es) n) ≡ true
    by true t here rest = rw t (subst (λ (k : ℕ). formula_placed (aarch64_formula k) e.1 ≡ true) (sym (eqb-true n e.0 t)) here)
    by false t here rest =
        let later : is_of (forms_at es n) w ≡ true = rw t at s in
        rw t (rest later)

same_in : (p : Place) (fs gs : List Form) (w : ℕ) (f : Form) → list_all (λ (g : Form). same_place p g.field || are_apart f.fixed g.fixed) gs ≡ true → has_fixed_bits f.fixed w ≡ true → (g : Form) → Contains gs g → has_fixed_bits g.fixed w ≡ true → same_place p g.field ≡ true
same_in p fs gs w f h s g c t =
    let one : (same_place p g.field || are_apart f.fixed g.fixed) ≡ true = listed_passes (λ (g : Form). same_place p g.field || are_apart f.fixed g.fixed) gs g h c in
    elim (or_cases (same_place p g.field) (are_apart f.fixed g.fixed) one) [ inl a ↦ a | inr b ↦ absurd (not_both w f.fixed g.fixed b s t) ]

same_of : (p : Place) (fs : List Form) (w : ℕ) → places p fs ≡ true → is_of fs w ≡ true → (g : Form) → Contains forms g → has_fixed_bits g.fixed w ≡ true → same_place p g.field ≡ true
same_of p [] w h s g c t = absurd (let none : false ≡ true = s in cc)
same_of p (f ∷ fs) w h s g c t =
    let q = and_parts (list_all (λ (g : Form). same_place p g.field || are_apart f.fixed g.fixed) forms) (places p fs) h in
    elim (or_cases (has_fixed_bits f.fixed w) (is_of fs w) s) [
      | inl here ↦ same_in p (f ∷ fs) forms w f q.0 here g c t
      | inr later ↦ same_of p fs w q.1 later g c t
    ]

-- ---- a word that does something

-- what is done, with a number
pub record IsNumbered (o : Option run-action.Action) : Type 0 where
  pub action : Action
  pub is : option_and_then action_of o ≡ Some action
  pub value : ℕ
  pub operand : action.operand ≡ Number value

set_told : (r : ℕ) (x y : run-operand.Operand) → has_known_meaning (goes_on (set r [] x) (λ next. outcome next) true) ≡ true → IsNumbered (Some (does (runs.Sets r) y)) → IsNumbered (goes_on (set r [] y) (λ next. outcome next) true)
set_told r x y h n = by (r == 31) refl
  where
    by : (b : Bool) → (r == 31) ≡ b → IsNumbered (goes_on (set r [] y) (λ next. outcome next) true)
    by true e = (let none : false ≡ true = rw e at h in cc)
    by false e = rw e n

-- an instruction alone, with whatever is in its field
pub one_told : (c : Code) (a : ℕ) → has_known_meaning (run (Some (without_immediate c) ∷ []) 0 []) ≡ true → IsNumbered (run (Some c ∷ []) a [])
one_told (Adr r j) a h = set_told r _ _ h (record { action = _; is = refl; value = _; operand = refl })
one_told (Adrp r j) a h = set_told r _ _ h (record { action = _; is = refl; value = _; operand = refl })
one_told (Movz r s i) a h = set_told r _ _ h (record { action = _; is = refl; value = _; operand = refl })
one_told (Movk r s i) a h = cc
one_told (Movn r s i) a h = cc
one_told (Add r q j) a h = set_told r _ _ h (record { action = _; is = refl; value = _; operand = refl })
one_told (Ldr r q j) a h = set_told r _ _ h (record { action = _; is = refl; value = _; operand = refl })
one_told (Access key j) a h = cc
one_told (Literal key j) a h = cc
one_told (B j) a h = record { action = _; is = refl; value = _; operand = refl }
one_told (Bl j) a h = record { action = _; is = refl; value = _; operand = refl }
one_told (BranchIf key j) a h = record { action = _; is = refl; value = _; operand = refl }
one_told (Br q) a h = cc
one_told (Blr q) a h = cc
one_told Hint a h = record { action = _; is = refl; value = _; operand = refl }

-- what is in its field plays no part in which instruction a word is
abbrev IsOneShape : Form → Type 0
IsOneShape g = (w i j : ℕ) → without_immediate (g.code w i) ≡ without_immediate (g.code w j)

one_shape : (g : Form) → Contains forms g → IsOneShape g
one_shape g c = for_each IsOneShape forms (λ w i j. refl, (λ w i j. refl, (λ w i j. refl, (λ w i j. refl, (λ w i j. refl, (λ w i j. refl, (λ w i j. refl, (λ w i j. refl, (λ w i j. refl, (λ w i j. refl, (λ w i j. refl, (λ w i j. refl, (λ w i j. refl, (λ w i j. refl, (λ w i j. refl, (λ w i j. refl, (λ w i j. refl, (λ w i j. refl, (λ w i j. refl, (λ w i j. refl, (λ w i j. refl, (λ w i j. refl, (λ w i j. refl, (λ w i j. refl, (λ w i j. refl, (λ w i j. refl, (λ w i j. refl, (λ w i j. refl, (λ w i j. refl, (λ w i j. refl, (λ w i j. refl, (λ w i j. refl, (λ w i j. refl, tt))))))))))))))))))))))))))))))))) g c

pub one_word : (bs : List ℕ) → length bs ≡ 4 → words_of bs ≡ number bs ∷ []
one_word [] h = cc
one_word (a ∷ []) h = cc
one_word (a ∷ b ∷ []) h = cc
one_word (a ∷ b ∷ c ∷ []) h = cc
one_word (a ∷ b ∷ c ∷ e ∷ []) h = refl
one_word (a ∷ b ∷ c ∷ e ∷ x ∷ bs) h = absurd (omega (arith, h))

-- with other bits in its field it does something too
pub told_with : (w u a : ℕ) (g : Form) (v : ℕ) → Contains forms g → has_fixed_bits g.fixed w ≡ true → word_with_immediate g.field v w ≡ u → has_known_meaning (run (shapes (w ∷ [])) 0 []) ≡ true → IsNumbered (meaning a (u ∷ []))
told_with w u a g v c s e told =
    let old : read w ≡ Some (g.code w (word.immediate g.field w)) = forms_are_read g c w s in
    let new : read u ≡ Some (g.code w (bits_of_field g.field v)) = subst (λ (k : ℕ). read k ≡ Some (g.code w (bits_of_field g.field v))) e (fields_are_written g c w v s) in
    let shape : shapes (w ∷ []) ≡ Some (without_immediate (g.code w (bits_of_field g.field v))) ∷ [] = ap (λ (o : Option Code). option_map without_immediate o ∷ []) old ∙ ap (λ (k : Code). Some k ∷ []) (one_shape g c w (word.immediate g.field w) (bits_of_field g.field v)) in
    let n = one_told (g.code w (bits_of_field g.field v)) a (subst (λ (cs : List (Option Code)). has_known_meaning (run cs 0 []) ≡ true) shape told) in
    subst (λ (o : Option Code). IsNumbered (run (o ∷ []) a [])) (sym new) n

-- ---- bits of a field

-- what code does with a field filled so that it is x's
pub record FilledDoes (form : FieldForm) (r : Reader) (a x : ℕ) (old new : List ℕ) : Type 0 where
  pub can : CanHave form x
  pub effect : Effect
  pub demanded : effect_with (bits_of form x) a old ≡ Some effect
  pub does : effect_aarch64 r a new ≡ Some effect

word_told : (n w : ℕ) (c : Option run-action.Action) → has_known_meaning c ≡ true → (act : run-action.Action) × (c ≡ Some act)
word_told n w None h = cc
word_told n w (Some act) h = (act, refl)

by_numbered : (r : Reader) (a x : ℕ) (o : Option run-action.Action) → ((k : ℕ) → r (Number k) ≡ Some k) → IsNumbered o → (e : Effect) × (option_and_then (effect reads_numbers) (option_and_then action_of o) ≡ Some e) × (option_and_then (effect r) (option_and_then action_of o) ≡ Some e)
by_numbered r a x o numbers n =
    let one : reads_numbers n.action.operand ≡ Some n.value = rw n.operand refl in
    let two : r n.action.operand ≡ Some n.value = ap r n.operand ∙ numbers n.value in
    (with_value n.action n.value, rw (n.is, one) refl, rw (n.is, two) refl)

pub word_does : (n a x : ℕ) (f : Formula) (old new : List ℕ) (r : Reader) → aarch64_formula n ≡ Some f → is_filled n (words_of old) ≡ true → length old ≡ 4 → length new ≡ 4
    → Reads f.form new x → Keeps f.form old new → ((k : ℕ) → r (Number k) ≡ Some k) → FilledDoes f.form r a x old new
word_does n a x f old new r known filled long whole reads keeps numbers = by f.form placed reads keeps
  where
    w : ℕ
    w = number old

    u : ℕ
    u = number new

    words : words_of old ≡ w ∷ []
    words = one_word old long

    parts : ((is_of (forms_filled n) w && true) ≡ true) × (has_known_meaning (run (shapes (w ∷ [])) 0 []) ≡ true)
    parts = and_parts (is_of (forms_filled n) w && true) (has_known_meaning (run (shapes (w ∷ [])) 0 [])) (subst (λ (ws : List ℕ). is_filled n ws ≡ true) words filled)

    of : is_of (forms_filled n) w ≡ true
    of = (and_parts (is_of (forms_filled n) w) true parts.0).0

    told : has_known_meaning (run (shapes (w ∷ [])) 0 []) ≡ true
    told = parts.1

    placed : form_placed f.form (forms_filled n) ≡ true
    placed = subst (λ (o : Option Formula). formula_placed o (forms_filled n) ≡ true) known (placed_in filled_forms n w each_is_placed of)

    -- the word is an instruction
    here : (o : Option Code) → read w ≡ o → HasForm forms w
    here None e = (let none : has_known_meaning (run (None ∷ []) 0 []) ≡ true = subst (λ (o : Option Code). has_known_meaning (run (option_map without_immediate o ∷ []) 0 []) ≡ true) e told in cc)
    here (Some c) e = form_of w c e

    by : (form : FieldForm) → form_placed form (forms_filled n) ≡ true → Reads form new x → Keeps form old new → FilledDoes form r a x old new
    by (Bits p high low check unit) same reads keeps =
        let g = here (read w) refl in
        let v = x / 2 ^ low % 2 ^ (high + 1 - low) in
        let place = same_of p (forms_filled n) w same of g.form g.known g.there in
        let put : word_with_immediate g.form.field v w ≡ u = put_back p g.form.field w u v place keeps reads.bits in
        let numbered = told_with w u a g.form v g.known g.there put told in
        let both = by_numbered r a x (meaning a (u ∷ [])) numbers numbered in
        let filled_word : with_field v w ≡ u = g.put v ∙ put in
        let old_words : map (with_field v) (words_of old) ≡ u ∷ [] = ap (map (with_field v)) words ∙ ap (λ (k : ℕ). k ∷ []) filled_word in
        record {
          can = (reads.passes, reads.whole);
          effect = both.0;
          demanded = ap (λ (ws : List ℕ). option_and_then (effect reads_numbers) (option_and_then action_of (meaning a ws))) old_words ∙ both.1;
          does = ap (λ (ws : List ℕ). option_and_then (effect r) (option_and_then action_of (meaning a ws))) (one_word new whole) ∙ both.2;
        }
    by other same reads keeps = cc

-- ---- branches

-- with a distance in its field the word of a branch goes that far
pub jump_word : (w u x : ℕ) → has_fixed_bits branch.fixed w ≡ true → sign_extended 28 (immediate Imm26Field u * 2 ^ 2) ≡ x → others Imm26Field w ≡ others Imm26Field u → read u ≡ Some (B x)
jump_word w u x s decodes keeps =
    let put : word_with_immediate Imm26 (immediate Imm26Field u) w ≡ u = put_back Imm26Field Imm26 w u (immediate Imm26Field u) refl keeps refl in
    let at : bits_of_field Imm26 (immediate Imm26Field u) ≡ immediate Imm26Field u = omega arith in
    subst (λ (k : ℕ). read k ≡ Some (B x)) put (b_field w (immediate Imm26Field u) s ∙ ap (λ (i : ℕ). Some (B (signed 28 (i * 4)))) at ∙ ap (λ (d : ℕ). Some (B d)) decodes)

pub call_word : (w u x : ℕ) → has_fixed_bits call.fixed w ≡ true → sign_extended 28 (immediate Imm26Field u * 2 ^ 2) ≡ x → others Imm26Field w ≡ others Imm26Field u → read u ≡ Some (Bl x)
call_word w u x s decodes keeps =
    let put : word_with_immediate Imm26 (immediate Imm26Field u) w ≡ u = put_back Imm26Field Imm26 w u (immediate Imm26Field u) refl keeps refl in
    let at : bits_of_field Imm26 (immediate Imm26Field u) ≡ immediate Imm26Field u = omega arith in
    subst (λ (k : ℕ). read k ≡ Some (Bl x)) put (bl_field w (immediate Imm26Field u) s ∙ ap (λ (i : ℕ). Some (Bl (signed 28 (i * 4)))) at ∙ ap (λ (d : ℕ). Some (Bl d)) decodes)

-- a field that is filled is a word
pub width_four : (n : ℕ) (f : Formula) (bs : List ℕ) → aarch64_formula n ≡ Some f → is_filled n (words_of bs) ≡ true → length bs ≡ 4 → form_width f.form ≡ 4
width_four n f bs known filled long =
    let w = number bs in
    let parts = and_parts (is_of (forms_filled n) w && true) (has_known_meaning (run (shapes (w ∷ [])) 0 [])) (subst (λ (ws : List ℕ). is_filled n ws ≡ true) (one_word bs long) filled) in
    let of = (and_parts (is_of (forms_filled n) w) true parts.0).0 in
    by f.form (subst (λ (o : Option Formula). formula_placed o (forms_filled n) ≡ true) known (placed_in filled_forms n w each_is_placed of))
  where
    by : (form : FieldForm) → form_placed form (forms_filled n) ≡ true → form_width form ≡ 4
    by (Bits p high low check unit) h = refl
    by other h = cc

-- the word is of a form that its type fills
pub first_of : (n : ℕ) (bs : List ℕ) → is_filled n (words_of bs) ≡ true → length bs ≡ 4 → is_of (forms_filled n) (number bs) ≡ true
first_of n bs filled long =
    let w = number bs in
    let parts = and_parts (is_of (forms_filled n) w && true) (has_known_meaning (run (shapes (w ∷ [])) 0 [])) (subst (λ (ws : List ℕ). is_filled n ws ≡ true) (one_word bs long) filled) in
    (and_parts (is_of (forms_filled n) w) true parts.0).0

-- what a branch of the input asks for, and what one that goes so far does
pub record BranchDoes (r : Reader) (a t : ℕ) (old new : List ℕ) : Type 0 where
  pub effect : Effect
  pub demanded : demand_aarch64 t a old ≡ Some effect
  pub does : effect_aarch64 r a new ≡ Some effect

from_jump : (r : Reader) (a t x w u j : ℕ) → ((k : ℕ) → r (Number k) ≡ Some k) → read w ≡ Some (B j) → read u ≡ Some (B x) → (a + x) % 2 ^ 64 ≡ t → (e : Effect) × (option_and_then (effect (as_value t)) (option_and_then action_of (run (shapes (w ∷ [])) a [])) ≡ Some e) × (option_and_then (effect r) (option_and_then action_of (meaning a (u ∷ []))) ≡ Some e)
from_jump r a t x w u j numbers old new is = (record { deed = Jump; width = 64; value = t % 2 ^ 64 }, rw old refl, rw (new, numbers ((a + x) % 2 ^ 64), is) refl)

from_call : (r : Reader) (a t x w u j : ℕ) → ((k : ℕ) → r (Number k) ≡ Some k) → read w ≡ Some (Bl j) → read u ≡ Some (Bl x) → (a + x) % 2 ^ 64 ≡ t → (e : Effect) × (option_and_then (effect (as_value t)) (option_and_then action_of (run (shapes (w ∷ [])) a [])) ≡ Some e) × (option_and_then (effect r) (option_and_then action_of (meaning a (u ∷ []))) ≡ Some e)
from_call r a t x w u j numbers old new is = (record { deed = Call; width = 64; value = t % 2 ^ 64 }, rw old refl, rw (new, numbers ((a + x) % 2 ^ 64), is) refl)

pub branch_does : (n a t x : ℕ) (old new : List ℕ) (r : Reader) → (n ≡ r_aarch64_jump26) ⊎ (n ≡ r_aarch64_call26) → is_filled n (words_of old) ≡ true → length old ≡ 4 → length new ≡ 4
    → ReadsBits Imm26Field 27 2 (WithinPower 28) 4 (number new) x → others Imm26Field (number old) ≡ others Imm26Field (number new) → ((k : ℕ) → r (Number k) ≡ Some k) → (a + x) % 2 ^ 64 ≡ t → BranchDoes r a t old new
branch_does n a t x old new r one filled long whole reads keeps numbers is = by one
  where
    w : ℕ
    w = number old

    u : ℕ
    u = number new

    of : is_of (forms_filled n) w ≡ true
    of = first_of n old filled long

    of_words : ((e : Effect) × (option_and_then (effect (as_value t)) (option_and_then action_of (run (shapes (w ∷ [])) a [])) ≡ Some e) × (option_and_then (effect r) (option_and_then action_of (meaning a (u ∷ []))) ≡ Some e)) → BranchDoes r a t old new
    of_words e = record {
      effect = e.0;
      demanded = ap (λ (ws : List ℕ). option_and_then (effect (as_value t)) (option_and_then action_of (run (shapes ws) a []))) (one_word old long) ∙ e.1;
      does = ap (λ (ws : List ℕ). option_and_then (effect r) (option_and_then action_of (meaning a ws))) (one_word new whole) ∙ e.2;
    }

    alone : (b : Bool) → (b || false) ≡ true → b ≡ true
    alone true h = refl
    alone false h = h

    by : (n ≡ r_aarch64_jump26) ⊎ (n ≡ r_aarch64_call26) → BranchDoes r a t old new
    by (inl e) =
        let there : has_fixed_bits branch.fixed w ≡ true = alone (has_fixed_bits branch.fixed w) (subst (λ (k : ℕ). is_of (forms_filled k) w ≡ true) e of) in
        let old_read = jump_word w w (signed 28 (immediate Imm26Field w * 4)) there refl refl in
        of_words (from_jump r a t x w u _ numbers old_read (jump_word w u x there reads.decodes keeps) is)
    by (inr e) =
        let there : has_fixed_bits call.fixed w ≡ true = alone (has_fixed_bits call.fixed w) (subst (λ (k : ℕ). is_of (forms_filled k) w ≡ true) e of) in
        let old_read = call_word w w (signed 28 (immediate Imm26Field w * 4)) there refl refl in
        of_words (from_call r a t x w u _ numbers old_read (call_word w u x there reads.decodes keeps) is)
