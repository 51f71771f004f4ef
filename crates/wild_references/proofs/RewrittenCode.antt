-- What rows write in place of a run does what the run demands, as the reader has it.
--   lower read      a reader of operands, as `wild_aarch64` has it
--   run_done        by the law of the rows
--   reads_itself    what is written reads no word, where it reads numbers alone
use Rattle.wild_references.proofs.Common.{◌≡◌, ℕ, zero, suc, ◌+◌, ◌*◌, ◌/◌, ◌%◌, ◌^◌, ◌<◌, ◌≤◌, Bool, true, false, List, [], ◌∷◌, ◌++◌, length, refl, sym, ap, ◌∙◌, subst, arith, ◌&&◌, ◌==◌, if◌then◌else◌, All, Option, Some, None, option_map, option_and_then, Contains, and_parts, ne_eqb, leb-true, ltb-true, word, number, Code, Adrp, Add, Ldr, Blr, does, page, run, meaning, shapes, words_of, Sequence, DescriptorCall, OffsetSlot, Address, Rewriting, rewritings, templates_at, RowsOfAArch64Keep, words_match, Set, Action, Operand, Number, Word, Reader, Effect, effect, as_value, action_of, Memory, World, Holds, InputRelocation, Layout, Item, reads_numbers, place_at, Instruction, size_of, IsOffsetSlot, ReadsOffsetSlots}
use Rattle.std.proofs.Common.{eqb-true}
use Rattle.std.proofs.lemmas.List.Elements.{All-head, All-tail}
use Rattle.wild_aarch64.specs.declared.operand.Operand as run-operand
use Rattle.wild_aarch64.specs.declared.operand.Operand.TheVariants as has
use Rattle.wild_aarch64.specs.declared.operand.Deed as run-deed
use Rattle.wild_aarch64.specs.declared.operand.Deed.TheVariants as runs
use Rattle.wild_aarch64.specs.declared.operand.Action as run-action
use Rattle.wild_aarch64.specs.Machine.{sum_64}
use Rattle.wild_aarch64.specs.Effect as judged
use Rattle.wild_aarch64.specs.Effect.{effect_of_action, as_effect}
use Rattle.wild_aarch64.specs.Row.{IsValueOf}
use Rattle.wild_relax.specs.KeepAArch64.{AreWords}
use Rattle.wild_relax.specs.RewriteX86_64.{register_set}
use Rattle.wild_relax.proofs.KeepAArch64Lemmas.{adrp_shape, ldr_shape, add_shape, blr_shape}
use Rattle.wild_loader.specs.declared.instruction.Operand.TheVariants.{Offset}
use Rattle.wild_types.specs.declared.kind.Machine.TheVariants as machine
use Rattle.wild_references.proofs.RewrittenReads.{reads_at}
use Rattle.wild_references.proofs.Does.{read_all}
use Rattle.wild_references.proofs.WordsAArch64.{fours, AreWordsThere, read_is, words_there}
use Rattle.wild_references.proofs.RunsAArch64.{RunDoes, set_to, address_run, slot_run, call_run}

-- ---- readers

abbrev pub lower : Reader → judged.Reader
lower read (has.Number x) = read (Number x)
lower read (has.Word x) = read (Word x)
lower read (has.Offset x) = read (Offset x)
lower read (has.Register r k) = None
lower read (has.WordOf r k) = None

-- register q is set to v
abbrev pub sets_to : ℕ → ℕ → Effect
sets_to q v = record { deed = Set q; width = 64; value = v % 2 ^ 64 }

deed_is : (deed : run-deed.Deed) (q y v : ℕ) → Some (as_effect deed y) ≡ Some (as_effect (runs.Sets q) v) → (deed ≡ runs.Sets q) × (y ≡ v)
deed_is deed q y v h =
    let same : as_effect deed y ≡ as_effect (runs.Sets q) v = cc in
    (ap (λ (e : judged.Effect). e.deed) same, ap (λ (e : judged.Effect). e.value) same)

-- what comes to that in the terms of one, comes to it in the other's
by_reading : (read : Reader) (q v : ℕ) (deed : run-deed.Deed) (x : run-operand.Operand) (y : Operand) (o : Option ℕ) → action_of (does (runs.Sets q) x) ≡ Some (set_to q y) → read y ≡ o → option_map (as_effect deed) o ≡ Some (as_effect (runs.Sets q) v)
    → option_and_then (effect read) (action_of (does deed x)) ≡ Some (sets_to q v)
by_reading read q v deed x y None known_effect reads h = cc
by_reading read q v deed x y (Some n) known_effect reads h =
    let is = deed_is deed q n v h in
    subst (λ (d : run-deed.Deed). option_and_then (effect read) (action_of (does d x)) ≡ Some (sets_to q v)) (sym is.0)
    (ap (λ o. option_and_then (effect read) o) known_effect ∙ (rw reads (ap (λ (i : ℕ). Some (sets_to q i)) is.1)))

performs : (read : Reader) (q v : ℕ) (deed : run-deed.Deed) (x : run-operand.Operand) → option_map (as_effect deed) (lower read x) ≡ Some (as_effect (runs.Sets q) v) → option_and_then (effect read) (action_of (does deed x)) ≡ Some (sets_to q v)
performs read q v deed (has.Number n) h = by_reading read q v deed (has.Number n) (Number n) (read (Number n)) refl refl h
performs read q v deed (has.Word n) h = by_reading read q v deed (has.Word n) (Word n) (read (Word n)) refl refl h
performs read q v deed (has.Offset n) h = by_reading read q v deed (has.Offset n) (Offset n) (read (Offset n)) refl refl h
performs read q v deed (has.Register r k) h = cc
performs read q v deed (has.WordOf r k) h = cc

known_effect : (read : Reader) (q v : ℕ) (o : Option run-action.Action) → option_and_then (effect_of_action (lower read)) o ≡ Some (as_effect (runs.Sets q) v) → option_and_then (effect read) (option_and_then action_of o) ≡ Some (sets_to q v)
known_effect read q v None h = cc
known_effect read q v (Some act) h = performs read q v act.deed act.operand h

-- ---- what the words of a run set

pub record IsSet (ws : List ℕ) (a : ℕ) : Type 0 where
  pub register : ℕ
  pub old : run-operand.Operand
  pub operand : Operand
  pub asked : run (shapes ws) a [] ≡ Some (does (runs.Sets register) old)
  pub known : action_of (does (runs.Sets register) old) ≡ Some (set_to register operand)

address_sets : (b c a : ℕ) → words_match Address (b ∷ c ∷ []) ≡ true → IsSet (b ∷ c ∷ []) a
address_sets b c a h =
    let both = and_parts _ _ h in
    let r = register_set c in
    let low : r < 31 = ltb-true _ _ both.0 in
    let each = and_parts _ _ both.1 in
    let pb = adrp_shape r b each.0 in
    let pc = add_shape r r c each.1 in
    let at = sum_64 (sum_64 (page a) 0) 0 in
    let shaped : shapes (b ∷ c ∷ []) ≡ Some (Adrp r 0) ∷ Some (Add r r 0) ∷ [] = rw (pb, pc) refl in
    record { register = r; old = has.Number at; operand = Number at; asked = ap (λ (cs : List (Option Code)). run cs a []) shaped ∙ address_run r a 0 0 at (ne_eqb r 31 (λ z. omega (arith, low, z))) refl; known = refl }

slot_sets : (b c a : ℕ) → words_match OffsetSlot (b ∷ c ∷ []) ≡ true → IsSet (b ∷ c ∷ []) a
slot_sets b c a h =
    let both = and_parts _ _ h in
    let r = register_set c in
    let low : r < 31 = ltb-true _ _ both.0 in
    let each = and_parts _ _ both.1 in
    let pb = adrp_shape r b each.0 in
    let pc = ldr_shape r r c each.1 in
    let at = sum_64 (sum_64 (page a) 0) 0 in
    let shaped : shapes (b ∷ c ∷ []) ≡ Some (Adrp r 0) ∷ Some (Ldr r r 0) ∷ [] = rw (pb, pc) refl in
    record { register = r; old = has.Word at; operand = Word at; asked = ap (λ (cs : List (Option Code)). run cs a []) shaped ∙ slot_run r a 0 0 at (ne_eqb r 31 (λ z. omega (arith, low, z))) refl; known = refl }

call_asked : (r a : ℕ) → 1 ≤ r → r < 31 → run (Some (Adrp 0 0) ∷ Some (Ldr r 0 0) ∷ Some (Add 0 0 0) ∷ Some (Blr r) ∷ []) a [] ≡ Some (does (runs.Sets 0) (has.Offset (sum_64 (sum_64 (page a) 0) 0)))
call_asked zero a some low = absurd (omega (arith, some))
call_asked (suc q) a some low = call_run q a 0 0 0 (sum_64 (sum_64 (page a) 0) 0) (ne_eqb (suc q) 31 (λ z. omega (arith, low, z))) refl refl

call_sets : (b c e f a : ℕ) → words_match DescriptorCall (b ∷ c ∷ e ∷ f ∷ []) ≡ true → IsSet (b ∷ c ∷ e ∷ f ∷ []) a
call_sets b c e f a h =
    let both = and_parts _ _ h in
    let r = register_set c in
    let low : r < 31 = ltb-true _ _ both.0 in
    let last = and_parts _ _ both.1 in
    let third = and_parts _ _ last.0 in
    let second = and_parts _ _ third.0 in
    let first = and_parts _ _ second.0 in
    let pb = adrp_shape 0 b first.1 in
    let pc = ldr_shape r 0 c second.1 in
    let pe = add_shape 0 0 e third.1 in
    let pf = blr_shape r f last.1 in
    let at = sum_64 (sum_64 (page a) 0) 0 in
    let shaped : shapes (b ∷ c ∷ e ∷ f ∷ []) ≡ Some (Adrp 0 0) ∷ Some (Ldr r 0 0) ∷ Some (Add 0 0 0) ∷ Some (Blr r) ∷ [] = rw (pb, pc, pe, pf) refl in
    record { register = 0; old = has.Offset at; operand = Offset at; asked = ap (λ (cs : List (Option Code)). run cs a []) shaped ∙ call_asked r a (leb-true _ _ first.0) low; known = refl }

no_words : {X : Type 0} → false ≡ true → X
no_words h = cc

never : {X : Type 0} (b : Bool) → (b && false) ≡ true → X
never true h = cc
never false h = cc

pub run_sets : (q : Sequence) (ws : List ℕ) (a : ℕ) → words_match q ws ≡ true → IsSet ws a
run_sets DescriptorCall (b ∷ c ∷ e ∷ f ∷ []) a h = call_sets b c e f a h
run_sets DescriptorCall [] a h = no_words h
run_sets DescriptorCall (b ∷ []) a h = no_words h
run_sets DescriptorCall (b ∷ c ∷ []) a h = never _ h
run_sets DescriptorCall (b ∷ c ∷ e ∷ []) a h = never _ h
run_sets DescriptorCall (b ∷ c ∷ e ∷ f ∷ w ∷ ws) a h = never _ h
run_sets OffsetSlot (b ∷ c ∷ []) a h = slot_sets b c a h
run_sets OffsetSlot [] a h = no_words h
run_sets OffsetSlot (b ∷ []) a h = no_words h
run_sets OffsetSlot (b ∷ c ∷ w ∷ ws) a h = never _ h
run_sets Address (b ∷ c ∷ []) a h = address_sets b c a h
run_sets Address [] a h = no_words h
run_sets Address (b ∷ []) a h = no_words h
run_sets Address (b ∷ c ∷ w ∷ ws) a h = never _ h

-- ---- by the law of the rows

demand_is : (ws : List ℕ) (a v : ℕ) → (t : IsSet ws a) → judged.demand v a ws ≡ Some (as_effect (runs.Sets t.register) v)
demand_is ws a v t = ap (λ o. option_and_then (effect_of_action (judged.as_value v)) o) t.asked

-- what the rows write sets the same register to v
pub row_sets : RowsOfAArch64Keep → (t : Rewriting) → Contains rewritings t → (ws : List ℕ) (read : Reader) → ((x : ℕ) → read (Number x) ≡ Some x) → (base a x v : ℕ) → AreWords ws → words_match t.sequence ws ≡ true → IsValueOf t.run.target (lower read) base a x v → (s : IsSet ws (base + a))
    → option_and_then (effect read) (option_and_then action_of (meaning (base + a) (words_of (templates_at t.rows a x ws)))) ≡ Some (sets_to s.register v)
row_sets law t known ws read numbers base a x v small stands comes s =
    known_effect read s.register v (meaning (base + a) (words_of (templates_at t.rows a x ws))) (law t known ws (lower read) numbers base a x v small stands comes ∙ demand_is ws (base + a) v s)

pub run_done : RowsOfAArch64Keep → (t : Rewriting) → Contains rewritings t → (ws : List ℕ) (read : Reader) → ((x : ℕ) → read (Number x) ≡ Some x) → (base a x v : ℕ) → AreWords ws → words_match t.sequence ws ≡ true → IsValueOf t.run.target (lower read) base a x v → RunDoes read (base + a) v ws (words_of (templates_at t.rows a x ws))
run_done law t known ws read numbers base a x v small stands comes =
    let s = run_sets t.sequence ws (base + a) stands in
    (sets_to s.register v, ap (λ o. option_and_then (effect (as_value v)) (option_and_then action_of o)) s.asked ∙ ap (λ o. option_and_then (effect (as_value v)) o) s.known, row_sets law t known ws read numbers base a x v small stands comes s)

-- ---- bytes of words

pub words_of-front : (p rest : List ℕ) → length p ≡ 4 → words_of (p ++ rest) ≡ number p ∷ words_of rest
words_of-front [] rest h = cc
words_of-front (a ∷ []) rest h = cc
words_of-front (a ∷ b ∷ []) rest h = cc
words_of-front (a ∷ b ∷ c ∷ []) rest h = cc
words_of-front (a ∷ b ∷ c ∷ e ∷ []) rest h = refl
words_of-front (a ∷ b ∷ c ∷ e ∷ f ∷ p) rest h = absurd (omega (arith, h))

pub word_back : (bs : List ℕ) → All (λ (b : ℕ). b < 256) bs → word (length bs) (number bs) ≡ bs
unfolding word number
word_back [] h = refl
word_back (b ∷ bs) h = by (number bs) h (word_back bs (All-tail (λ (x : ℕ). x < 256) b bs h))
  where
    by : (n : ℕ) → All (λ (x : ℕ). x < 256) (b ∷ bs) → word (length bs) n ≡ bs → (b + 256 * n) % 256 ∷ word (length bs) ((b + 256 * n) / 256) ≡ b ∷ bs
    by n h rest =
        let low : b < 256 = All-head (λ (x : ℕ). x < 256) b bs h in
        let first : (b + 256 * n) % 256 ≡ b = omega (arith, low) in
        let more : (b + 256 * n) / 256 ≡ n = omega (arith, low) in
        rw (first, more, rest) refl

-- ---- which words are read

-- the bytes that memory has are those words
bytes_are : (m : Memory) (us : List ℕ) (a : ℕ) (bytes : List ℕ) → AreWordsThere m a us → length bytes ≡ fours (length us) → Holds m a bytes → words_of bytes ≡ us
bytes_are m us a bytes there long held = ap words_of (sym (read_is m a bytes held)) ∙ (ap (λ (n : ℕ). words_of (read_all m a n)) long ∙ words_there m us a there)

-- what is known of the code in terms of a reader
acts_so : (read : Reader) (act : Action) (e : Effect) (o : Option Action) → o ≡ Some act → option_and_then (effect read) o ≡ Some e → effect read act ≡ Some e
acts_so read act e o is h = subst (λ (x : Option Action). option_and_then (effect read) x ≡ Some e) is h

-- where it does the same with a reader that reads one word alone, it reads no other
word_of : (g v a : ℕ) (act : Action) (e : Effect) → act.operand ≡ Word a → effect (reads_at g v) act ≡ Some e → a ≡ g
word_of g v a act e is h = by (a == g) refl (subst (λ (x : Operand). option_map (λ (n : ℕ). record { deed = act.deed; width = act.width; value = n % 2 ^ act.width }) (reads_at g v x) ≡ Some e) is h)
  where
    by : (b : Bool) → (a == g) ≡ b → option_map (λ (n : ℕ). record { deed = act.deed; width = act.width; value = n % 2 ^ act.width }) (if b then Some v else None) ≡ Some e → a ≡ g
    by true t k = eqb-true a g t
    by false f k = cc

no_word : (a : ℕ) (act : Action) (e : Effect) → act.operand ≡ Word a → effect reads_numbers act ≡ Some e → ⊥
no_word a act e is h = by (subst (λ (x : Operand). option_map (λ (n : ℕ). record { deed = act.deed; width = act.width; value = n % 2 ^ act.width }) (reads_numbers x) ≡ Some e) is h)
  where
    by : None ≡ Some e → ⊥
    by k = cc

-- no slot is read
pub no_slot : (l : Layout) (w : World) (m : Memory) (s : Item) (first : InputRelocation) (start : ℕ) (o : Instruction) (v : ℕ) (ws us : List ℕ) → size_of o ≡ fours (length us) → AreWordsThere m (place_at w s start) us → RunDoes reads_numbers (place_at w s start) v ws us → ReadsOffsetSlots machine.AArch64 l w m s first start o
no_slot l w m s first start o v ws us size there does = λ bytes act a long held meant is.
    let same = bytes_are m us (place_at w s start) bytes there (long ∙ size) held in
    let here = subst (λ (xs : List ℕ). option_and_then action_of (meaning (place_at w s start) xs) ≡ Some act) same meant in
    absurd (no_word a act does.0 is (acts_so reads_numbers act does.0 _ here does.2))

-- the slot of the symbol is
pub one_slot_read : (l : Layout) (w : World) (m : Memory) (s : Item) (first : InputRelocation) (start : ℕ) (o : Instruction) (v g : ℕ) (ws us : List ℕ) → size_of o ≡ fours (length us) → AreWordsThere m (place_at w s start) us → RunDoes (reads_at g v) (place_at w s start) v ws us → IsOffsetSlot l w first.symbol g → ReadsOffsetSlots machine.AArch64 l w m s first start o
one_slot_read l w m s first start o v g ws us size there does own = λ bytes act a long held meant is.
    let same = bytes_are m us (place_at w s start) bytes there (long ∙ size) held in
    let here = subst (λ (xs : List ℕ). option_and_then action_of (meaning (place_at w s start) xs) ≡ Some act) same meant in
    subst (IsOffsetSlot l w first.symbol) (sym (word_of g v a act does.0 is (acts_so (reads_at g v) act does.0 _ here does.2))) own
