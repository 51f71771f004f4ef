-- Code with one reference: which instruction it is, and that it is refused where it does something else.
--   single_refused    a reference of code with one reference is refused where the loaded bytes do something else
use Rattle.wild_meaning.proofs.Common.{◌≡◌, ℕ, zero, suc, ◌+◌, ◌<◌, ◌≤◌, ◌⊎◌, inl, inr, Bool, true, false, List, [], ◌∷◌, length, get_or, refl, sym, ap, ◌∙◌, subst, arith, eq-eqb, ◌==◌, ◌&&◌, ◌||◌, not, nat_le, Some, None, Contains, slice_get, slice_range, slice_index_or, list_all, All-from_recursion, Machine, InputRelocation, Layout, Formula, Memory, World, Holds, Action, Number, Word, Deed, Reader, Effect, matches_cells, Item, place_at, form_width, formula_of, InNoField, Instruction, Partner, size_of, instructions_of, IsInstruction, IsTemplate, reads, reads_without_calls, DoesDemanded, ReadsOffsetSlots, ReferenceHolds}
use Rattle.std.proofs.lemmas.Bool.{leb-true, le-leb}
use Rattle.std.proofs.lemmas.Option.{slice_get_past}
use Rattle.wild_types.specs.declared.kind.Machine.TheVariants as machine
use Rattle.wild_loader.proofs.HeldBytes.{held-first, held-rest}
use Rattle.wild_meaning.specs.Jump.{meaning_of}
use Rattle.wild_meaning.proofs.AmongLemmas.{Among, pick}
use Rattle.wild_meaning.proofs.PairLemmas.{as_pair}

-- ---- of a list

abbrev pub has : ℕ → List ℕ → Bool
has n [] = false
has n (m ∷ ms) = (m == n) || has n ms

pub has_is : (n : ℕ) (ms : List ℕ) → Contains ms n → has n ms ≡ true
has_is n ms c = by n ms c.0 c.1 c.2
  where
    front : (b : Bool) → b ≡ true → (c : Bool) → (b || c) ≡ true
    front b e c = rw e refl

    back : (b c : Bool) → c ≡ true → (b || c) ≡ true
    back true c e = refl
    back false c e = e

    by : (n : ℕ) (ms : List ℕ) (k : ℕ) → k < length ms → slice_index_or ms k n ≡ n → has n ms ≡ true
    by n [] k lt e = absurd (omega (arith, lt))
    by n (m ∷ ms) zero lt e = front (m == n) (eq-eqb m n e) (has n ms)
    by n (m ∷ ms) (suc k) lt e = back (m == n) (has n ms) (by n ms k (omega (arith, lt)) e)

abbrev pub is_none : List Partner → Bool
is_none [] = true
is_none (p ∷ ps) = false

-- an instruction alone that the relocations of a number fill
abbrev pub fills : ℕ → Instruction → Bool
fills n o = has n o.numbers && is_none o.partners

pub fills_is : (n : ℕ) (o : Instruction) → Contains o.numbers n → o.partners ≡ [] → fills n o ≡ true
fills_is n o c e = let a = has_is n o.numbers c in rw (a, e) refl

-- ---- in memory

pub same_bytes : (m : Memory) (a : ℕ) (xs ys : List ℕ) → length xs ≡ length ys → Holds m a xs → Holds m a ys → xs ≡ ys
same_bytes m a [] [] e h k = refl
same_bytes m a [] (y ∷ ys) e h k = absurd (omega (arith, e))
same_bytes m a (x ∷ xs) [] e h k = absurd (omega (arith, e))
same_bytes m a (x ∷ xs) (y ∷ ys) e h k =
    let heads : Some x ≡ Some y = sym (held-first m a x xs h) ∙ held-first m a y ys k in
    let head : x ≡ y = cc in
    let tail : xs ≡ ys = same_bytes m (a + 1) xs ys (omega (arith, e)) (held-rest m a x xs h) (held-rest m a y ys k) in
    cc

-- code whose operand is a number reads no word
pub no_words : (k : Machine) (l : Layout) (w : World) (m : Memory) (item : Item) (first : InputRelocation) (start : ℕ) (o : Instruction) (bytes : List ℕ) (act : Action) (n : ℕ) → length bytes ≡ size_of o → Holds m (place_at w item start) bytes → meaning_of k (place_at w item start) bytes ≡ Some act → act.operand ≡ Number n → ReadsOffsetSlots k l w m item first start o
no_words k l w m item first start o bytes act n long held means is = λ others other a whole there known word.
    let same : others ≡ bytes = same_bytes m (place_at w item start) others bytes (whole ∙ sym long) there held in
    let here : Some act ≡ Some other = sym means ∙ subst (λ (bs : List ℕ). meaning_of k (place_at w item start) bs ≡ Some other) same known in
    let one : act ≡ other = cc in
    let both : Number n ≡ Word a = sym is ∙ (ap (λ (x : Action). x.operand) one ∙ word) in
    cc

-- a reader that reads a number as itself
abbrev pub ReadsNumbers : Reader → Type 0
ReadsNumbers read = (n : ℕ) → read (Number n) ≡ Some n

-- the value of an effect
abbrev pub effect_with : Deed → ℕ → ℕ → Effect
effect_with d width n = record { deed = d; width = width; value = n }

pub value_in : (d : Deed) (width n : ℕ) (e : Effect) → Some (effect_with d width n) ≡ Some e → n ≡ e.value
value_in d width n e h = let one : effect_with d width n ≡ e = cc in ap (λ (x : Effect). x.value) one

-- ---- code with one relocation

-- the instruction does not do what is demanded, where it stands in the item's bytes
abbrev pub IsNotDone : Reader → Layout → World → Memory → Item → InputRelocation → Instruction → Type 0
IsNotDone read l w m item r o = (start : ℕ) → r.offset ≡ start + o.field → matches_cells o.template.cells (slice_range item.bytes start (start + size_of o)) ≡ true → DoesDemanded read l w m item r start o → ⊥

not_next : (item : Item) (r : InputRelocation) (second : InputRelocation) (i : ℕ) → item.relocations ≡ r ∷ [] → slice_get item.relocations (i + 1) ≡ Some second → ⊥
not_next item r second i e h =
    let there : slice_get (r ∷ []) (i + 1) ≡ Some second = rw e at h in
    let none = slice_get_past (r ∷ []) (i + 1) (omega arith) in
    let none_there : None ≡ Some second = sym none ∙ there in
    cc

-- what an instruction has where it is in the item's bytes
abbrev pub IsAt : (ℕ → Instruction → InputRelocation → Type 0) → Item → InputRelocation → Instruction → Type 0
IsAt P item r o = (start : ℕ) → r.offset ≡ start + o.field → matches_cells o.template.cells (slice_range item.bytes start (start + size_of o)) ≡ true → P start o r

-- the one relocation of code is of an instruction that it fills
pub single_only : (P : ℕ → Instruction → InputRelocation → Type 0) (l : Layout) (item : Item) (r : InputRelocation) (start : ℕ) (o : Instruction) (first : InputRelocation) → l.machine ≡ machine.X86_64 → item.relocations ≡ r ∷ [] → Among (fills r.number) (IsAt P item r) (instructions_of machine.X86_64) → IsTemplate l item r start o first → P start o first
single_only P l item r start o first x one all (inl s) =
    let known : Contains (instructions_of machine.X86_64) o = subst (λ (k : Machine). Contains (instructions_of k) o) x s.0.stands.known in
    subst (λ (f : InputRelocation). P start o f) (sym s.1) (pick (fills r.number) (IsAt P item r) (instructions_of machine.X86_64) all o known (fills_is r.number o s.0.stands.number s.0.single) start s.0.stands.field s.0.stands.stands)
single_only P l item r start o first x one all (inr s) = (let t = (as_pair l item first s.rest start o x s.sequence).pair in absurd (not_next item r _ t.has.index one t.has.next))

not_done : (read : Reader) (l : Layout) (w : World) (m : Memory) (item : Item) (r : InputRelocation) (start : ℕ) (o : Instruction) (first : InputRelocation) → l.machine ≡ machine.X86_64 → item.relocations ≡ r ∷ [] → Among (fills r.number) (IsNotDone read l w m item r) (instructions_of machine.X86_64) → IsTemplate l item r start o first → DoesDemanded read l w m item first start o → ⊥
not_done read l w m item r start o first x one all t = single_only (λ from p f. DoesDemanded read l w m item f from p → ⊥) l item r start o first x one all t

pub single_refused : (l : Layout) (w : World) (m : Memory) (item : Item) (r : InputRelocation) (o : Instruction) → l.machine ≡ machine.X86_64 → item.relocations ≡ r ∷ [] → IsTemplate l item r 0 o r → ((read : Reader) → ReadsNumbers read → Among (fills r.number) (IsNotDone read l w m item r) (instructions_of machine.X86_64)) → ReferenceHolds l w m item r → ⊥
single_refused l w m item r o x one t all (inl h) = not_done (reads w m) l w m item r 0 o r x one (all (reads w m) (λ n. refl)) t (h.does 0 o r t)
single_refused l w m item r o x one t all (inr h) = not_done (reads_without_calls w m) l w m item r h.start h.instruction h.first x one (all (reads_without_calls w m) (λ n. refl)) h.template h.does

-- a byte before or behind the one field of four bytes
pub beside : (l : Layout) (item : Item) (r : InputRelocation) (g : Formula) (k : ℕ) → item.relocations ≡ r ∷ [] → formula_of l.machine r.number ≡ Some g → form_width g.form ≡ 4 → (k < r.offset) ⊎ (r.offset + 4 ≤ k) → InNoField l item k
beside l item r g k one known wide h =
    subst (λ (rs : List InputRelocation). (i : ℕ) (d : InputRelocation) → i < length rs → (f : Formula) → formula_of l.machine (get_or rs i d).number ≡ Some f → (k < (get_or rs i d).offset) ⊎ ((get_or rs i d).offset + form_width f.form ≤ k)) (sym one)
    (All-from_recursion (λ (q : InputRelocation). (f : Formula) → formula_of l.machine q.number ≡ Some f → (k < q.offset) ⊎ (q.offset + form_width f.form ≤ k)) (r ∷ []) ((λ f e. past l r g k f known wide h e), tt))
  where
    past : (l : Layout) (r : InputRelocation) (g : Formula) (k : ℕ) (f : Formula) → formula_of l.machine r.number ≡ Some g → form_width g.form ≡ 4 → (k < r.offset) ⊎ (r.offset + 4 ≤ k) → formula_of l.machine r.number ≡ Some f → (k < r.offset) ⊎ (r.offset + form_width f.form ≤ k)
    past l r g k f known wide (inl h) e = inl h
    past l r g k f known wide (inr h) e =
        let both : Some g ≡ Some f = sym known ∙ e in
        let same : g ≡ f = cc in
        let width : form_width f.form ≡ 4 = sym (ap (λ (x : Formula). form_width x.form) same) ∙ wide in
        inr (omega (arith, width, h))

-- ---- the instruction stands at the front

-- an instruction that the relocation fills, with its field no farther from its beginning, has at most n bytes
abbrev pub is_within : ℕ → ℕ → ℕ → Instruction → Bool
is_within number offset n o = not (has number o.numbers) || (not (nat_le o.field offset) || nat_le (size_of o) n)

passes : {X : Type 0} (p : X → Bool) (xs : List X) (x : X) → list_all p xs ≡ true → Contains xs x → p x ≡ true
passes p xs x all c = by p xs x all c.0 c.1 c.2
  where
    parts : (a b : Bool) → (a && b) ≡ true → (a ≡ true) × (b ≡ true)
    parts true b h = (refl, h)
    parts false b h = absurd (let both : false ≡ true = h in cc)

    by : {X : Type 0} (p : X → Bool) (xs : List X) (x : X) → list_all p xs ≡ true → (k : ℕ) → k < length xs → get_or xs k x ≡ x → p x ≡ true
    by {X} p [] x h k l e = absurd (omega (arith, l))
    by {X} p (y ∷ ys) x h zero l e = subst (λ (z : X). p z ≡ true) e (parts (p y) (list_all p ys) h).0
    by {X} p (y ∷ ys) x h (suc k) l e = by p ys x (parts (p y) (list_all p ys) h).1 k (omega (arith, l)) e

within : (number offset n from : ℕ) (o : Instruction) → list_all (is_within number offset n) (instructions_of machine.X86_64) ≡ true → Contains (instructions_of machine.X86_64) o → Contains o.numbers number → offset ≡ from + o.field → size_of o ≤ n
within number offset n from o all known filled e =
    leb-true (size_of o) n (third (has number o.numbers) (nat_le o.field offset) (nat_le (size_of o) n) (passes (is_within number offset n) (instructions_of machine.X86_64) o all known) (has_is number o.numbers filled) (le-leb o.field offset (omega (arith, e))))
  where
    third : (a b c : Bool) → (not a || (not b || c)) ≡ true → a ≡ true → b ≡ true → c ≡ true
    third true true c h e f = h
    third true false c h e f = absurd (let both : false ≡ true = f in cc)
    third false b c h e f = absurd (let both : false ≡ true = e in cc)

-- the one relocation of code that begins with an instruction belongs to it
pub template_there : (l : Layout) (item : Item) (r : InputRelocation) (o : Instruction) → l.machine ≡ machine.X86_64 → item.relocations ≡ r ∷ [] → o.partners ≡ [] → list_all (is_within r.number r.offset (size_of o)) (instructions_of machine.X86_64) ≡ true → IsInstruction l item r 0 o → IsTemplate l item r 0 o r
template_there l item r o x one single all t = inl (
  record {
    single = single;
    stands = t;
    longest = λ from p none s. within r.number r.offset (size_of o) from p all (subst (λ (k : Machine). Contains (instructions_of k) p) x s.known) s.number s.field;
    free = λ a rest from p q c. (let t = (as_pair l item a rest from p x q).pair in not_next item r _ t.has.index one t.has.next);
  },
  refl,
)
