-- Which words rewritten code reads: none, or the slot of its symbol's thread-pointer offset.
use Rattle.wild_references.proofs.Common.{◌≡◌, ℕ, Bool, true, false, List, length, refl, sym, ◌∙◌, subst, ◌==◌, if◌then◌else◌, Option, Some, None, option_map, option_and_then, Machine, InputRelocation, Layout, Item, Memory, World, Holds, Action, Operand, Number, Word, Reader, Effect, effect, with_value, meaning_x86_64, effect_x86_64, reads_numbers, place_at, Instruction, size_of, reads_without_calls, DoesDemanded, IsOffsetSlot, ReadsOffsetSlots}
use Rattle.std.proofs.Common.{eqb-true, eq-eqb}
use Rattle.wild_types.specs.declared.kind.Machine.TheVariants as machine
use Rattle.wild_meaning.proofs.OneReference.{same_bytes}

-- the code in place of an instruction does what that demands, and reads no other word
pub record IsDone (k : Machine) (l : Layout) (w : World) (m : Memory) (s : Item) (first : InputRelocation) (start : ℕ) (o : Instruction) : Type 0 where
  pub does : DoesDemanded (reads_without_calls w m) l w m s first start o
  pub words : ReadsOffsetSlots k l w m s first start o

-- ---- readers

-- a reader that reads one word alone
abbrev pub reads_at : ℕ → ℕ → Reader
reads_at g v (Number n) = Some n
reads_at g v (Word a) = if a == g then Some v else None
reads_at g v other = None

pub reads_there : (g v : ℕ) → reads_at g v (Word g) ≡ Some v
reads_there g v = (let t : (g == g) ≡ true = eq-eqb g g refl in rw t refl)

-- numbers read as themselves, and no word is read but the slot of the symbol's offset
pub record ReadsOnlySlots (l : Layout) (w : World) (symbol : Option ℕ) (read : Reader) : Type 0 where
  pub numbers : (n : ℕ) → read (Number n) ≡ Some n
  pub slots : (a x : ℕ) → read (Word a) ≡ Some x → IsOffsetSlot l w symbol a

pub no_slots : (l : Layout) (w : World) (symbol : Option ℕ) → ReadsOnlySlots l w symbol reads_numbers
no_slots l w symbol = record { numbers = λ n. refl; slots = λ a x h. absurd (let none : None ≡ Some x = h in cc) }

pub one_slot : (l : Layout) (w : World) (symbol : Option ℕ) (g v : ℕ) → IsOffsetSlot l w symbol g → ReadsOnlySlots l w symbol (reads_at g v)
one_slot l w symbol g v own = record { numbers = λ n. refl; slots = λ a x h. by a x (a == g) refl h }
  where
    by : (a x : ℕ) (b : Bool) → (a == g) ≡ b → (if b then Some v else None) ≡ Some x → IsOffsetSlot l w symbol a
    by a x true t h = subst (λ (n : ℕ). IsOffsetSlot l w symbol n) (sym (eqb-true a g t)) own
    by a x false f h = absurd (let none : None ≡ Some x = h in cc)

-- ---- code of x86-64

some_read : (act : Action) (o : Option ℕ) (e : Effect) → option_map (with_value act) o ≡ Some e → (x : ℕ) × (o ≡ Some x)
some_read act None e h = absurd (let none : None ≡ Some e = h in cc)
some_read act (Some x) e h = (x, refl)

-- code that has an effect with such a reader reads no other word
pub reads_only : (read : Reader) (l : Layout) (w : World) (m : Memory) (s : Item) (first : InputRelocation) (start : ℕ) (o : Instruction) (bytes : List ℕ) (e : Effect) → ReadsOnlySlots l w first.symbol read → length bytes ≡ size_of o → Holds m (place_at w s start) bytes → effect_x86_64 read (place_at w s start) bytes ≡ Some e → ReadsOffsetSlots machine.X86_64 l w m s first start o
reads_only read l w m s first start o bytes e only whole held does = λ others act a long there means is.
    let same : others ≡ bytes = same_bytes m (place_at w s start) others bytes (long ∙ sym whole) there held in
    let here : meaning_x86_64 (place_at w s start) bytes ≡ Some act = subst (λ (bs : List ℕ). meaning_x86_64 (place_at w s start) bs ≡ Some act) same means in
    let acts : effect read act ≡ Some e = subst (λ (x : Option Action). option_and_then (effect read) x ≡ Some e) here does in
    let reads : option_map (with_value act) (read (Word a)) ≡ Some e = subst (λ (x : Operand). option_map (with_value act) (read x) ≡ Some e) is acts in
    let some = some_read act (read (Word a)) e reads in
    only.slots a some.0 some.1
