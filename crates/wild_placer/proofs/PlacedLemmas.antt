-- Placements by their numbers, as a list of pairs.
use Rattle.wild_placer.proofs.Common.{◌≡◌, ℕ, ◌^◌, ◌<◌, Bool, true, false, List, [], ◌∷◌, ◌++◌, length, refl, sym, ap, subst, ◌∙◌, inl, inr, ◌⊎◌, ◌==◌, Option, Some, None, IsSome, IfSome, IfNone, is_some, cond, nat_lt, nat_cmp, is_eq, lookup, get, is_at, cases_Bool, eqb-true, eq-eqb, none-some, slice_get_within, Memory, Run, LoadedRun, Runs, IsRunAt, IsTaken, IsLeastOfRuns}
use Rattle.std.specs.declared.cmp.Ordering.{Ordering}
use Rattle.std.specs.Ordering.{match_ordering}
use Rattle.std.specs.Map.{remove_entry}
use Rattle.std.specs.BTreeMap.{BTreeMap, insert_entry}
use Rattle.std.proofs.lemmas.Bool.{lt-ltb}
use Rattle.wild_loader.specs.Changes.{first_value}
use Rattle.wild_loader.specs.Memory.{byte_in}
use Rattle.wild_placer.specs.Shared.{IsInRuns}
use Rattle.wild_placer.specs.Live.{byte_in_memory, ArePlaced}
use Rattle.wild_placer.specs.Placed.{without, IsFree, IsByte, IsFirstTaken, AreApart, HasByte}
use Rattle.wild_placer.proofs.IndexLemmas.{clash, is_some_of, not_some, greater}
use Rattle.wild_placer.proofs.ListedLemmas.{is_key}
use Rattle.wild_placer.proofs.LiveLemmas.{value_of_some, byte-found, byte_of-in, byte-some, free_at, taken_has, taken_live, placements_apart}

equality_turned : (n k : ℕ) → (n == k) ≡ (k == n)
equality_turned n k =
    elim (cases_Bool (k == n)) [
      | inl t ↦ eq-eqb n k (sym (eqb-true k n t)) ∙ sym t
      | inr f ↦ other f (cases_Bool (n == k))
    ]
  where
    other : (k == n) ≡ false → ((n == k) ≡ true) ⊎ ((n == k) ≡ false) → (n == k) ≡ (k == n)
    other f (inl t) = absurd (clash (k == n) (eq-eqb k n (sym (eqb-true n k t))) f)
    other f (inr g) = g ∙ sym f

is_key_turned : (n k : ℕ) → is_eq (nat_cmp n k) ≡ (k == n)
is_key_turned n k = is_key n k ∙ equality_turned n k

-- a look-up finds the first pair of a number
look_up_is_first : (es : List (ℕ × Memory)) (n : ℕ) → lookup (is_at (nat_cmp n)) es ≡ first_value es n
look_up_is_first [] n = refl
look_up_is_first (e ∷ es) n = ap (λ (b : Bool). cond b (Some e.1) (lookup (is_at (nat_cmp n)) es)) (is_key_turned n e.0) ∙ ap (λ (o : Option Memory). cond (e.0 == n) (Some e.1) o) (look_up_is_first es n)

pub get_first : (live : BTreeMap ℕ Memory) (n : ℕ) → get nat_cmp live n ≡ first_value live.entries n
get_first live n = look_up_is_first live.entries n

pub removal_is_without : (n : ℕ) (es : List (ℕ × Memory)) → remove_entry (is_at (nat_cmp n)) es ≡ without n es
removal_is_without n [] = refl
removal_is_without n (e ∷ es) = ap (λ (b : Bool). cond b es (e ∷ remove_entry (is_at (nat_cmp n)) es)) (is_key_turned n e.0) ∙ ap (λ (ps : List (ℕ × Memory)). cond (e.0 == n) es (e ∷ ps)) (removal_is_without n es)

-- a number above all goes to the end
pub insertion_is_last : (es : List (ℕ × Memory)) (n : ℕ) (m : Memory) → ((k : ℕ) → IsSome (lookup (is_at (nat_cmp k)) es) → k < n) → insert_entry nat_cmp es n m ≡ es ++ (n, m) ∷ []
insertion_is_last [] n m below = refl
insertion_is_last (e ∷ es) n m below =
    ap (λ (o : Ordering). match_ordering o ((n, m) ∷ e ∷ es) ((e.0, m) ∷ es) (e ∷ insert_entry nat_cmp es n m)) (greater n e.0 (below e.0 (first e es)))
    ∙ ap (λ (ps : List (ℕ × Memory)). e ∷ ps) (insertion_is_last es n m (λ k some. below k (later k e es some)))
  where
    first : (e : ℕ × Memory) (es : List (ℕ × Memory)) → IsSome (lookup (is_at (nat_cmp e.0)) (e ∷ es))
    first e es = is_some_of (lookup (is_at (nat_cmp e.0)) (e ∷ es)) e.1 (ap (λ (b : Bool). cond b (Some e.1) (lookup (is_at (nat_cmp e.0)) es)) (is_key e.0 e.0 ∙ eq-eqb e.0 e.0 refl))

    either : (b : Bool) (x : Memory) (o : Option Memory) → IsSome o → IsSome (cond b (Some x) o)
    either true x o some = refl
    either false x o some = some

    later : (k : ℕ) (e : ℕ × Memory) (es : List (ℕ × Memory)) → IsSome (lookup (is_at (nat_cmp k)) es) → IsSome (lookup (is_at (nat_cmp k)) (e ∷ es))
    later k e es some = either (is_eq (nat_cmp k e.0)) e.1 (lookup (is_at (nat_cmp k)) es) some

pub numbers_below : (next : ℕ) (live : BTreeMap ℕ Memory) (runs : Runs) → ArePlaced next (get nat_cmp live) runs → (k : ℕ) → IsSome (lookup (is_at (nat_cmp k)) live.entries) → k < next
numbers_below next live runs placed k some = let m = value_of_some (get nat_cmp live k) some in placed.numbers k m.0 m.1

-- ---- bytes

pub is_free : (next a : ℕ) (live : BTreeMap ℕ Memory) (runs : Runs) → ArePlaced next (get nat_cmp live) runs → (IsTaken runs a → ⊥) → IsFree (record { next = next; live = live.entries }) a
is_free next a live runs placed free n m h = free_at next (get nat_cmp live) runs a placed free n m (get_first live n ∙ h)

pub are_apart : (next : ℕ) (live : BTreeMap ℕ Memory) (runs : Runs) → ArePlaced next (get nat_cmp live) runs → AreApart (record { next = next; live = live.entries })
are_apart next live runs placed a n k m q h g has too = placements_apart next (get nat_cmp live) runs a n k m q placed (get_first live n ∙ h) (get_first live k ∙ g) has too

pub is_byte : (next a b number : ℕ) (live : BTreeMap ℕ Memory) (m : Memory) → get nat_cmp live number ≡ Some m → byte_in m a ≡ Some b → IsByte (record { next = next; live = live.entries }) a b
is_byte next a b number live m h e = record { number = number; memory = m; live = sym (get_first live number) ∙ h; byte = e }

-- an address of a listed run has a byte
pub taken_byte : (next a start : ℕ) (x : LoadedRun) (live : BTreeMap ℕ Memory) (runs : Runs) → ArePlaced next (get nat_cmp live) runs → nat_lt a (2 ^ 64) ≡ true → IsRunAt runs a start x → (b : ℕ) × IsByte (record { next = next; live = live.entries }) a b
taken_byte next a start x live runs placed low at =
    let m = taken_live next (get nat_cmp live) runs start x placed at.listed in
    let b = value_of_some (byte_in m.0 a) (taken_has next (get nat_cmp live) runs a start x m.0 placed low at m.1) in
    (b.0, is_byte next a b.0 x.number live m.0 m.1 b.1)

-- a byte of a memory is in one of its runs
in_runs : (m : Memory) (a : ℕ) → HasByte m a → IsInRuns m.runs (length m.runs) a
in_runs m a has =
    let b = value_of_some (byte_in m a) has in
    let f = byte-found m.runs a b.0 (byte_of-in m a b.0 b.1) in
    record { index = f.index; run = f.run; before = slice_get_within m.runs f.index f.run f.listed; listed = f.listed; has = f.has }

-- the least address that runs share is the first byte that is taken
pub first_taken : (next a : ℕ) (m : Memory) (rs : List Run) (live : BTreeMap ℕ Memory) (runs : Runs) → rs ≡ m.runs → ArePlaced next (get nat_cmp live) runs → a < 2 ^ 64 → IsLeastOfRuns runs rs (length rs) (Some a) → IsFirstTaken (record { next = next; live = live.entries }) m a
first_taken next a m rs live runs same placed below found =
    let low = lt-ltb a (2 ^ 64) below in
    let least : IsLeastOfRuns runs m.runs (length m.runs) (Some a) = subst (λ (qs : List Run). IsLeastOfRuns runs qs (length qs) (Some a)) same found in
    let own = least.has in
    let t = least.taken in
    let byte = taken_byte next a t.start t.run live runs placed low t.is in
    record {
      own = byte-some m own.index a own.run low own.listed own.has;
      byte = byte.0;
      taken = byte.1;
      first = λ b before has. is_free next b live runs placed (least.first b before (in_runs m b has));
    }

pub none_taken : (m : Memory) (rs : List Run) (runs : Runs) → rs ≡ m.runs → IsLeastOfRuns runs rs (length rs) None → IsLeastOfRuns runs m.runs (length m.runs) None
none_taken m rs runs same found = subst (λ (qs : List Run). IsLeastOfRuns runs qs (length qs) None) same found

-- if runs share nothing, no byte of the memory is taken
pub all_free : (next : ℕ) (m : Memory) (live : BTreeMap ℕ Memory) (runs : Runs) → ArePlaced next (get nat_cmp live) runs → IsLeastOfRuns runs m.runs (length m.runs) None → (a : ℕ) → HasByte m a → IsFree (record { next = next; live = live.entries }) a
all_free next m live runs placed none a has = is_free next a live runs placed (none a (in_runs m a has))

-- ---- what is read at an address of a listed run

read_memory : (next a start : ℕ) (x : LoadedRun) (live : BTreeMap ℕ Memory) (runs : Runs) (m : Memory) (o : Option ℕ) → ArePlaced next (get nat_cmp live) runs → a < 2 ^ 64 → IsRunAt runs a start x → get nat_cmp live x.number ≡ Some m → o ≡ byte_in m a
    → IfSome o (λ b. IsByte (record { next = next; live = live.entries }) a b) × IfNone o (IsFree (record { next = next; live = live.entries }) a)
read_memory next a start x live runs m None placed below at is e = absurd (not_some (byte_in m a) (taken_has next (get nat_cmp live) runs a start x m placed (lt-ltb a (2 ^ 64) below) at is) (sym e))
read_memory next a start x live runs m (Some b) placed below at is e = (is_byte next a b x.number live m is (sym e), tt)

pub read_run : (next a start : ℕ) (x : LoadedRun) (live : BTreeMap ℕ Memory) (runs : Runs) (o : Option ℕ) → ArePlaced next (get nat_cmp live) runs → a < 2 ^ 64 → IsRunAt runs a start x → o ≡ byte_in_memory (get nat_cmp live x.number) a
    → IfSome o (λ b. IsByte (record { next = next; live = live.entries }) a b) × IfNone o (IsFree (record { next = next; live = live.entries }) a)
read_run next a start x live runs o placed below at e =
    let m = taken_live next (get nat_cmp live) runs start x placed at.listed in
    read_memory next a start x live runs m.0 o placed below at m.1 (e ∙ ap (λ (y : Option Memory). byte_in_memory y a) m.1)

pub none_of : {X : Type 0} (o : Option X) → is_some o ≡ false → o ≡ None
none_of None h = refl
none_of (Some x) h = cc

-- ---- no placements

pub none_placed : (live : BTreeMap ℕ Memory) (starts : BTreeMap ℕ LoadedRun) → live.entries ≡ [] → starts.entries ≡ [] → ArePlaced 0 (get nat_cmp live) (get nat_cmp starts)
none_placed live starts empty none = record {
  numbers = λ n m h. absurd (none-some m (sym (no_memory n) ∙ h));
  listed = λ n i m r h at some. absurd (none-some m (sym (no_memory n) ∙ h));
  held = λ a x h. absurd (none-some x (sym (no_run a) ∙ h));
  separate = record {
    filled = λ a x h. absurd (none-some x (sym (no_run a) ∙ h));
    apart = λ a b x y h g l. absurd (none-some x (sym (no_run a) ∙ h));
  };
}
  where
    no_memory : (n : ℕ) → get nat_cmp live n ≡ None
    no_memory n = ap (λ (es : List (ℕ × Memory)). lookup (is_at (nat_cmp n)) es) empty

    no_run : (a : ℕ) → get nat_cmp starts a ≡ None
    no_run a = ap (λ (es : List (ℕ × LoadedRun)). lookup (is_at (nat_cmp a)) es) none
