-- The symbols that files write, each at the places behind those before it.
use Rattle.wild_slots.proofs.Common.{◌≡◌, ℕ, ◌+◌, ◌-◌, ◌<◌, ◌≤◌, inl, inr, Bool, true, false, List, [], ◌∷◌, ◌++◌, length, drop, get_or, Some, None, Ok, Err, Contains, refl, sym, ap, ◌∙◌, subst, arith, slice_get, slice_range, Option, Result, not, ◌&&◌, ◌==◌, nat_lt, if◌then◌else◌, cases_Bool, and_parts, eqb-true, File, Symbol, Layout, total, got_of, stub_size, symbol_share, own_symbols, slots_of, first_free, group_symbols, written_symbols}
use Rattle.std.proofs.lemmas.Bool.{cases_lt, and_cases, ltb-false, not-false}
use Rattle.std.proofs.lemmas.Option.{slice_get_within, get_or_from_slice_get}
use Rattle.std.proofs.lemmas.List.{length-take, length-drop, get_or-take, get_or-drop}
use Rattle.std.proofs.lemmas.List.Elements.{All-contains, Contains-append_left, Contains-append_right}
use Rattle.wild_types.specs.declared.part.Role.TheVariants as role
use Rattle.wild_plan_rules.specs.declared.slot_places.SlotCursor.{SlotCursor}
use Rattle.wild_types.specs.SymbolSlots.{lacks_slots}
use Rattle.wild_types.specs.FileRoles.{writes_slots}
use Rattle.wild_plan_rules.specs.SlotPlaces.{has_next_places, free_after, walk, symbol_step, slot_before, unless_some, range_step, file_step, group_step, last_astray, slots_astray}
use Rattle.wild_types.proofs.ListLemmas.{All-from_none_fails, total-append}
use Rattle.wild_slots.proofs.WalkLemmas.{AllAfter, Walked, Walked-none, Walked-more, through_both, same_Ok, walk_through}

-- the free places behind those of the symbols so far
pub record IsAfter (l : Layout) (front : List Symbol) (n : SlotCursor) : Type 0 where
  pub got : n.got ≡ (first_free l).got + total (symbol_share l role.Got) front
  pub block : n.block ≡ (first_free l).block + total (symbol_share l role.GotRelr) front
  pub stub : n.stub ≡ (first_free l).stub + total (symbol_share l role.PltGot) front

-- the symbol stands at such places
pub record IsPlacedAfter (l : Layout) (front : List Symbol) (s : Symbol) : Type 0 where
  pub free : SlotCursor
  pub behind : IsAfter l front free
  pub next : has_next_places l free s ≡ true

-- ---- one symbol more

pub total-push : {X : Type 0} (f : X → ℕ) (xs : List X) (x : X) → total f (xs ++ x ∷ []) ≡ total f xs + f x
total-push f xs x = let e = total-append f xs (x ∷ []) in omega (arith, e)

stub_more : (b : Bool) (n k : ℕ) → (if b then n + k else n) ≡ n + (if b then k else 0)
stub_more true n k = refl
stub_more false n k = omega arith

IsAfter-more : (l : Layout) (front : List Symbol) (n : SlotCursor) (s : Symbol) → IsAfter l front n → IsAfter l (front ++ s ∷ []) (free_after l n s)
IsAfter-more l front n s h = record {
  got = let a = h.got in let e = total-push (symbol_share l role.Got) front s in omega (arith, a, e);
  block = let a = h.block in let e = total-push (symbol_share l role.GotRelr) front s in omega (arith, a, e);
  stub = let a = h.stub in let e = total-push (symbol_share l role.PltGot) front s in let d = stub_more (slots_of l s).has_stub n.stub stub_size in omega (arith, a, e, d);
}

-- a step that does not fail
pub record Stepped (l : Layout) (n m : SlotCursor) (s : Symbol) : Type 0 where
  pub next : has_next_places l n s ≡ true
  pub is : free_after l n s ≡ m

stepped : (l : Layout) (n m : SlotCursor) (s : Symbol) → symbol_step l n s ≡ Ok m → Stepped l n m s
stepped l n m s h =
    elim (cases_Bool (has_next_places l n s)) [
      | inl t ↦ record { next = t; is = same_Ok (free_after l n s) m (rw t at h) }
      | inr f ↦ cc (rw f at h)
    ]

symbols_walked : (l : Layout) (ss front : List Symbol) (n m : SlotCursor) → IsAfter l front n → walk (symbol_step l) n ss ≡ Ok m → Walked (IsPlacedAfter l) (IsAfter l) front ss m
unfolding walk
symbols_walked l [] front n m b h = Walked-none (IsPlacedAfter l) (IsAfter l) front m (subst (IsAfter l front) (same_Ok n m h) b)
symbols_walked l (s ∷ ss) front n m b h =
    let two = through_both (symbol_step l n s) (λ t. walk (symbol_step l) t ss) m h in
    let one = stepped l n two.state s two.first in
    let more = subst (IsAfter l (front ++ s ∷ [])) one.is (IsAfter-more l front n s b) in
    let here : Walked (IsPlacedAfter l) (IsAfter l) front (s ∷ []) two.state = record { each = (record { free = n; behind = b; next = one.next }, tt); kept = more } in
    Walked-more (IsPlacedAfter l) (IsAfter l) front (s ∷ []) ss two.state m here (symbols_walked l ss (front ++ s ∷ []) two.state m more two.rest)

-- each symbol takes a number
symbols_counted : (l : Layout) (ss : List Symbol) (n m : SlotCursor) → walk (symbol_step l) n ss ≡ Ok m → m.symbol ≡ n.symbol + length ss
unfolding walk
symbols_counted l [] n m h = let e = ap (λ (f : SlotCursor). f.symbol) (same_Ok n m h) in omega (arith, e)
symbols_counted l (s ∷ ss) n m h =
    let two = through_both (symbol_step l n s) (λ t. walk (symbol_step l) t ss) m h in
    let one = stepped l n two.state s two.first in
    let e = ap (λ (f : SlotCursor). f.symbol) one.is in
    let rest = symbols_counted l ss two.state m two.rest in
    omega (arith, e, rest)

-- ---- symbols by their numbers

-- of the symbols below a number, those with slots are listed
abbrev pub AreListed : Layout → List Symbol → ℕ → Type 0
AreListed l front n = (i at : ℕ) (s : Symbol) → i < n → slice_get l.symbols i ≡ Some s → got_of s ≡ Some at → Contains front s

-- a symbol of a range
in_range : (xs : List Symbol) (a b i : ℕ) (s : Symbol) → a ≤ i → i < a + length (slice_range xs a b) → slice_get xs i ≡ Some s → Contains (slice_range xs a b) s
in_range xs a b i s low high e =
    let k : a + (i - a) ≡ i = omega arith in
    let len = length-take (b - a) (drop a xs) in
    let within : i - a < length (slice_range xs a b) = omega arith in
    let short : i - a < b - a = omega (arith, len, within) in
    (i - a, within, get_or-take (b - a) (drop a xs) (i - a) s short ∙ get_or-drop a xs (i - a) s ∙ ap (λ (j : ℕ). get_or xs j s) k ∙ get_or_from_slice_get xs i s s e)

-- symbols that no file writes have no slots
none_before : (l : Layout) (n : SlotCursor) (to i at : ℕ) (s : Symbol) → slot_before l n to ≡ None → n.symbol ≤ i → i < to → slice_get l.symbols i ≡ Some s → got_of s ≡ Some at → ⊥
none_before l n to i at s h low high e g =
    let all = All-from_none_fails lacks_slots n.symbol (slice_range l.symbols n.symbol to) h in
    let there = slice_get_within l.symbols i s e in
    let len = length-take (to - n.symbol) (drop n.symbol l.symbols) in
    let rest = length-drop n.symbol l.symbols in
    let c = in_range l.symbols n.symbol to i s low (omega (arith, len, rest, there, low, high)) e in
    let w = All-contains (λ (x : Symbol). lacks_slots x ≡ true) (slice_range l.symbols n.symbol to) s all c in
    cc

-- ---- files

-- what the walk keeps: the free places, and that the symbols so far are listed
pub record Keeps (l : Layout) (front : List Symbol) (n : SlotCursor) : Type 0 where
  pub behind : IsAfter l front n
  pub listed : AreListed l front n.symbol

AreListed-more : (l : Layout) (front : List Symbol) (f : File) (n : SlotCursor) → AreListed l front n.symbol → n.symbol ≤ f.first_symbol → slot_before l n f.first_symbol ≡ None → AreListed l (front ++ slice_range l.symbols f.first_symbol (f.first_symbol + f.symbol_count)) (f.first_symbol + length (slice_range l.symbols f.first_symbol (f.first_symbol + f.symbol_count)))
AreListed-more l front f n h low none i at s lt e g =
    let own = slice_range l.symbols f.first_symbol (f.first_symbol + f.symbol_count) in
    elim (cases_lt i n.symbol) [
      | inl a ↦ Contains-append_left front own s (h i at s a e g)
      | inr b ↦ elim (cases_lt i f.first_symbol) [
        | inl c ↦ absurd (none_before l n f.first_symbol i at s none b c e g)
        | inr d ↦ Contains-append_right front own s (in_range l.symbols f.first_symbol (f.first_symbol + f.symbol_count) i s d lt e)
      ]
    ]

pub record Ranged (l : Layout) (n m : SlotCursor) (f : File) : Type 0 where
  pub low : n.symbol ≤ f.first_symbol
  pub none : slot_before l n f.first_symbol ≡ None
  pub walked : walk (symbol_step l) (record n { symbol = f.first_symbol }) (own_symbols l f) ≡ Ok m

ranged : (l : Layout) (n m : SlotCursor) (f : File) → range_step l n f ≡ Ok m → Ranged l n m f
ranged l n m f h = by_order (nat_lt f.first_symbol n.symbol) refl h
  where
    unless_none : (o : Option ℕ) (r : Result SlotCursor ℕ) → unless_some o r ≡ Ok m → (o ≡ None) × (r ≡ Ok m)
    unless_none None r e = (refl, e)
    unless_none (Some i) r e = cc

    by_order : (b : Bool) → nat_lt f.first_symbol n.symbol ≡ b → (if b then Err f.first_symbol else unless_some (slot_before l n f.first_symbol) (walk (symbol_step l) (record n { symbol = f.first_symbol }) (own_symbols l f))) ≡ Ok m → Ranged l n m f
    by_order true t e = cc
    by_order false t e =
        let u = unless_none _ _ e in
        record { low = ltb-false f.first_symbol n.symbol t; none = u.0; walked = u.1 }

-- a file with symbols whose slots it writes
range_walked : (l : Layout) (front : List Symbol) (n m : SlotCursor) (f : File) → Keeps l front n → writes_slots f.role ≡ true → range_step l n f ≡ Ok m → Walked (IsPlacedAfter l) (Keeps l) front (own_symbols l f) m
range_walked l front n m f k w h =
    let r = ranged l n m f h in
    let b : IsAfter l front (record n { symbol = f.first_symbol }) = record { got = k.behind.got; block = k.behind.block; stub = k.behind.stub } in
    let s = symbols_walked l (own_symbols l f) front (record n { symbol = f.first_symbol }) m b r.walked in
    let c = symbols_counted l (own_symbols l f) (record n { symbol = f.first_symbol }) m r.walked in
    let own : own_symbols l f ≡ slice_range l.symbols f.first_symbol (f.first_symbol + f.symbol_count) = rw w refl in
    let P : List Symbol → Type 0 = λ ss. AreListed l (front ++ ss) (f.first_symbol + length ss) in
    let listed = subst P (sym own) (AreListed-more l front f n k.listed r.low r.none) in
    record { each = s.each; kept = record { behind = s.kept; listed = subst (AreListed l (front ++ own_symbols l f)) (sym c) listed } }

-- any other has none
none_own : (l : Layout) (f : File) → (writes_slots f.role && not (f.symbol_count == 0)) ≡ false → own_symbols l f ≡ []
none_own l f h =
    elim (and_cases (writes_slots f.role) (not (f.symbol_count == 0)) h) [
      | inl w ↦ rw w refl
      | inr c ↦ elim (cases_Bool (writes_slots f.role)) [
        | inl t ↦
            (let z : f.symbol_count ≡ 0 = eqb-true f.symbol_count 0 (not-false (f.symbol_count == 0) c) in
            let e : f.first_symbol + f.symbol_count - f.first_symbol ≡ 0 = omega (arith, z) in
            rw (t, e) refl)
        | inr w ↦ rw w refl
      ]
    ]

file_walked : (l : Layout) (front : List Symbol) (n m : SlotCursor) (f : File) → Keeps l front n → file_step l n f ≡ Ok m → Walked (IsPlacedAfter l) (Keeps l) front (own_symbols l f) m
file_walked l front n m f k h =
    elim (cases_Bool (writes_slots f.role && not (f.symbol_count == 0))) [
      | inl t ↦ range_walked l front n m f k (and_parts (writes_slots f.role) (not (f.symbol_count == 0)) t).0 (rw t at h)
      | inr e ↦
          (let P : List Symbol → Type 0 = λ ss. Walked (IsPlacedAfter l) (Keeps l) front ss m in
          subst P (sym (none_own l f e)) (Walked-none (IsPlacedAfter l) (Keeps l) front m (subst (Keeps l front) (same_Ok n m (rw e at h)) k)))
    ]

-- ---- the whole

keeps_first : (l : Layout) → Keeps l [] (first_free l)
keeps_first l = record {
  behind = record { got = omega arith; block = omega arith; stub = omega arith };
  listed = λ i at s lt e g. absurd (omega (arith, lt));
}

-- each symbol stands behind those before it, and each with slots is listed
pub record AreInOrder (l : Layout) : Type 0 where
  pub each : AllAfter (IsPlacedAfter l) [] (written_symbols l)
  pub listed : (i at : ℕ) (s : Symbol) → slice_get l.symbols i ≡ Some s → got_of s ≡ Some at → Contains (written_symbols l) s

pub AreInOrder-from_test : (l : Layout) → slots_astray l ≡ None → AreInOrder l
AreInOrder-from_test l h = by_end (walk (group_step l) (first_free l) l.groups) refl h
  where
    by_end : (r : Result SlotCursor ℕ) → walk (group_step l) (first_free l) l.groups ≡ r → last_astray l r ≡ None → AreInOrder l
    by_end (Err i) e none = cc
    by_end (Ok m) e none =
        let w = walk_through (IsPlacedAfter l) (Keeps l) (group_symbols l) (group_step l)
        (λ front s t g k i. walk_through (IsPlacedAfter l) (Keeps l) (own_symbols l) (file_step l) (λ a b c f j o. file_walked l a b c f j o) g.files front s t k i)
        l.groups [] (first_free l) m (keeps_first l) e in
        record {
          each = w.each;
          listed = λ i at s is g. elim (cases_lt i m.symbol) [
            | inl lt ↦ w.kept.listed i at s lt is g
            | inr ge ↦ absurd (none_before l m (length l.symbols) i at s none ge (slice_get_within l.symbols i s is) is g)
          ];
        }
