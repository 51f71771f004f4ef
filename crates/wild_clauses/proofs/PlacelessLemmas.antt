-- Where no symbol has a slot or a stub, and the files' ranges of symbols ascend, none stands out of its place.
use Rattle.std.proofs.Common.{◌≡◌, ℕ, zero, suc, ◌+◌, ◌-◌, ◌<◌, ◌≤◌, inl, inr, Bool, true, false, ◌&&◌, List, [], ◌∷◌, ◌++◌, length, take, drop, None, Ok, refl, ap, ◌∙◌, arith}
use Rattle.std.specs.Prelude.{not, ◌==◌, is_some, if◌then◌else◌, nat_lt, Option, Some, Result, Err, slice_range}
use Rattle.std.specs.List.{list_all}
use Rattle.std.proofs.lemmas.Bool.{cases_Bool, and_parts, and_from}
use Rattle.std.proofs.lemmas.Bool.Decides.{nat_tests}
use Rattle.wild_types.specs.declared.symbol.Symbol.{Symbol}
use Rattle.wild_types.specs.declared.file.File.{File}
use Rattle.wild_types.specs.declared.file.Group.{Group}
use Rattle.wild_types.specs.declared.layout.Layout.{Layout}
use Rattle.wild_types.specs.FileRoles.{writes_slots}
use Rattle.wild_types.specs.FileSymbols.{own_symbols}
use Rattle.wild_types.specs.Lists.{first_failing}
use Rattle.wild_types.specs.Lookups.{files_of}
use Rattle.wild_types.specs.SymbolSlots.{lacks_slots, plt_of}
use Rattle.wild_plan_rules.specs.declared.slot_places.SlotCursor.{SlotCursor}
use Rattle.wild_plan_rules.specs.SlotPlaces.{first_free, is_free_place, and_then, walk, symbol_step, slot_before, range_step, file_step, group_step, last_astray, slots_astray, has_no_places}
use Rattle.wild_plan_rules.specs.ClauseTests.{check_indexes}
use Rattle.wild_clauses.proofs.AstrayLemmas.{Ascend}
use Rattle.wild_clauses.proofs.DynsymLemmas.{ranges_ascend}
use Rattle.wild_clauses.proofs.PassedLemmas.{none_fails}
use Rattle.wild_plan_rules.proofs.SlotPlaceLemmas.{step_without}

-- ---- symbols

all_taken : {X : Type 0} (t : X → Bool) (n : ℕ) (xs : List X) → list_all t xs ≡ true → list_all t (take n xs) ≡ true
all_taken t zero xs h = refl
all_taken t (suc n) [] h = refl
all_taken t (suc n) (x ∷ xs) h = let p = and_parts (t x) (list_all t xs) h in and_from (t x) (list_all t (take n xs)) p.0 (all_taken t n xs p.1)

all_left : {X : Type 0} (t : X → Bool) (n : ℕ) (xs : List X) → list_all t xs ≡ true → list_all t (drop n xs) ≡ true
all_left t zero xs h = h
all_left t (suc n) [] h = refl
all_left t (suc n) (x ∷ xs) h = let p = and_parts (t x) (list_all t xs) h in all_left t n xs p.1

all_ranged : {X : Type 0} (t : X → Bool) (a b : ℕ) (xs : List X) → list_all t xs ≡ true → list_all t (slice_range xs a b) ≡ true
all_ranged t a b xs h = all_taken t (b - a) (drop a xs) (all_left t a xs h)

own_placeless : (l : Layout) (f : File) → list_all has_no_places l.symbols ≡ true → list_all has_no_places (own_symbols l f) ≡ true
own_placeless l f h = by_role (writes_slots f.role) (all_ranged has_no_places f.first_symbol (f.first_symbol + f.symbol_count) l.symbols h)
  where
    by_role : (b : Bool) → list_all has_no_places (slice_range l.symbols f.first_symbol (f.first_symbol + f.symbol_count)) ≡ true → list_all has_no_places (if b then slice_range l.symbols f.first_symbol (f.first_symbol + f.symbol_count) else []) ≡ true
    by_role true e = e
    by_role false e = refl

pub take_few : {X : Type 0} (n : ℕ) (xs : List X) → length (take n xs) ≤ n
take_few zero xs = omega arith
take_few (suc n) [] = omega arith
take_few (suc n) (x ∷ xs) = let e = take_few n xs in omega (arith, e)

own_few : (l : Layout) (f : File) → length (own_symbols l f) ≤ f.symbol_count
own_few l f = by_role (writes_slots f.role) (take_few (f.first_symbol + f.symbol_count - f.first_symbol) (drop f.first_symbol l.symbols))
  where
    by_role : (b : Bool) → length (slice_range l.symbols f.first_symbol (f.first_symbol + f.symbol_count)) ≤ f.first_symbol + f.symbol_count - f.first_symbol → length (if b then slice_range l.symbols f.first_symbol (f.first_symbol + f.symbol_count) else []) ≤ f.symbol_count
    by_role true e = omega (arith, e)
    by_role false e = omega arith

without : (ss : List Symbol) → list_all has_no_places ss ≡ true → list_all lacks_slots ss ≡ true
without [] h = refl
without (s ∷ ss) h =
    let p = and_parts (has_no_places s) (list_all has_no_places ss) h in
    let q = and_parts (lacks_slots s) (not (is_some (plt_of s))) p.0 in
    and_from (lacks_slots s) (list_all lacks_slots ss) q.0 (without ss p.1)

none_before : (l : Layout) (n : SlotCursor) (to : ℕ) → list_all has_no_places l.symbols ≡ true → slot_before l n to ≡ None
none_before l n to h = none_fails lacks_slots n.symbol (slice_range l.symbols n.symbol to) (all_ranged lacks_slots n.symbol to l.symbols (without l.symbols h))

no_stub : (o : Option ℕ) → not (is_some o) ≡ true → o ≡ None
no_stub None h = refl
no_stub (Some i) h = cc

by_stub : (n : SlotCursor) (o : Option ℕ) → o ≡ None → (if is_free_place n.stub o then Ok (record n { symbol = n.symbol + 1 }) else Err n.symbol) ≡ Ok (record n { symbol = n.symbol + 1 })
by_stub n None e = refl
by_stub n (Some i) e = cc

step_placeless : (l : Layout) (n : SlotCursor) (s : Symbol) → has_no_places s ≡ true → symbol_step l n s ≡ Ok (record n { symbol = n.symbol + 1 })
step_placeless l n s h =
    let q = and_parts (lacks_slots s) (not (is_some (plt_of s))) h in
    let stub = no_stub (plt_of s) q.1 in
    step_without l n s q.0 ∙ by_stub n (plt_of s) stub

-- a walk that goes on, with so many symbols behind it
record Passed (r : Result SlotCursor ℕ) (most : ℕ) : Type 0 where
  to : SlotCursor
  is : r ≡ Ok to
  few : to.symbol ≤ most

symbols_pass : (l : Layout) (n : SlotCursor) (ss : List Symbol) → list_all has_no_places ss ≡ true → Passed (walk (symbol_step l) n ss) (n.symbol + length ss)
unfolding walk
symbols_pass l n [] h = record { to = n; is = refl; few = omega arith }
symbols_pass l n (s ∷ ss) h =
    let p = and_parts (has_no_places s) (list_all has_no_places ss) h in
    let m : SlotCursor = record n { symbol = n.symbol + 1 } in
    let rest = symbols_pass l m ss p.1 in
    record {
      to = rest.to;
      is = ap (λ (r : Result SlotCursor ℕ). and_then r (λ t. walk (symbol_step l) t ss)) (step_placeless l n s p.0) ∙ rest.is;
      few = let e : rest.to.symbol ≤ n.symbol + 1 + length ss = rest.few in omega (arith, e);
    }

-- ---- files and groups

-- a walk that goes on ahead of the files behind
record Goes (l : Layout) (r : Result SlotCursor ℕ) (later : List File) : Type 0 where
  to : SlotCursor
  next : ℕ
  is : r ≡ Ok to
  few : to.symbol ≤ next
  ascend : Ascend (length l.symbols) next later

taken : (writes none : Bool) (r s : Result SlotCursor ℕ) → writes ≡ true → none ≡ false → (if writes && not none then r else s) ≡ r
taken true false r s w z = refl
taken true true r s w z = cc
taken false none r s w z = cc

passed_over : (writes none : Bool) (r s : Result SlotCursor ℕ) → none ≡ true → (if writes && not none then r else s) ≡ s
passed_over true true r s z = refl
passed_over false true r s z = refl
passed_over writes false r s z = cc

left_out : (writes none : Bool) (r s : Result SlotCursor ℕ) → writes ≡ false → (if writes && not none then r else s) ≡ s
left_out false none r s w = refl
left_out true none r s w = cc

not_below : (a n : ℕ) → n ≤ a → nat_lt a n ≡ false
not_below a n h = grind (arith, nat_tests)

range_passes : (l : Layout) (n : SlotCursor) (f : File) → list_all has_no_places l.symbols ≡ true → n.symbol ≤ f.first_symbol → Passed (range_step l n f) (f.first_symbol + f.symbol_count)
range_passes l n f all few =
    let first : SlotCursor = record n { symbol = f.first_symbol } in
    let own = symbols_pass l first (own_symbols l f) (own_placeless l f all) in
    let behind = not_below f.first_symbol n.symbol few in
    let none = none_before l n f.first_symbol all in
    record {
      to = own.to;
      is = rw (behind, none) own.is;
      few = let e : own.to.symbol ≤ f.first_symbol + length (own_symbols l f) = own.few in let most = own_few l f in omega (arith, e, most);
    }

file_passes : (l : Layout) (n : SlotCursor) (start : ℕ) (f : File) (later : List File) → list_all has_no_places l.symbols ≡ true → n.symbol ≤ start → Ascend (length l.symbols) start (f ∷ later) → Goes l (file_step l n f) later
file_passes l n start f later all few h =
    elim (cases_Bool (f.symbol_count == 0)) [
      | inl t ↦ record { to = n; next = start; is = passed_over (writes_slots f.role) (f.symbol_count == 0) (range_step l n f) (Ok n) t; few = few; ascend = rw t at h }
      | inr c ↦
          (let w = rw c at h in
          let first = w.0 in
          elim (cases_Bool (writes_slots f.role)) [
            | inl y ↦
                (let own = range_passes l n f all (omega (arith, few, first)) in
                record { to = own.to; next = f.first_symbol + f.symbol_count; is = taken (writes_slots f.role) (f.symbol_count == 0) (range_step l n f) (Ok n) y c ∙ own.is; few = own.few; ascend = w.2 })
            | inr z ↦ record { to = n; next = f.first_symbol + f.symbol_count; is = left_out (writes_slots f.role) (f.symbol_count == 0) (range_step l n f) (Ok n) z; few = omega (arith, few, first); ascend = w.2 }
          ])
    ]

files_pass : (l : Layout) (n : SlotCursor) (start : ℕ) (fs later : List File) → list_all has_no_places l.symbols ≡ true → n.symbol ≤ start → Ascend (length l.symbols) start (fs ++ later) → Goes l (walk (file_step l) n fs) later
unfolding walk
files_pass l n start [] later all few h = record { to = n; next = start; is = refl; few = few; ascend = h }
files_pass l n start (f ∷ fs) later all few h =
    let one = file_passes l n start f (fs ++ later) all few h in
    let rest = files_pass l one.to one.next fs later all one.few one.ascend in
    record { to = rest.to; next = rest.next; is = ap (λ (r : Result SlotCursor ℕ). and_then r (λ t. walk (file_step l) t fs)) one.is ∙ rest.is; few = rest.few; ascend = rest.ascend }

groups_pass : (l : Layout) (n : SlotCursor) (start : ℕ) (gs : List Group) → list_all has_no_places l.symbols ≡ true → n.symbol ≤ start → Ascend (length l.symbols) start (files_of gs) → Goes l (walk (group_step l) n gs) []
unfolding walk
groups_pass l n start [] all few h = record { to = n; next = start; is = refl; few = few; ascend = tt }
groups_pass l n start (g ∷ gs) all few h =
    let one = files_pass l n start g.files (files_of gs) all few h in
    let rest = groups_pass l one.to one.next gs all one.few one.ascend in
    record { to = rest.to; next = rest.next; is = ap (λ (r : Result SlotCursor ℕ). and_then r (λ t. walk (group_step l) t gs)) one.is ∙ rest.is; few = rest.few; ascend = rest.ascend }

pub none_astray : (l : Layout) → check_indexes l ≡ Ok tt → list_all has_no_places l.symbols ≡ true → slots_astray l ≡ None
none_astray l h all =
    let least : 0 ≤ 0 = omega arith in
    let end = groups_pass l (first_free l) 0 l.groups all least (ranges_ascend l h) in
    ap (last_astray l) end.is ∙ none_before l end.to (length l.symbols) all
