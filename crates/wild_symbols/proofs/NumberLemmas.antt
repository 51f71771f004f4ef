-- How numbers of symbols are counted.
use Rattle.std.proofs.Common.{◌≡◌, ℕ, ◌+◌, ◌<◌, ◌≤◌, ◌&&◌, ◌==◌, inl, inr, Bool, true, false, List, [], ◌∷◌, ◌++◌, length, get_or, if◌then◌else◌, refl, sym, ap, ◌∙◌, subst, arith, Ok, Err, Result}
use Rattle.std.specs.Prelude.{Option, Some, None, IfOk, replicate, slice_get, option_and_then}
use Rattle.std.specs.Option.{option_or}
use Rattle.std.specs.List.{flat_map}
use Rattle.std.specs.declared.alloc.AllocError.{AllocError}
use Rattle.std.proofs.lemmas.Bool.{cases_Bool, ne_eqb}
use Rattle.std.proofs.lemmas.List.{length-append, length-replicate, get_or-replicate, get_or_default}
use Rattle.wild_words.proofs.Basics.{slice_get_inside}
use Rattle.wild_types.specs.declared.symbol.Symbol.{Symbol}
use Rattle.wild_types.specs.declared.section.Section.{Section}
use Rattle.wild_types.specs.declared.file.File.{File}
use Rattle.wild_types.specs.declared.file.Group.{Group}
use Rattle.wild_types.specs.declared.layout.Layout.{Layout}
use Rattle.wild_types.specs.Kinds.{is_partial_link}
use Rattle.wild_words.specs.Runs.{SinkRun, none, more, stop}
use Rattle.wild_needs.specs.declared.table.SymtabName.{SymtabName}
use Rattle.wild_needs.specs.TableSymbols.{TableSymbol, file_items, item, is_local, is_local_symbol, side, marked_sections, singleton_sections, section_symbols}
use Rattle.wild_table_formats.specs.SectionSymbols.{all_items, is_own_entry, place_from, front_count, entry_by, entry_index, number_from}
use Rattle.wild_symbols.specs.SymbolNumbers.{number_at, local_after, other_after, number_in, Numbered, HasOwnNumbers, SectionNumbered, SectionSought, HasFlaggedNumbers, HasSingletonNumbers}
use Rattle.wild_symbols.specs.declared.numbers.Numbers.{Numbers}
use Rattle.wild_symbols.specs.declared.section_index.SectionTable.{SectionTable}
use Rattle.wild_symbols.specs.declared.section_index.SectionSearch.{SectionSearch}
use Rattle.wild_symbols.proofs.WalkLemmas.{flat_in_turn}
use Rattle.wild_symbols.proofs.ItemLemmas.{OnSide, own_side}

-- ---- one step

-- a number that is noted first stays
noted_first : (o : Option ℕ) (t : Bool) (n m : ℕ) (r s : Option ℕ) → n ≡ m → r ≡ s → option_or (option_or o (if t then Some n else None)) r ≡ option_or o (if t then Some m else s)
noted_first (Some v) t n m r s e h = refl
noted_first None true n m r s e h = ap Some e
noted_first None false n m r s e h = h

-- one entry numbered is a run
numbered_one : {refuses : Numbers → TableSymbol → AllocError → Numbers → Type 0} (a b : Numbers) (x : TableSymbol) (own : Bool) (n at : ℕ) → ((k : ℕ) → k < length a.numbers.items → get_or b.numbers.items k None ≡ option_or (get_or a.numbers.items k None) (if own && at == k then Some n else None))
    → ((k : ℕ) → is_own_entry k x ≡ (own && at == k)) → n ≡ number_at (is_local x) a.local a.other → b.local ≡ local_after (is_local x) a.local → b.other ≡ other_after (is_local x) a.other → length b.numbers.items ≡ length a.numbers.items
    → SinkRun Numbered refuses a (x ∷ []) (Ok tt) b
numbered_one a b x own n at noted is number local other same = more (record { on = λ xs k low. one xs k low; local = local; same = same }) none
  where
    one : (xs : List TableSymbol) (k : ℕ) → k < length a.numbers.items
        → option_or (get_or b.numbers.items k None) (number_in k b.local b.other xs) ≡ option_or (get_or a.numbers.items k None) (if is_own_entry k x then Some (number_at (is_local x) a.local a.other) else number_in k (local_after (is_local x) a.local) (other_after (is_local x) a.other) xs)
    one xs k low =
        let rest : number_in k b.local b.other xs ≡ number_in k (local_after (is_local x) a.local) (other_after (is_local x) a.other) xs = rw (local, other) refl in
        rw (is k, noted k low) (noted_first (get_or a.numbers.items k None) (own && at == k) n (number_at (is_local x) a.local a.other) (number_in k b.local b.other xs) _ number rest)

-- so it is where a number is noted first, and the next ones are then told
pub numbered_by : {refuses : Numbers → TableSymbol → AllocError → Numbers → Type 0} (a m b : Numbers) (x : TableSymbol) (own : Bool) (n at : ℕ) (r : Result (Unit {0}) AllocError) {local : Bool}
    → ((k : ℕ) → k < length a.numbers.items → get_or m.numbers.items k None ≡ option_or (get_or a.numbers.items k None) (if own && at == k then Some n else None)) → ((k : ℕ) → is_own_entry k x ≡ (own && at == k))
    → n ≡ number_at (is_local x) a.local a.other → local ≡ is_local x → length m.numbers.items ≡ length a.numbers.items → m.local ≡ a.local → m.other ≡ a.other → b.numbers ≡ m.numbers
    → IfOk r (λ u. b.local ≡ local_after local m.local) → IfOk r (λ u. b.other ≡ other_after local m.other) → ((e : AllocError) → refuses a x e b) → SinkRun Numbered refuses a (x ∷ []) r b
numbered_by a m b x own n at (Ok u) noted is number on count low high kept next_local next_other out =
    numbered_one a b x own n at (λ k less. ap (λ v. get_or v.items k None) kept ∙ noted k less) is number (next_local ∙ ap (λ (t : Bool). local_after t m.local) on ∙ ap (local_after (is_local x)) low)
    (next_other ∙ ap (λ (t : Bool). other_after t m.other) on ∙ ap (other_after (is_local x)) high) (ap (λ v. length v.items) kept ∙ count)
numbered_by a m b x own n at (Err e) noted is number on count low high kept next_local next_other out = stop (out e)

-- ---- runs

pub run_numbered : {refuses : Numbers → TableSymbol → AllocError → Numbers → Type 0} {a b : Numbers} {xs : List TableSymbol} {u : Unit {0}} → SinkRun Numbered refuses a xs (Ok u) b → (k : ℕ) → k < length a.numbers.items
    → option_or (get_or b.numbers.items k None) None ≡ option_or (get_or a.numbers.items k None) (number_in k a.local a.other xs)
run_numbered none k low = refl
run_numbered (more {b = b} {xs = xs} h t) k low = let same = h.same in run_numbered t k (omega (arith, same, low)) ∙ h.on xs k low

pub run_length : {refuses : Numbers → TableSymbol → AllocError → Numbers → Type 0} {a b : Numbers} {xs : List TableSymbol} {u : Unit {0}} → SinkRun Numbered refuses a xs (Ok u) b → length b.numbers.items ≡ length a.numbers.items
run_length none = refl
run_length (more h t) = run_length t ∙ h.same

one_behind : (b : Bool) (n p : ℕ) (x : TableSymbol) (xs : List TableSymbol) → n ≡ local_after b p + length xs → n ≡ p + length (if b then x ∷ xs else xs)
one_behind true n p x xs h = omega (arith, h)
one_behind false n p x xs h = h

-- how many local entries there were
pub run_local : {refuses : Numbers → TableSymbol → AllocError → Numbers → Type 0} {a b : Numbers} {xs : List TableSymbol} {u : Unit {0}} → SinkRun Numbered refuses a xs (Ok u) b → b.local ≡ a.local + length (side true xs)
run_local none = omega arith
run_local {a = a} {b = c} (more {b = b} {x = x} {xs = xs} h t) =
    let rest : c.local ≡ b.local + length (side true xs) = run_local t in
    let here = h.local in
    one_behind (is_local x) c.local a.local x (side true xs) (omega (arith, rest, here))

pub items_in_turn : (l : Layout) → flat_map (λ (g : Group). flat_map (file_items l) g.files) l.groups ≡ all_items l
items_in_turn l = flat_in_turn (file_items l) (λ (g : Group). g.files) l.groups

pub ruleset counted = (run_local)

-- ---- own entries

own_placed : (b here : Bool) (i p q : ℕ) (x : TableSymbol) (xs : List TableSymbol) → is_own_entry i x ≡ true → is_local x ≡ here → here ≡ b
    → Some (number_at here p q) ≡ (if b then place_from i p (side true (x ∷ xs)) else place_from i q (side false (x ∷ xs)))
own_placed true true i p q x xs own l e = rw (l, own) refl
own_placed false false i p q x xs own l e = rw (l, own) refl
own_placed true false i p q x xs own l e = cc
own_placed false true i p q x xs own l e = cc

other_placed : (b here : Bool) (i p q : ℕ) (x : TableSymbol) (xs : List TableSymbol) → is_own_entry i x ≡ false → is_local x ≡ here
    → (if b then place_from i (local_after here p) (side true xs) else place_from i (other_after here q) (side false xs)) ≡ (if b then place_from i p (side true (x ∷ xs)) else place_from i q (side false (x ∷ xs)))
other_placed true true i p q x xs other l = rw (l, other) refl
other_placed false false i p q x xs other l = rw (l, other) refl
other_placed true false i p q x xs other l = rw l refl
other_placed false true i p q x xs other l = rw l refl

-- where all own entries of a symbol are on one side, the number is that of its place there
placed_in : (i : ℕ) (b : Bool) (p q : ℕ) (xs : List TableSymbol) → OnSide i b xs → number_in i p q xs ≡ (if b then place_from i p (side true xs) else place_from i q (side false xs))
placed_in i true p q [] h = refl
placed_in i false p q [] h = refl
placed_in i b p q (x ∷ xs) h =
    elim (cases_Bool (is_own_entry i x)) [
      | inl t ↦ rw t (own_placed b (is_local x) i p q x xs t refl (h.0 t))
      | inr f ↦ rw f (placed_in i b (local_after (is_local x) p) (other_after (is_local x) q) xs h.1 ∙ other_placed b (is_local x) i p q x xs f refl)
    ]

entry_by_side : (l : Layout) (i : ℕ) (b : Bool) (front behind : ℕ) → front ≡ front_count l → behind ≡ front + length (side true (all_items l))
    → (if b then place_from i front (side true (all_items l)) else place_from i behind (side false (all_items l))) ≡ entry_by l i b
entry_by_side l i true front behind f e = ap (λ (n : ℕ). place_from i n (side true (all_items l))) f
entry_by_side l i false front behind f e = ap (λ (n : ℕ). place_from i n (side false (all_items l))) (e ∙ ap (λ (n : ℕ). n + length (side true (all_items l))) f)

-- the number of a symbol that is there
own_number : (l : Layout) (i front behind : ℕ) (s : Symbol) → slice_get l.symbols i ≡ Some s → front ≡ front_count l → behind ≡ front + length (side true (all_items l)) → number_in i front behind (all_items l) ≡ entry_index l i
own_number l i front behind s there f e =
    placed_in i (is_local_symbol s) front behind (all_items l) (own_side l i s there) ∙ entry_by_side l i (is_local_symbol s) front behind f e ∙ ap (λ (o : Option Symbol). option_and_then (λ (s : Symbol). entry_by l i (is_local_symbol s)) o) (sym there)

none_before : (n k : ℕ) (o : Option ℕ) (xs : List (Option ℕ)) → xs ≡ replicate n None → k < n → option_or (get_or xs k None) o ≡ o
none_before n k o xs h low = ap (λ (v : Option ℕ). option_or v o) (ap (λ (ys : List (Option ℕ)). get_or ys k None) h ∙ get_or-replicate n k None None low)

or_none : (o : Option ℕ) → o ≡ option_or o None
or_none None = refl
or_none (Some v) = refl

pub own_numbers_are : {refuses : Numbers → TableSymbol → AllocError → Numbers → Type 0} {a b : Numbers} {u : Unit {0}} (l : Layout) → SinkRun Numbered refuses a (all_items l) (Ok u) b → a.numbers.items ≡ replicate (length l.symbols) None → a.local ≡ front_count l
    → a.other ≡ a.local + length (side true (all_items l)) → HasOwnNumbers l b.numbers.items
own_numbers_are {a = a} {b = b} l ran empty front behind =
    let n : length a.numbers.items ≡ length l.symbols = ap length empty ∙ length-replicate (length l.symbols) None in
    let m : length b.numbers.items ≡ length a.numbers.items = run_length ran in
    record {
      count = m ∙ n;
      all = λ k low.
          let there = slice_get_inside l.symbols k (omega (arith, low, m, n)) in
          or_none (get_or b.numbers.items k None) ∙ run_numbered ran k (omega (arith, low, m)) ∙ none_before (length l.symbols) k (number_in k a.local a.other (all_items l)) a.numbers.items empty (omega (arith, low, m, n))
          ∙ own_number l k a.local a.other there.0 there.1 front behind;
    }

pub ruleset own_numbers = (own_numbers_are)

-- ---- symbols of sections

section_numbered_one : {refuses : SectionTable → ℕ → AllocError → SectionTable → Type 0} (a b : SectionTable) (m : ℕ) → ((k : ℕ) → k < length a.numbers.items → get_or b.numbers.items k None ≡ option_or (get_or a.numbers.items k None) (if m == k then Some a.next else None)) → b.next ≡ a.next + 1
    → length b.numbers.items ≡ length a.numbers.items → SinkRun SectionNumbered refuses a (m ∷ []) (Ok tt) b
section_numbered_one a b m noted next same = more (record { on = λ ms k low. one ms k low; next = next; same = same }) none
  where
    one : (ms : List ℕ) (k : ℕ) → k < length a.numbers.items → option_or (get_or b.numbers.items k None) (number_from k b.next ms) ≡ option_or (get_or a.numbers.items k None) (if m == k then Some a.next else number_from k (a.next + 1) ms)
    one ms k low = rw (noted k low) (noted_first (get_or a.numbers.items k None) (m == k) a.next a.next (number_from k b.next ms) (number_from k (a.next + 1) ms) refl (ap (λ (n : ℕ). number_from k n ms) next))

pub section_numbered_by : {refuses : SectionTable → ℕ → AllocError → SectionTable → Type 0} (a n b : SectionTable) (m : ℕ) (r : Result (Unit {0}) AllocError)
    → ((k : ℕ) → k < length a.numbers.items → get_or n.numbers.items k None ≡ option_or (get_or a.numbers.items k None) (if m == k then Some a.next else None)) → length n.numbers.items ≡ length a.numbers.items → n.next ≡ a.next → b.numbers ≡ n.numbers
    → IfOk r (λ u. b.next ≡ n.next + 1) → ((e : AllocError) → refuses a m e b) → SinkRun SectionNumbered refuses a (m ∷ []) r b
section_numbered_by a n b m (Ok u) noted count same kept next out =
    section_numbered_one a b m (λ k low. ap (λ v. get_or v.items k None) kept ∙ noted k low) (next ∙ ap (λ (i : ℕ). i + 1) same) (ap (λ v. length v.items) kept ∙ count)
section_numbered_by a n b m (Err e) noted count same kept next out = stop (out e)

section_sought_one : {refuses : SectionSearch → ℕ → AllocError → SectionSearch → Type 0} (a b : SectionSearch) (m : ℕ) → b.found ≡ (if m == a.header then option_or a.found (Some a.next) else a.found) → b.next ≡ a.next + 1 → b.header ≡ a.header
    → SinkRun SectionSought refuses a (m ∷ []) (Ok tt) b
section_sought_one a b m found next same = more (record { on = λ ms. one ms; same = same }) none
  where
    by_test : (o : Option ℕ) (t : Bool) (n : ℕ) (r : Option ℕ) → option_or (if t then option_or o (Some n) else o) r ≡ option_or o (if t then Some n else r)
    by_test (Some v) true n r = refl
    by_test (Some v) false n r = refl
    by_test None true n r = refl
    by_test None false n r = refl

    one : (ms : List ℕ) → option_or b.found (number_from b.header b.next ms) ≡ option_or a.found (if m == a.header then Some a.next else number_from a.header (a.next + 1) ms)
    one ms = rw (found, next, same) (by_test a.found (m == a.header) a.next (number_from a.header (a.next + 1) ms))

pub section_sought_by : {refuses : SectionSearch → ℕ → AllocError → SectionSearch → Type 0} (a b : SectionSearch) (m : ℕ) (r : Result (Unit {0}) AllocError) → b.found ≡ (if m == a.header then option_or a.found (Some a.next) else a.found) → IfOk r (λ u. b.next ≡ a.next + 1) → b.header ≡ a.header
    → ((e : AllocError) → refuses a m e b) → SinkRun SectionSought refuses a (m ∷ []) r b
section_sought_by a b m (Ok u) found next same out = section_sought_one a b m found next same
section_sought_by a b m (Err e) found next same out = stop (out e)

run_sections : {refuses : SectionTable → ℕ → AllocError → SectionTable → Type 0} {a b : SectionTable} {ms : List ℕ} {u : Unit {0}} → SinkRun SectionNumbered refuses a ms (Ok u) b → (k : ℕ) → k < length a.numbers.items
    → option_or (get_or b.numbers.items k None) None ≡ option_or (get_or a.numbers.items k None) (number_from k a.next ms)
run_sections none k low = refl
run_sections (more {b = b} {xs = ms} h t) k low = let same = h.same in run_sections t k (omega (arith, same, low)) ∙ h.on ms k low

run_width : {refuses : SectionTable → ℕ → AllocError → SectionTable → Type 0} {a b : SectionTable} {ms : List ℕ} {u : Unit {0}} → SinkRun SectionNumbered refuses a ms (Ok u) b → length b.numbers.items ≡ length a.numbers.items
run_width none = refl
run_width (more h t) = run_width t ∙ h.same

pub run_next : {refuses : SectionTable → ℕ → AllocError → SectionTable → Type 0} {a b : SectionTable} {ms : List ℕ} {u : Unit {0}} → SinkRun SectionNumbered refuses a ms (Ok u) b → b.next ≡ a.next + length ms
run_next none = omega arith
run_next {a = a} {b = c} (more {b = b} {xs = ms} h t) =
    let rest : c.next ≡ b.next + length ms = run_next t in
    let here = h.next in
    omega (arith, rest, here)

-- a table in which nothing was noted has the first number of each
first_numbers : {refuses : SectionTable → ℕ → AllocError → SectionTable → Type 0} {a b : SectionTable} {ms : List ℕ} {u : Unit {0}} (n : ℕ) → SinkRun SectionNumbered refuses a ms (Ok u) b → a.numbers.items ≡ replicate n None
    → (k : ℕ) → k < length b.numbers.items → get_or b.numbers.items k None ≡ number_from k a.next ms
first_numbers {a = a} {b = b} {ms = ms} n ran empty k low =
    let m : length b.numbers.items ≡ length a.numbers.items = run_width ran in
    let c : length a.numbers.items ≡ n = ap length empty ∙ length-replicate n None in
    or_none (get_or b.numbers.items k None) ∙ run_sections ran k (omega (arith, low, m)) ∙ none_before n k (number_from k a.next ms) a.numbers.items empty (omega (arith, low, m, c))

pub asked_are : {refuses : SectionTable → ℕ → AllocError → SectionTable → Type 0} {a b : SectionTable} {u : Unit {0}} (l : Layout) → SinkRun SectionNumbered refuses a (marked_sections 0 l.sections) (Ok u) b → a.numbers.items ≡ replicate (length l.sections) None → a.next ≡ 1
    → HasFlaggedNumbers l b.numbers.items
asked_are {a = a} {b = b} l ran empty one =
    let m : length b.numbers.items ≡ length a.numbers.items = run_width ran in
    record {
      count = m ∙ (ap length empty ∙ length-replicate (length l.sections) None);
      all = λ k low. first_numbers (length l.sections) ran empty k low ∙ ap (λ (n : ℕ). number_from k n (marked_sections 0 l.sections)) one;
    }

pub alone_are : {refuses : SectionTable → ℕ → AllocError → SectionTable → Type 0} {a b : SectionTable} {u : Unit {0}} (l : Layout) (front : ℕ) → SinkRun SectionNumbered refuses a (singleton_sections l) (Ok u) b → a.numbers.items ≡ replicate (length l.sections) None → a.next ≡ front
    → HasSingletonNumbers l front b.numbers.items
alone_are {a = a} {b = b} l front ran empty e = record { all = λ k low. first_numbers (length l.sections) ran empty k low ∙ ap (λ (n : ℕ). number_from k n (singleton_sections l)) e }

pub ruleset flagged_numbers = (asked_are, run_next)

pub ruleset singleton_numbers = (alone_are, run_next)

-- ---- looking up

asked_or_not : (b : Bool) (k i n : ℕ) (ks : List ℕ) → (i == k) ≡ false → number_from k (n + 1) ks ≡ None → number_from k n ks ≡ None → number_from k n (if b then i ∷ ks else ks) ≡ None
asked_or_not true k i n ks other later same = rw other later
asked_or_not false k i n ks other later same = same

-- no section behind the last asks for a symbol
asked_past : (k i n : ℕ) (ss : List Section) → i + length ss ≤ k → number_from k n (marked_sections i ss) ≡ None
asked_past k i n [] h = refl
asked_past k i n (s ∷ ss) h = asked_or_not s.section_symbol k i n (marked_sections (i + 1) ss) (ne_eqb i k (λ e. omega (arith, h, e))) (asked_past k (i + 1) (n + 1) ss (omega (arith, h))) (asked_past k (i + 1) n ss (omega (arith, h)))

pub asked_there : (l : Layout) (numbers : List (Option ℕ)) (k : ℕ) (d : Option ℕ) → HasFlaggedNumbers l numbers → k < length numbers → get_or numbers k d ≡ number_from k 1 (marked_sections 0 l.sections)
asked_there l numbers k d h low = get_or_default numbers k d None low ∙ h.all k low

pub asked_beyond : (l : Layout) (numbers : List (Option ℕ)) (k : ℕ) → HasFlaggedNumbers l numbers → length numbers ≤ k → None ≡ number_from k 1 (marked_sections 0 l.sections)
asked_beyond l numbers k h high = let n = h.count in sym (asked_past k 0 1 l.sections (omega (arith, n, high)))

pub alone_there : (l : Layout) (front : ℕ) (numbers : List (Option ℕ)) (k : ℕ) (d : Option ℕ) → HasSingletonNumbers l front numbers → k < length numbers → get_or numbers k d ≡ number_from k front (singleton_sections l)
alone_there l front numbers k d h low = get_or_default numbers k d None low ∙ h.all k low

pub ruleset asked_looked_up = (asked_there, asked_beyond)

pub ruleset alone_looked_up = (alone_there)

run_sought : {refuses : SectionSearch → ℕ → AllocError → SectionSearch → Type 0} {a b : SectionSearch} {ms : List ℕ} {u : Unit {0}} → SinkRun SectionSought refuses a ms (Ok u) b → option_or b.found None ≡ option_or a.found (number_from a.header a.next ms)
run_sought none = refl
run_sought (more {xs = ms} h t) = run_sought t ∙ h.on ms

pub sought_is : {refuses : SectionSearch → ℕ → AllocError → SectionSearch → Type 0} {a b : SectionSearch} {ms : List ℕ} {u : Unit {0}} → SinkRun SectionSought refuses a ms (Ok u) b → a.found ≡ None → b.found ≡ number_from a.header a.next ms
sought_is {a = a} {b = b} {ms = ms} ran empty = or_none b.found ∙ run_sought ran ∙ ap (λ (o : Option ℕ). option_or o (number_from a.header a.next ms)) empty

pub ruleset sought = (sought_is)

-- how many entries stand in front, where there are some of sections
pub front_all : (l : Layout) (front behind : ℕ) → is_partial_link l.kind ≡ true → front ≡ 1 + length (marked_sections 0 l.sections) → behind ≡ front + length (singleton_sections l) → behind ≡ front_count l
unfolding section_symbols
front_all l front behind h f e =
    let long : length (marked_sections 0 l.sections ++ singleton_sections l) ≡ length (marked_sections 0 l.sections) + length (singleton_sections l) = length-append (marked_sections 0 l.sections) (singleton_sections l) in
    rw h (omega (arith, f, e, long))

pub front_one : (l : Layout) → is_partial_link l.kind ≡ false → 1 ≡ front_count l
unfolding section_symbols
front_one l h = rw h refl

pub ruleset front_counted = (front_all, front_one)
