-- Laws of runs of sinks.
use Rattle.std.proofs.Common.{◌≡◌, ℕ, ◌+◌, ◌<◌, ◌≤◌, List, [], ◌∷◌, ◌++◌, length, map, drop, get_or, sym, ap, ◌∙◌, subst, arith, Ok, Err, Result}
use Rattle.std.specs.List.{flat_map}
use Rattle.std.proofs.lemmas.List.{drop_more, drop_all, get_or_default}
use Rattle.wild_words.specs.Runs.{SinkRun, none, more, stop, RestOfWalk, numbered_items}

module _ {S X E : Type 0} {goes : S → X → S → Type 0} {refuses : S → X → E → S → Type 0} where
  -- one run behind another
  pub ran_on : {a b c : S} {xs ys : List X} {u : Unit {0}} {r : Result (Unit {0}) E} → SinkRun goes refuses a xs (Ok u) b → SinkRun goes refuses b ys r c → SinkRun goes refuses a (xs ++ ys) r c
  ran_on none s = s
  ran_on (more h t) s = more h (ran_on t s)

  -- nothing is offered
  pub ran_none : {a : S} (xs : List X) → xs ≡ [] → SinkRun goes refuses a xs (Ok tt) a
  ran_none {a = a} xs h = subst (λ (ys : List X). SinkRun goes refuses a ys (Ok tt) a) (sym h) none

  -- what is refused stays refused, whatever comes behind it
  pub ran_out : {a b : S} {xs : List X} {e : E} (ys : List X) → SinkRun goes refuses a xs (Err e) b → SinkRun goes refuses a (xs ++ ys) (Err e) b
  ran_out ys (more h t) = more h (ran_out ys t)
  ran_out ys (stop h) = stop h

  -- the same behind one item
  pub one_out : {a b : S} {x : X} {e : E} (ys : List X) → SinkRun goes refuses a (x ∷ []) (Err e) b → SinkRun goes refuses a (x ∷ ys) (Err e) b
  one_out {x = x} ys h = ran_out {xs = x ∷ []} ys h

  pub left_all : (a : S) (xs : List X) → RestOfWalk goes refuses a xs a xs
  left_all a xs = record { on = λ r to h. h }

  pub left_done : {a b : S} {all : List X} → RestOfWalk goes refuses a all b [] → SinkRun goes refuses a all (Ok tt) b
  left_done h = h.on (Ok tt) _ none

  pub left_next : {a b c : S} {all xs ys : List X} {u : Unit {0}} → RestOfWalk goes refuses a all b (xs ++ ys) → SinkRun goes refuses b xs (Ok u) c → RestOfWalk goes refuses a all c ys
  left_next h s = record { on = λ r to t. h.on r to (ran_on s t) }

  pub left_out : {a b c : S} {all xs : List X} {e : E} (ys : List X) → RestOfWalk goes refuses a all b (xs ++ ys) → SinkRun goes refuses b xs (Err e) c → SinkRun goes refuses a all (Err e) c
  left_out ys h s = h.on (Err _) _ (ran_out ys s)

-- ---- loops over lists

-- what the things from a place on give
flat_drop : {X Y : Type 0} (f : Y → List X) (ys : List Y) (i : ℕ) (d : Y) → i < length ys → flat_map f (drop i ys) ≡ f (get_or ys i d) ++ flat_map f (drop (i + 1) ys)
flat_drop {X} {Y} f ys i d low = ap (flat_map f) (drop_more ys i (get_or ys i d) low) ∙ ap (λ (y : Y). f y ++ flat_map f (drop (i + 1) ys)) (get_or_default ys i (get_or ys i d) d low)

map_drop : {X Y : Type 0} (f : Y → X) (ys : List Y) (i : ℕ) (y : Y) → i < length ys → y ≡ get_or ys i y → map f (drop i ys) ≡ (f y ∷ []) ++ map f (drop (i + 1) ys)
map_drop {X} {Y} f ys i y low read = ap (map f) (drop_more ys i y low) ∙ ap (λ (z : Y). f z ∷ map f (drop (i + 1) ys)) (sym read)

item_drop : {X : Type 0} (ys : List X) (i : ℕ) (y : X) → i < length ys → y ≡ get_or ys i y → drop i ys ≡ (y ∷ []) ++ drop (i + 1) ys
item_drop {X} ys i y low read = drop_more ys i y low ∙ ap (λ (z : X). z ∷ drop (i + 1) ys) (sym read)

numbered_drop : {X Y : Type 0} (f : ℕ → Y → List X) (n : ℕ) (ys : List Y) (i : ℕ) (y : Y) → i < length ys → y ≡ get_or ys i y
    → numbered_items f (n + i) (drop i ys) ≡ f (n + i) y ++ numbered_items f (n + (i + 1)) (drop (i + 1) ys)
numbered_drop {X} {Y} f n ys i y low read =
    let e : n + i + 1 ≡ n + (i + 1) = omega arith in
    ap (numbered_items f (n + i)) (drop_more ys i y low)
    ∙ ap (λ (z : Y). f (n + i) z ++ numbered_items f (n + i + 1) (drop (i + 1) ys)) (sym read)
    ∙ ap (λ (j : ℕ). f (n + i) y ++ numbered_items f j (drop (i + 1) ys)) e

module _ {S X Y E : Type 0} {goes : S → X → S → Type 0} {refuses : S → X → E → S → Type 0} where
  -- what is copied out of a list gives items
  pub copied_next : {a b c : S} {all : List X} {u : Unit {0}} (f : Y → List X) (ys : List Y) (i : ℕ) (d : Y) → i < length ys
      → RestOfWalk goes refuses a all b (flat_map f (drop i ys)) → SinkRun goes refuses b (f (get_or ys i d)) (Ok u) c → RestOfWalk goes refuses a all c (flat_map f (drop (i + 1) ys))
  copied_next {a = a} {b = b} {all = all} f ys i d low h s = left_next (subst (λ (xs : List X). RestOfWalk goes refuses a all b xs) (flat_drop f ys i d low) h) s

  pub copied_out : {a b c : S} {all : List X} {e : E} (f : Y → List X) (ys : List Y) (i : ℕ) (d : Y) → i < length ys
      → RestOfWalk goes refuses a all b (flat_map f (drop i ys)) → SinkRun goes refuses b (f (get_or ys i d)) (Err e) c → SinkRun goes refuses a all (Err e) c
  copied_out {a = a} {b = b} {all = all} f ys i d low h s = left_out (flat_map f (drop (i + 1) ys)) (subst (λ (xs : List X). RestOfWalk goes refuses a all b xs) (flat_drop f ys i d low) h) s

  -- the same of what a loop reads
  pub listed_next : {a b c : S} {all : List X} {u : Unit {0}} (f : Y → List X) (ys : List Y) (i : ℕ) (y : Y) → i < length ys → y ≡ get_or ys i y
      → RestOfWalk goes refuses a all b (flat_map f (drop i ys)) → SinkRun goes refuses b (f y) (Ok u) c → RestOfWalk goes refuses a all c (flat_map f (drop (i + 1) ys))
  listed_next {b = b} {c = c} {u = u} f ys i y low read h s = copied_next f ys i y low h (subst (λ (z : Y). SinkRun goes refuses b (f z) (Ok u) c) read s)

  pub listed_out : {a b c : S} {all : List X} {e : E} (f : Y → List X) (ys : List Y) (i : ℕ) (y : Y) → i < length ys → y ≡ get_or ys i y
      → RestOfWalk goes refuses a all b (flat_map f (drop i ys)) → SinkRun goes refuses b (f y) (Err e) c → SinkRun goes refuses a all (Err e) c
  listed_out {b = b} {c = c} {e = e} f ys i y low read h s = copied_out f ys i y low h (subst (λ (z : Y). SinkRun goes refuses b (f z) (Err e) c) read s)

  pub flat_done : {a b : S} {all : List X} (f : Y → List X) (ys : List Y) (i : ℕ) → length ys ≤ i → RestOfWalk goes refuses a all b (flat_map f (drop i ys)) → SinkRun goes refuses a all (Ok tt) b
  flat_done {a = a} {b = b} {all = all} f ys i high h = left_done (subst (λ (zs : List Y). RestOfWalk goes refuses a all b (flat_map f zs)) (drop_all i ys high) h)

  -- each gives one item, as a function makes it
  pub mapped_next : {a b c : S} {all : List X} {u : Unit {0}} (f : Y → X) (ys : List Y) (i : ℕ) (y : Y) (x : X) → i < length ys → y ≡ get_or ys i y → x ≡ f y
      → RestOfWalk goes refuses a all b (map f (drop i ys)) → SinkRun goes refuses b (x ∷ []) (Ok u) c → RestOfWalk goes refuses a all c (map f (drop (i + 1) ys))
  mapped_next {a = a} {b = b} {c = c} {all = all} {u = u} f ys i y x low read is h s =
      left_next (subst (λ (xs : List X). RestOfWalk goes refuses a all b xs) (map_drop f ys i y low read) h) (subst (λ (z : X). SinkRun goes refuses b (z ∷ []) (Ok u) c) is s)

  pub mapped_out : {a b c : S} {all : List X} {e : E} (f : Y → X) (ys : List Y) (i : ℕ) (y : Y) (x : X) → i < length ys → y ≡ get_or ys i y → x ≡ f y
      → RestOfWalk goes refuses a all b (map f (drop i ys)) → SinkRun goes refuses b (x ∷ []) (Err e) c → SinkRun goes refuses a all (Err e) c
  mapped_out {a = a} {b = b} {c = c} {all = all} {e = e} f ys i y x low read is h s =
      left_out (map f (drop (i + 1) ys)) (subst (λ (xs : List X). RestOfWalk goes refuses a all b xs) (map_drop f ys i y low read) h) (subst (λ (z : X). SinkRun goes refuses b (z ∷ []) (Err e) c) is s)

  pub mapped_done : {a b : S} {all : List X} (f : Y → X) (ys : List Y) (i : ℕ) → length ys ≤ i → RestOfWalk goes refuses a all b (map f (drop i ys)) → SinkRun goes refuses a all (Ok tt) b
  mapped_done {a = a} {b = b} {all = all} f ys i high h = left_done (subst (λ (zs : List Y). RestOfWalk goes refuses a all b (map f zs)) (drop_all i ys high) h)

  -- a number counts beside the list
  pub numbered_all : (a : S) (f : ℕ → Y → List X) (n : ℕ) (ys : List Y) → RestOfWalk goes refuses a (numbered_items f n ys) a (numbered_items f (n + 0) (drop 0 ys))
  numbered_all a f n ys = let e : n ≡ n + 0 = omega arith in subst (λ (m : ℕ). RestOfWalk goes refuses a (numbered_items f n ys) a (numbered_items f m ys)) e (left_all a (numbered_items f n ys))

  pub numbered_next : {a b c : S} {all : List X} {u : Unit {0}} (f : ℕ → Y → List X) (n : ℕ) (ys : List Y) (i : ℕ) (y : Y) → i < length ys → y ≡ get_or ys i y
      → RestOfWalk goes refuses a all b (numbered_items f (n + i) (drop i ys)) → SinkRun goes refuses b (f (n + i) y) (Ok u) c → RestOfWalk goes refuses a all c (numbered_items f (n + (i + 1)) (drop (i + 1) ys))
  numbered_next {a = a} {b = b} {all = all} f n ys i y low read h s = left_next (subst (λ (xs : List X). RestOfWalk goes refuses a all b xs) (numbered_drop f n ys i y low read) h) s

  pub numbered_out : {a b c : S} {all : List X} {e : E} (f : ℕ → Y → List X) (n : ℕ) (ys : List Y) (i : ℕ) (y : Y) → i < length ys → y ≡ get_or ys i y
      → RestOfWalk goes refuses a all b (numbered_items f (n + i) (drop i ys)) → SinkRun goes refuses b (f (n + i) y) (Err e) c → SinkRun goes refuses a all (Err e) c
  numbered_out {a = a} {b = b} {all = all} f n ys i y low read h s =
      left_out (numbered_items f (n + (i + 1)) (drop (i + 1) ys)) (subst (λ (xs : List X). RestOfWalk goes refuses a all b xs) (numbered_drop f n ys i y low read) h) s

  pub numbered_done : {a b : S} {all : List X} (f : ℕ → Y → List X) (n : ℕ) (ys : List Y) (i : ℕ) → length ys ≤ i → RestOfWalk goes refuses a all b (numbered_items f (n + i) (drop i ys)) → SinkRun goes refuses a all (Ok tt) b
  numbered_done {a = a} {b = b} {all = all} f n ys i high h = left_done (subst (λ (zs : List Y). RestOfWalk goes refuses a all b (numbered_items f (n + i) zs)) (drop_all i ys high) h)

module _ {S X E : Type 0} {goes : S → X → S → Type 0} {refuses : S → X → E → S → Type 0} where
  -- the items are the list
  pub item_next : {a b c : S} {all : List X} {u : Unit {0}} (ys : List X) (i : ℕ) (y : X) → i < length ys → y ≡ get_or ys i y
      → RestOfWalk goes refuses a all b (drop i ys) → SinkRun goes refuses b (y ∷ []) (Ok u) c → RestOfWalk goes refuses a all c (drop (i + 1) ys)
  item_next {a = a} {b = b} {all = all} ys i y low read h s = left_next (subst (λ (xs : List X). RestOfWalk goes refuses a all b xs) (item_drop ys i y low read) h) s

  pub item_out : {a b c : S} {all : List X} {e : E} (ys : List X) (i : ℕ) (y : X) → i < length ys → y ≡ get_or ys i y
      → RestOfWalk goes refuses a all b (drop i ys) → SinkRun goes refuses b (y ∷ []) (Err e) c → SinkRun goes refuses a all (Err e) c
  item_out {a = a} {b = b} {all = all} ys i y low read h s = left_out (drop (i + 1) ys) (subst (λ (xs : List X). RestOfWalk goes refuses a all b xs) (item_drop ys i y low read) h) s

  pub item_done : {a b : S} {all : List X} (ys : List X) (i : ℕ) → length ys ≤ i → RestOfWalk goes refuses a all b (drop i ys) → SinkRun goes refuses a all (Ok tt) b
  item_done {a = a} {b = b} {all = all} ys i high h = left_done (subst (λ (zs : List X). RestOfWalk goes refuses a all b zs) (drop_all i ys high) h)

pub ruleset runs = (none, ran_on, ran_out)

-- runs over items that are known
pub ruleset known_runs = (none, ran_on, ran_out, one_out)

pub ruleset copied_loops = (left_all, copied_next, copied_out, flat_done)

pub ruleset listed_loops = (left_all, listed_next, listed_out, flat_done)

pub ruleset mapped_loops = (left_all, mapped_next, mapped_out, mapped_done)

pub ruleset numbered_loops = (numbered_all, numbered_next, numbered_out, numbered_done)

pub ruleset item_loops = (left_all, item_next, item_out, item_done)
