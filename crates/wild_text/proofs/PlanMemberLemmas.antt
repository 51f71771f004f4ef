-- What was read of a plan, member by member, is what the plan encodes.
use Rattle.std.proofs.Common.{◌≡◌, ℕ, ◌+◌, ◌-◌, ◌<◌, ◌≤◌, List, [], ◌∷◌, ◌++◌, length, codes, Bool, true, false, bytes_eq, Option, Some, None, Result, Ok, Err, Bor, Ordering, Less, Equal, Greater, nat_cmp, true≢false, refl, sym, ap, ◌∙◌, subst, arith, append-nil}
use Rattle.std.specs.Prelude.{if◌then◌else◌, IfOk}
use Rattle.std.specs.List.{list_any}
use Rattle.std.specs.Ordering.{match_ordering}
use Rattle.std.specs.Cmp.Lexicographic.{slice_cmp}
use Rattle.std.specs.declared.alloc.Global.{Global}
use Rattle.std.proofs.lemmas.Slice.Eq.{bytes_eq-Decides}
use Rattle.std.proofs.lemmas.List.{length-append}
use Rattle.json.specs.Token.{Token}
use Rattle.json.specs.Lex.{tokens}
use Rattle.json.specs.Json.{parse_map}
use Rattle.json.specs.Value.{value_view, members_view as json_members}
use Rattle.json.specs.declared.value.Value.{Value}
use Rattle.serde_json.specs.Data.{Data, array, object, Items, no_items, item, Members, no_members, member, put}
use Rattle.serde_json.specs.Find.{get_member}
use Rattle.serde_json.specs.Read.{read}
use Rattle.serde_json.proofs.Views.{get_member-put, get_member-put_other}
use Rattle.wild_json.specs.Values.{data_of, members_from, view, members_view}
use Rattle.wild_json.specs.Names.{first_unknown}
use Rattle.wild_json.specs.Texts.{value_at, items_at, members_at, OpensArray, IsItemNext, IsArrayEnd, IsNameNext, IsObjectEnd, OpensObject}
use Rattle.wild_types.specs.declared.layout.Layout.{Layout}
use Rattle.wild_types.specs.declared.symbol.Symbol.{Symbol}
use Rattle.wild_types.specs.declared.layout.DynamicSymbol.{DynamicSymbol}
use Rattle.wild_types.specs.declared.layout.SortedSection.{SortedSection}
use Rattle.wild_types.specs.declared.layout.Merged.{Merged}
use Rattle.wild_types.specs.declared.file.Group.{Group}
use Rattle.wild_text.specs.Reads.{Gives}
use Rattle.wild_text.specs.Values.{items_from, list_in}
use Rattle.wild_text.specs.Members.{field}
use Rattle.wild_text.specs.Symbols.{symbol_in, dynamic_symbol_in}
use Rattle.wild_text.specs.Input.{group_in}
use Rattle.wild_text.specs.Extras.{sorted_section_in, merged_in}
use Rattle.wild_text.specs.Plan.{head_in, frame_in, body_in, rest_in, members_in, layout_in, layout_members}
use Rattle.wild_text.specs.PlanMembers.{IsNext, given_or, body_with, rest_with, members_with, no_lists, is_long, IsListOf, AreMembers, AddsMember}
use Rattle.wild_text.specs.declared.fault.PlanFault.{PlanFault}
use Rattle.wild_text.specs.declared.plan_members.PlanMembers.{PlanMembers}
use Rattle.wild_text.proofs.ItemLemmas.{with_front, regroup}

-- ---- members by their names

differ : (q k : List ℕ) → bytes_eq q k ≡ false → q ≡ k → ⊥
differ q k e h = true≢false (sym ((bytes_eq-Decides q k).1 h) ∙ e)

other : (q k : List ℕ) (d : Data) (ms : Members) → bytes_eq q k ≡ false → get_member q (put k d ms) ≡ get_member q ms
other q k d ms e = get_member-put_other q k d ms (differ q k e)

short_is_other : (k n : List ℕ) → is_long n ≡ true → is_long k ≡ false → bytes_eq k n ≡ false
short_is_other k n long short = split (bytes_eq k n) refl where
  split : (b : Bool) → bytes_eq k n ≡ b → b ≡ false
  split true e =
      let same : k ≡ n = (bytes_eq-Decides k n).0 e in
      absurd (true≢false (sym long ∙ ap is_long (sym same) ∙ short))
  split false e = refl

long_is_other : (n k : List ℕ) → is_long n ≡ true → is_long k ≡ false → bytes_eq n k ≡ false
long_is_other n k long short = split (bytes_eq n k) refl where
  split : (b : Bool) → bytes_eq n k ≡ b → b ≡ false
  split true e =
      let same : n ≡ k = (bytes_eq-Decides n k).0 e in
      absurd (true≢false (sym long ∙ ap is_long same ∙ short))
  split false e = refl

-- ---- known names

known_first : (b : Bool) (o : Option (List ℕ)) (k : List ℕ) → (if b then o else Some k) ≡ None → (b ≡ true) × (o ≡ None)
known_first true o k e = (refl, e)
known_first false o k e = absurd cc

known_at : (o : Ordering) (k l : List ℕ) (d e : Data) (ms : Members) → list_any (λ n. bytes_eq n k) layout_members ≡ true → list_any (λ n. bytes_eq n l) layout_members ≡ true → first_unknown layout_members ms ≡ None → first_unknown layout_members (put k d ms) ≡ None
    → first_unknown layout_members (match_ordering o (member k d (member l e ms)) (member l d ms) (member l e (put k d ms))) ≡ None
known_at Less k l d e ms known first rest again = rw (known, first) rest
known_at Equal k l d e ms known first rest again = rw first rest
known_at Greater k l d e ms known first rest again = rw first again

known_put : (k : List ℕ) (d : Data) (ms : Members) → list_any (λ n. bytes_eq n k) layout_members ≡ true → first_unknown layout_members ms ≡ None → first_unknown layout_members (put k d ms) ≡ None
known_put k d no_members known none = rw known refl
known_put k d (member l e ms) known none =
    let first = known_first (list_any (λ n. bytes_eq n l) layout_members) (first_unknown layout_members ms) l none in
    known_at (slice_cmp nat_cmp k l) k l d e ms known first.0 first.1 (known_put k d ms known first.1)

-- ---- what was read

found_elsewhere : {X : Type 0} (read : Data → Result X (List ℕ)) (q n : List ℕ) (d : Data) (found : Members) (kept : Option Data) (xs : Option (List X)) → bytes_eq q n ≡ false
    → IsListOf read (get_member q found) kept xs → IsListOf read (get_member q (put n d found)) kept xs
found_elsewhere read q n d found kept xs e h = subst (λ (o : Option Data). IsListOf read o kept xs) (sym (other q n d found e)) h

others_still : (n : List ℕ) (d : Data) (found kept : Members) → is_long n ≡ true → ((k : List ℕ) → is_long k ≡ false → get_member k kept ≡ get_member k found)
    → (k : List ℕ) → is_long k ≡ false → get_member k kept ≡ get_member k (put n d found)
others_still n d found kept long h k short = h k short ∙ sym (other k n d found (short_is_other k n long short))

pub symbols_added : (found : Members) (m after : PlanMembers) (d : Data) (xs : List Symbol) → list_in symbol_in d ≡ Ok xs → after ≡ record m { lists = record m.lists { symbols = Some xs } } → AreMembers found m → AreMembers (put (codes "symbols") d found) after
symbols_added found m after d xs e is h = subst (AreMembers (put (codes "symbols") d found)) (sym is) (record {
  others = others_still (codes "symbols") d found (members_view m.kept.items) refl h.others;
  symbols = (d, get_member-put (codes "symbols") d found, e);
  groups = found_elsewhere group_in (codes "groups") (codes "symbols") d found _ _ refl h.groups;
  dynsyms = found_elsewhere dynamic_symbol_in (codes "dynsyms") (codes "symbols") d found _ _ refl h.dynsyms;
  sorted = found_elsewhere sorted_section_in (codes "sorted") (codes "symbols") d found _ _ refl h.sorted;
  merged = found_elsewhere merged_in (codes "merged") (codes "symbols") d found _ _ refl h.merged;
  known = known_put (codes "symbols") d found refl h.known;
})

pub groups_added : (found : Members) (m after : PlanMembers) (d : Data) (xs : List Group) → list_in group_in d ≡ Ok xs → after ≡ record m { lists = record m.lists { groups = Some xs } } → AreMembers found m → AreMembers (put (codes "groups") d found) after
groups_added found m after d xs e is h = subst (AreMembers (put (codes "groups") d found)) (sym is) (record {
  others = others_still (codes "groups") d found (members_view m.kept.items) refl h.others;
  symbols = found_elsewhere symbol_in (codes "symbols") (codes "groups") d found _ _ refl h.symbols;
  groups = (d, get_member-put (codes "groups") d found, e);
  dynsyms = found_elsewhere dynamic_symbol_in (codes "dynsyms") (codes "groups") d found _ _ refl h.dynsyms;
  sorted = found_elsewhere sorted_section_in (codes "sorted") (codes "groups") d found _ _ refl h.sorted;
  merged = found_elsewhere merged_in (codes "merged") (codes "groups") d found _ _ refl h.merged;
  known = known_put (codes "groups") d found refl h.known;
})

pub dynsyms_added : (found : Members) (m after : PlanMembers) (d : Data) (xs : List DynamicSymbol) → list_in dynamic_symbol_in d ≡ Ok xs → after ≡ record m { lists = record m.lists { dynsyms = Some xs } } → AreMembers found m → AreMembers (put (codes "dynsyms") d found) after
dynsyms_added found m after d xs e is h = subst (AreMembers (put (codes "dynsyms") d found)) (sym is) (record {
  others = others_still (codes "dynsyms") d found (members_view m.kept.items) refl h.others;
  symbols = found_elsewhere symbol_in (codes "symbols") (codes "dynsyms") d found _ _ refl h.symbols;
  groups = found_elsewhere group_in (codes "groups") (codes "dynsyms") d found _ _ refl h.groups;
  dynsyms = (d, get_member-put (codes "dynsyms") d found, e);
  sorted = found_elsewhere sorted_section_in (codes "sorted") (codes "dynsyms") d found _ _ refl h.sorted;
  merged = found_elsewhere merged_in (codes "merged") (codes "dynsyms") d found _ _ refl h.merged;
  known = known_put (codes "dynsyms") d found refl h.known;
})

pub sorted_added : (found : Members) (m after : PlanMembers) (d : Data) (xs : List SortedSection) → list_in sorted_section_in d ≡ Ok xs → after ≡ record m { lists = record m.lists { sorted = Some xs } } → AreMembers found m → AreMembers (put (codes "sorted") d found) after
sorted_added found m after d xs e is h = subst (AreMembers (put (codes "sorted") d found)) (sym is) (record {
  others = others_still (codes "sorted") d found (members_view m.kept.items) refl h.others;
  symbols = found_elsewhere symbol_in (codes "symbols") (codes "sorted") d found _ _ refl h.symbols;
  groups = found_elsewhere group_in (codes "groups") (codes "sorted") d found _ _ refl h.groups;
  dynsyms = found_elsewhere dynamic_symbol_in (codes "dynsyms") (codes "sorted") d found _ _ refl h.dynsyms;
  sorted = (d, get_member-put (codes "sorted") d found, e);
  merged = found_elsewhere merged_in (codes "merged") (codes "sorted") d found _ _ refl h.merged;
  known = known_put (codes "sorted") d found refl h.known;
})

pub merged_added : (found : Members) (m after : PlanMembers) (d : Data) (xs : List Merged) → list_in merged_in d ≡ Ok xs → after ≡ record m { lists = record m.lists { merged = Some xs } } → AreMembers found m → AreMembers (put (codes "merged") d found) after
merged_added found m after d xs e is h = subst (AreMembers (put (codes "merged") d found)) (sym is) (record {
  others = others_still (codes "merged") d found (members_view m.kept.items) refl h.others;
  symbols = found_elsewhere symbol_in (codes "symbols") (codes "merged") d found _ _ refl h.symbols;
  groups = found_elsewhere group_in (codes "groups") (codes "merged") d found _ _ refl h.groups;
  dynsyms = found_elsewhere dynamic_symbol_in (codes "dynsyms") (codes "merged") d found _ _ refl h.dynsyms;
  sorted = found_elsewhere sorted_section_in (codes "sorted") (codes "merged") d found _ _ refl h.sorted;
  merged = (d, get_member-put (codes "merged") d found, e);
  known = known_put (codes "merged") d found refl h.known;
})

-- ---- members that are kept

from_last : (ms : List (Bor (List ℕ) × Value Global)) (k : Bor (List ℕ)) (v : Value Global) (found : Members) → members_from (json_members (ms ++ (k, v) ∷ [])) found ≡ put k.now (view v) (members_from (json_members ms) found)
from_last [] k v found = refl
from_last (m ∷ ms) k v found = from_last ms k v (put m.0.now (data_of (value_view m.1)) found)

both_put : (q k : List ℕ) (d : Data) (kept found : Members) (b : Bool) → bytes_eq q k ≡ b → get_member q kept ≡ get_member q found → get_member q (put k d kept) ≡ get_member q (put k d found)
both_put q k d kept found true e h =
    let same : q ≡ k = (bytes_eq-Decides q k).0 e in
    rw same (get_member-put k d kept ∙ sym (get_member-put k d found))
both_put q k d kept found false e h = other q k d kept e ∙ h ∙ sym (other q k d found e)

both_elsewhere : {X : Type 0} (read : Data → Result X (List ℕ)) (q k : List ℕ) (d : Data) (found kept : Members) (xs : Option (List X)) → bytes_eq q k ≡ false
    → IsListOf read (get_member q found) (get_member q kept) xs → IsListOf read (get_member q (put k d found)) (get_member q (put k d kept)) xs
both_elsewhere read q k d found kept xs e h =
    subst (λ (o : Option Data). IsListOf read o (get_member q (put k d kept)) xs) (sym (other q k d found e))
    (subst (λ (o : Option Data). IsListOf read (get_member q found) o xs) (sym (other q k d kept e)) h)

pub kept_added : (found : Members) (m after : PlanMembers) (k : Bor (List ℕ)) (v : Value Global) → is_long k.now ≡ false → list_any (λ n. bytes_eq n k.now) layout_members ≡ true
    → after.kept.items ≡ m.kept.items ++ (k, v) ∷ [] → after.lists ≡ m.lists → AreMembers found m → AreMembers (put k.now (view v) found) after
kept_added found m after k v short known is same h =
    let now : members_view after.kept.items ≡ put k.now (view v) (members_view m.kept.items) = ap members_view is ∙ from_last m.kept.items k v no_members in
    let kept = members_view m.kept.items in
    let d = view v in
    record {
      others = λ q is_short. ap (get_member q) now ∙ both_put q k.now d kept found (bytes_eq q k.now) refl (h.others q is_short);
      symbols = rw (now, same) (both_elsewhere symbol_in (codes "symbols") k.now d found kept m.lists.symbols (long_is_other (codes "symbols") k.now refl short) h.symbols);
      groups = rw (now, same) (both_elsewhere group_in (codes "groups") k.now d found kept m.lists.groups (long_is_other (codes "groups") k.now refl short) h.groups);
      dynsyms = rw (now, same) (both_elsewhere dynamic_symbol_in (codes "dynsyms") k.now d found kept m.lists.dynsyms (long_is_other (codes "dynsyms") k.now refl short) h.dynsyms);
      sorted = rw (now, same) (both_elsewhere sorted_section_in (codes "sorted") k.now d found kept m.lists.sorted (long_is_other (codes "sorted") k.now refl short) h.sorted);
      merged = rw (now, same) (both_elsewhere merged_in (codes "merged") k.now d found kept m.lists.merged (long_is_other (codes "merged") k.now refl short) h.merged);
      known = known_put k.now d found known h.known;
    }

pub none_are : (m : PlanMembers) → m.kept.items ≡ [] → m.lists ≡ no_lists → AreMembers no_members m
none_are m empty none = record {
  others = λ k short. ap (λ ms. get_member k (members_view ms)) empty;
  symbols = rw (empty, none) refl;
  groups = rw (empty, none) refl;
  dynsyms = rw (empty, none) refl;
  sorted = rw (empty, none) refl;
  merged = rw (empty, none) refl;
  known = refl;
}

-- ---- the layout

list_is : {X : Type 0} (name : List ℕ) (read : Data → Result X (List ℕ)) (found kept : Members) (xs : Option (List X)) → IsListOf read (get_member name found) (get_member name kept) xs
    → given_or name read xs (object kept) ≡ field name (list_in read) [] (object found)
list_is name read found kept None h = rw h refl
list_is name read found kept (Some xs) h = rw (h.1, h.2) refl

abbrev SameShort : Members → Members → Type 0
SameShort kept found = (k : List ℕ) → is_long k ≡ false → get_member k kept ≡ get_member k found

head_same : (kept found : Members) → SameShort kept found → head_in (object kept) ≡ head_in (object found)
unfolding head_in
head_same kept found h = rw (h (codes "machine") refl, h (codes "kind") refl, h (codes "options") refl, h (codes "page_size") refl) refl

frame_same : (kept found : Members) → SameShort kept found → frame_in (object kept) ≡ frame_in (object found)
unfolding frame_in
frame_same kept found h =
    rw (h (codes "parts") refl, h (codes "sections") refl, h (codes "segments") refl, h (codes "tls") refl, h (codes "got_base") refl, h (codes "got_header") refl, h (codes "tlsld") refl, h (codes "primary_part") refl) refl

body_same : (m : PlanMembers) (found : Members) → AreMembers found m → body_with m.lists.symbols m.lists.groups m.lists.dynsyms (object (members_view m.kept.items)) ≡ body_in (object found)
unfolding body_with body_in
body_same m found h =
    let kept = members_view m.kept.items in
    rw (
      list_is (codes "symbols") symbol_in found kept m.lists.symbols h.symbols,
      list_is (codes "groups") group_in found kept m.lists.groups h.groups,
      list_is (codes "dynsyms") dynamic_symbol_in found kept m.lists.dynsyms h.dynsyms,
      h.others (codes "sysv_hash") refl,
      h.others (codes "gnu_hash") refl,
      h.others (codes "verdefs") refl,
      h.others (codes "thunk_blocks") refl,
    ) refl

rest_same : (m : PlanMembers) (found : Members) → AreMembers found m → rest_with m.lists.sorted m.lists.merged (object (members_view m.kept.items)) ≡ rest_in (object found)
unfolding rest_with rest_in
rest_same m found h =
    let kept = members_view m.kept.items in
    rw (
      list_is (codes "sorted") sorted_section_in found kept m.lists.sorted h.sorted,
      list_is (codes "merged") merged_in found kept m.lists.merged h.merged,
      h.others (codes "identity") refl,
      h.others (codes "interp") refl,
      h.others (codes "properties") refl,
      h.others (codes "entry") refl,
      h.others (codes "build_id") refl,
    ) refl

members_same : (m : PlanMembers) (found : Members) → AreMembers found m → members_with m.lists (object (members_view m.kept.items)) ≡ members_in (object found)
unfolding members_with members_in
members_same m found h =
    let kept = members_view m.kept.items in
    rw (head_same kept found h.others, frame_same kept found h.others, body_same m found h, rest_same m found h) refl

pub layout_is : (m : PlanMembers) (found : Members) (l : Layout) → AreMembers found m → members_with m.lists (object (members_view m.kept.items)) ≡ Ok l → layout_in (object found) ≡ Ok l
unfolding layout_in
layout_is m found l h e = rw (← members_same m found h, e, h.known) refl

pub layout_given : (m : PlanMembers) (read : Result Layout PlanFault) → Gives read (members_with m.lists (object (members_view m.kept.items))) → IfOk read (λ l. (found : Members) → AreMembers found m → layout_in (object found) ≡ Ok l)
layout_given m (Ok l) e = λ found are. layout_is m found l are e
layout_given m (Err fault) e = tt

-- no list was read before
pub body_without : (d : Data) → body_with None None None d ≡ body_in d
unfolding body_with body_in
body_without d = refl

pub rest_without : (d : Data) → rest_with None None d ≡ rest_in d
unfolding rest_with rest_in
rest_without d = refl

pub members_without : (d : Data) → members_with no_lists d ≡ members_in d
unfolding members_with members_in
members_without d = rw (body_without d, rest_without d) refl

-- ---- items one by one

abbrev pub items_before : List Data → Items → Items
items_before [] rest = rest
items_before (d ∷ ds) rest = item d (items_before ds rest)

last_before : (ds : List Data) (d : Data) (rest : Items) → items_before ds (item d rest) ≡ items_before (ds ++ d ∷ []) rest
last_before [] d rest = refl
last_before (e ∷ ds) d rest = ap (item e) (last_before ds d rest)

pub one_more : (ds : List Data) (d : Data) (o : Option (Items × List Token)) → parse_map (items_before ds) (parse_map (item d) o) ≡ parse_map (items_before (ds ++ d ∷ [])) o
one_more ds d None = refl
one_more ds d (Some p) = ap (λ xs. Some (xs, p.1)) (last_before ds d p.0)

pub none_before : (o : Option (Items × List Token)) → o ≡ parse_map (items_before []) o
none_before None = refl
none_before (Some p) = refl

-- what was read of the items so far, whatever comes after them
abbrev pub AreRead : {X : Type 0} → (Data → Result X (List ℕ)) → List Data → List X → Type 0
AreRead read ds xs = (rest : Items) → items_from read 0 (items_before ds rest) ≡ with_front xs (items_from read (length xs) rest)

front_of_none : {X : Type 0} (r : Result (List X) (List ℕ)) → r ≡ with_front [] r
front_of_none (Ok xs) = refl
front_of_none (Err p) = refl

pub none_read : {X : Type 0} (read : Data → Result X (List ℕ)) → AreRead read [] []
none_read read rest = front_of_none (items_from read 0 rest)

pub more_read : {X : Type 0} (read : Data → Result X (List ℕ)) (ds : List Data) (xs : List X) (d : Data) (x : X) → read d ≡ Ok x → AreRead read ds xs → AreRead read (ds ++ d ∷ []) (xs ++ x ∷ [])
more_read read ds xs d x e h rest =
    let next : length (xs ++ x ∷ []) ≡ length xs + 1 = length-append xs (x ∷ []) in
    ap (items_from read 0) (sym (last_before ds d rest)) ∙ h (item d rest) ∙ rw (e, next) (regroup xs x (items_from read (length xs + 1) rest))

pub all_read : {X : Type 0} (read : Data → Result X (List ℕ)) (ds : List Data) (xs : List X) → AreRead read ds xs → items_from read 0 (items_before ds no_items) ≡ Ok xs
all_read read ds xs h = h no_items ∙ ap (λ (ys : List _). Ok ys) (append-nil xs)

-- an open array began at the tokens old; its items so far are xs, and the tokens now come next
pub record RestOfItems {X : Type 0} (reads : Data → Result X (List ℕ)) (depth : ℕ) (old now : List Token) (xs : List X) : Type 0 where
  pub bound : ℕ
  pub done : List Data
  pub enough : length now ≤ bound
  pub rest : items_at (length old) depth old ≡ parse_map (items_before done) (items_at bound depth now)
  pub items : AreRead reads done xs
  pub shorter : length now ≤ length old

pub items_begin : {X : Type 0} (reads : Data → Result X (List ℕ)) (depth : ℕ) (old : List Token) → RestOfItems reads depth old old []
items_begin reads depth old = record {
  bound = length old;
  done = [];
  enough = omega arith;
  rest = none_before (items_at (length old) depth old);
  items = none_read reads;
  shorter = omega arith;
}

pub items_go_on : {X : Type 0} (reads : Data → Result X (List ℕ)) (depth : ℕ) (old now next : List Token) (xs : List X) (d : Data) (x : X) → IsItemNext depth now d next → length next < length now → reads d ≡ Ok x
    → RestOfItems reads depth old now xs → RestOfItems reads depth old next (xs ++ x ∷ [])
items_go_on reads depth old now next xs d x is less read r =
    let some : 0 < r.bound = omega (arith, r.enough) in
    record {
      bound = r.bound - 1;
      done = r.done ++ d ∷ [];
      enough = omega (arith, r.enough);
      rest = r.rest ∙ ap (parse_map (items_before r.done)) (is r.bound some) ∙ one_more r.done d (items_at (r.bound - 1) depth next);
      items = more_read reads r.done xs d x read r.items;
      shorter = omega (arith, r.shorter);
    }

pub items_end : {X : Type 0} (reads : Data → Result X (List ℕ)) (depth : ℕ) (old now new : List Token) (xs : List X) → IsArrayEnd depth now new → RestOfItems reads depth old now xs
    → (ds : Items) × (items_at (length old) depth old ≡ Some (ds, new)) × (items_from reads 0 ds ≡ Ok xs)
items_end reads depth old now new xs is r = (items_before r.done no_items, r.rest ∙ ap (parse_map (items_before r.done)) (is r.bound r.enough), all_read reads r.done xs r.items)

pub list_next : {X : Type 0} (reads : Data → Result X (List ℕ)) (depth : ℕ) (old mid new : List Token) (ds : Items) (xs : List X) → OpensArray depth old mid → items_at (length mid) (depth - 1) mid ≡ Some (ds, new) → items_from reads 0 ds ≡ Ok xs
    → IsNext (list_in reads) depth old xs new
list_next reads depth old mid new ds xs opens items read = (array ds, opens ∙ ap (parse_map array) items, read)

-- ---- members one by one

pub symbols_next : (depth : ℕ) (old new : List Token) (m after : PlanMembers) (xs : List Symbol) → IsNext (list_in symbol_in) depth old xs new → after ≡ record m { lists = record m.lists { symbols = Some xs } } → AddsMember depth old new (codes "symbols") m after
symbols_next depth old new m after xs n is = (n.0, n.1, λ found h. symbols_added found m after n.0 xs n.2 is h)

pub groups_next : (depth : ℕ) (old new : List Token) (m after : PlanMembers) (xs : List Group) → IsNext (list_in group_in) depth old xs new → after ≡ record m { lists = record m.lists { groups = Some xs } } → AddsMember depth old new (codes "groups") m after
groups_next depth old new m after xs n is = (n.0, n.1, λ found h. groups_added found m after n.0 xs n.2 is h)

pub dynsyms_next : (depth : ℕ) (old new : List Token) (m after : PlanMembers) (xs : List DynamicSymbol) → IsNext (list_in dynamic_symbol_in) depth old xs new → after ≡ record m { lists = record m.lists { dynsyms = Some xs } }
    → AddsMember depth old new (codes "dynsyms") m after
dynsyms_next depth old new m after xs n is = (n.0, n.1, λ found h. dynsyms_added found m after n.0 xs n.2 is h)

pub sorted_next : (depth : ℕ) (old new : List Token) (m after : PlanMembers) (xs : List SortedSection) → IsNext (list_in sorted_section_in) depth old xs new → after ≡ record m { lists = record m.lists { sorted = Some xs } }
    → AddsMember depth old new (codes "sorted") m after
sorted_next depth old new m after xs n is = (n.0, n.1, λ found h. sorted_added found m after n.0 xs n.2 is h)

pub merged_next : (depth : ℕ) (old new : List Token) (m after : PlanMembers) (xs : List Merged) → IsNext (list_in merged_in) depth old xs new → after ≡ record m { lists = record m.lists { merged = Some xs } } → AddsMember depth old new (codes "merged") m after
merged_next depth old new m after xs n is = (n.0, n.1, λ found h. merged_added found m after n.0 xs n.2 is h)

pub kept_next : (depth : ℕ) (old new : List Token) (m after : PlanMembers) (k : Bor (List ℕ)) (v : Value Global) → is_long k.now ≡ false → list_any (λ n. bytes_eq n k.now) layout_members ≡ true → value_at depth old ≡ Some (view v, new)
    → after.kept.items ≡ m.kept.items ++ (k, v) ∷ [] → after.lists ≡ m.lists → AddsMember depth old new k.now m after
kept_next depth old new m after k v short known next is same = (view v, next, λ found h. kept_added found m after k v short known is same h)

pub by_name : (k n : List ℕ) (depth : ℕ) (old new : List Token) (m after : PlanMembers) → bytes_eq k n ≡ true → AddsMember depth old new n m after → AddsMember depth old new k m after
by_name k n depth old new m after e h = subst (λ (q : List ℕ). AddsMember depth old new q m after) (sym ((bytes_eq-Decides k n).0 e)) h

-- an open object began at the tokens old; m holds its members so far, and the tokens now come next
pub record RestOfMembers (depth : ℕ) (old now : List Token) (m : PlanMembers) : Type 0 where
  pub bound : ℕ
  pub found : Members
  pub enough : length now ≤ bound
  pub rest : members_at (length old) depth no_members old ≡ members_at bound depth found now
  pub members : AreMembers found m

pub members_begin : (depth : ℕ) (old : List Token) (m : PlanMembers) → AreMembers no_members m → RestOfMembers depth old old m
members_begin depth old m none = record { bound = length old; found = no_members; enough = omega arith; rest = refl; members = none }

pub members_go_on : (depth : ℕ) (old now mid next : List Token) (name : List ℕ) (m after : PlanMembers) → IsNameNext now name mid → length mid < length now → length next < length mid → AddsMember depth mid next name m after
    → RestOfMembers depth old now m → RestOfMembers depth old next after
members_go_on depth old now mid next name m after is first less adds r =
    let some : 0 < r.bound = omega (arith, r.enough) in
    record {
      bound = r.bound - 1;
      found = put name adds.0 r.found;
      enough = omega (arith, r.enough);
      rest = r.rest ∙ is r.bound depth r.found adds.0 next some adds.1;
      members = adds.2 r.found r.members;
    }

pub members_end : (depth : ℕ) (old now new : List Token) (m : PlanMembers) → IsObjectEnd now new → RestOfMembers depth old now m → (found : Members) × (members_at (length old) depth no_members old ≡ Some (found, new)) × AreMembers found m
members_end depth old now new m is r = (r.found, r.rest ∙ is r.bound depth r.found r.enough, r.members)

-- ---- the whole text

pub plan_read : (text : List ℕ) (mid new : List Token) (found : Members) (m : PlanMembers) (l : Layout) → OpensObject 127 (tokens text) mid → members_at (length mid) 126 no_members mid ≡ Some (found, new) → AreMembers found m
    → ((t : List ℕ) (d : Data) → value_at 127 (tokens t) ≡ Some (d, new) → read t ≡ Some d) → ((ms : Members) → AreMembers ms m → layout_in (object ms) ≡ Ok l) → (d : Data) × (read text ≡ Some d) × (layout_in d ≡ Ok l)
plan_read text mid new found m l opens members are ends layout = (object found, ends text (object found) (opens ∙ ap (parse_map object) members), layout found are)
