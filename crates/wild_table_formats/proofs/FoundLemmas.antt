-- What a reader finds by a tag in the entries of the last file.
use Rattle.std.proofs.Common.{◌≡◌, ◌≢◌, ℕ, suc, arith, ◌+◌, ◌==◌, Bool, true, false, not, ◌&&◌, if◌then◌else◌, List, [], ◌∷◌, ◌++◌, length, take, drop, map, replicate, ◌/◌, ◌-◌, Option, Some, None, refl, sym, ap, ◌∙◌, subst}
use Rattle.std.specs.Prelude.{All, flat_map}
use Rattle.std.specs.List.{list_all}
use Rattle.std.proofs.lemmas.Bool.{and_parts, eq-eqb, not-true}
use Rattle.std.proofs.lemmas.List.{append_assoc, append-nil}
use Rattle.std.proofs.lemmas.Grind.{flat_map-append}
use Rattle.wild_records.specs.Abi.Dynamic.{dt_null, dt_needed, dt_soname, dt_runpath, dt_rpath, dt_auxiliary}
use Rattle.wild_records.specs.declared.dynamic.DynamicEntry.{DynamicEntry}
use Rattle.wild_needs.specs.declared.dynamic.DynamicTag.{DynamicTag}
use Rattle.wild_needs.specs.declared.dynamic.DynamicTag.TheVariants as tags
use Rattle.wild_types.specs.declared.options.Options.{Options}
use Rattle.wild_types.specs.declared.layout.Layout.{Layout}
use Rattle.wild_needs.specs.Dynamic.{dynamic_number, dynamic_entry, entry_with, entry_of, all_tags, tag_entries, dynamic_entries, dynamic_count}
use Rattle.wild_needs.specs.DynamicStrings.{NamedString, named, auxiliary_string, path_number, option_strings, named_strings, offset_after_string, string_start, string_entries}
use Rattle.wild_types.specs.Kinds.{needs_dynamic}
use Rattle.wild_loader.specs.Laws.{entries_before_null}
use Rattle.wild_loader.specs.Tables.{value_of_tag}
use Rattle.wild_loader.proofs.TableLemmas.{no_tag}
use Rattle.wild_table_formats.specs.DynamicSection.{null_entry, dynamic_records, IsNeeded, NamesTables}

-- ---- tests of numbers

-- another number
abbrev differs : ℕ → ℕ → Bool
differs m n = not (n == m)

abbrev tag_differs : ℕ → DynamicTag → Bool
tag_differs m t = differs m (dynamic_number t)

abbrev string_differs : ℕ → NamedString → Bool
string_differs m s = differs m s.number

-- no string's entry has the number
abbrev no_string : ℕ → Bool
no_string m = differs m dt_runpath && (differs m dt_rpath && (differs m dt_soname && differs m dt_auxiliary))

-- ---- one entry

entry_kept : (n : ℕ) (v : Option ℕ) (rest : List DynamicEntry) → differs dt_null n ≡ true → entries_before_null (entry_with n v ++ rest) ≡ entry_with n v ++ entries_before_null rest
entry_kept n None rest h = refl
entry_kept n (Some v) rest h = let e = not-true (n == dt_null) h in rw e refl

entry_passed : (m n : ℕ) (v : Option ℕ) (rest : List DynamicEntry) → differs m n ≡ true → value_of_tag m (entry_with n v ++ rest) ≡ value_of_tag m rest
unfolding value_of_tag
entry_passed m n None rest h = refl
entry_passed m n (Some v) rest h = let e = not-true (n == m) h in rw e refl

entry_found : (n : ℕ) (v : Option ℕ) (rest : List DynamicEntry) → value_of_tag n rest ≡ None → value_of_tag n (entry_with n v ++ rest) ≡ v
unfolding value_of_tag
entry_found n None rest h = h
entry_found n (Some v) rest h = let e = eq-eqb n n refl in rw e refl

-- ---- the entries of tags

tags_kept : (l : Layout) (ts : List DynamicTag) (rest : List DynamicEntry) → list_all (tag_differs dt_null) ts ≡ true → entries_before_null (flat_map (entry_of l) ts ++ rest) ≡ flat_map (entry_of l) ts ++ entries_before_null rest
tags_kept l [] rest h = refl
tags_kept l (t ∷ ts) rest h =
    let both = and_parts (tag_differs dt_null t) (list_all (tag_differs dt_null) ts) h in
    ap entries_before_null (append_assoc (entry_of l t) (flat_map (entry_of l) ts) rest)
    ∙ entry_kept (dynamic_number t) (dynamic_entry l t) (flat_map (entry_of l) ts ++ rest) both.0
    ∙ ap (λ (x : List DynamicEntry). entry_of l t ++ x) (tags_kept l ts rest both.1)
    ∙ sym (append_assoc (entry_of l t) (flat_map (entry_of l) ts) (entries_before_null rest))

tags_passed : (m : ℕ) (l : Layout) (ts : List DynamicTag) (rest : List DynamicEntry) → list_all (tag_differs m) ts ≡ true → value_of_tag m (flat_map (entry_of l) ts ++ rest) ≡ value_of_tag m rest
tags_passed m l [] rest h = refl
tags_passed m l (t ∷ ts) rest h =
    let both = and_parts (tag_differs m t) (list_all (tag_differs m) ts) h in
    ap (value_of_tag m) (append_assoc (entry_of l t) (flat_map (entry_of l) ts) rest)
    ∙ entry_passed m (dynamic_number t) (dynamic_entry l t) (flat_map (entry_of l) ts ++ rest) both.0
    ∙ tags_passed m l ts rest both.1

-- ---- the entries of strings

strings_kept : (at : ℕ) (ss : List NamedString) (rest : List DynamicEntry) → list_all (string_differs dt_null) ss ≡ true → entries_before_null (string_entries at ss ++ rest) ≡ string_entries at ss ++ entries_before_null rest
unfolding string_entries
strings_kept at [] rest h = refl
strings_kept at (s ∷ ss) rest h =
    let both = and_parts (string_differs dt_null s) (list_all (string_differs dt_null) ss) h in
    entry_kept s.number (Some at) (string_entries (offset_after_string at s.text) ss ++ rest) both.0
    ∙ ap (λ (x : List DynamicEntry). entry_with s.number (Some at) ++ x) (strings_kept (offset_after_string at s.text) ss rest both.1)

strings_passed : (m at : ℕ) (ss : List NamedString) (rest : List DynamicEntry) → list_all (string_differs m) ss ≡ true → value_of_tag m (string_entries at ss ++ rest) ≡ value_of_tag m rest
unfolding string_entries
strings_passed m at [] rest h = refl
strings_passed m at (s ∷ ss) rest h =
    let both = and_parts (string_differs m s) (list_all (string_differs m) ss) h in
    entry_passed m s.number (Some at) (string_entries (offset_after_string at s.text) ss ++ rest) both.0
    ∙ strings_passed m (offset_after_string at s.text) ss rest both.1

all_joined : {X : Type 0} (test : X → Bool) (xs ys : List X) → list_all test xs ≡ true → list_all test ys ≡ true → list_all test (xs ++ ys) ≡ true
all_joined test [] ys f g = g
all_joined test (x ∷ xs) ys f g = let both = and_parts (test x) (list_all test xs) f in rw both.0 (all_joined test xs ys both.1 g)

named_differ : (m n : ℕ) (text : Option (List ℕ)) → differs m n ≡ true → list_all (string_differs m) (named n text) ≡ true
named_differ m n None h = refl
named_differ m n (Some text) h = rw h refl

auxiliary_differ : (m : ℕ) (texts : List (List ℕ)) → differs m dt_auxiliary ≡ true → list_all (string_differs m) (map auxiliary_string texts) ≡ true
auxiliary_differ m [] h = refl
auxiliary_differ m (t ∷ ts) h = rw h (auxiliary_differ m ts h)

path_differs : (m : ℕ) (new : Bool) → differs m dt_runpath ≡ true → differs m dt_rpath ≡ true → differs m (if new then dt_runpath else dt_rpath) ≡ true
path_differs m true f g = f
path_differs m false f g = g

option_strings_differ : (m : ℕ) (o : Options) → no_string m ≡ true → list_all (string_differs m) (option_strings o) ≡ true
option_strings_differ m o h =
    let a = and_parts (differs m dt_runpath) (differs m dt_rpath && (differs m dt_soname && differs m dt_auxiliary)) h in
    let b = and_parts (differs m dt_rpath) (differs m dt_soname && differs m dt_auxiliary) a.1 in
    let c = and_parts (differs m dt_soname) (differs m dt_auxiliary) b.1 in
    all_joined (string_differs m) (named (path_number o) o.rpath) (named dt_soname o.soname ++ map auxiliary_string o.auxiliary)
    (named_differ m (path_number o) o.rpath (path_differs m o.new_dtags a.0 b.0))
    (all_joined (string_differs m) (named dt_soname o.soname) (map auxiliary_string o.auxiliary) (named_differ m dt_soname o.soname c.0) (auxiliary_differ m o.auxiliary c.1))

strings_differ : (m : ℕ) (l : Layout) → needs_dynamic l.kind ≡ true → no_string m ≡ true → list_all (string_differs m) (named_strings l) ≡ true
unfolding named_strings
strings_differ m l n h = rw n (option_strings_differ m l.options h)

-- ---- all entries

-- the tags ahead of Null
abbrev front_tags : List DynamicTag
front_tags = take (length all_tags - 1) all_tags

front_ends : list_all (tag_differs dt_null) front_tags ≡ true
unfolding dynamic_number all_tags
front_ends = refl

null_ends : (l : Layout) (rest : List DynamicEntry) → entries_before_null (entry_of l tags.Null ++ rest) ≡ []
unfolding dynamic_number dynamic_entry
null_ends l rest = refl

tags_split : (l : Layout) → needs_dynamic l.kind ≡ true → tag_entries l ≡ flat_map (entry_of l) front_tags ++ entry_of l tags.Null
unfolding tag_entries all_tags
tags_split l n = rw n (flat_map-append (entry_of l) front_tags (tags.Null ∷ []) ∙ ap (λ (x : List DynamicEntry). flat_map (entry_of l) front_tags ++ x) (append-nil (entry_of l tags.Null)))

-- the entries ahead of Null
abbrev front_entries : Layout → List DynamicEntry
front_entries l = string_entries (string_start l) (named_strings l) ++ flat_map (entry_of l) front_tags

pub ahead_of_null : (l : Layout) (rest : List DynamicEntry) → needs_dynamic l.kind ≡ true → entries_before_null (dynamic_entries l ++ rest) ≡ front_entries l
unfolding dynamic_entries
ahead_of_null l rest n =
    let S = string_entries (string_start l) (named_strings l) in
    let F = flat_map (entry_of l) front_tags in
    let E = entry_of l tags.Null in
    ap entries_before_null (append_assoc S (tag_entries l) rest)
    ∙ strings_kept (string_start l) (named_strings l) (tag_entries l ++ rest) (strings_differ dt_null l n refl)
    ∙ ap (λ (x : List DynamicEntry). S ++ x) (
    ap (λ (x : List DynamicEntry). entries_before_null (x ++ rest)) (tags_split l n)
    ∙ ap entries_before_null (append_assoc F E rest)
    ∙ tags_kept l front_tags (E ++ rest) front_ends
    ∙ ap (λ (x : List DynamicEntry). F ++ x) (null_ends l rest)
    ∙ append-nil F)

pub behind_null : (l : Layout) (rest : List DynamicEntry) → needs_dynamic l.kind ≡ true → entries_before_null (dynamic_entries l ++ rest) ≡ entries_before_null (dynamic_entries l)
behind_null l rest n =
    ahead_of_null l rest n ∙ sym (ap entries_before_null (sym (append-nil (dynamic_entries l))) ∙ ahead_of_null l [] n)

-- ---- by a tag

-- the tags ahead of Null are this one and others around it, and no string's entry has its number
record IsAmong (t : DynamicTag) (front back : List DynamicTag) : Type 0 where
  whole : front ++ t ∷ back ≡ front_tags
  strings : no_string (dynamic_number t) ≡ true
  ahead : list_all (tag_differs (dynamic_number t)) front ≡ true
  behind : list_all (tag_differs (dynamic_number t)) back ≡ true

found_among : (l : Layout) (t : DynamicTag) (front back : List DynamicTag) → IsAmong t front back
    → value_of_tag (dynamic_number t) (flat_map (entry_of l) (front ++ t ∷ back)) ≡ dynamic_entry l t
found_among l t front back a =
    let n = dynamic_number t in
    let B = flat_map (entry_of l) back in
    let none : value_of_tag n B ≡ None = ap (value_of_tag n) (sym (append-nil B)) ∙ tags_passed n l back [] a.behind ∙ no_tag n in
    ap (value_of_tag n) (flat_map-append (entry_of l) front (t ∷ back))
    ∙ tags_passed n l front (entry_of l t ++ B) a.ahead
    ∙ entry_found n (dynamic_entry l t) B none

found_in : (l : Layout) (rest : List DynamicEntry) (t : DynamicTag) (front back : List DynamicTag) → needs_dynamic l.kind ≡ true → IsAmong t front back
    → value_of_tag (dynamic_number t) (entries_before_null (dynamic_entries l ++ rest)) ≡ dynamic_entry l t
found_in l rest t front back n a =
    let P : List DynamicTag → Type 0 = λ ts. value_of_tag (dynamic_number t) (flat_map (entry_of l) ts) ≡ dynamic_entry l t in
    ap (value_of_tag (dynamic_number t)) (ahead_of_null l rest n)
    ∙ strings_passed (dynamic_number t) (string_start l) (named_strings l) (flat_map (entry_of l) front_tags) (strings_differ (dynamic_number t) l n a.strings)
    ∙ subst P a.whole (found_among l t front back a)

-- entries of libraries are kept, and passed by
needed_kept : (front rest : List DynamicEntry) → All IsNeeded front → entries_before_null (front ++ rest) ≡ front ++ entries_before_null rest
needed_kept [] rest h = refl
needed_kept (d ∷ front) rest h =
    let e : d.tag ≡ dt_needed = h 0 d (omega arith) in
    let further : All IsNeeded front = λ i x l. h (suc i) x (omega (arith, l)) in
    let other : (d.tag == dt_null) ≡ false = ap (λ (t : ℕ). t == dt_null) e in
    rw other (ap (λ (x : List DynamicEntry). d ∷ x) (needed_kept front rest further))

needed_passed : (n : ℕ) (front rest : List DynamicEntry) → differs n dt_needed ≡ true → All IsNeeded front → value_of_tag n (front ++ rest) ≡ value_of_tag n rest
unfolding value_of_tag
needed_passed n [] rest o h = refl
needed_passed n (d ∷ front) rest o h =
    let e : d.tag ≡ dt_needed = h 0 d (omega arith) in
    let further : All IsNeeded front = λ i x l. h (suc i) x (omega (arith, l)) in
    let other : (d.tag == n) ≡ false = ap (λ (t : ℕ). t == n) e ∙ not-true (dt_needed == n) o in
    rw other (needed_passed n front rest o further)

-- how many tags stand ahead of the first of a number
abbrev place_among : ℕ → List DynamicTag → ℕ
place_among n [] = 0
place_among n (t ∷ ts) = if dynamic_number t == n then 0 else suc (place_among n ts)

abbrev place_of : DynamicTag → ℕ
place_of t = place_among (dynamic_number t) front_tags

among : (t : DynamicTag) → t ≢ tags.Null → IsAmong t (take (place_of t) front_tags) (drop (place_of t + 1) front_tags)
unfolding dynamic_number all_tags
among tags.Null h = absurd (h refl)
among other h = record { whole = refl; strings = refl; ahead = refl; behind = refl }

no_library : (t : DynamicTag) → differs (dynamic_number t) dt_needed ≡ true
unfolding dynamic_number
no_library tags.Null = refl
no_library other = refl

pub found : (l : Layout) (front rest : List DynamicEntry) (t : DynamicTag) → All IsNeeded front → needs_dynamic l.kind ≡ true → t ≢ tags.Null
    → value_of_tag (dynamic_number t) (entries_before_null (front ++ (dynamic_entries l ++ rest))) ≡ dynamic_entry l t
found l front rest t a n h =
    ap (value_of_tag (dynamic_number t)) (needed_kept front (dynamic_entries l ++ rest) a)
    ∙ needed_passed (dynamic_number t) front (entries_before_null (dynamic_entries l ++ rest)) (no_library t) a
    ∙ found_in l rest t (take (place_of t) front_tags) (drop (place_of t + 1) front_tags) n (among t h)

pub tables_named : (l : Layout) (front : List DynamicEntry) (room : ℕ) → All IsNeeded front → needs_dynamic l.kind ≡ true → NamesTables l (front ++ dynamic_records l room)
unfolding dynamic_number
tables_named l front room a n =
    let rest = replicate (room / 16 - dynamic_count l) null_entry in
    record {
      entries = found l front rest tags.Rela a n (λ e. cc e);
      entries_size = found l front rest tags.RelaSize a n (λ e. cc e);
      words = found l front rest tags.Relr a n (λ e. cc e);
      words_size = found l front rest tags.RelrSize a n (λ e. cc e);
      jumps = found l front rest tags.JmpRel a n (λ e. cc e);
      jumps_size = found l front rest tags.PltRelSize a n (λ e. cc e);
    }
