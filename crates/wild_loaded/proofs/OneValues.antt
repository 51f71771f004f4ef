-- Entries of one tag in the dynamic section have one value, and a DT_NULL is after them.
use Rattle.wild_loaded.proofs.Common.{◌≡◌, ◌≢◌, ℕ, zero, suc, ◌+◌, ◌-◌, ◌<◌, ◌≤◌, inl, inr, ◌==◌, Bool, true, false, List, [], ◌∷◌, ◌++◌, length, get_or, take, replicate, refl, sym, ap, ◌∙◌, arith, subst, Option, Some, None, All, Contains, if◌then◌else◌, cases_Bool, eqb-false, ne_eqb, length-append, length-replicate, get_or-replicate, All-nil, All-cons, All-head, All-tail, All-append, All-contains, All-flat_map, DynamicEntry, Layout, needs_dynamic, dynamic_number, dynamic_entry, entries_before_null, value_of_tag}
use Rattle.std.specs.Prelude.{flat_map}
use Rattle.std.proofs.lemmas.List.{append_assoc}
use Rattle.std.proofs.lemmas.Grind.{flat_map-append}
use Rattle.wild_records.specs.Abi.Dynamic.{dt_null, dt_needed, dt_soname, dt_rpath, dt_runpath, dt_auxiliary}
use Rattle.wild_needs.specs.declared.dynamic.DynamicTag.{DynamicTag}
use Rattle.wild_needs.specs.declared.dynamic.DynamicTag.TheVariants as tags
use Rattle.wild_needs.specs.Dynamic.{entry_of, entry_with, all_tags, tag_entries, dynamic_entries}
use Rattle.wild_needs.specs.DynamicStrings.{NamedString, named, auxiliary_strings, offset_after_string, named_strings, string_entries, string_start}
use Rattle.wild_table_formats.specs.DynamicSection.{null_entry, IsNeeded}
use Rattle.wild_meaning.specs.DynamicSection.{HasOneValue}

-- ---- what is before DT_NULL

-- what holds of each entry that is no DT_NULL holds of those before the first
before_null : (P : DynamicEntry → Type 0) (ds : List DynamicEntry) → All (λ (d : DynamicEntry). d.tag ≢ dt_null → P d) ds → All P (entries_before_null ds)
before_null P [] h = All-nil P
before_null P (d ∷ ds) h =
    elim (cases_Bool (d.tag == dt_null)) [
      | inl t ↦ (let none : entries_before_null (d ∷ ds) ≡ [] = rw t refl in subst (All P) (sym none) (All-nil P))
      | inr f ↦
          (let some : entries_before_null (d ∷ ds) ≡ d ∷ entries_before_null ds = rw f refl in
          subst (All P) (sym some) (All-cons P d (entries_before_null ds) (All-head (λ (e : DynamicEntry). e.tag ≢ dt_null → P e) d ds h (eqb-false d.tag dt_null f)) (before_null P ds (All-tail (λ (e : DynamicEntry). e.tag ≢ dt_null → P e) d ds h))))
    ]

-- those before a DT_NULL are at most as many as the entries before it
ends_at_null : (xs ys : List DynamicEntry) → length (entries_before_null (xs ++ null_entry ∷ ys)) ≤ length xs
ends_at_null [] ys = omega arith
ends_at_null (x ∷ xs) ys =
    let rest = ends_at_null xs ys in
    elim (cases_Bool (x.tag == dt_null)) [
      | inl t ↦ rw t (omega arith)
      | inr f ↦ rw f (omega (arith, rest))
    ]

-- they are fewer than a list that has one
shorter : (xs ys zs : List DynamicEntry) → xs ≡ ys ++ null_entry ∷ zs → length (entries_before_null xs) < length xs
shorter xs ys zs e =
    let most = ends_at_null ys zs in
    let long = length-append ys (null_entry ∷ zs) in
    let all = ap (λ (ds : List DynamicEntry). length ds) e in
    let found = ap (λ (ds : List DynamicEntry). length (entries_before_null ds)) e in
    omega (arith, most, long, all, found)

-- a list with one in it, after others
record HasNull (ds : List DynamicEntry) : Type 0 where
  front : List DynamicEntry
  back : List DynamicEntry
  is : ds ≡ front ++ null_entry ∷ back

null_after : (xs ds : List DynamicEntry) → HasNull ds → HasNull (xs ++ ds)
null_after [] ds h = h
null_after (x ∷ xs) ds h = (let r = null_after xs ds h in record { front = x ∷ r.front; back = r.back; is = ap (λ (es : List DynamicEntry). x ∷ es) r.is })

null_before : (ds ys : List DynamicEntry) → HasNull ds → HasNull (ds ++ ys)
null_before ds ys h = record { front = h.front; back = h.back ++ ys; is = ap (λ (es : List DynamicEntry). es ++ ys) h.is ∙ joined h.front h.back }
  where
    joined : (xs zs : List DynamicEntry) → (xs ++ null_entry ∷ zs) ++ ys ≡ xs ++ null_entry ∷ (zs ++ ys)
    joined [] zs = refl
    joined (x ∷ xs) zs = ap (λ (es : List DynamicEntry). x ∷ es) (joined xs zs)

-- the last tag is Null
null_tag : (l : Layout) → needs_dynamic l.kind ≡ true → HasNull (tag_entries l)
unfolding tag_entries all_tags dynamic_number dynamic_entry
null_tag l needs = record { front = flat_map (entry_of l) (take (length all_tags - 1) all_tags); back = []; is = rw needs (flat_map-append (entry_of l) (take (length all_tags - 1) all_tags) (tags.Null ∷ [])) }

pub fewer : (l : Layout) (front rest : List DynamicEntry) → needs_dynamic l.kind ≡ true → length (entries_before_null (front ++ (dynamic_entries l ++ rest))) < length (front ++ (dynamic_entries l ++ rest))
unfolding dynamic_entries
fewer l front rest needs =
    let h = null_after front (dynamic_entries l ++ rest) (null_before (dynamic_entries l) rest (null_after (string_entries (string_start l) (named_strings l)) (tag_entries l) (null_tag l needs))) in
    shorter (front ++ (dynamic_entries l ++ rest)) h.front h.back h.is

-- ---- entries of strings

-- entries of libraries are passed by for another tag
passed : (tag : ℕ) (front rest : List DynamicEntry) → tag ≢ dt_needed → All IsNeeded front → value_of_tag tag (entries_before_null (front ++ rest)) ≡ value_of_tag tag (entries_before_null rest)
unfolding value_of_tag
passed tag [] rest other h = refl
passed tag (d ∷ front) rest other h =
    let is : d.tag ≡ dt_needed = All-head IsNeeded d front h in
    let some : (d.tag == dt_null) ≡ false = ap (λ (t : ℕ). t == dt_null) is in
    let differs : (d.tag == tag) ≡ false = ne_eqb d.tag tag (λ e. other (sym e ∙ is)) in
    rw (some, differs) (passed tag front rest other (All-tail IsNeeded d front h))

-- an entry whose tag may be only once has the value that is found in a list
abbrev IsOne : List DynamicEntry → DynamicEntry → Type 0
IsOne found d = d.tag ≢ dt_needed → d.tag ≢ dt_auxiliary → value_of_tag d.tag found ≡ Some d.value

-- the same of an entry that is no DT_NULL
abbrev HasFirst : List DynamicEntry → DynamicEntry → Type 0
HasFirst found d = d.tag ≢ dt_null → IsOne found d

abbrev IsAuxiliary : DynamicEntry → Type 0
IsAuxiliary d = d.tag ≡ dt_auxiliary

all_auxiliary : (at : ℕ) (texts : List (List ℕ)) → All IsAuxiliary (string_entries at (auxiliary_strings texts))
unfolding string_entries
all_auxiliary at [] = All-nil IsAuxiliary
all_auxiliary at (t ∷ ts) = All-cons IsAuxiliary (record { tag = dt_auxiliary; value = at }) (string_entries (offset_after_string at t) (auxiliary_strings ts)) refl (all_auxiliary (offset_after_string at t) ts)

excepted : (found : List DynamicEntry) (ds : List DynamicEntry) → All IsAuxiliary ds → All (HasFirst found) ds
excepted found ds h = λ i d lt null needed auxiliary. absurd (auxiliary (h i d lt))

-- the entries of options' strings
abbrev strings_of : Bool → Option (List ℕ) → Option (List ℕ) → List (List ℕ) → List NamedString
strings_of new path name texts = named (if new then dt_runpath else dt_rpath) path ++ (named dt_soname name ++ auxiliary_strings texts)

-- each has its value, with other entries after them
string_values : (new : Bool) (path name : Option (List ℕ)) (texts : List (List ℕ)) (at : ℕ) (rest found : List DynamicEntry) → found ≡ entries_before_null (string_entries at (strings_of new path name texts) ++ rest) → All (HasFirst found) (string_entries at (strings_of new path name texts))
unfolding string_entries value_of_tag
string_values true None None texts at rest found is = excepted found _ (all_auxiliary at texts)
string_values false None None texts at rest found is = excepted found _ (all_auxiliary at texts)
string_values true None (Some name) texts at rest found is = All-cons (HasFirst found) (record { tag = dt_soname; value = at }) _ (λ null needed auxiliary. ap (value_of_tag dt_soname) is) (excepted found _ (all_auxiliary (offset_after_string at name) texts))
string_values false None (Some name) texts at rest found is = All-cons (HasFirst found) (record { tag = dt_soname; value = at }) _ (λ null needed auxiliary. ap (value_of_tag dt_soname) is) (excepted found _ (all_auxiliary (offset_after_string at name) texts))
string_values true (Some path) None texts at rest found is = All-cons (HasFirst found) (record { tag = dt_runpath; value = at }) _ (λ null needed auxiliary. ap (value_of_tag dt_runpath) is) (excepted found _ (all_auxiliary (offset_after_string at path) texts))
string_values false (Some path) None texts at rest found is = All-cons (HasFirst found) (record { tag = dt_rpath; value = at }) _ (λ null needed auxiliary. ap (value_of_tag dt_rpath) is) (excepted found _ (all_auxiliary (offset_after_string at path) texts))
string_values true (Some path) (Some name) texts at rest found is =
    All-cons (HasFirst found) (record { tag = dt_runpath; value = at }) (record { tag = dt_soname; value = offset_after_string at path } ∷ string_entries (offset_after_string (offset_after_string at path) name) (auxiliary_strings texts)) (λ null needed auxiliary. ap (value_of_tag dt_runpath) is)
    (All-cons (HasFirst found) (record { tag = dt_soname; value = offset_after_string at path }) _ (λ null needed auxiliary. ap (value_of_tag dt_soname) is) (excepted found _ (all_auxiliary (offset_after_string (offset_after_string at path) name) texts)))
string_values false (Some path) (Some name) texts at rest found is =
    All-cons (HasFirst found) (record { tag = dt_rpath; value = at }) (record { tag = dt_soname; value = offset_after_string at path } ∷ string_entries (offset_after_string (offset_after_string at path) name) (auxiliary_strings texts)) (λ null needed auxiliary. ap (value_of_tag dt_rpath) is)
    (All-cons (HasFirst found) (record { tag = dt_soname; value = offset_after_string at path }) _ (λ null needed auxiliary. ap (value_of_tag dt_soname) is) (excepted found _ (all_auxiliary (offset_after_string (offset_after_string at path) name) texts)))

layout_strings : (l : Layout) (rest : List DynamicEntry) → needs_dynamic l.kind ≡ true → All (HasFirst (entries_before_null (string_entries (string_start l) (named_strings l) ++ rest))) (string_entries (string_start l) (named_strings l))
unfolding named_strings
layout_strings l rest needs = rw needs (string_values l.options.new_dtags l.options.rpath l.options.soname l.options.auxiliary (string_start l) rest _ refl)

-- ---- the whole

-- the value that a reader finds by each tag but Null is the layout's
abbrev IsFoundByTag : Layout → List DynamicEntry → Type 0
IsFoundByTag l found = (tag : DynamicTag) → tag ≢ tags.Null → value_of_tag (dynamic_number tag) found ≡ dynamic_entry l tag

null_number : dynamic_number tags.Null ≡ dt_null
unfolding dynamic_number
null_number = refl

tag_values : (l : Layout) (found : List DynamicEntry) (tag : DynamicTag) → IsFoundByTag l found → All (HasFirst found) (entry_of l tag)
tag_values l found tag by = of (dynamic_entry l tag) refl
  where
    other : dynamic_number tag ≢ dt_null → tag ≡ tags.Null → ⊥
    other some e = some (ap dynamic_number e ∙ null_number)

    of : (o : Option ℕ) → dynamic_entry l tag ≡ o → All (HasFirst found) (entry_with (dynamic_number tag) o)
    of None e = All-nil (HasFirst found)
    of (Some v) e = All-cons (HasFirst found) (record { tag = dynamic_number tag; value = v }) [] (λ null needed auxiliary. by tag (other null) ∙ e) (All-nil (HasFirst found))

-- values in the entries of strings, with those of libraries in front
strings_in : (l : Layout) (front rest : List DynamicEntry) → needs_dynamic l.kind ≡ true → All IsNeeded front → All (HasFirst (entries_before_null (front ++ (string_entries (string_start l) (named_strings l) ++ rest)))) (string_entries (string_start l) (named_strings l))
strings_in l front rest needs all = λ i d lt null needed auxiliary.
    passed _ front (string_entries (string_start l) (named_strings l) ++ rest) needed all ∙ layout_strings l rest needs i d lt null needed auxiliary

tags_have : (l : Layout) (found : List DynamicEntry) → needs_dynamic l.kind ≡ true → IsFoundByTag l found → All (HasFirst found) (tag_entries l)
unfolding tag_entries
tags_have l found needs by = rw needs (All-flat_map (HasFirst found) (entry_of l) all_tags (λ k tag lt. tag_values l found (get_or all_tags k tag) by))

nulls_have : (found : List DynamicEntry) (n : ℕ) → All (HasFirst found) (replicate n null_entry)
nulls_have found n = λ i d lt null needed auxiliary.
    (let long = length-replicate n null_entry in
    let is = get_or-replicate n i null_entry d (omega (arith, lt, long)) in
    absurd (null (ap (λ (e : DynamicEntry). e.tag) is)))

-- the entries of the last file, after those of libraries and before others
entries_have : (l : Layout) (front rest : List DynamicEntry) → needs_dynamic l.kind ≡ true → All IsNeeded front → IsFoundByTag l (entries_before_null (front ++ (dynamic_entries l ++ rest))) → All (HasFirst (entries_before_null (front ++ (dynamic_entries l ++ rest)))) (dynamic_entries l)
unfolding dynamic_entries
entries_have l front rest needs all by =
    let S = string_entries (string_start l) (named_strings l) in
    let found = entries_before_null (front ++ ((S ++ tag_entries l) ++ rest)) in
    let same : entries_before_null (front ++ (S ++ (tag_entries l ++ rest))) ≡ found = ap (λ (ds : List DynamicEntry). entries_before_null (front ++ ds)) (sym (append_assoc S (tag_entries l) rest)) in
    All-append (HasFirst found) S (tag_entries l) (subst (λ (ds : List DynamicEntry). All (HasFirst ds) S) same (strings_in l front (tag_entries l ++ rest) needs all)) (tags_have l found needs by)

pub one_value_each : (l : Layout) (front : List DynamicEntry) (n : ℕ) → needs_dynamic l.kind ≡ true → All IsNeeded front → IsFoundByTag l (entries_before_null (front ++ (dynamic_entries l ++ replicate n null_entry))) → HasOneValue (entries_before_null (front ++ (dynamic_entries l ++ replicate n null_entry)))
one_value_each l front n needs all by =
    let nulls = replicate n null_entry in
    let whole = front ++ (dynamic_entries l ++ nulls) in
    let found = entries_before_null whole in
    let libraries : All (HasFirst found) front = λ i d lt null needed auxiliary. absurd (needed (all i d lt)) in
    let each = All-append (HasFirst found) front (dynamic_entries l ++ nulls) libraries (All-append (HasFirst found) (dynamic_entries l) nulls (entries_have l front nulls needs all by) (nulls_have found n)) in
    λ d c needed auxiliary. All-contains (IsOne found) found d (before_null (IsOne found) whole each) c needed auxiliary
