-- How many entries there are, and their ranges.
use Rattle.std.proofs.Common.{◌<◌, ◌^◌, Bool, true, false, IfSome, ◌≡◌, ℕ, ◌+◌, List, [], ◌∷◌, ◌++◌, length, map, if◌then◌else◌, is_some, Option, Some, None, refl, arith, inl, inr}
use Rattle.std.specs.Prelude.{All, flat_map}
use Rattle.std.proofs.lemmas.List.Elements.{All-nil, All-cons, All-head, All-tail, All-append}
use Rattle.std.proofs.lemmas.List.{length-append}
use Rattle.std.proofs.lemmas.Bool.{cases_Bool}
use Rattle.wild_records.specs.Abi.Dynamic.{dt_soname, dt_runpath, dt_rpath}
use Rattle.wild_records.specs.Dynamic.{DynamicEntryFits}
use Rattle.wild_records.specs.declared.dynamic.DynamicEntry.{DynamicEntry}
use Rattle.wild_needs.specs.declared.dynamic.DynamicTag.{DynamicTag}
use Rattle.wild_types.specs.declared.options.Options.{Options}
use Rattle.wild_types.specs.declared.layout.Layout.{Layout}
use Rattle.wild_types.specs.Kinds.{needs_dynamic}
use Rattle.wild_types.specs.declared.file.File.{File}
use Rattle.wild_types.specs.FileRoles.{is_library}
use Rattle.wild_types.specs.Lists.{total}
use Rattle.wild_types.specs.declared.file.Group.{Group}
use Rattle.wild_needs.specs.Dynamic.{TagFits, all_tags, entry_of, entry_with, tag_entries, dynamic_entries, dynamic_count}
use Rattle.wild_needs.specs.DynamicStrings.{NamedString, string_start, offset_after_string, string_entries, named_strings, named, auxiliary_string, path_number, option_strings, needed_of, next_dynstr, needed_from, needed_count, needed_entries}

-- an entry is one where it has a value
pub length_entry : (number : ℕ) (value : Option ℕ) (rest : List DynamicEntry) → length (entry_with number value ++ rest) ≡ (if is_some value then 1 else 0) + length rest
length_entry number None rest = omega arith
length_entry number (Some value) rest = omega arith

pub length_string_entries : (at : ℕ) (ss : List NamedString) → length (string_entries at ss) ≡ length ss
unfolding string_entries
length_string_entries at [] = refl
length_string_entries at (s ∷ ss) = let e = length_string_entries (offset_after_string at s.text) ss in omega (arith, e)

-- an entry for each string, and those with values of their own
pub length_dynamic_entries : (l : Layout) → dynamic_count l ≡ length (named_strings l) + length (tag_entries l)
unfolding dynamic_entries
length_dynamic_entries l =
    let a = length-append (string_entries (string_start l) (named_strings l)) (tag_entries l) in
    let b = length_string_entries (string_start l) (named_strings l) in
    omega (arith, a, b)

-- ---- ranges of the entries

pub strings_fit : (at : ℕ) (ss : List NamedString) → at < 2 ^ 64 → All (λ (s : NamedString). s.number < 2 ^ 64) ss → All DynamicEntryFits (string_entries at ss)
unfolding string_entries
strings_fit at [] h n = All-nil DynamicEntryFits
strings_fit at (s ∷ ss) h n =
    All-cons DynamicEntryFits _ (string_entries (offset_after_string at s.text) ss)
    (record { tag = All-head (λ (s : NamedString). s.number < 2 ^ 64) s ss n; value = h })
    (strings_fit (offset_after_string at s.text) ss (omega arith) (All-tail (λ (s : NamedString). s.number < 2 ^ 64) s ss n))

named_numbers : (n : ℕ) (text : Option (List ℕ)) → n < 2 ^ 64 → All (λ (s : NamedString). s.number < 2 ^ 64) (named n text)
named_numbers n None h = All-nil _
named_numbers n (Some text) h = All-cons (λ (s : NamedString). s.number < 2 ^ 64) _ [] h (All-nil _)

auxiliary_numbers : (texts : List (List ℕ)) → All (λ (s : NamedString). s.number < 2 ^ 64) (map auxiliary_string texts)
auxiliary_numbers [] = All-nil _
auxiliary_numbers (t ∷ ts) = All-cons (λ (s : NamedString). s.number < 2 ^ 64) _ (map auxiliary_string ts) (omega arith) (auxiliary_numbers ts)

path_small : (new : Bool) → (if new then dt_runpath else dt_rpath) < 2 ^ 64
path_small true = omega arith
path_small false = omega arith

option_numbers : (o : Options) → All (λ (s : NamedString). s.number < 2 ^ 64) (option_strings o)
option_numbers o =
    All-append (λ (s : NamedString). s.number < 2 ^ 64) (named (path_number o) o.rpath) (named dt_soname o.soname ++ map auxiliary_string o.auxiliary)
    (named_numbers (path_number o) o.rpath (path_small o.new_dtags))
    (All-append (λ (s : NamedString). s.number < 2 ^ 64) (named dt_soname o.soname) (map auxiliary_string o.auxiliary) (named_numbers dt_soname o.soname (omega arith)) (auxiliary_numbers o.auxiliary))

named_numbers_of : (needs : Bool) (o : Options) → All (λ (s : NamedString). s.number < 2 ^ 64) (if needs then option_strings o else [])
named_numbers_of true o = option_numbers o
named_numbers_of false o = All-nil _

-- where the entries with values of their own have their ranges, all entries have them
pub all_fit : (l : Layout) (start : ℕ) → start ≡ string_start l → start < 2 ^ 64 → All DynamicEntryFits (tag_entries l) → All DynamicEntryFits (dynamic_entries l)
unfolding dynamic_entries named_strings
all_fit l start is small h = All-append DynamicEntryFits (string_entries (string_start l) (named_strings l)) (tag_entries l) (strings_fit (string_start l) (named_strings l) (omega (arith, is, small)) (named_numbers_of (needs_dynamic l.kind) l.options)) h

-- an entry that has a value has its ranges where the value has
pub entry_fits : (number : ℕ) (value : Option ℕ) → number < 2 ^ 64 → IfSome value (λ v. v < 2 ^ 64) → All DynamicEntryFits (entry_with number value)
entry_fits number None n v = All-nil _
entry_fits number (Some value) n v = All-cons DynamicEntryFits _ [] (record { tag = n; value = v }) (All-nil _)

pub no_tags_fit : (l : Layout) → needs_dynamic l.kind ≡ false → All DynamicEntryFits (tag_entries l)
unfolding tag_entries
no_tags_fit l h = rw h (All-nil _)

each_fits : (l : Layout) (tags : List DynamicTag) → All (TagFits l) tags → All DynamicEntryFits (flat_map (entry_of l) tags)
each_fits l [] h = All-nil _
each_fits l (t ∷ ts) h = All-append DynamicEntryFits (entry_of l t) (flat_map (entry_of l) ts) (All-head (TagFits l) t ts h).entry (each_fits l ts (All-tail (TagFits l) t ts h))

pub tags_fit : (l : Layout) → All (TagFits l) all_tags → needs_dynamic l.kind ≡ true → All DynamicEntryFits (tag_entries l)
unfolding tag_entries
tags_fit l f h = rw h (each_fits l all_tags f)

pub length_all_tags : length all_tags ≡ 37
unfolding all_tags
length_all_tags = refl

-- a file has as many entries wherever its strings stand
pub needed_length : (at : ℕ) (f : File) → length (needed_of at f) ≡ length (needed_of 0 f)
needed_length at f =
    elim (cases_Bool (is_library f.role)) [
      | inl t ↦ rw t refl
      | inr n ↦ rw n refl
    ]

-- those of the libraries of a group are as many as are counted
pub needed_files : (l : Layout) (at : ℕ) (fs : List File) → needs_dynamic l.kind ≡ true → length (needed_from l at fs) ≡ total (needed_count l) fs
needed_files l at [] needs = refl
needed_files l at (f ∷ fs) needs =
    let a = length-append (needed_of at f) (needed_from l (next_dynstr l at f) fs) in
    let b = needed_length at f in
    let c = needed_files l (next_dynstr l at f) fs needs in
    let d : needed_count l f ≡ length (needed_of 0 f) = rw needs refl in
    omega arith

pub length_needed_entries : (l : Layout) (g : Group) → length (needed_entries l g) ≡ total (needed_count l) g.files
unfolding needed_entries
length_needed_entries l g =
    elim (cases_Bool (needs_dynamic l.kind)) [
      | inl t ↦ rw t (needed_files l g.dynstr_start g.files t)
      | inr n ↦ rw n (let e = none l g.files n in omega arith)
    ]
  where
    none : (l : Layout) (fs : List File) → needs_dynamic l.kind ≡ false → total (needed_count l) fs ≡ 0
    none l [] h = refl
    none l (f ∷ fs) h =
        let a = none l fs h in
        let b : needed_count l f ≡ 0 = rw h refl in
        omega arith
