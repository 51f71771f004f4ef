-- The names of versions stand where their records tell.
use Rattle.wild_names.proofs.Common.{◌≡◌, ℕ, zero, suc, ◌+◌, ◌^◌, ◌<◌, ◌==◌, Bool, true, false, if◌then◌else◌, List, [], ◌∷◌, ◌++◌, length, get_or, refl, sym, ap, ◌∙◌, arith, subst, Option, Some, None, ne_eqb, length-append, flat_map-append, HasBytesAt, HasBytesAt-front, HasBytesAt-after, File, FileRole, NeededVersion, VersionNeeds, Layout, offset_after_string, dynstr_prefix_strings, entry_names, file_strings, string_start, is_epilogue, is_library, needs_dynsym, total, needs_of, version_names, string, string_bytes, name_at, offset_after_entry_names, definition_offsets, NeedsAreNamed}
use Rattle.wild_records.specs.Abi.Dynamic.{dt_soname}
use Rattle.wild_types.specs.declared.file.FileRole.TheVariants as file_role
use Rattle.wild_types.specs.declared.layout.VersionDefinition.{VersionDefinition}
use Rattle.wild_types.specs.declared.options.Options.{Options}
use Rattle.wild_needs.specs.DynamicStrings.{text_room, named, auxiliary_strings, path_number, option_strings, named_strings, texts_of, dynamic_strings}
use Rattle.wild_types.proofs.FileLemmas.{last_role}
use Rattle.wild_needs.specs.Versions.{needed_names, definition_names, need_names, own_names}
use Rattle.wild_table_formats.specs.VersionDefinitions.{version_name}
use Rattle.wild_table_formats.specs.VersionNames.{offset_u32, offsets_from, offset_after_search_path, with_soname_offset, need_at}
use Rattle.wild_names.specs.VersionNames.{HasStrings, DefinitionsAreNamed}

-- ---- strings one behind the other

length-string_bytes : (ns : List (List ℕ)) → length (string_bytes ns) ≡ total text_room ns
length-string_bytes [] = refl
length-string_bytes (n ∷ ns) =
    let a = length-append (string n) (string_bytes ns) in
    let b = length-append n (0 ∷ []) in
    let r = length-string_bytes ns in
    omega (arith, a, b, r)

-- strings behind others
later_strings : (strings : List ℕ) (xs ys : List (List ℕ)) (at : ℕ) → HasBytesAt strings at (string_bytes (xs ++ ys)) → HasBytesAt strings (at + total text_room xs) (string_bytes ys)
later_strings strings xs ys at s =
    HasBytesAt-after strings (string_bytes xs) (string_bytes ys) at (total text_room xs) (length-string_bytes xs) (subst (λ (bs : List ℕ). HasBytesAt strings at bs) (flat_map-append string xs ys) s)

-- where a string stands, its offset has the field's range
told_is : (strings : List ℕ) (n : List ℕ) (at : ℕ) → length strings < 2 ^ 32 → HasBytesAt strings at (string n) → offset_u32 at ≡ at
told_is strings n at small s =
    let f = s.fits in
    let b = length-append n (0 ∷ []) in
    omega (arith, small, f, b)

-- a string at an offset that is told
told_stands : (strings : List ℕ) (n : List ℕ) (at : ℕ) → length strings < 2 ^ 32 → HasBytesAt strings at (string n) → HasBytesAt strings (offset_u32 at) (string n)
told_stands strings n at small s = subst (λ (k : ℕ). HasBytesAt strings k (string n)) (sym (told_is strings n at small s)) s

-- each of strings that stand one behind the other stands at its offset
named_at : (strings : List ℕ) (ns : List (List ℕ)) (at k : ℕ) (d : List ℕ) → length strings < 2 ^ 32 → HasBytesAt strings at (string_bytes ns) → k < length ns → HasBytesAt strings (name_at (offsets_from at ns) k) (string (get_or ns k d))
unfolding offsets_from
named_at strings [] at k d small s l = absurd (omega (arith, l))
named_at strings (n ∷ ns) at zero d small s l = told_stands strings n at small (HasBytesAt-front strings (string n) (string_bytes ns) at s)
named_at strings (n ∷ ns) at (suc k) d small s l =
    let b = length-append n (0 ∷ []) in
    let later = HasBytesAt-after strings (string n) (string_bytes ns) at (length n + 1) b s in
    let f = later.fits in
    let e : at + (length n + 1) ≡ offset_after_string at n = omega (arith, f, small) in
    named_at strings ns (offset_after_string at n) k d small (subst (λ (i : ℕ). HasBytesAt strings i (string_bytes ns)) e later) (omega (arith, l))

-- ---- the parts of a file's strings

-- the names of a file's versions stand behind those of its entries
versions_are_written : (l : Layout) (f : File) (strings : List ℕ) (at : ℕ) → needs_dynsym l.kind ≡ true → HasStrings l f strings at → HasBytesAt strings (offset_after_entry_names l at f) (string_bytes (version_names l f))
unfolding file_strings
versions_are_written l f strings at needs h =
    let P : Bool → Type 0 = λ b. HasBytesAt strings at (string_bytes (if b then dynstr_prefix_strings l f ++ (entry_names l f ++ version_names l f) else [])) in
    let s = subst P needs h.stand in
    let a = later_strings strings (dynstr_prefix_strings l f) (entry_names l f ++ version_names l f) at s in
    let b = later_strings strings (entry_names l f) (version_names l f) (at + total text_room (dynstr_prefix_strings l f)) a in
    let fits = b.fits in
    let small = h.small in
    let e : at + total text_room (dynstr_prefix_strings l f) + total text_room (entry_names l f) ≡ offset_after_entry_names l at f = omega (arith, fits, small) in
    subst (λ (i : ℕ). HasBytesAt strings i (string_bytes (version_names l f))) e b

lead_stands : (l : Layout) (f : File) (strings : List ℕ) (at : ℕ) → needs_dynsym l.kind ≡ true → HasStrings l f strings at → HasBytesAt strings at (string_bytes (dynstr_prefix_strings l f))
unfolding file_strings
lead_stands l f strings at needs h =
    let P : Bool → Type 0 = λ b. HasBytesAt strings at (string_bytes (if b then dynstr_prefix_strings l f ++ (entry_names l f ++ version_names l f) else [])) in
    let s = subst P needs h.stand in
    let rest = entry_names l f ++ version_names l f in
    HasBytesAt-front strings (string_bytes (dynstr_prefix_strings l f)) (string_bytes rest) at (subst (λ (bs : List ℕ). HasBytesAt strings at bs) (flat_map-append string (dynstr_prefix_strings l f) rest) s)

-- ---- versions that are needed

needed_name : (vs : List NeededVersion) (k : ℕ) (v : NeededVersion) (d : List ℕ) → k < length vs → get_or (needed_names vs) k d ≡ (get_or vs k v).name
needed_name [] k v d l = absurd (omega (arith, l))
needed_name (w ∷ vs) zero v d l = refl
needed_name (w ∷ vs) (suc k) v d l = needed_name vs k v d (omega (arith, l))

length-needed_names : (vs : List NeededVersion) → length (needed_names vs) ≡ length vs
length-needed_names [] = refl
length-needed_names (v ∷ vs) = let e = length-needed_names vs in omega (arith, e)

-- a library is not the last file
not_last : (r : FileRole) → is_library r ≡ true → is_epilogue r ≡ false
not_last file_role.Dynamic h = refl
not_last other h = absurd (cc h)

is_a_library : (b : Bool) (v : Option VersionNeeds) (n : VersionNeeds) → (if b then v else None) ≡ Some n → b ≡ true
is_a_library true v n h = refl
is_a_library false v n h = cc h

library_names : (l : Layout) (f : File) (n : VersionNeeds) → needs_of f ≡ Some n → version_names l f ≡ f.lib_name ∷ needed_names n.versions
library_names l f n h =
    let last = not_last f.role (is_a_library (is_library f.role) f.verneed n h) in
    ap (λ (b : Bool). if b then own_names l.options.soname l.verdefs else need_names f.lib_name (needs_of f)) last
    ∙ ap (λ (v : Option VersionNeeds). need_names f.lib_name v) h

pub needs_named : NeedsAreNamed
needs_named l f n strings at needs has h =
    let small = h.small in
    let start = offset_after_entry_names l at f in
    let s = subst (λ (ns : List (List ℕ)). HasBytesAt strings start (string_bytes ns)) (library_names l f n has) (versions_are_written l f strings at needs h) in
    let own = HasBytesAt-front strings (string f.lib_name) (string_bytes (needed_names n.versions)) start s in
    let later = HasBytesAt-after strings (string f.lib_name) (string_bytes (needed_names n.versions)) start (length f.lib_name + 1) (length-append f.lib_name (0 ∷ [])) s in
    let fits = later.fits in
    let e : start + (length f.lib_name + 1) ≡ offset_after_string start f.lib_name = omega (arith, fits, small) in
    let rest = subst (λ (i : ℕ). HasBytesAt strings i (string_bytes (needed_names n.versions))) e later in
    record {
      bytes = ap (λ (v : Option VersionNeeds). need_at start f.lib_name v) has;
      library = told_stands strings f.lib_name start small own;
      versions = λ k v l.
          let count = length-needed_names n.versions in
          let found = named_at strings (needed_names n.versions) (offset_after_string start f.lib_name) k [] small rest (omega (arith, l, count)) in
          subst (λ (name : List ℕ). HasBytesAt strings (name_at (offsets_from (offset_after_string start f.lib_name) (needed_names n.versions)) k) (string name)) (needed_name n.versions k v [] l) found;
    }

-- ---- versions that the output defines

definition_name : (ds : List VersionDefinition) (k : ℕ) (v : VersionDefinition) (d : List ℕ) → k < length ds → get_or (definition_names ds) k d ≡ (get_or ds k v).name
definition_name [] k v d l = absurd (omega (arith, l))
definition_name (w ∷ ds) zero v d l = refl
definition_name (w ∷ ds) (suc k) v d l = definition_name ds k v d (omega (arith, l))

length-definition_names : (ds : List VersionDefinition) → length (definition_names ds) ≡ length ds
length-definition_names [] = refl
length-definition_names (d ∷ ds) = let e = length-definition_names ds in omega (arith, e)

-- each of these names, from an offset on
defined_at : (strings : List ℕ) (ds : List VersionDefinition) (at k : ℕ) (d : VersionDefinition) → length strings < 2 ^ 32 → HasBytesAt strings at (string_bytes (definition_names ds)) → k < length ds
    → HasBytesAt strings (name_at (offsets_from at (definition_names ds)) k) (string (get_or ds k d).name)
defined_at strings ds at k d small s l =
    let count = length-definition_names ds in
    subst (λ (name : List ℕ). HasBytesAt strings (name_at (offsets_from at (definition_names ds)) k) (string name)) (definition_name ds k d [] l)
    (named_at strings (definition_names ds) at k [] small s (omega (arith, l, count)))

-- the output's own name stands behind the search path
own_stands : (strings : List ℕ) (number at : ℕ) (path : Option (List ℕ)) (own : List ℕ) (rest : List (List ℕ)) → length strings < 2 ^ 32 → HasBytesAt strings at (string_bytes (texts_of (named number path) ++ own ∷ rest)) → HasBytesAt strings (offset_after_search_path at path) (string own)
own_stands strings number at None own rest small s = HasBytesAt-front strings (string own) (string_bytes rest) at s
own_stands strings number at (Some text) own rest small s =
    let b = length-append text (0 ∷ []) in
    let later = HasBytesAt-after strings (string text) (string_bytes (own ∷ rest)) at (length text + 1) b s in
    let f = later.fits in
    let e : at + (length text + 1) ≡ offset_after_string at text = omega (arith, f, small) in
    HasBytesAt-front strings (string own) (string_bytes rest) (offset_after_string at text) (subst (λ (i : ℕ). HasBytesAt strings i (string_bytes (own ∷ rest))) e later)

-- the strings of the last file that no symbol has begin with the search path and the output's own name
option_texts : (o : Options) (own : List ℕ) → o.soname ≡ Some own → texts_of (option_strings o) ≡ texts_of (named (path_number o) o.rpath) ++ own ∷ texts_of (auxiliary_strings o.auxiliary)
option_texts o own h = by (o.rpath)
  where
    by : (path : Option (List ℕ)) → texts_of (named (path_number o) path ++ (named dt_soname o.soname ++ auxiliary_strings o.auxiliary)) ≡ texts_of (named (path_number o) path) ++ own ∷ texts_of (auxiliary_strings o.auxiliary)
    by None = rw h refl
    by (Some p) = rw h refl

last_leads : (l : Layout) (f : File) → is_epilogue f.role ≡ true → dynstr_prefix_strings l f ≡ dynamic_strings l
last_leads l f h = rw (last_role f.role h) refl

last_strings : (l : Layout) (f : File) (own : List ℕ) → needs_dynsym l.kind ≡ true → is_epilogue f.role ≡ true → l.options.soname ≡ Some own
    → dynstr_prefix_strings l f ≡ texts_of (named (path_number l.options) l.options.rpath) ++ own ∷ texts_of (auxiliary_strings l.options.auxiliary)
unfolding named_strings
last_strings l f own needs h soname = last_leads l f h ∙ rw needs (option_texts l.options own soname)

-- the names of the versions, by the output's own name
names_stand : (l : Layout) (strings : List ℕ) (at start : ℕ) (soname : Option (List ℕ)) (ds : List VersionDefinition) → length strings < 2 ^ 32
    → HasBytesAt strings start (string_bytes (own_names soname ds)) → ((own : List ℕ) → soname ≡ Some own → HasBytesAt strings at (string own))
    → (k : ℕ) (d : VersionDefinition) → k < length ds → HasBytesAt strings (name_at (with_soname_offset at soname (offsets_from start (own_names soname ds))) k) (string (version_name soname k (get_or ds k d).name))
names_stand l strings at start None ds small s own k d h = defined_at strings ds start k d small s h
names_stand l strings at start (Some soname) [] small s own k d h = absurd (omega (arith, h))
names_stand l strings at start (Some soname) (e ∷ ds) small s own zero d h = told_stands strings soname at small (own soname refl)
names_stand l strings at start (Some soname) (e ∷ ds) small s own (suc k) d h =
    let z : (suc k == 0) ≡ false = ne_eqb (suc k) 0 (λ i. omega (arith, i)) in
    rw z (defined_at strings ds start k d small s (omega (arith, h)))

pub definitions_named : DefinitionsAreNamed
unfolding definition_offsets
definitions_named l f strings needs last h =
    let small = h.small in
    let at = string_start l in
    let names : version_names l f ≡ own_names l.options.soname l.verdefs = rw last refl in
    let rest = subst (λ (ns : List (List ℕ)). HasBytesAt strings (offset_after_entry_names l at f) (string_bytes ns)) names (versions_are_written l f strings at needs h) in
    let own : (text : List ℕ) → l.options.soname ≡ Some text → HasBytesAt strings (offset_after_search_path at l.options.rpath) (string text) = λ text e.
    own_stands strings (path_number l.options) at l.options.rpath text (texts_of (auxiliary_strings l.options.auxiliary)) small
    (subst (λ (ns : List (List ℕ)). HasBytesAt strings at (string_bytes ns)) (last_strings l f text needs last e) (lead_stands l f strings at needs h)) in
    λ k d few.
    subst (λ (ns : List (List ℕ)). HasBytesAt strings (name_at (with_soname_offset (offset_after_search_path at l.options.rpath) l.options.soname (offsets_from (offset_after_entry_names l at f) ns)) k) (string (version_name l.options.soname k (get_or l.verdefs k d).name))) (sym names)
    (names_stand l strings (offset_after_search_path at l.options.rpath) (offset_after_entry_names l at f) l.options.soname l.verdefs small rest own k d few)
