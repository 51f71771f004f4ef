-- The bytes of the dynamic section.
use Rattle.std.proofs.Common.{◌≡◌, ◌^◌, Bool, true, if◌then◌else◌, ℕ, zero, suc, ◌+◌, ◌-◌, ◌*◌, ◌/◌, ◌≤◌, List, [], ◌∷◌, ◌++◌, length, take, drop, get_or, false, ◌<◌, replicate, Some, None, refl, sym, ap, ◌∙◌, arith, subst}
use Rattle.std.specs.Prelude.{All, flat_map}
use Rattle.std.proofs.lemmas.List.{drop_more, drop_all, length-drop, length-take, append_assoc, append-nil, length-append, length-map, length-replicate, replicate-append-replicate}
use Rattle.std.proofs.lemmas.List.Elements.{All-nil, All-cons, All-append}
use Rattle.std.proofs.lemmas.Grind.{flat_map-append}
use Rattle.wild_words.specs.Words.{word, place, HasBytesAt}
use Rattle.wild_words.specs.Record.{spell}
use Rattle.wild_words.proofs.WordLemmas.{front-place}
use Rattle.wild_words.proofs.OverlayLemmas.{length-place}
use Rattle.wild_words.proofs.RecordLemmas.{length-spell, HasBytesAt-left}
use Rattle.wild_records.specs.Dynamic.{dynamic_entry_size, dynamic_entry_fields, DynamicEntryFits}
use Rattle.wild_records.specs.declared.dynamic.DynamicEntry.{DynamicEntry}
use Rattle.wild_records.specs.Abi.Dynamic.{dt_needed, dt_soname, dt_auxiliary}
use Rattle.wild_needs.specs.declared.dynamic.DynamicTag.{DynamicTag}
use Rattle.wild_types.specs.declared.options.Options.{Options}
use Rattle.wild_needs.proofs.DynamicLemmas.{length_dynamic_entries}
use Rattle.wild_types.specs.declared.file.File.{File}
use Rattle.wild_types.specs.declared.file.Group.{Group}
use Rattle.wild_types.specs.declared.layout.Layout.{Layout}
use Rattle.wild_needs.specs.Dynamic.{entry_of, tag_entries, dynamic_entries, dynamic_count}
use Rattle.wild_needs.specs.DynamicStrings.{NamedString, named, path_number, option_strings, named_strings, auxiliary_string, auxiliary_strings, offset_after_string, string_start, string_entries, next_dynstr, needed_of, needed_from, needed_entries}
use Rattle.wild_types.specs.FileRoles.{is_library}
use Rattle.wild_types.specs.Kinds.{needs_dynamic}
use Rattle.wild_table_formats.specs.DynamicSection.{offset_after_strings, entries_bytes, dynamic_bytes, null_entry, dynamic_records, RecordsAt, IsNeeded, NeededAreOfLibraries}

pub length_entry : (d : DynamicEntry) → length (spell (dynamic_entry_fields d)) ≡ 16
unfolding dynamic_entry_fields
length_entry d = length-spell (dynamic_entry_fields d)

pub length_entries : (ds : List DynamicEntry) → length (entries_bytes ds) ≡ 16 * length ds
length_entries [] = refl
length_entries (d ∷ ds) = length-append (spell (dynamic_entry_fields d)) (entries_bytes ds) ∙ (let a = length_entry d in let b = length_entries ds in omega (arith, a, b))

abbrev zeros : ℕ → List ℕ
zeros n = replicate n 0

pub lengths : (l : Layout) (room : ℕ) → dynamic_entry_size * dynamic_count l ≤ room → length (dynamic_bytes l room) ≡ room
lengths l room h =
    let a = length-append (entries_bytes (dynamic_entries l)) (zeros (room - 16 * dynamic_count l)) in
    let b = length_entries (dynamic_entries l) in
    let c = length-replicate {A = ℕ} (room - 16 * dynamic_count l) 0 in
    omega (arith, a, b, c)

null_bytes : spell (dynamic_entry_fields null_entry) ≡ zeros 16
unfolding dynamic_entry_fields word
null_bytes = refl

nulls_bytes : (n : ℕ) → entries_bytes (replicate n null_entry) ≡ zeros (16 * n)
nulls_bytes zero = refl
nulls_bytes (suc n) =
    let e : 16 + 16 * n ≡ 16 * suc n = omega arith in
    ap (λ (x : List ℕ). x ++ entries_bytes (replicate n null_entry)) null_bytes
    ∙ ap (λ (x : List ℕ). zeros 16 ++ x) (nulls_bytes n)
    ∙ replicate-append-replicate {A = ℕ} 16 (16 * n) 0
    ∙ ap zeros e

-- zeros of a room begin with those of whole entries
zeros_cut : (n m : ℕ) → 16 * n ≤ m → zeros (16 * n) ++ zeros (m - 16 * n) ≡ zeros m
zeros_cut n m h = let e : 16 * n + (m - 16 * n) ≡ m = omega arith in replicate-append-replicate {A = ℕ} (16 * n) (m - 16 * n) 0 ∙ ap zeros e

unique_table : (ds : List DynamicEntry) (n m : ℕ) → 16 * n ≤ m → entries_bytes (ds ++ replicate n null_entry) ++ zeros (m - 16 * n) ≡ entries_bytes ds ++ zeros m
unique_table ds n m h =
    ap (λ (x : List ℕ). x ++ zeros (m - 16 * n)) (flat_map-append (λ (d : DynamicEntry). spell (dynamic_entry_fields d)) ds (replicate n null_entry))
    ∙ append_assoc (entries_bytes ds) (entries_bytes (replicate n null_entry)) (zeros (m - 16 * n))
    ∙ ap (λ (x : List ℕ). entries_bytes ds ++ x) (ap (λ (x : List ℕ). x ++ zeros (m - 16 * n)) (nulls_bytes n) ∙ zeros_cut n m h)

records_behind : (l : Layout) (front : List DynamicEntry) (room : ℕ) → dynamic_entry_size * dynamic_count l ≤ room → HasBytesAt (entries_bytes front ++ dynamic_bytes l room) 0 (entries_bytes (front ++ dynamic_records l room))
records_behind l front room h =
    let n : ℕ = room / 16 - dynamic_count l in
    let m : ℕ = room - 16 * dynamic_count l in
    let P : List ℕ → Type 0 = λ xs. HasBytesAt xs 0 (entries_bytes (front ++ dynamic_records l room)) in
    let few : 16 * n ≤ m = omega (arith, h) in
    let j = flat_map-append (λ (d : DynamicEntry). spell (dynamic_entry_fields d)) front (dynamic_records l room) in
    let e : entries_bytes (front ++ dynamic_records l room) ++ zeros (m - 16 * n) ≡ entries_bytes front ++ dynamic_bytes l room =
    ap (λ (x : List ℕ). x ++ zeros (m - 16 * n)) j
    ∙ append_assoc (entries_bytes front) (entries_bytes (dynamic_records l room)) (zeros (m - 16 * n))
    ∙ ap (λ (x : List ℕ). entries_bytes front ++ x) (unique_table (dynamic_entries l) n m few) in
    subst P e (HasBytesAt-left (entries_bytes (front ++ dynamic_records l room)) (zeros (m - 16 * n)))

pub records_at : (l : Layout) (front : List DynamicEntry) (room : ℕ) → dynamic_entry_size * dynamic_count l ≤ room → RecordsAt l front room
records_at l front room h =
    let n : ℕ = room / 16 - dynamic_count l in
    let a = length-append (dynamic_entries l) (replicate n null_entry) in
    let b = length-replicate n null_entry in
    let f = length-append front (dynamic_records l room) in
    record { count = omega (arith, a, b, f, h); stand = records_behind l front room h }

-- ---- entries of libraries

needed_names : (at : ℕ) (f : File) → All IsNeeded (needed_of at f)
needed_names at f = named_if (is_library f.role)
  where
    named_if : (b : Bool) → All IsNeeded (if b then record { tag = dt_needed; value = at } ∷ [] else [])
    named_if true = All-cons IsNeeded (record { tag = dt_needed; value = at }) [] refl (All-nil IsNeeded)
    named_if false = All-nil IsNeeded

from_names : (l : Layout) (at : ℕ) (fs : List File) → All IsNeeded (needed_from l at fs)
from_names l at [] = All-nil IsNeeded
from_names l at (f ∷ fs) = All-append IsNeeded (needed_of at f) (needed_from l (next_dynstr l at f) fs) (needed_names at f) (from_names l (next_dynstr l at f) fs)

entries_name : (l : Layout) (g : Group) → All IsNeeded (needed_entries l g)
unfolding needed_entries
entries_name l g = name_if (needs_dynamic l.kind)
  where
    name_if : (b : Bool) → All IsNeeded (if b then needed_from l g.dynstr_start g.files else [])
    name_if true = from_names l g.dynstr_start g.files
    name_if false = All-nil IsNeeded

all_name : (l : Layout) (gs : List Group) → All IsNeeded (flat_map (needed_entries l) gs)
all_name l [] = All-nil IsNeeded
all_name l (g ∷ gs) = All-append IsNeeded (needed_entries l g) (flat_map (needed_entries l) gs) (entries_name l g) (all_name l gs)

needed_fits : (at : ℕ) (f : File) → at < 2 ^ 64 → All DynamicEntryFits (needed_of at f)
needed_fits at f h = fit_if (is_library f.role)
  where
    fit_if : (b : Bool) → All DynamicEntryFits (if b then record { tag = dt_needed; value = at } ∷ [] else [])
    fit_if true = All-cons DynamicEntryFits (record { tag = dt_needed; value = at }) [] (record { tag = omega arith; value = h }) (All-nil DynamicEntryFits)
    fit_if false = All-nil DynamicEntryFits

from_fit : (l : Layout) (at : ℕ) (fs : List File) → at < 2 ^ 64 → All DynamicEntryFits (needed_from l at fs)
from_fit l at [] h = All-nil DynamicEntryFits
from_fit l at (f ∷ fs) h =
    let next : next_dynstr l at f < 2 ^ 64 = omega arith in
    All-append DynamicEntryFits (needed_of at f) (needed_from l (next_dynstr l at f) fs) (needed_fits at f h) (from_fit l (next_dynstr l at f) fs next)

entries_fit : (l : Layout) (g : Group) → g.dynstr_start < 2 ^ 64 → All DynamicEntryFits (needed_entries l g)
unfolding needed_entries
entries_fit l g h = fit_if (needs_dynamic l.kind)
  where
    fit_if : (b : Bool) → All DynamicEntryFits (if b then needed_from l g.dynstr_start g.files else [])
    fit_if true = from_fit l g.dynstr_start g.files h
    fit_if false = All-nil DynamicEntryFits

all_fit : (l : Layout) (gs : List Group) → All (λ (g : Group). g.dynstr_start < 2 ^ 64) gs → All DynamicEntryFits (flat_map (needed_entries l) gs)
all_fit l [] h = All-nil DynamicEntryFits
all_fit l (g ∷ gs) h =
    let first : g.dynstr_start < 2 ^ 64 = h 0 g (omega arith) in
    let rest : All (λ (x : Group). x.dynstr_start < 2 ^ 64) gs = λ i d k. h (suc i) d (omega (arith, k)) in
    All-append DynamicEntryFits (needed_entries l g) (flat_map (needed_entries l) gs) (entries_fit l g first) (all_fit l gs rest)

pub needed_are : NeededAreOfLibraries
needed_are = record { names = all_name; fit = all_fit }

nulls_fit : (n : ℕ) → All DynamicEntryFits (replicate n null_entry)
nulls_fit zero = All-nil _
nulls_fit (suc n) = All-cons DynamicEntryFits null_entry (replicate n null_entry) (record { tag = omega arith; value = omega arith }) (nulls_fit n)

pub records_fit : (l : Layout) (room : ℕ) → All DynamicEntryFits (dynamic_entries l) → All DynamicEntryFits (dynamic_records l room)
records_fit l room h = All-append DynamicEntryFits (dynamic_entries l) (replicate (room / 16 - dynamic_count l) null_entry) h (nulls_fit (room / 16 - dynamic_count l))

-- ---- entries one behind the other

pub entries_joined : (xs ys : List DynamicEntry) → entries_bytes (xs ++ ys) ≡ entries_bytes xs ++ entries_bytes ys
entries_joined xs ys = flat_map-append (λ (d : DynamicEntry). spell (dynamic_entry_fields d)) xs ys

pub entry_alone : (d : DynamicEntry) → entries_bytes (d ∷ []) ≡ spell (dynamic_entry_fields d)
entry_alone d = append-nil (spell (dynamic_entry_fields d))

-- an entry that is put stands behind what is before it
pub entry_put : (at : ℕ) (d : DynamicEntry) (out : List ℕ) → at + 16 ≤ length out → take (at + 16) (place at (spell (dynamic_entry_fields d)) out) ≡ take at out ++ entries_bytes (d ∷ [])
entry_put at d out h =
    let n = length_entry d in
    front-place at (at + 16) out (spell (dynamic_entry_fields d)) (omega (arith, n)) (omega (arith, h))
    ∙ ap (λ (x : List ℕ). take at out ++ x) (sym (entry_alone d))

pub entry_room : (at : ℕ) (d : DynamicEntry) (out : List ℕ) → at + 16 ≤ length out → length (place at (spell (dynamic_entry_fields d)) out) ≡ length out
entry_room at d out h = let n = length_entry d in length-place at out (spell (dynamic_entry_fields d)) (omega (arith, n, h))

-- ---- entries of strings

pub option_none : (n at : ℕ) (front : List ℕ) → front ++ entries_bytes (string_entries at (named n None)) ≡ front
unfolding string_entries
option_none n at front = append-nil front

pub option_some : (n at : ℕ) (text : List ℕ) → string_entries at (named n (Some text)) ≡ record { tag = n; value = at } ∷ []
unfolding string_entries
option_some n at text = refl

pub strings_end : (at : ℕ) (front : List ℕ) → front ++ entries_bytes (string_entries at (auxiliary_strings [])) ≡ front
unfolding string_entries
strings_end at front = append-nil front

pub string_more : (at : ℕ) (front text : List ℕ) (texts : List (List ℕ))
    → (front ++ entries_bytes (record { tag = dt_auxiliary; value = at } ∷ [])) ++ entries_bytes (string_entries (offset_after_string at text) (auxiliary_strings texts)) ≡ front ++ entries_bytes (string_entries at (auxiliary_strings (text ∷ texts)))
unfolding string_entries
string_more at front text texts =
    let d : DynamicEntry = record { tag = dt_auxiliary; value = at } in
    let B = entries_bytes (string_entries (offset_after_string at text) (auxiliary_strings texts)) in
    append_assoc front (entries_bytes (d ∷ [])) B ∙ ap (λ (x : List ℕ). front ++ (x ++ B)) (entry_alone d)

strings_joined : (at : ℕ) (xs ys : List NamedString) → string_entries at (xs ++ ys) ≡ string_entries at xs ++ string_entries (offset_after_strings at xs) ys
unfolding string_entries
strings_joined at [] ys = refl
strings_joined at (s ∷ xs) ys = ap (λ (r : List DynamicEntry). record { tag = s.number; value = at } ∷ r) (strings_joined (offset_after_string at s.text) xs ys)

-- the bytes of the entries of all strings, kind by kind
pub option_bytes : (at : ℕ) (o : Options) → entries_bytes (string_entries at (option_strings o))
    ≡ (entries_bytes (string_entries at (named (path_number o) o.rpath)) ++ entries_bytes (string_entries (offset_after_strings at (named (path_number o) o.rpath)) (named dt_soname o.soname)))
    ++ entries_bytes (string_entries (offset_after_strings (offset_after_strings at (named (path_number o) o.rpath)) (named dt_soname o.soname)) (auxiliary_strings o.auxiliary))
option_bytes at o =
    let xs = named (path_number o) o.rpath in
    let ys = named dt_soname o.soname in
    let zs = auxiliary_strings o.auxiliary in
    let b = offset_after_strings at xs in
    let c = offset_after_strings b ys in
    ap entries_bytes (strings_joined at xs (ys ++ zs) ∙ ap (λ (r : List DynamicEntry). string_entries at xs ++ r) (strings_joined b ys zs))
    ∙ entries_joined (string_entries at xs) (string_entries b ys ++ string_entries c zs)
    ∙ ap (λ (r : List ℕ). entries_bytes (string_entries at xs) ++ r) (entries_joined (string_entries b ys) (string_entries c zs))
    ∙ sym (append_assoc (entries_bytes (string_entries at xs)) (entries_bytes (string_entries b ys)) (entries_bytes (string_entries c zs)))

pub option_count : (o : Options) → length (option_strings o) ≡ length (named (path_number o) o.rpath) + length (named dt_soname o.soname) + length o.auxiliary
option_count o =
    let a = length-append (named (path_number o) o.rpath) (named dt_soname o.soname ++ auxiliary_strings o.auxiliary) in
    let b = length-append (named dt_soname o.soname) (auxiliary_strings o.auxiliary) in
    let c = length-map o.auxiliary auxiliary_string in
    omega (arith, a, b, c)

-- ---- entries of tags

pub tag_more : (l : Layout) (t : DynamicTag) (ts : List DynamicTag) (front : List ℕ) → (front ++ entries_bytes (entry_of l t)) ++ entries_bytes (flat_map (entry_of l) ts) ≡ front ++ entries_bytes (flat_map (entry_of l) (t ∷ ts))
tag_more l t ts front =
    append_assoc front (entries_bytes (entry_of l t)) (entries_bytes (flat_map (entry_of l) ts))
    ∙ ap (λ (x : List ℕ). front ++ x) (sym (entries_joined (entry_of l t) (flat_map (entry_of l) ts)))

pub tag_count : (l : Layout) (t : DynamicTag) (ts : List DynamicTag) → length (flat_map (entry_of l) (t ∷ ts)) ≡ length (entry_of l t) + length (flat_map (entry_of l) ts)
tag_count l t ts = length-append (entry_of l t) (flat_map (entry_of l) ts)

-- ---- the whole

pub whole_entries : (l : Layout) → entries_bytes (dynamic_entries l) ≡ entries_bytes (string_entries (string_start l) (named_strings l)) ++ entries_bytes (tag_entries l)
unfolding dynamic_entries
whole_entries l = entries_joined (string_entries (string_start l) (named_strings l)) (tag_entries l)

-- ---- steps of the loops

pub no_strings : (l : Layout) → needs_dynamic l.kind ≡ false → [] ≡ entries_bytes (string_entries (string_start l) (named_strings l))
unfolding named_strings string_entries
no_strings l h = rw h refl

pub auxiliary_offset : (xs : List (List ℕ)) (i : ℕ) (x : List ℕ) (at next goal : ℕ) → i < length xs → x ≡ get_or xs i x → next ≡ offset_after_string at x
    → offset_after_strings at (auxiliary_strings (drop i xs)) ≡ goal → offset_after_strings next (auxiliary_strings (drop (i + 1) xs)) ≡ goal
auxiliary_offset xs i x at next goal l e n h =
    let P : List (List ℕ) → Type 0 = λ ys. offset_after_strings at (auxiliary_strings ys) ≡ goal in
    let split : drop i xs ≡ x ∷ drop (i + 1) xs = drop_more xs i x l ∙ ap (λ (y : List ℕ). y ∷ drop (i + 1) xs) (sym e) in
    rw n (subst P split h)

pub auxiliary_written : (xs : List (List ℕ)) (i : ℕ) (x : List ℕ) (at next : ℕ) (front longer goal : List ℕ) → i < length xs → x ≡ get_or xs i x → next ≡ offset_after_string at x
    → longer ≡ front ++ entries_bytes (record { tag = dt_auxiliary; value = at } ∷ [])
    → front ++ entries_bytes (string_entries at (auxiliary_strings (drop i xs))) ≡ goal → longer ++ entries_bytes (string_entries next (auxiliary_strings (drop (i + 1) xs))) ≡ goal
auxiliary_written xs i x at next front longer goal l e n w h =
    let P : List (List ℕ) → Type 0 = λ ys. front ++ entries_bytes (string_entries at (auxiliary_strings ys)) ≡ goal in
    let split : drop i xs ≡ x ∷ drop (i + 1) xs = drop_more xs i x l ∙ ap (λ (y : List ℕ). y ∷ drop (i + 1) xs) (sym e) in
    rw (n, w) (string_more at front x (drop (i + 1) xs) ∙ subst P split h)

pub auxiliary_done : (xs : List (List ℕ)) (i at : ℕ) (front goal : List ℕ) → length xs ≤ i → front ++ entries_bytes (string_entries at (auxiliary_strings (drop i xs))) ≡ goal → front ≡ goal
auxiliary_done xs i at front goal l h =
    let P : List (List ℕ) → Type 0 = λ ys. front ++ entries_bytes (string_entries at (auxiliary_strings ys)) ≡ goal in
    sym (strings_end at front) ∙ subst P (drop_all i xs l) h

pub behind_cut : (xs zs : List ℕ) (at n : ℕ) → n ≡ length xs - at → take at xs ++ (zs ++ drop n (drop at xs)) ≡ take at xs ++ zs
behind_cut xs zs at n e =
    let d = length-drop at xs in
    ap (λ (x : List ℕ). take at xs ++ (zs ++ x)) (drop_all n (drop at xs) (omega (arith, d, e))) ∙ ap (λ (x : List ℕ). take at xs ++ x) (append-nil zs)

pub dynamic_written : (l : Layout) (room strings tags : ℕ) (out unused : List ℕ) → strings ≡ 16 * length (named_strings l) → tags ≡ strings + 16 * length (tag_entries l) → length out ≡ room
    → unused ≡ zeros (length (take (length out - tags) (drop tags out)))
    → take tags out ≡ entries_bytes (string_entries (string_start l) (named_strings l)) ++ entries_bytes (tag_entries l)
    → take tags out ++ (unused ++ drop (length out - tags) (drop tags out)) ≡ dynamic_bytes l room
dynamic_written l room strings tags out unused s t o u w =
    let n : ℕ = length out - tags in
    let c = length_dynamic_entries l in
    let a = length-take n (drop tags out) in
    let d = length-drop tags out in
    let e : length (take n (drop tags out)) ≡ room - 16 * dynamic_count l = omega (arith, s, t, o, c, a, d) in
    behind_cut out unused tags n refl
    ∙ ap (λ (x : List ℕ). take tags out ++ x) (u ∙ ap zeros e)
    ∙ ap (λ (x : List ℕ). x ++ zeros (room - 16 * dynamic_count l)) (w ∙ sym (whole_entries l))
