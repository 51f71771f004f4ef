-- Where the entries of one side of `.symtab` stand, and their names.
use Rattle.std.proofs.Common.{◌≡◌, ℕ, zero, suc, ◌+◌, ◌*◌, ◌%◌, ◌<◌, ◌≤◌, ◌^◌, Bool, true, false, cond, if◌then◌else◌, List, [], ◌∷◌, ◌++◌, length, map, get_or, refl, sym, ap, ◌∙◌, arith, subst}
use Rattle.std.specs.Prelude.{All, Option, Some, None, option_to_list}
use Rattle.std.specs.List.{filter}
use Rattle.std.proofs.lemmas.List.{length-append}
use Rattle.wild_words.specs.Words.{HasBytesAt}
use Rattle.wild_words.specs.Record.{spell}
use Rattle.wild_words.proofs.OverlayLemmas.{HasBytesAt-inner}
use Rattle.wild_words.proofs.RecordLemmas.{HasBytesAt-left, HasBytesAt-right, HasBytesAt-whole}
use Rattle.wild_records.specs.declared.symtab_entry.SymtabEntry.{SymtabEntry}
use Rattle.wild_records.specs.SymtabEntry.{symtab_entry_fields, symtab_entry_at, SymtabEntryFits, SymtabEntryIsRead}
use Rattle.wild_needs.specs.DynamicStrings.{offset_after_string}
use Rattle.wild_table_formats.specs.Strings.{string, string_bytes}
use Rattle.wild_table_formats.specs.Symbols.{symbol_bytes}
use Rattle.wild_table_formats.specs.DynamicEntries.{entry_at}
use Rattle.wild_table_formats.specs.TableEntries.{NamedEntry, name_at, offset_after_name, is_side, side_entries}
use Rattle.wild_table_formats.specs.TableLaws.{names_of, NameIsAt, EntryIsAt, SideEntriesAreAtOffsets, NamedEntryFits, IsEntryOf, SidesAreRead}
use Rattle.wild_table_formats.proofs.SymbolLemmas.{HasBytesAt-symbol}
use Rattle.wild_table_formats.proofs.SymtabLemmas.{length-side_entries}

-- the entry is that of the symbol, and the symbol's name stands where it tells
record Tells (strings : List ℕ) (n : NamedEntry) (e : SymtabEntry) : Type 0 where
  at : ℕ
  small : at < 2 ^ 32
  is : e ≡ entry_at at n.fields.fields
  name : NameIsAt strings at n.name

-- the names behind the first one
names_behind : (strings : List ℕ) (at : ℕ) (name : Option (List ℕ)) (ss : List (List ℕ)) → at + length (string_bytes (option_to_list name ++ ss)) ≤ 2 ^ 32 → HasBytesAt strings at (string_bytes (option_to_list name ++ ss))
    → HasBytesAt strings (offset_after_name at name) (string_bytes ss)
names_behind strings at None ss small s = s
names_behind strings at (Some name) ss small s =
    let a = length-append (string name) (string_bytes ss) in
    let b = length-append name (0 ∷ []) in
    let is : at + (length (string name) + 0) ≡ offset_after_string at name = omega (arith, a, b, small) in
    subst (λ (m : ℕ). HasBytesAt strings m (string_bytes ss)) is
    (HasBytesAt-inner strings (string_bytes (name ∷ ss)) (string_bytes ss) at (length (string name) + 0) s
    (HasBytesAt-right (string name) (string_bytes ss) (string_bytes ss) 0 (HasBytesAt-whole (string_bytes ss))))

-- and their end
short_behind : (at : ℕ) (name : Option (List ℕ)) (ss : List (List ℕ)) → at + length (string_bytes (option_to_list name ++ ss)) ≤ 2 ^ 32 → offset_after_name at name + length (string_bytes ss) ≤ 2 ^ 32
short_behind at None ss small = small
short_behind at (Some name) ss small =
    let a = length-append (string name) (string_bytes ss) in
    let b = length-append name (0 ∷ []) in
    omega (arith, a, b, small)

-- the first name
first_low : (at : ℕ) (name : Option (List ℕ)) (ss : List (List ℕ)) → at + length (string_bytes (option_to_list name ++ ss)) ≤ 2 ^ 32 → name_at at name < 2 ^ 32
first_low at None ss small = omega arith
first_low at (Some name) ss small =
    let a = length-append (string name) (string_bytes ss) in
    let b = length-append name (0 ∷ []) in
    omega (arith, a, b, small)

first_told : (strings : List ℕ) (at : ℕ) (name : Option (List ℕ)) (ss : List (List ℕ)) → HasBytesAt strings at (string_bytes (option_to_list name ++ ss)) → NameIsAt strings (name_at at name) name
first_told strings at None ss s = refl
first_told strings at (Some name) ss s =
    let z : at + 0 ≡ at = omega arith in
    subst (λ (m : ℕ). HasBytesAt strings m (string name)) z (HasBytesAt-inner strings (string_bytes (name ∷ ss)) (string name) at 0 s (HasBytesAt-left (string name) (string_bytes ss)))

-- the first symbol
first_tells : (strings : List ℕ) (at : ℕ) (n : NamedEntry) (ns : List NamedEntry) → at + length (string_bytes (names_of (n ∷ ns))) ≤ 2 ^ 32 → HasBytesAt strings at (string_bytes (names_of (n ∷ ns)))
    → Tells strings n (entry_at (name_at at n.name) n.fields.fields)
first_tells strings at n ns small s = record { at = name_at at n.name; small = first_low at n.name (names_of ns) small; is = refl; name = first_told strings at n.name (names_of ns) s }

-- symbol k, where the first is of the side or not
tells_by : (strings : List ℕ) (b : Bool) (n : NamedEntry) (here : SymtabEntry) (ns : List NamedEntry) (es : List SymtabEntry) (k : ℕ) (d : NamedEntry) (e : SymtabEntry) → Tells strings n here
    → ((j : ℕ) → j < length ns → Tells strings (get_or ns j d) (get_or es j e)) → k < length (cond b (n ∷ ns) ns) → Tells strings (get_or (cond b (n ∷ ns) ns) k d) (get_or ((if b then here ∷ [] else []) ++ es) k e)
tells_by strings true n here ns es zero d e first rest l = first
tells_by strings true n here ns es (suc k) d e first rest l = rest k (omega (arith, l))
tells_by strings false n here ns es k d e first rest l = rest k l

side_tells : (strings : List ℕ) (local : Bool) (at : ℕ) (ns : List NamedEntry) (k : ℕ) (d : NamedEntry) (e : SymtabEntry) → at + length (string_bytes (names_of ns)) ≤ 2 ^ 32 → HasBytesAt strings at (string_bytes (names_of ns))
    → k < length (filter (is_side local) ns) → Tells strings (get_or (filter (is_side local) ns) k d) (get_or (side_entries local at ns) k e)
unfolding side_entries
side_tells strings local at [] k d e small s l = absurd (omega (arith, l))
side_tells strings local at (n ∷ ns) k d e small s l =
    tells_by strings (is_side local n) n (entry_at (name_at at n.name) n.fields.fields) (filter (is_side local) ns) (side_entries local (offset_after_name at n.name) ns) k d e (first_tells strings at n ns small s)
    (λ j m. side_tells strings local (offset_after_name at n.name) ns j d e (short_behind at n.name (names_of ns) small) (names_behind strings at n.name (names_of ns) small s) m) l

-- ---- laws

pub side_stands : SideEntriesAreAtOffsets
side_stands local at ns table from strings k d small st ss l =
    let none = entry_at 0 d.fields.fields in
    let es = side_entries local at ns in
    let count = length-side_entries local at ns in
    let t = side_tells strings local at ns k d none small ss l in
    let here = HasBytesAt-inner table (symbol_bytes es) (spell (symtab_entry_fields (get_or es k none))) from (24 * k) st (HasBytesAt-symbol es k none (omega (arith, l, count))) in
    record { at = t.at; small = t.small; entry = subst (λ (e : SymtabEntry). HasBytesAt table (from + 24 * k) (spell (symtab_entry_fields e))) t.is here; name = t.name }

-- a member of a filtered list is one of the list
kept : {X : Type 0} (P : X → Type 0) (b : Bool) (x : X) (xs : List X) → P x → All P xs → All P (cond b (x ∷ xs) xs)
kept P true x xs p a zero d l = p
kept P true x xs p a (suc k) d l = a k d (omega (arith, l))
kept P false x xs p a k d l = a k d l

fits_filtered : (local : Bool) (ns : List NamedEntry) → All NamedEntryFits ns → All NamedEntryFits (filter (is_side local) ns)
fits_filtered local [] a = a
fits_filtered local (n ∷ ns) a = kept NamedEntryFits (is_side local n) n (filter (is_side local) ns) (a 0 n (omega arith)) (fits_filtered local ns (λ k d l. a (suc k) d (omega (arith, l))))

entry_fits : (at : ℕ) (n : NamedEntry) → NamedEntryFits n → SymtabEntryFits (entry_at at n.fields.fields)
entry_fits at n h = record { name = omega arith; info = h.info; other = h.other; section = h.section; value = h.value; size = h.size }

is_read : (strings : List ℕ) (n : NamedEntry) (at : ℕ) (e : SymtabEntry) → at < 2 ^ 32 → NameIsAt strings at n.name → e ≡ entry_at at n.fields.fields → IsEntryOf strings n e
is_read strings n at e small s is =
    let low : at % 2 ^ 32 ≡ at = omega (arith, small) in
    record {
      name = subst (λ (m : ℕ). NameIsAt strings m n.name) (sym (ap (λ (x : SymtabEntry). x.name) is ∙ low)) s;
      info = ap (λ (x : SymtabEntry). x.info) is;
      other = ap (λ (x : SymtabEntry). x.other) is;
      section = ap (λ (x : SymtabEntry). x.section) is;
      value = ap (λ (x : SymtabEntry). x.value) is;
      size = ap (λ (x : SymtabEntry). x.size) is;
    }

pub side_read : SymtabEntryIsRead → SidesAreRead
side_read read local at ns table from strings k d fits small st ss l =
    let n = get_or (filter (is_side local) ns) k d in
    let t = side_stands local at ns table from strings k d small st ss l in
    is_read strings n t.at (symtab_entry_at table (from + 24 * k)) t.small t.name (read table (from + 24 * k) (entry_at t.at n.fields.fields) (entry_fits t.at n (fits_filtered local ns fits k d l)) t.entry)
