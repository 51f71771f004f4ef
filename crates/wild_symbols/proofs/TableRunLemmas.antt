-- Runs of calls with the entries of `.symtab`.
use Rattle.std.proofs.Common.{◌≡◌, ℕ, ◌+◌, ◌%◌, ◌<◌, ◌^◌, Bool, true, false, cond, if◌then◌else◌, List, [], ◌∷◌, ◌++◌, length, map, refl, sym, ap, ◌∙◌, arith, subst}
use Rattle.std.specs.Prelude.{Option, Some, None, option_to_list}
use Rattle.std.specs.List.{filter, flat_map}
use Rattle.std.proofs.lemmas.List.{append_assoc, append-nil}
use Rattle.wild_words.specs.Words.{word}
use Rattle.wild_records.specs.declared.symtab_entry.SymtabEntry.{SymtabEntry}
use Rattle.wild_symbols.specs.Indexes.{index_of}
use Rattle.wild_table_formats.specs.Strings.{Strings, offset_of, with_strings}
use Rattle.wild_symbols.specs.Tables.{entry_with_name, list_of, indexes_of}
use Rattle.wild_table_formats.specs.DynamicEntries.{entry_at}
use Rattle.wild_table_formats.specs.TableEntries.{NamedEntry, name_at, offset_after_name, is_side, side_entries, long_indexes, index_bytes}
use Rattle.wild_table_formats.specs.TableLaws.{names_of}
use Rattle.wild_symbols.specs.Runs.{name_room, after_call_if, after_calls, is_in_list, successful_calls, HasRoomFor, HasTable, RunsAreTables}
use Rattle.wild_table_formats.specs.declared.symbols.SymbolFields.{SymbolFields}
use Rattle.wild_symbols.specs.declared.writer.SymbolTableWriter.{SymbolTableWriter}
use Rattle.wild_symbols.proofs.EntryRunLemmas.{offset_behind}
use Rattle.wild_symbols.proofs.RoomLemmas.{has_room-first, room_next, run_indexes, run_whole}
use Rattle.wild_symbols.proofs.RunLemmas.{symbols_here, symbols_other, strtab-with_symbol, low_start}

same_side : (local : Bool) (n : NamedEntry) → is_in_list local n.local ≡ is_side local n
same_side true n = refl
same_side false n = refl

-- an entry whose name stands below 2^32
entry_with_name-low : (at : ℕ) (f : SymbolFields) → at < 2 ^ 32 → entry_with_name at f ≡ entry_at at f
entry_with_name-low at f h =
    let e : at % 2 ^ 32 ≡ at = omega (arith, h) in
    rw e refl

-- the entry of one call
one_side : (local : Bool) (n : NamedEntry) (w : SymbolTableWriter) (b : Bool) → is_in_list local n.local ≡ b → name_at (offset_of w.strtab) n.name < 2 ^ 32
    → (list_of local (after_call_if true n w)).symbols ≡ (list_of local w).symbols ++ (if b then entry_at (name_at (offset_of w.strtab) n.name) n.fields.fields ∷ [] else [])
one_side local n w true h l =
    symbols_here local n.local n.name n.fields w h ∙ ap (λ (e : SymtabEntry). (list_of local w).symbols ++ e ∷ []) (entry_with_name-low (name_at (offset_of w.strtab) n.name) n.fields.fields l)
one_side local n w false h l = symbols_other local n.local n.name n.fields w h ∙ sym (append-nil (list_of local w).symbols)

-- where a name stands, and where the next string does behind it
name_low : (name : Option (List ℕ)) (t : Strings) → offset_of t + name_room name < 2 ^ 32 → name_at (offset_of t) name < 2 ^ 32
name_low None t h = omega arith
name_low (Some name) t h = omega (arith, h)

offset_named : (name : Option (List ℕ)) (t : Strings) → offset_of t + name_room name < 2 ^ 32 → offset_of (with_strings (option_to_list name) t) ≡ offset_after_name (offset_of t) name
offset_named None t h = refl
offset_named (Some name) t h = offset_behind name t h

-- the strings behind a name
strings_behind : (name : Option (List ℕ)) (ss : List (List ℕ)) (t : Strings) → with_strings ss (with_strings (option_to_list name) t) ≡ with_strings (option_to_list name ++ ss) t
strings_behind None ss t = refl
strings_behind (Some name) ss t = refl

side_run : (local : Bool) (ns : List NamedEntry) (w : SymbolTableWriter) → HasRoomFor ns w → w.strtab.start + w.strtab.room < 2 ^ 32
    → (list_of local (after_calls ns w)).symbols ≡ (list_of local w).symbols ++ side_entries local (offset_of w.strtab) ns
unfolding side_entries
side_run local [] w h s = sym (append-nil (list_of local w).symbols)
side_run local (n ∷ ns) w h s =
    let next = after_call_if true n w in
    let names = h.names in
    let low : offset_of w.strtab + name_room n.name < 2 ^ 32 = omega (arith, names, s) in
    let o = ap (λ (x : Strings). offset_of x) (strtab-with_symbol n.local n.name n.fields w) ∙ offset_named n.name w.strtab low in
    ap (λ (b : Bool). (list_of local (after_calls ns (after_call_if b n w))).symbols) (has_room-first n ns w h)
    ∙ side_run local ns next (room_next n ns w h) (low_start n w s)
    ∙ ap (λ (x : ℕ). (list_of local next).symbols ++ side_entries local x ns) o
    ∙ ap (λ (es : List SymtabEntry). es ++ side_entries local (offset_after_name (offset_of w.strtab) n.name) ns) (one_side local n w (is_side local n) (same_side local n) (name_low n.name w.strtab low))
    ∙ append_assoc (list_of local w).symbols (if is_side local n then entry_at (name_at (offset_of w.strtab) n.name) n.fields.fields ∷ [] else []) (side_entries local (offset_after_name (offset_of w.strtab) n.name) ns)

string_run : (ns : List NamedEntry) (w : SymbolTableWriter) → HasRoomFor ns w → (after_calls ns w).strtab ≡ with_strings (names_of ns) w.strtab
string_run [] w h = refl
string_run (n ∷ ns) w h =
    ap (λ (b : Bool). (after_calls ns (after_call_if b n w)).strtab) (has_room-first n ns w h)
    ∙ string_run ns (after_call_if true n w) (room_next n ns w h)
    ∙ ap (with_strings (names_of ns)) (strtab-with_symbol n.local n.name n.fields w)
    ∙ strings_behind n.name (names_of ns) w.strtab

one_index : (b : Bool) (n : NamedEntry) (xs ys : List NamedEntry) → flat_map (λ (c : NamedEntry). index_of true c.fields.long) xs ≡ flat_map (word 4) (map (λ (c : NamedEntry). c.fields.long) ys)
    → flat_map (λ (c : NamedEntry). index_of true c.fields.long) (cond b (n ∷ xs) xs) ≡ flat_map (word 4) (map (λ (c : NamedEntry). c.fields.long) (cond b (n ∷ ys) ys))
one_index true n xs ys e = ap (λ (bs : List ℕ). word 4 n.fields.long ++ bs) e
one_index false n xs ys e = e

index_all : (local : Bool) (ns : List NamedEntry) → flat_map (λ (c : NamedEntry). index_of true c.fields.long) (filter (λ (c : NamedEntry). is_in_list local c.local) ns) ≡ index_bytes (long_indexes local ns)
index_all local [] = refl
index_all true (n ∷ ns) = one_index n.local n (filter (λ (c : NamedEntry). is_in_list true c.local) ns) (filter (is_side true) ns) (index_all true ns)
index_all false (n ∷ ns) = one_index (is_side false n) n (filter (λ (c : NamedEntry). is_in_list false c.local) ns) (filter (is_side false) ns) (index_all false ns)

index_run : (local : Bool) (ns : List NamedEntry) (w : SymbolTableWriter) → HasRoomFor ns w → (indexes_of local w).each ≡ true → (indexes_of local (after_calls ns w)).bytes ≡ (indexes_of local w).bytes ++ index_bytes (long_indexes local ns)
index_run local ns w h each =
    run_indexes ns w local
    ∙ ap (λ (b : Bool). (indexes_of local w).bytes ++ flat_map (λ (c : NamedEntry). index_of b c.fields.long) (successful_calls local ns w)) each
    ∙ ap (λ (cs : List NamedEntry). (indexes_of local w).bytes ++ flat_map (λ (c : NamedEntry). index_of true c.fields.long) cs) (run_whole ns w local h)
    ∙ ap (λ (bs : List ℕ). (indexes_of local w).bytes ++ bs) (index_all local ns)

pub run_tables : RunsAreTables
run_tables ns w h s = record { symbols = λ local. side_run local ns w h s; indexes = λ local each. index_run local ns w h each; strings = string_run ns w h }
