-- Laws of runs that have room, through a prefix or not.
use Rattle.std.proofs.Common.{◌≡◌, ℕ, ◌+◌, ◌-◌, ◌*◌, ◌≤◌, Bool, true, false, cond, min, if◌then◌else◌, List, [], ◌∷◌, ◌++◌, length, nat_lt, Result, Ok, Err, refl, sym, ap, ◌∙◌, arith, subst}
use Rattle.std.specs.List.{filter, flat_map}
use Rattle.std.specs.Prelude.{Option, Some, None}
use Rattle.std.proofs.lemmas.Bool.{le-ltb, ltb-false}
use Rattle.std.proofs.lemmas.List.{append_assoc, append-nil, length-append}
use Rattle.wild_words.specs.Words.{word}
use Rattle.wild_words.proofs.WordLemmas.{length-word}
use Rattle.wild_records.specs.declared.symtab_entry.SymtabEntry.{SymtabEntry}
use Rattle.wild_types.specs.declared.fault.Error.{Error}
use Rattle.wild_types.specs.Lists.{total}
use Rattle.wild_symbols.specs.Indexes.{Indexes, has_index, index_of, index_room, with_index, indexes_room, kept_indexes, front_indexes, indexes_joined}
use Rattle.wild_table_formats.specs.Strings.{Strings, offset_of, kept_strings, front_strings, strings_joined}
use Rattle.wild_table_formats.specs.Symbols.{Symbols, symbols_used, kept_symbols, front_symbols, symbols_joined}
use Rattle.wild_symbols.specs.Tables.{entry_with_name, list_of, indexes_of, with_fields}
use Rattle.wild_symbols.specs.TableRoom.{first_fault, room_for_name, room_for_prefix, reserved_bytes, prefix_of, with_reserved_room}
use Rattle.wild_table_formats.specs.TableEntries.{NamedEntry, name_at}
use Rattle.wild_symbols.specs.Runs.{has_room, name_room, after_call_if, after_calls, is_in_list, after_call, successful_calls_if, successful_calls, HasRoomFor, RunsKeepIndexes, RunsWithRoomAreWhole, PrefixesAreTheWriters}
use Rattle.wild_symbols.specs.declared.prefix.ReservedBytes.{ReservedBytes}
use Rattle.wild_table_formats.specs.declared.symbols.TableFields.{TableFields}
use Rattle.wild_symbols.specs.declared.writer.SymbolTableWriter.{SymbolTableWriter}
use Rattle.wild_symbols.proofs.RunLemmas.{symbols_here, symbols_other, strtab-with_symbol, length-named, room-with_symbol}

-- ---- one call

is_in_list-same : (l : Bool) → is_in_list l l ≡ true
is_in_list-same true = refl
is_in_list-same false = refl

used_here : (local l : Bool) (name : Option (List ℕ)) (t : TableFields) (w : SymbolTableWriter) → is_in_list local l ≡ true → symbols_used (list_of local (with_fields l name t w)) ≡ symbols_used (list_of local w) + 24
used_here local l name t w h =
    let e = ap length (symbols_here local l name t w h) in
    let n = length-append (list_of local w).symbols (entry_with_name (name_at (offset_of w.strtab) name) t.fields ∷ []) in
    omega (arith, e, n)

used_other : (local l : Bool) (name : Option (List ℕ)) (t : TableFields) (w : SymbolTableWriter) → is_in_list local l ≡ false → symbols_used (list_of local (with_fields l name t w)) ≡ symbols_used (list_of local w)
used_other local l name t w h = ap (λ (es : List SymtabEntry). 24 * length es) (symbols_other local l name t w h)

room_kept : (local l : Bool) (name : Option (List ℕ)) (t : TableFields) (w : SymbolTableWriter) → (list_of local (with_fields l name t w)).room ≡ (list_of local w).room
room_kept true true name t w = refl
room_kept true false name t w = refl
room_kept false true name t w = refl
room_kept false false name t w = refl

-- ---- room for all

-- how many bytes the longer index of a call takes
abbrev need_of : Bool → SymbolTableWriter → NamedEntry → ℕ
need_of local w c = index_room (indexes_of local w).each (c.fields.long)

length-index_of : (each : Bool) (n : ℕ) → length (index_of each n) ≡ index_room each n
length-index_of each n = by_test (has_index each n) n
  where
    by_test : (b : Bool) (n : ℕ) → length (if b then word 4 n else []) ≡ (if b then 4 else 0)
    by_test true n = length-word 4 n
    by_test false n = refl

indexes_here : (local l : Bool) (name : Option (List ℕ)) (t : TableFields) (w : SymbolTableWriter) → is_in_list local l ≡ true → indexes_of local (with_fields l name t w) ≡ with_index t.long (indexes_of local w)
indexes_here true true name t w h = refl
indexes_here true false name t w h = cc
indexes_here false true name t w h = cc
indexes_here false false name t w h = refl

indexes_other : (local l : Bool) (name : Option (List ℕ)) (t : TableFields) (w : SymbolTableWriter) → is_in_list local l ≡ false → indexes_of local (with_fields l name t w) ≡ indexes_of local w
indexes_other true true name t w h = cc
indexes_other true false name t w h = refl
indexes_other false true name t w h = refl
indexes_other false false name t w h = cc

each_kept : (local l : Bool) (name : Option (List ℕ)) (t : TableFields) (w : SymbolTableWriter) → (indexes_of local (with_fields l name t w)).each ≡ (indexes_of local w).each
each_kept true true name t w = refl
each_kept true false name t w = refl
each_kept false true name t w = refl
each_kept false false name t w = refl

index_room_kept : (local l : Bool) (name : Option (List ℕ)) (t : TableFields) (w : SymbolTableWriter) → (indexes_of local (with_fields l name t w)).room ≡ (indexes_of local w).room
index_room_kept true true name t w = refl
index_room_kept true false name t w = refl
index_room_kept false true name t w = refl
index_room_kept false false name t w = refl

index_more : (n k : ℕ) (b : Bool) (f : NamedEntry → ℕ) (xs : List NamedEntry) (c : NamedEntry) → b ≡ true → n + total f (cond b (c ∷ xs) xs) ≤ k → n + f c ≤ k
index_more n k true f xs c e h = omega (arith, h)
index_more n k false f xs c e h = cc

-- where a name has room there is a place for it
name_fits : (name : Option (List ℕ)) (t : Strings) → length t.bytes + name_room name ≤ t.room → (at : ℕ) × (room_for_name name t ≡ Ok at)
name_fits None t h = (0, refl)
name_fits (Some name) t h =
    let b = le-ltb t.room (length t.bytes + (length name + 1)) h in
    (offset_of t, rw b refl)

has_room-fits : (c : NamedEntry) (w : SymbolTableWriter) → symbols_used (list_of c.local w) + 24 ≤ (list_of c.local w).room → length (indexes_of c.local w).bytes + need_of c.local w c ≤ (indexes_of c.local w).room
    → length w.strtab.bytes + name_room c.name ≤ w.strtab.room → has_room c w ≡ true
has_room-fits c w h i k =
    let a = le-ltb (list_of c.local w).room (symbols_used (list_of c.local w) + 24) h in
    let l = le-ltb (indexes_of c.local w).room (length (indexes_of c.local w).bytes + need_of c.local w c) i in
    let b = name_fits c.name w.strtab k in
    rw (a, l, b.1) refl

-- the call's own list has room for its symbol
one_more : (n k : ℕ) (b : Bool) (xs : List NamedEntry) (c : NamedEntry) → b ≡ true → n + 24 * length (cond b (c ∷ xs) xs) ≤ k → n + 24 ≤ k
one_more n k true xs c e h = omega (arith, h)
one_more n k false xs c e h = cc

pub has_room-first : (c : NamedEntry) (cs : List NamedEntry) (w : SymbolTableWriter) → HasRoomFor (c ∷ cs) w → has_room c w ≡ true
has_room-first c cs w h =
    let s = one_more (symbols_used (list_of c.local w)) (list_of c.local w).room (is_in_list c.local c.local) (filter (λ d. is_in_list c.local d.local) cs) c (is_in_list-same c.local) (h.symbols c.local) in
    let i = index_more (length (indexes_of c.local w).bytes) (indexes_of c.local w).room (is_in_list c.local c.local) (need_of c.local w) (filter (λ d. is_in_list c.local d.local) cs) c (is_in_list-same c.local) (h.indexes c.local) in
    let n = h.names in
    has_room-fits c w s i (omega (arith, n))

symbols_next : (local : Bool) (c : NamedEntry) (xs : List NamedEntry) (w : SymbolTableWriter) (b : Bool) → is_in_list local c.local ≡ b → symbols_used (list_of local w) + 24 * length (cond b (c ∷ xs) xs) ≤ (list_of local w).room
    → symbols_used (list_of local (after_call_if true c w)) + 24 * length xs ≤ (list_of local (after_call_if true c w)).room
symbols_next local c xs w true e h =
    let u = used_here local c.local c.name c.fields w e in
    let r = room_kept local c.local c.name c.fields w in
    omega (arith, u, r, h)
symbols_next local c xs w false e h =
    let u = used_other local c.local c.name c.fields w e in
    let r = room_kept local c.local c.name c.fields w in
    omega (arith, u, r, h)

indexes_next : (local : Bool) (c : NamedEntry) (xs : List NamedEntry) (w : SymbolTableWriter) (b : Bool) → is_in_list local c.local ≡ b → length (indexes_of local w).bytes + total (need_of local w) (cond b (c ∷ xs) xs) ≤ (indexes_of local w).room
    → length (indexes_of local (after_call_if true c w)).bytes + total (need_of local (after_call_if true c w)) xs ≤ (indexes_of local (after_call_if true c w)).room
indexes_next local c xs w true e h =
    let u = ap (λ (t : Indexes). length t.bytes) (indexes_here local c.local c.name c.fields w e) in
    let n = length-append (indexes_of local w).bytes (index_of (indexes_of local w).each (c.fields.long)) in
    let m = length-index_of (indexes_of local w).each (c.fields.long) in
    let r = index_room_kept local c.local c.name c.fields w in
    let s = ap (λ (each : Bool). total (λ (d : NamedEntry). index_room each (d.fields.long)) xs) (each_kept local c.local c.name c.fields w) in
    omega (arith, u, n, m, r, s, h)
indexes_next local c xs w false e h =
    let u = ap (λ (t : Indexes). length t.bytes) (indexes_other local c.local c.name c.fields w e) in
    let r = index_room_kept local c.local c.name c.fields w in
    let s = ap (λ (each : Bool). total (λ (d : NamedEntry). index_room each (d.fields.long)) xs) (each_kept local c.local c.name c.fields w) in
    omega (arith, u, r, s, h)

names_next : (c : NamedEntry) (k : ℕ) (w : SymbolTableWriter) → length w.strtab.bytes + (name_room c.name + k) ≤ w.strtab.room → length (after_call_if true c w).strtab.bytes + k ≤ (after_call_if true c w).strtab.room
names_next c k w h =
    let t = strtab-with_symbol c.local c.name c.fields w in
    let b = ap (λ x. length x.bytes) t in
    let r = room-with_symbol c.local c.name c.fields w in
    let n = length-named c.name w.strtab in
    omega (arith, b, r, n, h)

pub room_next : (c : NamedEntry) (cs : List NamedEntry) (w : SymbolTableWriter) → HasRoomFor (c ∷ cs) w → HasRoomFor cs (after_call_if true c w)
room_next c cs w h = record {
  symbols = λ local. symbols_next local c (filter (λ d. is_in_list local d.local) cs) w (is_in_list local c.local) refl (h.symbols local);
  indexes = λ local. indexes_next local c (filter (λ d. is_in_list local d.local) cs) w (is_in_list local c.local) refl (h.indexes local);
  names = names_next c (total (λ d. name_room d.name) cs) w h.names;
}

whole_next : (local : Bool) (c : NamedEntry) (cs : List NamedEntry) (w : SymbolTableWriter) (room here : Bool) (xs : List NamedEntry) → room ≡ true → successful_calls local cs (after_call_if true c w) ≡ xs
    → successful_calls_if room here c (successful_calls local cs (after_call_if room c w)) ≡ cond here (c ∷ xs) xs
whole_next local c cs w false here xs r e = cc
whole_next local c cs w true true xs r e = ap (λ (x : List NamedEntry). c ∷ x) e
whole_next local c cs w true false xs r e = e

pub run_whole : RunsWithRoomAreWhole
run_whole [] w local h = refl
run_whole (c ∷ cs) w local h =
    whole_next local c cs w (has_room c w) (is_in_list local c.local) (filter (λ d. is_in_list local d.local) cs) (has_room-first c cs w h) (run_whole cs (after_call_if true c w) local (room_next c cs w h))

-- ---- longer indexes

index_next : (cs : List NamedEntry) (local : Bool) (c : NamedEntry) (w : SymbolTableWriter) (room here : Bool) → is_in_list local c.local ≡ here
    → (indexes_of local (after_calls cs (after_call_if room c w))).bytes ≡ (indexes_of local (after_call_if room c w)).bytes ++ flat_map (λ (d : NamedEntry). index_of (indexes_of local (after_call_if room c w)).each (d.fields.long)) (successful_calls local cs (after_call_if room c w))
    → (indexes_of local (after_calls cs (after_call_if room c w))).bytes ≡ (indexes_of local w).bytes ++ flat_map (λ (d : NamedEntry). index_of (indexes_of local w).each (d.fields.long)) (successful_calls_if room here c (successful_calls local cs (after_call_if room c w)))
index_next cs local c w false here h further = further
index_next cs local c w true false h further =
    further ∙ ap (λ (t : Indexes). t.bytes ++ flat_map (λ (d : NamedEntry). index_of t.each (d.fields.long)) (successful_calls local cs (after_call_if true c w))) (indexes_other local c.local c.name c.fields w h)
index_next cs local c w true true h further =
    further
    ∙ ap (λ (t : Indexes). t.bytes ++ flat_map (λ (d : NamedEntry). index_of t.each (d.fields.long)) (successful_calls local cs (after_call_if true c w))) (indexes_here local c.local c.name c.fields w h)
    ∙ append_assoc (indexes_of local w).bytes (index_of (indexes_of local w).each (c.fields.long)) (flat_map (λ (d : NamedEntry). index_of (indexes_of local w).each (d.fields.long)) (successful_calls local cs (after_call_if true c w)))

pub run_indexes : RunsKeepIndexes
run_indexes [] w local = sym (append-nil (indexes_of local w).bytes)
run_indexes (c ∷ cs) w local = index_next cs local c w (has_room c w) (is_in_list local c.local) refl (run_indexes cs (after_call c w) local)

-- ---- prefixes

abbrev less_symbols : ℕ → Symbols → Symbols
less_symbols k t = record t { room = t.room - k; reserved = t.reserved + k }

abbrev less_indexes : ℕ → Indexes → Indexes
less_indexes k t = record t { room = t.room - k; reserved = t.reserved + k }

abbrev less_strings : ℕ → Strings → Strings
less_strings k t = record t { room = t.room - k; reserved = t.reserved + k }

-- the writer without so much room
abbrev limited : ReservedBytes → SymbolTableWriter → SymbolTableWriter
limited k w = record {
  locals = less_symbols k.locals w.locals;
  globals = less_symbols k.globals w.globals;
  local_indexes = less_indexes k.local_indexes w.local_indexes;
  global_indexes = less_indexes k.global_indexes w.global_indexes;
  strtab = less_strings k.strings w.strtab;
}

front-less : (n : ℕ) (t : Symbols) → symbols_used t + 24 * n ≤ t.room → front_symbols n t ≡ less_symbols (kept_symbols n t) t
front-less n t h =
    let e : symbols_used t + 24 * n ≡ t.room - (t.room - (symbols_used t + 24 * n)) = omega (arith, h) in
    ap (λ (r : ℕ). record t { room = r; reserved = t.reserved + kept_symbols n t }) e

front_indexes-less : (n : ℕ) (t : Indexes) → length t.bytes + indexes_room n t ≤ t.room → front_indexes n t ≡ less_indexes (kept_indexes n t) t
front_indexes-less n t h =
    let e : length t.bytes + indexes_room n t ≡ t.room - (t.room - (length t.bytes + indexes_room n t)) = omega (arith, h) in
    ap (λ (r : ℕ). record t { room = r; reserved = t.reserved + kept_indexes n t }) e

no_room : (each : Bool) → (if each then 4 * 0 else 0) ≡ 0
no_room true = refl
no_room false = refl

front_strings-less : (m : ℕ) (t : Strings) → length t.bytes + m ≤ t.room → front_strings m t ≡ less_strings (kept_strings m t) t
front_strings-less m t h =
    let e : length t.bytes + m ≡ t.room - (t.room - (length t.bytes + m)) = omega (arith, h) in
    ap (λ (r : ℕ). record t { room = r; reserved = t.reserved + kept_strings m t }) e

-- three tests that find room
record AllFit (a b c : Bool) : Type 0 where
  first : a ≡ false
  second : b ≡ false
  third : c ≡ false

abbrev if_less : Bool → Error → Result (Unit {0}) Error
if_less b e = if b then Err e else Ok tt

all_fit : (a b c : Bool) (e f g : Error) → first_fault (first_fault (if_less a e) (if_less b f)) (if_less c g) ≡ Ok (tt {0}) → AllFit a b c
all_fit true b c e f g h = cc
all_fit false true c e f g h = cc
all_fit false false true e f g h = cc
all_fit false false false e f g h = record { first = refl; second = refl; third = refl }

prefix-limited : (n m : ℕ) (w : SymbolTableWriter) → room_for_prefix n m w ≡ Ok tt → symbols_used w.locals ≤ w.locals.room → length w.local_indexes.bytes ≤ w.local_indexes.room → prefix_of n m w ≡ limited (reserved_bytes n m w) w
prefix-limited n m w h l i =
    let b = all_fit (nat_lt w.globals.room (symbols_used w.globals + 24 * n)) (nat_lt w.global_indexes.room (length w.global_indexes.bytes + indexes_room n w.global_indexes)) (nat_lt w.strtab.room (length w.strtab.bytes + m)) _ _ _ h in
    let g = ltb-false w.globals.room (symbols_used w.globals + 24 * n) b.first in
    let x = ltb-false w.global_indexes.room (length w.global_indexes.bytes + indexes_room n w.global_indexes) b.second in
    let s = ltb-false w.strtab.room (length w.strtab.bytes + m) b.third in
    let z = no_room w.local_indexes.each in
    let e = front-less 0 w.locals (omega (arith, l)) in
    let f = front-less n w.globals g in
    let p = front_indexes-less 0 w.local_indexes (omega (arith, i, z)) in
    let q = front_indexes-less n w.global_indexes x in
    let k = front_strings-less m w.strtab s in
    rw (e, f, p, q, k) refl

limited-with_symbol : (k : ReservedBytes) (l : Bool) (name : Option (List ℕ)) (t : TableFields) (w : SymbolTableWriter) → with_fields l name t (limited k w) ≡ limited k (with_fields l name t w)
limited-with_symbol k true None t w = refl
limited-with_symbol k true (Some name) t w = refl
limited-with_symbol k false None t w = refl
limited-with_symbol k false (Some name) t w = refl

-- a writer has room for what it has room for without a part of it
less_room : (k : ReservedBytes) (cs : List NamedEntry) (w : SymbolTableWriter) → HasRoomFor cs (limited k w) → HasRoomFor cs w
less_room k cs w h = record {
  symbols = λ local. more_symbols local (h.symbols local);
  indexes = λ local. more_indexes local (h.indexes local);
  names = let n = h.names in omega (arith, n);
}
  where
    more_symbols : (local : Bool) → symbols_used (list_of local (limited k w)) + 24 * length (filter (λ d. is_in_list local d.local) cs) ≤ (list_of local (limited k w)).room → symbols_used (list_of local w) + 24 * length (filter (λ d. is_in_list local d.local) cs) ≤ (list_of local w).room
    more_symbols true g = omega (arith, g)
    more_symbols false g = omega (arith, g)

    more_indexes : (local : Bool) → length (indexes_of local (limited k w)).bytes + total (need_of local (limited k w)) (filter (λ d. is_in_list local d.local) cs) ≤ (indexes_of local (limited k w)).room
        → length (indexes_of local w).bytes + total (need_of local w) (filter (λ d. is_in_list local d.local) cs) ≤ (indexes_of local w).room
    more_indexes true g = omega (arith, g)
    more_indexes false g = omega (arith, g)

limited-after_calls : (k : ReservedBytes) (cs : List NamedEntry) (w : SymbolTableWriter) → HasRoomFor cs (limited k w) → after_calls cs (limited k w) ≡ limited k (after_calls cs w)
limited-after_calls k [] w h = refl
limited-after_calls k (c ∷ cs) w h =
    let r = has_room-first c cs (limited k w) h in
    let s = has_room-first c cs w (less_room k (c ∷ cs) w h) in
    let e = limited-with_symbol k c.local c.name c.fields w in
    let next : HasRoomFor cs (limited k (after_call_if true c w)) = subst (HasRoomFor cs) e (room_next c cs (limited k w) h) in
    ap (λ (b : Bool). after_calls cs (after_call_if b c (limited k w))) r
    ∙ ap (after_calls cs) e
    ∙ limited-after_calls k cs (after_call_if true c w) next
    ∙ ap (λ (b : Bool). limited k (after_calls cs (after_call_if b c w))) (sym s)

index_room_if : (b local : Bool) (c : NamedEntry) (w : SymbolTableWriter) → (indexes_of local (after_call_if b c w)).room ≡ (indexes_of local w).room
index_room_if true local c w = index_room_kept local c.local c.name c.fields w
index_room_if false local c w = refl

index_room_after : (cs : List NamedEntry) (w : SymbolTableWriter) (local : Bool) → (indexes_of local (after_calls cs w)).room ≡ (indexes_of local w).room
index_room_after [] w local = refl
index_room_after (c ∷ cs) w local = index_room_after cs (after_call_if (has_room c w) c w) local ∙ index_room_if (has_room c w) local c w

room_if : (b local : Bool) (c : NamedEntry) (w : SymbolTableWriter) → (list_of local (after_call_if b c w)).room ≡ (list_of local w).room
room_if true local c w = room_kept local c.local c.name c.fields w
room_if false local c w = refl

room_after : (cs : List NamedEntry) (w : SymbolTableWriter) (local : Bool) → (list_of local (after_calls cs w)).room ≡ (list_of local w).room
room_after [] w local = refl
room_after (c ∷ cs) w local = room_after cs (after_call_if (has_room c w) c w) local ∙ room_if (has_room c w) local c w

strings_room_if : (b : Bool) (c : NamedEntry) (w : SymbolTableWriter) → (after_call_if b c w).strtab.room ≡ w.strtab.room
strings_room_if true c w = room-with_symbol c.local c.name c.fields w
strings_room_if false c w = refl

strings_room_after : (cs : List NamedEntry) (w : SymbolTableWriter) → (after_calls cs w).strtab.room ≡ w.strtab.room
strings_room_after [] w = refl
strings_room_after (c ∷ cs) w = strings_room_after cs (after_call_if (has_room c w) c w) ∙ strings_room_if (has_room c w) c w

with_reserved_room-less : (k : ℕ) (t : Symbols) → k ≤ t.room → symbols_joined k (less_symbols k t) ≡ t
with_reserved_room-less k t h =
    let e : t.room - k + min k (t.reserved + k) ≡ t.room = omega (arith, h) in
    let f : t.reserved + k - min k (t.reserved + k) ≡ t.reserved = omega arith in
    ap (λ (r : ℕ). record t { room = r; reserved = t.reserved + k - min k (t.reserved + k) }) e ∙ ap (λ (b : ℕ). record t { reserved = b }) f

indexes_joined-less : (k : ℕ) (t : Indexes) → k ≤ t.room → indexes_joined k (less_indexes k t) ≡ t
indexes_joined-less k t h =
    let e : t.room - k + min k (t.reserved + k) ≡ t.room = omega (arith, h) in
    let f : t.reserved + k - min k (t.reserved + k) ≡ t.reserved = omega arith in
    ap (λ (r : ℕ). record t { room = r; reserved = t.reserved + k - min k (t.reserved + k) }) e ∙ ap (λ (b : ℕ). record t { reserved = b }) f

strings_joined-less : (k : ℕ) (t : Strings) → k ≤ t.room → strings_joined k (less_strings k t) ≡ t
strings_joined-less k t h =
    let e : t.room - k + min k (t.reserved + k) ≡ t.room = omega (arith, h) in
    let f : t.reserved + k - min k (t.reserved + k) ≡ t.reserved = omega arith in
    ap (λ (r : ℕ). record t { room = r; reserved = t.reserved + k - min k (t.reserved + k) }) e ∙ ap (λ (b : ℕ). record t { reserved = b }) f

with_reserved_room-limited : (k : ReservedBytes) (w : SymbolTableWriter) → k.locals ≤ w.locals.room → k.globals ≤ w.globals.room → k.local_indexes ≤ w.local_indexes.room → k.global_indexes ≤ w.global_indexes.room → k.strings ≤ w.strtab.room → with_reserved_room k (limited k w) ≡ w
with_reserved_room-limited k w l g x y s =
    let e = with_reserved_room-less k.locals w.locals l in
    let f = with_reserved_room-less k.globals w.globals g in
    let h = strings_joined-less k.strings w.strtab s in
    let p = indexes_joined-less k.local_indexes w.local_indexes x in
    let q = indexes_joined-less k.global_indexes w.global_indexes y in
    rw (e, f, p, q, h) refl

pub prefix_is_the_writers : PrefixesAreTheWriters
prefix_is_the_writers n m cs w ok l i h =
    let p = prefix-limited n m w ok l i in
    let run : HasRoomFor cs (limited (reserved_bytes n m w) w) = subst (HasRoomFor cs) p h in
    let a = room_after cs w true in
    let b = room_after cs w false in
    let x = index_room_after cs w true in
    let y = index_room_after cs w false in
    let c = strings_room_after cs w in
    ap (λ (v : SymbolTableWriter). with_reserved_room (reserved_bytes n m w) (after_calls cs v)) p
    ∙ ap (with_reserved_room (reserved_bytes n m w)) (limited-after_calls (reserved_bytes n m w) cs w run)
    ∙ with_reserved_room-limited (reserved_bytes n m w) (after_calls cs w) (omega (arith, a)) (omega (arith, b)) (omega (arith, x)) (omega (arith, y)) (omega (arith, c))
