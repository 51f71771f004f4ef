-- Laws of whole runs of a writer.
use Rattle.std.proofs.Common.{◌≡◌, ℕ, zero, suc, ◌+◌, ◌-◌, ◌*◌, ◌<◌, ◌≤◌, ◌^◌, Bool, true, false, if◌then◌else◌, List, [], ◌∷◌, ◌++◌, length, take, get_or, Result, Ok, Err, refl, sym, ap, ◌∙◌, arith, subst}
use Rattle.std.specs.Prelude.{All, Option, Some, None, option_to_list}
use Rattle.std.proofs.Math.Seq.{take-append_seam}
use Rattle.std.proofs.lemmas.Bool.{ltb-false}
use Rattle.std.proofs.lemmas.List.{append_assoc, append-nil, length-append, get_or_append_left, get_or-append_right}
use Rattle.wild_words.specs.Words.{HasBytesAt}
use Rattle.wild_words.specs.Record.{spell}
use Rattle.wild_words.proofs.OverlayLemmas.{HasBytesAt-inner}
use Rattle.wild_words.proofs.RecordLemmas.{HasBytesAt-left, HasBytesAt-right}
use Rattle.wild_records.specs.declared.symtab_entry.SymtabEntry.{SymtabEntry}
use Rattle.wild_records.specs.SymtabEntry.{symtab_entry_fields, symtab_entry_at, SymtabEntryFits, SymtabEntryIsRead}
use Rattle.wild_types.specs.declared.fault.Error.{Error}
use Rattle.wild_table_formats.specs.Strings.{Strings, string, offset_of, with_strings}
use Rattle.wild_table_formats.specs.Symbols.{symbol_bytes}
use Rattle.wild_symbols.specs.Tables.{entry_with_name, list_of, with_fields}
use Rattle.wild_symbols.specs.TableRoom.{first_fault, room_for_name}
use Rattle.wild_table_formats.specs.TableEntries.{NamedEntry, name_at}
use Rattle.wild_table_formats.specs.TableLaws.{NamedEntryFits, NameIsAt, IsEntryOf}
use Rattle.wild_symbols.specs.Runs.{is_ok, has_room, name_room, after_call_if, after_call, after_calls, is_in_list, successful_calls_if, successful_calls, RunsCount, RunsKeepEarlierContent}
use Rattle.wild_table_formats.specs.declared.symbols.TableFields.{TableFields}
use Rattle.wild_symbols.specs.declared.writer.SymbolTableWriter.{SymbolTableWriter}
use Rattle.wild_table_formats.proofs.SymbolLemmas.{HasBytesAt-symbol}

-- ---- one call

-- the symbol that a call gives
abbrev entry_of : NamedEntry → SymbolTableWriter → SymtabEntry
entry_of c w = entry_with_name (name_at (offset_of w.strtab) c.name) c.fields.fields

pub symbols_here : (local l : Bool) (name : Option (List ℕ)) (t : TableFields) (w : SymbolTableWriter) → is_in_list local l ≡ true
    → (list_of local (with_fields l name t w)).symbols ≡ (list_of local w).symbols ++ entry_with_name (name_at (offset_of w.strtab) name) t.fields ∷ []
symbols_here true true name t w h = refl
symbols_here true false name t w h = cc
symbols_here false true name t w h = cc
symbols_here false false name t w h = refl

pub symbols_other : (local l : Bool) (name : Option (List ℕ)) (t : TableFields) (w : SymbolTableWriter) → is_in_list local l ≡ false
    → (list_of local (with_fields l name t w)).symbols ≡ (list_of local w).symbols
symbols_other true true name t w h = cc
symbols_other true false name t w h = refl
symbols_other false true name t w h = refl
symbols_other false false name t w h = cc

pub strtab-with_symbol : (l : Bool) (name : Option (List ℕ)) (t : TableFields) (w : SymbolTableWriter) → (with_fields l name t w).strtab ≡ with_strings (option_to_list name) w.strtab
strtab-with_symbol true name t w = refl
strtab-with_symbol false name t w = refl

-- the bytes that a name adds
abbrev name_bytes : Option (List ℕ) → List ℕ
name_bytes None = []
name_bytes (Some name) = string name

pub bytes-named : (name : Option (List ℕ)) (t : Strings) → (with_strings (option_to_list name) t).bytes ≡ t.bytes ++ name_bytes name
bytes-named None t = sym (append-nil t.bytes)
bytes-named (Some name) t = refl

pub length-named : (name : Option (List ℕ)) (t : Strings) → length (with_strings (option_to_list name) t).bytes ≡ length t.bytes + name_room name
length-named None t = omega arith
length-named (Some name) t =
    let n = length-append t.bytes (string name) in
    let m = length-append name (0 ∷ []) in
    omega (arith, n, m)

pub start-named : (name : Option (List ℕ)) (t : Strings) → (with_strings (option_to_list name) t).start ≡ t.start
start-named None t = refl
start-named (Some name) t = refl

pub room-named : (name : Option (List ℕ)) (t : Strings) → (with_strings (option_to_list name) t).room ≡ t.room
room-named None t = refl
room-named (Some name) t = refl

-- a call changes neither where the strings begin nor their room
pub start-with_symbol : (l : Bool) (name : Option (List ℕ)) (t : TableFields) (w : SymbolTableWriter) → (with_fields l name t w).strtab.start ≡ w.strtab.start
start-with_symbol l name t w = ap (λ (x : Strings). x.start) (strtab-with_symbol l name t w) ∙ start-named name w.strtab

pub room-with_symbol : (l : Bool) (name : Option (List ℕ)) (t : TableFields) (w : SymbolTableWriter) → (with_fields l name t w).strtab.room ≡ w.strtab.room
room-with_symbol l name t w = ap (λ (x : Strings). x.room) (strtab-with_symbol l name t w) ∙ room-named name w.strtab

pub low_start : (c : NamedEntry) (w : SymbolTableWriter) → w.strtab.start + w.strtab.room < 2 ^ 32 → (after_call_if true c w).strtab.start + (after_call_if true c w).strtab.room < 2 ^ 32
low_start c w h =
    let s = start-with_symbol c.local c.name c.fields w in
    let r = room-with_symbol c.local c.name c.fields w in
    omega (arith, s, r, h)

-- the name ends within the share
no_less : (r : Result (Unit {0}) Error) (short : Bool) (e : Error) (n : ℕ) → is_ok (first_fault r (if short then Err e else Ok n)) ≡ true → short ≡ false
no_less (Ok t) true e n h = cc
no_less (Ok t) false e n h = refl
no_less (Err f) true e n h = cc
no_less (Err f) false e n h = cc

name_low : (name : Option (List ℕ)) (r : Result (Unit {0}) Error) (t : Strings) → is_ok (first_fault r (room_for_name name t)) ≡ true → t.start + t.room < 2 ^ 32 → name_at (offset_of t) name < 2 ^ 32
name_low None r t h low = omega arith
name_low (Some name) r t h low =
    let fits = ltb-false t.room (length t.bytes + (length name + 1)) (no_less r _ _ _ h) in
    omega (arith, fits, low)

-- ---- growth

symbols_more : (local l : Bool) (name : Option (List ℕ)) (t : TableFields) (w : SymbolTableWriter)
    → (more : List SymtabEntry) × ((list_of local (with_fields l name t w)).symbols ≡ (list_of local w).symbols ++ more)
symbols_more true true name t w = (entry_with_name (name_at (offset_of w.strtab) name) t.fields ∷ [], refl)
symbols_more true false name t w = ([], sym (append-nil w.locals.symbols))
symbols_more false true name t w = ([], sym (append-nil w.globals.symbols))
symbols_more false false name t w = (entry_with_name (name_at (offset_of w.strtab) name) t.fields ∷ [], refl)

symbols_more_if : (b local : Bool) (c : NamedEntry) (w : SymbolTableWriter) → (more : List SymtabEntry) × ((list_of local (after_call_if b c w)).symbols ≡ (list_of local w).symbols ++ more)
symbols_more_if true local c w = symbols_more local c.local c.name c.fields w
symbols_more_if false local c w = ([], sym (append-nil (list_of local w).symbols))

-- a run adds symbols behind those that were there
pub symbols_after : (cs : List NamedEntry) (w : SymbolTableWriter) (local : Bool) → (more : List SymtabEntry) × ((list_of local (after_calls cs w)).symbols ≡ (list_of local w).symbols ++ more)
symbols_after [] w local = ([], sym (append-nil (list_of local w).symbols))
symbols_after (c ∷ cs) w local =
    let p = symbols_more_if (has_room c w) local c w in
    let q = symbols_after cs (after_call c w) local in
    (p.0 ++ q.0, q.1 ∙ ap (λ (x : List SymtabEntry). x ++ q.0) p.1 ∙ append_assoc (list_of local w).symbols p.0 q.0)

strings_more_if : (b : Bool) (c : NamedEntry) (w : SymbolTableWriter) → (more : List ℕ) × ((after_call_if b c w).strtab.bytes ≡ w.strtab.bytes ++ more)
strings_more_if true c w = (name_bytes c.name, ap (λ x. x.bytes) (strtab-with_symbol c.local c.name c.fields w) ∙ bytes-named c.name w.strtab)
strings_more_if false c w = ([], sym (append-nil w.strtab.bytes))

-- a run adds strings behind those that were there
pub strings_after : (cs : List NamedEntry) (w : SymbolTableWriter) → (more : List ℕ) × ((after_calls cs w).strtab.bytes ≡ w.strtab.bytes ++ more)
strings_after [] w = ([], sym (append-nil w.strtab.bytes))
strings_after (c ∷ cs) w =
    let p = strings_more_if (has_room c w) c w in
    let q = strings_after cs (after_call c w) in
    (p.0 ++ q.0, q.1 ∙ ap (λ (x : List ℕ). x ++ q.0) p.1 ∙ append_assoc w.strtab.bytes p.0 q.0)

pub stand_behind : RunsKeepEarlierContent
stand_behind cs w local =
    let p = symbols_after cs w local in
    let q = strings_after cs w in (
      ap (take (length (list_of local w).symbols)) p.1 ∙ take-append_seam (list_of local w).symbols p.0,
      ap (take (length w.strtab.bytes)) q.1 ∙ take-append_seam w.strtab.bytes q.0,
    )

-- ---- reading

first_of_one : (e : SymtabEntry) (i : ℕ) → i ≡ 0 → get_or (e ∷ []) i e ≡ e
first_of_one e i z = rw z refl

-- a symbol behind others is read behind them
read_behind : SymtabEntryIsRead → (table : List ℕ) (es more : List SymtabEntry) (e : SymtabEntry) (all : List SymtabEntry) (at : ℕ) → all ≡ (es ++ e ∷ []) ++ more → SymtabEntryFits e → HasBytesAt table at (symbol_bytes all)
    → symtab_entry_at table (at + 24 * length es) ≡ e
read_behind read table es more e all at is fits st =
    let n = length-append (es ++ e ∷ []) more in
    let m = length-append es (e ∷ []) in
    let size = ap length is in
    let l : length es < length all = omega (arith, n, m, size) in
    let found : get_or all (length es) e ≡ e =
    ap (λ (x : List SymtabEntry). get_or x (length es) e) is
    ∙ get_or_append_left (es ++ e ∷ []) more e (length es) (omega (arith, m))
    ∙ get_or-append_right es (e ∷ []) (length es) (length es) e refl (omega arith)
    ∙ first_of_one e (length es - length es) (omega arith) in
    let inner : HasBytesAt (symbol_bytes all) (24 * length es) (spell (symtab_entry_fields e)) =
    subst (λ (x : SymtabEntry). HasBytesAt (symbol_bytes all) (24 * length es) (spell (symtab_entry_fields x))) found (HasBytesAt-symbol all (length es) e l) in
    read table (at + 24 * length es) e fits (HasBytesAt-inner table (symbol_bytes all) (spell (symtab_entry_fields e)) at (24 * length es) st inner)

-- a string behind others stands behind them
stands_after : (strings before more s all : List ℕ) (start : ℕ) → all ≡ (before ++ string s) ++ more → HasBytesAt strings start all → HasBytesAt strings (start + length before) (string s)
stands_after strings before more s all start is st =
    let e : all ≡ before ++ (string s ++ more) = is ∙ append_assoc before (string s) more in
    let inner = HasBytesAt-right before (string s ++ more) (string s) 0 (HasBytesAt-left (string s) more) in
    let z : length before + 0 ≡ length before = omega arith in
    HasBytesAt-inner strings (before ++ (string s ++ more)) (string s) start (length before)
    (subst (λ (bs : List ℕ). HasBytesAt strings start bs) e st)
    (subst (λ (n : ℕ). HasBytesAt (before ++ (string s ++ more)) n (string s)) z inner)

-- the name of a call, where it has one, stands where that is told
name_told : (name : Option (List ℕ)) (strings before more all : List ℕ) (start : ℕ) → all ≡ (before ++ name_bytes name) ++ more → HasBytesAt strings start all → NameIsAt strings (name_at (start + length before) name) name
name_told None strings before more all start is st = refl
name_told (Some name) strings before more all start is st = stands_after strings before more name all start is st

-- what the law says of one place
abbrev IsReadAfter : List NamedEntry → Bool → ℕ → SymbolTableWriter → List NamedEntry → ℕ → Type 0
IsReadAfter cs local n w calls k =
    (table strings : List ℕ) (at : ℕ) (d : NamedEntry) → All NamedEntryFits cs → w.strtab.start + w.strtab.room < 2 ^ 32
    → HasBytesAt table at (symbol_bytes (list_of local (after_calls cs w)).symbols) → HasBytesAt strings w.strtab.start (after_calls cs w).strtab.bytes → k < length calls
    → IsEntryOf strings (get_or calls k d) (symtab_entry_at table (at + 24 * (n + k)))

-- the symbol of a call that was taken first
first_read : SymtabEntryIsRead → (c : NamedEntry) (cs : List NamedEntry) (w : SymbolTableWriter) (local : Bool) → has_room c w ≡ true → is_in_list local c.local ≡ true → NamedEntryFits c → w.strtab.start + w.strtab.room < 2 ^ 32
    → (table strings : List ℕ) (at : ℕ) → HasBytesAt table at (symbol_bytes (list_of local (after_calls cs (after_call_if true c w))).symbols) → HasBytesAt strings w.strtab.start (after_calls cs (after_call_if true c w)).strtab.bytes
    → IsEntryOf strings c (symtab_entry_at table (at + 24 * length (list_of local w).symbols))
first_read read c cs w local room here fits short table strings at st ss =
    let m = symbols_after cs (after_call_if true c w) local in
    let is = m.1 ∙ ap (λ (x : List SymtabEntry). x ++ m.0) (symbols_here local c.local c.name c.fields w here) in
    let q = strings_after cs (after_call_if true c w) in
    let js = q.1 ∙ ap (λ (x : List ℕ). x ++ q.0) (ap (λ x. x.bytes) (strtab-with_symbol c.local c.name c.fields w) ∙ bytes-named c.name w.strtab) in
    let n = name_low c.name _ w.strtab room short in
    let e = read_behind read table (list_of local w).symbols m.0 (entry_of c w) _ at is (record { name = n; info = fits.info; other = fits.other; section = fits.section; value = fits.value; size = fits.size }) st in
    subst (IsEntryOf strings c) (sym e) (record { name = name_told c.name strings w.strtab.bytes q.0 _ w.strtab.start js ss; section = refl; value = refl; info = refl; other = refl; size = refl })

-- a call that gave no symbol of the list
other_read : (cs : List NamedEntry) (local : Bool) (c : NamedEntry) (w : SymbolTableWriter) (k : ℕ) → is_in_list local c.local ≡ false
    → ((j : ℕ) → IsReadAfter cs local (length (list_of local (after_call_if true c w)).symbols) (after_call_if true c w) (successful_calls local cs (after_call_if true c w)) j)
    → (table strings : List ℕ) (at : ℕ) (d : NamedEntry) → All NamedEntryFits cs → w.strtab.start + w.strtab.room < 2 ^ 32
    → HasBytesAt table at (symbol_bytes (list_of local (after_calls cs (after_call_if true c w))).symbols) → HasBytesAt strings w.strtab.start (after_calls cs (after_call_if true c w)).strtab.bytes → k < length (successful_calls local cs (after_call_if true c w))
    → IsEntryOf strings (get_or (successful_calls local cs (after_call_if true c w)) k d) (symtab_entry_at table (at + 24 * (length (list_of local w).symbols + k)))
other_read cs local c w k other further table strings at d fits short st ss l =
    let e = symbols_other local c.local c.name c.fields w other in
    let t = start-with_symbol c.local c.name c.fields w in
    let short-on = low_start c w short in
    let ss-on : HasBytesAt strings (after_call_if true c w).strtab.start (after_calls cs (after_call_if true c w)).strtab.bytes = subst (λ (x : ℕ). HasBytesAt strings x (after_calls cs (after_call_if true c w)).strtab.bytes) (sym t) ss in
    subst (λ (x : List SymtabEntry). IsEntryOf strings (get_or (successful_calls local cs (after_call_if true c w)) k d) (symtab_entry_at table (at + 24 * (length x + k)))) e
    (further k table strings at d fits short-on st ss-on l)

-- a call behind one that gave a symbol
next_read : (cs : List NamedEntry) (local : Bool) (c : NamedEntry) (w : SymbolTableWriter) (k : ℕ) → is_in_list local c.local ≡ true
    → ((j : ℕ) → IsReadAfter cs local (length (list_of local (after_call_if true c w)).symbols) (after_call_if true c w) (successful_calls local cs (after_call_if true c w)) j)
    → (table strings : List ℕ) (at : ℕ) (d : NamedEntry) → All NamedEntryFits cs → w.strtab.start + w.strtab.room < 2 ^ 32
    → HasBytesAt table at (symbol_bytes (list_of local (after_calls cs (after_call_if true c w))).symbols) → HasBytesAt strings w.strtab.start (after_calls cs (after_call_if true c w)).strtab.bytes → k < length (successful_calls local cs (after_call_if true c w))
    → IsEntryOf strings (get_or (successful_calls local cs (after_call_if true c w)) k d) (symtab_entry_at table (at + 24 * (length (list_of local w).symbols + suc k)))
next_read cs local c w k here further table strings at d fits short st ss l =
    let e = symbols_here local c.local c.name c.fields w here in
    let t = start-with_symbol c.local c.name c.fields w in
    let short-on = low_start c w short in
    let ss-on : HasBytesAt strings (after_call_if true c w).strtab.start (after_calls cs (after_call_if true c w)).strtab.bytes = subst (λ (x : ℕ). HasBytesAt strings x (after_calls cs (after_call_if true c w)).strtab.bytes) (sym t) ss in
    let n = length-append (list_of local w).symbols (entry_of c w ∷ []) in
    let size = ap length e in
    let place : at + 24 * (length (list_of local (after_call_if true c w)).symbols + k) ≡ at + 24 * (length (list_of local w).symbols + suc k) = omega (arith, n, size) in
    subst (λ (x : ℕ). IsEntryOf strings (get_or (successful_calls local cs (after_call_if true c w)) k d) (symtab_entry_at table x)) place
    (further k table strings at d fits short-on st ss-on l)

-- one call of a run, by whether it was taken, and whether its symbol is one of the list
read_next : SymtabEntryIsRead → (cs : List NamedEntry) (local : Bool) (c : NamedEntry) (w : SymbolTableWriter) (k : ℕ) (room here : Bool) → has_room c w ≡ room → is_in_list local c.local ≡ here → NamedEntryFits c
    → ((j : ℕ) → IsReadAfter cs local (length (list_of local (after_call_if room c w)).symbols) (after_call_if room c w) (successful_calls local cs (after_call_if room c w)) j)
    → (table strings : List ℕ) (at : ℕ) (d : NamedEntry) → All NamedEntryFits cs → w.strtab.start + w.strtab.room < 2 ^ 32
    → HasBytesAt table at (symbol_bytes (list_of local (after_calls cs (after_call_if room c w))).symbols) → HasBytesAt strings w.strtab.start (after_calls cs (after_call_if room c w)).strtab.bytes
    → k < length (successful_calls_if room here c (successful_calls local cs (after_call_if room c w)))
    → IsEntryOf strings (get_or (successful_calls_if room here c (successful_calls local cs (after_call_if room c w))) k d) (symtab_entry_at table (at + 24 * (length (list_of local w).symbols + k)))
read_next read cs local c w k false here r h fit further table strings at d fits short st ss l = further k table strings at d fits short st ss l
read_next read cs local c w k true false r h fit further table strings at d fits short st ss l = other_read cs local c w k h further table strings at d fits short st ss l
read_next read cs local c w zero true true r h fit further table strings at d fits short st ss l =
    let z : at + 24 * (length (list_of local w).symbols + 0) ≡ at + 24 * length (list_of local w).symbols = omega arith in
    subst (λ (x : ℕ). IsEntryOf strings c (symtab_entry_at table x)) (sym z) (first_read read c cs w local r h fit short table strings at st ss)
read_next read cs local c w (suc k) true true r h fit further table strings at d fits short st ss l = next_read cs local c w k h further table strings at d fits short st ss (omega (arith, l))

rest_fits : (c : NamedEntry) (cs : List NamedEntry) → All NamedEntryFits (c ∷ cs) → All NamedEntryFits cs
rest_fits c cs a i d l = a (suc i) d (omega (arith, l))

pub run_read : SymtabEntryIsRead → (cs : List NamedEntry) (w : SymbolTableWriter) (local : Bool) (k : ℕ) → IsReadAfter cs local (length (list_of local w).symbols) w (successful_calls local cs w) k
run_read read [] w local k table strings at d fits short st ss l = absurd (omega (arith, l))
run_read read (c ∷ cs) w local k table strings at d fits short st ss l =
    read_next read cs local c w k (has_room c w) (is_in_list local c.local) refl refl (fits 0 c (omega arith)) (λ j. run_read read cs (after_call c w) local j) table strings at d (rest_fits c cs fits) short st ss l

-- ---- counting

count_next : (cs : List NamedEntry) (local : Bool) (c : NamedEntry) (w : SymbolTableWriter) (room here : Bool) → is_in_list local c.local ≡ here
    → length (list_of local (after_calls cs (after_call_if room c w))).symbols ≡ length (list_of local (after_call_if room c w)).symbols + length (successful_calls local cs (after_call_if room c w))
    → length (list_of local (after_calls cs (after_call_if room c w))).symbols ≡ length (list_of local w).symbols + length (successful_calls_if room here c (successful_calls local cs (after_call_if room c w)))
count_next cs local c w false here h further = further
count_next cs local c w true false h further =
    let e = ap length (symbols_other local c.local c.name c.fields w h) in
    omega (arith, e, further)
count_next cs local c w true true h further =
    let e = ap length (symbols_here local c.local c.name c.fields w h) in
    let n = length-append (list_of local w).symbols (entry_of c w ∷ []) in
    omega (arith, e, n, further)

pub run_counted : RunsCount
run_counted [] w local = omega arith
run_counted (c ∷ cs) w local = count_next cs local c w (has_room c w) (is_in_list local c.local) refl (run_counted cs (after_call c w) local)
