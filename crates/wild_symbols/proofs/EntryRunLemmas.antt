-- Runs of calls with names and fields.
use Rattle.std.proofs.Common.{◌≡◌, ℕ, ◌+◌, ◌%◌, ◌<◌, ◌^◌, Bool, true, List, [], ◌∷◌, ◌++◌, length, map, refl, sym, ap, ◌∙◌, arith, subst}
use Rattle.std.proofs.lemmas.List.{append_assoc, append-nil, length-append}
use Rattle.wild_records.specs.declared.symtab_entry.SymtabEntry.{SymtabEntry}
use Rattle.wild_needs.specs.DynamicStrings.{offset_after_string}
use Rattle.wild_table_formats.specs.Strings.{Strings, string, offset_of, with_string}
use Rattle.wild_table_formats.specs.DynamicEntries.{NamedFields, entry_at, entries_at}
use Rattle.wild_symbols.specs.Runs.{after_call_if, after_calls, call_of, HasEntries, RunsAreEntries}
use Rattle.wild_symbols.specs.declared.writer.SymbolTableWriter.{SymbolTableWriter}
use Rattle.wild_symbols.proofs.RoomLemmas.{has_room-first, room_next}

no_entries : (w : SymbolTableWriter) → HasEntries [] w w
unfolding entries_at
no_entries w = record { symbols = sym (append-nil w.globals.symbols); strings = refl }

-- where the next string stands behind a name
pub offset_behind : (name : List ℕ) (t : Strings) → offset_of t + (length name + 1) < 2 ^ 32 → offset_of (with_string name t) ≡ offset_after_string (offset_of t) name
offset_behind name t h =
    let a = length-append t.bytes (string name) in
    let b = length-append name (0 ∷ []) in
    omega (arith, a, b, h)

-- the entry of a call, whose name stands below 2^32
entry_low : (n : NamedFields) (at : ℕ) (es : List SymtabEntry) → at < 2 ^ 32
    → (record { name = at; info = n.fields.attributes.info; other = n.fields.attributes.other; section = n.fields.section; value = n.fields.value; size = n.fields.attributes.size } ∷ es) ≡ entry_at at n.fields ∷ es
entry_low n at es h =
    let e : at % 2 ^ 32 ≡ at = omega (arith, h) in
    rw e refl

more_entries : (n : NamedFields) (ns : List NamedFields) (w v : SymbolTableWriter) → offset_of w.strtab + (length n.name + 1) < 2 ^ 32 → HasEntries ns (after_call_if true (call_of n) w) v → HasEntries (n ∷ ns) w v
unfolding entries_at
more_entries n ns w v h further =
    let at = offset_of w.strtab in
    let o = offset_behind n.name w.strtab h in
    let low : at < 2 ^ 32 = omega (arith, h) in
    record {
      symbols =
          further.symbols
          ∙ append_assoc w.globals.symbols (_ ∷ []) (entries_at (offset_of (with_string n.name w.strtab)) ns)
          ∙ ap (λ (es : List SymtabEntry). w.globals.symbols ++ es) (entry_low n at (entries_at (offset_of (with_string n.name w.strtab)) ns) low ∙ ap (λ (x : ℕ). entry_at at n.fields ∷ entries_at x ns) o);
      strings = further.strings;
    }

pub run_entries : RunsAreEntries
run_entries [] w h s = no_entries w
run_entries (n ∷ ns) w h s =
    let c = call_of n in
    let cs = map call_of ns in
    let r = has_room-first c cs w h in
    let names = h.names in
    let low : offset_of w.strtab + (length n.name + 1) < 2 ^ 32 = omega (arith, names, s) in
    let P : Bool → Type 0 = λ b. HasEntries (n ∷ ns) w (after_calls cs (after_call_if b c w)) in
    subst P (sym r) (more_entries n ns w (after_calls cs (after_call_if true c w)) low (run_entries ns (after_call_if true c w) (room_next c cs w h) s))
