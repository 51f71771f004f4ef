-- Laws of the entries of a group in the dynamic symbol table.
use Rattle.std.proofs.Common.{◌≡◌, ℕ, ◌+◌, ◌<◌, ◌≤◌, true, false, if◌then◌else◌, List, [], ◌∷◌, ◌++◌, length, drop, get_or, map, refl, sym, ap, ◌∙◌}
use Rattle.std.specs.List.{filter}
use Rattle.std.proofs.lemmas.List.{append-nil, append_assoc, drop_more, drop_all}
use Rattle.std.proofs.lemmas.List.Concat.{flat_map-append}
use Rattle.wild_words.specs.Record.{spell}
use Rattle.wild_records.specs.SymtabEntry.{symtab_entry_fields}
use Rattle.wild_records.specs.declared.symtab_entry.SymtabEntry.{SymtabEntry}
use Rattle.wild_types.specs.declared.symbol.Symbol.{Symbol}
use Rattle.wild_types.specs.declared.layout.DynamicSymbol.{DynamicSymbol}
use Rattle.wild_types.specs.declared.file.FileRole.{FileRole}
use Rattle.wild_types.specs.declared.file.File.{File}
use Rattle.wild_types.specs.declared.layout.Layout.{Layout}
use Rattle.wild_needs.specs.DynamicStrings.{offset_after_string, next_dynstr}
use Rattle.wild_needs.specs.DynamicSymbols.{is_undefined_entry}
use Rattle.wild_table_formats.specs.declared.symbols.SymbolFields.{SymbolFields}
use Rattle.wild_table_formats.specs.Symbols.{symbol_bytes}
use Rattle.wild_table_formats.specs.DynamicFields.{undefined_fields}
use Rattle.wild_table_formats.specs.DynamicEntries.{NamedFields, undefined, listed, entry_at, entries_at, file_symbols, null_entries, offset_after_lead, file_entries, entries_from}

symbols-append : (es fs : List SymtabEntry) → symbol_bytes (es ++ fs) ≡ symbol_bytes es ++ symbol_bytes fs
symbols-append es fs = flat_map-append (λ (e : SymtabEntry). spell (symtab_entry_fields e)) es fs

-- one more entry; what is to come is the rest
pub symbol_next : (now next whole : List ℕ) (at behind : ℕ) (n : NamedFields) (rest : List NamedFields) → now ++ symbol_bytes (entries_at at (n ∷ rest)) ≡ whole → next ≡ now ++ symbol_bytes (entry_at at n.fields ∷ []) → behind ≡ offset_after_string at n.name → next ++ symbol_bytes (entries_at behind rest) ≡ whole
unfolding entries_at
symbol_next now next whole at behind n rest before step is =
    ap (λ (k : ℕ). next ++ symbol_bytes (entries_at k rest)) is
    ∙ ap (λ (bs : List ℕ). bs ++ symbol_bytes (entries_at (offset_after_string at n.name) rest)) step
    ∙ append_assoc now (symbol_bytes (entry_at at n.fields ∷ [])) (symbol_bytes (entries_at (offset_after_string at n.name) rest))
    ∙ ap (λ (bs : List ℕ). now ++ bs) (sym (symbols-append (entry_at at n.fields ∷ []) (entries_at (offset_after_string at n.name) rest)))
    ∙ before

-- no entry is to come
symbols_end : (now whole : List ℕ) (at : ℕ) (ns : List NamedFields) → ns ≡ [] → now ++ symbol_bytes (entries_at at ns) ≡ whole → now ≡ whole
unfolding entries_at
symbols_end now whole at ns none all = sym (append-nil now) ∙ ap (λ (ms : List NamedFields). now ++ symbol_bytes (entries_at at ms)) (sym none) ∙ all

drop_at : {X : Type 0} (xs : List X) (i : ℕ) (x : X) → i < length xs → x ≡ get_or xs i x → drop i xs ≡ x ∷ drop (i + 1) xs
drop_at {X} xs i x h read = drop_more xs i x h ∙ ap (λ (y : X). y ∷ drop (i + 1) xs) (sym read)

-- ---- listed symbols

pub listed_next : (l : Layout) (ds : List DynamicSymbol) (i : ℕ) (d : DynamicSymbol) (now next whole : List ℕ) (at behind : ℕ) (fields : SymbolFields) → i < length ds → d ≡ get_or ds i d → fields ≡ (listed l d).fields
    → now ++ symbol_bytes (entries_at at (map (listed l) (drop i ds))) ≡ whole → next ≡ now ++ symbol_bytes (entry_at at fields ∷ []) → behind ≡ offset_after_string at d.name → next ++ symbol_bytes (entries_at behind (map (listed l) (drop (i + 1) ds))) ≡ whole
listed_next l ds i d now next whole at behind fields h read said before step is =
    let cut : map (listed l) (drop i ds) ≡ listed l d ∷ map (listed l) (drop (i + 1) ds) = ap (λ (xs : List DynamicSymbol). map (listed l) xs) (drop_at ds i d h read) in
    symbol_next now next whole at behind (listed l d) (map (listed l) (drop (i + 1) ds)) (ap (λ (ns : List NamedFields). now ++ symbol_bytes (entries_at at ns)) (sym cut) ∙ before) (step ∙ ap (λ (f : SymbolFields). now ++ symbol_bytes (entry_at at f ∷ [])) said) is

pub listed_end : (l : Layout) (ds : List DynamicSymbol) (i at : ℕ) (now whole : List ℕ) → length ds ≤ i → now ++ symbol_bytes (entries_at at (map (listed l) (drop i ds))) ≡ whole → now ≡ whole
listed_end l ds i at now whole h all = symbols_end now whole at (map (listed l) (drop i ds)) (ap (λ (xs : List DynamicSymbol). map (listed l) xs) (drop_all i ds h)) all

-- ---- symbols that other modules define

-- those of a list
abbrev pub undefined_of : FileRole → List Symbol → List NamedFields
undefined_of role ss = map (undefined role) (filter (is_undefined_entry role) ss)

undefined_cut : (role : FileRole) (ss : List Symbol) (i : ℕ) (s : Symbol) → i < length ss → s ≡ get_or ss i s
    → undefined_of role (drop i ss) ≡ map (undefined role) (if is_undefined_entry role s then s ∷ filter (is_undefined_entry role) (drop (i + 1) ss) else filter (is_undefined_entry role) (drop (i + 1) ss))
undefined_cut role ss i s h read = ap (undefined_of role) (drop_at ss i s h read)

pub undefined_next : (role : FileRole) (ss : List Symbol) (i : ℕ) (s : Symbol) (now next whole : List ℕ) (at behind : ℕ) (fields : SymbolFields) → i < length ss → s ≡ get_or ss i s → is_undefined_entry role s ≡ true → fields ≡ undefined_fields role s
    → now ++ symbol_bytes (entries_at at (undefined_of role (drop i ss))) ≡ whole → next ≡ now ++ symbol_bytes (entry_at at fields ∷ []) → behind ≡ offset_after_string at s.name → next ++ symbol_bytes (entries_at behind (undefined_of role (drop (i + 1) ss))) ≡ whole
undefined_next role ss i s now next whole at behind fields h read kept said before step is =
    let cut : undefined_of role (drop i ss) ≡ undefined role s ∷ undefined_of role (drop (i + 1) ss) = undefined_cut role ss i s h read ∙ rw kept refl in
    symbol_next now next whole at behind (undefined role s) (undefined_of role (drop (i + 1) ss)) (ap (λ (ns : List NamedFields). now ++ symbol_bytes (entries_at at ns)) (sym cut) ∙ before) (step ∙ ap (λ (f : SymbolFields). now ++ symbol_bytes (entry_at at f ∷ [])) said) is

pub undefined_skipped : (role : FileRole) (ss : List Symbol) (i : ℕ) (s : Symbol) (now next whole : List ℕ) (at behind : ℕ) → i < length ss → s ≡ get_or ss i s → is_undefined_entry role s ≡ false
    → now ++ symbol_bytes (entries_at at (undefined_of role (drop i ss))) ≡ whole → next ≡ now → behind ≡ at → next ++ symbol_bytes (entries_at behind (undefined_of role (drop (i + 1) ss))) ≡ whole
undefined_skipped role ss i s now next whole at behind h read left before same is =
    let cut : undefined_of role (drop i ss) ≡ undefined_of role (drop (i + 1) ss) = undefined_cut role ss i s h read ∙ rw left refl in
    ap (λ (k : ℕ). next ++ symbol_bytes (entries_at k (undefined_of role (drop (i + 1) ss)))) is
    ∙ ap (λ (bs : List ℕ). bs ++ symbol_bytes (entries_at at (undefined_of role (drop (i + 1) ss)))) same
    ∙ ap (λ (ns : List NamedFields). now ++ symbol_bytes (entries_at at ns)) (sym cut) ∙ before

pub undefined_end : (role : FileRole) (ss : List Symbol) (i at : ℕ) (now whole : List ℕ) → length ss ≤ i → now ++ symbol_bytes (entries_at at (undefined_of role (drop i ss))) ≡ whole → now ≡ whole
undefined_end role ss i at now whole h all = symbols_end now whole at (undefined_of role (drop i ss)) (ap (undefined_of role) (drop_all i ss h)) all

-- ---- files

pub file_joined : (l : Layout) (f : File) (at : ℕ) (old now next : List ℕ) → now ≡ old ++ symbol_bytes (null_entries f) → next ≡ now ++ symbol_bytes (entries_at (offset_after_lead l at f) (file_symbols l f)) → next ≡ old ++ symbol_bytes (file_entries l at f)
file_joined l f at old now next a b =
    b ∙ ap (λ (bs : List ℕ). bs ++ symbol_bytes (entries_at (offset_after_lead l at f) (file_symbols l f))) a
    ∙ append_assoc old (symbol_bytes (null_entries f)) (symbol_bytes (entries_at (offset_after_lead l at f) (file_symbols l f)))
    ∙ ap (λ (bs : List ℕ). old ++ bs) (sym (symbols-append (null_entries f) (entries_at (offset_after_lead l at f) (file_symbols l f))))

-- one more file; what is to come is the rest
pub file_next : (l : Layout) (now next whole : List ℕ) (at behind : ℕ) (f : File) (rest : List File) → now ++ symbol_bytes (entries_from l at (f ∷ rest)) ≡ whole → next ≡ now ++ symbol_bytes (file_entries l at f) → behind ≡ next_dynstr l at f → next ++ symbol_bytes (entries_from l behind rest) ≡ whole
file_next l now next whole at behind f rest before step is =
    ap (λ (k : ℕ). next ++ symbol_bytes (entries_from l k rest)) is
    ∙ ap (λ (bs : List ℕ). bs ++ symbol_bytes (entries_from l (next_dynstr l at f) rest)) step
    ∙ append_assoc now (symbol_bytes (file_entries l at f)) (symbol_bytes (entries_from l (next_dynstr l at f) rest))
    ∙ ap (λ (bs : List ℕ). now ++ bs) (sym (symbols-append (file_entries l at f) (entries_from l (next_dynstr l at f) rest)))
    ∙ before
