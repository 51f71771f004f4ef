-- Laws of walks over what `.symtab` has of symbols.
use Rattle.std.proofs.Common.{◌≡◌, ℕ, ◌+◌, ◌<◌, inl, inr, Bool, true, false, if◌then◌else◌, List, [], ◌∷◌, ◌++◌, length, take, get_or, map, refl, sym, ap, ◌∙◌, subst, Ok, Err}
use Rattle.std.specs.Prelude.{Result, OnOk, option_to_list}
use Rattle.std.specs.List.{flat_map}
use Rattle.std.proofs.lemmas.List.Concat.{flat_map-append}
use Rattle.std.proofs.lemmas.Bool.{cases_Bool}
use Rattle.std.proofs.lemmas.List.{append-nil, append_assoc}
use Rattle.wild_words.proofs.ListLemmas.{flat_map-more}
use Rattle.wild_records.specs.declared.symtab_entry.SymtabEntry.{SymtabEntry}
use Rattle.wild_types.specs.declared.file.File.{File}
use Rattle.wild_types.specs.declared.layout.Layout.{Layout}
use Rattle.wild_types.specs.declared.part.Role.{Role}
use Rattle.wild_types.specs.declared.file.Group.{Group}
use Rattle.wild_needs.specs.TableSymbols.{TableSymbol, is_on_side, file_items, table_strings, has_long}
use Rattle.wild_layout.specs.Content.{indexes_of}
use Rattle.wild_table_formats.specs.Strings.{string, string_bytes}
use Rattle.wild_table_formats.specs.Symbols.{symbol_bytes}
use Rattle.wild_table_formats.specs.DynamicEntries.{entry_at}
use Rattle.wild_table_formats.specs.TableEntries.{NamedEntry, named_entry, null_entry, section_entry, null_entries, name_at, offset_after_name, is_side, side_entries, long_indexes, index_bytes, file_table, group_table, table_entries}
use Rattle.wild_table_formats.specs.TableLaws.{names_of, NamesOfFiles}
use Rattle.wild_contents.specs.Walks.{taken_bytes, sunk, Walks, SymtabState, with_entry, Writes, WritesSection}
use Rattle.wild_needs.specs.declared.table.TablePart.{TablePart}
use Rattle.wild_needs.specs.declared.table.TablePart.TheVariants.{Entries, Long, Strings}
use Rattle.wild_words.specs.Runs.{SinkRun, none, more, stop}

-- ---- steps

pub walks_none : (k : TablePart) (bs : List ℕ) (at : ℕ) → Walks k bs at bs at []
walks_none k bs at = record { on = λ rest. refl }

-- one entry
pub walks_one : (k : TablePart) (from to : List ℕ) (at next : ℕ) (n : NamedEntry) → to ≡ from ++ taken_bytes k at n → next ≡ offset_after_name at n.name → Walks k from at to next (n ∷ [])
unfolding sunk
walks_one k from to at next n step is = record {
  on = λ rest.
      ap (λ (j : ℕ). to ++ sunk k j rest) is
      ∙ ap (λ (bs : List ℕ). bs ++ sunk k (offset_after_name at n.name) rest) step
      ∙ append_assoc from (taken_bytes k at n) (sunk k (offset_after_name at n.name) rest);
}

-- one walk behind another
pub walks_on : (k : TablePart) (a b c : List ℕ) (i j m : ℕ) (xs ys : List NamedEntry) → Walks k a i b j xs → Walks k b j c m ys → Walks k a i c m (xs ++ ys)
walks_on k a b c i j m xs ys one two = record { on = λ rest. two.on rest ∙ one.on (ys ++ rest) ∙ ap (λ (zs : List NamedEntry). a ++ sunk k i zs) (sym (append_assoc xs ys rest)) }

-- one more item of a list
pub walks_more : {X : Type 0} (k : TablePart) (f : X → List NamedEntry) (xs : List X) (t : ℕ) (x : X) (a b c : List ℕ) (i j m : ℕ) → t < length xs → x ≡ get_or xs t x → Walks k a i b j (flat_map f (take t xs)) → Walks k b j c m (f x) → Walks k a i c m (flat_map f (take (t + 1) xs))
walks_more {X} k f xs t x a b c i j m low read one two =
    let P : X → Type 0 = λ y. Walks k b j c m (f y) in
    subst (λ (zs : List NamedEntry). Walks k a i c m zs) (sym (flat_map-more f xs t x low)) (walks_on k a b c i j m (flat_map f (take t xs)) (f (get_or xs t x)) one (subst P read two))

-- what a walk adds
pub walked : (k : TablePart) (from to : List ℕ) (at next : ℕ) (ns : List NamedEntry) → Walks k from at to next ns → to ≡ from ++ sunk k at ns
unfolding sunk
walked k from to at next ns h = sym (append-nil to) ∙ h.on [] ∙ ap (λ (zs : List NamedEntry). from ++ sunk k at zs) (append-nil ns)

-- ---- entries of sections

-- a walk in place
pub record Walked (a b : SymtabState) (ns : List NamedEntry) : Type 0 where
  pub walks : Walks a.part a.bytes a.at b.bytes b.at ns
  pub layout : b.layout ≡ a.layout
  pub file : b.file ≡ a.file
  pub part : b.part ≡ a.part

-- the one entry, or want of memory
pub section_ran : {E : Type 0} (a b : SymtabState) (k : ℕ) (r : Result (Unit {0}) E) → OnOk r (b ≡ with_entry (section_entry k) a) → SinkRun WritesSection (λ c y d i. Unit {0}) a (k ∷ []) r b
section_ran a b k (Ok u) h = more h none
section_ran a b k (Err e) h = stop tt

entry_walked : (n : NamedEntry) (a b c : SymtabState) (ns : List NamedEntry) → b ≡ with_entry n a → Walked b c ns → Walked a c (n ∷ ns)
entry_walked n a b c ns is rest =
    let w = with_entry n a in
    let next = subst (λ (v : SymtabState). Walked v c ns) is rest in
    record {
      walks = walks_on a.part a.bytes w.bytes c.bytes a.at w.at c.at (n ∷ []) ns (walks_one a.part a.bytes w.bytes a.at w.at n refl refl) next.walks;
      layout = next.layout;
      file = next.file;
      part = next.part;
    }

-- what was written of sections, one behind the other
pub sections_walked : {E : Type 0} {refuses : SymtabState → ℕ → E → SymtabState → Type 0} {a b : SymtabState} {ks : List ℕ} {u : Unit {0}} → SinkRun WritesSection refuses a ks (Ok u) b → Walked a b (map section_entry ks)
sections_walked {a = a} none = record { walks = walks_none a.part a.bytes a.at; layout = refl; file = refl; part = refl }
sections_walked {a = a} {b = c} (more {b = b} {x = k} {xs = ks} h t) = entry_walked (section_entry k) a b c (map section_entry ks) h (sections_walked t)

-- the entry of zeros, and those of sections behind it
pub prelude_walked : {E : Type 0} {refuses : SymtabState → ℕ → E → SymtabState → Type 0} {u : Unit {0}} (a b c : SymtabState) (ks : List ℕ) → b ≡ with_entry null_entry a → SinkRun WritesSection refuses b ks (Ok u) c → Walked a c (null_entry ∷ map section_entry ks)
prelude_walked a b c ks is run = entry_walked null_entry a b c (map section_entry ks) is (sections_walked run)

-- they are of the same part of the same file
pub prelude_kept : {E : Type 0} {refuses : SymtabState → ℕ → E → SymtabState → Type 0} {u : Unit {0}} (a b c : SymtabState) (ks : List ℕ) → b ≡ with_entry null_entry a → SinkRun WritesSection refuses b ks (Ok u) c → (c.layout ≡ a.layout) × (c.file ≡ a.file) × (c.part ≡ a.part)
prelude_kept a b c ks is run = let w = prelude_walked a b c ks is run in (w.layout, w.file, w.part)

-- ---- symbols

-- a symbol's side is its entry's
pub side_is : (local : Bool) (l : Layout) (f : File) (x : TableSymbol) → is_on_side local x ≡ is_side local (named_entry l f x)
side_is true l f x = refl
side_is false l f x = refl

pub wrote_one : {E : Type 0} {refuses : SymtabState → TableSymbol → E → SymtabState → Type 0} (a b : SymtabState) (x : TableSymbol) → b ≡ with_entry (named_entry a.layout a.file x) a → SinkRun Writes refuses a (x ∷ []) (Ok tt) b
wrote_one a b x e = more e none

pub refused_one : {E : Type 0} {goes : SymtabState → TableSymbol → SymtabState → Type 0} (a b : SymtabState) (x : TableSymbol) (e : E) → SinkRun goes (λ c y d i. Unit {0}) a (x ∷ []) (Err e) b
refused_one a b x e = stop tt

pub ruleset writes = (wrote_one, refused_one)

-- what was written of symbols, one behind the other
pub symbols_walked : {E : Type 0} {refuses : SymtabState → TableSymbol → E → SymtabState → Type 0} {a b : SymtabState} {xs : List TableSymbol} {u : Unit {0}} → SinkRun Writes refuses a xs (Ok u) b → Walks a.part a.bytes a.at b.bytes b.at (map (named_entry a.layout a.file) xs)
symbols_walked {a = a} none = walks_none a.part a.bytes a.at
symbols_walked {a = a} {b = c} (more {b = b} {x = x} {xs = xs} h t) =
    let n = named_entry a.layout a.file x in
    let w = with_entry n a in
    let P : SymtabState → Type 0 = λ v. Walks v.part v.bytes v.at c.bytes c.at (map (named_entry v.layout v.file) xs) in
    walks_on a.part a.bytes w.bytes c.bytes a.at w.at c.at (n ∷ []) (map (named_entry a.layout a.file) xs) (walks_one a.part a.bytes w.bytes a.at w.at n refl refl) (subst P h (symbols_walked t))

-- what was written of a file: the null entry, where it has it, and its symbols
pub file_walked : {E : Type 0} {refuses : SymtabState → TableSymbol → E → SymtabState → Type 0} {u : Unit {0}} (l : Layout) (f : File) (k : TablePart) (from : List ℕ) (at : ℕ) (b c : SymtabState)
    → Walks k from at b.bytes b.at (null_entries l f) → (b.layout ≡ l) × (b.file ≡ f) × (b.part ≡ k) → SinkRun Writes refuses b (file_items l f) (Ok u) c → Walks k from at c.bytes c.at (file_table l f)
file_walked l f k from at b c null kept run =
    let P : Layout → Type 0 = λ m. Walks b.part b.bytes b.at c.bytes c.at (map (named_entry m b.file) (file_items l f)) in
    let Q : File → Type 0 = λ g. Walks b.part b.bytes b.at c.bytes c.at (map (named_entry l g) (file_items l f)) in
    let R : TablePart → Type 0 = λ q. Walks q b.bytes b.at c.bytes c.at (map (named_entry l f) (file_items l f)) in
    walks_on k from b.bytes c.bytes at b.at c.at (null_entries l f) (map (named_entry l f) (file_items l f)) null (subst R kept.2 (subst Q kept.1 (subst P kept.0 (symbols_walked run))))

-- ---- what each part takes

side_first : (b : Bool) (e : SymtabEntry) (es : List SymtabEntry) → (if b then symbol_bytes (e ∷ []) else []) ++ symbol_bytes es ≡ symbol_bytes ((if b then e ∷ [] else []) ++ es)
side_first true e es = ap (λ (bs : List ℕ). bs ++ symbol_bytes es) (append-nil _)
side_first false e es = refl

pub sides_sunk : (local : Bool) (at : ℕ) (ns : List NamedEntry) → sunk (Entries local) at ns ≡ symbol_bytes (side_entries local at ns)
unfolding sunk side_entries
sides_sunk local at [] = refl
sides_sunk local at (n ∷ ns) =
    ap (λ (bs : List ℕ). taken_bytes (Entries local) at n ++ bs) (sides_sunk local (offset_after_name at n.name) ns)
    ∙ side_first (is_side local n) (entry_at (name_at at n.name) n.fields.fields) (side_entries local (offset_after_name at n.name) ns)

long_first : (local : Bool) (n : NamedEntry) (ns : List NamedEntry) → taken_bytes (Long local) 0 n ++ index_bytes (long_indexes local ns) ≡ index_bytes (long_indexes local (n ∷ ns))
long_first local n ns = elim (cases_Bool (is_side local n)) [
  | inl t ↦ rw t refl
  | inr f ↦ rw f refl
]

pub longs_sunk : (local : Bool) (at : ℕ) (ns : List NamedEntry) → sunk (Long local) at ns ≡ index_bytes (long_indexes local ns)
unfolding sunk
longs_sunk local at [] = refl
longs_sunk local at (n ∷ ns) = ap (λ (bs : List ℕ). taken_bytes (Long local) 0 n ++ bs) (longs_sunk local (offset_after_name at n.name) ns) ∙ long_first local n ns

pub names_sunk : (at : ℕ) (ns : List NamedEntry) → sunk Strings at ns ≡ string_bytes (names_of ns)
unfolding sunk
names_sunk at [] = refl
names_sunk at (n ∷ ns) =
    ap (λ (bs : List ℕ). string_bytes (option_to_list n.name) ++ bs) (names_sunk (offset_after_name at n.name) ns)
    ∙ sym (flat_map-append string (option_to_list n.name) (names_of ns))

-- the entries of a group
pub table_walked : (local : Bool) (l : Layout) (g : Group) (from to : List ℕ) (next : ℕ) → Walks (Entries local) from g.strtab_start to next (flat_map (file_table l) g.files) → to ≡ from ++ symbol_bytes (table_entries l local g)
unfolding table_entries group_table
table_walked local l g from to next h = walked (Entries local) from to g.strtab_start next (flat_map (file_table l) g.files) h ∙ ap (λ (bs : List ℕ). from ++ bs) (sides_sunk local g.strtab_start (flat_map (file_table l) g.files))

-- the longer section indexes of a file, where a part has them
pub indexes_walked : (local : Bool) (l : Layout) (r : Role) (f : File) (from to : List ℕ) (at next : ℕ) → has_long l r ≡ true → Walks (Long local) from at to next (file_table l f) → to ≡ from ++ indexes_of l r local f
indexes_walked local l r f from to at next has h = rw has (walked (Long local) from to at next (file_table l f) h ∙ ap (λ (bs : List ℕ). from ++ bs) (longs_sunk local at (file_table l f)))

pub no_indexes : (local : Bool) (l : Layout) (r : Role) (f : File) (bs : List ℕ) → has_long l r ≡ false → bs ≡ bs ++ indexes_of l r local f
no_indexes local l r f bs has = rw has (sym (append-nil bs))

-- the names of a file
pub names_walked : NamesOfFiles → (l : Layout) (f : File) (from to : List ℕ) (at next : ℕ) → Walks Strings from at to next (file_table l f) → to ≡ from ++ string_bytes (table_strings l f)
names_walked law l f from to at next h = walked Strings from to at next (file_table l f) h ∙ ap (λ (bs : List ℕ). from ++ bs) (names_sunk at (file_table l f) ∙ ap string_bytes (law l f))

pub ruleset prelude_walks = (walks_none, prelude_walked)

pub ruleset walk_files = (walks_none, walks_more)

pub ruleset walk_indexes = (indexes_walked, no_indexes)
