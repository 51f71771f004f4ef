-- The entries of a relocatable object's symbol table by their numbers: the one of zeros, those of sections, and those of symbols in the
-- order of the files.
use Rattle.wild_names.proofs.Common.{◌≡◌, ℕ, ◌+◌, ◌-◌, ◌<◌, ◌≤◌, inl, inr, Bool, true, false, List, [], ◌∷◌, ◌++◌, length, map, refl, sym, ap, ◌∙◌, arith, subst, Some, Contains, slice_get, option_map, cases_Bool, append-nil, length-map, filter-append, slice_get-map, flat_map-flat_map, flat_map-same, File, Group, Layout, is_prelude, is_partial_link, files_of, TableSymbol, file_items, section_symbols, NamedEntry, named_entry, null_entry, section_entry, null_entries, file_table, group_table, is_side, IsLaidOut, side_table}
use Rattle.std.specs.List.{filter, flat_map}
use Rattle.wild_words.proofs.ListLemmas.{Contains-here, Contains-there, filter-flat_map}
use Rattle.wild_needs.specs.TableSymbols.{is_on_side, side}
use Rattle.wild_table_formats.specs.SectionSymbols.{front_count}
use Rattle.wild_names.proofs.ListOrder.{InOrder, all_in_order}
use Rattle.wild_names.proofs.PlaceLemmas.{in_front, found_in_second_list, either, filtered}

-- ---- what stands in front

-- the entry of zeros, and those of sections
abbrev pub front : Layout → List NamedEntry
front l = null_entry ∷ map section_entry (section_symbols l)

abbrev pub side_front : Layout → Bool → List NamedEntry
side_front l local = filter (is_side local) (front l)

sections_local : (ks : List ℕ) → filter (is_side true) (map section_entry ks) ≡ map section_entry ks
sections_local [] = refl
sections_local (k ∷ ks) = ap (λ (es : List NamedEntry). section_entry k ∷ es) (sections_local ks)

sections_hidden : (ks : List ℕ) → filter (is_side false) (map section_entry ks) ≡ []
sections_hidden [] = refl
sections_hidden (k ∷ ks) = sections_hidden ks

pub front_local : (l : Layout) → side_front l true ≡ front l
front_local l = ap (λ (es : List NamedEntry). null_entry ∷ es) (sections_local (section_symbols l))

pub front_global : (l : Layout) → side_front l false ≡ []
front_global l = sections_hidden (section_symbols l)

pub length-front : (l : Layout) → length (front l) ≡ front_count l
length-front l = (let n = length-map (section_symbols l) section_entry in omega (arith, n))

-- ---- the order of the entries

-- those of a file's own
abbrev pub own_side : Layout → Bool → File → List NamedEntry
own_side l local f = filter (is_side local) (map (named_entry l f) (file_items l f))

null_first : (l : Layout) (f : File) → is_partial_link l.kind ≡ true → is_prelude f.role ≡ true → null_entries l f ≡ front l
null_first l f partial first = rw (partial, first) refl

null_later : (l : Layout) (f : File) → is_partial_link l.kind ≡ true → is_prelude f.role ≡ false → null_entries l f ≡ []
null_later l f partial later = rw (partial, later) refl

entries_first : (l : Layout) (local : Bool) (f : File) (ns : List NamedEntry) → null_entries l f ≡ ns → filter (is_side local) (file_table l f) ≡ filter (is_side local) ns ++ own_side l local f
entries_first l local f ns e =
    filter-append (is_side local) (null_entries l f) (map (named_entry l f) (file_items l f))
    ∙ ap (λ (es : List NamedEntry). filter (is_side local) es ++ own_side l local f) e

abbrev order : (l : Layout) → Bool → is_partial_link l.kind ≡ true → InOrder NamedEntry
order l local partial = record {
  items = λ f. filter (is_side local) (file_table l f);
  own = own_side l local;
  front = side_front l local;
  behind = [];
  first = λ f p e. entries_first l local f (front l) (null_first l f partial p);
  middle = λ f p e. entries_first l local f [] (null_later l f partial p);
  last = λ f p e. entries_first l local f [] (null_later l f partial p) ∙ sym (append-nil (own_side l local f));
}

pub side_ordered : (l : Layout) (local : Bool) → is_partial_link l.kind ≡ true → IsLaidOut l → side_table l local ≡ side_front l local ++ flat_map (own_side l local) (files_of l.groups)
unfolding group_table
side_ordered l local partial laid =
    let items : File → List NamedEntry = λ f. filter (is_side local) (file_table l f) in
    flat_map-same (λ (g : Group). filter (is_side local) (group_table l g)) (λ (g : Group). flat_map items g.files) l.groups (λ g. filter-flat_map (is_side local) (file_table l) g.files)
    ∙ sym (flat_map-flat_map items (λ (g : Group). g.files) l.groups)
    ∙ all_in_order (order l local partial) l.groups laid.some_group laid.files
    ∙ ap (λ (es : List NamedEntry). side_front l local ++ es) (append-nil (flat_map (own_side l local) (files_of l.groups)))

-- ---- symbols among them

sides_same : (l : Layout) (f : File) (local : Bool) (x : TableSymbol) → is_side local (named_entry l f x) ≡ is_on_side local x
sides_same l f true x = refl
sides_same l f false x = refl

pub mapped : (l : Layout) (f : File) (local : Bool) (xs : List TableSymbol) → filter (is_side local) (map (named_entry l f) xs) ≡ map (named_entry l f) (filter (is_on_side local) xs)
mapped l f local [] = refl
mapped l f local (x ∷ xs) =
    let again = mapped l f local xs in
    let same = sides_same l f local x in
    elim (cases_Bool (is_on_side local x)) [
      | inl t ↦ rw (same ∙ t, t) (ap (λ (es : List NamedEntry). named_entry l f x ∷ es) again)
      | inr n ↦ rw (same ∙ n, n) again
    ]

-- the entry of a symbol of a file, by its place among those of its side
pub record IsEntryAt (l : Layout) (local : Bool) (n : ℕ) (x : TableSymbol) (fs : List File) : Type 0 where
  pub file : File
  pub filed : Contains fs file
  pub listed : Contains (file_items l file) x
  pub there : slice_get (flat_map (own_side l local) fs) n ≡ Some (named_entry l file x)

pub entry_at : (l : Layout) (local : Bool) (n : ℕ) (x : TableSymbol) (fs : List File) → slice_get (side local (flat_map (file_items l) fs)) n ≡ Some x → IsEntryAt l local n x fs
entry_at l local n x [] h = cc
entry_at l local n x (f ∷ fs) h =
    let xs = filter (is_on_side local) (file_items l f) in
    let ys = filter (is_on_side local) (flat_map (file_items l) fs) in
    let own = mapped l f local (file_items l f) in
    let joined : slice_get (xs ++ ys) n ≡ Some x = subst (λ (zs : List TableSymbol). slice_get zs n ≡ Some x) (filter-append (is_on_side local) (file_items l f) (flat_map (file_items l) fs)) h in
    elim (either xs ys n x joined) [
      | inl a ↦
          (let e = slice_get-map (named_entry l f) xs n ∙ ap (option_map (named_entry l f)) a in
          let here : slice_get (own_side l local f) n ≡ Some (named_entry l f x) = subst (λ (es : List NamedEntry). slice_get es n ≡ Some (named_entry l f x)) (sym own) e in
          record { file = f; filed = Contains-here f fs; listed = filtered (is_on_side local) (file_items l f) n x a; there = in_front (own_side l local f) (flat_map (own_side l local) fs) n (named_entry l f x) here })
      | inr b ↦
          (let r = entry_at l local (n - length xs) x fs b.1 in
          let from = b.0 in
          let long : length (own_side l local f) ≡ length xs = ap (λ (es : List NamedEntry). length es) own ∙ length-map xs (named_entry l f) in
          record { file = r.file; filed = Contains-there r.file f fs r.filed; listed = r.listed; there = found_in_second_list (own_side l local f) (flat_map (own_side l local) fs) (n - length xs) n (named_entry l r.file x) (omega (arith, from, long)) r.there })
    ]
