-- The order of the dynamic symbol table: the first file has its first entry, and the last file those of the list.
use Rattle.wild_names.proofs.Common.{◌≡◌, ◌≤◌, true, List, [], ◌∷◌, ◌++◌, length, map, Option, Some, None, flat_map, refl, sym, ap, ◌∙◌, File, Layout, first_misplaced_file, undefined_symbols, is_epilogue, files_of, NamedFields, listed, undefined, table_symbols}
use Rattle.std.proofs.lemmas.List.{map-append}
use Rattle.wild_names.proofs.ListOrder.{InOrder, all_in_order, last_defines_none}
use Rattle.wild_names.proofs.SymbolLemmas.{file_items}

-- the symbols of a file that other modules define
abbrev own : Layout → File → List NamedFields
own l f = map (undefined f.role) (undefined_symbols l.symbols f)

-- those of the list
abbrev seen : Layout → List NamedFields
seen l = map (listed l) l.dynsyms

-- the last file has none of its own
last_has_none : (l : Layout) (f : File) → is_epilogue f.role ≡ true → own l f ≡ []
last_has_none l f h = ap (map (undefined f.role)) (last_defines_none l.symbols f h)

-- the first file has the entry of no symbol, and the last one those of the list
in_order : Layout → InOrder (Option NamedFields)
in_order l = record {
  items = file_items l;
  own = λ f. map Some (own l f);
  front = None ∷ [];
  behind = map Some (seen l);
  first = λ f p e. rw (p, e) refl;
  middle = λ f p e. rw (p, e) refl;
  last = λ f p e. (let c = last_has_none l f e in rw (p, e, c) refl);
}

-- the items of files that are their own are of their symbols
own_joined : (l : Layout) (fs : List File) → flat_map (λ (f : File). map Some (own l f)) fs ≡ map Some (flat_map (own l) fs)
own_joined l [] = refl
own_joined l (f ∷ fs) = ap (λ (ys : List (Option NamedFields)). map Some (own l f) ++ ys) (own_joined l fs) ∙ sym (map-append Some (own l f) (flat_map (own l) fs))

-- the first entry is of no symbol, and behind it stand the symbols of the table
pub items_of_all : (l : Layout) → 1 ≤ length l.groups → first_misplaced_file true 0 l.groups ≡ None → flat_map (file_items l) (files_of l.groups) ≡ None ∷ map Some (table_symbols l)
unfolding in_order
items_of_all l some h =
    let fs = files_of l.groups in
    let a = ap (λ (ys : List (Option NamedFields)). ys ++ map Some (seen l)) (own_joined l fs) ∙ sym (map-append Some (flat_map (own l) fs) (seen l)) in
    all_in_order (in_order l) l.groups some h ∙ ap (λ (ys : List (Option NamedFields)). None ∷ ys) a
