-- Laws of the table of the symbols' values.
use Rattle.std.proofs.Common.{◌≡◌, ℕ, [], ◌∷◌, ◌++◌, ◌+◌, ◌<◌, ◌≤◌, List, length, get_or, map, Option, Some, None, refl, sym, ap, ◌∙◌, arith}
use Rattle.std.specs.Prelude.{slice_get, option_map, option_and_then}
use Rattle.std.specs.Option.{option_or, option_flatten}
use Rattle.std.specs.List.{range_with_len}
use Rattle.std.proofs.lemmas.Option.{slice_get_past}
use Rattle.std.proofs.lemmas.List.FromFn.{get_or-map-range_with_len, length-map-range_with_len, map-range_with_len_more}
use Rattle.wild_types.specs.declared.symbol.Place.{Place}
use Rattle.wild_types.specs.declared.symbol.Place.TheVariants as at
use Rattle.wild_types.specs.declared.symbol.Symbol.{Symbol}
use Rattle.wild_types.specs.declared.file.File.{File}
use Rattle.wild_types.specs.declared.layout.Layout.{Layout}
use Rattle.wild_types.specs.Lookups.{file_of, files_of}
use Rattle.wild_types.specs.Addresses.{raw_value, resolved_or, placed_value, address_at}
use Rattle.wild_sections.specs.Values.{HasValues}
use Rattle.wild_symbols.specs.SymbolNumbers.{found}
use Rattle.wild_sections.specs.SymbolAddresses.{file_symbol_address, address_in, decided}

-- an entry of the table
pub table_at : (l : Layout) (values : List (Option ℕ)) (i : ℕ) (d : Option ℕ) → HasValues l values → i < length values → get_or values i d ≡ raw_value l i
table_at l values i d h m =
    let n = ap length h.all ∙ length-map-range_with_len (raw_value l) 0 (length l.symbols) in
    ap (λ (vs : List (Option ℕ)). get_or vs i d) h.all ∙ get_or-map-range_with_len (raw_value l) 0 (length l.symbols) i i d (omega arith) (omega arith)

-- a symbol that is not there has no value
raw_value_past : (l : Layout) (i : ℕ) → length l.symbols ≤ i → raw_value l i ≡ None
unfolding raw_value
raw_value_past l i h = let e = slice_get_past l.symbols i h in rw e (rw e (refl))

pub table_past : (l : Layout) (values : List (Option ℕ)) (i : ℕ) → HasValues l values → length values ≤ i → None ≡ raw_value l i
table_past l values i h m =
    let n = ap length h.all ∙ length-map-range_with_len (raw_value l) 0 (length l.symbols) in
    sym (raw_value_past l i (omega arith))

pub ruleset table_values = (table_at, table_past)

place_is : (l : Layout) (p : Place) (v i : ℕ) (o : Option File) → file_of (files_of l.groups) i ≡ o → address_at l i v p ≡ option_flatten (option_map (file_symbol_address l p v) o)
place_is l (at.Section k) v i None e = rw e refl
place_is l (at.Section k) v i (Some f) e = rw e refl
place_is l at.Undefined v i None e = refl
place_is l at.Undefined v i (Some f) e = refl
place_is l at.Absolute v i None e = refl
place_is l at.Absolute v i (Some f) e = refl
place_is l at.Common v i None e = refl
place_is l at.Common v i (Some f) e = refl
place_is l (at.Output k) v i None e = refl
place_is l (at.Output k) v i (Some f) e = refl

placed_none : (l : Layout) (o : Option File) → None ≡ option_flatten (option_map (λ (f : File). option_and_then (λ (s : Symbol). file_symbol_address l s.place s.value f) None) o)
placed_none l None = refl
placed_none l (Some f) = refl

placed_is : (l : Layout) (i : ℕ) (o : Option Symbol)
    → option_and_then (λ (s : Symbol). address_at l i s.value s.place) o ≡ option_flatten (option_map (λ (f : File). option_and_then (λ (s : Symbol). file_symbol_address l s.place s.value f) o) (file_of (files_of l.groups) i))
placed_is l i None = placed_none l (file_of (files_of l.groups) i)
placed_is l i (Some s) = place_is l s.place s.value i (file_of (files_of l.groups) i) refl

resolved_is : (a b : Option ℕ) → resolved_or a b ≡ option_or a b
resolved_is None b = refl
resolved_is (Some x) b = refl

-- the value of a symbol
pub raw_value_is : (l : Layout) (i : ℕ) → raw_value l i ≡ option_or (decided l i) (option_flatten (found (address_in l) (files_of l.groups) i))
unfolding raw_value
raw_value_is l i = resolved_is (decided l i) (placed_value l i) ∙ ap (option_or (decided l i)) (placed_is l i (slice_get l.symbols i))

-- one more value of the table
pub value_more : (l : Layout) (i : ℕ) (values next : List (Option ℕ)) (placed : Option (Option ℕ)) (v : Option ℕ) → values ≡ map (raw_value l) (range_with_len 0 i) → next ≡ values ++ v ∷ []
    → placed ≡ found (address_in l) (files_of l.groups) i → v ≡ option_or (decided l i) (option_flatten placed) → next ≡ map (raw_value l) (range_with_len 0 (i + 1))
value_more l i values next placed v before pushed is e =
    pushed ∙ ap (λ (xs : List (Option ℕ)). xs ++ v ∷ []) before
    ∙ ap (λ (x : Option ℕ). map (raw_value l) (range_with_len 0 i) ++ x ∷ []) (e ∙ ap (λ (o : Option (Option ℕ)). option_or (decided l i) (option_flatten o)) is ∙ sym (raw_value_is l i))
    ∙ sym (map-range_with_len_more (raw_value l) 0 i i (omega arith))

-- the same of one that was decided
pub decided_more : (l : Layout) (i : ℕ) (values next : List (Option ℕ)) (v : ℕ) → values ≡ map (raw_value l) (range_with_len 0 i) → next ≡ values ++ Some v ∷ [] → decided l i ≡ Some v → next ≡ map (raw_value l) (range_with_len 0 (i + 1))
decided_more l i values next v before pushed is =
    let placed : Option (Option ℕ) = found (address_in l) (files_of l.groups) i in
    value_more l i values next placed (Some v) before pushed refl (sym (ap (λ (o : Option ℕ). option_or o (option_flatten placed)) is))
