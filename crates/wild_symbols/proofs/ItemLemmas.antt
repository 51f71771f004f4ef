-- On which side of `.symtab` a symbol's own entries are.
use Rattle.std.proofs.Common.{◌≡◌, ℕ, ◌+◌, ◌<◌, ◌≤◌, ◌&&◌, ◌==◌, zero, suc, Bool, true, false, List, [], ◌∷◌, ◌++◌, length, get_or, take, drop, if◌then◌else◌, refl, sym, ap, ◌∙◌, subst, arith}
use Rattle.std.specs.Prelude.{Option, Some, None, slice_get}
use Rattle.std.specs.List.{flat_map}
use Rattle.std.proofs.lemmas.Bool.{eqb-true}
use Rattle.std.proofs.lemmas.Option.{get_or_from_slice_get}
use Rattle.std.proofs.lemmas.List.{get_or-take, get_or-drop, length-take}
use Rattle.wild_types.specs.declared.symbol.Symbol.{Symbol}
use Rattle.wild_types.specs.declared.file.File.{File}
use Rattle.wild_types.specs.declared.layout.Layout.{Layout}
use Rattle.wild_types.specs.declared.layout.Thunk.{Thunk}
use Rattle.wild_types.specs.FileRoles.{is_loaded_file}
use Rattle.wild_types.specs.FileSymbols.{range_of, loaded_symbols}
use Rattle.wild_types.specs.FileThunks.{thunks_of}
use Rattle.wild_types.specs.Lookups.{has_symtab, files_of}
use Rattle.wild_types.specs.SymbolSlots.{names_slot, names_stub}
use Rattle.wild_needs.specs.declared.table.SymtabName.TheVariants as named
use Rattle.wild_needs.specs.declared.table.SymtabPass.{SymtabPass}
use Rattle.wild_needs.specs.TableSymbols.{TableSymbol, item, item_if, slot_items, is_of_pass, own_item, symbol_items, pass_items, passes, items_of, named_thunk, thunk_item, thunk_items, file_items, is_local, is_local_symbol}
use Rattle.wild_table_formats.specs.SectionSymbols.{all_items, is_own_entry}

-- all own entries of symbol i are on that side
abbrev pub OnSide : ℕ → Bool → List TableSymbol → Type 0
OnSide i b [] = Unit {0}
OnSide i b (x ∷ xs) = (is_own_entry i x ≡ true → is_local x ≡ b) × OnSide i b xs

on_both : (i : ℕ) (b : Bool) (xs ys : List TableSymbol) → OnSide i b xs → OnSide i b ys → OnSide i b (xs ++ ys)
on_both i b [] ys h k = k
on_both i b (x ∷ xs) ys h k = (h.0, on_both i b xs ys h.1 k)

on_each : {X : Type 0} (i : ℕ) (b : Bool) (f : X → List TableSymbol) → ((x : X) → OnSide i b (f x)) → (xs : List X) → OnSide i b (flat_map f xs)
on_each i b f h [] = tt
on_each i b f h (x ∷ xs) = on_both i b (f x) (flat_map f xs) (h x) (on_each i b f h xs)

on_asked : (i : ℕ) (b t : Bool) (x : TableSymbol) → (is_own_entry i x ≡ true → is_local x ≡ b) → OnSide i b (item_if t x)
on_asked i b true x h = (h, tt)
on_asked i b false x h = tt

slots_on : (l : Layout) (i j : ℕ) (b : Bool) (t : Symbol) → OnSide i b (slot_items l j t)
slots_on l i j b t =
    on_both i b (item_if (names_slot l j t) (item named.Slot j t)) (item_if (names_stub l j t) (item named.Stub j t))
    (on_asked i b (names_slot l j t) (item named.Slot j t) (λ h. cc)) (on_asked i b (names_stub l j t) (item named.Stub j t) (λ h. cc))

slots_in : (l : Layout) (i j : ℕ) (b slots : Bool) (t : Symbol) → OnSide i b (if slots then slot_items l j t else [])
slots_in l i j b true t = slots_on l i j b t
slots_in l i j b false t = tt

-- what a symbol gives
symbol_on : (l : Layout) (p : SymtabPass) (i j : ℕ) (s t : Symbol) → (j ≡ i → t ≡ s) → OnSide i (is_local_symbol s) (symbol_items l p j t)
symbol_on l p i j s t same =
    on_both i (is_local_symbol s) (if p.slots then slot_items l j t else []) (own_item p.own j t) (slots_in l i j (is_local_symbol s) p.slots t)
    (on_asked i (is_local_symbol s) (is_of_pass p.own t && t.emit) (item named.Itself j t) (λ h. ap is_local_symbol (same (eqb-true j i h))))

pass_on : (l : Layout) (p : SymtabPass) (i j : ℕ) (s : Symbol) (ss : List Symbol) → ((k : ℕ) → k < length ss → j + k ≡ i → get_or ss k s ≡ s) → OnSide i (is_local_symbol s) (pass_items l p j ss)
pass_on l p i j s [] same = tt
pass_on l p i j s (t ∷ ts) same =
    on_both i (is_local_symbol s) (symbol_items l p j t) (pass_items l p (j + 1) ts) (symbol_on l p i j s t (λ e. same 0 (omega arith) (omega (arith, e))))
    (pass_on l p i (j + 1) s ts (λ k low e. same (suc k) (omega (arith, low)) (omega (arith, e))))

-- the symbols of a file have their places in the layout
read_range : (xs : List Symbol) (m n i : ℕ) (s : Symbol) → slice_get xs i ≡ Some s → (k : ℕ) → k < length (take n (drop m xs)) → m + k ≡ i → get_or (take n (drop m xs)) k s ≡ s
read_range xs m n i s there k low e =
    let long = length-take n (drop m xs) in
    get_or-take n (drop m xs) k s (omega (arith, long, low)) ∙ get_or-drop m xs k s ∙ ap (λ (j : ℕ). get_or xs j s) e ∙ get_or_from_slice_get xs i s s there

loaded_on : (l : Layout) (p : SymtabPass) (i : ℕ) (s : Symbol) (f : File) (b : Bool) → slice_get l.symbols i ≡ Some s → OnSide i (is_local_symbol s) (pass_items l p f.first_symbol (if b then range_of l.symbols f else []))
loaded_on l p i s f true there = pass_on l p i f.first_symbol s (range_of l.symbols f) (read_range l.symbols f.first_symbol f.symbol_count i s there)
loaded_on l p i s f false there = tt

thunk_on : (i : ℕ) (b : Bool) (t : Thunk) (o : Option Symbol) → OnSide i b (named_thunk t o)
thunk_on i b t None = tt
thunk_on i b t (Some s) = ((λ h. cc), tt)

items_on : (l : Layout) (i : ℕ) (b t : Bool) (xs : List TableSymbol) → OnSide i b xs → OnSide i b (if t then xs else [])
items_on l i b true xs h = h
items_on l i b false xs h = tt

file_on : (l : Layout) (i : ℕ) (s : Symbol) → slice_get l.symbols i ≡ Some s → (f : File) → OnSide i (is_local_symbol s) (file_items l f)
unfolding file_items
file_on l i s there f =
    items_on l i (is_local_symbol s) (has_symtab l) (items_of l (passes l.kind f.role) f ++ thunk_items l f)
    (on_both i (is_local_symbol s) (items_of l (passes l.kind f.role) f) (thunk_items l f)
    (on_each i (is_local_symbol s) (λ (p : SymtabPass). pass_items l p f.first_symbol (loaded_symbols l f)) (λ p. loaded_on l p i s f (is_loaded_file f.role) there) (passes l.kind f.role))
    (on_each i (is_local_symbol s) (thunk_item l) (λ t. thunk_on i (is_local_symbol s) t (slice_get l.symbols t.symbol)) (thunks_of l f)))

-- all own entries of a symbol are on its side
pub own_side : (l : Layout) (i : ℕ) (s : Symbol) → slice_get l.symbols i ≡ Some s → OnSide i (is_local_symbol s) (all_items l)
own_side l i s there = on_each i (is_local_symbol s) (file_items l) (file_on l i s there) (files_of l.groups)
