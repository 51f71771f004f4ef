-- What a file has in the table of all symbols: an entry that is a symbol's own is that of the layout's symbol of its number, which is one of
-- the file's.
use Rattle.wild_names.proofs.Common.{◌≡◌, ℕ, suc, ◌+◌, ◌-◌, ◌<◌, ◌≤◌, Bool, true, false, List, [], ◌∷◌, ◌++◌, All, refl, sym, ap, ◌∙◌, arith, subst, Option, Some, None, Contains, if◌then◌else◌, ◌&&◌, ◌==◌, slice_get, le-leb, eqb-true, All-nil, All-cons, All-append, All-contains, Symbol, File, Layout, range_of, has_symtab, SymtabName, TableSymbol, file_items, is_own_entry}
use Rattle.std.specs.List.{flat_map}
use Rattle.std.proofs.lemmas.Bool.{lt-ltb}
use Rattle.std.proofs.lemmas.List.Elements.{All-weaker}
use Rattle.wild_types.specs.declared.layout.Thunk.{Thunk}
use Rattle.wild_types.specs.FileRoles.{is_loaded_file}
use Rattle.wild_types.specs.FileSymbols.{loaded_symbols}
use Rattle.wild_types.specs.FileThunks.{thunks_of}
use Rattle.wild_types.specs.SymbolSlots.{names_slot, names_stub}
use Rattle.wild_placement.specs.FrameInputs.{has_symbol}
use Rattle.wild_needs.specs.declared.table.SymtabName.TheVariants as named
use Rattle.wild_needs.specs.declared.table.SymtabPass.{SymtabPass}
use Rattle.wild_needs.specs.TableSymbols.{item, item_if, slot_items, own_item, is_of_pass, symbol_items, pass_items, passes, items_of, named_thunk, thunk_item, thunk_items}
use Rattle.wild_names.proofs.PlaceLemmas.{dropped, taken}

-- ---- one symbol

-- it is of symbol s, with number i
record IsOf (i : ℕ) (s : Symbol) (x : TableSymbol) : Type 0 where
  index : x.index ≡ i
  symbol : x.symbol ≡ s

asked_of : (b : Bool) (n : SymtabName) (i : ℕ) (s : Symbol) → All (IsOf i s) (item_if b (item n i s))
asked_of true n i s = All-cons (IsOf i s) (item n i s) [] (record { index = refl; symbol = refl }) (All-nil (IsOf i s))
asked_of false n i s = All-nil (IsOf i s)

symbol_of : (l : Layout) (p : SymtabPass) (i : ℕ) (s : Symbol) → All (IsOf i s) (symbol_items l p i s)
symbol_of l p i s = All-append (IsOf i s) (if p.slots then slot_items l i s else []) (own_item p.own i s) (slots p.slots) (asked_of (is_of_pass p.own s && s.emit) named.Itself i s)
  where
    slots : (b : Bool) → All (IsOf i s) (if b then slot_items l i s else [])
    slots true = All-append (IsOf i s) (item_if (names_slot l i s) (item named.Slot i s)) (item_if (names_stub l i s) (item named.Stub i s)) (asked_of (names_slot l i s) named.Slot i s) (asked_of (names_stub l i s) named.Stub i s)
    slots false = All-nil (IsOf i s)

-- ---- a pass

-- it is of one of these symbols, which are numbered from i on
record IsAmong (i : ℕ) (ss : List Symbol) (x : TableSymbol) : Type 0 where
  from : i ≤ x.index
  there : slice_get ss (x.index - i) ≡ Some x.symbol

first_of : (i : ℕ) (s : Symbol) (ss : List Symbol) (x : TableSymbol) → IsOf i s x → IsAmong i (s ∷ ss) x
first_of i s ss x h =
    let e = h.index in
    let none : 0 ≡ x.index - i = omega (arith, e) in
    record { from = omega (arith, e); there = subst (λ (k : ℕ). slice_get (s ∷ ss) k ≡ Some x.symbol) none (ap (λ (t : Symbol). Some t) (sym h.symbol)) }

later_of : (i : ℕ) (s : Symbol) (ss : List Symbol) (x : TableSymbol) → IsAmong (i + 1) ss x → IsAmong i (s ∷ ss) x
later_of i s ss x h =
    let from = h.from in
    let same : suc (x.index - (i + 1)) ≡ x.index - i = omega (arith, from) in
    record { from = omega (arith, from); there = subst (λ (k : ℕ). slice_get (s ∷ ss) k ≡ Some x.symbol) same h.there }

pass_of : (l : Layout) (p : SymtabPass) (i : ℕ) (ss : List Symbol) → All (IsAmong i ss) (pass_items l p i ss)
pass_of l p i [] = All-nil (IsAmong i [])
pass_of l p i (s ∷ ss) =
    All-append (IsAmong i (s ∷ ss)) (symbol_items l p i s) (pass_items l p (i + 1) ss)
    (All-weaker (IsOf i s) (IsAmong i (s ∷ ss)) (first_of i s ss) (symbol_items l p i s) (symbol_of l p i s))
    (All-weaker (IsAmong (i + 1) ss) (IsAmong i (s ∷ ss)) (later_of i s ss) (pass_items l p (i + 1) ss) (pass_of l p (i + 1) ss))

-- ---- a file

-- an own entry is that of the symbol of its number, which is one of the file's
pub record IsOwn (l : Layout) (f : File) (i : ℕ) (x : TableSymbol) : Type 0 where
  pub itself : x.named ≡ named.Itself
  pub index : x.index ≡ i
  pub there : slice_get l.symbols i ≡ Some x.symbol
  pub filed : has_symbol f i ≡ true

abbrev OwnIsKnown : Layout → File → TableSymbol → Type 0
OwnIsKnown l f x = (i : ℕ) → is_own_entry i x ≡ true → IsOwn l f i x

own_parts : (i : ℕ) (x : TableSymbol) → is_own_entry i x ≡ true → (x.named ≡ named.Itself) × (x.index ≡ i)
own_parts i x h = by x.named refl
  where
    by : (n : SymtabName) → x.named ≡ n → (x.named ≡ named.Itself) × (x.index ≡ i)
    by named.Itself e = (e, index_is (rw e at h))
      where
        index_is : (x.index == i) ≡ true → x.index ≡ i
        index_is t = eqb-true x.index i t
    by n e = cc

ranged : (l : Layout) (f : File) (x : TableSymbol) → IsAmong f.first_symbol (loaded_symbols l f) x → OwnIsKnown l f x
ranged l f x h = λ i own. by i (own_parts i x own) (is_loaded_file f.role) h.there
  where
    by : (i : ℕ) → (x.named ≡ named.Itself) × (x.index ≡ i) → (b : Bool) → slice_get (if b then range_of l.symbols f else []) (x.index - f.first_symbol) ≡ Some x.symbol → IsOwn l f i x
    by i own false there = cc
    by i own true there =
        let from = h.from in
        let t = taken f.symbol_count _ (x.index - f.first_symbol) x.symbol there in
        let d = dropped f.first_symbol l.symbols (x.index - f.first_symbol) x.symbol t.1 in
        let few = t.0 in
        let e = own.1 in
        let same : f.first_symbol + (x.index - f.first_symbol) ≡ i = omega (arith, from, e) in
        record {
          itself = own.0;
          index = own.1;
          there = subst (λ (k : ℕ). slice_get l.symbols k ≡ Some x.symbol) same d;
          filed = rw (le-leb f.first_symbol i (omega (arith, from, e)), lt-ltb i (f.first_symbol + f.symbol_count) (omega (arith, from, e, few))) refl;
        }

thunk_of : (l : Layout) (f : File) (t : Thunk) → All (OwnIsKnown l f) (thunk_item l t)
thunk_of l f t = by (slice_get l.symbols t.symbol)
  where
    by : (o : Option Symbol) → All (OwnIsKnown l f) (named_thunk t o)
    by None = All-nil (OwnIsKnown l f)
    by (Some s) = All-cons (OwnIsKnown l f) (item (named.Thunk t.address) t.symbol s) [] (λ i own. cc) (All-nil (OwnIsKnown l f))

pub own_known : (l : Layout) (f : File) (x : TableSymbol) → Contains (file_items l f) x → OwnIsKnown l f x
unfolding file_items
own_known l f x c = All-contains (OwnIsKnown l f) (if has_symtab l then items_of l (passes l.kind f.role) f ++ thunk_items l f else []) x (all (has_symtab l)) c
  where
    pass : (p : SymtabPass) → All (OwnIsKnown l f) (pass_items l p f.first_symbol (loaded_symbols l f))
    pass p = All-weaker (IsAmong f.first_symbol (loaded_symbols l f)) (OwnIsKnown l f) (ranged l f) (pass_items l p f.first_symbol (loaded_symbols l f)) (pass_of l p f.first_symbol (loaded_symbols l f))

    of_passes : (ps : List SymtabPass) → All (OwnIsKnown l f) (items_of l ps f)
    of_passes [] = All-nil (OwnIsKnown l f)
    of_passes (p ∷ ps) = All-append (OwnIsKnown l f) (pass_items l p f.first_symbol (loaded_symbols l f)) (items_of l ps f) (pass p) (of_passes ps)

    of_thunks : (ts : List Thunk) → All (OwnIsKnown l f) (flat_map (thunk_item l) ts)
    of_thunks [] = All-nil (OwnIsKnown l f)
    of_thunks (t ∷ ts) = All-append (OwnIsKnown l f) (thunk_item l t) (flat_map (thunk_item l) ts) (thunk_of l f t) (of_thunks ts)

    all : (b : Bool) → All (OwnIsKnown l f) (if b then items_of l (passes l.kind f.role) f ++ thunk_items l f else [])
    all true = All-append (OwnIsKnown l f) (items_of l (passes l.kind f.role) f) (thunk_items l f) (of_passes (passes l.kind f.role)) (of_thunks (thunks_of l f))
    all false = All-nil (OwnIsKnown l f)
