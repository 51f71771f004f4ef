-- What the writer knows of a symbol, and what the reader does.
use Rattle.wild_references.proofs.Common.{◌≡◌, ℕ, ◌<◌, ◌⊎◌, inl, inr, Bool, true, false, length, get_or, refl, sym, ap, ◌∙◌, subst, Option, Some, None, All, option_and_then, option_map, unwrap_or, slice_get, slice_get-get_or, slice_get_within, get_or_from_slice_get, slice_get_inside, Place, Resolution, Symbol, ValueFlags, Layout, has_flag, canonical, flags_at, symbol_size, resolution_of, DefinitionNames, IsSymbol, IsDefinedBy, HasRaw, HasFlag, IsReplaceable, may_be_replaced, canonical_is}
use Rattle.wild_types.specs.declared.symbol.Place.TheVariants as at
use Rattle.wild_layout.specs.SymbolValues.{definition_of, is_nowhere, is_undefined}
use Rattle.wild_meaning.specs.Value.{IsUndefined, HasOwnSize}
use Rattle.wild_meaning.proofs.SymbolLemmas.{own_definition}

-- ---- definitions

pub definition_listed : (l : Layout) (i c : ℕ) → All (DefinitionNames l) l.symbols → IsDefinedBy l i c → (s : Symbol) × IsSymbol l c s
definition_listed l i c named d = by_case l i c d.symbol named d.listed d.defined
  where
    by_case : (l : Layout) (i c : ℕ) (symbol : Symbol) → All (DefinitionNames l) l.symbols → IsSymbol l i symbol → (symbol.definition ≡ Some c) ⊎ ((symbol.definition ≡ None) × (c ≡ i)) → (s : Symbol) × IsSymbol l c s
    by_case l i c symbol named listed (inr own) = (symbol, subst (λ (k : ℕ). IsSymbol l k symbol) (sym own.1) listed)
    by_case l i c symbol named listed (inl other) =
        let within = slice_get_within l.symbols i symbol listed in
        let at = get_or_from_slice_get l.symbols i symbol symbol listed in
        let names = subst (λ (s : Symbol). DefinitionNames l s) at (named i symbol within) in
        let below : c < length l.symbols = names c other in
        (get_or l.symbols c symbol, slice_get-get_or l.symbols c symbol below)

-- a listed symbol has a definition
pub defined_by : (l : Layout) (i : ℕ) (symbol : Symbol) → IsSymbol l i symbol → IsDefinedBy l i (canonical l i)
defined_by l i symbol listed = by_definition symbol.definition refl
  where
    by_definition : (o : Option ℕ) → symbol.definition ≡ o → IsDefinedBy l i (canonical l i)
    by_definition None e = record { symbol = symbol; listed = listed; defined = inr (e, rw (listed, e) refl) }
    by_definition (Some c) e = record { symbol = symbol; listed = listed; defined = inl (let same : canonical l i ≡ c = rw (listed, e) refl in e ∙ ap Some (sym same)) }

-- what the writer knows of its flags
pub flags_are : (l : Layout) (i c : ℕ) (s : Symbol) → IsDefinedBy l i c → IsSymbol l c s → flags_at l i ≡ s.flags
flags_are l i c s d listed = let e = canonical_is l i c d in rw (e, listed) refl

-- ---- what was decided

-- something was decided of symbol i's definition
pub record IsResolvedBy (l : Layout) (i : ℕ) (r : Resolution) : Type 0 where
  pub symbol : Symbol
  pub listed : IsSymbol l (canonical l i) symbol
  pub defined : IsDefinedBy l i (canonical l i)
  pub decided : symbol.resolution ≡ Some r

pub resolved : (l : Layout) (i : ℕ) (r : Resolution) → resolution_of l i ≡ Some r → IsResolvedBy l i r
resolved l i r h = by_definition (definition_of l i) refl h
  where
    by_definition : (o : Option Symbol) → slice_get l.symbols (canonical l i) ≡ o → option_and_then (λ (s : Symbol). s.resolution) o ≡ Some r → IsResolvedBy l i r
    by_definition None e h = cc
    by_definition (Some s) e h = record { symbol = s; listed = e; defined = own_definition l i s e; decided = h }

-- its address is the symbol's
pub resolved_raw : (l : Layout) (i : ℕ) (r : Resolution) → IsResolvedBy l i r → HasRaw l i r.raw_value
resolved_raw l i r d = record { definition = canonical l i; defined = d.defined; given = inl (record { symbol = d.symbol; listed = d.listed; resolution = r; decided = d.decided; value = refl }) }

-- what is known of its flags
pub resolved_flag : (l : Layout) (i flag : ℕ) (r : Resolution) → (d : IsResolvedBy l i r) → HasFlag l i flag (has_flag d.symbol.flags flag)
resolved_flag l i flag r d = record { definition = canonical l i; defined = d.defined; symbol = d.symbol; listed = d.listed; flagged = refl }

-- ---- whose symbol it is

-- another module may have it, as its flags say
pub replaceable_by : (l : Layout) (i : ℕ) (r : Resolution) → (d : IsResolvedBy l i r) → IsReplaceable l i (may_be_replaced l.kind d.symbol.flags)
replaceable_by l i r d = record { definition = canonical l i; defined = d.defined; symbol = d.symbol; listed = d.listed; told = refl }

-- what the writer knows of it
pub replaceable_is : (l : Layout) (i : ℕ) (b : Bool) → IsReplaceable l i b → may_be_replaced l.kind (flags_at l i) ≡ b
replaceable_is l i b h = ap (λ (f : ValueFlags). may_be_replaced l.kind f) (flags_are l i h.definition h.symbol h.defined h.listed) ∙ h.told

pub replaceable_at : (l : Layout) (i : ℕ) (symbol : Symbol) → All (DefinitionNames l) l.symbols → IsSymbol l i symbol → IsReplaceable l i (may_be_replaced l.kind (flags_at l i))
replaceable_at l i symbol named listed =
    let d = defined_by l i symbol listed in
    let s = definition_listed l i (canonical l i) named d in
    record { definition = canonical l i; defined = d; symbol = s.0; listed = s.1; told = ap (λ (f : ValueFlags). may_be_replaced l.kind f) (sym (flags_are l i (canonical l i) s.0 d s.1)) }

-- its definition is one of the layout's symbols
pub definition_there : (l : Layout) (i : ℕ) → All (DefinitionNames l) l.symbols → i < length l.symbols → canonical l i < length l.symbols
definition_there l i named inside =
    let z = slice_get_inside l.symbols i inside in
    let s = definition_listed l i (canonical l i) named (defined_by l i z.0 z.1) in
    slice_get_within l.symbols (canonical l i) s.0 s.1

-- a flag of its definition
pub flag_at : (l : Layout) (i flag : ℕ) (symbol : Symbol) → All (DefinitionNames l) l.symbols → IsSymbol l i symbol → HasFlag l i flag (has_flag (flags_at l i) flag)
flag_at l i flag symbol named listed =
    let d = defined_by l i symbol listed in
    let s = definition_listed l i (canonical l i) named d in
    record { definition = canonical l i; defined = d; symbol = s.0; listed = s.1; flagged = ap (λ (f : ValueFlags). has_flag f flag) (sym (flags_are l i (canonical l i) s.0 d s.1)) }

-- ---- undefined symbols, and sizes

nowhere_is : (p : Place) → is_nowhere p ≡ true → p ≡ at.Undefined
nowhere_is at.Undefined h = refl
nowhere_is at.Absolute h = cc
nowhere_is at.Common h = cc
nowhere_is (at.Section k) h = cc
nowhere_is (at.Output k) h = cc

-- a symbol whose definition is there is listed
pub undefined : (l : Layout) (i : ℕ) (symbol : Symbol) → IsSymbol l i symbol → is_undefined l i ≡ true → IsUndefined l i
undefined l i symbol listed h = by_definition l i (defined_by l i symbol listed) (definition_of l i) refl h
  where
    by_definition : (l : Layout) (i : ℕ) → IsDefinedBy l i (canonical l i) → (o : Option Symbol) → slice_get l.symbols (canonical l i) ≡ o → unwrap_or (option_map (λ (s : Symbol). is_nowhere s.place) o) false ≡ true → IsUndefined l i
    by_definition l i d None e h = cc
    by_definition l i d (Some s) e h = record { definition = canonical l i; defined = d; symbol = s; listed = e; nowhere = nowhere_is s.place h }

-- what the writer knows of its size
pub own_size_is : (l : Layout) (i z : ℕ) → HasOwnSize l i z → z ≡ symbol_size l i
own_size_is l i z h =
    let e = canonical_is l i h.definition h.defined in
    let listed = h.listed in
    let same : symbol_size l i ≡ h.symbol.size = rw (e, listed) refl in
    h.size ∙ sym same

pub sized : (l : Layout) (i : ℕ) (symbol : Symbol) → All (DefinitionNames l) l.symbols → IsSymbol l i symbol → HasOwnSize l i (symbol_size l i)
sized l i symbol named listed =
    let d = defined_by l i symbol listed in
    let s = definition_listed l i (canonical l i) named d in
    record { definition = canonical l i; defined = d; symbol = s.0; listed = s.1; size = rw s.1 refl }
