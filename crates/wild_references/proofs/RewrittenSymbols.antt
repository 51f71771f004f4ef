-- Symbols of a loaded section, as the writer's flags tell them and as the reader does.
use Rattle.wild_references.proofs.Common.{◌≡◌, ℕ, ◌^◌, ◌<◌, ◌⊎◌, inl, inr, Bool, true, false, length, refl, sym, ap, ◌∙◌, arith, subst, ◌&&◌, ◌||◌, not, Option, Some, None, All, slice_get_inside, holds_at, Symbol, ValueFlags, Layout, has_flag, interposable, dynamic, ifunc, non_interposable, copy_relocation, export_dynamic, canonical, flags_at, DefinitionNames, Memory, World, Answer, IsSymbol, IsDefinedBy, IsResolved, IsUnresolved, IsLocatedAt, HasRaw, HasFlag, IsValue, HasOwnValue, is_library, IsReplaceable, HasAnswer, with_base, Denotes, IsAnswer, canonical_is, flag_is, IsPlaced}
use Rattle.wild_layout.specs.SlotOrder.{EachAgrees}
use Rattle.wild_layout.specs.Numbers.{SymbolNumbers}

-- ---- definitions

-- the definition of a symbol, with the flags that the writer knows
pub record IsDefined (l : Layout) (i : ℕ) : Type 0 where
  pub symbol : Symbol
  pub listed : IsSymbol l (canonical l i) symbol
  pub defined : IsDefinedBy l i (canonical l i)
  pub flags : flags_at l i ≡ symbol.flags

canonical_of : (l : Layout) (i c : ℕ) (s : Symbol) → IsSymbol l i s → (s.definition ≡ Some c) ⊎ ((s.definition ≡ None) × (c ≡ i)) → canonical l i ≡ c
canonical_of l i c s listed (inl other) = rw (listed, other) refl
canonical_of l i c s listed (inr own) = rw (listed, own.0) (sym own.1)

defined_at : (l : Layout) (i c : ℕ) (t : Symbol) → IsDefinedBy l i c → IsSymbol l c t → IsDefined l i
defined_at l i c t d listed =
    let e : c ≡ canonical l i = sym (canonical_is l i c d) in
    let there = subst (λ (k : ℕ). IsSymbol l k t) e listed in
    record { symbol = t; listed = there; defined = subst (λ (k : ℕ). IsDefinedBy l i k) e d; flags = rw there refl }

pub definition : (l : Layout) (i : ℕ) → All (DefinitionNames l) l.symbols → i < length l.symbols → IsDefined l i
definition l i named below = (let t = slice_get_inside l.symbols i below in by_symbol t.0 t.1)
  where
    by_definition : (s : Symbol) (o : Option ℕ) → IsSymbol l i s → s.definition ≡ o → IsDefined l i
    by_definition s None listed e = defined_at l i i s (record { symbol = s; listed = listed; defined = inr (e, refl) }) listed
    by_definition s (Some c) listed e =
        let t = slice_get_inside l.symbols c (holds_at (DefinitionNames l) l.symbols i s listed named c e) in
        defined_at l i c t.0 (record { symbol = s; listed = listed; defined = inl e }) t.1

    by_symbol : (s : Symbol) → IsSymbol l i s → IsDefined l i
    by_symbol s listed = by_definition s s.definition listed refl

pub flag_of : (l : Layout) (i flag : ℕ) (b : Bool) → IsDefined l i → has_flag (flags_at l i) flag ≡ b → HasFlag l i flag b
flag_of l i flag b d h = record { definition = canonical l i; defined = d.defined; symbol = d.symbol; listed = d.listed; flagged = sym (ap (λ (f : ValueFlags). has_flag f flag) d.flags) ∙ h }

-- ---- symbols that no other module replaces

kept_by : (other copied library exported fixed : Bool) → (not other || not fixed) ≡ true → not fixed ≡ false → ((other && not copied) || (library && (exported && not fixed))) ≡ false
kept_by true copied library exported true h e = cc
kept_by false copied true true true h e = refl
kept_by false copied true false true h e = refl
kept_by false copied false exported true h e = refl
kept_by other copied library exported false h e = cc

pub own_one : (l : Layout) (i : ℕ) → EachAgrees l → IsDefined l i → interposable (flags_at l i) ≡ false → IsReplaceable l i false
own_one l i flags d h =
    let f = d.symbol.flags in
    let kept : interposable f ≡ false = sym (ap (λ (x : ValueFlags). interposable x) d.flags) ∙ h in
    record { definition = canonical l i; defined = d.defined; symbol = d.symbol; listed = d.listed; told = kept_by (has_flag f dynamic) (has_flag f copy_relocation) (is_library l.kind) (has_flag f export_dynamic) (has_flag f non_interposable) (flags.defined i d.symbol d.listed).interposable kept }

-- ---- values are numbers of the machine

raw_small : (l : Layout) (w : World) (m : Memory) (i a : ℕ) → IsPlaced l w m → HasRaw l i a → a < 2 ^ 64
raw_small l w m i a p h = by_case h.given
  where
    by_case : IsResolved l h.definition a ⊎ (IsUnresolved l h.definition × IsLocatedAt l i a) → a < 2 ^ 64
    by_case (inl t) =
        let n = holds_at (λ (s : Symbol). SymbolNumbers s) l.symbols h.definition t.symbol t.listed p.symbols.numbers in
        let low = (n t.resolution t.decided).value in
        let e = t.value in
        omega (arith, low, e)
    by_case (inr t) = (let e = t.1.address in omega (arith, e))

moved_small : (still : Bool) (base raw : ℕ) → raw < 2 ^ 64 → with_base still base raw < 2 ^ 64
moved_small true base raw h = h
moved_small false base raw h = omega arith

own_small : (l : Layout) (w : World) (m : Memory) (i a : ℕ) → IsPlaced l w m → has_flag (flags_at l i) ifunc ≡ false → HasOwnValue l w i a → a < 2 ^ 64
own_small l w m i a p plain h =
    let direct : h.indirect ≡ false = sym (flag_is l i ifunc h.indirect h.resolved) ∙ plain in
    let is : IsValue w false h.still h.raw a = subst (λ (b : Bool). IsValue w b h.still h.raw a) direct h.is in
    let low = moved_small h.still w.base h.raw (raw_small l w m i h.raw p h.given) in
    omega (arith, is, low)

answer_small : (l : Layout) (w : World) (m : Memory) (i : ℕ) (x : Answer) → IsPlaced l w m → HasAnswer l w i x → x.address < 2 ^ 64
answer_small l w m i x p h = (holds_at (IsAnswer w) w.symbols h.index x h.given p.legal.symbols.each).address

pub denoted_small : (l : Layout) (w : World) (m : Memory) (i a : ℕ) → IsPlaced l w m → has_flag (flags_at l i) ifunc ≡ false → Denotes l w m i a → a < 2 ^ 64
denoted_small l w m i a p plain (inl (inl h)) = (let low = answer_small l w m i h.1 p h.2 in let e = h.3 in omega (arith, low, e))
denoted_small l w m i a p plain (inl (inr h)) = own_small l w m i a p plain h.1
denoted_small l w m i a p plain (inr h) = (let e = h.moves in omega (arith, e))
