-- A legal world of a layout is one of its outline.
use Rattle.wild_checker.proofs.Common.{◌≡◌, ℕ, zero, suc, ◌+◌, ◌-◌, ◌%◌, ◌^◌, ◌<◌, ◌≤◌, ◌⊎◌, inl, inr, Bool, true, false, ◌||◌, List, [], ◌∷◌, length, refl, sym, ap, ◌∙◌, arith, subst, Option, Some, None, Contains, slice_get, if◌then◌else◌, ◌==◌, ◌&&◌, not, nat_lt, set, replicate, w64, eqb-true, and_parts, not-true, All-contains, OutputKind, Machine, Layout, Resolution, Symbol, has_flag, absolute, ifunc, canonical, World, first_value, HasRaw, HasFlag, may_be_replaced, canonical_is, own_definition, first_filtered, Outline, number_term, value_of}
use Rattle.std.specs.Int.{cast_unsigned}
use Rattle.std.specs.List.{list_any, filter_map}
use Rattle.std.proofs.Math.Nat.{zero-mod}
use Rattle.std.proofs.lemmas.Bool.Decides.{leb_tells}
use Rattle.std.proofs.lemmas.List.{length-set, length-replicate}
use Rattle.std.proofs.lemmas.List.Sorted.{list_any-IsPermutation}
use Rattle.wild_words.proofs.Basics.{slice_get_inside}
use Rattle.wild_words.proofs.ListLemmas.{Contains-here, Contains-there, holds_at}
use Rattle.wild_records.proofs.FieldLemmas.{signed_fits}
use Rattle.wild_types.specs.declared.kind.OutputKind.TheVariants as output
use Rattle.wild_types.specs.declared.kind.RelocationModel.TheVariants as model
use Rattle.wild_types.specs.declared.kind.Machine.TheVariants as machine
use Rattle.wild_types.specs.declared.layout.Tls.{Tls}
use Rattle.wild_types.specs.Kinds.{is_executable, is_position_independent}
use Rattle.wild_loader.specs.declared.world.Answer.{Answer}
use Rattle.wild_meaning.specs.Thread.{rounded_up, thread_pointer_of, thread_pointer}
use Rattle.wild_meaning.specs.Value.{IsDefinedBy, IsLocatedAt, IsResolved, IsUnresolved, IsValue, with_base}
use Rattle.wild_meaning.specs.World.{IsOwnAnswer, first_module, IsFixed, IsLoadable, IsExecutable, IsLegal, IsAnswer, IsAnswered, HasResolver}
use Rattle.wild_terms.specs.declared.outline.KnownAnswer.{KnownAnswer}
use Rattle.wild_terms.specs.declared.outline.KnownAnswer.TheVariants.{Foreign}
use Rattle.wild_terms.specs.declared.term.Atom.TheVariants.{Base}
use Rattle.wild_terms.specs.Outline.{has_resolver}
use Rattle.wild_terms.specs.Values as terms
use Rattle.wild_checker.specs.Outline.{end_by, index_by, index_end, greatest_end, address_by, resolver_of, next_multiple, pointer_of, program_of, answer_count, own_answer, is_own, with_answer, with_resolved, with_symbol, with_symbols, known_answers, IsOutlineOf, WorldsAreOutlined}

-- ---- answers

-- an index below the greatest end is at most one that a symbol has
record HasSymbolIndex (ss : List Symbol) (i : ℕ) : Type 0 where
  symbol : Symbol
  listed : Contains ss symbol
  resolution : Resolution
  decided : symbol.resolution ≡ Some resolution
  index : ℕ
  given : resolution.dynamic_symbol_index ≡ Some index
  below : i ≤ index

told_by : (s : Symbol) (ss : List Symbol) (i : ℕ) → i < index_end s → HasSymbolIndex (s ∷ ss) i
told_by s ss i l = by_resolution s.resolution refl l
  where
    by_index : (r : Resolution) → s.resolution ≡ Some r → (x : Option ℕ) → r.dynamic_symbol_index ≡ x → i < end_by x → HasSymbolIndex (s ∷ ss) i
    by_index r e None f l = absurd (omega (arith, l))
    by_index r e (Some n) f l = record { symbol = s; listed = Contains-here s ss; resolution = r; decided = e; index = n; given = f; below = omega (arith, l) }

    by_resolution : (x : Option Resolution) → s.resolution ≡ x → i < index_by x → HasSymbolIndex (s ∷ ss) i
    by_resolution None e l = absurd (omega (arith, l))
    by_resolution (Some r) e l = by_index r e r.dynamic_symbol_index refl l

told : (ss : List Symbol) (i : ℕ) → i < greatest_end ss → HasSymbolIndex ss i
told [] i l = absurd (omega (arith, l))
told (s ∷ ss) i l = elim (leb_tells (suc i) (index_end s)) [
  | inl t ↦ (let u = t.1 in told_by s ss i (omega (arith, u)))
  | inr t ↦ (
      let u = t.1 in
      let more = told ss i (omega (arith, l, u)) in
      record { symbol = more.symbol; listed = Contains-there more.symbol s ss more.listed; resolution = more.resolution; decided = more.decided; index = more.index; given = more.given; below = more.below })
]

known_answer : (w : World) (x : Answer) → IsAnswer w x → terms.IsKnown w x
known_answer w x k = record {
  address = k.address;
  owner = k.owner;
  offset = k.offset;
  size = k.size;
  distance = k.known.distance;
  known = first_filtered w.modules x.module k.known.distance k.known.pair;
}

fixed_kind : (k : OutputKind) → IsLoadable k → is_position_independent k ≡ false → IsFixed k
fixed_kind (output.StaticExecutable model.NonRelocatable) can e = tt
fixed_kind (output.StaticExecutable model.Relocatable) can e = cc
fixed_kind (output.DynamicExecutable model.NonRelocatable) can e = tt
fixed_kind (output.DynamicExecutable model.Relocatable) can e = cc
fixed_kind output.SharedObject can e = cc
fixed_kind output.PartialObject can e = elim can [ inl x ↦ x | inr y ↦ absurd y ]

-- what is known of the answer with an index agrees with the world's answer
abbrev AgreesAt : World → ℕ → KnownAnswer → Type 0
AgreesAt w n a = (x : Answer) → slice_get w.symbols n ≡ Some x → terms.Agrees w x a

abbrev AllAgree : World → List KnownAnswer → Type 0
AllAgree w known = (n : ℕ) (a : KnownAnswer) → slice_get known n ≡ Some a → AgreesAt w n a

get_replicated : (c n : ℕ) (a : KnownAnswer) → slice_get (replicate c Foreign) n ≡ Some a → a ≡ Foreign
get_replicated zero n a h = cc
get_replicated (suc c) zero a h = cc
get_replicated (suc c) (suc n) a h = get_replicated c n a h

foreign_agree : (w : World) (c : ℕ) → AllAgree w (replicate c Foreign)
foreign_agree w c n a h x given = (let P : KnownAnswer → Type 0 = λ b. terms.Agrees w x b in subst P (sym (get_replicated c n a h)) tt)

get_set : (known : List KnownAnswer) (m n : ℕ) (a b : KnownAnswer) → slice_get (set known m b) n ≡ Some a → ((b ≡ a) × (m ≡ n)) ⊎ (slice_get known n ≡ Some a)
get_set [] m n a b h = cc
get_set (y ∷ ys) zero zero a b h = (let same : b ≡ a = cc in inl (same, refl))
get_set (y ∷ ys) zero (suc n) a b h = inr h
get_set (y ∷ ys) (suc m) zero a b h = inr h
get_set (y ∷ ys) (suc m) (suc n) a b h = by (get_set ys m n a b h)
  where
    by : ((b ≡ a) × (m ≡ n)) ⊎ (slice_get ys n ≡ Some a) → ((b ≡ a) × (suc m ≡ suc n)) ⊎ (slice_get ys n ≡ Some a)
    by (inl p) = inl (p.0, ap suc p.1)
    by (inr p) = inr p

set_agrees : (w : World) (known : List KnownAnswer) (m : ℕ) (b : KnownAnswer) → AllAgree w known → AgreesAt w m b → AllAgree w (set known m b)
set_agrees w known m b all one n a h = by (get_set known m n a b h)
  where
    by : ((b ≡ a) × (m ≡ n)) ⊎ (slice_get known n ≡ Some a) → AgreesAt w n a
    by (inl p) = (let P : KnownAnswer → Type 0 = λ c. AgreesAt w n c in let Q : ℕ → Type 0 = λ k. AgreesAt w k b in subst P p.0 (subst Q p.1 one))
    by (inr p) = all n a p

-- the definition of a symbol is one
same_symbol : (l : Layout) (i c : ℕ) (d s : Symbol) → slice_get l.symbols (canonical l i) ≡ Some d → IsDefinedBy l i c → slice_get l.symbols c ≡ Some s → s ≡ d
same_symbol l i c d s there defined listed =
    let both : Some s ≡ Some d = sym listed ∙ ap (λ (n : ℕ). slice_get l.symbols n) (sym (canonical_is l i c defined)) ∙ there in
    cc

module _ (l : Layout) (w : World) (can : IsLoadable l.kind) (legal : IsLegal l w) where
  -- the world's answer for a symbol of the output's own
  module _ (i : ℕ) (s : Symbol) (r : Resolution) (n : ℕ) (x : Answer) (there : slice_get l.symbols (canonical l i) ≡ Some s) (decided : s.resolution ≡ Some r) (told : r.dynamic_symbol_index ≡ Some n) (kept : may_be_replaced l.kind s.flags ≡ false) (plain : has_flag s.flags ifunc ≡ false) (given : slice_get w.symbols n ≡ Some x) where
    defined : IsDefinedBy l i (canonical l i)
    defined = own_definition l i s there

    own : IsOwnAnswer l w i x
    own = legal.symbols.own i x (record { definition = canonical l i; defined = defined; symbol = s; listed = there; told = kept }) (record { definition = canonical l i; defined = defined; symbol = s; listed = there; resolution = r; decided = decided; index = n; told = told; given = given })

    low : x.address < 2 ^ 64
    low = (holds_at (IsAnswer w) w.symbols n x given legal.symbols.each).address

    raw_is : (raw : ℕ) → HasRaw l i raw → raw ≡ r.raw_value
    raw_is raw h = by h.given
      where
        by : IsResolved l h.definition raw ⊎ (IsUnresolved l h.definition × IsLocatedAt l i raw) → raw ≡ r.raw_value
        by (inl d) =
            let same = same_symbol l i h.definition s d.symbol there h.defined d.listed in
            let both : Some d.resolution ≡ Some r = sym d.decided ∙ ap (λ (y : Symbol). y.resolution) same ∙ decided in
            let one : d.resolution ≡ r = cc in
            d.value ∙ ap (λ (y : Resolution). y.raw_value) one
        by (inr d) =
            let listed : slice_get l.symbols h.definition ≡ Some s = ap (λ (m : ℕ). slice_get l.symbols m) (sym (canonical_is l i h.definition h.defined)) ∙ there in
            let none = d.0 s listed in
            let both : Some r ≡ None = sym decided ∙ none in
            cc

    flag_is : (flag : ℕ) (b : Bool) → HasFlag l i flag b → b ≡ has_flag s.flags flag
    flag_is flag b h = sym h.flagged ∙ ap (λ (y : Symbol). has_flag y.flags flag) (same_symbol l i h.definition s h.symbol there h.defined h.listed)

    base_zero : is_position_independent l.kind ≡ false → w.base ≡ 0
    base_zero e = legal.fixed (fixed_kind l.kind can e)

    value_is : (movable still : Bool) → is_position_independent l.kind ≡ movable → (raw : ℕ) → x.address ≡ with_base still w.base raw → x.address ≡ value_of w (if movable && not still then record { atom = Base; plus = raw } else number_term raw)
    value_is true true e raw h = whole x.address raw low h
      where
        whole : (a raw : ℕ) → a < 2 ^ 64 → a ≡ raw → a ≡ (0 + raw) % 2 ^ 64
        whole a raw low h = omega (arith, low, h)
    value_is true false e raw h = h
    value_is false true e raw h = whole x.address raw low h
      where
        whole : (a raw : ℕ) → a < 2 ^ 64 → a ≡ raw → a ≡ (0 + raw) % 2 ^ 64
        whole a raw low h = omega (arith, low, h)
    value_is false false e raw h = h ∙ ap (λ (b : ℕ). (b + raw) % 2 ^ 64) (base_zero e)

    agrees : terms.Agrees w x (own_answer l s r)
    agrees =
        let a = own.address in
        let raw = raw_is a.raw a.given in
        let indirect : a.indirect ≡ false = flag_is ifunc a.indirect a.resolved ∙ plain in
        let still = flag_is absolute a.still a.absolute in
        let I : Bool → Type 0 = λ b. IsValue w b a.still a.raw x.address in
        let is : x.address ≡ with_base a.still w.base a.raw = subst I indirect a.is in
        let S : Bool → Type 0 = λ b. x.address ≡ with_base b w.base a.raw in
        let R : ℕ → Type 0 = λ m. x.address ≡ with_base (has_flag s.flags absolute) w.base m in
        let z = own.size in (
          value_is (is_position_independent l.kind) (has_flag s.flags absolute) refl r.raw_value (subst R raw (subst S still is)),
          own.owner,
          own.offset a.raw a.given ∙ ap (λ (m : ℕ). (m + (2 ^ 64 - l.tls.start)) % 2 ^ 64) raw,
          z.size ∙ ap (λ (y : Symbol). y.size) (same_symbol l i z.definition s z.symbol there z.defined z.listed),
        )

  symbol_agrees : (i : ℕ) (s : Symbol) (known : List KnownAnswer) → slice_get l.symbols i ≡ Some s → AllAgree w known → AllAgree w (with_symbol l i s known)
  symbol_agrees i s known listed all = by_own (is_own l i s) refl
    where
      by_index : (r : Resolution) → s.resolution ≡ Some r → slice_get l.symbols (canonical l i) ≡ Some s → may_be_replaced l.kind s.flags ≡ false → has_flag s.flags ifunc ≡ false → (o : Option ℕ) → r.dynamic_symbol_index ≡ o → AllAgree w (with_answer o (own_answer l s r) known)
      by_index r d there kept plain None e = all
      by_index r d there kept plain (Some n) e = by (nat_lt n (length known))
        where
          by : (b : Bool) → AllAgree w (if b then set known n (own_answer l s r) else known)
          by false = all
          by true = set_agrees w known n (own_answer l s r) all (λ x given. agrees i s r n x there d e kept plain given)

      by_resolution : slice_get l.symbols (canonical l i) ≡ Some s → may_be_replaced l.kind s.flags ≡ false → has_flag s.flags ifunc ≡ false → (o : Option Resolution) → s.resolution ≡ o → AllAgree w (with_resolved l s o known)
      by_resolution there kept plain None e = all
      by_resolution there kept plain (Some r) e = by_index r e there kept plain r.dynamic_symbol_index refl

      by_own : (b : Bool) → is_own l i s ≡ b → AllAgree w (if b then with_resolved l s s.resolution known else known)
      by_own false e = all
      by_own true e =
          let a = and_parts (canonical l i == i) (not (may_be_replaced l.kind s.flags) && not (has_flag s.flags ifunc)) e in
          let b = and_parts (not (may_be_replaced l.kind s.flags)) (not (has_flag s.flags ifunc)) a.1 in
          let there : slice_get l.symbols (canonical l i) ≡ Some s = ap (λ (m : ℕ). slice_get l.symbols m) (eqb-true (canonical l i) i a.0) ∙ listed in
          by_resolution there (not-true (may_be_replaced l.kind s.flags) b.0) (not-true (has_flag s.flags ifunc) b.1) s.resolution refl

  symbols_agree : (ss : List Symbol) (i : ℕ) (known : List KnownAnswer) → ((j : ℕ) (s : Symbol) → slice_get ss j ≡ Some s → slice_get l.symbols (i + j) ≡ Some s) → AllAgree w known → AllAgree w (with_symbols l i ss known)
  symbols_agree [] i known at all = all
  symbols_agree (s ∷ ss) i known at all =
      let first : slice_get l.symbols i ≡ Some s = ap (λ (m : ℕ). slice_get l.symbols m) (sym (plus_zero i)) ∙ at 0 s refl in
      symbols_agree ss (i + 1) (with_symbol l i s known) (λ j t h. ap (λ (m : ℕ). slice_get l.symbols m) (plus_one i j) ∙ at (suc j) t h) (symbol_agrees i s known first all)
    where
      plus_zero : (i : ℕ) → i + 0 ≡ i
      plus_zero i = omega arith

      plus_one : (i j : ℕ) → i + 1 + j ≡ i + suc j
      plus_one i j = omega arith

  -- as many answers as before
  symbol_long : (i : ℕ) (s : Symbol) (known : List KnownAnswer) → length (with_symbol l i s known) ≡ length known
  symbol_long i s known = by_own (is_own l i s)
    where
      by_index : (r : Resolution) (o : Option ℕ) → length (with_answer o (own_answer l s r) known) ≡ length known
      by_index r None = refl
      by_index r (Some n) = by (nat_lt n (length known))
        where
          by : (b : Bool) → length (if b then set known n (own_answer l s r) else known) ≡ length known
          by false = refl
          by true = length-set known n (own_answer l s r)

      by_resolution : (o : Option Resolution) → length (with_resolved l s o known) ≡ length known
      by_resolution None = refl
      by_resolution (Some r) = by_index r r.dynamic_symbol_index

      by_own : (b : Bool) → length (if b then with_resolved l s s.resolution known else known) ≡ length known
      by_own false = refl
      by_own true = by_resolution s.resolution

  symbols_long : (ss : List Symbol) (i : ℕ) (known : List KnownAnswer) → length (with_symbols l i ss known) ≡ length known
  symbols_long [] i known = refl
  symbols_long (s ∷ ss) i known = symbols_long ss (i + 1) (with_symbol l i s known) ∙ symbol_long i s known

answered : (l : Layout) (o : Outline) (w : World) → IsLoadable l.kind → IsOutlineOf l o → IsLegal l w → (i : ℕ) (a : KnownAnswer) → slice_get o.symbols i ≡ Some a → terms.IsAnswered w i a
answered l o w can is legal i a given =
    let start = replicate (answer_count l.symbols) Foreign in
    let there : slice_get (known_answers l) i ≡ Some a = ap (λ (known : List KnownAnswer). slice_get known i) (sym is.symbols) ∙ given in
    let long : length (known_answers l) ≡ answer_count l.symbols = symbols_long l w can legal l.symbols 0 start ∙ length-replicate (answer_count l.symbols) Foreign in
    let within = get_within (known_answers l) i a there in
    let t = told l.symbols i (omega (arith, within, long)) in
    let at = All-contains (IsAnswered w) l.symbols t.symbol legal.symbols.there t.listed t.resolution t.index t.decided t.given in
    let below = t.below in
    let x = slice_get_inside w.symbols i (omega (arith, at, below)) in
    let agree = symbols_agree l w can legal l.symbols 0 start (λ j s h. ap (λ (m : ℕ). slice_get l.symbols m) (from_zero j) ∙ h) (foreign_agree w (answer_count l.symbols)) in
    record { answer = x.0; given = x.1; known = known_answer w x.0 (holds_at (IsAnswer w) w.symbols i x.0 x.1 legal.symbols.each); agrees = agree i a there x.0 x.1 }
  where
    from_zero : (j : ℕ) → 0 + j ≡ j
    from_zero j = omega arith

    get_within : {X : Type 0} (xs : List X) (i : ℕ) (x : X) → slice_get xs i ≡ Some x → i < length xs
    get_within [] i x h = cc
    get_within (y ∷ ys) zero x h = omega arith
    get_within (y ∷ ys) (suc i) x h = let m = get_within ys i x h in omega (arith, m)

-- ---- resolvers

-- a number that is made of a symbol
record Made (f : Symbol → Option ℕ) (ss : List Symbol) (n : ℕ) : Type 0 where
  symbol : Symbol
  listed : Contains ss symbol
  is : f symbol ≡ Some n

made : (f : Symbol → Option ℕ) (ss : List Symbol) (n : ℕ) → list_any (λ r. r == n) (filter_map f ss) ≡ true → Made f ss n
made f [] n h = cc
made f (s ∷ ss) n h = by_first (λ g. let m = made f ss n g in record { symbol = m.symbol; listed = Contains-there m.symbol s ss m.listed; is = m.is }) (f s) refl h
  where
    by_test : (list_any (λ r. r == n) (filter_map f ss) ≡ true → Made f (s ∷ ss) n) → (x : ℕ) → f s ≡ Some x → (b : Bool) → (x == n) ≡ b → (b || list_any (λ r. r == n) (filter_map f ss)) ≡ true → Made f (s ∷ ss) n
    by_test rest x e true t h = record { symbol = s; listed = Contains-here s ss; is = e ∙ ap Some (eqb-true x n t) }
    by_test rest x e false t h = rest h

    by_first : (list_any (λ r. r == n) (filter_map f ss) ≡ true → Made f (s ∷ ss) n) → (x : Option ℕ) → f s ≡ x → list_any (λ r. r == n) (filter_map f (s ∷ ss)) ≡ true → Made f (s ∷ ss) n
    by_first rest None e h = rest (rw e at h)
    by_first rest (Some x) e h = by_test rest x e (x == n) refl (rw e at h)

resolved : (l : Layout) (o : Outline) (w : World) → IsOutlineOf l o → IsLegal l w → (n : ℕ) → has_resolver o n ≡ true → terms.HasResolver w n
resolved l o w is legal n h =
    let same = list_any-IsPermutation (λ r. r == n) (filter_map resolver_of l.symbols) o.resolvers is.resolvers in
    let m = made resolver_of l.symbols n (same ∙ h) in
    by_flag m.symbol m.listed (has_flag m.symbol.flags ifunc) refl m.is
  where
    by_resolution : (s : Symbol) → Contains l.symbols s → has_flag s.flags ifunc ≡ true → (x : Option Resolution) → s.resolution ≡ x → address_by x ≡ Some n → terms.HasResolver w n
    by_resolution s c f None e h = cc
    by_resolution s c f (Some r) e h =
        let once = All-contains (HasResolver w) l.symbols s legal.resolvers c f r e in
        let raw : r.raw_value ≡ n = cc in
        let P : ℕ → Type 0 = λ k. first_value w.resolvers ((w.base + k) % 2 ^ 64) ≡ Some once.answer in
        record { answer = once.answer; given = subst P raw (first_filtered w.resolvers ((w.base + r.raw_value) % 2 ^ 64) once.answer once.pair); fits = once.fits }

    by_flag : (s : Symbol) → Contains l.symbols s → (b : Bool) → has_flag s.flags ifunc ≡ b → (if b then address_by s.resolution else None) ≡ Some n → terms.HasResolver w n
    by_flag s c true f h = by_resolution s c f s.resolution refl h
    by_flag s c false f h = cc

-- ---- thread-local data

-- 0 is no alignment
multiple_is : (n align : ℕ) → next_multiple n align ≡ rounded_up n align
multiple_is n align = by (align == 0) refl
  where
    by : (b : Bool) → (align == 0) ≡ b → (if b then n else n + (align - n % align) % align) ≡ rounded_up n align
    by false e = refl
    by true e =
        let zero = eqb-true align 0 e in
        let none : align - n % align ≡ 0 = omega (arith, zero) in
        let gap : (align - n % align) % align ≡ 0 = ap (λ (k : ℕ). k % align) none ∙ zero-mod align in
        omega (arith, gap)

pointer_is : (m : Machine) (t : Tls) → pointer_of m t ≡ thread_pointer_of m t
pointer_is machine.X86_64 t = multiple_is t.end t.align
pointer_is machine.AArch64 t = ap (λ (n : ℕ). t.start + (2 ^ 64 - n)) (multiple_is 16 t.align)

executable : (k : OutputKind) → is_executable k ≡ true → IsExecutable k
executable (output.StaticExecutable m) h = tt
executable (output.DynamicExecutable m) h = tt
executable output.SharedObject h = cc
executable output.PartialObject h = cc

-- an executable is the first module, and its data begin at their distance from the thread pointer
program_is : (l : Layout) (w : World) → IsLoadable l.kind → IsLegal l w → (d : ℕ) → program_of l ≡ Some d → terms.IsProgram w d
program_is l w can legal d h = by (is_executable l.kind) refl h
  where
    distance : (start pointer c d : ℕ) → (pointer + c) % 2 ^ 64 ≡ start → c < 2 ^ 64 → (start + (2 ^ 64 - pointer % 2 ^ 64)) % 2 ^ 64 ≡ d → c ≡ d
    distance start pointer c d begins low e = omega (arith, begins, low, e)

    by : (b : Bool) → is_executable l.kind ≡ b → (if b then Some ((l.tls.start + (2 ^ 64 - pointer_of l.machine l.tls % 2 ^ 64)) % 2 ^ 64) else None) ≡ Some d → terms.IsProgram w d
    by false e h = cc
    by true e h =
        let first = legal.first (executable l.kind e) in
        let given : (l.tls.start + (2 ^ 64 - pointer_of l.machine l.tls % 2 ^ 64)) % 2 ^ 64 ≡ d = cc in
        let same : (l.tls.start + (2 ^ 64 - thread_pointer l % 2 ^ 64)) % 2 ^ 64 ≡ d = ap (λ (p : ℕ). (l.tls.start + (2 ^ 64 - p % 2 ^ 64)) % 2 ^ 64) (sym (pointer_is l.machine l.tls)) ∙ given in
        let here = first_filtered w.modules first_module first.distance first.pair in
        let c = cast_unsigned w64 first.distance in
        let is : c ≡ d = distance l.tls.start (thread_pointer l) c d first.is.begins (signed_fits w64 first.distance first.is.fits) same in
        let known : terms.distance_or w first_module ≡ c = ap terms.unsigned_or here in
        record { owner = first.own; is = ap (terms.distance_or w) first.own ∙ known ∙ is }

pub worlds_outlined : WorldsAreOutlined
worlds_outlined l o w can is legal = record {
  fixed = λ f. legal.fixed (fixed_kind l.kind can (sym is.movable ∙ f));
  answered = answered l o w can is legal;
  resolvers = resolved l o w is legal;
  owner = legal.symbols.owner;
  distance = legal.symbols.known.distance;
  known = first_filtered w.modules w.own_module legal.symbols.known.distance legal.symbols.known.pair;
  program = λ d h. program_is l w can legal d (sym is.program ∙ h);
}
