-- What a layout tells of a symbol is one thing: by its definition, which is told.
use Rattle.wild_meaning.proofs.Common.{◌≡◌, ℕ, zero, suc, ◌+◌, ◌-◌, ◌%◌, ◌^◌, ◌<◌, ◌⊎◌, inl, inr, Bool, true, false, [], ◌∷◌, length, refl, sym, ap, ◌∙◌, subst, arith, Option, Some, None, Ok, Contains, All, slice_get, slice_index_or, option_and_then, Resolution, Symbol, Layout, has_flag, absolute, ifunc, World, Answer, Memory, distance_of, IsSymbol, IsDefinedBy, HasRaw, HasFlag, HasAnswer, HasValue, IsReplaceable, may_be_replaced, HasStub, HasThreadOffset}
use Rattle.std.specs.Prelude.{unwrap_or}
use Rattle.wild_types.specs.SymbolSlots.{resolved_plt, plt_of}
use Rattle.wild_words.proofs.ListLemmas.{holds_at}
use Rattle.wild_types.specs.declared.symbol.Place.TheVariants as at
use Rattle.wild_meaning.specs.Value.{IsResolved, IsUnresolved, IsLocatedAt, HasOwnValue, HasSize, IsUndefined, IsValue}
use Rattle.wild_meaning.specs.Denotes.{Denotes}
use Rattle.wild_meaning.specs.Thread.{HasOwnOffset}

-- the one element of a list
pub only : {X : Type 0} (a x : X) → Contains (a ∷ []) x → a ≡ x
only a x h = at a x h.0 h.1 h.2
  where
    at : {X : Type 0} (a x : X) (k : ℕ) → k < length (a ∷ []) → slice_index_or (a ∷ []) k x ≡ x → a ≡ x
    at a x zero lt e = e
    at a x (suc k) lt e = absurd (omega (arith, lt))

-- the symbol that defines symbol i
abbrev pub defining_symbol : Layout → ℕ → Option Symbol
defining_symbol l i = option_and_then (λ (s : Symbol). slice_get l.symbols (unwrap_or s.definition i)) (slice_get l.symbols i)

pub defining_symbol_is : (l : Layout) (i c : ℕ) (s t : Symbol) → defining_symbol l i ≡ Some t → IsDefinedBy l i c → IsSymbol l c s → s ≡ t
defining_symbol_is l i c s t e d a = at l i c s t d.symbol e d.listed (by i c d.symbol.definition d.defined) a
  where
    by : (i c : ℕ) (o : Option ℕ) → (o ≡ Some c) ⊎ ((o ≡ None) × (c ≡ i)) → unwrap_or o i ≡ c
    by i c o (inl e) = rw e refl
    by i c o (inr e) = rw e.0 (sym e.1)

    at : (l : Layout) (i c : ℕ) (s t u : Symbol) → defining_symbol l i ≡ Some t → IsSymbol l i u → unwrap_or u.definition i ≡ c → IsSymbol l c s → s ≡ t
    at l i c s t u e listed is a =
        let here : slice_get l.symbols (unwrap_or u.definition i) ≡ Some t = rw listed at e in
        let there : slice_get l.symbols c ≡ Some t = subst (λ (k : ℕ). slice_get l.symbols k ≡ Some t) is here in
        let both : Some s ≡ Some t = sym a ∙ there in
        cc

pub flag_of : (l : Layout) (i flag : ℕ) (b : Bool) (t : Symbol) → defining_symbol l i ≡ Some t → HasFlag l i flag b → has_flag t.flags flag ≡ b
flag_of l i flag b t e h = subst (λ (s : Symbol). has_flag s.flags flag ≡ b) (defining_symbol_is l i h.definition h.symbol t e h.defined h.listed) h.flagged

pub owner_of : (l : Layout) (i : ℕ) (b : Bool) (t : Symbol) → defining_symbol l i ≡ Some t → IsReplaceable l i b → may_be_replaced l.kind t.flags ≡ b
owner_of l i b t e h = subst (λ (s : Symbol). may_be_replaced l.kind s.flags ≡ b) (defining_symbol_is l i h.definition h.symbol t e h.defined h.listed) h.told

pub raw_of : (l : Layout) (i a : ℕ) (t : Symbol) (r : Resolution) → defining_symbol l i ≡ Some t → t.resolution ≡ Some r → HasRaw l i a → a ≡ r.raw_value
raw_of l i a t r e d h = by l i a h.definition t r e d h.defined h.given
  where
    by : (l : Layout) (i a c : ℕ) (t : Symbol) (r : Resolution) → defining_symbol l i ≡ Some t → t.resolution ≡ Some r → IsDefinedBy l i c → IsResolved l c a ⊎ (IsUnresolved l c × IsLocatedAt l i a) → a ≡ r.raw_value
    by l i a c t r e d f (inl h) =
        let same : h.symbol ≡ t = defining_symbol_is l i c h.symbol t e f h.listed in
        let decided : t.resolution ≡ Some h.resolution = subst (λ (s : Symbol). s.resolution ≡ Some h.resolution) same h.decided in
        let both : Some h.resolution ≡ Some r = sym decided ∙ d in
        let one : h.resolution ≡ r = cc in
        h.value ∙ ap (λ (x : Resolution). x.raw_value) one
    by l i a c t r e d f (inr h) = absurd (none_found l i c t r e d f h.0)
      where
        listed_so : (l : Layout) (i c : ℕ) (t u : Symbol) → defining_symbol l i ≡ Some t → IsSymbol l i u → unwrap_or u.definition i ≡ c → IsSymbol l c t
        listed_so l i c t u e a is = let here : slice_get l.symbols (unwrap_or u.definition i) ≡ Some t = rw a at e in subst (λ (k : ℕ). slice_get l.symbols k ≡ Some t) is here

        by_option : (i c : ℕ) (o : Option ℕ) → (o ≡ Some c) ⊎ ((o ≡ None) × (c ≡ i)) → unwrap_or o i ≡ c
        by_option i c o (inl e) = rw e refl
        by_option i c o (inr e) = rw e.0 (sym e.1)

        none_found : (l : Layout) (i c : ℕ) (t : Symbol) (r : Resolution) → defining_symbol l i ≡ Some t → t.resolution ≡ Some r → IsDefinedBy l i c → IsUnresolved l c → ⊥
        none_found l i c t r e d f h = let none = h t (listed_so l i c t f.symbol e f.listed (by_option i c f.symbol.definition f.defined)) in let both : Some r ≡ None = sym d ∙ none in cc

pub answer_is : (l : Layout) (w : World) (i k : ℕ) (x y : Answer) (t : Symbol) (r : Resolution) → defining_symbol l i ≡ Some t → t.resolution ≡ Some r → r.dynamic_symbol_index ≡ Some k → slice_get w.symbols k ≡ Some x → HasAnswer l w i y → y ≡ x
answer_is l w i k x y t r e d n g h =
    let same : h.symbol ≡ t = defining_symbol_is l i h.definition h.symbol t e h.defined h.listed in
    let decided : t.resolution ≡ Some h.resolution = subst (λ (s : Symbol). s.resolution ≡ Some h.resolution) same h.decided in
    let both : Some h.resolution ≡ Some r = sym decided ∙ d in
    let one : h.resolution ≡ r = cc in
    let number : r.dynamic_symbol_index ≡ Some h.index = subst (λ (x : Resolution). x.dynamic_symbol_index ≡ Some h.index) one h.told in
    let numbers : Some h.index ≡ Some k = sym number ∙ n in
    let at : h.index ≡ k = cc in
    let there : slice_get w.symbols k ≡ Some y = subst (λ (j : ℕ). slice_get w.symbols j ≡ Some y) at h.given in
    let answers : Some y ≡ Some x = sym there ∙ g in
    cc

-- without an index in the dynamic symbol table the world has no answer for it
pub no_answer : (l : Layout) (w : World) (i : ℕ) (y : Answer) (t : Symbol) (r : Resolution) → defining_symbol l i ≡ Some t → t.resolution ≡ Some r → r.dynamic_symbol_index ≡ None → HasAnswer l w i y → ⊥
no_answer l w i y t r e d n h =
    let same : h.symbol ≡ t = defining_symbol_is l i h.definition h.symbol t e h.defined h.listed in
    let decided : t.resolution ≡ Some h.resolution = subst (λ (s : Symbol). s.resolution ≡ Some h.resolution) same h.decided in
    let both : Some h.resolution ≡ Some r = sym decided ∙ d in
    let one : h.resolution ≡ r = cc in
    let number : r.dynamic_symbol_index ≡ Some h.index = subst (λ (x : Resolution). x.dynamic_symbol_index ≡ Some h.index) one h.told in
    let numbers : None ≡ Some h.index = sym n ∙ number in
    cc

-- no symbol has a stub
abbrev pub IsUnstubbed : Symbol → Type 0
IsUnstubbed s = plt_of s ≡ None

pub no_stubs : (l : Layout) (i p : ℕ) → All IsUnstubbed l.symbols → HasStub l i p → ⊥
no_stubs l i p all h =
    let none : plt_of h.symbol ≡ None = holds_at IsUnstubbed l.symbols h.definition h.symbol h.listed all in
    let there : plt_of h.symbol ≡ Some p = ap resolved_plt h.decided ∙ h.stub in
    let both : None ≡ Some p = sym none ∙ there in
    cc

-- ---- values

-- a symbol of the output's own, with these of its flags
pub record IsPlainOwn (l : Layout) (i raw : ℕ) : Type 0 where
  pub symbol : Symbol
  pub resolution : Resolution
  pub is : defining_symbol l i ≡ Some symbol
  pub decided : symbol.resolution ≡ Some resolution
  pub raw_is : resolution.raw_value ≡ raw
  pub own : may_be_replaced l.kind symbol.flags ≡ false
  pub plain : has_flag symbol.flags ifunc ≡ false
  pub moves : has_flag symbol.flags absolute ≡ false
  pub unstubbed : resolution.plt_address ≡ None

-- a symbol that may be another module's, of which the world answers that
pub record IsAnsweredAs (l : Layout) (w : World) (i : ℕ) (x : Answer) : Type 0 where
  pub symbol : Symbol
  pub resolution : Resolution
  pub index : ℕ
  pub is : defining_symbol l i ≡ Some symbol
  pub decided : symbol.resolution ≡ Some resolution
  pub replaced : may_be_replaced l.kind symbol.flags ≡ true
  pub moves : has_flag symbol.flags absolute ≡ false
  pub has_dynamic_index : resolution.dynamic_symbol_index ≡ Some index
  pub given : slice_get w.symbols index ≡ Some x
  pub unstubbed : resolution.plt_address ≡ None

pub stub_of : (l : Layout) (i p : ℕ) (t : Symbol) (r : Resolution) → defining_symbol l i ≡ Some t → t.resolution ≡ Some r → r.plt_address ≡ None → HasStub l i p → ⊥
stub_of l i p t r e d none h =
    let same : h.symbol ≡ t = defining_symbol_is l i h.definition h.symbol t e h.defined h.listed in
    let decided : t.resolution ≡ Some h.resolution = subst (λ (s : Symbol). s.resolution ≡ Some h.resolution) same h.decided in
    let both : Some h.resolution ≡ Some r = sym decided ∙ d in
    let one : h.resolution ≡ r = cc in
    let number : r.plt_address ≡ Some p = subst (λ (x : Resolution). x.plt_address ≡ Some p) one h.stub in
    let numbers : None ≡ Some p = sym none ∙ number in
    cc

-- the stub is at the address that the resolution has
pub stub_is : (l : Layout) (i p q : ℕ) (t : Symbol) (r : Resolution) → defining_symbol l i ≡ Some t → t.resolution ≡ Some r → r.plt_address ≡ Some q → HasStub l i p → q ≡ p
stub_is l i p q t r e d some h =
    let same : h.symbol ≡ t = defining_symbol_is l i h.definition h.symbol t e h.defined h.listed in
    let decided : t.resolution ≡ Some h.resolution = subst (λ (s : Symbol). s.resolution ≡ Some h.resolution) same h.decided in
    let both : Some h.resolution ≡ Some r = sym decided ∙ d in
    let one : h.resolution ≡ r = cc in
    let number : r.plt_address ≡ Some p = subst (λ (x : Resolution). x.plt_address ≡ Some p) one h.stub in
    let numbers : Some q ≡ Some p = sym some ∙ number in
    cc

pub own_value_of : (l : Layout) (w : World) (i raw a : ℕ) (t : Symbol) (r : Resolution) → defining_symbol l i ≡ Some t → t.resolution ≡ Some r → r.raw_value ≡ raw → has_flag t.flags ifunc ≡ false → has_flag t.flags absolute ≡ false → HasOwnValue l w i a → a ≡ (w.base + raw) % 2 ^ 64
own_value_of l w i raw a t r e d at plain moves h = by w raw a h.raw h.indirect h.still (raw_of l i h.raw t r e d h.given ∙ at) (sym (flag_of l i ifunc h.indirect t e h.resolved) ∙ plain) (sym (flag_of l i absolute h.still t e h.absolute) ∙ moves) h.is
  where
    by : (w : World) (raw a b : ℕ) (indirect still : Bool) → b ≡ raw → indirect ≡ false → still ≡ false → IsValue w indirect still b a → a ≡ (w.base + raw) % 2 ^ 64
    by w raw a b true still e f g h = absurd (let both : true ≡ false = f in cc)
    by w raw a b false true e f g h = absurd (let both : true ≡ false = g in cc)
    by w raw a b false false e f g h = h ∙ ap (λ (k : ℕ). (w.base + k) % 2 ^ 64) e

pub own_value : (l : Layout) (w : World) (i raw a : ℕ) → IsPlainOwn l i raw → HasOwnValue l w i a → a ≡ (w.base + raw) % 2 ^ 64
own_value l w i raw a p h = own_value_of l w i raw a p.symbol p.resolution p.is p.decided p.raw_is p.plain p.moves h

pub value_of : (l : Layout) (w : World) (i raw a : ℕ) → IsPlainOwn l i raw → HasValue l w i a → a ≡ (w.base + raw) % 2 ^ 64
value_of l w i raw a p (inl h) = absurd (let both : true ≡ false = sym (owner_of l i true p.symbol p.is h.0) ∙ p.own in cc)
value_of l w i raw a p (inr h) = own_value l w i raw a p h.1

pub denoted : (l : Layout) (w : World) (m : Memory) (i raw a : ℕ) → IsPlainOwn l i raw → Denotes l w m i a → a ≡ (w.base + raw) % 2 ^ 64
denoted l w m i raw a p (inl h) = value_of l w i raw a p h
denoted l w m i raw a p (inr h) = absurd (stub_of l i h.stub p.symbol p.resolution p.is p.decided p.unstubbed h.given)

pub other_value : (l : Layout) (w : World) (i a : ℕ) (x : Answer) → IsAnsweredAs l w i x → HasValue l w i a → a ≡ x.address
other_value l w i a x p (inl h) = h.3 ∙ ap (λ (y : Answer). y.address) (answer_is l w i p.index x h.1 p.symbol p.resolution p.is p.decided p.has_dynamic_index p.given h.2)
other_value l w i a x p (inr h) = absurd (let both : true ≡ false = sym p.replaced ∙ owner_of l i false p.symbol p.is h.0 in cc)

pub other_denoted : (l : Layout) (w : World) (m : Memory) (i a : ℕ) (x : Answer) → IsAnsweredAs l w i x → Denotes l w m i a → a ≡ x.address
other_denoted l w m i a x p (inl h) = other_value l w i a x p h
other_denoted l w m i a x p (inr h) = absurd (stub_of l i h.stub p.symbol p.resolution p.is p.decided p.unstubbed h.given)

-- ---- offsets and sizes

-- the symbol is defined somewhere
abbrev pub IsSomewhere : Layout → ℕ → Type 0
IsSomewhere l i = IsUndefined l i → ⊥

pub own_offset : (l : Layout) (w : World) (i raw d t : ℕ) → IsPlainOwn l i raw → 0 < raw → IsSomewhere l i → distance_of w w.own_module ≡ Ok d → HasThreadOffset l w i t → t ≡ (d + raw + (2 ^ 64 - l.tls.start)) % 2 ^ 64
own_offset l w i raw d t p low placed far (inl h) = absurd (let both : true ≡ false = sym (owner_of l i true p.symbol p.is h.0) ∙ p.own in cc)
own_offset l w i raw d t p low placed far (inr h) = by l w i raw d t p low placed far h.1
  where
    by : (l : Layout) (w : World) (i raw d t : ℕ) → (p : IsPlainOwn l i raw) → 0 < raw → IsSomewhere l i → distance_of w w.own_module ≡ Ok d → HasOwnOffset l w i t → t ≡ (d + raw + (2 ^ 64 - l.tls.start)) % 2 ^ 64
    by l w i raw d t p low placed far (inl h) =
        let both : Ok h.distance ≡ Ok d = sym h.own ∙ far in
        let same : h.distance ≡ d = cc in
        let at : h.raw ≡ raw = raw_of l i h.raw p.symbol p.resolution p.is p.decided h.given ∙ p.raw_is in
        h.sum ∙ ap (λ (k : ℕ). (k + h.raw + (2 ^ 64 - l.tls.start)) % 2 ^ 64) same ∙ ap (λ (k : ℕ). (d + k + (2 ^ 64 - l.tls.start)) % 2 ^ 64) at
    by l w i raw d t p low placed far (inr h) =
        elim h.0 [
          | inl u ↦ absurd (placed u)
          | inr z ↦ absurd (let at : 0 ≡ raw = raw_of l i 0 p.symbol p.resolution p.is p.decided z ∙ p.raw_is in omega (arith, at, low))
        ]

pub other_offset : (l : Layout) (w : World) (i d t : ℕ) (x : Answer) → IsAnsweredAs l w i x → distance_of w x.«module» ≡ Ok d → HasThreadOffset l w i t → t ≡ (d + x.offset) % 2 ^ 64
other_offset l w i d t x p far (inl h) =
    let same : h.1.answer ≡ x = answer_is l w i p.index x h.1.answer p.symbol p.resolution p.is p.decided p.has_dynamic_index p.given h.1.given in
    let there : distance_of w x.«module» ≡ Ok h.1.distance = subst (λ (y : Answer). distance_of w y.«module» ≡ Ok h.1.distance) same h.1.known in
    let both : Ok h.1.distance ≡ Ok d = sym there ∙ far in
    let one : h.1.distance ≡ d = cc in
    h.1.sum ∙ ap (λ (y : Answer). (h.1.distance + y.offset) % 2 ^ 64) same ∙ ap (λ (k : ℕ). (k + x.offset) % 2 ^ 64) one
other_offset l w i d t x p far (inr h) = absurd (let both : true ≡ false = sym p.replaced ∙ owner_of l i false p.symbol p.is h.0 in cc)

pub other_size : (l : Layout) (w : World) (i z : ℕ) (x : Answer) → IsAnsweredAs l w i x → HasSize l w i z → z ≡ x.size
other_size l w i z x p (inl h) = h.3 ∙ ap (λ (y : Answer). y.size) (answer_is l w i p.index x h.1 p.symbol p.resolution p.is p.decided p.has_dynamic_index p.given h.2)
other_size l w i z x p (inr h) = absurd (let both : true ≡ false = sym p.replaced ∙ owner_of l i false p.symbol p.is h.0 in cc)

pub somewhere : (l : Layout) (i n : ℕ) (t : Symbol) → defining_symbol l i ≡ Some t → t.place ≡ at.Section n → IsSomewhere l i
somewhere l i n t e p h = let same = defining_symbol_is l i h.definition h.symbol t e h.defined h.listed in let both : at.Undefined ≡ at.Section n = sym h.nowhere ∙ ap (λ (s : Symbol). s.place) same ∙ p in cc

-- a symbol without another definition defines itself
pub defined_is : (l : Layout) (i c : ℕ) (t : Symbol) → IsSymbol l i t → t.definition ≡ None → IsDefinedBy l i c → c ≡ i
defined_is l i c t listed own h =
    let both : Some h.symbol ≡ Some t = sym h.listed ∙ listed in
    let same : h.symbol ≡ t = cc in
    by i c t own (subst (λ (s : Symbol). (s.definition ≡ Some c) ⊎ ((s.definition ≡ None) × (c ≡ i))) same h.defined)
  where
    by : (i c : ℕ) (t : Symbol) → t.definition ≡ None → (t.definition ≡ Some c) ⊎ ((t.definition ≡ None) × (c ≡ i)) → c ≡ i
    by i c t own (inl e) = absurd (let both : None ≡ Some c = sym own ∙ e in cc)
    by i c t own (inr e) = e.1
