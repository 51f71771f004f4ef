-- A world that answers for each dynamic symbol: what another module has of one that may be replaced, else what the output has.
use Rattle.wild_worlds.proofs.Common.{◌≡◌, ℕ, suc, ◌+◌, ◌-◌, ◌%◌, ◌^◌, ◌<◌, ◌⊎◌, inl, inr, Bool, true, false, List, [], ◌∷◌, length, get_or, refl, sym, ap, ◌∙◌, arith, subst, Option, Some, None, Ok, All, map, nat_le, option_map, slice_get, cases_Bool, All-nil, Resolution, Symbol, Layout, has_flag, absolute, ifunc, SymbolNumbers, World, answer_at, IsDefinedBy, HasRaw, IsReplaceable, AnswersSymbols, AreAddresses, OtherModule, AreNumbers, IsConsistent, one_symbol}
use Rattle.std.proofs.lemmas.Bool.{leb-true, leb-false}
use Rattle.std.proofs.lemmas.List.{length-map}
use Rattle.std.proofs.lemmas.List.Elements.{All-cons}
use Rattle.std.proofs.lemmas.Option.{slice_get-map, slice_get-get_or, slice_get_within}
use Rattle.wild_words.proofs.ListLemmas.{holds_at}
use Rattle.wild_needs.specs.DynamicSymbols.{dynamic_symbols}
use Rattle.wild_layout.specs.Geometry.{IsLaidOut}
use Rattle.wild_loader.specs.declared.world.Answer.{Answer}
use Rattle.wild_meaning.specs.Value.{IsSymbol, IsResolved, IsUnresolved, IsLocatedAt, IsValue, HasAnswer, with_base, may_be_replaced}
use Rattle.wild_meaning.specs.World.{IsKnownModule, IsAnswer, IsOwnAnswer, HasCopy, HasRoomFor, DoNotOverlap, first_module}
use Rattle.wild_worlds.specs.Worlds.{AreAnswered, IsOtherAnswer, other_module}
use Rattle.wild_laws.proofs.Symbols.{one_definition}

-- ---- the answers

abbrev null_answer : Answer
null_answer = record { address = 0; «module» = first_module; offset = 0; size = 0; bytes = [] }

abbrev index_of : Option ℕ → ℕ
index_of None = 0
index_of (Some p) = p

abbrev others_answer : OtherModule → ℕ → Answer
others_answer o p = record { address = o.address p; «module» = other_module; offset = o.offset p; size = o.size p; bytes = [] }

abbrev address_by : (indirect still : Bool) → (ℕ → ℕ) → ℕ → ℕ → ℕ
address_by true still answers base raw = answers ((base + raw) % 2 ^ 64)
address_by false still answers base raw = with_base still base raw

-- no bytes, in case the symbol is copied
abbrev own_answer : Layout → ℕ → (ℕ → ℕ) → Symbol → Resolution → Answer
own_answer l base answers s r = record {
  address = address_by (has_flag s.flags ifunc) (has_flag s.flags absolute) answers base r.raw_value;
  «module» = first_module;
  offset = (r.raw_value + (2 ^ 64 - l.tls.start)) % 2 ^ 64;
  size = s.size;
  bytes = [];
}

abbrev one_of : Bool → Answer → Answer → Answer
one_of true x y = x
one_of false x y = y

abbrev answer_by : Layout → ℕ → (ℕ → ℕ) → OtherModule → Symbol → Option Resolution → Answer
answer_by l base answers o s None = null_answer
answer_by l base answers o s (Some r) = one_of (may_be_replaced l.kind s.flags) (others_answer o (index_of r.dynamic_symbol_index)) (own_answer l base answers s r)

abbrev answer_to : Layout → ℕ → (ℕ → ℕ) → OtherModule → Option Symbol → Answer
answer_to l base answers o None = null_answer
answer_to l base answers o (Some s) = answer_by l base answers o s s.resolution

-- one for each entry of the dynamic symbol table
abbrev pub answers_of : Layout → ℕ → (ℕ → ℕ) → OtherModule → List Answer
answers_of l base answers o = null_answer ∷ map (λ (c : ℕ). answer_to l base answers o (slice_get l.symbols c)) (dynamic_symbols l)

-- a world with these answers, with pairs of the resolvers and of two modules
pub record HasAnswers (l : Layout) (w : World) (answers : ℕ → ℕ) (o : OtherModule) : Type 0 where
  pub symbols : w.symbols ≡ answers_of l w.base answers o
  pub own : w.own_module ≡ first_module
  pub near : IsKnownModule w first_module
  pub far : IsKnownModule w other_module
  pub answered : AreAnswered l w answers

-- ---- what the world answers for a symbol

answer_is : (l : Layout) (w : World) (answers : ℕ → ℕ) (o : OtherModule) (i : ℕ) (x : Answer) → IsLaidOut l → HasAnswers l w answers o → (h : HasAnswer l w i x) → x ≡ answer_by l w.base answers o h.symbol (Some h.resolution)
answer_is l w answers o i x laid has h =
    let e = laid.dynsyms.indexed h.definition h.index h.symbol h.resolution h.listed h.decided h.told in
    let f : ℕ → Answer = λ (c : ℕ). answer_to l w.base answers o (slice_get l.symbols c) in
    let given : slice_get (answers_of l w.base answers o) (suc e.0) ≡ Some x = subst (λ (k : ℕ). slice_get (answers_of l w.base answers o) k ≡ Some x) e.1 (subst (λ (xs : List Answer). slice_get xs h.index ≡ Some x) has.symbols h.given) in
    let mapped : slice_get (map f (dynamic_symbols l)) e.0 ≡ Some (f h.definition) = slice_get-map f (dynamic_symbols l) e.0 ∙ ap (λ (q : Option ℕ). option_map f q) e.2 in
    let both : Some x ≡ Some (f h.definition) = sym given ∙ mapped in
    let same : x ≡ f h.definition = cc in
    same ∙ ap (λ (q : Option Symbol). answer_to l w.base answers o q) h.listed ∙ ap (λ (q : Option Resolution). answer_by l w.base answers o h.symbol q) h.decided

-- whether it is another module's
chosen : (l : Layout) (w : World) (answers : ℕ → ℕ) (o : OtherModule) (i : ℕ) (x : Answer) (b : Bool) → IsLaidOut l → HasAnswers l w answers o → (h : HasAnswer l w i x) → IsReplaceable l i b
    → x ≡ one_of b (others_answer o (index_of h.resolution.dynamic_symbol_index)) (own_answer l w.base answers h.symbol h.resolution)
chosen l w answers o i x b laid has h is =
    let same = one_symbol l i is.definition h.definition is.symbol h.symbol is.defined h.defined is.listed h.listed in
    let told : may_be_replaced l.kind h.symbol.flags ≡ b = subst (λ (s : Symbol). may_be_replaced l.kind s.flags ≡ b) same is.told in
    answer_is l w answers o i x laid has h ∙ ap (λ (c : Bool). one_of c (others_answer o (index_of h.resolution.dynamic_symbol_index)) (own_answer l w.base answers h.symbol h.resolution)) told

pub others_found : (l : Layout) (w : World) (answers : ℕ → ℕ) (o : OtherModule) (i : ℕ) (x : Answer) → IsLaidOut l → HasAnswers l w answers o → IsReplaceable l i true → (h : HasAnswer l w i x) → IsOtherAnswer o h.index x
others_found l w answers o i x laid has is h =
    let e = chosen l w answers o i x true laid has h is ∙ ap (λ (q : Option ℕ). others_answer o (index_of q)) h.told in
    subst (λ (y : Answer). IsOtherAnswer o h.index y) (sym e) (record { address = refl; owner = refl; offset = refl; size = refl })

-- ---- the own answers

value_by : (w : World) (answers : ℕ → ℕ) (indirect still : Bool) (raw : ℕ) → answer_at w ((w.base + raw) % 2 ^ 64) ≡ Ok (answers ((w.base + raw) % 2 ^ 64)) → IsValue w indirect still raw (address_by indirect still answers w.base raw)
value_by w answers true still raw h = h
value_by w answers false still raw h = refl

-- the address of a symbol that was decided
pub raw_is : (l : Layout) (i c raw : ℕ) (s : Symbol) (r : Resolution) → IsDefinedBy l i c → IsSymbol l c s → s.resolution ≡ Some r → HasRaw l i raw → raw ≡ r.raw_value
raw_is l i c raw s r defined listed decided h = by_given l i c raw s r h.definition defined h.defined listed decided h.given
  where
    by_given : (l : Layout) (i c raw : ℕ) (s : Symbol) (r : Resolution) (d : ℕ) → IsDefinedBy l i c → IsDefinedBy l i d → IsSymbol l c s → s.resolution ≡ Some r → IsResolved l d raw ⊎ (IsUnresolved l d × IsLocatedAt l i raw) → raw ≡ r.raw_value
    by_given l i c raw s r d defined other listed decided (inl h) =
        let same = one_symbol l i c d s h.symbol defined other listed h.listed in
        let both : Some r ≡ Some h.resolution = sym decided ∙ ap (λ (t : Symbol). t.resolution) same ∙ h.decided in
        let one : h.resolution ≡ r = cc in
        h.value ∙ ap (λ (q : Resolution). q.raw_value) one
    by_given l i c raw s r d defined other listed decided (inr h) =
        let there = subst (λ (k : ℕ). IsSymbol l k s) (one_definition l i c d defined other) listed in
        let both : Some r ≡ None = sym decided ∙ h.0 s there in
        cc

own_given : (l : Layout) (w : World) (answers : ℕ → ℕ) (o : OtherModule) (i c : ℕ) (s : Symbol) (r : Resolution) → HasAnswers l w answers o → IsDefinedBy l i c → IsSymbol l c s → s.resolution ≡ Some r → IsOwnAnswer l w i (own_answer l w.base answers s r)
own_given l w answers o i c s r has defined listed decided = record {
  address = record {
    raw = r.raw_value;
    given = record { definition = c; defined = defined; given = inl (record { symbol = s; listed = listed; resolution = r; decided = decided; value = refl }) };
    indirect = has_flag s.flags ifunc;
    resolved = record { definition = c; defined = defined; symbol = s; listed = listed; flagged = refl };
    still = has_flag s.flags absolute;
    absolute = record { definition = c; defined = defined; symbol = s; listed = listed; flagged = refl };
    is = value_by w answers (has_flag s.flags ifunc) (has_flag s.flags absolute) r.raw_value (holds_at (λ (t : Symbol). (q : Resolution) → t.resolution ≡ Some q → answer_at w ((w.base + q.raw_value) % 2 ^ 64) ≡ Ok (answers ((w.base + q.raw_value) % 2 ^ 64))) l.symbols c s listed has.answered r decided);
  };
  owner = sym has.own;
  offset = λ raw h. ap (λ (n : ℕ). (n + (2 ^ 64 - l.tls.start)) % 2 ^ 64) (sym (raw_is l i c raw s r defined listed decided h));
  size = record { definition = c; defined = defined; symbol = s; listed = listed; size = refl };
}

owned : (l : Layout) (w : World) (answers : ℕ → ℕ) (o : OtherModule) (i : ℕ) (x : Answer) → IsLaidOut l → HasAnswers l w answers o → IsReplaceable l i false → HasAnswer l w i x → IsOwnAnswer l w i x
owned l w answers o i x laid has is h = subst (λ (y : Answer). IsOwnAnswer l w i y) (sym (chosen l w answers o i x false laid has h is)) (own_given l w answers o i h.definition h.symbol h.resolution has h.defined h.listed h.decided)

-- ---- copies

-- no answer has bytes
no_bytes : (l : Layout) (w : World) (answers : ℕ → ℕ) (o : OtherModule) (i : ℕ) (x : Answer) → IsLaidOut l → HasAnswers l w answers o → HasAnswer l w i x → length x.bytes ≡ 0
no_bytes l w answers o i x laid has h = ap (λ (y : Answer). length y.bytes) (answer_is l w answers o i x laid has h) ∙ of_one (may_be_replaced l.kind h.symbol.flags) (others_answer o (index_of h.resolution.dynamic_symbol_index)) (own_answer l w.base answers h.symbol h.resolution) refl refl
  where
    of_one : (b : Bool) (y z : Answer) → length y.bytes ≡ 0 → length z.bytes ≡ 0 → length (one_of b y z).bytes ≡ 0
    of_one true y z h g = h
    of_one false y z h g = g

copied : (l : Layout) (w : World) (answers : ℕ → ℕ) (o : OtherModule) (i raw : ℕ) (x : Answer) → IsLaidOut l → HasAnswers l w answers o → HasCopy l w i raw x → HasRoomFor l raw x
copied l w answers o i raw x laid has h =
    let none = no_bytes l w answers o i x laid has h.answer in
    record { within = omega (arith, none); behind = λ k lt. absurd (omega (arith, none, lt)) }

copies_apart : (l : Layout) (w : World) (answers : ℕ → ℕ) (o : OtherModule) (i j raw other : ℕ) (x y : Answer) → IsLaidOut l → HasAnswers l w answers o → HasCopy l w i raw x → HasCopy l w j other y → DoNotOverlap raw (length x.bytes) other (length y.bytes)
copies_apart l w answers o i j raw other x y laid has h g =
    let a = no_bytes l w answers o i x laid has h.answer in
    let b = no_bytes l w answers o j y laid has g.answer in
    by_order raw other (length x.bytes) (length y.bytes) a b (cases_Bool (nat_le raw other))
  where
    by_order : (raw other n m : ℕ) → n ≡ 0 → m ≡ 0 → (nat_le raw other ≡ true) ⊎ (nat_le raw other ≡ false) → DoNotOverlap raw n other m
    by_order raw other n m a b (inl t) = (let le = leb-true raw other t in inl (omega (arith, a, le)))
    by_order raw other n m a b (inr f) = (let gt = leb-false raw other f in inr (omega (arith, b, gt)))

-- ---- numbers

-- what is known of a symbol's numbers
record IsSmall (s : Symbol) : Type 0 where
  numbers : SymbolNumbers s
  size : s.size < 2 ^ 64

address_small : (indirect still : Bool) (answers : ℕ → ℕ) (base raw : ℕ) → AreAddresses answers → raw < 2 ^ 64 → address_by indirect still answers base raw < 2 ^ 64
address_small true still answers base raw small low = small ((base + raw) % 2 ^ 64)
address_small false true answers base raw small low = low
address_small false false answers base raw small low = omega arith

null_fits : (w : World) → IsKnownModule w first_module → IsAnswer w null_answer
null_fits w near = record { address = omega arith; offset = omega arith; size = omega arith; bytes = All-nil (λ (b : ℕ). b < 256); owner = omega arith; known = near }

others_fit : (w : World) (o : OtherModule) (p : ℕ) → AreNumbers o → IsKnownModule w other_module → IsAnswer w (others_answer o p)
others_fit w o p numbers far = record { address = numbers.address p; offset = numbers.offset p; size = numbers.size p; bytes = All-nil (λ (b : ℕ). b < 256); owner = omega arith; known = far }

own_fits : (l : Layout) (w : World) (answers : ℕ → ℕ) (s : Symbol) (r : Resolution) → AreAddresses answers → IsSmall s → s.resolution ≡ Some r → IsKnownModule w first_module → IsAnswer w (own_answer l w.base answers s r)
own_fits l w answers s r small is decided near = record {
  address = address_small (has_flag s.flags ifunc) (has_flag s.flags absolute) answers w.base r.raw_value small (is.numbers r decided).value;
  offset = omega arith;
  size = is.size;
  bytes = All-nil (λ (b : ℕ). b < 256);
  owner = omega arith;
  known = near;
}

answer_fits : (l : Layout) (w : World) (answers : ℕ → ℕ) (o : OtherModule) (q : Option Symbol) → AreAddresses answers → AreNumbers o → HasAnswers l w answers o → ((s : Symbol) → q ≡ Some s → IsSmall s) → IsAnswer w (answer_to l w.base answers o q)
answer_fits l w answers o None small numbers has each = null_fits w has.near
answer_fits l w answers o (Some s) small numbers has each = by_resolution l w answers o s s.resolution refl small numbers has (each s refl)
  where
    by_choice : (w : World) (b : Bool) (x y : Answer) → IsAnswer w x → IsAnswer w y → IsAnswer w (one_of b x y)
    by_choice w true x y h g = h
    by_choice w false x y h g = g

    by_resolution : (l : Layout) (w : World) (answers : ℕ → ℕ) (o : OtherModule) (s : Symbol) (q : Option Resolution) → s.resolution ≡ q → AreAddresses answers → AreNumbers o → HasAnswers l w answers o → IsSmall s → IsAnswer w (answer_by l w.base answers o s q)
    by_resolution l w answers o s None e small numbers has is = null_fits w has.near
    by_resolution l w answers o s (Some r) e small numbers has is =
        by_choice w (may_be_replaced l.kind s.flags) (others_answer o (index_of r.dynamic_symbol_index)) (own_answer l w.base answers s r)
        (others_fit w o (index_of r.dynamic_symbol_index) numbers has.far) (own_fits l w answers s r small is e has.near)

each_fits : {X Y : Type 0} (P : Y → Type 0) (f : X → Y) (xs : List X) → ((x : X) → P (f x)) → All P (map f xs)
each_fits P f [] h = All-nil P
each_fits P f (x ∷ xs) h = All-cons P (f x) (map f xs) (h x) (each_fits P f xs h)

-- ---- the whole

index_within : (l : Layout) (w : World) (answers : ℕ → ℕ) (o : OtherModule) (c p : ℕ) (s : Symbol) (r : Resolution) → IsLaidOut l → HasAnswers l w answers o → IsSymbol l c s → s.resolution ≡ Some r → r.dynamic_symbol_index ≡ Some p → p < length w.symbols
index_within l w answers o c p s r laid has there decided told =
    let e = laid.dynsyms.indexed c p s r there decided told in
    let low = slice_get_within (dynamic_symbols l) e.0 c e.2 in
    let is = e.1 in
    let f : ℕ → Answer = λ (d : ℕ). answer_to l w.base answers o (slice_get l.symbols d) in
    let long : length (map f (dynamic_symbols l)) ≡ length (dynamic_symbols l) = length-map (dynamic_symbols l) f in
    let inside : p < length (answers_of l w.base answers o) = omega (arith, low, is, long) in
    subst (λ (xs : List Answer). p < length xs) (sym has.symbols) inside

pub answers_symbols : (l : Layout) (w : World) (answers : ℕ → ℕ) (o : OtherModule) → IsLaidOut l → IsConsistent l → AreAddresses answers → AreNumbers o → HasAnswers l w answers o → AnswersSymbols l w
answers_symbols l w answers o laid told small numbers has = record {
  owner = subst (λ (n : ℕ). n < 2 ^ 64) (sym has.own) (omega arith);
  known = subst (λ (n : ℕ). IsKnownModule w n) (sym has.own) has.near;
  each = subst (λ (xs : List Answer). All (IsAnswer w) xs) (sym has.symbols)
      (All-cons (IsAnswer w) null_answer (map (λ (c : ℕ). answer_to l w.base answers o (slice_get l.symbols c)) (dynamic_symbols l)) (null_fits w has.near)
      (each_fits (IsAnswer w) (λ (c : ℕ). answer_to l w.base answers o (slice_get l.symbols c)) (dynamic_symbols l)
      (λ c. answer_fits l w answers o (slice_get l.symbols c) small numbers has (λ s e. record { numbers = holds_at SymbolNumbers l.symbols c s e told.numbers.symbols; size = holds_at (λ (t : Symbol). t.size < 2 ^ 64) l.symbols c s e told.sizes }))));
  there = λ k d lt r index decided listed. index_within l w answers o k index (get_or l.symbols k d) r laid has (slice_get-get_or l.symbols k d lt) decided listed;
  own = λ i x is h. owned l w answers o i x laid has is h;
  copies = λ i raw x h. copied l w answers o i raw x laid has h;
  apart = λ i j c d raw other x y first second differ h g. copies_apart l w answers o i j raw other x y laid has h g;
}
