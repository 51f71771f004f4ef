-- The worlds of images that are bound to each other are legal.
use Rattle.wild_bound.proofs.Common.{◌≡◌, ℕ, ℤ, zero, suc, ◌+◌, ◌-◌, ◌%◌, ◌^◌, ◌<◌, ◌≤◌, inl, true, false, List, [], ◌∷◌, length, get_or, All, refl, sym, ap, ◌∙◌, arith, subst, Option, Some, None, Ok, ◌==◌, pos, slice_get, w64, FitsSigned, slice_get_within, holds_at, SymtabEntry, Layout, Resolution, Symbol, has_flag, absolute, is_thread_symbol, Answer, World, LayoutsAreLaidOut, bytes, IsWritten, DynamicSymbolsAreRead, well_formed, may_be_replaced, Definition, NamedImage, BindsAreFirst, place_of, count_of, bind, symbol_of, thread_start_of, address_of, offset_of, answer_of, no_answer, thread_address, bound, SymbolNumbers, AnswerNumbers}
use Rattle.std.specs.List.{filter}
use Rattle.std.proofs.lemmas.Option.{slice_get-get_or}
use Rattle.wild_records.specs.Abi.Segment.{pt_load}
use Rattle.wild_records.specs.declared.program_header.ProgramHeader.{ProgramHeader}
use Rattle.wild_types.specs.declared.section.Segment.{Segment}
use Rattle.wild_types.specs.Flags.{ifunc}
use Rattle.wild_loader.specs.declared.memory.Memory.{Memory}
use Rattle.wild_loader.specs.Load.{load}
use Rattle.wild_loaded.proofs.CopiedSymbols.{raw_is}
use Rattle.wild_layout.specs.Numbers.{SymbolNumbers as ResolutionsFit}
use Rattle.wild_laws.specs.Laws.{ImagesAreSound}
use Rattle.wild_laws.proofs.Symbols.{one_symbol}
use Rattle.wild_meaning.specs.Value.{IsReplaceable, HasAnswer}
use Rattle.wild_meaning.specs.World.{IsFirstModule, HasResolver, IsKnownModule, IsAnswer, IsAnswered, IsOwnAnswer, first_module}
use Rattle.wild_meaning.specs.Thread.{IsOwnDistance}
use Rattle.wild_space.specs.declared.space.Bound.{Bound}
use Rattle.wild_space.specs.Binds.{base_of, base_of_image, distance_of, distance_of_image, answer_for, modules_of}
use Rattle.wild_space.specs.BoundLaws.{IsSameAnswer, IsMadeSymbol, IsMade, SpacesAreMade}
use Rattle.wild_space.specs.Order.{bytes_at}
use Rattle.wild_bound.specs.Legal.{BoundWorldsAreLegal, BoundImagesAreLinked}
use Rattle.wild_bound.specs.Premises.{HasOwnSymbol, HasPair, AreIndexesInRange, WorldNumbers, HasLayout}
use Rattle.wild_bound.proofs.AnswerLemmas.{IsAnswerFor, answered, bound_inside}
use Rattle.wild_bound.proofs.EntryLemmas.{table_entry}
use Rattle.wild_bound.proofs.ModuleLemmas.{pair_of, pair_none, kept_pair}
use Rattle.wild_bound.proofs.OwnLemmas.{bytes_are, symbol_is, start_is, itself_defined, IsOwnEntry, own_entry, address_is, offset_is, types_differ}

-- the laws on which the proof depends
pub record Laws : Type 0 where
  pub first : BindsAreFirst
  pub made : SpacesAreMade
  pub laid : LayoutsAreLaidOut
  pub read : DynamicSymbolsAreRead

-- ---- the world

-- what binding makes of a world
pub record IsMadeWorld (xs : List NamedImage) (rs : List (ℕ × ℕ)) (order : List ℕ) (n : ℕ) (w : World) : Type 0 where
  pub base : w.base ≡ base_of xs (place_of order n)
  pub resolvers : w.resolvers ≡ rs
  pub modules : w.modules ≡ modules_of xs order
  pub own : w.own_module ≡ n + 1
  pub symbols : ℕ
  pub counted : count_of xs (place_of order n) ≡ Ok symbols
  pub many : length w.symbols ≡ 1 + (symbols - 1)
  pub null : Answer
  pub has_null : slice_get w.symbols 0 ≡ Some null
  pub null_same : IsSameAnswer null no_answer
  pub binds : List (Option Definition)
  pub each : (k : ℕ) → 1 ≤ k → k < symbols → IsMadeSymbol xs order rs n k binds w

pub made_world : (xs : List NamedImage) (rs : List (ℕ × ℕ)) (b : Bound) (n : ℕ) (w : World) → IsMade xs rs b n → slice_get b.worlds n ≡ Some w → IsMadeWorld xs rs b.order n w
made_world xs rs b n w m is =
    let both : Some m.world ≡ Some w = sym m.has_world ∙ is in
    let same : m.world ≡ w = cc in
    let P : World → Type 0 = λ q. IsMadeWorld xs rs b.order n q in
    subst P same (record {
      base = m.base;
      resolvers = m.resolvers;
      modules = m.modules;
      own = m.own;
      symbols = m.symbols;
      counted = m.counted;
      many = m.many;
      null = m.null;
      has_null = m.has_null;
      null_same = m.null_same;
      binds = m.binds;
      each = m.each;
    })

-- ---- modules

known_by : (w : World) (m : ℕ) (d : ℤ) → WorldNumbers w → filter (λ (p : ℕ × ℤ). p.0 == m) w.modules ≡ (m, d) ∷ [] → IsKnownModule w m
known_by w m d numbers pair = record {
  distance = d;
  fits = kept_pair (λ (p : ℕ × ℤ). FitsSigned w64 p.1) (λ (p : ℕ × ℤ). p.0 == m) w.modules (m, d) pair numbers.modules;
  pair = pair;
}

-- the world has one pair for a module, as the list of modules has
abbrev HasOne : List (ℕ × ℤ) → ℕ → Type 0
HasOne modules m = (d : ℤ) × (filter (λ (p : ℕ × ℤ). p.0 == m) modules ≡ (m, d) ∷ [])

known_in : (w : World) (modules : List (ℕ × ℤ)) (m : ℕ) → WorldNumbers w → w.modules ≡ modules → HasOne modules m → IsKnownModule w m
known_in w modules m numbers is one = known_by w m one.0 numbers (subst (λ (ms : List (ℕ × ℤ)). filter (λ (p : ℕ × ℤ). p.0 == m) ms ≡ (m, one.0) ∷ []) (sym is) one.1)

one_for : BindsAreFirst → (xs : List NamedImage) (order : List ℕ) (rs : List (ℕ × ℕ)) (n k : ℕ) (o : Option Definition) (a : Answer) → n < length order → bind xs order n k ≡ Ok o → answer_for xs order rs o ≡ Ok a → HasOne (modules_of xs order) a.«module»
one_for law xs order rs n k None a lt is made =
    let same : no_answer ≡ a = cc in
    subst (λ (q : Answer). HasOne (modules_of xs order) q.«module») same (pos 0, pair_none xs order)
one_for law xs order rs n k (Some d) a lt is made =
    let r = answered xs order rs d a made in
    let inside = bound_inside law xs order n k d lt is in
    subst (HasOne (modules_of xs order)) (sym r.owner) (distance_of xs (get_or order d.image 0), pair_of xs order d.image inside)

-- the module of each answer has one pair
one_of_each : BindsAreFirst → (xs : List NamedImage) (rs : List (ℕ × ℕ)) (order : List ℕ) (n k : ℕ) (w : World) (x : Answer) → n < length order → IsMadeWorld xs rs order n w → slice_get w.symbols k ≡ Some x → HasOne (modules_of xs order) x.«module»
one_of_each law xs rs order n zero w x lt m is =
    let both : Some m.null ≡ Some x = sym m.has_null ∙ is in
    let same : m.null ≡ x = cc in
    let none : x.«module» ≡ 0 = ap (λ (q : Answer). q.«module») (sym same) ∙ m.null_same.owner in
    subst (HasOne (modules_of xs order)) (sym none) (pos 0, pair_none xs order)
one_of_each law xs rs order n (suc k) w x lt m is =
    let inside = slice_get_within w.symbols (suc k) x is in
    let many = m.many in
    let s = m.each (suc k) (omega arith) (omega (arith, inside, many)) in
    let both : Some s.answer ≡ Some x = sym s.answered ∙ is in
    let same : s.answer ≡ x = cc in
    let owner : x.«module» ≡ s.made.«module» = ap (λ (q : Answer). q.«module») (sym same) ∙ s.same.owner in
    subst (HasOne (modules_of xs order)) (sym owner) (one_for law xs order rs n (suc k) s.definition s.made lt s.bound s.is_made)

-- ---- resolvers

resolver_is : (w : World) (rs : List (ℕ × ℕ)) (base : ℕ) (s : Symbol) → w.resolvers ≡ rs → w.base ≡ base → HasPair rs base s → HasResolver w s
resolver_is w rs base s resolvers at has = λ flag r decided. (
    let p = has flag r decided in
    let a : (base + r.raw_value) % 2 ^ 64 ≡ (w.base + r.raw_value) % 2 ^ 64 = ap (λ (q : ℕ). (q + r.raw_value) % 2 ^ 64) (sym at) in
    record {
      answer = p.answer;
      fits = p.fits;
      pair = subst (λ (q : ℕ). filter (λ (t : ℕ × ℕ). t.0 == q) w.resolvers ≡ (q, p.answer) ∷ []) a (subst (λ (ps : List (ℕ × ℕ)). filter (λ (t : ℕ × ℕ). t.0 == (base + r.raw_value) % 2 ^ 64) ps ≡ ((base + r.raw_value) % 2 ^ 64, p.answer) ∷ []) (sym resolvers) p.pair);
    })

-- ---- own symbols

-- an answer by an own entry is the output's own
own_answer : (xs : List NamedImage) (order : List ℕ) (rs : List (ℕ × ℕ)) (n i : ℕ) (w : World) (l : Layout) (e : SymtabEntry) (made x : Answer) → (h : HasAnswer l w i x) → l.tls.start < 2 ^ 64 → w.resolvers ≡ rs → w.base ≡ base_of xs (place_of order n) → w.own_module ≡ n + 1
    → IsOwnEntry l h.symbol h.resolution e → (has_flag h.symbol.flags ifunc ≡ true → has_flag h.symbol.flags absolute ≡ false) → (a : IsAnswerFor xs order rs (record { image = n; index = h.index }) made) → a.entry ≡ e → a.start ≡ l.tls.start → IsSameAnswer x made → IsOwnAnswer l w i x
own_answer xs order rs n i w l e made x h low resolvers base own entry moves a is starts same =
    let s = h.symbol in
    let raw = h.resolution.raw_value in
    let b = base_of xs (place_of order n) in
    let at : address_of rs b l.tls.start e ≡ Ok x.address =
    subst (λ (q : ℕ). address_of rs b l.tls.start e ≡ Ok q) (sym same.address)
    (subst (λ (q : ℕ). address_of rs b q e ≡ Ok made.address) starts (subst (λ (q : SymtabEntry). address_of rs b a.start q ≡ Ok made.address) is a.address)) in
    let offset : x.offset ≡ offset_of l.tls.start e = same.offset ∙ a.offset ∙ ap (λ (q : ℕ). offset_of q a.entry) starts ∙ ap (λ (q : SymtabEntry). offset_of l.tls.start q) is in
    record {
      address = record {
        raw = raw;
        given = record { definition = h.definition; defined = h.defined; given = inl (record { symbol = s; listed = h.listed; resolution = h.resolution; decided = h.decided; value = refl }) };
        indirect = has_flag s.flags ifunc;
        resolved = record { definition = h.definition; defined = h.defined; symbol = s; listed = h.listed; flagged = refl };
        still = has_flag s.flags absolute;
        absolute = record { definition = h.definition; defined = h.defined; symbol = s; listed = h.listed; flagged = refl };
        is = address_is rs e w b raw l.tls.start x.address (has_flag s.flags absolute) (has_flag s.flags ifunc) (is_thread_symbol s) resolvers base low entry.still entry.indirect entry.thread moves (types_differ e.info (has_flag s.flags ifunc) (is_thread_symbol s) entry.indirect entry.thread) entry.value at;
      };
      owner = same.owner ∙ a.owner ∙ sym own;
      offset = λ other given. offset ∙ offset_is e raw l.tls.start (has_flag s.flags absolute) (is_thread_symbol s) entry.still entry.thread entry.value ∙ ap (λ (q : ℕ). (q + (2 ^ 64 - l.tls.start)) % 2 ^ 64) (raw_is l w i other x given h);
      size = record { definition = h.definition; defined = h.defined; symbol = s; listed = h.listed; size = same.size ∙ a.size ∙ ap (λ (q : SymtabEntry). q.size) is ∙ entry.size };
    }

-- the entry of an own symbol with an answer
record HasReadEntry (xs : List NamedImage) (i k : ℕ) (l : Layout) (s : Symbol) (r : Resolution) : Type 0 where
  entry : SymtabEntry
  there : symbol_of xs i k ≡ Ok entry
  own : IsOwnEntry l s r entry
  starts : thread_start_of xs i ≡ Ok l.tls.start

read_entry : Laws → (xs : List NamedImage) (rs : List (ℕ × ℕ)) (b : Bound) (n c k : ℕ) (l : Layout) (s : Symbol) (r : Resolution) → HasLayout xs rs b n l → HasOwnSymbol l c k s r → HasReadEntry xs (place_of b.order n) k l s r
read_entry laws xs rs b n c k l s r h o =
    let formed = well_formed l h.is.none in
    let laid = laws.laid l formed.0 formed.1 in
    let written : IsWritten l = record { dynamic = h.own.dynamic c k s r o; numbers = h.is.numbers; none = h.is.none; keeps = h.is.keeps } in
    let read = laws.read l written (h.own.hashes c k s r o) in
    let has = bytes_are xs (place_of b.order n) h.image l h.there h.is.is in
    let e = laid.dynsyms.indexed c k s r o.listed o.decided o.index in
    let plain = h.own.entries c k s r o in
    let t = table_entry l c e.0 s r e.2 o.listed plain o.decided in
    let back = read.each e.0 t.fields t.is in
    let place = e.1 in
    let same : e.0 + 1 ≡ k = omega (arith, place) in
    let there : symbol_of xs (place_of b.order n) k ≡ Ok back.entry = subst (λ (q : ℕ). symbol_of xs (place_of b.order n) q ≡ Ok back.entry) same (symbol_is xs (place_of b.order n) (e.0 + 1) l back.entry has read back.read) in
    let small = (holds_at ResolutionsFit l.symbols c s o.listed h.is.numbers.symbols r o.decided).value in
    let defined = itself_defined laws.first xs b.order n k back.entry (h.own.itself c k s r o) there in
    record {
      entry = back.entry;
      there = there;
      own = own_entry l read.tables (e.0 + 1) t.fields s r back t.are (holds_at SymbolNumbers l.symbols c s o.listed h.is.symbols) plain small defined;
      starts = start_is xs (place_of b.order n) l has read ∙ ap (λ (q : List ProgramHeader). Ok (thread_address q)) read.headers ∙ ap (λ (q : ℕ). Ok q) h.placed.threads;
    }

own_known : Laws → (xs : List NamedImage) (rs : List (ℕ × ℕ)) (b : Bound) (n i : ℕ) (l : Layout) (x : Answer) → (h : HasLayout xs rs b n l) → IsMadeWorld xs rs b.order n h.world → IsReplaceable l i false → HasAnswer l h.world i x → IsOwnAnswer l h.world i x
own_known laws xs rs b n i l x h m replaced a =
    let w = h.world in
    let k = a.index in
    let same = one_symbol l i replaced.definition a.definition replaced.symbol a.symbol replaced.defined a.defined replaced.listed a.listed in
    let own : may_be_replaced l.kind a.symbol.flags ≡ false = subst (λ (s : Symbol). may_be_replaced l.kind s.flags ≡ false) same replaced.told in
    let o : HasOwnSymbol l a.definition k a.symbol a.resolution = record { listed = a.listed; decided = a.decided; index = a.told; own = own } in
    let e = read_entry laws xs rs b n a.definition k l a.symbol a.resolution h o in
    let formed = well_formed l h.is.none in
    let laid = laws.laid l formed.0 formed.1 in
    let at = laid.dynsyms.indexed a.definition k a.symbol a.resolution a.listed a.decided a.told in
    let place = at.1 in
    let inside = slice_get_within w.symbols k x a.given in
    let many = m.many in
    let s = m.each k (omega (arith, place)) (omega (arith, place, inside, many)) in
    let d : Definition = record { image = n; index = k } in
    let two : Ok s.definition ≡ Ok (Some d) = sym s.bound ∙ h.own.itself a.definition k a.symbol a.resolution o in
    let one : s.definition ≡ Some d = cc in
    let is_made : answer_of xs b.order rs d ≡ Ok s.made = subst (λ (q : Option Definition). answer_for xs b.order rs q ≡ Ok s.made) one s.is_made in
    let f = answered xs b.order rs d s.made is_made in
    let entries : Ok f.entry ≡ Ok e.entry = sym f.there ∙ e.there in
    let entry : f.entry ≡ e.entry = cc in
    let both : Ok f.start ≡ Ok l.tls.start = sym f.starts ∙ e.starts in
    let start : f.start ≡ l.tls.start = cc in
    let answers : Some s.answer ≡ Some x = sym s.answered ∙ a.given in
    let answer : s.answer ≡ x = cc in
    own_answer xs b.order rs n i w l e.entry s.made x a h.is.numbers.tls.start m.resolvers m.base m.own e.own (h.own.entries a.definition k a.symbol a.resolution o).moves f entry start (subst (λ (q : Answer). IsSameAnswer q s.made) answer s.same)

-- ---- the whole

pub legal : Laws → BoundWorldsAreLegal
legal laws = λ xs rs b n l some is h.
    let w = h.world in
    let x = h.image in
    let m = made_world xs rs b n w ((laws.made xs rs b some is).1 n h.inside) h.has_world in
    let base : w.base ≡ x.base = m.base ∙ ap base_of_image h.there in
    let distance : distance_of xs (place_of b.order n) ≡ x.distance = ap distance_of_image h.there in
    record {
      aligned = ap (λ (q : ℕ). q % l.page_size) base ∙ h.placed.aligned;
      ends = subst (λ (q : ℕ). All (λ (g : Segment). g.kind ≡ pt_load → q + g.address + g.mem_size ≤ 2 ^ 64) l.segments) (sym base) h.placed.ends;
      fixed = λ fixed. base ∙ h.placed.fixed fixed;
      first = λ program. first_is xs b.order n l w x.distance h.inside m.own m.modules distance (h.placed.first program) (h.placed.distance program);
      resolvers = λ k d lt. resolver_is w rs x.base (get_or l.symbols k d) m.resolvers base (h.resolvers k d lt);
      symbols = record {
        owner = h.numbers.own;
        known = subst (IsKnownModule w) (sym m.own) (known_in w (modules_of xs b.order) (n + 1) h.numbers m.modules (distance_of xs (get_or b.order n 0), pair_of xs b.order n h.inside));
        each = λ k d lt. answer_is laws.first xs rs b.order n k w (get_or w.symbols k d) h.inside h.numbers m (slice_get-get_or w.symbols k d lt);
        there = λ k d lt. answered_by xs b.order n l k (get_or l.symbols k d) w m.symbols m.counted m.many h.indexes (slice_get-get_or l.symbols k d lt);
        own = λ i a replaced has. own_known laws xs rs b n i l a h m replaced has;
        copies = h.room.copies;
        apart = h.room.apart;
      };
    }
  where
    first_is : (xs : List NamedImage) (order : List ℕ) (n : ℕ) (l : Layout) (w : World) (d : ℤ) → n < length order → w.own_module ≡ n + 1 → w.modules ≡ modules_of xs order → distance_of xs (place_of order n) ≡ d → n ≡ 0 → IsOwnDistance l d → IsFirstModule l w
    first_is xs order n l w d inside own modules distance place is =
        let one : n + 1 ≡ first_module = ap (λ (q : ℕ). q + 1) place in
        let pair : filter (λ (p : ℕ × ℤ). p.0 == n + 1) (modules_of xs order) ≡ (n + 1, d) ∷ [] = pair_of xs order n inside ∙ ap (λ (q : ℤ). (n + 1, q) ∷ []) distance in
        record {
          own = own ∙ one;
          distance = d;
          pair = subst (λ (ms : List (ℕ × ℤ)). filter (λ (p : ℕ × ℤ). p.0 == first_module) ms ≡ (first_module, d) ∷ []) (sym modules) (subst (λ (q : ℕ). filter (λ (p : ℕ × ℤ). p.0 == q) (modules_of xs order) ≡ (q, d) ∷ []) one pair);
          is = is;
        }

    answer_is : BindsAreFirst → (xs : List NamedImage) (rs : List (ℕ × ℕ)) (order : List ℕ) (n k : ℕ) (w : World) (x : Answer) → n < length order → WorldNumbers w → IsMadeWorld xs rs order n w → slice_get w.symbols k ≡ Some x → IsAnswer w x
    answer_is law xs rs order n k w x inside numbers m is =
        let fit = holds_at AnswerNumbers w.symbols k x is numbers.symbols in
        record {
          address = fit.address;
          offset = fit.offset;
          size = fit.size;
          bytes = fit.bytes;
          owner = fit.owner;
          known = known_in w (modules_of xs order) x.«module» numbers m.modules (one_of_each law xs rs order n k w x inside m is);
        }

    answered_by : (xs : List NamedImage) (order : List ℕ) (n : ℕ) (l : Layout) (c : ℕ) (s : Symbol) (w : World) (symbols : ℕ) → count_of xs (place_of order n) ≡ Ok symbols → length w.symbols ≡ 1 + (symbols - 1) → AreIndexesInRange xs order n l → slice_get l.symbols c ≡ Some s → IsAnswered w s
    answered_by xs order n l c s w symbols counted many each listed = λ r index decided told. (
        let lt = each symbols c index s r counted listed decided told in
        omega (arith, lt, many))

-- the composition with what is proved of one image in a legal world
pub linked : SpacesAreMade → BoundWorldsAreLegal → ImagesAreSound → BoundImagesAreLinked
linked made legal sound = λ xs rs b n l some is h.
    let w = h.world in
    let m = (made xs rs b some is).1 n h.inside in
    let good = (sound l h.is.numbers h.is.flags h.is.none h.is.loadable).1 w (legal xs rs b n l some is h) in
    let both : Some m.world ≡ Some w = sym m.has_world ∙ h.has_world in
    let same : m.world ≡ w = cc in
    let loaded : load w (bytes_at xs (place_of b.order n)) ≡ Ok m.memory = subst (λ (q : World). load q (bytes_at xs (place_of b.order n)) ≡ Ok m.memory) same m.loaded in
    let here : load w (bytes l) ≡ Ok m.memory = subst (λ (q : List ℕ). load w q ≡ Ok m.memory) (bytes_are xs (place_of b.order n) h.image l h.there h.is.is) loaded in
    let two : Ok m.memory ≡ Ok good.memory = sym here ∙ good.accepted in
    let one : m.memory ≡ good.memory = cc in
    record { linked = good; memory = m.has_memory ∙ ap (λ (q : Memory). Some q) one }
