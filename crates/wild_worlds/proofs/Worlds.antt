-- Legal worlds are there.
use Rattle.wild_worlds.proofs.Common.{◌≡◌, ℕ, ℤ, ◌+◌, ◌-◌, ◌%◌, ◌^◌, ◌<◌, ◌≤◌, inl, inr, [], ◌∷◌, ◌++◌, length, get_or, refl, sym, ap, ◌∙◌, arith, subst, w64, OutputKind, Layout, LayoutsAreLaidOut, World, Result, Ok, IsLegal, AnswersSymbols, cases_Bool, eqb-true, Segment, errors, AreAddresses, OtherModule, AreNumbers, IsConsistent, HasWorld}
use Rattle.std.specs.Int.{cast_unsigned, cast_signed}
use Rattle.std.specs.Int.RustNames.{FitsSigned}
use Rattle.std.proofs.Math.Nat.{zero-mod}
use Rattle.std.proofs.lemmas.Int.{of_z-to_z, ints}
use Rattle.wild_types.specs.declared.kind.OutputKind.TheVariants as output
use Rattle.wild_layout.specs.Geometry.{IsLaidOut}
use Rattle.wild_loader.specs.declared.fault.LoadFault.{LoadFault}
use Rattle.wild_loader.specs.Changes.{distance_of}
use Rattle.wild_meaning.specs.Thread.{thread_pointer, IsOwnDistance}
use Rattle.wild_meaning.specs.World.{IsExecutable, IsFirstModule, first_module}
use Rattle.wild_types.specs.Kinds.{is_partial_link}
use Rattle.wild_plan_rules.specs.WellFormed.{first_clause}
use Rattle.wild_layout.specs.Faults.{flat_map_from, clause_errors, part_errors, group_errors}
use Rattle.wild_layout.proofs.FaultLemmas.{clause_holds, first_empty, rest_empty, laid_out}
use Rattle.wild_geometry.proofs.PlacedSectionLemmas.{AllClausesHold, AllClausesHold-from_clauses}
use Rattle.wild_worlds.specs.Worlds.{KnowsModule, ZeroIsLegal, MovedIsLegal, WorldsAreThere, other_module}
use Rattle.wild_worlds.specs.Symbols.{OffsetsCount}
use Rattle.wild_worlds.proofs.Premises.{apart_kinds}
use Rattle.wild_worlds.proofs.Resolvers.{pairs_of, HasPairs, has_resolvers, are_answered}
use Rattle.wild_worlds.proofs.Answers.{answers_of, HasAnswers, others_found, answers_symbols}
use Rattle.wild_references.specs.Laws.{ThreadPlacesAreKnown}

-- ---- legal worlds

zero_divides : (base page : ℕ) → base ≡ 0 → base % page ≡ 0
zero_divides base page z = ap (λ (b : ℕ). b % page) z ∙ zero-mod page

clauses_hold : (l : Layout) → errors l ≡ [] → AllClausesHold l
unfolding errors
clauses_hold l none =
    let clauses = clause_errors (first_clause l) in
    let shares = flat_map_from (part_errors l) 0 l.parts in
    let front = first_empty (clauses ++ shares) (flat_map_from (group_errors l) 0 l.groups) none in
    AllClausesHold-from_clauses l (clause_holds (first_clause l) (first_empty clauses shares front)) (rest_empty clauses shares front)

-- each segment stands low; a relocatable object has none
segment_low : (l : Layout) → IsLaidOut l → errors l ≡ [] → (k : ℕ) (d : Segment) → k < length l.segments → (get_or l.segments k d).address + (get_or l.segments k d).mem_size ≤ 2 ^ 62
segment_low l laid none k d lt =
    elim (cases_Bool (is_partial_link l.kind)) [
      | inl t ↦ (let empty : length l.segments ≡ 0 = eqb-true (length l.segments) 0 (rw t at (clauses_hold l none).partial.segments) in absurd (omega (arith, lt, empty)))
      | inr f ↦ ((laid.loadable f).each k d lt).low
    ]

pub zero_legal : LayoutsAreLaidOut → ZeroIsLegal
zero_legal laws = λ l w none z first resolvers symbols.
    let laid = laid_out laws l none in
    record {
      aligned = zero_divides w.base l.page_size z;
      ends = λ k d lt loads. (let low = segment_low l laid none k d lt in omega (arith, z, low));
      fixed = λ f. z;
      first = first;
      resolvers = resolvers;
      symbols = symbols;
    }

pub moved_legal : MovedIsLegal
moved_legal = λ l w movable roomy first resolvers symbols. record {
  aligned = roomy.aligned;
  ends = λ k d lt loads. roomy.ends k d lt;
  fixed = λ f. absurd (apart_kinds l.kind f movable);
  first = first;
  resolvers = resolvers;
  symbols = symbols;
}

-- ---- the own module

-- start less tp, modulo 2^64
abbrev less : ℕ → ℕ → ℕ
less start tp = (start + (2 ^ 64 - tp % 2 ^ 64)) % 2 ^ 64

signed_fits : (n : ℕ) → n < 2 ^ 64 → FitsSigned w64 (cast_signed w64 n)
signed_fits n h = grind (arith, ints)

distance : (l : Layout) → l.tls.start < 2 ^ 64 → IsOwnDistance l (cast_signed w64 (less l.tls.start (thread_pointer l)))
distance l h =
    let tp = thread_pointer l in
    let n = less l.tls.start tp in
    let low : n < 2 ^ 64 = omega arith in
    let e : cast_unsigned w64 (cast_signed w64 n) ≡ n = of_z-to_z w64 n low in
    record {
      fits = signed_fits n low;
      begins = ap (λ (k : ℕ). (tp + k) % 2 ^ 64) e ∙ back tp l.tls.start h;
    }
  where
    back : (tp start : ℕ) → start < 2 ^ 64 → (tp + less start tp) % 2 ^ 64 ≡ start
    back tp start h = omega (arith, h)

-- the own data's distance: an executable's is the layout's, and a library's any
abbrev distance_by : OutputKind → ℤ → ℤ → ℤ
distance_by (output.StaticExecutable any) d free = d
distance_by (output.DynamicExecutable any) d free = d
distance_by other d free = free

abbrev own_distance : Layout → OtherModule → ℤ
own_distance l o = distance_by l.kind (cast_signed w64 (less l.tls.start (thread_pointer l))) o.own

of_executable : (k : OutputKind) (d free : ℤ) → IsExecutable k → distance_by k d free ≡ d
of_executable (output.StaticExecutable any) d free h = refl
of_executable (output.DynamicExecutable any) d free h = refl
of_executable output.SharedObject d free h = absurd h
of_executable output.PartialObject d free h = absurd h

of_library : (k : OutputKind) (d free : ℤ) → (IsExecutable k → ⊥) → distance_by k d free ≡ free
of_library (output.StaticExecutable any) d free h = absurd (h tt)
of_library (output.DynamicExecutable any) d free h = absurd (h tt)
of_library output.SharedObject d free h = refl
of_library output.PartialObject d free h = refl

distance_fits : (k : OutputKind) (d free : ℤ) → FitsSigned w64 d → FitsSigned w64 free → FitsSigned w64 (distance_by k d free)
distance_fits (output.StaticExecutable any) d free h g = h
distance_fits (output.DynamicExecutable any) d free h g = h
distance_fits output.SharedObject d free h g = g
distance_fits output.PartialObject d free h g = g

-- a world that has two modules, the resolvers' answers and those for dynamic symbols
abbrev world_at : Layout → ℕ → (ℕ → ℕ) → OtherModule → World
world_at l base answers o = record {
  base = base;
  symbols = answers_of l base answers o;
  resolvers = pairs_of answers base l.symbols;
  modules = (first_module, own_distance l o) ∷ (other_module, o.distance) ∷ [];
  own_module = first_module;
}

knows : (l : Layout) (base : ℕ) (answers : ℕ → ℕ) (o : OtherModule) → l.tls.start < 2 ^ 64 → KnowsModule l (world_at l base answers o)
knows l base answers o h = λ e. record {
  own = refl;
  distance = own_distance l o;
  pair = refl;
  is = subst (λ (d : ℤ). IsOwnDistance l d) (sym (of_executable l.kind (cast_signed w64 (less l.tls.start (thread_pointer l))) o.own e)) (distance l h);
}

has_pairs : (l : Layout) (base : ℕ) (answers : ℕ → ℕ) (o : OtherModule) → HasPairs l (world_at l base answers o) answers
has_pairs l base answers o = record { pairs = refl }

has_answers : (l : Layout) (base : ℕ) (answers : ℕ → ℕ) (o : OtherModule) → l.tls.start < 2 ^ 64 → AreNumbers o → HasAnswers l (world_at l base answers o) answers o
has_answers l base answers o h numbers = record {
  symbols = refl;
  own = refl;
  near = record { distance = own_distance l o; fits = distance_fits l.kind (cast_signed w64 (less l.tls.start (thread_pointer l))) o.own (distance l h).fits numbers.own; pair = refl };
  far = record { distance = o.distance; fits = numbers.distance; pair = refl };
  answered = are_answered l (world_at l base answers o) answers (has_pairs l base answers o);
}

answers_all : (l : Layout) (base : ℕ) (answers : ℕ → ℕ) (o : OtherModule) → IsLaidOut l → IsConsistent l → AreAddresses answers → AreNumbers o → AnswersSymbols l (world_at l base answers o)
answers_all l base answers o laid told small numbers = answers_symbols l (world_at l base answers o) answers o laid told small numbers (has_answers l base answers o told.numbers.tls.start numbers)

has_world : (l : Layout) (base : ℕ) (answers : ℕ → ℕ) (o : OtherModule) → IsLaidOut l → l.tls.start < 2 ^ 64 → AreNumbers o → IsLegal l (world_at l base answers o) → HasWorld l base answers o
has_world l base answers o laid h numbers legal = record {
  world = world_at l base answers o;
  at = refl;
  legal = legal;
  answered = are_answered l (world_at l base answers o) answers (has_pairs l base answers o);
  found = λ i x is a. others_found l (world_at l base answers o) answers o i x laid (has_answers l base answers o h numbers) is a;
  far = refl;
  near = λ e. ap (λ (d : ℤ). Ok (cast_unsigned w64 d)) (of_library l.kind (cast_signed w64 (less l.tls.start (thread_pointer l))) o.own e);
}

pub worlds_there : LayoutsAreLaidOut → WorldsAreThere
worlds_there laws = record {
  zero = λ l answers o small numbers told.
      (let laid = laid_out laws l told.faultless in
      let w = world_at l 0 answers o in
      has_world l 0 answers o laid told.numbers.tls.start numbers
      (zero_legal laws l w told.faultless refl (knows l 0 answers o told.numbers.tls.start) (has_resolvers l w answers small (has_pairs l 0 answers o)) (answers_all l 0 answers o laid told small numbers)));
  elsewhere = λ l base answers o small numbers movable roomy told.
      (let laid = laid_out laws l told.faultless in
      let w = world_at l base answers o in
      has_world l base answers o laid told.numbers.tls.start numbers
      (moved_legal l w movable roomy (knows l base answers o told.numbers.tls.start) (has_resolvers l w answers small (has_pairs l base answers o)) (answers_all l base answers o laid told small numbers)));
}

-- ---- offsets from the thread pointer

one_number : (a b : ℕ) (o : Result ℕ LoadFault) → o ≡ Ok a → o ≡ Ok b → a ≡ b
one_number a b o h g = let e : Ok a ≡ Ok b = sym h ∙ g in cc

pub offsets_count : ThreadPlacesAreKnown → OffsetsCount
offsets_count laws = record {
  there = λ l w i raw e legal given. (_, laws.there l w i raw (legal.first e) given);
  less = λ l w i t e legal p.
      (let f = legal.first e in
      let d = one_number (cast_unsigned w64 f.distance) p.distance (distance_of w w.own_module) (laws.own l w f) p.own in
      (p.raw, p.given, p.sum ∙ ap (λ (n : ℕ). (n + p.raw + (2 ^ 64 - l.tls.start)) % 2 ^ 64) (sym d) ∙ whole l w p.raw f));
}
  where
    whole : (l : Layout) (w : World) (raw : ℕ) → (f : IsFirstModule l w) → (cast_unsigned w64 f.distance + raw + (2 ^ 64 - l.tls.start)) % 2 ^ 64 ≡ (raw + (2 ^ 64 - thread_pointer l % 2 ^ 64)) % 2 ^ 64
    whole l w raw f = (let h = laws.less l w raw 0 f in omega (arith, h))
