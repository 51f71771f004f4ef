-- The instruction of a row is the one that its reference belongs to: by itself, or as a sequence.
use Rattle.wild_references.proofs.Common.{◌≡◌, ℕ, ◌+◌, inl, inr, Bool, true, false, List, [], ◌∷◌, refl, sym, ap, ◌∙◌, arith, ◌==◌, ◌&&◌, ◌||◌, not, Option, Some, None, slice_get, option_map, unwrap_or, cases_Bool, eqb-true, eq-eqb, not-true, and_parts, list_all, not_both, implied, listed_passes, Symbol, InputRelocation, Layout, has_flag, ifunc, non_interposable, is_executable, flags_at, SymbolTest, ValueTest, Duty, Question, takes_symbol, takes_value, is_mandatory, rows_x86_64, IsChanging, applied, Row, call_form, is_skip, rewrite_of, question_of, template_start, chosen_listed, Memory, World, Item, Sort, TargetInSlot, size_of, IsSequence, IsSingle, IsOfSequence, flag_is, IsLoadedItem}
use Rattle.wild_words.proofs.Basics.{or_first}
use Rattle.wild_records.specs.Abi.Relocation as abi
use Rattle.wild_types.specs.declared.kind.Machine.TheVariants as machine
use Rattle.wild_relax.specs.declared.row.SymbolTest.TheVariants as symbol
use Rattle.wild_relax.specs.declared.row.ValueTest.TheVariants as value
use Rattle.wild_relax.specs.declared.row.Duty.TheVariants as duty
use Rattle.wild_layout.specs.Choice.{getter_name, same_names, is_getter}
use Rattle.wild_meaning.specs.Partners.{NamesGetter}
use Rattle.wild_meaning.proofs.PairLemmas.{sequence_of}
use Rattle.wild_meaning.proofs.OutputLemmas.{is_program}
use Rattle.wild_references.proofs.RewrittenForms.{instruction_of}
use Rattle.wild_references.proofs.RewrittenPairs.{partner_for, single}
use Rattle.wild_references.proofs.RewrittenPlaces.{LawsBelow, IsPlacedRow}
use Rattle.wild_references.proofs.RewrittenInInput.{taken_call, call_place, call_addend}
use Rattle.wild_references.proofs.RewrittenSingles.{is_told, is_longest, each_longest, longest, no_longer, stands_there}
use Rattle.wild_references.proofs.RewrittenSymbols.{definition, flag_of}
use Rattle.wild_references.proofs.RewrittenTerms.{symbol_there}
use Rattle.wild_references.proofs.RewrittenSingleInstructions.{free}

-- ---- an instruction of one field

pub single_there : LawsBelow → (l : Layout) (w : World) (m : Memory) (s : Item) (i : ℕ) (r : InputRelocation) (row : Row) (v : ℕ) → IsLoadedItem machine.X86_64 l w m s → IsPlacedRow l s i r row v → is_skip (rewrite_of row).next ≡ false → is_told row ≡ true → IsSingle l s r (template_start row r) (instruction_of row)
single_there laws l w m s i r row v h p alone told = record {
  single = single row p.changing alone;
  stands = stands_there laws.alone l s i r row v h.on h.decided p;
  longest = λ from o none k. no_longer l s r from row.number (size_of (instruction_of row)) o h.on p.chosen.number (longest row (chosen_listed l s r (slice_get s.relocations (i + 1)) row p.chosen is_longest each_longest) p.made.changes told alone) none k;
  free = λ first rest from o q c. free laws.alone l s i r first rest row v from o h.on h.decided p alone q c;
}

-- ---- sequences

-- what a row of a sequence takes
record TakesSequence (l : Layout) (row : Row) (k : ℕ) : Type 0 where
  program : is_executable l.kind ≡ true
  plain : has_flag (flags_at l k) ifunc ≡ false
  on : row.number ≡ abi.r_x86_64_tlsgd → has_flag (flags_at l k) non_interposable ≡ false → l.options.relax ≡ true

abbrev pub is_plain : SymbolTest → Bool
is_plain symbol.Plain = true
is_plain other = false

-- a value that another module may define is taken where rewriting is on, and that of the output's own data for itself
abbrev takes_on : ValueTest → Duty → ℕ → Bool
takes_on value.Own d n = true
takes_on value.Interposable duty.Never n = true
takes_on value.Any d n = not (n == abi.r_x86_64_tlsgd)
takes_on other d n = false

abbrev takes_well : Row → Bool
takes_well row = not (is_skip (rewrite_of row).next) || (row.thread_local && (is_plain row.symbol && takes_on row.value row.duty row.number))

each_takes_well : list_all takes_well rows_x86_64 ≡ true
unfolding rows_x86_64
each_takes_well = refl

pub plain_taken : (t : SymbolTest) (q : Question) → is_plain t ≡ true → takes_symbol t q ≡ true → has_flag q.flags ifunc ≡ false
plain_taken symbol.Plain q h t = not-true _ t
plain_taken symbol.Ifunc q h t = cc
plain_taken symbol.UndefinedWeak q h t = cc
plain_taken symbol.Any q h t = cc

own_not : (b on : Bool) → not (not b) ≡ true → b ≡ false → on ≡ true
own_not true on h e = cc
own_not false on h e = cc

other_type : (n : ℕ) → not (n == abi.r_x86_64_tlsgd) ≡ true → n ≡ abi.r_x86_64_tlsgd → ⊥
other_type n h e = (let t : (n == abi.r_x86_64_tlsgd) ≡ true = eq-eqb _ _ e in not_both _ h t)

on_by : (t : ValueTest) (d : Duty) (n : ℕ) (q : Question) → takes_on t d n ≡ true → takes_value t q ≡ true → (q.relax || is_mandatory d q) ≡ true → n ≡ abi.r_x86_64_tlsgd → has_flag q.flags non_interposable ≡ false → q.relax ≡ true
on_by value.Own d n q h taken on e k = own_not (has_flag q.flags non_interposable) q.relax taken k
on_by value.Interposable duty.Never n q h taken on e k = or_first q.relax false on refl
on_by value.Interposable duty.Static n q h taken on e k = cc
on_by value.Interposable duty.StaticAbsolute n q h taken on e k = cc
on_by value.Interposable duty.StaticMovable n q h taken on e k = cc
on_by value.Interposable duty.Always n q h taken on e k = cc
on_by value.Any d n q h taken on e k = absurd (other_type n h e)
on_by value.OwnSigned d n q h taken on e k = cc
on_by value.OwnUnsigned d n q h taken on e k = cc
on_by value.OwnMoving d n q h taken on e k = cc
on_by value.OwnFixed d n q h taken on e k = cc
on_by (value.OwnNear behind) d n q h taken on e k = cc

takes_sequence : (l : Layout) (w : World) (m : Memory) (s : Item) (i : ℕ) (r : InputRelocation) (row : Row) (v : ℕ) → IsLoadedItem machine.X86_64 l w m s → (p : IsPlacedRow l s i r row v) → is_skip (rewrite_of row).next ≡ true → TakesSequence l row p.chosen.symbol
takes_sequence l w m s i r row v h p skips =
    let q = question_of l s r p.chosen.symbol (slice_get s.relocations (i + 1)) in
    let well = and_parts row.thread_local (is_plain row.symbol && takes_on row.value row.duty row.number) (implied _ _ (listed_passes takes_well rows_x86_64 row each_takes_well p.changing.listed) skips) in
    let more = and_parts (is_plain row.symbol) (takes_on row.value row.duty row.number) well.1 in
    record {
      program = implied row.thread_local (is_executable l.kind) p.stands.taken.thread well.0;
      plain = plain_taken row.symbol q more.0 p.stands.taken.symbol;
      on = λ e k. on_by row.value row.duty row.number q more.1 p.stands.taken.value (applied q row p.stands.here).on e k;
    }

-- the name
names_same : (a b : List ℕ) → same_names a b ≡ true → a ≡ b
names_same [] [] h = refl
names_same [] (y ∷ ys) h = cc
names_same (x ∷ xs) [] h = cc
names_same (x ∷ xs) (y ∷ ys) h =
    elim (cases_Bool (x == y)) [
      | inl t ↦ (let e = eqb-true x y t in let f = names_same xs ys (rw t at h) in rw (e, f) refl)
      | inr f ↦ cc (rw f at h)
    ]

names_getter : (l : Layout) (r : InputRelocation) → is_getter l r.symbol ≡ true → NamesGetter l r
names_getter l r h = by_index r.symbol refl h
  where
    by_symbol : (k : ℕ) (o : Option Symbol) → r.symbol ≡ Some k → slice_get l.symbols k ≡ o → unwrap_or (option_map (λ (s : Symbol). same_names s.name getter_name) o) false ≡ true → NamesGetter l r
    by_symbol k None named e h = cc
    by_symbol k (Some t) named e h = record { index = k; named = named; symbol = t; listed = e; getter = names_same t.name getter_name h }

    by_index : (o : Option ℕ) → r.symbol ≡ o → is_getter l o ≡ true → NamesGetter l r
    by_index None e h = cc
    by_index (Some k) e h = by_symbol k (slice_get l.symbols k) e refl h

pub sequence_there : LawsBelow → (l : Layout) (w : World) (m : Memory) (s : Item) (i : ℕ) (r next : InputRelocation) (row : Row) (v : ℕ) → IsLoadedItem machine.X86_64 l w m s → IsPlacedRow l s i r row v → is_skip (rewrite_of row).next ≡ true → slice_get s.relocations (i + 1) ≡ Some next → IsSequence l s r (next ∷ []) (template_start row r) (instruction_of row)
sequence_there laws l w m s i r next row v h p skips listed =
    let t = taken_call l s i r next row v p skips listed in
    let takes = takes_sequence l w m s i r row v h p skips in
    let k = p.chosen.symbol in
    let d = definition l k h.laid.definitions (symbol_there l w m s i r row v h p) in
    sequence_of l s r next (template_start row r) (instruction_of row) h.on (record {
      executable = is_program l.kind takes.program;
      stands = stands_there laws.alone l s i r row v h.on h.decided p;
      partner = partner_for (call_form row) t.pair.at;
      calls = t.pair.is;
      has = record { index = i; listed = p.has.listed; next = listed; field = call_place l s i r next row v p t; number = t.pair.numbers next.number t.call.number; getter = names_getter l next t.call.getter; addend = call_addend (call_form row) t.pair.at next t.call.addend };
      symbol = k;
      named = p.chosen.named;
      plain = flag_of l k ifunc false d takes.plain;
      rewritten = λ number open_one. takes.on (sym p.chosen.number ∙ number) (flag_is l k non_interposable false open_one);
    })

pub of_sequence_there : LawsBelow → (l : Layout) (w : World) (m : Memory) (s : Item) (i : ℕ) (r next : InputRelocation) (row : Row) (v : ℕ) → IsLoadedItem machine.X86_64 l w m s → IsPlacedRow l s i r row v → is_skip (rewrite_of row).next ≡ true → slice_get s.relocations (i + 1) ≡ Some next → IsOfSequence l s r (template_start row r) (instruction_of row) r
of_sequence_there laws l w m s i r next row v h p skips listed = record { rest = next ∷ []; sequence = sequence_there laws l w m s i r next row v h p skips listed; one = (0, omega arith, refl) }

-- no sequence goes through a slot to its symbol
abbrev is_through : Sort → Bool
is_through TargetInSlot = true
is_through other = false

abbrev goes_alone : Row → Bool
goes_alone row = not (is_skip (rewrite_of row).next) || not (is_through (instruction_of row).sort)

each_goes_alone : list_all goes_alone rows_x86_64 ≡ true
unfolding rows_x86_64
each_goes_alone = refl

pub sequence_sort : (row : Row) → IsChanging row → is_skip (rewrite_of row).next ≡ true → (instruction_of row).sort ≡ TargetInSlot → ⊥
sequence_sort row c h e = not_both (is_through (instruction_of row).sort) (implied _ _ (listed_passes goes_alone rows_x86_64 row each_goes_alone c.listed) h) (ap is_through e)
