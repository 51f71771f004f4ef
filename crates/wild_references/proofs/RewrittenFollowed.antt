-- An instruction that is rewritten has by its field neither its symbol's address nor its offset, or no other module has its symbol.
use Rattle.wild_references.proofs.Common.{◌≡◌, ℕ, ◌+◌, inl, inr, Bool, true, false, refl, sym, ◌∙◌, subst, Option, Some, None, ◌==◌, ◌&&◌, ◌||◌, not, slice_get, list_all, cases_Bool, or_other, listed_passes, r_x86_64_pc32, Machine, InputRelocation, Layout, has_flag, dynamic, non_interposable, copy_relocation, export_dynamic, flags_at, Value, Formula, SymbolAddress, SymbolPart, Distance, PageDistance, FromTable, ModuleOffset, PointerOffset, aarch64_formula, x86_64_formula, Row, keeps_bytes, rows_x86_64, rows_aarch64, applied, question_around, IsChosen, chosen_listed, flag_is, formula_of, TakesAddress, TakesOffset, Item, is_library, IsReplaceable, UsesOwnDefinition, UsesOwnSymbolOnly}
use Rattle.wild_layout.proofs.DecisionLemmas.{IsRewrittenAArch64, decide_rewritten}
use Rattle.wild_references.specs.EffectLaws.{RewrittenAreFollowed}
use Rattle.wild_references.proofs.RewrittenRuns.{asks_near, IsNearSymbol, near_symbol}

-- the expression takes neither
abbrev is_indirect : Value → Bool
is_indirect SymbolAddress = false
is_indirect SymbolPart = false
is_indirect Distance = false
is_indirect PageDistance = false
is_indirect FromTable = false
is_indirect ModuleOffset = false
is_indirect PointerOffset = false
is_indirect other = true

abbrev by_indirect : Option Formula → Bool
by_indirect None = true
by_indirect (Some f) = is_indirect f.value

-- so it is of each row of x86-64 but that of a type which is not rewritten
abbrev row_indirect : Row → Bool
row_indirect row = row.number == r_x86_64_pc32 || by_indirect (x86_64_formula row.number)

each_indirect : list_all row_indirect rows_x86_64 ≡ true
unfolding x86_64_formula rows_x86_64
each_indirect = refl

other_of : (a b : Bool) → (a || b) ≡ true → a ≡ false → b ≡ true
other_of false b h e = h
other_of true b h e = cc

no_offset : (v : Value) → is_indirect v ≡ true → TakesOffset v → ⊥
no_offset ModuleOffset h t = cc
no_offset PointerOffset h t = cc
no_offset other h t = t

no_address : (v : Value) → is_indirect v ≡ true → TakesAddress v → ⊥
no_address SymbolAddress h t = cc
no_address SymbolPart h t = cc
no_address Distance h t = cc
no_address PageDistance h t = cc
no_address FromTable h t = cc
no_address other h t = t

takes_none : (l : Layout) (s : Item) (i : ℕ) (f : Formula) → is_indirect f.value ≡ true → UsesOwnDefinition l s i f → ⊥
takes_none l s i f h (inl offset) = no_offset f.value h offset
takes_none l s i f h (inr address) = no_address f.value h address.0

followed_x86_64 : (l : Layout) (s : Item) (i : ℕ) (r : InputRelocation) (row : Row) → IsChosen l s r (slice_get s.relocations (i + 1)) row → UsesOwnSymbolOnly l s r → ⊥
followed_x86_64 l s i r row c alone =
    let listed = chosen_listed l s r (slice_get s.relocations (i + 1)) row c row_indirect each_indirect in
    let other : (row.number == r_x86_64_pc32) ≡ false = subst (λ (n : ℕ). (n == r_x86_64_pc32) ≡ false) c.number c.other in
    let here : formula_of l.machine row.number ≡ Some alone.formula = subst (λ (n : ℕ). formula_of l.machine n ≡ Some alone.formula) c.number alone.known in
    let known : x86_64_formula row.number ≡ Some alone.formula = subst (λ (k : Machine). formula_of k row.number ≡ Some alone.formula) c.machine here in
    let indirect = other_of _ _ listed other in
    takes_none l s alone.symbol alone.formula (subst (λ (o : Option Formula). by_indirect o ≡ true) known indirect) alone.takes

-- ---- AArch64

-- so it is of each row but those of a near address
abbrev word_indirect : Row → Bool
word_indirect row = keeps_bytes row || (asks_near row.value || by_indirect (aarch64_formula row.number))

each_word_indirect : list_all word_indirect rows_aarch64 ≡ true
unfolding aarch64_formula rows_aarch64
each_word_indirect = refl

-- which no other module has
stays_own : (other copied library exported fixed : Bool) → other ≡ false → not fixed ≡ false → ((other && not copied) || (library && (exported && not fixed))) ≡ true → ⊥
stays_own false copied true true true e f h = cc
stays_own false copied true false true e f h = cc
stays_own false copied false exported true e f h = cc
stays_own true copied library exported fixed e f h = cc
stays_own other copied library exported false e f h = cc

near_is_own : (l : Layout) (i : ℕ) → IsNearSymbol (flags_at l i) → IsReplaceable l i true → ⊥
near_is_own l i near r =
    let f = r.symbol.flags in
    let other : has_flag f dynamic ≡ false = sym (flag_is l i dynamic (has_flag f dynamic) (record { definition = r.definition; defined = r.defined; symbol = r.symbol; listed = r.listed; flagged = refl })) ∙ near.here in
    let fixed = flag_is l i non_interposable (has_flag f non_interposable) (record { definition = r.definition; defined = r.defined; symbol = r.symbol; listed = r.listed; flagged = refl }) in
    stays_own (has_flag f dynamic) (has_flag f copy_relocation) (is_library l.kind) (has_flag f export_dynamic) (has_flag f non_interposable) other (subst (λ (b : Bool). not b ≡ false) fixed near.own) r.told

followed_aarch64 : (l : Layout) (s : Item) (i : ℕ) (r : InputRelocation) (row : Row) (v : ℕ) → IsRewrittenAArch64 l s i r row v → UsesOwnSymbolOnly l s r → ⊥
followed_aarch64 l s i r row v made alone =
    let c = made.chosen in
    let passes = or_other (keeps_bytes row) _ (listed_passes word_indirect rows_aarch64 row each_word_indirect c.listed) made.changes in
    elim (cases_Bool (asks_near row.value)) [
      | inl near ↦
          (let same : c.symbol ≡ alone.symbol = (let e : Some c.symbol ≡ Some alone.symbol = sym c.named ∙ alone.named in cc) in
          let own = near_symbol row.value (question_around l s i r c.symbol) near (applied (question_around l s i r c.symbol) row c.here).value in
          near_is_own l c.symbol own (subst (λ (k : ℕ). IsReplaceable l k true) (sym same) alone.replaceable))
      | inr far ↦
          (let here : formula_of l.machine row.number ≡ Some alone.formula = subst (λ (n : ℕ). formula_of l.machine n ≡ Some alone.formula) c.number alone.known in
          let known : aarch64_formula row.number ≡ Some alone.formula = subst (λ (k : Machine). formula_of k row.number ≡ Some alone.formula) c.machine here in
          takes_none l s alone.symbol alone.formula (subst (λ (o : Option Formula). by_indirect o ≡ true) known (or_other (asks_near row.value) _ passes far)) alone.takes)
    ]

-- ---- either

pub rewritten_followed : RewrittenAreFollowed
rewritten_followed l s i r row v has alone = elim (decide_rewritten l s i r row v has.listed has.decided) [ inl made ↦ followed_x86_64 l s i r row made.chosen alone | inr made ↦ followed_aarch64 l s i r row v made alone ]
