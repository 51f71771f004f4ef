-- Where each symbol that is asked passes all tests of clause 14, none of the tests fails.
use Rattle.std.proofs.Common.{◌≡◌, ℕ, ◌+◌, inl, inr, Bool, true, false, ◌&&◌, List, [], ◌∷◌, None, Ok, refl, sym, ◌∙◌}
use Rattle.std.specs.Prelude.{not, is_some}
use Rattle.std.proofs.lemmas.Bool.{cases_Bool, and_parts}
use Rattle.wild_types.specs.declared.symbol.Symbol.{Symbol}
use Rattle.wild_types.specs.declared.layout.Layout.{Layout}
use Rattle.wild_types.specs.Flags.{has_flag, dynamic, ifunc, got_slot, ifunc_got_for_address, canonical_plt_got_for_address}
use Rattle.wild_types.specs.SymbolSlots.{got_of, plt_of, has_thread_slot}
use Rattle.wild_plan_rules.specs.SlotFlags.{is_tested, first_tested_failing, dynamic_is_interposable, stub_is_value, stub_has_slot, one_slot_for_address, thread_slot_alone, resolver_is_own, slot_agrees, resolver_moves, second_slot_fits, is_plain, agrees_in_all}
use Rattle.wild_plan_rules.specs.ClauseTests.{check_slot_flags}

not_failing : (asked a b : Bool) → (a ≡ true → b ≡ true) → (asked && not a) ≡ false → (asked && not b) ≡ false
not_failing false a b w h = refl
not_failing true true b w h = rw (w refl) refl
not_failing true false b w h = cc

asked_weaker : (l : Layout) (a b : Symbol → Bool) (i : ℕ) (ss : List Symbol) → ((s : Symbol) → a s ≡ true → b s ≡ true) → first_tested_failing l a i ss ≡ None → first_tested_failing l b i ss ≡ None
asked_weaker l a b i [] w h = refl
asked_weaker l a b i (s ∷ ss) w h =
    elim (cases_Bool (is_tested l i s && not (a s))) [
      | inl t ↦ cc (rw t at h)
      | inr f ↦ (let here = not_failing (is_tested l i s) (a s) (b s) (w s) f in rw here (asked_weaker l a b (i + 1) ss w (rw f at h)))
    ]

-- what a symbol that passes all tests passes
record AgreesInEach (l : Layout) (s : Symbol) : Type 0 where
  interposable : dynamic_is_interposable s ≡ true
  value : stub_is_value s ≡ true
  slot : stub_has_slot s ≡ true
  address : one_slot_for_address s ≡ true
  thread : thread_slot_alone s ≡ true
  own : resolver_is_own s ≡ true
  agrees : slot_agrees s ≡ true
  moves : resolver_moves s ≡ true
  second : second_slot_fits l s ≡ true

AgreesInEach-from_test : (l : Layout) (s : Symbol) → agrees_in_all l s ≡ true → AgreesInEach l s
AgreesInEach-from_test l s h =
    let a = and_parts (dynamic_is_interposable s) (stub_is_value s && (stub_has_slot s && (one_slot_for_address s && (thread_slot_alone s && (resolver_is_own s && (slot_agrees s && (resolver_moves s && second_slot_fits l s))))))) h in
    let b = and_parts (stub_is_value s) (stub_has_slot s && (one_slot_for_address s && (thread_slot_alone s && (resolver_is_own s && (slot_agrees s && (resolver_moves s && second_slot_fits l s)))))) a.1 in
    let c = and_parts (stub_has_slot s) (one_slot_for_address s && (thread_slot_alone s && (resolver_is_own s && (slot_agrees s && (resolver_moves s && second_slot_fits l s))))) b.1 in
    let d = and_parts (one_slot_for_address s) (thread_slot_alone s && (resolver_is_own s && (slot_agrees s && (resolver_moves s && second_slot_fits l s)))) c.1 in
    let e = and_parts (thread_slot_alone s) (resolver_is_own s && (slot_agrees s && (resolver_moves s && second_slot_fits l s))) d.1 in
    let f = and_parts (resolver_is_own s) (slot_agrees s && (resolver_moves s && second_slot_fits l s)) e.1 in
    let g = and_parts (slot_agrees s) (resolver_moves s && second_slot_fits l s) f.1 in
    let k = and_parts (resolver_moves s) (second_slot_fits l s) g.1 in
    record { interposable = a.0; value = b.0; slot = c.0; address = d.0; thread = e.0; own = f.0; agrees = g.0; moves = k.0; second = k.1 }

pub flags_agree : (l : Layout) → first_tested_failing l (agrees_in_all l) 0 l.symbols ≡ None → check_slot_flags l ≡ Ok tt
unfolding check_slot_flags
flags_agree l h =
    let each = λ (s : Symbol) (t : agrees_in_all l s ≡ true). AgreesInEach-from_test l s t in
    let a = asked_weaker l (agrees_in_all l) dynamic_is_interposable 0 l.symbols (λ s t. (each s t).interposable) h in
    let b = asked_weaker l (agrees_in_all l) stub_is_value 0 l.symbols (λ s t. (each s t).value) h in
    let c = asked_weaker l (agrees_in_all l) stub_has_slot 0 l.symbols (λ s t. (each s t).slot) h in
    let d = asked_weaker l (agrees_in_all l) one_slot_for_address 0 l.symbols (λ s t. (each s t).address) h in
    let e = asked_weaker l (agrees_in_all l) thread_slot_alone 0 l.symbols (λ s t. (each s t).thread) h in
    let f = asked_weaker l (agrees_in_all l) resolver_is_own 0 l.symbols (λ s t. (each s t).own) h in
    let g = asked_weaker l (agrees_in_all l) slot_agrees 0 l.symbols (λ s t. (each s t).agrees) h in
    let k = asked_weaker l (agrees_in_all l) resolver_moves 0 l.symbols (λ s t. (each s t).moves) h in
    let m = asked_weaker l (agrees_in_all l) (second_slot_fits l) 0 l.symbols (λ s t. (each s t).second) h in
    rw (a, b, c, d, e, f, g, k, m) refl

-- ---- a plain symbol passes all tests

neither : (a b : Bool) → (not a && b) ≡ true → (a ≡ false) × (b ≡ true)
neither true b h = cc
neither false b h = (refl, h)

is_not : (a : Bool) → not a ≡ true → a ≡ false
is_not true h = cc
is_not false h = refl

pub plain_agrees : (l : Layout) (s : Symbol) (plain : Bool) → plain ≡ is_plain s → plain ≡ true → agrees_in_all l s ≡ true
plain_agrees l s plain is h =
    let stub = not (is_some (plt_of s)) in
    let slots = not (is_some (got_of s)) && stub in
    let second = not (has_flag s.flags canonical_plt_got_for_address) && slots in
    let address = not (has_flag s.flags ifunc_got_for_address) && second in
    let thread = not (has_thread_slot s.flags) && address in
    let slot = not (has_flag s.flags got_slot) && thread in
    let resolver = not (has_flag s.flags ifunc) && slot in
    let a = neither (has_flag s.flags dynamic) resolver (sym is ∙ h) in
    let b = neither (has_flag s.flags ifunc) slot a.1 in
    let c = neither (has_flag s.flags got_slot) thread b.1 in
    let d = neither (has_thread_slot s.flags) address c.1 in
    let e = neither (has_flag s.flags ifunc_got_for_address) second d.1 in
    let f = neither (has_flag s.flags canonical_plt_got_for_address) slots e.1 in
    let g = neither (is_some (got_of s)) stub f.1 in
    let k = is_not (is_some (plt_of s)) g.1 in
    rw (a.0, b.0, c.0, d.0, e.0, f.0, g.0, k) refl
