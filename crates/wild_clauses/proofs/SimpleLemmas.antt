-- Where all symbols are simple, none fails the clauses on slots, on their flags and on positions in the dynamic symbol table.
use Rattle.std.proofs.Common.{◌≡◌, ℕ, ◌+◌, Bool, true, false, ◌&&◌, List, [], ◌∷◌, None, Ok, refl, sym, ◌∙◌}
use Rattle.std.specs.Prelude.{not, Option, Some, is_some}
use Rattle.std.specs.List.{list_all}
use Rattle.std.proofs.lemmas.Bool.{and_parts}
use Rattle.wild_types.specs.declared.symbol.Symbol.{Symbol}
use Rattle.wild_types.specs.declared.layout.Layout.{Layout}
use Rattle.wild_types.specs.Flags.{has_flag, dynamic, got_slot, ifunc, ifunc_got_for_address, canonical_plt_got_for_address}
use Rattle.wild_types.specs.Lists.{first_failing}
use Rattle.wild_types.specs.SymbolSlots.{got_of, plt_of, has_thread_slot}
use Rattle.wild_clauses.specs.Positions.{is_unlisted}
use Rattle.wild_plan_rules.specs.SlotFlags.{is_tested, first_tested_failing, is_plain, agrees_in_all}
use Rattle.wild_plan_rules.specs.SlotPlaces.{is_even_slot, has_no_places, slot_is_even, slots_astray}
use Rattle.wild_clauses.specs.Survey.{is_simple, are_simple}
use Rattle.wild_plan_rules.specs.ClauseTests.{check_indexes, check_slot_flags}
use Rattle.wild_clauses.proofs.PassedLemmas.{list_all_weaker, none_fails}
use Rattle.wild_clauses.proofs.PlacelessLemmas.{none_astray}
use Rattle.wild_clauses.proofs.FlagLemmas.{flags_agree, plain_agrees}

-- neither a slot nor a stub
plain_placeless : (s : Symbol) → is_plain s ≡ true → has_no_places s ≡ true
plain_placeless s h =
    let a = and_parts (not (has_flag s.flags dynamic)) _ h in
    let b = and_parts (not (has_flag s.flags ifunc)) _ a.1 in
    let c = and_parts (not (has_flag s.flags got_slot)) _ b.1 in
    let d = and_parts (not (has_thread_slot s.flags)) _ c.1 in
    let e = and_parts (not (has_flag s.flags ifunc_got_for_address)) _ d.1 in
    let f = and_parts (not (has_flag s.flags canonical_plt_got_for_address)) _ e.1 in
    f.1

simple_plain : (s : Symbol) → is_simple s ≡ true → is_plain s ≡ true
simple_plain s h = (and_parts (is_plain s) (is_unlisted s) h).0

simple_placeless : (s : Symbol) → is_simple s ≡ true → has_no_places s ≡ true
simple_placeless s h = plain_placeless s (simple_plain s h)

pub simple_astray : (l : Layout) (simple : Bool) → simple ≡ are_simple l.symbols → simple ≡ true → check_indexes l ≡ Ok tt → slots_astray l ≡ None
unfolding are_simple
simple_astray l simple is h indexes = none_astray l indexes (list_all_weaker is_simple has_no_places l.symbols simple_placeless (sym is ∙ h))

even_without : (o : Option ℕ) → not (is_some o) ≡ true → is_even_slot o ≡ true
even_without None h = refl
even_without (Some at) h = cc

simple_is_even : (s : Symbol) → is_simple s ≡ true → slot_is_even s ≡ true
simple_is_even s h = even_without (got_of s) (and_parts (not (is_some (got_of s))) (not (is_some (plt_of s))) (simple_placeless s h)).0

pub simple_even : (l : Layout) (simple : Bool) → simple ≡ are_simple l.symbols → simple ≡ true → first_failing slot_is_even 0 l.symbols ≡ None
unfolding are_simple
simple_even l simple is h = none_fails slot_is_even 0 l.symbols (list_all_weaker is_simple slot_is_even l.symbols simple_is_even (sym is ∙ h))

pub simple_unlisted : (l : Layout) (simple : Bool) → simple ≡ are_simple l.symbols → simple ≡ true → list_all is_unlisted l.symbols ≡ true
unfolding are_simple
simple_unlisted l simple is h = list_all_weaker is_simple is_unlisted l.symbols (λ (s : Symbol) k. (and_parts (is_plain s) (is_unlisted s) k).1) (sym is ∙ h)

not_asked : (asked ok : Bool) → ok ≡ true → (asked && not ok) ≡ false
not_asked true true h = refl
not_asked false ok h = refl
not_asked true false h = cc

none_asked : (l : Layout) (test : Symbol → Bool) (i : ℕ) (ss : List Symbol) → list_all test ss ≡ true → first_tested_failing l test i ss ≡ None
none_asked l test i [] h = refl
none_asked l test i (s ∷ ss) h =
    let p = and_parts (test s) (list_all test ss) h in
    rw (not_asked (is_tested l i s) (test s) p.0) (none_asked l test (i + 1) ss p.1)

pub simple_agree : (l : Layout) (simple : Bool) → simple ≡ are_simple l.symbols → simple ≡ true → check_slot_flags l ≡ Ok tt
unfolding are_simple
simple_agree l simple is h =
    let each = list_all_weaker is_simple (agrees_in_all l) l.symbols (λ (s : Symbol) k. plain_agrees l s true (sym (simple_plain s k)) refl) (sym is ∙ h) in
    flags_agree l (none_asked l (agrees_in_all l) 0 l.symbols each)
