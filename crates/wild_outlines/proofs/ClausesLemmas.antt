-- All clauses, after a change that keeps the length of its section.
use Rattle.wild_outlines.proofs.Common.{◌≡◌, ◌-◌, ◌^◌, true, Result, Ok, Err, refl, ◌∙◌, arith, nat_lt, Clause, InputSection, Layout, Change, changed_section, changed_file, changed_layout, outline, place_unless}
use Rattle.std.proofs.lemmas.Bool.{lt-ltb}
use Rattle.wild_plan_rules.specs.ClauseTests.{fails, first_error, check_sizes, check_counts, check_order, check_roles, check_sections, check_segments, check_shares, check_inputs, check_indexes, check_fields, check_slots, check_thunks, check_dynsyms, check_slot_flags, check_tls, check_starts, check_hashes, check_versions, check_names, check_reversed, check_partial, check_fronts}
use Rattle.wild_plan_rules.specs.Contents.{fields_lie, relocations_are_read}
use Rattle.wild_plan_rules.specs.Places.{relocation_count}
use Rattle.wild_plan_rules.specs.WellFormed.{first_clause}
use Rattle.wild_plan_rules.proofs.ClauseLemmas.{first_holds, rest_holds}
use Rattle.wild_outlines.specs.MayChange.{MayChange}
use Rattle.wild_outlines.specs.RefusalLaws.{changed_clause}
use Rattle.wild_outlines.proofs.ChangedItems.{FoundSection, same_by_outline}
use Rattle.wild_outlines.proofs.ClausesChecks.{check_sizes-outline, check_order-outline, check_sections-outline, check_segments-outline, check_shares-outline, check_inputs-outline, check_slots-outline, check_thunks-outline, check_dynsyms-outline, check_slot_flags-outline, check_tls-outline, check_starts-outline, check_hashes-outline, check_versions-outline, check_names-outline, check_fronts-outline}
use Rattle.wild_outlines.proofs.ClausesChanged.{SectionTests-from_passes, Changed, Changed-from_found, relocation_count-changed, check_counts-changed, check_roles-changed, roles_changed, check_indexes-changed, check_fields-changed, check_reversed-changed, check_partial-changed, file_found, tables_changed}

-- ---- several clauses after a change

-- a clause that holds after it
holds : {a b r s t : Result (Unit {0}) Clause} → (a ≡ Ok tt → b ≡ Ok tt) → (r ≡ Ok tt → s ≡ t) → first_error a r ≡ Ok tt → first_error b s ≡ t
holds {a} {b} {r} {s} {t} f g h = rw (f (first_holds a r h)) (g (rest_holds a r h))

-- a clause that may fail
may_fail : {a b d r s t : Result (Unit {0}) Clause} → (a ≡ Ok tt → b ≡ d) → (r ≡ Ok tt → s ≡ t) → first_error a r ≡ Ok tt → first_error b s ≡ first_error d t
may_fail {a} {b} {d} {r} {s} {t} f g h = rw (f (first_holds a r h), g (rest_holds a r h)) refl

-- one with two tests
one_of_two : (d e t : Result (Unit {0}) Clause) → first_error (first_error d e) t ≡ first_error d (first_error e t)
one_of_two (Ok u) e t = refl
one_of_two (Err x) e t = refl

two_may_fail : {a b r s t : Result (Unit {0}) Clause} (d e : Result (Unit {0}) Clause) → (a ≡ Ok tt → b ≡ first_error d e) → (r ≡ Ok tt → s ≡ t) → first_error a r ≡ Ok tt → first_error b s ≡ first_error d (first_error e t)
two_may_fail {a} {b} {r} {s} {t} d e f g h = rw (f (first_holds a r h), g (rest_holds a r h)) (one_of_two d e t)

-- the last one that may fail
last : (d : Result (Unit {0}) Clause) → first_error d (Ok tt) ≡ d
last (Ok u) = refl
last (Err x) = refl

last_may_fail : {a b d r s : Result (Unit {0}) Clause} → (a ≡ Ok tt → b ≡ d) → (r ≡ Ok tt → s ≡ Ok tt) → first_error a r ≡ Ok tt → first_error b s ≡ d
last_may_fail {a} {b} {d} {r} {s} f g h = rw (f (first_holds a r h), g (rest_holds a r h)) (last d)

-- a clause that is the same for the outline
kept : (d : Layout → Result (Unit {0}) Clause) → ((l : Layout) → d (outline l) ≡ d l) → (l m : Layout) → outline m ≡ outline l → d l ≡ Ok tt → d m ≡ Ok tt
kept d h l m e p = same_by_outline d h l m e ∙ p

-- the first clause that fails after a change
pub first_clause-changed : (l : Layout) (c : Change) (s : InputSection) (k : Changed l c s) → first_clause l ≡ Ok tt
    → first_clause (changed_layout l c) ≡ changed_clause (changed_layout l c) c.group (changed_file c k.found.file) (changed_section c s)
unfolding first_clause changed_clause
first_clause-changed l c s k =
    let after = changed_layout l c in
    holds (kept check_sizes check_sizes-outline l after k.same)
    (may_fail (check_counts-changed l c s k)
    (holds (kept check_order check_order-outline l after k.same)
    (may_fail (check_roles-changed l c s k)
    (holds (kept check_sections check_sections-outline l after k.same)
    (holds (kept check_segments check_segments-outline l after k.same)
    (holds (kept check_shares check_shares-outline l after k.same)
    (holds (kept check_inputs check_inputs-outline l after k.same)
    (may_fail (check_indexes-changed l c s k)
    (two_may_fail (fails 10 (place_unless c.group (fields_lie l.machine (changed_section c s)))) (fails 10 (place_unless c.group (relocations_are_read (changed_section c s)))) (check_fields-changed l c s k)
    (holds (kept check_slots check_slots-outline l after k.same)
    (holds (kept check_thunks check_thunks-outline l after k.same)
    (holds (kept check_dynsyms check_dynsyms-outline l after k.same)
    (holds (kept check_slot_flags check_slot_flags-outline l after k.same)
    (holds (kept check_tls check_tls-outline l after k.same)
    (holds (kept check_starts check_starts-outline l after k.same)
    (holds (kept check_hashes check_hashes-outline l after k.same)
    (holds (kept check_versions check_versions-outline l after k.same)
    (holds (kept check_names check_names-outline l after k.same)
    (may_fail (check_reversed-changed l c s k)
    (last_may_fail (check_partial-changed l c s k)
    (kept check_fronts check_fronts-outline l after k.same)))))))))))))))))))))

-- ---- a change that may be made

roles_hold : (l : Layout) → first_clause l ≡ Ok tt → check_roles l ≡ Ok tt
unfolding first_clause
roles_hold l h = first_holds (check_roles l) _ (rest_holds (check_order l) _ (rest_holds (check_counts l) _ (rest_holds (check_sizes l) _ h)))

partial_holds : (l : Layout) → first_clause l ≡ Ok tt → check_partial l ≡ Ok tt
unfolding first_clause
partial_holds l h =
    let a = rest_holds (check_roles l) _ (rest_holds (check_order l) _ (rest_holds (check_counts l) _ (rest_holds (check_sizes l) _ h))) in
    let b = rest_holds (check_inputs l) _ (rest_holds (check_shares l) _ (rest_holds (check_segments l) _ (rest_holds (check_sections l) _ a))) in
    let d = rest_holds (check_thunks l) _ (rest_holds (check_slots l) _ (rest_holds (check_fields l) _ (rest_holds (check_indexes l) _ b))) in
    let e = rest_holds (check_starts l) _ (rest_holds (check_tls l) _ (rest_holds (check_slot_flags l) _ (rest_holds (check_dynsyms l) _ d))) in
    let f = rest_holds (check_reversed l) _ (rest_holds (check_names l) _ (rest_holds (check_versions l) _ (rest_holds (check_hashes l) _ e))) in
    first_holds (check_partial l) _ f

few_relocations : (l : Layout) (c : Change) (s : InputSection) → MayChange l c s → FoundSection l c s → nat_lt (relocation_count (changed_layout l c)) (2 ^ 32 - 1) ≡ true
few_relocations l c s m p =
    let n = relocation_count-changed l c s p in
    let few = m.few in
    lt-ltb (relocation_count (changed_layout l c)) (2 ^ 32 - 1) (omega (arith, n, few))

-- the tests of its section pass
nothing_fails : (l : Layout) (c : Change) (s : InputSection) → MayChange l c s → (k : Changed l c s) → first_clause l ≡ Ok tt
    → changed_clause (changed_layout l c) c.group (changed_file c k.found.file) (changed_section c s) ≡ Ok tt
unfolding changed_clause
nothing_fails l c s m k h =
    let tests = SectionTests-from_passes l (changed_section c s) m.passes in
    let tables = tables_changed l c s k (λ partial. m.tables partial k.found.file (file_found l c s k.found)) (partial_holds l h) in
    rw (few_relocations l c s m k.found, roles_changed l c s k m.counts (roles_hold l h), tests.indexes, tests.fields, tests.read, tests.reversed, tables) refl

pub clauses_hold : (l : Layout) (c : Change) (s : InputSection) → MayChange l c s → first_clause l ≡ Ok tt → first_clause (changed_layout l c) ≡ Ok tt
clauses_hold l c s m h =
    let k = Changed-from_found l c s m.found m.same_length in
    first_clause-changed l c s k h ∙ nothing_fails l c s m k h
