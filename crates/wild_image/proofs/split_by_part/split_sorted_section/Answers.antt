use Rattle.wild_image.proofs.Common.{◌≡◌, ◌+◌, ◌++◌, ◌<◌, ◌≤◌, ◌∙◌, List, [], ℕ, length, get_or, refl, sym, ap, arith, append-nil, IfOk-weaker, on_ok_weaker, inputs}
use Rattle.wild_image.proofs.AppendLemmas.{sorted_taken}
use Rattle.wild_image.proofs.split_by_part.split_sorted_section.Goals as goal

pub split_own-requires-clause-own : goal.split_own-requires-clause-own
split_own-requires-clause-own c =
    let l = c.args.layout.now in
    let f = c.in-Some.input.file.now in
    let s = c.in-Some.input.section.now in
    let is = sym c.sorted_input.ensures ∙ ap (inputs l) c.in-Some.is in
    let taken = sorted_taken l c.args.entry.now f s c.owns_room-owns.result c.args.bytes.now is c.requires.lies c.owns_room-owns.ensures c.requires.own in
    λ e. taken.within e

pub split_own-requires-clause-part : goal.split_own-requires-clause-part
split_own-requires-clause-part c =
    let l = c.args.layout.now in
    let f = c.in-Some.input.file.now in
    let s = c.in-Some.input.section.now in
    let is = sym c.sorted_input.ensures ∙ ap (inputs l) c.in-Some.is in
    let taken = sorted_taken l c.args.entry.now f s c.owns_room-owns.result c.args.bytes.now is c.requires.lies c.owns_room-owns.ensures c.requires.own in
    λ e. (let n = taken.there e in let z = c.requires.room in omega (arith, n, z))

pub returns-in-Some-clause-owned : goal.returns-in-Some-clause-owned
returns-in-Some-clause-owned c =
    let l = c.args.layout.now in
    let f = c.in-Some.input.file.now in
    let s = c.in-Some.input.section.now in
    let is = sym c.sorted_input.ensures ∙ ap (inputs l) c.in-Some.is in
    let taken = sorted_taken l c.args.entry.now f s c.owns_room-owns.result c.args.bytes.now is c.requires.lies c.owns_room-owns.ensures c.requires.own in
    on_ok_weaker c.split_own.result (λ each. λ k low. each k low ∙ ap (λ (bs : List ℕ). get_or c.args.parts.now k [] ++ bs) (taken.part k)) c.split_own.ensures.owned

pub returns-in-Some-clause-rest : goal.returns-in-Some-clause-rest
returns-in-Some-clause-rest c =
    let l = c.args.layout.now in
    let f = c.in-Some.input.file.now in
    let s = c.in-Some.input.section.now in
    let is = sym c.sorted_input.ensures ∙ ap (inputs l) c.in-Some.is in
    let taken = sorted_taken l c.args.entry.now f s c.owns_room-owns.result c.args.bytes.now is c.requires.lies c.owns_room-owns.ensures c.requires.own in
    IfOk-weaker c.split_own.result _ _ (λ r each. λ rest e. each ∙ taken.rest rest e) c.split_own.ensures.rest

pub returns-in-None : goal.returns-in-None
returns-in-None c =
    let is = sym c.sorted_input.ensures ∙ ap (inputs c.args.layout.now) c.in-None.is in
    rw is (record { owned = λ k low. sym (append-nil (get_or c.args.parts.now k [])); rest = λ rest e. e })
