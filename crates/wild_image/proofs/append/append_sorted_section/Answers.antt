use Rattle.wild_image.proofs.Common.{◌+◌, ◌≤◌, ◌∙◌, length, refl, sym, ap, arith, inputs}
use Rattle.wild_image.proofs.AppendLemmas.{sorted_taken}
use Rattle.wild_image.proofs.append.append_sorted_section.Goals as goal

pub append_own-requires-clause-own : goal.append_own-requires-clause-own
append_own-requires-clause-own c =
    let l = c.args.layout.now in
    let f = c.in-Some.input.file.now in
    let s = c.in-Some.input.section.now in
    let is = sym c.sorted_input.ensures ∙ ap (inputs l) c.in-Some.is in
    let taken = sorted_taken l c.args.entry.now f s c.owns_room-owns.result c.args.bytes.now is c.requires.lies c.owns_room-owns.ensures c.requires.own in
    λ e. taken.within e

pub append_own-requires-clause-offset : goal.append_own-requires-clause-offset
append_own-requires-clause-offset c =
    let l = c.args.layout.now in
    let f = c.in-Some.input.file.now in
    let s = c.in-Some.input.section.now in
    let is = sym c.sorted_input.ensures ∙ ap (inputs l) c.in-Some.is in
    let taken = sorted_taken l c.args.entry.now f s c.owns_room-owns.result c.args.bytes.now is c.requires.lies c.owns_room-owns.ensures c.requires.own in
    λ e. (let n = taken.ends e in let z = c.requires.fits in omega (arith, n, z))

pub returns-in-Some : goal.returns-in-Some
returns-in-Some c =
    let l = c.args.layout.now in
    let f = c.in-Some.input.file.now in
    let s = c.in-Some.input.section.now in
    let is = sym c.sorted_input.ensures ∙ ap (inputs l) c.in-Some.is in
    let taken = sorted_taken l c.args.entry.now f s c.owns_room-owns.result c.args.bytes.now is c.requires.lies c.owns_room-owns.ensures c.requires.own in
    record { image = c.append_own.ensures.image ∙ taken.put c.args.out.now; rest = λ rest e. c.append_own.ensures.rest ∙ taken.rest rest e }

pub returns-in-None : goal.returns-in-None
returns-in-None c =
    let is = sym c.sorted_input.ensures ∙ ap (inputs c.args.layout.now) c.in-None.is in
    rw is (record { image = refl; rest = λ rest e. e })
