use Rattle.std.proofs.Common.{◌∙◌, sym, ap, arith, length}
use Rattle.wild_relr.specs.Encoding.{State}
use Rattle.wild_contents.proofs.FileTableLemmas.{one_more, packed_some, not_packed}
use Rattle.wild_contents.proofs.relr_words.pack.Goals as goal

pub returns-in-Some-clause-state : goal.returns-in-Some-clause-state
returns-in-Some-clause-state c =
    c.record_place.ensures.state ∙ sym (packed_some c.args.layout.now c.args.section.now c.args.relocation.now c.in-Some.place c.args.words.now.state (sym c.relr_place.ensures.is ∙ c.in-Some.is))

pub returns-in-Some-clause-few : goal.returns-in-Some-clause-few
returns-in-Some-clause-few c =
    let m = one_more c.args.words.now.state c.in-Some.place in
    let e = ap (λ (s : State). length s.words) c.record_place.ensures.state in
    omega (arith, m, e)

pub returns-in_default-clause-state : goal.returns-in_default-clause-state
returns-in_default-clause-state c = sym (not_packed c.args.layout.now c.args.section.now c.args.relocation.now c.args.words.now.state (sym c.relr_place.ensures.is ∙ c.in_default.is))
