use Rattle.std.proofs.Common.{List, map, subst, sym, ap, ◌∙◌}
use Rattle.std.specs.Prelude.{option_copied}
use Rattle.wild_types.specs.declared.input.InputRelocation.{InputRelocation}
use Rattle.wild_placement.specs.PlacedInputs.{placed_at}
use Rattle.wild_words.specs.Runs.{SinkRun}
use Rattle.wild_words.proofs.RunLemmas.{ran_none}
use Rattle.wild_placement.proofs.TableLemmas.{target_placed, target_missing}
use Rattle.wild_placement.proofs.give.give_table.Goals as goal

pub returns-in-Some : goal.returns-in-Some
returns-in-Some g c =
    let is = sym c.target_of.ensures ∙ ap option_copied c.in-Some.is in
    let same = ap (map (placed_at c.in-Some.target.now)) c.as_slice.ensures ∙ target_placed _ c.in-Some.target.now is in
    subst (λ (rs : List InputRelocation). SinkRun g.S.Sink.goes g.S.Sink.refuses c.args.sink.now rs c.give_placed.result c.give_placed.new.sink) same c.give_placed.ensures

pub returns-in-None : goal.returns-in-None
returns-in-None g c = ran_none _ (target_missing _ (sym c.target_of.ensures ∙ ap option_copied c.in-None.is))
