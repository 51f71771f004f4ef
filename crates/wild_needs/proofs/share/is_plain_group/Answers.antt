use Rattle.std.proofs.Common.{ap, ◌∙◌}
use Rattle.std.specs.List.{list_all}
use Rattle.wild_placement.specs.PlacedSections.{placed_file}
use Rattle.wild_types.specs.declared.file.File.{File}
use Rattle.wild_needs.specs.Needs.{is_plain}
use Rattle.wild_needs.proofs.ShareLemmas.{plain_needs}
use Rattle.wild_needs.proofs.StandingShares.{group_is_plain}
use Rattle.wild_needs.proofs.share.is_plain_group.Goals as goal

pub returns-clause-plain : goal.returns-clause-plain
returns-clause-plain c = c.all_pass.ensures ∙ ap (list_all (λ (f : File). is_plain c.args.layout.now (placed_file c.args.layout.now 0 f))) c.as_slice.ensures ∙ group_is_plain c.args.layout.now c.args.group.now

pub returns-clause-none : goal.returns-clause-none
returns-clause-none c = plain_needs c.args.layout.now c.args.group.now _ (returns-clause-plain c)
