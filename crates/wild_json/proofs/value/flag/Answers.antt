use Rattle.std.proofs.Common.{◌∙◌}
use Rattle.json.specs.Value.{value_view}
use Rattle.wild_json.proofs.DataLemmas.{bool_is}
use Rattle.wild_json.proofs.value.flag.Goals as goal

pub returns : goal.returns
returns c = c.as_bool.ensures ∙ bool_is (value_view c.args.value.now)
