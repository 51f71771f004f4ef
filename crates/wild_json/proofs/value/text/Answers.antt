use Rattle.std.proofs.Common.{◌∙◌}
use Rattle.json.specs.Value.{value_view}
use Rattle.wild_json.proofs.DataLemmas.{str_is}
use Rattle.wild_json.proofs.value.text.Goals as goal

pub returns : goal.returns
returns c = c.as_str.ensures ∙ str_is (value_view c.args.value.now)
