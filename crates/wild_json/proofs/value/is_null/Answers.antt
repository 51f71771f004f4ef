use Rattle.std.proofs.Common.{◌∙◌}
use Rattle.json.specs.Value.{value_view}
use Rattle.wild_json.proofs.DataLemmas.{null_is}
use Rattle.wild_json.proofs.value.is_null.Goals as goal

pub returns : goal.returns
returns c = c.is_null.ensures ∙ null_is (value_view c.args.value.now)
