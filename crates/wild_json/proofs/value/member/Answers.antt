use Rattle.std.proofs.Common.{ap, option_map, ◌∙◌}
use Rattle.json.specs.Value.{value_view}
use Rattle.wild_json.specs.Values.{data_of}
use Rattle.wild_json.proofs.DataLemmas.{of_found, get_is}
use Rattle.wild_json.proofs.value.member.Goals as goal

pub returns : goal.returns
returns c = of_found c.get.result ∙ ap (option_map data_of) c.get.ensures ∙ get_is c.args.name.now (value_view c.args.value.now)
