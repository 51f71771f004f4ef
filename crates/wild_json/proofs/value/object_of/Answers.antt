use Rattle.wild_json.proofs.DataLemmas.{view_object}
use Rattle.wild_json.proofs.value.object_of.Goals as goal

pub returns : goal.returns
returns c = view_object c.args.members
