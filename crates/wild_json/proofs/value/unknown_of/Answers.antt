use Rattle.std.proofs.Common.{sym}
use Rattle.json.specs.Value.{members_view as json_members}
use Rattle.serde_json.specs.Data.{no_members}
use Rattle.wild_json.specs.Names.{texts}
use Rattle.wild_json.proofs.NameLemmas.{least_is_first}
use Rattle.wild_json.proofs.value.unknown_of.Goals as goal

pub loop-member-init : goal.loop-member-init
loop-member-init c = sym (least_is_first (texts c.args.names.now) (json_members c.args.members.now) no_members tt)
