use Rattle.std.proofs.Common.{◌≡◌, drop, option_map}
use Rattle.json.specs.Value.{members_view as json_members}
use Rattle.wild_json.specs.Values.{members_view}
use Rattle.wild_json.specs.Names.{first_unknown, texts}
use Rattle.wild_json.proofs.NameLemmas.{least_unknown}
use Rattle.wild_json.proofs.value.unknown_of.Given as goal

abbrev pub invariant-loop-member : goal.invariant-loop-member
invariant-loop-member l = least_unknown (texts l.names) (json_members (drop l.member-index l.members)) (option_map (λ s. s.now) l.least) ≡ first_unknown (texts l.names) (members_view l.members)
