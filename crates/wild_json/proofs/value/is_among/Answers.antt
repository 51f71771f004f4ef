use Rattle.std.proofs.Common.{◌∙◌}
use Rattle.wild_json.proofs.NameLemmas.{any_text}
use Rattle.wild_json.proofs.value.is_among.Goals as goal

pub returns : goal.returns
returns c = c.has_name.ensures ∙ any_text c.args.names.now c.args.name.now
