use Rattle.wild_json_c.proofs.HeadlineLemmas.{soundly_linked}
use Rattle.wild_json_c.proofs.wild_link_json.Goals as goal

pub returns-clause-headline : goal.returns-clause-headline
returns-clause-headline c = soundly_linked _ _ _ _ _ _ c.plans_are_read.ensures.plans c.images_are_sound.ensures c.write_answer.ensures
