use Rattle.wild_checker.proofs.VerdictLemmas.{refusal}
use Rattle.wild_checker.proofs.verdict.refused_verdict.Goals as goal

pub returns-in_default : goal.returns-in_default
returns-in_default c = refusal c.args.fault c.in_default.not-OutOfMemory
