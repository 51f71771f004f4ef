use Rattle.std.proofs.Common.{length}
use Rattle.wild_aarch64.proofs.template.+first_step.Given as goal

abbrev pub decreases-first_step : goal.decreases-first_step
decreases-first_step l = length l.templates.now
