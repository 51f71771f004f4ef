use Rattle.std.proofs.Common.{subst}
use Rattle.wild_types.specs.ResolvedFlags.{HaveTheirFlags}
use Rattle.wild_types.specs.declared.layout.Layout.{Layout}
use Rattle.wild_meaning.specs.LinkedImage.{IsSound}
use Rattle.wild_c.proofs.wild_write.Goals as goal

pub returns-in-Ok-clause-headline : goal.returns-in-Ok-clause-headline
returns-in-Ok-clause-headline c = λ written.
    subst (λ (l : Layout). HaveTheirFlags l → IsSound l c.write_into.new.out) c.in-Ok.ensures (c.write_into.ensures.headline written)
    (c.resolutions_have_their_flags.ensures c.args.layout.now)
