use Rattle.std.proofs.Common.{◌∙◌, arith}
use Rattle.wild_outlines.proofs.ChangedLemmas.{none_before}
use Rattle.wild_relinker.proofs.ImageLemmas.{few_relocations}
use Rattle.wild_relinker.proofs.linked.Linked.link.Goals as goal

pub of-requires-clause-clauses : goal.of-requires-clause-clauses
of-requires-clause-clauses g c = (none_before c.args.layout c.in_ok-output.ensures.faults).0

pub of-requires-clause-shares : goal.of-requires-clause-shares
of-requires-clause-shares g c = (none_before c.args.layout c.in_ok-output.ensures.faults).1

pub invariant_of-result : goal.invariant_of-result
invariant_of-result g c =
    let few = few_relocations c.args.layout c.in_ok-output.ensures.faults in
    let all = c.of-relocations.ensures.relocations in
    record {
      image = record {
        faultless = c.in_ok-output.ensures.faults;
        written = record {
          bytes = c.into_vec.ensures ∙ c.in_ok-output.ensures.image;
          counts = c.into_vec-2.ensures ∙ c.in_ok-output.ensures.counts;
          relocations = omega (arith, few, all);
        };
        prepared = c.in_ok-prepared.ensures;
      };
      warnings = c.in_ok-output.ensures.warnings;
    }
