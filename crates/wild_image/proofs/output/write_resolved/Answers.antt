use Rattle.wild_image.proofs.Common.{◌≡◌, ℕ, List, [], ◌<◌, ◌^◌, length, ap, arith, subst, sym, Group, Layout, relocation_count, flat_map_from, part_errors, IsLaidOut, Batch, AreBatches, pairs_at}
use Rattle.wild_crew.specs.FinalCore.{AreTotals}
use Rattle.wild_types.specs.declared.part.Role.TheVariants as role
use Rattle.wild_image.specs.Batches.{GivesBatch}
use Rattle.wild_image.specs.LayoutFacts.{AreFactsOf}
use Rattle.wild_image.proofs.OutputLemmas.{FieldsFit-IsLaidOut, role_address}
use Rattle.wild_image.proofs.GatherLemmas.{pairs_below, sums_fit, totals_are}
use Rattle.wild_image.proofs.JobLemmas.{few_groups}
use Rattle.wild_image.proofs.PlacedLemmas.{made}
use Rattle.wild_image.proofs.output.write_resolved.Goals as goal

pub invariant_of-job-clause-shares : goal.invariant_of-job-clause-shares
invariant_of-job-clause-shares g c = c.requires.shares

pub invariant_of-job-clause-batches_are : goal.invariant_of-job-clause-batches_are
invariant_of-job-clause-batches_are g c =
    let bs = c.as_slice-batches.result.now in
    let cut = subst (λ (xs : List Batch). AreBatches c.as_slice-groups.result.now xs) (sym c.as_slice-batches.ensures.value) c.in_ok-cut.ensures.batches in
    subst (λ (gs : List Group). AreBatches gs bs) c.as_slice-groups.ensures cut

pub invariant_of-job-clause-few : goal.invariant_of-job-clause-few
invariant_of-job-clause-few g c =
    let few = few_groups c.args.resolved.now.layout.now c.requires.clauses in
    let least = c.in_ok-cut.ensures.few in
    let one = ap length c.as_slice-batches.ensures.value in
    let two = ap length c.as_slice-groups.ensures in
    omega (arith, few, least, one, two)

pub gather_batches-requires-clause-sections : goal.gather_batches-requires-clause-sections
gather_batches-requires-clause-sections g c = λ j low k d m.
    let below = pairs_below c.args.resolved.now.layout.now c.requires.laid_out c.as_slice-batches.result.now j k d m in
    omega (arith, below, c.len-sections.ensures)

pub gather_batches-requires-clause-fit : goal.gather_batches-requires-clause-fit
gather_batches-requires-clause-fit g c = λ k low.
    let bs = c.as_slice-batches.result.now in
    let cut = subst (λ (xs : List Batch). AreBatches c.as_slice-groups.result.now xs) (sym c.as_slice-batches.ensures.value) c.in_ok-cut.ensures.batches in
    let all = subst (λ (gs : List Group). AreBatches gs bs) c.as_slice-groups.ensures cut in
    sums_fit c.args.resolved.now.layout.now bs all c.requires.few k

pub write_bytes-requires-clause-few : goal.write_bytes-requires-clause-few
write_bytes-requires-clause-few g c = few_groups c.args.resolved.now.layout.now c.requires.clauses

pub write_bytes-requires-clause-batches : goal.write_bytes-requires-clause-batches
write_bytes-requires-clause-batches g c =
    let cut = subst (λ (xs : List Batch). AreBatches c.as_slice-groups.result.now xs) (sym c.as_slice-batches.ensures.value) c.in_ok-cut.ensures.batches in
    subst (λ (gs : List Group). AreBatches gs c.as_slice-batches.result.now) c.as_slice-groups.ensures cut

pub write_bytes-requires-clause-each : goal.write_bytes-requires-clause-each
write_bytes-requires-clause-each g c = λ j o at. (c.in_ok-gathered.ensures.outcomes.1 j o (rw c.as_slice-pieces.ensures at at))

pub returns-clause-counts : goal.returns-clause-counts
returns-clause-counts g c =
    let l = c.args.resolved.now.layout.now in
    let bs = c.as_slice-batches.result.now in
    let cut = subst (λ (xs : List Batch). AreBatches c.as_slice-groups.result.now xs) (sym c.as_slice-batches.ensures.value) c.in_ok-cut.ensures.batches in
    let all = subst (λ (gs : List Group). AreBatches gs bs) c.as_slice-groups.ensures cut in
    let totals = c.in_ok-gathered.ensures.totals in
    totals_are l bs c.in_ok-gathered.gathered.totals all (subst (λ (n : ℕ). AreTotals (pairs_at l bs) (length bs) n c.in_ok-gathered.gathered.totals) c.len-sections.ensures totals)

pub make_search_table-requires-clause-place : goal.make_search_table-requires-clause-place
make_search_table-requires-clause-place g c = role_address c.args.resolved.now.layout.now c.requires.laid_out role.EhFrameHdr

pub invariant_of-job-clause-table_is : goal.invariant_of-job-clause-table_is
invariant_of-job-clause-table_is g c = made c.args.resolved.now.layout.now c.in_ok-table.table c.in_ok-table.ensures

pub invariant_of-job-clause-facts_are : goal.invariant_of-job-clause-facts_are
invariant_of-job-clause-facts_are g c = c.requires.facts
