use Rattle.wild_image.proofs.Common.{subst, sym, Layout, IsLaidOut}
use Rattle.wild_types.specs.declared.part.Role.TheVariants as role
use Rattle.wild_contents.specs.SearchTable.{IsSearchTable}
use Rattle.wild_image.proofs.OutputLemmas.{FieldsFit-IsLaidOut, role_address}
use Rattle.wild_image.proofs.prepared.Prepared.of.Goals as goal

pub new-resolved-requires-clause-fits : goal.new-resolved-requires-clause-fits
new-resolved-requires-clause-fits g c = FieldsFit-IsLaidOut c.args.layout.now (c.layouts_are_laid_out.ensures c.args.layout.now c.requires.clauses c.requires.shares)

pub make_search_table-requires-clause-place : goal.make_search_table-requires-clause-place
make_search_table-requires-clause-place g c = role_address c.new-resolved.result.layout.now (subst IsLaidOut (sym c.new-resolved.ensures) (c.layouts_are_laid_out.ensures c.args.layout.now c.requires.clauses c.requires.shares)) role.EhFrameHdr

pub group_starts-requires : goal.group_starts-requires
group_starts-requires g c = (c.layouts_are_laid_out.ensures c.args.layout.now c.requires.clauses c.requires.shares).parts

pub returns : goal.returns
returns g c =
    let l = c.args.layout.now in
    record {
      facts = c.of-facts.ensures;
      symbols = c.in_ok-symbols.ensures;
      table = subst (λ (m : Layout). IsSearchTable m c.in_ok-table.table) c.new-resolved.ensures c.in_ok-table.ensures;
      starts = c.in_ok-starts.ensures;
    }
