-- What a layout without faults has: no clause of it fails, and its GNU table is laid out.
use Rattle.wild_names.proofs.Common.{◌≡◌, [], ◌++◌, map, Ok, Layout, errors, group_errors, flat_map_from, gnu_hash_of, gnu_header}
use Rattle.wild_words.proofs.ListLemmas.{nil_parts}
use Rattle.wild_types.specs.declared.layout.GnuHash.{GnuHash}
use Rattle.wild_plan_rules.specs.WellFormed.{first_clause}
use Rattle.wild_records.specs.HashTables.{GnuHashHeaderFits}
use Rattle.wild_layout.specs.Faults.{part_errors, clause_errors}
use Rattle.wild_layout.specs.HashShapes.{HasGnuShape}
use Rattle.wild_hashes.specs.Laws.{NeighboursAscend, IsValidGnuTable}
use Rattle.wild_layout.proofs.FaultLemmas.{clause_holds}

-- no clause fails, and no share
pub well_formed : (l : Layout) → errors l ≡ [] → (first_clause l ≡ Ok tt) × (flat_map_from (part_errors l) 0 l.parts ≡ [])
unfolding errors
well_formed l h =
    let shares = flat_map_from (part_errors l) 0 l.parts in
    let rest = flat_map_from (group_errors l) 0 l.groups in
    let a = nil_parts (clause_errors (first_clause l) ++ shares) rest h in
    let b = nil_parts (clause_errors (first_clause l)) shares a.0 in
    (clause_holds (first_clause l) b.0, b.1)

pub gnu_laid_out : (l : Layout) (h : GnuHash) → NeighboursAscend → HasGnuShape l h → GnuHashHeaderFits (gnu_header h) → IsValidGnuTable (gnu_header h) (map gnu_hash_of l.dynsyms)
gnu_laid_out l h ascend shape fits = record {
  fits = fits;
  some_bucket = shape.some_bucket;
  some_bloom = shape.some_bloom;
  short_shift = shape.short_shift;
  ascend = ascend h.buckets (map gnu_hash_of l.dynsyms) shape.ascend;
}
