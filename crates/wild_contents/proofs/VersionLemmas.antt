-- Laws of how many versions are needed of libraries.
use Rattle.std.proofs.Common.{◌≡◌, ℕ, ◌<◌, ◌≤◌, ◌&&◌, nat_le, List, [], ◌∷◌, length, get_or, refl, arith}
use Rattle.std.specs.Prelude.{All}
use Rattle.std.proofs.lemmas.Bool.{and_parts, leb-true}
use Rattle.wild_types.specs.declared.file.File.{File}
use Rattle.wild_types.specs.declared.file.Group.{Group}
use Rattle.wild_types.specs.declared.layout.Layout.{Layout}
use Rattle.wild_types.specs.Lists.{total}
use Rattle.wild_types.specs.Lookups.{files_of}
use Rattle.wild_needs.specs.Versions.{needs_of, need_count, length_of, versions_needed, most_versions}
use Rattle.wild_types.proofs.ListLemmas.{total-append, total-prefix}
use Rattle.wild_layout.specs.Geometry.{IsLaidOut}
use Rattle.wild_contents.specs.VersionCounts.{NeedsFit}

-- of a file, and of a group
abbrev versions_of : File → ℕ
versions_of f = length_of (needs_of f)

abbrev group_versions : Group → ℕ
group_versions g = total versions_of g.files

each_below : {X : Type 0} (f : X → ℕ) (xs : List X) (i : ℕ) (d : X) → i < length xs → f (get_or xs i d) ≤ total f xs
each_below f xs i d low = let e = total-prefix f xs i d low in omega (arith, e)

group_by_group : (gs : List Group) → total versions_of (files_of gs) ≡ total group_versions gs
group_by_group [] = refl
group_by_group (g ∷ gs) = let a = total-append versions_of g.files (files_of gs) in let b = group_by_group gs in omega (arith, a, b)

-- so are those that are needed of each library
pub needs_fit : (l : Layout) → IsLaidOut l → All NeedsFit l.groups
needs_fit l h = λ k d low i f inside.
    let a = and_parts (nat_le (length l.verdefs) most_versions) (nat_le (need_count l) most_versions && nat_le (versions_needed l) most_versions) h.few_versions in
    let b = and_parts (nat_le (need_count l) most_versions) (nat_le (versions_needed l) most_versions) a.1 in
    let c = leb-true (versions_needed l) most_versions b.1 in
    let e = group_by_group l.groups in
    let m = each_below group_versions l.groups k d low in
    let n = each_below versions_of (get_or l.groups k d).files i f inside in
    omega (arith, c, e, m, n)
