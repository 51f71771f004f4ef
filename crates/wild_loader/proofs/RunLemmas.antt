-- Whether runs share an address, by what holds of their extents.
use Rattle.std.proofs.Common.{◌≡◌, List, map, arith}
use Rattle.std.specs.Prelude.{AllPairs, None}
use Rattle.std.specs.List.Sorted.{IsPermutation}
use Rattle.std.proofs.lemmas.List.{length-map, get_or-map}
use Rattle.std.proofs.lemmas.List.Sorted.{IsPermutation-map}
use Rattle.wild_words.proofs.ExtentLemmas.{all-apart, order-free}
use Rattle.wild_loader.specs.declared.memory.Run.{Run}
use Rattle.wild_loader.specs.Runs.{extent_of, least_shared}
use Rattle.wild_loader.specs.SegmentLaws.{DoesNotOverlap}

pub runs-order : (xs ys : List Run) → IsPermutation xs ys → least_shared ys ≡ least_shared xs
runs-order xs ys moved = order-free (map extent_of xs) (map extent_of ys) (IsPermutation-map extent_of xs ys moved)

pub runs-apart : (rs : List Run) → least_shared rs ≡ None → AllPairs DoesNotOverlap rs
runs-apart rs none = λ i j d l m.
    let n = length-map rs extent_of in
    let a = get_or-map extent_of rs i d (extent_of d) (omega arith) in
    let b = get_or-map extent_of rs j d (extent_of d) m in
    let both = all-apart (map extent_of rs) none i j (extent_of d) l (omega (arith, n, m)) in
    rw (a, b) at both
