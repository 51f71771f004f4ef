-- How many versions a layout defines, and how long its padding is.
use Rattle.std.specs.Prelude.{not, drop}
use Rattle.std.proofs.Common.{◌^◌, ◌<◌, ◌&&◌, nat_le, length, arith, ◌≡◌}
use Rattle.std.proofs.lemmas.Bool.{and_parts, leb-true}
use Rattle.std.proofs.lemmas.List.FromFn.{length-map-range_with_len}
use Rattle.wild_types.specs.declared.layout.Layout.{Layout}
use Rattle.wild_types.specs.Lookups.{image_size}
use Rattle.wild_needs.specs.Versions.{need_count, versions_needed, most_versions}
use Rattle.wild_layout.specs.Geometry.{IsLaidOut}
use Rattle.wild_layout.specs.Image.{padding, padding_byte, is_owned}

-- the versions that the output defines are counted in 16 bits
pub definitions_fit : (l : Layout) → IsLaidOut l → length l.verdefs < 2 ^ 16
definitions_fit l h =
    let a = and_parts (nat_le (length l.verdefs) most_versions) (nat_le (need_count l) most_versions && nat_le (versions_needed l) most_versions) h.few_versions in
    let b = leb-true _ _ a.0 in
    omega (arith, b)

pub length-padding : (l : Layout) → length (padding l) ≡ image_size l
unfolding padding
length-padding l = length-map-range_with_len (padding_byte l (λ k. not (is_owned l k)) (drop 1 l.sections)) 0 (image_size l)
