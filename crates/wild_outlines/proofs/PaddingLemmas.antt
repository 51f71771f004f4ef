-- The bytes without an owner in an outline, and the padding.
use Rattle.wild_outlines.proofs.Common.{◌≡◌, ℕ, Bool, List, [], ◌∷◌, map, refl, ap, ◌∙◌, ◌&&◌, not, drop, range_with_len, list_any, fun_ext, Layout, Section, InputSection, File, Group, image_size, padding, outline_section, outline_file, outline_group, outline}
use Rattle.wild_layout.specs.Image.{is_owned, padding_byte, section_owns, thunk_owns, file_owns, group_owns, part_owns, has_offset}
use Rattle.wild_outlines.proofs.ListLemmas.{map-same}
use Rattle.wild_outlines.proofs.ClausesTests.{image_size-outline, header_only-outline}
use Rattle.wild_outlines.proofs.ChangedItems.{length-outline}
use Rattle.wild_outlines.proofs.ClausesGroups.{list_any-mapped}

section_owns-outline : (l : Layout) (k : ℕ) (s : InputSection) → section_owns (outline l) k (outline_section s) ≡ section_owns l k s
section_owns-outline l k s = simp (length-outline s, header_only-outline l)

thunk_owns-each : (l : Layout) (k : ℕ) → thunk_owns (outline l) k ≡ thunk_owns l k
thunk_owns-each l k = fun_ext (λ t. simp (header_only-outline l))

part_owns-each : (l : Layout) (k : ℕ) → part_owns (outline l) k ≡ part_owns l k
part_owns-each l k = fun_ext (λ p. simp (header_only-outline l))

file_owns-outline : (l : Layout) (k : ℕ) (f : File) → file_owns (outline l) k (outline_file f) ≡ file_owns l k f
file_owns-outline l k f = simp (list_any-mapped (section_owns (outline l) k) (section_owns l k) outline_section (section_owns-outline l k) f.sections, thunk_owns-each l k)

group_owns-outline : (l : Layout) (k : ℕ) (g : Group) → group_owns (outline l) k (outline_group g) ≡ group_owns l k g
group_owns-outline l k g = list_any-mapped (file_owns (outline l) k) (file_owns l k) outline_file (file_owns-outline l k) g.files

groups_own-outline : (l : Layout) (k : ℕ) → list_any (group_owns (outline l) k) (outline l).groups ≡ list_any (group_owns l k) l.groups
groups_own-outline l k = list_any-mapped (group_owns (outline l) k) (group_owns l k) outline_group (group_owns-outline l k) l.groups

is_owned-outline : (l : Layout) (k : ℕ) → is_owned (outline l) k ≡ is_owned l k
is_owned-outline l k = simp (groups_own-outline l k, part_owns-each l k, header_only-outline l)

padding_byte-outline : (l : Layout) (free : ℕ → Bool) (ss : List Section) (k : ℕ) → padding_byte (outline l) free ss k ≡ padding_byte l free ss k
padding_byte-outline l free [] k = refl
padding_byte-outline l free (s ∷ ss) k = simp (padding_byte-outline l (λ j. free j && not (has_offset l j s)) ss k)

pub padding-outline : (l : Layout) → padding (outline l) ≡ padding l
unfolding padding
padding-outline l =
    ap (λ n. map (padding_byte (outline l) (λ k. not (is_owned (outline l) k)) (drop 1 l.sections)) (range_with_len 0 n)) (image_size-outline l)
    ∙ (ap (λ (o : ℕ → Bool). map (padding_byte (outline l) (λ k. not (o k)) (drop 1 l.sections)) (range_with_len 0 (image_size l))) (fun_ext (is_owned-outline l))
    ∙ map-same (padding_byte (outline l) (λ k. not (is_owned l k)) (drop 1 l.sections)) (padding_byte l (λ k. not (is_owned l k)) (drop 1 l.sections)) (range_with_len 0 (image_size l)) (padding_byte-outline l (λ k. not (is_owned l k)) (drop 1 l.sections)))
