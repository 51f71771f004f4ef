-- A layout that was changed, with the image of the layout before the change.
--   KeepsLength l c               the change names a section that may be changed, and has as many bytes
--   HasFaultsOf l i g f s         the faults of the layout are those that a change of section s of file f of group i can cause
--   corrected_counts l s n ks     the counts ks, where section s had n relocations, with those that it has
--   AwaitsGroup l i g f s n w     w was written before that change, when the section had n relocations
--   IsSameImage w v               w and v are the same bytes and counts
use Rattle.std.specs.Prelude.{◌≡◌, ◌≤◌, ◌<◌, ℕ, ◌+◌, ◌-◌, ◌^◌, ◌&&◌, not, if◌then◌else◌, List, [], ◌++◌, length, Some, All}
use Rattle.wild_words.specs.Overlay.{overlay}
use Rattle.wild_types.specs.declared.input.InputSection.{InputSection}
use Rattle.wild_types.specs.declared.file.File.{File}
use Rattle.wild_types.specs.declared.file.Group.{Group}
use Rattle.wild_types.specs.declared.layout.Layout.{Layout}
use Rattle.wild_types.specs.HeaderOnly.{is_omitted}
use Rattle.wild_types.specs.Kinds.{is_partial_link}
use Rattle.wild_types.specs.Lookups.{image_size, is_counted, section_of}
use Rattle.wild_change.specs.declared.change.Change.{Change}
use Rattle.wild_change.specs.Change.{found_section, with_item}
use Rattle.wild_plan_rules.specs.Places.{relocation_count}
use Rattle.wild_plan_rules.specs.WellFormed.{first_clause}
use Rattle.wild_layout.specs.Faults.{flat_map_from, clause_errors, part_errors, group_errors, errors}
use Rattle.wild_layout.specs.Image.{group_pieces, bytes, counts}
use Rattle.wild_outlines.specs.RefusalLaws.{changed_clause, changed_shares}
use Rattle.wild_relinker.specs.declared.linked.WrittenImage.{WrittenImage}

-- the change names a section that may be changed, and has as many bytes
pub record KeepsLength (l : Layout) (c : Change) : Type 0 where
  pub section : InputSection
  pub found : found_section l c ≡ Some section
  pub same_length : length c.bytes ≡ length section.bytes

-- the faults of the layout are those that a change of this section of group i can cause
pub record HasFaultsOf (l : Layout) (i : ℕ) (g : Group) (f : File) (s : InputSection) : Type 0 where
  pub clause : first_clause l ≡ changed_clause l i f s
  pub shares : flat_map_from (part_errors l) 0 l.parts ≡ changed_shares l i g
  pub errors : errors l ≡ clause_errors (changed_clause l i f s) ++ changed_shares l i g ++ group_errors l i g

-- the count of the output section of s with the relocations of s in place of the n that it had, if these are counted
abbrev pub corrected_counts : Layout → InputSection → ℕ → List ℕ → List ℕ
corrected_counts l s n ks =
    if not (is_partial_link l.kind) && (is_counted s && not (is_omitted l s))
    then with_item (λ k. k + length s.relocations - n) (section_of l s.part) ks
    else ks

-- w was written before a change of section s of file f of group i, which had n relocations. If the layout has no faults, its image is that
-- of before with the pieces of the changed group g.
pub record AwaitsGroup (l : Layout) (i : ℕ) (g : Group) (f : File) (s : InputSection) (n : ℕ) (w : WrittenImage) : Type 0 where
  pub faults : HasFaultsOf l i g f s
  pub size : length w.out.items ≡ image_size l
  pub bytes : errors l ≡ [] → bytes l ≡ overlay (group_pieces l i g) w.out.items
  pub counts : counts l ≡ corrected_counts l s n w.counts.items
  pub small_counts : All (λ k. k < 2 ^ 32) w.counts.items
  pub old_count : n ≤ w.relocations
  pub relocations : relocation_count l + n ≡ w.relocations + length s.relocations

-- the same bytes and counts, and the same number of relocations
pub record IsSameImage (w v : WrittenImage) : Type 0 where
  pub bytes : w.out.items ≡ v.out.items
  pub counts : w.counts.items ≡ v.counts.items
  pub relocations : w.relocations ≡ v.relocations
