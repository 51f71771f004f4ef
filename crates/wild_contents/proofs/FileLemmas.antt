-- Laws of what the files of a group give, by the kind of the part.
use Rattle.std.proofs.Common.{◌≡◌, ℕ, Bool, true, false, List, ◌++◌, sym, ap, ◌∙◌}
use Rattle.std.specs.List.{flat_map}
use Rattle.wild_types.specs.declared.part.Role.{Role}
use Rattle.wild_types.specs.declared.part.Role.TheVariants as role
use Rattle.wild_types.specs.declared.file.Group.{Group}
use Rattle.wild_types.specs.declared.layout.Layout.{Layout}
use Rattle.wild_placement.specs.PlacedSections.{placed_files}
use Rattle.wild_layout.specs.Content.{file_content}
use Rattle.wild_contents.specs.PlacedSections.{is_applied, is_apart, group_frames, first_given, HaveSearchTable}
use Rattle.wild_contents.proofs.PlacedLemmas.{plain_files, frames_given, table_given}

-- those for which no section is read
pub files_plain : (l : Layout) (r : Role) (g : Group) (old new : List ℕ) → is_applied r ≡ false → is_apart r ≡ false → new ≡ old ++ flat_map (file_content l r) g.files → new ≡ old ++ flat_map (file_content l r) (placed_files l g)
files_plain l r g old new plain here h = h ∙ ap (λ (ys : List ℕ). old ++ ys) (sym (plain_files l r g plain here))

-- frames
pub files_frames : (l : Layout) (r : Role) (g : Group) (frames old new : List ℕ) → r ≡ role.EhFrame → frames ≡ group_frames l g → new ≡ old ++ frames → new ≡ old ++ flat_map (file_content l r) (placed_files l g)
files_frames l r g frames old new e is h = rw e (h ∙ ap (λ (ys : List ℕ). old ++ ys) (is ∙ sym (frames_given l g)))

-- the search table
pub files_table : (l : Layout) (r : Role) (g : Group) (table old new : List ℕ) → r ≡ role.EhFrameHdr → HaveSearchTable l table g.files → new ≡ old ++ flat_map (first_given table) g.files → new ≡ old ++ flat_map (file_content l r) (placed_files l g)
files_table l r g table old new e has h = rw e (h ∙ ap (λ (ys : List ℕ). old ++ ys) (sym (table_given l g table has)))
