-- The effect of the decisions on a section's relocations.
--   decided_sites s rs ds   what the decided relocations write
--   decided_extents rs os ds   the bytes of the input that they write; os are the relocations in the input
--   ascends reach es        each extent begins at the end of the previous ones or after it
--   put_decision old r d    the bytes with one decided relocation written over them
--   end_of_decision n r d      the end of what a relocation writes, if it begins at n or after it; otherwise None
--   DecisionsLie n rs ds    what the relocations write is within n bytes
--   IsNext l s i n e a b    relocation i is decided, and written if it begins at n or after it
--   AreDecided l s ds       the decisions are those of the section's relocations
use Rattle.std.specs.Prelude.{◌≡◌, ℕ, ◌+◌, ◌-◌, ◌≤◌, Bool, true, false, ◌&&◌, nat_le, nat_lt, if◌then◌else◌, max, List, [], ◌∷◌, ◌++◌, length, Option, Some, None, Ok, option_to_list, slice_get, slice_range}
use Rattle.std.specs.List.{flat_map, range_with_len}
use Rattle.wild_words.specs.Words.{place}
use Rattle.wild_words.specs.Overlay.{Piece}
use Rattle.wild_words.specs.declared.extents.Extent.{Extent}
use Rattle.wild_types.specs.declared.input.InputRelocation.{InputRelocation}
use Rattle.wild_types.specs.Item.{Item}
use Rattle.wild_types.specs.declared.layout.Layout.{Layout}
use Rattle.wild_reloc.specs.Field.{size_width, size_written}
use Rattle.wild_layout.specs.declared.decision.Decision.{Decision}
use Rattle.wild_reloc.specs.declared.info.RelocationSize.{RelocationSize}
use Rattle.wild_layout.specs.declared.decision.Decision.TheVariants.{Rewritten}
use Rattle.wild_relax.specs.declared.row.Row.{Row}
use Rattle.wild_relax.specs.LinkedPattern.{pattern_size, keeps_bytes, fits_in, template_of}
use Rattle.wild_layout.specs.Decide.{decide}
use Rattle.wild_layout.specs.Sites.{Written, written_by, template_start, site_of, sites}

-- what the decided relocations write
unfoldable pub decided_sites : Item → List InputRelocation → List Decision → List Piece
decided_sites s [] ds = []
decided_sites s (r ∷ rs) [] = []
decided_sites s (r ∷ rs) (d ∷ ds) = site_of s r (Ok d) ++ decided_sites s rs ds

-- the bytes of a field of that size
abbrev pub field_extent : ℕ → RelocationSize → Extent
field_extent at size = record { start = at; end = at + size_width size }

-- the bytes of the instruction of a row in the input, whose relocation is at an offset there
abbrev pub template_extent : ℕ → InputRelocation → Row → Extent
template_extent from r row = record { start = template_start row r + from - r.offset; end = template_start row r + from - r.offset + pattern_size row }

abbrev pub written_extent : ℕ → Option Written → Option Extent
written_extent at None = None
written_extent at (Some w) = Some (field_extent at w.size)

-- the bytes of the input that a decided relocation writes, which is at an offset there
abbrev pub decided_extent : ℕ → InputRelocation → Decision → Option Extent
decided_extent from r (Rewritten row v) = Some (template_extent from r row)
decided_extent from r d = written_extent from (written_by d)

abbrev pub extent_by : Option InputRelocation → Option InputRelocation → Option Decision → List Extent
extent_by (Some o) (Some r) (Some d) = option_to_list (decided_extent o.offset r d)
extent_by _ _ _ = []

-- the same for the relocation with an index
abbrev pub extent_at : List InputRelocation → List InputRelocation → List Decision → ℕ → List Extent
extent_at rs os ds i = extent_by (slice_get os i) (slice_get rs i) (slice_get ds i)

-- the bytes of the input that they write
unfoldable pub decided_extents : List InputRelocation → List InputRelocation → List Decision → List Extent
decided_extents rs os ds = flat_map (extent_at rs os ds) (range_with_len 0 (length ds))

-- each begins at the end of the previous ones or after it
unfoldable pub ascends : ℕ → List Extent → Bool
ascends reach [] = true
ascends reach (e ∷ es) = nat_le reach e.start && ascends (max reach e.end) es

-- the bytes with a field written over them
abbrev pub put_field : List ℕ → ℕ → RelocationSize → ℕ → List ℕ
put_field old at size v = place at (size_written size v (slice_range old at (at + size_width size))) old

abbrev pub put_written : List ℕ → ℕ → Option Written → List ℕ
put_written old at None = old
put_written old at (Some w) = put_field old at w.size w.value

-- the bytes with the instruction of a row written over them
abbrev pub put_template : List ℕ → ℕ → Row → ℕ → List ℕ
put_template old at row v = place at (template_of row v (slice_range old at (at + pattern_size row))) old

-- the bytes with one decided relocation written over them
abbrev pub put_decision : List ℕ → InputRelocation → Decision → List ℕ
put_decision old r (Rewritten row v) = put_template old (template_start row r) row v
put_decision old r d = put_written old r.offset (written_by d)

-- the end of a field that begins at `end_of_last_field` or after it; otherwise None
abbrev pub end_of_field : ℕ → ℕ → RelocationSize → Option ℕ
end_of_field end_of_last_field at size = if nat_lt at end_of_last_field then None else Some (at + size_width size)

abbrev pub end_of_written : ℕ → ℕ → Option Written → Option ℕ
end_of_written end_of_last_field at None = Some end_of_last_field
end_of_written end_of_last_field at (Some w) = end_of_field end_of_last_field at w.size

-- the same for the instruction of a row
abbrev pub end_of_template : ℕ → ℕ → Row → Option ℕ
end_of_template end_of_last_field at row = if nat_lt at end_of_last_field then None else Some (at + pattern_size row)

-- the same for what a relocation writes
abbrev pub end_of_decision : ℕ → InputRelocation → Decision → Option ℕ
end_of_decision end_of_last_field r (Rewritten row v) = end_of_template end_of_last_field (template_start row r) row
end_of_decision end_of_last_field r d = end_of_written end_of_last_field r.offset (written_by d)

abbrev pub WrittenLies : ℕ → ℕ → Option Written → Type 0
WrittenLies n at None = Unit {0}
WrittenLies n at (Some w) = at + size_width w.size ≤ n

-- the row writes a whole instruction, as one of the table does, which is within n bytes
pub record TemplateLies (n : ℕ) (r : InputRelocation) (row : Row) : Type 0 where
  pub changes : keeps_bytes row ≡ false
  pub fits : fits_in row ≡ true
  pub ends : template_start row r + pattern_size row ≤ n

-- what a relocation writes is within n bytes
abbrev pub DecisionLies : ℕ → InputRelocation → Decision → Type 0
DecisionLies n r (Rewritten row v) = TemplateLies n r row
DecisionLies n r d = WrittenLies n r.offset (written_by d)

-- what the relocations write is within n bytes
abbrev pub DecisionsLie : ℕ → List InputRelocation → List Decision → Type 0
DecisionsLie n rs ds = (i : ℕ) (r : InputRelocation) (d : Decision) → slice_get rs i ≡ Some r → slice_get ds i ≡ Some d → DecisionLies n r d

-- relocation i is decided, and written if its bytes begin at `end_of_last_field` or after it
pub record IsNext (l : Layout) (s : Item) (i end_of_last_field : ℕ) (next : Option ℕ) (old new : List ℕ) : Type 0 where
  pub relocation : InputRelocation
  pub listed : slice_get s.relocations i ≡ Some relocation
  pub decision : Decision
  pub is : decide l s i ≡ Ok decision
  pub reached : next ≡ end_of_decision end_of_last_field relocation decision
  pub written : (end : ℕ) → next ≡ Some end → new ≡ put_decision old relocation decision

-- the decisions are those of the section's relocations
pub record AreDecided (l : Layout) (s : Item) (ds : List Decision) : Type 0 where
  pub count : length ds ≡ length s.relocations
  pub each : (i : ℕ) (d : Decision) → slice_get ds i ≡ Some d → decide l s i ≡ Ok d
  pub same : decided_sites s s.relocations ds ≡ sites l s
