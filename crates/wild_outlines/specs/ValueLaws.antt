-- Values, decisions and placed sections depend on the outline of a layout only: they do not depend on the contents of sections that may
-- be changed.
--   OutlineStays       a change that keeps the length of its section leaves the outline as it is
--   ValuesByOutline    values of symbols, decisions on relocations, and what is placed
--   ImageSizeByOutline, WarningsByOutline   the size of the image, and the warnings
use Rattle.std.specs.Prelude.{◌≡◌, ℕ, length, Option, Some}
use Rattle.wild_types.specs.declared.input.InputRelocation.{InputRelocation}
use Rattle.wild_types.specs.declared.input.InputSection.{InputSection}
use Rattle.wild_types.specs.declared.symbol.Symbol.{Symbol}
use Rattle.wild_types.specs.declared.file.File.{File}
use Rattle.wild_types.specs.declared.file.Group.{Group}
use Rattle.wild_types.specs.declared.layout.Layout.{Layout}
use Rattle.wild_types.specs.declared.layout.Thunk.{Thunk}
use Rattle.wild_types.specs.Addresses.{raw_value}
use Rattle.wild_types.specs.Item.{Item}
use Rattle.wild_types.specs.Lookups.{image_size}
use Rattle.wild_change.specs.declared.change.Change.{Change}
use Rattle.wild_change.specs.Change.{found_section, changed_layout}
use Rattle.wild_change.specs.Outline.{outline}
use Rattle.wild_slot.specs.SymbolWords.{slots_of}
use Rattle.wild_slot.specs.Treatment.{treatment}
use Rattle.wild_placement.specs.FrameInputs.{frames_of}
use Rattle.wild_placement.specs.PlacedSections.{placed_files, sorted_sections}
use Rattle.wild_layout.specs.Debug.{debug_decided_at}
use Rattle.wild_layout.specs.Decide.{decide}
use Rattle.wild_layout.specs.Merged.{address_for, merged_strings}
use Rattle.wild_layout.specs.SearchTable.{layout_fdes}
use Rattle.wild_layout.specs.Thunks.{thunk_target}
use Rattle.wild_layout.specs.Warnings.{warnings}

-- section s may be changed, and the change has as many bytes
abbrev pub OutlineStays : Type 0
OutlineStays = (l : Layout) (c : Change) (s : InputSection) → found_section l c ≡ Some s → length c.bytes ≡ length s.bytes → outline (changed_layout l c) ≡ outline l

pub record ValuesByOutline (l : Layout) : Type 0 where
  pub values : (i : ℕ) → raw_value l i ≡ raw_value (outline l) i
  pub strings : (i : ℕ) → merged_strings l i ≡ merged_strings (outline l) i
  pub addresses : (r : InputRelocation) → address_for l r ≡ address_for (outline l) r
  pub slots : (s : Symbol) → slots_of l s ≡ slots_of (outline l) s
  pub treatments : (flags : ℕ) (r : InputRelocation) → treatment l flags r ≡ treatment (outline l) flags r
  pub decisions : (s : Item) (i : ℕ) → decide l s i ≡ decide (outline l) s i
  pub debug : (s : InputSection) (r : Option InputRelocation) → debug_decided_at l s r ≡ debug_decided_at (outline l) s r
  pub thunks : (t : Thunk) → thunk_target l t ≡ thunk_target (outline l) t
  pub frames : (f : File) (s : InputSection) → frames_of l f s ≡ frames_of (outline l) f s
  pub placed : (g : Group) → placed_files l g ≡ placed_files (outline l) g
  pub sorted : sorted_sections l ≡ sorted_sections (outline l)
  pub fdes : layout_fdes l ≡ layout_fdes (outline l)

abbrev pub ImageSizeByOutline : Type 0
ImageSizeByOutline = (l : Layout) → image_size l ≡ image_size (outline l)

abbrev pub WarningsByOutline : Type 0
WarningsByOutline = (l : Layout) → warnings l ≡ warnings (outline l)
