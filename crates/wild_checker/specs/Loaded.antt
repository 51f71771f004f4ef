-- What references are checked against.
--   Loaded       a layout, its outline, and the memory of an image as terms
--   loaded_now   to which a reference in the code refers
use Rattle.std.specs.Prelude.{Bool, List, Option}
use Rattle.wild_types.specs.declared.layout.Layout.{Layout}
use Rattle.wild_terms.specs.declared.outline.Outline.{Outline}
use Rattle.wild_terms.specs.Symbolic.{Symbolic}
use Rattle.wild_checker.specs.declared.loaded.FileSite.{FileSite}
use Rattle.wild_checker.specs.declared.loaded.LoadedRef.{LoadedRef}

-- a layout, its outline, and the memory of an image as terms; whether the files' ranges of symbols ascend; the files of the symbols
pub record Loaded : Type 0 where
  pub layout : Layout
  pub outline : Outline
  pub memory : Symbolic
  pub ordered : Bool
  pub files : List (Option FileSite)

abbrev pub loaded_now : LoadedRef → Loaded
loaded_now k = record { layout = k.layout.now; outline = k.outline.now; memory = k.memory.now; ordered = k.ordered; files = k.files.now }
