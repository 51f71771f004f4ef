-- The texts of the command `relink`; each line ends with a newline.
--   rewritten_text layout image warnings counts   rewritten 1, then the text for the image
--   no_section_text, no_length_text given needed   why nothing is changed
use Rattle.std.specs.Prelude.{ℕ, List, ◌++◌, codes, decimal}
use Rattle.wild_types.specs.declared.layout.Layout.{Layout}
use Rattle.wild_types.specs.declared.warning.EntryWarning.{EntryWarning}
use Rattle.wild_text.specs.Answer.{image_text}

-- the number of changes
abbrev pub rewritten_line : List ℕ
rewritten_line = codes "rewritten 1\n"

-- the text for the image of a changed layout
abbrev pub rewritten_text : Layout → List ℕ → List EntryWarning → List ℕ → List ℕ
rewritten_text l image warnings counts = rewritten_line ++ image_text l image warnings counts

-- the text for a change that names no section that may be changed
abbrev pub no_section_text : List ℕ
no_section_text = codes "no change section\n"

-- the text for new bytes of another length
abbrev pub no_length_text : ℕ → ℕ → List ℕ
no_length_text given needed = codes "no change length given=" ++ decimal given ++ codes " needed=" ++ decimal needed ++ codes "\n"
