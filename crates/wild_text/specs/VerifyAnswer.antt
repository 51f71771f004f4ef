-- The texts of the command `verify`; each line ends with a newline.
--   yes_text                  yes
--   no_partial_text           no partial
--   no_load_text fault        no load NAME k=v
--   no_segment_text index     no segment index=I
--   no_byte_text, no_reference_text   no byte group=G file=F section=S offset=O, no reference group=G file=F section=S index=I
use Rattle.std.specs.Prelude.{ℕ, List, ◌++◌, codes, decimal}
use Rattle.wild_loader.specs.declared.fault.LoadFault.{LoadFault}
use Rattle.wild_text.specs.SpaceAnswer.{load_fault_text}

-- the text for an image that is right
abbrev pub yes_text : List ℕ
yes_text = codes "yes\n"

-- the text for an image of a relocatable object
abbrev pub no_partial_text : List ℕ
no_partial_text = codes "no partial\n"

-- the text for an image that is not loaded
abbrev pub no_load_text : LoadFault → List ℕ
no_load_text reason = codes "no load " ++ load_fault_text reason ++ codes "\n"

-- the text for a segment to load that layout and image do not both have
abbrev pub no_segment_text : ℕ → List ℕ
no_segment_text index = codes "no segment index=" ++ decimal index ++ codes "\n"

-- a byte of an input section
abbrev pub byte_text : ℕ → ℕ → ℕ → ℕ → List ℕ
byte_text group file section offset =
    codes "byte group=" ++ decimal group ++ codes " file=" ++ decimal file ++ codes " section=" ++ decimal section ++ codes " offset=" ++ decimal offset

-- a relocation of an input section
abbrev pub reference_text : ℕ → ℕ → ℕ → ℕ → List ℕ
reference_text group file section index =
    codes "reference group=" ++ decimal group ++ codes " file=" ++ decimal file ++ codes " section=" ++ decimal section ++ codes " index=" ++ decimal index

-- the text for a byte that is not the input's
abbrev pub no_byte_text : ℕ → ℕ → ℕ → ℕ → List ℕ
no_byte_text group file section offset = codes "no " ++ byte_text group file section offset ++ codes "\n"

-- the text for a reference that does not hold, or is not decided
abbrev pub no_reference_text : ℕ → ℕ → ℕ → ℕ → List ℕ
no_reference_text group file section index = codes "no " ++ reference_text group file section index ++ codes "\n"
