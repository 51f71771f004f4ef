-- The texts of the command `space`; each line ends with a newline.
--   space_text order binds   order I J .., then for each symbol a line bind I K J or bind I K none; images by their places in
--                            the input
--   bind_fault_text fault    NAME k=v ..
use Rattle.std.specs.Prelude.{ℕ, ◌+◌, List, [], ◌∷◌, ◌++◌, codes, decimal, get_or, Option, Some, None}
use Rattle.std.specs.List.{flat_map}
use Rattle.wild_loader.specs.declared.fault.LoadFault.{LoadFault}
use Rattle.wild_loader.specs.declared.fault.LoadFault.TheVariants as load_fault
use Rattle.wild_hashes.specs.declared.fault.ImageFault.{ImageFault}
use Rattle.wild_hashes.specs.declared.fault.ImageFault.TheVariants as image_fault
use Rattle.wild_space.specs.declared.binds.Definition.{Definition}
use Rattle.wild_space.specs.declared.fault.BindFault.{BindFault}
use Rattle.wild_space.specs.declared.fault.BindFault.TheVariants as bind_fault

-- the places of the images in the input, in the order in which they are searched
abbrev pub order_line : List ℕ → List ℕ
order_line order = codes "order" ++ flat_map (λ image. codes " " ++ decimal image) order ++ codes "\n"

-- the image of the definition
abbrev pub definition_text : List ℕ → Option Definition → List ℕ
definition_text order None = codes "none"
definition_text order (Some d) = decimal (get_or order d.image 0)

-- the definition of symbol k of an image
abbrev pub bind_line : List ℕ → ℕ → ℕ → Option Definition → List ℕ
bind_line order image k d = codes "bind " ++ decimal image ++ codes " " ++ decimal k ++ codes " " ++ definition_text order d ++ codes "\n"

-- those of symbols k, k + 1, and so on of an image
abbrev pub bind_lines : List ℕ → ℕ → ℕ → List (Option Definition) → List ℕ
bind_lines order image k [] = []
bind_lines order image k (d ∷ ds) = bind_line order image k d ++ bind_lines order image (k + 1) ds

-- those of the images from place n of the order on
abbrev pub lines_from : List ℕ → ℕ → List (List (Option Definition)) → List ℕ
lines_from order n [] = []
lines_from order n (binds ∷ later) = bind_lines order (get_or order n 0) 1 binds ++ lines_from order (n + 1) later

-- the order of the images, and the definition of each of their symbols
abbrev pub space_text : List ℕ → List (List (Option Definition)) → List ℕ
space_text order binds = order_line order ++ lines_from order 0 binds

-- why the loader does not load an image
abbrev pub load_fault_text : LoadFault → List ℕ
load_fault_text load_fault.NotElf = codes "NotElf"
load_fault_text (load_fault.Cut offset) = codes "Cut offset=" ++ decimal offset
load_fault_text (load_fault.NoTable tag) = codes "NoTable tag=" ++ decimal tag
load_fault_text (load_fault.UnknownDynamic number) = codes "UnknownDynamic number=" ++ decimal number
load_fault_text (load_fault.UnknownSymbol index) = codes "UnknownSymbol index=" ++ decimal index
load_fault_text (load_fault.NoAnswer value) = codes "NoAnswer value=" ++ decimal value
load_fault_text (load_fault.Unloaded address) = codes "Unloaded address=" ++ decimal address
load_fault_text (load_fault.Wraps address) = codes "Wraps address=" ++ decimal address
load_fault_text (load_fault.Overlap address) = codes "Overlap address=" ++ decimal address
load_fault_text load_fault.OutOfMemory = codes "OutOfMemory"

-- why the look-up of a name in an image fails
abbrev pub image_fault_text : ImageFault → List ℕ
image_fault_text image_fault.NotElf = codes "NotElf"
image_fault_text (image_fault.Cut offset) = codes "Cut offset=" ++ decimal offset
image_fault_text (image_fault.NoTable tag) = codes "NoTable tag=" ++ decimal tag
image_fault_text (image_fault.Cycle index) = codes "Cycle index=" ++ decimal index

-- why images are not bound; what is read of an image and what is loaded of it have one word
abbrev pub bind_fault_text : BindFault → List ℕ
bind_fault_text (bind_fault.Load image reason) = codes "Load image=" ++ decimal image ++ codes " " ++ load_fault_text reason
bind_fault_text (bind_fault.LookUp image reason) = codes "Load image=" ++ decimal image ++ codes " " ++ image_fault_text reason
bind_fault_text (bind_fault.Missing image needed) = codes "Missing image=" ++ decimal image ++ codes " needed=" ++ decimal needed
bind_fault_text (bind_fault.CopyInLibrary image index) = codes "CopyInLibrary image=" ++ decimal image ++ codes " index=" ++ decimal index
bind_fault_text (bind_fault.Undefined image index) = codes "Undefined image=" ++ decimal image ++ codes " index=" ++ decimal index
bind_fault_text (bind_fault.NoAnswer value) = codes "NoAnswer value=" ++ decimal value
bind_fault_text (bind_fault.Overlap address) = codes "Overlap address=" ++ decimal address
bind_fault_text bind_fault.OutOfMemory = codes "OutOfMemory"

-- the text for images that are not bound
abbrev pub not_bound_text : BindFault → List ℕ
not_bound_text fault = codes "not bound " ++ bind_fault_text fault ++ codes "\n"
