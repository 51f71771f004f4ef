-- Sorted sections, entry by entry of the order.
--   sorted_as_loaded l s   a sorted section, in the form of a loaded one
--   sections_by_order l xs     the sections that entries of the order name, as written with the last file
use Rattle.std.specs.Prelude.{List, map}
use Rattle.std.specs.List.{flat_map}
use Rattle.wild_types.specs.declared.input.InputSection.{InputSection}
use Rattle.wild_types.specs.declared.layout.SortedSection.{SortedSection}
use Rattle.wild_types.specs.declared.layout.Layout.{Layout}
use Rattle.wild_placement.specs.PlacedSections.{Input, as_loaded, sorted_input, unread}

-- a sorted section is written like a loaded one
abbrev pub sorted_as_loaded : Layout → InputSection → InputSection
sorted_as_loaded l s = as_loaded (unread l s)

-- the sections of some inputs
abbrev pub sections_of : List Input → List InputSection
sections_of xs = map (λ (x : Input). x.section) xs

-- the sections that entries of the order name
abbrev pub sections_by_order : Layout → List SortedSection → List InputSection
sections_by_order l xs = sections_of (flat_map (sorted_input l) xs)
