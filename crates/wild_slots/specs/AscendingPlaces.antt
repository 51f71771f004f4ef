-- The places of words and stubs are in ascending order and do not overlap (x86-64 psABI, "Global Offset Table (GOT)", "Procedure
-- Linkage Table").
--   word_places part l s    the places of a symbol's words in a part
--   stub_places l s         the place of its stub
--   Ascend n low high ps    items of n bytes at these places, in ascending order
--   HasAscendingPlaces l    the words of each table, and the stubs, have such places
--   PlacesAscend            the law
use Rattle.std.specs.Prelude.{ℕ, ◌+◌, ◌^◌, ◌≤◌, if◌then◌else◌, List, [], Option, Some, None, option_to_list, All, AllPairs}
use Rattle.std.specs.List.{flat_map}
use Rattle.wild_types.specs.declared.part.Role.TheVariants as role
use Rattle.wild_types.specs.declared.symbol.Symbol.{Symbol}
use Rattle.wild_types.specs.declared.layout.Layout.{Layout}
use Rattle.wild_slot.specs.declared.slot.SlotWord.{SlotWord}
use Rattle.wild_slot.specs.declared.slot.SlotWord.TheVariants.{InRelrGot}
use Rattle.wild_slot.specs.declared.slot_parts.WordPart.{WordPart}
use Rattle.wild_slot.specs.declared.slot_parts.WordPart.TheVariants as words
use Rattle.wild_slot.specs.SlotParts.{at_places}
use Rattle.wild_types.specs.SymbolSlots.{plt_of, slots_address}
use Rattle.wild_needs.specs.SlotShares.{word_size, stub_size, relr_got_place}
use Rattle.wild_slot.specs.SymbolWords.{slots_of}
use Rattle.wild_plan_rules.specs.SlotPlaces.{start_of, first_free}
use Rattle.wild_layout.specs.SlotOrder.{HasSlotsInOrder}
use Rattle.wild_slots.specs.Order.{written_symbols, end_of}

-- the place of a word, if the word is in the part
abbrev pub place_in : WordPart → ℕ → SlotWord → Option ℕ
place_in words.RelrGot at w = relr_got_place at w
place_in words.Got at (InRelrGot a) = None
place_in words.Got at other = Some at

-- the places of a symbol's words in the part
abbrev pub word_places : WordPart → Layout → Symbol → List ℕ
word_places part l s = at_places (place_in part) (slots_address s) (slots_of l s).words

-- the place of its stub, if it has one
abbrev pub stub_places : Layout → Symbol → List ℕ
stub_places l s = if (slots_of l s).has_stub then option_to_list (plt_of s) else []

-- an item of n bytes is within these bounds
pub record LiesWithin (n low high p : ℕ) : Type 0 where
  pub from : low ≤ p
  pub to : p + n ≤ high

-- items of n bytes at these places are within these bounds, each after those before it
pub record Ascend (n low high : ℕ) (ps : List ℕ) : Type 0 where
  pub within : All (LiesWithin n low high) ps
  pub ascend : AllPairs (λ p q. p + n ≤ q) ps

-- words after the shared module pair, those of RELR blocks, and stubs
pub record HasAscendingPlaces (l : Layout) : Type 0 where
  pub table : Ascend word_size (first_free l).got (end_of l role.Got) (flat_map (word_places words.Got l) (written_symbols l))
  pub blocks : Ascend word_size (start_of l role.GotRelr) (end_of l role.GotRelr) (flat_map (word_places words.RelrGot l) (written_symbols l))
  pub stubs : Ascend stub_size (start_of l role.PltGot) (end_of l role.PltGot) (flat_map (stub_places l) (written_symbols l))

-- if addresses are numbers of 64 bits
abbrev pub PlacesAscend : Type 0
PlacesAscend = (l : Layout) → HasSlotsInOrder l → end_of l role.Got ≤ 2 ^ 64 → HasAscendingPlaces l
