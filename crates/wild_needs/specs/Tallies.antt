-- Counts of dynamic relocations and RELR words, relocation by relocation, in placed sections.
--   section_facts s          the properties of a section on which counts depend: flags, address, and whether its relocations are read
--   counted_in kind l s    the number of items of that kind in a section
--   may_have_items kind l standing   a section may have items of that kind
--   type_allows kind flags n   a relocation of type n can be such an item, in a section with such flags
--   types_exclude kind flags rs   no relocation can be one, by its type
--   reads_places kind l    the count depends on the addresses of sections
--   rest_of kind ..        the number of items for relocations, given the state of the RELR run
--   Tallies a r b          a tally advances by a relocation: its final count, at most 2^64 - 1, does not change
use Rattle.std.specs.Prelude.{◌≡◌, ℕ, ◌+◌, ◌-◌, ◌^◌, ◌<◌, ◌&&◌, Bool, false, not, min, List, ◌∷◌, length, option_to_list}
use Rattle.std.specs.List.{flat_map, filter, list_all}
use Rattle.wild_relr.specs.declared.run.Run.{Run}
use Rattle.wild_relr.specs.RunWords.{counted}
use Rattle.wild_types.specs.declared.input.InputRelocation.{InputRelocation}
use Rattle.wild_types.specs.declared.input.InputSection.{InputSection}
use Rattle.wild_types.specs.declared.layout.Layout.{Layout}
use Rattle.wild_types.specs.Kinds.{is_position_independent}
use Rattle.wild_types.specs.Lookups.{is_read, allocated}
use Rattle.wild_slot.specs.Treatment.{treatment}
use Rattle.wild_needs.specs.declared.tally.Counted.{Counted}
use Rattle.wild_needs.specs.declared.tally.Counted.TheVariants.{Listed, Packed, Dynamic}
use Rattle.wild_needs.specs.declared.tally.SectionFacts.{SectionFacts}
use Rattle.wild_needs.specs.declared.tally.Tally.{Tally}
use Rattle.wild_needs.specs.Entries.{listed_at, relr_place_at, rela_places, words_of, may_be_relative, has_dynamic_entry, may_have_dynamic_entry, dynamic_relocations}

-- the properties of a section on which counts depend
abbrev pub section_facts : InputSection → SectionFacts
section_facts s = record { flags = s.flags; address = s.address; is_read = is_read s }

-- the number of items of that kind in a section
abbrev pub counted_in : Counted → Layout → InputSection → ℕ
counted_in Listed l s = length (rela_places l s)
counted_in Packed l s = length (words_of l s)
counted_in Dynamic l s = length (dynamic_relocations l s)

-- a section may have items of that kind
abbrev pub may_have_items : Counted → Layout → SectionFacts → Bool
may_have_items Listed l at = is_position_independent l.kind && at.is_read
may_have_items Packed l at = (is_position_independent l.kind && at.is_read) && l.options.relr
may_have_items Dynamic l at = at.is_read && allocated at.flags

-- a relocation of type n can be such an item, in a section with such flags
abbrev pub type_allows : Counted → ℕ → ℕ → Bool
type_allows Dynamic flags n = may_have_dynamic_entry flags n
type_allows other flags n = may_be_relative n

-- no relocation can be one, by its type
abbrev pub types_exclude : Counted → ℕ → List InputRelocation → Bool
types_exclude kind flags rs = list_all (λ (r : InputRelocation). not (type_allows kind flags r.number)) rs

-- the count depends on the addresses of sections: with RELR even places are packed, and odd ones have an entry
abbrev pub reads_places : Counted → Layout → Bool
reads_places Dynamic l = false
reads_places other l = is_position_independent l.kind && l.options.relr

-- the number of items for relocations, given the state of the RELR run
abbrev pub rest_of : Counted → Layout → SectionFacts → Run → List InputRelocation → ℕ
rest_of Listed l at run rs = length (flat_map (λ r. option_to_list (listed_at l at.flags at.address r)) rs)
rest_of Packed l at run rs = counted run (flat_map (λ r. option_to_list (relr_place_at l at.flags at.address r)) rs)
rest_of Dynamic l at run rs = length (filter (λ r. has_dynamic_entry (treatment l at.flags r)) rs)

-- the count after the relocations that follow
abbrev pub tallied : Tally → List InputRelocation → ℕ
tallied a rs = min (2 ^ 64 - 1) (a.count + rest_of a.kind a.layout.now a.standing a.run rs)

-- a tally advances by a relocation
pub record Tallies (a : Tally) (r : InputRelocation) (b : Tally) : Type 0 where
  pub on : (rs : List InputRelocation) → tallied b rs ≡ tallied a (r ∷ rs)
  pub small : b.count < 2 ^ 64
