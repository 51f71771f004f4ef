-- The order of a layout's GOT and PLT entries, and the flags of the symbols that have them (x86-64 psABI, "Global Offset Table (GOT)",
-- "Procedure Linkage Table"; ELF Handling For Thread-Local Storage).
--   SlotsFollow l        GOT words and PLT stubs are consecutive
--   FlagsAgree l s       a symbol's flags agree with its GOT entries and its stub
--   EachAgrees l         this holds for each definition, and for each symbol that has a resolution
--   HasSlotsInOrder l    GOT words, PLT stubs and files are in order, and the flags agree
--   SlotsAreInOrder      the law
use Rattle.std.specs.Prelude.{◌≡◌, ℕ, ◌+◌, ◌*◌, true, Some, None, Ok, All, is_some, slice_get}
use Rattle.wild_types.specs.declared.part.Part.{Part}
use Rattle.wild_types.specs.declared.part.Role.TheVariants as role
use Rattle.wild_types.specs.declared.symbol.Symbol.{Symbol}
use Rattle.wild_types.specs.declared.layout.Layout.{Layout}
use Rattle.wild_types.specs.FilePlaces.{first_misplaced_file}
use Rattle.wild_types.specs.Lookups.{canonical}
use Rattle.wild_needs.specs.SlotShares.{word_size}
use Rattle.wild_plan_rules.specs.SlotPlaces.{start_of, slots_astray, slot_is_even, block_has_base}
use Rattle.wild_plan_rules.specs.SlotFlags.{dynamic_is_interposable, stub_has_slot, thread_slot_alone, resolver_is_own, slot_agrees, resolver_moves, second_slot_fits}
use Rattle.wild_types.specs.ResolvedFlags.{HaveTheirFlags}
use Rattle.wild_plan_rules.specs.WellFormed.{first_clause}

-- GOT words and PLT stubs are assigned consecutively in their parts. GOT words are at multiples of 8, the pair for the output's own
-- thread-local data follows the reserved words, and a run of GOT words does not begin at address 0
pub record SlotsFollow (l : Layout) : Type 0 where
  pub placed : slots_astray l ≡ None
  pub even : All (λ (s : Symbol). slot_is_even s ≡ true) l.symbols
  pub pair : (at : ℕ) → l.tlsld ≡ Some at → at ≡ start_of l role.Got + word_size * l.got_header
  pub based : All (λ (p : Part). block_has_base p ≡ true) l.parts

-- a symbol of another module is interposable; an IFUNC is defined by the output and moves with the load bias; a symbol with a stub has a
-- GOT entry; one with a thread-local GOT entry is no function; a GOT entry has the flag of its sort; a second GOT entry is not in a
-- run of GOT words
pub record FlagsAgree (l : Layout) (s : Symbol) : Type 0 where
  pub interposable : dynamic_is_interposable s ≡ true
  pub stub : stub_has_slot s ≡ true
  pub alone : thread_slot_alone s ≡ true
  pub chosen : resolver_is_own s ≡ true
  pub sorts : slot_agrees s ≡ true
  pub moves : resolver_moves s ≡ true
  pub second : second_slot_fits l s ≡ true

-- this holds for the definition of each symbol, and for each symbol that has a resolution
pub record EachAgrees (l : Layout) : Type 0 where
  pub defined : (i : ℕ) (s : Symbol) → slice_get l.symbols (canonical l i) ≡ Some s → FlagsAgree l s
  pub resolved : (i : ℕ) (s : Symbol) → slice_get l.symbols i ≡ Some s → is_some s.resolution ≡ true → FlagsAgree l s

-- GOT words and PLT stubs are consecutive, flags agree, and the first file is the only one that writes what the image has once
pub record HasSlotsInOrder (l : Layout) : Type 0 where
  pub slots : SlotsFollow l
  pub flags : EachAgrees l
  pub resolved : HaveTheirFlags l
  pub files : first_misplaced_file true 0 l.groups ≡ None

-- ---- law

-- this holds in a layout whose clauses hold, and whose resolutions have their symbols' flags
abbrev pub SlotsAreInOrder : Type 0
SlotsAreInOrder = (l : Layout) → first_clause l ≡ Ok tt → HaveTheirFlags l → HasSlotsInOrder l
