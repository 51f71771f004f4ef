-- The conditions under which a relocation's value is written.
--   SymbolsFit l    the data of the symbols are consistent
--   MovesByPages m l w   further conditions for the values of an AArch64 output
--   IsPlaced l w m  a layout, a legal world and a memory in which the output's values are right
--   is_expressed .. the machine has relocation types with such an expression
--   value_by_row    the formula's value for a row
--   IsDirect ..     an expression uses no slot and no stub
--   HasTerm ..      a relocation writes x at its place, computed from the writer's expression of a row
--   IsFollowed ..   the value is right whichever module defines the symbol
use Rattle.std.specs.Prelude.{◌≡◌, ℕ, ◌+◌, ◌%◌, ◌^◌, ◌<◌, ◌≤◌, ◌⊎◌, ⊤, Bool, true, false, not, Option, Some, None, Ok, All}
use Rattle.wild_types.specs.declared.kind.Machine.{Machine}
use Rattle.wild_types.specs.declared.kind.Machine.TheVariants as machine
use Rattle.wild_types.specs.declared.input.InputRelocation.{InputRelocation}
use Rattle.wild_types.specs.declared.layout.Layout.{Layout}
use Rattle.wild_types.specs.declared.symbol.Symbol.{Symbol}
use Rattle.wild_plan_rules.specs.SlotPlaces.{slot_is_even}
use Rattle.wild_slot.specs.declared.treatment.Treatment.TheVariants as treatments
use Rattle.wild_types.specs.HeaderOnly.{KeepsAll}
use Rattle.wild_types.specs.Kinds.{is_position_independent}
use Rattle.wild_types.specs.Lookups.{place_of, allocated}
use Rattle.wild_types.specs.ResolvedFlags.{HaveTheirFlags}
use Rattle.wild_slot.specs.Treatment.{kind_treatment, row_accepts}
use Rattle.wild_reloc.specs.Agreement.{value_of}
use Rattle.wild_reloc.specs.Expression.{expression_of}
use Rattle.wild_reloc.specs.Formula.{Value}
use Rattle.wild_reloc.specs.declared.expression.Term.{Term}
use Rattle.wild_reloc.specs.declared.expression.Term.TheVariants as term
use Rattle.wild_reloc.specs.declared.expression.Subtrahend.{Subtrahend}
use Rattle.wild_reloc.specs.declared.expression.Subtrahend.TheVariants as subtrahend
use Rattle.wild_reloc.specs.declared.info.PageMask.{PageMask}
use Rattle.wild_reloc.specs.declared.info.PageMask.TheVariants as masks
use Rattle.wild_reloc.specs.declared.info.RelocationKindInfo.{RelocationKindInfo}
use Rattle.wild_layout.specs.Merged.{names_merged}
use Rattle.wild_layout.specs.Values.{weak_resolves_to_place, term_at, value_in}
use Rattle.wild_layout.specs.Geometry.{DefinitionNames, DefinitionsAreFinal, NamesSymbol}
use Rattle.wild_layout.specs.SlotOrder.{EachAgrees}
use Rattle.wild_layout.specs.ExportedSymbols.{AreExported}
use Rattle.wild_layout.specs.Numbers.{SymbolNumbers}
use Rattle.wild_geometry.specs.Slots.{HasSlots}
use Rattle.wild_loader.specs.declared.memory.Memory.{Memory}
use Rattle.wild_loader.specs.declared.world.World.{World}
use Rattle.wild_meaning.specs.Thread.{rounded_up, control_block_size}
use Rattle.wild_meaning.specs.World.{IsMovable, IsLoadable, IsLegal}
use Rattle.wild_meaning.specs.Value.{IsAbsolute, IsReplaceable}
use Rattle.wild_types.specs.Item.{Item}
use Rattle.wild_meaning.specs.Item.{place_at}
use Rattle.wild_meaning.specs.Formula.{IsPlaceRelative, TakesAddress, TakesOffset}
use Rattle.wild_meaning.specs.Reference.{HasStubAddress}
use Rattle.wild_meaning.specs.LinkedImage.{processor_of}
use Rattle.std.specs.Int.{w64, cast_unsigned}

-- The data of symbols are consistent:
-- - each symbol's definition is a symbol of the layout that defines itself;
-- - resolutions have their symbols' flags, which agree with slots and stubs;
-- - indexes are positions in the dynamic symbol table, and resolved addresses are in range.
pub record SymbolsFit (l : Layout) : Type 0 where
  pub named : All (DefinitionNames l) l.symbols
  pub final : DefinitionsAreFinal l
  pub own : HaveTheirFlags l
  pub flags : EachAgrees l
  pub dynsyms : AreExported l
  pub numbers : All SymbolNumbers l.symbols

-- For an AArch64 output:
-- - its bases are multiples of 4096, so the bits of an address below its page do not change (aaelf64, "Relocation operations":
-- Page);
-- - its slots are at multiples of 8, so each stub can read its slot;
-- - the thread control block, rounded up to the alignment of the thread-local data, has a size in range;
-- - there is no pair for these data, because no AArch64 type refers to one.
pub record HasPageBases (l : Layout) (w : World) : Type 0 where
  pub pages : w.base % 4096 ≡ 0
  pub even : All (λ (s : Symbol). slot_is_even s ≡ true) l.symbols
  pub block : rounded_up control_block_size l.tls.align < 2 ^ 64
  pub single : l.tlsld ≡ None

abbrev pub MovesByPages : Machine → Layout → World → Type 0
MovesByPages machine.X86_64 l w = ⊤
MovesByPages machine.AArch64 l w = HasPageBases l w

-- An output in a legal world: a fixed output is at base 0, an executable is the first module, and its numbers are in range.
-- Memory has the slots and stubs of its symbols, if all tables are written.
pub record IsPlaced (l : Layout) (w : World) (m : Memory) : Type 0 where
  pub paged : MovesByPages l.machine l w
  pub loadable : IsLoadable l.kind
  pub still : is_position_independent l.kind ≡ false → w.base ≡ 0
  pub movable : is_position_independent l.kind ≡ true → IsMovable l.kind
  pub legal : IsLegal l w
  pub got : l.got_base < 2 ^ 64
  pub tls_start : l.tls.start < 2 ^ 64
  pub tls_end : l.tls.end < 2 ^ 64
  pub symbols : SymbolsFit l
  pub loaded : m.machine ≡ processor_of l.machine
  pub slots : KeepsAll l → HasSlots l w m

-- ---- expressions

-- The page mask of a term, in an expression that subtracts `taken` from it: for S + A, for G, or for GOT (aaelf64, "Relocation
-- operations": Page).
abbrev pub page_mask : Term → Subtrahend → Option PageMask
page_mask term.Symbol subtrahend.Place = Some masks.SymbolPlusAddendAndPosition
page_mask (term.Slot sort) subtrahend.Place = Some masks.GotEntryAndPosition
page_mask (term.Slot sort) subtrahend.GotBase = Some masks.GotBase
page_mask t less = None

abbrev pub is_mask : Option PageMask → PageMask → Bool
is_mask (Some masks.SymbolPlusAddendAndPosition) masks.SymbolPlusAddendAndPosition = true
is_mask (Some masks.GotEntryAndPosition) masks.GotEntryAndPosition = true
is_mask (Some masks.GotBase) masks.GotBase = true
is_mask o mask = false

abbrev pub is_table : Subtrahend → Bool
is_table subtrahend.GotBase = true
is_table less = false

-- The machine has relocation types with that expression. On x86-64 no term is reduced to its page; on AArch64 no expression
-- subtracts GOT itself (x86-64 psABI, "Relocation Types"; aaelf64, "Relocation operations").
abbrev pub is_expressed : Machine → Term → Subtrahend → Option PageMask → Bool
is_expressed machine.X86_64 t less None = true
is_expressed machine.X86_64 t less (Some mask) = false
is_expressed machine.AArch64 t less None = not (is_table less)
is_expressed machine.AArch64 t less (Some mask) = is_mask (page_mask t less) mask

-- the formula's value for a row
abbrev pub value_by_row : RelocationKindInfo → Value
value_by_row info = value_of info.kind info.mask info.size

-- the expression of a row uses no slot and no stub; on AArch64 an undefined weak symbol is represented by the place itself
abbrev pub IsDirect : Layout → InputRelocation → RelocationKindInfo → Term → Type 0
IsDirect l r info term.Symbol = TakesAddress (value_by_row info) → (i : ℕ) → r.symbol ≡ Some i → HasStubAddress l i → ⊥
IsDirect l r info term.Stub = weak_resolves_to_place l.machine l r info ≡ true
IsDirect l r info (term.Slot sort) = ⊥
IsDirect l r info other = ⊤

-- A relocation of an allocated section whose field has the value x of a row's expression, at a place that does not wrap. The
-- layout treats it as a value, it is checked at this base, and an addend into a merged string is in range. If slots and stubs are
-- not written, it uses none.
pub record HasTerm (l : Layout) (w : World) (m : Memory) (s : Item) (r : InputRelocation) (info : RelocationKindInfo) (x : ℕ) : Type 0 where
  pub placed : IsPlaced l w m
  pub present : KeepsAll l ⊎ IsDirect l r info (expression_of info.kind).term
  pub room : allocated s.flags ≡ true
  pub listed : NamesSymbol l r
  pub number : ℕ
  pub row : RelocationKindInfo
  pub treated : kind_treatment l s.flags number r.symbol row info.kind ≡ treatments.Value row
  pub row_that_accepts : row_accepts l.machine r info ≡ true
  pub expressed : is_expressed l.machine (expression_of info.kind).term (expression_of info.kind).subtrahend info.mask ≡ true
  pub term : ℕ
  pub given : term_at l r info (place_of s.address r) ≡ Ok term
  pub value : value_in l info term r.addend (place_of s.address r) ≡ x
  pub place : place_at w s r.offset ≡ w.base + place_of s.address r
  pub ends : w.base + place_of s.address r ≤ 2 ^ 64
  pub addend : names_merged l r.symbol ≡ true → cast_unsigned w64 r.addend < 2 ^ 64
  pub asked : IsPlaceRelative (value_by_row info) → IsMovable l.kind → (i : ℕ) → r.symbol ≡ Some i → IsAbsolute l i → w.base ≡ 0

-- The expression does not depend on which module defines the symbol: the symbol is the output's own, the expression uses a slot
-- or a stub, or the output uses the symbol's stub as its address.
abbrev pub IsFollowed : Layout → InputRelocation → Value → Type 0
IsFollowed l r v = (i : ℕ) → r.symbol ≡ Some i → IsReplaceable l i false ⊎ (((TakesOffset v → ⊥) × (TakesAddress v → ⊥)) ⊎ ((TakesOffset v → ⊥) × HasStubAddress l i))
