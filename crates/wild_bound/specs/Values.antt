-- The value of a symbol that another module may define, in images that are bound to each other.
--   HasAddress xs order rs d a      a is the loaded address of definition d
--   HasBoundValue xs order rs n k a   a is the address of the definition that symbol k of the image at place n is bound to
--   BoundValuesAreDefinitions       the value of each replaceable symbol is that of its definition
use Rattle.std.specs.Prelude.{◌≡◌, ℕ, ◌≤◌, ◌⊎◌, true, List, length, Some, None, Ok}
use Rattle.wild_records.specs.declared.symtab_entry.SymtabEntry.{SymtabEntry}
use Rattle.wild_types.specs.declared.layout.Layout.{Layout}
use Rattle.wild_types.specs.declared.symbol.Resolution.{Resolution}
use Rattle.wild_types.specs.declared.symbol.Symbol.{Symbol}
use Rattle.wild_meaning.specs.Value.{IsSymbol, IsDefinedBy, IsReplaceable, HasValue}
use Rattle.wild_space.specs.declared.binds.Definition.{Definition}
use Rattle.wild_space.specs.declared.image.NamedImage.{NamedImage}
use Rattle.wild_space.specs.declared.space.Bound.{Bound}
use Rattle.wild_space.specs.BindLaws.{IsBound}
use Rattle.wild_space.specs.Binds.{place_of, base_of, symbol_of, thread_start_of, bind, address_of}
use Rattle.wild_space.specs.Bound.{bound}
use Rattle.wild_bound.specs.Premises.{HasLayout}

-- a is the loaded address of a definition, by its entry and the base of its image
pub record HasAddress (xs : List NamedImage) (order : List ℕ) (rs : List (ℕ × ℕ)) (d : Definition) (a : ℕ) : Type 0 where
  pub entry : SymtabEntry
  pub there : symbol_of xs (place_of order d.image) d.index ≡ Ok entry
  pub start : ℕ
  pub starts : thread_start_of xs (place_of order d.image) ≡ Ok start
  pub is : address_of rs (base_of xs (place_of order d.image)) start entry ≡ Ok a

-- a is the address of the definition that a symbol is bound to
pub record HasDefinition (xs : List NamedImage) (order : List ℕ) (rs : List (ℕ × ℕ)) (n k a : ℕ) : Type 0 where
  pub definition : Definition
  pub is : IsBound xs order n k definition
  pub address : HasAddress xs order rs definition a

-- or 0 for a weak symbol without a definition
abbrev pub HasBoundValue : List NamedImage → List ℕ → List (ℕ × ℕ) → (n k a : ℕ) → Type 0
HasBoundValue xs order rs n k a = ((bind xs order n k ≡ Ok None) × (a ≡ 0)) ⊎ HasDefinition xs order rs n k a

-- symbol i has index k in the dynamic symbol table, by its definition
pub record HasIndex (l : Layout) (i k : ℕ) : Type 0 where
  pub definition : ℕ
  pub defined : IsDefinedBy l i definition
  pub symbol : Symbol
  pub listed : IsSymbol l definition symbol
  pub resolution : Resolution
  pub decided : symbol.resolution ≡ Some resolution
  pub index : resolution.dynamic_symbol_index ≡ Some k

-- symbol i has an index, and a is the value that the dynamic linker gives the symbol there
pub record HasLinkedValue (xs : List NamedImage) (order : List ℕ) (rs : List (ℕ × ℕ)) (n : ℕ) (l : Layout) (i a : ℕ) : Type 0 where
  pub index : ℕ
  pub has_index : HasIndex l i index
  pub value : HasBoundValue xs order rs n index a

-- The value of a symbol that another module may define is the address of the first definition of its name in the order, or of the symbol
-- itself if no other may replace it.
abbrev pub BoundValuesAreDefinitions : Type 0
BoundValuesAreDefinitions = (xs : List NamedImage) (rs : List (ℕ × ℕ)) (b : Bound) (n i a : ℕ) (l : Layout) → 1 ≤ length xs → bound xs rs ≡ Ok b → (h : HasLayout xs rs b n l) → IsReplaceable l i true → HasValue l h.world i a → HasLinkedValue xs b.order rs n l i a
