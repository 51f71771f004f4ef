-- The further relocations of a sequence, and when instructions form one.
--   NamesGetter ..    the relocation's symbol is the function that returns thread-local addresses
--   HasCallAddend ..  its addend is that of a call
--   HasPartner ..     a relocation fills a further field of a sequence
--   HasPartners ..    the relocations from an index on fill all of them
--   IsMet, AreMet ..  a condition is met; all conditions are met
use Rattle.std.specs.Prelude.{◌≡◌, ℕ, ◌+◌, ◌%◌, ◌^◌, ◌==◌, if◌then◌else◌, ⊤, true, false, List, [], ◌∷◌, slice_get, Some, Contains}
use Rattle.std.specs.Int.{w64, cast_unsigned}
use Rattle.wild_types.specs.declared.input.InputRelocation.{InputRelocation}
use Rattle.wild_types.specs.declared.symbol.Symbol.{Symbol}
use Rattle.wild_types.specs.declared.layout.Layout.{Layout}
use Rattle.wild_types.specs.Flags.{ifunc, non_interposable}
use Rattle.wild_meaning.specs.Sequence.{Named, Getter, SameSymbol, Partner, Condition, InExecutable, WithoutResolver, RewrittenIfReplaceable, UnlessAbsent}
use Rattle.wild_meaning.specs.World.{IsExecutable}
use Rattle.wild_meaning.specs.Value.{IsSymbol, HasFlag}
use Rattle.wild_types.specs.Item.{Item}
use Rattle.wild_meaning.specs.ReferentAArch64.{IsUndefinedWeak}

-- `__tls_get_addr` ("ELF Handling For Thread-Local Storage", "Run-Time Handling of TLS")
abbrev pub tls_get_addr : List ℕ
tls_get_addr = 95 ∷ 95 ∷ 116 ∷ 108 ∷ 115 ∷ 95 ∷ 103 ∷ 101 ∷ 116 ∷ 95 ∷ 97 ∷ 100 ∷ 100 ∷ 114 ∷ []

-- the relocation's symbol is the function that returns thread-local addresses
pub record NamesGetter (l : Layout) (r : InputRelocation) : Type 0 where
  pub index : ℕ
  pub named : r.symbol ≡ Some index
  pub symbol : Symbol
  pub listed : IsSymbol l index symbol
  pub getter : symbol.name ≡ tls_get_addr

-- The addend of a call, whose field has that many bytes, only compensates for the origin of its distance. A distance of 4 bytes is
-- relative to the field's end (Intel SDM, "RIP-Relative Addressing"), one of 8 bytes to the global offset table (x86-64 psABI,
-- "Relocation Types": R_X86_64_PLTOFF64).
abbrev pub HasCallAddend : ℕ → InputRelocation → Type 0
HasCallAddend width r = (cast_unsigned w64 r.addend + (if width == 8 then 0 else 4)) % 2 ^ 64 ≡ 0

-- it has the symbol, and the addend, that the relocation of a further field with that many bytes must have
abbrev pub NamesRequiredSymbol : Layout → InputRelocation → InputRelocation → ℕ → Named → Type 0
NamesRequiredSymbol l first r width Getter = NamesGetter l r × HasCallAddend width r
NamesRequiredSymbol l first r width SameSymbol = (r.symbol ≡ first.symbol) × (r.addend ≡ first.addend)

-- the relocation at an index fills a further field of a sequence
pub record HasPartner (l : Layout) (item : Item) (first r : InputRelocation) (start index : ℕ) (p : Partner) : Type 0 where
  pub listed : slice_get item.relocations index ≡ Some r
  pub field : r.offset ≡ start + p.field
  pub number : Contains p.numbers r.number
  pub names : NamesRequiredSymbol l first r p.width p.names

-- the relocations from an index on fill the further fields, in their order
abbrev pub HasPartners : Layout → Item → InputRelocation → ℕ → ℕ → List Partner → List InputRelocation → Type 0
HasPartners l item first start index [] [] = ⊤
HasPartners l item first start index [] (r ∷ rs) = ⊥
HasPartners l item first start index (p ∷ ps) [] = ⊥
HasPartners l item first start index (p ∷ ps) (r ∷ rs) = HasPartner l item first r start index p × HasPartners l item first start (index + 1) ps rs

-- for a sequence whose symbol is i
abbrev pub IsMet : Layout → ℕ → Condition → Type 0
IsMet l i InExecutable = IsExecutable l.kind
IsMet l i WithoutResolver = HasFlag l i ifunc false
IsMet l i RewrittenIfReplaceable = HasFlag l i non_interposable false → l.options.relax ≡ true
IsMet l i UnlessAbsent = IsUndefinedWeak l i → ⊥

abbrev pub AreMet : Layout → ℕ → List Condition → Type 0
AreMet l i [] = ⊤
AreMet l i (c ∷ cs) = IsMet l i c × AreMet l i cs
