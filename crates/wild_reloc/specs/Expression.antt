-- The expression of each kind of relocation, in parts (x86-64 psABI, "Relocation Types"; aaelf64, "Relocation
-- operations").
--   expression_of kind   the term to which A is added, what is subtracted from the sum, and the class
--   subtrahend_of kind mask   what is subtracted if a mask replaces terms by their pages
--   expressed e          the formula's value of an expression
use Rattle.std.specs.Prelude.{Bool, true, false, Option, Some, None}
use Rattle.wild_reloc.specs.declared.info.PageMask.{PageMask}
use Rattle.wild_reloc.specs.declared.info.PageMask.TheVariants as masks
use Rattle.wild_reloc.specs.declared.info.RelocationKind.{RelocationKind}
use Rattle.wild_reloc.specs.declared.info.RelocationKind.TheVariants as kinds
use Rattle.wild_reloc.specs.declared.expression.SlotSort.{SlotSort}
use Rattle.wild_reloc.specs.declared.expression.SlotSort.TheVariants as sorts
use Rattle.wild_reloc.specs.declared.expression.Term.{Term}
use Rattle.wild_reloc.specs.declared.expression.Term.TheVariants as term
use Rattle.wild_reloc.specs.declared.expression.Subtrahend.{Subtrahend}
use Rattle.wild_reloc.specs.declared.expression.Subtrahend.TheVariants as subtrahend
use Rattle.wild_reloc.specs.declared.expression.Class.{Class}
use Rattle.wild_reloc.specs.declared.expression.Class.TheVariants as class
use Rattle.wild_reloc.specs.declared.expression.Expression.{Expression}
use Rattle.wild_reloc.specs.Formula.{Slot, Value}
use Rattle.wild_reloc.specs.Formula as formula

abbrev pub expression : Term → Subtrahend → Class → Expression
expression t less c = record { term = t; subtrahend = less; class = c }

-- the kinds, each with its expression
abbrev pub expression_of : RelocationKind → Expression
expression_of kinds.None = expression term.Nothing subtrahend.Nothing class.Nothing
expression_of kinds.Absolute = expression term.Symbol subtrahend.Nothing class.Address
expression_of kinds.AbsoluteLowPart = expression term.Symbol subtrahend.Nothing class.Part
expression_of kinds.Relative = expression term.Symbol subtrahend.Place class.Distance
expression_of kinds.SymRelGotBase = expression term.Symbol subtrahend.GotBase class.Plain
expression_of kinds.PltRelative = expression term.Stub subtrahend.Place class.Plain
expression_of kinds.PltRelGotBase = expression term.Stub subtrahend.GotBase class.Plain
expression_of kinds.GotBaseRelative = expression term.GotBase subtrahend.Place class.Free
expression_of kinds.Got = expression (term.Slot sorts.Address) subtrahend.Nothing class.Part
expression_of kinds.GotRelative = expression (term.Slot sorts.Address) subtrahend.Place class.Plain
expression_of kinds.GotRelGotBase = expression (term.Slot sorts.Address) subtrahend.GotBase class.Plain
expression_of kinds.TlsGd = expression (term.Slot sorts.TlsGd) subtrahend.Place class.Plain
expression_of kinds.TlsGdGot = expression (term.Slot sorts.TlsGd) subtrahend.Nothing class.Part
expression_of kinds.TlsLd = expression (term.Slot sorts.TlsLd) subtrahend.Place class.Plain
expression_of kinds.DtpOff = expression term.ModuleOffset subtrahend.Nothing class.Plain
expression_of kinds.GotTpOff = expression (term.Slot sorts.TpOff) subtrahend.Place class.Plain
expression_of kinds.GotTpOffGot = expression (term.Slot sorts.TpOff) subtrahend.Nothing class.Part
expression_of kinds.TpOff = expression term.PointerOffset subtrahend.Nothing class.Pointer
expression_of kinds.TlsDesc = expression (term.Slot sorts.TlsDesc) subtrahend.Place class.Plain
expression_of kinds.TlsDescGot = expression (term.Slot sorts.TlsDesc) subtrahend.Nothing class.Part
expression_of kinds.TlsDescCall = expression term.Nothing subtrahend.Nothing class.Mark
expression_of kinds.SymbolSize = expression term.Size subtrahend.Nothing class.Extent

-- what is subtracted if a mask replaces terms by their pages (aaelf64, "Relocation operations": Page)
abbrev pub paged : Option PageMask → Subtrahend → Subtrahend
paged None less = less
paged (Some masks.GotBase) less = subtrahend.PageOfGot
paged (Some both) less = subtrahend.PageOfPlace

abbrev pub subtrahend_of : RelocationKind → Option PageMask → Subtrahend
subtrahend_of kind mask = paged mask (expression_of kind).subtrahend

-- the class has a value: an address, a distance, an offset or a size
abbrev pub has_value : Class → Bool
has_value class.Nothing = false
has_value class.Mark = false
has_value other = true

-- the field has the whole value, not only the offset of an address in its page
abbrev pub writes : Class → Bool
writes class.Nothing = false
writes class.Mark = false
writes class.Part = false
writes other = true

-- ---- as values of formulas

abbrev pub slot_sort : SlotSort → Slot
slot_sort sorts.Address = formula.AddressSlot
slot_sort sorts.TlsGd = formula.ModulePair
slot_sort sorts.TlsLd = formula.OwnModulePair
slot_sort sorts.TpOff = formula.ThreadOffset
slot_sort sorts.TlsDesc = formula.Descriptor

-- the formula's value of a term and what is subtracted
abbrev pub expressed : Term → Subtrahend → Value
expressed term.Symbol subtrahend.Nothing = formula.SymbolAddress
expressed term.Symbol subtrahend.Place = formula.Distance
expressed term.Symbol subtrahend.GotBase = formula.FromTable
expressed term.Symbol subtrahend.PageOfPlace = formula.PageDistance
expressed term.Stub subtrahend.Place = formula.StubDistance
expressed term.Stub subtrahend.GotBase = formula.StubFromTable
expressed (term.Slot sort) subtrahend.Nothing = formula.SlotAddress (slot_sort sort)
expressed (term.Slot sort) subtrahend.Place = formula.SlotDistance (slot_sort sort)
expressed (term.Slot sort) subtrahend.GotBase = formula.SlotFromTable
expressed (term.Slot sort) subtrahend.PageOfPlace = formula.SlotPageDistance (slot_sort sort)
expressed (term.Slot sort) subtrahend.PageOfGot = formula.SlotFromTablePage
expressed term.GotBase less = formula.TableDistance
expressed term.Size less = formula.Size
expressed term.PointerOffset less = formula.PointerOffset
expressed term.ModuleOffset less = formula.ModuleOffset
expressed other less = formula.NoValue
