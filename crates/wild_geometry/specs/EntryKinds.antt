-- The effect of each kind of dynamic entry in a loader.
--   address_kind p    how a processor's loader stores a symbol's address in a slot
--   loaded_kind p k   the loader's kind for the entries of a kind
use Rattle.wild_reloc.specs.declared.dynamic.DynamicRelocationKind.{DynamicRelocationKind}
use Rattle.wild_reloc.specs.declared.dynamic.DynamicRelocationKind.TheVariants as entry_kinds
use Rattle.wild_loader.specs.declared.memory.Machine.{Machine}
use Rattle.wild_loader.specs.declared.memory.Machine.TheVariants as processors
use Rattle.wild_loader.specs.declared.kind.DynamicKind.{DynamicKind}
use Rattle.wild_loader.specs.declared.kind.DynamicKind.TheVariants as kinds

-- an AArch64 slot has an addend, which is 0 (x86-64 psABI, "Relocation Types"; aaelf64, "Dynamic relocations")
abbrev pub address_kind : Machine → DynamicKind
address_kind processors.X86_64 = kinds.Symbol
address_kind processors.AArch64 = kinds.SymbolPlus

-- the loader's kind for each kind of entry (the same sections)
abbrev pub loaded_kind : Machine → DynamicRelocationKind → DynamicKind
loaded_kind p entry_kinds.Absolute = kinds.SymbolPlus
loaded_kind p entry_kinds.Copy = kinds.Copy
loaded_kind p entry_kinds.GotEntry = address_kind p
loaded_kind p entry_kinds.JumpSlot = address_kind p
loaded_kind p entry_kinds.Relative = kinds.Relative
loaded_kind p entry_kinds.DtpMod = kinds.Module
loaded_kind p entry_kinds.DtpOff = kinds.ModuleOffset
loaded_kind p entry_kinds.TpOff = kinds.ThreadOffset
loaded_kind p entry_kinds.TlsDesc = kinds.Descriptor
loaded_kind p entry_kinds.Irelative = kinds.Resolved
