-- Decisions on relocations of debug sections in an outline.
use Rattle.wild_outlines.proofs.Common.{◌≡◌, ℕ, Option, Some, None, refl, RelocationKindInfo, InputRelocation, InputSection, Layout, outline}
use Rattle.wild_reloc.specs.declared.info.RelocationKind.{RelocationKind}
use Rattle.wild_reloc.specs.declared.info.RelocationKind.TheVariants as kinds
use Rattle.wild_layout.specs.Debug.{by_address, debug_by, debug_bytes, debug_decided, debug_decided_at, debug_with, field_by_symbol, field_of_address}
use Rattle.wild_outlines.proofs.ValuesFiles.{raw_value-outline}
use Rattle.wild_outlines.proofs.ValuesSymbols.{address_for-outline, is_undefined-outline, merged_strings-outline}

field_of_address-outline : (l : Layout) (r : InputRelocation) (i : ℕ) (row : RelocationKindInfo) (k : RelocationKind) → field_of_address (outline l) r i row k ≡ field_of_address l r i row k
field_of_address-outline l r i row kinds.Absolute = simp (address_for-outline l)
field_of_address-outline l r i row kinds.DtpOff = simp (raw_value-outline l)
field_of_address-outline l r i row kinds.TpOff = simp (is_undefined-outline l, raw_value-outline l)
field_of_address-outline l r i row other = refl

by_address-outline : (l : Layout) (s : InputSection) (r : InputRelocation) (i : ℕ) (row : RelocationKindInfo) (o : Option ℕ) → by_address (outline l) s r i row o ≡ by_address l s r i row o
by_address-outline l s r i row None = simp (merged_strings-outline l, address_for-outline l)
by_address-outline l s r i row (Some v) = simp (field_of_address-outline l)

field_by_symbol-outline : (l : Layout) (s : InputSection) (r : InputRelocation) (row : RelocationKindInfo) (o : Option ℕ) → field_by_symbol (outline l) s r row o ≡ field_by_symbol l s r row o
field_by_symbol-outline l s r row None = refl
field_by_symbol-outline l s r row (Some i) = simp (by_address-outline l, raw_value-outline l)

debug_by-outline : (l : Layout) (s : InputSection) (r : InputRelocation) (row : RelocationKindInfo) (k : RelocationKind) → debug_by (outline l) s r row k ≡ debug_by l s r row k
debug_by-outline l s r row kinds.None = refl
debug_by-outline l s r row other = simp (field_by_symbol-outline l)

debug_with-outline : (l : Layout) (s : InputSection) (r : InputRelocation) (o : Option RelocationKindInfo) → debug_with (outline l) s r o ≡ debug_with l s r o
debug_with-outline l s r None = refl
debug_with-outline l s r (Some row) = simp (debug_by-outline l)

debug_decided-outline : (l : Layout) (s : InputSection) (r : InputRelocation) → debug_decided (outline l) s r ≡ debug_decided l s r
unfolding debug_decided
debug_decided-outline l s r = simp (debug_with-outline l)

pub debug_decided_at-outline : (l : Layout) (s : InputSection) (o : Option InputRelocation) → debug_decided_at (outline l) s o ≡ debug_decided_at l s o
debug_decided_at-outline l s None = refl
debug_decided_at-outline l s (Some r) = simp (debug_decided-outline l)

pub debug_bytes-outline : (l : Layout) (s : InputSection) → debug_bytes (outline l) s ≡ debug_bytes l s
unfolding debug_bytes
debug_bytes-outline l s = simp (debug_decided-outline l)
