-- Values of symbols and terms of relocations in an outline.
use Rattle.wild_outlines.proofs.Common.{◌≡◌, ℕ, ℤ, if◌then◌else◌, List, Option, Some, None, option_map, option_and_then, slice_get, refl, ap, ◌∙◌, slice_get-map, RelocationKindInfo, InputRelocation, Machine, Layout, Slot, InputSection, Place, Symbol, File, files_of, file_of, outline_section, outline_file, outline}
use Rattle.wild_reloc.specs.declared.expression.SlotSort.{SlotSort}
use Rattle.wild_reloc.specs.declared.expression.Subtrahend.{Subtrahend}
use Rattle.wild_reloc.specs.declared.expression.Term.{Term}
use Rattle.wild_reloc.specs.declared.expression.SlotSort.TheVariants as sorts
use Rattle.wild_reloc.specs.declared.expression.Subtrahend.TheVariants as subtrahend
use Rattle.wild_reloc.specs.declared.expression.Term.TheVariants as term
use Rattle.wild_types.specs.declared.input.MergedString.{MergedString}
use Rattle.wild_types.specs.declared.kind.Machine.TheVariants as machine
use Rattle.wild_types.specs.declared.input.Slot.TheVariants as slot
use Rattle.wild_types.specs.declared.symbol.Place.TheVariants as at
use Rattle.wild_slot.specs.Treatment.{flags_at}
use Rattle.wild_layout.specs.Merged.{address_by, address_for, address_named, merged_strings, strings_by, strings_of, strings_at, strings_in, strings_of_symbol, is_plain_own}
use Rattle.wild_layout.specs.SlotValues.{address_of, slot_address, slot_of, stub_address}
use Rattle.wild_layout.specs.SymbolValues.{is_undefined, raw_address, storage_start}
use Rattle.wild_layout.specs.Values.{is_undefined_weak_without_stub, pointer_offset, size_of, subtract, term_by, term_value, weak_resolves_to_place}
use Rattle.wild_outlines.proofs.ClausesGroups.{file_of-layout}
use Rattle.wild_outlines.proofs.ValuesFiles.{raw_value-outline}

pub raw_address-outline : (l : Layout) (o : Option ℕ) → raw_address (outline l) o ≡ raw_address l o
raw_address-outline l None = refl
raw_address-outline l (Some i) = simp (raw_value-outline l)

address_of-outline : (l : Layout) (o : Option ℕ) → address_of (outline l) o ≡ address_of l o
address_of-outline l None = refl
address_of-outline l (Some i) = simp (raw_value-outline l)

address_by-outline : (l : Layout) (r : InputRelocation) (i : ℕ) (x : Option (List MergedString)) → address_by (outline l) r i x ≡ address_by l r i x
address_by-outline l r i None = simp (raw_value-outline l)
address_by-outline l r i (Some strings) = refl

strings_by-outline : (k : Slot) (s : InputSection) → strings_by k (outline_section s) ≡ strings_by k s
strings_by-outline slot.Merge s = refl
strings_by-outline other s = refl

strings_of-outline : (o : Option InputSection) → option_and_then strings_of (option_map outline_section o) ≡ option_and_then strings_of o
strings_of-outline None = refl
strings_of-outline (Some s) = strings_by-outline s.slot s

strings_at-outline : (p : Place) (f : File) → strings_at p (outline_file f) ≡ strings_at p f
strings_at-outline (at.Section k) f = ap (option_and_then strings_of) (slice_get-map outline_section f.sections k) ∙ strings_of-outline (slice_get f.sections k)
strings_at-outline other f = refl

strings_in-outline : (s : Symbol) (o : Option File) → option_and_then (λ f. strings_in f s) (option_map outline_file o) ≡ option_and_then (λ f. strings_in f s) o
strings_in-outline s None = refl
strings_in-outline s (Some f) = simp (strings_at-outline s.place f)

strings_of_symbol-outline : (l : Layout) (i : ℕ) (o : Option Symbol) → option_and_then (strings_of_symbol (files_of (outline l).groups) i) o ≡ option_and_then (strings_of_symbol (files_of l.groups) i) o
strings_of_symbol-outline l i None = refl
strings_of_symbol-outline l i (Some s) =
    ap (option_and_then (λ f. strings_in f s)) (file_of-layout l.groups i) ∙ strings_in-outline s (file_of (files_of l.groups) i)

pub merged_strings-outline : (l : Layout) (i : ℕ) → merged_strings (outline l) i ≡ merged_strings l i
unfolding merged_strings
merged_strings-outline l i = ap (λ strings. if is_plain_own (flags_at l i) then strings else None) (strings_of_symbol-outline l i (slice_get l.symbols i))

address_named-outline : (l : Layout) (r : InputRelocation) (o : Option ℕ) → address_named (outline l) r o ≡ address_named l r o
address_named-outline l r None = refl
address_named-outline l r (Some i) = simp (address_by-outline l, merged_strings-outline l)

pub address_for-outline : (l : Layout) (r : InputRelocation) → address_for (outline l) r ≡ address_for l r
unfolding address_for
address_for-outline l r = simp (address_named-outline l)

pub is_undefined-outline : (l : Layout) (i : ℕ) → is_undefined (outline l) i ≡ is_undefined l i
is_undefined-outline l i = refl

pointer_offset-outline : (l : Layout) (o : Option ℕ) → pointer_offset (outline l) o ≡ pointer_offset l o
pointer_offset-outline l None = refl
pointer_offset-outline l (Some i) = simp (is_undefined-outline l, raw_value-outline l)

pub subtract-outline : (l : Layout) (t : Subtrahend) (s : ℕ) (a : ℤ) (p : ℕ) → subtract (outline l) t s a p ≡ subtract l t s a p
subtract-outline l subtrahend.Nothing s a p = refl
subtract-outline l other s a p = refl

is_undefined_weak_without_stub-outline : (l : Layout) (o : Option ℕ) → is_undefined_weak_without_stub (outline l) o ≡ is_undefined_weak_without_stub l o
is_undefined_weak_without_stub-outline l None = refl
is_undefined_weak_without_stub-outline l (Some i) = refl

pub weak_resolves_to_place-outline : (l : Layout) (m : Machine) (r : InputRelocation) (row : RelocationKindInfo) → weak_resolves_to_place m (outline l) r row ≡ weak_resolves_to_place m l r row
weak_resolves_to_place-outline l machine.X86_64 r row = refl
weak_resolves_to_place-outline l machine.AArch64 r row = simp (is_undefined_weak_without_stub-outline l)

slot_of-outline : (l : Layout) (sort : SlotSort) (i : ℕ) → slot_of (outline l) sort i ≡ slot_of l sort i
slot_of-outline l sorts.TlsLd i = refl
slot_of-outline l sort i = refl

slot_address-outline : (l : Layout) (sort : SlotSort) (o : Option ℕ) → slot_address (outline l) sort o ≡ slot_address l sort o
slot_address-outline l sort None = refl
slot_address-outline l sort (Some i) = simp (slot_of-outline l)

stub_address-outline : (l : Layout) (o : Option ℕ) → stub_address (outline l) o ≡ stub_address l o
stub_address-outline l None = refl
stub_address-outline l (Some i) = refl

storage_start-outline : (l : Layout) → storage_start (outline l) ≡ storage_start l
storage_start-outline l = refl

size_of-outline : (l : Layout) (o : Option ℕ) → size_of (outline l) o ≡ size_of l o
size_of-outline l None = refl
size_of-outline l (Some i) = refl

term_value-outline : (l : Layout) (symbol : Option ℕ) (t : Term) → term_value (outline l) symbol t ≡ term_value l symbol t
term_value-outline l symbol term.GotBase = refl
term_value-outline l symbol term.Size = simp (size_of-outline l)
term_value-outline l symbol term.PointerOffset = simp (pointer_offset-outline l)
term_value-outline l symbol term.ModuleOffset = simp (storage_start-outline l, raw_address-outline l)
term_value-outline l symbol term.Stub = simp (stub_address-outline l)
term_value-outline l symbol (term.Slot sort) = simp (slot_address-outline l)
term_value-outline l symbol other = simp (address_of-outline l)

pub term_by-outline : (l : Layout) (r : InputRelocation) (t : Term) → term_by (outline l) r t ≡ term_by l r t
term_by-outline l r term.Symbol = simp (address_for-outline l)
term_by-outline l r other = simp (term_value-outline l)
