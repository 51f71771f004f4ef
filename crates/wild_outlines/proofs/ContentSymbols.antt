-- Entries of `.symtab` in an outline.
use Rattle.wild_outlines.proofs.Common.{◌≡◌, ℕ, Bool, true, false, Option, Some, None, option_map, option_and_then, slice_get, refl, ap, ◌∙◌, slice_get-map, fun_ext, File, FileRole, Group, InputSection, Layout, Place, Symbol, files_of, file_of, file_items, outline_section, outline_file, outline}
use Rattle.std.proofs.Common.{flat_map}
use Rattle.wild_types.specs.declared.symbol.Place.TheVariants as at
use Rattle.wild_needs.specs.TableSymbols.{TableSymbol}
use Rattle.wild_needs.specs.declared.table.SymtabName.{SymtabName}
use Rattle.wild_needs.specs.declared.table.SymtabName.TheVariants as named
use Rattle.wild_table_formats.specs.SectionSymbols.{all_items, entry_by, named_index, section_index, symbol_section, section_at, section_number, number_of_section, symbol_index, entry_index}
use Rattle.wild_table_formats.specs.TableEntries.{at_address, fields_of, file_table, group_table, named_entry, offset_by, table_at, table_entries, table_fields}
use Rattle.wild_table_formats.specs.declared.symbols.SymbolAttributes.{SymbolAttributes}
use Rattle.wild_outlines.proofs.ClausesGroups.{files_of-outline, file_of-layout, flat_map-mapped}
use Rattle.wild_outlines.proofs.SharesTables.{file_items-outline, section_symbols-outline, singleton_sections-outline}
use Rattle.wild_outlines.proofs.ClausesSlots.{slots_of-outline}
use Rattle.wild_outlines.proofs.ContentNeeds.{file_items-same_file}
use Rattle.wild_outlines.proofs.ValuesFiles.{output_section-same_file, raw_value-outline}

at_address-outline : (l : Layout) (i : ℕ) (s : Symbol) (section o : Option ℕ) (a : SymbolAttributes) → at_address (outline l) i s section o a ≡ at_address l i s section o a
at_address-outline l i s section None a = refl
at_address-outline l i s section (Some v) a = refl

section_at-outline : (p : Place) (o : Option File) → option_and_then (section_at p) (option_map outline_file o) ≡ option_map outline_section (option_and_then (section_at p) o)
section_at-outline p None = refl
section_at-outline (at.Section k) (Some f) = slice_get-map outline_section f.sections k
section_at-outline other (Some f) = refl

symbol_section_by : (l : Layout) (i : ℕ) (o : Option Symbol)
    → option_and_then (λ (s : Symbol). option_and_then (section_at s.place) (file_of (files_of (outline l).groups) i)) o ≡ option_map outline_section (option_and_then (λ (s : Symbol). option_and_then (section_at s.place) (file_of (files_of l.groups) i)) o)
symbol_section_by l i None = refl
symbol_section_by l i (Some s) = ap (option_and_then (section_at s.place)) (file_of-layout l.groups i) ∙ section_at-outline s.place (file_of (files_of l.groups) i)

pub symbol_section-outline : (l : Layout) (i : ℕ) → symbol_section (outline l) i ≡ option_map outline_section (symbol_section l i)
symbol_section-outline l i = symbol_section_by l i (slice_get l.symbols i)

offset_by-outline : (l : Layout) (i value : ℕ) (o : Option InputSection) → offset_by (outline l) i value (option_map outline_section o) ≡ offset_by l i value o
offset_by-outline l i value None = raw_value-outline l i
offset_by-outline l i value (Some s) = simp (raw_value-outline l i)

table_at-outline : (l : Layout) (i : ℕ) (role : FileRole) (s : Symbol) (section : ℕ) (p : Place) → table_at (outline l) i role s section p ≡ table_at l i role s section p
table_at-outline l i role s section at.Undefined = refl
table_at-outline l i role s section at.Absolute = refl
table_at-outline l i role s section at.Common = simp (at_address-outline l, offset_by-outline l, symbol_section-outline l, raw_value-outline l)
table_at-outline l i role s section (at.Output k) = simp (at_address-outline l, offset_by-outline l, symbol_section-outline l, raw_value-outline l)
table_at-outline l i role s section (at.Section k) = simp (at_address-outline l, offset_by-outline l, symbol_section-outline l, raw_value-outline l)

fields_of-outline : (l : Layout) (f : File) (n : SymtabName) (i : ℕ) (s : Symbol) → fields_of (outline l) f n i s ≡ fields_of l f n i s
fields_of-outline l f named.Itself i s = simp (at_address-outline l, raw_value-outline l, table_at-outline l, output_section-same_file l)
fields_of-outline l f named.Slot i s = simp (slots_of-outline l)
fields_of-outline l f other i s = refl

pub table_fields-outline : (l : Layout) (f : File) (x : TableSymbol) → table_fields (outline l) f x ≡ table_fields l f x
unfolding table_fields
table_fields-outline l f x = simp (fields_of-outline l)

all_items-outline : (l : Layout) → all_items (outline l) ≡ all_items l
all_items-outline l = ap (flat_map (file_items (outline l))) (files_of-outline l.groups) ∙ flat_map-mapped (file_items (outline l)) (file_items l) outline_file (file_items-outline l) (files_of l.groups)

entry_by-outline : (l : Layout) (i : ℕ) (b : Bool) → entry_by (outline l) i b ≡ entry_by l i b
entry_by-outline l i true = simp (section_symbols-outline l, all_items-outline l)
entry_by-outline l i false = simp (section_symbols-outline l, all_items-outline l)

section_index_by : (l : Layout) (s : InputSection) (k : Option ℕ) → s.singleton ≡ k → section_index (outline l) (outline_section s) ≡ section_index l s
section_index_by l s None h = rw h refl
section_index_by l s (Some k) h = simp (h, singleton_sections-outline l)

section_number-outline : (l : Layout) (o : Option InputSection) → option_and_then (section_number (outline l)) (option_map outline_section o) ≡ option_and_then (section_number l) o
section_number-outline l None = refl
section_number-outline l (Some s) = simp (section_index_by l s s.singleton refl)

entry_index-outline : (l : Layout) (i : ℕ) → entry_index (outline l) i ≡ entry_index l i
entry_index-outline l i = simp (entry_by-outline l)

number_of_section-outline : (l : Layout) (i : ℕ) (s : Symbol) → number_of_section (outline l) i s ≡ number_of_section l i s
number_of_section-outline l i s = simp (symbol_section-outline l i, section_number-outline l (symbol_section l i))

number_of_section-each : (l : Layout) (i : ℕ) → number_of_section (outline l) i ≡ number_of_section l i
number_of_section-each l i = fun_ext (number_of_section-outline l i)

pub symbol_index-outline : (l : Layout) (i : ℕ) → symbol_index (outline l) i ≡ symbol_index l i
symbol_index-outline l i = simp (entry_index-outline l i, number_of_section-each l i)

pub named_index-outline : (l : Layout) (o : Option ℕ) → named_index (outline l) o ≡ named_index l o
named_index-outline l None = refl
named_index-outline l (Some i) = simp (symbol_index-outline l)

pub named_entry-each : (l : Layout) (f : File) → named_entry (outline l) f ≡ named_entry l f
named_entry-each l f = fun_ext (λ x. simp (table_fields-outline l))

file_table-each : (l : Layout) → file_table (outline l) ≡ file_table l
file_table-each l = fun_ext (λ f. simp (section_symbols-outline l, named_entry-each l, file_items-same_file l))

group_table-outline : (l : Layout) (g : Group) → group_table (outline l) g ≡ group_table l g
unfolding group_table
group_table-outline l g = simp (file_table-each l)

pub table_entries-outline : (l : Layout) (local : Bool) (g : Group) → table_entries (outline l) local g ≡ table_entries l local g
unfolding table_entries
table_entries-outline l local g = simp (group_table-outline l)
