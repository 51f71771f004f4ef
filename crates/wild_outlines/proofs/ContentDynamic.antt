-- Dynamic symbols and their versions in an outline.
use Rattle.wild_outlines.proofs.Common.{◌≡◌, ℕ, List, [], ◌∷◌, Option, Some, None, option_map, refl, ap, ◌∙◌, fun_ext, File, Group, Layout, Place, Symbol, files_of, file_of, output_section, next_dynstr, outline_file, outline}
use Rattle.wild_types.specs.declared.symbol.Place.TheVariants as at
use Rattle.wild_table_formats.specs.DynamicEntries.{entries_from, group_symbols, listed, listed_of}
use Rattle.wild_table_formats.specs.DynamicFields.{exported_symbol_fields, fields_at, role_of, exported_fields_in}
use Rattle.wild_table_formats.specs.VersionNames.{definition_offsets, file_definitions, group_needs, needs_from}
use Rattle.wild_outlines.proofs.ClausesGroups.{file_of-layout, output_section-outline}
use Rattle.wild_outlines.proofs.ContentNeeds.{dynstr_prefix_strings-outline, file_strings-same_file}
use Rattle.wild_outlines.proofs.SharesTables.{string_start-outline}

fields_at-outline : (l : Layout) (i : ℕ) (s : Symbol) (section : ℕ) (p : Place) → fields_at (outline l) i s section p ≡ fields_at l i s section p
fields_at-outline l i s section at.Undefined = refl
fields_at-outline l i s section other = refl

role_of-outline : (o : Option File) → role_of (option_map outline_file o) ≡ role_of o
role_of-outline None = refl
role_of-outline (Some f) = refl

exported_in_file : (l : Layout) (i : ℕ) (s : Symbol) (o : Option File)
    → exported_fields_in (outline l) i (role_of (option_map outline_file o)) s (output_section (outline l) (option_map outline_file o) s.place) ≡ exported_fields_in l i (role_of o) s (output_section l o s.place)
exported_in_file l i s o = simp (role_of-outline o, output_section-outline l o s.place, fields_at-outline l)

exported_symbol_fields-outline : (l : Layout) (i : ℕ) (s : Symbol) → exported_symbol_fields (outline l) i s ≡ exported_symbol_fields l i s
exported_symbol_fields-outline l i s = ap (λ o. exported_fields_in (outline l) i (role_of o) s (output_section (outline l) o s.place)) (file_of-layout l.groups i) ∙ exported_in_file l i s (file_of (files_of l.groups) i)

pub listed_of-outline : (l : Layout) (i : ℕ) (o : Option Symbol) → listed_of (outline l) i o ≡ listed_of l i o
listed_of-outline l i None = refl
listed_of-outline l i (Some s) = simp (exported_symbol_fields-outline l)

definition_offsets-outline : (l : Layout) (f : File) → definition_offsets (outline l) f ≡ definition_offsets l f
unfolding definition_offsets
definition_offsets-outline l f = simp (string_start-outline l, dynstr_prefix_strings-outline l)

pub file_definitions-outline : (l : Layout) (f : File) → file_definitions (outline l) f ≡ file_definitions l f
unfolding file_definitions
file_definitions-outline l f = simp (definition_offsets-outline l)

listed-each : (l : Layout) → listed (outline l) ≡ listed l
listed-each l = fun_ext (λ d. simp (listed_of-outline l))

entries_from-outline : (l : Layout) (at : ℕ) (fs : List File) → entries_from (outline l) at fs ≡ entries_from l at fs
entries_from-outline l at [] = refl
entries_from-outline l at (f ∷ fs) = simp (dynstr_prefix_strings-outline l, listed-each l, file_strings-same_file l, entries_from-outline l (next_dynstr l at f) fs)

pub group_symbols-outline : (l : Layout) (g : Group) → group_symbols (outline l) g ≡ group_symbols l g
unfolding group_symbols
group_symbols-outline l g = simp (entries_from-outline l)

needs_from-outline : (l : Layout) (at : ℕ) (fs : List File) → needs_from (outline l) at fs ≡ needs_from l at fs
needs_from-outline l at [] = refl
needs_from-outline l at (f ∷ fs) = simp (dynstr_prefix_strings-outline l, file_strings-same_file l, needs_from-outline l (next_dynstr l at f) fs)

pub group_needs-outline : (l : Layout) (g : Group) → group_needs (outline l) g ≡ group_needs l g
unfolding group_needs
group_needs-outline l g = simp (needs_from-outline l)
