-- The longer section index of an entry is 0 where st_shndx tells its section itself.
use Rattle.wild_names.proofs.Common.{◌≡◌, List, [], ◌∷◌, ℕ, ◌%◌, ◌^◌, ◌&&◌, Bool, true, false, nat_lt, if◌then◌else◌, get_or, map, filter, Option, Some, None, Result, All, refl, codes, slice_get, All-nil, All-cons, All-append, All-map, All-flat_map, Fault, File, FileRole, Group, Layout, Symbol, SymtabName, output_section, is_library, is_prelude, part_with, TableSymbol, file_items, section_symbols, has_symtab, TableFields, NamedEntry, fields_of, file_table, group_table, is_side, named_entry, null_entries, null_entry, section_entry, table_fields_or_null, table_attributes, table_by, table_fields, side_table}
use Rattle.std.specs.Prelude.{unwrap_or}
use Rattle.std.proofs.lemmas.List.Elements.{All-filter}
use Rattle.wild_records.specs.Abi.Section.{shn_loreserve, shn_xindex}
use Rattle.wild_types.specs.declared.part.Role.TheVariants as role
use Rattle.wild_types.specs.declared.symbol.Place.{Place}
use Rattle.wild_types.specs.declared.symbol.Place.TheVariants as at
use Rattle.wild_needs.specs.declared.table.SymtabName.TheVariants as named
use Rattle.wild_types.specs.Addresses.{raw_value}
use Rattle.wild_types.specs.Flags.{has_flag, canonical_plt, copy_relocation}
use Rattle.wild_types.specs.SymbolSlots.{got_of, plt_of}
use Rattle.wild_table_formats.specs.declared.symbols.SymbolAttributes.{SymbolAttributes}
use Rattle.wild_table_formats.specs.DynamicFields.{common_section, part_section, section_named, some_section, has_stub_address, stub_or_zero}
use Rattle.wild_table_formats.specs.TableEntries.{at_address, counted_from, first_or, in_table_section, no_attributes, thunk_attributes, slot_role, table_at, table_canonical, table_placed, table_value, with_function}

-- the index is 0 where st_shndx does not send to it
abbrev IsShort : TableFields → Type 0
IsShort t = (t.fields.section ≡ shn_xindex → ⊥) → t.long ≡ 0

-- so it is of what is told of a symbol, and of one that lacks something
pub record HasShortIndex (r : Result TableFields Fault) : Type 0 where
  pub short : IsShort (table_fields_or_null r)

abbrev split_by : ℕ → Bool → ℕ × ℕ
split_by k b = if b then (k, 0) else (shn_xindex, k)

short_split : (k : ℕ) (b : Bool) → ((split_by k b).0 ≡ shn_xindex → ⊥) → (split_by k b).1 % 2 ^ 32 ≡ 0
short_split k true n = refl
short_split k false n = absurd (n refl)

told_if : (b : Bool) (x y : Result TableFields Fault) → HasShortIndex x → HasShortIndex y → HasShortIndex (if b then x else y)
told_if true x y h k = h
told_if false x y h k = k

section_of_entry : (i : ℕ) (section : Option ℕ) (value : ℕ) (a : SymbolAttributes) → HasShortIndex (in_table_section i section value a)
section_of_entry i None value a = record { short = λ n. refl }
section_of_entry i (Some k) value a = record { short = short_split k (nat_lt k shn_loreserve) }

told_address : (l : Layout) (i : ℕ) (s : Symbol) (section value : Option ℕ) (a : SymbolAttributes) → HasShortIndex (at_address l i s section value a)
told_address l i s section None a = record { short = λ n. refl }
told_address l i s section (Some v) a = section_of_entry i section (counted_from l s v) a

told_placed : (l : Layout) (i : ℕ) (r : FileRole) (s : Symbol) (section : Option ℕ) → HasShortIndex (table_placed l i r s section)
told_placed l i r s section =
    let stubs = part_section (part_with role.PltGot l.parts) in
    let function = with_function (table_attributes r s) in
    let own = table_attributes r s in
    told_if (has_stub_address l s) (in_table_section i stubs (stub_or_zero s) function) (at_address l i s section (table_value l i s) own) (section_of_entry i stubs (stub_or_zero s) function) (told_address l i s section (table_value l i s) own)

told_at : (l : Layout) (i : ℕ) (r : FileRole) (s : Symbol) (section : ℕ) (p : Place) → HasShortIndex (table_at l i r s section p)
told_at l i r s section at.Undefined = record { short = λ n. refl }
told_at l i r s section at.Absolute = record { short = λ n. refl }
told_at l i r s section at.Common = told_placed l i r s (common_section l s)
told_at l i r s section (at.Output k) = told_placed l i r s (Some (first_or k))
told_at l i r s section (at.Section k) = told_placed l i r s (some_section section)

told_canonical : (i : ℕ) (r : FileRole) (s : Symbol) (p : Place) (stub : Option ℕ) → HasShortIndex (table_canonical i r s p stub)
told_canonical i r s at.Undefined stub = record { short = λ n. refl }
told_canonical i r s other None = record { short = λ n. refl }
told_canonical i r s other (Some stub) = record { short = λ n. refl }

told_by : (l : Layout) (i : ℕ) (r : FileRole) (s : Symbol) (section : ℕ) → HasShortIndex (table_by l i r s section)
told_by l i r s section =
    let stub = table_canonical i r s s.place (plt_of s) in
    let copied = at_address l i s (section_named l (codes ".bss")) (raw_value l i) (table_attributes r s) in
    let placed = table_at l i r s section s.place in
    let copy = told_address l i s (section_named l (codes ".bss")) (raw_value l i) (table_attributes r s) in
    let other = told_if (is_library r && has_flag s.flags copy_relocation) copied placed copy (told_at l i r s section s.place) in
    told_if (is_library r && has_flag s.flags canonical_plt) stub (if is_library r && has_flag s.flags copy_relocation then copied else placed) (told_canonical i r s s.place (plt_of s)) other

told_of : (l : Layout) (f : File) (x : SymtabName) (i : ℕ) (s : Symbol) → HasShortIndex (fields_of l f x i s)
told_of l f named.Itself i s = told_by l i f.role s (output_section l (Some f) s.place)
told_of l f named.Slot i s = section_of_entry i (part_section (part_with (slot_role l s) l.parts)) (unwrap_or (got_of s) 0) no_attributes
told_of l f named.Stub i s = section_of_entry i (part_section (part_with role.PltGot l.parts)) (unwrap_or (plt_of s) 0) no_attributes
told_of l f (named.Thunk a) i s = section_of_entry i (part_section (slice_get l.parts l.primary_part)) a thunk_attributes

told : (l : Layout) (f : File) (x : TableSymbol) → HasShortIndex (table_fields l f x)
unfolding table_fields
told l f x = told_of l f x.named x.index x.symbol

abbrev pub EntryIsShort : NamedEntry → Type 0
EntryIsShort n = IsShort n.fields

short_front : (b : Bool) (ks : List ℕ) → All EntryIsShort (if b then null_entry ∷ map section_entry ks else [])
short_front true ks = All-cons EntryIsShort null_entry (map section_entry ks) (λ n. refl) (All-map EntryIsShort section_entry ks (λ k d h. short_split (get_or ks k d) (nat_lt (get_or ks k d) shn_loreserve)))
short_front false ks = All-nil EntryIsShort

short_file : (l : Layout) (f : File) → All EntryIsShort (file_table l f)
short_file l f =
    let first = short_front (has_symtab l && is_prelude f.role) (section_symbols l) in
    let items = All-map EntryIsShort (named_entry l f) (file_items l f) (λ k d h. (told l f (get_or (file_items l f) k d)).short) in
    All-append EntryIsShort (null_entries l f) (map (named_entry l f) (file_items l f)) first items

short_group : (l : Layout) (g : Group) → All EntryIsShort (group_table l g)
unfolding group_table
short_group l g = All-flat_map EntryIsShort (file_table l) g.files (λ k d h. short_file l (get_or g.files k d))

pub short_side : (l : Layout) (local : Bool) → All EntryIsShort (side_table l local)
short_side l local =
    let of = λ (g : Group). filter (is_side local) (group_table l g) in
    All-flat_map EntryIsShort of l.groups (λ k d h. All-filter (is_side local) EntryIsShort (group_table l (get_or l.groups k d)) (short_group l (get_or l.groups k d)))
