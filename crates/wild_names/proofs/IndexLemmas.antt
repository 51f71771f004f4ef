-- The longer section indexes: each entry of the table of all symbols has its own, in order.
use Rattle.wild_names.proofs.Common.{is_partial_link, SymtabName, TableFields, Result, Some, InputSection, Fault, output_section, placed_files, placed_file, placed_files_same, ◌≡◌, ℕ, ◌*◌, inl, inr, Bool, true, false, if◌then◌else◌, List, [], ◌∷◌, length, map, filter, find, flat_map, option_map, slice_get, refl, sym, ap, ◌∙◌, arith, subst, ◌++◌, zero, suc, list_any, cases_Bool, append-nil, length-map, slice_get-map, HasBytesAt, word, flat_map-flat_map, flat_map-same, nil_if, Part, Role, File, Group, Layout, is_prelude, role_place, part_with, file_items, TableSymbol, section_of, NamedEntry, file_table, group_table, is_side, table_fields, named_entry, null_entries, fields_of, table_by, table_fields_or_null, content, file_content, table_bytes, TablesStand, fields_of_entry, side_symbols, side_table}
use Rattle.wild_needs.specs.declared.table.SymtabName.TheVariants as named
use Rattle.wild_types.specs.declared.symbol.Place.{Place}
use Rattle.wild_types.specs.declared.symbol.Place.TheVariants as places
use Rattle.wild_types.specs.declared.input.Slot.{Slot}
use Rattle.wild_types.specs.declared.input.Slot.TheVariants as slot
use Rattle.wild_needs.specs.DynamicSymbols.{section_of_input}
use Rattle.wild_placement.specs.FrameInputs.{kept_size}
use Rattle.wild_placement.specs.ReversedWords.{reversed_section, with_word_order}
use Rattle.wild_placement.specs.PlacedSections.{without_relocations, unread, placed_section, placed_sections, placed_by, address_after}
use Rattle.std.proofs.lemmas.Bool.{or_left}
use Rattle.std.proofs.lemmas.List.Folds.{flat_map-map}
use Rattle.wild_words.proofs.ListLemmas.{filter-flat_map, holds_at}
use Rattle.wild_words.proofs.WordLemmas.{length-word}
use Rattle.wild_words.proofs.Basics.{map-flat_map}
use Rattle.wild_types.specs.declared.part.Role.TheVariants as role
use Rattle.wild_types.specs.Parts.{has_role}
use Rattle.wild_needs.specs.TableSymbols.{has_long, item_name, is_local}
use Rattle.wild_types.specs.Lookups.{has_many_sections}
use Rattle.wild_table_formats.specs.TableEntries.{index_bytes, long_indexes}
use Rattle.wild_table_formats.specs.TableLaws.{IndexesHave4Bytes}
use Rattle.wild_layout.specs.Content.{indexes_of}
use Rattle.wild_names.specs.Laws.{EntryFields}
use Rattle.wild_names.specs.IndexLaws.{HasIndex, LongIndexesAreWritten, index_role}
use Rattle.wild_names.proofs.BesideLemmas.{HasBytesAt-record}
use Rattle.wild_names.proofs.ImageLemmas.{in_image}
use Rattle.wild_names.proofs.ShortEntries.{EntryIsShort, short_side}

-- ---- where a part has them

found_any : {X : Type 0} (t : X → Bool) (xs : List X) (x : X) → find t xs ≡ Some x → list_any t xs ≡ true
found_any t [] x h = cc
found_any t (y ∷ ys) x h =
    elim (cases_Bool (t y)) [
      | inl e ↦ rw e refl
      | inr f ↦ rw f (found_any t ys x (rw f at h))
    ]

asked : (l : Layout) (r : Role) (p : Part) → part_with r l.parts ≡ Some p → has_long l r ≡ true
asked l r p found = or_left (list_any (has_role r) l.parts) (has_many_sections l) (found_any (has_role r) l.parts p found)

list_if_true : (b : Bool) (xs : List ℕ) → b ≡ true → (if b then xs else []) ≡ xs
list_if_true true xs h = refl
list_if_true false xs h = cc

-- ---- their bytes

abbrev long_of : NamedEntry → ℕ
long_of n = n.fields.long

-- the index of an entry
abbrev spelled : NamedEntry → List ℕ
spelled n = word 4 n.fields.long

-- the indexes of a side
abbrev spelled_of : Bool → List NamedEntry → List ℕ
spelled_of local ns = flat_map spelled (filter (is_side local) ns)

by_entry : (ns : List NamedEntry) → index_bytes (map long_of ns) ≡ flat_map spelled ns
by_entry ns = flat_map-map (word 4) long_of ns

-- a file gives those of its entries
file_indexes : (l : Layout) (local : Bool) (f : File) → has_long l (index_role local) ≡ true → file_content l (index_role local) f ≡ spelled_of local (file_table l f)
file_indexes l true f has =
    let all = index_bytes (long_indexes true (file_table l f)) in
    rw (nil_if (is_prelude f.role)) (append-nil (indexes_of l role.SymtabShndxLocal true f) ∙ list_if_true (has_long l role.SymtabShndxLocal) all has ∙ by_entry (filter (is_side true) (file_table l f)))
file_indexes l false f has =
    let all = index_bytes (long_indexes false (file_table l f)) in
    rw (nil_if (is_prelude f.role)) (append-nil (indexes_of l role.SymtabShndxGlobal false f) ∙ list_if_true (has_long l role.SymtabShndxGlobal) all has ∙ by_entry (filter (is_side false) (file_table l f)))

-- a group gives what its files give
by_files : (l : Layout) (local : Bool) (g : Group) → content l (index_role local) g ≡ flat_map (file_content l (index_role local)) (placed_files l g)
by_files l true g = append-nil (flat_map (file_content l role.SymtabShndxLocal) (placed_files l g))
by_files l false g = append-nil (flat_map (file_content l role.SymtabShndxGlobal) (placed_files l g))

-- a section stands in its part, however it stands
turned_part : (s : InputSection) → (with_word_order s).part ≡ s.part
unfolding with_word_order
turned_part s = by s.reversed
  where
    by : (b : Bool) → (if b then reversed_section s else s).part ≡ s.part
    by true = refl
    by false = refl

unread_part : (l : Layout) (s : InputSection) → (unread l s).part ≡ s.part
unread_part l s = by (is_partial_link l.kind)
  where
    by : (b : Bool) → (if b then without_relocations s else s).part ≡ s.part
    by true = refl
    by false = refl

part_of_placed_section : (l : Layout) (f : File) (at : ℕ) (s : InputSection) → (placed_section l f at s).part ≡ s.part
unfolding placed_section
part_of_placed_section l f at s = by_slot s.slot
  where
    by_slot : (k : Slot) → (placed_by k l f at s).part ≡ s.part
    by_slot slot.Loaded = turned_part (unread l s) ∙ unread_part l s
    by_slot slot.Debug = turned_part s
    by_slot slot.Frame = refl
    by_slot slot.Rela = refl
    by_slot other = refl

section_of_placed : (l : Layout) (f : File) (at : ℕ) (ss : List InputSection) (k : ℕ) → section_of_input l (slice_get (placed_sections l f at ss) k) ≡ section_of_input l (slice_get ss k)
section_of_placed l f at [] k = refl
section_of_placed l f at (s ∷ ss) zero = ap (section_of l) (part_of_placed_section l f at s)
section_of_placed l f at (s ∷ ss) (suc k) = section_of_placed l f (address_after at (kept_size l f s)) ss k

output_section_of_placed : (l : Layout) (at : ℕ) (f : File) (p : Place) → output_section l (Some (placed_file l at f)) p ≡ output_section l (Some f) p
output_section_of_placed l at f (places.Section k) = section_of_placed l f at f.sections k
output_section_of_placed l at f other = refl

entry_of_placed : (l : Layout) (at : ℕ) (f : File) (x : TableSymbol) → named_entry l (placed_file l at f) x ≡ named_entry l f x
unfolding table_fields
entry_of_placed l at f x = ap (λ (r : Result TableFields Fault). record { name = Some (item_name x); local = is_local x; fields = table_fields_or_null r }) (by_named x.named)
  where
    by_named : (n : SymtabName) → fields_of l (placed_file l at f) n x.index x.symbol ≡ fields_of l f n x.index x.symbol
    by_named named.Itself = ap (table_by l x.index f.role x.symbol) (output_section_of_placed l at f x.symbol.place)
    by_named other = refl

entries_of_placed : (l : Layout) (at : ℕ) (f : File) (xs : List TableSymbol) → map (named_entry l (placed_file l at f)) xs ≡ map (named_entry l f) xs
entries_of_placed l at f [] = refl
entries_of_placed l at f (x ∷ xs) = ap (λ (n : NamedEntry). n ∷ map (named_entry l (placed_file l at f)) xs) (entry_of_placed l at f x) ∙ ap (λ (ns : List NamedEntry). named_entry l f x ∷ ns) (entries_of_placed l at f xs)

indexes_of_placed : (l : Layout) (local : Bool) (at : ℕ) (f : File) → spelled_of local (file_table l (placed_file l at f)) ≡ spelled_of local (file_table l f)
unfolding file_items
indexes_of_placed l local at f = ap (λ (ns : List NamedEntry). spelled_of local (null_entries l f ++ ns)) (entries_of_placed l at f (file_items l f))

group_indexes : (l : Layout) (local : Bool) (g : Group) → has_long l (index_role local) ≡ true → content l (index_role local) g ≡ spelled_of local (group_table l g)
unfolding group_table
group_indexes l local g has =
    by_files l local g
    ∙ flat_map-same (file_content l (index_role local)) (λ (f : File). spelled_of local (file_table l f)) (placed_files l g) (λ f. file_indexes l local f has)
    ∙ placed_files_same (λ (f : File). spelled_of local (file_table l f)) l g (indexes_of_placed l local)
    ∙ sym (flat_map-flat_map spelled (λ (f : File). filter (is_side local) (file_table l f)) g.files)
    ∙ ap (flat_map spelled) (sym (filter-flat_map (is_side local) (file_table l) g.files))

-- the part has those of a side, one behind the other
index_table : (l : Layout) (local : Bool) → has_long l (index_role local) ≡ true → flat_map spelled (side_table l local) ≡ table_bytes l (index_role local)
index_table l local has =
    flat_map-flat_map spelled (λ (g : Group). filter (is_side local) (group_table l g)) l.groups
    ∙ sym (flat_map-same (content l (index_role local)) (λ (g : Group). spelled_of local (group_table l g)) l.groups (λ g. group_indexes l local g has))

has_place : (local : Bool) → role_place (index_role local) ≡ 0 → ⊥
has_place true e = absurd (omega arith)
has_place false e = absurd (omega arith)

-- ---- the same entries

same_symbols : (l : Layout) (local : Bool) → map fields_of_entry (side_table l local) ≡ side_symbols l local
same_symbols l local = map-flat_map fields_of_entry (λ (g : Group). filter (is_side local) (group_table l g)) l.groups

-- ---- the image

pub indexes_stand : TablesStand → IndexesHave4Bytes → LongIndexesAreWritten
indexes_stand stand four l laid local indexes found written =
    let table = index_table l local (asked l (index_role local) indexes found) in
    record { whole = whole_table table; each = λ k n h. one table k n h }
  where
    whole_table : flat_map spelled (side_table l local) ≡ table_bytes l (index_role local) → indexes.size ≡ 4 * length (side_symbols l local)
    whole_table table =
        let size = ((laid.roles (index_role local) (has_place local)).there indexes found).size in
        let own : length (table_bytes l (index_role local)) ≡ 4 * length (map long_of (side_table l local)) = subst (λ (bs : List ℕ). length bs ≡ 4 * length (map long_of (side_table l local))) (by_entry (side_table l local) ∙ table) (four (map long_of (side_table l local))) in
        let indexed = length-map (side_table l local) long_of in
        let symbols = length-map (side_table l local) fields_of_entry in
        let same = ap length (same_symbols l local) in
        omega arith

    one : flat_map spelled (side_table l local) ≡ table_bytes l (index_role local) → (k : ℕ) (n : NamedEntry) → slice_get (side_table l local) k ≡ Some n → HasIndex l local indexes k n
    one table k n h =
        let long = length-word 4 n.fields.long in
        let here = HasBytesAt-record spelled 4 (λ (e : NamedEntry). length-word 4 e.fields.long) (side_table l local) k n h in
        record {
          entry = sym (ap (λ (ns : List EntryFields). slice_get ns k) (same_symbols l local)) ∙ slice_get-map fields_of_entry (side_table l local) k ∙ ap (option_map fields_of_entry) h;
          index = in_image stand l laid (index_role local) (has_place local) indexes found written (4 * k) (spelled n) (omega arith) (subst (λ (bs : List ℕ). HasBytesAt bs (4 * k) (spelled n)) table here);
          else_zero = holds_at EntryIsShort (side_table l local) k n h (short_side l local);
        }
