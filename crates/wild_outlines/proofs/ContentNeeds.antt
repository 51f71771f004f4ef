-- Strings, symbols, words and dynamic entries that the parts of an outline need.
use Rattle.wild_outlines.proofs.Common.{◌≡◌, ℕ, List, [], ◌∷◌, map, Option, Some, None, refl, fun_ext, File, Group, Layout, FileRole, next_dynstr, file_items, outline_file, outline_group, outline}
use Rattle.wild_types.specs.declared.layout.Entry.{Entry}
use Rattle.wild_types.specs.declared.layout.Entry.TheVariants as entry
use Rattle.wild_types.specs.declared.file.FileRole.TheVariants as file_role
use Rattle.wild_slot.specs.declared.slot_parts.WordPart.{WordPart}
use Rattle.wild_needs.specs.DynamicStrings.{dynstr_prefix_strings, file_strings, named_strings, needed_entries, needed_from}
use Rattle.wild_needs.specs.EntryPoint.{entry_at, entry_by, entry_point, text_start}
use Rattle.wild_needs.specs.SlotShares.{group_relr_got, words_in}
use Rattle.wild_needs.specs.TableSymbols.{table_strings}
use Rattle.wild_outlines.proofs.ValuesFiles.{same_file, same_group, raw_value-outline}
use Rattle.wild_outlines.proofs.SharesTables.{file_items-outline, file_strings-outline, table_strings-outline, group_relr_got-outline}
use Rattle.wild_outlines.proofs.ClausesSlots.{slots_of-outline}

pub file_items-same_file : (l : Layout) (f : File) → file_items (outline l) f ≡ file_items l f
file_items-same_file l f = same_file file_items file_items-outline l f

named_strings-outline : (l : Layout) → named_strings (outline l) ≡ named_strings l
unfolding named_strings
named_strings-outline l = refl

prefix_by_role : (l : Layout) (f : File) (k : FileRole) → f.role ≡ k → dynstr_prefix_strings (outline l) f ≡ dynstr_prefix_strings l f
prefix_by_role l f file_role.Epilogue h = simp (h, named_strings-outline l)
prefix_by_role l f other h = rw h refl

pub dynstr_prefix_strings-outline : (l : Layout) (f : File) → dynstr_prefix_strings (outline l) f ≡ dynstr_prefix_strings l f
dynstr_prefix_strings-outline l f = prefix_by_role l f f.role refl

pub file_strings-same_file : (l : Layout) (f : File) → file_strings (outline l) f ≡ file_strings l f
file_strings-same_file l f = same_file file_strings file_strings-outline l f

pub table_strings-same_file : (l : Layout) (f : File) → table_strings (outline l) f ≡ table_strings l f
table_strings-same_file l f = same_file table_strings table_strings-outline l f

text_start-outline : (l : Layout) → text_start (outline l) ≡ text_start l
unfolding text_start
text_start-outline l = refl

entry_at-outline : (l : Layout) (i : ℕ) (o : Option ℕ) → entry_at (outline l) i o ≡ entry_at l i o
entry_at-outline l i (Some a) = refl
entry_at-outline l i None = simp (text_start-outline l)

pub entry_by-outline : (l : Layout) (e : Option Entry) → entry_by (outline l) e ≡ entry_by l e
entry_by-outline l None = refl
entry_by-outline l (Some (entry.Address a)) = refl
entry_by-outline l (Some (entry.Symbol i)) = simp (entry_at-outline l, raw_value-outline l)

pub entry_point-outline : (l : Layout) → entry_point (outline l) ≡ entry_point l
unfolding entry_point
entry_point-outline l = simp (entry_by-outline l)

pub words_in-each : (l : Layout) (part : WordPart) → words_in part (outline l) ≡ words_in part l
words_in-each l part = fun_ext (λ s. simp (slots_of-outline l))

needed_from-outline : (l : Layout) (at : ℕ) (fs : List File) → needed_from (outline l) at (map outline_file fs) ≡ needed_from l at fs
needed_from-outline l at [] = refl
needed_from-outline l at (f ∷ fs) = simp (file_strings-outline l f, needed_from-outline l (next_dynstr l at f) fs)

pub needed_entries-outline : (l : Layout) (g : Group) → needed_entries (outline l) (outline_group g) ≡ needed_entries l g
unfolding needed_entries
needed_entries-outline l g = simp (needed_from-outline l g.dynstr_start g.files)

pub needed_entries-same_group : (l : Layout) (g : Group) → needed_entries (outline l) g ≡ needed_entries l g
needed_entries-same_group l g = same_group needed_entries needed_entries-outline l g

pub group_relr_got-same_group : (l : Layout) (g : Group) → group_relr_got (outline l) g ≡ group_relr_got l g
group_relr_got-same_group l g = same_group group_relr_got group_relr_got-outline l g
