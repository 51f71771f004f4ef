-- Where a layout has no faults each symbol that other modules see has its fields: what one lacks is a fault of the last file.
use Rattle.wild_names.proofs.Common.{◌≡◌, ℕ, ◌+◌, ◌<◌, ◌≤◌, ◌==◌, ◌&&◌, Bool, true, if◌then◌else◌, List, [], ◌∷◌, length, get_or, All, Option, Some, None, Result, Ok, Err, slice_get, flat_map, refl, ap, ◌∙◌, arith, subst, eq-eqb, All-contains, Fault, Symbol, File, Group, DynamicSymbol, Layout, is_epilogue, needs_dynsym, errors, group_errors, IsLaidOut, laid_out}
use Rattle.wild_words.proofs.ListLemmas.{Found-from_list_any}
use Rattle.wild_words.proofs.Basics.{All-from_nothing}
use Rattle.wild_table_formats.specs.declared.symbols.SymbolFields.{SymbolFields}
use Rattle.wild_table_formats.specs.DynamicEntries.{listed_of, or_none}
use Rattle.wild_table_formats.specs.DynamicFields.{exported_symbol_fields}
use Rattle.wild_layout.specs.Faults.{at_file, entry_fault, exported_error, exported_errors}
use Rattle.wild_layout.specs.Geometry.{LayoutsAreLaidOut}
use Rattle.wild_layout.specs.ExportedSymbols.{IsThere}
use Rattle.wild_layout.proofs.FaultLemmas.{All-from_none, no_fault, no_group_errors}
use Rattle.wild_geometry.proofs.LastGroupLemmas.{has_last, has_last-group}
use Rattle.wild_names.specs.FieldLaws.{HasListedFields, ListedSymbolsHaveFields, listed_with}
use Rattle.wild_names.proofs.FieldLemmas.{none_of_listed}

-- ---- they lack nothing

-- the symbol lacks nothing
abbrev LacksNothing : Layout → DynamicSymbol → Type 0
LacksNothing l d = entry_fault (listed_of l d.symbol (slice_get l.symbols d.symbol)) ≡ None

-- so it is with all of them where the file is the last one
abbrev LastHasListed : Layout → File → Type 0
LastHasListed l f = is_epilogue f.role ≡ true → All (LacksNothing l) l.dynsyms

listed_of_file : (l : Layout) (i k : ℕ) (f : File) → needs_dynsym l.kind ≡ true → exported_errors l i k f ≡ [] → LastHasListed l f
unfolding exported_errors
listed_of_file l i k f needs h last =
    let P : Bool → Bool → Type 0 = λ a b. (if a && b then flat_map (exported_error l (at_file i k)) l.dynsyms else []) ≡ [] in
    let none = subst (P true) needs (subst (λ (a : Bool). P a (needs_dynsym l.kind)) last h) in
    All-from_nothing (LacksNothing l) (exported_error l (at_file i k)) l.dynsyms (λ d e. no_fault (at_file i k) (entry_fault (listed_of l d.symbol (slice_get l.symbols d.symbol))) e) none

-- so it is with each file of a group
abbrev GroupHasListed : Layout → Group → Type 0
GroupHasListed l g = All (LastHasListed l) g.files

listed_of_group : (l : Layout) → needs_dynsym l.kind ≡ true → (i : ℕ) (g : Group) → group_errors l i g ≡ [] → GroupHasListed l g
listed_of_group l needs i g h = All-from_none (LastHasListed l) (exported_errors l i) 0 g.files (λ k f e. listed_of_file l i k f needs e) (none_of_listed l i g h)

-- the last group has the last file
none_lacks : (l : Layout) → errors l ≡ [] → needs_dynsym l.kind ≡ true → IsLaidOut l → All (LacksNothing l) l.dynsyms
none_lacks l none needs laid =
    by l.groups laid.some_group (λ k d m. has_last-group l.groups laid.files k d m) (All-from_none (GroupHasListed l) (group_errors l) 0 l.groups (listed_of_group l needs) (no_group_errors l none))
  where
    in_group : (g : Group) → has_last g ≡ true → GroupHasListed l g → All (LacksNothing l) l.dynsyms
    in_group g last each =
        let f = Found-from_list_any (λ (x : File). is_epilogue x.role) g.files last in
        All-contains (LastHasListed l) g.files f.item each f.listed f.passes

    by : (gs : List Group) → 1 ≤ length gs → ((k : ℕ) (d : Group) → k < length gs → has_last (get_or gs k d) ≡ (k + 1 == length gs)) → All (GroupHasListed l) gs → All (LacksNothing l) l.dynsyms
    by [] some last each = absurd (omega arith)
    by (g ∷ gs) some last each =
        let k = length gs in
        let end : (k + 1 == length (g ∷ gs)) ≡ true = eq-eqb (k + 1) (length (g ∷ gs)) (omega arith) in
        in_group (get_or (g ∷ gs) k g) (last k g (omega arith) ∙ end) (each k g (omega arith))

-- ---- their entries say what they have

listed_told : (l : Layout) (d : DynamicSymbol) (s : Symbol) (r : Result SymbolFields Fault) → slice_get l.symbols d.symbol ≡ Some s → LacksNothing l d → exported_symbol_fields l d.symbol s ≡ r → HasListedFields l d
listed_told l d s (Ok fields) there none is = record {
  symbol = s;
  there = there;
  fields = fields;
  told = is;
  entry = ap (λ (o : Option Symbol). listed_with d (or_none (listed_of l d.symbol o))) there ∙ ap (λ (r : Result SymbolFields Fault). listed_with d (or_none r)) is;
}
listed_told l d s (Err e) there none is =
    let told = subst (λ (o : Option Symbol). entry_fault (listed_of l d.symbol o) ≡ None) there none in
    let bad : entry_fault (Err e) ≡ None = subst (λ (r : Result SymbolFields Fault). entry_fault r ≡ None) is told in
    cc

pub listed_have_fields : LayoutsAreLaidOut → ListedSymbolsHaveFields
listed_have_fields laid l none needs d in_list =
    let lies = laid_out laid l none in
    let s = All-contains (IsThere l) l.dynsyms d lies.dynsyms.there in_list in
    listed_told l d s.0 (exported_symbol_fields l d.symbol s.0) s.1 (All-contains (LacksNothing l) l.dynsyms d (none_lacks l none needs lies) in_list) refl
