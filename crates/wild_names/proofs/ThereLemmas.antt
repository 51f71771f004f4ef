-- The dynamic symbol table and its strings are there: the first file gives the first entry, and the empty string.
use Rattle.wild_names.proofs.Common.{◌≡◌, ℕ, ◌*◌, ◌≤◌, inl, inr, ◌==◌, ◌&&◌, Bool, true, if◌then◌else◌, List, [], ◌∷◌, ◌++◌, length, map, Option, Some, None, flat_map, refl, sym, ap, arith, subst, cases_Bool, and_parts, length-append, Part, Role, FileRole, File, Group, Layout, bool_eq, file_position_fits, later_positions_fit, group_positions_fit, first_misplaced_file, dynstr_prefix_strings, entry_names, file_strings, is_prelude, is_epilogue, needs_dynsym, role_place, part_with, same_bool, version_names, string_bytes, length-symbol_bytes, content, table_bytes, IsLaidOut, table_symbols}
use Rattle.wild_types.specs.declared.part.Role.TheVariants as role
use Rattle.wild_types.specs.declared.file.FileRole.TheVariants as file_role
use Rattle.wild_names.specs.Laws.{SymbolTablesAreThere}
use Rattle.wild_names.proofs.BesideLemmas.{Belong, belong-length}
use Rattle.wild_names.proofs.ImageLemmas.{all_symbols, symbol_table}
use Rattle.wild_names.proofs.OrderLemmas.{items_of_all}
use Rattle.wild_names.proofs.RunLemmas.{strings_of, group_gives}
use Rattle.wild_names.proofs.SymbolLemmas.{IsEntryOf, symbols_belong}

-- ---- the empty string

prelude_role : (r : FileRole) → is_prelude r ≡ true → r ≡ file_role.Prelude
prelude_role file_role.Prelude h = refl
prelude_role r h = cc

leads : (l : Layout) (f : File) → f.role ≡ file_role.Prelude → dynstr_prefix_strings l f ≡ [] ∷ []
leads l f h = rw h refl

first_string : (l : Layout) (f : File) → needs_dynsym l.kind ≡ true → is_prelude f.role ≡ true → 1 ≤ length (strings_of l f)
unfolding file_strings
first_string l f needs h =
    let behind = entry_names l f ++ version_names l f in
    let P : Bool → Type 0 = λ b. 1 ≤ length (string_bytes (if b then dynstr_prefix_strings l f ++ behind else [])) in
    let some : 1 ≤ length (string_bytes (([] ∷ []) ++ behind)) = omega arith in
    subst P (sym needs) (subst (λ (ss : List (List ℕ)). 1 ≤ length (string_bytes (ss ++ behind))) (sym (leads l f (prelude_role f.role h))) some)

first_file : (l : Layout) (last : Bool) (fs : List File) → needs_dynsym l.kind ≡ true → group_positions_fit true last fs ≡ true → 1 ≤ length (flat_map (strings_of l) fs)
first_file l last [] needs h = cc
first_file l last (f ∷ fs) needs h =
    let a = and_parts (file_position_fits true (last && length fs == 0) f) (later_positions_fit last fs) h in
    let b = same_bool (is_prelude f.role) true (and_parts (bool_eq (is_prelude f.role) true) (bool_eq (is_epilogue f.role) (last && length fs == 0)) a.0).0 in
    let own = first_string l f needs b in
    let all = length-append (strings_of l f) (flat_map (strings_of l) fs) in
    omega (arith, own, all)

some_strings : (l : Layout) (gs : List Group) → needs_dynsym l.kind ≡ true → 1 ≤ length gs → first_misplaced_file true 0 gs ≡ None → 1 ≤ length (flat_map (content l role.Dynstr) gs)
some_strings l [] needs some h = absurd (omega (arith, some))
some_strings l (g ∷ gs) needs some h =
    elim (cases_Bool (group_positions_fit true (length gs == 0) g.files)) [
      | inl t ↦
          (let own = first_file l (length gs == 0) g.files needs t in
          let given = ap (λ (bs : List ℕ). length bs) (group_gives l g) in
          let all = length-append (content l role.Dynstr g) (flat_map (content l role.Dynstr) gs) in
          omega (arith, own, given, all))
      | inr n ↦ cc (rw n at h)
    ]

-- ---- the first entry

some_symbol : (l : Layout) → IsLaidOut l → needs_dynsym l.kind ≡ true → 1 ≤ length (table_bytes l role.Dynsym)
some_symbol l laid needs =
    let names = table_bytes l role.Dynstr in
    let items = None ∷ map Some (table_symbols l) in
    let all = subst (Belong (IsEntryOf names) (all_symbols l)) (items_of_all l laid.some_group laid.files) (symbols_belong l laid needs) in
    let count = belong-length (IsEntryOf names) (all_symbols l) items all in
    let own : length (table_bytes l role.Dynsym) ≡ 24 * length (all_symbols l) = subst (λ (bs : List ℕ). length bs ≡ 24 * length (all_symbols l)) (symbol_table l) (length-symbol_bytes (all_symbols l)) in
    omega (arith, count, own)

-- ---- both parts

there : (l : Layout) (r : Role) → IsLaidOut l → (role_place r ≡ 0 → ⊥) → 1 ≤ length (table_bytes l r) → (p : Part) × (part_with r l.parts ≡ Some p)
there l r laid loaded some = by (part_with r l.parts) refl
  where
    by : (o : Option Part) → part_with r l.parts ≡ o → (p : Part) × (part_with r l.parts ≡ Some p)
    by (Some p) e = (p, e)
    by None e = (let none = ap (λ (bs : List ℕ). length bs) ((laid.roles r loaded).missing e) in absurd (omega (arith, none, some)))

pub tables_are_there : SymbolTablesAreThere
tables_are_there l laid needs =
    let t = there l role.Dynsym laid (λ e. absurd (omega arith)) (some_symbol l laid needs) in
    let strings = some_strings l l.groups needs laid.some_group laid.files in
    let s = there l role.Dynstr laid (λ e. absurd (omega arith)) strings in
    let size = ((laid.roles role.Dynstr (λ e. absurd (omega arith))).there s.0 s.1).size in
    record { table = t.0; symbols = t.1; strings = s.0; names = s.1; some = omega (arith, size, strings) }
