-- How many undefined entries files give.
use Rattle.std.proofs.Common.{◌≡◌, ℕ, ◌+◌, ◌-◌, inl, inr, List, [], ◌∷◌, ◌++◌, length, refl, sym, arith}
use Rattle.std.specs.Prelude.{min, ◌^◌}
use Rattle.std.proofs.lemmas.Bool.{cases_Bool}
use Rattle.std.proofs.lemmas.List.{length-append, length-map}
use Rattle.wild_types.specs.declared.symbol.Symbol.{Symbol}
use Rattle.wild_types.specs.declared.file.FileRole.{FileRole}
use Rattle.wild_types.specs.declared.file.File.{File}
use Rattle.wild_types.specs.declared.file.Group.{Group}
use Rattle.wild_types.specs.declared.layout.DynamicSymbol.{DynamicSymbol}
use Rattle.wild_types.specs.declared.layout.Layout.{Layout}
use Rattle.std.proofs.lemmas.Grind.{flat_map-append}
use Rattle.wild_types.specs.FileSymbols.{range_of}
use Rattle.wild_types.specs.Lists.{total}
use Rattle.wild_types.specs.Lookups.{files_of}
use Rattle.wild_needs.specs.DynamicSymbols.{is_undefined_entry, places_where, undefined_in, undefined_entries, dynamic_symbols, listed}
use Rattle.wild_needs.specs.UndefinedCounts.{count_in, undefined_of, undefined_of_group, undefined_count}

pub count_is : (r : FileRole) (i : ℕ) (ss : List Symbol) → count_in r ss ≡ length (places_where (is_undefined_entry r) i ss)
count_is r i [] = refl
count_is r i (s ∷ ss) =
    elim (cases_Bool (is_undefined_entry r s)) [
      | inl t ↦ (let again = count_is r (i + 1) ss in rw t (omega (arith, again)))
      | inr f ↦ (let again = count_is r (i + 1) ss in rw f (omega (arith, again)))
    ]

pub files_count : (symbols : List Symbol) (fs : List File) → total (undefined_of symbols) fs ≡ length (undefined_entries symbols fs)
files_count symbols [] = refl
files_count symbols (f ∷ fs) =
    let own = places_where (is_undefined_entry f.role) f.first_symbol (range_of symbols f) in
    rw (count_is f.role f.first_symbol (range_of symbols f), files_count symbols fs) (sym (length-append own (undefined_entries symbols fs)))

pub groups_count : (symbols : List Symbol) (gs : List Group) → total (undefined_of_group symbols) gs ≡ length (undefined_entries symbols (files_of gs))
groups_count symbols [] = refl
groups_count symbols (g ∷ gs) =
    let cut : undefined_entries symbols (g.files ++ files_of gs) ≡ undefined_entries symbols g.files ++ undefined_entries symbols (files_of gs) = flat_map-append (undefined_in symbols) g.files (files_of gs) in
    rw (files_count symbols g.files, groups_count symbols gs, cut) (sym (length-append (undefined_entries symbols g.files) (undefined_entries symbols (files_of gs))))

-- all symbols of the table, counted with bounds
pub table_length : (l : Layout) (n : ℕ) → n ≡ min (2 ^ 64 - 1) (undefined_count l) → min (2 ^ 64 - 1) (n + length l.dynsyms) ≡ min (2 ^ 64 - 1) (length (dynamic_symbols l))
table_length l n is =
    let undefined = undefined_entries l.symbols (files_of l.groups) in
    let same = groups_count l.symbols l.groups in
    let long : length (undefined ++ listed l.dynsyms) ≡ length undefined + length (listed l.dynsyms) = length-append undefined (listed l.dynsyms) in
    let own : length (listed l.dynsyms) ≡ length l.dynsyms = length-map l.dynsyms (λ (d : DynamicSymbol). d.symbol) in
    omega (arith, is, same, long, own)
