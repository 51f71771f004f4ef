-- The dynamic symbol table has no more entries than the ranges of the files and the list of symbols together.
use Rattle.std.proofs.Common.{◌≡◌, ℕ, ◌+◌, ◌-◌, ◌^◌, ◌<◌, ◌≤◌, Bool, true, false, List, [], ◌∷◌, ◌++◌, length, drop, min, sym, ◌∙◌, arith}
use Rattle.std.specs.Prelude.{nat_lt, is_some}
use Rattle.std.proofs.lemmas.Bool.{lt-ltb}
use Rattle.std.proofs.lemmas.List.{length-append, length-map}
use Rattle.wild_types.specs.declared.symbol.Symbol.{Symbol}
use Rattle.wild_types.specs.declared.file.FileRole.{FileRole}
use Rattle.wild_types.specs.declared.file.File.{File}
use Rattle.wild_types.specs.declared.file.Group.{Group}
use Rattle.wild_types.specs.declared.layout.DynamicSymbol.{DynamicSymbol}
use Rattle.wild_types.specs.declared.layout.Layout.{Layout}
use Rattle.wild_types.specs.FileSymbols.{range_of}
use Rattle.wild_types.specs.Lists.{total}
use Rattle.wild_types.specs.Lookups.{files_of}
use Rattle.wild_needs.specs.DynamicSymbols.{is_undefined_entry, undefined_entries, dynamic_symbols, listed}
use Rattle.wild_needs.specs.UndefinedCounts.{counted, count_in, undefined_of, undefined_of_group}
use Rattle.wild_needs.proofs.UndefinedLemmas.{groups_count}
use Rattle.wild_clauses.specs.SymbolIndexes.{all_ranges_lie}
use Rattle.wild_plan_rules.specs.Counts.{symbols_in, symbols_of, table_fits}
use Rattle.wild_clauses.proofs.AstrayLemmas.{lie_ascend}
use Rattle.wild_clauses.proofs.DynsymLemmas as dynsyms
use Rattle.wild_clauses.proofs.PlacelessLemmas.{take_few}

one_more : (b : Bool) → counted b 0 ≤ 1
one_more true = omega arith
one_more false = omega arith

run_few : (r : FileRole) (ss : List Symbol) → count_in r ss ≤ length ss
run_few r [] = omega arith
run_few r (s ∷ ss) = let one = one_more (is_undefined_entry r s) in let rest = run_few r ss in omega (arith, one, rest)

file_few : (symbols : List Symbol) (f : File) → undefined_of symbols f ≤ f.symbol_count
file_few symbols f =
    let most = run_few f.role (range_of symbols f) in
    let size = take_few f.symbol_count (drop f.first_symbol symbols) in
    omega (arith, most, size)

files_few : (symbols : List Symbol) (fs : List File) → total (undefined_of symbols) fs ≤ total symbols_in fs
files_few symbols [] = omega arith
files_few symbols (f ∷ fs) = let one = file_few symbols f in let rest = files_few symbols fs in omega (arith, one, rest)

groups_few : (symbols : List Symbol) (gs : List Group) → total (undefined_of_group symbols) gs ≤ total symbols_of gs
groups_few symbols [] = omega arith
groups_few symbols (g ∷ gs) = let one = files_few symbols g.files in let rest = groups_few symbols gs in omega (arith, one, rest)

entries_few : (l : Layout) (most : ℕ) → length (undefined_entries l.symbols (files_of l.groups)) ≤ most → most + length l.dynsyms < 2 ^ 32 - 1 → table_fits l ≡ true
entries_few l most few small =
    let undefined = undefined_entries l.symbols (files_of l.groups) in
    let long : length (undefined ++ listed l.dynsyms) ≡ length undefined + length (listed l.dynsyms) = length-append undefined (listed l.dynsyms) in
    let own : length (listed l.dynsyms) ≡ length l.dynsyms = length-map l.dynsyms (λ (d : DynamicSymbol). d.symbol) in
    lt-ltb (length (dynamic_symbols l)) (2 ^ 32 - 1) (omega (arith, few, small, long, own))

pub few_entries : (l : Layout) (sum : ℕ) → sum ≡ min (2 ^ 64 - 1) (min (2 ^ 64 - 1) (total symbols_of l.groups) + length l.dynsyms) → sum < 2 ^ 32 - 1 → table_fits l ≡ true
few_entries l sum is small =
    let same = groups_count l.symbols l.groups in
    let few = groups_few l.symbols l.groups in
    entries_few l (total symbols_of l.groups) (omega (arith, same, few)) (omega (arith, is, small))

-- where the ranges lie in order, they have no more symbols than there are
pub few_in_order : (l : Layout) (lie : Bool) (sum : ℕ) → lie ≡ is_some (all_ranges_lie (length l.symbols) 0 l.groups) → lie ≡ true → sum ≡ min (2 ^ 64 - 1) (length l.symbols + length l.dynsyms) → sum < 2 ^ 32 - 1 → table_fits l ≡ true
few_in_order l lie sum e h is small = entries_few l (length l.symbols) (dynsyms.few_entries l (lie_ascend l (sym e ∙ h))) (omega (arith, is, small))
