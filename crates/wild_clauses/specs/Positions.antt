-- Positions in the dynamic symbol table, counted in one walk over files and symbols. The walk carries the next symbol and the
-- number of undefined entries before it. It ends early at a symbol whose index is not its position.
--   run_walk ds n role i c ss   symbols of one file, from number i on, after c of n undefined entries
--   file_walk, files_walk, groups_walk   symbols up to the end of a file's range, and so on
--   whole_walk l n              all symbols
--   section_in l i k gs         the output section of input section k of symbol i's file
--   all_below l                 no part or symbol is in a section whose header index is too large for a symbol
--   is_unlisted s               the symbol has no index of the table
use Rattle.std.specs.Prelude.{ℕ, ◌+◌, ◌-◌, ◌==◌, Bool, true, false, not, is_some, ◌&&◌, ◌||◌, if◌then◌else◌, nat_lt, nat_le, unwrap_or, List, [], ◌∷◌, length, take, drop, Option, Some, None, Result, Ok, Err, slice_get}
use Rattle.wild_types.specs.declared.symbol.Symbol.{Symbol}
use Rattle.wild_types.specs.declared.file.FileRole.{FileRole}
use Rattle.wild_types.specs.declared.file.FileRole.TheVariants as file_role
use Rattle.wild_types.specs.declared.file.File.{File}
use Rattle.wild_types.specs.declared.file.Group.{Group}
use Rattle.wild_types.specs.declared.layout.DynamicSymbol.{DynamicSymbol}
use Rattle.wild_types.specs.declared.layout.Layout.{Layout}
use Rattle.wild_needs.specs.DynamicSymbols.{is_undefined_entry, dynsym_of, symbol_sections, section_of_input}
use Rattle.wild_types.specs.declared.part.Part.{Part}
use Rattle.wild_types.specs.declared.symbol.Place.{Place}
use Rattle.wild_types.specs.declared.symbol.Place.TheVariants as at
use Rattle.std.specs.List.{list_all}
use Rattle.wild_needs.specs.UndefinedCounts.{counted}

abbrev pub lists : ℕ → Option DynamicSymbol → Bool
lists i None = false
lists i (Some d) = d.symbol == i

-- position p is that of symbol i: of its undefined entry, which comes next after c others, or of its listed entry after all n
-- undefined ones
abbrev pub is_at : List DynamicSymbol → ℕ → Bool → ℕ → ℕ → ℕ → Bool
is_at ds n entry c i p = (entry && p == c + 1) || (nat_lt n p && lists i (slice_get ds (p - 1 - n)))

abbrev pub fits_at : List DynamicSymbol → ℕ → Bool → ℕ → ℕ → Option ℕ → Bool
fits_at ds n entry c i None = true
fits_at ds n entry c i (Some p) = is_at ds n entry c i p

abbrev pub run_walk : List DynamicSymbol → ℕ → FileRole → ℕ → ℕ → List Symbol → Result ℕ ℕ
run_walk ds n role i c [] = Ok c
run_walk ds n role i c (s ∷ ss) =
    if fits_at ds n (is_undefined_entry role s) c i (dynsym_of s) then run_walk ds n role (i + 1) (counted (is_undefined_entry role s) c) ss else Err i

-- the next step, if the previous one did not fail
abbrev pub then_step : {A B : Type 0} → Result A ℕ → (A → Result B ℕ) → Result B ℕ
then_step (Ok x) rest = rest x
then_step (Err i) rest = Err i

-- the symbols from next on, up to the file's range
abbrev pub gap_of : List Symbol → ℕ → File → List Symbol
gap_of symbols next f = take (f.first_symbol - next) (drop next symbols)

-- the symbols of the file's range, which begins after that gap
abbrev pub symbols_of_range : List Symbol → ℕ → File → List Symbol
symbols_of_range symbols next f = take f.symbol_count (drop (next + length (gap_of symbols next f)) symbols)

abbrev pub file_walk : Layout → ℕ → ℕ × ℕ → File → Result (ℕ × ℕ) ℕ
file_walk l n at f =
    if f.symbol_count == 0
    then Ok at
    else then_step (run_walk l.dynsyms n file_role.NotLoaded at.0 at.1 (gap_of l.symbols at.0 f))
    (λ c. then_step (run_walk l.dynsyms n f.role (at.0 + length (gap_of l.symbols at.0 f)) c (symbols_of_range l.symbols at.0 f))
    (λ d. Ok (at.0 + length (gap_of l.symbols at.0 f) + length (symbols_of_range l.symbols at.0 f), d)))

abbrev pub files_walk : Layout → ℕ → ℕ × ℕ → List File → Result (ℕ × ℕ) ℕ
files_walk l n at [] = Ok at
files_walk l n at (f ∷ fs) = then_step (file_walk l n at f) (λ next. files_walk l n next fs)

abbrev pub groups_walk : Layout → ℕ → ℕ × ℕ → List Group → Result (ℕ × ℕ) ℕ
groups_walk l n at [] = Ok at
groups_walk l n at (g ∷ gs) = then_step (files_walk l n at g.files) (λ next. groups_walk l n next gs)

abbrev pub failed : {A : Type 0} → Result A ℕ → Option ℕ
failed (Ok x) = None
failed (Err i) = Some i

-- the first symbol whose index is not its position
abbrev pub whole_walk : Layout → ℕ → Option ℕ
whole_walk l n = failed (then_step (groups_walk l n (0, 0) l.groups) (λ at. run_walk l.dynsyms n file_role.NotLoaded at.0 at.1 (drop at.0 l.symbols)))

-- the symbol has no index of the table
abbrev pub is_unlisted : Symbol → Bool
is_unlisted s = not (is_some (dynsym_of s))

-- ---- the sections of listed symbols

-- the output section of input section k of the first file whose range contains symbol i
abbrev pub found_in : Layout → List File → ℕ → ℕ → Option ℕ
found_in l [] i k = None
found_in l (f ∷ fs) i k = if nat_le f.first_symbol i && nat_lt i (f.first_symbol + f.symbol_count) then Some (section_of_input l (slice_get f.sections k)) else found_in l fs i k

abbrev pub section_in : Layout → ℕ → ℕ → List Group → ℕ
section_in l i k [] = 0
section_in l i k (g ∷ gs) = unwrap_or (found_in l g.files i k) (section_in l i k gs)

abbrev pub part_is_below : Part → Bool
part_is_below p = nat_lt p.section symbol_sections

abbrev pub place_is_below : Place → Bool
place_is_below (at.Output k) = nat_lt k symbol_sections
place_is_below other = true

abbrev pub symbol_is_below : Symbol → Bool
symbol_is_below s = place_is_below s.place

-- no part and no symbol is in a section whose header index is too large for a symbol
abbrev pub all_below : Layout → Bool
all_below l = list_all part_is_below l.parts && list_all symbol_is_below l.symbols
