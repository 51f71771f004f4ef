-- The file of a symbol, looked for group by group.
use Rattle.std.proofs.Common.{◌≡◌, ℕ, suc, ◌+◌, ◌<◌, inl, inr, List, [], ◌∷◌, ◌++◌, length, drop, get_or, refl, sym, ◌∙◌, subst, arith, drop-cons, Bool, true, false, ◌-◌}
use Rattle.std.specs.Prelude.{Some, None, ◌&&◌, nat_le, nat_lt, All, slice_range, if◌then◌else◌}
use Rattle.std.specs.Option.{option_or}
use Rattle.std.proofs.lemmas.Bool.{cases_Bool}
use Rattle.std.proofs.lemmas.List.Elements.{All-nil, All-take, All-drop}
use Rattle.wild_types.specs.declared.file.File.{File}
use Rattle.wild_types.specs.declared.file.Group.{Group}
use Rattle.wild_types.specs.Lookups.{files_of, file_of}
use Rattle.wild_types.specs.FilePlaces.{bool_eq}
use Rattle.wild_types.specs.declared.file.FileRole.{FileRole}
use Rattle.wild_types.specs.FileRoles.{is_epilogue, is_library, writes_slots}
use Rattle.wild_types.specs.declared.file.FileRole.TheVariants as file_role
use Rattle.wild_types.specs.declared.symbol.Symbol.{Symbol}
use Rattle.wild_types.specs.declared.layout.Layout.{Layout}
use Rattle.wild_types.specs.FileSymbols.{own_symbols}

file_joined : (files later : List File) (i : ℕ) → file_of (files ++ later) i ≡ option_or (file_of files i) (file_of later i)
file_joined [] later i = refl
file_joined (f ∷ fs) later i =
    elim (cases_Bool (nat_le f.first_symbol i && nat_lt i (f.first_symbol + f.symbol_count))) [
      | inl t ↦ rw t refl
      | inr n ↦ rw n (file_joined fs later i)
    ]

file_step : (gs : List Group) (k i : ℕ) (g : Group) → k < length gs → g ≡ get_or gs k g → file_of (files_of (drop k gs)) i ≡ option_or (file_of g.files i) (file_of (files_of (drop (k + 1) gs)) i)
file_step gs k i g lt e =
    let more : suc k ≡ k + 1 = omega arith in
    let cut : drop k gs ≡ get_or gs k g ∷ drop (k + 1) gs = subst (λ (n : ℕ). drop k gs ≡ get_or gs k g ∷ drop n gs) more (drop-cons gs k g lt) in
    let cut' : drop k gs ≡ g ∷ drop (k + 1) gs = subst (λ (x : Group). drop k gs ≡ x ∷ drop (k + 1) gs) (sym e) cut in
    rw cut' (file_joined g.files (files_of (drop (k + 1) gs)) i)

-- it is in the group at that place
pub file_found : (gs : List Group) (k i : ℕ) (g : Group) (fs : List File) (f : File) → k < length gs → g ≡ get_or gs k g → fs ≡ g.files → file_of fs i ≡ Some f → file_of (files_of (drop k gs)) i ≡ Some f
file_found gs k i g fs f lt e same found =
    let found' : file_of g.files i ≡ Some f = subst (λ (xs : List File). file_of xs i ≡ Some f) same found in
    file_step gs k i g lt e ∙ rw found' refl

-- it is not
pub file_later : (gs : List Group) (k i : ℕ) (g : Group) (fs : List File) → k < length gs → g ≡ get_or gs k g → fs ≡ g.files → file_of fs i ≡ None → file_of (files_of (drop k gs)) i ≡ file_of (files_of (drop (k + 1) gs)) i
file_later gs k i g fs lt e same none =
    let none' : file_of g.files i ≡ None = subst (λ (xs : List File). file_of xs i ≡ None) same none in
    file_step gs k i g lt e ∙ rw none' refl

pub same_bool : (b c : Bool) → bool_eq b c ≡ true → b ≡ c
same_bool true true h = refl
same_bool true false h = cc
same_bool false true h = cc
same_bool false false h = refl

-- the roles that tests name
pub last_role : (r : FileRole) → is_epilogue r ≡ true → r ≡ file_role.Epilogue
last_role file_role.Epilogue h = refl
last_role other h = absurd (cc h)

pub library_role : (r : FileRole) → is_library r ≡ true → r ≡ file_role.Dynamic
library_role file_role.Dynamic h = refl
library_role r h = cc

-- what holds of each symbol holds of those of a file
pub All-own : (P : Symbol → Type 0) (l : Layout) (f : File) → All P l.symbols → All P (own_symbols l f)
All-own P l f h = by_test (writes_slots f.role)
  where
    by_test : (b : Bool) → All P (if b then slice_range l.symbols f.first_symbol (f.first_symbol + f.symbol_count) else [])
    by_test true = All-take P (f.first_symbol + f.symbol_count - f.first_symbol) (drop f.first_symbol l.symbols) (All-drop P f.first_symbol l.symbols h)
    by_test false = All-nil P
