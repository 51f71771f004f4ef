-- Where the files' ranges of symbols ascend, a file that has a symbol is the symbol's own.
use Rattle.wild_checker.proofs.Common.{◌≡◌, ℕ, ◌+◌, ◌<◌, ◌≤◌, Bool, true, false, ◌&&◌, List, [], ◌∷◌, ◌++◌, get_or, nat_le, nat_lt, refl, ◌∙◌, arith, Option, Some, None, All, Contains, if◌then◌else◌, ◌==◌, is_some, option_and_then, slice_get, eqb-true, leb-true, and_parts, All-nil, All-cons, All-contains, listed_at, File, Group, Layout}
use Rattle.std.proofs.lemmas.Bool.{ltb-true}
use Rattle.std.proofs.lemmas.Bool.Decides.{nat_tests}
use Rattle.std.proofs.lemmas.List.Elements.{All-weaker}
use Rattle.wild_words.proofs.ListLemmas.{All-from_flat_map}
use Rattle.wild_types.specs.Lookups.{files_of, file_of}
use Rattle.wild_checker.specs.declared.loaded.FileSite.{FileSite}
use Rattle.wild_checker.specs.Files.{file_at}
use Rattle.wild_checker.specs.Symbols.{end_of_file, end_of_files, end_of_groups, are_ordered}

-- ---- one file

-- symbol i is in the file's range
abbrev IsIn : File → ℕ → Type 0
IsIn f i = (f.first_symbol ≤ i) × (i < f.first_symbol + f.symbol_count)

record EndsAt (n m : ℕ) (f : File) : Type 0 where
  more : n ≤ m
  within : (i : ℕ) → IsIn f i → (n ≤ i) × (i < m)

ends_at : (n m : ℕ) (f : File) → end_of_file n f ≡ Some m → EndsAt n m f
ends_at n m f h = by_count (f.symbol_count == 0) refl h
  where
    by_order : (b : Bool) → nat_le n f.first_symbol ≡ b → (if b then Some (f.first_symbol + f.symbol_count) else None) ≡ Some m → EndsAt n m f
    by_order false e h = cc
    by_order true e h =
        let low = leb-true n f.first_symbol e in
        let end : f.first_symbol + f.symbol_count ≡ m = cc in
        record { more = omega (arith, low, end); within = λ i is. (let a = is.0 in let b = is.1 in (omega (arith, low, a), omega (arith, end, b))) }

    by_count : (b : Bool) → (f.symbol_count == 0) ≡ b → (if b then Some n else (if nat_le n f.first_symbol then Some (f.first_symbol + f.symbol_count) else None)) ≡ Some m → EndsAt n m f
    by_count false e h = by_order (nat_le n f.first_symbol) refl h
    by_count true e h =
        let none = eqb-true f.symbol_count 0 e in
        let same : n ≡ m = cc in
        record { more = omega (arith, same); within = λ i is. (let a = is.0 in let b = is.1 in absurd (omega (arith, none, a, b))) }

-- ---- files in order

record StartsWith (n e : ℕ) (f : File) (fs : List File) : Type 0 where
  middle : ℕ
  first : end_of_file n f ≡ Some middle
  rest : end_of_files middle fs ≡ Some e

starts_with : (n e : ℕ) (f : File) (fs : List File) → end_of_files n (f ∷ fs) ≡ Some e → StartsWith n e f fs
starts_with n e f fs h = by (end_of_file n f) refl h
  where
    by : (o : Option ℕ) → end_of_file n f ≡ o → option_and_then (λ m. end_of_files m fs) o ≡ Some e → StartsWith n e f fs
    by None is h = cc
    by (Some m) is h = record { middle = m; first = is; rest = h }

-- no range has a symbol before the number from which they ascend
all_after : (fs : List File) (n e : ℕ) → end_of_files n fs ≡ Some e → All (λ (f : File). (i : ℕ) → IsIn f i → n ≤ i) fs
all_after [] n e h = All-nil (λ (f : File). (i : ℕ) → IsIn f i → n ≤ i)
all_after (f ∷ fs) n e h =
    let s = starts_with n e f fs h in
    let first = ends_at n s.middle f s.first in
    let more = first.more in
    All-cons (λ (f : File). (i : ℕ) → IsIn f i → n ≤ i) f fs (λ i is. (first.within i is).0)
    (All-weaker (λ (f : File). (i : ℕ) → IsIn f i → s.middle ≤ i) (λ (f : File). (i : ℕ) → IsIn f i → n ≤ i) (λ f after i is. (let a = after i is in omega (arith, a, more))) fs (all_after fs s.middle e s.rest))

-- each is the first whose range has its symbols
abbrev IsFirst : List File → File → Type 0
IsFirst fs f = (i : ℕ) → IsIn f i → file_of fs i ≡ Some f

all_first : (fs : List File) (n e : ℕ) → end_of_files n fs ≡ Some e → All (IsFirst fs) fs
all_first [] n e h = All-nil (IsFirst [])
all_first (f ∷ fs) n e h = All-cons (IsFirst (f ∷ fs)) f fs here (λ k d l. there (get_or fs k d) (all_after fs s.middle e s.rest k d l) (all_first fs s.middle e s.rest k d l))
  where
    s : StartsWith n e f fs
    s = starts_with n e f fs h

    here : IsFirst (f ∷ fs) f
    here i is =
        let low = is.0 in
        let high = is.1 in
        let a : nat_le f.first_symbol i ≡ true = grind (arith, nat_tests, low) in
        let b : nat_lt i (f.first_symbol + f.symbol_count) ≡ true = grind (arith, nat_tests, high) in
        rw (a, b) refl

    there : (g : File) → ((i : ℕ) → IsIn g i → s.middle ≤ i) → IsFirst fs g → IsFirst (f ∷ fs) g
    there g after first i is = by (nat_le f.first_symbol i && nat_lt i (f.first_symbol + f.symbol_count)) refl
      where
        by : (b : Bool) → (nat_le f.first_symbol i && nat_lt i (f.first_symbol + f.symbol_count)) ≡ b → (if b then Some f else file_of fs i) ≡ Some g
        by false e = first i is
        by true e =
            let both = and_parts (nat_le f.first_symbol i) (nat_lt i (f.first_symbol + f.symbol_count)) e in
            let before = ((ends_at n s.middle f s.first).within i (leb-true f.first_symbol i both.0, ltb-true i (f.first_symbol + f.symbol_count) both.1)).1 in
            let behind = after i is in
            absurd (omega (arith, before, behind))

-- ---- files of groups

end_of_both : (fs gs : List File) (n : ℕ) → end_of_files n (fs ++ gs) ≡ option_and_then (λ m. end_of_files m gs) (end_of_files n fs)
end_of_both [] gs n = refl
end_of_both (f ∷ fs) gs n = by (end_of_both fs gs) (end_of_file n f)
  where
    by : ((m : ℕ) → end_of_files m (fs ++ gs) ≡ option_and_then (λ m. end_of_files m gs) (end_of_files m fs)) → (o : Option ℕ) → option_and_then (λ m. end_of_files m (fs ++ gs)) o ≡ option_and_then (λ m. end_of_files m gs) (option_and_then (λ m. end_of_files m fs) o)
    by rest None = refl
    by rest (Some m) = rest m

end_of_all : (gs : List Group) (n : ℕ) → end_of_files n (files_of gs) ≡ end_of_groups n gs
end_of_all [] n = refl
end_of_all (g ∷ gs) n = end_of_both g.files (files_of gs) n ∙ by (end_of_all gs) (end_of_files n g.files)
  where
    by : ((m : ℕ) → end_of_files m (files_of gs) ≡ end_of_groups m gs) → (o : Option ℕ) → option_and_then (λ m. end_of_files m (files_of gs)) o ≡ option_and_then (λ m. end_of_groups m gs) o
    by rest None = refl
    by rest (Some m) = rest m

-- the file of the layout that has the symbol
pub own_file : (l : Layout) (g : Group) (f : File) (i : ℕ) → are_ordered l ≡ true → Contains l.groups g → Contains g.files f → (nat_le f.first_symbol i && nat_lt i (f.first_symbol + f.symbol_count)) ≡ true → file_of (files_of l.groups) i ≡ Some f
own_file l g f i ordered in-groups in-files h = by (end_of_groups 0 l.groups) refl ordered
  where
    by : (o : Option ℕ) → end_of_groups 0 l.groups ≡ o → is_some o ≡ true → file_of (files_of l.groups) i ≡ Some f
    by None is some = cc
    by (Some e) is some =
        let each = all_first (files_of l.groups) 0 e (end_of_all l.groups 0 ∙ is) in
        let of-groups = All-from_flat_map (IsFirst (files_of l.groups)) (λ (g : Group). g.files) l.groups each in
        let of-files = All-contains (λ (g : Group). All (IsFirst (files_of l.groups)) g.files) l.groups g of-groups in-groups in
        let both = and_parts (nat_le f.first_symbol i) (nat_lt i (f.first_symbol + f.symbol_count)) h in
        All-contains (IsFirst (files_of l.groups)) g.files f of-files in-files i (leb-true f.first_symbol i both.0, ltb-true i (f.first_symbol + f.symbol_count) both.1)

-- ---- the file at a position

pub record IsListed (l : Layout) (f : File) : Type 0 where
  pub group : Group
  pub grouped : Contains l.groups group
  pub filed : Contains group.files f

pub listed_by : (l : Layout) (site : Option FileSite) (f : File) → file_at l site ≡ Some f → IsListed l f
listed_by l None f h = cc
listed_by l (Some site) f h = by (slice_get l.groups site.group) refl h
  where
    by : (o : Option Group) → slice_get l.groups site.group ≡ o → option_and_then (λ (g : Group). slice_get g.files site.file) o ≡ Some f → IsListed l f
    by None e h = cc
    by (Some g) e h = record { group = g; grouped = listed_at l.groups site.group g e; filed = listed_at g.files site.file f h }
