-- Copies: two of them may not have the same definition. Definitions are marked window by window.
--   copied_of l f                the definitions of the symbols that a file has copied
--   windows_of n xs              the number of windows of 65536 symbols up to the last of these, at least n
--   with_mark start marks d         the marks of the numbers from start on, with that of d added; none if d was marked
--   first_marked l start ..      the first group with a definition that was marked before
--   lies_between a b d           a <= d < b
--   new_between a b earlier xs   no number in that range appears twice in xs, or also among the earlier ones
--   repeated_copy_between l a b ..       the first group that copies a symbol again whose number is in that range
use Rattle.std.specs.Prelude.{ℕ, ◌+◌, ◌-◌, ◌/◌, ◌==◌, Bool, true, false, not, ◌&&◌, nat_le, nat_lt, max, if◌then◌else◌, List, [], ◌∷◌, ◌++◌, length, get_or, slice_set, map, Option, Some, None}
use Rattle.std.specs.List.{fold, list_any}
use Rattle.wild_types.specs.declared.file.File.{File}
use Rattle.wild_types.specs.declared.file.Group.{Group}
use Rattle.wild_types.specs.declared.layout.Layout.{Layout}
use Rattle.wild_types.specs.FileSymbols.{copied_definitions}
use Rattle.wild_types.specs.Lists.{through}
use Rattle.wild_types.specs.Lookups.{canonical}
use Rattle.wild_plan_rules.specs.Indexes.{or_place}

-- the definitions of the symbols that a file has copied
abbrev pub copied_of : Layout → File → List ℕ
copied_of l f = map (canonical l) f.copies

-- the number of windows up to the last of these, at least n
abbrev pub windows_of : ℕ → List ℕ → ℕ
windows_of n xs = fold (λ m d. max m (d / 65536 + 1)) n xs

-- the marks with that of d added; none if d was marked
abbrev pub with_mark : ℕ → List Bool → ℕ → Option (List Bool)
with_mark start marks d =
    if nat_lt d start
    then Some marks
    else if nat_le (length marks) (d - start)
    then Some marks
    else if get_or marks (d - start) false
    then None
    else Some (slice_set marks (d - start) true)

-- the first group with a definition that was marked before
abbrev pub first_marked : Layout → ℕ → List Bool → ℕ → List Group → Option ℕ
first_marked l start marks i [] = None
first_marked l start marks i (g ∷ gs) = or_place i (through (with_mark start) marks (copied_definitions l g)) (λ next. first_marked l start next (i + 1) gs)

-- a <= d < b
abbrev pub lies_between : ℕ → ℕ → ℕ → Bool
lies_between a b d = nat_le a d && nat_lt d b

-- no number from a on and below b appears twice, or also among the earlier ones
abbrev pub new_between : ℕ → ℕ → List ℕ → List ℕ → Bool
new_between a b earlier [] = true
new_between a b earlier (c ∷ cs) = not (lies_between a b c && list_any (λ d. d == c) earlier) && new_between a b (earlier ++ c ∷ []) cs

-- the first group that copies a symbol again whose number is from a on and below b
abbrev pub repeated_copy_between : Layout → ℕ → ℕ → List ℕ → ℕ → List Group → Option ℕ
repeated_copy_between l a b earlier i [] = None
repeated_copy_between l a b earlier i (g ∷ gs) = if new_between a b earlier (copied_definitions l g) then repeated_copy_between l a b (earlier ++ copied_definitions l g) (i + 1) gs else Some i
