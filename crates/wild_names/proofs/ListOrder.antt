-- What files give, in their order: the first file has what stands in front, and the last one what stands behind all.
use Rattle.wild_names.proofs.Common.{◌≡◌, ℕ, ◌+◌, ◌≤◌, inl, inr, ◌==◌, Bool, true, false, ◌&&◌, List, [], ◌∷◌, ◌++◌, length, filter, None, flat_map, refl, sym, ap, ◌∙◌, arith, subst, cases_Bool, and_parts, ne_eqb, append-nil, flat_map-append, FileRole, File, Group, Symbol, range_of, bool_eq, file_position_fits, later_positions_fit, group_positions_fit, first_misplaced_file, undefined_symbols, is_undefined_entry, is_prelude, is_epilogue, files_of, same_bool}
use Rattle.std.proofs.lemmas.List.{append_assoc}
use Rattle.wild_types.specs.declared.file.FileRole.TheVariants as file_role

-- what files give, and what of it is their own; what stands in front of that of the first file, and behind that of the last one
pub record InOrder (Y : Type 0) : Type 0 where
  pub items : File → List Y
  pub own : File → List Y
  pub front : List Y
  pub behind : List Y
  pub first : (f : File) → is_prelude f.role ≡ true → is_epilogue f.role ≡ false → items f ≡ front ++ own f
  pub middle : (f : File) → is_prelude f.role ≡ false → is_epilogue f.role ≡ false → items f ≡ own f
  pub last : (f : File) → is_prelude f.role ≡ false → is_epilogue f.role ≡ true → items f ≡ own f ++ behind

-- what a place says of a file
record IsPlaced (first last : Bool) (f : File) : Type 0 where
  prelude : is_prelude f.role ≡ first
  epilogue : is_epilogue f.role ≡ last

placed : (first last : Bool) (f : File) → file_position_fits first last f ≡ true → IsPlaced first last f
placed first last f h =
    let a = and_parts (bool_eq (is_prelude f.role) first) (bool_eq (is_epilogue f.role) last) h in
    record { prelude = same_bool (is_prelude f.role) first a.0; epilogue = same_bool (is_epilogue f.role) last a.1 }

-- the first file is not the last one too
first_is_not_last : (r : FileRole) → is_prelude r ≡ true → is_epilogue r ≡ false
first_is_not_last file_role.Prelude h = refl
first_is_not_last r h = cc

-- ---- the last file

-- no symbol of it is one that other modules define
none_pass : (r : FileRole) (ss : List Symbol) → is_epilogue r ≡ true → filter (is_undefined_entry r) ss ≡ []
none_pass file_role.Epilogue [] h = refl
none_pass file_role.Epilogue (s ∷ ss) h = none_pass file_role.Epilogue ss h
none_pass r [] h = refl
none_pass r (s ∷ ss) h = cc

pub last_defines_none : (ss : List Symbol) (f : File) → is_epilogue f.role ≡ true → undefined_symbols ss f ≡ []
last_defines_none ss f h = none_pass f.role (range_of ss f) h

-- ---- files

-- the items of files, the last of which is the last of all
abbrev Ends : {Y : Type 0} → InOrder Y → List File → Type 0
Ends o fs = flat_map o.items fs ≡ flat_map o.own fs ++ o.behind

-- a file in front of others
in_front : {Y : Type 0} (o : InOrder Y) (f : File) (fs : List File) (xs ys : List Y) → o.items f ≡ xs → flat_map o.items fs ≡ ys → flat_map o.items (f ∷ fs) ≡ xs ++ ys
in_front o f fs xs ys a b = rw (a, b) refl

middles : {Y : Type 0} (o : InOrder Y) (fs : List File) → later_positions_fit false fs ≡ true → flat_map o.items fs ≡ flat_map o.own fs
middles o [] h = refl
middles o (f ∷ fs) h =
    let a = and_parts (file_position_fits false (false && length fs == 0) f) (later_positions_fit false fs) h in
    let p = placed false false f a.0 in
    in_front o f fs (o.own f) (flat_map o.own fs) (o.middle f p.prelude p.epilogue) (middles o fs a.1)

later_files_end : {Y : Type 0} (o : InOrder Y) (f : File) (fs : List File) → later_positions_fit true (f ∷ fs) ≡ true → Ends o (f ∷ fs)
later_files_end {Y} o f [] h =
    let a = and_parts (file_position_fits false true f) (later_positions_fit true []) h in
    let p = placed false true f a.0 in
    append-nil (o.items f) ∙ o.last f p.prelude p.epilogue ∙ ap (λ (xs : List Y). xs ++ o.behind) (sym (append-nil (o.own f)))
later_files_end o f (g ∷ gs) h =
    let a = and_parts (file_position_fits false (true && length (g ∷ gs) == 0) f) (later_positions_fit true (g ∷ gs)) h in
    let n = ne_eqb (length (g ∷ gs)) 0 (λ z. omega arith) in
    let p : IsPlaced false false f = placed false false f (rw n at a.0) in
    in_front o f (g ∷ gs) (o.own f) (flat_map o.own (g ∷ gs) ++ o.behind) (o.middle f p.prelude p.epilogue) (later_files_end o g gs a.1)
    ∙ sym (append_assoc (o.own f) (flat_map o.own (g ∷ gs)) o.behind)

-- ---- groups

-- files in front of those of later groups
files_in_front : {Y : Type 0} (o : InOrder Y) (fs rest : List File) → flat_map o.items fs ≡ flat_map o.own fs → Ends o rest → Ends o (fs ++ rest)
files_in_front o fs rest a b =
    let c = flat_map-append o.items fs rest in
    let d = flat_map-append o.own fs rest in
    let e = append_assoc (flat_map o.own fs) (flat_map o.own rest) o.behind in
    rw (c, d, e, a, b) refl

not_last : {Y : Type 0} (o : InOrder Y) (fs : List File) → group_positions_fit false false fs ≡ true → flat_map o.items fs ≡ flat_map o.own fs
not_last o [] t = refl
not_last o (f ∷ fs) t = middles o (f ∷ fs) t

last_alone : {Y : Type 0} (o : InOrder Y) (fs : List File) → group_positions_fit false true fs ≡ true → Ends o fs
last_alone o [] t = cc
last_alone o (f ∷ fs) t = later_files_end o f fs t

-- where the groups are not the first
later_groups : {Y : Type 0} (o : InOrder Y) (i : ℕ) (g : Group) (gs : List Group) → first_misplaced_file false i (g ∷ gs) ≡ None → Ends o (files_of (g ∷ gs))
later_groups o i g [] h =
    elim (cases_Bool (group_positions_fit false true g.files)) [
      | inl t ↦ subst (Ends o) (sym (append-nil g.files)) (last_alone o g.files t)
      | inr n ↦ cc (rw n at h)
    ]
later_groups o i g (x ∷ xs) h =
    let n = ne_eqb (length (x ∷ xs)) 0 (λ z. omega arith) in
    elim (cases_Bool (group_positions_fit false (length (x ∷ xs) == 0) g.files)) [
      | inl t ↦ files_in_front o g.files (files_of (x ∷ xs)) (not_last o g.files (rw n at t)) (later_groups o (i + 1) x xs (rw t at h))
      | inr m ↦ cc (rw m at h)
    ]

-- the rest of the first group, and all later groups
all_but_first : {Y : Type 0} (o : InOrder Y) (i : ℕ) (f : File) (fs : List File) (hs : List Group) → group_positions_fit true (length hs == 0) (f ∷ fs) ≡ true → first_misplaced_file false i hs ≡ None
    → Ends o (fs ++ files_of hs)
all_but_first o i f [] [] t later =
    let a = and_parts (file_position_fits true true f) (later_positions_fit true []) t in
    let p = placed true true f a.0 in
    let n = p.epilogue in
    let m = first_is_not_last f.role p.prelude in
    cc
all_but_first o i f (g ∷ gs) [] t later =
    let a = and_parts (file_position_fits true (true && length (g ∷ gs) == 0) f) (later_positions_fit true (g ∷ gs)) t in
    subst (Ends o) (sym (append-nil (g ∷ gs))) (later_files_end o g gs a.1)
all_but_first o i f fs (x ∷ xs) t later =
    let n = ne_eqb (length (x ∷ xs)) 0 (λ z. omega arith) in
    let placed_there : group_positions_fit true false (f ∷ fs) ≡ true = rw n at t in
    let a = and_parts (file_position_fits true (false && length fs == 0) f) (later_positions_fit false fs) placed_there in
    files_in_front o fs (files_of (x ∷ xs)) (middles o fs a.1) (later_groups o i x xs later)

first_group : {Y : Type 0} (o : InOrder Y) (i : ℕ) (fs : List File) (hs : List Group) → group_positions_fit true (length hs == 0) fs ≡ true → first_misplaced_file false i hs ≡ None
    → flat_map o.items (fs ++ files_of hs) ≡ o.front ++ (flat_map o.own (fs ++ files_of hs) ++ o.behind)
first_group o i [] hs t later = cc
first_group o i (f ∷ fs) hs t later =
    let a = and_parts (file_position_fits true ((length hs == 0) && length fs == 0) f) (later_positions_fit (length hs == 0) fs) t in
    let p = placed true ((length hs == 0) && length fs == 0) f a.0 in
    let b = o.first f p.prelude (first_is_not_last f.role p.prelude) in
    let c = all_but_first o i f fs hs t later in
    let d = append_assoc o.front (o.own f) (flat_map o.own (fs ++ files_of hs) ++ o.behind) in
    let e = append_assoc (o.own f) (flat_map o.own (fs ++ files_of hs)) o.behind in
    rw (b, c, d, e) refl

-- what all files give
pub all_in_order : {Y : Type 0} (o : InOrder Y) (gs : List Group) → 1 ≤ length gs → first_misplaced_file true 0 gs ≡ None → flat_map o.items (files_of gs) ≡ o.front ++ (flat_map o.own (files_of gs) ++ o.behind)
all_in_order o [] none bad = absurd (omega arith)
all_in_order o (g ∷ gs) more well =
    elim (cases_Bool (group_positions_fit true (length gs == 0) g.files)) [
      | inl t ↦ first_group o (0 + 1) g.files gs t (rw t at well)
      | inr n ↦ cc (rw n at well)
    ]
