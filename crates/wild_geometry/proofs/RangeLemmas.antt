-- The ranges of symbols ascend, so each symbol of a range is found in its own file.
use Rattle.wild_geometry.proofs.Common.{◌≡◌, ℕ, zero, suc, ◌+◌, ◌<◌, ◌≤◌, inl, inr, ◌==◌, true, ◌&&◌, List, [], ◌∷◌, ◌++◌, length, get_or, Contains, Option, Some, None, option_and_then, refl, sym, ap, ◌∙◌, arith, subst, nat_le, nat_lt, cases_Bool, and_parts, leb-true, ltb-true, eqb-true, File, Group, Layout, files_of, file_of}
use Rattle.wild_types.specs.Lists.{through}
use Rattle.wild_placement.specs.FrameInputs.{has_symbol}
use Rattle.wild_plan_rules.specs.Indexes.{range_follows, or_place, range_out_of_order}

-- no symbol before number end is in a file's range
abbrev StartsAt : ℕ → File → Type 0
StartsAt end f = (i : ℕ) → has_symbol f i ≡ true → end ≤ i

-- a file's range stands between two numbers
record Followed (end : ℕ) (f : File) (next : ℕ) : Type 0 where
  grows : end ≤ next
  from : StartsAt end f
  to : (i : ℕ) → has_symbol f i ≡ true → i < next

-- and the others' behind it
record Ascends (end : ℕ) (f : File) (rest : ℕ → Type 0) : Type 0 where
  next : ℕ
  here : Followed end f next
  others : rest next

-- the files from there on ascend: each has only symbols behind those of the files before it
abbrev Ascend : ℕ → List File → Type 0
Ascend end [] = Unit {0}
Ascend end (f ∷ fs) = Ascends end f (λ next. Ascend next fs)

in_range : (f : File) (i : ℕ) → has_symbol f i ≡ true → (f.first_symbol ≤ i) × (i < f.first_symbol + f.symbol_count)
in_range f i h =
    let a = and_parts (nat_le f.first_symbol i) (nat_lt i (f.first_symbol + f.symbol_count)) h in
    (leb-true _ _ a.0, ltb-true _ _ a.1)

followed : (end next : ℕ) (f : File) → range_follows end f ≡ Some next → Followed end f next
followed end next f h =
    elim (cases_Bool (f.symbol_count == 0)) [
      | inl t ↦
          (let none = eqb-true f.symbol_count 0 t in
          let same : end ≡ next = is_some (rw t at h) in
          record {
            grows = omega arith;
            from = λ i has. absurd (let r = in_range f i has in let a = r.0 in let b = r.1 in omega arith);
            to = λ i has. absurd (let r = in_range f i has in let a = r.0 in let b = r.1 in omega arith);
          })
      | inr n ↦
          elim (cases_Bool (nat_le end f.first_symbol)) [
            | inl t ↦
                (let low = leb-true _ _ t in
                let same : f.first_symbol + f.symbol_count ≡ next = is_some (rw (n, t) at h) in
                record {
                  grows = omega arith;
                  from = λ i has. (let r = in_range f i has in let a = r.0 in omega arith);
                  to = λ i has. (let r = in_range f i has in let b = r.1 in omega arith);
                })
            | inr u ↦ cc (rw (n, u) at h)
          ]
    ]
  where
    is_some : {a b : ℕ} → Some a ≡ Some b → a ≡ b
    is_some e = cc

-- ---- files, and groups

-- the files ascend up to a place, and those behind it from there on
files_ascend : (end last : ℕ) (fs later : List File) → through range_follows end fs ≡ Some last → Ascend last later → Ascend end (fs ++ later)
files_ascend end last [] later h rest = (let same : end ≡ last = cc in subst (λ (n : ℕ). Ascend n later) (sym same) rest)
files_ascend end last (f ∷ fs) later h rest = by (λ next t. files_ascend next last fs later t rest) (range_follows end f) refl h
  where
    by : ((next : ℕ) → through range_follows next fs ≡ Some last → Ascend next (fs ++ later)) → (o : Option ℕ) → range_follows end f ≡ o → option_and_then (λ n. through range_follows n fs) o ≡ Some last → Ascend end (f ∷ (fs ++ later))
    by others None e t = cc
    by others (Some next) e t = record { next = next; here = followed end next f e; others = others next t }

groups_ascend : (end i : ℕ) (gs : List Group) → range_out_of_order end i gs ≡ None → Ascend end (files_of gs)
groups_ascend end i [] h = tt
groups_ascend end i (g ∷ gs) h = by (λ last t. groups_ascend last (i + 1) gs t) (through range_follows end g.files) refl h
  where
    by : ((last : ℕ) → range_out_of_order last (i + 1) gs ≡ None → Ascend last (files_of gs)) → (o : Option ℕ) → through range_follows end g.files ≡ o → or_place i o (λ next. range_out_of_order next (i + 1) gs) ≡ None → Ascend end (g.files ++ files_of gs)
    by others None e t = cc
    by others (Some last) e t = files_ascend end last g.files (files_of gs) e (others last t)

-- ---- a symbol is found in its own file

-- where files ascend, those behind have symbols from there on
all_behind : (end : ℕ) (fs : List File) → Ascend end fs → (k : ℕ) (d : File) → k < length fs → StartsAt end (get_or fs k d)
all_behind end [] h k d low = absurd (omega arith)
all_behind end (f ∷ fs) h zero d low = h.here.from
all_behind end (f ∷ fs) h (suc k) d low = λ i has. (let rest = all_behind h.next fs h.others k d (omega arith) i has in let grows = h.here.grows in omega arith)

found_at : (end : ℕ) (fs : List File) → Ascend end fs → (k : ℕ) (d : File) (i : ℕ) → k < length fs → has_symbol (get_or fs k d) i ≡ true → file_of fs i ≡ Some (get_or fs k d)
found_at end [] h k d i low has = absurd (omega arith)
found_at end (f ∷ fs) h zero d i low has = rw has refl
found_at end (f ∷ fs) h (suc k) d i low has =
    elim (cases_Bool (nat_le f.first_symbol i && nat_lt i (f.first_symbol + f.symbol_count))) [
      | inl t ↦ absurd (let before = h.here.to i t in let behind = all_behind h.next fs h.others k d (omega arith) i has in omega arith)
      | inr n ↦ rw n (found_at h.next fs h.others k d i (omega arith) has)
    ]

pub own_file_found : (l : Layout) → range_out_of_order 0 0 l.groups ≡ None → (f : File) (i : ℕ) → Contains (files_of l.groups) f → has_symbol f i ≡ true → file_of (files_of l.groups) i ≡ Some f
own_file_found l h f i c has =
    let here : has_symbol (get_or (files_of l.groups) c.0 f) i ≡ true = subst (λ (x : File). has_symbol x i ≡ true) (sym c.2) has in
    found_at 0 (files_of l.groups) (groups_ascend 0 0 l.groups h) c.0 f i c.1 here ∙ ap Some c.2
