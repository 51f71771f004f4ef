-- The strings of the last file stand where the layout's last group tells.
use Rattle.wild_names.proofs.Common.{◌≡◌, ℕ, zero, suc, ◌+◌, ◌-◌, ◌^◌, ◌<◌, inl, inr, true, List, [], ◌∷◌, length, take, get_or, Option, Some, slice_get, flat_map, sym, ◌∙◌, arith, subst, refl, list_any, cases_Bool, eq-eqb, same_Some, HasBytesAt, HasBytesAt-whole, HasBytesAt-front, HasBytesAt-after, Role, File, Group, Layout, file_strings, next_dynstr, string_start, is_epilogue, needs_dynsym, total, length-string_bytes, content, IsLaidOut, table_bytes}
use Rattle.std.proofs.lemmas.Option.{slice_get_cases}
use Rattle.wild_types.specs.declared.part.Role.TheVariants as role
use Rattle.wild_needs.specs.DynamicStrings.{start_among, start_in}
use Rattle.wild_layout.specs.TablePlaces.{bytes_before}
use Rattle.wild_geometry.proofs.LastGroupLemmas.{has_last, has_last-group}
use Rattle.wild_names.proofs.RunLemmas.{strings_of, group_gives, strings_are_short}

-- the last file, whose strings stand from an offset on
pub record LastStands (l : Layout) (whole : List ℕ) (at : ℕ) : Type 0 where
  pub file : File
  pub last : is_epilogue file.role ≡ true
  pub stands : HasBytesAt whole at (strings_of l file)

-- of groups whose bytes stand one behind the other
group_stands : (l : Layout) (r : Role) (whole : List ℕ) (at : ℕ) (gs : List Group) (j : ℕ) (g : Group) → slice_get gs j ≡ Some g → HasBytesAt whole at (flat_map (content l r) gs) → HasBytesAt whole (at + total (λ (x : Group). length (content l r x)) (take j gs)) (content l r g)
group_stands l r whole at [] j g h s = cc
group_stands l r whole at (x ∷ gs) zero g h s =
    let z : at ≡ at + 0 = omega arith in
    let here = HasBytesAt-front whole (content l r x) (flat_map (content l r) gs) at s in
    subst (λ (y : Group). HasBytesAt whole (at + 0) (content l r y)) (same_Some x g h) (subst (λ (n : ℕ). HasBytesAt whole n (content l r x)) z here)
group_stands l r whole at (x ∷ gs) (suc j) g h s =
    let before = λ (y : Group). length (content l r y) in
    let later = HasBytesAt-after whole (content l r x) (flat_map (content l r) gs) at (length (content l r x)) refl s in
    let z : at + before x + total before (take j gs) ≡ at + total before (take (suc j) (x ∷ gs)) = omega arith in
    subst (λ (n : ℕ). HasBytesAt whole n (content l r g)) z (group_stands l r whole (at + before x) gs j g h later)

-- of files whose strings stand one behind the other
file_stands : (l : Layout) (whole : List ℕ) → length whole < 2 ^ 32 → (at : ℕ) (fs : List File) → list_any (λ (f : File). is_epilogue f.role) fs ≡ true → HasBytesAt whole at (flat_map (strings_of l) fs) → LastStands l whole (start_among l at fs)
file_stands l whole small at [] h s = cc
file_stands l whole small at (f ∷ fs) h s =
    let long = length-string_bytes (file_strings l f) in
    let here = HasBytesAt-front whole (strings_of l f) (flat_map (strings_of l) fs) at s in
    let later = HasBytesAt-after whole (strings_of l f) (flat_map (strings_of l) fs) at (length (strings_of l f)) refl s in
    let ends = later.fits in
    let is : at + length (strings_of l f) ≡ next_dynstr l at f = omega arith in
    elim (cases_Bool (is_epilogue f.role)) [
      | inl t ↦ rw t (record { file = f; last = t; stands = here })
      | inr n ↦ rw n (file_stands l whole small (next_dynstr l at f) fs (rw n at h) (subst (λ (n : ℕ). HasBytesAt whole n (flat_map (strings_of l) fs)) is later))
    ]

-- of the last group
in_group : (l : Layout) → IsLaidOut l → needs_dynsym l.kind ≡ true → (i : ℕ) (g : Group) → i + 1 ≡ length l.groups → slice_get l.groups i ≡ Some g → get_or l.groups i g ≡ g → LastStands l (table_bytes l role.Dynstr) (start_among l g.dynstr_start g.files)
in_group l laid needs i g ends found same =
    let whole = table_bytes l role.Dynstr in
    let test : has_last (get_or l.groups i g) ≡ true = has_last-group l.groups laid.files i g (omega arith) ∙ eq-eqb (i + 1) (length l.groups) ends in
    let has : has_last g ≡ true = subst (λ (x : Group). has_last x ≡ true) same test in
    let start = laid.starts i g found needs in
    let z : 0 + bytes_before l role.Dynstr i ≡ g.dynstr_start = omega arith in
    let own = subst (λ (n : ℕ). HasBytesAt whole n (content l role.Dynstr g)) z (group_stands l role.Dynstr whole 0 l.groups i g found (HasBytesAt-whole whole)) in
    file_stands l whole (strings_are_short l laid) g.dynstr_start g.files has (subst (λ (bs : List ℕ). HasBytesAt whole g.dynstr_start bs) (group_gives l g) own)

-- the last file's strings stand where the layout tells
pub last_stands : (l : Layout) → IsLaidOut l → needs_dynsym l.kind ≡ true → LastStands l (table_bytes l role.Dynstr) (string_start l)
unfolding string_start
last_stands l laid needs =
    elim (slice_get_cases l.groups (length l.groups - 1)).1 [
      | inl s ↦
          (let some = laid.some_group in
          let there = in_group l laid needs (length l.groups - 1) s.0 (omega arith) s.2 s.3 in
          subst (λ (o : Option Group). LastStands l (table_bytes l role.Dynstr) (start_in l o)) (sym s.2) there)
      | inr n ↦
          (let some = laid.some_group in
          let past = n.0 in
          absurd (omega arith))
    ]
