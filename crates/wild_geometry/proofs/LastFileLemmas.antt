-- What the groups give to the dynamic section: the entries of all libraries, and then those of the last file.
use Rattle.wild_geometry.proofs.Common.{◌≡◌, ℕ, suc, ◌+◌, ◌<◌, ◌≤◌, inl, inr, true, List, [], ◌∷◌, ◌++◌, length, get_or, flat_map, refl, sym, ◌∙◌, arith, ◌==◌, None, cases_Bool, eq-eqb, ne_eqb, eqb-true, eqb-false, append-nil, append_assoc, Group, Layout, first_misplaced_file, needed_entries, dynamic_bytes, dynamic_room, content, table_bytes, has_last}
use Rattle.wild_types.specs.declared.part.Role.TheVariants as role
use Rattle.wild_table_formats.specs.DynamicSection.{entries_bytes}
use Rattle.wild_table_formats.proofs.DynamicLemmas.{entries_joined}
use Rattle.wild_layout.specs.TablePlaces.{all_needed}
use Rattle.wild_geometry.proofs.ContentLemmas.{dynamic_content}
use Rattle.wild_geometry.proofs.LastGroupLemmas.{has_last-group}

-- groups of which the last alone has the last file
groups_last : (l : Layout) (g : Group) (gs : List Group) → ((k : ℕ) (d : Group) → k < length (g ∷ gs) → has_last (get_or (g ∷ gs) k d) ≡ (k + 1 == length (g ∷ gs)))
    → flat_map (content l role.Dynamic) (g ∷ gs) ≡ entries_bytes (flat_map (needed_entries l) (g ∷ gs)) ++ dynamic_bytes l (dynamic_room l)
groups_last l g [] h =
    let last = h 0 g (omega arith) in
    let needed = needed_entries l g in
    rw (append-nil (content l role.Dynamic g), dynamic_content l g, last, append-nil needed) refl
groups_last l g (x ∷ xs) h =
    let n = ne_eqb (0 + 1) (length (g ∷ x ∷ xs)) (λ z. omega arith) in
    let last = h 0 g (omega arith) ∙ n in
    let needed = needed_entries l g in
    let rest = groups_last l x xs (λ k d m. h (suc k) d (omega arith) ∙ same_end k (length (x ∷ xs))) in
    let later = flat_map (needed_entries l) (x ∷ xs) in
    let front = entries_joined needed later in
    rw (dynamic_content l g, last, rest, append-nil (entries_bytes needed), front) (sym (append_assoc (entries_bytes needed) (entries_bytes later) (dynamic_bytes l (dynamic_room l))))
  where
    same_end : (k n : ℕ) → (suc k + 1 == suc n) ≡ (k + 1 == n)
    same_end k n =
        elim (cases_Bool (k + 1 == n)) [
          | inl t ↦ eq-eqb (suc k + 1) (suc n) (let e = eqb-true (k + 1) n t in omega arith) ∙ sym t
          | inr f ↦ ne_eqb (suc k + 1) (suc n) (λ e. eqb-false (k + 1) n f (omega arith)) ∙ sym f
        ]

pub dynamic_table : (l : Layout) → 1 ≤ length l.groups → first_misplaced_file true 0 l.groups ≡ None → table_bytes l role.Dynamic ≡ entries_bytes (all_needed l) ++ dynamic_bytes l (dynamic_room l)
dynamic_table l some h = by_groups l.groups some (λ k d m. has_last-group l.groups h k d m)
  where
    by_groups : (gs : List Group) → 1 ≤ length gs → ((k : ℕ) (d : Group) → k < length gs → has_last (get_or gs k d) ≡ (k + 1 == length gs)) → flat_map (content l role.Dynamic) gs ≡ entries_bytes (flat_map (needed_entries l) gs) ++ dynamic_bytes l (dynamic_room l)
    by_groups [] some e = absurd (omega arith)
    by_groups (g ∷ gs) some e = groups_last l g gs e
