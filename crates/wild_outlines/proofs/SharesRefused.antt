-- The faults of shares after a change that keeps the length of its section: only the changed group can have some.
use Rattle.wild_outlines.proofs.Common.{◌≡◌, ℕ, ◌+◌, false, List, [], Some, sym, ap, subst, ◌∙◌, arith, inl, inr, ◌*◌, slice_get, cases_Bool, InputSection, Group, Part, Role, Layout, given, Change, changed_group, changed_layout, changed_section, flat_map_from, part_errors, written_section}
use Rattle.wild_types.specs.declared.fault.Error.{Error}
use Rattle.wild_types.specs.declared.part.Role.TheVariants as role
use Rattle.wild_needs.specs.Needs.{needs_of, needs_by, needs}
use Rattle.wild_layout.specs.Faults.{share_errors, has_spare}
use Rattle.wild_outlines.specs.RefusalLaws.{has_counted_entries, changed_share, changed_shares}
use Rattle.wild_outlines.proofs.ChangedItems.{slice_get-with_item}
use Rattle.wild_outlines.proofs.ChangedPieces.{Middle-from_item, middle_alone, none_from, flat_map_from-at}
use Rattle.wild_outlines.proofs.ClausesChanged.{Changed}
use Rattle.wild_outlines.proofs.SharesSections.{counted_for, entry_size}
use Rattle.wild_outlines.proofs.SharesLemmas.{needs_of-same, needs_of-changed, has_spare-changed}

-- the fault of the share that a group has of a part
abbrev share_fault : Layout → ℕ → Part → ℕ → Group → List Error
share_fault l i p j g = share_errors (has_spare p g) i j (given i g) (needs_of l p.role i g)

needs_are : (l : Layout) (i j : ℕ) (p : Part) (g : Group) → slice_get l.parts i ≡ Some p → slice_get l.groups j ≡ Some g → needs l i j ≡ needs_of l p.role i g
unfolding needs
needs_are l i j p g part group = ap (λ o. needs_by l i o (slice_get l.groups j)) part ∙ ap (needs_by l i (Some p)) group

part_errors_are : (l : Layout) (i : ℕ) (p : Part) → slice_get l.parts i ≡ Some p → part_errors l i p ≡ flat_map_from (share_fault l i p) 0 l.groups
part_errors_are l i p part =
    flat_map_from-at (λ j (g : Group). share_errors (has_spare p g) i j (given i g) (needs l i j)) (share_fault l i p) 0 l.groups
    (λ j k g is at. ap (share_errors (has_spare p g) i j (given i g)) (needs_are l i j p g part (subst (λ (n : ℕ). slice_get l.groups n ≡ Some g) (from_zero j k is) at)))
  where
    from_zero : (j k : ℕ) → j ≡ 0 + k → k ≡ j
    from_zero j k e = omega (arith, e)

-- an entry of other parts has no size
no_entries : (r : Role) (a b : ℕ) → has_counted_entries r ≡ false → entry_size r * a ≡ entry_size r * b
no_entries role.RelaDynRelative a b h = cc
no_entries role.RelaDynGeneral a b h = cc
no_entries role.RelrDyn a b h = cc
no_entries other a b h = omega arith

module _ (l : Layout) (c : Change) (s : InputSection) (k : Changed l c s) where
  -- a part without a fault has that of the changed group, if any
  part_faults : (i : ℕ) (q : Part) → slice_get l.parts i ≡ Some q → part_errors l i q ≡ []
      → (share_fault l i q c.group k.found.group ≡ []) × (part_errors (changed_layout l c) i q ≡ share_fault (changed_layout l c) i q c.group (changed_group c k.found.group))
  part_faults i q part none =
      let same : (j : ℕ) (h : Group) → share_fault (changed_layout l c) i q j h ≡ share_fault l i q j h = λ j h. ap (share_errors (has_spare q h) i j (given i h)) (needs_of-same l c s k.found k.long k.same q.role i h) in
      let alone = middle_alone (Middle-from_item (share_fault l i q) (share_fault (changed_layout l c) i q) (changed_group c) same c.group l.groups k.found.group k.found.in_layout 0 c.group (omega arith)) (sym (part_errors_are l i q part) ∙ none) in
      (alone.0, part_errors_are (changed_layout l c) i q part ∙ alone.1)

  -- it has none in a part whose share does not depend on dynamic relocations
  other_share : (i : ℕ) (q : Part) → has_counted_entries q.role ≡ false → share_fault (changed_layout l c) i q c.group (changed_group c k.found.group) ≡ share_fault l i q c.group k.found.group
  other_share i q h =
      let spare = has_spare-changed l c s k.found k.long k.same q in
      let needed = needs_of-changed l c s k.found k.long k.same q.role i (no_entries q.role (counted_for q.role l (written_section l (changed_section c s))) (counted_for q.role l (written_section l s)) h) in
      ap (λ b. share_errors b i c.group (given i k.found.group) (needs_of (changed_layout l c) q.role i (changed_group c k.found.group))) spare
      ∙ ap (share_errors (has_spare q k.found.group) i c.group (given i k.found.group)) needed

  changed_at : slice_get (changed_layout l c).groups c.group ≡ Some (changed_group c k.found.group)
  changed_at = slice_get-with_item (changed_group c) c.group l.groups k.found.group k.found.in_layout

  part_refused : (i : ℕ) (q : Part) → slice_get l.parts i ≡ Some q → part_errors l i q ≡ [] → part_errors (changed_layout l c) i q ≡ changed_share (changed_layout l c) c.group (changed_group c k.found.group) i q
  part_refused i q part none =
      let faults = part_faults i q part none in
      elim (cases_Bool (has_counted_entries q.role)) [
        | inl t ↦ rw t (faults.1 ∙ ap (share_errors (has_spare q (changed_group c k.found.group)) i c.group (given i k.found.group)) (sym (needs_are (changed_layout l c) i c.group q (changed_group c k.found.group) part changed_at)))
        | inr f ↦ rw f (faults.1 ∙ (other_share i q f ∙ faults.0))
      ]

  pub shares-refused : flat_map_from (part_errors l) 0 l.parts ≡ [] → flat_map_from (part_errors (changed_layout l c)) 0 (changed_layout l c).parts ≡ changed_shares (changed_layout l c) c.group (changed_group c k.found.group)
  shares-refused none =
      flat_map_from-at (part_errors (changed_layout l c)) (changed_share (changed_layout l c) c.group (changed_group c k.found.group)) 0 l.parts
      (λ i j q is at. part_refused i q (subst (λ (n : ℕ). slice_get l.parts n ≡ Some q) (from_zero i j is) at) (none_from (part_errors l) 0 l.parts none i j q is at))
    where
      from_zero : (j k : ℕ) → j ≡ 0 + k → k ≡ j
      from_zero j k e = omega (arith, e)
