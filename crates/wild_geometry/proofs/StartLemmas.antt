-- The strings of a group begin behind those of the groups before it, in each of the two tables of strings, and so do its frames.
use Rattle.wild_geometry.proofs.Common.{◌≡◌, ℕ, zero, suc, ◌+◌, ◌<◌, inl, inr, ◌==◌, true, false, List, [], ◌∷◌, length, get_or, take, Option, Some, None, slice_get, refl, sym, ap, ◌∙◌, arith, subst, cases_Bool, and_parts, eqb-true, ne_eqb, get_or_from_slice_get, slice_get_within, ItemAt-within, Part, Role, Group, Layout, given, total, group_share, role_place, has_role, part_with, total-prefix, content, bytes_before}
use Rattle.std.specs.List.{position_from}
use Rattle.wild_types.specs.declared.part.Role.TheVariants as role
use Rattle.wild_plan_rules.specs.declared.group_starts.Starts.{Starts}
use Rattle.wild_plan_rules.specs.GroupStarts.{group_share_at, place_with, start_places, no_starts, starts_after_group, begins_at, start_astray}
use Rattle.wild_geometry.proofs.ContentLemmas.{length-content}
use Rattle.wild_geometry.proofs.PlacedSectionLemmas.{AllClausesHold}
use Rattle.wild_geometry.proofs.RoleLemmas.{nothing_shared}
use Rattle.wild_geometry.proofs.ShareLemmas.{total_same, content_is_given}
use Rattle.wild_geometry.proofs.TableLemmas.{same_role}

-- ---- what the clause says

-- where the strings of a group begin: behind those of these groups
record Follows (places : Starts (Option ℕ)) (from : Starts ℕ) (gs : List Group) (g : Group) : Type 0 where
  dynstr : g.dynstr_start ≡ from.dynstr + total (group_share_at places.dynstr) gs
  strtab : g.strtab_start ≡ from.strtab + total (group_share_at places.strtab) gs
  frames : g.eh_frame_start ≡ from.frames + total (group_share_at places.frames) gs

begins : (places : Starts (Option ℕ)) (from : Starts ℕ) (g : Group) → begins_at from g ≡ true → Follows places from [] g
begins places from g h =
    let a = and_parts (g.dynstr_start == from.dynstr) _ h in
    let b = and_parts (g.strtab_start == from.strtab) _ a.1 in
    let c = and_parts (g.eh_frame_start == from.frames) _ b.1 in
    let d = eqb-true _ _ a.0 in
    let e = eqb-true _ _ b.0 in
    let f = eqb-true _ _ c.0 in
    record { dynstr = omega arith; strtab = omega arith; frames = omega arith }

behind_one : (places : Starts (Option ℕ)) (from : Starts ℕ) (g : Group) (gs : List Group) (x : Group) → Follows places (starts_after_group places from g) gs x → Follows places from (g ∷ gs) x
behind_one places from g gs x f =
    let a = f.dynstr in
    let b = f.strtab in
    let c = f.frames in
    record { dynstr = omega arith; strtab = omega arith; frames = omega arith }

starts_follow : (places : Starts (Option ℕ)) (from : Starts ℕ) (i : ℕ) (gs : List Group) → start_astray places from i gs ≡ None → (j : ℕ) (g : Group) → j < length gs → Follows places from (take j gs) (get_or gs j g)
starts_follow places from i [] h j d l = absurd (omega arith)
starts_follow places from i (g ∷ gs) h zero d l =
    elim (cases_Bool (begins_at from g)) [
      | inl t ↦ begins places from g t
      | inr f ↦ cc (rw f at h)
    ]
starts_follow places from i (g ∷ gs) h (suc j) d l =
    elim (cases_Bool (begins_at from g)) [
      | inl t ↦ behind_one places from g (take j gs) (get_or gs j d) (starts_follow places (starts_after_group places from g) (i + 1) gs (rw t at h) j d (omega arith))
      | inr f ↦ cc (rw f at h)
    ]

-- ---- the part of the strings

-- number n, counted from i on, is the place of a part of that role
record IsPlace (r : Role) (i n : ℕ) (ps : List Part) : Type 0 where
  place : ℕ
  is : n ≡ i + place
  within : place < length ps
  has : (p : Part) → (get_or ps place p).role ≡ r

place_among : (r : Role) (i : ℕ) (ps : List Part) (n : ℕ) → position_from (has_role r) i ps ≡ Some n → IsPlace r i n ps
place_among r i [] n h = cc
place_among r i (p ∷ ps) n h =
    elim (cases_Bool (has_role r p)) [
      | inl t ↦
          (let e : Some i ≡ Some n = rw t at h in
          let same : i ≡ n = cc in
          record { place = 0; is = omega arith; within = omega arith; has = λ d. same_role p.role r (eqb-true _ _ t) })
      | inr f ↦
          (let rest = place_among r (i + 1) ps n (rw f at h) in
          let low = rest.within in
          let at = rest.is in
          record { place = suc rest.place; is = omega arith; within = omega arith; has = rest.has })
    ]

none_with : (r : Role) (i : ℕ) (ps : List Part) → position_from (has_role r) i ps ≡ None → part_with r ps ≡ None
none_with r i [] h = refl
none_with r i (p ∷ ps) h =
    elim (cases_Bool (has_role r p)) [
      | inl t ↦ cc (rw t at h)
      | inr f ↦ rw f (none_with r (i + 1) ps (rw f at h))
    ]

-- a part of that role is neither raw nor the dynamic section
record IsTable (r : Role) : Type 0 where
  raw : role_place r ≡ 0 → ⊥
  dynamic : role_place r ≡ role_place role.Dynamic → ⊥

-- each group is given of the part what it gives to it
given_is_content : (l : Layout) → AllClausesHold l → (r : Role) → IsTable r → (place : Option ℕ) → place_with r l.parts ≡ place → (j : ℕ) (g : Group) → j < length l.groups → group_share_at place (get_or l.groups j g) ≡ length (content l r (get_or l.groups j g))
given_is_content l h r table None is j g n =
    let shared = nothing_shared l h r (none_with r 0 l.parts is) in
    let one = total-prefix (group_share l r) l.groups j g n in
    let long = length-content l r (get_or l.groups j g) table.dynamic in
    omega arith
given_is_content l h r table (Some i) is j g n =
    let found = place_among r 0 l.parts i is in
    let at = found.is in
    let place : found.place ≡ i = omega arith in
    let low : i < length l.parts = (let w = found.within in omega arith) in
    let p = (ItemAt-within l.parts i low).item in
    let has : (get_or l.parts i p).role ≡ r = subst (λ (k : ℕ). (get_or l.parts k p).role ≡ r) place (found.has p) in
    let raw : has_role role.Raw (get_or l.parts i p) ≡ false = ne_eqb (role_place (get_or l.parts i p).role) 0 (λ e. table.raw (sym (ap role_place has) ∙ e)) in
    sym (subst (λ (s : Role). length (content l s (get_or l.groups j g)) ≡ given i (get_or l.groups j g)) has (content_is_given l h.sizes.parts h.shares h.roles.again h.needed i p low raw j g n))

-- the groups before group j are given what they give
shares_before : (l : Layout) → AllClausesHold l → (r : Role) → IsTable r → (j : ℕ) → total (group_share_at (place_with r l.parts)) (take j l.groups) ≡ bytes_before l r j
shares_before l h r table j = total_same (group_share_at (place_with r l.parts)) (λ (x : Group). length (content l r x)) l.groups j (λ k d m. given_is_content l h r table (place_with r l.parts) refl k d m)

-- ---- the whole

group_follows : (l : Layout) → AllClausesHold l → (j : ℕ) (g : Group) → slice_get l.groups j ≡ Some g → Follows (start_places l.parts) no_starts (take j l.groups) g
group_follows l h j g is = subst (Follows (start_places l.parts) no_starts (take j l.groups)) (get_or_from_slice_get l.groups j g g is) (starts_follow (start_places l.parts) no_starts 0 l.groups h.starts j g (slice_get_within l.groups j g is))

pub starts_from_clauses : (l : Layout) → AllClausesHold l → (j : ℕ) (g : Group) → slice_get l.groups j ≡ Some g → g.dynstr_start ≡ bytes_before l role.Dynstr j
starts_from_clauses l h j g is =
    let start = (group_follows l h j g is).dynstr in
    let before = shares_before l h role.Dynstr (record { raw = λ e. absurd (omega arith); dynamic = λ e. absurd (omega arith) }) j in
    omega arith

pub table_starts_from_clauses : (l : Layout) → AllClausesHold l → (j : ℕ) (g : Group) → slice_get l.groups j ≡ Some g → g.strtab_start ≡ bytes_before l role.Strtab j
table_starts_from_clauses l h j g is =
    let start = (group_follows l h j g is).strtab in
    let before = shares_before l h role.Strtab (record { raw = λ e. absurd (omega arith); dynamic = λ e. absurd (omega arith) }) j in
    omega arith

-- and its frames
pub frame_starts_from_clauses : (l : Layout) → AllClausesHold l → (j : ℕ) (g : Group) → slice_get l.groups j ≡ Some g → g.eh_frame_start ≡ bytes_before l role.EhFrame j
frame_starts_from_clauses l h j g is =
    let start = (group_follows l h j g is).frames in
    let before = shares_before l h role.EhFrame (record { raw = λ e. absurd (omega arith); dynamic = λ e. absurd (omega arith) }) j in
    omega arith
