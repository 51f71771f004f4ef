-- The parts of roles hold what the groups give to them.
use Rattle.wild_geometry.proofs.Common.{◌≡◌, ℕ, zero, suc, ◌+◌, ◌-◌, ◌*◌, ◌<◌, ◌≤◌, inl, inr, ◌==◌, ◌||◌, Bool, true, false, List, [], ◌∷◌, length, get_or, take, find, Contains, Some, None, flat_map, refl, sym, ap, ◌∙◌, arith, subst, list_any, cases_Bool, eqb-true, eqb-false, eq-eqb, same_Some, Contains-append_left, Piece, ItemAt-within, holds_at, Part, Role, Group, Layout, given, has_last, group_share, total, is_header_only_at, dynamic_count, dynamic_entry_size, dynamic_bytes, role_place, has_role, part_with, total-prefix, dynamic_room, content, table_bytes, bytes_before, shares_before, table_piece, table_pieces, owned_pieces, group_pieces, pieces}
use Rattle.std.proofs.lemmas.List.{nil_from_length}
use Rattle.wild_types.specs.declared.part.Role.TheVariants as role
use Rattle.wild_plan_rules.specs.Contents.{has_share_for_each_part}
use Rattle.wild_needs.specs.Needs.{total_share}
use Rattle.wild_plan_rules.specs.Counts.{role_has_needed_part}
use Rattle.wild_types.specs.Shares.{part_of_role, part_of, given_by, share_of}
use Rattle.wild_table_formats.proofs.DynamicLemmas.{lengths}
use Rattle.wild_types.proofs.PartLemmas.{not_raw}
use Rattle.wild_layout.specs.Content.{last_file_room}
use Rattle.wild_layout.specs.TablePlaces.{TableLies, HasTable}
use Rattle.wild_geometry.proofs.PlacedSectionLemmas.{AllClausesHold}
use Rattle.wild_geometry.proofs.InterleaveLemmas.{Contains-flat_map_from}
use Rattle.wild_geometry.proofs.OrderLemmas.{Takes, EndsBy-image}
use Rattle.wild_geometry.proofs.ShareLemmas.{total_same, content_is_given, size_from_shares}
use Rattle.wild_geometry.proofs.ContentLemmas.{length_joined, length-content, length-dynamic_content, dynamic_share}
use Rattle.wild_geometry.proofs.LastGroupLemmas.{some_if, group_last}
use Rattle.wild_geometry.proofs.TableLemmas.{role_at, role_listed, same_role}
use Rattle.wild_geometry.proofs.TablePieces.{not_raw_takes, Contains-written}

-- ---- the first item that passes a test

pub record FoundAt {X : Type 0} (t : X → Bool) (xs : List X) (x : X) : Type 0 where
  pub place : ℕ
  pub within : place < length xs
  pub is : (d : X) → get_or xs place d ≡ x
  pub passes : t x ≡ true

pub FoundAt-from_find : {X : Type 0} (t : X → Bool) (xs : List X) (x : X) → find t xs ≡ Some x → FoundAt t xs x
FoundAt-from_find t [] x h = cc
FoundAt-from_find t (y ∷ ys) x h =
    elim (cases_Bool (t y)) [
      | inl e ↦ subst (FoundAt t (y ∷ ys)) (same_Some y x (rw e at h)) (record { place = 0; within = omega arith; is = λ d. refl; passes = e })
      | inr f ↦
          (let rest = FoundAt-from_find t ys x (rw f at h) in
          let low = rest.within in
          record { place = suc rest.place; within = omega arith; is = rest.is; passes = rest.passes })
    ]

pub none_passes : {X : Type 0} (t : X → Bool) (xs : List X) → find t xs ≡ None → list_any t xs ≡ false
none_passes t [] h = refl
none_passes t (x ∷ xs) h =
    elim (cases_Bool (t x)) [
      | inl e ↦ cc (rw e at h)
      | inr f ↦ rw f (none_passes t xs (rw f at h))
    ]

-- ---- sums

take_all : {X : Type 0} (xs : List X) → take (length xs) xs ≡ xs
take_all [] = refl
take_all (x ∷ xs) = ap (λ ys. x ∷ ys) (take_all xs)

-- where nothing has to be written, nothing is given
plain_nothing : (l : Layout) (r : Role) → (role_place r ≡ role_place role.Dynamic → ⊥) → (gs : List Group) → total (group_share l r) gs ≡ 0 → flat_map (content l r) gs ≡ []
plain_nothing l r n [] h = refl
plain_nothing l r n (g ∷ gs) h =
    let a = length-content l r g n in
    let none = nil_from_length (content l r g) (omega arith) in
    rw none (plain_nothing l r n gs (omega arith))

-- ---- the part of a role

pub given_there : (l : Layout) (r : Role) → role_has_needed_part l r ≡ true → list_any (has_role r) l.parts ≡ false → total_share l r ≡ 0
given_there l r h none = eqb-true _ _ (behind (list_any (has_role r) l.parts) (total_share l r == 0) h none)
  where
    behind : (b c : Bool) → (b || c) ≡ true → b ≡ false → c ≡ true
    behind true c h e = cc
    behind false c h e = h

-- no group has a share of a part that is not there
no_part : (r : Role) (i : ℕ) (ps : List Part) → list_any (has_role r) ps ≡ false → part_of_role r i ps ≡ i + length ps
no_part r i [] h = omega arith
no_part r i (p ∷ ps) h =
    elim (cases_Bool (has_role r p)) [
      | inl t ↦ cc (rw t at h)
      | inr f ↦ (let rest = no_part r (i + 1) ps (rw f at h) in rw f (omega arith))
    ]

past_end : (xs : List ℕ) (k : ℕ) → length xs ≤ k → get_or xs k 0 ≡ 0
past_end [] k l = refl
past_end (x ∷ xs) zero l = absurd (omega arith)
past_end (x ∷ xs) (suc k) l = past_end xs k (omega arith)

no_room : (l : Layout) → AllClausesHold l → list_any (has_role role.Dynamic) l.parts ≡ false → dynamic_room l ≡ 0
no_room l h none =
    let place = no_part role.Dynamic 0 l.parts none in
    let some = h.counts.some_group in
    let item = ItemAt-within l.groups (length l.groups - 1) (omega arith) in
    let each = holds_at (λ g. has_share_for_each_part (length l.parts) g ≡ true) l.groups (length l.groups - 1) item.item item.is h.shares.lengths in
    let long = eqb-true _ _ each in
    let share : share_of l (length l.groups - 1) role.Dynamic ≡ 0 = ap (given_by (part_of l role.Dynamic)) item.is ∙ past_end item.item.part_sizes (part_of l role.Dynamic) (omega arith) in
    ap (last_file_room l) item.is ∙ (omega arith)

-- where the last group has nothing to write, there are no entries
pub no_count : (l : Layout) → AllClausesHold l → total_share l role.Dynamic ≡ 0 → dynamic_count l ≡ 0
no_count l h shared =
    let some = h.counts.some_group in
    let item = ItemAt-within l.groups (length l.groups - 1) (omega arith) in
    let last : length l.groups - 1 + 1 ≡ length l.groups = omega arith in
    let share = dynamic_share l (get_or l.groups (length l.groups - 1) item.item) in
    let own = group_last (dynamic_entry_size * dynamic_count l) true 0 l.groups h.shares.files (length l.groups - 1) item.item (omega arith) in
    let own' = rw (eq-eqb _ _ last) at own in
    let whole = total-prefix (group_share l role.Dynamic) l.groups (length l.groups - 1) item.item (omega arith) in
    omega arith

-- and no group gives anything to the dynamic section
dynamic_nothing : (l : Layout) → AllClausesHold l → list_any (has_role role.Dynamic) l.parts ≡ false → total_share l role.Dynamic ≡ 0 → table_bytes l role.Dynamic ≡ []
dynamic_nothing l h none shared =
    let room = no_room l h none in
    let count = no_count l h shared in
    let long = lengths l (dynamic_room l) (omega arith) in
    by l.groups (omega arith) shared
  where
    zero_if : (b : Bool) (n : ℕ) → n ≡ 0 → some_if n b ≡ 0
    zero_if true n e = e
    zero_if false n e = refl

    by : (gs : List Group) → length (dynamic_bytes l (dynamic_room l)) ≡ 0 → total (group_share l role.Dynamic) gs ≡ 0 → flat_map (content l role.Dynamic) gs ≡ []
    by [] e s = refl
    by (g ∷ gs) e s =
        let a = length-dynamic_content l g in
        let b = dynamic_share l g in
        let c = zero_if (has_last g) (length (dynamic_bytes l (dynamic_room l))) e in
        let n = nil_from_length (content l role.Dynamic g) (omega arith) in
        rw n (by gs e (omega arith))

-- where the part of a role is not there, nothing has to be written in one
pub nothing_shared : (l : Layout) → AllClausesHold l → (r : Role) → part_with r l.parts ≡ None → total_share l r ≡ 0
nothing_shared l h r none =
    let P : Role → Type 0 = λ s. role_has_needed_part l s ≡ true in
    let asked = subst P (role_at r) (h.roles.given (role_place r) role.Raw (role_listed r)) in
    given_there l r asked (none_passes (has_role r) l.parts none)

missing_table : (l : Layout) → AllClausesHold l → (r : Role) → part_with r l.parts ≡ None → table_bytes l r ≡ []
missing_table l h r none =
    let absent = none_passes (has_role r) l.parts none in
    let shared = nothing_shared l h r none in
    elim (cases_Bool (role_place r == role_place role.Dynamic)) [
      | inl t ↦
          (let is = same_role r role.Dynamic (eqb-true _ _ t) in
          let Q : Role → Type 0 = λ s. table_bytes l s ≡ [] in
          let gone = subst (λ (s : Role). list_any (has_role s) l.parts ≡ false) is absent in
          subst Q (sym is) (dynamic_nothing l h gone (subst (λ (s : Role). total_share l s ≡ 0) is shared)))
      | inr f ↦ plain_nothing l r (eqb-false _ _ f) l.groups shared
    ]

-- part i is the part of the role
table_lies : (l : Layout) → AllClausesHold l → (r : Role) → (role_place r ≡ 0 → ⊥) → (p : Part) (i : ℕ) → i < length l.parts → ((d : Part) → get_or l.parts i d ≡ p) → p.role ≡ r → TableLies l r p
unfolding pieces
table_lies l h r some p i low is has =
    let read = is p in
    let role_is : (get_or l.parts i p).role ≡ r = ap (λ (x : Part). x.role) read ∙ has in
    let size_is = ap (λ (x : Part). x.size) read in
    let offset_is = ap (λ (x : Part). x.offset) read in
    let raw = not_raw r (get_or l.parts i p) some role_is in
    let lengths : (j : ℕ) (g : Group) → j < length l.groups → length (content l r (get_or l.groups j g)) ≡ given i (get_or l.groups j g) = λ j g n. sym (ap (λ (q : Role). length (content l q (get_or l.groups j g))) role_is) ∙ content_is_given l h.sizes.parts h.shares h.roles.again h.needed i p low raw j g n in
    let sums : (j : ℕ) → bytes_before l r j ≡ shares_before l i j = λ j. total_same (λ (g : Group). length (content l r g)) (given i) l.groups j (λ k d m. lengths k d m) in
    let whole : total (λ (g : Group). length (content l r g)) l.groups ≡ total (given i) l.groups = subst (λ (gs : List Group). total (λ (g : Group). length (content l r g)) gs ≡ total (given i) gs) (take_all l.groups) (sums (length l.groups)) in
    let joined = length_joined (content l r) l.groups in
    let total_is = size_from_shares l.groups 0 l.parts h.shares.sums i i p (omega arith) low in
    let section_is = ap (λ (x : Part). is_header_only_at l x.section) read in
    let takes : is_header_only_at l p.section ≡ false → Takes l (get_or l.parts i p) = λ written. not_raw_takes l (get_or l.parts i p) (h.parts.room i p low) raw (section_is ∙ written) in
    record {
      listed = (i, low, read);
      has = has;
      size = omega arith;
      ends = λ written n. (let e = EndsBy-image l i p low (takes written) (omega arith) in omega arith);
      pieces = λ written j g m n. (
          let content_is = ap (λ (q : Role). content l q (get_or l.groups j g)) role_is in
          let long = ap length content_is in
          let at = (get_or l.parts i p).offset + shares_before l i j in
          let bs = content l (get_or l.parts i p).role (get_or l.groups j g) in
          let piece : Piece = record { at = at; bytes = bs } in
          let here : Contains (table_piece l j (get_or l.groups j g) i (get_or l.parts i p)) piece = Contains-written (is_header_only_at l (get_or l.parts i p).section) at bs (section_is ∙ written) (omega arith) in
          let in_tables = Contains-flat_map_from (table_piece l j (get_or l.groups j g)) 0 l.parts i i p piece (omega arith) low here in
          let in_group = Contains-append_left (table_pieces l j (get_or l.groups j g)) (owned_pieces l (get_or l.groups j g)) piece in_tables in
          let all = Contains-flat_map_from (group_pieces l) 0 l.groups j j g piece (omega arith) m in_group in
          let sum = sums j in
          let place : at ≡ p.offset + bytes_before l r j = omega arith in
          let P : ℕ → List ℕ → Type 0 = λ k xs. Contains (pieces l) (record { at = k; bytes = xs }) in
          subst (λ (xs : List ℕ). P (p.offset + bytes_before l r j) xs) content_is (subst (λ (k : ℕ). P k bs) place all)
          );
    }

pub HasTable-from_clauses : (l : Layout) → AllClausesHold l → (r : Role) → (role_place r ≡ 0 → ⊥) → HasTable l r
HasTable-from_clauses l h r some = record {
  there = λ p found. let f = FoundAt-from_find (has_role r) l.parts p found in table_lies l h r some p f.place f.within f.is (same_role p.role r (eqb-true _ _ f.passes));
  missing = missing_table l h r;
}
