-- What is not written of an image for debuggers alone.
use Rattle.wild_geometry.proofs.Common.{◌≡◌, ℕ, zero, suc, ◌<◌, inl, inr, ◌==◌, Bool, true, false, not, ◌&&◌, ◌||◌, List, [], ◌∷◌, length, get_or, take, Contains, Option, Some, None, slice_get, refl, sym, ap, ◌∙◌, arith, subst, list_any, cases_Bool, and_parts, and_from, ltb-true, eqb-true, eqb-false, eq-eqb, ne_eqb, not-true, or_other, ItemAt-within, Part, Role, Section, Layout, is_partial_link, allocated, flags_of, section_of_part, is_allocated_section, has_data, is_header_only, header_only, is_header_only_at, is_header_only_part, role_place, has_role, part_with}
use Rattle.std.proofs.lemmas.Bool.{not_from_false}
use Rattle.wild_records.specs.Abi.Section.{sht_note}
use Rattle.wild_types.specs.declared.part.Role.TheVariants as role
use Rattle.wild_types.specs.Lookups.{kind_of, kind_at}
use Rattle.wild_types.specs.HeaderOnly.{is_header_only_role, KeepsAll}
use Rattle.wild_types.specs.Parts.{is_loaded_role}
use Rattle.wild_types.proofs.PartLemmas.{not_raw}
use Rattle.wild_plan_rules.specs.Fronts.{dynamic_is_dropped}
use Rattle.wild_plan_rules.specs.Places.{is_in_loaded_section}
use Rattle.wild_meaning.specs.Section.{IsHeaderOnlySection, IsHeaderOnly}
use Rattle.wild_meaning.proofs.BitLemmas.{alloc_bit, bit_alloc}
use Rattle.wild_geometry.proofs.PlacedSectionLemmas.{AllClausesHold}
use Rattle.wild_geometry.proofs.ShareLemmas.{alone}
use Rattle.wild_geometry.proofs.RoleLemmas.{FoundAt-from_find}
use Rattle.wild_geometry.proofs.TableLemmas.{same_role}

not_both : (a b : Bool) → not (a && b) ≡ true → a ≡ true → b ≡ false
not_both true true h e = cc
not_both true false h e = refl
not_both false b h e = cc

first_not : (a b : Bool) → not (a && b) ≡ true → b ≡ true → a ≡ false
first_not true true h e = cc
first_not true false h e = cc
first_not false b h e = refl

-- ---- what the writer tests is what the judge says

pub IsHeaderOnlySection-from_test : (l : Layout) (s : Section) → is_header_only l s ≡ true → IsHeaderOnlySection l s
IsHeaderOnlySection-from_test l s t =
    let a = and_parts l.options.only_keep_debug (allocated s.flags && not (s.kind == sht_note)) t in
    let b = and_parts (allocated s.flags) (not (s.kind == sht_note)) a.1 in
    record { bare = a.0; room = bit_alloc s.flags b.0; other = eqb-false _ _ (not-true _ b.1) }

pub test_from_IsHeaderOnlySection : (l : Layout) (s : Section) → IsHeaderOnlySection l s → is_header_only l s ≡ true
test_from_IsHeaderOnlySection l s h =
    let flags = alloc_bit s.flags h.room in
    let other = ne_eqb s.kind sht_note h.other in
    let bare = h.bare in
    rw (bare, flags, other) refl

IsHeaderOnly-from_test : (l : Layout) (p : Part) → is_header_only_at l p.section ≡ true → IsHeaderOnly l p
IsHeaderOnly-from_test l p h =
    let both = and_parts (not (p.section == 0)) (header_only l (slice_get l.sections p.section)) h in
    by (eqb-false _ _ (not-true _ both.0)) (slice_get l.sections p.section) refl both.1
  where
    by : (p.section ≡ 0 → ⊥) → (o : Option Section) → slice_get l.sections p.section ≡ o → header_only l o ≡ true → IsHeaderOnly l p
    by later None is t = cc
    by later (Some s) is t = record { named = later; section = s; found = is; only = IsHeaderOnlySection-from_test l s t }

pub test_from_IsHollow : (l : Layout) (p : Part) → IsHeaderOnly l p → is_header_only_at l p.section ≡ true
test_from_IsHollow l p h =
    let here : header_only l (Some h.section) ≡ true = test_from_IsHeaderOnlySection l h.section h.only in
    and_from (not (p.section == 0)) (header_only l (slice_get l.sections p.section)) (not_from_false _ (ne_eqb p.section 0 h.named)) (subst (λ (o : Option Section). header_only l o ≡ true) (sym h.found) here)

-- of a part that is not hollow, what stands in it is written
written_by : (l : Layout) (o : Option Part) → ((p : Part) → o ≡ Some p → IsHeaderOnly l p → ⊥) → is_header_only_at l (section_of_part o) ≡ false
written_by l None h = refl
written_by l (Some p) h = elim (cases_Bool (is_header_only_at l p.section)) [ inl t ↦ absurd (h p refl (IsHeaderOnly-from_test l p t)) | inr f ↦ f ]

pub part_is_written : (l : Layout) (n : ℕ) → ((p : Part) → slice_get l.parts n ≡ Some p → IsHeaderOnly l p → ⊥) → is_header_only_part l n ≡ false
part_is_written l n h = written_by l (slice_get l.parts n) h

pub role_is_written : (l : Layout) (r : Role) → ((p : Part) → part_with r l.parts ≡ Some p → IsHeaderOnly l p → ⊥) → is_header_only_role l r ≡ false
role_is_written l r h = written_by l (part_with r l.parts) h

-- ---- relocatable objects

-- a relocatable object is written whole
pub KeepsAll-from_partial : (l : Layout) → AllClausesHold l → is_partial_link l.kind ≡ true → KeepsAll l
KeepsAll-from_partial l h partial = first_not l.options.only_keep_debug (is_partial_link l.kind) h.fronts.tables partial

-- ---- the dynamic section

-- nothing is written of it in an image for debuggers alone
pub dynamic_is_hollow : (l : Layout) → AllClausesHold l → l.options.only_keep_debug ≡ true → (p : Part) → part_with role.Dynamic l.parts ≡ Some p → is_header_only_at l p.section ≡ true
dynamic_is_hollow l h on p there =
    let f = FoundAt-from_find (has_role role.Dynamic) l.parts p there in
    let P : Part → Type 0 = λ x. dynamic_is_dropped l x ≡ true in
    let Q : Part → Type 0 = λ x. is_in_loaded_section l x ≡ true in
    let R : Part → Type 0 = λ x. x.section < length l.sections in
    let dropped = subst P (f.is p) (h.fronts.dropped f.place p f.within) in
    let stands = subst Q (f.is p) (h.parts.loaded f.place p f.within) in
    let named = subst R (f.is p) (ltb-true _ _ (h.indexes.parts f.place p f.within)) in
    let kind = not_both l.options.only_keep_debug (is_partial_link l.kind) h.fronts.tables on in
    let is = same_role p.role role.Dynamic (eqb-true _ _ f.passes) in
    let loaded : is_loaded_role p.role ≡ true = ap is_loaded_role is in
    let asked : (is_partial_link l.kind || not (is_loaded_role p.role)) ≡ false = rw (kind, loaded) refl in
    let room = and_parts (is_allocated_section l p.section) (has_data l p.section) (or_other (is_partial_link l.kind || not (is_loaded_role p.role)) (is_allocated_section l p.section && has_data l p.section) stands asked) in
    let both = and_parts (not (p.section == 0)) (allocated (flags_of (slice_get l.sections p.section))) room.0 in
    let note = not_both l.options.only_keep_debug (has_role role.Dynamic p && kind_at l p.section == sht_note) dropped on in
    let other : (kind_at l p.section == sht_note) ≡ false = second (has_role role.Dynamic p) (kind_at l p.section == sht_note) note f.passes in
    let item = ItemAt-within l.sections p.section named in
    let flags = subst (λ (o : Option Section). allocated (flags_of o) ≡ true) item.is both.1 in
    let type = subst (λ (o : Option Section). (kind_of o == sht_note) ≡ false) item.is other in
    let here : header_only l (Some item.item) ≡ true = rw (on, flags, type) refl in
    and_from (not (p.section == 0)) (header_only l (slice_get l.sections p.section)) both.0 (subst (λ (o : Option Section). header_only l o ≡ true) (sym item.is) here)
  where
    second : (a b : Bool) → (a && b) ≡ false → a ≡ true → b ≡ false
    second true b h e = h
    second false b h e = cc

-- ---- parts of a role

-- the first item that passes
first_found : (r : Role) (ps : List Part) (k : ℕ) (d : Part) → k < length ps → has_role r (get_or ps k d) ≡ true → list_any (has_role r) (take k ps) ≡ false → part_with r ps ≡ Some (get_or ps k d)
first_found r [] k d low has none = absurd (omega (arith, low))
first_found r (p ∷ ps) zero d low has none = rw has refl
first_found r (p ∷ ps) (suc k) d low has none =
    elim (cases_Bool (has_role r p)) [
      | inl t ↦ cc (rw t at none)
      | inr f ↦ rw f (first_found r ps k d (omega (arith, low)) has (rw f at none))
    ]

-- a role but that of raw parts is one part's
pub part_of_role : (l : Layout) → AllClausesHold l → (r : Role) (p : Part) → (role_place r ≡ 0 → ⊥) → Contains l.parts p → p.role ≡ r → part_with r l.parts ≡ Some p
part_of_role l h r p some c has =
    let k = c.0 in
    let low = c.1 in
    let read = c.2 in
    let is : (get_or l.parts k p).role ≡ r = ap (λ (x : Part). x.role) read ∙ has in
    let raw = not_raw r (get_or l.parts k p) some is in
    let before = alone [] 0 l.parts h.roles.again k p low raw in
    let none = subst (λ (s : Role). list_any (has_role s) (take k l.parts) ≡ false) is before in
    first_found r l.parts k p low (eq-eqb _ _ (ap role_place is)) none ∙ ap (λ (x : Part). Some x) read
