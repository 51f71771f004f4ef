-- Laws of the parts by their roles.
use Rattle.std.proofs.Common.{◌≡◌, inl, inr, List, [], ◌∷◌, is_some, refl, false, sym, ap, ◌∙◌}
use Rattle.std.specs.List.{list_any}
use Rattle.std.proofs.lemmas.Bool.{cases_Bool, ne_eqb}
use Rattle.wild_types.specs.declared.part.Part.{Part}
use Rattle.wild_types.specs.declared.part.Role.{Role}
use Rattle.wild_types.specs.Parts.{has_role, part_with, role_place}
use Rattle.wild_types.specs.declared.part.Role.TheVariants as role

-- a part of a role is there exactly where there is a first one
pub there_by_part : (r : Role) (ps : List Part) → is_some (part_with r ps) ≡ list_any (has_role r) ps
there_by_part r [] = refl
there_by_part r (p ∷ ps) =
    elim (cases_Bool (has_role r p)) [
      | inl t ↦ rw t refl
      | inr f ↦ rw f (there_by_part r ps)
    ]

pub not_raw : (r : Role) (p : Part) → (role_place r ≡ 0 → ⊥) → p.role ≡ r → has_role role.Raw p ≡ false
not_raw r p some has = ne_eqb (role_place p.role) 0 (λ e. some (sym (ap role_place has) ∙ e))
