-- What is known of the layouts that are read with a change or with a world.
use Rattle.std.proofs.Common.{◌≡◌, [], ◌∷◌, Ok, subst}
use Rattle.std.specs.Prelude.{codes}
use Rattle.serde_json.specs.Data.{Data}
use Rattle.serde_json.specs.Find.{get}
use Rattle.wild_types.specs.declared.layout.Layout.{Layout}
use Rattle.wild_text.specs.Members.{or_empty, an_object, known_only}
use Rattle.wild_text.specs.Plan.{layout_in}
use Rattle.wild_text.specs.Relink.{plan_in, plan_change_in, relink_in}
use Rattle.wild_text.specs.declared.relink.RelinkRequest.{RelinkRequest}
use Rattle.wild_text.specs.Place.{plan_world_in, place_in}
use Rattle.wild_text.specs.declared.place.PlaceRequest.{PlaceRequest}
use Rattle.wild_text.specs.Laws.{IsRead}
use Rattle.wild_text.proofs.FieldLemmas.{first_step, given_same, above}
use Rattle.wild_text.proofs.PlanLemmas.{is_read}

plan_read : (d : Data) (l : Layout) → plan_in d ≡ Ok l → IsRead l
unfolding plan_in
plan_read d l e =
    let plan = or_empty (get (codes "plan") d) in
    is_read plan l (above (codes "plan") (layout_in plan) l e)

-- the layout that a plan with a change has
pub relink_read : (d : Data) (r : RelinkRequest) → relink_in d ≡ Ok r → IsRead r.plan
unfolding relink_in
relink_read d r e =
    let whole = first_step (an_object d) _ r e in
    let layout = first_step (plan_in d) _ r whole.2 in
    let change = first_step (plan_change_in d) _ r layout.2 in
    let known = first_step (known_only (codes "plan" ∷ codes "change" ∷ []) d) _ r change.2 in
    subst (λ (x : RelinkRequest). IsRead x.plan) (given_same _ r known.2) (plan_read d layout.0 layout.1)

-- the layout that a plan with a world has
pub place_read : (d : Data) (r : PlaceRequest) → place_in d ≡ Ok r → IsRead r.plan
unfolding place_in
place_read d r e =
    let whole = first_step (an_object d) _ r e in
    let layout = first_step (plan_in d) _ r whole.2 in
    let world = first_step (plan_world_in d) _ r layout.2 in
    let known = first_step (known_only (codes "plan" ∷ codes "world" ∷ []) d) _ r world.2 in
    subst (λ (x : PlaceRequest). IsRead x.plan) (given_same _ r known.2) (plan_read d layout.0 layout.1)
