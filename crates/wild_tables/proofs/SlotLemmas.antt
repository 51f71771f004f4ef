-- Words of slots in order, and the room of tables.
use Rattle.std.proofs.Common.{◌≡◌, ℕ, ◌+◌, ◌^◌, ◌<◌, ◌≤◌, nat_lt, inl, inr, List, [], ◌∷◌, length, refl, sym, ◌∙◌, arith, Result, Ok, Err}
use Rattle.std.proofs.lemmas.List.{length-append}
use Rattle.std.proofs.lemmas.Bool.{cases_Bool, ltb-false}
use Rattle.std.specs.Prelude.{OnOk}
use Rattle.wild_types.specs.declared.fault.Error.{Error}
use Rattle.wild_types.specs.declared.layout.Layout.{Layout}
use Rattle.wild_types.specs.Shares.{part_of, insufficient}
use Rattle.wild_types.specs.declared.part.Role.TheVariants as role
use Rattle.wild_relr.specs.Encoding.{State}
use Rattle.wild_relr.specs.RunWords.{after_relr_slot}
use Rattle.wild_tables.specs.declared.room.Room.{Room}
use Rattle.wild_table_formats.specs.GroupTables.{Tables}
use Rattle.wild_tables.specs.SlotTables.{after_relr_slots}
use Rattle.wild_tables.specs.Rooms.{Fit, HeaderFits, rooms, words_room, entries_room, capped_room, first_too_small, room_for_all, room_for_header}

-- how many words there are with flat places
pub length_after_flats : (s : State) (ps : List ℕ) → length (after_relr_slots s ps).words ≡ length s.words + length ps
length_after_flats s [] = omega arith
length_after_flats s (p ∷ ps) = length_after_flats (after_relr_slot s p) ps ∙ (let e = length-append s.words (p ∷ []) in omega (arith, e))

-- ---- room

AllFit : List Room → Type 0
AllFit [] = Unit {0}
AllFit (r ∷ rs) = (r.used ≤ r.given) × AllFit rs

short_fits : (l : Layout) (g : ℕ) (rs : List Room) → first_too_small l g rs ≡ Ok tt → AllFit rs
unfolding AllFit
short_fits l g [] h = tt
short_fits l g (r ∷ rs) h =
    elim (cases_Bool (nat_lt r.given r.used)) [
      | inl t ↦ (let e : first_too_small l g (r ∷ rs) ≡ Err (insufficient (part_of l r.role) g r.given r.used) = rw t refl in cc)
      | inr f ↦ (let e : first_too_small l g rs ≡ Ok tt = rw f at h in (ltb-false _ _ f, short_fits l g rs e))
    ]

-- where each table has its room they fit
pub all_fit : (l : Layout) (t : Tables) → room_for_all l t ≡ Ok tt → Fit t
unfolding AllFit
all_fit l t h =
    let f = short_fits l t.group (rooms t) h in
    record { got = f.0; block = f.1.0; stubs = f.1.1.0; plt = f.1.1.1.0; relative = f.1.1.1.1.0; general = f.1.1.1.1.1.0; packed = f.1.1.1.1.1.1.0 }

pub answer_fits : (l : Layout) (t : Tables) (r : Result (Unit {0}) Error) → r ≡ room_for_all l t → OnOk r (Fit t)
answer_fits l t (Ok u) h = all_fit l t (sym h)
answer_fits l t (Err e) h = tt

-- ---- what stands once

-- where the two tables have their room they fit
pub header_fits : (l : Layout) (t : Tables) (r : Result (Unit {0}) Error) → t.got.room < 2 ^ 63 → r ≡ room_for_header l t → OnOk r (HeaderFits t)
unfolding AllFit
header_fits l t (Ok u) small h =
    let f = short_fits l t.group (capped_room (words_room role.Got t.got) ∷ entries_room role.RelaDynGeneral t.general ∷ []) (sym h) in
    let g = f.0 in
    record { got = omega (arith, g, small); general = f.1.0 }
header_fits l t (Err e) small h = tt
