-- Clauses 11 and 12: the places of slots, stubs and thunks are the same for the outline.
use Rattle.wild_outlines.proofs.Common.{◌≡◌, ℕ, ◌+◌, List, [], ◌∷◌, ◌++◌, map, Option, Some, None, Result, Ok, Err, refl, ap, ◌∙◌, if◌then◌else◌, slice_get, list_any, InputSection, File, Group, Part, Symbol, Layout, given, sorted_inputs, of_last_file, Input, outline_section, outline_file, outline_group, outline}
use Rattle.wild_types.specs.declared.symbol.Resolution.{Resolution}
use Rattle.wild_types.specs.declared.layout.Thunk.{Thunk}
use Rattle.wild_types.specs.FileSymbols.{own_symbols}
use Rattle.wild_types.specs.FileThunks.{thunks_of}
use Rattle.wild_slot.specs.MachineStub.{far_between}
use Rattle.wild_slot.specs.Slots.{setting_of, slot}
use Rattle.wild_slot.specs.SymbolWords.{resolved_slots, slots_of}
use Rattle.wild_plan_rules.specs.declared.slot_places.SlotCursor.{SlotCursor}
use Rattle.wild_plan_rules.specs.SlotPlaces.{first_free, and_then, walk, symbol_step, file_step, group_step, last_astray, slots_astray}
use Rattle.wild_plan_rules.specs.Thunks as thunks
use Rattle.wild_plan_rules.specs.Thunks.{is_used, block_step, sections_in_ranges, or_next, misplaced_from, misplaced_in, thunks_misplaced, owns, is_owned, block_lost, has_thunks}
use Rattle.wild_outlines.proofs.ChangedItems.{length-outline}
use Rattle.wild_outlines.proofs.ClausesGroups.{list_any-mapped, sections_in_ranges-outline}

-- ---- walks

next-same : {S : Type 0} (f g : S → Result S ℕ) → ((s : S) → f s ≡ g s) → (r : Result S ℕ) → and_then r f ≡ and_then r g
next-same f g h (Ok s) = h s
next-same f g h (Err e) = refl

pub walk-same : {S X : Type 0} (step other : S → X → Result S ℕ) → ((s : S) (x : X) → step s x ≡ other s x) → (s : S) (xs : List X) → walk step s xs ≡ walk other s xs
unfolding walk
walk-same step other h s [] = refl
walk-same step other h s (x ∷ xs) =
    ap (λ r. and_then r (λ t. walk step t xs)) (h s x) ∙ next-same (λ t. walk step t xs) (λ t. walk other t xs) (λ t. walk-same step other h t xs) (other s x)

pub walk-mapped : {S X Y : Type 0} (step : S → Y → Result S ℕ) (other : S → X → Result S ℕ) (v : X → Y) → ((s : S) (x : X) → step s (v x) ≡ other s x) → (s : S) (xs : List X) → walk step s (map v xs) ≡ walk other s xs
unfolding walk
walk-mapped step other v h s [] = refl
walk-mapped step other v h s (x ∷ xs) =
    ap (λ r. and_then r (λ t. walk step t (map v xs))) (h s x) ∙ next-same (λ t. walk step t (map v xs)) (λ t. walk other t xs) (λ t. walk-mapped step other v h t xs) (other s x)

-- a walk over mapped items and then over others
walk-front : {S X : Type 0} (step other : S → X → Result S ℕ) (v : X → X) → ((s : S) (x : X) → step s (v x) ≡ other s x) → ((s : S) (x : X) → step s x ≡ other s x) → (s : S) (xs ys : List X) → walk step s (map v xs ++ ys) ≡ walk other s (xs ++ ys)
unfolding walk
walk-front step other v h k s [] ys = walk-same step other k s ys
walk-front step other v h k s (x ∷ xs) ys =
    ap (λ r. and_then r (λ t. walk step t (map v xs ++ ys))) (h s x) ∙ next-same (λ t. walk step t (map v xs ++ ys)) (λ t. walk other t (xs ++ ys)) (λ t. walk-front step other v h k t xs ys) (other s x)

-- ---- slots

far_between-outline : (l : Layout) (a b : Option ℕ) → far_between (outline l) a b ≡ far_between l a b
far_between-outline l (Some slot) (Some stub) = refl
far_between-outline l (Some slot) None = refl
far_between-outline l None b = refl

resolved_slots-outline : (l : Layout) (o : Option Resolution) → resolved_slots (outline l) o ≡ resolved_slots l o
resolved_slots-outline l None = refl
resolved_slots-outline l (Some r) = ap (λ far. slot (setting_of l) far r) (far_between-outline l r.got_address r.plt_address)

pub slots_of-outline : (l : Layout) (s : Symbol) → slots_of (outline l) s ≡ slots_of l s
unfolding slots_of
slots_of-outline l s = resolved_slots-outline l s.resolution

symbol_step-outline : (l : Layout) (n : SlotCursor) (s : Symbol) → symbol_step (outline l) n s ≡ symbol_step l n s
symbol_step-outline l n s = rw (slots_of-outline l s) refl

file_step-outline : (l : Layout) (n : SlotCursor) (f : File) → file_step (outline l) n (outline_file f) ≡ file_step l n f
file_step-outline l n f = rw (walk-same (symbol_step (outline l)) (symbol_step l) (symbol_step-outline l) (record n { symbol = f.first_symbol }) (own_symbols l f)) refl

group_step-outline : (l : Layout) (n : SlotCursor) (g : Group) → group_step (outline l) n (outline_group g) ≡ group_step l n g
group_step-outline l n g = walk-mapped (file_step (outline l)) (file_step l) outline_file (file_step-outline l) n g.files

last_astray-outline : (l : Layout) (r : Result SlotCursor ℕ) → last_astray (outline l) r ≡ last_astray l r
last_astray-outline l (Ok n) = refl
last_astray-outline l (Err i) = refl

pub slots_astray-outline : (l : Layout) → slots_astray (outline l) ≡ slots_astray l
slots_astray-outline l =
    ap (last_astray (outline l)) (walk-mapped (group_step (outline l)) (group_step l) outline_group (group_step-outline l) (first_free l) l.groups)
    ∙ last_astray-outline l (walk (group_step l) (first_free l) l.groups)

-- ---- thunks

section_step-outline : (l : Layout) (group at : ℕ) (s : InputSection) → thunks.section_step (outline l) group at (outline_section s) ≡ thunks.section_step l group at s
section_step-outline l group at s = rw (length-outline s) refl

thunk_file_step-outline : (l : Layout) (group end at : ℕ) (f : File) → thunks.file_step (outline l) group end at (outline_file f) ≡ thunks.file_step l group end at f
thunk_file_step-outline l group end at f =
    rw (sections_in_ranges-outline l f)
    (ap (λ r. and_then r (λ n. block_step f.thunk_block end n (thunks_of l f)))
    (walk-front (thunks.section_step (outline l) group) (thunks.section_step l group) outline_section (section_step-outline l group) (λ n s. refl) at f.sections (of_last_file f (map (λ (x : Input). x.section) (sorted_inputs l)))))

misplaced_from-outline : (l : Layout) (last start i : ℕ) (gs : List Group) → misplaced_from (outline l) last start i (map outline_group gs) ≡ misplaced_from l last start i gs
misplaced_from-outline l last start i [] = refl
misplaced_from-outline l last start i (g ∷ gs) =
    rw (
      walk-mapped (thunks.file_step (outline l) i (start + given l.primary_part g)) (thunks.file_step l i (start + given l.primary_part g)) outline_file (thunk_file_step-outline l i (start + given l.primary_part g)) start g.files,
      misplaced_from-outline l last (start + given l.primary_part g) (i + 1) gs,
    )
    refl

misplaced_in-outline : (l : Layout) (o : Option Part) → misplaced_in (outline l) o ≡ misplaced_in l o
misplaced_in-outline l None = refl
misplaced_in-outline l (Some p) = misplaced_from-outline l (p.address + p.size) p.address 0 l.groups

pub thunks_misplaced-outline : (l : Layout) → thunks_misplaced (outline l) ≡ thunks_misplaced l
thunks_misplaced-outline l = ap (λ o. if has_thunks l then o else None) (misplaced_in-outline l (slice_get l.parts l.primary_part))

is_owned-outline : (l : Layout) (block : ℕ) → is_owned (outline l) block ≡ is_owned l block
is_owned-outline l block =
    list_any-mapped (λ (g : Group). list_any (owns block) g.files) (λ (g : Group). list_any (owns block) g.files) outline_group
    (λ (g : Group). list_any-mapped (owns block) (owns block) outline_file (λ f. refl) g.files) l.groups

pub block_lost-outline : (l : Layout) (i : ℕ) (bs : List (List Thunk)) → block_lost (outline l) i bs ≡ block_lost l i bs
block_lost-outline l i [] = refl
block_lost-outline l i (b ∷ bs) = rw (is_owned-outline l i, block_lost-outline l (i + 1) bs) refl
