-- Runs of instructions, as they come out of the machine.
use Rattle.std.proofs.Common.{◌<◌, ◌≡◌, ℕ, ◌+◌, ◌*◌, ◌/◌, ◌≤◌, ◌^◌, List, [], ◌∷◌, ◌++◌, Bool, true, false, if◌then◌else◌, map, Option, Some, None, option_map, refl, ap}
use Rattle.wild_aarch64.specs.declared.code.Code.{Code}
use Rattle.wild_aarch64.specs.declared.code.Code.TheVariants.{Adr, Adrp, Movz, Movk, Add, Ldr, B, Bl, BranchIf, Br, Hint}
use Rattle.wild_aarch64.specs.declared.code.Shift.TheVariants.{By0, By16}
use Rattle.wild_aarch64.specs.declared.operand.Operand.TheVariants.{Number, Word}
use Rattle.wild_aarch64.specs.declared.operand.Action.{Action}
use Rattle.wild_aarch64.specs.declared.operand.Deed.TheVariants.{Sets, Jumps, Calls, MayJump}
use Rattle.wild_aarch64.specs.declared.template.Template.TheVariants as templates
use Rattle.wild_aarch64.specs.Slice.{bits}
use Rattle.wild_aarch64.specs.Code.{read, read_address, read_access, read_vector_access, read_literal, read_transfer, read_condition}
use Rattle.wild_aarch64.specs.Machine.{RegisterValues, Next, On, End, Stuck, sum_64, page, only_set, outcome, step, goes_on, all_hints, run, meaning, does, jump_to, jump_through}
use Rattle.wild_aarch64.specs.Registers.{branch_or, follow_words}
use Rattle.wild_aarch64.specs.Effect.{Reader, as_effect, effect, demand, shapes}
use Rattle.wild_aarch64.specs.Template.{codes_of, step_of, sized_step}
use Rattle.wild_aarch64.specs.Laws.{some_codes, HintsAreSkipped, HintsAreLost, JumpsAreFollowed}
use Rattle.wild_aarch64.proofs.NumberLemmas.{same, not_zero, zero_not, not_31}

pub nop_word : read 0xd503201f ≡ Some Hint
unfolding read read_address read_access read_vector_access read_literal read_transfer read_condition
nop_word = refl

pub bti_word : read 0xd503245f ≡ Some Hint
unfolding read read_address read_access read_vector_access read_literal read_transfer read_condition
bti_word = refl

pub br_17 : read 0xd61f0220 ≡ Some (Br 17)
unfolding read read_address read_access read_vector_access read_literal read_transfer read_condition
br_17 = refl

pub br_16 : read 0xd61f0200 ≡ Some (Br 16)
unfolding read read_address read_access read_vector_access read_literal read_transfer read_condition
br_16 = refl

-- ---- words that do nothing

pub hints_are_skipped : HintsAreSkipped
hints_are_skipped cs a ks = refl

all_hints-after : (cs : List (Option Code)) → all_hints (cs ++ (Some Hint ∷ [])) ≡ all_hints cs
all_hints-after [] = refl
all_hints-after (c ∷ cs) = rw (all_hints-after cs) refl

goes_as : (next : Next) (f g : RegisterValues → Option Action) (b c : Bool) → ((ks : RegisterValues) → f ks ≡ g ks) → b ≡ c → goes_on next f b ≡ goes_on next g c
goes_as (On ks) f g b c h e = h ks
goes_as (End act) f g b c h e = ap (λ (x : Bool). if x then Some act else None) e
goes_as Stuck f g b c h e = refl

pub hints_are_lost : HintsAreLost
hints_are_lost [] a ks = refl
hints_are_lost (c ∷ cs) a ks =
    goes_as (step a ks c) (λ next. run (cs ++ (Some Hint ∷ [])) (a + 4) next) (λ next. run cs (a + 4) next) (all_hints (cs ++ (Some Hint ∷ []))) (all_hints cs) (λ next. hints_are_lost cs (a + 4) next) (all_hints-after cs)

-- ---- words that jump

-- what registers are left with is no jump
no_jump : (ks : RegisterValues) (act : Action) → outcome ks ≡ Some act → act.deed ≡ Jumps → ⊥
no_jump [] act h j = cc
no_jump (k ∷ ks) act h j = by (only_set k.0 k.0 ks) h
  where
    by : (b : Bool) → (if b then Some (record { deed = Sets k.0; operand = k.1 }) else None) ≡ Some act → ⊥
    by true e = cc
    by false e = cc

goes_as_told : (next : Next) (rest other : RegisterValues → Option Action) (ends : Bool) (act : Action) → goes_on next rest ends ≡ Some act → ((ks : RegisterValues) → rest ks ≡ Some act → other ks ≡ Some act) → branch_or next other ≡ Some act
goes_as_told (On ks) rest other ends act h up = up ks h
goes_as_told (End e) rest other true act h up = h
goes_as_told (End e) rest other false act h up = cc
goes_as_told Stuck rest other ends act h up = cc

followed : (ws rest : List ℕ) (a : ℕ) (ks : RegisterValues) (act : Action) → run (map read ws) a ks ≡ Some act → act.deed ≡ Jumps → follow_words (ws ++ rest) a ks ≡ Some act
followed [] rest a ks act h j = absurd (no_jump ks act h j)
followed (w ∷ ws) rest a ks act h j =
    goes_as_told (step a ks (read w)) (λ next. run (map read ws) (a + 4) next) (λ next. follow_words (ws ++ rest) (a + 4) next) (all_hints (map read ws)) act h
    (λ next e. followed ws rest (a + 4) next act e j)

pub jumps_are_followed : JumpsAreFollowed
jumps_are_followed a ws rest x h = followed ws rest a [] (does Jumps x) h refl

-- ---- stubs and thunks

pub stub_runs : (a w u j k g : ℕ) (rest : List ℕ) → read w ≡ Some (Adrp 16 j) → read u ≡ Some (Ldr 17 16 k) → sum_64 (sum_64 (page a) j) k ≡ g
    → (meaning a (w ∷ u ∷ 0xd61f0220 ∷ 0xd503201f ∷ []) ≡ Some (jump_through g)) × (step_of a (w ∷ u ∷ 0xd61f0220 ∷ 0xd503201f ∷ rest) ≡ Some (sized_step 4 (jump_through g)))
stub_runs a w u j k g rest e f s = (rw (e, f, br_17, nop_word, s) refl, rw (e, f, br_17, nop_word, s) refl)

pub marked_stub_runs : (a w u j k g : ℕ) (rest : List ℕ) → read w ≡ Some (Adrp 16 j) → read u ≡ Some (Ldr 17 16 k) → sum_64 (sum_64 (page (a + 4)) j) k ≡ g
    → (meaning a (0xd503245f ∷ w ∷ u ∷ 0xd61f0220 ∷ []) ≡ Some (jump_through g)) × (step_of a (0xd503245f ∷ w ∷ u ∷ 0xd61f0220 ∷ rest) ≡ Some (sized_step 4 (jump_through g)))
marked_stub_runs a w u j k g rest e f s = (rw (bti_word, e, f, br_17, s) refl, rw (bti_word, e, f, br_17, s) refl)

pub thunk_runs : (a w u j k t : ℕ) (rest : List ℕ) → read w ≡ Some (Adrp 16 j) → read u ≡ Some (Add 16 16 k) → sum_64 (sum_64 (page a) j) k ≡ t
    → (meaning a (w ∷ u ∷ 0xd61f0200 ∷ []) ≡ Some (jump_to t)) × (step_of a (w ∷ u ∷ 0xd61f0200 ∷ rest) ≡ Some (sized_step 3 (jump_to t)))
thunk_runs a w u j k t rest e f s = (rw (e, f, br_16, s) refl, rw (e, f, br_16, s) refl)

-- ---- what words demand

pub demands_call : (r v a : ℕ) (ws : List ℕ) → 1 ≤ r → r < 31 → shapes ws ≡ some_codes (codes_of templates.DescriptorCall r) → demand v a ws ≡ Some (as_effect (Sets 0) v)
demands_call r v a ws h l e = rw (e, not_31 r l, not_zero r h, zero_not r h, same r, same (sum_64 (sum_64 (page a) 0) 0), not_zero r h, same r) refl

pub demands_slot : (r v a : ℕ) (ws : List ℕ) → r < 31 → shapes ws ≡ some_codes (codes_of templates.SlotPair r) → demand v a ws ≡ Some (as_effect (Sets r) v)
demands_slot r v a ws l e = rw (e, not_31 r l, same r, not_31 r l, same r) refl

pub demands_address : (r v a : ℕ) (ws : List ℕ) → r < 31 → shapes ws ≡ some_codes (codes_of templates.AddressPair r) → demand v a ws ≡ Some (as_effect (Sets r) v)
demands_address r v a ws l e = rw (e, not_31 r l, same r, not_31 r l, same r) refl

pub demands_b : (v a w j : ℕ) → read w ≡ Some (B j) → demand v a (w ∷ []) ≡ Some (as_effect Jumps v)
demands_b v a w j e = rw e refl

pub demands_bl : (v a w j : ℕ) → read w ≡ Some (Bl j) → demand v a (w ∷ []) ≡ Some (as_effect Calls v)
demands_bl v a w j e = rw e refl

pub demands_condition : (v a w key j : ℕ) → read w ≡ Some (BranchIf key j) → demand v a (w ∷ []) ≡ Some (as_effect (MayJump key) v)
demands_condition v a w key j e = rw e refl

-- ---- what is written in their place

pub halves_run : (reader : Reader) (r a w u i k v : ℕ) → r < 31 → read w ≡ Some (Movz r By16 i) → read u ≡ Some (Movk r By0 k) → reader (Number (i * 2 ^ 16 / 2 ^ 16 * 2 ^ 16 + k)) ≡ Some v
    → effect reader a (w ∷ u ∷ []) ≡ Some (as_effect (Sets r) v)
halves_run reader r a w u i k v l e f s = rw (e, f, not_31 r l, same r, not_31 r l, same r, s) refl

pub halves_run_behind : (reader : Reader) (a w u i k v : ℕ) → read w ≡ Some (Movz 0 By16 i) → read u ≡ Some (Movk 0 By0 k) → reader (Number (i * 2 ^ 16 / 2 ^ 16 * 2 ^ 16 + k)) ≡ Some v
    → effect reader a (0xd503201f ∷ 0xd503201f ∷ w ∷ u ∷ []) ≡ Some (as_effect (Sets 0) v)
halves_run_behind reader a w u i k v e f s = rw (nop_word, e, f, s) refl

pub load_runs_behind : (reader : Reader) (a w u j k g v : ℕ) → read w ≡ Some (Adrp 0 j) → read u ≡ Some (Ldr 0 0 k) → sum_64 (sum_64 (page (a + 4 + 4)) j) k ≡ g → reader (Word g) ≡ Some v
    → effect reader a (0xd503201f ∷ 0xd503201f ∷ w ∷ u ∷ []) ≡ Some (as_effect (Sets 0) v)
load_runs_behind reader a w u j k g v e f s t = rw (nop_word, e, f, s, t) refl

pub near_runs_behind : (reader : Reader) (r a w j t v : ℕ) → r < 31 → read w ≡ Some (Adr r j) → sum_64 (a + 4) j ≡ t → reader (Number t) ≡ Some v
    → effect reader a (0xd503201f ∷ w ∷ []) ≡ Some (as_effect (Sets r) v)
near_runs_behind reader r a w j t v l e s f = rw (nop_word, e, not_31 r l, s, f) refl

pub b_runs : (reader : Reader) (a w j t v : ℕ) → read w ≡ Some (B j) → sum_64 a j ≡ t → reader (Number t) ≡ Some v → effect reader a (w ∷ []) ≡ Some (as_effect Jumps v)
b_runs reader a w j t v e s f = rw (e, s, f) refl

pub bl_runs : (reader : Reader) (a w j t v : ℕ) → read w ≡ Some (Bl j) → sum_64 a j ≡ t → reader (Number t) ≡ Some v → effect reader a (w ∷ []) ≡ Some (as_effect Calls v)
bl_runs reader a w j t v e s f = rw (e, s, f) refl

pub condition_runs : (reader : Reader) (a w key j t v : ℕ) → read w ≡ Some (BranchIf key j) → sum_64 a j ≡ t → reader (Number t) ≡ Some v → effect reader a (w ∷ []) ≡ Some (as_effect (MayJump key) v)
condition_runs reader a w key j t v e s f = rw (e, s, f) refl

-- ---- each is one step

pub offset_steps_behind : (b w u i k : ℕ) (rest : List ℕ) → read w ≡ Some (Movz 0 By16 i) → read u ≡ Some (Movk 0 By0 k)
    → step_of b (0xd503201f ∷ 0xd503201f ∷ w ∷ u ∷ rest) ≡ option_map (sized_step 4) (meaning b (0xd503201f ∷ 0xd503201f ∷ w ∷ u ∷ []))
offset_steps_behind b w u i k rest e f = rw (nop_word, e, f) refl

pub load_steps_behind : (b w u j k : ℕ) (rest : List ℕ) → read w ≡ Some (Adrp 0 j) → read u ≡ Some (Ldr 0 0 k)
    → step_of b (0xd503201f ∷ 0xd503201f ∷ w ∷ u ∷ rest) ≡ option_map (sized_step 4) (meaning b (0xd503201f ∷ 0xd503201f ∷ w ∷ u ∷ []))
load_steps_behind b w u j k rest e f = rw (nop_word, e, f) refl

pub halves_step : (r b w u i k : ℕ) (rest : List ℕ) → r < 31 → read w ≡ Some (Movz r By16 i) → read u ≡ Some (Movk r By0 k) → bits 0 5 u ≡ r
    → step_of b (w ∷ u ∷ rest) ≡ option_map (sized_step 2) (meaning b (w ∷ u ∷ []))
halves_step r b w u i k rest l e f g = rw (e, f, g, same r, not_31 r l, same r, not_31 r l, same r) refl

pub near_steps_behind : (r b w j : ℕ) (rest : List ℕ) → r < 31 → read w ≡ Some (Adr r j) → bits 0 5 w ≡ r
    → step_of b (0xd503201f ∷ w ∷ rest) ≡ option_map (sized_step 2) (meaning b (0xd503201f ∷ w ∷ []))
near_steps_behind r b w j rest l e g = rw (nop_word, e, g, same r, not_31 r l) refl
