-- What the code in memory does is what its bytes mean.
use Rattle.std.proofs.Common.{◌≡◌, ℕ, zero, suc, ◌%◌, ◌^◌, ◌<◌, ◌≤◌, inl, inr, Bool, true, false, List, [], ◌∷◌, length, take, drop, slice_index, refl, sym, ap, ◌∙◌, arith, subst}
use Rattle.std.specs.Prelude.{◌&&◌, ◌==◌, nat_le, if◌then◌else◌, Option, Some, None, option_map, option_and_then}
use Rattle.std.proofs.lemmas.Bool.{cases_Bool, eqb-true, leb-true, and_parts}
use Rattle.std.proofs.lemmas.Bool.Decides.{nat_tests}
use Rattle.wild_loader.specs.declared.memory.Memory.{Memory}
use Rattle.wild_loader.specs.declared.effect.Effect as running
use Rattle.wild_loader.specs.declared.effect.Value.{Value}
use Rattle.wild_loader.specs.declared.effect.Value.TheVariants as values
use Rattle.wild_loader.specs.Memory.{number_in, Holds}
use Rattle.wild_loader.specs.Changes.{first_value}
use Rattle.wild_loader.specs.declared.instruction.Cell.{Cell}
use Rattle.wild_loader.specs.declared.instruction.Operand.{Operand}
use Rattle.wild_loader.specs.declared.instruction.Operand.TheVariants.{Number, Word, Pair, Offset}
use Rattle.wild_loader.specs.declared.instruction.Action.{Action}
use Rattle.wild_loader.specs.declared.instruction.Deed.{Deed}
use Rattle.wild_loader.specs.Instruction.{Template, Reader, fits, matches_cells, template_fills, first_meaning, effect}
use Rattle.wild_loader.specs.ThreadCodeX86_64.{nop_byte}
use Rattle.wild_loader.specs.InstructionX86_64.{templates_x86_64, meaning_x86_64}
use Rattle.wild_loader.specs.Effect.{window, first_match, narrowed_value, operand_value, effect_in, effect_of, step_x86_64}
use Rattle.wild_loader.specs.StepLaws.{ReadsMemory, effect_read_by}
use Rattle.wild_loader.specs.StepLawsX86_64.{HasMeaning, StepsAreMeant}
use Rattle.wild_loader.proofs.Windows.{held-window}
use Rattle.wild_loader.proofs.StandLemmas.{standing_passes}

-- what does nothing
abbrev pub nop : List ℕ
nop = nop_byte ∷ []

-- ---- the first bytes

-- cells speak of no more bytes than they are
pub matches_cells-take : (cs : List Cell) (bs : List ℕ) (n : ℕ) → length cs ≤ n → matches_cells cs (take n bs) ≡ matches_cells cs bs
matches_cells-take [] bs n short = refl
matches_cells-take (c ∷ cs) bs zero short = absurd (omega (arith, short))
matches_cells-take (c ∷ cs) [] (suc n) short = refl
matches_cells-take (c ∷ cs) (b ∷ bs) (suc n) short = ap (λ (r : Bool). fits c b && r) (matches_cells-take cs bs n (omega (arith, short)))

-- bytes that stand are as many
pub stands_long : (cs : List Cell) (bs : List ℕ) → matches_cells cs bs ≡ true → length cs ≤ length bs
stands_long [] bs s = omega arith
stands_long (c ∷ cs) [] s = cc
stands_long (c ∷ cs) (b ∷ bs) s = (let rest = stands_long cs bs (and_parts (fits c b) (matches_cells cs bs) s).1 in omega (arith, rest))

pub take_long : (bs : List ℕ) (n : ℕ) → n ≤ length bs → length (take n bs) ≡ n
take_long bs zero short = refl
take_long [] (suc n) short = absurd (omega (arith, short))
take_long (b ∷ bs) (suc n) short = ap (λ (k : ℕ). suc k) (take_long bs n (omega (arith, short)))

drop_take : (bs : List ℕ) (n : ℕ) → drop n (take n bs) ≡ []
drop_take bs zero = refl
drop_take [] (suc n) = refl
drop_take (b ∷ bs) (suc n) = drop_take bs n

-- ---- the meaning of the first bytes

pub first_passes : (u t : Template) (bs : List ℕ) → matches_cells u.cells bs ≡ false → template_fills nop u (take (length t.cells) bs) ≡ false
first_passes u t bs none =
    elim (cases_Bool (nat_le (length u.cells) (length (take (length t.cells) bs)))) [
      | inl y ↦ rw (y, matches_cells-take u.cells bs (length t.cells) (short y), none) refl
      | inr n ↦ rw n refl
    ]
  where
    taken : (xs : List ℕ) (n : ℕ) → length (take n xs) ≤ n
    taken xs zero = omega arith
    taken [] (suc n) = omega arith
    taken (x ∷ xs) (suc n) = (let l = taken xs n in omega (arith, l))

    short : nat_le (length u.cells) (length (take (length t.cells) bs)) ≡ true → length u.cells ≤ length t.cells
    short y = (let l = leb-true _ _ y in let k = taken bs (length t.cells) in omega (arith, l, k))

whole_fills : (t : Template) (bs : List ℕ) → matches_cells t.cells bs ≡ true → template_fills nop t (take (length t.cells) bs) ≡ true
whole_fills t bs s =
    let n : length (take (length t.cells) bs) ≡ length t.cells = take_long bs (length t.cells) (stands_long t.cells bs s) in
    let fit : nat_le (length t.cells) (length (take (length t.cells) bs)) ≡ true = rw n (refl_le (length t.cells)) in
    let own : matches_cells t.cells (take (length t.cells) bs) ≡ true = matches_cells-take t.cells bs (length t.cells) (omega arith) ∙ s in
    rw (fit, own, drop_take bs (length t.cells)) refl
  where
    refl_le : (n : ℕ) → nat_le n n ≡ true
    refl_le n = grind (arith, nat_tests)

pub meant : (ts : List Template) (bs : List ℕ) (t : Template) (a : ℕ) → first_match ts bs ≡ Some t → first_meaning nop ts a (take (length t.cells) bs) ≡ Some (t.action a (take (length t.cells) bs))
unfolding first_match
meant [] bs t a h = cc
meant (u ∷ us) bs t a h =
    elim (cases_Bool (matches_cells u.cells bs)) [
      | inl y ↦
          (let e : Some u ≡ Some t = rw y at h in
          let same : u ≡ t = cc in
          subst (λ (x : Template). first_meaning nop (u ∷ us) a (take (length x.cells) bs) ≡ Some (x.action a (take (length x.cells) bs))) same (rw (whole_fills u bs y) refl))
      | inr n ↦ rw (first_passes u t bs n) (meant us bs t a (rw n at h))
    ]

-- it stands there
pub first_stands : (ts : List Template) (bs : List ℕ) (t : Template) → first_match ts bs ≡ Some t → matches_cells t.cells bs ≡ true
unfolding first_match
first_stands [] bs t h = cc
first_stands (u ∷ us) bs t h =
    elim (cases_Bool (matches_cells u.cells bs)) [
      | inl y ↦ (let e : Some u ≡ Some t = rw y at h in let same : u ≡ t = cc in subst (λ (x : Template). matches_cells x.cells bs ≡ true) same y)
      | inr n ↦ first_stands us bs t (rw n at h)
    ]

-- ---- in memory

index_front : (bs : List ℕ) (n k : ℕ) → k < length (take n bs) → (k < length bs) × (slice_index (take n bs) k ≡ slice_index bs k)
index_front bs zero k lt = absurd (omega (arith, lt))
index_front [] (suc n) k lt = absurd (omega (arith, lt))
index_front (b ∷ bs) (suc n) zero lt = (omega arith, refl)
index_front (b ∷ bs) (suc n) (suc k) lt = (let r = index_front bs n k (omega (arith, lt)) in let l = r.0 in (omega (arith, l), r.1))

pub held_front : (m : Memory) (a : ℕ) (bs : List ℕ) (n : ℕ) → Holds m a bs → Holds m a (take n bs)
held_front m a bs n h = λ k lt. (let i = index_front bs n k lt in h k i.0 ∙ ap (λ (b : ℕ). Some b) (sym i.1))

twice : (width n : ℕ) → (if width == 32 then n % 2 ^ 32 else n) % 2 ^ width ≡ n % 2 ^ width
twice width n =
    elim (cases_Bool (width == 32)) [
      | inl y ↦ (let e : width ≡ 32 = eqb-true width 32 y in rw (y, e) (omega arith))
      | inr f ↦ rw f refl
    ]

-- an operand is none that a descriptor gives
abbrev is_told : Operand → Bool
is_told (Offset x) = false
is_told other = true

-- what a descriptor gives is read as it was noted
abbrev pub ReadsOffset : Memory → Reader → Operand → Type 0
ReadsOffset m read operand = (x : ℕ) → operand ≡ Offset x → read operand ≡ first_value m.descriptors x

no_offset : (m : Memory) (read : Reader) (operand : Operand) → is_told operand ≡ true → ReadsOffset m read operand
no_offset m read operand plain = λ x e. absurd (let both : false ≡ true = sym (ap is_told e) ∙ plain in cc)

-- with a reader of that memory
pub told_by : (m : Memory) (size : ℕ) (act : Action) (e : running.Effect) (read : Reader) → ReadsMemory m read → ReadsOffset m read act.operand → effect_in m size act ≡ Some e → effect read act ≡ effect_read_by read e
told_by m size act e read reads offset h = by_operand act.deed act.width act.operand offset h
  where
    worded : (deed : Deed) (width : ℕ) (o : Option ℕ) → option_map (λ (v : Value). record { length = size; width = width; deed = deed; value = narrowed_value width v }) (option_map values.Number o) ≡ Some e → option_map (λ (v : ℕ). record { deed = deed; width = width; value = v % 2 ^ width }) o ≡ effect_read_by read e
    worded deed width None h = cc
    worded deed width (Some n) h =
        let same : record { length = size; width = width; deed = deed; value = narrowed_value width (values.Number n) } ≡ e = cc in
        subst (λ (x : running.Effect). option_map (λ (v : ℕ). record { deed = deed; width = width; value = v % 2 ^ width }) (Some n) ≡ effect_read_by read x) same
        (rw (reads.numbers (if width == 32 then n % 2 ^ 32 else n)) (ap (λ (v : ℕ). Some (record { deed = deed; width = width; value = v })) (sym (twice width n))))

    by_operand : (deed : Deed) (width : ℕ) (operand : Operand) → ReadsOffset m read operand → effect_in m size (record { deed = deed; width = width; operand = operand }) ≡ Some e → effect read (record { deed = deed; width = width; operand = operand }) ≡ effect_read_by read e
    by_operand deed width (Offset x) offset h = rw (offset x refl) (worded deed width (first_value m.descriptors x) h)
    by_operand deed width (Number n) offset h = rw (reads.numbers n) (worded deed width (Some n) h)
    by_operand deed width (Word x) offset h = rw (reads.words x) (worded deed width (number_in m x 8) h)
    by_operand deed width (Pair x) offset h = (let same : record { length = size; width = width; deed = deed; value = values.Pair x } ≡ e = cc in subst (λ (y : running.Effect). effect read (record { deed = deed; width = width; operand = Pair x }) ≡ effect_read_by read y) same refl)

pub sized : (m : Memory) (size : ℕ) (act : Action) (o : Option Value) (e : running.Effect) → option_map (λ (v : Value). record { length = size; width = act.width; deed = act.deed; value = narrowed_value act.width v }) o ≡ Some e → size ≡ e.length
sized m size act None e h = cc
sized m size act (Some v) e h = (let same : record { length = size; width = act.width; deed = act.deed; value = narrowed_value act.width v } ≡ e = cc in ap (λ (x : running.Effect). x.length) same)

by_standing : (m : Memory) (a : ℕ) (e : running.Effect) (bs : List ℕ) (found : Option Template) → first_match templates_x86_64 bs ≡ found → Holds m a bs → option_and_then (effect_of m a bs) found ≡ Some e → HasMeaning m a e
unfolding meaning_x86_64
by_standing m a e bs None f held h = cc
by_standing m a e bs (Some t) f held h =
    let own = take (length t.cells) bs in
    let act = t.action a own in
    let plain = standing_passes (λ (x : Template). is_told (x.action a own).operand) templates_x86_64 bs t refl f in
    let n : length own ≡ length t.cells = take_long bs (length t.cells) (stands_long t.cells bs (first_stands templates_x86_64 bs t f)) in
    record {
      bytes = own;
      held = held_front m a bs (length t.cells) held;
      long = n ∙ sized m (length t.cells) act (operand_value m act.operand) e h;
      means = λ read reads. ap (λ (o : Option Action). option_and_then (effect read) o) (meant templates_x86_64 bs t a f) ∙ told_by m (length t.cells) act e read reads (no_offset m read act.operand plain) h;
    }

pub steps-meant : StepsAreMeant
unfolding step_x86_64
steps-meant = λ m a e h. by_standing m a e (window m a 22) (first_match templates_x86_64 (window m a 22)) refl (held-window m a 22) h
