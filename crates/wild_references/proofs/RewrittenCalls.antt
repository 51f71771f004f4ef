-- Sequences whose call goes through a slot: where the reader knows one, a row stands at its first relocation.
use Rattle.wild_references.proofs.Common.{◌≡◌, ℕ, zero, suc, ◌+◌, ◌-◌, ◌<◌, ◌≤◌, ◌⊎◌, inl, inr, Bool, true, false, List, [], ◌∷◌, length, get_or, take, drop, refl, sym, ap, ◌∙◌, arith, subst, ⊤, ◌&&◌, ◌||◌, ◌==◌, nat_le, Contains, slice_range, Option, list_all, eqb-true, le-leb, eq-eqb, and_parts, listed_passes, InputRelocation, Item, Layout, has_flag, interposable, ifunc, is_executable, is_static_executable, executable, flags_at, Cell, Pattern, GENERAL_NO_PLT, GENERAL_NO_PLT_SLOT, LOCAL_NO_PLT, pattern_matches_before, cells_match_at, applies, question_of, general_slot_call, local_slot_call, Instruction, by_call, by_distance, instructions_of, are_several}
use Rattle.std.proofs.lemmas.List.{take-take}
use Rattle.wild_records.specs.Abi.Relocation as abi
use Rattle.wild_types.specs.declared.kind.Machine.TheVariants as machine
use Rattle.wild_relax.specs.declared.pattern.GeneralForm.TheVariants as general
use Rattle.wild_relax.specs.declared.pattern.LocalForm.TheVariants as local
use Rattle.wild_relax.specs.declared.pattern.Cell.TheVariants as cells
use Rattle.wild_relax.specs.declared.pattern.Pattern.TheVariants as pattern
use Rattle.wild_relax.specs.Pattern as writer
use Rattle.wild_loader.specs.Instruction as judge
use Rattle.wild_loader.specs.declared.instruction.Cell as judge-cell
use Rattle.wild_loader.specs.declared.instruction.Cell.TheVariants as judge-cells
use Rattle.wild_meaning.specs.Sequence.{Partner}
use Rattle.wild_meaning.proofs.AmongLemmas.{Among, pick}
use Rattle.wild_references.proofs.RewrittenForms.{instruction_of}
use Rattle.wild_references.proofs.RewrittenSingles.{has_number}

-- ---- each instruction that the reader knows

abbrev pub EachOf : {X : Type 0} → (X → Type 0) → List X → Type 0
EachOf P [] = ⊤
EachOf P (x ∷ xs) = P x × EachOf P xs

pub each_of : {X : Type 0} (P : X → Type 0) (xs : List X) (o : X) (k : ℕ) → EachOf P xs → k < length xs → get_or xs k o ≡ o → P o
each_of P [] o k h lt e = absurd (omega (arith, lt))
each_of P (x ∷ xs) o zero h lt e = subst P e h.0
each_of P (x ∷ xs) o (suc k) h lt e = each_of P xs o k h.1 (omega (arith, lt)) e

abbrev pub general_slot : Instruction
general_slot = instruction_of GENERAL_NO_PLT

abbrev pub local_slot : Instruction
local_slot = instruction_of LOCAL_NO_PLT

-- types of direct calls
abbrev pub direct_numbers : List ℕ
direct_numbers = abi.r_x86_64_pc32 ∷ abi.r_x86_64_plt32 ∷ abi.r_x86_64_pltoff64 ∷ []

-- a sequence is one of the two, or calls directly
abbrev pub IsCallOf : Instruction → Type 0
IsCallOf o = (c : Partner) → o.partners ≡ c ∷ [] → (o ≡ general_slot) ⊎ ((o ≡ local_slot) ⊎ ((n : ℕ) → Contains c.numbers n → has_number n direct_numbers ≡ true))

one_number : (a n k : ℕ) → k < 1 → get_or (a ∷ []) k n ≡ n → n ≡ a
one_number a n zero lt e = sym e
one_number a n (suc k) lt e = absurd (omega (arith, lt))

-- the only relocation type of a sequence's first field
pub only_number : (a n : ℕ) → Contains (a ∷ []) n → n ≡ a
only_number a n c = one_number a n c.0 c.1 c.2

calls_directly : (o : Instruction) (p : Partner) → o.partners ≡ p ∷ [] → list_all (λ n. has_number n direct_numbers) p.numbers ≡ true → IsCallOf o
calls_directly o p e all c h =
    let both : p ∷ [] ≡ c ∷ [] = sym e ∙ h in
    let same : p ≡ c = cc in
    inr (inr (λ n listed. listed_passes (λ (n : ℕ). has_number n direct_numbers) p.numbers n all (subst (λ (x : Partner). Contains x.numbers n) (sym same) listed)))

each_call : Among (λ (o : Instruction). are_several o.partners) IsCallOf (instructions_of machine.X86_64)
each_call = (calls_directly _ (by_call 12) refl refl, ((λ c h. inl refl), (calls_directly _ (by_distance 9) refl refl, (calls_directly _ (by_call 8) refl refl, ((λ c h. inr (inl refl)), (calls_directly _ (by_distance 9) refl refl, tt))))))

pub calls_of : (o : Instruction) → Contains (instructions_of machine.X86_64) o → IsCallOf o
calls_of o known c calls = pick (λ (p : Instruction). are_several p.partners) IsCallOf (instructions_of machine.X86_64) each_call o known (ap are_several calls) c calls

-- ---- the pattern stands

-- what fits the reader's cell fits the writer's
abbrev backs : judge-cell.Cell → Cell → Bool
backs (judge-cells.Is n) (cells.Is k) = n == k
backs c cells.Any = true
backs c d = false

backed : (c : judge-cell.Cell) (d : Cell) (b : ℕ) → backs c d ≡ true → judge.fits c b ≡ true → writer.fits d b ≡ true
backed c cells.Any b h e = refl
backed (judge-cells.Is n) (cells.Is k) b h e = subst (λ (x : ℕ). (b == x) ≡ true) (eqb-true n k h) e
backed (judge-cells.From low high) (cells.Is k) b h e = cc
backed judge-cells.Slot (cells.Is k) b h e = cc
backed (judge-cells.Digit d) (cells.Is k) b h e = cc
backed judge-cells.Any (cells.Is k) b h e = cc
backed (judge-cells.Is n) cells.RexWide b h e = cc
backed (judge-cells.From low high) cells.RexWide b h e = cc
backed judge-cells.Slot cells.RexWide b h e = cc
backed (judge-cells.Digit d) cells.RexWide b h e = cc
backed judge-cells.Any cells.RexWide b h e = cc
backed (judge-cells.Is n) cells.Rex2Wide b h e = cc
backed (judge-cells.From low high) cells.Rex2Wide b h e = cc
backed judge-cells.Slot cells.Rex2Wide b h e = cc
backed (judge-cells.Digit d) cells.Rex2Wide b h e = cc
backed judge-cells.Any cells.Rex2Wide b h e = cc
backed (judge-cells.Is n) cells.Slot b h e = cc
backed (judge-cells.From low high) cells.Slot b h e = cc
backed judge-cells.Slot cells.Slot b h e = cc
backed (judge-cells.Digit d) cells.Slot b h e = cc
backed judge-cells.Any cells.Slot b h e = cc

-- the writer's cells are the first of the reader's
abbrev backs_all : List judge-cell.Cell → List Cell → Bool
backs_all cs [] = true
backs_all [] (d ∷ ds) = false
backs_all (c ∷ cs) (d ∷ ds) = backs c d && backs_all cs ds

all_backed : (cs : List judge-cell.Cell) (ds : List Cell) (bs : List ℕ) → backs_all cs ds ≡ true → judge.matches_cells cs bs ≡ true → writer.matches_cells ds (take (length ds) bs) ≡ true
all_backed cs [] bs h e = refl
all_backed [] (d ∷ ds) bs h e = cc
all_backed (c ∷ cs) (d ∷ ds) [] h e = cc
all_backed (c ∷ cs) (d ∷ ds) (b ∷ bs) h e =
    let x = and_parts (backs c d) (backs_all cs ds) h in
    let y = and_parts (judge.fits c b) (judge.matches_cells cs bs) e in
    rw (backed c d b x.0 y.0, all_backed cs ds bs x.1 y.1) refl

front : (bs : List ℕ) (a k n : ℕ) → k ≤ n → take k (slice_range bs a (a + n)) ≡ slice_range bs a (a + k)
front bs a k n h =
    let e : a + n - a ≡ n = omega arith in
    let f : a + k - a ≡ k = omega arith in
    rw (e, f) (take-take k n (drop a bs) h)

-- a pattern with its field stands where the first cells of an instruction do
pub cells_match_pattern : (cs : List judge-cell.Cell) (p : Pattern) (bs : List ℕ) (offset from : ℕ) → backs_all cs (writer.pattern_cells p) ≡ true → length (writer.pattern_cells p) ≤ length cs → offset ≡ from + writer.field_of p → from + length cs ≤ length bs → judge.matches_cells cs (slice_range bs from (from + length cs)) ≡ true → pattern_matches_before bs offset p ≡ true
unfolding pattern_matches_before cells_match_at
cells_match_pattern cs p bs offset from h short place inside e =
    let n = length (writer.pattern_cells p) in
    let start : offset - writer.field_of p ≡ from = omega (arith, place) in
    let low : nat_le (writer.field_of p) offset ≡ true = le-leb _ _ (omega (arith, place)) in
    let room : nat_le (from + n) (length bs) ≡ true = le-leb _ _ (omega (arith, short, inside)) in
    let same = subst (λ (xs : List ℕ). writer.matches_cells (writer.pattern_cells p) xs ≡ true) (front bs from n (length cs) short) (all_backed cs (writer.pattern_cells p) (slice_range bs from (from + length cs)) h e) in
    rw (start, low, room, same) refl

pub general_backed : backs_all general_slot_call.cells (writer.pattern_cells (pattern.General general.NoPlt)) ≡ true
general_backed = refl

pub local_backed : backs_all local_slot_call.cells (writer.pattern_cells (pattern.LocalStart local.NoPlt)) ≡ true
local_backed = refl

-- ---- a row that stands

-- a relocation whose sequence goes through a slot, where rewriting is on or there is no other way
pub record IsAskedFor (l : Layout) (s : Item) (k : ℕ) : Type 0 where
  pub on : (l.options.relax || is_static_executable l.kind) ≡ true
  pub code : executable s.flags ≡ true
  pub plain : has_flag (flags_at l k) ifunc ≡ false
  pub program : is_executable l.kind ≡ true

pub local_applies : (l : Layout) (s : Item) (r : InputRelocation) (k : ℕ) (next : Option InputRelocation) → IsAskedFor l s k → r.number ≡ abi.r_x86_64_tlsld → pattern_matches_before s.bytes r.offset (pattern.LocalStart local.NoPlt) ≡ true → applies (question_of l s r k next) LOCAL_NO_PLT ≡ true
unfolding applies
local_applies l s r k next h number stands = rw (eq-eqb r.number abi.r_x86_64_tlsld number, h.on, h.code, h.plain, h.program, stands) refl

pub own_applies : (l : Layout) (s : Item) (r : InputRelocation) (k : ℕ) (next : Option InputRelocation) → IsAskedFor l s k → interposable (flags_at l k) ≡ false → r.number ≡ abi.r_x86_64_tlsgd → pattern_matches_before s.bytes r.offset (pattern.General general.NoPlt) ≡ true → applies (question_of l s r k next) GENERAL_NO_PLT ≡ true
unfolding applies
own_applies l s r k next h own number stands = rw (eq-eqb r.number abi.r_x86_64_tlsgd number, h.on, h.code, h.plain, h.program, own, stands) refl

pub open_applies : (l : Layout) (s : Item) (r : InputRelocation) (k : ℕ) (next : Option InputRelocation) → IsAskedFor l s k → l.options.relax ≡ true → interposable (flags_at l k) ≡ true → r.number ≡ abi.r_x86_64_tlsgd → pattern_matches_before s.bytes r.offset (pattern.General general.NoPlt) ≡ true → applies (question_of l s r k next) GENERAL_NO_PLT_SLOT ≡ true
unfolding applies
open_applies l s r k next h on open_one number stands = rw (eq-eqb r.number abi.r_x86_64_tlsgd number, on, h.code, h.plain, h.program, open_one, stands) refl
