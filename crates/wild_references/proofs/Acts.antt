-- Each instruction that relocations fill is the one that its bytes mean.
use Rattle.wild_references.proofs.Common.{◌≡◌, ℕ, suc, ◌+◌, true, List, [], ◌∷◌, length, get_or, refl, sym, ap, ◌∙◌, arith, subst, ◌&&◌, ◌==◌, nat_le, bit_and, Some, nat_tests, and_parts, Is, From, Slot, Digit, Any, Number, Word, Set, Subtract, Compare, Call, Jump, fits, matches_cells, Template, no_prefix, rex, rex2, branch, with_slot, general_call, general_slot_call, far_pair_call, local_call, local_slot_call, meaning_x86_64, descriptor_call}
use Rattle.wild_loader.specs.declared.instruction.Cell.{Cell}
use Rattle.wild_loader.specs.declared.instruction.Deed.TheVariants.{Add}

-- ---- bytes spelled by cells

abbrev pub spelled : Cell → ℕ → ℕ
spelled (Is n) b = n
spelled (From l h) b = b
spelled Slot b = b
spelled (Digit d) b = b
spelled Any b = b

abbrev pub filled : List Cell → ℕ → List ℕ → List ℕ
filled [] k whole = []
filled (c ∷ cs) k whole = spelled c (get_or whole k 0) ∷ filled cs (k + 1) whole

spelled_is : (c : Cell) (b : ℕ) → fits c b ≡ true → b ≡ spelled c b
spelled_is (Is n) b h = grind (arith, nat_tests)
spelled_is (From l u) b h = refl
spelled_is Slot b h = refl
spelled_is (Digit d) b h = refl
spelled_is Any b h = refl

from : (cs : List Cell) (bs whole : List ℕ) (k : ℕ) → ((i : ℕ) → get_or whole (k + i) 0 ≡ get_or bs i 0) → length bs ≡ length cs → matches_cells cs bs ≡ true → bs ≡ filled cs k whole
from [] [] whole k same long h = refl
from [] (b ∷ bs) whole k same long h = absurd (omega arith)
from (c ∷ cs) [] whole k same long h = absurd (omega arith)
from (c ∷ cs) (b ∷ bs) whole k same long h =
    let z : k + 0 ≡ k = omega arith in
    let here : get_or whole k 0 ≡ b = subst (λ (j : ℕ). get_or whole j 0 ≡ b) z (same 0) in
    let each = and_parts (fits c b) (matches_cells cs bs) h in
    let first : b ≡ spelled c b = spelled_is c b each.0 in
    let next : (i : ℕ) → get_or whole (k + 1 + i) 0 ≡ get_or bs i 0 = λ i. subst (λ (j : ℕ). get_or whole j 0 ≡ get_or bs i 0) (omega arith) (same (suc i)) in
    let rest : bs ≡ filled cs (k + 1) whole = from cs bs whole (k + 1) next (omega arith) each.1 in
    ap (λ (x : ℕ). x ∷ bs) first ∙ ap (λ (x : ℕ). spelled c x ∷ bs) (sym here) ∙ ap (λ (xs : List ℕ). spelled c (get_or whole k 0) ∷ xs) rest

pub shape : (cs : List Cell) (bs : List ℕ) → length bs ≡ length cs → matches_cells cs bs ≡ true → bs ≡ filled cs 0 bs
shape cs bs long h = from cs bs bs 0 (λ i. subst (λ (j : ℕ). get_or bs j 0 ≡ get_or bs i 0) (omega arith) refl) long h

pub shape_stands : (cs : List Cell) (bs : List ℕ) → length bs ≡ length cs → matches_cells cs bs ≡ true → matches_cells cs (filled cs 0 bs) ≡ true
shape_stands cs bs long h = subst (λ (xs : List ℕ). matches_cells cs xs ≡ true) (shape cs bs long h) h

-- ---- what the bytes of an instruction mean

abbrev pub Means : Template → List ℕ → Type 0
Means t bs = (a : ℕ) → meaning_x86_64 a bs ≡ Some (t.action a bs)

abbrev pub IsMeant : Template → Type 0
IsMeant t = (bs : List ℕ) → length bs ≡ length t.cells → matches_cells t.cells bs ≡ true → Means t bs

abbrev pub IsMeantFilled : Template → Type 0
IsMeantFilled t = (bs : List ℕ) → matches_cells t.cells (filled t.cells 0 bs) ≡ true → Means t (filled t.cells 0 bs)

by_shape : (t : Template) → IsMeantFilled t → IsMeant t
by_shape t f bs long h = subst (λ (xs : List ℕ). Means t xs) (sym (shape t.cells bs long h)) (f bs (shape_stands t.cells bs long h))

pub call_near : IsMeant (branch (0xe8 ∷ []) Number Call)
unfolding meaning_x86_64
call_near = by_shape (branch (0xe8 ∷ []) Number Call) (λ bs h a. refl)

pub jump_near : IsMeant (branch (0xe9 ∷ []) Number Jump)
unfolding meaning_x86_64
jump_near = by_shape (branch (0xe9 ∷ []) Number Jump) (λ bs h a. refl)

pub call_slot : IsMeant (branch (0xff ∷ 0x15 ∷ []) Word Call)
unfolding meaning_x86_64
call_slot = by_shape (branch (0xff ∷ 0x15 ∷ []) Word Call) (λ bs h a. refl)

pub jump_slot : IsMeant (branch (0xff ∷ 0x25 ∷ []) Word Jump)
unfolding meaning_x86_64
jump_slot = by_shape (branch (0xff ∷ 0x25 ∷ []) Word Jump) (λ bs h a. refl)

pub call_described : IsMeant descriptor_call
unfolding meaning_x86_64
call_described = by_shape descriptor_call (λ bs h a. refl)

pub general : IsMeant general_call
unfolding meaning_x86_64
general = by_shape general_call (λ bs h a. refl)

pub general_slot : IsMeant general_slot_call
unfolding meaning_x86_64
general_slot = by_shape general_slot_call (λ bs h a. refl)

pub far : IsMeant far_pair_call
unfolding meaning_x86_64
far = by_shape far_pair_call (λ bs h a. refl)

pub local : IsMeant local_call
unfolding meaning_x86_64
local = by_shape local_call (λ bs h a. refl)

pub local_slot : IsMeant local_slot_call
unfolding meaning_x86_64
local_slot = by_shape local_slot_call (λ bs h a. refl)

-- ---- a register and a slot

slot_byte : (b : ℕ) → (bit_and b 0xc7 == 5 && true) ≡ true → (bit_and b 0xc7 == 5) ≡ true
slot_byte b h = (and_parts (bit_and b 0xc7 == 5) true h).0

pub bare_mov : IsMeant (with_slot 0x8b Word Set no_prefix)
unfolding meaning_x86_64
bare_mov = by_shape (with_slot 0x8b Word Set no_prefix) (λ bs h a. rw (slot_byte (get_or bs 1 0) h) refl)

pub bare_add : IsMeant (with_slot 0x03 Word Add no_prefix)
unfolding meaning_x86_64
bare_add = by_shape (with_slot 0x03 Word Add no_prefix) (λ bs h a. rw (slot_byte (get_or bs 1 0) h) refl)

pub bare_sub : IsMeant (with_slot 0x2b Word Subtract no_prefix)
unfolding meaning_x86_64
bare_sub = by_shape (with_slot 0x2b Word Subtract no_prefix) (λ bs h a. rw (slot_byte (get_or bs 1 0) h) refl)

pub bare_cmp : IsMeant (with_slot 0x3b Word Compare no_prefix)
unfolding meaning_x86_64
bare_cmp = by_shape (with_slot 0x3b Word Compare no_prefix) (λ bs h a. rw (slot_byte (get_or bs 1 0) h) refl)

pub rex_mov : IsMeant (with_slot 0x8b Word Set rex)
unfolding meaning_x86_64
rex_mov = by_shape (with_slot 0x8b Word Set rex) (λ bs h a. let p = and_parts (nat_le 0x48 (get_or bs 0 0) && nat_le (get_or bs 0 0) 0x4f) (bit_and (get_or bs 2 0) 0xc7 == 5 && true) h in rw (p.0, slot_byte (get_or bs 2 0) p.1) refl)

pub rex_add : IsMeant (with_slot 0x03 Word Add rex)
unfolding meaning_x86_64
rex_add = by_shape (with_slot 0x03 Word Add rex) (λ bs h a. let p = and_parts (nat_le 0x48 (get_or bs 0 0) && nat_le (get_or bs 0 0) 0x4f) (bit_and (get_or bs 2 0) 0xc7 == 5 && true) h in rw (p.0, slot_byte (get_or bs 2 0) p.1) refl)

pub rex_sub : IsMeant (with_slot 0x2b Word Subtract rex)
unfolding meaning_x86_64
rex_sub = by_shape (with_slot 0x2b Word Subtract rex) (λ bs h a. let p = and_parts (nat_le 0x48 (get_or bs 0 0) && nat_le (get_or bs 0 0) 0x4f) (bit_and (get_or bs 2 0) 0xc7 == 5 && true) h in rw (p.0, slot_byte (get_or bs 2 0) p.1) refl)

pub rex_cmp : IsMeant (with_slot 0x3b Word Compare rex)
unfolding meaning_x86_64
rex_cmp = by_shape (with_slot 0x3b Word Compare rex) (λ bs h a. let p = and_parts (nat_le 0x48 (get_or bs 0 0) && nat_le (get_or bs 0 0) 0x4f) (bit_and (get_or bs 2 0) 0xc7 == 5 && true) h in rw (p.0, slot_byte (get_or bs 2 0) p.1) refl)

pub rex_lea : IsMeant (with_slot 0x8d Number Set rex)
unfolding meaning_x86_64
rex_lea = by_shape (with_slot 0x8d Number Set rex) (λ bs h a. let p = and_parts (nat_le 0x48 (get_or bs 0 0) && nat_le (get_or bs 0 0) 0x4f) (bit_and (get_or bs 2 0) 0xc7 == 5 && true) h in rw (p.0, slot_byte (get_or bs 2 0) p.1) refl)

pub rex2_mov : IsMeant (with_slot 0x8b Word Set rex2)
unfolding meaning_x86_64
rex2_mov = by_shape (with_slot 0x8b Word Set rex2) (λ bs h a. let p = and_parts (nat_le 0 (get_or bs 1 0) && nat_le (get_or bs 1 0) 0x7f) (bit_and (get_or bs 3 0) 0xc7 == 5 && true) h in rw (p.0, slot_byte (get_or bs 3 0) p.1) refl)

pub rex2_add : IsMeant (with_slot 0x03 Word Add rex2)
unfolding meaning_x86_64
rex2_add = by_shape (with_slot 0x03 Word Add rex2) (λ bs h a. let p = and_parts (nat_le 0 (get_or bs 1 0) && nat_le (get_or bs 1 0) 0x7f) (bit_and (get_or bs 3 0) 0xc7 == 5 && true) h in rw (p.0, slot_byte (get_or bs 3 0) p.1) refl)

pub rex2_sub : IsMeant (with_slot 0x2b Word Subtract rex2)
unfolding meaning_x86_64
rex2_sub = by_shape (with_slot 0x2b Word Subtract rex2) (λ bs h a. let p = and_parts (nat_le 0 (get_or bs 1 0) && nat_le (get_or bs 1 0) 0x7f) (bit_and (get_or bs 3 0) 0xc7 == 5 && true) h in rw (p.0, slot_byte (get_or bs 3 0) p.1) refl)

pub rex2_cmp : IsMeant (with_slot 0x3b Word Compare rex2)
unfolding meaning_x86_64
rex2_cmp = by_shape (with_slot 0x3b Word Compare rex2) (λ bs h a. let p = and_parts (nat_le 0 (get_or bs 1 0) && nat_le (get_or bs 1 0) 0x7f) (bit_and (get_or bs 3 0) 0xc7 == 5 && true) h in rw (p.0, slot_byte (get_or bs 3 0) p.1) refl)

pub rex2_lea : IsMeant (with_slot 0x8d Number Set rex2)
unfolding meaning_x86_64
rex2_lea = by_shape (with_slot 0x8d Number Set rex2) (λ bs h a. let p = and_parts (nat_le 0 (get_or bs 1 0) && nat_le (get_or bs 1 0) 0x7f) (bit_and (get_or bs 3 0) 0xc7 == 5 && true) h in rw (p.0, slot_byte (get_or bs 3 0) p.1) refl)
