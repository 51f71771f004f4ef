-- The instruction of a row is the one that the reference belongs to.
use Rattle.wild_references.proofs.Common.{◌≡◌, ℕ, zero, suc, ◌+◌, ◌<◌, ◌≤◌, inl, inr, Bool, true, false, List, [], ◌∷◌, length, get_or, refl, sym, arith, subst, ◌||◌, ◌==◌, not, nat_le, slice_range, Contains, list_all, cases_Bool, eq-eqb, leb-true, and_parts, listed_passes, implied, or_other, Machine, InputRelocation, Layout, Row, minus_four, rows_x86_64, is_skip, rewrite_of, keeps_bytes, template_start, IsDecided, Item, words_of, Instruction, size_of, instructions_of, Sort, DescribedCall, IsInstruction, HasOriginAddend, are_several, WindowsHaveNoOtherField}
use Rattle.wild_records.specs.Abi.Relocation as abi
use Rattle.wild_types.specs.declared.kind.Machine.TheVariants as machine
use Rattle.wild_references.proofs.RewrittenForms.{instruction_of}
use Rattle.wild_references.proofs.RewrittenPairs.{paired}
use Rattle.wild_references.proofs.RewrittenPlaces.{IsPlacedRow, is_code, counts_ended, size_is, cells_stand}
use Rattle.wild_references.proofs.RewrittenInInput.{field_is, called, in_no_field}

-- ---- the instruction stands

-- a row of one instruction counts from its end, or is the call through a descriptor
abbrev is_described : Sort → Bool
is_described DescribedCall = true
is_described other = false

abbrev ends_or_call : Row → Bool
ends_or_call row = keeps_bytes row || (is_skip (rewrite_of row).next || ((row.ends || row.needs_end) || is_described (instruction_of row).sort))

each_ends : list_all ends_or_call rows_x86_64 ≡ true
unfolding rows_x86_64
each_ends = refl

counts_single : (a b : Bool) (o : Sort) (r : InputRelocation) → (a || is_described o) ≡ true → (not a || b) ≡ true → (b ≡ true → minus_four r.addend ≡ true) → HasOriginAddend machine.X86_64 o r
counts_single true true o r h e ends = counts_ended o r (ends refl)
counts_single true false o r h e ends = cc
counts_single false b DescribedCall r h e ends = tt
counts_single false b other r h e ends = cc

pub counts : (l : Layout) (s : Item) (i : ℕ) (r : InputRelocation) (row : Row) (v : ℕ) → IsPlacedRow l s i r row v → HasOriginAddend machine.X86_64 (instruction_of row).sort r
counts l s i r row v p =
    elim (cases_Bool (is_skip (rewrite_of row).next)) [
      | inl skips ↦ (let pair = paired row p.changing skips in counts_ended (instruction_of row).sort r (called l s row r p.chosen.symbol pair.distance _ pair.behind p.stands.taken.partner).2.ends)
      | inr alone ↦
          (let ends = or_other (is_skip (rewrite_of row).next) _ (or_other (keeps_bytes row) _ (listed_passes ends_or_call rows_x86_64 row each_ends p.changing.listed) p.made.changes) alone in
          counts_single (row.ends || row.needs_end) (minus_four r.addend) (instruction_of row).sort r ends p.stands.taken.addend (λ e. e))
    ]

pub stands_there : WindowsHaveNoOtherField → (l : Layout) (s : Item) (i : ℕ) (r : InputRelocation) (row : Row) (v : ℕ) → l.machine ≡ machine.X86_64 → IsDecided l s → IsPlacedRow l s i r row v → IsInstruction l s r (template_start row r) (instruction_of row)
stands_there law l s i r row v x86 decided p =
    let size = size_is l s i r row v p in
    let inside = p.stands.inside in
    record {
      code = is_code l s i r row v p;
      known = subst (λ (m : Machine). Contains (instructions_of m) (instruction_of row)) (sym x86) p.fits.known;
      number = subst (λ (n : ℕ). Contains (instruction_of row).numbers n) (sym p.chosen.number) p.fits.number;
      field = field_is l s i r row v p;
      inside = omega (arith, size, inside);
      stands = cells_stand l s i r row v p;
      words = listed_passes (λ (o : Instruction). o.words (words_of (slice_range s.bytes (template_start row r) (template_start row r + size_of (instruction_of row))))) (instructions_of machine.X86_64) (instruction_of row) refl p.fits.known;
      counts = subst (λ (m : Machine). HasOriginAddend m (instruction_of row).sort r) (sym x86) (counts l s i r row v p);
      alone = λ k own. in_no_field law l s i r row v k x86 decided p own;
    }

-- ---- of those of one relocation type the longest

abbrev pub has_number : ℕ → List ℕ → Bool
has_number n [] = false
has_number n (x ∷ xs) = x == n || has_number n xs

-- an instruction of one field that takes the type is no longer than that
abbrev pub is_short : ℕ → ℕ → Instruction → Bool
is_short n size p = are_several p.partners || (not (has_number n p.numbers) || nat_le (size_of p) size)

pub has_listed : (n : ℕ) (xs : List ℕ) (k : ℕ) → k < length xs → get_or xs k n ≡ n → has_number n xs ≡ true
has_listed n [] k lt e = absurd (omega (arith, lt))
has_listed n (x ∷ xs) zero lt e = rw (eq-eqb x n e) refl
has_listed n (x ∷ xs) (suc k) lt e = right (x == n) (has_number n xs) (has_listed n xs k (omega (arith, lt)) e)
  where
    right : (a b : Bool) → b ≡ true → (a || b) ≡ true
    right true b h = refl
    right false b h = h

pub passes : (test : Instruction → Bool) (xs : List Instruction) (o : Instruction) (k : ℕ) → k < length xs → get_or xs k o ≡ o → list_all test xs ≡ true → test o ≡ true
passes test [] o k lt e h = absurd (omega (arith, lt))
passes test (x ∷ xs) o zero lt e h = subst (λ (y : Instruction). test y ≡ true) e (and_parts (test x) (list_all test xs) h).0
passes test (x ∷ xs) o (suc k) lt e h = passes test xs o k (omega (arith, lt)) e (and_parts (test x) (list_all test xs) h).1

short_by : (a b : Bool) (n k : ℕ) → a ≡ false → b ≡ true → (a || (not b || nat_le n k)) ≡ true → n ≤ k
short_by true b n k e f h = cc
short_by false false n k e f h = cc
short_by false true n k e f h = leb-true n k h

none_is : (p : Instruction) → p.partners ≡ [] → are_several p.partners ≡ false
none_is p e = rw e refl

pub no_longer : (l : Layout) (s : Item) (r : InputRelocation) (from n size : ℕ) (p : Instruction) → l.machine ≡ machine.X86_64 → r.number ≡ n → list_all (is_short n size) (instructions_of machine.X86_64) ≡ true → p.partners ≡ [] → IsInstruction l s r from p → size_of p ≤ size
no_longer l s r from n size p x86 number all none h =
    let known = subst (λ (m : Machine). Contains (instructions_of m) p) x86 h.known in
    let listed = subst (λ (x : ℕ). Contains p.numbers x) number h.number in
    short_by (are_several p.partners) (has_number n p.numbers) (size_of p) size (none_is p none) (has_listed n p.numbers listed.0 listed.1 listed.2) (passes (is_short n size) (instructions_of machine.X86_64) p known.0 known.1 known.2 all)

-- but R_X86_64_GOTPCREL does not tell the prefix
abbrev pub is_told : Row → Bool
is_told row = not (row.number == abi.r_x86_64_gotpcrel)

abbrev pub is_longest : Row → Bool
is_longest row = keeps_bytes row || (not (is_told row) || (is_skip (rewrite_of row).next || list_all (is_short row.number (size_of (instruction_of row))) (instructions_of machine.X86_64)))

pub each_longest : list_all is_longest rows_x86_64 ≡ true
unfolding rows_x86_64
each_longest = refl

pub longest : (row : Row) → is_longest row ≡ true → keeps_bytes row ≡ false → is_told row ≡ true → is_skip (rewrite_of row).next ≡ false → list_all (is_short row.number (size_of (instruction_of row))) (instructions_of machine.X86_64) ≡ true
longest row h changes told alone = or_other (is_skip (rewrite_of row).next) _ (implied (is_told row) _ (or_other (keeps_bytes row) _ h changes) told) alone
