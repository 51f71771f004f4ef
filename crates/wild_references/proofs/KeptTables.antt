-- What each instruction that relocations fill has, and each row's pattern: their fields are the bytes that may be any.
use Rattle.wild_references.proofs.Common.{◌≡◌, ℕ, suc, ◌+◌, ◌-◌, ◌<◌, ◌≤◌, ◌⊎◌, inl, inr, Bool, true, false, List, [], ◌∷◌, length, get_or, take, drop, slice_range, refl, sym, ◌∙◌, arith, subst, not, ◌&&◌, ◌||◌, ◌==◌, nat_lt, nat_le, Contains, Option, Some, None, if◌then◌else◌, list_all, and_parts, eqb-true, le-leb, leb-true, ltb-true, or_cases, nat_tests, listed_passes, r_x86_64_pc32, r_x86_64_plt32, r_x86_64_pltoff64, r_x86_64_tlsgd, r_x86_64_tlsld, r_x86_64_tlsdesc_call, x86_64_formula, Cell, Pattern, Row, pattern_cells, field_of, partner_distance, call_form, rows_x86_64, is_skip, rewrite_of, pattern_of, pattern_size, keeps_bytes, Is, From, Slot, Digit, Any, fits, matches_cells, Instruction, size_of, IsOutsidePartners, IsOwnByte, instructions_of}
use Rattle.wild_types.specs.declared.kind.Machine.TheVariants as machine
use Rattle.wild_relax.specs.declared.pattern.Cell.TheVariants as its
use Rattle.wild_relax.specs.declared.pattern.GeneralForm.TheVariants as general
use Rattle.wild_relax.specs.declared.pattern.LocalForm.TheVariants as local
use Rattle.wild_relax.specs.declared.pattern.Pattern.TheVariants as pattern
use Rattle.wild_relax.specs.Pattern as pattern_fits
use Rattle.wild_loader.specs.declared.instruction.Cell as own-cell
use Rattle.wild_meaning.specs.Sequence.{Partner}
use Rattle.wild_meaning.proofs.PairLemmas.{the_one}
use Rattle.wild_references.proofs.WindowRows.{width_of, call_width}
use Rattle.wild_references.proofs.Clash.{is_free, below, below_at, stands_more}
use Rattle.wild_references.proofs.Fills.{is_any}
use Rattle.wild_references.proofs.RewrittenFree.{is_first}

-- ---- instructions

abbrev in_partners : List Partner → ℕ → Bool
in_partners [] k = false
in_partners (p ∷ ps) k = (nat_le p.field k && nat_lt k (p.field + p.width)) || in_partners ps k

-- byte k is in a field
abbrev in_fields : Instruction → ℕ → Bool
in_fields o k = (nat_le o.field k && nat_lt k (o.field + o.width)) || in_partners o.partners k

abbrev same : Bool → Bool → Bool
same true b = b
same false b = not b

abbrev widths_are : ℕ → List ℕ → Bool
widths_are width ns = list_all (λ n. width_of n == width) ns

abbrev partner_wide : Partner → Bool
partner_wide p = nat_lt 0 p.width && widths_are p.width p.numbers

-- the types of a descriptor's call, and of what begins a sequence
abbrev pub is_described_call : ℕ → Bool
is_described_call n = n == r_x86_64_tlsdesc_call

-- types of which no row writes other bytes than the field's; and rows of other types write them all
abbrev pub keeps_all : ℕ → Bool
keeps_all n = n == r_x86_64_pc32 || (n == r_x86_64_plt32 || n == r_x86_64_pltoff64)

-- two bytes has the call through a descriptor alone
abbrev calls_alone : Instruction → Bool
calls_alone o = if size_of o == 2 then list_all is_described_call o.numbers else true

abbrev begins_pair : Instruction → List Partner → Bool
begins_pair o [] = true
begins_pair o (p ∷ ps) = list_all is_first o.numbers

-- the cells of an instruction begin with those of a pattern
abbrev same_cell : own-cell.Cell → Cell → Bool
same_cell (Is m) (its.Is n) = m == n
same_cell Any its.Any = true
same_cell c d = false

abbrev pub same_front : List own-cell.Cell → List Cell → Bool
same_front cs [] = true
same_front [] (d ∷ ds) = false
same_front (c ∷ cs) (d ∷ ds) = same_cell c d && same_front cs ds

-- the instruction is what a row asks for at a relocation of that type
abbrev pub is_asked_for : ℕ → Pattern → Instruction → Bool
is_asked_for n p o = list_all (λ m. m == n) o.numbers && (o.field == field_of p && same_front o.template.cells (pattern_cells p))

-- the call of a sequence is of a type by which no row writes other bytes; or it goes through a slot
abbrev pub by_slot : Instruction → Bool
by_slot o = is_asked_for r_x86_64_tlsgd (pattern.General general.NoPlt) o || is_asked_for r_x86_64_tlsld (pattern.LocalStart local.NoPlt) o

abbrev call_kept : Instruction → Partner → Bool
call_kept o p = list_all keeps_all p.numbers || by_slot o

abbrev instruction_ok : Instruction → Bool
instruction_ok o =
    below (size_of o) (λ k. same (is_any (get_or o.template.cells k Any)) (in_fields o k))
    && (widths_are o.width o.numbers
    && (list_all partner_wide o.partners
    && (calls_alone o
    && (begins_pair o o.partners
    && list_all (call_kept o) o.partners))))

each_instruction_ok : list_all instruction_ok (instructions_of machine.X86_64) ≡ true
unfolding x86_64_formula
each_instruction_ok = refl

pub record IsFilled (o : Instruction) : Type 0 where
  pub any : (k : ℕ) → k < size_of o → same (is_any (get_or o.template.cells k Any)) (in_fields o k) ≡ true
  pub widths : widths_are o.width o.numbers ≡ true
  pub partner : list_all partner_wide o.partners ≡ true
  pub calls : calls_alone o ≡ true
  pub pair : begins_pair o o.partners ≡ true
  pub kept : list_all (call_kept o) o.partners ≡ true

pub is_filled : (o : Instruction) → Contains (instructions_of machine.X86_64) o → IsFilled o
is_filled o c =
    let a = and_parts _ _ (listed_passes instruction_ok (instructions_of machine.X86_64) o each_instruction_ok c) in
    let b = and_parts _ _ a.1 in
    let d = and_parts _ _ b.1 in
    let e = and_parts _ _ d.1 in
    let f = and_parts _ _ e.1 in
    record {
      any = λ k lt. below_at (size_of o) (λ k. same (is_any (get_or o.template.cells k Any)) (in_fields o k)) k lt a.0;
      widths = b.0;
      partner = d.0;
      calls = e.0;
      pair = f.0;
      kept = f.1;
    }

not_in : (a b k : ℕ) → (k < a) ⊎ (b ≤ k) → (nat_le a k && nat_lt k b) ≡ false
not_in a b k (inl low) = grind (arith, nat_tests, low)
not_in a b k (inr high) = grind (arith, nat_tests, high)

pub inside : (a b k : ℕ) → (nat_le a k && nat_lt k b) ≡ true → (a ≤ k) × (k < b)
inside a b k h = let x = and_parts (nat_le a k) (nat_lt k b) h in (leb-true a k x.0, ltb-true k b x.1)

not_in_partners : (ps : List Partner) (k : ℕ) → IsOutsidePartners k ps → in_partners ps k ≡ false
not_in_partners [] k h = refl
not_in_partners (p ∷ ps) k h = rw (not_in p.field (p.field + p.width) k h.0) (not_in_partners ps k h.1)

-- a byte of the instruction's own is fixed
pub own_is_fixed : (o : Instruction) (k : ℕ) → IsFilled o → IsOwnByte o k → is_any (get_or o.template.cells k Any) ≡ false
own_is_fixed o k f own = by (is_any (get_or o.template.cells k Any)) (in_fields o k) (f.any k own.inside) (none (nat_le o.field k && nat_lt k (o.field + o.width)) (in_partners o.partners k) (not_in o.field (o.field + o.width) k own.beside) (not_in_partners o.partners k own.apart))
  where
    none : (a b : Bool) → a ≡ false → b ≡ false → (a || b) ≡ false
    none true b e g = cc
    none false b e g = g

    by : (a b : Bool) → same a b ≡ true → b ≡ false → a ≡ false
    by true b s e = let g : true ≡ false = sym s ∙ e in cc
    by false b s e = refl

in_partner : (ps : List Partner) (k : ℕ) → in_partners ps k ≡ true → (p : Partner) × Contains ps p × (p.field ≤ k) × (k < p.field + p.width)
in_partner [] k h = cc
in_partner (p ∷ ps) k h =
    elim (or_cases (nat_le p.field k && nat_lt k (p.field + p.width)) (in_partners ps k) h) [
      | inl x ↦ (let y = inside p.field (p.field + p.width) k x in (p, (0, omega arith, refl), y.0, y.1))
      | inr x ↦ (let t = in_partner ps k x in let lt = t.1.1 in (t.0, (suc t.1.0, omega (arith, lt), t.1.2), t.2, t.3))
    ]

-- a byte that may be any is in a field
pub any_in_field : (o : Instruction) (k : ℕ) → IsFilled o → k < size_of o → is_any (get_or o.template.cells k Any) ≡ true → ((o.field ≤ k) × (k < o.field + o.width)) ⊎ ((p : Partner) × Contains o.partners p × (p.field ≤ k) × (k < p.field + p.width))
any_in_field o k f lt any =
    let there : in_fields o k ≡ true = subst (λ (b : Bool). same b (in_fields o k) ≡ true) any (f.any k lt) in
    elim (or_cases (nat_le o.field k && nat_lt k (o.field + o.width)) (in_partners o.partners k) there) [
      | inl x ↦ inl (inside o.field (o.field + o.width) k x)
      | inr x ↦ inr (in_partner o.partners k x)
    ]

pub number_width : (o : Instruction) (n : ℕ) → IsFilled o → Contains o.numbers n → width_of n ≡ o.width
number_width o n f c = eqb-true _ _ (listed_passes (λ m. width_of m == o.width) o.numbers n f.widths c)

pub partner_width : (o : Instruction) (p : Partner) (n : ℕ) → IsFilled o → o.partners ≡ p ∷ [] → Contains p.numbers n → width_of n ≡ p.width
partner_width o p n f e c =
    let t = listed_passes partner_wide o.partners p f.partner (the_one o.partners p e) in
    eqb-true _ _ (listed_passes (λ m. width_of m == p.width) p.numbers n (and_parts (nat_lt 0 p.width) (widths_are p.width p.numbers) t).1 c)

pub partner_some : (o : Instruction) (p : Partner) → IsFilled o → o.partners ≡ p ∷ [] → 0 < p.width
partner_some o p f e =
    let t = listed_passes partner_wide o.partners p f.partner (the_one o.partners p e) in
    ltb-true 0 p.width (and_parts (nat_lt 0 p.width) (widths_are p.width p.numbers) t).0

pub call_number : (o : Instruction) (n : ℕ) → IsFilled o → Contains o.numbers n → (size_of o == 2) ≡ true → n ≡ r_x86_64_tlsdesc_call
call_number o n f c two =
    let t : list_all is_described_call o.numbers ≡ true = rw two at f.calls in
    eqb-true _ _ (listed_passes is_described_call o.numbers n t c)

pub pair_number : (o : Instruction) (p : Partner) (n : ℕ) → IsFilled o → o.partners ≡ p ∷ [] → Contains o.numbers n → is_first n ≡ true
pair_number o p n f e c = listed_passes is_first o.numbers n (subst (λ (q : List Partner). begins_pair o q ≡ true) e f.pair) c

pub partner_kept : (o : Instruction) (p : Partner) (n : ℕ) → IsFilled o → o.partners ≡ p ∷ [] → Contains p.numbers n → (keeps_all n ≡ true) ⊎ (by_slot o ≡ true)
partner_kept o p n f e c =
    let t = listed_passes (call_kept o) o.partners p f.kept (the_one o.partners p e) in
    elim (or_cases (list_all keeps_all p.numbers) (by_slot o) t) [ inl x ↦ inl (listed_passes keeps_all p.numbers n x c) | inr x ↦ inr x ]

-- what a row asks for
pub record IsAskedFor (n : ℕ) (p : Pattern) (o : Instruction) : Type 0 where
  pub number : (m : ℕ) → Contains o.numbers m → m ≡ n
  pub field : o.field ≡ field_of p
  pub front : same_front o.template.cells (pattern_cells p) ≡ true

pub asked_for : (n : ℕ) (p : Pattern) (o : Instruction) → is_asked_for n p o ≡ true → IsAskedFor n p o
asked_for n p o h =
    let a = and_parts _ _ h in
    let b = and_parts _ _ a.1 in
    record { number = λ m c. eqb-true _ _ (listed_passes (λ m. m == n) o.numbers m a.0 c); field = eqb-true _ _ b.0; front = b.1 }

cell_fits : (c : own-cell.Cell) (d : Cell) (b : ℕ) → same_cell c d ≡ true → fits c b ≡ true → pattern_fits.fits d b ≡ true
cell_fits (Is m) (its.Is n) b h e = subst (λ (k : ℕ). (b == k) ≡ true) (eqb-true m n h) e
cell_fits (Is m) its.RexWide b h e = cc
cell_fits (Is m) its.Rex2Wide b h e = cc
cell_fits (Is m) its.Slot b h e = cc
cell_fits c its.Any b h e = refl
cell_fits (From low high) (its.Is n) b h e = cc
cell_fits (From low high) its.RexWide b h e = cc
cell_fits (From low high) its.Rex2Wide b h e = cc
cell_fits (From low high) its.Slot b h e = cc
cell_fits Slot (its.Is n) b h e = cc
cell_fits Slot its.RexWide b h e = cc
cell_fits Slot its.Rex2Wide b h e = cc
cell_fits Slot its.Slot b h e = cc
cell_fits (Digit n) (its.Is m) b h e = cc
cell_fits (Digit n) its.RexWide b h e = cc
cell_fits (Digit n) its.Rex2Wide b h e = cc
cell_fits (Digit n) its.Slot b h e = cc
cell_fits Any (its.Is n) b h e = cc
cell_fits Any its.RexWide b h e = cc
cell_fits Any its.Rex2Wide b h e = cc
cell_fits Any its.Slot b h e = cc

front : (cs : List own-cell.Cell) (ds : List Cell) (bs : List ℕ) → same_front cs ds ≡ true → matches_cells cs bs ≡ true → pattern_fits.matches_cells ds (take (length ds) bs) ≡ true
front cs [] bs h e = refl
front [] (d ∷ ds) bs h e = cc
front (c ∷ cs) (d ∷ ds) [] h e = cc
front (c ∷ cs) (d ∷ ds) (b ∷ bs) h e =
    let x = and_parts (same_cell c d) (same_front cs ds) h in
    let y = and_parts (fits c b) (matches_cells cs bs) e in
    rw (cell_fits c d b x.0 y.0, front cs ds bs x.1 y.1) refl

front_short : (cs : List own-cell.Cell) (ds : List Cell) → same_front cs ds ≡ true → length ds ≤ length cs
front_short cs [] h = omega arith
front_short [] (d ∷ ds) h = cc
front_short (c ∷ cs) (d ∷ ds) h = let r = front_short cs ds (and_parts (same_cell c d) (same_front cs ds) h).1 in omega (arith, r)

-- it stands before the field
pub asked_before : (n : ℕ) (p : Pattern) (o : Instruction) (bytes : List ℕ) (start offset : ℕ) → IsAskedFor n p o → offset ≡ start + o.field → start + size_of o ≤ length bytes → matches_cells o.template.cells (slice_range bytes start (start + size_of o)) ≡ true → pattern_fits.pattern_matches_before bytes offset p ≡ true
unfolding pattern_fits.pattern_matches_before pattern_fits.cells_match_at
asked_before n p o bytes start offset asked at inside h =
    let field = asked.field in
    let from : offset - field_of p ≡ start = omega (arith, at, field) in
    let short = front_short o.template.cells (pattern_cells p) asked.front in
    let low : nat_le (field_of p) offset ≡ true = le-leb (field_of p) offset (omega (arith, at, field)) in
    let room : nat_le (start + length (pattern_cells p)) (length bytes) ≡ true = le-leb (start + length (pattern_cells p)) (length bytes) (omega (arith, short, inside)) in
    let n : start + length (pattern_cells p) - start ≡ length (pattern_cells p) = omega arith in
    let there : pattern_fits.matches_cells (pattern_cells p) (slice_range bytes start (start + length (pattern_cells p))) ≡ true = rw n (front o.template.cells (pattern_cells p) (drop start bytes) asked.front (stands_more o.template.cells (start + size_of o - start) (drop start bytes) h)) in
    rw (low, from, room, there) refl

-- ---- rows

abbrev in_call : Row → Option ℕ → ℕ → Bool
in_call row None t = false
in_call row (Some d) t = nat_le (field_of (pattern_of row) + d) t && nat_lt t (field_of (pattern_of row) + d + call_width (call_form row))

-- byte t of the pattern is in the field of the row, or of its call
abbrev in_row : Row → ℕ → Bool
in_row row t = (nat_le (field_of (pattern_of row)) t && nat_lt t (field_of (pattern_of row) + width_of row.number)) || in_call row (partner_distance row) t

abbrev pub row_fixed : Row → Bool
row_fixed row =
    if keeps_bytes row then keeps_all row.number && not (is_skip (rewrite_of row).next)
    else below (pattern_size row) (λ t. not (is_free (get_or (pattern_cells (pattern_of row)) t its.Any)) || in_row row t)
    && (not (keeps_all row.number)
    && ((if pattern_size row == 2 then is_described_call row.number else true)
    && ((if is_described_call row.number then row.thread_local else true)
    && (if is_first row.number then is_skip (rewrite_of row).next else true))))

pub each_row_fixed : list_all row_fixed rows_x86_64 ≡ true
unfolding x86_64_formula rows_x86_64
each_row_fixed = refl

pub record IsFixed (row : Row) : Type 0 where
  pub free : (t : ℕ) → t < pattern_size row → is_free (get_or (pattern_cells (pattern_of row)) t its.Any) ≡ true → in_row row t ≡ true
  pub writes : keeps_all row.number ≡ false
  pub calls : (pattern_size row == 2) ≡ true → row.number ≡ r_x86_64_tlsdesc_call
  pub thread : is_described_call row.number ≡ true → row.thread_local ≡ true
  pub skips : is_first row.number ≡ true → is_skip (rewrite_of row).next ≡ true

pub is_fixed : (row : Row) → row_fixed row ≡ true → keeps_bytes row ≡ false → IsFixed row
is_fixed row h k =
    let a = and_parts _ _ (rw k at h) in
    let b = and_parts _ _ a.1 in
    let c = and_parts _ _ b.1 in
    let d = and_parts _ _ c.1 in
    record {
      free = λ t lt any. free (is_free (get_or (pattern_cells (pattern_of row)) t its.Any)) (in_row row t) (below_at (pattern_size row) (λ t. not (is_free (get_or (pattern_cells (pattern_of row)) t its.Any)) || in_row row t) t lt a.0) any;
      writes = not_is (keeps_all row.number) b.0;
      calls = λ two. eqb-true _ _ (so (pattern_size row == 2) (is_described_call row.number) c.0 two);
      thread = λ call. so (is_described_call row.number) row.thread_local d.0 call;
      skips = λ pair. so (is_first row.number) (is_skip (rewrite_of row).next) d.1 pair;
    }
  where
    free : (a b : Bool) → (not a || b) ≡ true → a ≡ true → b ≡ true
    free true b h e = h
    free false b h e = cc

    not_is : (b : Bool) → not b ≡ true → b ≡ false
    not_is true h = cc
    not_is false h = refl

    so : (a b : Bool) → (if a then b else true) ≡ true → a ≡ true → b ≡ true
    so true b h e = h
    so false b h e = cc

-- rows that keep bytes are of few types
pub kept_number : (row : Row) → row_fixed row ≡ true → keeps_bytes row ≡ true → keeps_all row.number ≡ true
kept_number row h k = (and_parts _ _ (rw k at h)).0

-- and they write no sequence
pub calls_are_alone : (row : Row) → row_fixed row ≡ true → is_skip (rewrite_of row).next ≡ true → keeps_bytes row ≡ false
calls_are_alone row h skips = by (keeps_bytes row) refl
  where
    by : (b : Bool) → keeps_bytes row ≡ b → b ≡ false
    by false e = refl
    by true e =
        let t : (keeps_all row.number && not (is_skip (rewrite_of row).next)) ≡ true = rw e at h in
        let n : not true ≡ true = rw skips at (and_parts (keeps_all row.number) (not (is_skip (rewrite_of row).next)) t).1 in
        cc

-- a byte of the pattern that may be any is in the field of the row, or of its call
pub free_in_field : (row : Row) (t : ℕ) → in_row row t ≡ true → ((field_of (pattern_of row) ≤ t) × (t < field_of (pattern_of row) + width_of row.number)) ⊎ ((d : ℕ) × (partner_distance row ≡ Some d) × (field_of (pattern_of row) + d ≤ t) × (t < field_of (pattern_of row) + d + call_width (call_form row)))
free_in_field row t h =
    elim (or_cases (nat_le (field_of (pattern_of row)) t && nat_lt t (field_of (pattern_of row) + width_of row.number)) (in_call row (partner_distance row) t) h) [
      | inl x ↦ inl (inside (field_of (pattern_of row)) (field_of (pattern_of row) + width_of row.number) t x)
      | inr x ↦ inr (by (partner_distance row) refl x)
    ]
  where
    by : (q : Option ℕ) → partner_distance row ≡ q → in_call row q t ≡ true → (d : ℕ) × (partner_distance row ≡ Some d) × (field_of (pattern_of row) + d ≤ t) × (t < field_of (pattern_of row) + d + call_width (call_form row))
    by None e h = cc
    by (Some d) e h = let x = inside (field_of (pattern_of row) + d) (field_of (pattern_of row) + d + call_width (call_form row)) t h in (d, e, x.0, x.1)
