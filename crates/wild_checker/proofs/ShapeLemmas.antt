-- The instructions that are looked for are those of the judge with one field, for a slot.
use Rattle.wild_checker.proofs.Common.{◌≡◌, ◌≢◌, ℕ, zero, suc, ◌+◌, ◌-◌, ◌<◌, ◌≤◌, ◌⊎◌, ◌&&◌, inl, inr, Bool, true, false, List, [], ◌∷◌, length, get_or, nat_le, refl, sym, ap, ◌∙◌, arith, subst, Option, Some, Contains, if◌then◌else◌, ◌==◌, ⊤, slice_range, eq-eqb, leb-true, and_parts, and_from, r_x86_64_none, formula, SlotDistance, Plain, Signed, x86_64_row, row_of, field_bytes, Number, Word, matches_cells, Instruction, Partner, size_of, instructions_of, Among, pick, first_shape, begins_none}
use Rattle.std.specs.List.{list_all}
use Rattle.std.proofs.lemmas.Bool.{le-leb}
use Rattle.wild_records.specs.Abi.Relocation.{r_x86_64_gotpcrel, r_x86_64_gotpcrelx, r_x86_64_rex_gotpcrelx, r_x86_64_code_4_gotpcrelx, r_x86_64_gottpoff, r_x86_64_code_4_gottpoff, r_x86_64_gotpc32_tlsdesc, r_x86_64_code_4_gotpc32_tlsdesc}
use Rattle.wild_reloc.specs.Formula.{Slot, AddressSlot, ThreadOffset, Descriptor}
use Rattle.wild_reloc.specs.FormulaX86_64.{x86_64_formula}
use Rattle.wild_types.specs.declared.kind.Machine.TheVariants as machine
use Rattle.wild_loader.specs.declared.instruction.Deed.TheVariants.{Set, Add, Subtract, Compare, Call, Jump}
use Rattle.wild_loader.specs.CodeX86_64.{no_prefix, rex, rex2, with_slot, branch}
use Rattle.wild_meaning.specs.Sequence.{Sort, TargetInSlot, AddressInSlot, OffsetInSlot, Described, of_field}
use Rattle.wild_checker.specs.Rewritten.{Shape, has_no_partner, shapes, ends_at}

-- ---- what is known of a shape

-- the sort of an instruction that uses a slot
abbrev pub IsInSlot : Sort → Type 0
IsInSlot TargetInSlot = ⊤
IsInSlot AddressInSlot = ⊤
IsInSlot OffsetInSlot = ⊤
IsInSlot Described = ⊤
IsInSlot other = ⊥

pub record IsShaped (t : Shape) : Type 0 where
  pub instruction : Instruction
  pub known : Contains (instructions_of machine.X86_64) instruction
  pub single : instruction.partners ≡ []
  pub number : Contains instruction.numbers t.number
  pub cells : instruction.template.cells ≡ t.cells
  pub sort : instruction.sort ≡ t.sort
  pub uses : IsInSlot t.sort
  pub size : length t.cells ≡ instruction.field + 4
  pub long : 6 ≤ length t.cells
  pub wide : instruction.width ≡ 4
  pub slot : Slot
  pub value : x86_64_formula t.number ≡ Some (formula (SlotDistance slot) (Plain 32 Signed))
  pub room : field_bytes machine.X86_64 t.number ≡ 4
  pub alone : begins_none t.number ≡ true
  pub refers : t.number ≢ r_x86_64_none

not_none : (n : ℕ) → (n == r_x86_64_none) ≡ false → n ≢ r_x86_64_none
not_none n h e = let yes : (n == r_x86_64_none) ≡ true = eq-eqb n r_x86_64_none e in let both : true ≡ false = sym yes ∙ h in cc

entry : (o : Instruction) (n : ℕ) (slot : Slot) → Contains (instructions_of machine.X86_64) o → o.partners ≡ [] → Contains o.numbers n → IsInSlot o.sort → length o.template.cells ≡ o.field + 4 → 6 ≤ length o.template.cells → o.width ≡ 4 → x86_64_formula n ≡ Some (formula (SlotDistance slot) (Plain 32 Signed)) → field_bytes machine.X86_64 n ≡ 4 → begins_none n ≡ true → (n == r_x86_64_none) ≡ false → IsShaped (record { number = n; cells = o.template.cells; sort = o.sort })
entry o n slot known single number uses size long wide value room alone some = record { instruction = o; known = known; single = single; number = number; cells = refl; sort = refl; uses = uses; size = size; long = long; wide = wide; slot = slot; value = value; room = room; alone = alone; refers = not_none n some }

abbrev EachShape : (Shape → Type 0) → List Shape → Type 0
EachShape P [] = ⊤
EachShape P (t ∷ ts) = P t × EachShape P ts

-- each has its place in the judge's table
each_shape : EachShape IsShaped shapes
unfolding x86_64_formula row_of x86_64_row
each_shape = (
  entry (of_field (with_slot 0x8b Word Set rex2) 4 AddressInSlot (r_x86_64_code_4_gotpcrelx ∷ [])) r_x86_64_code_4_gotpcrelx AddressSlot (12, omega arith, refl) refl (0, omega arith, refl) tt refl (omega arith) refl refl refl refl refl,
  (
    entry (of_field (with_slot 0x03 Word Add rex2) 4 AddressInSlot (r_x86_64_code_4_gotpcrelx ∷ [])) r_x86_64_code_4_gotpcrelx AddressSlot (13, omega arith, refl) refl (0, omega arith, refl) tt refl (omega arith) refl refl refl refl refl,
    (
      entry (of_field (with_slot 0x2b Word Subtract rex2) 4 AddressInSlot (r_x86_64_code_4_gotpcrelx ∷ [])) r_x86_64_code_4_gotpcrelx AddressSlot (14, omega arith, refl) refl (0, omega arith, refl) tt refl (omega arith) refl refl refl refl refl,
      (
        entry (of_field (with_slot 0x3b Word Compare rex2) 4 AddressInSlot (r_x86_64_code_4_gotpcrelx ∷ [])) r_x86_64_code_4_gotpcrelx AddressSlot (15, omega arith, refl) refl (0, omega arith, refl) tt refl (omega arith) refl refl refl refl refl,
        (
          entry (of_field (with_slot 0x8b Word Set rex2) 4 OffsetInSlot (r_x86_64_code_4_gottpoff ∷ [])) r_x86_64_code_4_gottpoff ThreadOffset (18, omega arith, refl) refl (0, omega arith, refl) tt refl (omega arith) refl refl refl refl refl,
          (
            entry (of_field (with_slot 0x03 Word Add rex2) 4 OffsetInSlot (r_x86_64_code_4_gottpoff ∷ [])) r_x86_64_code_4_gottpoff ThreadOffset (19, omega arith, refl) refl (0, omega arith, refl) tt refl (omega arith) refl refl refl refl refl,
            (
              entry (of_field (with_slot 0x8b Word Set rex2) 4 AddressInSlot (r_x86_64_gotpcrel ∷ [])) r_x86_64_gotpcrel AddressSlot (21, omega arith, refl) refl (0, omega arith, refl) tt refl (omega arith) refl refl refl refl refl,
              (
                entry (of_field (with_slot 0x8d Number Set rex2) 4 Described (r_x86_64_code_4_gotpc32_tlsdesc ∷ [])) r_x86_64_code_4_gotpc32_tlsdesc Descriptor (23, omega arith, refl) refl (0, omega arith, refl) tt refl (omega arith) refl refl refl refl refl,
                (
                  entry (of_field (with_slot 0x8b Word Set rex) 3 AddressInSlot (r_x86_64_rex_gotpcrelx ∷ [])) r_x86_64_rex_gotpcrelx AddressSlot (8, omega arith, refl) refl (0, omega arith, refl) tt refl (omega arith) refl refl refl refl refl,
                  (
                    entry (of_field (with_slot 0x03 Word Add rex) 3 AddressInSlot (r_x86_64_rex_gotpcrelx ∷ [])) r_x86_64_rex_gotpcrelx AddressSlot (9, omega arith, refl) refl (0, omega arith, refl) tt refl (omega arith) refl refl refl refl refl,
                    (
                      entry (of_field (with_slot 0x2b Word Subtract rex) 3 AddressInSlot (r_x86_64_rex_gotpcrelx ∷ [])) r_x86_64_rex_gotpcrelx AddressSlot (10, omega arith, refl) refl (0, omega arith, refl) tt refl (omega arith) refl refl refl refl refl,
                      (
                        entry (of_field (with_slot 0x3b Word Compare rex) 3 AddressInSlot (r_x86_64_rex_gotpcrelx ∷ [])) r_x86_64_rex_gotpcrelx AddressSlot (11, omega arith, refl) refl (0, omega arith, refl) tt refl (omega arith) refl refl refl refl refl,
                        (
                          entry (of_field (with_slot 0x8b Word Set rex) 3 OffsetInSlot (r_x86_64_gottpoff ∷ [])) r_x86_64_gottpoff ThreadOffset (16, omega arith, refl) refl (0, omega arith, refl) tt refl (omega arith) refl refl refl refl refl,
                          (
                            entry (of_field (with_slot 0x03 Word Add rex) 3 OffsetInSlot (r_x86_64_gottpoff ∷ [])) r_x86_64_gottpoff ThreadOffset (17, omega arith, refl) refl (0, omega arith, refl) tt refl (omega arith) refl refl refl refl refl,
                            (
                              entry (of_field (with_slot 0x8b Word Set rex) 3 AddressInSlot (r_x86_64_gotpcrel ∷ [])) r_x86_64_gotpcrel AddressSlot (20, omega arith, refl) refl (0, omega arith, refl) tt refl (omega arith) refl refl refl refl refl,
                              (
                                entry (of_field (with_slot 0x8d Number Set rex) 3 Described (r_x86_64_gotpc32_tlsdesc ∷ [])) r_x86_64_gotpc32_tlsdesc Descriptor (22, omega arith, refl) refl (0, omega arith, refl) tt refl (omega arith) refl refl refl refl refl,
                                (
                                  entry (of_field (branch (0xff ∷ 0x15 ∷ []) Word Call) 2 TargetInSlot (r_x86_64_gotpcrel ∷ r_x86_64_gotpcrelx ∷ [])) r_x86_64_gotpcrel AddressSlot (2, omega arith, refl) refl (0, omega arith, refl) tt refl (omega arith) refl refl refl refl refl,
                                  (
                                    entry (of_field (branch (0xff ∷ 0x15 ∷ []) Word Call) 2 TargetInSlot (r_x86_64_gotpcrel ∷ r_x86_64_gotpcrelx ∷ [])) r_x86_64_gotpcrelx AddressSlot (2, omega arith, refl) refl (1, omega arith, refl) tt refl (omega arith) refl refl refl refl refl,
                                    (
                                      entry (of_field (branch (0xff ∷ 0x25 ∷ []) Word Jump) 2 TargetInSlot (r_x86_64_gotpcrel ∷ r_x86_64_gotpcrelx ∷ [])) r_x86_64_gotpcrel AddressSlot (3, omega arith, refl) refl (0, omega arith, refl) tt refl (omega arith) refl refl refl refl refl,
                                      (
                                        entry (of_field (branch (0xff ∷ 0x25 ∷ []) Word Jump) 2 TargetInSlot (r_x86_64_gotpcrel ∷ r_x86_64_gotpcrelx ∷ [])) r_x86_64_gotpcrelx AddressSlot (3, omega arith, refl) refl (1, omega arith, refl) tt refl (omega arith) refl refl refl refl refl,
                                        (
                                          entry (of_field (with_slot 0x8b Word Set no_prefix) 2 AddressInSlot (r_x86_64_gotpcrelx ∷ [])) r_x86_64_gotpcrelx AddressSlot (4, omega arith, refl) refl (0, omega arith, refl) tt refl (omega arith) refl refl refl refl refl,
                                          (
                                            entry (of_field (with_slot 0x03 Word Add no_prefix) 2 AddressInSlot (r_x86_64_gotpcrelx ∷ [])) r_x86_64_gotpcrelx AddressSlot (5, omega arith, refl) refl (0, omega arith, refl) tt refl (omega arith) refl refl refl refl refl,
                                            (
                                              entry (of_field (with_slot 0x2b Word Subtract no_prefix) 2 AddressInSlot (r_x86_64_gotpcrelx ∷ [])) r_x86_64_gotpcrelx AddressSlot (6, omega arith, refl) refl (0, omega arith, refl) tt refl (omega arith) refl refl refl refl refl,
                                              (
                                                entry (of_field (with_slot 0x3b Word Compare no_prefix) 2 AddressInSlot (r_x86_64_gotpcrelx ∷ [])) r_x86_64_gotpcrelx AddressSlot (7, omega arith, refl) refl (0, omega arith, refl) tt refl (omega arith) refl refl refl refl refl,
                                                tt,
                                              ),
                                            ),
                                          ),
                                        ),
                                      ),
                                    ),
                                  ),
                                ),
                              ),
                            ),
                          ),
                        ),
                      ),
                    ),
                  ),
                ),
              ),
            ),
          ),
        ),
      ),
    ),
  ),
)

-- ---- the one that is found

pub record IsFound (t : Shape) (n : ℕ) (bs : List ℕ) (end : ℕ) : Type 0 where
  pub shaped : IsShaped t
  pub ends : ends_at t n bs end ≡ true

found_in : (ts : List Shape) (n : ℕ) (bs : List ℕ) (end : ℕ) (t : Shape) → EachShape IsShaped ts → first_shape n bs end ts ≡ Some t → IsFound t n bs end
found_in [] n bs end t each h = cc
found_in (x ∷ ts) n bs end t each h = by (found_in ts n bs end t each.1) (ends_at x n bs end) refl h
  where
    by : (first_shape n bs end ts ≡ Some t → IsFound t n bs end) → (b : Bool) → ends_at x n bs end ≡ b → (if b then Some x else first_shape n bs end ts) ≡ Some t → IsFound t n bs end
    by rest true e h =
        let same : x ≡ t = the_shape x t h in
        subst (λ (y : Shape). IsFound y n bs end) same (record { shaped = each.0; ends = e })
      where
        the_shape : (x t : Shape) → (let o : Option Shape = Some x in o) ≡ Some t → x ≡ t
        the_shape x t h = cc
    by rest false e h = rest h

pub found_shape : (n : ℕ) (bs : List ℕ) (end : ℕ) (t : Shape) → first_shape n bs end shapes ≡ Some t → IsFound t n bs end
found_shape n bs end t h = found_in shapes n bs end t each_shape h

-- ---- the longest

abbrev is_within : ℕ → Shape → Bool
is_within n t = nat_le (length t.cells) n

-- none is longer than one before it
abbrev descend : List Shape → Bool
descend [] = true
descend (t ∷ ts) = list_all (is_within (length t.cells)) ts && descend ts

shapes_descend : descend shapes ≡ true
shapes_descend = refl

all_within : (test : Shape → Bool) (ts : List Shape) (t : Shape) (k : ℕ) → list_all test ts ≡ true → k < length ts → get_or ts k t ≡ t → test t ≡ true
all_within test [] t k all lt e = absurd (omega (arith, lt))
all_within test (x ∷ xs) t zero all lt e = subst (λ (y : Shape). test y ≡ true) e (and_parts (test x) (list_all test xs) all).0
all_within test (x ∷ xs) t (suc k) all lt e = all_within test xs t k (and_parts (test x) (list_all test xs) all).1 (omega (arith, lt)) e

-- an instruction that ends there is no longer than the one that is found
longest_in : (ts : List Shape) (n : ℕ) (bs : List ℕ) (end : ℕ) (t u : Shape) (k : ℕ) → descend ts ≡ true → first_shape n bs end ts ≡ Some t → k < length ts → get_or ts k u ≡ u → ends_at u n bs end ≡ true → length u.cells ≤ length t.cells
longest_in [] n bs end t u k d h lt e ends = cc
longest_in (x ∷ xs) n bs end t u zero d h lt e ends =
    let here : ends_at x n bs end ≡ true = subst (λ (y : Shape). ends_at y n bs end ≡ true) (sym e) ends in
    let taken : (let o : Option Shape = Some x in o) ≡ Some t = rw here at h in
    let same : x ≡ t = (let both : (let o : Option Shape = Some x in o) ≡ Some t = taken in cc) in
    let long : length u.cells ≡ length t.cells = ap (λ (y : Shape). length y.cells) (sym e ∙ same) in
    omega (arith, long)
longest_in (x ∷ xs) n bs end t u (suc k) d h lt e ends = by (longest_in xs n bs end t u k parts.1) (ends_at x n bs end) h
  where
    parts : (list_all (is_within (length x.cells)) xs ≡ true) × (descend xs ≡ true)
    parts = and_parts (list_all (is_within (length x.cells)) xs) (descend xs) d

    by : (first_shape n bs end xs ≡ Some t → k < length xs → get_or xs k u ≡ u → ends_at u n bs end ≡ true → length u.cells ≤ length t.cells) → (b : Bool) → (if b then Some x else first_shape n bs end xs) ≡ Some t → length u.cells ≤ length t.cells
    by rest true h =
        let same : length x.cells ≡ length t.cells = as_long x t h in
        let within = leb-true (length u.cells) (length x.cells) (all_within (is_within (length x.cells)) xs u k parts.0 (omega (arith, lt)) e) in
        omega (arith, same, within)
      where
        as_long : (x t : Shape) → (let o : Option Shape = Some x in o) ≡ Some t → length x.cells ≡ length t.cells
        as_long x t h = (let same : x ≡ t = cc in ap (λ (y : Shape). length y.cells) same)
    by rest false h = rest h (omega (arith, lt)) e ends

-- ---- the judge's instructions with one field

abbrev shape_with : ℕ → Instruction → Shape
shape_with n o = record { number = n; cells = o.template.cells; sort = o.sort }

-- it has at most six bytes, or is one of those that are looked for
abbrev IsAmongShapes : Instruction → ℕ → Type 0
IsAmongShapes o n = (length o.template.cells ≤ 6) ⊎ (Contains shapes (shape_with n o) × (length o.template.cells ≡ o.field + 4))

abbrev AreAmong : Instruction → List ℕ → Type 0
AreAmong o [] = ⊤
AreAmong o (n ∷ ns) = IsAmongShapes o n × AreAmong o ns

each_among : Among (λ (o : Instruction). has_no_partner o.partners) (λ (o : Instruction). AreAmong o o.numbers) (instructions_of machine.X86_64)
each_among = (
  (
    inl (omega arith),
    (
      inl (omega arith),
      tt,
    ),
  ),
  (
    (
      inl (omega arith),
      (
        inl (omega arith),
        tt,
      ),
    ),
    (
      (
        inl (omega arith),
        (
          inl (omega arith),
          tt,
        ),
      ),
      (
        (
          inl (omega arith),
          (
            inl (omega arith),
            tt,
          ),
        ),
        (
          (
            inl (omega arith),
            tt,
          ),
          (
            (
              inl (omega arith),
              tt,
            ),
            (
              (
                inl (omega arith),
                tt,
              ),
              (
                (
                  inl (omega arith),
                  tt,
                ),
                (
                  (
                    inr ((8, omega arith, refl), refl),
                    tt,
                  ),
                  (
                    (
                      inr ((9, omega arith, refl), refl),
                      tt,
                    ),
                    (
                      (
                        inr ((10, omega arith, refl), refl),
                        tt,
                      ),
                      (
                        (
                          inr ((11, omega arith, refl), refl),
                          tt,
                        ),
                        (
                          (
                            inr ((0, omega arith, refl), refl),
                            tt,
                          ),
                          (
                            (
                              inr ((1, omega arith, refl), refl),
                              tt,
                            ),
                            (
                              (
                                inr ((2, omega arith, refl), refl),
                                tt,
                              ),
                              (
                                (
                                  inr ((3, omega arith, refl), refl),
                                  tt,
                                ),
                                (
                                  (
                                    inr ((12, omega arith, refl), refl),
                                    tt,
                                  ),
                                  (
                                    (
                                      inr ((13, omega arith, refl), refl),
                                      tt,
                                    ),
                                    (
                                      (
                                        inr ((4, omega arith, refl), refl),
                                        tt,
                                      ),
                                      (
                                        (
                                          inr ((5, omega arith, refl), refl),
                                          tt,
                                        ),
                                        (
                                          (
                                            inr ((14, omega arith, refl), refl),
                                            tt,
                                          ),
                                          (
                                            (
                                              inr ((6, omega arith, refl), refl),
                                              tt,
                                            ),
                                            (
                                              (
                                                inr ((15, omega arith, refl), refl),
                                                tt,
                                              ),
                                              (
                                                (
                                                  inr ((7, omega arith, refl), refl),
                                                  tt,
                                                ),
                                                (
                                                  (
                                                    inl (omega arith),
                                                    tt,
                                                  ),
                                                  tt,
                                                ),
                                              ),
                                            ),
                                          ),
                                        ),
                                      ),
                                    ),
                                  ),
                                ),
                              ),
                            ),
                          ),
                        ),
                      ),
                    ),
                  ),
                ),
              ),
            ),
          ),
        ),
      ),
    ),
  ),
)

among : (o : Instruction) (ns : List ℕ) (n k : ℕ) → AreAmong o ns → k < length ns → get_or ns k n ≡ n → IsAmongShapes o n
among o [] n k each lt e = absurd (omega (arith, lt))
among o (x ∷ ns) n zero each lt e = subst (IsAmongShapes o) e each.0
among o (x ∷ ns) n (suc k) each lt e = among o ns n k each.1 (omega (arith, lt)) e

alone : (ps : List Partner) → ps ≡ [] → has_no_partner ps ≡ true
alone ps e = rw e refl

-- the judge's instruction p of that relocation type ends there
pub record EndsThere (p : Instruction) (n : ℕ) (bs : List ℕ) (end from : ℕ) : Type 0 where
  pub known : Contains (instructions_of machine.X86_64) p
  pub single : p.partners ≡ []
  pub number : Contains p.numbers n
  pub place : end ≡ from + p.field + 4
  pub matches : matches_cells p.template.cells (slice_range bs from (from + size_of p)) ≡ true

pub longest : (n : ℕ) (bs : List ℕ) (end : ℕ) (t : Shape) (p : Instruction) (from : ℕ) → first_shape n bs end shapes ≡ Some t → EndsThere p n bs end from → size_of p ≤ length t.cells
longest n bs end t p from h ends = by (among p p.numbers n ends.number.0 each ends.number.1 ends.number.2)
  where
    each : AreAmong p p.numbers
    each = pick (λ (o : Instruction). has_no_partner o.partners) (λ (o : Instruction). AreAmong o o.numbers) (instructions_of machine.X86_64) each_among p ends.known (alone p.partners ends.single)

    least : 6 ≤ length t.cells
    least = (found_shape n bs end t h).shaped.long

    by : IsAmongShapes p n → size_of p ≤ length t.cells
    by (inl low) = omega (arith, low, least)
    by (inr (listed, size)) =
        let place = ends.place in
        let begin : from ≡ end - length p.template.cells = omega (arith, place, size) in
        let whole : from + length p.template.cells ≡ end = omega (arith, place, size) in
        let there : matches_cells p.template.cells (slice_range bs from end) ≡ true = subst (λ (k : ℕ). matches_cells p.template.cells (slice_range bs from k) ≡ true) whole ends.matches in
        let matches : matches_cells p.template.cells (slice_range bs (end - length p.template.cells) end) ≡ true = subst (λ (k : ℕ). matches_cells p.template.cells (slice_range bs k end) ≡ true) begin there in
        let room : nat_le (length p.template.cells) end ≡ true = le-leb (length p.template.cells) end (omega (arith, whole)) in
        let test : ends_at (shape_with n p) n bs end ≡ true = and_from (n == n) (nat_le (length p.template.cells) end && matches_cells p.template.cells (slice_range bs (end - length p.template.cells) end)) (eq-eqb n n refl) (and_from (nat_le (length p.template.cells) end) (matches_cells p.template.cells (slice_range bs (end - length p.template.cells) end)) room matches) in
        longest_in shapes n bs end t (shape_with n p) listed.0 shapes_descend h listed.1 listed.2 test
