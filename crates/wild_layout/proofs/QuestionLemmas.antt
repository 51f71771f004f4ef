-- How the rows of rewrites are asked: the relocation behind one, and names, only where a row of its type asks for them.
--   none_before       behind another type none is taken along
--   common_choice ..  no row stands at a distance, or without a symbol
--   asked_choice      else the rows of x86-64 are asked, with the next relocation in sight
--   alone_choice      or, where no row of the type takes another along, with no name and no other relocation
--   around_choice     those of AArch64 are asked of the relocations of its sequence
use Rattle.std.proofs.Common.{◌≡◌, ℕ, suc, ◌+◌, inl, inr, Bool, true, false, List, [], ◌∷◌, refl, sym, ap, ◌∙◌, arith, subst, eq-eqb}
use Rattle.std.specs.Prelude.{Option, Some, None, is_some, Result, Ok, not, ◌||◌, ◌==◌, if◌then◌else◌, slice_get}
use Rattle.std.specs.List.{list_all}
use Rattle.std.proofs.lemmas.Bool.{cases_Bool, eqb-true, not-true, both_ways}
use Rattle.wild_words.proofs.Basics.{implied, listed_passes}
use Rattle.wild_records.specs.Abi.Relocation.{r_x86_64_pc32}
use Rattle.wild_types.specs.declared.kind.Machine.{Machine}
use Rattle.wild_types.specs.declared.kind.Machine.TheVariants as machine
use Rattle.wild_types.specs.declared.input.InputRelocation.{InputRelocation}
use Rattle.wild_types.specs.Item.{Item}
use Rattle.wild_types.specs.declared.layout.Layout.{Layout}
use Rattle.wild_relax.specs.declared.row.Row.{Row}
use Rattle.wild_relax.specs.FirstRow.{row_or_fault}
use Rattle.wild_relax.specs.RowSequences.{has_its_sequence}
use Rattle.wild_relax.specs.declared.row.Partner.{Partner}
use Rattle.wild_relax.specs.declared.reference.UnknownSequence.{UnknownSequence}
use Rattle.wild_relax.specs.Rows.{rows_x86_64, applies, unknown_sequence, first_row_x86_64, chosen_row_x86_64}
use Rattle.wild_relax.specs.declared.reference.RelocationInfo.{RelocationInfo}
use Rattle.wild_relax.specs.Question.{Question, relocation_of}
use Rattle.wild_relax.specs.RowsAArch64.{rows_aarch64, chosen_row_aarch64}
use Rattle.wild_relax.specs.Relaxation.{chosen_row_of}
use Rattle.wild_relax.proofs.RoomLemmas.{applied, standing_first}
use Rattle.wild_layout.specs.Choice.{nameless, question_for, infos_of, question_of, choice_by, question_around, choice_around_by, choice_on, choice_at, choice, takes_next, is_partner, may_take_next, may_be_partner, choice_merged, merged_on}
use Rattle.wild_layout.specs.Merged.{names_merged}
use Rattle.wild_layout.proofs.ChoiceLemmas.{none_by, choice_row, choice_is, relocation_around, none_chosen, chosen_listed, partner_is_taken}

-- ---- rows that write a whole sequence

-- they stand at two relocation types alone
abbrev is_marked : Row → Bool
is_marked row = not (takes_next (Ok (Some row))) || may_take_next row.number

each_is_marked : list_all is_marked rows_x86_64 ≡ true
unfolding rows_x86_64
each_is_marked = refl

-- behind another type none is taken along
pub none_before : (l : Layout) (s : Item) (i : ℕ) → may_be_partner s.relocations i ≡ false → is_partner l s i ≡ false
none_before l s i h =
    elim (cases_Bool (is_partner l s i)) [
      | inr f ↦ f
      | inl t ↦
          (let p = partner_is_taken l s i t in
          let q = p.3 in
          let c = choice_row l s q.relocation (slice_get s.relocations (p.0 + 1)) p.2 q.machine q.is in
          let n = subst (λ (x : ℕ). may_take_next x ≡ true) (sym c.number) (implied _ _ (chosen_listed l s q.relocation (slice_get s.relocations (p.0 + 1)) p.2 c is_marked each_is_marked) q.takes) in
          absurd (there s.relocations p.0 q.relocation q.listed n (subst (λ (k : ℕ). may_be_partner s.relocations k ≡ false) p.1 h)))
    ]
  where
    there : (rs : List InputRelocation) (j : ℕ) (r : InputRelocation) → slice_get rs j ≡ Some r → may_take_next r.number ≡ true → may_be_partner rs (j + 1) ≡ false → ⊥
    there rs j r e n h =
        let s : j + 1 ≡ suc j = omega arith in
        let f : may_be_partner rs (suc j) ≡ false = subst (λ (k : ℕ). may_be_partner rs k ≡ false) s h in
        both_ways (may_take_next r.number) (rw e at f) n

-- ---- relocations without a row

-- a distance of x86-64
abbrev is_other : Row → Bool
is_other row = not (row.number == r_x86_64_pc32)

each_is_other : list_all is_other rows_aarch64 ≡ true
unfolding rows_aarch64
each_is_other = refl

none_of_that : (q : Question) → (relocation_of q).number ≡ r_x86_64_pc32 → chosen_row_aarch64 q ≡ Ok None
none_of_that q h = none_chosen q (λ row listed number. both_ways (row.number == r_x86_64_pc32) (not-true _ (listed_passes is_other rows_aarch64 row each_is_other listed)) (eq-eqb row.number r_x86_64_pc32 (sym number ∙ h)))

none_where : (b : Bool) (c : Result (Option Row) UnknownSequence) → b ≡ true → (if b then Ok None else c) ≡ Ok None
none_where true c h = refl
none_where false c h = cc

no_choice_by : (l : Layout) (s : Item) (r : InputRelocation) (next : Option InputRelocation) (o : Option ℕ) → r.number ≡ r_x86_64_pc32 → choice_by l s r next o ≡ Ok None
unfolding choice_by
no_choice_by l s r next None number = refl
no_choice_by l s r next (Some i) number = none_where (r.number == r_x86_64_pc32) (if names_merged l (Some i) then choice_merged r else chosen_row_x86_64 (question_of l s r i next)) (eq-eqb r.number r_x86_64_pc32 number)

no_choice_around : (l : Layout) (s : Item) (i : ℕ) (r : InputRelocation) (o : Option ℕ) → slice_get s.relocations i ≡ Some r → r.number ≡ r_x86_64_pc32 → choice_around_by l s i r o ≡ Ok None
unfolding choice_around_by
no_choice_around l s i r None listed number = refl
no_choice_around l s i r (Some n) listed number =
    none_by (names_merged l (Some n)) (chosen_row_of machine.AArch64 (question_around l s i r n)) (none_of_that (question_around l s i r n) (ap (λ (x : RelocationInfo). x.number) (relocation_around l s i r n listed) ∙ number))

pub no_choice : (l : Layout) (s : Item) (i : ℕ) (r : InputRelocation) → slice_get s.relocations i ≡ Some r → r.number ≡ r_x86_64_pc32 → choice_on l.machine l s i r ≡ Ok None
no_choice l s i r listed number = by_machine l.machine
  where
    by_machine : (m : Machine) → choice_on m l s i r ≡ Ok None
    by_machine machine.X86_64 = no_choice_by l s r (slice_get s.relocations (i + 1)) r.symbol number
    by_machine machine.AArch64 = no_choice_around l s i r r.symbol listed number

-- ---- what is asked

at_relocation : (l : Layout) (s : Item) (i : ℕ) (r : InputRelocation) → slice_get s.relocations i ≡ Some r → choice l s i ≡ choice_on l.machine l s i r
at_relocation l s i r listed = ap (choice_at l s i) listed

-- without a symbol, or of a distance, nothing stands
pub nameless_choice : (l : Layout) (s : Item) (i : ℕ) (r : InputRelocation) → slice_get s.relocations i ≡ Some r → r.symbol ≡ None → choice l s i ≡ Ok None
unfolding choice_by choice_around_by
nameless_choice l s i r listed none = at_relocation l s i r listed ∙ by_machine l.machine
  where
    by_machine : (m : Machine) → choice_on m l s i r ≡ Ok None
    by_machine machine.X86_64 = rw none refl
    by_machine machine.AArch64 = rw none refl

merged_by : (l : Layout) (s : Item) (r : InputRelocation) (next : Option InputRelocation) (n : ℕ) → (r.number == r_x86_64_pc32) ≡ false → names_merged l (Some n) ≡ true → choice_by l s r next (Some n) ≡ choice_merged r
unfolding choice_by
merged_by l s r next n f h = by (r.number == r_x86_64_pc32) (names_merged l (Some n)) (choice_merged r) (chosen_row_x86_64 (question_of l s r n next)) f h
  where
    by : (b m : Bool) (c d : Result (Option Row) UnknownSequence) → b ≡ false → m ≡ true → (if b then Ok None else if m then c else d) ≡ c
    by false true c d f h = refl
    by false false c d f h = cc
    by true m c d f h = cc

merged_around : (l : Layout) (s : Item) (i : ℕ) (r : InputRelocation) (n : ℕ) → names_merged l (Some n) ≡ true → choice_around_by l s i r (Some n) ≡ Ok None
unfolding choice_around_by
merged_around l s i r n h = rw h refl

-- nor where the symbol stands for merged strings
pub merged_choice : (l : Layout) (s : Item) (i : ℕ) (r : InputRelocation) (n : ℕ) → slice_get s.relocations i ≡ Some r → r.symbol ≡ Some n → (r.number ≡ r_x86_64_pc32 → ⊥) → names_merged l (Some n) ≡ true → choice l s i ≡ merged_on l.machine r
merged_choice l s i r n listed named other h = at_relocation l s i r listed ∙ by_machine l.machine
  where
    number : (r.number == r_x86_64_pc32) ≡ false
    number =
        elim (cases_Bool (r.number == r_x86_64_pc32)) [
          | inr f ↦ f
          | inl t ↦ absurd (other (eqb-true r.number r_x86_64_pc32 t))
        ]

    by_machine : (m : Machine) → choice_on m l s i r ≡ merged_on m r
    by_machine machine.X86_64 = ap (choice_by l s r (slice_get s.relocations (i + 1))) named ∙ merged_by l s r (slice_get s.relocations (i + 1)) n number h
    by_machine machine.AArch64 = ap (choice_around_by l s i r) named ∙ merged_around l s i r n h

pub common_choice : (l : Layout) (s : Item) (i : ℕ) (r : InputRelocation) → slice_get s.relocations i ≡ Some r → r.number ≡ r_x86_64_pc32 → choice l s i ≡ Ok None
common_choice l s i r listed number = at_relocation l s i r listed ∙ no_choice l s i r listed number

other_number : (n k : ℕ) → (n ≡ k → ⊥) → (n == k) ≡ false
other_number n k h =
    elim (cases_Bool (n == k)) [
      | inr f ↦ f
      | inl t ↦ absurd (h (eqb-true n k t))
    ]

-- else the rows are asked, with the next relocation in sight
asked_by : (l : Layout) (s : Item) (r : InputRelocation) (next : Option InputRelocation) (n : ℕ) → (r.number == r_x86_64_pc32) ≡ false → names_merged l (Some n) ≡ false → choice_by l s r next (Some n) ≡ chosen_row_x86_64 (question_of l s r n next)
unfolding choice_by
asked_by l s r next n f plain = rw (f, plain) refl

on_machine : (l : Layout) (m : Machine) (q : Question) → l.machine ≡ m → chosen_row_of m q ≡ chosen_row_of l.machine q
on_machine l m q is = ap (λ (k : Machine). chosen_row_of k q) (sym is)

named_choice : (l : Layout) (s : Item) (i : ℕ) (r : InputRelocation) (n : ℕ) → l.machine ≡ machine.X86_64 → slice_get s.relocations i ≡ Some r → r.symbol ≡ Some n → (r.number ≡ r_x86_64_pc32 → ⊥) → names_merged l r.symbol ≡ false → choice l s i ≡ chosen_row_x86_64 (question_of l s r n (slice_get s.relocations (i + 1)))
named_choice l s i r n x86 listed named other plain =
    let next = slice_get s.relocations (i + 1) in
    choice_is l s i r x86 listed
    ∙ ap (choice_by l s r next) named
    ∙ asked_by l s r next n (other_number r.number r_x86_64_pc32 other) (sym (ap (names_merged l) named) ∙ plain)

pub asked_choice : (l : Layout) (s : Item) (i : ℕ) (r : InputRelocation) (n : ℕ) → l.machine ≡ machine.X86_64 → slice_get s.relocations i ≡ Some r → r.symbol ≡ Some n → (r.number ≡ r_x86_64_pc32 → ⊥) → names_merged l r.symbol ≡ false → choice l s i ≡ chosen_row_of l.machine (question_for l s n (infos_of l (slice_get s.relocations i) (slice_get s.relocations (i + 1))) 0)
asked_choice l s i r n x86 listed named other plain =
    named_choice l s i r n x86 listed named other plain
    ∙ ap (λ (o : Option InputRelocation). chosen_row_x86_64 (question_for l s n (infos_of l o (slice_get s.relocations (i + 1))) 0)) (sym listed)
    ∙ on_machine l machine.X86_64 (question_for l s n (infos_of l (slice_get s.relocations i) (slice_get s.relocations (i + 1))) 0) x86

around_by : (l : Layout) (s : Item) (i : ℕ) (r : InputRelocation) (n : ℕ) → names_merged l (Some n) ≡ false → choice_around_by l s i r (Some n) ≡ chosen_row_of machine.AArch64 (question_around l s i r n)
unfolding choice_around_by
around_by l s i r n plain = rw plain refl

pub around_choice : (l : Layout) (s : Item) (i : ℕ) (r : InputRelocation) (n : ℕ) → l.machine ≡ machine.AArch64 → slice_get s.relocations i ≡ Some r → r.symbol ≡ Some n → names_merged l r.symbol ≡ false → choice l s i ≡ chosen_row_of l.machine (question_around l s i r n)
unfolding choice_around_by
around_choice l s i r n on listed named plain =
    at_relocation l s i r listed ∙ ap (λ (m : Machine). choice_on m l s i r) on ∙ ap (choice_around_by l s i r) named ∙ around_by l s i r n (sym (ap (names_merged l) named) ∙ plain) ∙ on_machine l machine.AArch64 (question_around l s i r n) on

-- ---- rows that ask for no name and no other relocation

-- what stands does not hang on them
same_standing : (l : Layout) (s : Item) (r : InputRelocation) (n : ℕ) (next : Option InputRelocation) → first_row_x86_64 (question_for l s n (nameless r ∷ []) 0) ≡ first_row_x86_64 (question_of l s r n next)
unfolding first_row_x86_64 applies rows_x86_64
same_standing l s r n next = refl

-- and of types whose rows take no other along, neither does what they need
abbrev is_by_itself : Row → Bool
is_by_itself row = may_take_next row.number || not (is_some row.partner)

each_by_itself : list_all is_by_itself rows_x86_64 ≡ true
unfolding rows_x86_64
each_by_itself = refl

no_distance : (o : Option Partner) → not (is_some o) ≡ true → o ≡ None
no_distance None h = refl
no_distance (Some d) h = cc

same_sequence : (l : Layout) (s : Item) (r : InputRelocation) (n : ℕ) (next : Option InputRelocation) (row : Row) → row.partner ≡ None → has_its_sequence (question_for l s n (nameless r ∷ []) 0) row ≡ has_its_sequence (question_of l s r n next) row
unfolding has_its_sequence
same_sequence l s r n next row e = rw e refl

other_one : (a b : Bool) → (a || b) ≡ true → a ≡ false → b ≡ true
other_one true b h e = cc
other_one false b h e = h

same_chosen : (l : Layout) (s : Item) (r : InputRelocation) (n : ℕ) (next : Option InputRelocation) → may_take_next r.number ≡ false → chosen_row_x86_64 (question_for l s n (nameless r ∷ []) 0) ≡ chosen_row_x86_64 (question_of l s r n next)
unfolding chosen_row_x86_64
same_chosen l s r n next h =
    let same = same_standing l s r n next in
    by l s r n next (first_row_x86_64 (question_for l s n (nameless r ∷ []) 0)) (first_row_x86_64 (question_of l s r n next)) refl same h
  where
    by : (l : Layout) (s : Item) (r : InputRelocation) (n : ℕ) (next : Option InputRelocation) (a b : Option Row) → first_row_x86_64 (question_for l s n (nameless r ∷ []) 0) ≡ a → a ≡ b → may_take_next r.number ≡ false
        → row_or_fault (has_its_sequence (question_for l s n (nameless r ∷ []) 0)) (unknown_sequence (question_for l s n (nameless r ∷ []) 0)) a ≡ row_or_fault (has_its_sequence (question_of l s r n next)) (unknown_sequence (question_of l s r n next)) b
    by l s r n next None None is e h = refl
    by l s r n next None (Some b) is e h = cc
    by l s r n next (Some a) None is e h = cc
    by l s r n next (Some a) (Some b) is e h =
        let same : a ≡ b = cc in
        let first = standing_first (question_for l s n (nameless r ∷ []) 0) a is in
        let number : may_take_next a.number ≡ false = subst (λ (x : ℕ). may_take_next x ≡ false) (applied (question_for l s n (nameless r ∷ []) 0) a first.here).number h in
        let alone = no_distance a.partner (other_one _ _ (listed_passes is_by_itself rows_x86_64 a each_by_itself first.listed) number) in
        let sequence = same_sequence l s r n next a alone in
        subst (λ (x : Row). row_or_fault (has_its_sequence (question_for l s n (nameless r ∷ []) 0)) (unknown_sequence (question_for l s n (nameless r ∷ []) 0)) (Some a) ≡ row_or_fault (has_its_sequence (question_of l s r n next)) (unknown_sequence (question_of l s r n next)) (Some x)) same (rw sequence refl)

pub alone_choice : (l : Layout) (s : Item) (i : ℕ) (r : InputRelocation) (n : ℕ) → l.machine ≡ machine.X86_64 → slice_get s.relocations i ≡ Some r → r.symbol ≡ Some n → (r.number ≡ r_x86_64_pc32 → ⊥) → may_take_next r.number ≡ false → names_merged l r.symbol ≡ false → choice l s i ≡ chosen_row_of l.machine (question_for l s n (nameless r ∷ []) 0)
alone_choice l s i r n x86 listed named other h plain = named_choice l s i r n x86 listed named other plain ∙ sym (same_chosen l s r n (slice_get s.relocations (i + 1)) h) ∙ on_machine l machine.X86_64 (question_for l s n (nameless r ∷ []) 0) x86
