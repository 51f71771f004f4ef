-- Calls and jumps of x86-64 whose symbol the output defines: the row that replaces the stub by the symbol applies.
use Rattle.std.proofs.Common.{◌≡◌, ℕ, ◌+◌, ◌-◌, ◌%◌, ◌^◌, ◌≤◌, Bool, true, false, List, [], ◌∷◌, length, refl, sym, ap, ◌∙◌, arith}
use Rattle.std.specs.Prelude.{Option, Some, None, Ok, Err, ◌==◌, ◌||◌, not, if◌then◌else◌, slice_get}
use Rattle.std.proofs.lemmas.Bool.{and_from, eq-eqb, le-leb}
use Rattle.wild_records.specs.Abi.Relocation.{r_x86_64_pc32, r_x86_64_plt32}
use Rattle.wild_reloc.specs.Range.{of_bits, contains}
use Rattle.wild_reloc.specs.TableX86_64.{x86_64_row}
use Rattle.wild_reloc.specs.declared.range.Sign.TheVariants.{Signed}
use Rattle.wild_reloc.specs.declared.info.RelocationSize.TheVariants.{ByteSize}
use Rattle.wild_reloc.specs.declared.info.Width.TheVariants.{Four}
use Rattle.wild_types.specs.declared.kind.Machine.{Machine}
use Rattle.wild_types.specs.declared.kind.Machine.TheVariants as machine
use Rattle.wild_types.specs.declared.input.InputRelocation.{InputRelocation}
use Rattle.wild_types.specs.declared.layout.Layout.{Layout}
use Rattle.wild_types.specs.Item.{Item}
use Rattle.wild_types.specs.Flags.{has_flag, interposable, ifunc}
use Rattle.wild_types.specs.Kinds.{is_executable}
use Rattle.wild_types.specs.Lookups.{executable, place_of}
use Rattle.wild_relax.specs.declared.pattern.Pattern.TheVariants as pattern
use Rattle.wild_relax.specs.declared.row.Row.{Row}
use Rattle.wild_relax.specs.declared.table.TheConstants.{PLT}
use Rattle.wild_relax.specs.FirstRow.{first_standing, row_or_fault}
use Rattle.wild_relax.specs.Pattern.{pattern_matches_before, cells_match_at}
use Rattle.wild_relax.specs.Question.{Question, relocation_of, minus_four}
use Rattle.wild_relax.specs.RowSequences.{has_its_sequence, has_partner}
use Rattle.wild_relax.specs.RowSymbols.{takes_value, takes_symbol, is_mandatory}
use Rattle.wild_relax.specs.Rows.{rows_x86_64, applies, unknown_sequence, first_row_x86_64, chosen_row_x86_64}
use Rattle.wild_relax.specs.RowsOfType.{rows_with}
use Rattle.wild_relax.proofs.NumberLemmas.{standing_is}
use Rattle.wild_layout.specs.declared.decision.Decision.TheVariants.{Field}
use Rattle.wild_layout.specs.Choice.{question_of, choice_merged, choice_by, choice_on, may_be_partner}
use Rattle.wild_layout.specs.SymbolValues.{displacement}
use Rattle.wild_layout.specs.SlotValues.{symbol_is_ifunc}
use Rattle.wild_layout.specs.Merged.{names_merged, address_for}
use Rattle.wild_layout.specs.Decide.{field_or_thunk, field_at, place_to, value_to, rewritten_decision, decide}
use Rattle.wild_layout.proofs.QuestionLemmas.{none_before}
use Rattle.wild_sections.specs.Targets.{IsOwnTarget}
use Rattle.wild_sections.specs.Calls.{IsCalled}
use Rattle.wild_sections.proofs.TargetLemmas.{IsPlain, is_plain, target_address, is_machine, near_row, near_term, near_reached}

-- ---- the call

pub called_by : (l : Layout) (s : Item) (r : InputRelocation) (i : ℕ) → r.symbol ≡ Some i → l.options.relax ≡ true → executable s.flags ≡ true → r.offset ≤ length s.bytes → IsCalled l s r i
called_by l s r i named relax code within = record { named = named; relax = relax; code = code; within = within }

-- ---- the row

-- what the row depends on
record IsOwnCall (q : Question) : Type 0 where
  number : (relocation_of q).number ≡ r_x86_64_plt32
  relax : q.relax ≡ true
  code : executable q.section_flags ≡ true
  unchosen : has_flag q.flags ifunc ≡ false
  own : interposable q.flags ≡ false
  within : (relocation_of q).offset ≤ length q.bytes

no_bytes_needed : (bs : List ℕ) (o : ℕ) → o ≤ length bs → pattern_matches_before bs o pattern.Nothing ≡ true
unfolding pattern_matches_before cells_match_at
no_bytes_needed bs o h = and_from _ _ (le-leb 0 o (omega arith)) (and_from _ _ (le-leb _ _ (omega (arith, h))) refl)

row_applies : (q : Question) → IsOwnCall q → applies q PLT ≡ true
unfolding applies
row_applies q c = and_from _ _ (and_from _ _ (and_from _ _ (and_from _ _ (and_from _ _ (and_from _ _ (and_from _ _ number on) c.code) symbols) refl) values) refl) (no_bytes_needed q.bytes (relocation_of q).offset c.within)
  where
    number : ((relocation_of q).number == PLT.number) ≡ true
    number = eq-eqb _ _ c.number

    on : (q.relax || is_mandatory PLT.duty q) ≡ true
    on = ap (λ (b : Bool). b || is_mandatory PLT.duty q) c.relax

    symbols : takes_symbol PLT.symbol q ≡ true
    symbols = ap not c.unchosen

    values : takes_value PLT.value q ≡ true
    values = ap not c.own

rows_of_calls : rows_with r_x86_64_plt32 ≡ PLT ∷ []
unfolding rows_with rows_x86_64
rows_of_calls = refl

row_is_first : (q : Question) → IsOwnCall q → first_row_x86_64 q ≡ Some PLT
row_is_first q c =
    sym (standing_is q)
    ∙ ap (λ (n : ℕ). first_standing (applies q) (rows_with n)) c.number
    ∙ ap (first_standing (applies q)) rows_of_calls
    ∙ ap (λ (b : Bool). if b then Some PLT else None) (row_applies q c)

row_is_whole : (q : Question) → IsOwnCall q → has_its_sequence q PLT ≡ true
unfolding has_its_sequence
row_is_whole q c = and_from _ _ (and_from _ _ (no_bytes_needed q.bytes (relocation_of q).offset c.within) refl) refl

row_is_chosen : (q : Question) → IsOwnCall q → chosen_row_x86_64 q ≡ Ok (Some PLT)
unfolding chosen_row_x86_64
row_is_chosen q c =
    ap (row_or_fault (has_its_sequence q) (unknown_sequence q)) (row_is_first q c)
    ∙ ap (λ (b : Bool). if b then Ok (Some PLT) else Err (unknown_sequence q PLT)) (row_is_whole q c)

-- ---- the choice

by_rows : (l : Layout) (s : Item) (r : InputRelocation) (next : Option InputRelocation) (i : ℕ) → (r.number == r_x86_64_pc32) ≡ false → names_merged l (Some i) ≡ false → choice_by l s r next (Some i) ≡ chosen_row_x86_64 (question_of l s r i next)
unfolding choice_by
by_rows l s r next i other plain = rw (other, plain) refl

call_is_own : (l : Layout) (s : Item) (r : InputRelocation) (next : Option InputRelocation) (i a : ℕ) → r.number ≡ r_x86_64_plt32 → IsCalled l s r i → IsOwnTarget l i a → IsOwnCall (question_of l s r i next)
call_is_own l s r next i a number called own = record {
  number = number;
  relax = called.relax;
  code = called.code;
  unchosen = (is_plain l i a own.target.is).unchosen;
  own = own.own;
  within = called.within;
}

row_of_call : (l : Layout) (s : Item) (k : ℕ) (r : InputRelocation) (i a : ℕ) → r.number ≡ r_x86_64_plt32 → IsCalled l s r i → IsOwnTarget l i a → choice_on l.machine l s k r ≡ Ok (Some PLT)
row_of_call l s k r i a number called own =
    let next = slice_get s.relocations (k + 1) in
    let other : (r.number == r_x86_64_pc32) ≡ false = ap (λ (n : ℕ). n == r_x86_64_pc32) number in
    ap (λ (m : Machine). choice_on m l s k r) (is_machine l.machine own.target.output)
    ∙ ap (choice_by l s r next) called.named
    ∙ by_rows l s r next i other (is_plain l i a own.target.is).unmerged
    ∙ row_is_chosen (question_of l s r i next) (call_is_own l s r next i a number called own)

-- ---- the value

same_place : (s : Item) (r : InputRelocation) → place_to s r PLT ≡ place_of s.address r
same_place s r = let e : field_at PLT r ≡ r.offset = omega arith in ap (λ (n : ℕ). (s.address + n) % 2 ^ 64) e

row_value : (l : Layout) (s : Item) (r : InputRelocation) (a v : ℕ) → v ≡ displacement a r.addend (place_of s.address r) → contains (of_bits 32 Signed) v ≡ true → value_to l s r PLT (Ok a) ≡ Ok (Field (ByteSize Four) v)
unfolding x86_64_row
row_value l s r a v is fits =
    ap (λ (p : ℕ). field_or_thunk l s r near_row (displacement a r.addend p)) (same_place s r)
    ∙ ap (field_or_thunk l s r near_row) (sym is) ∙ near_reached l s r v fits

row_decided : (l : Layout) (s : Item) (r : InputRelocation) (a v : ℕ) → l.machine ≡ machine.X86_64 → address_for l r ≡ Ok a → v ≡ displacement a r.addend (place_of s.address r) → contains (of_bits 32 Signed) v ≡ true → rewritten_decision l s r PLT ≡ Ok (Field (ByteSize Four) v)
unfolding x86_64_row
row_decided l s r a v x86 address is fits = ap (value_to l s r PLT) (near_term l r (place_to s r PLT) a x86 address) ∙ row_value l s r a v is fits

-- a call whose target four bytes reach
pub call_decided : (l : Layout) (s : Item) (k : ℕ) (r : InputRelocation) (i a v : ℕ) → slice_get s.relocations k ≡ Some r → r.number ≡ r_x86_64_plt32 → may_be_partner s.relocations k ≡ false → IsCalled l s r i → IsOwnTarget l i a
    → v ≡ displacement a r.addend (place_of s.address r) → contains (of_bits 32 Signed) v ≡ true → decide l s k ≡ Ok (Field (ByteSize Four) v)
unfolding decide
call_decided l s k r i a v listed number before called own is fits =
    let alone = none_before l s k before in
    let row = row_of_call l s k r i a number called own in
    rw (alone, listed, row) (row_decided l s r a v (is_machine l.machine own.target.output) (target_address l r i a called.named own.target.is) is fits)
