-- A rewrite that stands has room.
use Rattle.std.proofs.Common.{◌≡◌, ℕ, suc, ◌+◌, Bool, true, false, List, [], ◌∷◌, length, refl, ap, arith, subst, ⊎_elim}
use Rattle.std.specs.Prelude.{Option, Some, None, Ok, Err, Result, ◌&&◌, ◌||◌, not, cond, if◌then◌else◌, nat_le, Contains}
use Rattle.std.specs.List.{list_all}
use Rattle.std.proofs.lemmas.Bool.Decides.{nat_tests}
use Rattle.std.proofs.lemmas.Bool.{and_parts, or_cases, eqb-true}
use Rattle.wild_words.proofs.Basics.{listed_passes}
use Rattle.wild_types.specs.Kinds.{is_executable}
use Rattle.wild_types.specs.Lookups.{executable}
use Rattle.wild_relax.specs.declared.reference.UnknownSequence.{UnknownSequence}
use Rattle.wild_relax.specs.declared.pattern.Pattern.{Pattern}
use Rattle.wild_relax.specs.declared.row.Row.{Row}
use Rattle.wild_relax.specs.Question.{Question, relocation_of, minus_four}
use Rattle.wild_relax.specs.Pattern.{pattern_cells, field_of, pattern_matches_before, cells_match_at}
use Rattle.wild_relax.specs.FirstRow.{first_standing, row_or_fault}
use Rattle.wild_relax.specs.RowSymbols.{takes_symbol, takes_value, is_mandatory}
use Rattle.wild_relax.specs.RowSequences.{has_its_sequence, has_partner}
use Rattle.wild_relax.specs.Rows.{rows_x86_64, applies, unknown_sequence, first_row_x86_64, chosen_row_x86_64}
use Rattle.wild_relax.specs.Rewrite.{Rewrite, HasRoom}
use Rattle.wild_relax.specs.RowsAArch64.{rows_aarch64, applies_aarch64, has_its_words, first_row_aarch64, chosen_row_aarch64}
use Rattle.wild_relax.specs.RewriteX86_64.{rewrite_of}

-- what a first row is
pub record IsFirst {R : Type 0} (stands : R → Bool) (rows : List R) (r : R) : Type 0 where
  pub here : stands r ≡ true
  pub listed : Contains rows r

here_or_later : {R : Type 0} (stands : R → Bool) (x : R) (xs : List R) (b : Bool) (r : R) → stands x ≡ b → (first_standing stands xs ≡ Some r → IsFirst stands xs r) → cond b (Some x) (first_standing stands xs) ≡ Some r → IsFirst stands (x ∷ xs) r
here_or_later stands x xs true r s later e =
    let same : x ≡ r = cc in
    subst (IsFirst stands (x ∷ xs)) same (record { here = s; listed = (0, omega arith, refl) })
here_or_later stands x xs false r s later e =
    let rest = later e in
    record { here = rest.here; listed = (suc rest.listed.0, (let low = rest.listed.1 in omega (arith, low)), rest.listed.2) }

pub first_is : {R : Type 0} (stands : R → Bool) (rows : List R) (r : R) → first_standing stands rows ≡ Some r → IsFirst stands rows r
first_is stands [] r e = cc
first_is stands (x ∷ xs) r e = here_or_later stands x xs (stands x) r refl (first_is stands xs r) e

-- a row that is not refused
pub record IsChecked {R : Type 0} (has : R → Bool) (found : Option R) (r : R) : Type 0 where
  pub same : found ≡ Some r
  pub whole : has r ≡ true

has_all : {R : Type 0} (has : R → Bool) (by : R → UnknownSequence) (q r : R) (h : Bool) → has q ≡ h → cond h (Ok (Some q)) (Err (by q)) ≡ Ok (Some r) → IsChecked has (Some q) r
has_all has by q r true h e =
    let same : q ≡ r = cc in
    record { same = ap Some same; whole = subst (λ x. has x ≡ true) same h }
has_all has by q r false h e = cc

pub checked_is : {R : Type 0} (has : R → Bool) (by : R → UnknownSequence) (found : Option R) (r : R) → row_or_fault has by found ≡ Ok (Some r) → IsChecked has found r
checked_is has by None r e = cc
checked_is has by (Some q) r e = has_all has by q r (has q) refl e

-- the bytes that are replaced are the pattern's
abbrev pub lies_in : Rewrite → Pattern → Bool
lies_in w p = nat_le w.back (field_of p) && nat_le (w.size + field_of p) (length (pattern_cells p) + w.back)

abbrev pub lies_in_its_own : Row → Bool
lies_in_its_own row = not row.ignores_bytes && lies_in (rewrite_of row) row.required_bytes || lies_in (rewrite_of row) row.needed

each_lies : list_all lies_in_its_own rows_x86_64 ≡ true
unfolding rows_x86_64
each_lies = refl

each_word_lies : list_all lies_in_its_own rows_aarch64 ≡ true
unfolding rows_aarch64
each_word_lies = refl

room_in : (bs : List ℕ) (offset : ℕ) (p : Pattern) (w : Rewrite) → pattern_matches_before bs offset p ≡ true → lies_in w p ≡ true → HasRoom w offset (length bs)
unfolding pattern_matches_before cells_match_at
room_in bs offset p w s l = record { before = grind (arith, nat_tests); behind = grind (arith, nat_tests) }

by_bytes : (a b : Bool) → (a || b) ≡ true → not a ≡ true → b ≡ true
by_bytes true b h n = cc
by_bytes false b h n = h

pub always_stands : (q : Question) (row : Row) → applies q row ≡ true → not row.ignores_bytes ≡ true → pattern_matches_before q.bytes (relocation_of q).offset row.required_bytes ≡ true
unfolding applies
always_stands q row h n = by_bytes _ _ (and_parts _ _ h).1 n

pub needed_stands : (q : Question) (row : Row) → has_its_sequence q row ≡ true → pattern_matches_before q.bytes (relocation_of q).offset row.needed ≡ true
unfolding has_its_sequence
needed_stands q row h = (and_parts _ _ (and_parts _ _ h).0).0

-- what the first row that stands is
pub standing_first : (q : Question) (row : Row) → first_row_x86_64 q ≡ Some row → IsFirst (applies q) rows_x86_64 row
unfolding first_row_x86_64
standing_first q row e = first_is (applies q) rows_x86_64 row e

-- what a chosen row is
pub record IsChosenRow (q : Question) (row : Row) : Type 0 where
  pub here : applies q row ≡ true
  pub listed : Contains rows_x86_64 row
  pub whole : has_its_sequence q row ≡ true

pub chosen_is : (q : Question) (row : Row) → chosen_row_x86_64 q ≡ Ok (Some row) → IsChosenRow q row
unfolding chosen_row_x86_64
chosen_is q row e =
    let good = checked_is (has_its_sequence q) (unknown_sequence q) (first_row_x86_64 q) row e in
    let first = standing_first q row good.same in
    record { here = first.here; listed = first.listed; whole = good.whole }

has_room : (q : Question) (row : Row) → applies q row ≡ true → has_its_sequence q row ≡ true → lies_in_its_own row ≡ true → HasRoom (rewrite_of row) (relocation_of q).offset (length q.bytes)
has_room q row here whole lies =
    ⊎_elim
    (λ l. room_in q.bytes (relocation_of q).offset row.required_bytes (rewrite_of row) (always_stands q row here (and_parts _ _ l).0) (and_parts _ _ l).1)
    (λ l. room_in q.bytes (relocation_of q).offset row.needed (rewrite_of row) (needed_stands q row whole) l)
    (or_cases _ _ lies)

pub chosen_has_room : (q : Question) (row : Row) → chosen_row_x86_64 q ≡ Ok (Some row) → HasRoom (rewrite_of row) (relocation_of q).offset (length q.bytes)
chosen_has_room q row e =
    let first = chosen_is q row e in
    has_room q row first.here first.whole (listed_passes lies_in_its_own rows_x86_64 row each_lies first.listed)

-- ---- AArch64

-- what the first row that stands is there
pub standing_first_aarch64 : (q : Question) (row : Row) → first_row_aarch64 q ≡ Some row → IsFirst (applies_aarch64 q) rows_aarch64 row
unfolding first_row_aarch64
standing_first_aarch64 q row e = first_is (applies_aarch64 q) rows_aarch64 row e

-- what a chosen row is there
pub record IsChosenThere (q : Question) (row : Row) : Type 0 where
  pub here : applies_aarch64 q row ≡ true
  pub listed : Contains rows_aarch64 row
  pub whole : has_its_words q row ≡ true

pub chosen_is_aarch64 : (q : Question) (row : Row) → chosen_row_aarch64 q ≡ Ok (Some row) → IsChosenThere q row
unfolding chosen_row_aarch64
chosen_is_aarch64 q row e =
    let good = checked_is (has_its_words q) (unknown_sequence q) (first_row_aarch64 q) row e in
    let first = standing_first_aarch64 q row good.same in
    record { here = first.here; listed = first.listed; whole = good.whole }

pub chosen_has_room_aarch64 : (q : Question) (row : Row) → chosen_row_aarch64 q ≡ Ok (Some row) → HasRoom (rewrite_of row) (relocation_of q).offset (length q.bytes)
chosen_has_room_aarch64 q row e =
    let c = chosen_is_aarch64 q row e in
    has_room q row (and_parts _ _ c.here).0 (and_parts _ _ c.whole).0 (listed_passes lies_in_its_own rows_aarch64 row each_word_lies c.listed)

-- ---- what a row asks

pub partner_asked : (q : Question) (row : Row) → has_its_sequence q row ≡ true → has_partner row q ≡ true
unfolding has_its_sequence
partner_asked q row h = (and_parts _ _ h).1

-- what a row that stands takes
pub record IsApplied (q : Question) (row : Row) : Type 0 where
  pub number : (relocation_of q).number ≡ row.number
  pub on : (q.relax || is_mandatory row.duty q) ≡ true
  pub section : (not row.in_code || executable q.section_flags) ≡ true
  pub symbol : takes_symbol row.symbol q ≡ true
  pub thread : (not row.thread_local || is_executable q.kind) ≡ true
  pub value : takes_value row.value q ≡ true
  pub addend : (not row.ends || minus_four (relocation_of q).addend) ≡ true

pub applied : (q : Question) (row : Row) → applies q row ≡ true → IsApplied q row
unfolding applies
applied q row h =
    let addend = and_parts _ _ (and_parts _ _ h).0 in
    let value = and_parts _ _ addend.0 in
    let thread = and_parts _ _ value.0 in
    let symbol = and_parts _ _ thread.0 in
    let section = and_parts _ _ symbol.0 in
    let number = and_parts _ _ section.0 in
    record { number = eqb-true _ _ number.0; on = number.1; section = section.1; symbol = symbol.1; thread = thread.1; value = value.1; addend = addend.1 }
