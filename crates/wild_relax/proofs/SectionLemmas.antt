-- A rewrite in its section.
use Rattle.std.proofs.Common.{◌≡◌, ℕ, ◌+◌, ◌-◌, ◌≤◌, Bool, true, false, List, [], ◌∷◌, ◌++◌, length, take, drop, refl, sym, ap, ◌∙◌, arith, subst}
use Rattle.std.specs.Prelude.{Some, Ok, ◌||◌, not, slice_range}
use Rattle.std.specs.List.{list_all}
use Rattle.std.proofs.lemmas.Bool.{and_parts}
use Rattle.std.proofs.lemmas.Bool.Decides.{nat_tests}
use Rattle.std.proofs.lemmas.List.{drop-drop, take-take, drop-take, take-append-drop}
use Rattle.std.proofs.lemmas.List.Elements.{All-nil, All-cons}
use Rattle.wild_words.specs.Words.{place}
use Rattle.wild_words.specs.Overlay.{Piece, PiecesOverAPart}
use Rattle.wild_words.proofs.Basics.{length-range, or_other, listed_passes}
use Rattle.wild_reloc.specs.Field.{field_width, written}
use Rattle.wild_reloc.proofs.PlaceLemmas.{length-size_written}
use Rattle.wild_relax.specs.declared.pattern.Pattern.{Pattern}
use Rattle.wild_relax.specs.declared.pattern.Pattern.TheVariants as pattern
use Rattle.wild_relax.specs.declared.row.Row.{Row}
use Rattle.wild_reloc.specs.TableX86_64.{x86_64_row}
use Rattle.wild_reloc.specs.declared.info.RelocationKindInfo.{RelocationKindInfo}
use Rattle.wild_relax.specs.Question.{Question, relocation_of, minus_four}
use Rattle.wild_relax.specs.Pattern.{pattern_cells, field_of, pattern_matches_before, cells_match_at}
use Rattle.wild_relax.specs.RowSequences.{has_partner, has_its_sequence}
use Rattle.wild_relax.specs.Rows.{rows_x86_64, chosen_row_x86_64}
use Rattle.wild_relax.specs.Rewrite.{rewritten_bytes}
use Rattle.wild_relax.specs.RewriteX86_64.{rewrite_of}
use Rattle.wild_relax.specs.LinkedPattern.{either_pattern, pattern_of, keeps_bytes, field_in, fits_in, IsChanging}
use Rattle.wild_relax.specs.KeepX86_64.{IsWhole}
use Rattle.wild_relax.specs.Section.{start_of, window, field_after, ChosenRowsApply, ChosenPatternsArePresent, SectionsAreLinked}
use Rattle.wild_relax.proofs.RoomLemmas.{chosen_is, always_stands, needed_stands, applied}
use Rattle.wild_relax.proofs.RewriteLemmas.{info_is, length-made_bytes, lies_in}
use Rattle.wild_relax.proofs.TemplateLemmas.{field_fits}

-- ---- the pattern stands in the input

-- it has its place in the bytes, whole
pub record IsAt (bs : List ℕ) (offset : ℕ) (p : Pattern) : Type 0 where
  pub before : field_of p ≤ offset
  pub inside : offset - field_of p + length (pattern_cells p) ≤ length bs
  pub whole : IsWhole (pattern_cells p) (slice_range bs (offset - field_of p) (offset - field_of p + length (pattern_cells p)))

pub at_place : (bs : List ℕ) (offset : ℕ) (p : Pattern) → pattern_matches_before bs offset p ≡ true → IsAt bs offset p
unfolding pattern_matches_before cells_match_at
at_place bs offset p h =
    let inside : offset - field_of p + length (pattern_cells p) ≤ length bs = grind (arith, nat_tests) in
    record {
      before = grind (arith, nat_tests);
      inside = inside;
      whole = record { long = length-range bs (offset - field_of p) (length (pattern_cells p)) inside; same = grind (arith, nat_tests) };
    }

-- a row stands on the bytes that it needs, or always on its pattern
abbrev pub stands_on : Pattern → Row → Bool
stands_on pattern.Nothing row = not row.ignores_bytes
stands_on needed row = true

each_stands_on : list_all (λ (row : Row). stands_on row.needed row) rows_x86_64 ≡ true
unfolding rows_x86_64
each_stands_on = refl

pub either_at : (bs : List ℕ) (offset : ℕ) (row : Row) (n : Pattern) → (not row.ignores_bytes ≡ true → IsAt bs offset row.required_bytes) → IsAt bs offset n → stands_on n row ≡ true → IsAt bs offset (either_pattern n row.required_bytes)
either_at bs offset row pattern.Nothing required_bytes needed h = required_bytes h
either_at bs offset row other required_bytes needed h = needed

pub chosen_at : (q : Question) (row : Row) → chosen_row_x86_64 q ≡ Ok (Some row) → IsAt q.bytes (relocation_of q).offset (pattern_of row)
chosen_at q row e =
    let first = chosen_is q row e in
    either_at q.bytes (relocation_of q).offset row row.needed
    (λ h. at_place q.bytes (relocation_of q).offset row.required_bytes (always_stands q row first.here h))
    (at_place q.bytes (relocation_of q).offset row.needed (needed_stands q row first.whole))
    (listed_passes (λ (r : Row). stands_on r.needed r) rows_x86_64 row each_stands_on first.listed)

-- and what its sequence has
record HasSequence (q : Question) (row : Row) : Type 0 where
  addend : (not row.needs_end || minus_four (relocation_of q).addend) ≡ true
  partner : has_partner row q ≡ true

sequence_has : (q : Question) (row : Row) → has_its_sequence q row ≡ true → HasSequence q row
unfolding has_its_sequence
sequence_has q row h =
    let partner = and_parts _ _ h in
    let addend = and_parts _ _ partner.0 in
    record { addend = addend.1; partner = partner.1 }

joined : (a b m : Bool) → (not a || m) ≡ true → (not b || m) ≡ true → (not (a || b) || m) ≡ true
joined true b m h k = h
joined false b m h k = k

pub chosen_stand : ChosenRowsApply
chosen_stand q row e =
    let first = chosen_is q row e in
    let at = chosen_at q row e in
    let row_takes = applied q row first.here in
    let has = sequence_has q row first.whole in
    record {
      here = first.here;
      sequence = first.whole;
      number = row_takes.number;
      taken = record {
        symbol = row_takes.symbol;
        section = row_takes.section;
        value = row_takes.value;
        thread = row_takes.thread;
        addend = joined row.ends row.needs_end (minus_four (relocation_of q).addend) row_takes.addend has.addend;
        partner = has.partner;
      };
      before = at.before;
      inside = at.inside;
      listed = first.listed;
    }

pub chosen_are_whole : ChosenPatternsArePresent
chosen_are_whole q row e = (chosen_at q row e).whole

-- ---- the rewrite and the field lie in the pattern

abbrev pub keeps_or_fits : Row → Bool
keeps_or_fits row = keeps_bytes row || fits_in row

each_fits : list_all keeps_or_fits rows_x86_64 ≡ true
unfolding rows_x86_64 x86_64_row
each_fits = refl

pub changing_fits : (row : Row) → IsChanging row → fits_in row ≡ true
changing_fits row c = or_other (keeps_bytes row) (fits_in row) (listed_passes keeps_or_fits rows_x86_64 row each_fits c.listed) c.changes

-- ---- the section

place_same : (s n : ℕ) (xs : List ℕ) → s + n ≤ length xs → place s (slice_range xs s (s + n)) xs ≡ xs
unfolding place
place_same s n xs h =
    let e : s + n - s ≡ n = omega arith in
    let l = length-range xs s n h in
    let tail : drop (s + length (slice_range xs s (s + n))) xs ≡ drop n (drop s xs) = rw l (sym (drop-drop n s xs)) in
    let middle : slice_range xs s (s + n) ≡ take n (drop s xs) = rw e refl in
    ap (λ (t : List ℕ). take s xs ++ (slice_range xs s (s + n) ++ t)) tail
    ∙ ap (λ (m : List ℕ). take s xs ++ (m ++ drop n (drop s xs))) middle
    ∙ ap (λ (t : List ℕ). take s xs ++ t) (take-append-drop n (drop s xs))
    ∙ take-append-drop s xs

-- a part of a part
inner : (s n k m : ℕ) (xs : List ℕ) → k + m ≤ n → slice_range (slice_range xs s (s + n)) k (k + m) ≡ slice_range xs (s + k) (s + k + m)
inner s n k m xs h =
    let e : s + n - s ≡ n = omega arith in
    let f : k + m - k ≡ m = omega arith in
    let g : s + k + m - (s + k) ≡ m = omega arith in
    let r : n ≡ k + (n - k) = omega arith in
    let cut : drop k (take n (drop s xs)) ≡ take (n - k) (drop k (drop s xs)) =
    subst (λ (x : ℕ). drop k (take x (drop s xs)) ≡ take (n - k) (drop k (drop s xs))) (sym r) (drop-take k (n - k) (drop s xs)) in
    rw (e, f, g) (ap (take m) cut ∙ take-take m (n - k) (drop k (drop s xs)) (omega arith) ∙ ap (take m) (drop-drop k s xs))

pub sections_are_linked : PiecesOverAPart → SectionsAreLinked
sections_are_linked over q row info value chosen known e =
    let at = chosen_at q row chosen in
    let xs = q.bytes in
    let o = (relocation_of q).offset in
    let s = start_of q row in
    let n = length (pattern_cells (pattern_of row)) in
    let part = window q row in
    let w = rewrite_of row in
    let k = field_of (pattern_of row) - w.back in
    let fits = changing_fits row known in
    let lies = lies_in row fits in
    let back = lies.begins in
    let bytes_fit = lies.bytes in
    let room_is : field_in row + field_width info ≤ length (pattern_cells (pattern_of row)) = subst (λ (i : RelocationKindInfo). field_in row + field_width i ≤ length (pattern_cells (pattern_of row))) (sym (info_is row info e)) (field_fits row fits) in
    let before = at.before in
    let within = at.inside in
    let long : length part ≡ n = at.whole.long in
    let field_is = length-size_written info.size value [] in
    let size_is = length-made_bytes row.made (slice_range part k (k + w.size)) in
    let same : place s part xs ≡ xs = place_same s n xs within in
    let a : o - w.back ≡ s + k = omega arith in
    let b : field_after q row ≡ s + field_in row = omega arith in
    let old : slice_range part k (k + w.size) ≡ slice_range xs (s + k) (s + k + w.size) = inner s n k w.size xs (omega arith) in
    let first : Piece = record { at = k; bytes = w.bytes (slice_range part k (k + w.size)) } in
    let second : Piece = record { at = field_in row; bytes = written info value [] } in
    let Lies : Piece → Type 0 = λ p. p.at + length p.bytes ≤ length part in
    let first_lies : k + length (w.bytes (slice_range part k (k + w.size))) ≤ length part = omega arith in
    let second_lies : field_in row + length (written info value []) ≤ length part = omega arith in
    let linked_in = over s part xs (first ∷ second ∷ []) (omega arith) (All-cons Lies first (second ∷ []) first_lies (All-cons Lies second [] second_lies (All-nil Lies))) in
    ap (λ (x : ℕ). place x (written info value []) (rewritten_bytes w o xs)) b
    ∙ ap (λ (x : ℕ). place (s + field_in row) (written info value []) (place x (w.bytes (slice_range xs x (x + w.size))) xs)) a
    ∙ ap (λ (z : List ℕ). place (s + field_in row) (written info value []) (place (s + k) (w.bytes z) xs)) (sym old)
    ∙ ap (λ (z : List ℕ). place (s + field_in row) (written info value []) (place (s + k) (w.bytes (slice_range part k (k + w.size))) z)) (sym same)
    ∙ linked_in
