-- The field of what a row writes.
use Rattle.std.proofs.Common.{◌≡◌, ℕ, ◌+◌, ◌-◌, ◌≤◌, true, List, [], length, take, drop, refl, sym, ap, ◌∙◌, arith}
use Rattle.std.specs.Prelude.{Some, slice_range}
use borrow.Rule.Slice.PartMut.{put_mid}
use Rattle.wild_words.specs.Words.{place}
use Rattle.wild_words.proofs.WordLemmas.{place_put_mid}
use Rattle.wild_words.proofs.OverlayLemmas.{length-place}
use Rattle.wild_reloc.proofs.PlaceLemmas.{length-size_written}
use Rattle.wild_reloc.specs.Field.{field_width, size_written, written}
use Rattle.wild_reloc.specs.TableX86_64.{x86_64_row}
use Rattle.wild_reloc.specs.declared.info.RelocationSize.{RelocationSize}
use Rattle.wild_reloc.specs.declared.info.RelocationSize.TheVariants.{ByteSize}
use Rattle.wild_reloc.specs.declared.info.RelocationKindInfo.{RelocationKindInfo}
use Rattle.wild_relax.specs.declared.row.Row.{Row}
use Rattle.wild_relax.specs.Pattern.{field_of}
use Rattle.wild_relax.specs.Rewrite.{rewritten_bytes, replaced_bytes}
use Rattle.wild_relax.specs.RewriteX86_64.{info_written, rewrite_of}
use Rattle.wild_relax.specs.LinkedPattern.{pattern_of, pattern_size, fits_in, field_in, linked_pattern, with_field, template_of}
use Rattle.wild_relax.proofs.RewriteLemmas.{is_bytes, in_bytes, of_x86_64, info_is, length-made_bytes, lies_in}

-- it lies in the pattern
pub field_fits : (row : Row) → fits_in row ≡ true → field_in row + field_width (info_written row) ≤ pattern_size row
field_fits row h = (lies_in row h).field

-- of whole bytes it has the value's alone
over_any : (z : RelocationSize) (value : ℕ) (over : List ℕ) → is_bytes z ≡ true → size_written z value over ≡ size_written z value []
over_any (ByteSize w) value over h = refl
over_any other value over h = cc

pub template_linked : (row : Row) (info : RelocationKindInfo) (value : ℕ) (old : List ℕ) → Some info ≡ x86_64_row (rewrite_of row).number → template_of row value old ≡ linked_pattern row info value old
unfolding template_of
template_linked row info value old e =
    let made = rewritten_bytes (rewrite_of row) (field_of (pattern_of row)) old in
    let same = info_is row info e in
    ap (λ (bs : List ℕ). place (field_in row) bs made) (over_any (info_written row).size value (slice_range made (field_in row) (field_in row + field_width (info_written row))) (in_bytes row.written (of_x86_64 row.written info e)))
    ∙ ap (λ (i : RelocationKindInfo). linked_pattern row i value old) (sym same)

-- ---- the bytes around it

length-rewritten_bytes : (row : Row) (old : List ℕ) → fits_in row ≡ true → length old ≡ pattern_size row → length (rewritten_bytes (rewrite_of row) (field_of (pattern_of row)) old) ≡ length old
length-rewritten_bytes row old h long =
    let at = field_of (pattern_of row) - (rewrite_of row).back in
    let inside = (lies_in row h).bytes in
    let bytes = length-made_bytes row.made (slice_range old at (at + (rewrite_of row).size)) in
    length-place at old ((rewrite_of row).bytes (slice_range old at (at + (rewrite_of row).size))) (omega arith)

pub length-template : (row : Row) (value : ℕ) (old : List ℕ) → fits_in row ≡ true → length old ≡ pattern_size row → length (template_of row value old) ≡ pattern_size row
unfolding template_of
length-template row value old h long =
    let made = rewritten_bytes (rewrite_of row) (field_of (pattern_of row)) old in
    let over = slice_range made (field_in row) (field_in row + field_width (info_written row)) in
    let room = field_fits row h in
    let size = length-size_written (info_written row).size value over in
    let same = length-rewritten_bytes row old h long in
    length-place (field_in row) made (written (info_written row) value over) (omega arith) ∙ same ∙ long

-- ---- the two writes

-- where the first one begins
pub record Begins (row : Row) (start field : ℕ) : Type 0 where
  pub first : start ≡ field_of (pattern_of row) - (rewrite_of row).back
  pub then : field ≡ (rewrite_of row).field

pub room_after : (row : Row) (start field : ℕ) (old new : List ℕ) → fits_in row ≡ true → length old ≡ pattern_size row → Begins row start field → new ≡ replaced_bytes (rewrite_of row) start old
    → start + field + field_width (info_written row) ≤ length new
room_after row start field old new h long begins first =
    let room = field_fits row h in
    let same = length-rewritten_bytes row old h long in
    let s = begins.first in
    let f = begins.then in
    let n : length new ≡ length (rewritten_bytes (rewrite_of row) (field_of (pattern_of row)) old) = ap length (first ∙ ap (λ (x : ℕ). replaced_bytes (rewrite_of row) x old) s) in
    omega arith

pub written_is : (row : Row) (value start field : ℕ) (old new out : List ℕ) → Begins row start field → new ≡ replaced_bytes (rewrite_of row) start old → out ≡ with_field (info_written row) (start + field) value new → out ≡ template_of row value old
unfolding template_of
written_is row value start field old new out begins first second =
    second
    ∙ ap (λ (bs : List ℕ). with_field (info_written row) (start + field) value bs) first
    ∙ ap (λ (x : ℕ). with_field (info_written row) (x + field) value (replaced_bytes (rewrite_of row) x old)) begins.first
    ∙ ap (λ (x : ℕ). with_field (info_written row) (field_of (pattern_of row) - (rewrite_of row).back + x) value (rewritten_bytes (rewrite_of row) (field_of (pattern_of row)) old)) begins.then

-- ---- the part in its room

pub part_is : (row : Row) (value start size : ℕ) (room part : List ℕ) → size ≡ pattern_size row → length part ≡ pattern_size row → part ≡ template_of row value (take (start + size - start) (drop start room))
    → put_mid start (start + size - start) room part ≡ place start (template_of row value (slice_range room start (start + pattern_size row))) room
part_is row value start size room part s long is =
    place_put_mid start (start + size) room part (omega (arith, s, long)) ∙ ap (λ (p : List ℕ). place start p room) (is ∙ ap (λ (n : ℕ). template_of row value (slice_range room start (start + n))) s)
