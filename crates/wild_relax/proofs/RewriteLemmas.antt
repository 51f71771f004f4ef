-- What rewrites write: a relocation type that has a row, whose field is of bytes, and as many bytes as they say, which lie in the pattern.
use Rattle.std.proofs.Common.{◌≡◌, ℕ, ◌+◌, ◌-◌, ◌≤◌, inl, inr, Bool, true, false, List, length, refl, sym, ap, ◌∙◌, arith}
use Rattle.std.specs.Prelude.{Some, None, not, Contains}
use Rattle.std.specs.List.{list_all}
use Rattle.std.proofs.lemmas.Bool.{cases_Bool, not-true, leb-true, and_parts}
use Rattle.wild_words.specs.Words.{number}
use Rattle.wild_words.proofs.Basics.{listed_passes}
use Rattle.wild_words.proofs.WordLemmas.{length-word}
use Rattle.wild_reloc.specs.TableX86_64.{x86_64_row}
use Rattle.wild_reloc.specs.TableAArch64.{static_row, thread_row}
use Rattle.wild_reloc.specs.declared.info.RelocationSize.{RelocationSize}
use Rattle.wild_reloc.specs.declared.info.RelocationSize.TheVariants.{ByteSize}
use Rattle.wild_reloc.specs.declared.info.RelocationKindInfo.{RelocationKindInfo}
use Rattle.wild_reloc.specs.Field.{field_width}
use Rattle.wild_relax.specs.declared.pattern.LocalForm.TheVariants as local
use Rattle.wild_relax.specs.declared.row.Made.{Made}
use Rattle.wild_relax.specs.declared.row.Made.TheVariants.{Kept, Lea, Load, Immediate, MovImmediate, DirectCall, DirectJump, Nop, LocalExec, LocalExecLarge, InitialExec, ThreadPointer, Code}
use Rattle.wild_relax.specs.declared.row.Distance.{Distance}
use Rattle.wild_relax.specs.declared.row.Distance.TheVariants as distances
use Rattle.wild_relax.specs.declared.row.Written.{Written}
use Rattle.wild_relax.specs.declared.row.Written.TheVariants as written
use Rattle.wild_relax.specs.declared.row.Row.{Row}
use Rattle.wild_types.specs.Rows.{row_of}
use Rattle.wild_relax.specs.Pattern.{field_of}
use Rattle.wild_relax.specs.Rows.{rows_x86_64}
use Rattle.wild_relax.specs.KeepX86_64.{RowsHaveTypes}
use Rattle.wild_relax.specs.RewriteX86_64.{distance_type, word_made, change_of, made_bytes, number_written, or_nothing, is_aarch64, type_row, going, info_by, info_written, rewrite_of}
use Rattle.wild_relax.specs.LinkedPattern.{pattern_of, pattern_size, field_in, fits_in}

-- the field has bytes alone
abbrev pub is_bytes : RelocationSize → Bool
is_bytes (ByteSize w) = true
is_bytes other = false

-- of x86-64's relocation types
pub in_bytes : (w : Written) → is_aarch64 w ≡ false → is_bytes (info_by w).size ≡ true
unfolding x86_64_row
in_bytes written.Nothing h = refl
in_bytes written.Pc32 h = refl
in_bytes written.Plt32 h = refl
in_bytes written.Unsigned32 h = refl
in_bytes written.Signed32 h = refl
in_bytes written.GotTpOff h = refl
in_bytes written.TpOff32 h = refl
in_bytes written.GotOff64 h = refl
in_bytes other h = cc

-- each type has a row
pub typed : (w : Written) → type_row w ≡ Some (or_nothing (type_row w))
unfolding x86_64_row static_row thread_row
typed written.Nothing = refl
typed written.Pc32 = refl
typed written.Plt32 = refl
typed written.Unsigned32 = refl
typed written.Signed32 = refl
typed written.GotTpOff = refl
typed written.TpOff32 = refl
typed written.GotOff64 = refl
typed (written.Code distances.Jump26 goal) = refl
typed (written.Code distances.Call26 goal) = refl
typed (written.Code distances.CondBr19 goal) = refl
typed (written.Code distances.TstBr14 goal) = refl
typed (written.Code distances.Plt32 goal) = refl
typed written.TlsLeMovwTprelG1 = refl
typed written.TlsLeMovwTprelG0Nc = refl
typed written.TlsIeAdrGotTprelPage21 = refl
typed written.TlsIeLd64GotTprelLo12Nc = refl
typed written.AdrPrelLo21 = refl

-- distances of code have numbers that no type of x86-64 has
pub code_high : (d : Distance) → 274 ≤ distance_type d
code_high distances.Jump26 = omega arith
code_high distances.Call26 = omega arith
code_high distances.CondBr19 = omega arith
code_high distances.TstBr14 = omega arith
code_high distances.Plt32 = omega arith

-- no relocation type is of both machines but that which does nothing
no_x86_64_row : (w : Written) → is_aarch64 w ≡ true → x86_64_row (number_written w) ≡ None
unfolding x86_64_row
no_x86_64_row (written.Code distances.Jump26 goal) h = refl
no_x86_64_row (written.Code distances.Call26 goal) h = refl
no_x86_64_row (written.Code distances.CondBr19 goal) h = refl
no_x86_64_row (written.Code distances.TstBr14 goal) h = refl
no_x86_64_row (written.Code distances.Plt32 goal) h = refl
no_x86_64_row written.TlsLeMovwTprelG1 h = refl
no_x86_64_row written.TlsLeMovwTprelG0Nc h = refl
no_x86_64_row written.TlsIeAdrGotTprelPage21 h = refl
no_x86_64_row written.TlsIeLd64GotTprelLo12Nc h = refl
no_x86_64_row written.AdrPrelLo21 h = refl
no_x86_64_row other h = cc

plain_going : (w : Written) (i : RelocationKindInfo) → is_aarch64 w ≡ false → going w i ≡ i
plain_going (written.Code d goal) i h = cc
plain_going other i h = refl

-- x86-64's row of the type that is written
pub written_row : (w : Written) → is_aarch64 w ≡ false → x86_64_row (number_written w) ≡ Some (info_by w)
written_row w h =
    let known : type_row w ≡ x86_64_row (number_written w) = rw h refl in
    sym known ∙ (typed w ∙ ap (λ (i : RelocationKindInfo). Some i) (sym (plain_going w (or_nothing (type_row w)) h)))

pub of_x86_64 : (w : Written) (info : RelocationKindInfo) → Some info ≡ x86_64_row (number_written w) → is_aarch64 w ≡ false
of_x86_64 w info e =
    elim (cases_Bool (is_aarch64 w)) [
      | inr f ↦ f
      | inl t ↦ (let none : Some info ≡ None = e ∙ no_x86_64_row w t in cc)
    ]

pub info_is : (row : Row) (info : RelocationKindInfo) → Some info ≡ x86_64_row (rewrite_of row).number → info ≡ info_written row
info_is row info e = let same : Some info ≡ Some (info_written row) = e ∙ written_row row.written (of_x86_64 row.written info e) in cc

-- that of each row of x86-64
each_is_x86_64 : list_all (λ (row : Row). not (is_aarch64 row.written)) rows_x86_64 ≡ true
unfolding rows_x86_64
each_is_x86_64 = refl

pub listed_type : (row : Row) → Contains rows_x86_64 row → is_aarch64 row.written ≡ false
listed_type row c = not-true (is_aarch64 row.written) (listed_passes (λ (r : Row). not (is_aarch64 r.written)) rows_x86_64 row each_is_x86_64 c)

pub rows_have_types : RowsHaveTypes
unfolding row_of
rows_have_types row c = written_row row.written (listed_type row c)

pub length-made_bytes : (m : Made) (old : List ℕ) → length (made_bytes m old) ≡ (change_of m).size
length-made_bytes Kept old = refl
length-made_bytes Lea old = refl
length-made_bytes Load old = refl
length-made_bytes (Immediate p o) old = refl
length-made_bytes MovImmediate old = refl
length-made_bytes DirectCall old = refl
length-made_bytes DirectJump old = refl
length-made_bytes Nop old = refl
length-made_bytes LocalExec old = refl
length-made_bytes LocalExecLarge old = refl
length-made_bytes InitialExec old = refl
length-made_bytes (ThreadPointer local.Regular) old = refl
length-made_bytes (ThreadPointer local.Large) old = refl
length-made_bytes (ThreadPointer local.NoPlt) old = refl
length-made_bytes (Code w) old = length-word 4 (word_made w (number old))

-- what is written lies in the pattern
pub record LiesIn (row : Row) : Type 0 where
  pub begins : (rewrite_of row).back ≤ field_of (pattern_of row)
  pub bytes : field_of (pattern_of row) - (rewrite_of row).back + (rewrite_of row).size ≤ pattern_size row
  pub field : field_in row + field_width (info_written row) ≤ pattern_size row

pub lies_in : (row : Row) → fits_in row ≡ true → LiesIn row
lies_in row h =
    let field = and_parts _ _ h in
    let bytes = and_parts _ _ field.0 in
    record { begins = leb-true _ _ bytes.0; bytes = leb-true _ _ bytes.1; field = leb-true _ _ field.1 }
