-- Numbers that may not fit the file header.
use Rattle.std.proofs.Common.{◌≡◌, ℕ, length, refl, arith, false, true, nat_lt}
use Rattle.std.proofs.lemmas.Bool.Decides.{nat_tests}
use Rattle.wild_records.specs.Abi.Section.{shn_undef, shn_xindex}
use Rattle.wild_table_formats.specs.Headers.{file_header, null_header, name_table, number_or_escape, or_none}
use Rattle.wild_table_formats.specs.HeaderLaws.{IsInOneHeader, SectionCountIsRead, NameTableIsRead, CountsAtTheLimit}

number_in_one_header : (n escape : ℕ) → IsInOneHeader n escape (number_or_escape n escape) (or_none n)
number_in_one_header n escape = record {
  small = λ h. let t : nat_lt n 65280 ≡ true = grind (arith, nat_tests) in rw t (refl, refl);
  large = λ h. let f : nat_lt n 65280 ≡ false = grind (arith, nat_tests) in rw f (refl, refl);
}

pub count_stands : SectionCountIsRead
unfolding file_header null_header
count_stands l = number_in_one_header (length l.sections) shn_undef

pub name_table_stands : NameTableIsRead
unfolding file_header null_header
name_table_stands l = number_in_one_header (name_table l) shn_xindex

pub at_the_limit : CountsAtTheLimit
unfolding file_header null_header
at_the_limit l = record {
  last = λ h. rw h (refl, refl);
  next = λ h. rw h (refl, refl);
}
