-- What stands where in the headers.
use Rattle.std.proofs.Common.{◌≡◌, ℕ, zero, suc, ◌+◌, ◌-◌, ◌*◌, ◌<◌, ◌≤◌, List, [], ◌∷◌, ◌++◌, length, take, get_or, ap, ◌∙◌, arith}
use Rattle.std.specs.List.{flat_map}
use Rattle.std.proofs.lemmas.List.{length-append, get_or-append_right}
use Rattle.wild_words.specs.Words.{HasBytesAt}
use Rattle.wild_words.specs.Record.{spell}
use Rattle.wild_words.proofs.RecordLemmas.{HasBytesAt-left}
use Rattle.wild_records.specs.ProgramHeader.{program_header_size, program_header_fields}
use Rattle.wild_records.specs.SectionHeader.{section_header_size, section_header_fields}
use Rattle.wild_records.specs.declared.section_header.SectionHeader.{SectionHeader}
use Rattle.wild_types.specs.declared.section.Section.{Section}
use Rattle.wild_types.specs.declared.layout.Layout.{Layout}
use Rattle.wild_types.specs.Lists.{total}
use Rattle.wild_table_formats.specs.declared.section_info.ComputedInfo.{ComputedInfo}
use Rattle.wild_table_formats.specs.Headers.{program_header, computed_infos, section_header, headers_from, section_headers_of}
use Rattle.wild_table_formats.specs.HeaderLaws.{ProgramHeadersAreRead, SectionHeadersAreRead, SectionNamesAreRead}
use Rattle.wild_table_formats.proofs.HeaderLemmas.{length-program_header, length-section_header, named}
use Rattle.wild_table_formats.proofs.HeaderLengths.{length-section_headers_of}

HasBytesAt-after : (xs ys part : List ℕ) (n at whole : ℕ) → length xs ≡ n → whole ≡ n + at → HasBytesAt ys at part → HasBytesAt (xs ++ ys) whole part
HasBytesAt-after xs ys part n at whole len is s = record {
  fits = let e = length-append xs ys in let f = s.fits in omega (arith, e, f, len, is);
  same = λ k l.
      let a : whole + k - n ≡ at + k = omega (arith, is) in
      get_or-append_right xs ys n (whole + k) 0 len (omega (arith, is)) ∙ ap (λ (i : ℕ). get_or ys i 0) a ∙ s.same k l;
}

-- entry k of a table whose entries have the same width
HasBytesAt-table : {X : Type 0} (f : X → List ℕ) (n : ℕ) → ((x : X) → length (f x) ≡ n) → (xs : List X) (k : ℕ) (d : X) → k < length xs → HasBytesAt (flat_map f xs) (n * k) (f (get_or xs k d))
HasBytesAt-table f n w [] k d l = absurd (omega (arith, l))
HasBytesAt-table f n w (x ∷ xs) zero d l = let e : n * 0 ≡ 0 = omega arith in rw e (HasBytesAt-left (f x) (flat_map f xs))
HasBytesAt-table f n w (x ∷ xs) (suc k) d l =
    let e : n * suc k ≡ n + n * k = omega arith in
    HasBytesAt-after (f x) (flat_map f xs) (f (get_or xs k d)) n (n * k) (n * (suc k)) (w x) e (HasBytesAt-table f n w xs k d (omega (arith, l)))

pub programs_stand : ProgramHeadersAreRead
programs_stand l k d h = HasBytesAt-table (λ g. spell (program_header_fields (program_header l g))) program_header_size (λ g. length-program_header (program_header l g)) l.segments k d h

pub sections_stand : SectionHeadersAreRead
sections_stand l k d h =
    let n = length-section_headers_of l l.sections in
    HasBytesAt-table (λ x. spell (section_header_fields x)) section_header_size length-section_header (section_headers_of l l.sections) k d (omega (arith, n, h))

-- the name that a header tells begins behind those before it
name_of_header : (l : Layout) (d : List ComputedInfo) (i name : ℕ) (ss : List Section) (k : ℕ) (h : SectionHeader) → k < length ss → (get_or (headers_from l d i name ss) k h).name ≡ name + total named (take k ss)
unfolding section_header
name_of_header l d i name [] k h few = absurd (omega (arith, few))
name_of_header l d i name (s ∷ ss) zero h few = omega arith
name_of_header l d i name (s ∷ ss) (suc k) h few = let e = name_of_header l d (i + 1) (name + length s.name + 1) ss k h (omega (arith, few)) in omega (arith, e)

HasBytesAt-name : (ss : List Section) (k : ℕ) (d : Section) → k < length ss → HasBytesAt (flat_map (λ (s : Section). s.name ++ 0 ∷ []) ss) (total named (take k ss)) ((get_or ss k d).name ++ 0 ∷ [])
HasBytesAt-name [] k d l = absurd (omega (arith, l))
HasBytesAt-name (s ∷ ss) zero d l = HasBytesAt-left (s.name ++ 0 ∷ []) (flat_map (λ (t : Section). t.name ++ 0 ∷ []) ss)
HasBytesAt-name (s ∷ ss) (suc k) d l =
    HasBytesAt-after (s.name ++ 0 ∷ []) (flat_map (λ (t : Section). t.name ++ 0 ∷ []) ss) ((get_or ss k d).name ++ 0 ∷ []) (length s.name + 1) (total named (take k ss)) (total named (take (suc k) (s ∷ ss)))
    (length-append s.name (0 ∷ [])) (omega arith) (HasBytesAt-name ss k d (omega (arith, l)))

pub names_stand : SectionNamesAreRead
names_stand l k d h some few = at l l.sections k d h some few
  where
    at : (l : Layout) (ss : List Section) (k : ℕ) (d : Section) (h : SectionHeader) → 1 ≤ k → k < length ss → HasBytesAt (flat_map (λ (s : Section). s.name ++ 0 ∷ []) ss) (get_or (section_headers_of l ss) k h).name ((get_or ss k d).name ++ 0 ∷ [])
    at l [] k d h some few = absurd (omega (arith, few))
    at l (s ∷ ss) zero d h some few = absurd (omega (arith, some))
    at l (s ∷ ss) (suc k) d h some few =
        let e = name_of_header l (computed_infos l) 1 (length s.name + 1) ss k h (omega (arith, few)) in
        let same : (get_or (headers_from l (computed_infos l) 1 (length s.name + 1) ss) k h).name ≡ total named (take (suc k) (s ∷ ss)) = omega (arith, e) in
        rw same (HasBytesAt-name (s ∷ ss) (suc k) d few)
