-- The headers of an image have their fields' ranges, and the loader takes them.
use Rattle.wild_loaded.proofs.Common.{is_partial_link, ◌≡◌, ℕ, suc, ◌+◌, ◌-◌, ◌*◌, ◌/◌, ◌%◌, ◌^◌, ◌<◌, ◌≤◌, inl, inr, Bool, true, false, List, [], ◌∷◌, length, max, refl, sym, ap, ◌∙◌, arith, All, if◌then◌else◌, ◌==◌, nat_lt, cases_Bool, eqb-true, All-cons, sht_nobits, shf_alloc, pt_load, file_header_size, Part, Section, Segment, Layout, is_header_only, file_header, program_header, null_header, computed_infos, info_at, section_header, headers_from, section_headers_of, NumbersFit, IsLoadable, length-section_headers_of, facts_of}
use Rattle.std.specs.Int.RustNames.{bit_and}
use Rattle.std.proofs.lemmas.Bool.{ltb-true}
use Rattle.std.proofs.lemmas.Nat.Bits.{and_pow}
use Rattle.wild_records.specs.Abi.Section.{shf_compressed, shn_loreserve}
use Rattle.wild_records.specs.Abi.Segment.{pt_gnu_stack, pf_x}
use Rattle.wild_records.specs.FileHeader.{FileHeaderFits}
use Rattle.wild_records.specs.ProgramHeader.{ProgramHeaderFits, program_header_size}
use Rattle.wild_records.specs.SectionHeader.{SectionHeaderFits}
use Rattle.wild_types.specs.declared.part.Role.TheVariants as role
use Rattle.wild_types.specs.Lists.{total}
use Rattle.wild_types.specs.Lookups.{bit}
use Rattle.wild_needs.specs.Versions.{need_count}
use Rattle.wild_table_formats.specs.Headers.{number_or_escape, or_none, name_table, section_of_role, with_execute, uncompressed_flags, local_symbols}
use Rattle.wild_layout.specs.Numbers.{SegmentNumbers, SectionNumbers}
use Rattle.wild_loaded.proofs.FileType.{type_known, type_fits}
use Rattle.wild_loader.specs.Headers.{is_loadable_header}
use Rattle.wild_loader.specs.SegmentLaws.{section_header_count, first_size}
use Rattle.wild_table_formats.proofs.HeaderLengths.{role_below}

-- ---- bits

compressed_bit : (f : ℕ) → bit f shf_compressed ≡ true → f / shf_compressed % 2 ≡ 1
unfolding bit
compressed_bit f h =
    let a : bit_and f 2048 ≡ f / 2048 % 2 * 2048 = and_pow f 11 in
    let e : bit_and f 2048 ≡ 2048 = eqb-true _ _ h in
    omega (arith, a, e)

-- clearing SHF_COMPRESSED leaves SHF_ALLOC
pub uncompressed_flags-alloc : (f : ℕ) → uncompressed_flags f / shf_alloc % 2 ≡ f / shf_alloc % 2
uncompressed_flags-alloc f =
    elim (cases_Bool (bit f shf_compressed)) [
      | inl t ↦ (let b : f / 2048 % 2 ≡ 1 = compressed_bit f t in let e : (f - 2048) / 2 % 2 ≡ f / 2 % 2 = omega (arith, b) in rw t e)
      | inr n ↦ rw n refl
    ]

uncompressed_flags-le : (f : ℕ) → uncompressed_flags f ≤ f
uncompressed_flags-le f =
    elim (cases_Bool (bit f shf_compressed)) [
      | inl t ↦ rw t (omega arith)
      | inr n ↦ rw n (omega arith)
    ]

-- ---- escapes

escape_fits : (n e : ℕ) → e < 2 ^ 16 → number_or_escape n e < 2 ^ 16
escape_fits n e h =
    elim (cases_Bool (nat_lt n shn_loreserve)) [
      | inl t ↦ (let l = ltb-true _ _ t in rw t (omega (arith, l)))
      | inr f ↦ rw f h
    ]

none_fits : (n m : ℕ) → n < m → or_none n < m
none_fits n m h =
    elim (cases_Bool (nat_lt n shn_loreserve)) [
      | inl t ↦ rw t (omega (arith, h))
      | inr f ↦ rw f h
    ]

pub name_table_below : (l : Layout) (n : ℕ) → 1 ≤ n → All (λ (p : Part). p.section < n) l.parts → name_table l < n
name_table_below l n some h = role_below role.Shstrtab l.parts n some h

-- the number of sections is told
pub sections_told : (n : ℕ) → 1 ≤ n → (if number_or_escape n 0 == 0 then or_none n else number_or_escape n 0) ≡ n
sections_told n h =
    elim (cases_Bool (nat_lt n shn_loreserve)) [
      | inl t ↦ (let f : (n == 0) ≡ false = not_zero n h in rw (t, f) refl)
      | inr f ↦ rw f refl
    ]
  where
    not_zero : (n : ℕ) → 1 ≤ n → (n == 0) ≡ false
    not_zero n h =
        elim (cases_Bool (n == 0)) [
          | inl t ↦ absurd (let e = eqb-true n 0 t in omega (arith, e, h))
          | inr f ↦ f
        ]

-- ---- the file header

-- what a relocatable object does not tell
header_fits : (partial : Bool) (n limit : ℕ) → n < limit → (if partial then 0 else n) < limit
header_fits true n limit h = omega (arith, h)
header_fits false n limit h = h

pub file_header_fits : (l : Layout) → IsLoadable l.kind → NumbersFit l → length l.segments ≤ 65534 → (file_header l).section_offset < 2 ^ 64 → FileHeaderFits (file_header l)
unfolding file_header
file_header_fits l k numbers few low =
    let t = type_fits l.kind k in
    let n = (facts_of l.machine).number in
    record {
      front = record { magic = omega arith; class = omega arith; encoding = omega arith; ident_version = omega arith; os_abi = omega arith; abi_version = omega arith; file_type = t };
      middle = record { machine = omega (arith, n); version = omega arith; entry = numbers.entry; program_offset = header_fits (is_partial_link l.kind) file_header_size (2 ^ 64) (omega arith); section_offset = low; flags = omega arith; header_size = omega arith };
      back = record { program_entry_size = header_fits (is_partial_link l.kind) program_header_size (2 ^ 16) (omega arith); program_count = omega (arith, few); section_entry_size = omega arith; section_count = escape_fits (length l.sections) 0 (omega arith); name_table = escape_fits (name_table l) 0xffff (omega arith) };
    }

pub file_header_loads : (l : Layout) → IsLoadable l.kind → is_loadable_header (file_header l) ≡ true
unfolding file_header
file_header_loads l k =
    elim (type_known l.kind k) [
      | inl e ↦ rw (e, (facts_of l.machine).taken) refl
      | inr e ↦ rw (e, (facts_of l.machine).taken) refl
    ]

-- ---- program headers

execute_fits : (f : ℕ) → f < 2 ^ 32 → with_execute f < 2 ^ 32
execute_fits f h =
    elim (cases_Bool (f / pf_x % 2 == 0)) [
      | inl t ↦ (let e : f / 1 % 2 ≡ 0 = eqb-true _ _ t in rw t (omega (arith, h, e)))
      | inr n ↦ rw n h
    ]

flags_fit : (a b : Bool) (f : ℕ) → f < 2 ^ 32 → (if a then (if b then with_execute f else f) else f) < 2 ^ 32
flags_fit true true f h = execute_fits f h
flags_fit true false f h = h
flags_fit false b f h = h

align_fits : (a b : Bool) (page align : ℕ) → page < 2 ^ 64 → align < 2 ^ 64 → (if a then max page align else (if b then 16 else align)) < 2 ^ 64
align_fits true b page align p h = omega (arith, p, h)
align_fits false true page align p h = omega arith
align_fits false false page align p h = h

pub program_header_fits : (l : Layout) (g : Segment) → l.page_size < 2 ^ 64 → SegmentNumbers g → ProgramHeaderFits (program_header l g)
unfolding program_header
program_header_fits l g page n = record {
  front = record {
    kind = n.kind;
    flags = flags_fit (g.kind == pt_gnu_stack) l.options.execstack g.flags n.flags;
    offset = n.offset;
    address = n.address;
    physical = n.physical;
    file_size = n.file_size;
    mem_size = n.mem_size;
  };
  back = record { align = align_fits (g.kind == pt_load) (g.kind == pt_gnu_stack) l.page_size g.align page n.align };
}

-- ---- section headers

-- a number that is told has the field's 32 bits, and so has what else the layout gives
one_told : (b : Bool) (n given : ℕ) → given < 2 ^ 32 → (if b then n % 2 ^ 32 else given) < 2 ^ 32
one_told true n given h = omega arith
one_told false n given h = h

info_fits : (l : Layout) (i : ℕ) (s : Section) → SectionNumbers s → info_at (computed_infos l) i s.info < 2 ^ 32
unfolding computed_infos
info_fits l i s n =
    one_told (i == section_of_role role.Dynsym l.parts) 1 _
    (one_told (i == section_of_role role.RelaPlt l.parts) (section_of_role role.Got l.parts) _
    (one_told (i == section_of_role role.SymtabLocal l.parts) (local_symbols l) _
    (one_told (i == section_of_role role.GnuVersionD l.parts) (length l.verdefs) _
    (one_told (i == section_of_role role.GnuVersionR l.parts) (need_count l) s.info n.links.info))))

-- the type that is told
told_fits : (b : Bool) (k : ℕ) → k < 2 ^ 32 → (if b then sht_nobits else k) < 2 ^ 32
told_fits true k h = omega arith
told_fits false k h = h

section_header_fits : (l : Layout) (info name : ℕ) (s : Section) → info < 2 ^ 32 → name < 2 ^ 32 → SectionNumbers s → SectionHeaderFits (section_header l info name s)
unfolding section_header
section_header_fits l info name s told h n =
    let f = uncompressed_flags-le s.flags in
    let p = n.places.flags in
    record {
      front = record { name = h; kind = told_fits (is_header_only l s) s.kind n.places.kind; flags = omega (arith, f, p); address = header_fits (is_partial_link l.kind) s.address (2 ^ 64) n.places.address; offset = n.places.offset; size = n.places.size; link = n.links.link };
      back = record { info = told; align = n.links.align; entry_size = n.links.entsize };
    }

null_header_fits : (l : Layout) → length l.sections < 2 ^ 31 → name_table l < 2 ^ 32 → SectionHeaderFits (null_header l)
unfolding null_header
null_header_fits l few named =
    let s = none_fits (length l.sections) (2 ^ 64) (omega (arith, few)) in
    let n = none_fits (name_table l) (2 ^ 32) named in
    record {
      front = record { name = omega arith; kind = omega arith; flags = omega arith; address = omega arith; offset = omega arith; size = s; link = n };
      back = record { info = omega arith; align = omega arith; entry_size = omega arith };
    }

headers_fit : (l : Layout) (i name : ℕ) (ss : List Section) → name + total (λ (s : Section). length s.name + 1) ss < 2 ^ 32 → All SectionNumbers ss → All SectionHeaderFits (headers_from l (computed_infos l) i name ss)
headers_fit l i name [] h n = λ k d m. absurd (omega arith)
headers_fit l i name (s ∷ ss) h n =
    All-cons SectionHeaderFits (section_header l (info_at (computed_infos l) i s.info) name s) (headers_from l (computed_infos l) (i + 1) (name + length s.name + 1) ss)
    (section_header_fits l (info_at (computed_infos l) i s.info) name s (info_fits l i s (n 0 s (omega arith))) (omega (arith, h)) (n 0 s (omega arith)))
    (headers_fit l (i + 1) (name + length s.name + 1) ss (omega (arith, h)) (λ k d m. n (suc k) d (omega arith)))

pub section_headers_fit : (l : Layout) (ss : List Section) → length l.sections < 2 ^ 31 → name_table l < 2 ^ 32 → total (λ (s : Section). length s.name + 1) ss < 2 ^ 32 → All SectionNumbers ss → All SectionHeaderFits (section_headers_of l ss)
section_headers_fit l [] few named h n = λ k d m. absurd (omega arith)
section_headers_fit l (s ∷ ss) few named h n =
    All-cons SectionHeaderFits (null_header l) (headers_from l (computed_infos l) 1 (length s.name + 1) ss)
    (null_header_fits l few named)
    (headers_fit l 1 (length s.name + 1) ss (omega (arith, h)) (λ k d m. n (suc k) d (omega arith)))

length-headers : (l : Layout) (i name : ℕ) (ss : List Section) → length (headers_from l (computed_infos l) i name ss) ≡ length ss
length-headers l i name [] = refl
length-headers l i name (s ∷ ss) = ap suc (length-headers l (i + 1) (name + length s.name + 1) ss)

first_size_is : (l : Layout) (ss : List Section) → 1 ≤ length ss → first_size (section_headers_of l ss) ≡ or_none (length l.sections)
unfolding null_header
first_size_is l [] h = absurd (omega (arith, h))
first_size_is l (s ∷ ss) h = refl

pub headers_told : (l : Layout) → 1 ≤ length l.sections → section_header_count (file_header l) (section_headers_of l l.sections) ≡ length (section_headers_of l l.sections)
unfolding file_header
headers_told l h =
    let f = first_size_is l l.sections h in
    let n = length-section_headers_of l l.sections in
    ap (λ (m : ℕ). if number_or_escape (length l.sections) 0 == 0 then m else number_or_escape (length l.sections) 0) f ∙ sections_told (length l.sections) h ∙ sym n
