-- The first bytes of an image, and what the loader reads of them: the same as of the whole image, unless they end too early.
use Rattle.wild_placer.proofs.Common.{◌≡◌, ℕ, zero, suc, ◌+◌, ◌-◌, ◌*◌, ◌/◌, ◌%◌, ◌^◌, ◌<◌, ◌≤◌, ◌==◌, ◌&&◌, ◌⊎◌, inl, inr, Bool, true, false, if◌then◌else◌, nat_lt, nat_le, min, List, [], ◌∷◌, ◌++◌, length, take, drop, replicate, refl, sym, ap, ◌∙◌, arith, subst, Option, Some, None, Result, Ok, Err, slice_range, le-leb, ltb-false, le-ltb, FileHeader, ProgramHeader, SectionHeader, Rela, LoadFault, Image, Memory, Run, Tables, World, ◌>>=◌, machine_of, header, program_headers, memory_of, load_segments, segments, least_shared, first_dynamic, section_entries, tables, relocate, image_with, image_at, load}
use Rattle.std.proofs.lemmas.Bool.{cases_lt, leb-true}
use Rattle.std.proofs.lemmas.List.{take_all, length-take, length-take-le, places, same_lists}
use Rattle.wild_words.specs.Words.{number, number_at}
use Rattle.wild_records.specs.Abi.Segment.{pt_load}
use Rattle.wild_records.specs.Abi.Section.{shn_undef}
use Rattle.wild_records.specs.Abi.Dynamic.{dt_null, dt_rela, dt_relasz, dt_jmprel, dt_pltrelsz, dt_relr, dt_relrsz}
use Rattle.wild_records.specs.Dynamic.{dynamic_entry_size, dynamic_entry_at}
use Rattle.wild_records.specs.FileHeader.{file_header_size, file_header_at}
use Rattle.wild_records.specs.ProgramHeader.{program_header_size, program_header_at}
use Rattle.wild_records.specs.Relocations.{rela_size, rela_at, relr_size, relr_at}
use Rattle.wild_records.specs.SectionHeader.{section_header_size, section_header_at}
use Rattle.wild_records.specs.declared.dynamic.DynamicEntry.{DynamicEntry}
use Rattle.wild_loader.specs.declared.fault.LoadFault.TheVariants as faults
use Rattle.wild_loader.specs.declared.tables.Span.{Span}
use Rattle.wild_loader.specs.Headers.{is_loadable_header, table_in_image, section_headers, section_count, sections}
use Rattle.wild_loader.specs.Segments.{segment_bytes, run_of, runs_of, load_segment}
use Rattle.wild_loader.specs.Runs.{check_no_overlap}
use Rattle.wild_loader.specs.Tables.{relas_at, words_at, dynamic_entries, value_of_tag, has_in_memory, offset_in, span_in, span_at, no_span, span_of, table_of, named_tables, section_of, dynamic_tables, has_entries, with_section, section_tables, tables_of_image}

-- ---- what is read of the first bytes, if they reach that far

range_taken : (n a m : ℕ) (im : List ℕ) → a + m ≤ n → take m (drop a (take n im)) ≡ take m (drop a im)
range_taken n a m im h = same_lists _ _ (grind (arith, places)) (λ k d low. grind (arith, places))

number_taken : (n at w : ℕ) (im : List ℕ) → at + w ≤ n → number_at (take n im) at w ≡ number_at im at w
number_taken n at w im h = ap number (range_taken n at (at + w - at) im (omega (arith, h)))

file_header_taken : (n at : ℕ) (im : List ℕ) → at + 64 ≤ n → file_header_at (take n im) at ≡ file_header_at im at
unfolding file_header_at
file_header_taken n at im h = rw (
  number_taken n at 4 im (omega (arith, h)),
  number_taken n (at + 4) 1 im (omega (arith, h)),
  number_taken n (at + 5) 1 im (omega (arith, h)),
  number_taken n (at + 6) 1 im (omega (arith, h)),
  number_taken n (at + 7) 1 im (omega (arith, h)),
  number_taken n (at + 8) 1 im (omega (arith, h)),
  number_taken n (at + 16) 2 im (omega (arith, h)),
  number_taken n (at + 18) 2 im (omega (arith, h)),
  number_taken n (at + 20) 4 im (omega (arith, h)),
  number_taken n (at + 24) 8 im (omega (arith, h)),
  number_taken n (at + 32) 8 im (omega (arith, h)),
  number_taken n (at + 40) 8 im (omega (arith, h)),
  number_taken n (at + 48) 4 im (omega (arith, h)),
  number_taken n (at + 52) 2 im (omega (arith, h)),
  number_taken n (at + 54) 2 im (omega (arith, h)),
  number_taken n (at + 56) 2 im (omega (arith, h)),
  number_taken n (at + 58) 2 im (omega (arith, h)),
  number_taken n (at + 60) 2 im (omega (arith, h)),
  number_taken n (at + 62) 2 im (omega (arith, h)),
) refl

program_header_taken : (n at : ℕ) (im : List ℕ) → at + 56 ≤ n → program_header_at (take n im) at ≡ program_header_at im at
unfolding program_header_at
program_header_taken n at im h = rw (
  number_taken n at 4 im (omega (arith, h)),
  number_taken n (at + 4) 4 im (omega (arith, h)),
  number_taken n (at + 8) 8 im (omega (arith, h)),
  number_taken n (at + 16) 8 im (omega (arith, h)),
  number_taken n (at + 24) 8 im (omega (arith, h)),
  number_taken n (at + 32) 8 im (omega (arith, h)),
  number_taken n (at + 40) 8 im (omega (arith, h)),
  number_taken n (at + 48) 8 im (omega (arith, h)),
) refl

section_header_taken : (n at : ℕ) (im : List ℕ) → at + 64 ≤ n → section_header_at (take n im) at ≡ section_header_at im at
unfolding section_header_at
section_header_taken n at im h = rw (
  number_taken n at 4 im (omega (arith, h)),
  number_taken n (at + 4) 4 im (omega (arith, h)),
  number_taken n (at + 8) 8 im (omega (arith, h)),
  number_taken n (at + 16) 8 im (omega (arith, h)),
  number_taken n (at + 24) 8 im (omega (arith, h)),
  number_taken n (at + 32) 8 im (omega (arith, h)),
  number_taken n (at + 40) 4 im (omega (arith, h)),
  number_taken n (at + 44) 4 im (omega (arith, h)),
  number_taken n (at + 48) 8 im (omega (arith, h)),
  number_taken n (at + 56) 8 im (omega (arith, h)),
) refl

dynamic_entry_taken : (n at : ℕ) (im : List ℕ) → at + 16 ≤ n → dynamic_entry_at (take n im) at ≡ dynamic_entry_at im at
unfolding dynamic_entry_at
dynamic_entry_taken n at im h = rw (number_taken n at 8 im (omega (arith, h)), number_taken n (at + 8) 8 im (omega (arith, h))) refl

rela_taken : (n at : ℕ) (im : List ℕ) → at + 24 ≤ n → rela_at (take n im) at ≡ rela_at im at
unfolding rela_at
rela_taken n at im h = rw (number_taken n at 8 im (omega (arith, h)), number_taken n (at + 8) 4 im (omega (arith, h)), number_taken n (at + 12) 4 im (omega (arith, h)), number_taken n (at + 16) 8 im (omega (arith, h))) refl

relr_taken : (n at : ℕ) (im : List ℕ) → at + 8 ≤ n → relr_at (take n im) at ≡ relr_at im at
unfolding relr_at
relr_taken n at im h = rw (number_taken n at 8 im (omega (arith, h))) refl

-- ---- lists of records

pub program_headers_taken : (n count at : ℕ) (im : List ℕ) → at + 56 * count ≤ n → program_headers (take n im) count at ≡ program_headers im count at
unfolding program_headers
program_headers_taken n zero at im h = refl
program_headers_taken n (suc count) at im h =
    ap (λ (p : ProgramHeader). p ∷ program_headers (take n im) count (at + 56)) (program_header_taken n at im (omega (arith, h)))
    ∙ ap (λ (ps : List ProgramHeader). program_header_at im at ∷ ps) (program_headers_taken n count (at + 56) im (omega (arith, h)))

section_headers_taken : (n count at : ℕ) (im : List ℕ) → at + 64 * count ≤ n → section_headers (take n im) count at ≡ section_headers im count at
unfolding section_headers
section_headers_taken n zero at im h = refl
section_headers_taken n (suc count) at im h =
    ap (λ (s : SectionHeader). s ∷ section_headers (take n im) count (at + 64)) (section_header_taken n at im (omega (arith, h)))
    ∙ ap (λ (ss : List SectionHeader). section_header_at im at ∷ ss) (section_headers_taken n count (at + 64) im (omega (arith, h)))

dynamic_entries_taken : (n count at : ℕ) (im : List ℕ) → at + 16 * count ≤ n → dynamic_entries (take n im) count at ≡ dynamic_entries im count at
unfolding dynamic_entries
dynamic_entries_taken n zero at im h = refl
dynamic_entries_taken n (suc count) at im h =
    ap (λ (d : DynamicEntry). if d.tag == dt_null then [] else d ∷ dynamic_entries (take n im) count (at + 16)) (dynamic_entry_taken n at im (omega (arith, h)))
    ∙ ap (λ (ds : List DynamicEntry). if (dynamic_entry_at im at).tag == dt_null then [] else dynamic_entry_at im at ∷ ds) (dynamic_entries_taken n count (at + 16) im (omega (arith, h)))

relas_taken : (n count at : ℕ) (im : List ℕ) → at + 24 * count ≤ n → relas_at (take n im) count at ≡ relas_at im count at
unfolding relas_at
relas_taken n zero at im h = refl
relas_taken n (suc count) at im h =
    ap (λ (r : Rela). r ∷ relas_at (take n im) count (at + 24)) (rela_taken n at im (omega (arith, h)))
    ∙ ap (λ (rs : List Rela). rela_at im at ∷ rs) (relas_taken n count (at + 24) im (omega (arith, h)))

words_taken : (n count at : ℕ) (im : List ℕ) → at + 8 * count ≤ n → words_at (take n im) count at ≡ words_at im count at
unfolding words_at
words_taken n zero at im h = refl
words_taken n (suc count) at im h =
    ap (λ (w : ℕ). w ∷ words_at (take n im) count (at + 8)) (ap (λ (r : _). r.entry) (relr_taken n at im (omega (arith, h))))
    ∙ ap (λ (ws : List ℕ). (relr_at im at).entry ∷ ws) (words_taken n count (at + 8) im (omega (arith, h)))

-- ---- answers that agree

-- the answer says that the bytes end too early
abbrev pub IsCut : {X : Type 0} → Result X LoadFault → Type 0
IsCut r = (o : ℕ) × (r ≡ Err (faults.Cut o))

-- s is the same answer as r, unless r says that the bytes end too early
abbrev pub Agrees : {X : Type 0} → Result X LoadFault → Result X LoadFault → Type 0
Agrees r s = (s ≡ r) ⊎ IsCut r

pub then_agrees : {X Y : Type 0} (r s : Result X LoadFault) (f g : X → Result Y LoadFault) → Agrees r s → ((x : X) → r ≡ Ok x → Agrees (f x) (g x)) → Agrees (r >>= f) (s >>= g)
then_agrees {X} {Y} r s f g (inr (o, e)) h = inr (o, ap (λ (x : Result X LoadFault). x >>= f) e)
then_agrees {X} {Y} (Ok x) s f g (inl e) h = subst (λ (y : Result X LoadFault). Agrees (f x) (y >>= g)) (sym e) (h x refl)
then_agrees {X} {Y} (Err x) s f g (inl e) h = inl (ap (λ (y : Result X LoadFault). y >>= g) e)

same_cut : {X : Type 0} (o : ℕ) (s : Result X LoadFault) → Agrees (Err (faults.Cut o)) s
same_cut o s = inr (o, refl)

-- a table in the first bytes ends within them
table_bound : (bs : List ℕ) (at count size : ℕ) (x : Unit {0}) → table_in_image bs at count size ≡ Ok x → at + size * count ≤ length bs
table_bound bs at count size x h = by (nat_le (at + size * count) (length bs)) refl h
  where
    by : (b : Bool) → nat_le (at + size * count) (length bs) ≡ b → (if b then Ok tt else Err (faults.Cut at)) ≡ Ok x → at + size * count ≤ length bs
    by true e h = leb-true _ _ e
    by false e h = cc

-- ---- the loader, step by step; the first n bytes of an image that has more

pub record IsFront (n : ℕ) (im : List ℕ) : Type 0 where
  pub least : 64 ≤ n
  pub more : n ≤ length im

pub front_long : (n : ℕ) (im : List ℕ) → IsFront n im → length (take n im) ≡ n
front_long n im f = length-take-le n im f.more

table_agrees : (n at count size : ℕ) (im : List ℕ) → IsFront n im → Agrees (table_in_image (take n im) at count size) (table_in_image im at count size)
table_agrees n at count size im f = by (nat_le (at + size * count) (length (take n im))) refl
  where
    by : (b : Bool) → nat_le (at + size * count) (length (take n im)) ≡ b → Agrees (if b then Ok tt else Err (faults.Cut at)) (table_in_image im at count size)
    by true e = let inside = leb-true _ _ e in let long = front_long n im f in let more = f.more in let t = le-leb (at + size * count) (length im) (omega (arith, inside, long, more)) in inl (rw t refl)
    by false e = same_cut at (table_in_image im at count size)

-- the file header
pub header_agrees : (n : ℕ) (im : List ℕ) → IsFront n im → Agrees (header (take n im)) (header im)
unfolding header
header_agrees n im f =
    let long = front_long n im f in
    let least = f.least in
    let more = f.more in
    let here = le-leb 64 (length (take n im)) (omega (arith, long, least)) in
    let there = le-leb 64 (length im) (omega (arith, least, more)) in
    let same = file_header_taken n 0 im (omega (arith, least)) in
    rw (here, there, same) (by (is_loadable_header (file_header_at im 0)))
  where
    e : FileHeader
    e = file_header_at im 0

    by : (b : Bool) → Agrees (if b then (table_in_image (take n im) e.program_offset e.program_count 56 >>= λ lies. Ok e) else Err faults.NotElf) (if b then (table_in_image im e.program_offset e.program_count 56 >>= λ lies. Ok e) else Err faults.NotElf)
    by true = then_agrees (table_in_image (take n im) e.program_offset e.program_count 56) (table_in_image im e.program_offset e.program_count 56) (λ lies. Ok e) (λ lies. Ok e) (table_agrees n e.program_offset e.program_count 56 im f) (λ x h. inl refl)
    by false = inl refl

-- the program headers of a file header that is read end within the bytes
pub header_bound : (bs : List ℕ) (e : FileHeader) → header bs ≡ Ok e → e.program_offset + 56 * e.program_count ≤ length bs
unfolding header
header_bound bs e h = by (nat_le 64 (length bs) && is_loadable_header (file_header_at bs 0)) h
  where
    d : FileHeader
    d = file_header_at bs 0

    within : (r : Result (Unit {0}) LoadFault) → table_in_image bs d.program_offset d.program_count 56 ≡ r → (r >>= λ lies. Ok d) ≡ Ok e → e.program_offset + 56 * e.program_count ≤ length bs
    within (Ok x) is h =
        let same : d ≡ e = cc in
        subst (λ (x : FileHeader). x.program_offset + 56 * x.program_count ≤ length bs) same (table_bound bs d.program_offset d.program_count 56 x is)
    within (Err x) is h = cc

    by : (b : Bool) → (if b then (table_in_image bs d.program_offset d.program_count 56 >>= λ lies. Ok d) else Err faults.NotElf) ≡ Ok e → e.program_offset + 56 * e.program_count ≤ length bs
    by true h = within (table_in_image bs d.program_offset d.program_count 56) refl h
    by false h = cc

-- a segment
run_taken : (n base : ℕ) (im : List ℕ) (g : ProgramHeader) → g.offset + g.file_size ≤ n → runs_of base (take n im) g ≡ runs_of base im g
run_taken n base im g h =
    ap (λ (bs : List ℕ). if g.mem_size == 0 then [] else record { start = base + g.address; bytes = bs ++ replicate (g.mem_size - g.file_size) 0 } ∷ []) (range_taken n g.offset (min g.file_size g.mem_size) im (omega (arith, h)))

segment_agrees : (n base : ℕ) (im : List ℕ) (g : ProgramHeader) (runs : List Run) → IsFront n im → Agrees (load_segment base (take n im) g runs) (load_segment base im g runs)
unfolding load_segment
segment_agrees n base im g runs f = kind (g.kind == pt_load)
  where
    step : List ℕ → Bool → Result (List Run) LoadFault
    step bs cut = if cut then Err (faults.Cut g.offset) else (if nat_lt (2 ^ 64) (base + g.address + g.mem_size) then Err (faults.Wraps g.address) else Ok (runs ++ runs_of base bs g))

    inside : (b : Bool) → nat_lt (length (take n im)) (g.offset + g.file_size) ≡ b → Agrees (step (take n im) b) (step im (nat_lt (length im) (g.offset + g.file_size)))
    inside true e = same_cut g.offset (step im (nat_lt (length im) (g.offset + g.file_size)))
    inside false e =
        let low = ltb-false _ _ e in
        let long = front_long n im f in
        let more = f.more in
        let t = le-ltb (length im) (g.offset + g.file_size) (omega (arith, low, long, more)) in
        inl (ap (step im) t ∙ ap (λ (rs : List Run). if nat_lt (2 ^ 64) (base + g.address + g.mem_size) then Err (faults.Wraps g.address) else Ok (runs ++ rs)) (sym (run_taken n base im g (omega (arith, low, long)))))

    kind : (b : Bool) → Agrees (if b then step (take n im) (nat_lt (length (take n im)) (g.offset + g.file_size)) else Ok runs) (if b then step im (nat_lt (length im) (g.offset + g.file_size)) else Ok runs)
    kind true = inside (nat_lt (length (take n im)) (g.offset + g.file_size)) refl
    kind false = inl refl

load_segments_agree : (n base : ℕ) (im : List ℕ) (gs : List ProgramHeader) (runs : List Run) → IsFront n im → Agrees (load_segments base (take n im) gs runs) (load_segments base im gs runs)
unfolding load_segments
load_segments_agree n base im [] runs f = inl refl
load_segments_agree n base im (g ∷ gs) runs f =
    then_agrees (load_segment base (take n im) g runs) (load_segment base im g runs) (λ more. load_segments base (take n im) gs more) (λ more. load_segments base im gs more) (segment_agrees n base im g runs f) (λ more e. load_segments_agree n base im gs more f)

pub segments_agree : (n base : ℕ) (im : List ℕ) (gs : List ProgramHeader) → IsFront n im → Agrees (segments base (take n im) gs) (segments base im gs)
unfolding segments
segments_agree n base im gs f =
    then_agrees (load_segments base (take n im) gs []) (load_segments base im gs []) _ _ (load_segments_agree n base im gs [] f) (λ runs e. inl refl)

-- a part of the image that an address names
span_agrees : (n a m : ℕ) (im : List ℕ) (h : ProgramHeader) → IsFront n im → Agrees (span_in (take n im) h a m) (span_in im h a m)
span_agrees n a m im h f = by (nat_le (a + m) (h.address + h.file_size)) (nat_le (offset_in h a + m) (length (take n im))) refl
  where
    found : Bool → Result Span LoadFault
    found b = if b then Ok (record { offset = offset_in h a; size = m }) else Err (faults.Cut (offset_in h a % 2 ^ 64))

    by : (b c : Bool) → nat_le (offset_in h a + m) (length (take n im)) ≡ c → Agrees (found (b && c)) (found (b && nat_le (offset_in h a + m) (length im)))
    by false c e = inl refl
    by true false e = same_cut (offset_in h a % 2 ^ 64) (found (nat_le (offset_in h a + m) (length im)))
    by true true e =
        let inside = leb-true _ _ e in
        let long = front_long n im f in
        let more = f.more in
        let t = le-leb (offset_in h a + m) (length im) (omega (arith, inside, long, more)) in
        inl (ap found t)

span_bound : (bs : List ℕ) (a m : ℕ) (h : ProgramHeader) (s : Span) → span_in bs h a m ≡ Ok s → s.offset + s.size ≤ length bs
span_bound bs a m h s is = by (nat_le (a + m) (h.address + h.file_size)) (nat_le (offset_in h a + m) (length bs)) refl is
  where
    by : (b c : Bool) → nat_le (offset_in h a + m) (length bs) ≡ c → (if b && c then Ok (record { offset = offset_in h a; size = m }) else Err (faults.Cut (offset_in h a % 2 ^ 64))) ≡ Ok s → s.offset + s.size ≤ length bs
    by false c e is = cc
    by true false e is = cc
    by true true e is =
        let same : ◌≡◌ {A = Span} (record { offset = offset_in h a; size = m }) s = cc in
        subst (λ (x : Span). x.offset + x.size ≤ length bs) same (leb-true _ _ e)

span_at_agrees : (n a m : ℕ) (im : List ℕ) (hs : List ProgramHeader) → IsFront n im → Agrees (span_at (take n im) hs a m) (span_at im hs a m)
unfolding span_at
span_at_agrees n a m im [] f = inl refl
span_at_agrees n a m im (h ∷ hs) f = by (has_in_memory h a) (span_at_agrees n a m im hs f)
  where
    by : (b : Bool) → Agrees (span_at (take n im) hs a m) (span_at im hs a m) → Agrees (if b then span_in (take n im) h a m else span_at (take n im) hs a m) (if b then span_in im h a m else span_at im hs a m)
    by true rest = span_agrees n a m im h f
    by false rest = rest

span_at_bound : (bs : List ℕ) (a m : ℕ) (hs : List ProgramHeader) (s : Span) → span_at bs hs a m ≡ Ok s → s.offset + s.size ≤ length bs
unfolding span_at
span_at_bound bs a m [] s is = cc
span_at_bound bs a m (h ∷ hs) s is = by (has_in_memory h a) is (span_at_bound bs a m hs s)
  where
    by : (b : Bool) → (if b then span_in bs h a m else span_at bs hs a m) ≡ Ok s → (span_at bs hs a m ≡ Ok s → s.offset + s.size ≤ length bs) → s.offset + s.size ≤ length bs
    by true is rest = span_bound bs a m h s is
    by false is rest = rest is

-- a table that two tags name
table_of_agrees : (n : ℕ) (im : List ℕ) (hs : List ProgramHeader) (ds : List DynamicEntry) (tag size_tag : ℕ) → IsFront n im → Agrees (table_of (take n im) hs ds tag size_tag) (table_of im hs ds tag size_tag)
unfolding table_of
table_of_agrees n im hs ds tag size_tag f = by (value_of_tag tag ds) (value_of_tag size_tag ds)
  where
    some : (a m : ℕ) (b : Bool) → Agrees (if b then Ok no_span else span_at (take n im) hs a m) (if b then Ok no_span else span_at im hs a m)
    some a m true = inl refl
    some a m false = span_at_agrees n a m im hs f

    by : (x y : Option ℕ) → Agrees (span_of (take n im) hs tag size_tag x y) (span_of im hs tag size_tag x y)
    by (Some a) (Some m) = some a m (m == 0)
    by (Some a) None = inl refl
    by None (Some m) = inl refl
    by None None = inl refl

table_of_bound : (bs : List ℕ) (hs : List ProgramHeader) (ds : List DynamicEntry) (tag size_tag : ℕ) (s : Span) → table_of bs hs ds tag size_tag ≡ Ok s → s.offset + s.size ≤ length bs
unfolding table_of
table_of_bound bs hs ds tag size_tag s is = by (value_of_tag tag ds) (value_of_tag size_tag ds) is
  where
    none : ◌≡◌ {A = Result Span LoadFault} (Ok no_span) (Ok s) → s.offset + s.size ≤ length bs
    none is = let same : no_span ≡ s = cc in subst (λ (x : Span). x.offset + x.size ≤ length bs) same (omega arith)

    some : (a m : ℕ) (b : Bool) → (if b then Ok no_span else span_at bs hs a m) ≡ Ok s → s.offset + s.size ≤ length bs
    some a m true is = none is
    some a m false is = span_at_bound bs a m hs s is

    by : (x y : Option ℕ) → span_of bs hs tag size_tag x y ≡ Ok s → s.offset + s.size ≤ length bs
    by (Some a) (Some m) is = some a m (m == 0) is
    by (Some a) None is = cc
    by None (Some m) is = cc
    by None None is = none is

named_agree : (n : ℕ) (im : List ℕ) (hs : List ProgramHeader) (ds : List DynamicEntry) → IsFront n im → Agrees (named_tables (take n im) hs ds) (named_tables im hs ds)
unfolding named_tables
named_agree n im hs ds f =
    then_agrees (table_of (take n im) hs ds dt_relr dt_relrsz) (table_of im hs ds dt_relr dt_relrsz) _ _ (table_of_agrees n im hs ds dt_relr dt_relrsz f) (λ r first.
    then_agrees (table_of (take n im) hs ds dt_rela dt_relasz) (table_of im hs ds dt_rela dt_relasz) _ _ (table_of_agrees n im hs ds dt_rela dt_relasz f) (λ a second.
    then_agrees (table_of (take n im) hs ds dt_jmprel dt_pltrelsz) (table_of im hs ds dt_jmprel dt_pltrelsz) _ _ (table_of_agrees n im hs ds dt_jmprel dt_pltrelsz f) (λ j third.
    (let long = front_long n im f in
    let r_ends = table_of_bound (take n im) hs ds dt_relr dt_relrsz r first in
    let a_ends = table_of_bound (take n im) hs ds dt_rela dt_relasz a second in
    let j_ends = table_of_bound (take n im) hs ds dt_jmprel dt_pltrelsz j third in
    let words = words_taken n (r.size / 8) r.offset im (omega (arith, r_ends, long)) in
    let entries = relas_taken n (a.size / 24) a.offset im (omega (arith, a_ends, long)) in
    let jumps = relas_taken n (j.size / 24) j.offset im (omega (arith, j_ends, long)) in
    inl (rw (words, entries, jumps) refl)))))

-- the dynamic section
section_of_agrees : (n : ℕ) (im : List ℕ) (d : ProgramHeader) → IsFront n im → Agrees (section_of (take n im) d) (section_of im d)
section_of_agrees n im d f = by (d.file_size == 0)
  where
    count : ℕ
    count = d.file_size / 16

    by : (b : Bool) → Agrees (if b then Ok [] else (table_in_image (take n im) d.offset d.file_size 1 >>= λ lies. Ok (dynamic_entries (take n im) count d.offset))) (if b then Ok [] else (table_in_image im d.offset d.file_size 1 >>= λ lies. Ok (dynamic_entries im count d.offset)))
    by true = inl refl
    by false =
        then_agrees (table_in_image (take n im) d.offset d.file_size 1) (table_in_image im d.offset d.file_size 1) _ _ (table_agrees n d.offset d.file_size 1 im f) (λ x is.
        (let ends = table_bound (take n im) d.offset d.file_size 1 x is in
        let long = front_long n im f in
        inl (ap (λ (ds : List DynamicEntry). Ok ds) (sym (dynamic_entries_taken n count d.offset im (omega (arith, ends, long)))))))

dynamic_agree : (n : ℕ) (im : List ℕ) (hs : List ProgramHeader) (d : ProgramHeader) → IsFront n im → Agrees (dynamic_tables (take n im) hs d) (dynamic_tables im hs d)
unfolding dynamic_tables
dynamic_agree n im hs d f = then_agrees (section_of (take n im) d) (section_of im d) _ _ (section_of_agrees n im d f) (λ ds e. named_agree n im hs ds f)

-- the sections
count_agrees : (n : ℕ) (im : List ℕ) (e : FileHeader) → IsFront n im → Agrees (section_count (take n im) e) (section_count im e)
count_agrees n im e f = by (e.section_count == shn_undef)
  where
    by : (b : Bool) → Agrees (if b then (table_in_image (take n im) e.section_offset 1 64 >>= λ lies. Ok (section_header_at (take n im) e.section_offset).size) else Ok e.section_count) (if b then (table_in_image im e.section_offset 1 64 >>= λ lies. Ok (section_header_at im e.section_offset).size) else Ok e.section_count)
    by true =
        then_agrees (table_in_image (take n im) e.section_offset 1 64) (table_in_image im e.section_offset 1 64) _ _ (table_agrees n e.section_offset 1 64 im f) (λ x is.
        (let ends = table_bound (take n im) e.section_offset 1 64 x is in
        let long = front_long n im f in
        inl (ap (λ (s : SectionHeader). Ok s.size) (sym (section_header_taken n e.section_offset im (omega (arith, ends, long)))))))
    by false = inl refl

sections_agree : (n : ℕ) (im : List ℕ) (e : FileHeader) → IsFront n im → Agrees (sections (take n im) e) (sections im e)
unfolding sections
sections_agree n im e f = by (e.section_offset == 0)
  where
    listed : (bs : List ℕ) → Result (List SectionHeader) LoadFault
    listed bs = section_count bs e >>= λ count. table_in_image bs e.section_offset count 64 >>= λ lies. Ok (section_headers bs count e.section_offset)

    by : (b : Bool) → Agrees (if b then Ok [] else listed (take n im)) (if b then Ok [] else listed im)
    by true = inl refl
    by false =
        then_agrees (section_count (take n im) e) (section_count im e) _ _ (count_agrees n im e f) (λ count counted.
        then_agrees (table_in_image (take n im) e.section_offset count 64) (table_in_image im e.section_offset count 64) _ _ (table_agrees n e.section_offset count 64 im f) (λ x is.
        (let ends = table_bound (take n im) e.section_offset count 64 x is in
        let long = front_long n im f in
        inl (ap (λ (ss : List SectionHeader). Ok ss) (sym (section_headers_taken n count e.section_offset im (omega (arith, ends, long))))))))

with_agrees : (n : ℕ) (im : List ℕ) (s : SectionHeader) (entries : List Rela) → IsFront n im → Agrees (with_section (take n im) s entries) (with_section im s entries)
with_agrees n im s entries f =
    then_agrees (table_in_image (take n im) s.offset s.size 1) (table_in_image im s.offset s.size 1) _ _ (table_agrees n s.offset s.size 1 im f) (λ x is.
    (let ends = table_bound (take n im) s.offset s.size 1 x is in
    let long = front_long n im f in
    inl (ap (λ (rs : List Rela). Ok (entries ++ rs)) (sym (relas_taken n (s.size / 24) s.offset im (omega (arith, ends, long)))))))

pub entries_agree : (n : ℕ) (im : List ℕ) (ss : List SectionHeader) (entries : List Rela) → IsFront n im → Agrees (section_entries (take n im) ss entries) (section_entries im ss entries)
unfolding section_entries
entries_agree n im [] entries f = inl refl
entries_agree n im (s ∷ ss) entries f = by (has_entries s) (λ more. entries_agree n im ss more f)
  where
    Rest : Type 0
    Rest = (more : List Rela) → Agrees (section_entries (take n im) ss more) (section_entries im ss more)

    by : (b : Bool) → Rest
        → Agrees (if b then (with_section (take n im) s entries >>= λ more. section_entries (take n im) ss more) else section_entries (take n im) ss entries) (if b then (with_section im s entries >>= λ more. section_entries im ss more) else section_entries im ss entries)
    by true rest = then_agrees (with_section (take n im) s entries) (with_section im s entries) _ _ (with_agrees n im s entries f) (λ more e. rest more)
    by false rest = rest entries

section_tables_agree : (n : ℕ) (im : List ℕ) (e : FileHeader) → IsFront n im → Agrees (section_tables (take n im) e) (section_tables im e)
unfolding section_tables
section_tables_agree n im e f =
    then_agrees (sections (take n im) e) (sections im e) _ _ (sections_agree n im e f) (λ ss listed.
    then_agrees (section_entries (take n im) ss []) (section_entries im ss []) _ _ (entries_agree n im ss [] f) (λ entries read. inl refl))

tables_agree : (n : ℕ) (im : List ℕ) (e : FileHeader) (hs : List ProgramHeader) → IsFront n im → Agrees (tables (take n im) e hs) (tables im e hs)
unfolding tables
tables_agree n im e hs f = by (first_dynamic hs)
  where
    by : (o : Option ProgramHeader) → Agrees (tables_of_image (take n im) e hs o) (tables_of_image im e hs o)
    by (Some d) = dynamic_agree n im hs d f
    by None = section_tables_agree n im e f

-- the whole image
image_with_agrees : (n base : ℕ) (im : List ℕ) (e : FileHeader) (hs : List ProgramHeader) → IsFront n im → Agrees (image_with base (take n im) e hs) (image_with base im e hs)
unfolding image_with
image_with_agrees n base im e hs f =
    then_agrees (segments base (take n im) hs) (segments base im hs) _ _ (segments_agree n base im hs f) (λ runs loaded.
    then_agrees (tables (take n im) e hs) (tables im e hs) _ _ (tables_agree n im e hs f) (λ t read. inl refl))

image_agrees : (n base : ℕ) (im : List ℕ) → IsFront n im → Agrees (image_at base (take n im)) (image_at base im)
unfolding image_at
image_agrees n base im f =
    then_agrees (header (take n im)) (header im) _ _ (header_agrees n im f) (λ e is.
    (let ends = header_bound (take n im) e is in
    let long = front_long n im f in
    let same = program_headers_taken n e.program_count e.program_offset im (omega (arith, ends, long)) in
    subst (λ (hs : List ProgramHeader). Agrees (image_with base (take n im) e hs) (image_with base im e (program_headers im e.program_count e.program_offset))) (sym same) (image_with_agrees n base im e (program_headers im e.program_count e.program_offset) f)))

front_agrees : (w : World) (n : ℕ) (im : List ℕ) → IsFront n im → Agrees (load w (take n im)) (load w im)
unfolding load
front_agrees w n im f = then_agrees (image_at w.base (take n im)) (image_at w.base im) _ _ (image_agrees n w.base im f) (λ i e. inl refl)

-- what the loader answers for the first bytes it answers for the image, unless they end too early
pub load_agrees : (w : World) (n : ℕ) (im : List ℕ) → 64 ≤ n → Agrees (load w (take n im)) (load w im)
load_agrees w n im least =
    elim (cases_lt n (length im)) [
      | inl more ↦ front_agrees w n im (record { least = least; more = omega (arith, more) })
      | inr less ↦ inl (ap (load w) (sym (take_all n im (omega (arith, less)))))
    ]

-- so an answer that does not say that is the image's
pub loaded_by : {X : Type 0} (r s answer : Result X LoadFault) → Agrees r s → r ≡ answer → ((o : ℕ) → answer ≡ Err (faults.Cut o) → ⊥) → s ≡ answer
loaded_by r s answer (inl e) is not_cut = e ∙ is
loaded_by r s answer (inr (o, e)) is not_cut = absurd (not_cut o (sym is ∙ e))
