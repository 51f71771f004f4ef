-- Tables that stand in an image are read.
use Rattle.std.proofs.Common.{◌≡◌, ℕ, zero, suc, ◌+◌, ◌*◌, ◌/◌, ◌^◌, ◌<◌, ◌≤◌, inl, inr, true, false, List, [], ◌∷◌, ◌++◌, length, get_or, refl, sym, ap, ◌∙◌, arith, subst, eq-eqb}
use Rattle.std.specs.Prelude.{All, ◌&&◌, ◌==◌, nat_lt, nat_le, Option, Some, None, Result, Ok}
use Rattle.std.specs.List.{flat_map}
use Rattle.std.proofs.lemmas.List.{append_assoc, append-nil, nil_from_length}
use Rattle.std.proofs.lemmas.Bool.{cases_Bool, eqb-true, eqb-false, le-leb, lt-ltb, le-ltb, and_right, and_left, and_from}
use Rattle.wild_records.specs.Abi.Segment.{pt_load}
use Rattle.wild_words.specs.Words.{HasBytesAt}
use Rattle.wild_words.proofs.Basics.{length-flat_map_each}
use Rattle.wild_records.specs.Dynamic.{dynamic_entry_size, DynamicEntryIsRead}
use Rattle.wild_records.specs.Relocations.{rela_size, relr_size, RelaFits, RelaIsRead, RelrIsRead}
use Rattle.wild_records.specs.declared.dynamic.DynamicEntry.{DynamicEntry}
use Rattle.wild_records.specs.declared.program_header.ProgramHeader.{ProgramHeader}
use Rattle.wild_records.specs.declared.relocations.Rela.{Rela}
use Rattle.wild_records.specs.declared.section_header.SectionHeader.{SectionHeader}
use Rattle.wild_loader.specs.declared.fault.LoadFault.{LoadFault}
use Rattle.wild_loader.specs.declared.tables.Tables.{Tables}
use Rattle.wild_loader.specs.declared.tables.Span.{Span}
use Rattle.wild_loader.specs.Headers.{table_in_image}
use Rattle.wild_loader.specs.Tables.{relas_at, words_at, dynamic_entries, value_of_tag, has_in_memory, offset_in, span_in, span_at, span_of, no_span, section_of, table_of, named_tables, dynamic_tables, has_entries, section_entries}
use Rattle.wild_loader.specs.SegmentLaws.{AreLoadable, Ascends, rela_bytes, word_bytes}
use Rattle.wild_loader.specs.Laws.{HasDynamic, IsLocatedAt, IsTableOf, IsTable, HasTables, HoldsEntries, HasSectionTables, section_relas, entries_before_null}
use Rattle.wild_loader.proofs.RecordLists.{length-rela, length-word_bytes, relas-read, words-read, dynamics-read}
use Rattle.wild_loader.proofs.SegmentLemmas.{loadable-rest}

pub lies-table : (image : List ℕ) (at count size : ℕ) → at + size * count ≤ length image → table_in_image image at count size ≡ Ok tt
lies-table image at count size h = let t : nat_le (at + size * count) (length image) ≡ true = le-leb _ _ h in rw t refl

-- ---- the file bytes of an address

-- an earlier segment does not have an address that a later one has
not_earlier : (g h : ProgramHeader) (a : ℕ) → Ascends g h → h.kind ≡ pt_load → h.address ≤ a → has_in_memory g a ≡ false
not_earlier g h a order k low =
    elim (cases_Bool (g.kind == pt_load)) [
      | inl t ↦ (let e = order (eqb-true _ _ t) k in and_right (g.kind == pt_load && nat_le g.address a) (nat_lt a (g.address + g.mem_size)) (le-ltb _ _ (omega (arith, e))))
      | inr f ↦ and_left (g.kind == pt_load && nat_le g.address a) (nat_lt a (g.address + g.mem_size)) (and_left (g.kind == pt_load) (nat_le g.address a) f)
    ]

is_here : (h : ProgramHeader) (a : ℕ) → h.kind ≡ pt_load → h.address ≤ a → a < h.address + h.mem_size → has_in_memory h a ≡ true
is_here h a k low inner = and_from (h.kind == pt_load && nat_le h.address a) (nat_lt a (h.address + h.mem_size)) (and_from (h.kind == pt_load) (nat_le h.address a) (eq-eqb h.kind pt_load k) (le-leb _ _ low)) (lt-ltb _ _ inner)

span_at-contained : (base : ℕ) (image : List ℕ) (i : ℕ) (hs : List ProgramHeader) (h : ProgramHeader) (a n : ℕ) → AreLoadable base image hs → i < length hs → get_or hs i h ≡ h → h.kind ≡ pt_load → h.address ≤ a → a < h.address + h.mem_size → span_at image hs a n ≡ span_in image h a n
unfolding span_at
span_at-contained base image i [] h a n can l e k low inner = absurd (omega arith)
span_at-contained base image zero (g ∷ gs) h a n can l e k low inner =
    let P : ProgramHeader → Type 0 = λ r. r.kind ≡ pt_load → r.address ≤ a → a < r.address + r.mem_size → span_at image (g ∷ gs) a n ≡ span_in image r a n in
    let here : P g = λ to_load from to. rw (is_here g a to_load from to) refl in
    subst P e here k low inner
span_at-contained base image (suc i) (g ∷ gs) h a n can l e k low inner =
    let order = can.ascend 0 (suc i) h (omega arith) (omega arith) in
    let P : ProgramHeader → Type 0 = λ r. Ascends g r in
    let before : Ascends g h = subst P e order in
    rw (not_earlier g h a before k low) (span_at-contained base image i gs h a n (loadable-rest base image g gs can) (omega arith) e k low inner)

-- bytes that stand at an address are found there
found-at : (base : ℕ) (image : List ℕ) (hs : List ProgramHeader) (a : ℕ) (part : List ℕ) → AreLoadable base image hs → (at : IsLocatedAt image hs a part) → span_at image hs a (length part) ≡ Ok (record { offset = offset_in at.segment a; size = length part })
found-at base image hs a part can at =
    let c = at.contained in
    let high = at.high in
    let fits = at.stands.fits in
    let t : nat_le (a + length part) (at.segment.address + at.segment.file_size) ≡ true = le-leb _ _ high in
    let u : nat_le (offset_in at.segment a + length part) (length image) ≡ true = le-leb _ _ fits in
    span_at-contained base image c.0 hs at.segment a (length part) can c.1 c.2 at.to_load at.low at.inner ∙ rw (t, u) refl

-- ---- the tables that tags name

-- where bytes are that a table has
pub record FoundTable (image : List ℕ) (found : Result Span LoadFault) (part : List ℕ) : Type 0 where
  pub span : Span
  pub is : found ≡ Ok span
  pub size : span.size ≡ length part
  pub stands : HasBytesAt image span.offset part

-- no bytes stand anywhere in an image
stands-none : (image part : List ℕ) → part ≡ [] → HasBytesAt image 0 part
stands-none image part e =
    let P : List ℕ → Type 0 = λ p. HasBytesAt image 0 p in
    subst P (sym e) (record { fits = omega arith; same = λ k l. absurd (omega arith) })

some-table : (base : ℕ) (image : List ℕ) (hs : List ProgramHeader) (tag size_tag a n : ℕ) (part : List ℕ) → AreLoadable base image hs → (n == 0) ≡ false → n ≡ length part → IsLocatedAt image hs a part → FoundTable image (span_of image hs tag size_tag (Some a) (Some n)) part
some-table base image hs tag size_tag a n part can some e at = record {
  span = record { offset = offset_in at.segment a; size = length part };
  is = rw some (rw e (found-at base image hs a part can at));
  size = refl;
  stands = at.stands;
}

table-of : (base : ℕ) (image : List ℕ) (hs : List ProgramHeader) (tag size_tag : ℕ) (o p : Option ℕ) (part : List ℕ) → AreLoadable base image hs → IsTableOf image hs o p part → FoundTable image (span_of image hs tag size_tag o p) part
table-of base image hs tag size_tag (Some a) (Some n) part can is =
    elim (cases_Bool (n == 0)) [
      | inl t ↦
          (let z = eqb-true n 0 t in
          let e = is.0 in
          let none : length part ≡ 0 = omega (arith, z, e) in
          record { span = no_span; is = rw t refl; size = sym none; stands = stands-none image part (nil_from_length part none) })
      | inr f ↦
          (let ne = eqb-false n 0 f in
          let e = is.0 in
          some-table base image hs tag size_tag a n part can f e (is.1 (omega (arith, ne, e))))
    ]
table-of base image hs tag size_tag (Some a) None part can is = absurd is
table-of base image hs tag size_tag None (Some n) part can is = absurd is
table-of base image hs tag size_tag None None part can is = record {
  span = no_span;
  is = refl;
  size = ap length (sym is);
  stands = stands-none image part is;
}

found-table : (base : ℕ) (image : List ℕ) (hs : List ProgramHeader) (ds : List DynamicEntry) (tag size_tag : ℕ) (part : List ℕ) → AreLoadable base image hs → IsTable image hs ds tag size_tag part → FoundTable image (table_of image hs (entries_before_null ds) tag size_tag) part
unfolding table_of
found-table base image hs ds tag size_tag part can is = table-of base image hs tag size_tag (value_of_tag tag (entries_before_null ds)) (value_of_tag size_tag (entries_before_null ds)) part can is

relas-found : RelaIsRead → (image : List ℕ) (s : Span) (rs : List Rela) → All RelaFits rs → s.size ≡ length (flat_map rela_bytes rs) → HasBytesAt image s.offset (flat_map rela_bytes rs) → relas_at image (s.size / rela_size) s.offset ≡ rs
relas-found read image s rs fits size st =
    let n = length-flat_map_each rela_bytes rela_size length-rela rs in
    let count : s.size / rela_size ≡ length rs = omega (arith, n, size) in
    rw count (relas-read read image rs s.offset fits st)

words-found : RelrIsRead → (image : List ℕ) (s : Span) (xs : List ℕ) → All (λ x. x < 2 ^ 64) xs → s.size ≡ length (flat_map word_bytes xs) → HasBytesAt image s.offset (flat_map word_bytes xs) → words_at image (s.size / relr_size) s.offset ≡ xs
words-found read image s xs fits size st =
    let n = length-flat_map_each word_bytes relr_size length-word_bytes xs in
    let count : s.size / relr_size ≡ length xs = omega (arith, n, size) in
    rw count (words-read read image xs s.offset fits st)

pub named-found : RelaIsRead → RelrIsRead → (base : ℕ) (image : List ℕ) (hs : List ProgramHeader) (ds : List DynamicEntry) (t : Tables) → AreLoadable base image hs → HasTables image hs ds t → named_tables image hs (entries_before_null ds) ≡ Ok t
unfolding named_tables
named-found rela relr base image hs ds t can has =
    let r = found-table base image hs ds _ _ _ can has.words in
    let a = found-table base image hs ds _ _ _ can has.entries in
    let j = found-table base image hs ds _ _ _ can has.jumps in
    let words = words-found relr image r.span t.words has.words_fit r.size r.stands in
    let entries = relas-found rela image a.span t.entries has.entries_fit a.size a.stands in
    let jumps = relas-found rela image j.span t.jumps has.jumps_fit j.size j.stands in
    rw (r.is, a.is, j.is, words, entries, jumps) refl

pub nothing-read : (image : List ℕ) (n at : ℕ) (ds : List DynamicEntry) → n ≡ 0 → dynamic_entries image (n / dynamic_entry_size) at ≡ ds → [] ≡ ds
unfolding dynamic_entries
nothing-read image n at ds e h =
    let z : n / dynamic_entry_size ≡ 0 = omega (arith, e) in
    rw z at h

-- the entries of the dynamic section
pub section-found : DynamicEntryIsRead → (image : List ℕ) (hs : List ProgramHeader) (ds : List DynamicEntry) → (has : HasDynamic image hs ds) → section_of image has.segment ≡ Ok (entries_before_null ds)
section-found dynamic image hs ds has =
    let room = has.room in
    let lies = lies-table image has.segment.offset has.segment.file_size 1 (omega arith) in
    let read : dynamic_entries image (has.segment.file_size / dynamic_entry_size) has.segment.offset ≡ entries_before_null ds = rw has.count (dynamics-read dynamic image ds has.segment.offset has.fits has.entries) in
    elim (cases_Bool (has.segment.file_size == 0)) [
      | inl t ↦ rw t (ap Ok (nothing-read image has.segment.file_size has.segment.offset (entries_before_null ds) (eqb-true _ _ t) read))
      | inr f ↦ rw (f, lies, read) refl
    ]

pub dynamic-found : DynamicEntryIsRead → RelaIsRead → RelrIsRead → (base : ℕ) (image : List ℕ) (hs : List ProgramHeader) (ds : List DynamicEntry) (t : Tables) → AreLoadable base image hs → (has : HasDynamic image hs ds) → HasTables image hs ds t → dynamic_tables image hs has.segment ≡ Ok t
unfolding dynamic_tables
dynamic-found dynamic rela relr base image hs ds t can has named =
    let found = section-found dynamic image hs ds has in
    rw found (named-found rela relr base image hs ds t can named)

-- ---- the tables of sections

holds-read : RelaIsRead → (image : List ℕ) (s : SectionHeader) (rs : List Rela) → HoldsEntries image s rs → relas_at image (s.size / rela_size) s.offset ≡ rs
holds-read read image s rs holds =
    let size = holds.size in
    let count : s.size / rela_size ≡ length rs = omega (arith, size) in
    rw count (relas-read read image rs s.offset holds.fits holds.stands)

pub sections-found : RelaIsRead → (image : List ℕ) (ss : List SectionHeader) (of : SectionHeader → List Rela) (acc : List Rela) → HasSectionTables image ss of → section_entries image ss acc ≡ Ok (acc ++ section_relas ss of)
unfolding section_entries
sections-found read image [] of acc has = rw append-nil refl
sections-found read image (s ∷ ss) of acc has =
    elim (cases_Bool (has_entries s)) [
      | inl t ↦
          (let holds = has 0 s (omega arith) t in
          let size = holds.size in
          let n = length-flat_map_each rela_bytes rela_size length-rela (of s) in
          let fits = holds.stands.fits in
          let lies = lies-table image s.offset s.size 1 (omega (arith, n, size, fits)) in
          let here = holds-read read image s (of s) holds in
          let rest = sections-found read image ss of (acc ++ of s) (λ k d l. has (suc k) d (omega arith)) in
          rw (t, lies, here) (rest ∙ ap Ok (append_assoc acc (of s) (section_relas ss of))))
      | inr f ↦ rw f (sections-found read image ss of acc (λ k d l. has (suc k) d (omega arith)))
    ]

pub no_tag : (n : ℕ) → value_of_tag n [] ≡ None
unfolding value_of_tag
no_tag n = refl
