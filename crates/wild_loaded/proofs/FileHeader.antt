-- What the file header and the program headers tell.
use Rattle.wild_loaded.proofs.Common.{◌≡◌, ℕ, ◌/◌, ◌%◌, inl, inr, Bool, true, false, List, [], ◌∷◌, map, refl, sym, ap, ◌∙◌, arith, subst, All, Option, Some, None, unwrap_or, option_map, slice_get, if◌then◌else◌, ◌==◌, cases_Bool, eqb-true, eqb-false, ne_eqb, All-head, All-tail, pt_load, file_header_size, ProgramHeader, Segment, Resolution, Symbol, Layout, raw_value, has_flag, ifunc, canonical, flags_at, file_header, program_header, section_headers_of, bytes, HasHeaders, IsLoadable, canonical_is, not_partial, headers_of}
use Rattle.wild_records.specs.Abi.Segment.{pt_gnu_stack, pf_x}
use Rattle.wild_records.specs.FileHeader.{FileHeaderIsRead, file_header_at}
use Rattle.wild_records.specs.ProgramHeader.{ProgramHeaderIsRead, program_header_size}
use Rattle.wild_records.specs.SectionHeader.{SectionHeaderIsRead}
use Rattle.wild_types.specs.declared.symbol.ValueFlags.{ValueFlags}
use Rattle.wild_types.specs.declared.layout.Entry.{Entry}
use Rattle.wild_types.specs.declared.layout.Entry.TheVariants as entry
use Rattle.wild_needs.specs.EntryPoint.{entry_point, without_warning, entry_by, entry_value}
use Rattle.wild_table_formats.specs.Headers.{entry_address, file_type, with_execute}
use Rattle.wild_layout.specs.Loadable.{IsPaged}
use Rattle.wild_loader.proofs.RecordLists.{programs-read}
use Rattle.wild_meaning.specs.Segments.{headers_in, DescribesSegment, DescribeSegments}
use Rattle.wild_meaning.specs.LinkedImage.{HasStandardFields, HasResolvedAddress}
use Rattle.wild_loaded.specs.Laws.{HeadersDescribeOutput}
use Rattle.wild_loaded.proofs.FileType.{kind_fits, movable_type}
use Rattle.wild_loaded.proofs.Loads.{has_headers}
use Rattle.wild_loaded.proofs.DescribedSections.{sections_described}

entry_is : (l : Layout) → (file_header l).entry ≡ entry_address l
unfolding file_header
entry_is l = refl

type_is : (l : Layout) → (file_header l).file_type ≡ file_type l.kind
unfolding file_header
type_is l = refl

-- the entry is that of its case
entry_by_case : (l : Layout) (e : Option Entry) → IsLoadable l.kind → l.entry ≡ e → entry_address l ≡ (entry_by l e).address
unfolding entry_point
entry_by_case l e k is = ap (λ (b : Bool). (if b then without_warning 0 else entry_by l l.entry).address) (not_partial l.kind k) ∙ ap (λ (o : Option Entry). (entry_by l o).address) is

-- ---- an entry that is a symbol

-- the flags of a symbol are its definition's
flags_are : (l : Layout) (i c : ℕ) (s : Symbol) → canonical l i ≡ c → slice_get l.symbols c ≡ Some s → flags_at l i ≡ s.flags
flags_are l i c s is listed =
    ap (λ (k : ℕ). unwrap_or (option_map (λ (x : Symbol). x.flags) (slice_get l.symbols k)) (record { 0 = 0 })) is
    ∙ ap (λ (o : Option Symbol). unwrap_or (option_map (λ (x : Symbol). x.flags) o) (record { 0 = 0 })) listed

-- what was decided of its definition is its address
raw_is : (l : Layout) (i c : ℕ) (s : Symbol) (r : Resolution) → canonical l i ≡ c → slice_get l.symbols c ≡ Some s → s.resolution ≡ Some r → raw_value l i ≡ Some r.raw_value
unfolding raw_value
raw_is l i c s r is listed decided = rw (is, listed, decided) refl

plain_entry : (l : Layout) (i a : ℕ) → HasResolvedAddress l i a → entry_value l i ≡ Some a
plain_entry l i a h =
    let flagged = canonical_is l i h.plain.definition h.plain.defined in
    let flags = flags_are l i h.plain.definition h.plain.symbol flagged h.plain.listed in
    let plain : has_flag (flags_at l i) ifunc ≡ false = ap (λ (f : ValueFlags). has_flag f ifunc) flags ∙ h.plain.flagged in
    let given = raw_is l i h.definition h.given.symbol h.given.resolution (canonical_is l i h.definition h.defined) h.given.listed h.given.decided in
    rw plain (given ∙ ap (λ (v : ℕ). Some v) (sym h.given.value))

symbol_entry : (l : Layout) (i a : ℕ) → IsLoadable l.kind → l.entry ≡ Some (entry.Symbol i) → HasResolvedAddress l i a → entry_address l ≡ a
symbol_entry l i a k is h =
    let by = entry_by_case l (Some (entry.Symbol i)) k is in
    let value = plain_entry l i a h in
    by ∙ rw value refl

-- ---- segments

-- flags that are the segment's but where the layout asks for more of the stack's
flags_are_own : (a b : Bool) (f : ℕ) → (a ≡ true → b ≡ false) → (if a then (if b then with_execute f else f) else f) ≡ f
flags_are_own true true f h = (let both : true ≡ false = h refl in cc)
flags_are_own true false f h = refl
flags_are_own false b f h = refl

executes : (f : ℕ) → with_execute f / pf_x % 2 ≡ 1
executes f =
    elim (cases_Bool (f / pf_x % 2 == 0)) [
      | inl t ↦ (let e : f / 1 % 2 ≡ 0 = eqb-true _ _ t in rw t (omega (arith, e)))
      | inr n ↦ (let e : f / 1 % 2 ≡ 0 → ⊥ = eqb-false _ _ n in rw n (omega (arith, e)))
    ]

one_told : (l : Layout) (g : Segment) → IsPaged l.page_size g → DescribesSegment l g (program_header l g)
unfolding program_header
one_told l g paged = record {
  kind = refl;
  flags = λ f. flags_are_own (g.kind == pt_gnu_stack) l.options.execstack g.flags (λ t. f (eqb-true g.kind pt_gnu_stack t));
  stack = λ k e. rw (k, e) (executes g.flags);
  offset = refl;
  address = refl;
  physical = refl;
  file_size = refl;
  mem_size = refl;
  align = λ n m. rw (ne_eqb g.kind pt_load n, ne_eqb g.kind pt_gnu_stack m) refl;
  pages = λ k. rw k refl;
  congruent = paged;
}

-- each program header tells its segment
each_told : (l : Layout) (gs : List Segment) → All (IsPaged l.page_size) gs → DescribeSegments l gs (map (program_header l) gs)
each_told l [] h = tt
each_told l (g ∷ gs) h = (one_told l g (All-head (IsPaged l.page_size) g gs h), each_told l gs (All-tail (IsPaged l.page_size) g gs h))

-- a loader reads them
pub headers_read : FileHeaderIsRead → ProgramHeaderIsRead → (l : Layout) → HasHeaders (bytes l) (file_header l) (headers_of l) (section_headers_of l l.sections) → headers_in (bytes l) ≡ headers_of l
headers_read file program l headers =
    let e = file_header l in
    let is : file_header_at (bytes l) 0 ≡ e = file (bytes l) 0 e headers.fits headers.file_header in
    let count = headers.program_count in
    rw (is, count) (programs-read program (bytes l) (headers_of l) e.program_offset headers.programs_fit headers.programs)

fields_told : (l : Layout) → IsLoadable l.kind → HasStandardFields (file_header l)
unfolding file_header
fields_told l k = record { ident_version = refl; os_abi = refl; abi_version = refl; programs = ap (λ (b : Bool). if b then 0 else file_header_size) (not_partial l.kind k); version = refl; header = refl; program = ap (λ (b : Bool). if b then 0 else program_header_size) (not_partial l.kind k); section = refl; flags = refl }

-- ---- the whole

pub header_told : FileHeaderIsRead → ProgramHeaderIsRead → SectionHeaderIsRead → HeadersDescribeOutput
header_told file program section = λ l k numbers laid.
    let headers = has_headers l k numbers laid in
    record {
      header = file_header l;
      fits = headers.fits;
      stands = headers.file_header;
      fixed = λ f. type_is l ∙ kind_fits l.kind f;
      movable = λ f. type_is l ∙ movable_type l.kind f;
      address = λ a e. entry_is l ∙ entry_by_case l (Some (entry.Address a)) k e;
      symbol = λ i a e d. entry_is l ∙ symbol_entry l i a k e d;
      none = λ e. entry_is l ∙ entry_by_case l None k e;
      fields = fields_told l k;
      segments = subst (λ (hs : List ProgramHeader). DescribeSegments l l.segments hs) (sym (headers_read file program l headers)) (each_told l l.segments (laid.loadable (not_partial l.kind k)).pages);
      sections = sections_described section l k numbers laid;
    }
