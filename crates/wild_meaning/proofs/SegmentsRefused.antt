-- Wrong headers and wrong dynamic sections are refused.
use Rattle.wild_meaning.proofs.Common.{◌≡◌, ◌≢◌, ◌==◌, false, ℕ, zero, suc, inl, inr, [], ◌∷◌, List, length, refl, sym, ap, ◌∙◌, subst, arith, Option, Some, None, Ok, option_map, ◌<◌, ◌/◌, slice_get, eqb-false, pt_load, pt_gnu_stack, FileHeaderIsRead, file_header_at, program_header_at, DynamicEntry, FileHeader, ProgramHeader, Section, OutputKind, Segment, Layout, kind_of, program_headers, section_of, IsSet, headers_in, DescribeSegments, DescribesSections, DescribesOutput, static_pie}
use Rattle.wild_records.specs.Abi.Dynamic.{df_bind_now}
use Rattle.wild_records.specs.Abi.Header.{et_exec}
use Rattle.wild_records.specs.Abi.Segment.{pt_tls}
use Rattle.wild_records.specs.declared.relocations.Rela.{Rela}
use Rattle.wild_records.specs.declared.section_header.SectionHeader.{SectionHeader}
use Rattle.wild_types.specs.declared.kind.OutputKind.TheVariants as output
use Rattle.wild_types.specs.declared.kind.RelocationModel.TheVariants as model
use Rattle.wild_loader.specs.declared.kind.DynamicKind.TheVariants as kinds
use Rattle.wild_meaning.specs.Segments.{DescribesSegment, HasDynamicLinker, HasDynamicSection}
use Rattle.wild_meaning.specs.World.{IsLoadable}
use Rattle.wild_meaning.specs.SectionHeaders.{DescribesSection}
use Rattle.wild_meaning.specs.DynamicSection.{DescribesTables}
use Rattle.wild_meaning.specs.LinkedImage.{HasStandardFields, processor_of}
use Rattle.wild_meaning.specs.Worked.Builders.{loaded_segment}
use Rattle.wild_meaning.specs.Worked.SegmentRefusals.{unpaged_layout, HasSegment, HasSection, IsDynamic, WrongSegmentsAreRefused, WrongStacksAreRefused, OtherPlacesAreRefused, WrongFieldsAreRefused, WrongSectionsAreRefused, NoDynamicIsRefused, WrongEntriesAreRefused, OwnSectionsAreJudged}

-- one segment that is told
record IsOne (l : Layout) (image : List ℕ) (g : Segment) (count at : ℕ) : Type 0 where
  pub told : DescribesSegment l g (program_header_at image at)
  pub one : count ≡ 1

one_segment : (l : Layout) (image : List ℕ) (g : Segment) (count at : ℕ) → DescribeSegments l (g ∷ []) (program_headers image count at) → IsOne l image g count at
unfolding program_headers
one_segment l image g zero at h = absurd h
one_segment l image g (suc zero) at h = record { told = h.0; one = refl }
one_segment l image g (suc (suc n)) at h = absurd h.1

one : (l : Layout) (image : List ℕ) (g : Segment) → l.segments ≡ g ∷ [] → DescribesOutput l image → IsOne l image g (file_header_at image 0).program_count (file_header_at image 0).program_offset
one l image g is h =
    one_segment l image g (file_header_at image 0).program_count (file_header_at image 0).program_offset (subst (λ (gs : List Segment). DescribeSegments l gs (headers_in image)) is h.header.segments)

static_one : (image : List ℕ) → DescribesOutput static_pie image → IsOne static_pie image (loaded_segment 0x1000 0x110 0x110) (file_header_at image 0).program_count (file_header_at image 0).program_offset
static_one image h = one static_pie image (loaded_segment 0x1000 0x110 0x110) refl h

pub wrong_segments : WrongSegmentsAreRefused
wrong_segments = record {
  offset = λ image h wrong. wrong (static_one image h).told.offset;
  address = λ image h wrong. wrong (static_one image h).told.address;
  physical = λ image h wrong. wrong (static_one image h).told.physical;
  file_size = λ image h wrong. wrong (static_one image h).told.file_size;
  mem_size = λ image h wrong. wrong (static_one image h).told.mem_size;
  flags = λ image h wrong. wrong ((static_one image h).told.flags (λ k. refl));
  align = λ image h wrong. wrong ((static_one image h).told.pages refl);
  number = λ image h wrong. wrong (static_one image h).one;
}

-- each header describes the segment with its index
segment_at : (l : Layout) (gs : List Segment) (hs : List ProgramHeader) (k : ℕ) (g : Segment) (h : ProgramHeader) → DescribeSegments l gs hs → slice_get gs k ≡ Some g → slice_get hs k ≡ Some h → DescribesSegment l g h
segment_at l [] hs k g h d listed there = absurd (let both : None ≡ Some g = listed in cc)
segment_at l (x ∷ gs) [] k g h d listed there = absurd d
segment_at l (x ∷ gs) (y ∷ hs) zero g h d listed there =
    let segment : x ≡ g = (let both : Some x ≡ Some g = listed in cc) in
    let header : y ≡ h = (let both : Some y ≡ Some h = there in cc) in
    subst (λ (z : Segment). DescribesSegment l z h) segment (subst (λ (z : ProgramHeader). DescribesSegment l x z) header d.0)
segment_at l (x ∷ gs) (y ∷ hs) (suc k) g h d listed there = segment_at l gs hs k g h d.1 listed there

segment_told : (l : Layout) (image : List ℕ) (k : ℕ) (g : Segment) (h : ProgramHeader) → HasSegment l image k g h → DescribesSegment l g h
segment_told l image k g h x = segment_at l l.segments (headers_in image) k g h (x.sound x.loads).0.header.segments x.listed x.there

other_kind : (g : Segment) (m n : ℕ) → g.kind ≡ m → (m == n) ≡ false → g.kind ≢ n
other_kind g m n is differs = λ e. eqb-false m n differs (sym is ∙ e)

pub wrong_stacks : WrongStacksAreRefused
wrong_stacks = record {
  align = λ l image k g h x kind wrong. wrong ((segment_told l image k g h x).align (other_kind g pt_tls pt_load kind refl) (other_kind g pt_tls pt_gnu_stack kind refl));
  permissions = λ l image k g h x kind plain wrong. wrong ((segment_told l image k g h x).flags (λ stack. plain));
  executable = λ l image k g h x kind on wrong. wrong ((segment_told l image k g h x).stack kind on);
}

pub other_places : OtherPlacesAreRefused
other_places image h =
    let t = (one unpaged_layout image (record (loaded_segment 0x1000 0x110 0x110) { offset = 120 }) refl h).told in
    let same = t.congruent refl in
    let address = t.address in
    let offset = t.offset in
    omega (arith, same, address, offset)

-- the file header is the one that a loader reads
header_read : FileHeaderIsRead → (l : Layout) (image : List ℕ) (h : DescribesOutput l image) (P : FileHeader → Type 0) → P h.header.header → P (file_header_at image 0)
header_read read l image h P x = subst P (sym (read image 0 h.header.header h.header.fits h.header.stands)) x

fields_read : FileHeaderIsRead → (l : Layout) (image : List ℕ) → DescribesOutput l image → HasStandardFields (file_header_at image 0)
fields_read read l image h = header_read read l image h HasStandardFields h.header.fields

pub wrong_fields : FileHeaderIsRead → WrongFieldsAreRefused
wrong_fields read = record {
  version = λ l image loads h wrong. wrong (fields_read read l image (h loads).0).version;
  header = λ l image loads h wrong. wrong (fields_read read l image (h loads).0).header;
  program = λ l image loads h wrong. wrong (fields_read read l image (h loads).0).program;
  section = λ l image loads h wrong. wrong (fields_read read l image (h loads).0).section;
  os_abi = λ l image loads h wrong. wrong (fields_read read l image (h loads).0).os_abi;
  abi_version = λ l image loads h wrong. wrong (fields_read read l image (h loads).0).abi_version;
  programs = λ l image loads h wrong. wrong (fields_read read l image (h loads).0).programs;
  flags = λ l image loads h wrong. wrong (fields_read read l image (h loads).0).flags;
  fixed = λ l image fixed loads h wrong. wrong (header_read read l image (h loads).0 (λ (e : FileHeader). e.file_type ≡ et_exec) ((h loads).0.header.fixed fixed));
  entry = λ l image none loads h wrong. wrong (header_read read l image (h loads).0 (λ (e : FileHeader). e.entry ≡ 0) ((h loads).0.header.none none));
  ident = λ l image loads h wrong. wrong (fields_read read l image (h loads).0).ident_version;
}

-- ---- sections

-- the headers that a reader finds by the file header in the image
sections_read : FileHeaderIsRead → (l : Layout) (image : List ℕ) → DescribesOutput l image → DescribesSections l image (file_header_at image 0)
sections_read read l image h = header_read read l image h (DescribesSections l image) h.header.sections

section_read : FileHeaderIsRead → (l : Layout) (image : List ℕ) (k : ℕ) (s : Section) (h : SectionHeader) → HasSection l image k s h → DescribesSection l s h
section_read read l image k s h x =
    let d = sections_read read l image (x.sound x.loads).0 in
    let both : Ok x.headers ≡ Ok d.headers = sym x.read ∙ d.read in
    let same : x.headers ≡ d.headers = cc in
    d.each k s h x.later x.listed (subst (λ (hs : List SectionHeader). slice_get hs k ≡ Some h) same x.there)

pub wrong_sections : FileHeaderIsRead → WrongSectionsAreRefused
wrong_sections read = record {
  number = λ l image hs loads h found wrong.
      (let d = sections_read read l image (h loads).0 in
      let both : Ok hs ≡ Ok d.headers = sym found ∙ d.read in
      let same : hs ≡ d.headers = cc in
      wrong (ap (λ (xs : List SectionHeader). length xs) same ∙ d.number));
  kind = λ l image k s h x whole wrong. wrong ((section_read read l image k s h x).kind (λ o. whole o.bare));
  address = λ l image k s h x wrong. wrong (section_read read l image k s h x).address;
  offset = λ l image k s h x wrong. wrong (section_read read l image k s h x).offset;
  size = λ l image k s h x wrong. wrong (section_read read l image k s h x).size;
  memory = λ l image k s h x room wrong. wrong ((section_read read l image k s h x).memory ∙ room);
}

-- ---- the dynamic section

-- an output that a dynamic linker loads can be loaded
loaded_dynamically : (kind : OutputKind) → HasDynamicLinker kind → IsLoadable kind
loaded_dynamically (output.StaticExecutable any) h = absurd h
loaded_dynamically (output.DynamicExecutable model.NonRelocatable) h = inl tt
loaded_dynamically (output.DynamicExecutable model.Relocatable) h = inr tt
loaded_dynamically output.SharedObject h = inr tt
loaded_dynamically output.PartialObject h = absurd h

loaded_with_section : (l : Layout) → HasDynamicSection l → IsLoadable l.kind
loaded_with_section l (inl linker) = loaded_dynamically l.kind linker
loaded_with_section l (inr own) = subst IsLoadable (sym own.kind) (inr tt)

pub no_dynamic : NoDynamicIsRefused
no_dynamic l image whole linker h none =
    let told = (h (loaded_with_section l linker)).0.dynamic whole linker in
    let both : None ≡ Some told.segment = sym none ∙ told.first in
    cc

-- its entries are those that are read, in that segment
record IsRead (l : Layout) (image : List ℕ) (ds : List DynamicEntry) (segment : ProgramHeader) : Type 0 where
  ended : length ds < segment.file_size / 16
  told : DescribesTables l (processor_of l.machine) image ds

entries_read : (l : Layout) (image : List ℕ) (ds : List DynamicEntry) (d : IsDynamic l image ds) → IsRead l image ds d.segment
entries_read l image ds d =
    let told = (d.sound (loaded_with_section l d.linker)).0.dynamic d.whole d.linker in
    let first : Some told.segment ≡ Some d.segment = sym told.first ∙ d.first in
    let segment : told.segment ≡ d.segment = cc in
    let both : Ok told.entries ≡ Ok ds = sym told.read ∙ ap (λ (h : ProgramHeader). section_of image h) segment ∙ d.read in
    let same : told.entries ≡ ds = cc in
    record {
      ended = subst (λ (xs : List DynamicEntry). length xs < d.segment.file_size / 16) same (subst (λ (h : ProgramHeader). length told.entries < h.file_size / 16) segment told.ended);
      told = subst (λ (xs : List DynamicEntry). DescribesTables l (processor_of l.machine) image xs) same told.told;
    }

described_tables : (l : Layout) (image : List ℕ) (ds : List DynamicEntry) → IsDynamic l image ds → DescribesTables l (processor_of l.machine) image ds
described_tables l image ds d = (entries_read l image ds d).told

-- one value at most
one_value : (o : Option ℕ) (m n : ℕ) → o ≡ Some m → o ≡ Some n → m ≡ n
one_value o m n e f = let both : Some m ≡ Some n = sym e ∙ f in cc

pub wrong_entries : WrongEntriesAreRefused
wrong_entries = record {
  none = λ l image ds d h. (let now = (described_tables l image ds d).now in let both : None ≡ Some now.value = sym h ∙ now.there in cc);
  late = λ l image ds f d h wrong. (let now = (described_tables l image ds d).now in wrong (subst (λ (v : ℕ). IsSet v df_bind_now) (one_value _ now.value f now.there h) now.set));
  now = λ l image ds d h. (let now = (described_tables l image ds d).now_1 in let both : None ≡ Some now.value = sym h ∙ now.there in cc);
  word_size = λ l image ds a n d h there wrong. wrong (one_value _ n _ there ((described_tables l image ds d).word_size a h));
  symbol_size = λ l image ds a n d h there wrong. wrong (one_value _ n _ there ((described_tables l image ds d).symbol_size a h));
  cut = λ l image ds n d h wrong. wrong ((described_tables l image ds d).whole n h);
  twice = λ l image ds e n d c needed auxiliary h wrong. wrong (one_value _ n e.value h ((described_tables l image ds d).one e c needed auxiliary));
  symbols = λ l image ds p d h some none. (let both : None ≡ Some p.address = sym none ∙ (described_tables l image ds d).tables.symbols.there p h some in cc);
  elsewhere = λ l image ds p a d h some there wrong. wrong (one_value _ a p.address there ((described_tables l image ds d).tables.symbols.there p h some));
  strings = λ l image ds p n d h some there wrong. wrong (one_value _ n p.size there ((described_tables l image ds d).tables.string_size p h some));
  array = λ l image ds s a d h there wrong. wrong (one_value _ a s.address there ((described_tables l image ds d).functions.init_array ∙ ap (λ (o : Option Section). option_map (λ (x : Section). x.address) o) h));
  array_size = λ l image ds s n d h there wrong. wrong (one_value _ n s.size there ((described_tables l image ds d).functions.init_size ∙ ap (λ (o : Option Section). option_map (λ (x : Section). x.size) o) h));
  no_array = λ l image ds a d h there. (let both : None ≡ Some a = sym (ap (λ (o : Option Section). option_map (λ (x : Section). x.address) o) h) ∙ sym (described_tables l image ds d).functions.init_array ∙ there in cc);
  endless = λ l image ds d long. (let ended = (entries_read l image ds d).ended in omega (arith, ended, long));
  sort = λ l image ds a n d h there wrong. wrong (one_value _ n _ there ((described_tables l image ds d).stubs a h));
  size = λ l image ds a n d h there wrong. wrong (one_value _ n _ there ((described_tables l image ds d).entry_size a h));
  relative = λ l image ds t n k r d h found lt listed wrong.
      (let at = (described_tables l image ds d).relative n t h found k lt in
      let both : Some at.entry ≡ Some r = sym at.there ∙ listed in
      let same : at.entry ≡ r = cc in
      wrong (subst (λ (x : Rela). kind_of (processor_of l.machine) x.number ≡ Some kinds.Relative) same at.kind));
}

pub own_sections : OwnSectionsAreJudged
own_sections l image ds g h whole kind listed dynamic sound first read none =
    wrong_entries.none l image ds (record { whole = whole; linker = inr (record { kind = kind; segment = g; listed = listed; dynamic = dynamic }); sound = sound; segment = h; first = first; read = read }) none
