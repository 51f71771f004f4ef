-- The image of the worked program whose one input section has no data is linked in its world.
use Rattle.wild_meaning.proofs.Common.{◌≡◌, ℕ, ◌+◌, ◌<◌, true, false, List, [], ◌∷◌, refl, sym, ap, ◌∙◌, subst, arith, Ok, Some, None, Contains, replicate, All, All-from_recursion, All-contains, word, number, spell, least_extent, HasBytesAt-left, pt_gnu_stack, file_header_fields, file_header_at, program_header_fields, program_header_at, ProgramHeader, File, Group, InputSection, Item, byte_in, Holds, header, program_headers, sections, load_segment, load_segments, segments, first_dynamic, section_entries, section_tables, tables, places_from, overlay_runs, add_all, apart, notes, relocate, load, image_at, image_with, IsCopied, IsInput, IsKept, OfSection, OfFrames, ItemHolds, headers_in, DescribeSegments, DescribesSections, IsSectionWithoutData, DescribesOutput, file_of, group_of, static_pie_world}
use Rattle.std.proofs.lemmas.List.{get_or-replicate}
use Rattle.wild_records.specs.SectionHeader.{section_header_fields, section_header_at}
use Rattle.wild_types.specs.declared.file.FileRole.TheVariants as file_role
use Rattle.wild_types.specs.declared.input.Slot.TheVariants as slot
use Rattle.wild_types.specs.declared.layout.Entry.TheVariants as entry
use Rattle.wild_loader.specs.Headers.{section_headers}
use Rattle.wild_meaning.specs.Worked.StaticImage.{padded_header, padded_section_header, static_segment, padded_image, padded_rest, padded_memory}
use Rattle.wild_meaning.specs.Worked.StaticRefusals.{padded_section, padded_blank, padded_thread, padded_layout, PaddedImageIsLinked}
use Rattle.wild_meaning.proofs.SectionHeaderLemmas.{one_section}
use Rattle.wild_meaning.proofs.DynamicLemmas.{no_dynamic_section}
use Rattle.wild_meaning.proofs.FileBytes.{HasLoadedBytes, file_byte_held}
use Rattle.wild_meaning.proofs.SymbolUnique.{only, IsUnstubbed, no_stubs}
use Rattle.wild_meaning.proofs.Read.{held_from}
use Rattle.wild_meaning.proofs.PlacedLemmas.{frame_input}
use Rattle.wild_meaning.proofs.TextLemmas.{no_texts}

padded_loaded : load static_pie_world padded_image ≡ Ok padded_memory
unfolding load image_at image_with header program_headers segments load_segment load_segments tables first_dynamic section_tables sections section_headers section_header_at section_header_fields section_entries relocate add_all apart notes overlay_runs places_from least_extent file_header_at file_header_fields program_header_at program_header_fields number word
padded_loaded = refl

padded_programs : headers_in padded_image ≡ static_segment ∷ []
unfolding program_headers file_header_at file_header_fields program_header_at program_header_fields number word
padded_programs = refl

-- ---- its one section

abbrev inputs : List InputSection
inputs = padded_blank ∷ padded_thread ∷ []

abbrev padded_file : File
padded_file = file_of file_role.Object inputs []

file_is : (f : File) (g : Group) → Contains padded_layout.groups g → Contains g.files f → padded_file ≡ f
file_is f g grouped filed =
    let group = only (group_of (padded_file ∷ [])) g grouped in
    only padded_file f (subst (λ (h : Group). Contains h.files f) (sym group) filed)

listed_in : (s : InputSection) → IsInput padded_layout s → Contains inputs s
listed_in s h = subst (λ (f : File). Contains f.sections s) (sym (file_is h.file h.group h.grouped h.filed)) h.listed

-- both are loaded, without data
abbrev IsBlank : InputSection → Type 0
IsBlank s = (s.nobits ≡ true) × (s.slot ≡ slot.Loaded)

blank_is : (s : InputSection) → IsInput padded_layout s → IsBlank s
blank_is s h = All-contains IsBlank inputs s (All-from_recursion IsBlank inputs ((refl, refl), ((refl, refl), tt))) (listed_in s h)

no_item : (item : Item) → IsKept padded_layout item → ItemHolds padded_layout static_pie_world padded_memory item
no_item item (OfSection s kept is) =
    let both : true ≡ false = sym (blank_is s kept.input).0 ∙ kept.has_data in
    absurd (cc)
no_item item (OfFrames s kept is) =
    let both : slot.Loaded ≡ slot.Frame = sym (blank_is s (frame_input padded_layout s kept)).1 ∙ kept.frame in
    absurd (cc)

no_library : (i : ℕ) → IsCopied padded_layout i → ⊥
no_library i h =
    let role : file_role.Object ≡ file_role.Dynamic = ap (λ (f : File). f.role) (file_is h.file h.group h.grouped h.filed) ∙ h.library in
    cc

all_zero : Holds padded_memory 0x41000 (replicate 272 0)
all_zero = held_from padded_memory 0x41000 (replicate 272 0) refl

zero_at : (k : ℕ) → k < 272 → byte_in padded_memory (0x41000 + k) ≡ Some 0
zero_at k lt = all_zero k lt ∙ ap Some (get_or-replicate 272 k 0 0 lt)

abbrev IsZero : InputSection → Type 0
IsZero s = (k : ℕ) → k < s.size → byte_in padded_memory (static_pie_world.base + s.address + k) ≡ Some 0

section_zero : IsZero padded_blank
section_zero = λ k lt. (let at : 0x41000 + (256 + k) ≡ 0x41100 + k = omega arith in subst (λ (a : ℕ). byte_in padded_memory a ≡ Some 0) at (zero_at (256 + k) (omega (arith, lt))))

thread_zero : IsZero padded_thread
thread_zero = λ k lt. (let at : 0x41000 + (240 + k) ≡ 0x410f0 + k = omega arith in subst (λ (a : ℕ). byte_in padded_memory a ≡ Some 0) at (zero_at (240 + k) (omega (arith, lt))))

zeros : (s : InputSection) → IsSectionWithoutData padded_layout s → IsZero s
zeros s h = All-contains IsZero inputs s (All-from_recursion IsZero inputs (section_zero, (thread_zero, tt))) (listed_in s h.input)

-- ---- bytes of the file

file_bytes : All (HasLoadedBytes padded_memory static_pie_world.base padded_image) padded_layout.segments
unfolding file_header_fields program_header_fields section_header_fields word
file_bytes = All-from_recursion (HasLoadedBytes padded_memory static_pie_world.base padded_image) padded_layout.segments ((λ k. record { content = replicate 272 0; stands = refl; size = refl; held = refl }), tt)

-- ---- the whole

padded_segments : DescribeSegments padded_layout padded_layout.segments (headers_in padded_image)
padded_segments = subst (λ (hs : List ProgramHeader). DescribeSegments padded_layout padded_layout.segments hs) (sym padded_programs) (
  record { kind = refl; flags = λ k. refl; stack = λ k. absurd (let no : 1 ≡ pt_gnu_stack = k in omega (arith, no)); offset = refl; address = refl; physical = refl; file_size = refl; mem_size = refl; align = λ k. absurd (k refl); pages = λ k. refl; congruent = λ k. refl },
  tt,
)

padded_read : sections padded_image padded_header ≡ Ok (padded_section_header ∷ padded_section_header ∷ [])
unfolding sections section_headers section_header_at section_header_fields file_header_fields program_header_fields number word
padded_read = refl

padded_sections : DescribesSections padded_layout padded_image padded_header
padded_sections = one_section padded_layout padded_image padded_header padded_section padded_section padded_section_header padded_section_header refl padded_read
    (record { kind = λ o. refl; bare = λ o. absurd (let both : false ≡ true = o.bare in cc); address = refl; offset = refl; size = refl; memory = refl })

padded_described : DescribesOutput padded_layout padded_image
padded_described = record {
  header = record {
    header = padded_header;
    fits = record {
      front = record { magic = omega arith; class = omega arith; encoding = omega arith; ident_version = omega arith; os_abi = omega arith; abi_version = omega arith; file_type = omega arith };
      middle = record { machine = omega arith; version = omega arith; entry = omega arith; program_offset = omega arith; section_offset = omega arith; flags = omega arith; header_size = omega arith };
      back = record { program_entry_size = omega arith; program_count = omega arith; section_entry_size = omega arith; section_count = omega arith; name_table = omega arith };
    };
    stands = HasBytesAt-left (spell (file_header_fields padded_header)) padded_rest;
    fixed = λ f. absurd f;
    movable = λ _. refl;
    address = λ a e. (let one : Some (entry.Address 0x1000) ≡ Some (entry.Address a) = e in let same : 0x1000 ≡ a = cc in same);
    symbol = λ i a e _. absurd (let one : Some (entry.Address 0x1000) ≡ Some (entry.Symbol i) = e in cc);
    none = λ e. absurd (let one : Some (entry.Address 0x1000) ≡ None = e in cc);
    fields = record { ident_version = refl; os_abi = refl; abi_version = refl; programs = refl; version = refl; header = refl; program = refl; section = refl; flags = refl };
    segments = padded_segments;
    sections = padded_sections;
  };
  dynamic = λ whole d. absurd (no_dynamic_section padded_layout _ (λ linker. linker) refl refl d);
}

pub padded_linked : PaddedImageIsLinked
padded_linked = (
  padded_described,
  record {
    memory = padded_memory;
    accepted = padded_loaded;
    machine = refl;
    kept = no_item;
    zeros = λ s k h lt _ _. zeros s h k lt;
    stubs = λ whole i p h. absurd (no_stubs padded_layout i p (All-from_recursion IsUnstubbed padded_layout.symbols (refl, (refl, (refl, (refl, tt))))) h);
    copies = λ whole i raw x h. absurd (no_library i h.copied);
    texts = no_texts padded_layout static_pie_world padded_memory refl refl;
    still = λ a b h free. file_byte_held padded_layout padded_memory static_pie_world.base a b padded_image file_bytes h;
  },
)
