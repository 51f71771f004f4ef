-- Clause 6: where segments are, and which bytes of a section they load (gABI, "Program Header").
--   has_byte side l s a g         the segment loads the byte of the section at address a
--   bytes_are_loaded side l gs s  each byte of the section that must be loaded lies in a segment
--   is_segment_of l p g           the segment has the place and the size of the part
--   dynamic_astray l p i gs       the first PT_DYNAMIC segment that is not that of the part
use Rattle.std.specs.Prelude.{ℕ, zero, suc, ◌+◌, ◌%◌, ◌==◌, Bool, true, false, not, ◌&&◌, ◌||◌, if◌then◌else◌, nat_lt, nat_le, List, [], ◌∷◌, Option, Some, None}
use Rattle.std.specs.List.{list_any}
use Rattle.wild_records.specs.Abi.Segment.{pt_load, pt_dynamic}
use Rattle.wild_types.specs.declared.kind.OutputKind.{OutputKind}
use Rattle.wild_types.specs.declared.part.Part.{Part}
use Rattle.wild_types.specs.declared.section.Section.{Section}
use Rattle.wild_types.specs.declared.section.Segment.{Segment}
use Rattle.wild_types.specs.declared.layout.Layout.{Layout}
use Rattle.wild_plan_rules.specs.declared.side.ImageOrMemory.{ImageOrMemory}
use Rattle.wild_plan_rules.specs.declared.side.ImageOrMemory.TheVariants as side
use Rattle.wild_types.specs.Kinds.{has_fixed_load_address}
use Rattle.wild_types.specs.Lookups.{allocated, thread_local, is_without_data, fills_file, is_header_only_at}

-- ---- the order

abbrev pub congruent : ℕ → ℕ → ℕ → Bool
congruent page a b = not (page == 0) && a % page == b % page

-- the segment begins at end or later, has at least as much memory as file bytes, and its address and offset are
-- congruent modulo the page size
abbrev pub segment_follows : ℕ → ℕ → Segment → Bool
segment_follows page end g = nat_le end g.address && nat_le g.file_size g.mem_size && congruent page g.address g.offset

-- the first loaded segment that does not follow the previous one
abbrev pub segment_out_of_order : ℕ → ℕ → ℕ → List Segment → Option ℕ
segment_out_of_order page i end [] = None
segment_out_of_order page i end (g ∷ gs) =
    if g.kind == pt_load
    then (if segment_follows page end g then segment_out_of_order page (i + 1) (g.address + g.mem_size) gs else Some i)
    else segment_out_of_order page (i + 1) end gs

-- ---- the bytes of sections

-- the size of the segment in memory, or in the file
abbrev pub size_on : ImageOrMemory → Segment → ℕ
size_on side.Memory g = g.mem_size
size_on side.File g = g.file_size

-- address minus offset is the same for the section and the segment
abbrev pub at_equal_distance : Section → Segment → Bool
at_equal_distance s g = s.offset + g.address == s.address + g.offset

-- address a lies in the loaded segment; if the section has file bytes, address minus offset is the same for both
abbrev pub has_byte : ImageOrMemory → Layout → Section → ℕ → Segment → Bool
has_byte on l s a g = g.kind == pt_load && (nat_le g.address a && nat_lt a (g.address + size_on on g)) && (not (fills_file l s) || at_equal_distance s g)

-- an allocated section, other than thread-local ones without data
abbrev pub is_to_load : Section → Bool
is_to_load s = allocated s.flags && not (thread_local s.flags && is_without_data s)

-- an allocated section with bytes in the file
abbrev pub has_file_bytes : Layout → Section → Bool
has_file_bytes l s = allocated s.flags && fills_file l s

-- the section's bytes must be loaded: in the memory of a segment, or among the file bytes of one
abbrev pub must_be_loaded : ImageOrMemory → Layout → Section → Bool
must_be_loaded side.Memory l s = is_to_load s
must_be_loaded side.File l s = has_file_bytes l s

-- every number below n passes
abbrev pub all_below : (ℕ → Bool) → ℕ → Bool
all_below test zero = true
all_below test (suc n) = test n && all_below test n

-- each byte of the section that must be loaded lies in a segment
abbrev pub bytes_are_loaded : ImageOrMemory → Layout → List Segment → Section → Bool
bytes_are_loaded on l segments s = not (must_be_loaded on l s) || all_below (λ k. list_any (has_byte on l s (s.address + k)) segments) s.size

-- ---- other tests

-- an output with a fixed load address loads no bytes at address 0
abbrev pub leaves_zero_free : OutputKind → Segment → Bool
leaves_zero_free kind g = not (has_fixed_load_address kind && g.kind == pt_load && g.address == 0 && not (g.mem_size == 0))

abbrev pub segment_in_image : ℕ → Segment → Bool
segment_in_image size g = nat_le (g.offset + g.file_size) size

-- ---- the dynamic section (gABI, "Program Header": PT_DYNAMIC)

-- the file size of the part's segment: 0 if the part's section is omitted
abbrev pub size_in_file : Layout → Part → ℕ
size_in_file l p = if is_header_only_at l p.section then 0 else p.size

-- the segment has the place and the size of the part
abbrev pub is_segment_of : Layout → Option Part → Segment → Bool
is_segment_of l None g = false
is_segment_of l (Some p) g = g.offset == p.offset && g.address == p.address && g.file_size == size_in_file l p && g.mem_size == p.size

-- place 0 if a part remains that has no segment
abbrev pub segment_lacking : Option Part → Option ℕ
segment_lacking None = None
segment_lacking (Some p) = Some 0

-- the first PT_DYNAMIC segment that is not that of the part, or is a second one
abbrev pub dynamic_astray : Layout → Option Part → ℕ → List Segment → Option ℕ
dynamic_astray l p i [] = segment_lacking p
dynamic_astray l p i (g ∷ gs) =
    if g.kind == pt_dynamic
    then (if is_segment_of l p g then dynamic_astray l None (i + 1) gs else Some i)
    else dynamic_astray l p (i + 1) gs
