-- The layout with much in it is linked in a legal world.
use Rattle.wild_worlds.proofs.Common.{◌≡◌, ℕ, ◌+◌, ◌^◌, ◌<◌, ◌≤◌, inr, Bool, true, List, [], ◌∷◌, refl, sym, ap, arith, subst, ◌&&◌, nat_lt, Some, None, All, slice_get, w64, list_all, and_parts, ltb-true, fits_signed_from_abs, All-nil, All-from_recursion, All-weaker, ones, pos, negsuc, All-from_list_all, DynamicEntryFits, DynamicEntry, Segment, Resolution, Symbol, File, Group, has_flag, ifunc, HasItsFlags, HaveTheirFlags, dynamic_entries, entry_address, errors, LayoutsAreLaidOut, NumbersFit, AddendFits, InputNumbers, InputsFit, SegmentNumbers, SectionNumbers, ResolutionNumbers, SymbolNumbers, HasFlag, ImagesAreSound, section_with, errors_on_literals, HasRoomAbove, OtherModule, AreNumbers, IsConsistent, HasWorld}
use Rattle.std.specs.Prelude.{⊤}
use Rattle.wild_types.specs.declared.kind.Machine.TheVariants as machine
use Rattle.wild_types.specs.declared.kind.OutputKind.TheVariants as output
use Rattle.wild_types.specs.declared.kind.RelocationModel.TheVariants as model
use Rattle.wild_types.specs.Flags.{got_tls_offset}
use Rattle.wild_frames.specs.Frames.{entry_with_id, entry_of_size, found, walk, rest_of, entry_bytes, tail_of, malformed_in, unsorted_in, list_error}
use Rattle.wild_placement.specs.FrameInputs.{target_of}
use Rattle.wild_placement.specs.PlacedSections.{kept_relocations, moved_relocations}
use Rattle.wild_relax.specs.LinkedPattern.{template_of}
use Rattle.wild_meaning.specs.Frames.{kept_bytes}
use Rattle.wild_worlds.specs.MixedFile.{resolver, thread, string_section, function, mixed_symbols, slot_call, offset_load, code, thread_data, strings, string_address, sorted, function_distance, frames, mixed_inputs, mixed_sections, mixed_segments, mixed_object, mixed_files, mixed_group, merged_string, mixed_file}
use Rattle.wild_worlds.specs.Joined.{HasManySorts, IsLinkedElsewhere, IsMetWithMany}
use Rattle.wild_worlds.proofs.Worlds.{worlds_there}

-- ---- faults

-- what is unfolded to compute its faults, and its frames
unfoldable on_literals : ⊤
unfolding errors_on_literals mixed_file ones entry_with_id entry_of_size found walk rest_of entry_bytes tail_of malformed_in unsorted_in list_error target_of kept_relocations moved_relocations template_of
on_literals = tt

faultless : errors mixed_file ≡ []
unfolding on_literals
faultless = refl

-- ---- numbers

segment_fits : (kind flags at size align : ℕ) → kind < 2 ^ 32 → flags < 2 ^ 32 → at < 2 ^ 64 → size < 2 ^ 64 → align < 2 ^ 64 → SegmentNumbers (record { kind = kind; flags = flags; offset = at; address = at; physical = at; file_size = size; mem_size = size; align = align })
segment_fits kind flags at size align a b c d e = record { kind = a; flags = b; offset = c; address = c; physical = c; file_size = d; mem_size = d; align = e }

segments_fit : All SegmentNumbers mixed_segments
segments_fit = All-from_recursion SegmentNumbers mixed_segments (
  segment_fits _ _ _ _ _ (omega arith) (omega arith) (omega arith) (omega arith) (omega arith),
  (segment_fits _ _ _ _ _ (omega arith) (omega arith) (omega arith) (omega arith) (omega arith), (segment_fits _ _ _ _ _ (omega arith) (omega arith) (omega arith) (omega arith) (omega arith), tt)),
)

section_fits : (name : List ℕ) (kind flags address offset size align : ℕ) → kind < 2 ^ 32 → flags < 2 ^ 64 → address < 2 ^ 64 → offset < 2 ^ 64 → size < 2 ^ 64 → align < 2 ^ 64 → SectionNumbers (section_with name kind flags address offset size align)
section_fits name kind flags address offset size align a b c d e f = record {
  places = record { kind = a; flags = b; address = c; offset = d; size = e };
  links = record { link = omega arith; info = omega arith; align = f; entsize = omega arith };
}

sections_fit : All SectionNumbers mixed_sections
sections_fit = All-from_recursion SectionNumbers mixed_sections (section_fits _ _ _ _ _ _ _ (omega arith) (omega arith) (omega arith) (omega arith) (omega arith) (omega arith), (section_fits _ _ _ _ _ _ _ (omega arith) (omega arith) (omega arith) (omega arith) (omega arith) (omega arith), (section_fits _ _ _ _ _ _ _ (omega arith) (omega arith) (omega arith) (omega arith) (omega arith) (omega arith), (section_fits _ _ _ _ _ _ _ (omega arith) (omega arith) (omega arith) (omega arith) (omega arith) (omega arith), (section_fits _ _ _ _ _ _ _ (omega arith) (omega arith) (omega arith) (omega arith) (omega arith) (omega arith), (section_fits _ _ _ _ _ _ _ (omega arith) (omega arith) (omega arith) (omega arith) (omega arith) (omega arith), (section_fits _ _ _ _ _ _ _ (omega arith) (omega arith) (omega arith) (omega arith) (omega arith) (omega arith), (section_fits _ _ _ _ _ _ _ (omega arith) (omega arith) (omega arith) (omega arith) (omega arith) (omega arith), (section_fits _ _ _ _ _ _ _ (omega arith) (omega arith) (omega arith) (omega arith) (omega arith) (omega arith), (section_fits _ _ _ _ _ _ _ (omega arith) (omega arith) (omega arith) (omega arith) (omega arith) (omega arith), (section_fits _ _ _ _ _ _ _ (omega arith) (omega arith) (omega arith) (omega arith) (omega arith) (omega arith), (section_fits _ _ _ _ _ _ _ (omega arith) (omega arith) (omega arith) (omega arith) (omega arith) (omega arith), (section_fits _ _ _ _ _ _ _ (omega arith) (omega arith) (omega arith) (omega arith) (omega arith) (omega arith), tt)))))))))))))

some_is : {X : Type 0} (x y : X) → Some x ≡ Some y → x ≡ y
some_is x y h = cc

-- a symbol with a slot, and one without
slot_fits : (raw flags slot : ℕ) → raw < 2 ^ 64 → slot < 2 ^ 64 → ResolutionNumbers (record { raw_value = raw; flags = record { 0 = flags }; dynamic_symbol_index = None; got_address = Some slot; plt_address = None })
slot_fits raw flags slot a b = record { value = a; slots = λ n h. (let same : slot ≡ n = some_is slot n h in omega (arith, same, b)); stub = λ n h. absurd cc }

plain_fits : (raw flags : ℕ) → raw < 2 ^ 64 → ResolutionNumbers (record { raw_value = raw; flags = record { 0 = flags }; dynamic_symbol_index = None; got_address = None; plt_address = None })
plain_fits raw flags a = record { value = a; slots = λ n h. absurd cc; stub = λ n h. absurd cc }

resolver_fits : SymbolNumbers resolver
resolver_fits r is = subst ResolutionNumbers (some_is _ r is) (slot_fits 326 44 376 (omega arith) (omega arith))

thread_fits : SymbolNumbers thread
thread_fits r is = subst ResolutionNumbers (some_is _ r is) (slot_fits 368 136 384 (omega arith) (omega arith))

string_fits : SymbolNumbers string_section
string_fits r is = absurd (let both : None ≡ Some r = is in cc)

function_fits : SymbolNumbers function
function_fits r is = subst ResolutionNumbers (some_is _ r is) (plain_fits 325 8 (omega arith))

abbrev fits : DynamicEntry → Bool
fits d = nat_lt d.tag (2 ^ 64) && nat_lt d.value (2 ^ 64)

entry_fits : (d : DynamicEntry) → fits d ≡ true → DynamicEntryFits d
entry_fits d h = let p = and_parts (nat_lt d.tag (2 ^ 64)) (nat_lt d.value (2 ^ 64)) h in record { tag = ltb-true _ _ p.0; value = ltb-true _ _ p.1 }

entries_fit : (ds : List DynamicEntry) → list_all fits ds ≡ true → All DynamicEntryFits ds
entries_fit ds h = All-weaker (λ (d : DynamicEntry). fits d ≡ true) DynamicEntryFits entry_fits ds (All-from_list_all fits ds h)

bytes_fit : (bs : List ℕ) → list_all (λ (b : ℕ). nat_lt b (2 ^ 8)) bs ≡ true → All (λ (b : ℕ). b < 2 ^ 8) bs
bytes_fit bs h = All-weaker (λ (b : ℕ). nat_lt b (2 ^ 8) ≡ true) (λ (b : ℕ). b < 2 ^ 8) (λ b t. ltb-true b (2 ^ 8) t) bs (All-from_list_all (λ (b : ℕ). nat_lt b (2 ^ 8)) bs h)

code_fits : InputNumbers code
code_fits = record { bytes = bytes_fit code.bytes refl; addends = All-from_recursion AddendFits (slot_call ∷ offset_load ∷ []) (fits_signed_from_abs w64 (negsuc 3) (omega arith), (fits_signed_from_abs w64 (negsuc 3) (omega arith), tt)) }

thread_data_fits : InputNumbers thread_data
thread_data_fits = record { bytes = bytes_fit thread_data.bytes refl; addends = All-nil AddendFits }

strings_fit : InputNumbers strings
strings_fit = record { bytes = bytes_fit strings.bytes refl; addends = All-nil AddendFits }

sorted_fits : InputNumbers sorted
sorted_fits = record { bytes = bytes_fit sorted.bytes refl; addends = All-from_recursion AddendFits (string_address ∷ []) (fits_signed_from_abs w64 (pos 1) (omega arith), tt) }

frames_fit : InputNumbers frames
frames_fit = record { bytes = bytes_fit frames.bytes refl; addends = All-from_recursion AddendFits (function_distance ∷ []) (fits_signed_from_abs w64 (pos 0) (omega arith), tt) }

abbrev FileFits : File → Type 0
FileFits f = All InputNumbers f.sections

abbrev GroupFits : Group → Type 0
GroupFits g = All FileFits g.files

inputs_fit : InputsFit (mixed_group ∷ [])
inputs_fit =
    let object = All-from_recursion InputNumbers mixed_inputs (code_fits, (thread_data_fits, (strings_fit, (sorted_fits, (frames_fit, tt))))) in
    All-from_recursion GroupFits (mixed_group ∷ []) (All-from_recursion FileFits mixed_files (All-nil InputNumbers, (object, (All-nil InputNumbers, tt))), tt)

zero_fits : (n : ℕ) → n ≡ 0 → n < 2 ^ 64
zero_fits n e = omega (arith, e)

numbers : NumbersFit mixed_file
unfolding errors_on_literals mixed_file
numbers = record {
  page = omega arith;
  segments = segments_fit;
  sections = sections_fit;
  symbols = All-from_recursion SymbolNumbers mixed_symbols (resolver_fits, (thread_fits, (string_fits, (function_fits, tt))));
  entry = zero_fits (entry_address mixed_file) refl;
  got = omega arith;
  tls = record { start = omega arith; end = omega arith; align = omega arith };
  dynamic = entries_fit (dynamic_entries mixed_file) refl;
  starts = All-from_recursion (λ (g : Group). g.dynstr_start < 2 ^ 64) (mixed_group ∷ []) (omega arith, tt);
  sysv = λ h is. cc is;
  gnu = λ h is. cc is;
  inputs = inputs_fit;
}

resolver_flags : HasItsFlags resolver
resolver_flags r e = ap (λ (x : Resolution). x.flags) (sym (some_is _ r e))

thread_flags : HasItsFlags thread
thread_flags r e = ap (λ (x : Resolution). x.flags) (sym (some_is _ r e))

string_flags : HasItsFlags string_section
string_flags r e = absurd (let both : None ≡ Some r = e in cc)

function_flags : HasItsFlags function
function_flags r e = ap (λ (x : Resolution). x.flags) (sym (some_is _ r e))

flags : HaveTheirFlags mixed_file
unfolding mixed_file
flags = All-from_recursion HasItsFlags mixed_symbols (resolver_flags, (thread_flags, (string_flags, (function_flags, tt))))

-- ---- the world

consistent : IsConsistent mixed_file
unfolding mixed_file
consistent = record {
  faultless = faultless;
  numbers = numbers;
  sizes = All-from_recursion (λ (s : Symbol). s.size < 2 ^ 64) mixed_symbols (omega arith, (omega arith, (omega arith, (omega arith, tt))));
}

-- no symbol is another module's
others : OtherModule
others = record { address = λ i. 0; offset = λ i. 0; size = λ i. 0; distance = pos 0; own = pos 0 }

numbers_of : AreNumbers others
unfolding others
numbers_of = record { address = λ i. omega arith; offset = λ i. omega arith; size = λ i. omega arith; distance = omega arith; own = omega arith }

roomy : HasRoomAbove mixed_file 0x10000
unfolding mixed_file
roomy = record { aligned = refl; ends = All-from_recursion (λ (g : Segment). 0x10000 + g.address + g.mem_size ≤ 2 ^ 64) mixed_segments (omega arith, (omega arith, (omega arith, tt))) }

-- the resolver answers with the address of the other function
world : LayoutsAreLaidOut → HasWorld mixed_file 0x10000 (λ a. 0x10145) others
unfolding mixed_file
world laws = (worlds_there laws).elsewhere mixed_file 0x10000 (λ a. 0x10145) others (λ a. omega arith) numbers_of tt roomy consistent

-- ---- what it has

kept_there : kept_bytes mixed_file frames ≡ 28
unfolding on_literals
kept_there = refl

flag_of : (i : ℕ) (s : Symbol) (flag : ℕ) → slice_get mixed_file.symbols i ≡ Some s → s.definition ≡ None → has_flag s.flags flag ≡ true → HasFlag mixed_file i flag true
flag_of i s flag listed own flagged = record { definition = i; defined = record { symbol = s; listed = listed; defined = inr (own, refl) }; symbol = s; listed = listed; flagged = flagged }

many : HasManySorts mixed_file
unfolding mixed_file has_flag
many = record {
  resolver = 0;
  resolved = flag_of 0 resolver ifunc refl refl refl;
  thread = 1;
  slotted = flag_of 1 thread got_tls_offset refl refl refl;
  merged = merged_string;
  strings = (0, omega arith, refl);
  sorted = sorted;
  placed = record { group = mixed_group; grouped = (0, omega arith, refl); file = mixed_object; filed = (1, omega arith, refl); listed = (3, omega arith, refl) };
  order = refl;
  frames = frames;
  framed = record { group = mixed_group; grouped = (0, omega arith, refl); file = mixed_object; filed = (1, omega arith, refl); listed = (4, omega arith, refl) };
  frame = refl;
  kept = (let n = kept_there in omega (arith, n));
}

-- ---- the whole

linked : LayoutsAreLaidOut → ImagesAreSound → IsLinkedElsewhere mixed_file
unfolding mixed_file
linked laws sound =
    let w = world laws in
    let right = sound mixed_file numbers flags faultless (inr tt) in
    record {
      faultless = faultless;
      world = w.world;
      elsewhere = λ z. (let at = w.at in absurd (omega (arith, z, at)));
      legal = w.legal;
      described = right.0;
      linked = right.1 w.world w.legal;
    }

pub mixed_linked : LayoutsAreLaidOut → ImagesAreSound → IsMetWithMany machine.X86_64 (output.StaticExecutable model.Relocatable)
unfolding mixed_file
mixed_linked laws sound = (mixed_file, refl, refl, many, linked laws sound)
