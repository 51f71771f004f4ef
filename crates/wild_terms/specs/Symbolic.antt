-- Symbolic loading: the steps of the loader at base 0, with terms in place of the numbers that a world determines.
--   terms_of o image     the memory of an image as terms, or the first fault
--   term_at s p n        the n bytes at an address as a term, if they are one in every world
--   known_byte s p       the byte at an address, if it is the same in every world
--   descriptor_at s p    the thread offset that is noted for the descriptor at an address
use Rattle.std.specs.Prelude.{◌≡◌, ℕ, zero, suc, ◌+◌, ◌*◌, ◌^◌, ◌≤◌, ◌==◌, ◌&&◌, Bool, if◌then◌else◌, nat_lt, nat_le, List, [], ◌∷◌, ◌++◌, map, Option, Some, None, is_some, option_map, option_and_then, Result, Ok, Err, AllPairs}
use Rattle.std.specs.List.{filter_map}
use Rattle.std.specs.List.Sorted.{IsPermutation}
use Rattle.wild_words.specs.Words.{number}
use Rattle.wild_words.specs.declared.extents.Extent.{Extent}
use Rattle.wild_words.specs.Extents.{least_extent}
use Rattle.wild_records.specs.Abi.Segment.{pt_load}
use Rattle.wild_records.specs.declared.program_header.ProgramHeader.{ProgramHeader}
use Rattle.wild_records.specs.declared.relocations.Rela.{Rela}
use Rattle.wild_loader.specs.declared.fault.LoadFault.{LoadFault}
use Rattle.wild_loader.specs.declared.fault.LoadFault.TheVariants as faults
use Rattle.wild_loader.specs.declared.image.Image.{Image}
use Rattle.wild_loader.specs.declared.memory.Memory.{Memory}
use Rattle.wild_loader.specs.declared.tables.Tables.{Tables}
use Rattle.wild_loader.specs.Outcome.{◌>>=◌, known, Fails}
use Rattle.wild_loader.specs.Headers.{header, program_headers}
use Rattle.wild_loader.specs.Load.{image_at}
use Rattle.wild_loader.specs.Memory.{memory_of, byte_in}
use Rattle.wild_loader.specs.Runs.{read_bytes, check_no_overlap}
use Rattle.wild_loader.specs.Places.{places}
use Rattle.wild_loader.specs.Changes.{kind_of}
use Rattle.wild_loader.specs.Relocate.{add_all}
use Rattle.wild_terms.specs.declared.term.Term.{Term}
use Rattle.wild_terms.specs.declared.outline.Outline.{Outline}
use Rattle.wild_terms.specs.declared.outline.TermChange.{TermChange}
use Rattle.wild_terms.specs.declared.outline.TermChange.TheVariants as changes
use Rattle.wild_terms.specs.declared.load.TermPatch.{TermPatch}
use Rattle.wild_terms.specs.Terms.{number_term}
use Rattle.wild_terms.specs.Outline.{based, change_terms}

-- ---- changes

-- the number of bytes that a change covers
abbrev pub width_of : TermChange → ℕ
width_of (changes.Word t) = 8
width_of (changes.Half t) = 4
width_of (changes.Descriptor t) = 16

-- n bytes from an address on are loaded; otherwise the fault has the first that is not
abbrev pub are_loaded : Memory → ℕ → ℕ → Result (Unit {0}) LoadFault
are_loaded m a n = read_bytes m a n >>= λ old. Ok tt

-- the number in n loaded bytes, lowest byte first
abbrev pub number_read : Memory → ℕ → ℕ → Result ℕ LoadFault
number_read m a n = read_bytes m a n >>= λ old. Ok (number old)

-- a change at an address, whose bytes are loaded
unfoldable pub patch_terms : Memory → ℕ → TermChange → Result TermPatch LoadFault
patch_terms m place c = read_bytes m place (width_of c) >>= λ old. Ok (record { place = place; change = c })

-- the change at a place of the packed relative relocations: the base plus the word there
unfoldable pub place_terms : Outline → Memory → ℕ → Result TermPatch LoadFault
place_terms o m place = read_bytes m place 8 >>= λ old. Ok (record { place = place; change = changes.Word (based o (number old)) })

-- the change of an entry with an addend
unfoldable pub rela_terms : Outline → Memory → Rela → Result TermPatch LoadFault
rela_terms o m r = known (kind_of m.machine r.number) (faults.UnknownDynamic r.number) >>= λ kind. change_terms o kind r >>= λ c. patch_terms m r.offset c

abbrev pub add_place_terms : Outline → Memory → List ℕ → List TermPatch → Result (List TermPatch) LoadFault
add_place_terms o m xs patches = add_all (place_terms o m) xs patches

abbrev pub add_rela_terms : Outline → Memory → List Rela → List TermPatch → Result (List TermPatch) LoadFault
add_rela_terms o m rs patches = add_all (rela_terms o m) rs patches

-- ---- no two changes share a byte

-- the bytes of a change
abbrev pub extent_of : TermPatch → Extent
extent_of p = record { start = p.place; end = p.place + width_of p.change }

-- the memory of a segment to load after its file bytes, if there is some (gABI, "Program Header", p_memsz)
abbrev pub tail_of : ProgramHeader → Option Extent
tail_of h = if h.kind == pt_load && nat_lt h.file_size h.mem_size && nat_lt (h.address + h.file_size) (2 ^ 64) then Some (record { start = h.address + h.file_size; end = h.address + h.mem_size }) else None

abbrev pub tails_of : List ProgramHeader → List Extent
tails_of hs = filter_map tail_of hs

unfoldable pub image_tails : List ℕ → Result (List Extent) LoadFault
image_tails image = header image >>= λ e. Ok (tails_of (program_headers image e.program_count e.program_offset))

-- the least byte that two changes share, or that is after the file bytes of a segment
abbrev pub shared_byte : List Extent → List TermPatch → Option ℕ
shared_byte tails ps = least_extent (tails ++ map extent_of ps)

-- no two changes share a byte, and none is after the file bytes of a segment; otherwise the fault has the least such byte
abbrev pub apart_terms : List Extent → List TermPatch → Result (Unit {0}) LoadFault
apart_terms tails ps = check_no_overlap (shared_byte tails ps)

-- no two changes share a byte
abbrev pub AreApart : List TermPatch → Type 0
AreApart ps = least_extent (map extent_of ps) ≡ None

-- ---- the whole

-- the changes of all entries: the packed ones, then the tables in order
unfoldable pub relocate_terms : Outline → Memory → List Extent → Tables → Result (List TermPatch) LoadFault
relocate_terms o m tails t =
    add_place_terms o m (places t.words) []
    >>= λ a. apart_terms tails a
    >>= λ first. add_rela_terms o m t.entries a
    >>= λ b. apart_terms tails b
    >>= λ second. add_rela_terms o m t.jumps b
    >>= λ c. apart_terms tails c
    >>= λ third. Ok c

-- the memory of an image as terms: the bytes of its segments at base 0, before any entry is applied, and the changes of its entries
pub record Symbolic : Type 0 where
  pub memory : Memory
  pub patches : List TermPatch

abbrev pub image_terms : Outline → List ℕ → Image → Result Symbolic LoadFault
image_terms o image i = image_tails image >>= λ tails. relocate_terms o (memory_of i.machine i.runs) tails i.tables >>= λ ps. Ok (record { memory = memory_of i.machine i.runs; patches = ps })

-- the memory of an image as terms, or the first fault
unfoldable pub terms_of : Outline → List ℕ → Result Symbolic LoadFault
terms_of o image = image_at 0 image >>= λ i. image_terms o image i

-- ---- order

-- each change ends at or before the place of a later one
pub record Ascend (ps : List TermPatch) : Type 0 where
  pub each : AllPairs (λ (p q : TermPatch). p.place + width_of p.change ≤ q.place) ps

-- symbolic memory with the changes in ascending order
pub record IsSorted (s t : Symbolic) : Type 0 where
  pub memory : t.memory ≡ s.memory
  pub patches : IsPermutation s.patches t.patches
  pub ascend : Ascend t.patches

-- the call answers what symbolic loading gives, with its changes in ascending order, unless it runs out of memory
abbrev pub IsLoadedBy : Result Symbolic LoadFault → Result Symbolic LoadFault → Type 0
IsLoadedBy read (Ok t) = (s : Symbolic) × (read ≡ Ok s) × IsSorted s t
IsLoadedBy read (Err e) = Fails e read

-- ---- reading

-- the change covers an address
abbrev pub covers : TermPatch → ℕ → Bool
covers p a = nat_le p.place a && nat_lt a (p.place + width_of p.change)

-- the first change that covers an address
abbrev pub patch_covering : List TermPatch → ℕ → Option TermPatch
patch_covering [] a = None
patch_covering (p ∷ ps) a = if covers p a then Some p else patch_covering ps a

-- the byte at an address, if it is the same in every world
abbrev pub known_byte : Symbolic → ℕ → Option ℕ
known_byte s a = if is_some (patch_covering s.patches a) then None else byte_in s.memory a

-- the number in the n bytes at an address, lowest byte first, if it is the same in every world
abbrev pub known_number : Symbolic → ℕ → ℕ → Option ℕ
known_number s a zero = Some 0
known_number s a (suc n) = option_and_then (λ b. option_map (λ rest. b + 256 * rest) (known_number s (a + 1) n)) (known_byte s a)

-- the term of which n bytes are the low bytes, where a change covers exactly these
abbrev pub whole_term : TermChange → ℕ → Option Term
whole_term (changes.Word t) n = if n == 8 then Some t else None
whole_term (changes.Half t) n = if n == 4 then Some t else None
whole_term (changes.Descriptor t) n = None

abbrev pub term_by : Symbolic → ℕ → ℕ → Option TermPatch → Option Term
term_by s a n None = option_map number_term (known_number s a n)
term_by s a n (Some p) = if p.place == a then whole_term p.change n else None

-- the n bytes at an address as a term: the bytes are the low bytes of its value in every world. None if no such term is known.
unfoldable pub term_at : Symbolic → ℕ → ℕ → Option Term
term_at s a n = term_by s a n (patch_covering s.patches a)

abbrev pub noted_term : TermChange → Option Term
noted_term (changes.Descriptor t) = Some t
noted_term c = None

abbrev pub descriptor_by : ℕ → Option TermPatch → Option Term
descriptor_by a None = None
descriptor_by a (Some p) = if p.place == a then noted_term p.change else None

-- the thread offset that is noted for the descriptor at an address
unfoldable pub descriptor_at : Symbolic → ℕ → Option Term
descriptor_at s a = descriptor_by a (patch_covering s.patches a)
