-- The addresses that images of a space occupy, and the least address that two of them share.
--   extents_of base hs       the addresses of the segments to load, at a base
--   placed xs order          those of each image of the order
--   shared_lists es fs       the least number that is in both lists
--   least_in_two ess         the least number that is in two of the lists
--   check_disjoint found     nothing is shared; otherwise the fault has the address
use Rattle.std.specs.Prelude.{ℕ, ◌+◌, ◌^◌, Bool, not, ◌&&◌, ◌==◌, if◌then◌else◌, nat_lt, min, List, [], ◌∷◌, map, Option, Some, None, Result, Ok, Err}
use Rattle.wild_words.specs.declared.extents.Extent.{Extent}
use Rattle.wild_words.specs.Extents.{least, shared_among}
use Rattle.wild_records.specs.Abi.Segment.{pt_load}
use Rattle.wild_records.specs.declared.program_header.ProgramHeader.{ProgramHeader}
use Rattle.wild_hashes.specs.declared.tables.ImageTables.{ImageTables}
use Rattle.wild_hashes.specs.ImageTables.{headers_of}
use Rattle.wild_space.specs.declared.fault.BindFault.{BindFault}
use Rattle.wild_space.specs.declared.fault.BindFault.TheVariants as faults
use Rattle.wild_space.specs.declared.image.NamedImage.{NamedImage}
use Rattle.wild_space.specs.Order.{bytes_at, tables_of}
use Rattle.wild_space.specs.Binds.{base_of}

-- the addresses of a segment, as far as they are below 2^64
abbrev pub extent_of : ℕ → ProgramHeader → Extent
extent_of base h = record { start = base + h.address; end = min (base + h.address + h.mem_size) (2 ^ 64) }

-- the segment is loaded, and has an address below 2^64
abbrev pub has_addresses : ℕ → ProgramHeader → Bool
has_addresses base h = h.kind == pt_load && not (h.mem_size == 0) && nat_lt (base + h.address) (2 ^ 64)

-- the addresses of the segments to load, at a base (gABI, "Program Header")
unfoldable pub extents_of : ℕ → List ProgramHeader → List Extent
extents_of base [] = []
extents_of base (h ∷ hs) = if has_addresses base h then extent_of base h ∷ extents_of base hs else extents_of base hs

abbrev pub extents_by : List NamedImage → ℕ → Result ImageTables BindFault → List Extent
extents_by xs i (Err e) = []
extents_by xs i (Ok t) = extents_of (base_of xs i) (headers_of (bytes_at xs i) t.headers)

-- the addresses of image i
unfoldable pub extents_in : List NamedImage → ℕ → List Extent
extents_in xs i = extents_by xs i (tables_of xs i)

-- the addresses of each image of the order
abbrev pub placed : List NamedImage → List ℕ → List (List Extent)
placed xs order = map (λ (i : ℕ). extents_in xs i) order

-- the least number that is in both lists
abbrev pub shared_lists : List Extent → List Extent → Option ℕ
shared_lists [] fs = None
shared_lists (e ∷ es) fs = least (shared_among e fs) (shared_lists es fs)

-- the least number that a list shares with one of others
abbrev pub shared_with : List Extent → List (List Extent) → Option ℕ
shared_with es [] = None
shared_with es (fs ∷ fss) = least (shared_lists es fs) (shared_with es fss)

-- the least number that is in two of the lists; a list may have a number more than once
unfoldable pub least_in_two : List (List Extent) → Option ℕ
least_in_two [] = None
least_in_two (es ∷ ess) = least (shared_with es ess) (least_in_two ess)

-- nothing is shared; otherwise the fault has the address
abbrev pub check_disjoint : Option ℕ → Result (Unit {0}) BindFault
check_disjoint None = Ok tt
check_disjoint (Some a) = Err (faults.Overlap a)
