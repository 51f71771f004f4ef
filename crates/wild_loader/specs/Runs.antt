-- Consecutive bytes at addresses, and writing such bytes over others.
--   shared_address r s          the lowest address that both contain
--   least_shared runs   the lowest address that two of them contain
--   check_no_overlap found nothing is shared; otherwise the fault has the address
--   overlay_runs parts runs the parts written over the runs, in order
--   read_bytes m a n    the n bytes from an address on, or the first of these addresses that is not loaded
use Rattle.std.specs.Prelude.{ℕ, zero, suc, ◌+◌, ◌-◌, ◌%◌, ◌^◌, Bool, ◌&&◌, if◌then◌else◌, nat_lt, nat_le, List, [], ◌∷◌, length, map, Option, Some, None, Result, Ok, Err, slice_set}
use Rattle.wild_words.specs.declared.extents.Extent.{Extent}
use Rattle.wild_words.specs.Extents.{shared_extents, least_extent}
use Rattle.wild_loader.specs.declared.fault.LoadFault.{LoadFault}
use Rattle.wild_loader.specs.declared.fault.LoadFault.TheVariants as faults
use Rattle.wild_loader.specs.declared.memory.Memory.{Memory}
use Rattle.wild_loader.specs.declared.memory.Run.{Run}
use Rattle.wild_loader.specs.Outcome.{◌>>=◌, known}
use Rattle.wild_loader.specs.Memory.{byte_in}

-- the start and the end of a run
abbrev pub extent_of : Run → Extent
extent_of r = record { start = r.start; end = r.start + length r.bytes }

-- the lowest address that both runs contain
abbrev pub shared_address : Run → Run → Option ℕ
shared_address r s = shared_extents (extent_of r) (extent_of s)

-- the lowest address that two of the runs contain
abbrev pub least_shared : List Run → Option ℕ
least_shared runs = least_extent (map extent_of runs)

-- no address is shared; otherwise the fault is Overlap
abbrev pub check_no_overlap : Option ℕ → Result (Unit {0}) LoadFault
check_no_overlap None = Ok tt
check_no_overlap (Some a) = Err (faults.Overlap a)

-- the run has a byte at an address
abbrev pub has_address : Run → ℕ → Bool
has_address r a = nat_le r.start a && nat_lt (a - r.start) (length r.bytes)

-- the run with another byte at an address
abbrev pub with_byte : ℕ → ℕ → Run → Run
with_byte a b r = record { start = r.start; bytes = slice_set r.bytes (a - r.start) b }

-- a byte written at an address, in the first run that contains it
unfoldable pub put_byte : ℕ → ℕ → List Run → List Run
put_byte a b [] = []
put_byte a b (r ∷ rs) = if has_address r a then with_byte a b r ∷ rs else r ∷ put_byte a b rs

-- bytes written from an address on
unfoldable pub put_bytes : ℕ → List ℕ → List Run → List Run
put_bytes a [] runs = runs
put_bytes a (b ∷ bs) runs = put_bytes (a + 1) bs (put_byte a b runs)

-- the parts written over the runs, in order
unfoldable pub overlay_runs : List Run → List Run → List Run
overlay_runs [] runs = runs
overlay_runs (p ∷ ps) runs = overlay_runs ps (put_bytes p.start p.bytes runs)

-- the n bytes from an address on, or the first of these addresses that is not loaded
unfoldable pub read_bytes : Memory → ℕ → ℕ → Result (List ℕ) LoadFault
read_bytes m a zero = Ok []
read_bytes m a (suc n) = known (byte_in m a) (faults.Unloaded (a % 2 ^ 64)) >>= λ b. read_bytes m (a + 1) n >>= λ bs. Ok (b ∷ bs)
