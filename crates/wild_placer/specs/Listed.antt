-- The runs of a memory, listed under their starts.
--   begins_at r q          the run has a byte, and begins at an address
--   any_begins rs q        one of the runs does
--   own_entry n i r q      the run as run i of placement n, if it begins at an address
--   listed_run n i rs q    the last run of a list that begins at an address, as a run of placement n; the list's runs count from i
--   with_runs n rs runs    the runs, with those of placement n; without_runs rs runs those that begin where none of a list does
use Rattle.std.specs.Prelude.{ℕ, ◌+◌, Bool, not, ◌&&◌, ◌==◌, if◌then◌else◌, List, [], ◌∷◌, length, Option, Some, None}
use Rattle.std.specs.List.{list_any}
use Rattle.wild_loader.specs.declared.memory.Run.{Run}
use Rattle.wild_placer.specs.declared.index.LoadedRun.{LoadedRun}
use Rattle.wild_placer.specs.Index.{Runs}

-- the run has a byte, and begins at an address
abbrev pub begins_at : Run → ℕ → Bool
begins_at r q = not (length r.bytes == 0) && r.start == q

-- one of the runs does
abbrev pub any_begins : List Run → ℕ → Bool
any_begins rs q = list_any (λ r. begins_at r q) rs

-- run i of placement n
abbrev pub entry_of : ℕ → ℕ → Run → LoadedRun
entry_of n i r = record { end = r.start + length r.bytes; number = n; index = i }

-- the same, if it begins at an address
abbrev pub own_entry : ℕ → ℕ → Run → ℕ → Option LoadedRun
own_entry n i r q = if begins_at r q then Some (entry_of n i r) else None

-- the value, or else another
abbrev pub or_else : {X : Type 0} → Option X → Option X → Option X
or_else None other = other
or_else (Some x) other = Some x

-- the last run of a list that begins at an address
unfoldable pub listed_run : ℕ → ℕ → List Run → ℕ → Option LoadedRun
listed_run n i [] q = None
listed_run n i (r ∷ rs) q = or_else (listed_run n (i + 1) rs q) (own_entry n i r q)

-- the runs, with those of a list as runs of placement n
abbrev pub with_runs : ℕ → List Run → Runs → Runs
with_runs n rs runs q = or_else (listed_run n 0 rs q) (runs q)

-- the runs that begin where none of a list does
abbrev pub without_runs : List Run → Runs → Runs
without_runs rs runs q = if any_begins rs q then None else runs q
