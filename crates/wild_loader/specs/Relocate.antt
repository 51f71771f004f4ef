-- The tables of an image applied to the bytes of its segments.
--   rela_patch w m r          the change of an entry with an addend
--   place_patch w m place     the change at a place of the packed relative relocations
--   memory_with_patches m ps              memory with these changes
--   relocate w m t            memory with the changes of all entries; no two may share a byte
use Rattle.std.specs.Prelude.{ℕ, ◌+◌, ◌%◌, ◌^◌, List, [], ◌∷◌, ◌++◌, map, Option, Some, None, Result, Ok}
use Rattle.wild_records.specs.declared.relocations.Rela.{Rela}
use Rattle.wild_loader.specs.declared.fault.LoadFault.{LoadFault}
use Rattle.wild_loader.specs.declared.fault.LoadFault.TheVariants as faults
use Rattle.wild_loader.specs.declared.memory.Run.{Run}
use Rattle.wild_loader.specs.declared.memory.Memory.{Memory}
use Rattle.wild_loader.specs.declared.world.World.{World}
use Rattle.wild_loader.specs.declared.change.Change.TheVariants as changes
use Rattle.wild_loader.specs.declared.change.Patch.{Patch}
use Rattle.wild_loader.specs.declared.tables.Tables.{Tables}
use Rattle.wild_loader.specs.Outcome.{◌>>=◌, known}
use Rattle.wild_loader.specs.Runs.{least_shared, check_no_overlap, overlay_runs}
use Rattle.wild_loader.specs.Places.{places}
use Rattle.wild_loader.specs.Changes.{kind_of, change_of, patch_at}

-- an address of the image in memory
abbrev pub loaded_at : World → ℕ → ℕ
loaded_at w address = (w.base + address) % 2 ^ 64

-- the change of an entry with an addend
unfoldable pub rela_patch : World → Memory → Rela → Result Patch LoadFault
rela_patch w m r = known (kind_of m.machine r.number) (faults.UnknownDynamic r.number) >>= λ kind. change_of w kind r >>= λ c. patch_at m (loaded_at w r.offset) c

-- the change at a place of the packed relative relocations: adds the base to the word there
unfoldable pub place_patch : World → Memory → ℕ → Result Patch LoadFault
place_patch w m place = patch_at m (loaded_at w place) (changes.Add w.base)

-- the changes, followed by one for each item of a list, or the first fault; changes may be of any type
unfoldable pub add_all : {X P : Type 0} → (X → Result P LoadFault) → List X → List P → Result (List P) LoadFault
add_all make [] changes = Ok changes
add_all make (x ∷ xs) changes = make x >>= λ p. add_all make xs (changes ++ p ∷ [])

-- the changes, followed by those of entries
abbrev pub add_relas : World → Memory → List Rela → List Patch → Result (List Patch) LoadFault
add_relas w m rs patches = add_all (rela_patch w m) rs patches

-- the changes, followed by those at places
abbrev pub add_places : World → Memory → List ℕ → List Patch → Result (List Patch) LoadFault
add_places w m xs patches = add_all (place_patch w m) xs patches

-- the bytes of changes
abbrev pub runs_of_patches : List Patch → List Run
runs_of_patches ps = map (λ p. p.run) ps

-- the changes, if no two of them share a byte; otherwise Overlap
unfoldable pub apart : List Patch → Result (List Patch) LoadFault
apart ps = check_no_overlap (least_shared (runs_of_patches ps)) >>= λ none. Ok ps

-- the pair that a change notes
abbrev pub note : ℕ → Option ℕ → List (ℕ × ℕ)
note place None = []
note place (Some offset) = (place, offset) ∷ []

-- the pairs that changes note, in order
unfoldable pub notes : List Patch → List (ℕ × ℕ)
notes [] = []
notes (p ∷ ps) = note p.run.start p.offset ++ notes ps

-- memory with these changes
abbrev pub memory_with_patches : Memory → List Patch → Memory
memory_with_patches m ps = record { machine = m.machine; runs = overlay_runs (runs_of_patches ps) m.runs; descriptors = notes ps }

-- the changes, followed by one for each item of a list; no two may share a byte
abbrev pub add_without_overlap : {X : Type 0} → (X → Result Patch LoadFault) → List X → List Patch → Result (List Patch) LoadFault
add_without_overlap make xs patches = add_all make xs patches >>= λ more. apart more

-- memory with the changes of all entries: the packed ones, then the tables in order
unfoldable pub relocate : World → Memory → Tables → Result Memory LoadFault
relocate w m t =
    add_without_overlap (place_patch w m) (places t.words) []
    >>= λ a. add_without_overlap (rela_patch w m) t.entries a
    >>= λ b. add_without_overlap (rela_patch w m) t.jumps b
    >>= λ c. Ok (memory_with_patches m c)
