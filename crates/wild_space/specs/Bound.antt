-- Images bound to each other: their order, their binds, the worlds in which they are loaded, and their memories.
--   copies_in xs i             the symbols of the COPY entries of image i
--   copies_of xs order         those of the first image of the order, if no later image has any
--   with_image_bound xs order rs n b   the binds and worlds so far, with those of the image at place n
--   memories xs js ws          the memories of images in their worlds; the last image is loaded first
--   with_copies order sources ms ks answers   the answers with the bytes of copied symbols
--   bound xs rs                images bound to each other
use Rattle.std.specs.Prelude.{ℕ, zero, suc, ◌+◌, ◌-◌, List, [], ◌∷◌, ◌++◌, length, drop, Option, Some, None, Result, Ok, Err, slice_get}
use Rattle.wild_loader.specs.declared.memory.Memory.{Memory}
use Rattle.wild_loader.specs.declared.world.Answer.{Answer}
use Rattle.wild_loader.specs.declared.world.World.{World}
use Rattle.wild_loader.specs.Load.{load as load_image, machine_and_tables}
use Rattle.wild_loader.specs.Runs.{read_bytes}
use Rattle.wild_imports.specs.Imports.{copied_symbols}
use Rattle.wild_space.specs.declared.binds.Definition.{Definition}
use Rattle.wild_space.specs.declared.fault.BindFault.{BindFault}
use Rattle.wild_space.specs.declared.fault.BindFault.TheVariants as faults
use Rattle.wild_space.specs.declared.image.NamedImage.{NamedImage}
use Rattle.wild_space.specs.declared.loading.Loaded.{Loaded}
use Rattle.wild_space.specs.declared.space.Bound.{Bound}
use Rattle.wild_space.specs.declared.worlds.Spaces.{Spaces}
use Rattle.wild_space.specs.declared.symbols.Source.{Source}
use Rattle.wild_space.specs.Given.{◌>>=◌, load, steps}
use Rattle.wild_space.specs.Order.{bytes_at, order_of}
use Rattle.wild_space.specs.Binds.{place_of, symbols_of, world_of}
use Rattle.wild_space.specs.Overlaps.{placed, least_in_two, check_disjoint}

-- ---- COPY entries

-- the symbols of the COPY entries of image i
unfoldable pub copies_in : List NamedImage → ℕ → Result (List ℕ) BindFault
copies_in xs i = load i (machine_and_tables (bytes_at xs i)) >>= λ read. Ok (copied_symbols read.0 read.1)

-- there are none; otherwise the fault has the first
abbrev pub no_copies : ℕ → List ℕ → Result (Unit {0}) BindFault
no_copies i [] = Ok tt
no_copies i (k ∷ ks) = Err (faults.CopyInLibrary i k)

-- no image has any
unfoldable pub none_copies : List NamedImage → List ℕ → Result (Unit {0}) BindFault
none_copies xs [] = Ok tt
none_copies xs (j ∷ js) = copies_in xs j >>= λ ks. no_copies j ks >>= λ none. none_copies xs js

-- those of the first image of the order, if no later image has any
unfoldable pub copies_of : List NamedImage → List ℕ → Result (List ℕ) BindFault
copies_of xs order = copies_in xs (place_of order 0) >>= λ ks. none_copies xs (drop 1 order) >>= λ none. Ok ks

-- ---- binds and worlds

-- the binds and worlds so far, with those of the image at place n, which copies nothing
unfoldable pub with_image_bound : List NamedImage → List ℕ → List (ℕ × ℕ) → ℕ → Spaces → Result Spaces BindFault
with_image_bound xs order rs n b =
    symbols_of xs order rs [] n >>= λ s. Ok (record { binds = b.binds ++ s.binds ∷ []; worlds = b.worlds ++ world_of xs order rs n s.answers ∷ [] })

-- those of the images after the first, with the binds of the first before them
abbrev pub later_spaces : List NamedImage → List ℕ → List (ℕ × ℕ) → List (Option Definition) → Result Spaces BindFault
later_spaces xs order rs binds = steps (with_image_bound xs order rs) (length order - 1) 1 (record { binds = binds ∷ []; worlds = [] })

-- ---- loading

-- the memory of image i in a world
abbrev pub memory_of_image : List NamedImage → ℕ → World → Result Memory BindFault
memory_of_image xs i w = load i (load_image w (bytes_at xs i))

-- the memories of images in their worlds; the last image is loaded first
unfoldable pub memories : List NamedImage → List ℕ → List World → Result (List Memory) BindFault
memories xs [] ws = Ok []
memories xs (j ∷ js) [] = Ok []
memories xs (j ∷ js) (w ∷ ws) = memories xs js ws >>= λ ms. memory_of_image xs j w >>= λ m. Ok (m ∷ ms)

-- the bytes of a source in the memory of its image; ms are the memories of the images after the first
abbrev pub bytes_in_image : ℕ → Source → Option Memory → Result (List ℕ) BindFault
bytes_in_image i s None = Ok []
bytes_in_image i s (Some m) = load i (read_bytes m s.address s.size)

unfoldable pub source_bytes : List ℕ → List Memory → Source → Result (List ℕ) BindFault
source_bytes order ms s = bytes_in_image (place_of order s.image) s (slice_get ms (s.image - 1))

-- the answers, with other bytes in the one at index k
unfoldable pub with_bytes : List Answer → ℕ → List ℕ → List Answer
with_bytes [] k bytes = []
with_bytes (a ∷ rest) zero bytes = record a { bytes = bytes } ∷ rest
with_bytes (a ∷ rest) (suc k) bytes = a ∷ with_bytes rest k bytes

-- the answers, with the bytes of the source of symbol k, if it has a source
abbrev pub with_copy : List ℕ → List Memory → ℕ → Option (Option Source) → List Answer → Result (List Answer) BindFault
with_copy order ms k (Some (Some s)) answers = source_bytes order ms s >>= λ bytes. Ok (with_bytes answers k bytes)
with_copy order ms k source answers = Ok answers

-- the answers, with the bytes of all copied symbols
unfoldable pub with_copies : List ℕ → List (Option Source) → List Memory → List ℕ → List Answer → Result (List Answer) BindFault
with_copies order sources ms [] answers = Ok answers
with_copies order sources ms (k ∷ ks) answers = with_copy order ms k (slice_get sources k) answers >>= λ more. with_copies order sources ms ks more

-- ---- the whole

-- the first image in its world, and the later ones
unfoldable pub loaded_with : List NamedImage → List ℕ → List (ℕ × ℕ) → List World → List Memory → List Answer → Result Loaded BindFault
loaded_with xs order rs worlds ms answers =
    memory_of_image xs (place_of order 0) (world_of xs order rs 0 answers) >>= λ m. Ok (record { worlds = world_of xs order rs 0 answers ∷ worlds; memories = m ∷ ms })

-- the images loaded, from the last to the first, where the first has these symbols, and the later ones are loaded in these worlds
unfoldable pub loaded : List NamedImage → List ℕ → List (ℕ × ℕ) → List ℕ → List Answer → List (Option Source) → List World → Result Loaded BindFault
loaded xs order rs copies answers sources worlds =
    memories xs (drop 1 order) worlds
    >>= λ ms. with_copies order sources ms copies answers
    >>= λ answered. loaded_with xs order rs worlds ms answered

-- images in an order bound to each other; no two may share an address
unfoldable pub bound_in : List NamedImage → List (ℕ × ℕ) → List ℕ → Result Bound BindFault
bound_in xs rs order =
    copies_of xs order
    >>= λ copies. symbols_of xs order rs copies 0
    >>= λ first. later_spaces xs order rs first.binds
    >>= λ later. check_disjoint (least_in_two (placed xs order))
    >>= λ disjoint. loaded xs order rs copies first.answers first.sources later.worlds
    >>= λ all. Ok (record { order = order; binds = later.binds; worlds = all.worlds; memories = all.memories })

-- images bound to each other
unfoldable pub bound : List NamedImage → List (ℕ × ℕ) → Result Bound BindFault
bound xs rs = order_of xs >>= λ order. bound_in xs rs order
