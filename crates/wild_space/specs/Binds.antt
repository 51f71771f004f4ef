-- The definition that each dynamic symbol is bound to, and the dynamic linker's answer for it.
--   image_at xs order n                the image at a place of the order
--   first_definition xs n js name      the first definition of a name among images, of which the first has place n of the order
--   bind xs order n k                  the definition of dynamic symbol k of the image at place n; none of a weak symbol without one
--   answer_of xs order rs d            the answer for a definition
--   source_of xs order copies n k      the definition whose bytes a copied symbol gets
--   symbols_of xs order rs copies n    all binds and answers of the image at place n
--   world_of xs order rs n answers     the world in which the image at place n is loaded
use Rattle.std.specs.Prelude.{ℕ, ℤ, pos, ◌+◌, ◌-◌, ◌/◌, ◌%◌, ◌^◌, ◌==◌, Bool, not, ◌&&◌, if◌then◌else◌, List, [], ◌∷◌, ◌++◌, drop, Option, Some, None, Result, Ok, Err, slice_get, get_or}
use Rattle.wild_records.specs.Abi.Section.{shn_undef, shn_abs}
use Rattle.wild_records.specs.Abi.Symbol.{stb_weak, stt_tls, stt_gnu_ifunc, stv_default}
use Rattle.wild_records.specs.declared.symtab_entry.SymtabEntry.{SymtabEntry}
use Rattle.wild_loader.specs.declared.world.Answer.{Answer}
use Rattle.wild_loader.specs.declared.world.World.{World}
use Rattle.wild_loader.specs.Changes.{first_value}
use Rattle.wild_hashes.specs.ImageTables.{symbol_at}
use Rattle.wild_imports.specs.Imports.{thread_start, name_of, find_definition}
use Rattle.wild_imports.specs.SymbolCount.{symbol_count}
use Rattle.wild_space.specs.declared.binds.Definition.{Definition}
use Rattle.wild_space.specs.declared.fault.BindFault.{BindFault}
use Rattle.wild_space.specs.declared.fault.BindFault.TheVariants as faults
use Rattle.wild_space.specs.declared.image.NamedImage.{NamedImage}
use Rattle.wild_space.specs.declared.symbols.Source.{Source}
use Rattle.wild_space.specs.declared.symbols.Symbols.{Symbols}
use Rattle.wild_space.specs.Given.{◌>>=◌, known, look, steps}
use Rattle.wild_space.specs.Order.{bytes_at, tables_of, has}

-- the place in the input of the image at place n of the order
abbrev pub place_of : List ℕ → ℕ → ℕ
place_of order n = get_or order n 0

-- ---- what is read of image i of the input

-- its dynamic symbol k
unfoldable pub symbol_of : List NamedImage → ℕ → ℕ → Result SymtabEntry BindFault
symbol_of xs i k = tables_of xs i >>= λ t. look i (symbol_at (bytes_at xs i) t k)

-- the name of one of its dynamic symbols
unfoldable pub name_in : List NamedImage → ℕ → SymtabEntry → Result (List ℕ) BindFault
name_in xs i e = tables_of xs i >>= λ t. look i (name_of (bytes_at xs i) t e)

-- its definition of a name
unfoldable pub find_in : List NamedImage → ℕ → List ℕ → Result (Option ℕ) BindFault
find_in xs i name = tables_of xs i >>= λ t. look i (find_definition (bytes_at xs i) t name)

-- the number of its dynamic symbols
unfoldable pub count_of : List NamedImage → ℕ → Result ℕ BindFault
count_of xs i = tables_of xs i >>= λ t. look i (symbol_count (bytes_at xs i) t)

-- the address of its thread-local data
unfoldable pub thread_start_of : List NamedImage → ℕ → Result ℕ BindFault
thread_start_of xs i = tables_of xs i >>= λ t. Ok (thread_start (bytes_at xs i) t)

abbrev pub base_of_image : Option NamedImage → ℕ
base_of_image None = 0
base_of_image (Some x) = x.base

-- its base
abbrev pub base_of : List NamedImage → ℕ → ℕ
base_of xs i = base_of_image (slice_get xs i)

abbrev pub distance_of_image : Option NamedImage → ℤ
distance_of_image None = pos 0
distance_of_image (Some x) = x.distance

-- the distance of its thread-local data from the thread pointer
abbrev pub distance_of : List NamedImage → ℕ → ℤ
distance_of xs i = distance_of_image (slice_get xs i)

-- ---- definitions

-- the definition that the image at place n has, or else the first one of those after it
abbrev pub definition_or : ℕ → Option ℕ → Result (Option Definition) BindFault → Result (Option Definition) BindFault
definition_or n None rest = rest
definition_or n (Some k) rest = Ok (Some (record { image = n; index = k }))

-- the first definition of a name among images, of which the first has place n of the order (gABI, "Dynamic Section", DT_SYMBOLIC)
unfoldable pub first_definition : List NamedImage → ℕ → List ℕ → List ℕ → Result (Option Definition) BindFault
first_definition xs n [] name = Ok None
first_definition xs n (j ∷ js) name = find_in xs j name >>= λ found. definition_or n found (first_definition xs (n + 1) js name)

-- ---- binds

-- the symbol is defined, and no other definition replaces it: its visibility is not the default (gABI, "Symbol Visibility")
abbrev pub is_own : SymtabEntry → Bool
is_own e = not (e.section == shn_undef) && not (e.other % 4 == stv_default)

abbrev pub is_weak : SymtabEntry → Bool
is_weak e = e.info / 16 == stb_weak

-- the first definition of the name of a symbol of image i, among images of which the first has place n of the order
unfoldable pub definition_of_name : List NamedImage → ℕ → SymtabEntry → ℕ → List ℕ → Result (Option Definition) BindFault
definition_of_name xs i e n js = name_in xs i e >>= λ name. first_definition xs n js name

-- a definition; a weak symbol may have none
abbrev pub demanded : ℕ → ℕ → SymtabEntry → Option Definition → Result (Option Definition) BindFault
demanded i k e None = if is_weak e then Ok None else Err (faults.Undefined i k)
demanded i k e (Some d) = Ok (Some d)

abbrev pub bind_entry : List NamedImage → List ℕ → ℕ → ℕ → SymtabEntry → Result (Option Definition) BindFault
bind_entry xs order n k e =
    if is_own e then Ok (Some (record { image = n; index = k }))
    else (definition_of_name xs (place_of order n) e 0 order >>= λ d. demanded (place_of order n) k e d)

-- the definition of dynamic symbol k of the image at place n
unfoldable pub bind : List NamedImage → List ℕ → ℕ → ℕ → Result (Option Definition) BindFault
bind xs order n k = symbol_of xs (place_of order n) k >>= λ e. bind_entry xs order n k e

-- ---- answers

-- the address of a symbol in an image with a base b and thread-local data from T on: absolute symbols do not move; an ifunc has the answer
-- of its resolver; the value of thread-local data counts from T
unfoldable pub address_of : List (ℕ × ℕ) → ℕ → ℕ → SymtabEntry → Result ℕ BindFault
address_of rs b T e =
    if e.section == shn_abs then Ok e.value
    else if e.info % 16 == stt_gnu_ifunc then known (first_value rs ((b + e.value) % 2 ^ 64)) (faults.NoAnswer ((b + e.value) % 2 ^ 64))
    else if e.info % 16 == stt_tls then Ok ((b + e.value + T) % 2 ^ 64)
    else Ok ((b + e.value) % 2 ^ 64)

-- the offset of a symbol in the thread-local data of its image
abbrev pub offset_of : ℕ → SymtabEntry → ℕ
offset_of T e = if e.info % 16 == stt_tls && not (e.section == shn_abs) then e.value else (e.value + (2 ^ 64 - T)) % 2 ^ 64

abbrev pub answer_with : List NamedImage → List ℕ → List (ℕ × ℕ) → ℕ → ℕ → SymtabEntry → Result Answer BindFault
answer_with xs order rs n T e =
    address_of rs (base_of xs (place_of order n)) T e >>= λ a.
    Ok (record { address = a; «module» = n + 1; offset = offset_of T e; size = e.size; bytes = [] })

-- the answer for a definition, without bytes
unfoldable pub answer_of : List NamedImage → List ℕ → List (ℕ × ℕ) → Definition → Result Answer BindFault
answer_of xs order rs d =
    symbol_of xs (place_of order d.image) d.index >>= λ e. thread_start_of xs (place_of order d.image) >>= λ T. answer_with xs order rs d.image T e

-- the answer for a symbol without a definition, and for the null symbol
abbrev pub no_answer : Answer
no_answer = record { address = 0; «module» = 0; offset = 0; size = 0; bytes = [] }

abbrev pub answer_for : List NamedImage → List ℕ → List (ℕ × ℕ) → Option Definition → Result Answer BindFault
answer_for xs order rs None = Ok no_answer
answer_for xs order rs (Some d) = answer_of xs order rs d

-- ---- copies

-- the definition whose bytes symbol k of image 0 gets: the first one in a later image
unfoldable pub later_definition : List NamedImage → List ℕ → ℕ → Result Definition BindFault
later_definition xs order k =
    symbol_of xs (place_of order 0) k
    >>= λ e. definition_of_name xs (place_of order 0) e 1 (drop 1 order)
    >>= λ d. known d (faults.Undefined (place_of order 0) k)

-- the bytes that a copied symbol gets: those of a definition, from its address on
unfoldable pub source_at : List NamedImage → List ℕ → List (ℕ × ℕ) → ℕ → Result Source BindFault
source_at xs order rs k = later_definition xs order k >>= λ d. answer_of xs order rs d >>= λ a. Ok (record { image = d.image; address = a.address; size = a.size })

-- only copied symbols have a source
abbrev pub source_of : List NamedImage → List ℕ → List (ℕ × ℕ) → List ℕ → ℕ → Result (Option Source) BindFault
source_of xs order rs copies k = if has copies k then (source_at xs order rs k >>= λ s. Ok (Some s)) else Ok None

-- ---- the symbols of an image

-- the null symbol
abbrev pub null_alone : Symbols
null_alone = record { binds = []; answers = no_answer ∷ []; sources = None ∷ [] }

-- the symbols so far, with symbol k of the image at place n
unfoldable pub with_symbol : List NamedImage → List ℕ → List (ℕ × ℕ) → List ℕ → ℕ → ℕ → Symbols → Result Symbols BindFault
with_symbol xs order rs copies n k s =
    bind xs order n k
    >>= λ d. answer_for xs order rs d
    >>= λ a. source_of xs order rs copies k
    >>= λ c. Ok (record { binds = s.binds ++ d ∷ []; answers = s.answers ++ a ∷ []; sources = s.sources ++ c ∷ [] })

-- the binds and answers of the image at place n, whose symbols with indexes in copies are copied
unfoldable pub symbols_of : List NamedImage → List ℕ → List (ℕ × ℕ) → List ℕ → ℕ → Result Symbols BindFault
symbols_of xs order rs copies n = count_of xs (place_of order n) >>= λ count. steps (with_symbol xs order rs copies n) (count - 1) 1 null_alone

-- ---- worlds

-- the modules of images, of which the first has place n of the order
unfoldable pub modules_from : List NamedImage → ℕ → List ℕ → List (ℕ × ℤ)
modules_from xs n [] = []
modules_from xs n (j ∷ js) = (n + 1, distance_of xs j) ∷ modules_from xs (n + 1) js

-- module 0, which stands for a symbol without a definition, and those of all images
abbrev pub modules_of : List NamedImage → List ℕ → List (ℕ × ℤ)
modules_of xs order = (0, pos 0) ∷ modules_from xs 0 order

-- the world in which the image at place n is loaded
unfoldable pub world_of : List NamedImage → List ℕ → List (ℕ × ℕ) → ℕ → List Answer → World
world_of xs order rs n answers = record { base = base_of xs (place_of order n); symbols = answers; resolvers = rs; modules = modules_of xs order; own_module = n + 1 }
