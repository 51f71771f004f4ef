-- Thread-local offsets as terms ("ELF Handling For Thread-Local Storage", "Run-Time Handling of TLS").
--   own_offset k f i d        symbol i's offset in the output's own thread-local data; d is its definition
--   own_thread_term k f i d   the same from the thread pointer
--   module_term, offset_term, thread_term   the module of symbol i, its offset there and from the thread pointer, whichever module
--                             defines it
--   pointer_term k f i        symbol i's offset from the thread pointer, where no other module may define it
--   relative_term k f i       its offset from the start of offsets in the own module
use Rattle.std.specs.Prelude.{ℕ, ◌+◌, ◌-◌, ◌%◌, ◌^◌, ◌==◌, ◌&&◌, ◌||◌, Bool, true, false, not, if◌then◌else◌, slice_get, Option, Some, None, option_map}
use Rattle.wild_types.specs.declared.file.File.{File}
use Rattle.wild_types.specs.declared.kind.Machine.{Machine}
use Rattle.wild_types.specs.declared.kind.Machine.TheVariants as machine
use Rattle.wild_types.specs.declared.kind.OutputKind.{OutputKind}
use Rattle.wild_types.specs.declared.symbol.Place.{Place}
use Rattle.wild_types.specs.declared.symbol.Place.TheVariants as at
use Rattle.wild_types.specs.declared.symbol.Symbol.{Symbol}
use Rattle.wild_types.specs.Kinds.{is_executable}
use Rattle.wild_types.specs.Lookups.{canonical}
use Rattle.wild_meaning.specs.Value.{may_be_replaced}
use Rattle.wild_terms.specs.declared.term.Term.{Term}
use Rattle.wild_terms.specs.Terms.{number_term, sum, difference}
use Rattle.wild_terms.specs.Outline.{own_module, own_distance, module_of, offset_of, thread_offset_of}
use Rattle.wild_checker.specs.Loaded.{Loaded}
use Rattle.wild_checker.specs.Symbols.{raw_in, index_of, known_answer}

-- ---- the output's own data

-- an address as an offset in the initial data
abbrev pub in_data : Loaded → ℕ → ℕ
in_data k a = (a + (2 ^ 64 - k.layout.tls.start)) % 2 ^ 64

abbrev pub own_offset : Loaded → File → ℕ → Symbol → Option ℕ
own_offset k f i d = option_map (in_data k) (raw_in k f i d.resolution)

abbrev pub own_thread_term : Loaded → File → ℕ → Symbol → Option Term
own_thread_term k f i d = option_map (sum (own_distance k.outline)) (own_offset k f i d)

-- ---- whichever module defines the symbol

abbrev pub module_term : Loaded → Symbol → Option Term
module_term k d = if may_be_replaced k.layout.kind d.flags then option_map (λ a. module_of k.outline a.index a.answer) (known_answer k.outline (index_of d.resolution)) else Some (own_module k.outline)

abbrev pub offset_term : Loaded → File → ℕ → Symbol → Option Term
offset_term k f i d = if may_be_replaced k.layout.kind d.flags then option_map (λ a. offset_of a.index a.answer) (known_answer k.outline (index_of d.resolution)) else option_map number_term (own_offset k f i d)

abbrev pub thread_term : Loaded → File → ℕ → Symbol → Option Term
thread_term k f i d = if may_be_replaced k.layout.kind d.flags then option_map (λ a. thread_offset_of k.outline a.index a.answer) (known_answer k.outline (index_of d.resolution)) else own_thread_term k f i d

-- ---- no other module may define the symbol

abbrev pub is_undefined : Place → Bool
is_undefined at.Undefined = true
is_undefined other = false

abbrev pub is_zero : Option ℕ → Bool
is_zero None = false
is_zero (Some a) = a == 0

-- an undefined symbol, or one at address 0, may have the offset 0
abbrev pub may_be_zero : Loaded → File → ℕ → Symbol → Bool
may_be_zero k f i d = not (may_be_replaced k.layout.kind d.flags) && (is_undefined d.place || is_zero (raw_in k f i d.resolution))

abbrev pub pointer_by : Loaded → File → ℕ → Option Symbol → Option Term
pointer_by k f i None = None
pointer_by k f i (Some d) = if may_be_replaced k.layout.kind d.flags then None else (if is_undefined d.place then Some (number_term 0) else own_thread_term k f i d)

abbrev pub pointer_term : Loaded → File → Option ℕ → Option Term
pointer_term k f None = None
pointer_term k f (Some i) = pointer_by k f i (slice_get k.layout.symbols (canonical k.layout i))

-- in an x86-64 executable offsets in the own module are relative to the thread pointer ("Linker Relaxations", from Local Dynamic to
-- Local Exec), otherwise to the start of the module's data
abbrev pub counts_from_pointer : Machine → OutputKind → Bool
counts_from_pointer machine.X86_64 kind = is_executable kind
counts_from_pointer machine.AArch64 kind = false

abbrev pub relative_by : Loaded → File → ℕ → Option Symbol → Option Term
relative_by k f i None = None
relative_by k f i (Some d) =
    if may_be_replaced k.layout.kind d.flags then None
    else (if counts_from_pointer k.layout.machine k.layout.kind then own_thread_term k f i d else option_map number_term (own_offset k f i d))

abbrev pub relative_term : Loaded → File → Option ℕ → Option Term
relative_term k f None = None
relative_term k f (Some i) = relative_by k f i (slice_get k.layout.symbols (canonical k.layout i))

-- the offset in the own module of what offsets there are relative to
abbrev pub begin_offset : Loaded → Option ℕ
begin_offset k = if counts_from_pointer k.layout.machine k.layout.kind then difference (number_term 0) (own_distance k.outline) else Some 0
