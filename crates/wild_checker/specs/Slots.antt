-- Slots and stubs of symbols.
--   holds_value k f i d a   the word at an address is symbol i's value in every world
--   holds_slot k f i d sort a   memory at an address has the content of a slot of that sort for symbol i
--   slot_term k f sort i    the address of the slot of a sort for symbol i, if it has that content
--   stub_term k f i         the address of symbol i's stub, if it jumps by the symbol's first slot, and that holds the symbol's value
--   is_at_stub k f i d      the output uses the stub's address as symbol i's
use Rattle.std.specs.Prelude.{ℕ, ◌+◌, ◌-◌, ◌^◌, ◌%◌, ◌&&◌, ◌||◌, Bool, true, false, not, ◌==◌, if◌then◌else◌, nat_lt, slice_get, Option, Some, None, option_map, option_and_then}
use Rattle.wild_reloc.specs.declared.expression.SlotSort.{SlotSort}
use Rattle.wild_reloc.specs.declared.expression.SlotSort.TheVariants as sorts
use Rattle.wild_reloc.specs.Expression.{slot_sort}
use Rattle.wild_types.specs.declared.file.File.{File}
use Rattle.wild_types.specs.declared.kind.Machine.{Machine}
use Rattle.wild_types.specs.declared.kind.Machine.TheVariants as machine
use Rattle.wild_types.specs.declared.layout.Layout.{Layout}
use Rattle.wild_types.specs.declared.symbol.Symbol.{Symbol}
use Rattle.wild_types.specs.Flags.{has_flag, absolute, ifunc, undefined_weak, plt_stub, ifunc_got_for_address}
use Rattle.wild_types.specs.Lookups.{canonical}
use Rattle.wild_types.specs.SymbolSlots.{got_of, plt_of}
use Rattle.wild_loader.specs.declared.memory.Machine.{Machine as Processor}
use Rattle.wild_loader.specs.declared.memory.Machine.TheVariants as processor
use Rattle.wild_slot.specs.MachineStub.{stub_in}
use Rattle.wild_meaning.specs.Slot.{has_slot_of, offset_from_first}
use Rattle.wild_terms.specs.declared.term.Term.{Term}
use Rattle.wild_terms.specs.Terms.{number_term, same_term}
use Rattle.wild_terms.specs.Outline.{based, own_module}
use Rattle.wild_terms.specs.Symbolic.{term_at, descriptor_at}
use Rattle.wild_checker.specs.Loaded.{Loaded}
use Rattle.wild_checker.specs.Bytes.{has_bytes}
use Rattle.wild_checker.specs.Symbols.{raw_in, is_equal, loaded_term}
use Rattle.wild_checker.specs.Threads.{module_term, offset_term, thread_term, may_be_zero, begin_offset}

-- ---- words

abbrev pub is_known : Option Term → Term → Bool
is_known None x = false
is_known (Some y) x = same_term y x

abbrev pub are_same : Option Term → Option Term → Bool
are_same a None = false
are_same a (Some x) = is_known a x

-- the word at an address is symbol i's value in every world; d is the symbol's definition
abbrev pub holds_value : Loaded → File → ℕ → Symbol → ℕ → Bool
holds_value k f i d a = nat_lt a (2 ^ 64) && are_same (term_at k.memory a 8) (loaded_term k f i d)

-- ---- stubs

-- layout and image are for the same machine
abbrev pub is_for : Machine → Processor → Bool
is_for machine.X86_64 processor.X86_64 = true
is_for machine.AArch64 processor.AArch64 = true
is_for m p = false

-- On AArch64 code reaches a slot by its page, in steps of eight bytes, so the base has to be a multiple of the page's size.
abbrev pub has_places : Machine → Layout → ℕ → Bool
has_places machine.X86_64 l g = true
has_places machine.AArch64 l g = l.page_size % 4096 == 0 && g % 8 == 0

-- the code at p is the stub that jumps by the slot at g (x86-64 psABI, "Procedure Linkage Table"; aaelf64, "Program Linkage Table")
abbrev pub is_stub : Loaded → ℕ → ℕ → Bool
is_stub k p g = is_for k.layout.machine k.memory.memory.machine && (has_places k.layout.machine k.layout g && ((stub_in k.layout g p).reaches && has_bytes k.memory p (stub_in k.layout g p).bytes))

-- on AArch64 an undefined weak symbol has a stub only if it may lead to another module's definition (aaelf64, "Weak references")
abbrev pub is_strong : Machine → Symbol → Bool
is_strong machine.X86_64 d = true
is_strong machine.AArch64 d = not (has_flag d.flags undefined_weak) || has_flag d.flags plt_stub

abbrev pub stub_by : Loaded → File → ℕ → Symbol → Option ℕ → Option ℕ → Option Term
stub_by k f i d None g = None
stub_by k f i d (Some p) None = None
stub_by k f i d (Some p) (Some g) = if is_strong k.layout.machine d && (is_stub k p g && holds_value k f i d g) then Some (based k.outline p) else None

-- the address of symbol i's stub, if it jumps by the symbol's first slot, and that holds the symbol's value
abbrev pub stub_term : Loaded → File → ℕ → Option Term
stub_term k f i = option_and_then (λ d. stub_by k f i d (plt_of d) (got_of d)) (slice_get k.layout.symbols (canonical k.layout i))

-- the output uses its stub as symbol i's address: the symbol is an IFUNC, or the layout places it at its stub; it moves with the base
-- (x86-64 psABI, "Function Addresses")
abbrev pub is_at_stub : Loaded → File → ℕ → Symbol → Bool
is_at_stub k f i d = not (has_flag d.flags absolute) && (has_flag d.flags ifunc || is_equal (raw_in k f i d.resolution) (plt_of d))

-- ---- slots

-- the word at an address is the address of symbol i's stub, and a slot for the symbol's address may have that
abbrev pub holds_stub : Loaded → File → ℕ → Symbol → ℕ → Bool
holds_stub k f i d a = (is_at_stub k f i d || has_flag d.flags ifunc_got_for_address) && are_same (term_at k.memory a 8) (stub_term k f i)

-- the word at an address is symbol i's value, or its stub's address
abbrev pub holds_address : Loaded → File → ℕ → Symbol → ℕ → Bool
holds_address k f i d a = holds_value k f i d a || holds_stub k f i d a

-- the two words at an address are these terms in every world
abbrev pub holds_pair : Loaded → ℕ → Option Term → Option Term → Bool
holds_pair k a first second = nat_lt a (2 ^ 64 - 8) && (are_same (term_at k.memory a 8) first && are_same (term_at k.memory (a + 8) 8) second)

-- the word at an address is symbol i's offset from the thread pointer in every world
abbrev pub holds_offset : Loaded → File → ℕ → Symbol → ℕ → Bool
holds_offset k f i d a = are_same (term_at k.memory a 8) (thread_term k f i d) || (may_be_zero k f i d && is_known (term_at k.memory a 8) (number_term 0))

-- the loader notes that offset for the descriptor at an address
abbrev pub holds_descriptor : Loaded → File → ℕ → Symbol → ℕ → Bool
holds_descriptor k f i d a = are_same (descriptor_at k.memory a) (thread_term k f i d)

-- memory at an address has the content of a slot of that sort for symbol i (x86-64 psABI, "Global Offset Table (GOT)"; "ELF Handling For
-- Thread-Local Storage", "TLS Access Models")
abbrev pub holds_slot : Loaded → File → ℕ → Symbol → SlotSort → ℕ → Bool
holds_slot k f i d sorts.Address a = holds_address k f i d a
holds_slot k f i d sorts.TlsGd a = holds_pair k a (module_term k d) (offset_term k f i d)
holds_slot k f i d sorts.TlsLd a = false
holds_slot k f i d sorts.TpOff a = holds_offset k f i d a
holds_slot k f i d sorts.TlsDesc a = holds_descriptor k f i d a

-- the address of a symbol's slot of a sort
abbrev pub slot_place : SlotSort → Symbol → Option ℕ
slot_place sort d = if has_slot_of (slot_sort sort) d.flags then option_map (λ first. first + offset_from_first (slot_sort sort) d.flags) (got_of d) else None

abbrev pub slot_by : Loaded → File → ℕ → Symbol → SlotSort → Option ℕ → Option Term
slot_by k f i d sort None = None
slot_by k f i d sort (Some a) = if nat_lt a (2 ^ 64) && holds_slot k f i d sort a then Some (based k.outline a) else None

-- the address of symbol i's slot of a sort, if it holds what such a slot holds
abbrev pub symbol_slot : Loaded → File → SlotSort → ℕ → Option Term
symbol_slot k f sort i = option_and_then (λ d. slot_by k f i d sort (slot_place sort d)) (slice_get k.layout.symbols (canonical k.layout i))

-- the address of the pair of the output's own module, if it represents what offsets in the module are relative to
abbrev pub own_pair_by : Loaded → Option ℕ → Option Term
own_pair_by k None = None
own_pair_by k (Some a) = if holds_pair k a (Some (own_module k.outline)) (option_map number_term (begin_offset k)) then Some (based k.outline a) else None

-- the address of the slot of a sort for symbol i; all symbols share the pair of the output's own module
abbrev pub slot_term : Loaded → File → SlotSort → ℕ → Option Term
slot_term k f sorts.TlsLd i = own_pair_by k k.layout.tlsld
slot_term k f sort i = symbol_slot k f sort i
