-- The contents of a symbol's slots in the global offset table, by cases (x86-64 psABI, "Global Offset Table (GOT)",
-- "Procedure Linkage Table", "Relocation Types"; aaelf64, "Dynamic relocations"; ELF Handling For Thread-Local Storage).
--   setting_of l               the properties of a layout on which the contents of slots depend
--   slot_items s far r         the words of a resolution's slots, 8 bytes each from its `got_address` on, its stub, and the faults
--   slot s far r               the words before the first fault, whether the stub is before it, and the fault
--   storage_pair s             the module pair of the output's own thread-local data
-- `far` is the distance of the stub from its slot if that is too large; `Some d` is an index in the dynamic symbol table.
use Rattle.std.specs.Prelude.{ℕ, ◌==◌, ◌&&◌, ◌||◌, Bool, true, false, not, if◌then◌else◌, List, [], ◌∷◌, ◌++◌, Option, Some, None}
use Rattle.wild_reloc.specs.declared.dynamic.DynamicRelocationKind.{DynamicRelocationKind}
use Rattle.wild_reloc.specs.declared.dynamic.DynamicRelocationKind.TheVariants.{GotEntry, JumpSlot, DtpMod, DtpOff, TpOff, TlsDesc, Irelative}
use Rattle.wild_types.specs.declared.kind.OutputKind.{OutputKind}
use Rattle.wild_types.specs.declared.symbol.ValueFlags.{ValueFlags}
use Rattle.wild_types.specs.declared.symbol.Resolution.{Resolution}
use Rattle.wild_types.specs.declared.layout.Layout.{Layout}
use Rattle.wild_types.specs.Flags.{has_flag, interposable, has_link_time_address, dynamic, ifunc, got_tls_offset, got_tls_module, got_tls_descriptor, copy_relocation, export_dynamic, canonical_plt, ifunc_got_for_address, canonical_plt_got_for_address}
use Rattle.wild_types.specs.Kinds.{is_executable, is_static_executable, is_shared_object, is_position_independent}
use Rattle.wild_slot.specs.declared.slot.Setting.{Setting}
use Rattle.wild_slot.specs.declared.slot.SlotWord.{SlotWord}
use Rattle.wild_slot.specs.declared.slot.SlotWord.TheVariants.{Number, Address, InRelrGot, General, Plt}
use Rattle.wild_slot.specs.declared.slot.SlotFault.{SlotFault}
use Rattle.wild_slot.specs.declared.slot.SlotFault.TheVariants.{NoDynamicSymbol, NoStub, PltTooFar, TlsOutOfSegment, StaticTlsDesc}
use Rattle.wild_slot.specs.declared.slot.SlotItem.{SlotItem}
use Rattle.wild_slot.specs.declared.slot.SlotItem.TheVariants.{Word, Stub, Fault}
use Rattle.wild_types.specs.SymbolSlots.{has_dynamic_symbol, has_thread_slot}
use Rattle.wild_slot.specs.Storage.{minus, thread_pointer, is_outside}

-- the properties of a layout on which the contents of slots depend
abbrev pub setting_of : Layout → Setting
setting_of l = record { kind = l.kind; relr = l.options.relr; tls = l.tls; thread_pointer = thread_pointer l.machine l.tls }

-- ---- properties of a symbol

-- another module's definition, if there is one, replaces this one at run time: the symbol is another module's and not copied, or it is
-- one of a shared object that other modules see (gABI, "Shared Object Dependencies")
abbrev pub is_replaceable : OutputKind → ValueFlags → Bool
is_replaceable kind f = (has_flag f dynamic && not (has_flag f copy_relocation)) || (is_shared_object kind && (has_flag f export_dynamic && interposable f))

-- ---- words

-- a number that no loader changes
abbrev pub number : ℕ → SlotItem
number n = Word (Number n)

-- 0, filled by an entry of `rela_dyn_general` with that kind, symbol index and addend
abbrev pub general : DynamicRelocationKind → ℕ → ℕ → SlotItem
general kind symbol addend = Word (General (record { kind = kind; symbol = symbol; addend = addend }))

-- 0, filled by an entry of `rela_plt` with that kind, symbol index and addend
abbrev pub plt : DynamicRelocationKind → ℕ → ℕ → SlotItem
plt kind symbol addend = Word (Plt (record { kind = kind; symbol = symbol; addend = addend }))

-- an item that needs the symbol's dynamic index
abbrev pub named : Option ℕ → (ℕ → SlotItem) → SlotItem
named None by = Fault NoDynamicSymbol
named (Some d) by = by d

-- ---- thread-local slots

-- the offset from the thread pointer (section 4.3, Initial Exec); the cases:
--   a symbol that the loader looks up: a TPOFF entry for it
--   address 0, that is an undefined symbol: 0
--   an executable: the offset is known at link time
--   else: a TPOFF entry without a symbol
abbrev pub offset_item : Setting → Resolution → SlotItem
offset_item s r =
    if has_dynamic_symbol r.flags then named r.dynamic_symbol_index (λ d. general TpOff d 0)
    else if r.raw_value == 0 then number 0
    else if is_outside s.tls r.raw_value then Fault (TlsOutOfSegment r.raw_value)
    else if is_executable s.kind then number (minus r.raw_value s.thread_pointer)
    else general TpOff 0 (minus r.raw_value s.tls.start)

-- the module: an executable is module 1 (section 4.1, General Dynamic)
abbrev pub module_item : Setting → Resolution → SlotItem
module_item s r =
    if is_executable s.kind && not (has_flag r.flags dynamic) then number 1
    else if interposable r.flags then named r.dynamic_symbol_index (λ d. general DtpMod d 0)
    else general DtpMod 0 0

abbrev pub module_offset : Setting → ℕ → Option ℕ → SlotItem
module_offset s raw (Some d) = general DtpOff d 0
module_offset s raw None = number (minus raw s.tls.start)

-- the offset in the module's thread-local data
abbrev pub module_offset_item : Setting → Resolution → SlotItem
module_offset_item s r = module_offset s r.raw_value (if interposable r.flags then r.dynamic_symbol_index else None)

abbrev pub described : Setting → ValueFlags → ℕ → Option ℕ → SlotItem
described s f raw (Some d) = if is_static_executable s.kind then Fault StaticTlsDesc else general TlsDesc d 0
described s f raw None =
    if is_replaceable s.kind f then Fault NoDynamicSymbol
    else if is_outside s.tls raw then Fault (TlsOutOfSegment raw)
    else if is_static_executable s.kind then Fault StaticTlsDesc
    else general TlsDesc 0 (minus raw s.tls.start)

-- the TLS descriptor, whose two words one entry fills
abbrev pub descriptor_item : Setting → Resolution → SlotItem
descriptor_item s r = described s r.flags r.raw_value r.dynamic_symbol_index

abbrev pub items_if : Bool → List SlotItem → List SlotItem
items_if true xs = xs
items_if false xs = []

abbrev pub offset_items : Setting → Resolution → List SlotItem
offset_items s r = items_if (has_flag r.flags got_tls_offset) (offset_item s r ∷ [])

abbrev pub module_items : Setting → Resolution → List SlotItem
module_items s r = items_if (has_flag r.flags got_tls_module) (module_item s r ∷ module_offset_item s r ∷ [])

abbrev pub descriptor_items : Setting → Resolution → List SlotItem
descriptor_items s r = items_if (has_flag r.flags got_tls_descriptor) (descriptor_item s r ∷ number 0 ∷ [])

-- ---- the slot for an address, and the stub that jumps to it

-- the slot for the symbol's address; the cases:
--   a function whose stub is its address in every module: a JUMP_SLOT entry
--   a symbol that the loader looks up: a GLOB_DAT entry
--   an IFUNC: an IRELATIVE entry
--   an address that changes with the load bias: packed as RELR, or a relative entry
--   else: a number
abbrev pub plain_item : Setting → Resolution → SlotItem
plain_item s r =
    if has_flag r.flags canonical_plt then named r.dynamic_symbol_index (λ d. plt JumpSlot d 0)
    else if has_dynamic_symbol r.flags then named r.dynamic_symbol_index (λ d. general GotEntry d 0)
    else if has_flag r.flags ifunc then plt Irelative 0 r.raw_value
    else if is_position_independent s.kind && has_link_time_address r.flags then Word (if s.relr then InRelrGot r.raw_value else Address r.raw_value)
    else number r.raw_value

abbrev pub stub_item : Option ℕ → SlotItem
stub_item None = Stub
stub_item (Some distance) = Fault (PltTooFar distance)

abbrev pub stub_items : Option ℕ → Option ℕ → List SlotItem
stub_items far None = []
stub_items far (Some stub) = stub_item far ∷ []

abbrev pub stub_address : Setting → Option ℕ → SlotItem
stub_address s None = Fault NoStub
stub_address s (Some stub) = if is_position_independent s.kind then Word (Address stub) else number stub

-- a second word, for references to the address of an IFUNC: it is the stub's, so that all references agree
abbrev pub ifunc_address_items : Setting → Resolution → List SlotItem
ifunc_address_items s r = items_if (has_flag r.flags ifunc_got_for_address) (stub_address s r.plt_address ∷ [])

-- a second word, for references to the address of a function with a canonical stub: the loader looks it up
abbrev pub canonical_address_items : Setting → Resolution → List SlotItem
canonical_address_items s r = items_if (has_flag r.flags canonical_plt_got_for_address) (named r.dynamic_symbol_index (λ d. general GotEntry d 0) ∷ [])

-- ---- the slots of a symbol

abbrev pub thread_items : Setting → Resolution → List SlotItem
thread_items s r = offset_items s r ++ (module_items s r ++ descriptor_items s r)

abbrev pub address_items : Setting → Option ℕ → Resolution → List SlotItem
address_items s far r = plain_item s r ∷ (stub_items far r.plt_address ++ (ifunc_address_items s r ++ canonical_address_items s r))

abbrev pub items_at : Setting → Option ℕ → Resolution → Option ℕ → List SlotItem
items_at s far r None = []
items_at s far r (Some got) = if has_thread_slot r.flags then thread_items s r else address_items s far r

-- the items in the order of their places; none if the resolution has no `got_address`
abbrev pub slot_items : Setting → Option ℕ → Resolution → List SlotItem
slot_items s far r = items_at s far r r.got_address

-- the words, whether there is a stub, and the fault that ended them
pub record SlotContent : Type 0 where
  pub words : List SlotWord
  pub has_stub : Bool
  pub fault : Option SlotFault

abbrev pub no_slot : SlotContent
no_slot = record { words = []; has_stub = false; fault = None }

abbrev pub add_item : SlotContent → SlotItem → SlotContent
add_item c (Word w) = record c { words = c.words ++ w ∷ [] }
add_item c Stub = record c { has_stub = true }
add_item c (Fault f) = record c { fault = Some f }

abbrev pub with_item_by : Option SlotFault → SlotContent → SlotItem → SlotContent
with_item_by None c x = add_item c x
with_item_by (Some f) c x = c

-- adds an item, unless there is a fault already
abbrev pub with_item : SlotContent → SlotItem → SlotContent
with_item c x = with_item_by c.fault c x

abbrev pub with_items : SlotContent → List SlotItem → SlotContent
with_items c [] = c
with_items c (x ∷ xs) = with_items (with_item c x) xs

-- the slots of a resolution, up to the first fault
unfoldable pub slot : Setting → Option ℕ → Resolution → SlotContent
slot s far r = with_items no_slot (slot_items s far r)

-- ---- once in an output

-- the pair for local-dynamic references: the output's own module, and the start of offsets in its data. Code of x86-64 executables is
-- rewritten to count from the thread pointer (section 5.5, Local Dynamic to Local Exec)
abbrev pub storage_pair : Setting → List SlotWord
storage_pair s =
    if is_executable s.kind then Number 1 ∷ Number (minus s.thread_pointer s.tls.start) ∷ []
    else General (record { kind = DtpMod; symbol = 0; addend = 0 }) ∷ Number 0 ∷ []
