-- What an entry of a relocation table changes in memory (x86-64 psABI, "Relocation Types"; aaelf64, "Dynamic
-- relocations").
--   kind_of machine number  what the entries of a number do; none where the machine has no such dynamic entry
--   change_of w kind r      the change of an entry of a kind in a world
--   patch_at m place c      a change at an address, over the loaded bytes there
use Rattle.std.specs.Prelude.{ℕ, ◌+◌, ◌%◌, ◌^◌, ◌==◌, if◌then◌else◌, List, [], ◌∷◌, length, Option, Some, None, Result, Ok, slice_get}
use Rattle.std.specs.Int.{cast_unsigned, w64}
use Rattle.wild_words.specs.Words.{word, number}
use Rattle.wild_records.specs.Abi.Relocation.{r_x86_64_64, r_x86_64_copy, r_x86_64_glob_dat, r_x86_64_jump_slot, r_x86_64_relative, r_x86_64_dtpmod64, r_x86_64_dtpoff64, r_x86_64_tpoff64, r_x86_64_size32, r_x86_64_size64, r_x86_64_tlsdesc, r_x86_64_irelative, r_aarch64_abs64, r_aarch64_copy, r_aarch64_glob_dat, r_aarch64_jump_slot, r_aarch64_relative, r_aarch64_tls_dtpmod, r_aarch64_tls_dtprel, r_aarch64_tls_tprel, r_aarch64_tlsdesc, r_aarch64_irelative}
use Rattle.wild_records.specs.declared.relocations.Rela.{Rela}
use Rattle.wild_loader.specs.declared.fault.LoadFault.{LoadFault}
use Rattle.wild_loader.specs.declared.fault.LoadFault.TheVariants as faults
use Rattle.wild_loader.specs.declared.memory.Machine.{Machine}
use Rattle.wild_loader.specs.declared.memory.Machine.TheVariants as machines
use Rattle.wild_loader.specs.declared.memory.Memory.{Memory}
use Rattle.wild_loader.specs.declared.world.Answer.{Answer}
use Rattle.wild_loader.specs.declared.world.World.{World}
use Rattle.wild_loader.specs.declared.kind.DynamicKind.{DynamicKind}
use Rattle.wild_loader.specs.declared.kind.DynamicKind.TheVariants as kinds
use Rattle.wild_loader.specs.declared.change.Change.{Change}
use Rattle.wild_loader.specs.declared.change.Change.TheVariants as changes
use Rattle.wild_loader.specs.declared.change.Patch.{Patch}
use Rattle.wild_loader.specs.Outcome.{◌>>=◌, known}
use Rattle.wild_loader.specs.Runs.{read_bytes}

-- ---- what the entries of a number do

-- the dynamic entries of x86-64 (x86-64 psABI, "Relocation Types")
abbrev pub kind_x86_64 : ℕ → Option DynamicKind
kind_x86_64 n =
    if n == r_x86_64_64 then Some kinds.SymbolPlus
    else if n == r_x86_64_copy then Some kinds.Copy
    else if n == r_x86_64_glob_dat then Some kinds.Symbol
    else if n == r_x86_64_jump_slot then Some kinds.Symbol
    else if n == r_x86_64_relative then Some kinds.Relative
    else if n == r_x86_64_dtpmod64 then Some kinds.Module
    else if n == r_x86_64_dtpoff64 then Some kinds.ModuleOffset
    else if n == r_x86_64_tpoff64 then Some kinds.ThreadOffset
    else if n == r_x86_64_size32 then Some kinds.Size32
    else if n == r_x86_64_size64 then Some kinds.Size64
    else if n == r_x86_64_tlsdesc then Some kinds.Descriptor
    else if n == r_x86_64_irelative then Some kinds.Resolved
    else None

-- those of AArch64 (aaelf64, "Dynamic relocations")
abbrev pub kind_aarch64 : ℕ → Option DynamicKind
kind_aarch64 n =
    if n == r_aarch64_abs64 then Some kinds.SymbolPlus
    else if n == r_aarch64_copy then Some kinds.Copy
    else if n == r_aarch64_glob_dat then Some kinds.SymbolPlus
    else if n == r_aarch64_jump_slot then Some kinds.SymbolPlus
    else if n == r_aarch64_relative then Some kinds.Relative
    else if n == r_aarch64_tls_dtpmod then Some kinds.Module
    else if n == r_aarch64_tls_dtprel then Some kinds.ModuleOffset
    else if n == r_aarch64_tls_tprel then Some kinds.ThreadOffset
    else if n == r_aarch64_tlsdesc then Some kinds.Descriptor
    else if n == r_aarch64_irelative then Some kinds.Resolved
    else None

-- what the entries of a number do; none where the machine has no such dynamic entry
unfoldable pub kind_of : Machine → ℕ → Option DynamicKind
kind_of machines.X86_64 n = kind_x86_64 n
kind_of machines.AArch64 n = kind_aarch64 n

-- ---- what the world answers

-- the value of the first pair for a key
abbrev pub first_value : {V : Type 0} → List (ℕ × V) → ℕ → Option V
first_value [] key = None
first_value (p ∷ ps) key = if p.0 == key then Some p.1 else first_value ps key

-- the answer for a dynamic symbol
abbrev pub answer_of : World → ℕ → Result Answer LoadFault
answer_of w index = known (slice_get w.symbols index) (faults.UnknownSymbol index)

-- what the resolver at an address answers
abbrev pub answer_at : World → ℕ → Result ℕ LoadFault
answer_at w address = known (first_value w.resolvers address) (faults.NoAnswer address)

-- a number plus the entry's addend
abbrev pub sum_with_addend : ℕ → Rela → ℕ
sum_with_addend n r = (n + cast_unsigned w64 r.addend) % 2 ^ 64

-- a module and an offset in its thread-local data
abbrev pub module_and_offset : World → ℕ → Result (ℕ × ℕ) LoadFault
module_and_offset w index = if index == 0 then Ok (w.own_module, 0) else (answer_of w index >>= λ a. Ok (a.module, a.offset))

-- the signed distance of a module's thread-local data from the thread pointer, as an unsigned number
abbrev pub distance_of : World → ℕ → Result ℕ LoadFault
distance_of w m = known (first_value w.modules m) (faults.NoAnswer m) >>= λ d. Ok (cast_unsigned w64 d)

-- the offset from the thread pointer
abbrev pub thread_offset : World → Rela → Result ℕ LoadFault
thread_offset w r = module_and_offset w r.symbol >>= λ m. distance_of w m.0 >>= λ d. Ok (sum_with_addend ((d + m.1) % 2 ^ 64) r)

-- ---- changes

-- the change of an entry of a kind in a world
unfoldable pub change_of : World → DynamicKind → Rela → Result Change LoadFault
change_of w kinds.Relative r = Ok (changes.Word (sum_with_addend w.base r))
change_of w kinds.Symbol r = answer_of w r.symbol >>= λ a. Ok (changes.Word a.address)
change_of w kinds.SymbolPlus r = answer_of w r.symbol >>= λ a. Ok (changes.Word (sum_with_addend a.address r))
change_of w kinds.Resolved r = answer_at w (sum_with_addend w.base r) >>= λ v. Ok (changes.Word v)
change_of w kinds.Module r = module_and_offset w r.symbol >>= λ m. Ok (changes.Word m.0)
change_of w kinds.ModuleOffset r = answer_of w r.symbol >>= λ a. Ok (changes.Word (sum_with_addend a.offset r))
change_of w kinds.ThreadOffset r = thread_offset w r >>= λ o. Ok (changes.Word o)
change_of w kinds.Descriptor r = thread_offset w r >>= λ o. Ok (changes.Descriptor o)
change_of w kinds.Copy r = answer_of w r.symbol >>= λ a. Ok (changes.Fill a.bytes)
change_of w kinds.Size32 r = answer_of w r.symbol >>= λ a. Ok (changes.Half (sum_with_addend a.size r % 2 ^ 32))
change_of w kinds.Size64 r = answer_of w r.symbol >>= λ a. Ok (changes.Word (sum_with_addend a.size r))

-- how many bytes of memory a change takes
abbrev pub size_of : Change → ℕ
size_of (changes.Word v) = 8
size_of (changes.Half v) = 4
size_of (changes.Fill bytes) = length bytes
size_of (changes.Add v) = 8
size_of (changes.Descriptor o) = 16

-- the bytes after a change of those before
abbrev pub bytes_after : Change → List ℕ → List ℕ
bytes_after (changes.Word v) old = word 8 v
bytes_after (changes.Half v) old = word 4 v
bytes_after (changes.Fill bytes) old = bytes
bytes_after (changes.Add v) old = word 8 ((number old + v) % 2 ^ 64)
bytes_after (changes.Descriptor o) old = old

-- the thread offset that a change notes
abbrev pub offset_noted : Change → Option ℕ
offset_noted (changes.Descriptor o) = Some o
offset_noted c = None

-- a change at an address, over the bytes before
abbrev pub patch_over : ℕ → Change → List ℕ → Patch
patch_over place c old = record { run = record { start = place; bytes = bytes_after c old }; offset = offset_noted c }

-- a change at an address, over the loaded bytes there
unfoldable pub patch_at : Memory → ℕ → Change → Result Patch LoadFault
patch_at m place c = read_bytes m place (size_of c) >>= λ old. Ok (patch_over place c old)
