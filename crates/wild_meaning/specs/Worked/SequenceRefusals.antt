-- Thread-local code that is refused in any layout of x86-64.
--   RemovedCallsAreRefused    a library without a call through a descriptor
--   OtherBasesAreRefused      another start of the output's own thread-local data than the thread pointer
--   KeptCallsAreRefused       a call that remains in its sequence, with another distance
--   OtherAddendsAreNoCalls    an addend by which a call goes past the function
use Rattle.std.specs.Prelude.{◌≡◌, ◌≢◌, ℕ, ◌+◌, ◌%◌, ◌^◌, List, [], ◌∷◌, Contains}
use Rattle.std.specs.Int.{w64, cast_unsigned}
use lib.IntN.{pos, negsuc}
use Rattle.wild_records.specs.Abi.Relocation.{r_x86_64_pc32, r_x86_64_tlsgd, r_x86_64_tlsld, r_x86_64_tlsdesc_call, r_x86_64_pltoff64}
use Rattle.wild_types.specs.declared.kind.Machine.TheVariants as machine
use Rattle.wild_types.specs.declared.kind.OutputKind.TheVariants as output
use Rattle.wild_types.specs.declared.input.InputRelocation.{InputRelocation}
use Rattle.wild_types.specs.declared.layout.Layout.{Layout}
use Rattle.wild_types.specs.Item.{Item, item_with}
use Rattle.wild_loader.specs.declared.memory.Memory.{Memory}
use Rattle.wild_loader.specs.declared.world.World.{World}
use Rattle.wild_loader.specs.Memory.{Holds}
use Rattle.wild_loader.specs.ThreadCodeX86_64.{general_call, far_pair_call}
use Rattle.wild_meaning.specs.Item.{place_at}
use Rattle.wild_meaning.specs.Sequence.{Instruction, SymbolPair, OwnPair, of_sequence, of_symbol, of_output, by_call, by_distance}
use Rattle.wild_meaning.specs.Template.{IsSequence}
use Rattle.wild_meaning.specs.Reference.{ReferenceHolds, HoldsLinked, LinkedHolds}
use Rattle.wild_meaning.specs.Worked.Builders.{reference, input}

-- code with two references, the symbols 0 and 1
abbrev pub two_references : ℕ → List ℕ → InputRelocation → InputRelocation → Item
two_references address bytes first second = item_with 0 (input address 6 bytes (first ∷ second ∷ []))

-- ---- `call [rax]`

abbrev pub call_reference : InputRelocation
call_reference = reference 0 r_x86_64_tlsdesc_call 0 (pos 0)

abbrev pub call_item : ℕ → Item
call_item address = item_with 0 (input address 6 (0xff ∷ 0x10 ∷ []) (call_reference ∷ []))

-- a library has descriptors, so the call through one remains; refused is an instruction that does nothing
abbrev pub RemovedCallsAreRefused : Type 0
RemovedCallsAreRefused = (l : Layout) (w : World) (m : Memory) (address : ℕ) → l.machine ≡ machine.X86_64 → l.kind ≡ output.SharedObject → Holds m (place_at w (call_item address) 0) (0x66 ∷ 0x90 ∷ []) → ReferenceHolds l w m (call_item address) call_reference → ⊥

-- ---- `lea rdi, [rip + pair]; movabs rax, distance; add rax, rbx; call rax`, of the output's own pair

abbrev pub far_code : List ℕ
far_code = 0x48 ∷ 0x8d ∷ 0x3d ∷ 0 ∷ 0 ∷ 0 ∷ 0 ∷ 0x48 ∷ 0xb8 ∷ 0 ∷ 0 ∷ 0 ∷ 0 ∷ 0 ∷ 0 ∷ 0 ∷ 0 ∷ 0x48 ∷ 0x01 ∷ 0xd8 ∷ 0xff ∷ 0xd0 ∷ []

abbrev pub far_reference : InputRelocation
far_reference = reference 3 r_x86_64_tlsld 0 (negsuc 3)

abbrev pub far_getter : InputRelocation
far_getter = reference 9 r_x86_64_pltoff64 1 (pos 0)

abbrev pub far_item : ℕ → Item
far_item address = two_references address far_code far_reference far_getter

abbrev pub far_sequence : Instruction
far_sequence = of_sequence far_pair_call 3 OwnPair r_x86_64_tlsld of_output (by_distance 9)

-- `mov rax, fs:0; lea rax, [rax + 8]`, followed by `nop`
abbrev pub another_base : List ℕ
another_base = 0x64 ∷ 0x48 ∷ 0x8b ∷ 0x04 ∷ 0x25 ∷ 0 ∷ 0 ∷ 0 ∷ 0 ∷ 0x48 ∷ 0x8d ∷ 0x80 ∷ 8 ∷ 0 ∷ 0 ∷ 0 ∷ 0x90 ∷ 0x90 ∷ 0x90 ∷ 0x90 ∷ 0x90 ∷ 0x90 ∷ []

-- in an executable, whose own thread-local offsets count from the thread pointer
abbrev pub OtherBasesAreRefused : Type 0
OtherBasesAreRefused = (l : Layout) (w : World) (m : Memory) (address : ℕ) → l.machine ≡ machine.X86_64 → IsSequence l (far_item address) far_reference (far_getter ∷ []) 0 far_sequence → Holds m (place_at w (far_item address) 0) another_base → ReferenceHolds l w m (far_item address) far_reference → ⊥

-- ---- `lea rdi, [rip + pair]; call __tls_get_addr`, with the prefixes that make it 16 bytes

abbrev pub near_code : List ℕ
near_code = 0x66 ∷ 0x48 ∷ 0x8d ∷ 0x3d ∷ 0 ∷ 0 ∷ 0 ∷ 0 ∷ 0x66 ∷ 0x66 ∷ 0x48 ∷ 0xe8 ∷ 0 ∷ 0 ∷ 0 ∷ 0 ∷ []

abbrev pub near_reference : InputRelocation
near_reference = reference 4 r_x86_64_tlsgd 0 (negsuc 3)

abbrev pub near_getter : InputRelocation
near_getter = reference 12 r_x86_64_pc32 1 (negsuc 3)

abbrev pub near_item : ℕ → Item
near_item address = two_references address near_code near_reference near_getter

abbrev pub near_sequence : Instruction
near_sequence = of_sequence general_call 4 SymbolPair r_x86_64_tlsgd of_symbol (by_call 12)

-- a call that remains in its sequence holds by its own field alone
abbrev pub KeptCallsAreRefused : Type 0
KeptCallsAreRefused = (l : Layout) (w : World) (m : Memory) (address : ℕ) → l.machine ≡ machine.X86_64 → IsSequence l (near_item address) near_reference (near_getter ∷ []) 0 near_sequence → Holds m (place_at w (near_item address) 0) near_code → (HoldsLinked l w m (near_item address) near_getter → ⊥) → LinkedHolds l w m (near_item address) near_getter → ⊥

-- ---- addends

-- the addend of a call in a sequence is -4, or 0 in a field of 8 bytes
abbrev pub OtherAddendsAreNoCalls : Type 0
OtherAddendsAreNoCalls = (l : Layout) (item : Item) (first r : InputRelocation) (rest : List InputRelocation) (start : ℕ) (o : Instruction) → l.machine ≡ machine.X86_64 → IsSequence l item first rest start o → Contains rest r → (cast_unsigned w64 r.addend + 4) % 2 ^ 64 ≢ 0 → cast_unsigned w64 r.addend % 2 ^ 64 ≢ 0 → ⊥
