-- The instructions that relocations fill: which of their bytes are fields, and what their operands represent.
--   Sort               what an operand represents
--   Named              the symbol that the relocation of a further field must have
--   Partner            a further field of a sequence
--   Condition          when instructions form a sequence
--   Instruction        an instruction, or a sequence of them, with its fields
--   instructions_of m  those of a machine
--   IsOwnByte o k      byte k of an instruction is in none of its fields
use Rattle.std.specs.Prelude.{ℕ, zero, suc, ◌+◌, ◌<◌, ◌≤◌, ◌⊎◌, ⊤, Bool, true, List, [], ◌∷◌, ◌++◌, length, map}
use Rattle.std.specs.List.{flat_map}
use Rattle.wild_records.specs.Abi.Relocation.{r_x86_64_pc32, r_x86_64_plt32, r_x86_64_gotpcrel, r_x86_64_gotpcrelx, r_x86_64_rex_gotpcrelx, r_x86_64_code_4_gotpcrelx, r_x86_64_gottpoff, r_x86_64_code_4_gottpoff, r_x86_64_gotpc32_tlsdesc, r_x86_64_code_4_gotpc32_tlsdesc, r_x86_64_tlsdesc_call, r_x86_64_tlsgd, r_x86_64_tlsld, r_x86_64_pltoff64, r_aarch64_jump26, r_aarch64_call26, r_aarch64_adr_prel_pg_hi21, r_aarch64_add_abs_lo12_nc, r_aarch64_tlsie_adr_gottprel_page21, r_aarch64_tlsie_ld64_gottprel_lo12_nc, r_aarch64_tlsdesc_adr_page21, r_aarch64_tlsdesc_ld64_lo12, r_aarch64_tlsdesc_add_lo12, r_aarch64_tlsdesc_call}
use Rattle.wild_types.specs.declared.kind.Machine.{Machine}
use Rattle.wild_types.specs.declared.kind.Machine.TheVariants as machine
use Rattle.wild_loader.specs.declared.instruction.Operand.TheVariants.{Number, Word}
use Rattle.wild_loader.specs.declared.instruction.Deed.TheVariants.{Set, Add, Subtract, Compare, Call, Jump}
use Rattle.wild_loader.specs.Instruction.{Template, field}
use Rattle.wild_loader.specs.CodeX86_64.{Prefix, no_prefix, rex, rex2, with_slot, branch}
use Rattle.wild_loader.specs.ThreadCodeX86_64.{general_call, general_slot_call, far_pair_call, local_call, local_slot_call}
use Rattle.wild_loader.specs.InstructionX86_64.{descriptor_call, does_nothing}
use Rattle.wild_aarch64.specs.declared.template.Template as runs
use Rattle.wild_aarch64.specs.declared.template.Template.TheVariants as kinds
use Rattle.wild_meaning.specs.WordsAArch64.{is_filled, is_run, filled_numbers}

-- What an operand represents:
-- - code that is called or jumped to, directly or through its address in a slot;
-- - an address in a slot;
-- - a thread-pointer offset in a slot or from a descriptor call;
-- - the pair of a symbol, or that of the output's own thread-local data;
-- - a descriptor; nothing, for the call through one;
-- - on AArch64 also an address of which two instructions each hold a part, and the bits of an instruction's field.
pub data Sort : Type 0 where
  Target : Sort
  TargetInSlot : Sort
  AddressInSlot : Sort
  OffsetInSlot : Sort
  SymbolPair : Sort
  OwnPair : Sort
  Described : Sort
  DescribedCall : Sort
  Address : Sort
  FieldBits : Sort

-- the symbol that the relocation of a further field must have: the function that returns thread-local addresses, or the symbol of
-- the first relocation, with the same addend
pub data Named : Type 0 where
  Getter : Named
  SameSymbol : Named

-- the start of a further field of a sequence, its size in bytes, its relocation types, and the symbol that they must have
pub record Partner : Type 0 where
  pub field : ℕ
  pub width : ℕ
  pub numbers : List ℕ
  pub names : Named

-- Conditions: the output is an executable; the symbol is not an IFUNC; if it is interposable, instructions are rewritten; the
-- symbol is defined. If one fails, each instruction is separate.
pub data Condition : Type 0 where
  InExecutable : Condition
  WithoutResolver : Condition
  RewrittenIfReplaceable : Condition
  UnlessAbsent : Condition

-- An instruction:
-- - the values that its bytes may have and, on a machine whose instructions are words, which words they are;
-- - the start and size of its field, what its operand represents, and the relocation types that fill the field;
-- - for a sequence its further fields, whose relocations follow the first one, and its conditions.
pub record Instruction : Type 0 where
  pub template : Template
  pub words : List ℕ → Bool
  pub field : ℕ
  pub width : ℕ
  pub sort : Sort
  pub numbers : List ℕ
  pub partners : List Partner
  pub conditions : List Condition

abbrev pub size_of : Instruction → ℕ
size_of o = length o.template.cells

-- byte k is in no further field
abbrev pub IsOutsidePartners : ℕ → List Partner → Type 0
IsOutsidePartners k [] = ⊤
IsOutsidePartners k (p ∷ ps) = ((k < p.field) ⊎ (p.field + p.width ≤ k)) × IsOutsidePartners k ps

-- byte k of the instruction is in none of its fields
pub record IsOwnByte (o : Instruction) (k : ℕ) : Type 0 where
  pub inside : k < size_of o
  pub beside : (k < o.field) ⊎ (o.field + o.width ≤ k)
  pub apart : IsOutsidePartners k o.partners

-- ---- x86-64

-- the bytes alone determine the instruction
abbrev pub any_words : List ℕ → Bool
any_words ws = true

-- one field of four bytes
abbrev pub of_field : Template → ℕ → Sort → List ℕ → Instruction
of_field t field sort numbers = record { template = t; words = any_words; field = field; width = 4; sort = sort; numbers = numbers; partners = []; conditions = [] }

-- the same for a sequence with a call
abbrev pub of_sequence : Template → ℕ → Sort → ℕ → List Condition → Partner → Instruction
of_sequence t field sort number conditions call = record {
  template = t;
  words = any_words;
  field = field;
  width = 4;
  sort = sort;
  numbers = number ∷ [];
  partners = call ∷ [];
  conditions = conditions;
}

-- `call` and `jmp`, direct and through a slot; R_X86_64_GOTPCRELX is for instructions without a prefix, as these are (x86-64
-- psABI, "Relocation Types")
abbrev pub branches : List Instruction
branches =
    of_field (branch (0xe8 ∷ []) Number Call) 1 Target (r_x86_64_pc32 ∷ r_x86_64_plt32 ∷ [])
    ∷ of_field (branch (0xe9 ∷ []) Number Jump) 1 Target (r_x86_64_pc32 ∷ r_x86_64_plt32 ∷ [])
    ∷ of_field (branch (0xff ∷ 0x15 ∷ []) Word Call) 2 TargetInSlot (r_x86_64_gotpcrel ∷ r_x86_64_gotpcrelx ∷ [])
    ∷ of_field (branch (0xff ∷ 0x25 ∷ []) Word Jump) 2 TargetInSlot (r_x86_64_gotpcrel ∷ r_x86_64_gotpcrelx ∷ [])
    ∷ []

-- a register and the address in a slot; the field starts n bytes after the start
abbrev pub of_addresses : Prefix → ℕ → ℕ → List Instruction
of_addresses p n number =
    of_field (with_slot 0x8b Word Set p) n AddressInSlot (number ∷ [])
    ∷ of_field (with_slot 0x03 Word Add p) n AddressInSlot (number ∷ [])
    ∷ of_field (with_slot 0x2b Word Subtract p) n AddressInSlot (number ∷ [])
    ∷ of_field (with_slot 0x3b Word Compare p) n AddressInSlot (number ∷ [])
    ∷ []

-- a register and the offset from the thread pointer in a slot ("ELF Handling For Thread-Local Storage", "Initial Exec")
abbrev pub of_offsets : Prefix → ℕ → ℕ → List Instruction
of_offsets p n number =
    of_field (with_slot 0x8b Word Set p) n OffsetInSlot (number ∷ [])
    ∷ of_field (with_slot 0x03 Word Add p) n OffsetInSlot (number ∷ [])
    ∷ []

-- R_X86_64_GOTPCREL does not determine the prefix
abbrev pub of_loads : List Instruction
of_loads =
    of_field (with_slot 0x8b Word Set rex) 3 AddressInSlot (r_x86_64_gotpcrel ∷ [])
    ∷ of_field (with_slot 0x8b Word Set rex2) 4 AddressInSlot (r_x86_64_gotpcrel ∷ [])
    ∷ []

-- the call through a descriptor, which has no field
abbrev pub described_call : Instruction
described_call = record { template = descriptor_call; words = any_words; field = 0; width = 0; sort = DescribedCall; numbers = r_x86_64_tlsdesc_call ∷ []; partners = []; conditions = [] }

-- `lea` of a descriptor, and the call
abbrev pub of_descriptors : List Instruction
of_descriptors =
    of_field (with_slot 0x8d Number Set rex) 3 Described (r_x86_64_gotpc32_tlsdesc ∷ [])
    ∷ of_field (with_slot 0x8d Number Set rex2) 4 Described (r_x86_64_code_4_gotpc32_tlsdesc ∷ [])
    ∷ described_call
    ∷ []

-- the calls of sequences (x86-64 psABI, "Thread-Local Storage"), to the function that returns thread-local addresses
abbrev pub by_call : ℕ → Partner
by_call n = record { field = n; width = 4; numbers = r_x86_64_pc32 ∷ r_x86_64_plt32 ∷ []; names = Getter }

abbrev pub by_slot : ℕ → Partner
by_slot n = record { field = n; width = 4; numbers = r_x86_64_gotpcrel ∷ r_x86_64_gotpcrelx ∷ r_x86_64_rex_gotpcrelx ∷ []; names = Getter }

abbrev pub by_distance : ℕ → Partner
by_distance n = record { field = n; width = 8; numbers = r_x86_64_pltoff64 ∷ []; names = Getter }

-- when a linker may treat instructions as a sequence: for a pair of the output's own data, and for one of a symbol, which another
-- module may define
abbrev pub of_output : List Condition
of_output = InExecutable ∷ WithoutResolver ∷ []

abbrev pub of_symbol : List Condition
of_symbol = InExecutable ∷ WithoutResolver ∷ RewrittenIfReplaceable ∷ []

abbrev pub sequences : List Instruction
sequences =
    of_sequence general_call 4 SymbolPair r_x86_64_tlsgd of_symbol (by_call 12)
    ∷ of_sequence general_slot_call 4 SymbolPair r_x86_64_tlsgd of_symbol (by_slot 12)
    ∷ of_sequence far_pair_call 3 SymbolPair r_x86_64_tlsgd of_symbol (by_distance 9)
    ∷ of_sequence local_call 3 OwnPair r_x86_64_tlsld of_output (by_call 8)
    ∷ of_sequence local_slot_call 3 OwnPair r_x86_64_tlsld of_output (by_slot 9)
    ∷ of_sequence far_pair_call 3 OwnPair r_x86_64_tlsld of_output (by_distance 9)
    ∷ []

-- ---- AArch64: words of four bytes, each with one field

-- any bytes of n words; which words they are is checked separately, and `wild_aarch64` gives their meaning
abbrev pub bytes_of : ℕ → Template
bytes_of zero = does_nothing []
bytes_of (suc n) = does_nothing (field ++ (bytes_of n).cells)

-- one word that a relocation type fills
abbrev pub of_word : Sort → ℕ → Instruction
of_word sort n = record { template = bytes_of 1; words = is_filled n; field = 0; width = 4; sort = sort; numbers = n ∷ []; partners = []; conditions = [] }

-- a run of words of that kind; the first has its relocation type, each further word that of its partner
abbrev pub of_words : runs.Template → ℕ → Sort → ℕ → List Condition → List Partner → Instruction
of_words run words sort number conditions partners = record {
  template = bytes_of words;
  words = is_run run (number ∷ flat_map (λ (p : Partner). p.numbers) partners);
  field = 0;
  width = 4;
  sort = sort;
  numbers = number ∷ [];
  partners = partners;
  conditions = conditions;
}

-- a further word, n bytes after the first, whose field has that many bytes
abbrev pub by_word : ℕ → ℕ → ℕ → Partner
by_word n width number = record { field = n; width = width; numbers = number ∷ []; names = SameSymbol }

-- a descriptor call, the slot of an offset, and an address (aaelf64, "Relocation operations": instructions that belong together)
abbrev pub descriptor_call_words : Instruction
descriptor_call_words =
    of_words kinds.DescriptorCall 4 OffsetInSlot r_aarch64_tlsdesc_adr_page21 [] (by_word 4 4 r_aarch64_tlsdesc_ld64_lo12 ∷ by_word 8 4 r_aarch64_tlsdesc_add_lo12 ∷ by_word 12 0 r_aarch64_tlsdesc_call ∷ [])

abbrev pub offset_pair_words : Instruction
offset_pair_words = of_words kinds.SlotPair 2 OffsetInSlot r_aarch64_tlsie_adr_gottprel_page21 [] (by_word 4 4 r_aarch64_tlsie_ld64_gottprel_lo12_nc ∷ [])

abbrev pub address_pair_words : Instruction
address_pair_words = of_words kinds.AddressPair 2 Address r_aarch64_adr_prel_pg_hi21 (UnlessAbsent ∷ []) (by_word 4 4 r_aarch64_add_abs_lo12_nc ∷ [])

abbrev pub runs_of_words : List Instruction
runs_of_words = descriptor_call_words ∷ offset_pair_words ∷ address_pair_words ∷ []

-- the instructions of a machine that relocations may fill
abbrev pub instructions_of : Machine → List Instruction
instructions_of machine.X86_64 =
    branches
    ++ (of_addresses no_prefix 2 r_x86_64_gotpcrelx
    ++ (of_addresses rex 3 r_x86_64_rex_gotpcrelx
    ++ (of_addresses rex2 4 r_x86_64_code_4_gotpcrelx
    ++ (of_offsets rex 3 r_x86_64_gottpoff
    ++ (of_offsets rex2 4 r_x86_64_code_4_gottpoff
    ++ (of_loads ++ (of_descriptors ++ sequences)))))))
instructions_of machine.AArch64 = of_word Target r_aarch64_jump26 ∷ of_word Target r_aarch64_call26 ∷ (map (of_word FieldBits) filled_numbers ++ runs_of_words)
