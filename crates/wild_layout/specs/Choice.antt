-- The rewrite (relaxation) that applies to a relocation's instruction.
--   info_of l r            what the rows of rewrites check of a relocation; `nameless` without its symbol's name
--   question_for ..            what they check of one of some relocations, whose symbol is i
--   question_of ..         the same for x86-64, with the next relocation
--   question_around ..     the same for AArch64, with the relocations of its sequence
--   choice_of l s r next   the row of x86-64 that applies, or why it is refused
--   choice_around l s i r  the same for AArch64, for relocation i
--   choice l s i           the same by the machine
--   is_partner l s i       relocation i is the call of the previous relocation's sequence, which is rewritten as a whole
--   may_take_next n        rows of that relocation type rewrite a whole sequence
--   may_be_partner rs i    the previous relocation is of such a type
use Rattle.std.specs.Prelude.{ℕ, zero, suc, ◌+◌, ◌-◌, ◌==◌, Bool, true, false, ◌||◌, if◌then◌else◌, List, [], ◌∷◌, ◌++◌, Option, Some, None, option_to_list, option_map, unwrap_or, Result, Ok, Err, slice_get}
use Rattle.wild_records.specs.Abi.Relocation.{r_x86_64_pc32, r_x86_64_tlsgd, r_x86_64_tlsld, r_x86_64_gotpc32_tlsdesc, r_x86_64_code_4_gotpc32_tlsdesc, r_x86_64_tlsdesc_call}
use Rattle.wild_types.specs.declared.kind.Machine.{Machine}
use Rattle.wild_types.specs.declared.kind.Machine.TheVariants as machine
use Rattle.wild_types.specs.declared.input.InputRelocation.{InputRelocation}
use Rattle.wild_types.specs.Item.{Item}
use Rattle.wild_types.specs.declared.symbol.Symbol.{Symbol}
use Rattle.wild_types.specs.declared.layout.Layout.{Layout}
use Rattle.wild_slot.specs.Treatment.{flags_at}
use Rattle.wild_relax.specs.declared.reference.RelocationInfo.{RelocationInfo}
use Rattle.wild_relax.specs.declared.reference.UnknownSequence.{UnknownSequence}
use Rattle.wild_relax.specs.declared.row.Row.{Row}
use Rattle.wild_relax.specs.Question.{Question, no_relocation}
use Rattle.wild_relax.specs.Rewrite.{is_skip}
use Rattle.wild_relax.specs.declared.row.Written.TheVariants as written
use Rattle.wild_relax.specs.RewriteX86_64.{rewrite_of, info_by}
use Rattle.wild_relax.specs.Rows.{chosen_row_x86_64}
use Rattle.wild_relax.specs.SequenceAArch64.{words_before}
use Rattle.wild_relax.specs.Relaxation.{chosen_row_of}
use Rattle.wild_types.specs.Addresses.{raw_value}
use Rattle.wild_layout.specs.Merged.{names_merged}

-- `__tls_get_addr` ("ELF Handling For Thread-Local Storage", "Run-Time Handling of TLS")
abbrev pub getter_name : List ℕ
getter_name = 95 ∷ 95 ∷ 116 ∷ 108 ∷ 115 ∷ 95 ∷ 103 ∷ 101 ∷ 116 ∷ 95 ∷ 97 ∷ 100 ∷ 100 ∷ 114 ∷ []

abbrev pub same_names : List ℕ → List ℕ → Bool
same_names [] [] = true
same_names (a ∷ xs) (b ∷ ys) = if a == b then same_names xs ys else false
same_names other name = false

abbrev pub is_getter : Layout → Option ℕ → Bool
is_getter l None = false
is_getter l (Some i) = unwrap_or (option_map (λ (s : Symbol). same_names s.name getter_name) (slice_get l.symbols i)) false

-- what the rows check of a relocation
abbrev pub info_of : Layout → InputRelocation → RelocationInfo
info_of l r = record { number = r.number; offset = r.offset; symbol = r.symbol; addend = r.addend; names_tls_get_addr = is_getter l r.symbol }

abbrev pub nameless : InputRelocation → RelocationInfo
nameless r = record { number = r.number; offset = r.offset; symbol = r.symbol; addend = r.addend; names_tls_get_addr = false }

-- what they check of one of these relocations, whose symbol is i: the flags are those of its definition, and the value is its
-- address in the layout
abbrev pub question_for : Layout → Item → ℕ → List RelocationInfo → ℕ → Question
question_for l s i infos at = record {
  relocations = infos;
  at = at;
  bytes = s.bytes;
  flags = flags_at l i;
  kind = l.kind;
  section_flags = s.flags;
  relax = l.options.relax;
  value = raw_value l i;
  address = s.address;
}

-- ---- x86-64

-- a relocation, if there is one, and the next one
abbrev pub infos_of : Layout → Option InputRelocation → Option InputRelocation → List RelocationInfo
infos_of l r next = option_to_list (option_map (info_of l) r) ++ option_to_list (option_map (info_of l) next)

abbrev pub question_of : Layout → Item → InputRelocation → ℕ → Option InputRelocation → Question
question_of l s r i next = question_for l s i (infos_of l (Some r) next) 0

-- references to thread-local storage that are rewritten in each executable
abbrev pub is_thread_type : ℕ → Bool
is_thread_type n = n == r_x86_64_tlsgd || (n == r_x86_64_tlsld || (n == r_x86_64_gotpc32_tlsdesc || (n == r_x86_64_code_4_gotpc32_tlsdesc || n == r_x86_64_tlsdesc_call)))

-- for a merged string no row applies, as the row's addend would find another string; thread-local types are refused
abbrev pub choice_merged : InputRelocation → Result (Option Row) UnknownSequence
choice_merged r = if is_thread_type r.number then Err (record { number = r.number; written = info_by written.Nothing }) else Ok None

-- the same by the machine
abbrev pub merged_on : Machine → InputRelocation → Result (Option Row) UnknownSequence
merged_on machine.X86_64 r = choice_merged r
merged_on machine.AArch64 r = Ok None

-- the row that applies, or why it is refused. S of an IFUNC is always its stub, so the row for this case of R_X86_64_PC32 is not
-- needed here
unfoldable pub choice_by : Layout → Item → InputRelocation → Option InputRelocation → Option ℕ → Result (Option Row) UnknownSequence
choice_by l s r next None = Ok None
choice_by l s r next (Some i) = if r.number == r_x86_64_pc32 then Ok None else if names_merged l (Some i) then choice_merged r else chosen_row_x86_64 (question_of l s r i next)

abbrev pub choice_of : Layout → Item → InputRelocation → Option InputRelocation → Result (Option Row) UnknownSequence
choice_of l s r next = choice_by l s r next r.symbol

-- ---- AArch64

-- relocation i; if there is none, a relocation that does nothing
abbrev pub info_at : List InputRelocation → ℕ → RelocationInfo
info_at rs i = unwrap_or (option_map nameless (slice_get rs i)) no_relocation

-- the relocations from i on that a sequence may have; the same for each relocation of the sequence
abbrev pub infos_from : List InputRelocation → ℕ → List RelocationInfo
infos_from rs i = info_at rs i ∷ info_at rs (i + 1) ∷ info_at rs (i + 2) ∷ info_at rs (i + 3) ∷ []

-- the index of the first relocation of the sequence that relocation i belongs to, by its type
abbrev pub first_of : InputRelocation → ℕ → ℕ
first_of r i = i - words_before r.number

abbrev pub question_around : Layout → Item → ℕ → InputRelocation → ℕ → Question
question_around l s i r symbol = question_for l s symbol (infos_from s.relocations (first_of r i)) (i - first_of r i)

unfoldable pub choice_around_by : Layout → Item → ℕ → InputRelocation → Option ℕ → Result (Option Row) UnknownSequence
choice_around_by l s i r None = Ok None
choice_around_by l s i r (Some symbol) = if names_merged l (Some symbol) then Ok None else chosen_row_of machine.AArch64 (question_around l s i r symbol)

abbrev pub choice_around : Layout → Item → ℕ → InputRelocation → Result (Option Row) UnknownSequence
choice_around l s i r = choice_around_by l s i r r.symbol

-- ---- by the machine

abbrev pub choice_on : Machine → Layout → Item → ℕ → InputRelocation → Result (Option Row) UnknownSequence
choice_on machine.X86_64 l s i r = choice_of l s r (slice_get s.relocations (i + 1))
choice_on machine.AArch64 l s i r = choice_around l s i r

abbrev pub choice_at : Layout → Item → ℕ → Option InputRelocation → Result (Option Row) UnknownSequence
choice_at l s i None = Ok None
choice_at l s i (Some r) = choice_on l.machine l s i r

-- the row for relocation i
abbrev pub choice : Layout → Item → ℕ → Result (Option Row) UnknownSequence
choice l s i = choice_at l s i (slice_get s.relocations i)

-- ---- sequences

-- the row rewrites a whole sequence
abbrev pub takes_next : Result (Option Row) UnknownSequence → Bool
takes_next (Ok (Some row)) = is_skip (rewrite_of row).next
takes_next other = false

-- the previous relocation's row includes it
abbrev pub is_partner : Layout → Item → ℕ → Bool
is_partner l s zero = false
is_partner l s (suc i) = takes_next (choice l s i)

-- rows of that relocation type rewrite a whole sequence; on AArch64 each word has its own relocation
abbrev pub may_take_next : ℕ → Bool
may_take_next n = n == r_x86_64_tlsgd || n == r_x86_64_tlsld

abbrev pub takes_along : Option InputRelocation → Bool
takes_along r = unwrap_or (option_map (λ (x : InputRelocation). may_take_next x.number) r) false

-- the previous relocation is of such a type
abbrev pub may_be_partner : List InputRelocation → ℕ → Bool
may_be_partner rs zero = false
may_be_partner rs (suc i) = takes_along (slice_get rs i)
