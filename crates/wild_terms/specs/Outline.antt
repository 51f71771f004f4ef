-- What an entry stores, as a term.
--   based o n               the base plus a number; a fixed output is at base 0
--   own_module o            the own module; an executable is module 1
--   own_distance o          the distance of the own thread-local data from the thread pointer
--   change_terms o kind r   the change of an entry of a kind, as terms; copies are not followed
use Rattle.std.specs.Prelude.{ℕ, ◌==◌, Bool, if◌then◌else◌, Option, Some, None, Result, Ok, Err, slice_get}
use Rattle.std.specs.Int.{cast_unsigned, w64}
use Rattle.std.specs.List.{list_any}
use Rattle.std.specs.List.Sorted.{IsNonDecreasing}
use Rattle.wild_records.specs.declared.relocations.Rela.{Rela}
use Rattle.wild_loader.specs.declared.fault.LoadFault.{LoadFault}
use Rattle.wild_loader.specs.declared.fault.LoadFault.TheVariants as faults
use Rattle.wild_loader.specs.declared.kind.DynamicKind.{DynamicKind}
use Rattle.wild_loader.specs.declared.kind.DynamicKind.TheVariants as kinds
use Rattle.wild_loader.specs.Outcome.{◌>>=◌, known}
use Rattle.wild_terms.specs.declared.term.Atom.TheVariants as atoms
use Rattle.wild_terms.specs.declared.term.Term.{Term}
use Rattle.wild_terms.specs.declared.outline.KnownAnswer.{KnownAnswer}
use Rattle.wild_terms.specs.declared.outline.KnownAnswer.TheVariants as answers
use Rattle.wild_terms.specs.declared.outline.Outline.{Outline}
use Rattle.wild_terms.specs.declared.outline.TermChange.{TermChange}
use Rattle.wild_terms.specs.declared.outline.TermChange.TheVariants as changes
use Rattle.wild_terms.specs.Terms.{number_term, atom_term, sum}

-- the resolvers are in ascending order
abbrev pub HasSortedResolvers : Outline → Type 0
HasSortedResolvers o = IsNonDecreasing o.resolvers

-- ---- the output's own numbers

abbrev pub based : Outline → ℕ → Term
based o n = if o.movable then record { atom = atoms.Base; plus = n } else number_term n

abbrev pub module_by : Option ℕ → Term
module_by None = atom_term atoms.OwnModule
module_by (Some d) = number_term 1

abbrev pub own_module : Outline → Term
own_module o = module_by o.program

abbrev pub distance_by : Option ℕ → Term
distance_by None = atom_term atoms.OwnDistance
distance_by (Some d) = number_term d

abbrev pub own_distance : Outline → Term
own_distance o = distance_by o.program

-- ---- answers for dynamic symbols

abbrev pub answer_for : Outline → ℕ → Result KnownAnswer LoadFault
answer_for o i = known (slice_get o.symbols i) (faults.UnknownSymbol i)

abbrev pub address_of : ℕ → KnownAnswer → Term
address_of i answers.Foreign = atom_term (atoms.Address i)
address_of i (answers.Own address offset size) = address

abbrev pub module_of : Outline → ℕ → KnownAnswer → Term
module_of o i answers.Foreign = atom_term (atoms.Module i)
module_of o i (answers.Own address offset size) = own_module o

abbrev pub offset_of : ℕ → KnownAnswer → Term
offset_of i answers.Foreign = atom_term (atoms.Offset i)
offset_of i (answers.Own address offset size) = number_term offset

abbrev pub thread_offset_of : Outline → ℕ → KnownAnswer → Term
thread_offset_of o i answers.Foreign = atom_term (atoms.ThreadOffset i)
thread_offset_of o i (answers.Own address offset size) = sum (own_distance o) offset

abbrev pub size_of : ℕ → KnownAnswer → Term
size_of i answers.Foreign = atom_term (atoms.Size i)
size_of i (answers.Own address offset size) = number_term size

abbrev pub has_resolver : Outline → ℕ → Bool
has_resolver o n = list_any (λ r. r == n) o.resolvers

abbrev pub resolver_term : Outline → ℕ → Result Term LoadFault
resolver_term o n = if has_resolver o n then Ok (atom_term (atoms.Resolver n)) else Err (faults.NoAnswer n)

-- the module of a dynamic symbol; for symbol 0 the own module
abbrev pub module_term : Outline → ℕ → Result Term LoadFault
module_term o i = if i == 0 then Ok (own_module o) else (answer_for o i >>= λ a. Ok (module_of o i a))

-- the offset of a dynamic symbol from the thread pointer; for symbol 0 that of the own data
abbrev pub thread_offset_term : Outline → ℕ → Result Term LoadFault
thread_offset_term o i = if i == 0 then Ok (own_distance o) else (answer_for o i >>= λ a. Ok (thread_offset_of o i a))

-- ---- entries

abbrev pub addend_of : Rela → ℕ
addend_of r = cast_unsigned w64 r.addend

-- the change of an entry of a kind (x86-64 psABI, "Relocation Types"; aaelf64, "Dynamic relocations"). A copy is not followed: it
-- counts as a place that is used already.
unfoldable pub change_terms : Outline → DynamicKind → Rela → Result TermChange LoadFault
change_terms o kinds.Relative r = Ok (changes.Word (based o (addend_of r)))
change_terms o kinds.Symbol r = answer_for o r.symbol >>= λ a. Ok (changes.Word (address_of r.symbol a))
change_terms o kinds.SymbolPlus r = answer_for o r.symbol >>= λ a. Ok (changes.Word (sum (address_of r.symbol a) (addend_of r)))
change_terms o kinds.Resolved r = resolver_term o (addend_of r) >>= λ t. Ok (changes.Word t)
change_terms o kinds.Module r = module_term o r.symbol >>= λ t. Ok (changes.Word t)
change_terms o kinds.ModuleOffset r = answer_for o r.symbol >>= λ a. Ok (changes.Word (sum (offset_of r.symbol a) (addend_of r)))
change_terms o kinds.ThreadOffset r = thread_offset_term o r.symbol >>= λ t. Ok (changes.Word (sum t (addend_of r)))
change_terms o kinds.Descriptor r = thread_offset_term o r.symbol >>= λ t. Ok (changes.Descriptor (sum t (addend_of r)))
change_terms o kinds.Copy r = Err (faults.Overlap r.offset)
change_terms o kinds.Size32 r = answer_for o r.symbol >>= λ a. Ok (changes.Half (sum (size_of r.symbol a) (addend_of r)))
change_terms o kinds.Size64 r = answer_for o r.symbol >>= λ a. Ok (changes.Word (sum (size_of r.symbol a) (addend_of r)))
