-- What a layout says of the worlds in which its image may be loaded.
--   program_of l      the distance of an executable's thread-local data from the thread pointer
--   known_answers l   the answers for dynamic symbols as far as the layout fixes them: which are the output's own
--   IsOutlineOf l o   o is the outline of a layout
--   WorldsAreOutlined   a legal world of a layout is one of its outline
use Rattle.std.specs.Prelude.{◌≡◌, ℕ, ◌+◌, ◌-◌, ◌%◌, ◌^◌, ◌==◌, ◌&&◌, Bool, not, if◌then◌else◌, nat_lt, List, [], ◌∷◌, length, set, replicate, Option, Some, None, min, max}
use Rattle.std.specs.List.{filter_map}
use Rattle.std.specs.List.Sorted.{IsPermutation}
use Rattle.wild_types.specs.declared.kind.Machine.{Machine}
use Rattle.wild_types.specs.declared.kind.Machine.TheVariants as machine
use Rattle.wild_types.specs.declared.layout.Layout.{Layout}
use Rattle.wild_types.specs.declared.layout.Tls.{Tls}
use Rattle.wild_types.specs.declared.symbol.Resolution.{Resolution}
use Rattle.wild_types.specs.declared.symbol.Symbol.{Symbol}
use Rattle.wild_types.specs.Flags.{has_flag, absolute, ifunc}
use Rattle.wild_types.specs.Kinds.{is_executable, is_position_independent}
use Rattle.wild_types.specs.Lookups.{canonical}
use Rattle.wild_loader.specs.declared.world.World.{World}
use Rattle.wild_meaning.specs.Value.{may_be_replaced}
use Rattle.wild_meaning.specs.World.{IsLoadable, IsLegal}
use Rattle.wild_terms.specs.declared.outline.KnownAnswer.{KnownAnswer}
use Rattle.wild_terms.specs.declared.outline.KnownAnswer.TheVariants.{Foreign, Own}
use Rattle.wild_terms.specs.declared.outline.Outline.{Outline}
use Rattle.wild_terms.specs.declared.term.Atom.TheVariants.{Base}
use Rattle.wild_terms.specs.declared.term.Term.{Term}
use Rattle.wild_terms.specs.Terms.{number_term}
use Rattle.wild_terms.specs.Outline.{HasSortedResolvers}
use Rattle.wild_terms.specs.Values.{IsWorldOf}

abbrev pub end_by : Option ℕ → ℕ
end_by None = 0
end_by (Some i) = min (2 ^ 64 - 1) (i + 1)

abbrev pub index_by : Option Resolution → ℕ
index_by None = 0
index_by (Some r) = end_by r.dynamic_symbol_index

-- one more than the index of a symbol in the dynamic symbol table; 0 without one
abbrev pub index_end : Symbol → ℕ
index_end s = index_by s.resolution

abbrev pub greatest_end : List Symbol → ℕ
greatest_end [] = 0
greatest_end (s ∷ ss) = max (index_end s) (greatest_end ss)

-- the number of answers that an outline has: as many as symbols tell, and at most one more than there are symbols
abbrev pub answer_count : List Symbol → ℕ
answer_count ss = min (greatest_end ss) (min (2 ^ 64 - 1) (length ss + 1))

abbrev pub address_by : Option Resolution → Option ℕ
address_by None = None
address_by (Some r) = Some r.raw_value

-- the address of an IFUNC's resolver
abbrev pub resolver_of : Symbol → Option ℕ
resolver_of s = if has_flag s.flags ifunc then address_by s.resolution else None

-- the lowest multiple of an alignment that is at least n; 0 is no alignment
abbrev pub next_multiple : ℕ → ℕ → ℕ
next_multiple n align = if align == 0 then n else n + (align - n % align) % align

-- the value of the thread pointer if the initial data are used as a thread's own: after the data, or before them by the size of the
-- control block
abbrev pub pointer_of : Machine → Tls → ℕ
pointer_of machine.X86_64 tls = next_multiple tls.end tls.align
pointer_of machine.AArch64 tls = tls.start + (2 ^ 64 - next_multiple 16 tls.align)

-- the distance of an executable's thread-local data from the thread pointer, modulo 2^64 ("ELF Handling For Thread-Local Storage",
-- "Run-Time Handling of TLS"); the distance of a library's depends on the world
abbrev pub program_of : Layout → Option ℕ
program_of l = if is_executable l.kind then Some ((l.tls.start + (2 ^ 64 - pointer_of l.machine l.tls % 2 ^ 64)) % 2 ^ 64) else None

-- ---- the output's own answers

-- the address in the output of a symbol that is defined there
abbrev pub own_address : Layout → Symbol → ℕ → Term
own_address l s a = if is_position_independent l.kind && not (has_flag s.flags absolute) then record { atom = Base; plus = a } else number_term a

-- the answer for such a symbol with resolution r
abbrev pub own_answer : Layout → Symbol → Resolution → KnownAnswer
own_answer l s r = Own (own_address l s r.raw_value) ((r.raw_value + (2 ^ 64 - l.tls.start)) % 2 ^ 64) s.size

-- symbol i, s, is its own definition, no other module may define it, and it is no IFUNC
abbrev pub is_own : Layout → ℕ → Symbol → Bool
is_own l i s = canonical l i == i && (not (may_be_replaced l.kind s.flags) && not (has_flag s.flags ifunc))

abbrev pub with_answer : Option ℕ → KnownAnswer → List KnownAnswer → List KnownAnswer
with_answer None a known = known
with_answer (Some n) a known = if nat_lt n (length known) then set known n a else known

abbrev pub with_resolved : Layout → Symbol → Option Resolution → List KnownAnswer → List KnownAnswer
with_resolved l s None known = known
with_resolved l s (Some r) known = with_answer r.dynamic_symbol_index (own_answer l s r) known

-- answers, with that for symbol i, s, at its index if it is the output's own
abbrev pub with_symbol : Layout → ℕ → Symbol → List KnownAnswer → List KnownAnswer
with_symbol l i s known = if is_own l i s then with_resolved l s s.resolution known else known

-- the same for symbols from i on
abbrev pub with_symbols : Layout → ℕ → List Symbol → List KnownAnswer → List KnownAnswer
with_symbols l i [] known = known
with_symbols l i (s ∷ ss) known = with_symbols l (i + 1) ss (with_symbol l i s known)

-- the answers for dynamic symbols as far as the layout fixes them (gABI, "Symbol Visibility": a symbol that is not preemptible is the component's own)
abbrev pub known_answers : Layout → List KnownAnswer
known_answers l = with_symbols l 0 l.symbols (replicate (answer_count l.symbols) Foreign)

-- the outline of a layout
pub record IsOutlineOf (l : Layout) (o : Outline) : Type 0 where
  pub movable : o.movable ≡ is_position_independent l.kind
  pub program : o.program ≡ program_of l
  pub symbols : o.symbols ≡ known_answers l
  pub resolvers : IsPermutation (filter_map resolver_of l.symbols) o.resolvers
  pub ascend : HasSortedResolvers o

-- a legal world of a layout is one of its outline
abbrev pub WorldsAreOutlined : Type 0
WorldsAreOutlined = (l : Layout) (o : Outline) (w : World) → IsLoadable l.kind → IsOutlineOf l o → IsLegal l w → IsWorldOf o w
