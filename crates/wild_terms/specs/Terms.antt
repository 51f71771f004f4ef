-- Arithmetic of terms. A term is an atom, which a world determines, plus a number modulo 2^64.
--   number_term n     the term of a number
--   atom_term a       the term of an atom
--   sum t n           the term plus a number
--   difference s t    the difference of two terms, if it is the same number in every world
--   same_term s t     the terms have the same atom and the same number
use Rattle.std.specs.Prelude.{ℕ, ◌+◌, ◌-◌, ◌%◌, ◌^◌, ◌==◌, ◌&&◌, Bool, true, false, if◌then◌else◌, Option, Some, None}
use Rattle.wild_terms.specs.declared.term.Atom.{Atom}
use Rattle.wild_terms.specs.declared.term.Atom.TheVariants.{Zero, Base, Address, Module, Offset, ThreadOffset, Size, OwnModule, OwnDistance, Resolver}
use Rattle.wild_terms.specs.declared.term.Term.{Term}

abbrev pub number_term : ℕ → Term
number_term n = record { atom = Zero; plus = n }

abbrev pub atom_term : Atom → Term
atom_term a = record { atom = a; plus = 0 }

abbrev pub sum : Term → ℕ → Term
sum t n = record { atom = t.atom; plus = (t.plus + n) % 2 ^ 64 }

abbrev pub same_atom : Atom → Atom → Bool
same_atom Zero Zero = true
same_atom Base Base = true
same_atom (Address i) (Address j) = i == j
same_atom (Module i) (Module j) = i == j
same_atom (Offset i) (Offset j) = i == j
same_atom (ThreadOffset i) (ThreadOffset j) = i == j
same_atom (Size i) (Size j) = i == j
same_atom OwnModule OwnModule = true
same_atom OwnDistance OwnDistance = true
same_atom (Resolver m) (Resolver n) = m == n
same_atom a b = false

-- the difference of two terms, if it is the same number in every world
abbrev pub difference : Term → Term → Option ℕ
difference s t = if same_atom s.atom t.atom then Some ((s.plus + (2 ^ 64 - t.plus)) % 2 ^ 64) else None

abbrev pub same_term : Term → Term → Bool
same_term s t = same_atom s.atom t.atom && (s.plus == t.plus)
