use Rattle.wild_placer.proofs.Common.{subst, IfSome, IfNone, nat_cmp, get, Placements}
use Rattle.wild_placer.specs.Placed.{IsFree, IsByte, AreApart}
use Rattle.wild_placer.proofs.PlacedLemmas.{read_run, is_free, are_apart}
use Rattle.wild_placer.proofs.placed.Placed.byte.Goals as goal

pub returns-in-Some-clause-byte : goal.returns-in-Some-clause-byte
returns-in-Some-clause-byte c =
    let P : Placements → Type 0 = λ p. IfSome c.read_byte.result (λ b. IsByte p c.args.address b) in
    subst P c.self.view_is (read_run c.self.inside.next c.args.address _ c.in-Some.run' c.self.inside.live (get nat_cmp c.self.inside.starts) c.read_byte.result c.self.invariant c.ranges.address.fits c.in-Some.ensures.some c.read_byte.ensures).0

pub returns-in-Some-clause-none : goal.returns-in-Some-clause-none
returns-in-Some-clause-none c =
    let P : Placements → Type 0 = λ p. IfNone c.read_byte.result (IsFree p c.args.address) in
    subst P c.self.view_is (read_run c.self.inside.next c.args.address _ c.in-Some.run' c.self.inside.live (get nat_cmp c.self.inside.starts) c.read_byte.result c.self.invariant c.ranges.address.fits c.in-Some.ensures.some c.read_byte.ensures).1

pub returns-in-Some-clause-apart : goal.returns-in-Some-clause-apart
returns-in-Some-clause-apart c = subst AreApart c.self.view_is (are_apart c.self.inside.next c.self.inside.live (get nat_cmp c.self.inside.starts) c.self.invariant)

pub returns-in-None-clause-none : goal.returns-in-None-clause-none
returns-in-None-clause-none c =
    let P : Placements → Type 0 = λ p. IsFree p c.args.address in
    subst P c.self.view_is (is_free c.self.inside.next c.args.address c.self.inside.live (get nat_cmp c.self.inside.starts) c.self.invariant c.in-None.ensures.none)

pub returns-in-None-clause-apart : goal.returns-in-None-clause-apart
returns-in-None-clause-apart c = subst AreApart c.self.view_is (are_apart c.self.inside.next c.self.inside.live (get nat_cmp c.self.inside.starts) c.self.invariant)
