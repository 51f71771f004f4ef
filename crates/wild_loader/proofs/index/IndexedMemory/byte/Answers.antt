use Rattle.std.proofs.Common.{◌≡◌, subst, refl}
use Rattle.std.specs.Prelude.{None}
use Rattle.std.proofs.lemmas.Bool.{lt-ltb}
use Rattle.wild_loader.specs.declared.memory.Memory.{Memory}
use Rattle.wild_loader.specs.Index.{place_of}
use Rattle.wild_loader.specs.Memory.{byte_in}
use Rattle.wild_loader.proofs.IndexLemmas.{nowhere}
use Rattle.wild_loader.proofs.index.IndexedMemory.byte.Goals as goal

pub returns-in_default : goal.returns-in_default
returns-in_default c =
    let none : place_of c.self.inside.runs.items c.args.address ≡ None = cc in
    let out = nowhere c.self.inside.runs.items c.args.address none in
    let t = lt-ltb _ _ c.if-address.false in
    let P : Memory → Type 0 = λ m. None ≡ byte_in m c.args.address in
    subst P c.self.view_is (rw (t, out.byte) refl)
