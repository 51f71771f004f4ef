use Rattle.std.proofs.Common.{◌≡◌, List, map, subst, sym, ap, ◌∙◌}
use Rattle.std.specs.Prelude.{None}
use Rattle.wild_words.specs.declared.extents.Extent.{Extent}
use Rattle.wild_loader.specs.declared.memory.Memory.{Memory}
use Rattle.wild_loader.specs.declared.memory.Run.{Run}
use Rattle.wild_loader.specs.Index.{place_of, IsIndexOf}
use Rattle.wild_loader.specs.Runs.{extent_of, put_byte}
use Rattle.wild_loader.proofs.IndexLemmas.{nowhere, extents-put}
use Rattle.wild_loader.proofs.index.IndexedMemory.put.Goals as goal

pub invariant_of-self : goal.invariant_of-self
invariant_of-self c =
    let e = ap (λ (rs : List Run). map extent_of rs) c.put_at.ensures ∙ extents-put c.args.address c.args.byte c.self.inside.runs.items in
    let P : List Extent → Type 0 = λ es. IsIndexOf c.self.inside.index.items es in
    subst P (sym e) c.self.invariant

pub returns-in_default-clause-runs : goal.returns-in_default-clause-runs
returns-in_default-clause-runs c =
    let none : place_of c.self.inside.runs.items c.args.address ≡ None = cc in
    let out = nowhere c.self.inside.runs.items c.args.address none in
    let P : Memory → Type 0 = λ m. m.runs ≡ put_byte c.args.address c.args.byte m.runs in
    subst P c.self.view_is (sym (out.put c.args.byte))
