-- Layouts without merged strings, and without the path of an interpreter, have none in memory.
use Rattle.wild_meaning.proofs.Common.{◌≡◌, ℕ, ◌+◌, ◌<◌, List, [], length, subst, arith, Contains, Layout, Memory, World, Holds}
use Rattle.wild_types.specs.declared.layout.Merged.{Merged}
use Rattle.wild_meaning.specs.LinkedImage.{HoldsTexts}

no_merged : (gs : List Merged) (g : Merged) → gs ≡ [] → Contains gs g → ⊥
no_merged gs g none c = (let c' = subst (λ (hs : List Merged). Contains hs g) none c in omega (arith, c'.1))

no_bytes : (m : Memory) (a : ℕ) (bs : List ℕ) → bs ≡ [] → Holds m a bs
no_bytes m a bs none = λ k lt. absurd (let low = subst (λ (cs : List ℕ). k < length cs) none lt in omega (arith, low))

pub no_texts : (l : Layout) (w : World) (m : Memory) → l.interp ≡ [] → l.merged ≡ [] → HoldsTexts l w m
no_texts l w m interp merged = record {
  strings = λ g p c there room written. absurd (no_merged l.merged g merged c);
  interpreter = λ n p is there room written. no_bytes m (w.base + p.address) l.interp interp;
}
