-- The verdict of parts of the checker is that of the whole.
use Rattle.wild_checker.proofs.Common.{◌≡◌, ℕ, List, true, false, refl, subst, sym, Result, Ok, Err, Layout, Outline, Symbolic}
use Rattle.wild_types.specs.Kinds.{is_partial_link}
use Rattle.wild_loader.specs.declared.fault.LoadFault.{LoadFault}
use Rattle.wild_loader.specs.declared.fault.LoadFault.TheVariants as faults
use Rattle.wild_terms.specs.Symbolic.{IsLoadedBy, terms_of}
use Rattle.wild_checker.specs.declared.verdict.Doubt.TheVariants as doubts
use Rattle.wild_checker.specs.declared.verdict.Verdict.{Verdict}
use Rattle.wild_checker.specs.declared.verdict.Verdict.TheVariants.{No}
use Rattle.wild_checker.specs.Outline.{IsOutlineOf}
use Rattle.wild_checker.specs.Verdict.{IsSegmentVerdict, IsRefusal, IsReadVerdict, IsOutlined, IsAnswer}

pub partial : (l : Layout) (image : List ℕ) → is_partial_link l.kind ≡ true → IsAnswer l image (No doubts.Partial)
partial l image e = rw e refl

pub not_partial : (l : Layout) (image : List ℕ) (v : Verdict) → is_partial_link l.kind ≡ false → IsOutlined l image v → IsAnswer l image v
not_partial l image v e h = rw e h

pub loaded : (l : Layout) (image : List ℕ) (o : Outline) (t : Symbolic) (v : Verdict) → IsOutlineOf l o → IsLoadedBy (terms_of o image) (Ok t) → IsSegmentVerdict l o image t v → IsOutlined l image v
loaded l image o t v is h said =
    let P : Result Symbolic LoadFault → Type 0 = λ r. IsReadVerdict l o image r v in
    record { outline = o; is = is; said = subst P (sym h.1) (record { sorted = t; order = h.2; verdict = said }) }

pub refused : (l : Layout) (image : List ℕ) (o : Outline) (f : LoadFault) (v : Verdict) → IsOutlineOf l o → IsLoadedBy (terms_of o image) (Err f) → IsRefusal f v → IsOutlined l image v
refused l image o f v is h said = record { outline = o; is = is; said = by_fault f h said }
  where
    here : (f : LoadFault) → terms_of o image ≡ Err f → IsRefusal f v → IsReadVerdict l o image (terms_of o image) v
    here f e h = let P : Result Symbolic LoadFault → Type 0 = λ r. IsReadVerdict l o image r v in subst P (sym e) h

    by_fault : (f : LoadFault) → IsLoadedBy (terms_of o image) (Err f) → IsRefusal f v → IsReadVerdict l o image (terms_of o image) v
    by_fault faults.OutOfMemory h said = absurd said
    by_fault faults.NotElf h said = here faults.NotElf h said
    by_fault (faults.Cut n) h said = here (faults.Cut n) h said
    by_fault (faults.NoTable n) h said = here (faults.NoTable n) h said
    by_fault (faults.UnknownDynamic n) h said = here (faults.UnknownDynamic n) h said
    by_fault (faults.UnknownSymbol n) h said = here (faults.UnknownSymbol n) h said
    by_fault (faults.NoAnswer n) h said = here (faults.NoAnswer n) h said
    by_fault (faults.Unloaded n) h said = here (faults.Unloaded n) h said
    by_fault (faults.Wraps n) h said = here (faults.Wraps n) h said
    by_fault (faults.Overlap n) h said = here (faults.Overlap n) h said

-- a fault other than OutOfMemory refuses the image
pub refusal : (f : LoadFault) → (f ≡ faults.OutOfMemory → ⊥) → IsRefusal f (No (doubts.Load f))
refusal faults.OutOfMemory h = h refl
refusal faults.NotElf h = refl
refusal (faults.Cut n) h = refl
refusal (faults.NoTable n) h = refl
refusal (faults.UnknownDynamic n) h = refl
refusal (faults.UnknownSymbol n) h = refl
refusal (faults.NoAnswer n) h = refl
refusal (faults.Unloaded n) h = refl
refusal (faults.Wraps n) h = refl
refusal (faults.Overlap n) h = refl
