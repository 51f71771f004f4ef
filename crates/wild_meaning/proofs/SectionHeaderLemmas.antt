-- Section headers of worked images.
use Rattle.wild_meaning.proofs.Common.{◌≡◌, ℕ, zero, suc, ◌+◌, ◌≤◌, List, [], ◌∷◌, length, refl, sym, ap, ◌∙◌, subst, arith, ◌==◌, if◌then◌else◌, Some, None, Ok, slice_get, FileHeader, Section, Layout, sections, DescribesSections}
use Rattle.wild_records.specs.declared.section_header.SectionHeader.{SectionHeader}
use Rattle.wild_meaning.specs.SectionHeaders.{DescribesSection}

-- an image without section headers describes a layout without sections
pub no_sections : (l : Layout) (image : List ℕ) (e : FileHeader) → l.sections ≡ [] → e.section_offset ≡ 0 → DescribesSections l image e
unfolding sections
no_sections l image e none start = record {
  headers = [];
  read = rw start refl;
  number = ap (λ (ss : List Section). length ss) (sym none);
  each = λ k s h later listed there. absurd (let both : None ≡ Some h = there in cc);
}

-- one header after header 0
pub one_section : (l : Layout) (image : List ℕ) (e : FileHeader) (s t : Section) (g h : SectionHeader) → l.sections ≡ s ∷ t ∷ [] → sections image e ≡ Ok (g ∷ h ∷ []) → DescribesSection l t h → DescribesSections l image e
one_section l image e s t g h is read described = record {
  headers = g ∷ h ∷ [];
  read = read;
  number = ap (λ (ss : List Section). length ss) (sym is);
  each = λ k a b later listed there. by k a b later (subst (λ (ss : List Section). slice_get ss k ≡ Some a) is listed) there;
}
  where
    by : (k : ℕ) (a : Section) (b : SectionHeader) → 1 ≤ k → slice_get (s ∷ t ∷ []) k ≡ Some a → slice_get (g ∷ h ∷ []) k ≡ Some b → DescribesSection l a b
    by zero a b later listed there = absurd (omega (arith, later))
    by (suc zero) a b later listed there =
        let section : t ≡ a = (let both : Some t ≡ Some a = listed in cc) in
        let header : h ≡ b = (let both : Some h ≡ Some b = there in cc) in
        subst (λ (x : Section). DescribesSection l x b) section (subst (λ (y : SectionHeader). DescribesSection l t y) header described)
    by (suc (suc k)) a b later listed there = absurd (let both : None ≡ Some a = listed in cc)
