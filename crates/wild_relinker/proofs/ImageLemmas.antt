-- The image of a changed layout, by that of the layout before the change.
use Rattle.std.proofs.Common.{◌≡◌, ℕ, zero, suc, min, nat_lt, inl, inr, ◌+◌, ◌-◌, ◌^◌, ◌<◌, ◌≤◌, not, ◌&&◌, Bool, true, false, List, [], ◌∷◌, map, length, All, if◌then◌else◌, refl, sym, ap, ◌∙◌, arith, subst}
use Rattle.std.specs.Prelude.{Option, Some, None, slice_get}
use Rattle.std.proofs.lemmas.Bool.{cases_Bool, ltb-true, ltb-false, lt-ltb, le-ltb}
use Rattle.wild_words.specs.Overlay.{AreDisjoint, overlay}
use Rattle.wild_words.proofs.OverlayLemmas.{length-overlay}
use Rattle.wild_types.specs.declared.input.InputSection.{InputSection}
use Rattle.wild_types.specs.declared.file.File.{File}
use Rattle.wild_types.specs.declared.file.Group.{Group}
use Rattle.wild_types.specs.declared.layout.Layout.{Layout}
use Rattle.wild_types.specs.declared.part.Role.TheVariants as role
use Rattle.wild_types.specs.declared.section.Section.{Section}
use Rattle.wild_types.specs.HeaderOnly.{is_omitted}
use Rattle.wild_types.specs.Kinds.{is_partial_link}
use Rattle.wild_types.specs.Lists.{total}
use Rattle.wild_types.specs.Lookups.{header_only, image_size, is_counted, section_of, section_of_part}
use Rattle.wild_types.specs.Parts.{part_with}
use Rattle.wild_change.specs.declared.change.Change.{Change}
use Rattle.wild_change.specs.Outline.{outline}
use Rattle.wild_change.specs.Change.{found_section, with_item, changed_section, changed_file, changed_group, changed_layout}
use Rattle.wild_plan_rules.specs.ClauseTests.{check_sizes, check_counts}
use Rattle.wild_plan_rules.specs.Places.{relocations_in, relocations_of, relocation_count}
use Rattle.wild_plan_rules.specs.WellFormed.{first_clause}
use Rattle.wild_plan_rules.proofs.ClauseLemmas.{first_holds, rest_holds}
use Rattle.wild_layout.specs.Faults.{errors}
use Rattle.wild_layout.specs.Geometry.{IsLaidOut, LayoutsAreLaidOut}
use Rattle.wild_layout.specs.Image.{group_pieces, pieces, padding, bytes, counted, count_of, counts}
use Rattle.wild_layout.specs.Warnings.{warnings}
use Rattle.wild_layout.proofs.LayoutLemmas.{length-padding}
use Rattle.wild_outlines.specs.ChangedLaws.{ChangedBytes, ChangedCounts, ChangedTotal}
use Rattle.wild_outlines.specs.RefusalLaws.{RefusalsByGroup}
use Rattle.wild_outlines.specs.ValueLaws.{WarningsByOutline}
use Rattle.wild_outlines.proofs.ChangedItems.{FoundSection, total-at, outline-changed, same_by_outline}
use Rattle.wild_outlines.proofs.ChangedLemmas.{none_before}
use Rattle.wild_outlines.proofs.ClausesTests.{image_size-outline}
use Rattle.wild_image.proofs.CountLemmas.{counted-le, total_le}
use Rattle.wild_image.proofs.OutputLemmas.{few_lists}
use Rattle.wild_image.specs.Prepared.{IsPrepared}
use Rattle.wild_relinker.specs.Changed.{corrected_counts, AwaitsGroup, IsSameImage}
use Rattle.wild_relinker.specs.Find.{with_contents_of, IsNamed}
use Rattle.wild_relinker.specs.Linked.{IsWritten, IsImage}
use Rattle.wild_relinker.specs.declared.linked.Image.{Image}
use Rattle.wild_relinker.specs.declared.find.NamedSection.{NamedSection}
use Rattle.wild_relinker.specs.declared.linked.WrittenImage.{WrittenImage}
use Rattle.wild_relinker.proofs.FindLemmas.{CanChange, changed_parts}

-- ---- numbers of relocations

-- a layout without faults has few relocations
pub few_relocations : (l : Layout) → errors l ≡ [] → relocation_count l < 2 ^ 32 - 1
unfolding first_clause
few_relocations l none = (few_lists l (first_holds (check_counts l) _ (rest_holds (check_sizes l) _ (none_before l none).0))).0

-- no section is counted more relocations than there are
count_below : (l : Layout) (k : ℕ) → count_of l k ≤ relocation_count l
count_below l k = by (is_partial_link l.kind)
  where
    by : (b : Bool) → (if b then 0 else total (λ (g : Group). total (λ (f : File). total (counted l k) f.sections) g.files) l.groups) ≤ relocation_count l
    by true = omega arith
    by false =
        total_le (λ (g : Group). total (λ (f : File). total (counted l k) f.sections) g.files) relocations_of
        (λ g. total_le (λ (f : File). total (counted l k) f.sections) relocations_in (λ f. total_le (counted l k) (λ (s : InputSection). length s.relocations) (counted-le l k) f.sections) g.files)
        l.groups

each_below : (f : ℕ → ℕ) (n : ℕ) → ((k : ℕ) → f k < n) → (xs : List ℕ) → All (λ k. k < n) (map f xs)
each_below f n h [] i d low = absurd (omega (arith, low))
each_below f n h (x ∷ xs) zero d low = h x
each_below f n h (x ∷ xs) (suc i) d low = each_below f n h xs i d (omega (arith, low))

pub counts_below : (l : Layout) → errors l ≡ [] → All (λ k. k < 2 ^ 32) (counts l)
unfolding counts
counts_below l none =
    let few = few_relocations l none in
    each_below (count_of l) (2 ^ 32) (λ k. (let e = count_below l k in omega (arith, e, few))) _

-- a section has no more relocations than the layout
pub relocations_within : (l : Layout) (c : Change) (s : InputSection) → FoundSection l c s → length s.relocations ≤ relocation_count l
relocations_within l c s p =
    let a : length s.relocations ≤ relocations_in p.file = total-at (λ (x : InputSection). length x.relocations) c.section p.file.sections s p.in_file in
    let b : relocations_in p.file ≤ relocations_of p.group = total-at relocations_in c.file p.group.files p.file p.in_group in
    let d : relocations_of p.group ≤ relocation_count l = total-at relocations_of c.group l.groups p.group p.in_layout in
    omega (arith, a, b, d)

-- ---- counts

header_only-changed : (l : Layout) (c : Change) (o : Option Section) → header_only (changed_layout l c) o ≡ header_only l o
header_only-changed l c None = refl
header_only-changed l c (Some k) = refl

is_omitted-changed : (l : Layout) (c : Change) (s : InputSection) → is_omitted (changed_layout l c) s ≡ is_omitted l s
is_omitted-changed l c s =
    rw (header_only-changed l c (slice_get l.sections (section_of_part (part_with role.EhFrame l.parts))), header_only-changed l c (slice_get l.sections (section_of l s.part))) refl

-- the counts with those of the changed section, if its relocations are counted
abbrev counts_if : Layout → Change → InputSection → List ℕ → Bool → List ℕ
counts_if l c s ks omitted =
    if not (is_partial_link l.kind) && (is_counted s && not omitted)
    then with_item (λ n. n + length c.relocations - length s.relocations) (section_of l s.part) ks
    else ks

corrected-changed : (l : Layout) (c : Change) (s : InputSection) (ks : List ℕ) → corrected_counts (changed_layout l c) (changed_section c s) (length s.relocations) ks ≡ counts_if l c s ks (is_omitted l s)
corrected-changed l c s ks = ap (counts_if l c s ks) (is_omitted-changed l c (changed_section c s))

-- ---- the image

pieces_are_disjoint : (l : Layout) → IsLaidOut l → AreDisjoint (length (padding l)) (pieces l)
pieces_are_disjoint l laid = subst (λ (n : ℕ). AreDisjoint n (pieces l)) (sym (length-padding l)) laid.owners

pub length-bytes : (l : Layout) → IsLaidOut l → length (bytes l) ≡ image_size l
unfolding bytes
length-bytes l laid = length-overlay (pieces l) (padding l) (pieces_are_disjoint l laid) ∙ length-padding l

pub laid_out : LayoutsAreLaidOut → (l : Layout) → errors l ≡ [] → IsLaidOut l
laid_out law l none = let b = none_before l none in law l b.0 b.1

-- what was written before the change awaits the changed group
pub AwaitsGroup-from_change : LayoutsAreLaidOut → RefusalsByGroup → ChangedBytes → ChangedCounts → ChangedTotal
    → (l : Layout) (c : Change) (s : InputSection) (p : FoundSection l c s) (w : WrittenImage) → found_section l c ≡ Some s → length c.bytes ≡ length s.bytes → errors l ≡ [] → IsWritten l w
    → AwaitsGroup (changed_layout l c) c.group (changed_group c p.group) (changed_file c p.file) (changed_section c s) (length s.relocations) w
AwaitsGroup-from_change laid refusals image number sum l c s p w found n none h =
    let m = changed_layout l c in
    let f = refusals l c s p.group p.file found n p.in_layout p.in_group none in
    let within = relocations_within l c s p in
    let all = h.relocations in
    let more = sum l c s found in
    record {
      faults = record { clause = f.clause; shares = f.shares; errors = f.errors };
      size = ap length h.bytes ∙ (length-bytes l (laid_out laid l none) ∙ sym (same_by_outline image_size image_size-outline l m (outline-changed l c s found n)));
      bytes = λ after. image l c s p.group found n p.in_layout (laid_out laid l none) (laid_out laid m after) ∙ ap (overlay (group_pieces m c.group (changed_group c p.group))) (sym h.bytes);
      counts = number l c s found ∙ (sym (corrected-changed l c s (counts l)) ∙ ap (corrected_counts m (changed_section c s) (length s.relocations)) (sym h.counts));
      small_counts = subst (λ (ks : List ℕ). All (λ k. k < 2 ^ 32) ks) (sym h.counts) (counts_below l none);
      old_count = omega (arith, within, all);
      relocations = omega (arith, more, all);
    }

-- the same for the section that was found after the change
pub AwaitsGroup-found : LayoutsAreLaidOut → RefusalsByGroup → ChangedBytes → ChangedCounts → ChangedTotal
    → (l : Layout) (c : Change) (s : InputSection) (m : Layout) (d : Change) (x : NamedSection) (w : WrittenImage) → CanChange l c s → m ≡ changed_layout l c → d ≡ with_contents_of s c → IsNamed m d x → errors l ≡ [] → IsWritten l w
    → AwaitsGroup m d.group x.group.now x.file.now x.section.now (length s.relocations) w
AwaitsGroup-found laid refusals image number sum l c s m d x w h e u named none written =
    let q = changed_parts l c s m d x h e u named in
    rw (q.group, q.file, q.section, e, u) (AwaitsGroup-from_change laid refusals image number sum l c s h.place w h.found h.same_length none written)

-- ---- after the group is written

-- the number of relocations is exact
pub relocations_are : (l : Layout) (i : ℕ) (g : Group) (f : File) (s : InputSection) (n : ℕ) (w : WrittenImage) → AwaitsGroup l i g f s n w → errors l ≡ [] → min (2 ^ 64 - 1) (w.relocations - n + length s.relocations) ≡ relocation_count l
relocations_are l i g f s n w h none =
    let few = few_relocations l none in
    let old = h.old_count in
    let all = h.relocations in
    omega (arith, few, old, all)

pub few_of_section : (l : Layout) (i : ℕ) (g : Group) (f : File) (s : InputSection) (n : ℕ) (w : WrittenImage) → AwaitsGroup l i g f s n w → errors l ≡ [] → length s.relocations < 2 ^ 32
few_of_section l i g f s n w h none =
    let few = few_relocations l none in
    let old = h.old_count in
    let all = h.relocations in
    omega (arith, few, old, all)

-- whether these are few, by the number that is kept below 2^64
pub few_by_number : (l : Layout) (i : ℕ) (g : Group) (f : File) (s : InputSection) (n : ℕ) (w : WrittenImage) (r : ℕ) → AwaitsGroup l i g f s n w → r ≡ min (2 ^ 64 - 1) (w.relocations - n + length s.relocations) → nat_lt r (2 ^ 32 - 1) ≡ nat_lt (relocation_count l) (2 ^ 32 - 1)
few_by_number l i g f s n w r h e =
    let old = h.old_count in
    let all = h.relocations in
    elim (cases_Bool (nat_lt (relocation_count l) (2 ^ 32 - 1))) [
      | inl t ↦ let low = ltb-true _ _ t in lt-ltb r (2 ^ 32 - 1) (omega (arith, e, old, all, low)) ∙ sym t
      | inr t ↦ let high = ltb-false _ _ t in le-ltb r (2 ^ 32 - 1) (omega (arith, e, old, all, high)) ∙ sym t
    ]

-- ---- after a refusal

-- the layout as before, and the same bytes and counts, are an image as before
pub IsImage-restored : (k : Image) (m : Layout) (w : WrittenImage) → IsImage k → m ≡ k.layout → IsSameImage w k.written → IsImage (record { layout = m; prepared = k.prepared; written = w })
IsImage-restored k m w h back same = record {
  faultless = subst (λ (l : Layout). errors l ≡ []) (sym back) h.faultless;
  written = subst (λ (l : Layout). IsWritten l w) (sym back) (record {
    bytes = same.bytes ∙ h.written.bytes;
    counts = same.counts ∙ h.written.counts;
    relocations = same.relocations ∙ h.written.relocations;
  });
  prepared = subst (λ (l : Layout). IsPrepared l k.prepared) (sym back) h.prepared;
}

-- ---- warnings

-- they depend on the outline only
pub warnings_stay : WarningsByOutline → (l m : Layout) → outline m ≡ outline l → warnings m ≡ warnings l
warnings_stay law l m same = law m ∙ (ap warnings same ∙ sym (law l))
