-- The bytes that tables fill in kept sections, before any entry is applied.
use Rattle.wild_loaded.proofs.Common.{all_sections, input_of, ◌≡◌, ℕ, ◌+◌, ◌%◌, ◌^◌, ◌<◌, ◌≤◌, Bool, true, false, length, replicate, refl, sym, ap, ◌∙◌, arith, subst, List, Some, Ok, All, length-replicate, word, length-word, All-each, All-flat_map, Rela, size_width, RelocationSize, InputRelocation, InputSection, item_with, block_for, Layout, KeepsAll, place_of, Decision, Field, RelativeAddress, DynamicField, NumbersFit, IsLaidOut, decided, entry_for, relative_value, IsMoved, IsLegal, IsLoadable, relative_entry, facts_of, processor_of, Change, DynamicKind, World, kind_of, change_of, size_of, Holds, loaded_at, HasDecision, entry_with, HasItem, image_memory, EachDecided, SectionsAreStored, EntriesHaveChanges, of_z-to_z, w64, Relative}
use Rattle.wild_layout.specs.declared.decision.Decision.TheVariants.{Nothing, Rewritten, Partner}
use Rattle.wild_loaded.proofs.Loads.{image_machine}
use Rattle.wild_loader.specs.declared.change.Change.TheVariants as changes
use Rattle.wild_loader.specs.declared.kind.DynamicKind.TheVariants as kinds
use Rattle.wild_loader.specs.FilledLaws.{RelativesStoreWords}
use Rattle.wild_geometry.specs.Loaded.{IsDecided, number_at, MakesChange, stored_bytes, InFile}
use Rattle.wild_loaded.specs.StoredTables.{FillsField}
use Rattle.wild_loaded.proofs.Fillings.{Filling, general_of, HasChange, HasWord, IsKnown, place_loaded}
use Rattle.wild_loaded.proofs.PlacesApart.{all_places}
use Rattle.wild_loaded.proofs.SectionFillings.{moved_filling, section_fillings, Fills}
use Rattle.wild_loaded.proofs.KeptSections.{IsKeptWell}
use Rattle.wild_loaded.proofs.FilledSections.{IsFilledThere, width_some, filling_known, filled_there, place_sum}
use Rattle.wild_loader.specs.declared.memory.Machine.{Machine as Processor}

-- ---- the changes of entries

-- what an entry does does not go by its place
pub change_elsewhere : (w : World) (kind : DynamicKind) (e f : Rela) → e.symbol ≡ f.symbol → e.addend ≡ f.addend → change_of w kind e ≡ change_of w kind f
unfolding change_of
change_elsewhere w kinds.Relative e f s a = rw a refl
change_elsewhere w kinds.Symbol e f s a = rw s refl
change_elsewhere w kinds.SymbolPlus e f s a = rw (s, a) refl
change_elsewhere w kinds.Resolved e f s a = rw a refl
change_elsewhere w kinds.Module e f s a = rw s refl
change_elsewhere w kinds.ModuleOffset e f s a = rw (s, a) refl
change_elsewhere w kinds.ThreadOffset e f s a = rw (s, a) refl
change_elsewhere w kinds.Descriptor e f s a = rw (s, a) refl
change_elsewhere w kinds.Copy e f s a = rw s refl
change_elsewhere w kinds.Size32 e f s a = rw (s, a) refl
change_elsewhere w kinds.Size64 e f s a = rw (s, a) refl

-- the entry makes a loader of the processor do that
pub record MakesThat (p : Processor) (w : World) (e : Rela) (c : Change) : Type 0 where
  pub kind : DynamicKind
  pub known : kind_of p e.number ≡ Some kind
  pub made : change_of w kind e ≡ Ok c

pub makes_that : (p : Processor) (w : World) (e : Rela) (number symbol addend : ℕ) (c : Change) → e.number ≡ number → e.symbol ≡ symbol → e.addend ≡ (entry_with number symbol addend).addend → MakesChange p w number symbol addend c → MakesThat p w e c
makes_that p w e number symbol addend c en es ea h = record {
  kind = h.kind;
  known = ap (λ (n : ℕ). kind_of p n) en ∙ h.known;
  made = change_elsewhere w h.kind e (entry_with number symbol addend) es ea ∙ h.makes;
}

pub has_change : (l : Layout) (w : World) (e : Rela) (c : Change) (n : ℕ) → MakesThat (processor_of l.machine) w e c → size_of c ≡ n → HasChange (image_memory l w).machine w e n
has_change l w e c n h size = record { kind = h.kind; known = subst (λ (p : Processor). kind_of p e.number ≡ Some h.kind) (sym (image_machine l w)) h.known; change = c; made = h.made; size = size }

-- the entry of a field
pub field_makes : (p : Processor) (w : World) (at number symbol addend : ℕ) (z : RelocationSize) → (h : FillsField p w z number symbol addend) → MakesThat p w (entry_for at number symbol addend) h.change
field_makes p w at number symbol addend z h =
    let n = h.type_fits in
    let i = h.index_fits in
    makes_that p w (entry_for at number symbol addend) number symbol addend h.change (omega (arith, n)) (omega (arith, i)) refl h.makes

-- it stores a number in a field that has bytes
pub stored_size : (c : Change) (n : ℕ) → 1 ≤ n → length (stored_bytes c) ≡ n → size_of c ≡ n
stored_size (changes.Word v) n some e = sym (length-word 8 v) ∙ e
stored_size (changes.Half v) n some e = sym (length-word 4 v) ∙ e
stored_size (changes.Fill bytes) n some e = absurd (omega (arith, some, e))
stored_size (changes.Add v) n some e = absurd (omega (arith, some, e))
stored_size (changes.Descriptor o) n some e = absurd (omega (arith, some, e))

-- what relative entries store
pub record RelativeLaws : Type 0 where
  pub relatives : RelativesStoreWords

pub relative_makes : (l : Layout) (w : World) (at v : ℕ) → RelativeLaws → v < 2 ^ 64 → MakesThat (processor_of l.machine) w (relative_entry l at v) (changes.Word ((w.base + v) % 2 ^ 64))
relative_makes l w at v laws fits = record {
  kind = kinds.Relative;
  known = (facts_of l.machine).entries Relative;
  made = laws.relatives w (relative_entry l at v) ∙ ap (λ (n : ℕ). Ok (changes.Word ((w.base + n) % 2 ^ 64))) (of_z-to_z w64 v fits);
}

-- ---- the bytes before

-- what the crates below owe of sections
pub record SectionLaws : Type 0 where
  pub stored : SectionsAreStored
  pub changes : EntriesHaveChanges
  pub relative : RelativeLaws

pub before : (l : Layout) (w : World) (block : ℕ) (s : InputSection) → SectionsAreStored → IsLoadable l.kind → IsLegal l w → IsLaidOut l → IsKeptWell l block s → HasItem l w (image_memory l w) (item_with block s) InFile
before l w block s law kind legal laid well =
    let own = well.own in
    let decisions = subst (λ (k : ℕ). IsDecided l (item_with k s)) own well.decisions in
    subst (λ (k : ℕ). HasItem l w (image_memory l w) (item_with k s) InFile) (sym own) (law l w s kind legal laid well.kept decisions)

pub value_low : (l : Layout) (block : ℕ) (s : InputSection) (r : InputRelocation) (v : ℕ) (packed : Bool) → IsMoved l (item_with block s) r v packed → v < 2 ^ 64
value_low l block s r v packed a = subst (λ (n : ℕ). n < 2 ^ 64) a.value (omega arith)

number_low : (w : World) (b : Bool) (n : ℕ) → n < 2 ^ 64 → number_at InFile w n b < 2 ^ 64
number_low w true n h = h
number_low w false n h = omega arith

filling_there : (l : Layout) (w : World) (block : ℕ) (s : InputSection) (x : Filling) → SectionLaws → IsLoadable l.kind → NumbersFit l → IsLegal l w → IsLaidOut l → IsFilledThere l block s x → IsKnown w (image_memory l w) x
filling_there l w block s x laws kind numbers legal laid h = by_decision h.by.decision h.by.made h.has h.by.fills
  where
    low : 1 ≤ x.width → w.base + x.entry.offset + x.width ≤ 2 ^ 64
    low some =
        let ends = h.ends in
        let sum = place_sum l block s x h in
        let full = h.well.full in
        let room = (before l w block s laws.stored kind legal laid h.well).ends (omega (arith, ends, some)) in
        omega (arith, ends, sum, full, room)

    place_is : 1 ≤ x.width → w.base + s.address + h.filling.relocation.offset ≡ loaded_at w x.entry.offset
    place_is some =
        let sum = place_sum l block s x h in
        let at = place_loaded w x.entry.offset x.width some (low some) in
        omega (arith, sum, at)

    moved : (v : ℕ) (packed : Bool) → HasDecision l (item_with block s) h.filling.index h.filling.relocation (RelativeAddress v packed) → x ≡ moved_filling l s h.filling.relocation packed → IsMoved l (item_with block s) h.filling.relocation v packed → IsKnown w (image_memory l w) x
    moved v true has e f =
        let low_v = value_low l block s h.filling.relocation v true f in
        let eight : x.width ≡ 8 = ap (λ (y : Filling). y.width) e in
        let held = subst (λ (a : ℕ). Holds (image_memory l w) a (word 8 v)) (place_is (omega (arith, eight))) ((before l w block s laws.stored kind legal laid h.well).addresses h.filling.index h.filling.relocation v true has) in
        let word_held : HasWord w (image_memory l w) x.entry.offset = record { value = v; fits = low_v; held = held } in
        let P : Filling → Type 0 = λ y. (1 ≤ y.width → w.base + y.entry.offset + y.width ≤ 2 ^ 64) → HasWord w (image_memory l w) y.entry.offset → IsKnown w (image_memory l w) y in
        subst P (sym e) (λ below there. record { low = below; old = word 8 there.value; wide = length-word 8 there.value; held = there.held; makes = (refl, there) }) low word_held
    moved v false has e f =
        let eight : x.width ≡ 8 = ap (λ (y : Filling). y.width) e in
        let held = subst (λ (a : ℕ). Holds (image_memory l w) a (word 8 0)) (place_is (omega (arith, eight))) ((before l w block s laws.stored kind legal laid h.well).addresses h.filling.index h.filling.relocation v false has) in
        let small : relative_value l h.filling.relocation < 2 ^ 64 = omega arith in
        let made' = relative_makes l w (place_of s.address h.filling.relocation) (relative_value l h.filling.relocation) laws.relative small in
        let change : HasChange (image_memory l w).machine w (relative_entry l (place_of s.address h.filling.relocation) (relative_value l h.filling.relocation)) 8 = has_change l w _ _ 8 made' refl in
        let P : Filling → Type 0 = λ y. (1 ≤ y.width → w.base + y.entry.offset + y.width ≤ 2 ^ 64) → Holds (image_memory l w) (loaded_at w y.entry.offset) (word 8 0) → IsKnown w (image_memory l w) y in
        subst P (sym e) (λ below there. record { low = below; old = word 8 0; wide = length-word 8 0; held = there; makes = change }) low held

    left : (z : RelocationSize) (n symbol addend : ℕ) → decided l (item_with block s) h.filling.relocation ≡ Ok (DynamicField z n symbol addend) → HasDecision l (item_with block s) h.filling.index h.filling.relocation (DynamicField z n symbol addend) → x ≡ general_of (entry_for (place_of s.address h.filling.relocation) n symbol addend) (size_width z) → IsKnown w (image_memory l w) x
    left z n symbol addend made has e =
        let some = width_some l block s x h in
        let b = (before l w block s laws.stored kind legal laid h.well).left h.filling.index h.filling.relocation z n symbol addend has in
        let width : x.width ≡ size_width z = ap (λ (y : Filling). y.width) e in
        let zeros = subst (λ (bs : List ℕ). Holds (image_memory l w) (w.base + s.address + h.filling.relocation.offset) bs) b.2 b.1 in
        let held = subst (λ (a : ℕ). Holds (image_memory l w) a (replicate (size_width z) 0)) (place_is some) zeros in
        let fills = laws.changes.left l w (item_with block s) h.filling.relocation z n symbol addend numbers legal laid made in
        let change = has_change l w _ fills.change (size_width z) (field_makes (processor_of l.machine) w (place_of s.address h.filling.relocation) n symbol addend z fills) (stored_size fills.change (size_width z) (omega (arith, some, width)) fills.width) in
        let P : Filling → Type 0 = λ y. (1 ≤ y.width → w.base + y.entry.offset + y.width ≤ 2 ^ 64) → Holds (image_memory l w) (loaded_at w y.entry.offset) (replicate (size_width z) 0) → IsKnown w (image_memory l w) y in
        subst P (sym e) (λ below there. record { low = below; old = replicate (size_width z) 0; wide = length-replicate (size_width z) 0; held = there; makes = change }) low held

    by_decision : (d : Decision) → decided l (item_with block s) h.filling.relocation ≡ Ok d → HasDecision l (item_with block s) h.filling.index h.filling.relocation d → Fills l block s h.filling.relocation x d → IsKnown w (image_memory l w) x
    by_decision Nothing made has f = absurd f
    by_decision (Field z v) made has f = absurd f
    by_decision (RelativeAddress v packed) made has f = moved v packed has f.0 f.1
    by_decision (DynamicField z n symbol addend) made has f = left z n symbol addend made has f
    by_decision (Rewritten row v) made has f = absurd f
    by_decision Partner made has f = absurd f

-- so it is with all of them
pub sections_known : (l : Layout) (w : World) → SectionLaws → KeepsAll l → IsLoadable l.kind → NumbersFit l → IsLegal l w → IsLaidOut l → EachDecided l → All (IsKnown w (image_memory l w)) (all_places l (section_fillings l))
sections_known l w laws keeps kind numbers legal laid decided =
    All-flat_map (IsKnown w (image_memory l w)) (section_fillings l) (all_sections l)
    (All-each (λ (s : InputSection). All (IsKnown w (image_memory l w)) (section_fillings l s)) (all_sections l) (λ s c. All-each (IsKnown w (image_memory l w)) (section_fillings l s) (λ x cx. filling_there l w (block_for l (input_of l s c).owner s) s x laws kind numbers legal laid (filled_there l s x keeps laid decided (input_of l s c) (filling_known l s x cx)))))
