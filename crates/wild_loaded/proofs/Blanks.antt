-- Input sections without data, in sections that have bytes in the file: their bytes are zeros, and stay so.
use Rattle.wild_loaded.proofs.Common.{not_partial, flat_map, IsPlacedSection, listed_section, ◌≡◌, ℕ, ◌+◌, ◌<◌, ◌≤◌, ◌==◌, Bool, true, false, not, ◌&&◌, List, [], length, replicate, refl, sym, ap, ◌∙◌, arith, subst, Option, Some, All, if◌then◌else◌, option_to_list, ne_eqb, length-replicate, get_or-replicate, All-nil, Part, Section, InputRelocation, InputSection, File, Layout, section_of_part, has_data, is_header_only_part, is_loaded, is_filled, allocated, section_bytes, bytes, IsLaidOut, Memory, World, byte_in, BytesAreLoaded, IsLoadable, alloc_bit, IsStored, image_memory, Filled, BlanksAreStored}
use Rattle.wild_placement.specs.PlacedSections.{as_loaded}
use Rattle.wild_geometry.proofs.HeaderOnlyLemmas.{part_is_written}
use Rattle.wild_geometry.proofs.KeptItems.{input_stands, turned_fields}
use Rattle.wild_types.specs.declared.input.Slot.TheVariants as slot
use Rattle.wild_types.specs.Lookups.{without_data, section_of, has_relocations}
use Rattle.wild_meaning.specs.Section.{IsHeaderOnly, HasFileBytes}
use Rattle.wild_meaning.specs.LinkedImage.{IsSectionWithoutData}
use Rattle.wild_loaded.proofs.SectionBytesInMemory.{kept_carried, filled_held}
use Rattle.wild_loaded.proofs.Fillings.{Misses}
use Rattle.wild_loaded.proofs.MadeChanges.{IsMovedImage, kept_at}
use Rattle.wild_loaded.proofs.OutsideTables.{section_misses}
use Rattle.wild_loaded.proofs.SectionFillings.{section_fillings, section_filling}

-- what stands in the part has bytes
has_bytes : (l : Layout) (n : ℕ) → HasFileBytes l n → has_data l (section_of l n) ≡ true
has_bytes l n h =
    let at : section_of l n ≡ h.part.section = ap (λ (o : Option Part). section_of_part o) h.listed in
    let none = ne_eqb _ _ h.filled in
    subst (λ (k : ℕ). has_data l k ≡ true) (sym at) (subst (λ (o : Option Section). not (without_data o) ≡ true) (sym h.found) (ap not none))

-- which are written
bytes_written : (l : Layout) (n : ℕ) → HasFileBytes l n → is_header_only_part l n ≡ false
bytes_written l n h = part_is_written l n (λ p e header_only. (let both : Some p ≡ Some h.part = sym e ∙ h.listed in let is : p ≡ h.part = cc in h.written (subst (IsHeaderOnly l) is header_only)))

-- the section as it stands
pub record StandsBlank (l : Layout) (s : InputSection) : Type 0 where
  pub section : InputSection
  pub input : IsPlacedSection l section
  pub loaded : section.slot ≡ slot.Loaded
  pub blank : section.nobits ≡ true
  pub part : section.part ≡ s.part
  pub address : section.address ≡ s.address
  pub size : section.size ≡ s.size
  pub flags : section.flags ≡ s.flags

blank_stands : (l : Layout) (s : InputSection) → IsLoadable l.kind → IsLaidOut l → IsSectionWithoutData l s → StandsBlank l s
blank_stands l s kind laid b =
    let t = input_stands l s (not_partial l.kind kind) laid b.input b.loaded in
    let e = t.is in
    let same = turned_fields (as_loaded s) in
    record {
      section = t.section;
      input = t.input;
      loaded = ap (λ (x : InputSection). x.slot) e ∙ same.slot;
      blank = ap (λ (x : InputSection). x.nobits) e ∙ same.nobits ∙ b.blank;
      part = ap (λ (x : InputSection). x.part) e ∙ same.part;
      address = ap (λ (x : InputSection). x.address) e ∙ same.address;
      size = ap (λ (x : InputSection). x.size) e ∙ same.size;
      flags = ap (λ (x : InputSection). x.flags) e ∙ same.flags;
    }

blank_filled : (l : Layout) (s : InputSection) → s.slot ≡ slot.Loaded → s.nobits ≡ true → HasFileBytes l s.part → 1 ≤ s.size → is_filled l s ≡ true
blank_filled l s loaded blank f some =
    let size : (s.size == 0) ≡ false = ne_eqb s.size 0 (λ e. omega (arith, e, some)) in
    let there = has_bytes l s.part f in
    let written = bytes_written l s.part f in
    rw (loaded, blank, size, there, written) refl

-- which are zeros
abbrev zeros : InputSection → List ℕ
zeros s = replicate s.size 0

zero_bytes : (l : Layout) (f : File) (s : InputSection) → s.nobits ≡ true → section_bytes l f s ≡ zeros s
unfolding section_bytes
zero_bytes l f s e = rw e refl

blank_stored : (l : Layout) (s : InputSection) → IsLoadable l.kind → IsLaidOut l → IsPlacedSection l s → allocated s.flags ≡ true → is_loaded s.slot ≡ true → is_filled l s ≡ true → 1 ≤ s.size → IsStored l s
blank_stored l s kind laid input room loaded filled some = record { some = some; place = Filled filled; carried = kept_carried l s kind laid input room loaded filled }

pub blanks_stored : BytesAreLoaded → BlanksAreStored
blanks_stored law = λ l w s k kind legal laid b f lt.
    let t = blank_stands l s kind laid b in
    let size = t.size in
    let address = t.address in
    let filled = blank_filled l t.section t.loaded t.blank (subst (HasFileBytes l) (sym t.part) f) (omega (arith, size, lt)) in
    let room = subst (λ (n : ℕ). allocated n ≡ true) (sym t.flags) (alloc_bit s.flags b.room) in
    let long : length (zeros t.section) ≡ t.section.size = length-replicate t.section.size 0 in
    let held = filled_held l w t.section law kind legal laid t.input room (ap is_loaded t.loaded) filled (zeros t.section) (zero_bytes l t.input.owner t.section t.blank) long k (omega (arith, long, size, lt)) in
    let e : w.base + t.section.address + k ≡ w.base + (s.address + k) = omega (arith, address) in
    subst (λ (a : ℕ). byte_in (image_memory l w) a ≡ Some 0) e (held ∙ ap Some (get_or-replicate t.section.size k 0 0 (omega (arith, size, lt))))

-- no entry fills any
unfilled : (l : Layout) (s : InputSection) (a : ℕ) → s.nobits ≡ true → All (Misses a) (section_fillings l s)
unfilled l s a blank =
    let none : section_fillings l s ≡ [] = by_reads (has_relocations s.slot) s.nobits blank in
    subst (All (Misses a)) (sym none) (All-nil (Misses a))
  where
    by_reads : (b n : Bool) → n ≡ true → (if b && not n then flat_map (λ (r : InputRelocation). option_to_list (section_filling l s r)) s.relocations else []) ≡ []
    by_reads true true e = refl
    by_reads false true e = refl
    by_reads b false e = cc

pub blank_moved : (l : Layout) (w : World) (m : Memory) (s : InputSection) (k : ℕ) → BlanksAreStored → IsMovedImage l w m → IsSectionWithoutData l s → HasFileBytes l s.part → k < s.size → byte_in m (w.base + (s.address + k)) ≡ Some 0
blank_moved l w m s k law h b f lt =
    let t = blank_stands l s h.well.kind h.well.laid b in
    let size = t.size in
    let address = t.address in
    let filled = blank_filled l t.section t.loaded t.blank (subst (HasFileBytes l) (sym t.part) f) (omega (arith, size, lt)) in
    let room = subst (λ (n : ℕ). allocated n ≡ true) (sym t.flags) (alloc_bit s.flags b.room) in
    let stored = blank_stored l t.section h.well.kind h.well.laid t.input room (ap is_loaded t.loaded) filled (omega (arith, size, lt)) in
    let same = kept_at l w m (t.section.address + k) h (section_misses l w m t.section k h (listed_section l t.section t.input) stored (omega (arith, size, lt)) (unfilled l t.section (t.section.address + k) t.blank)) in
    let e : t.section.address + k ≡ s.address + k = omega (arith, address) in
    subst (λ (a : ℕ). byte_in m (w.base + a) ≡ byte_in (image_memory l w) (w.base + a)) e same ∙ law l w s k h.well.kind h.well.legal h.well.laid b f lt
