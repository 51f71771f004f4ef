-- Sections as they stand have as many bytes as their size.
use Rattle.wild_geometry.proofs.Common.{◌≡◌, ℕ, ◌+◌, ◌*◌, ◌==◌, Bool, true, false, not, ◌||◌, if◌then◌else◌, List, length, get_or, All, Option, Some, None, slice_get, refl, sym, ap, ◌∙◌, arith, subst, eqb-true, not-true, length-replicate, length-map, All-map, implied, All-from_list_all, holds_at, Slot, InputRelocation, InputSection, File, Layout, is_rela, reversed_offset, reversed_section, with_word_order, rela_with_target, table_has_data, section_bytes, FieldLies, NamesSymbol, is_own}
use Rattle.wild_types.specs.declared.input.Slot.TheVariants as slot
use Rattle.wild_placement.specs.PlacedSections.{base_of, counted_from, relocations_at, target_relocations}
use Rattle.wild_plan_rules.specs.Partial.{is_group, has_entries, table_fits, file_tables_fit}
use Rattle.wild_layout.proofs.DebugLemmas.{length-debug_bytes}
use Rattle.wild_layout.proofs.PartialLemmas.{length-rela_bytes_of, length-group_words, section_bytes_zeros, section_bytes_debug, section_bytes_rela, section_bytes_group}
use Rattle.wild_geometry.proofs.PlacedSectionLemmas.{AllClausesHold}
use Rattle.wild_geometry.proofs.SiteLemmas.{length-section_bytes}
use Rattle.wild_geometry.proofs.StandingLemmas.{EachIn}
use Rattle.wild_geometry.proofs.SectionLemmas.{Holds, Known, each_known, is_whole, length_of_data}
use Rattle.wild_geometry.proofs.StayLemmas.{is_turned}

-- the section has as many bytes as its size, of whatever file it is
abbrev pub IsLong : Layout → InputSection → Type 0
IsLong l s = (f : File) → length (section_bytes l f s) ≡ s.size

long_with_data : (l : Layout) (s : InputSection) → (s.nobits ≡ false → IsLong l s) → IsLong l s
long_with_data l s h f = by s.nobits refl
  where
    by : (b : Bool) → s.nobits ≡ b → length (section_bytes l f s) ≡ s.size
    by true e = ap length (section_bytes_zeros l f s e) ∙ length-replicate s.size 0
    by false e = h e f

-- ---- what is loaded, and what debuggers read

long_debug : (l : Layout) (s : InputSection) → Holds l s → s.slot ≡ slot.Debug → IsLong l s
long_debug l s h e =
    long_with_data l s (λ n f.
    let long = length_of_data l s h (ap is_whole e) n in
    ap length (section_bytes_debug l f s e n) ∙ length-debug_bytes l s (subst (λ (k : ℕ). All (FieldLies l.machine k) s.relocations) (sym long) h.fields) ∙ long)

pub long_turned : (l : Layout) (s : InputSection) → Holds l s → is_turned s.slot ≡ true → IsLong l s
long_turned l s h t = by s.slot refl t
  where
    by : (k : Slot) → s.slot ≡ k → is_turned k ≡ true → IsLong l s
    by slot.Loaded e t = λ f. length-section_bytes l f s (ap is_own e) (λ n. length_of_data l s h (ap is_whole e) n) h.fields
    by slot.Debug e t = long_debug l s h e
    by other e t = cc

-- ---- groups

-- a table or a group has data
with_data : (s : InputSection) → table_has_data s ≡ true → (is_rela s.slot || is_group s.slot) ≡ true → s.nobits ≡ false
with_data s h asked = not-true s.nobits (implied (is_rela s.slot || is_group s.slot) (not s.nobits) h asked)

pub long_group : (l : Layout) (s : InputSection) → Known l s → s.slot ≡ slot.Group → IsLong l s
long_group l s h e f =
    let n = with_data s h.filled (rw e refl) in
    let long = length_of_data l s h.holds (ap is_whole e) n in
    let words = eqb-true s.size (4 + 4 * length s.members) (implied (is_group s.slot) (s.size == 4 + 4 * length s.members) h.members (ap is_group e)) in
    ap length (section_bytes_group l f s e n) ∙ length-group_words s (omega arith) ∙ sym words

-- ---- tables of relocations

-- the table has an entry for each relocation of its target, which name symbols of the layout
pub record HasAllEntries (l : Layout) (f : File) (s : InputSection) : Type 0 where
  pub entries : s.size ≡ 24 * length (target_relocations f s)
  pub named : All (NamesSymbol l) (target_relocations f s)

-- if the section is one
abbrev pub TableHasAllEntries : Layout → File → InputSection → Type 0
TableHasAllEntries l f s = is_rela s.slot ≡ true → HasAllEntries l f s

pub long_tabled : (l : Layout) (f : File) (s : InputSection) → Known l s → is_rela s.slot ≡ true → HasAllEntries l f s → IsLong l (rela_with_target f s)
long_tabled l f s h e t g =
    let n = with_data s h.filled (rw e refl) in
    ap length (section_bytes_rela l g (rela_with_target f s) refl n) ∙ length-rela_bytes_of l (rela_with_target f s) ∙ sym t.entries

turned_named : (l : Layout) (s : InputSection) → All (NamesSymbol l) s.relocations → All (NamesSymbol l) (with_word_order s).relocations
unfolding with_word_order
turned_named l s h = by s.reversed
  where
    by : (b : Bool) → All (NamesSymbol l) (if b then reversed_section s else s).relocations
    by true = All-map (NamesSymbol l) (reversed_offset s.size) s.relocations h
    by false = h

turned_count : (s : InputSection) → length (with_word_order s).relocations ≡ length s.relocations
unfolding with_word_order
turned_count s = by s.reversed
  where
    by : (b : Bool) → length (if b then reversed_section s else s).relocations ≡ length s.relocations
    by true = length-map s.relocations (reversed_offset s.size)
    by false = refl

-- of the target, if it is there
record Entries (l : Layout) (size : ℕ) (rs : List InputRelocation) : Type 0 where
  many : size ≡ 24 * length rs
  named : All (NamesSymbol l) rs

target_entries : (l : Layout) (ss : List InputSection) (k size : ℕ) → All (Known l) ss → (o : Option InputSection) → slice_get ss k ≡ o → has_entries size o ≡ true → Entries l size (relocations_at o)
target_entries l ss k size h None is t = cc
target_entries l ss k size h (Some s) is t =
    let known = holds_at (Known l) ss k s is h in
    let many = eqb-true _ _ t in
    let reversed_section = turned_count s in
    let long = length-map (with_word_order s).relocations (counted_from (base_of s)) in
    record { many = omega arith; named = All-map (NamesSymbol l) (counted_from (base_of s)) (with_word_order s).relocations (turned_named l s known.holds.symbols) }

pub each_tabled : (l : Layout) → AllClausesHold l → EachIn l (TableHasAllEntries l)
each_tabled l h = λ i g m j f n k s o rela.
    let x = get_or (get_or l.groups i g).files j f in
    let y = get_or x.sections k s in
    let fits : table_fits x y ≡ true = All-from_list_all (table_fits x) x.sections (All-from_list_all file_tables_fit (get_or l.groups i g).files (h.partial.tables i g m) j f n) k s o in
    let entries = target_entries l x.sections y.target y.size (each_known l h i g m j f n) (slice_get x.sections y.target) refl (implied (is_rela y.slot) (has_entries y.size (slice_get x.sections y.target)) fits rela) in
    record { entries = entries.many; named = entries.named }
