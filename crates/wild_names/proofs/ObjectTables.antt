-- The image of a relocatable object has its tables of relocations and its groups.
use Rattle.wild_names.proofs.Common.{◌≡◌, ℕ, ◌+◌, ◌*◌, ◌<◌, ◌≤◌, ◌⊎◌, inl, inr, ◌==◌, Bool, true, false, not, List, [], ◌++◌, length, map, take, All, refl, ap, ◌∙◌, arith, subst, Contains, Option, Some, None, option_map, if◌then◌else◌, ◌&&◌, ◌||◌, slice_get, eqb-true, ne_eqb, length-map, All-contains, slice_get-map, slice_get_within, word, HasBytesAt, spell, HasBytesAt-inner, HasBytesAt-front, HasBytesAt-after, InputSection, File, Group, Layout, is_partial_link, base_of, placed_file, flat_map_from, group_errors, errors, bytes, IsLaidOut, laid_out}
use Rattle.std.specs.List.{flat_map}
use Rattle.std.proofs.lemmas.Bool.{not-true, or_cases}
use Rattle.std.proofs.lemmas.List.{length-take-le}
use Rattle.wild_words.proofs.ListLemmas.{All-from_list_all}
use Rattle.wild_words.proofs.WordLemmas.{length-word}
use Rattle.wild_records.specs.Relocations.{rela_size, rela_fields}
use Rattle.wild_records.specs.declared.relocations.Rela.{Rela}
use Rattle.wild_types.specs.declared.input.Slot.{Slot}
use Rattle.wild_types.specs.declared.input.Slot.TheVariants as slot
use Rattle.wild_types.specs.declared.input.InputRelocation.{InputRelocation}
use Rattle.wild_types.specs.HeaderOnly.{KeepsAll}
use Rattle.wild_types.specs.Lookups.{has_range_bytes, is_filled, is_header_only_part}
use Rattle.wild_types.proofs.LookupLemmas.{not_hollow_part}
use Rattle.wild_placement.specs.ReversedWords.{reversed_section, reversed_offset, with_word_order}
use Rattle.wild_placement.specs.PlacedSections.{counted_from, relocations_at, target_relocations, rela_with_target, placed_by, placed_section, placed_sections}
use Rattle.wild_plan_rules.specs.WellFormed.{first_clause}
use Rattle.wild_plan_rules.specs.Contents.{each_in, each_section, length_fits}
use Rattle.wild_plan_rules.specs.Partial.{has_entries, table_fits, file_tables_fit, tables_fit, group_fits_members, table_has_data}
use Rattle.wild_table_formats.proofs.EntryLemmas.{length-rela}
use Rattle.wild_layout.specs.Partial.{rela_of, rela_bytes_of, group_words}
use Rattle.wild_layout.specs.Sites.{section_bytes}
use Rattle.wild_layout.specs.Faults.{clause_errors, part_errors}
use Rattle.wild_layout.specs.Geometry.{LayoutsAreLaidOut}
use Rattle.wild_layout.proofs.FaultLemmas.{clause_holds, first_empty, rest_empty}
use Rattle.wild_layout.proofs.PartialLemmas.{section_bytes_rela, section_bytes_group}
use Rattle.wild_geometry.specs.PlacedSections.{IsPlacedSection, Own}
use Rattle.wild_geometry.proofs.PlacedSectionLemmas.{AllClausesHold, AllClausesHold-from_clauses}
use Rattle.wild_geometry.proofs.PlacedInputs.{placed_file_of, placed_section_in}
use Rattle.wild_loaded.specs.Laws.{OwnersAreKnown}
use Rattle.wild_loaded.proofs.SectionBytesInMemory.{section_listed}
use Rattle.wild_names.proofs.BesideLemmas.{HasBytesAt-record}
use Rattle.wild_names.specs.ObjectTables.{IsSectionOf, place_in, entry_of, HasTable, HasGroup, ObjectTablesAreWritten}

-- ---- what the clauses say

clauses_hold : (l : Layout) → errors l ≡ [] → AllClausesHold l
unfolding errors
clauses_hold l none =
    let clauses = clause_errors (first_clause l) in
    let shares = flat_map_from (part_errors l) 0 l.parts in
    let front = first_empty (clauses ++ shares) (flat_map_from (group_errors l) 0 l.groups) none in
    AllClausesHold-from_clauses l (clause_holds (first_clause l) (first_empty clauses shares front)) (rest_empty clauses shares front)

-- what each section passes
tested : (l : Layout) (f : File) (s : InputSection) (test : InputSection → Bool) → All (λ (g : Group). each_section test g ≡ true) l.groups → IsSectionOf l f s → test s ≡ true
tested l f s test h k =
    let group = All-contains (λ (g : Group). each_section test g ≡ true) l.groups k.group h k.grouped in
    let file = All-contains (λ (x : File). each_in test x ≡ true) k.group.files f (All-from_list_all (each_in test) k.group.files group) k.filed in
    All-contains (λ (x : InputSection). test x ≡ true) f.sections s (All-from_list_all test f.sections file) k.listed

-- a table has an entry for each relocation of its target
table_tested : (l : Layout) (f : File) (s : InputSection) → All (λ (g : Group). tables_fit g ≡ true) l.groups → IsSectionOf l f s → table_fits f s ≡ true
table_tested l f s h k =
    let group = All-contains (λ (g : Group). tables_fit g ≡ true) l.groups k.group h k.grouped in
    let file = All-contains (λ (x : File). file_tables_fit x ≡ true) k.group.files f (All-from_list_all file_tables_fit k.group.files group) k.filed in
    All-contains (λ (x : InputSection). table_fits f x ≡ true) f.sections s (All-from_list_all (table_fits f) f.sections file) k.listed

-- ---- sections in the image

-- a section as it stands
unframed_content : (l : Layout) (f : File) (s t : InputSection) → IsSectionOf l f s → ((at : ℕ) → placed_section l f at s ≡ t) → IsPlacedSection l t
unframed_content l f s t k is =
    let a = placed_file_of l k.group f k.filed in
    let c = placed_section_in l f a.0 f.sections s k.listed in
    record { group = k.group; grouped = k.grouped; file = placed_file l a.0 f; filed = a.1; owner = placed_file l a.0 f; listed = Own refl (subst (λ (x : InputSection). Contains (placed_sections l f a.0 f.sections) x) (is c.0) c.1) }

both_so : (a b : Bool) → a ≡ true → b ≡ false → (a && not b) ≡ true
both_so a b p q = rw (p, q) refl

-- of a relocatable object all is written
given_filled : (l : Layout) (t : InputSection) → KeepsAll l → has_range_bytes l t ≡ true → is_filled l t ≡ true
given_filled l t keeps given = both_so (has_range_bytes l t) (is_header_only_part l t.part) given (not_hollow_part l t.part keeps)

stood_stands : (l : Layout) (t : InputSection) (bs : List ℕ) → OwnersAreKnown → is_partial_link l.kind ≡ true → IsLaidOut l → IsPlacedSection l t → has_range_bytes l t ≡ true → ((o : File) → section_bytes l o t ≡ bs) → HasBytesAt (bytes l) (place_in l t) bs
stood_stands l t bs law partial laid k given is =
    let piece = section_listed l t k (given_filled l t (laid.kept partial) given) in
    subst (λ (xs : List ℕ). HasBytesAt (bytes l) (place_in l t) xs) (is k.owner) ((law l laid).owned (record { at = place_in l t; bytes = section_bytes l k.owner t }) piece)

-- ---- tables of relocations

placed_rela_section : (l : Layout) (f : File) (at : ℕ) (s : InputSection) → s.slot ≡ slot.Rela → placed_section l f at s ≡ rela_with_target f s
unfolding placed_section
placed_rela_section l f at s e = ap (λ (k : Slot). placed_by k l f at s) e

turned_count : (s : InputSection) → length (with_word_order s).relocations ≡ length s.relocations
unfolding with_word_order
turned_count s = by s.reversed
  where
    by : (b : Bool) → length (if b then reversed_section s else s).relocations ≡ length s.relocations
    by true = length-map s.relocations (reversed_offset s.size)
    by false = refl

abbrev spelled : Rela → List ℕ
spelled r = spell (rela_fields r)

-- the entries of a table, by those of its target
entry_listed : (l : Layout) (f : File) (s t : InputSection) (k : ℕ) (r : InputRelocation) → slice_get f.sections s.target ≡ Some t → slice_get (with_word_order t).relocations k ≡ Some r → slice_get (map (rela_of l) (target_relocations f s)) k ≡ Some (entry_of l t r)
entry_listed l f s t k r target there =
    let rs : target_relocations f s ≡ map (counted_from (base_of t)) (with_word_order t).relocations = ap relocations_at target in
    let moved : slice_get (target_relocations f s) k ≡ Some (counted_from (base_of t) r) = ap (λ (qs : List InputRelocation). slice_get qs k) rs ∙ slice_get-map (counted_from (base_of t)) (with_word_order t).relocations k ∙ ap (option_map (counted_from (base_of t))) there in
    slice_get-map (rela_of l) (target_relocations f s) k ∙ ap (option_map (rela_of l)) moved

entry_stands : (l : Layout) (f : File) (s t : InputSection) → OwnersAreKnown → is_partial_link l.kind ≡ true → IsLaidOut l → IsSectionOf l f s → s.slot ≡ slot.Rela → s.nobits ≡ false → slice_get f.sections s.target ≡ Some t → s.size ≡ rela_size * length t.relocations → (k : ℕ) (r : InputRelocation) → slice_get (with_word_order t).relocations k ≡ Some r → HasBytesAt (bytes l) (place_in l s + rela_size * k) (spelled (entry_of l t r))
unfolding rela_bytes_of
entry_stands l f s t law partial laid k e bits target whole i r there =
    let es = map (rela_of l) (target_relocations f s) in
    let within = slice_get_within (with_word_order t).relocations i r there in
    let many = turned_count t in
    let some : (s.size == 0) ≡ false = ne_eqb s.size 0 (λ z. omega (arith, z, whole, many, within)) in
    let given : has_range_bytes l (rela_with_target f s) ≡ true = rw (bits, some) refl in
    let all : HasBytesAt (bytes l) (place_in l s) (flat_map spelled es) = stood_stands l (rela_with_target f s) (rela_bytes_of l (rela_with_target f s)) law partial laid (unframed_content l f s (rela_with_target f s) k (λ at. placed_rela_section l f at s e)) given (λ o. section_bytes_rela l o (rela_with_target f s) refl bits) in
    HasBytesAt-inner (bytes l) (flat_map spelled es) (spelled (entry_of l t r)) (place_in l s) (24 * i) all (HasBytesAt-record spelled 24 length-rela es i (entry_of l t r) (entry_listed l f s t i r target there))

has_symtab : OwnersAreKnown → LayoutsAreLaidOut → (l : Layout) (f : File) (s : InputSection) → is_partial_link l.kind ≡ true → errors l ≡ [] → IsSectionOf l f s → s.slot ≡ slot.Rela → HasTable l f s
has_symtab law out l f s partial none k e =
    let h = clauses_hold l none in
    let fits : has_entries s.size (slice_get f.sections s.target) ≡ true = rw e at (table_tested l f s h.partial.tables k) in
    let filled : not s.nobits ≡ true = rw e at (tested l f s table_has_data h.partial.filled k) in
    by (not-true s.nobits filled) (slice_get f.sections s.target) refl fits
  where
    by : s.nobits ≡ false → (o : Option InputSection) → slice_get f.sections s.target ≡ o → has_entries s.size o ≡ true → HasTable l f s
    by bits None is h = cc
    by bits (Some t) is h =
        let whole = eqb-true s.size (rela_size * length t.relocations) h in
        record { target = t; listed = is; whole = whole; each = λ i r there. entry_stands l f s t law partial (laid_out out l none) k e bits is whole i r there }

-- ---- groups

placed_group_section : (l : Layout) (f : File) (at : ℕ) (s : InputSection) → s.slot ≡ slot.Group → placed_section l f at s ≡ s
unfolding placed_section
placed_group_section l f at s e = ap (λ (k : Slot). placed_by k l f at s) e

group_stands : (l : Layout) (f : File) (s : InputSection) → OwnersAreKnown → is_partial_link l.kind ≡ true → IsLaidOut l → IsSectionOf l f s → s.slot ≡ slot.Group → s.nobits ≡ false → length s.bytes ≡ s.size → s.size ≡ 4 + 4 * length s.members → HasBytesAt (bytes l) (place_in l s) (take 4 s.bytes ++ flat_map (word 4) s.members)
unfolding group_words
group_stands l f s law partial laid k e bits long whole =
    let some : (length s.bytes == 0) ≡ false = ne_eqb (length s.bytes) 0 (λ z. omega (arith, z, long, whole)) in
    let given : has_range_bytes l s ≡ true = rw (e, bits, some) refl in
    stood_stands l s (group_words s) law partial laid (unframed_content l f s s k (λ at. placed_group_section l f at s e)) given (λ o. section_bytes_group l o s e bits)

has_group : OwnersAreKnown → LayoutsAreLaidOut → (l : Layout) (f : File) (s : InputSection) → is_partial_link l.kind ≡ true → errors l ≡ [] → IsSectionOf l f s → s.slot ≡ slot.Group → HasGroup l s
has_group law out l f s partial none k e =
    let h = clauses_hold l none in
    let laid = laid_out out l none in
    let fits : (s.size == 4 + 4 * length s.members) ≡ true = rw e at (tested l f s group_fits_members h.partial.members k) in
    let whole = eqb-true s.size (4 + 4 * length s.members) fits in
    let filled : not s.nobits ≡ true = rw e at (tested l f s table_has_data h.partial.filled k) in
    let bits = not-true s.nobits filled in
    let lengths : ((length s.bytes == s.size) || false) ≡ true = rw (e, bits) at (tested l f s length_fits h.inputs.lengths k) in
    let long : length s.bytes ≡ s.size = elim (or_cases (length s.bytes == s.size) false lengths) [ inl a ↦ eqb-true (length s.bytes) s.size a | inr b ↦ cc ] in
    let all = group_stands l f s law partial laid k e bits long whole in
    let four : length (take 4 s.bytes) ≡ 4 = length-take-le 4 s.bytes (omega (arith, long, whole)) in
    let members = HasBytesAt-after (bytes l) (take 4 s.bytes) (flat_map (word 4) s.members) (place_in l s) 4 four all in
    record {
      flags = HasBytesAt-front (bytes l) (take 4 s.bytes) (flat_map (word 4) s.members) (place_in l s) all;
      whole = whole;
      each = λ i m there. HasBytesAt-inner (bytes l) (flat_map (word 4) s.members) (word 4 m) (place_in l s + 4) (4 * i) members (HasBytesAt-record (word 4) 4 (λ x. length-word 4 x) s.members i m there);
    }

pub object_tables_stand : OwnersAreKnown → LayoutsAreLaidOut → ObjectTablesAreWritten
object_tables_stand law out = record {
  tables = λ l f s partial none k e. has_symtab law out l f s partial none k e;
  groups = λ l f s partial none k e. has_group law out l f s partial none k e;
}
